-- Which nonterminals of an expansion are inlined.
use Rattle.std.specs.Prelude.{◌≡◌, ◌↔◌, true}
use Rattle.lalrpop_grammar_symbols.specs.Symbols.{Closed, Op}
use Rattle.lalrpop_grammar_language.specs.Enabled.{EnabledGrammar, EnabledRule, IsRule}
use Rattle.lalrpop_grammar_language.specs.Expansion.{Nonterminal, InExpansion}

-- Rules and macros that are marked `inline`, at each level and in each instance; `X*`, `X?`, groups and lookarounds.
abbrev pub IsInlined : EnabledGrammar → Nonterminal → Type 0
IsInlined g (Nonterminal.start n) = ⊥
IsInlined g (Nonterminal.closed (Closed.call n args level)) = (r : EnabledRule) × IsRule g n r × (r.inlined ≡ true)
IsInlined g (Nonterminal.closed (Closed.repeat Op.plus x)) = ⊥
IsInlined g (Nonterminal.closed (Closed.repeat Op.star x)) = Unit {0}
IsInlined g (Nonterminal.closed (Closed.repeat Op.question x)) = Unit {0}
IsInlined g (Nonterminal.closed (Closed.group xs)) = Unit {0}
IsInlined g (Nonterminal.closed Closed.lookahead) = Unit {0}
IsInlined g (Nonterminal.closed Closed.lookbehind) = Unit {0}
IsInlined g (Nonterminal.closed (Closed.terminal t)) = ⊥
IsInlined g (Nonterminal.closed (Closed.choose x)) = ⊥
IsInlined g (Nonterminal.closed (Closed.name m n x)) = ⊥
IsInlined g (Nonterminal.closed Closed.faulty) = ⊥

-- what a pass keeps of it: under the renaming the same nonterminals are inlined
abbrev pub SameInlined : EnabledGrammar → EnabledGrammar → (Nonterminal → Nonterminal) → Type 0
SameInlined before after to = (x : Nonterminal) → InExpansion before x → IsInlined before x ↔ IsInlined after (to x)
