-- Whether a start leads to its rule and to nothing else: for the test of starts.
use Rattle.std.specs.Prelude.{◌≡◌, Bool, true, false, List, [], ◌∷◌}
use Rattle.std.specs.List.{list_all}
use Rattle.lalrpop_grammar_symbols.specs.Symbols.{Text}
use Rattle.lalrpop_grammar_symbols.specs.declared.names.NonterminalString.{NonterminalString}
use Rattle.lalrpop_grammar_repr.specs.Productions.{IsAlone, productions_of}
use Rattle.lalrpop_grammar_repr.specs.declared.grammar.Grammar.{Grammar}
use Rattle.lalrpop_grammar_repr.specs.declared.production.Production.{Production}
use Rattle.lalrpop_grammar_repr.specs.declared.production.Symbol.{Symbol}
use Rattle.lalrpop_lr1_inline.specs.InliningSteps.{is_place}

-- the rule stands alone on the right side
abbrev pub is_rule_alone : Text → List Symbol → Bool
is_rule_alone rule [] = false
is_rule_alone rule (s ∷ []) = is_place rule s
is_rule_alone rule (s ∷ t ∷ side) = false

-- there are productions, and on the right side of each the rule stands alone
abbrev pub leads_to_rule : Text → List Production → Bool
leads_to_rule rule [] = false
leads_to_rule rule (p ∷ ps) = list_all (λ q. is_rule_alone rule q.symbols) (p ∷ ps)

-- The start stands on no right side after inlining, and before it leads to the rule alone.
pub record IsStartOf (rule : Text) (before after : Grammar) (name : NonterminalString) : Type 0 where
  pub alone : IsAlone name after.nonterminals
  pub leads : leads_to_rule rule (productions_of before.nonterminals name) ≡ true
