-- What the laws say of names of keys: which grammars have what they rest on, and which names an expansion gets by them.
use Rattle.std.specs.Prelude.{ℕ, ◌≡◌, ◌≢◌, ◌<◌, ◌++◌, Bool, List, Option, replicate}
use Rattle.lalrpop_grammar_symbols.specs.Symbols.{Text, Closed}
use Rattle.lalrpop_grammar.specs.WrittenGrammar.{Grammar}
use Rattle.lalrpop_grammar_language.specs.Among.{Among}
use Rattle.lalrpop_grammar_language.specs.Enabled.{EnabledGrammar, EnabledRule}
use Rattle.lalrpop_grammar_language.specs.Expansion.{Nonterminal}
use Rattle.lalrpop_norm_theory.specs.Between.{grammar_between}
use Rattle.lalrpop_norm_theory.specs.Keys.{flat_key_text, IsNaming}
use Rattle.lalrpop_norm_theory.specs.Premises.{IsResolved}
use Rattle.lalrpop_norm_theory.specs.KeyRules.{IsMacroExpansion}
use Rattle.lalrpop_norm_theory.specs.LeveledGrammar.{leveled_grammar}
use Rattle.lalrpop_norm_theory.specs.LevelNames.{HasNoTildes}
use Rattle.lalrpop_norm_theory.specs.LevelLaws.{IsLevelable}
use Rattle.lalrpop_norm_macros.specs.KeyNames.{AreKeyNames, IsNameable}

-- the names of levels are such that keys can be named
abbrev pub LeveledGrammarsAreNameable : Type 0
LeveledGrammarsAreNameable =
    (finds : Text → Text → Option Bool) (g : Grammar) (f : Text → ℕ → Text) → IsLevelable finds g f → HasNoTildes g
    → IsNameable (grammar_between finds (leveled_grammar f g))

-- and so are names without tildes
abbrev pub PlainGrammarsAreNameable : Type 0
PlainGrammarsAreNameable =
    (finds : Text → Text → Option Bool) (g : Grammar) → IsResolved (grammar_between finds g) → HasNoTildes g
    → IsNameable (grammar_between finds g)

-- The prefix, one underscore or more, begins no name of a rule and no bare name that is mapped.
pub record LeavesPrefix (prefix : Text) (g : EnabledGrammar) : Type 0 where
  pub underscores : ℕ
  pub some : 0 < underscores
  pub prefix_is : prefix ≡ replicate underscores 95
  pub rules : (r : EnabledRule) (t : Text) → Among g.rules r → r.name ≢ prefix ++ t
  pub bares : (n t : Text) → Among g.bares n → n ≢ prefix ++ t

-- the names of levels leave the prefix, where those of rules do
abbrev pub LeveledGrammarsLeavePrefix : Type 0
LeveledGrammarsLeavePrefix =
    (finds : Text → Text → Option Bool) (g : Grammar) (f : Text → ℕ → Text) (prefix : Text) → IsLevelable finds g f
    → LeavesPrefix prefix (grammar_between finds g) → LeavesPrefix prefix (grammar_between finds (leveled_grammar f g))

-- the name of a nonterminal: a start has its rule's with the prefix, a key its own
abbrev pub nonterminal_name : Text → (Closed → Text) → Nonterminal → Text
nonterminal_name prefix f (Nonterminal.start n) = prefix ++ n
nonterminal_name prefix f (Nonterminal.closed x) = f x

-- where macros are expanded under the names of the keys, these name the expansion
abbrev pub KeyNamesNameExpansions : Type 0
KeyNamesNameExpansions =
    (g h : EnabledGrammar) (f : Closed → Text) (keys : List Closed) (prefix : Text) → AreKeyNames g keys f
    → IsMacroExpansion g h f keys → LeavesPrefix prefix g → IsNaming flat_key_text prefix g (nonterminal_name prefix f)
