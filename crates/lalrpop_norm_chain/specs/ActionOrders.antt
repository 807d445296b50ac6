-- In which order the actions of a lowered grammar are numbered: first those of starts, then those of the other nonterminals in order of
-- first use, one nonterminal after the other.
use Rattle.std.specs.Prelude.{Bool, ◌&&◌, ◌++◌, List, filter, map}
use Rattle.lalrpop_grammar_symbols.specs.Symbols.{Text, Closed}
use Rattle.lalrpop_grammar_language.specs.Enabled.{EnabledGrammar, EnabledRule}
use Rattle.lalrpop_grammar_language.specs.Expansion.{Nonterminal}
use Rattle.lalrpop_grammar_language.specs.Starts.{has_none}
use Rattle.lalrpop_norm_theory.specs.Productions.{NamedProduction}
use Rattle.lalrpop_norm_theory.specs.UsedKeys.{AreKeysByUse, written_keys}
use Rattle.lalrpop_norm_lower.specs.NumberOrders.{AreNumberedAlong}

-- a public rule that is no macro has a start
abbrev pub is_started : EnabledRule → Bool
is_started r = r.public && has_none r.parameters

-- the names of those rules, as they are written
abbrev pub started_names : EnabledGrammar → List Text
started_names g = map (λ r. r.name) (filter is_started g.rules)

-- Productions are numbered one nonterminal after the other: the starts, as their rules are written, then the rules that are no macros, as
-- they are written, and then each other nonterminal where it is used first.
pub record IsActionOrder (g : EnabledGrammar) (name_of : Nonterminal → Text) (productions : List NamedProduction) : Type 0 where
  pub others : List Closed
  pub in_order : AreKeysByUse g others
  pub numbered : AreNumberedAlong
      (map (λ n. name_of (Nonterminal.start n)) (started_names g)
      ++ map (λ x. name_of (Nonterminal.closed x)) (written_keys g ++ others)) productions
