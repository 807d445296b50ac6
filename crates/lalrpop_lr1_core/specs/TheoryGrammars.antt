-- The productions of a grammar, as they stand in it and as the theory of tables sees them: for all that builds, tests or runs states.
use Rattle.std.specs.Prelude.{◌≡◌, List, map, flat_map}
use Rattle.std.specs.declared.cmp.Ordering.TheVariants.{Less}
use Rattle.std.specs.Cmp.Lexicographic.{slice_cmp}
use Rattle.std.specs.Ordering.{nat_cmp}
use Rattle.lalrpop_grammar_symbols.specs.Symbols.{Text}
use Rattle.lalrpop_grammar_repr.specs.declared.grammar.Grammar.{Grammar}
use Rattle.lalrpop_grammar_repr.specs.declared.production.Production.{Production}
use Rattle.lalrpop_lr1_theory.specs.Productions as theory
use Rattle.lalrpop_lr1_core.specs.Views.{production_view}

-- the productions of the grammar
abbrev pub productions_of_grammar : Grammar → List Production
productions_of_grammar g = flat_map (λ e. e.1.productions) g.nonterminals

-- what the theory sees of the grammar's productions, as a list
abbrev pub theory_grammar : Grammar → List theory.Production
theory_grammar g = map production_view (productions_of_grammar g)

-- names in order
abbrev pub NameBefore : Text → Text → Type 0
NameBefore a b = slice_cmp nat_cmp a b ≡ Less
