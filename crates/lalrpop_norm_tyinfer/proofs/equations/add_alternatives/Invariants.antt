use Rattle.std.proofs.Common.{◌≡◌, ◌++◌, drop, map}
use Rattle.lalrpop_grammar.specs.Views.{alternative_view, nonterminal_view}
use Rattle.lalrpop_norm_tyinfer.specs.Equations.{equations_of_alternatives}
use Rattle.lalrpop_norm_tyinfer.specs.ProgramViews.{equation_view}
use Rattle.lalrpop_norm_tyinfer.proofs.equations.add_alternatives.Given as goal

abbrev pub invariant-loop-alternative : goal.invariant-loop-alternative
invariant-loop-alternative l =
    map equation_view l.made.items
    ++ equations_of_alternatives (nonterminal_view l.rule) (map alternative_view (drop l.alternative-index l.alternative-items))
    ≡ map equation_view l.fn.made.items
    ++ equations_of_alternatives (nonterminal_view l.rule) (map alternative_view l.alternative-items)
