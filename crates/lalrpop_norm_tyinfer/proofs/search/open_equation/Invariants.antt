use Rattle.std.proofs.Common.{drop, map}
use Rattle.lalrpop_norm_tyinfer.specs.Equations.{AllAgree}
use Rattle.lalrpop_norm_tyinfer.specs.ProgramViews.{equation_view, names_view, rule_types}
use Rattle.lalrpop_norm_tyinfer.proofs.search.open_equation.Given as goal

abbrev pub invariant-loop-equation : goal.invariant-loop-equation
invariant-loop-equation l =
    AllAgree (names_view l.given.names.now) (rule_types l.table) (map equation_view (drop l.equation-index l.given.equations.now))
    → AllAgree (names_view l.given.names.now) (rule_types l.table) (map equation_view l.given.equations.now)
