use Rattle.lalrpop_norm_tyinfer.proofs.SearchLemmas.{among_at, equation_among}
use Rattle.lalrpop_norm_tyinfer.proofs.search.open_equation.Goals as goal

pub check_equation-requires-clause-of_grammar : goal.check_equation-requires-clause-of_grammar
check_equation-requires-clause-of_grammar c =
    equation_among c.args.given.names.now c.args.given.equations.now c.equation-item.result c.requires.of_grammar
    (among_at c.args.given.equations.now c.loop-equation.equation-index c.equation-item.result c.loop-equation-test.true
    c.equation-item.is)

pub returns-in-Some-clause-found : goal.returns-in-Some-clause-found
returns-in-Some-clause-found c = record {
  of_grammar = equation_among c.args.given.names.now c.args.given.equations.now c.equation-item.result c.requires.of_grammar
      (among_at c.args.given.equations.now c.loop-equation.equation-index c.equation-item.result c.loop-equation-test.true
      c.equation-item.is);
  gives = rw c.in-Some.is at c.in_ok-ty.ensures.found;
}
