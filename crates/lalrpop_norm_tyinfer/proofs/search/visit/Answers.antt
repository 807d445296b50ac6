use Rattle.lalrpop_norm_tyinfer.proofs.SearchLemmas.{among_at, equation_among}
use Rattle.lalrpop_norm_tyinfer.proofs.search.visit.Goals as goal

pub settle-requires-clause-of_grammar : goal.settle-requires-clause-of_grammar
settle-requires-clause-of_grammar c =
    equation_among c.args.given.names.now c.args.given.equations.now c.in-Some-get.equation.now c.requires.of_grammar
    (among_at c.args.given.equations.now c.args.number c.in-Some-get.equation.now c.in-Some-get.ensures.lookup.3.0
    c.in-Some-get.ensures.lookup.1)
