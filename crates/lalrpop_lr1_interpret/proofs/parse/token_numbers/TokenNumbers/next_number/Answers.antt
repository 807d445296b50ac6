use Rattle.std.proofs.Common.{arith, drop, get_or, subst}
use Rattle.std.proofs.lemmas.Option.{slice_get_within}
use Rattle.lalrpop_lr1_interpret.specs.Columns.{TellNumbers}
use Rattle.lalrpop_lr1_interpret.specs.Ends.{terminals_of}
use Rattle.lalrpop_lr1_theory.specs.Productions.{first}
use Rattle.lalrpop_lr1_interpret.proofs.ColumnLemmas.{next_read, next_there, none_there}
use Rattle.lalrpop_lr1_interpret.proofs.parse.token_numbers.TokenNumbers.next_number.Goals as goal

pub index-requires : goal.index-requires
index-requires c =
    let columns = c.in-ByColumn.columns.now.numbers.items in
    let places = c.in-ByColumn.places.now in
    let found = next_there c.args.table.now columns c.args.tokens.now places c.args.at
    (subst (λ n. TellNumbers n c.args.table.now c.args.tokens.now) c.in-ByColumn.is c.requires) (omega (arith, c.if-at-places.true)) in
    omega (
      arith,
      slice_get_within columns (get_or places c.args.at 0) found.column found.there,
      c.in-ByColumn.columns.now.numbers.ok.0,
    )

pub returns-then-at-places : goal.returns-then-at-places
returns-then-at-places c =
    let columns = c.in-ByColumn.columns.now.numbers.items in
    let places = c.in-ByColumn.places.now in
    next_read c.args.table.now columns (get_or places c.args.at 0) (first (drop c.args.at (terminals_of c.args.tokens.now)))
    c.index.result.now
    (next_there c.args.table.now columns c.args.tokens.now places c.args.at
    (subst (λ n. TellNumbers n c.args.table.now c.args.tokens.now) c.in-ByColumn.is c.requires) (omega (arith, c.if-at-places.true)))
    c.index.ensures

pub returns-else-at-places : goal.returns-else-at-places
returns-else-at-places c =
    none_there c.args.table.now c.in-ByColumn.columns.now.numbers.items c.args.tokens.now c.in-ByColumn.places.now c.args.at
    (subst (λ n. TellNumbers n c.args.table.now c.args.tokens.now) c.in-ByColumn.is c.requires) (omega (arith, c.if-at-places.false))
