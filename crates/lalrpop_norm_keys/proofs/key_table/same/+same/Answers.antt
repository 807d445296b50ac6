use Rattle.std.proofs.Common.{◌≡◌, [], map, drop, ap}
use Rattle.std.proofs.lemmas.List.{drop_all}
use Rattle.lalrpop_grammar_rules.specs.Views.{closed_view}
use Rattle.lalrpop_norm_keys.proofs.SameLemmas.{ended_test}
use Rattle.lalrpop_norm_keys.proofs.key_table.same.+same.Goals as goal

pub same_symbols-returns : goal.same_symbols-returns
same_symbols-returns t c =
    let xs = c.args.xs.now in
    let i = c.loop-x.x-index in
    let nothing : drop i xs ≡ [] = drop_all i xs c.loop-x-test.false in
    ended_test closed_view (map closed_view (drop i xs)) c.loop-x.others.now c.is_empty.result (ap (map closed_view) nothing)
    c.loop-x.invariant c.is_empty.ensures
