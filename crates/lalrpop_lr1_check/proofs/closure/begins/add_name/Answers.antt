use Rattle.std.proofs.Common.{◌<◌, arith, length, set, subst, sym}
use Rattle.lalrpop_lr1_least_trees.specs.Searches.{number_lists}
use Rattle.lalrpop_lr1_least_trees.proofs.UseLemmas.{view_long, view_pushed}
use Rattle.lalrpop_lr1_check.specs.BeginClauses.{begin_to}
use Rattle.lalrpop_lr1_check.specs.BeginLists.{AddsBegins}
use Rattle.lalrpop_lr1_check.proofs.ListedBeginLemmas.{adds_name}
use Rattle.lalrpop_lr1_check.proofs.closure.begins.add_name.Goals as goal

pub returns-in_ok-push-in-Some : goal.returns-in_ok-push-in-Some
returns-in_ok-push-in-Some c =
    let lists = c.args.begins.now.items in
    let from = c.args.from in
    let inside : from < length (number_lists lists) = omega (arith, c.requires, view_long lists) in
    subst (λ o. AddsBegins (begin_to from o) (number_lists lists) (number_lists (set lists from c.push.new.self)))
    (sym c.in-Some.is)
    (adds_name from c.in-Some.name (number_lists lists) (number_lists (set lists from c.push.new.self)) inside
    (view_pushed lists from c.index_mut.result.now c.push.new.self c.in-Some.name c.requires c.index_mut.ensures.value
    c.in_ok-push-in-Some.ensures.items))
