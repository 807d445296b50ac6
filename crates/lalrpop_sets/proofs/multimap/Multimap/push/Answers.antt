use Rattle.std.proofs.Common.{rules}
use Rattle.std.specs.BTreeMap.{is_at}
use Rattle.lalrpop_sets.proofs.EntryLemmas.{map_err, same_eq, same_put_eq}
use Rattle.lalrpop_sets.proofs.AscendingListLemmas.{if_err}
use Rattle.lalrpop_sets.proofs.multimap.Multimap.push.Goals as goal

pub returns-in-Some-clause-kept : goal.returns-in-Some-clause-kept
returns-in-Some-clause-kept g c = map_err c.push.result _ _ (λ e same.
    same_put_eq g.C.Collection.same g.met.C.Collection.same_self (is_at (g.K.Ord.cmp c.args.key)) c.args.self.now _
    c.in-Some.content.now c.push.new.self (search rules) same (search rules)) c.push.ensures.kept

pub returns-in_err-push-clause-kept : goal.returns-in_err-push-clause-kept
returns-in_err-push-clause-kept g c =
    if_err _ _ (λ _. same_eq g.C.Collection.same g.met.C.Collection.same_self c.args.self.now _ (search rules))

pub returns-in_err-insert-clause-kept : goal.returns-in_err-insert-clause-kept
returns-in_err-insert-clause-kept g c =
    if_err _ _ (λ _. same_eq g.C.Collection.same g.met.C.Collection.same_self c.args.self.now _ (search rules))
