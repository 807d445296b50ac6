use Rattle.std.proofs.Common.{◌∙◌, sym}
use Rattle.std.proofs.lemmas.Bool.{false≢true}
use Rattle.lalrpop_lr1_build.proofs.EntryLemmas.{finished_skipped, finished_taken}
use Rattle.lalrpop_lr1_build.proofs.collapse.joined_states.reductions_of.Goals.{else-can_reduce, then-can_reduce+in_ok-try_clone+in_ok-push}
use Rattle.lalrpop_lr1_build.proofs.collapse.joined_states.reductions_of.Goals as goal

pub loop-item-preserved : goal.loop-item-preserved
loop-item-preserved c =
    let items = c.args.items.now in
    let i = c.loop-item.item-index in
    let item = c.item-item.result in
    elim c.if-can_reduce.branch [
      | then-can_reduce+in_ok-try_clone+in_ok-push w ↦
          w.reductions-is ∙ finished_taken items i item c.loop-item-test.true c.item-item.is (c.can_reduce.ensures.0 w.if-can_reduce.true)
          c.loop-item.reductions w.push.new.self w.in_ok-try_clone.field-0 c.loop-item.invariant w.in_ok-try_clone.ensures
          w.in_ok-push.ensures.ok
      | else-can_reduce w ↦
          w.reductions-is ∙ finished_skipped items i item c.loop-item-test.true c.item-item.is
          (λ e. false≢true (sym w.if-can_reduce.false ∙ c.can_reduce.ensures.1 e)) c.loop-item.reductions c.loop-item.invariant
    ]
