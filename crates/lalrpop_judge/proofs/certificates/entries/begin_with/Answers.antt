use Rattle.std.proofs.Common.{◌≡◌, true}
use Rattle.lalrpop_lr1_interpret.specs.TreeEntries.{tree_entry_view}
use Rattle.lalrpop_judge.proofs.EntryLemmas.{front_more, other_front}
use Rattle.lalrpop_judge.proofs.certificates.entries.begin_with.Goals as goal

pub returns-then-not-is_same_entry : goal.returns-then-not-is_same_entry
returns-then-not-is_same_entry c =
    let differ : tree_entry_view c.index-entries-place.result ≡ tree_entry_view c.index-front-place.result → ⊥ =
    λ e. let t = c.is_same_entry.ensures.1 e in let z : ⊥ = cc in z in (
      λ e. absurd (cc),
      λ e. absurd (other_front c.args.entries.now c.args.front.now c.loop-place.place c.index-entries-place.result
          c.index-front-place.result c.loop-place-test.true c.if-entries-front.false c.index-entries-place.is
          c.index-front-place.is differ e),
    )

pub loop-place-preserved : goal.loop-place-preserved
loop-place-preserved c =
    let t : c.is_same_entry.result ≡ true = cc in
    front_more c.args.entries.now c.args.front.now c.loop-place.place c.index-entries-place.result c.index-front-place.result
    c.loop-place-test.true c.if-entries-front.false c.index-entries-place.is c.index-front-place.is (c.is_same_entry.ensures.0 t)
    c.loop-place.invariant
