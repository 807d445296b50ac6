use Rattle.std.proofs.Common.{◌≡◌, ◌∙◌, List, Some, ap, arith, get_or, length, slice_get, subst, sym, ℕ}
use Rattle.std.specs.Borrow.{Bor}
use Rattle.lalrpop_grammar_repr.specs.declared.production.Production.{Production}
use Rattle.lalrpop_lr1_theory.proofs.StepLemmas.{some_same}
use Rattle.lalrpop_lr1_check_lookaheads.proofs.GainLemmas.{get_at}
use Rattle.lalrpop_lr1_check_lookaheads.proofs.PairLemmas.{ArePaired, paired_more, paired_none}
use Rattle.lalrpop_lane.proofs.carried.put_reductions_before.Goals as goal

abbrev Fits : List (List ℕ) → ℕ → List ℕ × Bor Production → List ℕ × Bor Production → Type 0
Fits sets k r q = (set : List ℕ) → slice_get sets k ≡ Some set → q ≡ (set, r.1)

pub loop-reduction-init : goal.loop-reduction-init
loop-reduction-init c =
    subst (λ (l : List (List ℕ × Bor Production)). ArePaired (Fits c.args.sets.now) c.args.reductions.now l 0) (sym c.new-new.ensures)
    (paired_none (Fits c.args.sets.now) c.args.reductions.now)

pub bounds-sets-place : goal.bounds-sets-place
bounds-sets-place c =
    let count = c.loop-reduction.invariant.count in
    omega (arith, count, c.len-place.ensures, c.requires, c.loop-reduction-test.true)

pub loop-reduction-preserved : goal.loop-reduction-preserved
loop-reduction-preserved c =
    let sets = c.args.sets.now in
    let n = c.loop-reduction.reduction-index in
    let r = c.reduction-item.result in
    let count = c.loop-reduction.invariant.count in
    let place : c.len-place.result ≡ n = omega (arith, count, c.len-place.ensures) in
    let here : slice_get sets n ≡ Some c.index-sets-place.result =
    get_at sets n c.index-sets-place.result (omega (arith, c.requires, c.loop-reduction-test.true))
    (c.index-sets-place.is ∙ ap (λ k. get_or sets k c.index-sets-place.result) place) in
    paired_more (Fits sets) c.args.reductions.now c.loop-reduction.new c.push.new.self n r (c.in_ok-try_clone.field-0, r.1)
    c.loop-reduction.invariant (get_at c.args.reductions.now n r c.loop-reduction-test.true c.reduction-item.is) c.in_ok-push.ensures.ok
    (λ set e. ap (λ (z : List ℕ). (z, r.1)) (c.in_ok-try_clone.ensures ∙ some_same c.index-sets-place.result set (sym here ∙ e)))

pub returns : goal.returns
returns c =
    let done = c.loop-reduction.invariant in
    let count : length c.loop-reduction.new ≡ length c.args.reductions.now =
    omega (arith, done.count, done.within, c.loop-reduction-test.false) in
    record { count = count; each = λ k r q set e f h. done.each k r q e f set h }
