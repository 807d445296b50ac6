use Rattle.std.proofs.Common.{arith, refl, subst, sym}
use Rattle.std.proofs.lemmas.Option.{slice_get_read}
use Rattle.lalrpop_lr1_counterexamples.specs.Slots.{AreLeastTokens, IsFilled}
use Rattle.lalrpop_lr1_counterexamples.proofs.SlotLemmas.{filled_more, filled_on}
use Rattle.lalrpop_lr1_counterexamples.proofs.certificates.slots.all_certificates.Goals as goal
use Rattle.lalrpop_lr1_counterexamples.proofs.certificates.slots.all_certificates.Goals.{then-not-is_filled+in_ok-fill_for_token, else-not-is_filled}

pub loop-number-preserved : goal.loop-number-preserved
loop-number-preserved c =
    let it = c.args.shown.now in
    let tokens = c.as_slice-tokens.result.now in
    let old = c.loop-number.slots.items in
    let n = c.loop-number.number in
    let token = c.index-tokens-number.result in
    elim c.if-not-is_filled.branch [
      | then-not-is_filled+in_ok-fill_for_token w ↦
          rw w.slots-is (filled_more it tokens old w.fill_for_token.new.slots.items n token c.loop-number.invariant
          (slice_get_read tokens _ n token refl c.loop-number-test.true c.index-tokens-number.is) w.in_ok-fill_for_token.ensures.slots
          w.in_ok-fill_for_token.ensures.stay w.in_ok-fill_for_token.ensures.filled)
      | else-not-is_filled w ↦
          rw w.slots-is (filled_on it old n c.loop-number.invariant
          (subst (λ slots. IsFilled slots n) c.as_slice.ensures.value (c.is_filled.ensures w.if-not-is_filled.false)))
    ]

pub filled_slots-requires : goal.filled_slots-requires
filled_slots-requires c = λ i within.
    let count = (subst (AreLeastTokens c.args.shown.now) (sym c.as_slice-tokens.ensures.value) c.in_ok-found.ensures).count in
    c.loop-number.invariant.filled i
    (omega (arith, within, count, c.loop-number.invariant.right.count, c.loop-number-test.false))
