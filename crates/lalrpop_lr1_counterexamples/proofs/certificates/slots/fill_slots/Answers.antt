use Rattle.std.proofs.Common.{◌≡◌, arith, refl, true, false}
use Rattle.std.proofs.lemmas.Option.{slice_get_read}
use Rattle.lalrpop_lr1_counterexamples.proofs.SlotLemmas.{filling_none, filling_other, filling_set}
use Rattle.lalrpop_lr1_counterexamples.proofs.certificates.slots.fill_slots.Goals as goal
use Rattle.lalrpop_lr1_counterexamples.proofs.certificates.slots.fill_slots.Goals.{then-is_same_token+in_ok-certificate, else-is_same_token}

pub loop-number-init : goal.loop-number-init
loop-number-init c = filling_none c.args.shown.now c.args.tokens.now c.args.token c.args.slots.now.items c.requires.slots

pub loop-number-preserved : goal.loop-number-preserved
loop-number-preserved c =
    let it = c.args.shown.now in
    let tokens = c.args.tokens.now in
    let old = c.loop-number.slots.items in
    let n = c.loop-number.number in
    let other = c.index-tokens-number.result in
    elim c.if-is_same_token.branch [
      | then-is_same_token+in_ok-certificate w ↦
          rw w.slots-is (filling_set it tokens c.args.token c.args.slots.now.items old n c.loop-number.invariant w.fill_slot.new.slots.items
          w.in_ok-certificate.certificate w.fill_slot.ensures (omega (arith, c.loop-number-test.true, c.requires.tokens.count))
          w.in_ok-certificate.ensures)
      | else-is_same_token w ↦
          rw w.slots-is (filling_other it tokens c.args.token c.args.slots.now.items old n c.loop-number.invariant other
          (slice_get_read tokens _ n other refl c.loop-number-test.true c.index-tokens-number.is)
          (λ same. let yes : c.is_same_token.result ≡ true = c.is_same_token.ensures.1 same in
          let no : c.is_same_token.result ≡ false = w.if-is_same_token.false in let z : ⊥ = cc in z))
    ]

pub returns-clause-filled : goal.returns-clause-filled
returns-clause-filled c = λ i other within at same.
    c.loop-number.invariant.filled i other (omega (arith, within, c.loop-number-test.false)) at same
