use Rattle.lalrpop_lr1_build.proofs.RuleNumberLemmas.{tells_read}
use Rattle.lalrpop_lr1_build.proofs.rule_numbers.rule_numbers.Goals as goal

pub loop-place-preserved : goal.loop-place-preserved
loop-place-preserved c =
    tells_read c.args.places.now c.loop-place.place c.loop-place.number c.loop-place.numbers.items _ c.ending-number.result
    c.loop-place-test.true c.loop-place.invariant c.ending-number.ensures
