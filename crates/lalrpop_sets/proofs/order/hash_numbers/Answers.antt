use Rattle.std.proofs.Common.{◌∙◌, sym, ap}
use Rattle.lalrpop_sets.specs.RangeWalks.{numbers_to_come}
use Rattle.lalrpop_sets.proofs.OrderLemmas.{feeds, feeds_all, feeds_more}
use Rattle.lalrpop_sets.proofs.order.hash_numbers.Goals as goal

pub loop-number-init : goal.loop-number-init
loop-number-init g c =
    feeds_all g.H.Hasher.write c.args.state.now c.write_usize.new.self c.count.result (numbers_to_come c.args.walk) c.count.ensures
    c.write_usize.ensures

pub loop-number-preserved : goal.loop-number-preserved
loop-number-preserved g c =
    feeds_more g.H.Hasher.write c.loop-number.state c.write_usize-in-Some.new.self (numbers_to_come c.loop-number.left) _ c.in-Some.number
    c.in-Some.ensures c.write_usize-in-Some.ensures
    ∙ c.loop-number.invariant

pub returns : goal.returns
returns g c = sym (ap (λ ns. feeds g.H.Hasher.write ns c.loop-number.state) c.in_default.ensures.0) ∙ c.loop-number.invariant
