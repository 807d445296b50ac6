use Rattle.std.proofs.Common.{sym, ◌∙◌}
use Rattle.lalrpop_sets.proofs.RangeEditLemmas.{nothing_gone}
use Rattle.lalrpop_sets.proofs.TokenSetLemmas.{took_end, took_free}
use Rattle.lalrpop_sets.proofs.token_set.take_end.Goals as goal

pub returns-then-take_out-clause-same : goal.returns-then-take_out-clause-same
returns-then-take_out-clause-same c =
    took_end c.in_ok-end.end c.args.ranges.now.items c.take_out.new.ranges.items c.take_out.result c.take_out.ensures.was c.if-take_out.true
    c.take_out.ensures.gone

pub returns-then-take_out-clause-free : goal.returns-then-take_out-clause-free
returns-then-take_out-clause-free c =
    took_free c.in_ok-end.end c.args.ranges.now.items c.take_out.new.ranges.items c.take_out.ensures.gone

pub returns-clause-same : goal.returns-clause-same
returns-clause-same c k =
    c.take_out.ensures.gone k
    ∙ sym (nothing_gone c.in_ok-end.end c.args.ranges.now.items k (sym c.take_out.ensures.was ∙ c.if-take_out.false))
