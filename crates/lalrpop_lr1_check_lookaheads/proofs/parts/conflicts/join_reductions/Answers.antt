use Rattle.std.proofs.Common.{◌∙◌, ap, take}
use Rattle.std.proofs.lemmas.List.{take_all}
use Rattle.lalrpop_sets.specs.AscendingLists.{has}
use Rattle.lalrpop_lr1_check_lookaheads.specs.ApartSets.{IsApart, has_any}
use Rattle.lalrpop_lr1_check_lookaheads.proofs.ApartLemmas.{apart_of_same, has_any-more}
use Rattle.lalrpop_lr1_check_lookaheads.proofs.GainLemmas.{each_fails, each_more, each_passes, first_none}
use Rattle.lalrpop_lr1_check_lookaheads.proofs.parts.conflicts.join_reductions.Goals as goal

pub loop-reduction-init : goal.loop-reduction-init
loop-reduction-init c = record {
  apart = first_none (IsApart c.args.reductions.now) c.args.reductions.now;
  joined = λ k. ap (λ s. has s k) c.requires;
}

pub loop-reduction-preserved : goal.loop-reduction-preserved
loop-reduction-preserved c =
    let i = c.loop-reduction.reduction-index in
    let rs = c.args.reductions.now in
    let r = c.reduction-item.result in
    let says = apart_of_same (has_any (take i rs)) (has c.loop-reduction.joined) r.0 c.in_ok-apart.apart c.loop-reduction.invariant.joined
    c.in_ok-apart.ensures.apart in
    record {
      apart = each_more (IsApart rs) rs i r c.in_ok-apart.apart c.loop-reduction-test.true c.reduction-item.is says
          c.if-not-apart.false c.loop-reduction.invariant.apart;
      joined = has_any-more rs i r (has c.loop-reduction.joined) (has c.join_apart.new.joined) c.loop-reduction-test.true
          c.reduction-item.is c.loop-reduction.invariant.joined (c.in_ok-apart.ensures.joined c.if-not-apart.false);
    }

pub returns-then-not-apart-clause-apart : goal.returns-then-not-apart-clause-apart
returns-then-not-apart-clause-apart c =
    let i = c.loop-reduction.reduction-index in
    let rs = c.args.reductions.now in
    let r = c.reduction-item.result in
    let says = apart_of_same (has_any (take i rs)) (has c.loop-reduction.joined) r.0 c.in_ok-apart.apart c.loop-reduction.invariant.joined
    c.in_ok-apart.ensures.apart in
    each_fails (IsApart rs) rs i r c.in_ok-apart.apart c.loop-reduction-test.true c.reduction-item.is says c.if-not-apart.true

pub returns-clause-apart : goal.returns-clause-apart
returns-clause-apart c =
    each_passes (IsApart c.args.reductions.now) c.args.reductions.now c.loop-reduction.reduction-index c.loop-reduction-test.false
    c.loop-reduction.invariant.apart

pub returns-clause-joined : goal.returns-clause-joined
returns-clause-joined c = λ e k.
    c.loop-reduction.invariant.joined k
    ∙ ap (λ l. has_any l k) (take_all c.loop-reduction.reduction-index c.args.reductions.now c.loop-reduction-test.false)
