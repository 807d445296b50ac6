use Rattle.std.proofs.Common.{◌≡◌, ℕ, List, arith, length, subst, sym}
use Rattle.std.specs.Borrow.{Bor}
use Rattle.lalrpop_grammar_repr.specs.declared.production.Production.{Production}
use Rattle.lalrpop_lr1_check_lookaheads.specs.CarriedSets.{IsSetOfEnd}
use Rattle.lalrpop_lr1_check_lookaheads.proofs.GainLemmas.{get_at}
use Rattle.lalrpop_lr1_check_lookaheads.proofs.PairLemmas.{ArePaired, paired_more, paired_none}
use Rattle.lalrpop_lr1_check_lookaheads.proofs.lookaheads.carried.sets_of_reductions.Goals as goal

pub loop-reduction-init : goal.loop-reduction-init
loop-reduction-init c =
    let Fits = λ (_ : ℕ) (r : List ℕ × Bor Production) (set : List ℕ). IsSetOfEnd c.args.ends.now c.args.state r.1.now set in
    subst (λ l. ArePaired Fits c.args.reductions.now l 0) (sym c.new-sets.ensures.items) (paired_none Fits c.args.reductions.now)

pub loop-reduction-preserved : goal.loop-reduction-preserved
loop-reduction-preserved c =
    paired_more (λ (_ : ℕ) (r : List ℕ × Bor Production) (set : List ℕ). IsSetOfEnd c.args.ends.now c.args.state r.1.now set)
    c.args.reductions.now c.loop-reduction.sets.items c.push.new.self.items c.loop-reduction.reduction-index c.reduction-item.result
    c.in_ok-tokens_of.field-0 c.loop-reduction.invariant
    (get_at c.args.reductions.now c.loop-reduction.reduction-index c.reduction-item.result c.loop-reduction-test.true
    c.reduction-item.is) c.in_ok-push.ensures.items c.in_ok-tokens_of.ensures

pub returns : goal.returns
returns c =
    let done = c.loop-reduction.invariant in
    let count : length c.loop-reduction.sets.items ≡ length c.args.reductions.now =
    omega (arith, done.count, done.within, c.loop-reduction-test.false) in
    record { count = count; each = done.each }
