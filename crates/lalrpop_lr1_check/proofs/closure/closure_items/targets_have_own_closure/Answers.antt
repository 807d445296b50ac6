use Rattle.std.proofs.Common.{◌≡◌, ◌↔◌, subst, true}
use Rattle.lalrpop_lr1_first.specs.NumberedGrammars.{IsSeenIn, table_productions}
use Rattle.lalrpop_lr1_check_lookaheads.specs.ListTests.{HoldsAtEach}
use Rattle.lalrpop_lr1_check.specs.ClosureItemTests.{HasOwnClosureIfMarked}
use Rattle.lalrpop_lr1_check.proofs.BringLemmas.{bring_marked, marked_bring}
use Rattle.lalrpop_lr1_check.proofs.closure.closure_items.targets_have_own_closure.Goals as goal

pub returns : goal.returns
returns c =
    let G = IsSeenIn (table_productions c.args.table.now) in
    let states = c.args.states.now in
    let targets = c.in_ok-targets.targets.items in
    let says = subst (λ ts. (c.in_ok-all.all ≡ true) ↔ HoldsAtEach (HasOwnClosureIfMarked G ts) states) c.as_slice.ensures.value
    c.in_ok-all.ensures in (
      λ e. marked_bring G states targets c.in_ok-targets.ensures (says.0 e),
      λ h. says.1 (bring_marked G states targets c.in_ok-targets.ensures h),
    )
