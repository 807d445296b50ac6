use Rattle.std.proofs.Common.{◌≡◌, ◌∙◌, ◌↔◌, subst, sym, true, false}
use Rattle.lalrpop_lr1_first.specs.NumberedGrammars.{IsSeenIn, table_productions}
use Rattle.lalrpop_lr1_check.specs.ClosureItemTests.{HasStartClosure}
use Rattle.lalrpop_lr1_check.proofs.BringLemmas.{brings_seen, seen_first, seen_targets}
use Rattle.lalrpop_lr1_check.proofs.closure.closure_items.has_closure_items.Goals as goal

pub returns-then-from_start : goal.returns-then-from_start
returns-then-from_start c = λ look.
    let G = IsSeenIn (table_productions c.args.table.now) in
    let s = c.args.start.now.0 in
    let states = c.args.states.now in
    let first = subst (λ l. (c.in_ok-from_start.from_start ≡ true) ↔ HasStartClosure G s l) c.first_items.ensures
    c.in_ok-from_start.ensures in (
      λ e. brings_seen look states G s (first.0 c.if-from_start.true) (c.in_ok-all.ensures.0 e),
      λ b. c.in_ok-all.ensures.1 (seen_targets look states G s b),
    )

pub returns : goal.returns
returns c = λ look.
    let G = IsSeenIn (table_productions c.args.table.now) in
    let s = c.args.start.now.0 in
    let states = c.args.states.now in
    let first = subst (λ l. (c.in_ok-from_start.from_start ≡ true) ↔ HasStartClosure G s l) c.first_items.ensures
    c.in_ok-from_start.ensures in (
      λ e. let w : ⊥ = cc in absurd w,
      λ b.
          let both : true ≡ false = sym (first.1 (seen_first look states G s b)) ∙ c.if-from_start.false in
          let w : ⊥ = cc in absurd w,
    )
