use Rattle.std.proofs.Common.{◌≡◌, ◌↔◌, [], get_or, refl, subst, true}
use Rattle.lalrpop_lr1_first.proofs.ListLemmas.{read_default}
use Rattle.lalrpop_lr1_check_lookaheads.proofs.GainLemmas.{each_fails, each_more, each_passes, first_none}
use Rattle.std.specs.Prelude.{slice_index_or}
use Rattle.lalrpop_lr1_least_trees.specs.Searches.{number_lists}
use Rattle.lalrpop_lr1_barren.specs.Clauses.{IsMarked}
use Rattle.lalrpop_lr1_check_lookaheads.specs.ListTests.{HoldsAtEach}
use Rattle.lalrpop_lr1_check.proofs.closure.unmoved.have_listed_marks.Goals as goal

pub loop-name-init : goal.loop-name-init
loop-name-init c =
    first_none (λ _ n. HoldsAtEach (λ _ k. IsMarked c.args.marks.now k) (slice_index_or (number_lists c.args.lists.now) n []))
    c.args.names.now

pub returns-then-not-are_marked : goal.returns-then-not-are_marked
returns-then-not-are_marked c =
    let xs = c.args.names.now in
    let i = c.loop-name.name-index in
    let x = get_or xs i 0 in
    each_fails (λ _ n. HoldsAtEach (λ _ k. IsMarked c.args.marks.now k) (slice_index_or (number_lists c.args.lists.now) n []))
    xs i x c.are_marked.result
    c.loop-name-test.true (read_default xs i 0 x c.loop-name-test.true refl)
    (subst (λ l. (c.are_marked.result ≡ true) ↔ HoldsAtEach (λ _ k. IsMarked c.args.marks.now k) l) c.listed_for.ensures c.are_marked.ensures)
    c.if-not-are_marked.true

pub loop-name-preserved : goal.loop-name-preserved
loop-name-preserved c =
    let xs = c.args.names.now in
    let i = c.loop-name.name-index in
    let x = get_or xs i 0 in
    each_more (λ _ n. HoldsAtEach (λ _ k. IsMarked c.args.marks.now k) (slice_index_or (number_lists c.args.lists.now) n []))
    xs i x c.are_marked.result
    c.loop-name-test.true (read_default xs i 0 x c.loop-name-test.true refl)
    (subst (λ l. (c.are_marked.result ≡ true) ↔ HoldsAtEach (λ _ k. IsMarked c.args.marks.now k) l) c.listed_for.ensures c.are_marked.ensures)
    c.if-not-are_marked.false
    c.loop-name.invariant

pub returns : goal.returns
returns c =
    each_passes (λ _ n. HoldsAtEach (λ _ k. IsMarked c.args.marks.now k) (slice_index_or (number_lists c.args.lists.now) n []))
    c.args.names.now
    c.loop-name.name-index c.loop-name-test.false c.loop-name.invariant
