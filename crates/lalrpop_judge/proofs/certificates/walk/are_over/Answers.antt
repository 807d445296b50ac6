use Rattle.std.proofs.Common.{ℕ, refl, subst, sym}
use Rattle.lalrpop_lr1_first.specs.FirstSetsOf.{IsProductionOf}
use Rattle.lalrpop_lr1_interpret.specs.TreeEntries.{tree_label_view}
use Rattle.lalrpop_judge.specs.EntryMoves.{IsKeptBeside}
use Rattle.lalrpop_judge.specs.TreeRoots.{tree_root_views}
use Rattle.lalrpop_judge.proofs.RootLemmas.{IsPast, past_all, past_more, past_none, past_not}
use Rattle.lalrpop_judge.proofs.certificates.walk.are_over.Goals as goal

pub loop-entry-init : goal.loop-entry-init
loop-entry-init c =
    subst (IsPast (IsProductionOf c.args.grammar.now) c.args.entries.now 0) (sym c.new-roots.ensures.items)
    (past_none (IsProductionOf c.args.grammar.now) c.args.entries.now)

pub returns-in-None : goal.returns-in-None
returns-in-None c =
    let G = IsProductionOf c.args.grammar.now in
    let e = c.entry-item.result in
    let none : (kept : ℕ) → IsKeptBeside G (tree_root_views c.loop-entry.roots.items) (tree_label_view e.label) e.size kept → ⊥ =
    λ kept k. c.in-None.ensures kept
    (subst (λ l. IsKeptBeside G (tree_root_views l) (tree_label_view e.label) e.size kept) (sym c.as_slice.ensures.value) k) in (
      λ t. absurd (cc),
      λ o. absurd (past_not G c.args.entries.now c.loop-entry.entry-index e c.loop-entry.roots.items c.loop-entry-test.true
          c.entry-item.is c.requires none c.loop-entry.invariant o),
    )

pub loop-entry-preserved : goal.loop-entry-preserved
loop-entry-preserved c =
    let G = IsProductionOf c.args.grammar.now in
    let e = c.entry-item.result in
    let kept = c.in-Some.kept in
    past_more G c.args.entries.now c.loop-entry.entry-index kept e c.loop-entry.roots.items c.truncate.new.self.items
    c.push.new.self.items c.new.result c.loop-entry-test.true c.entry-item.is c.new.ensures
    (subst (λ l. IsKeptBeside G (tree_root_views l) (tree_label_view e.label) e.size kept) c.as_slice.ensures.value
    c.in-Some.ensures)
    c.truncate.ensures.items c.in_ok-push.ensures.items c.loop-entry.invariant

pub returns : goal.returns
returns c = (
  λ t. past_all (IsProductionOf c.args.grammar.now) c.args.entries.now c.loop-entry.entry-index c.loop-entry.roots.items
      c.loop-entry-test.false c.loop-entry.invariant,
  λ o. refl,
)
