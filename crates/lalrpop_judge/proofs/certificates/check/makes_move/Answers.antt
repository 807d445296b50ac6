use Rattle.std.proofs.Common.{◌∙◌, ap, subst, sym}
use Rattle.std.specs.Prelude.{option_map}
use Rattle.lalrpop_grammar_symbols.specs.Views.{terminal_view}
use Rattle.lalrpop_lr1_theory.specs.Spans.{without_spans}
use Rattle.lalrpop_lr1_theory.specs.Trees.{AreOver, roots}
use Rattle.lalrpop_lr1_first.specs.FirstSetsOf.{IsProductionOf}
use Rattle.lalrpop_lr1_interpret.specs.ExpandedViews.{expanded_view, expanded_views}
use Rattle.lalrpop_lr1_interpret.specs.TreeEntries.{tree_entry_views}
use Rattle.lalrpop_lr1_interpret.proofs.MoveOrderLemmas.{has_sizes, trees_are}
use Rattle.lalrpop_judge.specs.Certificates.{AreCountedFrom}
use Rattle.lalrpop_judge.specs.EntryMoves.{list_spans}
use Rattle.lalrpop_judge.specs.MoveViews.{move_view}
use Rattle.lalrpop_judge.proofs.EntryLemmas.{left_list, never}
use Rattle.lalrpop_judge.proofs.FrontLemmas.{not_behind, not_left, over_decides, spans-entries}
use Rattle.lalrpop_judge.proofs.certificates.check.makes_move.Goals as goal

pub returns-then-not-is_rooted : goal.returns-then-not-is_rooted
returns-then-not-is_rooted c = (
  λ e. absurd (cc),
  λ k. absurd (never c.is_rooted.result c.if-not-is_rooted.true
      (c.is_rooted.ensures.1 (ap (λ t. roots (without_spans t)) c.root.ensures ∙ ((k.0).is_tree).0))),
)

pub returns-then-not-are_counted : goal.returns-then-not-are_counted
returns-then-not-are_counted c =
    let spans = ap list_spans c.entries-entries.ensures ∙ spans-entries (expanded_view c.args.tree.now) in (
      λ e. absurd (cc),
      λ k. absurd (never c.are_counted.result c.if-not-are_counted.true
          (c.are_counted.ensures.1 (subst (AreCountedFrom 0) (sym spans) (k.0).spans))),
    )

pub returns-in_default : goal.returns-in_default
returns-in_default c = (
  λ e. absurd (cc),
  λ k. absurd (not_behind (IsProductionOf c.args.grammar.now) c.args.start.now.0 (expanded_views c.args.shared.now)
      (option_map terminal_view c.args.next.now) (move_view c.args.name.now) (expanded_view c.args.tree.now)
      (λ left e. c.in_default.ensures left (c.entries-entries.ensures ∙ e)) k),
)

pub split_at-requires : goal.split_at-requires
split_at-requires c = c.in-Some.ensures.0

pub returns-then-not-continue_by : goal.returns-then-not-continue_by
returns-then-not-continue_by c = (
  λ e. absurd (cc),
  λ k. absurd (not_left (IsProductionOf c.args.grammar.now) c.args.start.now.0 (expanded_views c.args.shared.now)
      (option_map terminal_view c.args.next.now) (move_view c.args.name.now) (expanded_view c.args.tree.now)
      (tree_entry_views c.split_at.result.1.now)
      (left_list c.entries-entries.result.now c.split_at.result.1.now (expanded_view c.args.tree.now)
      (expanded_views c.args.shared.now) c.in-Some.place c.entries-entries.ensures c.in-Some.ensures.1 c.split_at.ensures.back)
      (λ h. never c.continue_by.result c.if-not-continue_by.true (c.continue_by.ensures.1 h)) k),
)

pub are_over-requires : goal.are_over-requires
are_over-requires c =
    has_sizes (tree_entry_views c.entries-entries.result.now) (expanded_view c.args.tree.now) c.entries-entries.ensures

pub returns : goal.returns
returns c =
    let G = IsProductionOf c.args.grammar.now in
    let tree = expanded_view c.args.tree.now in
    let same = trees_are (tree_entry_views c.entries-entries.result.now) tree c.entries-entries.ensures in
    let spans = ap list_spans c.entries-entries.ensures ∙ spans-entries tree in
    over_decides G c.args.start.now.0 (expanded_views c.args.shared.now) (option_map terminal_view c.args.next.now)
    (move_view c.args.name.now) tree (tree_entry_views c.split_at.result.1.now) c.in_ok-over.over
    (left_list c.entries-entries.result.now c.split_at.result.1.now tree (expanded_views c.args.shared.now) c.in-Some.place
    c.entries-entries.ensures c.in-Some.ensures.1 c.split_at.ensures.back)
    (ap (λ t. roots (without_spans t)) (sym c.root.ensures) ∙ c.is_rooted.ensures.0 c.if-not-is_rooted.false)
    (subst (AreCountedFrom 0) spans (c.are_counted.ensures.0 c.if-not-are_counted.false))
    (c.continue_by.ensures.0 c.if-not-continue_by.false) (
      λ t. subst (λ f. AreOver G (without_spans f)) same (c.in_ok-over.ensures.0 t),
      λ o. c.in_ok-over.ensures.1 (subst (λ f. AreOver G (without_spans f)) (sym same) o),
    )
