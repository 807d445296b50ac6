use Rattle.std.proofs.Common.{sym, ◌∙◌, subst}
use Rattle.lalrpop_grammar.specs.Views.{origin_view}
use Rattle.lalrpop_run_trees.specs.PartViews.{TellsChildren}
use Rattle.lalrpop_run_trees.proofs.RecordedLemmas.{none_kept, other_kept, some_kept}
use Rattle.lalrpop_run_trees.proofs.tree_parts.recorded.parts_by_count.Goals as goal
use Rattle.lalrpop_run_trees.proofs.tree_parts.recorded.parts_by_count.Goals.{in_default-via-in-Some+else-len-count, in_default-via-in_default}

pub returns-in-Some-clause-kept : goal.returns-in-Some-clause-kept
returns-in-Some-clause-kept c = λ x.
    some_kept x (origin_view c.args.origin.now) c.args.count c.args.part c.in-Some.parts
    (subst (TellsChildren (origin_view c.args.origin.now) c.args.part) c.in-Some.is c.in_ok-parts.ensures.children)
    (sym c.in-Some.parts.ok.0 ∙ sym c.len.ensures ∙ c.if-len-count.true)

pub returns-clause-kept : goal.returns-clause-kept
returns-clause-kept c = λ x.
    elim c.in_default.branch [
      | in_default-via-in-Some+else-len-count w ↦
          other_kept x (origin_view c.args.origin.now) c.args.count c.args.part w.in-Some.parts
          (subst (TellsChildren (origin_view c.args.origin.now) c.args.part) w.in-Some.is c.in_ok-parts.ensures.children)
          (λ e. w.if-len-count.false (w.len.ensures ∙ w.in-Some.parts.ok.0 ∙ e))
      | in_default-via-in_default w ↦
          none_kept x (origin_view c.args.origin.now) c.args.count c.args.part
          (subst (TellsChildren (origin_view c.args.origin.now) c.args.part) w.in_default.is c.in_ok-parts.ensures.children)
    ]
