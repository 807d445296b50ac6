use Rattle.std.proofs.Common.{◌≡◌, ◌∙◌, ◌∷◌, [], Contains, List, ap, length, rules, subst, sym, ℕ}
use Rattle.lalrpop_lr1_theory.proofs.ListLemmas.{contains_here, contains_later}
use Rattle.lalrpop_lr1_theory.proofs.NameLemmas.{no_element}
use Rattle.lalrpop_lr1_core.specs.declared.state_index.StateIndex.{StateIndex}
use Rattle.lalrpop_lane_tables.specs.MergeViews.{AreClasses}
use Rattle.lalrpop_lane_tables.specs.UnifiedClasses.{ClassEntry}
use Rattle.lalrpop_lane_tables.specs.declared.unify_tables.StateSet.{StateSet}
use Rattle.lalrpop_lane_tables.proofs.MergeClassLemmas.{classes_with}
use Rattle.lalrpop_lane.proofs.conflict_tables.classes_of_rows.Goals as goal

no_classes : (count : ℕ) (sets : List (StateIndex × StateSet)) (entries : List ClassEntry) → sets ≡ [] → entries ≡ [] →
    AreClasses count sets entries
no_classes count sets entries e f =
    record {
      keys = λ n key there. let z : ⊥ = no_element (n, key) (subst (λ (l : List (StateIndex × StateSet)). Contains l (n, key)) e there) in absurd z;
      columns = λ c there. let z : ⊥ = no_element c (subst (λ (l : List ClassEntry). Contains l c) f there) in absurd z;
    }

pub loop-state-init : goal.loop-state-init
loop-state-init c =
    let all : c.into_iter-state-iterator.result ≡ c.args.rows.now = search rules in
    record {
      classes = λ count h. no_classes count c.new-sets.result c.new-unify.result c.new-sets.ensures c.new-unify.ensures;
      there = rw all (λ e h. h);
    }

pub loop-state-preserved : goal.loop-state-preserved
loop-state-preserved c =
    let left : c.loop-state.state-iterator ≡ (c.in-Some.state.now, c.in-Some.columns.now) ∷ c.next.new.self = search rules in
    let here = c.loop-state.invariant.there (c.in-Some.state.now, c.in-Some.columns.now)
    (rw left (contains_here (c.in-Some.state.now, c.in-Some.columns.now) c.next.new.self)) in
    record {
      classes = λ count h.
          subst (λ (l : List (StateIndex × StateSet)). AreClasses count l c.new_key.new.self) (sym c.in_ok-insert.ensures.ok)
          (classes_with count c.loop-state.sets c.loop-state.unify c.new_key.new.self c.in_ok-try_clone.field-0 c.in-Some.state.now
          c.in_ok-key.key (c.loop-state.invariant.classes count h) c.in_ok-key.ensures.added
          (ap length c.in_ok-try_clone.ensures ∙ h c.in-Some.state.now c.in-Some.columns.now here));
      there = λ f m. c.loop-state.invariant.there f (rw left (contains_later (c.in-Some.state.now, c.in-Some.columns.now) f c.next.new.self m));
    }
