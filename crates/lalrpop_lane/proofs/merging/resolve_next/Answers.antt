use Rattle.std.proofs.Common.{◌≡◌, ◌∙◌, List, ap, rules, subst, sym, ℕ}
use Rattle.lalrpop_lr1_core.specs.Edges.{edges_of}
use Rattle.lalrpop_lr1_core.specs.declared.state.State.{State}
use Rattle.lalrpop_lane.specs.Merges.{MergesKeep, Resolves}
use Rattle.lalrpop_lane.proofs.MergingLemmas.{keeps_none}
use Rattle.lalrpop_lane.proofs.merging.resolve_next.Goals as goal

pub returns-in-Apart : goal.returns-in-Apart
returns-in-Apart c =
    let old = c.args.states.now.items in
    let new = c.resolve_if_conflicting.new.states.items in
    let left = c.args.left.now in
    let same : new ≡ old = subst (Resolves old left new) c.in-Apart.is c.in_ok-resolved.ensures in
    record {
      kept = λ _. subst (λ (l : List (State (List ℕ))). MergesKeep old left l left) (sym same) (keeps_none old left);
      graph = λ _. c.requires.graph ∙ ap edges_of (sym same);
    }

pub returns-in_ok-made-in-Merged : goal.returns-in_ok-made-in-Merged
returns-in_ok-made-in-Merged c =
    let written : c.replace-old.new.dest ≡ c.in_ok-made-in-Merged.made = search rules in
    record {
      kept = λ _. subst (Resolves c.args.states.now.items c.args.left.now c.resolve_if_conflicting.new.states.items) c.in-Merged.is
          c.in_ok-resolved.ensures;
      graph = λ _. written ∙ c.in_ok-made-in-Merged.ensures ∙ ap edges_of c.as_slice.ensures.value;
    }
