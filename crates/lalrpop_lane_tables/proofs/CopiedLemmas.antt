-- Parts of a merge keep states spread: edges that are noted, a copy that comes, and edges that lead to one.
use Rattle.std.proofs.Common.{◌≡◌, ◌<◌, ◌-◌, ℕ, List, [], ◌∷◌, ◌++◌, length, refl, sym, ap, subst}
use Rattle.std.proofs.Common.{inl, inr, ⊎_elim, Contains, Option, Some, None, slice_get, set}
use Rattle.std.specs.BTreeMap.{is_at}
use Rattle.std.specs.Map.{lookup}
use Rattle.lalrpop_lr1_theory.proofs.ListLemmas.{get_contains}
use Rattle.lalrpop_lr1_theory.proofs.NameLemmas.{no_element}
use Rattle.lalrpop_lr1_core.specs.Edges.{state_index}
use Rattle.lalrpop_lr1_core.specs.declared.state.State.{State}
use Rattle.lalrpop_lr1_core.specs.declared.state_index.StateIndex.{StateIndex}
use Rattle.lalrpop_lane_tables.specs.CopiedStates.{AddsCopy, AddsMissingFirst, CopyingKeeps, LeadsToCopy, with_first_edges}
use Rattle.lalrpop_lane_tables.specs.MergedStates.{AreEdgesBelow, AreMerged, KeepsSpread, redirected_state}
use Rattle.lalrpop_lane_tables.specs.ReachedStates.{index_cmp}
use Rattle.lalrpop_lane_tables.specs.declared.merged_states.Copying.{Copying}
use Rattle.lalrpop_lane_tables.specs.declared.merged_states.FirstEdges.{FirstEdges}
use Rattle.lalrpop_lane_tables.proofs.KeyLemmas.{index_exact}
use Rattle.lalrpop_lane_tables.proofs.MergeLemmas.{HasEdgesOf, as_first, as_now, copied_keeps, keeps_both, keeps_same, noted_keeps, redirected_keeps}
use Rattle.lalrpop_lane_tables.proofs.PutLemmas.{found_there}
use Rattle.lalrpop_lane_tables.proofs.RowLemmas.{index_self, put_from}

module _ {L : Type 0} where
  -- states are what they are spread over, and a merge may be begun over states that another one left
  pub own_merged : (originals : List (State L)) →
      ((n : ℕ) (state : State L) → slice_get originals n ≡ Some state → AreEdgesBelow (length originals) state.shifts) →
      ((n : ℕ) (state : State L) → slice_get originals n ≡ Some state → AreEdgesBelow (length originals) state.gotos) →
      AreMerged originals (λ n. n) [] [] originals
  own_merged originals shifts gotos = record {
    each = λ n state at. record {
      original = state;
      at = at;
      items = refl;
      reductions = refl;
      edges = record { shifts_alike = refl; gotos_alike = refl };
    };
    shifts_below = shifts;
    gotos_below = gotos;
    copied = λ copy from there. let w : ⊥ = no_element (copy, from) there in absurd w;
    within = λ copy from there. let w : ⊥ = no_element (copy, from) there in absurd w;
    had = λ n first there. let w : ⊥ = no_element (n, first) there in absurd w;
    had_within = λ n first there. let w : ⊥ = no_element (n, first) there in absurd w;
    first_state = refl;
  }

  pub merged_anew : (originals : List (State L)) (origin : ℕ → ℕ) (copies : List (StateIndex × StateIndex))
      (firsts : List (StateIndex × FirstEdges)) (states : List (State L)) → AreMerged originals origin copies firsts states →
      AreMerged originals origin [] [] states
  merged_anew originals origin copies firsts states h = record {
    each = h.each;
    shifts_below = h.shifts_below;
    gotos_below = h.gotos_below;
    copied = λ copy from there. let w : ⊥ = no_element (copy, from) there in absurd w;
    within = λ copy from there. let w : ⊥ = no_element (copy, from) there in absurd w;
    had = λ n first there. let w : ⊥ = no_element (n, first) there in absurd w;
    had_within = λ n first there. let w : ⊥ = no_element (n, first) there in absurd w;
    first_state = h.first_state;
  }

  -- edges are noted, if none were
  first_keeps : (copies : List (StateIndex × StateIndex)) (firsts new : List (StateIndex × FirstEdges)) (states : List (State L)) (left : ℕ)
      (n : StateIndex) → AddsMissingFirst states n firsts new → KeepsSpread copies firsts states left copies new states left
  first_keeps copies firsts new states left n (inl w) =
      subst (λ (fs : List (StateIndex × FirstEdges)). KeepsSpread copies firsts states left copies fs states left) (sym w.1)
      (keeps_same copies firsts states left)
  first_keeps copies firsts new states left n (inr w) =
      noted_keeps copies firsts new states left n w.1.state w.1.first w.1.at w.1.are.shifts w.1.are.gotos
      (λ m f there. ⊎_elim
      (λ a. inl a)
      (λ b. inr (sym b.0, sym b.1))
      (put_from index_cmp index_exact firsts n w.1.first m f
      (subst (λ (l : List (StateIndex × FirstEdges)). Contains l (m, f)) w.1.added there)))

  -- what was shown of some copies and states holds of those that are the same
  same_keeps : (old new : Copying) (states new_states : List (State L)) (copies : List (StateIndex × StateIndex))
      (firsts : List (StateIndex × FirstEdges)) (after : List (State L)) (left : ℕ) → new.copies.items ≡ copies → new.firsts ≡ firsts →
      new_states ≡ after → new.left ≡ left →
      KeepsSpread old.copies.items old.firsts states old.left copies firsts after left → CopyingKeeps old states new new_states
  same_keeps old new states new_states copies firsts after left c f s l h =
      subst (λ (x : List (StateIndex × StateIndex)).
      KeepsSpread old.copies.items old.firsts states old.left x new.firsts new_states new.left) (sym c)
      (subst (λ (x : List (StateIndex × FirstEdges)). KeepsSpread old.copies.items old.firsts states old.left copies x new_states new.left) (sym f)
      (subst (λ (x : List (State L)). KeepsSpread old.copies.items old.firsts states old.left copies firsts x new.left) (sym s)
      (subst (λ (x : ℕ). KeepsSpread old.copies.items old.firsts states old.left copies firsts after x) (sym l) h)))

  -- edges to an original lead to its copy
  pub lead_keeps : (n : StateIndex) (place : ℕ) (old : Copying) (states : List (State L)) (new : Copying) (new_states : List (State L)) →
      LeadsToCopy n place old states new new_states → CopyingKeeps old states new new_states
  lead_keeps n place old states new new_states h =
      same_keeps old new states new_states old.copies.items new.firsts
      (set states n.0 (redirected_state h.entry.1 h.entry.0 h.state)) old.left h.copies refl h.led h.left
      (keeps_both old.copies.items old.copies.items old.copies.items old.firsts new.firsts new.firsts states states
      (set states n.0 (redirected_state h.entry.1 h.entry.0 h.state)) old.left old.left old.left
      (first_keeps old.copies.items old.firsts new.firsts states old.left n h.firsts)
      (redirected_keeps old.copies.items new.firsts states old.left n.0 h.state h.entry.1 h.entry.0 h.at
      (get_contains old.copies.items place h.entry h.noted)))

  -- a copy has what its original has, but for its number and edges
  record IsLikeCopy (firsts : List (StateIndex × FirstEdges)) (states : List (State L)) (n : StateIndex) (state copy : State L) : Type 0
    where
      pub index : copy.index.0 ≡ length states
      pub items : copy.items ≡ state.items
      pub reductions : copy.reductions ≡ state.reductions
      pub edges : HasEdgesOf firsts n state copy

  copy_is : (firsts : List (StateIndex × FirstEdges)) (states : List (State L)) (n : StateIndex) (state copy : State L) →
      copy ≡ with_first_edges (lookup (is_at (index_cmp n)) firsts) (record state { index = state_index (length states) }) →
      IsLikeCopy firsts states n state copy
  copy_is firsts states n state copy is = go (lookup (is_at (index_cmp n)) firsts) refl is
    where
      go : (o : Option FirstEdges) → lookup (is_at (index_cmp n)) firsts ≡ o →
          copy ≡ with_first_edges o (record state { index = state_index (length states) }) → IsLikeCopy firsts states n state copy
      go None none e = record {
        index = ap (λ (s : State L). s.index.0) e;
        items = ap (λ (s : State L). s.items) e;
        reductions = ap (λ (s : State L). s.reductions) e;
        edges = as_now (ap (λ (s : State L). s.shifts) e) (ap (λ (s : State L). s.gotos) e);
      }
      go (Some first) found e = record {
        index = ap (λ (s : State L). s.index.0) e;
        items = ap (λ (s : State L). s.items) e;
        reductions = ap (λ (s : State L). s.reductions) e;
        edges = as_first first (found_there index_cmp index_exact index_self firsts n first found) (ap (λ (s : State L). s.shifts) e)
            (ap (λ (s : State L). s.gotos) e);
      }

  -- a copy comes
  pub copy_keeps : (n : StateIndex) (old : Copying) (states : List (State L)) (new : Copying) (new_states : List (State L)) → 0 < old.left →
      AddsCopy n old states new new_states → CopyingKeeps old states new new_states
  copy_keeps n old states new new_states some h =
      let like = copy_is old.firsts states n h.of.state h.copy h.of.is in
      same_keeps old new states new_states (old.copies.items ++ (state_index (length states), n) ∷ []) old.firsts (states ++ h.copy ∷ [])
      (old.left - 1) h.copies h.firsts h.pushed h.left
      (copied_keeps old.copies.items old.firsts states h.of.state h.copy (state_index (length states)) n refl h.of.at like.index like.items
      like.reductions like.edges old.left some)

  -- one thing after the other
  pub copying_both : (a b c : Copying) (old mid new : List (State L)) → CopyingKeeps a old b mid → CopyingKeeps b mid c new →
      CopyingKeeps a old c new
  copying_both a b c old mid new f g =
      keeps_both a.copies.items b.copies.items c.copies.items a.firsts b.firsts c.firsts old mid new a.left b.left c.left f g

  pub copying_same : (a : Copying) (states : List (State L)) → CopyingKeeps a states a states
  copying_same a states = keeps_same a.copies.items a.firsts states a.left
