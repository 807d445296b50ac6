-- What flows along edges, with the first set that holds the end alone: for what slots propagate.
use Rattle.std.proofs.Common.{◌≡◌, ◌∙◌, ◌↔◌, ℕ, zero, suc, ◌+◌, ◌<◌, ◌≤◌, true, false}
use Rattle.std.proofs.Common.{◌||◌, ◌&&◌, List, [], ◌∷◌}
use Rattle.std.proofs.Common.{Contains, Option, None, Some, length, map, refl, sym, ap, subst, ⊎_elim, arith}
use Rattle.std.proofs.Common.{slice_get, nat_eq}
use Rattle.std.specs.Prelude.{not, slice_index_or}
use Rattle.std.proofs.lemmas.Bool.Decides.{Decides-eqb}
use Rattle.lalrpop_lr1_theory.proofs.ListLemmas.{contains_get, get_contains}
use Rattle.lalrpop_lr1_theory.proofs.StepLemmas.{some_same}
use Rattle.lalrpop_lr1_core.proofs.NoConflictLemmas.{at_mapped, mapped_at}
use Rattle.lalrpop_sets.specs.AscendingLists.{has}
use Rattle.lalrpop_lr1_first.specs.FlowEdges.{RestsAreWithin, edge_seen, edges_seen}
use Rattle.lalrpop_lr1_first.specs.Flows.{EdgesAreWithin, FlowEdge, Flows, IsEdgeWithin, MarksAreWithin, all_marks, slot_marks}
use Rattle.lalrpop_lr1_first.specs.Numbers.{set_of_number}
use Rattle.lalrpop_lr1_first.specs.declared.flowing.Edge.{Edge}
use Rattle.lalrpop_lr1_first.proofs.ListLemmas.{or_cases, or_right}
use Rattle.lalrpop_grammar_symbols.proofs.BoolLemmas.{and_both}
use Rattle.lalrpop_lr1_check_lookaheads.proofs.MoveLemmas.{get_long}
use Rattle.lalrpop_lr1_check_lookaheads.specs.LookaheadFlows.{FlowsAlong, option_set}
use Rattle.lalrpop_lr1_check_lookaheads.specs.LookaheadSlots.{AreSlots, HasSlotMark, SlotKey, slot_keys, slot_sets}
use Rattle.lalrpop_lr1_check_lookaheads.specs.declared.lookaheads.slots.Slots.{Slots}

-- each set with a mark more
marked_at : (there : ℕ) (sets : List (List ℕ)) (j k : ℕ) → (k ≡ there → ⊥) →
    has (set_of_number (all_marks (λ (set : List ℕ). set) there (map Some sets)) j) k ≡ true → has (set_of_number sets j) k ≡ true
marked_at there [] j k other h = let w : ⊥ = cc in absurd w
marked_at there (s ∷ sets) zero k other h =
    ⊎_elim (λ e. absurd (other (sym ((Decides-eqb there k).0 e)))) (λ m. m) (or_cases (nat_eq there k) (has s k) h)
marked_at there (s ∷ sets) (suc j) k other h = marked_at there sets j k other h

at_marked : (there : ℕ) (sets : List (List ℕ)) (j k : ℕ) → has (set_of_number sets j) k ≡ true →
    has (set_of_number (all_marks (λ (set : List ℕ). set) there (map Some sets)) j) k ≡ true
at_marked there [] j k h = h
at_marked there (s ∷ sets) zero k h = or_right (nat_eq there k) (has s k) h
at_marked there (s ∷ sets) (suc j) k h = at_marked there sets j k h

is_there : (there : ℕ) (sets : List (List ℕ)) (j : ℕ) → j < length sets →
    has (set_of_number (all_marks (λ (set : List ℕ). set) there (map Some sets)) j) there ≡ true
is_there there [] j h = absurd (omega (arith, h))
is_there there (s ∷ sets) zero h = ap (λ b. b || has s there) ((Decides-eqb there there).1 refl)
is_there there (s ∷ sets) (suc j) h = is_there there sets j (omega (arith, h))

module _ (end : ℕ) (edges : List Edge) (sets : List (List ℕ))
    (between : (e : Edge) → Contains edges e → (e.from < length sets) × (e.to < length sets) × (e.rest ≡ 0)) where
  abbrev firsts : List (List ℕ)
  firsts = (end ∷ []) ∷ []

  abbrev marked : List (List ℕ)
  marked = all_marks (λ (set : List ℕ). set) (end + 2) (map Some sets)

  first_is : (e : Edge) → e.rest ≡ 0 → set_of_number firsts e.rest ≡ end ∷ []
  first_is e z = ap (set_of_number firsts) z

  only_end : (k : ℕ) → has (end ∷ []) k ≡ true → end ≡ k
  only_end k h = ⊎_elim (λ e. (Decides-eqb end k).0 e) (λ e. let w : ⊥ = cc in absurd w) (or_cases (nat_eq end k) false h)

  end_there : has (end ∷ []) end ≡ true
  end_there = ap (λ b. b || false) ((Decides-eqb end end).1 refl)

  -- the edge that is seen is one of the edges
  edge_of : (r : ℕ) (e : FlowEdge) → slice_get (edges_seen firsts edges) r ≡ Some e →
      (f : Edge) × Contains edges f × (edge_seen firsts f ≡ e)
  edge_of r e at =
      let m = at_mapped (edge_seen firsts) edges r e at in
      (m.0, get_contains edges r m.0 m.1, m.2)

  no_start : (e : Edge) (k : ℕ) → e.rest ≡ 0 → not (nat_eq k end) && has (set_of_number firsts e.rest) k ≡ true → ⊥
  no_start e k z h =
      let p = and_both (not (nat_eq k end)) (has (set_of_number firsts e.rest) k) h in
      let q : end ≡ k = only_end k (subst (λ l. has l k ≡ true) (first_is e z) p.1) in
      let r : nat_eq k end ≡ true = (Decides-eqb k end).1 (sym q) in
      let s : not true ≡ true = ap not (sym r) ∙ p.0 in
      let w : ⊥ = cc in w

  pub flows_along : (j k : ℕ) → Flows true end (edges_seen firsts edges) marked j k → (k ≡ end + 2 → ⊥) →
      FlowsAlong edges sets j k
  flows_along _ _ (Flows.begins s k h) other = FlowsAlong.stands s k (marked_at (end + 2) sets s k other h)
  flows_along _ _ (Flows.brings r e at f) other = absurd (other refl)
  flows_along _ _ (Flows.starts r e k at f t h) other =
      let m = edge_of r e at in
      absurd (no_start m.0 k (between m.0 m.1).2
      (subst (λ (v : FlowEdge). not (nat_eq k end) && has v.first k ≡ true) (sym m.2) h))
  flows_along _ _ (Flows.passes r e k at f h g) other =
      let m = edge_of r e at in
      let rec : FlowsAlong edges sets e.from k = flows_along e.from k g other in
      subst (λ (v : FlowEdge). FlowsAlong edges sets v.to k) m.2
      (FlowsAlong.flows m.0 k m.1 (subst (λ (v : FlowEdge). FlowsAlong edges sets v.from k) (sym m.2) rec))

  pub along_flows : (j k : ℕ) → FlowsAlong edges sets j k → Flows true end (edges_seen firsts edges) marked j k
  along_flows _ _ (FlowsAlong.stands j k h) = Flows.begins j k (at_marked (end + 2) sets j k h)
  along_flows _ _ (FlowsAlong.flows e k c f) =
      let r = contains_get edges e c in
      let b = between e c in
      Flows.passes r.0 (edge_seen firsts e) k (mapped_at (edge_seen firsts) edges r.0 e r.1)
      (Flows.begins e.from (end + 2) (is_there (end + 2) sets e.from b.0))
      (subst (λ l. has l end ≡ true) (sym (first_is e b.2)) end_there) (along_flows e.from k f)

  -- what the sets have before and after are numbers of tokens
  pub rests_within : RestsAreWithin 1 edges
  rests_within r e at = omega (arith, (between e (get_contains edges r e at)).2)

  pub edges_within : EdgesAreWithin end (length sets) (edges_seen firsts edges)
  edges_within r e at =
      let m = edge_of r e at in
      let b = between m.0 m.1 in
      subst (IsEdgeWithin end (length sets)) m.2 (record {
        from = b.0;
        to = b.1;
        first = λ k h.
            let q : end ≡ k = only_end k (subst (λ l. has l k ≡ true) (first_is m.0 b.2) h) in omega (arith, q);
      })

index_mapped : (sets : List (List ℕ)) (j : ℕ) (l : List ℕ) → slice_index_or (map Some sets) j None ≡ Some l →
    set_of_number sets j ≡ l
index_mapped [] j l e = let w : ⊥ = cc in absurd w
index_mapped (s ∷ sets) zero l e = some_same s l e
index_mapped (s ∷ sets) (suc j) l e = index_mapped sets j l e

index_at : (sets : List (Option (List ℕ))) (j : ℕ) (o : Option (List ℕ)) → slice_get sets j ≡ Some o →
    slice_index_or sets j None ≡ o
index_at [] j o e = let w : ⊥ = cc in absurd w
index_at (s ∷ sets) zero o e = some_same s o e
index_at (s ∷ sets) (suc j) o e = index_at sets j o e

marks_of : (there : ℕ) (sets : List (Option (List ℕ))) (j : ℕ) (o : Option (List ℕ)) → slice_get sets j ≡ Some o →
    set_of_number (all_marks (λ (set : List ℕ). set) there sets) j ≡ slot_marks (λ (set : List ℕ). set) there o
marks_of there [] j o e = let w : ⊥ = cc in absurd w
marks_of there (s ∷ sets) zero o e = ap (slot_marks (λ (set : List ℕ). set) there) (some_same s o e)
marks_of there (s ∷ sets) (suc j) o e = marks_of there sets j o e

-- sets without a number past the end, as lookaheads, have no mark past the token of errors
pub marks_within : (end : ℕ) (sets : List (List ℕ)) → ((j k : ℕ) → has (set_of_number sets j) k ≡ true → k ≤ end) →
    MarksAreWithin (λ (set : List ℕ). set) end (map Some sets)
marks_within end sets small s l e k h =
    omega (arith, small s k (subst (λ x. has x k ≡ true) (sym (index_mapped sets s l e)) h))

module _ (end : ℕ) (edges : List Edge) (sets : List (List ℕ))
    (between : (e : Edge) → Contains edges e → (e.from < length sets) × (e.to < length sets) × (e.rest ≡ 0))
    (small : (j k : ℕ) → has (set_of_number sets j) k ≡ true → k ≤ end) where
  pub along_small : (j k : ℕ) → FlowsAlong edges sets j k → k ≤ end
  along_small _ _ (FlowsAlong.stands j k h) = small j k h
  along_small _ _ (FlowsAlong.flows e k c f) = along_small e.from k f

  -- what the sets have once all has flowed
  pub flown_are : (new : List (Option (List ℕ))) → MarksAreWithin (λ (set : List ℕ). set) end new →
      ((s k : ℕ) → (has (set_of_number (all_marks (λ (set : List ℕ). set) (end + 2) new) s) k ≡ true)
      ↔ Flows true end (edges_seen ((end ∷ []) ∷ []) edges) (all_marks (λ (set : List ℕ). set) (end + 2) (map Some sets)) s k) →
      (j k : ℕ) (o : Option (List ℕ)) → slice_get new j ≡ Some o → (has (option_set o) k ≡ true) ↔ FlowsAlong edges sets j k
  flown_are new within says j k None at = (
    λ h. let w : ⊥ = cc in absurd w,
    λ f.
        let h = (says j k).1 (along_flows end edges sets between j k f) in
        subst (λ l. has l k ≡ true) (marks_of (end + 2) new j None at) h,
  )
  flown_are new within says j k (Some l) at = (
    λ h.
        let least : k ≤ end + 1 = within j l (index_at new j (Some l) at) k h in
        flows_along end edges sets between j k
        ((says j k).0 (subst (λ x. has x k ≡ true) (sym (marks_of (end + 2) new j (Some l) at))
        (or_right (nat_eq (end + 2) k) (has l k) h)))
        (λ e. omega (arith, least, e)),
    λ f.
        let h = subst (λ x. has x k ≡ true) (marks_of (end + 2) new j (Some l) at) ((says j k).1
        (along_flows end edges sets between j k f)) in
        let least = along_small j k f in
        ⊎_elim
        (λ e. let z : end + 2 ≡ k = (Decides-eqb (end + 2) k).0 e in absurd (omega (arith, least, z)))
        (λ m. m) (or_cases (nat_eq (end + 2) k) (has l k) h),
  )

-- where slots are marked with no token past the end, no number in their sets is past it
pub slot_tokens : (end : ℕ) (slots : Slots) → AreSlots slots → ((key : SlotKey) (k : ℕ) → HasSlotMark slots key (Some k) →
    k ≤ end) →
    (j k : ℕ) → has (set_of_number (slot_sets slots) j) k ≡ true → k ≤ end
slot_tokens end slots are tokens j k h =
    let here : j < length (slot_sets slots) = inside (slot_sets slots) j h in
    let key = get_long (slot_keys slots) j (omega (arith, here, are)) in
    tokens key.0 k (j, key.1, h)
  where
    inside : (sets : List (List ℕ)) (j : ℕ) → has (set_of_number sets j) k ≡ true → j < length sets
    inside [] j h = let w : ⊥ = cc in absurd w
    inside (s ∷ sets) zero h = omega arith
    inside (s ∷ sets) (suc j) h = omega (arith, inside sets j h)
