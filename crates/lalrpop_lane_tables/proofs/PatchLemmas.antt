-- Reductions of targets are noted one after the other, and put in place.
use Rattle.std.proofs.Common.{◌≡◌, ◌∙◌, ◌⊎◌, ◌<◌, ◌≤◌, ◌+◌, ◌↔◌, ℕ, zero, suc, Bool, true, false, List, [], ◌∷◌, ◌++◌, length, refl, sym, ap, subst}
use Rattle.std.proofs.Common.{inl, inr, ⊎_elim, arith, Contains, Some, slice_get, get_or, nat_eq, set, length-set}
use Rattle.std.proofs.lemmas.Bool.Decides.{Decides-eqb}
use Rattle.std.proofs.lemmas.List.Elements.{Contains-push_cases}
use Rattle.std.proofs.lemmas.Option.{slice_get_past, slice_get_within}
use Rattle.lalrpop_lr1_theory.proofs.ListLemmas.{contains_get, get_contains}
use Rattle.lalrpop_lr1_theory.proofs.NameLemmas.{no_element}
use Rattle.lalrpop_lr1_theory.proofs.StepLemmas.{some_same}
use Rattle.lalrpop_lr1_core.specs.Edges.{state_index}
use Rattle.lalrpop_lr1_core.specs.declared.conflict.Action.{Action}
use Rattle.lalrpop_lr1_core.specs.declared.state.State.{State}
use Rattle.lalrpop_lr1_core.specs.declared.state_index.StateIndex.{StateIndex}
use Rattle.lalrpop_lane_tables.specs.PatchedTargets.{AddsPatch, AreOfClass, ArePatches, ArePut, IsClassed, IsPatched, IsTarget, PatchesTargets}
use Rattle.lalrpop_lane_tables.specs.UnifiedClasses.{ClassEntry}
use Rattle.lalrpop_lane_tables.specs.declared.merge_targets.Patch.{Patch}
use Rattle.lalrpop_lane_tables.specs.declared.unify_tables.StateSet.{StateSet}
use Rattle.lalrpop_lane_tables.proofs.MergeLemmas.{after_set, below_or, some_at}

-- what stands in a longer list
there_before : (old : List Patch) (p q : Patch) → Contains old p → Contains (old ++ q ∷ []) p
there_before old p q h = let k = contains_get old p h in get_contains (old ++ q ∷ []) k.0 p (get_before old q k.0 p k.1)
  where
    get_before : (xs : List Patch) (y : Patch) (k : ℕ) (x : Patch) → slice_get xs k ≡ Some x → slice_get (xs ++ y ∷ []) k ≡ Some x
    get_before [] y k x e = let w : ⊥ = cc in absurd w
    get_before (z ∷ zs) y zero x e = e
    get_before (z ∷ zs) y (suc k) x e = get_before zs y k x e

pub there_last : (old : List Patch) (q : Patch) → Contains (old ++ q ∷ []) q
there_last old q = get_contains (old ++ q ∷ []) (length old) q (last old)
  where
    last : (xs : List Patch) → slice_get (xs ++ q ∷ []) (length xs) ≡ Some q
    last [] = refl
    last (x ∷ xs) = last xs

-- the target, and the originals of the copies before a place
abbrev pub IsTargetBefore : StateIndex → List (StateIndex × StateIndex) → ℕ → StateIndex → Type 0
IsTargetBefore target copies place n = (n ≡ target) ⊎ ((k : ℕ) × (k < place) × (slice_get copies k ≡ Some (n, target)))

module _ (actions : List Action) (sets : List (StateIndex × StateSet)) (entries : List ClassEntry) (states : List (State (List ℕ))) where
  pub patches_none : ArePatches actions sets entries states (λ n. ⊥) []
  patches_none = record {
    sound = λ p there. let w : ⊥ = no_element p there in absurd w;
    complete = λ n none classed. absurd none;
  }

  -- one more is noted
  pub patches_more : (T U : StateIndex → Type 0) (m : StateIndex) (old new : List Patch) → ((n : StateIndex) → U n ↔ (T n ⊎ (n ≡ m))) →
      ArePatches actions sets entries states T old → AddsPatch actions sets entries states m old new →
      ArePatches actions sets entries states U new
  patches_more T U m old new is are (inl w) = subst (λ (l : List Patch). ArePatches actions sets entries states U l) (sym w.1) (record {
    sound = λ p there. let z = are.sound p there in ((is p.state).1 (inl z.0), z.1);
    complete = λ n u classed. ⊎_elim
        (λ t. are.complete n t classed)
        (λ e. absurd (w.0 (subst (λ (k : StateIndex). IsClassed sets states k) e classed)))
        ((is n).0 u);
  })
  patches_more T U m old new is are (inr w) = subst (λ (l : List Patch). ArePatches actions sets entries states U l) (sym w.added) (record {
    sound = λ p there. ⊎_elim
        (λ a. let z = are.sound p a in ((is p.state).1 (inl z.0), z.1))
        (λ b. subst (λ (q : Patch). U q.state × AreOfClass actions sets entries states q.state q.reductions) b (
          (is w.patch.state).1 (inr w.of),
          subst (λ (k : StateIndex). AreOfClass actions sets entries states k w.patch.reductions) (sym w.of) w.are,
        ))
        (Contains-push_cases old w.patch p there);
    complete = λ n u classed. ⊎_elim
        (λ t. let z = are.complete n t classed in (z.0, there_before old z.0 w.patch z.1, z.2))
        (λ e. (w.patch, there_last old w.patch, w.of ∙ sym e))
        ((is n).0 u);
  })

  -- none more is said to be one
  pub patches_same : (T U : StateIndex → Type 0) (all : List Patch) → ((n : StateIndex) → U n ↔ T n) →
      ArePatches actions sets entries states T all → ArePatches actions sets entries states U all
  patches_same T U all is are = record {
    sound = λ p there. let z = are.sound p there in ((is p.state).1 z.0, z.1);
    complete = λ n u classed. are.complete n ((is n).0 u) classed;
  }

-- which are targets, place by place
pub first_target : (target : StateIndex) (copies : List (StateIndex × StateIndex)) (n : StateIndex) →
    IsTargetBefore target copies 0 n ↔ (⊥ ⊎ (n ≡ target))
first_target target copies n = (
  λ h. ⊎_elim (λ e. inr e) (λ k. absurd (omega (arith, k.1))) h,
  λ h. ⊎_elim (λ w. absurd w) (λ e. inl e) h,
)

place_of : (j n : ℕ) → j < n + 1 → (j < n) ⊎ (j ≡ n)
place_of j n h = grind arith

pub target_more : (target : StateIndex) (copies : List (StateIndex × StateIndex)) (place : ℕ) (copy : StateIndex) →
    slice_get copies place ≡ Some (copy, target) → (n : StateIndex) →
    IsTargetBefore target copies (place + 1) n ↔ (IsTargetBefore target copies place n ⊎ (n ≡ copy))
target_more target copies place copy at n = (
  λ h. ⊎_elim
      (λ e. inl (inl e))
      (λ k. ⊎_elim
      (λ l. inl (inr (k.0, l, k.2)))
      (λ e. inr (ap (λ (q : StateIndex × StateIndex). q.0)
      (some_same (n, target) (copy, target) (sym k.2 ∙ ap (slice_get copies) e ∙ at))))
      (place_of k.0 place k.1)) h,
  λ h. ⊎_elim
      (λ b. ⊎_elim (λ e. inl e) (λ k. inr (k.0, omega (arith, k.1), k.2)) b)
      (λ e. inr (place, omega arith, at ∙ ap (λ (m : StateIndex). Some (m, target)) (sym e))) h,
)

pub target_no_more : (target : StateIndex) (copies : List (StateIndex × StateIndex)) (place : ℕ) (entry : StateIndex × StateIndex) →
    slice_get copies place ≡ Some entry → (entry.1 ≡ target → ⊥) → (n : StateIndex) →
    IsTargetBefore target copies (place + 1) n ↔ IsTargetBefore target copies place n
target_no_more target copies place entry at other n = (
  λ h. ⊎_elim
      (λ e. inl e)
      (λ k. ⊎_elim
      (λ l. inr (k.0, l, k.2))
      (λ e. absurd (other (ap (λ (q : StateIndex × StateIndex). q.1)
      (some_same entry (n, target) (sym at ∙ ap (slice_get copies) (sym e) ∙ k.2)))))
      (place_of k.0 place k.1)) h,
  λ h. ⊎_elim (λ e. inl e) (λ k. inr (k.0, omega (arith, k.1), k.2)) h,
)

pub all_targets : (target : StateIndex) (copies : List (StateIndex × StateIndex)) (place : ℕ) → length copies ≤ place → (n : StateIndex) →
    IsTarget target copies n ↔ IsTargetBefore target copies place n
all_targets target copies place all n = (
  λ h. ⊎_elim
      (λ e. inl e)
      (λ there. let k = contains_get copies (n, target) there in
      let small = slice_get_within copies k.0 (n, target) k.1 in inr (k.0, omega (arith, small, all), k.1)) h,
  λ h. ⊎_elim (λ e. inl e) (λ k. inr (get_contains copies k.0 (n, target) k.2)) h,
)

-- reductions that were noted are put in place
pub put_none : (all : List Patch) (old : List (State (List ℕ))) → ArePut all all old old
put_none all old = record { count = refl; of_all = λ p there. there; each = λ n state at. inl (at, λ p there is. there) }

pub put_one : (all left : List Patch) (patch : Patch) (old now new : List (State (List ℕ))) (state : State (List ℕ)) →
    ArePut all (left ++ patch ∷ []) old now → slice_get now patch.state.0 ≡ Some state →
    new ≡ set now patch.state.0 (record state { reductions = patch.reductions }) → ArePut all left old new
put_one all left patch old now new state are at is = subst (λ (l : List (State (List ℕ))). ArePut all left old l) (sym is) (record {
  count = length-set now patch.state.0 (record state { reductions = patch.reductions }) ∙ are.count;
  of_all = λ p there. are.of_all p (there_before left p patch there);
  each = λ n own there. go n own (nat_eq n patch.state.0) refl (are.each n own there);
})
  where
    put : State (List ℕ)
    put = record state { reductions = patch.reductions }

    other : (n : ℕ) (t : State (List ℕ)) → nat_eq n patch.state.0 ≡ false → slice_get now n ≡ Some t → slice_get (set now patch.state.0 put) n ≡ Some t
    other n t e there = ⊎_elim
        (λ a. a)
        (λ b. let z = (Decides-eqb n patch.state.0).1 b.0 in let w : ⊥ = cc in absurd w)
        (after_set now patch.state.0 n put t there)

    here : (n : ℕ) → n ≡ patch.state.0 → slice_get (set now patch.state.0 put) n ≡ Some put
    here n e = ⊎_elim
        (λ a. ap (slice_get (set now patch.state.0 put)) e ∙ written now patch.state.0 put (slice_get_within now patch.state.0 state at))
        (λ b. b.1)
        (after_set now patch.state.0 n put state (ap (slice_get now) e ∙ at))
      where
        written : (xs : List (State (List ℕ))) (c : ℕ) (x : State (List ℕ)) → c < length xs → slice_get (set xs c x) c ≡ Some x
        written [] c x h = absurd (omega (arith, h))
        written (y ∷ ys) zero x h = refl
        written (y ∷ ys) (suc c) x h = written ys c x (omega (arith, h))

    go : (n : ℕ) (own : State (List ℕ)) (b : Bool) → nat_eq n patch.state.0 ≡ b →
        ((slice_get now n ≡ Some own) × ((p : Patch) → Contains all p → p.state.0 ≡ n → Contains (left ++ patch ∷ []) p))
        ⊎ ((p : Patch) × Contains all p × (p.state.0 ≡ n) × (slice_get now n ≡ Some (record own { reductions = p.reductions }))) →
        ((slice_get (set now patch.state.0 put) n ≡ Some own) × ((p : Patch) → Contains all p → p.state.0 ≡ n → Contains left p))
        ⊎ ((p : Patch) × Contains all p × (p.state.0 ≡ n)
        × (slice_get (set now patch.state.0 put) n ≡ Some (record own { reductions = p.reductions })))
    go n own true e h =
        let same : n ≡ patch.state.0 = (Decides-eqb n patch.state.0).0 e in
        inr (
          patch,
          are.of_all patch (there_last left patch),
          sym same,
          here n same ∙ ap (λ (s : State (List ℕ)). Some s) (⊎_elim
              (λ a. ap (λ (s : State (List ℕ)). record s { reductions = patch.reductions }) (some_same state own (sym at ∙ ap (slice_get now) (sym same) ∙ a.0)))
              (λ b. ap (λ (s : State (List ℕ)). record s { reductions = patch.reductions })
              (some_same state (record own { reductions = b.0.reductions }) (sym at ∙ ap (slice_get now) (sym same) ∙ b.3))) h),
        )
    go n own false e (inl a) = inl (
      other n own e a.0,
      λ p there is. ⊎_elim
          (λ l. l)
          (λ q. let z = (Decides-eqb n patch.state.0).1 (sym is ∙ ap (λ (r : Patch). r.state.0) (sym q)) in let w : ⊥ = cc in absurd w)
          (Contains-push_cases left patch p (a.1 p there is)),
    )
    go n own false e (inr b) = inr (b.0, b.1, b.2, other n (record own { reductions = b.0.reductions }) e b.3)

module _ (actions : List Action) (sets : List (StateIndex × StateSet)) (entries : List ClassEntry) (target : StateIndex)
    (copies : List (StateIndex × StateIndex)) (old new : List (State (List ℕ))) (all : List Patch)
    (are : ArePatches actions sets entries old (IsTarget target copies) all) (put : ArePut all [] old new) where
  numbers : (a b : StateIndex) → a.0 ≡ b.0 → a ≡ b
  numbers a b e = ap state_index e

  of_class : (n : StateIndex) (p : Patch) → Contains all p → p.state.0 ≡ n.0 →
      IsTarget target copies n × AreOfClass actions sets entries old n p.reductions
  of_class n p there is =
      subst (λ (m : StateIndex). IsTarget target copies m × AreOfClass actions sets entries old m p.reductions) (numbers p.state n is)
      (are.sound p there)

  -- what a target has, and any other state
  patched : (n : StateIndex) → IsTarget target copies n → IsClassed sets old n → IsPatched actions sets entries old new n
  patched n t c =
      let s = some_at old n.0 c.0 in
      let p = are.complete n t c in
      ⊎_elim
      (λ a. let w : ⊥ = no_element p.0 (a.1 p.0 p.1 (ap (λ (m : StateIndex). m.0) p.2)) in absurd w)
      (λ b. let g = (of_class n b.0 b.1 b.2).1 in record {
        reductions = b.0.reductions;
        are = g;
        now = b.3 ∙ ap (λ (u : State (List ℕ)). Some (record u { reductions = b.0.reductions })) (some_same s.0 g.state (sym s.1 ∙ g.at));
      })
      (put.each n.0 s.0 s.1)

  stays : (n : StateIndex) → (IsTarget target copies n → IsClassed sets old n → ⊥) → slice_get new n.0 ≡ slice_get old n.0
  stays n never = ⊎_elim
      (λ l.
      let s = some_at old n.0 l in
      ⊎_elim
      (λ a. a.0 ∙ sym s.1)
      (λ b. let g = of_class n b.0 b.1 b.2 in absurd (never g.0 (l, (g.1.key, g.1.classed))))
      (put.each n.0 s.0 s.1))
      (λ l. let same = put.count in slice_get_past new n.0 (omega (arith, l, same)) ∙ sym (slice_get_past old n.0 l))
      (below_or n.0 (length old))

  pub targets_patched : PatchesTargets actions sets entries target copies old new
  targets_patched = record { count = put.count; targets = patched; others = stays }

-- what stands at a place of a list, and numbers that are told as one
pub got_or : {X : Type 0} (xs : List X) (k : ℕ) (d : X) → k < length xs → slice_get xs k ≡ Some (get_or xs k d)
got_or [] k d h = absurd (omega (arith, h))
got_or (x ∷ xs) zero d h = refl
got_or (x ∷ xs) (suc k) d h = got_or xs k d (omega (arith, h))

pub same_index : (a b : StateIndex) → nat_eq a.0 b.0 ≡ true → a ≡ b
same_index a b e = ap state_index ((Decides-eqb a.0 b.0).0 e)

pub other_index : (a b : StateIndex) → nat_eq a.0 b.0 ≡ false → a ≡ b → ⊥
other_index a b e same =
    let z : nat_eq a.0 b.0 ≡ true = (Decides-eqb a.0 b.0).1 (ap (λ (s : StateIndex). s.0) same) in let w : ⊥ = cc in w
