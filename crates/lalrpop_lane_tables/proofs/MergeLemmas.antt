-- What keeps states spread while a merge goes on: edges that are redirected to a copy, edges that are noted, and a copy that comes.
use Rattle.std.proofs.Common.{◌≡◌, ◌∙◌, ◌⊎◌, ◌<◌, ◌≤◌, ◌+◌, ◌-◌, ℕ, zero, suc, Bool, true, false, List, [], ◌∷◌, ◌++◌, map, length, refl, sym, ap, subst}
use Rattle.std.proofs.Common.{inl, inr, ⊎_elim, arith, cond, Contains, Some, slice_get, nat_eq, set, length-set, length-append}
use Rattle.std.proofs.lemmas.Bool.Decides.{Decides-eqb}
use Rattle.std.proofs.lemmas.List.Elements.{Contains-push_cases}
use Rattle.std.proofs.lemmas.Option.{slice_get_within}
use Rattle.lalrpop_lr1_theory.proofs.ListLemmas.{contains_here, contains_later}
use Rattle.lalrpop_lr1_theory.proofs.StepLemmas.{some_same}
use Rattle.lalrpop_lr1_core.proofs.MemberLemmas.{in_map}
use Rattle.lalrpop_lr1_core.specs.declared.state.State.{State}
use Rattle.lalrpop_lr1_core.specs.declared.state_index.StateIndex.{StateIndex}
use Rattle.lalrpop_lane_tables.specs.MergedStates.{AreEdgesBelow, AreMerged, HadEdges, IsSameState, KeepsSpread, LeadAlike, StandsFor, StayMerged}
use Rattle.lalrpop_lane_tables.specs.MergedStates.{edge_by_origin, edges_by_origin, redirected_edge, redirected_state}
use Rattle.lalrpop_lane_tables.specs.declared.merged_states.FirstEdges.{FirstEdges}

-- edges to a state lead to a copy of it
alike_redirected : {K : Type 0} (origin : ℕ → ℕ) (from to : StateIndex) → origin to.0 ≡ origin from.0 → (es : List (K × StateIndex)) →
    edges_by_origin origin (map (redirected_edge from to) es) ≡ edges_by_origin origin es
alike_redirected origin from to same [] = refl
alike_redirected {K = K} origin from to same (e ∷ es) =
    ap (λ (k : ℕ). (e.0, k) ∷ edges_by_origin origin (map (redirected_edge from to) es)) (one (nat_eq e.1.0 from.0) refl)
    ∙ ap (λ (l : List (K × ℕ)). edge_by_origin origin e ∷ l) (alike_redirected origin from to same es)
  where
    one : (b : Bool) → nat_eq e.1.0 from.0 ≡ b → origin (cond b to e.1).0 ≡ origin e.1.0
    one true h = same ∙ ap origin (sym ((Decides-eqb e.1.0 from.0).0 h))
    one false h = refl

below_redirected : {K : Type 0} (count : ℕ) (from to : StateIndex) → to.0 < count → (es : List (K × StateIndex)) → AreEdgesBelow count es →
    AreEdgesBelow count (map (redirected_edge from to) es)
below_redirected {K = K} count from to small es below e there =
    let x = in_map (redirected_edge from to) es e there in
    subst (λ (f : K × StateIndex). f.1.0 < count) x.2 (go (nat_eq x.0.1.0 from.0) x.0 (below x.0 x.1))
  where
    go : (b : Bool) (f : K × StateIndex) → f.1.0 < count → (cond b to f.1).0 < count
    go true f h = small
    go false f h = h

-- edges to states below a number lead alike by other originals of greater numbers
alike_origins : {K : Type 0} (o p : ℕ → ℕ) (count : ℕ) → ((n : ℕ) → n < count → p n ≡ o n) → (es : List (K × StateIndex)) →
    AreEdgesBelow count es → edges_by_origin p es ≡ edges_by_origin o es
alike_origins o p count same [] below = refl
alike_origins {K = K} o p count same (e ∷ es) below =
    ap (λ (k : ℕ). (e.0, k) ∷ edges_by_origin p es) (same e.1.0 (below e (contains_here e es)))
    ∙ ap (λ (l : List (K × ℕ)). edge_by_origin o e ∷ l) (alike_origins o p count same es (λ f there. below f (contains_later e f es there)))

below_longer : {K : Type 0} (count more : ℕ) (es : List (K × StateIndex)) → count ≤ more → AreEdgesBelow count es → AreEdgesBelow more es
below_longer count more es h below e there = let z = below e there in omega (arith, z, h)

-- what stands at a place after a write, and after a push
got_set : {X : Type 0} (xs : List X) (n k : ℕ) (v t : X) → slice_get (set xs n v) k ≡ Some t → (slice_get xs k ≡ Some t) ⊎ ((k ≡ n) × (v ≡ t))
got_set [] zero k v t h = inl h
got_set [] (suc n) k v t h = inl h
got_set (x ∷ xs) zero zero v t h = inr (refl, cc)
got_set (x ∷ xs) zero (suc k) v t h = inl h
got_set (x ∷ xs) (suc n) zero v t h = inl h
got_set (x ∷ xs) (suc n) (suc k) v t h = ⊎_elim (λ a. inl a) (λ b. inr (ap suc b.0, b.1)) (got_set xs n k v t h)

got_push : {X : Type 0} (xs : List X) (k : ℕ) (v t : X) → slice_get (xs ++ v ∷ []) k ≡ Some t →
    (slice_get xs k ≡ Some t) ⊎ ((k ≡ length xs) × (v ≡ t))
got_push [] zero v t h = inr (refl, cc)
got_push [] (suc k) v t h = let w : ⊥ = cc in absurd w
got_push (x ∷ xs) zero v t h = inl h
got_push (x ∷ xs) (suc k) v t h = ⊎_elim (λ a. inl a) (λ b. inr (ap suc b.0, b.1)) (got_push xs k v t h)

pub after_set : {X : Type 0} (xs : List X) (n k : ℕ) (v t : X) → slice_get xs k ≡ Some t →
    (slice_get (set xs n v) k ≡ Some t) ⊎ ((k ≡ n) × (slice_get (set xs n v) k ≡ Some v))
after_set [] zero k v t h = inl h
after_set [] (suc n) k v t h = inl h
after_set (x ∷ xs) zero zero v t h = inr (refl, refl)
after_set (x ∷ xs) zero (suc k) v t h = inl h
after_set (x ∷ xs) (suc n) zero v t h = inl h
after_set (x ∷ xs) (suc n) (suc k) v t h = ⊎_elim (λ a. inl a) (λ b. inr (ap suc b.0, b.1)) (after_set xs n k v t h)

after_push : {X : Type 0} (xs ys : List X) (k : ℕ) (t : X) → slice_get xs k ≡ Some t → slice_get (xs ++ ys) k ≡ Some t
after_push [] ys k t h = let w : ⊥ = cc in absurd w
after_push (x ∷ xs) ys zero t h = h
after_push (x ∷ xs) ys (suc k) t h = after_push xs ys k t h

pub some_at : {X : Type 0} (xs : List X) (k : ℕ) → k < length xs → (x : X) × (slice_get xs k ≡ Some x)
some_at [] k h = absurd (omega (arith, h))
some_at (x ∷ xs) zero h = (x, refl)
some_at (x ∷ xs) (suc k) h = some_at xs k (omega (arith, h))

pub below_or : (n k : ℕ) → (n < k) ⊎ (k ≤ n)
below_or n k = grind arith

module _ {L : Type 0} where
  same_state : (state : State L) → IsSameState state state
  same_state state = record { index = refl; items = refl; reductions = refl }

  -- no state comes where there are as many as before
  none_come : (old new : List (State L)) → length new ≡ length old → (n : ℕ) (state : State L) → slice_get new n ≡ Some state →
      length old ≤ n → state.index.0 ≡ n
  none_come old new same n state at behind = let z = slice_get_within new n state at in absurd (omega (arith, z, same, behind))

  -- nothing was done
  pub keeps_same : (copies : List (StateIndex × StateIndex)) (firsts : List (StateIndex × FirstEdges)) (states : List (State L)) (left : ℕ) →
      KeepsSpread copies firsts states left copies firsts states left
  keeps_same copies firsts states left = record {
    spread = λ originals origin h. record { new_origin = origin; extends = λ n l. refl; merged = h };
    kept = λ n state at. (state, at, same_state state);
    numbered = none_come states states refl;
    count = refl;
    grown = omega arith;
  }

  stands_redirected : (originals : List (State L)) (origin : ℕ → ℕ) (n : ℕ) (state : State L) (from to : StateIndex) →
      origin to.0 ≡ origin from.0 → StandsFor originals origin n state → StandsFor originals origin n (redirected_state from to state)
  stands_redirected originals origin n state from to same h = record {
    original = h.original;
    at = h.at;
    items = h.items;
    reductions = h.reductions;
    edges = record {
      shifts_alike = alike_redirected origin from to same state.shifts ∙ h.edges.shifts_alike;
      gotos_alike = alike_redirected origin from to same state.gotos ∙ h.edges.gotos_alike;
    };
  }

  -- the edges of a state are redirected to a copy
  pub redirected_keeps : (copies : List (StateIndex × StateIndex)) (firsts : List (StateIndex × FirstEdges)) (states : List (State L))
      (left n : ℕ) (state : State L) (from to : StateIndex) → slice_get states n ≡ Some state → Contains copies (to, from) →
      KeepsSpread copies firsts states left copies firsts (set states n (redirected_state from to state)) left
  redirected_keeps copies firsts states left n state from to at noted = record {
    spread = λ originals origin h. record { new_origin = origin; extends = λ k l. refl; merged = merged originals origin h };
    kept = λ k t there. ⊎_elim
        (λ a. (t, a, same_state t))
        (λ b.
        let same : state ≡ t = some_same state t (sym at ∙ ap (slice_get states) (sym b.0) ∙ there) in (
          new,
          b.1,
          subst (λ (u : State L). IsSameState u new) same (record { index = refl; items = refl; reductions = refl }),
        )) (after_set states n k new t there);
    numbered = none_come states (set states n new) same_length;
    count = ap (λ l. l + left) same_length;
    grown = omega (arith, same_length);
  }
    where
      new : State L
      new = redirected_state from to state

      same_length : length (set states n new) ≡ length states
      same_length = length-set states n new

      merged : (originals : List (State L)) (origin : ℕ → ℕ) → AreMerged originals origin copies firsts states →
          AreMerged originals origin copies firsts (set states n new)
      merged originals origin h =
          let small = (h.within to from noted).0 in
          record {
            each = λ k t there. ⊎_elim
                (λ a. h.each k t a)
                (λ b. subst (λ (v : State L). StandsFor originals origin (origin k) v) b.1
                (stands_redirected originals origin (origin k) state from to (h.copied to from noted)
                (h.each k state (ap (slice_get states) b.0 ∙ at))))
                (got_set states n k new t there);
            shifts_below = λ k t there. subst (λ (m : ℕ). AreEdgesBelow m t.shifts) (sym same_length) (⊎_elim
                (λ a. h.shifts_below k t a)
                (λ b. subst (λ (v : State L). AreEdgesBelow (length states) v.shifts) b.1
                (below_redirected (length states) from to small state.shifts (h.shifts_below n state at)))
                (got_set states n k new t there));
            gotos_below = λ k t there. subst (λ (m : ℕ). AreEdgesBelow m t.gotos) (sym same_length) (⊎_elim
                (λ a. h.gotos_below k t a)
                (λ b. subst (λ (v : State L). AreEdgesBelow (length states) v.gotos) b.1
                (below_redirected (length states) from to small state.gotos (h.gotos_below n state at)))
                (got_set states n k new t there));
            copied = h.copied;
            within = λ c f e. let z = h.within c f e in (omega (arith, z.0, same_length), omega (arith, z.1, same_length));
            had = λ m first e. subst (λ (c : ℕ). HadEdges originals origin c (origin m.0) first) (sym same_length) (h.had m first e);
            had_within = λ m first e. let z = h.had_within m first e in omega (arith, z, same_length);
            first_state = h.first_state;
          }

  -- the edges that a state has are noted
  pub noted_keeps : (copies : List (StateIndex × StateIndex)) (firsts new_firsts : List (StateIndex × FirstEdges)) (states : List (State L))
      (left : ℕ) (n : StateIndex) (state : State L) (first : FirstEdges) → slice_get states n.0 ≡ Some state →
      first.shifts ≡ state.shifts → first.gotos ≡ state.gotos →
      ((m : StateIndex) (f : FirstEdges) → Contains new_firsts (m, f) → Contains firsts (m, f) ⊎ ((m ≡ n) × (f ≡ first))) →
      KeepsSpread copies firsts states left copies new_firsts states left
  noted_keeps copies firsts new_firsts states left n state first at shifts gotos come = record {
    spread = λ originals origin h. record { new_origin = origin; extends = λ k l. refl; merged = merged originals origin h };
    kept = λ k t there. (t, there, same_state t);
    numbered = none_come states states refl;
    count = refl;
    grown = omega arith;
  }
    where
      merged : (originals : List (State L)) (origin : ℕ → ℕ) → AreMerged originals origin copies firsts states →
          AreMerged originals origin copies new_firsts states
      merged originals origin h = record {
        each = h.each;
        shifts_below = h.shifts_below;
        gotos_below = h.gotos_below;
        copied = h.copied;
        within = h.within;
        had = λ m f e. ⊎_elim
            (λ a. h.had m f a)
            (λ b.
            let s = h.each n.0 state at in
            subst (λ (k : StateIndex). HadEdges originals origin (length states) (origin k.0) f) (sym b.0)
            (subst (λ (g : FirstEdges). HadEdges originals origin (length states) (origin n.0) g) (sym b.1) (record {
              original = s.original;
              at = s.at;
              edges = record {
                shifts_alike = ap (edges_by_origin origin) shifts ∙ s.edges.shifts_alike;
                gotos_alike = ap (edges_by_origin origin) gotos ∙ s.edges.gotos_alike;
              };
              shifts_below = subst (AreEdgesBelow (length states)) (sym shifts) (h.shifts_below n.0 state at);
              gotos_below = subst (AreEdgesBelow (length states)) (sym gotos) (h.gotos_below n.0 state at);
            }))) (come m f e);
        had_within = λ m f e. ⊎_elim
            (λ a. h.had_within m f a)
            (λ b. subst (λ (k : StateIndex). k.0 < length states) (sym b.0) (slice_get_within states n.0 state at)) (come m f e);
        first_state = h.first_state;
      }

-- a number more stands for what another stands for
with_copy : (ℕ → ℕ) → ℕ → ℕ → ℕ → ℕ
with_copy origin new old n = cond (nat_eq n new) (origin old) (origin n)

below_copy : (origin : ℕ → ℕ) (new old n : ℕ) → n < new → with_copy origin new old n ≡ origin n
unfolding with_copy
below_copy origin new old n l = go (nat_eq n new) refl
  where
    go : (b : Bool) → nat_eq n new ≡ b → cond b (origin old) (origin n) ≡ origin n
    go true e = let z : n ≡ new = (Decides-eqb n new).0 e in absurd (omega arith)
    go false e = refl

at_copy : (origin : ℕ → ℕ) (new old n : ℕ) → n ≡ new → with_copy origin new old n ≡ origin old
unfolding with_copy
at_copy origin new old n e = ap (λ b. cond b (origin old) (origin n)) ((Decides-eqb n new).1 e)

module _ {L : Type 0} where
  -- edges that a copy may have: those of its original, or those that this one had earlier
  pub data HasEdgesOf (firsts : List (StateIndex × FirstEdges)) (from : StateIndex) (state copy : State L) : Type 0 where
    as_now : copy.shifts ≡ state.shifts → copy.gotos ≡ state.gotos → HasEdgesOf firsts from state copy
    as_first : (first : FirstEdges) → Contains firsts (from, first) → copy.shifts ≡ first.shifts → copy.gotos ≡ first.gotos →
        HasEdgesOf firsts from state copy

  alike_more : (o p : ℕ → ℕ) (count : ℕ) (same : (n : ℕ) → n < count → p n ≡ o n) (state original : State L) →
      AreEdgesBelow count state.shifts → AreEdgesBelow count state.gotos → LeadAlike o state.shifts state.gotos original →
      LeadAlike p state.shifts state.gotos original
  alike_more o p count same state original shifts gotos h = record {
    shifts_alike = alike_origins o p count same state.shifts shifts ∙ h.shifts_alike;
    gotos_alike = alike_origins o p count same state.gotos gotos ∙ h.gotos_alike;
  }

-- a copy comes
module _ {L : Type 0} (copies : List (StateIndex × StateIndex)) (firsts : List (StateIndex × FirstEdges)) (states : List (State L))
    (state copy : State L) (number from : StateIndex) (last : number.0 ≡ length states) (at : slice_get states from.0 ≡ Some state)
    (index : copy.index.0 ≡ length states) (items : copy.items ≡ state.items) (reductions : copy.reductions ≡ state.reductions) (edges : HasEdgesOf firsts from state copy) where
  there : from.0 < length states
  there = slice_get_within states from.0 state at

  longer : length (states ++ copy ∷ []) ≡ length states + 1
  longer = length-append states (copy ∷ [])

  module _ (originals : List (State L)) (origin : ℕ → ℕ) (h : AreMerged originals origin copies firsts states) where
    p : ℕ → ℕ
    p = with_copy origin (length states) from.0

    same : (n : ℕ) → n < length states → p n ≡ origin n
    unfolding p
    same n l = below_copy origin (length states) from.0 n l

    copy_below : AreEdgesBelow (length states) copy.shifts × AreEdgesBelow (length states) copy.gotos
    copy_below = go edges
      where
        go : HasEdgesOf firsts from state copy → AreEdgesBelow (length states) copy.shifts × AreEdgesBelow (length states) copy.gotos
        go (as_now s g) = (
          subst (AreEdgesBelow (length states)) (sym s) (h.shifts_below from.0 state at),
          subst (AreEdgesBelow (length states)) (sym g) (h.gotos_below from.0 state at),
        )
        go (as_first first c s g) = (
          subst (AreEdgesBelow (length states)) (sym s) (h.had from first c).shifts_below,
          subst (AreEdgesBelow (length states)) (sym g) (h.had from first c).gotos_below,
        )

    copy_alike : (original : State L) → slice_get originals (origin from.0) ≡ Some original → LeadAlike origin copy.shifts copy.gotos original
    copy_alike original is = go edges
      where
        go : HasEdgesOf firsts from state copy → LeadAlike origin copy.shifts copy.gotos original
        go (as_now s g) =
            let e = h.each from.0 state at in
            let o : e.original ≡ original = some_same e.original original (sym e.at ∙ is) in record {
              shifts_alike = ap (edges_by_origin origin) s ∙ e.edges.shifts_alike ∙ ap (λ (x : State L). edges_by_origin (λ n. n) x.shifts) o;
              gotos_alike = ap (edges_by_origin origin) g ∙ e.edges.gotos_alike ∙ ap (λ (x : State L). edges_by_origin (λ n. n) x.gotos) o;
            }
        go (as_first first c s g) =
            let e = h.had from first c in
            let o : e.original ≡ original = some_same e.original original (sym e.at ∙ is) in record {
              shifts_alike = ap (edges_by_origin origin) s ∙ e.edges.shifts_alike ∙ ap (λ (x : State L). edges_by_origin (λ n. n) x.shifts) o;
              gotos_alike = ap (edges_by_origin origin) g ∙ e.edges.gotos_alike ∙ ap (λ (x : State L). edges_by_origin (λ n. n) x.gotos) o;
            }

    old_stands : (k : ℕ) (t : State L) → slice_get states k ≡ Some t → StandsFor originals p (p k) t
    old_stands k t e =
        let s = h.each k t e in record {
          original = s.original;
          at = ap (slice_get originals) (same k (slice_get_within states k t e)) ∙ s.at;
          items = s.items;
          reductions = s.reductions;
          edges = alike_more origin p (length states) same t s.original (h.shifts_below k t e) (h.gotos_below k t e) s.edges;
        }

    new_stands : (k : ℕ) → k ≡ length states → StandsFor originals p (p k) copy
    unfolding p
    new_stands k e =
        let s = h.each from.0 state at in record {
          original = s.original;
          at = ap (slice_get originals) (at_copy origin (length states) from.0 k e) ∙ s.at;
          items = items ∙ s.items;
          reductions = reductions ∙ s.reductions;
          edges = alike_more origin p (length states) same copy s.original copy_below.0 copy_below.1 (copy_alike s.original s.at);
        }

    below : {K : Type 0} (es : List (K × StateIndex)) → AreEdgesBelow (length states) es → AreEdgesBelow (length (states ++ copy ∷ [])) es
    below es b = below_longer (length states) (length (states ++ copy ∷ [])) es (omega (arith, longer)) b

    spreads_here : AreMerged originals p (copies ++ (number, from) ∷ []) firsts (states ++ copy ∷ [])
    unfolding p
    spreads_here = record {
      each = λ k t e. ⊎_elim
          (λ a. old_stands k t a)
          (λ b. subst (λ (v : State L). StandsFor originals p (p k) v) b.1 (new_stands k b.0)) (got_push states k copy t e);
      shifts_below = λ k t e. below t.shifts (⊎_elim
          (λ a. h.shifts_below k t a)
          (λ b. subst (λ (v : State L). AreEdgesBelow (length states) v.shifts) b.1 copy_below.0) (got_push states k copy t e));
      gotos_below = λ k t e. below t.gotos (⊎_elim
          (λ a. h.gotos_below k t a)
          (λ b. subst (λ (v : State L). AreEdgesBelow (length states) v.gotos) b.1 copy_below.1) (got_push states k copy t e));
      copied = λ c f e. ⊎_elim
          (λ a. same c.0 (h.within c f a).0 ∙ h.copied c f a ∙ sym (same f.0 (h.within c f a).1))
          (λ b. at_copy origin (length states) from.0 c.0 (ap (λ (q : StateIndex × StateIndex). q.0.0) (sym b) ∙ last)
          ∙ ap (λ (q : StateIndex × StateIndex). origin q.1.0) b
          ∙ sym (same f.0 (subst (λ (q : StateIndex × StateIndex). q.1.0 < length states) b there)))
          (Contains-push_cases copies (number, from) (c, f) e);
      within = λ c f e. ⊎_elim
          (λ a. let z = h.within c f a in (omega (arith, z.0, longer), omega (arith, z.1, longer)))
          (λ b. subst (λ (q : StateIndex × StateIndex). (q.0.0 < length (states ++ copy ∷ [])) × (q.1.0 < length (states ++ copy ∷ []))) b
          (omega (arith, last, longer), omega (arith, there, longer)))
          (Contains-push_cases copies (number, from) (c, f) e);
      had = λ m first e.
          let d = h.had m first e in record {
            original = d.original;
            at = ap (slice_get originals) (same m.0 (h.had_within m first e)) ∙ d.at;
            edges = record {
              shifts_alike = alike_origins origin p (length states) same first.shifts d.shifts_below ∙ d.edges.shifts_alike;
              gotos_alike = alike_origins origin p (length states) same first.gotos d.gotos_below ∙ d.edges.gotos_alike;
            };
            shifts_below = below first.shifts d.shifts_below;
            gotos_below = below first.gotos d.gotos_below;
          };
      had_within = λ m first e. let z = h.had_within m first e in omega (arith, z, longer);
      first_state = same 0 (omega (arith, there)) ∙ h.first_state;
    }

  pub copied_keeps : (left : ℕ) → 0 < left →
      KeepsSpread copies firsts states left (copies ++ (number, from) ∷ []) firsts (states ++ copy ∷ []) (left - 1)
  copied_keeps left some = record {
    spread = λ originals origin h. record {
      new_origin = p originals origin h;
      extends = same originals origin h;
      merged = spreads_here originals origin h;
    };
    kept = λ k t e. (t, after_push states (copy ∷ []) k t e, same_state t);
    numbered = λ k t e behind. ⊎_elim
        (λ a. let z = slice_get_within states k t a in absurd (omega (arith, z, behind)))
        (λ b. ap (λ (s : State L). s.index.0) (sym b.1) ∙ index ∙ sym b.0) (got_push states k copy t e);
    count = omega (arith, longer, some);
    grown = omega (arith, longer);
  }

module _ {L : Type 0} (copies mid_copies new_copies : List (StateIndex × StateIndex)) (firsts mid_firsts new_firsts : List (StateIndex × FirstEdges))
    (old mid new : List (State L)) (left mid_left new_left : ℕ) (f : KeepsSpread copies firsts old left mid_copies mid_firsts mid mid_left)
    (g : KeepsSpread mid_copies mid_firsts mid mid_left new_copies new_firsts new new_left) where
  both_numbered : (n : ℕ) (state : State L) → slice_get new n ≡ Some state → length old ≤ n → state.index.0 ≡ n
  both_numbered n state at behind = ⊎_elim
      (λ l.
      let m = some_at mid n l in
      let k = g.kept n m.0 m.1 in
      let same : k.0 ≡ state = some_same k.0 state (sym k.1 ∙ at) in
      ap (λ (s : State L). s.index.0) (sym same) ∙ ap (λ (i : StateIndex). i.0) k.2.index ∙ f.numbered n m.0 m.1 behind)
      (λ l. g.numbered n state at l) (below_or n (length mid))

  both_spread : (originals : List (State L)) (origin : ℕ → ℕ) → AreMerged originals origin copies firsts old →
      StayMerged originals origin (length old) new_copies new_firsts new
  both_spread originals origin h =
      let a = f.spread originals origin h in
      let b = g.spread originals a.new_origin a.merged in record {
        new_origin = b.new_origin;
        extends = λ n l. b.extends n (omega (arith, l, f.grown)) ∙ a.extends n l;
        merged = b.merged;
      }

  -- one thing after the other
  pub keeps_both : KeepsSpread copies firsts old left new_copies new_firsts new new_left
  keeps_both = record {
    spread = both_spread;
    kept = λ n state at.
        let a = f.kept n state at in
        let b = g.kept n a.0 a.1 in (
          b.0,
          b.1,
          record { index = b.2.index ∙ a.2.index; items = b.2.items ∙ a.2.items; reductions = b.2.reductions ∙ a.2.reductions },
        );
    numbered = both_numbered;
    count = g.count ∙ f.count;
    grown = omega (arith, f.grown, g.grown);
  }
