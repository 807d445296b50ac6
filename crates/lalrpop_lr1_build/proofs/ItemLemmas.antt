-- Items that are joined, one state after another: for the items of states that are put together.
use Rattle.std.proofs.Common.{◌≡◌, ◌∙◌, ◌⊎◌, ℕ, zero, suc, ◌+◌, ◌<◌, ◌≤◌, Bool, true, false}
use Rattle.std.proofs.Common.{◌||◌, List, [], ◌∷◌, ◌++◌}
use Rattle.std.proofs.Common.{length, map, take, Some, refl, sym, ap, subst, inl, inr, ⊎_elim, arith}
use Rattle.std.proofs.lemmas.Bool.{cases_lt}
use Rattle.std.proofs.lemmas.Option.{slice_get_within}
use Rattle.std.specs.Prelude.{slice_get}
use Rattle.lalrpop_lr1_theory.proofs.StepLemmas.{some_same}
use Rattle.lalrpop_lr1_core.specs.declared.item.Item.{Item}
use Rattle.lalrpop_lr1_core.specs.declared.state.State.{State}
use Rattle.lalrpop_lr1_theory.specs.JoinedStates.{AreNumbersAsSeen}
use Rattle.lalrpop_lr1_theory.proofs.OrderLemmas.{image_get}
use Rattle.lalrpop_lr1_build.specs.StateCores.{DottedProduction, core_in_state, dotted_production, items_core}
use Rattle.lalrpop_lr1_build.specs.JoinedItems.{AreJoinedFrom, AreJoinedItems, HasInOne, IsJoinedItem, has_at}
use Rattle.lalrpop_lr1_build.proofs.ListLemmas.{take_get, take_whole}
use Rattle.lalrpop_lr1_first.proofs.TableLemmas.{long_map}

-- one joined item more
pub joined_push : (ps qs us : List (Item (List ℕ))) (a b u : Item (List ℕ)) → AreJoinedItems ps qs us → IsJoinedItem a b u →
    AreJoinedItems (ps ++ a ∷ []) (qs ++ b ∷ []) (us ++ u ∷ [])
joined_push [] [] [] a b u h j = (j, tt)
joined_push [] [] (y ∷ us) a b u h j = absurd h
joined_push [] (x ∷ qs) us a b u h j = absurd h
joined_push (x ∷ ps) [] us a b u h j = absurd h
joined_push (x ∷ ps) (y ∷ qs) [] a b u h j = absurd h
joined_push (x ∷ ps) (y ∷ qs) (z ∷ us) a b u h j = (h.0, joined_push ps qs us a b u h.1 j)

-- the items at one more place are joined
pub joined_taken : (ps qs old new : List (Item (List ℕ))) (i : ℕ) (a b u : Item (List ℕ)) → slice_get ps i ≡ Some a →
    slice_get qs i ≡ Some b → AreJoinedItems (take i ps) (take i qs) old → IsJoinedItem a b u → new ≡ old ++ u ∷ [] →
    AreJoinedItems (take (i + 1) ps) (take (i + 1) qs) new
joined_taken ps qs old new i a b u e f are made more =
    subst (AreJoinedItems (take (i + 1) ps) (take (i + 1) qs)) (sym more)
    (subst (λ xs. AreJoinedItems xs (take (i + 1) qs) (old ++ u ∷ [])) (sym (take_get ps i a e))
    (subst (λ xs. AreJoinedItems (take i ps ++ a ∷ []) xs (old ++ u ∷ [])) (sym (take_get qs i b f))
    (joined_push (take i ps) (take i qs) old a b u are made)))

-- all are
pub joined_whole : (ps qs us : List (Item (List ℕ))) (i : ℕ) → length ps ≤ i → length qs ≤ i →
    AreJoinedItems (take i ps) (take i qs) us → AreJoinedItems ps qs us
joined_whole ps qs us i l m are =
    subst (λ xs. AreJoinedItems xs qs us) (take_whole ps i l)
    (subst (λ xs. AreJoinedItems (take i ps) xs us) (take_whole qs i m) are)

-- joined items have the core of the first
pub joined_core : (ps qs us : List (Item (List ℕ))) → AreJoinedItems ps qs us → items_core us ≡ items_core ps
joined_core [] [] [] h = refl
joined_core [] [] (y ∷ us) h = absurd h
joined_core [] (x ∷ qs) us h = absurd h
joined_core (x ∷ ps) [] us h = absurd h
joined_core (x ∷ ps) (y ∷ qs) [] h = absurd h
joined_core (x ∷ ps) (y ∷ qs) (z ∷ us) h =
    ap (λ (c : DottedProduction). c ∷ items_core us) h.0.core
    ∙ ap (λ cs. dotted_production x ∷ cs) (joined_core ps qs us h.1)

pub joined_has : (ps qs us : List (Item (List ℕ))) → AreJoinedItems ps qs us → (j k : ℕ) →
    has_at us j k ≡ (has_at ps j k || has_at qs j k)
joined_has [] [] [] h j k = refl
joined_has [] [] (y ∷ us) h j k = absurd h
joined_has [] (x ∷ qs) us h j k = absurd h
joined_has (x ∷ ps) [] us h j k = absurd h
joined_has (x ∷ ps) (y ∷ qs) [] h j k = absurd h
joined_has (x ∷ ps) (y ∷ qs) (z ∷ us) h zero k = h.0.lookahead k
joined_has (x ∷ ps) (y ∷ qs) (z ∷ us) h (suc j) k = joined_has ps qs us h.1 j k

either : (a b : Bool) → (a || b) ≡ true → (a ≡ true) ⊎ (b ≡ true)
either true b e = inl refl
either false b e = inr e

left : (a b : Bool) → a ≡ true → (a || b) ≡ true
left true b e = refl
left false b e = let z : ⊥ = cc in absurd z

right : (a b : Bool) → b ≡ true → (a || b) ≡ true
right true b e = refl
right false b e = e

-- the items are those of a state with the number, joined with those of the first so many states that have it
pub record AreJoinedSoFar (states : List (State (List ℕ))) (numbers : List ℕ) (number : ℕ) (first : State (List ℕ)) (count : ℕ)
    (items : List (Item (List ℕ))) : Type 0 where
  pub core : items_core items ≡ core_in_state first
  pub within : (j k : ℕ) → has_at items j k ≡ true → HasInOne states numbers number j k
  pub all : (n : ℕ) (state : State (List ℕ)) (j k : ℕ) → n < count → slice_get numbers n ≡ Some number →
      slice_get states n ≡ Some state → has_at state.items.vec j k ≡ true → has_at items j k ≡ true

module _ (states : List (State (List ℕ))) (numbers : List ℕ) (seen : AreNumbersAsSeen (map core_in_state states) numbers)
    (number : ℕ) (first : State (List ℕ)) (place : ℕ) (numbered : slice_get numbers place ≡ Some number)
    (at : slice_get states place ≡ Some first) where
  pub joined_start : (items : List (Item (List ℕ))) → items ≡ first.items.vec →
      AreJoinedSoFar states numbers number first 0 items
  joined_start items e =
      record {
        core = ap items_core e;
        within = λ j k h.
            record {
              place = place;
              state = first;
              number = numbered;
              at = at;
              mark = sym (ap (λ is. has_at is j k) e) ∙ h;
            };
        all = λ n state j k l f g h. absurd (omega (arith, l));
      }

  -- states with the number have the core
  pub core_same : (other : ℕ) (state : State (List ℕ)) → slice_get numbers other ≡ Some number →
      slice_get states other ≡ Some state → core_in_state state ≡ core_in_state first
  core_same other state e f =
      (seen.same other place number number (core_in_state state) (core_in_state first) e numbered
      (image_get core_in_state states other state f) (image_get core_in_state states place first at)).0 refl

  -- so they have as many items as were joined
  pub long_same : (other : ℕ) (state : State (List ℕ)) (count : ℕ) (items : List (Item (List ℕ))) →
      AreJoinedSoFar states numbers number first count items → slice_get numbers other ≡ Some number →
      slice_get states other ≡ Some state → length items ≡ length state.items.vec
  long_same other state count items are e f =
      sym (long_map dotted_production items) ∙ ap length (are.core ∙ sym (core_same other state e f))
      ∙ long_map dotted_production state.items.vec

  module _ (count : ℕ) (items : List (Item (List ℕ))) (are : AreJoinedSoFar states numbers number first count items) where
    -- the state has the number
    pub joined_more : (state : State (List ℕ)) → slice_get states count ≡ Some state → slice_get numbers count ≡ Some number →
        (new : List (Item (List ℕ))) → AreJoinedItems items state.items.vec new →
        AreJoinedSoFar states numbers number first (count + 1) new
    joined_more state here e new made =
        record {
          core = joined_core items state.items.vec new made ∙ are.core;
          within = λ j k h.
              ⊎_elim (λ f. are.within j k f)
              (λ f. record { place = count; state = state; number = e; at = here; mark = f })
              (either (has_at items j k) (has_at state.items.vec j k)
              (sym (joined_has items state.items.vec new made j k) ∙ h));
          all = λ n st j k l f g h.
              joined_has items state.items.vec new made j k
              ∙ ⊎_elim
              (λ (m : n < count). left (has_at items j k) (has_at state.items.vec j k) (are.all n st j k m f g h))
              (λ (m : count ≤ n).
              let z : n ≡ count = omega (arith, l, m) in
              let same = some_same st state (sym g ∙ ap (slice_get states) z ∙ here) in
              right (has_at items j k) (has_at state.items.vec j k) (sym (ap (λ s. has_at s.items.vec j k) same) ∙ h))
              (cases_lt n count);
        }

    -- the state has another number
    pub joined_skip : (other : ℕ) → slice_get numbers count ≡ Some other → (other ≡ number → ⊥) →
        AreJoinedSoFar states numbers number first (count + 1) items
    joined_skip other e ne =
        record {
          core = are.core;
          within = are.within;
          all = λ n st j k l f g h.
              ⊎_elim
              (λ (m : n < count). are.all n st j k m f g h)
              (λ (m : count ≤ n).
              let z : count ≡ n = omega (arith, l, m) in
              absurd (ne (some_same other number (sym e ∙ ap (slice_get numbers) z ∙ f))))
              (cases_lt n count);
        }

  -- all states were looked at
  pub joined_done : (count : ℕ) (items : List (Item (List ℕ))) → length states ≤ count →
      AreJoinedSoFar states numbers number first count items → AreJoinedFrom states numbers place items
  joined_done count items l are =
      record {
        number = number;
        state = first;
        numbered = numbered;
        at = at;
        core = are.core;
        within = are.within;
        all = λ j k h.
            let w = slice_get_within states h.place h.state h.at in
            are.all h.place h.state j k (omega (arith, l, w)) h.number h.at h.mark;
      }
