-- States that are joined, one number after another: for the states that are put together.
use Rattle.std.proofs.Common.{◌≡◌, ◌∙◌, ℕ, ◌+◌, ◌<◌, ◌≤◌, List, [], ◌∷◌, ◌++◌}
use Rattle.std.proofs.Common.{length, map, Some, sym, ap, subst}
use Rattle.std.proofs.Common.{⊎_elim, arith, length-append}
use Rattle.std.proofs.lemmas.Bool.{cases_lt}
use Rattle.std.specs.Prelude.{slice_get}
use Rattle.lalrpop_lr1_theory.proofs.StepLemmas.{some_same}
use Rattle.lalrpop_lr1_core.specs.declared.state.State.{State}
use Rattle.lalrpop_lr1_theory.specs.JoinedStates.{AreNumbersAsSeen}
use Rattle.lalrpop_lr1_build.specs.StateCores.{core_in_state}
use Rattle.lalrpop_lr1_build.specs.JoinedStates.{AreJoinedByNumbers, IsJoinedWith}
use Rattle.lalrpop_lr1_build.proofs.ListLemmas.{get_more}

module _ (states : List (State (List ℕ))) (numbers : List ℕ) where
  pub by_numbers_start : AreJoinedByNumbers states numbers 0 []
  by_numbers_start =
      record {
        each = λ n a l e. absurd (omega (arith, l));
        made = λ a state e. let z : ⊥ = cc in absurd z;
      }

  module _ (place : ℕ) (joined : List (State (List ℕ))) (are : AreJoinedByNumbers states numbers place joined) where
    -- the number is the next one
    pub by_numbers_more : (new : State (List ℕ)) → slice_get numbers place ≡ Some (length joined) →
        IsJoinedWith states numbers place new → AreJoinedByNumbers states numbers (place + 1) (joined ++ new ∷ [])
    by_numbers_more new e made =
        record {
          each = λ n a l f.
              ⊎_elim
              (λ (m : n < place). let w = are.each n a m f in omega (arith, w, length-append joined (new ∷ [])))
              (λ (m : place ≤ n).
              let z : n ≡ place = omega (arith, l, m) in
              let same : length joined ≡ a = some_same (length joined) a (sym e ∙ ap (slice_get numbers) (sym z) ∙ f) in
              omega (arith, same, length-append joined (new ∷ [])))
              (cases_lt n place);
          made = λ a state f.
              ⊎_elim
              (λ g. are.made a state g)
              (λ g. record {
                place = place;
                number = e ∙ ap Some (sym g.1);
                made = subst (IsJoinedWith states numbers place) g.0 made;
              })
              (get_more joined new state a f);
        }

    -- it was given before
    pub by_numbers_skip : (lists : AreNumbersAsSeen (map core_in_state states) numbers) (a : ℕ) →
        slice_get numbers place ≡ Some a → (a ≡ length joined → ⊥) → AreJoinedByNumbers states numbers (place + 1) joined
    by_numbers_skip lists a e ne =
        record {
          each = λ n b l f.
              ⊎_elim
              (λ (m : n < place). are.each n b m f)
              (λ (m : place ≤ n).
              let z : n ≡ place = omega (arith, l, m) in
              let same : a ≡ b = some_same a b (sym e ∙ ap (slice_get numbers) (sym z) ∙ f) in
              subst (λ c. c < length joined) same below)
              (cases_lt n place);
          made = are.made;
        }
      where
        below : a < length joined
        below = ⊎_elim (λ (m : a < length joined). m)
            (λ (m : length joined ≤ a). ⊎_elim
            (λ (k : length joined < a).
            let h = lists.as_seen place a (length joined) e k in
            let w = are.each h.place (length joined) h.earlier h.number in absurd (omega (arith, w)))
            (λ (k : a ≤ length joined). absurd (ne (omega (arith, m, k))))
            (cases_lt (length joined) a))
            (cases_lt a (length joined))

  -- all states were looked at
  pub by_numbers_done : (count : ℕ) (joined : List (State (List ℕ))) → length states ≤ count →
      AreJoinedByNumbers states numbers count joined → AreJoinedByNumbers states numbers (length states) joined
  by_numbers_done count joined h are =
      record {
        each = λ n a l e. are.each n a (omega (arith, l, h)) e;
        made = are.made;
      }
