-- Sets that are in others, and ends that are: for the test of what is carried.
use Rattle.std.proofs.Common.{◌≡◌, ◌∙◌, ◌↔◌, ℕ, Bool, true, false, ◌||◌, List, Some}
use Rattle.std.proofs.Common.{refl, sym, ap, subst, ⊎_elim, get_or, slice_get}
use Rattle.std.specs.Prelude.{not}
use Rattle.lalrpop_sets.specs.AscendingLists.{has}
use Rattle.lalrpop_lr1_core.proofs.NoConflictLemmas.{at_mapped, mapped_at}
use Rattle.lalrpop_lr1_first.proofs.ListLemmas.{at_read_set, or_cases, or_right}
use Rattle.lalrpop_lr1_first.specs.Numbers.{set_of_number}
use Rattle.lalrpop_lr1_check_lookaheads.specs.Ends.{AreEnds, EndKey, HasEndMark, end_key}
use Rattle.lalrpop_lr1_check_lookaheads.specs.ListTests.{HoldsAtEach}
use Rattle.lalrpop_lr1_check_lookaheads.proofs.EndKeyLemmas.{end_within}
use Rattle.lalrpop_lr1_check_lookaheads.specs.declared.lookaheads.ends.End.{End}
use Rattle.lalrpop_lr1_check_lookaheads.specs.declared.lookaheads.ends.Ends.{Ends}

-- nothing comes from a set just where all of it is there
pub all_there : (all some joined : List ℕ) (came : Bool) → ((k : ℕ) → has joined k ≡ (has all k || has some k)) →
    (came ≡ false → joined ≡ all) → (came ≡ true → (k : ℕ) × (has joined k ≡ true) × (has all k ≡ false)) →
    (not came ≡ true) ↔ ((k : ℕ) → has some k ≡ true → has all k ≡ true)
all_there all some joined true says same grown = (
  λ e. let w : ⊥ = cc in absurd w,
  λ h.
      let (k, a, b) = grown refl in
      absurd (⊎_elim
      (λ c. let w : ⊥ = cc in w)
      (λ c. let d = h k c in let w : ⊥ = cc in w) (or_cases (has all k) (has some k) (sym (says k) ∙ a))),
)
all_there all some joined false says same grown = (
  λ e k h. ap (λ l. has l k) (sym (same refl)) ∙ says k ∙ or_right (has all k) (has some k) h,
  λ h. refl,
)

-- the tokens of the end at a place are all among those that the others have for it
abbrev pub IsEndWithin : Ends → Ends → ℕ → End → Type 0
IsEndWithin some all j end =
    (k : ℕ) → has (set_of_number some.sets.items j) k ≡ true → HasEndMark all (end_key end) (Some k)

-- the test of the end with this number
pub end_is_tested : (some all : Ends) (n : ℕ) (end : End) (read : List ℕ) (r : Bool) → AreEnds some →
    slice_get some.keys.keys n ≡ Some end → read ≡ get_or some.sets.items n read →
    ((r ≡ true) ↔ ((k : ℕ) → has read k ≡ true → HasEndMark all (end_key end) (Some k))) → (r ≡ true) ↔ IsEndWithin some all n end
end_is_tested some all n end read r are at is says =
    subst (λ l. (r ≡ true) ↔ ((k : ℕ) → has l k ≡ true → HasEndMark all (end_key end) (Some k)))
    (at_read_set some.sets.items n read (end_within some n end are at) is) says

-- each end is within the others just where they have all tokens
pub each_within : (some all : Ends) → HoldsAtEach (IsEndWithin some all) some.keys.keys
    ↔ ((end : EndKey) (k : ℕ) → HasEndMark some end (Some k) → HasEndMark all end (Some k))
each_within some all = (
  λ each end k (j, at, h).
      let u = at_mapped end_key some.keys.keys j end at in
      subst (λ e. HasEndMark all e (Some k)) u.2 (each j u.0 u.1 k h),
  λ within j end at k h. within (end_key end) k (j, mapped_at end_key some.keys.keys j end at, h),
)
