-- What two sets share, and the conflicts of pairs: for the search of conflicts.
use Rattle.std.proofs.Common.{◌≡◌, ◌∙◌, ℕ, ◌<◌, ◌≤◌, ◌⊎◌, inl, inr, true}
use Rattle.std.proofs.Common.{false, ◌&&◌, ◌||◌, List, [], ◌∷◌, ◌++◌}
use Rattle.std.proofs.Common.{ap, sym, refl, arith, map, filter}
use Rattle.std.specs.Prelude.{flat_map, nat_eq}
use Rattle.std.specs.List.{range_with_len}
use Rattle.std.proofs.lemmas.Bool.{cases_lt}
use Rattle.std.proofs.lemmas.Bool.Decides.{nat_tests}
use Rattle.std.proofs.lemmas.List.{append-nil, append_assoc}
use Rattle.std.proofs.lemmas.List.Concat.{flat_map-append}
use Rattle.lalrpop_sets.specs.AscendingLists.{Ascends, AscendsFrom, has}
use Rattle.lalrpop_sets.proofs.AscendingListLemmas.{asc_filter, asc_same, has_above, has_within}
use Rattle.lalrpop_lr1_core.specs.Conflicts.{ReductionEntry, in_both, later_pairs, number_past, pair_conflict, pairs_conflicts}
use Rattle.lalrpop_lr1_core.specs.Conflicts.{sharing_conflict}
use Rattle.lalrpop_lr1_core.specs.declared.conflict.Action.TheVariants as actions
use Rattle.lalrpop_lr1_core.specs.declared.conflict.Conflict.{Conflict}
use Rattle.lalrpop_lr1_core.specs.declared.state_index.StateIndex.{StateIndex}
use Rattle.lalrpop_lr1_core.proofs.ListLemmas.{flat_map-map}

differs : (a b : ℕ) → a < b → nat_eq a b ≡ false
differs a b h = grind (arith, nat_tests)

-- from the number past them on a list has none
has_past : (a : List ℕ) (k : ℕ) → number_past a ≤ k → has a k ≡ false
has_past [] k h = refl
has_past (x ∷ xs) k h =
    ap (λ b. b || has xs k) (differs x k (omega arith)) ∙ has_past xs k (omega arith)

-- what both have
pub has_in_both : (a b : List ℕ) (k : ℕ) → has (in_both a b) k ≡ (has a k && has b k)
unfolding in_both
has_in_both a b k = go (cases_lt k (number_past a))
  where
    go : (k < number_past a) ⊎ (number_past a ≤ k)
        → has (filter (λ j. has a j && has b j) (range_with_len 0 (number_past a))) k ≡ (has a k && has b k)
    go (inl h) = has_within (λ j. has a j && has b j) 0 (number_past a) k (omega arith) (omega arith)
    go (inr h) =
        has_above (λ j. has a j && has b j) 0 (number_past a) k (omega arith) ∙ sym (ap (λ c. c && has b k) (has_past a k h))

both_ascends : (a b : List ℕ) → AscendsFrom 0 (in_both a b)
unfolding in_both
both_ascends a b = asc_filter (λ k. has a k && has b k) 0 (number_past a)

-- an ascending list with what both have is that list
pub both_is : (a b both : List ℕ) → Ascends both → ((k : ℕ) → has both k ≡ (has a k && has b k)) → both ≡ in_both a b
both_is a b both ascends h = asc_same 0 0 both (in_both a b) ascends (both_ascends a b) (λ k. h k ∙ sym (has_in_both a b k))

-- two sets that share nothing have no conflict
pub no_pair : (state : StateIndex) (pair : ReductionEntry × ReductionEntry) (old : List (Conflict (List ℕ)))
    → ((k : ℕ) → (has pair.0.0 k && has pair.1.0 k) ≡ false) → old ≡ old ++ pair_conflict state pair
no_pair state pair old none =
    let shared : [] ≡ in_both pair.0.0 pair.1.0 = both_is pair.0.0 pair.1.0 [] tt (λ k. sym (none k)) in
    sym (append-nil old) ∙ ap (λ s. old ++ sharing_conflict state pair s) shared

has_some : (state : StateIndex) (pair : ReductionEntry × ReductionEntry) (both : List ℕ) (k : ℕ) → has both k ≡ true
    → sharing_conflict state pair both
    ≡ record { state = state; lookahead = both; production = pair.0.1; action = actions.Reduce pair.1.1 } ∷ []
has_some state pair [] k h = let w : ⊥ = cc in absurd w
has_some state pair (j ∷ js) k h = refl

-- two that share something have one, with what they share
pub one_pair : (state : StateIndex) (pair : ReductionEntry × ReductionEntry) (old : List (Conflict (List ℕ))) (both : List ℕ)
    (k : ℕ) → Ascends both → ((j : ℕ) → has both j ≡ (has pair.0.0 j && has pair.1.0 j)) → has pair.0.0 k ≡ true
    → has pair.1.0 k ≡ true
    → old ++ record { state = state; lookahead = both; production = pair.0.1; action = actions.Reduce pair.1.1 } ∷ []
    ≡ old ++ pair_conflict state pair
one_pair state pair old both k ascends h one other =
    ap (λ l. old ++ l) (sym (has_some state pair both k (h k ∙ ap (λ c. c && has pair.1.0 k) one ∙ other))
    ∙ ap (sharing_conflict state pair) (both_is pair.0.0 pair.1.0 both ascends h))

-- one reduction more: first with each behind it, then those behind it
pub pairs-first : (state : StateIndex) (r : ReductionEntry) (rs : List ReductionEntry)
    → pairs_conflicts state (r ∷ rs) ≡ flat_map (λ s. pair_conflict state (r, s)) rs ++ pairs_conflicts state rs
pairs-first state r rs =
    flat_map-append (pair_conflict state) (map (λ s. (r, s)) rs) (later_pairs rs)
    ∙ ap (λ l. l ++ pairs_conflicts state rs) (flat_map-map (pair_conflict state) (λ s. (r, s)) rs)

-- once the conflicts of the first reduction left are added, those of the rest still make up the whole
pub pairs_go_on : (state : StateIndex) (old new whole : List (Conflict (List ℕ))) (left rest : List ReductionEntry)
    (r : ReductionEntry) → left ≡ r ∷ rest → new ≡ old ++ flat_map (λ s. pair_conflict state (r, s)) rest
    → old ++ pairs_conflicts state left ≡ whole → new ++ pairs_conflicts state rest ≡ whole
pairs_go_on state old new whole left rest r first made so =
    ap (λ l. l ++ pairs_conflicts state rest) made
    ∙ append_assoc old (flat_map (λ s. pair_conflict state (r, s)) rest) (pairs_conflicts state rest)
    ∙ sym (ap (λ l. old ++ l) (pairs-first state r rest)) ∙ sym (ap (λ l. old ++ pairs_conflicts state l) first) ∙ so
