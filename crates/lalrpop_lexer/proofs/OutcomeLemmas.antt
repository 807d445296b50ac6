-- One more pattern that matches, or that doesn't. For the choice of the winner.
use Rattle.std.proofs.Common.{◌≡◌, ℕ, zero, suc, ◌+◌, ◌-◌, ◌<◌, ◌≤◌, ◌⊎◌, List, [], ◌∷◌, ◌++◌}
use Rattle.std.proofs.Common.{length, get_or, Contains, inl, inr, ⊎_elim, sym, ap, ◌∙◌, subst, arith}
use Rattle.std.specs.List.Sorted.{IsNonDecreasing}
use Rattle.std.specs.Ordering.{match_ordering}
use Rattle.std.specs.Cmp.{nat_cmp_is}
use Rattle.std.specs.declared.cmp.Ordering.{Ordering}
use Rattle.std.specs.declared.cmp.Ordering.TheVariants.{Less, Equal, Greater}
use Rattle.std.proofs.lemmas.Bool.{cases_lt, cases_eq, cases_order}
use Rattle.std.proofs.lemmas.List.{get_or_default}
use Rattle.std.proofs.lemmas.List.Elements.{Contains-push, Contains-push_cases, Contains-append_left}
use Rattle.lalrpop_lexer_nfa.proofs.ListLemmas.{Contains-nil}
use Rattle.lalrpop_lexer.specs.declared.outcome.Outcome.{Outcome}
use Rattle.lalrpop_lexer.specs.declared.outcome.Outcome.TheVariants.{Nothing, Wins, Ties}
use Rattle.lalrpop_lexer.specs.Outcome.{IsBest, IsLastTie, IsOutcome, IsOutcomeBelow, outcome_with}

module _ (M : ℕ → Type 0) (ps : List ℕ) (n : ℕ) where
  -- below n, or n itself
  below_more : (k : ℕ) → k < n + 1 → (k < n) ⊎ (k ≡ n)
  below_more k l = ⊎_elim inl (λ (g : n ≤ k). inr (omega arith)) (cases_lt k n)

  pub outcome_skip : (o : Outcome) → (M n → ⊥) → IsOutcome M ps n o → IsOutcome M ps (n + 1) o
  outcome_skip Nothing none h = λ k l m. ⊎_elim (λ less. h k less m) (λ at. none (subst M at m)) (below_more k l)
  outcome_skip (Wins e) none h = record {
    inside = omega (arith, h.inside);
    matches = h.matches;
    above = λ f l m apart. ⊎_elim (λ less. h.above f less m apart) (λ at. absurd (none (subst M at m))) (below_more f l);
  }
  outcome_skip (Ties e f) none h = record {
    apart = h.apart;
    inside = omega (arith, h.inside);
    first = h.first;
    second = h.second;
    same = h.same;
    greatest = λ g l m. ⊎_elim (λ less. h.greatest g less m) (λ at. absurd (none (subst M at m))) (below_more g l);
    last = λ a b order l ma mb. ⊎_elim (λ less. h.last a b order less ma mb) (λ at. absurd (none (subst M at mb))) (below_more b l);
  }

  pub first_wins : M n → IsOutcome M ps n Nothing → IsBest M ps (n + 1) n
  first_wins m h = record {
    inside = omega arith;
    matches = m;
    above = λ f l mf apart. ⊎_elim (λ less. absurd (h f less mf)) (λ at. absurd (apart at)) (below_more f l);
  }

  -- the new one is above all
  pub best_over_best : (e : ℕ) → M n → get_or ps e 0 < get_or ps n 0 → IsBest M ps n e → IsBest M ps (n + 1) n
  best_over_best e m more h = record {
    inside = omega arith;
    matches = m;
    above = λ f l mf apart. ⊎_elim
        (λ less. ⊎_elim (λ (at : f ≡ e). rw at more) (λ (other : f ≡ e → ⊥). omega (arith, h.above f less mf other))
        (cases_eq f e))
        (λ at. absurd (apart at)) (below_more f l);
  }

  pub best_stays : (e : ℕ) → get_or ps n 0 < get_or ps e 0 → IsBest M ps n e → IsBest M ps (n + 1) e
  best_stays e less_one h = record {
    inside = omega (arith, h.inside);
    matches = h.matches;
    above = λ f l mf apart. ⊎_elim (λ less. h.above f less mf apart) (λ at. rw at less_one) (below_more f l);
  }

  pub best_tied : (e : ℕ) → M n → get_or ps n 0 ≡ get_or ps e 0 → IsBest M ps n e → IsLastTie M ps (n + 1) e n
  best_tied e m same h = record {
    apart = h.inside;
    inside = omega arith;
    first = h.matches;
    second = m;
    same = sym same;
    greatest = λ g l mg. ⊎_elim
        (λ less. ⊎_elim (λ (at : g ≡ e). rw at (omega arith)) (λ (other : g ≡ e → ⊥). omega (arith, h.above g less mg other))
        (cases_eq g e))
        (λ at. rw at (omega (arith, same))) (below_more g l);
    last = λ a b order l ma mb ties top. (
      omega arith,
      λ at. ⊎_elim (λ (is : a ≡ e). let le : a ≤ e = omega arith in le)
          (λ (other : a ≡ e → ⊥). absurd (omega (arith, h.above a (omega arith) ma other))) (cases_eq a e),
    );
  }

  pub ties_stay : (e f : ℕ) → get_or ps n 0 < get_or ps f 0 → IsLastTie M ps n e f → IsLastTie M ps (n + 1) e f
  ties_stay e f less_one h = record {
    apart = h.apart;
    inside = omega (arith, h.inside);
    first = h.first;
    second = h.second;
    same = h.same;
    greatest = λ g l mg. ⊎_elim (λ less. h.greatest g less mg) (λ at. rw at (omega (arith, h.same))) (below_more g l);
    last = λ a b order l ma mb ties top. ⊎_elim (λ less. h.last a b order less ma mb ties top)
        (λ at. let P : ℕ → Type 0 = λ k. get_or ps k 0 ≡ get_or ps e 0 in
        let y : get_or ps n 0 ≡ get_or ps e 0 = subst P at top in absurd (omega (arith, h.same))) (below_more b l);
  }

  pub ties_more : (e f : ℕ) → M n → get_or ps n 0 ≡ get_or ps f 0 → IsLastTie M ps n e f → IsLastTie M ps (n + 1) f n
  ties_more e f m same h = record {
    apart = h.inside;
    inside = omega arith;
    first = h.second;
    second = m;
    same = sym same;
    greatest = λ g l mg. ⊎_elim (λ less. omega (arith, h.greatest g less mg, h.same)) (λ at. rw at (omega (arith, same)))
        (below_more g l);
    last = λ a b order l ma mb ties top. (
      omega arith,
      λ at.
          let below : a < n = omega arith in
          ⊎_elim (λ (high : f < a). let x = h.last f a high below h.second ma (sym top ∙ sym ties) (ties ∙ top ∙ sym h.same) in
          omega (arith, x.0)) (λ (low : a ≤ f). low) (cases_lt f a),
    );
  }

  pub best_over_ties : (e f : ℕ) → M n → get_or ps f 0 < get_or ps n 0 → IsLastTie M ps n e f → IsBest M ps (n + 1) n
  best_over_ties e f m more h = record {
    inside = omega arith;
    matches = m;
    above = λ g l mg apart. ⊎_elim (λ less. omega (arith, h.greatest g less mg, h.same)) (λ at. absurd (apart at)) (below_more g l);
  }

  -- one more pattern that matches
  pub outcome_join : (o : Outcome) → M n → IsOutcome M ps n o → IsOutcome M ps (n + 1) (outcome_with ps o n)
  outcome_join Nothing m h = first_wins m h
  outcome_join (Wins e) m h =
      let a = get_or ps n 0 in
      let b = get_or ps e 0 in
      let P : Ordering → Type 0 = λ r. IsOutcome M ps (n + 1) (match_ordering r (Wins e) (Ties e n) (Wins n)) in
      ⊎_elim (λ (same : a ≡ b). subst P (nat_cmp_is a b Equal same) (best_tied e m same h))
      (⊎_elim (λ (less : a < b). subst P (nat_cmp_is a b Less less) (best_stays e less h))
      (λ (more : b < a). subst P (nat_cmp_is a b Greater more) (best_over_best e m more h)))
      (cases_order a b)
  outcome_join (Ties e f) m h =
      let a = get_or ps n 0 in
      let b = get_or ps f 0 in
      let P : Ordering → Type 0 = λ r. IsOutcome M ps (n + 1) (match_ordering r (Ties e f) (Ties f n) (Wins n)) in
      ⊎_elim (λ (same : a ≡ b). subst P (nat_cmp_is a b Equal same) (ties_more e f m same h))
      (⊎_elim (λ (less : a < b). subst P (nat_cmp_is a b Less less) (ties_stay e f less h))
      (λ (more : b < a). subst P (nat_cmp_is a b Greater more) (best_over_ties e f m more h)))
      (cases_order a b)

-- none of the patterns from n up to m matches
skip_by : (M : ℕ → Type 0) (ps : List ℕ) (d n : ℕ) (o : Outcome) → ((k : ℕ) → n ≤ k → k < n + d → M k → ⊥)
    → IsOutcome M ps n o → IsOutcome M ps (n + d) o
skip_by M ps zero n o none h = let P : ℕ → Type 0 = λ k. IsOutcome M ps k o in let e : n ≡ n + 0 = omega arith in subst P e h
skip_by M ps (suc d) n o none h =
    let P : ℕ → Type 0 = λ k. IsOutcome M ps k o in
    let e : n + 1 + d ≡ n + suc d = omega arith in
    subst P e (skip_by M ps d (n + 1) o (λ k low high. none k (omega arith) (omega arith))
    (outcome_skip M ps n o (none n (omega arith) (omega arith)) h))

pub outcome_skip_to : (M : ℕ → Type 0) (ps : List ℕ) (n m : ℕ) (o : Outcome) → n ≤ m
    → ((k : ℕ) → n ≤ k → k < m → M k → ⊥) → IsOutcome M ps n o → IsOutcome M ps m o
outcome_skip_to M ps n m o order none h =
    let P : ℕ → Type 0 = λ k. IsOutcome M ps k o in
    let e : n + (m - n) ≡ m = omega arith in
    subst P e (skip_by M ps (m - n) n o (λ k low high. none k low (omega arith)) h)

pub outcome_within : (M : ℕ → Type 0) (ps : List ℕ) (n l : ℕ) (o : Outcome) → n ≤ l → IsOutcome M ps n o
    → IsOutcomeBelow l o
outcome_within M ps n l Nothing order h = tt
outcome_within M ps n l (Wins e) order h = omega (arith, h.inside)
outcome_within M ps n l (Ties e f) order h = omega (arith, h.inside)

-- the patterns below `next` are weighed, and each other one that matches stands in the list from the place `done` on
pub record IsWeighing (M : ℕ → Type 0) (ps : List ℕ) (patterns : List ℕ) (done next : ℕ) (o : Outcome) : Type 0 where
  pub within : next ≤ length ps
  pub so_far : IsOutcome M ps next o
  pub waits : (k : ℕ) → k < length ps → M k → (k < next)
      ⊎ ((j : ℕ) × (done ≤ j) × (j < length patterns) × (get_or patterns j 0 ≡ k))

-- before the loop no pattern is weighed, and each one that matches stands in the list
pub weigh_start : (M : ℕ → Type 0) (ps : List ℕ) (patterns : List ℕ) → ((k : ℕ) → M k → Contains patterns k)
    → IsWeighing M ps patterns 0 0 Nothing
weigh_start M ps patterns all = record {
  within = omega arith;
  so_far = λ k l m. omega arith;
  waits = λ k l m. let h = all k m in inr (h.0, omega arith, h.1, get_or_default patterns h.0 0 k h.1 ∙ h.2);
}

-- one more pattern of the list is weighed, which changes the outcome
pub weigh_take : (M : ℕ → Type 0) (ps : List ℕ) (patterns : List ℕ) (done next p : ℕ) (o : Outcome) → IsNonDecreasing patterns
    → ((k : ℕ) → Contains patterns k → M k) → done < length patterns → p ≡ get_or patterns done 0 →
    next ≤ p → p < length ps → IsWeighing M ps patterns done next o
    → IsWeighing M ps patterns (done + 1) (p + 1) (outcome_with ps o p)
weigh_take M ps patterns done next p o ascending only l at low high h = record {
  within = omega arith;
  so_far = outcome_join M ps p o (only p (done, l, get_or_default patterns done p 0 l ∙ sym at))
      (outcome_skip_to M ps next p o low
      (λ k from below m. ⊎_elim (λ (weighed : k < next). omega arith)
      (λ waits. let up = ascending done waits.0 0 waits.1 waits.2 in omega (arith, up, at, waits.3))
      (h.waits k (omega arith) m))
      h.so_far);
  waits = λ k below m. ⊎_elim (λ (weighed : k < next). inl (omega arith))
      (λ waits. ⊎_elim (λ (later : done < waits.0). inr (waits.0, omega arith, waits.2, waits.3))
      (λ (here : waits.0 ≤ done). let same : waits.0 ≡ done = omega (arith, waits.1) in
      inl (omega (arith, ap (λ j. get_or patterns j 0) same, waits.3, at)))
      (cases_lt done waits.0))
      (h.waits k below m);
}

-- one more of the list that was weighed before, or is no pattern's number, is passed over
pub weigh_pass : (M : ℕ → Type 0) (ps : List ℕ) (patterns : List ℕ) (done next p : ℕ) (o : Outcome)
    → p ≡ get_or patterns done 0 → (p < next) ⊎ (length ps ≤ p) →
    IsWeighing M ps patterns done next o → IsWeighing M ps patterns (done + 1) next o
weigh_pass M ps patterns done next p o at out h = record {
  within = h.within;
  so_far = h.so_far;
  waits = λ k below m. ⊎_elim inl
      (λ waits. ⊎_elim (λ (later : done < waits.0). inr (waits.0, omega arith, waits.2, waits.3))
      (λ (here : waits.0 ≤ done).
      let same : waits.0 ≡ done = omega (arith, waits.1) in
      let is : k ≡ p = omega (arith, ap (λ j. get_or patterns j 0) same, waits.3, at) in
      ⊎_elim (λ (weighed : p < next). inl (omega arith)) (λ (over : length ps ≤ p). absurd (omega arith)) out)
      (cases_lt done waits.0))
      (h.waits k below m);
}

-- after the last one of the list, the outcome is that of all patterns
pub weigh_end : (M : ℕ → Type 0) (ps : List ℕ) (patterns : List ℕ) (done next : ℕ) (o : Outcome) → length patterns ≤ done
    → IsWeighing M ps patterns done next o → IsOutcome M ps (length ps) o
weigh_end M ps patterns done next o over h =
    outcome_skip_to M ps next (length ps) o h.within
    (λ k from below m. ⊎_elim (λ (weighed : k < next). omega arith) (λ waits. omega (arith, waits.1, waits.2)) (h.waits k below m))
    h.so_far

-- the patterns whose accepting states are among the first members of a set
pub record ArePatterns (set patterns : List ℕ) : Type 0 where
  pub only : (k : ℕ) → Contains patterns k → Contains set (3 + k)
  pub all : (k : ℕ) → Contains set (3 + k) → Contains patterns k

-- an empty set has the accepting state of no pattern
pub no_patterns : ArePatterns [] []
no_patterns = record { only = λ k h. absurd (Contains-nil k h); all = λ k h. absurd (Contains-nil (3 + k) h) }

-- one more member that is the accepting state of a pattern adds that pattern
pub patterns_more : (set patterns : List ℕ) (q k : ℕ) → q ≡ 3 + k → ArePatterns set patterns
    → ArePatterns (set ++ q ∷ []) (patterns ++ k ∷ [])
patterns_more set patterns q k is h = record {
  only = λ j m. ⊎_elim (λ there. Contains-append_left set (q ∷ []) (3 + j) (h.only j there))
      (λ (at : k ≡ j). let P : ℕ → Type 0 = Contains (set ++ q ∷ []) in
      let e : q ≡ 3 + j = omega arith in subst P e (Contains-push set q)) (Contains-push_cases patterns k j m);
  all = λ j m. ⊎_elim (λ there. Contains-append_left patterns (k ∷ []) j (h.all j there))
      (λ (at : q ≡ 3 + j). let P : ℕ → Type 0 = Contains (patterns ++ k ∷ []) in
      let e : k ≡ j = omega arith in subst P e (Contains-push patterns k)) (Contains-push_cases set q (3 + j) m);
}

-- one more member that is no accepting state adds no pattern
pub patterns_skip : (set patterns : List ℕ) (q : ℕ) → q < 3 → ArePatterns set patterns → ArePatterns (set ++ q ∷ []) patterns
patterns_skip set patterns q low h = record {
  only = λ j m. Contains-append_left set (q ∷ []) (3 + j) (h.only j m);
  all = λ j m. ⊎_elim (λ there. h.all j there) (λ (at : q ≡ 3 + j). absurd (omega arith)) (Contains-push_cases set q (3 + j) m);
}
