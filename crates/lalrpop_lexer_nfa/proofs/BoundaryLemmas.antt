-- Where ranges begin and end: what a loop over them has pushed. For the function `cuts`.
use Rattle.std.proofs.Common.{◌≡◌, ℕ, ◌+◌, ◌≤◌, ◌⊎◌, List, [], ◌∷◌, ◌++◌, Contains, inl, inr, ⊎_elim}
use Rattle.std.proofs.Common.{sym, subst}
use Rattle.std.proofs.lemmas.List.Elements.{Contains-push, Contains-push_cases, Contains-append_left, Contains-append_right}
use Rattle.lalrpop_lexer_nfa.proofs.ListLemmas.{Contains-nil, Contains-cons_cases}
use Rattle.lalrpop_lexer_nfa.specs.Ranges.{IsBoundary}
use Rattle.lalrpop_lexer_nfa.specs.declared.test.Test.{Test}

-- a cut of the first range, or of the others
abbrev pub IsCutOf : Test → ℕ → Type 0
IsCutOf t n = (t.start ≤ t.end) × ((n ≡ t.start) ⊎ (n ≡ t.end + 1))

pub split_cut : (t : Test) (rest : List Test) (n : ℕ) → IsBoundary (t ∷ rest) n → IsCutOf t n ⊎ IsBoundary rest n
split_cut t rest n h =
    ⊎_elim (λ e. inl (let P : Test → Type 0 = λ s. IsCutOf s n in subst P (sym e) (h.2, h.3))) (λ more. inr (h.0, more, h.2, h.3))
    (Contains-cons_cases t rest h.0 h.1)

-- the next range has its cuts pushed: each cut is among those pushed or of the ranges left
pub more_all : (keys rest old : List Test) (t : Test) (cs : List ℕ) → old ≡ t ∷ rest →
    ((n : ℕ) → IsBoundary keys n → Contains cs n ⊎ IsBoundary old n) →
    (n : ℕ) → IsBoundary keys n → Contains ((cs ++ t.start ∷ []) ++ (t.end + 1) ∷ []) n ⊎ IsBoundary rest n
more_all keys rest old t cs e before n h =
    ⊎_elim
    (λ there. inl (Contains-append_left _ _ n (Contains-append_left _ _ n there)))
    (λ cut. ⊎_elim
    (λ own. inl (⊎_elim
    (λ at. rw at (Contains-append_left _ _ t.start (Contains-push cs t.start)))
    (λ at. rw at (Contains-push _ (t.end + 1))) own.1))
    inr (split_cut t rest n (rw e at cut)))
    (before n h)

-- the next range has no numbers: each cut is among those pushed or of the ranges left
pub none_all : (keys rest old : List Test) (t : Test) (cs : List ℕ) → old ≡ t ∷ rest → (t.start ≤ t.end → ⊥) →
    ((n : ℕ) → IsBoundary keys n → Contains cs n ⊎ IsBoundary old n) →
    (n : ℕ) → IsBoundary keys n → Contains cs n ⊎ IsBoundary rest n
none_all keys rest old t cs e empty before n h =
    ⊎_elim inl (λ cut. ⊎_elim (λ own. absurd (empty own.0)) inr (split_cut t rest n (rw e at cut))) (before n h)

-- the next range has its cuts pushed: all that was pushed is a cut
pub more_only : (keys : List Test) (t : Test) (cs : List ℕ) → Contains keys t → t.start ≤ t.end →
    ((n : ℕ) → Contains cs n → IsBoundary keys n) →
    (n : ℕ) → Contains ((cs ++ t.start ∷ []) ++ (t.end + 1) ∷ []) n → IsBoundary keys n
more_only keys t cs among some before n h =
    ⊎_elim
    (λ first. ⊎_elim (before n) (λ e. (t, among, some, inl (sym e))) (Contains-push_cases cs t.start n first))
    (λ e. (t, among, some, inr (sym e)))
    (Contains-push_cases _ (t.end + 1) n h)

-- the ranges left behind the first one are among all ranges too
pub fewer : (keys rest old : List Test) (t : Test) → old ≡ t ∷ rest → ((s : Test) → Contains old s → Contains keys s) →
    (s : Test) → Contains rest s → Contains keys s
fewer keys rest old t e before s h = before s (rw e (Contains-append_right (t ∷ []) rest s h))

-- the first of the ranges left is among all ranges
pub the_first : (keys rest old : List Test) (t : Test) → old ≡ t ∷ rest → ((s : Test) → Contains old s → Contains keys s)
    → Contains keys t
the_first keys rest old t e before = before t (rw e (Contains-append_left (t ∷ []) rest t (Contains-push [] t)))

-- where no range is left, none has a cut
pub no_cut : (old : List Test) (n : ℕ) → old ≡ [] → IsBoundary old n → ⊥
no_cut old n e h = Contains-nil h.0 (rw e at h.1)
