-- The first transition that reads a number, and what words lead through. For what follows the automaton along a text.
use Rattle.std.proofs.Common.{◌≡◌, ℕ, zero, suc, ◌<◌, ◌≤◌, ◌⊎◌, List, [], ◌∷◌, ◌++◌, length, Bool, true}
use Rattle.std.proofs.Common.{false, cond, ◌&&◌, Some, None, inl, inr, ⊎_elim, sym, ap, ◌∙◌, refl, subst, arith, append_assoc}
use Rattle.std.specs.Prelude.{find, option_map, nat_le}
use Rattle.std.proofs.lemmas.Bool.{leb-true, le-leb}
use Rattle.std.proofs.lemmas.List.{same_from_push}
use Rattle.lalrpop_lexer_nfa.specs.Paths.{Graph, HasTransition}
use Rattle.lalrpop_lexer_nfa.specs.Sets.{IsReachedBy}
use Rattle.lalrpop_lexer.specs.Numbering.{EdgeView, edge_at}
use Rattle.lalrpop_lexer.specs.Simulation.{target_of}

both : (a b : Bool) → (a && b) ≡ true → (a ≡ true) × (b ≡ true)
both true b e = (refl, e)
both false b e = cc

abbrev reads_number : ℕ → EdgeView → Bool
reads_number c e = nat_le e.0 c && nat_le c e.1

-- an edge that leads on reads the number
pub step_some : (es : List EdgeView) (c r : ℕ) → target_of es c ≡ Some r → (k : ℕ) × (k < length es) × ((edge_at es k).0 ≤ c)
    × (c ≤ (edge_at es k).1) × ((edge_at es k).2 ≡ r)
step_some [] c r h = cc
step_some (e ∷ es) c r h = go (step_some es c r) (reads_number c e) refl h
  where
    go : (target_of es c ≡ Some r → (k : ℕ) × (k < length es) × ((edge_at es k).0 ≤ c) × (c ≤ (edge_at es k).1)
        × ((edge_at es k).2 ≡ r)) → (b : Bool) → reads_number c e ≡ b
        → option_map (λ (e : EdgeView). e.2) (cond b (Some e) (find (reads_number c) es)) ≡ Some r →
        (k : ℕ) × (k < length (e ∷ es)) × ((edge_at (e ∷ es) k).0 ≤ c) × (c ≤ (edge_at (e ∷ es) k).1)
        × ((edge_at (e ∷ es) k).2 ≡ r)
    go again true is h = let x = both (nat_le e.0 c) (nat_le c e.1) is in (0, omega arith, leb-true e.0 c x.0, leb-true c e.1 x.1, cc)
    go again false is h = let x = again h in (suc x.0, omega (arith, x.1), x.2, x.3, x.4)

-- where none leads on, none reads the number
pub step_none : (es : List EdgeView) (c : ℕ) → target_of es c ≡ None → (k : ℕ) → k < length es → (edge_at es k).0 ≤ c
    → c ≤ (edge_at es k).1 → ⊥
step_none [] c h k l low high = omega arith
step_none (e ∷ es) c h k l low high = go (step_none es c) (reads_number c e) refl h k l low high
  where
    go : (target_of es c ≡ None → (k : ℕ) → k < length es → (edge_at es k).0 ≤ c → c ≤ (edge_at es k).1 → ⊥)
        → (b : Bool) → reads_number c e ≡ b
        → option_map (λ (e : EdgeView). e.2) (cond b (Some e) (find (reads_number c) es)) ≡ None →
        (k : ℕ) → k < length (e ∷ es) → (edge_at (e ∷ es) k).0 ≤ c → c ≤ (edge_at (e ∷ es) k).1 → ⊥
    go again true is h k l low high = cc
    go again false is h zero l low high =
        let t : reads_number c e ≡ true = rw (le-leb e.0 c low, le-leb c e.1 high) refl in
        let f : true ≡ false = sym t ∙ is in cc
    go again false is h (suc k) l low high = again h k (omega arith) low high

-- a list ends, or it has a last element
last_cases : (v : List ℕ) → (v ≡ []) ⊎ ((y : List ℕ) × ((l : ℕ) × (v ≡ y ++ l ∷ [])))
last_cases [] = inl refl
last_cases (x ∷ v) =
    inr (⊎_elim (λ (none : v ≡ []). ([], (x, ap (λ (w : List ℕ). x ∷ w) none)))
    (λ more. (x ∷ more.0, (more.1.0, ap (λ (w : List ℕ). x ∷ w) more.1.1))) (last_cases v))

-- a word that leads somewhere leads through each of its numbers
pub arrives_before : (t : Graph) (s : ℕ) {w : List ℕ} {q : ℕ} → IsReachedBy t s w q → (u : List ℕ) (c : ℕ) (v : List ℕ)
    → w ≡ u ++ c ∷ v → (p r : ℕ) × IsReachedBy t s u p × HasTransition t p c r
arrives_before t s IsReachedBy.start u c v e = absurd (nothing u e)
  where
    nothing : (u : List ℕ) → [] ≡ u ++ c ∷ v → ⊥
    nothing [] e = cc
    nothing (x ∷ u) e = cc
arrives_before t s (IsReachedBy.epsilon q a lead) u c v e = arrives_before t s a u c v e
arrives_before t s (IsReachedBy.transition {w = x} {r = r} q d a reads) u c v e =
    ⊎_elim
    (λ (none : v ≡ []).
    let same = same_from_push x u d c (e ∙ ap (λ (y : List ℕ). u ++ c ∷ y) none) in
    let P : List ℕ → Type 0 = λ y. IsReachedBy t s y q in
    let Q : ℕ → Type 0 = λ y. HasTransition t q y r in
    (q, r, subst P same.0 a, subst Q same.1 reads))
    (λ more.
    let y = more.0 in
    let l = more.1.0 in
    let same = same_from_push x (u ++ c ∷ y) d l
    (e ∙ ap (λ (z : List ℕ). u ++ c ∷ z) more.1.1 ∙ sym (append_assoc u (c ∷ y) (l ∷ []))) in
    arrives_before t s a u c y same.0)
    (last_cases v)
