-- Terminals that ascend, numbered by their places; for what tables ask of a grammar.
use Rattle.std.specs.Prelude.{Bool, true, false, Some, cond, slice_get}
use Rattle.std.proofs.Common.{◌≡◌, ◌∙◌, ℕ, zero, suc, ◌+◌, List, [], ◌∷◌, refl, ap, sym, subst, inl}
use Rattle.std.proofs.Common.{inr, arith, Ordering}
use Rattle.std.specs.declared.cmp.Ordering.TheVariants.{Less, Equal, Greater}
use Rattle.std.specs.BTreeMap.{is_at}
use Rattle.std.specs.List.{AllByRecursion}
use Rattle.std.specs.List.Sorted.{IsStrictlySortedBy}
use Rattle.std.specs.Map.{lookup}
use Rattle.std.specs.Ordering.{is_eq}
use Rattle.lalrpop_grammar_symbols.specs.contracts.terminal.TerminalStringOrd.TheImpl as terminals
use Rattle.lalrpop_grammar_symbols.specs.declared.terminal.TerminalString.{TerminalString}
use Rattle.lalrpop_grammar_language.specs.Among.{Among}
use Rattle.lalrpop_grammar_repr.specs.Maps.{at_terminal}
use Rattle.lalrpop_norm_lower.specs.LoweredLists.{with_places}
use Rattle.lalrpop_norm_lower.proofs.OrderLemmas.{equal_terminals}

abbrev R : TerminalString → TerminalString → Ordering
R = (terminals.ghosts).cmp

itself : (t : TerminalString) → is_eq (R t t) ≡ true
itself t = (equal_terminals t t).1 refl

less_differs : (o : Ordering) → o ≡ Less → is_eq o ≡ true → ⊥
less_differs Less e h = let wrong : ⊥ = cc in wrong
less_differs Equal e h = let wrong : ⊥ = cc in wrong
less_differs Greater e h = let wrong : ⊥ = cc in wrong

apart : (b : Bool) → b ≡ true → b ≡ false → ⊥
apart true e f = let wrong : ⊥ = cc in wrong
apart false e f = let wrong : ⊥ = cc in wrong

-- what stands behind a terminal is another one
later_differs : (x : TerminalString) (xs : List TerminalString) → AllByRecursion (λ y. R x y ≡ Less) xs →
    (j : ℕ) (t : TerminalString)
    → slice_get xs j ≡ Some t → is_eq (R t x) ≡ false
later_differs x [] all j t e = absurd (let wrong : ⊥ = cc in wrong)
later_differs x (y ∷ ys) all zero t e =
    let same : y ≡ t = cc in
    go (is_eq (R t x)) refl (subst (λ z. R x z ≡ Less) same all.0)
  where
    go : (b : Bool) → is_eq (R t x) ≡ b → R x t ≡ Less → is_eq (R t x) ≡ false
    go false h less = h
    go true h less =
        let same : t ≡ x = (equal_terminals t x).0 h in
        absurd (less_differs (R x t) less ((equal_terminals x t).1 (sym same)))
later_differs x (y ∷ ys) all (suc j) t e = later_differs x ys all.1 j t e

-- a terminal's number is its place
pub place_numbered : (k : ℕ) (xs : List TerminalString) → IsStrictlySortedBy R xs → (j : ℕ) (t : TerminalString)
    → slice_get xs j ≡ Some t → at_terminal t (with_places k xs) ≡ Some (k + j)
unfolding IsStrictlySortedBy
place_numbered k [] sorted j t e = absurd (let wrong : ⊥ = cc in wrong)
place_numbered k (x ∷ xs) sorted zero t e =
    let same : x ≡ t = cc in
    ap (λ b. cond b (Some k) (lookup (is_at (R t)) (with_places (k + 1) xs))) (subst (λ z. is_eq (R t z) ≡ true) (sym same) (itself t))
    ∙ ap Some (let sum : k ≡ k + 0 = omega arith in sum)
place_numbered k (x ∷ xs) sorted (suc j) t e =
    ap (λ b. cond b (Some k) (lookup (is_at (R t)) (with_places (k + 1) xs))) (later_differs x xs sorted.0 j t e)
    ∙ place_numbered (k + 1) xs sorted.1 j t e ∙ ap Some (let sum : k + 1 + j ≡ k + suc j = omega arith in sum)

-- and a number is a place
pub number_placed : (k : ℕ) (xs : List TerminalString) (m : ℕ) (t : TerminalString) → at_terminal t (with_places k xs) ≡ Some m
    → (j : ℕ) × (m ≡ k + j) × (slice_get xs j ≡ Some t)
number_placed k [] m t e = absurd (let wrong : ⊥ = cc in wrong)
number_placed k (x ∷ xs) m t e = go (is_eq (R t x)) refl e (number_placed (k + 1) xs m t)
  where
    go : (b : Bool) → is_eq (R t x) ≡ b → cond b (Some k) (lookup (is_at (R t)) (with_places (k + 1) xs)) ≡ Some m
        → (at_terminal t (with_places (k + 1) xs) ≡ Some m → (j : ℕ) × (m ≡ k + 1 + j) × (slice_get xs j ≡ Some t))
        → (j : ℕ) × (m ≡ k + j) × (slice_get (x ∷ xs) j ≡ Some t)
    go true h f later =
        let number : k ≡ m = cc in
        (0, omega (arith, number), ap Some (sym ((equal_terminals t x).0 h)))
    go false h f later = let r = later f in let n = r.1 in (suc r.0, omega (arith, n), r.2)

-- a terminal of the list has a number
pub among_numbered : (k : ℕ) (xs : List TerminalString) (t : TerminalString) → Among xs t
    → (m : ℕ) × (at_terminal t (with_places k xs) ≡ Some m)
among_numbered k [] t i = absurd i
among_numbered k (x ∷ xs) t i = go (is_eq (R t x)) refl i (among_numbered (k + 1) xs t)
  where
    go : (b : Bool) → is_eq (R t x) ≡ b → Among (x ∷ xs) t
        → (Among xs t → (m : ℕ) × (at_terminal t (with_places (k + 1) xs) ≡ Some m))
        → (m : ℕ) × (cond (is_eq (R t x)) (Some k) (lookup (is_at (R t)) (with_places (k + 1) xs)) ≡ Some m)
    go true h j later = (k, ap (λ b. cond b (Some k) (lookup (is_at (R t)) (with_places (k + 1) xs))) h)
    go false h (inl same) later =
        absurd (apart (is_eq (R t x)) ((equal_terminals t x).1 (sym same)) h)
    go false h (inr j) later =
        let r = later j in
        (r.0, ap (λ b. cond b (Some k) (lookup (is_at (R t)) (with_places (k + 1) xs))) h ∙ r.1)
