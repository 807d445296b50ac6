-- Computed examples of first sets: of `B X` under `A = B "C"; B = "D" or empty; X = "E"`.
use Rattle.std.proofs.Common.{◌≡◌, ℕ, List, [], ◌∷◌, Some, None, refl, inl, inr, ◌⊎◌}
use Rattle.std.proofs.Common.{arith, Contains}
use Rattle.lalrpop_grammar_symbols.specs.Symbols.{Terminal, Text}
use Rattle.lalrpop_lr1_theory.specs.Productions.{Next, Production, Symbol, nonterminal, terminal}
use Rattle.lalrpop_lr1_theory.specs.FirstSets.{Derives, First0, First1, IsClosedTable, TableSays, ends, grows, keeps}
use Rattle.lalrpop_lr1_theory.proofs.ExampleLemmas.{name, name_same, next_same, production, quoted, quoted_same}
use Rattle.lalrpop_lr1_theory.proofs.FirstTableLemmas.{said_first}
use Rattle.lalrpop_lr1_theory.proofs.ListLemmas.{all_of}

-- A, B, C, D, E and X as names and as texts of terminals
abbrev letter_a : ℕ
letter_a = 65

abbrev letter_b : ℕ
letter_b = 66

abbrev letter_c : ℕ
letter_c = 67

abbrev letter_d : ℕ
letter_d = 68

abbrev letter_e : ℕ
letter_e = 69

abbrev letter_x : ℕ
letter_x = 88

abbrev a_right : List Symbol
a_right = nonterminal (name letter_b) ∷ terminal (quoted letter_c) ∷ []

abbrev a_first : Production
a_first = production 0 (name letter_a) a_right

abbrev b_some : Production
b_some = production 1 (name letter_b) (terminal (quoted letter_d) ∷ [])

abbrev b_none : Production
b_none = production 2 (name letter_b) []

abbrev x_first : Production
x_first = production 3 (name letter_x) (terminal (quoted letter_e) ∷ [])

abbrev with_empty : List Production
with_empty = a_first ∷ b_some ∷ b_none ∷ x_first ∷ []

abbrev b_then_x : List Symbol
b_then_x = nonterminal (name letter_b) ∷ nonterminal (name letter_x) ∷ []

has_d : First0 (Contains with_empty) b_then_x (Some (quoted letter_d))
has_d = (
  nonterminal (name letter_x) ∷ [],
  grows b_some (1, omega arith, refl) (keeps (terminal (quoted letter_d)) ends)
      (keeps (nonterminal (name letter_x)) ends),
)

has_e : First0 (Contains with_empty) b_then_x (Some (quoted letter_e))
has_e = (
  [],
  grows b_none (2, omega arith, refl) ends
      (grows x_first (3, omega arith, refl) (keeps (terminal (quoted letter_e)) ends) ends),
)

-- A table that has more than enough, told by lengths and letters: its entries are closed under the productions.
abbrev Entry : Text → Next → Type 0
Entry A None = A ≡ name letter_b
Entry A (Some t) =
    ((A ≡ name letter_a) × ((t ≡ quoted letter_c) ⊎ (t ≡ quoted letter_d)))
    ⊎ (((A ≡ name letter_b) × (t ≡ quoted letter_d)) ⊎ ((A ≡ name letter_x) × (t ≡ quoted letter_e)))

is_closed : IsClosedTable (Contains with_empty) Entry
is_closed p x c h = all_of (λ q. (y : Next) → TableSays Entry q.right y → Entry q.left y) with_empty
    (a_closed, (d_closed, (empty_closed, (e_closed, tt)))) p c x h
  where
    a_closed : (y : Next) → TableSays Entry a_right y → Entry (name letter_a) y
    a_closed None h = let z : ⊥ = cc in absurd z
    a_closed (Some t) (inl (inl h)) = absurd (omega (arith, name_same letter_b letter_a h.0))
    a_closed (Some t) (inl (inr (inl h))) = inl (refl, inr h.1)
    a_closed (Some t) (inl (inr (inr h))) = absurd (omega (arith, name_same letter_b letter_x h.0))
    a_closed (Some t) (inr h) = inl (refl, inl (next_same t (quoted letter_c) h.1))

    d_closed : (y : Next) → TableSays Entry (terminal (quoted letter_d) ∷ []) y → Entry (name letter_b) y
    d_closed None h = refl
    d_closed (Some t) h = inr (inl (refl, next_same t (quoted letter_d) h))

    empty_closed : (y : Next) → TableSays Entry [] y → Entry (name letter_b) y
    empty_closed None h = refl
    empty_closed (Some t) h = let z : ⊥ = cc in absurd z

    e_closed : (y : Next) → TableSays Entry (terminal (quoted letter_e) ∷ []) y → Entry (name letter_x) y
    e_closed None h = let z : ⊥ = cc in absurd z
    e_closed (Some t) h = inr (inr (refl, next_same t (quoted letter_e) h))

no_c : Entry (name letter_b) (Some (quoted letter_c)) → ⊥
no_c (inl h) = omega (arith, name_same letter_b letter_a h.0)
no_c (inr (inl h)) = omega (arith, quoted_same letter_c letter_d h.1)
no_c (inr (inr h)) = omega (arith, name_same letter_b letter_x h.0)

no_c_in_x : Entry (name letter_x) (Some (quoted letter_c)) → ⊥
no_c_in_x (inl h) = omega (arith, name_same letter_x letter_a h.0)
no_c_in_x (inr (inl h)) = omega (arith, name_same letter_x letter_b h.0)
no_c_in_x (inr (inr h)) = omega (arith, quoted_same letter_c letter_e h.1)

-- the terminal behind the nonterminal in another right side isn't there, nor is the end
lacks_c : First0 (Contains with_empty) b_then_x (Some (quoted letter_c)) → ⊥
lacks_c h = go (said_first (Contains with_empty) Entry is_closed b_then_x (Some (quoted letter_c)) h)
  where
    go : TableSays Entry b_then_x (Some (quoted letter_c)) → ⊥
    go (inl k) = no_c k
    go (inr (k, inl l)) = no_c_in_x l
    go (inr (k, inr (l, e))) = let z : ⊥ = cc in absurd z

lacks_end : First0 (Contains with_empty) b_then_x None → ⊥
lacks_end h = go (said_first (Contains with_empty) Entry is_closed b_then_x None h)
  where
    go : TableSays Entry b_then_x None → ⊥
    go k = omega (arith, name_same letter_x letter_b k.1.0)

-- of no symbols the end alone, and `first1` puts what follows in its place
of_nothing : First0 (Contains with_empty) [] None
of_nothing = ends

nothing_else : (t : Terminal) → First0 (Contains with_empty) [] (Some t) → ⊥
nothing_else t (ys, h) = go [] (terminal t ∷ ys) h refl refl
  where
    go : (xs zs : List Symbol) → Derives (Contains with_empty) xs zs → xs ≡ [] → zs ≡ terminal t ∷ ys → ⊥
    go xs zs ends e f = cc
    go xs zs (keeps x d) e f = cc
    go xs zs (grows p c d d') e f = cc

followed : (x : Next) → First1 (Contains with_empty) [] x x
followed x = inr (refl, ends)
