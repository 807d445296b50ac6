-- Computed: the sums' grammar of one name with a sign in front: 1 = 2 '7'; 1 = '7'; 2 = nothing. The least tree of 1 has two leaves and
-- nodes, by the second production, and none of 1 is empty.
use Rattle.std.proofs.Common.{◌≡◌, ℕ, ◌≤◌, ◌⊎◌, inl, inr, false, [], ◌∷◌, length, refl, sym, ap, arith}
use Rattle.std.proofs.Common.{None, Some, ◌∙◌}
use Rattle.lalrpop_lr1_theory.specs.Productions.{Production, nonterminal, terminal}
use Rattle.lalrpop_lr1_theory.specs.Trees.{Forest, IsTreeOf, leaf, node, nodes, none, reduce, roots, shift}
use Rattle.lalrpop_lr1_theory.proofs.ExampleLemmas.{head_same, name, name_same, nonterminal_is, not_nonterminal, production, quoted}
use Rattle.lalrpop_lr1_least_trees.specs.LeastForests.{CountsLeast, HasLeastRoot, HaveLeastMoves, IsTreeOfKind}

abbrev signed : Production
signed = production 0 (name 1) (nonterminal (name 2) ∷ terminal (quoted 7) ∷ [])

abbrev plain : Production
plain = production 1 (name 1) (terminal (quoted 7) ∷ [])

abbrev unsigned : Production
unsigned = production 2 (name 2) []

abbrev Grammar : Production → Type 0
Grammar p = (p ≡ signed) ⊎ (p ≡ plain) ⊎ (p ≡ unsigned)

-- trees of the name
abbrev Named : ℕ → Forest → Type 0
Named n ts = IsTreeOf Grammar (name n) ts

abbrev plain_tree : Forest
plain_tree = node plain (leaf (quoted 7) none) none

abbrev signed_tree : Forest
signed_tree = node signed (node unsigned none (leaf (quoted 7) none)) none

abbrev empty_tree : Forest
empty_tree = node unsigned none none

is_plain : Named 1 plain_tree
is_plain = (refl, (inr (inl refl), refl, tt, tt))

is_signed : Named 1 signed_tree
is_signed = (refl, (inl refl, refl, (inr (inr refl), refl, tt, tt), tt))

is_empty : Named 2 empty_tree
is_empty = (refl, (inr (inr refl), refl, tt, tt))

as_many : (ts : Forest) → length (roots ts) ≤ nodes ts
as_many none = omega arith
as_many (leaf t ts) = omega (arith, as_many ts)
as_many (node p cs ts) = omega (arith, as_many ts)

has_symbol : (p : Production) → Grammar p → p.left ≡ name 1 → 1 ≤ length p.right
has_symbol p (inl e) l = omega (arith, ap (λ (x : Production). length x.right) e)
has_symbol p (inr (inl e)) l = omega (arith, ap (λ (x : Production). length x.right) e)
has_symbol p (inr (inr e)) l =
    absurd (omega (arith, name_same 2 1 (sym (ap (λ (x : Production). x.left) e) ∙ l)))

two_at_least : (ts : Forest) → Named 1 ts → 2 ≤ nodes ts
two_at_least none t = absurd (omega (arith, ap length t.0))
two_at_least (leaf u ts) t =
    absurd (not_nonterminal u (name 1) (head_same (terminal u) (nonterminal (name 1)) (roots ts) [] t.0))
two_at_least (node p cs ts) t =
    let l = nonterminal_is p.left (name 1) (head_same (nonterminal p.left) (nonterminal (name 1)) (roots ts) [] t.0) in
    omega (arith, has_symbol p t.1.0 l, as_many cs, ap length t.1.1)

one_at_least : (n : ℕ) (ts : Forest) → Named n ts → 1 ≤ nodes ts
one_at_least n ts t = omega (arith, as_many ts, ap length t.0)

-- the right count, one that no tree has, and that of a tree which isn't least
counted_right : CountsLeast (Named 1) (Some 2)
counted_right = record { tree = plain_tree; wanted = is_plain; is = refl; least = λ ts t. two_at_least ts t }

too_few : CountsLeast (Named 1) (Some 1) → ⊥
too_few h = omega (arith, h.is, two_at_least h.tree h.wanted)

not_least : CountsLeast (Named 1) (Some 3) → ⊥
not_least h = omega (arith, h.least plain_tree is_plain)

not_none : CountsLeast (Named 1) None → ⊥
not_none h = h plain_tree is_plain

-- the right production, one at the root of a greater tree, and one of another name
plain_right : HasLeastRoot (Named 1) (Some plain)
plain_right = record { children = leaf (quoted 7) none; wanted = is_plain; least = λ ts t. two_at_least ts t }

signed_not_least : HasLeastRoot (Named 1) (Some signed) → ⊥
signed_not_least h = omega (arith, h.least plain_tree is_plain, as_many h.children, ap length h.wanted.1.1)

other_name : HasLeastRoot (Named 1) (Some unsigned) → ⊥
other_name h = omega
    (arith, name_same 2 1 (nonterminal_is (name 2) (name 1) (head_same (nonterminal (name 2)) (nonterminal (name 1)) [] [] h.wanted.0)))

-- the right moves, those of a greater tree, and those of no tree
moves_right : HaveLeastMoves (Named 1) (Some (shift (quoted 7) ∷ reduce plain ∷ []))
moves_right = record { trees = plain_tree; wanted = is_plain; moves_are = refl; least = λ ts t. two_at_least ts t }

-- the least empty tree of 2; 1 has none, so none may be told
empty_right : CountsLeast (IsTreeOfKind Grammar (name 2) false) (Some 1)
empty_right = record { tree = empty_tree; wanted = (is_empty, refl); is = refl; least = λ ts t. one_at_least 2 ts t.0 }

empty_not_none : HasLeastRoot (IsTreeOfKind Grammar (name 2) false) None → ⊥
empty_not_none h = h empty_tree (is_empty, refl)
