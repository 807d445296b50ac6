-- Computed: 2 = nothing; 2 = '8'. Trees of 2 '7' have at least two leaves and nodes, none of them has no leaves, and some begin with '7'
-- behind the empty tree of 2.
use Rattle.std.proofs.Common.{◌≡◌, ◌⊎◌, List, [], ◌∷◌, refl, inl, inr, None, Some, ap, arith, length}
use Rattle.std.proofs.Common.{length-append, min, ◌-◌, ◌^◌}
use Rattle.lalrpop_lr1_theory.specs.Productions.{Production, Symbol, nonterminal, terminal}
use Rattle.lalrpop_lr1_theory.specs.Trees.{Forest, leaf, moves, node, nodes, none, reduce, roots, shift, yield}
use Rattle.lalrpop_lr1_theory.proofs.ExampleLemmas.{name, production, quoted}
use Rattle.lalrpop_lr1_least_trees.specs.RestForests.{AnyLeaves, BeginsWith, CountsRest, HaveRestMoves, NoLeaves}

abbrev unsigned : Production
unsigned = production 1 (name 2) []

abbrev minus : Production
minus = production 2 (name 2) (terminal (quoted 8) ∷ [])

abbrev Grammar : Production → Type 0
Grammar p = (p ≡ unsigned) ⊎ (p ≡ minus)

abbrev rest : List Symbol
rest = nonterminal (name 2) ∷ terminal (quoted 7) ∷ []

abbrev digit : Forest
digit = node unsigned none (leaf (quoted 7) none)

-- right: a rest with trees, one without leaves, one that begins behind an empty symbol, and one that doesn't
rest_counts : CountsRest Grammar rest AnyLeaves (Some 2)
rest_counts =
    record { rest = record { trees = digit; over = (inl refl, refl, tt, tt); roots_are = refl; wanted = tt }; is = refl }

empty_counts : CountsRest Grammar (nonterminal (name 2) ∷ []) NoLeaves (Some 1)
empty_counts = record {
  rest = record { trees = node unsigned none none; over = (inl refl, refl, tt, tt); roots_are = refl; wanted = refl };
  is = refl;
}

rest_is_not_empty : CountsRest Grammar rest NoLeaves None
rest_is_not_empty none o e w = let z : ⊥ = cc in z
rest_is_not_empty (leaf t ts) o e w = let z : ⊥ = cc in z
rest_is_not_empty (node p cs none) o e w = let z : ⊥ = cc in z
rest_is_not_empty (node p cs (leaf t ts)) o e w = omega (arith, ap length w, length-append (yield cs) (t ∷ yield ts))
rest_is_not_empty (node p cs (node q ds ts)) o e w = let z : ⊥ = cc in z

digit_begins : HaveRestMoves Grammar rest (BeginsWith (quoted 7)) (Some (reduce unsigned ∷ shift (quoted 7) ∷ []))
digit_begins = record {
  rest = record { trees = digit; over = (inl refl, refl, tt, tt); roots_are = refl; wanted = refl };
  moves_are = refl;
}

sign_begins : HaveRestMoves Grammar rest (BeginsWith (quoted 8))
    (Some (shift (quoted 8) ∷ reduce minus ∷ shift (quoted 7) ∷ []))
sign_begins = record {
  rest = record {
    trees = node minus (leaf (quoted 8) none) (leaf (quoted 7) none);
    over = (inr refl, refl, tt, tt);
    roots_are = refl;
    wanted = refl;
  };
  moves_are = refl;
}

-- wrong: none where there are such trees, a count of none of them, and moves that lack a tree
not_none : CountsRest Grammar rest (BeginsWith (quoted 7)) None → ⊥
not_none h = h digit (inl refl, refl, tt, tt) refl refl

other_count : CountsRest Grammar (terminal (quoted 7) ∷ []) AnyLeaves (Some 2) → ⊥
other_count h = go h.rest.trees h.rest.roots_are h.is
  where
    go : (ts : Forest) → roots ts ≡ terminal (quoted 7) ∷ [] → min (nodes ts) (2 ^ 64 - 1) ≡ 2 → ⊥
    go none e c = let z : ⊥ = cc in z
    go (leaf t none) e c = omega (arith, c)
    go (leaf t (leaf u ts)) e c = let z : ⊥ = cc in z
    go (leaf t (node p cs ts)) e c = let z : ⊥ = cc in z
    go (node p cs ts) e c = let z : ⊥ = cc in z

other_moves : HaveRestMoves Grammar rest (BeginsWith (quoted 7)) (Some (shift (quoted 7) ∷ [])) → ⊥
other_moves h = go h.rest.trees h.rest.roots_are h.moves_are
  where
    go : (ts : Forest) → roots ts ≡ rest → shift (quoted 7) ∷ [] ≡ moves ts → ⊥
    go none e m = let z : ⊥ = cc in z
    go (leaf t ts) e m = let z : ⊥ = cc in z
    go (node p cs none) e m = let z : ⊥ = cc in z
    go (node p cs (leaf t ts)) e m =
        omega (arith, ap length m, length-append (moves cs) (reduce p ∷ shift t ∷ moves ts))
    go (node p cs (node q ds ts)) e m = let z : ⊥ = cc in z
