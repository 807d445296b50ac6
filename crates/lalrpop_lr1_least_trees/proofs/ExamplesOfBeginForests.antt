-- Computed: 1 = 2 '7'; 2 = nothing; 2 = '8'. Trees of 1 begin with '7' by the first production at its place 1, and with '8' at its
-- place 0; none of 2 begins with '7'.
use Rattle.std.proofs.Common.{◌≡◌, ℕ, ◌⊎◌, inl, inr, List, [], ◌∷◌, ◌++◌, length, refl, sym, ap, subst}
use Rattle.std.proofs.Common.{append-nil, arith, None, Some, ◌∙◌, length-append}
use Rattle.lalrpop_grammar_symbols.specs.Symbols.{Terminal}
use Rattle.lalrpop_lr1_theory.specs.Productions.{Production, Symbol, first, nonterminal, terminal}
use Rattle.lalrpop_lr1_theory.specs.Trees.{Forest, IsTreeOf, ◌and◌, leaf, node, none, moves, reduce, roots, shift, yield}
use Rattle.lalrpop_lr1_theory.proofs.ExampleLemmas.{head_same, name, name_same, next_same, nonterminal_is, not_nonterminal, not_terminal}
use Rattle.lalrpop_lr1_theory.proofs.ExampleLemmas.{production, quoted, quoted_same, terminal_same}
use Rattle.lalrpop_lr1_least_trees.specs.BeginForests.{HasBeginRoot, HaveBeginMoves}

abbrev signed : Production
signed = production 0 (name 1) (nonterminal (name 2) ∷ terminal (quoted 7) ∷ [])

abbrev unsigned : Production
unsigned = production 1 (name 2) []

abbrev minus : Production
minus = production 2 (name 2) (terminal (quoted 8) ∷ [])

abbrev Grammar : Production → Type 0
Grammar p = (p ≡ signed) ⊎ (p ≡ unsigned) ⊎ (p ≡ minus)

abbrev no_sign : Forest
no_sign = node unsigned none none

abbrev sign : Forest
sign = node minus (leaf (quoted 8) none) none

abbrev digit : Forest
digit = leaf (quoted 7) none

-- the right places, and the right moves
digit_begins : HasBeginRoot Grammar (name 1) (quoted 7) (Some (signed, 1))
digit_begins = record {
  front = no_sign;
  here = digit;
  behind = none;
  is_tree = (refl, (inl refl, refl, (inr (inl refl), refl, tt, tt), tt));
  place_is = refl;
  one = refl;
  empty = refl;
  begins = refl;
}

sign_begins : HasBeginRoot Grammar (name 1) (quoted 8) (Some (signed, 0))
sign_begins = record {
  front = none;
  here = sign;
  behind = digit;
  is_tree = (refl, (inl refl, refl, (inr (inr refl), refl, tt, tt), tt));
  place_is = refl;
  one = refl;
  empty = refl;
  begins = refl;
}

digit_moves : HaveBeginMoves Grammar (name 1) (quoted 7) (Some (reduce unsigned ∷ shift (quoted 7) ∷ reduce signed ∷ []))
digit_moves = record {
  tree = node signed (no_sign and digit) none;
  begins = ((refl, (inl refl, refl, (inr (inl refl), refl, tt, tt), tt)), refl);
  moves_are = refl;
}

none_of : (ts : Forest) → length (roots ts) ≡ 0 → ts ≡ none
none_of none e = refl
none_of (leaf t ts) e = absurd (omega (arith, e))
none_of (node p cs ts) e = absurd (omega (arith, e))

-- with what a list of trees begins whose first root is a terminal
leaf_first : (ts : Forest) (t u : Terminal) (ss : List Symbol) → roots ts ≡ terminal t ∷ ss → first (yield ts) ≡ Some u → t
    ≡ u
leaf_first none t u ss e f = absurd (omega (arith, ap length e))
leaf_first (leaf x ts) t u ss e f =
    sym (terminal_same x t (head_same (terminal x) (terminal t) (roots ts) ss e)) ∙ next_same x u f
leaf_first (node p cs ts) t u ss e f =
    absurd (not_terminal t p.left (head_same (nonterminal p.left) (terminal t) (roots ts) ss e))

-- no tree of 2 begins with '7'
sign_alone : (p : Production) (cs : Forest) → Grammar p → p.left ≡ name 2 → roots cs ≡ p.right → first (yield cs ++ []) ≡
    Some (quoted 7) → ⊥
sign_alone p cs (inl e) l r f = omega (arith, name_same 1 2 (sym (ap (λ (x : Production). x.left) e) ∙ l))
sign_alone p cs (inr (inl e)) l r f =
    let n = none_of cs (ap length (r ∙ ap (λ (x : Production). x.right) e)) in
    let g : None ≡ Some (quoted 7) = subst (λ ts. first (yield ts ++ []) ≡ Some (quoted 7)) n f in
    let w : ⊥ = cc in w
sign_alone p cs (inr (inr e)) l r f =
    let right = r ∙ ap (λ (x : Production). x.right) e in
    let g : first (yield cs) ≡ Some (quoted 7) = sym (ap first (append-nil (yield cs))) ∙ f in
    omega (arith, quoted_same 8 7 (leaf_first cs (quoted 8) (quoted 7) [] right g))

named : (p : Production) (ts : Forest) (n : ℕ) (ss : List Symbol) → roots (node p none ts) ≡ nonterminal (name n) ∷ ss → p.left
    ≡ name n
named p ts n ss e = nonterminal_is p.left (name n) (head_same (nonterminal p.left) (nonterminal (name n)) (roots ts) ss e)

digit_never : HasBeginRoot Grammar (name 2) (quoted 7) None
digit_never none t = omega (arith, ap length t.0.0)
digit_never (leaf u ts) t = not_nonterminal u (name 2) (head_same (terminal u) (nonterminal (name 2)) (roots ts) [] t.0.0)
digit_never (node p cs ts) t =
    let n = none_of ts (omega (arith, ap length t.0.0)) in
    sign_alone p cs t.0.1.0 (named p ts 2 [] t.0.0) t.0.1.1
    (subst (λ us. first (yield cs ++ yield us) ≡ Some (quoted 7)) n t.1)

-- wrong: another place, another terminal, and none where there is such a tree
other_place : HasBeginRoot Grammar (name 1) (quoted 7) (Some (signed, 0)) → ⊥
other_place h = go h.front h.here h.behind h.is_tree h.place_is h.one h.begins
  where
    go : (front here behind : Forest) → IsTreeOf Grammar (name 1) (node signed (front and (here and behind)) none) →
        length (roots front) ≡ 0 → length (roots here) ≡ 1 → first (yield here) ≡ Some (quoted 7) → ⊥
    go none none behind t p o b = omega (arith, o)
    go none (leaf u us) behind t p o b = not_nonterminal u (name 2)
        (head_same (terminal u) (nonterminal (name 2)) (roots (us and behind)) (terminal (quoted 7) ∷ []) t.1.1)
    go none (node q cs us) behind t p o b =
        let n = none_of us (omega (arith, o)) in
        sign_alone q cs t.1.2.0 (named q (us and behind) 2 (terminal (quoted 7) ∷ []) t.1.1) t.1.2.1
        (subst (λ us. first (yield cs ++ yield us) ≡ Some (quoted 7)) n b)
    go (leaf u us) here behind t p o b = omega (arith, p)
    go (node q cs us) here behind t p o b = omega (arith, p)

not_none : HasBeginRoot Grammar (name 1) (quoted 7) None → ⊥
not_none h = h (node signed (no_sign and digit) none) ((refl, (inl refl, refl, (inr (inl refl), refl, tt, tt), tt)), refl)

other_moves : HaveBeginMoves Grammar (name 1) (quoted 7) (Some []) → ⊥
other_moves h = go h.tree h.begins.0.0 h.moves_are
  where
    go : (ts : Forest) → roots ts ≡ nonterminal (name 1) ∷ [] → [] ≡ moves ts → ⊥
    go none e m = omega (arith, ap length e)
    go (leaf u us) e m = omega (arith, ap length m)
    go (node q cs us) e m = omega (arith, ap length m, length-append (moves cs) (reduce q ∷ moves us))
