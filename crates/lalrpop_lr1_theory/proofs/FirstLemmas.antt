-- Derivations and trees, and trees for symbols that the start reaches: for valid items.
use Rattle.std.proofs.Common.{◌≡◌, ℕ, zero, suc, List, [], ◌∷◌, ◌++◌, map, drop, refl, sym, ap, ◌∙◌, subst, inl}
use Rattle.std.proofs.Common.{inr, arith, Contains}
use Rattle.lalrpop_grammar_symbols.specs.Symbols.{Terminal, Text}
use Rattle.lalrpop_lr1_theory.specs.Productions.{Next, Production, Symbol, first, nonterminal, terminal}
use Rattle.lalrpop_lr1_theory.specs.Trees.{AreOver, Forest, leaf, node, none, roots, yield, ◌and◌}
use Rattle.lalrpop_lr1_theory.specs.FirstSets.{Derives, First1, ends, grows, keeps}
use Rattle.lalrpop_lr1_theory.specs.ValidItems.{NoneBarren, Reaches, onward}
use Rattle.lalrpop_lr1_theory.proofs.TreeLemmas.{over-and, over-split, roots-and, yield-and}

map_append' : {A B : Type 0} (f : A → B) (xs ys : List A) → map f (xs ++ ys) ≡ map f xs ++ map f ys
map_append' f [] ys = refl
map_append' f (x ∷ xs) ys = ap (λ l. f x ∷ l) (map_append' f xs ys)

-- trees whose roots are two lists, as two lists of trees
pub roots_split : (us : Forest) (a b : List Symbol) → roots us ≡ a ++ b →
    (v w : Forest) × (us ≡ v and w) × (roots v ≡ a) × (roots w ≡ b)
roots_split us [] b e = (none, us, refl, refl, e)
roots_split none (X ∷ a) b e = let z : ⊥ = cc in absurd z
roots_split (leaf t us) (X ∷ a) b e =
    let h : terminal t ≡ X = cc in let k : roots us ≡ a ++ b = cc in
    let r = roots_split us a b k in (leaf t r.0, r.1, ap (leaf t) r.2, cc, r.4)
roots_split (node p cs us) (X ∷ a) b e =
    let h : nonterminal p.left ≡ X = cc in let k : roots us ≡ a ++ b = cc in
    let r = roots_split us a b k in (node p cs r.0, r.1, ap (node p cs) r.2, cc, r.4)

module _ (G : Production → Type 0) where
  pub derives-trees : (ts : Forest) → AreOver G ts → Derives G (roots ts) (map terminal (yield ts))
  derives-trees none h = ends
  derives-trees (leaf t ts) h = keeps (terminal t) (derives-trees ts h)
  derives-trees (node p cs ts) h =
      subst (λ w. Derives G (nonterminal p.left ∷ roots ts) w) (sym (map_append' terminal (yield cs) (yield ts)))
      (grows p h.0 (subst (λ xs. Derives G xs (map terminal (yield cs))) h.1 (derives-trees cs h.2)) (derives-trees ts h.3))

  -- trees for a sentential form give trees for what derives it, with the same leaves
  pub graft : (xs ys : List Symbol) → Derives G xs ys → (us : Forest) → AreOver G us → roots us ≡ ys →
      (ts : Forest) × AreOver G ts × (roots ts ≡ xs) × (yield ts ≡ yield us)
  graft xs ys ends us o e = (us, o, e, refl)
  graft xs ys (keeps x {xs = xs'} {ys = ys'} d) us o e =
      let r = roots_split us (x ∷ []) ys' e in
      let o' = over-split G r.0 r.1 (subst (AreOver G) r.2 o) in
      let k = graft xs' ys' d r.1 o'.1 r.4 in (
        r.0 and k.0,
        over-and G r.0 k.0 o'.0 k.1,
        roots-and r.0 k.0 ∙ ap (λ a. a ++ roots k.0) r.3 ∙ ap (λ a. x ∷ a) k.2,
        yield-and r.0 k.0 ∙ ap (λ w. yield r.0 ++ w) k.3 ∙ sym (yield-and r.0 r.1) ∙ ap yield (sym r.2),
      )
  graft xs ys (grows p {xs = xs'} {ys = ys'} {zs = zs} g d d') us o e =
      let r = roots_split us zs ys' e in
      let o' = over-split G r.0 r.1 (subst (AreOver G) r.2 o) in
      let k = graft xs' ys' d' r.1 o'.1 r.4 in
      let j = graft p.right zs d r.0 o'.0 r.3 in (
        node p j.0 k.0,
        (g, j.2, j.1, k.1),
        ap (λ a. nonterminal p.left ∷ a) k.2,
        ap (λ w. w ++ yield k.0) j.3 ∙ ap (λ w. yield r.0 ++ w) k.3 ∙ sym (yield-and r.0 r.1) ∙ ap yield (sym r.2),
      )

  -- what comes first in trees followed by others
  pub first1-trees : (ts us : Forest) → AreOver G ts → First1 G (roots ts) (first (yield us)) (first (yield (ts and us)))
  first1-trees ts us h = go (yield ts) refl (derives-trees ts h)
    where
      go : (w : List Terminal) → yield ts ≡ w → Derives G (roots ts) (map terminal (yield ts)) →
          First1 G (roots ts) (first (yield us)) (first (yield (ts and us)))
      go [] e d = inr (ap first (yield-and ts us ∙ ap (λ v. v ++ yield us) e), subst (λ v. Derives G (roots ts) (map terminal v)) e d)
      go (t ∷ w) e d = inl (
        t,
        ap first (yield-and ts us ∙ ap (λ v. v ++ yield us) e),
        (map terminal w, subst (λ v. Derives G (roots ts) (map terminal v)) e d),
      )

module _ (G : Production → Type 0) (s : Text) where
  -- the start reaches each nonterminal of the symbols
  abbrev pub AllReached : List Symbol → Type 0
  AllReached [] = Unit {0}
  AllReached (terminal t ∷ xs) = AllReached xs
  AllReached (nonterminal B ∷ xs) = Reaches G s B × AllReached xs

  pub reached_head : (x : Symbol) (xs : List Symbol) → AllReached (x ∷ xs) → AllReached (x ∷ [])
  reached_head (terminal t) xs h = tt
  reached_head (nonterminal B) xs h = (h.0, tt)

  pub reached_tail : (x : Symbol) (xs : List Symbol) → AllReached (x ∷ xs) → AllReached xs
  reached_tail (terminal t) xs h = h
  reached_tail (nonterminal B) xs h = h.1

  pub reached_drop : (i : ℕ) (xs : List Symbol) → AllReached xs → AllReached (drop i xs)
  reached_drop zero xs h = h
  reached_drop (suc i) [] h = tt
  reached_drop (suc i) (x ∷ xs) h = reached_drop i xs (reached_tail x xs h)

  reached_contains : (xs : List Symbol) → ((B : Text) → Contains xs (nonterminal B) → Reaches G s B) → AllReached xs
  reached_contains [] h = tt
  reached_contains (terminal t ∷ xs) h = reached_contains xs (λ B k. h B (suc k.0, omega (arith, k.1), k.2))
  reached_contains (nonterminal A ∷ xs) h =
      (h A (0, omega arith, refl), reached_contains xs (λ B k. h B (suc k.0, omega (arith, k.1), k.2)))

  pub reached_right : (p : Production) → Reaches G s p.left → G p → AllReached p.right
  reached_right p r g = reached_contains p.right (λ B k. onward p B r g k)

  pub reached-append : (xs ys : List Symbol) → AllReached xs → AllReached ys → AllReached (xs ++ ys)
  reached-append [] ys h k = k
  reached-append (terminal t ∷ xs) ys h k = reached-append xs ys h k
  reached-append (nonterminal B ∷ xs) ys h k = (h.0, reached-append xs ys h.1 k)

  reached_derived : (xs ys : List Symbol) → Derives G xs ys → AllReached xs → AllReached ys
  reached_derived xs ys ends h = tt
  reached_derived xs ys (keeps (terminal t) {xs = xs'} {ys = ys'} d) h = reached_derived xs' ys' d h
  reached_derived xs ys (keeps (nonterminal B) {xs = xs'} {ys = ys'} d) h = (h.0, reached_derived xs' ys' d h.1)
  reached_derived xs ys (grows p {xs = xs'} {ys = ys'} {zs = zs} g d d') h =
      reached-append zs ys' (reached_derived p.right zs d (reached_right p h.0 g)) (reached_derived xs' ys' d' h.1)

  -- trees for symbols that the start reaches
  pub trees_for : NoneBarren G s → (xs : List Symbol) → AllReached xs → (ts : Forest) × AreOver G ts × (roots ts ≡ xs)
  trees_for nb [] h = (none, tt, refl)
  trees_for nb (terminal t ∷ xs) h = let k = trees_for nb xs h in (leaf t k.0, k.1, ap (λ a. terminal t ∷ a) k.2)
  trees_for nb (nonterminal B ∷ xs) h =
      let k = trees_for nb xs h.1 in let j = nb B h.0 in (
        j.0 and k.0,
        over-and G j.0 k.0 j.1.1 k.1,
        roots-and j.0 k.0 ∙ ap (λ a. a ++ roots k.0) j.1.0
            ∙ ap (λ a. nonterminal B ∷ a) k.2,
      )

  -- trees for symbols that begin as their first set says
  pub first1_trees_for : NoneBarren G s → (xs : List Symbol) (x y : Next) (us : Forest) → AllReached xs → First1 G xs x y →
      first (yield us) ≡ x → (ts : Forest) × AreOver G ts × (roots ts ≡ xs) × (first (yield (ts and us)) ≡ y)
  first1_trees_for nb xs x y us h (inl (t, e, (ys, d))) k =
      let j = trees_for nb ys (reached_derived xs (terminal t ∷ ys) d h) in
      let i = graft G xs (terminal t ∷ ys) d (leaf t j.0) j.1 (ap (λ a. terminal t ∷ a) j.2) in
      (i.0, i.1, i.2, ap first (yield-and i.0 us ∙ ap (λ w. w ++ yield us) i.3) ∙ sym e)
  first1_trees_for nb xs x y us h (inr (e, d)) k =
      let i = graft G xs [] d none tt refl in
      (i.0, i.1, i.2, ap first (yield-and i.0 us ∙ ap (λ w. w ++ yield us) i.3) ∙ k ∙ sym e)
