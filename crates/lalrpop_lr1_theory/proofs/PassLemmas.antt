-- Each forest that the states make is one of a tree, and the tokens shifted so far begin a sentence: for the law on the ends of runs.
use Rattle.std.proofs.Common.{◌≡◌, ℕ, suc, ◌+◌, List, [], ◌∷◌, ◌++◌, drop, Some, None, refl, sym, ap, ◌∙◌}
use Rattle.std.proofs.Common.{subst, arith, append_assoc}
use Rattle.lalrpop_grammar_symbols.specs.Symbols.{Terminal, Text}
use Rattle.lalrpop_lr1_theory.specs.Productions.{Next, Production, Symbol, first, nonterminal, terminal}
use Rattle.lalrpop_lr1_theory.specs.Trees.{AreOver, Forest, IsTreeOf, leaf, node, nodes, none, roots, yield, ◌and◌}
use Rattle.lalrpop_lr1_theory.specs.Places.{IsWayTo, Way, lefts, plug, rights, top, under}
use Rattle.lalrpop_lr1_theory.specs.FirstSets.{First1}
use Rattle.lalrpop_lr1_theory.specs.ValidItems.{CarriesOn, NoneBarren, begins, closes, itself, shifts}
use Rattle.lalrpop_lr1_theory.specs.Automata.{Closure, IsBegun, IsCover, IsShifted, Walk, closed, goes, in_kernel, stands}
use Rattle.lalrpop_lr1_theory.specs.Answers.{Passes}
use Rattle.lalrpop_lr1_theory.proofs.FirstLemmas.{AllReached, first1-trees, reached_drop, reached_right, roots_split, trees_for}
use Rattle.lalrpop_lr1_theory.proofs.PlaceLemmas.{forest-and, forest-plug, forest-zero, yield-plug}
use Rattle.lalrpop_lr1_theory.proofs.SoundnessLemmas.{no_roots}
use Rattle.lalrpop_lr1_theory.proofs.StepLemmas.{tree_from_fits}
use Rattle.lalrpop_lr1_theory.proofs.TreeLemmas.{and-none, nodes-and, over-and, over-split, roots-and, yield-and}
use Rattle.lalrpop_lr1_theory.proofs.ValidItemLemmas.{open_from_carried}

-- trees whose leaves begin with this
abbrev before : Next → Forest
before None = none
before (Some t) = leaf t none

first-before : (x : Next) → first (yield (before x)) ≡ x
first-before None = refl
first-before (Some t) = refl

over-before : (G : Production → Type 0) (x : Next) → AreOver G (before x)
over-before G None = tt
over-before G (Some t) = tt

-- where the first root of trees is a terminal, the first of them is its leaf
pub first_leaf : (t : Terminal) (b : List Symbol) (us : Forest) → roots us ≡ terminal t ∷ b → (vs : Forest) × (us ≡ leaf t vs)
first_leaf t b none e = let z : ⊥ = cc in absurd z
first_leaf t b (leaf u us) e = let z : u ≡ t = cc in (us, ap (λ v. leaf v us) z)
first_leaf t b (node p cs us) e = let z : ⊥ = cc in absurd z

module _ (G : Production → Type 0) (s : Text) where
  -- the way through other trees with the same roots on the left
  pub record Refitted (c : Way) (h : Forest) (ss : List Symbol) : Type 0 where
    pub way : Way
    pub lefts_are : lefts way ≡ h
    pub rights_are : rights way ≡ rights c
    pub fits : IsWayTo G s way ss

  pub refit : (c : Way) (h : Forest) (ss : List Symbol) → roots (lefts c) ≡ roots h → AreOver G h → IsWayTo G s c ss →
      Refitted c h ss
  refit top h ss e o f = record { way = top; lefts_are = sym (no_roots h (sym e)); rights_are = refl; fits = f }
  refit (under c l p r) h ss e o f =
      let k = roots_split h (roots (lefts c)) (roots l) (sym e ∙ roots-and (lefts c) l) in
      let o' = over-split G k.0 k.1 (subst (AreOver G) k.2 o) in
      let i = refit c k.0 (roots l ++ nonterminal p.left ∷ roots r) (sym k.3) o'.0 f.4 in
      record {
        way = under i.way k.1 p r;
        lefts_are = ap (λ v. v and k.1) i.lefts_are ∙ sym k.2;
        rights_are = ap (λ v. r and v) i.rights_are;
        fits = (f.0, f.1, o'.1, f.3, subst (λ v. IsWayTo G s i.way (v ++ nonterminal p.left ∷ roots r)) (sym k.4) i.fits);
      }

  -- an item carried on the roots of a forest has a tree with this very forest
  pub record At (f : Forest) (p : Production) (i : ℕ) (x : Next) : Type 0 where
    pub way : Way
    pub l : Forest
    pub r : Forest
    pub a : Forest
    pub b : Forest
    pub tree : IsTreeOf G s (plug (under way l p r) (a and b))
    pub forest_is : lefts (under way l p r) and a ≡ f
    pub front : roots b ≡ drop i p.right
    pub next : first (yield (rights (under way l p r))) ≡ x

  pub at_from_carried : NoneBarren G s → (f : Forest) → AreOver G f → (p : Production) (i : ℕ) (x : Next) →
      CarriesOn G s (roots f) p i x → At f p i x
  at_from_carried nb f over p i x k =
      let o = open_from_carried G s nb (roots f) p i x k in
      let c = under o.way o.l p o.r in
      let j = roots_split f (roots (lefts c)) (roots o.a) (sym o.on ∙ roots-and (lefts c) o.a) in
      let w = over-split G j.0 j.1 (subst (AreOver G) j.2 over) in
      let m = roots_split j.0 (roots (lefts o.way)) (roots o.l) (j.3 ∙ roots-and (lefts o.way) o.l) in
      let v = over-split G m.0 m.1 (subst (AreOver G) m.2 w.0) in
      let q = refit o.way m.0 (roots o.l ++ nonterminal p.left ∷ roots o.r) (sym m.3) v.0 o.fits.4 in
      let t = trees_for G s nb (drop i p.right) (reached_drop G s i p.right (reached_right G s p o.reached o.fits.0)) in
      record {
        way = q.way;
        l = m.1;
        r = o.r;
        a = j.1;
        b = t.0;
        tree = tree_from_fits G s (under q.way m.1 p o.r) (j.1 and t.0) (
          o.fits.0,
          roots-and j.1 t.0 ∙ ap (λ y. y ++ roots t.0) j.4 ∙ ap (λ y. roots o.a ++ y) t.2
              ∙ o.front,
          v.1,
          o.fits.3,
          subst (λ y. IsWayTo G s q.way (y ++ nonterminal p.left ∷ roots o.r)) (sym m.4) q.fits,
        )
            (over-and G j.1 t.0 w.1 t.1);
        forest_is = ap (λ y. (y and m.1) and j.1) q.lefts_are ∙ ap (λ y. y and j.1) (sym m.2) ∙ sym j.2;
        front = t.2;
        next = ap (λ y. first (yield (o.r and y))) q.rights_are ∙ o.next;
      }

module _ (G : Production → Type 0) (s : Text) (Item : ℕ → Production → ℕ → Type 0)
    (Edge : ℕ → Symbol → ℕ → Type 0) (cover : IsCover G s Item Edge) (nb : NoneBarren G s) where
  carried_closure : (g : List Symbol) (K : Production → ℕ → Type 0) →
      ((p : Production) (i : ℕ) → K p i → (x : Next) × CarriesOn G s g p i x) → (p : Production) (i : ℕ) →
      Closure G K p i → (x : Next) × CarriesOn G s g p i x
  carried_closure g K all p i (in_kernel q j k) = all q j k
  carried_closure g K all p i (closed {p = q} {i = j} b q' c d u) =
      let k = carried_closure g K all q j c in
      let o = open_from_carried G s nb g q j k.0 k.1 in
      let t = trees_for G s nb b (subst (AllReached G s) d (reached_drop G s j q.right (reached_right G s q o.reached o.fits.0))).1 in
      let y = first (yield (t.0 and before k.0)) in (
        y,
        closes b q' y k.1 d u
            (subst (λ v. First1 G b v y) (first-before k.0)
            (subst (λ v. First1 G v (first (yield (before k.0))) y) t.2 (first1-trees G t.0 (before k.0) t.1))),
      )

  -- an item of a state is carried, with some lookahead, on each list of symbols that leads there
  pub some_carried : (g : List Symbol) (n : ℕ) → Walk Edge g n → (p : Production) (i : ℕ) → Item n p i →
      (x : Next) × CarriesOn G s g p i x
  some_carried g n stands p i k =
      carried_closure [] (IsBegun G s) (λ q j u. (None, subst (λ v. CarriesOn G s [] q v None) (sym u.2) (begins q u.0 u.1))) p i
      ((cover.start p i).0 k)
  some_carried g n (goes {g = h} {n = m} x m' w e) p i k =
      carried_closure (h ++ x ∷ []) (IsShifted Item m x)
      (λ q j u. let c = some_carried h m w q u.dot u.item in
      (c.0, subst (λ v. CarriesOn G s (h ++ x ∷ []) q v c.0) (sym u.on) (shifts x u.rest (h ++ x ∷ []) c.1 u.before refl))) p i
      ((cover.next m x n e p i).0 k)

  -- a state that symbols lead to has an item
  pub some_item : (g : List Symbol) (n : ℕ) → Walk Edge g n → (p : Production) × (i : ℕ) × Item n p i
  some_item g n stands = let t = nb s itself in let r = first_node t.0 t.1.0 t.1.1 in
      (r.0, 0, (cover.start r.0 0).1 (in_kernel r.0 0 (r.1, r.2, refl)))
    where
      first_node : (ts : Forest) → roots ts ≡ nonterminal s ∷ [] → AreOver G ts → (p : Production) × G p × (p.left ≡ s)
      first_node none e o = let z : ⊥ = cc in absurd z
      first_node (leaf t ts) e o = let z : ⊥ = cc in absurd z
      first_node (node p cs ts) e o = (p, o.0, cc)
  some_item g n (goes {g = h} {n = m} x m' w e) =
      let r = cover.only m x n e in (
        r.production,
        suc r.dot,
        (cover.next m x n e r.production (suc r.dot)).1 (in_kernel r.production (suc r.dot)
            (record { dot = r.dot; rest = r.rest; on = refl; item = r.item; before = r.before })),
      )

  -- a forest whose roots lead to a state is one of a tree
  pub passes_there : (f : Forest) (n : ℕ) → AreOver G f → Walk Edge (roots f) n →
      Passes G s f
  passes_there f n o w =
      let it = some_item (roots f) n w in
      let c = some_carried (roots f) n w it.0 it.1 it.2 in
      let a = at_from_carried G s nb f o it.0 it.1 c.0 c.1 in
      let way = under a.way a.l it.0 a.r in
      record {
        tree = plug way (a.a and a.b);
        count = nodes (lefts way) + nodes a.a;
        is_tree = a.tree;
        forest_is = forest-plug way (a.a and a.b) (nodes a.a) (nodes (lefts way) + nodes a.a) (omega (arith, nodes-and a.a a.b)) refl
            ∙ ap (λ v. lefts way and v)
            (forest-and a.a a.b 0 (nodes a.a) (omega arith) ∙ ap (λ v. a.a and v) (forest-zero a.b) ∙ and-none a.a)
            ∙ a.forest_is;
      }

  -- what a state shifts can follow
  pub shift_begins : (f : Forest) (n m : ℕ) (t : Terminal) → AreOver G f → Walk Edge (roots f) n → Edge n (terminal t) m →
      (ts : Forest) × (w : List Terminal) × IsTreeOf G s ts × (yield ts ≡ yield f ++ t ∷ w)
  shift_begins f n m t o w e =
      let it = cover.only n (terminal t) m e in
      let c = some_carried (roots f) n w it.production it.dot it.item in
      let a = at_from_carried G s nb f o it.production it.dot c.0 c.1 in
      let way = under a.way a.l it.production a.r in
      let b = first_leaf t it.rest a.b (a.front ∙ it.before) in
      let y : yield (plug way (a.a and a.b)) ≡ yield (lefts way and a.a) ++ (yield a.b ++ yield (rights way)) =
      yield-plug way (a.a and a.b) ∙ simp (yield-and, append_assoc) in (
        plug way (a.a and a.b),
        yield b.0 ++ yield (rights way),
        a.tree,
        y
            ∙ ap (λ v. yield v ++ (yield a.b ++ yield (rights way))) a.forest_is
            ∙ ap (λ v. yield f ++ (yield v ++ yield (rights way))) b.1,
      )
