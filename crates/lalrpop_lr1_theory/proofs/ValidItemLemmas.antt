-- Valid items are the carried ones: for that law, and for the laws on canonical states.
use Rattle.std.proofs.Common.{◌≡◌, ℕ, zero, suc, ◌+◌, List, [], ◌∷◌, ◌++◌, length, drop, refl, sym, ap, ◌∙◌}
use Rattle.std.proofs.Common.{subst, arith, append_assoc, append-nil, length-append}
use Rattle.lalrpop_grammar_symbols.specs.Symbols.{Text}
use Rattle.lalrpop_lr1_theory.specs.Productions.{Next, Production, Symbol, first, nonterminal}
use Rattle.lalrpop_lr1_theory.specs.Trees.{AreOver, Forest, leaf, node, none, roots, yield, ◌and◌}
use Rattle.lalrpop_lr1_theory.specs.Places.{IsWayTo, Way, lefts, rights, top, under}
use Rattle.lalrpop_lr1_theory.specs.ValidItems.{CarriesOn, IsValidItem, NoneBarren, Reaches, begins, closes, itself, shifts}
use Rattle.lalrpop_lr1_theory.proofs.FirstLemmas.{AllReached, first1-trees, first1_trees_for, reached_drop, reached_head, reached_right}
use Rattle.lalrpop_lr1_theory.proofs.FirstLemmas.{trees_for}
use Rattle.lalrpop_lr1_theory.proofs.StepLemmas.{fits_from_tree, tree_from_fits}
use Rattle.lalrpop_lr1_theory.proofs.TreeLemmas.{and-and, and-none, over-and, roots-and}

-- the rest after the dot, one symbol on
pub drop_on : (X : Symbol) (b xs : List Symbol) (i : ℕ) → drop i xs ≡ X ∷ b → drop (suc i) xs ≡ b
drop_on X b [] zero e = let z : ⊥ = cc in absurd z
drop_on X b (y ∷ xs) zero e = cc
drop_on X b [] (suc i) e = let z : ⊥ = cc in absurd z
drop_on X b (y ∷ xs) (suc i) e = drop_on X b xs i e

-- two lists joined, without as many symbols as the first has, are the second
pub drop_past : (a b : List Symbol) → drop (length a) (a ++ b) ≡ b
drop_past [] b = refl
drop_past (x ∷ a) b = drop_past a b

-- a list with a symbol in it is not empty
pub too_many : (Y : Symbol) (a b : List Symbol) → a ++ Y ∷ b ≡ [] → ⊥
too_many Y [] b e = cc
too_many Y (x ∷ a) b e = cc

nonterminal_same : (A B : Text) → nonterminal A ≡ nonterminal B → A ≡ B
nonterminal_same A B e = cc

-- trees with one root leave nothing beside it
only_root : (p : Production) (X : Symbol) (a b : Forest) → roots a ++ nonterminal p.left ∷ roots b ≡ X ∷ [] →
    (a ≡ none) × (b ≡ none) × (nonterminal p.left ≡ X)
only_root p X none none e = (refl, refl, cc)
only_root p X none (leaf t b) e = let z : ⊥ = cc in absurd z
only_root p X none (node q cs b) e = let z : ⊥ = cc in absurd z
only_root p X (leaf t a) b e = absurd (too_many (nonterminal p.left) (roots a) (roots b) (cc))
only_root p X (node q cs a) b e = absurd (too_many (nonterminal p.left) (roots a) (roots b) (cc))

module _ (G : Production → Type 0) (s : Text) where
  -- an item is carried along the symbols after its dot
  pub carried_along : (a b g h : List Symbol) (p : Production) (i j : ℕ) (x : Next) → CarriesOn G s g p i x →
      drop i p.right ≡ a ++ b → h ≡ g ++ a → j ≡ i + length a → CarriesOn G s h p j x
  carried_along [] b g h p i j x k d e f =
      subst (λ v. CarriesOn G s v p j x) (sym (append-nil g) ∙ sym e) (subst (λ v. CarriesOn G s g p v x) (omega arith) k)
  carried_along (X ∷ a) b g h p i j x k d e f =
      carried_along a b (g ++ X ∷ []) h p (suc i) j x (shifts X (a ++ b) (g ++ X ∷ []) k d refl) (drop_on X (a ++ b) p.right i d)
      (e ∙ sym (append_assoc g (X ∷ []) a)) (omega arith)

  -- the item of a node in a tree, with the dot in front, is carried on what stands to its left
  pub carried_front : (c : Way) (l : Forest) (p : Production) (r : Forest) → IsWayTo G s (under c l p r) p.right →
      CarriesOn G s (roots (lefts c and l)) p 0 (first (yield (r and rights c)))
  carried_front top l p r f =
      let o = only_root p (nonterminal s) l r f.4 in
      subst (λ v. CarriesOn G s (roots v) p 0 (first (yield (r and none)))) (sym o.0)
      (subst (λ v. CarriesOn G s [] p 0 (first (yield (v and none)))) (sym o.1) (begins p f.0 (nonterminal_same p.left s o.2)))
  carried_front (under c k q u) l p r f =
      let h = carried_front c k q u (subst (IsWayTo G s (under c k q u)) f.4.1 f.4) in
      closes (roots r) p (first (yield (r and (u and rights c))))
      (carried_along (roots l) (nonterminal p.left ∷ roots r) (roots (lefts c and k)) (roots ((lefts c and k) and l)) q 0
      (length (roots l)) (first (yield (u and rights c))) h
      (sym f.4.1) (roots-and (lefts c and k) l) (omega arith))
      (ap (drop (length (roots l))) (sym f.4.1) ∙ drop_past (roots l) (nonterminal p.left ∷ roots r)) f.0
      (first1-trees G r (u and rights c) f.3)

  -- a valid item is carried
  pub carried_from_valid : (g : List Symbol) (p : Production) (i : ℕ) (x : Next) → IsValidItem G s g p i x → CarriesOn G s g p i x
  carried_from_valid g p i x v =
      let c = v.way in let l = v.left in let a = v.complete in let b = v.missing in let r = v.right in
      let f = fits_from_tree G s (under c l p r) (a and b) v.is_tree in
      let front = carried_front c l p r (subst (IsWayTo G s (under c l p r)) f.0.1 f.0) in
      let e : p.right ≡ roots a ++ roots b = sym f.0.1 ∙ roots-and a b in
      subst (λ y. CarriesOn G s g p i y) v.next
      (carried_along (roots a) (roots b) (roots (lefts c and l)) g p 0 i (first (yield (r and rights c))) front e
      (sym v.prefix ∙ roots-and (lefts c and l) a) (sym v.dot ∙ omega arith))

  -- the place of a carried item: the way to its node, and trees for what stands before the dot
  pub record Open (g : List Symbol) (p : Production) (i : ℕ) (x : Next) : Type 0 where
    pub way : Way
    pub l : Forest
    pub r : Forest
    pub a : Forest
    pub fits : IsWayTo G s (under way l p r) p.right
    pub over : AreOver G a
    pub front : roots a ++ drop i p.right ≡ p.right
    pub long : length (roots a) ≡ i
    pub on : roots (lefts (under way l p r) and a) ≡ g
    pub next : first (yield (r and rights way)) ≡ x
    pub reached : Reaches G s p.left

  production_in : {g : List Symbol} {p : Production} {i : ℕ} {x : Next} → Open g p i x → G p
  production_in o = o.fits.0

  pub open_from_carried : NoneBarren G s → (g : List Symbol) (p : Production) (i : ℕ) (x : Next) → CarriesOn G s g p i x →
      Open g p i x
  open_from_carried nb g p i x (begins q h e) =
      record {
        way = top;
        l = none;
        r = none;
        a = none;
        fits = (h, refl, tt, tt, ap (λ A. nonterminal A ∷ []) e);
        over = tt;
        front =
            refl;
        long = refl;
        on = refl;
        next = refl;
        reached = subst (Reaches G s) (sym e) itself;
      }
  open_from_carried nb g p i x (shifts {n = n} {i = j} X b m k d e) =
      let o = open_from_carried nb n p j x k in
      let t = trees_for G s nb (X ∷ [])
      (reached_head G s X b (subst (AllReached G s) d (reached_drop G s j p.right (reached_right G s p o.reached (production_in o)))))
      in
      record {
        way = o.way;
        l = o.l;
        r = o.r;
        a = o.a and t.0;
        fits = o.fits;
        over = over-and G o.a t.0 o.over t.1;
        front = ap (λ v. roots (o.a and t.0) ++ v) (drop_on X b p.right j d)
            ∙ ap (λ v. v ++ b) (roots-and o.a t.0 ∙ ap (λ v. roots o.a ++ v) t.2) ∙ append_assoc (roots o.a) (X ∷ []) b
            ∙ ap (λ v. roots o.a ++ v) (sym d) ∙ o.front;
        long = ap length (roots-and o.a t.0 ∙ ap (λ v. roots o.a ++ v) t.2) ∙ length-append (roots o.a) (X ∷ [])
            ∙ omega (arith, o.long);
        on = ap roots (sym (and-and (lefts (under o.way o.l p o.r)) o.a t.0)) ∙ roots-and (lefts (under o.way o.l p o.r) and o.a) t.0
            ∙ ap (λ v. v ++ roots t.0) o.on ∙ ap (λ v. n ++ v) t.2 ∙ sym e;
        next = o.next;
        reached = o.reached;
      }
  open_from_carried nb g p i x (closes {n = n} {p = q} {i = j} {x = y} b q' z k d h f) =
      let o = open_from_carried nb n q j y k in
      let rest = subst (AllReached G s) d (reached_drop G s j q.right (reached_right G s q o.reached (production_in o))) in
      let t = first1_trees_for G s nb b y z (o.r and rights o.way) rest.1 f o.next in
      record {
        way = under o.way o.l q o.r;
        l = o.a;
        r = t.0;
        a = none;
        fits = (
          h,
          refl,
          o.over,
          t.1,
          subst (IsWayTo G s (under o.way o.l q o.r))
              (sym o.front ∙ ap (λ v. roots o.a ++ v) d ∙ ap (λ v. roots o.a ++ nonterminal q'.left ∷ v) (sym t.2)) o.fits,
        );
        over = tt;
        front = refl;
        long = refl;
        on = ap roots (and-none (lefts (under o.way o.l q o.r) and o.a)) ∙ o.on;
        next = t.3;
        reached = rest.0;
      }

  -- a carried item is valid, where the start reaches no barren nonterminal
  pub valid_from_carried : NoneBarren G s → (g : List Symbol) (p : Production) (i : ℕ) (x : Next) → CarriesOn G s g p i x →
      IsValidItem G s g p i x
  valid_from_carried nb g p i x k =
      let o = open_from_carried nb g p i x k in
      let t = trees_for G s nb (drop i p.right) (reached_drop G s i p.right (reached_right G s p o.reached (production_in o))) in
      record {
        way = o.way;
        left = o.l;
        complete = o.a;
        missing = t.0;
        right = o.r;
        is_tree = tree_from_fits G s (under o.way o.l p o.r) (o.a and t.0)
            (subst (IsWayTo G s (under o.way o.l p o.r))
            (sym o.front ∙ ap (λ v. roots o.a ++ v) (sym t.2) ∙ sym (roots-and o.a t.0)) o.fits)
            (over-and G o.a t.0 o.over t.1);
        dot = o.long;
        prefix = o.on;
        next = o.next;
      }
