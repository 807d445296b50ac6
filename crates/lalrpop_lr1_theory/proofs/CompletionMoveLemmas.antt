-- Moves that lead out are those of a whole tree over each forest on the path: for the law on completions.
use Rattle.std.proofs.Common.{◌≡◌, ℕ, List, [], ◌∷◌, ◌++◌, drop, take, refl, sym, ap, ap₂, ◌∙◌, subst}
use Rattle.std.proofs.Common.{append_assoc, arith}
use Rattle.std.proofs.lemmas.List.{take-append-drop}
use Rattle.lalrpop_grammar_symbols.specs.Symbols.{Terminal, Text}
use Rattle.lalrpop_lr1_theory.specs.Productions.{Production, Symbol, nonterminal}
use Rattle.lalrpop_lr1_theory.specs.Trees.{AreOver, Forest, Move, forest, moves, nodes, none, reduce, roots, yield, ◌and◌}
use Rattle.lalrpop_lr1_theory.specs.Places.{IsWayTo, Way, after, lefts, plug, rights, top, under}
use Rattle.lalrpop_lr1_theory.specs.Automata.{IsCover, Walk, goes, stands}
use Rattle.lalrpop_lr1_theory.proofs.FirstLemmas.{roots_split}
use Rattle.lalrpop_lr1_theory.proofs.PlaceLemmas.{forest-and, forest-plug, forest-zero, moves-plug, yield-plug}
use Rattle.lalrpop_lr1_theory.proofs.SoundnessLemmas.{no_roots}
use Rattle.lalrpop_lr1_theory.proofs.StepLemmas.{tree_from_fits}
use Rattle.lalrpop_lr1_theory.proofs.TreeLemmas.{and-none, moves-and, nodes-and, over-and, over-split, roots-and, yield-and}
use Rattle.lalrpop_lr1_theory.proofs.WalkLemmas.{item_over}
use Rattle.lalrpop_lr1_theory.specs.PathTrees.{IsBack, IsPathTree}
use Rattle.lalrpop_lr1_theory.specs.CompletionMoves.{IsContinued, LeadsOut, arrives, steps}
use Rattle.lalrpop_lr1_theory.proofs.PathLemmas.{path_back, walk_by_edges}

module _ (G : Production → Type 0) (s : Text) (Item : ℕ → Production → ℕ → Type 0)
    (Edge Back : ℕ → Symbol → ℕ → Type 0)
    (IsState : ℕ → Type 0) (cover : IsCover G s Item Edge) (paths : IsPathTree Edge Back IsState) where
  -- The place behind a forest at which a tree of the nonterminal may stand, with what is left to be done from there.
  pub record IsOpenPlace (f : Forest) (B : Text) (ms : List Move) (w : List Terminal) : Type 0 where
    pub way : Way
    pub left : Forest
    pub right : Forest
    pub lefts_are : lefts way and left ≡ f
    pub moves_are : moves right ++ after way ≡ ms
    pub leaves : yield (right and rights way) ≡ w
    pub left_over : AreOver G left
    pub right_over : AreOver G right
    pub fits : IsWayTo G s way (roots left ++ nonterminal B ∷ roots right)

  -- what stands on the path to the state before an item, and the trees of the item's symbols up to its dot
  record IsCut (f : Forest) (front a : List Symbol) : Type 0 where
    before : Forest
    here : Forest
    parts : f ≡ before and here
    before_over : AreOver G before
    here_over : AreOver G here
    before_roots : roots before ≡ front
    here_roots : roots here ≡ a

  cut : (f : Forest) → AreOver G f → (g front a : List Symbol) → roots f ≡ g → g ≡ front ++ a → IsCut f front a
  cut f over g front a e parts =
      let k = roots_split f front a (e ∙ parts) in
      let o = over-split G k.0 k.1 (subst (AreOver G) k.2 over) in
      record { before = k.0; here = k.1; parts = k.2; before_over = o.0; here_over = o.1; before_roots = k.3; here_roots = k.4 }

  side : (p : Production) (i : ℕ) (a b : List Symbol) → a ≡ take i p.right → b ≡ drop i p.right → a ++ b ≡ p.right
  side p i a b e f = ap₂ (λ u v. u ++ v) e f ∙ take-append-drop i p.right

  ended : (a b : List Move) (p : Production) (us : Forest) → a ≡ b → moves us ++ reduce p ∷ a ≡ moves us ++ reduce p ∷ b
  ended a b p us e = ap (λ z. moves us ++ reduce p ∷ z) e

  yielded : (us a : Forest) (w : List Terminal) → yield a ≡ w → yield (us and a) ≡ yield us ++ w
  yielded us a w e = yield-and us a ∙ ap (λ z. yield us ++ z) e

  joined : (a b c f : Forest) → a ≡ b → f ≡ b and c → a and c ≡ f
  joined a b c f e parts = ap (λ z. z and c) e ∙ sym parts

  pub open_place : (n : ℕ) (B : Text) (ms : List Move) (w : List Terminal) → LeadsOut G s Item Back n B ms w →
      (g : List Symbol) → Walk Back g n → (f : Forest) → AreOver G f → roots f ≡ g → IsOpenPlace f B ms w
  open_place n B ms w arrives g walk f over e = begun g 0 walk refl f e
    where
      begun : (g : List Symbol) (k : ℕ) → Walk Back g k → k ≡ 0 → (f : Forest) → roots f ≡ g → IsOpenPlace f s [] []
      begun g k stands z f e =
          record {
            way = top;
            left = none;
            right = none;
            lefts_are = sym (no_roots f e);
            moves_are = refl;
            leaves = refl;
            left_over = tt;
            right_over = tt;
            fits = refl;
          }
      begun g k (goes {g = h} {n = c} y l v d) z f e = absurd (paths.root c y (subst (Back c y) z d))
  open_place n B ms w (steps {m = m} {i = i} {ms = ns} {w = v} p C b us held at back us_over us_roots leads) g walk f over e =
      let before = path_back Edge Back IsState paths G s Item cover i g n m walk p held back in
      let k = cut f over g before.front (take i p.right) e before.parts in
      let inner = open_place m p.left ns v leads before.front before.walk k.before k.before_over k.before_roots in
      record {
        way = under inner.way inner.left p inner.right;
        left = k.here;
        right = us;
        lefts_are = joined (lefts inner.way and inner.left) k.before k.here f inner.lefts_are k.parts;
        moves_are = ended (moves inner.right ++ after inner.way) ns p us inner.moves_are;
        leaves = yielded us (inner.right and rights inner.way) v inner.leaves;
        left_over = k.here_over;
        right_over = us_over;
        fits = (
          item_over G s Item Edge cover g n (walk_by_edges Edge Back IsState paths g n walk) p i held,
          side p i (roots k.here) (nonterminal C ∷ roots us) k.here_roots (ap (λ z. nonterminal C ∷ z) us_roots ∙ sym at),
          inner.left_over,
          inner.right_over,
          inner.fits,
        );
      }

  -- the whole tree of a place, with trees to its left and at it
  at_place : (f here us : Forest) (c : Way) → lefts c and here ≡ f → AreOver G here → AreOver G us →
      IsWayTo G s c (roots (here and us)) →
      (ms : List Move) (w : List Terminal) → after c ≡ ms → yield (rights c) ≡ w →
      IsContinued G s f (moves us ++ ms) (yield us ++ w)
  at_place f here us c whole here_over us_over fits ms w moves_are leaves =
      record {
        tree = plug c (here and us);
        is_tree = tree_from_fits G s c (here and us) fits (over-and G here us here_over us_over);
        moves_are = moves-plug c (here and us)
            ∙ ap (λ z. (moves (lefts c) ++ z) ++ after c) (moves-and here us)
            ∙ regrouped (moves (lefts c)) (moves here) (moves us) (after c)
            ∙ ap₂ (λ y z. y ++ (moves us ++ z)) (sym (moves-and (lefts c) here) ∙ ap moves whole) moves_are;
        forest_is = forest-plug c (here and us) (nodes here) (nodes f)
            (omega (arith, nodes-and here us))
            (ap nodes (sym whole) ∙ nodes-and (lefts c) here)
            ∙ ap (λ z. lefts c and z) (front_of here us) ∙ whole;
        leaves = yield-plug c (here and us)
            ∙ ap (λ z. (yield (lefts c) ++ z) ++ yield (rights c)) (yield-and here us)
            ∙ regrouped (yield (lefts c)) (yield here) (yield us) (yield (rights c))
            ∙ ap₂ (λ y z. y ++ (yield us ++ z)) (sym (yield-and (lefts c) here) ∙ ap yield whole) leaves;
      }
    where
      regrouped : {A : Type 0} (a b c d : List A) → (a ++ (b ++ c)) ++ d ≡ (a ++ b) ++ (c ++ d)
      regrouped a b c d = simp append_assoc

      front_of : (ts vs : Forest) → forest (ts and vs) (nodes ts) ≡ ts
      front_of ts vs =
          forest-and ts vs 0 (nodes ts) (omega arith) ∙ ap (λ z. ts and z) (forest-zero vs) ∙ and-none ts

  -- the whole tree, with trees for what stands behind an item's dot
  pub continued : (g : List Symbol) (n : ℕ) → Walk Back g n → (f : Forest) → AreOver G f → roots f ≡ g →
      (p : Production) (i m : ℕ) (us : Forest) → Item n p i → IsBack Back i n m → AreOver G us → roots us ≡ drop i p.right →
      (ms : List Move) (w : List Terminal) → LeadsOut G s Item Back m p.left ms w →
      IsContinued G s f (moves us ++ reduce p ∷ ms) (yield us ++ w)
  continued g n walk f over e p i m us held back us_over us_roots ms w leads =
      let before = path_back Edge Back IsState paths G s Item cover i g n m walk p held back in
      let k = cut f over g before.front (take i p.right) e before.parts in
      let o = open_place m p.left ms w leads before.front before.walk k.before k.before_over k.before_roots in
      at_place f k.here us (under o.way o.left p o.right)
      (joined (lefts o.way and o.left) k.before k.here f o.lefts_are k.parts) k.here_over us_over (
        item_over G s Item Edge cover g n (walk_by_edges Edge Back IsState paths g n walk) p i held,
        roots-and k.here us ∙ side p i (roots k.here) (roots us) k.here_roots us_roots,
        o.left_over,
        o.right_over,
        o.fits,
      ) (reduce p ∷ ms) w (ap (λ z. reduce p ∷ z) o.moves_are) o.leaves
