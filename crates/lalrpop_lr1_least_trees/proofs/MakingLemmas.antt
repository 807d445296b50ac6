-- Trees that moves build one after another, with numbered leaves: for making trees.
use Rattle.std.proofs.Common.{◌≡◌, ◌∙◌, ℕ, zero, suc, ◌+◌, ◌<◌, ◌≤◌, List, [], ◌∷◌, ◌++◌}
use Rattle.std.proofs.Common.{length, map, drop, get_or}
use Rattle.std.proofs.Common.{refl, sym, ap, subst, arith, append-nil, length-append}
use Rattle.lalrpop_lr1_theory.specs.Productions.{Production}
use Rattle.lalrpop_lr1_theory.specs.Spans.{SpannedForest, leaf_at, leaf_spans, node_at, none_at, without_spans}
use Rattle.lalrpop_lr1_theory.specs.Trees.{AreOver, Forest, Move, MovesLead, leaf, moves, node, none, reduce}
use Rattle.lalrpop_lr1_theory.specs.Trees.{roots, shift, ◌and◌}
use Rattle.lalrpop_lr1_theory.proofs.TreeLemmas.{leads-moves}
use Rattle.lalrpop_lr1_interpret.specs.Stacks.{◌beside◌}
use Rattle.lalrpop_lr1_interpret.proofs.ExpandedLemmas.{roots-beside}
use Rattle.lalrpop_lr1_interpret.proofs.StackLemmas.{spans-beside, without-beside}
use Rattle.lalrpop_lr1_least_trees.specs.declared.tree_move.TreeMove.{TreeMove}
use Rattle.lalrpop_lr1_least_trees.specs.MoveViews.{tree_move_view}
use Rattle.lalrpop_lr1_least_trees.specs.SpanNumbers.{AreMade, AreMaking, AreNumberedFrom, CanMove, IsMoved, numbered_spans}

-- trees with spans, taken apart as they are without
pub record IsSpannedSplit (ts : SpannedForest) (a b : Forest) : Type 0 where
  pub front : SpannedForest
  pub back : SpannedForest
  pub parts : ts ≡ front beside back
  pub front_is : without_spans front ≡ a
  pub back_is : without_spans back ≡ b

pub spanned_split : (ts : SpannedForest) (a b : Forest) → without_spans ts ≡ a and b → IsSpannedSplit ts a b
spanned_split ts none b e = record { front = none_at; back = ts; parts = refl; front_is = refl; back_is = e }
spanned_split none_at (leaf t a) b e = let w : ⊥ = cc in absurd w
spanned_split none_at (node p cs a) b e = let w : ⊥ = cc in absurd w
spanned_split (leaf_at u span ts) (leaf t a) b e =
    let same : u ≡ t = cc in
    let rest : without_spans ts ≡ a and b = cc in
    let r = spanned_split ts a b rest in
    record {
      front = leaf_at u span r.front;
      back = r.back;
      parts = let whole : leaf_at u span ts ≡ leaf_at u span (r.front beside r.back) = ap (leaf_at u span) r.parts in whole;
      front_is = let one : leaf u (without_spans r.front) ≡ leaf t (without_spans r.front) = cc in one ∙ ap (leaf t) r.front_is;
      back_is = r.back_is;
    }
spanned_split (leaf_at u span ts) (node p cs a) b e = let w : ⊥ = cc in absurd w
spanned_split (node_at q ds ts) (leaf t a) b e = let w : ⊥ = cc in absurd w
spanned_split (node_at q ds ts) (node p cs a) b e =
    let same : q ≡ p = cc in
    let inner : without_spans ds ≡ cs = cc in
    let rest : without_spans ts ≡ a and b = cc in
    let r = spanned_split ts a b rest in
    record {
      front = node_at q ds r.front;
      back = r.back;
      parts = let whole : node_at q ds ts ≡ node_at q ds (r.front beside r.back) = ap (node_at q ds) r.parts in whole;
      front_is = let one : node q (without_spans ds) (without_spans r.front) ≡ node p cs (without_spans r.front) = cc in
          one ∙ ap (node p cs) r.front_is;
      back_is = r.back_is;
    }

-- among trees with spans the last ones have these roots
pub record HasLastTrees (p : Production) (ts : SpannedForest) : Type 0 where
  pub kept : SpannedForest
  pub children : SpannedForest
  pub parts : ts ≡ kept beside children
  pub roots_are : roots (without_spans children) ≡ p.right

-- a reduction that can be made has its trees
pub last_trees : (p : Production) (ts : SpannedForest) → CanMove (reduce p) (without_spans ts) → HasLastTrees p ts
last_trees p ts c =
    let r = spanned_split ts c.kept c.children c.parts in
    record { kept = r.front; children = r.back; parts = r.parts; roots_are = ap roots r.back_is ∙ c.roots_are }

-- where moves lead from one forest to another, the first of them can be made
pub can_move : (m : Move) (rest : List Move) (f g : Forest) → MovesLead (m ∷ rest) f g → CanMove m f
can_move (shift t) rest f g l = tt
can_move (reduce p) rest f g l =
    record { kept = l.kept; children = l.children; parts = l.parts; roots_are = l.roots_are; rest = tt }

-- the other moves lead on
moved_leads : (m : Move) (rest : List Move) (number next : ℕ) (old new : SpannedForest) → IsMoved m number old next new →
    (g : Forest) →
    MovesLead (m ∷ rest) (without_spans old) g → MovesLead rest (without_spans new) g
moved_leads (shift t) rest number next old new m g l =
    subst (λ f. MovesLead rest f g) (sym (ap without_spans m.1 ∙ without-beside old (leaf_at t (number, number + 1) none_at))) l
moved_leads (reduce p) rest number next old new m g l =
    let r = spanned_split old l.kept l.children l.parts in
    let made = m.1 r.front r.back r.parts (ap roots r.back_is ∙ l.roots_are) in
    subst (λ f. MovesLead rest f g)
    (sym (ap without_spans made ∙ without-beside r.front (node_at p r.back none_at) ∙ ap
    (λ f. f and node p (without_spans r.back) none) r.front_is
    ∙ ap (λ f. l.kept and node p f none) r.back_is)) l.rest

-- one number more
numbered_more : (n k : ℕ) → numbered_spans n (k + 1) ≡ numbered_spans n k ++ (n + k, n + k + 1) ∷ []
numbered_more n zero =
    ap (λ j. numbered_spans n j) (let z : zero + 1 ≡ suc zero = omega arith in z)
    ∙ ap (λ j. (j, j + 1) ∷ []) (let z : n ≡ n + zero = omega arith in z)
numbered_more n (suc k) =
    ap (λ j. numbered_spans n j) (let z : suc k + 1 ≡ suc (k + 1) = omega arith in z)
    ∙ ap (λ l. (n, n + 1) ∷ l) (numbered_more (suc n) k)
    ∙ ap (λ j. (n, n + 1) ∷ (numbered_spans (suc n) k ++ (j, j + 1) ∷ [])) (let z : suc n + k ≡ n + suc k = omega arith in z)

-- the leaves stay numbered
pub record IsNumbered (from next : ℕ) (ts : SpannedForest) : Type 0 where
  pub spans : AreNumberedFrom from ts
  pub next_is : next ≡ from + length (leaf_spans ts)

moved_spans : (m : Move) (from number next : ℕ) (old new : SpannedForest) → IsMoved m number old next new → CanMove m
    (without_spans old) →
    AreNumberedFrom from old → number ≡ from + length (leaf_spans old) → IsNumbered from next new
moved_spans (shift t) from number next old new m can spans is =
    let all : leaf_spans new ≡ leaf_spans old ++ (number, number + 1) ∷ [] =
    ap leaf_spans m.1 ∙ spans-beside old (leaf_at t (number, number + 1) none_at) in
    let long : length (leaf_spans new) ≡ length (leaf_spans old) + 1 =
    ap length all ∙ length-append (leaf_spans old) ((number, number + 1) ∷ []) ∙ omega arith in
    record {
      spans = all ∙ ap (λ l. l ++ (number, number + 1) ∷ []) spans
          ∙ ap (λ j. numbered_spans from (length (leaf_spans old)) ++ (j, j + 1) ∷ []) is ∙ sym
          (numbered_more from (length (leaf_spans old)))
          ∙ ap (numbered_spans from) (sym long);
      next_is = omega (arith, m.0, is, long);
    }
moved_spans (reduce p) from number next old new m can spans is =
    let r = last_trees p old can in
    let made = m.1 r.kept r.children r.parts r.roots_are in
    let all : leaf_spans new ≡ leaf_spans old =
    ap leaf_spans made ∙ spans-beside r.kept (node_at p r.children none_at)
    ∙ ap (λ l. leaf_spans r.kept ++ l) (append-nil (leaf_spans r.children)) ∙ sym (spans-beside r.kept r.children)
    ∙ ap leaf_spans (sym r.parts) in
    record {
      spans = all ∙ spans ∙ ap (λ l. numbered_spans from (length l)) (sym all);
      next_is = m.0 ∙ is ∙ ap (λ l. from + length l) (sym all);
    }

module _ (moves : List Move) (from : ℕ) where
  pub making_starts : AreMaking moves moves from from none_at
  making_starts = record { lead = λ g l. l; spans = refl; next = omega arith }

  pub making_more : (m : Move) (left rest : List Move) (number next : ℕ) (old new : SpannedForest) → left ≡ m ∷ rest →
      AreMaking moves left from number old → CanMove m (without_spans old) → IsMoved m number old next new →
      AreMaking moves rest from next new
  making_more m left rest number next old new first making can moved =
      let s = moved_spans m from number next old new moved can making.spans making.next in
      record {
        lead = λ g l.
            moved_leads m rest number next old new moved g (subst (λ x. MovesLead x (without_spans old) g) first (making.lead g l));
        spans = s.spans;
        next = s.next_is;
      }

  pub making_ends : (left : List Move) (number : ℕ) (trees : SpannedForest) → left ≡ [] → AreMaking moves left from number trees →
      AreMade moves from trees
  making_ends left number trees nothing making = record {
    trees_are = λ g l. subst (λ x. MovesLead x (without_spans trees) g) nothing (making.lead g l);
    spans = making.spans;
  }

-- the next number is at most one more
pub moved_bound : (m : Move) (number next : ℕ) (old new : SpannedForest) → IsMoved m number old next new → next ≤ number + 1
moved_bound (shift t) number next old new m = omega (arith, m.0)
moved_bound (reduce p) number next old new m = omega (arith, m.0)

-- what is left from a place on
pub left_moves : (moves : List TreeMove) (i : ℕ) (m : TreeMove) → i < length moves → m ≡ get_or moves i m →
    map tree_move_view (drop i moves) ≡ tree_move_view m ∷ map tree_move_view (drop (i + 1) moves)
left_moves [] i m h e = absurd (omega arith)
left_moves (x ∷ moves) zero m h e = ap (λ y. tree_move_view y ∷ map tree_move_view moves) (sym e)
left_moves (x ∷ moves) (suc i) m h e =
    left_moves moves i m (omega arith) e
    ∙ ap (λ k. tree_move_view m ∷ map tree_move_view (drop k (x ∷ moves))) (let z : suc (i + 1) ≡ suc i + 1 = omega arith in z)

-- past the last move of a list no moves are left
pub none_left : (moves : List TreeMove) (i : ℕ) → length moves ≤ i → map tree_move_view (drop i moves) ≡ []
none_left [] zero h = refl
none_left [] (suc i) h = refl
none_left (x ∷ moves) zero h = absurd (omega arith)
none_left (x ∷ moves) (suc i) h = none_left moves i (omega arith)

-- the moves of a tree lead to it
pub moves_lead : (G : Production → Type 0) (ts : Forest) → AreOver G ts → MovesLead (moves ts) none ts
moves_lead G ts over = subst (λ ms. MovesLead ms none ts) (append-nil (moves ts)) (leads-moves G ts over [] none ts refl)

-- and there are enough of them
pub enough_last : (p : Production) (ts : SpannedForest) → CanMove (reduce p) (without_spans ts) →
    length p.right ≤ length (roots (without_spans ts))
enough_last p ts c =
    let l = last_trees p ts c in
    omega (
      arith,
      ap (λ f. length (roots (without_spans f))) l.parts,
      roots-beside l.kept l.children,
      ap length l.roots_are,
    )
