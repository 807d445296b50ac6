-- LALR(1) grammars are LR(1): what is valid after a forest is there on its roots, so that two valid moves would conflict.
use Rattle.std.proofs.Common.{◌≡◌, ◌<◌, ◌∙◌, ℕ, List, [], ◌∷◌, ◌++◌, drop, length, None, Some, ap, append-nil, arith, subst, sym}
use Rattle.std.proofs.Common.{inl, inr}
use Rattle.std.proofs.lemmas.List.{append_cancel_left}
use Rattle.std.proofs.lemmas.Option.{slice_get_within}
use Rattle.lalrpop_grammar_symbols.specs.Symbols.{Terminal, Text}
use Rattle.lalrpop_lr1_theory.specs.Productions.{Next, Production, Symbol, first, terminal}
use Rattle.lalrpop_lr1_theory.specs.Trees.{Forest, IsTreeOf, Move, forest, leaf, moves, node, nodes, none, reduce, roots, shift, yield}
use Rattle.lalrpop_lr1_theory.specs.Trees.{◌and◌}
use Rattle.lalrpop_lr1_theory.specs.Places.{IsWayTo, Way, lefts, plug, rights, top, under}
use Rattle.lalrpop_lr1_theory.specs.ValidItems.{CarriesOn, begins, closes, shifts}
use Rattle.lalrpop_lr1_theory.specs.Answers.{IsLr1, IsValidMove}
use Rattle.lalrpop_lr1_theory.proofs.PlaceLemmas.{IsNext, Moment, forest-moment, moment, next-moment, rest-moment}
use Rattle.lalrpop_lr1_theory.proofs.StepLemmas.{fits_from_tree, some_same}
use Rattle.lalrpop_lr1_theory.proofs.TreeLemmas.{length-moves, roots-and}
use Rattle.lalrpop_lr1_theory.proofs.ValidItemLemmas.{carried_along, carried_front, drop_past}
use Rattle.lalrpop_lr1_theory.proofs.WalkLemmas.{no_leaf}
use Rattle.lalrpop_lane_theory.specs.Lalr1Grammars.{IsCanonicalItem, IsLalr1, begins_there, brings_there, ends_after, moves_over}
use Rattle.lalrpop_lane_theory.specs.Lalr1Grammars.{passes_after, starts_after}

module _ (G : Production → Type 0) (s : Text) where
  -- the item stands on the symbols, and that may follow it
  record StandsBefore (g : List Symbol) (p : Production) (i : ℕ) (x : Next) : Type 0 where
    there : IsCanonicalItem G s g p i None
    after : IsCanonicalItem G s g p i (Some x)

  -- what is carried on symbols stands there
  stands_before : (g : List Symbol) (p : Production) (i : ℕ) (x : Next) → CarriesOn G s g p i x → StandsBefore g p i x
  stands_before g p i x (begins q h e) = record { there = begins_there q h e; after = ends_after q h e }
  stands_before g p i x (shifts {n = h} {i = j} X b m k d e) =
      let r = stands_before h p j x k in
      subst (λ v. StandsBefore v p i x) (sym e) (record { there = moves_over X b r.there d; after = moves_over X b r.after d })
  stands_before g p i x (closes {n = h} {p = q} {i = j} {x = y} b r z k d u (inl f)) =
      let c = stands_before h q j y k in
      record {
        there = brings_there b r c.there d u;
        after = subst (λ v. IsCanonicalItem G s h r 0 (Some v)) (sym f.1) (starts_after b r f.0 c.there d u f.2);
      }
  stands_before g p i x (closes {n = h} {p = q} {i = j} {x = y} b r z k d u (inr f)) =
      let c = stands_before h q j y k in
      record {
        there = brings_there b r c.there d u;
        after = subst (λ v. IsCanonicalItem G s h r 0 (Some v)) (sym f.0) (passes_after b r y c.after d u f.1);
      }

  -- an item stands on the symbols with its dot before the terminal
  record HasDotBeforeOn (g : List Symbol) (t : Terminal) : Type 0 where
    production : Production
    dot : ℕ
    rest : List Symbol
    item : IsCanonicalItem G s g production dot None
    before : drop dot production.right ≡ terminal t ∷ rest

  -- what the items on the symbols allow before a terminal or the end
  abbrev AllowsOn : List Symbol → Next → Move → Type 0
  AllowsOn g x (shift t) = (x ≡ Some t) × HasDotBeforeOn g t
  AllowsOn g x (reduce p) = IsCanonicalItem G s g p (length p.right) (Some x)

  -- the next move of a tree at a place is allowed
  allowed_at : (c : Way) (l r : Forest) (v : Move) → IsNext c r v → IsTreeOf G s (plug c (l and r)) →
      AllowsOn (roots (lefts c and l)) (first (yield (r and rights c))) v
  allowed_at top l none (shift t) e h = absurd e
  allowed_at (under c k p u) l none (shift t) e h = absurd e
  allowed_at top l none (reduce p) e h = absurd e
  allowed_at (under c k p u) l none (reduce q) e h =
      let f = fits_from_tree G s (under c k p u) (l and none) h in
      let front = carried_front G s c k p u (subst (IsWayTo G s (under c k p u)) f.0.1 f.0) in
      let d : p.right ≡ roots l ++ [] = sym f.0.1 ∙ roots-and l none in
      subst (λ v. AllowsOn (roots ((lefts c and k) and l)) (first (yield (u and rights c))) (reduce v)) (sym e)
      (stands_before (roots ((lefts c and k) and l)) p (length p.right) (first (yield (u and rights c)))
      (carried_along G s (roots l) [] (roots (lefts c and k)) (roots ((lefts c and k) and l)) p 0 (length p.right)
      (first (yield (u and rights c))) front d (roots-and (lefts c and k) l)
      (ap length (d ∙ append-nil (roots l)) ∙ omega arith))).after
  allowed_at top l (leaf t r) (shift u) e h = absurd (no_leaf s t l r (sym (roots-and l (leaf t r)) ∙ h.0))
  allowed_at (under c k p u) l (leaf t r) (shift v) e h =
      let f = fits_from_tree G s (under c k p u) (l and leaf t r) h in
      let front = carried_front G s c k p u (subst (IsWayTo G s (under c k p u)) f.0.1 f.0) in
      let d : p.right ≡ roots l ++ terminal t ∷ roots r = sym f.0.1 ∙ roots-and l (leaf t r) in
      let item = stands_before (roots ((lefts c and k) and l)) p (length (roots l)) (first (yield (u and rights c)))
      (carried_along G s (roots l) (terminal t ∷ roots r) (roots (lefts c and k)) (roots ((lefts c and k) and l)) p 0
      (length (roots l)) (first (yield (u and rights c))) front d (roots-and (lefts c and k) l) (omega arith)) in (
        ap Some (sym e),
        subst (λ y. HasDotBeforeOn (roots ((lefts c and k) and l)) y) (sym e)
            (record {
              production = p;
              dot = length (roots l);
              rest = roots r;
              item = item.there;
              before = ap (drop (length (roots l))) d ∙ drop_past (roots l) (terminal t ∷ roots r);
            }),
      )
  allowed_at c l (leaf t r) (reduce p) e h = absurd e
  allowed_at c l (node p cs r) v e h = absurd e

  -- so a valid move is allowed on the roots of the forest
  valid_allowed : (f : Forest) (x : Next) (m : Move) → IsValidMove G s f x m → AllowsOn (roots f) x m
  valid_allowed f x m v =
      let ts = v.tree in
      let k = v.count in
      let w = v.left in
      let less : k < nodes ts = omega (arith, length-moves ts, slice_get_within (moves ts) k m v.move_is) in
      let mo : Moment ts k = moment ts top none k k less (omega arith) in
      let a = allowed_at mo.way mo.done mo.rest mo.move mo.next (subst (IsTreeOf G s) mo.whole_is v.is_tree) in
      let left : yield (mo.rest and rights mo.way) ≡ w =
      append_cancel_left (yield (forest ts k)) (yield (mo.rest and rights mo.way)) w
      (sym (rest-moment ts k mo) ∙ (v.leaves ∙ ap (λ g. yield g ++ w) (sym v.forest_is))) in
      subst (AllowsOn (roots f) x) (some_same mo.move m (sym (next-moment ts k mo) ∙ v.move_is))
      (subst (λ y. AllowsOn (roots f) y mo.move) (ap first left ∙ v.next)
      (subst (λ g. AllowsOn (roots g) (first (yield (mo.rest and rights mo.way))) mo.move) (sym (forest-moment ts k mo) ∙ v.forest_is) a))

  -- where the grammar is LALR(1), one move at most is allowed
  allowed_one : IsLalr1 G s → (g : List Symbol) (x : Next) (m n : Move) → AllowsOn g x m → AllowsOn g x n → m ≡ n
  allowed_one lalr1 g x (shift t) (shift u) a b = ap shift (some_same t u (sym a.0 ∙ b.0))
  allowed_one lalr1 g x (shift t) (reduce p) a b =
      absurd (lalr1.shifts_apart g g p a.1.production a.1.dot t a.1.rest (λ q j. (λ c. c, λ c. c))
      (subst (λ y. IsCanonicalItem G s g p (length p.right) (Some y)) a.0 b) a.1.item a.1.before)
  allowed_one lalr1 g x (reduce p) (shift t) a b =
      absurd (lalr1.shifts_apart g g p b.1.production b.1.dot t b.1.rest (λ q j. (λ c. c, λ c. c))
      (subst (λ y. IsCanonicalItem G s g p (length p.right) (Some y)) b.0 a) b.1.item b.1.before)
  allowed_one lalr1 g x (reduce p) (reduce q) a b =
      ap reduce (lalr1.reductions_apart g g p q x (λ r j. (λ c. c, λ c. c)) a b)

  pub lalr1_one_move : IsLalr1 G s → IsLr1 G s
  lalr1_one_move lalr1 f x m n a b =
      allowed_one lalr1 (roots f) x m n (valid_allowed f x m a) (valid_allowed f x n b)
