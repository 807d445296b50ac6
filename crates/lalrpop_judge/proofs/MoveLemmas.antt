-- Forests by their moves, and a tree's move behind shared trees by its list of moves: for the test of certificates and its law.
use Rattle.std.proofs.Common.{◌≡◌, ℕ, zero, suc, ◌+◌, ◌-◌, ◌<◌, ◌≤◌, List, [], ◌∷◌, ◌++◌}
use Rattle.std.proofs.Common.{length, take, drop}
use Rattle.std.proofs.Common.{refl, sym, ap, ◌∙◌, subst, arith, slice_get, ◌⊎◌, inl, inr}
use Rattle.std.proofs.Common.{take-append-drop}
use Rattle.std.proofs.lemmas.Bool.{cases_lt}
use Rattle.std.proofs.lemmas.List.{take-append-le, length-take-le}
use Rattle.std.proofs.lemmas.Option.{slice_get_within}
use Rattle.lalrpop_grammar_symbols.specs.Symbols.{Text}
use Rattle.lalrpop_lr1_theory.specs.Productions.{Next, Production, first}
use Rattle.lalrpop_lr1_theory.specs.Trees.{AreOver, Forest, IsTreeOf, Move, MovesLead, forest, leaf, moves, node, nodes, none}
use Rattle.lalrpop_lr1_theory.specs.Trees.{reduce, shift, yield}
use Rattle.lalrpop_lr1_theory.specs.Spans.{SpannedForest, leaf_spans, without_spans}
use Rattle.lalrpop_lr1_theory.specs.Answers.{IsLr1, IsValidMove}
use Rattle.lalrpop_lr1_theory.proofs.PlaceLemmas.{forest_inside, forest_past}
use Rattle.lalrpop_lr1_theory.proofs.TreeLemmas.{leads-moves, leads_one, length-moves}
use Rattle.lalrpop_judge.specs.MoveLists.{MovesBehind, shifted_terminals}
use Rattle.lalrpop_judge.specs.Certificates.{AreCountedFrom, Certifies, MakesMove, NumberedMove, ShownConflict, number_move}

-- the front of joined lists that reaches into the second
take_behind : {X : Type 0} (xs ys : List X) (k j : ℕ) → j ≡ length xs + k → take j (xs ++ ys) ≡ xs ++ take k ys
take_behind [] ys k j e = ap (λ n. take n ys) (let i : j ≡ k = omega arith in i)
take_behind (x ∷ xs) ys k zero e = absurd (omega arith)
take_behind (x ∷ xs) ys k (suc j) e = ap (λ l. x ∷ l) (take_behind xs ys k j (omega arith))

take_none : {X : Type 0} (k : ℕ) → take {A = X} k [] ≡ []
take_none zero = refl
take_none (suc k) = refl

-- a forest's moves are the first of the tree's
pub moves-forest : (ts : Forest) (k : ℕ) → moves (forest ts k) ≡ take k (moves ts)
moves-forest none k = sym (take_none k)
moves-forest (leaf t ts) zero = refl
moves-forest (leaf t ts) (suc k) = ap (λ ms. shift t ∷ ms) (moves-forest ts k)
moves-forest (node p cs ts) k = go (moves-forest cs k) (moves-forest ts (k - suc (nodes cs))) (cases_lt (nodes cs) k)
  where
    go : moves (forest cs k) ≡ take k (moves cs) →
        moves (forest ts (k - suc (nodes cs))) ≡ take (k - suc (nodes cs)) (moves ts) →
        (nodes cs < k) ⊎ (k ≤ nodes cs) → moves (forest (node p cs ts) k) ≡ take k (moves cs ++ reduce p ∷ moves ts)
    go inside past (inr h) =
        ap moves (forest_inside p cs ts k h) ∙ inside
        ∙ sym (take-append-le k (moves cs) (reduce p ∷ moves ts) (omega (arith, length-moves cs)))
    go inside past (inl h) =
        let j = k - suc (nodes cs) in
        ap moves (forest_past p cs ts j k (omega arith)) ∙ ap (λ ms. moves cs ++ reduce p ∷ ms) past
        ∙ sym (take_behind (moves cs) (reduce p ∷ moves ts) (suc j) k (omega (arith, length-moves cs)))

module _ (G : Production → Type 0) where
  -- a forest of trees over the grammar is over it
  pub over-forest : (ts : Forest) (k : ℕ) → AreOver G ts → AreOver G (forest ts k)
  over-forest none k h = tt
  over-forest (leaf t ts) zero h = tt
  over-forest (leaf t ts) (suc k) h = over-forest ts k h
  over-forest (node p cs ts) k h =
      go (over-forest cs k h.2) (over-forest ts (k - suc (nodes cs)) h.3) (cases_lt (nodes cs) k)
    where
      go : AreOver G (forest cs k) → AreOver G (forest ts (k - suc (nodes cs))) → (nodes cs < k) ⊎ (k ≤ nodes cs) →
          AreOver G (forest (node p cs ts) k)
      go inside past (inr a) = subst (AreOver G) (sym (forest_inside p cs ts k a)) inside
      go inside past (inl a) =
          subst (AreOver G) (sym (forest_past p cs ts (k - suc (nodes cs)) k (omega arith))) (h.0, h.1, h.2, past)

  -- trees with the same moves are the same
  pub same_by_moves : (ts us : Forest) → AreOver G ts → AreOver G us → moves ts ≡ moves us → ts ≡ us
  same_by_moves ts us h k e =
      leads_one (moves ts ++ []) none ts us (leads-moves G ts h [] none ts refl)
      (subst (λ ms. MovesLead (ms ++ []) none us) (sym e) (leads-moves G us k [] none us refl))

pub shifted-append : (ms ns : List Move) → shifted_terminals (ms ++ ns) ≡ shifted_terminals ms ++ shifted_terminals ns
shifted-append [] ns = refl
shifted-append (shift t ∷ ms) ns = ap (λ w. t ∷ w) (shifted-append ms ns)
shifted-append (reduce p ∷ ms) ns = shifted-append ms ns

-- the leaves are what the moves shift
pub shifted-moves : (ts : Forest) → shifted_terminals (moves ts) ≡ yield ts
shifted-moves none = refl
shifted-moves (leaf t ts) = ap (λ w. t ∷ w) (shifted-moves ts)
shifted-moves (node p cs ts) =
    shifted-append (moves cs) (reduce p ∷ moves ts) ∙ ap (λ w. w ++ shifted_terminals (moves ts)) (shifted-moves cs)
    ∙ ap (λ w. yield cs ++ w) (shifted-moves ts)

rest_same : {X : Type 0} (xs ys zs : List X) → xs ++ ys ≡ xs ++ zs → ys ≡ zs
rest_same [] ys zs e = e
rest_same (x ∷ xs) ys zs e = let t : xs ++ ys ≡ xs ++ zs = cc in rest_same xs ys zs t

get-drop : {X : Type 0} (xs : List X) (k : ℕ) → slice_get (drop k xs) 0 ≡ slice_get xs k
get-drop [] zero = refl
get-drop [] (suc k) = refl
get-drop (x ∷ xs) zero = refl
get-drop (x ∷ xs) (suc k) = get-drop xs k

-- the leaves behind some moves
leaves_behind : (ts : Forest) (k : ℕ) →
    yield ts ≡ shifted_terminals (take k (moves ts)) ++ shifted_terminals (drop k (moves ts))
leaves_behind ts k =
    sym (shifted-moves ts) ∙ ap shifted_terminals (sym (take-append-drop k (moves ts)))
    ∙ shifted-append (take k (moves ts)) (drop k (moves ts))

module _ (G : Production → Type 0) (s : Text) where
  -- the shared trees are over the grammar, as the tree is
  pub shared_over : (shared : SpannedForest) (x : Next) (m : NumberedMove) (tree : SpannedForest) → MakesMove G s shared x m tree →
      AreOver G (without_spans shared)
  shared_over shared x m tree h =
      subst (AreOver G) h.forest_is (over-forest G (without_spans tree) h.count h.is_tree.1)

  -- by the record the moves stand so
  pub moves_behind : (shared : SpannedForest) (x : Next) (m : NumberedMove) (tree : SpannedForest) → MakesMove G s shared x m tree →
      MovesBehind (moves (without_spans shared)) (moves (without_spans tree)) x m
  moves_behind shared x m tree h =
      let ts = without_spans tree in
      let f = without_spans shared in
      let front : take h.count (moves ts) ≡ moves f = sym (moves-forest ts h.count) ∙ ap moves h.forest_is in
      let within = slice_get_within (moves ts) h.count h.move h.move_is in
      let k : length (moves f) ≡ h.count =
      ap length (sym front) ∙ length-take-le h.count (moves ts) (omega (arith, within)) in
      let leaves : yield f ++ shifted_terminals (drop h.count (moves ts)) ≡ yield f ++ h.left =
      ap (λ w. w ++ shifted_terminals (drop h.count (moves ts)))
      (sym (ap shifted_terminals front ∙ shifted-moves f)) ∙ sym (leaves_behind ts h.count) ∙ h.leaves in
      record {
        front = ap (λ n. take n (moves ts)) k ∙ front;
        continues = record {
          move = h.move;
          move_is = ap (λ n. slice_get (drop n (moves ts)) 0) k ∙ get-drop (moves ts) h.count ∙ h.move_is;
          move_named = h.move_named;
          next = ap (λ n. first (shifted_terminals (drop n (moves ts)))) k
              ∙ ap first (rest_same (yield f) (shifted_terminals (drop h.count (moves ts))) h.left leaves) ∙ h.next;
        };
      }

  -- and from the moves the record
  pub makes_by_moves : (shared : SpannedForest) (x : Next) (m : NumberedMove) (tree : SpannedForest) →
      AreOver G (without_spans shared) → IsTreeOf G s (without_spans tree) → AreCountedFrom 0 (leaf_spans tree) →
      MovesBehind (moves (without_spans shared)) (moves (without_spans tree)) x m → MakesMove G s shared x m tree
  makes_by_moves shared x m tree o t spans h =
      let ts = without_spans tree in
      let f = without_spans shared in
      let k = length (moves f) in
      record {
        count = k;
        move = h.continues.move;
        left = shifted_terminals (drop k (moves ts));
        is_tree = t;
        spans = spans;
        forest_is = same_by_moves G (forest ts k) f (over-forest G ts k t.1) o (moves-forest ts k ∙ h.front);
        move_is = sym (get-drop (moves ts) k) ∙ h.continues.move_is;
        move_named = h.continues.move_named;
        leaves = leaves_behind ts k
            ∙ ap (λ w. w ++ shifted_terminals (drop k (moves ts))) (ap shifted_terminals h.front ∙ shifted-moves f);
        next = h.continues.next;
      }

  -- the move is valid there
  makes_valid : (shared : SpannedForest) (x : Next) (m : NumberedMove) (tree : SpannedForest) → (h : MakesMove G s shared x m tree) →
      IsValidMove G s (without_spans shared) x h.move
  makes_valid shared x m tree h = record {
    tree = without_spans tree;
    count = h.count;
    left = h.left;
    is_tree = h.is_tree;
    forest_is = h.forest_is;
    move_is = h.move_is;
    leaves = h.leaves;
    next = h.next;
  }

  -- so two moves are valid at one place, and the grammar isn't LR(1)
  pub refutes_lr1 : (c : ShownConflict) → Certifies G s c → IsLr1 G s → ⊥
  refutes_lr1 c h lr1 =
      let same : h.makes1.move ≡ h.makes2.move =
      lr1 (without_spans c.shared) c.next h.makes1.move h.makes2.move
      (makes_valid c.shared c.next c.move1 c.tree1 h.makes1) (makes_valid c.shared c.next c.move2 c.tree2 h.makes2) in
      h.differ (sym h.makes1.move_named ∙ ap number_move same ∙ h.makes2.move_named)
