-- A tree's list that begins with the lists of the shared trees, and the move that the tree makes behind them: for the test of certificates.
use Rattle.std.proofs.Common.{◌≡◌, ◌↔◌, ◌∙◌, ℕ, suc, Bool, IsTrue, List, [], ◌∷◌, ◌++◌}
use Rattle.std.proofs.Common.{length, take, drop, refl, sym, ap, subst, arith, length-append}
use Rattle.std.proofs.Math.Seq.{take-append_seam, drop-append_seam}
use Rattle.std.proofs.lemmas.Grind.{flat_map-append}
use Rattle.std.proofs.lemmas.List.{map-append, take-append-drop, take-map}
use Rattle.lalrpop_grammar_symbols.specs.Symbols.{Text, TextSpan}
use Rattle.lalrpop_lr1_theory.specs.Productions.{Next, Production, nonterminal}
use Rattle.lalrpop_lr1_theory.specs.Trees.{AreOver, IsTreeOf, moves, roots, yield}
use Rattle.lalrpop_lr1_theory.specs.Spans.{SpannedForest, leaf_at, leaf_spans, node_at, none_at, without_spans}
use Rattle.lalrpop_lr1_interpret.specs.MoveOrders.{Entry, label_move, tree_entries, trees_of}
use Rattle.lalrpop_lr1_interpret.proofs.MoveOrderLemmas.{after_more, entries-moves, entries_of_trees, has_sizes, moves_are_labels}
use Rattle.lalrpop_lr1_interpret.proofs.MoveOrderLemmas.{trees_of_entries}
use Rattle.lalrpop_judge.specs.Certificates.{AreCountedFrom, Certifies, MakesMove, NumberedMove, ShownConflict}
use Rattle.lalrpop_judge.specs.EntryMoves.{label_spans, list_moves, list_spans}
use Rattle.lalrpop_judge.specs.MoveLists.{ContinuesBy}
use Rattle.lalrpop_judge.proofs.MoveLemmas.{makes_by_moves, moves_behind, same_by_moves, shared_over}
use Rattle.lalrpop_judge.proofs.RootEntryLemmas.{over_before, sizes_before}

-- the spans of trees by their list
pub spans-entries : (ts : SpannedForest) → list_spans (tree_entries ts) ≡ leaf_spans ts
spans-entries none_at = refl
spans-entries (leaf_at t span ts) = ap (λ l. span ∷ l) (spans-entries ts)
spans-entries (node_at p cs ts) =
    flat_map-append (λ (e : Entry). label_spans e.label) (tree_entries cs) _
    ∙ ap (λ l. l ++ list_spans (tree_entries ts)) (spans-entries cs) ∙ ap (λ l. leaf_spans cs ++ l) (spans-entries ts)

-- the first of counted spans
counted_front : (n : ℕ) (xs ys : List TextSpan) → AreCountedFrom n (xs ++ ys) → AreCountedFrom n xs
counted_front n [] ys h = tt
counted_front n (x ∷ xs) ys h = (h.0, counted_front (suc n) xs ys h.1)

-- spans that are counted from one number are the same, where they are as many
counted_same : (n : ℕ) (xs ys : List TextSpan) → AreCountedFrom n xs → AreCountedFrom n ys → length xs ≡ length ys → xs ≡ ys
counted_same n [] [] h k e = refl
counted_same n [] (y ∷ ys) h k e = absurd (omega (arith, e))
counted_same n (x ∷ xs) [] h k e = absurd (omega (arith, e))
counted_same n (x ∷ xs) (y ∷ ys) h k e =
    ap (λ z. z ∷ xs) (h.0 ∙ sym k.0) ∙ ap (λ l. y ∷ l) (counted_same (suc n) xs ys h.1 k.1 (omega (arith, e)))

-- as many spans as leaves
spans_count : (ts : SpannedForest) → length (leaf_spans ts) ≡ length (yield (without_spans ts))
spans_count none_at = refl
spans_count (leaf_at t span ts) = ap suc (spans_count ts)
spans_count (node_at p cs ts) =
    omega (
      arith,
      spans_count cs,
      spans_count ts,
      length-append (leaf_spans cs) (leaf_spans ts),
      length-append (yield (without_spans cs)) (yield (without_spans ts)),
    )

-- two lists that are parted at one place
same_parts : (xs ys zs ws : List TextSpan) → length xs ≡ length zs → xs ++ ys ≡ zs ++ ws → (xs ≡ zs) × (ys ≡ ws)
same_parts xs ys zs ws e h = (
  sym (take-append_seam xs ys) ∙ ap (take (length xs)) h ∙ ap (λ n. take n (zs ++ ws)) e ∙ take-append_seam zs ws,
  sym (drop-append_seam xs ys) ∙ ap (drop (length xs)) h ∙ ap (λ n. drop n (zs ++ ws)) e ∙ drop-append_seam zs ws,
)

-- trees that are the same without spans and have the same spans are the same
same_trees : (ts us : SpannedForest) → without_spans ts ≡ without_spans us → leaf_spans ts ≡ leaf_spans us → ts ≡ us
same_trees none_at none_at e s = refl
same_trees none_at (leaf_at u place us) e s = let z : ⊥ = cc in absurd z
same_trees none_at (node_at q ds us) e s = let z : ⊥ = cc in absurd z
same_trees (leaf_at t span ts) none_at e s = let z : ⊥ = cc in absurd z
same_trees (leaf_at t span ts) (node_at q ds us) e s = let z : ⊥ = cc in absurd z
same_trees (node_at p cs ts) none_at e s = let z : ⊥ = cc in absurd z
same_trees (node_at p cs ts) (leaf_at u place us) e s = let z : ⊥ = cc in absurd z
same_trees (leaf_at t span ts) (leaf_at u place us) e s =
    let a : t ≡ u = cc in
    let b : without_spans ts ≡ without_spans us = cc in
    let c : span ≡ place = cc in
    let d : leaf_spans ts ≡ leaf_spans us = cc in
    ap (λ k. leaf_at k span ts) a ∙ ap (λ k. leaf_at u k ts) c ∙ ap (leaf_at u place) (same_trees ts us b d)
same_trees (node_at p cs ts) (node_at q ds us) e s =
    let a : p ≡ q = cc in
    let b : without_spans cs ≡ without_spans ds = cc in
    let c : without_spans ts ≡ without_spans us = cc in
    let many : length (leaf_spans cs) ≡ length (leaf_spans ds) =
    spans_count cs ∙ ap (λ f. length (yield f)) b ∙ sym (spans_count ds) in
    let d = same_parts (leaf_spans cs) (leaf_spans ts) (leaf_spans ds) (leaf_spans us) many s in
    ap (λ k. node_at k cs ts) a ∙ ap (λ k. node_at q k ts) (same_trees cs ds b d.0) ∙ ap (node_at q ds) (same_trees ts us c d.1)

-- the moves and the spans of a tree whose list begins with those of others
front_moves : (shared tree : SpannedForest) (left : List Entry) → tree_entries tree ≡ tree_entries shared ++ left →
    moves (without_spans tree) ≡ moves (without_spans shared) ++ list_moves left
front_moves shared tree left e =
    sym (entries-moves tree) ∙ ap list_moves e ∙ map-append (λ (d : Entry). label_move d.label) (tree_entries shared) left
    ∙ ap (λ ms. ms ++ list_moves left) (entries-moves shared)

front_spans : (shared tree : SpannedForest) (left : List Entry) → tree_entries tree ≡ tree_entries shared ++ left →
    leaf_spans tree ≡ leaf_spans shared ++ list_spans left
front_spans shared tree left e =
    sym (spans-entries tree) ∙ ap list_spans e
    ∙ flat_map-append (λ (d : Entry). label_spans d.label) (tree_entries shared) left
    ∙ ap (λ l. l ++ list_spans left) (spans-entries shared)

front_counted : (shared tree : SpannedForest) (left : List Entry) → tree_entries tree ≡ tree_entries shared ++ left →
    AreCountedFrom 0 (leaf_spans tree) → AreCountedFrom 0 (leaf_spans shared)
front_counted shared tree left e h =
    counted_front 0 (leaf_spans shared) (list_spans left) (subst (AreCountedFrom 0) (front_spans shared tree left e) h)

module _ (G : Production → Type 0) where
  over_front : (shared tree : SpannedForest) (left : List Entry) → tree_entries tree ≡ tree_entries shared ++ left →
      AreOver G (without_spans tree) → AreOver G (without_spans shared)
  over_front shared tree left e h =
      let whole = sym (trees_of_entries tree) ∙ ap trees_of e ∙ after_more none_at (tree_entries shared) left in
      subst (λ f. AreOver G (without_spans f)) (trees_of_entries shared)
      (over_before G (trees_of (tree_entries shared)) left (subst (λ f. AreOver G (without_spans f)) whole h))

module _ (G : Production → Type 0) (s : Text) (shared : SpannedForest) (x : Next) (m : NumberedMove) (tree : SpannedForest) where
  -- what is left behind the shared trees
  left_moves : (left : List Entry) → tree_entries tree ≡ tree_entries shared ++ left →
      drop (length (moves (without_spans shared))) (moves (without_spans tree)) ≡ list_moves left
  left_moves left e =
      ap (drop (length (moves (without_spans shared)))) (front_moves shared tree left e)
      ∙ drop-append_seam (moves (without_spans shared)) (list_moves left)

  makes_by_front : (left : List Entry) → tree_entries tree ≡ tree_entries shared ++ left → IsTreeOf G s (without_spans tree) →
      AreCountedFrom 0 (leaf_spans tree) → ContinuesBy (list_moves left) x m → MakesMove G s shared x m tree
  makes_by_front left e t spans c =
      let ms = moves (without_spans shared) in
      makes_by_moves G s shared x m tree (over_front G shared tree left e t.1) t spans
      (record {
        front = ap (take (length ms)) (front_moves shared tree left e) ∙ take-append_seam ms (list_moves left);
        continues = subst (λ l. ContinuesBy l x m) (sym (left_moves left e)) c;
      })

  -- where it makes the move behind shared trees with counted spans, its list begins with theirs
  front_made : MakesMove G s shared x m tree → AreCountedFrom 0 (leaf_spans shared) →
      (left : List Entry) × (tree_entries tree ≡ tree_entries shared ++ left)
  front_made h spans =
      let es = tree_entries tree in
      let k = length (moves (without_spans shared)) in
      let begun = take k es in
      let ts = trees_of begun in
      let parts = take-append-drop k es in
      let sizes = sizes_before begun (drop k es) (has_sizes (begun ++ drop k es) tree parts) in
      let list : tree_entries ts ≡ begun = entries_of_trees begun sizes in
      let front : es ≡ tree_entries ts ++ drop k es = sym parts ∙ ap (λ l. l ++ drop k es) (sym list) in
      let made : moves (without_spans ts) ≡ moves (without_spans shared) =
      moves_are_labels begun ∙ sym (take-map (λ (d : Entry). label_move d.label) k es) ∙ ap (take k) (entries-moves tree)
      ∙ (moves_behind G s shared x m tree h).front in
      let alike : without_spans ts ≡ without_spans shared =
      same_by_moves G (without_spans ts) (without_spans shared) (over_front G ts tree (drop k es) front h.is_tree.1)
      (shared_over G s shared x m tree h) made in
      let places : leaf_spans ts ≡ leaf_spans shared =
      counted_same 0 (leaf_spans ts) (leaf_spans shared) (front_counted ts tree (drop k es) front h.spans) spans
      (spans_count ts ∙ ap (λ f. length (yield f)) alike ∙ sym (spans_count shared)) in
      (drop k es, front ∙ ap (λ f. tree_entries f ++ drop k es) (same_trees ts shared alike places))

  -- a list that begins with those of the shared trees and continues by the move: whether the tree is over the grammar decides
  pub over_decides : (left : List Entry) (r : Bool) → tree_entries tree ≡ tree_entries shared ++ left →
      roots (without_spans tree) ≡ nonterminal s ∷ [] → AreCountedFrom 0 (leaf_spans tree) → ContinuesBy (list_moves left) x m →
      (IsTrue r ↔ AreOver G (without_spans tree)) → IsTrue r ↔ (MakesMove G s shared x m tree × AreCountedFrom 0 (leaf_spans shared))
  over_decides left r e rooted spans c h = (
    λ t. (makes_by_front left e (rooted, h.0 t) spans c, front_counted shared tree left e spans),
    λ k. h.1 (((k.0).is_tree).1),
  )

  -- what is left doesn't continue by the move
  pub not_left : (left : List Entry) → tree_entries tree ≡ tree_entries shared ++ left → (ContinuesBy (list_moves left) x m → ⊥) →
      MakesMove G s shared x m tree × AreCountedFrom 0 (leaf_spans shared) → ⊥
  not_left left e ne k = ne (subst (λ l. ContinuesBy l x m) (left_moves left e) (moves_behind G s shared x m tree k.0).continues)

  -- a list that doesn't begin with those of the shared trees
  pub not_behind : ((left : List Entry) → tree_entries tree ≡ tree_entries shared ++ left → ⊥) →
      MakesMove G s shared x m tree × AreCountedFrom 0 (leaf_spans shared) → ⊥
  not_behind ne k = let f = front_made k.0 k.1 in ne f.0 f.1

-- the first tree makes its move, so the second decides
pub second_decides : (G : Production → Type 0) (s : Text) (c : ShownConflict) (r : Bool) → (c.move1 ≡ c.move2 → ⊥) →
    MakesMove G s c.shared c.next c.move1 c.tree1 × AreCountedFrom 0 (leaf_spans c.shared) →
    (IsTrue r ↔ (MakesMove G s c.shared c.next c.move2 c.tree2 × AreCountedFrom 0 (leaf_spans c.shared))) →
    IsTrue r ↔ Certifies G s c
second_decides G s c r ne one h = (
  λ t. record { differ = ne; spans = one.1; makes1 = one.0; makes2 = (h.0 t).0 },
  λ k. h.1 (k.makes2, k.spans),
)
