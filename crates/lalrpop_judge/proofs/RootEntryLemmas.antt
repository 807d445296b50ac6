-- A tree's list as it is walked, first entry first: the trees that stand so far, their roots, and whether they are over a grammar.
use Rattle.std.proofs.Common.{◌≡◌, ◌∙◌, ℕ, zero, suc, ◌-◌, ◌≤◌, List, [], ◌∷◌, ◌++◌}
use Rattle.std.proofs.Common.{length, map, take, drop, refl, sym, ap, subst, arith, append_assoc, length-append}
use Rattle.std.specs.List.{sum_by}
use Rattle.std.proofs.Math.Seq.{take-append_seam, drop-append_seam, take-length}
use Rattle.std.proofs.lemmas.List.{append-nil, length-map, same_from_push}
use Rattle.std.proofs.lemmas.List.Sums.{sum_by-append}
use Rattle.lalrpop_grammar_symbols.specs.Symbols.{Terminal}
use Rattle.lalrpop_lr1_theory.specs.Productions.{Production, nonterminal, terminal}
use Rattle.lalrpop_lr1_theory.specs.Trees.{AreOver, nodes, roots}
use Rattle.lalrpop_lr1_theory.specs.Spans.{SpannedForest, leaf_at, node_at, none_at, without_spans}
use Rattle.lalrpop_lr1_theory.proofs.TreeLemmas.{length-moves, over-and, over-split}
use Rattle.lalrpop_lr1_interpret.specs.MoveOrders.{Entry, EntryLabel, HasTreeSizes, first_trees, label_move, last_trees, leaf_label, node_label}
use Rattle.lalrpop_lr1_interpret.specs.MoveOrders.{tree_entries, trees_after, trees_of, with_label}
use Rattle.lalrpop_lr1_interpret.specs.Stacks.{◌beside◌}
use Rattle.lalrpop_lr1_interpret.proofs.MoveOrderLemmas.{after_more, cut-beside, entries-beside, entries-long, entries_of_trees, has_sizes}
use Rattle.lalrpop_lr1_interpret.proofs.MoveOrderLemmas.{moves_are_labels, node_over}
use Rattle.lalrpop_lr1_interpret.proofs.StackLemmas.{without-beside}
use Rattle.lalrpop_judge.specs.EntryMoves.{IsKeptBeside, Root, label_root, tree_roots}

abbrev leaf_root : Terminal → Root
leaf_root t = record { symbol = terminal t; size = 1 }

abbrev node_root : Production → ℕ → Root
node_root p n = record { symbol = nonterminal p.left; size = n }

-- the symbols of the roots
pub roots-symbols : (ts : SpannedForest) → map (λ r. r.symbol) (tree_roots ts) ≡ roots (without_spans ts)
roots-symbols none_at = refl
roots-symbols (leaf_at t span ts) = ap (λ ss. terminal t ∷ ss) (roots-symbols ts)
roots-symbols (node_at p cs ts) = ap (λ ss. nonterminal p.left ∷ ss) (roots-symbols ts)

-- as many leaves and nodes as the sizes of the roots together
pub nodes-roots : (ts : SpannedForest) → sum_by (λ r. r.size) (tree_roots ts) ≡ nodes (without_spans ts)
nodes-roots none_at = refl
nodes-roots (leaf_at t span ts) =
    omega (arith, nodes-roots ts, sum_by-append (λ (r : Root). r.size) (leaf_root t ∷ []) (tree_roots ts))
nodes-roots (node_at p cs ts) =
    omega (
      arith,
      nodes-roots ts,
      sum_by-append (λ (r : Root). r.size) (node_root p (suc (nodes (without_spans cs))) ∷ []) (tree_roots ts),
    )

tree_roots-beside : (ts us : SpannedForest) → tree_roots (ts beside us) ≡ tree_roots ts ++ tree_roots us
tree_roots-beside none_at us = refl
tree_roots-beside (leaf_at t span ts) us =
    ap (λ l. leaf_root t ∷ l) (tree_roots-beside ts us)
tree_roots-beside (node_at p cs ts) us =
    ap (λ l. node_root p (suc (nodes (without_spans cs))) ∷ l) (tree_roots-beside ts us)

-- trees parted behind the first of them
record IsParted (ts : SpannedForest) (kept : ℕ) : Type 0 where
  first : SpannedForest
  others : SpannedForest
  parts : ts ≡ first beside others
  first_are : tree_roots first ≡ take kept (tree_roots ts)
  others_are : tree_roots others ≡ drop kept (tree_roots ts)

parted : (ts : SpannedForest) (kept : ℕ) → kept ≤ length (tree_roots ts) → IsParted ts kept
parted ts zero h = record { first = none_at; others = ts; parts = refl; first_are = refl; others_are = refl }
parted none_at (suc k) h = absurd (omega (arith, h))
parted (leaf_at t span ts) (suc k) h =
    let r = parted ts k (omega (arith, h)) in
    record {
      first = leaf_at t span r.first;
      others = r.others;
      parts = ap (leaf_at t span) r.parts;
      first_are = ap (λ l. leaf_root t ∷ l) r.first_are;
      others_are = r.others_are;
    }
parted (node_at p cs ts) (suc k) h =
    let r = parted ts k (omega (arith, h)) in
    record {
      first = node_at p cs r.first;
      others = r.others;
      parts = ap (node_at p cs) r.parts;
      first_are = ap (λ l. node_root p (suc (nodes (without_spans cs))) ∷ l) r.first_are;
      others_are = r.others_are;
    }

-- the size that an entry has behind these trees
abbrev pub IsSizeBehind : SpannedForest → EntryLabel → ℕ → Type 0
IsSizeBehind ts (leaf_label t span) n = n ≡ 1
IsSizeBehind ts (node_label p) n = n ≡ suc (nodes (without_spans (last_trees (n - 1) ts)))

-- one entry more: those that there were, and one behind them
record HasGrown (ts : SpannedForest) (l : EntryLabel) (n : ℕ) : Type 0 where
  last : Entry
  list : tree_entries (with_label ts l n) ≡ tree_entries ts ++ last ∷ []
  size_is : n ≡ last.size → IsSizeBehind ts l n

grown : (ts : SpannedForest) (l : EntryLabel) (n : ℕ) → HasGrown ts l n
grown ts (leaf_label t span) n =
    record { last = record { label = leaf_label t span; size = 1 }; list = entries-beside ts (leaf_at t span none_at); size_is = λ e. e }
grown ts (node_label p) n =
    let f = first_trees (n - 1) ts in
    let g = last_trees (n - 1) ts in
    let last : Entry = record { label = node_label p; size = suc (nodes (without_spans g)) } in
    record {
      last = last;
      list = entries-beside f (node_at p g none_at) ∙ sym (append_assoc (tree_entries f) (tree_entries g) (last ∷ []))
          ∙ ap (λ l. l ++ last ∷ []) (sym (entries-beside f g) ∙ ap tree_entries (cut-beside (n - 1) ts));
      size_is = λ e. e;
    }

-- more entries: those that there were, and others behind them
entries_after : (ts : SpannedForest) (es : List Entry) → (more : List Entry) × (tree_entries (trees_after ts es) ≡ tree_entries ts ++ more)
entries_after ts [] = ([], sym (append-nil (tree_entries ts)))
entries_after ts (e ∷ es) =
    let g = grown ts e.label e.size in
    let r = entries_after (with_label ts e.label e.size) es in
    (g.last ∷ r.0, r.1 ∙ ap (λ l. l ++ r.0) g.list ∙ append_assoc (tree_entries ts) (g.last ∷ []) r.0)

entries_count : (es : List Entry) → length (tree_entries (trees_of es)) ≡ length es
entries_count es =
    entries-long (trees_of es) ∙ sym (length-moves (without_spans (trees_of es))) ∙ ap length (moves_are_labels es)
    ∙ length-map es (λ e. label_move e.label)

-- the first entries of trees are those of trees
pub sizes_before : (es ds : List Entry) → HasTreeSizes (es ++ ds) → HasTreeSizes es
sizes_before es ds h =
    let more = entries_after (trees_of es) ds in
    let own = tree_entries (trees_of es) in
    let whole : es ++ ds ≡ own ++ more.0 =
    sym (entries_of_trees (es ++ ds) h) ∙ ap tree_entries (after_more none_at es ds) ∙ more.1 in
    let same : es ≡ own =
    sym (take-append_seam es ds) ∙ ap (take (length es)) whole
    ∙ ap (λ n. take n (own ++ more.0)) (sym (entries_count es)) ∙ take-append_seam own more.0 in
    has_sizes es (trees_of es) same

-- the size of the last entry
pub size_behind : (es : List Entry) (e : Entry) → HasTreeSizes (es ++ e ∷ []) → IsSizeBehind (trees_of es) e.label e.size
size_behind es e h =
    let g = grown (trees_of es) e.label e.size in
    let ends : es ++ e ∷ [] ≡ tree_entries (trees_of es) ++ g.last ∷ [] =
    sym (entries_of_trees (es ++ e ∷ []) h) ∙ ap tree_entries (after_more none_at es (e ∷ [])) ∙ g.list in
    g.size_is (ap (λ x. x.size) (same_from_push es (tree_entries (trees_of es)) e g.last ends).1)

module _ (G : Production → Type 0) where
  -- trees beside others
  over_beside : (ts us : SpannedForest) → AreOver G (without_spans ts) → AreOver G (without_spans us) →
      AreOver G (without_spans (ts beside us))
  over_beside ts us h k =
      subst (AreOver G) (sym (without-beside ts us)) (over-and G (without_spans ts) (without_spans us) h k)

  over_parts : (ts us : SpannedForest) → AreOver G (without_spans (ts beside us)) →
      AreOver G (without_spans ts) × AreOver G (without_spans us)
  over_parts ts us h = over-split G (without_spans ts) (without_spans us) (subst (AreOver G) (without-beside ts us) h)

  over_less : (ts : SpannedForest) (l : EntryLabel) (n : ℕ) → AreOver G (without_spans (with_label ts l n)) → AreOver G (without_spans ts)
  over_less ts (leaf_label t span) n h = (over_parts ts (leaf_at t span none_at) h).0
  over_less ts (node_label p) n h =
      let f = first_trees (n - 1) ts in
      let g = last_trees (n - 1) ts in
      let r = over_parts f (node_at p g none_at) h in
      subst (λ x. AreOver G (without_spans x)) (cut-beside (n - 1) ts) (over_beside f g r.0 (r.1).2)

  -- where all trees of a list are over the grammar, those that stood before are
  pub over_before : (ts : SpannedForest) (es : List Entry) → AreOver G (without_spans (trees_after ts es)) → AreOver G (without_spans ts)
  over_before ts [] h = h
  over_before ts (e ∷ es) h = over_less ts e.label e.size (over_before (with_label ts e.label e.size) es h)

  -- trees over the grammar, and their roots, with one entry more
  pub record IsOverWith (ts : SpannedForest) (l : EntryLabel) (n kept : ℕ) : Type 0 where
    pub over : AreOver G (without_spans (with_label ts l n))
    pub roots_are : tree_roots (with_label ts l n) ≡ take kept (tree_roots ts) ++ label_root l n ∷ []

  pub over_more : (ts : SpannedForest) (l : EntryLabel) (n kept : ℕ) → IsKeptBeside G (tree_roots ts) l n kept →
      AreOver G (without_spans ts) → IsOverWith ts l n kept
  over_more ts (leaf_label t span) n kept k h = record {
    over = over_beside ts (leaf_at t span none_at) h tt;
    roots_are = tree_roots-beside ts (leaf_at t span none_at)
        ∙ ap (λ r. r ++ leaf_root t ∷ [])
        (sym (take-length (tree_roots ts)) ∙ ap (λ j. take j (tree_roots ts)) (sym k));
  }
  over_more ts (node_label p) n kept k h =
      let r = parted ts kept k.within in
      let a = over_parts r.first r.others (subst (λ x. AreOver G (without_spans x)) r.parts h) in
      let right : roots (without_spans r.others) ≡ p.right =
      sym (roots-symbols r.others) ∙ ap (map (λ (x : Root). x.symbol)) r.others_are ∙ k.symbols in
      let size : n ≡ suc (nodes (without_spans r.others)) =
      k.size_is ∙ ap suc (ap (sum_by (λ (x : Root). x.size)) (sym r.others_are) ∙ nodes-roots r.others) in
      let made : with_label ts (node_label p) n ≡ r.first beside node_at p r.others none_at =
      ap (λ x. with_label x (node_label p) n) r.parts ∙ node_over r.first r.others p n size in
      record {
        over = subst (λ x. AreOver G (without_spans x)) (sym made)
            (over_beside r.first (node_at p r.others none_at) a.0 (k.is, right, a.1, tt));
        roots_are = ap tree_roots made ∙ tree_roots-beside r.first (node_at p r.others none_at)
            ∙ ap (λ j. tree_roots r.first ++ node_root p j ∷ []) (sym size)
            ∙ ap (λ l. l ++ node_root p n ∷ []) r.first_are;
      }

  -- where none of the roots stay beside it, the trees with the entry aren't over the grammar
  pub over_not : (ts : SpannedForest) (l : EntryLabel) (n : ℕ) → IsSizeBehind ts l n →
      ((kept : ℕ) → IsKeptBeside G (tree_roots ts) l n kept → ⊥) → AreOver G (without_spans (with_label ts l n)) → ⊥
  over_not ts (leaf_label t span) n s ne h = ne (length (tree_roots ts)) refl
  over_not ts (node_label p) n s ne h =
      let f = first_trees (n - 1) ts in
      let g = last_trees (n - 1) ts in
      let r = over_parts f (node_at p g none_at) h in
      let kept = length (tree_roots f) in
      let all : tree_roots ts ≡ tree_roots f ++ tree_roots g =
      ap tree_roots (sym (cut-beside (n - 1) ts)) ∙ tree_roots-beside f g in
      let others : drop kept (tree_roots ts) ≡ tree_roots g =
      ap (drop kept) all ∙ drop-append_seam (tree_roots f) (tree_roots g) in
      ne kept
      (record {
        is = (r.1).0;
        within = omega (arith, ap length all, length-append (tree_roots f) (tree_roots g));
        symbols = ap (map (λ (x : Root). x.symbol)) others ∙ roots-symbols g ∙ (r.1).1;
        size_is = s ∙ ap suc (sym (ap (sum_by (λ (x : Root). x.size)) others ∙ nodes-roots g));
      })
