-- What one production, all of a nonterminal, and one part after the other say of the trees to which a part is folded; for the search.
use Rattle.std.proofs.Common.{◌≡◌, ◌∙◌, ◌+◌, ◌≤◌, ◌⊎◌, ℕ, zero, suc, List, []}
use Rattle.std.proofs.Common.{◌∷◌, ◌++◌, Bool, true, false, length, ap, refl, sym, arith}
use Rattle.std.proofs.Common.{subst, inl, inr, map, take, drop, Contains}
use Rattle.std.specs.Prelude.{None, Option, Some, Vec}
use Rattle.std.specs.declared.alloc.Global.{Global}
use Rattle.std.proofs.lemmas.Bool.{true≢false}
use Rattle.std.proofs.lemmas.List.{length-map, map-append, take-append-drop}
use Rattle.std.proofs.lemmas.List.Elements.{Contains-append_cases, Contains-append_left, Contains-append_right}
use Rattle.lalrpop_grammar.specs.Trees.{Tree}
use Rattle.lalrpop_grammar.specs.declared.origin.Origin as choices
use Rattle.lalrpop_grammar_repr.specs.Productions.{productions_of}
use Rattle.lalrpop_grammar_repr.specs.declared.grammar.Grammar.{Grammar}
use Rattle.lalrpop_grammar_repr.specs.declared.action.ActionFnDefn.{ActionFnDefn}
use Rattle.lalrpop_grammar_repr.specs.declared.production.Production.{Production}
use Rattle.lalrpop_grammar_repr.specs.declared.production.Symbol.{Symbol}
use Rattle.lalrpop_grammar_symbols.specs.declared.names.NonterminalString.{NonterminalString}
use Rattle.lalrpop_lr1_core.specs.TheoryGrammars.{theory_grammar}
use Rattle.lalrpop_lr1_core.specs.Views.{production_symbol_view, production_view}
use Rattle.lalrpop_lr1_core.proofs.MemberLemmas.{in_map, map_has}
use Rattle.lalrpop_lr1_interpret.specs.Stacks.{◌beside◌}
use Rattle.lalrpop_lr1_interpret.proofs.ExpandedLemmas.{roots-beside}
use Rattle.lalrpop_lr1_interpret.proofs.StackLemmas.{beside-beside}
use Rattle.lalrpop_lr1_theory.specs.Productions as theory
use Rattle.lalrpop_lr1_theory.specs.Spans.{SpannedForest, leaf_at, node_at, none_at, without_spans}
use Rattle.lalrpop_lr1_theory.specs.Trees.{roots}
use Rattle.lalrpop_run_trees.specs.ActionLabels.{ChoiceLabel, TellsLabel}
use Rattle.lalrpop_run_trees.specs.KeptTrees.{AreKeptBy}
use Rattle.lalrpop_run_trees.specs.PartViews.{AllWithin, TellsKept, shown_part}
use Rattle.lalrpop_run_trees.specs.declared.tree_parts.tree_part.TreePart.{TreePart}
use Rattle.lalrpop_run_trees.proofs.KeptLemmas.{kept_once}
use Rattle.lalrpop_run_parser.specs.Folds.{AreFoldedTo, AreRankedUnder, IsRankedWithin}
use Rattle.lalrpop_run_parser.specs.FoldedTrees.{AreFoldable, AreOfGrammar, PutsBeside, StandBeside, TellsFolded, TellsFoldedBy}
use Rattle.lalrpop_run_parser.specs.FoldedTrees.{TellsFoldedByAny, TellsPartFolded}
use Rattle.lalrpop_run_parser.specs.PassingRanks.{label_rank}
use Rattle.lalrpop_run_parser.proofs.FoldLemmas.{folded_more, node_folded, node_only}
use Rattle.lalrpop_run_parser.proofs.FoldLemmas.{node_parts, ranked_under}
use Rattle.lalrpop_run_parser.proofs.RankLemmas.{label_bound}

-- no trees are kept, where they aren't some
pub none_kept : (label : ChoiceLabel) (whole : TreePart) (kept : Option (Vec TreePart Global)) → TellsKept label whole kept →
    ((parts : Vec TreePart Global) → kept ≡ Some parts → ⊥) → TellsKept label whole None
none_kept label whole None told none = told
none_kept label whole (Some parts) told none = absurd (none parts refl)

-- what stands in front of a place, or from it on, is there; and nothing else is
pub in_front : (ps : List Production) (k : ℕ) (p : Production) → Contains (take k ps) p → Contains ps p
in_front ps k p c =
    subst (λ l. Contains l p) (take-append-drop k ps) (Contains-append_left (take k ps) (drop k ps) p c)

pub at_back : (ps : List Production) (k : ℕ) (p : Production) → Contains (drop k ps) p → Contains ps p
at_back ps k p c =
    subst (λ l. Contains l p) (take-append-drop k ps) (Contains-append_right (take k ps) (drop k ps) p c)

in_two : (ps : List Production) (k : ℕ) (p : Production) → Contains ps p → Contains (take k ps) p ⊎ Contains (drop k ps) p
in_two ps k p c =
    Contains-append_cases (take k ps) (drop k ps) p (subst (λ l. Contains l p) (sym (take-append-drop k ps)) c)

module _ (g : Grammar) (origins : List choices.Origin) (label_of : ℕ → ChoiceLabel) (f : AreFoldable g origins label_of) where
  abbrev G : theory.Production → Type 0
  G = Contains (theory_grammar g)

  -- what the action of a production tells
  pub told_here : (p : Production) (actions : List ActionFnDefn) (symbols : List Symbol) → actions ≡ g.action_fn_defns →
      symbols ≡ p.symbols → G (production_view p) →
      TellsLabel actions origins p.action.0 (length symbols) (label_of p.action.0)
  told_here p actions symbols actions_are symbols_are belongs =
      subst (λ l. TellsLabel l origins p.action.0 (length symbols) (label_of p.action.0)) (sym actions_are)
      (subst (λ n. TellsLabel g.action_fn_defns origins p.action.0 n (label_of p.action.0))
      (length-map p.symbols production_symbol_view ∙ ap length (sym symbols_are)) (f.tells (production_view p) belongs))

  -- by one production: its trees, put together
  pub found_by : (p : theory.Production) (v : Tree) (parts : List TreePart) (cs ts : SpannedForest) → G p →
      AreKeptBy (label_of p.action) v (map shown_part parts) → AreFoldedTo G label_of p.right (map shown_part parts) cs →
      ts ≡ node_at p cs none_at → AreFoldedTo G label_of (theory.nonterminal p.left ∷ []) (v ∷ []) ts
  found_by p v parts cs ts belongs are folded e =
      subst (λ x. AreFoldedTo G label_of (theory.nonterminal p.left ∷ []) (v ∷ []) x) (sym e)
      (node_folded G label_of p v (map shown_part parts) cs belongs are folded)

  -- none, where the part is no tree by its label
  pub none_by_label : (p : theory.Production) (q whole : TreePart) (most : ℕ) → shown_part whole ≡ shown_part q →
      ((us : List Tree) → AreKeptBy (label_of p.action) (shown_part whole) us → ⊥) → TellsFoldedBy p q most G label_of None
  none_by_label p q whole most same none = λ cs h low.
      let n = node_parts G label_of p (shown_part q) cs h in
      none n.kept (subst (λ t. AreKeptBy (label_of p.action) t n.kept) (sym same) n.are_kept)

  -- none, where the trees that the label keeps have none
  pub none_by_parts : (p : theory.Production) (q whole : TreePart) (parts : List TreePart) (most : ℕ) →
      shown_part whole ≡ shown_part q → whole.is_inside ≡ false → AllWithin whole parts →
      AreKeptBy (label_of p.action) (shown_part whole) (map shown_part parts) →
      ((ts : SpannedForest) → AreFoldedTo G label_of p.right (map shown_part parts) ts →
      AreRankedUnder label_of most parts ts → ⊥) →
      TellsFoldedBy p q most G label_of None
  none_by_parts p q whole parts most same outside within are none = λ cs h low.
      let n = node_parts G label_of p (shown_part q) cs h in
      let kept : n.kept ≡ map shown_part parts =
      kept_once (label_of p.action) (shown_part whole) n.kept (map shown_part parts)
      (subst (λ t. AreKeptBy (label_of p.action) t n.kept) (sym same) n.are_kept) are in
      let folded = subst (λ l. AreFoldedTo G label_of p.right l cs) kept n.children in
      none cs folded
      (ranked_under G label_of whole (label_rank (label_of p.action)) most p.right parts cs outside low within
      (f.falls p n.belongs (shown_part whole) (map shown_part parts) are) folded.roots_are folded.are_over)

  -- of a nonterminal: none, where none of its productions has one
  pub none_of_name : (name : NonterminalString) (q : TreePart) (most : ℕ) (ps : List Production) →
      ps ≡ productions_of g.nonterminals name →
      ((p : Production) → Contains ps p → TellsFoldedBy (production_view p) q most G label_of None) →
      TellsFolded (theory.nonterminal name.0) q most G label_of None
  none_of_name name q most ps ps_are none = λ ts h low.
      let n = node_only G label_of name.0 (shown_part q) ts h in
      let there = (f.named name n.production).1 (n.belongs, n.left_is) in
      let m = in_map production_view (productions_of g.nonterminals name) n.production there in
      let node : ts ≡ node_at (production_view m.0) n.children none_at =
      n.is_node ∙ ap (λ p. node_at p n.children none_at) (sym m.2) in
      none m.0 (subst (λ l. Contains l m.0) (sym ps_are) m.1) n.children
      (subst (λ s. AreFoldedTo G label_of (theory.nonterminal s ∷ []) (shown_part q ∷ [])
      (node_at (production_view m.0) n.children none_at))
      (sym n.left_is ∙ ap (λ p. p.left) (sym m.2))
      (subst (λ x. AreFoldedTo G label_of (theory.nonterminal name.0 ∷ []) (shown_part q ∷ []) x) node h))
      (subst (λ x. IsRankedWithin label_of most x) node low)

  -- each production of the nonterminal is one of the grammar's
  pub of_name : (name : NonterminalString) (p : Production) → Contains (productions_of g.nonterminals name) p →
      G (production_view p) × (p.nonterminal.0 ≡ name.0)
  of_name name p c =
      (f.named name (production_view p)).0 (map_has production_view (productions_of g.nonterminals name) p c)

  pub of_names : (name : NonterminalString) (ps : List Production) →
      ((p : Production) → Contains ps p → Contains (productions_of g.nonterminals name) p) → AreOfGrammar g ps
  of_names name ps own = λ p c. (of_name name p (own p c)).0

  -- a tree by one of some of its productions
  pub found_of_name : (name : NonterminalString) (q : TreePart) (most : ℕ) (ps : List Production) (tree : SpannedForest) →
      ((p : Production) → Contains ps p → Contains (productions_of g.nonterminals name) p) →
      TellsFoldedByAny ps q most G label_of (Some tree) → TellsFolded (theory.nonterminal name.0) q most G label_of (Some tree)
  found_of_name name q most ps tree own h =
      subst (λ n. AreFoldedTo G label_of (theory.nonterminal n ∷ []) (shown_part q ∷ []) tree)
      (of_name name h.0 (own h.0 h.1)).1 h.2

  -- none by those from a place on: what those in front of it tell
  pub told_in_front : (name : NonterminalString) (q : TreePart) (most : ℕ) (ps : List Production) (k : ℕ) →
      ps ≡ productions_of g.nonterminals name → TellsFoldedByAny (drop k ps) q most G label_of None → (r : Option SpannedForest) →
      TellsFoldedByAny (take k ps) q most G label_of r → TellsFolded (theory.nonterminal name.0) q most G label_of r
  told_in_front name q most ps k ps_are back None front =
      none_of_name name q most ps ps_are (λ p c. go p (in_two ps k p c))
    where
      go : (p : Production) → Contains (take k ps) p ⊎ Contains (drop k ps) p → TellsFoldedBy (production_view p) q most G label_of None
      go p (inl c) = front p c
      go p (inr c) = back p c
  told_in_front name q most ps k ps_are back (Some tree) front =
      found_of_name name q most (take k ps) tree (λ p c. subst (λ l. Contains l p) ps_are (in_front ps k p c)) front

-- no tree has a greater rank than a start
pub ranked_any : (label_of : ℕ → ChoiceLabel) (ts : SpannedForest) → IsRankedWithin label_of 4294967298 ts
ranked_any label_of none_at = tt
ranked_any label_of (leaf_at t span ts) = tt
ranked_any label_of (node_at p cs ts) = label_bound (label_of p.action)

module _ (G : theory.Production → Type 0) (label_of : ℕ → ChoiceLabel) (s : theory.Symbol) (q : TreePart) where
  -- of one part: inside the whole any tree of the symbol will do
  pub part_inside : (most : ℕ) (r : Option SpannedForest) → TellsFolded s q 4294967298 G label_of r →
      TellsPartFolded s q most G label_of r
  part_inside most None h = λ ts folded low. h ts folded (ranked_any label_of ts)
  part_inside most (Some tree) h = h

  ranked_less : (ts : SpannedForest) (most less : ℕ) → q.is_inside ≡ false → most ≤ less + 1 →
      AreRankedUnder label_of most (q ∷ []) ts → IsRankedWithin label_of less ts
  ranked_less none_at most less out le h = tt
  ranked_less (leaf_at t span ts) most less out le h = tt
  ranked_less (node_at p cs ts) most less out le h = let under = h.0 out in omega (arith, under, le)

  pub part_whole : (most less : ℕ) (r : Option SpannedForest) → q.is_inside ≡ false → most ≤ less + 1 →
      TellsFolded s q less G label_of r → TellsPartFolded s q most G label_of r
  part_whole most less None out le h = λ ts folded low. h ts folded (ranked_less ts most less out le low)
  part_whole most less (Some tree) out le h = h

  -- where it may be passed down no more, there is none
  pub part_spent : (most : ℕ) → q.is_inside ≡ false → most ≡ 0 → TellsPartFolded s q most G label_of None
  part_spent most out e = λ ts folded low. go ts folded low
    where
      go : (ts : SpannedForest) → AreFoldedTo G label_of (s ∷ []) (shown_part q ∷ []) ts →
          AreRankedUnder label_of most (q ∷ []) ts →
          ⊥
      go none_at folded low = absurd (no_one folded.roots_are)
        where
          no_one : [] ≡ s ∷ [] → ⊥
          no_one k = absurd (cc)
      go (leaf_at t span ts) folded low = true≢false (sym low.0 ∙ out)
      go (node_at p cs ts) folded low = let under = low.0 out in omega (arith, under, e)

-- one of some productions and one more
one_or_more : (ps : List Production) (i : ℕ) (q p : Production) → take (i + 1) ps ≡ take i ps ++ q ∷ [] →
    Contains (take (i + 1) ps) p → Contains (take i ps) p ⊎ (q ≡ p)
one_or_more ps i q p next c = go (Contains-append_cases (take i ps) (q ∷ []) p (subst (λ l. Contains l p) next c))
  where
    go : Contains (take i ps) p ⊎ Contains (q ∷ []) p → Contains (take i ps) p ⊎ (q ≡ p)
    go (inl d) = inl d
    go (inr d) = inr (only q p d)
      where
        only : (x y : Production) → Contains (x ∷ []) y → x ≡ y
        only x y (zero, less, e) = e
        only x y (suc k, less, e) = absurd (omega (arith, less))

-- none has a tree, and one more has none
pub one_more_none : (G : theory.Production → Type 0) (label_of : ℕ → ChoiceLabel) (ps : List Production) (i : ℕ) (q : Production)
    (part : TreePart) (most : ℕ) → take (i + 1) ps ≡ take i ps ++ q ∷ [] →
    ((p : Production) → Contains (take i ps) p → TellsFoldedBy (production_view p) part most G label_of None) →
    TellsFoldedBy (production_view q) part most G label_of None → (p : Production) → Contains (take (i + 1) ps) p →
    TellsFoldedBy (production_view p) part most G label_of None
one_more_none G label_of ps i q part most next before one p c = go (one_or_more ps i q p next c)
  where
    go : Contains (take i ps) p ⊎ (q ≡ p) → TellsFoldedBy (production_view p) part most G label_of None
    go (inl d) = before p d
    go (inr same) = subst (λ x. TellsFoldedBy (production_view x) part most G label_of None) same one

-- one more of the parts
module _ (G : theory.Production → Type 0) (label_of : ℕ → ChoiceLabel) where
  pub parts_more : (side : List theory.Symbol) (qs : List TreePart) (i : ℕ) (s : theory.Symbol) (q : TreePart)
      (made tree new : SpannedForest) → take (i + 1) side ≡ take i side ++ s ∷ [] → take (i + 1) qs ≡ take i qs ++ q ∷ [] →
      new ≡ made beside tree → AreFoldedTo G label_of (take i side) (map shown_part (take i qs)) made →
      AreFoldedTo G label_of (s ∷ []) (shown_part q ∷ []) tree →
      AreFoldedTo G label_of (take (i + 1) side) (map shown_part (take (i + 1) qs)) new
  parts_more side qs i s q made tree new more_side more_qs more before one =
      subst (λ l. AreFoldedTo G label_of l (map shown_part (take (i + 1) qs)) new) (sym more_side)
      (subst (λ l. AreFoldedTo G label_of (take i side ++ s ∷ []) l new)
      (sym (ap (λ l. map shown_part l) more_qs ∙ map-append shown_part (take i qs) (q ∷ [])))
      (subst (λ x. AreFoldedTo G label_of (take i side ++ s ∷ []) (map shown_part (take i qs) ++ shown_part q ∷ []) x) (sym more)
      (folded_more G label_of (take i side) (map shown_part (take i qs)) made s (shown_part q) tree before one)))

-- what is told of trees that were put beside others tells more of them
pub stand_more : (count : ℕ) (Tells More : Option SpannedForest → Type 0) (old new : SpannedForest) →
    ((ts : SpannedForest) → Tells (Some ts) → More (Some ts)) → StandBeside count Tells old new → StandBeside count More old new
stand_more count Tells More old new f h =
    record { trees = h.trees; beside_old = h.beside_old; count_is = h.count_is; told = f h.trees h.told }

pub puts_more : (count : ℕ) (Tells More : Option SpannedForest → Type 0) (old new : SpannedForest) (found : Bool) →
    ((r : Option SpannedForest) → Tells r → More r) → PutsBeside count Tells old new found → PutsBeside count More old new found
puts_more count Tells More old new true f h = stand_more count Tells More old new (λ ts. f (Some ts)) h
puts_more count Tells More old new false f h = (f None h.0, h.1)

-- one tree more beside those of the parts up to here
pub stand_one_more : (i : ℕ) (Tells One More : Option SpannedForest → Type 0) (old middle new : SpannedForest) →
    StandBeside i Tells old middle → StandBeside 1 One middle new →
    ((ts one all : SpannedForest) → all ≡ ts beside one → Tells (Some ts) → One (Some one) → More (Some all)) →
    StandBeside (i + 1) More old new
stand_one_more i Tells One More old middle new h k f = record {
  trees = h.trees beside k.trees;
  beside_old = k.beside_old ∙ ap (λ x. x beside k.trees) h.beside_old ∙ beside-beside old h.trees k.trees;
  count_is = roots-beside h.trees k.trees ∙ omega (arith, h.count_is, k.count_is);
  told = f h.trees k.trees (h.trees beside k.trees) refl h.told k.told;
}

-- a node over trees that stand beside others
pub node_beside : (p : theory.Production) (More : Option SpannedForest → Type 0) (old new trees : SpannedForest) →
    new ≡ old beside node_at p trees none_at → More (Some (node_at p trees none_at)) → StandBeside 1 More old new
node_beside p More old new trees e told = record { trees = node_at p trees none_at; beside_old = e; count_is = refl; told = told }

-- trees that stand beside others are enough for a node of as many symbols
pub enough_beside : (count : ℕ) (Tells : Option SpannedForest → Type 0) (old new : SpannedForest) (p : theory.Production) →
    count ≡ length p.right → StandBeside count Tells old new → length p.right ≤ length (roots (without_spans new))
enough_beside count Tells old new p many h =
    omega (
      arith,
      many,
      ap (λ f. length (roots (without_spans f))) h.beside_old,
      roots-beside old h.trees,
      h.count_is,
    )
