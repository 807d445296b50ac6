-- What is still to come of the trees of a record while its symbols are gone through, and the trees of one symbol; for the code.
use Rattle.std.proofs.Common.{◌≡◌, ◌+◌, ◌<◌, ◌≤◌, ℕ, List, [], ◌∷◌, ◌++◌, length, refl, ap, sym}
use Rattle.std.proofs.Common.{◌∙◌, arith, subst, append_assoc, map}
use Rattle.std.specs.Prelude.{IfOk, None, Result, Ok, Err, Some, drop, slice_get, take}
use Rattle.std.proofs.Math.ListN.{drop_of_length-le}
use Rattle.std.proofs.lemmas.Result.{IfOk-weaker}
use Rattle.std.proofs.lemmas.List.{append-nil, drop-map, length-drop, length-map, length-take-le, take-map}
use Rattle.lalrpop_grammar.specs.Trees.{Tree, trees}
use Rattle.lalrpop_grammar.specs.Views.{origin_view, tree_view}
use Rattle.lalrpop_grammar.specs.declared.origin.Origin as choices
use Rattle.lalrpop_grammar.specs.declared.tree.WrittenTree.{WrittenTree}
use Rattle.lalrpop_grammar_language.specs.Derivations.{tree_by_origin}
use Rattle.lalrpop_grammar_repr.specs.declared.action.ActionFn.{ActionFn}
use Rattle.lalrpop_grammar_repr.specs.declared.action.ActionFnDefn.{ActionFnDefn}
use Rattle.lalrpop_grammar_repr.specs.declared.action.InlineActionFnDefn.{InlineActionFnDefn}
use Rattle.lalrpop_grammar_repr.specs.declared.action.InlinedSymbol.{InlinedSymbol}
use Rattle.lalrpop_grammar_repr.specs.declared.action.InlinedSymbol.TheVariants as symbols
use Rattle.lalrpop_grammar_repr.specs.declared.production.Symbol.{Symbol}
use Rattle.lalrpop_run_trees.specs.ActionLabels.{ChoiceInlinings, ChoiceLabel, IsRecordOf, TellEntries, TellsLabel}
use Rattle.lalrpop_run_trees.specs.ActionLabels.{symbols_after_entry}
use Rattle.lalrpop_run_trees.specs.LabelledTrees.{tree_by_label, trees_by_inlinings}
use Rattle.lalrpop_run_trees.proofs.FrontLemmas.{tree_of_front}
use Rattle.lalrpop_run_trees.proofs.SeenLemmas.{viewed_more}
use Rattle.lalrpop_run_trees.proofs.ToldLemmas.{given_node, inlined_entry, kept_entry, made_node, no_entry, one_record, parted}
use Rattle.lalrpop_run_trees.proofs.ToldLemmas.{told_count}

module _ (actions : List ActionFnDefn) (origins : List choices.Origin) (below : ℕ) where
  -- With these symbols left, and these trees: what was made and what is to be made is the whole.
  pub record IsToCome (left : List InlinedSymbol) (made ts whole : List Tree) : Type 0 where
    pub entries : ChoiceInlinings
    pub count : ℕ
    pub told : TellEntries actions origins below left count entries
    pub enough : count ≤ length ts
    pub whole_is : made ++ trees_by_inlinings entries ts ≡ whole

  -- before the first symbol
  pub come_first : (all : List InlinedSymbol) (ts : List Tree) (entries : ChoiceInlinings) →
      TellEntries actions origins below all (length ts) entries → IsToCome all [] ts (trees_by_inlinings entries ts)
  come_first all ts entries told = record {
    entries = entries;
    count = length ts;
    told = told;
    enough = omega arith;
    whole_is = refl;
  }

  -- behind a symbol
  pub come_one : (s : InlinedSymbol) (rest : List InlinedSymbol) (made ts whole : List Tree) (v : Tree) →
      IsToCome (s ∷ rest) made ts whole →
      ((count : ℕ) (entries : ChoiceInlinings) → TellEntries actions origins below (s ∷ []) count entries → count ≤ length ts →
      v ∷ [] ≡ trees_by_inlinings entries ts) → IsToCome rest (made ++ v ∷ []) (drop (symbols_after_entry s) ts) whole
  come_one s rest made ts whole v c one =
      let p = parted actions origins below s rest c.count c.entries c.told in
      record {
        entries = p.others;
        count = p.other_count;
        told = p.others_told;
        enough = omega (arith, p.count_is, c.enough, length-drop (symbols_after_entry s) ts);
        whole_is =
            append_assoc made (v ∷ []) (trees_by_inlinings p.others (drop (symbols_after_entry s) ts))
            ∙ ap (λ l. made ++ (l ++ trees_by_inlinings p.others (drop (symbols_after_entry s) ts)))
            (one (symbols_after_entry s) p.first p.first_told (omega (arith, p.count_is, c.enough)))
            ∙ ap (λ l. made ++ l) (sym (p.trees_are ts)) ∙ c.whole_is;
      }

  -- behind the last
  pub come_last : (made ts whole : List Tree) → IsToCome [] made ts whole → made ≡ whole
  come_last made ts whole c =
      sym (append-nil made)
      ∙ ap (λ e. made ++ trees_by_inlinings e ts) (sym (no_entry actions origins below c.count c.entries c.told).1) ∙ c.whole_is

  -- the tree of a symbol that was kept is the next
  pub kept_tree : (s : Symbol) (count : ℕ) (entries : ChoiceInlinings) (items : List WrittenTree) (t : WrittenTree) →
      TellEntries actions origins below (symbols.Original s ∷ []) count entries → count ≤ length items →
      ((first : WrittenTree) (others : List WrittenTree) → items ≡ first ∷ others → t ≡ first) →
      tree_view t ∷ [] ≡ trees_by_inlinings entries (map tree_view items)
  kept_tree s count entries [] t told enough next =
      absurd (omega (arith, (kept_entry actions origins below s count entries told).0, enough))
  kept_tree s count entries (u ∷ items) t told enough next =
      ap (λ v. tree_view v ∷ []) (next u items refl)
      ∙ ap (λ e. trees_by_inlinings e (map tree_view (u ∷ items)))
      (sym (kept_entry actions origins below s count entries told).1)

  -- that of one that was inlined is the tree of its action, over as many of the next as its side has symbols
  pub inlined_tree : (action : ActionFn) (side : List Symbol) (count : ℕ) (entries : ChoiceInlinings)
      (items children : List WrittenTree) (t : WrittenTree) →
      TellEntries actions origins below (symbols.Inlined action side ∷ []) count entries → count ≤ length items →
      children ≡ take (length side) items →
      ((label : ChoiceLabel) → TellsLabel actions origins action.0 (length children) label →
      tree_view t ≡ tree_by_label label (map tree_view children)) →
      tree_view t ∷ [] ≡ trees_by_inlinings entries (map tree_view items)
  inlined_tree action side count entries items children t told enough front made =
      let e = inlined_entry actions origins below action side count entries told in
      let as_many : length children ≡ length side =
      ap length front ∙ length-take-le (length side) items (omega (arith, e.count_is, enough)) in
      let own = made e.label (subst (λ n. TellsLabel actions origins action.0 n e.label) (sym as_many) e.told) in
      ap (λ v. v ∷ [])
      (own ∙ ap (λ l. tree_by_label e.label l)
      (ap (λ l. map tree_view l) front ∙ sym (take-map tree_view (length side) items))
      ∙ tree_of_front e.label (length side) (map tree_view items)
      (told_count actions origins action.0 (length side) e.label e.told)
      (omega (arith, e.count_is, enough, length-map items tree_view)))
      ∙ ap (λ x. trees_by_inlinings x (map tree_view items)) (sym e.entries_are)

  -- the same of a call's result
  pub inlined_result : {E : Type 0} (action : ActionFn) (side : List Symbol) (count : ℕ) (entries : ChoiceInlinings)
      (items children : List WrittenTree) (r : Result WrittenTree E) →
      TellEntries actions origins below (symbols.Inlined action side ∷ []) count entries → count ≤ length items →
      children ≡ take (length side) items →
      ((label : ChoiceLabel) → TellsLabel actions origins action.0 (length children) label →
      IfOk r (λ t. tree_view t ≡ tree_by_label label (map tree_view children))) →
      IfOk r (λ t. tree_view t ∷ [] ≡ trees_by_inlinings entries (map tree_view items))
  inlined_result action side count entries items children (Ok t) told enough front made =
      inlined_tree action side count entries items children t told enough front made
  inlined_result action side count entries items children (Err e) told enough front made = tt

  -- a turn of the loop
  pub come_on : (all : List InlinedSymbol) (i : ℕ) (s : InlinedSymbol) → drop i all ≡ s ∷ drop (i + 1) all →
      (made new : List WrittenTree) (t : WrittenTree) → new ≡ made ++ t ∷ [] → (items left : List WrittenTree) →
      left ≡ drop (symbols_after_entry s) items → (whole : List Tree) →
      IsToCome (drop i all) (map tree_view made) (map tree_view items) whole →
      ((count : ℕ) (entries : ChoiceInlinings) → TellEntries actions origins below (s ∷ []) count entries →
      count ≤ length items →
      tree_view t ∷ [] ≡ trees_by_inlinings entries (map tree_view items)) →
      IsToCome (drop (i + 1) all) (map tree_view new) (map tree_view left) whole
  come_on all i s here made new t more items left less whole c one =
      let made_are : map tree_view made ++ tree_view t ∷ [] ≡ map tree_view new =
      sym (viewed_more made t) ∙ ap (λ l. map tree_view l) (sym more) in
      let left_are : drop (symbols_after_entry s) (map tree_view items) ≡ map tree_view left =
      drop-map tree_view (symbols_after_entry s) items ∙ ap (λ l. map tree_view l) (sym less) in
      subst (λ l. IsToCome (drop (i + 1) all) l (map tree_view left) whole) made_are
      (subst (λ l. IsToCome (drop (i + 1) all) (map tree_view made ++ tree_view t ∷ []) l whole) left_are
      (come_one s (drop (i + 1) all) (map tree_view made) (map tree_view items) whole (tree_view t)
      (subst (λ l. IsToCome l (map tree_view made) (map tree_view items) whole) here c)
      (λ count entries told enough. one count entries told (omega (arith, enough, length-map items tree_view)))))

  -- its end
  pub come_end : (all : List InlinedSymbol) (i : ℕ) → length all ≤ i → (made ts whole : List Tree) →
      IsToCome (drop i all) made ts whole → made ≡ whole
  come_end all i past made ts whole c =
      come_last made ts whole (subst (λ l. IsToCome l made ts whole) (drop_of_length-le all past) c)

module _ (actions : List ActionFnDefn) (origins : List choices.Origin) (k : ℕ) (label : ChoiceLabel) (children : List WrittenTree)
    (told : TellsLabel actions origins k (length children) label) where
  -- the tree of a given action
  pub given_tree : (o : choices.Origin) → slice_get origins k ≡ Some o → (t : WrittenTree) →
      tree_view t ≡ tree_by_origin (origin_view o) (trees (map tree_view children)) →
      tree_view t ≡ tree_by_label label (map tree_view children)
  given_tree o at t made =
      made ∙ sym (given_node actions origins k (length children) label told o at (map tree_view children)
      (sym (length-map children tree_view)))

  -- that of an added action, by its record
  pub made_tree : slice_get origins k ≡ None → (i : InlineActionFnDefn) → IsRecordOf actions k i → (trees : List WrittenTree) →
      ((entries : ChoiceInlinings) → TellEntries actions origins k i.symbols (length children) entries →
      map tree_view trees ≡ trees_by_inlinings entries (map tree_view children)) → length trees ≡ length i.symbols →
      {E : Type 0} (r : Result WrittenTree E) →
      ((inner : ChoiceLabel) → TellsLabel actions origins i.action.0 (length trees) inner →
      IfOk r (λ t. tree_view t ≡ tree_by_label inner (map tree_view trees))) →
      IfOk r (λ t. tree_view t ≡ tree_by_label label (map tree_view children))
  made_tree none i is trees are counted r outer =
      let n = made_node actions origins k (length children) label told none in
      let same : n.record_of ≡ i = one_record actions k n.record_of i n.is_record is in
      let entries_told : TellEntries actions origins k i.symbols (length children) n.entries =
      subst (λ j. TellEntries actions origins k j.symbols (length children) n.entries) same n.entries_told in
      let outer_told : TellsLabel actions origins i.action.0 (length trees) n.outer =
      subst (λ c. TellsLabel actions origins i.action.0 c n.outer) (sym counted)
      (subst (λ j. TellsLabel actions origins j.action.0 (length j.symbols) n.outer) same n.outer_told) in
      IfOk-weaker r _ _
      (λ t h. h ∙ ap (λ l. tree_by_label n.outer l) (are n.entries entries_told) ∙ sym (n.tree_is (map tree_view children)))
      (outer n.outer outer_told)

  -- it has a record, of a smaller action
  pub has_record : slice_get origins k ≡ None → ((i : InlineActionFnDefn) → IsRecordOf actions k i → ⊥) → ⊥
  has_record none without =
      let n = made_node actions origins k (length children) label told none in
      without n.record_of n.is_record

  pub record_below : slice_get origins k ≡ None → (i : InlineActionFnDefn) → IsRecordOf actions k i → i.action.0 < k
  record_below none i is =
      let n = made_node actions origins k (length children) label told none in
      subst (λ j. j.action.0 < k) (one_record actions k n.record_of i n.is_record is) n.less
