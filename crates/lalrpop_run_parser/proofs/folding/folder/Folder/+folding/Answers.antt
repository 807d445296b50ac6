use Rattle.std.proofs.Common.{◌≡◌, ◌∙◌, ◌+◌, ◌-◌, ◌∷◌, [], ◌++◌, ap, arith, drop, length}
use Rattle.std.proofs.Common.{map, refl, subst, sym, take, Contains}
use Rattle.std.specs.Prelude.{ℕ, List, None, Option, false}
use Rattle.std.proofs.lemmas.Result.{IfOk-weaker}
use Rattle.std.proofs.lemmas.List.{drop-map, drop_more, length-map, map-append, take-map, take_all, take_more}
use Rattle.lalrpop_grammar.specs.declared.origin.Origin as choices
use Rattle.lalrpop_grammar_repr.specs.Productions.{productions_of}
use Rattle.lalrpop_grammar_repr.specs.declared.grammar.Grammar.{Grammar}
use Rattle.lalrpop_grammar_repr.specs.declared.production.Symbol.{Symbol}
use Rattle.lalrpop_grammar_symbols.specs.Views.{terminal_view}
use Rattle.lalrpop_lr1_core.specs.TheoryGrammars.{theory_grammar}
use Rattle.lalrpop_lr1_core.specs.Views.{production_symbol_view, production_view}
use Rattle.lalrpop_lr1_interpret.specs.ExpandedViews.{listed_views}
use Rattle.lalrpop_lr1_theory.specs.Productions as theory
use Rattle.lalrpop_lr1_theory.specs.Spans.{SpannedForest, node_at, none_at}
use Rattle.lalrpop_lr1_interpret.proofs.StackLemmas.{beside-none}
use Rattle.lalrpop_grammar_repr.specs.declared.production.Production.{Production}
use Rattle.lalrpop_run_trees.specs.ActionLabels.{ChoiceLabel}
use Rattle.lalrpop_run_trees.specs.KeptTrees.{AreKeptBy}
use Rattle.lalrpop_run_trees.specs.PartViews.{AllWithin, LieWithin, TellsKept, shown_part}
use Rattle.lalrpop_run_trees.specs.declared.tree_parts.tree_part.TreePart.{TreePart}
use Rattle.lalrpop_run_parser.specs.Folds.{AreFoldedTo}
use Rattle.lalrpop_run_parser.specs.FoldedTrees.{AreOfGrammar, PutsBeside, StandBeside, TellsAllFolded, TellsFolded, TellsFoldedBy}
use Rattle.lalrpop_run_parser.specs.FoldedTrees.{TellsFoldedByAny, TellsOfGrammar, TellsPartFolded}
use Rattle.lalrpop_run_parser.proofs.FoldLemmas.{folded_long, none_at_place, none_folded}
use Rattle.lalrpop_run_parser.proofs.MeasureLemmas.{part_below, within_measure}
use Rattle.lalrpop_run_parser.proofs.SearchLemmas.{at_back, enough_beside, found_by, found_of_name, none_by_label, none_by_parts, none_kept, of_names, one_more_none, part_inside, part_spent}
use Rattle.lalrpop_run_parser.proofs.SearchLemmas.{in_front, node_beside, part_whole, parts_more, puts_more, stand_more, stand_one_more, told_here, told_in_front}
use Rattle.lalrpop_run_parser.proofs.folding.folder.Folder.+folding.Goals as goal

pub fold_by_production-fold_parts-requires : goal.fold_by_production-fold_parts-requires
fold_by_production-fold_parts-requires t c =
    let whole : TreePart = record { piece = c.args.part.piece; is_inside = false } in
    let within = subst (LieWithin whole) c.in-Some.is c.in_ok-kept.ensures.within in (
      omega (
        arith,
        within_measure whole c.as_slice.result.now c.args.passes refl (subst (AllWithin whole) (sym c.as_slice.ensures.value) within),
      ),
      tt,
    )

-- what is told of the grammar's productions, by one of them
abbrev ByProduction : Production → TreePart → ℕ → (theory.Production → Type 0) → (ℕ → ChoiceLabel) → Option SpannedForest → Type 0
ByProduction p q most G label_of found = G (production_view p) → TellsFoldedBy (production_view p) q most G label_of found

pub fold_by_production-returns-in_default : goal.fold_by_production-returns-in_default
fold_by_production-returns-in_default t c = (
  λ label_of f belongs.
      let g = c.args.self.grammar.now in
      let p = c.args.production.now in
      let whole : TreePart = record { piece = c.args.part.piece; is_inside = false } in
      none_by_label g c.args.self.origins.now label_of f (production_view p) c.args.part whole c.args.passes refl
      (none_kept (label_of p.action.0) whole c.in_ok-kept.kept
      (c.in_ok-kept.ensures.kept (label_of p.action.0)
      (told_here g c.args.self.origins.now label_of f p c.as_slice-actions.result.now c.as_slice-symbols.result.now
      c.as_slice-actions.ensures c.as_slice-symbols.ensures belongs))
      c.in_default.not-Some),
  refl,
)

pub fold_by_production-returns-then-not-branch : goal.fold_by_production-returns-then-not-branch
fold_by_production-returns-then-not-branch t c =
    let g = c.args.self.grammar.now in
    let p = c.args.production.now in
    let parts = c.as_slice.result.now in
    let without =
    subst (PutsBeside (length c.as_slice-symbols.result.now) (TellsOfGrammar g c.args.self.origins.now
    (TellsAllFolded (map production_symbol_view c.as_slice-symbols.result.now) parts c.args.passes))
    (listed_views c.args.trees.now) (listed_views c.fold_parts.new.trees)) c.if-not-branch.true c.in_ok-fold_parts.ensures in (
      λ label_of f belongs.
          let whole : TreePart = record { piece = c.args.part.piece; is_inside = false } in
          let within = subst (LieWithin whole) c.in-Some.is c.in_ok-kept.ensures.within in
          let kept =
          subst (TellsKept (label_of p.action.0) whole) c.in-Some.is
          (c.in_ok-kept.ensures.kept (label_of p.action.0)
          (told_here g c.args.self.origins.now label_of f p c.as_slice-actions.result.now c.as_slice-symbols.result.now
          c.as_slice-actions.ensures c.as_slice-symbols.ensures belongs)) in
          none_by_parts g c.args.self.origins.now label_of f (production_view p) c.args.part whole parts c.args.passes refl refl
          (subst (AllWithin whole) (sym c.as_slice.ensures.value) within)
          (subst (λ l. AreKeptBy (label_of p.action.0) (shown_part whole) (map shown_part l)) (sym c.as_slice.ensures.value) kept)
          (subst (λ l. TellsAllFolded (map production_symbol_view l) parts c.args.passes (Contains (theory_grammar g)) label_of None)
          c.as_slice-symbols.ensures (without.0 label_of f)),
      without.1,
    )

pub fold_by_production-push_node-requires : goal.fold_by_production-push_node-requires
fold_by_production-push_node-requires t c =
    let g = c.args.self.grammar.now in
    let symbols = c.as_slice-symbols.result.now in
    let beside_old =
    subst (PutsBeside (length symbols) (TellsOfGrammar g c.args.self.origins.now
    (TellsAllFolded (map production_symbol_view symbols) c.as_slice.result.now c.args.passes))
    (listed_views c.args.trees.now) (listed_views c.fold_parts.new.trees)) c.if-not-branch.false c.in_ok-fold_parts.ensures in
    enough_beside (length symbols) (TellsOfGrammar g c.args.self.origins.now
    (TellsAllFolded (map production_symbol_view symbols) c.as_slice.result.now c.args.passes))
    (listed_views c.args.trees.now) (listed_views c.fold_parts.new.trees) (production_view c.args.production.now)
    (ap length c.as_slice-symbols.ensures ∙ sym (length-map c.args.production.now.symbols production_symbol_view)) beside_old

pub fold_by_production-returns : goal.fold_by_production-returns
fold_by_production-returns t c =
    let g = c.args.self.grammar.now in
    let p = c.args.production.now in
    let symbols = c.as_slice-symbols.result.now in
    let parts = c.as_slice.result.now in
    let here =
    subst (PutsBeside (length symbols) (TellsOfGrammar g c.args.self.origins.now
    (TellsAllFolded (map production_symbol_view symbols) parts c.args.passes))
    (listed_views c.args.trees.now) (listed_views c.fold_parts.new.trees)) c.if-not-branch.false c.in_ok-fold_parts.ensures in
    node_beside (production_view p) (TellsOfGrammar g c.args.self.origins.now (ByProduction p c.args.part c.args.passes))
    (listed_views c.args.trees.now) (listed_views c.push_node.new.self) here.trees
    (c.in_ok-push_node.ensures.node (listed_views c.args.trees.now) here.trees here.beside_old
    (here.count_is ∙ ap length c.as_slice-symbols.ensures ∙ sym (length-map p.symbols production_symbol_view)))
    (λ label_of f belongs.
    let whole : TreePart = record { piece = c.args.part.piece; is_inside = false } in
    let kept =
    subst (TellsKept (label_of p.action.0) whole) c.in-Some.is
    (c.in_ok-kept.ensures.kept (label_of p.action.0)
    (told_here g c.args.self.origins.now label_of f p c.as_slice-actions.result.now symbols
    c.as_slice-actions.ensures c.as_slice-symbols.ensures belongs)) in
    let below =
    subst (λ l. AreFoldedTo (Contains (theory_grammar g)) label_of (map production_symbol_view l) (map shown_part parts) here.trees)
    c.as_slice-symbols.ensures (here.told label_of f) in
    found_by g c.args.self.origins.now label_of f (production_view p) (shown_part c.args.part) c.in-Some.parts.items
    here.trees (node_at (production_view p) here.trees none_at) belongs kept
    (subst (λ l. AreFoldedTo (Contains (theory_grammar g)) label_of (map production_symbol_view p.symbols) (map shown_part l)
    here.trees) c.as_slice.ensures.value below)
    refl)

-- what is told of the grammar's productions, by some of them
abbrev ByProductions : Grammar → List Production → TreePart → ℕ → (theory.Production → Type 0) → (ℕ → ChoiceLabel) →
    Option SpannedForest → Type 0
ByProductions g ps q most G label_of found = AreOfGrammar g ps → TellsFoldedByAny ps q most G label_of found

pub fold_by_any-returns-then-branch : goal.fold_by_any-returns-then-branch
fold_by_any-returns-then-branch t c =
    let g = c.args.self.grammar.now in
    let origins = c.args.self.origins.now in
    let all = c.args.productions.now in
    let q = c.production-item.result in
    let here : Contains all q = (c.loop-production.production-index, c.loop-production-test.true, sym c.production-item.is) in
    let One = TellsOfGrammar g origins (ByProduction q c.args.part c.args.passes) in
    let Own = TellsOfGrammar g origins (ByProductions g all c.args.part c.args.passes) in
    let new = listed_views c.fold_by_production.new.trees in
    subst (λ old. StandBeside 1 Own old new) c.loop-production.invariant.1
    (stand_more 1 One Own (listed_views c.loop-production.trees) new
    (λ ts told label_of f belong. (q, here, told label_of f (belong q here)))
    (subst (PutsBeside 1 One (listed_views c.loop-production.trees) new) c.if-branch.true c.in_ok-fold_by_production.ensures))

pub fold_by_any-loop-production-preserved : goal.fold_by_any-loop-production-preserved
fold_by_any-loop-production-preserved t c =
    let g = c.args.self.grammar.now in
    let all = c.args.productions.now in
    let i = c.loop-production.production-index in
    let q = c.production-item.result in
    let here : Contains all q = (i, c.loop-production-test.true, sym c.production-item.is) in
    let without =
    subst (PutsBeside 1 (TellsOfGrammar g c.args.self.origins.now (ByProduction q c.args.part c.args.passes))
    (listed_views c.loop-production.trees) (listed_views c.fold_by_production.new.trees)) c.if-branch.false
    c.in_ok-fold_by_production.ensures in (
      λ label_of f belong p there.
          one_more_none (Contains (theory_grammar g)) label_of all i q c.args.part c.args.passes
          (take_more all i q c.loop-production-test.true ∙ ap (λ x. take i all ++ x ∷ []) (sym c.production-item.is))
          (c.loop-production.invariant.0 label_of f belong) (without.0 label_of f (belong q here)) p there,
      without.1 ∙ c.loop-production.invariant.1,
    )

pub fold_by_any-returns : goal.fold_by_any-returns
fold_by_any-returns t c = (
  λ label_of f belong p there.
      c.loop-production.invariant.0 label_of f belong p
      (subst (λ l. Contains l p) (sym (take_all c.loop-production.production-index c.args.productions.now
      (omega (arith, c.loop-production-test.false)))) there),
  c.loop-production.invariant.1,
)

pub fold_nonterminal-returns-then-branch : goal.fold_nonterminal-returns-then-branch
fold_nonterminal-returns-then-branch t c =
    let g = c.args.self.grammar.now in
    let origins = c.args.self.origins.now in
    let all = c.productions_for-productions.result.now in
    let k = c.min.result in
    let back = c.split_at.result.1.now in
    let own : (p : Production) → Contains back p → Contains (productions_of g.nonterminals c.args.name.now) p =
    λ p there. subst (λ l. Contains l p) c.productions_for-productions.ensures
    (at_back all k p (subst (λ l. Contains l p) c.split_at.ensures.back there)) in
    stand_more 1 (TellsOfGrammar g origins (ByProductions g back c.args.part c.args.passes))
    (TellsOfGrammar g origins (TellsFolded (theory.nonterminal c.args.name.now.0) c.args.part c.args.passes))
    (listed_views c.args.trees.now) (listed_views c.fold_by_any.new.trees)
    (λ ts told label_of f.
    found_of_name g origins label_of f c.args.name.now c.args.part c.args.passes back ts own
    (told label_of f (of_names g origins label_of f c.args.name.now back own)))
    (subst (PutsBeside 1 (TellsOfGrammar g origins (ByProductions g back c.args.part c.args.passes))
    (listed_views c.args.trees.now) (listed_views c.fold_by_any.new.trees)) c.if-branch.true c.in_ok-fold_by_any.ensures)

pub fold_nonterminal-returns : goal.fold_nonterminal-returns
fold_nonterminal-returns t c =
    let g = c.args.self.grammar.now in
    let origins = c.args.self.origins.now in
    let name = c.args.name.now in
    let part = c.args.part in
    let passes = c.args.passes in
    let all = c.productions_for-productions.result.now in
    let k = c.min.result in
    let front = c.split_at.result.0.now in
    let back = c.split_at.result.1.now in
    let old = listed_views c.args.trees.now in
    let middle = listed_views c.fold_by_any.new.trees in
    let new = listed_views c.fold_by_any-2.new.trees in
    let own_front : (p : Production) → Contains front p → Contains (productions_of g.nonterminals name) p =
    λ p there. subst (λ l. Contains l p) c.productions_for-productions.ensures
    (in_front all k p (subst (λ l. Contains l p) c.split_at.ensures.front there)) in
    let own_back : (p : Production) → Contains back p → Contains (productions_of g.nonterminals name) p =
    λ p there. subst (λ l. Contains l p) c.productions_for-productions.ensures
    (at_back all k p (subst (λ l. Contains l p) c.split_at.ensures.back there)) in
    let without =
    subst (PutsBeside 1 (TellsOfGrammar g origins (ByProductions g back part passes)) old middle) c.if-branch.false
    c.in_ok-fold_by_any.ensures in
    let Own = TellsOfGrammar g origins (TellsFolded (theory.nonterminal name.0) part passes) in
    IfOk-weaker c.fold_by_any-2.result
    (PutsBeside 1 (TellsOfGrammar g origins (ByProductions g front part passes)) middle new) (PutsBeside 1 Own old new)
    (λ found puts.
    subst (λ x. PutsBeside 1 Own x new found) without.1
    (puts_more 1 (TellsOfGrammar g origins (ByProductions g front part passes)) Own middle new found
    (λ r told label_of f.
    told_in_front g origins label_of f name part passes all k c.productions_for-productions.ensures
    (subst (λ l. TellsFoldedByAny l part passes (Contains (theory_grammar g)) label_of None) c.split_at.ensures.back
    (without.0 label_of f (of_names g origins label_of f name back own_back)))
    r
    (subst (λ l. TellsFoldedByAny l part passes (Contains (theory_grammar g)) label_of r) c.split_at.ensures.front
    (told label_of f (of_names g origins label_of f name front own_front))))
    puts))
    c.fold_by_any-2.ensures

pub fold_part-returns-then-part : goal.fold_part-returns-then-part
fold_part-returns-then-part t c =
    let g = c.args.self.grammar.now in
    let origins = c.args.self.origins.now in
    let s = production_symbol_view c.args.symbol.now in
    let old = listed_views c.args.trees.now in
    let new = listed_views c.fold_symbol.new.trees in
    let Inside = TellsOfGrammar g origins (TellsFolded s c.args.part 4294967298) in
    let Own = TellsOfGrammar g origins (TellsPartFolded s c.args.part c.args.passes) in
    IfOk-weaker c.fold_symbol.result (PutsBeside 1 Inside old new) (PutsBeside 1 Own old new)
    (λ found puts.
    puts_more 1 Inside Own old new found
    (λ r told label_of f. part_inside (Contains (theory_grammar g)) label_of s c.args.part c.args.passes r (told label_of f)) puts)
    c.fold_symbol.ensures

pub fold_part-returns-then-passes-eq0 : goal.fold_part-returns-then-passes-eq0
fold_part-returns-then-passes-eq0 t c = (
  λ label_of f.
      part_spent (Contains (theory_grammar c.args.self.grammar.now)) label_of (production_symbol_view c.args.symbol.now) c.args.part
      c.args.passes c.if-part.false c.if-passes-eq0.true,
  refl,
)

pub fold_part-returns-else-passes-eq0 : goal.fold_part-returns-else-passes-eq0
fold_part-returns-else-passes-eq0 t c =
    let g = c.args.self.grammar.now in
    let origins = c.args.self.origins.now in
    let s = production_symbol_view c.args.symbol.now in
    let old = listed_views c.args.trees.now in
    let new = listed_views c.fold_symbol-else-passes-eq0.new.trees in
    let less = c.args.passes - 1 in
    let Less = TellsOfGrammar g origins (TellsFolded s c.args.part less) in
    let Own = TellsOfGrammar g origins (TellsPartFolded s c.args.part c.args.passes) in
    IfOk-weaker c.fold_symbol-else-passes-eq0.result (PutsBeside 1 Less old new) (PutsBeside 1 Own old new)
    (λ found puts.
    puts_more 1 Less Own old new found
    (λ r told label_of f.
    part_whole (Contains (theory_grammar g)) label_of s c.args.part c.args.passes less r c.if-part.false (omega arith)
    (told label_of f)) puts)
    c.fold_symbol-else-passes-eq0.ensures

pub fold_parts-returns-then-symbols-parts : goal.fold_parts-returns-then-symbols-parts
fold_parts-returns-then-symbols-parts t c = (
  λ label_of f ts h low.
      c.if-symbols-parts.true
      (sym (length-map c.args.symbols.now production_symbol_view)
      ∙ folded_long (Contains (theory_grammar c.args.self.grammar.now)) label_of (map production_symbol_view c.args.symbols.now)
      (map shown_part c.args.parts.now) ts h
      ∙ length-map c.args.parts.now shown_part),
  refl,
)

pub fold_parts-loop-place-init : goal.fold_parts-loop-place-init
fold_parts-loop-place-init t c = (
  omega arith,
  record {
    trees = none_at;
    beside_old = sym (beside-none (listed_views c.args.trees.now));
    count_is = refl;
    told = λ label_of f. none_folded (Contains (theory_grammar c.args.self.grammar.now)) label_of;
  },
)

pub fold_parts-fold_part-requires : goal.fold_parts-fold_part-requires
fold_parts-fold_part-requires t c =
    let parts = c.args.parts.now in
    let i = c.loop-place.place in (
      omega (
        arith,
        part_below parts (drop (i + 1) parts) i c.index-parts-place.result c.args.passes
            (drop_more parts i c.index-parts-place.result (omega (arith, c.loop-place-test.true, c.if-symbols-parts.false))
            ∙ ap (λ x. x ∷ drop (i + 1) parts) (sym c.index-parts-place.is)),
      ),
      tt,
    )

-- what is told of the trees of the parts up to a place
abbrev UpTo : Grammar → List choices.Origin → List Symbol → List TreePart → ℕ → ℕ → Option SpannedForest → Type 0
UpTo g origins symbols parts passes i =
    TellsOfGrammar g origins (TellsAllFolded (take i (map production_symbol_view symbols)) (take i parts) passes)

pub fold_parts-truncate-requires : goal.fold_parts-truncate-requires
fold_parts-truncate-requires t c =
    let g = c.args.self.grammar.now in
    let origins = c.args.self.origins.now in
    let One =
    TellsOfGrammar g origins (TellsPartFolded (production_symbol_view c.index-symbols-place.result) c.index-parts-place.result c.args.passes)
    in
    let without =
    subst (PutsBeside 1 One (listed_views c.loop-place.trees) (listed_views c.fold_part.new.trees)) c.if-not-branch.true
    c.in_ok-fold_part.ensures in
    let here = c.loop-place.invariant.1 in
    record {
      first = listed_views c.args.trees.now;
      others = here.trees;
      parts = without.1 ∙ here.beside_old;
      size_is = sym c.len-before.ensures;
    }

pub fold_parts-returns-then-not-branch : goal.fold_parts-returns-then-not-branch
fold_parts-returns-then-not-branch t c =
    let g = c.args.self.grammar.now in
    let origins = c.args.self.origins.now in
    let parts = c.args.parts.now in
    let symbols = c.args.symbols.now in
    let i = c.loop-place.place in
    let One =
    TellsOfGrammar g origins (TellsPartFolded (production_symbol_view c.index-symbols-place.result) c.index-parts-place.result c.args.passes)
    in
    let without =
    subst (PutsBeside 1 One (listed_views c.loop-place.trees) (listed_views c.fold_part.new.trees)) c.if-not-branch.true
    c.in_ok-fold_part.ensures in
    let here = c.loop-place.invariant.1 in (
      λ label_of f.
          none_at_place (Contains (theory_grammar g)) label_of c.args.passes (map production_symbol_view symbols) parts i
          (production_symbol_view c.index-symbols-place.result) c.index-parts-place.result
          (map production_symbol_view (drop (i + 1) symbols)) (drop (i + 1) parts)
          (drop-map production_symbol_view i symbols
          ∙ ap (λ l. map production_symbol_view l)
          (drop_more symbols i c.index-symbols-place.result c.loop-place-test.true
          ∙ ap (λ x. x ∷ drop (i + 1) symbols) (sym c.index-symbols-place.is)))
          (drop_more parts i c.index-parts-place.result (omega (arith, c.loop-place-test.true, c.if-symbols-parts.false))
          ∙ ap (λ x. x ∷ drop (i + 1) parts) (sym c.index-parts-place.is))
          (without.0 label_of f),
      c.truncate.ensures (listed_views c.args.trees.now) here.trees (without.1 ∙ here.beside_old) (sym c.len-before.ensures),
    )

pub fold_parts-loop-place-preserved : goal.fold_parts-loop-place-preserved
fold_parts-loop-place-preserved t c =
    let g = c.args.self.grammar.now in
    let origins = c.args.self.origins.now in
    let parts = c.args.parts.now in
    let symbols = c.args.symbols.now in
    let i = c.loop-place.place in
    let s = production_symbol_view c.index-symbols-place.result in
    let q = c.index-parts-place.result in
    let One = TellsOfGrammar g origins (TellsPartFolded s q c.args.passes) in
    let found =
    subst (PutsBeside 1 One (listed_views c.loop-place.trees) (listed_views c.fold_part.new.trees)) c.if-not-branch.false
    c.in_ok-fold_part.ensures in (
      omega (arith, c.loop-place-test.true),
      stand_one_more i (UpTo g origins symbols parts c.args.passes i) One (UpTo g origins symbols parts c.args.passes (i + 1))
          (listed_views c.args.trees.now) (listed_views c.loop-place.trees) (listed_views c.fold_part.new.trees) c.loop-place.invariant.1 found
          (λ ts one all e before told label_of f.
          parts_more (Contains (theory_grammar g)) label_of (map production_symbol_view symbols) parts i s q ts one all
          (take-map production_symbol_view (i + 1) symbols
          ∙ ap (λ l. map production_symbol_view l)
          (take_more symbols i c.index-symbols-place.result c.loop-place-test.true
          ∙ ap (λ x. take i symbols ++ x ∷ []) (sym c.index-symbols-place.is))
          ∙ map-append production_symbol_view (take i symbols) (c.index-symbols-place.result ∷ [])
          ∙ ap (λ l. l ++ s ∷ []) (sym (take-map production_symbol_view i symbols)))
          (take_more parts i q (omega (arith, c.loop-place-test.true, c.if-symbols-parts.false))
          ∙ ap (λ x. take i parts ++ x ∷ []) (sym c.index-parts-place.is))
          e (before label_of f) (told label_of f)),
    )

pub fold_parts-returns : goal.fold_parts-returns
fold_parts-returns t c =
    let g = c.args.self.grammar.now in
    let origins = c.args.self.origins.now in
    let parts = c.args.parts.now in
    let symbols = c.args.symbols.now in
    let i = c.loop-place.place in
    let here = c.loop-place.invariant.1 in
    let side_all : take i (map production_symbol_view symbols) ≡ map production_symbol_view symbols =
    take_all i (map production_symbol_view symbols)
    (omega (arith, c.loop-place-test.false, length-map symbols production_symbol_view)) in
    let parts_all : take i parts ≡ parts =
    take_all i parts (omega (arith, c.loop-place-test.false, c.if-symbols-parts.false)) in
    record {
      trees = here.trees;
      beside_old = here.beside_old;
      count_is = here.count_is ∙ omega (arith, c.loop-place-test.false, c.loop-place.invariant.0);
      told = λ label_of f.
          subst (λ l. AreFoldedTo (Contains (theory_grammar g)) label_of l (map shown_part parts) here.trees) side_all
          (subst (λ l. AreFoldedTo (Contains (theory_grammar g)) label_of (take i (map production_symbol_view symbols))
          (map shown_part l) here.trees) parts_all (here.told label_of f));
    }

pub fold_symbol-returns-in-Terminal : goal.fold_symbol-returns-in-Terminal
fold_symbol-returns-in-Terminal t c =
    let g = c.args.self.grammar.now in
    let origins = c.args.self.origins.now in
    let old = listed_views c.args.trees.now in
    let new = listed_views c.fold_leaf.new.trees in
    let Leaf : Option SpannedForest → Type 0 =
    λ found. (grammar : List theory.Production) (label_of : ℕ → ChoiceLabel) (most : ℕ) →
    TellsFolded (theory.terminal (terminal_view c.in-Terminal.terminal)) c.args.part most (Contains grammar) label_of found in
    let Own = TellsOfGrammar g origins (TellsFolded (production_symbol_view c.args.symbol.now) c.args.part c.args.passes) in
    IfOk-weaker c.fold_leaf.result (PutsBeside 1 Leaf old new) (PutsBeside 1 Own old new)
    (λ found puts.
    puts_more 1 Leaf Own old new found
    (λ r told label_of f.
    subst (λ x. TellsFolded x c.args.part c.args.passes (Contains (theory_grammar g)) label_of r)
    (ap production_symbol_view (sym c.in-Terminal.is)) (told (theory_grammar g) label_of c.args.passes)) puts)
    c.fold_leaf.ensures
