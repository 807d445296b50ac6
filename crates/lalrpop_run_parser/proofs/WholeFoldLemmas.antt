-- What folding and unfolding say of whole trees from the start of a prepared grammar; for their contracts.
use Rattle.std.proofs.Common.{◌≡◌, ◌∙◌, ◌+◌, ℕ, List, [], ◌∷◌, ◌++◌, length, refl, ap, ap₂, sym}
use Rattle.std.proofs.Common.{arith, subst, map, inl, inr, Contains}
use Rattle.std.specs.Prelude.{Err, IfOk, None, Ok, Option, Result, Some, flat_map}
use Rattle.std.proofs.lemmas.List.{append-nil, map-append}
use Rattle.std.proofs.lemmas.Simd.{map-map}
use Rattle.lalrpop_grammar_symbols.specs.Symbols.{Text}
use Rattle.lalrpop_grammar_symbols.specs.declared.names.NonterminalString.{NonterminalString}
use Rattle.lalrpop_grammar.specs.Trees.{Token, Tree, Trees, leaves, leaves_of}
use Rattle.lalrpop_grammar.specs.Views.{grammar_view, tree_view}
use Rattle.lalrpop_grammar.specs.WrittenGrammar.{Grammar}
use Rattle.lalrpop_grammar.specs.declared.origin.Origin as choices
use Rattle.lalrpop_grammar.specs.declared.tree.WrittenTree.{WrittenTree}
use Rattle.lalrpop_grammar_repr.specs.declared.action.ActionFnDefn.{ActionFnDefn}
use Rattle.lalrpop_grammar_repr.specs.declared.grammar.Grammar as repr
use Rattle.lalrpop_grammar_language.specs.Admitting.{AdmitsFrom}
use Rattle.lalrpop_grammar_language.specs.Derivations.{shown_token, with_shown, with_shown_all}
use Rattle.lalrpop_grammar_language.specs.Enabled.{EnabledGrammar, enabled_grammar}
use Rattle.lalrpop_grammar_language.specs.Expansion.{GrammarSymbol, InExpansion, Nonterminal}
use Rattle.lalrpop_grammar_language.specs.Levels.{loosest}
use Rattle.lalrpop_grammar_language.proofs.LeafLemmas.{tokens_are}
use Rattle.lalrpop_grammar_language.proofs.PlaceLemmas.{places_told}
use Rattle.lalrpop_grammar_symbols.specs.Symbols.{Closed, Closeds}
use Rattle.lalrpop_grammar_rules.specs.Search.{finds, is_too_deep}
use Rattle.lalrpop_lr1_core.specs.TheoryGrammars.{theory_grammar}
use Rattle.lalrpop_lr1_theory.specs.Productions as theory
use Rattle.lalrpop_lr1_theory.specs.Spans.{SpannedForest, without_spans}
use Rattle.lalrpop_lr1_theory.specs.Trees.{AreOver, Forest, IsTreeOf, leaf, node, none, roots}
use Rattle.lalrpop_norm_theory.specs.Premises.{IsReadGrammar}
use Rattle.lalrpop_run_theory.specs.ExpansionTrees.{IsForestOfTree}
use Rattle.lalrpop_run_theory.proofs.ReachLemmas.{HoldsInside}
use Rattle.lalrpop_run_theory.specs.Laws.{AdmittedHaveForests, ForestsAreAdmitted, ForestsAreOne}
use Rattle.lalrpop_run_prepare.specs.ToldExpansions.{AreToldExpansion}
use Rattle.lalrpop_run_prepare.specs.PreparedGrammars.{HasNamedProductions, IsPrepared, PreparedGrammar}
use Rattle.lalrpop_run_prepare.proofs.StartLemmas.{start_in_expansion}
use Rattle.lalrpop_run_theory.specs.AnswerLaws.{IsWrittenOf}
use Rattle.lalrpop_run_trees.specs.ActionLabels.{ChoiceLabel, TellsLabel, kept_count}
use Rattle.lalrpop_run_trees.specs.LabelledTrees.{IsPart, shown_trees}
use Rattle.lalrpop_run_trees.proofs.MadeTreeLemmas.{made_admitted}
use Rattle.lalrpop_run_trees.proofs.PartLemmas.{part_same}
use Rattle.lalrpop_run_trees.proofs.TakenLemmas.{KeepSymbols, shown_count, written_is_shown}
use Rattle.lalrpop_run_trees.proofs.ToldLemmas.{told_count}
use Rattle.lalrpop_run_trees.specs.KeptTrees.{AreTreesOf, forest_tokens}
use Rattle.lalrpop_run_trees.specs.PartViews.{shown_part}
use Rattle.lalrpop_run_trees.specs.declared.tree_parts.tree_part.TreePart.{TreePart}
use Rattle.lalrpop_run_trees.proofs.TreesOfLemmas.{tokens_spans, tokens_terminals, trees_shown, trees_tokens}
use Rattle.lalrpop_run_parser.specs.FoldedTrees.{AreFoldable, TellsFolded}
use Rattle.lalrpop_run_parser.specs.Foldings.{FoldedTreesAreOne, IsUnfolded, UnfoldedTreesAreOne}
use Rattle.lalrpop_run_parser.specs.Folds.{AreFoldedTo}
use Rattle.lalrpop_run_parser.proofs.FittingLemmas.{trees_are_of}
use Rattle.lalrpop_run_parser.proofs.NamedProductionLemmas.{productions_named}
use Rattle.lalrpop_run_parser.proofs.RankLemmas.{ranks_fall}
use Rattle.lalrpop_run_parser.proofs.SearchLemmas.{ranked_any}
use Rattle.lalrpop_run_parser.proofs.UnfoldLemmas.{shown_already, shown_part_of}

-- what holds of each production of a grammar holds over trees over it
over_each : (G H : theory.Production → Type 0) → ((p : theory.Production) → G p → H p) → (ts : Forest) →
    AreOver G ts → AreOver H ts
over_each G H f none h = h
over_each G H f (leaf t ts) h = over_each G H f ts h
over_each G H f (node p cs ts) h = (f p h.0, h.1, over_each G H f cs h.2, over_each G H f ts h.3)

mutual
  -- the leaves of a shown tree are its leaves, shown
  leaves_shown : (t : Tree) → leaves (with_shown t) ≡ map shown_token (leaves t)
  leaves_shown (Tree.rule n args place ts) = all_leaves_shown ts
  leaves_shown (Tree.list ts) = all_leaves_shown ts
  leaves_shown Tree.opt_none = refl
  leaves_shown (Tree.opt_some t) = leaves_shown t
  leaves_shown (Tree.group ts) = all_leaves_shown ts
  leaves_shown (Tree.terminal k) = refl
  leaves_shown Tree.look = refl

  all_leaves_shown : (ts : Trees) → leaves_of (with_shown_all ts) ≡ map shown_token (leaves_of ts)
  all_leaves_shown Trees.none = refl
  all_leaves_shown (Trees.more t ts) =
      ap₂ (λ a b. a ++ b) (leaves_shown t) (all_leaves_shown ts) ∙ sym (map-append shown_token (leaves t) (leaves_of ts))

one_shown : (l : List Tree) → length l ≡ 1 → (v : Tree) × (l ≡ v ∷ [])
one_shown [] e = absurd (omega (arith, e))
one_shown (v ∷ []) e = (v, refl)
one_shown (v ∷ w ∷ l) e = absurd (omega (arith, e))

head_same : (x y : Tree) → x ∷ [] ≡ y ∷ [] → x ≡ y
head_same x y e = cc

module _ (forests : ForestsAreAdmitted) (v : PreparedGrammar) (read : IsReadGrammar (grammar_view v.written))
    (p : IsPrepared finds is_too_deep v)
    (told : AreToldExpansion (enabled_grammar finds v.session.features.items (grammar_view v.written)) v.written.prefix
    v.expansion.action_fn_defns v.origins (theory_grammar v.expansion)) where
  abbrev w : Grammar
  w = grammar_view v.written

  abbrev features : List Text
  features = v.session.features.items

  abbrev enabled : EnabledGrammar
  enabled = enabled_grammar finds features w

  abbrev grammar : List theory.Production
  grammar = theory_grammar v.expansion

  abbrev label_of : ℕ → ChoiceLabel
  label_of = told.expansion.label_of

  known : InExpansion enabled (Nonterminal.start v.start)
  known =
      start_in_expansion finds is_too_deep features v.session.macro_recursion_limit w read p.generable.faultless v.start
      p.generable.starts

  -- labels keep as many symbols as stand on right sides
  keeps : (ts : SpannedForest) → AreOver (Contains grammar) (without_spans ts) → KeepSymbols label_of ts
  keeps ts over =
      over_each (Contains grammar) (λ (q : theory.Production). kept_count (label_of q.action) ≡ length q.right)
      (λ (q : theory.Production) c.
      told_count v.expansion.action_fn_defns v.origins q.action (length q.right) (label_of q.action) (told.tells q c))
      (without_spans ts) over

  -- the productions can be folded to
  pub foldable : HasNamedProductions v.expansion →
      AreFoldable v.expansion v.origins label_of
  foldable named = record {
    named = productions_named v.expansion named;
    tells = told.tells;
    falls = ranks_fall enabled (places_told finds features w) v.written.prefix (Contains grammar) told.expansion;
  }

  -- a tree that the search finds is the expanded tree
  pub found_expanded : (t : Tree) (ts : SpannedForest) → v.start_name.0 ≡ v.written.prefix ++ v.start →
      AreFoldedTo (Contains grammar) label_of (theory.nonterminal v.start_name.0 ∷ []) (with_shown t ∷ []) ts →
      AdmitsFrom finds features w v.start t (leaves t)
      × IsForestOfTree label_of (Contains grammar) (v.written.prefix ++ v.start) t (leaves t) ts
  found_expanded t ts name folded =
      let is_tree : IsTreeOf (Contains grammar) (v.written.prefix ++ v.start) (without_spans ts) =
      subst (λ (s : Text). IsTreeOf (Contains grammar) s (without_spans ts)) name (folded.roots_are, folded.are_over) in
      let tokens : forest_tokens ts ≡ map shown_token (leaves t) =
      sym (trees_tokens label_of ts (with_shown t ∷ []) folded.are_of) ∙ append-nil (leaves (with_shown t)) ∙ leaves_shown t in
      made_admitted forests finds features w v.written.prefix v.start grammar told.expansion known ts (leaves t) is_tree
      (sym (tokens_terminals ts) ∙ ap (λ l. map (λ (k : Token). k.terminal) l) tokens
      ∙ map-map (λ (k : Token). k.terminal) shown_token (leaves t))
      (sym (tokens_spans ts) ∙ ap (λ l. map (λ (k : Token). k.span) l) tokens
      ∙ map-map (λ (k : Token). k.span) shown_token (leaves t))
      (keeps ts folded.are_over) t
      (record {
        shown = sym (trees_shown label_of ts (with_shown t ∷ []) folded.are_of);
        are_tokens = subst (λ l. IsPart l (leaves t)) (sym (append-nil (leaves t))) (part_same (leaves t));
      })

  start_inside : HoldsInside (InExpansion enabled) (GrammarSymbol.nonterminal (Nonterminal.start v.start) ∷ [])
  start_inside y (inl same) = subst (InExpansion enabled) (name_same (Nonterminal.start v.start) y same) known
    where
      name_same : (a b : Nonterminal) → GrammarSymbol.nonterminal a ≡ GrammarSymbol.nonterminal b → a ≡ b
      name_same a b k = cc
  start_inside y (inr more) = absurd more

  -- where the search finds none, the start doesn't admit the tree
  pub none_admitted : AdmittedHaveForests → (t : Tree) → v.start_name.0 ≡ v.written.prefix ++ v.start →
      ((ts : SpannedForest) →
      AreFoldedTo (Contains grammar) label_of (theory.nonterminal v.start_name.0 ∷ []) (with_shown t ∷ []) ts → ⊥) →
      AdmitsFrom finds features w v.start t (leaves t) → ⊥
  none_admitted have t name without admits =
      let f = have finds features w v.written.prefix v.start grammar told.expansion known t (leaves t) admits in
      let ts = f.0 in
      let rooted : roots (without_spans ts) ≡ theory.nonterminal (v.written.prefix ++ v.start) ∷ [] = f.1.is_tree.0 in
      let over : AreOver (Contains grammar) (without_spans ts) = f.1.is_tree.1 in
      let one = one_shown (shown_trees label_of ts) (shown_count label_of ts ∙ ap length rooted) in
      let same : one.0 ≡ with_shown t = sym (written_is_shown label_of ts one.0 (keeps ts over) one.1) ∙ f.1.stands in
      let are : AreTreesOf label_of ts (shown_trees label_of ts) =
      trees_are_of enabled (places_told finds features w) v.written.prefix (Contains grammar) told.expansion
      (GrammarSymbol.nonterminal (Nonterminal.start v.start) ∷ []) ts start_inside
      (rooted ∙ ap (λ n. theory.nonterminal n ∷ []) (sym (told.expansion.naming.starts v.start known))) over in
      without ts (record {
        roots_are = rooted ∙ ap (λ n. theory.nonterminal n ∷ []) (sym name);
        are_over = over;
        are_of = subst (λ l. AreTreesOf label_of ts l) (one.1 ∙ ap (λ u. u ∷ []) same) are;
      })

  -- Of an unfolded tree: the start admits it, it has that expanded tree, and its leaves show their terminals.
  pub record IsWhole (m : Tree) (ts : SpannedForest) : Type 0 where
    pub admitted : AdmitsFrom finds features w v.start m (leaves m)
    pub is_forest : IsForestOfTree label_of (Contains grammar) (v.written.prefix ++ v.start) m (leaves m) ts
    pub shown : with_shown m ≡ m

  pub unfolded_whole : (m : Tree) (ts : SpannedForest) → v.start_name.0 ≡ v.written.prefix ++ v.start →
      IsTreeOf (Contains grammar) v.start_name.0 (without_spans ts) → m ∷ [] ≡ shown_trees label_of ts → IsWhole m ts
  unfolded_whole m ts name is_tree e =
      let rooted = subst (λ (s : Text). IsTreeOf (Contains grammar) s (without_spans ts)) name is_tree in
      let keep = keeps ts is_tree.1 in
      let made = made_admitted forests finds features w v.written.prefix v.start grammar told.expansion known ts (forest_tokens ts) rooted
      (sym (tokens_terminals ts)) (sym (tokens_spans ts)) keep m
      (record {
        shown = ap (λ l. map with_shown l) e ∙ shown_already label_of ts;
        are_tokens = subst (λ l. IsPart (flat_map leaves l) (forest_tokens ts)) (sym e) (shown_part_of label_of ts keep);
      }) in
      let own : forest_tokens ts ≡ leaves m =
      tokens_are enabled (Closed.call v.start Closeds.none (loosest made.0.rule)) m (forest_tokens ts) made.0.admits in
      record {
        admitted = subst (λ l. AdmitsFrom finds features w v.start m l) own made.0;
        is_forest = subst (λ l. IsForestOfTree label_of (Contains grammar) (v.written.prefix ++ v.start) m l ts) own made.1;
        shown = head_same (with_shown m) m (ap (λ l. map with_shown l) e ∙ shown_already label_of ts ∙ sym e);
      }

  -- what the search tells, over the grammar, the choices and the name that were lent
  abbrev TellsSearch : repr.Grammar → List choices.Origin → NonterminalString → TreePart → Option SpannedForest → Type 0
  TellsSearch g origins name q r =
      (labels : ℕ → ChoiceLabel) → AreFoldable g origins labels
      → TellsFolded (theory.nonterminal name.0) q 4294967298 (Contains (theory_grammar g)) labels r

  told_own : (g : repr.Grammar) (origins : List choices.Origin) (name : NonterminalString) (q : TreePart) (r : Option SpannedForest) →
      g ≡ v.expansion → origins ≡ v.origins → name ≡ v.start_name → TellsSearch g origins name q r →
      TellsSearch v.expansion v.origins v.start_name q r
  told_own g origins name q r grammar_is origins_are name_is h =
      subst (λ n. TellsSearch v.expansion v.origins n q r) name_is
      (subst (λ o. TellsSearch v.expansion o name q r) origins_are
      (subst (λ x. TellsSearch x origins name q r) grammar_is h))

  -- a tree that was found
  pub some_told : (g : repr.Grammar) (origins : List choices.Origin) (name : NonterminalString) (q : TreePart) (tree : SpannedForest)
      (t : Tree) → g ≡ v.expansion → origins ≡ v.origins → name ≡ v.start_name → TellsSearch g origins name q (Some tree) →
      shown_part q ≡ with_shown t → v.start_name.0 ≡ v.written.prefix ++ v.start → HasNamedProductions v.expansion →
      IsWrittenOf finds features w v.start label_of grammar (leaves t) tree t
  some_told g origins name q tree t grammar_is origins_are name_is h shown prefixed named =
      let own = told_own g origins name q (Some tree) grammar_is origins_are name_is h label_of (foldable named) in
      let found = found_expanded t tree prefixed
      (subst (λ u. AreFoldedTo (Contains grammar) label_of (theory.nonterminal v.start_name.0 ∷ []) (u ∷ []) tree)
      shown own) in
      record { admitted = found.0; is_forest = found.1 }

  -- and where none was
  pub none_told : AdmittedHaveForests → (g : repr.Grammar) (origins : List choices.Origin) (name : NonterminalString) (q : TreePart)
      (t : Tree) → g ≡ v.expansion → origins ≡ v.origins → name ≡ v.start_name → TellsSearch g origins name q None →
      shown_part q ≡ with_shown t → v.start_name.0 ≡ v.written.prefix ++ v.start → HasNamedProductions v.expansion →
      AdmitsFrom finds features w v.start t (leaves t) → ⊥
  none_told have g origins name q t grammar_is origins_are name_is h shown prefixed named =
      let own = told_own g origins name q None grammar_is origins_are name_is h label_of (foldable named) in
      none_admitted have t prefixed
      (λ ts folded. own ts (subst (λ u. AreFoldedTo (Contains grammar) label_of (theory.nonterminal v.start_name.0 ∷ []) (u ∷ []) ts)
      (sym shown) folded) (ranked_any label_of ts))

  -- the actions tell the labels over a tree from the start
  pub told_over : (ts : SpannedForest) → AreOver (Contains grammar) (without_spans ts) →
      AreOver (λ (q : theory.Production). TellsLabel v.expansion.action_fn_defns v.origins q.action (length q.right)
      (label_of q.action)) (without_spans ts)
  told_over ts over =
      over_each (Contains grammar)
      (λ (q : theory.Production). TellsLabel v.expansion.action_fn_defns v.origins q.action (length q.right) (label_of q.action))
      told.tells (without_spans ts) over

-- labels that the actions of a prepared grammar tell
abbrev AreToldOf : PreparedGrammar → Type 0
AreToldOf v =
    AreToldExpansion (enabled_grammar finds v.session.features.items (grammar_view v.written)) v.written.prefix
    v.expansion.action_fn_defns v.origins (theory_grammar v.expansion)

-- what is unfolded, by the trees that were made for any labels that the actions tell
pub unfold_told : ForestsAreAdmitted → (v : PreparedGrammar) → IsReadGrammar (grammar_view v.written) →
    IsPrepared finds is_too_deep v →
    (actions : List ActionFnDefn) (origins : List choices.Origin) → actions ≡ v.expansion.action_fn_defns → origins ≡ v.origins →
    v.start_name.0 ≡ v.written.prefix ++ v.start → (ts : SpannedForest) →
    IsTreeOf (Contains (theory_grammar v.expansion)) v.start_name.0 (without_spans ts) → {E : Type 0} (r : Result WrittenTree E) →
    ((labels : ℕ → ChoiceLabel) →
    AreOver (λ (q : theory.Production). TellsLabel actions origins q.action (length q.right) (labels q.action)) (without_spans ts) →
    IfOk r (λ made. tree_view made ∷ [] ≡ shown_trees labels ts)) → IfOk r (λ made. IsUnfolded v ts (tree_view made))
unfold_told forests v read p actions origins actions_are origins_are prefixed ts is_tree (Err e) made = tt
unfold_told forests v read p actions origins actions_are origins_are prefixed ts is_tree (Ok m) made =
    record {
      expands = λ e. let x = whole e in record { admitted = x.admitted; is_forest = x.is_forest };
      shown = (whole p.told).shown;
    }
  where
    over : (e : AreToldOf v) →
        AreOver (λ (q : theory.Production). TellsLabel actions origins q.action (length q.right) (e.expansion.label_of q.action))
        (without_spans ts)
    over e =
        subst (λ l. AreOver (λ (q : theory.Production). TellsLabel l origins q.action (length q.right)
        (e.expansion.label_of q.action)) (without_spans ts)) (sym actions_are)
        (subst (λ o. AreOver (λ (q : theory.Production). TellsLabel v.expansion.action_fn_defns o q.action (length q.right)
        (e.expansion.label_of q.action)) (without_spans ts)) (sym origins_are) (told_over forests v read p e ts is_tree.1))

    whole : (e : AreToldOf v) → IsWhole forests v read p e (tree_view m) ts
    whole e = unfolded_whole forests v read p e (tree_view m) ts prefixed is_tree (made e.expansion.label_of (over e))

-- a written tree is folded to one tree
pub folded_trees_are_one : ForestsAreOne → FoldedTreesAreOne
folded_trees_are_one one v p t ts us a b =
    let features = v.session.features.items in
    let start_known = start_in_expansion finds is_too_deep features v.session.macro_recursion_limit (grammar_view v.written) p.read
    p.generable.faultless v.start p.generable.starts in
    one finds features (grammar_view v.written) v.written.prefix v.start (theory_grammar v.expansion) p.told.expansion start_known t
    (leaves t) ts us (a p.told).is_forest (b p.told).is_forest

-- and a tree over productions is unfolded to one
pub unfolded_trees_are_one : UnfoldedTreesAreOne
unfolded_trees_are_one v p t u ts a b = sym (a p.told).is_forest.stands ∙ (b p.told).is_forest.stands
