-- The productions of an inlined grammar are those of the expansion, and their actions tell their labels: for the law on labels.
use Rattle.std.proofs.Common.{◌≡◌, ◌∙◌, ◌<◌, ℕ, List, ap, arith, length, subst, sym}
use Rattle.std.specs.Prelude.{Some, map, slice_get}
use Rattle.std.proofs.lemmas.List.{length-map}
use Rattle.lalrpop_grammar_symbols.specs.Symbols.{Text}
use Rattle.lalrpop_grammar_symbols.specs.declared.names.NonterminalString.{NonterminalString}
use Rattle.lalrpop_grammar.specs.Views.{origin_view}
use Rattle.lalrpop_grammar.specs.WrittenGrammar.{Origin}
use Rattle.lalrpop_grammar.specs.declared.origin.Origin as choices
use Rattle.lalrpop_grammar_language.specs.Among.{Among}
use Rattle.lalrpop_grammar_language.specs.Enabled.{EnabledGrammar}
use Rattle.lalrpop_grammar_language.specs.Expansion.{Nonterminal}
use Rattle.lalrpop_grammar_repr.specs.declared.action.ActionFnDefn.{ActionFnDefn}
use Rattle.lalrpop_grammar_repr.specs.declared.grammar.Grammar.{Grammar}
use Rattle.lalrpop_grammar_repr.specs.declared.production.NonterminalData.{NonterminalData}
use Rattle.lalrpop_grammar_repr.specs.declared.production.Production.{Production}
use Rattle.lalrpop_grammar_language.specs.Labels.{Label}
use Rattle.lalrpop_norm_lower.specs.LoweredSymbols.{named_production}
use Rattle.lalrpop_lr1_theory.specs.Productions as theory
use Rattle.lalrpop_lr1_core.specs.Views.{production_symbol_view, production_view}
use Rattle.lalrpop_lr1_core.proofs.NoConflictLemmas.{at_mapped}
use Rattle.lalrpop_lr1_core.specs.TheoryGrammars.{theory_grammar}
use Rattle.lalrpop_lr1_inline.specs.InlinedGrammars.{IsInlinedGrammar}
use Rattle.lalrpop_lr1_inline.specs.InliningSteps.{productions_named}
use Rattle.lalrpop_lr1_inline.specs.NamedProductions.{keeps_all, label_given, side_by_names, symbol_by_name}
use Rattle.lalrpop_lr1_inline.specs.InlinedLabels.{AreActionLabels}
use Rattle.lalrpop_lr1_inline.proofs.OrderLabelLemmas.{steps_extend}
use Rattle.lalrpop_lr1_inline.proofs.SmallerLemmas.{steps_below}
use Rattle.lalrpop_run_prepare.specs.NamedGrammars.{IsNamedExpansion, StandUnderNames}
use Rattle.lalrpop_run_prepare.specs.NamedLabels.{inlinings_back, label_back}
use Rattle.lalrpop_run_prepare.proofs.InlinedEntryLemmas.{AreSorted, stands_named}
use Rattle.lalrpop_run_prepare.proofs.InlinedExpansionLemmas.{all_known, inlined_expansion, is_seen, labels_by_actions}
use Rattle.lalrpop_run_prepare.proofs.InlinedExpansionLemmas.{names_by_actions}
use Rattle.lalrpop_run_prepare.proofs.NamedProductionLemmas.{back, back_is, entry_production}
use Rattle.lalrpop_run_trees.specs.ActionLabels.{ChoiceLabel, TellsLabel, all_kept}
use Rattle.lalrpop_run_prepare.specs.ToldExpansions.{AreToldExpansion}
use Rattle.lalrpop_run_prepare.proofs.PutLemmas.{all_kept_back}
use Rattle.lalrpop_run_prepare.proofs.ToldRecordLemmas.{IsTold}
use Rattle.lalrpop_run_prepare.proofs.ToldStepLemmas.{HoldsOfEach, steps_told}

module _ (g : EnabledGrammar) (prefix : Text) (before : Grammar) (sorted : AreSorted before.nonterminals)
    (own : StandUnderNames before.nonterminals) (n : IsNamedExpansion g prefix before.nonterminals) (origins : List choices.Origin)
    (origins_are : n.origins ≡ map origin_view origins) where
  abbrev names_back : ℕ → Nonterminal × Origin
  names_back = back g prefix before.nonterminals sorted own n

  -- a given action has an origin, which is the choice that it goes back to
  record HasOrigin (k : ℕ) : Type 0 where
    origin : choices.Origin
    has_origin : slice_get origins k ≡ Some origin
    origin_is : (names_back k).1 ≡ origin_view origin

  has_origin : (e : NonterminalString × NonterminalData) (p : Production) → Among before.nonterminals e → Among e.1.productions p →
      HasOrigin p.action.0
  has_origin e p i j =
      let among = entry_production before.nonterminals e p i j in
      let w = n.productions.no_other (named_production p) among in
      let s = w.2 in
      let source = back_is g prefix before.nonterminals sorted own n (named_production p) w.0 w.1 among s in
      let o = at_mapped origin_view origins p.action.0 w.0.choice
      (ap (λ (l : List Origin). slice_get l p.action.0) (sym origins_are) ∙ s.origin_is) in
      record {
        origin = o.0;
        has_origin = o.1;
        origin_is = ap (λ (z : Nonterminal × Origin). z.1) source ∙ sym o.2;
      }

  -- so it tells its label
  given_told : (whole : List ActionFnDefn) (lab : ℕ → Label Text ℕ) →
      ((m : Text) (p : Production) → Among (productions_named before.nonterminals m) p →
      lab p.action.0 ≡ label_given m p.action.0 (side_by_names p.symbols)) →
      HoldsOfEach (IsTold whole origins lab names_back) before.nonterminals
  given_told whole lab given e p i j =
      let k = p.action.0 in
      let o = has_origin e p i j in
      let kept : inlinings_back names_back (keeps_all (side_by_names p.symbols)) ≡ all_kept (length p.symbols) =
      all_kept_back names_back (side_by_names p.symbols)
      ∙ ap (λ (count : ℕ). all_kept count) (length-map p.symbols symbol_by_name) in
      let label_is : label_back names_back (lab k) ≡ Label.choose (names_back k).0 (origin_view o.origin) (all_kept (length p.symbols)) =
      ap (label_back names_back) (given e.0.0 p (stands_named before.nonterminals sorted e p i j))
      ∙ ap (λ (c : Origin). Label.choose (names_back k).0 c
      (inlinings_back names_back (keeps_all (side_by_names p.symbols)))) o.origin_is
      ∙ ap (Label.choose (names_back k).0 (origin_view o.origin)) kept in
      subst (λ (label : ChoiceLabel). TellsLabel whole origins k (length p.symbols) label) (sym label_is)
      (TellsLabel.given k (length p.symbols) (names_back k).0 o.origin o.has_origin)

  pub told_expansion : length before.action_fn_defns ≡ length origins → (after : Grammar) → IsInlinedGrammar before after →
      ((m : NonterminalString) (d : NonterminalData) (p : Production) → Among before.nonterminals (m, d) → Among d.productions p →
      p.action.0 < length before.action_fn_defns) →
      AreToldExpansion g prefix after.action_fn_defns origins (theory_grammar after)
  told_expansion many after inlined known =
      let es = before.nonterminals in
      let whole = after.action_fn_defns in
      let expansion = inlined_expansion g prefix before sorted own n after inlined known in
      let labels = labels_by_actions g prefix before sorted own n after inlined known in
      let below = steps_below inlined.order es after.nonterminals before.action_fn_defns whole inlined.steps
      (λ mid rest ms last h. steps_extend rest ms last mid whole h) (all_known g prefix before sorted own n known) in
      let told = steps_told whole origins labels.0 names_back (length before.action_fn_defns) (omega (arith, many)) labels.1.made below
      inlined.order es after.nonterminals before.action_fn_defns inlined.steps (omega arith) (given_told whole labels.0 labels.1.given) in
      record {
        expansion = expansion;
        tells = λ p c.
            let s = is_seen after.nonterminals p c in
            let q = s.production in
            let sides : length q.symbols ≡ length (production_view q).right = sym (length-map q.symbols production_symbol_view) in
            let own_label : TellsLabel whole origins q.action.0 (length (production_view q).right) (expansion.label_of q.action.0) =
            subst (λ (label : ChoiceLabel). TellsLabel whole origins q.action.0 (length (production_view q).right) label)
            (sym (labels.2 q.action.0))
            (subst (λ (count : ℕ). TellsLabel whole origins q.action.0 count (label_back names_back (labels.0 q.action.0))) sides
            (told s.entry q s.in_grammar s.in_entry)) in
            subst (λ (r : theory.Production). TellsLabel whole origins r.action (length r.right) (expansion.label_of r.action)) s.seen_is
            own_label;
      }

  -- its labels are those of the actions, back, and its names are those of the productions before inlining
  pub told_labels : (many : length before.action_fn_defns ≡ length origins) (after : Grammar) (inlined : IsInlinedGrammar before after)
      (known : (m : NonterminalString) (d : NonterminalData) (p : Production) → Among before.nonterminals (m, d) → Among d.productions p →
      p.action.0 < length before.action_fn_defns) →
      (lab : ℕ → Label Text ℕ) × AreActionLabels before after lab
      × ((k : ℕ) → (told_expansion many after inlined known).expansion.label_of k
      ≡ label_back (back g prefix before.nonterminals sorted own n) (lab k))
      × ((told_expansion many after inlined known).expansion.name_of ≡ n.name_of)
  unfolding told_expansion
  told_labels many after inlined known =
      let r = labels_by_actions g prefix before sorted own n after inlined known in
      (r.0, r.1, r.2, names_by_actions g prefix before sorted own n after inlined known)
