-- The numbers that inlining hands out for a lowered grammar are as many as the labels of its expansion at the steps of inlining: for what is
-- listed of inlining.
use Rattle.std.proofs.Common.{◌≡◌, ◌∙◌, ◌+◌, ◌<◌, ◌≤◌, ◌^◌, ◌⊎◌, ℕ, List, [], ◌∷◌, ◌++◌, ap, arith, inl, inr, length, length-append, map}
use Rattle.std.proofs.Common.{Bool, refl, subst, sym, true, false}
use Rattle.std.specs.Prelude.{All, Option, Some, None}
use Rattle.std.proofs.lemmas.List.{length-map, map-append}
use Rattle.std.proofs.lemmas.Option.{slice_get_within}
use Rattle.lalrpop_grammar_symbols.specs.Symbols.{Text}
use Rattle.lalrpop_grammar_symbols.specs.declared.names.NonterminalString.{NonterminalString}
use Rattle.lalrpop_grammar.specs.Views.{origin_view}
use Rattle.lalrpop_grammar.specs.WrittenGrammar.{Grammar, Origin}
use Rattle.lalrpop_grammar_language.specs.Among.{Among}
use Rattle.lalrpop_grammar_language.specs.Enabled.{EnabledGrammar, enabled_grammar}
use Rattle.lalrpop_grammar_language.specs.Expansion.{InExpansion, Nonterminal, Produces}
use Rattle.lalrpop_grammar_language.specs.Inlining.{HaveOneSide, Inlines}
use Rattle.lalrpop_grammar_language.specs.Labels.{GrammarSymbols, Label}
use Rattle.lalrpop_grammar_language.proofs.AmongLemmas.{among_flat_map, map_among}
use Rattle.lalrpop_grammar_language.proofs.LabelLemmas.{one_side}
use Rattle.lalrpop_grammar_language.proofs.OrderLemmas.{among_parts}
use Rattle.lalrpop_grammar_language.proofs.PlaceLemmas.{among_map, places_apart, places_told}
use Rattle.lalrpop_grammar_language.proofs.StepLemmas.{among_left}
use Rattle.lalrpop_grammar_repr.specs.declared.norm_error.NormError.{NormError}
use Rattle.lalrpop_grammar_repr.specs.declared.production.NonterminalData.{NonterminalData}
use Rattle.lalrpop_grammar_repr.specs.declared.production.Production.{Production}
use Rattle.lalrpop_lr1_inline.specs.InlinedGrammars.{IsTooManyNumbers}
use Rattle.lalrpop_lr1_inline.specs.InlinedLabels.{StandOnce, production_actions}
use Rattle.lalrpop_lr1_inline.specs.InlinedNames.{NonterminalEntries, data_named, is_inlined_name, is_marked_data, name_of_text}
use Rattle.lalrpop_lr1_inline.specs.InliningOrders.{IsInliningOrder}
use Rattle.lalrpop_lr1_inline.specs.InliningSteps.{all_records_after, entries_after, numbers_after, productions_named}
use Rattle.lalrpop_lr1_inline.specs.NamedProductions.{IsInlinedByName, ProducesByAction, side_by_names}
use Rattle.lalrpop_lr1_inline.proofs.AfterStepLemmas.{AreBelow}
use Rattle.lalrpop_lr1_inline.proofs.NamedLemmas.{all_listed}
use Rattle.lalrpop_lr1_inline.proofs.OnceLemmas.{once-append}
use Rattle.lalrpop_lr1_inline.proofs.OrderLemmas.{order_all, order_named_first, order_once}
use Rattle.lalrpop_lr1_inline.proofs.SmallerLemmas.{entries_of_all}
use Rattle.lalrpop_norm_chain.specs.LoweredViews.{lowered_view}
use Rattle.lalrpop_norm_chain.specs.Normalized.{IsNormalized}
use Rattle.lalrpop_norm_chain.proofs.EntryLemmas.{found_name}
use Rattle.lalrpop_norm_lower.specs.LoweredSymbols.{named_production, named_productions}
use Rattle.lalrpop_norm_lower.specs.declared.lowering.Normalized.{Normalized}
use Rattle.lalrpop_norm_theory.specs.Inlined.{IsInlined}
use Rattle.lalrpop_norm_theory.specs.Productions.{NamedProduction}
use Rattle.lalrpop_norm_theory.specs.Same.{rename_side}
use Rattle.lalrpop_run_prepare.specs.NamedGrammars.{IsNamedExpansion, StandUnderNames}
use Rattle.lalrpop_run_prepare.specs.NamedLabels.{AreNamedProductions, label_back}
use Rattle.lalrpop_run_prepare.specs.PreparedGrammars.{HasNamedProductions}
use Rattle.lalrpop_run_prepare.proofs.InlinedEntryLemmas.{AreSorted}
use Rattle.lalrpop_run_prepare.proofs.InlinedExpansionLemmas.{actions_named, all_of_each}
use Rattle.lalrpop_run_prepare.proofs.NamedLabelLemmas.{named_inlines, source_inlines}
use Rattle.lalrpop_run_prepare.proofs.NamedProductionLemmas.{are_named, back, entry_production, kept_label, kept_label_is}
use Rattle.lalrpop_run.specs.InliningNumbers.{HandsOutTooMany, HasNumbersEnough, HaveNumbers, IsLabelAtStep}
use Rattle.lalrpop_run.proofs.InlineCycleLemmas.{under_own_names}
use Rattle.lalrpop_run.proofs.LabelBackLemmas.{of_productions, one_back}
use Rattle.lalrpop_run.proofs.LabelNumberLemmas.{IsNumberAtStep, given_number, label_number, number_sound, numbers_from, one_number}
use Rattle.lalrpop_run.proofs.NonterminalOrderLemmas.{IsOrderUnderNames, order_under_names}
use Rattle.lalrpop_run.proofs.NumberedLabelLemmas.{AreLabelsOfSteps, all_labels}
use Rattle.lalrpop_run.proofs.NumberedListLemmas.{count_many, count_once, count_up, count_within, few_numbered, map_parts}
use Rattle.lalrpop_run.proofs.NumberedListLemmas.{once_at_place, once_map}

-- so many labels have numbers
record HaveAllNumbers (g : EnabledGrammar) (order : List Nonterminal) (count : ℕ) : Type 0 where
  labels : List (Label Nonterminal Origin)
  have_numbers : HaveNumbers g order labels
  count_is : length labels ≡ count

-- how many more numbers there are
numbers_more : (ns : List Text) (es : NonterminalEntries) (k : ℕ) → (m : ℕ) × (numbers_after ns es k ≡ k + m)
numbers_more [] es k = (0, omega arith)
numbers_more (n ∷ ns) es k =
    let more = length (all_records_after n (productions_named es n) es) in
    let r = numbers_more ns (entries_after n (productions_named es n) es k) (k + more) in
    (more + r.0, omega (arith, r.1))

module _ (g : EnabledGrammar) (prefix : Text) (es : NonterminalEntries) (sorted : AreSorted es) (own : StandUnderNames es)
    (n : IsNamedExpansion g prefix es) (one : HaveOneSide (Produces g)) where
  -- a choice of the lowered grammar has one right side
  one_named_side : HaveOneSide (ProducesByAction es)
  one_named_side m d side other a b =
      let r = (are_named g prefix es sorted own n).no_other m d side a in
      let s = (are_named g prefix es sorted own n).no_other m d other b in
      r.side_is
      ∙ ap (rename_side n.name_of)
      (one (back g prefix es sorted own n d).0 (back g prefix es sorted own n d).1 r.from s.from r.produced s.produced)
      ∙ sym s.side_is

  -- the productions are named so where a front of the order is inlined
  named_front : (front : List Nonterminal) → ((y : Nonterminal) → Among front y → InExpansion g y) →
      AreNamedProductions Nonterminal Origin Text ℕ (Produces g) (λ y. Among front y) (InExpansion g) (ProducesByAction es)
      (λ m. Among (map n.name_of front) m) n.name_of (back g prefix es sorted own n)
  named_front front known =
      let a = are_named g prefix es sorted own n in
      record {
        known = a.known;
        apart = a.apart;
        every = a.every;
        no_other = a.no_other;
        once = a.once;
        inlined = λ x i. (
          λ j. map_among n.name_of front x j,
          λ j.
              let w = among_map n.name_of front (n.name_of x) j in
              subst (λ (y : Nonterminal). Among front y) (n.naming.apart w.0 x (known w.0 w.1) i w.2) w.1,
        );
      }

  -- the nonterminal of a label under a name
  named_root : (In : Text → Type 0) (label : Label Text ℕ) (m : Text) (side : GrammarSymbols Text) →
      Inlines (ProducesByAction es) In m label side → (x : Nonterminal) × InExpansion g x × (m ≡ n.name_of x)
  named_root In (Label.choose z d inlinings) m side h =
      let r = (are_named g prefix es sorted own n).no_other m d h.1 h.2 in
      ((back g prefix es sorted own n d).0, r.known, r.name_is)

  module _ (there : (k : Text) → is_inlined_name es k ≡ true → (x : Nonterminal) × InExpansion g x × (n.name_of x ≡ k))
      (order : List Text) (o : IsInliningOrder es order) (least : ℕ) (below : All (AreBelow least) es)
      (given : StandOnce (production_actions es)) (many : length (production_actions es) ≡ least) where
    under : IsOrderUnderNames g prefix es sorted own n one there order
    under = order_under_names g prefix es sorted own n one there order o

    steps : AreLabelsOfSteps es (kept_label g prefix es sorted own n) [] order es least
    steps =
        let all = order_all es order o (all_listed es sorted) in
        all_labels es order all (order_once es order o) (order_named_first es order o) least (kept_label g prefix es sorted own n)
        (kept_label_is g prefix es sorted own n) given below sorted

    abbrev IsNumber : ℕ → Type 0
    IsNumber i = IsNumberAtStep es order least steps.labels one_named_side steps.reached i

    -- the label of a number, over the expansion
    abbrev label_told : ℕ → Label Nonterminal Origin
    label_told i = label_back (back g prefix es sorted own n) (steps.labels i)

    -- each label of a step has one of the numbers
    label_has_number : (label : Label Nonterminal Origin) → IsLabelAtStep g under.nonterminals label →
        (i : ℕ) × (i < numbers_after order es least) × (label_told i ≡ label)
    label_has_number label a =
        let inside : (y : Nonterminal) → Among a.inlined y → InExpansion g y =
        λ y i. under.are_known y
        (subst (λ (l : List Nonterminal). Among l y) (sym a.order_is) (among_left a.inlined a.left y i)) in
        let split : order ≡ map n.name_of a.inlined ++ map n.name_of a.left =
        sym under.names_are ∙ ap (map n.name_of) a.order_is ∙ map-append n.name_of a.inlined a.left in
        let r = named_inlines (Produces g) (λ y. Among a.inlined y) (InExpansion g) (ProducesByAction es)
        (λ m. Among (map n.name_of a.inlined) m) n.name_of (back g prefix es sorted own n) (named_front a.inlined inside) label
        a.nonterminal a.side a.known a.produced in
        let w = label_number es order least steps.labels one_named_side steps.reached (map n.name_of a.inlined)
        (map n.name_of a.left) split (n.name_of a.nonterminal) r.named (rename_side n.name_of a.side) r.produced in
        (w.0, w.1, ap (label_back (back g prefix es sorted own n)) w.2 ∙ r.label_is)

    -- and each number has a label of a step
    number_has_label : (i : ℕ) → IsNumber i → IsLabelAtStep g under.nonterminals (label_told i)
    number_has_label i a =
        let s = map_parts n.name_of under.nonterminals a.front a.back (under.names_are ∙ a.order_is) in
        let inside : (y : Nonterminal) → Among s.front y → InExpansion g y =
        λ y j. under.are_known y (subst (λ (l : List Nonterminal). Among l y) (sym s.whole) (among_left s.front s.behind y j)) in
        let side = side_by_names a.production.symbols in
        let sound = number_sound es order least steps.labels one_named_side steps.reached i a in
        let x = named_root (λ m. Among a.front m) (steps.labels i) a.name side sound in
        let moved : Inlines (ProducesByAction es) (λ m. Among (map n.name_of s.front) m) (n.name_of x.0) (steps.labels i) side =
        subst (λ (f : List Text). Inlines (ProducesByAction es) (λ m. Among f m) (n.name_of x.0) (steps.labels i) side) (sym s.front_is)
        (subst (λ (m : Text). Inlines (ProducesByAction es) (λ k. Among a.front k) m (steps.labels i) side) x.2 sound) in
        let r = source_inlines (Produces g) (λ y. Among s.front y) (InExpansion g) (ProducesByAction es)
        (λ m. Among (map n.name_of s.front) m) n.name_of (back g prefix es sorted own n) (named_front s.front inside) (steps.labels i)
        x.0 side x.1 moved in
        record {
          inlined = s.front;
          left = s.behind;
          order_is = s.whole;
          nonterminal = x.0;
          known = x.1;
          side = r.source;
          produced = r.produced;
        }

    one_told : (i j : ℕ) → IsNumber i → IsNumber j → label_told i ≡ label_told j → i ≡ j
    one_told i j a b e =
        one_number es order least steps.labels one_named_side steps.reached i j a b
        (one_back (Produces g) (IsInlined g) (InExpansion g) (ProducesByAction es) (IsInlinedByName es) n.name_of
        (back g prefix es sorted own n) (are_named g prefix es sorted own n) (steps.labels i) (steps.labels j)
        (of_productions (ProducesByAction es) (λ m. Among a.front m) (steps.labels i) a.name (side_by_names a.production.symbols)
        (number_sound es order least steps.labels one_named_side steps.reached i a))
        (of_productions (ProducesByAction es) (λ m. Among b.front m) (steps.labels j) b.name (side_by_names b.production.symbols)
        (number_sound es order least steps.labels one_named_side steps.reached j b)) e)

    -- labels with numbers are no more than the numbers
    few_labels : (labels : List (Label Nonterminal Origin)) → HaveNumbers g under.nonterminals labels →
        length labels ≤ numbers_after order es least
    few_labels labels h =
        few_numbered label_told (numbers_after order es least) labels h.once (λ l i. label_has_number l (h.each l i))

    -- a given action has a smaller number
    given_below : (i : ℕ) → Among (production_actions es) i → i < least
    given_below i h =
        let a = among_flat_map (λ (e : NonterminalString × NonterminalData). map (λ (p : Production). p.action.0) e.1.productions) es i
        h in
        let b = among_map (λ (p : Production). p.action.0) a.0.1.productions i a.2 in
        subst (λ (k : ℕ). k < least) b.2 (entries_of_all least es below a.0 a.1 b.0 b.1)

    all_labels_told : HaveAllNumbers g under.nonterminals (numbers_after order es least)
    all_labels_told =
        let m = numbers_more order es least in
        let numbers = production_actions es ++ count_up least m.0 in
        let counted : length numbers ≡ numbers_after order es least =
        length-append (production_actions es) (count_up least m.0)
        ∙ ap (λ (k : ℕ). k + length (count_up least m.0)) many ∙ ap (λ (k : ℕ). least + k) (count_many least m.0) ∙ sym m.1 in
        let each : (i : ℕ) → Among (production_actions es ++ count_up least m.0) i → IsNumber i =
        λ i h. number_of m.0 m.1 i (among_parts (production_actions es) (count_up least m.0) i h) in
        let once : StandOnce (production_actions es ++ count_up least m.0) =
        once-append (production_actions es) (count_up least m.0) given (count_once least m.0)
        (λ i a b. omega (arith, given_below i a, (count_within least m.0 i b).0)) in
        record {
          labels = map label_told (production_actions es ++ count_up least m.0);
          have_numbers = record {
            each = λ l i.
                let w = among_map label_told (production_actions es ++ count_up least m.0) l i in
                subst (IsLabelAtStep g under.nonterminals) w.2 (number_has_label w.0 (each w.0 w.1));
            once = once_map label_told (production_actions es ++ count_up least m.0)
                (λ x y i j e. one_told x y (each x i) (each y j) e) once;
          };
          count_is = length-map (production_actions es ++ count_up least m.0) label_told ∙ counted;
        }
      where
        number_of : (m : ℕ) → numbers_after order es least ≡ least + m → (i : ℕ) →
            Among (production_actions es) i ⊎ Among (count_up least m) i → IsNumber i
        number_of m e i (inl h) =
            given_number es order least steps.labels one_named_side steps.reached sorted i h
        number_of m e i (inr h) =
            let w = count_within least m i h in
            numbers_from es order least steps.labels one_named_side steps.reached order [] refl i w.0
            (omega (arith, w.1, e))

module _ (finds : Text → Text → Option Bool) (features : List Text) (w : Grammar) (made : Normalized)
    (h : IsNormalized finds features w (lowered_view made)) (named : HasNamedProductions made.grammar) where
  one : HaveOneSide (Produces (enabled_grammar finds features w))
  one = one_side (enabled_grammar finds features w) (places_told finds features w) (places_apart finds features w)

  there : (k : Text) → is_inlined_name made.grammar.nonterminals k ≡ true →
      (x : Nonterminal) × InExpansion (enabled_grammar finds features w) x × (h.name_of x ≡ k)
  there k e = go (data_named made.grammar.nonterminals k) refl e
    where
      go : (d : Option NonterminalData) → data_named made.grammar.nonterminals k ≡ d → is_marked_data d ≡ true →
          (x : Nonterminal) × InExpansion (enabled_grammar finds features w) x × (h.name_of x ≡ k)
      go None f m = (let wrong : false ≡ true = m in cc)
      go (Some d) f m = (h.nonterminals k).0 (found_name made.grammar.nonterminals (name_of_text k) d f)

  given : StandOnce (production_actions made.grammar.nonterminals)
  given =
      subst (λ (l : List ℕ). StandOnce l) (sym (actions_named made.grammar.nonterminals))
      (once_at_place (λ (p : NamedProduction). p.action) (named_productions made.grammar.nonterminals)
      (λ i j p q a b e. h.productions.own_action i j p q a b e))

  many : length (production_actions made.grammar.nonterminals) ≡ length made.grammar.action_fn_defns
  many =
      ap length (actions_named made.grammar.nonterminals)
      ∙ length-map (named_productions made.grammar.nonterminals) (λ (p : NamedProduction). p.action)
      ∙ sym h.productions.no_other_origin ∙ sym h.actions.no_other

  below : All (AreBelow (length made.grammar.action_fn_defns)) made.grammar.nonterminals
  below =
      all_of_each (AreBelow (length made.grammar.action_fn_defns)) made.grammar.nonterminals
      (λ e i. all_of_each (λ (p : Production). p.action.0 < length made.grammar.action_fn_defns) e.1.productions
      (λ p j.
      let a = h.productions.no_other (named_production p) (entry_production made.grammar.nonterminals e p i j) in
      let near = slice_get_within (map origin_view made.origins) p.action.0 a.0.choice a.2.origin_is in
      let same : length made.grammar.action_fn_defns ≡ length (map origin_view made.origins) = h.actions.no_other in
      omega (arith, near, same)))

  -- the order of the lowered grammar, over nonterminals
  abbrev order_told : (order : List Text) (o : IsInliningOrder made.grammar.nonterminals order) →
      IsOrderUnderNames (enabled_grammar finds features w) w.prefix made.grammar.nonterminals named.ascending named.under
      (under_own_names finds features w made h named) one there order
  order_told order o =
      under (enabled_grammar finds features w) w.prefix made.grammar.nonterminals named.ascending named.under
      (under_own_names finds features w made h named) one there order o (length made.grammar.action_fn_defns) below given many

  -- too many numbers are too many labels
  pub too_many_told : (told : NormError) → IsTooManyNumbers made.grammar told →
      HandsOutTooMany (enabled_grammar finds features w) w.prefix
  too_many_told told t =
      let u = order_told t.order t.is_order in
      let r = all_labels_told (enabled_grammar finds features w) w.prefix made.grammar.nonterminals named.ascending named.under
      (under_own_names finds features w made h named) one there t.order t.is_order (length made.grammar.action_fn_defns) below given
      many in
      record {
        name_of = h.name_of;
        naming = h.naming;
        order = u.nonterminals;
        is_order = u.is_order;
        labels = r.labels;
        have_numbers = r.have_numbers;
        too_many = subst (λ (k : ℕ). 2 ^ 32 < k) (sym r.count_is) t.too_many;
      }

  -- where there are numbers enough, there are few labels
  pub enough_told : (order : List Text) → IsInliningOrder made.grammar.nonterminals order →
      numbers_after order made.grammar.nonterminals (length made.grammar.action_fn_defns) ≤ 2 ^ 32 →
      HasNumbersEnough (enabled_grammar finds features w) w.prefix
  enough_told order o enough =
      let u = order_told order o in
      record {
        name_of = h.name_of;
        naming = h.naming;
        order = u.nonterminals;
        is_order = u.is_order;
        few = λ labels k.
            let most = few_labels (enabled_grammar finds features w) w.prefix made.grammar.nonterminals named.ascending named.under
            (under_own_names finds features w made h named) one there order o (length made.grammar.action_fn_defns) below given many
            labels k in
            omega (arith, most, enough);
      }
