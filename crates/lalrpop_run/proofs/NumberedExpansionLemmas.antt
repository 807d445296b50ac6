-- The productions of an inlined grammar are numbered in the order of their labels in the expansion: for what is told of its conflicts.
use Rattle.std.proofs.Common.{◌≡◌, ◌∙◌, ◌+◌, ◌<◌, ◌≤◌, ◌⊎◌, inl, inr, ℕ, List, [], ◌∷◌, Some, ap, arith, length, map, refl, subst, sym}
use Rattle.std.proofs.Common.{Contains}
use Rattle.std.specs.Prelude.{Option, None, slice_get}
use Rattle.std.proofs.lemmas.Bool.{cases_lt}
use Rattle.lalrpop_grammar_symbols.specs.Symbols.{Text}
use Rattle.lalrpop_grammar_symbols.specs.declared.names.NonterminalString.{NonterminalString}
use Rattle.lalrpop_grammar.specs.WrittenGrammar.{Origin}
use Rattle.lalrpop_grammar_language.specs.Among.{Among}
use Rattle.lalrpop_grammar_language.specs.Enabled.{EnabledGrammar}
use Rattle.lalrpop_grammar_language.specs.Expansion.{InExpansion, Nonterminal, Produces}
use Rattle.lalrpop_grammar_language.specs.Inlining.{HaveOneSide}
use Rattle.lalrpop_grammar_language.specs.Labels.{Label}
use Rattle.lalrpop_grammar_repr.specs.Productions.{productions_in}
use Rattle.lalrpop_grammar_repr.specs.declared.grammar.Grammar.{Grammar}
use Rattle.lalrpop_grammar_repr.specs.declared.production.NonterminalData.{NonterminalData}
use Rattle.lalrpop_grammar_repr.specs.declared.production.Production.{Production}
use Rattle.lalrpop_lr1_core.specs.TheoryGrammars.{theory_grammar}
use Rattle.lalrpop_lr1_core.proofs.NoConflictLemmas.{mapped_at}
use Rattle.lalrpop_lr1_inline.specs.InlinedGrammars.{IsInlinedGrammar}
use Rattle.lalrpop_lr1_inline.specs.InlinedLabels.{AreActionLabels}
use Rattle.lalrpop_lr1_inline.specs.InlinedNames.{NonterminalEntries, data_named, name_of_text}
use Rattle.lalrpop_lr1_inline.specs.InliningSteps.{productions_named}
use Rattle.lalrpop_lr1_inline.specs.NamedProductions.{IsInlinedByName, ProducesByAction, side_by_names}
use Rattle.lalrpop_lr1_inline.proofs.NamedLemmas.{entry_found}
use Rattle.lalrpop_lr1_inline.proofs.OrderLabelLemmas.{inlined_labels}
use Rattle.lalrpop_lr1_theory.specs.Productions as theory
use Rattle.lalrpop_lr1_theory.proofs.ListLemmas.{get_front}
use Rattle.lalrpop_lr1_theory.proofs.PlaceLemmas.{slice_get-append}
use Rattle.lalrpop_lr1_theory.proofs.StepLemmas.{some_same}
use Rattle.lalrpop_norm_lower.specs.LoweredSymbols.{named_production, named_productions, productions_at}
use Rattle.lalrpop_norm_theory.specs.Inlined.{IsInlined}
use Rattle.lalrpop_norm_theory.specs.Productions.{IsInOrder, IsOriginBefore, NamedProduction}
use Rattle.lalrpop_run_prepare.specs.NamedGrammars.{IsNamedExpansion, StandUnderNames}
use Rattle.lalrpop_run_prepare.specs.NamedLabels.{label_back}
use Rattle.lalrpop_run_prepare.proofs.InlinedEntryLemmas.{AreSorted, named_entry, stands_named, steps_own, steps_sorted}
use Rattle.lalrpop_run_prepare.proofs.InlinedExpansionLemmas.{IsSeen, actions_once, all_known, is_seen}
use Rattle.lalrpop_run_prepare.proofs.NamedProductionLemmas.{among_place, are_named, back, back_is, entry_production, named_sides}
use Rattle.lalrpop_run_prepare.proofs.NamedProductionLemmas.{own_action, place_among}
use Rattle.lalrpop_run.specs.ProductionOrders.{IsNumberedBefore}
use Rattle.lalrpop_run.proofs.InlinedNumberLemmas.{numbers_in_order}
use Rattle.lalrpop_run.proofs.NumberBackLemmas.{numbered_back}
use Rattle.lalrpop_run.proofs.NumberedStepLemmas.{AreOrdered, HasSmallerNumber}
use Rattle.lalrpop_run.proofs.OrderedListLemmas.{AreInOrder}

-- of two in a list in order the one with the smaller number is numbered first
smaller_first : (IsBefore : ℕ → ℕ → Type 0) (order : List Text) (lab : ℕ → Label Text ℕ) (xs : List Production) →
    AreInOrder (AreOrdered IsBefore order lab) xs → (p q : Production) → Among xs p → Among xs q → p.action.0 < q.action.0 →
    IsNumberedBefore Text ℕ IsBefore order (lab p.action.0) (lab q.action.0)
smaller_first IsBefore order lab xs o p q i j l = go (cases_lt a.0 b.0) (cases_lt b.0 a.0)
  where
    a : (k : ℕ) × (slice_get xs k ≡ Some p)
    a = among_place xs p i

    b : (k : ℕ) × (slice_get xs k ≡ Some q)
    b = among_place xs q j

    one : HasSmallerNumber IsBefore order lab p q ⊎ HasSmallerNumber IsBefore order lab q p →
        IsNumberedBefore Text ℕ IsBefore order (lab p.action.0) (lab q.action.0)
    one (inl h) = h.0
    one (inr h) = absurd (omega (arith, h.1, l))

    two : HasSmallerNumber IsBefore order lab q p ⊎ HasSmallerNumber IsBefore order lab p q →
        IsNumberedBefore Text ℕ IsBefore order (lab p.action.0) (lab q.action.0)
    two (inl h) = absurd (omega (arith, h.1, l))
    two (inr h) = h.0

    never : a.0 ≡ b.0 → ⊥
    never same =
        let is : p ≡ q = some_same p q (sym a.1 ∙ ap (slice_get xs) same ∙ b.1) in
        let numbers : p.action.0 ≡ q.action.0 = ap (λ (z : Production). z.action.0) is in
        omega (arith, numbers, l)

    go : (a.0 < b.0) ⊎ (b.0 ≤ a.0) → (b.0 < a.0) ⊎ (a.0 ≤ b.0) →
        IsNumberedBefore Text ℕ IsBefore order (lab p.action.0) (lab q.action.0)
    go (inl h) k = one (o a.0 b.0 p q h a.1 b.1).1
    go (inr h) (inl k) = two (o b.0 a.0 q p k b.1 a.1).1
    go (inr h) (inr k) = absurd (never (omega (arith, h, k)))

-- the productions of an entry stand one after another among all, from some place on
stand_on : (es : NonterminalEntries) (e : NonterminalString × NonterminalData) → Among es e →
    (from : ℕ) × ((i : ℕ) (p : Production) → slice_get e.1.productions i ≡ Some p →
    slice_get (named_productions es) (from + i) ≡ Some (named_production p))
stand_on [] e j = absurd j
stand_on (d ∷ es) e (inl same) =
    subst (λ (z : NonterminalString × NonterminalData). (from : ℕ) × ((i : ℕ) (p : Production) → slice_get z.1.productions i ≡ Some p →
    slice_get (named_productions (d ∷ es)) (from + i) ≡ Some (named_production p))) same (
      0,
      λ i p f.
          ap (slice_get (named_productions (d ∷ es))) (let same : 0 + i ≡ i = omega arith in same)
          ∙ get_front (productions_at d) (named_productions es) i (named_production p)
          (mapped_at named_production d.1.productions i p f),
    )
stand_on (d ∷ es) e (inr j) =
    let w = stand_on es e j in (
      length (productions_at d) + w.0,
      λ i p f.
          slice_get-append (productions_at d) (named_productions es) (w.0 + i) (length (productions_at d) + w.0 + i) (omega arith)
          ∙ w.1 i p f,
    )

module _ (g : EnabledGrammar) (prefix : Text) (before : Grammar) (sorted : AreSorted before.nonterminals)
    (own : StandUnderNames before.nonterminals) (n : IsNamedExpansion g prefix before.nonterminals) where
  abbrev es : NonterminalEntries
  es = before.nonterminals

  abbrev goes_back : ℕ → Nonterminal × Origin
  goes_back = back g prefix before.nonterminals sorted own n

  abbrev IsChoiceBefore : ℕ → ℕ → Type 0
  IsChoiceBefore c d =
      IsOriginBefore (back g prefix before.nonterminals sorted own n c).1 (back g prefix before.nonterminals sorted own n d).1

  -- each choice has one right side
  sides_are_one : HaveOneSide (ProducesByAction before.nonterminals)
  sides_are_one x c side other h k =
      let d = named_entry es x h.0 h.1 in
      let f = named_entry es x k.0 k.1 in
      let same : named_production h.0 ≡ named_production k.0 =
      own_action g prefix es sorted own n (named_production h.0) (named_production k.0)
      (entry_production es (name_of_text x, d.0) h.0 d.1 d.2) (entry_production es (name_of_text x, f.0) k.0 f.1 f.2)
      (h.2 ∙ sym k.2) in
      sym h.3 ∙ named_sides h.0.symbols ∙ ap (λ (z : NamedProduction). z.symbols) same ∙ sym (named_sides k.0.symbols) ∙ k.3

  -- the choice that an action goes back to is the one that it tells
  origin_told : (e : NonterminalString × NonterminalData) (p : Production) → Among es e → Among e.1.productions p →
      slice_get n.origins p.action.0 ≡ Some (back g prefix before.nonterminals sorted own n p.action.0).1
  origin_told e p i j =
      let among = entry_production es e p i j in
      let w = n.productions.no_other (named_production p) among in
      let source = back_is g prefix es sorted own n (named_production p) w.0 w.1 among w.2 in
      w.2.origin_is ∙ ap (λ (z : Nonterminal × Origin). Some z.1) (sym source)

  abbrev AreChosenInOrder : List Production → Type 0
  AreChosenInOrder ps = AreInOrder (λ (p q : Production). IsChoiceBefore p.action.0 q.action.0 × (p.action.0 < q.action.0)) ps

  entry_in_order : (e : NonterminalString × NonterminalData) → Among es e → AreChosenInOrder e.1.productions
  entry_in_order e there i j p q l a b =
      let s = stand_on es e there in
      let one = place_among e.1.productions i p a in
      let two = place_among e.1.productions j q b in
      let same : p.nonterminal.0 ≡ q.nonterminal.0 =
      ap (λ (m : NonterminalString). m.0) (own e p there one) ∙ ap (λ (m : NonterminalString). m.0) (sym (own e q there two)) in
      let o : IsInOrder n.origins (named_production p) (named_production q) =
      n.productions.in_order (s.0 + i) (s.0 + j) (named_production p) (named_production q) (omega (arith, l)) (s.1 i p a) (s.1 j q b)
      same in
      (o.choices (goes_back p.action.0).1 (goes_back q.action.0).1 (origin_told e p there one) (origin_told e q there two), o.actions)

  -- each nonterminal's productions are in the order of their choices before inlining
  chosen_in_order : (x : Text) → AreChosenInOrder (productions_named es x)
  chosen_in_order x = go (data_named es x) refl
    where
      go : (o : Option NonterminalData) → data_named es x ≡ o → AreChosenInOrder (productions_in o)
      go None e = λ i j p q l a b. let w : ⊥ = cc in absurd w
      go (Some d) e = entry_in_order (name_of_text x, d) (entry_found es (name_of_text x) d e)

  module _ (after : Grammar) (inlined : IsInlinedGrammar before after)
      (known : (m : NonterminalString) (d : NonterminalData) (p : Production) → Among before.nonterminals (m, d) → Among d.productions p →
      p.action.0 < length before.action_fn_defns)
      (lab : ℕ → Label Text ℕ) (labels : AreActionLabels before after lab) (order : List Nonterminal)
      (names_are : map n.name_of order ≡ inlined.order) (in_expansion : (y : Nonterminal) → Among order y → InExpansion g y) where
    -- the action with the smaller number has the label that comes first
    pub actions_in_order : (p r : theory.Production) → Contains (theory_grammar after) p → Contains (theory_grammar after) r →
        p.left ≡ r.left → p.action < r.action →
        IsNumberedBefore Nonterminal Origin IsOriginBefore order
        (label_back (back g prefix before.nonterminals sorted own n) (lab p.action))
        (label_back (back g prefix before.nonterminals sorted own n) (lab r.action))
    actions_in_order p r c d same less = by (is_seen after.nonterminals p c) (is_seen after.nonterminals r d)
      where
        after_sorted : AreSorted after.nonterminals
        after_sorted =
            steps_sorted inlined.order es after.nonterminals before.action_fn_defns after.action_fn_defns inlined.steps sorted

        after_own : StandUnderNames after.nonterminals
        after_own = steps_own inlined.order es after.nonterminals before.action_fn_defns after.action_fn_defns inlined.steps own

        by : IsSeen after.nonterminals p → IsSeen after.nonterminals r →
            IsNumberedBefore Nonterminal Origin IsOriginBefore order
            (label_back (back g prefix before.nonterminals sorted own n) (lab p.action))
            (label_back (back g prefix before.nonterminals sorted own n) (lab r.action))
        by s t =
            let q = s.production in
            let u = t.production in
            let m = s.entry.0.0 in
            let first = stands_named after.nonterminals after_sorted s.entry q s.in_grammar s.in_entry in
            let left : q.nonterminal.0 ≡ u.nonterminal.0 =
            ap (λ (z : theory.Production). z.left) s.seen_is ∙ same ∙ ap (λ (z : theory.Production). z.left) (sym t.seen_is) in
            let names : t.entry.0.0 ≡ m =
            ap (λ (z : NonterminalString). z.0) (sym (after_own t.entry u t.in_grammar t.in_entry)) ∙ sym left
            ∙ ap (λ (z : NonterminalString). z.0) (after_own s.entry q s.in_grammar s.in_entry) in
            let second : Among (productions_named after.nonterminals m) u =
            subst (λ (k : Text). Among (productions_named after.nonterminals k) u) names
            (stands_named after.nonterminals after_sorted t.entry u t.in_grammar t.in_entry) in
            let one : q.action.0 ≡ p.action = ap (λ (z : theory.Production). z.action) s.seen_is in
            let two : u.action.0 ≡ r.action = ap (λ (z : theory.Production). z.action) t.seen_is in
            let are = inlined_labels before after lab sorted (actions_once g prefix before sorted own n) inlined labels in
            let ordered = numbers_in_order before after lab IsChoiceBefore sorted (actions_once g prefix before sorted own n)
            sides_are_one (all_known g prefix before sorted own n known) inlined labels chosen_in_order m in
            let numbered = smaller_first IsChoiceBefore inlined.order lab (productions_named after.nonterminals m) ordered q u first second
            (omega (arith, one, two, less)) in
            let under : IsNumberedBefore Text ℕ IsChoiceBefore (map n.name_of order) (lab q.action.0) (lab u.action.0) =
            subst (λ (l : List Text). IsNumberedBefore Text ℕ IsChoiceBefore l (lab q.action.0) (lab u.action.0)) (sym names_are)
            numbered in
            let goes = numbered_back (Produces g) (IsInlined g) (InExpansion g) (ProducesByAction es) (IsInlinedByName es) n.name_of
            goes_back (are_named g prefix es sorted own n) IsOriginBefore order in_expansion m (lab q.action.0) (lab u.action.0)
            (side_by_names q.symbols) (side_by_names u.symbols) (are.has_label m q first) (are.has_label m u second) under in
            subst (λ (k : ℕ). IsNumberedBefore Nonterminal Origin IsOriginBefore order (label_back goes_back (lab p.action))
            (label_back goes_back (lab k))) two
            (subst (λ (k : ℕ). IsNumberedBefore Nonterminal Origin IsOriginBefore order (label_back goes_back (lab k))
            (label_back goes_back (lab u.action.0))) one goes)
