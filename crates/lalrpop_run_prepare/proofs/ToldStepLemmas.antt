-- After each step of inlining the action of each production tells its label, where it did before the step: for the law on labels.
use Rattle.std.proofs.Common.{◌≡◌, ◌∙◌, ◌+◌, ◌≤◌, ℕ, List, [], ◌∷◌, ◌++◌, ap, append_assoc}
use Rattle.std.proofs.Common.{arith, inl, inr, length, length-append}
use Rattle.std.proofs.Common.{map, ◌⊎◌, refl, subst, sym, true, false}
use Rattle.std.specs.Prelude.{Bool, Some, if◌then◌else◌, slice_get}
use Rattle.std.specs.List.{list_any}
use Rattle.std.proofs.lemmas.List.{length-map}
use Rattle.lalrpop_grammar_symbols.specs.Symbols.{Text}
use Rattle.lalrpop_grammar_symbols.specs.declared.names.NonterminalString.{NonterminalString}
use Rattle.lalrpop_grammar.specs.WrittenGrammar.{Origin}
use Rattle.lalrpop_grammar.specs.declared.origin.Origin as choices
use Rattle.lalrpop_grammar_language.specs.Among.{Among}
use Rattle.lalrpop_grammar_language.specs.Expansion.{Nonterminal}
use Rattle.lalrpop_grammar_language.proofs.PlaceLemmas.{among_map}
use Rattle.lalrpop_grammar_repr.specs.declared.action.ActionFnDefn.{ActionFnDefn}
use Rattle.lalrpop_grammar_repr.specs.declared.action.ActionFnDefnKind.TheVariants as kinds
use Rattle.lalrpop_grammar_repr.specs.declared.action.InlineActionFnDefn.{InlineActionFnDefn}
use Rattle.lalrpop_grammar_repr.specs.declared.action.InlinedSymbol.{InlinedSymbol}
use Rattle.lalrpop_grammar_repr.specs.declared.production.NonterminalData.{NonterminalData}
use Rattle.lalrpop_grammar_repr.specs.declared.production.Production.{Production}
use Rattle.lalrpop_grammar_language.specs.Labels.{Label}
use Rattle.lalrpop_grammar_language.specs.Steps.{label_with}
use Rattle.lalrpop_lr1_inline.specs.InlinedNames.{NonterminalEntries}
use Rattle.lalrpop_lr1_inline.specs.InliningSteps.{AreInlineDefinitions, AreInlineSteps, all_records_after, entries_after, is_place}
use Rattle.lalrpop_lr1_inline.specs.InliningSteps.{production_of_record, productions_after, productions_in_place, productions_named}
use Rattle.lalrpop_lr1_inline.specs.InliningSteps.{productions_of_records, records_after, records_in_place, records_of}
use Rattle.lalrpop_lr1_inline.specs.NamedProductions.{record_by_labels}
use Rattle.lalrpop_grammar_language.proofs.AmongLemmas.{among_flat_map}
use Rattle.lalrpop_grammar_language.proofs.OrderLemmas.{among_parts}
use Rattle.lalrpop_lr1_inline.proofs.GivenLabelLemmas.{named_stands}
use Rattle.lalrpop_lr1_inline.proofs.MadeLabelLemmas.{got_at}
use Rattle.lalrpop_lr1_inline.proofs.OrderLabelLemmas.{steps_extend}
use Rattle.lalrpop_lr1_inline.proofs.SmallerLemmas.{MadeBelow}
use Rattle.lalrpop_run_prepare.proofs.ToldRecordLemmas.{IsTold, made_told}

abbrev Made : Type 0
Made = Production × List InlinedSymbol

-- what holds of each production that a step leaves or makes

module _ (Holds : Production → Type 0) where
  -- it holds of what is made of the productions by the records, their actions one after another from this number on
  abbrev pub HoldsOfMade : ℕ → List Made → Type 0
  HoldsOfMade k [] = Unit {0}
  HoldsOfMade k (m ∷ ms) = Holds (production_of_record m.0 m.1 k) × HoldsOfMade (k + 1) ms

  -- and of each production of the entries
  abbrev pub HoldsOfEach : NonterminalEntries → Type 0
  HoldsOfEach es =
      (e : NonterminalString × NonterminalData) (p : Production) → Among es e → Among e.1.productions p → Holds p

  front_holds : (k : ℕ) (ms ns : List Made) → HoldsOfMade k (ms ++ ns) → HoldsOfMade k ms
  front_holds k [] ns h = tt
  front_holds k (m ∷ ms) ns h = (h.0, front_holds (k + 1) ms ns h.1)

  back_holds : (k j : ℕ) (ms ns : List Made) → j ≡ k + length ms → HoldsOfMade k (ms ++ ns) → HoldsOfMade j ns
  back_holds k j [] ns e h = subst (λ i. HoldsOfMade i ns) (omega (arith, e)) h
  back_holds k j (m ∷ ms) ns e h = back_holds (k + 1) j ms ns (omega (arith, e)) h.1

  records_hold : (q : Production) (rs : List (List InlinedSymbol)) (k : ℕ) → HoldsOfMade k (map (λ r. (q, r)) rs) →
      (p : Production) →
      Among (productions_of_records q rs k) p → Holds p
  records_hold q [] k h p i = absurd i
  records_hold q (r ∷ rs) k h p (inl e) = subst Holds e h.0
  records_hold q (r ∷ rs) k h p (inr i) = records_hold q rs (k + 1) h.1 p i

  module _ (n : Text) (ps : List Production) where
    place_holds : (q : Production) → Holds q → (k : ℕ) → HoldsOfMade k (map (λ r. (q, r)) (records_in_place n ps q)) →
        (p : Production) → Among (productions_in_place n ps q k) p → Holds p
    place_holds q own k = go (list_any (is_place n) q.symbols)
      where
        go : (b : Bool) → HoldsOfMade k (map (λ r. (q, r)) (if b then records_of n ps q.symbols else [])) → (p : Production) →
            Among (if b then productions_of_records q (records_of n ps q.symbols) k else q ∷ []) p → Holds p
        go true h p i = records_hold q (records_of n ps q.symbols) k h p i
        go false h p (inl e) = subst Holds e own
        go false h p (inr i) = absurd i

    after_holds : (qs : List Production) → ((q : Production) → Among qs q → Holds q) → (k : ℕ) →
        HoldsOfMade k (records_after n ps qs) → (p : Production) → Among (productions_after n ps qs k) p → Holds p
    after_holds [] each k h p i = absurd i
    after_holds (q ∷ qs) each k h p i =
        go (among_parts (productions_in_place n ps q k) (productions_after n ps qs next) p i)
        (after_holds qs (λ x j. each x (inr j)) next rest p)
      where
        next : ℕ
        next = k + length (records_in_place n ps q)

        first : HoldsOfMade k (map (λ r. (q, r)) (records_in_place n ps q))
        first = front_holds k (map (λ r. (q, r)) (records_in_place n ps q)) (records_after n ps qs) h

        rest : HoldsOfMade next (records_after n ps qs)
        rest =
            back_holds k next (map (λ r. (q, r)) (records_in_place n ps q)) (records_after n ps qs)
            (ap (λ i. k + i) (sym (length-map (records_in_place n ps q) (λ (r : List InlinedSymbol). (q, r))))) h

        go : Among (productions_in_place n ps q k) p ⊎ Among (productions_after n ps qs next) p →
            (Among (productions_after n ps qs next) p → Holds p) → Holds p
        go (inl j) later = place_holds q (each q (inl refl)) k first p j
        go (inr j) later = later j

    -- so it holds after the step
    pub entries_hold : (es : NonterminalEntries) → HoldsOfEach es → (k : ℕ) → HoldsOfMade k (all_records_after n ps es) →
        HoldsOfEach (entries_after n ps es k)
    entries_hold [] each k h e p i j = absurd i
    entries_hold (d ∷ es) each k h e p (inl same) j =
        after_holds d.1.productions (λ q m. each d q (inl refl) m) k
        (front_holds k (records_after n ps d.1.productions) (all_records_after n ps es) h) p
        (subst (λ (x : NonterminalString × NonterminalData). Among x.1.productions p) (sym same) j)
    entries_hold (d ∷ es) each k h e p (inr i) j =
        entries_hold es (λ x q a b. each x q (inr a) b) (k + length (records_after n ps d.1.productions))
        (back_holds k (k + length (records_after n ps d.1.productions)) (records_after n ps d.1.productions)
        (all_records_after n ps es) refl h) e p i j

  -- it holds of what a step makes, where it holds of each production whose action is so defined
  pub definitions_hold : (whole actions : List ActionFnDefn) (least : ℕ) (ms : List Made) →
      ((m : Made) → Among ms m → (k : ℕ) (d : ActionFnDefn) → least ≤ k → slice_get whole k ≡ Some d →
      d.kind ≡ kinds.Inline (record { action = m.0.action; symbols = m.1 }) → Holds (production_of_record m.0 m.1 k)) →
      (ds front back : List ActionFnDefn) → AreInlineDefinitions actions ms ds → whole ≡ front ++ (ds ++ back) →
      least ≤ length front → HoldsOfMade (length front) ms
  definitions_hold whole actions least [] each ds front back are e l = tt
  definitions_hold whole actions least (m ∷ ms) each [] front back are e l = absurd are
  definitions_hold whole actions least (m ∷ ms) each (d ∷ ds) front back are e l =
      let many : length (front ++ d ∷ []) ≡ length front + 1 = length-append front (d ∷ []) in
      let rest = definitions_hold whole actions least ms (λ x i. each x (inr i)) ds (front ++ d ∷ []) back are.1
      (e ∙ sym (append_assoc front (d ∷ []) (ds ++ back))) (omega (arith, many, l)) in (
        each m (inl refl) (length front) d l
            (ap (λ (w : List ActionFnDefn). slice_get w (length front)) e ∙ got_at front d (ds ++ back)) are.0.kind_is,
        subst (λ i. HoldsOfMade i ms) many rest,
      )

-- a record that a step has was made of a right side of a production
pub record IsRecorded (n : Text) (ps : List Production) (es : NonterminalEntries) (m : Made) : Type 0 where
  pub entry : NonterminalString × NonterminalData
  pub in_grammar : Among es entry
  pub in_entry : Among entry.1.productions m.0
  pub is_record : Among (records_of n ps m.0.symbols) m.1

in_place : (n : Text) (ps : List Production) (q : Production) (r : List InlinedSymbol) → Among (records_in_place n ps q) r →
    Among (records_of n ps q.symbols) r
in_place n ps q r = go (list_any (is_place n) q.symbols)
  where
    go : (b : Bool) → Among (if b then records_of n ps q.symbols else []) r → Among (records_of n ps q.symbols) r
    go true i = i
    go false i = absurd i

pub is_recorded : (n : Text) (ps : List Production) (es : NonterminalEntries) (m : Production × List InlinedSymbol) →
    Among (all_records_after n ps es) m → IsRecorded n ps es m
is_recorded n ps es m i =
    let a = among_flat_map (λ (e : NonterminalString × NonterminalData). records_after n ps e.1.productions) es m i in
    let b = among_flat_map (λ (p : Production). map (λ (r : List InlinedSymbol). (p, r)) (records_in_place n ps p)) a.0.1.productions
    m a.2 in
    let c = among_map (λ (r : List InlinedSymbol). (b.0, r)) (records_in_place n ps b.0) m b.2 in
    subst (λ (x : Production × List InlinedSymbol). IsRecorded n ps es x) c.2
    (record { entry = a.0; in_grammar = a.1; in_entry = b.1; is_record = in_place n ps b.0 c.0 c.1 })

module _ (whole : List ActionFnDefn) (origins : List choices.Origin) (lab : ℕ → Label Text ℕ) (back : ℕ → Nonterminal × Origin)
    (least : ℕ) (from : length origins ≤ least)
    (says : (k : ℕ) (d : ActionFnDefn) (i : InlineActionFnDefn) → least ≤ k → slice_get whole k ≡ Some d →
    d.kind ≡ kinds.Inline i →
    lab k ≡ label_with (lab i.action.0) (record_by_labels lab i.symbols))
    (below : (k : ℕ) (d : ActionFnDefn) (i : InlineActionFnDefn) → least ≤ k → slice_get whole k ≡ Some d →
    d.kind ≡ kinds.Inline i →
    MadeBelow k i) where
  -- the action of each production tells its label
  abbrev pub EachTold : NonterminalEntries → Type 0
  EachTold es = HoldsOfEach (IsTold whole origins lab back) es

  step_told : (n : Text) (es : NonterminalEntries) → EachTold es → (m : Production × List InlinedSymbol) →
      Among (all_records_after n (productions_named es n) es) m → (k : ℕ) (d : ActionFnDefn) → least ≤ k →
      slice_get whole k ≡ Some d → d.kind ≡ kinds.Inline (record { action = m.0.action; symbols = m.1 }) →
      IsTold whole origins lab back (production_of_record m.0 m.1 k)
  step_told n es told m i k d far has_d kind_is =
      let own : InlineActionFnDefn = record { action = m.0.action; symbols = m.1 } in
      let w = is_recorded n (productions_named es n) es m i in
      made_told whole origins lab back n (productions_named es n)
      (λ p j.
      let s = named_stands es n p j in
      told s.0 p s.1 s.2)
      m.0 (told w.entry m.0 w.in_grammar w.in_entry) m.1 w.is_record k d own refl (omega (arith, from, far)) has_d kind_is
      (below k d own far has_d kind_is) (says k d own far has_d kind_is)

  pub steps_told : (ns : List Text) (es after : NonterminalEntries) (actions : List ActionFnDefn) →
      AreInlineSteps ns es actions after whole → least ≤ length actions → EachTold es → EachTold after
  steps_told [] es after actions h l told = subst EachTold (sym h.0) told
  steps_told (n ∷ ns) es after actions h l told =
      let mid = h.0 in
      let s = h.2 in
      let added = steps_extend ns mid after h.1 whole h.3 in
      let join : whole ≡ actions ++ (s.made ++ added.0) =
      added.1 ∙ ap (λ (a : List ActionFnDefn). a ++ added.0) s.actions_are ∙ append_assoc actions s.made added.0 in
      let made = definitions_hold (IsTold whole origins lab back) whole actions least
      (all_records_after n (productions_named es n) es) (step_told n es told) s.made actions added.0 s.are_definitions join l in
      let here : EachTold mid =
      subst EachTold (sym s.entries_are)
      (entries_hold (IsTold whole origins lab back) n (productions_named es n) es told (length actions) made) in
      let many = ap length s.actions_are ∙ length-append actions s.made in
      steps_told ns mid after h.1 h.3 (omega (arith, many, l)) here
