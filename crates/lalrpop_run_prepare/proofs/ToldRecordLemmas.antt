-- What a record makes of a production whose action tells its label has an action that tells its label: for a step of inlining.
use Rattle.std.proofs.Common.{◌≡◌, ◌∙◌, ◌≤◌, ℕ, List, [], ◌∷◌, ap, inl, inr, length}
use Rattle.std.proofs.Common.{length-append, map, refl, subst, suc, sym}
use Rattle.std.proofs.Common.{true, false}
use Rattle.std.specs.Prelude.{Bool, Some, if◌then◌else◌, slice_get}
use Rattle.lalrpop_grammar_symbols.specs.Symbols.{Text}
use Rattle.lalrpop_grammar.specs.WrittenGrammar.{Origin}
use Rattle.lalrpop_grammar.specs.declared.origin.Origin as choices
use Rattle.lalrpop_grammar_language.specs.Among.{Among}
use Rattle.lalrpop_grammar_language.specs.Expansion.{Nonterminal}
use Rattle.lalrpop_grammar_language.proofs.PlaceLemmas.{among_map}
use Rattle.lalrpop_grammar_repr.specs.declared.action.ActionFnDefn.{ActionFnDefn}
use Rattle.lalrpop_grammar_repr.specs.declared.action.ActionFnDefnKind.TheVariants as kinds
use Rattle.lalrpop_grammar_repr.specs.declared.action.InlineActionFnDefn.{InlineActionFnDefn}
use Rattle.lalrpop_grammar_repr.specs.declared.action.InlinedSymbol.{InlinedSymbol}
use Rattle.lalrpop_grammar_repr.specs.declared.action.InlinedSymbol.TheVariants as inlined
use Rattle.lalrpop_grammar_repr.specs.declared.production.Production.{Production}
use Rattle.lalrpop_grammar_repr.specs.declared.production.Symbol.{Symbol}
use Rattle.lalrpop_grammar_language.specs.Labels.{Label}
use Rattle.lalrpop_grammar_language.specs.Steps.{label_with}
use Rattle.lalrpop_lr1_inline.specs.InliningSteps.{is_place, production_of_record, record_entries, records_of, side_of_record}
use Rattle.lalrpop_lr1_inline.specs.NamedProductions.{record_by_labels}
use Rattle.lalrpop_grammar_language.proofs.AmongLemmas.{among_flat_map}
use Rattle.lalrpop_lr1_inline.proofs.SmallerLemmas.{MadeBelow, RecordBelow}
use Rattle.lalrpop_run_prepare.specs.NamedLabels.{label_back}
use Rattle.lalrpop_run_trees.specs.ActionLabels.{ChoiceInlinings, ChoiceLabel, TellEntries, TellsLabel}
use Rattle.lalrpop_run_prepare.proofs.PutLemmas.{entries_back, record_put}

module _ (whole : List ActionFnDefn) (origins : List choices.Origin) (lab : ℕ → Label Text ℕ) (back : ℕ → Nonterminal × Origin)
  where
    -- the label of an action over written choices
    abbrev pub choice_label : ℕ → ChoiceLabel
    choice_label k = label_back back (lab k)

    -- the production's action tells its label
    abbrev pub IsTold : Production → Type 0
    IsTold p = TellsLabel whole origins p.action.0 (length p.symbols) (choice_label p.action.0)

    -- so do the actions that a record names
    abbrev EntryTold : InlinedSymbol → Type 0
    EntryTold (inlined.Original s) = Unit {0}
    EntryTold (inlined.Inlined action side) = TellsLabel whole origins action.0 (length side) (choice_label action.0)

    abbrev RecordTold : List InlinedSymbol → Type 0
    RecordTold [] = Unit {0}
    RecordTold (e ∷ r) = EntryTold e × RecordTold r

    abbrev record_entries_back : List InlinedSymbol → ChoiceInlinings
    record_entries_back r = entries_back back (record_by_labels lab r)

    entries_told : (below : ℕ) (r : List InlinedSymbol) → RecordTold r → RecordBelow below r →
        TellEntries whole origins below r (length (side_of_record r)) (record_entries_back r)
    entries_told below [] h l = TellEntries.none below
    entries_told below (inlined.Original s ∷ r) h l =
        TellEntries.kept below s r (length (side_of_record r)) (record_entries_back r) (entries_told below r h.1 l.1)
    entries_told below (inlined.Inlined action side ∷ r) h l =
        subst
        (λ (count : ℕ). TellEntries whole origins below (inlined.Inlined action side ∷ r) count
        (record_entries_back (inlined.Inlined action side ∷ r)))
        (sym (length-append side (side_of_record r)))
        (TellEntries.inlined below action side (choice_label action.0) r (length (side_of_record r)) (record_entries_back r) l.0 h.0
        (entries_told below r h.1 l.1))

    module _ (n : Text) (ps : List Production) (each : (p : Production) → Among ps p → IsTold p) where
      entry_told : (s : Symbol) (e : InlinedSymbol) → Among (record_entries n ps s) e → EntryTold e
      entry_told s e = go (is_place n s)
        where
          go : (b : Bool) →
              Among (if b then map (λ (p : Production). inlined.Inlined p.action p.symbols) ps else inlined.Original s ∷ []) e →
              EntryTold e
          go true i =
              let w = among_map (λ (p : Production). inlined.Inlined p.action p.symbols) ps e i in
              subst EntryTold w.2 (each w.0 w.1)
          go false (inl same) = subst EntryTold same tt
          go false (inr i) = absurd i

      -- a record of a right side has an entry for each symbol, and its actions tell their labels
      record_told : (side : List Symbol) (r : List InlinedSymbol) → Among (records_of n ps side) r →
          RecordTold r × (length r ≡ length side)
      record_told [] r (inl e) = subst (λ (q : List InlinedSymbol). RecordTold q × (length q ≡ 0)) e (tt, refl)
      record_told [] r (inr i) = absurd i
      record_told (s ∷ side) r i =
          let a = among_flat_map (λ e. map (λ q. e ∷ q) (records_of n ps side)) (record_entries n ps s) r i in
          let b = among_map (λ q. a.0 ∷ q) (records_of n ps side) r a.2 in
          let rest = record_told side b.0 b.1 in
          subst (λ (q : List InlinedSymbol). RecordTold q × (length q ≡ suc (length side))) b.2
          ((entry_told s a.0 a.1, rest.0), ap suc rest.1)

      pub made_told : (q : Production) → IsTold q → (r : List InlinedSymbol) → Among (records_of n ps q.symbols) r → (k : ℕ)
          (d : ActionFnDefn) (i : InlineActionFnDefn) → i ≡ record { action = q.action; symbols = r } → length origins ≤ k →
          slice_get whole k ≡ Some d → d.kind ≡ kinds.Inline i → MadeBelow k i →
          lab k ≡ label_with (lab q.action.0) (record_by_labels lab r) → IsTold (production_of_record q r k)
      made_told q told r is_record k d i same far has_d kind_is below says =
          let w = record_told q.symbols r is_record in
          let outer : TellsLabel whole origins q.action.0 (length r) (choice_label q.action.0) =
          subst (λ (count : ℕ). TellsLabel whole origins q.action.0 count (choice_label q.action.0)) (sym w.1) told in
          let own : InlineActionFnDefn = record { action = q.action; symbols = r } in
          let smaller : MadeBelow k own = subst (MadeBelow k) same below in
          let label_is : choice_label k ≡ label_back back (label_with (lab q.action.0) (record_by_labels lab r)) =
          ap (label_back back) says in
          subst (λ (label : ChoiceLabel). TellsLabel whole origins k (length (side_of_record r)) label)
          (record_put back (lab q.action.0) (record_by_labels lab r) ∙ sym label_is)
          (TellsLabel.made k (length (side_of_record r)) d own (choice_label q.action.0) (record_entries_back r) far has_d
          (kind_is ∙ ap kinds.Inline same) smaller.0 outer (entries_told k r w.0 smaller.1))
