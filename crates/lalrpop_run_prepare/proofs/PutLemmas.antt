-- A record put in a label, seen over written choices, is its entries put in: for labels that are told by actions.
use Rattle.std.proofs.Common.{◌≡◌, ◌∙◌, ℕ, List, [], ◌∷◌, ap, length, refl}
use Rattle.lalrpop_grammar_symbols.specs.Symbols.{Text}
use Rattle.lalrpop_grammar_language.specs.Labels.{GrammarSymbols, Inlinings, Label}
use Rattle.lalrpop_grammar_language.specs.Steps.{RecordedSymbol, fill_inlinings, fill_label, label_with, record_inlinings}
use Rattle.lalrpop_lr1_inline.specs.NamedProductions.{keeps_all}
use Rattle.lalrpop_run_prepare.specs.NamedLabels.{inlinings_back, label_back}
use Rattle.lalrpop_run_trees.specs.ActionLabels.{all_kept, fill_all_by_entries, fill_by_entries, label_of_entries}

-- a label with a choice in front of inlinings, and inlinings with one more, each beside what is left of the entries
abbrev chosen : {N C : Type 0} → N → C → Inlinings N C × Inlinings N C → Label N C × Inlinings N C
chosen x choice z = (Label.choose x choice z.0, z.1)

abbrev kept_first : {N C : Type 0} → Inlinings N C × Inlinings N C → Inlinings N C × Inlinings N C
kept_first z = (Inlinings.kept z.0, z.1)

abbrev inlined_first : {N C : Type 0} → Label N C → Inlinings N C × Inlinings N C → Inlinings N C × Inlinings N C
inlined_first label z = (Inlinings.inlined label z.0, z.1)

abbrev filled_behind : {N C : Type 0} → Inlinings N C → Label N C × Inlinings N C → Inlinings N C × Inlinings N C
filled_behind inlinings z = inlined_first z.0 (fill_all_by_entries inlinings z.1)

-- the entries of a record
abbrev pub entries_back : {N C T D : Type 0} → (D → N × C) → List (RecordedSymbol T D) → Inlinings N C
entries_back back rs = inlinings_back back (record_inlinings rs)

module _ {N C T D : Type 0} (back : D → N × C) where
  mutual
    label_filled : (label : Label T D) (rs : List (RecordedSymbol T D)) →
        fill_by_entries (label_back back label) (entries_back back rs)
        ≡ (label_back back (fill_label label rs).0, entries_back back (fill_label label rs).1)
    label_filled (Label.choose n d inlinings) rs = ap (chosen (back d).0 (back d).1) (inlinings_filled inlinings rs)

    inlinings_filled : (inlinings : Inlinings T D) (rs : List (RecordedSymbol T D)) →
        fill_all_by_entries (inlinings_back back inlinings) (entries_back back rs)
        ≡ (inlinings_back back (fill_inlinings inlinings rs).0, entries_back back (fill_inlinings inlinings rs).1)
    inlinings_filled Inlinings.none rs = refl
    inlinings_filled (Inlinings.kept inlinings) [] = refl
    inlinings_filled (Inlinings.kept inlinings) (RecordedSymbol.original p ∷ rs) =
        ap kept_first (inlinings_filled inlinings rs)
    inlinings_filled (Inlinings.kept inlinings) (RecordedSymbol.inlined label side ∷ rs) =
        ap (inlined_first (label_back back label)) (inlinings_filled inlinings rs)
    inlinings_filled (Inlinings.inlined label inlinings) rs =
        ap (filled_behind (inlinings_back back inlinings)) (label_filled label rs)
        ∙ ap (inlined_first (label_back back (fill_label label rs).0)) (inlinings_filled inlinings (fill_label label rs).1)

  pub record_put : (label : Label T D) (rs : List (RecordedSymbol T D)) →
      label_of_entries (label_back back label) (entries_back back rs) ≡ label_back back (label_with label rs)
  record_put label rs = ap (λ (z : Label N C × Inlinings N C). z.0) (label_filled label rs)

-- where each symbol is kept
pub all_kept_back : {N C : Type 0} (back : ℕ → N × C) (side : GrammarSymbols Text) →
    inlinings_back back (keeps_all side) ≡ all_kept (length side)
all_kept_back back [] = refl
all_kept_back back (p ∷ side) = ap Inlinings.kept (all_kept_back back side)
