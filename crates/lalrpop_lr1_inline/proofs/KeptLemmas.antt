-- A record in which nothing is replaced leaves the label and the right side as they are: for productions that a step leaves.
use Rattle.std.proofs.Common.{◌≡◌, ◌∙◌, ℕ, List, [], ◌∷◌, ◌++◌, ap, refl, true, false, map}
use Rattle.std.specs.Prelude.{Bool, ◌||◌, flat_map, if◌then◌else◌}
use Rattle.std.specs.List.{list_any}
use Rattle.lalrpop_grammar_symbols.specs.Symbols.{Text}
use Rattle.lalrpop_grammar_language.specs.Expansion.{GrammarSymbol}
use Rattle.lalrpop_grammar_repr.specs.declared.action.InlinedSymbol.{InlinedSymbol}
use Rattle.lalrpop_grammar_repr.specs.declared.action.InlinedSymbol.TheVariants as inlined
use Rattle.lalrpop_grammar_repr.specs.declared.production.Production.{Production}
use Rattle.lalrpop_grammar_repr.specs.declared.production.Symbol.{Symbol}
use Rattle.lalrpop_grammar_language.specs.Labels.{Inlinings, Label}
use Rattle.lalrpop_grammar_language.specs.Steps.{RecordedSymbol, fill_inlinings, fill_label, label_with}
use Rattle.lalrpop_lr1_inline.specs.InliningSteps.{is_place, records_of, side_of_record}
use Rattle.lalrpop_lr1_inline.specs.NamedProductions.{record_by_labels, symbol_by_name}

-- the record of a right side in which nothing is replaced
abbrev pub kept_record : List Symbol → List InlinedSymbol
kept_record side = map inlined.Original side

abbrev originals : List (GrammarSymbol Text) → List (RecordedSymbol Text ℕ)
originals ps = map RecordedSymbol.original ps

-- what is filled with symbols that stand as before is as before, and what is left of them stands as before too
record Leaves (A : Type 0) (a : A) (made : A × List (RecordedSymbol Text ℕ)) : Type 0 where
  same : made.0 ≡ a
  rest : List (GrammarSymbol Text)
  rest_is : made.1 ≡ originals rest

mutual
  label_left : (label : Label Text ℕ) (ps : List (GrammarSymbol Text)) → Leaves (Label Text ℕ) label (fill_label label (originals ps))
  label_left (Label.choose x c inlinings) ps =
      let r = inlinings_left inlinings ps in
      record { same = ap (Label.choose x c) r.same; rest = r.rest; rest_is = r.rest_is }

  inlinings_left : (inlinings : Inlinings Text ℕ) (ps : List (GrammarSymbol Text)) →
      Leaves (Inlinings Text ℕ) inlinings (fill_inlinings inlinings (originals ps))
  inlinings_left Inlinings.none ps = record { same = refl; rest = ps; rest_is = refl }
  inlinings_left (Inlinings.kept inlinings) [] = record { same = refl; rest = []; rest_is = refl }
  inlinings_left (Inlinings.kept inlinings) (p ∷ ps) =
      let r = inlinings_left inlinings ps in
      record { same = ap Inlinings.kept r.same; rest = r.rest; rest_is = r.rest_is }
  inlinings_left (Inlinings.inlined label inlinings) ps =
      let a = label_left label ps in
      let b = inlinings_left inlinings a.rest in
      let moved : fill_inlinings inlinings (fill_label label (originals ps)).1 ≡ fill_inlinings inlinings (originals a.rest) =
      ap (fill_inlinings inlinings) a.rest_is in
      record {
        same = ap (λ k. Inlinings.inlined k (fill_inlinings inlinings (fill_label label (originals ps)).1).0) a.same
            ∙ ap (λ (z : Inlinings Text ℕ × List (RecordedSymbol Text ℕ)). Inlinings.inlined label z.0) moved
            ∙ ap (Inlinings.inlined label) b.same;
        rest = b.rest;
        rest_is = ap (λ (z : Inlinings Text ℕ × List (RecordedSymbol Text ℕ)). z.1) moved ∙ b.rest_is;
      }

record_kept : (label_of : ℕ → Label Text ℕ) (side : List Symbol) →
    record_by_labels label_of (kept_record side) ≡ originals (map symbol_by_name side)
record_kept label_of [] = refl
record_kept label_of (s ∷ side) = ap (λ l. RecordedSymbol.original (symbol_by_name s) ∷ l) (record_kept label_of side)

-- a label into which a record that replaces nothing is put stays the same
pub label_kept : (label_of : ℕ → Label Text ℕ) (label : Label Text ℕ) (side : List Symbol) →
    label_with label (record_by_labels label_of (kept_record side)) ≡ label
label_kept label_of label side =
    ap (label_with label) (record_kept label_of side) ∙ (label_left label (map symbol_by_name side)).same

-- a record that replaces nothing makes the right side that it is of
pub side_kept : (side : List Symbol) → side_of_record (kept_record side) ≡ side
side_kept [] = refl
side_kept (s ∷ side) = ap (λ l. s ∷ l) (side_kept side)

-- the only record of a right side that doesn't name the nonterminal
pub records_kept : (n : Text) (ps : List Production) (side : List Symbol) → list_any (is_place n) side ≡ false →
    records_of n ps side ≡ kept_record side ∷ []
records_kept n ps [] f = refl
records_kept n ps (s ∷ side) f = go (is_place n s) f (records_kept n ps side)
  where
    go : (b : Bool) → (b || list_any (is_place n) side) ≡ false →
        (list_any (is_place n) side ≡ false → records_of n ps side ≡ kept_record side ∷ []) →
        flat_map (λ e. map (λ r. e ∷ r) (records_of n ps side))
        (if b then map (λ (p : Production). inlined.Inlined p.action p.symbols) ps else inlined.Original s ∷ [])
        ≡ kept_record (s ∷ side) ∷ []
    go true g ih = (let wrong : true ≡ false = g in cc)
    go false g ih =
        ap (λ (l : List (List InlinedSymbol)). map (λ (r : List InlinedSymbol). inlined.Original s ∷ r) l ++ []) (ih g)
