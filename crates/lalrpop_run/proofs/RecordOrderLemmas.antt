-- The records of a right side are in order where the productions are that they put in: for the order of what a step makes.
use Rattle.std.proofs.Common.{◌≡◌, ◌∙◌, ◌≤◌, ◌<◌, ◌+◌, ◌⊎◌, inl, inr, ℕ, List, [], ◌∷◌, ap, arith, length, map, refl, subst, sym, true, false}
use Rattle.std.proofs.Common.{Contains}
use Rattle.std.specs.Prelude.{Bool, ◌||◌, if◌then◌else◌}
use Rattle.std.specs.List.{list_any}
use Rattle.std.specs.Str.{bytes_eq}
use Rattle.lalrpop_grammar_symbols.specs.Symbols.{Text}
use Rattle.lalrpop_grammar_language.specs.Among.{Among}
use Rattle.lalrpop_grammar_language.specs.Expansion.{GrammarSymbol}
use Rattle.lalrpop_grammar_language.specs.Labels.{Label}
use Rattle.lalrpop_grammar_language.specs.Steps.{label_with}
use Rattle.lalrpop_grammar_repr.specs.declared.action.InlinedSymbol.{InlinedSymbol}
use Rattle.lalrpop_grammar_repr.specs.declared.action.InlinedSymbol.TheVariants as inlined
use Rattle.lalrpop_grammar_repr.specs.declared.production.Production.{Production}
use Rattle.lalrpop_grammar_repr.specs.declared.production.Symbol.{Symbol}
use Rattle.lalrpop_grammar_repr.specs.declared.production.Symbol.TheVariants as symbols
use Rattle.lalrpop_lr1_core.proofs.MemberLemmas.{in_map}
use Rattle.lalrpop_lr1_inline.specs.InliningSteps.{is_place, productions_in_place, productions_of_records}
use Rattle.lalrpop_lr1_inline.specs.InliningSteps.{record_entries, records_in_place, records_of}
use Rattle.lalrpop_lr1_inline.specs.NamedProductions.{record_by_labels, side_by_names}
use Rattle.lalrpop_lr1_inline.proofs.MadeLabelLemmas.{LabelsFrom}
use Rattle.lalrpop_lr1_inline.proofs.StepsLemmas.{same_bytes}
use Rattle.lalrpop_run.proofs.FilledLabelLemmas.{IsRecordBefore}
use Rattle.lalrpop_run.proofs.OrderedListLemmas.{AreInOrder, flat_in_order, map_in_order, one_in_order}

-- where a test finds a place of the nonterminal, it stands on the right side
pub place_there : (n : Text) (side : List Symbol) → list_any (is_place n) side ≡ true →
    Among (side_by_names side) (GrammarSymbol.nonterminal n)
place_there n [] h = absurd (let w : ⊥ = cc in w)
place_there n (symbols.Terminal t ∷ side) h = inr (place_there n side h)
place_there n (symbols.Nonterminal m ∷ side) h = go (bytes_eq m.0 n) refl h (place_there n side)
  where
    go : (b : Bool) → bytes_eq m.0 n ≡ b → (b || list_any (is_place n) side) ≡ true →
        (list_any (is_place n) side ≡ true → Among (side_by_names side) (GrammarSymbol.nonterminal n)) →
        Among (side_by_names (symbols.Nonterminal m ∷ side)) (GrammarSymbol.nonterminal n)
    go true f g later = inl (ap GrammarSymbol.nonterminal (same_bytes m.0 n f))
    go false f g later = inr (later g)

module _ (lab : ℕ → Label Text ℕ) (Less : Label Text ℕ → Label Text ℕ → Type 0) (n : Text) (ps : List Production) where
  abbrev pub IsBeforeIn : List InlinedSymbol → List InlinedSymbol → Type 0
  IsBeforeIn r q = IsRecordBefore Less (record_by_labels lab r) (record_by_labels lab q)

  longer_before : (e : InlinedSymbol) (r q : List InlinedSymbol) → IsBeforeIn r q → IsBeforeIn (e ∷ r) (e ∷ q)
  longer_before (inlined.Original s) r q h = h
  longer_before (inlined.Inlined action side) r q h = inr (refl, h)

  -- all records with the one entry in front come before those with the other
  abbrev AreEntriesBefore : List (List InlinedSymbol) → InlinedSymbol → InlinedSymbol → Type 0
  AreEntriesBefore rs d e =
      (r q : List InlinedSymbol) → Contains (map (λ x. d ∷ x) rs) r → Contains (map (λ x. e ∷ x) rs) q → IsBeforeIn r q

  abbrev put_in : Production → InlinedSymbol
  put_in p = inlined.Inlined p.action p.symbols

  put_before : (rs : List (List InlinedSymbol)) (p q : Production) → Less (lab p.action.0) (lab q.action.0) →
      AreEntriesBefore rs (put_in p) (put_in q)
  put_before rs p q less r t c d =
      let a = in_map (λ x. put_in p ∷ x) rs r c in
      let b = in_map (λ x. put_in q ∷ x) rs t d in
      subst (λ (x : List InlinedSymbol). IsBeforeIn x t) a.2
      (subst (λ (y : List InlinedSymbol). IsBeforeIn (put_in p ∷ a.0) y) b.2 (inl less))

  module _ (ordered : AreInOrder (λ (p q : Production). Less (lab p.action.0) (lab q.action.0)) ps) where
    entries_in_order : (rs : List (List InlinedSymbol)) (s : Symbol) → AreInOrder (AreEntriesBefore rs) (record_entries n ps s)
    entries_in_order rs s = go (is_place n s)
      where
        go : (b : Bool) → AreInOrder (AreEntriesBefore rs) (if b then map put_in ps else inlined.Original s ∷ [])
        go true = map_in_order (AreEntriesBefore rs) put_in ps (λ i j p q l e f. put_before rs p q (ordered i j p q l e f))
        go false = one_in_order (AreEntriesBefore rs) (inlined.Original s)

    pub records_in_order : (side : List Symbol) → AreInOrder IsBeforeIn (records_of n ps side)
    records_in_order [] = one_in_order IsBeforeIn []
    records_in_order (s ∷ side) =
        flat_in_order IsBeforeIn (λ e. map (λ r. e ∷ r) (records_of n ps side)) (record_entries n ps s)
        (λ e c. map_in_order IsBeforeIn (λ r. e ∷ r) (records_of n ps side)
        (λ i j r q l a b. longer_before e r q (records_in_order side i j r q l a b)))
        (entries_in_order (records_of n ps side) s)

-- what records make of a production, and which numbers it has

module _ (lab : ℕ → Label Text ℕ) (n : Text) (ps : List Production) where
  -- One of these records makes it, with a number from this one on that's below that one.
  pub record IsMadeAt (q : Production) (rs : List (List InlinedSymbol)) (low : ℕ) (high : ℕ) (made : Production) : Type 0 where
    pub entries : List InlinedSymbol
    pub is_one : Among rs entries
    pub label_is : lab made.action.0 ≡ label_with (lab q.action.0) (record_by_labels lab entries)
    pub low_is : low ≤ made.action.0
    pub high_is : made.action.0 < high

  pub made_at : (q : Production) (rs : List (List InlinedSymbol)) (k : ℕ) → LabelsFrom lab k (map (λ r. (q, r)) rs) →
      (made : Production) → Among (productions_of_records q rs k) made → IsMadeAt q rs k (k + length rs) made
  made_at q [] k h made i = absurd i
  made_at q (r ∷ rs) k h made (inl e) =
      let number : k ≡ made.action.0 = ap (λ (p : Production). p.action.0) e in
      record {
        entries = r;
        is_one = inl refl;
        label_is = ap (λ (p : Production). lab p.action.0) (sym e) ∙ h.0;
        low_is = omega (arith, number);
        high_is = omega (arith, number);
      }
  made_at q (r ∷ rs) k h made (inr i) =
      let w = made_at q rs (k + 1) h.1 made i in
      record {
        entries = w.entries;
        is_one = inr w.is_one;
        label_is = w.label_is;
        low_is = omega (arith, w.low_is);
        high_is = omega (arith, w.high_is);
      }

  -- what stands in the place of a production: itself, or what the records of its right side make of it, which has a place of the nonterminal
  abbrev pub StandsInPlace : Production → ℕ → ℕ → Production → Type 0
  StandsInPlace q low high made =
      (q ≡ made) ⊎ ((list_any (is_place n) q.symbols ≡ true) × IsMadeAt q (records_of n ps q.symbols) low high made)

  pub stands_in_place : (q : Production) (k : ℕ) → LabelsFrom lab k (map (λ r. (q, r)) (records_in_place n ps q)) →
      (made : Production) → Among (productions_in_place n ps q k) made →
      StandsInPlace q k (k + length (records_in_place n ps q)) made
  stands_in_place q k = go (list_any (is_place n) q.symbols) refl
    where
      go : (b : Bool) → list_any (is_place n) q.symbols ≡ b →
          LabelsFrom lab k (map (λ r. (q, r)) (if b then records_of n ps q.symbols else [])) → (made : Production) →
          Among (if b then productions_of_records q (records_of n ps q.symbols) k else q ∷ []) made →
          StandsInPlace q k (k + length (if b then records_of n ps q.symbols else [])) made
      go true f h made i = inr (f, made_at q (records_of n ps q.symbols) k h made i)
      go false f h made (inl e) = inl e
      go false f h made (inr i) = absurd i
