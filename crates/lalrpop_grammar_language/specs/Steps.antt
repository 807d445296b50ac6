-- Inlining one nonterminal: each place of it in a right side is replaced by one of its productions, and a record says by
-- which.
use Rattle.std.specs.Prelude.{◌≡◌, ◌≢◌, ◌⊎◌, List, [], ◌∷◌, ◌++◌}
use Rattle.lalrpop_grammar_language.specs.Among.{Among}
use Rattle.lalrpop_grammar_language.specs.Expansion.{GrammarSymbol}
use Rattle.lalrpop_grammar_language.specs.Labels.{GrammarSymbols, BaseProductions, Label, Inlinings}
use Rattle.lalrpop_grammar_language.specs.Inlining.{Inlines}

-- One symbol in the record of a right side: it stands as before, or a production has replaced it, with this label and this
-- right side.
pub data RecordedSymbol (N : Type 0) (C : Type 0) : Type 0 where
  original : GrammarSymbol N → RecordedSymbol N C
  inlined : Label N C → GrammarSymbols N → RecordedSymbol N C

-- the right side before the step, which inlines the nonterminal
abbrev pub symbols_before : {N C : Type 0} → N → List (RecordedSymbol N C) → GrammarSymbols N
symbols_before n [] = []
symbols_before n (RecordedSymbol.original p ∷ rest) = p ∷ symbols_before n rest
symbols_before n (RecordedSymbol.inlined label side ∷ rest) = GrammarSymbol.nonterminal n ∷ symbols_before n rest

-- the right side after the step
abbrev pub symbols_after : {N C : Type 0} → List (RecordedSymbol N C) → GrammarSymbols N
symbols_after [] = []
symbols_after (RecordedSymbol.original p ∷ rest) = p ∷ symbols_after rest
symbols_after (RecordedSymbol.inlined label side ∷ rest) = side ++ symbols_after rest

-- what a record says of each symbol but for the symbols themselves
abbrev pub record_inlinings : {N C : Type 0} → List (RecordedSymbol N C) → Inlinings N C
record_inlinings [] = Inlinings.none
record_inlinings (RecordedSymbol.original p ∷ rest) = Inlinings.kept (record_inlinings rest)
record_inlinings (RecordedSymbol.inlined label side ∷ rest) = Inlinings.inlined label (record_inlinings rest)

-- a record of the step: each place of the nonterminal is replaced by one of its productions, no other symbol is
abbrev pub IsRecord : {N C : Type 0} → BaseProductions N C → (N → Type 0) → N → List (RecordedSymbol N C) → Type 0
IsRecord M In n [] = Unit {0}
IsRecord M In n (RecordedSymbol.original p ∷ rest) = (p ≢ GrammarSymbol.nonterminal n) × IsRecord M In n rest
IsRecord M In n (RecordedSymbol.inlined label side ∷ rest) = Inlines M In n label side × IsRecord M In n rest

-- The label of what the step makes: each symbol that was kept takes the next one of the record. With it what is left of
-- the record.
abbrev mutual
  pub fill_label : {N C : Type 0} → Label N C → List (RecordedSymbol N C) → Label N C × List (RecordedSymbol N C)
  fill_label (Label.choose x choice inlinings) symbols =
      let r = fill_inlinings inlinings symbols in
      (Label.choose x choice r.0, r.1)

  pub fill_inlinings : {N C : Type 0} → Inlinings N C → List (RecordedSymbol N C) → Inlinings N C × List (RecordedSymbol N C)
  fill_inlinings Inlinings.none symbols = (Inlinings.none, symbols)
  fill_inlinings (Inlinings.kept inlinings) [] = (Inlinings.kept inlinings, [])
  fill_inlinings (Inlinings.kept inlinings) (RecordedSymbol.original p ∷ rest) =
      let r = fill_inlinings inlinings rest in
      (Inlinings.kept r.0, r.1)
  fill_inlinings (Inlinings.kept inlinings) (RecordedSymbol.inlined label side ∷ rest) =
      let r = fill_inlinings inlinings rest in
      (Inlinings.inlined label r.0, r.1)
  fill_inlinings (Inlinings.inlined label inlinings) symbols =
      let a = fill_label label symbols in
      let b = fill_inlinings inlinings a.1 in
      (Inlinings.inlined a.0 b.0, b.1)

-- the label with a record put in
abbrev pub label_with : {N C : Type 0} → Label N C → List (RecordedSymbol N C) → Label N C
label_with label symbols = (fill_label label symbols).0

-- one nonterminal more is inlined
abbrev pub OneMore : {N : Type 0} → (N → Type 0) → N → N → Type 0
OneMore In n x = In x ⊎ (x ≡ n)

-- no production of the nonterminal names it, once the others are inlined
abbrev pub NeverNamesItself : {N C : Type 0} → BaseProductions N C → (N → Type 0) → N → Type 0
NeverNamesItself {N = N} {C = C} M In n =
    (label : Label N C) (side : GrammarSymbols N) → Inlines M In n label side → Among side (GrammarSymbol.nonterminal n) → ⊥

-- each nonterminal to be inlined that this one or an inlined one names is inlined already
abbrev pub NamesInlinedFirst : {N C : Type 0} → BaseProductions N C → (N → Type 0) → (N → Type 0) → N → Type 0
NamesInlinedFirst {N = N} {C = C} M In Marked n =
    (x : N) (choice : C) (side : GrammarSymbols N) (y : N) → OneMore In n x → M x choice side →
    Among side (GrammarSymbol.nonterminal y) → Marked y → In y

-- The step makes the production: from one with the old label, whose right side the record has, by putting the record in.
pub record IsByStep (N : Type 0) (C : Type 0) (M : BaseProductions N C) (In : N → Type 0) (n : N) (x : N) (label : Label N C)
    (side : GrammarSymbols N) : Type 0 where
  pub old_label : Label N C
  pub symbols : List (RecordedSymbol N C)
  pub produced : Inlines M In x old_label (symbols_before n symbols)
  pub is_record : IsRecord M In n symbols
  pub label_is : label ≡ label_with old_label symbols
  pub side_is : side ≡ symbols_after symbols
