-- What labels are told by actions: an action of the given grammar tells the written choice that it stands for, and one that inlining
-- adds tells by its record which symbols were inlined and by which actions.
use Rattle.std.specs.Prelude.{◌≡◌, ◌+◌, ◌<◌, ◌≤◌, ℕ, zero, suc, Some, List, [], ◌∷◌, length, slice_get}
use Rattle.lalrpop_grammar.specs.WrittenGrammar.{Origin}
use Rattle.lalrpop_grammar.specs.Views.{origin_view}
use Rattle.lalrpop_grammar.specs.declared.origin.Origin as choices
use Rattle.lalrpop_grammar_language.specs.Expansion.{Nonterminal}
use Rattle.lalrpop_grammar_repr.specs.declared.action.ActionFn.{ActionFn}
use Rattle.lalrpop_grammar_repr.specs.declared.action.ActionFnDefn.{ActionFnDefn}
use Rattle.lalrpop_grammar_repr.specs.declared.action.ActionFnDefnKind.TheVariants as kinds
use Rattle.lalrpop_grammar_repr.specs.declared.action.InlineActionFnDefn.{InlineActionFnDefn}
use Rattle.lalrpop_grammar_repr.specs.declared.action.InlinedSymbol.{InlinedSymbol}
use Rattle.lalrpop_grammar_repr.specs.declared.action.InlinedSymbol.TheVariants as symbols
use Rattle.lalrpop_grammar_repr.specs.declared.production.Symbol.{Symbol}
use Rattle.lalrpop_grammar_language.specs.Labels.{Inlinings, Label}

-- labels over closed symbols and written choices
abbrev pub ChoiceLabel : Type 0
ChoiceLabel = Label Nonterminal Origin

abbrev pub ChoiceInlinings : Type 0
ChoiceInlinings = Inlinings Nonterminal Origin

-- so many symbols, each of them kept
abbrev pub all_kept : {N C : Type 0} → ℕ → Inlinings N C
all_kept zero = Inlinings.none
all_kept (suc n) = Inlinings.kept (all_kept n)

-- how many symbols stand after inlining
abbrev mutual
  pub kept_count : {N C : Type 0} → Label N C → ℕ
  kept_count (Label.choose x choice inlinings) = kept_counts inlinings

  pub kept_counts : {N C : Type 0} → Inlinings N C → ℕ
  kept_counts Inlinings.none = 0
  kept_counts (Inlinings.kept inlinings) = suc (kept_counts inlinings)
  kept_counts (Inlinings.inlined label inlinings) = kept_count label + kept_counts inlinings

-- The label with entries put in: each symbol that was kept takes the next one. With it what is left of the entries.
abbrev mutual
  pub fill_by_entries : {N C : Type 0} → Label N C → Inlinings N C → Label N C × Inlinings N C
  fill_by_entries (Label.choose x choice inlinings) entries =
      let r = fill_all_by_entries inlinings entries in
      (Label.choose x choice r.0, r.1)

  pub fill_all_by_entries : {N C : Type 0} → Inlinings N C → Inlinings N C → Inlinings N C × Inlinings N C
  fill_all_by_entries Inlinings.none entries = (Inlinings.none, entries)
  fill_all_by_entries (Inlinings.kept inlinings) Inlinings.none = (Inlinings.kept inlinings, Inlinings.none)
  fill_all_by_entries (Inlinings.kept inlinings) (Inlinings.kept entries) =
      let r = fill_all_by_entries inlinings entries in
      (Inlinings.kept r.0, r.1)
  fill_all_by_entries (Inlinings.kept inlinings) (Inlinings.inlined label entries) =
      let r = fill_all_by_entries inlinings entries in
      (Inlinings.inlined label r.0, r.1)
  fill_all_by_entries (Inlinings.inlined label inlinings) entries =
      let a = fill_by_entries label entries in
      let b = fill_all_by_entries inlinings a.1 in
      (Inlinings.inlined a.0 b.0, b.1)

abbrev pub label_of_entries : {N C : Type 0} → Label N C → Inlinings N C → Label N C
label_of_entries label entries = (fill_by_entries label entries).0

mutual
  -- The action, of a production with so many symbols, tells the label: where it is one of the given grammar's, by its written choice,
  -- with each symbol kept; where inlining added it, by the label of the action that it is made of, with its record put in.
  pub data TellsLabel (actions : List ActionFnDefn) (origins : List choices.Origin) : ℕ → ℕ → ChoiceLabel → Type 0 where
    given : (k count : ℕ) (x : Nonterminal) (o : choices.Origin) → slice_get origins k ≡ Some o
        → TellsLabel actions origins k count (Label.choose x (origin_view o) (all_kept count))
    made : (k count : ℕ) (d : ActionFnDefn) (i : InlineActionFnDefn) (outer : ChoiceLabel) (entries : ChoiceInlinings)
        → length origins ≤ k → slice_get actions k ≡ Some d → d.kind ≡ kinds.Inline i → i.action.0 < k
        → TellsLabel actions origins i.action.0 (length i.symbols) outer → TellEntries actions origins k i.symbols count entries
        → TellsLabel actions origins k count (label_of_entries outer entries)

  -- The symbols of a record below this number tell, for a production with so many symbols, which were inlined, and by which labels.
  pub data TellEntries (actions : List ActionFnDefn) (origins : List choices.Origin) :
      ℕ → List InlinedSymbol → ℕ → ChoiceInlinings → Type 0 where
    none : (below : ℕ) → TellEntries actions origins below [] 0 Inlinings.none
    kept : (below : ℕ) (s : Symbol) (rest : List InlinedSymbol) (count : ℕ) (entries : ChoiceInlinings)
        → TellEntries actions origins below rest count entries
        → TellEntries actions origins below (symbols.Original s ∷ rest) (suc count) (Inlinings.kept entries)
    inlined : (below : ℕ) (action : ActionFn) (side : List Symbol) (label : ChoiceLabel) (rest : List InlinedSymbol) (count : ℕ)
        (entries : ChoiceInlinings) → action.0 < below → TellsLabel actions origins action.0 (length side) label
        → TellEntries actions origins below rest count entries
        → TellEntries actions origins below (symbols.Inlined action side ∷ rest) (length side + count)
        (Inlinings.inlined label entries)

-- inlining added the action, with this record
pub record IsRecordOf (actions : List ActionFnDefn) (k : ℕ) (i : InlineActionFnDefn) : Type 0 where
  pub definition : ActionFnDefn
  pub at : slice_get actions k ≡ Some definition
  pub kind_is : definition.kind ≡ kinds.Inline i

-- how many symbols stand after inlining for one of a record
abbrev pub symbols_after_entry : InlinedSymbol → ℕ
symbols_after_entry (symbols.Original s) = 1
symbols_after_entry (symbols.Inlined action side) = length side
