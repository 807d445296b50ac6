-- The productions of a lowered grammar as those before inlining: nonterminals are names, choices are numbers of actions. So the
-- definitions of labels and of productions after inlining speak of it.
use Rattle.std.specs.Prelude.{◌≡◌, ℕ, true, List, [], ◌∷◌, map}
use Rattle.lalrpop_grammar_symbols.specs.Symbols.{Text}
use Rattle.lalrpop_grammar_symbols.specs.Views.{terminal_view}
use Rattle.lalrpop_grammar_language.specs.Among.{Among}
use Rattle.lalrpop_grammar_language.specs.Expansion.{GrammarSymbol}
use Rattle.lalrpop_grammar_repr.specs.declared.action.InlinedSymbol.{InlinedSymbol}
use Rattle.lalrpop_grammar_repr.specs.declared.action.InlinedSymbol.TheVariants as inlined
use Rattle.lalrpop_grammar_repr.specs.declared.production.Production.{Production}
use Rattle.lalrpop_grammar_repr.specs.declared.production.Symbol.{Symbol}
use Rattle.lalrpop_grammar_repr.specs.declared.production.Symbol.TheVariants as symbols
use Rattle.lalrpop_grammar_language.specs.Labels.{BaseProductions, GrammarSymbols, Inlinings, Label}
use Rattle.lalrpop_grammar_language.specs.Steps.{RecordedSymbol}
use Rattle.lalrpop_lr1_inline.specs.InlinedNames.{NonterminalEntries, is_inlined_name}
use Rattle.lalrpop_lr1_inline.specs.InliningSteps.{productions_named}

abbrev pub symbol_by_name : Symbol → GrammarSymbol Text
symbol_by_name (symbols.Nonterminal n) = GrammarSymbol.nonterminal n.0
symbol_by_name (symbols.Terminal t) = GrammarSymbol.terminal (terminal_view t)

abbrev pub side_by_names : List Symbol → GrammarSymbols Text
side_by_names side = map symbol_by_name side

-- the grammar has a production of this nonterminal with this action and this right side
abbrev pub ProducesByAction : NonterminalEntries → BaseProductions Text ℕ
ProducesByAction es n action side =
    (p : Production) × Among (productions_named es n) p × (p.action.0 ≡ action) × (side_by_names p.symbols ≡ side)

abbrev pub IsInlinedByName : NonterminalEntries → Text → Type 0
IsInlinedByName es n = is_inlined_name es n ≡ true

-- the label of a production in which nothing is inlined
abbrev pub keeps_all : GrammarSymbols Text → Inlinings Text ℕ
keeps_all [] = Inlinings.none
keeps_all (p ∷ side) = Inlinings.kept (keeps_all side)

abbrev pub label_given : Text → ℕ → GrammarSymbols Text → Label Text ℕ
label_given n action side = Label.choose n action (keeps_all side)

-- a record's entry, where the actions of the inlined nonterminal have these labels
abbrev pub entry_by_labels : (ℕ → Label Text ℕ) → InlinedSymbol → RecordedSymbol Text ℕ
entry_by_labels label_of (inlined.Original s) = RecordedSymbol.original (symbol_by_name s)
entry_by_labels label_of (inlined.Inlined action side) = RecordedSymbol.inlined (label_of action.0) (side_by_names side)

abbrev pub record_by_labels : (ℕ → Label Text ℕ) → List InlinedSymbol → List (RecordedSymbol Text ℕ)
record_by_labels label_of r = map (entry_by_labels label_of) r
