-- What the laws on labels and on expanded trees say, in parts.
use Rattle.std.specs.Prelude.{◌≡◌, Bool, List, []}
use Rattle.lalrpop_grammar_symbols.specs.Symbols.{Text, Closed}
use Rattle.lalrpop_grammar.specs.WrittenGrammar.{Origin}
use Rattle.lalrpop_grammar.specs.Trees.{Token, Tree}
use Rattle.lalrpop_grammar_language.specs.Enabled.{EnabledGrammar}
use Rattle.lalrpop_grammar_language.specs.Admitting.{Admits, AdmitsStart}
use Rattle.lalrpop_grammar_language.specs.Expansion.{GrammarSymbol, Nonterminal, Produces, grammar_symbol}
use Rattle.lalrpop_grammar_language.specs.Derivations.{IsPublic}
use Rattle.lalrpop_grammar_language.specs.Labels.{GrammarSymbols, BaseProductions, Label}
use Rattle.lalrpop_grammar_language.specs.Inlining.{Inlines}
use Rattle.lalrpop_grammar_language.specs.BaseTrees.{BaseTree, IsBaseTreeOf, base_tokens}
use Rattle.lalrpop_grammar_language.specs.ExpandedTrees.{ExpandedTree, IsExpandedTreeOf, expanded_tree, base_tree, expanded_tokens}
use Rattle.lalrpop_grammar_language.specs.Steps.{OneMore, IsByStep, RecordedSymbol, IsRecord, symbols_before}
use Rattle.lalrpop_grammar_language.specs.Steps.{symbols_after, label_with, fill_label, record_inlinings}
use Rattle.lalrpop_grammar_language.specs.WrittenTrees.{tree_written, IsExpandedTreeOfTree}

-- a tree inlined and taken apart is the tree itself
abbrev pub InlinedTreesComeApart : (N : Type 0) → (C : Type 0) → (N → Bool) → Type 0
InlinedTreesComeApart N C test = (d : BaseTree N C) → base_tree (expanded_tree test d) ≡ d

-- a tree of a symbol, inlined, is an expanded tree of the symbol, over the same tokens
abbrev pub InlinedTreesAreExpanded : {N C : Type 0} → BaseProductions N C → (N → Type 0) → (N → Bool) → Type 0
InlinedTreesAreExpanded {N = N} {C = C} M In test =
    (p : GrammarSymbol N) (d : BaseTree N C) → IsBaseTreeOf M p d →
    IsExpandedTreeOf M In p (expanded_tree test d) × (expanded_tokens (expanded_tree test d) ≡ base_tokens d)

-- an expanded tree of a symbol, taken apart, is a tree of the symbol, and that inlined is the expanded tree again
abbrev pub ExpandedTreesComeApart : {N C : Type 0} → BaseProductions N C → (N → Type 0) → (N → Bool) → Type 0
ExpandedTreesComeApart {N = N} {C = C} M In test =
    (p : GrammarSymbol N) (e : ExpandedTree N C) → IsExpandedTreeOf M In p e →
    IsBaseTreeOf M p (base_tree e) × (expanded_tree test (base_tree e) ≡ e)

-- each expanded tree of a symbol stands for a written tree that is admitted for it
abbrev pub ExpandedAreAdmitted : EnabledGrammar → (Nonterminal → Type 0) → Type 0
ExpandedAreAdmitted g In =
    (x : Closed) (e : ExpandedTree Nonterminal Origin) → IsExpandedTreeOf (Produces g) In (grammar_symbol x) e →
    Admits g x (tree_written e) (expanded_tokens e)

-- each admitted written tree has an expanded tree, over the same tokens up to their texts
abbrev pub AdmittedHaveExpanded : EnabledGrammar → (Nonterminal → Type 0) → Type 0
AdmittedHaveExpanded g In =
    (x : Closed) (t : Tree) (tokens : List Token) → Admits g x t tokens →
    (e : ExpandedTree Nonterminal Origin) × IsExpandedTreeOfTree g In (grammar_symbol x) t tokens e

-- no two expanded trees of a symbol stand for one written tree
abbrev pub ExpandedAreUnique : EnabledGrammar → (Nonterminal → Type 0) → Type 0
ExpandedAreUnique g In =
    (x : Closed) (d e : ExpandedTree Nonterminal Origin) → IsExpandedTreeOf (Produces g) In (grammar_symbol x) d →
    IsExpandedTreeOf (Produces g) In (grammar_symbol x) e → tree_written d ≡ tree_written e → d ≡ e

-- the same from a start
abbrev pub ExpandedFromStartsAreAdmitted : EnabledGrammar → (Nonterminal → Type 0) → Type 0
ExpandedFromStartsAreAdmitted g In =
    (start : Text) (e : ExpandedTree Nonterminal Origin) →
    IsExpandedTreeOf (Produces g) In (GrammarSymbol.nonterminal (Nonterminal.start start)) e →
    AdmitsStart g start (tree_written e) (expanded_tokens e)

abbrev pub AdmittedFromStartsHaveExpanded : EnabledGrammar → (Nonterminal → Type 0) → Type 0
AdmittedFromStartsHaveExpanded g In =
    (start : Text) (t : Tree) (tokens : List Token) → IsPublic g start → AdmitsStart g start t tokens →
    (e : ExpandedTree Nonterminal Origin)
    × IsExpandedTreeOfTree g In (GrammarSymbol.nonterminal (Nonterminal.start start)) t tokens e

abbrev pub ExpandedFromStartsAreUnique : EnabledGrammar → (Nonterminal → Type 0) → Type 0
ExpandedFromStartsAreUnique g In =
    (start : Text) (d e : ExpandedTree Nonterminal Origin) →
    IsExpandedTreeOf (Produces g) In (GrammarSymbol.nonterminal (Nonterminal.start start)) d →
    IsExpandedTreeOf (Produces g) In (GrammarSymbol.nonterminal (Nonterminal.start start)) e → tree_written d ≡ tree_written e →
    d ≡ e

-- What the step makes is a production with the nonterminal inlined too. The record is used up.
abbrev pub StepsMakeProductions : {N C : Type 0} → BaseProductions N C → (N → Type 0) → N → Type 0
StepsMakeProductions {N = N} {C = C} M In n =
    (x : N) (label : Label N C) (symbols : List (RecordedSymbol N C)) → Inlines M In x label (symbols_before n symbols) →
    IsRecord M In n symbols → (fill_label label symbols ≡ (label_with label symbols, []))
    × Inlines M (OneMore In n) x (label_with label symbols) (symbols_after symbols)

-- the step makes each production with the nonterminal inlined too
abbrev pub ProductionsAreBySteps : {N C : Type 0} → BaseProductions N C → (N → Type 0) → N → Type 0
ProductionsAreBySteps {N = N} {C = C} M In n =
    (x : N) (label : Label N C) (side : GrammarSymbols N) → Inlines M (OneMore In n) x label side → IsByStep N C M In n x label side

-- No label is made twice: it tells the label before the step and what the record says.
abbrev pub StepsMakeLabelsOnce : {N C : Type 0} → BaseProductions N C → (N → Type 0) → N → Type 0
StepsMakeLabelsOnce {N = N} {C = C} M In n =
    (x : N) (label : Label N C) (side other : GrammarSymbols N) (a : IsByStep N C M In n x label side)
    (b : IsByStep N C M In n x label other) →
    (a.old_label ≡ b.old_label) × (record_inlinings a.symbols ≡ record_inlinings b.symbols)

-- and where each choice has one right side, it tells the record
abbrev pub StepsHaveOneRecord : {N C : Type 0} → BaseProductions N C → (N → Type 0) → N → Type 0
StepsHaveOneRecord {N = N} {C = C} M In n =
    (x : N) (label : Label N C) (side other : GrammarSymbols N) (a : IsByStep N C M In n x label side)
    (b : IsByStep N C M In n x label other) → a.symbols ≡ b.symbols

-- a label has one right side
abbrev pub InlinedLabelsHaveOneSide : {N C : Type 0} → BaseProductions N C → (N → Type 0) → Type 0
InlinedLabelsHaveOneSide {N = N} {C = C} M In =
    (x : N) (label : Label N C) (side other : GrammarSymbols N) → Inlines M In x label side → Inlines M In x label other →
    side ≡ other
