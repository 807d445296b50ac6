-- The law that written trees and derivations are one to one, in parts, for a symbol and for a start.
use Rattle.std.specs.Prelude.{◌≡◌, List}
use Rattle.lalrpop_grammar_symbols.specs.Symbols.{Text, Closed}
use Rattle.lalrpop_grammar.specs.Trees.{Token, Tree, leaves}
use Rattle.lalrpop_grammar_language.specs.Enabled.{EnabledGrammar}
use Rattle.lalrpop_grammar_language.specs.Admitting.{Admits, AdmitsStart}
use Rattle.lalrpop_grammar_language.specs.Expansion.{grammar_symbol, GrammarSymbol, Nonterminal, RightSide}
use Rattle.lalrpop_grammar_language.specs.Expansion.{IsWrittenProduction, WrittenLabel}
use Rattle.lalrpop_grammar_language.specs.Derivations.{Derivation, IsDerivationOf, written_tree, derivation_tokens, IsDerivationOfTree}
use Rattle.lalrpop_grammar_language.specs.Derivations.{IsPublic, with_shown}

-- each derivation of a symbol stands for a written tree that is admitted for it
abbrev pub DerivationsAreAdmitted : EnabledGrammar → Type 0
DerivationsAreAdmitted g =
    (x : Closed) (d : Derivation) → IsDerivationOf g (grammar_symbol x) d → Admits g x (written_tree d) (derivation_tokens d)

-- each admitted written tree has a derivation, over the same tokens up to their texts
abbrev pub AdmittedHaveDerivations : EnabledGrammar → Type 0
AdmittedHaveDerivations g =
    (x : Closed) (t : Tree) (tokens : List Token) → Admits g x t tokens → (d : Derivation)
    × IsDerivationOfTree g (grammar_symbol x) t tokens d

-- no two derivations of a symbol stand for one written tree
abbrev pub DerivationsAreUnique : EnabledGrammar → Type 0
DerivationsAreUnique g =
    (x : Closed) (d e : Derivation) → IsDerivationOf g (grammar_symbol x) d → IsDerivationOf g (grammar_symbol x) e
    → written_tree d ≡ written_tree e → d ≡ e

-- the same from a start; the expansion has one for each public rule that is no macro
abbrev pub DerivationsFromStartsAreAdmitted : EnabledGrammar → Type 0
DerivationsFromStartsAreAdmitted g =
    (start : Text) (d : Derivation) → IsDerivationOf g (GrammarSymbol.nonterminal (Nonterminal.start start)) d
    → AdmitsStart g start (written_tree d) (derivation_tokens d)

abbrev pub AdmittedFromStartsHaveDerivations : EnabledGrammar → Type 0
AdmittedFromStartsHaveDerivations g =
    (start : Text) (t : Tree) (tokens : List Token) → IsPublic g start → AdmitsStart g start t tokens →
    (d : Derivation) × IsDerivationOfTree g (GrammarSymbol.nonterminal (Nonterminal.start start)) t tokens d

abbrev pub DerivationsFromStartsAreUnique : EnabledGrammar → Type 0
DerivationsFromStartsAreUnique g =
    (start : Text) (d e : Derivation) → IsDerivationOf g (GrammarSymbol.nonterminal (Nonterminal.start start)) d
    → IsDerivationOf g (GrammarSymbol.nonterminal (Nonterminal.start start)) e →
    written_tree d ≡ written_tree e → d ≡ e

-- an admitted tree fixes its tokens: they are its leaves
abbrev pub TokensAreLeaves : EnabledGrammar → Type 0
TokensAreLeaves g = (x : Closed) (t : Tree) (tokens : List Token) → Admits g x t tokens → tokens ≡ leaves t

-- a label has one right side
abbrev pub LabelsHaveOneSide : EnabledGrammar → Type 0
LabelsHaveOneSide g =
    (label : WrittenLabel) (side other : RightSide) → IsWrittenProduction g label side → IsWrittenProduction g label other
    → side ≡ other

-- trees that are equal once leaf texts are shown, and have equal leaves, are equal
abbrev pub LeavesFixTrees : Type 0
LeavesFixTrees = (s t : Tree) → with_shown s ≡ with_shown t → leaves s ≡ leaves t → s ≡ t
