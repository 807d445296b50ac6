-- What the laws say of the productions of an expansion, over lists of productions.
use Rattle.std.specs.Prelude.{◌≡◌, ◌↔◌, ◌⊎◌, ◌++◌, Bool, List, Option, Contains, map}
use Rattle.std.specs.Cmp.Lexicographic.{slice_cmp}
use Rattle.std.specs.Ordering.{nat_cmp}
use Rattle.std.specs.declared.cmp.Ordering.TheVariants.{Less}
use Rattle.lalrpop_grammar_symbols.specs.Symbols.{Text, Terminal}
use Rattle.lalrpop_grammar.specs.WrittenGrammar.{Grammar}
use Rattle.lalrpop_grammar.specs.Trees.{Token, Tree}
use Rattle.lalrpop_grammar_language.specs.Enabled.{EnabledGrammar, enabled_grammar}
use Rattle.lalrpop_grammar_language.specs.Admitting.{AdmitsFrom}
use Rattle.lalrpop_grammar_language.specs.Expansion.{Nonterminal, InExpansion}
use Rattle.lalrpop_grammar_language.specs.Sentences.{IsSentence, Begins}
use Rattle.lalrpop_lr1_theory.specs.Productions.{Production}
use Rattle.lalrpop_lr1_theory.specs.Answers.{IsYieldOf, BeginsYieldOf}
use Rattle.lalrpop_lr1_theory.specs.CheckedStates.{AreCheckedStates, IsStartAlone}
use Rattle.lalrpop_lr1_theory.specs.Spans.{SpannedForest, leaf_spans, without_spans}
use Rattle.lalrpop_lr1_theory.specs.States.{State}
use Rattle.lalrpop_lr1_theory.specs.Trees.{IsTreeOf, nodes, yield}
use Rattle.lalrpop_lr1_theory.specs.ValidItems.{IsBarren, NoneBarren}
use Rattle.lalrpop_run_theory.specs.Expansions.{AreExpansion, AreBaseExpansion}
use Rattle.lalrpop_run_theory.specs.ExpansionTrees.{IsForestOfTree, expanded_size, tree_by_labels}
use Rattle.lalrpop_run_theory.specs.Barren.{IsBarrenFrom, IsLeastBarrenUnder, HasNoBarren}

-- a start of the expansion stands on no right side
abbrev pub StartsStandAlone : Type 0
StartsStandAlone =
    (g : EnabledGrammar) (prefix start : Text) (grammar : List Production) → AreExpansion g prefix (Contains grammar) →
    InExpansion g (Nonterminal.start start) → IsStartAlone grammar (prefix ++ start)

-- where the written start reaches nothing barren before inlining, the expansion's start reaches nothing barren after it
abbrev pub NoneBarrenAfterInlining : Type 0
NoneBarrenAfterInlining =
    (g : EnabledGrammar) (prefix start : Text) (grammar : List Production) → AreExpansion g prefix (Contains grammar) →
    InExpansion g (Nonterminal.start start) → HasNoBarren g start → NoneBarren (Contains grammar) (prefix ++ start)

-- before inlining, the names that the written start's name reaches and that are barren are those of barren nonterminals
abbrev pub BarrenNamesAreBarren : Type 0
BarrenNamesAreBarren =
    (g : EnabledGrammar) (prefix start : Text) (grammar : List Production) (e : AreBaseExpansion g prefix (Contains grammar)) →
    InExpansion g (Nonterminal.start start) → (n : Text) →
    IsBarren (Contains grammar) start n ↔ ((x : Nonterminal) × IsBarrenFrom g start x × (e.name_of x ≡ n))

-- and the least of them is the one that is told
abbrev pub LeastBarrenNamesAreTold : Type 0
LeastBarrenNamesAreTold =
    (g : EnabledGrammar) (prefix start : Text) (grammar : List Production) (e : AreBaseExpansion g prefix (Contains grammar)) →
    InExpansion g (Nonterminal.start start) → (n : Text) → IsBarren (Contains grammar) start n →
    ((m : Text) → IsBarren (Contains grammar) start m → (m ≡ n) ⊎ (slice_cmp nat_cmp n m ≡ Less)) →
    IsLeastBarrenUnder g e.name_of start n

-- and where none is barren, no nonterminal is
abbrev pub NoBarrenNameIsNone : Type 0
NoBarrenNameIsNone =
    (g : EnabledGrammar) (prefix start : Text) (grammar : List Production) → AreBaseExpansion g prefix (Contains grammar) →
    InExpansion g (Nonterminal.start start) → NoneBarren (Contains grammar) start → HasNoBarren g start

-- each admitted tree has an expanded tree over the productions
abbrev pub AdmittedHaveForests : Type 0
AdmittedHaveForests =
    (finds : Text → Text → Option Bool) (features : List Text) (w : Grammar) (prefix start : Text) (grammar : List Production)
    (e : AreExpansion (enabled_grammar finds features w) prefix (Contains grammar)) →
    InExpansion (enabled_grammar finds features w) (Nonterminal.start start) → (t : Tree) (tokens : List Token) →
    AdmitsFrom finds features w start t tokens →
    (ts : SpannedForest) × IsForestOfTree e.label_of (Contains grammar) (prefix ++ start) t tokens ts

-- each tree over the productions stands for an admitted tree, over any tokens with its terminals and spans
abbrev pub ForestsAreAdmitted : Type 0
ForestsAreAdmitted =
    (finds : Text → Text → Option Bool) (features : List Text) (w : Grammar) (prefix start : Text) (grammar : List Production)
    (e : AreExpansion (enabled_grammar finds features w) prefix (Contains grammar)) →
    InExpansion (enabled_grammar finds features w) (Nonterminal.start start) → (ts : SpannedForest) (tokens : List Token) →
    IsTreeOf (Contains grammar) (prefix ++ start) (without_spans ts) →
    yield (without_spans ts) ≡ map (λ k. k.terminal) tokens → leaf_spans ts ≡ map (λ k. k.span) tokens →
    (t : Tree) × AdmitsFrom finds features w start t tokens
    × IsForestOfTree e.label_of (Contains grammar) (prefix ++ start) t tokens ts

-- a written tree has one expanded tree over the productions
abbrev pub ForestsAreOne : Type 0
ForestsAreOne =
    (finds : Text → Text → Option Bool) (features : List Text) (w : Grammar) (prefix start : Text) (grammar : List Production)
    (e : AreExpansion (enabled_grammar finds features w) prefix (Contains grammar)) →
    InExpansion (enabled_grammar finds features w) (Nonterminal.start start) → (t : Tree) (tokens : List Token)
    (ts us : SpannedForest) →
    IsForestOfTree e.label_of (Contains grammar) (prefix ++ start) t tokens ts →
    IsForestOfTree e.label_of (Contains grammar) (prefix ++ start) t tokens us → ts ≡ us

-- and an expanded tree is one admitted tree's, over the same tokens
abbrev pub TreesAreOne : Type 0
TreesAreOne =
    (finds : Text → Text → Option Bool) (features : List Text) (w : Grammar) (prefix start : Text) (grammar : List Production)
    (e : AreExpansion (enabled_grammar finds features w) prefix (Contains grammar)) →
    InExpansion (enabled_grammar finds features w) (Nonterminal.start start) → (t u : Tree) (tokens : List Token)
    (ts : SpannedForest) →
    AdmitsFrom finds features w start t tokens → AdmitsFrom finds features w start u tokens →
    IsForestOfTree e.label_of (Contains grammar) (prefix ++ start) t tokens ts →
    IsForestOfTree e.label_of (Contains grammar) (prefix ++ start) u tokens ts → t ≡ u

-- it has as many nodes over the productions as over labels
abbrev pub ForestsHaveSizes : Type 0
ForestsHaveSizes =
    (g : EnabledGrammar) (prefix start : Text) (grammar : List Production) (e : AreExpansion g prefix (Contains grammar)) →
    InExpansion g (Nonterminal.start start) → (ts : SpannedForest) →
    IsTreeOf (Contains grammar) (prefix ++ start) (without_spans ts) →
    expanded_size (tree_by_labels e.label_of ts) ≡ nodes (without_spans ts)

-- tokens are a sentence exactly where their terminals are the leaves of a tree from the start
abbrev pub SentencesAreYields : Type 0
SentencesAreYields =
    (finds : Text → Text → Option Bool) (features : List Text) (w : Grammar) (prefix start : Text) (grammar : List Production) →
    AreExpansion (enabled_grammar finds features w) prefix (Contains grammar) →
    InExpansion (enabled_grammar finds features w) (Nonterminal.start start) → (tokens : List Token) →
    IsSentence finds features w start tokens ↔ IsYieldOf (Contains grammar) (prefix ++ start) (map (λ k. k.terminal) tokens)

-- and the same of what begins one
abbrev pub BeginningsAreYields : Type 0
BeginningsAreYields =
    (finds : Text → Text → Option Bool) (features : List Text) (w : Grammar) (prefix start : Text) (grammar : List Production) →
    AreExpansion (enabled_grammar finds features w) prefix (Contains grammar) →
    InExpansion (enabled_grammar finds features w) (Nonterminal.start start) → (u : List Terminal) →
    Begins finds features w start u ↔ BeginsYieldOf (Contains grammar) (prefix ++ start) u

-- where states may be parsed with, no tokens have two written trees
abbrev pub OneWrittenTree : Type 0
OneWrittenTree =
    (finds : Text → Text → Option Bool) (features : List Text) (w : Grammar) (prefix start : Text) (grammar : List Production)
    (states : List State) → AreExpansion (enabled_grammar finds features w) prefix (Contains grammar) →
    InExpansion (enabled_grammar finds features w) (Nonterminal.start start) → AreCheckedStates grammar (prefix ++ start) states →
    (t u : Tree) (tokens : List Token) → AdmitsFrom finds features w start t tokens → AdmitsFrom finds features w start u tokens →
    t ≡ u
