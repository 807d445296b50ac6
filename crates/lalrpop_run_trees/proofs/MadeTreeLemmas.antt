-- A written tree that stands for a whole tree over the productions of an expansion is the admitted tree of its tokens: for the parser.
use Rattle.std.proofs.Common.{◌≡◌, ◌++◌, ℕ, List, [], ◌∷◌, Bool, Option, length, ap, sym, ◌∙◌, subst}
use Rattle.std.specs.Prelude.{Contains, map}
use Rattle.std.proofs.lemmas.List.{append-nil}
use Rattle.lalrpop_grammar_symbols.specs.Symbols.{Text}
use Rattle.lalrpop_grammar.specs.WrittenGrammar.{Grammar}
use Rattle.lalrpop_grammar.specs.Trees.{Token, Tree, leaves}
use Rattle.lalrpop_grammar_language.specs.Admitting.{AdmitsFrom}
use Rattle.lalrpop_grammar_language.specs.Derivations.{with_shown}
use Rattle.lalrpop_grammar_language.specs.Enabled.{enabled_grammar}
use Rattle.lalrpop_grammar_language.specs.Expansion.{InExpansion, Nonterminal}
use Rattle.lalrpop_grammar_language.specs.Levels.{loosest}
use Rattle.lalrpop_grammar_language.proofs.LeafLemmas.{tokens_are}
use Rattle.lalrpop_grammar_language.proofs.ShownLemmas.{shown_and_leaves}
use Rattle.lalrpop_grammar_symbols.specs.Symbols.{Closed, Closeds}
use Rattle.lalrpop_lr1_theory.specs.Productions.{Production}
use Rattle.lalrpop_lr1_theory.specs.Spans.{SpannedForest, leaf_spans, without_spans}
use Rattle.lalrpop_lr1_theory.specs.Trees.{IsTreeOf, yield}
use Rattle.lalrpop_run_theory.specs.Expansions.{AreExpansion}
use Rattle.lalrpop_run_theory.specs.ExpansionTrees.{IsForestOfTree, written_of_forest}
use Rattle.lalrpop_run_theory.specs.Laws.{ForestsAreAdmitted}
use Rattle.lalrpop_run_trees.specs.ActionLabels.{ChoiceLabel}
use Rattle.lalrpop_run_trees.specs.LabelledTrees.{IsPart, StandForTrees}
use Rattle.lalrpop_run_trees.proofs.PartLemmas.{part_is_whole}
use Rattle.lalrpop_run_trees.proofs.ShownTreeLemmas.{shown_leaves}
use Rattle.lalrpop_run_trees.proofs.TakenLemmas.{KeepSymbols, written_is_shown}

-- a tree that shows as another, and has its leaves among that one's, is that one
same_shown : (m t : Tree) (tokens : List Token) → with_shown m ≡ with_shown t → tokens ≡ leaves t →
    IsPart (leaves m) tokens → m ≡ t
same_shown m t tokens shown over part =
    let counted : length (leaves m) ≡ length tokens =
    sym (shown_leaves m) ∙ ap (λ u. length (leaves u)) shown ∙ shown_leaves t ∙ ap length (sym over) in
    shown_and_leaves m t shown (part_is_whole (leaves m) tokens part counted ∙ over)

-- the one written tree that stands for a tree over productions is shown as that
shown_one : (label_of : ℕ → ChoiceLabel) (ts : SpannedForest) (tokens : List Token) (m : Tree) → KeepSymbols label_of ts →
    StandForTrees label_of ts tokens (m ∷ []) → written_of_forest label_of ts ≡ with_shown m
shown_one label_of ts tokens m keeps s = written_is_shown label_of ts (with_shown m) keeps (sym s.shown)

-- the written tree is admitted over the tokens, and the tree over productions is its own
pub made_admitted : ForestsAreAdmitted →
    (finds : Text → Text → Option Bool) (features : List Text) (w : Grammar) (prefix start : Text) (grammar : List Production)
    (e : AreExpansion (enabled_grammar finds features w) prefix (Contains grammar)) →
    InExpansion (enabled_grammar finds features w) (Nonterminal.start start) → (ts : SpannedForest) (tokens : List Token) →
    IsTreeOf (Contains grammar) (prefix ++ start) (without_spans ts) →
    yield (without_spans ts) ≡ map (λ k. k.terminal) tokens → leaf_spans ts ≡ map (λ k. k.span) tokens →
    KeepSymbols e.label_of ts → (m : Tree) → StandForTrees e.label_of ts tokens (m ∷ []) →
    AdmitsFrom finds features w start m tokens × IsForestOfTree e.label_of (Contains grammar) (prefix ++ start) m tokens ts
made_admitted law finds features w prefix start grammar e known ts tokens is_tree terminals spans keeps m s =
    let a = law finds features w prefix start grammar e known ts tokens is_tree terminals spans in
    let shown : with_shown m ≡ with_shown a.0 = sym (shown_one e.label_of ts tokens m keeps s) ∙ a.2.stands in
    let over : tokens ≡ leaves a.0 =
    tokens_are (enabled_grammar finds features w) (Closed.call start Closeds.none (loosest a.1.rule)) a.0 tokens a.1.admits in
    let part : IsPart (leaves m) tokens = subst (λ l. IsPart l tokens) (append-nil (leaves m)) s.are_tokens in
    let same : a.0 ≡ m = sym (same_shown m a.0 tokens shown over part) in
    subst (λ t. AdmitsFrom finds features w start t tokens
    × IsForestOfTree e.label_of (Contains grammar) (prefix ++ start) t tokens ts) same (a.1, a.2)
