-- Expanded trees of written trees, over labels and over the productions of an expansion: for the law on right answers.
use Rattle.std.proofs.Common.{◌≡◌, ◌∙◌, ◌++◌, List, [], ◌∷◌, ap, refl, subst, sym, suc, length}
use Rattle.std.proofs.lemmas.List.{map-append}
use Rattle.lalrpop_grammar_symbols.specs.Symbols.{Text}
use Rattle.lalrpop_grammar.specs.WrittenGrammar.{Origin}
use Rattle.lalrpop_grammar.specs.Trees.{Token, Tree}
use Rattle.lalrpop_grammar_language.specs.Enabled.{EnabledGrammar}
use Rattle.lalrpop_grammar_language.specs.Expansion.{GrammarSymbol, Nonterminal, Produces, InExpansion}
use Rattle.lalrpop_grammar_language.specs.Derivations.{shown_token}
use Rattle.lalrpop_norm_theory.specs.Inlined.{IsInlined}
use Rattle.lalrpop_grammar_language.specs.ExpandedTrees.{ExpandedTree, ExpandedTrees, IsExpandedTreeOf, all_expanded_tokens, expanded_tokens}
use Rattle.lalrpop_grammar_language.specs.WrittenTrees.{IsExpandedTreeOfTree, tree_written}
use Rattle.lalrpop_lr1_theory.specs.Productions as theory
use Rattle.lalrpop_lr1_theory.specs.Spans.{SpannedForest, without_spans}
use Rattle.lalrpop_lr1_theory.specs.Trees.{IsTreeOf}
use Rattle.lalrpop_run_theory.specs.Expansions.{AreExpansion}
use Rattle.lalrpop_run_theory.specs.ExpansionTrees.{IsForestOfTree, first_expanded, tree_by_labels, trees_by_labels}
use Rattle.lalrpop_run_theory.proofs.ForestCountLemmas.{spans-labelled, terminals-labelled, token_spans, token_terminals}
use Rattle.lalrpop_run_theory.proofs.ForestLemmas.{forest_is, labelled_is}
use Rattle.lalrpop_run_theory.proofs.TextLemmas.{shown_tokens}
use Rattle.lalrpop_run_theory.proofs.WrittenForestLemmas.{shown_same, shown_terminals, shown_spans}
use Rattle.lalrpop_grammar_language.proofs.StepOnceLemmas.{append-none}

-- there are as many spans as terminals
pub as_many : (tokens : List Token) → length (token_spans tokens) ≡ length (token_terminals tokens)
as_many [] = refl
as_many (k ∷ tokens) = ap suc (as_many tokens)

mutual
  tree_shown : (d : ExpandedTree Nonterminal Origin) → shown_tokens (expanded_tokens d) ≡ expanded_tokens d
  tree_shown (ExpandedTree.leaf t span) = refl
  tree_shown (ExpandedTree.node label kids) = trees_shown kids

  trees_shown : (ds : ExpandedTrees Nonterminal Origin) → shown_tokens (all_expanded_tokens ds) ≡ all_expanded_tokens ds
  trees_shown ExpandedTrees.none = refl
  trees_shown (ExpandedTrees.more d ds) =
      map-append shown_token (expanded_tokens d) (all_expanded_tokens ds)
      ∙ ap (λ z. z ++ shown_tokens (all_expanded_tokens ds)) (tree_shown d)
      ∙ ap (λ z. expanded_tokens d ++ z) (trees_shown ds)

module _ (g : EnabledGrammar) (prefix : Text) (G : theory.Production → Type 0) (e : AreExpansion g prefix G) (start : Text)
    (there : InExpansion g (Nonterminal.start start)) where
  abbrev root : Nonterminal
  root = Nonterminal.start start

  from_root : (ts : SpannedForest) → IsTreeOf G (prefix ++ start) (without_spans ts) →
      IsExpandedTreeOf (Produces g) (IsInlined g) (GrammarSymbol.nonterminal root) (tree_by_labels e.label_of ts)
      × (trees_by_labels e.label_of ts ≡ ExpandedTrees.more (tree_by_labels e.label_of ts) ExpandedTrees.none)
  from_root ts h =
      labelled_is g (IsInlined g) prefix G e root ts there
      (subst (λ n. IsTreeOf G n (without_spans ts)) (sym (e.naming.starts start there)) h)

  -- a tree over the productions that stands for a written tree is its expanded tree over labels
  pub forest_expanded : (t : Tree) (tokens : List Token) (ts : SpannedForest) →
      IsForestOfTree e.label_of G (prefix ++ start) t tokens ts →
      IsExpandedTreeOfTree g (IsInlined g) (GrammarSymbol.nonterminal (Nonterminal.start start)) t tokens (tree_by_labels e.label_of ts)
  forest_expanded t tokens ts h =
      let r = from_root ts h.is_tree in
      let d = tree_by_labels e.label_of ts in
      let all = all_expanded_tokens (trees_by_labels e.label_of ts) in
      record {
        grows = r.0;
        stands = h.stands;
        over =
            sym (ap all_expanded_tokens r.1 ∙ append-none (expanded_tokens d))
            ∙ sym (trees_shown (trees_by_labels e.label_of ts))
            ∙ shown_same all tokens (terminals-labelled e.label_of ts ∙ h.terminals) (spans-labelled e.label_of ts ∙ h.spans);
      }

  -- an expanded tree of a written tree is one over the productions
  pub expanded_forest : (t : Tree) (tokens : List Token) (d : ExpandedTree Nonterminal Origin) →
      IsExpandedTreeOfTree g (IsInlined g) (GrammarSymbol.nonterminal (Nonterminal.start start)) t tokens d →
      (ts : SpannedForest) × IsForestOfTree e.label_of G (prefix ++ start) t tokens ts × (tree_by_labels e.label_of ts ≡ d)
  expanded_forest t tokens d h =
      let f = forest_is g (IsInlined g) prefix G e root d there h.grows in
      let labels : trees_by_labels e.label_of f.0 ≡ ExpandedTrees.more d ExpandedTrees.none = f.2 in
      let one : tree_by_labels e.label_of f.0 ≡ d = ap first_expanded labels in
      let leaves_are : all_expanded_tokens (trees_by_labels e.label_of f.0) ≡ shown_tokens tokens =
      ap all_expanded_tokens labels ∙ append-none (expanded_tokens d) ∙ h.over in (
        f.0,
        record {
          is_tree = subst (λ n. IsTreeOf G n (without_spans f.0)) (e.naming.starts start there) f.1;
          stands = ap tree_written one ∙ h.stands;
          terminals = sym (terminals-labelled e.label_of f.0) ∙ ap token_terminals leaves_are ∙ shown_terminals tokens;
          spans = sym (spans-labelled e.label_of f.0) ∙ ap token_spans leaves_are ∙ shown_spans tokens;
        },
        one,
      )
