-- Written trees and trees over the productions of an expansion are one to one: for the laws on written trees.
use Rattle.std.proofs.Common.{◌≡◌, List, [], ◌∷◌, ◌++◌, refl, ap, sym, ◌∙◌, subst, Bool, Option, arith}
use Rattle.std.proofs.lemmas.List.{map-append}
use Rattle.lalrpop_grammar_symbols.specs.Symbols.{Text, Closed, Closeds}
use Rattle.lalrpop_grammar.specs.WrittenGrammar.{Grammar, Origin}
use Rattle.lalrpop_grammar.specs.Trees.{Token, Tree, leaves}
use Rattle.lalrpop_grammar_language.specs.Enabled.{EnabledGrammar, enabled_grammar}
use Rattle.lalrpop_grammar_language.specs.Levels.{loosest}
use Rattle.lalrpop_grammar_language.specs.Admitting.{AdmitsStart}
use Rattle.lalrpop_grammar_language.specs.Expansion.{GrammarSymbol, Nonterminal, Produces, InExpansion}
use Rattle.lalrpop_grammar_language.specs.Derivations.{IsPublic, leaf_token, shown_token}
use Rattle.lalrpop_grammar_language.proofs.LeafLemmas.{tokens_are}
use Rattle.lalrpop_grammar_language.proofs.PlaceLemmas.{places_told, places_apart}
use Rattle.lalrpop_grammar_language.proofs.ShownLemmas.{shown_and_leaves}
use Rattle.lalrpop_grammar_language.proofs.StartLemmas.{start_admits, start_grown, start_once}
use Rattle.lalrpop_norm_theory.specs.Inlined.{IsInlined}
use Rattle.lalrpop_grammar_language.specs.Inlining.{IsDecidedBy}
use Rattle.lalrpop_grammar_language.specs.ExpandedTrees.{ExpandedTree, ExpandedTrees, IsExpandedTreeOf, expanded_tree}
use Rattle.lalrpop_grammar_language.specs.ExpandedTrees.{expanded_tokens, all_expanded_tokens}
use Rattle.lalrpop_grammar_language.specs.WrittenTrees.{tree_of_derivation, tree_written}
use Rattle.lalrpop_grammar_language.proofs.ExpandedWrittenLemmas.{taken_apart, apart_is, apart_tokens, apart_once, inlined_tree}
use Rattle.lalrpop_lr1_theory.specs.Productions as theory
use Rattle.lalrpop_lr1_theory.specs.Trees.{IsTreeOf, nodes, yield}
use Rattle.lalrpop_lr1_theory.specs.Spans.{SpannedForest, leaf_spans, without_spans}
use Rattle.lalrpop_run_theory.specs.Expansions.{AreExpansion}
use Rattle.lalrpop_run_theory.specs.ExpansionTrees.{IsForestOfTree, tree_by_labels, trees_by_labels, first_expanded}
use Rattle.lalrpop_run_theory.specs.ExpansionTrees.{expanded_size, expanded_sizes, is_inlined_nonterminal}
use Rattle.lalrpop_run_theory.proofs.ForestCountLemmas.{sizes-labelled, spans-labelled, terminals-labelled, token_spans, token_terminals}
use Rattle.lalrpop_run_theory.proofs.ForestLemmas.{forest_is, labelled_is, labelled_once}
use Rattle.lalrpop_run_theory.proofs.InlinedTestLemmas.{inlined_decided}
use Rattle.lalrpop_run_theory.proofs.StartSideLemmas.{start_produces}
use Rattle.lalrpop_run_theory.proofs.TextLemmas.{shown_tokens, start_with_texts}

-- tokens with the same terminals and spans show the same
pub shown_same : (ks js : List Token) → token_terminals ks ≡ token_terminals js → token_spans ks ≡ token_spans js →
    shown_tokens ks ≡ shown_tokens js
shown_same [] [] t s = refl
shown_same [] (j ∷ js) t s = cc
shown_same (k ∷ ks) [] t s = cc
shown_same (k ∷ ks) (j ∷ js) t s =
    let terminals : k.terminal ≡ j.terminal = cc in
    let spans : k.span ≡ j.span = cc in
    let rest : shown_tokens ks ≡ shown_tokens js = shown_same ks js (cc) (cc) in
    ap (λ z. leaf_token z k.span ∷ shown_tokens ks) terminals
    ∙ ap (λ z. leaf_token j.terminal z ∷ shown_tokens ks) spans
    ∙ ap (λ z. shown_token j ∷ z) rest

pub shown_terminals : (ks : List Token) → token_terminals (shown_tokens ks) ≡ token_terminals ks
shown_terminals [] = refl
shown_terminals (k ∷ ks) = ap (λ z. k.terminal ∷ z) (shown_terminals ks)

pub shown_spans : (ks : List Token) → token_spans (shown_tokens ks) ≡ token_spans ks
shown_spans [] = refl
shown_spans (k ∷ ks) = ap (λ z. k.span ∷ z) (shown_spans ks)

mutual
  -- expanded trees hold no texts
  tree_shown : (d : ExpandedTree Nonterminal Origin) → shown_tokens (expanded_tokens d) ≡ expanded_tokens d
  tree_shown (ExpandedTree.leaf t span) = refl
  tree_shown (ExpandedTree.node label kids) = trees_shown kids

  trees_shown : (ds : ExpandedTrees Nonterminal Origin) → shown_tokens (all_expanded_tokens ds) ≡ all_expanded_tokens ds
  trees_shown ExpandedTrees.none = refl
  trees_shown (ExpandedTrees.more d ds) =
      map-append shown_token (expanded_tokens d) (all_expanded_tokens ds)
      ∙ ap (λ z. z ++ shown_tokens (all_expanded_tokens ds)) (tree_shown d)
      ∙ ap (λ z. expanded_tokens d ++ z) (trees_shown ds)

-- the start is public, where the expansion has it
pub start_is_public : (g : EnabledGrammar) (n : Text) → InExpansion g (Nonterminal.start n) → IsPublic g n
start_is_public g n i = let m = (start_produces g n i).1 in (m.0, m.1, m.3)

-- a tree from the start has as many nodes over the productions as over the labels
pub root_size : (g : EnabledGrammar) (prefix : Text) (G : theory.Production → Type 0) (e : AreExpansion g prefix G) (start : Text) →
    InExpansion g (Nonterminal.start start) → (ts : SpannedForest) → IsTreeOf G (prefix ++ start) (without_spans ts) →
    expanded_size (tree_by_labels e.label_of ts) ≡ nodes (without_spans ts)
root_size g prefix G e start i ts h =
    let alone = (labelled_is g (IsInlined g) prefix G e (Nonterminal.start start) ts i
    (subst (λ n. IsTreeOf G n (without_spans ts)) (sym (e.naming.starts start i)) h)).1 in
    let sizes : expanded_sizes (trees_by_labels e.label_of ts)
    ≡ expanded_sizes (ExpandedTrees.more (tree_by_labels e.label_of ts) ExpandedTrees.none) = ap expanded_sizes alone in
    omega (arith, sizes, sizes-labelled e.label_of ts)

module _ (finds : Text → Text → Option Bool) (features : List Text) (w : Grammar) (prefix : Text) (G : theory.Production → Type 0)
    (e : AreExpansion (enabled_grammar finds features w) prefix G) (start : Text)
    (there : InExpansion (enabled_grammar finds features w) (Nonterminal.start start)) where
  abbrev g : EnabledGrammar
  g = enabled_grammar finds features w

  abbrev root : Nonterminal
  root = Nonterminal.start start

  abbrev decides : IsDecidedBy (IsInlined g) (is_inlined_nonterminal g)
  decides = inlined_decided g

  root_tree : (ts : SpannedForest) → IsTreeOf G (prefix ++ start) (without_spans ts) → IsTreeOf G (e.name_of root) (without_spans ts)
  root_tree ts h = subst (λ n. IsTreeOf G n (without_spans ts)) (sym (e.naming.starts start there)) h

  -- a tree from the start over the productions, as one over the labels
  from_root : (ts : SpannedForest) → IsTreeOf G (prefix ++ start) (without_spans ts) →
      IsExpandedTreeOf (Produces g) (IsInlined g) (GrammarSymbol.nonterminal root) (tree_by_labels e.label_of ts)
      × (trees_by_labels e.label_of ts ≡ ExpandedTrees.more (tree_by_labels e.label_of ts) ExpandedTrees.none)
  from_root ts h = labelled_is g (IsInlined g) prefix G e root ts there (root_tree ts h)

  append-none : {A : Type 0} (xs : List A) → xs ++ [] ≡ xs
  append-none [] = refl
  append-none (x ∷ xs) = ap (λ l. x ∷ l) (append-none xs)

  root_tokens : (ts : SpannedForest) → IsTreeOf G (prefix ++ start) (without_spans ts) →
      all_expanded_tokens (trees_by_labels e.label_of ts) ≡ expanded_tokens (tree_by_labels e.label_of ts)
  root_tokens ts h =
      ap all_expanded_tokens (from_root ts h).1 ∙ append-none (expanded_tokens (tree_by_labels e.label_of ts))

  -- an admitted tree has its tree over the productions
  pub forest_of_tree : (t : Tree) (tokens : List Token) → AdmitsStart g start t tokens →
      (ts : SpannedForest) × IsForestOfTree e.label_of G (prefix ++ start) t tokens ts
  forest_of_tree t tokens a =
      let grown = start_grown g start t tokens (start_is_public g start there) a in
      let d = expanded_tree (is_inlined_nonterminal g) (tree_of_derivation grown.0) in
      let s = inlined_tree g (IsInlined g) (is_inlined_nonterminal g) decides (GrammarSymbol.nonterminal root) t tokens grown.0
      grown.1 in
      let f = forest_is g (IsInlined g) prefix G e root d there s.grows in
      let labels : trees_by_labels e.label_of f.0 ≡ ExpandedTrees.more d ExpandedTrees.none = f.2 in
      let one : tree_by_labels e.label_of f.0 ≡ d = ap first_expanded labels in
      let leaves_are : all_expanded_tokens (trees_by_labels e.label_of f.0) ≡ shown_tokens tokens =
      ap all_expanded_tokens labels ∙ append-none (expanded_tokens d) ∙ s.over in (
        f.0,
        record {
          is_tree = subst (λ n. IsTreeOf G n (without_spans f.0)) (e.naming.starts start there) f.1;
          stands = ap tree_written one ∙ s.stands;
          terminals = sym (terminals-labelled e.label_of f.0) ∙ ap token_terminals leaves_are ∙ shown_terminals tokens;
          spans = sym (spans-labelled e.label_of f.0) ∙ ap token_spans leaves_are ∙ shown_spans tokens;
        },
      )

  -- a tree over the productions stands for an admitted tree, over any tokens with its terminals and spans
  pub tree_of_forest : (ts : SpannedForest) (tokens : List Token) → IsTreeOf G (prefix ++ start) (without_spans ts) →
      yield (without_spans ts) ≡ token_terminals tokens → leaf_spans ts ≡ token_spans tokens →
      (t : Tree) × AdmitsStart g start t tokens × IsForestOfTree e.label_of G (prefix ++ start) t tokens ts
  tree_of_forest ts tokens h terminals spans =
      let d = tree_by_labels e.label_of ts in
      let grows = (from_root ts h).0 in
      let tokens_of = expanded_tokens d in
      let shown : tokens_of ≡ shown_tokens tokens =
      sym (root_tokens ts h)
      ∙ sym (trees_shown (trees_by_labels e.label_of ts))
      ∙ shown_same (all_expanded_tokens (trees_by_labels e.label_of ts)) tokens
      (terminals-labelled e.label_of ts ∙ terminals) (spans-labelled e.label_of ts ∙ spans) in
      let apart = taken_apart d in
      let admitted : AdmitsStart g start (tree_written d) (shown_tokens tokens) =
      subst (λ k. AdmitsStart g start (tree_written d) k)
      (apart_tokens g (IsInlined g) (is_inlined_nonterminal g) decides (GrammarSymbol.nonterminal root) d grows ∙ shown)
      (start_admits g (places_told finds features w) start apart
      (apart_is g (IsInlined g) (is_inlined_nonterminal g) decides (GrammarSymbol.nonterminal root) d grows)) in
      let r = start_with_texts g start (tree_written d) tokens admitted in
      (r.0, r.1, record { is_tree = h; stands = sym r.2; terminals = terminals; spans = spans })

  -- a written tree has one tree over the productions
  pub forest_once : (t : Tree) (tokens : List Token) (ts us : SpannedForest) →
      IsForestOfTree e.label_of G (prefix ++ start) t tokens ts → IsForestOfTree e.label_of G (prefix ++ start) t tokens us → ts ≡ us
  forest_once t tokens ts us a b =
      let p = GrammarSymbol.nonterminal root in
      let d = tree_by_labels e.label_of ts in
      let f = tree_by_labels e.label_of us in
      let x = from_root ts a.is_tree in
      let y = from_root us b.is_tree in
      let one : d ≡ f =
      apart_once g (IsInlined g) (is_inlined_nonterminal g) decides p d f x.0 y.0
      (start_once g (places_told finds features w) (places_apart finds features w) start (taken_apart d) (taken_apart f)
      (apart_is g (IsInlined g) (is_inlined_nonterminal g) decides p d x.0)
      (apart_is g (IsInlined g) (is_inlined_nonterminal g) decides p f y.0) (a.stands ∙ sym b.stands)) in
      labelled_once g (IsInlined g) prefix G e ts us a.is_tree.1 b.is_tree.1
      (x.1 ∙ ap (λ z. ExpandedTrees.more z ExpandedTrees.none) one ∙ sym y.1)

  -- trees over the same tokens that have one tree over the productions are one
  pub tree_once : (t u : Tree) (tokens : List Token) (ts : SpannedForest) → AdmitsStart g start t tokens →
      AdmitsStart g start u tokens → IsForestOfTree e.label_of G (prefix ++ start) t tokens ts →
      IsForestOfTree e.label_of G (prefix ++ start) u tokens ts → t ≡ u
  tree_once t u tokens ts at au a b =
      shown_and_leaves t u (sym a.stands ∙ b.stands) (sym (of_start t at) ∙ of_start u au)
    where
      of_start : (v : Tree) → AdmitsStart g start v tokens → tokens ≡ leaves v
      of_start v av = tokens_are g (Closed.call start Closeds.none (loosest av.rule)) v tokens av.admits
