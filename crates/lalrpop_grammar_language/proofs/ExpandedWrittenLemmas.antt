-- Written trees and expanded trees after inlining are one to one: the law on derivations and that on inlined trees in one.
use Rattle.std.proofs.Common.{◌≡◌, Bool, List, ap, sym, ◌∙◌}
use Rattle.lalrpop_grammar.specs.WrittenGrammar.{Origin}
use Rattle.lalrpop_grammar.specs.Trees.{Token, Tree}
use Rattle.lalrpop_grammar_language.specs.Enabled.{EnabledGrammar}
use Rattle.lalrpop_grammar_language.specs.Expansion.{GrammarSymbol, Nonterminal, Produces}
use Rattle.lalrpop_grammar_language.specs.Derivations.{Derivation, IsDerivationOf, written_tree, derivation_tokens, IsDerivationOfTree}
use Rattle.lalrpop_grammar_language.specs.Inlining.{IsDecidedBy}
use Rattle.lalrpop_grammar_language.specs.BaseTrees.{base_tokens}
use Rattle.lalrpop_grammar_language.specs.ExpandedTrees.{ExpandedTree, IsExpandedTreeOf, expanded_tree, base_tree, expanded_tokens}
use Rattle.lalrpop_grammar_language.specs.WrittenTrees.{tree_of_derivation, derivation_of_tree, IsExpandedTreeOfTree}
use Rattle.lalrpop_grammar_language.proofs.TreeLemmas.{base_tree-expanded, expanded_is}
use Rattle.lalrpop_grammar_language.proofs.TakeLemmas.{comes_back}
use Rattle.lalrpop_grammar_language.proofs.TokenLemmas.{tokens-expanded}
use Rattle.lalrpop_grammar_language.proofs.WrittenLemmas.{tree_of-derivation_of, derivation_of-tree_of, derivation_is_tree}
use Rattle.lalrpop_grammar_language.proofs.WrittenLemmas.{tree_is_derivation, tokens-tree_of}

-- the derivation of an expanded tree
abbrev pub taken_apart : ExpandedTree Nonterminal Origin → Derivation
taken_apart e = derivation_of_tree (base_tree e)

-- is one of the same symbol
pub apart_is : (g : EnabledGrammar) (In : Nonterminal → Type 0) (f : Nonterminal → Bool) → IsDecidedBy In f →
    (p : GrammarSymbol Nonterminal) (e : ExpandedTree Nonterminal Origin) → IsExpandedTreeOf (Produces g) In p e →
    IsDerivationOf g p (taken_apart e)
apart_is g In f decides p e h = tree_is_derivation g p (base_tree e) (comes_back (Produces g) In f decides e p h).0

-- and has the same tokens
pub apart_tokens : (g : EnabledGrammar) (In : Nonterminal → Type 0) (f : Nonterminal → Bool) → IsDecidedBy In f →
    (p : GrammarSymbol Nonterminal) (e : ExpandedTree Nonterminal Origin) → IsExpandedTreeOf (Produces g) In p e →
    derivation_tokens (taken_apart e) ≡ expanded_tokens e
apart_tokens g In f decides p e h =
    sym (tokens-tree_of (taken_apart e)) ∙ ap base_tokens (tree_of-derivation_of (base_tree e))
    ∙ sym (tokens-expanded f (base_tree e)) ∙ ap expanded_tokens (comes_back (Produces g) In f decides e p h).1

-- two expanded trees of one derivation are one
pub apart_once : (g : EnabledGrammar) (In : Nonterminal → Type 0) (f : Nonterminal → Bool) → IsDecidedBy In f →
    (p : GrammarSymbol Nonterminal) (d e : ExpandedTree Nonterminal Origin) → IsExpandedTreeOf (Produces g) In p d →
    IsExpandedTreeOf (Produces g) In p e → taken_apart d ≡ taken_apart e → d ≡ e
apart_once g In f decides p d e h k same =
    let trees : base_tree d ≡ base_tree e =
    sym (tree_of-derivation_of (base_tree d)) ∙ ap tree_of_derivation same ∙ tree_of-derivation_of (base_tree e) in
    sym (comes_back (Produces g) In f decides d p h).1 ∙ ap (expanded_tree f) trees ∙ (comes_back (Produces g) In f decides e p k).1

-- a derivation of a written tree, inlined, is the expanded tree of it
pub inlined_tree : (g : EnabledGrammar) (In : Nonterminal → Type 0) (f : Nonterminal → Bool) → IsDecidedBy In f →
    (p : GrammarSymbol Nonterminal) (t : Tree) (tokens : List Token) (d : Derivation) → IsDerivationOfTree g p t tokens d →
    IsExpandedTreeOfTree g In p t tokens (expanded_tree f (tree_of_derivation d))
inlined_tree g In f decides p t tokens d h = record {
  grows = expanded_is (Produces g) In f decides p (tree_of_derivation d) (derivation_is_tree g p d h.grows);
  stands =
      ap (λ z. written_tree (derivation_of_tree z)) (base_tree-expanded f (tree_of_derivation d))
      ∙ ap written_tree (derivation_of-tree_of d) ∙ h.stands;
  over = tokens-expanded f (tree_of_derivation d) ∙ tokens-tree_of d ∙ h.over;
}
