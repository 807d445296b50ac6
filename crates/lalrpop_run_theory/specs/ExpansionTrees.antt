-- Trees over the productions of an expansion, and the written trees that they stand for.
use Rattle.std.specs.Prelude.{ℕ, suc, ◌+◌, ◌≡◌, Bool, true, false, List, [], ◌∷◌, map}
use Rattle.lalrpop_grammar_symbols.specs.Symbols.{Text, Terminal, Closed, Op}
use Rattle.lalrpop_grammar.specs.WrittenGrammar.{Origin}
use Rattle.lalrpop_grammar.specs.Trees.{Token, Tree}
use Rattle.lalrpop_grammar_language.specs.Enabled.{EnabledGrammar, EnabledRule, rules_named}
use Rattle.lalrpop_grammar_language.specs.Expansion.{Nonterminal}
use Rattle.lalrpop_grammar_language.specs.Derivations.{with_shown}
use Rattle.lalrpop_grammar_language.specs.Labels.{Label}
use Rattle.lalrpop_grammar_language.specs.ExpandedTrees.{ExpandedTree, ExpandedTrees}
use Rattle.lalrpop_grammar_language.specs.WrittenTrees.{tree_written}
use Rattle.lalrpop_lr1_theory.specs.Productions as theory
use Rattle.lalrpop_lr1_theory.specs.Trees.{IsTreeOf, yield}
use Rattle.lalrpop_lr1_theory.specs.Spans.{SpannedForest, none_at, leaf_at, node_at, leaf_spans, without_spans}

-- trees over productions as trees over labels: each production's label is that of its action
abbrev pub trees_by_labels : (ℕ → Label Nonterminal Origin) → SpannedForest → ExpandedTrees Nonterminal Origin
trees_by_labels label_of none_at = ExpandedTrees.none
trees_by_labels label_of (leaf_at t span ts) = ExpandedTrees.more (ExpandedTree.leaf t span) (trees_by_labels label_of ts)
trees_by_labels label_of (node_at p cs ts) =
    ExpandedTrees.more (ExpandedTree.node (label_of p.action) (trees_by_labels label_of cs)) (trees_by_labels label_of ts)

-- how many leaves and inner nodes trees over labels have
abbrev mutual
  pub expanded_size : {N C : Type 0} → ExpandedTree N C → ℕ
  expanded_size (ExpandedTree.node label kids) = suc (expanded_sizes kids)
  expanded_size (ExpandedTree.leaf t span) = 1

  pub expanded_sizes : {N C : Type 0} → ExpandedTrees N C → ℕ
  expanded_sizes ExpandedTrees.none = 0
  expanded_sizes (ExpandedTrees.more d ds) = expanded_size d + expanded_sizes ds

-- the first of some trees; where there is none, a tree that stands for nothing
abbrev pub first_expanded : ExpandedTrees Nonterminal Origin → ExpandedTree Nonterminal Origin
first_expanded ExpandedTrees.none = ExpandedTree.leaf Terminal.error (0, 0)
first_expanded (ExpandedTrees.more d ds) = d

-- the tree over labels that one tree over productions is, and the written tree that it stands for
abbrev pub tree_by_labels : (ℕ → Label Nonterminal Origin) → SpannedForest → ExpandedTree Nonterminal Origin
tree_by_labels label_of ts = first_expanded (trees_by_labels label_of ts)

abbrev pub written_of_forest : (ℕ → Label Nonterminal Origin) → SpannedForest → Tree
written_of_forest label_of ts = tree_written (first_expanded (trees_by_labels label_of ts))

-- The test whether a nonterminal of an expansion is inlined.
abbrev pub is_marked_rule : List EnabledRule → Bool
is_marked_rule [] = false
is_marked_rule (r ∷ []) = r.inlined
is_marked_rule (r ∷ s ∷ rs) = false

abbrev pub is_inlined_nonterminal : EnabledGrammar → Nonterminal → Bool
is_inlined_nonterminal g (Nonterminal.start n) = false
is_inlined_nonterminal g (Nonterminal.closed (Closed.call n args level)) = is_marked_rule (rules_named g n)
is_inlined_nonterminal g (Nonterminal.closed (Closed.repeat Op.plus x)) = false
is_inlined_nonterminal g (Nonterminal.closed (Closed.repeat Op.star x)) = true
is_inlined_nonterminal g (Nonterminal.closed (Closed.repeat Op.question x)) = true
is_inlined_nonterminal g (Nonterminal.closed (Closed.group xs)) = true
is_inlined_nonterminal g (Nonterminal.closed (Closed.terminal t)) = false
is_inlined_nonterminal g (Nonterminal.closed (Closed.choose x)) = false
is_inlined_nonterminal g (Nonterminal.closed (Closed.name m n x)) = false
is_inlined_nonterminal g (Nonterminal.closed Closed.lookahead) = true
is_inlined_nonterminal g (Nonterminal.closed Closed.lookbehind) = true
is_inlined_nonterminal g (Nonterminal.closed Closed.faulty) = false

-- The expanded tree of a written tree over some tokens, by productions whose actions have these labels: it is one from the start,
-- stands for the tree, leaf texts aside, and has the tokens' terminals and spans at its leaves.
pub record IsForestOfTree (label_of : ℕ → Label Nonterminal Origin) (G : theory.Production → Type 0) (start : Text) (t : Tree)
    (tokens : List Token) (ts : SpannedForest) : Type 0 where
  pub is_tree : IsTreeOf G start (without_spans ts)
  pub stands : written_of_forest label_of ts ≡ with_shown t
  pub terminals : yield (without_spans ts) ≡ map (λ k. k.terminal) tokens
  pub spans : leaf_spans ts ≡ map (λ k. k.span) tokens
