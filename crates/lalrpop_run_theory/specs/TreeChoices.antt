-- The choices that a written tree names, and those of its expanded tree; for the law that they are the same.
use Rattle.std.specs.Prelude.{◌≡◌, ◌++◌, ℕ, Bool, List, [], ◌∷◌, Option}
use Rattle.lalrpop_grammar_symbols.specs.Symbols.{Text, Argument}
use Rattle.lalrpop_grammar.specs.WrittenGrammar.{Grammar, Origin}
use Rattle.lalrpop_grammar.specs.Trees.{Token, Tree, Trees}
use Rattle.lalrpop_grammar_language.specs.Expansion.{Nonterminal}
use Rattle.lalrpop_grammar_language.specs.BaseTrees.{BaseTree, BaseTrees}
use Rattle.lalrpop_grammar_language.specs.ExpandedTrees.{ExpandedTree, base_tree}
use Rattle.lalrpop_run_theory.specs.TextAnswers.{IsExpandedFrom}

-- an alternative of a rule, or of a call with its arguments
pub record WrittenChoice : Type 0 where
  pub rule : Text
  pub args : List Argument
  pub place : ℕ

-- the alternatives that a tree names, from the root on
abbrev mutual
  pub tree_choices : Tree → List WrittenChoice
  tree_choices (Tree.rule n args place ts) = record { rule = n; args = args; place = place } ∷ trees_choices ts
  tree_choices (Tree.list ts) = trees_choices ts
  tree_choices Tree.opt_none = []
  tree_choices (Tree.opt_some t) = tree_choices t
  tree_choices (Tree.group ts) = trees_choices ts
  tree_choices (Tree.terminal k) = []
  tree_choices Tree.look = []

  pub trees_choices : Trees → List WrittenChoice
  trees_choices Trees.none = []
  trees_choices (Trees.more t ts) = tree_choices t ++ trees_choices ts

-- what a choice names: starts, pass-downs, repeats, groups and lookarounds name none
abbrev pub choices_of_origin : Origin → List WrittenChoice
choices_of_origin (Origin.alternative n args place) = record { rule = n; args = args; place = place } ∷ []
choices_of_origin Origin.start = []
choices_of_origin Origin.pass_down = []
choices_of_origin Origin.plus_one = []
choices_of_origin Origin.plus_more = []
choices_of_origin Origin.star_none = []
choices_of_origin Origin.star_some = []
choices_of_origin Origin.opt_none = []
choices_of_origin Origin.opt_some = []
choices_of_origin Origin.group = []
choices_of_origin Origin.look = []

-- the alternatives among the choices of a tree before inlining, from the root on
abbrev mutual
  pub base_choices : BaseTree Nonterminal Origin → List WrittenChoice
  base_choices (BaseTree.node x o kids) = choices_of_origin o ++ all_base_choices kids
  base_choices (BaseTree.leaf t span) = []

  pub all_base_choices : BaseTrees Nonterminal Origin → List WrittenChoice
  all_base_choices BaseTrees.none = []
  all_base_choices (BaseTrees.more d ds) = base_choices d ++ all_base_choices ds

-- the expanded tree of a written tree, taken apart, has just the choices that the tree names
abbrev pub ChoicesAreWritten : Type 0
ChoicesAreWritten =
    (finds : Text → Text → Option Bool) (features : List Text) (w : Grammar) (start : Text) (t : Tree) (tokens : List Token)
    (e : ExpandedTree Nonterminal Origin) → IsExpandedFrom finds features w start t tokens e →
    base_choices (base_tree e) ≡ tree_choices t
