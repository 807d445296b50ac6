-- What is left of a walk over a tree's leaves.
use Rattle.std.specs.Prelude.{List}
use Rattle.lalrpop_grammar.specs.declared.leaves.Leaves.{Leaves}
use Rattle.lalrpop_grammar.specs.Trees.{Token}
use Rattle.lalrpop_grammar.specs.Walks.{to_come}
use Rattle.lalrpop_grammar.specs.WalkViews.{lists_view}

-- the tokens that are still to come, in order
abbrev pub tokens_left : Leaves → List Token
tokens_left it = to_come (lists_view it.pending.items)
