use Rattle.std.proofs.Common.{◌∙◌, ap}
use Rattle.lalrpop_grammar_symbols.specs.Views.{span_view, terminal_view}
use Rattle.lalrpop_lr1_theory.specs.Spans.{leaf_at, none_at}
use Rattle.lalrpop_lr1_interpret.specs.NamedTrees.{named_leaf, no_trees}
use Rattle.lalrpop_lr1_interpret.specs.declared.parse_trees.parse_tree.ParseTree.TheVariants.{Terminal}
use Rattle.lalrpop_lr1_interpret.proofs.NamedStackLemmas.{named_leaf_on}
use Rattle.lalrpop_lr1_interpret.proofs.NamedLemmas.{terminal_seen}
use Rattle.lalrpop_lr1_interpret.proofs.parse_tree_stack.ParseTreesTreeStack.leaf.Goals as goal

pub returns-clause-leaf_stands : goal.returns-clause-leaf_stands
returns-clause-leaf_stands c = λ ts ks e.
    named_leaf_on c.args.self.now.trees.items c.push.new.self.items (Terminal c.in_ok-terminal.terminal) ts
    (leaf_at (terminal_view c.args.token.now.terminal) (span_view c.args.token.now.span) none_at) e
    (terminal_seen c.in_ok-terminal.terminal ∙ ap (λ t. named_leaf (terminal_view t) no_trees) c.in_ok-terminal.ensures)
    c.in_ok-push.ensures.items
