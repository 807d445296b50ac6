use Rattle.lalrpop_grammar.specs.Views.{token_view}
use Rattle.lalrpop_run_parser.proofs.WrittenStackLemmas.{leaf_on}
use Rattle.lalrpop_run_parser.proofs.written_stack.WrittenTreesTreeStack.leaf.Goals as goal

pub returns-clause-leaf_stands : goal.returns-clause-leaf_stands
returns-clause-leaf_stands c = λ ts ks stands.
    leaf_on c.args.self.now.actions.now c.args.self.now.origins.now ts ks c.args.self.now.trees.items c.push.new.self.items
    c.in_ok-tree.tree (token_view c.args.token.now) stands c.in_ok-tree.ensures c.in_ok-push.ensures.items
