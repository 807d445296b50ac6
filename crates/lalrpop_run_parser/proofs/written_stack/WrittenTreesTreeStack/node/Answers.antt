use Rattle.std.proofs.Common.{◌-◌, arith, map}
use Rattle.std.proofs.lemmas.List.{length-map}
use Rattle.lalrpop_grammar.specs.Views.{tree_view}
use Rattle.lalrpop_lr1_core.specs.Views.{production_symbol_view, production_view}
use Rattle.lalrpop_run_parser.proofs.WrittenStackLemmas.{node_fits, node_on}
use Rattle.lalrpop_run_parser.proofs.written_stack.WrittenTreesTreeStack.node.Goals as goal

pub overflow_sub-first : goal.overflow_sub-first
overflow_sub-first c =
    let items = c.args.self.now.trees.items in
    omega (
      arith,
      node_fits c.args.self.now.actions.now c.args.self.now.origins.now c.requires.kept c.requires.children c.requires.tokens
          (map tree_view items) (production_view c.args.production.now) c.requires.stands c.requires.roots_are,
      length-map items tree_view,
      length-map c.args.production.now.symbols production_symbol_view,
      c.len.ensures,
      c.len-2.ensures,
    )

pub returns-clause-node_stands : goal.returns-clause-node_stands
returns-clause-node_stands c = λ kept children ks stands right.
    node_on c.args.self.now.actions.now c.args.self.now.origins.now kept children ks c.args.self.now.trees.items
    c.split_off.new.self.items c.in_ok-children.children.items c.push.new.self.items c.in_ok-tree.tree
    (production_view c.args.production.now) (c.len.result - c.len-2.result) stands right
    (omega (arith, c.len.ensures, c.len-2.ensures, length-map c.args.production.now.symbols production_symbol_view))
    c.in_ok-children.ensures.items c.in_ok-children.ensures.tail
    c.in_ok-push.ensures.items c.in_ok-tree.ensures
