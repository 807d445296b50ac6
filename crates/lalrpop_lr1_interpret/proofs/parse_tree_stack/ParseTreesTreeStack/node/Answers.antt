use Rattle.std.proofs.Common.{◌-◌, ◌∙◌, ap, arith}
use Rattle.lalrpop_lr1_interpret.specs.NamedTrees.{named_node, no_trees, parse_tree_views}
use Rattle.lalrpop_lr1_interpret.specs.declared.parse_trees.parse_tree.ParseTree.TheVariants.{Nonterminal}
use Rattle.lalrpop_lr1_interpret.proofs.NamedStackLemmas.{enough_named, named_node_on}
use Rattle.lalrpop_lr1_interpret.proofs.NamedLemmas.{nonterminal_seen}
use Rattle.lalrpop_lr1_interpret.proofs.parse_tree_stack.ParseTreesTreeStack.node.Goals as goal

pub overflow_sub-first : goal.overflow_sub-first
overflow_sub-first c =
    omega (
      arith,
      enough_named c.args.self.now.trees.items c.requires.kept c.requires.children c.args.production.now.symbols c.requires.stands
          c.requires.roots_are,
      c.len.ensures,
      c.len-2.ensures,
    )

pub returns-clause-node_stands : goal.returns-clause-node_stands
returns-clause-node_stands c = λ kept children ks e r.
    named_node_on c.args.self.now.trees.items c.split_off.new.self.items c.in_ok-children.children.items c.push.new.self.items
    (c.len.result - c.len-2.result) c.args.production.now (Nonterminal c.in_ok-name.name c.from_vec.result) kept children e r
    (omega (arith, c.len.ensures, c.len-2.ensures)) c.in_ok-children.ensures.items c.in_ok-children.ensures.tail
    (nonterminal_seen c.in_ok-name.name c.from_vec.result
    ∙ ap (λ l. named_node c.in_ok-name.name.0 (parse_tree_views l) no_trees) c.from_vec.ensures
    ∙ ap (λ n. named_node n.0 (parse_tree_views c.in_ok-children.children.items) no_trees) c.in_ok-name.ensures)
    c.in_ok-push.ensures.items
