use Rattle.std.proofs.Common.{map, refl}
use Rattle.lalrpop_grammar.specs.Trees.{Tree}
use Rattle.lalrpop_grammar.specs.Views.{tree_view}
use Rattle.lalrpop_grammar_language.specs.Derivations.{leaf_token}
use Rattle.lalrpop_grammar_symbols.specs.Views.{span_view, terminal_view}
use Rattle.lalrpop_run_parser.proofs.BuildingLemmas.{written_more}
use Rattle.lalrpop_run_parser.proofs.folding.tree_unfolding.push_leaf.Goals as goal

pub returns-clause-leaf : goal.returns-clause-leaf
returns-clause-leaf c =
    written_more c.args.made.now.items c.push.new.self.items c.in_ok-leaf.leaf (map tree_view c.args.made.now.items)
    (Tree.terminal (leaf_token (terminal_view c.args.terminal.now) (span_view c.args.span))) refl c.in_ok-leaf.ensures
    c.in_ok-push.ensures.items
