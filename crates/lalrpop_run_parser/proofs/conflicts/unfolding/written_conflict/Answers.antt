use Rattle.std.proofs.Common.{ap, arith}
use Rattle.std.specs.Prelude.{option_map}
use Rattle.lalrpop_grammar_symbols.specs.Views.{terminal_view}
use Rattle.lalrpop_lr1_interpret.proofs.ExpandedLemmas.{views_long}
use Rattle.lalrpop_run_parser.proofs.conflicts.unfolding.written_conflict.Goals as goal

pub returns : goal.returns
returns c = λ read trees. record {
  shared = omega (arith, c.len.ensures, c.args.certificate.now.shared.ok, views_long c.args.certificate.now.shared.items);
  next = ap (option_map terminal_view) c.in_ok-next.ensures;
  kind1 = c.kind_of.ensures;
  tree1 = c.in_ok-tree1.ensures read trees.tree1;
  kind2 = c.kind_of-2.ensures;
  tree2 = c.in_ok-tree2.ensures read trees.tree2;
}
