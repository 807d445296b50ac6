-- What the definitions see of certificates: for the contract of their test.
use Rattle.std.specs.Prelude.{option_map}
use Rattle.lalrpop_grammar_symbols.specs.Views.{terminal_view}
use Rattle.lalrpop_lr1_interpret.specs.ExpandedViews.{expanded_view, expanded_views}
use Rattle.lalrpop_judge.specs.Certificates.{ShownConflict}
use Rattle.lalrpop_judge.specs.MoveViews.{move_view}
use Rattle.lalrpop_judge.specs.declared.certificates.certificate.Certificate.{Certificate}

abbrev pub certificate_view : Certificate → ShownConflict
certificate_view c = record {
  shared = expanded_views c.shared.items;
  next = option_map terminal_view c.next;
  move1 = move_view c.move1;
  tree1 = expanded_view c.tree1;
  move2 = move_view c.move2;
  tree2 = expanded_view c.tree2;
}
