use Rattle.std.proofs.Common.{◌≡◌, ◌≤◌, map, take}
use Rattle.lalrpop_lexer_pattern.specs.PlainHirs.{hir_view, plain_repeated}
use Rattle.lalrpop_lexer_pattern.specs.declared.tree.Hir.{size-Hir}
use Rattle.lalrpop_lexer_pattern.proofs.+copy.Given as goal

abbrev pub invariant-copies::clone_all-loop-sub : goal.invariant-copies::clone_all-loop-sub
invariant-copies::clone_all-loop-sub l = map hir_view l.copies.items ≡ map hir_view (take l.sub-index l.subs)

abbrev pub invariant-tree::Hir::copy-loop-tree : goal.invariant-tree::Hir::copy-loop-tree
invariant-tree::Hir::copy-loop-tree l = record {
  same : hir_view l.self ≡ plain_repeated l.around.items (hir_view l.tree);
  within : size-Hir l.tree ≤ size-Hir l.self;
}
