use Rattle.std.proofs.Common.{◌≤◌, ◌+◌, ◌*◌, suc}
use Rattle.lalrpop_grammar.proofs.DropLemmas.{count, count_kept}
use Rattle.lalrpop_grammar.proofs.tree.WrittenTree.drop.Given as goal

-- no more nodes are left than there were
abbrev pub invariant-loop-self : goal.invariant-loop-self
invariant-loop-self l = count l.self + count_kept l.kept ≤ count l.fn.self

abbrev pub decreases-loop-self : goal.decreases-loop-self
decreases-loop-self l = (count l.self + count_kept l.kept) * suc (count l.fn.self) + count l.self
