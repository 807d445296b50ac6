use Rattle.std.proofs.Common.{◌≡◌, ◌+◌, take}
use Rattle.lalrpop_judge.proofs.RootLemmas.{sizes}
use Rattle.lalrpop_judge.proofs.certificates.walk.is_size_over.Given as goal

abbrev pub invariant-loop-root : goal.invariant-loop-root
invariant-loop-root l = l.fn.size ≡ l.left + sizes (take l.root-index l.roots)
