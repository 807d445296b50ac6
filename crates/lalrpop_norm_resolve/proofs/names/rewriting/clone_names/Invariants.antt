use Rattle.std.proofs.Common.{◌≡◌, take}
use Rattle.lalrpop_norm_resolve.proofs.names.rewriting.clone_names.Given as goal

abbrev pub invariant-loop-name : goal.invariant-loop-name
invariant-loop-name l = l.copy ≡ take l.name-index l.names
