use Rattle.std.proofs.Common.{◌≡◌, take}
use Rattle.lalrpop_grammar.proofs.types.type_ref.+try_clone_types.Given as goal

abbrev pub invariant-clone_types-loop-type_ref : goal.invariant-clone_types-loop-type_ref
invariant-clone_types-loop-type_ref l = l.copy ≡ take l.type_ref-index l.types
