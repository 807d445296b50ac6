use Rattle.std.proofs.Common.{◌≡◌, take}
use Rattle.lalrpop_grammar.proofs.types.type_repr.+try_clone_types.Given as goal

abbrev pub invariant-clone_types-loop-part : goal.invariant-clone_types-loop-part
invariant-clone_types-loop-part l = l.copy ≡ take l.part-index l.types
