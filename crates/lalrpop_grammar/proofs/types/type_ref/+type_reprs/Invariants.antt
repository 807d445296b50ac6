use Rattle.std.proofs.Common.{◌≡◌, Some, map, take}
use Rattle.lalrpop_grammar.specs.Grounding.{all_types, type_repr_of}
use Rattle.lalrpop_grammar.proofs.types.type_ref.+type_reprs.Given as goal

abbrev pub invariant-type_reprs-loop-written : goal.invariant-type_reprs-loop-written
invariant-type_reprs-loop-written l = all_types (map type_repr_of (take l.written-index l.types)) ≡ Some l.found
