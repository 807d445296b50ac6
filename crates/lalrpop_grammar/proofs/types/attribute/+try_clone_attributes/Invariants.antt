use Rattle.std.proofs.Common.{◌≡◌, take}
use Rattle.lalrpop_grammar.proofs.types.attribute.+try_clone_attributes.Given as goal

abbrev pub invariant-clone_attributes-loop-attribute : goal.invariant-clone_attributes-loop-attribute
invariant-clone_attributes-loop-attribute l = l.copy ≡ take l.attribute-index l.attributes
