use Rattle.std.proofs.Common.{◌≡◌, take}
use Rattle.lalrpop_grammar_repr.proofs.production.clone_attributes.Given as goal

abbrev pub invariant-loop-attribute : goal.invariant-loop-attribute
invariant-loop-attribute l = l.copy ≡ take l.attribute-index l.attributes
