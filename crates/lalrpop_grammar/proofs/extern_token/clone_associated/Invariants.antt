use Rattle.std.proofs.Common.{◌≡◌, take}
use Rattle.lalrpop_grammar.proofs.extern_token.clone_associated.Given as goal

abbrev pub invariant-loop-associated : goal.invariant-loop-associated
invariant-loop-associated l = l.copy ≡ take l.associated-index l.types
