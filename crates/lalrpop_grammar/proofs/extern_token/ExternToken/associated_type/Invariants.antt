use Rattle.std.proofs.Common.{◌≡◌, drop}
use Rattle.lalrpop_grammar.specs.Items.{type_of_name}
use Rattle.lalrpop_grammar.proofs.extern_token.ExternToken.associated_type.Given as goal

abbrev pub invariant-loop-associated : goal.invariant-loop-associated
invariant-loop-associated l =
    type_of_name l.name (drop l.associated-index l.associated-items) ≡ type_of_name l.name l.associated-items
