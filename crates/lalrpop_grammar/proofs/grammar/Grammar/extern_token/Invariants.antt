use Rattle.std.proofs.Common.{◌≡◌, drop}
use Rattle.lalrpop_grammar.specs.Items.{first_in, extern_in}
use Rattle.lalrpop_grammar.proofs.grammar.Grammar.extern_token.Given as goal

abbrev pub invariant-loop-item : goal.invariant-loop-item
invariant-loop-item l = first_in extern_in (drop l.item-index l.item-items) ≡ first_in extern_in l.item-items
