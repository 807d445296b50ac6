use Rattle.std.proofs.Common.{◌≡◌, drop}
use Rattle.lalrpop_grammar.specs.Items.{first_in, intern_in}
use Rattle.lalrpop_grammar.proofs.grammar.Grammar.intern_token.Given as goal

abbrev pub invariant-loop-item : goal.invariant-loop-item
invariant-loop-item l = first_in intern_in (drop l.item-index l.item-items) ≡ first_in intern_in l.item-items
