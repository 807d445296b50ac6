use Rattle.std.proofs.Common.{◌≡◌, map}
use Rattle.std.specs.Prelude.{flat_map}
use Rattle.lalrpop_grammar.specs.RulesLeft.{rules_left}
use Rattle.lalrpop_grammar.specs.Views.{item_view}
use Rattle.lalrpop_grammar.specs.WrittenGrammar.{rules_of}
use Rattle.lalrpop_norm_prevalidate.specs.Firsts.{first_of}
use Rattle.lalrpop_norm_prevalidate.specs.Blocks.{public_inline_span}
use Rattle.lalrpop_norm_prevalidate.proofs.blocks.public_inline.Given as goal

abbrev pub invariant-loop-rule : goal.invariant-loop-rule
invariant-loop-rule l =
    first_of (flat_map public_inline_span (rules_left l.rule-iterator))
    ≡ first_of (flat_map public_inline_span (rules_of (map item_view l.grammar.items)))
