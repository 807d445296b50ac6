use Rattle.std.proofs.Common.{take}
use Rattle.std.specs.Prelude.{flat_map}
use Rattle.lalrpop_grammar.specs.Views.{alternative_view}
use Rattle.lalrpop_lexer_scan.specs.Literals.{uses_in_alternative}
use Rattle.lalrpop_lexer_scan.specs.Noting.{Notes}
use Rattle.lalrpop_lexer_scan.proofs.literals.note_alternatives.Given as goal

abbrev pub invariant-loop-alternative : goal.invariant-loop-alternative
invariant-loop-alternative l =
    Notes l.initial.uses l.uses (flat_map (λ a. uses_in_alternative (alternative_view a)) (take l.alternative-index l.alternatives))
