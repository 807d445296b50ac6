use Rattle.std.proofs.Common.{◌↔◌, drop, map}
use Rattle.lalrpop_grammar_language.specs.Among.{Among}
use Rattle.lalrpop_grammar_rules.specs.Views.{closed_view, closeds}
use Rattle.lalrpop_norm_theory.specs.Depth.{calls_in_all}
use Rattle.lalrpop_norm_keys.proofs.places.+has.Given as goal

abbrev pub invariant-have_call-loop-symbol : goal.invariant-have_call-loop-symbol
invariant-have_call-loop-symbol l =
    Among (calls_in_all (closeds (map closed_view l.symbols))) (closed_view l.call)
    ↔ Among (calls_in_all (closeds (map closed_view (drop l.symbol-index l.symbols)))) (closed_view l.call)
