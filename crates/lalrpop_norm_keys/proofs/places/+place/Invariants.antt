use Rattle.std.proofs.Common.{drop, map}
use Rattle.std.specs.Prelude.{Option}
use Rattle.lalrpop_grammar_symbols.specs.Views.{symbol_view}
use Rattle.lalrpop_grammar_symbols.specs.declared.span.Span.{Span}
use Rattle.lalrpop_grammar_language.specs.Among.{Among}
use Rattle.lalrpop_grammar_rules.specs.Views.{closed_view, closeds}
use Rattle.lalrpop_norm_theory.specs.Depth.{calls_in_all}
use Rattle.lalrpop_norm_keys.specs.PlaceSearch.{IsFoundAmong}
use Rattle.lalrpop_norm_keys.proofs.places.+place.Given as goal

-- what is found among the others is found among all
abbrev pub invariant-place_in_symbols-loop-symbol : goal.invariant-place_in_symbols-loop-symbol
invariant-place_in_symbols-loop-symbol l =
    let x = closed_view l.call in
    record {
      there : Among (calls_in_all (closeds (map closed_view l.others))) x
          → Among (calls_in_all (closeds (map closed_view l.fn.closed))) x;
      left : (r : Option Span) → IsFoundAmong (map symbol_view (drop l.symbol-index l.symbols)) (map closed_view l.others) x r
          → IsFoundAmong (map symbol_view l.symbols) (map closed_view l.fn.closed) x r;
    }
