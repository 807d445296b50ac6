use Rattle.std.proofs.Common.{◌≡◌, ◌∷◌, ◌+◌, ◌∙◌, ap, drop, map, sym}
use Rattle.std.proofs.lemmas.List.{drop_all, drop_more}
use Rattle.std.specs.Prelude.{None, Some}
use Rattle.lalrpop_grammar_symbols.specs.Views.{symbol_view}
use Rattle.lalrpop_grammar_rules.specs.Views.{closed_view}
use Rattle.lalrpop_norm_keys.proofs.CallPlaceLemmas.{closed_ended, first_found, group_place, macro_place, name_place}
use Rattle.lalrpop_norm_keys.proofs.CallPlaceLemmas.{others_found, symbols_ended, there_first, there_later}
use Rattle.lalrpop_norm_keys.proofs.places.+place.Goals as goal

pub place_in_symbol-returns-in-Group-clause-place : goal.place_in_symbol-returns-in-Group-clause-place
place_in_symbol-returns-in-Group-clause-place t c =
    group_place c.args.symbol.now c.in-Expr.group c.args.closed.now c.in-Group.inside c.as_slice.result.now
    c.as_slice-in-Group.result.now (closed_view c.args.call.now) c.place_in_symbols.result c.in-Expr.is c.in-Group.is
    c.as_slice.ensures c.as_slice-in-Group.ensures c.place_in_symbols.ensures.place

pub place_in_symbol-returns-in-AmbiguousId-clause-place : goal.place_in_symbol-returns-in-AmbiguousId-clause-place
place_in_symbol-returns-in-AmbiguousId-clause-place t c =
    name_place c.args.symbol.now c.in-AmbiguousId.field-0 (closed_view c.args.closed.now) (closed_view c.args.call.now)
    c.own_place.result c.in-AmbiguousId.is c.own_place.ensures

pub place_in_symbol-returns-in-Macro-clause-place : goal.place_in_symbol-returns-in-Macro-clause-place
place_in_symbol-returns-in-Macro-clause-place t c =
    macro_place c.args.symbol.now c.in-Macro.field-0 (closed_view c.args.closed.now) (closed_view c.args.call.now)
    c.own_place-in-Macro.result c.in-Macro.is c.own_place-in-Macro.ensures

pub place_in_symbols-returns-in-Some-place_in_symbol-clause-there : goal.place_in_symbols-returns-in-Some-place_in_symbol-clause-there
place_in_symbols-returns-in-Some-place_in_symbol-clause-there t c =
    c.loop-symbol.invariant.there
    (there_first c.in-Some.each.now c.loop-symbol.others.now c.in-Some.rest.now (closed_view c.args.call.now)
    c.in-Some.ensures.cases.0 c.in-Some-place_in_symbol.ensures.there)

pub place_in_symbols-returns-in_default-clause-place : goal.place_in_symbols-returns-in_default-clause-place
place_in_symbols-returns-in_default-clause-place t c =
    c.loop-symbol.invariant.left None
    (closed_ended (map symbol_view (drop c.loop-symbol.symbol-index c.args.symbols.now)) c.loop-symbol.others.now
    (closed_view c.args.call.now) c.in_default.ensures.cases)

pub place_in_symbols-returns-in-Some-place_in_symbol-clause-place : goal.place_in_symbols-returns-in-Some-place_in_symbol-clause-place
place_in_symbols-returns-in-Some-place_in_symbol-clause-place t c =
    let ss = c.args.symbols.now in
    let i = c.loop-symbol.symbol-index in
    let w = c.symbol-item.result in
    let x = closed_view c.args.call.now in
    let here : drop i ss ≡ w ∷ drop (i + 1) ss =
    drop_more ss i w c.loop-symbol-test.true ∙ ap (λ y. y ∷ drop (i + 1) ss) (sym c.symbol-item.is) in
    c.loop-symbol.invariant.left (Some c.in-Some-place_in_symbol.span)
    (first_found w (drop i ss) (drop (i + 1) ss) c.in-Some.each.now c.loop-symbol.others.now c.in-Some.rest.now x
    c.in-Some-place_in_symbol.span here c.in-Some.ensures.cases.0 c.in-Some-place_in_symbol.ensures.there
    c.in-Some-place_in_symbol.ensures.place)

pub place_in_symbols-loop-symbol-preserved : goal.place_in_symbols-loop-symbol-preserved
place_in_symbols-loop-symbol-preserved t c =
    let ss = c.args.symbols.now in
    let i = c.loop-symbol.symbol-index in
    let w = c.symbol-item.result in
    let x = closed_view c.args.call.now in
    let here : drop i ss ≡ w ∷ drop (i + 1) ss =
    drop_more ss i w c.loop-symbol-test.true ∙ ap (λ y. y ∷ drop (i + 1) ss) (sym c.symbol-item.is) in
    record {
      there = λ j. c.loop-symbol.invariant.there
          (there_later c.in-Some.each.now c.loop-symbol.others.now c.in-Some.rest.now x c.in-Some.ensures.cases.0 j);
      left = λ r h. c.loop-symbol.invariant.left r
          (others_found w (drop i ss) (drop (i + 1) ss) c.in-Some.each.now c.loop-symbol.others.now c.in-Some.rest.now x r
          here c.in-Some.ensures.cases.0 c.in_default-place_in_symbol.ensures.place h);
    }

pub place_in_symbols-returns-clause-place : goal.place_in_symbols-returns-clause-place
place_in_symbols-returns-clause-place t c =
    c.loop-symbol.invariant.left None
    (symbols_ended (drop c.loop-symbol.symbol-index c.args.symbols.now) (map closed_view c.loop-symbol.others.now)
    (closed_view c.args.call.now) (drop_all c.loop-symbol.symbol-index c.args.symbols.now c.loop-symbol-test.false))
