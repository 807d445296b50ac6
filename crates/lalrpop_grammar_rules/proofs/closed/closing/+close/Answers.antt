use Rattle.std.proofs.Common.{◌≡◌, [], ◌∷◌, ◌+◌, ap, sym, ◌∙◌, map, drop, arith}
use Rattle.std.proofs.lemmas.List.{drop_all, drop_more}
use Rattle.lalrpop_grammar_symbols.specs.Symbols.{syms}
use Rattle.lalrpop_grammar_symbols.specs.Views.{symbol_view}
use Rattle.lalrpop_grammar_language.specs.Closing.{close_all}
use Rattle.lalrpop_grammar_rules.specs.Scopes.{scope_view}
use Rattle.lalrpop_grammar_rules.specs.Views.{closed_view, closeds}
use Rattle.lalrpop_grammar_rules.proofs.ClosedListLemmas.{all_closed_on, all_counted_on, joined, joined-end}
use Rattle.lalrpop_grammar_rules.proofs.SizeLemmas.{breadth_in}
use Rattle.lalrpop_grammar_rules.proofs.SoundLemmas.{sounds_on}
use Rattle.lalrpop_grammar_rules.proofs.closed.closing.+close.Goals as goal

pub close_all-close-requires : goal.close_all-close-requires
close_all-close-requires t c =
    let below = breadth_in c.args.symbols.now c.loop-symbol.symbol-index c.symbol-item.result c.loop-symbol-test.true c.symbol-item.is in
    (omega (arith, below, c.decreases), (c.requires.table, c.requires.knows))

pub close_all-loop-symbol-preserved : goal.close_all-loop-symbol-preserved
close_all-loop-symbol-preserved t c =
    let s = scope_view c.args.scope.now in
    let ss = c.args.symbols.now in
    let i = c.loop-symbol.symbol-index in
    let x = c.symbol-item.result in
    let here : drop i ss ≡ x ∷ drop (i + 1) ss =
    drop_more ss i x c.loop-symbol-test.true ∙ ap (λ y. y ∷ drop (i + 1) ss) (sym c.symbol-item.is) in
    record {
      so_far = all_closed_on s ss i x here c.loop-symbol.count c.in_ok-found.found.next c.loop-symbol.closings c.push.new.self
          c.in_ok-found.found.symbol
          c.in_ok-found.ensures.symbol c.in_ok-found.ensures.count c.in_ok-push.ensures.ok _ c.loop-symbol.invariant.so_far;
      counted = all_counted_on s ss i x here c.loop-symbol.count c.in_ok-found.found.next c.in_ok-found.ensures.count _
          c.loop-symbol.invariant.counted;
      sound = sounds_on c.loop-symbol.are_sound c.in_ok-found.found.is_sound c.loop-symbol.closings c.push.new.self
          c.in_ok-found.found.symbol c.loop-symbol.invariant.sound c.in_ok-found.ensures.sound c.in_ok-push.ensures.ok;
    }

pub close_all-returns-clause-symbols : goal.close_all-returns-clause-symbols
close_all-returns-clause-symbols t c =
    let ss = c.args.symbols.now in
    let nothing : drop c.loop-symbol.symbol-index ss ≡ [] = drop_all c.loop-symbol.symbol-index ss c.loop-symbol-test.false in
    sym (joined-end (map closed_view c.loop-symbol.closings))
    ∙ ap (λ l. joined (map closed_view c.loop-symbol.closings)
    (close_all (scope_view c.args.scope.now) c.loop-symbol.count (syms (map symbol_view l)))) (sym nothing)
    ∙ c.loop-symbol.invariant.so_far
