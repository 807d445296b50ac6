use Rattle.std.proofs.Common.{◌≡◌, ◌∷◌, ◌+◌, ap, sym, ◌∙◌, map, drop, arith}
use Rattle.std.proofs.lemmas.List.{drop_more}
use Rattle.lalrpop_grammar_symbols.specs.Symbols.{syms}
use Rattle.lalrpop_grammar_symbols.specs.Views.{symbol_view}
use Rattle.lalrpop_grammar_rules.proofs.ClosedListLemmas.{all_counted_on}
use Rattle.lalrpop_grammar_rules.proofs.SizeLemmas.{breadth_in}
use Rattle.lalrpop_norm_precedence.specs.Occurrences.{called_at, occurrences_scope}
use Rattle.lalrpop_norm_precedence.proofs.RenamingLemmas.{listed_is_all, renamed_all, renamed_on}
use Rattle.lalrpop_norm_precedence.proofs.levels.renaming.+rename.Goals as goal

pub rename_all-rename-requires : goal.rename_all-rename-requires
rename_all-rename-requires t c =
    let below = breadth_in c.args.symbols.now c.loop-symbol.symbol-index c.symbol-item.result c.loop-symbol-test.true c.symbol-item.is in
    omega (arith, below, c.decreases)

pub rename_all-loop-symbol-preserved : goal.rename_all-loop-symbol-preserved
rename_all-loop-symbol-preserved t c =
    let o = c.args.occurrences.now in
    let s = occurrences_scope o in
    let ss = c.args.symbols.now in
    let i = c.loop-symbol.symbol-index in
    let x = c.symbol-item.result in
    let here : drop i ss ≡ x ∷ drop (i + 1) ss =
    drop_more ss i x c.loop-symbol-test.true ∙ ap (λ y. y ∷ drop (i + 1) ss) (sym c.symbol-item.is) in
    record {
      so_far = renamed_on (λ m k. called_at o k) s ss i x here c.loop-symbol.count c.in_ok-found.found.next c.loop-symbol.made
          c.push.new.self c.in_ok-found.found.symbol
          c.in_ok-found.ensures.symbol c.in_ok-found.ensures.count c.in_ok-push.ensures.ok _ c.loop-symbol.invariant.so_far;
      counted = all_counted_on s ss i x here c.loop-symbol.count c.in_ok-found.found.next c.in_ok-found.ensures.count _
          c.loop-symbol.invariant.counted;
    }

pub rename_all-returns-clause-symbols : goal.rename_all-returns-clause-symbols
rename_all-returns-clause-symbols t c =
    let ss = c.args.symbols.now in
    renamed_all (λ m k. called_at c.args.occurrences.now k) (occurrences_scope c.args.occurrences.now) ss c.loop-symbol.symbol-index
    c.loop-symbol-test.false c.loop-symbol.count c.loop-symbol.made _ c.loop-symbol.invariant.so_far

pub rename_all-returns-clause-inside : goal.rename_all-returns-clause-inside
rename_all-returns-clause-inside t c =
    let o = c.args.occurrences.now in
    let ss = c.args.symbols.now in
    ap syms
    (renamed_all (λ m k. called_at o k) (occurrences_scope o) ss c.loop-symbol.symbol-index
    c.loop-symbol-test.false c.loop-symbol.count c.loop-symbol.made _ c.loop-symbol.invariant.so_far)
    ∙ listed_is_all (λ m k. called_at o k) (occurrences_scope o) c.args.before (map symbol_view ss)
