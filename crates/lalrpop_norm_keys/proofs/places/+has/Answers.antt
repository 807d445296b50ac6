use Rattle.std.proofs.Common.{◌≡◌, ◌∷◌, ◌+◌, ◌∙◌, ap, drop, sym}
use Rattle.std.proofs.lemmas.List.{drop_more}
use Rattle.lalrpop_grammar_rules.specs.Views.{closed_view}
use Rattle.lalrpop_norm_keys.proofs.CallPlaceLemmas.{have_here, have_next}
use Rattle.lalrpop_norm_keys.proofs.places.+has.Goals as goal

pub have_call-returns-then-has_call : goal.have_call-returns-then-has_call
have_call-returns-then-has_call t c =
    let xs = c.args.symbols.now in
    let i = c.loop-symbol.symbol-index in
    let x = c.symbol-item.result in
    let here : drop i xs ≡ x ∷ drop (i + 1) xs =
    drop_more xs i x c.loop-symbol-test.true ∙ ap (λ y. y ∷ drop (i + 1) xs) (sym c.symbol-item.is) in
    have_here (closed_view c.args.call.now) xs (drop i xs) (drop (i + 1) xs) x here (c.has_call.ensures.0 c.if-has_call.true)
    c.loop-symbol.invariant

pub have_call-loop-symbol-preserved : goal.have_call-loop-symbol-preserved
have_call-loop-symbol-preserved t c =
    let xs = c.args.symbols.now in
    let i = c.loop-symbol.symbol-index in
    let x = c.symbol-item.result in
    let here : drop i xs ≡ x ∷ drop (i + 1) xs =
    drop_more xs i x c.loop-symbol-test.true ∙ ap (λ y. y ∷ drop (i + 1) xs) (sym c.symbol-item.is) in
    have_next (closed_view c.args.call.now) xs (drop i xs) (drop (i + 1) xs) x here
    (λ j. let wrong = c.has_call.ensures.1 j in cc (wrong, c.if-has_call.false)) c.loop-symbol.invariant
