use Rattle.std.proofs.Common.{◌≡◌, [], ◌∷◌, ◌+◌, ap, sym, ◌∙◌, map, drop}
use Rattle.std.proofs.lemmas.List.{drop_more, drop_all}
use Rattle.std.specs.Borrow.{Bor}
use Rattle.std.specs.Prelude.{find}
use Rattle.lalrpop_grammar_symbols.specs.Symbols.{Terminal}
use Rattle.lalrpop_grammar_symbols.specs.Views.{literal_view}
use Rattle.lalrpop_grammar_symbols.specs.declared.terminal.TerminalLiteral.{TerminalLiteral}
use Rattle.lalrpop_norm_token_check.specs.Blocks.{is_lacking}
use Rattle.lalrpop_norm_token_check.proofs.SearchLemmas.{find_later, find_here}
use Rattle.lalrpop_norm_token_check.proofs.lacking.lacking_among.Goals as goal

abbrev seen : Bor TerminalLiteral → Terminal
seen l = literal_view l.now

pub loop-literal-preserved : goal.loop-literal-preserved
loop-literal-preserved c = λ entries noted.
    let xs = c.args.used.now in
    let i = c.loop-literal.literal-index in
    let x = c.literal-item.result in
    let here : drop i xs ≡ x ∷ drop (i + 1) xs =
    drop_more xs i x c.loop-literal-test.true ∙ ap (λ y. y ∷ drop (i + 1) xs) (sym c.literal-item.is) in
    sym (find_later (is_lacking entries) (seen x) (map seen (drop (i + 1) xs)) c.is_lacking.result
    (c.is_lacking.ensures entries noted) c.if-is_lacking.false)
    ∙ sym (ap (λ l. find (is_lacking entries) (map seen l)) here) ∙ c.loop-literal.invariant entries noted

pub returns-then-is_lacking : goal.returns-then-is_lacking
returns-then-is_lacking c = λ entries noted.
    let xs = c.args.used.now in
    let i = c.loop-literal.literal-index in
    let x = c.literal-item.result in
    let here : drop i xs ≡ x ∷ drop (i + 1) xs =
    drop_more xs i x c.loop-literal-test.true ∙ ap (λ y. y ∷ drop (i + 1) xs) (sym c.literal-item.is) in
    sym (find_here (is_lacking entries) (seen x) (map seen (drop (i + 1) xs)) c.is_lacking.result
    (c.is_lacking.ensures entries noted) c.if-is_lacking.true)
    ∙ sym (ap (λ l. find (is_lacking entries) (map seen l)) here) ∙ c.loop-literal.invariant entries noted

pub returns : goal.returns
returns c = λ entries noted.
    let past : drop c.loop-literal.literal-index c.args.used.now ≡ [] =
    drop_all c.loop-literal.literal-index c.args.used.now c.loop-literal-test.false in
    sym (ap (λ l. find (is_lacking entries) (map seen l)) past) ∙ c.loop-literal.invariant entries noted
