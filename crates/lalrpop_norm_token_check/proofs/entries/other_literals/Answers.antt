use Rattle.std.proofs.Common.{◌≡◌, [], ◌∷◌, ◌++◌, ◌+◌, ap, sym, ◌∙◌, map, drop, append-nil}
use Rattle.std.proofs.lemmas.List.{drop_more, drop_all}
use Rattle.std.specs.Borrow.{Bor}
use Rattle.lalrpop_grammar_symbols.specs.Symbols.{Terminal}
use Rattle.lalrpop_grammar_symbols.specs.Views.{literal_view}
use Rattle.lalrpop_grammar_symbols.specs.declared.terminal.TerminalLiteral.{TerminalLiteral}
use Rattle.lalrpop_norm_token_check.specs.Entries.{not_listed}
use Rattle.lalrpop_norm_token_check.specs.Noting.{list_unless}
use Rattle.lalrpop_norm_token_check.proofs.SearchLemmas.{moved, not_listed_first}
use Rattle.lalrpop_norm_token_check.proofs.entries.other_literals.Goals as goal

abbrev seen : Bor TerminalLiteral → Terminal
seen l = literal_view l.now

pub loop-literal-preserved : goal.loop-literal-preserved
loop-literal-preserved c = λ entries noted.
    let xs = c.args.used.now in
    let i = c.loop-literal.literal-index in
    let x = c.literal-item.result in
    let here : drop i xs ≡ x ∷ drop (i + 1) xs =
    drop_more xs i x c.loop-literal-test.true ∙ ap (λ y. y ∷ drop (i + 1) xs) (sym c.literal-item.is) in
    moved (not_listed entries (map seen xs)) (map seen c.loop-literal.others.items) (not_listed entries (map seen (drop i xs)))
    (list_unless c.is_listed.result (seen x)) (not_listed entries (map seen (drop (i + 1) xs)))
    (map seen c.push_unless.new.literals.items)
    (c.loop-literal.invariant entries noted)
    (ap (λ l. not_listed entries (map seen l)) here
    ∙ not_listed_first entries (seen x) (map seen (drop (i + 1) xs)) c.is_listed.result (c.is_listed.ensures entries noted))
    c.in_ok-push_unless.ensures

pub returns : goal.returns
returns c = λ entries noted.
    let past : drop c.loop-literal.literal-index c.args.used.now ≡ [] =
    drop_all c.loop-literal.literal-index c.args.used.now c.loop-literal-test.false in
    sym (append-nil (map seen c.loop-literal.others.items))
    ∙ sym (ap (λ l. map seen c.loop-literal.others.items ++ not_listed entries (map seen l)) past)
    ∙ c.loop-literal.invariant entries noted
