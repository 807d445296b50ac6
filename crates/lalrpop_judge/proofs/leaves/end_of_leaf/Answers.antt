use Rattle.std.proofs.Common.{◌≡◌, rules}
use Rattle.lalrpop_grammar_symbols.specs.Views.{span_view, terminal_view}
use Rattle.lalrpop_grammar.specs.Views.{token_view}
use Rattle.lalrpop_judge.proofs.LeafLemmas.{at_place}
use Rattle.lalrpop_judge.proofs.leaves.end_of_leaf.Goals as goal

pub returns-then-is_token : goal.returns-then-is_token
returns-then-is_token c =
    let here = at_place c.args.tokens.now c.args.start c.index-tokens-start.result c.if-start-tokens.false c.index-tokens-start.is in
    search (rules, here)

pub returns-else-is_token : goal.returns-else-is_token
returns-else-is_token c = λ rest e.
    let here = at_place c.args.tokens.now c.args.start c.index-tokens-start.result c.if-start-tokens.false c.index-tokens-start.is in
    let same : token_view c.index-tokens-start.result
    ≡ record { terminal = terminal_view c.args.terminal.now; text = c.args.text.now; span = span_view c.args.span } = cc in
    search (rules, same)
