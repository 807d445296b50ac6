use Rattle.std.proofs.Common.{Some, ap, arith, subst, sym, ◌∙◌}
use Rattle.lalrpop_grammar_symbols.specs.Views.{terminal_view}
use Rattle.lalrpop_lr1_interpret.specs.Tables.{IsNextBy}
use Rattle.lalrpop_lr1_interpret.proofs.NumberLemmas.{next_at}
use Rattle.lalrpop_lr1_interpret.proofs.parse.action_table.ActionTable.next_number.Goals as goal

pub returns-then-at-tokens : goal.returns-then-at-tokens
returns-then-at-tokens c =
    subst (λ x. IsNextBy c.args.self.now x c.number_of.result)
    (sym (next_at c.args.tokens.now c.args.at c.index-tokens-at.result (omega arith) c.index-tokens-at.is
    ∙ ap (λ y. Some (terminal_view y.terminal)) c.index-tokens-at.is))
    c.number_of.ensures
