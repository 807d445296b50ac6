use Rattle.lalrpop_lr1_core.specs.Views.{token_lookahead}
use Rattle.lalrpop_lr1_check.proofs.checking.pass_by_table.Goals as goal

pub returns : goal.returns
returns c = (
  λ e. record {
    none_barren = c.in_ok-none.ensures.0 c.if-not-none.false;
    brings = (c.in_ok-brings.ensures (token_lookahead c.args.table.now.terminals.now)).0 e;
  },
  λ p. (c.in_ok-brings.ensures (token_lookahead c.args.table.now.terminals.now)).1 p.brings,
)
