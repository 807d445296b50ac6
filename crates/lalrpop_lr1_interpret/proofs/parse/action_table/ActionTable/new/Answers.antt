use Rattle.std.proofs.Common.{map}
use Rattle.lalrpop_lr1_core.specs.Views.{lr_state_view, token_lookahead}
use Rattle.lalrpop_sets.proofs.EntryLemmas.{ok_map}
use Rattle.lalrpop_lr1_interpret.specs.MadeTables.{IsMadeOf}
use Rattle.lalrpop_lr1_interpret.specs.Tables.{IsTableOf}
use Rattle.lalrpop_lr1_interpret.proofs.MadeTableLemmas.{made_is_table}
use Rattle.lalrpop_lr1_interpret.proofs.parse.action_table.ActionTable.new.Goals as goal

pub returns : goal.returns
returns c =
    ok_map c.table_of.result (λ table. IsMadeOf table c.args.terminals.now c.args.states.now)
    (λ table. IsTableOf table (map (lr_state_view (token_lookahead c.args.terminals.now)) c.args.states.now))
    (λ table made. made_is_table table c.args.terminals.now c.args.states.now made) c.table_of.ensures
