use Rattle.lalrpop_norm_keys.specs.Tables.{table_keys}
use Rattle.lalrpop_norm_keys.proofs.FoundLemmas.{later_calls}
use Rattle.lalrpop_norm_keys.proofs.rounds.next_round.Goals as goal

pub returns-clause-next : goal.returns-clause-next
returns-clause-next g c =
    later_calls c.keys-known.result.now c.keys.result.now c.in_ok-copies_from.field-0 (table_keys c.args.calls.now)
    (table_keys c.add_round.new.calls) c.keys-known.ensures c.keys.ensures c.in_ok-copies_from.ensures
