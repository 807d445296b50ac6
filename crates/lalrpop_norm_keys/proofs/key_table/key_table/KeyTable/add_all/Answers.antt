use Rattle.std.proofs.Common.{map, take, sym, subst}
use Rattle.lalrpop_grammar_rules.specs.Views.{closed_view}
use Rattle.lalrpop_norm_keys.specs.Tables.{AddsKeys, table_keys}
use Rattle.lalrpop_norm_keys.proofs.TableLemmas.{adds-snoc, take_next}
use Rattle.lalrpop_norm_keys.proofs.key_table.key_table.KeyTable.add_all.Goals as goal

pub loop-key-preserved : goal.loop-key-preserved
loop-key-preserved c =
    let keys = c.args.keys.now in
    let i = c.loop-key.key-index in
    let x = c.key-item.result in
    let old = table_keys c.args.self.now in
    let new = table_keys c.add.new.self in
    record {
      indexed = c.in_ok-add.ensures.indexed;
      added = subst (λ xs. AddsKeys old xs new) (sym (take_next closed_view keys i x c.loop-key-test.true c.key-item.is))
          (adds-snoc old (map closed_view (take i keys)) (table_keys c.loop-key.self) (closed_view x) new c.loop-key.invariant.added
          c.in_ok-add.ensures.added);
    }
