use Rattle.std.specs.Cmp.{nat_cmp_total}
use Rattle.std.proofs.lemmas.Cmp.{on_total}
use Rattle.std.proofs.lemmas.Map.Views.{btree_set_contains_iff}
use Rattle.lalrpop_lr1_core.specs.declared.state_index.StateIndex.{StateIndex}
use Rattle.lalrpop_lane_tables.proofs.KeyLemmas.{index_exact}
use Rattle.lalrpop_lane_tables.proofs.lane_tables.is_reached.Goals as goal

pub returns : goal.returns
returns c =
    rw c.contains.ensures (btree_set_contains_iff (on_total (λ (s : StateIndex). s.0) nat_cmp_total) index_exact c.args.reached.now c.args.state)
