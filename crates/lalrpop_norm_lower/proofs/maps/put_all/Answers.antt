use Rattle.std.proofs.Common.{◌≡◌, ◌∙◌, arith}
use Rattle.std.proofs.lemmas.Grind.{common_steps}
use Rattle.lalrpop_norm_lower.specs.LoweredLists.{put_entries}
use Rattle.lalrpop_norm_lower.proofs.PutLemmas.{put_in_order}
use Rattle.lalrpop_norm_lower.proofs.maps.put_all.Goals as goal

pub returns-clause-ascending : goal.returns-clause-ascending
returns-clause-ascending g c = λ sorted.
    let put : c.loop-key.map ≡ put_entries g.K.Ord.cmp c.args.map.now c.args.entries.items = grind (arith, common_steps) in
    put ∙ put_in_order g.met.K.Ord.total c.args.map.now c.args.entries.items sorted
