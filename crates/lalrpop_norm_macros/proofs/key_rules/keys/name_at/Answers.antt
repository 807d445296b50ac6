use Rattle.lalrpop_norm_macros.proofs.NamedKeyLemmas.{name_at_place}
use Rattle.lalrpop_norm_macros.proofs.key_rules.keys.name_at.Goals as goal

pub returns : goal.returns
returns c = name_at_place c.args.names.now c.args.place c.get.result c.get.ensures.lookup.1 c.get.ensures.lookup.2
