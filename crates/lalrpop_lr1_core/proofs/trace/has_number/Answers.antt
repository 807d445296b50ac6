use Rattle.std.specs.Cmp.{nat_cmp_total}
use Rattle.std.proofs.lemmas.Map.Lookups.{exact_unsigned}
use Rattle.std.proofs.lemmas.Map.Views.{btree_set_contains_iff}
use Rattle.lalrpop_lr1_core.proofs.trace.has_number.Goals as goal

pub returns : goal.returns
returns c = rw c.contains.ensures (btree_set_contains_iff nat_cmp_total exact_unsigned c.args.numbers.now c.args.number)
