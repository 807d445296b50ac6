use Rattle.std.proofs.Common.{arith}
use Rattle.std.proofs.lemmas.Grind.{text_groups}
use Rattle.lalrpop_norm_keys.proofs.key_table.key_table.add_place.Goals as goal

pub returns : goal.returns
returns c = λ n. grind (arith, text_groups)
