use Rattle.lalrpop_lr1_inline.proofs.named.has_name.Goals as goal

pub returns : goal.returns
returns c = rw c.as_str.ensures at c.contains_key.ensures
