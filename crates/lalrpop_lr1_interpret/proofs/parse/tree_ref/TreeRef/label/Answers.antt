use Rattle.lalrpop_lr1_interpret.proofs.LentLemmas.{root_read}
use Rattle.lalrpop_lr1_interpret.proofs.parse.tree_ref.TreeRef.label.Goals as goal

pub returns : goal.returns
returns c = root_read c.args.self.now.entries.now c.index-self-self.result c.args.self.now.in_order
