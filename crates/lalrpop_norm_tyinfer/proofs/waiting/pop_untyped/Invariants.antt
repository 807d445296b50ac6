use Rattle.lalrpop_norm_tyinfer.proofs.waiting.pop_untyped.Given as goal

abbrev pub decreases-loop-name : goal.decreases-loop-name
decreases-loop-name l = goal.left-loop-name l
