use Rattle.std.proofs.Common.{map, take}
use Rattle.lalrpop_grammar.specs.Views.{alternative_view}
use Rattle.lalrpop_norm_macros.specs.InstanceRules.{AreInstancesBy}
use Rattle.lalrpop_norm_macros.specs.KeyInstances.{BecomesIn, HoldsIn}
use Rattle.lalrpop_norm_macros.proofs.key_rules.alternatives.instance_alternatives.Given as goal

abbrev pub invariant-loop-alternative : goal.invariant-loop-alternative
invariant-loop-alternative g l =
    AreInstancesBy (HoldsIn l.instance (g.F.Finder.finds l.finder)) (BecomesIn l.instance (g.F.Finder.finds l.finder))
    (map alternative_view (take l.alternative-index l.alternatives)) (map alternative_view l.made)
