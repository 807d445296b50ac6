use Rattle.std.proofs.Common.{◌-◌, length}
use Rattle.lalrpop_lr1_paths.specs.PathTables.{AreStatePaths}
use Rattle.lalrpop_lr1_paths.proofs.WalkLemmas.{AreWalkedBack}
use Rattle.lalrpop_lr1_paths.proofs.state_paths.state_paths.StatePaths.path_symbols.Given as goal

abbrev pub invariant-loop-edge : goal.invariant-loop-edge
invariant-loop-edge l = (are : AreStatePaths l.self) × AreWalkedBack l.self are l.state l.place l.symbols.items

abbrev pub decreases-loop-edge : goal.decreases-loop-edge
decreases-loop-edge l = length l.self.steps.items - length l.symbols.items
