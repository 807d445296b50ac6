use Rattle.std.proofs.Common.{rules, ◌≡◌, ◌∷◌, ◌++◌, ◌<◌, [], Contains, arith, length, subst, sym}
use Rattle.lalrpop_lane_tables.specs.PatchedTargets.{ArePut}
use Rattle.lalrpop_lane_tables.proofs.MergeLemmas.{some_at}
use Rattle.lalrpop_lane_tables.proofs.PatchLemmas.{put_one, there_last}
use Rattle.lalrpop_lane_tables.proofs.merge_targets.put_patches.Goals as goal

pub put_patch-requires : goal.put_patch-requires
put_patch-requires c =
    let patch = c.in-Some.patch in
    let at : c.loop-patch.left.items ≡ c.pop.new.self.items ++ patch ∷ [] = search rules in
    let there = c.loop-patch.invariant.of_all patch (subst (λ l. Contains l patch) (sym at) (there_last c.pop.new.self.items patch)) in
    let small = c.requires patch there in
    let same = c.loop-patch.invariant.count in
    omega (arith, small, same)

pub loop-patch-preserved : goal.loop-patch-preserved
loop-patch-preserved c =
    let patch = c.in-Some.patch in
    let at : c.loop-patch.left.items ≡ c.pop.new.self.items ++ patch ∷ [] = search rules in
    let there = c.loop-patch.invariant.of_all patch (subst (λ l. Contains l patch) (sym at) (there_last c.pop.new.self.items patch)) in
    let small = c.requires patch there in
    let same = c.loop-patch.invariant.count in
    let within : patch.state.0 < length c.loop-patch.states = omega (arith, small, same) in
    let s = some_at c.loop-patch.states patch.state.0 within in
    put_one c.args.patches.items c.pop.new.self.items patch c.args.states.now c.loop-patch.states c.put_patch.new.states s.0
    (subst (λ l. ArePut c.args.patches.items l c.args.states.now c.loop-patch.states) at c.loop-patch.invariant) s.1
    (c.put_patch.ensures s.0 s.1)
