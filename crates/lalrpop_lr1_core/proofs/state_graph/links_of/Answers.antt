use Rattle.std.proofs.Common.{rules, ◌≡◌, ◌∙◌, ◌+◌, ◌++◌, ◌∷◌, [], ℕ, ap, arith, drop, length, length-append, subst, sym, take}
use Rattle.std.proofs.lemmas.List.{take_at}
use Rattle.lalrpop_lr1_core.specs.IncomingEdges.{HasNewest, HasPrevious}
use Rattle.lalrpop_lr1_core.proofs.IncomingLemmas.{previous_goes_on}
use Rattle.lalrpop_lr1_core.proofs.state_graph.links_of.Goals as goal

pub link-before-requires-clause-newest : goal.link-before-requires-clause-newest
link-before-requires-clause-newest c =
    subst (HasNewest c.args.edges.now c.loop-place.place) (sym c.as_mut_slice.ensures.value) c.loop-place.invariant.0

pub loop-place-preserved : goal.loop-place-preserved
loop-place-preserved c =
    let edges = c.args.edges.now in
    let place = c.loop-place.place in
    let newest = c.link-before.new.newest in
    let items = c.loop-place.newest.items in
    let previous = c.loop-place.previous.items in
    let before = c.link-before.result in
    let kept : length newest ≡ c.loop-place.newest.len = search rules in
    let same : take c.loop-place.newest.len (newest ++ drop (length newest) items) ≡ newest =
    take_at newest (drop (length newest) items) c.loop-place.newest.len kept in
    let count : length previous ≡ place = c.loop-place.invariant.2 in
    let pushed : c.push.new.self.items ≡ previous ++ before ∷ [] = search rules in
    let more : length c.push.new.self.items ≡ length previous + 1 = ap length pushed ∙ length-append previous (before ∷ []) in (
      subst (HasNewest edges (place + 1)) (sym same) c.link-before.ensures.newest,
      subst (HasPrevious edges) (sym pushed)
          (previous_goes_on edges place before previous count c.link-before.ensures.previous c.loop-place.invariant.1),
      more ∙ ap (λ (n : ℕ). n + 1) count,
    )

pub returns-clause-newest : goal.returns-clause-newest
returns-clause-newest c =
    let edges = c.args.edges.now in
    let end : c.loop-place.place ≡ length edges = omega (arith, c.loop-place-test.false, c.loop-place.auto.place-end) in
    subst (λ (n : ℕ). HasNewest edges n c.from_vec.result) end
    (subst (HasNewest edges c.loop-place.place) (sym c.from_vec.ensures) c.loop-place.invariant.0)

pub returns-clause-previous : goal.returns-clause-previous
returns-clause-previous c = subst (HasPrevious c.args.edges.now) (sym c.from_vec-2.ensures) c.loop-place.invariant.1
