use Rattle.std.proofs.Common.{◌≡◌, ◌∙◌, ◌++◌, ◌∷◌, [], List, length, ap, append-nil, append_assoc, arith}
use Rattle.std.proofs.Common.{length-append, refl, rules, subst, sym}
use Rattle.std.specs.Vec.Iter.{into_iter_items}
use Rattle.std.proofs.lemmas.List.{nil_from_length}
use Rattle.lalrpop_lr1_build.specs.Edges.{EdgesLead}
use Rattle.lalrpop_lr1_build.specs.declared.states.kernel.StateKernel.{StateKernel}
use Rattle.lalrpop_lr1_build.proofs.StateEdgeLemmas.{edges_more, edges_none}
use Rattle.lalrpop_lr1_build.proofs.states.edges.add_edges.Goals as goal

pub loop-group-init : goal.loop-group-init
loop-group-init g c = (
  [],
  sym c.into_iter-group-iterator.ensures.into_iter_gives.0,
  refl,
  subst (EdgesLead c.args.kernels.now.kernels [] c.args.kernels.now.kernels) (sym c.new-edges.ensures)
      (edges_none c.args.kernels.now.kernels),
  refl,
  search rules,
)

pub overflow_add-symbol : goal.overflow_add-symbol
overflow_add-symbol g c =
    let done = c.loop-group.invariant.0 in
    let long = ap length c.loop-group.invariant.1 in
    let parts = length-append done (into_iter_items c.loop-group.group-iterator) in
    omega (arith, long, parts, c.loop-group.invariant.2, c.args.groups.small, c.args.groups.ok)

pub loop-group-preserved : goal.loop-group-preserved
loop-group-preserved g c =
    let done = c.loop-group.invariant.0 in
    let group = c.in-Some.group in
    let rest = into_iter_items c.next.new.self in (
      done ++ group ∷ [],
      c.loop-group.invariant.1 ∙ ap (λ (xs : List (StateKernel g.row.L.Denot)). done ++ xs) c.in-Some.ensures.steps.0
          ∙ sym (append_assoc done (group ∷ []) rest),
      (let long = length-append done (group ∷ []) in omega (arith, long, c.loop-group.invariant.2)),
      edges_more c.args.kernels.now.kernels done c.loop-group.kernels.kernels c.add_edge.new.kernels.kernels group c.loop-group.edges
          c.add_edge.new.edges c.loop-group.symbol c.loop-group.invariant.2 c.loop-group.invariant.3 c.in_ok-add_edge.ensures.added,
      c.in_ok-add_edge.ensures.given ∙ c.loop-group.invariant.4,
      (let more = ap length c.in-Some.ensures.steps.0 in omega (arith, more, c.in-Some.ensures.steps.1, c.loop-group.invariant.5)),
    )

pub returns-clause-given : goal.returns-clause-given
returns-clause-given g c = c.loop-group.invariant.4

pub returns-clause-edges : goal.returns-clause-edges
returns-clause-edges g c =
    let done = c.loop-group.invariant.0 in
    let left = into_iter_items c.loop-group.group-iterator in
    let none : left ≡ [] = nil_from_length left (sym c.loop-group.invariant.5 ∙ c.in-None.ensures.steps.0) in
    let all : done ≡ c.args.groups.items =
    sym (c.loop-group.invariant.1 ∙ ap (λ (xs : List (StateKernel g.row.L.Denot)). done ++ xs) none ∙ append-nil done) in
    subst (λ (gs : List (StateKernel g.row.L.Denot)). EdgesLead c.args.kernels.now.kernels gs c.loop-group.kernels.kernels
    c.loop-group.edges) all c.loop-group.invariant.3
