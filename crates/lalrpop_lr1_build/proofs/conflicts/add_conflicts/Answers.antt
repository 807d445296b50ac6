use Rattle.std.proofs.Common.{◌≡◌, ◌∙◌, ◌++◌, ◌∷◌, [], List, ap, append-nil, append_assoc, arith, length, rules, sym}
use Rattle.std.specs.Vec.Iter.{into_iter_items}
use Rattle.std.proofs.lemmas.List.{nil_from_length}
use Rattle.lalrpop_lr1_core.specs.declared.conflict.Conflict.{Conflict}
use Rattle.lalrpop_lr1_build.proofs.conflicts.add_conflicts.Goals as goal

pub loop-conflict-init : goal.loop-conflict-init
loop-conflict-init g c = (
  ap (λ (xs : List (Conflict g.row.L.Denot)). c.args.conflicts.now.items ++ xs) c.into_iter-conflict-iterator.ensures.into_iter_gives.0,
  search rules,
)

pub loop-conflict-preserved : goal.loop-conflict-preserved
loop-conflict-preserved g c =
    let old = c.loop-conflict.conflicts.items in
    let rest = into_iter_items c.next.new.self in (
      ap (λ (xs : List (Conflict g.row.L.Denot)). xs ++ rest) c.in_ok-push.ensures.items
          ∙ append_assoc old (c.in-Some.conflict ∷ []) rest
          ∙ ap (λ (xs : List (Conflict g.row.L.Denot)). old ++ xs) (sym c.in-Some.ensures.steps.0) ∙ c.loop-conflict.invariant.0,
      (let more = ap length c.in-Some.ensures.steps.0 in omega (arith, more, c.in-Some.ensures.steps.1, c.loop-conflict.invariant.1)),
    )

pub returns : goal.returns
returns g c =
    let old = c.loop-conflict.conflicts.items in
    let left = into_iter_items c.loop-conflict.conflict-iterator in
    let none : left ≡ [] = nil_from_length left (sym c.loop-conflict.invariant.1 ∙ c.in-None.ensures.steps.0) in
    sym (append-nil old) ∙ sym (ap (λ (xs : List (Conflict g.row.L.Denot)). old ++ xs) none) ∙ c.loop-conflict.invariant.0
