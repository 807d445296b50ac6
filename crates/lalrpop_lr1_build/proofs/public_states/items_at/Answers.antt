use Rattle.std.proofs.Common.{◌≡◌, ◌∙◌, ◌++◌, ◌∷◌, [], ℕ, List, ap, append-nil, append_assoc, arith, length}
use Rattle.std.proofs.Common.{subst, sym}
use Rattle.std.specs.List.{AllZip}
use Rattle.std.specs.Vec.Iter.{into_iter_items}
use Rattle.std.proofs.lemmas.List.{nil_from_length}
use Rattle.lalrpop_lr1_build.specs.PublicStates.{IsPublicItem}
use Rattle.lalrpop_lr1_build.proofs.EntryLemmas.{zip_push}
use Rattle.lalrpop_lr1_build.proofs.public_states.items_at.Goals as goal

pub loop-place-preserved : goal.loop-place-preserved
loop-place-preserved g c =
    let done = c.loop-place.invariant.0 in
    let rest = into_iter_items c.next.new.self in (
      done ++ (c.in-Some.place, c.in-Some.lookahead) ∷ [],
      c.loop-place.invariant.1 ∙ ap (λ (xs : List (ℕ × g.row.L.Denot)). done ++ xs) c.in-Some.ensures.steps.0
          ∙ sym (append_assoc done ((c.in-Some.place, c.in-Some.lookahead) ∷ []) rest),
      subst (λ is. AllZip (IsPublicItem c.args.table.now) (done ++ (c.in-Some.place, c.in-Some.lookahead) ∷ []) is)
          (sym c.in_ok-push.ensures.ok)
          (zip_push (IsPublicItem c.args.table.now) done c.loop-place.items (c.in-Some.place, c.in-Some.lookahead) c.item_at.result
          c.loop-place.invariant.2 c.item_at.ensures),
      (let more = ap length c.in-Some.ensures.steps.0 in omega (arith, more, c.in-Some.ensures.steps.1, c.loop-place.invariant.3)),
    )

pub returns : goal.returns
returns g c =
    let done = c.loop-place.invariant.0 in
    let left = into_iter_items c.loop-place.place-iterator in
    let none : left ≡ [] = nil_from_length left (sym c.loop-place.invariant.3 ∙ c.in-None.ensures.steps.0) in
    let all : done ≡ c.args.places =
    sym (c.loop-place.invariant.1 ∙ ap (λ (xs : List (ℕ × g.row.L.Denot)). done ++ xs) none ∙ append-nil done) in
    subst (λ (ps : List (ℕ × g.row.L.Denot)). AllZip (IsPublicItem c.args.table.now) ps c.loop-place.items) all c.loop-place.invariant.2
