use Rattle.std.proofs.Common.{◌≡◌, ◌∙◌, ◌+◌, ◌++◌, ◌∷◌, [], List, ap, arith, map, subst, sym, take}
use Rattle.std.specs.Cmp.Lexicographic.{pointwise}
use Rattle.lalrpop_lr1_theory.proofs.NumberLemmas.{IsNumbering, numbering_done, numbering_inserted}
use Rattle.lalrpop_lr1_build.specs.StateCores.{DottedProduction, core_in_state, items_core, listed_core}
use Rattle.lalrpop_lr1_build.proofs.CoreLemmas.{cores_same, dotted_eq}
use Rattle.lalrpop_lr1_build.proofs.ListLemmas.{get_here, map_last, take_get, take_whole}
use Rattle.lalrpop_lr1_build.proofs.collapse.cores.number_cores.Goals as goal

pub loop-state-preserved : goal.loop-state-preserved
loop-state-preserved c =
    let states = c.args.states.now in
    let i = c.loop-state.state-index in
    let state = c.state-item.result in
    let lists = map core_in_state (take i states) in
    let keys = map listed_core c.insert_full.new.self.keys in
    let at = get_here states i state c.loop-state-test.true c.state-item.is in
    let core : listed_core c.in_ok-core.core ≡ core_in_state state = c.in_ok-core.ensures ∙ ap items_core c.as_slice.ensures in
    let more = numbering_inserted (pointwise dotted_eq) listed_core cores_same c.in_ok-core.core lists c.loop-state.cores.keys
    c.insert_full.new.self.keys c.loop-state.numbers.items c.in_ok-number.number c.loop-state.invariant c.in_ok-number.ensures.keys
    c.in_ok-number.ensures.stored in
    let all = ap (map core_in_state) (take_get states i state at) ∙ map_last core_in_state (take i states) state
    ∙ ap (λ (x : List DottedProduction). lists ++ x ∷ []) (sym core) in
    subst (λ ns. IsNumbering (map core_in_state (take (i + 1) states)) keys ns) (sym c.in_ok-push.ensures.items)
    (subst (λ ls. IsNumbering ls keys (c.loop-state.numbers.items ++ c.in_ok-number.number ∷ [])) (sym all) more)

pub returns : goal.returns
returns c =
    let states = c.args.states.now in
    let i = c.loop-state.state-index in
    let all = take_whole states i (omega (arith, c.loop-state-test.false)) in
    numbering_done (map core_in_state states) (map listed_core c.loop-state.cores.keys) c.loop-state.numbers.items
    (subst (λ xs. IsNumbering (map core_in_state xs) (map listed_core c.loop-state.cores.keys) c.loop-state.numbers.items) all
    c.loop-state.invariant)
