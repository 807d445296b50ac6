use Rattle.std.proofs.Common.{◌≡◌, ◌∙◌, ◌<◌, ◌≤◌, ◌+◌, ◌∷◌, [], List, Some, ap, arith, drop, get_or, length, length-append, map, rules, slice_get, subst, sym, ℕ}
use Rattle.std.specs.Global.{Global}
use Rattle.std.specs.Prelude.{Vec}
use Rattle.std.specs.Vec.Iter.{into_iter_items}
use Rattle.std.proofs.lemmas.List.{nil_from_length}
use Rattle.std.proofs.lemmas.Option.{slice_get_within}
use Rattle.lalrpop_lr1_theory.proofs.OrderLemmas.{image_get}
use Rattle.lalrpop_lr1_theory.proofs.StepLemmas.{some_same}
use Rattle.lalrpop_lr1_core.specs.declared.state.State.{State}
use Rattle.lalrpop_lr1_first.proofs.TableLemmas.{long_map}
use Rattle.lalrpop_lr1_check_lookaheads.proofs.GainLemmas.{get_at}
use Rattle.lalrpop_lr1_check_lookaheads.proofs.PairLemmas.{ArePaired, paired_more}
use Rattle.lalrpop_lane_tables.proofs.AppliedLemmas.{left_begins, none_left}
use Rattle.lalrpop_lane.specs.LaneStates.{AreBeforeSets, IsBeforeSets}
use Rattle.lalrpop_lane.proofs.carried.put_states_before.Goals as goal

abbrev items_of : List (Vec (List ℕ) Global) → List (List (List ℕ))
items_of sets = map (λ (own : Vec (List ℕ) Global). own.items) sets

abbrev Fits : List (Vec (List ℕ) Global) → ℕ → State (List ℕ) → State (List ℕ) → Type 0
Fits sets n state other = (own : List (List ℕ)) → slice_get (items_of sets) n ≡ Some own → IsBeforeSets own state other

-- the next of the states stands at its place, and the others behind it
next_state : (states : List (State (List ℕ))) (place : ℕ) (state : State (List ℕ)) (rest left : List (State (List ℕ))) →
    left ≡ drop place states → left ≡ state ∷ rest → (slice_get states place ≡ Some state) × (rest ≡ drop (place + 1) states)
next_state states place state rest left e f = left_begins states place state rest (sym f ∙ e)

-- the sets of a state stand at its place
own_sets : (sets : List (Vec (List ℕ) Global)) (states : List (State (List ℕ))) (place : ℕ) (own : Vec (List ℕ) Global) →
    length (items_of sets) ≡ length states → place < length states → own ≡ get_or sets place own →
    slice_get (items_of sets) place ≡ Some own.items
own_sets sets states place own count h is =
    let f = long_map (λ (own : Vec (List ℕ) Global). own.items) sets in
    image_get (λ (own : Vec (List ℕ) Global). own.items) sets place own (get_at sets place own (omega (arith, h, f, count)) is)

pub put_state_before-requires : goal.put_state_before-requires
put_state_before-requires c =
    let sets = c.args.sets.now in
    let states = c.args.states.items in
    let place = length c.loop-state.new.items in
    let state = c.in-Some.state in
    let own = c.index-sets-len.result in
    let next = next_state states place state (into_iter_items c.next.new.self) (into_iter_items c.loop-state.rest) c.loop-state.invariant.left
    c.in-Some.ensures.items in
    let inside : place < length states = slice_get_within states place state next.0 in
    let at : c.len.result ≡ place = omega (arith, c.len.ensures) in
    ap length c.as_slice-own.ensures.value
    ∙ c.requires.each place state own.items next.0
    (own_sets sets states place own c.requires.count inside (c.index-sets-len.is ∙ ap (λ k. get_or sets k own) at))

pub loop-state-preserved : goal.loop-state-preserved
loop-state-preserved c =
    let sets = c.args.sets.now in
    let states = c.args.states.items in
    let place = length c.loop-state.new.items in
    let state = c.in-Some.state in
    let own = c.index-sets-len.result in
    let made = c.in_ok-put_state_before.field-0 in
    let next = next_state states place state (into_iter_items c.next.new.self) (into_iter_items c.loop-state.rest) c.loop-state.invariant.left
    c.in-Some.ensures.items in
    let inside : place < length states = slice_get_within states place state next.0 in
    let at : c.len.result ≡ place = omega (arith, c.len.ensures) in
    let here = own_sets sets states place own c.requires.count inside (c.index-sets-len.is ∙ ap (λ k. get_or sets k own) at) in
    let before : IsBeforeSets own.items state made =
    record {
      reductions = subst (λ (l : List (List ℕ)). AreBeforeSets l state.reductions made.reductions) c.as_slice-own.ensures.value
          c.in_ok-put_state_before.ensures.sets;
      rest = c.in_ok-put_state_before.ensures.rest;
    } in
    let grown = ap length c.in_ok-push.ensures.items in
    let more : place + 1 ≡ length c.push.new.self.items = omega (arith, grown, length-append c.loop-state.new.items (made ∷ [])) in
    record {
      made = subst (λ (n : ℕ). ArePaired (Fits sets) states c.push.new.self.items n) more
          (paired_more (Fits sets) states c.loop-state.new.items c.push.new.self.items place state made c.loop-state.invariant.made next.0
          c.in_ok-push.ensures.items
          (λ row e. subst (λ (l : List (List ℕ)). IsBeforeSets l state made) (some_same own.items row (sym here ∙ e)) before));
      left = next.1 ∙ ap (λ n. drop n states) more;
    }

pub returns : goal.returns
returns c =
    let states = c.args.states.items in
    let none : into_iter_items c.loop-state.rest ≡ [] = nil_from_length (into_iter_items c.loop-state.rest) (search rules) in
    let over : length states ≤ length c.loop-state.new.items = none_left states (length c.loop-state.new.items) (sym none ∙ c.loop-state.invariant.left) in
    let done = c.loop-state.invariant.made in
    let count : length c.loop-state.new.items ≡ length states = omega (arith, over, done.within) in
    record { count = count; each = λ n state other own e f h. done.each n state other e f own h }
