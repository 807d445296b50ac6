-- The conflicts of one state stand in their order, and none is left out: for all conflicts of canonical states.
use Rattle.std.proofs.Common.{◌≡◌, ◌∙◌, ◌<◌, ◌≤◌, ◌⊎◌, inl, inr, ⊎_elim, ℕ, ◌+◌, ◌&&◌, Bool, true, false}
use Rattle.std.proofs.Common.{List, [], ◌∷◌, filter, Option, Some, None, Contains, ap, sym, refl, subst, arith}
use Rattle.std.specs.Prelude.{flat_map, option_map, slice_get, if◌then◌else◌}
use Rattle.std.specs.List.{range_with_len}
use Rattle.std.proofs.lemmas.Bool.{cases_lt, false≢true}
use Rattle.std.proofs.lemmas.List.Elements.{Contains-append_cases, Contains-append_left, Contains-append_right}
use Rattle.lalrpop_grammar_symbols.specs.Views.{terminal_view}
use Rattle.lalrpop_grammar_symbols.specs.declared.terminal.TerminalString.{TerminalString}
use Rattle.lalrpop_grammar_repr.specs.Maps.{at_terminal}
use Rattle.lalrpop_grammar_repr.specs.declared.terminal_set.TerminalSet.{TerminalSet}
use Rattle.lalrpop_lr1_theory.specs.Productions.{Next, Production}
use Rattle.lalrpop_lr1_theory.proofs.ListLemmas.{contains_get, contains_here, contains_split}
use Rattle.lalrpop_lr1_theory.proofs.NameLemmas.{no_element}
use Rattle.lalrpop_lr1_theory.proofs.StepLemmas.{some_same}
use Rattle.lalrpop_sets.specs.AscendingLists.{has}
use Rattle.lalrpop_sets.specs.Tokens.{eof_number, has_number}
use Rattle.lalrpop_lr1_core.specs.Conflicts.{ReductionEntry, ShiftEntry, in_both, later_pairs, pair_conflict, pairs_conflicts}
use Rattle.lalrpop_lr1_core.specs.Conflicts.{sharing_conflict, shift_conflict, shift_conflicts, shift_record, token_conflicts}
use Rattle.lalrpop_lr1_core.specs.Numbering.{IsNumberedByPlaces}
use Rattle.lalrpop_lr1_core.specs.Views.{next_of_number, production_view, token_lookahead}
use Rattle.lalrpop_lr1_core.specs.declared.conflict.Action.{Action}
use Rattle.lalrpop_lr1_core.specs.declared.conflict.Action.TheVariants as actions
use Rattle.lalrpop_lr1_core.specs.declared.conflict.Conflict.{Conflict}
use Rattle.lalrpop_lr1_core.specs.declared.state.State.{State}
use Rattle.lalrpop_lr1_core.specs.declared.state_index.StateIndex.{StateIndex}
use Rattle.lalrpop_lr1_core.proofs.ConflictLemmas.{has_in_both}
use Rattle.lalrpop_lr1_core.proofs.GraphLemmas.{flat_has, in_flat}
use Rattle.lalrpop_lr1_core.proofs.MemberLemmas.{filter_has, in_filter, in_map, in_pairs, in_range, map_has, pair_there, range_has}
use Rattle.lalrpop_lr1_core.proofs.NoConflictLemmas.{nothing_there, same_terminal}
use Rattle.lalrpop_run.specs.AllConflicts.{IsConflictBefore, ReductionConflict, with_reduction, with_shift}
use Rattle.lalrpop_run.specs.ConflictOrders.{IsProductionBefore, IsTerminalBefore}
use Rattle.lalrpop_run.proofs.ConflictOrderLemmas.{never_itself, productions_total}
use Rattle.lalrpop_run.proofs.OrderedListLemmas.{AreInOrder, flat_in_order, joined_in_order, none_in_order, one_in_order}
use Rattle.lalrpop_run.proofs.OrderedListLemmas.{pairs_in_order}

-- what the theory sees of a conflict
abbrev pub seen_conflict : Production → Action → ReductionConflict
seen_conflict p (actions.Shift t target) = with_shift p (terminal_view t)
seen_conflict p (actions.Reduce q) = with_reduction p (production_view q.now)

abbrev pub conflict_seen : Conflict (List ℕ) → ReductionConflict
conflict_seen c = seen_conflict (production_view c.production.now) c.action

-- reductions in the order of their productions, shifts in that of their terminals
abbrev pub entry_production : ReductionEntry → Production
entry_production r = production_view r.1.now

abbrev pub IsEntryBefore : ReductionEntry → ReductionEntry → Type 0
IsEntryBefore a b = IsProductionBefore (entry_production a) (entry_production b)

abbrev pub IsShiftBefore : ShiftEntry → ShiftEntry → Type 0
IsShiftBefore a b = IsTerminalBefore (terminal_view a.0) (terminal_view b.0)

-- conflicts in the order of what is seen of them
abbrev pub IsSeenBefore : Conflict (List ℕ) → Conflict (List ℕ) → Type 0
IsSeenBefore c d = IsConflictBefore (conflict_seen c) (conflict_seen d)

before_by : (y z u v : ReductionConflict) → y ≡ u → z ≡ v → IsConflictBefore u v → IsConflictBefore y z
before_by y z u v e f h = subst (λ w. IsConflictBefore w z) (sym e) (subst (IsConflictBefore u) (sym f) h)

the_only : {X : Type 0} (x y : X) → Contains (x ∷ []) y → y ≡ x
the_only x y c = ⊎_elim (λ e. sym e) (λ d. absurd (no_element y d)) (contains_split x y [] c)

-- the conflict of a shift and a reduction
abbrev of_shift : ShiftEntry → ReductionEntry → ReductionConflict
of_shift e r = with_shift (entry_production r) (terminal_view e.0)

-- that of two reductions
abbrev of_pair : ReductionEntry → ReductionEntry → ReductionConflict
of_pair q r = with_reduction (entry_production q) (entry_production r)

in_shift : (state : StateIndex) (e : ShiftEntry) (n : Option ℕ) (r : ReductionEntry) (b : Bool) (c : Conflict (List ℕ))
    → Contains (if b then shift_record state e n r.1 ∷ [] else []) c → (c.state ≡ state) × (conflict_seen c ≡ of_shift e r)
in_shift state e n r false c d = absurd (no_element c d)
in_shift state e n r true c d =
    let same = the_only (shift_record state e n r.1) c d in
    (ap (λ (v : Conflict (List ℕ)). v.state) same, ap conflict_seen same)

in_sharing : (state : StateIndex) (pair : ReductionEntry × ReductionEntry) (both : List ℕ) (c : Conflict (List ℕ))
    → Contains (sharing_conflict state pair both) c
    → (c.state ≡ state) × (conflict_seen c ≡ of_pair pair.0 pair.1) × (c.lookahead ≡ both)
in_sharing state pair [] c d = absurd (no_element c d)
in_sharing state pair (k ∷ ks) c d =
    let one : Conflict (List ℕ) =
    record { state = state; lookahead = k ∷ ks; production = pair.0.1; action = actions.Reduce pair.1.1 } in
    let same = the_only one c d in (
      ap (λ (v : Conflict (List ℕ)). v.state) same,
      ap conflict_seen same,
      ap (λ (v : Conflict (List ℕ)). v.lookahead) same,
    )

one_shift_in_order : (c : Conflict (List ℕ)) (b : Bool) → AreInOrder IsSeenBefore (if b then c ∷ [] else [])
one_shift_in_order c true = one_in_order IsSeenBefore c
one_shift_in_order c false = none_in_order IsSeenBefore

one_pair_in_order : (state : StateIndex) (pair : ReductionEntry × ReductionEntry) (both : List ℕ)
    → AreInOrder IsSeenBefore (sharing_conflict state pair both)
one_pair_in_order state pair [] = none_in_order IsSeenBefore
one_pair_in_order state pair (k ∷ ks) =
    one_in_order IsSeenBefore (record { state = state; lookahead = k ∷ ks; production = pair.0.1; action = actions.Reduce pair.1.1 })

module _ (ts : TerminalSet) (state : StateIndex) (entries : List ReductionEntry) (ordered : AreInOrder IsEntryBefore entries) where
  -- those of a shift
  shift_in_order : (e : ShiftEntry) (n : Option ℕ) → AreInOrder IsSeenBefore (flat_map (shift_conflict state e n) entries)
  shift_in_order e n =
      flat_in_order IsSeenBefore (shift_conflict state e n) entries
      (λ r c. one_shift_in_order (shift_record state e n r.1) (has_number r.0 n))
      (λ i j a b l f g y z c d.
      before_by (conflict_seen y) (conflict_seen z) (of_shift e a) (of_shift e b) (in_shift state e n a (has_number a.0 n) y c).1
      (in_shift state e n b (has_number b.0 n) z d).1 (inr (refl, ordered i j a b l f g)))

  seen_shift : (e : ShiftEntry) (c : Conflict (List ℕ)) → Contains (shift_conflicts ts state entries e) c
      → (r : ReductionEntry) × Contains entries r × (c.state ≡ state) × (conflict_seen c ≡ of_shift e r)
  seen_shift e c d =
      let n = at_terminal e.0 ts.bits in
      let r = in_flat (shift_conflict state e n) entries c d in
      let s = in_shift state e n r.0 (has_number r.0.0 n) c r.2 in
      (r.0, r.1, s.0, s.1)

  shifts_in_order : (shifts : List ShiftEntry) → AreInOrder IsShiftBefore shifts
      → AreInOrder IsSeenBefore (flat_map (shift_conflicts ts state entries) shifts)
  shifts_in_order shifts o =
      flat_in_order IsSeenBefore (shift_conflicts ts state entries) shifts
      (λ e c. shift_in_order e (at_terminal e.0 ts.bits))
      (λ i j a b l f g y z c d.
      let q = seen_shift a y c in
      let r = seen_shift b z d in
      before_by (conflict_seen y) (conflict_seen z) (of_shift a q.0) (of_shift b r.0) q.3 r.3 (inl (o i j a b l f g)))

  -- those of each reduction with one behind it
  pair_conflicts_in_order : AreInOrder IsSeenBefore (pairs_conflicts state entries)
  pair_conflicts_in_order =
      flat_in_order IsSeenBefore (pair_conflict state) (later_pairs entries)
      (λ p c. one_pair_in_order state p (in_both p.0.0 p.1.0))
      (λ i j p q l f g y z c d.
      before_by (conflict_seen y) (conflict_seen z) (of_pair p.0 p.1) (of_pair q.0 q.1) (in_sharing state p (in_both p.0.0 p.1.0) y c).1
      (in_sharing state q (in_both q.0.0 q.1.0) z d).1
      (⊎_elim (λ h. inl h) (λ h. inr (ap entry_production h.0, h.1)) (pairs_in_order IsEntryBefore entries ordered i j p q l f g)))

module _ (ts : TerminalSet) (state : State (List ℕ)) where
  -- the state reduces by the production before what may come next
  pub record HasEntry (p : Production) (x : Next) : Type 0 where
    pub entry : ReductionEntry
    pub there : Contains state.reductions entry
    pub by : entry_production entry ≡ p
    pub follows : Contains (token_lookahead ts entry.0).nexts x

  -- a conflict of the state is seen as this one
  abbrev pub IsTold : ReductionConflict → Type 0
  IsTold seen = (c : Conflict (List ℕ)) × Contains (token_conflicts ts state) c × (conflict_seen c ≡ seen)

  -- a conflict of a shift of the state, and one of two of its reductions
  record IsOfShift (c : Conflict (List ℕ)) : Type 0 where
    shift : ShiftEntry
    reduction : ReductionEntry
    shift_there : Contains state.shifts shift
    there : Contains state.reductions reduction
    state_is : c.state ≡ state.index
    seen : conflict_seen c ≡ of_shift shift reduction

  record IsOfPair (c : Conflict (List ℕ)) : Type 0 where
    one : ℕ
    other : ℕ
    first : ReductionEntry
    second : ReductionEntry
    less : one < other
    at_one : slice_get state.reductions one ≡ Some first
    at_other : slice_get state.reductions other ≡ Some second
    state_is : c.state ≡ state.index
    seen : conflict_seen c ≡ of_pair first second
    shared : c.lookahead ≡ in_both first.0 second.0

  conflict_cases : (c : Conflict (List ℕ)) → Contains (token_conflicts ts state) c → IsOfShift c ⊎ IsOfPair c
  conflict_cases c d =
      ⊎_elim (λ h. inl (by_shift h)) (λ h. inr (by_pair h))
      (Contains-append_cases (flat_map (shift_conflicts ts state.index state.reductions) state.shifts)
      (pairs_conflicts state.index state.reductions) c d)
    where
      by_shift : Contains (flat_map (shift_conflicts ts state.index state.reductions) state.shifts) c → IsOfShift c
      by_shift h =
          let e = in_flat (shift_conflicts ts state.index state.reductions) state.shifts c h in
          let n = at_terminal e.0.0 ts.bits in
          let r = in_flat (shift_conflict state.index e.0 n) state.reductions c e.2 in
          let s = in_shift state.index e.0 n r.0 (has_number r.0.0 n) c r.2 in
          record { shift = e.0; reduction = r.0; shift_there = e.1; there = r.1; state_is = s.0; seen = s.1 }

      by_pair : Contains (pairs_conflicts state.index state.reductions) c → IsOfPair c
      by_pair h =
          let p = in_flat (pair_conflict state.index) (later_pairs state.reductions) c h in
          let k = in_pairs state.reductions p.0.0 p.0.1 p.1 in
          let s = in_sharing state.index p.0 (in_both p.0.0.0 p.0.1.0) c p.2 in
          record {
            one = k.0;
            other = k.1;
            first = p.0.0;
            second = p.0.1;
            less = k.2;
            at_one = k.3;
            at_other = k.4;
            state_is = s.0;
            seen = s.1;
            shared = s.2;
          }

  -- a conflict of the state names it
  pub conflict_of_state : (c : Conflict (List ℕ)) → Contains (token_conflicts ts state) c → c.state ≡ state.index
  conflict_of_state c d = ⊎_elim (λ h. h.state_is) (λ h. h.state_is) (conflict_cases c d)

  module _ (ordered : AreInOrder IsEntryBefore state.reductions) where
    -- the conflicts stand in their order
    pub conflicts_in_order : AreInOrder IsShiftBefore state.shifts → AreInOrder IsSeenBefore (token_conflicts ts state)
    conflicts_in_order o =
        joined_in_order IsSeenBefore (flat_map (shift_conflicts ts state.index state.reductions) state.shifts)
        (pairs_conflicts state.index state.reductions) (shifts_in_order ts state.index state.reductions ordered state.shifts o)
        (pair_conflicts_in_order ts state.index state.reductions ordered)
        (λ y z c d.
        let e = in_flat (shift_conflicts ts state.index state.reductions) state.shifts y c in
        let r = seen_shift ts state.index state.reductions ordered e.0 y e.2 in
        let p = in_flat (pair_conflict state.index) (later_pairs state.reductions) z d in
        before_by (conflict_seen y) (conflict_seen z) (of_shift e.0 r.0) (of_pair p.0.0 p.0.1) r.3
        (in_sharing state.index p.0 (in_both p.0.0.0 p.0.1.0) z p.2).1 tt)

    -- one reduction is by one production
    one_place : (i j : ℕ) (q r : ReductionEntry) → slice_get state.reductions i ≡ Some q → slice_get state.reductions j ≡ Some r
        → entry_production q ≡ entry_production r → i ≡ j
    one_place i j q r at_i at_j same = go (cases_lt i j) (cases_lt j i)
      where
        go : (i < j) ⊎ (j ≤ i) → (j < i) ⊎ (i ≤ j) → i ≡ j
        go (inl l) h =
            absurd (never_itself productions_total (entry_production r)
            (subst (λ p. IsProductionBefore p (entry_production r)) same (ordered i j q r l at_i at_j)))
        go (inr l) (inl m) =
            absurd (never_itself productions_total (entry_production r)
            (subst (IsProductionBefore (entry_production r)) same (ordered j i r q m at_j at_i)))
        go (inr l) (inr m) = omega (arith, l, m)

    one_entry : (i : ℕ) (q r : ReductionEntry) → slice_get state.reductions i ≡ Some q → Contains state.reductions r
        → entry_production r ≡ entry_production q → r ≡ q
    one_entry i q r at c same =
        let k = contains_get state.reductions r c in
        let one = one_place k.0 i r q k.1 at same in
        some_same r q (sym k.1 ∙ ap (slice_get state.reductions) one ∙ at)

    -- of two reductions the first has the production that comes first
    pub pair_apart : (c : Conflict (List ℕ)) → Contains (token_conflicts ts state) c → (p q : Production)
        → conflict_seen c ≡ with_reduction p q → IsProductionBefore p q
    pair_apart c d p q e = go (conflict_cases c d)
      where
        go : IsOfShift c ⊎ IsOfPair c → IsProductionBefore p q
        go (inl h) =
            let w : of_shift h.shift h.reduction ≡ with_reduction p q = sym h.seen ∙ e in let v : ⊥ = cc in absurd v
        go (inr h) =
            let w : of_pair h.first h.second ≡ with_reduction p q = sym h.seen ∙ e in
            let one : entry_production h.first ≡ p = cc in
            let other : entry_production h.second ≡ q = cc in
            subst (λ r. IsProductionBefore r q) one
            (subst (IsProductionBefore (entry_production h.first)) other
            (ordered h.one h.other h.first h.second h.less h.at_one h.at_other))

  module _ (numbered : IsNumberedByPlaces ts) where
    -- what comes next by a set has a number in it
    number_of_next : (s : List ℕ) (x : Next) → Contains (token_lookahead ts s).nexts x
        → (k : ℕ) × (has s k ≡ true) × (k ≤ eof_number ts) × (next_of_number ts k ≡ x)
    number_of_next s x c =
        let r = in_map (next_of_number ts) (filter (has s) (range_with_len 0 (eof_number ts + 1))) x c in
        let f = in_filter (has s) (range_with_len 0 (eof_number ts + 1)) r.0 r.1 in
        let b = in_range 0 (eof_number ts + 1) r.0 f.1 in
        (r.0, f.0, omega (arith, b.1), r.2)

    next_of_has : (s : List ℕ) (k : ℕ) → has s k ≡ true → k ≤ eof_number ts → Contains (token_lookahead ts s).nexts (next_of_number ts k)
    next_of_has s k h b =
        map_has (next_of_number ts) (filter (has s) (range_with_len 0 (eof_number ts + 1))) k
        (filter_has (has s) (range_with_len 0 (eof_number ts + 1)) k h
        (range_has 0 (eof_number ts + 1) k (omega arith) (omega (arith, b))))

    -- numbers up to the end's that are seen as one are one
    same_next : (j k : ℕ) → j ≤ eof_number ts → k ≤ eof_number ts → next_of_number ts j ≡ next_of_number ts k → j ≡ k
    same_next j k hj hk e = go (slice_get ts.all j) (slice_get ts.all k) refl refl e
      where
        go : (a b : Option TerminalString) → slice_get ts.all j ≡ a → slice_get ts.all k ≡ b
            → option_map terminal_view a ≡ option_map terminal_view b → j ≡ k
        go None None at_j at_k same = omega (arith, hj, hk, nothing_there ts.all j at_j, nothing_there ts.all k at_k)
        go None (Some u) at_j at_k same = let w : ⊥ = cc in absurd w
        go (Some t) None at_j at_k same = let w : ⊥ = cc in absurd w
        go (Some t) (Some u) at_j at_k same =
            let one : t ≡ u = same_terminal t u (some_same (terminal_view t) (terminal_view u) same) in
            some_same j k (sym (numbered j t at_j) ∙ ap (λ v. at_terminal v ts.bits) one ∙ numbered k u at_k)

    -- a terminal that comes next by a number has that number
    terminal_number : (t : TerminalString) (k : ℕ) → next_of_number ts k ≡ Some (terminal_view t) → at_terminal t ts.bits ≡ Some k
    terminal_number t k e = go (slice_get ts.all k) refl e
      where
        go : (a : Option TerminalString) → slice_get ts.all k ≡ a → option_map terminal_view a ≡ Some (terminal_view t)
            → at_terminal t ts.bits ≡ Some k
        go None at same = let w : ⊥ = cc in absurd w
        go (Some u) at same =
            let one : u ≡ t = same_terminal u t (some_same (terminal_view u) (terminal_view t) same) in
            ap (λ v. at_terminal v ts.bits) (sym one) ∙ numbered k u at

    -- two reductions before one that comes next share its number
    shared_number : (q r : ReductionEntry) (x : Next) → Contains (token_lookahead ts q.0).nexts x
        → Contains (token_lookahead ts r.0).nexts x
        → (k : ℕ) × (has (in_both q.0 r.0) k ≡ true) × (k ≤ eof_number ts) × (next_of_number ts k ≡ x)
    shared_number q r x c d =
        let m = number_of_next q.0 x c in
        let n = number_of_next r.0 x d in
        let one = same_next m.0 n.0 m.2 n.2 (m.3 ∙ sym n.3) in (
          m.0,
          has_in_both q.0 r.0 m.0 ∙ ap (λ b. b && has r.0 m.0) m.1 ∙ ap (has r.0) one ∙ n.1,
          m.2,
          m.3,
        )

    shared_there : (lookahead : List ℕ) (q r : ReductionEntry) (x : Next) → lookahead ≡ in_both q.0 r.0
        → Contains (token_lookahead ts q.0).nexts x → Contains (token_lookahead ts r.0).nexts x
        → Contains (token_lookahead ts lookahead).nexts x
    shared_there lookahead q r x e c d =
        let k = shared_number q r x c d in
        let yes : has lookahead k.0 ≡ true = ap (λ s. has s k.0) e ∙ k.1 in
        subst (Contains (token_lookahead ts lookahead).nexts) k.3 (next_of_has lookahead k.0 yes k.2)

    also_there : (q r : ReductionEntry) (x : Next) → q ≡ r → Contains (token_lookahead ts q.0).nexts x
        → Contains (token_lookahead ts r.0).nexts x
    also_there q r x e c = subst (λ (v : ReductionEntry). Contains (token_lookahead ts v.0).nexts x) e c

    -- a shift against a reduction before its terminal is told
    pub shift_told : (e : ShiftEntry) → Contains state.shifts e → (p : Production) → HasEntry p (Some (terminal_view e.0))
        → IsTold (with_shift p (terminal_view e.0))
    shift_told e there p h =
        let n = at_terminal e.0 ts.bits in
        let k = number_of_next h.entry.0 (Some (terminal_view e.0)) h.follows in
        let c = shift_record state.index e n h.entry.1 in
        let yes : has_number h.entry.0 n ≡ true = ap (has_number h.entry.0) (terminal_number e.0 k.0 k.3) ∙ k.1 in
        let one : Contains (shift_conflict state.index e n h.entry) c =
        subst (λ b. Contains (if b then c ∷ [] else []) c) (sym yes) (contains_here c []) in (
          c,
          Contains-append_left (flat_map (shift_conflicts ts state.index state.reductions) state.shifts)
              (pairs_conflicts state.index state.reductions) c
              (flat_has (shift_conflicts ts state.index state.reductions) state.shifts e c there
              (flat_has (shift_conflict state.index e n) state.reductions h.entry c h.there one)),
          ap (λ q. with_shift q (terminal_view e.0)) h.by,
        )

    sharing_there : (q r : ReductionEntry) (both : List ℕ) (k : ℕ) → has both k ≡ true
        → (c : Conflict (List ℕ)) × Contains (sharing_conflict state.index (q, r) both) c × (conflict_seen c ≡ of_pair q r)
    sharing_there q r [] k h = absurd (false≢true h)
    sharing_there q r (j ∷ js) k h =
        let c : Conflict (List ℕ) = record { state = state.index; lookahead = j ∷ js; production = q.1; action = actions.Reduce r.1 } in
        (c, contains_here c [], refl)

    module _ (ordered : AreInOrder IsEntryBefore state.reductions) where
      -- two reductions before one that comes next are told, the one whose production comes first in front
      pub pair_told : (p q : Production) (x : Next) → HasEntry p x → HasEntry q x → IsProductionBefore p q
          → IsTold (with_reduction p q)
      pair_told p q x a b before = go (cases_lt i.0 j.0) (cases_lt j.0 i.0)
        where
          i : (k : ℕ) × (slice_get state.reductions k ≡ Some a.entry)
          i = contains_get state.reductions a.entry a.there

          j : (k : ℕ) × (slice_get state.reductions k ≡ Some b.entry)
          j = contains_get state.reductions b.entry b.there

          told : i.0 < j.0 → IsTold (with_reduction p q)
          told l =
              let k = shared_number a.entry b.entry x a.follows b.follows in
              let s = sharing_there a.entry b.entry (in_both a.entry.0 b.entry.0) k.0 k.1 in (
                s.0,
                Contains-append_right (flat_map (shift_conflicts ts state.index state.reductions) state.shifts)
                    (pairs_conflicts state.index state.reductions) s.0
                    (flat_has (pair_conflict state.index) (later_pairs state.reductions) (a.entry, b.entry) s.0
                    (pair_there state.reductions i.0 j.0 a.entry b.entry i.1 j.1 l) s.1),
                s.2 ∙ ap (λ r. with_reduction r (entry_production b.entry)) a.by
                    ∙ ap (with_reduction p) b.by,
              )

          go : (i.0 < j.0) ⊎ (j.0 ≤ i.0) → (j.0 < i.0) ⊎ (i.0 ≤ j.0) → IsTold (with_reduction p q)
          go (inl l) h = told l
          go (inr l) (inl m) =
              let back : IsProductionBefore q p = subst (λ r. IsProductionBefore r p) b.by
              (subst (IsProductionBefore (entry_production b.entry)) a.by (ordered j.0 i.0 b.entry a.entry m j.1 i.1)) in
              absurd (never_itself productions_total p (productions_total.trans p q p before back))
          go (inr l) (inr m) =
              let one : i.0 ≡ j.0 = omega (arith, l, m) in
              let same : a.entry ≡ b.entry = some_same a.entry b.entry (sym i.1 ∙ ap (slice_get state.reductions) one ∙ j.1) in
              let equal : p ≡ q = sym a.by ∙ ap entry_production same ∙ b.by in
              absurd (never_itself productions_total q (subst (λ r. IsProductionBefore r q) equal before))

      -- the lookahead of a conflict of two reductions has all before which both may be done
      pub all_shared : (c : Conflict (List ℕ)) → Contains (token_conflicts ts state) c → (p q : Production)
          → conflict_seen c ≡ with_reduction p q → (x : Next) → HasEntry p x → HasEntry q x
          → Contains (token_lookahead ts c.lookahead).nexts x
      all_shared c d p q e x a b = go (conflict_cases c d)
        where
          go : IsOfShift c ⊎ IsOfPair c → Contains (token_lookahead ts c.lookahead).nexts x
          go (inl h) =
              let w : of_shift h.shift h.reduction ≡ with_reduction p q = sym h.seen ∙ e in
              let v : ⊥ = cc in absurd v
          go (inr h) =
              let w : of_pair h.first h.second ≡ with_reduction p q = sym h.seen ∙ e in
              let first : entry_production h.first ≡ p = cc in
              let second : entry_production h.second ≡ q = cc in
              let one = one_entry ordered h.one h.first a.entry h.at_one a.there (a.by ∙ sym first) in
              let other = one_entry ordered h.other h.second b.entry h.at_other b.there (b.by ∙ sym second) in
              shared_there c.lookahead h.first h.second x h.shared (also_there a.entry h.first x one a.follows)
              (also_there b.entry h.second x other b.follows)
