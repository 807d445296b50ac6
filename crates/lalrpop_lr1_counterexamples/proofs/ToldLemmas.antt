-- Conflicts that are told of canonical states stand there, before the least token of their lookaheads: for the law on them.
use Rattle.std.proofs.Common.{◌≡◌, ◌∙◌, ℕ, zero, suc, ◌+◌, ◌<◌, ◌≤◌, ◌⊎◌, ⊎_elim, Bool}
use Rattle.std.proofs.Common.{true, false, cond, eqb, List, [], ◌∷◌, length, map, filter, Option, Some, None}
use Rattle.std.proofs.Common.{Contains, ap, sym, refl, subst, arith}
use Rattle.std.specs.Prelude.{flat_map, option_map, slice_get, if◌then◌else◌}
use Rattle.std.specs.List.{range_with_len}
use Rattle.std.proofs.lemmas.Bool.{and_parts, eq-eqb, eqb-true, false≢true, or_cases, or_left}
use Rattle.std.proofs.lemmas.List.Elements.{All-contains, Contains-append_cases}
use Rattle.lalrpop_grammar_symbols.specs.Symbols.{Text}
use Rattle.lalrpop_grammar_symbols.specs.Views.{terminal_view}
use Rattle.lalrpop_grammar_symbols.specs.declared.names.NonterminalString.{NonterminalString}
use Rattle.lalrpop_grammar_symbols.specs.declared.terminal.TerminalString.{TerminalString}
use Rattle.lalrpop_grammar_repr.specs.Maps.{at_terminal}
use Rattle.lalrpop_grammar_repr.specs.declared.grammar.Grammar.{Grammar}
use Rattle.lalrpop_grammar_repr.specs.declared.terminal_set.TerminalSet.{TerminalSet}
use Rattle.lalrpop_lr1_theory.specs.Automata.{Finished}
use Rattle.lalrpop_lr1_theory.specs.CanonicalStates.{AreCanonicalStates}
use Rattle.lalrpop_lr1_theory.specs.Productions as theory
use Rattle.lalrpop_lr1_theory.specs.States as states
use Rattle.lalrpop_lr1_theory.specs.States.{HasLookahead, finished_reductions}
use Rattle.lalrpop_lr1_theory.proofs.ListLemmas.{contains_get, contains_split, get_contains}
use Rattle.lalrpop_lr1_theory.proofs.ReductionLemmas.{reduces_finished}
use Rattle.lalrpop_lr1_theory.proofs.StepLemmas.{some_same}
use Rattle.lalrpop_sets.specs.AscendingLists.{has}
use Rattle.lalrpop_sets.specs.Tokens.{eof_number, has_number}
use Rattle.lalrpop_sets.specs.TokensLeft.{token_of_number, token_or}
use Rattle.lalrpop_lr1_core.specs.Conflicts.{ReductionEntry, ShiftEntry, in_both, later_pairs, pair_conflict, pairs_conflicts}
use Rattle.lalrpop_lr1_core.specs.Conflicts.{sharing_conflict, shift_conflict, shift_conflicts, shift_record, token_conflicts}
use Rattle.lalrpop_lr1_core.specs.Numbering.{NumbersArePlaces}
use Rattle.lalrpop_lr1_core.specs.Views.{lr_state_view, next_of_number, production_view, reduction_view, shift_view}
use Rattle.lalrpop_lr1_core.specs.Views.{token_lookahead}
use Rattle.lalrpop_lr1_core.specs.declared.conflict.Action.TheVariants as actions
use Rattle.lalrpop_lr1_core.specs.declared.conflict.Conflict.{Conflict}
use Rattle.lalrpop_lr1_core.specs.declared.state.State.{State}
use Rattle.lalrpop_lr1_core.specs.declared.table_fault.TableConstructionError.{TableConstructionError}
use Rattle.lalrpop_lr1_core.specs.declared.table_fault.TableFault.TheVariants as faults
use Rattle.lalrpop_lr1_core.proofs.ConflictLemmas.{has_in_both}
use Rattle.lalrpop_lr1_core.proofs.MemberLemmas.{filter_has, in_pairs, map_has, range_has}
use Rattle.lalrpop_lr1_core.proofs.NoConflictLemmas.{mapped_at}
use Rattle.lalrpop_lr1_first.specs.NumberedGrammars.{HasItsTerminals}
use Rattle.lalrpop_lr1_build.specs.BuiltStates.{IsCanonicalFault}
use Rattle.lalrpop_lr1_core.specs.TheoryGrammars.{theory_grammar}
use Rattle.lalrpop_lr1_counterexamples.specs.StandingConflicts.{IsStandingConflict, IsToldConflict, next_of_token}
use Rattle.lalrpop_lr1_theory.proofs.NameLemmas.{no_element}
use Rattle.lalrpop_lr1_core.proofs.GraphLemmas.{in_flat}

only_one : {X : Type 0} (x y : X) → Contains (x ∷ []) y → x ≡ y
only_one x y c = ⊎_elim (λ e. e) (λ d. absurd (no_element y d)) (contains_split x y [] c)

has_first : (k : ℕ) (ks : List ℕ) → has (k ∷ ks) k ≡ true
has_first k ks = or_left (eqb k k) (has ks k) (eq-eqb k k refl)

has_only : (j k : ℕ) → has (j ∷ []) k ≡ true → j ≡ k
has_only j k h = ⊎_elim (eqb-true j k) (λ e. absurd (false≢true e)) (or_cases (eqb j k) false h)

-- the numbers from a on that pass a test begin with one and the same number, wherever they end behind one that passes
first_passing : (p : ℕ → Bool) (a n k : ℕ) → p k ≡ true → a ≤ k → k < a + n →
    (j : ℕ) × (p j ≡ true) × ((m : ℕ) → n ≤ m → slice_get (filter p (range_with_len a m)) 0 ≡ Some j)
first_passing p a zero k h l b = absurd (omega arith)
first_passing p a (suc n) k h l b =
    go (p a) refl (λ d. first_passing p (a + 1) n k h (omega arith) (omega arith))
  where
    first_of : ℕ → Bool → Option ℕ
    first_of m b = slice_get (cond b (a ∷ filter p (range_with_len (a + 1) m)) (filter p (range_with_len (a + 1) m))) 0

    here : p a ≡ true → (m : ℕ) → suc n ≤ m → slice_get (filter p (range_with_len a m)) 0 ≡ Some a
    here e zero g = absurd (omega arith)
    here e (suc m) g = ap (first_of m) e

    later : p a ≡ false → (j : ℕ) → ((m : ℕ) → n ≤ m → slice_get (filter p (range_with_len (a + 1) m)) 0 ≡ Some j) →
        (m : ℕ) → suc n ≤ m → slice_get (filter p (range_with_len a m)) 0 ≡ Some j
    later e j at zero g = absurd (omega arith)
    later e j at (suc m) g = ap (first_of m) e ∙ at m (omega arith)

    go : (c : Bool) → p a ≡ c →
        ((a ≡ k → ⊥) →
        (j : ℕ) × (p j ≡ true) × ((m : ℕ) → n ≤ m → slice_get (filter p (range_with_len (a + 1) m)) 0 ≡ Some j)) →
        (j : ℕ) × (p j ≡ true) × ((m : ℕ) → suc n ≤ m → slice_get (filter p (range_with_len a m)) 0 ≡ Some j)
    go true e deeper = (a, e, here e)
    go false e deeper =
        let r = deeper (λ same. false≢true (sym e ∙ ap p same ∙ h)) in
        (r.0, r.1, later e r.0 r.2)

-- the token with a number tells what comes next
token_next : (o : Option TerminalString) (end : Bool) → next_of_token (token_or o end) ≡ option_map terminal_view o
token_next (Some t) end = refl
token_next None true = refl
token_next None false = refl

-- a conflict is told rightly where it stands before each of its numbers, and one of them is a terminal's or the end's
rightly_told : (ts : TerminalSet) (all : List states.State) (conflict : Conflict (List ℕ)) (k : ℕ) →
    has conflict.lookahead k ≡ true → k ≤ eof_number ts →
    ((j : ℕ) → has conflict.lookahead j ≡ true → IsStandingConflict all (next_of_number ts j) conflict) →
    IsToldConflict ts all conflict
rightly_told ts all conflict k h b stands =
    let found = first_passing (has conflict.lookahead) 0 (eof_number ts + 1) k h (omega arith) (omega arith) in
    record {
      next = next_of_number ts found.0;
      least = mapped_at (next_of_number ts) (filter (has conflict.lookahead) (range_with_len 0 (eof_number ts + 1))) 0 found.0
          (found.2 (eof_number ts + 1) (omega arith));
      token = token_of_number ts found.0;
      first_token = mapped_at (token_of_number ts) (filter (has conflict.lookahead) (range_with_len 0 (eof_number ts + 2))) 0 found.0
          (found.2 (eof_number ts + 2) (omega arith));
      token_is = token_next (slice_get ts.all found.0) (eqb found.0 (eof_number ts));
      stands = stands found.0 found.1;
    }

-- a number of a set tells what comes next by it
next_has : (ts : TerminalSet) (s : List ℕ) (k : ℕ) → has s k ≡ true → k ≤ eof_number ts →
    Contains (token_lookahead ts s).nexts (next_of_number ts k)
next_has ts s k h b =
    map_has (next_of_number ts) (filter (has s) (range_with_len 0 (eof_number ts + 1))) k
    (filter_has (has s) (range_with_len 0 (eof_number ts + 1)) k h (range_has 0 (eof_number ts + 1) k (omega arith) (omega arith)))

-- the item that a reduction is by
abbrev item_by : states.Reduction → states.Item
item_by r = record { production = r.production; dot = length r.production.right; lookahead = r.lookahead }

-- a list has the items that two reductions are by, in their order
abbrev HasBothItems : states.Reduction → states.Reduction → List states.Item → Type 0
HasBothItems q r items =
    (m : ℕ) × (n : ℕ) × (m < n) × (slice_get items m ≡ Some (item_by q)) × (slice_get items n ≡ Some (item_by r))

module _ (item : states.Item) (items : List states.Item) where
  abbrev reduction_of : states.Reduction
  reduction_of = record { production = item.production; lookahead = item.lookahead }

  abbrev chosen : Bool → List states.Reduction
  chosen b = cond b (reduction_of ∷ finished_reductions items) (finished_reductions items)

  abbrev IsFinished : Bool → Type 0
  IsFinished b = eqb item.dot (length item.production.right) ≡ b

  finished_first : IsFinished true → (r : states.Reduction) → Some reduction_of ≡ Some r → Some item ≡ Some (item_by r)
  finished_first f r e =
      ap (λ k. Some (record { production = item.production; dot = k; lookahead = item.lookahead }))
      (eqb-true item.dot (length item.production.right) f) ∙ ap (λ q. Some (item_by q)) (some_same reduction_of r e)

-- a reduction is by an item
item_at : (items : List states.Item) (k : ℕ) (r : states.Reduction) → slice_get (finished_reductions items) k ≡ Some r →
    (m : ℕ) × (slice_get items m ≡ Some (item_by r))
item_at [] k r e = let w : ⊥ = cc in absurd w
item_at (item ∷ items) k r e = go (eqb item.dot (length item.production.right)) refl k (λ j. item_at items j r) e
  where
    go : (b : Bool) → IsFinished item items b → (k : ℕ) →
        ((j : ℕ) → slice_get (finished_reductions items) j ≡ Some r → (m : ℕ) × (slice_get items m ≡ Some (item_by r))) →
        slice_get (chosen item items b) k ≡ Some r → (m : ℕ) × (slice_get (item ∷ items) m ≡ Some (item_by r))
    go true f zero deeper e = (0, finished_first item items f r e)
    go true f (suc k) deeper e = let p = deeper k e in (suc p.0, p.1)
    go false f k deeper e = let p = deeper k e in (suc p.0, p.1)

-- two reductions are by two items
items_at : (items : List states.Item) (j k : ℕ) (q r : states.Reduction) → j < k →
    slice_get (finished_reductions items) j ≡ Some q → slice_get (finished_reductions items) k ≡ Some r → HasBothItems q r items
items_at [] j k q r l e h = let w : ⊥ = cc in absurd w
items_at (item ∷ items) j k q r l e h =
    go (eqb item.dot (length item.production.right)) refl j k l (λ i n. items_at items i n q r) e h
  where
    further : HasBothItems q r items → HasBothItems q r (item ∷ items)
    further p = (suc p.0, suc p.1, omega (arith, p.2), p.3, p.4)

    go : (b : Bool) → IsFinished item items b → (j k : ℕ) → j < k →
        ((i n : ℕ) → i < n → slice_get (finished_reductions items) i ≡ Some q →
        slice_get (finished_reductions items) n ≡ Some r → HasBothItems q r items) →
        slice_get (chosen item items b) j ≡ Some q → slice_get (chosen item items b) k ≡ Some r → HasBothItems q r (item ∷ items)
    go true f j zero l deeper e h = absurd (omega arith)
    go true f zero (suc k) l deeper e h =
        let p = item_at items k r h in
        (0, suc p.0, omega arith, finished_first item items f q e, p.1)
    go true f (suc j) (suc k) l deeper e h = further (deeper j k (omega arith) e h)
    go false f j k l deeper e h = further (deeper j k l e h)

module _ (ts : TerminalSet) (placed : NumbersArePlaces ts) (grammar : List theory.Production) (s : Text)
    (built : List (State (List ℕ))) (can : AreCanonicalStates grammar s (map (lr_state_view (token_lookahead ts)) built)) where
  abbrev seen : State (List ℕ) → states.State
  seen = lr_state_view (token_lookahead ts)

  abbrev all : List states.State
  all = map seen built

  -- the state reduces before terminals and the end alone
  abbrev ReducesToEnd : State (List ℕ) → Type 0
  ReducesToEnd state = (r : ReductionEntry) → Contains state.reductions r → (k : ℕ) → has r.0 k ≡ true → k ≤ eof_number ts

  module _ (state : State (List ℕ)) (at : slice_get built state.index.0 ≡ Some state) (to_end : ReducesToEnd state) where
    seen_at : slice_get all state.index.0 ≡ Some (seen state)
    seen_at = mapped_at seen built state.index.0 state at

    -- before each number of a reduction an item of its production is finished
    finished_before : (r : ReductionEntry) → Contains state.reductions r → (k : ℕ) → has r.0 k ≡ true →
        Finished (HasLookahead all) state.index.0 (production_view r.1.now) (next_of_number ts k)
    finished_before r c k h =
        (reduces_finished grammar s all can state.index.0 (production_view r.1.now) (next_of_number ts k)).0
        (record {
          state = seen state;
          lookahead = token_lookahead ts r.0;
          at = seen_at;
          held = map_has (reduction_view (token_lookahead ts)) state.reductions r c;
          follows = next_has ts r.0 k h (to_end r c k h);
        })

    -- reductions at two places are by two productions
    two_productions : (j k : ℕ) (q r : ReductionEntry) → j < k → slice_get state.reductions j ≡ Some q →
        slice_get state.reductions k ≡ Some r → production_view q.1.now ≡ production_view r.1.now → ⊥
    two_productions j k q r l e h same =
        let finished = can.reductions state.index.0 (seen state) seen_at in
        let p = items_at (seen state).items j k (look q) (look r) l
        (subst (λ rs. slice_get rs j ≡ Some (look q)) finished (mapped_at look state.reductions j q e))
        (subst (λ rs. slice_get rs k ≡ Some (look r)) finished (mapped_at look state.reductions k r h)) in
        let one = can.once state.index.0 (seen state) p.0 p.1 (item_by (look q)) (item_by (look r)) seen_at p.3 p.4 same
        (ap (λ w. length w.right) same) in
        omega (arith, p.2, one)
      where
        look : ReductionEntry → states.Reduction
        look = reduction_view (token_lookahead ts)

    module _ (conflict : Conflict (List ℕ)) where
      -- a conflict of a shift with a reduction
      shift_told : (e : ShiftEntry) → Contains state.shifts e → (r : ReductionEntry) → Contains state.reductions r →
          (n : Option ℕ) → at_terminal e.0 ts.bits ≡ n → (b : Bool) → has_number r.0 n ≡ b →
          Contains (if b then shift_record state.index e n r.1 ∷ [] else []) conflict → IsToldConflict ts all conflict
      shift_told e c r d n number false h told = absurd (no_element conflict told)
      shift_told e c r d None number true h told = absurd (false≢true h)
      shift_told e c r d (Some k) number true h told =
          subst (IsToldConflict ts all) (only_one the_conflict conflict told)
          (rightly_told ts all the_conflict k (has_first k []) (to_end r d k h)
          (λ j i. subst (λ m. IsStandingConflict all (next_of_number ts m) the_conflict) (has_only k j i) stands))
        where
          the_conflict : Conflict (List ℕ)
          the_conflict = shift_record state.index e (Some k) r.1

          stands : IsStandingConflict all (next_of_number ts k) the_conflict
          stands = record {
            reduces = finished_before r d k h;
            acts = (
              (seen state, seen_at, map_has shift_view state.shifts e c),
              sym (ap (option_map terminal_view) (placed k e.0 number)),
            );
          }

      -- a conflict of two reductions
      pair_told : (q : ReductionEntry) → Contains state.reductions q → (r : ReductionEntry) → Contains state.reductions r →
          (production_view q.1.now ≡ production_view r.1.now → ⊥) → (both : List ℕ) → in_both q.0 r.0 ≡ both →
          Contains (sharing_conflict state.index (q, r) both) conflict → IsToldConflict ts all conflict
      pair_told q c r d apart [] shared told = absurd (no_element conflict told)
      pair_told q c r d apart (k ∷ ks) shared told =
          subst (IsToldConflict ts all) (only_one the_conflict conflict told)
          (rightly_told ts all the_conflict k (has_first k ks) (to_end q c k (in_two k (has_first k ks)).0) stands)
        where
          the_conflict : Conflict (List ℕ)
          the_conflict = record { state = state.index; lookahead = k ∷ ks; production = q.1; action = actions.Reduce r.1 }

          in_two : (j : ℕ) → has (k ∷ ks) j ≡ true → (has q.0 j ≡ true) × (has r.0 j ≡ true)
          in_two j h = and_parts (has q.0 j) (has r.0 j) (sym (has_in_both q.0 r.0 j) ∙ ap (λ l. has l j) shared ∙ h)

          stands : (j : ℕ) → has (k ∷ ks) j ≡ true → IsStandingConflict all (next_of_number ts j) the_conflict
          stands j h = record {
            reduces = finished_before q c j (in_two j h).0;
            acts = (finished_before r d j (in_two j h).1, apart);
          }

      -- a conflict of the state
      state_told : Contains (token_conflicts ts state) conflict → IsToldConflict ts all conflict
      state_told told =
          ⊎_elim of_shift of_pair
          (Contains-append_cases (flat_map (shift_conflicts ts state.index state.reductions) state.shifts)
          (pairs_conflicts state.index state.reductions) conflict told)
        where
          of_shift : Contains (flat_map (shift_conflicts ts state.index state.reductions) state.shifts) conflict →
              IsToldConflict ts all conflict
          of_shift c =
              let e = in_flat (shift_conflicts ts state.index state.reductions) state.shifts conflict c in
              let n = at_terminal e.0.0 ts.bits in
              let r = in_flat (shift_conflict state.index e.0 n) state.reductions conflict e.2 in
              shift_told e.0 e.1 r.0 r.1 n refl (has_number r.0.0 n) refl r.2

          of_pair : Contains (pairs_conflicts state.index state.reductions) conflict → IsToldConflict ts all conflict
          of_pair c =
              let p = in_flat (pair_conflict state.index) (later_pairs state.reductions) conflict c in
              let i = in_pairs state.reductions p.0.0 p.0.1 p.1 in
              pair_told p.0.0 (get_contains state.reductions i.0 p.0.0 i.3) p.0.1 (get_contains state.reductions i.1 p.0.1 i.4)
              (two_productions i.0 i.1 p.0.0 p.0.1 i.2 i.3 i.4) (in_both p.0.0.0 p.0.1.0) refl p.2

  -- a conflict of one of the states
  states_told : ((n : ℕ) (state : State (List ℕ)) → slice_get built n ≡ Some state → ReducesToEnd state) →
      (conflict : Conflict (List ℕ)) → Contains (flat_map (token_conflicts ts) built) conflict → IsToldConflict ts all conflict
  states_told to_end conflict c =
      let f = in_flat (token_conflicts ts) built conflict c in
      let k = contains_get built f.0 f.1 in
      let index = can.index k.0 (seen f.0) (mapped_at seen built k.0 f.0 k.1) in
      state_told f.0 (subst (λ n. slice_get built n ≡ Some f.0) (sym index) k.1) (to_end k.0 f.0 k.1) conflict f.2

-- a conflict that is told of a grammar's canonical states
pub told_stand : (g : Grammar) (start : NonterminalString) (error : TableConstructionError (List ℕ)) → HasItsTerminals g →
    IsCanonicalFault g start (faults.Conflicts error) → (i : ℕ) (conflict : Conflict (List ℕ)) →
    slice_get error.conflicts.items i ≡ Some conflict →
    IsToldConflict g.terminals (map (lr_state_view (token_lookahead g.terminals)) error.states.items) conflict
told_stand g start error own fault i conflict at =
    states_told g.terminals own.numbered.places (theory_grammar g) start.0 error.states.items fault.states_are.constructed
    (λ n state there r c.
    All-contains (λ (e : ReductionEntry). (k : ℕ) → has e.0 k ≡ true → k ≤ eof_number g.terminals) state.reductions r
    (fault.states_are.tokens n state there) c)
    conflict (subst (λ l. Contains l conflict) fault.conflicts_are (get_contains error.conflicts.items i conflict at))
