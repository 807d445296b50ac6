-- A state with lookaheads that has no conflict has none in the theory's sense, where terminals are numbered by their places.
use Rattle.std.proofs.Common.{◌≡◌, ◌∙◌, ℕ, zero, suc, ◌+◌, ◌<◌, ◌≤◌, ◌⊎◌, inl, inr, Bool}
use Rattle.std.proofs.Common.{true, false, ◌&&◌}
use Rattle.std.proofs.Common.{List, [], ◌∷◌, ◌++◌, map, filter, length, Option, Some, None, Contains, ap, sym, refl, subst}
use Rattle.std.proofs.Common.{arith}
use Rattle.std.specs.Prelude.{flat_map, option_map, slice_get, if◌then◌else◌}
use Rattle.std.specs.List.{range_with_len}
use Rattle.std.proofs.lemmas.Bool.{cases_lt}
use Rattle.std.proofs.lemmas.List.Elements.{All-contains}
use Rattle.std.proofs.lemmas.Option.{slice_get_within}
use Rattle.lalrpop_grammar_symbols.specs.Symbols.{Terminal}
use Rattle.lalrpop_grammar_symbols.specs.Views.{literal_view, terminal_view}
use Rattle.lalrpop_grammar_symbols.specs.declared.terminal.TerminalLiteral.{TerminalLiteral}
use Rattle.lalrpop_grammar_symbols.specs.declared.terminal.TerminalLiteral.TheVariants as literals
use Rattle.lalrpop_grammar_symbols.specs.declared.terminal.TerminalString.{TerminalString}
use Rattle.lalrpop_grammar_symbols.specs.declared.terminal.TerminalString.TheVariants as terminals
use Rattle.lalrpop_grammar_repr.specs.Maps.{at_terminal}
use Rattle.lalrpop_grammar_repr.specs.declared.terminal_set.TerminalSet.{TerminalSet}
use Rattle.lalrpop_lr1_theory.specs.Productions.{Next}
use Rattle.lalrpop_lr1_theory.specs.States as states
use Rattle.lalrpop_lr1_theory.specs.CheckedStates.{HasNoConflict}
use Rattle.lalrpop_lr1_theory.proofs.ListLemmas.{contains_get, get_contains}
use Rattle.lalrpop_sets.specs.AscendingLists.{has}
use Rattle.lalrpop_sets.specs.Tokens.{eof_number, has_number}
use Rattle.lalrpop_lr1_core.specs.Conflicts.{ReductionEntry, ShiftEntry, in_both, later_pairs, pair_conflict, pairs_conflicts}
use Rattle.lalrpop_lr1_core.specs.Conflicts.{sharing_conflict, shift_conflict, shift_conflicts, shift_record, token_conflicts}
use Rattle.lalrpop_lr1_core.specs.Numbering.{IsNumberedByPlaces, IsOverTokens, NumbersArePlaces, ReducesOverTokens}
use Rattle.lalrpop_lr1_core.specs.Views.{lr_state_view, next_of_number, reduction_view, shift_view, token_lookahead}
use Rattle.lalrpop_lr1_core.specs.declared.state.State.{State}
use Rattle.lalrpop_lr1_core.specs.declared.state_index.StateIndex.{StateIndex}
use Rattle.lalrpop_lr1_core.proofs.ConflictLemmas.{both_is, has_in_both}
use Rattle.lalrpop_lr1_core.proofs.MemberLemmas.{each_empty, filter_has, flat_empty, in_filter, in_map, in_pairs, in_range, some_is}
use Rattle.lalrpop_lr1_core.proofs.MemberLemmas.{joined_empty, map_has, pair_there, range_has}

-- terminals that are seen as one are one
same_literal : (a b : TerminalLiteral) → literal_view a ≡ literal_view b → a ≡ b
same_literal (literals.Quoted s) (literals.Quoted t) e = ap literals.Quoted (quoted s t e)
  where
    quoted : (s t : List ℕ) → Terminal.quoted s ≡ Terminal.quoted t → s ≡ t
    quoted s t e = cc
same_literal (literals.Quoted s) (literals.Regex t) e = let w : ⊥ = cc in absurd w
same_literal (literals.Regex s) (literals.Quoted t) e = let w : ⊥ = cc in absurd w
same_literal (literals.Regex s) (literals.Regex t) e = ap literals.Regex (regex s t e)
  where
    regex : (s t : List ℕ) → Terminal.regex s ≡ Terminal.regex t → s ≡ t
    regex s t e = cc

no_bare : (l : TerminalLiteral) (n : List ℕ) → literal_view l ≡ Terminal.bare n → ⊥
no_bare (literals.Quoted s) n e = cc
no_bare (literals.Regex s) n e = cc

no_error : (l : TerminalLiteral) → literal_view l ≡ Terminal.error → ⊥
no_error (literals.Quoted s) e = cc
no_error (literals.Regex s) e = cc

-- terminals that are seen as one are one
pub same_terminal : (t u : TerminalString) → terminal_view t ≡ terminal_view u → t ≡ u
same_terminal (terminals.Literal a) (terminals.Literal b) e = ap terminals.Literal (same_literal a b e)
same_terminal (terminals.Literal a) (terminals.Bare n) e = absurd (no_bare a n e)
same_terminal (terminals.Literal a) terminals.Error e = absurd (no_error a e)
same_terminal (terminals.Bare m) (terminals.Literal b) e = absurd (no_bare b m (sym e))
same_terminal (terminals.Bare m) (terminals.Bare n) e = ap terminals.Bare (bare m n e)
  where
    bare : (s t : List ℕ) → Terminal.bare s ≡ Terminal.bare t → s ≡ t
    bare s t e = cc
same_terminal (terminals.Bare m) terminals.Error e = let w : ⊥ = cc in absurd w
same_terminal terminals.Error (terminals.Literal b) e = absurd (no_error b (sym e))
same_terminal terminals.Error (terminals.Bare n) e = let w : ⊥ = cc in absurd w
same_terminal terminals.Error terminals.Error e = refl

pub nothing_there : {X : Type 0} (xs : List X) (k : ℕ) → slice_get xs k ≡ None → length xs ≤ k
nothing_there [] k e = omega arith
nothing_there (x ∷ xs) zero e = let w : ⊥ = cc in absurd w
nothing_there (x ∷ xs) (suc k) e = omega (arith, nothing_there xs k e)

-- numbers up to the end's that are seen as one are one
same_next : (ts : TerminalSet) → IsNumberedByPlaces ts → (j k : ℕ) → j ≤ eof_number ts → k ≤ eof_number ts
    → next_of_number ts j ≡ next_of_number ts k → j ≡ k
same_next ts numbered j k hj hk e = go (slice_get ts.all j) (slice_get ts.all k) refl refl e
  where
    go : (a b : Option TerminalString) → slice_get ts.all j ≡ a → slice_get ts.all k ≡ b
        → option_map terminal_view a ≡ option_map terminal_view b → j ≡ k
    go None None at_j at_k same =
        omega (arith, nothing_there ts.all j at_j, nothing_there ts.all k at_k)
    go None (Some u) at_j at_k same = let w : ⊥ = cc in absurd w
    go (Some t) None at_j at_k same = let w : ⊥ = cc in absurd w
    go (Some t) (Some u) at_j at_k same =
        let one : t ≡ u = same_terminal t u (some_is (terminal_view t) (terminal_view u) same) in
        some_is j k (sym (numbered j t at_j) ∙ ap (λ v. at_terminal v ts.bits) one ∙ numbered k u at_k)

-- what comes next by a set has a number in it
number_of_next : (ts : TerminalSet) (s : List ℕ) (x : Next) → Contains (token_lookahead ts s).nexts x
    → (k : ℕ) × (has s k ≡ true) × (k ≤ eof_number ts) × (next_of_number ts k ≡ x)
number_of_next ts s x c =
    let r : (k : ℕ) × Contains (filter (has s) (range_with_len 0 (eof_number ts + 1))) k × (next_of_number ts k ≡ x) =
    in_map (next_of_number ts) (filter (has s) (range_with_len 0 (eof_number ts + 1))) x c in
    let f : (has s r.0 ≡ true) × Contains (range_with_len 0 (eof_number ts + 1)) r.0 =
    in_filter (has s) (range_with_len 0 (eof_number ts + 1)) r.0 r.1 in
    let b : (0 ≤ r.0) × (r.0 < 0 + (eof_number ts + 1)) = in_range 0 (eof_number ts + 1) r.0 f.1 in
    (r.0, f.0, omega (arith, b.1), r.2)

-- a pair without a conflict shares no number
pub nothing_shared : (state : StateIndex) (pair : ReductionEntry × ReductionEntry) (s : List ℕ) → sharing_conflict state pair s ≡ []
    → s ≡ []
nothing_shared state pair [] e = refl
nothing_shared state pair (k ∷ ks) e = let w : ⊥ = cc in absurd w

no_number_shared : (state : StateIndex) (pair : ReductionEntry × ReductionEntry) (k : ℕ) → pair_conflict state pair ≡ []
    → has pair.0.0 k ≡ true → has pair.1.0 k ≡ true → ⊥
no_number_shared state pair k none one other =
    let gone : has (in_both pair.0.0 pair.1.0) k ≡ false =
    ap (λ s. has s k) (nothing_shared state pair (in_both pair.0.0 pair.1.0) none) in
    let both : true ≡ false =
    sym (has_in_both pair.0.0 pair.1.0 k ∙ ap (λ c. c && has pair.1.0 k) one ∙ other) ∙ gone in
    let w : ⊥ = cc in w

-- a place in a mapped list is one in the list
pub at_mapped : {X Y : Type 0} (f : X → Y) (xs : List X) (k : ℕ) (y : Y) → slice_get (map f xs) k ≡ Some y
    → (x : X) × (slice_get xs k ≡ Some x) × (f x ≡ y)
at_mapped f [] k y e = let w : ⊥ = cc in absurd w
at_mapped f (x ∷ xs) zero y e = (x, refl, some_is (f x) y e)
at_mapped f (x ∷ xs) (suc k) y e = at_mapped f xs k y e

-- entries that have one number are one
one_entry : (state : StateIndex) (entries : List ReductionEntry) → pairs_conflicts state entries ≡ [] → (i j k : ℕ)
    (r s : ReductionEntry) → slice_get entries i ≡ Some r → slice_get entries j ≡ Some s → has r.0 k ≡ true
    → has s.0 k ≡ true
    → i ≡ j
one_entry state entries none i j k r s at_i at_j in_r in_s = go (cases_lt i j) (cases_lt j i)
  where
    parted : (a b : ℕ) (x y : ReductionEntry) → slice_get entries a ≡ Some x → slice_get entries b ≡ Some y → a < b
        → has x.0 k ≡ true → has y.0 k ≡ true → ⊥
    parted a b x y at_a at_b h in_x in_y =
        no_number_shared state (x, y) k
        (flat_empty (pair_conflict state) (later_pairs entries) (x, y) none (pair_there entries a b x y at_a at_b h)) in_x in_y

    go : (i < j) ⊎ (j ≤ i) → (j < i) ⊎ (i ≤ j) → i ≡ j
    go (inl h) d = absurd (parted i j r s at_i at_j h in_r in_s)
    go (inr h) (inl g) = absurd (parted j i s r at_j at_i g in_s in_r)
    go (inr h) (inr g) = omega arith

no_shift_conflict : (state : StateIndex) (shift : ShiftEntry) (n : Option ℕ) (r : ReductionEntry) → has_number r.0 n ≡ true
    → shift_conflict state shift n r ≡ [] → ⊥
no_shift_conflict state shift n r h e =
    let there : shift_record state shift n r.1 ∷ [] ≡ [] =
    sym (ap (λ b. if b then shift_record state shift n r.1 ∷ [] else []) h) ∙ e in
    let w : ⊥ = cc in w

-- a state without conflicts, by the numbers of tokens, has none by what may come next
pub none_is_none : (ts : TerminalSet) (state : State (List ℕ)) → IsNumberedByPlaces ts → token_conflicts ts state ≡ []
    → HasNoConflict (lr_state_view (token_lookahead ts) state)
none_is_none ts state numbered none = record {
  reductions_apart = apart;
  errors_apart = errors;
  shifts_apart = shifts;
}
  where
    View : ReductionEntry → states.Reduction
    View = reduction_view (token_lookahead ts)

    parts : (flat_map (shift_conflicts ts state.index state.reductions) state.shifts ≡ [])
        × (pairs_conflicts state.index state.reductions ≡ [])
    parts = joined_empty (flat_map (shift_conflicts ts state.index state.reductions) state.shifts)
        (pairs_conflicts state.index state.reductions) none

    apart : (j k : ℕ) (a b : states.Reduction) (x : Next) → slice_get (map View state.reductions) j ≡ Some a
        → slice_get (map View state.reductions) k ≡ Some b → Contains a.lookahead.nexts x → Contains b.lookahead.nexts x → j ≡ k
    apart j k a b x at_j at_k in_a in_b =
        let r = at_mapped View state.reductions j a at_j in
        let s = at_mapped View state.reductions k b at_k in
        let m = number_of_next ts r.0.0 x (subst (λ v. Contains v.lookahead.nexts x) (sym r.2) in_a) in
        let n = number_of_next ts s.0.0 x (subst (λ v. Contains v.lookahead.nexts x) (sym s.2) in_b) in
        let one : m.0 ≡ n.0 = same_next ts numbered m.0 n.0 m.2 n.2 (m.3 ∙ sym n.3) in
        one_entry state.index state.reductions parts.1 j k m.0 r.0 s.0 r.1 s.1 m.1 (ap (has s.0.0) one ∙ n.1)

    errors : (j k : ℕ) (a b : states.Reduction) → slice_get (map View state.reductions) j ≡ Some a
        → slice_get (map View state.reductions) k ≡ Some b → a.lookahead.error ≡ true → b.lookahead.error ≡ true → j ≡ k
    errors j k a b at_j at_k in_a in_b =
        let r = at_mapped View state.reductions j a at_j in
        let s = at_mapped View state.reductions k b at_k in
        one_entry state.index state.reductions parts.1 j k (eof_number ts + 1) r.0 s.0 r.1 s.1
        (ap (λ v. v.lookahead.error) r.2 ∙ in_a) (ap (λ v. v.lookahead.error) s.2 ∙ in_b)

    shifts : (t : Terminal) (m k : ℕ) (a : states.Reduction) → Contains (map shift_view state.shifts) (t, m)
        → slice_get (map View state.reductions) k ≡ Some a → Contains a.lookahead.nexts (Some t) → ⊥
    shifts t m k a shifted at_k in_a =
        let e = in_map shift_view state.shifts (t, m) shifted in
        let r = at_mapped View state.reductions k a at_k in
        let n = number_of_next ts r.0.0 (Some t) (subst (λ v. Contains v.lookahead.nexts (Some t)) (sym r.2) in_a) in
        go e.0 (ap (λ p. p.0) e.2) e.1 r.0 (get_contains state.reductions k r.0 r.1) n.0 n.1 (slice_get ts.all n.0) refl n.3
      where
        go : (shift : ShiftEntry) → terminal_view shift.0 ≡ t → Contains state.shifts shift → (r : ReductionEntry)
            → Contains state.reductions r → (j : ℕ) → has r.0 j ≡ true → (o : Option TerminalString)
            → slice_get ts.all j ≡ o
            → option_map terminal_view o ≡ Some t → ⊥
        go shift same there r among j in_r None at_j seen = cc
        go shift same there r among j in_r (Some u) at_j seen =
            let one : u ≡ shift.0 =
            same_terminal u shift.0 (some_is (terminal_view u) t seen ∙ sym same) in
            let number : at_terminal shift.0 ts.bits ≡ Some j = ap (λ v. at_terminal v ts.bits) (sym one) ∙ numbered j u at_j in
            no_shift_conflict state.index shift (at_terminal shift.0 ts.bits) r (ap (has_number r.0) number ∙ in_r)
            (flat_empty (shift_conflict state.index shift (at_terminal shift.0 ts.bits)) state.reductions r
            (flat_empty (shift_conflicts ts state.index state.reductions) state.shifts shift parts.0 there) among)

-- a number in a set is seen as what comes next
next_of_has : (ts : TerminalSet) (s : List ℕ) (k : ℕ) → has s k ≡ true → k ≤ eof_number ts
    → Contains (token_lookahead ts s).nexts (next_of_number ts k)
next_of_has ts s k h b =
    map_has (next_of_number ts) (filter (has s) (range_with_len 0 (eof_number ts + 1))) k
    (filter_has (has s) (range_with_len 0 (eof_number ts + 1)) k h (range_has 0 (eof_number ts + 1) k (omega arith) (omega arith)))

-- a mapped list has at a place the image of what the list has there
pub mapped_at : {X Y : Type 0} (f : X → Y) (xs : List X) (k : ℕ) (x : X) → slice_get xs k ≡ Some x
    → slice_get (map f xs) k ≡ Some (f x)
mapped_at f [] k x e = let w : ⊥ = cc in absurd w
mapped_at f (z ∷ zs) zero x e = ap (λ y. Some (f y)) (some_is z x e)
mapped_at f (z ∷ zs) (suc k) x e = mapped_at f zs k x e

not_both : (b c : Bool) → (b ≡ true → c ≡ true → ⊥) → (b && c) ≡ false
not_both true true h = absurd (h refl refl)
not_both true false h = refl
not_both false c h = refl

-- and the other way round, where sets hold numbers of tokens alone, and terminals have the numbers of their places
pub none_is_there : (ts : TerminalSet) (state : State (List ℕ)) → NumbersArePlaces ts → ReducesOverTokens ts state
    → HasNoConflict (lr_state_view (token_lookahead ts) state) → token_conflicts ts state ≡ []
none_is_there ts state placed over none =
    ap (λ l. l ++ pairs_conflicts state.index state.reductions) (each_empty (shift_conflicts ts state.index state.reductions) state.shifts
    shift)
    ∙ each_empty (pair_conflict state.index) (later_pairs state.reductions) (λ p c. pair p.0 p.1 (in_pairs state.reductions p.0 p.1 c))
  where
    View : ReductionEntry → states.Reduction
    View = reduction_view (token_lookahead ts)

    passed : (shift : ShiftEntry) (r : ReductionEntry) → Contains state.shifts shift → Contains state.reductions r → (n : Option ℕ)
        → at_terminal shift.0 ts.bits ≡ n → (b : Bool) → has_number r.0 n ≡ b
        → (if b then shift_record state.index shift n r.1 ∷ [] else []) ≡ []
    passed shift r c d n e false h = refl
    passed shift r c d None e true h = let w : ⊥ = cc in absurd w
    passed shift r c d (Some k) e true h =
        let at : slice_get ts.all k ≡ Some shift.0 = placed k shift.0 e in
        let next : next_of_number ts k ≡ Some (terminal_view shift.0) = ap (option_map terminal_view) at in
        let g : (j : ℕ) × (slice_get state.reductions j ≡ Some r) = contains_get state.reductions r d in
        absurd (none.shifts_apart (terminal_view shift.0) shift.1.0 g.0 (View r) (map_has shift_view state.shifts shift c)
        (mapped_at View state.reductions g.0 r g.1)
        (subst (Contains (token_lookahead ts r.0).nexts) next
        (next_of_has ts r.0 k h (omega (arith, slice_get_within ts.all k shift.0 at)))))

    shift : (s : ShiftEntry) → Contains state.shifts s → shift_conflicts ts state.index state.reductions s ≡ []
    shift s c =
        each_empty (shift_conflict state.index s (at_terminal s.0 ts.bits)) state.reductions
        (λ r d. passed s r c d (at_terminal s.0 ts.bits) refl (has_number r.0 (at_terminal s.0 ts.bits)) refl)

    apart : (i j k : ℕ) (r s : ReductionEntry) → i < j → slice_get state.reductions i ≡ Some r
        → slice_get state.reductions j ≡ Some s → has r.0 k ≡ true → has s.0 k ≡ true → ⊥
    apart i j k r s h at_i at_j in_r in_s =
        go (cases_lt k (eof_number ts + 1))
      where
        go : (k < eof_number ts + 1) ⊎ (eof_number ts + 1 ≤ k) → ⊥
        go (inl b) =
            omega (
              arith,
              none.reductions_apart i j (View r) (View s) (next_of_number ts k) (mapped_at View state.reductions i r at_i)
                  (mapped_at View state.reductions j s at_j) (next_of_has ts r.0 k in_r (omega arith))
                  (next_of_has ts s.0 k in_s (omega arith)),
            )
        go (inr b) =
            let bound : k ≤ eof_number ts + 1 = All-contains (λ e. IsOverTokens ts e.0) state.reductions r over
            (get_contains state.reductions i r at_i) k in_r in
            let last : k ≡ eof_number ts + 1 = omega arith in
            omega (
              arith,
              none.errors_apart i j (View r) (View s) (mapped_at View state.reductions i r at_i)
                  (mapped_at View state.reductions j s at_j) (ap (has r.0) (sym last) ∙ in_r) (ap (has s.0) (sym last) ∙ in_s),
            )

    pair : (r s : ReductionEntry) → (i : ℕ) × (j : ℕ) × (i < j) × (slice_get state.reductions i ≡ Some r)
        × (slice_get state.reductions j ≡ Some s) → pair_conflict state.index (r, s) ≡ []
    pair r s p =
        ap (sharing_conflict state.index (r, s)) (sym (both_is r.0 s.0 [] tt
        (λ k. sym (not_both (has r.0 k) (has s.0 k) (λ in_r in_s. apart p.0 p.1 k r s p.2 p.3 p.4 in_r in_s)))))
