-- Computed examples of checked states: the three of `__S = S; S = "a"`, three harmless changes of them, and near misses.
use Rattle.std.proofs.Common.{◌≡◌, ℕ, zero, suc, List, [], ◌∷◌, drop, Some, None, refl, sym, ◌∙◌, subst}
use Rattle.std.proofs.Common.{inl, inr, arith, Contains}
use Rattle.std.proofs.lemmas.Option.{slice_get_within}
use Rattle.std.specs.Prelude.{slice_get}
use Rattle.std.proofs.Common.{false, true}
use Rattle.lalrpop_grammar_symbols.specs.Symbols.{Text}
use Rattle.lalrpop_lr1_theory.specs.Productions.{Next, Production, nonterminal, terminal}
use Rattle.lalrpop_lr1_theory.specs.FirstSets.{ends}
use Rattle.lalrpop_lr1_theory.specs.Automata.{Carries, Closure, IsShifted, begins_with_end, closed, in_kernel, passes_next, shifts_next}
use Rattle.lalrpop_lr1_theory.specs.Automata.{stands}
use Rattle.lalrpop_lr1_theory.specs.States.{HasEdge, HasItem, Item, Reduces, Reduction, State}
use Rattle.lalrpop_lr1_theory.specs.CheckedStates.{AreCheckedStates}
use Rattle.lalrpop_lr1_theory.proofs.ExampleLemmas.{head_same, name, none_same, not_empty, not_nonterminal, nothing_in, quoted}
use Rattle.lalrpop_lr1_theory.proofs.ExamplesOfStates.{StandsIn, a_first, a_given, before_these, first_items, first_state, item_at}
use Rattle.lalrpop_lr1_theory.proofs.ExamplesOfStates.{items_first, letter_a, letter_s, letter_start, one_letter, reduction_before}
use Rattle.lalrpop_lr1_theory.proofs.ExamplesOfStates.{reduction_with, s_first, s_is_a, second_state, start_given, starts_s, state_of}
use Rattle.lalrpop_lr1_theory.proofs.ExamplesOfStates.{states_with, third_state, three_states, with_checked}
use Rattle.lalrpop_lr1_theory.proofs.ListLemmas.{AllOf, all_of, contains_here, contains_later}
use Rattle.lalrpop_lr1_theory.proofs.PassLemmas.{some_item}
use Rattle.lalrpop_lr1_theory.proofs.StepLemmas.{some_same}

-- the reduction by `S = "a"` before the end alone
abbrev pub end_alone : Reduction
end_alone = reduction_before (None ∷ []) s_is_a

-- the reduction by `S = "a"` before the end and before `"a"`
abbrev pub end_and_a : Reduction
end_and_a = reduction_before (None ∷ Some (quoted letter_a) ∷ []) s_is_a

abbrev a_alone : Reduction
a_alone = reduction_before (Some (quoted letter_a) ∷ []) s_is_a

-- the first state's items hold that of `S = "a"` with its dot in front
pub has_a : Contains first_items (item_at s_is_a 0)
has_a = contains_here (item_at s_is_a 0) (item_at starts_s 0 ∷ [])

-- the first state's items hold the start's, with its dot in front
pub has_s : Contains first_items (item_at starts_s 0)
has_s = contains_later (item_at s_is_a 0) (item_at starts_s 0) (item_at starts_s 0 ∷ []) (contains_here (item_at starts_s 0) [])

-- where each reduction of a list is by `S = "a"` and not before the token of errors, any that stands in it is so
pub by_a_alone : (rs : List Reduction) → AllOf (λ r. (r.production ≡ s_is_a) × (r.lookahead.error ≡ false)) rs →
    (r : Reduction) → Contains rs r → (r.production ≡ s_is_a) × (r.lookahead.error ≡ false)
by_a_alone rs h = all_of (λ r. (r.production ≡ s_is_a) × (r.lookahead.error ≡ false)) rs h

-- two places in a list of one reduction are one place, so none of its lookahead is shared
pub one_alone : (r : Reduction) (j k : ℕ) (a b : Reduction) (x : Next) → slice_get (r ∷ []) j ≡ Some a →
    slice_get (r ∷ []) k ≡ Some b →
    Contains a.lookahead.nexts x → Contains b.lookahead.nexts x → j ≡ k
one_alone r j k a b x e f c d = omega (arith, slice_get_within (r ∷ []) j a e, slice_get_within (r ∷ []) k b f)

-- the three states are checked
pub three_checked : AreCheckedStates one_letter (name letter_start) three_states
three_checked =
    with_checked first_items (end_alone ∷ []) items_first has_a has_s (by_a_alone (end_alone ∷ []) ((refl, refl), tt))
    (inl (contains_here end_alone [])) (one_alone end_alone)

-- and stay so where `S = "a"` is reduced before `"a"` too
reduced_before_more : AreCheckedStates one_letter (name letter_start) (states_with first_items (end_and_a ∷ []))
reduced_before_more =
    with_checked first_items (end_and_a ∷ []) items_first has_a has_s (by_a_alone (end_and_a ∷ []) ((refl, refl), tt))
    (inr (contains_here end_and_a [])) (one_alone end_and_a)

-- with an item doubled
item_doubled : AreCheckedStates one_letter (name letter_start) (states_with (item_at starts_s 0 ∷ first_items) (end_alone ∷ []))
item_doubled =
    with_checked (item_at starts_s 0 ∷ first_items) (end_alone ∷ [])
    (all_of (λ j. StandsIn 0 j.production j.dot) (item_at starts_s 0 ∷ first_items) (s_first, (a_first, (s_first, tt))))
    (contains_later (item_at starts_s 0) (item_at s_is_a 0) first_items has_a) (contains_here (item_at starts_s 0) first_items)
    (by_a_alone (end_alone ∷ []) ((refl, refl), tt)) (inl (contains_here end_alone [])) (one_alone end_alone)

-- and with two entries for one production that share no token
two_entries : AreCheckedStates one_letter (name letter_start) (states_with first_items (end_alone ∷ a_alone ∷ []))
two_entries =
    with_checked first_items (end_alone ∷ a_alone ∷ []) items_first has_a has_s
    (by_a_alone (end_alone ∷ a_alone ∷ []) ((refl, refl), ((refl, refl), tt))) (inl (contains_here end_alone (a_alone ∷ []))) apart
  where
    at_first : (a : Reduction) (x : Next) → end_alone ≡ a → Contains a.lookahead.nexts x → x ≡ None
    at_first a x e c = all_of (λ y. y ≡ None) (None ∷ []) (refl, tt) x (subst (λ r. Contains r.lookahead.nexts x) (sym e) c)

    at_second : (a : Reduction) (x : Next) → a_alone ≡ a → Contains a.lookahead.nexts x → x ≡ Some (quoted letter_a)
    at_second a x e c =
        all_of (λ y. y ≡ Some (quoted letter_a)) (Some (quoted letter_a) ∷ []) (refl, tt) x
        (subst (λ r. Contains r.lookahead.nexts x) (sym e) c)

    differ : (x : Next) → x ≡ None → x ≡ Some (quoted letter_a) → ⊥
    differ x e f = cc

    past : (k : ℕ) (a : Reduction) → slice_get [] k ≡ Some a → ⊥
    past k a e = cc

    apart : (j k : ℕ) (a b : Reduction) (x : Next) → slice_get (end_alone ∷ a_alone ∷ []) j ≡ Some a →
        slice_get (end_alone ∷ a_alone ∷ []) k ≡ Some b → Contains a.lookahead.nexts x → Contains b.lookahead.nexts x → j ≡ k
    apart zero zero a b x e f c d = refl
    apart zero (suc zero) a b x e f c d =
        absurd (differ x (at_first a x (some_same end_alone a e) c) (at_second b x (some_same a_alone b f) d))
    apart (suc zero) zero a b x e f c d =
        absurd (differ x (at_first b x (some_same end_alone b f) d) (at_second a x (some_same a_alone a e) c))
    apart (suc zero) (suc zero) a b x e f c d = refl
    apart zero (suc (suc k)) a b x e f c d = absurd (past k b f)
    apart (suc zero) (suc (suc k)) a b x e f c d = absurd (past k b f)
    apart (suc (suc j)) k a b x e f c d = absurd (past j a e)

-- Near misses. The start's reduction stands before a terminal, too.
abbrev start_before_a : List State
start_before_a =
    first_state ∷ state_of 1 (item_at starts_s 1 ∷ []) [] [] (reduction_before (None ∷ Some (quoted letter_a) ∷ []) starts_s ∷ [])
    ∷ third_state ∷ []

not_before_a : AreCheckedStates one_letter (name letter_start) start_before_a → ⊥
not_before_a ok =
    none_same (quoted letter_a)
    (ok.at_end 1 (state_of 1 (item_at starts_s 1 ∷ []) [] [] (reduction_before (None ∷ Some (quoted letter_a) ∷ []) starts_s ∷ []))
    (reduction_before (None ∷ Some (quoted letter_a) ∷ []) starts_s) (Some (quoted letter_a)) refl
    (contains_here (reduction_before (None ∷ Some (quoted letter_a) ∷ []) starts_s) []) refl
    (contains_later None (Some (quoted letter_a)) (Some (quoted letter_a) ∷ []) (contains_here (Some (quoted letter_a)) [])))

-- a carried token is missing from a reduction
abbrev token_missing : List State
token_missing = states_with first_items (reduction_before [] s_is_a ∷ [])

nothing_follows : (x : Next) → Reduces token_missing 2 s_is_a x → ⊥
nothing_follows x r =
    let same = some_same (state_of 2 (item_at s_is_a 1 ∷ []) [] [] (reduction_before [] s_is_a ∷ [])) r.state r.at in
    let c = subst (λ st. Contains st.reductions (reduction_with r.lookahead s_is_a)) (sym same) r.held in
    let e = all_of (λ q. q.lookahead.nexts ≡ []) (reduction_before [] s_is_a ∷ []) (refl, tt) (reduction_with r.lookahead s_is_a) c in
    omega (arith, (subst (λ l. Contains l x) e r.follows).1)

carried_to_a : (states : List State) → HasEdge states 0 (terminal (quoted letter_a)) 2 →
    Carries (Contains one_letter) (name letter_start) (HasItem states) (HasEdge states) 2 s_is_a 1 None
carried_to_a states e =
    shifts_next (terminal (quoted letter_a)) [] 2
    (passes_next [] s_is_a None (begins_with_end starts_s start_given refl) refl a_given ends) refl e

not_missing : AreCheckedStates one_letter (name letter_start) token_missing → ⊥
not_missing ok =
    nothing_follows None
    (ok.carried 2 s_is_a None (carried_to_a token_missing (first_state, refl, contains_here (quoted letter_a, 2) [])))

-- a goto is missing
abbrev without_goto : State
without_goto = state_of 0 first_items ((quoted letter_a, 2) ∷ []) [] []

not_without_goto : AreCheckedStates one_letter (name letter_start) (without_goto ∷ second_state ∷ third_state ∷ []) → ⊥
not_without_goto ok =
    let r = ok.cover.onward 0 starts_s 0 (nonterminal (name letter_s)) []
    (record { state = without_goto; lookahead = before_these (None ∷ []); at = refl; held = has_s }) refl in
    let same = some_same without_goto r.1.0 r.1.1 in
    nothing_in (name letter_s, r.0) (subst (λ st. Contains st.gotos (name letter_s, r.0)) (sym same) r.1.2)

-- a shift stands that no item asks for
abbrev needless_shift : State
needless_shift = state_of 1 (item_at starts_s 1 ∷ []) ((quoted letter_a, 2) ∷ []) [] (reduction_before (None ∷ []) starts_s ∷ [])

not_needless : AreCheckedStates one_letter (name letter_start) (first_state ∷ needless_shift ∷ third_state ∷ []) → ⊥
not_needless ok =
    let d = ok.cover.only 1 (terminal (quoted letter_a)) 2 (needless_shift, refl, contains_here (quoted letter_a, 2) []) in
    let h = d.item in
    let same = some_same needless_shift h.state h.at in
    let c = subst (λ st. Contains st.items (record { production = d.production; dot = d.dot; lookahead = h.lookahead })) (sym same)
    h.held in
    let e = all_of (λ it. drop it.dot it.production.right ≡ []) (item_at starts_s 1 ∷ []) (refl, tt)
    (record { production = d.production; dot = d.dot; lookahead = h.lookahead }) c in
    not_empty (terminal (quoted letter_a)) d.rest (sym e ∙ d.before)

-- a second reduction stands before the end, though it is by the same production
not_twice : AreCheckedStates one_letter (name letter_start) (states_with first_items (end_alone ∷ end_alone ∷ [])) → ⊥
not_twice ok =
    omega (
      arith,
      (ok.no_conflict 2 (state_of 2 (item_at s_is_a 1 ∷ []) [] [] (end_alone ∷ end_alone ∷ [])) refl).reductions_apart 0 1
          end_alone end_alone None refl refl (contains_here None []) (contains_here None []),
    )

-- two reductions hold the token of errors, which is no terminal and not the end
abbrev with_error : Reduction
with_error = record { production = s_is_a; lookahead = record { nexts = []; error = true } }

abbrev end_with_error : Reduction
end_with_error = record { production = s_is_a; lookahead = record { nexts = None ∷ []; error = true } }

not_both_on_error : AreCheckedStates one_letter (name letter_start) (states_with first_items (end_with_error ∷ with_error ∷ [])) → ⊥
not_both_on_error ok =
    omega (
      arith,
      (ok.no_conflict 2 (state_of 2 (item_at s_is_a 1 ∷ []) [] [] (end_with_error ∷ with_error ∷ []))
          refl).errors_apart 0 1
          end_with_error with_error refl refl refl refl,
    )

-- a state has an item too many
abbrev item_too_many : State
item_too_many = state_of 1 (item_at starts_s 1 ∷ item_at s_is_a 1 ∷ []) [] [] (reduction_before (None ∷ []) starts_s ∷ [])

abbrev with_item_too_many : List State
with_item_too_many = first_state ∷ item_too_many ∷ third_state ∷ []

not_too_many : AreCheckedStates one_letter (name letter_start) with_item_too_many → ⊥
not_too_many ok =
    let its : HasItem with_item_too_many 1 s_is_a 1 =
    record {
      state = item_too_many;
      lookahead = before_these (None ∷ []);
      at = refl;
      held = contains_later (item_at starts_s 1) (item_at s_is_a 1) (item_at s_is_a 1 ∷ []) (contains_here (item_at s_is_a 1) []);
    } in
    go s_is_a 1 ((ok.cover.next 0 (nonterminal (name letter_s)) 1 (first_state, refl, contains_here (name letter_s, 1) []) s_is_a 1).0 its)
    refl refl
  where
    go : (p : Production) (i : ℕ) →
        Closure (Contains one_letter) (IsShifted (HasItem with_item_too_many) 0 (nonterminal (name letter_s))) p i → p ≡ s_is_a →
        i ≡ 1 → ⊥
    go p i (in_kernel q j u) e f =
        let z : u.dot ≡ 0 = omega (arith, u.on, f) in
        let d = subst (λ k. drop k q.right ≡ nonterminal (name letter_s) ∷ u.rest) z u.before in
        let h = subst (λ r. drop 0 r.right ≡ nonterminal (name letter_s) ∷ u.rest) e d in
        not_nonterminal (quoted letter_a) (name letter_s)
        (head_same (terminal (quoted letter_a)) (nonterminal (name letter_s)) [] u.rest h)
    go p i (closed b q c d g) e f = omega (arith, f)

-- a state reduces by what it hasn't finished
abbrev unfinished : State
unfinished =
    state_of 0 first_items ((quoted letter_a, 2) ∷ []) ((name letter_s, 1) ∷ []) (reduction_before (None ∷ []) s_is_a ∷ [])

not_unfinished : AreCheckedStates one_letter (name letter_start) (unfinished ∷ second_state ∷ third_state ∷ []) → ⊥
not_unfinished ok =
    let h = ok.finished 0 unfinished (reduction_before (None ∷ []) s_is_a) refl
    (contains_here (reduction_before (None ∷ []) s_is_a) []) in
    let it : Item = record { production = s_is_a; dot = 1; lookahead = h.lookahead } in
    let same = some_same unfinished h.state h.at in
    omega (arith, all_of (λ i. i.dot ≡ 0) first_items (refl, (refl, tt)) it (subst (λ st. Contains st.items it) (sym same) h.held))

-- Without states nothing is checked.
not_without_states : (grammar : List Production) (s : Text) → AreCheckedStates grammar s [] → ⊥
not_without_states grammar s ok =
    let it = some_item (Contains grammar) s (HasItem []) (HasEdge []) ok.cover ok.none_barren [] 0 stands in
    no_state it.2.state it.2.at
  where
    no_state : (st : State) → slice_get [] 0 ≡ Some st → ⊥
    no_state st e = cc
