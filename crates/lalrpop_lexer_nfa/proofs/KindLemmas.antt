-- The kinds of the states while an automaton grows. For the functions that make automata.
use Rattle.std.proofs.Common.{◌≡◌, ℕ, zero, suc, ◌+◌, ◌-◌, ◌<◌, ◌≤◌, ◌↔◌, List, [], ◌∷◌, ◌++◌}
use Rattle.std.proofs.Common.{length, get_or, set, Some}
use Rattle.std.proofs.Common.{inl, inr, ⊎_elim, All, sym, ap, ◌∙◌, refl, subst, arith, length-append, Bool, true, false, cond}
use Rattle.std.proofs.Common.{append-nil, append_assoc}
use Rattle.std.specs.Prelude.{slice_get, option_map}
use Rattle.std.proofs.Math.Seq.{map-set_same}
use Rattle.std.proofs.lemmas.Bool.{cases_lt}
use Rattle.std.proofs.lemmas.Option.{slice_get-get_or, slice_get-map, slice_get_within, get_or_from_slice_get}
use Rattle.std.proofs.lemmas.List.{get_or_append_left, get_or-append-add, get_or_push, length_push, map_push, length-map}
use Rattle.std.proofs.lemmas.List.Elements.{All-nil, All-append, All-push}
use Rattle.lalrpop_lexer_nfa.specs.declared.state.State.{State}
use Rattle.lalrpop_lexer_nfa.specs.declared.state.StateKind.{StateKind}
use Rattle.lalrpop_lexer_nfa.specs.declared.state.StateKind.TheVariants.{Accept, Reject, Neither}
use Rattle.lalrpop_lexer_nfa.specs.Kinds.{kinds_of, IsAcceptingPlace, AreKinds, AreKindsOf, IsPlaceOf, AddsNeither}

-- where nothing came, only states that do neither came
pub AddsNeither-same : (old new : List StateKind) → new ≡ old → AddsNeither old new
AddsNeither-same old new e = record { more = []; is = e ∙ sym (append-nil old); neither = All-nil (λ kind. kind ≡ Neither) }

-- of two growths one after the other
pub AddsNeither-trans : {a b c : List StateKind} → AddsNeither a b → AddsNeither b c → AddsNeither a c
AddsNeither-trans {a} g h = record {
  more = g.more ++ h.more;
  is = h.is ∙ ap (λ ks. ks ++ h.more) g.is ∙ append_assoc a g.more h.more;
  neither = All-append (λ kind. kind ≡ Neither) g.more h.more g.neither h.neither;
}

-- a state that does neither came, where there was room for it
pub AddsNeither-push_if : (states new : List State) (x : State) (b : Bool) → new ≡ cond b (states ++ x ∷ []) states
    → x.kind ≡ Neither
    → AddsNeither (kinds_of states) (kinds_of new)
unfolding kinds_of
AddsNeither-push_if states new x true e is = record {
  more = x.kind ∷ [];
  is = ap kinds_of e ∙ map_push (λ (s : State). s.kind) states x;
  neither = All-push (λ kind. kind ≡ Neither) [] x.kind (All-nil (λ kind. kind ≡ Neither)) is;
}
AddsNeither-push_if states new x false e is = AddsNeither-same (kinds_of states) (kinds_of new) (ap kinds_of e)

-- which states accept and reject stays while such states come
module _ (old new : List StateKind) (adds : AddsNeither old new) where
  longer : length old ≤ length new
  longer = omega (arith, ap length adds.is, length-append old adds.more)

  kept : (q : ℕ) → q < length old → slice_get new q ≡ slice_get old q
  kept q l =
      slice_get-get_or new q Neither (omega (arith, longer))
      ∙ ap Some (ap (λ ks. get_or ks q Neither) adds.is ∙ get_or_append_left old adds.more Neither q l)
      ∙ sym (slice_get-get_or old q Neither l)

  past : (q : ℕ) → length old ≤ q → q < length new → slice_get new q ≡ Some Neither
  past q less l =
      let at : q ≡ length old + (q - length old) = omega arith in
      slice_get-get_or new q Neither l
      ∙ ap Some (ap (λ ks. get_or ks q Neither) adds.is ∙ ap (λ i. get_or (old ++ adds.more) i Neither) at
      ∙ get_or-append-add old adds.more (q - length old) Neither
      ∙ adds.neither (q - length old) Neither (omega (arith, ap length adds.is, length-append old adds.more)))

  same_kind : (q : ℕ) (kind : StateKind) → (kind ≡ Neither → ⊥)
      → (slice_get new q ≡ Some kind) ↔ (slice_get old q ≡ Some kind)
  same_kind q kind other = (
    λ e. ⊎_elim (λ (less : q < length old). sym (kept q less) ∙ e)
        (λ (more : length old ≤ q). let p = past q more (slice_get_within new q kind e) in absurd (other (cc)))
        (cases_lt q (length old)),
    λ e. kept q (slice_get_within old q kind e) ∙ e,
  )

  pub AreKinds-more : (joined : ℕ) → AreKinds joined old → AreKinds joined new
  AreKinds-more joined h = record {
    accepts = λ q. let s = same_kind q Accept (λ e. cc) in (λ e. (h.accepts q).0 (s.0 e), λ place. s.1 ((h.accepts q).1 place));
    rejects = λ q. let s = same_kind q Reject (λ e. cc) in (λ e. (h.rejects q).0 (s.0 e), λ place. s.1 ((h.rejects q).1 place));
  }

  pub AreKindsOf-more : AreKindsOf old → AreKindsOf new
  AreKindsOf-more h = record {
    accepts = λ q l. let s = same_kind q Accept (λ e. cc) in (λ e. (h.accepts q l).0 (s.0 e), λ is. s.1 ((h.accepts q l).1 is));
    rejects = λ q. let s = same_kind q Reject (λ e. cc) in (λ e. (h.rejects q).0 (s.0 e), λ place. s.1 ((h.rejects q).1 place));
    run = λ q from e. (same_kind q Accept (λ f. cc)).1 (h.run q from ((same_kind (q + 1) Accept (λ f. cc)).0 e));
  }

-- what holds in an automaton for so many patterns holds in every automaton
pub AreKindsOf-joined : (joined : ℕ) (kinds : List StateKind) → AreKinds joined kinds → AreKindsOf kinds
AreKindsOf-joined joined kinds h = record {
  accepts = λ q l. (
    λ e. ⊎_elim (λ is. is) (λ within. absurd (omega (arith, within.0))) ((h.accepts q).0 e),
    λ is. (h.accepts q).1 (inl is),
  );
  rejects = h.rejects;
  run = λ q from e. (h.accepts q).1
      (⊎_elim (λ is. absurd (omega arith)) (λ within. inr (from, omega (arith, within.1))) ((h.accepts (q + 1)).0 e));
}

-- the kinds of the states that each automaton has
abbrev pub first_kinds : List StateKind
first_kinds = Accept ∷ Reject ∷ Neither ∷ []

first_accepts : (q : ℕ) → slice_get first_kinds q ≡ Some Accept → q ≡ 0
first_accepts zero e = refl
first_accepts (suc zero) e = let at = get_or_from_slice_get first_kinds 1 Accept Accept e in cc
first_accepts (suc (suc zero)) e = let at = get_or_from_slice_get first_kinds 2 Accept Accept e in cc
first_accepts (suc (suc (suc q))) e = absurd (omega (arith, slice_get_within first_kinds (suc (suc (suc q))) Accept e))

first_rejects : (q : ℕ) → slice_get first_kinds q ≡ Some Reject → q ≡ 1
first_rejects zero e = let at = get_or_from_slice_get first_kinds 0 Reject Reject e in cc
first_rejects (suc zero) e = refl
first_rejects (suc (suc zero)) e = let at = get_or_from_slice_get first_kinds 2 Reject Reject e in cc
first_rejects (suc (suc (suc q))) e = absurd (omega (arith, slice_get_within first_kinds (suc (suc (suc q))) Reject e))

-- of these the first accepts and the second rejects
pub AreKinds-first : AreKinds 0 first_kinds
AreKinds-first = record {
  accepts = λ q. (
    λ e. inl (first_accepts q e),
    λ place. ⊎_elim
        (λ is. ap (slice_get first_kinds) is ∙ slice_get-get_or first_kinds 0 Neither (omega arith))
        (λ within. absurd (omega arith)) place,
  );
  rejects = λ q. (first_rejects q, λ is. ap (slice_get first_kinds) is ∙ slice_get-get_or first_kinds 1 Neither (omega arith));
}

-- one more state that accepts
pub AreKinds-joined : (joined : ℕ) (kinds : List StateKind) → length kinds ≡ 3 + joined → AreKinds joined kinds
    → AreKinds (joined + 1) (kinds ++ Accept ∷ [])
AreKinds-joined joined kinds size h = record {
  accepts = λ q. (
    λ e. ⊎_elim (λ (less : q < length kinds). grown q ((h.accepts q).0 (sym (before q less) ∙ e)))
        (λ (more : length kinds ≤ q).
        inr (omega arith, omega (arith, slice_get_within (kinds ++ Accept ∷ []) q Accept e, length_push kinds Accept)))
        (cases_lt q (length kinds)),
    λ place. ⊎_elim (λ is. old q (inl is))
        (λ within. ⊎_elim (λ (less : q < 3 + joined). old q (inr (within.0, less)))
        (λ (more : 3 + joined ≤ q). last q (omega arith)) (cases_lt q (3 + joined))) place,
  );
  rejects = λ q. (
    λ e. ⊎_elim (λ (less : q < length kinds). (h.rejects q).0 (sym (before q less) ∙ e))
        (λ (more : length kinds ≤ q).
        let here = last q (omega (arith, slice_get_within (kinds ++ Accept ∷ []) q Reject e, length_push kinds Accept)) in absurd (cc))
        (cases_lt q (length kinds)),
    λ is. let there = (h.rejects q).1 is in before q (slice_get_within kinds q Reject there) ∙ there,
  );
}
  where
    before : (q : ℕ) → q < length kinds → slice_get (kinds ++ Accept ∷ []) q ≡ slice_get kinds q
    before q l =
        slice_get-get_or (kinds ++ Accept ∷ []) q Neither (omega (arith, length_push kinds Accept))
        ∙ ap Some (get_or_append_left kinds (Accept ∷ []) Neither q l) ∙ sym (slice_get-get_or kinds q Neither l)

    last : (q : ℕ) → q ≡ length kinds → slice_get (kinds ++ Accept ∷ []) q ≡ Some Accept
    last q e =
        slice_get-get_or (kinds ++ Accept ∷ []) q Neither (omega (arith, length_push kinds Accept))
        ∙ ap Some (get_or_push kinds Accept Neither q (sym e))

    grown : (q : ℕ) → IsAcceptingPlace joined q → IsAcceptingPlace (joined + 1) q
    grown q place = ⊎_elim (λ is. inl is) (λ within. inr (within.0, omega (arith, within.1))) place

    old : (q : ℕ) → IsAcceptingPlace joined q → slice_get (kinds ++ Accept ∷ []) q ≡ Some Accept
    old q place = let there = (h.accepts q).1 place in before q (slice_get_within kinds q Accept there) ∙ there

-- a state changes, but not its kind
pub kinds_kept : (states : List State) (q : ℕ) (x y : State) → x ≡ get_or states q x → y.kind ≡ x.kind
    → kinds_of (set states q y) ≡ kinds_of states
unfolding kinds_of
kinds_kept states q x y is same = map-set_same (λ (s : State). s.kind) states q y x (same ∙ ap (λ (s : State). s.kind) is)

-- what holds of kinds holds of the same kinds
pub AreKindsOf-same : (old new : List StateKind) → new ≡ old → AreKindsOf old → AreKindsOf new
AreKindsOf-same old new e h = subst AreKindsOf (sym e) h

-- the states that each automaton has, and those that accept beside them, before any other state comes
pub record AreFirst (states : List State) (joined : ℕ) : Type 0 where
  pub size : length states ≡ 3 + joined
  pub kinds : AreKinds joined (kinds_of states)
  pub noop : All (λ s. s.first_noop_edge ≡ 0) states
  pub test : All (λ s. s.first_test_edge ≡ 0) states
  pub other : All (λ s. s.first_other_edge ≡ 0) states

-- a state of that kind in front of all edges
pub record IsBare (kind : StateKind) (s : State) : Type 0 where
  pub is : s.kind ≡ kind
  pub noop : s.first_noop_edge ≡ 0
  pub test : s.first_test_edge ≡ 0
  pub other : s.first_other_edge ≡ 0

-- the same after one more state that accepts
pub AreFirst-push : (states : List State) (x : State) (joined : ℕ) → IsBare Accept x → AreFirst states joined
    → AreFirst (states ++ x ∷ []) (joined + 1)
unfolding kinds_of
AreFirst-push states x joined bare h = record {
  noop = All-push (λ s. s.first_noop_edge ≡ 0) states x h.noop bare.noop;
  test = All-push (λ s. s.first_test_edge ≡ 0) states x h.test bare.test;
  other = All-push (λ s. s.first_other_edge ≡ 0) states x h.other bare.other;
  size = omega (arith, h.size, length_push states x);
  kinds = subst (AreKinds (joined + 1)) (sym grown)
      (AreKinds-joined joined (kinds_of states) (length-map states (λ (s : State). s.kind) ∙ h.size) h.kinds);
}
  where
    grown : kinds_of (states ++ x ∷ []) ≡ kinds_of states ++ Accept ∷ []
    grown = map_push (λ (s : State). s.kind) states x ∙ ap (λ k. kinds_of states ++ k ∷ []) bare.is

three : (P : State → Type 0) (a r n : State) → P a → P r → P n → All P (a ∷ r ∷ n ∷ [])
three P a r n x y z = All-push P (a ∷ r ∷ []) n (All-push P (a ∷ []) r (All-push P [] a (All-nil P) x) y) z

-- the first three states
pub AreFirst-three : (a r n : State) → IsBare Accept a → IsBare Reject r → IsBare Neither n → AreFirst (a ∷ r ∷ n ∷ []) 0
unfolding kinds_of
AreFirst-three a r n x y z = record {
  size = omega arith;
  kinds = subst (AreKinds 0) (sym e) AreKinds-first;
  noop = three (λ s. s.first_noop_edge ≡ 0) a r n x.noop y.noop z.noop;
  test = three (λ s. s.first_test_edge ≡ 0) a r n x.test y.test z.test;
  other = three (λ s. s.first_other_edge ≡ 0) a r n x.other y.other z.other;
}
  where
    e : kinds_of (a ∷ r ∷ n ∷ []) ≡ first_kinds
    e =
        ap (λ k. k ∷ r.kind ∷ n.kind ∷ []) x.is ∙ ap (λ k. Accept ∷ k ∷ n.kind ∷ []) y.is
        ∙ ap (λ k. Accept ∷ Reject ∷ k ∷ []) z.is

-- the kinds of states are found at their numbers
pub kind_at : (states : List State) (q : ℕ) (x : State) → slice_get states q ≡ Some x
    → slice_get (kinds_of states) q ≡ Some x.kind
unfolding kinds_of
kind_at states q x e = slice_get-map (λ (s : State). s.kind) states q ∙ ap (option_map (λ (s : State). s.kind)) e

-- a state stands where states of its kind do
pub place_of : (kinds : List StateKind) (q : ℕ) (kind : StateKind) → AreKindsOf kinds → slice_get kinds q ≡ Some kind
    → IsPlaceOf kind q
place_of kinds q Accept h e = ⊎_elim (λ (less : q < 3). inl ((h.accepts q (omega arith)).0 e)) inr (cases_lt q 3)
place_of kinds q Reject h e = (h.rejects q).0 e
place_of kinds q Neither h e = (
  λ is. let there = (h.accepts q (omega arith)).1 is in absurd (cc),
  λ is. let there = (h.rejects q).1 is in absurd (cc),
)
