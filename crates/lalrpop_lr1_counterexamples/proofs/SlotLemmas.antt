-- How slots are filled one after the other: for the calls that make the certificates of all conflicts.
use Rattle.std.proofs.Common.{◌≡◌, ◌∙◌, ◌<◌, ℕ, zero, suc, List, [], ◌∷◌, ◌++◌, length, map, Option}
use Rattle.std.proofs.Common.{Some, None, refl, sym, ap, subst, arith}
use Rattle.std.proofs.Common.{inl, inr}
use Rattle.std.specs.Prelude.{set, slice_get}
use Rattle.std.proofs.Common.{◌+◌, ◌⊎◌, length-append}
use Rattle.std.proofs.Common.{append_assoc}
use Rattle.std.proofs.lemmas.List.{length-map, length-set, map-append}
use Rattle.std.proofs.lemmas.Option.{slice_get_within}
use Rattle.lalrpop_lr1_theory.proofs.ListLemmas.{before_or_end}
use Rattle.lalrpop_lr1_theory.proofs.StepLemmas.{some_same}
use Rattle.lalrpop_sets.specs.TokensLeft.{token_seen}
use Rattle.lalrpop_sets.specs.declared.token.TokenRef.{TokenRef}
use Rattle.lalrpop_judge.specs.CertificateViews.{certificate_view}
use Rattle.lalrpop_judge.specs.declared.certificates.certificate.Certificate.{Certificate}
use Rattle.lalrpop_lr1_core.proofs.NoConflictLemmas.{mapped_at}
use Rattle.lalrpop_lr1_counterexamples.specs.ConflictCertificates.{AreCertificatesOf, HaveOwnActions}
use Rattle.lalrpop_lr1_counterexamples.specs.ShownStates.{IsCertificateAt, IsLeastToken, states_of}
use Rattle.lalrpop_lr1_counterexamples.specs.Slots.{AreEmptySlots, AreFilledBefore, AreFilledBelow, AreFilledSlots, AreFilling}
use Rattle.lalrpop_lr1_counterexamples.specs.Slots.{AreLeastTokensOf, AreCertificateSlots, AreTakenOut, IsFilled, StayFilled}
use Rattle.lalrpop_lr1_counterexamples.specs.declared.certificates.shown.ShownConflicts.{ShownConflicts}
use Rattle.lalrpop_lr1_build.proofs.GroupLemmas.{get_set_other, get_set_same}

-- two numbers are one, or not
one_or_other : (i j : ℕ) → (P : Type 0) → (i ≡ j → P) → ((i ≡ j → ⊥) → P) → P
one_or_other zero zero P same apart = same refl
one_or_other zero (suc j) P same apart = apart (λ e. omega (arith, e))
one_or_other (suc i) zero P same apart = apart (λ e. omega (arith, e))
one_or_other (suc i) (suc j) P same apart =
    one_or_other i j P (λ e. same (ap suc e)) (λ n. apart (λ e. n (omega (arith, e))))

module _ (it : ShownConflicts) where
  -- nothing stands in the slots, so all that stands there is right
  pub empty_slots_are : (slots : List (Option Certificate)) → length slots ≡ length it.conflicts.now →
      ((i : ℕ) (slot : Option Certificate) → slice_get slots i ≡ Some slot → slot ≡ None) → AreCertificateSlots it slots
  empty_slots_are slots long none = record {
    count = long;
    each = λ i c e. let z : Some c ≡ None = none i (Some c) e in absurd (cc);
  }

  module _ (old : List (Option Certificate)) (number : ℕ) (c : Certificate) (within : number < length old) where
    abbrev changed : List (Option Certificate)
    changed = set old number (Some c)

    pub set_slots : AreCertificateSlots it old → IsCertificateAt it number (certificate_view c) → AreCertificateSlots it changed
    set_slots are is = record {
      count = length-set old number (Some c) ∙ are.count;
      each = λ i d e. one_or_other number i (IsCertificateAt it i (certificate_view d))
          (λ same.
          let here : Some (Some c) ≡ Some (Some d) = sym (get_set_same old number (Some c) within)
          ∙ ap (slice_get changed) same ∙ e in
          let one : Some c ≡ Some d = some_same (Some c) (Some d) here in
          subst (λ k. IsCertificateAt it k (certificate_view d)) same
          (subst (λ x. IsCertificateAt it number (certificate_view x)) (some_same c d one) is))
          (λ apart. are.each i d (sym (get_set_other old number i (Some c) apart) ∙ e));
    }

    -- what was filled still is, and the one that was set is filled
    pub set_stays : StayFilled old changed
    set_stays i f = one_or_other number i (IsFilled changed i)
        (λ same. (c, ap (slice_get changed) (sym same) ∙ get_set_same old number (Some c) within))
        (λ apart. (f.0, get_set_other old number i (Some c) apart ∙ f.1))

    pub set_filled : IsFilled changed number
    set_filled = (c, get_set_same old number (Some c) within)

-- what is filled below a place, and at it
module _ (tokens : List TokenRef) (token : TokenRef) where
  pub none_before : (slots : List (Option Certificate)) → AreFilledBefore tokens token slots 0
  none_before slots i other below at same = absurd (omega (arith, below))

  pub before_more : (old new : List (Option Certificate)) (number : ℕ) → StayFilled old new →
      AreFilledBefore tokens token old number →
      IsFilled new number → AreFilledBefore tokens token new (number + 1)
  before_more old new number stay before here i other below at same =
      one_or_other number i (IsFilled new i) (λ e. subst (IsFilled new) e here)
      (λ apart. stay i (before i other (omega (arith, below, apart)) at same))

  pub before_other : (slots : List (Option Certificate)) (number : ℕ) (found : TokenRef) → slice_get tokens number ≡ Some found →
      (token_seen found ≡ token_seen token → ⊥) → AreFilledBefore tokens token slots number →
      AreFilledBefore tokens token slots (number + 1)
  before_other slots number found there unlike before i other below at same =
      one_or_other number i (IsFilled slots i)
      (λ e. absurd (unlike (ap token_seen (some_same found other (sym there ∙ ap (slice_get tokens) e ∙ at)) ∙ same)))
      (λ apart. before i other (omega (arith, below, apart)) at same)

pub below_more : (old new : List (Option Certificate)) (number : ℕ) → StayFilled old new → AreFilledBelow old number →
    IsFilled new number → AreFilledBelow new (number + 1)
below_more old new number stay below here i h =
    one_or_other number i (IsFilled new i) (λ e. subst (IsFilled new) e here) (λ apart. stay i (below i (omega (arith, h, apart))))

pub stay_same : (slots : List (Option Certificate)) → StayFilled slots slots
stay_same slots i f = f

pub stay_on : (a b c : List (Option Certificate)) → StayFilled a b → StayFilled b c → StayFilled a c
stay_on a b c one other i f = other i (one i f)

-- one more slot in which nothing stands
pub empty_more : (n : ℕ) (old new : List (Option Certificate)) → new ≡ old ++ None ∷ [] → AreEmptySlots n old →
    AreEmptySlots (n + 1) new
empty_more n old new more are = record {
  count = ap length more ∙ length-append old (None ∷ []) ∙ ap (λ k. k + 1) are.count;
  none = λ i slot e. go old i slot are.none (sym (ap (λ l. slice_get l i) more) ∙ e);
}
  where
    go : (xs : List (Option Certificate)) (i : ℕ) (slot : Option Certificate) →
        ((j : ℕ) (x : Option Certificate) → slice_get xs j ≡ Some x → x ≡ None) →
        slice_get (xs ++ None ∷ []) i ≡ Some slot → slot ≡ None
    go [] zero slot none e = sym (some_same None slot e)
    go [] (suc i) slot none e = let z : ⊥ = cc in absurd z
    go (x ∷ xs) zero slot none e = none zero slot e
    go (x ∷ xs) (suc i) slot none e = go xs i slot (λ j. none (suc j)) e

-- one more token
pub least_more : (it : ShownConflicts) (n : ℕ) (old new : List TokenRef) (token : TokenRef) → new ≡ old ++ token ∷ [] →
    AreLeastTokensOf it n old → IsLeastToken it n token → AreLeastTokensOf it (n + 1) new
least_more it n old new token more are least = record {
  count = ap length more ∙ length-append old (token ∷ []) ∙ ap (λ k. k + 1) are.count;
  each = λ i other e. go i other (before_or_end old token i other (sym (ap (λ l. slice_get l i) more) ∙ e));
}
  where
    go : (i : ℕ) (other : TokenRef) → (slice_get old i ≡ Some other) ⊎ ((i ≡ length old) × (token ≡ other)) →
        IsLeastToken it i other
    go i other (inl e) = are.each i other e
    go i other (inr e) = subst (λ t. IsLeastToken it i t) e.1 (subst (λ k. IsLeastToken it k token) (sym (e.0 ∙ are.count)) least)

-- one turn over the conflicts: a slot is filled, or its token is another one
module _ (it : ShownConflicts) (tokens : List TokenRef) (token : TokenRef) (first old : List (Option Certificate)) (number : ℕ)
    (so_far : AreFilling it tokens token first old number) where
  pub filling_set : (new : List (Option Certificate)) (c : Certificate) → new ≡ set old number (Some c) →
      number < length it.conflicts.now → IsCertificateAt it number (certificate_view c) →
      AreFilling it tokens token first new (number + 1)
  filling_set new c is within own =
      let inside : number < length old = omega (arith, within, so_far.right.count) in
      subst (λ l. AreFilling it tokens token first l (number + 1)) (sym is) (record {
        right = set_slots it old number c inside so_far.right own;
        stay = stay_on first old (set old number (Some c)) so_far.stay (set_stays it old number c inside);
        filled = before_more tokens token old (set old number (Some c)) number (set_stays it old number c inside) so_far.filled
            (set_filled it old number c inside);
      })

  pub filling_other : (found : TokenRef) → slice_get tokens number ≡ Some found → (token_seen found ≡ token_seen token → ⊥) →
      AreFilling it tokens token first old (number + 1)
  filling_other found there unlike = record {
    right = so_far.right;
    stay = so_far.stay;
    filled = before_other tokens token old number found there unlike so_far.filled;
  }

-- and before the first
pub filling_none : (it : ShownConflicts) (tokens : List TokenRef) (token : TokenRef) (slots : List (Option Certificate)) →
    AreCertificateSlots it slots →
    AreFilling it tokens token slots slots 0
filling_none it tokens token slots are =
    record { right = are; stay = stay_same slots; filled = none_before tokens token slots }

-- one turn over all tokens
pub filled_more : (it : ShownConflicts) (tokens : List TokenRef) (old new : List (Option Certificate)) (number : ℕ) (token : TokenRef) →
    AreFilledSlots it old number → slice_get tokens number ≡ Some token → AreCertificateSlots it new → StayFilled old new →
    AreFilledBefore tokens token new (length tokens) → AreFilledSlots it new (number + 1)
filled_more it tokens old new number token so_far there are stay filled = record {
  right = are;
  filled = below_more old new number stay so_far.filled (filled number token (slice_get_within tokens number token there) there refl);
}

-- where the slots below a number are filled, and the one at it, those below the next number are
pub filled_on : (it : ShownConflicts) (slots : List (Option Certificate)) (number : ℕ) → AreFilledSlots it slots number →
    IsFilled slots number →
    AreFilledSlots it slots (number + 1)
filled_on it slots number so_far here = record {
  right = so_far.right;
  filled = below_more slots slots number (stay_same slots) so_far.filled here;
}

-- what stands in filled slots is taken out one after the other
module _ (all left rest : List (Option Certificate)) (taken : List Certificate) (slot : Option Certificate) (many : ℕ)
    (so_far : AreTakenOut all taken left many) (first : left ≡ slot ∷ rest) where
  pub slot_is_filled : slot ≡ None → ⊥
  slot_is_filled none =
      let f = so_far.filled 0 (omega (arith, ap length first)) in
      let z : Some slot ≡ Some (Some f.0) = ap (λ l. slice_get l 0) (sym first) ∙ f.1 in
      let same : slot ≡ Some f.0 = some_same slot (Some f.0) z in
      let w : None ≡ Some f.0 = sym none ∙ same in
      absurd (cc)

  pub taken_one : (c : Certificate) (new : List Certificate) (fewer : ℕ) → slot ≡ Some c → new ≡ taken ++ c ∷ [] →
      suc fewer ≡ many →
      AreTakenOut all new rest fewer
  taken_one c new fewer is more less = record {
    parts = ap (λ l. map Some l ++ rest) more ∙ ap (λ l. l ++ rest) (map-append (λ x. Some x) taken (c ∷ []))
        ∙ append_assoc (map Some taken) (Some c ∷ []) rest
        ∙ ap (λ s. map Some taken ++ s ∷ rest) (sym is) ∙ ap (λ l. map Some taken ++ l) (sym first) ∙ so_far.parts;
    filled = λ i h.
        let f = so_far.filled (suc i) (omega (arith, h, ap length first)) in (f.0, ap (λ l. slice_get l (suc i)) (sym first) ∙ f.1);
    count = omega (arith, so_far.count, ap length first, less);
  }

-- all slots as they were, with nothing taken out
pub none_taken_out : (all left : List (Option Certificate)) (many : ℕ) → left ≡ all → AreFilledBelow all (length all) →
    many ≡ length left →
    AreTakenOut all [] left many
none_taken_out all left many same filled count =
    record { parts = same; filled = subst (λ l. AreFilledBelow l (length l)) (sym same) filled; count = count }

-- certificates that fill all slots are as many as the conflicts, and theirs
pub slots_are_counted : (it : ShownConflicts) (all : List Certificate) → AreCertificateSlots it (map Some all) →
    length all ≡ length it.conflicts.now
slots_are_counted it all are = sym (length-map all Some) ∙ are.count

-- full slots are a certificate for each conflict, in their order, where productions have actions of their own
pub slots_are_certificates : (it : ShownConflicts) (all : List Certificate) → AreCertificateSlots it (map Some all) →
    HaveOwnActions it.grammar.now →
    AreCertificatesOf it.grammar.now it.start.now.0 (states_of it) it.conflicts.now all
slots_are_certificates it all are own = record {
  count = slots_are_counted it all are;
  each = λ i conflict c at there. are.each i c (mapped_at Some all i c there) conflict at own;
}
