-- What items and productions bring to slots, one after another, until nothing comes: for what can come first behind names.
use Rattle.std.proofs.Common.{◌≡◌, ◌∙◌, ◌↔◌, ◌⊎◌, ℕ, zero, suc, ◌+◌, ◌<◌, ◌≤◌}
use Rattle.std.proofs.Common.{true, List, [], ◌∷◌}
use Rattle.std.proofs.Common.{Option, None, Some, length, refl, sym, ap, subst, inl, inr, ⊎_elim, arith, slice_get}
use Rattle.std.proofs.lemmas.Option.{slice_get_within}
use Rattle.lalrpop_grammar_symbols.specs.Symbols.{Text}
use Rattle.lalrpop_grammar_repr.specs.declared.grammar.Grammar.{Grammar}
use Rattle.lalrpop_grammar_repr.specs.declared.production.Production.{Production}
use Rattle.lalrpop_lr1_theory.specs.Productions as theory
use Rattle.lalrpop_lr1_theory.specs.FirstSets.{First0}
use Rattle.lalrpop_lr1_theory.proofs.StepLemmas.{some_same}
use Rattle.lalrpop_lr1_core.specs.Views.{next_of_number}
use Rattle.lalrpop_sets.specs.AscendingLists.{has}
use Rattle.lalrpop_sets.specs.Tokens.{eof_number}
use Rattle.lalrpop_lr1_first.specs.FirstSetsOf.{IsProductionOf}
use Rattle.lalrpop_lr1_check_lookaheads.specs.Brought.{AreClosingMarks, BeginBrings, BringsMark, ClosesMarks, IsBegunMark}
use Rattle.lalrpop_lr1_check_lookaheads.specs.Brought.{IsFirstMark}
use Rattle.lalrpop_lr1_check_lookaheads.specs.KeyedSets.{IsMarkIn, OfSome}
use Rattle.lalrpop_lr1_check_lookaheads.specs.LookaheadSlots.{AreSlots, GainsSlotMarks, HasSlotMark, SlotKey, slot_keys, slot_table}
use Rattle.lalrpop_lr1_check_lookaheads.specs.declared.lookaheads.slots.Slots.{Slots}
use Rattle.lalrpop_lr1_check_lookaheads.proofs.KeyedSetLemmas.{gains_as, gains_nothing}
use Rattle.lalrpop_lr1_check_lookaheads.proofs.SlotLemmas.{key_of}

-- nonterminals in front of symbols
pub name_same : (A B : Text) (xs ys : List theory.Symbol) → theory.nonterminal A ∷ xs ≡ theory.nonterminal B ∷ ys → (A ≡ B)
    × (xs ≡ ys)
name_same A B xs ys e = (let z : A ≡ B = cc in z, let z : xs ≡ ys = cc in z)

module _ (g : Grammar) (n : ℕ) (symbols rest : List theory.Symbol) (A : Text) (before : symbols ≡ theory.nonterminal A ∷ rest)
    (tokens : List ℕ)
    (says : (k : ℕ) → (has tokens k ≡ true)
    ↔ ((k < eof_number g.terminals) × First0 (IsProductionOf g) rest (next_of_number g.terminals k))) where
  mark_first : (mark : Option ℕ) → IsMarkIn tokens mark ↔ IsFirstMark g rest mark
  mark_first None = (λ h. tt, λ h. tt)
  mark_first (Some k) = says k

  -- the tokens that can come first behind a nonterminal are what it brings
  pub brought_tokens : (key : SlotKey) (mark : Option ℕ) →
      ((key ≡ key_of n A) × IsMarkIn tokens mark) ↔ BringsMark g n symbols key mark
  brought_tokens key mark = (
    λ (e, m). record {
      rest = rest;
      state = ap (λ (k : SlotKey). k.state) e;
      before = before ∙ ap (λ B. theory.nonterminal B ∷ rest) (sym (ap (λ (k : SlotKey). k.name) e));
      mark_is = (mark_first mark).0 m;
    },
    λ b.
        let s = name_same key.name A b.rest rest (sym b.before ∙ before) in (
          ap (λ j. key_of j key.name) b.state ∙ ap (key_of n) s.0,
          (mark_first mark).1 (subst (λ l. IsFirstMark g l mark) s.1 b.mark_is),
        ),
  )

-- no nonterminal, no mark
pub has_empty_closure : (g : Grammar) (n : ℕ) (symbols : List theory.Symbol) (old : Slots) → AreSlots old →
    ((A : Text) (b : List theory.Symbol) → symbols ≡ theory.nonterminal A ∷ b → ⊥) →
    GainsSlotMarks old old (BringsMark g n symbols)
has_empty_closure g n symbols old are none =
    gains_as (slot_table old) (slot_table old) (λ key mark. ⊥) (BringsMark g n symbols)
    (λ key mark. (λ (z : ⊥). absurd z, λ b. none key.name b.rest b.before)) (gains_nothing (slot_table old) are)

module _ (g : Grammar) (productions : List Production) (old : Slots) where
  pub closing_starts : AreSlots old → AreClosingMarks g productions old old 0
  closing_starts are = record {
    are = are;
    has = λ key mark h. h;
    sound = λ key mark h. IsBegunMark.seeded key mark h;
    closed = λ j from l. absurd (omega (arith, l));
  }

  -- a slot more is closed
  pub closing_more : (now new : Slots) (n : ℕ) (own : SlotKey) → AreClosingMarks g productions old now n →
      slice_get (slot_keys now) n ≡ Some own → GainsSlotMarks now new (OfSome (BeginBrings g own) productions) →
      AreClosingMarks g productions old new (n + 1)
  closing_more now new n own c at gain = record {
    are = gain.are;
    has = λ key mark h. (gain.marks key mark).1 (inl (c.has key mark h));
    sound = λ key mark h. ⊎_elim
        (λ o. c.sound key mark o)
        (λ b. IsBegunMark.begun own key mark (c.sound own None (n, at, tt)) b) ((gain.marks key mark).0 h);
    closed = λ j from l f key mark b. ⊎_elim
        (λ m. (gain.marks key mark).1 (inl (c.closed j from m (was j from m f) key mark b)))
        (λ (z : n ≡ j).
        let same : from ≡ own = some_same from own (sym f ∙ ap (slice_get (slot_keys new)) (sym z) ∙ gain.kept n own at) in
        (gain.marks key mark).1 (inr (subst (λ k. OfSome (BeginBrings g k) productions key mark) same b)))
        (cases_two j n l);
  }
    where
      cases_two : (a b : ℕ) → a < b + 1 → (a < b) ⊎ (b ≡ a)
      cases_two zero zero l = inr refl
      cases_two zero (suc b) l = inl (omega arith)
      cases_two (suc a) zero l = absurd (omega (arith, l))
      cases_two (suc a) (suc b) l = ⊎_elim (λ c. inl (omega (arith, c))) (λ c. inr (ap suc c)) (cases_two a b (omega (arith, l)))

      get_below : {X : Type 0} (xs : List X) (k : ℕ) → k < length xs → (x : X) × (slice_get xs k ≡ Some x)
      get_below [] k h = absurd (omega (arith, h))
      get_below (x ∷ xs) zero h = (x, refl)
      get_below (x ∷ xs) (suc k) h = get_below xs k (omega (arith, h))

      was : (j : ℕ) (from : SlotKey) → j < n → slice_get (slot_keys new) j ≡ Some from → slice_get (slot_keys now) j ≡ Some from
      was j from l f =
          let r = get_below (slot_keys now) j (omega (arith, l, slice_get_within (slot_keys now) n own at)) in
          r.1 ∙ ap Some (some_same r.0 from (sym (gain.kept j r.0 r.1) ∙ f))

  -- all slots are closed
  pub closing_ends : (now : Slots) (n : ℕ) → AreClosingMarks g productions old now n → length (slot_keys now) ≤ n →
      ClosesMarks g productions old now
  closing_ends now n c past = record { are = c.are; marks = λ key mark. (c.sound key mark, held key mark) }
    where
      held : (key : SlotKey) (mark : Option ℕ) → IsBegunMark g productions (HasSlotMark old) key mark → HasSlotMark now key mark
      held key mark (IsBegunMark.seeded _ _ s) = c.has key mark s
      held key mark (IsBegunMark.begun from _ _ there b) =
          let h = held from None there in
          c.closed h.0 from (omega (arith, past, slice_get_within (slot_keys now) h.0 from h.1)) h.1 key mark b
