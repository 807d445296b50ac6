-- Slots that compare as equal have one key, and which keys stand at numbers: for what is propagated to nonterminals in states.
use Rattle.std.proofs.Common.{◌≡◌, ◌∙◌, ℕ, zero, suc, ◌≤◌, List, [], ◌∷◌, None, Some, length, map, ap, arith, slice_get, nat_eq}
use Rattle.std.specs.Bool.{Decides}
use Rattle.std.specs.Cmp.Derive.{both_true}
use Rattle.std.proofs.lemmas.Bool.Decides.{Decides-eqb}
use Rattle.lalrpop_grammar_symbols.specs.Symbols.{Text}
use Rattle.lalrpop_grammar_symbols.specs.declared.names.NonterminalString.{NonterminalString}
use Rattle.lalrpop_lr1_theory.proofs.StepLemmas.{some_same}
use Rattle.lalrpop_grammar_repr.proofs.EqualLemmas.{both_parts, same_names}
use Rattle.lalrpop_lr1_check_lookaheads.specs.LookaheadSlots.{SlotKey, slot_key, slot_keys}
use Rattle.lalrpop_lr1_check_lookaheads.specs.contracts.lookaheads.slots.SlotPartialEq.TheImpl as slots_eq
use Rattle.lalrpop_lr1_check_lookaheads.specs.declared.lookaheads.slots.Slot.{Slot}
use Rattle.lalrpop_lr1_check_lookaheads.specs.declared.lookaheads.slots.Slots.{Slots}

-- the key of a slot from a state's number and a nonterminal's text
abbrev pub key_of : ℕ → Text → SlotKey
key_of n A = record { state = n; name = A }

abbrev named : Text → NonterminalString
named t = record { 0 = t }

-- slots that compare as equal have one key
pub same_slots : (a b : Slot) → Decides ((slots_eq.ghosts).eq a b) (slot_key a ≡ slot_key b)
same_slots a b = (
  λ e.
      let p = both_parts (nat_eq a.state b.state) _ e in
      ap (λ n. key_of n a.name.now.0) ((Decides-eqb a.state b.state).0 p.0)
      ∙ ap (λ (n : NonterminalString). key_of b.state n.0) ((same_names a.name.now b.name.now).0 p.1),
  λ e. both_true ((Decides-eqb a.state b.state).1 (ap (λ (k : SlotKey). k.state) e))
      ((same_names a.name.now b.name.now).1 (ap (λ t. named t) (ap (λ (k : SlotKey). k.name) e))),
)

-- the key of a slot that is there, and none past the last
pub key_there : (slots : Slots) (n : ℕ) (slot : Slot) → slice_get slots.keys.keys n ≡ Some slot →
    slice_get (slot_keys slots) n ≡ Some (slot_key slot)
key_there slots n slot e = go slots.keys.keys n e
  where
    go : (ks : List Slot) (n : ℕ) → slice_get ks n ≡ Some slot → slice_get (map slot_key ks) n ≡ Some (slot_key slot)
    go [] n e = let z : ⊥ = cc in absurd z
    go (k ∷ ks) zero e = ap (λ s. Some (slot_key s)) (some_same k slot e)
    go (k ∷ ks) (suc n) e = go ks n e

-- a number at which no slot stands is past all slots
pub keys_past : (slots : Slots) (n : ℕ) → slice_get slots.keys.keys n ≡ None → length (slot_keys slots) ≤ n
keys_past slots n e = go slots.keys.keys n e
  where
    go : (ks : List Slot) (n : ℕ) → slice_get ks n ≡ None → length (map slot_key ks) ≤ n
    go [] n e = omega arith
    go (k ∷ ks) zero e = let z : ⊥ = cc in absurd z
    go (k ∷ ks) (suc n) e = omega (arith, go ks n e)
