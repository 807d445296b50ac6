-- With what slots begin: what items bring, with the productions that follow, and the end at the start.
use Rattle.std.proofs.Common.{◌≡◌, ◌⊎◌, ℕ, List, [], ◌∷◌, Option, None, Some, subst, inl, inr, ⊎_elim}
use Rattle.std.proofs.Common.{◌≤◌, Contains, arith, false, length, nat_eq, slice_get}
use Rattle.std.proofs.lemmas.Bool.Decides.{Decides-eqb}
use Rattle.std.proofs.lemmas.Option.{slice_get_within}
use Rattle.lalrpop_grammar_symbols.specs.Symbols.{Text}
use Rattle.lalrpop_grammar_repr.specs.declared.grammar.Grammar.{Grammar}
use Rattle.lalrpop_grammar_repr.specs.declared.production.Production.{Production}
use Rattle.lalrpop_lr1_theory.specs.Productions as theory
use Rattle.lalrpop_lr1_theory.specs.States.{LookaheadSet}
use Rattle.lalrpop_lr1_core.specs.declared.state.State.{State}
use Rattle.lalrpop_sets.specs.Tokens.{eof_number}
use Rattle.lalrpop_lr1_first.specs.declared.flowing.Edge.{Edge}
use Rattle.lalrpop_lr1_first.proofs.ListLemmas.{or_cases}
use Rattle.lalrpop_lr1_check_lookaheads.specs.Brought.{ClosesMarks, IsBegunMark, IsFirstMark}
use Rattle.lalrpop_lr1_check_lookaheads.specs.PropagationEdges.{ArePropagationEdges}
use Rattle.lalrpop_lr1_check_lookaheads.specs.LookaheadFlows.{AreSeeds, IsSlotEdge, ItemsBring}
use Rattle.lalrpop_lr1_check_lookaheads.specs.KeyedSets.{IsMarkIn}
use Rattle.lalrpop_lr1_check_lookaheads.specs.LookaheadSlots.{GainsSlotMarks, HasSlotMark, SlotKey, slot_keys, slot_sets}
use Rattle.lalrpop_lr1_check_lookaheads.specs.declared.lookaheads.slots.Slots.{Slots}
use Rattle.lalrpop_lr1_check_lookaheads.proofs.SlotLemmas.{key_of}

-- the least set of marks over more
pub begun_as : (g : Grammar) (ps : List Production) (Seed Other : SlotKey → Option ℕ → Type 0) →
    ((key : SlotKey) (mark : Option ℕ) → Seed key mark → Other key mark) → (key : SlotKey) (mark : Option ℕ) →
    IsBegunMark g ps Seed key mark → IsBegunMark g ps Other key mark
begun_as g ps Seed Other more _ _ (IsBegunMark.seeded key mark s) = IsBegunMark.seeded key mark (more key mark s)
begun_as g ps Seed Other more _ _ (IsBegunMark.begun from key mark f b) =
    IsBegunMark.begun from key mark (begun_as g ps Seed Other more from None f) b

-- slots with what items bring, closed, and then with the end for the start in state 0 are the seeds
pub seeds_are : (g : Grammar) (ps : List Production) (s : Text) (states : List (State (List ℕ))) (none items closed all : Slots) →
    slot_keys none ≡ [] → GainsSlotMarks none items (ItemsBring g states) → ClosesMarks g ps items closed →
    GainsSlotMarks closed all (λ key mark. (key ≡ key_of 0 s) × IsMarkIn (eof_number g.terminals ∷ []) mark) →
    AreSeeds g ps s states all
seeds_are g ps s states none items closed all empty gain closes last = record {
  are = last.are;
  marks = λ key mark. (
    λ h. ⊎_elim
        (λ o. inl (begun_as g ps (HasSlotMark items) (ItemsBring g states) (λ k m i. brought k m ((gain.marks k m).0 i)) key mark
        ((closes.marks key mark).0 o)))
        (λ n. inr n) ((last.marks key mark).0 h),
    λ t. (last.marks key mark).1 (⊎_elim
        (λ b. inl ((closes.marks key mark).1
        (begun_as g ps (ItemsBring g states) (HasSlotMark items) (λ k m i. (gain.marks k m).1 (inr i)) key mark b)))
        (λ n. inr n) t),
  );
}
  where
    brought : (key : SlotKey) (mark : Option ℕ) → HasSlotMark none key mark ⊎ ItemsBring g states key mark →
        ItemsBring g states key mark
    brought key mark (inl (j, e, m)) =
        let z : None ≡ Some key = subst (λ l. slice_get l j ≡ Some key) empty e in let w : ⊥ = cc in absurd w
    brought key mark (inr b) = b

-- the mark is small, where it is a token's
abbrev IsSmall : Grammar → Option ℕ → Type 0
IsSmall g None = Unit {0}
IsSmall g (Some k) = k ≤ eof_number g.terminals

first_small : (g : Grammar) (b : List theory.Symbol) (mark : Option ℕ) → IsFirstMark g b mark → IsSmall g mark
first_small g b None m = tt
first_small g b (Some k) m = omega (arith, m.0)

begun_small : (g : Grammar) (ps : List Production) (states : List (State (List ℕ))) (key : SlotKey) (mark : Option ℕ) →
    IsBegunMark g ps (ItemsBring g states) key mark → IsSmall g mark
begun_small g ps states _ _ (IsBegunMark.seeded key mark (n, state, at, (item, c, b))) = first_small g b.rest mark b.mark_is
begun_small g ps states _ _ (IsBegunMark.begun from key mark f (q, c, (name, b))) = first_small g b.rest mark b.mark_is

-- the tokens of slots are those of the grammar
pub tokens_small : (g : Grammar) (ps own : List Production) (s : Text) (look : List ℕ → LookaheadSet)
    (states : List (State (List ℕ))) (first slots : Slots) (edges : List Edge) (n : ℕ) →
    AreSeeds g ps s states first → ArePropagationEdges g look states own first slots edges n → (key : SlotKey) (k : ℕ) →
    HasSlotMark slots key (Some k) → k ≤ eof_number g.terminals
tokens_small g ps own s look states first slots edges n seeds propagated key k h = ⊎_elim
    (λ b. begun_small g ps states key (Some k) b)
    (λ (e, m). ⊎_elim
    (λ f. let z : eof_number g.terminals ≡ k = (Decides-eqb (eof_number g.terminals) k).0 f in omega (arith, z))
    (λ f. let w : ⊥ = cc in absurd w) (or_cases (nat_eq (eof_number g.terminals) k) false m))
    ((seeds.marks key (Some k)).0 (propagated.tokens key k h))

-- the edges are between slots
pub edges_between : (g : Grammar) (own : List Production) (look : List ℕ → LookaheadSet)
    (states : List (State (List ℕ))) (first slots : Slots) (edges : List Edge) (n : ℕ) →
    ArePropagationEdges g look states own first slots edges n → (e : Edge) → Contains edges e → IsSlotEdge slots e
edges_between g own look states first slots edges n propagated e c =
    let r = propagated.sound e c in
    let are : length (slot_sets slots) ≡ length (slot_keys slots) = propagated.are in
    let from : e.from ≡ r.0 = r.4.from_is in
    record {
      from = omega (arith, slice_get_within (slot_keys slots) r.0 r.1 r.3, from, are);
      to = omega (arith, slice_get_within (slot_keys slots) e.to r.4.key r.4.at, are);
      rest = r.4.rest_is;
    }
