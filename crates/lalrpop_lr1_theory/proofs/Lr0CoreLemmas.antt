-- States without lookaheads hold the valid items, and are as many as the sets of these: for both laws.
use Rattle.std.proofs.Common.{◌≡◌, ◌↔◌, ◌<◌, ℕ, zero, suc, false, List, [], ◌∷◌, length, Option, Some}
use Rattle.std.proofs.Common.{refl, subst, arith, Contains}
use Rattle.std.proofs.lemmas.Option.{slice_get_within}
use Rattle.std.specs.Prelude.{slice_get}
use Rattle.lalrpop_grammar_symbols.specs.Symbols.{Text}
use Rattle.lalrpop_lr1_theory.specs.Productions.{Next, Production, Symbol}
use Rattle.lalrpop_lr1_theory.specs.ValidItems.{NoneBarren}
use Rattle.lalrpop_lr1_theory.specs.Automata.{IsBegun, IsBegunBefore, IsShifted, IsShiftedBefore, Marked, Walk}
use Rattle.lalrpop_lr1_theory.specs.Automata.{brings, goes, has_next, passes, stands, starts, there}
use Rattle.lalrpop_lr1_theory.specs.States.{HasEdge, HasItem, HasLookahead, State}
use Rattle.lalrpop_lr1_theory.specs.CanonicalStates.{AreLr0States, HaveOneItemSet}
use Rattle.lalrpop_lr1_theory.proofs.PassLemmas.{some_carried, some_item}
use Rattle.lalrpop_lr1_theory.proofs.ValidItemLemmas.{carried_from_valid, valid_from_carried}
use Rattle.lalrpop_lr1_theory.proofs.WalkLemmas.{carried_there, walk_one}
use Rattle.lalrpop_lr1_theory.specs.ValidCores.{CountsCoreSets, HaveSameCores, IsValidCore}
use Rattle.lalrpop_lr1_theory.proofs.ChoiceLemmas.{choices}

-- where nothing follows what is in a kernel, and no first sets are taken, nothing is marked before something
never_before : (G : Production → Type 0) (K : Production → ℕ → Type 0) (U : Production → ℕ → Next → Type 0) →
    ((p : Production) (i : ℕ) (x : Next) → U p i x → ⊥) → (p : Production) (i : ℕ) (m : Option Next) →
    Marked false G K U p i m → (x : Next) → m ≡ Some x → ⊥
never_before G K U never p i m (there q j k) x e = cc
never_before G K U never p i m (has_next q j y k) x e = never p i y k
never_before G K U never p i m (brings b q d u h) x e = cc
never_before G K U never p i m (starts b q t f d u h o) x e = cc
never_before G K U never p i m (passes {p = q} {i = j} b q' y d u h o) x e = never_before G K U never q j (Some y) d y refl

-- there is a state at each place
pub state_at : (states : List State) (k : ℕ) → k < length states → (state : State) × (slice_get states k ≡ Some state)
state_at [] k h = absurd (omega (arith, h))
state_at (x ∷ states) zero h = (x, refl)
state_at (x ∷ states) (suc k) h = state_at states k (omega (arith, h))

module _ (grammar : List Production) (s : Text) (states : List State) (lr0 : AreLr0States grammar s states) where
  -- no item has a lookahead
  pub looks_nowhere : (g : List Symbol) (n : ℕ) → Walk (HasEdge states) g n → (p : Production) (i : ℕ) (x : Next) →
      HasLookahead states n p i x → ⊥
  looks_nowhere g n stands p i x k =
      never_before (Contains grammar) (IsBegun (Contains grammar) s) (IsBegunBefore (λ y. ⊥) (Contains grammar) s)
      (λ q j y u. u.1) p i (Some x) ((lr0.automaton.look_start p i x).0 k) x refl
  looks_nowhere g n (goes {g = h} {n = m} X m' w e) p i x k =
      never_before (Contains grammar) (IsShifted (HasItem states) m X) (IsShiftedBefore (HasLookahead states) m X)
      (λ q j y u. looks_nowhere h m w q u.dot y u.item) p i (Some x) ((lr0.automaton.look_next m X n e p i x).0 k) x refl

  module _ (nb : NoneBarren (Contains grammar) s) where
    -- on symbols that lead to a state, its items are the valid ones
    pub items_valid : (g : List Symbol) (n : ℕ) → Walk (HasEdge states) g n → (p : Production) (i : ℕ) →
        HasItem states n p i ↔ IsValidCore (Contains grammar) s g p i
    items_valid g n w p i = (
      λ k. let c = some_carried (Contains grammar) s (HasItem states) (HasEdge states) lr0.automaton.cover nb g n w p i k in
          (c.0, valid_from_carried (Contains grammar) s nb g p i c.0 c.1),
      λ v. let r = carried_there (Contains grammar) s (HasItem states) (HasEdge states) lr0.automaton.cover g p i v.0
          (carried_from_valid (Contains grammar) s g p i v.0 v.1) in
          subst (λ m. HasItem states m p i) (walk_one (HasEdge states) lr0.automaton.cover.one g r.0 n r.1 w) r.2,
    )

    -- states with the same valid items have one set of items
    one_set : (g h : List Symbol) (n m : ℕ) → Walk (HasEdge states) g n → Walk (HasEdge states) h m →
        HaveSameCores (Contains grammar) s g h → HaveOneItemSet states n m
    one_set g h n m w v same =
        record {
          items = λ p i. (
            λ k. (items_valid h m v p i).1 ((same p i).0 ((items_valid g n w p i).0 k)),
            λ k. (items_valid g n w p i).1 ((same p i).1 ((items_valid h m v p i).0 k)),
          );
          lookaheads = λ p i x. (λ k. absurd (looks_nowhere g n w p i x k), λ k. absurd (looks_nowhere h m v p i x k));
        }

    -- they are as many as the sets of valid items
    pub states_counted : CountsCoreSets (Contains grammar) s (length states)
    states_counted =
        let all = choices (λ k g. Walk (HasEdge states) g k) (length states) (length states) (omega arith)
        (λ k h. let at = state_at states k h in lr0.reached k at.0 at.1) in
        record {
          lists = all.list;
          count = all.count;
          nonempty = λ k g e.
              let w = all.right k g e in
              let it = some_item (Contains grammar) s (HasItem states) (HasEdge states) lr0.automaton.cover nb g k w in
              let v = (items_valid g k w it.0 it.1).0 it.2 in
              record { production = it.0; dot = it.1; next = v.0; valid = v.1 };
          different = λ j k g h e f same.
              let a = state_at states j (omega (arith, all.count, slice_get_within all.list j g e)) in
              let b = state_at states k (omega (arith, all.count, slice_get_within all.list k h f)) in
              lr0.distinct j k a.0 b.0 a.1 b.1 (one_set g h j k (all.right j g e) (all.right k h f) same);
          all = λ g v.
              let r = carried_there (Contains grammar) s (HasItem states) (HasEdge states) lr0.automaton.cover g v.production v.dot
              v.next (carried_from_valid (Contains grammar) s g v.production v.dot v.next v.valid) in
              let e = all.each r.0 (slice_get_within states r.0 r.2.state r.2.at) in
              let w = all.right r.0 e.0 e.1 in
              record {
                place = r.0;
                list = e.0;
                at = e.1;
                same = λ p i. (
                  λ k. (items_valid e.0 r.0 w p i).0 ((items_valid g r.0 r.1 p i).1 k),
                  λ k. (items_valid g r.0 r.1 p i).0 ((items_valid e.0 r.0 w p i).1 k),
                );
              };
        }
