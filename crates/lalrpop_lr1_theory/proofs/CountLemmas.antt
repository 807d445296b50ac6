-- Canonical states are as many as the nonempty sets of valid items: for that law.
use Rattle.std.proofs.Common.{◌≡◌, ℕ, zero, suc, ◌<◌, ◌≤◌, List, [], ◌∷◌, ◌++◌, length, Some, refl}
use Rattle.std.proofs.Common.{◌∙◌, subst, inl, inr, ◌⊎◌, ◌↔◌, arith, length-append, Contains}
use Rattle.std.proofs.lemmas.Bool.{cases_lt}
use Rattle.std.proofs.lemmas.Option.{slice_get_within}
use Rattle.std.specs.Prelude.{slice_get}
use Rattle.std.proofs.Common.{◌+◌}
use Rattle.lalrpop_grammar_symbols.specs.Symbols.{Text}
use Rattle.lalrpop_lr1_theory.specs.Productions.{Next, Production, Symbol}
use Rattle.lalrpop_lr1_theory.specs.ValidItems.{CountsItemSets, HaveSameItems, IsValidItem, NoneBarren}
use Rattle.lalrpop_lr1_theory.specs.Automata.{Walk}
use Rattle.lalrpop_lr1_theory.specs.States.{HasEdge, HasItem, HasLookahead, State}
use Rattle.lalrpop_lr1_theory.specs.CanonicalStates.{AreCanonicalStates, HaveOneItemSet}
use Rattle.lalrpop_lr1_theory.proofs.CanonicalLemmas.{canonical_valid, carried_look}
use Rattle.lalrpop_lr1_theory.proofs.ListLemmas.{get_front, get_split}
use Rattle.lalrpop_lr1_theory.proofs.PassLemmas.{some_carried, some_item}
use Rattle.lalrpop_lr1_theory.proofs.PlaceLemmas.{slice_get-append}
use Rattle.lalrpop_lr1_theory.proofs.StepLemmas.{some_same}
use Rattle.lalrpop_lr1_theory.proofs.ValidItemLemmas.{carried_from_valid}
use Rattle.lalrpop_lr1_theory.proofs.WalkLemmas.{carried_there}
use Rattle.lalrpop_lr1_theory.proofs.Lr0CoreLemmas.{state_at}

-- one list of symbols for each of the first k states, each leading to its state
record Prefixes (states : List State) (k : ℕ) : Type 0 where
  lists : List (List Symbol)
  count : length lists ≡ k
  lead : (j : ℕ) (g : List Symbol) → slice_get lists j ≡ Some g → Walk (HasEdge states) g j
  each : (j : ℕ) → j < k → (g : List Symbol) × (slice_get lists j ≡ Some g)

module _ (grammar : List Production) (s : Text) (states : List State) (can : AreCanonicalStates grammar s states) where
  prefixes : (k : ℕ) → k ≤ length states → Prefixes states k
  prefixes zero h =
      record {
        lists = [];
        count = refl;
        lead = λ j g e. let z : ⊥ = cc in absurd z;
        each = λ j l. absurd (omega (arith, l));
      }
  prefixes (suc k) h =
      let p = prefixes k (omega (arith, h)) in
      let at = state_at states k (omega (arith, h)) in
      let w = can.reached k at.0 at.1 in
      record {
        lists = p.lists ++ w.0 ∷ [];
        count = length-append p.lists (w.0 ∷ []) ∙ omega (arith, p.count);
        lead = λ j g e. lead_more p w.0 w.1 j g (get_split p.lists (w.0 ∷ []) j g e);
        each = λ j l. each_more p w.0 j (cases_lt j k) l;
      }
    where
      lead_more : (p : Prefixes states k) (h : List Symbol) → Walk (HasEdge states) h k → (j : ℕ) (g : List Symbol) →
          (slice_get p.lists j ≡ Some g) ⊎ ((i : ℕ) × (j ≡ length p.lists + i) × (slice_get (h ∷ []) i ≡ Some g)) →
          Walk (HasEdge states) g j
      lead_more p h w j g (inl e) = p.lead j g e
      lead_more p h w j g (inr e) = go e.0 e.1 e.2
        where
          go : (i : ℕ) → j ≡ length p.lists + i → slice_get (h ∷ []) i ≡ Some g → Walk (HasEdge states) g j
          go zero a b =
              let z : k ≡ j = omega (arith, a, p.count) in
              subst (Walk (HasEdge states) g) z (subst (λ v. Walk (HasEdge states) v k) (some_same h g b) w)
          go (suc i) a b = let z : ⊥ = cc in absurd z

      each_more : (p : Prefixes states k) (h : List Symbol) (j : ℕ) → (j < k) ⊎ (k ≤ j) → j < suc k →
          (g : List Symbol) × (slice_get (p.lists ++ h ∷ []) j ≡ Some g)
      each_more p h j (inl a) l = let e = p.each j a in (e.0, get_front p.lists (h ∷ []) j e.0 e.1)
      each_more p h j (inr a) l = (h, slice_get-append p.lists (h ∷ []) 0 j (omega (arith, a, l, p.count)))

  module _ (nb : NoneBarren (Contains grammar) s) where
    looks : (g : List Symbol) (n : ℕ) → Walk (HasEdge states) g n → (p : Production) (i : ℕ) (x : Next) →
        HasLookahead states n p i x ↔ IsValidItem (Contains grammar) s g p i x
    looks = canonical_valid (Contains grammar) s (HasItem states) (HasEdge states) (HasLookahead states) can.automaton nb

    -- each item has something in its lookahead
    has_some : (g : List Symbol) (n : ℕ) → Walk (HasEdge states) g n → (p : Production) (i : ℕ) → HasItem states n p i →
        (x : Next) × HasLookahead states n p i x
    has_some g n w p i k =
        let c = some_carried (Contains grammar) s (HasItem states) (HasEdge states) can.automaton.cover nb g n w p i k in
        (c.0, carried_look (Contains grammar) s (HasItem states) (HasEdge states) (HasLookahead states) can.automaton g n w p i c.0 c.1)

    -- states with the same valid items hold the same
    items_from : (g h : List Symbol) (n m : ℕ) → Walk (HasEdge states) g n → Walk (HasEdge states) h m →
        HaveSameItems (Contains grammar) s g h → (p : Production) (i : ℕ) → HasItem states n p i → HasItem states m p i
    items_from g h n m w v same p i k =
        let x = has_some g n w p i k in
        can.automaton.held m p i x.0 ((looks h m v p i x.0).1 ((same p i x.0).0 ((looks g n w p i x.0).0 x.1)))

    one_set : (g h : List Symbol) (n m : ℕ) → Walk (HasEdge states) g n → Walk (HasEdge states) h m →
        HaveSameItems (Contains grammar) s g h → HaveOneItemSet states n m
    one_set g h n m w v same =
        record {
          items = λ p i. (
            items_from g h n m w v same p i,
            items_from h g m n v w (λ q j x. ((same q j x).1, (same q j x).0)) p i,
          );
          lookaheads = λ p i x. (
            λ k. (looks h m v p i x).1 ((same p i x).0 ((looks g n w p i x).0 k)),
            λ k. (looks g n w p i x).1 ((same p i x).1 ((looks h m v p i x).0 k)),
          );
        }

    pub canonical_counted : CountsItemSets (Contains grammar) s (length states)
    canonical_counted =
        let all = prefixes (length states) (omega arith) in
        record {
          lists = all.lists;
          count = all.count;
          nonempty = λ k g e.
              let w = all.lead k g e in
              let it = some_item (Contains grammar) s (HasItem states) (HasEdge states) can.automaton.cover nb g k w in
              let x = has_some g k w it.0 it.1 it.2 in
              record { production = it.0; dot = it.1; next = x.0; valid = (looks g k w it.0 it.1 x.0).0 x.1 };
          different = λ j k g h e f same.
              let a = state_at states j (omega (arith, all.count, slice_get_within all.lists j g e)) in
              let b = state_at states k (omega (arith, all.count, slice_get_within all.lists k h f)) in
              can.distinct j k a.0 b.0 a.1 b.1 (one_set g h j k (all.lead j g e) (all.lead k h f) same);
          all = λ g v.
              let c = carried_from_valid (Contains grammar) s g v.production v.dot v.next v.valid in
              let r = carried_there (Contains grammar) s (HasItem states) (HasEdge states) can.automaton.cover g v.production
              v.dot v.next c in
              let e = all.each r.0 (slice_get_within states r.0 r.2.state r.2.at) in
              let w = all.lead r.0 e.0 e.1 in
              record {
                place = r.0;
                list = e.0;
                at = e.1;
                same = λ p i x. (
                  λ k. (looks e.0 r.0 w p i x).0 ((looks g r.0 r.1 p i x).1 k),
                  λ k. (looks g r.0 r.1 p i x).0 ((looks e.0 r.0 w p i x).1 k),
                );
              };
        }
