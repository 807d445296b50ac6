-- The reductions of canonical states are by their finished items: for the laws on canonical states.
use Rattle.std.proofs.Common.{◌≡◌, ℕ, Bool, true, false, List, [], ◌∷◌, length, refl, sym, ap, ◌∙◌, subst}
use Rattle.std.proofs.Common.{inl, inr, ◌⊎◌, ◌↔◌, Contains}
use Rattle.std.proofs.Common.{arith}
use Rattle.std.proofs.lemmas.Bool.{eq-eqb, eqb-true}
use Rattle.std.specs.Prelude.{cond, eqb}
use Rattle.std.proofs.Common.{None, Some, suc, zero}
use Rattle.std.specs.Prelude.{slice_get}
use Rattle.lalrpop_grammar_symbols.specs.Symbols.{Text}
use Rattle.lalrpop_lr1_theory.specs.Productions.{Next, Production}
use Rattle.lalrpop_lr1_theory.specs.Trees.{reduce, shift}
use Rattle.lalrpop_lr1_theory.specs.ValidItems.{NoneBarren}
use Rattle.lalrpop_lr1_theory.specs.States.{HasEdge, HasItem, HasLookahead, Item, Reduces, Reduction, State, finished_reductions}
use Rattle.lalrpop_lr1_theory.specs.CheckedStates.{AreCheckedStates, HasNoConflict, IsStartAlone}
use Rattle.lalrpop_lr1_theory.specs.CanonicalStates.{AreCanonicalStates}
use Rattle.lalrpop_lr1_theory.specs.Laws.{NeverTwoMoves}
use Rattle.lalrpop_lr1_theory.proofs.CanonicalLemmas.{carries_look, finished_at_end}
use Rattle.lalrpop_lr1_theory.proofs.ListLemmas.{contains_get, contains_here, contains_later, contains_split, get_contains}
use Rattle.lalrpop_lr1_theory.proofs.StepLemmas.{some_same}
use Rattle.lalrpop_lr1_theory.proofs.TreeLemmas.{reduce_same, shift_not_reduce}

-- the item that a reduction is by
abbrev item_by : Reduction → Item
item_by r = record { production = r.production; dot = length r.production.right; lookahead = r.lookahead }

module _ (item : Item) (items : List Item) where
  abbrev reduction_of : Reduction
  reduction_of = record { production = item.production; lookahead = item.lookahead }

  abbrev chosen : Bool → List Reduction
  chosen b = cond b (reduction_of ∷ finished_reductions items) (finished_reductions items)

  item_is : eqb item.dot (length item.production.right) ≡ true → item_by reduction_of ≡ item
  item_is e =
      ap (λ k. record { production = item.production; dot = k; lookahead = item.lookahead })
      (sym (eqb-true item.dot (length item.production.right) e))

  from_chosen : (r : Reduction) (b : Bool) → eqb item.dot (length item.production.right) ≡ b →
      (Contains (finished_reductions items) r → Contains items (item_by r)) → Contains (chosen b) r →
      Contains (item ∷ items) (item_by r)
  from_chosen r true e later c = go (contains_split reduction_of r (finished_reductions items) c)
    where
      go : (reduction_of ≡ r) ⊎ Contains (finished_reductions items) r → Contains (item ∷ items) (item_by r)
      go (inl h) = subst (λ q. Contains (item ∷ items) (item_by q)) h
          (subst (Contains (item ∷ items)) (sym (item_is e)) (contains_here item items))
      go (inr h) = contains_later item (item_by r) items (later h)
  from_chosen r false e later c = contains_later item (item_by r) items (later c)

  to_chosen : (r : Reduction) (b : Bool) → eqb item.dot (length item.production.right) ≡ b →
      (Contains items (item_by r) → Contains (finished_reductions items) r) → Contains (item ∷ items) (item_by r) →
      Contains (chosen b) r
  to_chosen r b e later c = go b e (contains_split item (item_by r) items c)
    where
      go : (b : Bool) → eqb item.dot (length item.production.right) ≡ b → (item ≡ item_by r) ⊎ Contains items (item_by r) →
          Contains (chosen b) r
      go true f (inl h) =
          subst (Contains (reduction_of ∷ finished_reductions items))
          (ap (λ i. record { production = i.production; lookahead = i.lookahead }) h)
          (contains_here reduction_of (finished_reductions items))
      go false f (inl h) =
          let z : eqb item.dot (length item.production.right) ≡ true =
          eq-eqb item.dot (length item.production.right) (ap (λ i. i.dot) h ∙ ap (λ i. length i.production.right) (sym h)) in
          let y : ⊥ = cc in absurd y
      go true f (inr h) = contains_later reduction_of r (finished_reductions items) (later h)
      go false f (inr h) = later h

reduction_item : (items : List Item) (r : Reduction) → Contains (finished_reductions items) r → Contains items (item_by r)
reduction_item [] r c = absurd (omega (arith, c.1))
reduction_item (i ∷ is) r c = from_chosen i is r (eqb i.dot (length i.production.right)) refl (reduction_item is r) c

item_reduction : (items : List Item) (r : Reduction) → Contains items (item_by r) → Contains (finished_reductions items) r
item_reduction [] r c = absurd (omega (arith, c.1))
item_reduction (i ∷ is) r c = to_chosen i is r (eqb i.dot (length i.production.right)) refl (item_reduction is r) c

-- a canonical state reduces by a production before a terminal or the end exactly where its finished item has that in its lookahead
pub reduces_finished : (grammar : List Production) (s : Text) (states : List State) → AreCanonicalStates grammar s states →
    (n : ℕ) (p : Production) (x : Next) → Reduces states n p x ↔ HasLookahead states n p (length p.right) x
reduces_finished grammar s states can n p x = (
  λ r. record {
    state = r.state;
    lookahead = r.lookahead;
    at = r.at;
    held = reduction_item r.state.items (record { production = p; lookahead = r.lookahead })
        (subst (λ l. Contains l (record { production = p; lookahead = r.lookahead })) (can.reductions n r.state r.at) r.held);
    follows = r.follows;
  },
  λ h. record {
    state = h.state;
    lookahead = h.lookahead;
    at = h.at;
    held = subst (λ l. Contains l (record { production = p; lookahead = h.lookahead })) (sym (can.reductions n h.state h.at))
        (item_reduction h.state.items (record { production = p; lookahead = h.lookahead }) h.held);
    follows = h.follows;
  },
)

-- items stand once in a list: two places with one production and one dot are one
abbrev pub StandOnce : List Item → Type 0
StandOnce items =
    (j k : ℕ) (a b : Item) → slice_get items j ≡ Some a → slice_get items k ≡ Some b → a.production ≡ b.production →
    a.dot ≡ b.dot → j ≡ k

module _ (item : Item) (items : List Item) (once : StandOnce (item ∷ items))
    (later : (j k : ℕ) (a b : Reduction) → slice_get (finished_reductions items) j ≡ Some a →
    slice_get (finished_reductions items) k ≡ Some b → a.production ≡ b.production → j ≡ k) where
  -- the first item isn't finished by a production of a later one
  first_alone : (k : ℕ) (b : Reduction) → eqb item.dot (length item.production.right) ≡ true →
      slice_get (finished_reductions items) k ≡ Some b → item.production ≡ b.production → ⊥
  first_alone k b e f h =
      let i = contains_get items (item_by b) (reduction_item items b (get_contains (finished_reductions items) k b f)) in
      let z = once 0 (suc i.0) item (item_by b) refl i.1 h
      (eqb-true item.dot (length item.production.right) e ∙ ap (λ p. length p.right) h) in
      omega (arith, z)

  chosen_apart : (c : Bool) → eqb item.dot (length item.production.right) ≡ c → (j k : ℕ) (a b : Reduction) →
      slice_get (chosen item items c) j ≡ Some a → slice_get (chosen item items c) k ≡ Some b →
      a.production ≡ b.production → j ≡ k
  chosen_apart false e j k a b f g h = later j k a b f g h
  chosen_apart true e zero zero a b f g h = refl
  chosen_apart true e zero (suc k) a b f g h =
      absurd (first_alone k b e g (ap (λ r. r.production) (some_same (reduction_of item items) a f) ∙ h))
  chosen_apart true e (suc j) zero a b f g h =
      absurd (first_alone j a e f (ap (λ r. r.production) (some_same (reduction_of item items) b g) ∙ sym h))
  chosen_apart true e (suc j) (suc k) a b f g h = ap suc (later j k a b f g h)

-- then the reductions by them are by one production each
pub reductions_once : (items : List Item) → StandOnce items → (j k : ℕ) (a b : Reduction) →
    slice_get (finished_reductions items) j ≡ Some a → slice_get (finished_reductions items) k ≡ Some b →
    a.production ≡ b.production → j ≡ k
reductions_once [] once j k a b f g h = let z : ⊥ = cc in absurd z
reductions_once (i ∷ is) once j k a b f g h =
    chosen_apart i is once
    (reductions_once is (λ j k a b e f g h. suc_same (once (suc j) (suc k) a b e f g h)))
    (eqb i.dot (length i.production.right)) refl j k a b f g h
  where
    suc_same : {m n : ℕ} → suc m ≡ suc n → m ≡ n
    suc_same e = omega (arith, e)

module _ (grammar : List Production) (s : Text) (states : List State) (can : AreCanonicalStates grammar s states) where
  entry_reduces : (n : ℕ) (state : State) (k : ℕ) (a : Reduction) (x : Next) → slice_get states n ≡ Some state →
      slice_get state.reductions k ≡ Some a → Contains a.lookahead.nexts x → Reduces states n a.production x
  entry_reduces n state k a x e f c =
      record { state = state; lookahead = a.lookahead; at = e; held = get_contains state.reductions k a f; follows = c }

  no_error_both : {b : Bool} → b ≡ false → b ≡ true → ⊥
  no_error_both e f = cc

  -- no reduction holds the token of errors
  entry_error : (n : ℕ) (state : State) (a : Reduction) → slice_get states n ≡ Some state → Contains state.reductions a →
      a.lookahead.error ≡ false
  entry_error n state a e c =
      can.without_error n state (item_by a) e
      (reduction_item state.items a (subst (λ l. Contains l a) (can.reductions n state e) c))

  reduction_error : (n : ℕ) (state : State) (k : ℕ) (a : Reduction) → slice_get states n ≡ Some state →
      slice_get state.reductions k ≡ Some a → a.lookahead.error ≡ false
  reduction_error n state k a e f = entry_error n state a e (get_contains state.reductions k a f)

  -- canonical states that never allow two moves have no conflict
  pub canonical_apart : NeverTwoMoves states → (n : ℕ) (state : State) → slice_get states n ≡ Some state → HasNoConflict state
  canonical_apart never n state e =
      record {
        reductions_apart = λ j k a b x f g c d.
            let p = productions_same x a.production b.production (entry_reduces n state j a x e f c)
            (entry_reduces n state k b x e g d) in
            let r = can.reductions n state e in
            reductions_once state.items (λ i l y z t u v w. can.once n state i l y z e t u v w) j k a b
            (subst (λ l. slice_get l j ≡ Some a) r f) (subst (λ l. slice_get l k ≡ Some b) r g) p;
        errors_apart = λ j k a b f g d h.
            absurd (no_error_both (reduction_error n state j a e f) d);
        shifts_apart = λ t m k a c f d.
            shift_not_reduce t a.production
            (never n (Some t) (shift t) (reduce a.production) (refl, m, (state, e, c)) (entry_reduces n state k a (Some t) e f d));
      }
    where
      productions_same : (x : Next) (p q : Production) → Reduces states n p x → Reduces states n q x → p ≡ q
      productions_same None p q a b = reduce_same p q (never n None (reduce p) (reduce q) a b)
      productions_same (Some t) p q a b = reduce_same p q (never n (Some t) (reduce p) (reduce q) a b)

  -- canonical states without a conflict are checked, for a start alone
  pub canonical_checked : NoneBarren (Contains grammar) s → IsStartAlone grammar s →
      ((n : ℕ) (state : State) → slice_get states n ≡ Some state → HasNoConflict state) → AreCheckedStates grammar s states
  canonical_checked nb alone apart =
      record {
        cover = can.automaton.cover;
        finished = λ n state a e c.
            record {
              state = state;
              lookahead = a.lookahead;
              at = e;
              held = reduction_item state.items a (subst (λ l. Contains l a) (can.reductions n state e) c);
            };
        carried = λ n p x c.
            (reduces_finished grammar s states can n p x).1
            (carries_look (Contains grammar) s (HasItem states) (HasEdge states) (HasLookahead states) can.automaton n p
            (length p.right) x c);
        no_conflict = apart;
        at_end = λ n state a x e c f d.
            finished_at_end (Contains grammar) s (HasItem states) (HasEdge states) (HasLookahead states) can.automaton nb alone n
            a.production x
            ((reduces_finished grammar s states can n a.production x).0
            (record { state = state; lookahead = a.lookahead; at = e; held = c; follows = d })) f;
        no_error = λ n state a e c f. entry_error n state a e c;
        none_barren = nb;
      }
