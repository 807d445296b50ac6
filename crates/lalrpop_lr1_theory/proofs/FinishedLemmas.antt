-- Reductions by finished items are those that the items name: for the laws on collapsed states.
use Rattle.std.proofs.Common.{◌≡◌, ◌↔◌, ◌⊎◌, ℕ, Bool, true, false, List, [], ◌∷◌, length, Some, refl, sym, ap}
use Rattle.std.proofs.Common.{◌∙◌, subst, inl, inr}
use Rattle.std.proofs.Common.{arith, Contains}
use Rattle.std.proofs.lemmas.Bool.{eq-eqb, eqb-true}
use Rattle.std.specs.Prelude.{cond, eqb, slice_get}
use Rattle.lalrpop_lr1_theory.specs.Productions.{Next, Production}
use Rattle.lalrpop_lr1_theory.specs.States.{HasItem, HasLookahead, Item, LookaheadSet, Reduces, Reduction, State, finished_reductions}
use Rattle.lalrpop_lr1_theory.proofs.ListLemmas.{contains_here, contains_later, contains_split}
use Rattle.lalrpop_lr1_theory.specs.SameStates.{HasReductionBy}

-- the finished item with this lookahead, and the reduction by it
abbrev pub ended : Production → LookaheadSet → Item
ended p l = record { production = p; dot = length p.right; lookahead = l }

abbrev pub reduced : Production → LookaheadSet → Reduction
reduced p l = record { production = p; lookahead = l }

module _ (p : Production) (l : LookaheadSet) where
  module _ (item : Item) (items : List Item) where
    abbrev kept : Bool → List Reduction
    kept b = cond b (reduced item.production item.lookahead ∷ finished_reductions items) (finished_reductions items)

    dot_ends : item ≡ ended p l → eqb item.dot (length item.production.right) ≡ true
    dot_ends e = eq-eqb item.dot (length item.production.right) (ap (λ i. i.dot) e ∙ ap (λ i. length i.production.right) (sym e))

    ends_here : eqb item.dot (length item.production.right) ≡ true → reduced item.production item.lookahead ≡ reduced p l →
        item ≡ ended p l
    ends_here e f =
        ap (λ k. record { production = item.production; dot = k; lookahead = item.lookahead })
        (eqb-true item.dot (length item.production.right) e)
        ∙ ap (λ r. ended r.production r.lookahead) f

    kept_item : (b : Bool) → eqb item.dot (length item.production.right) ≡ b →
        (Contains (finished_reductions items) (reduced p l) → Contains items (ended p l)) → Contains (kept b) (reduced p l) →
        Contains (item ∷ items) (ended p l)
    kept_item false e later c = contains_later item (ended p l) items (later c)
    kept_item true e later c =
        go (contains_split (reduced item.production item.lookahead) (reduced p l) (finished_reductions items) c)
      where
        go : (reduced item.production item.lookahead ≡ reduced p l) ⊎ Contains (finished_reductions items) (reduced p l) →
            Contains (item ∷ items) (ended p l)
        go (inl h) = subst (Contains (item ∷ items)) (ends_here e h) (contains_here item items)
        go (inr h) = contains_later item (ended p l) items (later h)

    item_kept : (b : Bool) → eqb item.dot (length item.production.right) ≡ b →
        (Contains items (ended p l) → Contains (finished_reductions items) (reduced p l)) →
        (item ≡ ended p l) ⊎ Contains items (ended p l) → Contains (kept b) (reduced p l)
    item_kept true e later (inl h) =
        subst (Contains (kept true)) (ap (λ i. reduced i.production i.lookahead) h)
        (contains_here (reduced item.production item.lookahead) (finished_reductions items))
    item_kept true e later (inr h) =
        contains_later (reduced item.production item.lookahead) (reduced p l) (finished_reductions items) (later h)
    item_kept false e later (inl h) = let y : true ≡ false = sym (dot_ends h) ∙ e in let z : ⊥ = cc in absurd z
    item_kept false e later (inr h) = later h

  finished_item : (items : List Item) → Contains (finished_reductions items) (reduced p l) → Contains items (ended p l)
  finished_item [] c = absurd (omega (arith, c.1))
  finished_item (i ∷ is) c = kept_item i is (eqb i.dot (length i.production.right)) refl (finished_item is) c

  item_finished : (items : List Item) → Contains items (ended p l) → Contains (finished_reductions items) (reduced p l)
  item_finished [] c = absurd (omega (arith, c.1))
  item_finished (i ∷ is) c =
      item_kept i is (eqb i.dot (length i.production.right)) refl (item_finished is) (contains_split i (ended p l) is c)

-- where the reductions of states are by their finished items
module _ (states : List State) (by_items : (n : ℕ) (state : State) → slice_get states n ≡ Some state →
    state.reductions ≡ finished_reductions state.items) where
  pub reduction_held : (n : ℕ) (state : State) (p : Production) (l : LookaheadSet) → slice_get states n ≡ Some state →
      Contains state.reductions (reduced p l) → Contains state.items (ended p l)
  reduction_held n state p l e c =
      finished_item p l state.items (subst (λ rs. Contains rs (reduced p l)) (by_items n state e) c)

  pub held_reduction : (n : ℕ) (state : State) (p : Production) (l : LookaheadSet) → slice_get states n ≡ Some state →
      Contains state.items (ended p l) → Contains state.reductions (reduced p l)
  held_reduction n state p l e c =
      subst (λ rs. Contains rs (reduced p l)) (sym (by_items n state e)) (item_finished p l state.items c)

  pub reduces_held : (n : ℕ) (p : Production) (x : Next) → Reduces states n p x ↔ HasLookahead states n p (length p.right) x
  reduces_held n p x = (
    λ r. record {
      state = r.state;
      lookahead = r.lookahead;
      at = r.at;
      held = reduction_held n r.state p r.lookahead r.at r.held;
      follows = r.follows;
    },
    λ h. record {
      state = h.state;
      lookahead = h.lookahead;
      at = h.at;
      held = held_reduction n h.state p h.lookahead h.at h.held;
      follows = h.follows;
    },
  )

  pub reduction_by_held : (n : ℕ) (p : Production) → HasReductionBy states n p ↔ HasItem states n p (length p.right)
  reduction_by_held n p = (
    λ r. record {
      state = r.state;
      lookahead = r.lookahead;
      at = r.at;
      held = reduction_held n r.state p r.lookahead r.at r.held;
    },
    λ h. record {
      state = h.state;
      lookahead = h.lookahead;
      at = h.at;
      held = held_reduction n h.state p h.lookahead h.at h.held;
    },
  )
