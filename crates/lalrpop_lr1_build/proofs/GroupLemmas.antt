-- Groups of shifted items, one item after another: for the grouping of a state's items by the symbols behind their dots.
use Rattle.std.proofs.Common.{◌≡◌, ◌∙◌, ◌+◌, ◌<◌, ℕ, zero, suc, List, [], ◌∷◌}
use Rattle.std.proofs.Common.{◌++◌, length, set, take, get_or, Option, Some, None}
use Rattle.std.proofs.Common.{slice_get, refl, sym, ap, arith, ⊎_elim, append-nil}
use Rattle.std.specs.List.{cons_option}
use Rattle.std.specs.Prelude.{if◌then◌else◌}
use Rattle.std.proofs.lemmas.List.Elements.{filter_map-append}
use Rattle.lalrpop_sets.specs.Tokens.{is_number}
use Rattle.lalrpop_lr1_first.specs.declared.place.Place.{Place}
use Rattle.lalrpop_lr1_first.specs.declared.place.Place.TheVariants as places
use Rattle.lalrpop_lr1_first.proofs.AddLemmas.{taken_more}
use Rattle.lalrpop_sets.proofs.AscendingListLemmas.{cases_eq}
use Rattle.lalrpop_sets.proofs.AscendingListLemmas.{eqb_not}
use Rattle.lalrpop_lr1_build.specs.Shifts.{items_in, items_of_group, shifted_items, shifted_over, symbol_behind, symbol_in}
use Rattle.lalrpop_lr1_build.specs.declared.states.kernel.StateKernel.{StateKernel}
use Rattle.lalrpop_lr1_build.proofs.StateEdgeLemmas.{get_parts}
use Rattle.lalrpop_lr1_build.proofs.ShiftLemmas.{is_over}

pub get_set_same : {X : Type 0} (xs : List X) (i : ℕ) (x : X) → i < length xs → slice_get (set xs i x) i ≡ Some x
get_set_same [] i x h = absurd (omega arith)
get_set_same (y ∷ xs) zero x h = refl
get_set_same (y ∷ xs) (suc i) x h = get_set_same xs i x (omega arith)

pub get_set_other : {X : Type 0} (xs : List X) (i j : ℕ) (x : X) → (i ≡ j → ⊥) → slice_get (set xs i x) j ≡ slice_get xs j
get_set_other [] i j x h = refl
get_set_other (y ∷ xs) zero zero x h = absurd (h refl)
get_set_other (y ∷ xs) zero (suc j) x h = refl
get_set_other (y ∷ xs) (suc i) zero x h = refl
get_set_other (y ∷ xs) (suc i) (suc j) x h = get_set_other xs i j x (λ e. h (ap suc e))

-- a symbol that stands at a place
pub symbol_found : (all : List Place) (i s : ℕ) → symbol_behind all i ≡ Some s → slice_get all i ≡ Some (places.Symbol s)
symbol_found all i s e = go (slice_get all i) refl e
  where
    go : (o : Option Place) → slice_get all i ≡ o → symbol_in o ≡ Some s → slice_get all i ≡ Some (places.Symbol s)
    go None f g = let w : ⊥ = cc in absurd w
    go (Some (places.End r)) f g = let w : ⊥ = cc in absurd w
    go (Some (places.Symbol t)) f g = let z : t ≡ s = cc in f ∙ ap (λ x. Some (places.Symbol x)) z

module _ {L : Type 0} where
  -- one more group without items
  pub empty_more : (groups : List (StateKernel L)) (group : StateKernel L) → group.items ≡ [] →
      ((s : ℕ) → items_of_group groups s ≡ []) → (s : ℕ) → items_of_group (groups ++ group ∷ []) s ≡ []
  empty_more groups group none all s = go (slice_get (groups ++ group ∷ []) s) refl
    where
      go : (o : Option (StateKernel L)) → slice_get (groups ++ group ∷ []) s ≡ o → items_in o ≡ []
      go None e = refl
      go (Some one) e = ⊎_elim
          (λ f. sym (ap items_in f) ∙ all s)
          (λ f. ap (λ (g : StateKernel L). g.items) (sym f.1) ∙ none) (get_parts groups group s one e)

  module _ (all : List Place) (groups : List (StateKernel L)) (place : ℕ) (l : L) where
    -- no symbol stands behind the dot
    pub group_same : symbol_behind all place ≡ None → (s : ℕ) →
        items_of_group groups s ≡ items_of_group groups s ++ shifted_items all s ((place, l) ∷ [])
    group_same behind s =
        let none : shifted_items all s ((place, l) ∷ []) ≡ [] =
        ap (λ o. cons_option (if is_number o s then Some (place + 1, l) else None) []) behind in
        sym (append-nil (items_of_group groups s)) ∙ sym (ap (λ xs. items_of_group groups s ++ xs) none)

    -- the item joins the group of the symbol behind its dot
    pub group_more : (symbol : ℕ) (old new : StateKernel L) → symbol_behind all place ≡ Some symbol → symbol < length groups →
        slice_get groups symbol ≡ Some old → new.items ≡ old.items ++ (place + 1, l) ∷ [] → (s : ℕ) →
        items_of_group (set groups symbol new) s ≡ items_of_group groups s ++ shifted_items all s ((place, l) ∷ [])
    group_more symbol old new behind within at more s = ⊎_elim here other (cases_eq symbol s)
      where
        here : symbol ≡ s →
            items_of_group (set groups symbol new) s ≡ items_of_group groups s ++ shifted_items all s ((place, l) ∷ [])
        here e =
            let one : shifted_items all s ((place, l) ∷ []) ≡ (place + 1, l) ∷ [] =
            ap (λ o. cons_option o []) (is_over all s place l (behind ∙ ap Some e)) in
            let was : items_of_group groups s ≡ old.items = ap (items_of_group groups) (sym e) ∙ ap items_in at in
            ap (items_of_group (set groups symbol new)) (sym e) ∙ ap items_in (get_set_same groups symbol new within) ∙ more
            ∙ sym (ap (λ xs. xs ++ shifted_items all s ((place, l) ∷ [])) was ∙ ap (λ xs. old.items ++ xs) one)

        other : (symbol ≡ s → ⊥) →
            items_of_group (set groups symbol new) s ≡ items_of_group groups s ++ shifted_items all s ((place, l) ∷ [])
        other ne =
            let apart : is_number (symbol_behind all place) s ≡ is_number (Some symbol) s = ap (λ o. is_number o s) behind in
            let none : shifted_items all s ((place, l) ∷ []) ≡ [] =
            ap (λ b. cons_option (if b then Some (place + 1, l) else None) []) (apart ∙ eqb_not s symbol (λ e. ne (sym e))) in
            ap items_in (get_set_other groups symbol s new ne) ∙ sym (append-nil (items_of_group groups s))
            ∙ sym (ap (λ xs. items_of_group groups s ++ xs) none)

  -- one item more is grouped
  pub grouped_more : (all : List Place) (items : List (ℕ × L)) (i : ℕ) (x : ℕ × L) (groups new : List (StateKernel L)) →
      i < length items → x ≡ get_or items i x →
      ((s : ℕ) → items_of_group groups s ≡ shifted_items all s (take i items)) →
      ((s : ℕ) → items_of_group new s ≡ items_of_group groups s ++ shifted_items all s (x ∷ [])) → (s : ℕ) →
      items_of_group new s ≡ shifted_items all s (take (i + 1) items)
  grouped_more all items i x groups new h e before step s =
      step s ∙ ap (λ xs. xs ++ shifted_items all s (x ∷ [])) (before s)
      ∙ sym (filter_map-append (shifted_over all s) (take i items) (x ∷ []))
      ∙ sym (ap (shifted_items all s) (taken_more items i x h e))
