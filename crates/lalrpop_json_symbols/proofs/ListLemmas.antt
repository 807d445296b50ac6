-- The JSON of a list, one element after another, for the loops that write lists.
use Rattle.std.proofs.Common.{◌≡◌, ℕ, ◌+◌, ◌<◌, ◌≤◌, List, [], ◌∷◌, ◌++◌, length, get_or, take, map, Vec, Global, refl, sym, ap, ◌∙◌}
use Rattle.std.proofs.lemmas.List.{map-append, take_all, take_more}
use Rattle.serde_json.specs.Data.{Data, array}
use Rattle.serde_json.specs.View.{view, items_of}
use Rattle.serde_json.specs.declared.value.Value.{Value, Array}
use Rattle.serde_json.proofs.Views.{view-Array}
use Rattle.lalrpop_json_values.specs.Spelled.{list_json}

-- the values written so far are those of the first elements
abbrev pub AreFirst : {A : Type 0} → (A → Data) → List A → List Value → ℕ → Type 0
AreFirst spelled xs vs n = map view vs ≡ map spelled (take n xs)

pub all_first : {A : Type 0} (spelled : A → Data) (xs : List A) (vs : List Value) (n : ℕ) → length xs ≤ n
    → AreFirst spelled xs vs n
    → items_of (map view vs) ≡ items_of (map spelled xs)
all_first spelled xs vs n h first = ap items_of (first ∙ ap (map spelled) (take_all n xs h))

-- the value of one more element comes behind those before
pub first_more : {A : Type 0} (spelled : A → Data) (xs : List A) (vs after : List Value) (n : ℕ) (x : A) (v : Value) → n < length xs
    → x ≡ get_or xs n x → view v ≡ spelled x → after ≡ vs ++ v ∷ [] → AreFirst spelled xs vs n → AreFirst spelled xs after (n + 1)
first_more spelled xs vs after n x v h is spells e first =
    let taken : take (n + 1) xs ≡ take n xs ++ x ∷ [] = take_more xs n x h ∙ ap (λ y. take n xs ++ y ∷ []) (sym is) in
    rw (e, taken, map-append view vs (v ∷ []), map-append spelled (take n xs) (x ∷ []), first, spells) refl

-- the values of all elements are the JSON of the list
pub all_listed : {A : Type 0} (spelled : A → Data) (xs : List A) (vs : Vec Value Global) (n : ℕ) → length xs ≤ n
    → AreFirst spelled xs vs.items n → view (Array vs) ≡ list_json spelled xs
all_listed spelled xs vs n h first = view-Array vs ∙ ap array (all_first spelled xs vs.items n h first)

pub ruleset listed = (all_first)
