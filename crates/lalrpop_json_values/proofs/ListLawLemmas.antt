-- Lists: what is read is spelled so, and what is spelled so is read, where both hold of each element; for the laws of formats.
use Rattle.std.proofs.Common.{◌≡◌, ℕ, ◌+◌, List, [], ◌∷◌, map, Result, Ok, refl, ap}
use Rattle.serde_json.specs.Data.{Data, null, boolean, number, string, array, object, Items, no_items, item}
use Rattle.serde_json.specs.View.{items_of}
use Rattle.lalrpop_json_values.specs.declared.fault.Fault.{Fault}
use Rattle.lalrpop_json_values.specs.declared.fault.Step.TheVariants.{Index}
use Rattle.lalrpop_json_values.specs.Lists.{list_at, list_from}
use Rattle.lalrpop_json_values.proofs.StepLemmas.{bind_ok, part_ok}
use Rattle.lalrpop_json_values.specs.Spelled.{EachFrom, list_json}

module _ {A : Type 0} (read : ℕ → Data → Result A Fault) (spelled : A → Data) (P : ℕ → A → Type 0) where
  module _ (takes : (i : ℕ) (d : Data) (x : A) → read i d ≡ Ok x → (d ≡ spelled x) × P i x) where
    list_joined : (i : ℕ) (d : Data) (ds : Items) (x : A) (rest xs : List A) → (d ≡ spelled x) × P i x
        → (ds ≡ items_of (map spelled rest)) × EachFrom P (i + 1) rest → x ∷ rest ≡ xs
        → (item d ds ≡ items_of (map spelled xs)) × EachFrom P i xs
    list_joined i d ds x rest xs first more e = rw (← e) (rw (first.0, more.0) refl, (first.1, more.1))

    from_takes : (i : ℕ) (ds : Items) (xs : List A) → list_from read i ds ≡ Ok xs → (ds ≡ items_of (map spelled xs))
        × EachFrom P i xs
    from_takes i no_items xs e = let none : [] ≡ xs = cc in rw (← none) (refl, tt)
    from_takes i (item d ds) xs e =
        let first = part_ok (Index i) (read i d) _ xs e in
        let more = bind_ok (list_from read (i + 1) ds) _ xs first.2 in
        let next = from_takes (i + 1) ds more.0 more.1 in
        let all : first.0 ∷ more.0 ≡ xs = cc in
        list_joined i d ds first.0 more.0 xs (takes i d first.0 first.1) next all

    -- a value that is read as a list is the JSON of that list, and P holds of each element
    pub list_takes : (d : Data) (xs : List A) → list_at read d ≡ Ok xs → (d ≡ list_json spelled xs) × EachFrom P 0 xs
    unfolding list_at
    list_takes null xs e = absurd (cc)
    list_takes (boolean b) xs e = absurd (cc)
    list_takes (number n) xs e = absurd (cc)
    list_takes (string s) xs e = absurd (cc)
    list_takes (array ds) xs e = let all = from_takes 0 ds xs e in (ap array all.0, all.1)
    list_takes (object ms) xs e = absurd (cc)

  module _ (again : (i : ℕ) (x : A) → P i x → read i (spelled x) ≡ Ok x) where
    from_again : (i : ℕ) (xs : List A) → EachFrom P i xs → list_from read i (items_of (map spelled xs)) ≡ Ok xs
    from_again i [] is = refl
    from_again i (x ∷ xs) is = rw (again i x is.0, from_again (i + 1) xs is.1) refl

    -- the JSON of a list is read as that list, where P holds of each element
    pub list_again : (xs : List A) → EachFrom P 0 xs → list_at read (list_json spelled xs) ≡ Ok xs
    unfolding list_at
    list_again xs is = from_again 0 xs is
