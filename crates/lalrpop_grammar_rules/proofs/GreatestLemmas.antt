-- The greatest of the numbers that pass a test, told by what it is: for the levels of a rule in their order.
use Rattle.std.proofs.Common.{◌≡◌, ℕ, zero, ◌-◌, ◌≤◌, ◌<◌, suc, Bool, true, false, List, []}
use Rattle.std.proofs.Common.{◌∷◌, Option, Some, None, ◌⊎◌, inl, inr}
use Rattle.std.proofs.Common.{refl, ap, ◌∙◌, length, get_or, take, filter, max, arith, All, Contains, IsPermutation}
use Rattle.std.proofs.Common.{if◌then◌else◌}
use Rattle.std.proofs.Common.{slice_get}
use Rattle.std.proofs.lemmas.Bool.{cases_lt}
use Rattle.std.proofs.lemmas.List.{length-take-le, get_or-take, get_or_default, take_all}
use Rattle.std.proofs.lemmas.Option.{slice_get-get_or}
use Rattle.std.proofs.lemmas.List.Elements.{All-nil, All-cons, All-contains, Contains-append_right, Contains-get_or}
use Rattle.std.proofs.lemmas.List.Sorted.{All-permutation, Contains-permutation}
use Rattle.std.specs.List.Sorted.{IsNonDecreasing, IsPartitionPoint}
use Rattle.lalrpop_grammar_language.specs.Levels.{greatest, larger}

-- the greatest of the numbers that pass, where one does
abbrev pub IsGreatest : (ℕ → Bool) → List ℕ → Option ℕ → Type 0
IsGreatest p ls None = All (λ n. p n ≡ false) ls
IsGreatest p ls (Some m) = Contains ls m × ((p m ≡ true) × All (λ n. p n ≡ true → n ≤ m) ls)

module _ (p : ℕ → Bool) where
  of_two : (x m : ℕ) (xs : List ℕ) → p x ≡ true → IsGreatest p xs (Some m) → (x < m) ⊎ (m ≤ x)
      → IsGreatest p (x ∷ xs) (Some (max x m))
  of_two x m xs here rest (inl below) =
      let same : max x m ≡ m = omega (arith, below) in
      rw same (
        Contains-append_right (x ∷ []) xs m rest.0,
        (rest.1.0, All-cons (λ n. p n ≡ true → n ≤ m) x xs (λ e. omega (arith, below)) rest.1.1),
      )
  of_two x m xs here rest (inr above) =
      let same : max x m ≡ x = omega (arith, above) in
      rw same (
        Contains-get_or (x ∷ xs) 0 0 (omega arith),
        (
          here,
          All-cons (λ n. p n ≡ true → n ≤ x) x xs (λ e. omega arith)
              (λ k d lt e. let f = rest.1.1 k d lt e in omega (arith, f, above)),
        ),
      )

  one_more : (x : ℕ) (xs : List ℕ) (b : Bool) (o : Option ℕ) → p x ≡ b → IsGreatest p xs o
      → IsGreatest p (x ∷ xs) (if b then larger x o else o)
  one_more x xs false None here rest = All-cons (λ n. p n ≡ false) x xs here rest
  one_more x xs false (Some m) here rest = (
    Contains-append_right (x ∷ []) xs m rest.0,
    (rest.1.0, All-cons (λ n. p n ≡ true → n ≤ m) x xs (λ e. absurd (cc)) rest.1.1),
  )
  one_more x xs true None here rest = (
    Contains-get_or (x ∷ xs) 0 0 (omega arith),
    (
      here,
      All-cons (λ n. p n ≡ true → n ≤ x) x xs (λ e. omega arith)
          (λ k d lt e. let f = rest k d lt in absurd (cc)),
    ),
  )
  one_more x xs true (Some m) here rest = of_two x m xs here rest (cases_lt x m)

  passing : (x : ℕ) (xs : List ℕ) (b : Bool) → greatest (if b then x ∷ filter p xs else filter p xs)
      ≡ (if b then larger x (greatest (filter p xs)) else greatest (filter p xs))
  passing x xs true = refl
  passing x xs false = refl

  -- what the definition answers is the greatest that passes
  pub greatest_is : (ls : List ℕ) → IsGreatest p ls (greatest (filter p ls))
  greatest_is [] = All-nil (λ n. p n ≡ false)
  greatest_is (x ∷ xs) = rw (passing x xs (p x)) (one_more x xs (p x) (greatest (filter p xs)) refl (greatest_is xs))

  -- there is one greatest
  pub greatest_unique : (ls : List ℕ) (a b : Option ℕ) → IsGreatest p ls a → IsGreatest p ls b → a ≡ b
  greatest_unique ls None None f g = refl
  greatest_unique ls None (Some n) f g = let no_pass = All-contains (λ k. p k ≡ false) ls n f g.0 in let pass = g.1.0 in absurd (cc)
  greatest_unique ls (Some m) None f g = let no_pass = All-contains (λ k. p k ≡ false) ls m g f.0 in let pass = f.1.0 in absurd (cc)
  greatest_unique ls (Some m) (Some n) f g =
      let low = All-contains (λ k. p k ≡ true → k ≤ n) ls m g.1.1 f.0 f.1.0 in
      let high = All-contains (λ k. p k ≡ true → k ≤ m) ls n f.1.1 g.0 g.1.0 in
      let same : m ≡ n = omega (arith, low, high) in ap (λ k. Some k) same

  moved : (xs ys : List ℕ) (o : Option ℕ) → IsPermutation xs ys → IsGreatest p xs o → IsGreatest p ys o
  moved xs ys None s f = All-permutation (λ n. p n ≡ false) xs ys s f
  moved xs ys (Some m) s f =
      (Contains-permutation xs ys m s f.0, (f.1.0, All-permutation (λ n. p n ≡ true → n ≤ m) xs ys s f.1.1))

  -- nor does the order matter for those that pass
  pub greatest_moved : (xs ys : List ℕ) → IsPermutation xs ys → greatest (filter p ys) ≡ greatest (filter p xs)
  greatest_moved xs ys s =
      greatest_unique ys (greatest (filter p ys)) (greatest (filter p xs)) (greatest_is ys)
      (moved xs ys (greatest (filter p xs)) s (greatest_is xs))

  at_the_point : (ls : List ℕ) (k : ℕ) → k ≤ length ls → IsNonDecreasing ls
      → IsPartitionPoint (λ y. p y ≡ true) (λ y. p y ≡ false) ls k
      → IsGreatest p ls (slice_get (take k ls) (length (take k ls) - 1))
  at_the_point ls zero lt up parted = λ i d inside. parted.1 i d (omega arith) inside
  at_the_point ls (suc j) lt up parted =
      let long : length (take (suc j) ls) ≡ suc j = length-take-le (suc j) ls lt in
      let at : length (take (suc j) ls) - 1 ≡ j = omega (arith, long) in
      let read : slice_get (take (suc j) ls) j ≡ Some (get_or ls j 0) =
      slice_get-get_or (take (suc j) ls) j 0 (omega (arith, long)) ∙ ap (λ n. Some n) (get_or-take (suc j) ls j 0 (omega arith)) in
      rw (at, read) (
        Contains-get_or ls j 0 (omega arith),
        (parted.0 j 0 (omega arith) (omega arith), λ i d inside pass. before i d inside pass (cases_lt i (suc j))),
      )
    where
      before : (i d : ℕ) → i < length ls → p (get_or ls i d) ≡ true → (i < suc j) ⊎ (suc j ≤ i)
          → get_or ls i d ≤ get_or ls j 0
      before i d inside pass (inl below) =
          let r = up i j 0 (omega (arith, below)) (omega arith) in
          let same = get_or_default ls i d 0 inside in omega (arith, r, same)
      before i d inside pass (inr above) = let no_pass = parted.1 i d above inside in absurd (cc)

  -- of rising numbers it is the last before the first that doesn't pass
  pub greatest_at_point : (ls : List ℕ) (k : ℕ) → k ≤ length ls → IsNonDecreasing ls
      → IsPartitionPoint (λ y. p y ≡ true) (λ y. p y ≡ false) ls k
      → slice_get (take k ls) (length (take k ls) - 1) ≡ greatest (filter p ls)
  greatest_at_point ls k lt up parted =
      greatest_unique ls (slice_get (take k ls) (length (take k ls) - 1)) (greatest (filter p ls)) (at_the_point ls k lt up parted)
      (greatest_is ls)

every_one : (ls : List ℕ) → filter (λ n. true) ls ≡ ls
every_one [] = refl
every_one (x ∷ xs) = ap (λ l. x ∷ l) (every_one xs)

-- of rising numbers the last is the greatest
pub greatest_last : (ls : List ℕ) → IsNonDecreasing ls → slice_get ls (length ls - 1) ≡ greatest ls
greatest_last ls up =
    let whole : take (length ls) ls ≡ ls = take_all (length ls) ls (omega arith) in
    let found = greatest_at_point (λ n. true) ls (length ls) (omega arith) up
    ((λ k d low inside. refl), (λ k d low inside. absurd (omega arith))) in
    rw (whole, every_one ls) at found

-- the order doesn't matter
pub greatest_same : (xs ys : List ℕ) → IsPermutation xs ys → greatest ys ≡ greatest xs
greatest_same xs ys s = let found = greatest_moved (λ n. true) xs ys s in rw (every_one xs, every_one ys) at found
