-- Lists in which none stands twice, and how many there are that have numbers below one: for the numbers that inlining hands out.
use Rattle.std.proofs.Common.{◌≡◌, ◌∙◌, ◌+◌, ◌<◌, ◌≤◌, ℕ, zero, suc, List, [], ◌∷◌, ◌++◌, Some, ap, arith, inl, inr, length, map, refl, subst}
use Rattle.std.proofs.Common.{sym}
use Rattle.std.specs.Prelude.{Option, slice_get}
use Rattle.std.proofs.lemmas.List.{length-map}
use Rattle.std.proofs.lemmas.Option.{slice_get_within}
use Rattle.lalrpop_grammar_language.specs.Among.{Among}
use Rattle.lalrpop_grammar_language.proofs.AmongLemmas.{map_among}
use Rattle.lalrpop_grammar_language.proofs.PlaceLemmas.{among_map}
use Rattle.lalrpop_lr1_inline.specs.InlinedLabels.{StandOnce}
use Rattle.lalrpop_lr1_core.proofs.MemberLemmas.{some_is}
use Rattle.lalrpop_run_prepare.proofs.NamedProductionLemmas.{among_place}
use Rattle.lalrpop_run.proofs.CountLemmas.{Below, Different, NotAmong, at_most}

pub once_map : {A B : Type 0} (f : A → B) (xs : List A) → ((x y : A) → Among xs x → Among xs y → f x ≡ f y → x ≡ y) → StandOnce xs →
    StandOnce (map f xs)
once_map f [] tells h = tt
once_map {A} f (x ∷ xs) tells h = (
  λ i.
      let w = among_map f xs (f x) i in
      h.0 (subst (λ (y : A). Among xs y) (tells w.0 x (inr w.1) (inl refl) w.2) w.1),
  once_map f xs (λ y z i j. tells y z (inr i) (inr j)) h.1,
)

pub once_back : {A B : Type 0} (f : A → B) (xs : List A) → StandOnce (map f xs) → StandOnce xs
once_back f [] h = tt
once_back f (x ∷ xs) h = (λ i. h.0 (map_among f xs x i), once_back f xs h.1)

-- a list in which each value stands at one place has it once
pub once_at_place : {A B : Type 0} (f : A → B) (xs : List A) →
    ((i j : ℕ) (x y : A) → slice_get xs i ≡ Some x → slice_get xs j ≡ Some y → f x ≡ f y → i ≡ j) → StandOnce (map f xs)
once_at_place f [] only = tt
once_at_place f (x ∷ xs) only = (
  λ i.
      let r = among_map f xs (f x) i in
      let k = among_place xs r.0 r.1 in
      let same : ◌≡◌ {A = ℕ} 0 (suc k.0) = only 0 (suc k.0) x r.0 refl k.1 (sym r.2) in
      omega (arith, same),
  once_at_place f xs (λ i j y z a b e.
      let same : suc i ≡ suc j = only (suc i) (suc j) y z a b e in
      omega (arith, same)),
)

-- numbers one after another
abbrev pub count_up : ℕ → ℕ → List ℕ
count_up k zero = []
count_up k (suc m) = k ∷ count_up (k + 1) m

pub count_many : (k m : ℕ) → length (count_up k m) ≡ m
count_many k zero = refl
count_many k (suc m) = ap suc (count_many (k + 1) m)

pub count_within : (k m i : ℕ) → Among (count_up k m) i → (k ≤ i) × (i < k + m)
count_within k zero i h = absurd h
count_within k (suc m) i (inl e) = (omega (arith, e), omega (arith, e))
count_within k (suc m) i (inr h) = let w = count_within (k + 1) m i h in (omega (arith, w.0), omega (arith, w.1))

pub count_once : (k m : ℕ) → StandOnce (count_up k m)
count_once k zero = tt
count_once k (suc m) = (
  λ h. let w = count_within (k + 1) m k h in omega (arith, w.0),
  count_once (k + 1) m,
)

-- how many there are

not_among : (x : ℕ) (ys : List ℕ) → (Among ys x → ⊥) → NotAmong x ys
not_among x [] h = tt
not_among x (y ∷ ys) h = (λ e. h (inl (sym e)), not_among x ys (λ i. h (inr i)))

different : (xs : List ℕ) → StandOnce xs → Different xs
different [] h = tt
different (x ∷ xs) h = (not_among x xs h.0, different xs h.1)

all_below : (m : ℕ) (xs : List ℕ) → ((i : ℕ) → Among xs i → i < m) → Below m xs
all_below m [] h = tt
all_below m (x ∷ xs) h = (h x (inl refl), all_below m xs (λ i j. h i (inr j)))

-- the numbers of a list
record HaveNumbersBelow (A : Type 0) (f : ℕ → A) (m : ℕ) (xs : List A) : Type 0 where
  numbers : List ℕ
  are : map f numbers ≡ xs
  below : (i : ℕ) → Among numbers i → i < m

numbers_below : {A : Type 0} (f : ℕ → A) (m : ℕ) (xs : List A) → ((x : A) → Among xs x → (i : ℕ) × (i < m) × (f i ≡ x)) →
    HaveNumbersBelow A f m xs
numbers_below f m [] each = record { numbers = []; are = refl; below = λ i h. absurd h }
numbers_below {A} f m (x ∷ xs) each =
    let w = each x (inl refl) in
    let r = numbers_below f m xs (λ y i. each y (inr i)) in
    record {
      numbers = w.0 ∷ r.numbers;
      are = ap (λ (y : A). y ∷ map f r.numbers) w.2 ∙ ap (λ (l : List A). x ∷ l) r.are;
      below = λ i h. first w.0 r.numbers w.1 r.below i h;
    }
  where
    first : (k : ℕ) (ks : List ℕ) → k < m → ((i : ℕ) → Among ks i → i < m) → (i : ℕ) → Among (k ∷ ks) i → i < m
    first k ks l later i (inl e) = subst (λ (j : ℕ). j < m) e l
    first k ks l later i (inr h) = later i h

-- where each has a number below one, there are no more than that
pub few_numbered : {A : Type 0} (f : ℕ → A) (m : ℕ) (xs : List A) → StandOnce xs →
    ((x : A) → Among xs x → (i : ℕ) × (i < m) × (f i ≡ x)) → length xs ≤ m
few_numbered {A} f m xs once each =
    let r = numbers_below f m xs each in
    let own = once_back f r.numbers (subst (λ (l : List A). StandOnce l) (sym r.are) once) in
    let most : length r.numbers ≤ m = at_most m r.numbers (different r.numbers own) (all_below m r.numbers r.below) in
    let same : length xs ≡ length r.numbers = ap length (sym r.are) ∙ length-map r.numbers f in
    omega (arith, most, same)

-- where each is one of others, there are no more than those
pub few_among : {A : Type 0} (xs big : List A) → StandOnce xs → ((x : A) → Among xs x → Among big x) → length xs ≤ length big
few_among {A} xs big once inside =
    let few = few_numbered (slice_get big) (length big) (map Some xs) (once_map Some xs (λ x y i j e. some_is x y e) once) placed in
    let same : length (map Some xs) ≡ length xs = length-map xs Some in
    omega (arith, few, same)
  where
    placed : (o : Option A) → Among (map Some xs) o → (i : ℕ) × (i < length big) × (slice_get big i ≡ o)
    placed o i =
        let w = among_map Some xs o i in
        let k = among_place big w.0 (inside w.0 w.1) in
        (k.0, slice_get_within big k.0 w.0 k.1, k.1 ∙ w.2)

-- a mapped list in two parts is made of two parts
pub record IsInParts (A B : Type 0) (h : A → B) (xs : List A) (f b : List B) : Type 0 where
  pub front : List A
  pub behind : List A
  pub whole : xs ≡ front ++ behind
  pub front_is : map h front ≡ f

pub map_parts : {A B : Type 0} (h : A → B) (xs : List A) (f b : List B) → map h xs ≡ f ++ b → IsInParts A B h xs f b
map_parts h xs [] b e = record { front = []; behind = xs; whole = refl; front_is = refl }
map_parts h [] (y ∷ f) b e = (let wrong : [] ≡ y ∷ (f ++ b) = e in cc)
map_parts {A} {B} h (x ∷ xs) (y ∷ f) b e =
    let whole : h x ∷ map h xs ≡ y ∷ (f ++ b) = e in
    let head : h x ≡ y = cc in
    let rest : map h xs ≡ f ++ b = cc in
    let r = map_parts h xs f b rest in
    record {
      front = x ∷ r.front;
      behind = r.behind;
      whole = ap (λ (l : List A). x ∷ l) r.whole;
      front_is = ap (λ (z : B). z ∷ map h r.front) head ∙ ap (λ (l : List B). y ∷ l) r.front_is;
    }
