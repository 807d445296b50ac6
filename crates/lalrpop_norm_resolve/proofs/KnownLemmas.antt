-- What the search for a name that is known gives; for the searches of names that two things share.
use Rattle.std.proofs.Common.{◌≡◌, ◌∙◌, ◌⊎◌, ap, ap₂, sym, refl, inl, inr, subst, cond}
use Rattle.std.proofs.Common.{List, [], ◌∷◌, ◌++◌, map}
use Rattle.std.proofs.Common.{Bool, true, false, ◌||◌, Option, Some, None}
use Rattle.std.proofs.lemmas.Bool.{or_parts, true≢false}
use Rattle.std.specs.Str.{bytes_eq}
use Rattle.lalrpop_grammar_symbols.specs.Symbols.{Text}
use Rattle.lalrpop_grammar_language.specs.Among.{Among}
use Rattle.lalrpop_grammar_language.specs.Enabled.{has_text}
use Rattle.lalrpop_grammar_language.proofs.PlaceLemmas.{same_text-eq}
use Rattle.lalrpop_grammar_language.proofs.ComparisonLemmas.{same_text-refl}
use Rattle.lalrpop_grammar_language.proofs.StepLemmas.{among_right}
use Rattle.lalrpop_norm_theory.specs.NameFaults.{IsTwice}
use Rattle.lalrpop_norm_resolve.specs.FoundFaults.{HasNoTwice}
use Rattle.lalrpop_norm_resolve.specs.Searches.{first_known, knowing}

pub one_true : (a b : Bool) → (a || b) ≡ true → (a ≡ true) ⊎ (b ≡ true)
one_true true b e = inl refl
one_true false b e = inr e

pub first_true : (a b : Bool) → a ≡ true → (a || b) ≡ true
first_true true b e = refl
first_true false b e = cc

pub second_true : (a b : Bool) → b ≡ true → (a || b) ≡ true
second_true true b e = refl
second_true false b e = e

-- the search goes by what is known, however that is told
pub known-same : {A : Type 0} (name : A → Text) (f h : Text → Bool) → ((n : Text) → f n ≡ h n) → (xs : List A)
    → first_known name f xs ≡ first_known name h xs
known-same name f h same [] = refl
known-same name f h same (x ∷ xs) =
    ap (λ (b : Bool). cond b (Some x) (first_known name (knowing (name x) f) xs)) (same (name x))
    ∙ ap (cond (h (name x)) (Some x))
    (known-same name (knowing (name x) f) (knowing (name x) h) (λ n. ap (λ b. b || bytes_eq n (name x)) (same n)) xs)

-- one that isn't known is passed
pub known_step : {A : Type 0} (name : A → Text) (f h : Text → Bool) (x : A) (xs : List A) → f (name x) ≡ false
    → ((n : Text) → h n ≡ (f n || bytes_eq n (name x))) → first_known name h xs ≡ first_known name f (x ∷ xs)
known_step name f h x xs out same =
    known-same name h (knowing (name x) f) same xs
    ∙ sym (ap (λ (b : Bool). cond b (Some x) (first_known name (knowing (name x) f) xs)) out)

-- one that is known is found
pub known_here : {A : Type 0} (name : A → Text) (f : Text → Bool) (x : A) (xs : List A) → f (name x) ≡ true
    → first_known name f (x ∷ xs) ≡ Some x
known_here name f x xs there = ap (λ (b : Bool). cond b (Some x) (first_known name (knowing (name x) f) xs)) there

-- what is found stands in the list, and its name is known or stands before it
pub record IsFound {A : Type 0} (name : A → Text) (known : Text → Bool) (xs : List A) (x : A) : Type 0 where
  pub before : List A
  pub after : List A
  pub split : xs ≡ before ++ x ∷ after
  pub shared : (known (name x) ≡ true) ⊎ (has_text (name x) (map name before) ≡ true)

module _ {A : Type 0} (name : A → Text) (known : Text → Bool) (y : A) (ys : List A) (x : A) where
  name_shared : (before : List A)
      → (knowing (name y) known (name x) ≡ true) ⊎ (has_text (name x) (map name before) ≡ true)
      → (known (name x) ≡ true) ⊎ (has_text (name x) (map name (y ∷ before)) ≡ true)
  name_shared before (inl k) =
      elim (one_true (known (name x)) (bytes_eq (name x) (name y)) k) [
        | inl here ↦ inl here
        | inr same ↦ inr (first_true (bytes_eq (name x) (name y)) (has_text (name x) (map name before)) same)
      ]
  name_shared before (inr k) = inr (second_true (bytes_eq (name x) (name y)) (has_text (name x) (map name before)) k)

  found_behind : IsFound name (knowing (name y) known) ys x → IsFound name known (y ∷ ys) x
  found_behind w = record {
    before = y ∷ w.before;
    after = w.after;
    split = ap (λ l. y ∷ l) w.split;
    shared = name_shared w.before w.shared;
  }

  found_at : (b : Bool) → known (name y) ≡ b → cond b (Some y) (first_known name (knowing (name y) known) ys) ≡ Some x
      → (first_known name (knowing (name y) known) ys ≡ Some x → IsFound name (knowing (name y) known) ys x)
      → IsFound name known (y ∷ ys) x
  found_at true k e later =
      let same : y ≡ x = cc in
      record { before = []; after = ys; split = ap (λ z. z ∷ ys) same; shared = inl (ap (λ z. known (name z)) (sym same) ∙ k) }
  found_at false k e later = found_behind (later e)

-- what the search gives is found: it stands in the list, and its name is known or stands before it
pub found_known : {A : Type 0} (name : A → Text) (known : Text → Bool) (xs : List A) (x : A)
    → first_known name known xs ≡ Some x → IsFound name known xs x
found_known name known [] x e = cc
found_known name known (y ∷ ys) x e =
    found_at name known y ys x (known (name y)) refl e (λ h. found_known name (knowing (name y) known) ys x h)

-- what is found is an element of the list
pub found_among : {A : Type 0} (name : A → Text) (known : Text → Bool) (xs : List A) (x : A) → IsFound name known xs x → Among xs x
found_among name known xs x w = subst (λ l. Among l x) (sym w.split) (among_right w.before (x ∷ w.after) x (inl refl))

-- where none is found

none_here : {A : Type 0} (b : Bool) (x : A) (other : Option A) → cond b (Some x) other ≡ None → (b ≡ false) × (other ≡ None)
none_here true x other e = cc
none_here false x other e = (refl, e)

module _ {A : Type 0} (name : A → Text) where
  pub not_first : (known : Text → Bool) (x : A) (xs : List A) → first_known name known (x ∷ xs) ≡ None → known (name x) ≡ false
  not_first known x xs e = (none_here (known (name x)) x (first_known name (knowing (name x) known) xs) e).0

  pub none_behind : (known : Text → Bool) (x : A) (xs : List A) → first_known name known (x ∷ xs) ≡ None
      → first_known name (knowing (name x) known) xs ≡ None
  none_behind known x xs e = (none_here (known (name x)) x (first_known name (knowing (name x) known) xs) e).1

  -- no name of one is known
  pub none_known : (known : Text → Bool) (xs : List A) → first_known name known xs ≡ None → (x : A) → Among xs x
      → known (name x) ≡ false
  none_known known [] e x i = absurd i
  none_known known (y ∷ ys) e x (inl same) = ap (λ z. known (name z)) (sym same) ∙ not_first known y ys e
  none_known known (y ∷ ys) e x (inr i) =
      (or_parts (known (name x)) (bytes_eq (name x) (name y))
      (none_known (knowing (name y) known) ys (none_behind known y ys e) x i)).0

  -- and none stands before it
  pub none_before : (known : Text → Bool) (xs : List A) → first_known name known xs ≡ None
      → (before : List A) (x : A) (after : List A)
      → xs ≡ before ++ x ∷ after → has_text (name x) (map name before) ≡ false
  none_before known xs e [] x after split = refl
  none_before known [] e (y ∷ before) x after split = cc
  none_before known (z ∷ zs) e (y ∷ before) x after split =
      let same : z ≡ y = cc in
      let rest : zs ≡ before ++ x ∷ after = cc in
      let later = none_behind known z zs e in
      let apart = none_known (knowing (name z) known) zs later x
      (subst (λ l. Among l x) (sym rest) (among_right before (x ∷ after) x (inl refl))) in
      ap₂ ◌||◌ (ap (λ q. bytes_eq (name x) (name q)) (sym same) ∙ (or_parts (known (name x)) (bytes_eq (name x) (name z)) apart).1)
      (none_before (knowing (name z) known) zs later before x after rest)

-- names that stand twice

text_there : (n : Text) (before after : List Text) → has_text n (before ++ n ∷ after) ≡ true
text_there n [] after = first_true (bytes_eq n n) (has_text n after) (same_text-refl n)
text_there n (m ∷ before) after = second_true (bytes_eq n m) (has_text n (before ++ n ∷ after)) (text_there n before after)

twice_in : (n : Text) (before after : List Text) → has_text n (map (λ m. m) before) ≡ true → IsTwice n (before ++ n ∷ after)
twice_in n [] after e = cc
twice_in n (m ∷ before) after e =
    go (one_true (bytes_eq n m) (has_text n (map (λ k. k) before)) e) (λ h. twice_in n before after h)
  where
    go : (bytes_eq n m ≡ true) ⊎ (has_text n (map (λ k. k) before) ≡ true)
        → (has_text n (map (λ k. k) before) ≡ true → IsTwice n (before ++ n ∷ after)) → IsTwice n (m ∷ (before ++ n ∷ after))
    go (inl same) later = inl (same_text-eq n m same, text_there n before after)
    go (inr h) later = inr (later h)

-- the name that is found stands twice
pub found_twice : (ns : List Text) (n : Text) → first_known (λ m. m) (λ m. false) ns ≡ Some n → IsTwice n ns
found_twice ns n e =
    let w = found_known (λ m. m) (λ m. false) ns n e in
    subst (IsTwice n) (sym w.split) (twice_in n w.before w.after (elim w.shared [ inl k ↦ cc | inr h ↦ h ]))

text_among : (n : Text) (ns : List Text) → has_text n ns ≡ true → Among ns n
text_among n [] e = cc
text_among n (m ∷ ns) e = go (one_true (bytes_eq n m) (has_text n ns) e) (λ h. text_among n ns h)
  where
    go : (bytes_eq n m ≡ true) ⊎ (has_text n ns ≡ true) → (has_text n ns ≡ true → Among ns n) → (m ≡ n) ⊎ Among ns n
    go (inl same) later = inl (sym (same_text-eq n m same))
    go (inr h) later = inr (later h)

none_twice_from : (known : Text → Bool) (ns : List Text) → first_known (λ m. m) known ns ≡ None → HasNoTwice ns
none_twice_from known [] e n i = i
none_twice_from known (m ∷ ns) e n (inl w) =
    let apart = none_known (λ k. k) (knowing m known) ns (none_behind (λ k. k) known m ns e) n (text_among n ns w.1) in
    true≢false (sym (ap (λ k. bytes_eq n k) (sym w.0) ∙ same_text-refl n) ∙ (or_parts (known n) (bytes_eq n m) apart).1)
none_twice_from known (m ∷ ns) e n (inr i) =
    none_twice_from (knowing m known) ns (none_behind (λ k. k) known m ns e) n i

-- where none is found, none stands twice
pub none_twice : (ns : List Text) → first_known (λ m. m) (λ m. false) ns ≡ None → HasNoTwice ns
none_twice ns e = none_twice_from (λ m. false) ns e
