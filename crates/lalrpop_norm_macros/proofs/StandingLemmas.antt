-- What is taken where a key stands in a list of keys, and what it is called there; for the names of keys.
use Rattle.std.specs.Str.{bytes_eq}
use Rattle.std.proofs.Common.{◌≡◌, ℕ, suc, ◌≤◌, List, [], ◌∷◌, refl, ap, sym, ◌∙◌, subst, cond}
use Rattle.std.proofs.Common.{Bool, true, false, inl, inr, ◌⊎◌, arith}
use Rattle.std.specs.Prelude.{Option, Some, None, map, if◌then◌else◌}
use Rattle.lalrpop_grammar_symbols.specs.Symbols.{Text, Closed, Closeds}
use Rattle.lalrpop_grammar_language.specs.Among.{Among}
use Rattle.lalrpop_grammar_language.proofs.ComparisonLemmas.{same_text-refl}
use Rattle.lalrpop_norm_theory.specs.Keys.{flat_key_text}
use Rattle.lalrpop_norm_theory.proofs.ClosedComparisonLemmas.{same_closed, same_closed-eq, same_closed-refl}
use Rattle.lalrpop_norm_keys.specs.Tables.{HasEachOnce}
use Rattle.lalrpop_norm_precedence.specs.GivenNames.{Times, once_more}
use Rattle.lalrpop_norm_precedence.proofs.ApartLemmas.{IsAtMost}
use Rattle.lalrpop_norm_macros.specs.OrderedNames.{key_name, key_names_from, rule_alone, taken_behind_key, taken_behind_keys}
use Rattle.lalrpop_norm_macros.specs.OrderedNames.{taken_unless}

-- which keys call a rule alone

-- a key that is a rule alone is the rule's call without arguments, at some level
pub alone_call : (x : Closed) (n : Text) → rule_alone x ≡ Some n → (level : Option ℕ) × (x ≡ Closed.call n Closeds.none level)
alone_call (Closed.call m Closeds.none level) n e =
    let same : m ≡ n = cc in (level, ap (λ t. Closed.call t Closeds.none level) same)
alone_call (Closed.call m (Closeds.more x xs) level) n e = cc
alone_call (Closed.terminal t) n e = cc
alone_call (Closed.repeat op x) n e = cc
alone_call (Closed.group xs) n e = cc
alone_call (Closed.choose x) n e = cc
alone_call (Closed.name a m x) n e = cc
alone_call Closed.lookahead n e = cc
alone_call Closed.lookbehind n e = cc
alone_call Closed.faulty n e = cc

-- times grow

once_at : (text : Text) (times : Times) → once_more text times text ≡ suc (times text)
once_at text times = ap (λ b. cond b (suc (times text)) (times text)) (same_text-refl text)

-- a key that has its text takes it once more
pub numbered_more : (times : Times) (x : Closed) → rule_alone x ≡ None →
    taken_behind_key times x (flat_key_text x) ≡ suc (times (flat_key_text x))
numbered_more times x e =
    ap (λ o. taken_unless o (flat_key_text x) times (flat_key_text x)) e ∙ once_at (flat_key_text x) times

key_grows : (times : Times) (x : Closed) → IsAtMost times (taken_behind_key times x)
key_grows times x t = go (rule_alone x)
  where
    one : (b : Bool) → times t ≤ cond b (suc (times t)) (times t)
    one true = omega arith
    one false = omega arith

    go : (o : Option Text) → times t ≤ taken_unless o (flat_key_text x) times t
    go None = one (bytes_eq t (flat_key_text x))
    go (Some n) = omega arith

-- behind keys each text is taken at least as often as before them
pub keys_grow : (times : Times) (xs : List Closed) → IsAtMost times (taken_behind_keys times xs)
keys_grow times [] t = omega arith
keys_grow times (x ∷ xs) t =
    let a = key_grows times x t in
    let b = keys_grow (taken_behind_key times x) xs t in
    omega (arith, a, b)

-- the key stands in the list, and so often are texts taken before it
abbrev pub StandsAt : Times → List Closed → Closed → Times → Type 0
StandsAt times [] x before = ⊥
StandsAt times (y ∷ ys) x before = (y ≡ x) × (times ≡ before) ⊎ StandsAt (taken_behind_key times y) ys x before

-- a key of the list stands somewhere in it, with some count of taken texts before it
pub key_stands : (times : Times) (xs : List Closed) (x : Closed) → Among xs x → (before : Times) × StandsAt times xs x before
key_stands times [] x i = absurd i
key_stands times (y ∷ ys) x (inl e) = (times, inl (e, refl))
key_stands times (y ∷ ys) x (inr i) = let u = key_stands (taken_behind_key times y) ys x i in (u.0, inr u.1)

-- what stands somewhere in the list is one of its keys
pub stands_among : (times : Times) (xs : List Closed) (x : Closed) (before : Times) → StandsAt times xs x before → Among xs x
stands_among times [] x before s = s
stands_among times (y ∷ ys) x before (inl e) = inl e.0
stands_among times (y ∷ ys) x before (inr s) = inr (stands_among (taken_behind_key times y) ys x before s)

-- before it as often as at first, or more often
pub stands_above : (times : Times) (xs : List Closed) (x : Closed) (before : Times) → StandsAt times xs x before →
    IsAtMost times before
stands_above times [] x before s t = absurd s
stands_above times (y ∷ ys) x before (inl e) t = let h : times t ≡ before t = ap (λ f. f t) e.1 in omega (arith, h)
stands_above times (y ∷ ys) x before (inr s) t =
    let a = key_grows times y t in
    let b = stands_above (taken_behind_key times y) ys x before s t in
    omega (arith, a, b)

-- and behind it not more often than at last
pub stands_below : (times : Times) (xs : List Closed) (x : Closed) (before : Times) → StandsAt times xs x before →
    IsAtMost (taken_behind_key before x) (taken_behind_keys times xs)
stands_below times [] x before s t = absurd s
stands_below times (y ∷ ys) x before (inl e) t =
    let a = keys_grow (taken_behind_key times y) ys t in
    let b : taken_behind_key times y t ≡ taken_behind_key before x t =
    ap (λ z. taken_behind_key times z t) e.0 ∙ ap (λ f. taken_behind_key f x t) e.1 in
    omega (arith, a, b)
stands_below times (y ∷ ys) x before (inr s) t = stands_below (taken_behind_key times y) ys x before s t

-- keys of one text, before which it is taken equally often, are one
pub same_place : (times : Times) (xs : List Closed) (x y : Closed) (a b : Times) → StandsAt times xs x a →
    StandsAt times xs y b → rule_alone x ≡ None → rule_alone y ≡ None → flat_key_text x ≡ flat_key_text y →
    a (flat_key_text x) ≡ b (flat_key_text y) → x ≡ y
same_place times [] x y a b s r nx ny t e = absurd s
same_place times (z ∷ zs) x y a b (inl h) (inl k) nx ny t e = sym h.0 ∙ k.0
same_place times (z ∷ zs) x y a b (inl h) (inr r) nx ny t e = absurd (later x y a b h r nx t e)
  where
    later : (x y : Closed) (a b : Times) → (z ≡ x) × (times ≡ a) → StandsAt (taken_behind_key times z) zs y b →
        rule_alone x ≡ None → flat_key_text x ≡ flat_key_text y → a (flat_key_text x) ≡ b (flat_key_text y) → ⊥
    later x y a b h r nx t e =
        let more : taken_behind_key times z (flat_key_text x) ≡ suc (times (flat_key_text x)) =
        ap (λ k. taken_behind_key times k (flat_key_text x)) h.0 ∙ numbered_more times x nx in
        let above = stands_above (taken_behind_key times z) zs y b r (flat_key_text x) in
        let same : times (flat_key_text x) ≡ b (flat_key_text x) =
        ap (λ f. f (flat_key_text x)) h.1 ∙ e ∙ ap b (sym t) in
        omega (arith, more, above, same)
same_place times (z ∷ zs) x y a b (inr s) (inl k) nx ny t e = absurd (later k s)
  where
    later : (z ≡ y) × (times ≡ b) → StandsAt (taken_behind_key times z) zs x a → ⊥
    later h r =
        let more : taken_behind_key times z (flat_key_text y) ≡ suc (times (flat_key_text y)) =
        ap (λ k. taken_behind_key times k (flat_key_text y)) h.0 ∙ numbered_more times y ny in
        let above = stands_above (taken_behind_key times z) zs x a r (flat_key_text y) in
        let same : times (flat_key_text y) ≡ a (flat_key_text y) =
        ap (λ f. f (flat_key_text y)) h.1 ∙ sym e ∙ ap a t in
        omega (arith, more, above, same)
same_place times (z ∷ zs) x y a b (inr s) (inr r) nx ny t e =
    same_place (taken_behind_key times z) zs x y a b s r nx ny t e

-- names and numbers

-- what a key of the list is called
abbrev pub name_at : Times → List Closed → Closed → Text
name_at times [] x = []
name_at times (y ∷ ys) x = if same_closed y x then key_name times y else name_at (taken_behind_key times y) ys x

-- and how often its text is taken before it
abbrev pub number_at : Times → List Closed → Closed → ℕ
number_at times [] x = 0
number_at times (y ∷ ys) x = if same_closed y x then times (flat_key_text y) else number_at (taken_behind_key times y) ys x

same_yes : (y x : Closed) → y ≡ x → same_closed y x ≡ true
same_yes y x e = subst (λ z. same_closed y z ≡ true) e (same_closed-refl y)

same_no : (y x : Closed) → (y ≡ x → ⊥) → same_closed y x ≡ false
same_no y x other = go (same_closed y x) refl
  where
    go : (b : Bool) → same_closed y x ≡ b → b ≡ false
    go true e = absurd (other (same_closed-eq y x e))
    go false e = refl

module _ (times : Times) (y : Closed) (ys : List Closed) (x : Closed) where
  name_front : y ≡ x → name_at times (y ∷ ys) x ≡ key_name times y
  name_front e = ap (λ b. cond b (key_name times y) (name_at (taken_behind_key times y) ys x)) (same_yes y x e)

  name_behind : (y ≡ x → ⊥) → name_at times (y ∷ ys) x ≡ name_at (taken_behind_key times y) ys x
  name_behind e = ap (λ b. cond b (key_name times y) (name_at (taken_behind_key times y) ys x)) (same_no y x e)

  number_front : y ≡ x → number_at times (y ∷ ys) x ≡ times (flat_key_text y)
  number_front e =
      ap (λ b. cond b (times (flat_key_text y)) (number_at (taken_behind_key times y) ys x)) (same_yes y x e)

  number_behind : (y ≡ x → ⊥) → number_at times (y ∷ ys) x ≡ number_at (taken_behind_key times y) ys x
  number_behind e =
      ap (λ b. cond b (times (flat_key_text y)) (number_at (taken_behind_key times y) ys x)) (same_no y x e)

other_behind : (y x : Closed) (ys : List Closed) → (Among ys y → ⊥) → Among ys x → y ≡ x → ⊥
other_behind y x ys once i e = once (subst (Among ys) (sym e) i)

-- in a list without a key twice, a key that stands somewhere is named from the count of taken texts before it
pub name_there : (times : Times) (xs : List Closed) (x : Closed) (before : Times) → HasEachOnce xs →
    StandsAt times xs x before → name_at times xs x ≡ key_name before x
name_there times [] x before once s = absurd s
name_there times (y ∷ ys) x before once (inl e) =
    name_front times y ys x e.0 ∙ ap (key_name times) e.0 ∙ ap (λ f. key_name f x) e.1
name_there times (y ∷ ys) x before once (inr s) =
    name_behind times y ys x (other_behind y x ys once.0 (stands_among (taken_behind_key times y) ys x before s))
    ∙ name_there (taken_behind_key times y) ys x before once.1 s

-- in a list without a key twice, the number of a key is how often its text is taken before it
pub number_there : (times : Times) (xs : List Closed) (x : Closed) (before : Times) → HasEachOnce xs →
    StandsAt times xs x before → number_at times xs x ≡ before (flat_key_text x)
number_there times [] x before once s = absurd s
number_there times (y ∷ ys) x before once (inl e) =
    number_front times y ys x e.0 ∙ ap (λ z. times (flat_key_text z)) e.0 ∙ ap (λ f. f (flat_key_text x)) e.1
number_there times (y ∷ ys) x before once (inr s) =
    number_behind times y ys x (other_behind y x ys once.0 (stands_among (taken_behind_key times y) ys x before s))
    ∙ number_there (taken_behind_key times y) ys x before once.1 s

map_alike : (f h : Closed → Text) (xs : List Closed) → ((x : Closed) → Among xs x → f x ≡ h x) → map f xs ≡ map h xs
map_alike f h [] e = refl
map_alike f h (x ∷ xs) e =
    ap (λ t. t ∷ map f xs) (e x (inl refl)) ∙ ap (λ l. h x ∷ l) (map_alike f h xs (λ y i. e y (inr i)))

-- the names in order are those of the keys
pub names_mapped : (times : Times) (xs : List Closed) → HasEachOnce xs → key_names_from times xs ≡ map (name_at times xs) xs
names_mapped times [] once = refl
names_mapped times (y ∷ ys) once =
    ap (λ l. key_name times y ∷ l) (names_mapped (taken_behind_key times y) ys once.1
    ∙ map_alike (name_at (taken_behind_key times y) ys) (name_at times (y ∷ ys)) ys
    (λ x i. sym (name_behind times y ys x (other_behind y x ys once.0 i))))
    ∙ ap (λ t. t ∷ map (name_at times (y ∷ ys)) ys) (sym (name_front times y ys y refl))
