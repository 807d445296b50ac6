-- Tests of equality for closed symbols and nonterminals, with what they mean; for the lists of productions.
use Rattle.std.specs.Str.{bytes_eq}
use Rattle.std.proofs.Common.{◌≡◌, ℕ, List, [], ◌∷◌, refl, ap, sym, ◌∙◌, subst, Bool, true, false, inl, inr, ◌⊎◌}
use Rattle.std.specs.Prelude.{Option, Some, None, ◌==◌, ◌&&◌, ◌||◌}
use Rattle.std.specs.List.{list_any, list_all}
use Rattle.std.proofs.lemmas.Bool.{eqb-true, eq-eqb, and_from, and_parts, true≢false}
use Rattle.lalrpop_grammar_symbols.specs.Symbols.{Op, Closed, Closeds}
use Rattle.lalrpop_grammar_language.specs.Among.{Among}
use Rattle.lalrpop_grammar_language.specs.Expansion.{Nonterminal}
use Rattle.lalrpop_grammar_language.proofs.PlaceLemmas.{same_text-eq}
use Rattle.lalrpop_grammar_language.proofs.ComparisonLemmas.{same_text-refl, same_bool, same_bool-eq, same_bool-refl, same_op}
use Rattle.lalrpop_grammar_language.proofs.ComparisonLemmas.{same_term, same_term-eq, same_term-refl}

op-eq : (a b : Op) → same_op a b ≡ true → a ≡ b
op-eq Op.star Op.star h = refl
op-eq Op.plus Op.plus h = refl
op-eq Op.question Op.question h = refl
op-eq Op.star Op.plus h = cc
op-eq Op.star Op.question h = cc
op-eq Op.plus Op.star h = cc
op-eq Op.plus Op.question h = cc
op-eq Op.question Op.star h = cc
op-eq Op.question Op.plus h = cc

op-refl : (a : Op) → same_op a a ≡ true
op-refl Op.star = refl
op-refl Op.plus = refl
op-refl Op.question = refl

-- whether two levels are the same
abbrev pub same_level : Option ℕ → Option ℕ → Bool
same_level None None = true
same_level (Some j) (Some k) = j == k
same_level _ _ = false

-- levels that pass the test are equal
pub same_level-eq : (a b : Option ℕ) → same_level a b ≡ true → a ≡ b
same_level-eq None None h = refl
same_level-eq (Some j) (Some k) h = ap Some (eqb-true j k h)
same_level-eq None (Some k) h = cc
same_level-eq (Some j) None h = cc

-- each level passes the test with itself
pub same_level-refl : (a : Option ℕ) → same_level a a ≡ true
same_level-refl None = refl
same_level-refl (Some j) = eq-eqb j j refl

-- whether two closed symbols are the same
abbrev mutual
  pub same_closed : Closed → Closed → Bool
  same_closed (Closed.terminal t) (Closed.terminal u) = same_term t u
  same_closed (Closed.call n xs j) (Closed.call m ys k) = bytes_eq n m && (same_closeds xs ys && same_level j k)
  same_closed (Closed.repeat o x) (Closed.repeat p y) = same_op o p && same_closed x y
  same_closed (Closed.group xs) (Closed.group ys) = same_closeds xs ys
  same_closed (Closed.choose x) (Closed.choose y) = same_closed x y
  same_closed (Closed.name a n x) (Closed.name b m y) = same_bool a b && (bytes_eq n m && same_closed x y)
  same_closed Closed.lookahead Closed.lookahead = true
  same_closed Closed.lookbehind Closed.lookbehind = true
  same_closed Closed.faulty Closed.faulty = true
  same_closed _ _ = false

  pub same_closeds : Closeds → Closeds → Bool
  same_closeds Closeds.none Closeds.none = true
  same_closeds (Closeds.more x xs) (Closeds.more y ys) = same_closed x y && same_closeds xs ys
  same_closeds _ _ = false

-- closed symbols that pass the test are equal
mutual
  pub same_closed-eq : (a b : Closed) → same_closed a b ≡ true → a ≡ b
  same_closed-eq (Closed.terminal t) (Closed.terminal u) h = ap Closed.terminal (same_term-eq t u h)
  same_closed-eq (Closed.call n xs j) (Closed.call m ys k) h =
      let w = and_parts (bytes_eq n m) (same_closeds xs ys && same_level j k) h in
      let z = and_parts (same_closeds xs ys) (same_level j k) w.1 in
      ap (λ t. Closed.call t xs j) (same_text-eq n m w.0) ∙ ap (λ l. Closed.call m l j) (same_closeds-eq xs ys z.0)
      ∙ ap (λ l. Closed.call m ys l) (same_level-eq j k z.1)
  same_closed-eq (Closed.repeat o x) (Closed.repeat p y) h =
      let w = and_parts (same_op o p) (same_closed x y) h in
      ap (λ a. Closed.repeat a x) (op-eq o p w.0) ∙ ap (λ a. Closed.repeat p a) (same_closed-eq x y w.1)
  same_closed-eq (Closed.group xs) (Closed.group ys) h = ap Closed.group (same_closeds-eq xs ys h)
  same_closed-eq (Closed.choose x) (Closed.choose y) h = ap Closed.choose (same_closed-eq x y h)
  same_closed-eq (Closed.name a n x) (Closed.name b m y) h =
      let w = and_parts (same_bool a b) (bytes_eq n m && same_closed x y) h in
      let z = and_parts (bytes_eq n m) (same_closed x y) w.1 in
      ap (λ c. Closed.name c n x) (same_bool-eq a b w.0) ∙ ap (λ c. Closed.name b c x) (same_text-eq n m z.0)
      ∙ ap (λ c. Closed.name b m c) (same_closed-eq x y z.1)
  same_closed-eq Closed.lookahead Closed.lookahead h = refl
  same_closed-eq Closed.lookbehind Closed.lookbehind h = refl
  same_closed-eq Closed.faulty Closed.faulty h = refl
  same_closed-eq _ _ h = cc

  pub same_closeds-eq : (a b : Closeds) → same_closeds a b ≡ true → a ≡ b
  same_closeds-eq Closeds.none Closeds.none h = refl
  same_closeds-eq (Closeds.more x xs) (Closeds.more y ys) h =
      let w = and_parts (same_closed x y) (same_closeds xs ys) h in
      ap (λ c. Closeds.more c xs) (same_closed-eq x y w.0) ∙ ap (λ c. Closeds.more y c) (same_closeds-eq xs ys w.1)
  same_closeds-eq Closeds.none (Closeds.more y ys) h = cc
  same_closeds-eq (Closeds.more x xs) Closeds.none h = cc

-- each closed symbol passes the test with itself
mutual
  pub same_closed-refl : (a : Closed) → same_closed a a ≡ true
  same_closed-refl (Closed.terminal t) = same_term-refl t
  same_closed-refl (Closed.call n xs j) =
      and_from (bytes_eq n n) (same_closeds xs xs && same_level j j) (same_text-refl n)
      (and_from (same_closeds xs xs) (same_level j j) (same_closeds-refl xs) (same_level-refl j))
  same_closed-refl (Closed.repeat o x) = and_from (same_op o o) (same_closed x x) (op-refl o) (same_closed-refl x)
  same_closed-refl (Closed.group xs) = same_closeds-refl xs
  same_closed-refl (Closed.choose x) = same_closed-refl x
  same_closed-refl (Closed.name a n x) =
      and_from (same_bool a a) (bytes_eq n n && same_closed x x) (same_bool-refl a)
      (and_from (bytes_eq n n) (same_closed x x) (same_text-refl n) (same_closed-refl x))
  same_closed-refl Closed.lookahead = refl
  same_closed-refl Closed.lookbehind = refl
  same_closed-refl Closed.faulty = refl

  pub same_closeds-refl : (a : Closeds) → same_closeds a a ≡ true
  same_closeds-refl Closeds.none = refl
  same_closeds-refl (Closeds.more x xs) = and_from (same_closed x x) (same_closeds xs xs) (same_closed-refl x) (same_closeds-refl xs)

-- whether two nonterminals are the same
abbrev pub same_nonterminal : Nonterminal → Nonterminal → Bool
same_nonterminal (Nonterminal.start n) (Nonterminal.start m) = bytes_eq n m
same_nonterminal (Nonterminal.closed x) (Nonterminal.closed y) = same_closed x y
same_nonterminal _ _ = false

-- nonterminals that pass the test are equal
pub same_nonterminal-eq : (a b : Nonterminal) → same_nonterminal a b ≡ true → a ≡ b
same_nonterminal-eq (Nonterminal.start n) (Nonterminal.start m) h = ap Nonterminal.start (same_text-eq n m h)
same_nonterminal-eq (Nonterminal.closed x) (Nonterminal.closed y) h = ap Nonterminal.closed (same_closed-eq x y h)
same_nonterminal-eq (Nonterminal.start n) (Nonterminal.closed y) h = cc
same_nonterminal-eq (Nonterminal.closed x) (Nonterminal.start m) h = cc

-- each nonterminal passes the test with itself
pub same_nonterminal-refl : (a : Nonterminal) → same_nonterminal a a ≡ true
same_nonterminal-refl (Nonterminal.start n) = same_text-refl n
same_nonterminal-refl (Nonterminal.closed x) = same_closed-refl x

-- lists that are tested

or-parts : (x y : Bool) → (x || y) ≡ true → (x ≡ true) ⊎ (y ≡ true)
or-parts true y h = inl refl
or-parts false y h = inr h

or-left : (x y : Bool) → x ≡ true → (x || y) ≡ true
or-left true y h = refl
or-left false y h = cc

or-right : (x y : Bool) → y ≡ true → (x || y) ≡ true
or-right true y h = refl
or-right false y h = h

-- what holds of all holds of each
pub all-each : {A : Type 0} (f : A → Bool) (xs : List A) → list_all f xs ≡ true → (x : A) → Among xs x → f x ≡ true
all-each f [] h x i = absurd i
all-each f (y ∷ ys) h x (inl e) = ap f (sym e) ∙ (and_parts (f y) (list_all f ys) h).0
all-each f (y ∷ ys) h x (inr i) = all-each f ys (and_parts (f y) (list_all f ys) h).1 x i

-- one for which the test holds is there
pub any-one : {A : Type 0} (f : A → Bool) (xs : List A) → list_any f xs ≡ true → (x : A) × Among xs x × (f x ≡ true)
any-one f [] h = cc
any-one {A} f (y ∷ ys) h = go (or-parts (f y) (list_any f ys) h) (λ e. any-one f ys e)
  where
    go : (f y ≡ true) ⊎ (list_any f ys ≡ true) → (list_any f ys ≡ true → (x : A) × Among ys x × (f x ≡ true)) →
        (x : A) × Among (y ∷ ys) x × (f x ≡ true)
    go (inl e) later = (y, inl refl, e)
    go (inr e) later = let w = later e in (w.0, inr w.1, w.2)

-- and where one is there the test of the list holds
pub one-any : {A : Type 0} (f : A → Bool) (xs : List A) (x : A) → Among xs x → f x ≡ true → list_any f xs ≡ true
one-any f [] x i h = absurd i
one-any f (y ∷ ys) x (inl e) h = or-left (f y) (list_any f ys) (ap f e ∙ h)
one-any f (y ∷ ys) x (inr i) h = or-right (f y) (list_any f ys) (one-any f ys x i h)

-- whether the list has the closed symbol, and the nonterminal
abbrev pub has_closed : List Closed → Closed → Bool
has_closed xs x = list_any (same_closed x) xs

-- whether the list of nonterminals has the one that is asked for
abbrev pub has_nonterminal : List Nonterminal → Nonterminal → Bool
has_nonterminal xs x = list_any (same_nonterminal x) xs

-- a closed symbol that the test finds is there
pub has_closed-among : (xs : List Closed) (x : Closed) → has_closed xs x ≡ true → Among xs x
has_closed-among xs x h =
    let w = any-one (same_closed x) xs h in subst (Among xs) (sym (same_closed-eq x w.0 w.2)) w.1

-- and one that is there is found
pub among-has_closed : (xs : List Closed) (x : Closed) → Among xs x → has_closed xs x ≡ true
among-has_closed xs x i = one-any (same_closed x) xs x i (same_closed-refl x)

-- so one that isn't found isn't there
pub not-has_closed : (xs : List Closed) (x : Closed) → has_closed xs x ≡ false → Among xs x → ⊥
not-has_closed xs x h i = true≢false (sym (among-has_closed xs x i) ∙ h)

-- a nonterminal that the test finds is there
pub has_nonterminal-among : (xs : List Nonterminal) (x : Nonterminal) → has_nonterminal xs x ≡ true → Among xs x
has_nonterminal-among xs x h =
    let w = any-one (same_nonterminal x) xs h in subst (Among xs) (sym (same_nonterminal-eq x w.0 w.2)) w.1

-- one that isn't found isn't there
pub not-has_nonterminal : (xs : List Nonterminal) (x : Nonterminal) → has_nonterminal xs x ≡ false → Among xs x → ⊥
not-has_nonterminal xs x h i = true≢false (sym (one-any (same_nonterminal x) xs x i (same_nonterminal-refl x)) ∙ h)
