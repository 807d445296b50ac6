-- A test of names for the nonterminals of an expansion, with what it means; for the examples.
use Rattle.std.specs.Str.{bytes_eq}
use Rattle.std.proofs.Common.{◌≡◌, ◌≢◌, ℕ, zero, suc, List, [], ◌∷◌, ◌++◌, refl, ap, sym, ◌∙◌, subst}
use Rattle.std.proofs.Common.{Bool, true, false, inl, inr, ◌⊎◌}
use Rattle.std.specs.Prelude.{◌==◌, ◌&&◌, ◌||◌, not, if◌then◌else◌}
use Rattle.std.specs.List.{list_any, list_all}
use Rattle.std.proofs.lemmas.Bool.{eqb-true, and_parts, true≢false}
use Rattle.lalrpop_grammar_symbols.specs.Symbols.{Text, Closed, Closeds}
use Rattle.lalrpop_grammar_language.specs.Among.{Among}
use Rattle.lalrpop_grammar_language.specs.Enabled.{EnabledGrammar, EnabledRule, IsRule}
use Rattle.lalrpop_grammar_language.specs.Levels.{loosest}
use Rattle.lalrpop_grammar_language.specs.Starts.{has_none}
use Rattle.lalrpop_grammar_language.specs.Expansion.{Nonterminal, InExpansion}
use Rattle.lalrpop_grammar_language.proofs.PlaceLemmas.{same_text-eq}
use Rattle.lalrpop_grammar_language.proofs.ComparisonLemmas.{same_text-refl}
use Rattle.lalrpop_norm_theory.specs.Keys.{with_number, IsNextNumber, IsNaming}
use Rattle.lalrpop_norm_theory.proofs.ClosedComparisonLemmas.{same_closed, all-each, any-one}
use Rattle.lalrpop_norm_theory.proofs.ExpansionListLemmas.{is_all, all-of, rule_there}
use Rattle.lalrpop_norm_theory.proofs.RowListLemmas.{are_reached, reached-each}

-- the numbers of some keys; the others' are zero
abbrev pub number_in : List (Closed × ℕ) → Closed → ℕ
number_in [] x = 0
number_in (p ∷ ps) x = if same_closed p.0 x then p.1 else number_in ps x

-- names by texts and numbers
abbrev pub name_by : (Closed → Text) → Text → List (Closed × ℕ) → Nonterminal → Text
name_by text_of prefix numbers (Nonterminal.start n) = prefix ++ n
name_by text_of prefix numbers (Nonterminal.closed x) = with_number (text_of x) (number_in numbers x)

-- whether no two of the list have one name
abbrev pub are_named_apart : (Nonterminal → Text) → List Nonterminal → Bool
are_named_apart name_of [] = true
are_named_apart name_of (x ∷ xs) = list_all (λ y. not (bytes_eq (name_of x) (name_of y))) xs && are_named_apart name_of xs

abbrev keeps_name : (Nonterminal → Text) → EnabledRule → Bool
keeps_name name_of r =
    not (has_none r.parameters) || bytes_eq (name_of (Nonterminal.closed (Closed.call r.name Closeds.none (loosest r)))) r.name

abbrev macro_free : (Nonterminal → Text) → List Nonterminal → EnabledRule → Bool
macro_free name_of xs r = has_none r.parameters || list_all (λ x. not (bytes_eq (name_of x) r.name)) xs

abbrev has_before : (Closed → Text) → List (Closed × ℕ) → Text → ℕ → Nonterminal → Bool
has_before text_of numbers text k (Nonterminal.start n) = false
has_before text_of numbers text k (Nonterminal.closed y) = bytes_eq (text_of y) text && (number_in numbers y == k)

abbrev is_macro_named : Text → EnabledRule → Bool
is_macro_named text r = not (has_none r.parameters) && bytes_eq r.name text

abbrev follows_on : EnabledGrammar → (Closed → Text) → List (Closed × ℕ) → List Nonterminal → Text → ℕ → Bool
follows_on g text_of numbers xs text zero = true
follows_on g text_of numbers xs text (suc k) =
    list_any (has_before text_of numbers text k) xs || ((k == 0) && list_any (is_macro_named text) g.rules)

abbrev is_packed : EnabledGrammar → (Closed → Text) → List (Closed × ℕ) → List Nonterminal → Nonterminal → Bool
is_packed g text_of numbers xs (Nonterminal.start n) = true
is_packed g text_of numbers xs (Nonterminal.closed x) = follows_on g text_of numbers xs (text_of x) (number_in numbers x)

-- whether the numbers give a naming of the list's nonterminals
abbrev pub is_naming : EnabledGrammar → (Closed → Text) → Text → List (Closed × ℕ) → List Nonterminal → Bool
is_naming g text_of prefix numbers xs =
    are_named_apart (name_by text_of prefix numbers) xs && (list_all (keeps_name (name_by text_of prefix numbers)) g.rules
    && (list_all (macro_free (name_by text_of prefix numbers) xs) g.rules && list_all (is_packed g text_of numbers xs) xs))

not-same : (s t : Text) → not (bytes_eq s t) ≡ true → s ≢ t
not-same s t h e = true≢false (sym h ∙ ap not (ap (bytes_eq s) (sym e) ∙ same_text-refl s))

apart-each : (name_of : Nonterminal → Text) (xs : List Nonterminal) → are_named_apart name_of xs ≡ true → (x y : Nonterminal) →
    Among xs x → Among xs y → name_of x ≡ name_of y → x ≡ y
apart-each name_of [] h x y i j e = absurd i
apart-each name_of (z ∷ zs) h x y (inl k) (inl l) e = sym k ∙ l
apart-each name_of (z ∷ zs) h x y (inr i) (inr j) e =
    apart-each name_of zs
    (and_parts (list_all (λ v. not (bytes_eq (name_of z) (name_of v))) zs) (are_named_apart name_of zs) h).1 x y i j e
apart-each name_of (z ∷ zs) h x y (inl k) (inr j) e =
    let t = all-each (λ v. not (bytes_eq (name_of z) (name_of v))) zs
    (and_parts (list_all (λ v. not (bytes_eq (name_of z) (name_of v))) zs) (are_named_apart name_of zs) h).0 y j in
    absurd (not-same (name_of z) (name_of y) t (ap name_of k ∙ e))
apart-each name_of (z ∷ zs) h x y (inr i) (inl l) e =
    let t = all-each (λ v. not (bytes_eq (name_of z) (name_of v))) zs
    (and_parts (list_all (λ v. not (bytes_eq (name_of z) (name_of v))) zs) (are_named_apart name_of zs) h).0 x i in
    absurd (not-same (name_of z) (name_of x) t (ap name_of l ∙ sym e))

or-else : (x y : Bool) → (x || y) ≡ true → x ≡ false → y ≡ true
or-else true y h e = cc
or-else false y h e = h

either-is : (x y : Bool) → (x || y) ≡ true → (x ≡ true) ⊎ (y ≡ true)
either-is true y h = inl refl
either-is false y h = inr h

not-false : (ps : List Text) → not (has_none ps) ≡ true → ps ≢ []
not-false [] h e = true≢false (sym h)
not-false (p ∷ ps) h e = cc

is-false : (ps : List Text) → ps ≢ [] → has_none ps ≡ false
is-false [] h = absurd (h refl)
is-false (p ∷ ps) h = refl

-- names that pass the test are a naming
pub naming-is : (g : EnabledGrammar) (text_of : Closed → Text) (prefix : Text) (numbers : List (Closed × ℕ)) (n : ℕ)
    (xs : List Nonterminal) → is_all g xs ≡ true → are_reached g n xs ≡ true → is_naming g text_of prefix numbers xs ≡ true →
    IsNaming text_of prefix g (name_by text_of prefix numbers)
naming-is g text_of prefix numbers n xs all reached test = record {
  number = number_in numbers;
  apart = λ x y i j e. apart-each (name_by text_of prefix numbers) xs one.0 x y (all-of g xs all x i) (all-of g xs all y j) e;
  starts = λ s i. refl;
  rules = rules;
  macros = macros;
  printed = λ x i. refl;
  packed = λ x i. packed x (all-of g xs all (Nonterminal.closed x) i);
}
  where
    one : (are_named_apart (name_by text_of prefix numbers) xs ≡ true) × ((list_all (keeps_name (name_by text_of prefix numbers)) g.rules
        && (list_all (macro_free (name_by text_of prefix numbers) xs) g.rules && list_all (is_packed g text_of numbers xs) xs)) ≡ true)
    one = and_parts (are_named_apart (name_by text_of prefix numbers) xs) (list_all (keeps_name (name_by text_of prefix numbers)) g.rules
        && (list_all (macro_free (name_by text_of prefix numbers) xs) g.rules && list_all (is_packed g text_of numbers xs) xs)) test

    two : (list_all (keeps_name (name_by text_of prefix numbers)) g.rules ≡ true)
        × ((list_all (macro_free (name_by text_of prefix numbers) xs) g.rules && list_all (is_packed g text_of numbers xs) xs) ≡ true)
    two = and_parts (list_all (keeps_name (name_by text_of prefix numbers)) g.rules)
        (list_all (macro_free (name_by text_of prefix numbers) xs) g.rules && list_all (is_packed g text_of numbers xs) xs) one.1

    three : (list_all (macro_free (name_by text_of prefix numbers) xs) g.rules ≡ true)
        × (list_all (is_packed g text_of numbers xs) xs ≡ true)
    three = and_parts (list_all (macro_free (name_by text_of prefix numbers) xs) g.rules)
        (list_all (is_packed g text_of numbers xs) xs) two.1

    rules : (r : EnabledRule) → IsRule g r.name r → r.parameters ≡ [] →
        name_by text_of prefix numbers (Nonterminal.closed (Closed.call r.name Closeds.none (loosest r))) ≡ r.name
    rules r i ps =
        let k = all-each (keeps_name (name_by text_of prefix numbers)) g.rules two.0 r (rule_there g r.name r i).0 in
        same_text-eq (name_by text_of prefix numbers (Nonterminal.closed (Closed.call r.name Closeds.none (loosest r)))) r.name
        (or-else (not (has_none r.parameters))
        (bytes_eq (name_by text_of prefix numbers (Nonterminal.closed (Closed.call r.name Closeds.none (loosest r)))) r.name) k
        (ap (λ l. not (has_none l)) ps))

    macros : (r : EnabledRule) (x : Nonterminal) → Among g.rules r → r.parameters ≢ [] → InExpansion g x →
        name_by text_of prefix numbers x ≢ r.name
    macros r x i ps j =
        let k = all-each (macro_free (name_by text_of prefix numbers) xs) g.rules three.0 r i in
        let l = or-else (has_none r.parameters) (list_all (λ y. not (bytes_eq (name_by text_of prefix numbers y) r.name)) xs) k
        (is-false r.parameters ps) in
        not-same (name_by text_of prefix numbers x) r.name
        (all-each (λ y. not (bytes_eq (name_by text_of prefix numbers y) r.name)) xs l x (all-of g xs all x j))

    after : (text : Text) (k : ℕ) (y : Nonterminal) → Among xs y → has_before text_of numbers text k y ≡ true →
        IsNextNumber g text_of (number_in numbers) text (suc k)
    after text k (Nonterminal.start s) i h = cc
    after text k (Nonterminal.closed y) i h =
        let w = and_parts (bytes_eq (text_of y) text) (number_in numbers y == k) h in
        IsNextNumber.after_key y (reached-each g n xs reached (Nonterminal.closed y) i) (same_text-eq (text_of y) text w.0)
        (eqb-true (number_in numbers y) k w.1)

    next : (text : Text) (k : ℕ) → follows_on g text_of numbers xs text k ≡ true → IsNextNumber g text_of (number_in numbers) text k
    next text zero h = IsNextNumber.first
    next text (suc k) h =
        go (either-is (list_any (has_before text_of numbers text k) xs) ((k == 0) && list_any (is_macro_named text) g.rules) h)
      where
        go : (list_any (has_before text_of numbers text k) xs ≡ true)
            ⊎ (((k == 0) && list_any (is_macro_named text) g.rules) ≡ true) →
            IsNextNumber g text_of (number_in numbers) text (suc k)
        go (inl e) = let w = any-one (has_before text_of numbers text k) xs e in after text k w.0 w.1 w.2
        go (inr e) =
            let w = and_parts (k == 0) (list_any (is_macro_named text) g.rules) e in
            let r = any-one (is_macro_named text) g.rules w.1 in
            let m = and_parts (not (has_none r.0.parameters)) (bytes_eq r.0.name text) r.2 in
            let zero_is : 0 ≡ k = sym (eqb-true k 0 w.0) in
            subst (λ j. IsNextNumber g text_of (number_in numbers) text (suc j)) zero_is
            (IsNextNumber.after_macro r.0 r.1 (not-false r.0.parameters m.0) (same_text-eq r.0.name text m.1))

    packed : (x : Closed) → Among xs (Nonterminal.closed x) →
        IsNextNumber g text_of (number_in numbers) (text_of x) (number_in numbers x)
    packed x i =
        next (text_of x) (number_in numbers x) (all-each (is_packed g text_of numbers xs) xs three.1 (Nonterminal.closed x) i)
