-- Entries of which none lists what an earlier one lists, and one entry more behind them; for the search of such an entry.
use Rattle.std.proofs.Common.{◌≡◌, ◌∙◌, ◌⊎◌, ◌+◌, ℕ, ap, sym, refl, subst, inl, inr}
use Rattle.std.proofs.Common.{List, [], ◌∷◌, ◌++◌, map, take, drop}
use Rattle.std.proofs.Common.{append-nil}
use Rattle.std.proofs.lemmas.List.{map-append, take-append-drop}
use Rattle.std.specs.Prelude.{Some}
use Rattle.lalrpop_grammar_symbols.specs.Symbols.{TextSpan}
use Rattle.lalrpop_grammar.specs.WrittenGrammar.{WrittenEntry}
use Rattle.lalrpop_grammar_language.specs.Among.{Among}
use Rattle.lalrpop_norm_prevalidate.specs.Entries.{literal_in_entry, entry_span, IsListedAgain, AreListedOnce, IsFirstAgain}

-- where one list is cut in two and also at one of its elements, that element stands in the first part or in the second
abbrev InFirst : {A : Type 0} → List A → List A → List A → A → List A → Type 0
InFirst {A} xs ys zs w ws = (rest : List A) × (xs ≡ zs ++ w ∷ rest) × (ws ≡ rest ++ ys)

abbrev InSecond : {A : Type 0} → List A → List A → List A → A → List A → Type 0
InSecond {A} xs ys zs w ws = (more : List A) × (zs ≡ xs ++ more) × (ys ≡ more ++ w ∷ ws)

head_is : {A : Type 0} (x y : A) (xs ys : List A) → x ∷ xs ≡ y ∷ ys → x ≡ y
head_is x y xs ys e = cc

tail_is : {A : Type 0} (x y : A) (xs ys : List A) → x ∷ xs ≡ y ∷ ys → xs ≡ ys
tail_is x y xs ys e = cc

one_further : {A : Type 0} (x z : A) (xs ys zs : List A) (w : A) (ws : List A) → x ≡ z
    → InFirst xs ys zs w ws ⊎ InSecond xs ys zs w ws
    → InFirst (x ∷ xs) ys (z ∷ zs) w ws ⊎ InSecond (x ∷ xs) ys (z ∷ zs) w ws
one_further x z xs ys zs w ws e (inl h) = inl (h.0, ap (λ l. x ∷ l) h.1 ∙ ap (λ y. y ∷ (zs ++ w ∷ h.0)) e, h.2)
one_further x z xs ys zs w ws e (inr h) = inr (h.0, ap (λ l. z ∷ l) h.1 ∙ ap (λ y. y ∷ (xs ++ h.0)) (sym e), h.2)

in_either : {A : Type 0} (xs ys zs : List A) (w : A) (ws : List A) → xs ++ ys ≡ zs ++ w ∷ ws
    → InFirst xs ys zs w ws ⊎ InSecond xs ys zs w ws
in_either [] ys zs w ws e = inr (zs, refl, e)
in_either (x ∷ xs) ys [] w ws e =
    inl (xs, ap (λ y. y ∷ xs) (head_is x w (xs ++ ys) ws e), sym (tail_is x w (xs ++ ys) ws e))
in_either (x ∷ xs) ys (z ∷ zs) w ws e =
    one_further x z xs ys zs w ws (head_is x z (xs ++ ys) (zs ++ w ∷ ws) e)
    (in_either xs ys zs w ws (tail_is x z (xs ++ ys) (zs ++ w ∷ ws) e))

nothing_is_whole : {A : Type 0} (zs : List A) (w : A) (ws : List A) → [] ≡ zs ++ w ∷ ws → ⊥
nothing_is_whole [] w ws e = cc
nothing_is_whole (z ∷ zs) w ws e = cc

-- no entries are listed once each
pub no_entries : AreListedOnce []
no_entries p again = nothing_is_whole again.before again.later again.after again.whole

last_case : (es : List WrittenEntry) (e : WrittenEntry) (p : TextSpan) (again : IsListedAgain (es ++ e ∷ []) p)
    (more : List WrittenEntry)
    → (Among (map literal_in_entry es) (literal_in_entry e) → ⊥)
    → again.before ≡ es ++ more → e ∷ [] ≡ more ++ again.later ∷ again.after → ⊥
last_case es e p again [] new front back =
    new (subst (λ l. Among (map literal_in_entry l) (literal_in_entry e)) (front ∙ append-nil es)
    (subst (λ x. Among (map literal_in_entry again.before) (literal_in_entry x)) (sym (head_is e again.later [] again.after back))
    again.listed))
last_case es e p again (m ∷ more) new front back =
    nothing_is_whole more again.later again.after (tail_is e m [] (more ++ again.later ∷ again.after) back)

either_case : (es : List WrittenEntry) (e : WrittenEntry) (p : TextSpan) (again : IsListedAgain (es ++ e ∷ []) p)
    → AreListedOnce es → (Among (map literal_in_entry es) (literal_in_entry e) → ⊥)
    → InFirst es (e ∷ []) again.before again.later again.after ⊎ InSecond es (e ∷ []) again.before again.later again.after → ⊥
either_case es e p again once new (inl h) =
    once p (record {
      before = again.before;
      later = again.later;
      after = h.0;
      whole = h.1;
      listed = again.listed;
      place = again.place;
    })
either_case es e p again once new (inr h) = last_case es e p again h.0 new h.1 h.2

-- one entry more, which lists what none of them does
pub one_entry_more : (es : List WrittenEntry) (e : WrittenEntry) → AreListedOnce es
    → (Among (map literal_in_entry es) (literal_in_entry e) → ⊥) → AreListedOnce (es ++ e ∷ [])
one_entry_more es e once new p again =
    either_case es e p again once new (in_either es (e ∷ []) again.before again.later again.after again.whole)

-- one entry more, which lists what one of them does: it is the first that does
pub again_here : (es before : List WrittenEntry) (e : WrittenEntry) (after : List WrittenEntry) (p : TextSpan)
    → es ≡ before ++ e ∷ after → AreListedOnce before → Among (map literal_in_entry before) (literal_in_entry e)
    → entry_span e ≡ p → IsFirstAgain es (Some p)
again_here es before e after p whole once listed place =
    (record { before = before; later = e; after = after; whole = whole; listed = listed; place = place }, once)

-- a list is cut at the element behind the first ones
pub cut_at : {A B : Type 0} (f : A → B) (xs : List A) (i : ℕ) (x : A) → drop i xs ≡ x ∷ drop (i + 1) xs
    → map f xs ≡ map f (take i xs) ++ f x ∷ map f (drop (i + 1) xs)
cut_at f xs i x here =
    ap (map f) (sym (take-append-drop i xs)) ∙ map-append f (take i xs) (drop i xs) ∙ ap (λ l. map f (take i xs) ++ map f l) here
