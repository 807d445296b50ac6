-- Types of lists of symbols and of written types, from one relation to another; for the law of types.
use Rattle.std.proofs.Common.{◌≡◌, List, [], ◌∷◌, refl, ap, sym, ◌∙◌, subst, cond, Bool, true, false, inl, inr}
use Rattle.std.specs.Prelude.{map, filter, ◌||◌}
use Rattle.std.specs.List.{list_any}
use Rattle.lalrpop_grammar_symbols.specs.Symbols.{Text, WrittenSymbol, Closed}
use Rattle.lalrpop_grammar_symbols.specs.Subsymbols.{subsymbols}
use Rattle.lalrpop_grammar.specs.WrittenGrammar.{Ty, Tys}
use Rattle.lalrpop_grammar_language.specs.Among.{Among}
use Rattle.lalrpop_grammar_language.specs.Closing.{Scope, parameter_value, close, sound_or_faulty}
use Rattle.lalrpop_grammar_language.proofs.PlaceLemmas.{among_filter}
use Rattle.lalrpop_norm_theory.specs.Premises.{symbols_of_type, symbols_of_types}
use Rattle.lalrpop_norm_theory.specs.Types.{GroundType, GroundTypes, is_chosen, chosen_or_all, HaveTypes, HaveTupleType}
use Rattle.lalrpop_norm_theory.specs.Types.{IsTypeOfName, IsTypeOf, AreTypesOf}
use Rattle.lalrpop_grammar_language.proofs.StepLemmas.{among_right}
use Rattle.lalrpop_grammar_language.proofs.StepLemmas.{among_left}

-- which types closed symbols have, as a step of a derivation takes it
abbrev pub Typing : Type 1
Typing = Closed → GroundType → Type 0

-- lists of symbols

-- each type of a symbol is one of the other list's symbol at its place
abbrev pub AreTypedOver : Typing → Typing → List Closed → List Closed → Type 0
AreTypedOver P Q [] [] = Unit {0}
AreTypedOver P Q [] (y ∷ ys) = ⊥
AreTypedOver P Q (x ∷ xs) [] = ⊥
AreTypedOver P Q (x ∷ xs) (y ∷ ys) = ((t : GroundType) → P x t → Q y t) × AreTypedOver P Q xs ys

have_over : (P Q : Typing) (xs ys : List Closed) (ts : GroundTypes) → AreTypedOver P Q xs ys → HaveTypes P xs ts → HaveTypes Q ys ts
have_over P Q [] [] GroundTypes.none w h = tt
have_over P Q [] [] (GroundTypes.more t ts) w h = absurd h
have_over P Q [] (y ∷ ys) ts w h = absurd w
have_over P Q (x ∷ xs) [] ts w h = absurd w
have_over P Q (x ∷ xs) (y ∷ ys) GroundTypes.none w h = absurd h
have_over P Q (x ∷ xs) (y ∷ ys) (GroundTypes.more t ts) w h = (w.0 t h.0, have_over P Q xs ys ts w.1 h.1)

-- so a type of the one list is one of the other
pub tuple_over : (P Q : Typing) (xs ys : List Closed) (t : GroundType) → AreTypedOver P Q xs ys → HaveTupleType P xs t →
    HaveTupleType Q ys t
tuple_over P Q [] [] t w h = h
tuple_over P Q [] (y ∷ ys) t w h = absurd w
tuple_over P Q (x ∷ []) [] t w h = absurd w
tuple_over P Q (x ∷ z ∷ xs) [] t w h = absurd w
tuple_over P Q (x ∷ []) (y ∷ []) t w h = w.0 t h
tuple_over P Q (x ∷ []) (y ∷ v ∷ ys) t w h = absurd w.1
tuple_over P Q (x ∷ z ∷ xs) (y ∷ []) t w h = absurd w.1
tuple_over P Q (x ∷ z ∷ xs) (y ∷ v ∷ ys) t w h = (h.0, h.1, have_over P Q (x ∷ z ∷ xs) (y ∷ v ∷ ys) h.0 w h.2)

-- renamed symbols

pub over_forth : (to : Closed → Closed) (P Q : Typing) → ((x : Closed) (t : GroundType) → P x t → Q (to x) t) →
    (xs : List Closed) → AreTypedOver P Q xs (map to xs)
over_forth to P Q h [] = tt
over_forth to P Q h (x ∷ xs) = (λ t i. h x t i, over_forth to P Q h xs)

pub over_back : (to : Closed → Closed) (W : Closed → Type 0) (P Q : Typing) →
    ((x : Closed) → W x → (t : GroundType) → Q (to x) t → P x t) → (xs : List Closed) → ((x : Closed) → Among xs x →
    W x) →
    AreTypedOver Q P (map to xs) xs
over_back to W P Q h [] w = tt
over_back to W P Q h (x ∷ xs) w = (λ t i. h x (w x (inl refl)) t i, over_back to W P Q h xs (λ y i. w y (inr i)))

-- chosen symbols stay chosen, and others aren't

abbrev pub KeepsChosen : (Closed → Closed) → Type 0
KeepsChosen to = (x : Closed) → is_chosen (to x) ≡ is_chosen x

any-renamed : (to : Closed → Closed) → KeepsChosen to → (xs : List Closed) →
    list_any is_chosen (map to xs) ≡ list_any is_chosen xs
any-renamed to c [] = refl
any-renamed to c (x ∷ xs) =
    ap (λ b. b || list_any is_chosen (map to xs)) (c x) ∙ ap (λ b. is_chosen x || b) (any-renamed to c xs)

filter-renamed : (to : Closed → Closed) → KeepsChosen to → (xs : List Closed) →
    filter is_chosen (map to xs) ≡ map to (filter is_chosen xs)
filter-renamed to c [] = refl
filter-renamed to c (x ∷ xs) =
    ap (λ b. cond b (to x ∷ filter is_chosen (map to xs)) (filter is_chosen (map to xs))) (c x)
    ∙ go (is_chosen x) (filter-renamed to c xs)
  where
    go : (b : Bool) → filter is_chosen (map to xs) ≡ map to (filter is_chosen xs) →
        cond b (to x ∷ filter is_chosen (map to xs)) (filter is_chosen (map to xs))
        ≡ map to (cond b (x ∷ filter is_chosen xs) (filter is_chosen xs))
    go true e = ap (λ l. to x ∷ l) e
    go false e = e

chosen_or_all-renamed : (to : Closed → Closed) → KeepsChosen to → (xs : List Closed) →
    chosen_or_all (map to xs) ≡ map to (chosen_or_all xs)
chosen_or_all-renamed to c xs =
    ap (λ b. cond b (filter is_chosen (map to xs)) (map to xs)) (any-renamed to c xs) ∙ go (list_any is_chosen xs)
  where
    go : (b : Bool) → cond b (filter is_chosen (map to xs)) (map to xs) ≡ map to (cond b (filter is_chosen xs) xs)
    go true = filter-renamed to c xs
    go false = refl

chosen_among : (xs : List Closed) (x : Closed) → Among (chosen_or_all xs) x → Among xs x
chosen_among xs x i = go (list_any is_chosen xs) i
  where
    go : (b : Bool) → Among (cond b (filter is_chosen xs) xs) x → Among xs x
    go true j = (among_filter is_chosen xs x j).0
    go false j = j

-- the type of a list, there
pub tuple_forth : (to : Closed → Closed) → KeepsChosen to → (P Q : Typing) → ((x : Closed) (t : GroundType) → P x t →
    Q (to x) t) →
    (xs ys : List Closed) → ys ≡ map to xs → (t : GroundType) → HaveTupleType P (chosen_or_all xs) t →
    HaveTupleType Q (chosen_or_all ys) t
tuple_forth to c P Q h xs ys e t i =
    subst (λ l. HaveTupleType Q l t) (sym (ap chosen_or_all e ∙ chosen_or_all-renamed to c xs))
    (tuple_over P Q (chosen_or_all xs) (map to (chosen_or_all xs)) t (over_forth to P Q h (chosen_or_all xs)) i)

-- and back
pub tuple_back : (to : Closed → Closed) → KeepsChosen to → (W : Closed → Type 0) (P Q : Typing) →
    ((x : Closed) → W x → (t : GroundType) → Q (to x) t → P x t) →
    (xs ys : List Closed) → ys ≡ map to xs → ((x : Closed) → Among xs x → W x) → (t : GroundType) →
    HaveTupleType Q (chosen_or_all ys) t → HaveTupleType P (chosen_or_all xs) t
tuple_back to c W P Q h xs ys e w t i =
    tuple_over Q P (map to (chosen_or_all xs)) (chosen_or_all xs) t
    (over_back to W P Q h (chosen_or_all xs) (λ x j. w x (chosen_among xs x j)))
    (subst (λ l. HaveTupleType Q l t) (ap chosen_or_all e ∙ chosen_or_all-renamed to c xs) i)

-- written types

-- what names and symbols stand for in the one scope, they stand for in the other
pub record ScopesTypeOver (P Q : Typing) (s t : Scope) (R : WrittenSymbol → Type 0) : Type 0 where
  pub names : (n : Text) (u : GroundType) → IsTypeOfName P n (parameter_value s.binding n) u →
      IsTypeOfName Q n (parameter_value t.binding n) u
  pub symbols : (x : WrittenSymbol) → ((y : WrittenSymbol) → Among (subsymbols x) y → R y) → (u : GroundType) →
      P (sound_or_faulty (close s 0 x)) u → Q (sound_or_faulty (close t 0 x)) u

mutual
  -- so does a written type
  pub type_over : (P Q : Typing) (s t : Scope) (R : WrittenSymbol → Type 0) → ScopesTypeOver P Q s t R → (y : Ty) →
      ((x : WrittenSymbol) → Among (symbols_of_type y) x → R x) → (u : GroundType) → IsTypeOf P s y u → IsTypeOf Q t y u
  type_over P Q s t R w (Ty.tuple ys) r u h = (h.0, h.1, types_over P Q s t R w ys r h.0 h.2)
  type_over P Q s t R w (Ty.nominal path ys) r u h = (h.0, h.1, types_over P Q s t R w ys r h.0 h.2)
  type_over P Q s t R w (Ty.id n) r u h = w.names n u h
  type_over P Q s t R w (Ty.of_symbol x) r u h = w.symbols x r u h
  type_over P Q s t R w (Ty.ref lifetime mutable y) r u h = (h.0, h.1, type_over P Q s t R w y r h.0 h.2)
  type_over P Q s t R w (Ty.opaque text) r u h = h

  pub types_over : (P Q : Typing) (s t : Scope) (R : WrittenSymbol → Type 0) → ScopesTypeOver P Q s t R → (ys : Tys) →
      ((x : WrittenSymbol) → Among (symbols_of_types ys) x → R x) → (us : GroundTypes) → AreTypesOf P s ys us →
      AreTypesOf Q t ys us
  types_over P Q s t R w Tys.none r GroundTypes.none h = tt
  types_over P Q s t R w Tys.none r (GroundTypes.more u us) h = absurd h
  types_over P Q s t R w (Tys.more y ys) r GroundTypes.none h = absurd h
  types_over P Q s t R w (Tys.more y ys) r (GroundTypes.more u us) h = (
    type_over P Q s t R w y (λ x i. r x (among_left (symbols_of_type y) (symbols_of_types ys) x i)) u h.0,
    types_over P Q s t R w ys (λ x i. r x (among_right (symbols_of_type y) (symbols_of_types ys) x i)) us h.1,
  )
