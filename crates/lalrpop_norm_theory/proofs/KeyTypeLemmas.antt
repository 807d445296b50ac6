-- A declared type with its parameters put in means what it meant; for the law of the types of keys.
use Rattle.std.proofs.Common.{◌≡◌, List, sym, subst}
use Rattle.std.specs.Prelude.{Option, Some, None}
use Rattle.lalrpop_grammar_symbols.specs.Symbols.{Text, WrittenSymbol, Closed}
use Rattle.lalrpop_grammar.specs.WrittenGrammar.{Ty, Tys}
use Rattle.lalrpop_grammar_language.specs.Closing.{Scope, parameter_value, close, sound_or_faulty}
use Rattle.lalrpop_norm_theory.specs.Types.{GroundType, GroundTypes, IsTypeOfName, IsTypeOf, AreTypesOf}
use Rattle.lalrpop_norm_theory.specs.KeyTypes.{StandsInType, IsSymbolType, IsNamedType, IsPutType, ArePutTypes}
use Rattle.lalrpop_norm_theory.proofs.TypeListLemmas.{Typing}

-- what symbols are put for others, and that no name is bound any more
pub record PutsForth (bares : List Text) (f : Closed → Text) (keys : List Closed) (P Q : Typing) (t : Scope) : Type 0 where
  pub symbols : (x : Closed) (v : WrittenSymbol) → StandsInType bares f keys x v → (u : GroundType) → P x u →
      Q (sound_or_faulty (close t 0 v)) u
  pub unbound : (n : Text) → parameter_value t.binding n ≡ None

-- and back: what the put symbol has as a type, that which it stands for has too, and no name is bound any more
pub record PutsBack (bares : List Text) (f : Closed → Text) (keys : List Closed) (P Q : Typing) (t : Scope) : Type 0 where
  pub symbols : (x : Closed) (v : WrittenSymbol) → StandsInType bares f keys x v → (u : GroundType) →
      Q (sound_or_faulty (close t 0 v)) u → P x u
  pub unbound : (n : Text) → parameter_value t.binding n ≡ None

-- there

symbol_forth : (bares : List Text) (f : Closed → Text) (keys : List Closed) (P Q : Typing) (t : Scope) →
    PutsForth bares f keys P Q t → (x : Closed) (z : Ty) → IsSymbolType bares f keys x z → (u : GroundType) → P x u →
    IsTypeOf Q t z u
symbol_forth bares f keys P Q t w x z p u i = subst (λ a. IsTypeOf Q t a u) (sym p.1) (w.symbols x p.0 p.2 u i)

name_forth : (bares : List Text) (f : Closed → Text) (keys : List Closed) (P Q : Typing) (t : Scope) →
    PutsForth bares f keys P Q t → (n : Text) (o : Option Closed) (z : Ty) → IsNamedType bares f keys n o z → (u : GroundType) →
    IsTypeOfName P n o u → IsTypeOf Q t z u
name_forth bares f keys P Q t w n None z p u i =
    subst (λ a. IsTypeOf Q t a u) (sym p) (subst (λ o. IsTypeOfName Q n o u) (sym (w.unbound n)) i)
name_forth bares f keys P Q t w n (Some x) z p u i = symbol_forth bares f keys P Q t w x z p u i

mutual
  -- the put type means what the other does
  pub put_forth : (bares : List Text) (f : Closed → Text) (keys : List Closed) (P Q : Typing) (s t : Scope) →
      PutsForth bares f keys P Q t → (y z : Ty) → IsPutType bares f keys s y z → (u : GroundType) → IsTypeOf P s y u →
      IsTypeOf Q t z u
  put_forth bares f keys P Q s t w (Ty.tuple ys) z p u i =
      subst (λ a. IsTypeOf Q t a u) (sym p.1) (i.0, i.1, all_put_forth bares f keys P Q s t w ys p.0 p.2 i.0 i.2)
  put_forth bares f keys P Q s t w (Ty.nominal path ys) z p u i =
      subst (λ a. IsTypeOf Q t a u) (sym p.1) (i.0, i.1, all_put_forth bares f keys P Q s t w ys p.0 p.2 i.0 i.2)
  put_forth bares f keys P Q s t w (Ty.id n) z p u i = name_forth bares f keys P Q t w n (parameter_value s.binding n) z p u i
  put_forth bares f keys P Q s t w (Ty.of_symbol x) z p u i =
      symbol_forth bares f keys P Q t w (sound_or_faulty (close s 0 x)) z p u i
  put_forth bares f keys P Q s t w (Ty.ref lifetime mutable y) z p u i =
      subst (λ a. IsTypeOf Q t a u) (sym p.1) (i.0, i.1, put_forth bares f keys P Q s t w y p.0 p.2 i.0 i.2)
  put_forth bares f keys P Q s t w (Ty.opaque text) z p u i = subst (λ a. IsTypeOf Q t a u) (sym p) i

  all_put_forth : (bares : List Text) (f : Closed → Text) (keys : List Closed) (P Q : Typing) (s t : Scope) →
      PutsForth bares f keys P Q t → (ys zs : Tys) → ArePutTypes bares f keys s ys zs → (us : GroundTypes) →
      AreTypesOf P s ys us →
      AreTypesOf Q t zs us
  all_put_forth bares f keys P Q s t w Tys.none zs p us i = subst (λ a. AreTypesOf Q t a us) (sym p) (none_forth us i)
    where
      none_forth : (vs : GroundTypes) → AreTypesOf P s Tys.none vs → AreTypesOf Q t Tys.none vs
      none_forth GroundTypes.none j = tt
      none_forth (GroundTypes.more v vs) j = absurd j
  all_put_forth bares f keys P Q s t w (Tys.more y ys) zs p GroundTypes.none i = absurd i
  all_put_forth bares f keys P Q s t w (Tys.more y ys) zs p (GroundTypes.more u us) i =
      subst (λ a. AreTypesOf Q t a (GroundTypes.more u us)) (sym p.2)
      (put_forth bares f keys P Q s t w y p.0 p.3 u i.0, all_put_forth bares f keys P Q s t w ys p.1 p.4 us i.1)

-- and back

symbol_back : (bares : List Text) (f : Closed → Text) (keys : List Closed) (P Q : Typing) (t : Scope) →
    PutsBack bares f keys P Q t → (x : Closed) (z : Ty) → IsSymbolType bares f keys x z → (u : GroundType) → IsTypeOf Q t z u →
    P x u
symbol_back bares f keys P Q t w x z p u i = w.symbols x p.0 p.2 u (subst (λ a. IsTypeOf Q t a u) p.1 i)

name_back : (bares : List Text) (f : Closed → Text) (keys : List Closed) (P Q : Typing) (t : Scope) →
    PutsBack bares f keys P Q t → (n : Text) (o : Option Closed) (z : Ty) → IsNamedType bares f keys n o z → (u : GroundType) →
    IsTypeOf Q t z u → IsTypeOfName P n o u
name_back bares f keys P Q t w n None z p u i =
    subst (λ o. IsTypeOfName Q n o u) (w.unbound n) (subst (λ a. IsTypeOf Q t a u) p i)
name_back bares f keys P Q t w n (Some x) z p u i = symbol_back bares f keys P Q t w x z p u i

mutual
  pub put_back : (bares : List Text) (f : Closed → Text) (keys : List Closed) (P Q : Typing) (s t : Scope) →
      PutsBack bares f keys P Q t → (y z : Ty) → IsPutType bares f keys s y z → (u : GroundType) → IsTypeOf Q t z u →
      IsTypeOf P s y u
  put_back bares f keys P Q s t w (Ty.tuple ys) z p u i =
      let j = subst (λ a. IsTypeOf Q t a u) p.1 i in (j.0, j.1, all_put_back bares f keys P Q s t w ys p.0 p.2 j.0 j.2)
  put_back bares f keys P Q s t w (Ty.nominal path ys) z p u i =
      let j = subst (λ a. IsTypeOf Q t a u) p.1 i in (j.0, j.1, all_put_back bares f keys P Q s t w ys p.0 p.2 j.0 j.2)
  put_back bares f keys P Q s t w (Ty.id n) z p u i = name_back bares f keys P Q t w n (parameter_value s.binding n) z p u i
  put_back bares f keys P Q s t w (Ty.of_symbol x) z p u i =
      symbol_back bares f keys P Q t w (sound_or_faulty (close s 0 x)) z p u i
  put_back bares f keys P Q s t w (Ty.ref lifetime mutable y) z p u i =
      let j = subst (λ a. IsTypeOf Q t a u) p.1 i in (j.0, j.1, put_back bares f keys P Q s t w y p.0 p.2 j.0 j.2)
  put_back bares f keys P Q s t w (Ty.opaque text) z p u i = subst (λ a. IsTypeOf Q t a u) p i

  all_put_back : (bares : List Text) (f : Closed → Text) (keys : List Closed) (P Q : Typing) (s t : Scope) →
      PutsBack bares f keys P Q t → (ys zs : Tys) → ArePutTypes bares f keys s ys zs → (us : GroundTypes) → AreTypesOf Q t zs us →
      AreTypesOf P s ys us
  all_put_back bares f keys P Q s t w Tys.none zs p us i = none_back us (subst (λ a. AreTypesOf Q t a us) p i)
    where
      none_back : (vs : GroundTypes) → AreTypesOf Q t Tys.none vs → AreTypesOf P s Tys.none vs
      none_back GroundTypes.none j = tt
      none_back (GroundTypes.more v vs) j = absurd j
  all_put_back bares f keys P Q s t w (Tys.more y ys) zs p GroundTypes.none i =
      absurd (subst (λ a. AreTypesOf Q t a GroundTypes.none) p.2 i)
  all_put_back bares f keys P Q s t w (Tys.more y ys) zs p (GroundTypes.more u us) i =
      let j = subst (λ a. AreTypesOf Q t a (GroundTypes.more u us)) p.2 i in
      (put_back bares f keys P Q s t w y p.0 p.3 u j.0, all_put_back bares f keys P Q s t w ys p.1 p.4 us j.1)
