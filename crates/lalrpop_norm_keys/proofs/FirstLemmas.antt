-- Keys that are met first, and where their rules stand; for the search of places.
use Rattle.std.proofs.Common.{◌≡◌, ◌++◌, ◌+◌, ℕ, zero, suc, List, [], ◌∷◌, refl, ap, sym, subst, ◌∙◌, inl, inr, ⊎_elim, arith}
use Rattle.std.proofs.Common.{◌⊎◌, Some, append_assoc, length, slice_get}
use Rattle.std.proofs.lemmas.List.{length_push}
use Rattle.lalrpop_grammar_symbols.specs.Symbols.{Closed, TextSpan}
use Rattle.lalrpop_grammar_language.specs.Among.{Among}
use Rattle.lalrpop_grammar_language.proofs.StepLemmas.{among_right}
use Rattle.lalrpop_grammar_language.proofs.StepLemmas.{among_left}
use Rattle.lalrpop_grammar_language.proofs.OrderLemmas.{among_parts}
use Rattle.lalrpop_norm_keys.specs.FirstPlaces.{AreKeySpans, IsKeySpan, IsMetFirst, TellFirst}
use Rattle.lalrpop_norm_keys.specs.MetKeys.{MetKey}

-- what is met first stays so with more behind it
met_more : (ms more : List MetKey) (x : Closed) (p : TextSpan) → IsMetFirst ms x p → IsMetFirst (ms ++ more) x p
met_more ms more x p m = record {
  before = m.before;
  after = m.after ++ more;
  parts = ap (λ l. l ++ more) m.parts ∙ append_assoc m.before ((x, p) ∷ m.after) more;
  first = m.first;
}

front_get : {A : Type 0} (xs ys : List A) (i : ℕ) (x : A) → slice_get xs i ≡ Some x → slice_get (xs ++ ys) i ≡ Some x
front_get [] ys i x e = let w : ⊥ = cc in absurd w
front_get (z ∷ xs) ys zero x e = e
front_get (z ∷ xs) ys (suc i) x e = front_get xs ys i x e

last_get : {A : Type 0} (xs : List A) (i : ℕ) (x : A) → i ≡ length xs → slice_get (xs ++ x ∷ []) i ≡ Some x
last_get [] zero x e = refl
last_get [] (suc i) x e = absurd (omega (arith, e))
last_get (z ∷ xs) zero x e = absurd (omega (arith, e))
last_get (z ∷ xs) (suc i) x e = last_get xs i x (omega (arith, e))

front_or_last : {A : Type 0} (xs : List A) (i : ℕ) (x y : A) → slice_get (xs ++ x ∷ []) i ≡ Some y →
    (slice_get xs i ≡ Some y) ⊎ ((i ≡ length xs) × (x ≡ y))
front_or_last [] zero x y e = let same : x ≡ y = cc in inr (refl, same)
front_or_last [] (suc i) x y e = let w : ⊥ = cc in absurd w
front_or_last (z ∷ xs) zero x y e = inl e
front_or_last (z ∷ xs) (suc i) x y e =
    ⊎_elim (λ f. inl f) (λ (l, same). inr (omega (arith, l), same)) (front_or_last xs i x y e)

-- what stands at a place is in the list
pub among_at : {A : Type 0} (xs : List A) (i : ℕ) (x : A) → slice_get xs i ≡ Some x → Among xs x
among_at [] i x e = let w : ⊥ = cc in absurd w
among_at (z ∷ xs) zero x e = let same : z ≡ x = cc in inl same
among_at (z ∷ xs) (suc i) x e = inr (among_at xs i x e)

-- nothing is met yet
pub tell_none : TellFirst [] [] []
tell_none = record { long = refl; all = λ x p h. h; first = λ i x e. let w : ⊥ = cc in absurd w }

module _ (ms : List MetKey) (keys : List Closed) (spans : List TextSpan) (told : TellFirst ms keys spans) (x : Closed)
    (p : TextSpan) where
  one_met : (y : Closed) (q : TextSpan) → Among (ms ++ (x, p) ∷ []) (y, q) → Among keys y ⊎ (x ≡ y)
  one_met y q h = go (among_parts {A = MetKey} ms ((x, p) ∷ []) (y, q) h)
    where
      go : Among {A = MetKey} ms (y, q) ⊎ Among {A = MetKey} ((x, p) ∷ []) (y, q) → Among keys y ⊎ (x ≡ y)
      go (inl j) = inl (told.all y q j)
      go (inr (inl e)) = inr (ap (λ (m : MetKey). m.0) e)
      go (inr (inr j)) = absurd j

  -- a key that was met
  pub tell_kept : Among keys x → TellFirst (ms ++ (x, p) ∷ []) keys spans
  tell_kept there = record {
    long = told.long;
    all = λ y q h. ⊎_elim (λ j. j) (λ e. subst (Among keys) e there) (one_met y q h);
    first = λ i y e. let f = told.first i y e in (f.0, f.1, met_more ms ((x, p) ∷ []) y f.0 f.2);
  }

  -- one that wasn't
  pub tell_new : (Among keys x → ⊥) → TellFirst (ms ++ (x, p) ∷ []) (keys ++ x ∷ []) (spans ++ p ∷ [])
  tell_new none = record {
    long = length_push spans p ∙ ap (λ n. n + 1) told.long ∙ sym (length_push keys x);
    all = λ y q h. ⊎_elim
        (λ j. among_left keys (x ∷ []) y j)
        (λ e. among_right keys (x ∷ []) y (inl e)) (one_met y q h);
    first = λ i y e. ⊎_elim
        (λ f.
        let r = told.first i y f in
        (r.0, front_get spans (p ∷ []) i r.0 r.1, met_more ms ((x, p) ∷ []) y r.0 r.2))
        (λ (last, same). (
          p,
          last_get spans i p (last ∙ sym told.long),
          subst (λ z. IsMetFirst (ms ++ (x, p) ∷ []) z p) same
              (record { before = ms; after = []; parts = refl; first = λ q j. none (told.all x q j) }),
        ))
        (front_or_last keys i x y e);
  }

-- the span of one more key
pub spans_more : (ms : List MetKey) (other : TextSpan) (xs : List Closed) (x : Closed) (ps : List TextSpan) (p : TextSpan)
    → AreKeySpans ms other xs ps → IsKeySpan ms other x p → AreKeySpans ms other (xs ++ x ∷ []) (ps ++ p ∷ [])
spans_more ms other [] x ps p e k = (p, [], ap (λ l. l ++ p ∷ []) e, k, refl)
spans_more ms other (y ∷ xs) x ps p (q, rest, e, h, w) k =
    (q, rest ++ p ∷ [], ap (λ l. l ++ p ∷ []) e, h, spans_more ms other xs x rest p w k)
