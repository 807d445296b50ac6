-- The steps of the loop over the items of a class, and a class by its levels. For the functions that read a class.
use Rattle.std.proofs.Common.{◌≡◌, ℕ, zero, suc, ◌+◌, ◌-◌, ◌<◌, ◌≤◌, Bool, true, false, not, ◌&&◌, ◌==◌}
use Rattle.std.proofs.Common.{List, [], ◌∷◌, length, Ok, Err, ◌∙◌, refl, subst, arith}
use Rattle.lalrpop_lexer_pattern.specs.declared.class.Range.{Range}
use Rattle.lalrpop_lexer_pattern.specs.Sets.{union_of}
use Rattle.lalrpop_lexer_regex.specs.declared.classes.fault.PatternError.{PatternError}
use Rattle.lalrpop_lexer_regex.specs.declared.classes.fault.PatternError.TheVariants as error
use Rattle.lalrpop_lexer_regex.specs.declared.classes.fault.PatternFaultKind.TheVariants.{Unsupported}
use Rattle.lalrpop_lexer_regex.specs.Outcome.{Reading, FailsReading, syntax_fault, ◌>>=◌}
use Rattle.lalrpop_lexer_regex.specs.SetEscapes.{finished_set}
use Rattle.lalrpop_lexer_regex.specs.Posix.{caret_at}
use Rattle.lalrpop_lexer_regex.specs.Classes.{class_items_from, class_at, class_with, class_item_at}

-- a class that may still be opened leaves one level fewer to the classes in it
pub class_at-more : (d : ℕ) (fold : Bool) (left : ℕ) (t : List ℕ) → 0 < d
    → class_at d fold left t ≡ class_with (class_item_at (d - 1) fold) fold t
unfolding class_at
class_at-more zero fold left t h = absurd (omega arith)
class_at-more (suc d) fold left t h = let e : suc d - 1 ≡ d = omega arith in rw e refl

-- a class that may not be opened any more is a fault at its bracket
pub class_at-none : (d : ℕ) (fold : Bool) (left : ℕ) (t : List ℕ) → d ≡ 0 → class_at d fold left t ≡ Err (Unsupported, left)
unfolding class_at
class_at-none d fold left t e = rw e refl

-- what is left to read after some class items
pub record IsUnderWay (item : Bool → List ℕ → Reading (List Range)) (whole rest : List ℕ) (is_first : Bool)
    (set : List Range) : Type 0 where
  pub shorter : length rest ≤ length whole
  pub count : ℕ
  pub enough : length rest < count
  pub same : class_items_from item (length whole + 1) true [] whole ≡ class_items_from item count is_first set rest

module _ (item : Bool → List ℕ → Reading (List Range)) (whole rest t : List ℕ) (c : ℕ) (is_first : Bool) (set : List Range)
    (e : rest ≡ c ∷ t) where
  at_end : (n : ℕ) → length rest < n → ((c == 93) && not is_first) ≡ true
      → class_items_from item n is_first set rest ≡ Ok (set, t)
  unfolding class_items_from
  at_end zero h stop = absurd (omega arith)
  at_end (suc n) h stop = rw (e, stop) refl

  -- a closing bracket that does not come first ends the class
  pub items_end : IsUnderWay item whole rest is_first set → ((c == 93) && not is_first) ≡ true
      → class_items_from item (length whole + 1) true [] whole ≡ Ok (set, t)
  items_end w stop = w.same ∙ at_end w.count w.enough stop

  one_more : (n : ℕ) (s : List Range) (after : List ℕ) → length rest < suc n → ((c == 93) && not is_first) ≡ false
      → item is_first rest ≡ Ok (s, after) →
      class_items_from item (suc n) is_first set rest ≡ class_items_from item n false (union_of set s) after
  unfolding class_items_from
  one_more n s after h go read = let one : item is_first (c ∷ t) ≡ Ok (s, after) = rw e at read in rw (e, go, one) refl

  more_count : (n : ℕ) (s : List Range) (after : List ℕ) → length rest < n → ((c == 93) && not is_first) ≡ false
      → item is_first rest ≡ Ok (s, after) → length after < length rest →
      (k : ℕ) × (length after < k)
      × (class_items_from item n is_first set rest ≡ class_items_from item k false (union_of set s) after)
  more_count zero s after h go read less = absurd (omega arith)
  more_count (suc n) s after h go read less = (n, omega arith, one_more n s after h go read)

  -- one more class item is read, and its set joined to those before
  pub items_more : IsUnderWay item whole rest is_first set → (s : List Range) (after : List ℕ) → ((c == 93) && not is_first) ≡ false
      → item is_first rest ≡ Ok (s, after) → length after < length rest →
      IsUnderWay item whole after false (union_of set s)
  items_more w s after go read less =
      let next = more_count w.count s after w.enough go read less in
      record { shorter = omega (arith, w.shorter); count = next.0; enough = next.1; same = w.same ∙ next.2 }

  fails : (n : ℕ) (f : PatternError) → length rest < n → ((c == 93) && not is_first) ≡ false → FailsReading f (item is_first rest)
      → FailsReading f (class_items_from item n is_first set rest)
  unfolding class_items_from
  fails n error.Memory h go read = tt
  fails zero (error.Fault kind left) h go read = absurd (omega arith)
  fails (suc n) (error.Fault kind left) h go read =
      let one : item is_first (c ∷ t) ≡ Err (kind, left) = rw e at read in rw (e, go, one) refl

  -- the fault of a class item is that of all the class items
  pub items_fail : IsUnderWay item whole rest is_first set → (f : PatternError) → ((c == 93) && not is_first) ≡ false
      → FailsReading f (item is_first rest) →
      FailsReading f (class_items_from item (length whole + 1) true [] whole)
  items_fail w f go read = rw w.same (fails w.count f w.enough go read)

-- the text ends
none_at : (item : Bool → List ℕ → Reading (List Range)) (n : ℕ) (rest : List ℕ) (is_first : Bool) (set : List Range)
    → rest ≡ [] → class_items_from item n is_first set rest ≡ syntax_fault rest
unfolding class_items_from
none_at item zero rest is_first set e = rw e refl
none_at item (suc n) rest is_first set e = rw e refl

-- a text that ends before the closing bracket is a fault
pub items_none : (item : Bool → List ℕ → Reading (List Range)) (whole rest : List ℕ) (is_first : Bool) (set : List Range)
    → IsUnderWay item whole rest is_first set → rest ≡ [] →
    class_items_from item (length whole + 1) true [] whole ≡ syntax_fault rest
items_none item whole rest is_first set w e = w.same ∙ none_at item w.count rest is_first set e

-- before the first item of brackets is read, nothing of the set stands and all of the text is left
pub items_start : (item : Bool → List ℕ → Reading (List Range)) (whole : List ℕ) (set : List Range) → set ≡ []
    → IsUnderWay item whole whole true set
items_start item whole set e = rw e (record { shorter = omega arith; count = length whole + 1; enough = omega arith; same = refl })

-- a class by the reading of its items
pub class_is : (item : Bool → List ℕ → Reading (List Range)) (fold : Bool) (t inner rest : List ℕ) (negated : Bool) (s : List Range)
    → (negated, inner) ≡ caret_at t →
    class_items_from item (length inner + 1) true [] inner ≡ Ok (s, rest)
    → class_with item fold t ≡ Ok (finished_set fold negated s, rest)
unfolding class_with
class_is item fold t inner rest negated s e h =
    let then : Bool → List Range × List ℕ → Reading (List Range) = λ b y. Ok (finished_set fold b y.0, y.1) in
    let P : Bool × List ℕ → Type 0 =
    λ x. (class_items_from item (length x.1 + 1) true [] x.1 >>= then x.0) ≡ Ok (finished_set fold negated s, rest) in
    subst P e (rw h refl)

-- the fault of its class items is that of the class
pub class_fails : (item : Bool → List ℕ → Reading (List Range)) (fold : Bool) (t inner : List ℕ) (negated : Bool) (f : PatternError)
    → (negated, inner) ≡ caret_at t →
    FailsReading f (class_items_from item (length inner + 1) true [] inner) → FailsReading f (class_with item fold t)
unfolding class_with
class_fails item fold t inner negated error.Memory e h = tt
class_fails item fold t inner negated (error.Fault kind left) e h =
    let then : Bool → List Range × List ℕ → Reading (List Range) = λ b y. Ok (finished_set fold b y.0, y.1) in
    let P : Bool × List ℕ → Type 0 = λ x. (class_items_from item (length x.1 + 1) true [] x.1 >>= then x.0) ≡ Err (kind, left) in
    subst P e (rw h refl)
