-- Reading a text, a name, a number, a span, a boolean, `null` or a word tells its first fault; for the readers of all forms.
use Rattle.std.proofs.Common.{◌≡◌, ℕ, ◌^◌, List, [], ◌∷◌, Option, Some, None, Result, Ok}
use Rattle.std.proofs.Common.{Err, Bool, true, false}
use Rattle.std.proofs.Common.{refl, ap, sym, ◌∙◌, cond, inl, inr, is_some, subst, nat_lt, arith}
use Rattle.std.specs.Prelude.{⊤}
use borrow.Author.Tests.{ltb-true, ltb-false}
use Rattle.serde_json.specs.Data.{Data, Num, null, boolean, number, string, array, object, no_items, item}
use Rattle.serde_json.specs.Find.{as_bool, as_null, as_number, as_str, as_u64}
use Rattle.lalrpop_grammar_symbols.specs.declared.span.Span.{Span}
use Rattle.lalrpop_json_values.specs.declared.fault.Fault.{Fault}
use Rattle.lalrpop_json_values.specs.declared.fault.FaultKind.TheVariants as fault
use Rattle.lalrpop_json_values.specs.declared.fault.Step.TheVariants as step
use Rattle.lalrpop_json_values.specs.declared.word.Word.{Word}
use Rattle.lalrpop_json_values.specs.Gives.{◌>>=◌, here, required_value, within}
use Rattle.lalrpop_json_values.specs.Scalars.{as_some, below_limit, flag_at, is_name, is_word, name_at, null_at}
use Rattle.lalrpop_json_values.specs.Scalars.{number_at, optional}
use Rattle.lalrpop_json_values.specs.Scalars.{ordered_span, span_at, text_at, word_at}
use Rattle.lalrpop_json_values.specs.Spelled.{number_json}
use Rattle.lalrpop_json_values.proofs.ScalarLemmas.{number_takes}
use Rattle.lalrpop_json_grammar.specs.Faults.{IsFaultOfValue, fits, inside, is_number_below_limit, is_one_of, word_fits, word_or_fits}
use Rattle.lalrpop_json_grammar.specs.Order.{HasKeysInOrder}
use Rattle.lalrpop_json_grammar.specs.Wanted.{Wanted}
use Rattle.lalrpop_json_grammar.proofs.OrderLemmas.{IsNotBefore, inside_after, step_before}
use Rattle.lalrpop_json_grammar.proofs.FieldLemmas.{Tells, tells_then}

-- ---- what may only be of another JSON kind, or another word

-- the reading goes well just where the test holds, and else tells a wrong shape
abbrev pub Matches : {A : Type 0} → Bool → Result A Fault → Type 0
Matches true (Ok x) = Unit {0}
Matches true (Err f) = ⊥
Matches false (Ok x) = ⊥
Matches false (Err f) = f ≡ here fault.WrongShape

abbrev OnlyShape : Wanted → Data → Type 0
OnlyShape w d = (f : Fault) → IsFaultOfValue w d f → (fits w d ≡ false) × (f ≡ here fault.WrongShape)

by_test : {A : Type 0} (w : Wanted) (d : Data) (r : Result A Fault) (b : Bool) → fits w d ≡ b → OnlyShape w d → Matches b r
    → Tells w d r
by_test w d (Ok x) true e only h = λ f fault. let shape = only f fault in absurd (cc)
by_test w d (Ok x) false e only h = absurd h
by_test w d (Err f) true e only h = absurd h
by_test w d (Err f) false e only h =
    (IsFaultOfValue.wrong_shape e h, λ order g fault. inl (let shape = only g fault in shape.1 ∙ sym h))

pub by_shape : {A : Type 0} (w : Wanted) (d : Data) (r : Result A Fault) → OnlyShape w d → Matches (fits w d) r → Tells w d r
by_shape w d r only h = by_test w d r (fits w d) refl only h

pub required_matches : {A : Type 0} (o : Option A) → Matches (is_some o) (required_value o)
required_matches None = refl
required_matches (Some x) = tt

text_only : (d : Data) → OnlyShape Wanted.text d
text_only d f (IsFaultOfValue.wrong_shape a b) = (a, b)

-- reading a text goes well where the value is a JSON string, else it tells the one fault of the value
pub text_tells : (d : Data) → Tells Wanted.text d (text_at d)
unfolding text_at
text_tells d = by_shape Wanted.text d (required_value (as_str d)) (text_only d) (required_matches (as_str d))

flag_only : (d : Data) → OnlyShape Wanted.flag d
flag_only d f (IsFaultOfValue.wrong_shape a b) = (a, b)

-- reading a boolean goes well where the value is one, else it tells the one fault of the value
pub flag_tells : (d : Data) → Tells Wanted.flag d (flag_at d)
unfolding flag_at
flag_tells d = by_shape Wanted.flag d (required_value (as_bool d)) (flag_only d) (required_matches (as_bool d))

null_only : (d : Data) → OnlyShape Wanted.nothing d
null_only d f (IsFaultOfValue.wrong_shape a b) = (a, b)

-- reading `null` goes well where the value is it, else it tells the one fault of the value
pub null_tells : (d : Data) → Tells Wanted.nothing d (null_at d)
unfolding null_at
null_tells d = by_shape Wanted.nothing d (required_value (as_null d)) (null_only d) (required_matches (as_null d))

-- ---- words

-- one word more
pub or_word : {A : Type 0} (b c : Bool) (x : A) (r : Result A Fault) → Matches c r → Matches (cond b true c) (cond b (Ok x) r)
or_word true c x r h = tt
or_word false c x r h = h

words_match : {A : Type 0} (ws : List Word) (o : Option (List ℕ)) (read : List ℕ → Result A Fault)
    → ((t : List ℕ) → Matches (is_one_of ws t) (read t))
    → Matches (word_fits ws o) (required_value o >>= read)
words_match ws None read h = refl
words_match ws (Some t) read h = h t

word_only : (ws : List Word) (d : Data) → OnlyShape (Wanted.word ws) d
word_only ws d f (IsFaultOfValue.wrong_shape a b) = (a, b)

-- one of some words
pub words_tell : {A : Type 0} (ws : List Word) (d : Data) (read : List ℕ → Result A Fault)
    → ((t : List ℕ) → Matches (is_one_of ws t) (read t))
    → Tells (Wanted.word ws) d (required_value (as_str d) >>= read)
words_tell ws d read h =
    by_shape (Wanted.word ws) d (required_value (as_str d) >>= read) (word_only ws d) (words_match ws (as_str d) read h)

-- reading this very word goes well where the value is it, else it tells the one fault of the value
pub word_tells : (w : Word) (d : Data) → Tells (Wanted.word (w ∷ [])) d (word_at w d)
unfolding word_at
word_tells w d = words_tell (w ∷ []) d _ λ t. or_word (is_word w t) false tt (Err (here fault.WrongShape)) refl

-- one of some words or something: a text
pub or_text : {A : Type 0} (ws : List Word) (w : Wanted) (d : Data) (t : List ℕ) (r : Result A Fault) → as_str d ≡ Some t
    → Matches (is_one_of ws t) r → Tells (Wanted.word_or ws w) d r
or_text ws w d t r e h = by_shape (Wanted.word_or ws w) d r only (rw e h)
  where
    only : OnlyShape (Wanted.word_or ws w) d
    only f (IsFaultOfValue.wrong_shape a b) = (a, b)
    only f (IsFaultOfValue.no_word none q) = absurd (cc)

-- the same: no text
pub or_other : {A : Type 0} (ws : List Word) (w : Wanted) (d : Data) (r : Result A Fault) → as_str d ≡ None → Tells w d r
    → Tells (Wanted.word_or ws w) d r
or_other ws w d (Ok x) none h = λ f q. by f q
  where
    by : (f : Fault) → IsFaultOfValue (Wanted.word_or ws w) d f → ⊥
    by f (IsFaultOfValue.wrong_shape a b) = let fit : fits (Wanted.word_or ws w) d ≡ true = ap (word_or_fits ws) none in absurd (cc)
    by f (IsFaultOfValue.no_word e q) = h f q
or_other ws w d (Err f) none h = (IsFaultOfValue.no_word none h.0, λ order g q. by order g q)
  where
    by : HasKeysInOrder d → (g : Fault) → IsFaultOfValue (Wanted.word_or ws w) d g → IsNotBefore f g
    by order g (IsFaultOfValue.wrong_shape a b) = let fit : fits (Wanted.word_or ws w) d ≡ true = ap (word_or_fits ws) none in absurd (cc)
    by order g (IsFaultOfValue.no_word e q) = h.1 order g q

-- ---- `null` or something

-- `null` has no fault at a place that takes `null` or something
pub null_has_none : (w : Wanted) (d : Data) (u : ⊤) → as_null d ≡ Some u → (f : Fault) → IsFaultOfValue (Wanted.optional w) d f
    → ⊥
null_has_none w d u e f (IsFaultOfValue.wrong_shape a b) = absurd (cc)
null_has_none w d u e f (IsFaultOfValue.in_option none q) = absurd (cc)

some_tells : {A : Type 0} (w : Wanted) (d : Data) (r : Result A Fault) → as_null d ≡ None → Tells w d r
    → Tells (Wanted.optional w) d r
some_tells w d (Ok x) none h = λ f q. by f q
  where
    by : (f : Fault) → IsFaultOfValue (Wanted.optional w) d f → ⊥
    by f (IsFaultOfValue.wrong_shape a b) = absurd (cc)
    by f (IsFaultOfValue.in_option e q) = h f q
some_tells w d (Err f) none h = (IsFaultOfValue.in_option none h.0, λ order g q. by order g q)
  where
    by : HasKeysInOrder d → (g : Fault) → IsFaultOfValue (Wanted.optional w) d g → IsNotBefore f g
    by order g (IsFaultOfValue.wrong_shape a b) = absurd (cc)
    by order g (IsFaultOfValue.in_option e q) = h.1 order g q

by_null : {A : Type 0} (w : Wanted) (d : Data) (x : A) (r : Result A Fault) (o : Option ⊤) → as_null d ≡ o → Tells w d r
    → Tells (Wanted.optional w) d (cond (is_some o) (Ok x) r)
by_null w d x r None e h = some_tells w d r e h
by_null w d x r (Some u) e h = null_has_none w d u e

-- where a reading tells faults of a value, one that takes `null` first tells those of `null` or the value
pub option_tells : {A : Type 0} (w : Wanted) (d : Data) (x : A) (r : Result A Fault) → Tells w d r
    → Tells (Wanted.optional w) d (cond (is_some (as_null d)) (Ok x) r)
option_tells w d x r h = by_null w d x r (as_null d) refl h

-- where reading a value tells its faults, reading `null` or the value tells those of a place that takes both
pub optional_tells : {A : Type 0} (w : Wanted) (d : Data) (read : Data → Result A Fault) → Tells w d (read d)
    → Tells (Wanted.optional w) d (optional read d)
optional_tells w d read h =
    option_tells w d None (as_some (read d)) (tells_then (HasKeysInOrder d) (IsFaultOfValue w d) (λ x. Some x) (read d) h)

-- ---- names

name_fits : (t : List ℕ) (b : Bool) → is_name t ≡ b → Tells Wanted.name (string t) (cond b (Ok t) (Err (here fault.BadName)))
name_fits t true e = λ f q. by f q
  where
    by : (f : Fault) → IsFaultOfValue Wanted.name (string t) f → ⊥
    by f (IsFaultOfValue.wrong_shape a b) = absurd (cc)
    by f (IsFaultOfValue.bad_name s same bad is) = let same_text : t ≡ s = cc in absurd (cc)
name_fits t false e = (IsFaultOfValue.bad_name t refl e refl, λ order g q. by g q)
  where
    by : (g : Fault) → IsFaultOfValue Wanted.name (string t) g → IsNotBefore (here fault.BadName) g
    by g (IsFaultOfValue.wrong_shape a b) = absurd (cc)
    by g (IsFaultOfValue.bad_name s same bad is) = inl is

no_name : (d : Data) → as_str d ≡ None → (g : Fault) → IsFaultOfValue Wanted.name d g → IsNotBefore (here fault.WrongShape) g
no_name d none g (IsFaultOfValue.wrong_shape a b) = inl b
no_name d none g (IsFaultOfValue.bad_name s same bad is) = absurd (cc)

-- reading a name goes well where the value is a JSON string with a name, else it tells the one fault of the value
pub name_tells : (d : Data) → Tells Wanted.name d (name_at d)
unfolding name_at
name_tells null = (IsFaultOfValue.wrong_shape refl refl, λ order. no_name null refl)
name_tells (boolean b) = (IsFaultOfValue.wrong_shape refl refl, λ order. no_name (boolean b) refl)
name_tells (number n) = (IsFaultOfValue.wrong_shape refl refl, λ order. no_name (number n) refl)
name_tells (string t) = name_fits t (is_name t) refl
name_tells (array ds) = (IsFaultOfValue.wrong_shape refl refl, λ order. no_name (array ds) refl)
name_tells (object ms) = (IsFaultOfValue.wrong_shape refl refl, λ order. no_name (object ms) refl)

-- ---- numbers

is_bad : (n : Num) → is_number_below_limit (as_u64 n) ≡ false
    → IsFaultOfValue Wanted.number (number n) (here fault.BadNumber) × (HasKeysInOrder (number n)
    → (g : Fault) → IsFaultOfValue Wanted.number (number n) g → IsNotBefore (here fault.BadNumber) g)
is_bad n e = (IsFaultOfValue.bad_number n refl e refl, λ order g q. by g q)
  where
    by : (g : Fault) → IsFaultOfValue Wanted.number (number n) g → IsNotBefore (here fault.BadNumber) g
    by g (IsFaultOfValue.wrong_shape a b) = absurd (cc)
    by g (IsFaultOfValue.bad_number m same bad is) = inl is

number_below : (n : Num) (m : ℕ) (b : Bool) → as_u64 n ≡ Some m → nat_lt m (2 ^ 32) ≡ b
    → Tells Wanted.number (number n) (cond b (Ok m) (Err (here fault.BadNumber)))
number_below n m true e h = λ f q. by f q
  where
    by : (f : Fault) → IsFaultOfValue Wanted.number (number n) f → ⊥
    by f (IsFaultOfValue.wrong_shape a b) = absurd (cc)
    by f (IsFaultOfValue.bad_number k same bad is) =
        let same_number : n ≡ k = cc in
        let fit : is_number_below_limit (as_u64 k)
        ≡ true = ap (λ x. is_number_below_limit (as_u64 x)) (sym same_number) ∙ ap is_number_below_limit e ∙ h in
        absurd (cc)
number_below n m false e h = is_bad n (ap is_number_below_limit e ∙ h)

number_whole : (n : Num) (o : Option ℕ) → as_u64 n ≡ o → Tells Wanted.number (number n) (below_limit o)
number_whole n None e = is_bad n (ap is_number_below_limit e)
number_whole n (Some m) e = number_below n m (nat_lt m (2 ^ 32)) e refl

no_number : (d : Data) → as_number d ≡ None → (g : Fault) → IsFaultOfValue Wanted.number d g
    → IsNotBefore (here fault.WrongShape) g
no_number d none g (IsFaultOfValue.wrong_shape a b) = inl b
no_number d none g (IsFaultOfValue.bad_number n same bad is) = absurd (cc)

-- reading a number goes well where the value is a whole one below 2 ^ 32, else it tells the one fault of the value
pub number_tells : (d : Data) → Tells Wanted.number d (number_at d)
unfolding number_at
number_tells null = (IsFaultOfValue.wrong_shape refl refl, λ order. no_number null refl)
number_tells (boolean b) = (IsFaultOfValue.wrong_shape refl refl, λ order. no_number (boolean b) refl)
number_tells (number n) = number_whole n (as_u64 n) refl
number_tells (string t) = (IsFaultOfValue.wrong_shape refl refl, λ order. no_number (string t) refl)
number_tells (array ds) = (IsFaultOfValue.wrong_shape refl refl, λ order. no_number (array ds) refl)
number_tells (object ms) = (IsFaultOfValue.wrong_shape refl refl, λ order. no_number (object ms) refl)

-- ---- spans

abbrev pair : Data → Data → Data
pair a b = array (item a (item b no_items))

pair_same : (a b c d : Data) → pair a b ≡ pair c d → (a ≡ c) × (b ≡ d)
pair_same a b c d e = (cc, cc)

module _ (a b : Data) where
  first_first : (f : Fault) → IsFaultOfValue Wanted.number a f
      → (HasKeysInOrder a → (g : Fault) → IsFaultOfValue Wanted.number a g → IsNotBefore f g)
      → Tells {A = Span} Wanted.span (pair a b) (Err (inside (step.Index 0) f))
  first_first f h first = (IsFaultOfValue.first_end a b f refl h refl, λ order g q. by order g q)
    where
      by : HasKeysInOrder (pair a b) → (g : Fault) → IsFaultOfValue Wanted.span (pair a b) g → IsNotBefore (inside (step.Index 0) f) g
      by order g (IsFaultOfValue.wrong_shape x y) = absurd (cc)
      by order g (IsFaultOfValue.first_end lo hi p e q is) =
          let same = pair_same a b lo hi e in
          rw is (inside_after (step.Index 0) f p (first order.0 p (subst (λ x. IsFaultOfValue Wanted.number x p) (sym same.0) q)))
      by order g (IsFaultOfValue.second_end lo hi p e q is) = inr (rw is (step_before (step.Index 0) (step.Index 1) f p refl))
      by order g (IsFaultOfValue.wrong_order lo hi e less is) = inr (rw is refl)

  second_first : (lo : ℕ) → a ≡ number_json lo → ((f : Fault) → IsFaultOfValue Wanted.number a f → ⊥) → (f : Fault)
      → IsFaultOfValue Wanted.number b f → (HasKeysInOrder b → (g : Fault) → IsFaultOfValue Wanted.number b g → IsNotBefore f g)
      → Tells {A = Span} Wanted.span (pair a b) (Err (inside (step.Index 1) f))
  second_first lo is_lo none f h first = (IsFaultOfValue.second_end a b f refl h refl, λ order g q. by order g q)
    where
      by : HasKeysInOrder (pair a b) → (g : Fault) → IsFaultOfValue Wanted.span (pair a b) g → IsNotBefore (inside (step.Index 1) f) g
      by order g (IsFaultOfValue.wrong_shape x y) = absurd (cc)
      by order g (IsFaultOfValue.first_end low high p e q is) =
          let same = pair_same a b low high e in
          absurd (none p (subst (λ x. IsFaultOfValue Wanted.number x p) (sym same.0) q))
      by order g (IsFaultOfValue.second_end low high p e q is) =
          let same = pair_same a b low high e in
          rw is (inside_after (step.Index 1) f p (first order.1.0 p (subst (λ x. IsFaultOfValue Wanted.number x p) (sym same.1) q)))
      by order g (IsFaultOfValue.wrong_order low high e less is) = inr (rw is refl)

  ordered : (lo hi : ℕ) → a ≡ number_json lo → b ≡ number_json hi → ((f : Fault) → IsFaultOfValue Wanted.number a f → ⊥)
      → ((f : Fault) → IsFaultOfValue Wanted.number b f → ⊥) → (t : Bool) → nat_lt hi lo ≡ t
      → Tells {A = Span} Wanted.span (pair a b) (cond t (Err (here fault.BadNumber)) (Ok (record { 0 = lo; 1 = hi })))
  ordered lo hi is_lo is_hi first second true e =
      (IsFaultOfValue.wrong_order lo hi (rw (is_lo, is_hi) refl) (ltb-true hi lo e) refl, λ order g q. by g q)
    where
      by : (g : Fault) → IsFaultOfValue Wanted.span (pair a b) g → IsNotBefore (here fault.BadNumber) g
      by g (IsFaultOfValue.wrong_shape x y) = absurd (cc)
      by g (IsFaultOfValue.first_end low high p e q is) =
          let same = pair_same a b low high e in absurd (first p (subst (λ x. IsFaultOfValue Wanted.number x p) (sym same.0) q))
      by g (IsFaultOfValue.second_end low high p e q is) =
          let same = pair_same a b low high e in absurd (second p (subst (λ x. IsFaultOfValue Wanted.number x p) (sym same.1) q))
      by g (IsFaultOfValue.wrong_order low high e less is) = inl is
  ordered lo hi is_lo is_hi first second false e = λ f q. by f q
    where
      by : (g : Fault) → IsFaultOfValue Wanted.span (pair a b) g → ⊥
      by g (IsFaultOfValue.wrong_shape x y) = absurd (cc)
      by g (IsFaultOfValue.first_end low high p e q is) =
          let same = pair_same a b low high e in first p (subst (λ x. IsFaultOfValue Wanted.number x p) (sym same.0) q)
      by g (IsFaultOfValue.second_end low high p e q is) =
          let same = pair_same a b low high e in second p (subst (λ x. IsFaultOfValue Wanted.number x p) (sym same.1) q)
      by g (IsFaultOfValue.wrong_order low high same less is) =
          let ends = pair_same a b (number_json low) (number_json high) same in
          let low_is : number_json lo ≡ number_json low = sym is_lo ∙ ends.0 in
          let high_is : number_json hi ≡ number_json high = sym is_hi ∙ ends.1 in
          let l : lo ≡ low = cc in
          let h : hi ≡ high = cc in
          omega (arith, l, h, less, ltb-false hi lo e)

  second_tells : (lo : ℕ) → a ≡ number_json lo → ((f : Fault) → IsFaultOfValue Wanted.number a f → ⊥)
      → (r : Result ℕ Fault)
      → ((n : ℕ) → r ≡ Ok n → b ≡ number_json n)
      → Tells Wanted.number b r → Tells Wanted.span (pair a b) (within (step.Index 1) r >>= λ hi. ordered_span lo hi)
  second_tells lo is_lo none (Ok hi) is_hi h = ordered lo hi is_lo (is_hi hi refl) none h (nat_lt hi lo) refl
  second_tells lo is_lo none (Err f) is_hi h = second_first lo is_lo none f h.0 h.1

  first_tells : (r : Result ℕ Fault) → ((n : ℕ) → r ≡ Ok n → a ≡ number_json n) → Tells Wanted.number a r
      → Tells Wanted.span (pair a b)
      (within (step.Index 0) r >>= λ lo. (within (step.Index 1) (number_at b) >>= λ hi. ordered_span lo hi))
  first_tells (Ok lo) is_lo h =
      second_tells lo (is_lo lo refl) h (number_at b) (λ n e. (number_takes b n e).0) (number_tells b)
  first_tells (Err f) is_lo h = first_first f h.0 h.1

no_span : (d : Data) → fits Wanted.span d ≡ false → IsFaultOfValue Wanted.span d (here fault.WrongShape) × (HasKeysInOrder d
    → (g : Fault) → IsFaultOfValue Wanted.span d g → IsNotBefore (here fault.WrongShape) g)
no_span d none = (IsFaultOfValue.wrong_shape none refl, λ order g q. by g q)
  where
    by : (g : Fault) → IsFaultOfValue Wanted.span d g → IsNotBefore (here fault.WrongShape) g
    by g (IsFaultOfValue.wrong_shape a b) = inl b
    by g (IsFaultOfValue.first_end lo hi p e q is) = let fit : fits Wanted.span d ≡ true = ap (fits Wanted.span) e in absurd (cc)
    by g (IsFaultOfValue.second_end lo hi p e q is) = let fit : fits Wanted.span d ≡ true = ap (fits Wanted.span) e in absurd (cc)
    by g (IsFaultOfValue.wrong_order lo hi e less is) = let fit : fits Wanted.span d ≡ true = ap (fits Wanted.span) e in absurd (cc)

-- reading a span tells a fault of its ends, or of their order, the first of them, or it has none
pub span_tells : (d : Data) → Tells Wanted.span d (span_at d)
unfolding span_at
span_tells null = no_span null refl
span_tells (boolean b) = no_span (boolean b) refl
span_tells (number n) = no_span (number n) refl
span_tells (string t) = no_span (string t) refl
span_tells (object ms) = no_span (object ms) refl
span_tells (array no_items) = no_span (array no_items) refl
span_tells (array (item a no_items)) = no_span (array (item a no_items)) refl
span_tells (array (item a (item b no_items))) = first_tells a b (number_at a) (λ n e. (number_takes a n e).0) (number_tells a)
span_tells (array (item a (item b (item c ds)))) = no_span (array (item a (item b (item c ds)))) refl
