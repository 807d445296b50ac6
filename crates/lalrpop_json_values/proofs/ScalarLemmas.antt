-- Numbers, spans, texts, names and words: what is read is spelled so, and what is spelled so is read; for the laws of formats.
use Rattle.std.proofs.Common.{◌≡◌, ℕ, ◌^◌, ◌<◌, ◌≤◌, List, Option, Some, None, Result, Ok, Err, Bool, true, false}
use Rattle.std.proofs.Common.{arith, refl, ap, sym, ◌∙◌, cond, nat_lt, is_some}
use Rattle.std.specs.Prelude.{⊤}
use Rattle.std.specs.Cmp.Lexicographic.{same_text}
use borrow.Author.Tests.{ltb-true, ltb-false, le-ltb, lt-ltb}
use Rattle.serde_json.specs.Data.{Data, null, boolean, number, string, array, object, unsigned, negative, float, Items, no_items, item}
use Rattle.serde_json.specs.Find.{as_null}
use Rattle.lalrpop_grammar_symbols.specs.declared.span.Span.{Span}
use Rattle.lalrpop_json_values.specs.declared.fault.Fault.{Fault}
use Rattle.lalrpop_json_values.specs.declared.fault.FaultKind.TheVariants.{BadNumber}
use Rattle.lalrpop_json_values.specs.declared.fault.Step.TheVariants.{Index}
use Rattle.lalrpop_json_values.specs.declared.word.Word.{Word}
use Rattle.lalrpop_json_values.specs.Gives.{here, required_value}
use Rattle.lalrpop_json_values.specs.Scalars.{flag_at, null_at, as_some, optional, is_name, is_word, name_at, number_at, ordered_span}
use Rattle.lalrpop_json_values.specs.Scalars.{pair_of, span_at, text_at, word_at}
use Rattle.lalrpop_json_values.specs.Word.{word_text}
use Rattle.lalrpop_json_values.proofs.StepLemmas.{bind_ok, part_ok, guard_ok, ok_same}
use Rattle.lalrpop_json_values.specs.Spelled.{IsSpan, IfSome, option_json, number_json, span_json, word_json}

-- ---- numbers and spans

-- a value that is read as a number is its JSON, and the number is below 2 ^ 32
pub number_takes : (d : Data) (n : ℕ) → number_at d ≡ Ok n → (d ≡ number_json n) × (n < 2 ^ 32)
unfolding number_at
number_takes null n e = absurd (cc)
number_takes (boolean b) n e = absurd (cc)
number_takes (number (unsigned m)) n e =
    let h = guard_ok (nat_lt m (2 ^ 32)) _ m n e in (ap number_json h.1, omega (arith, h.1, ltb-true m (2 ^ 32) h.0))
number_takes (number (negative z)) n e = absurd (cc)
number_takes (number (float x)) n e = absurd (cc)
number_takes (string s) n e = absurd (cc)
number_takes (array ds) n e = absurd (cc)
number_takes (object ms) n e = absurd (cc)

-- the JSON of a number below 2 ^ 32 is read as that number
pub number_again : (n : ℕ) → n < 2 ^ 32 → number_at (number_json n) ≡ Ok n
unfolding number_at
number_again n h = let below : nat_lt n (2 ^ 32) ≡ true = lt-ltb n (2 ^ 32) h in rw below refl

pair_takes : (ds : Items) (a b : Data) → required_value (pair_of ds) ≡ Ok (a, b) → ds ≡ item a (item b no_items)
pair_takes no_items a b e = absurd (cc)
pair_takes (item x no_items) a b e = absurd (cc)
pair_takes (item x (item y no_items)) a b e =
    let same : ◌≡◌ {A = Data × Data} (x, y) (a, b) = cc in ap (λ p. item p.0 (item p.1 no_items)) same
pair_takes (item x (item y (item z ds))) a b e = absurd (cc)

order_takes : (lo hi : ℕ) (s : Span) → ordered_span lo hi ≡ Ok s → (lo ≤ hi) × (s ≡ record { 0 = lo; 1 = hi })
order_takes lo hi s e = by_test (nat_lt hi lo) refl e
  where
    by_test : (b : Bool) → nat_lt hi lo ≡ b → cond b (Err (here BadNumber)) (Ok (record { 0 = lo; 1 = hi })) ≡ Ok s → (lo ≤ hi)
        × (s ≡ record { 0 = lo; 1 = hi })
    by_test true t h = absurd (cc)
    by_test false t h = (omega (arith, ltb-false hi lo t), cc)

span_joined : (ds : Items) (a b : Data) (lo hi : ℕ) (s : Span) → ds ≡ item a (item b no_items) → (a ≡ number_json lo)
    × (lo < 2 ^ 32) → (b ≡ number_json hi) × (hi < 2 ^ 32)
    → (lo ≤ hi) × (s ≡ record { 0 = lo; 1 = hi }) → (array ds ≡ span_json s) × IsSpan s
span_joined ds a b lo hi s pair first second order =
    (rw (pair, first.0, second.0, order.1) refl, rw order.1 (record { ordered = order.0; limit = second.1 }))

-- a value that is read as a span is its JSON, and the ends are in order and below 2 ^ 32
pub span_takes : (d : Data) (s : Span) → span_at d ≡ Ok s → (d ≡ span_json s) × IsSpan s
unfolding span_at
span_takes null s e = absurd (cc)
span_takes (boolean b) s e = absurd (cc)
span_takes (number n) s e = absurd (cc)
span_takes (string t) s e = absurd (cc)
span_takes (object ms) s e = absurd (cc)
span_takes (array ds) s e =
    let ends = bind_ok (required_value (pair_of ds)) _ s e in
    let lo = part_ok (Index 0) (number_at ends.0.0) _ s ends.2 in
    let hi = part_ok (Index 1) (number_at ends.0.1) _ s lo.2 in
    span_joined ds ends.0.0 ends.0.1 lo.0 hi.0 s (pair_takes ds ends.0.0 ends.0.1 ends.1) (number_takes ends.0.0 lo.0 lo.1)
    (number_takes ends.0.1 hi.0 hi.1) (order_takes lo.0 hi.0 s hi.2)

-- the JSON of a span whose ends are in order and below 2 ^ 32 is read as that span
pub span_again : (s : Span) → IsSpan s → span_at (span_json s) ≡ Ok s
unfolding span_at number_at
span_again s is =
    let lo : nat_lt s.0 (2 ^ 32) ≡ true = lt-ltb s.0 (2 ^ 32) (omega (arith, is.ordered, is.limit)) in
    let hi : nat_lt s.1 (2 ^ 32) ≡ true = lt-ltb s.1 (2 ^ 32) is.limit in
    let order : nat_lt s.1 s.0 ≡ false = le-ltb s.1 s.0 is.ordered in
    rw (lo, hi, order) refl

-- ---- texts, names and words

-- a value that is read as a text is its JSON string
pub text_takes : (d : Data) (t : List ℕ) → text_at d ≡ Ok t → d ≡ string t
unfolding text_at
text_takes null t e = absurd (cc)
text_takes (boolean b) t e = absurd (cc)
text_takes (number n) t e = absurd (cc)
text_takes (string s) t e = let same : s ≡ t = cc in ap string same
text_takes (array ds) t e = absurd (cc)
text_takes (object ms) t e = absurd (cc)

-- the JSON string of a text is read as that text
pub text_again : (t : List ℕ) → text_at (string t) ≡ Ok t
unfolding text_at
text_again t = refl

-- a value that is read as a name is its JSON string, and the text is a name
pub name_takes : (d : Data) (t : List ℕ) → name_at d ≡ Ok t → (d ≡ string t) × (is_name t ≡ true)
unfolding name_at
name_takes null t e = absurd (cc)
name_takes (boolean b) t e = absurd (cc)
name_takes (number n) t e = absurd (cc)
name_takes (string s) t e = let h = guard_ok (is_name s) _ s t e in (ap string h.1, ap is_name (sym h.1) ∙ h.0)
name_takes (array ds) t e = absurd (cc)
name_takes (object ms) t e = absurd (cc)

-- the JSON string of a name is read as that name
pub name_again : (t : List ℕ) → is_name t ≡ true → name_at (string t) ≡ Ok t
unfolding name_at
name_again t h = rw h refl

-- the JSON string of a text that passes for a word is the JSON of that word
pub word_is : (w : Word) (t : List ℕ) → is_word w t ≡ true → string t ≡ word_json w
word_is w t h = ap string (same_text t (word_text w) (sym h))

-- a value that is read as a word is the JSON of that word
pub word_takes : (w : Word) (d : Data) (u : ⊤) → word_at w d ≡ Ok u → d ≡ word_json w
unfolding word_at
word_takes w null u e = absurd (cc)
word_takes w (boolean b) u e = absurd (cc)
word_takes w (number n) u e = absurd (cc)
word_takes w (string s) u e = let h = guard_ok (is_word w s) _ tt u e in ap string (same_text s (word_text w) (sym h.0))
word_takes w (array ds) u e = absurd (cc)
word_takes w (object ms) u e = absurd (cc)

-- a value that is read as a flag is its JSON boolean
pub flag_takes : (d : Data) (b : Bool) → flag_at d ≡ Ok b → d ≡ boolean b
unfolding flag_at
flag_takes null b e = absurd (cc)
flag_takes (boolean c) b e = let same : c ≡ b = cc in ap boolean same
flag_takes (number n) b e = absurd (cc)
flag_takes (string s) b e = absurd (cc)
flag_takes (array ds) b e = absurd (cc)
flag_takes (object ms) b e = absurd (cc)

-- a value that is read as `null` is `null`
pub null_takes : (d : Data) (u : ⊤) → null_at d ≡ Ok u → d ≡ null
unfolding null_at
null_takes null u e = refl
null_takes (boolean b) u e = absurd (cc)
null_takes (number n) u e = absurd (cc)
null_takes (string s) u e = absurd (cc)
null_takes (array ds) u e = absurd (cc)
null_takes (object ms) u e = absurd (cc)

-- ---- values that may be missing

module _ {A : Type 0} (read : Data → Result A Fault) (spelled : A → Data) (P : A → Type 0)
    (takes : (d : Data) (x : A) → read d ≡ Ok x → (d ≡ spelled x) × P x) where
  some_takes : (d : Data) (o : Option A) → as_some (read d) ≡ Ok o → (d ≡ option_json spelled o) × IfSome P o
  some_takes d o e =
      let got = bind_ok (read d) (λ x. Ok (Some x)) o e in
      rw (← ok_same (Some got.0) o got.2) (takes d got.0 got.1)

  -- `null`, or what is taken
  pub optional_takes : (d : Data) (o : Option A) → optional read d ≡ Ok o → (d ≡ option_json spelled o) × IfSome P o
  optional_takes null o e = rw (← ok_same None o e) (refl, tt)
  optional_takes (boolean b) o e = some_takes (boolean b) o e
  optional_takes (number n) o e = some_takes (number n) o e
  optional_takes (string s) o e = some_takes (string s) o e
  optional_takes (array ds) o e = some_takes (array ds) o e
  optional_takes (object ms) o e = some_takes (object ms) o e

-- `null`, or what is spelled, where that isn't `null`
pub optional_again : {A : Type 0} (read : Data → Result A Fault) (spelled : A → Data) (P : A → Type 0)
    → ((x : A) → P x → read (spelled x) ≡ Ok x)
    → ((x : A) → P x → is_some (as_null (spelled x)) ≡ false) → (o : Option A) → IfSome P o
    → optional read (option_json spelled o) ≡ Ok o
optional_again read spelled P again some None is = refl
optional_again read spelled P again some (Some x) is = rw (some x is, again x is) refl

-- a value that is read as a text or none is its JSON, `null` where there is none
pub optional_text_takes : (d : Data) (o : Option (List ℕ)) → optional text_at d ≡ Ok o → d ≡ option_json string o
optional_text_takes d o e = (optional_takes text_at string (λ _. Unit {0}) (λ d t h. (text_takes d t h, tt)) d o e).0

-- the JSON of a text or none is read as that
pub optional_text_again : (o : Option (List ℕ)) → optional text_at (option_json string o) ≡ Ok o
unfolding text_at
optional_text_again None = refl
optional_text_again (Some t) = refl
