-- What is wrong with a value, wherever it stands in the value: where a place asks for something, and what stands there.
use Rattle.std.specs.Prelude.{◌≡◌, ◌⊎◌, ℕ, ◌<◌, ◌≤◌, ◌^◌, List, [], ◌∷◌, Bool, true, false}
use Rattle.std.specs.Prelude.{Option, Some, None, is_some, nat_lt}
use Rattle.std.specs.Prelude.{if◌then◌else◌, option_and_then, ◌&&◌}
use Rattle.serde_json.specs.Data.{Data, Num, number, unsigned, array, object, item, no_items, Members}
use Rattle.serde_json.specs.Find.{as_array, as_bool, as_null, as_number, as_object, as_str, as_u64, at, get}
use Rattle.lalrpop_json_values.specs.declared.fault.Fault.{Fault}
use Rattle.lalrpop_json_values.specs.declared.fault.FaultKind.TheVariants as fault
use Rattle.lalrpop_json_values.specs.declared.fault.Step.{Step}
use Rattle.lalrpop_json_values.specs.declared.fault.Step.TheVariants as step
use Rattle.lalrpop_json_values.specs.declared.key.Key.{Key}
use Rattle.lalrpop_json_values.specs.declared.word.Word.{Word}
use Rattle.lalrpop_json_values.specs.Gives.{here}
use Rattle.lalrpop_json_values.specs.Key.{key_text}
use Rattle.lalrpop_json_values.specs.Objects.{is_listed, names}
use Rattle.lalrpop_json_values.specs.Scalars.{is_name, is_word, pair_of}
use Rattle.lalrpop_json_grammar.specs.Order.{AreRising}
use Rattle.lalrpop_json_grammar.specs.Telling.{keys_of_layout, told_form}
use Rattle.lalrpop_json_grammar.specs.Wanted.{Layout, Component, Wanted}

-- the same fault, told one step further out
abbrev pub inside : Step → Fault → Fault
inside s f = record { path = s ∷ f.path; kind = f.kind }

abbrev pub is_one_of : List Word → List ℕ → Bool
is_one_of [] t = false
is_one_of (w ∷ ws) t = if is_word w t then true else is_one_of ws t

abbrev pub word_fits : List Word → Option (List ℕ) → Bool
word_fits ws None = false
word_fits ws (Some t) = is_one_of ws t

abbrev pub word_or_fits : List Word → Option (List ℕ) → Bool
word_or_fits ws None = true
word_or_fits ws (Some t) = is_one_of ws t

-- the value is of the JSON kind that the place asks for: of words it is one of them, of a component it tells a form
abbrev pub fits : Wanted → Data → Bool
fits Wanted.text d = is_some (as_str d)
fits Wanted.name d = is_some (as_str d)
fits Wanted.number d = is_some (as_number d)
fits Wanted.span d = is_some (option_and_then pair_of (as_array d))
fits Wanted.flag d = is_some (as_bool d)
fits Wanted.nothing d = is_some (as_null d)
fits (Wanted.word ws) d = word_fits ws (as_str d)
fits (Wanted.list w) d = is_some (as_array d)
fits (Wanted.alternatives w) d = is_some (as_array d)
fits (Wanted.optional w) d = true
fits (Wanted.component p) d = is_some (as_object d) && is_some (told_form p d)
fits (Wanted.word_or ws w) d = word_or_fits ws (as_str d)

-- a whole number below 2 ^ 32
abbrev pub is_number_below_limit : Option ℕ → Bool
is_number_below_limit None = false
is_number_below_limit (Some n) = nat_lt n (2 ^ 32)

-- the value stands in the list
abbrev pub IsAmong : {A : Type 0} → List A → A → Type 0
IsAmong [] x = ⊥
IsAmong (y ∷ ys) x = (x ≡ y) ⊎ IsAmong ys x

mutual
  -- the fault is one of the value, at a place that asks for this
  pub data IsFaultOfValue : Wanted → Data → Fault → Type 0 where
    wrong_shape : {w : Wanted} {d : Data} {f : Fault} → fits w d ≡ false → f ≡ here fault.WrongShape → IsFaultOfValue w d f
    bad_name : {d : Data} {f : Fault} (t : List ℕ) → as_str d ≡ Some t → is_name t ≡ false → f ≡ here fault.BadName
        → IsFaultOfValue Wanted.name d f
    bad_number : {d : Data} {f : Fault} (n : Num) → as_number d ≡ Some n → is_number_below_limit (as_u64 n) ≡ false
        → f ≡ here fault.BadNumber
        → IsFaultOfValue Wanted.number d f
    first_end : {d : Data} {f : Fault} (lo hi : Data) (g : Fault) → d ≡ array (item lo (item hi no_items))
        → IsFaultOfValue Wanted.number lo g → f ≡ inside (step.Index 0) g → IsFaultOfValue Wanted.span d f
    second_end : {d : Data} {f : Fault} (lo hi : Data) (g : Fault) → d ≡ array (item lo (item hi no_items))
        → IsFaultOfValue Wanted.number hi g → f ≡ inside (step.Index 1) g → IsFaultOfValue Wanted.span d f
    wrong_order : {d : Data} {f : Fault} (lo hi : ℕ)
        → d ≡ array (item (number (unsigned lo)) (item (number (unsigned hi)) no_items)) → hi < lo → f ≡ here fault.BadNumber
        → IsFaultOfValue Wanted.span d f
    in_list : {w : Wanted} {d : Data} {f : Fault} (i : ℕ) (e : Data) (g : Fault) → at i d ≡ Some e → IsFaultOfValue w e g
        → f ≡ inside (step.Index i) g → IsFaultOfValue (Wanted.list w) d f
    -- a rule has at most 2 ^ 32 alternatives
    in_alternatives : {w : Wanted} {d : Data} {f : Fault} (i : ℕ) (e : Data) (g : Fault) → at i d ≡ Some e → i < 2 ^ 32
        → IsFaultOfValue w e g → f ≡ inside (step.Index i) g → IsFaultOfValue (Wanted.alternatives w) d f
    too_many : {w : Wanted} {d : Data} {f : Fault} (i : ℕ) (e : Data) → at i d ≡ Some e → 2 ^ 32 ≤ i
        → f ≡ inside (step.Index i) (here fault.WrongShape) → IsFaultOfValue (Wanted.alternatives w) d f
    in_option : {w : Wanted} {d : Data} {f : Fault} → as_null d ≡ None → IsFaultOfValue w d f
        → IsFaultOfValue (Wanted.optional w) d f
    no_word : {ws : List Word} {w : Wanted} {d : Data} {f : Fault} → as_str d ≡ None → IsFaultOfValue w d f
        → IsFaultOfValue (Wanted.word_or ws w) d f
    in_form : {p : Component} {d : Data} {f : Fault} (ms : Members) (form : Layout) → d ≡ object ms → told_form p d ≡ Some form
        → IsFaultIn form d f → IsFaultOfValue (Wanted.component p) d f

  -- the fault is one of the object, which has this form
  pub data IsFaultIn : Layout → Data → Fault → Type 0 where
    missing : {form : Layout} {d : Data} {f : Fault} (k : Key) → IsAmong (keys_of_layout form) k → get (key_text k) d ≡ None
        → f ≡ here (fault.MissingKey k) → IsFaultIn form d f
    unknown : {form : Layout} {d : Data} {f : Fault} (ms : Members) (l : List ℕ) → d ≡ object ms → IsAmong (names ms) l
        → is_listed (keys_of_layout form) l ≡ false → f ≡ here (fault.UnknownKey l) → IsFaultIn form d f
    -- keys out of order, or one of them twice: no value that was read of a text is so
    disordered : {form : Layout} {d : Data} {f : Fault} (ms : Members) → d ≡ object ms → (AreRising (names ms) → ⊥)
        → f ≡ here fault.WrongShape → IsFaultIn form d f
    at_key : {form : Layout} {d : Data} {f : Fault} (k : Key) (w : Wanted) (e : Data) (g : Fault) → IsAmong form (k, w)
        → get (key_text k) d ≡ Some e → IsFaultOfValue w e g → f ≡ inside (step.Key k) g → IsFaultIn form d f
