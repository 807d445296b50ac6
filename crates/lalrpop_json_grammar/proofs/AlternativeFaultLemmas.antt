-- Reading an alternative of a rule tells its first fault.
use Rattle.std.proofs.Common.{◌≡◌, ℕ, ◌^◌, List, [], ◌∷◌, Option, Some, None, Ok}
use Rattle.std.proofs.Common.{Err, refl, arith, Bool}
use Rattle.std.proofs.Common.{true, false, inl, inr, nat_lt, cond}
use borrow.Author.Tests.{ltb-true, ltb-false}
use Rattle.serde_json.specs.Data.{Data}
use Rattle.lalrpop_grammar.specs.declared.condition.ConditionOp.TheVariants as tests
use Rattle.lalrpop_json_values.specs.declared.fault.Fault.{Fault}
use Rattle.lalrpop_json_values.specs.declared.fault.FaultKind.TheVariants as fault
use Rattle.lalrpop_json_values.specs.declared.form.Form.{Form}
use Rattle.lalrpop_json_values.specs.declared.form.Form.TheVariants as form
use Rattle.lalrpop_json_values.specs.declared.word.Word.TheVariants as word
use Rattle.lalrpop_json_values.specs.Forms.{form_by_key}
use Rattle.lalrpop_json_values.specs.Gives.{◌>>=◌, here}
use Rattle.lalrpop_json_values.specs.Key.{key_text}
use Rattle.lalrpop_json_values.specs.Lists.{list_at}
use Rattle.lalrpop_json_values.specs.Scalars.{as_some, is_word, name_at, optional, span_at, text_at}
use Rattle.lalrpop_json_symbols.specs.Attributes.{attribute_at}
use Rattle.lalrpop_json_symbols.specs.Symbols.{symbol_at}
use Rattle.lalrpop_json_items.specs.Alternatives.{action_at, action_by, action_rows, alternative_at, alternative_at_place, condition_at}
use Rattle.lalrpop_json_items.specs.Alternatives.{alternatives_at, fallible_at, test_at, user_at}
use Rattle.lalrpop_json_grammar.specs.Faults.{IsFaultOfValue}
use Rattle.lalrpop_json_grammar.specs.Format.{alternative_layout, condition_layout, fallible_layout, list_of_component}
use Rattle.lalrpop_json_grammar.specs.Format.{optional_component, user_layout}
use Rattle.lalrpop_json_grammar.specs.Order.{HasKeysInOrder}
use Rattle.lalrpop_json_grammar.specs.Telling.{all_keys, telling, told_form}
use Rattle.lalrpop_json_grammar.specs.Wanted.{Layout, Component, Wanted}
use Rattle.lalrpop_json_grammar.proofs.OrderLemmas.{IsNotBefore}
use Rattle.lalrpop_json_grammar.proofs.AttributeFaultLemmas.{attribute_tells}
use Rattle.lalrpop_json_grammar.proofs.FieldLemmas.{Tells, TellsOf, done, field, tells_same, tells_then}
use Rattle.lalrpop_json_grammar.proofs.ListFaultLemmas.{AlternativeFault, alternatives_tell, list_tells}
use Rattle.lalrpop_json_grammar.proofs.ObjectLemmas.{FormFault, object_tells}
use Rattle.lalrpop_json_grammar.proofs.ComponentLemmas.{component_told, component_untold, rows_told}
use Rattle.lalrpop_json_grammar.proofs.ScalarFaultLemmas.{name_tells, option_tells, optional_tells, or_word, span_tells}
use Rattle.lalrpop_json_grammar.proofs.ScalarFaultLemmas.{text_tells, words_tell}
use Rattle.lalrpop_json_grammar.proofs.SymbolFaultLemmas.{symbols_tell}

-- ---- actions

user_tells : (d : Data) → TellsOf (HasKeysInOrder d) (FormFault user_layout d) (user_at d)
unfolding user_at key_text
user_tells d = object_tells user_layout d _ refl (field text_at _ (λ e below. text_tells e) λ text. done)

fallible_tells : (d : Data) → TellsOf (HasKeysInOrder d) (FormFault fallible_layout d) (fallible_at d)
unfolding fallible_at key_text
fallible_tells d = object_tells fallible_layout d _ refl (field text_at _ (λ e below. text_tells e) λ text. done)

action_of : Option Form → Option Layout
action_of (Some form.Fallible) = Some fallible_layout
action_of (Some form.User) = Some user_layout
action_of _ = None

action_told : (d : Data) → told_form Component.action d ≡ action_of (form_by_key action_rows d)
unfolding key_text action_of
action_told d = rows_told action_of refl action_rows (telling all_keys (user_layout ∷ fallible_layout ∷ [])) d refl

by_action : (o : Option Form) (d : Data) → told_form Component.action d ≡ action_of o
    → Tells (Wanted.component Component.action) d (action_by o d)
unfolding action_of
by_action (Some form.Fallible) d e = component_told Component.action d fallible_layout (fallible_at d) e (fallible_tells d)
by_action (Some form.User) d e = component_told Component.action d user_layout (user_at d) e (user_tells d)
by_action _ d e = component_untold Component.action d e

action_tells : (d : Data) → Tells (optional_component Component.action) d (action_at d)
unfolding action_at
action_tells d =
    option_tells (Wanted.component Component.action) d None (as_some (action_by (form_by_key action_rows d) d))
    (tells_then (HasKeysInOrder d) (IsFaultOfValue (Wanted.component Component.action) d) (λ x. Some x)
    (action_by (form_by_key action_rows d) d)
    (by_action (form_by_key action_rows d) d (action_told d)))

-- ---- conditions

test_tells : (d : Data) → Tells (Wanted.word (word.Equals ∷ word.Differs ∷ word.Matches ∷ word.MatchesNot ∷ [])) d (test_at d)
unfolding test_at
test_tells d = words_tell (word.Equals ∷ word.Differs ∷ word.Matches ∷ word.MatchesNot ∷ []) d _ λ t.
    or_word (is_word word.Equals t) _ tests.Equals _
    (or_word (is_word word.Differs t) _ tests.NotEquals _
    (or_word (is_word word.Matches t) _ tests.Match _
    (or_word (is_word word.MatchesNot t) false tests.NotMatch (Err (here fault.WrongShape)) refl)))

condition_tells : (d : Data) → Tells (Wanted.component Component.condition) d (condition_at d)
unfolding condition_at key_text
condition_tells d =
    component_told Component.condition d condition_layout _ refl
    (object_tells condition_layout d _ refl
    (field name_at _ (λ e below. name_tells e) λ lhs.
    field test_at _ (λ e below. test_tells e) λ op.
    field text_at _ (λ e below. text_tells e) λ rhs.
    field span_at _ (λ e below. span_tells e) λ span. done))

-- ---- alternatives

-- reading a list of attributes tells one of its faults, the first where keys are in order, or it has none
pub attributes_tell : (d : Data) → Tells (list_of_component Component.attribute) d (list_at (λ i. attribute_at) d)
attributes_tell d = list_tells (Wanted.component Component.attribute) d attribute_at λ e below. attribute_tells e

placed_tells : (rule : List ℕ) (place : ℕ) (d : Data)
    → Tells (Wanted.component Component.alternative) d (alternative_at_place rule place d)
unfolding alternative_at_place key_text
placed_tells rule place d =
    component_told Component.alternative d alternative_layout _ refl
    (object_tells alternative_layout d _ refl
    (field action_at _ (λ e below. action_tells e) λ action.
    field (list_at (λ i. attribute_at)) _ (λ e below. attributes_tell e) λ attributes.
    field (optional condition_at) _
    (λ e below. optional_tells (Wanted.component Component.condition) e condition_at (condition_tells e)) λ condition.
    field (list_at (λ i. symbol_at)) _ (λ e below. symbols_tell e) λ expr.
    field span_at _ (λ e below. span_tells e) λ span. done))

by_place : (rule : List ℕ) (i : ℕ) (d : Data) (b : Bool) → nat_lt i (2 ^ 32) ≡ b
    → TellsOf (HasKeysInOrder d) (AlternativeFault (Wanted.component Component.alternative) i d)
    (cond b (Ok i) (Err (here fault.WrongShape)) >>= λ place. alternative_at_place rule place d)
by_place rule i d true e =
    tells_same (HasKeysInOrder d) (IsFaultOfValue (Wanted.component Component.alternative) d)
    (AlternativeFault (Wanted.component Component.alternative) i d)
    (alternative_at_place rule i d) (λ f h. inl (ltb-true i (2 ^ 32) e, h)) from (placed_tells rule i d)
  where
    from : (f : Fault) → AlternativeFault (Wanted.component Component.alternative) i d f
        → IsFaultOfValue (Wanted.component Component.alternative) d f
    from f (inl h) = h.1
    from f (inr h) = absurd (omega (arith, h.0, ltb-true i (2 ^ 32) e))
by_place rule i d false e = (inr (ltb-false i (2 ^ 32) e, refl), λ order g h. by g h)
  where
    by : (g : Fault) → AlternativeFault (Wanted.component Component.alternative) i d g → IsNotBefore (here fault.WrongShape) g
    by g (inl h) = absurd (omega (arith, h.0, ltb-false i (2 ^ 32) e))
    by g (inr h) = inl h.1

alternative_tells : (rule : List ℕ) (i : ℕ) (d : Data)
    → TellsOf (HasKeysInOrder d) (AlternativeFault (Wanted.component Component.alternative) i d) (alternative_at rule i d)
unfolding alternative_at
alternative_tells rule i d = by_place rule i d (nat_lt i (2 ^ 32)) refl

-- reading a rule's list of alternatives tells one of its faults, the first where keys are in order, or it has none
pub alternatives_of_rule : (rule : List ℕ) (d : Data)
    → Tells (Wanted.alternatives (Wanted.component Component.alternative)) d (alternatives_at rule d)
alternatives_of_rule rule d =
    alternatives_tell (Wanted.component Component.alternative) d (alternative_at rule) λ i e below. alternative_tells rule i e
