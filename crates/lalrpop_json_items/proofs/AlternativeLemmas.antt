-- Alternatives: what is read is spelled so, and what is spelled so is read; for the laws of grammars.
use Rattle.std.proofs.Common.{◌≡◌, ℕ, ◌^◌, ◌<◌, List, [], ◌∷◌, Option, Some, None, Ok, Err, Bool, true, false, cond}
use Rattle.std.proofs.Common.{nat_lt, refl, ap}
use borrow.Author.Tests.{ltb-true, lt-ltb}
use Rattle.serde_json.specs.Data.{Data, null, boolean, number, string, array, object}
use Rattle.lalrpop_json_values.specs.declared.fault.FaultKind.TheVariants as fault
use Rattle.lalrpop_json_values.specs.declared.fault.Step.TheVariants as step
use Rattle.lalrpop_json_values.specs.declared.form.Form.{Form}
use Rattle.lalrpop_json_values.specs.declared.form.Form.TheVariants as form
use Rattle.lalrpop_json_values.specs.declared.key.Key.TheVariants as key
use Rattle.lalrpop_json_values.specs.declared.word.Word.TheVariants as word
use Rattle.lalrpop_json_values.specs.Forms.{form_by_key}
use Rattle.lalrpop_json_values.specs.Gives.{here}
use Rattle.lalrpop_json_values.specs.Key.{key_text}
use Rattle.lalrpop_json_values.specs.Lists.{list_at}
use Rattle.lalrpop_json_values.specs.Objects.{field_at, keys_at}
use Rattle.lalrpop_json_values.specs.Scalars.{as_some, is_word, name_at, optional, span_at, text_at}
use Rattle.lalrpop_json_values.specs.Spelled.{EachFrom, IfSome, list_json, option_json}
use Rattle.lalrpop_json_values.specs.Word.{word_text}
use Rattle.lalrpop_json_values.proofs.ListLawLemmas.{list_takes, list_again}
use Rattle.lalrpop_json_values.proofs.ScalarLemmas.{name_takes, name_again, optional_takes, optional_again, span_takes, span_again}
use Rattle.lalrpop_json_values.proofs.ScalarLemmas.{text_takes, text_again, word_is}
use Rattle.lalrpop_json_values.proofs.StepLemmas.{bind_ok, part, guard_ok, ok_same, object_ok}
use Rattle.lalrpop_grammar.specs.declared.alternative.ActionKind.{ActionKind}
use Rattle.lalrpop_grammar.specs.declared.alternative.ActionKind.TheVariants as actions
use Rattle.lalrpop_grammar.specs.declared.alternative.Alternative.{Alternative}
use Rattle.lalrpop_grammar.specs.declared.condition.Condition.{Condition}
use Rattle.lalrpop_grammar.specs.declared.condition.ConditionOp.{ConditionOp}
use Rattle.lalrpop_grammar.specs.declared.condition.ConditionOp.TheVariants as tests
use Rattle.lalrpop_json_symbols.specs.Attributes.{attribute_at}
use Rattle.lalrpop_json_symbols.specs.Symbols.{symbol_at}
use Rattle.lalrpop_json_symbols.proofs.AttributeLemmas.{attributes_take, attributes_again}
use Rattle.lalrpop_json_symbols.proofs.SymbolLemmas.{symbols_take, symbols_again}
use Rattle.lalrpop_json_items.specs.Alternatives.{action_at, action_by, action_rows, alternative_at, alternatives_at, condition_at}
use Rattle.lalrpop_json_items.specs.Alternatives.{fallible_at, place_at, alternative_at_place, test_at, user_at, written_origin}
use Rattle.lalrpop_json_items.specs.Readable.{IsReadableAction, IsReadableAlternative, IsReadableCondition}
use Rattle.lalrpop_json_items.specs.Spelling.{action_json, alternative_json, condition_json, test_json}

-- ---- actions

abbrev SpelledAction : Data → ActionKind → Type 0
SpelledAction d a = (d ≡ action_json (Some a)) × IsReadableAction (Some a)

user_takes : (d : Data) (x : ActionKind) → user_at d ≡ Ok x → SpelledAction d x
unfolding user_at field_at key_text
user_takes = object_ok (key.User ∷ []) _ SpelledAction λ fields x e.
    part (step.Key key.User) (text_at fields.0) _ x e λ text texts e.
    let texts_is = text_takes fields.0 text texts in
    rw (← ok_same (actions.User text) x e) (rw (texts_is) refl, IsReadableAction.user text refl)

fallible_takes : (d : Data) (x : ActionKind) → fallible_at d ≡ Ok x → SpelledAction d x
unfolding fallible_at field_at key_text
fallible_takes = object_ok (key.Fallible ∷ []) _ SpelledAction λ fields x e.
    part (step.Key key.Fallible) (text_at fields.0) _ x e λ text texts e.
    let texts_is = text_takes fields.0 text texts in
    rw (← ok_same (actions.Fallible text) x e) (rw (texts_is) refl, IsReadableAction.fallible text refl)

by_told : (f : Option Form) (d : Data) (a : ActionKind) → action_by f d ≡ Ok a → SpelledAction d a
by_told (Some form.Fallible) d a e = fallible_takes d a e
by_told (Some form.User) d a e = user_takes d a e
by_told _ d a e = absurd (cc)

some_takes : (f : Option Form) (d : Data) (action : Option ActionKind) → as_some (action_by f d) ≡ Ok action
    → (d ≡ action_json action) × IsReadableAction action
some_takes f d action e =
    let got = bind_ok (action_by f d) (λ x. Ok (Some x)) action e in
    rw (← ok_same (Some got.0) action got.2) (by_told f d got.0 got.1)

action_takes : (d : Data) (action : Option ActionKind) → action_at d ≡ Ok action → (d ≡ action_json action)
    × IsReadableAction action
unfolding action_at
action_takes null action e = rw (← ok_same None action e) (refl, IsReadableAction.absent refl)
action_takes (boolean b) action e = some_takes (form_by_key action_rows (boolean b)) (boolean b) action e
action_takes (number n) action e = some_takes (form_by_key action_rows (number n)) (number n) action e
action_takes (string t) action e = some_takes (form_by_key action_rows (string t)) (string t) action e
action_takes (array ds) action e = some_takes (form_by_key action_rows (array ds)) (array ds) action e
action_takes (object ms) action e = some_takes (form_by_key action_rows (object ms)) (object ms) action e

action_again : (action : Option ActionKind) → IsReadableAction action → action_at (action_json action) ≡ Ok action
unfolding action_at user_at fallible_at keys_at field_at key_text text_at
action_again action (IsReadableAction.absent e) = rw e refl
action_again action (IsReadableAction.user text e) = rw e refl
action_again action (IsReadableAction.fallible text e) = rw e refl

-- ---- conditions

by_sign : (a b c f : Bool) (t : List ℕ) (op : ConditionOp) → is_word word.Equals t ≡ a → is_word word.Differs t ≡ b
    → is_word word.Matches t ≡ c → is_word word.MatchesNot t ≡ f
    → cond a (Ok tests.Equals)
    (cond b (Ok tests.NotEquals) (cond c (Ok tests.Match) (cond f (Ok tests.NotMatch) (Err (here fault.WrongShape))))) ≡ Ok op
    → string t ≡ test_json op
by_sign true b c f t op equals differs matches misses e = rw (← ok_same tests.Equals op e) (word_is word.Equals t equals)
by_sign false true c f t op equals differs matches misses e = rw (← ok_same tests.NotEquals op e) (word_is word.Differs t differs)
by_sign false false true f t op equals differs matches misses e = rw (← ok_same tests.Match op e) (word_is word.Matches t matches)
by_sign false false false true t op equals differs matches misses e =
    rw (← ok_same tests.NotMatch op e) (word_is word.MatchesNot t misses)
by_sign false false false false t op equals differs matches misses e = absurd (cc)

test_takes : (d : Data) (op : ConditionOp) → test_at d ≡ Ok op → d ≡ test_json op
unfolding test_at
test_takes null op e = absurd (cc)
test_takes (boolean b) op e = absurd (cc)
test_takes (number n) op e = absurd (cc)
test_takes (string t) op e =
    by_sign (is_word word.Equals t) (is_word word.Differs t) (is_word word.Matches t) (is_word word.MatchesNot t) t op refl refl refl refl e
test_takes (array ds) op e = absurd (cc)
test_takes (object ms) op e = absurd (cc)

test_again : (op : ConditionOp) → test_at (test_json op) ≡ Ok op
unfolding test_at word_text
test_again tests.Equals = refl
test_again tests.NotEquals = refl
test_again tests.Match = refl
test_again tests.NotMatch = refl

abbrev SpelledCondition : Data → Condition → Type 0
SpelledCondition d c = (d ≡ condition_json c) × IsReadableCondition c

condition_takes : (d : Data) (x : Condition) → condition_at d ≡ Ok x → SpelledCondition d x
unfolding condition_at field_at key_text
condition_takes = object_ok (key.Lhs ∷ key.Op ∷ key.Rhs ∷ key.Span ∷ []) _ SpelledCondition λ fields x e.
    part (step.Key key.Lhs) (name_at fields.0) _ x e λ lhs named e.
    part (step.Key key.Op) (test_at fields.1.0) _ x e λ op sign e.
    part (step.Key key.Rhs) (text_at fields.1.1.0) _ x e λ rhs texts e.
    part (step.Key key.Span) (span_at fields.1.1.1.0) _ x e λ span spanned e.
    let named_is = name_takes fields.0 lhs named in
    let sign_is = test_takes fields.1.0 op sign in
    let texts_is = text_takes fields.1.1.0 rhs texts in
    let spanned_is = span_takes fields.1.1.1.0 span spanned in
    rw (← ok_same (record { span = span; lhs = record { 0 = lhs }; rhs = rhs; op = op }) x e)
    (rw (named_is.0, sign_is, texts_is, spanned_is.0) refl, record { lhs = named_is.1; span = spanned_is.1 })

condition_again : (c : Condition) → IsReadableCondition c → condition_at (condition_json c) ≡ Ok c
unfolding condition_at keys_at field_at key_text
condition_again c is = rw (name_again c.lhs.0 is.lhs, test_again c.op, text_again c.rhs, span_again c.span is.span) refl

conditions_take : (d : Data) (o : Option Condition) → optional condition_at d ≡ Ok o → (d ≡ option_json condition_json o)
    × IfSome IsReadableCondition o
conditions_take = optional_takes condition_at condition_json IsReadableCondition condition_takes

conditions_again : (o : Option Condition) → IfSome IsReadableCondition o → optional condition_at (option_json condition_json o) ≡ Ok o
conditions_again = optional_again condition_at condition_json IsReadableCondition condition_again (λ c is. refl)

-- ---- alternatives

abbrev Placed : List ℕ → ℕ → Data → Alternative → Type 0
Placed rule place d a = (d ≡ alternative_json a) × (place < 2 ^ 32 → IsReadableAlternative rule place a)

placed_takes : (rule : List ℕ) (place : ℕ) (d : Data) (x : Alternative) → alternative_at_place rule place d ≡ Ok x
    → Placed rule place d x
unfolding alternative_at_place field_at key_text
placed_takes rule place =
    object_ok (key.Action ∷ key.Attributes ∷ key.Condition ∷ key.Expr ∷ key.Span ∷ []) _ (Placed rule place) λ fields x e.
    part (step.Key key.Action) (action_at fields.0) _ x e λ action acts e.
    part (step.Key key.Attributes) (list_at (λ _. attribute_at) fields.1.0) _ x e λ attributes attributed e.
    part (step.Key key.Condition) (optional condition_at fields.1.1.0) _ x e λ condition conditioned e.
    part (step.Key key.Expr) (list_at (λ _. symbol_at) fields.1.1.1.0) _ x e λ expr symbols e.
    part (step.Key key.Span) (span_at fields.1.1.1.1.0) _ x e λ span spanned e.
    let acts_is = action_takes fields.0 action acts in
    let attributed_is = attributes_take fields.1.0 attributes attributed in
    let conditioned_is = conditions_take fields.1.1.0 condition conditioned in
    let symbols_is = symbols_take fields.1.1.1.0 expr symbols in
    let spanned_is = span_takes fields.1.1.1.1.0 span spanned in
    rw (← ok_same (record {
      span = span;
      expr = expr;
      condition = condition;
      action = action;
      attributes = attributes;
      origin = written_origin rule place;
    }) x e) (
      rw (acts_is.0, attributed_is.0, conditioned_is.0, symbols_is.0, spanned_is.0) refl,
      λ limit. record {
        span = spanned_is.1;
        expr = symbols_is.1;
        condition = conditioned_is.1;
        action = acts_is.1;
        attributes = attributed_is.1;
        origin = refl;
        limit = limit;
      },
    )

in_place : (rule : List ℕ) (i place : ℕ) (d : Data) (a : Alternative) → (nat_lt i (2 ^ 32) ≡ true) × (i ≡ place)
    → Placed rule place d a
    → (d ≡ alternative_json a) × IsReadableAlternative rule i a
in_place rule i place d a limit placed = rw limit.1 (placed.0, placed.1 (ltb-true place (2 ^ 32) (rw (← limit.1) limit.0)))

alternative_takes : (rule : List ℕ) (i : ℕ) (d : Data) (a : Alternative) → alternative_at rule i d ≡ Ok a
    → (d ≡ alternative_json a) × IsReadableAlternative rule i a
unfolding alternative_at
alternative_takes rule i d a e =
    let place = bind_ok (place_at i) (λ place. alternative_at_place rule place d) a e in
    in_place rule i place.0 d a (guard_ok (nat_lt i (2 ^ 32)) _ i place.0 place.1) (placed_takes rule place.0 d a place.2)

remade : (rule : List ℕ) (i : ℕ) (a : Alternative) → a.origin ≡ written_origin rule i
    → ◌≡◌ {A = Alternative}
    (record {
      span = a.span;
      expr = a.expr;
      condition = a.condition;
      action = a.action;
      attributes = a.attributes;
      origin = written_origin rule i;
    }) a
remade rule i a e = rw (← e) refl

alternative_again : (rule : List ℕ) (i : ℕ) (a : Alternative) → IsReadableAlternative rule i a
    → alternative_at rule i (alternative_json a) ≡ Ok a
unfolding alternative_at alternative_at_place keys_at field_at key_text
alternative_again rule i a is =
    let below : nat_lt i (2 ^ 32) ≡ true = lt-ltb i (2 ^ 32) is.limit in
    rw (
      below,
      action_again a.action is.action,
      attributes_again a.attributes is.attributes,
      conditions_again a.condition is.condition,
      symbols_again a.expr is.expr,
      span_again a.span is.span,
    )
    (ap Ok (remade rule i a is.origin))

-- a value that is read as a rule's alternatives is their JSON, and each has a spelling in its place
pub alternatives_take : (rule : List ℕ) (d : Data) (as_ : List Alternative) → alternatives_at rule d ≡ Ok as_
    → (d ≡ list_json alternative_json as_) × EachFrom (IsReadableAlternative rule) 0 as_
alternatives_take rule = list_takes (alternative_at rule) alternative_json (IsReadableAlternative rule) (alternative_takes rule)

-- the JSON of a rule's alternatives that have a spelling is read as those alternatives
pub alternatives_again : (rule : List ℕ) (as_ : List Alternative) → EachFrom (IsReadableAlternative rule) 0 as_
    → alternatives_at rule (list_json alternative_json as_) ≡ Ok as_
alternatives_again rule = list_again (alternative_at rule) alternative_json (IsReadableAlternative rule) (alternative_again rule)
