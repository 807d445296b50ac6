-- Computed examples of faults of JSON values, of their order, and of what is none.
use Rattle.std.proofs.Common.{◌≡◌, ℕ, ◌^◌, List, [], ◌∷◌, Option, Some, None, Err, true, false, refl, ap}
use Rattle.std.proofs.Common.{sym, ◌∙◌, inl, inr, ◌⊎◌, arith, subst}
use Rattle.std.specs.Prelude.{codes}
use Rattle.serde_json.specs.Data.{Data, null, string, array, object, unsigned, no_items, item, Members}
use Rattle.serde_json.specs.Data.{no_members, member}
use Rattle.serde_json.specs.Find.{get}
use Rattle.lalrpop_json_values.specs.declared.fault.Fault.{Fault}
use Rattle.lalrpop_json_values.specs.declared.fault.FaultKind.TheVariants as fault
use Rattle.lalrpop_json_values.specs.declared.fault.Step.TheVariants as step
use Rattle.lalrpop_json_values.specs.declared.key.Key.{Key}
use Rattle.lalrpop_json_values.specs.declared.key.Key.TheVariants as key
use Rattle.lalrpop_json_values.specs.declared.word.Word.TheVariants as word
use Rattle.lalrpop_json_values.specs.Gives.{here}
use Rattle.lalrpop_json_values.specs.Key.{key_text}
use Rattle.lalrpop_json_symbols.specs.Attributes.{attribute_at, attribute_layer_at}
use Rattle.lalrpop_json_items.specs.Matches.{catch_all_at, match_entry_at}
use Rattle.lalrpop_json_values.specs.Nested.{nested_reader}
use Rattle.lalrpop_json_values.specs.Objects.{keys_at, is_listed, names}
use Rattle.lalrpop_json_values.specs.Spelled.{number_json, object_of, word_json}
use Rattle.lalrpop_json_values.specs.Word.{word_text}
use Rattle.lalrpop_json_grammar.specs.Faults.{IsFaultIn, IsFaultOfValue, IsAmong, inside}
use Rattle.lalrpop_json_grammar.specs.Format.{attribute_layout, catch_all_layout, group_layout, id_layout, nominal_layout, rule_layout}
use Rattle.lalrpop_json_grammar.specs.Order.{AreRising, FaultComesBefore}
use Rattle.lalrpop_json_grammar.specs.Telling.{all_keys, told_form}
use Rattle.lalrpop_json_grammar.specs.Wanted.{Layout, Component, Wanted}
use Rattle.lalrpop_json_grammar.proofs.OrderLemmas.{are_in_order}
use Rattle.lalrpop_json_grammar.proofs.ScalarFaultLemmas.{null_has_none}

-- the table's keys are in byte order
keys_in_order : are_in_order all_keys ≡ true
unfolding key_text
keys_in_order = refl

-- ---- an attribute without a span, whose name is none: `{"arg":null,"id":"1"}`

abbrev attribute : Data
attribute = object_of ((key.Arg, null) ∷ (key.Id, string (codes "1")) ∷ [])

abbrev no_span : Fault
no_span = here (fault.MissingKey key.Span)

abbrev no_name : Fault
no_name = inside (step.Key key.Id) (here fault.BadName)

span_is_missing : IsFaultOfValue (Wanted.component Component.attribute) attribute no_span
unfolding key_text
span_is_missing =
    IsFaultOfValue.in_form _ attribute_layout refl refl (IsFaultIn.missing key.Span (inr (inr (inl refl))) refl refl)

name_is_bad : IsFaultOfValue (Wanted.component Component.attribute) attribute no_name
unfolding key_text
name_is_bad =
    IsFaultOfValue.in_form _ attribute_layout refl refl
    (IsFaultIn.at_key key.Id Wanted.name (string (codes "1")) (here fault.BadName) (inr (inl refl)) refl
    (IsFaultOfValue.bad_name (codes "1") refl refl refl) refl)

span_first : FaultComesBefore no_span no_name
span_first = refl

abbrev OneOfBoth : Fault → Type 0
OneOfBoth f = (f ≡ no_span) ⊎ (f ≡ no_name)

name_only : (g : Fault) → IsFaultOfValue Wanted.name (string (codes "1")) g → g ≡ here fault.BadName
name_only g (IsFaultOfValue.wrong_shape a b) = absurd (cc)
name_only g (IsFaultOfValue.bad_name t e bad is) = is

-- what stands at its keys, key by key
at_field : (f : Fault) (k : Key) (w : Wanted) (e : Data) (g : Fault) → IsAmong attribute_layout (k, w)
    → get (key_text k) attribute ≡ Some e → IsFaultOfValue w e g → f ≡ inside (step.Key k) g → OneOfBoth f
unfolding key_text
at_field f k w e g (inl s) found h is =
    let at : get (key_text key.Arg) attribute ≡ Some e = subst (λ x. get (key_text x.0) attribute ≡ Some e) s found in
    let same : null ≡ e = cc in
    absurd (null_has_none (Wanted.component Component.argument) null tt refl g (subst (λ x. IsFaultOfValue x.1 null g) s
    (subst (λ x. IsFaultOfValue w x g) (sym same) h)))
at_field f k w e g (inr (inl s)) found h is =
    let at : get (key_text key.Id) attribute ≡ Some e = subst (λ x. get (key_text x.0) attribute ≡ Some e) s found in
    let same : string (codes "1") ≡ e = cc in
    let name : g ≡ here fault.BadName = name_only g (subst (λ x. IsFaultOfValue x.1 (string (codes "1")) g) s
    (subst (λ x. IsFaultOfValue w x g) (sym same) h)) in
    inr (is ∙ ap (λ x. inside (step.Key x.0) g) s ∙ ap (inside (step.Key key.Id)) name)
at_field f k w e g (inr (inr (inl s))) found h is =
    let at : get (key_text key.Span) attribute ≡ Some e = subst (λ x. get (key_text x.0) attribute ≡ Some e) s found in absurd (cc)
at_field f k w e g (inr (inr (inr s))) found h is = absurd s

missing_field : (f : Fault) (k : Key) → IsAmong (key.Arg ∷ key.Id ∷ key.Span ∷ []) k → get (key_text k) attribute ≡ None
    → f ≡ here (fault.MissingKey k) → OneOfBoth f
unfolding key_text
missing_field f k (inl s) none is =
    let at : get (key_text key.Arg) attribute ≡ None = subst (λ x. get (key_text x) attribute ≡ None) s none in absurd (cc)
missing_field f k (inr (inl s)) none is =
    let at : get (key_text key.Id) attribute ≡ None = subst (λ x. get (key_text x) attribute ≡ None) s none in absurd (cc)
missing_field f k (inr (inr (inl s))) none is = inl (is ∙ ap (λ x. here (fault.MissingKey x)) s)
missing_field f k (inr (inr (inr s))) none is = absurd s

unknown_name : (f : Fault) (l : List ℕ) → IsAmong (key_text key.Arg ∷ key_text key.Id ∷ []) l
    → is_listed (key.Arg ∷ key.Id ∷ key.Span ∷ []) l ≡ false → OneOfBoth f
unfolding key_text
unknown_name f l (inl s) none =
    let listed : is_listed (key.Arg ∷ key.Id ∷ key.Span ∷ []) l
    ≡ true = ap (is_listed (key.Arg ∷ key.Id ∷ key.Span ∷ [])) s in absurd (cc)
unknown_name f l (inr (inl s)) none =
    let listed : is_listed (key.Arg ∷ key.Id ∷ key.Span ∷ []) l
    ≡ true = ap (is_listed (key.Arg ∷ key.Id ∷ key.Span ∷ [])) s in absurd (cc)
unknown_name f l (inr (inr s)) none = absurd s

members_same : (ms ns : Members) → object ms ≡ object ns → ms ≡ ns
members_same ms ns e = cc

in_layout : (f : Fault) → IsFaultIn attribute_layout attribute f → OneOfBoth f
unfolding key_text
in_layout f (IsFaultIn.missing k s none e) = missing_field f k s none e
in_layout f (IsFaultIn.unknown ms l same s none e) =
    unknown_name f l (subst (λ x. IsAmong (names x) l) (sym (members_same _ ms same)) s) none
in_layout f (IsFaultIn.disordered ms same wild e) =
    absurd (wild (subst (λ x. AreRising (names x)) (members_same _ ms same) ((refl, tt), (tt, tt))))
in_layout f (IsFaultIn.at_key k w e g s found h is) = at_field f k w e g s found h is

-- it has no other fault
both_faults : (f : Fault) → IsFaultOfValue (Wanted.component Component.attribute) attribute f → OneOfBoth f
unfolding key_text
both_faults f (IsFaultOfValue.wrong_shape a b) = absurd (cc)
both_faults f (IsFaultOfValue.in_form ms form is told h) =
    let same_option : ◌≡◌ {A = Option Layout} (Some form) (Some attribute_layout) = sym told in
    let same : form ≡ attribute_layout = cc in
    in_layout f (subst (λ x. IsFaultIn x attribute f) same h)

-- and reading tells the first
reading_tells : attribute_at attribute ≡ Err no_span
unfolding attribute_at nested_reader attribute_layer_at keys_at key_text
reading_tells = refl

-- a wrong path, and a wrong kind
wrong_path : IsFaultOfValue (Wanted.component Component.attribute) attribute (inside (step.Key key.Arg) (here fault.BadName)) → ⊥
wrong_path h = by (both_faults (inside (step.Key key.Arg) (here fault.BadName)) h)
  where
    by : OneOfBoth (inside (step.Key key.Arg) (here fault.BadName)) → ⊥
    by (inl e) = let paths = ap (λ f. f.path) e in absurd (cc)
    by (inr e) = let paths = ap (λ f. f.path) e in absurd (cc)

wrong_kind : IsFaultOfValue (Wanted.component Component.attribute) attribute (inside (step.Key key.Id) (here fault.WrongShape)) → ⊥
wrong_kind h = by (both_faults (inside (step.Key key.Id) (here fault.WrongShape)) h)
  where
    by : OneOfBoth (inside (step.Key key.Id) (here fault.WrongShape)) → ⊥
    by (inl e) = let kinds = ap (λ f. f.kind) e in absurd (cc)
    by (inr e) = let kinds = ap (λ f. f.kind) e in absurd (cc)

-- ---- a span with a number too large, whose ends are in the wrong order: `[4294967296,1]`

abbrev span : Data
span = array (item (number_json (2 ^ 32)) (item (number_json 1) no_items))

low_is_bad : IsFaultOfValue Wanted.span span (inside (step.Index 0) (here fault.BadNumber))
low_is_bad =
    IsFaultOfValue.first_end (number_json (2 ^ 32)) (number_json 1) (here fault.BadNumber) refl
    (IsFaultOfValue.bad_number (unsigned (2 ^ 32)) refl refl refl) refl

order_is_bad : IsFaultOfValue Wanted.span span (here fault.BadNumber)
order_is_bad = IsFaultOfValue.wrong_order (2 ^ 32) 1 refl (omega arith) refl

-- the number first, though it stands further in
number_first : FaultComesBefore (inside (step.Index 0) (here fault.BadNumber)) (here fault.BadNumber)
number_first = refl

-- ---- a group of symbols with a key too many, in which a name is none:
-- `{"expr":[{"kind":"id","name":"","span":[0,0]}],"kind":"group","names":[],"span":[0,0]}`

abbrev nowhere : Data
nowhere = array (item (number_json 0) (item (number_json 0) no_items))

abbrev no_name_symbol : Data
no_name_symbol = object_of ((key.Kind, word_json word.Id) ∷ (key.Name, string []) ∷ (key.Span, nowhere) ∷ [])

abbrev group_members : Members
group_members =
    member (key_text key.Expr) (array (item no_name_symbol no_items)) (member (key_text key.Kind) (word_json word.Group)
    (member (codes "names") (array no_items) (member (key_text key.Span) nowhere no_members)))

too_many : Fault
too_many = here (fault.UnknownKey (codes "names"))

deep_name : Fault
deep_name = inside (step.Key key.Expr) (inside (step.Index 0) (inside (step.Key key.Name) (here fault.BadName)))

key_is_unknown : IsFaultOfValue (Wanted.component Component.symbol) (object group_members) too_many
unfolding key_text word_text too_many
key_is_unknown =
    IsFaultOfValue.in_form group_members group_layout refl refl
    (IsFaultIn.unknown group_members (codes "names") refl (inr (inr (inl refl))) refl refl)

name_is_deep : IsFaultOfValue (Wanted.component Component.symbol) (object group_members) deep_name
unfolding key_text word_text deep_name
name_is_deep =
    IsFaultOfValue.in_form group_members group_layout refl refl
    (IsFaultIn.at_key key.Expr (Wanted.list (Wanted.component Component.symbol)) (array (item no_name_symbol no_items)) _ (inl refl) refl
    (IsFaultOfValue.in_list 0 no_name_symbol _ refl
    (IsFaultOfValue.in_form _ id_layout refl refl
    (IsFaultIn.at_key key.Name Wanted.name (string []) (here fault.BadName) (inr (inl refl)) refl
    (IsFaultOfValue.bad_name [] refl refl refl) refl)) refl) refl)

key_first : FaultComesBefore too_many deep_name
unfolding too_many deep_name
key_first = refl

-- the other way round it isn't
name_not_first : FaultComesBefore deep_name too_many → ⊥
unfolding too_many deep_name
name_not_first h = absurd (cc)

-- of two symbols the faults of the first come before those of the second, and of two keys those of the smaller one
items_in_turn : FaultComesBefore (inside (step.Index 2) (here fault.BadName)) (inside (step.Index 10) (here fault.WrongShape))
items_in_turn = refl

keys_in_turn : FaultComesBefore (inside (step.Key key.Args) (here fault.BadName)) (inside (step.Key key.Name) (here fault.WrongShape))
unfolding key_text
keys_in_turn = refl

-- ---- forms

-- by the first key; several forms have `span`, of which the table lists the name first, and rules among items
by_args : told_form Component.type (object_of ((key.Args, null) ∷ (key.Text, null) ∷ [])) ≡ Some nominal_layout
unfolding key_text
by_args = refl

span_of_symbol : told_form Component.symbol (object_of ((key.Span, null) ∷ [])) ≡ Some id_layout
unfolding key_text
span_of_symbol = refl

span_of_item : told_form Component.item (object_of ((key.Span, null) ∷ [])) ≡ Some rule_layout
unfolding key_text
span_of_item = refl

-- by the word at `kind`, and no form by another word, whatever keys there are
by_kind : told_form Component.symbol (object_of ((key.Kind, word_json word.Group) ∷ (key.Name, null) ∷ [])) ≡ Some group_layout
unfolding key_text word_text
by_kind = refl

by_no_kind : told_form Component.symbol (object_of ((key.Kind, string (codes "x")) ∷ (key.Name, null) ∷ [])) ≡ None
unfolding key_text word_text
by_no_kind = refl

-- so nothing else is wrong with what tells no form
only_shape : (f : Fault)
    → IsFaultOfValue (Wanted.component Component.symbol) (object_of ((key.Kind, string (codes "x")) ∷ (key.Name, null) ∷ [])) f
    → f ≡ here fault.WrongShape
unfolding key_text word_text
only_shape f (IsFaultOfValue.wrong_shape a b) = b
only_shape f (IsFaultOfValue.in_form ms form is told h) = absurd (cc)

-- ---- what has no fault

empty_list : (f : Fault) → IsFaultOfValue (Wanted.list (Wanted.component Component.tree)) (array no_items) f → ⊥
empty_list f (IsFaultOfValue.wrong_shape a b) = absurd (cc)
empty_list f (IsFaultOfValue.in_list i e g at h is) = absurd (cc)

null_for_type : (f : Fault) → IsFaultOfValue (Wanted.optional (Wanted.component Component.type)) null f → ⊥
null_for_type = null_has_none (Wanted.component Component.type) null tt refl

-- ---- a key that stands twice, as in no value of a text: a fault, and reading tells it

abbrev twice_members : Members
twice_members = member (key_text key.CatchAll) nowhere (member (key_text key.CatchAll) nowhere no_members)

twice_is_none : AreRising (names twice_members) → ⊥
unfolding key_text
twice_is_none h = let first = h.0.0 in absurd (cc)

twice_is_wrong : IsFaultOfValue (Wanted.component Component.entry) (object twice_members) (here fault.WrongShape)
unfolding key_text
twice_is_wrong =
    IsFaultOfValue.in_form twice_members catch_all_layout refl refl (IsFaultIn.disordered twice_members refl twice_is_none refl)

reading_tells_twice : match_entry_at (object twice_members) ≡ Err (here fault.WrongShape)
unfolding match_entry_at catch_all_at keys_at key_text
reading_tells_twice = refl
