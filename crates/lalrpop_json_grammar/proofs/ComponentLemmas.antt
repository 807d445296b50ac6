-- Which form a value tells, by the table and by the readers, and the faults of a component by its form; for all readers.
use Rattle.std.proofs.Common.{◌≡◌, ℕ, suc, zero, ◌<◌, List, [], ◌∷◌, map, Option, Some, None, Result}
use Rattle.std.proofs.Common.{Bool, true, false}
use Rattle.std.proofs.Common.{refl, ap, sym, ◌∙◌, cond, inl, inr, is_some, subst, arith}
use Rattle.std.specs.Prelude.{◌&&◌, option_and_then}
use Rattle.std.specs.Cmp.Lexicographic.{same_text}
use Rattle.serde_json.specs.Data.{Data, Members, depth}
use Rattle.serde_json.specs.Find.{as_object, as_str, get}
use Rattle.lalrpop_json_values.specs.declared.fault.Fault.{Fault}
use Rattle.lalrpop_json_values.specs.declared.fault.FaultKind.TheVariants as fault
use Rattle.lalrpop_json_values.specs.declared.form.Form.{Form}
use Rattle.lalrpop_json_values.specs.declared.key.Key.{Key}
use Rattle.lalrpop_json_values.specs.declared.key.Key.TheVariants as key
use Rattle.lalrpop_json_values.specs.declared.word.Word.{Word}
use Rattle.lalrpop_json_values.specs.Forms.{form_at, form_by_key, form_by_kind, form_by_word}
use Rattle.lalrpop_json_values.specs.Gives.{here}
use Rattle.lalrpop_json_values.specs.Key.{key_text}
use Rattle.lalrpop_json_values.specs.Scalars.{is_word}
use Rattle.lalrpop_json_values.specs.Word.{word_text}
use Rattle.lalrpop_json_grammar.specs.Faults.{IsFaultIn, IsFaultOfValue}
use Rattle.lalrpop_json_grammar.specs.Order.{HasKeysInOrder}
use Rattle.lalrpop_json_grammar.specs.Telling.{all_keys, told_by_key, told_by_kind, told_by_word, told_form, telling}
use Rattle.lalrpop_json_grammar.specs.Wanted.{Layout, Component, Wanted}
use Rattle.lalrpop_json_grammar.proofs.OrderLemmas.{IsNotBefore}
use Rattle.lalrpop_json_grammar.proofs.FieldLemmas.{Tells, TellsOf, tells_same}
use Rattle.lalrpop_json_grammar.proofs.ObjectLemmas.{FormFault}
use Rattle.lalrpop_grammar_symbols.proofs.BoolLemmas.{and_false}

-- ---- a component by its form

no_form : (o : Option Members) (f : Option Layout) (form : Layout) → f ≡ Some form → (is_some o && is_some f) ≡ false → o ≡ None
no_form None f form told e = refl
no_form (Some ms) None form told e = absurd (cc)
no_form (Some ms) (Some l) form told e = absurd (cc)

module _ (p : Component) (d : Data) where
  -- what is read by the form that the value tells
  pub component_told : {A : Type 0} (form : Layout) (r : Result A Fault) → told_form p d ≡ Some form
      → TellsOf (HasKeysInOrder d) (FormFault form d) r → Tells (Wanted.component p) d r
  component_told form r told h = tells_same (HasKeysInOrder d) (FormFault form d) (IsFaultOfValue (Wanted.component p) d) r to from h
    where
      to : (f : Fault) → FormFault form d f → IsFaultOfValue (Wanted.component p) d f
      to f (inl q) =
          let none : is_some (as_object d) ≡ false = ap (λ o. is_some o) q.0 in
          IsFaultOfValue.wrong_shape (ap (λ b. b && is_some (told_form p d)) none) q.1
      to f (inr q) = IsFaultOfValue.in_form q.0 form q.1 told q.2

      from : (f : Fault) → IsFaultOfValue (Wanted.component p) d f → FormFault form d f
      from f (IsFaultOfValue.wrong_shape a b) = inl (no_form (as_object d) (told_form p d) form told a, b)
      from f (IsFaultOfValue.in_form ms other is other_told q) =
          let same_option : ◌≡◌ {A = Option Layout} (Some other) (Some form) = sym other_told ∙ told in
          let same : other ≡ form = cc in
          inr (ms, is, subst (λ x. IsFaultIn x d f) same q)

  -- a value that tells no form
  pub component_untold : told_form p d ≡ None
      → IsFaultOfValue (Wanted.component p) d (here fault.WrongShape) × (HasKeysInOrder d → (g : Fault)
      → IsFaultOfValue (Wanted.component p) d g → IsNotBefore (here fault.WrongShape) g)
  component_untold none = (
    IsFaultOfValue.wrong_shape (ap (λ o. is_some (as_object d) && is_some o) none ∙ and_false (is_some (as_object d))) refl,
    λ order g q. by g q,
  )
    where
      by : (g : Fault) → IsFaultOfValue (Wanted.component p) d g → IsNotBefore (here fault.WrongShape) g
      by g (IsFaultOfValue.wrong_shape a b) = inl b
      by g (IsFaultOfValue.in_form ms other is told q) = absurd (cc)

-- ---- the form by a key

abbrev LayoutOf : Type 0
LayoutOf = Option Form → Option Layout

abbrev pick : List (Key × Option Layout) → Data → Option Layout
pick [] d = None
pick (r ∷ rs) d = cond (is_some (get (key_text r.0) d)) r.1 (pick rs d)

by_either : (layout : LayoutOf) (b : Bool) (x y : Option Form) (rest : Option Layout) → rest ≡ layout y
    → cond b (layout x) rest ≡ layout (cond b x y)
by_either layout true x y rest e = refl
by_either layout false x y rest e = e

pick_forms : (layout : LayoutOf) → layout None ≡ None → (rows : List (Key × Form)) (d : Data)
    → pick (map (λ r. (r.0, layout (Some r.1))) rows) d ≡ layout (form_by_key rows d)
pick_forms layout none [] d = sym none
pick_forms layout none (r ∷ rs) d =
    by_either layout (is_some (get (key_text r.0) d)) (Some r.1) (form_by_key rs d) _ (pick_forms layout none rs d)

pick_told : (ts : List (Key × Layout)) (d : Data) → pick (map (λ t. (t.0, Some t.1)) ts) d ≡ told_by_key ts d
pick_told [] d = refl
pick_told (t ∷ ts) d = ap (λ o. cond (is_some (get (key_text t.0) d)) (Some t.1) o) (pick_told ts d)

-- the readers' rows name the table's forms
abbrev pub SameRows : LayoutOf → List (Key × Form) → List (Key × Layout) → Type 0
SameRows layout rows ts =
    ◌≡◌ {A = List (Key × Option Layout)} (map (λ r. (r.0, layout (Some r.1))) rows) (map (λ t. (t.0, Some t.1)) ts)

-- where the readers' rows name the table's forms, a value tells the same form by either
pub rows_told : (layout : LayoutOf) → layout None ≡ None → (rows : List (Key × Form)) (ts : List (Key × Layout)) (d : Data)
    → SameRows layout rows ts → told_by_key ts d ≡ layout (form_by_key rows d)
rows_told layout none rows ts d same = sym (pick_told ts d) ∙ ap (λ rs. pick rs d) (sym same) ∙ pick_forms layout none rows d

-- ---- the form by a word

-- each word of the readers tells its form in the table
abbrev pub WordsTell : LayoutOf → List (Word × Layout) → List (Word × Form) → Type 0
WordsTell layout rows [] = Unit {0}
WordsTell layout rows (r ∷ rs) = (told_by_word rows (word_text r.0) ≡ layout (Some r.1)) × WordsTell layout rows rs

-- each word of the table is one of the readers'
abbrev pub WordsKnown : List (Word × Form) → List (Word × Layout) → Type 0
WordsKnown words [] = Unit {0}
WordsKnown words (r ∷ rs) = (is_some (form_by_word words (word_text r.0)) ≡ true) × WordsKnown words rs

word_found : (layout : LayoutOf) (rows : List (Word × Layout)) (words : List (Word × Form)) (t : List ℕ) (f : Form)
    → WordsTell layout rows words → form_by_word words t ≡ Some f
    → told_by_word rows t ≡ layout (Some f)
word_found layout rows [] t f h e = absurd (cc)
word_found layout rows (r ∷ rs) t f h e = by (is_word r.0 t) refl e (word_found layout rows rs t f h.1)
  where
    by : (b : Bool) → is_word r.0 t ≡ b → cond b (Some r.1) (form_by_word rs t) ≡ Some f
        → (form_by_word rs t ≡ Some f → told_by_word rows t ≡ layout (Some f)) → told_by_word rows t ≡ layout (Some f)
    by true is e rest =
        let same : r.1 ≡ f = cc in
        ap (told_by_word rows) (same_text t (word_text r.0) (sym is)) ∙ h.0 ∙ ap (λ x. layout (Some x)) same
    by false is e rest = rest e

word_lost : (words : List (Word × Form)) (rows : List (Word × Layout)) (t : List ℕ) → WordsKnown words rows
    → form_by_word words t ≡ None → told_by_word rows t ≡ None
word_lost words [] t h e = refl
word_lost words (r ∷ rs) t h e = by (is_word r.0 t) refl (word_lost words rs t h.1 e)
  where
    by : (b : Bool) → is_word r.0 t ≡ b → told_by_word rs t ≡ None → cond b (Some r.1) (told_by_word rs t) ≡ None
    by true is rest =
        let known : is_some (form_by_word words t) ≡ true =
        ap (λ x. is_some (form_by_word words x)) (same_text t (word_text r.0) (sym is)) ∙ h.0 in
        let none : is_some (form_by_word words t) ≡ false = ap (λ o. is_some o) e in
        absurd (cc)
    by false is rest = rest

words_told : (layout : LayoutOf) → layout None ≡ None → (words : List (Word × Form)) (rows : List (Word × Layout))
    → WordsTell layout rows words → WordsKnown words rows → (t : List ℕ)
    → told_by_word rows t ≡ layout (form_by_word words t)
words_told layout none words rows tell known t = by (form_by_word words t) refl
  where
    by : (o : Option Form) → form_by_word words t ≡ o → told_by_word rows t ≡ layout o
    by (Some f) e = word_found layout rows words t f tell e
    by None e = word_lost words rows t known e ∙ sym none

-- ---- the form by `kind`

-- The readers' rows leave out `kind`, which all forms have: where it isn't there its row tells nothing.
module _ (layout : LayoutOf) (none : layout None ≡ None) (words : List (Word × Form)) (keyed whole : List (Key × Form))
    (rows : List (Word × Layout)) (tell : WordsTell layout rows words) (known : WordsKnown words rows)
    (same : SameRows layout whole (telling all_keys (map (λ r. r.1) rows)))
    (left : (d : Data) → get (key_text key.Kind) d ≡ None → form_by_key whole d ≡ form_by_key keyed d) where
  by_text : (o : Option (List ℕ)) → option_and_then (told_by_word rows) o ≡ layout (option_and_then (form_by_word words) o)
  by_text None = sym none
  by_text (Some t) = words_told layout none words rows tell known t

  by_kind : (o : Option Data) (d : Data) → get (key_text key.Kind) d ≡ o
      → told_by_kind rows o d ≡ layout (form_by_kind words keyed o d)
  by_kind None d e =
      rows_told layout none whole (telling all_keys (map (λ r. r.1) rows)) d same ∙ ap layout (left d e)
  by_kind (Some e) d is = by_text (as_str e)

  pub kinds_told : (d : Data) → told_by_kind rows (get (key_text key.Kind) d) d ≡ layout (form_at words keyed d)
  unfolding form_at
  kinds_told d = by_kind (get (key_text key.Kind) d) d refl

-- ---- values inside values

to_depth : (P : Data → Type 0) → ((d : Data) → ((e : Data) → depth e < depth d → P e) → P d) → (n : ℕ) (d : Data)
    → depth d < n → P d
to_depth P step zero d h = absurd (omega (arith, h))
to_depth P step (suc n) d h = step d λ e below. to_depth P step n e (omega (arith, h, below))

-- what goes on from all that is less deep to a value holds of all
pub by_depth : (P : Data → Type 0) → ((d : Data) → ((e : Data) → depth e < depth d → P e) → P d) → (d : Data) → P d
by_depth P step d = to_depth P step (suc (depth d)) d (omega arith)
