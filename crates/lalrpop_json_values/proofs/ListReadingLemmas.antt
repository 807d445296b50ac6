-- Reading the values of a list in turn, for the loops over lists.
use Rattle.std.proofs.Common.{◌≡◌, ℕ, ◌+◌, ◌<◌, ◌≤◌, List, [], ◌∷◌, ◌++◌, length, get_or, drop, Result, Ok}
use Rattle.std.proofs.Common.{Err, refl, ap, sym, ◌∙◌, append_assoc, append-nil, add-one, drop-cons}
use Rattle.std.proofs.Math.ListN.{drop_of_length-le}
use Rattle.serde_json.specs.Data.{Data}
use Rattle.lalrpop_json_document.specs.DocumentViews.{view, items_view}
use Rattle.lalrpop_json_document.specs.declared.value.JsonValue.{JsonValue}
use Rattle.lalrpop_json_values.specs.declared.fault.Fault.{Fault}
use Rattle.lalrpop_json_values.specs.declared.fault.Step.TheVariants.{Index}
use Rattle.lalrpop_json_values.specs.declared.fault.ReadError.{ReadError}
use Rattle.lalrpop_json_values.specs.declared.fault.ReadError.TheVariants.{Memory, Shape}
use Rattle.lalrpop_json_values.specs.Gives.{◌>>=◌, within, Fails}
use Rattle.lalrpop_json_values.specs.Lists.{with_front, with_first, list_from}

front_none : {A : Type 0} (read : Result (List A) Fault) → with_front [] read ≡ read
front_none (Ok xs) = refl
front_none (Err e) = refl

front_more : {A : Type 0} (front : List A) (x : A) (read : Result (List A) Fault)
    → with_front front (with_first x read) ≡ with_front (front ++ x ∷ []) read
front_more front x (Ok xs) = ap Ok (sym (append_assoc front (x ∷ []) xs))
front_more front x (Err e) = refl

module _ {A : Type 0} (read : ℕ → Data → Result A Fault) (vs : List JsonValue) where
  -- what is still to be read
  abbrev pub rest_of : ℕ → Result (List A) Fault
  rest_of i = list_from read i (items_view (drop i vs))

  -- where a loop stands: what was read, and what is still to be read
  abbrev pub IsAt : List A → ℕ → Type 0
  IsAt front i = with_front front (rest_of i) ≡ rest_of 0

  pub starts : IsAt [] 0
  starts = front_none (rest_of 0)

  opened : (i : ℕ) (v : JsonValue) → i < length vs
      → rest_of i ≡ (within (Index i) (read i (view (get_or vs i v))) >>= λ x. with_first x (rest_of (i + 1)))
  opened i v h = simp (add-one, drop-cons vs i v h) refl

  pub goes_on : (front : List A) (i : ℕ) (v : JsonValue) (x : A) → i < length vs
      → within (Index i) (read i (view (get_or vs i v))) ≡ Ok x → IsAt front i → IsAt (front ++ x ∷ []) (i + 1)
  goes_on front i v x h e at =
      let step : rest_of i ≡ with_first x (rest_of (i + 1)) = opened i v h ∙ rw e refl in
      sym (front_more front x (rest_of (i + 1))) ∙ ap (with_front front) (sym step) ∙ at

  pub stops : (front : List A) (i : ℕ) (v : JsonValue) (e : ReadError) → i < length vs
      → Fails e (within (Index i) (read i (view (get_or vs i v)))) → IsAt front i
      → Fails e (rest_of 0)
  stops front i v Memory h fails at = tt
  stops front i v (Shape path kind) h fails at =
      let step : rest_of i ≡ Err (record { path = path; kind = kind }) = opened i v h ∙ rw fails refl in
      sym at ∙ rw step refl

  pub ends : (front : List A) (i : ℕ) → length vs ≤ i → IsAt front i → rest_of 0 ≡ Ok front
  ends front i h at = sym at ∙ rw (drop_of_length-le vs h) (ap Ok (append-nil front))

pub ruleset lists = (starts, ends)
