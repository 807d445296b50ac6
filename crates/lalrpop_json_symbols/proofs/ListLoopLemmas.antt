-- Where the loops stand that read the values of a list, with what the list is read as.
use Rattle.std.proofs.Common.{◌≡◌, ℕ, ◌+◌, ◌<◌, ◌≤◌, List, [], ◌∷◌, ◌++◌, length, get_or, Some, Result, Ok, refl, ◌∙◌, subst}
use Rattle.serde_json.specs.Data.{Data}
use Rattle.serde_json.specs.Find.{as_array}
use Rattle.lalrpop_json_document.specs.DocumentViews.{view, items_view}
use Rattle.lalrpop_json_document.specs.declared.value.JsonValue.{JsonValue}
use Rattle.lalrpop_json_values.specs.declared.fault.Fault.{Fault}
use Rattle.lalrpop_json_values.specs.declared.fault.ReadError.{ReadError}
use Rattle.lalrpop_json_values.specs.declared.fault.Step.TheVariants.{Index}
use Rattle.lalrpop_json_values.specs.Gives.{within, Fails}
use Rattle.lalrpop_json_values.specs.Lists.{list_at}
use Rattle.lalrpop_json_values.proofs.ListReadingLemmas.{rest_of, IsAt, goes_on, stops, ends}

module _ {A : Type 0} (read : ℕ → Data → Result A Fault) (d : Data) (whole vs : List JsonValue)
    (array : Some (items_view whole) ≡ as_array d) (same : vs ≡ whole) where
  list_is : list_at read d ≡ rest_of read vs 0
  unfolding list_at
  list_is = rw (← array, same) refl

  -- a value that isn't read ends the list
  pub list_stops : (front : List A) (i : ℕ) (v : JsonValue) (e : ReadError) → i < length vs → v ≡ get_or vs i v
      → Fails e (within (Index i) (read i (view v))) → IsAt read vs front i → Fails e (list_at read d)
  list_stops front i v e h is fails at =
      let there = subst (λ (x : JsonValue). Fails e (within (Index i) (read i (view x)))) is fails in
      rw list_is (stops read vs front i v e h there at)

  -- what was read is the list, where none is left
  pub list_ends : (front : List A) (i : ℕ) → length vs ≤ i → IsAt read vs front i → list_at read d ≡ Ok front
  list_ends front i h at = list_is ∙ ends read vs front i h at

-- a value that is read comes behind those before
pub list_turns : {A : Type 0} (read : ℕ → Data → Result A Fault) (vs : List JsonValue) (front after : List A) (i : ℕ) (v : JsonValue)
    (x : A) → i < length vs → v ≡ get_or vs i v → within (Index i) (read i (view v)) ≡ Ok x → after ≡ front ++ x ∷ []
    → IsAt read vs front i → IsAt read vs after (i + 1)
list_turns read vs front after i v x h is reads e at =
    let there = subst (λ (w : JsonValue). within (Index i) (read i (view w)) ≡ Ok x) is reads in
    rw e (goes_on read vs front i v x h there at)
