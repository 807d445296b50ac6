-- Tables of keys: each key once, found by its text and then among the keys of that text.
use Rattle.std.specs.Prelude.{ℕ, ◌+◌, ◌≡◌, ◌⊎◌, List, [], ◌∷◌, ◌++◌, map, Option, Some, None, option_map}
use Rattle.std.specs.Prelude.{slice_get, Vec}
use Rattle.std.specs.Prelude.{if◌then◌else◌}
use Rattle.std.specs.Global.{Global}
use Rattle.std.specs.HashMap.{HashMap, get_by_text}
use Rattle.std.specs.Option.{option_map_or}
use Rattle.std.specs.Str.{bytes_eq}
use Rattle.std.specs.declared.hash.FoldHasher.{FoldHasher}
use Rattle.std.specs.declared.hash.BuildHasherDefault.{BuildHasherDefault}
use Rattle.std.specs.declared.string.String.{String}
use Rattle.lalrpop_grammar_symbols.specs.Symbols.{Text, Closed}
use Rattle.lalrpop_grammar_language.specs.Among.{Among}
use Rattle.lalrpop_norm_theory.specs.Keys.{flat_key_text}
use Rattle.lalrpop_grammar_rules.specs.Views.{closed_view}
use Rattle.lalrpop_grammar_rules.specs.declared.closed.closed_symbol.ClosedSymbol.{ClosedSymbol}
use Rattle.lalrpop_norm_keys.specs.declared.key_table.key_table.KeyTable.{KeyTable}

-- none of the list stands twice
abbrev pub HasEachOnce : {A : Type 0} → List A → Type 0
HasEachOnce [] = Unit {0}
HasEachOnce (x ∷ xs) = (Among xs x → ⊥) × HasEachOnce xs

-- where the keys of a text stand, counted from k
abbrev pub places_of_text : Text → ℕ → List Closed → List ℕ
places_of_text t k [] = []
places_of_text t k (x ∷ xs) =
    if bytes_eq t (flat_key_text x) then k ∷ places_of_text t (k + 1) xs else places_of_text t (k + 1) xs

-- what a table keeps of that
abbrev pub KeyPlaces : Type 0
KeyPlaces = HashMap (String Global) (Vec ℕ Global) (BuildHasherDefault FoldHasher)

abbrev pub kept_places : KeyPlaces → Text → List ℕ
kept_places m t = option_map_or (λ places. places.items) (get_by_text m t) []

-- the keys of a table, in order
abbrev pub table_keys : KeyTable → List Closed
table_keys t = map closed_view t.keys

-- each key stands once, and is found by its text
pub record IsKeyIndex (t : KeyTable) : Type 0 where
  pub places : (n : Text) → kept_places t.places n ≡ places_of_text n 0 (table_keys t)
  pub once : HasEachOnce (table_keys t)

-- the place of the key, or none where it isn't there
abbrev pub IsPlaceOfKey : List Closed → Closed → Option ℕ → Type 0
IsPlaceOfKey keys x None = Among keys x → ⊥
IsPlaceOfKey keys x (Some i) = slice_get keys i ≡ Some x

-- the place among these at which the symbol stands, or none
abbrev pub IsPlaceAmong : List ClosedSymbol → List ℕ → Closed → Option ℕ → Type 0
IsPlaceAmong keys places x None = (i : ℕ) → Among places i → option_map closed_view (slice_get keys i) ≡ Some x → ⊥
IsPlaceAmong keys places x (Some i) = option_map closed_view (slice_get keys i) ≡ Some x

-- the keys with one more behind them, unless it was there
abbrev pub AddsKey : List Closed → Closed → List Closed → Type 0
AddsKey keys x more = Among keys x × (more ≡ keys) ⊎ (Among keys x → ⊥) × (more ≡ keys ++ x ∷ [])

-- the same with several, one after another
abbrev pub AddsKeys : List Closed → List Closed → List Closed → Type 0
AddsKeys keys [] more = more ≡ keys
AddsKeys keys (x ∷ xs) more = (next : List Closed) × AddsKey keys x next × AddsKeys next xs more
