-- Rows of targets, one more after another. For `row_of` and `target`.
use Rattle.std.proofs.Common.{◌≡◌, ℕ, ◌+◌, ◌<◌, ◌≤◌, List, [], ◌∷◌, ◌++◌, length, Option, None, Some}
use Rattle.std.proofs.Common.{⊎_elim, sym, ap, ◌∙◌, arith}
use Rattle.std.specs.Prelude.{slice_get, slice_index_or}
use Rattle.std.proofs.lemmas.Bool.{cases_lt}
use Rattle.std.proofs.lemmas.List.{get_or_append_left, get_or_push}
use Rattle.std.proofs.lemmas.Option.{slice_get_within, get_or_from_slice_get}
use Rattle.lalrpop_lexer.specs.Numbering.{EdgeView}
use Rattle.lalrpop_lexer.specs.Simulation.{target_of}
use Rattle.lalrpop_lexer.specs.Rows.{IsRow}

-- one more target
pub row_more : (edges : List EdgeView) (row : List (Option ℕ)) (n : ℕ) (target : Option ℕ) → length row ≡ n
    → target ≡ target_of edges n → ((c : ℕ) → c < n → slice_index_or row c None ≡ target_of edges c) →
    (c : ℕ) → c < n + 1 → slice_index_or (row ++ target ∷ []) c None ≡ target_of edges c
row_more edges row n target size is before c l =
    ⊎_elim (λ (less : c < n). get_or_append_left row (target ∷ []) None c (omega arith) ∙ before c less)
    (λ (more : n ≤ c).
    let at : c ≡ n = omega arith in
    get_or_push row target None c (size ∙ sym at) ∙ is ∙ ap (target_of edges) (sym at))
    (cases_lt c n)

-- what the row tells of a number
pub row_tells : (edges : List EdgeView) (row : List (Option ℕ)) (c : ℕ) (target : Option ℕ) → IsRow edges row
    → slice_get row c ≡ Some target → target ≡ target_of edges c
row_tells edges row c target h found =
    sym (get_or_from_slice_get row c target None found) ∙ h c (slice_get_within row c target found)
