-- The names of an object's members, for the check of its keys.
use Rattle.std.proofs.Common.{◌≡◌, ◌==◌, ℕ, ◌≤◌, List, [], ◌∷◌, length, drop, Bor, ap, refl, sym, ◌∙◌}
use Rattle.std.proofs.Math.Dec.{eqb-suc-zero}
use Rattle.std.proofs.Math.ListN.{drop_of_length-le}
use Rattle.lalrpop_json_document.specs.DocumentViews.{members_view}
use Rattle.lalrpop_json_document.specs.declared.value.JsonValue.{JsonValue}
use Rattle.lalrpop_json_values.specs.declared.key.Key.{Key}
use Rattle.lalrpop_json_values.specs.Objects.{are_named, names}

named_none : (ks : List Key) → are_named ks [] ≡ (length ks == 0)
named_none [] = refl
named_none (k ∷ ks) = sym (eqb-suc-zero (length ks))

-- where a walk has passed each name, no key may be left
pub none_left : (ms list : List (Bor (List ℕ) × JsonValue)) (ks : List Key) (i : ℕ) → list ≡ ms → length list ≤ i
    → are_named ks (names (members_view (drop i ms))) ≡ (length ks == 0)
none_left ms list ks i whole over =
    let passed : drop i list ≡ [] = drop_of_length-le list over in
    ap (λ l. are_named ks (names (members_view l))) (sym (ap (drop i) whole) ∙ passed) ∙ named_none ks
