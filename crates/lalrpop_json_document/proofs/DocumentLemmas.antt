-- What a walk over the members of an object finds at a key: for looking into values.
use Rattle.std.proofs.Common.{◌≡◌, ◌∙◌, ℕ, suc, ◌+◌, ◌<◌, List, ◌∷◌, length, get_or, drop, Option, Some}
use Rattle.std.proofs.Common.{Ordering, Less, Equal, Greater, is_eq, nat_cmp, true, false, bytes_eq, Bor}
use Rattle.std.proofs.Common.{add-one, ap, arith, drop-cons, sym, refl}
use Rattle.std.proofs.lemmas.Map.Text.{is_eq-slice_cmp}
use Rattle.std.specs.Cmp.Lexicographic.{slice_cmp}
use Rattle.std.specs.Ordering.{match_ordering}
use Rattle.serde_json.specs.Data.{Data}
use Rattle.serde_json.specs.Find.{get_member}
use Rattle.lalrpop_json_document.specs.DocumentViews.{members_view, view}
use Rattle.lalrpop_json_document.specs.declared.value.JsonValue.{JsonValue}

same_order : (o : Ordering) (here behind : Option Data) → is_eq o ≡ true → match_ordering o behind here behind ≡ here
same_order Less here behind e = absurd (cc)
same_order Equal here behind e = refl
same_order Greater here behind e = absurd (cc)

other_order : (o : Ordering) (here behind : Option Data) → is_eq o ≡ false → match_ordering o behind here behind ≡ behind
other_order Less here behind e = refl
other_order Equal here behind e = absurd (cc)
other_order Greater here behind e = refl

-- what is found among the members from an index on
abbrev found_from : List ℕ → List (Bor (List ℕ) × JsonValue) → ℕ → Option Data
found_from key ms i = get_member key (members_view (drop i ms))

found_at : (key : List ℕ) (ms : List (Bor (List ℕ) × JsonValue)) (i : ℕ) (m : Bor (List ℕ) × JsonValue) → i < length ms
    → m ≡ get_or ms i m → found_from key ms i
    ≡ match_ordering (slice_cmp nat_cmp key m.0.now) (found_from key ms (i + 1)) (Some (view m.1)) (found_from key ms (i + 1))
found_at key ms i m within is =
    let next : drop i ms ≡ m ∷ drop (i + 1) ms = simp (add-one) (drop-cons ms i m within ∙ ap (λ x. x ∷ drop (suc i) ms) (sym is)) in
    ap (λ l. get_member key (members_view l)) next

-- a walk over the list of the members
module _ (key : List ℕ) (ms list : List (Bor (List ℕ) × JsonValue)) (whole : list ≡ ms) (i : ℕ) where
  module _ (m : Bor (List ℕ) × JsonValue) (within : i < length list) (is : m ≡ get_or list i m) where
    here : found_from key ms i
        ≡ match_ordering (slice_cmp nat_cmp key m.0.now) (found_from key ms (i + 1)) (Some (view m.1)) (found_from key ms (i + 1))
    here = found_at key ms i m (omega (arith, ap length whole)) (is ∙ ap (λ l. get_or l i m) whole)

    pub found_here : bytes_eq key m.0.now ≡ true → found_from key ms i ≡ Some (view m.1)
    found_here same = here ∙ same_order _ _ _ (is_eq-slice_cmp key m.0.now ∙ same)

    pub found_behind : bytes_eq key m.0.now ≡ false → found_from key ms i ≡ found_from key ms (i + 1)
    found_behind other = here ∙ other_order _ _ _ (is_eq-slice_cmp key m.0.now ∙ other)
