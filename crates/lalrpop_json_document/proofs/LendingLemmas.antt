-- Values of `serde_json` and the same values lent, one after the other: for the functions that lend them.
use Rattle.std.proofs.Common.{◌≡◌, ◌∙◌, ℕ, zero, suc, ◌+◌, ◌<◌, ◌≤◌, List, [], ◌∷◌, ◌++◌, length, get_or, take, String, Global, Bor}
use Rattle.std.proofs.Common.{append_assoc, append-nil, arith, ap, string_bytes, sym, refl}
use Rattle.serde_json.specs.Data.{depth, item, items_depth, members_depth, no_items}
use Rattle.serde_json.specs.View as owned
use Rattle.serde_json.specs.declared.value.Value.{Value}
use Rattle.lalrpop_json_document.specs.DocumentViews.{items_view, members_view, view}
use Rattle.lalrpop_json_document.specs.declared.value.JsonValue.{JsonValue}

-- a value in a list is no deeper than what the list holds
pub below_items : (vs : List Value) (i : ℕ) (v : Value) → i < length vs
    → depth (owned.view (get_or vs i v)) ≤ items_depth (owned.items_view vs)
below_items [] i v h = absurd (omega arith)
below_items (x ∷ vs) zero v h = omega arith
below_items (x ∷ vs) (suc i) v h = omega (arith, below_items vs i v (omega arith))

more_lent : (vs : List Value) (i : ℕ) (d : Value) (lent : List JsonValue) (v : JsonValue) → i < length vs
    → items_view lent ≡ owned.items_view (take i vs) → view v ≡ owned.view (get_or vs i d)
    → items_view (lent ++ v ∷ []) ≡ owned.items_view (take (suc i) vs)
more_lent [] i d lent v h same e = absurd (omega arith)
more_lent (x ∷ vs) zero d [] v h same e = ap (λ y. item y no_items) e
more_lent (x ∷ vs) zero d (l ∷ lent) v h same e = absurd (cc)
more_lent (x ∷ vs) (suc i) d [] v h same e = absurd (cc)
more_lent (x ∷ vs) (suc i) d (l ∷ lent) v h same e =
    let first : view l ≡ owned.view x = cc in
    let rest : items_view lent ≡ owned.items_view (take i vs) = cc in
    rw (first, more_lent vs i d lent v (omega arith) rest e) refl

-- one value more of a list is lent
pub one_more_item : (vs : List Value) (i : ℕ) (d : Value) (lent : List JsonValue) (v : JsonValue) → i < length vs
    → items_view lent ≡ owned.items_view (take i vs) → view v ≡ owned.view (get_or vs i d)
    → items_view (lent ++ v ∷ []) ≡ owned.items_view (take (i + 1) vs)
one_more_item vs i d lent v h same e =
    let next : suc i ≡ i + 1 = omega arith in
    more_lent vs i d lent v h same e ∙ ap (λ n. owned.items_view (take n vs)) next

-- what has been lent of the members in front of those that are left
pub record AreLentSoFar (all rest : List (String Global × Value)) (lent : List (Bor (List ℕ) × JsonValue)) : Type 0 where
  pub done : List (String Global × Value)
  pub parts : all ≡ done ++ rest
  pub same : members_view lent ≡ owned.members_view done

pub none_lent : (all rest : List (String Global × Value)) (lent : List (Bor (List ℕ) × JsonValue)) → rest ≡ all → lent ≡ []
    → AreLentSoFar all rest lent
none_lent all rest lent whole e = record { done = []; parts = sym whole; same = ap members_view e }

pub all_lent : (all rest : List (String Global × Value)) (lent : List (Bor (List ℕ) × JsonValue)) → rest ≡ [] → AreLentSoFar all rest lent
    → members_view lent ≡ owned.members_view all
all_lent all rest lent e so_far =
    so_far.same ∙ ap owned.members_view (sym (so_far.parts ∙ ap (λ l. so_far.done ++ l) e ∙ append-nil so_far.done))

pub ruleset lending = (none_lent, all_lent)

depth_of_next : (done more : List (String Global × Value)) (key : String Global) (v : Value)
    → depth (owned.view v) ≤ members_depth (owned.members_view (done ++ (key, v) ∷ more))
depth_of_next [] more key v = omega arith
depth_of_next (d ∷ done) more key v = omega (arith, depth_of_next done more key v)

-- the next member's value is no deeper than what the object holds
pub below_members : (all more : List (String Global × Value)) (lent : List (Bor (List ℕ) × JsonValue)) (key : String Global) (v : Value)
    → AreLentSoFar all ((key, v) ∷ more) lent → depth (owned.view v) ≤ members_depth (owned.members_view all)
below_members all more lent key v so_far =
    omega (arith, depth_of_next so_far.done more key v, ap (λ l. members_depth (owned.members_view l)) so_far.parts)

members_last : (ms : List (Bor (List ℕ) × JsonValue)) (done : List (String Global × Value)) (m : Bor (List ℕ) × JsonValue)
    (e : String Global × Value) → members_view ms ≡ owned.members_view done → m.0.now ≡ string_bytes e.0
    → view m.1 ≡ owned.view e.1 → members_view (ms ++ m ∷ []) ≡ owned.members_view (done ++ e ∷ [])
members_last [] [] m e same n v = cc
members_last [] (d ∷ done) m e same n v = absurd (cc)
members_last (l ∷ ms) [] m e same n v = absurd (cc)
members_last (l ∷ ms) (d ∷ done) m e same n v =
    let name : l.0.now ≡ string_bytes d.0 = cc in
    let first : view l.1 ≡ owned.view d.1 = cc in
    let rest : members_view ms ≡ owned.members_view done = cc in
    rw (name, first, members_last ms done m e rest n v) refl

-- one member more is lent
pub one_more_member : (all more : List (String Global × Value)) (lent after : List (Bor (List ℕ) × JsonValue)) (key : String Global)
    (v : Value) (m : Bor (List ℕ) × JsonValue) → AreLentSoFar all ((key, v) ∷ more) lent → m.0.now ≡ string_bytes key
    → view m.1 ≡ owned.view v → after ≡ lent ++ m ∷ [] → AreLentSoFar all more after
one_more_member all more lent after key v m so_far n e a = record {
  done = so_far.done ++ (key, v) ∷ [];
  parts = so_far.parts ∙ sym (append_assoc so_far.done ((key, v) ∷ []) more);
  same = ap members_view a ∙ members_last lent so_far.done m (key, v) so_far.same n e;
}
