-- The loops over a list's values and an object's members, a turn at a time: for the readers of lists and objects.
use Rattle.std.proofs.Common.{◌≡◌, ℕ, zero, suc, ◌-◌, ◌<◌, ◌≤◌, List, [], ◌∷◌, ◌++◌, length}
use Rattle.std.proofs.Common.{Option, Some, None, option_map, Result, Ok, Err, OnOk, refl, ap, ◌∙◌, arith}
use Rattle.json.specs.Token.{Token}
use Rattle.json.specs.Json as json
use Rattle.json.specs.Json.{Json, Parse, parse_map, after_end_array, read_key, items, members}
use Rattle.json.proofs.Grammar.{Takes, items_end, items_fail, items_more, after_end_array-shorter}
use Rattle.json.proofs.Grammar.{members_end, members_fail, members_more, members_no_key, read_key-shorter}
use Rattle.serde_json.specs.Data.{Data, Items, no_items, item, Members, put}
use Rattle.serde_json.specs.Read.{converted, of_items, of_json, of_members}
use Rattle.lalrpop_json_document.specs.DocumentViews.{items_view, view}
use Rattle.lalrpop_json_document.specs.declared.value.JsonValue.{JsonValue}
use Rattle.lalrpop_json_document.proofs.ConvertedLemmas.{converted_around, converted_map, data_refused, json_read, none_converted}
use Rattle.lalrpop_json_document.proofs.TurnLemmas.{same_members}

-- ---- lists

-- the values found, in front of those to come
abbrev pub items_onto : List JsonValue → Items → Items
items_onto [] rest = rest
items_onto (v ∷ vs) rest = item (view v) (items_onto vs rest)

items_onto_none : (vs : List JsonValue) → items_onto vs no_items ≡ items_view vs
items_onto_none [] = refl
items_onto_none (v ∷ vs) = ap (item (view v)) (items_onto_none vs)

items_onto_last : (vs : List JsonValue) (v : JsonValue) (rest : Items)
    → items_onto vs (item (view v) rest) ≡ items_onto (vs ++ v ∷ []) rest
items_onto_last [] v rest = refl
items_onto_last (w ∷ vs) v rest = ap (item (view w)) (items_onto_last vs v rest)

onto_last : (vs : List JsonValue) (v : JsonValue) (o : Option (Items × List Token))
    → parse_map (items_onto vs) (parse_map (item (view v)) o) ≡ parse_map (items_onto (vs ++ v ∷ [])) o
onto_last vs v None = refl
onto_last vs v (Some p) = ap (λ ds. Some (ds, p.1)) (items_onto_last vs v p.0)

onto_nothing : (o : Option (Items × List Token)) → o ≡ parse_map (items_onto []) o
onto_nothing None = refl
onto_nothing (Some p) = refl

-- the data of a list, in `n` turns at most
abbrev pub items_in : Parse Json → ℕ → List Token → Option (Items × List Token)
items_in p n ts = converted of_items (items p n ts)

-- `whole` holds the list from its first token on, and `rest` what comes behind the values found
pub record ItemsSoFar (p : Parse Json) (whole rest : List Token) (found : List JsonValue) : Type 0 where
  turns : ℕ
  enough : length rest ≤ turns
  within : length rest ≤ length whole
  read : items_in p (length whole) whole ≡ parse_map (items_onto found) (items_in p turns rest)

module _ (p : Parse Json) where
  pub items_begin : (ts : List Token) → ItemsSoFar p ts ts []
  items_begin ts = record { turns = length ts; enough = omega arith; within = omega arith; read = onto_nothing _ }

  one_item : (n : ℕ) (ts rest : List Token) (d : Data) → 0 < n → after_end_array ts ≡ None
      → converted of_json (p ts) ≡ Some (d, rest) → items_in p n ts ≡ parse_map (item d) (items_in p (n - 1) rest)
  one_item n ts rest d some going e =
      let j = json_read of_json (p ts) d rest e in
      let behind = items p (n - 1) rest in
      ap (converted of_items) (items_more p n ts rest j.0 some going j.1)
      ∙ converted_around (json.item j.0) of_items (λ js. option_map (item d) (of_items js)) (λ js. rw (j.2)) behind
      ∙ converted_map of_items (item d) behind

  no_item : (n : ℕ) (ts : List Token) (o : Option (Json × List Token)) → p ts ≡ o → after_end_array ts ≡ None
      → converted of_json o ≡ None → items_in p n ts ≡ None
  unfolding items
  no_item n ts None is going e = ap (converted of_items) (items_fail p n ts going is)
  no_item zero ts (Some q) is going e = refl
  no_item (suc n) ts (Some q) is going e =
      let bad = data_refused of_json q.0 q.1 e in
      ap (converted of_items) (items_more p (suc n) ts q.1 q.0 (omega arith) going is)
      ∙ none_converted (json.item q.0) of_items (λ js. rw bad) (items p (suc n - 1) q.1)

  module _ (whole ts : List Token) (found : List JsonValue) (so : ItemsSoFar p whole ts found) where
    pub items_turn : (rest : List Token) (v : JsonValue) → after_end_array ts ≡ None
        → converted of_json (p ts) ≡ Some (view v, rest) → length rest < length ts → ItemsSoFar p whole rest (found ++ v ∷ [])
    items_turn rest v going e less =
        let one = one_item so.turns ts rest (view v) (omega (arith, so.enough)) going e in
        record {
          turns = so.turns - 1;
          enough = omega (arith, so.enough);
          within = omega (arith, so.within);
          read = so.read ∙ ap (parse_map (items_onto found)) one ∙ onto_last found v _;
        }

    pub items_refused : after_end_array ts ≡ None → converted of_json (p ts) ≡ None → items_in p (length whole) whole ≡ None
    items_refused going e = so.read ∙ ap (parse_map (items_onto found)) (no_item so.turns ts (p ts) refl going e)

    pub items_ended : (rest : List Token) → after_end_array ts ≡ Some rest
        → items_in p (length whole) whole ≡ Some (items_view found, rest)
    items_ended rest over =
        so.read ∙ ap (λ o. parse_map (items_onto found) (converted of_items o)) (items_end p so.turns ts rest so.enough over)
        ∙ ap (λ ds. Some (ds, rest)) (items_onto_none found)

    pub items_end_shorter : (rest : List Token) → after_end_array ts ≡ Some rest → length rest < length whole
    items_end_shorter rest over = omega (arith, so.within, after_end_array-shorter ts rest over)

-- ---- objects

-- the data of an object behind the members found, in `n` turns at most
abbrev pub members_in : Parse Json → Members → ℕ → List Token → Option (Members × List Token)
members_in p found n ts = converted (λ ms. of_members ms found) (members p n ts)

-- `whole` holds the rest of an object behind the members of `before`, and `rest` what comes behind the members found
pub record MembersSoFar (p : Parse Json) (before : Members) (whole rest : List Token) (found : Members) : Type 0 where
  turns : ℕ
  enough : length rest ≤ turns
  within : length rest ≤ length whole
  read : members_in p before (length whole) whole ≡ members_in p found turns rest

module _ (p : Parse Json) where
  pub members_begin : (before : Members) (ts : List Token) → MembersSoFar p before ts ts before
  members_begin before ts = record { turns = length ts; enough = omega arith; within = omega arith; read = refl }

  one_member : (found : Members) (n : ℕ) (key : List ℕ) (ts behind rest : List Token) (d : Data) → 0 < n
      → read_key ts ≡ Some (Some key, behind) → converted of_json (p behind) ≡ Some (d, rest)
      → members_in p found n ts ≡ members_in p (put key d found) (n - 1) rest
  one_member found n key ts behind rest d some named e =
      let j = json_read of_json (p behind) d rest e in
      let before = λ (ms : json.Members). of_members ms found in
      let after = λ (ms : json.Members). of_members ms (put key d found) in
      ap (converted before) (members_more p n key ts behind rest j.0 some named j.1)
      ∙ converted_around (json.member key j.0) before after (λ ms. rw (j.2)) (members p (n - 1) rest)

  no_member : (found : Members) (n : ℕ) (key : List ℕ) (ts behind : List Token) (o : Option (Json × List Token)) → p behind ≡ o
      → read_key ts ≡ Some (Some key, behind) → converted of_json o ≡ None → members_in p found n ts ≡ None
  unfolding members
  no_member found n key ts behind None is named e =
      ap (converted (λ ms. of_members ms found)) (members_fail p n key ts behind named is)
  no_member found zero key ts behind (Some q) is named e = refl
  no_member found (suc n) key ts behind (Some q) is named e =
      let bad = data_refused of_json q.0 q.1 e in
      ap (converted (λ ms. of_members ms found)) (members_more p (suc n) key ts behind q.1 q.0 (omega arith) named is)
      ∙ none_converted (json.member key q.0) (λ ms. of_members ms found) (λ ms. rw bad) (members p (suc n - 1) q.1)

  module _ (before : Members) (whole ts : List Token) (found : Members) (so : MembersSoFar p before whole ts found) where
    pub members_turn : (key : List ℕ) (behind rest : List Token) (d : Data) → read_key ts ≡ Some (Some key, behind)
        → converted of_json (p behind) ≡ Some (d, rest) → length rest < length behind
        → MembersSoFar p before whole rest (put key d found)
    members_turn key behind rest d named e less =
        let shorter = read_key-shorter ts (Some key) behind named in
        record {
          turns = so.turns - 1;
          enough = omega (arith, so.enough);
          within = omega (arith, so.within);
          read = so.read ∙ one_member found so.turns key ts behind rest d (omega (arith, so.enough)) named e;
        }

    pub key_refused : read_key ts ≡ None → members_in p before (length whole) whole ≡ None
    key_refused none = so.read ∙ ap (converted (λ ms. of_members ms found)) (members_no_key p so.turns ts none)

    pub member_refused : (key : List ℕ) (behind : List Token) → read_key ts ≡ Some (Some key, behind)
        → converted of_json (p behind) ≡ None → members_in p before (length whole) whole ≡ None
    member_refused key behind named e = so.read ∙ no_member found so.turns key ts behind (p behind) refl named e

    pub members_ended : (rest : List Token) → read_key ts ≡ Some (None, rest)
        → members_in p before (length whole) whole ≡ Some (found, rest)
    members_ended rest over =
        so.read ∙ ap (converted (λ ms. of_members ms found)) (members_end p so.turns ts rest so.enough over)

    -- what is read of the rest, behind the members found, is what is read of all
    pub members_go_on : Takes p → members_in p before (length whole) whole ≡ members_in p found (length ts) ts
    members_go_on takes =
        so.read ∙ ap (converted (λ ms. of_members ms found)) (same_members p takes so.turns (length ts) ts so.enough (omega arith))

    pub shorter_than_all : {A E : Type 0} (r : Result A E) (left : List Token) → OnOk r (length left < length ts)
        → OnOk r (length left < length whole)
    shorter_than_all (Ok x) left less = omega (arith, so.within)
    shorter_than_all (Err e) left less = tt

    pub members_end_shorter : (rest : List Token) → read_key ts ≡ Some (None, rest) → length rest < length whole
    members_end_shorter rest over = omega (arith, so.within, read_key-shorter ts None rest over)
