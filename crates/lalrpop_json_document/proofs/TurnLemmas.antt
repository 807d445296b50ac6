-- Any number of turns that is enough reads the same members of an object: for the reader that goes on with a map.
use Rattle.std.proofs.Common.{◌≡◌, ℕ, zero, suc, ◌-◌, ◌≤◌, List, [], ◌∷◌, length, Option, Some, None, arith, ap, refl, sym, ◌∙◌}
use Rattle.json.specs.Token.{Token}
use Rattle.json.specs.Json.{Json, Parse, member, members, parse_map, read_key}
use Rattle.json.proofs.Grammar.{Takes, left, members_end, members_fail, members_more, members_no_key, read_key-shorter}

module _ (p : Parse Json) (takes : Takes p) where
  -- `n` turns read what any others do
  abbrev IsEnough : ℕ → Type 0
  IsEnough n = (m : ℕ) (ts : List Token) → length ts ≤ n → length ts ≤ m → members p n ts ≡ members p m ts

  module _ (n m : ℕ) (ts : List Token) (long : length ts ≤ suc n) (enough : length ts ≤ m) (later : IsEnough n) where
    by_value : (key : List ℕ) (s : List Token) (o : Option (Json × List Token)) → read_key ts ≡ Some (Some key, s) → p s ≡ o
        → members p (suc n) ts ≡ members p m ts
    by_value key s None named is = members_fail p (suc n) key ts s named is ∙ sym (members_fail p m key ts s named is)
    by_value key s (Some q) named is =
        let shorter = read_key-shorter ts (Some key) s named in
        let less = takes s q.1 (ap left is) in
        let same : members p (suc n - 1) q.1 ≡ members p (m - 1) q.1 =
        sym (later (suc n - 1) q.1 (omega arith) (omega arith)) ∙ later (m - 1) q.1 (omega arith) (omega arith) in
        members_more p (suc n) key ts s q.1 q.0 (omega arith) named is ∙ ap (parse_map (member key q.0)) same
        ∙ sym (members_more p m key ts s q.1 q.0 (omega arith) named is)

    by_key : (k : Option (Option (List ℕ) × List Token)) → read_key ts ≡ k → members p (suc n) ts ≡ members p m ts
    by_key None is = members_no_key p (suc n) ts is ∙ sym (members_no_key p m ts is)
    by_key (Some (None, r)) is = members_end p (suc n) ts r long is ∙ sym (members_end p m ts r enough is)
    by_key (Some (Some key, s)) is = by_value key s (p s) is refl

  pub same_members : (n : ℕ) → IsEnough n
  same_members zero m [] long enough = members_no_key p zero [] refl ∙ sym (members_no_key p m [] refl)
  same_members zero m (t ∷ ts) long enough = absurd (omega arith)
  same_members (suc n) m ts long enough = by_key n m ts long enough (same_members n) (read_key ts) refl
