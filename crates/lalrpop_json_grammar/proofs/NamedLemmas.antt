-- An object in order that lacks no key of a form and has no other has just the form's keys, and the other way round.
use Rattle.std.proofs.Common.{◌≡◌, ℕ, List, [], ◌∷◌, Option, Some, Bool, true, false, refl, ap, sym}
use Rattle.std.proofs.Common.{◌∙◌, cond, inl, inr}
use Rattle.std.proofs.Common.{Ordering, Less, Equal, Greater, subst}
use Rattle.std.specs.Str.{bytes_eq}
use Rattle.std.specs.List.{AllByRecursion}
use Rattle.std.specs.Ordering.{match_ordering}
use Rattle.std.specs.Cmp.Lexicographic.{same_text}
use Rattle.serde_json.specs.Data.{Data, Members, no_members, member}
use Rattle.serde_json.specs.Find.{get_member}
use Rattle.lalrpop_json_values.specs.declared.key.Key.{Key}
use Rattle.lalrpop_json_values.specs.Key.{key_text}
use Rattle.lalrpop_json_values.specs.Objects.{are_named, is_listed, names}
use Rattle.lalrpop_json_grammar.specs.Faults.{IsAmong}
use Rattle.lalrpop_json_grammar.specs.Order.{AreRising, text_order}
use Rattle.lalrpop_json_grammar.proofs.OrderLemmas.{all_before, are_in_order, before_all, before_tail, equal_texts}
use Rattle.lalrpop_json_grammar.proofs.OrderLemmas.{is_before_all, not_before_both}
use Rattle.lalrpop_json_grammar.proofs.OrderLemmas.{order_head, order_tail, same_bytes, text_itself}

-- where the first key has its name, and then the others theirs, both tests pass
pub head_named : (b rest : Bool) → cond b rest false ≡ true → (b ≡ true) × (rest ≡ true)
head_named true rest e = (refl, e)
head_named false rest e = absurd (cc)

-- ---- the form's keys rise

all_named : (k : Key) (ks : List Key) (ls : List (List ℕ)) → is_before_all k ks ≡ true → are_named ks ls ≡ true
    → AllByRecursion (λ m. text_order (key_text k) m ≡ Less) ls
all_named k ks [] before named = tt
all_named k [] (l ∷ ls) before named = absurd (cc)
all_named k (n ∷ ns) (l ∷ ls) before named =
    let first = head_named (bytes_eq (key_text n) l) (are_named ns ls) named in
    let same : key_text n ≡ l = same_text (key_text n) l (sym first.0) in (
      subst (λ x. text_order (key_text k) x ≡ Less) same (before_all k (n ∷ ns) before n (inl refl)),
      all_named k ns ls (before_tail k n ns before) first.1,
    )

-- an object with just the keys of a form, which are in byte order, has its keys in byte order
pub named_rising : (ks : List Key) (ls : List (List ℕ)) → are_in_order ks ≡ true → are_named ks ls ≡ true → AreRising ls
named_rising ks [] order named = tt
named_rising [] (l ∷ ls) order named = absurd (cc)
named_rising (k ∷ ks) (l ∷ ls) order named =
    let first = head_named (bytes_eq (key_text k) l) (are_named ks ls) named in
    let same : key_text k ≡ l = same_text (key_text k) l (sym first.0) in (
      subst (λ x. AllByRecursion (λ m. text_order x m ≡ Less) ls) same (all_named k ks ls (order_head k ks order) first.1),
      named_rising ks ls (order_tail k ks order) first.1,
    )

-- ---- and keys that rise are the form's

found_stands : (l m : List ℕ) (d e : Data) (o : Option Data) (ls : List (List ℕ)) (r : Ordering) → text_order l m ≡ r
    → match_ordering r o (Some d) o ≡ Some e → (o ≡ Some e → IsAmong ls l)
    → IsAmong (m ∷ ls) l
found_stands l m d e o ls Less is h rest = inr (rest h)
found_stands l m d e o ls Equal is h rest = inl (equal_texts l m is)
found_stands l m d e o ls Greater is h rest = inr (rest h)

-- what is found is named
pub member_stands : (l : List ℕ) (ms : Members) (e : Data) → get_member l ms ≡ Some e → IsAmong (names ms) l
member_stands l no_members e h = absurd (cc)
member_stands l (member m d ms) e h =
    found_stands l m d e (get_member l ms) (names ms) (text_order l m) refl h (member_stands l ms e)

is_key : (ks : List Key) (l : List ℕ) → is_listed ks l ≡ true → (k : Key) × IsAmong ks k × (key_text k ≡ l)
is_key [] l h = absurd (cc)
is_key (k ∷ ks) l h = by (bytes_eq (key_text k) l) refl h (is_key ks l)
  where
    by : (b : Bool) → bytes_eq (key_text k) l ≡ b → cond b true (is_listed ks l) ≡ true
        → (is_listed ks l ≡ true → (n : Key) × IsAmong ks n × (key_text n ≡ l))
        → (n : Key) × IsAmong (k ∷ ks) n × (key_text n ≡ l)
    by true is h rest = (k, inl refl, same_text (key_text k) l (sym is))
    by false is h rest = let r = rest h in (r.0, inr r.1, r.2)

-- the first of both are the same
same_head : (k : Key) (ks : List Key) (l : List ℕ) (ls : List (List ℕ)) → are_in_order (k ∷ ks) ≡ true → AreRising (l ∷ ls)
    → IsAmong (l ∷ ls) (key_text k)
    → (n : Key) × IsAmong (k ∷ ks) n × (key_text n ≡ l) → key_text k ≡ l
same_head k ks l ls order rising (inl e) n = e
same_head k ks l ls order rising (inr s) (n, inl same, is) = ap key_text (sym same) ∙ is
same_head k ks l ls order rising (inr s) (n, inr stands, is) =
    let one = all_before l ls rising.0 (key_text k) s in
    let other = before_all k ks (order_head k ks order) n stands in
    absurd (not_before_both l (key_text k) one (subst (λ x. text_order (key_text k) x ≡ Less) is other))

-- an object with its keys in byte order that lacks no key of a form and has no other has just the form's keys
pub rising_named : (ks : List Key) (ls : List (List ℕ)) → are_in_order ks ≡ true → AreRising ls
    → ((k : Key) → IsAmong ks k → IsAmong ls (key_text k))
    → ((l : List ℕ) → IsAmong ls l → is_listed ks l ≡ true) → are_named ks ls ≡ true
rising_named [] [] order rising there listed = refl
rising_named [] (l ∷ ls) order rising there listed = let no : false ≡ true = listed l (inl refl) in absurd (cc)
rising_named (k ∷ ks) [] order rising there listed = absurd (there k (inl refl))
rising_named (k ∷ ks) (l ∷ ls) order rising there listed =
    let same = same_head k ks l ls order rising (there k (inl refl)) (is_key (k ∷ ks) l (listed l (inl refl))) in
    let rest = rising_named ks ls (order_tail k ks order) rising.1 (λ n s. later_key same n s (there n (inr s)))
    (λ m s. later_name same m s (bytes_eq (key_text k) m) refl (listed m (inr s))) in
    rw (same_bytes (key_text k) l same) rest
  where
    later_key : key_text k ≡ l → (n : Key) → IsAmong ks n → IsAmong (l ∷ ls) (key_text n) → IsAmong ls (key_text n)
    later_key same n s (inl e) =
        let less = before_all k ks (order_head k ks order) n s in
        let itself : text_order (key_text k) (key_text n) ≡ Equal =
        ap (text_order (key_text k)) (e ∙ sym same) ∙ text_itself (key_text k) in
        absurd (cc)
    later_key same n s (inr stands) = stands

    later_name : key_text k ≡ l → (m : List ℕ) → IsAmong ls m → (b : Bool) → bytes_eq (key_text k) m ≡ b
        → cond b true (is_listed ks m) ≡ true → is_listed ks m ≡ true
    later_name same m s true is h =
        let less = all_before l ls rising.0 m s in
        let equal : l ≡ m = sym same ∙ same_text (key_text k) m (sym is) in
        let itself : text_order l m ≡ Equal = ap (text_order l) (sym equal) ∙ text_itself l in
        absurd (cc)
    later_name same m s false is h = h
