-- Sets of states by the numbers that they were given. For the states of an automaton under way.
use Rattle.std.proofs.Common.{◌≡◌, ℕ, ◌+◌, ◌<◌, ◌↔◌, List, [], ◌∷◌, ◌++◌, length, get_or, take, Contains}
use Rattle.std.proofs.Common.{All, Bool, true, false, Some, ⊎_elim, refl, subst}
use Rattle.std.specs.Map.{lookup}
use Rattle.std.specs.Ordering.{match_ordering, is_eq}
use Rattle.std.specs.declared.cmp.Ordering.{Ordering}
use Rattle.std.specs.declared.cmp.Ordering.TheVariants.{Less, Equal, Greater}
use Rattle.std.specs.BTreeMap.{insert_entry}
use Rattle.std.proofs.lemmas.List.{get_or_append_left, get_or_push, take_more}
use Rattle.std.proofs.lemmas.List.Elements.{Contains-push, Contains-push_cases, Contains-append_left, All-head, All-tail, All-cons, All-nil}
use Rattle.lalrpop_lexer_nfa.specs.Paths.{Graph}
use Rattle.lalrpop_lexer_nfa.specs.Sets.{IsEpsilonClosure, Inserts}
use Rattle.lalrpop_lexer_nfa.proofs.SetLemmas.{Inserts-old, Inserts-new, Inserts-cases}
use Rattle.lalrpop_lexer.specs.Subsets.{set_at}

-- the same members give the same closed set
pub IsEpsilonClosure-along : (t : Graph) (old other new : List ℕ) → ((x : ℕ) → Contains old x → Contains other x)
    → ((x : ℕ) → Contains other x → Contains old x) → IsEpsilonClosure t old new → IsEpsilonClosure t other new
IsEpsilonClosure-along t old other new to from h = record {
  only = λ y k. let x = h.only y k in (x.0, to x.0 x.1, x.2);
  all = λ x y k. h.all x y (from x k);
}

-- what a look-up finds is an entry of a key that passes
pub found_entry : {K : Type 0} (P : K → ℕ → Type 0) (test : K → Bool) (es : List (K × ℕ)) (n : ℕ)
    → All (λ (e : K × ℕ). P e.0 e.1) es → lookup test es ≡ Some n → (k : K) × (test k ≡ true) × P k n
found_entry P test [] n all found = cc
found_entry {K} P test ((k, m) ∷ es) n all found =
    go (test k) refl (found_entry P test es n (All-tail (λ (e : K × ℕ). P e.0 e.1) (k, m) es all))
  where
    go : (b : Bool) → test k ≡ b → (lookup test es ≡ Some n → (k : K) × (test k ≡ true) × P k n) → (k : K)
        × (test k ≡ true) × P k n
    go true e more =
        let first : Some m ≡ Some n = rw e at found in
        let same : m ≡ n = cc in
        (k, e, let Q : ℕ → Type 0 = P k in subst Q same (All-head (λ (e : K × ℕ). P e.0 e.1) (k, m) es all))
    go false e more = more (rw e at found)

-- one more set
pub set_at-old : (sets : List (List ℕ)) (set : List ℕ) (i : ℕ) → i < length sets → set_at (sets ++ set ∷ []) i ≡ set_at sets i
set_at-old sets set i l = get_or_append_left sets (set ∷ []) [] i l

-- behind the old sets stands the new one
pub set_at-new : (sets : List (List ℕ)) (set : List ℕ) → set_at (sets ++ set ∷ []) (length sets) ≡ set
set_at-new sets set = get_or_push sets set [] (length sets) refl

-- loops that put the members of a list into a set
pub same_members_more : (old new : List ℕ) (xs : List ℕ) (i : ℕ) → i < length xs
    → ((x : ℕ) → Contains old x ↔ Contains (take i xs) x) → Inserts old (get_or xs i 0) new →
    (x : ℕ) → Contains new x ↔ Contains (take (i + 1) xs) x
same_members_more old new xs i l same one x =
    rw (take_more xs i 0 l) (
      λ h. ⊎_elim (λ there. Contains-append_left (take i xs) (get_or xs i 0 ∷ []) x ((same x).0 there))
          (λ at. rw (← at) (Contains-push (take i xs) (get_or xs i 0))) (Inserts-cases old new (get_or xs i 0) x one h),
      λ h. ⊎_elim (λ there. Inserts-old old new (get_or xs i 0) x one ((same x).1 there))
          (λ at. rw (← at) (Inserts-new old new (get_or xs i 0) one)) (Contains-push_cases (take i xs) (get_or xs i 0) x h),
    )

-- what holds of each entry holds after one more
pub All-insert_entry : {K : Type 0} (P : K → ℕ → Type 0) (cmp : K → K → Ordering) (k : K) (v : ℕ) (es : List (K × ℕ))
    → ((q : K) → cmp k q ≡ Equal → P q v) → P k v →
    All (λ (e : K × ℕ). P e.0 e.1) es → All (λ (e : K × ℕ). P e.0 e.1) (insert_entry cmp es k v)
All-insert_entry {K} P cmp k v [] same one all =
    All-cons (λ (e : K × ℕ). P e.0 e.1) (k, v) [] one (All-nil (λ (e : K × ℕ). P e.0 e.1))
All-insert_entry {K} P cmp k v (e ∷ es) same one all =
    go (cmp k e.0) refl (All-insert_entry P cmp k v es same one (All-tail Q e es all))
  where
    Q : K × ℕ → Type 0
    Q f = P f.0 f.1

    go : (o : Ordering) → cmp k e.0 ≡ o → All Q (insert_entry cmp es k v)
        → All Q (match_ordering o ((k, v) ∷ e ∷ es) ((e.0, v) ∷ es) (e ∷ insert_entry cmp es k v))
    go Less is rest = All-cons Q (k, v) (e ∷ es) one all
    go Equal is rest = All-cons Q (e.0, v) es (same e.0 is) (All-tail Q e es all)
    go Greater is rest = All-cons Q e (insert_entry cmp es k v) (All-head Q e es all) rest

-- an order that tells two keys equal
pub equal_from : (o : Ordering) → is_eq o ≡ true → o ≡ Equal
equal_from Less e = cc
equal_from Equal e = refl
equal_from Greater e = cc
