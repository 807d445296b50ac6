-- Runs of underscores in texts, and the prefix that is longer: for longest_run, and for reading and writing grammars.
use Rattle.std.proofs.Common.{◌≡◌, ℕ, zero, suc, ◌+◌, ◌<◌, ◌≤◌, max, List, [], ◌∷◌, ◌++◌, length, drop}
use Rattle.std.proofs.Common.{get_or, Bool, true, false, cond, ◌==◌, arith, refl, ap, sym, ◌∙◌, add-one, drop-cons, ◌⊎◌}
use Rattle.std.proofs.Common.{inl, inr, nat_le}
use Rattle.std.specs.List.{All, Any}
use Rattle.std.proofs.lemmas.List.{length-replicate}
use borrow.Author.Tests.{eqb-true, eq-eqb, ne_eqb, leb-true, leb-false}
use Rattle.lalrpop_json_values.specs.Prefix.{underscores, OccursIn, IsFreePrefix, leading_underscores, longest_run, longest_of, prefix_past}

-- ---- texts one after another

-- the longest run in two lists of texts is the longer one of theirs
pub longest_of-append : (xs ys : List (List ℕ)) → longest_of (xs ++ ys) ≡ max (longest_of xs) (longest_of ys)
longest_of-append [] ys = omega arith
longest_of-append (x ∷ xs) ys = omega (arith, longest_of-append xs ys)

pub ruleset longest = (longest_of-append)

-- ---- a text, byte by byte

leading-le : (t : List ℕ) → leading_underscores t ≤ longest_run t
leading-le [] = omega arith
leading-le (c ∷ cs) = omega arith

-- a run of that many stands just before the rest, and the longest so far
abbrev pub run_past : ℕ → ℕ → List ℕ → ℕ
run_past run longest rest = max longest (max (run + leading_underscores rest) (longest_run rest))

-- in front of a text, where no run was seen, the longest run is that of the text
pub run_begins : (t : List ℕ) → run_past 0 0 t ≡ longest_run t
run_begins t = omega (arith, leading-le t)

by_byte : (b : Bool) (run longest n m : ℕ) → b ≡ true
    → max (max longest (run + 1)) (max (run + 1 + n) m) ≡ max longest (max (run + cond b (suc n) 0) (max (cond b (suc n) 0) m))
by_byte true run longest n m e = omega arith
by_byte false run longest n m e = absurd (cc)

pub run_grows : (c run longest : ℕ) (rest : List ℕ) → (c == 95) ≡ true
    → run_past (run + 1) (max longest (run + 1)) rest ≡ run_past run longest (c ∷ rest)
run_grows c run longest rest e = by_byte (c == 95) run longest (leading_underscores rest) (longest_run rest) e

by_other : (b : Bool) (run longest n m : ℕ) → b ≡ false → run ≤ longest → n ≤ m
    → max longest (max (0 + n) m) ≡ max longest (max (run + cond b (suc n) 0) (max (cond b (suc n) 0) m))
by_other true run longest n m e h k = absurd (cc)
by_other false run longest n m e h k = omega arith

pub run_stops : (c run longest : ℕ) (rest : List ℕ) → (c == 95) ≡ false → run ≤ longest
    → run_past 0 longest rest ≡ run_past run longest (c ∷ rest)
run_stops c run longest rest e h = by_other (c == 95) run longest (leading_underscores rest) (longest_run rest) e h (leading-le rest)

pub run_ends : (run longest : ℕ) → run ≤ longest → run_past run longest [] ≡ longest
run_ends run longest h = omega arith

-- a loop goes on behind an underscore, and behind another byte
pub past_underscore : (run longest i : ℕ) (t : List ℕ) → i < length t → get_or t i 0 ≡ 95
    → run_past run longest (drop i t) ≡ longest_run t
    → run_past (run + 1) (max longest (run + 1)) (drop (i + 1) t) ≡ longest_run t
past_underscore run longest i t h e at =
    let opened : drop i t ≡ get_or t i 0 ∷ drop (i + 1) t = simp (add-one, drop-cons t i 0 h) refl in
    run_grows (get_or t i 0) run longest (drop (i + 1) t) (eq-eqb (get_or t i 0) 95 e) ∙ ap (run_past run longest) (sym opened) ∙ at

-- behind another byte no run goes on, and the longest one so far stays
pub past_other : (run longest i : ℕ) (t : List ℕ) → i < length t → (get_or t i 0 ≡ 95 → ⊥) → run ≤ longest
    → run_past run longest (drop i t) ≡ longest_run t
    → run_past 0 longest (drop (i + 1) t) ≡ longest_run t
past_other run longest i t h e le at =
    let opened : drop i t ≡ get_or t i 0 ∷ drop (i + 1) t = simp (add-one, drop-cons t i 0 h) refl in
    run_stops (get_or t i 0) run longest (drop (i + 1) t) (ne_eqb (get_or t i 0) 95 e) le ∙ ap (run_past run longest) (sym opened) ∙ at

-- ---- which runs occur

leads : (n : ℕ) (back : List ℕ) → n ≤ leading_underscores (underscores n ++ back)
leads zero back = omega arith
leads (suc n) back = omega (arith, leads n back)

occurs_le : (n : ℕ) (front back : List ℕ) → n ≤ longest_run ((front ++ underscores n) ++ back)
occurs_le n [] back = omega (arith, leads n back, leading-le (underscores n ++ back))
occurs_le n (c ∷ front) back = omega (arith, occurs_le n front back)

begun_by : (b : Bool) (n c : ℕ) (cs : List ℕ) → (c == 95) ≡ b
    → (n ≤ leading_underscores cs → (back : List ℕ) × (cs ≡ underscores n ++ back))
    → suc n ≤ cond b (suc (leading_underscores cs)) 0 → (back : List ℕ) × (c ∷ cs ≡ underscores (suc n) ++ back)
begun_by true n c cs e later h = let rest = later (omega arith) in (rest.0, rw (eqb-true c 95 e) (ap (λ t. 95 ∷ t) rest.1))
begun_by false n c cs e later h = absurd (omega arith)

begun : (n : ℕ) (t : List ℕ) → n ≤ leading_underscores t → (back : List ℕ) × (t ≡ underscores n ++ back)
begun zero t h = (t, refl)
begun (suc n) [] h = absurd (omega arith)
begun (suc n) (c ∷ cs) h = begun_by (c == 95) n c cs refl (begun n cs) h

occurs_by : (n : ℕ) (c : ℕ) (cs : List ℕ) → (n ≤ leading_underscores (c ∷ cs)) ⊎ (n ≤ longest_run cs)
    → (n ≤ longest_run cs → OccursIn (underscores n) cs) → OccursIn (underscores n) (c ∷ cs)
occurs_by n c cs (inl h) later = let got = begun n (c ∷ cs) h in ([], got.0, got.1)
occurs_by n c cs (inr h) later = let got = later h in (c ∷ got.0, got.1, ap (λ t. c ∷ t) got.2)

pub le_or_gt : (n m : ℕ) → (n ≤ m) ⊎ (m < n)
le_or_gt n m = by_test (nat_le n m) refl
  where
    by_test : (t : Bool) → nat_le n m ≡ t → (n ≤ m) ⊎ (m < n)
    by_test true e = inl (leb-true n m e)
    by_test false e = inr (leb-false n m e)

either : (n a b : ℕ) → n ≤ max a b → (n ≤ a) ⊎ (n ≤ b)
either n a b h = elim (le_or_gt n a) as (λ _. (n ≤ a) ⊎ (n ≤ b)) [ inl le ↦ inl le | inr gt ↦ inr (omega arith) ]

occurs : (n : ℕ) (t : List ℕ) → n ≤ longest_run t → OccursIn (underscores n) t
occurs zero [] h = ([], [], refl)
occurs (suc n) [] h = absurd (omega arith)
occurs n (c ∷ cs) h = occurs_by n c cs (either n (leading_underscores (c ∷ cs)) (longest_run cs) h) (occurs n cs)

-- ---- the prefix

none_longer : (n : ℕ) (ts : List (List ℕ)) → longest_of ts < n → All (λ t. OccursIn (underscores n) t → ⊥) ts
none_longer n [] h k d below occurring = absurd (omega arith)
none_longer n (t ∷ ts) h zero d below occurring =
    let le : n ≤ longest_run t = rw occurring.2 (occurs_le n occurring.0 occurring.1) in absurd (omega arith)
none_longer n (t ∷ ts) h (suc k) d below occurring = none_longer n ts (omega arith) k d (omega arith) occurring

some_by : (n : ℕ) (t : List ℕ) (ts : List (List ℕ)) → (n ≤ longest_run t) ⊎ (n ≤ longest_of ts)
    → (n ≤ longest_of ts → Any (OccursIn (underscores n)) ts)
    → Any (OccursIn (underscores n)) (t ∷ ts)
some_by n t ts (inl h) later = (0, t, omega arith, refl, occurs n t h)
some_by n t ts (inr h) later = let got = later h in (suc got.0, got.1, omega (arith, got.2), got.3, got.4)

some_as_long : (n : ℕ) (ts : List (List ℕ)) → 2 ≤ n → n ≤ longest_of ts → Any (OccursIn (underscores n)) ts
some_as_long n [] two h = absurd (omega arith)
some_as_long n (t ∷ ts) two h = some_by n t ts (either n (longest_run t) (longest_of ts) h) (some_as_long n ts two)

-- a run of two underscores at least and one more than the longest run is a free prefix
pub free_prefix : (ts : List (List ℕ)) → IsFreePrefix ts (prefix_past (longest_of ts))
free_prefix ts =
    let n = suc (max 1 (longest_of ts)) in
    let long : length (underscores n) ≡ n = length-replicate n 95 in
    record {
      run = ap underscores (sym long);
      two = omega (arith, long);
      free = none_longer n ts (omega arith);
      shortest = λ m two below. some_as_long m ts two (omega (arith, long));
    }

pub prefix_is_free : (ts : List (List ℕ)) (longest : ℕ) (p : List ℕ) → longest ≡ longest_of ts → p ≡ prefix_past longest
    → IsFreePrefix ts p
prefix_is_free ts longest p e f = rw (f, e) (free_prefix ts)

-- a run that occurs in one of the texts and in none
against : (p : List ℕ) (ts : List (List ℕ)) → All (λ t. OccursIn p t → ⊥) ts → Any (OccursIn p) ts → ⊥
against p ts none some = none some.0 some.1 some.2 (rw some.3 some.4)

past_all : (n : ℕ) (ts : List (List ℕ)) → 2 ≤ n → All (λ t. OccursIn (underscores n) t → ⊥) ts → longest_of ts < n
past_all n ts two none =
    elim (le_or_gt n (longest_of ts)) as (λ _. longest_of ts < n)
    [ inl le ↦ absurd (against (underscores n) ts none (some_as_long n ts two le)) | inr gt ↦ gt ]

no_longer : (n m : ℕ) (ts : List (List ℕ)) → 2 ≤ m → longest_of ts < m
    → ((k : ℕ) → 2 ≤ k → k < n → Any (OccursIn (underscores k)) ts) → n ≤ m
no_longer n m ts two past shortest =
    elim (le_or_gt n m) as (λ _. n ≤ m)
    [ inl le ↦ le | inr gt ↦ absurd (against (underscores m) ts (none_longer m ts past) (shortest m two gt)) ]

one_length : (n : ℕ) (ts : List (List ℕ)) → 2 ≤ n → All (λ t. OccursIn (underscores n) t → ⊥) ts
    → ((k : ℕ) → 2 ≤ k → k < n → Any (OccursIn (underscores k)) ts) → n ≡ suc (max 1 (longest_of ts))
one_length n ts two none shortest =
    let past = past_all n ts two none in
    let le = no_longer n (suc (max 1 (longest_of ts))) ts (omega arith) (omega arith) shortest in
    omega arith

one_prefix : (p : List ℕ) (n : ℕ) (ts : List (List ℕ)) → p ≡ underscores n → 2 ≤ n → All (λ t. OccursIn p t → ⊥) ts
    → ((k : ℕ) → 2 ≤ k → k < n → Any (OccursIn (underscores k)) ts) → p ≡ prefix_past (longest_of ts)
one_prefix p n ts run two none shortest = run ∙ ap underscores (one_length n ts two (rw run at none) shortest)

-- a grammar's texts leave one prefix
pub only_prefix : (ts : List (List ℕ)) (p : List ℕ) → IsFreePrefix ts p → p ≡ prefix_past (longest_of ts)
only_prefix ts p is = one_prefix p (length p) ts is.run is.two is.free is.shortest
