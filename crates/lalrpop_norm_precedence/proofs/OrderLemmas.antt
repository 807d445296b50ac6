-- Sorted numbers, each once and read backwards, are levels in order; for the levels of a rule.
use Rattle.std.specs.List.{dedup}
use Rattle.std.specs.List.Sorted.{IsSorted}
use Rattle.std.specs.Ordering.{nat_cmp}
use Rattle.std.proofs.Common.{◌≡◌, ℕ, zero, suc, ◌<◌, List, [], ◌∷◌, ◌++◌, refl, ap, sym, ◌∙◌, subst}
use Rattle.std.proofs.Common.{cond, Bool, true, false}
use Rattle.std.proofs.Common.{inl, inr, ◌⊎◌, arith, length, get_or, reverse, AllPairs, IsPermutation}
use Rattle.std.specs.Prelude.{nat_lt, ◌==◌, eqb}
use Rattle.std.proofs.lemmas.Bool.{eqb-false, ltb-true, ltb-false}
use Rattle.std.proofs.lemmas.Grind.{reverse_onto}
use Rattle.std.proofs.lemmas.List.Kept.{AllPairs-from_increasing, Contains-dedup_nat, Contains-from_dedup}
use Rattle.std.proofs.lemmas.List.Sorted.{Contains-permutation, IsPermutation-reverse, IsPermutation-sym}
use Rattle.std.proofs.lemmas.Map.Keys.{IsStrictlyIncreasing-dedup}
use Rattle.lalrpop_grammar_language.specs.Among.{Among}
use Rattle.lalrpop_grammar_language.proofs.AmongLemmas.{among_contains, contains_among}
use Rattle.lalrpop_grammar_language.proofs.OrderLemmas.{among_parts}
use Rattle.lalrpop_norm_theory.specs.LeveledGrammar.{put_level, falling_levels}
use Rattle.lalrpop_norm_theory.proofs.LevelOrderLemmas.{falling-has, falling-only}

-- numbers that fall

-- each number stands before smaller ones alone
abbrev pub Falls : List ℕ → Type 0
Falls [] = Unit {0}
Falls (n ∷ ns) = ((m : ℕ) → Among ns m → m < n) × Falls ns

same_front : (x y : ℕ) (xs ys : List ℕ) → Falls (x ∷ xs) → Falls (y ∷ ys) → Among (y ∷ ys) x → Among (x ∷ xs) y →
    x ≡ y
same_front x y xs ys f g (inl e) h = sym e
same_front x y xs ys f g (inr i) (inl e) = e
same_front x y xs ys f g (inr i) (inr j) =
    let below : x < y = g.0 x i in
    let above : y < x = f.0 y j in
    absurd (omega arith)

still_there : (x y : ℕ) (xs ys : List ℕ) → Falls (x ∷ xs) → x ≡ y → (j : ℕ) → Among xs j → Among (y ∷ ys) j →
    Among ys j
still_there x y xs ys f e j i (inr h) = h
still_there x y xs ys f e j i (inl same) =
    let below : j < x = f.0 j i in
    absurd (omega arith)

-- two that fall and have the same numbers are one
falls-same : (xs ys : List ℕ) → Falls xs → Falls ys → ((j : ℕ) → Among xs j → Among ys j) → ((j : ℕ) → Among ys j →
    Among xs j) →
    xs ≡ ys
falls-same [] [] f g to from = refl
falls-same [] (y ∷ ys) f g to from = absurd (from y (inl refl))
falls-same (x ∷ xs) [] f g to from = absurd (to x (inl refl))
falls-same (x ∷ xs) (y ∷ ys) f g to from =
    let e = same_front x y xs ys f g (to x (inl refl)) (from y (inl refl)) in
    let rest : xs ≡ ys =
    falls-same xs ys f.1 g.1 (λ j i. still_there x y xs ys f e j i (to j (inr i)))
    (λ j i. still_there y x ys xs g (sym e) j i (from j (inr i))) in
    ap (λ l. x ∷ l) rest ∙ ap (λ n. n ∷ ys) e

put-among : (n j : ℕ) (ms : List ℕ) → Among (put_level n ms) j → (n ≡ j) ⊎ Among ms j
put-among n j [] h = h
put-among n j (m ∷ ms) h = go (n == m) (nat_lt m n) h (λ k. put-among n j ms k)
  where
    widen : (n ≡ j) ⊎ Among ms j → (n ≡ j) ⊎ Among (m ∷ ms) j
    widen (inl e) = inl e
    widen (inr k) = inr (inr k)

    go : (b c : Bool) → Among (cond b (m ∷ ms) (cond c (n ∷ m ∷ ms) (m ∷ put_level n ms))) j →
        (Among (put_level n ms) j → (n ≡ j) ⊎ Among ms j) → (n ≡ j) ⊎ Among (m ∷ ms) j
    go true c h ih = inr h
    go false true (inl e) ih = inl e
    go false true (inr k) ih = inr k
    go false false (inl e) ih = inr (inl e)
    go false false (inr k) ih = widen (ih k)

put-falls : (n : ℕ) (ms : List ℕ) → Falls ms → Falls (put_level n ms)
put-falls n [] f = ((λ m h. absurd h), tt)
put-falls n (m ∷ ms) f = go (n == m) refl (nat_lt m n) refl (put-falls n ms f.1)
  where
    below_front : m < n → (k : ℕ) → Among (m ∷ ms) k → k < n
    below_front lt k (inl e) = omega arith
    below_front lt k (inr i) = let under : k < m = f.0 k i in omega arith

    below_next : n < m → (k : ℕ) → (n ≡ k) ⊎ Among ms k → k < m
    below_next lt k (inl e) = omega arith
    below_next lt k (inr i) = f.0 k i

    differ : (n == m) ≡ false → n ≡ m → ⊥
    differ e same = eqb-false n m e same

    go : (b : Bool) → (n == m) ≡ b → (c : Bool) → nat_lt m n ≡ c → Falls (put_level n ms) →
        Falls (cond b (m ∷ ms) (cond c (n ∷ m ∷ ms) (m ∷ put_level n ms)))
    go true e c l ih = f
    go false e true l ih = (below_front (ltb-true m n l), f)
    go false e false l ih =
        let le = ltb-false m n l in
        let apart = differ e in
        let lt : n < m = omega (arith, le, apart) in
        ((λ k h. below_next lt k (put-among n k ms h)), ih)

-- levels in order fall
pub falling-falls : (ns : List ℕ) → Falls (falling_levels ns)
falling-falls [] = tt
falling-falls (n ∷ ns) = put-falls n (falling_levels ns) (falling-falls ns)

-- rising numbers read backwards

falls-last : (x : ℕ) (ns : List ℕ) → Falls ns → ((j : ℕ) → Among ns j → x < j) → Falls (ns ++ x ∷ [])
falls-last x [] f above = ((λ m h. absurd h), tt)
falls-last x (n ∷ ns) f above =
    ((λ m h. go m (among_parts ns (x ∷ []) m h)), falls-last x ns f.1 (λ j i. above j (inr i)))
  where
    go : (m : ℕ) → Among ns m ⊎ Among (x ∷ []) m → m < n
    go m (inl i) = f.0 m i
    go m (inr (inl e)) = let under : x < n = above n (inl refl) in omega arith
    go m (inr (inr i)) = absurd i

abbrev Rise : List ℕ → Type 0
Rise ns = AllPairs (λ x y. x < y) ns

rise-behind : (n : ℕ) (ns : List ℕ) → Rise (n ∷ ns) → Rise ns
rise-behind n ns up i j d before within = up (suc i) (suc j) d (omega arith) (omega arith)

rise-above : (n : ℕ) (ns : List ℕ) → Rise (n ∷ ns) → (j : ℕ) → Among ns j → n < j
rise-above n ns up j i =
    let w = among_contains ns j i in
    let within : w.0 < length ns = w.1 in
    let lt : n < get_or ns w.0 j = up zero (suc w.0) j (omega arith) (omega arith) in
    subst (λ k. n < k) w.2 lt

among_reverse : (ns : List ℕ) (j : ℕ) → Among (reverse ns) j → Among ns j
among_reverse ns j h =
    contains_among ns j
    (Contains-permutation (reverse ns) ns j (IsPermutation-sym ns (reverse ns) (IsPermutation-reverse ns))
    (among_contains (reverse ns) j h))

reverse_front : (n : ℕ) (ns : List ℕ) → reverse (n ∷ ns) ≡ reverse ns ++ n ∷ []
reverse_front n ns = reverse_onto ns n []

reverse-falls : (ns : List ℕ) → Rise ns → Falls (reverse ns)
reverse-falls [] up = tt
reverse-falls (n ∷ ns) up =
    subst Falls (sym (reverse_front n ns))
    (falls-last n (reverse ns) (reverse-falls ns (rise-behind n ns up)) (λ j h. rise-above n ns up j (among_reverse ns j h)))

-- Numbers that are sorted, each kept once and read backwards, are the levels in order.
pub sorted_in_order : (written sorted : List ℕ) → IsPermutation written sorted → IsSorted nat_cmp sorted →
    reverse (dedup eqb sorted) ≡ falling_levels written
sorted_in_order written sorted moved up =
    falls-same (reverse (dedup eqb sorted)) (falling_levels written)
    (reverse-falls (dedup eqb sorted) (AllPairs-from_increasing (dedup eqb sorted) (IsStrictlyIncreasing-dedup sorted up)))
    (falling-falls written) to from
  where
    to : (j : ℕ) → Among (reverse (dedup eqb sorted)) j → Among (falling_levels written) j
    to j h =
        falling-has written j (contains_among written j
        (Contains-permutation sorted written j (IsPermutation-sym written sorted moved)
        (Contains-from_dedup eqb sorted j (among_contains (dedup eqb sorted) j (among_reverse (dedup eqb sorted) j h)))))

    from : (j : ℕ) → Among (falling_levels written) j → Among (reverse (dedup eqb sorted)) j
    from j h =
        contains_among (reverse (dedup eqb sorted)) j
        (Contains-permutation (dedup eqb sorted) (reverse (dedup eqb sorted)) j (IsPermutation-reverse (dedup eqb sorted))
        (Contains-dedup_nat sorted j
        (Contains-permutation written sorted j moved (among_contains written j (falling-only written j h)))))
