-- Levels in order: each is followed by the next tighter one, and the first is the loosest; for the rules of levels.
use Rattle.std.proofs.Common.{◌≡◌, ℕ, ◌<◌, Bool, true, false, List, [], ◌∷◌, refl, ap, sym, ◌∙◌, cond, arith, inl, inr}
use Rattle.std.proofs.lemmas.Bool.{eqb-true, ltb-true, ltb-false, lt-ltb}
use Rattle.std.specs.Prelude.{filter, nat_lt, ◌==◌}
use Rattle.lalrpop_grammar_language.specs.Among.{Among}
use Rattle.lalrpop_grammar_language.specs.Enabled.{EnabledRule}
use Rattle.lalrpop_grammar_language.specs.Levels.{levels, loosest, tighter}
use Rattle.lalrpop_norm_theory.specs.LeveledGrammar.{put_level, falling_levels, levels_in_order}
use Rattle.lalrpop_norm_theory.proofs.LevelOrderLemmas.{front, falling-front}
use Rattle.lalrpop_norm_precedence.proofs.OrderLemmas.{Falls, falling-falls}

-- the levels below another
abbrev below : ℕ → List ℕ → List ℕ
below j = filter (λ n. nat_lt n j)

all-kept : (m : ℕ) (ns : List ℕ) → ((k : ℕ) → Among ns k → k < m) → below m ns ≡ ns
all-kept m [] w = refl
all-kept m (n ∷ ns) w = go (nat_lt n m) refl (all-kept m ns (λ k i. w k (inr i)))
  where
    go : (b : Bool) → nat_lt n m ≡ b → below m ns ≡ ns → cond b (n ∷ below m ns) (below m ns) ≡ n ∷ ns
    go true e more = ap (λ l. n ∷ l) more
    go false e more = let over = ltb-false n m e in let under : n < m = w n (inl refl) in absurd (omega (arith, over, under))

-- each of the levels is followed by those of all that are below it
abbrev pub Follow : List ℕ → List ℕ → Type 0
Follow all [] = Unit {0}
Follow all (n ∷ ns) = (filter (λ m. nat_lt m n) all ≡ ns) × Follow all ns

follow-more : (m : ℕ) (all ns : List ℕ) → ((k : ℕ) → Among ns k → k < m) → Follow all ns → Follow (m ∷ all) ns
follow-more m all [] w h = tt
follow-more m all (n ∷ ns) w h = (go (nat_lt m n) refl, follow-more m all ns (λ k i. w k (inr i)) h.1)
  where
    go : (b : Bool) → nat_lt m n ≡ b → cond b (m ∷ below n all) (below n all) ≡ ns
    go true e = let over = ltb-true m n e in let under : n < m = w n (inl refl) in absurd (omega (arith, over, under))
    go false e = h.0

follow-falls : (ns : List ℕ) → Falls ns → Follow ns ns
follow-falls [] w = tt
follow-falls (n ∷ ns) w = (go (nat_lt n n) refl, follow-more n ns ns w.0 (follow-falls ns w.1))
  where
    go : (b : Bool) → nat_lt n n ≡ b → cond b (n ∷ below n ns) (below n ns) ≡ ns
    go true e = let self = ltb-true n n e in absurd (omega (arith, self))
    go false e = all-kept n ns w.0

-- so it is with the levels in order
pub levels-follow : (r : EnabledRule) → Follow (levels_in_order r) (levels_in_order r)
levels-follow r = follow-falls (levels_in_order r) (falling-falls (levels r))

-- the first is the greatest

-- the loosest level is the first
pub loosest-first : (r : EnabledRule) → loosest r ≡ front (levels_in_order r)
loosest-first r = sym (falling-front (levels r))

-- those below another, in order

below-yes : (j m : ℕ) (ms : List ℕ) → nat_lt m j ≡ true → below j (m ∷ ms) ≡ m ∷ below j ms
below-yes j m ms e = ap (λ b. cond b (m ∷ below j ms) (below j ms)) e

below-no : (j m : ℕ) (ms : List ℕ) → nat_lt m j ≡ false → below j (m ∷ ms) ≡ below j ms
below-no j m ms e = ap (λ b. cond b (m ∷ below j ms) (below j ms)) e

put-same : (n m : ℕ) (ms : List ℕ) → (n == m) ≡ true → put_level n (m ∷ ms) ≡ m ∷ ms
put-same n m ms e = ap (λ b. cond b (m ∷ ms) (cond (nat_lt m n) (n ∷ m ∷ ms) (m ∷ put_level n ms))) e

put-over : (n m : ℕ) (ms : List ℕ) → (n == m) ≡ false → nat_lt m n ≡ true → put_level n (m ∷ ms) ≡ n ∷ m ∷ ms
put-over n m ms e f =
    ap (λ b. cond b (m ∷ ms) (cond (nat_lt m n) (n ∷ m ∷ ms) (m ∷ put_level n ms))) e
    ∙ ap (λ c. cond c (n ∷ m ∷ ms) (m ∷ put_level n ms)) f

put-under : (n m : ℕ) (ms : List ℕ) → (n == m) ≡ false → nat_lt m n ≡ false → put_level n (m ∷ ms) ≡ m ∷ put_level n ms
put-under n m ms e f =
    ap (λ b. cond b (m ∷ ms) (cond (nat_lt m n) (n ∷ m ∷ ms) (m ∷ put_level n ms))) e
    ∙ ap (λ c. cond c (n ∷ m ∷ ms) (m ∷ put_level n ms)) f

put-kept : (j n : ℕ) → n < j → (ms : List ℕ) → below j (put_level n ms) ≡ put_level n (below j ms)
put-kept j n h [] = below-yes j n [] (lt-ltb n j h)
put-kept j n h (m ∷ ms) = go (n == m) refl (nat_lt m n) refl (put-kept j n h ms)
  where
    beside : (n == m) ≡ false → nat_lt m n ≡ false → (q : Bool) → nat_lt m j ≡ q
        → below j (put_level n ms) ≡ put_level n (below j ms)
        → below j (m ∷ put_level n ms) ≡ put_level n (below j (m ∷ ms))
    beside e f true g more =
        below-yes j m (put_level n ms) g ∙ ap (λ l. m ∷ l) more ∙ sym (put-under n m (below j ms) e f)
        ∙ ap (put_level n) (sym (below-yes j m ms g))
    beside e f false g more = below-no j m (put_level n ms) g ∙ more ∙ ap (put_level n) (sym (below-no j m ms g))

    go : (b : Bool) → (n == m) ≡ b → (c : Bool) → nat_lt m n ≡ c → below j (put_level n ms) ≡ put_level n (below j ms)
        → below j (put_level n (m ∷ ms)) ≡ put_level n (below j (m ∷ ms))
    go true e c f more =
        let same = eqb-true n m e in
        let under : nat_lt m j ≡ true = lt-ltb m j (omega (arith, h, same)) in
        ap (below j) (put-same n m ms e) ∙ below-yes j m ms under ∙ sym (put-same n m (below j ms) e)
        ∙ ap (put_level n) (sym (below-yes j m ms under))
    go false e true f more =
        let over = ltb-true m n f in
        let under : nat_lt m j ≡ true = lt-ltb m j (omega (arith, h, over)) in
        ap (below j) (put-over n m ms e f) ∙ below-yes j n (m ∷ ms) (lt-ltb n j h) ∙ ap (λ l. n ∷ l) (below-yes j m ms under)
        ∙ sym (put-over n m (below j ms) e f) ∙ ap (put_level n) (sym (below-yes j m ms under))
    go false e false f more = ap (below j) (put-under n m ms e f) ∙ beside e f (nat_lt m j) refl more

put-gone : (j n : ℕ) → nat_lt n j ≡ false → (ms : List ℕ) → below j (put_level n ms) ≡ below j ms
put-gone j n h [] = below-no j n [] h
put-gone j n h (m ∷ ms) = go (n == m) refl (nat_lt m n) refl (put-gone j n h ms)
  where
    beside : (q : Bool) → nat_lt m j ≡ q → below j (put_level n ms) ≡ below j ms
        → below j (m ∷ put_level n ms) ≡ below j (m ∷ ms)
    beside true g more = below-yes j m (put_level n ms) g ∙ ap (λ l. m ∷ l) more ∙ sym (below-yes j m ms g)
    beside false g more = below-no j m (put_level n ms) g ∙ more ∙ sym (below-no j m ms g)

    go : (b : Bool) → (n == m) ≡ b → (c : Bool) → nat_lt m n ≡ c → below j (put_level n ms) ≡ below j ms
        → below j (put_level n (m ∷ ms)) ≡ below j (m ∷ ms)
    go true e c f more = ap (below j) (put-same n m ms e)
    go false e true f more = ap (below j) (put-over n m ms e f) ∙ below-no j n (m ∷ ms) h
    go false e false f more = ap (below j) (put-under n m ms e f) ∙ beside (nat_lt m j) refl more

falling-below : (j : ℕ) (ns : List ℕ) → below j (falling_levels ns) ≡ falling_levels (below j ns)
falling-below j [] = refl
falling-below j (n ∷ ns) = go (nat_lt n j) refl (falling-below j ns)
  where
    go : (b : Bool) → nat_lt n j ≡ b → below j (falling_levels ns) ≡ falling_levels (below j ns)
        → below j (put_level n (falling_levels ns)) ≡ falling_levels (below j (n ∷ ns))
    go true e more =
        put-kept j n (ltb-true n j e) (falling_levels ns) ∙ ap (put_level n) more
        ∙ ap falling_levels (sym (below-yes j n ns e))
    go false e more = put-gone j n e (falling_levels ns) ∙ more ∙ ap falling_levels (sym (below-no j n ns e))

-- the next tighter level is the first of those that follow
pub tighter-first : (r : EnabledRule) (j : ℕ) (ns : List ℕ) → filter (λ m. nat_lt m j) (levels_in_order r) ≡ ns
    → tighter r j ≡ front ns
tighter-first r j ns e = sym (falling-front (below j (levels r))) ∙ ap front (sym (falling-below j (levels r)) ∙ e)
