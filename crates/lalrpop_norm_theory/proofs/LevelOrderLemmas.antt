-- The levels of a rule in order, and rules found by names that differ; for the laws of levels.
use Rattle.std.specs.Str.{bytes_eq}
use Rattle.std.proofs.Common.{◌≡◌, ℕ, List, [], ◌∷◌, refl, ap, sym, ◌∙◌, subst, cond, Bool, true, false, inl, inr}
use Rattle.std.proofs.Common.{◌⊎◌, arith}
use Rattle.std.specs.Prelude.{Option, Some, None, map, filter, max, nat_lt, ◌==◌}
use Rattle.std.proofs.lemmas.Bool.{eqb-true, ltb-true, ltb-false, true≢false, or_parts}
use Rattle.lalrpop_grammar_symbols.specs.Symbols.{Text}
use Rattle.lalrpop_grammar_language.specs.Among.{Among}
use Rattle.lalrpop_grammar_language.specs.Enabled.{EnabledGrammar, EnabledRule, IsRule, has_name, has_text}
use Rattle.lalrpop_grammar_language.specs.Levels.{greatest, larger, levels, loosest}
use Rattle.lalrpop_grammar_language.specs.Closing.{Meaning, name_meaning, name_meaning_in}
use Rattle.lalrpop_grammar_language.proofs.ComparisonLemmas.{same_text-refl}
use Rattle.lalrpop_grammar_language.proofs.PlaceLemmas.{same_text-eq}
use Rattle.lalrpop_norm_theory.specs.Premises.{AreDifferent}
use Rattle.lalrpop_grammar_language.proofs.AmongLemmas.{map_among, text_found}
use Rattle.lalrpop_norm_theory.specs.LeveledGrammar.{put_level, falling_levels, levels_in_order}
use Rattle.lalrpop_norm_theory.specs.LevelNames.{after_first}

-- levels in order

put-has : (n : ℕ) (ms : List ℕ) → Among (put_level n ms) n
put-has n [] = inl refl
put-has n (m ∷ ms) = go (n == m) refl (nat_lt m n) (put-has n ms)
  where
    go : (b : Bool) → (n == m) ≡ b → (c : Bool) → Among (put_level n ms) n →
        Among (cond b (m ∷ ms) (cond c (n ∷ m ∷ ms) (m ∷ put_level n ms))) n
    go true e c ih = inl (sym (eqb-true n m e))
    go false e true ih = inl refl
    go false e false ih = inr ih

put-keeps : (n j : ℕ) (ms : List ℕ) → Among ms j → Among (put_level n ms) j
put-keeps n j [] h = absurd h
put-keeps n j (m ∷ ms) h = go (n == m) (nat_lt m n) h (λ k. put-keeps n j ms k)
  where
    go : (b c : Bool) → Among (m ∷ ms) j → (Among ms j → Among (put_level n ms) j) →
        Among (cond b (m ∷ ms) (cond c (n ∷ m ∷ ms) (m ∷ put_level n ms))) j
    go true c h ih = h
    go false true h ih = inr h
    go false false (inl e) ih = inl e
    go false false (inr k) ih = inr (ih k)

-- and no other but it
pub put-only : (n j : ℕ) (ms : List ℕ) → Among (put_level n ms) j → (n ≡ j) ⊎ Among ms j
put-only n j [] h = h
put-only n j (m ∷ ms) h = go (n == m) (nat_lt m n) h (λ k. put-only n j ms k)
  where
    widen : (n ≡ j) ⊎ Among ms j → (n ≡ j) ⊎ Among (m ∷ ms) j
    widen (inl e) = inl e
    widen (inr k) = inr (inr k)

    go : (b c : Bool) → Among (cond b (m ∷ ms) (cond c (n ∷ m ∷ ms) (m ∷ put_level n ms))) j →
        (Among (put_level n ms) j → (n ≡ j) ⊎ Among ms j) → (n ≡ j) ⊎ Among (m ∷ ms) j
    go true c h ih = inr h
    go false true (inl e) ih = inl e
    go false true (inr k) ih = inr k
    go false false (inl e) ih = inr (inl e)
    go false false (inr k) ih = widen (ih k)

-- each level is in the order
pub falling-has : (ns : List ℕ) (j : ℕ) → Among ns j → Among (falling_levels ns) j
falling-has [] j h = h
falling-has (n ∷ ns) j (inl e) = subst (λ k. Among (put_level n (falling_levels ns)) k) e (put-has n (falling_levels ns))
falling-has (n ∷ ns) j (inr h) = put-keeps n j (falling_levels ns) (falling-has ns j h)

-- and no other
pub falling-only : (ns : List ℕ) (j : ℕ) → Among (falling_levels ns) j → Among ns j
falling-only [] j h = h
falling-only (n ∷ ns) j h = go (put-only n j (falling_levels ns) h) (λ k. falling-only ns j k)
  where
    go : (n ≡ j) ⊎ Among (falling_levels ns) j → (Among (falling_levels ns) j → Among ns j) → Among (n ∷ ns) j
    go (inl e) ih = inl e
    go (inr k) ih = inr (ih k)

abbrev pub front : List ℕ → Option ℕ
front [] = None
front (n ∷ ns) = Some n

pub put-front : (n : ℕ) (ms : List ℕ) → front (put_level n ms) ≡ larger n (front ms)
put-front n [] = refl
put-front n (m ∷ ms) = go (n == m) refl (nat_lt m n) refl
  where
    go : (b : Bool) → (n == m) ≡ b → (c : Bool) → nat_lt m n ≡ c →
        front (cond b (m ∷ ms) (cond c (n ∷ m ∷ ms) (m ∷ put_level n ms))) ≡ Some (max n m)
    go true e c f = let h : n ≡ m = eqb-true n m e in ap Some (let k : m ≡ max n m = omega (arith, h) in k)
    go false e true f = let h = ltb-true m n f in ap Some (let k : n ≡ max n m = omega (arith, h) in k)
    go false e false f = let h = ltb-false m n f in ap Some (let k : m ≡ max n m = omega (arith, h) in k)

pub falling-front : (ns : List ℕ) → front (falling_levels ns) ≡ greatest ns
falling-front [] = refl
falling-front (n ∷ ns) = put-front n (falling_levels ns) ∙ ap (λ o. larger n o) (falling-front ns)

-- a level is the loosest, or one of those after it
pub loosest_or_tighter : (r : EnabledRule) (j : ℕ) → Among (levels r) j →
    (loosest r ≡ Some j) ⊎ Among (after_first (levels_in_order r)) j
loosest_or_tighter r j h = go (levels_in_order r) (falling-front (levels r)) (falling-has (levels r) j h)
  where
    go : (ns : List ℕ) → front ns ≡ loosest r → Among ns j → (loosest r ≡ Some j) ⊎ Among (after_first ns) j
    go [] e i = absurd i
    go (n ∷ ns) e (inl f) = inl (sym e ∙ ap Some f)
    go (n ∷ ns) e (inr i) = inr i

-- and each of those is a level
pub tighter-among : (r : EnabledRule) (j : ℕ) → Among (after_first (levels_in_order r)) j → Among (levels r) j
tighter-among r j h = falling-only (levels r) j (go (levels_in_order r) h)
  where
    go : (ns : List ℕ) → Among (after_first ns) j → Among ns j
    go [] i = i
    go (n ∷ ns) i = inr i

-- the greatest of some numbers is one of them
pub greatest-among : (ns : List ℕ) (m : ℕ) → greatest ns ≡ Some m → Among ns m
greatest-among [] m e = cc
greatest-among (n ∷ ns) m e = go (greatest ns) (λ k h. greatest-among ns k h) e
  where
    either_one : (k : ℕ) → (b : Bool) → nat_lt k n ≡ b → Some (max n k) ≡ Some m → Among ns k → Among (n ∷ ns) m
    either_one k true f h i =
        let lt = ltb-true k n f in
        let same : max n k ≡ m = cc in inl (let g : n ≡ m = omega (arith, lt, same) in g)
    either_one k false f h i =
        let le = ltb-false k n f in
        let same : max n k ≡ m = cc in inr (subst (λ a. Among ns a) (let g : k ≡ m = omega (arith, le, same) in g) i)

    go : (o : Option ℕ) → ((k : ℕ) → o ≡ Some k → Among ns k) → larger n o ≡ Some m → Among (n ∷ ns) m
    go None ih h = let same : n ≡ m = cc in inl same
    go (Some k) ih h = either_one k (nat_lt k n) refl h (ih k refl)

-- the loosest level is one of the rule's
pub loosest-among : (r : EnabledRule) (m : ℕ) → loosest r ≡ Some m → Among (levels r) m
loosest-among r m e = greatest-among (levels r) m e

-- where there is a level, there is a loosest one
pub has_greatest : (n : ℕ) (ns : List ℕ) → (m : ℕ) × (greatest (n ∷ ns) ≡ Some m)
has_greatest n ns = go (greatest ns)
  where
    go : (o : Option ℕ) → (m : ℕ) × (larger n o ≡ Some m)
    go None = (n, refl)
    go (Some k) = (max n k, refl)

-- names that differ

none_named : (n : Text) (rs : List EnabledRule) → has_text n (map (λ r. r.name) rs) ≡ false → filter (has_name n) rs ≡ []
none_named n [] h = refl
none_named n (r ∷ rs) h = go (has_name n r) refl (none_named n rs (or_parts (bytes_eq n r.name) (has_text n (map (λ q. q.name) rs)) h).1)
  where
    go : (b : Bool) → has_name n r ≡ b → filter (has_name n) rs ≡ [] →
        cond b (r ∷ filter (has_name n) rs) (filter (has_name n) rs) ≡ []
    go true e ih =
        let same : bytes_eq n r.name ≡ true =
        subst (λ t. bytes_eq n t ≡ true) (sym (same_text-eq r.name n e)) (same_text-refl n) in
        let other = (or_parts (bytes_eq n r.name) (has_text n (map (λ q. q.name) rs)) h).0 in
        absurd (true≢false (sym same ∙ other))
    go false e ih = ih

-- where names differ, each rule is the one of its name
pub one_named : (rs : List EnabledRule) (q : EnabledRule) → AreDifferent (map (λ r. r.name) rs) → Among rs q →
    filter (has_name q.name) rs ≡ q ∷ []
one_named [] q d h = absurd h
one_named (r ∷ rs) q d (inl e) = go (has_name q.name r) refl
  where
    rest_none : filter (has_name q.name) rs ≡ []
    rest_none = none_named q.name rs (subst (λ x. has_text x.name (map (λ p. p.name) rs) ≡ false) e d.0)

    go : (b : Bool) → has_name q.name r ≡ b → cond b (r ∷ filter (has_name q.name) rs) (filter (has_name q.name) rs) ≡ q ∷ []
    go true f = ap (λ l. r ∷ l) rest_none ∙ ap (λ x. x ∷ []) e
    go false f = absurd (true≢false (sym (subst (λ x. bytes_eq x.name q.name ≡ true) (sym e) (same_text-refl q.name)) ∙ f))
one_named (r ∷ rs) q d (inr i) = go (has_name q.name r) refl (one_named rs q d.1 i)
  where
    go : (b : Bool) → has_name q.name r ≡ b → filter (has_name q.name) rs ≡ q ∷ [] →
        cond b (r ∷ filter (has_name q.name) rs) (filter (has_name q.name) rs) ≡ q ∷ []
    go true f ih =
        let same : r.name ≡ q.name = same_text-eq r.name q.name f in
        let there = text_found q.name (map (λ p. p.name) rs) (map_among (λ p. p.name) rs q i) in
        absurd (true≢false (sym (subst (λ t. has_text t (map (λ p. p.name) rs) ≡ true) (sym same) there) ∙ d.0))
    go false f ih = ih

-- what a name means where a rule has it
pub rule_meant : (h : EnabledGrammar) (n : Text) (q : EnabledRule) → IsRule h n q → name_meaning h n ≡ Meaning.rule q
rule_meant h n q i = ap (λ l. name_meaning_in l (has_text n h.bares)) i ∙ by_bare (has_text n h.bares)
  where
    by_bare : (b : Bool) → name_meaning_in (q ∷ []) b ≡ Meaning.rule q
    by_bare true = refl
    by_bare false = refl

-- and back
pub meant_rule : (g : EnabledGrammar) (n : Text) (r : EnabledRule) → name_meaning g n ≡ Meaning.rule r → IsRule g n r
meant_rule g n r e = go (filter (has_name n) g.rules) (has_text n g.bares) e
  where
    go : (rs : List EnabledRule) (b : Bool) → name_meaning_in rs b ≡ Meaning.rule r → rs ≡ r ∷ []
    go [] true e = cc
    go [] false e = cc
    go (q ∷ []) true e = let same : q ≡ r = cc in ap (λ x. x ∷ []) same
    go (q ∷ []) false e = let same : q ≡ r = cc in ap (λ x. x ∷ []) same
    go (q ∷ p ∷ rs) true e = cc
    go (q ∷ p ∷ rs) false e = cc

-- one name has one rule
pub one_rule : (g : EnabledGrammar) (n : Text) (q p : EnabledRule) → IsRule g n q → IsRule g n p → q ≡ p
one_rule g n q p i j = let e : q ∷ [] ≡ p ∷ [] = sym i ∙ j in cc
