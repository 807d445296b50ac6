-- Different texts that are those of some numbers: each number below as many has one; for the numbers that rules have.
use Rattle.std.specs.Str.{bytes_eq}
use Rattle.std.proofs.Common.{◌≡◌, ℕ, zero, suc, ◌<◌, ◌≤◌, List, [], ◌∷◌, length, refl, ap, sym, ◌∙◌}
use Rattle.std.proofs.Common.{subst, cond, not}
use Rattle.std.proofs.Common.{Bool, true, false, inl, inr, ◌⊎◌, arith}
use Rattle.std.specs.Prelude.{filter, ◌||◌}
use Rattle.std.proofs.lemmas.Bool.{true≢false, or_parts}
use Rattle.lalrpop_grammar_symbols.specs.Symbols.{Text}
use Rattle.lalrpop_grammar_language.specs.Among.{Among}
use Rattle.lalrpop_grammar_language.specs.Enabled.{has_text}
use Rattle.lalrpop_grammar_language.proofs.ComparisonLemmas.{same_text-refl}
use Rattle.lalrpop_grammar_language.proofs.PlaceLemmas.{among_filter, same_text-eq}
use Rattle.lalrpop_norm_theory.specs.Premises.{AreDifferent}
use Rattle.lalrpop_grammar_language.proofs.AmongLemmas.{found_text}

-- a part of different texts

pub none_filter : (p : Text → Bool) (n : Text) (ns : List Text) → has_text n ns ≡ false → has_text n (filter p ns) ≡ false
none_filter p n [] h = refl
none_filter p n (m ∷ ms) h =
    let w = or_parts (bytes_eq n m) (has_text n ms) h in go (p m) w.0 (none_filter p n ms w.1)
  where
    go : (b : Bool) → bytes_eq n m ≡ false → has_text n (filter p ms) ≡ false →
        has_text n (cond b (m ∷ filter p ms) (filter p ms)) ≡ false
    go true e ih = ap (λ b. b || has_text n (filter p ms)) e ∙ ih
    go false e ih = ih

pub differ_filter : (p : Text → Bool) (ns : List Text) → AreDifferent ns → AreDifferent (filter p ns)
differ_filter p [] d = tt
differ_filter p (n ∷ ns) d = go (p n) (none_filter p n ns d.0) (differ_filter p ns d.1)
  where
    go : (b : Bool) → has_text n (filter p ns) ≡ false → AreDifferent (filter p ns) →
        AreDifferent (cond b (n ∷ filter p ns) (filter p ns))
    go true h ih = (h, ih)
    go false h ih = ih

-- all but one text

abbrev is_other : Text → Text → Bool
is_other s n = not (bytes_eq s n)

abbrev without : Text → List Text → List Text
without s ns = filter (is_other s) ns

nothing_gone : (s : Text) (ns : List Text) → has_text s ns ≡ false → without s ns ≡ ns
nothing_gone s [] h = refl
nothing_gone s (n ∷ ns) h =
    let w = or_parts (bytes_eq s n) (has_text s ns) h in
    ap (λ b. cond (not b) (n ∷ without s ns) (without s ns)) w.0 ∙ ap (λ l. n ∷ l) (nothing_gone s ns w.1)

-- at most one is gone
one_gone : (s : Text) (ns : List Text) → AreDifferent ns → length ns ≤ suc (length (without s ns))
one_gone s [] d = omega arith
one_gone s (n ∷ ns) d = go (bytes_eq s n) refl (one_gone s ns d.1)
  where
    go : (b : Bool) → bytes_eq s n ≡ b → length ns ≤ suc (length (without s ns)) →
        length (n ∷ ns) ≤ suc (length (cond (not b) (n ∷ without s ns) (without s ns)))
    go true e ih =
        let same : without s ns ≡ ns =
        nothing_gone s ns (subst (λ t. has_text t ns ≡ false) (sym (same_text-eq s n e)) d.0) in
        let many : length (without s ns) ≡ length ns = ap length same in
        omega (arith, many)
    go false e ih = omega (arith, ih)

is_left : (s n : Text) (ns : List Text) → Among (without s ns) n → Among ns n × (s ≡ n → ⊥)
is_left s n ns i =
    let w = among_filter (is_other s) ns n i in (w.0, λ e. apart e w.1)
  where
    apart : s ≡ n → not (bytes_eq s n) ≡ true → ⊥
    apart e h =
        let same : bytes_eq s n ≡ true = subst (λ t. bytes_eq s t ≡ true) e (same_text-refl s) in
        let wrong : false ≡ true = sym (ap not same) ∙ h in
        true≢false (sym wrong)

-- numbers

-- each of the texts is that of a number below
abbrev pub AreBelow : (ℕ → Text) → ℕ → List Text → Type 0
AreBelow w m ns = (n : Text) → Among ns n → (j : ℕ) × (j < m) × (w j ≡ n)

last_or_before : (j m : ℕ) → j < suc m → (j ≡ m) ⊎ (j < m)
last_or_before j m l = grind (arith, l)

below_last : (w : ℕ → Text) (m : ℕ) (ns : List Text) → AreBelow w (suc m) ns → AreBelow w m (without (w m) ns)
below_last w m ns h n i =
    let k = is_left (w m) n ns i in
    let u = h n k.0 in
    go u.0 (last_or_before u.0 m u.1) u.2 k.1
  where
    go : (j : ℕ) → (j ≡ m) ⊎ (j < m) → w j ≡ n → (w m ≡ n → ⊥) → (j : ℕ) × (j < m) × (w j ≡ n)
    go j (inl e) is other = absurd (other (ap w (sym e) ∙ is))
    go j (inr l) is other = (j, l, is)

-- there are at most as many
at_most : (w : ℕ → Text) (m : ℕ) (ns : List Text) → AreDifferent ns → AreBelow w m ns → length ns ≤ m
at_most w zero [] d h = omega arith
at_most w zero (n ∷ ns) d h = let u = h n (inl refl) in absurd (let lt : u.0 < 0 = u.1 in omega (arith, lt))
at_most w (suc m) ns d h =
    let less = at_most w m (without (w m) ns) (differ_filter (is_other (w m)) ns d) (below_last w m ns h) in
    let one = one_gone (w m) ns d in
    omega (arith, less, one)

-- and fewer, where a number's is missing
fewer : (w : ℕ → Text) (k m : ℕ) (ns : List Text) → AreDifferent ns → AreBelow w m ns → k < m → (Among ns (w k) → ⊥) →
    length ns < m
fewer w k zero ns d h lt none = absurd (omega (arith, lt))
fewer w k (suc m) ns d h lt none =
    go (last_or_before k m lt) (λ l. fewer w k m (without (w m) ns) (differ_filter (is_other (w m)) ns d) (below_last w m ns h) l
    (λ i. none (is_left (w m) (w k) ns i).0))
  where
    below_missing : k ≡ m → AreBelow w m ns
    below_missing e n i = let u = h n i in at u.0 (last_or_before u.0 m u.1) u.2
      where
        at : (j : ℕ) → (j ≡ m) ⊎ (j < m) → w j ≡ n → (j : ℕ) × (j < m) × (w j ≡ n)
        at j (inl f) is = absurd (none (subst (Among ns) (sym is ∙ ap w (f ∙ sym e)) i))
        at j (inr l) is = (j, l, is)

    go : (k ≡ m) ⊎ (k < m) → (k < m → length (without (w m) ns) < m) → length ns < suc m
    go (inl e) less = let a = at_most w m ns d (below_missing e) in omega (arith, a)
    go (inr l) less =
        let a = less l in
        let one = one_gone (w m) ns d in
        omega (arith, a, one)

-- where there are as many, each number has its text
pub each_there : (w : ℕ → Text) (k m : ℕ) (ns : List Text) → AreDifferent ns → AreBelow w m ns → length ns ≡ m → k < m →
    Among ns (w k)
each_there w k m ns d h many lt = go (has_text (w k) ns) refl
  where
    missing : has_text (w k) ns ≡ false → Among ns (w k) → ⊥
    missing e i = absurd_by ns i e
      where
        absurd_by : (ms : List Text) → Among ms (w k) → has_text (w k) ms ≡ false → ⊥
        absurd_by [] j f = j
        absurd_by (m ∷ ms) (inl same) f =
            let p = or_parts (bytes_eq (w k) m) (has_text (w k) ms) f in
            true≢false (sym (subst (λ t. bytes_eq t m ≡ true) same (same_text-refl m)) ∙ p.0)
        absurd_by (m ∷ ms) (inr j) f = absurd_by ms j (or_parts (bytes_eq (w k) m) (has_text (w k) ms) f).1

    go : (b : Bool) → has_text (w k) ns ≡ b → Among ns (w k)
    go true e = found_text (w k) ns e
    go false e = let less = fewer w k m ns d h lt (missing e) in absurd (omega (arith, less, many))
