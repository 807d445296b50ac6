-- Texts with numbers behind a tilde, where a text doesn't end in a digit; for the names of keys.
use Rattle.std.proofs.Common.{◌≡◌, ℕ, zero, suc, ◌+◌, ◌^◌, ◌<◌, ◌≤◌, [], ◌∷◌, ◌++◌, length, refl}
use Rattle.std.proofs.Common.{ap, sym, ◌∙◌}
use Rattle.std.proofs.Common.{Bool, true, false, cond, arith}
use Rattle.std.specs.Prelude.{◌==◌, codes, decimal}
use Rattle.std.proofs.lemmas.Bool.{true≢false}
use Rattle.std.proofs.lemmas.Fmt.{decimal_injective}
use Rattle.std.proofs.lemmas.List.{append_assoc, append_cancel_left, length-append}
use Rattle.lalrpop_grammar_symbols.specs.Symbols.{Text}
use Rattle.lalrpop_norm_theory.specs.Keys.{with_number, before_tilde}
use Rattle.lalrpop_norm_theory.specs.LevelNames.{numbered_text}
use Rattle.lalrpop_norm_theory.proofs.PackedNameLemmas.{numbered_stays}
use Rattle.lalrpop_norm_precedence.proofs.NumberLemmas.{no_number}
use Rattle.lalrpop_norm_theory.proofs.LastLemmas.{ends_in_digit, numbered_end}

-- cutting twice cuts no more
pub cut_again : (n : Text) → before_tilde (before_tilde n) ≡ before_tilde n
cut_again [] = refl
cut_again (c ∷ cs) = go (c == 126) refl (cut_again cs)
  where
    go : (b : Bool) → (c == 126) ≡ b → before_tilde (before_tilde cs) ≡ before_tilde cs →
        before_tilde (cond b [] (c ∷ before_tilde cs)) ≡ cond b [] (c ∷ before_tilde cs)
    go true e ih = refl
    go false e ih = ap (λ b. cond b [] (c ∷ before_tilde (before_tilde cs))) e ∙ ap (λ l. c ∷ l) ih

-- what is left is the front of a name
pub cut_front : (n : Text) → (rest : Text) × (n ≡ before_tilde n ++ rest)
cut_front [] = ([], refl)
cut_front (c ∷ cs) = go (c == 126) (cut_front cs)
  where
    go : (b : Bool) → ((rest : Text) × (cs ≡ before_tilde cs ++ rest)) →
        (rest : Text) × (c ∷ cs ≡ cond b [] (c ∷ before_tilde cs) ++ rest)
    go true ih = (c ∷ cs, refl)
    go false ih = (ih.0, ap (λ l. c ∷ l) ih.1)

cut_short : (t d : Text) → length (before_tilde (t ++ (126 ∷ d))) ≤ length t
cut_short [] d = omega arith
cut_short (c ∷ t) d = go (c == 126) (cut_short t d)
  where
    go : (b : Bool) → length (before_tilde (t ++ (126 ∷ d))) ≤ length t →
        length (cond b [] (c ∷ before_tilde (t ++ (126 ∷ d)))) ≤ length (c ∷ t)
    go true ih = omega arith
    go false ih = omega (arith, ih)

-- a text with a tilde isn't what stands before it
has_tilde : (t d : Text) → before_tilde (t ++ (126 ∷ d)) ≡ t ++ (126 ∷ d) → ⊥
has_tilde t d e =
    let a = cut_short t d in
    let b : length (before_tilde (t ++ (126 ∷ d))) ≡ length (t ++ (126 ∷ d)) = ap length e in
    let c : length (t ++ (126 ∷ d)) ≡ length t + length (126 ∷ d) = length-append t (126 ∷ d) in
    omega (arith, a, b, c)

-- the last tilde parts a text
last_tilde : (t u d e : Text) → before_tilde d ≡ d → before_tilde e ≡ e → t ++ (126 ∷ d) ≡ u ++ (126 ∷ e) → t ≡ u
last_tilde [] [] d e p q h = refl
last_tilde [] (c ∷ u) d e p q h =
    let same : d ≡ u ++ (126 ∷ e) = cc in
    absurd (has_tilde u e (ap before_tilde (sym same) ∙ p ∙ same))
last_tilde (c ∷ t) [] d e p q h =
    let same : t ++ (126 ∷ d) ≡ e = cc in
    absurd (has_tilde t d (ap before_tilde same ∙ q ∙ sym same))
last_tilde (c ∷ t) (b ∷ u) d e p q h =
    let first : c ≡ b = cc in
    let rest : t ++ (126 ∷ d) ≡ u ++ (126 ∷ e) = cc in
    ap (λ k. k ∷ t) first ∙ ap (λ l. b ∷ l) (last_tilde t u d e p q rest)

decimal_clear : (n : ℕ) → before_tilde (decimal n) ≡ decimal n
decimal_clear n = numbered_stays [] n refl

-- a number ends in a digit
number_end : (t : Text) (k : ℕ) → ends_in_digit (with_number t (suc k)) ≡ true
number_end t k = numbered_end (t ++ codes "~") (k + 2) 0

-- a text with a number above zero is the text, and behind it a tilde and the digits of one number more
pub spread : (t : Text) (k : ℕ) → with_number t (suc k) ≡ t ++ (126 ∷ decimal (k + 2))
spread t k = append_assoc t (codes "~") (decimal (k + 2))

both_numbered : (t u : Text) (k m : ℕ) → with_number t (suc k) ≡ with_number u (suc m) → t ≡ u
both_numbered t u k m e =
    last_tilde t u (decimal (k + 2)) (decimal (m + 2)) (decimal_clear (k + 2)) (decimal_clear (m + 2))
    (sym (spread t k) ∙ e ∙ spread u m)

-- a name tells its text, where that doesn't end in a digit
pub same_text_told : (t u : Text) (k m : ℕ) → ends_in_digit t ≡ false → ends_in_digit u ≡ false →
    with_number t k ≡ with_number u m → t ≡ u
same_text_told t u zero zero h g e = e
same_text_told t u zero (suc m) h g e = absurd (true≢false (sym (number_end u m) ∙ ap ends_in_digit (sym e) ∙ h))
same_text_told t u (suc k) zero h g e = absurd (true≢false (sym (number_end t k) ∙ ap ends_in_digit e ∙ g))
same_text_told t u (suc k) (suc m) h g e = both_numbered t u k m e

-- and it isn't the name of another text without a tilde
pub clear_text_told : (t u : Text) (k m : ℕ) → ends_in_digit t ≡ false → before_tilde u ≡ u →
    with_number t k ≡ with_number u m → t ≡ u
clear_text_told t u zero zero h g e = e
clear_text_told t u zero (suc m) h g e = absurd (true≢false (sym (number_end u m) ∙ ap ends_in_digit (sym e) ∙ h))
clear_text_told t u (suc k) zero h g e =
    let same : u ≡ t ++ (126 ∷ decimal (k + 2)) = sym e ∙ spread t k in
    absurd (has_tilde t (decimal (k + 2)) (ap before_tilde (sym same) ∙ g ∙ same))
clear_text_told t u (suc k) (suc m) h g e = both_numbered t u k m e

-- one text has different names for different numbers
pub one_number : (t : Text) (k m : ℕ) → k + 1 < 2 ^ 64 → m + 1 < 2 ^ 64 → with_number t k ≡ with_number t m → k ≡ m
one_number t zero zero h g e = refl
one_number t zero (suc m) h g e = absurd (no_number t m e)
one_number t (suc k) zero h g e = absurd (no_number t k (sym e))
one_number t (suc k) (suc m) h g e =
    let d : decimal (k + 2) ≡ decimal (m + 2) = append_cancel_left (t ++ codes "~") (decimal (k + 2)) (decimal (m + 2)) e in
    let n : k + 2 ≡ m + 2 = decimal_injective (k + 2) (m + 2) (omega arith) (omega arith) d in
    omega (arith, n)

-- the name of a level ends in a digit, and no text does that doesn't
pub level_told : (t base : Text) (level k m : ℕ) → ends_in_digit t ≡ false → before_tilde base ≡ base →
    with_number t k ≡ with_number (numbered_text base level) m → ⊥
level_told t base level k m h g e =
    let same = clear_text_told t (numbered_text base level) k m h (numbered_stays base level g) e in
    true≢false (sym (numbered_end base level 0) ∙ ap ends_in_digit (sym same) ∙ h)
