-- Texts with numbers behind a tilde, and what tells them apart; for the names of levels.
use Rattle.std.proofs.Common.{◌≡◌, ℕ, zero, suc, ◌+◌, ◌-◌, ◌^◌, ◌<◌, ◌≤◌}
use Rattle.std.proofs.Common.{◌++◌, length, refl, ap, sym, ◌∙◌, arith}
use Rattle.std.specs.Prelude.{codes, decimal}
use Rattle.std.proofs.lemmas.Fmt.{decimal_injective}
use Rattle.std.proofs.lemmas.List.{append_cancel_left, length-append}
use Rattle.lalrpop_grammar_symbols.specs.Symbols.{Text}
use Rattle.lalrpop_norm_theory.specs.Keys.{with_number, before_tilde}
use Rattle.lalrpop_norm_theory.proofs.PackedNameLemmas.{number_cut}

-- a text that is taken for the first time stands alone
pub number_of_first : (t : Text) (n : ℕ) → n < 2 → with_number t (n - 1) ≡ t
number_of_first t n h = let e : n - 1 ≡ 0 = omega arith in ap (with_number t) e

-- from the second time on the number follows
pub number_of_next : (t : Text) (n : ℕ) → 2 ≤ n → with_number t (n - 1) ≡ t ++ codes "~" ++ decimal n
number_of_next t zero h = absurd (omega arith)
number_of_next t (suc zero) h = absurd (omega arith)
number_of_next t (suc (suc k)) h =
    let e : suc (suc k) - 1 ≡ suc k = omega arith in
    let f : k + 2 ≡ suc (suc k) = omega arith in
    ap (with_number t) e ∙ ap (λ m. t ++ codes "~" ++ decimal m) f

longer : (t d : Text) → t ≡ t ++ codes "~" ++ d → ⊥
longer t d e =
    let l : length t ≡ length (t ++ codes "~" ++ d) = ap length e in
    let m : length (t ++ codes "~" ++ d) ≡ length (t ++ codes "~") + length d = length-append (t ++ codes "~") d in
    let n : length (t ++ codes "~") ≡ length t + 1 = length-append t (codes "~") in
    omega arith

-- a text isn't the same with a number
pub no_number : (t : Text) (k : ℕ) → t ≡ with_number t (suc k) → ⊥
no_number t k e = longer t (decimal (k + 2)) e

same_number : (t : Text) (k m : ℕ) → k + 1 < 2 ^ 64 → m + 1 < 2 ^ 64 → with_number t k ≡ with_number t m → k ≡ m
same_number t zero zero h g e = refl
same_number t zero (suc m) h g e = absurd (no_number t m e)
same_number t (suc k) zero h g e = absurd (no_number t k (sym e))
same_number t (suc k) (suc m) h g e =
    let d : decimal (k + 2) ≡ decimal (m + 2) = append_cancel_left (t ++ codes "~") (decimal (k + 2)) (decimal (m + 2)) e in
    let n : k + 2 ≡ m + 2 = decimal_injective (k + 2) (m + 2) (omega arith) (omega arith) d in
    omega arith

-- a name tells its text, where that has no tilde, and its number
pub same_text_told : (t u : Text) (k m : ℕ) → before_tilde t ≡ t → before_tilde u ≡ u → with_number t k ≡ with_number u m →
    t ≡ u
same_text_told t u k m h g e = sym (number_cut t k h) ∙ ap before_tilde e ∙ number_cut u m g

-- two texts without a tilde that are the same with numbers behind them have the same number
pub same_number_told : (t u : Text) (k m : ℕ) → before_tilde t ≡ t → before_tilde u ≡ u → k + 1 < 2 ^ 64 → m + 1 < 2 ^ 64 →
    with_number t k ≡ with_number u m → k ≡ m
same_number_told t u k m h g a b e =
    same_number t k m a b (e ∙ ap (λ s. with_number s m) (sym (same_text_told t u k m h g e)))
