-- A number in front of a bracket tells itself and where it ends; for the places in printed trees.
use Rattle.std.proofs.Common.{◌≡◌, ℕ, ◌<◌, ◌^◌, List, [], ◌∷◌, ◌++◌, arith, refl, ap, sym, ◌∙◌}
use Rattle.std.specs.Fmt.{decimal}
use Rattle.std.specs.Char.{digit_value}
use Rattle.std.specs.Str.Parse.{AllDigits}
use Rattle.std.proofs.lemmas.Fmt.{decimal_injective, decimal_is_IsNumeral}

-- a bracket is no digit
no_digit : (d : ℕ) → digit_value d < 10 → d ≡ 40 → ⊥
no_digit d h e = let value : digit_value d ≡ 36 = ap digit_value e in omega (arith, h, value)

-- equal lists have equal first elements
pub heads : (c d : ℕ) (u v : List ℕ) → c ∷ u ≡ d ∷ v → c ≡ d
heads c d u v e = cc

-- equal lists are equal behind their first elements
pub tails : (c d : ℕ) (u v : List ℕ) → c ∷ u ≡ d ∷ v → u ≡ v
tails c d u v e = cc

digits_end : (ds es a b : List ℕ) → AllDigits 10 ds → AllDigits 10 es → ds ++ 40 ∷ a ≡ es ++ 40 ∷ b → (ds ≡ es)
    × (a ≡ b)
digits_end [] [] a b h k e = (refl, tails 40 40 a b e)
digits_end [] (c ∷ es) a b h k e = absurd (no_digit c k.0 (sym (heads 40 c a (es ++ 40 ∷ b) e)))
digits_end (c ∷ ds) [] a b h k e = absurd (no_digit c h.0 (heads c 40 (ds ++ 40 ∷ a) b e))
digits_end (c ∷ ds) (d ∷ es) a b h k e =
    let more = digits_end ds es a b h.1 k.1 (tails c d (ds ++ 40 ∷ a) (es ++ 40 ∷ b) e) in
    (ap (λ x. x ∷ ds) (heads c d (ds ++ 40 ∷ a) (es ++ 40 ∷ b) e) ∙ ap (λ xs. d ∷ xs) more.0, more.1)

-- equal texts that begin with a number and `(` have equal numbers and equal rests
pub numbers_apart : (m n : ℕ) (a b : List ℕ) → m < 2 ^ 64 → n < 2 ^ 64 → decimal m ++ 40 ∷ a ≡ decimal n ++ 40 ∷ b
    → (m ≡ n) × (a ≡ b)
numbers_apart m n a b h k e =
    let parts = digits_end (decimal m) (decimal n) a b (decimal_is_IsNumeral m h).0.1 (decimal_is_IsNumeral n k).0.1 e in
    (decimal_injective m n h k parts.0, parts.1)
