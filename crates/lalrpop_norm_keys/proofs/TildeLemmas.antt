-- What `split_once` leaves of a name in front of its first tilde; for the texts of keys.
use Rattle.std.proofs.Common.{◌≡◌, ℕ, suc, ◌+◌, [], ◌∷◌, refl, ap, ◌∙◌, Bool, true, false, cond, take}
use Rattle.std.proofs.Common.{length, arith}
use Rattle.std.proofs.Math.Bool.{not}
use Rattle.std.specs.Prelude.{◌==◌}
use Rattle.std.specs.List.{before_first, position_or_len}
use Rattle.lalrpop_grammar_symbols.specs.Symbols.{Text}
use Rattle.lalrpop_norm_theory.specs.Keys.{before_tilde}

abbrev is_tilde : ℕ → Bool
is_tilde c = c == 126

-- what stands before the first tilde
pub cut_at_tilde : (n : Text) → before_first is_tilde n ≡ before_tilde n
cut_at_tilde [] = refl
cut_at_tilde (c ∷ cs) = go (is_tilde c) (cut_at_tilde cs)
  where
    go : (b : Bool) → take (position_or_len is_tilde cs) cs ≡ before_tilde cs
        → take (cond (not b) (1 + position_or_len is_tilde cs) 0) (c ∷ cs) ≡ cond b [] (c ∷ before_tilde cs)
    go true e = refl
    go false e =
        let next : 1 + position_or_len is_tilde cs ≡ suc (position_or_len is_tilde cs) = omega arith in
        ap (λ k. take k (c ∷ cs)) next ∙ ap (λ l. c ∷ l) e

-- a name without one is left
pub no_tilde : (n : Text) → position_or_len is_tilde n ≡ length n → n ≡ before_tilde n
no_tilde [] e = refl
no_tilde (c ∷ cs) e = go (is_tilde c) e (λ f. no_tilde cs f)
  where
    go : (b : Bool) → cond (not b) (1 + position_or_len is_tilde cs) 0 ≡ suc (length cs)
        → (position_or_len is_tilde cs ≡ length cs → cs ≡ before_tilde cs) → c ∷ cs ≡ cond b [] (c ∷ before_tilde cs)
    go true f later = let wrong : ⊥ = omega (arith, f) in absurd wrong
    go false f later = ap (λ l. c ∷ l) (later (omega (arith, f)))
