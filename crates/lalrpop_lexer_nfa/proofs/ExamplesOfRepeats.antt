-- The definitions of repeats computed on small patterns, beside answers that they refuse.
use Rattle.std.proofs.Common.{◌≡◌, ℕ, ◌+◌, [], ◌∷◌, length, Option, Some, None, unwrap_or, ◌⊎◌, inl, inr, true, refl, ap, arith}
use Rattle.lalrpop_lexer_pattern.specs.Matches.{Pattern}
use Rattle.lalrpop_lexer_pattern.specs.declared.tree.Look.TheVariants.{Start}
use Rattle.lalrpop_lexer_nfa.specs.Repeating.{HasEmptyWordAlone, HasOneCopy, copy_count, copies_in}

letter : Pattern
letter = Pattern.literal (97 ∷ [])

-- the word without characters is matched alone
empty_word : HasEmptyWordAlone Pattern.empty
empty_word = λ w. (λ e. e, λ e. e)

-- a letter, no branch and a look match another word, or none
letter_refused : HasEmptyWordAlone letter → ⊥
unfolding letter
letter_refused h = absurd (omega (arith, ap length ((h []).1 refl)))

no_branch_refused : HasEmptyWordAlone (Pattern.class []) → ⊥
no_branch_refused h = let m = (h []).1 refl in absurd (omega (arith, ap length m.1))

look_refused : HasEmptyWordAlone (Pattern.look Start) → ⊥
look_refused h = (h []).1 refl

-- a star, a plus sign, a question mark and a pattern as it stands have one copy
one_copies : HasOneCopy 0 None × (HasOneCopy 1 None × (HasOneCopy 0 (Some 1) × HasOneCopy 1 (Some 1)))
one_copies = (
  (omega arith, inl refl),
  ((omega arith, inl refl), ((omega arith, inr refl), (omega arith, inr refl))),
)

-- two at least, and two at most, have more; none at all has less
two_refused : HasOneCopy 2 None → ⊥
two_refused h = absurd (omega (arith, h.0))

apart : (n m : ℕ) → (Some n ≡ None) ⊎ (Some n ≡ Some m) → ((n ≡ m) ⊎ (n ≡ n + 1))
apart n m (inl e) = inr (ap (λ (o : Option ℕ). unwrap_or o (n + 1)) e)
apart n m (inr e) = inl (ap (λ (o : Option ℕ). unwrap_or o 0) e)

up_to_two_refused : HasOneCopy 0 (Some 2) → ⊥
up_to_two_refused h = let e = apart 2 1 h.1 in absurd (omega (arith, e))

none_refused : HasOneCopy 0 (Some 0) → ⊥
none_refused h = let e = apart 0 1 h.1 in absurd (omega (arith, e))

-- two of three are six copies, also in a group; of pieces side by side each counts by itself
six : copies_in (Pattern.repetition 2 (Some 2) true (Pattern.capture None (Pattern.repetition 3 None true letter))) ≡ 6
unfolding letter
six = refl

side_by_side : copies_in (Pattern.concat (Pattern.repetition 2 (Some 2) true letter) letter) ≡ 1
unfolding letter
side_by_side = refl

-- a star has one copy, and what stands no times has none
counts : (copy_count 0 None ≡ 1) × ((copy_count 4 None ≡ 4) × ((copy_count 1 (Some 3) ≡ 3) × (copy_count 0 (Some 0) ≡ 0)))
counts = (refl, (refl, (refl, refl)))
