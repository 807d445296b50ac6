-- Computed examples of texts with their patterns and faults, and two wrong answers, to test the definition.
use Rattle.std.proofs.Common.{◌≡◌, true, false, Result, [], ◌∷◌, None, Ok, Err, refl}
use Rattle.std.specs.Prelude.{ℕ, codes}
use Rattle.lalrpop_lexer_pattern.specs.Matches.{Pattern, concat_all, alternation_all}
use Rattle.lalrpop_lexer_regex.specs.declared.classes.fault.PatternFaultKind.TheVariants.{Syntax, BadRange}
use Rattle.lalrpop_lexer_regex.specs.Outcome.{Fault}
use Rattle.lalrpop_lexer_regex.specs.Atoms.{one_character, plain_atom_at}
use Rattle.lalrpop_lexer_regex.specs.Repeats.{upper_at, bounds_at, repeat_sign_at, repeats_read}
use Rattle.lalrpop_lexer_regex.specs.Patterns.{repeats_from, branches_from, factor_with, pattern_with, pattern_group_with, atom_with}
use Rattle.lalrpop_lexer_regex.specs.Patterns.{inner_at}
use Rattle.lalrpop_lexer_regex.specs.Regex.{whole_pattern}

abbrev letter : ℕ → Pattern
letter c = Pattern.literal (c ∷ [])

branches : whole_pattern (codes "ab|c") ≡ Ok (alternation_all (concat_all (letter 97 ∷ letter 98 ∷ []) ∷ letter 99 ∷ []))
unfolding whole_pattern pattern_with branches_from factor_with atom_with plain_atom_at one_character repeats_from
branches = refl

lazy : whole_pattern (codes "a+?") ≡ Ok (Pattern.repetition 1 None false (letter 97))
unfolding whole_pattern pattern_with branches_from factor_with atom_with plain_atom_at one_character repeats_from repeats_read
    repeat_sign_at
lazy = refl

bounds_fall : whole_pattern (codes "a{3,2}") ≡ Err (BadRange, 5)
unfolding whole_pattern pattern_with branches_from factor_with atom_with plain_atom_at one_character repeats_from repeats_read
    repeat_sign_at bounds_at upper_at
bounds_fall = refl

unclosed : whole_pattern (codes "(a") ≡ Err (Syntax, 0)
unfolding whole_pattern pattern_with branches_from factor_with atom_with pattern_group_with inner_at plain_atom_at one_character
    repeats_from
unclosed = refl

-- a lazy repetition isn't greedy
not_greedy : whole_pattern (codes "a+?") ≡ Ok (Pattern.repetition 1 None true (letter 97)) → ⊥
not_greedy e = let same : Ok (Pattern.repetition 1 None false (letter 97))
    ≡ Ok (Pattern.repetition 1 None true (letter 97)) = rw lazy at e in absurd (cc)

abbrev refused : Result Pattern Fault
refused = Err (Syntax, 0)

-- a group that isn't closed has no pattern
not_closed : (p : Pattern) → whole_pattern (codes "(a") ≡ Ok p → ⊥
not_closed p e = let same : refused ≡ Ok p = rw unclosed at e in absurd (cc)
