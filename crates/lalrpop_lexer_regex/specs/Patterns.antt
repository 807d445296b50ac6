-- Patterns: branches of pieces, and groups.
use Rattle.std.specs.Prelude.{ℕ, zero, suc, ◌+◌, true, false, ◌==◌, List, [], ◌∷◌, ◌++◌, length, Some, None, Ok, Err}
use Rattle.std.specs.Prelude.{if◌then◌else◌}
use Rattle.std.specs.Option.{option_map_or}
use Rattle.std.specs.Borrow.{Bor}
use Rattle.lalrpop_lexer_pattern.specs.Matches.{Pattern, concat_all, alternation_all}
use Rattle.lalrpop_lexer_pattern.specs.Meaning.{meaning}
use Rattle.lalrpop_lexer_pattern.specs.declared.tree.Hir.{Hir}
use Rattle.lalrpop_lexer_regex.specs.declared.flags.Flags.{Flags}
use Rattle.lalrpop_lexer_regex.specs.declared.classes.fault.PatternFaultKind.TheVariants.{Unsupported}
use Rattle.lalrpop_lexer_regex.specs.Outcome.{Reading, syntax_fault, ◌>>=◌, after_at, closing_at}
use Rattle.lalrpop_lexer_regex.specs.FlagSyntax.{flags_from}
use Rattle.lalrpop_lexer_regex.specs.Repeats.{begins_repeat, repeats_read}
use Rattle.lalrpop_lexer_regex.specs.GroupNames.{group_name_at, name_mark_at}
use Rattle.lalrpop_lexer_regex.specs.Atoms.{plain_atom_at}

-- a pattern and the flags from there on, and the text after it
abbrev pub atom_read : (Hir × Flags) × Bor (List ℕ) → (Pattern × Flags) × List ℕ
atom_read x = ((meaning x.0.0, x.0.1), x.1.now)

-- pieces one after another; one piece is itself
abbrev pub concat_of : List Pattern → Pattern
concat_of [] = Pattern.empty
concat_of (p ∷ []) = p
concat_of (p ∷ q ∷ ps) = concat_all (p ∷ q ∷ ps)

-- one of some branches; one branch is itself
abbrev pub one_of : List Pattern → Pattern
one_of [] = alternation_all []
one_of (p ∷ []) = p
one_of (p ∷ q ∷ ps) = alternation_all (p ∷ q ∷ ps)

-- the repetitions that follow a pattern, at most so many
unfoldable pub repeats_from : ℕ → Pattern → List ℕ → Reading Pattern
repeats_from zero p t = syntax_fault t
repeats_from (suc n) p [] = Ok (p, [])
repeats_from (suc n) p (c ∷ t) =
    if begins_repeat c then (repeats_read (c ∷ t) >>= λ x. repeats_from n (Pattern.repetition x.0.0 x.0.1.0 x.0.1.1 p) x.1) else Ok
    (p, c ∷ t)

-- branches and pieces up to a closing bracket or the end, at most so many; the flags go on from piece to piece and from branch to branch
unfoldable pub branches_from : (Flags → List ℕ → Reading (Pattern × Flags)) → ℕ → List Pattern → List Pattern → Flags
    → List ℕ → Reading Pattern
branches_from piece zero branches pieces f t = syntax_fault t
branches_from piece (suc n) branches pieces f [] = Ok (one_of (branches ++ concat_of pieces ∷ []), [])
branches_from piece (suc n) branches pieces f (c ∷ t) =
    if c == 41 then Ok (one_of (branches ++ concat_of pieces ∷ []), c ∷ t)
    else (if c == 124 then branches_from piece n (branches ++ concat_of pieces ∷ []) [] f t
    else (piece f (c ∷ t) >>= λ x. branches_from piece n branches (pieces ++ x.0.0 ∷ []) x.0.1 x.1))

-- an atom and the repetitions that follow it
unfoldable pub factor_with : (Flags → List ℕ → Reading (Pattern × Flags)) → Flags → List ℕ → Reading (Pattern × Flags)
factor_with atom f t = atom f t >>= λ x. repeats_from (length x.1 + 1) x.0.0 x.1 >>= λ y. Ok ((y.0, x.0.1), y.1)

unfoldable pub pattern_with : (Flags → List ℕ → Reading (Pattern × Flags)) → Flags → List ℕ → Reading Pattern
pattern_with atom f t = branches_from (factor_with atom) (length t + 1) [] [] f t

-- after `(?`: a named group, a group without a number, flags for a pattern, or flags from here on
unfoldable pub special_group_with : (Flags → List ℕ → Reading Pattern) → Flags → List ℕ → Reading (Pattern × Flags)
special_group_with inner f t =
    option_map_or (λ r. group_name_at r >>= λ n. inner f n.1 >>= λ x. Ok ((Pattern.capture (Some n.0) x.0, f), x.1)) (name_mark_at t)
    (option_map_or (λ r. inner f r >>= λ x. Ok ((x.0, f), x.1)) (after_at 58 t)
    (flags_from true false f t >>= λ y. if y.0.1 then (inner y.0.0 y.1 >>= λ x. Ok ((x.0, f), x.1)) else Ok
    ((Pattern.empty, y.0.0), y.1)))

-- after `(`; the flags after a group are those before it
unfoldable pub pattern_group_with : (Flags → List ℕ → Reading Pattern) → Flags → List ℕ → Reading (Pattern × Flags)
pattern_group_with inner f t =
    option_map_or (λ r. special_group_with inner f r) (after_at 63 t) (inner f t >>= λ x. Ok ((Pattern.capture None x.0, f), x.1))

-- a group, or another atom; so many levels of groups and classes may be opened
unfoldable pub atom_with : (Flags → ℕ → List ℕ → Reading Pattern) → ℕ → Flags → List ℕ → Reading (Pattern × Flags)
atom_with inner depth f t =
    option_map_or (λ r. pattern_group_with (λ g s. inner g (length t) s) f r) (after_at 40 t)
    (plain_atom_at depth f t >>= λ x. Ok ((x.0, f), x.1))

-- the pattern in a group and the closing bracket; so much text is left at the opening one
unfoldable pub inner_at : ℕ → Flags → ℕ → List ℕ → Reading Pattern
inner_at zero f left t = Err (Unsupported, left)
inner_at (suc d) f left t = pattern_with (atom_with (inner_at d) d) f t >>= λ x. closing_at 41 x.1 >>= λ r. Ok (x.0, r)

abbrev pub special_group_at : ℕ → Flags → ℕ → List ℕ → Reading (Pattern × Flags)
special_group_at d f left = special_group_with (λ g s. inner_at d g left s) f

abbrev pub pattern_group_at : ℕ → Flags → ℕ → List ℕ → Reading (Pattern × Flags)
pattern_group_at d f left = pattern_group_with (λ g s. inner_at d g left s) f

abbrev pub atom_at : ℕ → Flags → List ℕ → Reading (Pattern × Flags)
atom_at d = atom_with (inner_at d) d

abbrev pub factor_at : ℕ → Flags → List ℕ → Reading (Pattern × Flags)
factor_at d = factor_with (atom_at d)

abbrev pub pattern_at : ℕ → Flags → List ℕ → Reading Pattern
pattern_at d = pattern_with (atom_at d)
