-- One conflict more in the lines of conflicts: for the function that writes them.
use Rattle.std.proofs.Common.{◌≡◌, ◌∙◌, ◌<◌, ◌+◌, ◌++◌, ◌∷◌, ℕ, List, [], ap, append-nil}
use Rattle.std.proofs.Common.{append_assoc, get_or, length, sym, take}
use Rattle.std.proofs.lemmas.List.{take_more}
use Rattle.lalrpop_run_parser.specs.ConflictTexts.{conflict_lines, conflict_text}
use Rattle.lalrpop_run_parser.specs.declared.conflicts.written_conflict.WrittenConflict.{WrittenConflict}

lines_behind : (cs : List WrittenConflict) (c : WrittenConflict) →
    conflict_lines cs ++ conflict_text c ≡ conflict_lines (cs ++ c ∷ [])
lines_behind [] c = sym (append-nil (conflict_text c))
lines_behind (x ∷ xs) c =
    append_assoc (conflict_text x) (conflict_lines xs) (conflict_text c) ∙ ap (λ r. conflict_text x ++ r) (lines_behind xs c)

-- the lines of the first conflicts, with the next one's behind them, are those of one conflict more
pub lines_more : (cs : List WrittenConflict) (i : ℕ) (d : WrittenConflict) → i < length cs →
    conflict_lines (take i cs) ++ conflict_text (get_or cs i d) ≡ conflict_lines (take (i + 1) cs)
lines_more cs i d h = lines_behind (take i cs) (get_or cs i d) ∙ ap conflict_lines (sym (take_more cs i d h))
