use Rattle.std.proofs.Common.{◌≡◌, ℕ, List, ◌++◌}
use Rattle.std.specs.Fmt.{HasWritten, IsPlainFormatter}
use Rattle.lalrpop_json_grammar.specs.PrintedRows.{rows_to_come}
use Rattle.lalrpop_json_grammar.proofs.RowLemmas.{steps_left}
use Rattle.lalrpop_json_grammar.proofs.printing.write_rows.Given as goal

-- what is written and what is to come are the whole
abbrev pub invariant-loop-row : goal.invariant-loop-row
invariant-loop-row g l =
    IsPlainFormatter l.initial.f
    → (written : List ℕ) × HasWritten g.W.Write.write_str_gives l.initial.f written l.f
    × (written ++ rows_to_come l.pending.items ≡ rows_to_come l.initial.pending.items)

abbrev pub decreases-loop-row : goal.decreases-loop-row
decreases-loop-row g l = steps_left l.pending.items
