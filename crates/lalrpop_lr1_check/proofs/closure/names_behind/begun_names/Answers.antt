use Rattle.std.proofs.Common.{◌≡◌, ◌∙◌, Some, ap, length, slice_get}
use Rattle.lalrpop_lr1_first.specs.FirstNumbers.{name_count}
use Rattle.lalrpop_lr1_first.specs.NumberedGrammars.{table_names}
use Rattle.lalrpop_lr1_check.proofs.BeginLemmas.{closed_marks}
use Rattle.lalrpop_lr1_check.proofs.ListedMarkLemmas.{gained_for, listed_gained}
use Rattle.lalrpop_lr1_check.proofs.NamesBehindLemmas.{start_marks}
use Rattle.lalrpop_lr1_check.proofs.closure.names_behind.begun_names.Goals as goal

pub mark_name-requires-clause-count : goal.mark_name-requires-clause-count
mark_name-requires-clause-count c = c.in_ok-names.ensures.marks.long ∙ ap length c.names.ensures

pub close_names-requires-clause-names : goal.close_names-requires-clause-names
close_names-requires-clause-names c =
    let t = c.args.table.now in
    let start = c.args.start.now in
    gained_for c.in_ok-names.names c.mark_name.new.names (λ s. slice_get (table_names t) s ≡ Some start) (name_count t)
    (record { long = c.in_ok-names.ensures.marks.long ∙ ap length c.names.ensures; listed = c.in_ok-names.ensures.marks.listed })
    c.in_ok-mark_name.ensures

pub returns-clause-marks : goal.returns-clause-marks
returns-clause-marks c =
    let t = c.args.table.now in
    let start = c.args.start.now in
    let none = c.in_ok-names.names in
    let first = c.mark_name.new.names in
    closed_marks t c.requires.table first.marks.items (λ A. A ≡ start.0)
    (start_marks t c.requires.table first.marks.items start
    (listed_gained none first (λ s. slice_get (table_names t) s ≡ Some start) c.in_ok-names.ensures.empty c.in_ok-mark_name.ensures))
    c.close_names.new.names.marks.items c.in_ok-close_names.ensures.closed
