use Rattle.std.proofs.Common.{◌∙◌}
use Rattle.lalrpop_lr1_theory.specs.NameClosures.{IsMovedItem, IsNameBehindDot}
use Rattle.lalrpop_lr1_first.specs.FirstNumbers.{name_count}
use Rattle.lalrpop_lr1_check.specs.MarkGains.{IsMarkOfSome}
use Rattle.lalrpop_lr1_check.specs.NamesBehind.{HasSeenItem, IsNumberBehind}
use Rattle.lalrpop_lr1_check.proofs.BeginLemmas.{closed_marks}
use Rattle.lalrpop_lr1_check.proofs.ListedMarkLemmas.{gained_for, listed_gained}
use Rattle.lalrpop_lr1_check.proofs.NamesBehindLemmas.{behind_marks}
use Rattle.lalrpop_lr1_check.proofs.closure.names_behind.mark_brought_names.Goals as goal

pub take_back-requires : goal.take_back-requires
take_back-requires c = c.requires.names.listed

pub mark_names_behind-requires-clause-count : goal.mark_names_behind-requires-clause-count
mark_names_behind-requires-clause-count c = c.take_back.ensures.count ∙ c.requires.names.long

pub close_names-requires-clause-names : goal.close_names-requires-clause-names
close_names-requires-clause-names c =
    let t = c.args.table.now in
    gained_for c.take_back.new.self c.mark_names_behind.new.names (IsMarkOfSome (IsNumberBehind t) c.args.items.now) (name_count t)
    (record { long = c.take_back.ensures.count ∙ c.requires.names.long; listed = c.take_back.ensures.listed })
    c.in_ok-mark_names_behind.ensures

pub returns-clause-marks : goal.returns-clause-marks
returns-clause-marks c =
    let t = c.args.table.now in
    let items = c.args.items.now in
    let first = c.mark_names_behind.new.names in
    closed_marks t c.requires.table first.marks.items (IsNameBehindDot (IsMovedItem (HasSeenItem items)))
    (behind_marks t c.requires.table first.marks.items items
    (listed_gained c.take_back.new.self first (IsMarkOfSome (IsNumberBehind t) items) c.take_back.ensures.empty
    c.in_ok-mark_names_behind.ensures))
    c.close_names.new.names.marks.items c.in_ok-close_names.ensures.closed
