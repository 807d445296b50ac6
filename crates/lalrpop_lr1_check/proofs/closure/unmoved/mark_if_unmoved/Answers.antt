use Rattle.std.proofs.Common.{◌≡◌, Some, refl, slice_get}
use Rattle.lalrpop_lr1_first.specs.NumberedGrammars.{table_productions}
use Rattle.lalrpop_lr1_check.specs.UnmovedItems.{IsUnmovedAt}
use Rattle.lalrpop_lr1_check.proofs.ListedMarkLemmas.{listed_nothing, listed_same}
use Rattle.lalrpop_lr1_check.proofs.closure.unmoved.mark_if_unmoved.Goals as goal

pub returns-in_ok-known-clause-known : goal.returns-in_ok-known-clause-known
returns-in_ok-known-clause-known c =
    (λ e unmoved. c.in_ok-known.ensures.known.0 e, λ h. c.in_ok-known.ensures.known.1 (h c.if-item-eq0.true))

pub returns-in_ok-known-clause-marks : goal.returns-in_ok-known-clause-marks
returns-in_ok-known-clause-marks c =
    let t = c.args.table.now in
    let item = c.args.item.now in
    listed_same c.args.marks.now c.mark_production.new.marks
    (λ r. slice_get (table_productions t) r ≡ Some item.production.now) (IsUnmovedAt t item)
    (λ r. (λ at. (c.if-item-eq0.true, at), λ h. h.1)) c.in_ok-known.ensures.marks

pub returns-else-item-eq0-clause-known : goal.returns-else-item-eq0-clause-known
returns-else-item-eq0-clause-known c = (λ e unmoved. absurd (c.if-item-eq0.false unmoved), λ h. refl)

pub returns-else-item-eq0-clause-marks : goal.returns-else-item-eq0-clause-marks
returns-else-item-eq0-clause-marks c =
    listed_nothing c.args.marks.now (IsUnmovedAt c.args.table.now c.args.item.now) (λ r h. c.if-item-eq0.false h.0)
