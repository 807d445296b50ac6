use Rattle.std.proofs.Common.{◌≡◌, ◌∙◌, false, length, sym, true}
use Rattle.lalrpop_lr1_check.specs.MarkGains.{IsMarkOfSome}
use Rattle.lalrpop_lr1_check.specs.UnmovedItems.{IsUnmovedAt}
use Rattle.lalrpop_lr1_check.proofs.ListedMarkLemmas.{gained_for, listed_gained}
use Rattle.lalrpop_lr1_check.proofs.UnmovedLemmas.{parts_unmoved, unmoved_alike}
use Rattle.lalrpop_lr1_check.proofs.closure.unmoved.are_items_of_names.Goals as goal

pub take_back-requires : goal.take_back-requires
take_back-requires c = c.requires.productions.listed

pub mark_unmoved-requires-clause-count : goal.mark_unmoved-requires-clause-count
mark_unmoved-requires-clause-count c = c.take_back.ensures.count ∙ c.requires.productions.long

pub are_of_marked_names-are-requires-clause-productions : goal.are_of_marked_names-are-requires-clause-productions
are_of_marked_names-are-requires-clause-productions c =
    (c.in_ok-known.ensures.marks c.if-known.true).listed c.take_back.ensures.listed

pub returns-then-known-clause-are : goal.returns-then-known-clause-are
returns-then-known-clause-are c =
    let t = c.args.table.now in
    let names = c.args.names.now.marks.items in
    let items = c.args.items.now in
    let own = c.mark_unmoved.new.marks in
    let known = c.in_ok-known.ensures.known.0 c.if-known.true in
    let marks = listed_gained c.take_back.new.self own (IsMarkOfSome (IsUnmovedAt t) items) c.take_back.ensures.empty
    (c.in_ok-known.ensures.marks c.if-known.true) in
    let says = c.are_of_marked_names-are.ensures in (
      λ e. parts_unmoved t names own.marks.items items marks known (says.0 e),
      λ a. says.1 (unmoved_alike t names own.marks.items items marks a),
    )

pub returns-then-known-clause-productions : goal.returns-then-known-clause-productions
returns-then-known-clause-productions c = λ are.
    let t = c.args.table.now in
    gained_for c.take_back.new.self c.mark_unmoved.new.marks (IsMarkOfSome (IsUnmovedAt t) c.args.items.now)
    (length t.productions.items)
    (record { long = c.take_back.ensures.count ∙ c.requires.productions.long; listed = c.take_back.ensures.listed })
    (c.in_ok-known.ensures.marks c.if-known.true)

pub returns-else-known-clause-are : goal.returns-else-known-clause-are
returns-else-known-clause-are c = (
  λ e. let w : ⊥ = cc in absurd w,
  λ a.
      let both : true ≡ false = sym (c.in_ok-known.ensures.known.1 a.known) ∙ c.if-known.false in
      let w : ⊥ = cc in absurd w,
)
