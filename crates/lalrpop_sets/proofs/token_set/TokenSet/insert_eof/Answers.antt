use Rattle.std.proofs.Common.{◌||◌, ◌∙◌, Some, eqb, ap, sym}
use Rattle.lalrpop_sets.specs.AscendingLists.{has}
use Rattle.lalrpop_sets.specs.Tokens.{eof_number}
use Rattle.lalrpop_sets.proofs.TokenSetLemmas.{asc_set, comes_not, new_end, new_end_has, none_is}
use Rattle.lalrpop_sets.proofs.token_set.TokenSet.insert_eof.Goals as goal

pub returns-then-contains_number-clause-set : goal.returns-then-contains_number-clause-set
returns-then-contains_number-clause-set c =
    comes_not c.args.self.now (eof_number c.args.terminals.now)
    (ap (has c.args.self.now) (sym c.eof_bit-number.ensures.number) ∙ sym c.contains_number.ensures.answer ∙ c.if-contains_number.true)

pub invariant_of-self : goal.invariant_of-self
invariant_of-self c =
    new_end c.self.inside.ranges.items c.self.inside.end _ c.in_ok-end.end c.args.self.now c.self.invariant
    (none_is c.self.inside.end (sym c.is_some.ensures ∙ c.if-is_some.false)) c.self.view_is
    (ap (has c.args.self.now) c.in_ok-end.ensures ∙ sym c.contains_number.ensures.answer ∙ c.if-contains_number.false)

pub returns-clause-set : goal.returns-clause-set
returns-clause-set c j =
    new_end_has c.self.inside.ranges.items c.self.inside.end _ c.in_ok-end.end c.args.self.now c.self.invariant
    (none_is c.self.inside.end (sym c.is_some.ensures ∙ c.if-is_some.false)) c.self.view_is
    (ap (has c.args.self.now) c.in_ok-end.ensures ∙ sym c.contains_number.ensures.answer ∙ c.if-contains_number.false) j
    ∙ ap (λ n. eqb j n || has c.args.self.now j) (c.in_ok-end.ensures ∙ c.eof_bit-number.ensures.number)

pub returns-clause-ordered : goal.returns-clause-ordered
returns-clause-ordered c =
    asc_set c.self.inside.ranges.items (Some c.in_ok-end.end) _
    (new_end c.self.inside.ranges.items c.self.inside.end _ c.in_ok-end.end c.args.self.now c.self.invariant
    (none_is c.self.inside.end (sym c.is_some.ensures ∙ c.if-is_some.false)) c.self.view_is
    (ap (has c.args.self.now) c.in_ok-end.ensures ∙ sym c.contains_number.ensures.answer ∙ c.if-contains_number.false))
