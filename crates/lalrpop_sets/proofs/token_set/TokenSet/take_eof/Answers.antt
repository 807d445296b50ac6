use Rattle.std.proofs.Common.{◌&&◌, ◌∙◌, not, eqb, ap, sym}
use Rattle.lalrpop_sets.specs.AscendingLists.{has}
use Rattle.lalrpop_sets.proofs.TokenSetLemmas.{asc_set, end_taken, endless, endless_has, out_has, out_ranges, out_was}
use Rattle.lalrpop_sets.proofs.token_set.TokenSet.take_eof.Goals as goal

pub invariant_of-self : goal.invariant_of-self
invariant_of-self c = endless c.self.inside.ranges.items c.self.inside.end _ c.self.invariant

pub returns-then-is_end-clause-was : goal.returns-then-is_end-clause-was
returns-then-is_end-clause-was c =
    sym (ap (λ s. has s c.eof_bit-number.result) (sym c.self.view_is)
    ∙ end_taken c.self.inside.ranges.items c.self.inside.end _ c.self.invariant c.eof_bit-number.result (sym c.is_end.ensures ∙ c.if-is_end.true))
    ∙ ap (has c.args.self.now) c.eof_bit-number.ensures.number

pub returns-then-is_end-clause-gone : goal.returns-then-is_end-clause-gone
returns-then-is_end-clause-gone c j =
    endless_has c.self.inside.ranges.items c.self.inside.end _ c.self.invariant c.eof_bit-number.result (sym c.is_end.ensures ∙ c.if-is_end.true) j
    ∙ ap (λ s. not (eqb j c.eof_bit-number.result) && has s j) c.self.view_is
    ∙ ap (λ n. not (eqb j n) && has c.args.self.now j) c.eof_bit-number.ensures.number

pub returns-then-is_end-clause-ordered : goal.returns-then-is_end-clause-ordered
returns-then-is_end-clause-ordered c =
    asc_set c.self.inside.ranges.items _ _ (endless c.self.inside.ranges.items c.self.inside.end _ c.self.invariant)

pub invariant_of-self-2 : goal.invariant_of-self-2
invariant_of-self-2 c =
    out_ranges c.self.inside.ranges.items c.self.inside.end _ c.self.invariant c.take_out.new.ranges.items _ c.eof_bit-number.result c.take_out.ensures.apart
    c.take_out.ensures.gone c.take_out.ensures.room

pub returns-clause-was : goal.returns-clause-was
returns-clause-was c =
    c.take_out.ensures.was
    ∙ out_was c.self.inside.ranges.items c.self.inside.end _ c.self.invariant c.eof_bit-number.result (sym c.is_end.ensures ∙ c.if-is_end.false)
    ∙ ap (λ s. has s c.eof_bit-number.result) c.self.view_is ∙ ap (has c.args.self.now) c.eof_bit-number.ensures.number

pub returns-clause-gone : goal.returns-clause-gone
returns-clause-gone c j =
    out_has c.self.inside.ranges.items c.self.inside.end _ c.self.invariant c.take_out.new.ranges.items _ c.eof_bit-number.result
    (sym c.is_end.ensures ∙ c.if-is_end.false)
    (out_ranges c.self.inside.ranges.items c.self.inside.end _ c.self.invariant c.take_out.new.ranges.items _ c.eof_bit-number.result
    c.take_out.ensures.apart c.take_out.ensures.gone c.take_out.ensures.room) c.take_out.ensures.gone j
    ∙ ap (λ s. not (eqb j c.eof_bit-number.result) && has s j) c.self.view_is
    ∙ ap (λ n. not (eqb j n) && has c.args.self.now j) c.eof_bit-number.ensures.number

pub returns-clause-ordered : goal.returns-clause-ordered
returns-clause-ordered c =
    asc_set c.take_out.new.ranges.items c.self.inside.end _
    (out_ranges c.self.inside.ranges.items c.self.inside.end _ c.self.invariant c.take_out.new.ranges.items _ c.eof_bit-number.result
    c.take_out.ensures.apart c.take_out.ensures.gone c.take_out.ensures.room)
