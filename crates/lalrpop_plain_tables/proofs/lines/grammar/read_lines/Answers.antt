use Rattle.std.proofs.Common.{◌+◌, arith, length, rules}
use Rattle.std.proofs.lemmas.Iterator.Consumers.{YieldsList-turn}
use Rattle.std.proofs.lemmas.Iterator.Splits.{YieldsList-from_lines}
use Rattle.lalrpop_plain_tables.proofs.LineLemmas.{fault_of_line, lines_few}
use Rattle.lalrpop_plain_tables.proofs.lines.grammar.read_lines.Goals as goal

pub overflow_add-number : goal.overflow_add-number
overflow_add-number c =
    let t = YieldsList-turn (YieldsList-from_lines c.args.text.now cc) c.loop-line.yielded _ c.loop-line.yielded_by _ _ c.in-Some.line
    c.in-Some.is c.next.ensures.steps in
    omega (arith, t.0, lines_few c.args.text.now, c.loop-line.invariant.counted)

pub returns-in_err-read_line : goal.returns-in_err-read_line
returns-in_err-read_line c =
    let t = YieldsList-turn (YieldsList-from_lines c.args.text.now cc) c.loop-line.yielded _ c.loop-line.yielded_by _ _ c.in-Some.line
    c.in-Some.is c.next.ensures.steps in
    let fault = fault_of_line c.args.text.now c.in-Some.line.now c.trim-line.result.now (length c.loop-line.yielded)
    (c.loop-line.number + 1) (length c.loop-line.reading.actions) c.in_err-read_line.field-0.0 t.0 t.1
    (omega (arith, c.loop-line.invariant.counted)) c.loop-line.invariant.few c.trim-line.ensures.trim
    (grind (arith, c.is_empty.ensures, c.if-not-is_empty.true)) c.in_err-read_line.ensures.fault in
    search rules
