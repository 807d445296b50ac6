use Rattle.std.proofs.Common.{◌≡◌, ◌+◌, ◌∙◌, arith, drop, sym, true, false}
use Rattle.std.specs.Str.{bytes_eq}
use Rattle.lalrpop_lr1_inline.proofs.RecordLemmas.{item_front}
use Rattle.lalrpop_lr1_inline.proofs.StepsLemmas.{looked_here, looked_on, other_bytes, same_bytes}
use Rattle.lalrpop_lr1_inline.proofs.steps.sources.Goals as goal

pub returns-then-eq : goal.returns-then-eq
returns-then-eq c =
    let n = c.args.name.now.0 in
    let xs = c.args.rules.now in
    let i = c.loop-key.key-index in
    let e = c.loop-key-item.result in
    let one = item_front xs i e c.loop-key-test.true c.loop-key-item.is in
    let same : bytes_eq e.0.0 n ≡ true = grind (arith, c.eq.ensures, c.if-eq.true, c.as_str.ensures, c.as_str-in-loop-key.ensures) in
    let here = looked_here n e (drop (i + 1) xs) (drop i xs) one (same_bytes e.0.0 n same) in
    c.in_ok-copies.ensures ∙ c.as_slice.ensures ∙ sym here ∙ c.loop-key.invariant

pub loop-key-preserved : goal.loop-key-preserved
loop-key-preserved c =
    let n = c.args.name.now.0 in
    let xs = c.args.rules.now in
    let i = c.loop-key.key-index in
    let e = c.loop-key-item.result in
    let one = item_front xs i e c.loop-key-test.true c.loop-key-item.is in
    let other : bytes_eq e.0.0 n ≡ false = grind (arith, c.eq.ensures, c.if-eq.false, c.as_str.ensures, c.as_str-in-loop-key.ensures) in
    sym (looked_on n e (drop (i + 1) xs) (drop i xs) one (other_bytes e.0.0 n other)) ∙ c.loop-key.invariant
