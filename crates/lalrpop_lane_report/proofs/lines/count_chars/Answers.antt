use Rattle.std.proofs.Common.{◌≡◌, ◌<◌, ◌≤◌, ◌∙◌, ap, arith, length, rules}
use Rattle.std.specs.Fmt.{char_count}
use Rattle.lalrpop_lane_report.proofs.CharacterLemmas.{next_byte, no_byte}
use Rattle.lalrpop_lane_report.proofs.lines.count_chars.Goals as goal

pub loop-byte-preserved : goal.loop-byte-preserved
loop-byte-preserved c =
    let items = c.as_bytes-byte-items.result.now in
    let inside : c.loop-byte.byte-index < length items = search rules in
    let next = next_byte items c.loop-byte.byte-index inside in
    let begun = c.chars_begun-count.ensures.value in
    (omega (arith, c.loop-byte.invariant.0, next, begun), omega (arith, c.loop-byte.invariant.1, c.chars_begun-count.ensures.bound))

pub returns : goal.returns
returns c =
    let items = c.as_bytes-byte-items.result.now in
    let past : length items ≤ c.loop-byte.byte-index = search rules in
    let none = no_byte items c.loop-byte.byte-index past in
    let all : c.loop-byte.count ≡ char_count items = omega (arith, c.loop-byte.invariant.0, none) in
    all ∙ ap char_count c.as_bytes-byte-items.ensures.value
