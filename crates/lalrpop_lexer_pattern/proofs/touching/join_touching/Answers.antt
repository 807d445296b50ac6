use Rattle.std.proofs.Common.{◌↔◌, ◌<◌, ◌≤◌, arith, length, subst, sym}
use Rattle.lalrpop_lexer_pattern.specs.Ranges.{InRanges, IsCanonical}
use Rattle.lalrpop_lexer_pattern.proofs.TouchingLemmas.{joined_canonical, joined_members, kept_below, kept_joined, kept_more}
use Rattle.lalrpop_lexer_pattern.proofs.touching.join_touching.Goals as goal

pub keep-kept-requires-clause-below : goal.keep-kept-requires-clause-below
keep-kept-requires-clause-below c =
    let now = c.loop-index.ranges.items in
    let inside : c.loop-index.index < length now =
    omega (arith, c.loop-index-test.true, c.len-index-end.ensures, c.loop-index.invariant.count) in
    kept_below c.args.ranges.now.items c.requires now c.loop-index.kept c.loop-index.index c.index-range.result.now
    c.loop-index.invariant inside c.index-range.ensures

pub loop-index-preserved : goal.loop-index-preserved
loop-index-preserved c =
    let now = c.loop-index.ranges.items in
    let new = c.keep-kept.new.ranges.items in
    let inside : c.loop-index.index < length now =
    omega (arith, c.loop-index-test.true, c.len-index-end.ensures, c.loop-index.invariant.count) in
    kept_more c.args.ranges.now.items c.requires now c.loop-index.kept c.loop-index.index c.index-range.result.now
    c.loop-index.invariant inside c.index-range.ensures new c.keep-kept.result c.keep-kept.ensures.count
    c.keep-kept.ensures.grows c.keep-kept.ensures.rest c.keep-kept.ensures.kept

pub returns-clause-canonical : goal.returns-clause-canonical
returns-clause-canonical c =
    let given = c.args.ranges.now.items in
    let past : length given ≤ c.loop-index.index = omega (arith, c.loop-index-test.false, c.len-index-end.ensures) in
    subst IsCanonical (sym c.truncate.ensures.items)
    (joined_canonical given _
    (kept_joined given c.requires c.loop-index.ranges.items c.loop-index.kept c.loop-index.index c.loop-index.invariant past))

pub returns-clause-members : goal.returns-clause-members
returns-clause-members c = λ n.
    let given = c.args.ranges.now.items in
    let past : length given ≤ c.loop-index.index = omega (arith, c.loop-index-test.false, c.len-index-end.ensures) in
    subst (λ l. InRanges l n ↔ InRanges given n) (sym c.truncate.ensures.items)
    (joined_members given _
    (kept_joined given c.requires c.loop-index.ranges.items c.loop-index.kept c.loop-index.index c.loop-index.invariant past) n)
