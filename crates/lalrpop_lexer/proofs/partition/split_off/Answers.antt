use Rattle.std.proofs.Common.{◌≡◌, ◌<◌, ◌∙◌, arith, length, None, refl, sym}
use Rattle.std.proofs.lemmas.List.{get_or_default}
use Rattle.lalrpop_lexer.proofs.SplitLemmas.{split_known, split_new}
use Rattle.lalrpop_lexer.proofs.partition.split_off.Goals as goal

pub returns-then-split-to : goal.returns-then-split-to
returns-then-split-to c =
    let splits = c.args.splits.now.items in
    let inside : c.args.group < length splits = omega (arith, c.requires.group, c.args.splits.now.ok.0) in
    split_known splits c.args.group c.args.from c.args.to c.in-Some.split inside
    (get_or_default splits c.args.group None c.index.result.now inside ∙ sym c.index.ensures ∙ c.in-Some.is) c.if-split-from.true
    c.if-split-to.true c.requires.pairs

pub returns : goal.returns
returns c =
    let splits = c.args.splits.now.items in
    let last : c.len-new.result ≡ length splits = omega (arith, c.len-new.ensures, c.args.splits.now.ok.0) in
    rw (c.in_ok-push.ensures.items, last)
    (split_new splits c.args.group c.args.from c.args.to (record { from = c.args.from; to = c.args.to; group = length splits })
    (omega (arith, c.requires.group, c.args.splits.now.ok.0)) refl refl refl)
