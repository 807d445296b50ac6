use Rattle.std.proofs.Common.{◌+◌, ◌<◌, length, arith}
use Rattle.std.proofs.lemmas.List.{get_or_read}
use Rattle.lalrpop_lexer_regex.proofs.PlaceLemmas.{encodes_more, encodes_within}
use Rattle.lalrpop_lexer_regex.proofs.regex.fault_byte.Goals as goal

pub overflow_add-at : goal.overflow_add-at
overflow_add-at c =
    let cs = c.args.characters.now in
    let i = c.loop-i.i in
    let h : i < length cs = omega arith in
    omega (
      arith,
      encodes_more cs i _ h (get_or_read cs i _ h c.index-characters-i.is 0),
      encodes_within cs (i + 1),
      c.requires,
      c.len_utf8-at.ensures.len,
    )

pub loop-i-preserved : goal.loop-i-preserved
loop-i-preserved c =
    let cs = c.args.characters.now in
    let i = c.loop-i.i in
    let h : i < length cs = omega arith in
    omega (arith, encodes_more cs i _ h (get_or_read cs i _ h c.index-characters-i.is 0), c.len_utf8-at.ensures.len)
