use Rattle.std.proofs.Common.{arith, rules}
use Rattle.lalrpop_lexer.proofs.SplitLemmas.{keeps_same, keeps_marked}
use Rattle.lalrpop_lexer.proofs.partition.Partition.renumber.Goals as goal

pub returns-then-len-pieces : goal.returns-then-len-pieces
returns-then-len-pieces c = keeps_same _ _

pub returns : goal.returns
returns c =
    let groups = c.in_ok-numbers.field-0 in
    keeps_marked c.args.pieces.now c.args.self.now.numbers.items c.args.self.now.splits.items groups.numbers.items groups.firsts.items
    _ _ c.requires.size (rw c.deref.ensures.value at c.in_ok-numbers.ensures)
    (c.in_ok-self.ensures.items_if_clones_equal (λ y h. search rules)) (omega (arith, groups.firsts.ok.0))
