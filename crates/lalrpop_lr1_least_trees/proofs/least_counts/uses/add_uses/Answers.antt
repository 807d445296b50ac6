use Rattle.std.proofs.Common.{◌<◌, arith, get_or, length, take}
use Rattle.std.proofs.lemmas.List.{take_more}
use Rattle.lalrpop_lr1_least_trees.specs.Searches.{number_lists}
use Rattle.lalrpop_lr1_least_trees.proofs.UseLemmas.{adds_more, adds_skip, view_long, view_pushed}
use Rattle.lalrpop_lr1_least_trees.proofs.least_counts.uses.add_uses.Goals as goal
use Rattle.lalrpop_lr1_least_trees.proofs.least_counts.uses.add_uses.Goals.{then-name-len+in_ok-push, else-name-len}

pub loop-symbol-preserved : goal.loop-symbol-preserved
loop-symbol-preserved c =
    let i = c.loop-symbol.symbol-index in
    let xs = c.args.right.now in
    let rule = c.args.rule in
    let name = get_or xs i 0 in
    let old = number_lists c.args.uses.now.items in
    let uses = c.loop-symbol.uses.items in
    let more = take_more xs i 0 c.loop-symbol-test.true in
    rw more (elim c.if-name-len.branch [
      | then-name-len+in_ok-push w ↦
          let within : name < length uses = omega (arith, w.if-name-len.true, c.len.ensures) in
          rw w.uses-is (adds_more rule (take i xs) old (number_lists uses) c.loop-symbol.invariant name _
          (omega (arith, within, view_long uses))
          (view_pushed uses name w.index_mut.result.now w.push.new.self rule within w.index_mut.ensures.value w.in_ok-push.ensures.items))
      | else-name-len w ↦
          rw w.uses-is (adds_skip rule (take i xs) old (number_lists uses) c.loop-symbol.invariant name
          (omega (arith, view_long uses, w.if-name-len.false, c.len.ensures)))
    ])
