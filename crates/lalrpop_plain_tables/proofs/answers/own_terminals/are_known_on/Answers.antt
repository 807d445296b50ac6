use Rattle.std.proofs.Common.{rules, subst}
use Rattle.std.specs.List.{All}
use Rattle.std.proofs.lemmas.List.Elements.{All-more}
use Rattle.lalrpop_lr1_build.proofs.ListLemmas.{take_whole}
use Rattle.lalrpop_lr1_first.specs.Tables.{HasNumberedTerminal}
use Rattle.lalrpop_plain_tables.proofs.answers.own_terminals.are_known_on.Goals as goal

pub loop-symbol-preserved : goal.loop-symbol-preserved
loop-symbol-preserved c =
    All-more (HasNumberedTerminal c.args.terminals.now) c.args.symbols.now c.loop-symbol.symbol-index c.symbol-item.result
    c.loop-symbol-test.true c.loop-symbol.invariant
    (subst (HasNumberedTerminal c.args.terminals.now) c.symbol-item.is (c.is_known.ensures (search rules)))

pub returns : goal.returns
returns c =
    λ t. subst (All (HasNumberedTerminal c.args.terminals.now))
    (take_whole c.args.symbols.now c.loop-symbol.symbol-index c.loop-symbol-test.false) c.loop-symbol.invariant
