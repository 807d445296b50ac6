use Rattle.std.proofs.Common.{rules, subst}
use Rattle.std.specs.List.{All}
use Rattle.std.proofs.lemmas.List.Elements.{All-more}
use Rattle.lalrpop_grammar_repr.specs.declared.production.Production.{Production}
use Rattle.lalrpop_lr1_build.proofs.ListLemmas.{take_whole}
use Rattle.lalrpop_lr1_first.specs.Tables.{HasNumberedTerminal}
use Rattle.lalrpop_plain_tables.specs.KnownTerminals.{AreKnownIn}
use Rattle.lalrpop_plain_tables.proofs.answers.own_terminals.are_known_in.Goals as goal

pub loop-production-preserved : goal.loop-production-preserved
loop-production-preserved c =
    let known = subst (All (HasNumberedTerminal c.args.terminals.now)) c.as_slice.ensures (c.are_known_on.ensures (search rules)) in
    All-more (λ (p : Production). All (HasNumberedTerminal c.args.terminals.now) p.symbols) c.args.productions.now
    c.loop-production.production-index c.production-item.result c.loop-production-test.true c.loop-production.invariant
    (subst (λ (p : Production). All (HasNumberedTerminal c.args.terminals.now) p.symbols) c.production-item.is known)

pub returns : goal.returns
returns c =
    λ t. subst (AreKnownIn c.args.terminals.now)
    (take_whole c.args.productions.now c.loop-production.production-index c.loop-production-test.false) c.loop-production.invariant
