use Rattle.std.proofs.Common.{rules, ◌≡◌, ◌∙◌, true, false, sym, take}
use Rattle.lalrpop_grammar_repr.specs.contracts.production.SymbolPartialEq.TheImpl as compared
use Rattle.lalrpop_lr1_core.proofs.IncomingLemmas.{newest_elsewhere, newest_passed, newest_taken}
use Rattle.lalrpop_lr1_core.proofs.state_graph.next_source.Goals as goal
use Rattle.lalrpop_lr1_core.proofs.state_graph.next_source.Goals.{else-newest-state-via-then-newest-state+else-eq, else-newest-state-via-else-newest-state}

pub returns-then-eq : goal.returns-then-eq
returns-then-eq c =
    let edges = c.args.graph.now in
    let equal : (compared.ghosts).eq c.in-Some.newest.now.symbol c.args.symbol.now ≡ true = search rules in
    sym c.loop-newest.invariant
    ∙ newest_taken c.args.state c.args.symbol.now (take c.loop-newest.left edges) (take c.in-Some.before edges) c.in-Some.newest.now
    c.in-Some.ensures.1 c.if-newest-state.true equal

pub loop-newest-preserved : goal.loop-newest-preserved
loop-newest-preserved c =
    let edges = c.args.graph.now in
    elim c.else-newest-state.branch [
      | else-newest-state-via-then-newest-state+else-eq w ↦ (
          let other : (compared.ghosts).eq c.in-Some.newest.now.symbol c.args.symbol.now ≡ false = search rules in
          sym (newest_passed c.args.state c.args.symbol.now (take c.loop-newest.left edges) (take c.in-Some.before edges)
          c.in-Some.newest.now c.in-Some.ensures.1 other) ∙ c.loop-newest.invariant
          )
      | else-newest-state-via-else-newest-state w ↦
          sym (newest_elsewhere c.args.state c.args.symbol.now (take c.loop-newest.left edges) (take c.in-Some.before edges)
          c.in-Some.newest.now c.in-Some.ensures.1 w.if-newest-state.false) ∙ c.loop-newest.invariant
    ]
