use Rattle.std.proofs.Common.{sym}
use Rattle.lalrpop_lexer_nfa.proofs.EdgeListLemmas.{begins_last, begins_none}
use Rattle.lalrpop_lexer_nfa.proofs.grow.push_edge.Goals as goal
use Rattle.lalrpop_lexer_nfa.proofs.grow.push_edge.Goals.{in-Some, in-None}

pub returns-clause-begins : goal.returns-clause-begins
returns-clause-begins g c =
    elim c.match-last.branch [
      | in-Some w ↦ begins_last c.args.list.now.items w.in-Some.edge.now _ _ (rw c.deref.ensures.value at (sym w.in-Some.ensures.value))
          w.begins-is
      | in-None w ↦ begins_none c.args.list.now.items _ _ (rw c.deref.ensures.value at (sym w.in-None.ensures.value)) w.begins-is
    ]
