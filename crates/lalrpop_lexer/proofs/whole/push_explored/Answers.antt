use Rattle.std.proofs.Common.{List, ℕ, refl, subst}
use Rattle.lalrpop_lexer_nfa.specs.Paths.{nfa_view}
use Rattle.lalrpop_lexer.specs.declared.edge.DfaEdge.{DfaEdge}
use Rattle.lalrpop_lexer.specs.Explore.{edges_view, Explores}
use Rattle.lalrpop_lexer.specs.Rows.{IsRow}
use Rattle.lalrpop_lexer.proofs.StateViewLemmas.{tables_push}
use Rattle.lalrpop_lexer.proofs.whole.push_explored.Goals as goal

pub explore-requires-clause-state : goal.explore-requires-clause-state
explore-requires-clause-state c = rw c.len.ensures c.requires.state

pub returns-clause-pushed : goal.returns-clause-pushed
returns-clause-pushed c =
    let P : ℕ → Type 0 = λ k. Explores (nfa_view c.args.nfa.now) k c.args.known.now.sets c.explore.new.self.sets (edges_view c.in_ok-out.out.items) in
    (c.in_ok-out.out.items, rw (c.in_ok-push.ensures, c.deref-2.ensures.value) refl, subst P c.len.ensures c.in_ok-out.ensures.explored)

pub returns-clause-tables : goal.returns-clause-tables
returns-clause-tables c =
    let out = c.in_ok-out.out.items in
    let row = c.in_ok-row.row.items in
    let P : List DfaEdge → Type 0 = λ es. IsRow (edges_view es) row in
    rw (c.in_ok-push.ensures, c.in_ok-push-2.ensures, c.deref-2.ensures.value, c.deref-3.ensures.value)
    (tables_push c.args.edges.now c.args.rows.now out row c.requires.tables c.in_ok-out.ensures.apart
    (subst P c.deref.ensures.value c.in_ok-row.ensures))
