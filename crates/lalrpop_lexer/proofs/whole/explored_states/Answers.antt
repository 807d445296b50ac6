use Rattle.std.proofs.Common.{◌≡◌, ◌<◌, ◌∙◌, ℕ, arith, ap, refl, length, subst}
use Rattle.std.proofs.lemmas.List.{length_push}
use Rattle.lalrpop_lexer_nfa.specs.declared.automaton.TheConstants.{START}
use Rattle.lalrpop_lexer_nfa.specs.Paths.{nfa_view}
use Rattle.lalrpop_lexer.specs.StateViews.{edges_in}
use Rattle.lalrpop_lexer.specs.Tables.{AreTables}
use Rattle.lalrpop_lexer.proofs.WholeLemmas.{explored_start, explored_end}
use Rattle.lalrpop_lexer.proofs.StateViewLemmas.{explored_push, tables_none}
use Rattle.lalrpop_lexer.proofs.KernelLemmas.{states_at_most}
use Rattle.lalrpop_lexer.proofs.whole.explored_states.Goals as goal

pub states-init : goal.states-init
states-init c = record {
  explored = rw c.new-edges.ensures
      (explored_start (nfa_view c.args.nfa.now) START.0 _ _ _ (λ s. refl) c.in_ok-known.ensures.found.1);
  tables = rw (c.new-edges.ensures, c.new-rows.ensures) tables_none;
  sets = c.in_ok-known.ensures.sets;
  numbered = c.in_ok-known.ensures.numbered;
  bound = c.first_state.ensures.bound ∙ c.in_ok-scratch.ensures.bound ∙ c.state_count.ensures;
}

pub states-preserved : goal.states-preserved
states-preserved c =
    let t = nfa_view c.args.nfa.now in
    let table = c.states.edges in
    let old = c.states.known.sets in
    let pushed = c.in_ok-push_explored.ensures.pushed in
    let less : length table < length old = omega (arith, c.states-test.true, c.len.ensures, c.len-in-states.ensures) in
    record {
      explored = rw pushed.1
          (explored_push t START.0 table pushed.0 old c.push_explored.new.known.sets less c.states.invariant.explored pushed.2);
      tables = c.in_ok-push_explored.ensures.tables;
      sets = c.in_ok-push_explored.ensures.sets;
      numbered = c.in_ok-push_explored.ensures.numbered;
      bound = c.push_explored.ensures.bound ∙ c.states.invariant.bound;
    }

pub push_explored-requires-clause-state : goal.push_explored-requires-clause-state
push_explored-requires-clause-state c = omega (arith, c.states-test.true, c.len.ensures, c.len-in-states.ensures)

pub returns-clause-states : goal.returns-clause-states
returns-clause-states c =
    explored_end (nfa_view c.args.nfa.now) START.0 (length c.states.edges) c.states.known.sets (edges_in c.states.edges)
    c.states.invariant.explored (omega (arith, c.states-test.false, c.len.ensures, c.len-in-states.ensures))

pub returns-clause-tables : goal.returns-clause-tables
returns-clause-tables c =
    let P : ℕ → Type 0 = λ n. AreTables n c.states.edges c.states.rows in
    let all : length c.states.edges ≡ length c.states.known.sets =
    omega (arith, c.states-test.false, c.len.ensures, c.len-in-states.ensures, c.states.invariant.explored.within) in
    subst P all c.states.invariant.tables

pub states-smaller : goal.states-smaller
states-smaller c =
    let known = c.states.known in
    omega (
      arith,
      states_at_most (nfa_view c.args.nfa.now) known.sets known.numbers c.states.invariant.numbered,
      c.states-test.true,
      c.len.ensures,
      c.len-in-states.ensures,
      ap length c.in_ok-push_explored.ensures.pushed.1,
      length_push c.states.edges c.in_ok-push_explored.ensures.pushed.0,
    )
