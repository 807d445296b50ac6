-- Where the machine tells the limit: exactly where any states of which the table is one make more moves; for parsing.
use Rattle.std.proofs.Common.{ℕ, List, drop, length, Err, None, Some, sym, subst, true}
use Rattle.lalrpop_grammar.specs.Trees.{Token as WholeToken}
use Rattle.lalrpop_grammar.specs.declared.token.ScanToken.{ScanToken}
use Rattle.lalrpop_grammar_symbols.specs.Symbols.{Terminal}
use Rattle.lalrpop_lr1_theory.specs.Productions.{Next, Production, Symbol, nonterminal, terminal}
use Rattle.lalrpop_lr1_theory.specs.Runs.{PassesLimit}
use Rattle.lalrpop_lr1_theory.specs.Spans.{SpannedForest, without_spans}
use Rattle.lalrpop_lr1_theory.specs.States.{HasEdge, Reduces, State}
use Rattle.lalrpop_lr1_theory.specs.Trees.{none}
use Rattle.lalrpop_lr1_interpret.specs.Ends.{IsEndOfRun, MakesTree, MayRun, terminals_of}
use Rattle.lalrpop_lr1_interpret.specs.Outcomes.{IsStuckAt}
use Rattle.lalrpop_lr1_interpret.specs.Parses.{IsStopOf, StopsByLimit}
use Rattle.lalrpop_lr1_interpret.specs.Tables.{IsTableOf}
use Rattle.lalrpop_lr1_interpret.specs.declared.parse.action_table.ActionTable.{ActionTable}
use Rattle.lalrpop_lr1_interpret.specs.declared.parse.machine.Halt.{Halt}
use Rattle.lalrpop_lr1_interpret.specs.declared.parse.machine.Halt.TheVariants as halts
use Rattle.lalrpop_lr1_interpret.specs.declared.parse.stop.Stop.{Stop}
use Rattle.lalrpop_lr1_interpret.specs.declared.parse.stop.Stop.TheVariants.{End, Limit, Memory, Token}
use Rattle.lalrpop_lr1_interpret.proofs.MoveCountLemmas.{accepted_passes_none, runs_also, stuck_passes_none}

-- all states of which a table is one make the same moves
module _ (table : ActionTable) (states others : List State) (is : IsTableOf table states) (are : IsTableOf table others) where
  same_edges : (n : ℕ) (x : Symbol) (m : ℕ) → HasEdge states n x m → HasEdge others n x m
  same_edges n (terminal t) m e = are.shifts n m t (is.all_shifts n m t e)
  same_edges n (nonterminal A) m e = are.gotos n m A (is.all_gotos n m A e)

  same_reductions : (n : ℕ) (p : Production) (x : Next) → Reduces states n p x → Reduces others n p x
  same_reductions n p (Some t) r = are.reductions n p t (is.all_reductions n p t r)
  same_reductions n p None r = are.ends n p (is.all_ends n p r)

  pub passes_also : (tokens : List Terminal) (limit : ℕ) → PassesLimit states tokens limit → PassesLimit others tokens limit
  passes_also tokens limit p = record {
    moves = p.moves;
    made = p.made;
    left = p.left;
    run = runs_also (HasEdge states) (Reduces states) (HasEdge others) (Reduces others) same_edges same_reductions p.moves none tokens
        p.made p.left p.run;
    count = p.count;
  }

module _ (table : ActionTable) (q : MayRun table) (states : List State) (is : IsTableOf table states) (tokens : List ScanToken)
    (limit : ℕ) (Made : SpannedForest → List WholeToken → Type 0) where
  -- where a tree is made, no run passes the limit
  pub made_within : MakesTree q.states q.start tokens limit Made → PassesLimit states (terminals_of tokens) limit → ⊥
  made_within made p =
      accepted_passes_none q.grammar q.start q.states q.checked (terminals_of tokens) limit q.alone (without_spans made.trees)
      made.accepts (passes_also table states q.states is q.is_table (terminals_of tokens) limit p)

  stuck_within : (at state : ℕ) → IsStuckAt q.states (terminals_of tokens) limit at state →
      PassesLimit states (terminals_of tokens) limit → ⊥
  stuck_within at state e p =
      stuck_passes_none q.grammar q.start q.states q.checked (terminals_of tokens) limit e.moves e.made
      (drop at (terminals_of tokens)) state e.run e.walk
      e.none_allowed e.few (passes_also table states q.states is q.is_table (terminals_of tokens) limit p)

  -- where the machine halts, the limit is told exactly where one does
  pub stop_by_limit : (halt : Halt) (stop : Stop) → IsEndOfRun q.states q.start tokens limit true Made (Err halt) →
      IsStopOf (length tokens) halt stop → StopsByLimit states tokens limit stop
  stop_by_limit (halts.Stuck at state) (Token i) e h = stuck_within at state e.0
  stop_by_limit (halts.Stuck at state) End e h = stuck_within at state e.0
  stop_by_limit (halts.Stuck at state) Limit e h = absurd h
  stop_by_limit (halts.Stuck at state) Memory e h = absurd h
  stop_by_limit halts.Limit stop e h =
      subst (StopsByLimit states tokens limit) (sym h)
      (passes_also table q.states states q.is_table is (terminals_of tokens) limit e)
  stop_by_limit halts.Memory stop e h = subst (StopsByLimit states tokens limit) (sym h) tt
