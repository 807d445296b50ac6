-- What an interpreter answers where the machine ends: for interpreting.
use Rattle.std.proofs.Common.{◌≡◌, ◌∙◌, ℕ, ◌<◌, ◌≤◌, ◌⊎◌, inl, inr, Bool, true, false, cond, List, []}
use Rattle.std.proofs.Common.{◌∷◌, length, map, ap, sym, refl, subst}
use Rattle.std.proofs.Common.{Contains, Err, Some, arith, slice_get, ◌++◌}
use Rattle.std.specs.Prelude.{nat_lt}
use Rattle.std.proofs.lemmas.Bool.{cases_lt, lt-ltb, ltb-true}
use Rattle.std.proofs.lemmas.List.{length-map}
use Rattle.lalrpop_grammar.specs.Trees.{Token}
use Rattle.lalrpop_grammar.specs.declared.token.ScanToken.{ScanToken}
use Rattle.lalrpop_grammar_symbols.specs.Symbols.{Terminal, Text}
use Rattle.lalrpop_grammar_symbols.specs.Views.{terminal_view}
use Rattle.lalrpop_grammar_repr.specs.declared.terminal_set.TerminalSet.{TerminalSet}
use Rattle.lalrpop_lr1_theory.specs.Answers.{IsRightParseAnswer, over_limit, tree, wrong_end, wrong_token}
use Rattle.lalrpop_lr1_theory.specs.CheckedStates.{AreCheckedStates, IsStartAlone}
use Rattle.lalrpop_lr1_theory.specs.Productions.{Production}
use Rattle.lalrpop_lr1_theory.specs.Spans.{SpannedForest, without_spans}
use Rattle.lalrpop_lr1_theory.specs.States.{State as TheoryState}
use Rattle.lalrpop_lr1_theory.specs.Trees.{roots}
use Rattle.lalrpop_lr1_theory.proofs.AnswerLemmas.{ends_right}
use Rattle.lalrpop_sets.specs.TokensLeft.{token_or}
use Rattle.lalrpop_lr1_core.specs.Views.{lr_state_view, token_lookahead}
use Rattle.lalrpop_lr1_core.specs.declared.state.State.{State}
use Rattle.lalrpop_lr1_interpret.specs.Ends.{IsEndOfRun, MakesTree, MayRun, terminals_of}
use Rattle.lalrpop_lr1_interpret.specs.Interpretations.{IsInterpretFaultOf, IsHaltWithin, IsRightFault, IsRightPartFault, IsTreeOfTokens, MayInterpret}
use Rattle.lalrpop_lr1_interpret.specs.Interpretations.{move_limit}
use Rattle.lalrpop_lr1_interpret.specs.Interpretations.{IsRightError, wrong_place}
use Rattle.lalrpop_lr1_interpret.specs.NamedTrees.{name_forest, parse_tree_views}
use Rattle.lalrpop_lr1_interpret.specs.Outcomes.{IsStuckAt, ShiftsAll}
use Rattle.lalrpop_lr1_interpret.specs.declared.parse.action_table.ActionTable.{ActionTable}
use Rattle.lalrpop_lr1_interpret.specs.declared.interpret_fault.InterpretError.{InterpretError}
use Rattle.lalrpop_lr1_interpret.specs.declared.interpret_fault.InterpretFault.{InterpretFault}
use Rattle.lalrpop_lr1_interpret.specs.declared.interpret_fault.InterpretFault.TheVariants as faults
use Rattle.lalrpop_lr1_interpret.specs.declared.parse.machine.Halt.{Halt}
use Rattle.lalrpop_lr1_interpret.specs.declared.parse.machine.Halt.TheVariants as halts
use Rattle.lalrpop_lr1_interpret.specs.declared.parse_trees.parse_tree.ParseTree.{ParseTree}
use Rattle.lalrpop_lr1_interpret.proofs.NamedLemmas.{named_count, named_long, named_views_long, only_named}
use Rattle.lalrpop_lr1_interpret.proofs.ParsingLemmas.{walk_in}
use Rattle.lalrpop_lr1_interpret.proofs.StopLemmas.{end_right, token_right}

-- the terminals of tokens, seen at once or one after the other
pub seen_terminals : (tokens : List ScanToken) → terminals_of tokens ≡ map terminal_view (map (λ t. t.terminal) tokens)
seen_terminals [] = refl
seen_terminals (t ∷ tokens) = ap (λ l. terminal_view t.terminal ∷ l) (seen_terminals tokens)

-- what may be interpreted may be run
pub may_run : (table : ActionTable) (states : List (State (List ℕ))) → MayInterpret table states → MayRun table
may_run table states q = record {
  grammar = q.parsable.grammar;
  start = q.parsable.start;
  states = map (lr_state_view (token_lookahead q.terminals)) states;
  alone = q.parsable.alone;
  checked = q.parsable.checked;
  is_table = q.is_table;
}

-- a stuck run is in one of the states
pub halt_within : (table : ActionTable) (states : List (State (List ℕ))) (q : MayInterpret table states) (tokens : List ScanToken)
    (limit : ℕ) (whole : Bool) (Made : SpannedForest → List Token → Type 0) (halt : Halt) →
    IsEndOfRun (map (lr_state_view (token_lookahead q.terminals)) states) q.parsable.start tokens limit whole Made (Err halt) →
    IsHaltWithin (length states) halt
halt_within table states q tokens limit whole Made (halts.Stuck at state) e =
    omega (
      arith,
      walk_in q.parsable.grammar q.parsable.start (map (lr_state_view (token_lookahead q.terminals)) states) q.parsable.checked
          (roots e.0.made) state e.0.walk,
      length-map states (lr_state_view (token_lookahead q.terminals)),
    )
halt_within table states q tokens limit whole Made halts.Limit e = tt
halt_within table states q tokens limit whole Made halts.Memory e = tt

module _ (grammar : List Production) (s : Text) (ts : TerminalSet) (states : List (State (List ℕ))) (alone : IsStartAlone grammar s)
    (ok : AreCheckedStates grammar s (map (lr_state_view (token_lookahead ts)) states)) (tokens : List ScanToken) where
  place_right : (w : List Terminal) (at number : ℕ) →
      IsStuckAt (map (lr_state_view (token_lookahead ts)) states) w move_limit at number →
      IsRightParseAnswer (Contains grammar) s w move_limit (wrong_place w at)
  place_right w at number stuck = go (cases_lt at (length w)) (nat_lt at (length w)) refl
    where
      go : (at < length w) ⊎ (length w ≤ at) → (b : Bool) → nat_lt at (length w) ≡ b →
          IsRightParseAnswer (Contains grammar) s w move_limit (cond b (wrong_token at) wrong_end)
      go (inl h) true e = token_right grammar s (map (lr_state_view (token_lookahead ts)) states) alone ok w at number move_limit stuck h
      go (inl h) false e =
          let wrong : true ≡ false = sym (lt-ltb at (length w) h) ∙ e in
          let z : ⊥ = cc in absurd z
      go (inr h) true e = absurd (omega (arith, ltb-true at (length w) e, h))
      go (inr h) false e = end_right grammar s (map (lr_state_view (token_lookahead ts)) states) alone ok w at number move_limit stuck h

  -- where it is stuck, the place is right
  error_right : (at number : ℕ) (e : InterpretError) →
      IsStuckAt (map (lr_state_view (token_lookahead ts)) states) (terminals_of tokens) move_limit at number →
      slice_get states number ≡ Some e.state.now → e.token ≡ token_or (slice_get (map (λ t. t.terminal) tokens) at) true →
      (h : IsRightError grammar s ts states (map (λ t. t.terminal) tokens) e) × (h.at ≡ at)
  error_right at number e h state_is token_is =
      let w = map terminal_view (map (λ t. t.terminal) tokens) in
      let stuck : IsStuckAt (map (lr_state_view (token_lookahead ts)) states) w move_limit at number =
      subst (λ v. IsStuckAt (map (lr_state_view (token_lookahead ts)) states) v move_limit at number) (seen_terminals tokens) h in (
        (record {
          at = at;
          number = number;
          stuck = stuck;
          state_is = state_is;
          token_is = token_is;
          right = place_right w at number stuck;
        }),
        refl,
      )

  -- what is answered where the machine halts is right
  pub fault_right : (whole : Bool) (Made : SpannedForest → List Token → Type 0) (halt : Halt) (fault : InterpretFault) →
      IsEndOfRun (map (lr_state_view (token_lookahead ts)) states) s tokens move_limit whole Made (Err halt) →
      IsInterpretFaultOf states tokens halt fault → IsRightFault grammar s ts states (map (λ t. t.terminal) tokens) fault
  fault_right whole Made (halts.Stuck at number) (faults.Stuck e) h f = (error_right at number e h.0 f.0 f.1).0
  fault_right whole Made (halts.Stuck at number) faults.Limit h f = absurd f
  fault_right whole Made (halts.Stuck at number) faults.Memory h f = tt
  fault_right whole Made halts.Limit fault h f =
      subst (IsRightFault grammar s ts states (map (λ t. t.terminal) tokens)) (sym f)
      (subst (λ v. IsRightParseAnswer (Contains grammar) s v move_limit over_limit) (seen_terminals tokens)
      (ends_right grammar s (map (lr_state_view (token_lookahead ts)) states) alone ok (terminals_of tokens) move_limit over_limit h))
  fault_right whole Made halts.Memory fault h f =
      subst (IsRightFault grammar s ts states (map (λ t. t.terminal) tokens)) (sym f) tt

  -- and where not all of the parse is asked for, it isn't stuck before the end
  pub part_fault_right : (Made : SpannedForest → List Token → Type 0) (halt : Halt) (fault : InterpretFault) →
      IsEndOfRun (map (lr_state_view (token_lookahead ts)) states) s tokens move_limit false Made (Err halt) →
      IsInterpretFaultOf states tokens halt fault → IsRightPartFault grammar s ts states (map (λ t. t.terminal) tokens) fault
  part_fault_right Made (halts.Stuck at number) (faults.Stuck e) h f =
      let right = error_right at number e h.0 f.0 f.1 in
      (right.0, omega (arith, h.1 refl, right.1, length-map tokens (λ t. t.terminal)))
  part_fault_right Made (halts.Stuck at number) faults.Limit h f = absurd f
  part_fault_right Made (halts.Stuck at number) faults.Memory h f = tt
  part_fault_right Made halts.Limit fault h f =
      subst (IsRightPartFault grammar s ts states (map (λ t. t.terminal) tokens)) (sym f)
      (fault_right false Made halts.Limit faults.Limit h refl)
  part_fault_right Made halts.Memory fault h f =
      subst (IsRightPartFault grammar s ts states (map (λ t. t.terminal) tokens)) (sym f) tt

  -- the tree that is made is right
  pub tree_right : (items rest : List ParseTree) (t : ParseTree) →
      MakesTree (map (lr_state_view (token_lookahead ts)) states) s tokens move_limit
      (λ made _. parse_tree_views items ≡ name_forest (without_spans made)) → items ≡ rest ++ t ∷ [] →
      IsTreeOfTokens grammar s (map (λ t. t.terminal) tokens) t
  tree_right items rest t made a = record {
    whole = without_spans made.trees;
    right = subst (λ v. IsRightParseAnswer (Contains grammar) s v move_limit (tree (without_spans made.trees))) (seen_terminals tokens)
        (ends_right grammar s (map (lr_state_view (token_lookahead ts)) states) alone ok (terminals_of tokens) move_limit
        (tree (without_spans made.trees)) made.accepts);
    seen = only_named items rest t (without_spans made.trees) made.stands (ap length made.accepts.whole) a;
  }

  -- the states on the stack are right
  pub states_right : (numbers seen : List ℕ) →
      ShiftsAll (map (lr_state_view (token_lookahead ts)) states) (terminals_of tokens) move_limit numbers → seen ≡ numbers →
      ShiftsAll (map (lr_state_view (token_lookahead ts)) states) (map terminal_view (map (λ t. t.terminal) tokens)) move_limit seen
  states_right numbers seen h e =
      subst (λ v. ShiftsAll (map (lr_state_view (token_lookahead ts)) states) v move_limit seen) (seen_terminals tokens)
      (subst (ShiftsAll (map (lr_state_view (token_lookahead ts)) states) (terminals_of tokens) move_limit) (sym e) h)

-- where a tree was made one is there
pub none_made : (states : List TheoryState) (s : Text) (tokens : List ScanToken) (limit : ℕ) (items : List ParseTree) →
    MakesTree states s tokens limit (λ made _. parse_tree_views items ≡ name_forest (without_spans made)) → items ≡ [] → ⊥
none_made states s tokens limit items made e =
    omega (
      arith,
      ap length made.accepts.whole,
      named_long (without_spans made.trees),
      ap named_count made.stands,
      named_views_long items,
      ap length e,
    )
