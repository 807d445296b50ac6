-- Which answers of an interpreter are right: for the contracts of interpreting.
use Rattle.std.specs.Prelude.{ℕ, ◌-◌, ◌^◌, ◌<◌, ◌≡◌, true, List, map, cond, length, nat_lt, Contains, Result}
use Rattle.std.specs.Prelude.{Ok, Err, Some, Vec}
use Rattle.std.specs.Prelude.{slice_get}
use Rattle.std.specs.declared.alloc.Global.{Global}
use Rattle.lalrpop_grammar.specs.declared.token.ScanToken.{ScanToken}
use Rattle.lalrpop_grammar_symbols.specs.Symbols.{Terminal, Text}
use Rattle.lalrpop_grammar_symbols.specs.Views.{terminal_view}
use Rattle.lalrpop_grammar_symbols.specs.declared.terminal.TerminalString.{TerminalString}
use Rattle.lalrpop_grammar_repr.specs.declared.terminal_set.TerminalSet.{TerminalSet}
use Rattle.lalrpop_lr1_theory.specs.Answers.{IsRightParseAnswer, ParseAnswer, over_limit, tree, wrong_end, wrong_token}
use Rattle.lalrpop_lr1_theory.specs.Productions.{Production}
use Rattle.lalrpop_lr1_theory.specs.Trees.{Forest}
use Rattle.lalrpop_sets.specs.TokensLeft.{token_or}
use Rattle.lalrpop_lr1_core.specs.Views.{lr_state_view, token_lookahead}
use Rattle.lalrpop_lr1_core.specs.declared.state.State.{State}
use Rattle.lalrpop_lr1_core.specs.declared.state_index.StateIndex.{StateIndex}
use Rattle.lalrpop_lr1_interpret.specs.NamedTrees.{name_forest, parse_tree_view}
use Rattle.lalrpop_lr1_interpret.specs.Outcomes.{IsStuckAt, ShiftsAll}
use Rattle.lalrpop_lr1_interpret.specs.Parses.{AreParsable}
use Rattle.lalrpop_lr1_interpret.specs.Tables.{IsTableOf}
use Rattle.lalrpop_lr1_interpret.specs.declared.parse.action_table.ActionTable.{ActionTable}
use Rattle.lalrpop_lr1_interpret.specs.declared.interpret_fault.InterpretError.{InterpretError}
use Rattle.lalrpop_lr1_interpret.specs.declared.interpret_fault.InterpretFault.{InterpretFault}
use Rattle.lalrpop_lr1_interpret.specs.declared.interpret_fault.InterpretFault.TheVariants as faults
use Rattle.lalrpop_lr1_interpret.specs.declared.parse.machine.Halt.{Halt}
use Rattle.lalrpop_lr1_interpret.specs.declared.parse.machine.Halt.TheVariants as halts
use Rattle.lalrpop_lr1_interpret.specs.declared.parse_trees.parse_tree.ParseTree.{ParseTree}

-- the greatest number of moves that an interpreter makes
abbrev pub move_limit : ℕ
move_limit = 2 ^ 64 - 1

-- the place of what is wrong: a token's, or the end
abbrev pub wrong_place : List Terminal → ℕ → ParseAnswer
wrong_place w at = cond (nat_lt at (length w)) (wrong_token at) wrong_end

-- A run is stuck in the state before the token, or before the end, and this is the right place.
pub record IsRightError (grammar : List Production) (s : Text) (ts : TerminalSet) (states : List (State (List ℕ)))
    (tokens : List TerminalString) (e : InterpretError) : Type 0 where
  pub at : ℕ
  pub number : ℕ
  pub stuck : IsStuckAt (map (lr_state_view (token_lookahead ts)) states) (map terminal_view tokens) move_limit at number
  pub state_is : slice_get states number ≡ Some e.state.now
  pub token_is : e.token ≡ token_or (slice_get tokens at) true
  pub right : IsRightParseAnswer (Contains grammar) s (map terminal_view tokens) move_limit (wrong_place (map terminal_view tokens) at)

-- why there is no tree, or no states: the first wrong token with the state, or the limit
abbrev pub IsRightFault : List Production → Text → TerminalSet → List (State (List ℕ)) → List TerminalString →
    InterpretFault → Type 0
IsRightFault grammar s ts states tokens (faults.Stuck e) = IsRightError grammar s ts states tokens e
IsRightFault grammar s ts states tokens faults.Limit =
    IsRightParseAnswer (Contains grammar) s (map terminal_view tokens) move_limit over_limit
IsRightFault grammar s ts states tokens faults.Memory = Unit {0}

-- why not all tokens are shifted: the first wrong one with the state, which is never the end, or the limit
abbrev pub IsRightPartFault : List Production → Text → TerminalSet → List (State (List ℕ)) → List TerminalString →
    InterpretFault → Type 0
IsRightPartFault grammar s ts states tokens (faults.Stuck e) =
    (h : IsRightError grammar s ts states tokens e) × (h.at < length tokens)
IsRightPartFault grammar s ts states tokens faults.Limit = IsRightFault grammar s ts states tokens faults.Limit
IsRightPartFault grammar s ts states tokens faults.Memory = Unit {0}

-- the tree is that of the tokens, without productions
pub record IsTreeOfTokens (grammar : List Production) (s : Text) (tokens : List TerminalString) (t : ParseTree) : Type 0 where
  pub whole : Forest
  pub right : IsRightParseAnswer (Contains grammar) s (map terminal_view tokens) move_limit (tree whole)
  pub seen : parse_tree_view t ≡ name_forest whole

abbrev pub IsRightInterpretation : List Production → Text → TerminalSet → List (State (List ℕ)) → List TerminalString →
    Result ParseTree InterpretFault → Type 0
IsRightInterpretation grammar s ts states tokens (Ok t) = IsTreeOfTokens grammar s tokens t
IsRightInterpretation grammar s ts states tokens (Err f) = IsRightFault grammar s ts states tokens f

-- the states on the stack once all tokens are shifted
abbrev pub AreRightStates : List Production → Text → TerminalSet → List (State (List ℕ)) → List TerminalString →
    Result (Vec StateIndex Global) InterpretFault → Type 0
AreRightStates grammar s ts states tokens (Ok indexes) =
    ShiftsAll (map (lr_state_view (token_lookahead ts)) states) (map terminal_view tokens) move_limit
    (map (λ i. i.0) indexes.items)
AreRightStates grammar s ts states tokens (Err f) = IsRightPartFault grammar s ts states tokens f

-- for some terminals, grammar and start alone the states are checked ones, and the table is one of them
pub record MayInterpret (table : ActionTable) (states : List (State (List ℕ))) : Type 0 where
  pub terminals : TerminalSet
  pub parsable : AreParsable terminals states
  pub is_table : IsTableOf table (map (lr_state_view (token_lookahead terminals)) states)

-- the halt names one of so many states
abbrev pub IsHaltWithin : ℕ → Halt → Type 0
IsHaltWithin count (halts.Stuck at state) = state < count
IsHaltWithin count halts.Limit = Unit {0}
IsHaltWithin count halts.Memory = Unit {0}

-- what the machine's halt says, with the state and the token
abbrev pub IsInterpretFaultOf : List (State (List ℕ)) → List ScanToken → Halt → InterpretFault → Type 0
IsInterpretFaultOf states tokens (halts.Stuck at state) (faults.Stuck e) =
    (slice_get states state ≡ Some e.state.now) × (e.token ≡ token_or (slice_get (map (λ t. t.terminal) tokens) at) true)
IsInterpretFaultOf states tokens (halts.Stuck at state) faults.Limit = ⊥
IsInterpretFaultOf states tokens (halts.Stuck at state) faults.Memory = Unit {0}
IsInterpretFaultOf states tokens halts.Limit f = f ≡ faults.Limit
IsInterpretFaultOf states tokens halts.Memory f = f ≡ faults.Memory
