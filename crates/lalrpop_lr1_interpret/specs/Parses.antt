-- When states may be parsed with, and which answer to tokens is right: for the contracts of parsing.
use Rattle.std.specs.Prelude.{ℕ, ◌<◌, ◌≤◌, ◌≡◌, List, map, Contains, Result, Ok, Err}
use Rattle.lalrpop_grammar.specs.Trees.{Token as WholeToken}
use Rattle.lalrpop_grammar.specs.declared.token.ScanToken.{ScanToken}
use Rattle.lalrpop_grammar_symbols.specs.Symbols.{Text}
use Rattle.lalrpop_grammar_repr.specs.declared.terminal_set.TerminalSet.{TerminalSet}
use Rattle.lalrpop_lr1_theory.specs.Answers.{IsRightParseAnswer, over_limit, tree, wrong_end, wrong_token}
use Rattle.lalrpop_lr1_theory.specs.CheckedStates.{AreCheckedStates, IsStartAlone}
use Rattle.lalrpop_lr1_theory.specs.Productions.{Production}
use Rattle.lalrpop_lr1_theory.specs.Runs.{PassesLimit}
use Rattle.lalrpop_lr1_theory.specs.Spans.{SpannedForest, leaf_spans, without_spans}
use Rattle.lalrpop_lr1_theory.specs.States.{State as TheoryState}
use Rattle.lalrpop_lr1_core.specs.Views.{lr_state_view, token_lookahead}
use Rattle.lalrpop_lr1_core.specs.declared.state.State.{State}
use Rattle.lalrpop_lr1_interpret.specs.Ends.{spans_of, terminals_of, token_views}
use Rattle.lalrpop_lr1_interpret.specs.ExpandedViews.{expanded_view}
use Rattle.lalrpop_lr1_interpret.specs.declared.parse.expanded_tree.ExpandedTree.{ExpandedTree}
use Rattle.lalrpop_lr1_interpret.specs.declared.parse.machine.Halt.{Halt}
use Rattle.lalrpop_lr1_interpret.specs.declared.parse.machine.Halt.TheVariants as halts
use Rattle.lalrpop_lr1_interpret.specs.declared.parse.stop.Stop.{Stop}
use Rattle.lalrpop_lr1_interpret.specs.declared.parse.stop.Stop.TheVariants.{End, Limit, Memory, Token}

-- for some grammar and start alone the states are checked ones
pub record AreParsable (ts : TerminalSet) (states : List (State (List ℕ))) : Type 0 where
  pub grammar : List Production
  pub start : Text
  pub alone : IsStartAlone grammar start
  pub checked : AreCheckedStates grammar start (map (lr_state_view (token_lookahead ts)) states)

-- the right answer where there is no tree: the right place, or the limit
abbrev pub IsRightStop : List Production → Text → List ScanToken → ℕ → Stop → Type 0
IsRightStop grammar s tokens limit (Token i) =
    IsRightParseAnswer (Contains grammar) s (terminals_of tokens) limit (wrong_token i)
IsRightStop grammar s tokens limit End = IsRightParseAnswer (Contains grammar) s (terminals_of tokens) limit wrong_end
IsRightStop grammar s tokens limit Limit = IsRightParseAnswer (Contains grammar) s (terminals_of tokens) limit over_limit
IsRightStop grammar s tokens limit Memory = Unit {0}

-- The right answer: the tree of the tokens with their spans at its leaves, where it has at most `limit` leaves and nodes, or the
-- right place, or the limit.
abbrev pub IsRightParse : List Production → Text → List ScanToken → ℕ → Result ExpandedTree Stop → Type 0
IsRightParse grammar s tokens limit (Ok t) =
    IsRightParseAnswer (Contains grammar) s (terminals_of tokens) limit (tree (without_spans (expanded_view t)))
    × (leaf_spans (expanded_view t) ≡ spans_of tokens)
IsRightParse grammar s tokens limit (Err stop) = IsRightStop grammar s tokens limit stop

-- what was made stands for the tree of the tokens, over them and with their spans at its leaves, where it has at most `limit`
-- leaves and nodes
pub record MakesRightTree (grammar : List Production) (s : Text) (tokens : List ScanToken) (limit : ℕ)
    (Made : SpannedForest → List WholeToken → Type 0) : Type 0 where
  pub trees : SpannedForest
  pub stands : Made trees (token_views tokens)
  pub right : IsRightParseAnswer (Contains grammar) s (terminals_of tokens) limit (tree (without_spans trees))
  pub spans_are : leaf_spans trees ≡ spans_of tokens

-- The right outcome of a parse that makes something: what was made stands for the tree of the tokens, or the right place, or the
-- limit.
abbrev pub IsRightParseOnto : List Production → Text → List ScanToken → ℕ → (SpannedForest → List WholeToken → Type 0) →
    Result (Unit {0}) Stop → Type 0
IsRightParseOnto grammar s tokens limit Made (Ok done) = MakesRightTree grammar s tokens limit Made
IsRightParseOnto grammar s tokens limit Made (Err stop) = IsRightStop grammar s tokens limit stop

-- a stop tells the limit where the states make more moves over the tokens, and nowhere else; of want of memory nothing is said
abbrev pub StopsByLimit : List TheoryState → List ScanToken → ℕ → Stop → Type 0
StopsByLimit states tokens limit (Token i) = PassesLimit states (terminals_of tokens) limit → ⊥
StopsByLimit states tokens limit End = PassesLimit states (terminals_of tokens) limit → ⊥
StopsByLimit states tokens limit Limit = PassesLimit states (terminals_of tokens) limit
StopsByLimit states tokens limit Memory = Unit {0}

-- The limit is told exactly where the states make more moves over the tokens: each other answer, but for want of memory, comes only
-- where they make at most so many.
abbrev pub TellsLimit : {A : Type 0} → List TheoryState → List ScanToken → ℕ → Result A Stop → Type 0
TellsLimit states tokens limit (Ok made) = PassesLimit states (terminals_of tokens) limit → ⊥
TellsLimit states tokens limit (Err stop) = StopsByLimit states tokens limit stop

-- what the machine's halt says of so many tokens
abbrev pub IsStopOf : ℕ → Halt → Stop → Type 0
IsStopOf count (halts.Stuck at state) (Token i) = (at ≡ i) × (at < count)
IsStopOf count (halts.Stuck at state) End = count ≤ at
IsStopOf count (halts.Stuck at state) Limit = ⊥
IsStopOf count (halts.Stuck at state) Memory = ⊥
IsStopOf count halts.Limit stop = stop ≡ Limit
IsStopOf count halts.Memory stop = stop ≡ Memory
