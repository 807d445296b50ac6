-- When a table may be run, and how a run of it ends: for the machine and for all that answer by it.
use Rattle.std.specs.Prelude.{ℕ, ◌<◌, Bool, true, false, List, length, map, Result, Ok, Err, Vec, ◌≡◌}
use Rattle.std.specs.declared.alloc.Global.{Global}
use Rattle.lalrpop_grammar.specs.Trees.{Token}
use Rattle.lalrpop_grammar.specs.Views.{token_view}
use Rattle.lalrpop_grammar.specs.declared.token.ScanToken.{ScanToken}
use Rattle.lalrpop_grammar_symbols.specs.Symbols.{Terminal, Text, TextSpan}
use Rattle.lalrpop_grammar_symbols.specs.Views.{span_view, terminal_view}
use Rattle.lalrpop_lr1_theory.specs.CheckedStates.{AreCheckedStates, IsStartAlone}
use Rattle.lalrpop_lr1_theory.specs.Productions.{Production}
use Rattle.lalrpop_lr1_theory.specs.Runs.{AcceptsWithin, PassesLimit}
use Rattle.lalrpop_lr1_theory.specs.Spans.{SpannedForest, leaf_spans, without_spans}
use Rattle.lalrpop_lr1_theory.specs.States.{State}
use Rattle.lalrpop_lr1_interpret.specs.Outcomes.{IsStuckAt, ShiftsAll}
use Rattle.lalrpop_lr1_interpret.specs.Tables.{IsTableOf}
use Rattle.lalrpop_lr1_interpret.specs.declared.parse.action_table.ActionTable.{ActionTable}
use Rattle.lalrpop_lr1_interpret.specs.declared.parse.machine.Halt.{Halt}
use Rattle.lalrpop_lr1_interpret.specs.declared.parse.machine.Halt.TheVariants.{Limit, Memory, Stuck}

-- tokens as definitions see them; their terminals, and their spans
abbrev pub token_views : List ScanToken → List Token
token_views tokens = map token_view tokens

abbrev pub terminals_of : List ScanToken → List Terminal
terminals_of tokens = map (λ t. terminal_view t.terminal) tokens

abbrev pub spans_of : List ScanToken → List TextSpan
spans_of tokens = map (λ t. span_view t.span) tokens

-- for some grammar and start alone the table is one of checked states
pub record MayRun (table : ActionTable) : Type 0 where
  pub grammar : List Production
  pub start : Text
  pub states : List State
  pub alone : IsStartAlone grammar start
  pub checked : AreCheckedStates grammar start states
  pub is_table : IsTableOf table states

-- a run accepts the tokens, and what was made stands for its tree over them, with their spans at its leaves
pub record MakesTree (states : List State) (s : Text) (tokens : List ScanToken) (limit : ℕ)
    (Made : SpannedForest → List Token → Type 0) : Type 0 where
  pub trees : SpannedForest
  pub stands : Made trees (token_views tokens)
  pub accepts : AcceptsWithin states s (terminals_of tokens) limit (without_spans trees)
  pub spans_are : leaf_spans trees ≡ spans_of tokens

-- what is done where a run ends well: it accepts, or else, where it isn't to be whole, all tokens are shifted
abbrev pub IsDone : List State → Text → List ScanToken → ℕ → (SpannedForest → List Token → Type 0) →
    List ℕ → Bool → Type 0
IsDone states s tokens limit Made numbers true = MakesTree states s tokens limit Made
IsDone states s tokens limit Made numbers false = ShiftsAll states (terminals_of tokens) limit numbers

-- how a run ends: well; or it is stuck, before the end only where the parse is to be whole; or it would pass the limit
abbrev pub IsEndOfRun : List State → Text → List ScanToken → ℕ → Bool → (SpannedForest → List Token → Type 0) →
    Result (Vec ℕ Global) Halt →
    Type 0
IsEndOfRun states s tokens limit whole Made (Ok numbers) = IsDone states s tokens limit Made numbers.items whole
IsEndOfRun states s tokens limit whole Made (Err (Stuck at state)) =
    IsStuckAt states (terminals_of tokens) limit at state × (whole ≡ false → at < length tokens)
IsEndOfRun states s tokens limit whole Made (Err Limit) = PassesLimit states (terminals_of tokens) limit
IsEndOfRun states s tokens limit whole Made (Err Memory) = Unit {0}
