-- What a conflict of states is, over items, lookaheads and edges: for those who show conflicts.
use Rattle.std.specs.Prelude.{ℕ, List, ◌≡◌, None, Some, slice_get}
use Rattle.lalrpop_grammar_symbols.specs.Views.{terminal_view}
use Rattle.lalrpop_grammar_repr.specs.declared.terminal_set.TerminalSet.{TerminalSet}
use Rattle.lalrpop_lr1_theory.specs.Productions as theory
use Rattle.lalrpop_lr1_theory.specs.Automata.{Finished}
use Rattle.lalrpop_lr1_theory.specs.States.{HasEdge, HasLookahead, State}
use Rattle.lalrpop_sets.specs.TokensLeft.{tokens_of}
use Rattle.lalrpop_sets.specs.declared.token.Token.{Token}
use Rattle.lalrpop_sets.specs.declared.token.Token.TheVariants as tokens
use Rattle.lalrpop_lr1_core.specs.Views.{production_view, token_lookahead}
use Rattle.lalrpop_lr1_core.specs.declared.conflict.Action.{Action}
use Rattle.lalrpop_lr1_core.specs.declared.conflict.Action.TheVariants as actions
use Rattle.lalrpop_lr1_core.specs.declared.conflict.Conflict.{Conflict}

-- The other action of the state: a shift of the terminal that comes next, or a reduction by another production before what comes next.
abbrev pub IsOtherAction : List State → ℕ → theory.Next → theory.Production → Action → Type 0
IsOtherAction states n x p (actions.Shift t target) =
    HasEdge states n (theory.terminal (terminal_view t)) target.0 × (Some (terminal_view t) ≡ x)
IsOtherAction states n x p (actions.Reduce q) = Finished (HasLookahead states) n (production_view q.now) x
    × (p ≡ production_view q.now → ⊥)

-- Before what comes next the conflict's state may reduce by its production, and do the other action.
pub record IsStandingConflict (states : List State) (x : theory.Next) (conflict : Conflict (List ℕ)) : Type 0 where
  pub reduces : Finished (HasLookahead states) conflict.state.0 (production_view conflict.production.now) x
  pub acts : IsOtherAction states conflict.state.0 x (production_view conflict.production.now) conflict.action

-- what comes next where the token does; the token of errors stands in no text
abbrev pub next_of_token : Token → theory.Next
next_of_token (tokens.Terminal t) = Some (terminal_view t)
next_of_token tokens.Eof = None
next_of_token tokens.Error = None

-- The least token of the conflict's lookahead, terminals ascending and then the end, tells what comes next, and the conflict stands before
-- that.
pub record IsToldConflict (ts : TerminalSet) (states : List State) (conflict : Conflict (List ℕ)) : Type 0 where
  pub next : theory.Next
  pub least : slice_get (token_lookahead ts conflict.lookahead).nexts 0 ≡ Some next
  pub token : Token
  pub first_token : slice_get (tokens_of ts conflict.lookahead) 0 ≡ Some token
  pub token_is : next_of_token token ≡ next
  pub stands : IsStandingConflict states next conflict
