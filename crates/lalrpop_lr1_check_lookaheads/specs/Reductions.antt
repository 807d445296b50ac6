-- By what a state may reduce: for the test of states.
use Rattle.std.specs.Prelude.{ℕ, ◌≡◌, List, Contains, None, Some, length, true, false, slice_get}
use Rattle.lalrpop_grammar_symbols.specs.Symbols.{Text}
use Rattle.lalrpop_grammar_symbols.specs.declared.names.NonterminalString.{NonterminalString}
use Rattle.lalrpop_grammar_repr.specs.declared.production.Production.{Production}
use Rattle.lalrpop_grammar_repr.specs.declared.terminal_set.TerminalSet.{TerminalSet}
use Rattle.lalrpop_sets.specs.AscendingLists.{has}
use Rattle.lalrpop_sets.specs.Tokens.{eof_number}
use Rattle.lalrpop_lr1_theory.specs.Productions.{Next}
use Rattle.lalrpop_lr1_theory.specs.States as states
use Rattle.lalrpop_lr1_core.specs.Numbering.{ReducesOverTokens}
use Rattle.lalrpop_lr1_core.specs.declared.state.State.{State}
use Rattle.lalrpop_lr1_check_lookaheads.specs.ListTests.{HoldsAtEach}
use Rattle.lalrpop_lr1_check_lookaheads.specs.ListedItems.{ItemKey, key_at}

-- the state has the production's item with the dot at its end
abbrev pub IsFinishedIn : List ItemKey → ℕ → Production → Type 0
IsFinishedIn keys n p = Contains keys (key_at n p (length p.symbols))

-- the set holds no number but the end's
abbrev pub IsEndAlone : TerminalSet → List ℕ → Type 0
IsEndAlone ts set = (k : ℕ) → has set k ≡ true → k ≡ eof_number ts

-- where the production is the start's, the set holds no number but the end's
abbrev pub DoesEndRightly : NonterminalString → TerminalSet → List ℕ → Production → Type 0
DoesEndRightly start ts set p = p.nonterminal ≡ start → IsEndAlone ts set

-- the sets of all reductions hold numbers of tokens alone
abbrev pub OverTokens : TerminalSet → List (State (List ℕ)) → Type 0
OverTokens ts all = HoldsAtEach (λ _ state. ReducesOverTokens ts state) all

-- each reduction is by a finished item of its state
abbrev pub FinishedAsSeen : List states.State → Type 0
FinishedAsSeen seen = (n : ℕ) (state : states.State) (a : states.Reduction) → slice_get seen n ≡ Some state →
    Contains state.reductions a → states.HasItem seen n a.production (length a.production.right)

-- the start's reductions are before the end alone
pub record EndsAsSeen (s : Text) (seen : List states.State) : Type 0 where
  pub at_end : (n : ℕ) (state : states.State) (a : states.Reduction) (x : Next) → slice_get seen n ≡ Some state →
      Contains state.reductions a → a.production.left ≡ s → Contains a.lookahead.nexts x → x ≡ None
  pub no_error : (n : ℕ) (state : states.State) (a : states.Reduction) → slice_get seen n ≡ Some state →
      Contains state.reductions a → a.production.left ≡ s → a.lookahead.error ≡ false
