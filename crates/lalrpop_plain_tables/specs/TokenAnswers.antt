-- What is told of tokens: the text of their tree, or where they are stuck. For the answer to tokens.
use Rattle.std.specs.Prelude.{◌≡◌, ◌++◌, ℕ, List, Result, Ok, Err, codes, decimal, map}
use Rattle.lalrpop_grammar_symbols.specs.Symbols.{Text}
use Rattle.lalrpop_grammar_symbols.specs.declared.terminal.TerminalString.{TerminalString}
use Rattle.lalrpop_grammar_repr.specs.declared.terminal_set.TerminalSet.{TerminalSet}
use Rattle.lalrpop_lr1_theory.specs.CheckedStates.{AreCheckedStates, IsStartAlone}
use Rattle.lalrpop_lr1_theory.specs.Productions.{Production}
use Rattle.lalrpop_sets.specs.TokenTexts.{next_text}
use Rattle.lalrpop_lr1_core.specs.Views.{lr_state_view, token_lookahead}
use Rattle.lalrpop_lr1_core.specs.declared.state.State.{State}
use Rattle.lalrpop_lr1_interpret.specs.Interpretations.{IsRightInterpretation}
use Rattle.lalrpop_lr1_interpret.specs.ParseTreeTexts.{parse_tree_text}
use Rattle.lalrpop_lr1_interpret.specs.declared.interpret_fault.InterpretError.{InterpretError}
use Rattle.lalrpop_lr1_interpret.specs.declared.interpret_fault.InterpretFault.{InterpretFault}
use Rattle.lalrpop_lr1_interpret.specs.declared.interpret_fault.InterpretFault.TheVariants as faults
use Rattle.lalrpop_lr1_interpret.specs.declared.parse_trees.parse_tree.ParseTree.{ParseTree}

-- in which state tokens are stuck, and on what
abbrev pub text_of_stuck : InterpretError → Text
text_of_stuck e = codes "stuck in state " ++ (decimal e.state.now.index.0 ++ (codes " on " ++ next_text e.token))

-- the text is that of a fault of the tokens
abbrev pub TellsFault : InterpretFault → Text → Type 0
TellsFault (faults.Stuck e) text = text ≡ text_of_stuck e
TellsFault faults.Limit text = ⊥
TellsFault faults.Memory text = ⊥

-- the text is that of the tree, or of the fault
abbrev pub TellsAnswer : Result ParseTree InterpretFault → Text → Type 0
TellsAnswer (Ok t) text = text ≡ parse_tree_text t
TellsAnswer (Err f) text = TellsFault f text

-- the text is that of the right answer to the tokens, for each grammar and start alone for which the states are checked ones
pub record TellsTokens (ts : TerminalSet) (states : List (State (List ℕ))) (tokens : List TerminalString) (text : Text) : Type 0 where
  pub answer : Result ParseTree InterpretFault
  pub told : TellsAnswer answer text
  pub right : (grammar : List Production) (s : Text) → IsStartAlone grammar s →
      AreCheckedStates grammar s (map (lr_state_view (token_lookahead ts)) states) →
      IsRightInterpretation grammar s ts states tokens answer
