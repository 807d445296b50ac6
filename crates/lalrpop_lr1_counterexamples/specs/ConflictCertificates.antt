-- Which certificates are those of a conflict: for those who ask for them.
use Rattle.std.specs.Prelude.{List, length, ◌≡◌, Some, slice_get}
use Rattle.std.specs.Prelude.{ℕ}
use Rattle.lalrpop_grammar_symbols.specs.Symbols.{Text}
use Rattle.lalrpop_grammar_symbols.specs.Views.{terminal_view}
use Rattle.lalrpop_grammar_repr.specs.declared.grammar.Grammar.{Grammar}
use Rattle.lalrpop_lr1_theory.specs.Automata.{Walk}
use Rattle.lalrpop_lr1_theory.specs.Productions.{Production}
use Rattle.lalrpop_lr1_theory.specs.Spans.{without_spans}
use Rattle.lalrpop_lr1_theory.specs.States.{HasEdge, State}
use Rattle.lalrpop_lr1_theory.specs.Trees.{roots}
use Rattle.lalrpop_lr1_core.specs.Views.{token_lookahead}
use Rattle.lalrpop_lr1_core.specs.declared.conflict.Action.{Action}
use Rattle.lalrpop_lr1_core.specs.declared.conflict.Action.TheVariants as actions
use Rattle.lalrpop_lr1_core.specs.declared.conflict.Conflict.{Conflict}
use Rattle.lalrpop_lr1_first.specs.FirstSetsOf.{IsProductionOf}
use Rattle.lalrpop_judge.specs.Certificates.{Certifies, NumberedMove, ShownConflict, reduce_by, shift_of}
use Rattle.lalrpop_judge.specs.CertificateViews.{certificate_view}
use Rattle.lalrpop_judge.specs.declared.certificates.certificate.Certificate.{Certificate}

-- the move that an action does, as moves are named
abbrev pub move_of_action : Action → NumberedMove
move_of_action (actions.Shift t target) = shift_of (terminal_view t)
move_of_action (actions.Reduce p) = reduce_by p.now.action.0

-- It certifies a conflict; its first move is the reduction, its second the other action; the roots of the shared trees lead from state 0
-- to the conflict's state; and next comes the least token of the conflict's lookahead: terminals ascend, the end is behind them.
pub record IsCertificateOf (g : Grammar) (s : Text) (states : List State) (conflict : Conflict (List ℕ))
    (c : ShownConflict) : Type 0 where
  pub certifies : Certifies (IsProductionOf g) s c
  pub move1_is : c.move1 ≡ reduce_by conflict.production.now.action.0
  pub move2_is : c.move2 ≡ move_of_action conflict.action
  pub walk : Walk (HasEdge states) (roots (without_spans c.shared)) conflict.state.0
  pub next_is : slice_get (token_lookahead g.terminals conflict.lookahead).nexts 0 ≡ Some c.next

-- one for each conflict, in their order
pub record AreCertificatesOf (g : Grammar) (s : Text) (states : List State) (conflicts : List (Conflict (List ℕ)))
    (certificates : List Certificate) : Type 0 where
  pub count : length certificates ≡ length conflicts
  pub each : (i : ℕ) (conflict : Conflict (List ℕ)) (c : Certificate) → slice_get conflicts i ≡ Some conflict →
      slice_get certificates i ≡ Some c → IsCertificateOf g s states conflict (certificate_view c)

-- two productions of the grammar with one action are one
abbrev pub HaveOwnActions : Grammar → Type 0
HaveOwnActions g = (p q : Production) → IsProductionOf g p → IsProductionOf g q → p.action ≡ q.action → p ≡ q
