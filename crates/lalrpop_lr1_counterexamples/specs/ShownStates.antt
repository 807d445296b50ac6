-- Canonical states of a grammar with conflicts that are told of them, and what comes next at a conflict: for those who make certificates.
use Rattle.std.specs.Prelude.{ℕ, List, map, ◌≡◌, Contains, Some, slice_get}
use Rattle.lalrpop_grammar_repr.specs.declared.grammar.Grammar.{Grammar}
use Rattle.lalrpop_lr1_theory.specs.CanonicalStates.{AreCanonicalStates}
use Rattle.lalrpop_lr1_theory.specs.States as theory
use Rattle.lalrpop_lr1_theory.specs.ValidItems.{NoneBarren}
use Rattle.lalrpop_sets.specs.TokensLeft.{token_seen, tokens_of}
use Rattle.lalrpop_sets.specs.declared.token.TokenRef.{TokenRef}
use Rattle.lalrpop_lr1_core.specs.Views.{lr_state_view, token_lookahead}
use Rattle.lalrpop_lr1_core.specs.declared.conflict.Conflict.{Conflict}
use Rattle.lalrpop_lr1_core.specs.declared.state.State.{State}
use Rattle.lalrpop_lr1_first.specs.NumberedGrammars.{HasItsTerminals}
use Rattle.lalrpop_lr1_core.specs.TheoryGrammars.{theory_grammar}
use Rattle.lalrpop_lr1_paths.specs.declared.completion_steps.completion_graphs.CompletionGraphs.{CompletionGraphs}
use Rattle.lalrpop_lr1_counterexamples.specs.ShownMoves.{AreSteppedStates}
use Rattle.lalrpop_lr1_counterexamples.specs.StandingConflicts.{IsToldConflict}
use Rattle.lalrpop_lr1_counterexamples.specs.ConflictCertificates.{HaveOwnActions, IsCertificateOf}
use Rattle.lalrpop_lr1_counterexamples.specs.declared.certificates.shown.ShownConflicts.{ShownConflicts}
use Rattle.lalrpop_judge.specs.Certificates.{ShownConflict}

-- what the theory sees of a grammar's states
abbrev pub shown_states : Grammar → List (State (List ℕ)) → List theory.State
shown_states g states = map (lr_state_view (token_lookahead g.terminals)) states

-- each of the conflicts is told of the grammar's states
abbrev pub AreToldConflicts : Grammar → List (State (List ℕ)) → List (Conflict (List ℕ)) → Type 0
AreToldConflicts g states conflicts =
    (i : ℕ) (conflict : Conflict (List ℕ)) → slice_get conflicts i ≡ Some conflict →
    IsToldConflict g.terminals (shown_states g states) conflict

-- the states that the theory sees, and the conflict at a place
abbrev pub states_of : ShownConflicts → List theory.State
states_of it = shown_states it.grammar.now it.states.now

abbrev pub IsConflictAt : ShownConflicts → ℕ → Conflict (List ℕ) → Type 0
IsConflictAt it number conflict = slice_get it.conflicts.now number ≡ Some conflict

-- The states are the grammar's canonical ones from the start, which reaches nothing barren, and the conflicts are told of them.
pub record AreShownConflicts (it : ShownConflicts) : Type 0 where
  pub terminals : HasItsTerminals it.grammar.now
  pub none_barren : NoneBarren (Contains (theory_grammar it.grammar.now)) it.start.now.0
  pub canonical : AreCanonicalStates (theory_grammar it.grammar.now) it.start.now.0 (states_of it)
  pub told : AreToldConflicts it.grammar.now it.states.now it.conflicts.now

-- these are the steps that lead out of the states
abbrev pub AreStepsOut : ShownConflicts → CompletionGraphs → Type 0
AreStepsOut it ways = AreSteppedStates it.grammar.now it.start.now.0 (states_of it) ways

-- the token is the least of the conflict's lookahead
abbrev pub IsLeastToken : ShownConflicts → ℕ → TokenRef → Type 0
IsLeastToken it number token = (conflict : Conflict (List ℕ)) → IsConflictAt it number conflict →
    slice_get (tokens_of it.grammar.now.terminals conflict.lookahead) 0 ≡ Some (token_seen token)

-- it certifies the conflict at the place, where actions tell the grammar's productions apart
abbrev pub IsCertificateAt : ShownConflicts → ℕ → ShownConflict → Type 0
IsCertificateAt it number c = (conflict : Conflict (List ℕ)) → IsConflictAt it number conflict → HaveOwnActions it.grammar.now →
    IsCertificateOf it.grammar.now it.start.now.0 (states_of it) conflict c
