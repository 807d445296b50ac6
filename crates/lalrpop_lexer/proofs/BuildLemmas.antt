-- From the states of the automaton to what the building of it promises. For `build_dfa`.
use Rattle.std.proofs.Common.{◌≡◌, ℕ, ◌+◌, ◌<◌, ◌↔◌, List, length, Option, sym, subst, arith}
use Rattle.lalrpop_lexer_pattern.specs.Matches.{Pattern, Matches}
use Rattle.lalrpop_lexer_pattern.specs.Wins.{HasNoTie}
use Rattle.std.specs.Prelude.{slice_index_or}
use Rattle.lalrpop_lexer_nfa.specs.Paths.{Graph, HasPath}
use Rattle.lalrpop_lexer.specs.declared.error.DfaConstructionError.{DfaConstructionError}
use Rattle.lalrpop_lexer.specs.declared.error.DfaConstructionError.TheVariants as error
use Rattle.lalrpop_lexer.specs.declared.edge.DfaEdge.{DfaEdge}
use Rattle.lalrpop_lexer.specs.declared.state.State.{State}
use Rattle.lalrpop_lexer.specs.Numbering.{EdgeView}
use Rattle.lalrpop_lexer.specs.Automaton.{IsAutomaton}
use Rattle.lalrpop_lexer.specs.Build.{AreSupported, IsDfaFault}
use Rattle.lalrpop_lexer.specs.Simulation.{Decides}
use Rattle.lalrpop_lexer.specs.StateViews.{state_views, edges_in, accepted_in}
use Rattle.lalrpop_lexer.specs.Outcome.{IsLastTie, IsAccepted}
use Rattle.lalrpop_lexer.specs.Ties.{AcceptsPattern, TellsTie}
use Rattle.lalrpop_lexer.proofs.DecideLemmas.{no_ties, first_tie, answer_right}
use Rattle.lalrpop_lexer.proofs.StateViewLemmas.{node_at}

-- an automaton of a table whose words lead to the accepting states of the patterns that match them
pub record IsOfPatterns (t : Graph) (start : ℕ) (sets : List (List ℕ)) (edges : ℕ → List EdgeView) (n : ℕ) (ps : List Pattern)
    (precedences : List ℕ) : Type 0 where
  pub automaton : IsAutomaton t start sets edges n
  pub accepts : (k : ℕ) → k < length ps → (w : List ℕ) → HasPath t start w (3 + k)
      ↔ Matches (slice_index_or ps k Pattern.empty) w
  pub count : n ≡ length sets
  pub size : length ps ≡ length precedences

module _ (t : Graph) (start : ℕ) (sets : List (List ℕ)) (n : ℕ) (ps : List Pattern) (precedences : List ℕ) where
  -- the tie of the first state that has one explains why the patterns have no automaton
  pub build_tie : (edges : ℕ → List EdgeView) → IsOfPatterns t start sets edges n ps precedences → AreSupported ps
      → (e : DfaConstructionError) → TellsTie sets precedences e → IsDfaFault ps precedences e
  build_tie edges h fine (error.NfaConstructionError index why) tells = absurd tells
  build_tie edges h fine (error.Ambiguity match0 match1) tells =
      let P : ℕ → Type 0 = λ l. IsLastTie (AcceptsPattern sets tells.0) precedences l match0.0 match1.0 in
      let Q : ℕ → ℕ → Option ℕ → Type 0 = λ r l o. IsAccepted (AcceptsPattern sets r) precedences l o in (
        fine,
        first_tie t start sets edges n ps precedences h.automaton h.accepts tells.0 match0.0 match1.0 (omega (arith, h.count, tells.1))
            (λ r less. let o = tells.2 r less in (o.0, subst (λ l. Q r l o.0) (sym h.size) o.1))
            (subst P (sym h.size) tells.3),
      )
  build_tie edges h fine error.Memory tells = tt

  module _ (states : List State) (table : List (List DfaEdge)) (h : IsOfPatterns t start sets (edges_in table) n ps precedences) (count : length states ≡ length sets)
      (accepted : (s : ℕ) → s < length sets
      → IsAccepted (AcceptsPattern sets s) precedences (length precedences) (accepted_in states s)) where
    kinds : (s : ℕ) → s < n → IsAccepted (AcceptsPattern sets s) precedences (length ps) (accepted_in states s)
    kinds s l = let P : ℕ → Type 0 = λ k. IsAccepted (AcceptsPattern sets s) precedences k (accepted_in states s) in
        subst P (sym h.size) (accepted s (omega (arith, h.count)))

    -- where no state has a tie, no two patterns tie on any word
    pub build_no_tie : HasNoTie ps precedences
    build_no_tie = no_ties t start sets (edges_in table) n ps precedences h.automaton h.accepts (accepted_in states) kinds

    -- where no state has a tie, the automaton answers each text with its longest match
    pub build_decides : Decides (state_views states table) ps precedences
    build_decides text =
        answer_right t start sets (edges_in table) n ps precedences h.automaton h.accepts (accepted_in states) kinds
        (state_views states table) (λ s l. node_at states table s (omega (arith, h.count, count))) text
