-- Edges of all labels, one after another, lead where paths lead, but for the rejecting state. For the law on edges.
use Rattle.std.proofs.Common.{◌≡◌, ◌≢◌, ℕ, ◌≤◌, ◌↔◌, List, [], ◌∷◌, ◌++◌, sym, ap, ◌∙◌, refl}
use Rattle.std.proofs.Common.{subst, append-nil}
use Rattle.std.proofs.lemmas.List.Elements.{All-contains}
use Rattle.lalrpop_lexer_nfa.specs.declared.automaton.Nfa.{Nfa}
use Rattle.lalrpop_lexer_nfa.specs.declared.automaton.TheConstants.{REJECT}
use Rattle.lalrpop_lexer_nfa.specs.declared.edge.Edge.{Edge}
use Rattle.lalrpop_lexer_nfa.specs.declared.edge.Noop.{Noop}
use Rattle.lalrpop_lexer_nfa.specs.declared.edge.Other.{Other}
use Rattle.lalrpop_lexer_nfa.specs.declared.test.Test.{Test}
use Rattle.lalrpop_lexer_nfa.specs.Paths.{HasPath, TransitionEdge, epsilon_edge_view, transition_view, nfa_view}
use Rattle.lalrpop_lexer_nfa.specs.Sets.{IsReachedBy}
use Rattle.lalrpop_lexer_nfa.specs.Taken.{IsTaken, IsLedTo}
use Rattle.lalrpop_lexer_nfa.proofs.ListLemmas.{Contains-map, Contains-from_map}
use Rattle.lalrpop_lexer_nfa.proofs.ArrivalLemmas.{leads_arrives}

module _ (nfa : Nfa) where
  -- no edge is taken from the rejecting state
  none_taken : {v : List ℕ} {r : ℕ} (q : ℕ) → q ≡ REJECT.0 → IsTaken nfa.edges q v r → ⊥
  none_taken q e (IsTaken.noop edge there from) =
      All-contains (λ (x : Edge Noop). x.from.0 ≢ REJECT.0) nfa.edges.noop_edges.items edge nfa.noops_leave there (from ∙ e)
  none_taken q e (IsTaken.test edge c there from holds) =
      All-contains (λ (x : Edge Test). x.from.0 ≢ REJECT.0) nfa.edges.test_edges.items edge nfa.tests_leave there (from ∙ e)
  none_taken q e (IsTaken.other edge c there from left) =
      All-contains (λ (x : Edge Other). x.from.0 ≢ REJECT.0) nfa.edges.other_edges.items edge nfa.others_leave there (from ∙ e)

  step : (s : ℕ) {u v : List ℕ} {r : ℕ} (q : ℕ) → IsReachedBy (nfa_view nfa) s u q → IsTaken nfa.edges q v r → r ≢ REJECT.0
      → IsReachedBy (nfa_view nfa) s (u ++ v) r
  step s {u} q reached (IsTaken.noop edge there from) other =
      let P : List ℕ → Type 0 = λ w. IsReachedBy (nfa_view nfa) s w edge.to.0 in
      subst P (sym (append-nil u))
      (IsReachedBy.epsilon q reached
      (epsilon_edge_view edge, Contains-map epsilon_edge_view nfa.edges.noop_edges.items edge there, from, refl))
  step s q reached (IsTaken.test edge c there from holds) other =
      IsReachedBy.transition q c reached
      (transition_view edge, Contains-map transition_view nfa.edges.test_edges.items edge there, from, holds.0, holds.1, refl)
  step s q reached (IsTaken.other edge c there from left) other =
      absurd (other (All-contains (λ (x : Edge Other). x.to.0 ≡ REJECT.0) nfa.edges.other_edges.items edge nfa.other_targets there))

  reached_from_led : (s : ℕ) {w : List ℕ} {q : ℕ} → q ≢ REJECT.0 → IsLedTo nfa.edges s w q → IsReachedBy (nfa_view nfa) s w q
  reached_from_led s other IsLedTo.start = IsReachedBy.start
  reached_from_led s other (IsLedTo.further p led taken) =
      step s p (reached_from_led s (λ e. none_taken p e taken) led) taken other

  led_from_reached : (s : ℕ) {w : List ℕ} {q : ℕ} → IsReachedBy (nfa_view nfa) s w q → IsLedTo nfa.edges s w q
  led_from_reached s IsReachedBy.start = IsLedTo.start
  led_from_reached s (IsReachedBy.epsilon {w = w} {r = r} p reached lead) =
      let found = Contains-from_map epsilon_edge_view nfa.edges.noop_edges.items lead.0 lead.1 in
      let P : ℕ → Type 0 = λ x. IsTaken nfa.edges p [] x in
      let Q : List ℕ → Type 0 = λ v. IsLedTo nfa.edges s v r in
      let taken : IsTaken nfa.edges p [] r = subst P (ap (λ e. e.to) found.2 ∙ lead.3)
      (IsTaken.noop found.0 found.1 (ap (λ e. e.from) found.2 ∙ lead.2)) in
      subst Q (append-nil w) (IsLedTo.further p (led_from_reached s reached) taken)
  led_from_reached s (IsReachedBy.transition {w = w} {r = r} p c reached read) =
      let found = Contains-from_map transition_view nfa.edges.test_edges.items read.0 read.1 in
      let R : TransitionEdge → Type 0 = λ e. (e.from ≡ p) × (e.start ≤ c) × (c ≤ e.end) × (e.to ≡ r) in
      let at : R (transition_view found.0) = subst R (sym found.2) (read.2, read.3, read.4, read.5) in
      let P : ℕ → Type 0 = λ x. IsTaken nfa.edges p (c ∷ []) x in
      let taken : IsTaken nfa.edges p (c ∷ []) r = subst P at.3 (IsTaken.test found.0 c found.1 at.0 (at.1, at.2)) in
      IsLedTo.further p (led_from_reached s reached) taken

  -- to all states but the rejecting one just the words lead by all edges that paths read
  pub led_along_paths : (s : ℕ) (w : List ℕ) (q : ℕ) → q ≢ REJECT.0 → IsLedTo nfa.edges s w q ↔ HasPath (nfa_view nfa) s w q
  led_along_paths s w q other = (
    λ led. (leads_arrives (nfa_view nfa) s w q).1 (reached_from_led s other led),
    λ path. led_from_reached s ((leads_arrives (nfa_view nfa) s w q).0 path),
  )
