-- A trace in a lane table: its beginning, one node more, its end, and the trace of a shift.
use Rattle.std.proofs.Common.{◌≡◌, ◌∙◌, ◌↔◌, ◌⊎◌, ◌≤◌, ◌+◌, ◌||◌, ℕ, Bool, true, false, List, [], length, refl, sym, ap, subst, inl, inr, ⊎_elim, arith}
use Rattle.std.proofs.Common.{Option, Some, None, slice_get, nat_eq, option_map}
use Rattle.std.proofs.lemmas.Bool.Decides.{Decides-eqb}
use Rattle.std.proofs.lemmas.Option.{slice_get_within}
use Rattle.lalrpop_grammar_symbols.specs.Symbols.{Text}
use Rattle.lalrpop_grammar_symbols.specs.Views.{terminal_view}
use Rattle.lalrpop_grammar_symbols.specs.declared.terminal.TerminalString.{TerminalString}
use Rattle.lalrpop_grammar_repr.specs.Maps.{at_terminal}
use Rattle.lalrpop_grammar_repr.specs.declared.grammar.Grammar.{Grammar}
use Rattle.lalrpop_lr1_theory.specs.Productions.{Next, Production}
use Rattle.lalrpop_lr1_theory.specs.States as states
use Rattle.lalrpop_lr1_theory.specs.Trees.{reduce, shift}
use Rattle.lalrpop_lr1_theory.proofs.StepLemmas.{some_same}
use Rattle.lalrpop_sets.specs.AscendingLists.{has}
use Rattle.lalrpop_sets.specs.Tokens.{eof_number, number_alone}
use Rattle.lalrpop_lr1_core.specs.Views.{next_of_number}
use Rattle.lalrpop_lr1_core.specs.declared.state.State.{State}
use Rattle.lalrpop_lr1_core.proofs.NoConflictLemmas.{same_terminal}
use Rattle.lalrpop_lr1_first.specs.FirstSetsOf.{IsProductionOf}
use Rattle.lalrpop_lr1_first.specs.Tables.{IsTerminalSet}
use Rattle.lalrpop_lane_theory.specs.Lanes.{LaneAdds, LaneEnters, LaneNotes}
use Rattle.lalrpop_lane_tables.specs.LaneTraces.{ByNumber, IsTracing, TakesSteps, TracedEdge, TracedItem, TracesMove}
use Rattle.lalrpop_lane_tables.specs.TableGains.{AddsTokens, EntersAt, NotesNothing, TableGains}
use Rattle.lalrpop_lane_tables.specs.TableViews.{TableView}
use Rattle.lalrpop_lane_tables.specs.TraceNodes.{ExtendsNodes, NodeAdds, NodeEnters, NodeNotes, SomeNode, TraceNode, node_of_item}
use Rattle.lalrpop_lane_tables.proofs.TableGainLemmas.{table_gains_alike, table_gains_both}
use Rattle.lalrpop_lane_tables.proofs.TraceLemmas.{some_more, some_of_none, trace_adds, trace_begins, trace_enters, trace_goes_on, trace_notes}

module _ {L : Type 0} (look : L → states.LookaheadSet) (g : Grammar) (s : Text) (all : List (State L)) (n : ℕ) (p : Production) (c : ℕ)
    (before : TableView) where
  abbrev Adds : ℕ → TraceNode → Next → Type 0
  Adds m node x = NodeAdds (IsProductionOf g) s (TracedItem look g s all) (TracedEdge look g s all) node m x

  abbrev Enters : ℕ → TraceNode → Type 0
  Enters m node = NodeEnters (IsProductionOf g) s (TracedItem look g s all) (TracedEdge look g s all) node m

  abbrev Notes : ℕ → ℕ → TraceNode → Type 0
  Notes k m node = NodeNotes (IsProductionOf g) s (TracedItem look g s all) (TracedEdge look g s all) node k m

  -- the entry of the state itself
  pub tracing_begins : (visited : List TraceNode) (now : TableView) →
      ExtendsNodes [] visited (λ k. k ≡ node_of_item n p (length p.right)) →
      TableGains (AddsTokens n []) (EntersAt n) NotesNothing c before now → IsTracing look g s all n p c visited 0 before now
  tracing_begins visited now ext gains = record {
    traced = trace_begins (IsProductionOf g) s (TracedItem look g s all) (TracedEdge look g s all) n p (length p.right) visited ext;
    gains = table_gains_alike (AddsTokens n []) (λ m. ByNumber g (λ x. SomeNode (λ node. Adds m node x) visited 0)) (EntersAt n)
        (λ m. (m ≡ n) ⊎ SomeNode (Enters m) visited 0) NotesNothing (λ k m. SomeNode (Notes k m) visited 0) c before now
        (λ m k. (
          λ h. let w : ⊥ = let z : false ≡ true = h.1 in cc in absurd w,
          λ h. absurd (some_of_none (λ node. Adds m node (next_of_number g.terminals k)) visited h.1),
        ))
        (λ m. (λ h. inl h, λ h. ⊎_elim (λ e. e) (λ d. absurd (some_of_none (Enters m) visited d)) h))
        (λ k m. (λ h. absurd h, λ h. absurd (some_of_none (Notes k m) visited h))) gains;
  }

  -- one node more
  pub tracing_goes_on : (visited new : List TraceNode) (number : ℕ) (node : TraceNode) (now after : TableView) →
      IsTracing look g s all n p c visited number before now → slice_get visited number ≡ Some node →
      TakesSteps look g s all node c visited new now after → IsTracing look g s all n p c new (number + 1) before after
  tracing_goes_on visited new number node now after t at steps = record {
    traced = trace_goes_on (IsProductionOf g) s (TracedItem look g s all) (TracedEdge look g s all) n p (length p.right) visited new number
        node t.traced at steps.nodes;
    gains = table_gains_both (λ m. ByNumber g (λ x. SomeNode (λ k. Adds m k x) visited number)) (λ m. ByNumber g (Adds m node))
        (λ m. ByNumber g (λ x. SomeNode (λ k. Adds m k x) new (number + 1))) (λ m. (m ≡ n) ⊎ SomeNode (Enters m) visited number)
        (λ m. Enters m node) (λ m. (m ≡ n) ⊎ SomeNode (Enters m) new (number + 1)) (λ k m. SomeNode (Notes k m) visited number)
        (λ k m. Notes k m node) (λ k m. SomeNode (Notes k m) new (number + 1)) c before now after
        (λ m k.
        let more = some_more (λ o. Adds m o (next_of_number g.terminals k)) visited new number node steps.nodes.kept at in (
          λ h. ⊎_elim (λ d. inl (h.0, d)) (λ d. inr (h.0, d)) (more.0 h.1),
          λ h. ⊎_elim (λ d. (d.0, more.1 (inl d.1))) (λ d. (d.0, more.1 (inr d.1))) h,
        ))
        (λ m.
        let more = some_more (Enters m) visited new number node steps.nodes.kept at in (
          λ h. ⊎_elim (λ e. inl (inl e)) (λ d. ⊎_elim (λ o. inl (inr o)) (λ o. inr o) (more.0 d)) h,
          λ h. ⊎_elim (λ d. ⊎_elim (λ e. inl e) (λ o. inr (more.1 (inl o))) d) (λ o. inr (more.1 (inr o))) h,
        ))
        (λ k m. some_more (Notes k m) visited new number node steps.nodes.kept at) t.gains steps.gains;
  }

  -- none is left
  pub tracing_ends : (visited : List TraceNode) (number : ℕ) (now : TableView) → length visited ≤ number →
      IsTracing look g s all n p c visited number before now → TracesMove look g s all n (reduce p) c before now
  tracing_ends visited number now past t =
      table_gains_alike (λ m. ByNumber g (λ x. SomeNode (λ k. Adds m k x) visited number))
      (λ m. ByNumber g (LaneAdds (IsProductionOf g) s (TracedItem look g s all) (TracedEdge look g s all) n p (length p.right) m))
      (λ m. (m ≡ n) ⊎ SomeNode (Enters m) visited number)
      (LaneEnters (IsProductionOf g) s (TracedItem look g s all) (TracedEdge look g s all) n p (length p.right))
      (λ k m. SomeNode (Notes k m) visited number)
      (λ k m. LaneNotes (IsProductionOf g) (TracedItem look g s all) (TracedEdge look g s all) n p (length p.right) k m) c before now
      (λ m k. let e = trace_adds (IsProductionOf g) s (TracedItem look g s all) (TracedEdge look g s all) n p (length p.right) visited number
      t.traced past m (next_of_number g.terminals k) in (λ h. (h.0, e.0 h.1), λ h. (h.0, e.1 h.1)))
      (λ m. trace_enters (IsProductionOf g) s (TracedItem look g s all) (TracedEdge look g s all) n p (length p.right) visited number t.traced past m)
      (λ k m. trace_notes (IsProductionOf g) s (TracedItem look g s all) (TracedEdge look g s all) n p (length p.right) visited number t.traced past k m)
      t.gains

-- the number of a terminal, and no other number is that of it
number_is : (g : Grammar) → IsTerminalSet g.terminals → (t : TerminalString) (k : ℕ) →
    (has (number_alone (at_terminal t g.terminals.bits)) k ≡ true)
    ↔ ((k ≤ eof_number g.terminals) × (next_of_number g.terminals k ≡ Some (terminal_view t)))
number_is g numbered t k = (λ h. there (at_terminal t g.terminals.bits) refl h, λ h. back (slice_get g.terminals.all k) refl h.1)
  where
    one : (j : ℕ) (b : Bool) → nat_eq j k ≡ b → (b || false) ≡ true → j ≡ k
    one j true e h = (Decides-eqb j k).0 e
    one j false e h = let w : ⊥ = cc in absurd w

    there : (o : Option ℕ) → at_terminal t g.terminals.bits ≡ o → has (number_alone o) k ≡ true →
        (k ≤ eof_number g.terminals) × (next_of_number g.terminals k ≡ Some (terminal_view t))
    there None e h = let w : ⊥ = cc in absurd w
    there (Some j) e h =
        let same : j ≡ k = one j (nat_eq j k) refl h in
        let at : slice_get g.terminals.all k ≡ Some t = ap (slice_get g.terminals.all) (sym same) ∙ numbered.places j t e in
        (omega (arith, slice_get_within g.terminals.all k t at), ap (option_map terminal_view) at)

    back : (o : Option TerminalString) → slice_get g.terminals.all k ≡ o → option_map terminal_view o ≡ Some (terminal_view t) →
        has (number_alone (at_terminal t g.terminals.bits)) k ≡ true
    back None e h = let w : ⊥ = cc in absurd w
    back (Some u) e h =
        let same : u ≡ t = same_terminal u t (some_same (terminal_view u) (terminal_view t) h) in
        let at : at_terminal t g.terminals.bits ≡ Some k = ap (λ v. at_terminal v g.terminals.bits) (sym same) ∙ numbered.numbered k u e in
        subst (λ o. has (number_alone o) k ≡ true) (sym at) (ap (λ b. b || false) ((Decides-eqb k k).1 refl))

-- the trace of a shift has its terminal in its own state
pub shift_traces : {L : Type 0} (look : L → states.LookaheadSet) (g : Grammar) (s : Text) (all : List (State L)) (n : ℕ) (t : TerminalString)
    (c : ℕ) (before after : TableView) → IsTerminalSet g.terminals →
    TableGains (AddsTokens n (number_alone (at_terminal t g.terminals.bits))) (EntersAt n) NotesNothing c before after →
    TracesMove look g s all n (shift (terminal_view t)) c before after
shift_traces look g s all n t c before after numbered gains =
    table_gains_alike (AddsTokens n (number_alone (at_terminal t g.terminals.bits)))
    (λ m. ByNumber g (λ (x : Next). (m ≡ n) × (x ≡ Some (terminal_view t)))) (EntersAt n) (λ m. m ≡ n) NotesNothing NotesNothing c before after
    (λ m k. (λ h. let e = (number_is g numbered t k).0 h.1 in (e.0, (h.0, e.1)), λ h. (h.1.0, (number_is g numbered t k).1 (h.0, h.1.1))))
    (λ m. (λ h. h, λ h. h)) (λ k m. (λ h. h, λ h. h)) gains
