-- States while a merge copies some of them and lets edges lead to copies: over whatever they are spread, they stay spread over it.
use Rattle.std.specs.Prelude.{ℕ, ◌+◌, ◌<◌, ◌≤◌, ◌≡◌, List, length, map, cond, nat_eq, Some, Contains, slice_get}
use Rattle.lalrpop_grammar_symbols.specs.Views.{terminal_view}
use Rattle.lalrpop_grammar_symbols.specs.declared.names.NonterminalString.{NonterminalString}
use Rattle.lalrpop_grammar_symbols.specs.declared.terminal.TerminalString.{TerminalString}
use Rattle.lalrpop_lr1_core.specs.declared.state.State.{State}
use Rattle.lalrpop_lr1_core.specs.declared.state_index.StateIndex.{StateIndex}
use Rattle.lalrpop_lane_tables.specs.declared.merged_states.FirstEdges.{FirstEdges}

-- where edges lead, by what the states to which they lead are copies of
abbrev pub edge_by_origin : {K : Type 0} → (ℕ → ℕ) → K × StateIndex → K × ℕ
edge_by_origin origin e = (e.0, origin e.1.0)

abbrev pub edges_by_origin : {K : Type 0} → (ℕ → ℕ) → List (K × StateIndex) → List (K × ℕ)
edges_by_origin origin edges = map (edge_by_origin origin) edges

-- an edge to one state leads to another
abbrev pub redirected_edge : {K : Type 0} → StateIndex → StateIndex → K × StateIndex → K × StateIndex
redirected_edge from to e = (e.0, cond (nat_eq e.1.0 from.0) to e.1)

abbrev pub redirected_state : {L : Type 0} → StateIndex → StateIndex → State L → State L
redirected_state from to state = record state {
  shifts = map (redirected_edge from to) state.shifts;
  gotos = map (redirected_edge from to) state.gotos;
}

-- all edges lead to states below the count
abbrev pub AreEdgesBelow : {K : Type 0} → ℕ → List (K × StateIndex) → Type 0
AreEdgesBelow {K} count edges = (e : K × StateIndex) → Contains edges e → e.1.0 < count

module _ {L : Type 0} where
  -- the edges lead as those of the state
  pub record LeadAlike (origin : ℕ → ℕ) (shifts : List (TerminalString × StateIndex)) (gotos : List (NonterminalString × StateIndex))
      (original : State L) : Type 0 where
    pub shifts_alike : edges_by_origin origin shifts ≡ edges_by_origin (λ n. n) original.shifts
    pub gotos_alike : edges_by_origin origin gotos ≡ edges_by_origin (λ n. n) original.gotos

  -- a state stands for an original: it has its items and reductions, and edges that lead alike
  pub record StandsFor (originals : List (State L)) (origin : ℕ → ℕ) (n : ℕ) (state : State L) : Type 0 where
    pub original : State L
    pub at : slice_get originals n ≡ Some original
    pub items : state.items ≡ original.items
    pub reductions : state.reductions ≡ original.reductions
    pub edges : LeadAlike origin state.shifts state.gotos original

  -- the edges that a state had earlier lead alike, too
  pub record HadEdges (originals : List (State L)) (origin : ℕ → ℕ) (count n : ℕ) (first : FirstEdges) : Type 0 where
    pub original : State L
    pub at : slice_get originals n ≡ Some original
    pub edges : LeadAlike origin first.shifts first.gotos original
    pub shifts_below : AreEdgesBelow count first.shifts
    pub gotos_below : AreEdgesBelow count first.gotos

  -- States are spread over originals: each stands for one, state 0 for the first, and edges lead to states that there are. Copies are
  -- noted with what they are copies of, and edges that a state had earlier with it.
  pub record AreMerged (originals : List (State L)) (origin : ℕ → ℕ) (copies : List (StateIndex × StateIndex))
      (firsts : List (StateIndex × FirstEdges)) (states : List (State L)) : Type 0 where
    pub each : (n : ℕ) (state : State L) → slice_get states n ≡ Some state → StandsFor originals origin (origin n) state
    pub shifts_below : (n : ℕ) (state : State L) → slice_get states n ≡ Some state → AreEdgesBelow (length states) state.shifts
    pub gotos_below : (n : ℕ) (state : State L) → slice_get states n ≡ Some state → AreEdgesBelow (length states) state.gotos
    pub copied : (copy from : StateIndex) → Contains copies (copy, from) → origin copy.0 ≡ origin from.0
    pub within : (copy from : StateIndex) → Contains copies (copy, from) → (copy.0 < length states) × (from.0 < length states)
    pub had : (n : StateIndex) (first : FirstEdges) → Contains firsts (n, first) → HadEdges originals origin (length states) (origin n.0) first
    pub had_within : (n : StateIndex) (first : FirstEdges) → Contains firsts (n, first) → n.0 < length states
    pub first_state : origin 0 ≡ 0

  -- states are spread over the originals, and those with numbers below the count by what they were spread before
  pub record StayMerged (originals : List (State L)) (origin : ℕ → ℕ) (count : ℕ) (copies : List (StateIndex × StateIndex))
      (firsts : List (StateIndex × FirstEdges)) (states : List (State L)) : Type 0 where
    pub new_origin : ℕ → ℕ
    pub extends : (n : ℕ) → n < count → new_origin n ≡ origin n
    pub merged : AreMerged originals new_origin copies firsts states

  -- no two edges of the state are by one symbol
  pub record HasOneEdgeEach (state : State L) : Type 0 where
    pub shifts_once : (i j : ℕ) (e f : TerminalString × StateIndex) → slice_get state.shifts i ≡ Some e → slice_get state.shifts j ≡ Some f →
        terminal_view e.0 ≡ terminal_view f.0 → i ≡ j
    pub gotos_once : (i j : ℕ) (e f : NonterminalString × StateIndex) → slice_get state.gotos i ≡ Some e → slice_get state.gotos j ≡ Some f →
        e.0.0 ≡ f.0.0 → i ≡ j

  -- a state is as before, but for where its edges lead
  pub record IsSameState (old : State L) (new : State L) : Type 0 where
    pub index : new.index ≡ old.index
    pub items : new.items ≡ old.items
    pub reductions : new.reductions ≡ old.reductions

  -- Whatever states were spread over, they still are, and as many came as copies were taken off. Those that there were are as before but
  -- for their edges, and those that came are numbered by their places.
  pub record KeepsSpread (copies : List (StateIndex × StateIndex)) (firsts : List (StateIndex × FirstEdges)) (old : List (State L)) (left : ℕ)
      (new_copies : List (StateIndex × StateIndex)) (new_firsts : List (StateIndex × FirstEdges)) (new : List (State L)) (new_left : ℕ) :
      Type 0 where
    pub spread : (originals : List (State L)) (origin : ℕ → ℕ) → AreMerged originals origin copies firsts old →
        StayMerged originals origin (length old) new_copies new_firsts new
    pub kept : (n : ℕ) (state : State L) → slice_get old n ≡ Some state →
        (now : State L) × (slice_get new n ≡ Some now) × IsSameState state now
    pub numbered : (n : ℕ) (state : State L) → slice_get new n ≡ Some state → length old ≤ n → state.index.0 ≡ n
    pub count : length new + new_left ≡ length old + left
    pub grown : length old ≤ length new
