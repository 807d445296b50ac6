-- States while a merge goes on: a state that leads to itself and to which two others lead is copied for one of them.
use Rattle.std.proofs.Common.{◌≡◌, ◌∙◌, ℕ, zero, suc, List, [], ◌∷◌, refl, sym, ap, subst, arith, Some, slice_get}
use Rattle.lalrpop_grammar_symbols.specs.declared.names.NonterminalString.{NonterminalString}
use Rattle.lalrpop_lr1_theory.proofs.ListLemmas.{contains_here}
use Rattle.lalrpop_lr1_theory.proofs.StepLemmas.{some_same}
use Rattle.lalrpop_lr1_core.specs.Edges.{state_index}
use Rattle.lalrpop_lr1_core.specs.declared.state.State.{State}
use Rattle.lalrpop_lr1_core.specs.declared.state_index.StateIndex.{StateIndex}
use Rattle.lalrpop_lr1_core.proofs.ExamplesOfViews.{name}
use Rattle.lalrpop_lane_tables.specs.CopiedStates.{with_first_edges}
use Rattle.lalrpop_lane_tables.specs.MergeClasses.{class_key_of}
use Rattle.lalrpop_lane_tables.specs.MergeViews.{AreClasses}
use Rattle.lalrpop_lane_tables.specs.MergeWalks.{step_to, steps_to}
use Rattle.lalrpop_lane_tables.specs.MergedStates.{AreMerged, KeepsSpread, StandsFor, edges_by_origin, redirected_state}
use Rattle.lalrpop_lane_tables.specs.declared.merged_states.FirstEdges.{FirstEdges}

abbrev a : NonterminalString
a = name "A"

abbrev b : NonterminalString
b = name "B"

abbrev with_gotos : ℕ → List (NonterminalString × StateIndex) → State (List ℕ)
with_gotos n gotos = record { index = state_index n; items = record { vec = [] }; shifts = []; reductions = []; gotos = gotos }

-- from states 0 and 1 edges lead to state 2, and from there to itself
abbrev originals : List (State (List ℕ))
originals =
    with_gotos 0 ((a, state_index 2) ∷ (b, state_index 1) ∷ []) ∷ with_gotos 1 ((a, state_index 2) ∷ []) ∷ with_gotos 2 ((b, state_index 2) ∷ [])
    ∷ []

-- state 3 is a copy of it, to which state 1 leads, and the copy itself
abbrev merged : List (State (List ℕ))
merged =
    with_gotos 0 ((a, state_index 2) ∷ (b, state_index 1) ∷ []) ∷ with_gotos 1 ((a, state_index 3) ∷ []) ∷ with_gotos 2 ((b, state_index 2) ∷ [])
    ∷ with_gotos 3 ((b, state_index 3) ∷ []) ∷ []

-- edges to the original alone are redirected, all of them
one_redirected : redirected_state (state_index 2) (state_index 3) (with_gotos 1 ((a, state_index 2) ∷ [])) ≡ with_gotos 1 ((a, state_index 3) ∷ [])
one_redirected = refl

all_redirected : redirected_state (state_index 2) (state_index 3)
    (with_gotos 3 ((a, state_index 2) ∷ (b, state_index 0) ∷ (name "C", state_index 2) ∷ []))
    ≡ with_gotos 3 ((a, state_index 3) ∷ (b, state_index 0) ∷ (name "C", state_index 3) ∷ [])
all_redirected = refl

-- a copy has the edges that were noted
abbrev noted : FirstEdges
noted = record { shifts = []; gotos = (a, state_index 2) ∷ [] }

first_edges : with_first_edges (Some noted) (with_gotos 4 ((a, state_index 3) ∷ [])) ≡ with_gotos 4 ((a, state_index 2) ∷ [])
first_edges = refl

-- the classes of states, and steps to successors
class_of_third : class_key_of ((state_index 2, record { index = 0 }) ∷ (state_index 3, record { index = 1 }) ∷ []) (state_index 3)
    ≡ Some (record { index = 1 })
class_of_third = refl

two_steps : steps_to (state_index 3) (state_index 2) (state_index 2 ∷ state_index 5 ∷ [])
    ≡ step_to (state_index 3) (state_index 2) (state_index 2) ∷ step_to (state_index 3) (state_index 2) (state_index 5) ∷ []
two_steps = refl

-- by what the four states are copies of
abbrev origin : ℕ → ℕ
origin zero = 0
origin (suc zero) = 1
origin (suc (suc n)) = 2

each_stands : (n : ℕ) (state : State (List ℕ)) → slice_get merged n ≡ Some state → StandsFor originals origin (origin n) state
each_stands zero state at =
    subst (λ (s : State (List ℕ)). StandsFor originals origin 0 s) (some_same (with_gotos 0 ((a, state_index 2) ∷ (b, state_index 1) ∷ [])) state at)
    (record {
      original = with_gotos 0 ((a, state_index 2) ∷ (b, state_index 1) ∷ []);
      at = refl;
      items = refl;
      reductions = refl;
      edges = record { shifts_alike = refl; gotos_alike = refl };
    })
each_stands (suc zero) state at =
    subst (λ (s : State (List ℕ)). StandsFor originals origin 1 s) (some_same (with_gotos 1 ((a, state_index 3) ∷ [])) state at) (record {
      original = with_gotos 1 ((a, state_index 2) ∷ []);
      at = refl;
      items = refl;
      reductions = refl;
      edges = record { shifts_alike = refl; gotos_alike = refl };
    })
each_stands (suc (suc zero)) state at =
    subst (λ (s : State (List ℕ)). StandsFor originals origin 2 s) (some_same (with_gotos 2 ((b, state_index 2) ∷ [])) state at) (record {
      original = with_gotos 2 ((b, state_index 2) ∷ []);
      at = refl;
      items = refl;
      reductions = refl;
      edges = record { shifts_alike = refl; gotos_alike = refl };
    })
each_stands (suc (suc (suc zero))) state at =
    subst (λ (s : State (List ℕ)). StandsFor originals origin 2 s) (some_same (with_gotos 3 ((b, state_index 3) ∷ [])) state at) (record {
      original = with_gotos 2 ((b, state_index 2) ∷ []);
      at = refl;
      items = refl;
      reductions = refl;
      edges = record { shifts_alike = refl; gotos_alike = refl };
    })
each_stands (suc (suc (suc (suc n)))) state at = let w : ⊥ = cc in absurd w

-- Near miss: an edge is redirected to a state that is no copy of where it led. Whatever is said to be a copy, these states are not spread.
abbrev misled : List (State (List ℕ))
misled =
    with_gotos 0 ((a, state_index 2) ∷ (b, state_index 1) ∷ []) ∷ with_gotos 1 ((a, state_index 0) ∷ []) ∷ with_gotos 2 ((b, state_index 2) ∷ [])
    ∷ []

-- where the first edge leads, and whether there is a second
abbrev first_target : List (NonterminalString × ℕ) → ℕ
first_target [] = 9
first_target (e ∷ es) = e.1

not_misled : (copies : List (StateIndex × StateIndex)) (firsts : List (StateIndex × FirstEdges)) (o : ℕ → ℕ) →
    AreMerged originals o copies firsts misled → ⊥
not_misled copies firsts o h =
    let s = h.each 1 (with_gotos 1 ((a, state_index 0) ∷ [])) refl in
    go (o 1) s.original s.at (sym h.first_state ∙ ap first_target s.edges.gotos_alike)
  where
    go : (k : ℕ) (u : State (List ℕ)) → slice_get originals k ≡ Some u → 0 ≡ first_target (edges_by_origin (λ n. n) u.gotos) → ⊥
    go zero u at e =
        let f : 0 ≡ 2 = e ∙ ap (λ (s : State (List ℕ)). first_target (edges_by_origin (λ n. n) s.gotos))
        (sym (some_same (with_gotos 0 ((a, state_index 2) ∷ (b, state_index 1) ∷ [])) u at)) in omega (arith, f)
    go (suc zero) u at e =
        let f : 0 ≡ 2 = e ∙ ap (λ (s : State (List ℕ)). first_target (edges_by_origin (λ n. n) s.gotos))
        (sym (some_same (with_gotos 1 ((a, state_index 2) ∷ [])) u at)) in omega (arith, f)
    go (suc (suc zero)) u at e =
        let f : 0 ≡ 2 = e ∙ ap (λ (s : State (List ℕ)). first_target (edges_by_origin (λ n. n) s.gotos))
        (sym (some_same (with_gotos 2 ((b, state_index 2) ∷ [])) u at)) in omega (arith, f)
    go (suc (suc (suc k))) u at e = let w : ⊥ = cc in w

-- Near miss: a copy came, and none was taken off.
not_counted : (copies : List (StateIndex × StateIndex)) → KeepsSpread [] [] originals 1 copies [] merged 1 → ⊥
not_counted copies h = let z : 5 ≡ 4 = h.count in omega (arith, z)

-- Near miss: a copy gets a key that the table of classes hasn't.
not_of_table : AreClasses 1 ((state_index 3, record { index = 1 }) ∷ []) ((0, [] ∷ []) ∷ []) → ⊥
not_of_table h =
    let z = h.keys (state_index 3) (record { index = 1 }) (contains_here (state_index 3, record { index = 1 }) []) in omega (arith, z)
