-- Edges that are added one after another from one state. For the loops that add them.
use Rattle.std.proofs.Common.{◌≡◌, ◌≢◌, ℕ, ◌<◌, List, [], ◌∷◌, ◌++◌, length, get_or, map, All, ◌≤◌, sym}
use Rattle.std.proofs.Common.{ap, ◌∙◌, refl, arith}
use Rattle.std.proofs.lemmas.List.{append-nil, append_assoc, map_push, get_or-map}
use Rattle.std.proofs.lemmas.List.Elements.{Contains-get_or}
use Rattle.lalrpop_lexer_pattern.specs.declared.class.Range.{Range}
use Rattle.lalrpop_lexer_nfa.specs.declared.edge.Edge.{Edge}
use Rattle.lalrpop_lexer_nfa.specs.declared.edge.Noop.{Noop}
use Rattle.lalrpop_lexer_nfa.specs.declared.test.Test.{Test}
use Rattle.lalrpop_lexer_nfa.specs.EdgeLists.{sources, MayComeNext}
use Rattle.lalrpop_lexer_nfa.specs.Paths.{Graph, epsilon_edge_view, transition_view}
use Rattle.lalrpop_lexer_nfa.specs.Growth.{HasNoEpsilonEdges, HasNoTransitionEdges, HasNewEpsilonEdges, HasNewTransitions}
use Rattle.lalrpop_lexer_nfa.specs.Growth.{epsilon_edges_from, transitions_from}
use Rattle.lalrpop_lexer_nfa.proofs.ListLemmas.{Contains-map}
use Rattle.lalrpop_lexer_nfa.proofs.EdgeListLemmas.{MayComeNext-none, length-sources, sources_inside}

-- a graph that stays as it is got epsilon edges to no target
pub HasNewEpsilonEdges-none : (t : Graph) (q : ℕ) → HasNewEpsilonEdges t t q []
HasNewEpsilonEdges-none t q = record { count = refl; kinds = refl; noops = sym (append-nil t.noops); tests = refl }

-- epsilon edges to some targets, and then one to one more
pub HasNewEpsilonEdges-more : (old mid new : Graph) (q r : ℕ) (targets : List ℕ) → HasNewEpsilonEdges old mid q targets
    → HasNewEpsilonEdges mid new q (r ∷ []) → HasNewEpsilonEdges old new q (targets ++ r ∷ [])
HasNewEpsilonEdges-more old mid new q r targets one two = record {
  count = two.count ∙ one.count;
  kinds = two.kinds ∙ one.kinds;
  noops = two.noops ∙ ap (λ es. es ++ epsilon_edges_from q (r ∷ [])) one.noops
      ∙ append_assoc old.noops (epsilon_edges_from q targets) (epsilon_edges_from q (r ∷ []))
      ∙ ap (λ es. old.noops ++ es) (sym (map_push (λ x. record { from = q; to = x }) targets r));
  tests = two.tests ∙ one.tests;
}

-- a graph that stays as it is got transitions for no range
pub HasNewTransitions-none : (t : Graph) (q to : ℕ) → HasNewTransitions t t q [] to
HasNewTransitions-none t q to = record { count = refl; kinds = refl; noops = refl; tests = sym (append-nil t.tests) }

-- transitions for some ranges, and then one for one more
pub HasNewTransitions-more : (old mid new : Graph) (q to : ℕ) (r : Range) (ranges : List Range) → HasNewTransitions old mid q ranges to
    → HasNewTransitions mid new q (r ∷ []) to → HasNewTransitions old new q (ranges ++ r ∷ []) to
HasNewTransitions-more old mid new q to r ranges one two = record {
  count = two.count ∙ one.count;
  kinds = two.kinds ∙ one.kinds;
  noops = two.noops ∙ one.noops;
  tests = two.tests ∙ ap (λ es. es ++ transitions_from q (r ∷ []) to) one.tests
      ∙ append_assoc old.tests (transitions_from q ranges to) (transitions_from q (r ∷ []) to)
      ∙ ap (λ es. old.tests ++ es)
      (sym (map_push (λ (range : Range). record { from = q; start = range.start; end = range.end; to = to }) ranges r));
}

-- a state may come last in the list of epsilon edges where it has none
pub MayComeNext-no_leads : (t : Graph) (es : List (Edge Noop)) (q : ℕ) → t.noops ≡ map epsilon_edge_view es → HasNoEpsilonEdges t q
    → MayComeNext (sources es) q
MayComeNext-no_leads t es q is none = MayComeNext-none (sources es) q (apart es is)
  where
    apart : (es : List (Edge Noop)) → t.noops ≡ map epsilon_edge_view es → (i : ℕ) → i < length (sources es)
        → get_or (sources es) i 0 ≢ q
    apart [] is i l e = omega arith
    apart (x ∷ xs) is i l e =
        let within : i < length (x ∷ xs) = omega (arith, size) in
        let edge : Edge Noop = get_or (x ∷ xs) i x in
        none edge.to.0 (
          epsilon_edge_view edge,
          rw is (Contains-map epsilon_edge_view (x ∷ xs) edge (Contains-get_or (x ∷ xs) i x within)),
          sym (get_or-map (λ (y : Edge Noop). y.from.0) (x ∷ xs) i x 0 within) ∙ e,
          refl,
        )
      where
        size : length (sources (x ∷ xs)) ≡ length (x ∷ xs)
        size = length-sources (x ∷ xs)

-- a state may come last in the list of transitions where it has none
pub MayComeNext-no_tests : (t : Graph) (es : List (Edge Test)) (q : ℕ) → t.tests ≡ map transition_view es → HasNoTransitionEdges t q
    → MayComeNext (sources es) q
MayComeNext-no_tests t es q is none = MayComeNext-none (sources es) q (apart es is)
  where
    apart : (es : List (Edge Test)) → t.tests ≡ map transition_view es → (i : ℕ) → i < length (sources es)
        → get_or (sources es) i 0 ≢ q
    apart [] is i l e = omega arith
    apart (x ∷ xs) is i l e =
        let within : i < length (x ∷ xs) = omega (arith, size) in
        let edge : Edge Test = get_or (x ∷ xs) i x in
        none (transition_view edge) (rw is (Contains-map transition_view (x ∷ xs) edge (Contains-get_or (x ∷ xs) i x within)))
        (sym (get_or-map (λ (y : Edge Test). y.from.0) (x ∷ xs) i x 0 within) ∙ e)
      where
        size : length (sources (x ∷ xs)) ≡ length (x ∷ xs)
        size = length-sources (x ∷ xs)

-- the edges come from other states
pub MayComeNext-fresh : {L : Type 0} (old new : List (Edge L)) (n q : ℕ) → new ≡ old → All (λ e. e.from.0 < n) old → n ≤ q
    → MayComeNext (sources new) q
MayComeNext-fresh old new n q same inside fresh =
    rw same (MayComeNext-none (sources old) q (λ i l e. omega (arith, sources_inside old n inside i l)))
