-- What a run of a deterministic automaton tells of the other one. For the making of the automaton.
use Rattle.std.proofs.Common.{ℕ, ◌<◌, List}
use Rattle.lalrpop_lexer_nfa.specs.Paths.{Graph}
use Rattle.lalrpop_lexer_nfa.specs.Sets.{IsReachedBy, IsReachedSet}
use Rattle.lalrpop_lexer_nfa.proofs.ArrivalLemmas.{set_start, set_step}
use Rattle.lalrpop_lexer.specs.Numbering.{EdgeView, edge_at, IsReachedByWord}
use Rattle.lalrpop_lexer.specs.Subsets.{set_at, IsSubsetConstruction}

module _ (t : Graph) (begin : ℕ) (sets : List (List ℕ)) (edges : ℕ → List EdgeView) (n : ℕ)
    (machine : IsSubsetConstruction t begin sets edges n) where
  -- a run ends in one of the automaton's states
  pub run_inside : {w : List ℕ} {s : ℕ} → IsReachedByWord edges w s → s < n
  run_inside IsReachedByWord.here = machine.some
  run_inside (IsReachedByWord.along w s c k run goes) = machine.inside s k (run_inside run) goes.0

  -- a state's set is what its words lead to
  pub run_set : {w : List ℕ} {s : ℕ} → IsReachedByWord edges w s → IsReachedSet t begin w (set_at sets s)
  run_set IsReachedByWord.here = set_start t begin (set_at sets 0) machine.first
  run_set (IsReachedByWord.along w s c k run goes) =
      set_step t begin (set_at sets s) (set_at sets (edge_at (edges s) k).2) w c (run_set run) (machine.fits s k c (run_inside run) goes)

  -- what a word leads to has a run
  pub run_from_arrives : {w : List ℕ} {q : ℕ} → IsReachedBy t begin w q → (s : ℕ) × IsReachedByWord edges w s
  run_from_arrives IsReachedBy.start = (0, IsReachedByWord.here)
  run_from_arrives (IsReachedBy.epsilon q a lead) = run_from_arrives a
  run_from_arrives (IsReachedBy.transition {w = u} {r = r} q c a reads) =
      let run = run_from_arrives a in
      let edge = machine.all run.0 c q r (run_inside run.1) ((run_set run.1 q).1 a) reads in
      ((edge_at (edges run.0) edge.0).2, IsReachedByWord.along u run.0 c edge.0 run.1 edge.1)
