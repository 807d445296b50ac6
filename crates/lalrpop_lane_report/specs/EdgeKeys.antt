-- By what edges are hashed: the places of their nodes, which are alike of those that compare as equal.
use Rattle.std.specs.Prelude.{ℕ, ◌≡◌, ◌++◌, true, List}
use Rattle.std.specs.Hash as fed
use Rattle.std.proofs.Common.{ap, ◌∙◌}
use Rattle.std.proofs.lemmas.Bool.Decides.{Decides-eqb}
use Rattle.std.specs.Prelude.{nat_eq}
use Rattle.lalrpop_grammar_repr.proofs.EqualLemmas.{both_parts}
use Rattle.lalrpop_lane_report.specs.contracts.traces.trace_graph.TraceGraphEdgePartialEq.TheImpl as edges
use Rattle.lalrpop_lane_report.specs.declared.traces.trace_graph.TraceGraphEdge.{TraceGraphEdge}

abbrev pub ends_hash : TraceGraphEdge → List (List ℕ)
ends_hash e = fed.usize e.from ++ fed.usize e.to

pub same_ends_hash : (a b : TraceGraphEdge) → (edges.ghosts).eq a b ≡ true → ends_hash a ≡ ends_hash b
same_ends_hash a b equal =
    let x = both_parts (nat_eq a.from b.from) _ equal in
    let y = both_parts (nat_eq a.to b.to) _ x.1 in
    ap (λ n. fed.usize n ++ fed.usize a.to) ((Decides-eqb a.from b.from).0 x.0)
    ∙ ap (λ n. fed.usize b.from ++ fed.usize n) ((Decides-eqb a.to b.to).0 y.0)
