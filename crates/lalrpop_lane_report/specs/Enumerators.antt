-- What an enumerator of paths shows: the graph, and the paths that are left; and what a call gives of them.
use Rattle.std.specs.Prelude.{◌<◌, List, [], ◌∷◌, length, Option, Some, None, Result, Ok, Err, ◌≡◌}
use Rattle.std.specs.declared.alloc.AllocError.{AllocError}
use Rattle.lalrpop_lane_report.specs.declared.traces.example.Example.{Example}
use Rattle.lalrpop_lane_report.specs.Examples.{IsExample}
use Rattle.lalrpop_lane_report.specs.TraceGraphs.{GraphView}
use Rattle.lalrpop_lane_report.specs.TraceNodes.{TraceEdge}

-- a path, from the innermost edge out
abbrev pub TracePath : Type 0
TracePath = List TraceEdge

pub record EnumeratorView : Type 0 where
  pub graph : GraphView
  pub left : List TracePath

-- a call gives the example of the first path that is left, and leaves the others; or nothing, where none was left; where memory is refused,
-- none is left
abbrev pub GivesExample : EnumeratorView → Option (Result Example AllocError) → EnumeratorView → Type 0
GivesExample old None new = (old.left ≡ []) × (new.left ≡ []) × (new.graph ≡ old.graph)
GivesExample old (Some (Ok example)) new =
    (p : TracePath) × (old.left ≡ p ∷ new.left) × IsExample old.graph.nodes p example × (new.graph ≡ old.graph)
GivesExample old (Some (Err fault)) new = (0 < length old.left) × (new.left ≡ []) × (new.graph ≡ old.graph)
