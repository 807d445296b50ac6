use Rattle.std.proofs.Common.{◌≡◌, take}
use Rattle.std.specs.Prelude.{Vec}
use Rattle.std.specs.declared.alloc.Global.{Global}
use Rattle.lalrpop_run_trees.specs.LabelTables.{kept_place, place_from_here, places_from}
use Rattle.lalrpop_run_trees.specs.declared.flat_labels.mark.LabelMark.{LabelMark}
use Rattle.lalrpop_run_trees.proofs.flat_labels.label_table.LabelTable.add_productions.Given as goal

-- the labels of the productions up to here are kept
abbrev pub invariant-loop-place : goal.invariant-loop-place
invariant-loop-place l = (label : Vec LabelMark Global) → kept_place l.self label
    ≡ place_from_here (kept_place l.initial.self label) label.items (places_from l.actions l.given 0 (take l.place l.productions))
