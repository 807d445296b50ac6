use Rattle.std.proofs.Common.{◌≡◌}
use Rattle.std.specs.Prelude.{Vec, flat_map}
use Rattle.std.specs.declared.alloc.Global.{Global}
use Rattle.lalrpop_run_trees.specs.LabelTables.{kept_place, label_places, last_place, place_from_here, places_from}
use Rattle.lalrpop_run_trees.specs.declared.flat_labels.mark.LabelMark.{LabelMark}
use Rattle.lalrpop_run_trees.proofs.flat_labels.label_table.LabelTable.new.Given as goal

-- with the labels of the nonterminals that are still to come all are kept
abbrev pub invariant-loop-data : goal.invariant-loop-data
invariant-loop-data l = (label : Vec LabelMark Global) →
    place_from_here (kept_place l.table label) label.items
    (flat_map (λ e. places_from l.grammar.action_fn_defns l.given 0 e.1.productions) l.data-iterator)
    ≡ last_place label.items (label_places l.grammar l.given)
