use Rattle.std.proofs.Common.{◌≡◌, map, drop}
use Rattle.std.specs.Prelude.{flat_map}
use Rattle.lalrpop_grammar.specs.Views.{match_item_view}
use Rattle.lalrpop_norm_prevalidate.specs.Names.{first_reserved, name_in_entry}
use Rattle.lalrpop_norm_prevalidate.proofs.names.reserved_in_entries.Given as goal

abbrev pub invariant-loop-entry : goal.invariant-loop-entry
invariant-loop-entry l =
    first_reserved l.prefix (flat_map name_in_entry (map match_item_view (drop l.entry-index l.entries)))
    ≡ first_reserved l.prefix (flat_map name_in_entry (map match_item_view l.entries))
