use Rattle.std.proofs.Common.{◌≡◌, ◌++◌, map}
use Rattle.std.specs.Vec.Iter.{into_iter_items}
use Rattle.lalrpop_grammar.specs.Views.{attribute_view}
use Rattle.lalrpop_norm_theory.specs.Between.{without_cfg}
use Rattle.lalrpop_norm_resolve.proofs.enabling.attributes_without_cfg.Given as goal

abbrev pub invariant-loop-attribute : goal.invariant-loop-attribute
invariant-loop-attribute l =
    map attribute_view l.kept ++ without_cfg (map attribute_view (into_iter_items l.attribute-iterator))
    ≡ without_cfg (map attribute_view l.fn.attributes)
