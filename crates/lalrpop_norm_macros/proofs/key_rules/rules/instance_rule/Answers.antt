use Rattle.std.proofs.Common.{ap, map, refl, rules}
use Rattle.lalrpop_grammar.specs.Views.{attribute_view}
use Rattle.lalrpop_norm_macros.proofs.key_rules.rules.instance_rule.Goals as goal

pub returns-clause-made : goal.returns-clause-made
returns-clause-made g c = record {
  name = search rules;
  public = search rules;
  attributes = ap (map attribute_view) (search rules);
  span = refl;
  parameters = search rules;
  declared = c.in_ok-type_decl.ensures (g.F.Finder.finds c.args.finder.now);
  alternatives = rw c.as_slice.ensures at c.in_ok-alternatives.ensures.made;
}
