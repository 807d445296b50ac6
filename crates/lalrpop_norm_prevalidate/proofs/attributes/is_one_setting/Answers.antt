use Rattle.std.proofs.Common.{map}
use Rattle.std.proofs.lemmas.List.{length-map}
use Rattle.lalrpop_grammar.specs.Views.{attribute_view}
use Rattle.lalrpop_norm_prevalidate.proofs.AttributeLemmas.{one_setting_of_two}
use Rattle.lalrpop_norm_prevalidate.proofs.attributes.is_one_setting.Goals as goal

pub returns-in-len2-up : goal.returns-in-len2-up
returns-in-len2-up c =
    one_setting_of_two c.args.key.now (map attribute_view c.args.parts.now) (simp length-map c.in-len2-up.len_at_least)
