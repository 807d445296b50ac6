use Rattle.std.proofs.Common.{map}
use Rattle.std.proofs.lemmas.List.{length-map}
use Rattle.lalrpop_grammar.specs.Views.{attribute_view}
use Rattle.lalrpop_norm_prevalidate.proofs.AttributeLemmas.{one_predicate_of_two}
use Rattle.lalrpop_norm_prevalidate.proofs.attributes.+predicates.Goals as goal

pub is_one_predicate-returns-in-len2-up : goal.is_one_predicate-returns-in-len2-up
is_one_predicate-returns-in-len2-up t c =
    one_predicate_of_two (map attribute_view c.args.parts.now) (simp length-map c.in-len2-up.len_at_least)
