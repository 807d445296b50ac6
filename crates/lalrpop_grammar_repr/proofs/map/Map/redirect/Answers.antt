use Rattle.std.proofs.Common.{rules, ◌∙◌, ap, map}
use Rattle.std.proofs.lemmas.Map.Made.{map_same_pairs}
use Rattle.lalrpop_grammar_repr.specs.Maps.{swapped}
use Rattle.lalrpop_grammar_repr.proofs.map.Map.redirect.Goals as goal

pub returns : goal.returns
returns g c =
    map_same_pairs _ (swapped g.V.PartialEq.eq c.args.from c.args.to) _ (λ k v b w f' t. search rules) _ _ c.retain.ensures.filtered
    ∙ ap (map (λ e. (e.0, swapped g.V.PartialEq.eq c.args.from c.args.to e.1))) c.self.view_is
