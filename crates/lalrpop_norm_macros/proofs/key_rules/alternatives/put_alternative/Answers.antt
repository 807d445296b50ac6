use Rattle.std.proofs.Common.{◌∙◌, [], ◌∷◌, IsTrue, ap, inl, map, rules}
use Rattle.std.proofs.lemmas.List.{map-append}
use Rattle.lalrpop_grammar.specs.Views.{alternative_view}
use Rattle.lalrpop_norm_macros.proofs.key_rules.alternatives.put_alternative.Goals as goal

pub returns-clause-put : goal.returns-clause-put
returns-clause-put g c =
    let old = c.args.made.now in
    let b = c.in_ok-held_alternative.field-0 in
    let stands : IsTrue c.in_ok-is_held.field-0 = search rules in
    inl (
      c.in_ok-is_held.ensures.exact.0 stands,
      alternative_view b,
      ap (map alternative_view) c.in_ok-push.ensures.ok ∙ map-append alternative_view old (b ∷ []),
      c.in_ok-held_alternative.ensures (g.F.Finder.finds c.args.finder.now),
    )
