use Rattle.std.proofs.Common.{◌++◌, ◌∙◌, IsTrue, ap, inl, map, rules}
use Rattle.std.proofs.lemmas.List.{map-append}
use Rattle.lalrpop_grammar_rules.specs.Views.{closed_view}
use Rattle.lalrpop_norm_keys.proofs.instances.add_side.Goals as goal

pub returns-clause-added : goal.returns-clause-added
returns-clause-added g c =
    let old = c.args.symbols.now in
    let side = c.in_ok-side.side in
    let stands : IsTrue c.in_ok-ask_condition.field-0 = search rules in
    inl (
      rw c.as_slice.ensures at (c.in_ok-ask_condition.ensures.exact.0 stands),
      ap (map closed_view) c.in_ok-append.ensures ∙ map-append closed_view old side
          ∙ ap (λ l. map closed_view old ++ l) (c.in_ok-side.ensures (g.F.Finder.finds c.args.finder.now)),
    )
