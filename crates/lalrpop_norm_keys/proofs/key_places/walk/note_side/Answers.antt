use Rattle.std.proofs.Common.{◌++◌, ◌∙◌, IsTrue, ap, inl, map, rules}
use Rattle.lalrpop_grammar_symbols.specs.Symbols.{syms}
use Rattle.lalrpop_grammar_symbols.specs.Views.{symbol_view}
use Rattle.lalrpop_grammar_rules.specs.Views.{closed_view, closeds}
use Rattle.lalrpop_norm_keys.specs.MetKeys.{keys_met_in_row}
use Rattle.lalrpop_norm_keys.specs.Views.{met_view}
use Rattle.lalrpop_norm_keys.proofs.key_places.walk.note_side.Goals as goal

pub returns-clause-added : goal.returns-clause-added
returns-clause-added g c =
    let stands : IsTrue c.in_ok-is_held.field-0 = search rules in
    let expr = c.args.choice.now.alternative.now.expr in
    inl (
      rw c.as_slice.ensures at (c.in_ok-is_held.ensures.exact.0 stands),
      c.in_ok-note_keys_met.ensures
          ∙ ap (λ l. map met_view c.args.met.now ++ keys_met_in_row (syms (map symbol_view l))
          (closeds (map closed_view c.as_slice-3.result.now))) c.as_slice-2.ensures
          ∙ ap (λ l. map met_view c.args.met.now ++ keys_met_in_row (syms (map symbol_view expr)) (closeds l))
          (ap (map closed_view) c.as_slice-3.ensures ∙ c.in_ok-side.ensures (g.F.Finder.finds c.args.finder.now)),
    )
