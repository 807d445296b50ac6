use Rattle.std.proofs.Common.{◌∙◌, ◌||◌, List, ap, arith, refl, sym}
use Rattle.std.specs.List.{list_any, slice_get}
use Rattle.std.proofs.lemmas.Option.{slice_get_read}
use Rattle.lalrpop_grammar_repr.specs.declared.action.InlinedSymbol.{InlinedSymbol}
use Rattle.lalrpop_lr1_inline.specs.InliningSteps.{entry_fails}
use Rattle.lalrpop_lr1_inline.proofs.made.definition.Goals as goal

pub returns : goal.returns
returns c =
    let actions = c.args.actions.now in
    let outer = c.index-actions-index.result in
    record {
      outer = outer;
      has_outer = ap (slice_get actions) (sym c.index.ensures)
          ∙ slice_get_read actions _ c.index.result outer refl (omega (arith, c.requires, c.index.ensures)) c.index-actions-index.is;
      fallible_is = c.made_fails-fallible.ensures
          ∙ ap (λ (r : List InlinedSymbol). outer.fallible || list_any (entry_fails actions) r) c.as_slice.ensures;
      type_is = c.in_ok-ret_type.ensures;
      kind_is = refl;
    }
