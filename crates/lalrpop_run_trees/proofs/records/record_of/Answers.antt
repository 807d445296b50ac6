use Rattle.std.proofs.Common.{◌∙◌, ap, length, refl, sym}
use Rattle.std.specs.Option.{option_and_then}
use Rattle.std.specs.Prelude.{slice_get}
use Rattle.std.proofs.lemmas.Option.{slice_get_past, slice_get_read}
use Rattle.lalrpop_grammar_repr.specs.declared.action.ActionFnDefn.{ActionFnDefn}
use Rattle.lalrpop_run_trees.specs.FlatLabels.{record_in}
use Rattle.lalrpop_run_trees.proofs.RecordLemmas.{no_definition, no_inline, no_record_in}
use Rattle.lalrpop_run_trees.proofs.records.record_of.Goals as goal

pub returns-in-Inline-clause-found : goal.returns-in-Inline-clause-found
returns-in-Inline-clause-found c =
    let actions = c.args.actions.now in
    record {
      definition = c.in-Some.definition.now;
      at = ap (slice_get actions) (sym c.index.ensures)
          ∙ slice_get_read actions (length actions) c.index.result c.in-Some.definition.now refl c.in-Some.ensures.lookup.3.0
          c.in-Some.ensures.lookup.1;
      kind_is = c.in-Inline.is;
    }

pub returns-in_default : goal.returns-in_default
returns-in_default c =
    let actions = c.args.actions.now in
    let d = c.in-Some.definition.now in
    let at = ap (slice_get actions) (sym c.index.ensures)
    ∙ slice_get_read actions (length actions) c.index.result d refl c.in-Some.ensures.lookup.3.0 c.in-Some.ensures.lookup.1 in
    record {
      found = tt;
      none = no_inline actions c.args.action.0 d at c.in_default.not-Inline;
      at = sym (ap (option_and_then (λ (e : ActionFnDefn). record_in e.kind)) at ∙ no_record_in d.kind c.in_default.not-Inline);
    }

pub returns-in-None-clause-none : goal.returns-in-None-clause-none
returns-in-None-clause-none c =
    let actions = c.args.actions.now in
    no_definition actions c.args.action.0
    (ap (slice_get actions) (sym c.index.ensures) ∙ slice_get_past actions c.index.result c.in-None.ensures.lookup.3)
