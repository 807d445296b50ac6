use Rattle.std.proofs.Common.{◌∙◌, ap, sym}
use Rattle.std.specs.Prelude.{option_and_then}
use Rattle.lalrpop_run_options.proofs.HiddenLemmas.{value-end, value-found, value-step}
use Rattle.lalrpop_run_options.specs.Hidden.{if_hidden}
use Rattle.lalrpop_run_options.proofs.hidden.hidden_value.Goals as goal

pub loop-word-preserved : goal.loop-word-preserved
loop-word-preserved c =
    value-step c.args.line.now c.args.option.now c.loop-word.place _ c.loop-word.word-index _ c.loop-word-test.true
    (sym c.is_value_of.ensures ∙ c.if-is_value_of.false) c.after-place.ensures
    ∙ c.loop-word.invariant

pub returns-then-is_value_of : goal.returns-then-is_value_of
returns-then-is_value_of c =
    value-found c.args.line.now c.args.option.now c.loop-word.place c.loop-word.word-index _ _ _ c.loop-word-test.true
    (sym c.is_value_of.ensures ∙ c.if-is_value_of.true) c.loop-word.invariant c.begins_with_dash.ensures c.then_some.ensures

pub returns : goal.returns
returns c =
    ap (option_and_then if_hidden)
    (sym (value-end c.args.line.now c.args.option.now c.loop-word.place c.loop-word.word-index c.loop-word-test.false)
    ∙ c.loop-word.invariant)
