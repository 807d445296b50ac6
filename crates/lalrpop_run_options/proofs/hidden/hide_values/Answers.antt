use Rattle.std.proofs.Common.{◌∙◌, sym}
use Rattle.lalrpop_run_options.proofs.HiddenLemmas.{shown-end, shown-step}
use Rattle.lalrpop_run_options.proofs.hidden.hide_values.Goals as goal

pub loop-word-preserved : goal.loop-word-preserved
loop-word-preserved c =
    shown-step c.args.line.now c.loop-word.shown.items _ c.loop-word.place _ c.loop-word.word-index _ _ c.loop-word-test.true
    c.in_ok-push.ensures.items c.show_word.ensures c.after-place.ensures
    ∙ c.loop-word.invariant

pub returns : goal.returns
returns c =
    sym (shown-end c.args.line.now c.loop-word.shown.items c.loop-word.place c.loop-word.word-index c.loop-word-test.false)
    ∙ c.loop-word.invariant
