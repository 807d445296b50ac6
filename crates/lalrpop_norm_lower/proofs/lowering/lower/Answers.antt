use Rattle.lalrpop_grammar.specs.Views.{grammar_view}
use Rattle.lalrpop_norm_lower.proofs.LoweredLemmas.{made_lowered}
use Rattle.lalrpop_norm_lower.proofs.ReadyLemmas.{made_ready}
use Rattle.lalrpop_norm_lower.proofs.lowering.lower.Goals as goal

pub returns-clause-lowered : goal.returns-clause-lowered
returns-clause-lowered c = λ finds l.
    made_lowered finds (grammar_view c.args.grammar) c.args.types l c.in_ok-lower_grammar.field-0 c.in_ok-lower_grammar.ensures.made

pub returns-clause-ready : goal.returns-clause-ready
returns-clause-ready c = λ typed.
    made_ready (grammar_view c.args.grammar) c.args.types c.in_ok-lower_grammar.field-0 c.in_ok-lower_grammar.ensures.made typed
