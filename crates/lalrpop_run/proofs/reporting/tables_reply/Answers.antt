use Rattle.std.proofs.Common.{◌∙◌}
use Rattle.std.proofs.lemmas.Result.{IfOk-weaker}
use Rattle.lalrpop_run.proofs.ReportLemmas.{tables_told}
use Rattle.lalrpop_run.proofs.reporting.tables_reply.Goals as goal

pub returns : goal.returns
returns c =
    IfOk-weaker c.tell_tables.result _ _
    (λ reply told q g by prepared.
    tables_told q g c.args.prepared.now prepared c.known.ensures.parsed c.known.ensures.terminals c.known.ensures.ascending c.one_written_tree.ensures c.known.ensures.prefixed c.args.method
    c.expansion-expansion.result.now c.in_ok-start.start c.build_lr1_states-tables.result reply by c.expansion-expansion.ensures
    (c.in_ok-start.ensures ∙ c.start_name.ensures) c.build_lr1_states-tables.ensures.states c.build_lr1_states-tables.ensures.fault
    c.build_lr1_states-tables.ensures.lr1 c.build_lr1_states-tables.ensures.checked told)
    c.tell_tables.ensures
