use Rattle.std.proofs.Common.{◌∙◌, Ok, ap, length, refl, subst}
use Rattle.lalrpop_run_parser.proofs.GenerateLemmas.{conflicts_stand, is_table, one_tree_each, refusal_told, states_checked}
use Rattle.lalrpop_run_parser.proofs.GenerateLemmas.{lalr1_refused, states_counted}
use Rattle.lalrpop_grammar_repr.specs.declared.grammar.Grammar.{Grammar}
use Rattle.lalrpop_lane.specs.BuilderAnswers.{AreForEachCoreBy, AreLr1By}
use Rattle.lalrpop_run_parser.proofs.GenerateLemmas.{states_lr1, table_built}
use Rattle.lalrpop_run_parser.proofs.generating.generate.Goals as goal

pub invariant_of-result : goal.invariant_of-result
invariant_of-result c =
    let v = c.args.prepared.now in
    let checked =
    states_checked v c.expansion.result.now c.in_ok-start.start c.expansion.ensures
    (c.in_ok-start.ensures ∙ c.start_name.ensures) c.in-Ok.states.items c.in-Ok.ensures.checked c.known.ensures.parsed in
    record {
      table_runs = is_table v c.in-Ok.states checked c.in_ok-table-in-Ok.table v.expansion c.as_slice-built.result.now
          (length c.as_slice-built.result.now) refl c.as_slice-built.ensures.value c.in_ok-table-in-Ok.ensures.table
          (ap length c.as_slice-built.ensures.value);
      columns_are = c.in_ok-table-in-Ok.ensures.columns;
    }

pub returns-in_ok-table-in-Ok-clause-states : goal.returns-in_ok-table-in-Ok-clause-states
returns-in_ok-table-in-Ok-clause-states c =
    let v = c.args.prepared.now in
    let named = c.in_ok-start.ensures ∙ c.start_name.ensures in
    let checked =
    states_checked v c.expansion.result.now c.in_ok-start.start c.expansion.ensures named c.in-Ok.states.items c.in-Ok.ensures.checked
    c.known.ensures.parsed in
    states_counted v c.expansion.result.now c.in_ok-start.start c.expansion.ensures named c.args.method c.in-Ok.states
    (length c.as_slice-built.result.now) checked c.in-Ok.ensures.states c.in-Ok.ensures.for_each_core c.known.ensures.parsed
    (ap length c.as_slice-built.ensures.value)

pub returns-in_ok-table-in-Ok-clause-table : goal.returns-in_ok-table-in-Ok-clause-table
returns-in_ok-table-in-Ok-clause-table c =
    let v = c.args.prepared.now in
    let named = c.in_ok-start.ensures ∙ c.start_name.ensures in
    let checked =
    states_checked v c.expansion.result.now c.in_ok-start.start c.expansion.ensures named c.in-Ok.states.items c.in-Ok.ensures.checked
    c.known.ensures.parsed in
    table_built v c.in-Ok.states checked c.args.method c.in_ok-start.start c.in_ok-table-in-Ok.table v.expansion
    c.as_slice-built.result.now (length c.as_slice-built.result.now) refl named c.as_slice-built.ensures.value
    (subst (λ (h : Grammar). AreLr1By c.args.method h c.in_ok-start.start c.in-Ok.states.items) c.expansion.ensures
    c.in-Ok.ensures.states)
    (subst (λ (h : Grammar). AreForEachCoreBy c.args.method h c.in_ok-start.start (Ok c.in-Ok.states)) c.expansion.ensures
    c.in-Ok.ensures.for_each_core) c.known.ensures.parsed
    c.in_ok-table-in-Ok.ensures.table (ap length c.as_slice-built.ensures.value)

pub returns-in_ok-table-in-Ok-clause-lr1 : goal.returns-in_ok-table-in-Ok-clause-lr1
returns-in_ok-table-in-Ok-clause-lr1 c =
    states_lr1 c.args.prepared.now c.expansion.result.now c.in_ok-start.start c.expansion.ensures
    (c.in_ok-start.ensures ∙ c.start_name.ensures) c.in-Ok.ensures.lr1 c.known.ensures.parsed

pub returns-in_ok-table-in-Ok-clause-one_tree : goal.returns-in_ok-table-in-Ok-clause-one_tree
returns-in_ok-table-in-Ok-clause-one_tree c =
    let v = c.args.prepared.now in
    let checked =
    states_checked v c.expansion.result.now c.in_ok-start.start c.expansion.ensures
    (c.in_ok-start.ensures ∙ c.start_name.ensures) c.in-Ok.states.items c.in-Ok.ensures.checked c.known.ensures.parsed in
    λ read.
    one_tree_each v c.in-Ok.states checked c.one_written_tree.ensures (c.known.ensures.prepared read) read
    c.known.ensures.prefixed

pub conflicts_refusal-requires : goal.conflicts_refusal-requires
conflicts_refusal-requires c =
    conflicts_stand c.args.prepared.now c.expansion.result.now c.in_ok-start.start c.expansion.ensures
    (c.in_ok-start.ensures ∙ c.start_name.ensures) c.in-Err-Conflicts.field-0 c.in-Err-Conflicts.error
    c.in-Err-Conflicts.field-0-is c.in-Err-Conflicts.ensures.fault

pub returns-in-Err-Conflicts-clause-refused : goal.returns-in-Err-Conflicts-clause-refused
returns-in-Err-Conflicts-clause-refused c =
    refusal_told c.args.prepared.now c.expansion.result.now c.in_ok-start.start c.expansion.ensures
    (c.in_ok-start.ensures ∙ c.start_name.ensures) c.in-Err-Conflicts.field-0 c.in-Err-Conflicts.error
    c.conflicts_refusal.result c.in-Err-Conflicts.field-0-is c.conflicts_refusal.ensures c.in-Err-Conflicts.ensures.fault
    c.in-Err-Conflicts.ensures.lr1 c.known.ensures.parsed

pub returns-in-Err-Conflicts-clause-lalr1 : goal.returns-in-Err-Conflicts-clause-lalr1
returns-in-Err-Conflicts-clause-lalr1 c =
    lalr1_refused c.args.prepared.now c.conflicts_refusal.result
    (refusal_told c.args.prepared.now c.expansion.result.now c.in_ok-start.start c.expansion.ensures
    (c.in_ok-start.ensures ∙ c.start_name.ensures) c.in-Err-Conflicts.field-0 c.in-Err-Conflicts.error
    c.conflicts_refusal.result c.in-Err-Conflicts.field-0-is c.conflicts_refusal.ensures c.in-Err-Conflicts.ensures.fault
    c.in-Err-Conflicts.ensures.lr1 c.known.ensures.parsed)
