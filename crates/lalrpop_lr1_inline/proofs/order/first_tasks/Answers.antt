use Rattle.std.proofs.Common.{◌∙◌, ◌++◌, ap, map, sym}
use Rattle.lalrpop_lr1_inline.specs.InlinedNames.{inlined_names}
use Rattle.lalrpop_lr1_inline.specs.OrderSearches.{task_view, tasks_to_enter}
use Rattle.lalrpop_grammar_language.proofs.StepOnceLemmas.{append-none}
use Rattle.lalrpop_lr1_inline.proofs.NamedLemmas.{all_listed}
use Rattle.lalrpop_lr1_inline.proofs.SearchLemmas.{turned_back}
use Rattle.lalrpop_lr1_inline.proofs.order.first_tasks.Goals as goal

pub returns-clause-tasks : goal.returns-clause-tasks
returns-clause-tasks c =
    let g = c.args.grammar.now.nonterminals in
    turned_back c.loop-name.tasks.items c.in_ok-turned.turned.items (tasks_to_enter (inlined_names g)) c.in_ok-turned.ensures
    (sym (append-none (map task_view c.loop-name.tasks.items))
    ∙ ap (λ l. map task_view c.loop-name.tasks.items ++ tasks_to_enter (inlined_names l)) (sym c.in-None.ensures.steps.0)
    ∙ c.loop-name.invariant)

pub returns-clause-all : goal.returns-clause-all
returns-clause-all c = all_listed c.args.grammar.now.nonterminals c.iter-name-items.ensures.ordered
