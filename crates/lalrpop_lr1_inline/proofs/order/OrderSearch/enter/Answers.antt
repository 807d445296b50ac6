use Rattle.std.proofs.Common.{◌++◌, ◌∙◌, ap, sym, map}
use Rattle.lalrpop_lr1_inline.specs.InlinedNames.{inlined_in_productions, inlined_named_by}
use Rattle.lalrpop_lr1_inline.specs.OrderSearches.{task_view, tasks_to_enter, tasks_view}
use Rattle.lalrpop_lr1_inline.proofs.NamedLemmas.{inlined_listed}
use Rattle.lalrpop_lr1_inline.proofs.SearchLemmas.{fewer_enter, search_cycle, search_enter, search_past, turned_tasks}
use Rattle.lalrpop_lr1_inline.proofs.order.OrderSearch.enter.Goals as goal

pub returns-then-has_name-clause-search : goal.returns-then-has_name-clause-search
returns-then-has_name-clause-search c =
    let s = c.args.self.now in
    search_past c.args.grammar.now.nonterminals c.args.name.now.0 (tasks_view s.tasks.items) _ s.entered s.left c.requires
    (sym c.has_name.ensures ∙ c.if-has_name.true)

pub cycle_of-requires : goal.cycle_of-requires
cycle_of-requires c =
    let s = c.args.self.now in
    search_cycle c.args.grammar.now.nonterminals c.args.name.now.0 (tasks_view s.tasks.items) _ s.entered s.left c.requires
    (sym c.has_name.ensures ∙ c.if-has_name.false) (sym c.has_name-2.ensures ∙ c.if-has_name-2.true)

pub returns-clause-search : goal.returns-clause-search
returns-clause-search c =
    let s = c.args.self.now in
    let g = c.args.grammar.now.nonterminals in
    search_enter g c.args.name.now.0 (tasks_view s.tasks.items) _ _ s.entered s.left c.add_name.new.names c.requires
    (sym c.has_name.ensures ∙ c.if-has_name.false) c.in_ok-add_name.ensures
    (turned_tasks (inlined_named_by g c.args.name.now.0) s.tasks.items c.push.new.self.items c.enter_productions.new.tasks.items
    c.args.name c.in_ok-push.ensures.items
    (c.in_ok-enter_productions.ensures
    ∙ ap (λ ps. map task_view c.push.new.self.items ++ tasks_to_enter (inlined_in_productions g ps)) c.productions_for.ensures))

pub returns-clause-fewer : goal.returns-clause-fewer
returns-clause-fewer c =
    let s = c.args.self.now in
    let g = c.args.grammar.now.nonterminals in
    fewer_enter g c.args.name.now.0 (tasks_view s.tasks.items) _ s.entered c.add_name.new.names
    (inlined_listed g c.args.name.now.0 c.requires.linked.0) (sym c.has_name-2.ensures ∙ c.if-has_name-2.false)
    c.in_ok-add_name.ensures
    (turned_tasks (inlined_named_by g c.args.name.now.0) s.tasks.items c.push.new.self.items c.enter_productions.new.tasks.items
    c.args.name c.in_ok-push.ensures.items
    (c.in_ok-enter_productions.ensures
    ∙ ap (λ ps. map task_view c.push.new.self.items ++ tasks_to_enter (inlined_in_productions g ps)) c.productions_for.ensures))
