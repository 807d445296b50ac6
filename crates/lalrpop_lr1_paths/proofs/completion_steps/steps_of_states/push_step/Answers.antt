use Rattle.std.proofs.Common.{◌∙◌, List, [], ap, refl, subst, sym, Some}
use Rattle.lalrpop_grammar_repr.specs.declared.production.Symbol.{Symbol}
use Rattle.lalrpop_lr1_theory.proofs.ListLemmas.{contains_here}
use Rattle.lalrpop_lr1_first.specs.FirstNumbers.{name_count}
use Rattle.lalrpop_lr1_first.specs.FirstSetsOf.{IsProductionOf}
use Rattle.lalrpop_lr1_first.specs.NumberedGrammars.{IsNumberTableOf}
use Rattle.lalrpop_lr1_least_trees.specs.GrammarTrees.{symbols_by}
use Rattle.lalrpop_lr1_least_trees.specs.declared.least_trees.LeastTrees.{LeastTrees}
use Rattle.lalrpop_lr1_paths.specs.CompletionSteps.{IsNodeIfSome}
use Rattle.lalrpop_lr1_paths.proofs.AddedStepLemmas.{adds_one, adds_past, adds_unnumbered, below_more, dot_parts}
use Rattle.lalrpop_lr1_paths.proofs.NameNumberLemmas.{node_below}
use Rattle.lalrpop_lr1_paths.proofs.completion_steps.steps_of_states.push_step.Goals as goal

pub returns-then-before-count-clause-steps : goal.returns-then-before-count-clause-steps
returns-then-before-count-clause-steps g c = λ it of.
    adds_past (IsProductionOf it) c.args.paths.now c.args.count c.args.state c.args.item.now c.args.steps.now.items c.back-before.result
    c.back-before.ensures c.if-before-count.true

pub returns-in_default-3-clause-steps : goal.returns-in_default-3-clause-steps
returns-in_default-3-clause-steps g c = λ it of.
    let table = c.args.paths.now.trees.now.table in
    let item = c.args.item.now in
    adds_unnumbered (IsProductionOf it) c.args.paths.now c.args.count c.args.state item c.args.steps.now.items
    (subst (IsNodeIfSome (symbols_by table) (name_count table) c.back-before.result item.production.now.nonterminal.0) c.in_default-3.is
    c.in_ok-to.ensures)

pub returns-clause-below : goal.returns-clause-below
returns-clause-below g c = λ below.
    let table = c.args.paths.now.trees.now.table in
    let from = subst (IsNodeIfSome (symbols_by table) (name_count table) c.args.state c.in-Some-Nonterminal-default.name.0)
    c.in-Some-2.is c.in_ok-from.ensures in
    let to = subst (IsNodeIfSome (symbols_by table) (name_count table) c.back-before.result c.args.item.now.production.now.nonterminal.0)
    c.in-Some-3.is c.in_ok-to.ensures in
    below_more _ c.args.steps.now.items c.push.new.self.items _ c.in_ok-push.ensures.items
    (node_below (symbols_by table) (name_count table) c.in-Some-2.from c.args.state c.args.count c.in-Some-Nonterminal-default.name.0 from
    c.requires.state)
    (node_below (symbols_by table) (name_count table) c.in-Some-3.to c.back-before.result c.args.count
    c.args.item.now.production.now.nonterminal.0 to c.if-before-count.false)
    below

pub returns-clause-steps : goal.returns-clause-steps
returns-clause-steps g c = λ it of.
    let table = c.args.paths.now.trees.now.table in
    let parted = c.in-Some-Nonterminal-default in
    let item = c.args.item.now in
    let parts : Symbol × List Symbol = (parted.field-0-0.now, parted.rest.now) in
    let dot = dot_parts item parts parted.ensures in
    adds_one (IsProductionOf it) c.args.paths.now c.args.count c.args.state item c.args.steps.now.items c.push.new.self.items _
    c.in_ok-push.ensures.items (record {
      item = item;
      has = contains_here item [];
      name = parted.name;
      at = dot.0 ∙ ap Some parted.field-0-0-is;
      production_is = refl;
      rest_is = sym dot.1;
      from = subst (IsNodeIfSome (symbols_by table) (name_count table) c.args.state parted.name.0) c.in-Some-2.is c.in_ok-from.ensures;
      before = c.back-before.result;
      before_is = c.back-before.ensures;
      below = c.if-before-count.false;
      to = subst (IsNodeIfSome (symbols_by table) (name_count table) c.back-before.result item.production.now.nonterminal.0) c.in-Some-3.is
          c.in_ok-to.ensures;
      rest = (c.in-Some.ensures it (subst (λ (t : LeastTrees). IsNumberTableOf it t.table) (sym c.trees.ensures) of)).rest;
    })
