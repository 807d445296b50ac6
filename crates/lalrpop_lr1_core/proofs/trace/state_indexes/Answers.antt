use Rattle.std.proofs.Common.{◌≡◌, ◌++◌, ◌∙◌, ap, map, subst, sym}
use Rattle.std.specs.List.Sorted.{IsStrictlyIncreasing}
use Rattle.std.proofs.lemmas.List.{append-nil}
use Rattle.std.proofs.lemmas.Map.Keys.{IsStrictlyIncreasing-from_sorted}
use Rattle.lalrpop_lr1_core.specs.declared.state_index.StateIndex.{StateIndex}
use Rattle.lalrpop_lr1_core.proofs.trace.state_indexes.Goals as goal

pub returns-clause-ascending : goal.returns-clause-ascending
returns-clause-ascending c =
    let numbers = map (λ (s : StateIndex). s.0) c.loop-number.states.items in
    let same : numbers ≡ c.args.numbers.now.keys =
    sym (append-nil numbers) ∙ sym (ap (λ l. numbers ++ l) c.in-None.ensures.steps.0) ∙ c.loop-number.invariant in
    subst IsStrictlyIncreasing (sym same)
    (IsStrictlyIncreasing-from_sorted c.args.numbers.now.keys c.iter-number-items.ensures.ordered)
