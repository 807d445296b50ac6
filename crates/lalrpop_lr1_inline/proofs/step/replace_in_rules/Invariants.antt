use Rattle.std.proofs.Common.{◌≡◌, ◌+◌, ◌<◌, ◌≤◌, ◌^◌, ◌++◌, List, length, vec_len}
use Rattle.std.specs.Prelude.{All}
use Rattle.std.specs.Vec.Iter.{into_iter_items}
use Rattle.lalrpop_grammar_repr.specs.declared.action.ActionFnDefn.{ActionFnDefn}
use Rattle.lalrpop_lr1_inline.specs.InliningSteps.{AddsDefinitions, all_records_after, entries_after}
use Rattle.lalrpop_lr1_inline.proofs.step.replace_in_rules.Given as goal

abbrev pub invariant-loop-entry : goal.invariant-loop-entry
invariant-loop-entry l = record {
  known : All (λ e. All (λ p. p.action.0 < length l.actions) e.1.productions) (into_iter_items l.entry-iterator);
  room : length l.actions + vec_len l.definitions
      + length (all_records_after l.name.0 l.sources (into_iter_items l.entry-iterator)) ≤ 2 ^ 32;
  rules : l.made.items ++ entries_after l.name.0 l.sources (into_iter_items l.entry-iterator)
      (length l.actions + vec_len l.definitions)
      ≡ entries_after l.name.0 l.sources l.fn.rules.items (length l.actions + vec_len l.initial.definitions);
  definitions : (after : List ActionFnDefn)
      → AddsDefinitions l.actions (all_records_after l.name.0 l.sources (into_iter_items l.entry-iterator)) l.definitions.items after
      → AddsDefinitions l.actions (all_records_after l.name.0 l.sources l.fn.rules.items) l.initial.definitions.items after;
}
