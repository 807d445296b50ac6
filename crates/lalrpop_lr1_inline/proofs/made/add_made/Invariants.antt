use Rattle.std.proofs.Common.{◌≡◌, ◌+◌, ◌≤◌, ◌^◌, ◌++◌, List, length, map, vec_len}
use Rattle.std.specs.Vec.Iter.{into_iter_items}
use Rattle.lalrpop_grammar_repr.specs.declared.action.ActionFnDefn.{ActionFnDefn}
use Rattle.lalrpop_lr1_inline.specs.InliningSteps.{AddsDefinitions, AreInlineDefinitions, productions_of_records}
use Rattle.lalrpop_lr1_inline.proofs.made.add_made.Given as goal

abbrev pub invariant-loop-made : goal.invariant-loop-made
invariant-loop-made l = record {
  room : length l.actions + vec_len l.definitions + length (into_iter_items l.made-iterator) ≤ 2 ^ 32;
  count : vec_len l.definitions + length (into_iter_items l.made-iterator)
      ≡ vec_len l.initial.definitions + vec_len l.fn.records;
  productions : l.productions
      ++ productions_of_records l.production (into_iter_items l.made-iterator) (length l.actions + vec_len l.definitions)
      ≡ l.initial.productions ++ productions_of_records l.production l.fn.records.items (length l.actions + vec_len
      l.initial.definitions);
  definitions : (ds : List ActionFnDefn)
      → AreInlineDefinitions l.actions (map (λ r. (l.production, r)) (into_iter_items l.made-iterator)) ds
      → AddsDefinitions l.actions (map (λ r. (l.production, r)) l.fn.records.items) l.initial.definitions.items
      (l.definitions.items ++ ds);
}
