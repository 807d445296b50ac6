use Rattle.std.proofs.Common.{◌≡◌, ◌+◌, ◌<◌, ◌≤◌, ◌^◌, ◌++◌, List, length, vec_len}
use Rattle.std.specs.Prelude.{All}
use Rattle.std.specs.Vec.Iter.{into_iter_items}
use Rattle.lalrpop_grammar_repr.specs.declared.action.ActionFnDefn.{ActionFnDefn}
use Rattle.lalrpop_lr1_inline.specs.InliningSteps.{AddsDefinitions, productions_after, records_after}
use Rattle.lalrpop_lr1_inline.proofs.made.replace_all.Given as goal

abbrev pub invariant-loop-production : goal.invariant-loop-production
invariant-loop-production l = record {
  known : All (λ p. p.action.0 < length l.actions) (into_iter_items l.production-iterator);
  room : length l.actions + vec_len l.definitions
      + length (records_after l.name.0 l.sources (into_iter_items l.production-iterator)) ≤ 2 ^ 32;
  count : vec_len l.definitions + length (records_after l.name.0 l.sources (into_iter_items l.production-iterator))
      ≡ vec_len l.initial.definitions + length (records_after l.name.0 l.sources l.fn.old);
  productions : l.made ++ productions_after l.name.0 l.sources (into_iter_items l.production-iterator)
      (length l.actions + vec_len l.definitions)
      ≡ productions_after l.name.0 l.sources l.fn.old (length l.actions + vec_len l.initial.definitions);
  definitions : (after : List ActionFnDefn)
      → AddsDefinitions l.actions (records_after l.name.0 l.sources (into_iter_items l.production-iterator)) l.definitions.items after
      → AddsDefinitions l.actions (records_after l.name.0 l.sources l.fn.old) l.initial.definitions.items after;
}
