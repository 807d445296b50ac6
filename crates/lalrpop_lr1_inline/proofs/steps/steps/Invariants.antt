use Rattle.std.proofs.Common.{◌≡◌, ◌<◌, ◌≤◌, ◌^◌, List, drop, length, map}
use Rattle.std.specs.Prelude.{All}
use Rattle.std.specs.Map.{keys_of}
use Rattle.lalrpop_grammar_repr.specs.declared.action.ActionFnDefn.{ActionFnDefn}
use Rattle.lalrpop_lr1_inline.specs.InlinedNames.{NonterminalEntries}
use Rattle.lalrpop_lr1_inline.specs.InliningSteps.{AreInlineSteps, numbers_after}
use Rattle.lalrpop_lr1_inline.proofs.steps.steps.Given as goal

abbrev pub invariant-loop-name : goal.invariant-loop-name
invariant-loop-name l = record {
  known : All (λ e. All (λ p. p.action.0 < length l.actions) e.1.productions) l.rules.items;
  room : numbers_after (map (λ n. n.0) (drop l.name-index l.order)) l.rules.items (length l.actions) ≤ 2 ^ 32;
  steps : (after : NonterminalEntries) (actions : List ActionFnDefn)
      → AreInlineSteps (map (λ n. n.0) (drop l.name-index l.order)) l.rules.items l.actions after actions
      → AreInlineSteps (map (λ n. n.0) l.order) l.fn.given.items l.fn.actions after actions;
  names : keys_of l.rules.items ≡ keys_of l.fn.given.items;
}
