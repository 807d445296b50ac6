use Rattle.std.proofs.Common.{◌<◌, drop, length, map}
use Rattle.std.specs.Prelude.{IfSome}
use Rattle.lalrpop_grammar_symbols.specs.Views.{terminal_view}
use Rattle.lalrpop_grammar_repr.specs.declared.grammar.Grammar.{Grammar}
use Rattle.lalrpop_lr1_core.specs.Views.{production_symbol_view}
use Rattle.lalrpop_lr1_first.specs.FirstSetsOf.{IsProductionOf}
use Rattle.lalrpop_lr1_first.specs.NumberedGrammars.{IsNumberTableOf}
use Rattle.lalrpop_lr1_least_trees.specs.declared.rest_trees.begin_place.BeginPlace.{BeginPlace}
use Rattle.lalrpop_lr1_least_trees.specs.BeginPlaces.{HasBeginPlace}
use Rattle.lalrpop_lr1_least_trees.specs.RestForests.{AnyLeaves, CountsRest}
use Rattle.lalrpop_lr1_least_trees.proofs.rest_trees.begin_rest.begin_place.Given as goal

abbrev pub invariant-loop-place : goal.invariant-loop-place
invariant-loop-place l = record {
  inside : IfSome l.found (λ (p : BeginPlace). p.place < length l.symbols);
  behind : (g : Grammar) → IsNumberTableOf g l.begins.trees.now.table →
      CountsRest (IsProductionOf g) (map production_symbol_view (drop l.place l.symbols)) AnyLeaves l.behind;
  found : (g : Grammar) → IsNumberTableOf g l.begins.trees.now.table →
      HasBeginPlace (IsProductionOf g) (map production_symbol_view (drop l.place l.symbols)) (terminal_view l.terminal) l.place l.found;
}
