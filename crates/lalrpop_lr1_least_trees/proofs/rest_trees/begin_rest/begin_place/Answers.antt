use Rattle.std.proofs.Common.{◌≡◌, ◌-◌, ◌<◌, ap, arith, drop, drop_of_length-le, length, map, subst, suc, sym, true}
use Rattle.lalrpop_grammar_symbols.specs.Views.{terminal_view}
use Rattle.lalrpop_lr1_core.specs.Views.{production_symbol_view}
use Rattle.lalrpop_lr1_first.specs.FirstSetsOf.{IsProductionOf}
use Rattle.lalrpop_lr1_first.specs.NumberedGrammars.{IsNumberTableOf}
use Rattle.lalrpop_lr1_least_trees.specs.declared.least_trees.LeastTrees.{LeastTrees}
use Rattle.lalrpop_lr1_least_trees.specs.BeginPlaces.{HasBeginPlace, IsEitherPlace, place_behind, place_here}
use Rattle.lalrpop_lr1_least_trees.specs.RestForests.{AnyLeaves, BeginsWith, CountsRest, HasNoRest, IsRestCount}
use Rattle.lalrpop_lr1_least_trees.proofs.RestLemmas.{nothing_begins, nothing_count}
use Rattle.lalrpop_lr1_least_trees.proofs.PlaceLemmas.{counts_before, inside_more, place_before}
use Rattle.lalrpop_lr1_least_trees.proofs.rest_trees.begin_rest.begin_place.Goals as goal

pub loop-place-init : goal.loop-place-init
loop-place-init c =
    let xs = c.args.symbols.now in
    let nothing = ap (map production_symbol_view) (drop_of_length-le xs {i = length xs} (omega arith)) in
    record {
      inside = tt;
      behind = λ g of. subst (λ l. IsRestCount (IsProductionOf g) l AnyLeaves 0) (sym nothing) (nothing_count (IsProductionOf g) true);
      found = λ g of. subst (λ l. HasNoRest (IsProductionOf g) l (BeginsWith (terminal_view c.args.terminal.now))) (sym nothing)
          (nothing_begins (IsProductionOf g) (terminal_view c.args.terminal.now));
    }

pub loop-place-preserved : goal.loop-place-preserved
loop-place-preserved c =
    let xs = c.args.symbols.now in
    let i = c.loop-place.place in
    let x = c.index-symbols-place.result in
    let within : i - 1 < length xs = omega (arith, c.loop-place.auto.place) in
    let next : i ≡ suc (i - 1) = omega arith in
    record {
      inside = inside_more (length xs) (i - 1) c.counts_beside-here.result c.symbol_count.result c.loop-place.found
          c.place_before-found.result within c.loop-place.invariant.inside c.place_before-found.ensures;
      behind = λ g of.
          let own = subst (λ (t : LeastTrees). IsNumberTableOf g t.table) (sym c.trees-trees.ensures) of in
          subst (λ o. CountsRest (IsProductionOf g) (map production_symbol_view (drop (i - 1) xs)) AnyLeaves o)
          (sym c.counts_beside-behind.ensures)
          (counts_before production_symbol_view xs (i - 1) x within c.index-symbols-place.is (IsProductionOf g) i next true
          c.symbol_count-in-loop-place.result c.loop-place.behind (c.symbol_count-in-loop-place.ensures g own)
          (c.loop-place.invariant.behind g of));
      found = λ g of.
          let own = subst (λ (t : LeastTrees). IsNumberTableOf g t.table) (sym c.trees-trees.ensures) of in
          place_before production_symbol_view xs (i - 1) x within c.index-symbols-place.is (IsProductionOf g) i next
          (terminal_view c.args.terminal.now) c.begin_symbol_count.result c.symbol_count.result c.loop-place.behind c.loop-place.found
          c.place_before-found.result (c.begin_symbol_count.ensures g of) (c.symbol_count.ensures g own)
          (c.loop-place.invariant.behind g of) (c.loop-place.invariant.found g of)
          (subst (λ o. IsEitherPlace (place_here (i - 1) o) (place_behind c.symbol_count.result c.loop-place.found)
          c.place_before-found.result) c.counts_beside-here.ensures c.place_before-found.ensures);
    }

pub returns-clause-place : goal.returns-clause-place
returns-clause-place c = λ g of.
    let none_left : c.loop-place.place ≡ 0 = omega (arith, c.loop-place-test.false) in
    subst
    (λ k. HasBeginPlace (IsProductionOf g) (map production_symbol_view (drop k c.args.symbols.now))
    (terminal_view c.args.terminal.now) k c.loop-place.found) none_left (c.loop-place.invariant.found g of)
