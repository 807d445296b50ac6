use Rattle.std.proofs.Common.{◌∙◌, ap, drop, length, subst, sym}
use Rattle.lalrpop_lr1_first.specs.FirstNumbers.{AreSymbolsBelow, symbol_count}
use Rattle.lalrpop_lr1_first.proofs.PlaceLemmas.{below_from}
use Rattle.lalrpop_lr1_first.proofs.TableLemmas.{symbols_below}
use Rattle.lalrpop_lr1_first.proofs.first_of.place_firsts.Goals as goal

pub first_of_rest-requires : goal.first_of_rest-requires
first_of_rest-requires c =
    let t = c.args.table.now in
    subst (AreSymbolsBelow (length c.args.sets.now)) (sym (c.places_from-rest.ensures
    ∙ ap (drop c.loop-place.place) c.as_slice.ensures.value))
    (subst (λ n. AreSymbolsBelow n (drop c.loop-place.place t.places.items)) (sym c.requires.sets.count)
    (below_from (symbol_count t) t.places.items c.loop-place.place (symbols_below t c.requires.table)))
