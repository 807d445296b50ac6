use Rattle.std.proofs.Common.{◌≡◌, ◌++◌, ◌∷◌, []}
use Rattle.std.specs.Vec.Iter.{into_iter_items}
use Rattle.lalrpop_grammar_repr.specs.declared.action.InlinedSymbol.TheVariants as inlined
use Rattle.lalrpop_lr1_inline.specs.InliningSteps.{longer_records}
use Rattle.lalrpop_lr1_inline.proofs.records.keep_symbol.Given as goal

abbrev pub invariant-loop-front : goal.invariant-loop-front
invariant-loop-front l =
    l.longer.items ++ longer_records (into_iter_items l.front-iterator) (inlined.Original l.symbol ∷ [])
    ≡ longer_records l.fn.fronts.items (inlined.Original l.symbol ∷ [])
