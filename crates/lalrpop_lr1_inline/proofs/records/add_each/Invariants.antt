use Rattle.std.proofs.Common.{◌≡◌, ◌++◌, ◌∷◌, [], drop, map}
use Rattle.lalrpop_grammar_repr.specs.declared.action.InlinedSymbol.TheVariants as inlined
use Rattle.lalrpop_lr1_inline.proofs.records.add_each.Given as goal

abbrev pub invariant-loop-production : goal.invariant-loop-production
invariant-loop-production l =
    l.longer.items
    ++ map (λ e. l.front ++ e ∷ []) (map (λ p. inlined.Inlined p.action p.symbols) (drop l.production-index l.productions))
    ≡ l.fn.longer.items ++ map (λ e. l.front ++ e ∷ []) (map (λ p. inlined.Inlined p.action p.symbols) l.productions)
