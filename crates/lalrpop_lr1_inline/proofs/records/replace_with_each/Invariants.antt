use Rattle.std.proofs.Common.{◌≡◌, ◌++◌, drop, map}
use Rattle.lalrpop_grammar_repr.specs.declared.action.InlinedSymbol.TheVariants as inlined
use Rattle.lalrpop_lr1_inline.specs.InliningSteps.{longer_records}
use Rattle.lalrpop_lr1_inline.proofs.records.replace_with_each.Given as goal

abbrev pub invariant-loop-front : goal.invariant-loop-front
invariant-loop-front l =
    l.longer.items
    ++ longer_records (drop l.front-index l.fronts) (map (λ p. inlined.Inlined p.action p.symbols) l.productions)
    ≡ longer_records l.fronts (map (λ p. inlined.Inlined p.action p.symbols) l.productions)
