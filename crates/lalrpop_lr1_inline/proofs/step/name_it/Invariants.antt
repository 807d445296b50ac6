use Rattle.std.proofs.Common.{◌≡◌, drop}
use Rattle.std.specs.List.{list_any}
use Rattle.lalrpop_lr1_inline.specs.InliningSteps.{is_place}
use Rattle.lalrpop_lr1_inline.proofs.step.name_it.Given as goal

abbrev pub invariant-loop-production : goal.invariant-loop-production
invariant-loop-production l = list_any (λ p. list_any (is_place l.name.0) p.symbols) l.productions
    ≡ list_any (λ p. list_any (is_place l.name.0) p.symbols) (drop l.production-index l.productions)
