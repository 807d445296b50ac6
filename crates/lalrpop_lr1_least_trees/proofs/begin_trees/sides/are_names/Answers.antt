use Rattle.std.proofs.Common.{◌<◌, arith, get_or, refl, subst}
use Rattle.lalrpop_lr1_least_trees.proofs.CountLemmas.{read_there}
use Rattle.lalrpop_lr1_least_trees.proofs.QueueLemmas.{contains_read}
use Rattle.lalrpop_lr1_least_trees.proofs.begin_trees.sides.are_names.Goals as goal

pub returns-then-symbol-names : goal.returns-then-symbol-names
returns-then-symbol-names c =
    let xs = c.args.symbols.now in
    let i = c.loop-symbol.symbol-index in (
      λ e. let w : ⊥ = cc in absurd w,
      λ h. absurd (omega (arith, h (get_or xs i 0) (read_there xs i c.loop-symbol-test.true), c.if-symbol-names.true)),
    )

pub returns : goal.returns
returns c =
    let xs = c.args.symbols.now in (
      λ e s d.
          subst (λ x. x < c.args.names) (contains_read xs s d) (c.loop-symbol.invariant d.0
          (omega (arith, d.1, c.loop-symbol-test.false))),
      λ h. refl,
    )
