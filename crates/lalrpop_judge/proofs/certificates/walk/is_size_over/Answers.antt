use Rattle.std.proofs.Common.{◌+◌, arith}
use Rattle.std.proofs.lemmas.Bool.Decides.{Decides-eqb}
use Rattle.lalrpop_judge.proofs.RootLemmas.{sizes_all, sizes_first, sizes_more}
use Rattle.lalrpop_judge.proofs.certificates.walk.is_size_over.Goals as goal

pub returns-then-left-own : goal.returns-then-left-own
returns-then-left-own c =
    let rs = c.args.roots.now in
    let i = c.loop-root.root-index in (
      λ t. absurd (cc),
      λ e. absurd (omega (
        arith,
        e,
        c.if-left-own.true,
        c.size-own.ensures,
        c.loop-root.invariant,
        sizes_more rs i c.root-item.result c.loop-root-test.true c.root-item.is,
        sizes_first rs (i + 1),
      )),
    )

pub loop-root-preserved : goal.loop-root-preserved
loop-root-preserved c =
    omega (
      arith,
      c.if-left-own.false,
      c.size-own.ensures,
      c.loop-root.invariant,
      sizes_more c.args.roots.now c.loop-root.root-index c.root-item.result c.loop-root-test.true c.root-item.is,
    )

pub returns : goal.returns
returns c =
    let d = Decides-eqb c.loop-root.left 1 in
    let all = sizes_all c.args.roots.now c.loop-root.root-index c.loop-root-test.false in (
      λ t. omega (arith, d.0 t, all, c.loop-root.invariant),
      λ e. d.1 (omega (arith, e, all, c.loop-root.invariant)),
    )
