use Rattle.std.proofs.Common.{◌∙◌, ◌∷◌, [], ap, arith, length, length-append, subst, sym}
use Rattle.lalrpop_lr1_first.specs.Numbers.{SpellsSymbols}
use Rattle.lalrpop_lr1_least_trees.specs.GrammarTrees.{symbols_by}
use Rattle.lalrpop_lr1_paths.proofs.WalkLemmas.{AreWalkedBack, few, walk_begins, walk_done, walk_goes_on}
use Rattle.lalrpop_lr1_paths.proofs.state_paths.state_paths.StatePaths.path_symbols.Goals as goal

pub loop-edge-init : goal.loop-edge-init
loop-edge-init c =
    let self = c.args.self.now in (
      c.requires,
      subst (AreWalkedBack self c.requires c.args.state c.args.state) (sym c.new-symbols.ensures.items)
          (walk_begins self c.requires c.args.state),
    )

pub loop-edge-smaller : goal.loop-edge-smaller
loop-edge-smaller c =
    let symbols = c.loop-edge.symbols.items in
    let walked = c.loop-edge.invariant in
    omega (
      arith,
      few c.args.self.now walked.0 c.args.state c.loop-edge.place symbols walked.1 c.in-Some.edge
          (sym c.last_edge.ensures ∙ c.in-Some.is),
      ap length c.in_ok-push.ensures.items,
      length-append symbols (c.in-Some.edge.symbol ∷ []),
    )

pub loop-edge-preserved : goal.loop-edge-preserved
loop-edge-preserved c =
    let self = c.args.self.now in
    let walked = c.loop-edge.invariant in (
      walked.0,
      subst (AreWalkedBack self walked.0 c.args.state c.in-Some.edge.source) (sym c.in_ok-push.ensures.items)
          (walk_goes_on self walked.0 c.args.state c.loop-edge.place c.loop-edge.symbols.items walked.1 c.in-Some.edge
          (sym c.last_edge.ensures ∙ c.in-Some.is)),
    )

pub returns-clause-path : goal.returns-clause-path
returns-clause-path c = λ syms w.
    let self = c.args.self.now in
    let walked = c.loop-edge.invariant in
    subst (λ ss. SpellsSymbols (symbols_by self.trees.now.table) ss syms) (sym c.reverse.ensures.items)
    (walk_done self walked.0 c.args.state c.loop-edge.place c.loop-edge.symbols.items walked.1 (sym c.last_edge.ensures ∙ c.in_default.is)
    syms w)
