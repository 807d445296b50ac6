use Rattle.std.proofs.Common.{◌≡◌, ◌∙◌, ◌++◌, ◌∷◌, [], List, ap, append_assoc, rules, sym}
use Rattle.lalrpop_lr1_core.specs.declared.state_index.StateIndex.{StateIndex}
use Rattle.lalrpop_lr1_build.proofs.RenumberedEdgeLemmas.{renumbered_more}
use Rattle.lalrpop_lr1_build.proofs.collapse.edges.renumber_edges.Goals as goal

pub loop-key-preserved : goal.loop-key-preserved
loop-key-preserved g c =
    let numbers = c.args.numbers.now in
    let done = c.loop-key.invariant.0 in
    let k = c.in-Some.key.now in
    let to = c.in-Some.target.now in
    let rest = c.next.new.self in
    let first : c.loop-key.key-iterator ≡ (k, to) ∷ rest = search rules in (
      done ++ (k, to) ∷ [],
      append_assoc done ((k, to) ∷ []) rest ∙ ap (λ (l : List (g.row.K.Denot × StateIndex)). done ++ l) (sym first)
          ∙ c.loop-key.invariant.1,
      renumbered_more g.met.K.Ord.total numbers c.args.edges.now done c.loop-key.key-iterator rest c.loop-key.renumbered
          c.insert.new.self k to c.iter-key-items.ensures.ordered c.loop-key.invariant.1 first c.loop-key.invariant.2 (search rules),
    )
