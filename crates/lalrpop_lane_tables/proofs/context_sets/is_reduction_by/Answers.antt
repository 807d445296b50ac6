use Rattle.std.proofs.Common.{◌∙◌, sym}
use Rattle.lalrpop_grammar_repr.proofs.EqualLemmas.{same_productions}
use Rattle.lalrpop_lane_tables.proofs.context_sets.is_reduction_by.Goals as goal

pub returns-in-Reduce : goal.returns-in-Reduce
returns-in-Reduce c =
    let s = same_productions c.in-Reduce.own.now c.args.production.now in
    rw c.in-Reduce.is (λ e. s.0 (sym c.eq.ensures ∙ e), λ e. c.eq.ensures ∙ s.1 e)
