use Rattle.std.proofs.Common.{◌∙◌, ap}
use Rattle.lalrpop_lr1_first.specs.FirstSetsOf.{named_from}
use Rattle.lalrpop_lr1_first.specs.Listings.{lent}
use Rattle.lalrpop_lr1_first.proofs.TableFirstLemmas.{named_firsts}
use Rattle.lalrpop_lr1_first.proofs.first_sets.FirstSets.new.Goals as goal

pub returns : goal.returns
returns c =
    named_firsts c.args.grammar.now c.in_ok-table.table c.in_ok-table.ensures c.in_ok-sets.sets.items c.in_ok-sets.ensures
    c.in_ok-sets-2.sets (c.in_ok-sets-2.ensures
    ∙ ap (λ ns. named_from 0 (lent ns) c.as_slice-2.result.now) c.as_slice.ensures.value
    ∙ ap (named_from 0 (lent c.in_ok-table.table.names.items)) c.as_slice-2.ensures.value)
