use Rattle.std.proofs.Common.{arith, take, ◌∙◌, sym, ap, ◌++◌, ◌∷◌, []}
use Rattle.std.proofs.lemmas.List.{take_more}
use Rattle.lalrpop_lr1_interpret.proofs.RowLemmas.{go_on_both, productions_on}
use Rattle.lalrpop_lr1_interpret.proofs.parse.numbering.number_productions.Goals as goal

pub loop-production-preserved : goal.loop-production-preserved
loop-production-preserved c =
    let i = c.loop-production.production-index in
    let ps = c.args.productions.now in
    record {
      productions =
          productions_on c.loop-production.names.keys c.number_production.new.names.keys (take i ps) _ c.loop-production.numbered.items
          c.push.new.self.items c.production-item.result c.in_ok-number_production.field-0 c.in_ok-number_production.ensures.others
          c.loop-production.invariant.productions c.in_ok-number_production.ensures.production
          c.in_ok-number_production.ensures.numbered
          (take_more ps i c.production-item.result (omega arith) ∙ ap (λ y. take i ps ++ y ∷ []) (sym c.production-item.is))
          c.in_ok-push.ensures.items;
      others = go_on_both c.args.names.now.keys c.loop-production.names.keys c.number_production.new.names.keys
          c.loop-production.invariant.others c.in_ok-number_production.ensures.others;
    }
