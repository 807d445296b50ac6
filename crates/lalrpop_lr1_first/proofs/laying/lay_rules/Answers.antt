use Rattle.std.proofs.Common.{◌∙◌, ap, subst, sym, take}
use Rattle.lalrpop_lr1_core.proofs.MemberLemmas.{map_has}
use Rattle.lalrpop_lr1_first.specs.Listings.{lent}
use Rattle.lalrpop_lr1_first.specs.Tables.{AreLaid}
use Rattle.lalrpop_lr1_first.proofs.AddLemmas.{lent_more, taken_more}
use Rattle.lalrpop_lr1_first.proofs.LayingLemmas.{laid_more}
use Rattle.lalrpop_lr1_first.proofs.laying.lay_rules.Goals as goal

pub lay_rule-requires-clause-known : goal.lay_rule-requires-clause-known
lay_rule-requires-clause-known c =
    let x = c.production-item.result in
    c.requires.known x.now (map_has (λ b. b.now) c.args.productions.now x
    (c.loop-production.production-index, c.loop-production-test.true, sym c.production-item.is))

pub loop-production-preserved : goal.loop-production-preserved
loop-production-preserved c =
    let names = lent c.args.names.now.listed.items in
    let ts = c.args.terminals.now in
    let i = c.loop-production.production-index in
    let xs = c.args.productions.now in
    let x = c.production-item.result in
    subst (λ ps. AreLaid names ts ps c.lay_rule.new.rules.items c.lay_rule.new.places.items)
    (sym (ap lent (taken_more xs i x c.loop-production-test.true c.production-item.is) ∙ lent_more (take i xs) x))
    (laid_more names ts (lent (take i xs)) x.now c.loop-production.rules.items c.lay_rule.new.rules.items
    c.loop-production.places.items c.lay_rule.new.places.items c.loop-production.invariant c.in_ok-lay_rule.ensures)
