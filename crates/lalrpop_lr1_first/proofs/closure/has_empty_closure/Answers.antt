use Rattle.std.proofs.Common.{◌≡◌, ◌∙◌, None, ap, subst, sym}
use Rattle.std.specs.List.{All}
use Rattle.std.proofs.lemmas.List.{take_all}
use Rattle.std.proofs.lemmas.List.Elements.{All-more}
use Rattle.lalrpop_lr1_first.specs.ClosureTables.{name_behind}
use Rattle.lalrpop_lr1_first.proofs.NothingLemmas.{is_none}
use Rattle.lalrpop_lr1_first.proofs.closure.has_empty_closure.Goals as goal

pub loop-item-preserved : goal.loop-item-preserved
loop-item-preserved g c =
    let t = c.args.table.now in
    let item = c.item-item.result in
    let none = sym c.name_at.ensures ∙ is_none c.name_at.result (sym c.is_some.ensures ∙ c.if-is_some.false) in
    All-more (λ (x : _). name_behind t x.0 ≡ None) c.args.seed.now c.loop-item.item-index item c.loop-item-test.true
    c.loop-item.invariant (ap (λ (x : _). name_behind t x.0) (sym c.item-item.is) ∙ none)

pub returns : goal.returns
returns g c = λ _.
    subst (All (λ (x : _). name_behind c.args.table.now x.0 ≡ None))
    (take_all c.loop-item.item-index c.args.seed.now c.loop-item-test.false) c.loop-item.invariant
