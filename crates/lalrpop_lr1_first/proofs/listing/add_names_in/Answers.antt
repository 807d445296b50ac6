use Rattle.std.proofs.Common.{◌∙◌, ap, subst, sym, take}
use Rattle.std.specs.Prelude.{flat_map}
use Rattle.std.proofs.lemmas.List.{take_all}
use Rattle.lalrpop_lr1_first.specs.Listings.{AddsTo, lent_in, symbol_names}
use Rattle.lalrpop_lr1_first.proofs.AddLemmas.{adds_more, adds_none, flat_more, taken_more}
use Rattle.lalrpop_lr1_first.proofs.listing.add_names_in.Goals as goal

pub loop-symbol-init : goal.loop-symbol-init
loop-symbol-init c = adds_none (lent_in c.args.set.now)

pub loop-symbol-preserved : goal.loop-symbol-preserved
loop-symbol-preserved c =
    let i = c.loop-symbol.symbol-index in
    let xs = c.args.symbols.now in
    subst (AddsTo (lent_in c.args.set.now) (lent_in c.add_name_in.new.set))
    (sym (ap (flat_map symbol_names) (taken_more xs i c.symbol-item.result c.loop-symbol-test.true c.symbol-item.is)
    ∙ flat_more symbol_names (take i xs) c.symbol-item.result))
    (adds_more (lent_in c.args.set.now) (lent_in c.loop-symbol.set) (lent_in c.add_name_in.new.set)
    (flat_map symbol_names (take i xs)) (symbol_names c.symbol-item.result) c.loop-symbol.invariant
    c.in_ok-add_name_in.ensures)

pub returns : goal.returns
returns c =
    subst (λ xs. AddsTo (lent_in c.args.set.now) (lent_in c.loop-symbol.set) (flat_map symbol_names xs))
    (take_all c.loop-symbol.symbol-index c.args.symbols.now c.loop-symbol-test.false) c.loop-symbol.invariant
