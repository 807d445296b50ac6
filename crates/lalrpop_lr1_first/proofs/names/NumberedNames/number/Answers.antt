use Rattle.std.proofs.Common.{◌≡◌, ◌∙◌, ap, sym, arith, Some, None, slice_get}
use Rattle.std.specs.Option.{option_copied}
use Rattle.lalrpop_grammar_repr.specs.Maps.{at_name}
use Rattle.lalrpop_lr1_first.specs.Listings.{lent}
use Rattle.lalrpop_lr1_first.specs.Tables.{pairs_from}
use Rattle.lalrpop_lr1_first.proofs.NameLemmas.{pairs_sound, pairs_total}
use Rattle.lalrpop_lr1_first.proofs.names.NumberedNames.number.Goals as goal

pub unreachable-requires : goal.unreachable-requires
unreachable-requires c =
    let names = lent c.args.self.now.listed.items in
    let there = pairs_total names 0 c.args.name.now c.requires.known in
    let none : at_name c.args.name.now (pairs_from 0 names) ≡ None =
    ap (at_name c.args.name.now) (sym c.requires.numbered) ∙ sym c.get.ensures ∙ ap option_copied c.in-None.is in
    let both : Some there.0 ≡ None = sym there.1 ∙ none in
    let w : ⊥ = cc in absurd w

pub returns : goal.returns
returns c =
    let names = lent c.args.self.now.listed.items in
    let is : at_name c.args.name.now (pairs_from 0 names) ≡ Some c.in-Some.number.now =
    ap (at_name c.args.name.now) (sym c.requires.numbered) ∙ sym c.get.ensures ∙ ap option_copied c.in-Some.is in
    let at = pairs_sound names 0 c.args.name.now c.in-Some.number.now is in
    ap (slice_get names) (let z : c.in-Some.number.now ≡ at.0 = omega (arith, at.1) in z) ∙ at.2
