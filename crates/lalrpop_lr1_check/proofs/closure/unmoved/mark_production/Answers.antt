use Rattle.std.proofs.Common.{◌≡◌, ◌<◌, Some, arith, length, refl, slice_get, subst, sym}
use Rattle.std.specs.List.Sorted.{IsStrictlySortedBy}
use Rattle.std.proofs.lemmas.Option.{slice_get_within}
use Rattle.lalrpop_grammar_repr.specs.contracts.production.ProductionOrd.TheImpl as order
use Rattle.lalrpop_grammar_repr.specs.contracts.production.ProductionOrd.TheImpl.Laws.{total-law}
use Rattle.lalrpop_lr1_theory.proofs.ListLemmas.{get_contains}
use Rattle.lalrpop_lr1_first.specs.Listings.{lent}
use Rattle.lalrpop_lr1_first.specs.NumberedGrammars.{table_productions}
use Rattle.lalrpop_lr1_first.proofs.TableLemmas.{long_map, once}
use Rattle.lalrpop_lr1_barren.specs.NameMarks.{IsPlaceOfElement}
use Rattle.lalrpop_lr1_check.proofs.ListedMarkLemmas.{listed_missing, listed_place}
use Rattle.lalrpop_lr1_check.proofs.closure.unmoved.mark_production.Goals as goal

pub place_of_production-requires : goal.place_of_production-requires
place_of_production-requires c =
    subst (λ l. IsStrictlySortedBy (order.ghosts).cmp (lent l)) (sym c.productions.ensures) c.requires.table.productions

pub returns-in-None-clause-known : goal.returns-in-None-clause-known
returns-in-None-clause-known c =
    let p = c.args.production.now in
    let missing = subst (IsPlaceOfElement (table_productions c.args.table.now) p) c.in-None.is
    (subst (λ l. IsPlaceOfElement (lent l) p c.place_of_production.result) c.productions.ensures c.place_of_production.ensures) in
    (λ e. let w : ⊥ = cc in absurd w, λ d. absurd (missing d))

pub returns-in_ok-mark-in-Some-clause-known : goal.returns-in_ok-mark-in-Some-clause-known
returns-in_ok-mark-in-Some-clause-known c =
    let p = c.args.production.now in
    let at = subst (IsPlaceOfElement (table_productions c.args.table.now) p) c.in-Some.is
    (subst (λ l. IsPlaceOfElement (lent l) p c.place_of_production.result) c.productions.ensures c.place_of_production.ensures) in
    (λ e. get_contains (table_productions c.args.table.now) c.in-Some.place p at, λ d. refl)

pub returns-in-None-clause-marks : goal.returns-in-None-clause-marks
returns-in-None-clause-marks c =
    let t = c.args.table.now in
    listed_missing (table_productions t) c.args.production.now c.args.marks.now
    (subst (IsPlaceOfElement (table_productions t) c.args.production.now) c.in-None.is
    (subst (λ l. IsPlaceOfElement (lent l) c.args.production.now c.place_of_production.result) c.productions.ensures
    c.place_of_production.ensures))

pub returns-in_ok-mark-in-Some-clause-marks : goal.returns-in_ok-mark-in-Some-clause-marks
returns-in_ok-mark-in-Some-clause-marks c =
    let t = c.args.table.now in
    let at : slice_get (table_productions t) c.in-Some.place ≡ Some c.args.production.now =
    subst (IsPlaceOfElement (table_productions t) c.args.production.now) c.in-Some.is
    (subst (λ l. IsPlaceOfElement (lent l) c.args.production.now c.place_of_production.result) c.productions.ensures
    c.place_of_production.ensures) in
    let within : c.in-Some.place < length c.args.marks.now.marks.items =
    omega (
      arith,
      slice_get_within (table_productions t) c.in-Some.place c.args.production.now at,
      long_map (λ b. b.now) t.productions.items,
      c.requires.count,
    ) in
    listed_place (table_productions t) c.args.production.now c.args.marks.now c.mark.new.self c.in-Some.place within at
    (λ i j. once (order.ghosts).cmp total-law.antisymm (table_productions t) c.requires.table.productions i j c.args.production.now)
    c.in_ok-mark-in-Some.ensures
