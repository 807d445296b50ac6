use Rattle.std.proofs.Common.{◌≡◌, ◌<◌, Some, arith, length, slice_get, subst, sym}
use Rattle.std.specs.List.Sorted.{IsStrictlySortedBy}
use Rattle.std.proofs.lemmas.Option.{slice_get_within}
use Rattle.lalrpop_grammar_symbols.specs.contracts.names.NonterminalStringOrd.TheImpl as order
use Rattle.lalrpop_grammar_symbols.specs.contracts.names.NonterminalStringOrd.TheImpl.Laws.{total-law}
use Rattle.lalrpop_lr1_first.specs.Listings.{lent}
use Rattle.lalrpop_lr1_first.specs.NumberedGrammars.{table_names}
use Rattle.lalrpop_lr1_first.proofs.TableLemmas.{long_map, once}
use Rattle.lalrpop_lr1_barren.specs.NameMarks.{IsPlaceOfElement}
use Rattle.lalrpop_lr1_check.proofs.ListedMarkLemmas.{listed_missing, listed_place}
use Rattle.lalrpop_lr1_check.proofs.closure.names_behind.mark_name.Goals as goal

pub place_of-requires : goal.place_of-requires
place_of-requires c =
    subst (λ l. IsStrictlySortedBy (order.ghosts).cmp (lent l)) (sym c.names.ensures) c.requires.table.names

pub returns-in-None : goal.returns-in-None
returns-in-None c =
    let t = c.args.table.now in
    listed_missing (table_names t) c.args.name.now c.args.names.now
    (subst (IsPlaceOfElement (table_names t) c.args.name.now) c.in-None.is
    (subst (λ l. IsPlaceOfElement (lent l) c.args.name.now c.place_of.result) c.names.ensures c.place_of.ensures))

pub returns-in_ok-mark-in-Some : goal.returns-in_ok-mark-in-Some
returns-in_ok-mark-in-Some c =
    let t = c.args.table.now in
    let at : slice_get (table_names t) c.in-Some.place ≡ Some c.args.name.now =
    subst (IsPlaceOfElement (table_names t) c.args.name.now) c.in-Some.is
    (subst (λ l. IsPlaceOfElement (lent l) c.args.name.now c.place_of.result) c.names.ensures c.place_of.ensures) in
    let within : c.in-Some.place < length c.args.names.now.marks.items =
    omega (
      arith,
      slice_get_within (table_names t) c.in-Some.place c.args.name.now at,
      long_map (λ b. b.now) t.names.items,
      c.requires.count,
    ) in
    listed_place (table_names t) c.args.name.now c.args.names.now c.mark.new.self c.in-Some.place within at
    (λ i j. once (order.ghosts).cmp total-law.antisymm (table_names t) c.requires.table.names i j c.args.name.now) c.in_ok-mark-in-Some.ensures
