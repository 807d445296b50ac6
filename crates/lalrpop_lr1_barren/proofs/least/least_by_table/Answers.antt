use Rattle.std.proofs.Common.{◌≡◌, ◌<◌, ◌-◌, ℕ, Some, ap, arith, length, slice_get, subst, sym}
use Rattle.std.specs.Prelude.{get_or}
use Rattle.std.proofs.lemmas.Option.{slice_get_within}
use Rattle.std.specs.List.Sorted.{IsStrictlySortedBy}
use Rattle.lalrpop_grammar_symbols.specs.contracts.names.NonterminalStringOrd.TheImpl as names_order
use Rattle.lalrpop_lr1_first.specs.FirstNumbers.{name_count}
use Rattle.lalrpop_lr1_first.specs.Listings.{lent}
use Rattle.lalrpop_lr1_first.specs.NumberedGrammars.{IsSeenIn, table_names, table_productions}
use Rattle.lalrpop_lr1_first.specs.Tables.{symbol_or}
use Rattle.lalrpop_lr1_first.proofs.ListLemmas.{get_slice}
use Rattle.lalrpop_lr1_first.proofs.TableLemmas.{get_mapped, long_map}
use Rattle.lalrpop_lr1_barren.specs.Clauses.{IsMarked}
use Rattle.lalrpop_lr1_barren.specs.NameMarks.{IsNumberOf, IsPlaceOfElement}
use Rattle.lalrpop_lr1_barren.proofs.ClauseLemmas.{marked_within}
use Rattle.lalrpop_lr1_barren.specs.LeastBarren.{IsFirstMissing, IsLeastBarren}
use Rattle.lalrpop_lr1_barren.proofs.BarrenLemmas.{absent_least, first_least, none_least}
use Rattle.lalrpop_lr1_barren.proofs.least.least_by_table.Goals as goal

pub place_of-requires : goal.place_of-requires
place_of-requires c =
    subst (λ ns. IsStrictlySortedBy (names_order.ghosts).cmp (lent ns)) (sym c.names.ensures) c.requires.names

pub reached_names-requires-clause-start : goal.reached_names-requires-clause-start
reached_names-requires-clause-start c =
    let t = c.args.table.now in
    let k = c.in-Some.place in
    let at : slice_get (table_names t) k ≡ Some c.args.start.now =
    subst (IsPlaceOfElement (table_names t) c.args.start.now) c.in-Some.is
    (subst (λ ns. IsPlaceOfElement (lent ns) c.args.start.now c.place_of.result) c.names.ensures c.place_of.ensures) in
    omega (arith, slice_get_within (table_names t) k c.args.start.now at, long_map (λ b. b.now) t.names.items)

pub returns-in-None : goal.returns-in-None
returns-in-None c =
    let t = c.args.table.now in
    let start = c.args.start.now in
    let none = subst (IsPlaceOfElement (table_names t) start) c.in-None.is
    (subst (λ ns. IsPlaceOfElement (lent ns) start c.place_of.result) c.names.ensures c.place_of.ensures) in
    subst (λ found. IsLeastBarren (IsSeenIn (table_productions t)) start.0 (Some found)) (sym c.in_ok-try_clone-in-None.ensures)
    (absent_least t c.requires start none)

pub returns-in-None-first_lacking : goal.returns-in-None-first_lacking
returns-in-None-first_lacking c =
    let t = c.args.table.now in
    let start = c.args.start.now in
    let k = c.in-Some.place in
    let at : slice_get (table_names t) k ≡ Some start =
    subst (IsPlaceOfElement (table_names t) start) c.in-Some.is
    (subst (λ ns. IsPlaceOfElement (lent ns) start c.place_of.result) c.names.ensures c.place_of.ensures) in
    let number_is : IsNumberOf t k start.0 =
    ap (λ o. symbol_or o (slice_get t.terminals.now.all (k - length (table_names t)))) at in
    let reached = c.in_ok-reached-in-Some.reached.items in
    let productive = c.in_ok-productive-in-Some.productive.items in
    let within : (n : ℕ) → IsMarked reached n → n < name_count t =
    λ n m. omega (arith, marked_within reached n m, c.in_ok-reached-in-Some.ensures.count) in
    let found : IsFirstMissing reached productive c.first_lacking.result =
    subst (λ a. IsFirstMissing a productive c.first_lacking.result) c.as_slice.ensures.value
    (subst (λ b. IsFirstMissing c.as_slice.result.now b c.first_lacking.result) c.as_slice-in-Some.ensures.value
    c.first_lacking.ensures) in
    none_least t c.requires start k number_is reached productive c.in_ok-reached-in-Some.ensures.reached
    c.in_ok-productive-in-Some.ensures within (subst (IsFirstMissing reached productive) c.in-None-first_lacking.is found)

pub returns : goal.returns
returns c =
    let t = c.args.table.now in
    let start = c.args.start.now in
    let k = c.in-Some.place in
    let at : slice_get (table_names t) k ≡ Some start =
    subst (IsPlaceOfElement (table_names t) start) c.in-Some.is
    (subst (λ ns. IsPlaceOfElement (lent ns) start c.place_of.result) c.names.ensures c.place_of.ensures) in
    let number_is : IsNumberOf t k start.0 =
    ap (λ o. symbol_or o (slice_get t.terminals.now.all (k - length (table_names t)))) at in
    let reached = c.in_ok-reached-in-Some.reached.items in
    let productive = c.in_ok-productive-in-Some.productive.items in
    let within : (n : ℕ) → IsMarked reached n → n < name_count t =
    λ n m. omega (arith, marked_within reached n m, c.in_ok-reached-in-Some.ensures.count) in
    let found : IsFirstMissing reached productive c.first_lacking.result =
    subst (λ a. IsFirstMissing a productive c.first_lacking.result) c.as_slice.ensures.value
    (subst (λ b. IsFirstMissing c.as_slice.result.now b c.first_lacking.result) c.as_slice-in-Some.ensures.value
    c.first_lacking.ensures) in
    let j = c.in-Some-first_lacking.number in
    let lacking = subst (IsFirstMissing reached productive) c.in-Some-first_lacking.is found in
    let x = c.index-names-number.result in
    let own : slice_get t.names.items j ≡ Some x =
    get_slice t.names.items j x (omega (arith, within j lacking.marked))
    (subst (λ ns. x ≡ get_or ns j x) c.names-in-Some-first_lacking.ensures c.index-names-number.is) in
    let name_at : slice_get (table_names t) j ≡ Some x.now = get_mapped (λ b. b.now) t.names.items j x own in
    let number_of : IsNumberOf t j x.now.0 =
    ap (λ o. symbol_or o (slice_get t.terminals.now.all (j - length (table_names t)))) name_at in
    subst (λ name. IsLeastBarren (IsSeenIn (table_productions t)) start.0 (Some name))
    (sym c.in_ok-try_clone-in-Some-first_lacking.ensures)
    (first_least t c.requires start k number_is reached productive c.in_ok-reached-in-Some.ensures.reached
    c.in_ok-productive-in-Some.ensures within j lacking x.now name_at number_of)
