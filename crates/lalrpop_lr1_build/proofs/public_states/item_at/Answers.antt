use Rattle.std.proofs.Common.{◌≡◌, ◌∙◌, ◌<◌, Some, ap, arith, get_or, length, refl, slice_get, sym}
use Rattle.std.proofs.lemmas.Option.{get_or_from_slice_get, slice_get_within}
use Rattle.lalrpop_lr1_theory.proofs.StepLemmas.{some_same}
use Rattle.lalrpop_lr1_first.specs.declared.place.NumberedRule.{NumberedRule}
use Rattle.lalrpop_lr1_first.proofs.ListLemmas.{get_slice}
use Rattle.lalrpop_lr1_first.proofs.TableLemmas.{get_mapped, long_map}
use Rattle.lalrpop_lr1_build.proofs.RuleNumberLemmas.{item_read, told_number}
use Rattle.lalrpop_lr1_build.proofs.public_states.item_at.Goals as goal

pub bounds-numbers-place : goal.bounds-numbers-place
bounds-numbers-place g c =
    let q = c.requires.item in
    let told = told_number c.args.table.now c.requires.table c.args.numbers.now c.requires.numbers c.args.place q.0 q.1 q.2 in
    slice_get_within c.args.numbers.now c.args.place q.2.number told

pub offset_bounds-numbers-place : goal.offset_bounds-numbers-place
offset_bounds-numbers-place g c =
    let q = c.requires.item in
    let told = told_number c.args.table.now c.requires.table c.args.numbers.now c.requires.numbers c.args.place q.0 q.1 q.2 in
    let within = slice_get_within c.args.numbers.now c.args.place q.2.number told in
    omega (arith, within)

pub bounds-productions-number : goal.bounds-productions-number
bounds-productions-number g c =
    let table = c.args.table.now in
    let q = c.requires.item in
    let told = told_number table c.requires.table c.args.numbers.now c.requires.numbers c.args.place q.0 q.1 q.2 in
    let read = get_or_from_slice_get c.args.numbers.now c.args.place q.2.number 0 told in
    let within = slice_get_within _ q.2.number q.2.production q.2.at_production in
    omega (arith, read, within, long_map (λ b. b.now) table.productions.items, ap length c.productions.ensures)

pub offset_bounds-productions-number : goal.offset_bounds-productions-number
offset_bounds-productions-number g c =
    let table = c.args.table.now in
    let q = c.requires.item in
    let told = told_number table c.requires.table c.args.numbers.now c.requires.numbers c.args.place q.0 q.1 q.2 in
    let read = get_or_from_slice_get c.args.numbers.now c.args.place q.2.number 0 told in
    let within = slice_get_within _ q.2.number q.2.production q.2.at_production in
    omega (arith, read, within, long_map (λ b. b.now) table.productions.items, ap length c.productions.ensures)

pub bounds-rules-number : goal.bounds-rules-number
bounds-rules-number g c =
    let table = c.args.table.now in
    let q = c.requires.item in
    let told = told_number table c.requires.table c.args.numbers.now c.requires.numbers c.args.place q.0 q.1 q.2 in
    let read = get_or_from_slice_get c.args.numbers.now c.args.place q.2.number 0 told in
    let within = slice_get_within table.rules.items q.2.number q.2.rule q.2.at_rule in
    omega (arith, read, within, ap length c.rules.ensures)

pub offset_bounds-rules-number : goal.offset_bounds-rules-number
offset_bounds-rules-number g c =
    let table = c.args.table.now in
    let q = c.requires.item in
    let told = told_number table c.requires.table c.args.numbers.now c.requires.numbers c.args.place q.0 q.1 q.2 in
    let read = get_or_from_slice_get c.args.numbers.now c.args.place q.2.number 0 told in
    let within = slice_get_within table.rules.items q.2.number q.2.rule q.2.at_rule in
    omega (arith, read, within, ap length c.rules.ensures)

pub overflow_sub-result : goal.overflow_sub-result
overflow_sub-result g c =
    let table = c.args.table.now in
    let q = c.requires.item in
    let none : NumberedRule = record { left = 0; start = 0 } in
    let told = told_number table c.requires.table c.args.numbers.now c.requires.numbers c.args.place q.0 q.1 q.2 in
    let read = get_or_from_slice_get c.args.numbers.now c.args.place q.2.number 0 told in
    let rule = ap (λ rs. get_or rs (get_or c.args.numbers.now c.args.place 0) none) c.rules.ensures
    ∙ ap (λ n. get_or table.rules.items n none) read
    ∙ get_or_from_slice_get table.rules.items q.2.number q.2.rule none q.2.at_rule in
    let start = ap (λ (r : NumberedRule). r.start) rule in
    omega (arith, start, q.2.place_is)

pub returns : goal.returns
returns g c =
    let table = c.args.table.now in
    let q = c.requires.item in
    let number = get_or c.args.numbers.now c.args.place 0 in
    let none : NumberedRule = record { left = 0; start = 0 } in
    let told = told_number table c.requires.table c.args.numbers.now c.requires.numbers c.args.place q.0 q.1 q.2 in
    let read = get_or_from_slice_get c.args.numbers.now c.args.place q.2.number 0 told in
    let rule = ap (λ rs. get_or rs number none) c.rules.ensures ∙ ap (λ n. get_or table.rules.items n none) read
    ∙ get_or_from_slice_get table.rules.items q.2.number q.2.rule none q.2.at_rule in
    let found = c.index-productions-number.result in
    let within = slice_get_within _ q.2.number q.2.production q.2.at_production in
    let bound : number < length c.productions.result.now =
    omega (arith, read, within, long_map (λ b. b.now) table.productions.items, ap length c.productions.ensures) in
    let there : slice_get table.productions.items q.2.number ≡ Some found =
    ap (slice_get table.productions.items) (sym read) ∙ ap (λ l. slice_get l number) (sym c.productions.ensures)
    ∙ get_slice c.productions.result.now number found bound c.index-productions-number.is in
    let same : found.now ≡ q.2.production =
    some_same found.now q.2.production (sym (get_mapped (λ b. b.now) table.productions.items q.2.number found there)
    ∙ q.2.at_production) in (
      item_read table c.args.place q.0 q.1 q.2 found.now (get_or c.rules.result.now number none).start same
          (ap (λ (r : NumberedRule). r.start) rule),
      refl,
    )
