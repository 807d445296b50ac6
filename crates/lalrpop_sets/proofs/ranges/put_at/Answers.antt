use Rattle.std.proofs.Common.{◌≡◌, ◌<◌, ◌++◌, ◌∙◌, true, false, nat_lt, drop, length, suc, take, sym, ap, arith}
use Rattle.std.proofs.lemmas.Bool.Decides.{nat_tests}
use Rattle.lalrpop_sets.specs.RangeEdits.{begins_apart, widened_to, with_new_number}
use Rattle.lalrpop_sets.proofs.PlaceLemmas.{at_place, inserted, replaced}
use Rattle.lalrpop_sets.proofs.RangeEditLemmas.{apart_within, puts_alone, puts_behind, puts_front}
use Rattle.lalrpop_sets.proofs.ranges.put_at.Goals as goal

pub returns-then-is_alone-clause-items : goal.returns-then-is_alone-clause-items
returns-then-is_alone-clause-items c =
    let rs = c.args.ranges.now.items in
    let p = c.args.place in
    let k = c.args.number in
    c.insert_reserved.ensures.items
    ∙ inserted (with_new_number k) rs p _ (puts_alone k (drop p rs)
    (ap (λ l. begins_apart k (drop p l)) (sym c.as_slice.ensures.value) ∙ sym c.is_alone.ensures ∙ c.if-is_alone.true))

pub index-range-requires : goal.index-range-requires
index-range-requires c =
    let e = apart_within c.args.number c.args.place c.args.ranges.now.items
    (ap (λ l. begins_apart c.args.number (drop c.args.place l)) (sym c.as_slice.ensures.value) ∙ sym c.is_alone.ensures ∙ c.if-is_alone.false) in
    omega (arith, e, c.args.ranges.now.ok.0)

pub returns-then-number-range-clause-items : goal.returns-then-number-range-clause-items
returns-then-number-range-clause-items c =
    let rs = c.args.ranges.now.items in
    let p = c.args.place in
    let k = c.args.number in
    let z = c.index-range.result.now in
    let a : begins_apart k (drop p rs) ≡ false =
    ap (λ l. begins_apart k (drop p l)) (sym c.as_slice.ensures.value) ∙ sym c.is_alone.ensures ∙ c.if-is_alone.false in
    let l : p < length rs = apart_within k p rs a in
    let front : nat_lt k z.first ≡ true = let h = c.if-number-range.true in grind (arith, nat_tests) in
    replaced (with_new_number k) rs p z _ l c.index-range.ensures
    (puts_front k z (drop (suc p) rs) (ap (begins_apart k) (sym (at_place rs p z l c.index-range.ensures)) ∙ a) front)

pub widen_up_to-requires : goal.widen_up_to-requires
widen_up_to-requires c =
    let e = apart_within c.args.number c.args.place c.args.ranges.now.items
    (ap (λ l. begins_apart c.args.number (drop c.args.place l)) (sym c.as_slice.ensures.value) ∙ sym c.is_alone.ensures ∙ c.if-is_alone.false) in
    record { place = e }

pub returns-else-number-range-clause-items : goal.returns-else-number-range-clause-items
returns-else-number-range-clause-items c =
    let rs = c.args.ranges.now.items in
    let p = c.args.place in
    let k = c.args.number in
    let z = c.index-range.result.now in
    let a : begins_apart k (drop p rs) ≡ false =
    ap (λ l. begins_apart k (drop p l)) (sym c.as_slice.ensures.value) ∙ sym c.is_alone.ensures ∙ c.if-is_alone.false in
    let l : p < length rs = apart_within k p rs a in
    let back : nat_lt k z.first ≡ false = let h = c.if-number-range.false in grind (arith, nat_tests) in
    let at = at_place rs p z l c.index-range.ensures in
    c.widen_up_to.ensures.items
    ∙ ap (λ ns. take p rs ++ ns) (ap (widened_to k) at
    ∙ sym (ap (with_new_number k) at ∙ puts_behind k z (drop (suc p) rs) (ap (begins_apart k) (sym at) ∙ a) back))
