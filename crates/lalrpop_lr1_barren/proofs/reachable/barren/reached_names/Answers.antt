use Rattle.std.proofs.Common.{◌≡◌, ◌∙◌, ◌<◌, ℕ, ap, arith, length, map, subst, sym}
use Rattle.std.specs.Prelude.{flat_map}
use Rattle.lalrpop_lr1_first.specs.FirstNumbers.{name_count}
use Rattle.lalrpop_lr1_barren.specs.Clauses.{ClausesAreWithin, Follows, IsMarked, clause_view}
use Rattle.lalrpop_lr1_barren.specs.RuleClauses.{reach_of_rule}
use Rattle.lalrpop_lr1_barren.proofs.ClauseLemmas.{only_set, set_long, set_there}
use Rattle.lalrpop_lr1_barren.proofs.NameLemmas.{led_reached, one_number, reached_led}
use Rattle.lalrpop_lr1_barren.proofs.RuleLemmas.{reaches_within}
use Rattle.lalrpop_lr1_barren.proofs.reachable.barren.reached_names.Goals as goal

pub set_mark-requires : goal.set_mark-requires
set_mark-requires c = omega (arith, c.requires.start, c.in_ok-marks.ensures.count, ap length c.names.ensures)

pub close-requires : goal.close-requires
close-requires c =
    let t = c.args.table.now in
    let none = c.in_ok-marks.marks.items in
    let long : name_count t ≡ length c.set_mark.new.marks.items =
    omega (
      arith,
      c.in_ok-marks.ensures.count,
      ap length c.names.ensures,
      ap length c.set_mark.ensures,
      set_long none c.args.start,
    ) in
    subst (λ cs. ClausesAreWithin (length c.set_mark.new.marks.items) cs) (sym c.as_slice.ensures.value)
    (subst (λ n. ClausesAreWithin n c.in_ok-clauses.clauses.items) long
    (reaches_within t c.requires.table c.in_ok-clauses.clauses.items c.in_ok-clauses.ensures))

pub returns-clause-count : goal.returns-clause-count
returns-clause-count c =
    let none = c.in_ok-marks.marks.items in
    omega (
      arith,
      c.in_ok-closed.ensures.count,
      ap length c.set_mark.ensures,
      set_long none c.args.start,
      c.in_ok-marks.ensures.count,
      ap length c.names.ensures,
    )

pub returns-clause-reached : goal.returns-clause-reached
returns-clause-reached c =
    let t = c.args.table.now in
    let is = c.requires.table in
    let start = c.args.start in
    let none = c.in_ok-marks.marks.items in
    let first = c.set_mark.new.marks.items in
    let inside : start < length none = omega (arith, c.requires.start, c.in_ok-marks.ensures.count, ap length c.names.ensures) in
    let eq = ap (map clause_view) c.as_slice.ensures.value ∙ c.in_ok-clauses.ensures in
    let marked : IsMarked first start = subst (λ l. IsMarked l start) (sym c.set_mark.ensures) (set_there none start inside) in
    let only : (n : ℕ) → IsMarked first n → n ≡ start =
    λ n m. only_set none start n c.in_ok-marks.ensures.empty (subst (λ l. IsMarked l n) c.set_mark.ensures m) in
    λ S start_is s A e. (
      λ m. led_reached t is first start S start_is marked only
          (subst (λ cs. Follows cs first s) eq ((c.in_ok-closed.ensures.follows s).0 m)) A e,
      λ r.
          let l = reached_led t is first start S start_is marked only r in
          let here = one_number t is l.0 s A l.1 e in
          (c.in_ok-closed.ensures.follows s).1 (subst (λ cs. Follows cs first s) (sym eq)
          (subst (Follows (flat_map (reach_of_rule t) t.rules.items) first) here l.2)),
    )
