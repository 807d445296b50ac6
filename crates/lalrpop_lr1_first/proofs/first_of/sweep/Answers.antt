use Rattle.std.proofs.Common.{◌≡◌, ◌∙◌, ℕ, ◌<◌, ◌||◌, arith, ap, drop, get_or, length}
use Rattle.std.proofs.Common.{slice_get, sym, subst}
use Rattle.lalrpop_lr1_core.specs.Views.{next_of_number}
use Rattle.lalrpop_sets.specs.AscendingLists.{has}
use Rattle.lalrpop_lr1_first.specs.FirstNumbers.{AreSymbolsBelow, name_count, rule_of, symbol_count, table_end, table_rules}
use Rattle.lalrpop_lr1_first.specs.NumberedGrammars.{IsSeenIn, table_names, table_productions}
use Rattle.lalrpop_lr1_first.specs.Numbers.{says, set_of_number}
use Rattle.lalrpop_lr1_first.specs.Tables.{rest_of, symbol_of_number, symbols_until}
use Rattle.lalrpop_lr1_first.specs.Walks.{place_in_walk}
use Rattle.lalrpop_lr1_first.specs.declared.place.NumberedRule.{NumberedRule}
use Rattle.lalrpop_lr1_first.proofs.ListLemmas.{at_read_set, read_slice}
use Rattle.lalrpop_lr1_first.proofs.PlaceLemmas.{below_from}
use Rattle.lalrpop_lr1_first.proofs.SweepLemmas.{sweep_grown, sweep_same, sweep_start}
use Rattle.lalrpop_lr1_first.proofs.TableLemmas.{get_mapped, left_below, long_map, rules_are, symbols_below, table_numbering}
use Rattle.lalrpop_lr1_first.proofs.first_of.sweep.Goals.{then-branch, else-branch}
use Rattle.lalrpop_lr1_first.proofs.first_of.sweep.Goals as goal

pub first_of_rest-requires : goal.first_of_rest-requires
first_of_rest-requires c =
    let t = c.args.table.now in
    let rule : NumberedRule = get_or c.as_slice-rules.result.now c.place_at-number.result (record { left = 0; start = 0 }) in
    let long : length c.as_slice-in-loop-step.result.now ≡ symbol_count t =
    ap length c.as_slice-in-loop-step.ensures.value ∙ c.loop-step.invariant.len ∙ c.requires.sets.count in
    subst (AreSymbolsBelow (length c.as_slice-in-loop-step.result.now))
    (sym (c.places_from-rest.ensures ∙ ap (drop rule.start) c.as_slice.ensures.value))
    (subst (λ n. AreSymbolsBelow n (drop rule.start t.places.items)) (sym long)
    (below_from (symbol_count t) t.places.items rule.start (symbols_below t c.requires.table)))

pub index_mut-requires : goal.index_mut-requires
index_mut-requires c =
    let t = c.args.table.now in
    let rule : NumberedRule = get_or c.as_slice-rules.result.now c.place_at-number.result (record { left = 0; start = 0 }) in
    let here = read_slice c.as_slice-rules.result.now t.rules.items c.place_at-number.result (record { left = 0; start = 0 })
    c.place_at-number.ensures.within c.as_slice-rules.ensures.value in
    let below = left_below t c.requires.table c.place_at-number.result rule here in
    let long : length c.loop-step.sets.items ≡ symbol_count t = c.loop-step.invariant.len ∙ c.requires.sets.count in
    omega (arith, below, long, c.loop-step.sets.ok)

pub loop-step-init : goal.loop-step-init
loop-step-init c =
    let t = c.args.table.now in
    sweep_start (IsSeenIn (table_productions t)) (symbol_of_number (table_names t) t.terminals.now) (next_of_number t.terminals.now)
    (table_end t) (name_count t) (table_numbering t c.requires.table) (table_rules t) (rules_are t c.requires.table) c.args.forward
    c.args.sets.now.items c.requires.sets.within c.requires.sets.terminals

pub loop-step-preserved : goal.loop-step-preserved
loop-step-preserved c =
    let t = c.args.table.now in
    let i = c.loop-step.step in
    let number = c.place_at-number.result in
    let rule : NumberedRule = get_or c.as_slice-rules.result.now number (record { left = 0; start = 0 }) in
    let there = read_slice c.as_slice-rules.result.now t.rules.items number (record { left = 0; start = 0 })
    c.place_at-number.ensures.within c.as_slice-rules.ensures.value in
    let walked : number ≡ place_in_walk c.args.forward (length (table_rules t)) i =
    c.place_at-number.ensures.at ∙ ap (λ n. place_in_walk c.args.forward n i)
    (ap length c.as_slice-rules.ensures.value ∙ sym (long_map (rule_of t.places.items) t.rules.items)) in
    let here = ap (slice_get (table_rules t)) (sym walked) ∙ get_mapped (rule_of t.places.items) t.rules.items number rule there in
    let new = c.loop-step.sets.items in
    let inside : rule.left < length new = omega (
      arith,
      left_below t c.requires.table number rule there,
      c.loop-step.invariant.len,
      c.requires.sets.count,
    ) in
    let read = at_read_set new rule.left c.index_mut.result.now inside c.index_mut.ensures.value in
    let is_first : (k : ℕ) → has c.in_ok-first.first k ≡ says new (table_end t) (rest_of t.places.items rule.start) k =
    λ k. c.in_ok-first.ensures k
    ∙ ap (λ s. says s (table_end t) (symbols_until c.places_from-rest.result.now) k) c.as_slice-in-loop-step.ensures.value
    ∙ ap (λ xs. says new (table_end t) (symbols_until xs) k) (c.places_from-rest.ensures
    ∙ ap (drop rule.start) c.as_slice.ensures.value) in
    let joined : (k : ℕ) → has c.union_with.new.self k ≡ (has (set_of_number new rule.left) k || has c.in_ok-first.first k) =
    λ k. c.in_ok-union_with.ensures.joined k ∙ ap (λ s. has s k || has c.in_ok-first.first k) read in
    elim c.if-branch.branch [
      | then-branch w ↦ rw w.changed-is (sweep_grown (IsSeenIn (table_productions t)) (symbol_of_number (table_names t) t.terminals.now)
          (next_of_number t.terminals.now) (table_end t) (name_count t) (table_numbering t c.requires.table) (table_rules t)
          (rules_are t c.requires.table) c.args.forward new i (rule_of t.places.items rule) here c.in_ok-first.first c.union_with.new.self is_first
          joined
          c.args.sets.now.items c.loop-step.changed c.loop-step.invariant inside
          (let g = c.in_ok-union_with.ensures.grown w.if-branch.true in (g.0, g.1, ap (λ s. has s g.0) (sym read) ∙ g.2)))
      | else-branch w ↦ rw w.changed-is (sweep_same (IsSeenIn (table_productions t)) (symbol_of_number (table_names t) t.terminals.now)
          (next_of_number t.terminals.now) (table_end t) (name_count t) (table_numbering t c.requires.table) (table_rules t)
          (rules_are t c.requires.table) c.args.forward new i (rule_of t.places.items rule) here c.in_ok-first.first c.union_with.new.self is_first
          joined
          c.args.sets.now.items c.loop-step.changed c.loop-step.invariant (c.in_ok-union_with.ensures.same w.if-branch.false ∙ read))
    ]
