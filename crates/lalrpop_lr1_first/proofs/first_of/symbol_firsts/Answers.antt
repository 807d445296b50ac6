use Rattle.std.proofs.Common.{◌∙◌, rules, subst, sym}
use Rattle.lalrpop_lr1_first.specs.FirstNumbers.{rule_of, table_end, table_rules}
use Rattle.lalrpop_lr1_first.specs.FirstSteps.{AreClosedTo}
use Rattle.lalrpop_lr1_first.proofs.StartLemmas.{start_sets, start_sound}
use Rattle.lalrpop_lr1_first.proofs.SweepLemmas.{closed_all}
use Rattle.lalrpop_lr1_first.proofs.TableLemmas.{long_map}
use Rattle.lalrpop_lr1_first.proofs.first_of.symbol_firsts.Goals as goal

pub loop-changed-init : goal.loop-changed-init
loop-changed-init c =
    let t = c.args.table.now in (
      start_sets t c.requires c.in_ok-sets.sets.items c.add_terminal_sets.new.sets.items (search rules) c.in_ok-sets.ensures.empty
          (search rules),
      start_sound t c.requires c.in_ok-sets.sets.items c.add_terminal_sets.new.sets.items (search rules) c.in_ok-sets.ensures.empty
          (search rules),
      λ e. let w : ⊥ = cc in absurd w,
    )

pub loop-changed-preserved : goal.loop-changed-preserved
loop-changed-preserved c =
    let e = c.in_ok-changed.ensures in
    let i = c.loop-changed.invariant in
    let t = c.args.table.now in (
      record { count = e.len ∙ i.0.count; within = e.within; terminals = e.terminals },
      e.sound i.1,
      λ z. closed_all (table_end t) (table_rules t) c.loop-changed.forward c.sweep.new.sets.items
          (subst (λ n. AreClosedTo (table_end t) (table_rules t) c.loop-changed.forward n c.sweep.new.sets.items)
          (sym (long_map (rule_of t.places.items) t.rules.items)) (e.closed z)),
    )
