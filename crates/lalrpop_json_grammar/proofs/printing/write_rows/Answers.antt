use Rattle.std.proofs.Common.{sym, ◌∙◌, ap, ◌++◌, rules, append_assoc}
use Rattle.std.proofs.Output.{has_written_append}
use Rattle.lalrpop_json_grammar.specs.PrintedRows.{opening_text}
use Rattle.lalrpop_grammar.specs.Views.{tree_view}
use Rattle.lalrpop_json_grammar.proofs.RowLemmas.{closes, closes-fewer, opens-first, opens-fewer}
use Rattle.lalrpop_json_grammar.proofs.printing.write_rows.Goals as goal

pub loop-row-preserved : goal.loop-row-preserved
loop-row-preserved g c plain =
    let part = c.in-Some-split_first in
    let after = c.row_after in
    let below = c.row_below in
    let so_far = c.loop-row.invariant plain in
    let first = c.write_first.ensures so_far.1.plain (search rules) in
    let same = opens-first c.loop-row.pending.items c.open_row-in-Some.new.pending.items c.open_row-in-Some-2.new.pending.items
    c.pop.new.self.items c.in-Some.row after.result below.result part.first.now part.others.now c.in-Some.ensures.items
    part.ensures.cases.0 after.ensures.before after.ensures.trees after.ensures.closing c.in_ok-open_row-2.ensures
    c.in_ok-open_row-3.ensures below.ensures.before below.ensures.trees below.ensures.closing in (
      so_far.0 ++ (c.in-Some.row.before.now ++ opening_text (tree_view part.first.now)),
      has_written_append _ _ _ _ _ _ so_far.1 first,
      append_assoc so_far.0 _ _ ∙ ap (λ t. so_far.0 ++ t) (sym same) ∙ so_far.2,
    )

pub loop-row-smaller : goal.loop-row-smaller
loop-row-smaller g c =
    let part = c.in-Some-split_first in
    let after = c.row_after in
    let below = c.row_below in
    opens-fewer c.loop-row.pending.items c.open_row-in-Some.new.pending.items c.open_row-in-Some-2.new.pending.items
    c.pop.new.self.items c.in-Some.row after.result below.result part.first.now part.others.now c.in-Some.ensures.items
    part.ensures.cases.0 after.ensures.before after.ensures.trees after.ensures.closing c.in_ok-open_row-2.ensures
    c.in_ok-open_row-3.ensures below.ensures.before below.ensures.trees below.ensures.closing

pub loop-row-preserved-in_default-split_first : goal.loop-row-preserved-in_default-split_first
loop-row-preserved-in_default-split_first g c plain =
    let so_far = c.loop-row.invariant plain in
    let closing = c.in_ok-write_str.ensures.writes so_far.1.plain (search rules) in
    let same = closes c.loop-row.pending.items c.pop.new.self.items c.in-Some.row c.in-Some.ensures.items
    c.in_default-split_first.ensures.cases in (
      so_far.0 ++ c.in-Some.row.closing.now,
      has_written_append _ _ _ _ _ _ so_far.1 closing,
      append_assoc so_far.0 _ _ ∙ ap (λ t. so_far.0 ++ t) (sym same) ∙ so_far.2,
    )

pub loop-row-smaller-in_default-split_first : goal.loop-row-smaller-in_default-split_first
loop-row-smaller-in_default-split_first g c =
    closes-fewer c.loop-row.pending.items c.pop.new.self.items c.in-Some.row c.in-Some.ensures.items
    c.in_default-split_first.ensures.cases
