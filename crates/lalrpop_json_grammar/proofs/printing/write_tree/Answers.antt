use Rattle.std.proofs.Common.{◌≡◌, suc, sym, ◌∙◌, ap, ◌++◌, replicate, rules, arith}
use Rattle.std.proofs.Output.{has_written_append, has_written_of_eq}
use Rattle.lalrpop_json_grammar.proofs.RowLemmas.{held-fewer, held-whole, options-snoc}
use Rattle.lalrpop_grammar.specs.Views.{tree_view}
use Rattle.lalrpop_json_grammar.specs.PrintedRows.{options_text}
use Rattle.lalrpop_json_grammar.specs.Printing.{tree_text}
use Rattle.lalrpop_json_grammar.proofs.printing.write_tree.Goals as goal

pub loop-held-smaller : goal.loop-held-smaller
loop-held-smaller g c = held-fewer (tree_view c.loop-held.inner.now) (tree_view c.in-Some.held.now) (sym c.in-Some.ensures)

pub loop-held-preserved : goal.loop-held-preserved
loop-held-preserved g c =
    let before = c.loop-held.invariant in
    let counted = rw c.in_ok-options.ensures.ok_part at c.checked_add.ensures in
    let more : c.in_ok-options.options ≡ suc c.loop-held.options = omega (arith, counted.1) in
    let whole = held-whole c.loop-held.options (tree_view c.loop-held.inner.now) (tree_view c.in-Some.held.now) (sym c.in-Some.ensures) in
    record {
      written = λ plain.
          let bracket = c.in_ok-write_str.ensures.writes (before.written plain).plain (search rules) in
          has_written_of_eq _ _ _ _ _ (sym (options-snoc c.loop-held.options) ∙ ap options_text (sym more))
          (has_written_append _ _ _ _ _ _ (before.written plain) bracket);
      whole = ap (λ n. options_text n ++ (tree_text (tree_view c.in-Some.held.now) ++ replicate n 41)) more ∙ whole ∙ before.whole;
    }
