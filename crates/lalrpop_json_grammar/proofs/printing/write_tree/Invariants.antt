use Rattle.std.proofs.Common.{◌≡◌, ◌++◌, replicate}
use Rattle.std.specs.Fmt.{HasWritten, IsPlainFormatter}
use Rattle.lalrpop_grammar.specs.Views.{tree_view}
use Rattle.lalrpop_json_grammar.specs.Printing.{tree_text}
use Rattle.lalrpop_json_grammar.specs.PrintedRows.{options_text}
use Rattle.lalrpop_json_grammar.proofs.RowLemmas.{options_in}
use Rattle.lalrpop_json_grammar.proofs.printing.write_tree.Given as goal

abbrev pub invariant-loop-held : goal.invariant-loop-held
invariant-loop-held g l = record {
  written : IsPlainFormatter l.initial.f → HasWritten g.W.Write.write_str_gives l.initial.f (options_text l.options) l.f;
  whole : options_text l.options ++ (tree_text (tree_view l.inner) ++ replicate l.options 41) ≡ tree_text (tree_view l.tree);
}

abbrev pub decreases-loop-held : goal.decreases-loop-held
decreases-loop-held g l = options_in (tree_view l.inner)
