use Rattle.std.proofs.Common.{map}
use Rattle.lalrpop_grammar_symbols.specs.Symbols.{syms}
use Rattle.lalrpop_grammar_symbols.specs.Views.{symbol_view}
use Rattle.lalrpop_run_trees.proofs.ArgumentLemmas.{symbol_size, symbols_size}
use Rattle.lalrpop_run_trees.proofs.tree_parts.comparing.+arguments.Given as goal

abbrev pub decreases-is_same_argument : goal.decreases-is_same_argument
decreases-is_same_argument l = symbol_size (symbol_view l.a.now)

abbrev pub decreases-are_same_arguments : goal.decreases-are_same_arguments
decreases-are_same_arguments l = symbols_size (syms (map symbol_view l.a.now))
