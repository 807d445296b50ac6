use Rattle.std.proofs.Common.{◌+◌, ◌*◌}
use Rattle.lalrpop_run_parser.proofs.folding.folder.Folder.+likely.Given as goal

abbrev pub decreases-push_label : goal.decreases-push_label
decreases-push_label l = 3 * l.depth + 2

abbrev pub decreases-push_symbols : goal.decreases-push_symbols
decreases-push_symbols l = 3 * l.depth + 1

abbrev pub decreases-push_symbol : goal.decreases-push_symbol
decreases-push_symbol l = 3 * l.depth
