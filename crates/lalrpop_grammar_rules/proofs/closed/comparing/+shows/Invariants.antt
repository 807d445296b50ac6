use Rattle.std.proofs.Common.{◌+◌, ◌*◌, map}
use Rattle.lalrpop_grammar_rules.specs.Views.{closed_view, closeds}
use Rattle.lalrpop_grammar_rules.proofs.SizeLemmas.{size, sizes}
use Rattle.lalrpop_grammar_rules.proofs.closed.comparing.+shows.Given as goal

abbrev pub decreases-shows : goal.decreases-shows
decreases-shows l = 2 * size (closed_view l.symbol.now) + 1

abbrev pub decreases-call_shows : goal.decreases-call_shows
decreases-call_shows l = 2 * sizes (closeds (map closed_view l.args.now)) + 2

abbrev pub decreases-show_as : goal.decreases-show_as
decreases-show_as l = 2 * sizes (closeds (map closed_view l.symbols.now))

abbrev pub decreases-macro_shows : goal.decreases-macro_shows
decreases-macro_shows l = 2 * sizes (closeds (map closed_view l.args.now)) + 1
