-- What the definitions see of moves: for the contracts that name moves.
use Rattle.lalrpop_grammar_symbols.specs.Views.{terminal_view}
use Rattle.lalrpop_judge.specs.Certificates.{NumberedMove, reduce_by, shift_of}
use Rattle.lalrpop_judge.specs.declared.certificates.moves.Move.{Move}
use Rattle.lalrpop_judge.specs.declared.certificates.moves.Move.TheVariants as moves

abbrev pub move_view : Move → NumberedMove
move_view (moves.Shift t) = shift_of (terminal_view t)
move_view (moves.Reduce action) = reduce_by action.0
