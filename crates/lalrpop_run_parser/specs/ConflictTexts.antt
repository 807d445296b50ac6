-- What is written of conflicts: a line with their number, then three lines each.
use Rattle.std.specs.Prelude.{List, ◌++◌, Option, Some, None, codes, decimal, flat_map, length}
use Rattle.lalrpop_grammar.specs.Trees.{Tree}
use Rattle.lalrpop_grammar.specs.Views.{tree_view}
use Rattle.lalrpop_grammar_symbols.specs.Symbols.{Text}
use Rattle.lalrpop_grammar_symbols.specs.Texts.{terminal_text}
use Rattle.lalrpop_grammar_symbols.specs.Views.{terminal_view}
use Rattle.lalrpop_grammar_symbols.specs.declared.terminal.TerminalString.{TerminalString}
use Rattle.lalrpop_json_grammar.specs.Printing.{tree_text}
use Rattle.lalrpop_run_parser.specs.declared.conflicts.written_conflict.WrittenConflict.{WrittenConflict}
use Rattle.lalrpop_run_parser.specs.declared.conflicts.written_conflict.WrittenMove.{WrittenMove}
use Rattle.lalrpop_run_parser.specs.declared.conflicts.written_conflict.WrittenMove.TheVariants as moves

-- what comes next
abbrev pub coming_text : Option TerminalString → Text
coming_text None = codes "end of input"
coming_text (Some t) = terminal_text (terminal_view t)

-- the kind of a move
abbrev pub move_text : WrittenMove → Text
move_text moves.Shift = codes "shift"
move_text moves.Reduce = codes "reduce"

-- how many trees both sentences have in common, and what comes next
abbrev pub place_text : WrittenConflict → Text
place_text c = (codes "after " ++ decimal c.shared) ++ (codes " trees before " ++ coming_text c.next ++ codes "\n")

-- a move with its tree
abbrev pub tree_line : WrittenMove → Tree → Text
tree_line kind tree = move_text kind ++ codes ": " ++ tree_text tree ++ codes "\n"

abbrev pub conflict_text : WrittenConflict → Text
conflict_text c =
    ((codes "after " ++ decimal c.shared) ++ (codes " trees before " ++ coming_text c.next ++ codes "\n"))
    ++ tree_line c.move1 (tree_view c.tree1) ++ tree_line c.move2 (tree_view c.tree2)

-- those of all
abbrev pub conflict_lines : List WrittenConflict → Text
conflict_lines conflicts = flat_map conflict_text conflicts

-- how many there are, and the lines of all
abbrev pub conflicts_text : List WrittenConflict → Text
conflicts_text conflicts = (codes "conflicts: " ++ decimal (length conflicts) ++ codes "\n") ++ flat_map conflict_text conflicts
