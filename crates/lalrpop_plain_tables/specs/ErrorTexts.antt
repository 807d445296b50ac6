-- What is told of lines that are no grammar.
use Rattle.std.specs.Prelude.{ℕ, List, ◌++◌, codes, decimal}
use Rattle.lalrpop_plain_tables.specs.declared.lines.error.LinesError.{LinesError}
use Rattle.lalrpop_plain_tables.specs.declared.lines.error.LinesError.TheVariants.{Line, TooMany, Memory}

abbrev pub lines_error_text : LinesError → List ℕ
lines_error_text (Line number) = codes "line " ++ decimal number ++ codes " is no production"
lines_error_text TooMany = codes "too many productions"
lines_error_text Memory = codes "out of memory"
