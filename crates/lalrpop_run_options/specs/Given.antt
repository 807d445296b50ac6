-- What a parse of the program's command line found.
use Rattle.std.specs.Prelude.{◌≡◌, IsSome, Some, codes, false}
use Rattle.clap.specs.Matches.{first_value, one_text}
use Rattle.clap.specs.Values.{Accepts, read_as, reading_of}
use Rattle.clap.specs.Walk.{Text}
use Rattle.clap.specs.declared.builder.value_parser.ValueParser.{ValueParser}
use Rattle.clap.specs.declared.parser.matches.Found.{Found}
use Rattle.lalrpop_run_options.specs.Method.{IsMethodWord}
use Rattle.lalrpop_run_options.specs.Program.{parser_of_u16, parser_of_u64, parser_of_usize}
use Rattle.lalrpop_run_options.specs.Task.{word_of}
use Rattle.lalrpop_run_options.specs.declared.task.Task.{Task}

-- a text that was given for this id passed the parser, and is read as the parser says
abbrev pub HasPassed : ValueParser → Text → Found → Type 0
HasPassed parser id found = (text : Text) → first_value found id ≡ Some text
    → Accepts false parser text × (one_text found id ≡ Some (read_as (reading_of parser) text))

-- where a word was given for the method, it names one
abbrev pub HasMethodWord : Found → Type 0
HasMethodWord found = (text : Text) → first_value found (codes "method") ≡ Some text → IsMethodWord text

-- the word of a task and the start were given, and what was given for the method and the numbers passed
pub record IsComplete (found : Found) : Type 0 where
  pub task : (t : Task) × (first_value found (codes "command") ≡ Some (word_of t))
  pub start : IsSome (first_value found (codes "start"))
  pub macro_limit : HasPassed parser_of_u16 (codes "macro-limit") found
  pub method : HasMethodWord found
  pub copies : HasPassed parser_of_usize (codes "copies") found
  pub limit : HasPassed parser_of_u64 (codes "limit") found
