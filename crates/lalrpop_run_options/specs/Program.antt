-- The command line of the program, as `clap` reads it.
use Rattle.std.specs.Prelude.{◌≡◌, ℕ, List, [], ◌∷◌, ◌++◌, Some, pos, codes, true, false}
use Rattle.std.specs.Borrow.{Bor}
use Rattle.clap.specs.Built.{IsPlain, IsPlainArg}
use Rattle.clap.specs.Walk.{Rule, Text, rule_of, texts}
use Rattle.clap.specs.declared.builder.arg.Arg.{Arg}
use Rattle.clap.specs.declared.builder.command.Command.{Command}
use Rattle.clap.specs.Simple.{App, app_of, new_app, new_rule, new_shape, on_top, with_rule}
use Rattle.clap.specs.declared.builder.action.ArgAction.TheVariants.{Set}
use Rattle.clap.specs.declared.builder.value_parser.ValueParser.{ValueParser}
use Rattle.clap.specs.declared.builder.value_parser.ValueParser.TheVariants as vp
use Rattle.lalrpop_run_options.specs.Method.{method_words}
use Rattle.lalrpop_run_options.specs.Task.{task_words}

-- a list of words
abbrev pub WordList : Type 0
WordList = Bor (List (Bor (List ℕ)))

-- the word that names the task: the one positional
abbrev pub task_rule : WordList → Rule
task_rule tasks = record (new_rule (codes "command")) {
  action = Some Set;
  value_names = 1;
  required = true;
  parser = Some (vp.Names tasks);
}

-- `--name VALUE`
abbrev pub option_rule : Text → Rule
option_rule name =
    record (new_rule name) { long = Some name; action = Some Set; value_names = 1 }

-- an option that may not be left out
abbrev pub start_rule : Rule
start_rule = record (option_rule (codes "start")) { required = true }

-- the parsers of numbers that `u16`, `u64` and `usize` hold
abbrev pub parser_of_u16 : ValueParser
parser_of_u16 = vp.Signed (pos 0) (pos 65535)

abbrev pub parser_of_u64 : ValueParser
parser_of_u64 = vp.Unsigned 0 18446744073709551615

abbrev pub parser_of_usize : ValueParser
parser_of_usize = vp.Unsigned 0 18446744073709551615

abbrev pub macro_limit_rule : Rule
macro_limit_rule = record (option_rule (codes "macro-limit")) { parser = Some parser_of_u16 }

abbrev pub limit_rule : Rule
limit_rule = record (option_rule (codes "limit")) { parser = Some parser_of_u64 }

-- an option whose value is one of the words
abbrev pub method_rule : WordList → Rule
method_rule methods = record (option_rule (codes "method")) { parser = Some (vp.Names methods) }

abbrev pub copies_rule : Rule
copies_rule = record (option_rule (codes "copies")) { parser = Some parser_of_usize }

-- --start NAME [--text TEXT] [--tree JSON]
abbrev pub input_rules : List Rule
input_rules = start_rule ∷ option_rule (codes "text") ∷ option_rule (codes "tree") ∷ []

-- [--features LIST] [--macro-limit N] [--limit N]
abbrev pub limit_rules : List Rule
limit_rules = option_rule (codes "features") ∷ macro_limit_rule ∷ limit_rule ∷ []

-- [--method METHOD] [--copies N]
abbrev pub method_rules : WordList → List Rule
method_rules methods = method_rule methods ∷ copies_rule ∷ []

-- COMMAND, and then the options
abbrev pub rules_of_program : WordList → WordList → List Rule
rules_of_program tasks methods = task_rule tasks ∷ input_rules ++ limit_rules ++ method_rules methods

-- the command line with a version to tell and these rules; `tasks` has the words of the tasks, `methods` those of the methods
unfoldable pub program : WordList → WordList → App
program tasks methods = record {
  top = record (new_shape (codes "lalrpop_run")) { has_version = true; rules = rules_of_program tasks methods };
  subs = [];
}

-- the words of the tasks and those of the methods
pub record AreWords (tasks methods : WordList) : Type 0 where
  pub of_tasks : texts tasks.now ≡ task_words
  pub of_methods : texts methods.now ≡ method_words

-- the argument has this rule, and none on another argument
pub record IsArgument (wanted : Rule) (argument : Arg) : Type 0 where
  pub rule : rule_of argument ≡ wanted
  pub plain : IsPlainArg argument
  pub global : argument.global ≡ false

-- the argument is the word of a task
abbrev pub IsTaskArgument : Arg → Type 0
IsTaskArgument argument =
    (tasks : WordList) × (texts tasks.now ≡ task_words) × IsArgument (task_rule tasks) argument

-- the argument is `--method`, with the words of the methods
abbrev pub IsMethodArgument : Arg → Type 0
IsMethodArgument argument =
    (methods : WordList) × (texts methods.now ≡ method_words) × IsArgument (method_rule methods) argument

-- the command is the program's, with the words of the tasks and those of the methods
abbrev pub IsProgram : App → Type 0
IsProgram app = (tasks : WordList) × (methods : WordList) × AreWords tasks methods × (app ≡ program tasks methods)

-- the command line with arguments by these rules after its own
abbrev pub with_rules : List Rule → App → App
with_rules [] app = app
with_rules (rule ∷ rules) app = with_rules rules (with_rule app rule)

-- the new command has arguments by these rules after the old one's, none of which excludes another
pub record AddsRules (rules : List Rule) (old new : Command) : Type 0 where
  pub shape : app_of new ≡ with_rules rules (app_of old)
  pub plain : IsPlain old → IsPlain new

-- the command line with a version to tell
abbrev pub with_version : App → App
with_version app = on_top (λ s. record s { has_version = true }) app

-- the command has a version to tell, and one argument, the word of a task
abbrev pub IsTaskCommand : Command → Type 0
IsTaskCommand command = (tasks : WordList) × (texts tasks.now ≡ task_words)
    × (app_of command ≡ with_rule (with_version (new_app (codes "lalrpop_run"))) (task_rule tasks)) × IsPlain command

-- the new command has `--method` and `--copies` after the old one's arguments
abbrev pub IsMethodCommand : Command → Command → Type 0
IsMethodCommand old new = (methods : WordList) × (texts methods.now ≡ method_words) × AddsRules (method_rules methods) old new
