-- What the words ask, and what has to be read to answer it.
use Rattle.std.specs.Prelude.{ℕ, Bool, true, false, List, Option, Some, None, option_map, map, string_bytes}
use Rattle.lalrpop_grammar_symbols.specs.Symbols.{Text}
use Rattle.lalrpop_grammar_repr.specs.declared.methods.Method.{Method}
use Rattle.lalrpop_grammar_rules.specs.Search.{finds, is_too_deep}
use Rattle.lalrpop_run_options.specs.declared.settings.Options.{Options}
use Rattle.lalrpop_run_options.specs.declared.task.Task.{Task}
use Rattle.lalrpop_run_options.specs.declared.task.Task.TheVariants as tasks
use Rattle.lalrpop_run.specs.Asked.{Asked}
use Rattle.lalrpop_run.specs.declared.questions.question.Question as words

pub record Question : Type 0 where
  pub task : Task
  pub features : List Text
  -- how deep macros may stand in macros
  pub macro_limit : ℕ
  -- the rule to start from
  pub start : Text
  -- how states are built
  pub method : Method
  -- how many moves a parse may make
  pub limit : ℕ
  -- the tree's JSON, where one was given
  pub tree : Option Text

-- the question that the words put
abbrev pub question_of : Options → Question
question_of options = record {
  task = options.task;
  features = map string_bytes options.features.items;
  macro_limit = options.macro_limit;
  start = string_bytes options.start;
  method = options.method;
  limit = options.limit;
  tree = option_map string_bytes options.tree;
}

-- what is asked of the written grammar
abbrev pub asked_of : Question → Asked
asked_of q = record {
  finds = finds;
  deep = is_too_deep;
  features = q.features;
  macro_limit = q.macro_limit;
  start = q.start;
  limit = q.limit;
}

abbrev pub question_view : words.Question → Question
question_view q = record {
  task = q.task;
  features = q.session.features.items;
  macro_limit = q.session.macro_recursion_limit;
  start = q.start;
  method = q.method;
  limit = q.limit;
  tree = option_map (λ text. text.now) q.tree;
}

abbrev pub task_reads_grammar : Task → Option Text → Bool
task_reads_grammar tasks.Judge None = false
task_reads_grammar tasks.Judge (Some tree) = true
task_reads_grammar tasks.Tokens tree = true
task_reads_grammar tasks.Check tree = true
task_reads_grammar tasks.Parse tree = true
task_reads_grammar tasks.Report tree = true

-- the grammar is read: always, but where `judge` has no tree
abbrev pub reads_grammar : Question → Bool
reads_grammar q = task_reads_grammar q.task q.tree

abbrev pub task_reads_text : Task → Bool
task_reads_text tasks.Judge = false
task_reads_text tasks.Tokens = true
task_reads_text tasks.Check = false
task_reads_text tasks.Parse = true
task_reads_text tasks.Report = false

-- the text is read
abbrev pub reads_text : Question → Bool
reads_text q = task_reads_text q.task
