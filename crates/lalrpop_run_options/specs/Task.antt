-- The words that name tasks.
use Rattle.std.specs.Prelude.{◌≡◌, ℕ, List, [], ◌∷◌, codes, map}
use Rattle.lalrpop_run_options.specs.declared.task.Task.{Task}
use Rattle.lalrpop_run_options.specs.declared.task.Task.TheVariants.{Check, Judge, Parse, Report, Tokens}

-- the word that names a task
abbrev pub word_of : Task → List ℕ
word_of Judge = codes "judge"
word_of Tokens = codes "tokens"
word_of Check = codes "check"
word_of Parse = codes "parse"
word_of Report = codes "report"

abbrev pub all_tasks : List Task
all_tasks = Judge ∷ Tokens ∷ Check ∷ Parse ∷ Report ∷ []

abbrev pub task_words : List (List ℕ)
task_words = map word_of all_tasks

-- some task has this word
abbrev pub IsTaskWord : List ℕ → Type 0
IsTaskWord text = (t : Task) × (word_of t ≡ text)
