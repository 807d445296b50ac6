-- Lines as `clap` is shown them, and its faults there, computed, for the reader of specs/Hidden.antt and specs/Program.antt.
use Rattle.std.proofs.Common.{◌≡◌, refl, List, [], ◌∷◌, Some, None, codes}
use Rattle.clap.proofs.OnLiterals.{clap_on_literals}
use Rattle.clap.specs.Faults.{fault_of}
use Rattle.clap.specs.Kinds.{Kinds}
use Rattle.clap.specs.Walk.{Text}
use Rattle.clap.specs.declared.error.kind.ErrorKind.TheVariants.{ArgumentConflict, InvalidValue, UnknownArgument, ValueValidation}
use Rattle.lalrpop_run_options.proofs.ProgramLemmas.{some_methods, some_tasks}
use Rattle.lalrpop_run_options.specs.Hidden.{hide_values, hidden_value}
use Rattle.lalrpop_run_options.specs.Program.{program}

-- a line that asks for a judgement, with these words behind it
abbrev judged : List Text → List Text
judged words = codes "lalrpop_run" ∷ codes "judge" ∷ codes "--start" ∷ codes "S" ∷ words

abbrev faults : List Text → Kinds
faults line = fault_of (program some_tasks some_methods) (hide_values line)

-- ---- both values are hidden, and found

abbrev both : List Text
both = judged (codes "--text" ∷ codes "-a" ∷ codes "--tree" ∷ codes "-b" ∷ [])

both-hidden : hide_values both ≡ judged (codes "--text" ∷ [] ∷ codes "--tree" ∷ [] ∷ [])
both-hidden = refl

both-text : hidden_value (codes "--text") both ≡ Some (codes "-a")
both-text = refl

both-tree : hidden_value (codes "--tree") both ≡ Some (codes "-b")
both-tree = refl

both-faults : faults both ≡ []
unfolding program clap_on_literals
both-faults = refl

-- ---- a value is not looked at as an option

abbrev tree_as_text : List Text
tree_as_text = judged (codes "--text" ∷ codes "--tree" ∷ codes "-x" ∷ [])

tree_as_text-hidden : hide_values tree_as_text ≡ judged (codes "--text" ∷ [] ∷ codes "-x" ∷ [])
tree_as_text-hidden = refl

tree_as_text-text : hidden_value (codes "--text") tree_as_text ≡ Some (codes "--tree")
tree_as_text-text = refl

tree_as_text-tree : hidden_value (codes "--tree") tree_as_text ≡ None
tree_as_text-tree = refl

tree_as_text-faults : faults tree_as_text ≡ UnknownArgument ∷ []
unfolding program clap_on_literals
tree_as_text-faults = refl

-- ---- so a value `--` ends no options

abbrev end_as_text : List Text
end_as_text = judged (codes "--text" ∷ codes "--" ∷ codes "--tree" ∷ codes "-b" ∷ [])

end_as_text-hidden : hide_values end_as_text ≡ judged (codes "--text" ∷ [] ∷ codes "--tree" ∷ [] ∷ [])
end_as_text-hidden = refl

end_as_text-text : hidden_value (codes "--text") end_as_text ≡ Some (codes "--")
end_as_text-text = refl

end_as_text-faults : faults end_as_text ≡ []
unfolding program clap_on_literals
end_as_text-faults = refl

-- ---- behind another `--` nothing is hidden

abbrev behind_the_end : List Text
behind_the_end = judged (codes "--" ∷ codes "--text" ∷ codes "-x" ∷ [])

behind_the_end-hidden : hide_values behind_the_end ≡ behind_the_end
behind_the_end-hidden = refl

behind_the_end-text : hidden_value (codes "--text") behind_the_end ≡ None
behind_the_end-text = refl

behind_the_end-faults : faults behind_the_end ≡ UnknownArgument ∷ []
unfolding program clap_on_literals
behind_the_end-faults = refl

-- ---- an option that lacks its value

abbrev last : List Text
last = judged (codes "--text" ∷ [])

last-hidden : hide_values last ≡ last
last-hidden = refl

last-faults : faults last ≡ InvalidValue ∷ []
unfolding program clap_on_literals
last-faults = refl

-- ---- an option where another one wants its value

abbrev behind_start : List Text
behind_start = codes "lalrpop_run" ∷ codes "judge" ∷ codes "--start" ∷ codes "--text" ∷ codes "-x" ∷ []

behind_start-hidden : hide_values behind_start
    ≡ codes "lalrpop_run" ∷ codes "judge" ∷ codes "--start" ∷ codes "--text" ∷ [] ∷ []
behind_start-hidden = refl

behind_start-faults : faults behind_start ≡ InvalidValue ∷ []
unfolding program clap_on_literals
behind_start-faults = refl

-- ---- an option given twice

twice-faults : faults (judged (codes "--text" ∷ codes "-a" ∷ codes "--text" ∷ codes "-b" ∷ [])) ≡ ArgumentConflict ∷ []
unfolding program clap_on_literals
twice-faults = refl

-- ---- a value in the option's word, which `clap` takes as it is

abbrev attached : List Text
attached = judged (codes "--text=-x" ∷ [])

attached-hidden : hide_values attached ≡ attached
attached-hidden = refl

attached-faults : faults attached ≡ []
unfolding program clap_on_literals
attached-faults = refl

-- ---- the program's name is no option

name-hidden : hide_values (codes "--text" ∷ codes "-x" ∷ []) ≡ codes "--text" ∷ codes "-x" ∷ []
name-hidden = refl

-- ---- the way to states: a word that names a method, and a number

abbrev checked : List Text → List Text
checked words = codes "lalrpop_run" ∷ codes "check" ∷ codes "--start" ∷ codes "S" ∷ words

lane-faults : faults (checked (codes "--method" ∷ codes "lane" ∷ codes "--copies" ∷ codes "+5" ∷ [])) ≡ []
unfolding program clap_on_literals
lane-faults = refl

canonical-faults : faults (checked (codes "--method=canonical" ∷ [])) ≡ []
unfolding program clap_on_literals
canonical-faults = refl

another_method-faults : faults (checked (codes "--method" ∷ codes "Lane" ∷ [])) ≡ InvalidValue ∷ []
unfolding program clap_on_literals
another_method-faults = refl

no_number-faults : faults (checked (codes "--copies" ∷ codes "x" ∷ [])) ≡ ValueValidation ∷ []
unfolding program clap_on_literals
no_number-faults = refl

too_large-faults : faults (checked (codes "--copies" ∷ codes "18446744073709551616" ∷ [])) ≡ ValueValidation ∷ []
unfolding program clap_on_literals
too_large-faults = refl

no_copies-faults : faults (checked (codes "--copies" ∷ [])) ≡ InvalidValue ∷ []
unfolding program clap_on_literals
no_copies-faults = refl

another_task-faults : faults (codes "lalrpop_run" ∷ codes "explain" ∷ codes "--start" ∷ codes "S" ∷ []) ≡ InvalidValue ∷ []
unfolding program clap_on_literals
another_task-faults = refl
