-- What `options` answers.
use Rattle.std.specs.Prelude.{◌≡◌, List, [], Result, MatchResult}
use Rattle.clap.specs.Faults.{fault_of}
use Rattle.clap.specs.Simple.{matches_of}
use Rattle.clap.specs.Walk.{Text}
use Rattle.lalrpop_run_options.specs.Hidden.{hide_values}
use Rattle.lalrpop_run_options.specs.Options.{AreOptionsOf}
use Rattle.lalrpop_run_options.specs.Program.{AreWords, WordList, program}
use Rattle.lalrpop_run_options.specs.Refusal.{RefusesBy}
use Rattle.lalrpop_run_options.specs.declared.settings.Options.{Options}
use Rattle.lalrpop_run_options.specs.declared.fault.OptionsError.{OptionsError}

-- the answer by the rules of `clap` for the program's command line, which is shown the line with
-- values hidden: the options that they read there, where they find no fault, with the hidden values
-- in their places, and else a fault of theirs
abbrev pub FollowsRules : List Text → Result Options OptionsError → Type 0
FollowsRules line answer = (tasks : WordList) × (methods : WordList) × AreWords tasks methods
    × MatchResult answer
    (λ options. (fault_of (program tasks methods) (hide_values line) ≡ [])
    × AreOptionsOf line (matches_of (program tasks methods) (hide_values line)) options)
    (RefusesBy (fault_of (program tasks methods) (hide_values line)))
