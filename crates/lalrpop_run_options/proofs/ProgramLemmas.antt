-- The program's command line is one whose matches and faults `clap` states, and what becomes of faults, for `options`.
use Rattle.std.proofs.Common.{◌≡◌, List, inl, inr, refl, subst, sym, true}
use Rattle.std.specs.Prelude.{map}
use Rattle.clap.specs.Kinds.{HasKind, IsAmong, Kinds}
use Rattle.clap.specs.Values.{kind_of}
use Rattle.clap.specs.Walk.{Text}
use Rattle.clap.specs.declared.error.Error.{Error}
use Rattle.clap.proofs.OnLiterals.{clap_on_literals}
use Rattle.clap.specs.Faults.{is_simple_and_free}
use Rattle.clap.specs.Simple.{is_simple}
use Rattle.lalrpop_run_options.specs.Method.{method_words}
use Rattle.lalrpop_run_options.specs.Program.{AreWords, WordList, program}
use Rattle.lalrpop_run_options.specs.Refusal.{IsRefusalOf, RefusesBy}
use Rattle.lalrpop_run_options.specs.Task.{task_words}
use Rattle.lalrpop_run_options.specs.declared.fault.OptionsError.{OptionsError}
use Rattle.lalrpop_run_options.specs.declared.fault.OptionsError.TheVariants as fault

-- the command line is one whose matches `clap` states
pub program_is_simple : (tasks methods : WordList) → is_simple (program tasks methods) ≡ true
unfolding program clap_on_literals
program_is_simple tasks methods = refl

-- the command line is one whose faults `clap` states
pub program_is_free : (tasks methods : WordList) → is_simple_and_free (program tasks methods) ≡ true
unfolding program clap_on_literals
program_is_free tasks methods = refl

-- texts, lent from nowhere
abbrev lent : List Text → WordList
lent words = record { ref_ptr = (0, 0); now = map (λ t. record { ref_ptr = (0, 0); now = t }) words }

-- the words of the tasks and of the methods, lent from nowhere
abbrev pub some_tasks : WordList
some_tasks = lent task_words

-- the words of the methods as a list that is lent from nowhere
abbrev pub some_methods : WordList
some_methods = lent method_words

-- the texts of those words are the words of the tasks and of the methods
pub some_words : AreWords some_tasks some_methods
some_words = record { of_tasks = refl; of_methods = refl }

-- an error of one of some kinds is carried on as a refusal by them
pub refuses_by : (kinds : Kinds) (error : Error) (refusal : OptionsError) → HasKind kinds error → IsRefusalOf error refusal
    → RefusesBy kinds refusal
refuses_by kinds error fault.Memory has is = tt
refuses_by kinds error (fault.Words x) has is = elim has [
  | inl memory ↦ absurd (is.1 memory)
  | inr among ↦ subst (λ (e : Error). IsAmong (kind_of e) kinds) (sym is.0) among
]
