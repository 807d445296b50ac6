-- A command with two or three more arguments, for the functions that add the program's.
use Rattle.std.proofs.Common.{◌∙◌, ap₂, refl, ◌∷◌, [], Result, IfOk}
use Rattle.std.proofs.lemmas.Result.{IfOk-weaker}
use Rattle.std.specs.declared.alloc.AllocError.{AllocError}
use Rattle.clap.proofs.CallerLemmas.{added_plain}
use Rattle.clap.specs.Built.{AddsArg}
use Rattle.clap.specs.Simple.{with_rule}
use Rattle.clap.specs.Walk.{Rule}
use Rattle.clap.specs.declared.builder.arg.Arg.{Arg}
use Rattle.clap.specs.declared.builder.command.Command.{Command}
use Rattle.lalrpop_run_options.specs.Program.{AddsRules, IsArgument}

-- two arguments that are added in turn add their two rules
pub adds_two : {old one : Command} {a b : Arg} {u v : Rule} (result : Result Command AllocError)
    → AddsArg old a one → IsArgument u a → IfOk result (AddsArg one b) → IsArgument v b
    → IfOk result (AddsRules (u ∷ v ∷ []) old)
adds_two {old} {one} {a} {b} {u} {v} result first is_first second is_second =
    IfOk-weaker result _ (AddsRules (u ∷ v ∷ []) old)
    (λ new added. record {
      shape = added.shape is_second.global
          ∙ ap₂ with_rule (first.shape is_first.global ∙ ap₂ with_rule refl is_first.rule) is_second.rule;
      plain = λ plain. added_plain _ new _ added (added_plain _ _ _ first plain is_first.plain) is_second.plain;
    })
    second

-- three arguments that are added in turn add their three rules
pub adds_three : {old one two : Command} {a b c : Arg} {u v w : Rule} (result : Result Command AllocError)
    → AddsArg old a one → IsArgument u a → AddsArg one b two → IsArgument v b
    → IfOk result (AddsArg two c) → IsArgument w c → IfOk result (AddsRules (u ∷ v ∷ w ∷ []) old)
adds_three {old} {one} {two} {a} {b} {c} {u} {v} {w} result first is_first second is_second third is_third =
    IfOk-weaker result _ (AddsRules (u ∷ v ∷ w ∷ []) old)
    (λ new added. record {
      shape = added.shape is_third.global
          ∙ ap₂ with_rule (second.shape is_second.global
          ∙ ap₂ with_rule (first.shape is_first.global ∙ ap₂ with_rule refl is_first.rule)
          is_second.rule) is_third.rule;
      plain = λ plain. added_plain _ new _ added
          (added_plain _ _ _ second (added_plain _ _ _ first plain is_first.plain) is_second.plain) is_third.plain;
    })
    third
