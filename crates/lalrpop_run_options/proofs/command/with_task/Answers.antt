use Rattle.std.proofs.Common.{◌∙◌, ap, ap₂, sym, subst}
use Rattle.std.specs.List.{All}
use Rattle.std.proofs.lemmas.Result.{IfOk-weaker}
use Rattle.std.proofs.lemmas.List.Elements.{All-nil}
use Rattle.clap.proofs.CallerLemmas.{added_plain}
use Rattle.clap.specs.Built.{IsPlain, IsPlainArg}
use Rattle.clap.specs.Simple.{app_of_fields, with_rule}
use Rattle.lalrpop_run_options.specs.Program.{IsTaskCommand, with_version}
use Rattle.lalrpop_run_options.proofs.command.with_task.Goals as goal

pub returns : goal.returns
returns c =
    let tasks = c.task.ensures in
    let empty : IsPlain c.after_help.result = (
      subst (All IsPlainArg) (sym
          (ap (λ f. f.args.items) c.after_help.ensures
          ∙ (ap (λ f. f.args.items) c.about.ensures ∙ (ap (λ f. f.args.items) c.version.ensures
          ∙ (ap (λ f. f.args.items) c.in_ok-bin_name.ensures.0 ∙ c.new.ensures.empty.0)))))
          (All-nil IsPlainArg),
      ap (λ f. f.groups.items) c.after_help.ensures
          ∙ (ap (λ f. f.groups.items) c.about.ensures ∙ (ap (λ f. f.groups.items) c.version.ensures
          ∙ (ap (λ f. f.groups.items) c.in_ok-bin_name.ensures.0 ∙ c.new.ensures.empty.1))),
    ) in
    IfOk-weaker c.arg.result _ IsTaskCommand
    (λ r added. (
      tasks.0,
      tasks.1,
      added.shape tasks.2.global
          ∙ ap₂ with_rule (ap app_of_fields c.after_help.ensures
          ∙ (ap app_of_fields c.about.ensures ∙ (ap app_of_fields c.version.ensures
          ∙ ap with_version (ap app_of_fields c.in_ok-bin_name.ensures.0 ∙ c.new.ensures.app)))) tasks.2.rule,
      added_plain _ r _ added empty tasks.2.plain,
    ))
    c.arg.ensures
