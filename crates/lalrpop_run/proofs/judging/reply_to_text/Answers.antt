use Rattle.std.proofs.Common.{refl, subst}
use Rattle.std.proofs.lemmas.Result.{IfOk-weaker}
use Rattle.lalrpop_grammar.specs.declared.tree.WrittenTree.{WrittenTree}
use Rattle.lalrpop_json_grammar.specs.ReadTrees.{tree_at}
use Rattle.lalrpop_run.specs.Inputs.{IsInput}
use Rattle.lalrpop_run.specs.Judge.{IsJudgeReply}
use Rattle.lalrpop_run.specs.declared.questions.input.Input.{Input}
use Rattle.lalrpop_run.proofs.judging.reply_to_text.Goals as goal

pub returns-in-Value : goal.returns-in-Value
returns-in-Value c =
    IfOk-weaker c.verdict.result _ _
    (λ reply told given. told
    (c.args.text.now, (given, subst (λ (i : Input WrittenTree). IsInput tree_at c.args.text.now i) c.in-Value.is c.in_ok-tree.ensures)))
    c.verdict.ensures

pub returns-in-NotJson : goal.returns-in-NotJson
returns-in-NotJson c = λ given. IsJudgeReply.no_json c.args.text.now given
    (subst (λ (i : Input WrittenTree). IsInput tree_at c.args.text.now i) c.in-NotJson.is c.in_ok-tree.ensures) refl

pub returns-in-Fault : goal.returns-in-Fault
returns-in-Fault c = λ given. IsJudgeReply.no_value c.in-Fault.fault
    (c.args.text.now, (given, subst (λ (i : Input WrittenTree). IsInput tree_at c.args.text.now i) c.in-Fault.is c.in_ok-tree.ensures))
    refl
