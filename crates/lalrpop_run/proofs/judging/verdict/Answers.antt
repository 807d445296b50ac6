use Rattle.std.proofs.Common.{refl, subst, List, ℕ}
use Rattle.std.specs.Prelude.{◌↔◌, IsTrue}
use Rattle.lalrpop_grammar.specs.Trees.{leaves}
use Rattle.lalrpop_grammar.specs.Views.{grammar_view, tree_view}
use Rattle.lalrpop_grammar_language.specs.Admitting.{AdmitsFrom}
use Rattle.lalrpop_grammar_language.specs.Enabled.{enabled_grammar}
use Rattle.lalrpop_judge.specs.Faults.{HasSearch}
use Rattle.lalrpop_grammar_rules.specs.Search.{finds}
use Rattle.lalrpop_run.specs.Judge.{IsJudgeReply}
use Rattle.lalrpop_run.proofs.judging.verdict.Goals as goal

pub returns-in-Ok : goal.returns-in-Ok
returns-in-Ok c =
    let g = grammar_view c.args.grammar.now in
    let start = c.args.question.now.start in
    let t = tree_view c.args.tree.now in
    λ gives. IsJudgeReply.judged c.args.tree.now c.in-Ok.admitted gives
    (subst (λ (fs : List (List ℕ)). IsTrue c.in-Ok.admitted ↔ AdmitsFrom finds fs g start t (leaves t))
    c.as_slice.ensures.value c.in-Ok.ensures.exact) refl

pub returns-in-Err-Condition : goal.returns-in-Err-Condition
returns-in-Err-Condition c =
    let g = grammar_view c.args.grammar.now in
    let t = tree_view c.args.tree.now in
    λ gives. IsJudgeReply.unsearched c.args.tree.now gives
    (subst (λ (fs : List (List ℕ)). HasSearch (enabled_grammar finds fs g) t) c.as_slice.ensures.value
    (c.in-Err-Condition.ensures.condition c.in-Err-Condition.field-0-is)) refl
