use Rattle.std.proofs.Common.{◌∙◌, ◌+◌, ◌≤◌, ap, refl, sym, subst}
use Rattle.lalrpop_grammar_repr.specs.Maps.{with_name}
use Rattle.lalrpop_norm_tyinfer.specs.Equations.{type_equations, untyped_equations}
use Rattle.lalrpop_norm_tyinfer.specs.ProgramViews.{IsRightTable, equation_view, grammar_of, rule_types}
use Rattle.lalrpop_norm_tyinfer.proofs.TableLemmas.{fewer_left, right_put}
use Rattle.lalrpop_norm_tyinfer.proofs.search.put_type.Goals as goal

pub returns-clause-right : goal.returns-clause-right
returns-clause-right c =
    let g = grammar_of c.args.given.names.now in
    let e = c.args.equation.now in
    subst (λ es. IsRightTable g (rule_types es))
    (sym (c.in_ok-insert.ensures.ok ∙ ap (λ n. with_name c.args.progress.now.table n c.args.ty) c.in_ok-try_clone.ensures))
    (right_put g (equation_view e) c.requires.of_grammar c.args.progress.now.table e.rule.now.name c.args.ty refl c.requires.right c.requires.gives)

pub returns-clause-fewer : goal.returns-clause-fewer
returns-clause-fewer c =
    let g = grammar_of c.args.given.names.now in
    let e = c.args.equation.now in
    subst
    (λ es. untyped_equations (rule_types es) (type_equations g) + 1
    ≤ untyped_equations (rule_types c.args.progress.now.table) (type_equations g))
    (sym (c.in_ok-insert.ensures.ok ∙ ap (λ n. with_name c.args.progress.now.table n c.args.ty) c.in_ok-try_clone.ensures))
    (fewer_left g (equation_view e) c.requires.of_grammar c.args.progress.now.table e.rule.now.name c.args.ty refl c.requires.gives)
