use Rattle.std.proofs.Common.{ap, subst}
use Rattle.lalrpop_grammar.specs.Views.{grammar_view}
use Rattle.lalrpop_norm_tyinfer.specs.TypesByTable.{known_names}
use Rattle.lalrpop_norm_tyinfer.specs.Equations.{AllAgree, type_equations}
use Rattle.lalrpop_norm_tyinfer.specs.ProgramViews.{IsRightTable, rule_types}
use Rattle.lalrpop_norm_tyinfer.proofs.UntypedLemmas.{none_stands, rules_typed}
use Rattle.lalrpop_norm_tyinfer.proofs.infer.rule_types.Goals as goal

pub check_typed-requires-clause-right : goal.check_typed-requires-clause-right
check_typed-requires-clause-right c =
    subst (λ g. IsRightTable g (rule_types c.in_ok-table.table)) (ap grammar_view c.in_ok-names.ensures) c.in_ok-table.ensures.right

pub returns-clause-types : goal.returns-clause-types
returns-clause-types c =
    let g = grammar_view c.args.grammar.now in
    let same = ap grammar_view c.in_ok-names.ensures in
    let table = c.in_ok-table.table in
    rules_typed g table (subst (λ g. IsRightTable g (rule_types table)) same c.in_ok-table.ensures.right)
    (subst (λ g. AllAgree (known_names g) (rule_types table) (type_equations g)) same c.in_ok-table.ensures.agree)
    c.in_ok-check_typed.ensures.typed

pub returns-clause-none : goal.returns-clause-none
returns-clause-none c =
    let g = grammar_view c.args.grammar.now in
    let same = ap grammar_view c.in_ok-names.ensures in
    let table = c.in_ok-table.table in
    none_stands g table (subst (λ g. IsRightTable g (rule_types table)) same c.in_ok-table.ensures.right)
    (subst (λ g. AllAgree (known_names g) (rule_types table) (type_equations g)) same c.in_ok-table.ensures.agree)
    c.in_ok-check_typed.ensures.typed
