use Rattle.std.proofs.Common.{sym}
use Rattle.lalrpop_grammar.specs.Views.{grammar_view, nonterminal_view}
use Rattle.lalrpop_norm_tyinfer.specs.ProgramViews.{rule_types}
use Rattle.lalrpop_norm_tyinfer.proofs.UntypedLemmas.{first_told, part_told}
use Rattle.lalrpop_norm_tyinfer.proofs.untyped.check_typed.Goals as goal

pub returns-in-Some-clause-fault : goal.returns-in-Some-clause-fault
returns-in-Some-clause-fault c =
    first_told (grammar_view c.args.grammar.now) (rule_types c.args.table.now) c.requires.right c.requires.agree
    (nonterminal_view c.in-Some.rule.now) c.no_type.result (sym c.in-Some.ensures) c.no_type.ensures

pub returns-in-Some-first_untyped-clause-fault : goal.returns-in-Some-first_untyped-clause-fault
returns-in-Some-first_untyped-clause-fault c =
    part_told (grammar_view c.args.grammar.now) (rule_types c.args.table.now) c.requires.right c.requires.agree
    (nonterminal_view c.in-Some-first_untyped.rule.now) c.no_type-in-Some-first_untyped.result (sym c.in-None.ensures)
    (sym c.in-Some-first_untyped.ensures) c.no_type-in-Some-first_untyped.ensures
