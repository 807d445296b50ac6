use Rattle.lalrpop_grammar_symbols.specs.declared.names.NonterminalString.{NonterminalString}
use Rattle.lalrpop_grammar_rules.proofs.StartLemmas.{none-by}
use Rattle.lalrpop_grammar_rules.proofs.start.has_no_parameters.Goals as goal

pub returns : goal.returns
returns c = none-by (λ (n : NonterminalString). n.0) c.args.rule.now.args c.is_empty.result c.is_empty.ensures
