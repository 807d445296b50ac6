use Rattle.std.proofs.Common.{rules}
use Rattle.lalrpop_grammar_symbols.specs.declared.names.NonterminalString.{NonterminalString}
use Rattle.lalrpop_grammar_repr.specs.declared.production.NonterminalData.{NonterminalData}
use Rattle.lalrpop_plain_tables.specs.KnownTerminals.{AreKnownIn}
use Rattle.lalrpop_plain_tables.proofs.TerminalLemmas.{known_tell, none_tells, rest_tells}
use Rattle.lalrpop_plain_tables.proofs.answers.own_terminals.are_known.Goals as goal

pub loop-data-preserved : goal.loop-data-preserved
loop-data-preserved c =
    rest_tells (λ (e : NonterminalString × NonterminalData). AreKnownIn c.args.grammar.now.terminals e.1.productions)
    (c.in-Some.field-0-0.now, c.in-Some.data.now) c.loop-data.data-iterator c.next.new.self c.args.grammar.now.nonterminals
    (search rules) (search rules) c.loop-data.invariant

pub returns : goal.returns
returns c =
    λ t. known_tell c.args.grammar.now
    (none_tells (λ (e : NonterminalString × NonterminalData). AreKnownIn c.args.grammar.now.terminals e.1.productions)
    c.loop-data.data-iterator c.args.grammar.now.nonterminals c.in-None.ensures.steps.0 c.loop-data.invariant)
