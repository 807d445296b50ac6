use Rattle.std.proofs.Common.{rules}
use Rattle.lalrpop_grammar_repr.proofs.AloneLemmas.{named_here, rest_decides}
use Rattle.lalrpop_grammar_repr.proofs.grammar.Grammar.start_is_alone.Goals as goal

pub returns-then-not-are_free_of : goal.returns-then-not-are_free_of
returns-then-not-are_free_of c =
    named_here c.args.nonterminal.now (c.in-Some.field-0-0.now, c.in-Some.data.now) c.loop-data.data-iterator c.next.new.self
    c.args.self.now.nonterminals (search rules) (search rules) c.loop-data.invariant

pub loop-data-preserved : goal.loop-data-preserved
loop-data-preserved c =
    rest_decides c.args.nonterminal.now (c.in-Some.field-0-0.now, c.in-Some.data.now) c.loop-data.data-iterator c.next.new.self
    c.args.self.now.nonterminals (search rules) (search rules) c.loop-data.invariant
