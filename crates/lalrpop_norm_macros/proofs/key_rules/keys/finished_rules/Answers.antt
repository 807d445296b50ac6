use Rattle.std.proofs.Common.{map}
use Rattle.lalrpop_grammar_symbols.specs.Views.{span_view}
use Rattle.lalrpop_grammar.specs.Views.{grammar_view, nonterminal_view}
use Rattle.lalrpop_grammar_rules.specs.Views.{closed_view}
use Rattle.lalrpop_grammar_symbols.proofs.BoolLemmas.{ok_from}
use Rattle.lalrpop_norm_macros.proofs.ConversionLemmas.{finished_of, told_of}
use Rattle.lalrpop_norm_macros.proofs.key_rules.keys.finished_rules.Goals as goal

pub returns-clause-made : goal.returns-clause-made
returns-clause-made g c =
    ok_from _ _ c.all_key_rules.result
    (λ made m. finished_of c.args.tables.now (g.F.Finder.finds c.args.finder.now) (grammar_view c.args.grammar.now) c.args.spans.now
    (span_view c.args.grammar.now.span) (map closed_view c.keys-keys.result.now) c.requires.of_grammar c.requires.written
    c.keys-keys.ensures
    (map nonterminal_view made) m)
    c.all_key_rules.ensures.made

pub returns-clause-fault : goal.returns-clause-fault
returns-clause-fault g c =
    told_of c.args.tables.now (g.F.Finder.finds c.args.finder.now) (g.F.Finder.too_deep c.args.finder.now)
    (grammar_view c.args.grammar.now) (map closed_view c.keys-keys.result.now) c.requires.of_grammar c.requires.written c.keys-keys.ensures
    c.all_key_rules.result c.all_key_rules.ensures.fault
