use Rattle.std.proofs.Common.{map}
use Rattle.lalrpop_grammar_symbols.specs.Views.{symbol_view}
use Rattle.lalrpop_grammar_rules.specs.Ranks.{assoc_view}
use Rattle.lalrpop_norm_precedence.specs.NamedAlternatives.{naming_view}
use Rattle.lalrpop_norm_precedence.proofs.AlternativeLemmas.{renamed_by_count}
use Rattle.lalrpop_norm_precedence.proofs.levels.alternatives.renamed_symbols.Goals as goal

pub returns : goal.returns
returns c =
    renamed_by_count c.rename_each.result (naming_view c.args.names.now) (assoc_view c.args.side) (map symbol_view c.args.symbols.now)
    c.in_ok-count.count _ c.in_ok-count.ensures c.rename_each.ensures
