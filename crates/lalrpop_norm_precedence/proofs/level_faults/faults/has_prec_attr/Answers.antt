use Rattle.std.proofs.Common.{ap, sym, ◌∙◌, map}
use Rattle.std.specs.List.{list_any}
use Rattle.lalrpop_grammar.specs.Views.{alternative_view, nonterminal_view}
use Rattle.lalrpop_norm_precedence.specs.LevelSearch.{says_level}
use Rattle.lalrpop_norm_precedence.proofs.RankedLemmas.{levels_said}
use Rattle.lalrpop_norm_precedence.proofs.level_faults.faults.has_prec_attr.Goals as goal

pub returns : goal.returns
returns c =
    c.one_says_level.ensures ∙ ap (λ l. list_any says_level (map alternative_view l)) c.as_slice.ensures
    ∙ sym (levels_said (nonterminal_view c.args.rule.now))
