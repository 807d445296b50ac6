use Rattle.std.proofs.Common.{◌++◌, ◌∙◌, ap, sym, map, arith, append-nil}
use Rattle.std.specs.Prelude.{None, option_map}
use Rattle.std.proofs.lemmas.List.{drop_all}
use Rattle.lalrpop_grammar.specs.Views.{alternative_view, nonterminal_view}
use Rattle.lalrpop_grammar_rules.specs.Ranks.{rank_view}
use Rattle.lalrpop_norm_precedence.proofs.RankLevelLemmas.{levels_from, levels_written}
use Rattle.lalrpop_norm_precedence.proofs.level_names.order.written_levels.Goals as goal

pub returns : goal.returns
returns c =
    let r = nonterminal_view c.args.rule.now in
    let alts = c.as_slice-alternatives.result.now in
    let i = c.loop-alternative.alternative-index in
    let found = c.loop-alternative.found.items in
    sym (levels_written r
    ∙ ap (λ l. levels_from None (map alternative_view l)) (sym c.as_slice-alternatives.ensures)
    ∙ c.loop-alternative.invariant
    ∙ ap (λ l. found ++ levels_from (option_map rank_view c.loop-alternative.last) (map alternative_view l))
    (drop_all i alts (omega (arith, c.loop-alternative-test.false)))
    ∙ append-nil found)
