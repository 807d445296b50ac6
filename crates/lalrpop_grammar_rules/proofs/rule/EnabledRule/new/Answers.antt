use Rattle.lalrpop_grammar_rules.proofs.RankLemmas.{kept}
use Rattle.lalrpop_grammar_rules.proofs.rule.EnabledRule.new.Goals as goal

pub returns : goal.returns
returns c =
    kept c.args.features.now c.args.written.now c.has_levels-has_levels.result c.in_ok-ranked.ranked c.in_ok-levels.levels.items
    c.greatest-loosest.result c.in_ok-choices.choices
    (rw c.as_slice-alternatives.ensures at c.has_levels-has_levels.ensures)
    (rw c.as_slice-alternatives.ensures at c.in_ok-ranked.ensures)
    (rw c.as_slice.ensures at c.in_ok-levels.ensures.same)
    (rw c.as_slice-2.ensures.value at c.greatest-loosest.ensures)
    (rw (c.as_slice-3.ensures, c.as_slice-4.ensures.value) at c.in_ok-choices.ensures)
