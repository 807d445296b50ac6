use Rattle.std.proofs.Common.{sym, ◌∙◌, rules}
use Rattle.std.specs.Prelude.{option_map}
use Rattle.lalrpop_grammar_language.specs.Admitting.{AtMost, rank_level}
use Rattle.lalrpop_grammar_rules.specs.Ranks.{rank_view}
use Rattle.lalrpop_judge.proofs.ChoiceLemmas.{by_condition, no_difference, not_as_many}
use Rattle.lalrpop_judge.proofs.WalkLemmas.{never}
use Rattle.lalrpop_judge.proofs.choosing.may_stand.Goals as goal

pub returns-then-given-parameters-clause-exact : goal.returns-then-given-parameters-clause-exact
returns-then-given-parameters-clause-exact g c = (
  λ e. never e,
  λ s. absurd (not_as_many c.args.rules.now c.args.name.now c.args.place c.args.placed c.requires c.args.given.now c.args.level
      (g.F.Finder.finds c.args.finder.now)
      (rw c.as_slice-parameters.ensures at c.if-given-parameters.true) s),
)

pub returns : goal.returns
returns g c =
    let low : AtMost (rank_level (option_map rank_view c.args.placed.choice.now.rank)) c.args.level = search rules in
    record {
      exact = by_condition c.args.rules.now c.args.name.now c.args.place c.args.placed c.requires c.args.given.now c.args.level
          (g.F.Finder.finds c.args.finder.now)
          c.in_ok-yes.yes (rw c.as_slice-parameters.ensures at c.if-given-parameters.false)
          (sym c.is_some.ensures ∙ no_difference c.is_some.result c.args.placed.rule.now.has_levels c.if-is_some-placed.false) low
          (rw c.as_slice-parameters.ensures at c.in_ok-yes.ensures.exact);
      fault = tt;
    }
