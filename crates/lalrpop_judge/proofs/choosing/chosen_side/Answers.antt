use Rattle.std.proofs.Common.{rules, IsTrue, map}
use Rattle.lalrpop_grammar_rules.specs.Views.{closed_view}
use Rattle.lalrpop_judge.proofs.ChoiceLemmas.{side_of}
use Rattle.lalrpop_judge.proofs.choosing.chosen_side.Goals as goal

pub returns-clause-some : goal.returns-clause-some
returns-clause-some g c =
    let stands : IsTrue c.in_ok-may_stand.field-0 = search rules in
    side_of c.args.rules.now c.args.name.now c.args.place c.in-Some.placed c.in-Some.ensures c.args.given.now c.args.level
    (g.F.Finder.finds c.args.finder.now) (map closed_view c.in_ok-side.side) (c.in_ok-may_stand.ensures.exact.0 stands)
    (c.in_ok-side.ensures (g.F.Finder.finds c.args.finder.now))
