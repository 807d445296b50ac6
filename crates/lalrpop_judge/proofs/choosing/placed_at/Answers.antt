use Rattle.lalrpop_judge.proofs.PlaceLemmas.{is_placed, none_placed}
use Rattle.lalrpop_judge.proofs.choosing.placed_at.Goals as goal

pub returns-in-Some-choice_at : goal.returns-in-Some-choice_at
returns-in-Some-choice_at c =
    is_placed c.args.rules.now c.args.name.now c.args.place (record { rule = c.in-Some.rule; choice = c.in-Some-choice_at.choice })
    c.in-Some.ensures c.in-Some-choice_at.ensures

pub returns-in-None : goal.returns-in-None
returns-in-None c = none_placed c.args.rules.now c.args.name.now c.args.place c.in-Some.rule.now c.in-Some.ensures c.in-None.ensures
