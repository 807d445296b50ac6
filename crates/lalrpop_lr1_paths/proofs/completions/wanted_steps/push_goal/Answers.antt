use Rattle.std.proofs.Common.{inl, inr, refl}
use Rattle.lalrpop_lr1_paths.proofs.completions.wanted_steps.push_goal.Goals as goal

pub returns-in_default-begin_rest_count : goal.returns-in_default-begin_rest_count
returns-in_default-begin_rest_count c =
    inr (record { same = refl; never = λ g of there. c.in_default-begin_rest_count.ensures g of })

pub returns : goal.returns
returns c =
    inl (record {
      goal = _;
      numbers = c.in_ok-push.ensures.items;
      goals = c.in_ok-push-2.ensures.items;
      node = refl;
      onward = c.in-Some.ensures;
      begins = λ g of. (c.in-Some-begin_rest_count.ensures g of).rest;
    })
