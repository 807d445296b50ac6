use Rattle.std.proofs.Common.{inl, inr, refl, subst, sym}
use Rattle.lalrpop_lr1_first.specs.NumberedGrammars.{IsNumberTableOf}
use Rattle.lalrpop_lr1_least_trees.specs.declared.least_trees.LeastTrees.{LeastTrees}
use Rattle.lalrpop_lr1_paths.proofs.completion_steps.completion_graphs.list_empty.Goals as goal

pub returns-in_ok-push-2 : goal.returns-in_ok-push-2
returns-in_ok-push-2 c =
    inl (record {
      edge = c.edge_of_step.result;
      numbers = c.in_ok-push.ensures.items;
      edges = c.in_ok-push-2.ensures.items;
      leads = c.edge_of_step.ensures;
      empty = λ g of. (c.in-Some.ensures g (subst (λ (t : LeastTrees). IsNumberTableOf g t.table) (sym c.trees.ensures) of)).rest;
    })

pub returns-in_default : goal.returns-in_default
returns-in_default c =
    inr (record {
      same = refl;
      never = λ g of. c.in_default.ensures g (subst (λ (t : LeastTrees). IsNumberTableOf g t.table) (sym c.trees.ensures) of);
    })
