use Rattle.std.proofs.Common.{◌∙◌, ap, length}
use Rattle.lalrpop_lr1_check.proofs.closure.closure_items.all_have_own_closure.Goals as goal

pub each_has_own_closure-requires-clause-lent : goal.each_has_own_closure-requires-clause-lent
each_has_own_closure-requires-clause-lent c = record {
  of_names = record {
    long = c.in_ok-names.ensures.marks.long ∙ ap length c.names.ensures;
    listed = c.in_ok-names.ensures.marks.listed;
  };
  of_productions = record {
    long = c.in_ok-productions.ensures.marks.long ∙ ap length c.productions.ensures;
    listed = c.in_ok-productions.ensures.marks.listed;
  };
}

pub returns : goal.returns
returns c = c.each_has_own_closure.ensures
