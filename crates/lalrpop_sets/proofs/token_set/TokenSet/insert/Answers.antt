use Rattle.std.proofs.Common.{◌||◌, ap, subst}
use Rattle.lalrpop_sets.specs.AscendingLists.{Ascends, has}
use Rattle.lalrpop_sets.specs.Tokens.{is_number, lacks_number}
use Rattle.lalrpop_sets.proofs.TokenSetLemmas.{asc_set}
use Rattle.lalrpop_sets.proofs.token_set.TokenSet.insert.Goals as goal

pub returns-in-None : goal.returns-in-None
returns-in-None c =
    record {
      set = λ j. ap (λ n. is_number n j || has c.args.self.now j) c.in-None.ensures;
      came = ap (lacks_number c.args.self.now) c.in-None.ensures;
      kept = tt;
      ordered = subst Ascends c.self.view_is (asc_set c.self.inside.ranges.items c.self.inside.end _ c.self.invariant);
    }
