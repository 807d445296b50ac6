use Rattle.std.proofs.Common.{◌∙◌, Option, IfSome, sym, subst}
use denote.Ref.{Bor}
use Rattle.lalrpop_lexer.specs.declared.dead_ends.DeadEnds.{DeadEnds}
use Rattle.lalrpop_lexer.specs.Walks.{AreDeadEnds, IsDeadEndAt}
use Rattle.lalrpop_lexer.proofs.DeadEndLemmas.{found_among, same_pair}
use Rattle.lalrpop_lexer.proofs.dead_ends.is_dead_end.Goals as goal

pub returns-in-Some : goal.returns-in-Some
returns-in-Some c = λ nodes text all e.
    let P : Option (Bor DeadEnds) → Type 0 = λ o. IfSome o (λ ends. AreDeadEnds nodes text ends.now) in
    found_among (IsDeadEndAt nodes text) _ (c.args.state, c.args.left) (λ k same. same_pair (c.args.state, c.args.left) k same)
    c.in-Some.ends.now.noted.keys (subst P c.in-Some.is all) (sym c.contains.ensures ∙ e)
