use Rattle.std.proofs.Common.{◌<◌, ◌∙◌, arith, vec_len}
use Rattle.std.proofs.lemmas.List.{take_all}
use Rattle.lalrpop_lexer_nfa.specs.Paths.{nfa_view}
use Rattle.lalrpop_lexer_nfa.proofs.SetLemmas.{Inserts-all}
use Rattle.lalrpop_lexer.proofs.StatesLemmas.{IsEpsilonClosure-along, same_members_more}
use Rattle.lalrpop_lexer.proofs.states.close_kernel.Goals as goal

pub loop-i-preserved : goal.loop-i-preserved
loop-i-preserved c =
    let one = c.in_ok-insert.ensures.members in
    record {
      same = same_members_more _ _ c.args.kernel.now c.loop-i.i (omega arith) c.loop-i.invariant.same one;
      inside = Inserts-all (λ q. q < vec_len c.args.nfa.now.states) _ _ _ one c.loop-i.invariant.inside
          (c.requires.inside c.loop-i.i 0 (omega arith));
      bound = c.insert.ensures.bound ∙ c.loop-i.invariant.bound;
    }

pub returns-clause-closed : goal.returns-clause-closed
returns-clause-closed c =
    let all = take_all c.loop-i.i c.args.kernel.now (omega arith) in
    IsEpsilonClosure-along (nfa_view c.args.nfa.now) _ _ _ (λ x h. rw all at ((c.loop-i.invariant.same x).0 h))
    (λ x h. (c.loop-i.invariant.same x).1 (rw all h)) c.in_ok-close.ensures.closed
