use Rattle.lalrpop_lexer_nfa.proofs.CoverLemmas.{reaches_more}
use Rattle.lalrpop_lexer_nfa.proofs.overlap.furthest_ends.Goals as goal

pub loop-i-preserved : goal.loop-i-preserved
loop-i-preserved c =
    rw c.in_ok-push.ensures.items
    (reaches_more c.args.ordered.now c.loop-i.ends.items c.loop-i.i c.loop-i.furthest c.max-furthest.result c.max-furthest.ensures
    c.loop-i.invariant)
