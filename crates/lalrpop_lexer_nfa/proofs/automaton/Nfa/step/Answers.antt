use Rattle.std.proofs.Common.{◌<◌, ◌∙◌, arith, vec_len, get_or}
use Rattle.std.proofs.lemmas.List.{take_more, take_all}
use Rattle.std.proofs.lemmas.List.Elements.{Contains-get_or, All-get_or}
use Rattle.lalrpop_lexer_nfa.specs.Paths.{nfa_view}
use Rattle.lalrpop_lexer_nfa.proofs.NfaLemmas.{reads_inside}
use Rattle.lalrpop_lexer_nfa.proofs.ReadLemmas.{read_none, read_more, step_from_read}
use Rattle.lalrpop_lexer_nfa.proofs.automaton.Nfa.step.Goals as goal

pub loop-i-init : goal.loop-i-init
loop-i-init c = record { read = read_none _ _ _ c.clear.ensures.members; bound = c.clear.ensures.bound }

pub loop-i-preserved : goal.loop-i-preserved
loop-i-preserved c = record {
  read = rw (take_more c.members-from.result.now c.loop-i.i 0 (omega arith))
      (read_more _ _ _ _ _ _ c.loop-i.invariant.read c.in_ok-insert_read.ensures.read);
  bound = c.insert_read.ensures.bound ∙ c.loop-i.invariant.bound;
}

pub insert_read-requires-clause-state : goal.insert_read-requires-clause-state
insert_read-requires-clause-state c =
    All-get_or (λ q. q < vec_len c.args.self.now.states) c.members-from.result.now c.loop-i.i 0 (omega arith)
    (rw c.members-from.ensures.members c.requires.inside)

pub close-requires-clause-inside : goal.close-requires-clause-inside
close-requires-clause-inside c k d l =
    let x = c.loop-i.invariant.read.only (get_or c.loop-i.next.members.items k d) (Contains-get_or c.loop-i.next.members.items k d l) in
    reads_inside c.args.self.now x.0 _ (get_or c.loop-i.next.members.items k d) x.2

pub returns-clause-step : goal.returns-clause-step
returns-clause-step c =
    rw (← c.members-from.ensures.members, ← take_all c.loop-i.i c.members-from.result.now (omega arith))
    (step_from_read (nfa_view c.args.self.now) _ _ _ _ c.loop-i.invariant.read c.in_ok-close.ensures.closed)
