use Rattle.std.proofs.Common.{◌∙◌, arith, ap, length, get_or, refl, vec_len}
use Rattle.lalrpop_lexer_nfa.specs.Paths.{nfa_view}
use Rattle.lalrpop_lexer_nfa.proofs.NfaLemmas.{leads_inside}
use Rattle.lalrpop_lexer_nfa.proofs.PlaceLemmas.{at_most}
use Rattle.lalrpop_lexer_nfa.proofs.SetLemmas.{closing_start, closing_more, closing_end, targets_inside}
use Rattle.lalrpop_lexer_nfa.proofs.automaton.Nfa.close.Goals as goal

pub loop-done-init : goal.loop-done-init
loop-done-init c = record { closing = closing_start _ _; inside = c.requires.inside; bound = refl }

pub loop-done-preserved : goal.loop-done-preserved
loop-done-preserved c =
    let h = c.in_ok-insert_targets.ensures.targets in
    record {
      closing = closing_more (nfa_view c.args.self.now) _ _ _ c.loop-done.done _
          (omega (arith, c.loop-done-test.true, ap length c.members.ensures.members))
          (ap (λ xs. get_or xs c.loop-done.done 0) c.members-in-loop-done.ensures.members) c.loop-done.invariant.closing h;
      inside = targets_inside _ (nfa_view c.args.self.now) _ _ _ h (leads_inside c.args.self.now _) c.loop-done.invariant.inside;
      bound = c.insert_targets.ensures.bound ∙ c.loop-done.invariant.bound;
    }

pub returns-clause-closed : goal.returns-clause-closed
returns-clause-closed c =
    closing_end _ _ _ c.loop-done.done (omega (arith, c.loop-done-test.false, ap length c.members.ensures.members))
    c.loop-done.invariant.closing

pub loop-done-smaller : goal.loop-done-smaller
loop-done-smaller c =
    let set = c.loop-done.set in
    omega (
      arith,
      at_most set.members.items set.places.items (vec_len set.places) set.placed set.below,
      c.loop-done-test.true,
      ap length c.members.ensures.members,
      c.insert_targets.ensures.bound,
    )
