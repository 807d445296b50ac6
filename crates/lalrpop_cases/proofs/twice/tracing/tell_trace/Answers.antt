use Rattle.std.proofs.Common.{◌≡◌, ◌∙◌, Bool, true, false, IsTrue, List, [], ℕ, refl, sym}
use Rattle.lalrpop_lr1_theory.specs.States.{LookaheadSet}
use Rattle.lalrpop_cases.proofs.twice.tracing.tell_trace.Goals as goal

abbrev no_look : List ℕ → LookaheadSet
no_look set = record { nexts = []; error = false }

unrefused : (refused : Bool) → (IsTrue refused → false ≡ true) → refused ≡ false
unrefused true never = sym (never refl)
unrefused false never = refl

pub returns-in_err-println-in-Ok : goal.returns-in_err-println-in-Ok
returns-in_err-println-in-Ok g c now =
    (c.in-Ok.ensures.traced no_look).conflicts ∙ c.requires (unrefused c.args.tracer.now.refused c.in-Ok.ensures.given)

pub returns-in_ok-println-in-Ok : goal.returns-in_ok-println-in-Ok
returns-in_ok-println-in-Ok g c now =
    (c.in-Ok.ensures.traced no_look).conflicts ∙ c.requires (unrefused c.args.tracer.now.refused c.in-Ok.ensures.given)
