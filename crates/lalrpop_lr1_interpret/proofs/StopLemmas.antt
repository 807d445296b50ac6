-- Where a run stops, and what is answered then: for parsing.
use Rattle.std.proofs.Common.{◌≡◌, ℕ, zero, suc, ◌<◌, ◌≤◌, List, [], ◌∷◌}
use Rattle.std.proofs.Common.{length, drop, ap, sym, refl, subst, arith, Contains}
use Rattle.std.proofs.Common.{Err, length-append, true}
use Rattle.std.proofs.lemmas.List.{length-drop, length-map}
use Rattle.lalrpop_grammar.specs.Trees.{Token as WholeToken}
use Rattle.lalrpop_grammar.specs.declared.token.ScanToken.{ScanToken}
use Rattle.lalrpop_grammar_symbols.specs.Symbols.{Terminal, Text}
use Rattle.lalrpop_grammar_symbols.specs.Views.{terminal_view}
use Rattle.lalrpop_lr1_theory.specs.Answers.{IsRightParseAnswer, over_limit, wrong_end, wrong_token}
use Rattle.lalrpop_lr1_theory.specs.CheckedStates.{AreCheckedStates, IsStartAlone}
use Rattle.lalrpop_lr1_theory.specs.Productions.{Production}
use Rattle.lalrpop_lr1_theory.specs.Runs.{Allows, RunsOver, Stops}
use Rattle.lalrpop_lr1_theory.specs.Productions.{first}
use Rattle.lalrpop_lr1_theory.specs.Spans.{SpannedForest}
use Rattle.lalrpop_lr1_theory.specs.States.{HasEdge, HasItem, Reduces, State}
use Rattle.lalrpop_lr1_theory.specs.Trees.{Move, none, yield}
use Rattle.lalrpop_lr1_theory.proofs.AnswerLemmas.{ends_right}
use Rattle.lalrpop_lr1_theory.proofs.CheckedLemmas.{checked_automaton}
use Rattle.lalrpop_lr1_theory.proofs.SoundnessLemmas.{runs_yield}
use Rattle.lalrpop_lr1_interpret.specs.Ends.{IsEndOfRun, terminals_of}
use Rattle.lalrpop_lr1_interpret.specs.Outcomes.{IsStuckAt}
use Rattle.lalrpop_lr1_interpret.specs.Parses.{IsRightStop, IsStopOf}
use Rattle.lalrpop_lr1_interpret.specs.declared.parse.machine.Halt.{Halt}
use Rattle.lalrpop_lr1_interpret.specs.declared.parse.machine.Halt.TheVariants as halts
use Rattle.lalrpop_lr1_interpret.specs.declared.parse.stop.Stop.{Stop}
use Rattle.lalrpop_lr1_interpret.specs.declared.parse.stop.Stop.TheVariants.{End, Limit, Memory, Token}

drop_first : (w : List Terminal) (at : ℕ) → at < length w → (t : Terminal) × (u : List Terminal) × (drop at w ≡ t ∷ u)
drop_first [] at h = absurd (omega arith)
drop_first (x ∷ w) zero h = (x, w, refl)
drop_first (x ∷ w) (suc at) h = drop_first w at (omega arith)

drop_all : (w : List Terminal) (at : ℕ) → length w ≤ at → drop at w ≡ []
drop_all [] zero h = refl
drop_all [] (suc at) h = refl
drop_all (x ∷ w) zero h = absurd (omega arith)
drop_all (x ∷ w) (suc at) h = drop_all w at (omega arith)

module _ (grammar : List Production) (s : Text) (states : List State) (alone : IsStartAlone grammar s)
    (ok : AreCheckedStates grammar s states) (w : List Terminal) (at state limit : ℕ) (stuck : IsStuckAt states w limit at state) where
  -- a stuck run has shifted the tokens before its place
  shifted : at ≡ length (yield stuck.made)
  shifted =
      let y = ap length (runs_yield (Contains grammar) s (HasItem states) (HasEdge states) (Reduces states)
      (checked_automaton grammar s states ok) stuck.moves none w stuck.made (drop at w) stuck.run) in
      omega (arith, y, length-append (yield stuck.made) (drop at w), length-drop at w, stuck.within)

  stops_before : (v : List Terminal) → drop at w ≡ v → Stops states w stuck.made v
  stops_before v e = record {
    moves = stuck.moves;
    state = state;
    run = subst (RunsOver states stuck.moves w stuck.made) e stuck.run;
    walk = stuck.walk;
    none_allowed = subst (λ x. (m : Move) → Allows (HasEdge states) (Reduces states) state (first x) m → ⊥) e stuck.none_allowed;
  }

  pub token_right : at < length w → IsRightParseAnswer (Contains grammar) s w limit (wrong_token at)
  token_right h =
      let d = drop_first w at h in
      ends_right grammar s states alone ok w limit (wrong_token at)
      (record { made = stuck.made; token = d.0; left = d.1; stops = stops_before (d.0 ∷ d.1) d.2; place = shifted })

  pub end_right : length w ≤ at → IsRightParseAnswer (Contains grammar) s w limit wrong_end
  end_right h = ends_right grammar s states alone ok w limit wrong_end (stuck.made, stops_before [] (drop_all w at h))

-- what is answered where the machine halts is right
pub stop_right : (grammar : List Production) (s : Text) (states : List State) → IsStartAlone grammar s →
    AreCheckedStates grammar s states → (tokens : List ScanToken) (limit : ℕ)
    (Made : SpannedForest → List WholeToken → Type 0) (halt : Halt) (stop : Stop) →
    IsEndOfRun states s tokens limit true Made (Err halt) → IsStopOf (length tokens) halt stop →
    IsRightStop grammar s tokens limit stop
stop_right grammar s states alone ok tokens limit Made (halts.Stuck at state) (Token i) e h =
    subst (λ k. IsRightParseAnswer (Contains grammar) s (terminals_of tokens) limit (wrong_token k)) h.0
    (token_right grammar s states alone ok (terminals_of tokens) at state limit e.0
    (omega (arith, h.1, length-map tokens (λ t. terminal_view t.terminal))))
stop_right grammar s states alone ok tokens limit Made (halts.Stuck at state) End e h =
    end_right grammar s states alone ok (terminals_of tokens) at state limit e.0
    (omega (arith, h, length-map tokens (λ t. terminal_view t.terminal)))
stop_right grammar s states alone ok tokens limit Made (halts.Stuck at state) Limit e h = absurd h
stop_right grammar s states alone ok tokens limit Made (halts.Stuck at state) Memory e h = absurd h
stop_right grammar s states alone ok tokens limit Made halts.Limit stop e h =
    subst (IsRightStop grammar s tokens limit) (sym h)
    (ends_right grammar s states alone ok (terminals_of tokens) limit over_limit e)
stop_right grammar s states alone ok tokens limit Made halts.Memory stop e h =
    subst (IsRightStop grammar s tokens limit) (sym h) tt
