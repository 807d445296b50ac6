-- What a round of merges makes of states that conflict: states with more copies, reducing before just what is carried. For states by lanes.
use Rattle.std.proofs.Common.{◌≡◌, ℕ, ◌+◌, ◌-◌, ◌<◌, List, [], ◌∷◌, length, arith, subst}
use Rattle.lalrpop_grammar_symbols.specs.Symbols.{Text}
use Rattle.lalrpop_grammar_repr.specs.declared.grammar.Grammar.{Grammar}
use Rattle.lalrpop_grammar_repr.specs.declared.terminal_set.TerminalSet.{TerminalSet}
use Rattle.lalrpop_lr1_theory.specs.Laws.{HaveNoConflict}
use Rattle.lalrpop_lane_theory.specs.CarriedConflicts.{HaveNoCarriedConflict}
use Rattle.lalrpop_lr1_core.specs.TheoryGrammars.{theory_grammar}
use Rattle.lalrpop_lr1_core.specs.declared.state.State.{State}
use Rattle.lalrpop_lr1_first.specs.NumberedGrammars.{HasItsTerminals}
use Rattle.lalrpop_lr1_build.specs.CollapseAnswers.{states_over}
use Rattle.lalrpop_lr1_check_lookaheads.specs.LookaheadFlows.{HaveKnownItems}
use Rattle.lalrpop_lane.specs.LaneStates.{AreReducedStates, AreSpreadOverLr0, ReduceBeforeCarried}
use Rattle.lalrpop_lane.specs.Merges.{HaveOneEdgeEach, MergesKeep}
use Rattle.lalrpop_lane.specs.Rounds.{AreInRounds}
use Rattle.lalrpop_lane.proofs.LaneStateLemmas.{before_reduced, no_conflict_from, spread_known}
use Rattle.lalrpop_lane.proofs.MergedLaneLemmas.{merged_originals, merged_spread}

-- states that conflict are some
some_conflict : (ts : TerminalSet) (states : List (State (List ℕ))) → (HaveNoConflict (states_over ts states) → ⊥) → 0 < length states
some_conflict ts [] conflict = absurd (conflict (λ n state e. let w : ⊥ = cc in absurd w))
some_conflict ts (state ∷ states) conflict = omega arith

module _ (g : Grammar) (own : HasItsTerminals g) (s : Text) (used left more now : ℕ) (old copied : List (State (List ℕ)))
    (reduced : AreReducedStates g s used old) (conflict : HaveNoConflict (states_over g.terminals old) → ⊥) (once : HaveOneEdgeEach old)
    (keeps : MergesKeep old left copied now) (counted : used + left ≡ more + now) where
  abbrev some : 0 < length old
  some = some_conflict g.terminals old conflict

  abbrev spread : AreSpreadOverLr0 g s more copied
  spread = merged_spread g s used left now old copied reduced.states_are some once keeps more counted

  -- in their items stand terminals of the grammar alone
  pub round_known : HaveKnownItems g.terminals copied
  round_known = spread_known g own s more copied spread

  pub round_reduced : (new : List (State (List ℕ))) → ReduceBeforeCarried g s copied new → AreReducedStates g s more new
  round_reduced new before =
      before_reduced g own s copied new before more spread
      (λ free. absurd (conflict (no_conflict_from g own s used old reduced
      (subst (HaveNoCarriedConflict (theory_grammar g) s)
      (merged_originals g s used left now old copied reduced.states_are some once keeps more counted) free))))

-- fewer copies may still be made where more were
pub more_used : (used left now : ℕ) → now < left → (more : ℕ) × (used + left ≡ more + now)
more_used used left now h = (used + (left - now), omega (arith, h))

module _ (g : Grammar) (s : Text) where
  -- a round leaves states for the next one
  pub rounds_on : (copies left now : ℕ) (old new : List (State (List ℕ))) → AreInRounds g s copies left old → now < left →
      ((used more : ℕ) → AreReducedStates g s used old → used + left ≡ more + now → AreReducedStates g s more new) →
      AreInRounds g s copies now new
  rounds_on copies left now old new are fewer on =
      let more = more_used are.used left now fewer in
      let counted = are.counted in
      let both = more.1 in
      record { used = more.0; counted = omega (arith, counted, both); reduced = on are.used more.0 are.reduced more.1 }

  -- at most as many copies were made as might be
  pub rounds_within : (copies left : ℕ) (all : List (State (List ℕ))) → AreInRounds g s copies left all → AreReducedStates g s copies all
  rounds_within copies left all are =
      let own = are.reduced.states_are in
      let most = own.most in
      let counted = are.counted in
      record {
        states_are = record {
          originals = own.originals;
          origin = own.origin;
          lr0 = own.lr0;
          spread = own.spread;
          finished = own.finished;
          once = own.once;
          least = own.least;
          most = omega (arith, most, counted);
        };
        carried = are.reduced.carried;
        tokens = are.reduced.tokens;
        needed = are.reduced.needed;
      }
