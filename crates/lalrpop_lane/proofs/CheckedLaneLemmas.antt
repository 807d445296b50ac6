-- States by lanes may be parsed with, and are as many as those without lookaheads where these are enough. For the builder of LR(1) states.
use Rattle.std.proofs.Common.{◌∙◌, ℕ, List, Contains, subst, sym}
use Rattle.lalrpop_grammar_symbols.specs.Symbols.{Text}
use Rattle.lalrpop_grammar_repr.specs.declared.grammar.Grammar.{Grammar}
use Rattle.lalrpop_lr1_theory.specs.CheckedStates.{AreCheckedStates, IsStartAlone}
use Rattle.lalrpop_lr1_theory.specs.ValidItems.{NoneBarren}
use Rattle.lalrpop_lr1_theory.specs.ValidCores.{CountsCoreSets}
use Rattle.lalrpop_lr1_theory.proofs.Lr0CoreLemmas.{states_counted}
use Rattle.lalrpop_lane_theory.proofs.CarriedLemmas.{carried_checked}
use Rattle.lalrpop_lane_theory.proofs.FewestLemmas.{as_many}
use Rattle.lalrpop_lane_theory.proofs.Lalr1Lemmas.{lr0_lalr1}
use Rattle.lalrpop_lane_theory.proofs.LaneLemmas.{lr0_reached}
use Rattle.lalrpop_lr1_core.specs.TheoryGrammars.{theory_grammar}
use Rattle.lalrpop_lr1_core.specs.declared.state.State.{State}
use Rattle.lalrpop_lr1_first.specs.NumberedGrammars.{HasItsTerminals}
use Rattle.lalrpop_lr1_build.specs.CollapseAnswers.{states_over}
use Rattle.lalrpop_lr1_check.specs.StatesOver.{AreStatesOver}
use Rattle.lalrpop_lane.specs.BuilderAnswers.{AreCheckedByLanes}
use Rattle.lalrpop_lane.specs.LaneStates.{AreLaneStates}
use Rattle.lalrpop_lane.proofs.LaneStateLemmas.{spread_known}
use Rattle.lalrpop_lane.proofs.TargetLemmas.{cover_within}

module _ (g : Grammar) (own : HasItsTerminals g) (s : Text) (copies : ℕ) (all : List (State (List ℕ))) (are : AreLaneStates g s copies all) where
  -- they are over the grammar's terminals
  pub lane_over : AreStatesOver g.terminals all
  lane_over = record { items = spread_known g own s copies all are.reduced.states_are; reductions = are.reduced.tokens }

  pub lane_checked : NoneBarren (Contains (theory_grammar g)) s → IsStartAlone (theory_grammar g) s →
      AreCheckedStates (theory_grammar g) s (states_over g.terminals all)
  lane_checked nb alone =
      let of = are.reduced.states_are in
      carried_checked (theory_grammar g) s of.originals (states_over g.terminals all) of.origin
      (lr0_reached (theory_grammar g) s of.originals of.lr0) of.spread nb alone are.reduced.carried are.no_conflict

  -- those that pass the test
  pub lane_passed : AreCheckedStates (theory_grammar g) s (states_over g.terminals all) → AreCheckedByLanes g s all
  lane_passed checked =
      let of = are.reduced.states_are in
      record {
        checked = checked;
        targets = cover_within g.terminals (Contains (theory_grammar g)) s all checked.cover;
        fewest = λ lr0 is none.
            are.reduced.needed ((lr0_lalr1 (theory_grammar g) s of.originals of.lr0).0 ((lr0_lalr1 (theory_grammar g) s lr0 is).1 none))
            ∙ as_many (theory_grammar g) s of.originals lr0 of.lr0 is checked.none_barren;
        for_each_core = λ lalr1.
            subst (CountsCoreSets (Contains (theory_grammar g)) s)
            (sym (are.reduced.needed ((lr0_lalr1 (theory_grammar g) s of.originals of.lr0).0 lalr1)))
            (states_counted (theory_grammar g) s of.originals of.lr0 checked.none_barren);
      }
