-- Examples of what rounds and the construction by lane tables answer, and answers that are refused.
use Rattle.std.proofs.Common.{ℕ, ◌+◌, List, [], Some, refl, arith}
use Rattle.std.specs.Global.{Global}
use Rattle.std.specs.Prelude.{Vec}
use Rattle.lalrpop_grammar_symbols.specs.Symbols.{Text}
use Rattle.lalrpop_grammar_repr.specs.declared.grammar.Grammar.{Grammar}
use Rattle.lalrpop_lr1_core.specs.declared.state.State.{State}
use Rattle.lalrpop_lane.specs.Constructions.{HaveLaneConflicts}
use Rattle.lalrpop_lane.specs.Rounds.{AreInRounds, CopyAnswer, RoundAnswer}

module _ (g : Grammar) (s : Text) (old all : List (State (List ℕ))) (made : Vec (State (List ℕ)) Global) (left : ℕ) where
  -- without conflicts nothing is told
  no_conflicts_told : HaveLaneConflicts g s left all [] → ⊥
  no_conflicts_told h = h.some refl

  -- no more copies are left than might be made
  more_than_might : AreInRounds g s left (left + 1) all → ⊥
  more_than_might h = let counted = h.counted in omega (arith, counted)

  -- copies and a round leave fewer
  as_many_left : CopyAnswer old left (Some (made, left)) → ⊥
  as_many_left h = let fewer = h.1 in omega (arith, fewer)

  as_many_left_by_a_round : RoundAnswer g s old left (Some (made, left)) → ⊥
  as_many_left_by_a_round h = let fewer = h.0 in omega (arith, fewer)
