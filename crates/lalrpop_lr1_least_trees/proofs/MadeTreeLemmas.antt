-- Trees that are made from moves, least ones and those that begin with a terminal: for trees with numbered leaves.
use Rattle.std.proofs.Common.{ℕ, ◌≤◌, List, length, sym, ap, subst}
use Rattle.lalrpop_grammar_symbols.specs.Symbols.{Terminal, Text}
use Rattle.lalrpop_lr1_theory.specs.Productions.{Production}
use Rattle.lalrpop_lr1_theory.specs.Spans.{SpannedForest, without_spans}
use Rattle.lalrpop_lr1_theory.specs.Trees.{Forest, IsTreeOf, Move, MovesLead, nodes, none}
use Rattle.lalrpop_lr1_least_trees.specs.LeastForests.{AreMovesOfLeast}
use Rattle.lalrpop_lr1_least_trees.specs.BeginForests.{AreBeginMoves, IsBeginTreeOf}
use Rattle.lalrpop_lr1_least_trees.specs.LeastExpanded.{IsLeastNumbered}
use Rattle.lalrpop_lr1_least_trees.specs.SpanNumbers.{AreMade, AreNumberedFrom, LeadToOne}
use Rattle.lalrpop_lr1_least_trees.proofs.MakingLemmas.{moves_lead}

-- the moves of least ones among some trees of the nonterminal
module _ (G : Production → Type 0) (A : Text) (Wanted : Forest → Type 0) (are_trees : (ts : Forest) → Wanted ts → IsTreeOf G A ts)
    (all : List Move) (l : AreMovesOfLeast Wanted all) where
  lead : MovesLead all none l.trees
  lead = subst (λ ms. MovesLead ms none l.trees) (sym l.moves_are) (moves_lead G l.trees (are_trees l.trees l.wanted).1)

  pub least_leads : LeadToOne all
  least_leads = record { tree = l.trees; lead = lead; one = ap length (are_trees l.trees l.wanted).0 }

  pub least_numbered : (from : ℕ) (tree : SpannedForest) → AreMade all from tree → IsLeastNumbered Wanted from tree
  least_numbered from tree made =
      let same = made.trees_are l.trees lead in
      record {
        is_tree = subst Wanted (sym same) l.wanted;
        least = λ ts t. subst (λ f. nodes f ≤ nodes ts) (sym same) (l.least ts t);
        spans = made.spans;
      }

-- the moves of one that begins with the terminal
module _ (G : Production → Type 0) (A : Text) (t : Terminal) (all : List Move) (b : AreBeginMoves G A t all) where
  begin_lead : MovesLead all none b.tree
  begin_lead = subst (λ ms. MovesLead ms none b.tree) (sym b.moves_are) (moves_lead G b.tree b.begins.0.1)

  pub begin_leads : LeadToOne all
  begin_leads = record { tree = b.tree; lead = begin_lead; one = ap length b.begins.0.0 }

  pub begin_numbered : (from : ℕ) (tree : SpannedForest) → AreMade all from tree →
      IsBeginTreeOf G A t (without_spans tree) × AreNumberedFrom from tree
  begin_numbered from tree made = (subst (IsBeginTreeOf G A t) (sym (made.trees_are b.tree begin_lead)) b.begins, made.spans)
