-- Trees that are made of shown moves are those that the moves are of, with counted leaves: for the laws on them.
use Rattle.std.proofs.Common.{◌≡◌, ℕ, zero, suc, List, ◌∷◌, ◌++◌, length, slice_get, refl, sym, ap, ◌∙◌}
use Rattle.std.proofs.Common.{subst, arith}
use Rattle.lalrpop_grammar_symbols.specs.Symbols.{Text}
use Rattle.lalrpop_grammar_repr.specs.declared.grammar.Grammar.{Grammar}
use Rattle.lalrpop_lr1_theory.specs.Productions.{Next}
use Rattle.lalrpop_lr1_theory.specs.Spans.{SpannedForest, leaf_spans, without_spans}
use Rattle.lalrpop_lr1_theory.specs.Trees.{Forest, IsTreeOf, Move, MovesLead, forest, moves, nodes, none, yield}
use Rattle.lalrpop_lr1_theory.proofs.PlaceLemmas.{slice_get-append}
use Rattle.lalrpop_lr1_theory.proofs.TreeLemmas.{length-moves}
use Rattle.lalrpop_lr1_first.specs.FirstSetsOf.{IsProductionOf}
use Rattle.lalrpop_judge.specs.Certificates.{AreCountedFrom, MakesMove, number_move}
use Rattle.lalrpop_lr1_least_trees.specs.SpanNumbers.{AreMade, LeadSomewhere, LeadToOne, numbered_spans}
use Rattle.lalrpop_lr1_least_trees.proofs.MakingLemmas.{moves_lead}
use Rattle.lalrpop_lr1_theory.specs.CompletionMoves.{IsContinued}
use Rattle.lalrpop_lr1_paths.specs.declared.completion_steps.completion_graphs.CompletionGraphs.{CompletionGraphs}
use Rattle.lalrpop_lr1_counterexamples.specs.ShownMoves.{IsPathForest, ShowsMove}

numbered_counted : (n k : ℕ) → AreCountedFrom n (numbered_spans n k)
numbered_counted n zero = tt
numbered_counted n (suc k) = (refl, numbered_counted (suc n) k)

counted : (ts : SpannedForest) (ms : List Move) → AreMade ms 0 ts → AreCountedFrom 0 (leaf_spans ts)
counted ts ms made = subst (AreCountedFrom 0) (sym made.spans) (numbered_counted 0 (length (leaf_spans ts)))

module _ (g : Grammar) (s : Text) (ways : CompletionGraphs) (n : ℕ) (front : List Move) (m : Move) (x : Next) (all : List Move) (f : Forest)
    (on : IsPathForest g ways n front f) (shows : ShowsMove g s ways n front m x all) where
  front_leads : MovesLead front none f
  front_leads = subst (λ ms. MovesLead ms none f) on.moves_are (moves_lead (IsProductionOf g) f on.over)

  whole : IsContinued (IsProductionOf g) s f (m ∷ shows.more) shows.left
  whole = shows.whole f on

  moves_of_whole : moves whole.tree ≡ all
  moves_of_whole = whole.moves_are ∙ ap (λ ms. ms ++ m ∷ shows.more) on.moves_are ∙ sym shows.all_are

  all_leads : MovesLead all none whole.tree
  all_leads = subst (λ ms. MovesLead ms none whole.tree) moves_of_whole (moves_lead (IsProductionOf g) whole.tree whole.is_tree.1)

  pub can_be_made : LeadSomewhere front × LeadToOne all
  can_be_made = (
    record { trees = f; lead = front_leads },
    record { tree = whole.tree; lead = all_leads; one = ap length whole.is_tree.0 },
  )

  pub makes : (shared tree : SpannedForest) → AreMade front 0 shared → AreMade all 0 tree →
      AreCountedFrom 0 (leaf_spans shared) × MakesMove (IsProductionOf g) s shared x (number_move m) tree
  makes shared tree first made =
      let its_shared : without_spans shared ≡ f = first.trees_are f front_leads in
      let its_tree : without_spans tree ≡ whole.tree = made.trees_are whole.tree all_leads in (
        counted shared front first,
        record {
          count = nodes f;
          move = m;
          left = shows.left;
          is_tree = subst (IsTreeOf (IsProductionOf g) s) (sym its_tree) whole.is_tree;
          spans = counted tree all made;
          forest_is = ap (λ ts. forest ts (nodes f)) its_tree ∙ whole.forest_is ∙ sym its_shared;
          move_is = ap (λ ts. slice_get (moves ts) (nodes f)) its_tree ∙ ap (λ ms. slice_get ms (nodes f)) whole.moves_are
              ∙ slice_get-append (moves f) (m ∷ shows.more) 0 (nodes f) (omega (arith, length-moves f));
          move_named = refl;
          leaves = ap yield its_tree ∙ whole.leaves ∙ ap (λ ts. yield ts ++ shows.left) (sym its_shared);
          next = shows.next;
        },
      )
