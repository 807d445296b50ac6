-- A move behind a forest on the path, with a completion behind it, goes on to a whole tree: for the answers of moves that show one.
use Rattle.std.proofs.Common.{◌≡◌, ℕ, List, ◌∷◌, ◌++◌, drop, length, map, Some, None, refl, sym, ap}
use Rattle.std.proofs.Common.{◌∙◌, subst, arith}
use Rattle.std.proofs.lemmas.List.{drop_all, map-append}
use Rattle.lalrpop_grammar_symbols.specs.Symbols.{Terminal, Text}
use Rattle.lalrpop_grammar_repr.specs.declared.grammar.Grammar.{Grammar}
use Rattle.lalrpop_lr1_theory.specs.Productions.{Next, Production, Symbol, terminal}
use Rattle.lalrpop_lr1_theory.specs.States.{HasEdge, HasItem, State}
use Rattle.lalrpop_lr1_theory.specs.Trees.{AreOver, Forest, Move, leaf, moves, none, reduce, roots, shift, yield}
use Rattle.lalrpop_lr1_first.specs.FirstSetsOf.{IsProductionOf}
use Rattle.lalrpop_lr1_theory.specs.CompletionMoves.{IsContinued, LeadsOut}
use Rattle.lalrpop_lr1_theory.specs.PathTrees.{IsBack, IsStateOf, LedBy}
use Rattle.lalrpop_lr1_theory.proofs.CompletionMoveLemmas.{continued}
use Rattle.lalrpop_lr1_theory.proofs.PathLemmas.{back_there}
use Rattle.lalrpop_lr1_least_trees.specs.RestForests.{AnyLeaves, AreRestMoves}
use Rattle.lalrpop_lr1_least_trees.specs.MoveViews.{tree_move_view}
use Rattle.lalrpop_lr1_least_trees.specs.declared.tree_move.TreeMove.{TreeMove}
use Rattle.lalrpop_lr1_paths.specs.PathTables.{last_steps}
use Rattle.lalrpop_lr1_paths.specs.declared.state_paths.state_paths.StatePaths.{StatePaths}
use Rattle.lalrpop_lr1_paths.specs.declared.completion_steps.completion_graphs.CompletionGraphs.{CompletionGraphs}
use Rattle.lalrpop_lr1_paths.specs.CompletionSearches.{TellsCompletion}
use Rattle.lalrpop_lr1_counterexamples.specs.ShownMoves.{AreSteppedStates, ComesNext, IsPathForest, LeadsNowhere, ShowsMove}
use Rattle.lalrpop_lr1_counterexamples.specs.ShownMoves.{ShowsReduction, ShowsShift}

-- the state that was told stands so many places back on the paths of the steps
pub back_told : (ways : CompletionGraphs) (paths : StatePaths) (places i n before : ℕ) → ways.paths.now ≡ paths → places ≡ i →
    ((m : ℕ) → IsBack (LedBy (last_steps paths)) places n m → before ≡ m) →
    (m : ℕ) → IsBack (LedBy (last_steps ways.paths.now)) i n m → before ≡ m
back_told ways paths places i n before one many told =
    subst (λ it. (m : ℕ) → IsBack (LedBy (last_steps it)) i n m → before ≡ m) (sym one)
    (subst (λ k. (m : ℕ) → IsBack (LedBy (last_steps paths)) k n m → before ≡ m) many told)

-- what the theory sees of joined moves
pub joined_seen : (front : List TreeMove) (m : TreeMove) (more all : List TreeMove) → all ≡ front ++ m ∷ more →
    map tree_move_view all ≡ map tree_move_view front ++ tree_move_view m ∷ map tree_move_view more
joined_seen front m more all is = ap (map tree_move_view) is ∙ map-append tree_move_view front (m ∷ more)

module _ (g : Grammar) (s : Text) (states : List State) (ways : CompletionGraphs) (are : AreSteppedStates g s states ways) (n : ℕ)
    (p : Production) (i before : ℕ) (held : HasItem states n p i)
    (told : (m : ℕ) → IsBack (LedBy (last_steps ways.paths.now)) i n m → before ≡ m) (front : List Move) where
  -- with trees for what stands behind the item's dot
  behind : (us : Forest) → AreOver (IsProductionOf g) us → roots us ≡ drop i p.right → (ms : List Move) (w : List Terminal) →
      LeadsOut (IsProductionOf g) s (HasItem states) (LedBy (last_steps ways.paths.now)) before p.left ms w →
      (f : Forest) → IsPathForest g ways n front f → IsContinued (IsProductionOf g) s f (moves us ++ reduce p ∷ ms) (yield us ++ w)
  behind us over e ms w leads f on =
      let Back = LedBy (last_steps ways.paths.now) in
      let there = back_there (HasEdge states) Back (IsStateOf states) are.paths (IsProductionOf g) s (HasItem states) are.cover i
      on.symbols n on.walk p held in
      continued (IsProductionOf g) s (HasItem states) (HasEdge states) Back (IsStateOf states) are.cover are.paths on.symbols n on.walk f
      on.over on.roots_are p i there.0 us held there.1 over e ms w
      (subst (λ m. LeadsOut (IsProductionOf g) s (HasItem states) Back m p.left ms w) (told there.0 there.1) leads)

  -- nothing leads out from the state before the item
  nowhere : (Wanted : List Terminal → Type 0) → TellsCompletion g s states ways before p.left Wanted None →
      LeadsNowhere g s states ways n i p.left Wanted
  nowhere Wanted h m ms w back out =
      h ms w (subst (λ k. LeadsOut (IsProductionOf g) s (HasItem states) (LedBy (last_steps ways.paths.now)) k p.left ms w)
      (sym (told m back)) out)

  -- the shift of a terminal before which the item's dot stands
  pub shift_shown : (t : Terminal) (rest : List Symbol) → drop i p.right ≡ terminal t ∷ rest → (inner out all : List Move) →
      AreRestMoves (IsProductionOf g) rest AnyLeaves inner → TellsCompletion g s states ways before p.left AnyLeaves (Some out) →
      all ≡ front ++ shift t ∷ (inner ++ reduce p ∷ out) → ShowsMove g s ways n front (shift t) (Some t) all
  shift_shown t rest e inner out all trees leads is =
      record {
        more = inner ++ reduce p ∷ out;
        left = t ∷ (yield trees.rest.trees ++ leads.left);
        all_are = is;
        whole = λ f on.
            subst (λ ms. IsContinued (IsProductionOf g) s f (shift t ∷ (ms ++ reduce p ∷ out))
            (t ∷ (yield trees.rest.trees ++ leads.left)))
            (sym trees.moves_are)
            (behind (leaf t trees.rest.trees) trees.rest.over (ap (λ z. terminal t ∷ z) trees.rest.roots_are ∙ sym e) out leads.left
            leads.leads f on);
        next = refl;
      }

  pub shift_unshown : (t : Terminal) (rest : List Symbol) → TellsCompletion g s states ways before p.left AnyLeaves None →
      ShowsShift g s states ways n p i rest front t None
  shift_unshown t rest h some = nowhere AnyLeaves h

module _ (g : Grammar) (s : Text) (states : List State) (ways : CompletionGraphs) (are : AreSteppedStates g s states ways) (n : ℕ)
    (p : Production) (before : ℕ) (held : HasItem states n p (length p.right))
    (told : (m : ℕ) → IsBack (LedBy (last_steps ways.paths.now)) (length p.right) n m → before ≡ m) (front : List Move)
    (x : Next) where
  -- the reduction by the production
  pub reduction_shown : (out all : List Move) → TellsCompletion g s states ways before p.left (ComesNext x) (Some out) →
      all ≡ front ++ reduce p ∷ out → ShowsReduction g s states ways n p front x (Some all)
  reduction_shown out all leads is =
      record {
        more = out;
        left = leads.left;
        all_are = is;
        whole = behind g s states ways are n p (length p.right) before held told front none tt (sym (drop_all (length p.right) p.right
            (omega arith))) out leads.left leads.leads;
        next = leads.wanted;
      }

  pub reduction_unshown : TellsCompletion g s states ways before p.left (ComesNext x) None → ShowsReduction g s states ways n p front x None
  reduction_unshown h = nowhere g s states ways are n p (length p.right) before held told front (ComesNext x) h
