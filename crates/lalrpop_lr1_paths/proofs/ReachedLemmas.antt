-- States that are constructed for a grammar are reached, and their edges are by its symbols: for those who ask for paths to them.
use Rattle.std.proofs.Common.{◌≡◌, ◌∙◌, ⊎_elim, ℕ, Bool, List, [], ◌∷◌, map, Option, Some}
use Rattle.std.proofs.Common.{sym, ap, subst, arith, Contains}
use Rattle.lalrpop_grammar_symbols.specs.Symbols.{Text}
use Rattle.lalrpop_grammar_repr.specs.declared.grammar.Grammar.{Grammar}
use Rattle.lalrpop_lr1_theory.specs.CanonicalStates.{AreConstructedStates}
use Rattle.lalrpop_lr1_theory.specs.Productions as theory
use Rattle.lalrpop_lr1_theory.specs.States.{HasEdge, HasItem, State}
use Rattle.lalrpop_lr1_theory.proofs.ListLemmas.{contains_get, contains_split}
use Rattle.lalrpop_lr1_theory.proofs.WalkLemmas.{contains_after, item_over}
use Rattle.lalrpop_lr1_core.specs.Views.{production_view}
use Rattle.lalrpop_lr1_core.proofs.MemberLemmas.{in_map}
use Rattle.lalrpop_lr1_core.specs.TheoryGrammars.{productions_of_grammar}
use Rattle.lalrpop_lr1_first.specs.NumberedGrammars.{IsNumberTableOf, table_productions}
use Rattle.lalrpop_lr1_first.specs.Numbers.{SpellsSymbols}
use Rattle.lalrpop_lr1_least_trees.specs.GrammarTrees.{symbols_by}
use Rattle.lalrpop_lr1_least_trees.specs.declared.least_trees.LeastTrees.{LeastTrees}
use Rattle.lalrpop_lr1_paths.specs.PathTables.{AreReachedStates}

-- each symbol that is spelled has a number
spelled_symbol : (at : ℕ → Option theory.Symbol) (ss : List ℕ) (syms : List theory.Symbol) → SpellsSymbols at ss syms →
    (x : theory.Symbol) → Contains syms x → (s : ℕ) × (at s ≡ Some x)
spelled_symbol at ss [] sp x c = absurd (omega (arith, c.1))
spelled_symbol at [] (y ∷ ys) sp x c = absurd sp
spelled_symbol at (s ∷ ss) (y ∷ ys) sp x c =
    ⊎_elim (λ e. (s, sp.0 ∙ ap Some e)) (λ d. spelled_symbol at ss ys sp.1 x d) (contains_split y x ys c)

module _ (trees : LeastTrees) (g : Grammar) (table : IsNumberTableOf g trees.table) where
  -- each symbol on a right side of the grammar has a number
  side_symbol : (p : theory.Production) → Contains (map production_view (productions_of_grammar g)) p → (x : theory.Symbol) →
      Contains p.right x → (s : ℕ) × (symbols_by trees.table s ≡ Some x)
  side_symbol p among x c =
      let own = in_map production_view (productions_of_grammar g) p among in
      let place = contains_get (table_productions trees.table) own.0 ((table.productions own.0).1 own.1) in
      let laid = table.numbers.laid.at place.0 own.0 place.1 in
      spelled_symbol (symbols_by trees.table) laid.numbers (production_view own.0).right laid.spelled x
      (subst (λ (q : theory.Production). Contains q.right x) (sym own.2) c)

  module _ (firsts : Bool) (Start : theory.Next → Type 0) (s : Text) (states : List State)
      (are : AreConstructedStates firsts Start (map production_view (productions_of_grammar g)) s states) where
    edge_symbol : (n : ℕ) (x : theory.Symbol) (m : ℕ) → HasEdge states n x m → (k : ℕ) × (symbols_by trees.table k ≡ Some x)
    edge_symbol n x m e =
        let dot = are.automaton.cover.only n x m e in
        let walk = are.automaton.reached n dot.production dot.dot dot.item in
        let among = item_over (Contains (map production_view (productions_of_grammar g))) s (HasItem states) (HasEdge states)
        are.automaton.cover walk.0 n walk.1 dot.production dot.dot dot.item in
        side_symbol dot.production among x (contains_after x dot.rest dot.production.right dot.dot dot.before)

    pub reached_states : AreReachedStates trees states
    reached_states = record { known = edge_symbol; reached = λ n is. are.reached n is.0 is.1 }
