-- Canonical states are led to by symbols with numbers, and the start has a number and a state: for what completions are made from.
use Rattle.std.proofs.Common.{◌≡◌, ◌∙◌, ◌<◌, ℕ, zero, suc, List, [], ◌∷◌, drop, length, Option, Some}
use Rattle.std.proofs.Common.{Contains, refl, sym, ap, subst}
use Rattle.std.proofs.lemmas.Option.{slice_get_within}
use Rattle.lalrpop_grammar_symbols.specs.Symbols.{Text}
use Rattle.lalrpop_grammar_repr.specs.declared.grammar.Grammar.{Grammar}
use Rattle.lalrpop_lr1_theory.specs.Automata.{IsCover, in_kernel}
use Rattle.lalrpop_lr1_theory.specs.CanonicalStates.{AreCanonicalStates}
use Rattle.lalrpop_lr1_theory.specs.Productions.{Production, Symbol, nonterminal}
use Rattle.lalrpop_lr1_theory.specs.States.{HasEdge, HasItem, State}
use Rattle.lalrpop_lr1_theory.specs.Trees.{Forest, IsTreeOf, leaf, node, none}
use Rattle.lalrpop_lr1_theory.specs.ValidItems.{NoneBarren, itself}
use Rattle.lalrpop_lr1_theory.proofs.WalkLemmas.{item_over}
use Rattle.lalrpop_lr1_core.specs.Views.{production_view}
use Rattle.lalrpop_lr1_first.specs.FirstNumbers.{name_count}
use Rattle.lalrpop_lr1_first.specs.FirstSetsOf.{IsProductionOf}
use Rattle.lalrpop_lr1_core.specs.TheoryGrammars.{productions_of_grammar}
use Rattle.lalrpop_lr1_first.specs.NumberedGrammars.{IsNumberTableOf, table_productions}
use Rattle.lalrpop_lr1_first.specs.Numbers.{SpellsSymbols}
use Rattle.lalrpop_lr1_first.specs.declared.numbered.Numbered.{Numbered}
use Rattle.lalrpop_lr1_first.proofs.TableFirstLemmas.{seen_same}
use Rattle.lalrpop_lr1_first.proofs.TableLemmas.{rules_are, table_numbering}
use Rattle.lalrpop_lr1_least_trees.specs.GrammarTrees.{symbols_by}
use Rattle.lalrpop_lr1_core.specs.TheoryGrammars.{theory_grammar}
use Rattle.lalrpop_grammar_symbols.specs.declared.names.NonterminalString.{NonterminalString}
use Rattle.lalrpop_lr1_least_trees.specs.declared.least_trees.LeastTrees.{LeastTrees}
use Rattle.lalrpop_lr1_theory.specs.PathTrees.{ArePaths}
use Rattle.lalrpop_lr1_paths.specs.PathTables.{AreReachedStates, last_steps}
use Rattle.lalrpop_lr1_paths.specs.declared.state_paths.state_paths.StatePaths.{StatePaths}
use Rattle.lalrpop_lr1_paths.specs.CompletionGraphs.{AreCompletions}
use Rattle.lalrpop_lr1_paths.specs.ToldSteps.{HasNameNumber}
use Rattle.lalrpop_lr1_paths.specs.declared.completion_steps.completion_graphs.CompletionGraphs.{CompletionGraphs}
use Rattle.lalrpop_lr1_counterexamples.specs.ShownMoves.{AreSteppedStates}

-- each of symbols that are spelled has a number
spelled_number : (at : ℕ → Option Symbol) (numbers : List ℕ) (xs : List Symbol) (i : ℕ) (x : Symbol) (b : List Symbol) →
    SpellsSymbols at numbers xs → drop i xs ≡ x ∷ b → (k : ℕ) × (at k ≡ Some x)
spelled_number at [] [] zero x b spells e = let z : ⊥ = cc in absurd z
spelled_number at [] [] (suc i) x b spells e = let z : ⊥ = cc in absurd z
spelled_number at [] (y ∷ ys) i x b spells e = absurd spells
spelled_number at (k ∷ ks) [] i x b spells e = absurd spells
spelled_number at (k ∷ ks) (y ∷ ys) zero x b spells e = let z : y ≡ x = cc in (k, spells.0 ∙ ap Some z)
spelled_number at (k ∷ ks) (y ∷ ys) (suc i) x b spells e = spelled_number at ks ys i x b spells.1 e

-- the production at the root of a nonterminal's tree
root_production : (G : Production → Type 0) (A : Text) (ts : Forest) → IsTreeOf G A ts → (p : Production) × G p × (p.left ≡ A)
root_production G A none t = let z : ⊥ = (let e = t.0 in cc) in absurd z
root_production G A (leaf u ts) t = let z : ⊥ = (let e = t.0 in cc) in absurd z
root_production G A (node p cs ts) t =
    let e = t.0 in
    let z : nonterminal p.left ≡ nonterminal A = cc in
    let same : p.left ≡ A = cc in
    (p, t.1.0, same)

module _ (g : Grammar) (s : Text) (states : List State) (canonical : AreCanonicalStates (theory_grammar g) s states) where
  cover : IsCover (IsProductionOf g) s (HasItem states) (HasEdge states)
  cover = canonical.automaton.cover

  -- the production of each item is the grammar's
  pub held_production : (n : ℕ) (p : Production) (i : ℕ) → HasItem states n p i → IsProductionOf g p
  held_production n p i h =
      let w = canonical.automaton.reached n p i h in
      item_over (IsProductionOf g) s (HasItem states) (HasEdge states) cover w.0 n w.1 p i h

  module _ (nb : NoneBarren (Contains (theory_grammar g)) s) where
    start_production : (p : Production) × IsProductionOf g p × (p.left ≡ s)
    start_production = let t = nb s itself in root_production (IsProductionOf g) s t.0 t.1

    -- there is some state
    pub some_state : 0 < length states
    some_state =
        let p = start_production in
        let h = (cover.start p.0 0).1 (in_kernel p.0 0 (p.1, p.2, refl)) in
        slice_get_within states 0 h.state h.at

    module _ (table : Numbered) (of : IsNumberTableOf g table) where
      rule_there : (p : Production) → IsProductionOf g p → (left : ℕ) × (right : List ℕ) ×
          (symbols_by table left ≡ Some (nonterminal p.left)) × SpellsSymbols (symbols_by table) right p.right
      rule_there p c =
          let r = (rules_are table of.numbers).all p (seen_same production_view (productions_of_grammar g) (table_productions table)
          (λ q. ((of.productions q).1, (of.productions q).0)) p c) in
          (r.1.left, r.1.right, r.3.left, r.3.right)

      -- the symbol of each edge has a number
      pub edge_number : (n : ℕ) (x : Symbol) (m : ℕ) → HasEdge states n x m → (k : ℕ) × (symbols_by table k ≡ Some x)
      edge_number n x m e =
          let d = cover.only n x m e in
          let r = rule_there d.production (held_production n d.production d.dot d.item) in
          spelled_number (symbols_by table) r.1 d.production.right d.dot x d.rest r.3 d.before

      -- and so has the start
      pub start_number : (k : ℕ) × (k < name_count table) × (symbols_by table k ≡ Some (nonterminal s))
      start_number =
          let p = start_production in
          let r = rule_there p.0 p.1 in
          let named : symbols_by table r.0 ≡ Some (nonterminal s) = r.2 ∙ ap (λ A. Some (nonterminal A)) p.2 in
          (r.0, (table_numbering table of.numbers).name_below r.0 s named, named)

      -- so paths lead to all states, and what leads out of them is known
      pub stepped_states : (trees : LeastTrees) (paths : StatePaths) (ways other : CompletionGraphs) (start : NonterminalString) →
          trees.table ≡ table →
          paths.trees.now ≡ trees → ways.paths.now ≡ paths → other ≡ ways → start.0 ≡ s →
          (AreReachedStates trees states → ArePaths states (last_steps paths)) →
          (IsNumberTableOf g paths.trees.now.table → IsCover (IsProductionOf g) s (HasItem states) (HasEdge states) →
          ArePaths states (last_steps paths) → HasNameNumber paths start → AreCompletions g s states ways) →
          AreSteppedStates g s states other
      stepped_states trees paths ways other start tables of_trees of_paths same named lead out =
          let its_table : paths.trees.now.table ≡ table = ap (λ t. t.table) of_trees ∙ tables in
          let led = lead (record {
            known = λ n x m e. subst (λ t. (k : ℕ) × (symbols_by t k ≡ Some x)) (sym tables) (edge_number n x m e);
            reached = λ n state. canonical.reached n state.0 state.1;
          }) in
          let number : HasNameNumber paths start =
          subst (λ t. (k : ℕ) × (k < name_count t) × (symbols_by t k ≡ Some (nonterminal start.0))) (sym its_table)
          (subst (λ A. (k : ℕ) × (k < name_count table) × (symbols_by table k ≡ Some (nonterminal A))) (sym named) start_number) in
          subst (AreSteppedStates g s states) (sym same) (record {
            completions = out (subst (IsNumberTableOf g) (sym its_table) of) cover led number;
            cover = cover;
            paths = subst (λ p. ArePaths states (last_steps p)) (sym of_paths) led;
          })
