-- Edges lead to states that are there, in canonical states and in these put together: for putting them in another order.
use Rattle.std.proofs.Common.{ℕ, ◌<◌, All, List, Contains, length, refl, arith}
use Rattle.std.proofs.lemmas.Option.{slice_get_within}
use Rattle.lalrpop_grammar_symbols.specs.Symbols.{Text}
use Rattle.lalrpop_grammar_symbols.specs.Views.{terminal_view}
use Rattle.lalrpop_grammar_symbols.specs.declared.names.NonterminalString.{NonterminalString}
use Rattle.lalrpop_grammar_symbols.specs.declared.terminal.TerminalString.{TerminalString}
use Rattle.lalrpop_grammar_repr.specs.declared.grammar.Grammar.{Grammar}
use Rattle.lalrpop_grammar_repr.specs.declared.terminal_set.TerminalSet.{TerminalSet}
use Rattle.lalrpop_lr1_theory.specs.Productions as theory
use Rattle.lalrpop_lr1_theory.specs.Automata.{IsCover}
use Rattle.lalrpop_lr1_theory.specs.States.{HasEdge, HasItem}
use Rattle.lalrpop_lr1_theory.proofs.ListLemmas.{contains_get}
use Rattle.lalrpop_lr1_core.specs.Views.{goto_view, lr_state_view, shift_view, token_lookahead}
use Rattle.lalrpop_lr1_core.specs.declared.state.State.{State}
use Rattle.lalrpop_lr1_core.specs.declared.state_index.StateIndex.{StateIndex}
use Rattle.lalrpop_lr1_first.specs.NumberedGrammars.{HasItsTerminals}
use Rattle.lalrpop_lr1_build.specs.BuiltStates.{AreCanonicalWithout}
use Rattle.lalrpop_lr1_core.specs.TheoryGrammars.{theory_grammar}
use Rattle.lalrpop_lr1_build.proofs.BuiltLemmas.{all_each}
use Rattle.lalrpop_lr1_theory.proofs.CollapseLemmas.{collapsed_cover}
use Rattle.lalrpop_lr1_theory.proofs.CollapsedCoverLemmas.{target_item}
use Rattle.lalrpop_lr1_theory.proofs.OrderLemmas.{image_get, image_there}
use Rattle.lalrpop_lr1_build.specs.CollapseAnswers.{AreCanonicalOf, states_over}
use Rattle.lalrpop_lr1_build.specs.Renumbering.{HaveTargetsWithin}
use Rattle.lalrpop_lr1_first.proofs.TableLemmas.{long_map}
use Rattle.lalrpop_lane.specs.BuilderAnswers.{AreLalrWithout}

-- states that cover the items have edges to states that are there
module _ (ts : TerminalSet) (G : theory.Production → Type 0) (s : Text) (states : List (State (List ℕ)))
    (cover : IsCover G s (HasItem (states_over ts states)) (HasEdge (states_over ts states))) where
  target_within : (n : ℕ) (x : theory.Symbol) (m : ℕ) → HasEdge (states_over ts states) n x m → m < length states
  target_within n x m e =
      let t = target_item G s (HasItem (states_over ts states)) (HasEdge (states_over ts states)) cover n x m e in
      let w = slice_get_within (states_over ts states) m t.2.state t.2.at in
      omega (arith, w, long_map (lr_state_view (token_lookahead ts)) states)

  pub cover_within : HaveTargetsWithin (length states) states
  cover_within =
      all_each (λ (st : State (List ℕ)). All (λ (z : TerminalString × StateIndex). z.1.0 < length states) st.shifts
      × All (λ (z : NonterminalString × StateIndex). z.1.0 < length states) st.gotos) states (λ st c.
      let at = contains_get states st c in
      let view = lr_state_view (token_lookahead ts) st in
      let seen = image_get (lr_state_view (token_lookahead ts)) states at.0 st at.1 in (
        all_each (λ (z : TerminalString × StateIndex). z.1.0 < length states) st.shifts (λ e d.
            target_within at.0 (theory.terminal (terminal_view e.0)) e.1.0 (view, seen, image_there shift_view st.shifts e d)),
        all_each (λ (z : NonterminalString × StateIndex). z.1.0 < length states) st.gotos (λ e d.
            target_within at.0 (theory.nonterminal e.0.0) e.1.0 (view, seen, image_there goto_view st.gotos e d)),
      ))

module _ (g : Grammar) (start : NonterminalString) where
  pub canonical_of : HasItsTerminals g → (states : List (State (List ℕ))) → AreCanonicalWithout g start states →
      AreCanonicalOf g start g.terminals states
  canonical_of own states are = record { own = own; terminals = refl; states_are = are.states_are }

  pub canonical_within : (states : List (State (List ℕ))) → AreCanonicalWithout g start states →
      HaveTargetsWithin (length states) states
  canonical_within states are =
      cover_within g.terminals (Contains (theory_grammar g)) start.0 states are.states_are.constructed.automaton.cover

  pub lalr_within : (states : List (State (List ℕ))) → AreLalrWithout g start states → HaveTargetsWithin (length states) states
  lalr_within states are =
      cover_within g.terminals (Contains (theory_grammar g)) start.0 states
      (collapsed_cover (states_over g.terminals are.built) (states_over g.terminals states) are.collapse.states_are.numbers
      are.collapse.states_are.collapse (theory_grammar g) start.0 are.canonical.states_are.constructed)
