-- The edges of three states, computed: what leads on from a state and to it, newest first, and where symbols lead.
use Rattle.std.proofs.Common.{◌≡◌, List, [], ◌∷◌, arith, refl}
use Rattle.lalrpop_grammar_repr.specs.declared.production.Symbol.{Symbol}
use Rattle.lalrpop_grammar_repr.specs.declared.production.Symbol.TheVariants as symbols
use Rattle.lalrpop_sets.specs.declared.nil.Nil.{Nil}
use Rattle.lalrpop_lr1_core.specs.Edges.{SymbolsLead, edge_of, edges_of, sources_of, state_index, targets_of}
use Rattle.lalrpop_lr1_core.specs.declared.edge.Edge.{Edge}
use Rattle.lalrpop_lr1_core.specs.declared.state.State.{State}
use Rattle.lalrpop_lr1_core.proofs.ExamplesOfViews.{name, quoted}

abbrev a : Symbol
a = symbols.Terminal (quoted "a")

abbrev b : Symbol
b = symbols.Terminal (quoted "b")

abbrev s : Symbol
s = symbols.Nonterminal (name "S")

-- The first shifts `"a"` and goes on by `S`, the third shifts `"a"` to itself and `"b"` to a state that isn't there. A state's own
-- number isn't looked at.
abbrev three_states : List (State Nil)
three_states =
    record {
      index = state_index 9;
      items = record { vec = [] };
      shifts = (quoted "a", state_index 2) ∷ [];
      reductions = [];
      gotos = (name "S", state_index 1) ∷ [];
    }
    ∷ record { index = state_index 9; items = record { vec = [] }; shifts = []; reductions = []; gotos = [] }
    ∷ record {
      index = state_index 9;
      items = record { vec = [] };
      shifts = (quoted "a", state_index 2) ∷ (quoted "b", state_index 7) ∷ [];
      reductions = [];
      gotos = [];
    } ∷ []

abbrev four_edges : List Edge
four_edges = edge_of 0 a 2 ∷ edge_of 0 s 1 ∷ edge_of 2 a 2 ∷ edge_of 2 b 7 ∷ []

in_order : edges_of three_states ≡ four_edges
in_order = refl

goto_first : targets_of 0 four_edges ≡ state_index 1 ∷ state_index 2 ∷ []
goto_first = refl

nowhere_first : targets_of 2 four_edges ≡ state_index 7 ∷ state_index 2 ∷ []
nowhere_first = refl

nothing_onward : targets_of 1 four_edges ≡ []
nothing_onward = refl

by_a : sources_of 2 a four_edges ≡ state_index 2 ∷ state_index 0 ∷ []
by_a = refl

none_by_b : sources_of 2 b four_edges ≡ []
none_by_b = refl

-- to a state that isn't there; no symbols lead to where one is
along_three : SymbolsLead four_edges 0 (a ∷ a ∷ b ∷ []) 7
along_three = (2, (0, omega arith, refl), (2, (2, omega arith, refl), (7, (3, omega arith, refl), refl)))

along_none : SymbolsLead four_edges 5 [] 5
along_none = refl
