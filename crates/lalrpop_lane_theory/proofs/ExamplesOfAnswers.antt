-- Computed example of two answers: over `"a" "a"`, which is no sentence of `S = "a"`, and within one move, states that reduce before the
-- end alone tell the second token, and states that reduce before `"a"`, too, tell the limit. Both are checked.
use Rattle.std.proofs.Common.{◌≡◌, ℕ, List, [], ◌∷◌, None, Some, Contains, refl, subst, inr}
use Rattle.lalrpop_grammar_symbols.specs.Symbols.{Terminal}
use Rattle.lalrpop_lr1_theory.specs.Productions.{Next, Production, terminal}
use Rattle.lalrpop_lr1_theory.specs.Trees.{Forest, Move, leaf, node, none, reduce, shift}
use Rattle.lalrpop_lr1_theory.specs.Automata.{Walk, goes, stands}
use Rattle.lalrpop_lr1_theory.specs.States.{HasEdge, Reduces, Reduction, State}
use Rattle.lalrpop_lr1_theory.specs.Runs.{Allows}
use Rattle.lalrpop_lr1_theory.specs.Answers.{RunEnds, over_limit, wrong_token}
use Rattle.lalrpop_lr1_theory.specs.CheckedStates.{AreCheckedStates}
use Rattle.lalrpop_lr1_theory.proofs.CheckedLemmas.{same_state}
use Rattle.lalrpop_lr1_theory.proofs.ExampleLemmas.{name, none_same, nothing_in, quoted}
use Rattle.lalrpop_lr1_theory.proofs.ExamplesOfCheckedStates.{by_a_alone, end_alone, end_and_a, has_a, has_s, one_alone, three_checked}
use Rattle.lalrpop_lr1_theory.proofs.ExamplesOfStates.{before_these, first_items, first_state, items_first, letter_a, letter_start}
use Rattle.lalrpop_lr1_theory.proofs.ExamplesOfStates.{one_letter, reduction_with, s_is_a, states_with, third_state, three_states}
use Rattle.lalrpop_lr1_theory.proofs.ExamplesOfStates.{with_checked}
use Rattle.lalrpop_lr1_theory.proofs.ListLemmas.{all_of, contains_here, contains_later}

abbrev a_token : Terminal
a_token = quoted letter_a

abbrev eager_states : List State
eager_states = states_with first_items (end_and_a ∷ [])

eager_checked : AreCheckedStates one_letter (name letter_start) eager_states
eager_checked =
    with_checked first_items (end_and_a ∷ []) items_first has_a has_s (by_a_alone (end_and_a ∷ []) ((refl, refl), tt))
    (inr (contains_here end_and_a [])) (one_alone end_and_a)

abbrev tokens : List Terminal
tokens = a_token ∷ a_token ∷ []

abbrev shifted : Forest
shifted = leaf a_token none

-- state 2 shifts nothing, and reduces before the end alone
no_shift : (m : ℕ) → HasEdge three_states 2 (terminal a_token) m → ⊥
no_shift m e =
    let same = same_state three_states 2 e.0 third_state e.1 refl in
    nothing_in (a_token, m) (subst (λ (st : State). Contains st.shifts (a_token, m)) same e.2)

no_reduction : (p : Production) → Reduces three_states 2 p (Some a_token) → ⊥
no_reduction p r =
    let same = same_state three_states 2 r.state third_state r.at refl in
    let held = subst (λ (st : State). Contains st.reductions (reduction_with r.lookahead p)) same r.held in
    none_same a_token (all_of (λ (a : Reduction). (x : Next) → Contains a.lookahead.nexts x → x ≡ None) (end_alone ∷ [])
    (all_of (λ x. x ≡ None) (None ∷ []) (refl, tt), tt) (reduction_with r.lookahead p) held (Some a_token) r.follows)

none_allowed : (v : Move) → Allows (HasEdge three_states) (Reduces three_states) 2 (Some a_token) v → ⊥
none_allowed (shift t) a = no_shift a.1 a.2
none_allowed (reduce p) a = no_reduction p a

three_walk : Walk (HasEdge three_states) (terminal a_token ∷ []) 2
three_walk = goes (terminal a_token) 2 stands (first_state, refl, contains_here (a_token, 2) [])

tells_token : RunEnds three_states (name letter_start) tokens 1 (wrong_token 1)
tells_token =
    record {
      made = shifted;
      token = a_token;
      left = [];
      stops = record {
        moves = shift a_token ∷ [];
        state = 2;
        run = record {
          state = 0;
          made = shifted;
          left = a_token ∷ [];
          walk = stands;
          allowed = (refl, 2, (first_state, refl, contains_here (a_token, 2) []));
          leads = refl;
          consumed = refl;
          rest = (refl, refl);
        };
        walk = three_walk;
        none_allowed = none_allowed;
      };
      place = refl;
    }

eager_walk : Walk (HasEdge eager_states) (terminal a_token ∷ []) 2
eager_walk = goes (terminal a_token) 2 stands (first_state, refl, contains_here (a_token, 2) [])

tells_limit : RunEnds eager_states (name letter_start) tokens 1 over_limit
tells_limit =
    record {
      moves = shift a_token ∷ reduce s_is_a ∷ [];
      made = node s_is_a shifted none;
      left = a_token ∷ [];
      run = record {
        state = 0;
        made = shifted;
        left = a_token ∷ [];
        walk = stands;
        allowed = (refl, 2, (first_state, refl, contains_here (a_token, 2) []));
        leads = refl;
        consumed = refl;
        rest = record {
          state = 2;
          made = node s_is_a shifted none;
          left = a_token ∷ [];
          walk = eager_walk;
          allowed = record {
            state = record {
              index = 2;
              items = record { production = s_is_a; dot = 1; lookahead = before_these (None ∷ []) } ∷ [];
              shifts = [];
              gotos = [];
              reductions = end_and_a ∷ [];
            };
            lookahead = before_these (None ∷ Some a_token ∷ []);
            at = refl;
            held = contains_here end_and_a [];
            follows = contains_later None (Some a_token) (Some a_token ∷ []) (contains_here (Some a_token) []);
          };
          leads = record { kept = none; children = shifted; parts = refl; roots_are = refl; rest = refl };
          consumed = refl;
          rest = (refl, refl);
        };
      };
      count = refl;
    }

both_checked : AreCheckedStates one_letter (name letter_start) three_states
    × AreCheckedStates one_letter (name letter_start) eager_states
both_checked = (three_checked, eager_checked)
