-- Computed examples of what is told of completions: in the three states of `__S = S; S = "a"` the completion behind `S` is told of any leaves and
-- of none, none is told on which `"a"` comes, and wrong answers are refused.
use Rattle.std.proofs.Common.{◌≡◌, ℕ, false, true, List, [], ◌∷◌, ◌++◌, Some, None, Option, refl, sym, ap}
use Rattle.std.proofs.Common.{◌∙◌, arith, Contains}
use Rattle.lalrpop_grammar_symbols.specs.Symbols.{Terminal, Text}
use Rattle.lalrpop_lr1_theory.specs.Productions.{Production, Symbol, first, nonterminal, terminal}
use Rattle.lalrpop_lr1_theory.specs.Trees.{Forest, Move, leaf, node, none, reduce, roots, yield}
use Rattle.lalrpop_lr1_theory.specs.States.{HasItem}
use Rattle.lalrpop_lr1_theory.proofs.ExampleLemmas.{name, none_same, quoted}
use Rattle.lalrpop_lr1_theory.proofs.ExamplesOfStates.{StandsIn, a_done, a_first, after_dot, s_done, s_first, shape_items}
use Rattle.lalrpop_lr1_theory.proofs.ExamplesOfStates.{before_these, first_state, items_first, items_second, items_third}
use Rattle.lalrpop_lr1_theory.proofs.ExamplesOfStates.{letter_a, letter_s, letter_start, one_letter, starts_s, three_states}
use Rattle.lalrpop_lr1_theory.specs.PathTrees.{IsBack, LastStep, LastSteps, LedBy, further, here}
use Rattle.lalrpop_lr1_theory.specs.CompletionMoves.{LeadsOut, arrives, steps}
use Rattle.lalrpop_lr1_least_trees.specs.RestForests.{AnyLeaves, BeginsWith, NoLeaves}
use Rattle.lalrpop_lr1_paths.specs.CompletionSearches.{LeadOutIfSome}
use Rattle.lalrpop_lr1_paths.specs.StepMoves.{ComesInAll}

abbrev from_first : Symbol → Option LastStep
from_first x = Some (record { from = 0; by = x })

-- state 1 is led to by `S`, state 2 by `"a"`
abbrev two_steps : LastSteps
two_steps = None ∷ from_first (nonterminal (name letter_s)) ∷ from_first (terminal (quoted letter_a)) ∷ []

abbrev Led : ℕ → Symbol → ℕ → Type 0
Led = LedBy two_steps

abbrev Leads : ℕ → Text → List Move → List Terminal → Type 0
Leads = LeadsOut (Contains one_letter) (name letter_start) (HasItem three_states) Led

-- the answer behind `S` in state 0, of ways on which such leaves come
abbrev IsAnswer : (List Terminal → Type 0) → Option (List Move) → Type 0
IsAnswer = LeadOutIfSome (Contains one_letter) (name letter_start) (HasItem three_states) Led 0 (name letter_s)

abbrev by_start : List Move
by_start = reduce starts_s ∷ []

out_by_start : Leads 0 (name letter_s) by_start []
out_by_start =
    steps starts_s (name letter_s) [] none
    (record { state = first_state; lookahead = before_these (None ∷ []); at = refl; held = (1, omega arith, refl) }) refl (here 0) tt refl
    arrives

-- the way is told, whatever may come, and where nothing may
told_any : IsAnswer AnyLeaves (Some by_start)
told_any = record { left = []; leads = out_by_start; wanted = tt }

told_end : IsAnswer NoLeaves (Some by_start)
told_end = record { left = []; leads = out_by_start; wanted = refl }

-- refused: that there is no way
not_none_any : IsAnswer AnyLeaves None → ⊥
not_none_any h = h by_start [] out_by_start tt

not_none_end : IsAnswer NoLeaves None → ⊥
not_none_end h = h by_start [] out_by_start refl

-- from state 0 no leaves are left
three_items : (n : ℕ) (p : Production) (i : ℕ) → HasItem three_states n p i → StandsIn n p i
three_items = shape_items three_states (items_first, (items_second, (items_third, tt)))

dot_first : (n : ℕ) (p : Production) (i : ℕ) → StandsIn n p i → n ≡ 0 → i ≡ 0
dot_first n p i a_first e = refl
dot_first n p i s_first e = refl
dot_first n p i s_done e = absurd (omega (arith, e))
dot_first n p i a_done e = absurd (omega (arith, e))

no_place_back : (i n m : ℕ) → IsBack Led i n m → i ≡ 0 → m ≡ n
no_place_back i n m (here k) e = refl
no_place_back i n m (further x k l b) e = absurd (omega (arith, e))

no_roots : (us : Forest) → roots us ≡ [] → yield us ≡ []
no_roots none e = refl
no_roots (leaf t us) e = let z : ⊥ = cc in absurd z
no_roots (node p cs us) e = let z : ⊥ = cc in absurd z

no_leaves : (n : ℕ) (B : Text) (ms : List Move) (w : List Terminal) → Leads n B ms w → n ≡ 0 → w ≡ []
no_leaves n B ms w arrives e = refl
no_leaves n B ms w (steps {m = k} {i = j} {ms = ns} {w = v} p A b us it d back over is out) e =
    let st = three_items n p j it in
    ap (λ l. l ++ v) (no_roots us (is ∙ sym (after_dot n p j A b st d).2))
    ∙ no_leaves k p.left ns v out (no_place_back j n k back (dot_first n p j st e) ∙ e)

-- so none comes: there is no such way, and no moves are one
told_letter : IsAnswer (BeginsWith (quoted letter_a)) None
told_letter ms w out e = none_same (quoted letter_a) (sym e ∙ ap first (no_leaves 0 (name letter_s) ms w out refl))

not_letter : (ms : List Move) → IsAnswer (BeginsWith (quoted letter_a)) (Some ms) → ⊥
not_letter ms h = told_letter ms h.left h.leads h.wanted

-- what comes on a way by steps of any kind, and by empty ones
any_comes : ComesInAll true [] (quoted letter_a ∷ [])
any_comes = tt

same_comes : ComesInAll false (quoted letter_a ∷ []) (quoted letter_a ∷ [])
same_comes = refl

-- refused: that an empty step brings a terminal
none_is_brought : ComesInAll false [] (quoted letter_a ∷ []) → ⊥
none_is_brought e = cc
