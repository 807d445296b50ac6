-- Computed examples of what the laws ask: a start that isn't alone, a state to which nothing leads, and carried lookaheads that conflict.
use Rattle.std.proofs.Common.{◌≡◌, ℕ, zero, suc, List, [], ◌∷◌, drop, None, Some, Contains, refl, sym, ap, subst, arith}
use Rattle.lalrpop_grammar_symbols.specs.Symbols.{Terminal, Text}
use Rattle.lalrpop_lr1_theory.specs.Productions.{Next, Production, Symbol, nonterminal, terminal}
use Rattle.lalrpop_lr1_theory.specs.FirstSets.{Derives, First0, ends, grows, keeps}
use Rattle.lalrpop_lr1_theory.specs.Automata.{Carries, Closure, IsBegun, IsCover, begins_with_end, closed, in_kernel, passes_next}
use Rattle.lalrpop_lr1_theory.specs.Automata.{shifts_next, starts_next}
use Rattle.lalrpop_lr1_theory.proofs.ExampleLemmas.{head_same, name, name_same, none_same, not_empty, not_nonterminal, not_terminal}
use Rattle.lalrpop_lr1_theory.proofs.ExampleLemmas.{nothing_in, production, quoted, tail_same}
use Rattle.lalrpop_lr1_theory.proofs.ListLemmas.{all_of, contains_here}
use Rattle.lalrpop_lane_theory.specs.CarriedConflicts.{CarriesToFinished, HasNoCarriedConflict, IsReachedCover}
use Rattle.lalrpop_lane_theory.specs.Columns.{AllFitBeside}
use Rattle.lalrpop_lane_theory.specs.LaneTables.{HasNextIn}
use Rattle.lalrpop_lane_theory.specs.Lanes.{LaneAdds, adds_end, adds_first, begins_lane, steps_back}
use Rattle.lalrpop_lane_theory.proofs.CarriedLemmas.{carried_given}
use Rattle.lalrpop_lane_theory.proofs.LaneLemmas.{lanes_carried}

-- A start on right sides, S of `S = "(" S ")" or "x"`: behind the bracket its items stand with the dot in front, so the lane from
-- `S = (*) "x"` adds the end there; but nothing is carried there but the closing bracket, whichever the states.
abbrev pub s_name : Text
s_name = name 83

abbrev pub closing : Terminal
closing = quoted 41

abbrev pub inner : Production
inner = production 0 s_name (terminal (quoted 40) ∷ nonterminal s_name ∷ terminal closing ∷ [])

abbrev pub innermost : Production
innermost = production 1 s_name (terminal (quoted 120) ∷ [])

abbrev pub brackets : List Production
brackets = inner ∷ innermost ∷ []

-- the closing bracket derives something
never_empty : (xs ys : List Symbol) → Derives (Contains brackets) xs ys → xs ≡ terminal closing ∷ [] → ys ≡ [] → ⊥
never_empty xs ys ends e f = not_empty (terminal closing) [] e
never_empty xs ys (keeps x d) e f = let z : ⊥ = cc in absurd z
never_empty xs ys (grows p {xs = zs} g d d') e f =
    not_terminal closing p.left (head_same (nonterminal p.left) (terminal closing) zs [] e)

pub no_dot : (j : ℕ) (x : Symbol) (b : List Symbol) → drop j [] ≡ x ∷ b → ⊥
no_dot zero x b e = not_empty x b e
no_dot (suc j) x b e = not_empty x b e

-- what stands behind S in a right side derives something
pub never_last : (A : Text) (j : ℕ) (b : List Symbol) (q : Production) → Contains brackets q → drop j q.right ≡ nonterminal A ∷ b →
    First0 (Contains brackets) b None → ⊥
never_last A j b q g d h = all_of (λ r. drop j r.right ≡ nonterminal A ∷ b → ⊥) brackets (by_inner j, (by_innermost j, tt)) q g d
  where
    by_inner : (j : ℕ) → drop j inner.right ≡ nonterminal A ∷ b → ⊥
    by_inner zero e =
        not_nonterminal (quoted 40) A
        (head_same (terminal (quoted 40)) (nonterminal A) (nonterminal s_name ∷ terminal closing ∷ []) b e)
    by_inner (suc zero) e =
        let same : terminal closing ∷ [] ≡ b = tail_same (nonterminal s_name) (nonterminal A) (terminal closing ∷ []) b e in
        never_empty b [] h (sym same) refl
    by_inner (suc (suc zero)) e = not_nonterminal closing A (head_same (terminal closing) (nonterminal A) [] b e)
    by_inner (suc (suc (suc k))) e = no_dot k (nonterminal A) b e

    by_innermost : (j : ℕ) → drop j innermost.right ≡ nonterminal A ∷ b → ⊥
    by_innermost zero e = not_nonterminal (quoted 120) A (head_same (terminal (quoted 120)) (nonterminal A) [] b e)
    by_innermost (suc k) e = no_dot k (nonterminal A) b e

module _ (Item : ℕ → Production → ℕ → Type 0) (Edge : ℕ → Symbol → ℕ → Type 0) where
  -- to items with the dot in front the end is carried in state 0 alone
  end_in_first : (n : ℕ) (q : Production) (j : ℕ) (x : Next) → Carries (Contains brackets) s_name Item Edge n q j x → j ≡ 0 →
      x ≡ None → n ≡ 0
  end_in_first n q j x (begins_with_end p g e) f h = refl
  end_in_first n q j x (shifts_next {i = i} X b m c d e) f h = absurd (omega (arith, f))
  end_in_first n q j x (starts_next b p t c d g e) f h = absurd (none_same t h)
  end_in_first n q j x (passes_next {p = p} {i = i} b r y c d g e) f h =
      absurd (never_last r.left i b p (carried_given (Contains brackets) s_name Item Edge n p i y c) d e)

  end_not_carried : Carries (Contains brackets) s_name Item Edge 1 innermost 0 None → ⊥
  end_not_carried c = omega (arith, end_in_first 1 innermost 0 None c refl refl)

  end_added : LaneAdds (Contains brackets) s_name Item Edge 1 innermost 0 1 None
  end_added = adds_end begins_lane refl

-- A state to which nothing leads, over `S = ` with the start S: states 0 and 1 both have its item, and no edges. They cover the items,
-- and the lane from the item in state 1 adds the end there, but nothing is carried there.
abbrev nothing : Production
nothing = production 0 s_name []

abbrev empty : List Production
empty = nothing ∷ []

data StandsAlone : ℕ → Production → ℕ → Type 0 where
  in_first : StandsAlone 0 nothing 0
  in_other : StandsAlone 1 nothing 0

abbrev NoEdge : ℕ → Symbol → ℕ → Type 0
NoEdge n x m = ⊥

no_next : (n : ℕ) (p : Production) (i : ℕ) (x : Symbol) (b : List Symbol) → StandsAlone n p i → drop i p.right ≡ x ∷ b → ⊥
no_next n p i x b in_first e = not_empty x b e
no_next n p i x b in_other e = not_empty x b e

closure_alone : (n : ℕ) (p : Production) (i : ℕ) → Closure (Contains empty) (StandsAlone n) p i → StandsAlone n p i
closure_alone n p i (in_kernel q j k) = k
closure_alone n p i (closed {p = q} {i = j} b r c d g) =
    absurd (no_next n q j (nonterminal r.left) b (closure_alone n q j c) d)

begun : (p : Production) (i : ℕ) → Closure (Contains empty) (IsBegun (Contains empty) s_name) p i → StandsAlone 0 p i
begun p i (in_kernel q j u) =
    subst (StandsAlone 0 q) (sym u.2)
    (subst (λ r. StandsAlone 0 r 0) (all_of (λ r. nothing ≡ r) empty (refl, tt) q u.0) in_first)
begun p i (closed {p = q} {i = j} b r c d g) = absurd (no_next 0 q j (nonterminal r.left) b (begun q j c) d)

covers : IsCover (Contains empty) s_name StandsAlone NoEdge
covers =
    record {
      start = λ p i. (start 0 p i, begun p i);
      onward = λ n p i x b k d. absurd (no_next n p i x b k d);
      one = λ n x m k e f. absurd e;
      next = λ n x m e p i. absurd e;
      only = λ n x m e. absurd e;
    }
  where
    start : (n : ℕ) (p : Production) (i : ℕ) → StandsAlone n p i →
        Closure (Contains empty) (IsBegun (Contains empty) s_name) p i
    start n p i in_first = in_kernel nothing 0 ((0, omega arith, refl), refl, refl)
    start n p i in_other = in_kernel nothing 0 ((0, omega arith, refl), refl, refl)

carried_first : (n : ℕ) (p : Production) (i : ℕ) (x : Next) → Carries (Contains empty) s_name StandsAlone NoEdge n p i x → n ≡ 0
carried_first n p i x (begins_with_end q g e) = refl
carried_first n p i x (shifts_next X b m c d e) = absurd e
carried_first n p i x (starts_next {p = q} {i = j} b r t c d g f) =
    absurd (no_next n q j (nonterminal r.left) b (closure_alone n q j c) d)
carried_first n p i x (passes_next {p = q} {i = j} b r y c d g f) = carried_first n q j y c

not_carried_there : Carries (Contains empty) s_name StandsAlone NoEdge 1 nothing 0 None → ⊥
not_carried_there c = omega (arith, carried_first 1 nothing 0 None c)

added_there : LaneAdds (Contains empty) s_name StandsAlone NoEdge 1 nothing 0 1 None
added_there = adds_end begins_lane refl

not_reached : IsReachedCover (Contains empty) s_name StandsAlone NoEdge → ⊥
not_reached states =
    not_carried_there
    ((lanes_carried (Contains empty) s_name StandsAlone NoEdge states 1 nothing 0 alone in_other None).1 (1, added_there))
  where
    alone : (q : Production) → Contains empty q → Contains q.right (nonterminal s_name) → ⊥
    alone q g = all_of (λ r. Contains r.right (nonterminal s_name) → ⊥) empty (nothing_in (nonterminal s_name), tt) q g

-- Carried lookaheads that conflict: `__S = S; S = "a" E "a", "b" E "b", "a" F "b" or "b" F "a"; E = "e"; F = "e"`. Of the states without
-- lookaheads here stand those behind `"a"`, 1, behind `"b"`, 2, and behind `"e"`, 3.
abbrev pub start_name : Text
start_name = name 95

abbrev pub a_token : Terminal
a_token = quoted 97

abbrev pub b_token : Terminal
b_token = quoted 98

abbrev pub e_token : Terminal
e_token = quoted 101

abbrev pub around : ℕ → Terminal → ℕ → Terminal → Production
around number left inside right = production number s_name (terminal left ∷ nonterminal (name inside) ∷ terminal right ∷ [])

abbrev pub by_e : Production
by_e = production 5 (name 69) (terminal e_token ∷ [])

abbrev pub by_f : Production
by_f = production 6 (name 70) (terminal e_token ∷ [])

abbrev pub contexts : List Production
contexts =
    production 0 start_name (nonterminal s_name ∷ []) ∷ around 1 a_token 69 a_token ∷ around 2 b_token 69 b_token
    ∷ around 3 a_token 70 b_token ∷ around 4 b_token 70 a_token ∷ by_e ∷ by_f ∷ []

pub e_given : Contains contexts by_e
e_given = (5, omega arith, refl)

pub f_given : Contains contexts by_f
f_given = (6, omega arith, refl)

data StandsIn : ℕ → Production → ℕ → Type 0 where
  a_e : StandsIn 1 (around 1 a_token 69 a_token) 1
  a_f : StandsIn 1 (around 3 a_token 70 b_token) 1
  b_e : StandsIn 2 (around 2 b_token 69 b_token) 1
  b_f : StandsIn 2 (around 4 b_token 70 a_token) 1
  e_first : (n : ℕ) → StandsIn n by_e 0
  f_first : (n : ℕ) → StandsIn n by_f 0
  e_done : StandsIn 3 by_e 1
  f_done : StandsIn 3 by_f 1

data LeadsOn : ℕ → Symbol → ℕ → Type 0 where
  a_leads : LeadsOn 1 (terminal e_token) 3
  b_leads : LeadsOn 2 (terminal e_token) 3

token_first : (t : Terminal) → First0 (Contains contexts) (terminal t ∷ []) (Some t)
token_first t = ([], keeps (terminal t) ends)

-- `"a"` is carried to both items that state 3 has finished: to the one from state 1, to the other from state 2
a_to_e : CarriesToFinished (Contains contexts) start_name StandsIn LeadsOn 3 by_e (Some a_token)
a_to_e = (
  e_done,
  shifts_next (terminal e_token) [] 3
      (starts_next (terminal a_token ∷ []) by_e a_token (in_kernel (around 1 a_token 69 a_token) 1 a_e) refl e_given
      (token_first a_token)) refl a_leads,
)

a_to_f : CarriesToFinished (Contains contexts) start_name StandsIn LeadsOn 3 by_f (Some a_token)
a_to_f = (
  f_done,
  shifts_next (terminal e_token) [] 3
      (starts_next (terminal a_token ∷ []) by_f a_token (in_kernel (around 4 b_token 70 a_token) 1 b_f) refl f_given
      (token_first a_token)) refl b_leads,
)

conflicts : HasNoCarriedConflict (Contains contexts) start_name StandsIn LeadsOn → ⊥
conflicts none =
    omega (arith, name_same 69 70 (ap (λ p. p.left) (none.reductions_apart 3 by_e by_f (Some a_token) a_to_e a_to_f)))

-- their lanes add it there, so the columns of the two reductions meet
e_adds : LaneAdds (Contains contexts) start_name StandsIn LeadsOn 3 by_e 1 1 (Some a_token)
e_adds =
    adds_first (around 1 a_token 69 a_token) 1 (terminal a_token ∷ []) a_token
    (steps_back (terminal e_token) [] 1 begins_lane refl a_leads) a_e refl (token_first a_token)

f_adds : LaneAdds (Contains contexts) start_name StandsIn LeadsOn 3 by_f 1 2 (Some a_token)
f_adds =
    adds_first (around 4 b_token 70 a_token) 1 (terminal a_token ∷ []) a_token
    (steps_back (terminal e_token) [] 2 begins_lane refl b_leads) b_f refl (token_first a_token)

abbrev entries : List (ℕ × List Next)
entries =
    (0, Some a_token ∷ []) ∷ (0, Some b_token ∷ []) ∷ (1, Some b_token ∷ []) ∷ (1, Some a_token ∷ []) ∷ []

do_not_fit : AllFitBeside HasNextIn [] entries → ⊥
do_not_fit fit =
    omega (
      arith,
      fit.1.1.0 0 (Some b_token) (Some b_token ∷ [], contains_here (0, Some b_token ∷ []) ((0, Some a_token ∷ []) ∷ []), contains_here (Some b_token) [])
          (contains_here (Some b_token) []),
    )
