-- Computed examples of LALR(1) grammars at the edges: a start on right sides, equal productions, empty words and a barren nonterminal.
use Rattle.std.proofs.Common.{◌≡◌, ◌++◌, ℕ, suc, List, [], ◌∷◌, Option, drop, length, None, Some, Contains, refl, sym, ap, subst}
use Rattle.std.proofs.Common.{◌∙◌, zero, inl, inr, arith}
use Rattle.lalrpop_grammar_symbols.specs.Symbols.{Terminal, Text}
use Rattle.lalrpop_lr1_theory.specs.Productions.{Next, Production, Symbol, nonterminal, terminal}
use Rattle.lalrpop_lr1_theory.specs.FirstSets.{First0, IsClosedTable, TableSays, ends, keeps}
use Rattle.lalrpop_lr1_theory.proofs.ExampleLemmas.{head_same, name, name_same, not_empty, not_nonterminal, not_terminal, production}
use Rattle.lalrpop_lr1_theory.proofs.ExampleLemmas.{nonterminal_is, quoted, tail_same}
use Rattle.lalrpop_lr1_theory.proofs.FirstTableLemmas.{said_first}
use Rattle.lalrpop_lr1_theory.proofs.ListLemmas.{all_of}
use Rattle.lalrpop_lane_theory.specs.Lalr1Grammars.{IsCanonicalItem, IsLalr1, begins_there, brings_there, ends_after, moves_over}
use Rattle.lalrpop_lane_theory.specs.Lalr1Grammars.{passes_after, starts_after}
use Rattle.lalrpop_lane_theory.proofs.ExamplesOfLalr1Grammars.{given, there}
use Rattle.lalrpop_lane_theory.proofs.ExamplesOfPremises.{brackets, innermost, never_last, no_dot, s_name, start_name}

-- A start on a right side, `S = "(" S ")" or "x"`: the end may follow an item with its dot in front on no symbols alone, so not
-- behind the bracket, where S begins anew.
end_in_front : (g : List Symbol) (p : Production) (i : ℕ) (m : Option Next) → IsCanonicalItem (Contains brackets) s_name g p i m →
    i ≡ 0 → m ≡ Some None → g ≡ []
end_in_front g p i m (begins_there q u e) f k = refl
end_in_front g p i m (ends_after q u e) f k = refl
end_in_front g p i m (moves_over X b c d) f k = absurd (omega (arith, f))
end_in_front g p i m (brings_there b r c d u) f k = let z : ⊥ = cc in absurd z
end_in_front g p i m (starts_after b r t c d u h) f k = let z : ⊥ = cc in absurd z
end_in_front g p i m (passes_after {p = q} {i = j} b r x c d u h) f k =
    absurd (never_last r.left j b q (given (Contains brackets) s_name g q j (Some x) c) d h)

no_end_inside : IsCanonicalItem (Contains brackets) s_name (terminal (quoted 40) ∷ []) innermost 0 (Some None) → ⊥
no_end_inside c =
    not_empty (terminal (quoted 40)) [] (sym (end_in_front (terminal (quoted 40) ∷ []) innermost 0 (Some None) c refl refl))

-- A start that derives itself, `S = S or "x"`: each finished item stands alone, since no item says that the whole is read. So this
-- is LALR(1), though it is ambiguous.
abbrev itself : Production
itself = production 1 s_name (nonterminal s_name ∷ [])

abbrev by_x : Production
by_x = production 2 s_name (terminal (quoted 120) ∷ [])

abbrev loops : List Production
loops = itself ∷ by_x ∷ []

data StandsOn : List Symbol → Production → ℕ → Type 0 where
  itself_first : StandsOn [] itself 0
  x_first : StandsOn [] by_x 0
  itself_done : StandsOn (nonterminal s_name ∷ []) itself 1
  x_done : StandsOn (terminal (quoted 120) ∷ []) by_x 1

moved_on : (g : List Symbol) (p : Production) (i : ℕ) (x : Symbol) (b : List Symbol) → StandsOn g p i → drop i p.right ≡ x ∷ b →
    StandsOn (g ++ x ∷ []) p (suc i)
moved_on g p i x b itself_first d =
    subst (λ y. StandsOn (y ∷ []) itself 1) (head_same (nonterminal s_name) x [] b d) itself_done
moved_on g p i x b x_first d = subst (λ y. StandsOn (y ∷ []) by_x 1) (head_same (terminal (quoted 120)) x [] b d) x_done
moved_on g p i x b itself_done d = absurd (not_empty x b d)
moved_on g p i x b x_done d = absurd (not_empty x b d)

brought_on : (g : List Symbol) (p : Production) (i : ℕ) (r : Production) (b : List Symbol) → StandsOn g p i →
    drop i p.right ≡ nonterminal r.left ∷ b → Contains loops r → StandsOn g r 0
brought_on g p i r b itself_first d u = all_of (λ q. StandsOn [] q 0) loops (itself_first, (x_first, tt)) r u
brought_on g p i r b x_first d u =
    absurd (not_nonterminal (quoted 120) r.left (head_same (terminal (quoted 120)) (nonterminal r.left) [] b d))
brought_on g p i r b itself_done d u = absurd (not_empty (nonterminal r.left) b d)
brought_on g p i r b x_done d u = absurd (not_empty (nonterminal r.left) b d)

stands_on : (g : List Symbol) (p : Production) (i : ℕ) (m : Option Next) → IsCanonicalItem (Contains loops) s_name g p i m →
    StandsOn g p i
stands_on g p i m (begins_there q u e) = all_of (λ r. StandsOn [] r 0) loops (itself_first, (x_first, tt)) q u
stands_on g p i m (ends_after q u e) = all_of (λ r. StandsOn [] r 0) loops (itself_first, (x_first, tt)) q u
stands_on g p i m (moves_over {g = h} {i = j} X b c d) = moved_on h p j X b (stands_on h p j m c) d
stands_on g p i m (brings_there {p = q} {i = j} b r c d u) = brought_on g q j r b (stands_on g q j None c) d u
stands_on g p i m (starts_after {p = q} {i = j} b r t c d u f) = brought_on g q j r b (stands_on g q j None c) d u
stands_on g p i m (passes_after {p = q} {i = j} b r x c d u f) = brought_on g q j r b (stands_on g q j (Some x) c) d u

-- a finished item stands alone
done_alone : (g h : List Symbol) (p q : Production) (i j : ℕ) → StandsOn g p i → StandsOn h q j → i ≡ length p.right → g ≡ h →
    (p ≡ q) × (j ≡ 1)
done_alone g h p q i j itself_done itself_done e f = (refl, refl)
done_alone g h p q i j x_done x_done e f = (refl, refl)
done_alone g h p q i j itself_done x_done e f =
    absurd (not_terminal (quoted 120) s_name (head_same (nonterminal s_name) (terminal (quoted 120)) [] [] f))
done_alone g h p q i j x_done itself_done e f =
    absurd (not_nonterminal (quoted 120) s_name (head_same (terminal (quoted 120)) (nonterminal s_name) [] [] f))
done_alone g h p q i j itself_done itself_first e f = absurd (not_empty (nonterminal s_name) [] (sym f))
done_alone g h p q i j itself_done x_first e f = absurd (not_empty (nonterminal s_name) [] (sym f))
done_alone g h p q i j x_done itself_first e f = absurd (not_empty (terminal (quoted 120)) [] (sym f))
done_alone g h p q i j x_done x_first e f = absurd (not_empty (terminal (quoted 120)) [] (sym f))
done_alone g h p q i j itself_first other e f = absurd (omega (arith, e))
done_alone g h p q i j x_first other e f = absurd (omega (arith, e))

nothing_behind : (g : List Symbol) (q : Production) (i : ℕ) (x : Symbol) (b : List Symbol) → StandsOn g q i → i ≡ 1 →
    drop i q.right ≡ x ∷ b → ⊥
nothing_behind g q i x b itself_done e d = not_empty x b d
nothing_behind g q i x b x_done e d = not_empty x b d
nothing_behind g q i x b itself_first e d = omega (arith, e)
nothing_behind g q i x b x_first e d = omega (arith, e)

loops_are : IsLalr1 (Contains loops) s_name
loops_are =
    record {
      reductions_apart = λ g h p q x same a b.
          (done_alone h h p q (length p.right) (length q.right)
          (stands_on h p (length p.right) None
          ((same p (length p.right)).0 (there (Contains loops) s_name g p (length p.right) (Some x) a)))
          (stands_on h q (length q.right) (Some x) b) refl refl).0;
      shifts_apart = λ g h p q i t b same a c d.
          let it = stands_on g q i None ((same q i).1 c) in
          let one = done_alone g g p q (length p.right) i (stands_on g p (length p.right) (Some (Some t)) a) it refl refl in
          nothing_behind g q i (terminal t) b it one.1 d;
    }

-- Under a start of its own, `__S = S; S = S or "x"`, it isn't: on S the productions of both are finished, and the end may follow.
abbrev whole : Production
whole = production 0 start_name (nonterminal s_name ∷ [])

abbrev started : List Production
started = whole ∷ itself ∷ by_x ∷ []

end_after_whole : (i : ℕ) → i ≡ 0 → IsCanonicalItem (Contains started) start_name [] whole 0 (Some None)
end_after_whole i e = ends_after whole (0, omega arith, refl) refl

started_are_not : IsLalr1 (Contains started) start_name → ⊥
started_are_not lalr1 =
    omega (
      arith,
      name_same 95 83
          (ap (λ p. p.left)
          (lalr1.reductions_apart (nonterminal s_name ∷ []) (nonterminal s_name ∷ []) whole itself None (λ p i. (λ c. c, λ c. c))
          (moves_over (nonterminal s_name) [] (end_after_whole 0 refl) refl)
          (moves_over (nonterminal s_name) []
          (passes_after [] itself None (end_after_whole 0 refl) refl (1, omega arith, refl) ends) refl))),
    )

-- Two productions that differ in their numbers alone, `S = "x"` twice: both are finished on `"x"`.
abbrev twice : List Production
twice = production 0 s_name (terminal (quoted 120) ∷ []) ∷ production 1 s_name (terminal (quoted 120) ∷ []) ∷ []

x_on : (k : ℕ) → Contains twice (production k s_name (terminal (quoted 120) ∷ [])) →
    IsCanonicalItem (Contains twice) s_name (terminal (quoted 120) ∷ []) (production k s_name (terminal (quoted 120) ∷ [])) 1 (Some None)
x_on k u = moves_over (terminal (quoted 120)) [] (ends_after (production k s_name (terminal (quoted 120) ∷ [])) u refl) refl

twice_are_not : IsLalr1 (Contains twice) s_name → ⊥
twice_are_not lalr1 =
    omega (
      arith,
      ap (λ p. p.action)
          (lalr1.reductions_apart (terminal (quoted 120) ∷ []) (terminal (quoted 120) ∷ [])
          (production 0 s_name (terminal (quoted 120) ∷ [])) (production 1 s_name (terminal (quoted 120) ∷ [])) None
          (λ p i. (λ c. c, λ c. c)) (x_on 0 (0, omega arith, refl)) (x_on 1 (1, omega arith, refl))),
    )

-- Two nonterminals that derive the empty word alone, `S = E or F; E = ; F = `: on no symbols both are finished, before the end.
abbrev one_of : ℕ → ℕ → Production
one_of k n = production k s_name (nonterminal (name n) ∷ [])

abbrev empty_word : ℕ → ℕ → Production
empty_word k n = production k (name n) []

abbrev empty_words : List Production
empty_words = one_of 0 69 ∷ one_of 1 70 ∷ empty_word 2 69 ∷ empty_word 3 70 ∷ []

empty_on : (k l n : ℕ) → Contains empty_words (one_of k n) → Contains empty_words (empty_word l n) →
    IsCanonicalItem (Contains empty_words) s_name [] (empty_word l n) 0 (Some None)
empty_on k l n u v = passes_after [] (empty_word l n) None (ends_after (one_of k n) u refl) refl v ends

empty_words_are_not : IsLalr1 (Contains empty_words) s_name → ⊥
empty_words_are_not lalr1 =
    omega (
      arith,
      ap (λ p. p.action)
          (lalr1.reductions_apart [] [] (empty_word 2 69) (empty_word 3 70) None (λ p i. (λ c. c, λ c. c))
          (empty_on 0 2 69 (0, omega arith, refl) (2, omega arith, refl)) (empty_on 1 3 70 (1, omega arith, refl) (3, omega arith, refl))),
    )

-- A barren nonterminal, D of `S = E "t" or B D; E = ; B = "t"; D = D`: nothing may ever follow `B = (*) "t"`, but the item is there,
-- as it is without lookaheads. So `"t"` is shifted on no symbols, where E is finished before it.
abbrev t_token : Terminal
t_token = quoted 116

abbrev before_t : Production
before_t = production 0 s_name (nonterminal (name 69) ∷ terminal t_token ∷ [])

abbrev before_barren : Production
before_barren = production 1 s_name (nonterminal (name 66) ∷ nonterminal (name 68) ∷ [])

abbrev no_e : Production
no_e = production 2 (name 69) []

abbrev by_t : Production
by_t = production 3 (name 66) (terminal t_token ∷ [])

abbrev barren : List Production
barren = before_t ∷ before_barren ∷ no_e ∷ by_t ∷ production 4 (name 68) (nonterminal (name 68) ∷ []) ∷ []

barren_are_not : IsLalr1 (Contains barren) s_name → ⊥
barren_are_not lalr1 =
    lalr1.shifts_apart [] [] no_e by_t 0 t_token [] (λ p i. (λ c. c, λ c. c))
    (starts_after (terminal t_token ∷ []) no_e t_token (begins_there before_t (0, omega arith, refl) refl) refl (2, omega arith, refl)
    ([], keeps (terminal t_token) ends))
    (brings_there (nonterminal (name 68) ∷ []) by_t (begins_there before_barren (1, omega arith, refl) refl) refl (3, omega arith, refl))
    refl

-- A table of what may come first that has nothing for D is closed, so D begins with nothing, and doesn't end.
abbrev NotBarren : Text → Next → Type 0
NotBarren A x = A ≡ name 68 → ⊥

is_closed : IsClosedTable (Contains barren) NotBarren
is_closed p x u h =
    all_of (λ q. (y : Next) → TableSays NotBarren q.right y → NotBarren q.left y) barren (
      (λ y k z. omega (arith, name_same 83 68 z)),
      (
        (λ y k z. omega (arith, name_same 83 68 z)),
        ((λ y k z. omega (arith, name_same 69 68 z)), ((λ y k z. omega (arith, name_same 66 68 z)), (of_itself, tt))),
      ),
    ) p u x h
  where
    of_itself : (y : Next) → TableSays NotBarren (nonterminal (name 68) ∷ []) y → NotBarren (name 68) y
    of_itself None k z = k.0 z
    of_itself (Some t) (inl k) z = k z
    of_itself (Some t) (inr k) z = k.0 z

derives_nothing : (x : Next) → First0 (Contains barren) (nonterminal (name 68) ∷ []) x → ⊥
derives_nothing x f = go x (said_first (Contains barren) NotBarren is_closed (nonterminal (name 68) ∷ []) x f)
  where
    go : (y : Next) → TableSays NotBarren (nonterminal (name 68) ∷ []) y → ⊥
    go None k = k.0 refl
    go (Some t) (inl k) = k refl
    go (Some t) (inr k) = k.0 refl

-- behind B stands D
behind_b : (q : Production) (j : ℕ) (b : List Symbol) → Contains barren q → drop j q.right ≡ nonterminal (name 66) ∷ b →
    nonterminal (name 68) ∷ [] ≡ b
behind_b q j b u d =
    all_of (λ r. drop j r.right ≡ nonterminal (name 66) ∷ b → nonterminal (name 68) ∷ [] ≡ b) barren
    (of_t j, (of_barren j, (of_nothing j, (of_token j, (of_itself j, tt))))) q u d
  where
    of_nothing : (j : ℕ) → drop j [] ≡ nonterminal (name 66) ∷ b → nonterminal (name 68) ∷ [] ≡ b
    of_nothing j e = absurd (no_dot j (nonterminal (name 66)) b e)

    of_token : (j : ℕ) → drop j (terminal t_token ∷ []) ≡ nonterminal (name 66) ∷ b → nonterminal (name 68) ∷ [] ≡ b
    of_token zero e = absurd (not_nonterminal t_token (name 66) (head_same (terminal t_token) (nonterminal (name 66)) [] b e))
    of_token (suc k) e = of_nothing k e

    of_itself : (j : ℕ) → drop j (nonterminal (name 68) ∷ []) ≡ nonterminal (name 66) ∷ b → nonterminal (name 68) ∷ [] ≡ b
    of_itself zero e =
        let f = nonterminal_is (name 68) (name 66) (head_same (nonterminal (name 68)) (nonterminal (name 66)) [] b e) in
        absurd (omega (arith, name_same 68 66 f))
    of_itself (suc k) e = of_nothing k e

    of_t : (j : ℕ) → drop j before_t.right ≡ nonterminal (name 66) ∷ b → nonterminal (name 68) ∷ [] ≡ b
    of_t zero e =
        let f = nonterminal_is (name 69) (name 66)
        (head_same (nonterminal (name 69)) (nonterminal (name 66)) (terminal t_token ∷ []) b e) in
        absurd (omega (arith, name_same 69 66 f))
    of_t (suc k) e = of_token k e

    of_barren : (j : ℕ) → drop j before_barren.right ≡ nonterminal (name 66) ∷ b → nonterminal (name 68) ∷ [] ≡ b
    of_barren zero e = tail_same (nonterminal (name 66)) (nonterminal (name 66)) (nonterminal (name 68) ∷ []) b e
    of_barren (suc k) e = of_itself k e

-- so neither a terminal nor the end may follow the item
nothing_follows : (g : List Symbol) (p : Production) (i : ℕ) (m : Option Next) → IsCanonicalItem (Contains barren) s_name g p i m →
    p ≡ by_t → (x : Next) → m ≡ Some x → ⊥
nothing_follows g p i m (begins_there q u e) k x f = cc
nothing_follows g p i m (ends_after q u e) k x f =
    let z : q.left ≡ name 66 = ap (λ r. r.left) k in omega (arith, name_same 83 66 (sym e ∙ z))
nothing_follows g p i m (moves_over {g = h} {i = j} X b c d) k x f = nothing_follows h p j m c k x f
nothing_follows g p i m (brings_there b r c d u) k x f = cc
nothing_follows g p i m (starts_after {p = q} {i = j} b r t c d u h) k x f =
    let d' = subst (λ y. drop j q.right ≡ nonterminal y.left ∷ b) k d in
    derives_nothing (Some t)
    (subst (λ xs. First0 (Contains barren) xs (Some t)) (sym (behind_b q j b (given (Contains barren) s_name g q j None c) d')) h)
nothing_follows g p i m (passes_after {p = q} {i = j} b r y c d u h) k x f =
    let d' = subst (λ y. drop j q.right ≡ nonterminal y.left ∷ b) k d in
    derives_nothing None
    (subst (λ xs. First0 (Contains barren) xs None) (sym (behind_b q j b (given (Contains barren) s_name g q j (Some y) c) d')) h)

-- Empty words that come one behind the other, `S = E F; E = ; F = `: each is finished on other symbols, and nothing is shifted.
abbrev in_turn : Production
in_turn = production 0 s_name (nonterminal (name 69) ∷ nonterminal (name 70) ∷ [])

abbrev turns : List Production
turns = in_turn ∷ empty_word 1 69 ∷ empty_word 2 70 ∷ []

data TurnsOn : List Symbol → Production → ℕ → Type 0 where
  none_yet : TurnsOn [] in_turn 0
  e_empty : TurnsOn [] (empty_word 1 69) 0
  one_yet : TurnsOn (nonterminal (name 69) ∷ []) in_turn 1
  f_empty : TurnsOn (nonterminal (name 69) ∷ []) (empty_word 2 70) 0
  both_yet : TurnsOn (nonterminal (name 69) ∷ nonterminal (name 70) ∷ []) in_turn 2

turn_moves : (g : List Symbol) (p : Production) (i : ℕ) (x : Symbol) (b : List Symbol) → TurnsOn g p i → drop i p.right ≡ x ∷ b →
    TurnsOn (g ++ x ∷ []) p (suc i)
turn_moves g p i x b none_yet d =
    subst (λ y. TurnsOn (y ∷ []) in_turn 1) (head_same (nonterminal (name 69)) x (nonterminal (name 70) ∷ []) b d) one_yet
turn_moves g p i x b one_yet d =
    subst (λ y. TurnsOn (nonterminal (name 69) ∷ y ∷ []) in_turn 2) (head_same (nonterminal (name 70)) x [] b d) both_yet
turn_moves g p i x b e_empty d = absurd (not_empty x b d)
turn_moves g p i x b f_empty d = absurd (not_empty x b d)
turn_moves g p i x b both_yet d = absurd (not_empty x b d)

turn_brings : (g : List Symbol) (p : Production) (i : ℕ) (r : Production) (b : List Symbol) → TurnsOn g p i →
    drop i p.right ≡ nonterminal r.left ∷ b → Contains turns r → TurnsOn g r 0
turn_brings g p i r b none_yet d u =
    all_of (λ q. name 69 ≡ q.left → TurnsOn [] q 0) turns
    ((λ h. absurd (omega (arith, name_same 69 83 h))), ((λ h. e_empty), ((λ h. absurd (omega (arith, name_same 69 70 h))), tt))) r u
    (nonterminal_is (name 69) r.left (head_same (nonterminal (name 69)) (nonterminal r.left) (nonterminal (name 70) ∷ []) b d))
turn_brings g p i r b one_yet d u =
    all_of (λ q. name 70 ≡ q.left → TurnsOn (nonterminal (name 69) ∷ []) q 0) turns
    ((λ h. absurd (omega (arith, name_same 70 83 h))), ((λ h. absurd (omega (arith, name_same 70 69 h))), ((λ h. f_empty), tt))) r u
    (nonterminal_is (name 70) r.left (head_same (nonterminal (name 70)) (nonterminal r.left) [] b d))
turn_brings g p i r b e_empty d u = absurd (not_empty (nonterminal r.left) b d)
turn_brings g p i r b f_empty d u = absurd (not_empty (nonterminal r.left) b d)
turn_brings g p i r b both_yet d u = absurd (not_empty (nonterminal r.left) b d)

turn_begins : (r : Production) → Contains turns r → r.left ≡ s_name → TurnsOn [] r 0
turn_begins r u e =
    all_of (λ q. q.left ≡ s_name → TurnsOn [] q 0) turns
    ((λ h. none_yet), ((λ h. absurd (omega (arith, name_same 69 83 h))), ((λ h. absurd (omega (arith, name_same 70 83 h))), tt))) r u e

turns_on : (g : List Symbol) (p : Production) (i : ℕ) (m : Option Next) → IsCanonicalItem (Contains turns) s_name g p i m →
    TurnsOn g p i
turns_on g p i m (begins_there q u e) = turn_begins q u e
turns_on g p i m (ends_after q u e) = turn_begins q u e
turns_on g p i m (moves_over {g = h} {i = j} X b c d) = turn_moves h p j X b (turns_on h p j m c) d
turns_on g p i m (brings_there {p = q} {i = j} b r c d u) = turn_brings g q j r b (turns_on g q j None c) d u
turns_on g p i m (starts_after {p = q} {i = j} b r t c d u f) = turn_brings g q j r b (turns_on g q j None c) d u
turns_on g p i m (passes_after {p = q} {i = j} b r x c d u f) = turn_brings g q j r b (turns_on g q j (Some x) c) d u

turn_alone : (g h : List Symbol) (p q : Production) (i j : ℕ) → TurnsOn g p i → TurnsOn h q j → i ≡ length p.right →
    j ≡ length q.right → length g ≡ length h → p ≡ q
turn_alone g h p q i j e_empty e_empty e f k = refl
turn_alone g h p q i j f_empty f_empty e f k = refl
turn_alone g h p q i j both_yet both_yet e f k = refl
turn_alone g h p q i j it other e f k = absurd (omega (arith, e, f, k))

no_terminal : (g : List Symbol) (q : Production) (i : ℕ) (t : Terminal) (b : List Symbol) → TurnsOn g q i →
    drop i q.right ≡ terminal t ∷ b → ⊥
no_terminal g q i t b none_yet d =
    not_terminal t (name 69) (head_same (nonterminal (name 69)) (terminal t) (nonterminal (name 70) ∷ []) b d)
no_terminal g q i t b one_yet d = not_terminal t (name 70) (head_same (nonterminal (name 70)) (terminal t) [] b d)
no_terminal g q i t b e_empty d = not_empty (terminal t) b d
no_terminal g q i t b f_empty d = not_empty (terminal t) b d
no_terminal g q i t b both_yet d = not_empty (terminal t) b d

turns_are : IsLalr1 (Contains turns) s_name
turns_are =
    record {
      reductions_apart = λ g h p q x same a b.
          turn_alone h h p q (length p.right) (length q.right)
          (turns_on h p (length p.right) None
          ((same p (length p.right)).0 (there (Contains turns) s_name g p (length p.right) (Some x) a)))
          (turns_on h q (length q.right) (Some x) b) refl refl refl;
      shifts_apart = λ g h p q i t b same a c d. no_terminal h q i t b (turns_on h q i None c) d;
    }
