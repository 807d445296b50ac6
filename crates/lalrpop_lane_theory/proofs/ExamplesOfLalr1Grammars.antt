-- Computed examples of LALR(1) grammars: some that are, and some that aren't, by two reductions or by a shift and a reduction.
use Rattle.std.proofs.Common.{◌≡◌, ◌⊎◌, ◌++◌, ℕ, zero, suc, List, [], ◌∷◌, Option, drop, length, None, Some, Contains, refl, sym, ap}
use Rattle.std.proofs.Common.{inl, inr, arith, subst}
use Rattle.lalrpop_grammar_symbols.specs.Symbols.{Terminal, Text}
use Rattle.lalrpop_lr1_theory.specs.Productions.{Next, Production, Symbol, nonterminal, terminal}
use Rattle.lalrpop_lr1_theory.specs.FirstSets.{ends, keeps}
use Rattle.lalrpop_lr1_theory.specs.Automata.{Walk, goes, stands}
use Rattle.lalrpop_lr1_theory.proofs.ExampleLemmas.{head_same, name, name_same, nonterminal_is, not_empty}
use Rattle.lalrpop_lr1_theory.proofs.ExampleLemmas.{not_nonterminal, not_terminal, nothing_in, production, quoted, quoted_same, tail_same}
use Rattle.lalrpop_lr1_theory.proofs.ExampleLemmas.{terminal_same}
use Rattle.lalrpop_lr1_theory.proofs.ListLemmas.{all_of}
use Rattle.lalrpop_lr1_theory.proofs.WalkLemmas.{walk_one}
use Rattle.lalrpop_lane_theory.specs.Lalr1Grammars.{HaveOneCoreOn, IsCanonicalItem, IsLalr1, begins_there, brings_there, ends_after}
use Rattle.lalrpop_lane_theory.specs.Lalr1Grammars.{moves_over, passes_after, starts_after}
use Rattle.lalrpop_lane_theory.proofs.ExamplesOfLanes.{BeginsC, LeadsOn, StandsIn, at_first, behind_c, behind_one, by_c, by_d, by_more}
use Rattle.lalrpop_lane_theory.proofs.ExamplesOfLanes.{by_one, by_s, by_two, c_ends, c_more, c_name, c_token, d_token, ends_done}
use Rattle.lalrpop_lane_theory.proofs.ExamplesOfLanes.{ends_first, finished_last, finished_one, leads_from, more_done, more_first}
use Rattle.lalrpop_lane_theory.proofs.ExamplesOfLanes.{more_second, s_name, start_done, start_first, two_c, two_done, two_first}
use Rattle.lalrpop_lane_theory.proofs.ExamplesOfLanes.{two_second}
use Rattle.lalrpop_lane_theory.proofs.ExamplesOfPremises.{a_token, around, b_token, by_e, by_f, contexts, e_given, e_token, f_given}
use Rattle.lalrpop_lane_theory.proofs.ExamplesOfPremises.{no_dot, start_name}

-- The grammar with no productions is, whatever the start: nothing stands anywhere.
nothing_stands : (s : Text) (g : List Symbol) (p : Production) (i : ℕ) (m : Option Next) → IsCanonicalItem (Contains []) s g p i m → ⊥
nothing_stands s g p i m (begins_there q h e) = nothing_in q h
nothing_stands s g p i m (ends_after q h e) = nothing_in q h
nothing_stands s g p i m (moves_over {g = h} {i = j} X b c d) = nothing_stands s h p j m c
nothing_stands s g p i m (brings_there b r c d u) = nothing_in r u
nothing_stands s g p i m (starts_after b r t c d u f) = nothing_in r u
nothing_stands s g p i m (passes_after b r x c d u f) = nothing_in r u

empty_is : (s : Text) → IsLalr1 (Contains []) s
empty_is s =
    record {
      reductions_apart = λ g h p q x same a b. absurd (nothing_stands s g p (length p.right) (Some x) a);
      shifts_apart = λ g h p q i t b same a c d. absurd (nothing_stands s g p (length p.right) (Some (Some t)) a);
    }

-- what is marked at an item stands there
pub there : (G : Production → Type 0) (s : Text) (g : List Symbol) (p : Production) (i : ℕ) (m : Option Next) →
    IsCanonicalItem G s g p i m → IsCanonicalItem G s g p i None
there G s g p i m (begins_there q h e) = begins_there q h e
there G s g p i m (ends_after q h e) = begins_there q h e
there G s g p i m (moves_over {g = h} {i = j} X b c d) = moves_over X b (there G s h p j m c) d
there G s g p i m (brings_there b r c d u) = brings_there b r c d u
there G s g p i m (starts_after b r t c d u f) = brings_there b r c d u
there G s g p i m (passes_after {p = q} {i = j} b r x c d u f) = brings_there b r (there G s g q j (Some x) c) d u

-- the productions of what is marked are the grammar's
pub given : (G : Production → Type 0) (s : Text) (g : List Symbol) (p : Production) (i : ℕ) (m : Option Next) →
    IsCanonicalItem G s g p i m → G p
given G s g p i m (begins_there q u e) = u
given G s g p i m (ends_after q u e) = u
given G s g p i m (moves_over {g = h} {i = j} X b c d) = given G s h p j m c
given G s g p i m (brings_there b r c d u) = u
given G s g p i m (starts_after b r t c d u f) = u
given G s g p i m (passes_after b r x c d u f) = u

-- Sums, `S = S "+" S or "x"`: on `S "+" S` the first production is finished, `"+"` may follow it, and stands after the dot of its other
-- item.
abbrev plus : Terminal
plus = quoted 43

abbrev sum : Production
sum = production 0 s_name (nonterminal s_name ∷ terminal plus ∷ nonterminal s_name ∷ [])

abbrev sums : List Production
sums = sum ∷ production 1 s_name (terminal (quoted 120) ∷ []) ∷ []

sum_given : Contains sums sum
sum_given = (0, omega arith, refl)

abbrev one_sum : List Symbol
one_sum = nonterminal s_name ∷ terminal plus ∷ nonterminal s_name ∷ []

-- past its three symbols what may follow the sum stays the same
past_sum : (m : Option Next) → IsCanonicalItem (Contains sums) s_name [] sum 0 m →
    IsCanonicalItem (Contains sums) s_name one_sum sum 3 m
past_sum m c =
    moves_over (nonterminal s_name) []
    (moves_over (terminal plus) (nonterminal s_name ∷ [])
    (moves_over (nonterminal s_name) (terminal plus ∷ nonterminal s_name ∷ []) c refl) refl) refl

sum_there : IsCanonicalItem (Contains sums) s_name [] sum 0 None
sum_there = begins_there sum sum_given refl

sum_before_plus : IsCanonicalItem (Contains sums) s_name one_sum sum 3 (Some (Some plus))
sum_before_plus =
    past_sum (Some (Some plus))
    (starts_after (terminal plus ∷ nonterminal s_name ∷ []) sum plus sum_there refl sum_given
    (nonterminal s_name ∷ [], keeps (terminal plus) (keeps (nonterminal s_name) ends)))

plus_shifted : IsCanonicalItem (Contains sums) s_name one_sum sum 1 None
plus_shifted =
    moves_over (nonterminal s_name) (terminal plus ∷ nonterminal s_name ∷ [])
    (brings_there [] sum
    (moves_over (terminal plus) (nonterminal s_name ∷ [])
    (moves_over (nonterminal s_name) (terminal plus ∷ nonterminal s_name ∷ []) sum_there refl) refl) refl sum_given) refl

sums_are_not : IsLalr1 (Contains sums) s_name → ⊥
sums_are_not lalr1 =
    lalr1.shifts_apart one_sum one_sum sum sum 1 plus (nonterminal s_name ∷ []) (λ p i. (λ c. c, λ c. c)) sum_before_plus plus_shifted
    refl

-- `S = C C; C = "c" C or "d"`, from S: whatever is marked on symbols stands in the state to which they lead, of the seven without
-- lookaheads; and there a finished item stands alone.
abbrev two_cs : List Production
two_cs = two_c ∷ c_more ∷ c_ends ∷ []

c_begun : (n : ℕ) (r : Production) → BeginsC n → Contains two_cs r → r.left ≡ c_name → StandsIn n r 0
c_begun n r o u e =
    all_of (λ q. q.left ≡ c_name → StandsIn n q 0) two_cs
    (λ h. absurd (omega (arith, name_same 83 67 h)), ((λ h. more_first n o), ((λ h. ends_first n o), tt))) r u e

s_begun : (r : Production) → Contains two_cs r → r.left ≡ s_name → StandsIn 0 r 0
s_begun r u e =
    all_of (λ q. q.left ≡ s_name → StandsIn 0 q 0) two_cs
    (λ h. two_first, ((λ h. absurd (omega (arith, name_same 67 83 h))), ((λ h. absurd (omega (arith, name_same 67 83 h))), tt))) r u e

brought : (n : ℕ) (q : Production) (j : ℕ) (r : Production) (b : List Symbol) → StandsIn n q j →
    drop j q.right ≡ nonterminal r.left ∷ b → Contains two_cs r → StandsIn n r 0
brought n q j r b start_first d u =
    s_begun r u (sym (nonterminal_is s_name r.left (head_same (nonterminal s_name) (nonterminal r.left) [] b d)))
brought n q j r b two_first d u =
    c_begun 0 r at_first u
    (sym (nonterminal_is c_name r.left (head_same (nonterminal c_name) (nonterminal r.left) (nonterminal c_name ∷ []) b d)))
brought n q j r b two_second d u =
    c_begun 2 r behind_one u (sym (nonterminal_is c_name r.left (head_same (nonterminal c_name) (nonterminal r.left) [] b d)))
brought n q j r b more_second d u =
    c_begun 3 r behind_c u (sym (nonterminal_is c_name r.left (head_same (nonterminal c_name) (nonterminal r.left) [] b d)))
brought n q j r b (more_first m o) d u =
    absurd (not_nonterminal c_token r.left (head_same (terminal c_token) (nonterminal r.left) (nonterminal c_name ∷ []) b d))
brought n q j r b (ends_first m o) d u =
    absurd (not_nonterminal d_token r.left (head_same (terminal d_token) (nonterminal r.left) [] b d))
brought n q j r b start_done d u = absurd (not_empty (nonterminal r.left) b d)
brought n q j r b ends_done d u = absurd (not_empty (nonterminal r.left) b d)
brought n q j r b two_done d u = absurd (not_empty (nonterminal r.left) b d)
brought n q j r b more_done d u = absurd (not_empty (nonterminal r.left) b d)

-- the dot moves on in the next state
onward : (n : ℕ) (q : Production) (j : ℕ) (x : Symbol) (b : List Symbol) → StandsIn n q j → drop j q.right ≡ x ∷ b →
    (m : ℕ) × LeadsOn n x m × StandsIn m q (suc j)
onward n q j x b start_first d =
    (1, subst (λ y. LeadsOn 0 y 1) (head_same (nonterminal s_name) x [] b d) by_s, start_done)
onward n q j x b two_first d =
    (2, subst (λ y. LeadsOn 0 y 2) (head_same (nonterminal c_name) x (nonterminal c_name ∷ []) b d) by_one, two_second)
onward n q j x b two_second d =
    (5, subst (λ y. LeadsOn 2 y 5) (head_same (nonterminal c_name) x [] b d) by_two, two_done)
onward n q j x b more_second d =
    (6, subst (λ y. LeadsOn 3 y 6) (head_same (nonterminal c_name) x [] b d) by_more, more_done)
onward n q j x b (more_first m o) d =
    (3, subst (λ y. LeadsOn m y 3) (head_same (terminal c_token) x (nonterminal c_name ∷ []) b d) (by_c m o), more_second)
onward n q j x b (ends_first m o) d =
    (4, subst (λ y. LeadsOn m y 4) (head_same (terminal d_token) x [] b d) (by_d m o), ends_done)
onward n q j x b start_done d = absurd (not_empty x b d)
onward n q j x b ends_done d = absurd (not_empty x b d)
onward n q j x b two_done d = absurd (not_empty x b d)
onward n q j x b more_done d = absurd (not_empty x b d)

-- the letter of a symbol: it tells the edges of a state apart
abbrev letter : Symbol → ℕ
letter (terminal (Terminal.quoted (n ∷ w))) = n
letter (nonterminal (n ∷ w)) = n
letter x = 0

one_edge : (n k : ℕ) (x y : Symbol) (m l : ℕ) → LeadsOn n x m → LeadsOn k y l → n ≡ k → letter x ≡ letter y → m ≡ l
one_edge n k x y m l by_s by_s e f = refl
one_edge n k x y m l by_one by_one e f = refl
one_edge n k x y m l by_two by_two e f = refl
one_edge n k x y m l by_more by_more e f = refl
one_edge n k x y m l (by_c i o) (by_c j v) e f = refl
one_edge n k x y m l (by_d i o) (by_d j v) e f = refl
one_edge n k x y m l a b e f = absurd (omega (arith, e, f))

record IsFoundOn (g : List Symbol) (p : Production) (i : ℕ) : Type 0 where
  state : ℕ
  walk : Walk LeadsOn g state
  item : StandsIn state p i

found_on : (g : List Symbol) (p : Production) (i : ℕ) (m : Option Next) → IsCanonicalItem (Contains two_cs) s_name g p i m →
    IsFoundOn g p i
found_on g p i m (begins_there q u e) = record { state = 0; walk = stands; item = s_begun q u e }
found_on g p i m (ends_after q u e) = record { state = 0; walk = stands; item = s_begun q u e }
found_on g p i m (moves_over {g = h} {i = j} X b c d) =
    let r = found_on h p j m c in
    let o = onward r.state p j X b r.item d in
    record { state = o.0; walk = goes X o.0 r.walk o.1; item = o.2 }
found_on g p i m (brings_there {p = q} {i = j} b r c d u) =
    let k = found_on g q j None c in
    record { state = k.state; walk = k.walk; item = brought k.state q j r b k.item d u }
found_on g p i m (starts_after {p = q} {i = j} b r t c d u f) =
    let k = found_on g q j None c in
    record { state = k.state; walk = k.walk; item = brought k.state q j r b k.item d u }
found_on g p i m (passes_after {p = q} {i = j} b r x c d u f) =
    let k = found_on g q j (Some x) c in
    record { state = k.state; walk = k.walk; item = brought k.state q j r b k.item d u }

one_state : (g : List Symbol) (n m : ℕ) → Walk LeadsOn g n → Walk LeadsOn g m → n ≡ m
one_state g n m w v = walk_one LeadsOn (λ n x m k a b. one_edge n n x x m k a b refl refl) g n m w v

two_cs_are : IsLalr1 (Contains two_cs) s_name
two_cs_are =
    record {
      reductions_apart = λ g h p q x same a b.
          let c = (same p (length p.right)).0 (there (Contains two_cs) s_name g p (length p.right) (Some x) a) in
          let k = found_on h p (length p.right) None c in
          let l = found_on h q (length q.right) (Some x) b in
          finished_one k.state l.state p q (length p.right) (length q.right) k.item l.item refl refl
          (one_state h k.state l.state k.walk l.walk);
      shifts_apart = λ g h p q i t b same a c d.
          let k = found_on g p (length p.right) (Some (Some t)) a in
          let l = found_on g q i None ((same q i).1 c) in
          let o = onward l.state q i (terminal t) b l.item d in
          finished_last k.state l.state p (length p.right) k.item (leads_from l.state (terminal t) o.0 o.1) refl
          (one_state g k.state l.state k.walk l.walk);
    }

-- The contexts, `__S = S; S = "a" E "a", "b" E "b", "a" F "b" or "b" F "a"; E = "e"; F = "e"`, aren't: on `"a" "e"` and on `"b" "e"` just
-- `E = "e" (*)` and `F = "e" (*)` stand, and `"a"` may follow the one on the first symbols and the other on the second.

-- How many symbols lead to an item: as many as stand before its dot, and one more for E and F, which stand behind one terminal.
data StandsAt : ℕ → Production → ℕ → Type 0 where
  starts_at : (i : ℕ) → StandsAt i (production 0 start_name (nonterminal s_name ∷ [])) i
  around_at : (k : ℕ) (l : Terminal) (x : ℕ) (r : Terminal) → (x ≡ 69) ⊎ (x ≡ 70) → (i : ℕ) → StandsAt i (around k l x r) i
  e_at : (i : ℕ) → StandsAt (suc i) by_e i
  f_at : (i : ℕ) → StandsAt (suc i) by_f i

next_at : (n : ℕ) (p : Production) (i : ℕ) → StandsAt n p i → StandsAt (suc n) p (suc i)
next_at n p i (starts_at j) = starts_at (suc j)
next_at n p i (around_at k l x r o j) = around_at k l x r o (suc j)
next_at n p i (e_at j) = e_at (suc j)
next_at n p i (f_at j) = f_at (suc j)

-- on no symbols begin no items of E and F, and behind one terminal begin these alone
begun_at : (m : ℕ) (r : Production) → Contains contexts r → r.left ≡ name m → (m ≡ 95) ⊎ (m ≡ 83) → StandsAt 0 r 0
begun_at m r u e o =
    all_of (λ q. q.left ≡ name m → StandsAt 0 q 0) contexts (
      (λ h. starts_at 0),
      (
        (λ h. around_at 1 a_token 69 a_token (inl refl) 0),
        (
          (λ h. around_at 2 b_token 69 b_token (inl refl) 0),
          (
            (λ h. around_at 3 a_token 70 b_token (inr refl) 0),
            (
              (λ h. around_at 4 b_token 70 a_token (inr refl) 0),
              (
                (λ h. absurd (apart 69 (name_same 69 m h) (λ z. omega (arith, z)) (λ z. omega (arith, z)))),
                ((λ h. absurd (apart 70 (name_same 70 m h) (λ z. omega (arith, z)) (λ z. omega (arith, z)))), tt),
              ),
            ),
          ),
        ),
      ),
    ) r u e
  where
    apart : (k : ℕ) → k ≡ m → (k ≡ 95 → ⊥) → (k ≡ 83 → ⊥) → ⊥
    apart k h a b = go o
      where
        go : (m ≡ 95) ⊎ (m ≡ 83) → ⊥
        go (inl z) = a (omega (arith, h, z))
        go (inr z) = b (omega (arith, h, z))

inner_at : (m : ℕ) (r : Production) → Contains contexts r → name m ≡ r.left → (m ≡ 69) ⊎ (m ≡ 70) → StandsAt 1 r 0
inner_at m r u e o =
    all_of (λ q. name m ≡ q.left → StandsAt 1 q 0) contexts (
      (λ h. absurd (apart 95 (name_same m 95 h) (λ z. omega (arith, z)) (λ z. omega (arith, z)))),
      (
        by_s_name 1 a_token 69 a_token,
        (
          by_s_name 2 b_token 69 b_token,
          (
            by_s_name 3 a_token 70 b_token,
            (
              by_s_name 4 b_token 70 a_token,
              ((λ h. e_at 0), ((λ h. f_at 0), tt)),
            ),
          ),
        ),
      ),
    ) r u e
  where
    apart : (k : ℕ) → m ≡ k → (k ≡ 69 → ⊥) → (k ≡ 70 → ⊥) → ⊥
    apart k h a b = go o
      where
        go : (m ≡ 69) ⊎ (m ≡ 70) → ⊥
        go (inl z) = a (omega (arith, h, z))
        go (inr z) = b (omega (arith, h, z))

    by_s_name : (k : ℕ) (l : Terminal) (x : ℕ) (t : Terminal) → name m ≡ s_name → StandsAt 1 (around k l x t) 0
    by_s_name k l x t h = absurd (apart 83 (name_same m 83 h) (λ z. omega (arith, z)) (λ z. omega (arith, z)))

brought_at : (n : ℕ) (q : Production) (j : ℕ) (r : Production) (b : List Symbol) → StandsAt n q j →
    drop j q.right ≡ nonterminal r.left ∷ b → Contains contexts r → StandsAt n r 0
brought_at n q j r b (starts_at zero) d u =
    begun_at 83 r u (sym (nonterminal_is s_name r.left (head_same (nonterminal s_name) (nonterminal r.left) [] b d))) (inr refl)
brought_at n q j r b (starts_at (suc k)) d u = absurd (no_dot k (nonterminal r.left) b d)
brought_at n q j r b (around_at k l x t o zero) d u =
    absurd (not_nonterminal l r.left
    (head_same (terminal l) (nonterminal r.left) (nonterminal (name x) ∷ terminal t ∷ []) b d))
brought_at n q j r b (around_at k l x t o (suc zero)) d u =
    inner_at x r u (nonterminal_is (name x) r.left (head_same (nonterminal (name x)) (nonterminal r.left) (terminal t ∷ []) b d)) o
brought_at n q j r b (around_at k l x t o (suc (suc zero))) d u =
    absurd (not_nonterminal t r.left (head_same (terminal t) (nonterminal r.left) [] b d))
brought_at n q j r b (around_at k l x t o (suc (suc (suc i)))) d u = absurd (no_dot i (nonterminal r.left) b d)
brought_at n q j r b (e_at zero) d u = absurd (not_nonterminal e_token r.left (head_same (terminal e_token) (nonterminal r.left) [] b d))
brought_at n q j r b (e_at (suc i)) d u = absurd (no_dot i (nonterminal r.left) b d)
brought_at n q j r b (f_at zero) d u = absurd (not_nonterminal e_token r.left (head_same (terminal e_token) (nonterminal r.left) [] b d))
brought_at n q j r b (f_at (suc i)) d u = absurd (no_dot i (nonterminal r.left) b d)

length_more : (g : List Symbol) (x : Symbol) → length (g ++ x ∷ []) ≡ suc (length g)
length_more [] x = refl
length_more (y ∷ g) x = ap suc (length_more g x)

longer : (g : List Symbol) (x : Symbol) (p : Production) (i : ℕ) → StandsAt (suc (length g)) p i → StandsAt (length (g ++ x ∷ [])) p i
longer g x p i k = subst (λ n. StandsAt n p i) (sym (length_more g x)) k

stands_at : (g : List Symbol) (p : Production) (i : ℕ) (m : Option Next) → IsCanonicalItem (Contains contexts) start_name g p i m →
    StandsAt (length g) p i
stands_at g p i m (begins_there q u e) = begun_at 95 q u e (inl refl)
stands_at g p i m (ends_after q u e) = begun_at 95 q u e (inl refl)
stands_at g p i m (moves_over {g = h} {i = j} X b c d) =
    longer h X p (suc j) (next_at (length h) p j (stands_at h p j m c))
stands_at g p i m (brings_there {p = q} {i = j} b r c d u) = brought_at (length g) q j r b (stands_at g q j None c) d u
stands_at g p i m (starts_after {p = q} {i = j} b r t c d u f) = brought_at (length g) q j r b (stands_at g q j None c) d u
stands_at g p i m (passes_after {p = q} {i = j} b r x c d u f) = brought_at (length g) q j r b (stands_at g q j (Some x) c) d u

-- so no item begins on two symbols
not_on_two : (n : ℕ) (p : Production) (i : ℕ) → StandsAt n p i → n ≡ 2 → i ≡ 0 → ⊥
not_on_two n p i (starts_at j) e f = omega (arith, e, f)
not_on_two n p i (around_at k l x r o j) e f = omega (arith, e, f)
not_on_two n p i (e_at j) e f = omega (arith, e, f)
not_on_two n p i (f_at j) e f = omega (arith, e, f)

-- a finished item by `"e"`
abbrev IsByE : Production → ℕ → Type 0
IsByE p i = ((p ≡ by_e) ⊎ (p ≡ by_f)) × (i ≡ 1)

-- an item with its dot behind `"e"` is one
behind_e : (p : Production) (j : ℕ) (b : List Symbol) → Contains contexts p → drop j p.right ≡ terminal e_token ∷ b → IsByE p (suc j)
behind_e p j b u d =
    all_of (λ q. drop j q.right ≡ terminal e_token ∷ b → IsByE q (suc j)) contexts (
      no_e_alone j,
      (
        no_e_around j a_token (name 69) a_token (λ h. omega (arith, quoted_same 97 101 h)) (λ h. omega (arith, quoted_same 97 101 h)),
        (
          no_e_around j b_token (name 69) b_token (λ h. omega (arith, quoted_same 98 101 h)) (λ h. omega (arith, quoted_same 98 101 h)),
          (
            no_e_around j a_token (name 70) b_token (λ h. omega (arith, quoted_same 97 101 h)) (λ h. omega (arith, quoted_same 98 101 h)),
            (
              no_e_around j b_token (name 70) a_token (λ h. omega (arith, quoted_same 98 101 h)) (λ h. omega (arith, quoted_same 97 101 h)),
              ((λ h. (inl refl, only_first j h)), ((λ h. (inr refl, only_first j h)), tt)),
            ),
          ),
        ),
      ),
    ) p u d
  where
    no_e_alone : {X : Type 0} (j : ℕ) → drop j (nonterminal s_name ∷ []) ≡ terminal e_token ∷ b → X
    no_e_alone zero h = absurd (not_terminal e_token s_name (head_same (nonterminal s_name) (terminal e_token) [] b h))
    no_e_alone (suc k) h = absurd (no_dot k (terminal e_token) b h)

    no_e_around : {X : Type 0} (j : ℕ) (l : Terminal) (A : Text) (r : Terminal) → (l ≡ e_token → ⊥) → (r ≡ e_token → ⊥) →
        drop j (terminal l ∷ nonterminal A ∷ terminal r ∷ []) ≡ terminal e_token ∷ b → X
    no_e_around zero l A r f k h =
        absurd (f (terminal_same l e_token (head_same (terminal l) (terminal e_token) (nonterminal A ∷ terminal r ∷ []) b h)))
    no_e_around (suc zero) l A r f k h =
        absurd (not_terminal e_token A (head_same (nonterminal A) (terminal e_token) (terminal r ∷ []) b h))
    no_e_around (suc (suc zero)) l A r f k h =
        absurd (k (terminal_same r e_token (head_same (terminal r) (terminal e_token) [] b h)))
    no_e_around (suc (suc (suc i))) l A r f k h = absurd (no_dot i (terminal e_token) b h)

    only_first : (j : ℕ) → drop j (terminal e_token ∷ []) ≡ terminal e_token ∷ b → suc j ≡ 1
    only_first zero h = refl
    only_first (suc k) h = absurd (no_dot k (terminal e_token) b h)

-- the last of two symbols
last_same : (h : List Symbol) (x y z : Symbol) → h ++ x ∷ [] ≡ y ∷ z ∷ [] → x ≡ z
last_same [] x y z e = absurd (not_empty z [] (tail_same x y [] (z ∷ []) e))
last_same (u ∷ []) x y z e = head_same x z [] [] (tail_same u y (x ∷ []) (z ∷ []) e)
last_same (u ∷ v ∷ w) x y z e =
    let f : length (u ∷ v ∷ (w ++ x ∷ [])) ≡ length (y ∷ z ∷ []) = ap length e in absurd (omega (arith, f, length_more w x))

-- just these stand behind a terminal and `"e"`
just_by_e : (t : Terminal) (g : List Symbol) (p : Production) (i : ℕ) (m : Option Next) →
    IsCanonicalItem (Contains contexts) start_name g p i m → g ≡ terminal t ∷ terminal e_token ∷ [] → IsByE p i
just_by_e t g p i m (moves_over {g = h} {i = j} X b c d) e =
    behind_e p j b (given (Contains contexts) start_name h p j m c)
    (subst (λ x. drop j p.right ≡ x ∷ b) (last_same h X (terminal t) (terminal e_token) e) d)
just_by_e t g p i m (begins_there q u f) e = absurd (not_empty (terminal t) (terminal e_token ∷ []) e)
just_by_e t g p i m (ends_after q u f) e = absurd (not_empty (terminal t) (terminal e_token ∷ []) e)
just_by_e t g p i m (brings_there b r c d u) e =
    absurd (not_on_two (length g) r 0 (stands_at g r 0 None (brings_there b r c d u)) (ap length e) refl)
just_by_e t g p i m (starts_after b r x c d u f) e =
    absurd (not_on_two (length g) r 0 (stands_at g r 0 (Some (Some x)) (starts_after b r x c d u f)) (ap length e) refl)
just_by_e t g p i m (passes_after b r x c d u f) e =
    absurd (not_on_two (length g) r 0 (stands_at g r 0 (Some x) (passes_after b r x c d u f)) (ap length e) refl)

-- and they do, before what closes the context
module _ (k : ℕ) (l : Terminal) (x : ℕ) (r : Terminal) (u : Contains contexts (around k l x r)) where
  context_there : IsCanonicalItem (Contains contexts) start_name [] (around k l x r) 0 None
  context_there =
      brings_there [] (around k l x r)
      (begins_there (production 0 start_name (nonterminal s_name ∷ [])) (0, omega arith, refl) refl) refl u

  dot_inside : IsCanonicalItem (Contains contexts) start_name (terminal l ∷ []) (around k l x r) 1 None
  dot_inside = moves_over (terminal l) (nonterminal (name x) ∷ terminal r ∷ []) context_there refl

e_on : (k : ℕ) (l r : Terminal) → Contains contexts (around k l 69 r) →
    IsCanonicalItem (Contains contexts) start_name (terminal l ∷ terminal e_token ∷ []) by_e 1 (Some (Some r))
e_on k l r u =
    moves_over (terminal e_token) []
    (starts_after (terminal r ∷ []) by_e r (dot_inside k l 69 r u) refl e_given ([], keeps (terminal r) ends)) refl

f_on : (k : ℕ) (l r : Terminal) → Contains contexts (around k l 70 r) →
    IsCanonicalItem (Contains contexts) start_name (terminal l ∷ terminal e_token ∷ []) by_f 1 (Some (Some r))
f_on k l r u =
    moves_over (terminal e_token) []
    (starts_after (terminal r ∷ []) by_f r (dot_inside k l 70 r u) refl f_given ([], keeps (terminal r) ends)) refl

both_on : (t : Terminal) → IsCanonicalItem (Contains contexts) start_name (terminal t ∷ terminal e_token ∷ []) by_e 1 None →
    IsCanonicalItem (Contains contexts) start_name (terminal t ∷ terminal e_token ∷ []) by_f 1 None → (p : Production) (i : ℕ) →
    IsByE p i → IsCanonicalItem (Contains contexts) start_name (terminal t ∷ terminal e_token ∷ []) p i None
both_on t a b p i (inl e, f) =
    subst (λ j. IsCanonicalItem (Contains contexts) start_name (terminal t ∷ terminal e_token ∷ []) p j None) (sym f)
    (subst (λ q. IsCanonicalItem (Contains contexts) start_name (terminal t ∷ terminal e_token ∷ []) q 1 None) (sym e) a)
both_on t a b p i (inr e, f) =
    subst (λ j. IsCanonicalItem (Contains contexts) start_name (terminal t ∷ terminal e_token ∷ []) p j None) (sym f)
    (subst (λ q. IsCanonicalItem (Contains contexts) start_name (terminal t ∷ terminal e_token ∷ []) q 1 None) (sym e) b)

abbrev a_e_symbols : List Symbol
a_e_symbols = terminal a_token ∷ terminal e_token ∷ []

abbrev b_e_symbols : List Symbol
b_e_symbols = terminal b_token ∷ terminal e_token ∷ []

-- `"a"` may follow both
a_after_e : IsCanonicalItem (Contains contexts) start_name a_e_symbols by_e 1 (Some (Some a_token))
a_after_e = e_on 1 a_token a_token (1, omega arith, refl)

a_after_f : IsCanonicalItem (Contains contexts) start_name b_e_symbols by_f 1 (Some (Some a_token))
a_after_f = f_on 4 b_token a_token (4, omega arith, refl)

e_there : (g : List Symbol) (p : Production) (x : Next) → IsCanonicalItem (Contains contexts) start_name g p 1 (Some x) →
    IsCanonicalItem (Contains contexts) start_name g p 1 None
e_there g p x c = there (Contains contexts) start_name g p 1 (Some x) c

one_core : HaveOneCoreOn (Contains contexts) start_name a_e_symbols b_e_symbols
one_core p i = (
  λ c. both_on b_token (e_there b_e_symbols by_e (Some b_token) (e_on 2 b_token b_token (2, omega arith, refl)))
      (e_there b_e_symbols by_f (Some a_token) a_after_f) p i (just_by_e a_token a_e_symbols p i None c refl),
  λ c. both_on a_token (e_there a_e_symbols by_e (Some a_token) a_after_e)
      (e_there a_e_symbols by_f (Some b_token) (f_on 3 a_token b_token (3, omega arith, refl))) p i
      (just_by_e b_token b_e_symbols p i None c refl),
)

contexts_are_not : IsLalr1 (Contains contexts) start_name → ⊥
contexts_are_not lalr1 =
    omega (
      arith,
      name_same 69 70
          (ap (λ p. p.left)
          (lalr1.reductions_apart a_e_symbols b_e_symbols by_e by_f (Some a_token) one_core a_after_e a_after_f)),
    )
