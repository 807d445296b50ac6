-- Computed examples of where keys are met, and near misses.
use Rattle.std.proofs.Common.{◌≡◌, ◌++◌, ℕ, ◌+◌, List, [], ◌∷◌, ap, sym, ◌∙◌, refl, inl, inr, arith}
use Rattle.std.specs.Prelude.{None, codes}
use Rattle.lalrpop_grammar_symbols.specs.Symbols.{Closed, Closeds, Op, Sym, Terminal, TextSpan, WrittenSymbol, syms}
use Rattle.lalrpop_grammar_language.specs.Among.{Among}
use Rattle.lalrpop_norm_keys.specs.FirstPlaces.{IsKeySpan, IsMetFirst, IsNotMet}
use Rattle.lalrpop_norm_keys.specs.MetKeys.{MetKey, keys_met, keys_met_in_row}

abbrev place : ℕ → TextSpan
place n = (n, n + 1)

abbrev lit_a : Closed
lit_a = Closed.terminal (Terminal.quoted (codes "a"))

abbrev lit_b : Closed
lit_b = Closed.terminal (Terminal.quoted (codes "b"))

abbrev a_at : ℕ → WrittenSymbol
a_at n = Sym.terminal (place n) (Terminal.quoted (codes "a"))

abbrev b_at : ℕ → WrittenSymbol
b_at n = Sym.terminal (place n) (Terminal.quoted (codes "b"))

abbrev star_of : Closed → Closed
star_of x = Closed.repeat Op.star x

abbrev plus_of : Closed → Closed
plus_of x = Closed.repeat Op.plus x

-- ("a"* "b")+: the repeat outside at 1, the group at 2, the one inside at 3
abbrev nested : WrittenSymbol
nested = Sym.repeat (place 1) Op.plus (Sym.expr (place 2) (syms (Sym.repeat (place 3) Op.star (a_at 4) ∷ b_at 5 ∷ [])))

abbrev inside : Closed
inside = Closed.group (Closeds.more (star_of lit_a) (Closeds.more lit_b Closeds.none))

abbrev nested_keys : List MetKey
nested_keys =
    (plus_of inside, place 1) ∷ (inside, place 2) ∷ (star_of lit_a, place 3) ∷ (plus_of lit_a, place 3) ∷ []

-- each key is met at its own symbol, `"a"+` where `"a"*` is written
each_at_its_own : keys_met nested (plus_of inside) ≡ nested_keys
each_at_its_own = refl

-- what comes by a parameter is met at the parameter's name
by_parameter : keys_met (Sym.ambiguous_id (place 7) (codes "T")) (star_of lit_a)
    ≡ (star_of lit_a, place 7) ∷ (plus_of lit_a, place 7) ∷ []
by_parameter = refl

-- what stands as an argument alone isn't met, but the call is
argument_not_met : keys_met (Sym.macro (place 7) (codes "M") (syms (Sym.repeat (place 8) Op.star (a_at 9) ∷ [])))
    (Closed.call (codes "M") (Closeds.more (star_of lit_a) Closeds.none) None)
    ≡ (Closed.call (codes "M") (Closeds.more (star_of lit_a) Closeds.none) None, place 7) ∷ []
argument_not_met = refl

-- nothing is met where there is no symbol, and in a terminal
nothing_in_nothing : keys_met_in_row (syms []) Closeds.none ≡ []
nothing_in_nothing = refl

nothing_in_terminal : keys_met (a_at 1) lit_a ≡ []
nothing_in_terminal = refl

-- @L @L: the first of the two tells the place
abbrev two_looks : List MetKey
two_looks = keys_met_in_row (syms (Sym.lookahead (place 1) ∷ Sym.lookahead (place 2) ∷ []))
    (Closeds.more Closed.lookahead (Closeds.more Closed.lookahead Closeds.none))

first_of_two : IsKeySpan two_looks (place 0) Closed.lookahead (place 1)
first_of_two = IsKeySpan.met (record { before = []; after = (Closed.lookahead, place 2) ∷ []; parts = refl; first = λ p i. i })

-- a key that is met nowhere stands at the other place
met_nowhere : IsKeySpan two_looks (place 0) Closed.lookbehind (place 0)
met_nowhere = IsKeySpan.nowhere (λ p i. go p i) refl
  where
    go : (p : TextSpan) → Among two_looks (Closed.lookbehind, p) → ⊥
    go p (inl e) = let wrong : Closed.lookahead ≡ Closed.lookbehind = ap (λ (m : MetKey). m.0) e in cc
    go p (inr (inl e)) = let wrong : Closed.lookahead ≡ Closed.lookbehind = ap (λ (m : MetKey). m.0) e in cc
    go p (inr (inr i)) = i

-- a key that is met doesn't stand where nothing is said of it
met_not_elsewhere : IsNotMet two_looks Closed.lookahead → ⊥
met_not_elsewhere none = none (place 1) (inl refl)

-- nor is it first at its second place
second_refused : IsMetFirst two_looks Closed.lookahead (place 2) → ⊥
second_refused w = go w.before w.after w.parts w.first
  where
    go : (before after : List MetKey) → two_looks ≡ before ++ (Closed.lookahead, place 2) ∷ after
        → IsNotMet before Closed.lookahead → ⊥
    go [] after e none = let wrong : 1 ≡ 2 = ap first_number e in omega (arith, wrong)
      where
        first_number : List MetKey → ℕ
        first_number [] = 0
        first_number (m ∷ ms) = m.1.0
    go (m ∷ ms) after e none =
        none m.1 (inl (let same : m ≡ (Closed.lookahead, place 1) = sym (ap (head_or m) e) in
        same ∙ ap (λ (q : TextSpan). (Closed.lookahead, q)) (sym (ap (λ (k : MetKey). k.1) same))))
      where
        head_or : MetKey → List MetKey → MetKey
        head_or d [] = d
        head_or d (k ∷ ks) = k
