-- Derived symbols and what they stand for: for trees by derived rules.
use Rattle.std.proofs.Common.{◌≡◌, ◌∙◌, ◌⊎◌, ℕ, zero, suc, ◌+◌, ◌-◌, ◌<◌, ◌≤◌, Bool, true}
use Rattle.std.proofs.Common.{false, List, [], ◌∷◌, length, map, take}
use Rattle.std.proofs.Common.{refl, sym, ap, inl, inr, ⊎_elim, arith, Option, nat_lt}
use Rattle.std.specs.Prelude.{if◌then◌else◌}
use Rattle.std.proofs.lemmas.Bool.{lt-ltb, ltb-true}
use Rattle.lalrpop_lr1_theory.specs.Productions.{Symbol}
use Rattle.lalrpop_lr1_theory.proofs.ListLemmas.{contains_here, contains_later}
use Rattle.lalrpop_lr1_first.specs.Numbers.{SpellsSymbols}
use Rattle.lalrpop_lr1_least_trees.specs.DerivedRules.{AreNames, MayBegin, all_names, begin_side, begin_symbol, down}
use Rattle.lalrpop_lr1_least_trees.specs.DerivedRules.{empty_symbol, whole_symbol}

if_true : (b : Bool) (x y : ℕ) → b ≡ true → (if b then x else y) ≡ x
if_true true x y e = refl
if_true false x y e = let w : ⊥ = cc in absurd w

if_false : (b : Bool) (x y : ℕ) → (b ≡ true → ⊥) → (if b then x else y) ≡ y
if_false true x y n = absurd (n refl)
if_false false x y n = refl

module _ (names : ℕ) where
  pub down_name : (s : ℕ) → s < names → down names s ≡ s
  down_name s h = if_true (nat_lt s names) s (if nat_lt s (names + names) then s - names else s - (names + names)) (lt-ltb s names h)

  pub down_past : (s : ℕ) → names + names ≤ s → down names s ≡ s - (names + names)
  down_past s h =
      if_false (nat_lt s names) s (if nat_lt s (names + names) then s - names else s - (names + names))
      (λ e. omega (arith, ltb-true s names e, h))
      ∙ if_false (nat_lt s (names + names)) (s - names) (s - (names + names)) (λ e. omega (arith, ltb-true s (names + names) e, h))

  pub down_begin : (s : ℕ) → down names (begin_symbol names s) ≡ s
  down_begin s = down_past (begin_symbol names s) (omega arith) ∙ omega arith

  pub down_empty : (s : ℕ) → s < names → down names (empty_symbol names s) ≡ s
  down_empty s h =
      if_false (nat_lt (names + s) names) (names + s)
      (if nat_lt (names + s) (names + names) then (names + s) - names else (names + s) - (names + names))
      (λ e. omega (arith, ltb-true (names + s) names e))
      ∙ if_true (nat_lt (names + s) (names + names)) ((names + s) - names) ((names + s) - (names + names))
      (lt-ltb (names + s) (names + names) (omega arith))
      ∙ omega arith

  pub whole_name : (s : ℕ) → s < names → whole_symbol names s ≡ s
  whole_name s h = if_true (nat_lt s names) s (begin_symbol names s) (lt-ltb s names h)

  pub whole_past : (s : ℕ) → names ≤ s → whole_symbol names s ≡ begin_symbol names s
  whole_past s h = if_false (nat_lt s names) s (begin_symbol names s) (λ e. omega (arith, ltb-true s names e, h))

  pub down_whole : (s : ℕ) → down names (whole_symbol names s) ≡ s
  down_whole s = go (nat_lt s names) refl
    where
      go : (b : Bool) → nat_lt s names ≡ b → down names (whole_symbol names s) ≡ s
      go true e = let h = ltb-true s names e in ap (down names) (whole_name s h) ∙ down_name s h
      go false e =
          ap (down names) (if_false (nat_lt s names) s (begin_symbol names s)
          (λ f. let b : true ≡ false = sym f ∙ e in let w : ⊥ = cc in w))
          ∙ down_begin s

  module _ (at : ℕ → Option Symbol) where
    abbrev pub at_down : ℕ → Option Symbol
    at_down s = at (down names s)

    -- derived sides are spelled as the sides that they stand for
    pub spells_whole : (ss : List ℕ) (xs : List Symbol) → SpellsSymbols at ss xs → SpellsSymbols at_down
        (map (whole_symbol names) ss) xs
    spells_whole [] [] sp = tt
    spells_whole [] (x ∷ xs) sp = absurd sp
    spells_whole (s ∷ ss) [] sp = absurd sp
    spells_whole (s ∷ ss) (x ∷ xs) sp = (ap at (down_whole s) ∙ sp.0, spells_whole ss xs sp.1)

    pub spells_empty : (ss : List ℕ) (xs : List Symbol) → AreNames names ss → SpellsSymbols at ss xs →
        SpellsSymbols at_down (map (empty_symbol names) ss) xs
    spells_empty [] [] are sp = tt
    spells_empty [] (x ∷ xs) are sp = absurd sp
    spells_empty (s ∷ ss) [] are sp = absurd sp
    spells_empty (s ∷ ss) (x ∷ xs) are sp =
        (ap at (down_empty s (are s (contains_here s ss))) ∙ sp.0, spells_empty ss xs (λ y c. are y (contains_later s y ss c)) sp.1)

    pub spells_begin : (ss : List ℕ) (xs : List Symbol) (place : ℕ) → place < length ss → AreNames names (take place ss) →
        SpellsSymbols at ss xs → SpellsSymbols at_down (begin_side names ss place) xs
    spells_begin [] xs place h are sp = absurd (omega arith)
    spells_begin (s ∷ ss) [] place h are sp = absurd sp
    spells_begin (s ∷ ss) (x ∷ xs) zero h are sp = (ap at (down_begin s) ∙ sp.0, spells_whole ss xs sp.1)
    spells_begin (s ∷ ss) (x ∷ xs) (suc place) h are sp = (
      ap at (down_empty s (are s (contains_here s (take place ss)))) ∙ sp.0,
      spells_begin ss xs place (omega arith) (λ y c. are y (contains_later s y (take place ss) c)) sp.1,
    )

  -- all stand for trees without leaves
  abbrev pub AllEmpty : List ℕ → Type 0
  AllEmpty [] = Unit {0}
  AllEmpty (s ∷ ss) = (names ≤ s) × (s < names + names) × AllEmpty ss

  pub all_empty : (ss : List ℕ) → AreNames names ss → AllEmpty (map (empty_symbol names) ss)
  all_empty [] are = tt
  all_empty (s ∷ ss) are = (
    omega arith,
    omega (arith, are s (contains_here s ss)),
    all_empty ss (λ y c. are y (contains_later s y ss c)),
  )

  module _ (wanted : ℕ) where
    -- one stands for trees that begin with the terminal, or is it, and those in front of it have no leaves
    abbrev pub IsBegun : ℕ → Type 0
    IsBegun s = (names + names ≤ s) × ((s < all_names names) ⊎ (s ≡ begin_symbol names wanted))

    abbrev pub Begins : List ℕ → Type 0
    Begins [] = ⊥
    Begins (s ∷ ss) = IsBegun s ⊎ ((names ≤ s) × (s < names + names) × Begins ss)

    pub side_begins : (ss : List ℕ) (place : ℕ) → MayBegin names wanted ss place → Begins (begin_side names ss place)
    side_begins [] place may = absurd (omega (arith, may.within))
    side_begins (s ∷ ss) zero may =
        inl (omega arith, ⊎_elim (λ h. inl (omega (arith, h))) (λ e. inr (ap (begin_symbol names) e)) may.here)
    side_begins (s ∷ ss) (suc place) may =
        inr (
          omega arith,
          omega (arith, may.front s (contains_here s (take place ss))),
          side_begins ss place (record {
            within = omega (arith, may.within);
            front = λ y c. may.front y (contains_later s y (take place ss) c);
            here = may.here;
          }),
        )
