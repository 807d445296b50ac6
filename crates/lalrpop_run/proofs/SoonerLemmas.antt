-- What is inlined or made by so many steps is so by more: for the order in which labels are made.
use Rattle.std.proofs.Common.{◌<◌, ◌≤◌, ◌⊎◌, inl, inr, ℕ, zero, suc, List, [], ◌∷◌, arith, take}
use Rattle.std.proofs.lemmas.Bool.{cases_lt}
use Rattle.lalrpop_grammar_language.specs.Among.{Among}
use Rattle.lalrpop_grammar_language.specs.Labels.{Label}
use Rattle.lalrpop_run.specs.ProductionOrders.{IsInlinedSooner, IsMadeSooner, IsMadeWithin, label_head}

-- what is among the first so many is among more
pub among_take_more : {A : Type 0} (j k : ℕ) (xs : List A) (y : A) → j ≤ k → Among (take j xs) y → Among (take k xs) y
among_take_more zero k xs y l i = absurd i
among_take_more (suc j) zero xs y l i = absurd (omega (arith, l))
among_take_more (suc j) (suc k) [] y l i = absurd i
among_take_more (suc j) (suc k) (x ∷ xs) y l (inl e) = inl e
among_take_more (suc j) (suc k) (x ∷ xs) y l (inr i) = inr (among_take_more j k xs y (omega (arith, l)) i)

-- a label that is made by then is made later on
pub within_more : {N C : Type 0} (order : List N) (j k : ℕ) → j ≤ k → (label : Label N C) → IsMadeWithin order j label →
    IsMadeWithin order k label
within_more order j k l (Label.choose x c inlinings) h =
    λ i label at. among_take_more j k order (label_head label) l (h i label at)

-- one that isn't made by so many steps isn't made sooner than one that is made by one more
pub never_made_sooner : {N C : Type 0} (order : List N) (steps : ℕ) (label other : Label N C) →
    ((k : ℕ) → k ≤ steps → IsMadeWithin order k label → ⊥) → IsMadeWithin order (suc steps) other → IsMadeSooner order label other → ⊥
never_made_sooner order steps label other late within sooner = go (cases_lt steps sooner.0)
  where
    go : (steps < sooner.0) ⊎ (sooner.0 ≤ steps) → ⊥
    go (inl l) = sooner.2 (within_more order (suc steps) sooner.0 (omega (arith, l)) other within)
    go (inr l) = late sooner.0 l sooner.1

-- neither of two nonterminals is inlined sooner than the other one that is inlined sooner than it
pub sooner_apart : {N : Type 0} (order : List N) (x y : N) → IsInlinedSooner order x y → IsInlinedSooner order y x → ⊥
sooner_apart order x y a b = go (cases_lt a.0 b.0)
  where
    go : (a.0 < b.0) ⊎ (b.0 ≤ a.0) → ⊥
    go (inl l) = b.2 (among_take_more a.0 b.0 order x (omega (arith, l)) a.1)
    go (inr l) = a.2 (among_take_more b.0 a.0 order y l b.1)

-- nor of two labels
pub made_apart : {N C : Type 0} (order : List N) (label other : Label N C) → IsMadeSooner order label other →
    IsMadeSooner order other label → ⊥
made_apart order label other a b = go (cases_lt a.0 b.0)
  where
    go : (a.0 < b.0) ⊎ (b.0 ≤ a.0) → ⊥
    go (inl l) = b.2 (within_more order a.0 b.0 (omega (arith, l)) label a.1)
    go (inr l) = a.2 (within_more order b.0 a.0 l other b.1)
