-- The productions after inlining: each inlined symbol of a right side is replaced by a right side of its own, as deep as
-- needed. The label tells each choice.
use Rattle.std.specs.Prelude.{◌≡◌, ◌↔◌, Bool, true, [], ◌∷◌, ◌++◌}
use Rattle.lalrpop_grammar_language.specs.Expansion.{GrammarSymbol}
use Rattle.lalrpop_grammar_language.specs.Labels.{GrammarSymbols, BaseProductions, Label, Inlinings}

-- the symbol is not inlined
abbrev pub IsNotInlined : {N : Type 0} → (N → Type 0) → GrammarSymbol N → Type 0
IsNotInlined In (GrammarSymbol.terminal t) = Unit {0}
IsNotInlined In (GrammarSymbol.nonterminal x) = In x → ⊥

-- the test says which nonterminals are inlined
abbrev pub IsDecidedBy : {N : Type 0} → (N → Type 0) → (N → Bool) → Type 0
IsDecidedBy {N = N} In test = (x : N) → In x ↔ (test x ≡ true)

-- A right side in two parts: what an inlined symbol gives, and what the symbols behind it give.
pub record IsInTwoParts (N : Type 0) (IsFront : GrammarSymbols N → Type 0) (IsRest : GrammarSymbols N → Type 0)
    (side : GrammarSymbols N) : Type 0 where
  pub front : GrammarSymbols N
  pub rest : GrammarSymbols N
  pub side_is : side ≡ front ++ rest
  pub is_front : IsFront front
  pub is_rest : IsRest rest

abbrev mutual
  -- The nonterminal has, after inlining, the production with this label and this right side.
  pub Inlines : {N C : Type 0} → BaseProductions N C → (N → Type 0) → N → Label N C → GrammarSymbols N → Type 0
  Inlines {N = N} M In x (Label.choose y choice inlinings) side =
      (y ≡ x) × (before : GrammarSymbols N) × M x choice before × InlinesAll M In before inlinings side

  -- the right side after inlining of a right side before it
  pub InlinesAll : {N C : Type 0} → BaseProductions N C → (N → Type 0) → GrammarSymbols N → Inlinings N C →
      GrammarSymbols N → Type 0
  InlinesAll M In [] Inlinings.none side = side ≡ []
  InlinesAll M In [] (Inlinings.kept inlinings) side = ⊥
  InlinesAll M In [] (Inlinings.inlined label inlinings) side = ⊥
  InlinesAll M In (p ∷ before) Inlinings.none side = ⊥
  InlinesAll {N = N} M In (p ∷ before) (Inlinings.kept inlinings) side =
      IsNotInlined In p × (rest : GrammarSymbols N) × (side ≡ p ∷ rest) × InlinesAll M In before inlinings rest
  InlinesAll M In (GrammarSymbol.terminal t ∷ before) (Inlinings.inlined label inlinings) side = ⊥
  InlinesAll {N = N} M In (GrammarSymbol.nonterminal x ∷ before) (Inlinings.inlined label inlinings) side =
      In x × IsInTwoParts N (λ front. Inlines M In x label front) (λ rest. InlinesAll M In before inlinings rest) side

-- each choice of a nonterminal has one right side
abbrev pub HaveOneSide : {N C : Type 0} → BaseProductions N C → Type 0
HaveOneSide {N = N} {C = C} M =
    (x : N) (choice : C) (side other : GrammarSymbols N) → M x choice side → M x choice other → side ≡ other
