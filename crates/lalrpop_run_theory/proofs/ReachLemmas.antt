-- What holds of a nonterminal and goes on along productions goes on along productions after inlining: for trees and for what a start
-- reaches.
use Rattle.std.proofs.Common.{[], ◌∷◌, refl, subst, suc, inl, inr, ◌⊎◌}
use Rattle.lalrpop_grammar_language.specs.Among.{Among}
use Rattle.lalrpop_grammar_language.specs.Enabled.{EnabledGrammar}
use Rattle.lalrpop_grammar_language.specs.Expansion.{GrammarSymbol, Produces, InExpansion}
use Rattle.lalrpop_grammar_language.specs.Labels.{GrammarSymbols, BaseProductions, Label, Inlinings}
use Rattle.lalrpop_grammar_language.specs.Inlining.{Inlines, InlinesAll}
use Rattle.lalrpop_grammar_language.proofs.OrderLemmas.{among_parts}

-- it holds of each nonterminal of a right side
abbrev pub HoldsInside : {N : Type 0} → (N → Type 0) → GrammarSymbols N → Type 0
HoldsInside {N = N} P side = (y : N) → Among side (GrammarSymbol.nonterminal y) → P y

-- it goes on along productions
abbrev pub GoesAlong : {N C : Type 0} → BaseProductions N C → (N → Type 0) → Type 0
GoesAlong {N = N} {C = C} M P = (x : N) (choice : C) (side : GrammarSymbols N) → P x → M x choice side → HoldsInside P side

either : {A B C : Type 0} → (A → C) → (B → C) → A ⊎ B → C
either f g (inl a) = f a
either f g (inr b) = g b

mutual
  -- and so along productions after inlining
  pub along_inlined : {N C : Type 0} (M : BaseProductions N C) (In : N → Type 0) (P : N → Type 0) → GoesAlong M P →
      (label : Label N C) (x : N) (side : GrammarSymbols N) → P x → Inlines M In x label side → HoldsInside P side
  along_inlined M In P along (Label.choose z choice inlinings) x side p h =
      along_all M In P along inlinings h.1 side (along x choice h.1 p h.2) h.3

  -- the same behind a choice, where it holds of each symbol of that
  pub along_all : {N C : Type 0} (M : BaseProductions N C) (In : N → Type 0) (P : N → Type 0) → GoesAlong M P →
      (inlinings : Inlinings N C) (before side : GrammarSymbols N) → HoldsInside P before → InlinesAll M In before inlinings side →
      HoldsInside P side
  along_all M In P along Inlinings.none [] side inside h y a =
      absurd (subst (λ s. Among s (GrammarSymbol.nonterminal y)) h a)
  along_all M In P along (Inlinings.kept inlinings) [] side inside h y a = absurd h
  along_all M In P along (Inlinings.inlined label inlinings) [] side inside h y a = absurd h
  along_all M In P along Inlinings.none (q ∷ before) side inside h y a = absurd h
  along_all M In P along (Inlinings.kept inlinings) (q ∷ before) side inside h y a =
      either (λ e. inside y (inl e)) (along_all M In P along inlinings before h.1 (λ z b. inside z (inr b)) h.3 y)
      (subst (λ s. Among s (GrammarSymbol.nonterminal y)) h.2 a)
  along_all M In P along (Inlinings.inlined label inlinings) (GrammarSymbol.terminal t ∷ before) side inside h y a = absurd h
  along_all M In P along (Inlinings.inlined label inlinings) (GrammarSymbol.nonterminal x ∷ before) side inside h y a =
      either (along_inlined M In P along label x h.1.front (inside x (inl refl)) h.1.is_front y)
      (along_all M In P along inlinings before h.1.rest (λ z b. inside z (inr b)) h.1.is_rest y)
      (among_parts h.1.front h.1.rest (GrammarSymbol.nonterminal y)
      (subst (λ s. Among s (GrammarSymbol.nonterminal y)) h.1.side_is a))

-- the expansion has what its productions name
pub expansion_goes_along : (g : EnabledGrammar) → GoesAlong (Produces g) (InExpansion g)
expansion_goes_along g x choice side h m y a = (suc h.0, (x, choice, side, h.1, m, a))
