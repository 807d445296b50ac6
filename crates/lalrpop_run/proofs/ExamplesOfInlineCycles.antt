-- Computed examples of nonterminals that would have to be inlined into themselves, and of a grammar that has none.
use Rattle.std.proofs.Common.{◌≡◌, ℕ, List, [], ◌∷◌, ap, arith, false, inl, inr, refl, subst, sym, true}
use Rattle.std.specs.Prelude.{codes}
use Rattle.lalrpop_grammar.specs.WrittenGrammar.{Origin}
use Rattle.lalrpop_grammar_language.specs.Among.{Among}
use Rattle.lalrpop_grammar_language.specs.Enabled.{EnabledGrammar, enabled_grammar}
use Rattle.lalrpop_grammar_language.specs.Expansion.{Nonterminal, RightSide}
use Rattle.lalrpop_grammar_language.proofs.WrittenTreeLemmas.{alt, finds, grammar, id, lit, rule_of}
use Rattle.lalrpop_norm_theory.specs.Inlined.{IsInlined}
use Rattle.lalrpop_norm_theory.proofs.ExpansionListLemmas.{all-of}
use Rattle.lalrpop_norm_theory.proofs.ProductionListLemmas.{is_production, listed}
use Rattle.lalrpop_norm_theory.proofs.RowListLemmas.{reached-each}
use Rattle.lalrpop_run_theory.proofs.ExamplesOfExpansions.{inline, n, place, private, rule, start, t}
use Rattle.lalrpop_run_theory.proofs.InlinedTestLemmas.{inlined_decided}
use Rattle.lalrpop_run.specs.InlineCycles.{InlineChain, IsCyclic, NamesInlined}
use Rattle.lalrpop_run.proofs.InlineCycleLemmas.{first_inlined}

abbrev Choice : Type 0
Choice = Origin × RightSide

abbrev four : List Nonterminal
four = start ∷ rule "S" ∷ rule "A" ∷ rule "B" ∷ []

-- pub S = A; #[inline] A = B; #[inline] B = { "b", A }
abbrev round : EnabledGrammar
round = enabled_grammar finds [] (grammar (rule_of "S" (alt (id "A" ∷ []) ∷ [])
    ∷ private (inline ∷ []) "A" (alt (id "B" ∷ []) ∷ [])
    ∷ private (inline ∷ []) "B" (alt (lit "b" ∷ []) ∷ alt (id "A" ∷ []) ∷ []) ∷ []))

round_A : IsInlined round (rule "A")
round_A = (inlined_decided round (rule "A")).1 refl

round_B : IsInlined round (rule "B")
round_B = (inlined_decided round (rule "B")).1 refl

A_names_B : NamesInlined round (rule "A") (rule "B")
A_names_B = record {
  inlined = round_A;
  names_inlined = round_B;
  choice = place "A" 0;
  side = n (rule "B") ∷ [];
  produced = is_production round (rule "A") (place "A" 0) (n (rule "B") ∷ []) (inl refl);
  named = inl refl;
}

B_names_A : NamesInlined round (rule "B") (rule "A")
B_names_A = record {
  inlined = round_B;
  names_inlined = round_A;
  choice = place "B" 1;
  side = n (rule "A") ∷ [];
  produced = is_production round (rule "B") (place "B" 1) (n (rule "A") ∷ []) (inr (inl refl));
  named = inl refl;
}

-- `A` would be inlined into itself by `B`
pub A_is_cyclic : IsCyclic round (rule "A")
A_is_cyclic = (
  reached-each round 2 four refl (rule "A") (inr (inr (inl refl))),
  InlineChain.more (InlineChain.one A_names_B) B_names_A,
)

-- and `B` by `A`
pub B_is_cyclic : IsCyclic round (rule "B")
B_is_cyclic = (
  reached-each round 2 four refl (rule "B") (inr (inr (inr (inl refl)))),
  InlineChain.more (InlineChain.one B_names_A) A_names_B,
)

-- `S` names itself by both, but it isn't inlined
pub S_is_not_cyclic : IsCyclic round (rule "S") → ⊥
S_is_not_cyclic h =
    let wrong : false ≡ true = (inlined_decided round (rule "S")).0 (first_inlined round (rule "S") (rule "S") h.1) in cc

-- pub S = A; #[inline] A = B; #[inline] B = "b"
abbrev pub straight : EnabledGrammar
straight = enabled_grammar finds [] (grammar (rule_of "S" (alt (id "A" ∷ []) ∷ [])
    ∷ private (inline ∷ []) "A" (alt (id "B" ∷ []) ∷ [])
    ∷ private (inline ∷ []) "B" (alt (lit "b" ∷ []) ∷ []) ∷ []))

B_names_none : (y : Nonterminal) → NamesInlined straight (rule "B") y → ⊥
B_names_none y h = go (listed straight (rule "B") h.choice h.side h.produced)
  where
    of_side : Among (t "b" ∷ []) (n y) → ⊥
    of_side (inl e) = let wrong : ⊥ = cc in wrong
    of_side (inr i) = i

    go : Among {A = Choice} ((place "B" 0, t "b" ∷ []) ∷ []) (h.choice, h.side) → ⊥
    go (inl e) = of_side (subst (λ (s : RightSide). Among s (n y)) (sym (ap (λ (c : Choice). c.1) e)) h.named)
    go (inr i) = i

A_names_only_B : (y : Nonterminal) → NamesInlined straight (rule "A") y → rule "B" ≡ y
A_names_only_B y h = go (listed straight (rule "A") h.choice h.side h.produced)
  where
    of_side : Among (n (rule "B") ∷ []) (n y) → rule "B" ≡ y
    of_side (inl e) = cc
    of_side (inr i) = absurd i

    go : Among {A = Choice} ((place "A" 0, n (rule "B") ∷ []) ∷ []) (h.choice, h.side) → rule "B" ≡ y
    go (inl e) = of_side (subst (λ (s : RightSide). Among s (n y)) (sym (ap (λ (c : Choice). c.1) e)) h.named)
    go (inr i) = absurd i

none_from_B : (y : Nonterminal) → InlineChain straight (rule "B") y → ⊥
none_from_B y (InlineChain.one h) = B_names_none y h
none_from_B y (InlineChain.more c h) = none_from_B _ c

from_A : (y : Nonterminal) → InlineChain straight (rule "A") y → rule "B" ≡ y
from_A y (InlineChain.one h) = A_names_only_B y h
from_A z (InlineChain.more {y = y} c h) =
    absurd (B_names_none z (subst (λ (x : Nonterminal). NamesInlined straight x z) (sym (from_A y c)) h))

-- nothing is inlined into itself
pub none_cyclic : (x : Nonterminal) → IsCyclic straight x → ⊥
none_cyclic x h = go (all-of straight four refl x h.0) (first_inlined straight x x h.1) h.1
  where
    stays : IsInlined straight (rule "S") → ⊥
    stays k = let wrong : false ≡ true = (inlined_decided straight (rule "S")).0 k in cc

    apart : rule "B" ≡ rule "A" → ⊥
    apart e =
        let texts : codes "B" ≡ codes "A" = cc in
        let letters : ◌≡◌ {A = ℕ} 66 65 = cc in
        omega (arith, letters)

    go : Among (start ∷ rule "S" ∷ rule "A" ∷ rule "B" ∷ []) x → IsInlined straight x → InlineChain straight x x → ⊥
    go (inl e) k c = subst (IsInlined straight) (sym e) k
    go (inr (inl e)) k c = stays (subst (IsInlined straight) (sym e) k)
    go (inr (inr (inl e))) k c =
        apart (from_A (rule "A") (subst (λ (z : Nonterminal). InlineChain straight z z) (sym e) c))
    go (inr (inr (inr (inl e)))) k c =
        none_from_B (rule "B") (subst (λ (z : Nonterminal). InlineChain straight z z) (sym e) c)
    go (inr (inr (inr (inr i)))) k c = absurd i
