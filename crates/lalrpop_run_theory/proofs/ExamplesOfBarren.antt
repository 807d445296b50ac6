-- Computed examples of barren nonterminals, of the name that is told, and names that aren't told.
use Rattle.std.proofs.Common.{◌≡◌, ℕ, [], ◌∷◌, refl, ap, sym, ◌∙◌, subst, inl, inr}
use Rattle.std.proofs.Common.{◌⊎◌, arith, length}
use Rattle.std.specs.Fmt.{digits}
use Rattle.std.specs.Prelude.{codes}
use Rattle.std.specs.Cmp.Lexicographic.{slice_cmp}
use Rattle.std.specs.Ordering.{nat_cmp}
use Rattle.std.specs.declared.cmp.Ordering.TheVariants.{Less, Greater}
use Rattle.lalrpop_grammar_symbols.specs.Symbols.{Text, Terminal}
use Rattle.lalrpop_grammar.specs.WrittenGrammar.{Origin}
use Rattle.lalrpop_grammar_language.specs.Among.{Among}
use Rattle.lalrpop_grammar_language.specs.Enabled.{EnabledGrammar, enabled_grammar}
use Rattle.lalrpop_grammar_language.specs.Expansion.{Nonterminal, RightSide, Produces}
use Rattle.lalrpop_grammar_language.specs.Derivations.{Derivation, Derivations, IsDerivationOf, AreDerivationsOf}
use Rattle.lalrpop_grammar_language.proofs.WrittenTreeLemmas.{lit, id, alt, rule_of, grammar, finds}
use Rattle.lalrpop_norm_theory.specs.Keys.{leveled_key_text}
use Rattle.lalrpop_norm_theory.proofs.NamingListLemmas.{name_by, naming-is}
use Rattle.lalrpop_norm_theory.proofs.UsedListLemmas.{keys-by-use}
use Rattle.lalrpop_norm_theory.proofs.ProductionListLemmas.{is_production, listed}
use Rattle.lalrpop_run_theory.specs.Barren.{IsReachedFrom, IsWrittenStart, IsBarrenFrom, IsLeastBarrenName, HasNoBarren}
use Rattle.lalrpop_run_theory.proofs.BarrenLemmas.{written_start_once}
use Rattle.lalrpop_run_theory.proofs.ExamplesOfExpansions.{n, place, private, rule, t}

abbrev Choice : Type 0
Choice = Origin × RightSide

-- pub S = A; A = "a" A
abbrev endless : EnabledGrammar
endless = enabled_grammar finds [] (grammar (rule_of "S" (alt (id "A" ∷ []) ∷ [])
    ∷ private [] "A" (alt (lit "a" ∷ id "A" ∷ []) ∷ []) ∷ []))

A_side : (o : Origin) (side : RightSide) → Produces endless (rule "A") o side → side ≡ t "a" ∷ n (rule "A") ∷ []
A_side o side m = go (listed endless (rule "A") o side m)
  where
    go : Among {A = Choice} ((place "A" 0, t "a" ∷ n (rule "A") ∷ []) ∷ []) (o, side) → side ≡ t "a" ∷ n (rule "A") ∷ []
    go (inl e) = sym (ap (λ (c : Choice). c.1) e)
    go (inr i) = absurd i

-- `A` has no finite derivation
no_A : (d : Derivation) → IsDerivationOf endless (n (rule "A")) d → ⊥
no_A (Derivation.leaf u p) h = absurd h
no_A (Derivation.node y o Derivations.none) h =
    subst (λ s. AreDerivationsOf endless s Derivations.none) (A_side o h.1 h.2) h.3
no_A (Derivation.node y o (Derivations.more k Derivations.none)) h =
    (subst (λ s. AreDerivationsOf endless s (Derivations.more k Derivations.none)) (A_side o h.1 h.2) h.3).1
no_A (Derivation.node y o (Derivations.more k (Derivations.more m ds))) h =
    no_A m (subst (λ s. AreDerivationsOf endless s (Derivations.more k (Derivations.more m ds))) (A_side o h.1 h.2) h.3).1.0

S_side : (o : Origin) (side : RightSide) → Produces endless (rule "S") o side → side ≡ n (rule "A") ∷ []
S_side o side m = go (listed endless (rule "S") o side m)
  where
    go : Among {A = Choice} ((place "S" 0, n (rule "A") ∷ []) ∷ []) (o, side) → side ≡ n (rule "A") ∷ []
    go (inl e) = sym (ap (λ (c : Choice). c.1) e)
    go (inr i) = absurd i

S_starts : IsWrittenStart endless (codes "S") (rule "S")
S_starts = record { rule = _; is_rule = refl; no_macro = refl; start_is = refl }

A_reached : IsReachedFrom endless (rule "S") (rule "A")
A_reached =
    IsReachedFrom.onward (rule "S") (place "S" 0) (n (rule "A") ∷ []) (rule "A") IsReachedFrom.itself
    (is_production endless (rule "S") (place "S" 0) (n (rule "A") ∷ []) (inl refl)) (inl refl)

A_barren : IsBarrenFrom endless (codes "S") (rule "A")
A_barren = record { from = rule "S"; is_start = S_starts; reached = A_reached; barren = no_A }

-- nothing else is reached
only_these : (from x : Nonterminal) → IsWrittenStart endless (codes "S") from → IsReachedFrom endless from x →
    (rule "S" ≡ x) ⊎ (rule "A" ≡ x)
only_these from x h IsReachedFrom.itself = inl (written_start_once endless (codes "S") (rule "S") from S_starts h)
only_these from x h (IsReachedFrom.onward y o side z r m a) = go (only_these from y h r)
  where
    among_A : Among (n (rule "A") ∷ []) (n x) → rule "A" ≡ x
    among_A (inl e) = cc
    among_A (inr i) = absurd i

    among_a : Among (t "a" ∷ n (rule "A") ∷ []) (n x) → rule "A" ≡ x
    among_a (inl e) = cc
    among_a (inr i) = among_A i

    go : (rule "S" ≡ y) ⊎ (rule "A" ≡ y) → (rule "S" ≡ x) ⊎ (rule "A" ≡ x)
    go (inl e) =
        inr (among_A (subst (λ s. Among s (n x)) (S_side o side (subst (λ w. Produces endless w o side) (sym e) m)) a))
    go (inr e) =
        inr (among_a (subst (λ s. Among s (n x)) (A_side o side (subst (λ w. Produces endless w o side) (sym e) m)) a))

abbrev endless_names : Nonterminal → Text
endless_names = name_by (leveled_key_text endless) (codes "__") []

-- `A` is told
A_told : IsLeastBarrenName endless (codes "__") (codes "S") (codes "A")
unfolding digits
A_told = record {
  name_of = endless_names;
  naming = record {
    naming = naming-is endless (leveled_key_text endless) (codes "__") []
        2 (Nonterminal.start (codes "S") ∷ rule "S" ∷ rule "A" ∷ []) refl refl refl;
    levels = tt;
    others = [];
    in_order = keys-by-use endless [] refl;
    numbered = tt;
  };
  told = record {
    nonterminal = rule "A";
    is_barren = A_barren;
    name_is = refl;
    least = λ x b. at x (only_these b.from x b.is_start b.reached);
  };
}
  where
    at : (x : Nonterminal) → (rule "S" ≡ x) ⊎ (rule "A" ≡ x) →
        (endless_names x ≡ codes "A") ⊎ (slice_cmp nat_cmp (codes "A") (endless_names x) ≡ Less)
    at x (inl e) = inr (ap (λ z. slice_cmp nat_cmp (codes "A") (endless_names z)) (sym e))
    at x (inr e) = inl (ap endless_names (sym e))

-- `S`, which is barren too, isn't
S_not_told : IsLeastBarrenName endless (codes "__") (codes "S") (codes "S") → ⊥
S_not_told h = go (h.told.least (rule "A") A_barren)
  where
    named : h.name_of (rule "A") ≡ codes "A"
    named = h.naming.naming.rules _ refl refl

    go : (h.name_of (rule "A") ≡ codes "S") ⊎ (slice_cmp nat_cmp (codes "S") (h.name_of (rule "A")) ≡ Less) → ⊥
    go (inl e) =
        let texts : codes "A" ≡ codes "S" = sym named ∙ e in
        let letters : ◌≡◌ {A = ℕ} 65 83 = cc in
        omega (arith, letters)
    go (inr e) =
        let order : Greater ≡ Less = ap (slice_cmp nat_cmp (codes "S")) (sym named) ∙ e in
        cc

-- pub a = a: the rule is told, and not its start
abbrev itself : EnabledGrammar
itself = enabled_grammar finds [] (grammar (rule_of "a" (alt (id "a" ∷ []) ∷ []) ∷ []))

a_starts : IsWrittenStart itself (codes "a") (rule "a")
a_starts = record { rule = _; is_rule = refl; no_macro = refl; start_is = refl }

only_a : (from x : Nonterminal) → IsWrittenStart itself (codes "a") from → IsReachedFrom itself from x → rule "a" ≡ x
only_a from x h IsReachedFrom.itself = written_start_once itself (codes "a") (rule "a") from a_starts h
only_a from x h (IsReachedFrom.onward y o side z r m a) =
    go (listed itself (rule "a") o side (subst (λ w. Produces itself w o side) (sym (only_a from y h r)) m))
  where
    among : Among (n (rule "a") ∷ []) (n x) → rule "a" ≡ x
    among (inl e) = cc
    among (inr i) = absurd i

    go : Among {A = Choice} ((place "a" 0, n (rule "a") ∷ []) ∷ []) (o, side) → rule "a" ≡ x
    go (inl e) = among (subst (λ s. Among s (n x)) (sym (ap (λ (c : Choice). c.1) e)) a)
    go (inr i) = absurd i

start_not_told : IsLeastBarrenName itself (codes "__") (codes "a") (codes "__a") → ⊥
start_not_told h =
    let b = h.told.is_barren in
    let is : rule "a" ≡ h.told.nonterminal = only_a b.from h.told.nonterminal b.is_start b.reached in
    let named : h.name_of (rule "a") ≡ codes "a" = h.naming.naming.rules _ refl refl in
    let texts : codes "a" ≡ codes "__a" = sym named ∙ ap h.name_of is ∙ h.told.name_is in
    let lengths : length (codes "a") ≡ length (codes "__a") = ap length texts in
    omega (arith, lengths)

-- pub S = { "a", S "b" } has none, though one of its productions names it
abbrev endable : EnabledGrammar
endable = enabled_grammar finds [] (grammar (rule_of "S" (alt (lit "a" ∷ []) ∷ alt (id "S" ∷ lit "b" ∷ []) ∷ []) ∷ []))

only_S : (from x : Nonterminal) → IsWrittenStart endable (codes "S") from → IsReachedFrom endable from x → rule "S" ≡ x
only_S from x h IsReachedFrom.itself =
    written_start_once endable (codes "S") (rule "S") from (record { rule = _; is_rule = refl; no_macro = refl; start_is = refl }) h
only_S from x h (IsReachedFrom.onward y o side z r m a) =
    go (listed endable (rule "S") o side (subst (λ w. Produces endable w o side) (sym (only_S from y h r)) m))
  where
    one : Among (t "a" ∷ []) (n x) → rule "S" ≡ x
    one (inl e) = cc
    one (inr i) = absurd i

    two : Among (n (rule "S") ∷ t "b" ∷ []) (n x) → rule "S" ≡ x
    two (inl e) = cc
    two (inr (inl e)) = cc
    two (inr (inr i)) = absurd i

    go : Among {A = Choice} ((place "S" 0, t "a" ∷ []) ∷ (place "S" 1, n (rule "S") ∷ t "b" ∷ []) ∷ []) (o, side) →
        rule "S" ≡ x
    go (inl e) = one (subst (λ s. Among s (n x)) (sym (ap (λ (c : Choice). c.1) e)) a)
    go (inr (inl e)) = two (subst (λ s. Among s (n x)) (sym (ap (λ (c : Choice). c.1) e)) a)
    go (inr (inr i)) = absurd i

none_barren : HasNoBarren endable (codes "S")
none_barren from x h r = (
  Derivation.node (rule "S") (place "S" 0)
      (Derivations.more (Derivation.leaf (Terminal.quoted (codes "a")) (0, 1)) Derivations.none),
  subst (λ y. IsDerivationOf endable (n y) (Derivation.node (rule "S") (place "S" 0)
      (Derivations.more (Derivation.leaf (Terminal.quoted (codes "a")) (0, 1)) Derivations.none)))
      (only_S from x h r)
      (refl, t "a" ∷ [], is_production endable (rule "S") (place "S" 0) (t "a" ∷ []) (inl refl), (refl, tt)),
)

-- and `endless` isn't so
some_barren : HasNoBarren endless (codes "S") → ⊥
some_barren h = let d = h (rule "S") (rule "A") S_starts A_reached in no_A d.0 d.1
