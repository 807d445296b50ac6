-- A nonterminal never names itself where what it names is inlined before it: for the law on one step.
use Rattle.std.proofs.Common.{◌≡◌, List, [], ◌∷◌, ◌++◌, refl, sym, subst, inl, inr, ◌⊎◌}
use Rattle.lalrpop_grammar_language.specs.Among.{Among}
use Rattle.lalrpop_grammar_language.specs.Expansion.{GrammarSymbol}
use Rattle.lalrpop_grammar_language.specs.Labels.{GrammarSymbols, BaseProductions, Label, Inlinings}
use Rattle.lalrpop_grammar_language.specs.Inlining.{Inlines, InlinesAll, IsNotInlined}
use Rattle.lalrpop_grammar_language.specs.Steps.{NeverNamesItself, NamesInlinedFirst}

pub among_parts : {A : Type 0} (xs ys : List A) (x : A) → Among (xs ++ ys) x → Among xs x ⊎ Among ys x
among_parts [] ys x h = inr h
among_parts (y ∷ xs) ys x (inl e) = inl (inl e)
among_parts {A = A} (y ∷ xs) ys x (inr h) = go (among_parts xs ys x h)
  where
    go : Among xs x ⊎ Among ys x → Among (y ∷ xs) x ⊎ Among ys x
    go (inl i) = inl (inr i)
    go (inr i) = inr i

neither : {A B : Type 0} → (A → ⊥) → (B → ⊥) → A ⊎ B → ⊥
neither f g (inl a) = f a
neither f g (inr b) = g b

-- each nonterminal of the right side that is to be inlined is inlined already
abbrev AreInlined : {N : Type 0} → (N → Type 0) → (N → Type 0) → GrammarSymbols N → Type 0
AreInlined {N = N} In Marked side = (y : N) → Among side (GrammarSymbol.nonterminal y) → Marked y → In y

not_kept : {N : Type 0} (In : N → Type 0) (p : GrammarSymbol N) (y : N) → p ≡ GrammarSymbol.nonterminal y → IsNotInlined In p →
    In y → ⊥
not_kept In (GrammarSymbol.terminal t) y e k i = (let f : GrammarSymbol.terminal t ≡ GrammarSymbol.nonterminal y = e in cc)
not_kept In (GrammarSymbol.nonterminal x) y e k i =
    let f : GrammarSymbol.nonterminal x ≡ GrammarSymbol.nonterminal y = e in
    let same : x ≡ y = cc in
    k (subst In (sym same) i)

mutual
  -- so none of them is left in the right side after inlining
  none_left : {N C : Type 0} (M : BaseProductions N C) (In Marked : N → Type 0) →
      ((x : N) (c : C) (side : GrammarSymbols N) → In x → M x c side → AreInlined In Marked side) →
      (inlinings : Inlinings N C) (before side : GrammarSymbols N) → AreInlined In Marked before →
      InlinesAll M In before inlinings side →
      (y : N) → Among side (GrammarSymbol.nonterminal y) → Marked y → ⊥
  none_left M In Marked first Inlinings.none [] side are h y i m =
      subst (λ l. Among l (GrammarSymbol.nonterminal y)) h i
  none_left M In Marked first (Inlinings.kept inlinings) [] side are h y i m = absurd h
  none_left M In Marked first (Inlinings.inlined label inlinings) [] side are h y i m = absurd h
  none_left M In Marked first Inlinings.none (p ∷ before) side are h y i m = absurd h
  none_left M In Marked first (Inlinings.kept inlinings) (p ∷ before) side are h y i m =
      neither (λ e. not_kept In p y e h.0 (are y (inl e) m))
      (λ j. none_left M In Marked first inlinings before h.1 (λ z a b. are z (inr a) b) h.3 y j m)
      (subst (λ l. Among l (GrammarSymbol.nonterminal y)) h.2 i)
  none_left M In Marked first (Inlinings.inlined label inlinings) (GrammarSymbol.terminal t ∷ before) side are h y i m = absurd h
  none_left M In Marked first (Inlinings.inlined label inlinings) (GrammarSymbol.nonterminal x ∷ before) side are h y i m =
      neither (λ j. none_left_by M In Marked first label x h.1.front (λ c s k. first x c s h.0 k) h.1.is_front y j m)
      (λ j. none_left M In Marked first inlinings before h.1.rest (λ z a b. are z (inr a) b) h.1.is_rest y j m)
      (among_parts h.1.front h.1.rest (GrammarSymbol.nonterminal y)
      (subst (λ l. Among l (GrammarSymbol.nonterminal y)) h.1.side_is i))

  none_left_by : {N C : Type 0} (M : BaseProductions N C) (In Marked : N → Type 0) →
      ((x : N) (c : C) (side : GrammarSymbols N) → In x → M x c side → AreInlined In Marked side) →
      (label : Label N C) (x : N) (side : GrammarSymbols N) →
      ((c : C) (s : GrammarSymbols N) → M x c s → AreInlined In Marked s) → Inlines M In x label side →
      (y : N) → Among side (GrammarSymbol.nonterminal y) → Marked y → ⊥
  none_left_by M In Marked first (Label.choose z c inlinings) x side own h y i m =
      none_left M In Marked first inlinings h.1 side (own c h.1 h.2) h.3 y i m

-- a nonterminal to be inlined never names itself where what it and the inlined ones name is inlined first
pub never_names : {N C : Type 0} (M : BaseProductions N C) (In Marked : N → Type 0) (n : N) → Marked n →
    NamesInlinedFirst M In Marked n → NeverNamesItself M In n
never_names M In Marked n marked first label side h i =
    none_left_by M In Marked (λ x c s k m y a b. first x c s y (inl k) m a b) label n side (λ c s k y a b. first n c s y (inr refl) k a b)
    h n i marked
