-- Inlining under names is inlining, both ways: for the law on inlined grammars.
use Rattle.std.proofs.Common.{◌≡◌, [], ◌∷◌, ◌++◌, refl, ap, sym, ◌∙◌, subst, inl, inr}
use Rattle.std.proofs.lemmas.List.{map-append}
use Rattle.lalrpop_grammar_language.specs.Expansion.{GrammarSymbol}
use Rattle.lalrpop_norm_theory.specs.Same.{rename_side, rename_symbol}
use Rattle.lalrpop_grammar_language.specs.Labels.{GrammarSymbols, BaseProductions, Label, Inlinings}
use Rattle.lalrpop_grammar_language.specs.Inlining.{IsNotInlined, Inlines, InlinesAll}
use Rattle.lalrpop_run_theory.proofs.ReachLemmas.{HoldsInside}
use Rattle.lalrpop_run_prepare.specs.NamedLabels.{AreNamedProductions, label_back, inlinings_back}

-- A label under names, of the production with this right side, that is the given one.
pub record HasNamedLabel (N : Type 0) (C : Type 0) (T : Type 0) (D : Type 0) (back : D → N × C) (label : Label N C)
    (Produced : Label T D → Type 0) : Type 0 where
  pub named : Label T D
  pub produced : Produced named
  pub label_is : label_back back named ≡ label

record HaveNamedInlinings (N : Type 0) (C : Type 0) (T : Type 0) (D : Type 0) (back : D → N × C) (inlinings : Inlinings N C)
    (Inlined : Inlinings T D → Type 0) : Type 0 where
  named : Inlinings T D
  inlined : Inlined named
  inlinings_are : inlinings_back back named ≡ inlinings

-- A right side over nonterminals that this one is under names.
pub record HasSource (N : Type 0) (T : Type 0) (name_of : N → T) (side : GrammarSymbols T) (Produced : GrammarSymbols N → Type 0) :
    Type 0 where
  pub source : GrammarSymbols N
  pub produced : Produced source
  pub side_is : side ≡ rename_side name_of source

module _ {N C T D : Type 0} (M : BaseProductions N C) (In : N → Type 0) (Known : N → Type 0) (L : BaseProductions T D)
    (InNamed : T → Type 0) (name_of : N → T) (back : D → N × C)
    (a : AreNamedProductions N C T D M In Known L InNamed name_of back) where
  kept_named : (p : GrammarSymbol N) → ((y : N) → p ≡ GrammarSymbol.nonterminal y → Known y) → IsNotInlined In p →
      IsNotInlined InNamed (rename_symbol name_of p)
  kept_named (GrammarSymbol.terminal t) k h = tt
  kept_named (GrammarSymbol.nonterminal y) k h = λ i. h ((a.inlined y (k y refl)).1 i)

  kept_back : (p : GrammarSymbol N) → ((y : N) → p ≡ GrammarSymbol.nonterminal y → Known y) →
      IsNotInlined InNamed (rename_symbol name_of p) → IsNotInlined In p
  kept_back (GrammarSymbol.terminal t) k h = tt
  kept_back (GrammarSymbol.nonterminal y) k h = λ i. h ((a.inlined y (k y refl)).0 i)

  mutual
    -- a production after inlining, under names
    pub named_inlines : (label : Label N C) (x : N) (side : GrammarSymbols N) → Known x → Inlines M In x label side →
        HasNamedLabel N C T D back label (λ named. Inlines L InNamed (name_of x) named (rename_side name_of side))
    named_inlines (Label.choose z choice inlinings) x side k h =
        let q = a.every x choice h.1 k h.2 in
        let r = named_inlinings inlinings h.1 side (a.known x choice h.1 k h.2) h.3 in
        record {
          named = Label.choose (name_of x) q.0 r.named;
          produced = (refl, rename_side name_of h.1, q.1, r.inlined);
          label_is =
              ap (λ (w : N × C). Label.choose w.0 w.1 (inlinings_back back r.named)) q.2
              ∙ ap (λ w. Label.choose w choice (inlinings_back back r.named)) (sym h.0)
              ∙ ap (Label.choose z choice) r.inlinings_are;
        }

    named_inlinings : (inlinings : Inlinings N C) (before side : GrammarSymbols N) → HoldsInside Known before →
        InlinesAll M In before inlinings side →
        HaveNamedInlinings N C T D back inlinings
        (λ named. InlinesAll L InNamed (rename_side name_of before) named (rename_side name_of side))
    named_inlinings Inlinings.none [] side k h =
        record { named = Inlinings.none; inlined = ap (rename_side name_of) h; inlinings_are = refl }
    named_inlinings (Inlinings.kept inlinings) [] side k h = absurd h
    named_inlinings (Inlinings.inlined label inlinings) [] side k h = absurd h
    named_inlinings Inlinings.none (p ∷ before) side k h = absurd h
    named_inlinings (Inlinings.kept inlinings) (p ∷ before) side k h =
        let r = named_inlinings inlinings before h.1 (λ y i. k y (inr i)) h.3 in
        record {
          named = Inlinings.kept r.named;
          inlined = (
            kept_named p (λ y e. k y (inl e)) h.0,
            rename_side name_of h.1,
            ap (rename_side name_of) h.2,
            r.inlined,
          );
          inlinings_are = ap Inlinings.kept r.inlinings_are;
        }
    named_inlinings (Inlinings.inlined label inlinings) (GrammarSymbol.terminal t ∷ before) side k h = absurd h
    named_inlinings (Inlinings.inlined label inlinings) (GrammarSymbol.nonterminal x ∷ before) side k h =
        let here = k x (inl refl) in
        let r = named_inlines label x h.1.front here h.1.is_front in
        let s = named_inlinings inlinings before h.1.rest (λ y i. k y (inr i)) h.1.is_rest in
        record {
          named = Inlinings.inlined r.named s.named;
          inlined = (
            (a.inlined x here).0 h.0,
            record {
              front = rename_side name_of h.1.front;
              rest = rename_side name_of h.1.rest;
              side_is = ap (rename_side name_of) h.1.side_is ∙ map-append (rename_symbol name_of) h.1.front h.1.rest;
              is_front = r.produced;
              is_rest = s.inlined;
            },
          );
          inlinings_are =
              ap (λ w. Inlinings.inlined w (inlinings_back back s.named)) r.label_is
              ∙ ap (Inlinings.inlined label) s.inlinings_are;
        }

  mutual
    -- and back
    pub source_inlines : (label : Label T D) (x : N) (side : GrammarSymbols T) → Known x →
        Inlines L InNamed (name_of x) label side →
        HasSource N T name_of side (λ source. Inlines M In x (label_back back label) source)
    source_inlines (Label.choose n d inlinings) x side k h =
        let q = a.no_other (name_of x) d h.1 h.2 in
        let same : (back d).0 ≡ x = a.apart (back d).0 x q.known k (sym q.name_is) in
        let r = source_inlinings inlinings q.from side (a.known (back d).0 (back d).1 q.from q.known q.produced)
        (subst (λ b. InlinesAll L InNamed b inlinings side) q.side_is h.3) in
        record {
          source = r.source;
          produced = (same, q.from, subst (λ y. M y (back d).1 q.from) same q.produced, r.produced);
          side_is = r.side_is;
        }

    source_inlinings : (inlinings : Inlinings T D) (before : GrammarSymbols N) (side : GrammarSymbols T) → HoldsInside Known before →
        InlinesAll L InNamed (rename_side name_of before) inlinings side →
        HasSource N T name_of side (λ source. InlinesAll M In before (inlinings_back back inlinings) source)
    source_inlinings Inlinings.none [] side k h = record { source = []; produced = refl; side_is = h }
    source_inlinings (Inlinings.kept inlinings) [] side k h = absurd h
    source_inlinings (Inlinings.inlined label inlinings) [] side k h = absurd h
    source_inlinings Inlinings.none (p ∷ before) side k h = absurd h
    source_inlinings (Inlinings.kept inlinings) (p ∷ before) side k h =
        let r = source_inlinings inlinings before h.1 (λ y i. k y (inr i)) h.3 in
        record {
          source = p ∷ r.source;
          produced = (kept_back p (λ y e. k y (inl e)) h.0, r.source, refl, r.produced);
          side_is = h.2 ∙ ap (λ z. rename_symbol name_of p ∷ z) r.side_is;
        }
    source_inlinings (Inlinings.inlined label inlinings) (GrammarSymbol.terminal t ∷ before) side k h = absurd h
    source_inlinings (Inlinings.inlined label inlinings) (GrammarSymbol.nonterminal x ∷ before) side k h =
        let here = k x (inl refl) in
        let r = source_inlines label x h.1.front here h.1.is_front in
        let s = source_inlinings inlinings before h.1.rest (λ y i. k y (inr i)) h.1.is_rest in
        record {
          source = r.source ++ s.source;
          produced = (
            (a.inlined x here).1 h.0,
            record { front = r.source; rest = s.source; side_is = refl; is_front = r.produced; is_rest = s.produced },
          );
          side_is =
              h.1.side_is ∙ ap (λ z. z ++ h.1.rest) r.side_is ∙ ap (λ z. rename_side name_of r.source ++ z) s.side_is
              ∙ sym (map-append (rename_symbol name_of) r.source s.source);
        }

  mutual
    -- no two labels under names are one
    pub label_back_once : (label other : Label T D) (n m : T) (side end : GrammarSymbols T) → Inlines L InNamed n label side →
        Inlines L InNamed m other end → label_back back label ≡ label_back back other → label ≡ other
    label_back_once (Label.choose y d inlinings) (Label.choose z f others) n m side end h k e =
        let first : (back d).0 ≡ (back f).0 = cc in
        let second : (back d).1 ≡ (back f).1 = cc in
        let inside : inlinings_back back inlinings ≡ inlinings_back back others = cc in
        let sources : back d ≡ back f = ap (λ w. (w, (back d).1)) first ∙ ap (λ w. ((back f).0, w)) second in
        let choices : d ≡ f = a.once n m d f h.1 k.1 h.2 k.2 sources in
        let one = a.no_other n d h.1 h.2 in
        let two = a.no_other m f k.1 k.2 in
        let here : y ≡ name_of (back d).0 = h.0 ∙ one.name_is in
        let there : z ≡ name_of (back f).0 = k.0 ∙ two.name_is in
        let names : y ≡ z = here ∙ ap name_of first ∙ sym there in
        let rest : inlinings ≡ others = inlinings_back_once inlinings others h.1 k.1 side end h.3 k.3 inside in
        ap (λ w. Label.choose w d inlinings) names ∙ ap (λ w. Label.choose z w inlinings) choices ∙ ap (Label.choose z f) rest

    inlinings_back_once : (inlinings others : Inlinings T D) (before ahead side end : GrammarSymbols T) →
        InlinesAll L InNamed before inlinings side → InlinesAll L InNamed ahead others end →
        inlinings_back back inlinings ≡ inlinings_back back others → inlinings ≡ others
    inlinings_back_once Inlinings.none Inlinings.none before ahead side end h k e = refl
    inlinings_back_once Inlinings.none (Inlinings.kept others) before ahead side end h k e = cc
    inlinings_back_once Inlinings.none (Inlinings.inlined l others) before ahead side end h k e = cc
    inlinings_back_once (Inlinings.kept inlinings) Inlinings.none before ahead side end h k e = cc
    inlinings_back_once (Inlinings.kept inlinings) (Inlinings.inlined l others) before ahead side end h k e = cc
    inlinings_back_once (Inlinings.inlined label inlinings) Inlinings.none before ahead side end h k e = cc
    inlinings_back_once (Inlinings.inlined label inlinings) (Inlinings.kept others) before ahead side end h k e = cc
    inlinings_back_once (Inlinings.kept inlinings) (Inlinings.kept others) [] ahead side end h k e = absurd h
    inlinings_back_once (Inlinings.kept inlinings) (Inlinings.kept others) (p ∷ before) [] side end h k e = absurd k
    inlinings_back_once (Inlinings.kept inlinings) (Inlinings.kept others) (p ∷ before) (q ∷ ahead) side end h k e =
        let inside : inlinings_back back inlinings ≡ inlinings_back back others = cc in
        ap Inlinings.kept (inlinings_back_once inlinings others before ahead h.1 k.1 h.3 k.3 inside)
    inlinings_back_once (Inlinings.inlined label inlinings) (Inlinings.inlined l others) [] ahead side end h k e = absurd h
    inlinings_back_once (Inlinings.inlined label inlinings) (Inlinings.inlined l others) (GrammarSymbol.terminal t ∷ before) ahead
        side end h k e = absurd h
    inlinings_back_once (Inlinings.inlined label inlinings) (Inlinings.inlined l others) (GrammarSymbol.nonterminal x ∷ before) []
        side end h k e = absurd k
    inlinings_back_once (Inlinings.inlined label inlinings) (Inlinings.inlined l others) (GrammarSymbol.nonterminal x ∷ before)
        (GrammarSymbol.terminal t ∷ ahead) side end h k e = absurd k
    inlinings_back_once (Inlinings.inlined label inlinings) (Inlinings.inlined l others) (GrammarSymbol.nonterminal x ∷ before)
        (GrammarSymbol.nonterminal y ∷ ahead) side end h k e =
        let labels : label_back back label ≡ label_back back l = cc in
        let inside : inlinings_back back inlinings ≡ inlinings_back back others = cc in
        let one : label ≡ l = label_back_once label l x y h.1.front k.1.front h.1.is_front k.1.is_front labels in
        let rest : inlinings ≡ others =
        inlinings_back_once inlinings others before ahead h.1.rest k.1.rest h.1.is_rest k.1.is_rest inside in
        ap (λ w. Inlinings.inlined w inlinings) one ∙ ap (Inlinings.inlined l) rest
