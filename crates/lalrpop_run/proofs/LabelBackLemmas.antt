-- No two labels of productions under names are one over nonterminals, whatever is inlined in each: for the labels of different steps.
use Rattle.std.proofs.Common.{◌≡◌, ◌∙◌, [], ◌∷◌, ap, refl, subst, sym}
use Rattle.lalrpop_grammar_language.specs.Expansion.{GrammarSymbol}
use Rattle.lalrpop_grammar_language.specs.Inlining.{Inlines, InlinesAll}
use Rattle.lalrpop_grammar_language.specs.Labels.{BaseProductions, GrammarSymbols, Inlinings, Label}
use Rattle.lalrpop_run_prepare.specs.NamedLabels.{AreNamedProductions, inlinings_back, label_back}

-- each choice in the label is that of a production
abbrev mutual
  pub IsOfProductions : {T D : Type 0} → BaseProductions T D → Label T D → Type 0
  IsOfProductions {T = T} L (Label.choose n d inlinings) = ((side : GrammarSymbols T) × L n d side) × AreOfProductions L inlinings

  pub AreOfProductions : {T D : Type 0} → BaseProductions T D → Inlinings T D → Type 0
  AreOfProductions L Inlinings.none = Unit {0}
  AreOfProductions L (Inlinings.kept inlinings) = AreOfProductions L inlinings
  AreOfProductions L (Inlinings.inlined label inlinings) = IsOfProductions L label × AreOfProductions L inlinings

mutual
  pub of_productions : {T D : Type 0} (L : BaseProductions T D) (In : T → Type 0) (label : Label T D) (n : T) (side : GrammarSymbols T) →
      Inlines L In n label side → IsOfProductions L label
  of_productions L In (Label.choose m d inlinings) n side h =
      ((h.1, subst (λ k. L k d h.1) (sym h.0) h.2), all_of_productions L In inlinings h.1 side h.3)

  all_of_productions : {T D : Type 0} (L : BaseProductions T D) (In : T → Type 0) (inlinings : Inlinings T D)
      (before side : GrammarSymbols T) → InlinesAll L In before inlinings side → AreOfProductions L inlinings
  all_of_productions L In Inlinings.none before side h = tt
  all_of_productions L In (Inlinings.kept inlinings) [] side h = absurd h
  all_of_productions L In (Inlinings.kept inlinings) (p ∷ before) side h = all_of_productions L In inlinings before h.1 h.3
  all_of_productions L In (Inlinings.inlined label inlinings) [] side h = absurd h
  all_of_productions L In (Inlinings.inlined label inlinings) (GrammarSymbol.terminal t ∷ before) side h = absurd h
  all_of_productions L In (Inlinings.inlined label inlinings) (GrammarSymbol.nonterminal x ∷ before) side h = (
    of_productions L In label x h.1.front h.1.is_front,
    all_of_productions L In inlinings before h.1.rest h.1.is_rest,
  )

module _ {N C T D : Type 0} (M : BaseProductions N C) (In : N → Type 0) (Known : N → Type 0) (L : BaseProductions T D)
    (InNamed : T → Type 0) (name_of : N → T) (back : D → N × C)
    (a : AreNamedProductions N C T D M In Known L InNamed name_of back) where
  mutual
    -- no two of them go back to one
    pub one_back : (label other : Label T D) → IsOfProductions L label → IsOfProductions L other →
        label_back back label ≡ label_back back other → label ≡ other
    one_back (Label.choose n d inlinings) (Label.choose m f others) h k e =
        let first : (back d).0 ≡ (back f).0 = cc in
        let second : (back d).1 ≡ (back f).1 = cc in
        let inside : inlinings_back back inlinings ≡ inlinings_back back others = cc in
        let sources : back d ≡ back f = ap (λ w. (w, (back d).1)) first ∙ ap (λ w. ((back f).0, w)) second in
        let choices : d ≡ f = a.once n m d f h.0.0 k.0.0 h.0.1 k.0.1 sources in
        let one = a.no_other n d h.0.0 h.0.1 in
        let two = a.no_other m f k.0.0 k.0.1 in
        let names : n ≡ m = one.name_is ∙ ap name_of first ∙ sym two.name_is in
        let rest : inlinings ≡ others = all_one_back inlinings others h.1 k.1 inside in
        ap (λ w. Label.choose w d inlinings) names ∙ ap (λ w. Label.choose m w inlinings) choices ∙ ap (Label.choose m f) rest

    all_one_back : (inlinings others : Inlinings T D) → AreOfProductions L inlinings → AreOfProductions L others →
        inlinings_back back inlinings ≡ inlinings_back back others → inlinings ≡ others
    all_one_back Inlinings.none Inlinings.none h k e = refl
    all_one_back Inlinings.none (Inlinings.kept others) h k e = cc
    all_one_back Inlinings.none (Inlinings.inlined l others) h k e = cc
    all_one_back (Inlinings.kept inlinings) Inlinings.none h k e = cc
    all_one_back (Inlinings.kept inlinings) (Inlinings.inlined l others) h k e = cc
    all_one_back (Inlinings.inlined label inlinings) Inlinings.none h k e = cc
    all_one_back (Inlinings.inlined label inlinings) (Inlinings.kept others) h k e = cc
    all_one_back (Inlinings.kept inlinings) (Inlinings.kept others) h k e =
        let inside : inlinings_back back inlinings ≡ inlinings_back back others = cc in
        ap Inlinings.kept (all_one_back inlinings others h k inside)
    all_one_back (Inlinings.inlined label inlinings) (Inlinings.inlined l others) h k e =
        let labels : label_back back label ≡ label_back back l = cc in
        let inside : inlinings_back back inlinings ≡ inlinings_back back others = cc in
        ap (λ w. Inlinings.inlined w inlinings) (one_back label l h.0 k.0 labels)
        ∙ ap (Inlinings.inlined l) (all_one_back inlinings others h.1 k.1 inside)
