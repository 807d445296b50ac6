-- A label has one right side after inlining where each choice has one before it, and it matters only which nonterminals are
-- inlined: for the laws on labels.
use Rattle.std.proofs.Common.{◌≡◌, ◌↔◌, List, [], ◌∷◌, ◌++◌, refl, ap, sym, ◌∙◌, subst}
use Rattle.lalrpop_grammar_language.specs.Expansion.{GrammarSymbol}
use Rattle.lalrpop_grammar_language.specs.Labels.{GrammarSymbols, BaseProductions, Label, Inlinings}
use Rattle.lalrpop_grammar_language.specs.Inlining.{IsNotInlined, Inlines, InlinesAll, HaveOneSide}
use Rattle.lalrpop_grammar_language.specs.Steps.{RecordedSymbol, symbols_before, record_inlinings, IsRecord}

mutual
  one_side_all : {N C : Type 0} (M : BaseProductions N C) (In : N → Type 0) → HaveOneSide M → (inlinings : Inlinings N C)
      (before s t : GrammarSymbols N) → InlinesAll M In before inlinings s → InlinesAll M In before inlinings t → s ≡ t
  one_side_all M In one Inlinings.none [] s t g h = g ∙ sym h
  one_side_all M In one (Inlinings.kept inlinings) [] s t g h = absurd h
  one_side_all M In one (Inlinings.inlined label inlinings) [] s t g h = absurd h
  one_side_all M In one Inlinings.none (p ∷ before) s t g h = absurd h
  one_side_all M In one (Inlinings.kept inlinings) (p ∷ before) s t g h =
      g.2 ∙ ap (λ l. p ∷ l) (one_side_all M In one inlinings before g.1 h.1 g.3 h.3) ∙ sym h.2
  one_side_all M In one (Inlinings.inlined label inlinings) (GrammarSymbol.terminal u ∷ before) s t g h = absurd h
  one_side_all M In one (Inlinings.inlined label inlinings) (GrammarSymbol.nonterminal x ∷ before) s t g h =
      let v = g.1 in
      let w = h.1 in
      v.side_is ∙ ap (λ l. l ++ v.rest) (one_side M In one label x v.front w.front v.is_front w.is_front)
      ∙ ap (λ l. w.front ++ l) (one_side_all M In one inlinings before v.rest w.rest v.is_rest w.is_rest) ∙ sym w.side_is

  -- a label has one right side
  pub one_side : {N C : Type 0} (M : BaseProductions N C) (In : N → Type 0) → HaveOneSide M → (label : Label N C) (x : N)
      (s t : GrammarSymbols N) → Inlines M In x label s → Inlines M In x label t → s ≡ t
  one_side M In one (Label.choose y c inlinings) x s t g h =
      let same : g.1 ≡ h.1 = one x c g.1 h.1 g.2 h.2 in
      one_side_all M In one inlinings h.1 s t (subst (λ b. InlinesAll M In b inlinings s) same g.3) h.3

-- records of one right side that say the same are the same
pub one_record : {N C : Type 0} (M : BaseProductions N C) (In : N → Type 0) → HaveOneSide M → (n : N)
    (rs qs : List (RecordedSymbol N C)) → IsRecord M In n rs → IsRecord M In n qs → symbols_before n rs ≡ symbols_before n qs →
    record_inlinings rs ≡ record_inlinings qs → rs ≡ qs
one_record M In one n [] [] a b e f = refl
one_record M In one n [] (RecordedSymbol.original p ∷ qs) a b e f =
    (let g : Inlinings.none ≡ Inlinings.kept (record_inlinings qs) = f in cc)
one_record M In one n [] (RecordedSymbol.inlined l s ∷ qs) a b e f =
    (let g : Inlinings.none ≡ Inlinings.inlined l (record_inlinings qs) = f in cc)
one_record M In one n (RecordedSymbol.original p ∷ rs) [] a b e f =
    (let g : Inlinings.none ≡ Inlinings.kept (record_inlinings rs) = sym f in cc)
one_record M In one n (RecordedSymbol.inlined l s ∷ rs) [] a b e f =
    (let g : Inlinings.none ≡ Inlinings.inlined l (record_inlinings rs) = sym f in cc)
one_record M In one n (RecordedSymbol.original p ∷ rs) (RecordedSymbol.inlined l s ∷ qs) a b e f =
    (let g : Inlinings.kept (record_inlinings rs) ≡ Inlinings.inlined l (record_inlinings qs) = f in cc)
one_record M In one n (RecordedSymbol.inlined l s ∷ rs) (RecordedSymbol.original p ∷ qs) a b e f =
    (let g : Inlinings.kept (record_inlinings qs) ≡ Inlinings.inlined l (record_inlinings rs) = sym f in cc)
one_record M In one n (RecordedSymbol.original p ∷ rs) (RecordedSymbol.original q ∷ qs) a b e f =
    let g : Inlinings.kept (record_inlinings rs) ≡ Inlinings.kept (record_inlinings qs) = f in
    let d : p ∷ symbols_before n rs ≡ q ∷ symbols_before n qs = e in
    let same : p ≡ q = cc in
    ap (λ z. RecordedSymbol.original z ∷ rs) same
    ∙ ap (λ z. RecordedSymbol.original q ∷ z) (one_record M In one n rs qs a.1 b.1 (cc) (cc))
one_record M In one n (RecordedSymbol.inlined l s ∷ rs) (RecordedSymbol.inlined k t ∷ qs) a b e f =
    let g : Inlinings.inlined l (record_inlinings rs) ≡ Inlinings.inlined k (record_inlinings qs) = f in
    let d : GrammarSymbol.nonterminal n ∷ symbols_before n rs ≡ GrammarSymbol.nonterminal n ∷ symbols_before n qs = e in
    let labels : l ≡ k = cc in
    let sides : s ≡ t = one_side M In one k n s t (subst (λ z. Inlines M In n z s) labels a.0) b.0 in
    ap (λ z. RecordedSymbol.inlined z s ∷ rs) labels ∙ ap (λ z. RecordedSymbol.inlined k z ∷ rs) sides
    ∙ ap (λ z. RecordedSymbol.inlined k t ∷ z) (one_record M In one n rs qs a.1 b.1 (cc) (cc))

kept_same : {N : Type 0} (In Same : N → Type 0) → ((x : N) → In x ↔ Same x) → (p : GrammarSymbol N) → IsNotInlined In p →
    IsNotInlined Same p
kept_same In Same e (GrammarSymbol.terminal t) h = tt
kept_same In Same e (GrammarSymbol.nonterminal x) h = λ i. h ((e x).1 i)

mutual
  inlines_all_same : {N C : Type 0} (M : BaseProductions N C) (In Same : N → Type 0) → ((x : N) → In x ↔ Same x) →
      (inlinings : Inlinings N C) (before side : GrammarSymbols N) → InlinesAll M In before inlinings side →
      InlinesAll M Same before inlinings side
  inlines_all_same M In Same e Inlinings.none [] side h = h
  inlines_all_same M In Same e (Inlinings.kept inlinings) [] side h = absurd h
  inlines_all_same M In Same e (Inlinings.inlined label inlinings) [] side h = absurd h
  inlines_all_same M In Same e Inlinings.none (p ∷ before) side h = absurd h
  inlines_all_same M In Same e (Inlinings.kept inlinings) (p ∷ before) side h =
      (kept_same In Same e p h.0, h.1, h.2, inlines_all_same M In Same e inlinings before h.1 h.3)
  inlines_all_same M In Same e (Inlinings.inlined label inlinings) (GrammarSymbol.terminal t ∷ before) side h = absurd h
  inlines_all_same M In Same e (Inlinings.inlined label inlinings) (GrammarSymbol.nonterminal x ∷ before) side h =
      let w = h.1 in (
        (e x).0 h.0,
        record {
          front = w.front;
          rest = w.rest;
          side_is = w.side_is;
          is_front = inlines_same M In Same e label x w.front w.is_front;
          is_rest = inlines_all_same M In Same e inlinings before w.rest w.is_rest;
        },
      )

  -- two ways to say which nonterminals are inlined give the same productions
  pub inlines_same : {N C : Type 0} (M : BaseProductions N C) (In Same : N → Type 0) → ((x : N) → In x ↔ Same x) →
      (label : Label N C) (x : N) (side : GrammarSymbols N) → Inlines M In x label side → Inlines M Same x label side
  inlines_same M In Same e (Label.choose y c inlinings) x side h =
      (h.0, h.1, h.2, inlines_all_same M In Same e inlinings h.1 side h.3)
