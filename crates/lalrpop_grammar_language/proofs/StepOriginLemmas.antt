-- Each production with one nonterminal more inlined comes from one without, by a record: for the law on one step.
use Rattle.std.proofs.Common.{◌≡◌, List, [], ◌∷◌, ◌++◌, refl, ap, sym, ◌∙◌, subst, inl, inr, append_assoc}
use Rattle.std.specs.Prelude.{◌≢◌}
use Rattle.lalrpop_grammar_language.specs.Among.{Among}
use Rattle.lalrpop_grammar_language.specs.Expansion.{GrammarSymbol}
use Rattle.lalrpop_grammar_language.specs.Labels.{GrammarSymbols, BaseProductions, Label, Inlinings}
use Rattle.lalrpop_grammar_language.specs.Inlining.{IsNotInlined, Inlines, InlinesAll}
use Rattle.lalrpop_grammar_language.specs.Steps.{RecordedSymbol, symbols_before, symbols_after, IsRecord, fill_label, fill_inlinings}
use Rattle.lalrpop_grammar_language.specs.Steps.{OneMore, NeverNamesItself}
use Rattle.lalrpop_grammar_language.proofs.StepLemmas.{Lacks, lacks_head, lacks_rest, lacks_left, lacks_right, record_parts, after-append}

-- what a right side with one nonterminal more inlined comes from
pub record ComesFrom (N : Type 0) (C : Type 0) (M : BaseProductions N C) (In : N → Type 0) (n : N) (before : GrammarSymbols N)
    (inlinings : Inlinings N C) (side : GrammarSymbols N) : Type 0 where
  pub old_inlinings : Inlinings N C
  pub old_side : GrammarSymbols N
  pub symbols : List (RecordedSymbol N C)
  pub produced : InlinesAll M In before old_inlinings old_side
  pub is_record : IsRecord M In n symbols
  pub before_is : symbols_before n symbols ≡ old_side
  pub after_is : symbols_after symbols ≡ side
  pub made_is : (others : List (RecordedSymbol N C)) → fill_inlinings old_inlinings (symbols ++ others) ≡ (inlinings, others)

-- what a production with one nonterminal more inlined comes from
pub record LabelComesFrom (N : Type 0) (C : Type 0) (M : BaseProductions N C) (In : N → Type 0) (n : N) (x : N) (label : Label N C)
    (side : GrammarSymbols N) : Type 0 where
  pub old_label : Label N C
  pub old_side : GrammarSymbols N
  pub symbols : List (RecordedSymbol N C)
  pub produced : Inlines M In x old_label old_side
  pub is_record : IsRecord M In n symbols
  pub before_is : symbols_before n symbols ≡ old_side
  pub after_is : symbols_after symbols ≡ side
  pub made_is : (others : List (RecordedSymbol N C)) → fill_label old_label (symbols ++ others) ≡ (label, others)

before-append : {N C : Type 0} (n : N) (xs ys : List (RecordedSymbol N C)) →
    symbols_before n (xs ++ ys) ≡ symbols_before n xs ++ symbols_before n ys
before-append n [] ys = refl
before-append n (RecordedSymbol.original p ∷ xs) ys = ap (λ l. p ∷ l) (before-append n xs ys)
before-append n (RecordedSymbol.inlined l s ∷ xs) ys = ap (λ k. GrammarSymbol.nonterminal n ∷ k) (before-append n xs ys)

record-append : {N C : Type 0} (M : BaseProductions N C) (In : N → Type 0) (n : N) (xs ys : List (RecordedSymbol N C)) →
    IsRecord M In n xs → IsRecord M In n ys → IsRecord M In n (xs ++ ys)
record-append M In n [] ys a b = b
record-append M In n (RecordedSymbol.original p ∷ xs) ys a b = (a.0, record-append M In n xs ys a.1 b)
record-append M In n (RecordedSymbol.inlined l s ∷ xs) ys a b = (a.0, record-append M In n xs ys a.1 b)

-- a record of a right side without the nonterminal replaces nothing
nothing_replaced : {N C : Type 0} (M : BaseProductions N C) (In : N → Type 0) (n : N) (symbols : List (RecordedSymbol N C)) →
    IsRecord M In n symbols → Lacks (symbols_before n symbols) n → symbols_after symbols ≡ symbols_before n symbols
nothing_replaced M In n [] a d = refl
nothing_replaced M In n (RecordedSymbol.original p ∷ symbols) a d =
    ap (λ l. p ∷ l) (nothing_replaced M In n symbols a.1 (λ i. d (inr i)))
nothing_replaced M In n (RecordedSymbol.inlined l s ∷ symbols) a d = absurd (d (inl refl))

same_none : {N C : Type 0} (n : N) (symbols others : List (RecordedSymbol N C)) → symbols_before n symbols ≡ [] →
    fill_inlinings Inlinings.none (symbols ++ others) ≡ (Inlinings.none, others)
same_none n [] others e = refl
same_none n (RecordedSymbol.original p ∷ symbols) others e = (let f : p ∷ symbols_before n symbols ≡ [] = e in cc)
same_none n (RecordedSymbol.inlined l s ∷ symbols) others e =
    (let f : GrammarSymbol.nonterminal n ∷ symbols_before n symbols ≡ [] = e in cc)

same_kept : {N C : Type 0} (M : BaseProductions N C) (In : N → Type 0) (n : N) (p : GrammarSymbol N) (rest : GrammarSymbols N)
    (inlinings : Inlinings N C) (symbols others : List (RecordedSymbol N C)) → IsRecord M In n symbols →
    symbols_before n symbols ≡ p ∷ rest → p ≢ GrammarSymbol.nonterminal n →
    ((tail : List (RecordedSymbol N C)) → IsRecord M In n tail → symbols_before n tail ≡ rest →
    fill_inlinings inlinings (tail ++ others) ≡ (inlinings, others)) →
    fill_inlinings (Inlinings.kept inlinings) (symbols ++ others) ≡ (Inlinings.kept inlinings, others)
same_kept M In n p rest inlinings [] others a e d follow = (let f : [] ≡ p ∷ rest = e in cc)
same_kept {N = N} {C = C} M In n p rest inlinings (RecordedSymbol.original q ∷ symbols) others a e d follow =
    let f : q ∷ symbols_before n symbols ≡ p ∷ rest = e in
    ap (λ (z : Inlinings N C × List (RecordedSymbol N C)). (Inlinings.kept z.0, z.1)) (follow symbols a.1 (cc))
same_kept M In n p rest inlinings (RecordedSymbol.inlined l s ∷ symbols) others a e d follow =
    let f : GrammarSymbol.nonterminal n ∷ symbols_before n symbols ≡ p ∷ rest = e in
    let same : GrammarSymbol.nonterminal n ≡ p = cc in
    absurd (d (sym same))

mutual
  -- and it leaves the label as it is
  same_inlinings : {N C : Type 0} (M : BaseProductions N C) (In : N → Type 0) (n : N) (inlinings : Inlinings N C)
      (before side : GrammarSymbols N) → InlinesAll M In before inlinings side → (symbols others : List (RecordedSymbol N C)) →
      IsRecord M In n symbols → symbols_before n symbols ≡ side → Lacks side n →
      fill_inlinings inlinings (symbols ++ others) ≡ (inlinings, others)
  same_inlinings M In n Inlinings.none [] side h symbols others a e d = same_none n symbols others (e ∙ h)
  same_inlinings M In n (Inlinings.kept inlinings) [] side h symbols others a e d = absurd h
  same_inlinings M In n (Inlinings.inlined label inlinings) [] side h symbols others a e d = absurd h
  same_inlinings M In n Inlinings.none (p ∷ before) side h symbols others a e d = absurd h
  same_inlinings M In n (Inlinings.kept inlinings) (p ∷ before) side h symbols others a e d =
      same_kept M In n p h.1 inlinings symbols others a (e ∙ h.2) (lacks_head n p side h.1 h.2 d)
      (λ tail b f. same_inlinings M In n inlinings before h.1 h.3 tail others b f (lacks_rest n p side h.1 h.2 d))
  same_inlinings M In n (Inlinings.inlined label inlinings) (GrammarSymbol.terminal t ∷ before) side h symbols others a e d = absurd h
  same_inlinings {N = N} {C = C} M In n (Inlinings.inlined label inlinings) (GrammarSymbol.nonterminal x ∷ before) side h symbols others
      a e d =
      let w = h.1 in
      let q = record_parts M In n w.front w.rest symbols a (e ∙ w.side_is) in
      ap (λ l. fill_inlinings (Inlinings.inlined label inlinings) l)
      (ap (λ l. l ++ others) q.whole ∙ append_assoc q.front q.back others)
      ∙ ap (λ (z : Label N C × List (RecordedSymbol N C)).
      (Inlinings.inlined z.0 (fill_inlinings inlinings z.1).0, (fill_inlinings inlinings z.1).1))
      (same_label M In n label x w.front w.is_front q.front (q.back ++ others) q.is_front q.before_front
      (lacks_left n side w.front w.rest w.side_is d))
      ∙ ap (λ (z : Inlinings N C × List (RecordedSymbol N C)). (Inlinings.inlined label z.0, z.1))
      (same_inlinings M In n inlinings before w.rest w.is_rest q.back others q.is_back q.before_back
      (lacks_right n side w.front w.rest w.side_is d))

  same_label : {N C : Type 0} (M : BaseProductions N C) (In : N → Type 0) (n : N) (label : Label N C) (x : N)
      (side : GrammarSymbols N) → Inlines M In x label side → (symbols others : List (RecordedSymbol N C)) →
      IsRecord M In n symbols → symbols_before n symbols ≡ side → Lacks side n →
      fill_label label (symbols ++ others) ≡ (label, others)
  same_label {N = N} {C = C} M In n (Label.choose y c inlinings) x side h symbols others a e d =
      ap (λ (z : Inlinings N C × List (RecordedSymbol N C)). (Label.choose y c z.0, z.1))
      (same_inlinings M In n inlinings h.1 side h.3 symbols others a e d)

-- a symbol that was inlined before the step
from_inlined : {N C : Type 0} (M : BaseProductions N C) (In : N → Type 0) (n x : N) (before front rest side : GrammarSymbols N)
    (label : Label N C) (inlinings : Inlinings N C) → side ≡ front ++ rest → In x → LabelComesFrom N C M In n x label front →
    ComesFrom N C M In n before inlinings rest →
    ComesFrom N C M In n (GrammarSymbol.nonterminal x ∷ before) (Inlinings.inlined label inlinings) side
from_inlined {N = N} {C = C} M In n x before front rest side label inlinings e i a b = record {
  old_inlinings = Inlinings.inlined a.old_label b.old_inlinings;
  old_side = a.old_side ++ b.old_side;
  symbols = a.symbols ++ b.symbols;
  produced = (i, record { front = a.old_side; rest = b.old_side; side_is = refl; is_front = a.produced; is_rest = b.produced });
  is_record = record-append M In n a.symbols b.symbols a.is_record b.is_record;
  before_is =
      before-append n a.symbols b.symbols ∙ ap (λ l. l ++ symbols_before n b.symbols) a.before_is
      ∙ ap (λ l. a.old_side ++ l) b.before_is;
  after_is =
      after-append a.symbols b.symbols ∙ ap (λ l. l ++ symbols_after b.symbols) a.after_is ∙ ap (λ l. front ++ l) b.after_is
      ∙ sym e;
  made_is = λ others.
      ap (λ l. fill_inlinings (Inlinings.inlined a.old_label b.old_inlinings) l) (append_assoc a.symbols b.symbols others)
      ∙ ap (λ (z : Label N C × List (RecordedSymbol N C)).
      (Inlinings.inlined z.0 (fill_inlinings b.old_inlinings z.1).0, (fill_inlinings b.old_inlinings z.1).1))
      (a.made_is (b.symbols ++ others))
      ∙ ap (λ (z : Inlinings N C × List (RecordedSymbol N C)). (Inlinings.inlined label z.0, z.1)) (b.made_is others);
}

-- a place of the nonterminal itself: the production that replaces it is one from before the step
from_replaced : {N C : Type 0} (M : BaseProductions N C) (In : N → Type 0) (n : N) → NeverNamesItself M In n →
    (before front rest side : GrammarSymbols N) (label : Label N C) (inlinings : Inlinings N C) → (In n → ⊥) →
    side ≡ front ++ rest →
    LabelComesFrom N C M In n n label front → ComesFrom N C M In n before inlinings rest →
    ComesFrom N C M In n (GrammarSymbol.nonterminal n ∷ before) (Inlinings.inlined label inlinings) side
from_replaced {N = N} {C = C} M In n never before front rest side label inlinings fresh e a b =
    let lacks = never a.old_label a.old_side a.produced in
    let front_is : front ≡ a.old_side =
    sym a.after_is
    ∙ nothing_replaced M In n a.symbols a.is_record (λ i. lacks (subst (λ l. Among l (GrammarSymbol.nonterminal n)) a.before_is i))
    ∙ a.before_is in
    let labels : (a.old_label, []) ≡ (label, []) =
    sym (same_label M In n a.old_label n a.old_side a.produced a.symbols [] a.is_record a.before_is lacks) ∙ a.made_is [] in
    let label_is : a.old_label ≡ label = ap (λ (z : Label N C × List (RecordedSymbol N C)). z.0) labels in
    record {
      old_inlinings = Inlinings.kept b.old_inlinings;
      old_side = GrammarSymbol.nonterminal n ∷ b.old_side;
      symbols = RecordedSymbol.inlined label front ∷ b.symbols;
      produced = (fresh, b.old_side, refl, b.produced);
      is_record = (
        subst (λ s. Inlines M In n label s) (sym front_is) (subst (λ l. Inlines M In n l a.old_side) label_is a.produced),
        b.is_record,
      );
      before_is = ap (λ l. GrammarSymbol.nonterminal n ∷ l) b.before_is;
      after_is = ap (λ l. front ++ l) b.after_is ∙ sym e;
      made_is = λ others.
          ap (λ (z : Inlinings N C × List (RecordedSymbol N C)). (Inlinings.inlined label z.0, z.1)) (b.made_is others);
    }

kept_before : {N : Type 0} (In : N → Type 0) (n : N) (p : GrammarSymbol N) → IsNotInlined (OneMore In n) p →
    IsNotInlined In p × (p ≢ GrammarSymbol.nonterminal n)
kept_before In n (GrammarSymbol.terminal t) h = (tt, λ e. (let f : GrammarSymbol.terminal t ≡ GrammarSymbol.nonterminal n = e in cc))
kept_before In n (GrammarSymbol.nonterminal x) h =
    (λ i. h (inl i), λ e. (let f : x ≡ n = cc in h (inr f)))

from_kept : {N C : Type 0} (M : BaseProductions N C) (In : N → Type 0) (n : N) (p : GrammarSymbol N) (before rest side : GrammarSymbols N)
    (inlinings : Inlinings N C) → side ≡ p ∷ rest → IsNotInlined (OneMore In n) p → ComesFrom N C M In n before inlinings rest →
    ComesFrom N C M In n (p ∷ before) (Inlinings.kept inlinings) side
from_kept {N = N} {C = C} M In n p before rest side inlinings e k r =
    let l = kept_before In n p k in
    record {
      old_inlinings = Inlinings.kept r.old_inlinings;
      old_side = p ∷ r.old_side;
      symbols = RecordedSymbol.original p ∷ r.symbols;
      produced = (l.0, r.old_side, refl, r.produced);
      is_record = (l.1, r.is_record);
      before_is = ap (λ k. p ∷ k) r.before_is;
      after_is = ap (λ k. p ∷ k) r.after_is ∙ sym e;
      made_is = λ others. ap (λ (z : Inlinings N C × List (RecordedSymbol N C)). (Inlinings.kept z.0, z.1)) (r.made_is others);
    }

mutual
  comes_from : {N C : Type 0} (M : BaseProductions N C) (In : N → Type 0) (n : N) → (In n → ⊥) → NeverNamesItself M In n →
      (inlinings : Inlinings N C) (before side : GrammarSymbols N) → InlinesAll M (OneMore In n) before inlinings side →
      ComesFrom N C M In n before inlinings side
  comes_from M In n fresh never Inlinings.none [] side h = record {
    old_inlinings = Inlinings.none;
    old_side = [];
    symbols = [];
    produced = refl;
    is_record = tt;
    before_is = refl;
    after_is = sym h;
    made_is = λ others. refl;
  }
  comes_from M In n fresh never (Inlinings.kept inlinings) [] side h = absurd h
  comes_from M In n fresh never (Inlinings.inlined label inlinings) [] side h = absurd h
  comes_from M In n fresh never Inlinings.none (p ∷ before) side h = absurd h
  comes_from M In n fresh never (Inlinings.kept inlinings) (p ∷ before) side h =
      from_kept M In n p before h.1 side inlinings h.2 h.0 (comes_from M In n fresh never inlinings before h.1 h.3)
  comes_from M In n fresh never (Inlinings.inlined label inlinings) (GrammarSymbol.terminal t ∷ before) side h = absurd h
  comes_from M In n fresh never (Inlinings.inlined label inlinings) (GrammarSymbol.nonterminal x ∷ before) side (inl i, w) =
      from_inlined M In n x before w.front w.rest side label inlinings w.side_is i
      (label_comes_from M In n fresh never label x w.front w.is_front)
      (comes_from M In n fresh never inlinings before w.rest w.is_rest)
  comes_from {N = N} {C = C} M In n fresh never (Inlinings.inlined label inlinings) (GrammarSymbol.nonterminal x ∷ before) side
      (inr same, w) =
      subst (λ z. ComesFrom N C M In n (GrammarSymbol.nonterminal z ∷ before) (Inlinings.inlined label inlinings) side) (sym same)
      (from_replaced M In n never before w.front w.rest side label inlinings fresh w.side_is
      (subst (λ z. LabelComesFrom N C M In n z label w.front) same (label_comes_from M In n fresh never label x w.front w.is_front))
      (comes_from M In n fresh never inlinings before w.rest w.is_rest))

  -- a production with the nonterminal inlined too comes from one without, by a record
  pub label_comes_from : {N C : Type 0} (M : BaseProductions N C) (In : N → Type 0) (n : N) → (In n → ⊥) →
      NeverNamesItself M In n →
      (label : Label N C) (x : N) (side : GrammarSymbols N) → Inlines M (OneMore In n) x label side →
      LabelComesFrom N C M In n x label side
  label_comes_from {N = N} {C = C} M In n fresh never (Label.choose y c inlinings) x side h =
      let r = comes_from M In n fresh never inlinings h.1 side h.3 in
      record {
        old_label = Label.choose y c r.old_inlinings;
        old_side = r.old_side;
        symbols = r.symbols;
        produced = (h.0, h.1, h.2, r.produced);
        is_record = r.is_record;
        before_is = r.before_is;
        after_is = r.after_is;
        made_is = λ others. ap (λ (z : Inlinings N C × List (RecordedSymbol N C)). (Label.choose y c z.0, z.1)) (r.made_is others);
      }
