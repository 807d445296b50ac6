-- Each record put into a production's label gives a production with one nonterminal more inlined: for the law on one step.
use Rattle.std.proofs.Common.{◌≡◌, List, [], ◌∷◌, ◌++◌, refl, ap, sym, ◌∙◌, subst, inl, inr, append_assoc}
use Rattle.std.specs.Prelude.{◌≢◌}
use Rattle.lalrpop_grammar_language.specs.Among.{Among}
use Rattle.lalrpop_grammar_language.specs.Expansion.{GrammarSymbol}
use Rattle.lalrpop_grammar_language.specs.Labels.{GrammarSymbols, BaseProductions, Label, Inlinings}
use Rattle.lalrpop_grammar_language.specs.Inlining.{IsNotInlined, Inlines, InlinesAll}
use Rattle.lalrpop_grammar_language.specs.Steps.{RecordedSymbol, symbols_before, symbols_after, IsRecord, fill_label, fill_inlinings}
use Rattle.lalrpop_grammar_language.specs.Steps.{OneMore, NeverNamesItself}

pub among_left : {A : Type 0} (xs ys : List A) (x : A) → Among xs x → Among (xs ++ ys) x
among_left [] ys x h = absurd h
among_left (y ∷ xs) ys x (inl e) = inl e
among_left (y ∷ xs) ys x (inr h) = inr (among_left xs ys x h)

pub among_right : {A : Type 0} (xs ys : List A) (x : A) → Among ys x → Among (xs ++ ys) x
among_right [] ys x h = h
among_right (y ∷ xs) ys x h = inr (among_right xs ys x h)

-- the nonterminal doesn't stand there
abbrev pub Lacks : {N : Type 0} → GrammarSymbols N → N → Type 0
Lacks side n = Among side (GrammarSymbol.nonterminal n) → ⊥

-- where the nonterminal stands nowhere in a right side, it isn't the first symbol
pub lacks_head : {N : Type 0} (n : N) (p : GrammarSymbol N) (side rest : GrammarSymbols N) → side ≡ p ∷ rest → Lacks side n →
    p ≢ GrammarSymbol.nonterminal n
lacks_head n p side rest e d f = d (subst (λ l. Among l (GrammarSymbol.nonterminal n)) (sym e) (inl f))

-- nor does it stand behind the first symbol
pub lacks_rest : {N : Type 0} (n : N) (p : GrammarSymbol N) (side rest : GrammarSymbols N) → side ≡ p ∷ rest → Lacks side n →
    Lacks rest n
lacks_rest n p side rest e d i = d (subst (λ l. Among l (GrammarSymbol.nonterminal n)) (sym e) (inr i))

-- nor in the front of a right side in two parts
pub lacks_left : {N : Type 0} (n : N) (side xs ys : GrammarSymbols N) → side ≡ xs ++ ys → Lacks side n → Lacks xs n
lacks_left n side xs ys e d i =
    d (subst (λ l. Among l (GrammarSymbol.nonterminal n)) (sym e) (among_left xs ys (GrammarSymbol.nonterminal n) i))

-- nor in the rest of it
pub lacks_right : {N : Type 0} (n : N) (side xs ys : GrammarSymbols N) → side ≡ xs ++ ys → Lacks side n → Lacks ys n
lacks_right n side xs ys e d i =
    d (subst (λ l. Among l (GrammarSymbol.nonterminal n)) (sym e) (among_right xs ys (GrammarSymbol.nonterminal n) i))

kept_more : {N : Type 0} (In : N → Type 0) (n : N) (p : GrammarSymbol N) → IsNotInlined In p → p ≢ GrammarSymbol.nonterminal n →
    IsNotInlined (OneMore In n) p
kept_more In n (GrammarSymbol.terminal t) h d = tt
kept_more In n (GrammarSymbol.nonterminal x) h d = go
  where
    go : OneMore In n x → ⊥
    go (inl i) = h i
    go (inr e) = d (ap GrammarSymbol.nonterminal e)

mutual
  -- where the nonterminal isn't in the right side after inlining, inlining it too changes nothing
  inlines_all_more : {N C : Type 0} (M : BaseProductions N C) (In : N → Type 0) (n : N) (inlinings : Inlinings N C)
      (before side : GrammarSymbols N) → InlinesAll M In before inlinings side → Lacks side n →
      InlinesAll M (OneMore In n) before inlinings side
  inlines_all_more M In n Inlinings.none [] side h d = h
  inlines_all_more M In n (Inlinings.kept inlinings) [] side h d = absurd h
  inlines_all_more M In n (Inlinings.inlined label inlinings) [] side h d = absurd h
  inlines_all_more M In n Inlinings.none (p ∷ before) side h d = absurd h
  inlines_all_more M In n (Inlinings.kept inlinings) (p ∷ before) side h d = (
    kept_more In n p h.0 (lacks_head n p side h.1 h.2 d),
    h.1,
    h.2,
    inlines_all_more M In n inlinings before h.1 h.3 (lacks_rest n p side h.1 h.2 d),
  )
  inlines_all_more M In n (Inlinings.inlined label inlinings) (GrammarSymbol.terminal t ∷ before) side h d = absurd h
  inlines_all_more M In n (Inlinings.inlined label inlinings) (GrammarSymbol.nonterminal x ∷ before) side h d =
      let w = h.1 in (
        inl h.0,
        record {
          front = w.front;
          rest = w.rest;
          side_is = w.side_is;
          is_front = inlines_more M In n label x w.front w.is_front (lacks_left n side w.front w.rest w.side_is d);
          is_rest = inlines_all_more M In n inlinings before w.rest w.is_rest (lacks_right n side w.front w.rest w.side_is d);
        },
      )

  inlines_more : {N C : Type 0} (M : BaseProductions N C) (In : N → Type 0) (n : N) (label : Label N C) (x : N)
      (side : GrammarSymbols N) → Inlines M In x label side → Lacks side n → Inlines M (OneMore In n) x label side
  inlines_more M In n (Label.choose y c inlinings) x side h d =
      (h.0, h.1, h.2, inlines_all_more M In n inlinings h.1 side h.3 d)

-- the record of a right side in two parts
pub record RecordParts (N : Type 0) (C : Type 0) (M : BaseProductions N C) (In : N → Type 0) (n : N) (xs : GrammarSymbols N)
    (ys : GrammarSymbols N) (symbols : List (RecordedSymbol N C)) : Type 0 where
  pub front : List (RecordedSymbol N C)
  pub back : List (RecordedSymbol N C)
  pub whole : symbols ≡ front ++ back
  pub before_front : symbols_before n front ≡ xs
  pub before_back : symbols_before n back ≡ ys
  pub is_front : IsRecord M In n front
  pub is_back : IsRecord M In n back

-- a record of two right sides, one behind the other, is a record of each
pub record_parts : {N C : Type 0} (M : BaseProductions N C) (In : N → Type 0) (n : N) (xs ys : GrammarSymbols N)
    (symbols : List (RecordedSymbol N C)) → IsRecord M In n symbols → symbols_before n symbols ≡ xs ++ ys →
    RecordParts N C M In n xs ys symbols
record_parts M In n [] ys symbols a e =
    record { front = []; back = symbols; whole = refl; before_front = refl; before_back = e; is_front = tt; is_back = a }
record_parts M In n (p ∷ xs) ys [] a e = (let f : [] ≡ p ∷ (xs ++ ys) = e in cc)
record_parts M In n (p ∷ xs) ys (RecordedSymbol.original q ∷ rest) a e =
    let f : q ∷ symbols_before n rest ≡ p ∷ (xs ++ ys) = e in
    let r = record_parts M In n xs ys rest a.1 (cc) in
    let same : q ≡ p = cc in
    record {
      front = RecordedSymbol.original q ∷ r.front;
      back = r.back;
      whole = ap (λ l. RecordedSymbol.original q ∷ l) r.whole;
      before_front = ap (λ z. z ∷ symbols_before n r.front) same ∙ ap (λ l. p ∷ l) r.before_front;
      before_back = r.before_back;
      is_front = (a.0, r.is_front);
      is_back = r.is_back;
    }
record_parts M In n (p ∷ xs) ys (RecordedSymbol.inlined l s ∷ rest) a e =
    let f : GrammarSymbol.nonterminal n ∷ symbols_before n rest ≡ p ∷ (xs ++ ys) = e in
    let r = record_parts M In n xs ys rest a.1 (cc) in
    let same : GrammarSymbol.nonterminal n ≡ p = cc in
    record {
      front = RecordedSymbol.inlined l s ∷ r.front;
      back = r.back;
      whole = ap (λ k. RecordedSymbol.inlined l s ∷ k) r.whole;
      before_front = ap (λ z. z ∷ symbols_before n r.front) same ∙ ap (λ k. p ∷ k) r.before_front;
      before_back = r.before_back;
      is_front = (a.0, r.is_front);
      is_back = r.is_back;
    }

-- for putting two records behind each other
pub after-append : {N C : Type 0} (xs ys : List (RecordedSymbol N C)) → symbols_after (xs ++ ys) ≡ symbols_after xs ++ symbols_after ys
after-append [] ys = refl
after-append (RecordedSymbol.original p ∷ xs) ys = ap (λ l. p ∷ l) (after-append xs ys)
after-append (RecordedSymbol.inlined l s ∷ xs) ys =
    ap (λ k. s ++ k) (after-append xs ys) ∙ sym (append_assoc s (symbols_after xs) (symbols_after ys))

-- what a record makes of the choices of a right side, and of a label
pub record Fills (N : Type 0) (C : Type 0) (M : BaseProductions N C) (In : N → Type 0) (n : N) (before : GrammarSymbols N)
    (inlinings : Inlinings N C) (symbols : List (RecordedSymbol N C)) : Type 0 where
  pub made : Inlinings N C
  pub made_is : (others : List (RecordedSymbol N C)) → fill_inlinings inlinings (symbols ++ others) ≡ (made, others)
  pub inlines : InlinesAll M (OneMore In n) before made (symbols_after symbols)

pub record FillsLabel (N : Type 0) (C : Type 0) (M : BaseProductions N C) (In : N → Type 0) (n : N) (x : N) (label : Label N C)
    (symbols : List (RecordedSymbol N C)) : Type 0 where
  pub made : Label N C
  pub made_is : (others : List (RecordedSymbol N C)) → fill_label label (symbols ++ others) ≡ (made, others)
  pub inlines : Inlines M (OneMore In n) x made (symbols_after symbols)

fills_kept : {N C : Type 0} (M : BaseProductions N C) (In : N → Type 0) (n : N) → NeverNamesItself M In n → (p : GrammarSymbol N)
    (before rest : GrammarSymbols N) (inlinings : Inlinings N C) (symbols : List (RecordedSymbol N C)) → IsRecord M In n symbols →
    symbols_before n symbols ≡ p ∷ rest → IsNotInlined In p →
    ((others : List (RecordedSymbol N C)) → IsRecord M In n others → symbols_before n others ≡ rest →
    Fills N C M In n before inlinings others) →
    Fills N C M In n (p ∷ before) (Inlinings.kept inlinings) symbols
fills_kept M In n never p before rest inlinings [] a e k follow = (let f : [] ≡ p ∷ rest = e in cc)
fills_kept {N = N} {C = C} M In n never p before rest inlinings (RecordedSymbol.original q ∷ symbols) a e k follow =
    let f : q ∷ symbols_before n symbols ≡ p ∷ rest = e in
    let same : q ≡ p = cc in
    let r = follow symbols a.1 (cc) in
    record {
      made = Inlinings.kept r.made;
      made_is = λ others. ap (λ (z : Inlinings N C × List (RecordedSymbol N C)). (Inlinings.kept z.0, z.1)) (r.made_is others);
      inlines =
          (kept_more In n p k (λ g. a.0 (same ∙ g)), symbols_after symbols, ap (λ z. z ∷ symbols_after symbols) same, r.inlines);
    }
fills_kept {N = N} {C = C} M In n never p before rest inlinings (RecordedSymbol.inlined l s ∷ symbols) a e k follow =
    let f : GrammarSymbol.nonterminal n ∷ symbols_before n symbols ≡ p ∷ rest = e in
    let same : GrammarSymbol.nonterminal n ≡ p = cc in
    let r = follow symbols a.1 (cc) in
    record {
      made = Inlinings.inlined l r.made;
      made_is = λ others. ap (λ (z : Inlinings N C × List (RecordedSymbol N C)). (Inlinings.inlined l z.0, z.1)) (r.made_is others);
      inlines = subst (λ z. InlinesAll M (OneMore In n) (z ∷ before) (Inlinings.inlined l r.made) (s ++ symbols_after symbols)) same (
        inr refl,
        record {
          front = s;
          rest = symbols_after symbols;
          side_is = refl;
          is_front = inlines_more M In n l n s a.0 (never l s a.0);
          is_rest = r.inlines;
        },
      );
    }

fills_inlined : {N C : Type 0} (M : BaseProductions N C) (In : N → Type 0) (n x : N) (before : GrammarSymbols N) (label : Label N C)
    (inlinings : Inlinings N C) (symbols front back : List (RecordedSymbol N C)) → symbols ≡ front ++ back → In x →
    FillsLabel N C M In n x label front → Fills N C M In n before inlinings back →
    Fills N C M In n (GrammarSymbol.nonterminal x ∷ before) (Inlinings.inlined label inlinings) symbols
fills_inlined {N = N} {C = C} M In n x before label inlinings symbols front back e i a b = record {
  made = Inlinings.inlined a.made b.made;
  made_is = λ others.
      ap (λ l. fill_inlinings (Inlinings.inlined label inlinings) l) (ap (λ l. l ++ others) e ∙ append_assoc front back others)
      ∙ ap (λ (z : Label N C × List (RecordedSymbol N C)).
      (Inlinings.inlined z.0 (fill_inlinings inlinings z.1).0, (fill_inlinings inlinings z.1).1)) (a.made_is (back ++ others))
      ∙ ap (λ (z : Inlinings N C × List (RecordedSymbol N C)). (Inlinings.inlined a.made z.0, z.1)) (b.made_is others);
  inlines = (
    inl i,
    record {
      front = symbols_after front;
      rest = symbols_after back;
      side_is = ap symbols_after e ∙ after-append front back;
      is_front = a.inlines;
      is_rest = b.inlines;
    },
  );
}

fills_none : {N C : Type 0} (M : BaseProductions N C) (In : N → Type 0) (n : N) (symbols : List (RecordedSymbol N C)) →
    symbols_before n symbols ≡ [] → Fills N C M In n [] Inlinings.none symbols
fills_none M In n [] e = record { made = Inlinings.none; made_is = λ others. refl; inlines = refl }
fills_none M In n (RecordedSymbol.original p ∷ symbols) e = (let f : p ∷ symbols_before n symbols ≡ [] = e in cc)
fills_none M In n (RecordedSymbol.inlined l s ∷ symbols) e =
    (let f : GrammarSymbol.nonterminal n ∷ symbols_before n symbols ≡ [] = e in cc)

mutual
  fills : {N C : Type 0} (M : BaseProductions N C) (In : N → Type 0) (n : N) → NeverNamesItself M In n → (inlinings : Inlinings N C)
      (before side : GrammarSymbols N) (symbols : List (RecordedSymbol N C)) → InlinesAll M In before inlinings side →
      IsRecord M In n symbols → symbols_before n symbols ≡ side → Fills N C M In n before inlinings symbols
  fills M In n never Inlinings.none [] side symbols h a e = fills_none M In n symbols (e ∙ h)
  fills M In n never (Inlinings.kept inlinings) [] side symbols h a e = absurd h
  fills M In n never (Inlinings.inlined label inlinings) [] side symbols h a e = absurd h
  fills M In n never Inlinings.none (p ∷ before) side symbols h a e = absurd h
  fills M In n never (Inlinings.kept inlinings) (p ∷ before) side symbols h a e =
      fills_kept M In n never p before h.1 inlinings symbols a (e ∙ h.2) h.0
      (λ others b f. fills M In n never inlinings before h.1 others h.3 b f)
  fills M In n never (Inlinings.inlined label inlinings) (GrammarSymbol.terminal t ∷ before) side symbols h a e = absurd h
  fills M In n never (Inlinings.inlined label inlinings) (GrammarSymbol.nonterminal x ∷ before) side symbols h a e =
      let w = h.1 in
      let q = record_parts M In n w.front w.rest symbols a (e ∙ w.side_is) in
      fills_inlined M In n x before label inlinings symbols q.front q.back q.whole h.0
      (fills_label M In n never label x w.front q.front w.is_front q.is_front q.before_front)
      (fills M In n never inlinings before w.rest q.back w.is_rest q.is_back q.before_back)

  -- a record put into the label of a production gives the label of a production with the nonterminal inlined too
  pub fills_label : {N C : Type 0} (M : BaseProductions N C) (In : N → Type 0) (n : N) → NeverNamesItself M In n → (label : Label N C)
      (x : N) (side : GrammarSymbols N) (symbols : List (RecordedSymbol N C)) → Inlines M In x label side → IsRecord M In n symbols →
      symbols_before n symbols ≡ side → FillsLabel N C M In n x label symbols
  fills_label {N = N} {C = C} M In n never (Label.choose y c inlinings) x side symbols h a e =
      let r = fills M In n never inlinings h.1 side symbols h.3 a e in
      record {
        made = Label.choose y c r.made;
        made_is = λ others.
            ap (λ (z : Inlinings N C × List (RecordedSymbol N C)). (Label.choose y c z.0, z.1)) (r.made_is others);
        inlines = (h.0, h.1, h.2, r.inlines);
      }
