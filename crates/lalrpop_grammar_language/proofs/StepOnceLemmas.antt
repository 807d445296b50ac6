-- A production of one step comes from one production and one record alone: for the law on one step.
use Rattle.std.proofs.Common.{◌≡◌, List, [], ◌∷◌, ◌++◌, refl, ap, sym, ◌∙◌, subst, inl, inr, ◌⊎◌, append_assoc}
use Rattle.lalrpop_grammar_language.specs.Expansion.{GrammarSymbol}
use Rattle.lalrpop_grammar_language.specs.Labels.{GrammarSymbols, BaseProductions, Label, Inlinings}
use Rattle.lalrpop_grammar_language.specs.Inlining.{Inlines, InlinesAll}
use Rattle.lalrpop_grammar_language.specs.Steps.{RecordedSymbol, symbols_before, record_inlinings, IsRecord, fill_label, fill_inlinings}
use Rattle.lalrpop_grammar_language.specs.Steps.{label_with}
use Rattle.lalrpop_grammar_language.proofs.StepLemmas.{record_parts}

abbrev head_of : {N C : Type 0} → Label N C → N
head_of (Label.choose y c inlinings) = y

-- the record has this symbol in front, and it makes of the choices what the rest of it makes of theirs
pub record FirstOriginal (N : Type 0) (C : Type 0) (IsRest : List (RecordedSymbol N C) → Inlinings N C → Type 0)
    (symbols : List (RecordedSymbol N C)) (made : Inlinings N C) : Type 0 where
  pub symbol : GrammarSymbol N
  pub tail : List (RecordedSymbol N C)
  pub made_rest : Inlinings N C
  pub symbols_are : symbols ≡ RecordedSymbol.original symbol ∷ tail
  pub made_is : made ≡ Inlinings.kept made_rest
  pub is_rest : IsRest tail made_rest

-- the same where a production has replaced the symbol in front
pub record FirstInlined (N : Type 0) (C : Type 0) (n : N) (IsRest : List (RecordedSymbol N C) → Inlinings N C → Type 0)
    (symbols : List (RecordedSymbol N C)) (made : Inlinings N C) : Type 0 where
  pub label : Label N C
  pub side : GrammarSymbols N
  pub tail : List (RecordedSymbol N C)
  pub made_rest : Inlinings N C
  pub symbols_are : symbols ≡ RecordedSymbol.inlined label side ∷ tail
  pub made_is : made ≡ Inlinings.inlined label made_rest
  pub head_is : head_of label ≡ n
  pub is_rest : IsRest tail made_rest

-- the same where a symbol was inlined before: the front of the record goes into its label
pub record InLabel (N : Type 0) (C : Type 0) (In : N → Type 0) (IsFront : List (RecordedSymbol N C) → Label N C → Type 0)
    (IsRest : List (RecordedSymbol N C) → Inlinings N C → Type 0) (symbols : List (RecordedSymbol N C)) (made : Inlinings N C) :
    Type 0 where
  pub front : List (RecordedSymbol N C)
  pub back : List (RecordedSymbol N C)
  pub made_label : Label N C
  pub made_rest : Inlinings N C
  pub symbols_are : symbols ≡ front ++ back
  pub made_is : made ≡ Inlinings.inlined made_label made_rest
  pub head_in : In (head_of made_label)
  pub is_front : IsFront front made_label
  pub is_rest : IsRest back made_rest

-- and what it makes of a label, by what it makes of the choices in it
pub record InNode (N : Type 0) (C : Type 0) (y : N) (c : C) (IsInside : Inlinings N C → Type 0) (made : Label N C) : Type 0 where
  pub inside : Inlinings N C
  pub made_is : made ≡ Label.choose y c inside
  pub is_inside : IsInside inside

-- what a record makes of choices, one by one
abbrev mutual
  TurnsInto : {N C : Type 0} → (N → Type 0) → N → Inlinings N C → List (RecordedSymbol N C) → Inlinings N C → Type 0
  TurnsInto In n Inlinings.none symbols made = (symbols ≡ []) × (made ≡ Inlinings.none)
  TurnsInto {N = N} {C = C} In n (Inlinings.kept inlinings) symbols made =
      FirstOriginal N C (λ tail m. TurnsInto In n inlinings tail m) symbols made
      ⊎ FirstInlined N C n (λ tail m. TurnsInto In n inlinings tail m) symbols made
  TurnsInto {N = N} {C = C} In n (Inlinings.inlined label inlinings) symbols made =
      InLabel N C In (λ front l. LabelTurnsInto In n label front l) (λ back m. TurnsInto In n inlinings back m) symbols made

  LabelTurnsInto : {N C : Type 0} → (N → Type 0) → N → Label N C → List (RecordedSymbol N C) → Label N C → Type 0
  LabelTurnsInto {N = N} {C = C} In n (Label.choose y c inlinings) symbols made =
      InNode N C y c (λ inside. TurnsInto In n inlinings symbols inside) made

-- the same choices, and records that say the same
abbrev Agree : {N C : Type 0} → Inlinings N C → Inlinings N C → List (RecordedSymbol N C) → List (RecordedSymbol N C) → Type 0
Agree cs ds rs qs = (cs ≡ ds) × (record_inlinings rs ≡ record_inlinings qs)

record_inlinings-join : {N C : Type 0} → Inlinings N C → Inlinings N C → Inlinings N C
record_inlinings-join Inlinings.none b = b
record_inlinings-join (Inlinings.kept a) b = Inlinings.kept (record_inlinings-join a b)
record_inlinings-join (Inlinings.inlined l a) b = Inlinings.inlined l (record_inlinings-join a b)

record_inlinings-append : {N C : Type 0} (xs ys : List (RecordedSymbol N C)) →
    record_inlinings (xs ++ ys) ≡ record_inlinings-join (record_inlinings xs) (record_inlinings ys)
unfolding record_inlinings-join
record_inlinings-append [] ys = refl
record_inlinings-append (RecordedSymbol.original p ∷ xs) ys = ap Inlinings.kept (record_inlinings-append xs ys)
record_inlinings-append (RecordedSymbol.inlined l s ∷ xs) ys = ap (Inlinings.inlined l) (record_inlinings-append xs ys)

mutual
  agree : {N C : Type 0} (In : N → Type 0) (n : N) → (In n → ⊥) → (cs ds : Inlinings N C) (rs qs : List (RecordedSymbol N C))
      (made : Inlinings N C) → TurnsInto In n cs rs made → TurnsInto In n ds qs made → Agree cs ds rs qs
  agree In n fresh Inlinings.none Inlinings.none rs qs made a b = (refl, ap record_inlinings (a.0 ∙ sym b.0))
  agree In n fresh Inlinings.none (Inlinings.kept ds) rs qs made a (inl b) =
      (let f : Inlinings.none ≡ Inlinings.kept b.made_rest = sym a.1 ∙ b.made_is in cc)
  agree In n fresh Inlinings.none (Inlinings.kept ds) rs qs made a (inr b) =
      (let f : Inlinings.none ≡ Inlinings.inlined b.label b.made_rest = sym a.1 ∙ b.made_is in cc)
  agree In n fresh Inlinings.none (Inlinings.inlined l ds) rs qs made a b =
      (let f : Inlinings.none ≡ Inlinings.inlined b.made_label b.made_rest = sym a.1 ∙ b.made_is in cc)
  agree In n fresh (Inlinings.kept cs) Inlinings.none rs qs made (inl a) b =
      (let f : Inlinings.none ≡ Inlinings.kept a.made_rest = sym b.1 ∙ a.made_is in cc)
  agree In n fresh (Inlinings.kept cs) Inlinings.none rs qs made (inr a) b =
      (let f : Inlinings.none ≡ Inlinings.inlined a.label a.made_rest = sym b.1 ∙ a.made_is in cc)
  agree {N = N} {C = C} In n fresh (Inlinings.kept cs) (Inlinings.kept ds) rs qs made (inl a) (inl b) =
      let f : Inlinings.kept a.made_rest ≡ Inlinings.kept b.made_rest = sym a.made_is ∙ b.made_is in
      let same : a.made_rest ≡ b.made_rest = cc in
      let r = agree In n fresh cs ds a.tail b.tail b.made_rest (subst (λ m. TurnsInto In n cs a.tail m) same a.is_rest) b.is_rest in
      (ap Inlinings.kept r.0, ap record_inlinings a.symbols_are ∙ ap Inlinings.kept r.1 ∙ sym (ap record_inlinings b.symbols_are))
  agree In n fresh (Inlinings.kept cs) (Inlinings.kept ds) rs qs made (inl a) (inr b) =
      (let f : Inlinings.kept a.made_rest ≡ Inlinings.inlined b.label b.made_rest = sym a.made_is ∙ b.made_is in cc)
  agree In n fresh (Inlinings.kept cs) (Inlinings.kept ds) rs qs made (inr a) (inl b) =
      (let f : Inlinings.kept b.made_rest ≡ Inlinings.inlined a.label a.made_rest = sym b.made_is ∙ a.made_is in cc)
  agree In n fresh (Inlinings.kept cs) (Inlinings.kept ds) rs qs made (inr a) (inr b) =
      let f : Inlinings.inlined a.label a.made_rest ≡ Inlinings.inlined b.label b.made_rest = sym a.made_is ∙ b.made_is in
      let labels : a.label ≡ b.label = cc in
      let same : a.made_rest ≡ b.made_rest = cc in
      let r = agree In n fresh cs ds a.tail b.tail b.made_rest (subst (λ m. TurnsInto In n cs a.tail m) same a.is_rest) b.is_rest in (
        ap Inlinings.kept r.0,
        ap record_inlinings a.symbols_are ∙ ap (λ l. Inlinings.inlined l (record_inlinings a.tail)) labels
            ∙ ap (Inlinings.inlined b.label) r.1 ∙ sym (ap record_inlinings b.symbols_are),
      )
  agree In n fresh (Inlinings.kept cs) (Inlinings.inlined l ds) rs qs made (inl a) b =
      (let f : Inlinings.kept a.made_rest ≡ Inlinings.inlined b.made_label b.made_rest = sym a.made_is ∙ b.made_is in cc)
  agree In n fresh (Inlinings.kept cs) (Inlinings.inlined l ds) rs qs made (inr a) b =
      let f : Inlinings.inlined a.label a.made_rest ≡ Inlinings.inlined b.made_label b.made_rest = sym a.made_is ∙ b.made_is in
      let labels : a.label ≡ b.made_label = cc in
      absurd (fresh (subst In (sym (ap head_of labels) ∙ a.head_is) b.head_in))
  agree In n fresh (Inlinings.inlined l cs) Inlinings.none rs qs made a b =
      (let f : Inlinings.none ≡ Inlinings.inlined a.made_label a.made_rest = sym b.1 ∙ a.made_is in cc)
  agree In n fresh (Inlinings.inlined l cs) (Inlinings.kept ds) rs qs made a (inl b) =
      (let f : Inlinings.kept b.made_rest ≡ Inlinings.inlined a.made_label a.made_rest = sym b.made_is ∙ a.made_is in cc)
  agree In n fresh (Inlinings.inlined l cs) (Inlinings.kept ds) rs qs made a (inr b) =
      let f : Inlinings.inlined b.label b.made_rest ≡ Inlinings.inlined a.made_label a.made_rest = sym b.made_is ∙ a.made_is in
      let labels : b.label ≡ a.made_label = cc in
      absurd (fresh (subst In (sym (ap head_of labels) ∙ b.head_is) a.head_in))
  agree In n fresh (Inlinings.inlined l cs) (Inlinings.inlined k ds) rs qs made a b =
      let f : Inlinings.inlined a.made_label a.made_rest ≡ Inlinings.inlined b.made_label b.made_rest = sym a.made_is ∙ b.made_is in
      let labels : a.made_label ≡ b.made_label = cc in
      let same : a.made_rest ≡ b.made_rest = cc in
      let front = agree_labels In n fresh l k a.front b.front b.made_label
      (subst (λ m. LabelTurnsInto In n l a.front m) labels a.is_front) b.is_front in
      let rest = agree In n fresh cs ds a.back b.back b.made_rest (subst (λ m. TurnsInto In n cs a.back m) same a.is_rest) b.is_rest in (
        ap (λ z. Inlinings.inlined z cs) front.0 ∙ ap (Inlinings.inlined k) rest.0,
        ap record_inlinings a.symbols_are ∙ record_inlinings-append a.front a.back
            ∙ ap (λ z. record_inlinings-join z (record_inlinings a.back)) front.1
            ∙ ap (record_inlinings-join (record_inlinings b.front)) rest.1
            ∙ sym (record_inlinings-append b.front b.back) ∙ sym (ap record_inlinings b.symbols_are),
      )

  agree_labels : {N C : Type 0} (In : N → Type 0) (n : N) → (In n → ⊥) → (l k : Label N C) (rs qs : List (RecordedSymbol N C))
      (made : Label N C) → LabelTurnsInto In n l rs made → LabelTurnsInto In n k qs made →
      (l ≡ k) × (record_inlinings rs ≡ record_inlinings qs)
  agree_labels In n fresh (Label.choose x c cs) (Label.choose y d ds) rs qs made a b =
      let f : Label.choose x c a.inside ≡ Label.choose y d b.inside = sym a.made_is ∙ b.made_is in
      let same : a.inside ≡ b.inside = cc in
      let nonterminals : x ≡ y = cc in
      let choices : c ≡ d = cc in
      let r = agree In n fresh cs ds rs qs b.inside (subst (λ m. TurnsInto In n cs rs m) same a.is_inside) b.is_inside in
      (ap (λ z. Label.choose z c cs) nonterminals ∙ ap (λ z. Label.choose y z cs) choices ∙ ap (Label.choose y d) r.0, r.1)

-- what a record of a right side makes of its choices, and that it makes it whatever stands behind it
pub record MakesIt (N : Type 0) (C : Type 0) (In : N → Type 0) (n : N) (inlinings : Inlinings N C)
    (symbols : List (RecordedSymbol N C)) : Type 0 where
  pub made : Inlinings N C
  pub made_is : (others : List (RecordedSymbol N C)) → fill_inlinings inlinings (symbols ++ others) ≡ (made, others)
  pub makes : TurnsInto In n inlinings symbols made

-- the same of a label
pub record MakesLabel (N : Type 0) (C : Type 0) (In : N → Type 0) (n : N) (x : N) (label : Label N C)
    (symbols : List (RecordedSymbol N C)) : Type 0 where
  pub made : Label N C
  pub made_is : (others : List (RecordedSymbol N C)) → fill_label label (symbols ++ others) ≡ (made, others)
  pub makes : LabelTurnsInto In n label symbols made
  pub head_is : head_of made ≡ x

makes_none : {N C : Type 0} (In : N → Type 0) (n : N) (symbols : List (RecordedSymbol N C)) → symbols_before n symbols ≡ [] →
    MakesIt N C In n Inlinings.none symbols
makes_none In n [] e = record { made = Inlinings.none; made_is = λ others. refl; makes = (refl, refl) }
makes_none In n (RecordedSymbol.original p ∷ symbols) e = (let f : p ∷ symbols_before n symbols ≡ [] = e in cc)
makes_none In n (RecordedSymbol.inlined l s ∷ symbols) e =
    (let f : GrammarSymbol.nonterminal n ∷ symbols_before n symbols ≡ [] = e in cc)

head_inlined : {N C : Type 0} (M : BaseProductions N C) (In : N → Type 0) (n : N) (label : Label N C) (side : GrammarSymbols N) →
    Inlines M In n label side → head_of label ≡ n
head_inlined M In n (Label.choose y c inlinings) side h = h.0

makes_kept : {N C : Type 0} (M : BaseProductions N C) (In : N → Type 0) (n : N) (p : GrammarSymbol N) (rest : GrammarSymbols N)
    (inlinings : Inlinings N C) (symbols : List (RecordedSymbol N C)) → IsRecord M In n symbols →
    symbols_before n symbols ≡ p ∷ rest →
    ((tail : List (RecordedSymbol N C)) → IsRecord M In n tail → symbols_before n tail ≡ rest → MakesIt N C In n inlinings tail) →
    MakesIt N C In n (Inlinings.kept inlinings) symbols
makes_kept M In n p rest inlinings [] a e follow = (let f : [] ≡ p ∷ rest = e in cc)
makes_kept {N = N} {C = C} M In n p rest inlinings (RecordedSymbol.original q ∷ symbols) a e follow =
    let f : q ∷ symbols_before n symbols ≡ p ∷ rest = e in
    let r = follow symbols a.1 (cc) in
    record {
      made = Inlinings.kept r.made;
      made_is = λ others. ap (λ (z : Inlinings N C × List (RecordedSymbol N C)). (Inlinings.kept z.0, z.1)) (r.made_is others);
      makes = inl (record {
        symbol = q;
        tail = symbols;
        made_rest = r.made;
        symbols_are = refl;
        made_is = refl;
        is_rest = r.makes;
      });
    }
makes_kept {N = N} {C = C} M In n p rest inlinings (RecordedSymbol.inlined l s ∷ symbols) a e follow =
    let f : GrammarSymbol.nonterminal n ∷ symbols_before n symbols ≡ p ∷ rest = e in
    let r = follow symbols a.1 (cc) in
    record {
      made = Inlinings.inlined l r.made;
      made_is = λ others. ap (λ (z : Inlinings N C × List (RecordedSymbol N C)). (Inlinings.inlined l z.0, z.1)) (r.made_is others);
      makes = inr (record {
        label = l;
        side = s;
        tail = symbols;
        made_rest = r.made;
        symbols_are = refl;
        made_is = refl;
        head_is = head_inlined M In n l s a.0;
        is_rest = r.makes;
      });
    }

makes_inlined : {N C : Type 0} (In : N → Type 0) (n x : N) (label : Label N C) (inlinings : Inlinings N C)
    (symbols front back : List (RecordedSymbol N C)) → symbols ≡ front ++ back → In x → MakesLabel N C In n x label front →
    MakesIt N C In n inlinings back → MakesIt N C In n (Inlinings.inlined label inlinings) symbols
makes_inlined {N = N} {C = C} In n x label inlinings symbols front back e i a b = record {
  made = Inlinings.inlined a.made b.made;
  made_is = λ others.
      ap (λ l. fill_inlinings (Inlinings.inlined label inlinings) l) (ap (λ l. l ++ others) e ∙ append_assoc front back others)
      ∙ ap (λ (z : Label N C × List (RecordedSymbol N C)).
      (Inlinings.inlined z.0 (fill_inlinings inlinings z.1).0, (fill_inlinings inlinings z.1).1)) (a.made_is (back ++ others))
      ∙ ap (λ (z : Inlinings N C × List (RecordedSymbol N C)). (Inlinings.inlined a.made z.0, z.1)) (b.made_is others);
  makes = record {
    front = front;
    back = back;
    made_label = a.made;
    made_rest = b.made;
    symbols_are = e;
    made_is = refl;
    head_in = subst In (sym a.head_is) i;
    is_front = a.makes;
    is_rest = b.makes;
  };
}

mutual
  makes_it : {N C : Type 0} (M : BaseProductions N C) (In : N → Type 0) (n : N) (inlinings : Inlinings N C)
      (before side : GrammarSymbols N) → InlinesAll M In before inlinings side → (symbols : List (RecordedSymbol N C)) →
      IsRecord M In n symbols → symbols_before n symbols ≡ side → MakesIt N C In n inlinings symbols
  makes_it M In n Inlinings.none [] side h symbols a e = makes_none In n symbols (e ∙ h)
  makes_it M In n (Inlinings.kept inlinings) [] side h symbols a e = absurd h
  makes_it M In n (Inlinings.inlined label inlinings) [] side h symbols a e = absurd h
  makes_it M In n Inlinings.none (p ∷ before) side h symbols a e = absurd h
  makes_it M In n (Inlinings.kept inlinings) (p ∷ before) side h symbols a e =
      makes_kept M In n p h.1 inlinings symbols a (e ∙ h.2) (λ tail b f. makes_it M In n inlinings before h.1 h.3 tail b f)
  makes_it M In n (Inlinings.inlined label inlinings) (GrammarSymbol.terminal t ∷ before) side h symbols a e = absurd h
  makes_it M In n (Inlinings.inlined label inlinings) (GrammarSymbol.nonterminal x ∷ before) side h symbols a e =
      let w = h.1 in
      let q = record_parts M In n w.front w.rest symbols a (e ∙ w.side_is) in
      makes_inlined In n x label inlinings symbols q.front q.back q.whole h.0
      (makes_label M In n label x w.front w.is_front q.front q.is_front q.before_front)
      (makes_it M In n inlinings before w.rest w.is_rest q.back q.is_back q.before_back)

  makes_label : {N C : Type 0} (M : BaseProductions N C) (In : N → Type 0) (n : N) (label : Label N C) (x : N)
      (side : GrammarSymbols N) → Inlines M In x label side → (symbols : List (RecordedSymbol N C)) → IsRecord M In n symbols →
      symbols_before n symbols ≡ side → MakesLabel N C In n x label symbols
  makes_label {N = N} {C = C} M In n (Label.choose y c inlinings) x side h symbols a e =
      let r = makes_it M In n inlinings h.1 side h.3 symbols a e in
      record {
        made = Label.choose y c r.made;
        made_is = λ others. ap (λ (z : Inlinings N C × List (RecordedSymbol N C)). (Label.choose y c z.0, z.1)) (r.made_is others);
        makes = record { inside = r.made; made_is = refl; is_inside = r.makes };
        head_is = h.0;
      }

-- for a record with nothing behind it
pub append-none : {A : Type 0} (xs : List A) → xs ++ [] ≡ xs
append-none [] = refl
append-none (x ∷ xs) = ap (λ l. x ∷ l) (append-none xs)

-- one label that two productions with a record each make tells both productions' labels and what both records say
pub made_once : {N C : Type 0} (M : BaseProductions N C) (In : N → Type 0) (n : N) → (In n → ⊥) → (x : N) (l k : Label N C)
    (rs qs : List (RecordedSymbol N C)) → Inlines M In x l (symbols_before n rs) → Inlines M In x k (symbols_before n qs) →
    IsRecord M In n rs → IsRecord M In n qs → label_with l rs ≡ label_with k qs →
    (l ≡ k) × (record_inlinings rs ≡ record_inlinings qs)
made_once {N = N} {C = C} M In n fresh x l k rs qs g h a b e =
    let r = makes_label M In n l x (symbols_before n rs) g rs a refl in
    let q = makes_label M In n k x (symbols_before n qs) h qs b refl in
    let label_of : (label : Label N C) (symbols : List (RecordedSymbol N C)) (made : Label N C) →
    fill_label label (symbols ++ []) ≡ (made, []) → label_with label symbols ≡ made =
    λ label symbols made f.
    ap (λ (s : List (RecordedSymbol N C)). (fill_label label s).0) (sym (append-none symbols))
    ∙ ap (λ (z : Label N C × List (RecordedSymbol N C)). z.0) f in
    let same : r.made ≡ q.made = sym (label_of l rs r.made (r.made_is [])) ∙ e ∙ label_of k qs q.made (q.made_is []) in
    agree_labels In n fresh l k rs qs q.made (subst (λ m. LabelTurnsInto In n l rs m) same r.makes) q.makes
