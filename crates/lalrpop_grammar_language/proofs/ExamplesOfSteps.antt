-- Computed examples of steps, over productions with numbers of actions: what they make, and what they don't.
use Prim.Native.String.{String}
use Rattle.std.proofs.Common.{◌≡◌, ◌≢◌, ℕ, List, [], ◌∷◌, ◌++◌, refl, ap, ◌∙◌, subst, inl, inr}
use Rattle.std.proofs.Common.{◌⊎◌, arith}
use Rattle.std.specs.Prelude.{codes}
use Rattle.lalrpop_grammar_symbols.specs.Symbols.{Terminal}
use Rattle.lalrpop_grammar_language.specs.Among.{Among}
use Rattle.lalrpop_grammar_language.specs.Expansion.{GrammarSymbol}
use Rattle.lalrpop_grammar_language.specs.Labels.{GrammarSymbols, BaseProductions, Label, Inlinings}
use Rattle.lalrpop_grammar_language.specs.Inlining.{Inlines, InlinesAll}
use Rattle.lalrpop_grammar_language.specs.Steps.{RecordedSymbol, symbols_before, symbols_after, IsRecord, label_with, fill_label, OneMore}
use Rattle.lalrpop_grammar_language.specs.Steps.{NeverNamesItself, NamesInlinedFirst}

-- nonterminals of the examples
pub data Name : Type 0 where
  S : Name
  A : Name
  B : Name

abbrev t : String → GrammarSymbol Name
t s = GrammarSymbol.terminal (Terminal.quoted (codes s))

abbrev n : Name → GrammarSymbol Name
n x = GrammarSymbol.nonterminal x

abbrev L : Type 0
L = Label Name ℕ

abbrev Symbols : Type 0
Symbols = GrammarSymbols Name

abbrev Record : Type 0
Record = List (RecordedSymbol Name ℕ)

abbrev kept : Inlinings Name ℕ → Inlinings Name ℕ
kept rest = Inlinings.kept rest

abbrev inlined : L → Inlinings Name ℕ → Inlinings Name ℕ
inlined l rest = Inlinings.inlined l rest

abbrev end : Inlinings Name ℕ
end = Inlinings.none

-- a symbol that a production of the nonterminal replaces
abbrev put : L → Symbols → RecordedSymbol Name ℕ
put l side = RecordedSymbol.inlined l side

abbrev same : GrammarSymbol Name → RecordedSymbol Name ℕ
same p = RecordedSymbol.original p

-- none is inlined before the first step
abbrev Nothing : Name → Type 0
Nothing x = ⊥

-- S = A A; A = { "a", "b" }
abbrev pairs : BaseProductions Name ℕ
pairs Name.S action side = (action ≡ 0) × (side ≡ n Name.A ∷ n Name.A ∷ [])
pairs Name.A action side = ((action ≡ 1) × (side ≡ t "a" ∷ [])) ⊎ ((action ≡ 2) × (side ≡ t "b" ∷ []))
pairs Name.B action side = ⊥

abbrev A_inlined : Name → Type 0
A_inlined = OneMore Nothing Name.A

abbrev of_A : ℕ → L
of_A action = Label.choose Name.A action (kept end)

abbrev pair : ℕ → ℕ → L
pair i j = Label.choose Name.S 0 (inlined (of_A i) (inlined (of_A j) end))

abbrev pair_record : ℕ → String → ℕ → String → Record
pair_record i s j r = put (of_A i) (t s ∷ []) ∷ put (of_A j) (t r ∷ []) ∷ []

-- both places of S are replaced
both_replaced : (i j : ℕ) (s r : String) → Inlines pairs Nothing Name.A (of_A i) (t s ∷ []) →
    Inlines pairs Nothing Name.A (of_A j) (t r ∷ [])
    → IsRecord pairs Nothing Name.A (pair_record i s j r)
both_replaced i j s r g h = (g, (h, tt))

a_by_1 : (In : Name → Type 0) → Inlines pairs In Name.A (of_A 1) (t "a" ∷ [])
a_by_1 In = (refl, t "a" ∷ [], inl (refl, refl), (tt, [], refl, refl))

b_by_2 : (In : Name → Type 0) → Inlines pairs In Name.A (of_A 2) (t "b" ∷ [])
b_by_2 In = (refl, t "b" ∷ [], inr (refl, refl), (tt, [], refl, refl))

-- a place that is left as it is makes no record
one_left : IsRecord pairs Nothing Name.A (put (of_A 1) (t "a" ∷ []) ∷ same (n Name.A) ∷ []) → ⊥
one_left h = h.1.0 refl

-- two inlined symbols in one alternative: four labels, first place slowest, the record used up
abbrev S_before : L
S_before = Label.choose Name.S 0 (kept (kept end))

a_a : fill_label S_before (pair_record 1 "a" 1 "a") ≡ (pair 1 1, [])
a_a = refl

a_b : fill_label S_before (pair_record 1 "a" 2 "b") ≡ (pair 1 2, [])
a_b = refl

b_a : fill_label S_before (pair_record 2 "b" 1 "a") ≡ (pair 2 1, [])
b_a = refl

b_b : fill_label S_before (pair_record 2 "b" 2 "b") ≡ (pair 2 2, [])
b_b = refl

sides : (i j : ℕ) → symbols_after (pair_record i "b" j "a") ≡ t "b" ∷ t "a" ∷ []
sides i j = refl

-- they are the productions with A inlined
is_pair : (i j : ℕ) (s r : String) → Inlines pairs A_inlined Name.A (of_A i) (t s ∷ []) →
    Inlines pairs A_inlined Name.A (of_A j) (t r ∷ []) → Inlines pairs A_inlined Name.S (pair i j) (t s ∷ t r ∷ [])
is_pair i j s r g h = (
  refl,
  n Name.A ∷ n Name.A ∷ [],
  (refl, refl),
  (
    inr refl,
    record {
      front = t s ∷ [];
      rest = t r ∷ [];
      side_is = refl;
      is_front = g;
      is_rest = (inr refl, record { front = t r ∷ []; rest = []; side_is = refl; is_front = h; is_rest = refl });
    },
  ),
)

is_b_a : Inlines pairs A_inlined Name.S (pair 2 1) (t "b" ∷ t "a" ∷ [])
is_b_a = is_pair 2 1 "b" "a" (b_by_2 A_inlined) (a_by_1 A_inlined)

-- and no others: A has two
abbrev IsOfA : L → Symbols → Type 0
IsOfA l side = ((l ≡ of_A 1) × (side ≡ t "a" ∷ [])) ⊎ ((l ≡ of_A 2) × (side ≡ t "b" ∷ []))

one_terminal : (In : Name → Type 0) (s : String) (cs : Inlinings Name ℕ) (side : Symbols) →
    InlinesAll pairs In (t s ∷ []) cs side →
    (cs ≡ kept end) × (side ≡ t s ∷ [])
one_terminal In s Inlinings.none side h = absurd h
one_terminal In s (Inlinings.inlined l cs) side h = absurd h
one_terminal In s (Inlinings.kept Inlinings.none) side h = (refl, h.2 ∙ ap (λ r. t s ∷ r) h.3)
one_terminal In s (Inlinings.kept (Inlinings.kept cs)) side h = absurd h.3
one_terminal In s (Inlinings.kept (Inlinings.inlined l cs)) side h = absurd h.3

only_two : (In : Name → Type 0) (l : L) (side : Symbols) → Inlines pairs In Name.A l side → IsOfA l side
only_two In (Label.choose y action cs) side h = go h.2
  where
    label_is : (i : ℕ) → action ≡ i → cs ≡ kept end → Label.choose y action cs ≡ of_A i
    label_is i e f =
        ap (λ z. Label.choose z action cs) h.0 ∙ ap (λ z. Label.choose Name.A z cs) e ∙ ap (Label.choose Name.A i) f

    go : pairs Name.A action h.1 → IsOfA (Label.choose y action cs) side
    go (inl m) =
        let r = one_terminal In "a" cs side (subst (λ b. InlinesAll pairs In b cs side) m.1 h.3) in
        inl (label_is 1 m.0 r.0, r.1)
    go (inr m) =
        let r = one_terminal In "b" cs side (subst (λ b. InlinesAll pairs In b cs side) m.1 h.3) in
        inr (label_is 2 m.0 r.0, r.1)

-- a production of S that keeps an A isn't one with A inlined
keeps_first : (action : ℕ) (rest : Inlinings Name ℕ) (side : Symbols) →
    Inlines pairs A_inlined Name.S (Label.choose Name.S action (kept rest)) side → ⊥
keeps_first action rest side h =
    let k = subst (λ b. InlinesAll pairs A_inlined b (kept rest) side) h.2.1 h.3 in
    k.0 (inr refl)

keeps_second : (action : ℕ) (l : L) (rest : Inlinings Name ℕ) (side : Symbols) →
    Inlines pairs A_inlined Name.S (Label.choose Name.S action (inlined l (kept rest))) side → ⊥
keeps_second action l rest side h =
    let k = subst (λ b. InlinesAll pairs A_inlined b (inlined l (kept rest)) side) h.2.1 h.3 in
    k.1.is_rest.0 (inr refl)

-- so S has four, whose right sides follow from their labels
abbrev IsOfS : L → Symbols → Type 0
IsOfS l side =
    (i : L) × (j : L) × (front : Symbols) × (back : Symbols)
    × ((l ≡ Label.choose Name.S 0 (inlined i (inlined j end))) × (side ≡ front ++ back) × IsOfA i front × IsOfA j back)

only_four : (l : L) (side : Symbols) → Inlines pairs A_inlined Name.S l side → IsOfS l side
only_four (Label.choose y action cs) side h =
    go cs (subst (λ b. InlinesAll pairs A_inlined b cs side) h.2.1 h.3)
  where
    go : (ds : Inlinings Name ℕ) → InlinesAll pairs A_inlined (n Name.A ∷ n Name.A ∷ []) ds side →
        IsOfS (Label.choose y action ds) side
    go Inlinings.none k = absurd k
    go (Inlinings.kept ds) k = absurd (k.0 (inr refl))
    go (Inlinings.inlined i Inlinings.none) k = absurd k.1.is_rest
    go (Inlinings.inlined i (Inlinings.kept ds)) k = absurd (k.1.is_rest.0 (inr refl))
    go (Inlinings.inlined i (Inlinings.inlined j (Inlinings.kept ds))) k = absurd k.1.is_rest.1.is_rest
    go (Inlinings.inlined i (Inlinings.inlined j (Inlinings.inlined l ds))) k = absurd k.1.is_rest.1.is_rest
    go (Inlinings.inlined i (Inlinings.inlined j Inlinings.none)) k =
        let w = k.1 in
        let v = w.is_rest.1 in (
          i,
          j,
          w.front,
          v.front,
          (
            ap (λ z. Label.choose z action (inlined i (inlined j end))) h.0
                ∙ ap (λ z. Label.choose Name.S z (inlined i (inlined j end))) h.2.0,
            w.side_is ∙ ap (λ r. w.front ++ r) (v.side_is ∙ ap (λ r. v.front ++ r) v.is_rest ∙ none_behind v.front),
            only_two A_inlined i w.front w.is_front,
            only_two A_inlined j v.front v.is_front,
          ),
        )
      where
        none_behind : (xs : Symbols) → xs ++ [] ≡ xs
        none_behind [] = refl
        none_behind (x ∷ xs) = ap (λ z. x ∷ z) (none_behind xs)

-- A = { "a", "a" }: one right side, two labels
abbrev alike : BaseProductions Name ℕ
alike Name.S action side = (action ≡ 0) × (side ≡ n Name.A ∷ [])
alike Name.A action side = ((action ≡ 1) ⊎ (action ≡ 2)) × (side ≡ t "a" ∷ [])
alike Name.B action side = ⊥

abbrev by_A : ℕ → L
by_A i = Label.choose Name.S 0 (inlined (of_A i) end)

is_alike : (i : ℕ) → (i ≡ 1) ⊎ (i ≡ 2) → Inlines alike A_inlined Name.S (by_A i) (t "a" ∷ [])
is_alike i e = (
  refl,
  n Name.A ∷ [],
  (refl, refl),
  (
    inr refl,
    record {
      front = t "a" ∷ [];
      rest = [];
      side_is = refl;
      is_front = (refl, t "a" ∷ [], (e, refl), (tt, [], refl, refl));
      is_rest = refl;
    },
  ),
)

two_labels : Inlines alike A_inlined Name.S (by_A 1) (t "a" ∷ []) × Inlines alike A_inlined Name.S (by_A 2) (t "a" ∷ [])
two_labels = (is_alike 1 (inl refl), is_alike 2 (inr refl))

-- one label isn't both
labels_differ : by_A 1 ≢ by_A 2
labels_differ e =
    let inner : of_A 1 ≡ of_A 2 = cc in
    let actions : ◌≡◌ {A = ℕ} 1 2 = cc in
    omega (arith, actions)

-- S = A A; A = { , "a" }: which of the two places is empty is told by the label alone
abbrev halves : BaseProductions Name ℕ
halves Name.S action side = (action ≡ 0) × (side ≡ n Name.A ∷ n Name.A ∷ [])
halves Name.A action side = ((action ≡ 1) × (side ≡ [])) ⊎ ((action ≡ 2) × (side ≡ t "a" ∷ []))
halves Name.B action side = ⊥

abbrev empty_A : L
empty_A = Label.choose Name.A 1 end

abbrev is_empty_A : (In : Name → Type 0) → Inlines halves In Name.A empty_A []
is_empty_A In = (refl, [], inl (refl, refl), refl)

abbrev is_a : (In : Name → Type 0) → Inlines halves In Name.A (of_A 2) (t "a" ∷ [])
is_a In = (refl, t "a" ∷ [], inr (refl, refl), (tt, [], refl, refl))

abbrev first_empty : Record
first_empty = put empty_A [] ∷ put (of_A 2) (t "a" ∷ []) ∷ []

abbrev second_empty : Record
second_empty = put (of_A 2) (t "a" ∷ []) ∷ put empty_A [] ∷ []

are_records : IsRecord halves Nothing Name.A first_empty × IsRecord halves Nothing Name.A second_empty
are_records = ((is_empty_A Nothing, (is_a Nothing, tt)), (is_a Nothing, (is_empty_A Nothing, tt)))

one_side : (symbols_after first_empty ≡ t "a" ∷ []) × (symbols_after second_empty ≡ t "a" ∷ [])
one_side = (refl, refl)

two_halves : label_with S_before first_empty ≢ label_with S_before second_empty
two_halves e =
    let inner : empty_A ≡ of_A 2 = cc in
    let actions : ◌≡◌ {A = ℕ} 1 2 = cc in
    omega (arith, actions)

-- S = A "z"; A = B "y"; B = { "p", "q" }, B inlined first, then A
abbrev nested : BaseProductions Name ℕ
nested Name.S action side = (action ≡ 0) × (side ≡ n Name.A ∷ t "z" ∷ [])
nested Name.A action side = (action ≡ 1) × (side ≡ n Name.B ∷ t "y" ∷ [])
nested Name.B action side = ((action ≡ 2) × (side ≡ t "p" ∷ [])) ⊎ ((action ≡ 3) × (side ≡ t "q" ∷ []))

abbrev B_inlined : Name → Type 0
B_inlined = OneMore Nothing Name.B

abbrev both_inlined : Name → Type 0
both_inlined = OneMore B_inlined Name.A

abbrev by_B : ℕ → L
by_B i = Label.choose Name.B i (kept end)

-- the first step, in A's production
abbrev record_of_A : Record
record_of_A = put (by_B 3) (t "q" ∷ []) ∷ same (t "y") ∷ []

abbrev A_by_B : L
A_by_B = Label.choose Name.A 1 (inlined (by_B 3) (kept end))

first_step : (label_with (Label.choose Name.A 1 (kept (kept end))) record_of_A ≡ A_by_B)
    × (symbols_before Name.B record_of_A ≡ n Name.B ∷ t "y" ∷ []) × (symbols_after record_of_A ≡ t "q" ∷ t "y" ∷ [])
first_step = (refl, refl, refl)

-- the second, in S's: the record of A's goes into it
abbrev record_of_S : Record
record_of_S = put A_by_B (t "q" ∷ t "y" ∷ []) ∷ same (t "z") ∷ []

abbrev S_by_A : L
S_by_A = Label.choose Name.S 0 (inlined A_by_B (kept end))

second_step : (label_with (Label.choose Name.S 0 (kept (kept end))) record_of_S ≡ S_by_A)
    × (symbols_before Name.A record_of_S ≡ n Name.A ∷ t "z" ∷ []) × (symbols_after record_of_S ≡ t "q" ∷ t "y" ∷ t "z" ∷ [])
second_step = (refl, refl, refl)

is_nested : Inlines nested both_inlined Name.S S_by_A (t "q" ∷ t "y" ∷ t "z" ∷ [])
is_nested = (
  refl,
  n Name.A ∷ t "z" ∷ [],
  (refl, refl),
  (
    inr refl,
    record {
      front = t "q" ∷ t "y" ∷ [];
      rest = t "z" ∷ [];
      side_is = refl;
      is_front = (
        refl,
        n Name.B ∷ t "y" ∷ [],
        (refl, refl),
        (
          inl (inr refl),
          record {
            front = t "q" ∷ [];
            rest = t "y" ∷ [];
            side_is = refl;
            is_front = (refl, t "q" ∷ [], inr (refl, refl), (tt, [], refl, refl));
            is_rest = (tt, [], refl, refl);
          },
        ),
      );
      is_rest = (tt, [], refl, refl);
    },
  ),
)

-- B names nothing, and all that A names is inlined before it; the other way round A would be too early
abbrev Marked : Name → Type 0
Marked x = (x ≡ Name.A) ⊎ (x ≡ Name.B)

no_name : (s : String) (y : Name) → Among (t s ∷ []) (n y) → ⊥
no_name s y (inl e) = (let f : t s ≡ n y = e in cc)
no_name s y (inr e) = e

B_first : NamesInlinedFirst nested Nothing Marked Name.B
B_first Name.B action side y (inr e) (inl m) i k = absurd (no_name "p" y (subst (λ l. Among l (n y)) m.1 i))
B_first Name.B action side y (inr e) (inr m) i k = absurd (no_name "q" y (subst (λ l. Among l (n y)) m.1 i))
B_first Name.A action side y (inr e) m i k = (let f : Name.A ≡ Name.B = e in cc)
B_first Name.S action side y (inr e) m i k = (let f : Name.S ≡ Name.B = e in cc)
B_first x action side y (inl e) m i k = absurd e

A_too_early : NamesInlinedFirst nested Nothing Marked Name.A → ⊥
A_too_early first = first Name.A 1 (n Name.B ∷ t "y" ∷ []) Name.B (inr refl) (refl, refl) (inl refl) (inr refl)

-- a label of a nonterminal that isn't inlined is put nowhere: with B alone inlined, S keeps A
inlines_too_much : (l : L) (rest : Inlinings Name ℕ) (side : Symbols) →
    Inlines nested B_inlined Name.S (Label.choose Name.S 0 (inlined l rest)) side → ⊥
inlines_too_much l rest side h =
    let k = subst (λ b. InlinesAll nested B_inlined b (inlined l rest) side) h.2.1 h.3 in
    go k.0
  where
    go : B_inlined Name.A → ⊥
    go (inl e) = e
    go (inr e) = (let f : Name.A ≡ Name.B = e in cc)

-- a terminal is never inlined
terminal_inlined : (In : Name → Type 0) (l : L) (rest : Inlinings Name ℕ) (side : Symbols) →
    Inlines nested In Name.B (Label.choose Name.B 2 (inlined l rest)) side → ⊥
terminal_inlined In l rest side h = go h.2
  where
    go : nested Name.B 2 h.1 → ⊥
    go (inl m) = subst (λ b. InlinesAll nested In b (inlined l rest) side) m.1 h.3
    go (inr m) = subst (λ b. InlinesAll nested In b (inlined l rest) side) m.1 h.3

-- S = A; A = { A "x", "y" }: A names itself, and then a step makes what isn't there with A inlined
abbrev circle : BaseProductions Name ℕ
circle Name.S action side = (action ≡ 0) × (side ≡ n Name.A ∷ [])
circle Name.A action side = ((action ≡ 1) × (side ≡ n Name.A ∷ t "x" ∷ [])) ⊎ ((action ≡ 2) × (side ≡ t "y" ∷ []))
circle Name.B action side = ⊥

abbrev again : L
again = Label.choose Name.A 1 (kept (kept end))

is_again : Inlines circle Nothing Name.A again (n Name.A ∷ t "x" ∷ [])
is_again =
    (refl, n Name.A ∷ t "x" ∷ [], inl (refl, refl), ((λ i. i), t "x" ∷ [], refl, (tt, [], refl, refl)))

names_itself : NeverNamesItself circle Nothing Name.A → ⊥
names_itself never = never again (n Name.A ∷ t "x" ∷ []) is_again (inl refl)

abbrev record_of_circle : Record
record_of_circle = put again (n Name.A ∷ t "x" ∷ []) ∷ []

is_record_of_circle : IsRecord circle Nothing Name.A record_of_circle
is_record_of_circle = (is_again, tt)

not_inlined : (side : Symbols) →
    Inlines circle A_inlined Name.S (label_with (Label.choose Name.S 0 (kept end)) record_of_circle) side → ⊥
not_inlined side h = go (subst (λ b. InlinesAll circle A_inlined b (inlined again end) side) h.2.1 h.3)
  where
    inside : (front : Symbols) → Inlines circle A_inlined Name.A again front → ⊥
    inside front k = by (k.2)
      where
        by : circle Name.A 1 k.1 → ⊥
        by (inl m) = (subst (λ b. InlinesAll circle A_inlined b (kept (kept end)) front) m.1 k.3).0 (inr refl)
        by (inr m) = (let f : ◌≡◌ {A = ℕ} 1 2 = m.0 in omega (arith, f))

    go : InlinesAll circle A_inlined (n Name.A ∷ []) (inlined again end) side → ⊥
    go k = inside k.1.front k.1.is_front
