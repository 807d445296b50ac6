-- What a record leaves and what it puts at the places of a label: for the order of labels after a step of inlining.
use Rattle.std.proofs.Common.{◌≡◌, ◌∙◌, ◌≤◌, ◌⊎◌, inl, inr, ℕ, zero, suc, List, [], ◌∷◌, ◌++◌, Some, ap, append_assoc, arith, refl, subst, sym}
use Rattle.std.specs.Prelude.{slice_get}
use Rattle.lalrpop_lr1_theory.proofs.StepLemmas.{some_same}
use Rattle.lalrpop_grammar_language.specs.Among.{Among}
use Rattle.lalrpop_grammar_language.specs.Expansion.{GrammarSymbol}
use Rattle.lalrpop_grammar_language.specs.Labels.{BaseProductions, GrammarSymbols, Inlinings, Label}
use Rattle.lalrpop_grammar_language.specs.Inlining.{Inlines, InlinesAll}
use Rattle.lalrpop_grammar_language.specs.Steps.{IsRecord, RecordedSymbol, fill_inlinings, fill_label, symbols_before}
use Rattle.lalrpop_grammar_language.proofs.OrderLemmas.{among_parts}
use Rattle.lalrpop_grammar_language.proofs.StepLemmas.{Lacks, record_parts}
use Rattle.lalrpop_grammar_language.proofs.StepOnceLemmas.{append-none}
use Rattle.lalrpop_run.specs.ProductionOrders.{inlined_at, label_head}

-- symbols that stand as before
abbrev pub originals : {N C : Type 0} → GrammarSymbols N → List (RecordedSymbol N C)
originals [] = []
originals (p ∷ side) = RecordedSymbol.original p ∷ originals side

originals_append : {N C : Type 0} (xs ys : GrammarSymbols N) (others : List (RecordedSymbol N C)) →
    originals (xs ++ ys) ++ others ≡ originals xs ++ (originals ys ++ others)
originals_append [] ys others = refl
originals_append (p ∷ xs) ys others = ap (λ l. RecordedSymbol.original p ∷ l) (originals_append xs ys others)

mutual
  -- they leave what they are put into
  left_all : {N C : Type 0} (M : BaseProductions N C) (In : N → Type 0) (inlinings : Inlinings N C) (before side : GrammarSymbols N) →
      InlinesAll M In before inlinings side → (others : List (RecordedSymbol N C)) →
      fill_inlinings inlinings (originals side ++ others) ≡ (inlinings, others)
  left_all {N = N} M In Inlinings.none [] side h others =
      ap (λ (s : GrammarSymbols N). fill_inlinings Inlinings.none (originals s ++ others)) h
  left_all M In (Inlinings.kept inlinings) [] side h others = absurd h
  left_all M In (Inlinings.inlined label inlinings) [] side h others = absurd h
  left_all M In Inlinings.none (p ∷ before) side h others = absurd h
  left_all {N = N} {C = C} M In (Inlinings.kept inlinings) (p ∷ before) side h others =
      ap (λ (s : GrammarSymbols N). fill_inlinings (Inlinings.kept inlinings) (originals s ++ others)) h.2
      ∙ ap (λ (z : Inlinings N C × List (RecordedSymbol N C)). (Inlinings.kept z.0, z.1))
      (left_all M In inlinings before h.1 h.3 others)
  left_all M In (Inlinings.inlined label inlinings) (GrammarSymbol.terminal t ∷ before) side h others = absurd h
  left_all {N = N} {C = C} M In (Inlinings.inlined label inlinings) (GrammarSymbol.nonterminal x ∷ before) side h others =
      let w = h.1 in
      ap (λ (s : GrammarSymbols N). fill_inlinings (Inlinings.inlined label inlinings) (originals s ++ others)) w.side_is
      ∙ ap (λ (l : List (RecordedSymbol N C)). fill_inlinings (Inlinings.inlined label inlinings) l)
      (originals_append w.front w.rest others)
      ∙ ap (λ (z : Label N C × List (RecordedSymbol N C)).
      (Inlinings.inlined z.0 (fill_inlinings inlinings z.1).0, (fill_inlinings inlinings z.1).1))
      (left_label M In label x w.front w.is_front (originals w.rest ++ others))
      ∙ ap (λ (z : Inlinings N C × List (RecordedSymbol N C)). (Inlinings.inlined label z.0, z.1))
      (left_all M In inlinings before w.rest w.is_rest others)

  left_label : {N C : Type 0} (M : BaseProductions N C) (In : N → Type 0) (label : Label N C) (x : N) (side : GrammarSymbols N) →
      Inlines M In x label side → (others : List (RecordedSymbol N C)) → fill_label label (originals side ++ others) ≡ (label, others)
  left_label {N = N} {C = C} M In (Label.choose y c inlinings) x side h others =
      ap (λ (z : Inlinings N C × List (RecordedSymbol N C)). (Label.choose y c z.0, z.1))
      (left_all M In inlinings h.1 side h.3 others)

-- a record of a right side without the nonterminal has such symbols alone
originals_only : {N C : Type 0} (M : BaseProductions N C) (In : N → Type 0) (n : N) (symbols : List (RecordedSymbol N C)) →
    IsRecord M In n symbols → Lacks (symbols_before n symbols) n → symbols ≡ originals (symbols_before n symbols)
originals_only M In n [] a d = refl
originals_only M In n (RecordedSymbol.original p ∷ symbols) a d =
    ap (λ l. RecordedSymbol.original p ∷ l) (originals_only M In n symbols a.1 (λ i. d (inr i)))
originals_only M In n (RecordedSymbol.inlined l s ∷ symbols) a d = absurd (d (inl refl))

-- What is put into choices place by place: what was inlined stays, and what was kept is kept or inlined by a label of the nonterminal.
abbrev pub Puts : {N C : Type 0} → N → Inlinings N C → Inlinings N C → Type 0
Puts n Inlinings.none Inlinings.none = Unit {0}
Puts n Inlinings.none (Inlinings.kept made) = ⊥
Puts n Inlinings.none (Inlinings.inlined m made) = ⊥
Puts n (Inlinings.kept inlinings) Inlinings.none = ⊥
Puts n (Inlinings.kept inlinings) (Inlinings.kept made) = Puts n inlinings made
Puts n (Inlinings.kept inlinings) (Inlinings.inlined m made) = (label_head m ≡ n) × Puts n inlinings made
Puts n (Inlinings.inlined l inlinings) Inlinings.none = ⊥
Puts n (Inlinings.inlined l inlinings) (Inlinings.kept made) = ⊥
Puts n (Inlinings.inlined l inlinings) (Inlinings.inlined m made) = (l ≡ m) × Puts n inlinings made

pub put_stays : {N C : Type 0} (n : N) (inlinings made : Inlinings N C) → Puts n inlinings made → (i : ℕ) (l : Label N C) →
    inlined_at inlinings i ≡ Some l → inlined_at made i ≡ Some l
put_stays n Inlinings.none Inlinings.none h i l e = let w : ⊥ = cc in absurd w
put_stays n Inlinings.none (Inlinings.kept made) h i l e = absurd h
put_stays n Inlinings.none (Inlinings.inlined m made) h i l e = absurd h
put_stays n (Inlinings.kept inlinings) Inlinings.none h i l e = absurd h
put_stays n (Inlinings.kept inlinings) (Inlinings.kept made) h zero l e = let w : ⊥ = cc in absurd w
put_stays n (Inlinings.kept inlinings) (Inlinings.kept made) h (suc i) l e = put_stays n inlinings made h i l e
put_stays n (Inlinings.kept inlinings) (Inlinings.inlined m made) h zero l e = let w : ⊥ = cc in absurd w
put_stays n (Inlinings.kept inlinings) (Inlinings.inlined m made) h (suc i) l e = put_stays n inlinings made h.1 i l e
put_stays n (Inlinings.inlined k inlinings) Inlinings.none h i l e = absurd h
put_stays n (Inlinings.inlined k inlinings) (Inlinings.kept made) h i l e = absurd h
put_stays n (Inlinings.inlined k inlinings) (Inlinings.inlined m made) h zero l e = ap Some (sym h.0) ∙ e
put_stays n (Inlinings.inlined k inlinings) (Inlinings.inlined m made) h (suc i) l e = put_stays n inlinings made h.1 i l e

pub put_old : {N C : Type 0} (n : N) (inlinings made : Inlinings N C) → Puts n inlinings made → (i : ℕ) (l : Label N C) →
    inlined_at made i ≡ Some l → (inlined_at inlinings i ≡ Some l) ⊎ (label_head l ≡ n)
put_old n Inlinings.none Inlinings.none h i l e = let w : ⊥ = cc in absurd w
put_old n Inlinings.none (Inlinings.kept made) h i l e = absurd h
put_old n Inlinings.none (Inlinings.inlined m made) h i l e = absurd h
put_old n (Inlinings.kept inlinings) Inlinings.none h i l e = absurd h
put_old n (Inlinings.kept inlinings) (Inlinings.kept made) h zero l e = let w : ⊥ = cc in absurd w
put_old n (Inlinings.kept inlinings) (Inlinings.kept made) h (suc i) l e = put_old n inlinings made h i l e
put_old n (Inlinings.kept inlinings) (Inlinings.inlined m made) h zero l e =
    inr (ap label_head (sym (some_same m l e)) ∙ h.0)
put_old n (Inlinings.kept inlinings) (Inlinings.inlined m made) h (suc i) l e = put_old n inlinings made h.1 i l e
put_old n (Inlinings.inlined k inlinings) Inlinings.none h i l e = absurd h
put_old n (Inlinings.inlined k inlinings) (Inlinings.kept made) h i l e = absurd h
put_old n (Inlinings.inlined k inlinings) (Inlinings.inlined m made) h zero l e = inl (ap Some h.0 ∙ e)
put_old n (Inlinings.inlined k inlinings) (Inlinings.inlined m made) h (suc i) l e = put_old n inlinings made h.1 i l e

-- a label of the nonterminal is inlined somewhere
abbrev pub HasHead : {N C : Type 0} → N → Inlinings N C → Type 0
HasHead {N = N} {C = C} n inlinings =
    (i : ℕ) × (l : Label N C) × (inlined_at inlinings i ≡ Some l) × (label_head l ≡ n)

head_behind_kept : {N C : Type 0} (n : N) (inlinings : Inlinings N C) → HasHead n inlinings → HasHead n (Inlinings.kept inlinings)
head_behind_kept n inlinings h = (suc h.0, h.1, h.2, h.3)

head_behind_inlined : {N C : Type 0} (n : N) (m : Label N C) (inlinings : Inlinings N C) → HasHead n inlinings →
    HasHead n (Inlinings.inlined m inlinings)
head_behind_inlined n m inlinings h = (suc h.0, h.1, h.2, h.3)

-- a label of a nonterminal has it as its head
pub head_inlined : {N C : Type 0} (M : BaseProductions N C) (In : N → Type 0) (x : N) (label : Label N C) (side : GrammarSymbols N) →
    Inlines M In x label side → label_head label ≡ x
head_inlined M In x (Label.choose y c inlinings) side h = h.0

-- What is inlined at a place is a label of the nonterminal that stands there.
pub record IsPlaceOf (N : Type 0) (C : Type 0) (M : BaseProductions N C) (In : N → Type 0) (before : GrammarSymbols N) (i : ℕ)
    (l : Label N C) : Type 0 where
  pub stands : slice_get before i ≡ Some (GrammarSymbol.nonterminal (label_head l))
  pub goes : In (label_head l)
  pub front : GrammarSymbols N
  pub inlines : Inlines M In (label_head l) l front

pub place_inlines : {N C : Type 0} (M : BaseProductions N C) (In : N → Type 0) (inlinings : Inlinings N C)
    (before side : GrammarSymbols N) → InlinesAll M In before inlinings side → (i : ℕ) (l : Label N C) →
    inlined_at inlinings i ≡ Some l → IsPlaceOf N C M In before i l
place_inlines M In Inlinings.none before side h i l e = let w : ⊥ = cc in absurd w
place_inlines M In (Inlinings.kept inlinings) [] side h i l e = absurd h
place_inlines M In (Inlinings.inlined k inlinings) [] side h i l e = absurd h
place_inlines M In (Inlinings.kept inlinings) (p ∷ before) side h zero l e = let w : ⊥ = cc in absurd w
place_inlines M In (Inlinings.kept inlinings) (p ∷ before) side h (suc i) l e =
    let r = place_inlines M In inlinings before h.1 h.3 i l e in
    record { stands = r.stands; goes = r.goes; front = r.front; inlines = r.inlines }
place_inlines M In (Inlinings.inlined k inlinings) (GrammarSymbol.terminal t ∷ before) side h i l e = absurd h
place_inlines {N = N} {C = C} M In (Inlinings.inlined k inlinings) (GrammarSymbol.nonterminal x ∷ before) side h zero l e =
    let head : x ≡ label_head k = sym (head_inlined M In x k h.1.front h.1.is_front) in
    subst (λ (m : Label N C). IsPlaceOf N C M In (GrammarSymbol.nonterminal x ∷ before) 0 m) (some_same k l e) (record {
      stands = ap (λ (y : N). Some (GrammarSymbol.nonterminal y)) head;
      goes = subst In head h.0;
      front = h.1.front;
      inlines = subst (λ (y : N). Inlines M In y k h.1.front) head h.1.is_front;
    })
place_inlines M In (Inlinings.inlined k inlinings) (GrammarSymbol.nonterminal x ∷ before) side h (suc i) l e =
    let r = place_inlines M In inlinings before h.1.rest h.1.is_rest i l e in
    record { stands = r.stands; goes = r.goes; front = r.front; inlines = r.inlines }

-- at the first symbol at which they differ two records have labels, of which the one's comes first
abbrev pub IsRecordBefore : {N C : Type 0} → (Label N C → Label N C → Type 0) → List (RecordedSymbol N C) →
    List (RecordedSymbol N C) → Type 0
IsRecordBefore Less [] qs = ⊥
IsRecordBefore Less (RecordedSymbol.original p ∷ rs) [] = ⊥
IsRecordBefore Less (RecordedSymbol.original p ∷ rs) (RecordedSymbol.original q ∷ qs) = IsRecordBefore Less rs qs
IsRecordBefore Less (RecordedSymbol.original p ∷ rs) (RecordedSymbol.inlined m t ∷ qs) = ⊥
IsRecordBefore Less (RecordedSymbol.inlined l s ∷ rs) [] = ⊥
IsRecordBefore Less (RecordedSymbol.inlined l s ∷ rs) (RecordedSymbol.original q ∷ qs) = ⊥
IsRecordBefore Less (RecordedSymbol.inlined l s ∷ rs) (RecordedSymbol.inlined m t ∷ qs) =
    Less l m ⊎ ((l ≡ m) × IsRecordBefore Less rs qs)

before_behind : {N C : Type 0} (Less : Label N C → Label N C → Type 0) (front : GrammarSymbols N)
    (rs qs : List (RecordedSymbol N C)) → IsRecordBefore Less (originals front ++ rs) (originals front ++ qs) →
    IsRecordBefore Less rs qs
before_behind Less [] rs qs h = h
before_behind Less (p ∷ front) rs qs h = before_behind Less front rs qs h

-- The two differ first at a place of the nonterminal, where the one's label comes first; where they differ further on, it's at places of it too.
pub record ArePutApart (N : Type 0) (C : Type 0) (n : N) (Less : Label N C → Label N C → Type 0) (inlinings : Inlinings N C)
    (others : Inlinings N C) : Type 0 where
  pub place : ℕ
  pub label : Label N C
  pub other : Label N C
  pub label_at : inlined_at inlinings place ≡ Some label
  pub other_at : inlined_at others place ≡ Some other
  pub less : Less label other
  pub head_is : label_head label ≡ n
  pub later : (j : ℕ) (k m : Label N C) → inlined_at inlinings j ≡ Some k → inlined_at others j ≡ Some m
      → (k ≡ m) ⊎ ((label_head k ≡ n) × (place ≤ j))

-- the same, with one symbol more in front

apart_kept : {N C : Type 0} (n : N) (Less : Label N C → Label N C → Type 0) (inlinings others : Inlinings N C) →
    ArePutApart N C n Less inlinings others → ArePutApart N C n Less (Inlinings.kept inlinings) (Inlinings.kept others)
apart_kept {N = N} {C = C} n Less inlinings others a = record {
  place = suc a.place;
  label = a.label;
  other = a.other;
  label_at = a.label_at;
  other_at = a.other_at;
  less = a.less;
  head_is = a.head_is;
  later = later;
}
  where
    later : (j : ℕ) (k m : Label N C) → inlined_at (Inlinings.kept inlinings) j ≡ Some k → inlined_at (Inlinings.kept others) j ≡ Some m
        → (k ≡ m) ⊎ ((label_head k ≡ n) × (suc a.place ≤ j))
    later zero k m e f = let w : ⊥ = cc in absurd w
    later (suc j) k m e f = go (a.later j k m e f)
      where
        go : (k ≡ m) ⊎ ((label_head k ≡ n) × (a.place ≤ j)) → (k ≡ m) ⊎ ((label_head k ≡ n) × (suc a.place ≤ suc j))
        go (inl same) = inl same
        go (inr h) = inr (h.0, omega (arith, h.1))

apart_inlined : {N C : Type 0} (n : N) (Less : Label N C → Label N C → Type 0) (l r : Label N C) (inlinings others : Inlinings N C) →
    l ≡ r → ArePutApart N C n Less inlinings others → ArePutApart N C n Less (Inlinings.inlined l inlinings) (Inlinings.inlined r others)
apart_inlined {N = N} {C = C} n Less l r inlinings others same a = record {
  place = suc a.place;
  label = a.label;
  other = a.other;
  label_at = a.label_at;
  other_at = a.other_at;
  less = a.less;
  head_is = a.head_is;
  later = later;
}
  where
    later : (j : ℕ) (k m : Label N C) → inlined_at (Inlinings.inlined l inlinings) j ≡ Some k
        → inlined_at (Inlinings.inlined r others) j ≡ Some m → (k ≡ m) ⊎ ((label_head k ≡ n) × (suc a.place ≤ j))
    later zero k m e f = inl (sym (some_same l k e) ∙ same ∙ some_same r m f)
    later (suc j) k m e f = go (a.later j k m e f)
      where
        go : (k ≡ m) ⊎ ((label_head k ≡ n) × (a.place ≤ j)) → (k ≡ m) ⊎ ((label_head k ≡ n) × (suc a.place ≤ suc j))
        go (inl one) = inl one
        go (inr h) = inr (h.0, omega (arith, h.1))

-- what is put into the same choices is the same, or is of the nonterminal
put_apart : {N C : Type 0} (n : N) (inlinings made others : Inlinings N C) → Puts n inlinings made → Puts n inlinings others → (j : ℕ)
    (k m : Label N C) → inlined_at made j ≡ Some k → inlined_at others j ≡ Some m → (k ≡ m) ⊎ (label_head k ≡ n)
put_apart n inlinings made others h g j k m e f = go (put_old n inlinings made h j k e)
  where
    go : (inlined_at inlinings j ≡ Some k) ⊎ (label_head k ≡ n) → (k ≡ m) ⊎ (label_head k ≡ n)
    go (inl old) = inl (some_same k m (sym (put_stays n inlinings others g j k old) ∙ f))
    go (inr new) = inr new

apart_here : {N C : Type 0} (n : N) (Less : Label N C → Label N C → Type 0) (l r : Label N C) (inlinings made others : Inlinings N C) →
    Less l r → label_head l ≡ n → Puts n inlinings made → Puts n inlinings others →
    ArePutApart N C n Less (Inlinings.inlined l made) (Inlinings.inlined r others)
apart_here {N = N} {C = C} n Less l r inlinings made others less head h g = record {
  place = 0;
  label = l;
  other = r;
  label_at = refl;
  other_at = refl;
  less = less;
  head_is = head;
  later = later;
}
  where
    later : (j : ℕ) (k m : Label N C) → inlined_at (Inlinings.inlined l made) j ≡ Some k
        → inlined_at (Inlinings.inlined r others) j ≡ Some m → (k ≡ m) ⊎ ((label_head k ≡ n) × (0 ≤ j))
    later zero k m e f = inr (ap label_head (sym (some_same l k e)) ∙ head, omega arith)
    later (suc j) k m e f = go (put_apart n inlinings made others h g j k m e f)
      where
        go : (k ≡ m) ⊎ (label_head k ≡ n) → (k ≡ m) ⊎ ((label_head k ≡ n) × (0 ≤ suc j))
        go (inl one) = inl one
        go (inr new) = inr (new, omega arith)

rest_of : {A : Type 0} (x : A) (xs : List A) (y : A) → (x ≡ y → ⊥) → Among (x ∷ xs) y → Among xs y
rest_of x xs y apart (inl e) = absurd (apart e)
rest_of x xs y apart (inr i) = i

back_of : {A : Type 0} (xs ys : List A) (y : A) → (Among xs y → ⊥) → Among xs y ⊎ Among ys y → Among ys y
back_of xs ys y apart (inl i) = absurd (apart i)
back_of xs ys y apart (inr i) = i

-- What a record of the right side makes of choices, whatever stands behind it.
record IsPut (N : Type 0) (C : Type 0) (n : N) (inlinings : Inlinings N C) (side : GrammarSymbols N)
    (symbols : List (RecordedSymbol N C)) : Type 0 where
  made : Inlinings N C
  made_is : (others : List (RecordedSymbol N C)) → fill_inlinings inlinings (symbols ++ others) ≡ (made, others)
  puts : Puts n inlinings made
  new : Among side (GrammarSymbol.nonterminal n) → HasHead n made

-- The same of two records, of which the one comes first.
record ArePut (N : Type 0) (C : Type 0) (n : N) (Less : Label N C → Label N C → Type 0) (inlinings : Inlinings N C)
    (side : GrammarSymbols N) (rs : List (RecordedSymbol N C)) (qs : List (RecordedSymbol N C)) : Type 0 where
  one : IsPut N C n inlinings side rs
  two : IsPut N C n inlinings side qs
  apart : ArePutApart N C n Less one.made two.made

module _ {N C : Type 0} (M : BaseProductions N C) (In : N → Type 0) (n : N)
    (never : (x : N) (label : Label N C) (front : GrammarSymbols N) → In x → Inlines M In x label front → Lacks front n) where
  abbrev Records : Type 0
  Records = List (RecordedSymbol N C)

  abbrev put_original : (q p : GrammarSymbol N) (inlinings : Inlinings N C) (side rest : GrammarSymbols N) (tail : Records) →
      side ≡ p ∷ rest → (p ≡ GrammarSymbol.nonterminal n → ⊥) → IsPut N C n inlinings rest tail →
      IsPut N C n (Inlinings.kept inlinings) side (RecordedSymbol.original q ∷ tail)
  put_original q p inlinings side rest tail side_is apart r = record {
    made = Inlinings.kept r.made;
    made_is = λ others. ap (λ (z : Inlinings N C × Records). (Inlinings.kept z.0, z.1)) (r.made_is others);
    puts = r.puts;
    new = λ i. head_behind_kept n r.made
        (r.new (rest_of p rest (GrammarSymbol.nonterminal n) apart
        (subst (λ (s : GrammarSymbols N). Among s (GrammarSymbol.nonterminal n)) side_is i)));
  }

  abbrev put_inlined : (l : Label N C) (s : GrammarSymbols N) (inlinings : Inlinings N C) (side rest : GrammarSymbols N)
      (tail : Records) → label_head l ≡ n → IsPut N C n inlinings rest tail →
      IsPut N C n (Inlinings.kept inlinings) side (RecordedSymbol.inlined l s ∷ tail)
  put_inlined l s inlinings side rest tail head r = record {
    made = Inlinings.inlined l r.made;
    made_is = λ others. ap (λ (z : Inlinings N C × Records). (Inlinings.inlined l z.0, z.1)) (r.made_is others);
    puts = (head, r.puts);
    new = λ i. (0, l, refl, head);
  }

  abbrev put_label : (x : N) (label : Label N C) (inlinings : Inlinings N C) (side front rest : GrammarSymbols N)
      (symbols back : Records) → Inlines M In x label front → side ≡ front ++ rest → Lacks front n →
      symbols ≡ originals front ++ back → IsPut N C n inlinings rest back →
      IsPut N C n (Inlinings.inlined label inlinings) side symbols
  put_label x label inlinings side front rest symbols back h side_is lacks symbols_are r = record {
    made = Inlinings.inlined label r.made;
    made_is = λ others.
        ap (λ (l : Records). fill_inlinings (Inlinings.inlined label inlinings) l)
        (ap (λ (l : Records). l ++ others) symbols_are ∙ append_assoc (originals front) back others)
        ∙ ap (λ (z : Label N C × Records).
        (Inlinings.inlined z.0 (fill_inlinings inlinings z.1).0, (fill_inlinings inlinings z.1).1))
        (left_label M In label x front h (back ++ others))
        ∙ ap (λ (z : Inlinings N C × Records). (Inlinings.inlined label z.0, z.1)) (r.made_is others);
    puts = (refl, r.puts);
    new = λ i. head_behind_inlined n label r.made
        (r.new (back_of front rest (GrammarSymbol.nonterminal n) lacks
        (among_parts front rest (GrammarSymbol.nonterminal n)
        (subst (λ (s : GrammarSymbols N). Among s (GrammarSymbol.nonterminal n)) side_is i))));
  }

  put_none : (side : GrammarSymbols N) (symbols : Records) → side ≡ [] → symbols_before n symbols ≡ [] →
      IsPut N C n Inlinings.none side symbols
  put_none side [] none e = record {
    made = Inlinings.none;
    made_is = λ others. refl;
    puts = tt;
    new = λ i. absurd (subst (λ (s : GrammarSymbols N). Among s (GrammarSymbol.nonterminal n)) none i);
  }
  put_none side (RecordedSymbol.original p ∷ symbols) none e = (let f : p ∷ symbols_before n symbols ≡ [] = e in cc)
  put_none side (RecordedSymbol.inlined l s ∷ symbols) none e =
      (let f : GrammarSymbol.nonterminal n ∷ symbols_before n symbols ≡ [] = e in cc)

  put_kept : (p : GrammarSymbol N) (rest side : GrammarSymbols N) (inlinings : Inlinings N C) (symbols : Records) →
      IsRecord M In n symbols → symbols_before n symbols ≡ p ∷ rest → side ≡ p ∷ rest →
      ((tail : Records) → IsRecord M In n tail → symbols_before n tail ≡ rest → IsPut N C n inlinings rest tail) →
      IsPut N C n (Inlinings.kept inlinings) side symbols
  put_kept p rest side inlinings [] a e side_is follow = (let f : [] ≡ p ∷ rest = e in cc)
  put_kept p rest side inlinings (RecordedSymbol.original q ∷ symbols) a e side_is follow =
      let f : q ∷ symbols_before n symbols ≡ p ∷ rest = e in
      let same : q ≡ p = cc in
      let r = follow symbols a.1 (cc) in
      put_original q p inlinings side rest symbols side_is (λ g. a.0 (same ∙ g)) r
  put_kept p rest side inlinings (RecordedSymbol.inlined l s ∷ symbols) a e side_is follow =
      let f : GrammarSymbol.nonterminal n ∷ symbols_before n symbols ≡ p ∷ rest = e in
      let r = follow symbols a.1 (cc) in
      put_inlined l s inlinings side rest symbols (head_inlined M In n l s a.0) r

  -- the front of a record that goes into a label has symbols that stand as before
  front_originals : (x : N) (label : Label N C) (front : GrammarSymbols N) (symbols : Records) → In x → Inlines M In x label front →
      IsRecord M In n symbols → symbols_before n symbols ≡ front → symbols ≡ originals front
  front_originals x label front symbols i h a e =
      originals_only M In n symbols a (subst (λ (s : GrammarSymbols N). Lacks s n) (sym e) (never x label front i h))
      ∙ ap (λ (s : GrammarSymbols N). originals {N = N} {C = C} s) e

  put_all : (inlinings : Inlinings N C) (before side : GrammarSymbols N) (symbols : Records) → InlinesAll M In before inlinings side →
      IsRecord M In n symbols → symbols_before n symbols ≡ side → IsPut N C n inlinings side symbols
  put_all Inlinings.none [] side symbols h a e = put_none side symbols h (e ∙ h)
  put_all (Inlinings.kept inlinings) [] side symbols h a e = absurd h
  put_all (Inlinings.inlined label inlinings) [] side symbols h a e = absurd h
  put_all Inlinings.none (p ∷ before) side symbols h a e = absurd h
  put_all (Inlinings.kept inlinings) (p ∷ before) side symbols h a e =
      put_kept p h.1 side inlinings symbols a (e ∙ h.2) h.2 (λ tail b f. put_all inlinings before h.1 tail h.3 b f)
  put_all (Inlinings.inlined label inlinings) (GrammarSymbol.terminal t ∷ before) side symbols h a e = absurd h
  put_all (Inlinings.inlined label inlinings) (GrammarSymbol.nonterminal x ∷ before) side symbols h a e =
      let w = h.1 in
      let q = record_parts M In n w.front w.rest symbols a (e ∙ w.side_is) in
      put_label x label inlinings side w.front w.rest symbols q.back w.is_front w.side_is (never x label w.front h.0 w.is_front)
      (q.whole ∙ ap (λ (l : Records). l ++ q.back) (front_originals x label w.front q.front h.0 w.is_front q.is_front q.before_front))
      (put_all inlinings before w.rest q.back w.is_rest q.is_back q.before_back)

  module _ (Less : Label N C → Label N C → Type 0) where
    abbrev Before : Records → Records → Type 0
    Before rs qs = IsRecordBefore Less rs qs

    both_none : (side : GrammarSymbols N) (rs qs : Records) → symbols_before n rs ≡ [] → Before rs qs →
        ArePut N C n Less Inlinings.none side rs qs
    both_none side [] qs e b = absurd b
    both_none side (RecordedSymbol.original p ∷ rs) qs e b = (let f : p ∷ symbols_before n rs ≡ [] = e in cc)
    both_none side (RecordedSymbol.inlined l s ∷ rs) qs e b =
        (let f : GrammarSymbol.nonterminal n ∷ symbols_before n rs ≡ [] = e in cc)

    both_kept : (p : GrammarSymbol N) (rest side : GrammarSymbols N) (inlinings : Inlinings N C) (rs qs : Records) →
        IsRecord M In n rs → IsRecord M In n qs → symbols_before n rs ≡ p ∷ rest → symbols_before n qs ≡ p ∷ rest → side ≡ p ∷ rest →
        Before rs qs →
        ((tail : Records) → IsRecord M In n tail → symbols_before n tail ≡ rest → IsPut N C n inlinings rest tail) →
        ((xs ys : Records) → IsRecord M In n xs → IsRecord M In n ys → symbols_before n xs ≡ rest → symbols_before n ys ≡ rest →
        Before xs ys → ArePut N C n Less inlinings rest xs ys) →
        ArePut N C n Less (Inlinings.kept inlinings) side rs qs
    both_kept p rest side inlinings [] qs a c e g side_is b single follow = absurd b
    both_kept p rest side inlinings (RecordedSymbol.original q ∷ rs) [] a c e g side_is b single follow = absurd b
    both_kept p rest side inlinings (RecordedSymbol.original q ∷ rs) (RecordedSymbol.original k ∷ qs) a c e g side_is b single
        follow =
        let f : q ∷ symbols_before n rs ≡ p ∷ rest = e in
        let d : k ∷ symbols_before n qs ≡ p ∷ rest = g in
        let one : q ≡ p = cc in
        let r = follow rs qs a.1 c.1 (cc) (cc) b in
        record {
          one = put_original q p inlinings side rest rs side_is (λ z. a.0 (one ∙ z)) r.one;
          two = put_original k p inlinings side rest qs side_is (λ z. a.0 (one ∙ z)) r.two;
          apart = apart_kept n Less r.one.made r.two.made r.apart;
        }
    both_kept p rest side inlinings (RecordedSymbol.original q ∷ rs) (RecordedSymbol.inlined m t ∷ qs) a c e g side_is b single
        follow = absurd b
    both_kept p rest side inlinings (RecordedSymbol.inlined l s ∷ rs) [] a c e g side_is b single follow = absurd b
    both_kept p rest side inlinings (RecordedSymbol.inlined l s ∷ rs) (RecordedSymbol.original k ∷ qs) a c e g side_is b single
        follow = absurd b
    both_kept p rest side inlinings (RecordedSymbol.inlined l s ∷ rs) (RecordedSymbol.inlined m t ∷ qs) a c e g side_is (inl less)
        single follow =
        let f : GrammarSymbol.nonterminal n ∷ symbols_before n rs ≡ p ∷ rest = e in
        let d : GrammarSymbol.nonterminal n ∷ symbols_before n qs ≡ p ∷ rest = g in
        let x = single rs a.1 (cc) in
        let y = single qs c.1 (cc) in
        record {
          one = put_inlined l s inlinings side rest rs (head_inlined M In n l s a.0) x;
          two = put_inlined m t inlinings side rest qs (head_inlined M In n m t c.0) y;
          apart = apart_here n Less l m inlinings x.made y.made less (head_inlined M In n l s a.0) x.puts y.puts;
        }
    both_kept p rest side inlinings (RecordedSymbol.inlined l s ∷ rs) (RecordedSymbol.inlined m t ∷ qs) a c e g side_is (inr same)
        single follow =
        let f : GrammarSymbol.nonterminal n ∷ symbols_before n rs ≡ p ∷ rest = e in
        let d : GrammarSymbol.nonterminal n ∷ symbols_before n qs ≡ p ∷ rest = g in
        let r = follow rs qs a.1 c.1 (cc) (cc) same.1 in
        record {
          one = put_inlined l s inlinings side rest rs (head_inlined M In n l s a.0) r.one;
          two = put_inlined m t inlinings side rest qs (head_inlined M In n m t c.0) r.two;
          apart = apart_inlined n Less l m r.one.made r.two.made same.0 r.apart;
        }

    both_all : (inlinings : Inlinings N C) (before side : GrammarSymbols N) (rs qs : Records) → InlinesAll M In before inlinings side →
        IsRecord M In n rs → IsRecord M In n qs → symbols_before n rs ≡ side → symbols_before n qs ≡ side → Before rs qs →
        ArePut N C n Less inlinings side rs qs
    both_all Inlinings.none [] side rs qs h a c e g b = both_none side rs qs (e ∙ h) b
    both_all (Inlinings.kept inlinings) [] side rs qs h a c e g b = absurd h
    both_all (Inlinings.inlined label inlinings) [] side rs qs h a c e g b = absurd h
    both_all Inlinings.none (p ∷ before) side rs qs h a c e g b = absurd h
    both_all (Inlinings.kept inlinings) (p ∷ before) side rs qs h a c e g b =
        both_kept p h.1 side inlinings rs qs a c (e ∙ h.2) (g ∙ h.2) h.2 b
        (λ tail z f. put_all inlinings before h.1 tail h.3 z f)
        (λ xs ys u v i j z. both_all inlinings before h.1 xs ys h.3 u v i j z)
    both_all (Inlinings.inlined label inlinings) (GrammarSymbol.terminal t ∷ before) side rs qs h a c e g b = absurd h
    both_all (Inlinings.inlined label inlinings) (GrammarSymbol.nonterminal x ∷ before) side rs qs h a c e g b =
        let w = h.1 in
        let u = record_parts M In n w.front w.rest rs a (e ∙ w.side_is) in
        let v = record_parts M In n w.front w.rest qs c (g ∙ w.side_is) in
        let lacks = never x label w.front h.0 w.is_front in
        let one : rs ≡ originals w.front ++ u.back =
        u.whole ∙ ap (λ (l : Records). l ++ u.back) (front_originals x label w.front u.front h.0 w.is_front u.is_front u.before_front) in
        let two : qs ≡ originals w.front ++ v.back =
        v.whole ∙ ap (λ (l : Records). l ++ v.back) (front_originals x label w.front v.front h.0 w.is_front v.is_front v.before_front) in
        let behind = before_behind Less w.front u.back v.back
        (subst (λ (l : Records). Before l (originals w.front ++ v.back)) one (subst (λ (l : Records). Before rs l) two b)) in
        let r = both_all inlinings before w.rest u.back v.back w.is_rest u.is_back v.is_back u.before_back v.before_back behind in
        record {
          one = put_label x label inlinings side w.front w.rest rs u.back w.is_front w.side_is lacks one r.one;
          two = put_label x label inlinings side w.front w.rest qs v.back w.is_front w.side_is lacks two r.two;
          apart = apart_inlined n Less label label r.one.made r.two.made refl r.apart;
        }

  -- what is made of the choices of a label by a record that is used up

  filled_is : (inlinings : Inlinings N C) (side : GrammarSymbols N) (symbols : Records) (r : IsPut N C n inlinings side symbols) →
      (fill_inlinings inlinings symbols).0 ≡ r.made
  filled_is inlinings side symbols r =
      ap (λ (s : Records). (fill_inlinings inlinings s).0) (sym (append-none symbols))
      ∙ ap (λ (z : Inlinings N C × Records). z.0) (r.made_is [])

  -- it is put in place by place
  pub filled_puts : (inlinings : Inlinings N C) (before side : GrammarSymbols N) (symbols : List (RecordedSymbol N C)) →
      InlinesAll M In before inlinings side → IsRecord M In n symbols → symbols_before n symbols ≡ side →
      Puts n inlinings (fill_inlinings inlinings symbols).0
  filled_puts inlinings before side symbols h a e =
      let r = put_all inlinings before side symbols h a e in
      subst (Puts n inlinings) (sym (filled_is inlinings side symbols r)) r.puts

  -- and where the nonterminal stands in the right side, a label of it is put in
  pub filled_new : (inlinings : Inlinings N C) (before side : GrammarSymbols N) (symbols : List (RecordedSymbol N C)) →
      InlinesAll M In before inlinings side → IsRecord M In n symbols → symbols_before n symbols ≡ side →
      Among side (GrammarSymbol.nonterminal n) → HasHead n (fill_inlinings inlinings symbols).0
  filled_new inlinings before side symbols h a e i =
      let r = put_all inlinings before side symbols h a e in
      subst (λ (made : Inlinings N C). HasHead n made) (sym (filled_is inlinings side symbols r)) (r.new i)

  -- two records, one before the other, make choices that differ
  pub filled_apart : (Less : Label N C → Label N C → Type 0) (inlinings : Inlinings N C) (before side : GrammarSymbols N)
      (rs qs : List (RecordedSymbol N C)) → InlinesAll M In before inlinings side → IsRecord M In n rs → IsRecord M In n qs →
      symbols_before n rs ≡ side → symbols_before n qs ≡ side → IsRecordBefore Less rs qs →
      ArePutApart N C n Less (fill_inlinings inlinings rs).0 (fill_inlinings inlinings qs).0
  filled_apart Less inlinings before side rs qs h a c e g b =
      let r = both_all Less inlinings before side rs qs h a c e g b in
      subst (λ (made : Inlinings N C). ArePutApart N C n Less made (fill_inlinings inlinings qs).0)
      (sym (filled_is inlinings side rs r.one))
      (subst (λ (made : Inlinings N C). ArePutApart N C n Less r.one.made made) (sym (filled_is inlinings side qs r.two)) r.apart)
