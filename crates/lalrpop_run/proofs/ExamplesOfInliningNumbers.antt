-- Computed examples of orders of inlining over nonterminals, and of labels that have numbers: one for each production, and at each step
-- one for each label that the step makes.
use Rattle.std.proofs.Common.{◌≡◌, ◌∙◌, ◌⊎◌, ◌<◌, ◌≤◌, ◌^◌, Bool, ℕ, zero, suc, List, [], ◌∷◌, ◌++◌, Some, ap, arith, false, inl, inr, length, map}
use Rattle.std.proofs.Common.{refl, subst, sym, true}
use Rattle.std.specs.Prelude.{None, codes, eqb, slice_get, ◌&&◌, ◌+◌, ◌*◌, not, ◌||◌}
use Rattle.std.specs.Fmt.{digits}
use Rattle.std.specs.List.Sorted.{IsStrictlySortedBy}
use Rattle.std.proofs.lemmas.Bool.{and_parts, eq-eqb}
use Rattle.lalrpop_grammar_symbols.specs.Symbols.{Closed, Terminal, Text}
use Rattle.lalrpop_grammar.specs.WrittenGrammar.{Origin}
use Rattle.lalrpop_grammar_language.specs.Among.{Among}
use Rattle.lalrpop_grammar_language.specs.Enabled.{EnabledGrammar, enabled_grammar}
use Rattle.lalrpop_grammar_language.specs.Expansion.{GrammarSymbol, InExpansion, Nonterminal, Produces, RightSide}
use Rattle.lalrpop_grammar_language.specs.Inlining.{Inlines, InlinesAll}
use Rattle.lalrpop_grammar_language.specs.Labels.{Inlinings, Label}
use Rattle.lalrpop_grammar_language.proofs.AmongLemmas.{map_among}
use Rattle.lalrpop_grammar_language.proofs.PlaceLemmas.{among_map}
use Rattle.lalrpop_grammar_language.proofs.WrittenTreeLemmas.{alt, finds, grammar, id, lit, rule_of}
use Rattle.lalrpop_lr1_inline.specs.InlinedLabels.{StandOnce}
use Rattle.lalrpop_norm_theory.specs.Inlined.{IsInlined}
use Rattle.lalrpop_norm_theory.specs.Keys.{leveled_key_text}
use Rattle.lalrpop_norm_theory.specs.Productions.{IsOriginBefore}
use Rattle.lalrpop_norm_theory.proofs.ExpansionListLemmas.{all-of}
use Rattle.lalrpop_norm_theory.proofs.NamingListLemmas.{name_by, naming-is}
use Rattle.lalrpop_norm_theory.proofs.ProductionListLemmas.{is_production, listed, productions_of}
use Rattle.lalrpop_norm_theory.proofs.RowListLemmas.{reached-each}
use Rattle.lalrpop_norm_theory.proofs.UsedListLemmas.{keys-by-use}
use Rattle.lalrpop_run_theory.proofs.ExamplesOfExpansions.{L, end, inline, inlined, kept, n, place, private, rule, start, t}
use Rattle.lalrpop_run_theory.proofs.InlinedTestLemmas.{inlined_decided}
use Rattle.lalrpop_run.specs.InliningNumbers.{HandsOutTooMany, HasNumbersEnough, HaveNumbers, IsLabelAtStep}
use Rattle.lalrpop_run.specs.NonterminalOrders.{AreChosenSides, AreInlinedNamed, ChosenSide, IsNonterminalOrder, NonterminalWalk}
use Rattle.lalrpop_run.proofs.ExamplesOfInlineCycles.{straight}
use Rattle.lalrpop_run.proofs.ExamplesOfOneWord.{kept_where_unmarked}
use Rattle.lalrpop_run.proofs.ExamplesOfOneWord as word
use Rattle.lalrpop_run.proofs.NumberedListLemmas.{few_among, once_back}
use Rattle.lalrpop_run.proofs.PlainNumberLemmas.{label_listed, labels_of, plain_enough, plain_not_too_many}

-- pub S = "a": nothing is inlined, and there are numbers enough for two productions
pub word_numbers : HasNumbersEnough word.g (codes "__")
word_numbers =
    plain_enough word.g (codes "__") (start ∷ rule "S" ∷ []) refl refl word.names word.word_naming
    (let few : 2 ≤ 2 ^ 32 = omega arith in few)

-- so they are not too many
pub word_not_too_many : HandsOutTooMany word.g (codes "__") → ⊥
word_not_too_many =
    plain_not_too_many word.g (codes "__") (start ∷ rule "S" ∷ []) refl refl (let few : 2 ≤ 2 ^ 32 = omega arith in few)

-- what is listed of a nonterminal is in the order of its choices

abbrev chosen_of : Origin × RightSide → ChosenSide
chosen_of c = record { choice = c.0; side = c.1 }

abbrev IsBeforeEach : Origin → List (Origin × RightSide) → Type 0
IsBeforeEach o [] = Unit {0}
IsBeforeEach o (c ∷ cs) = IsOriginBefore o c.0 × IsBeforeEach o cs

abbrev AreRising : List (Origin × RightSide) → Type 0
AreRising [] = Unit {0}
AreRising (c ∷ cs) = IsBeforeEach c.0 cs × AreRising cs

before_at : (o : Origin) (cs : List (Origin × RightSide)) → IsBeforeEach o cs → (j : ℕ) (b : ChosenSide) →
    slice_get (map chosen_of cs) j ≡ Some b → IsOriginBefore o b.choice
before_at o [] h j b e = (let wrong : None ≡ Some b = e in cc)
before_at o (c ∷ cs) h zero b e =
    let same : chosen_of c ≡ b = (let f : Some (chosen_of c) ≡ Some b = e in cc) in
    subst (λ (d : ChosenSide). IsOriginBefore o d.choice) same h.0
before_at o (c ∷ cs) h (suc j) b e = before_at o cs h.1 j b e

rising_at : (cs : List (Origin × RightSide)) → AreRising cs → (i j : ℕ) (a b : ChosenSide) → i < j →
    slice_get (map chosen_of cs) i ≡ Some a → slice_get (map chosen_of cs) j ≡ Some b → IsOriginBefore a.choice b.choice
rising_at [] h i j a b l e f = (let wrong : None ≡ Some a = e in cc)
rising_at (c ∷ cs) h zero zero a b l e f = absurd (omega (arith, l))
rising_at (c ∷ cs) h (suc i) zero a b l e f = absurd (omega (arith, l))
rising_at (c ∷ cs) h zero (suc j) a b l e f =
    let same : chosen_of c ≡ a = (let g : Some (chosen_of c) ≡ Some a = e in cc) in
    subst (λ (d : ChosenSide). IsOriginBefore d.choice b.choice) same (before_at c.0 cs h.0 j b f)
rising_at (c ∷ cs) h (suc i) (suc j) a b l e f = rising_at cs h.1 i j a b (omega (arith, l)) e f

chosen_listed : (g : EnabledGrammar) (x : Nonterminal) → AreRising (productions_of g x) →
    AreChosenSides g x (map chosen_of (productions_of g x))
chosen_listed g x rising = record {
  each = λ o side. (
    λ h. map_among chosen_of (productions_of g x) (o, side) (listed g x o side h),
    λ i.
        let w = among_map chosen_of (productions_of g x) (record { choice = o; side = side }) i in
        is_production g x o side
        (subst (λ (c : ChosenSide). Among (productions_of g x) (c.choice, c.side)) w.2 w.1),
  );
  ordered = λ i j a b l e f. rising_at (productions_of g x) rising i j a b l e f;
}

-- the right side of a nonterminal's only choice
only_side : (g : EnabledGrammar) (x : Nonterminal) (c : Origin × RightSide) → productions_of g x ≡ c ∷ [] → (o : Origin)
    (side : RightSide) → Produces g x o side → side ≡ c.1
only_side g x c is o side h =
    go (subst (λ (l : List (Origin × RightSide)). Among l (o, side)) is (listed g x o side h))
  where
    go : Among (c ∷ []) (o, side) → side ≡ c.1
    go (inl e) = ap (λ (d : Origin × RightSide). d.1) (sym e)
    go (inr i) = absurd i

-- numbers that a test tells apart stand once

abbrev has_number : ℕ → List ℕ → Bool
has_number k [] = false
has_number k (x ∷ xs) = eqb x k || has_number k xs

abbrev all_apart : List ℕ → Bool
all_apart [] = true
all_apart (x ∷ xs) = not (has_number x xs) && all_apart xs

number_found : (k : ℕ) (xs : List ℕ) → Among xs k → has_number k xs ≡ true
number_found k [] i = absurd i
number_found k (x ∷ xs) (inl e) = ap (λ b. b || has_number k xs) (eq-eqb x k e)
number_found k (x ∷ xs) (inr i) = go (eqb x k) (number_found k xs i)
  where
    go : (b : Bool) → has_number k xs ≡ true → (b || has_number k xs) ≡ true
    go true e = refl
    go false e = e

apart_once : (xs : List ℕ) → all_apart xs ≡ true → StandOnce xs
apart_once [] e = tt
apart_once (x ∷ xs) e =
    let w = and_parts (not (has_number x xs)) (all_apart xs) e in (
      λ i. let wrong : false ≡ true = sym (ap not (number_found x xs i)) ∙ w.0 in cc,
      apart_once xs w.1,
    )

-- a number that tells the labels below apart: by the first letter of the nonterminal, the place of the choice, and what is inlined

abbrev first_letter : Text → ℕ
first_letter [] = 0
first_letter (c ∷ cs) = c

abbrev letter_of : Nonterminal → ℕ
letter_of (Nonterminal.start m) = 0
letter_of (Nonterminal.closed (Closed.call m args level)) = first_letter m
letter_of (Nonterminal.closed _) = 0

abbrev place_of : Origin → ℕ
place_of (Origin.alternative m args k) = k
place_of _ = 0

abbrev mutual
  number_of_label : L → ℕ
  number_of_label (Label.choose x o inlinings) = letter_of x + 100 * place_of o + 1000 * number_of_inlinings inlinings

  number_of_inlinings : Inlinings Nonterminal Origin → ℕ
  number_of_inlinings Inlinings.none = 0
  number_of_inlinings (Inlinings.kept inlinings) = number_of_inlinings inlinings
  number_of_inlinings (Inlinings.inlined label inlinings) = number_of_label label + 7 * number_of_inlinings inlinings

-- pub S = A A; #[inline] A = { "a", "b" }
abbrev pairs : EnabledGrammar
pairs = enabled_grammar finds [] (grammar (rule_of "S" (alt (id "A" ∷ id "A" ∷ []) ∷ [])
    ∷ private (inline ∷ []) "A" (alt (lit "a" ∷ []) ∷ alt (lit "b" ∷ []) ∷ []) ∷ []))

abbrev three : List Nonterminal
three = start ∷ rule "S" ∷ rule "A" ∷ []

abbrev names : Nonterminal → Text
names = name_by (leveled_key_text pairs) (codes "__") []

pairs_known : (x : Nonterminal) → Among three x → InExpansion pairs x
pairs_known = reached-each pairs 2 three refl

A_inlined : IsInlined pairs (rule "A")
A_inlined = (inlined_decided pairs (rule "A")).1 refl

A_names_none : AreInlinedNamed pairs (rule "A") []
A_names_none = (
  map chosen_of (productions_of pairs (rule "A")),
  chosen_listed pairs (rule "A") ((omega arith, tt), (tt, tt)),
  refl,
)

-- `A` alone is inlined
pub pairs_order : IsNonterminalOrder pairs names (rule "A" ∷ [])
unfolding IsStrictlySortedBy digits
pairs_order = record {
  firsts = rule "A" ∷ [];
  each = λ x. (first x, λ h. only x (all-of pairs three refl x h.0) h.1);
  by_name = (tt, tt);
  walk = NonterminalWalk.met_first (rule "A") NonterminalWalk.no_more NonterminalWalk.no_more;
  is_walk = (refl, λ i. i, ([], A_names_none, tt), tt);
  order_is = refl;
}
  where
    first : (x : Nonterminal) → Among (rule "A" ∷ []) x → InExpansion pairs x × IsInlined pairs x
    first x (inl e) =
        subst (λ (y : Nonterminal). InExpansion pairs y × IsInlined pairs y) e
        (pairs_known (rule "A") (inr (inr (inl refl))), A_inlined)
    first x (inr i) = absurd i

    only : (x : Nonterminal) → Among (start ∷ rule "S" ∷ rule "A" ∷ []) x → IsInlined pairs x → Among (rule "A" ∷ []) x
    only x (inl e) k = absurd (subst (IsInlined pairs) (sym e) k)
    only x (inr (inl e)) k = absurd (kept_where_unmarked pairs (rule "S") refl (subst (IsInlined pairs) (sym e) k))
    only x (inr (inr i)) k = i

-- the labels of the productions

abbrev by_start : L
by_start = Label.choose start Origin.start (kept end)

abbrev by_S : L
by_S = Label.choose (rule "S") (place "S" 0) (kept (kept end))

abbrev A_by : ℕ → L
A_by k = Label.choose (rule "A") (place "A" k) (kept end)

-- and what the step makes: both places of `A` are replaced, each by one of its productions
abbrev S_by : ℕ → ℕ → L
S_by i j = Label.choose (rule "S") (place "S" 0) (inlined (A_by i) (inlined (A_by j) end))

abbrev eight : List L
eight = by_start ∷ by_S ∷ A_by 0 ∷ A_by 1 ∷ S_by 0 0 ∷ S_by 0 1 ∷ S_by 1 0 ∷ S_by 1 1 ∷ []

abbrev HasNumber : L → Type 0
HasNumber = IsLabelAtStep pairs (rule "A" ∷ [])

start_numbered : HasNumber by_start
start_numbered = record {
  inlined = [];
  left = rule "A" ∷ [];
  order_is = refl;
  nonterminal = start;
  known = pairs_known start (inl refl);
  side = n (rule "S") ∷ [];
  produced = (refl, _, is_production pairs start Origin.start (n (rule "S") ∷ []) (inl refl), (λ i. i, [], refl, refl));
}

S_numbered : HasNumber by_S
S_numbered = record {
  inlined = [];
  left = rule "A" ∷ [];
  order_is = refl;
  nonterminal = rule "S";
  known = pairs_known (rule "S") (inr (inl refl));
  side = n (rule "A") ∷ n (rule "A") ∷ [];
  produced = (
    refl,
    _,
    is_production pairs (rule "S") (place "S" 0) (n (rule "A") ∷ n (rule "A") ∷ []) (inl refl),
    (λ i. i, n (rule "A") ∷ [], refl, (λ i. i, [], refl, refl)),
  );
}

-- the two productions of `A` as they are before the step and after it
A_first : (In : Nonterminal → Type 0) → Inlines (Produces pairs) In (rule "A") (A_by 0) (t "a" ∷ [])
A_first In = (refl, _, is_production pairs (rule "A") (place "A" 0) (t "a" ∷ []) (inl refl), (tt, [], refl, refl))

A_second : (In : Nonterminal → Type 0) → Inlines (Produces pairs) In (rule "A") (A_by 1) (t "b" ∷ [])
A_second In = (refl, _, is_production pairs (rule "A") (place "A" 1) (t "b" ∷ []) (inr (inl refl)), (tt, [], refl, refl))

A_numbered : (k : ℕ) (side : RightSide) → Inlines (Produces pairs) (λ y. Among [] y) (rule "A") (A_by k) side → HasNumber (A_by k)
A_numbered k side h = record {
  inlined = [];
  left = rule "A" ∷ [];
  order_is = refl;
  nonterminal = rule "A";
  known = pairs_known (rule "A") (inr (inr (inl refl)));
  side = side;
  produced = h;
}

both_numbered : (i j : ℕ) (front back : RightSide) →
    Inlines (Produces pairs) (λ y. Among (rule "A" ∷ []) y) (rule "A") (A_by i) front →
    Inlines (Produces pairs) (λ y. Among (rule "A" ∷ []) y) (rule "A") (A_by j) back → HasNumber (S_by i j)
both_numbered i j front back h k = record {
  inlined = rule "A" ∷ [];
  left = [];
  order_is = refl;
  nonterminal = rule "S";
  known = pairs_known (rule "S") (inr (inl refl));
  side = front ++ (back ++ []);
  produced = (
    refl,
    n (rule "A") ∷ n (rule "A") ∷ [],
    is_production pairs (rule "S") (place "S" 0) (n (rule "A") ∷ n (rule "A") ∷ []) (inl refl),
    (
      inl refl,
      record {
        front = front;
        rest = back ++ [];
        side_is = refl;
        is_front = h;
        is_rest = (inl refl, record { front = back; rest = []; side_is = refl; is_front = k; is_rest = refl });
      },
    ),
  );
}

-- four productions and the four that the step makes have a number each
pub eight_numbered : HaveNumbers pairs (rule "A" ∷ []) eight
eight_numbered = record {
  each = each;
  once = once_back number_of_label eight (apart_once (map number_of_label eight) refl);
}
  where
    each : (label : L) → Among eight label → HasNumber label
    each label (inl e) = subst HasNumber e start_numbered
    each label (inr (inl e)) = subst HasNumber e S_numbered
    each label (inr (inr (inl e))) = subst HasNumber e (A_numbered 0 (t "a" ∷ []) (A_first (λ y. Among [] y)))
    each label (inr (inr (inr (inl e)))) = subst HasNumber e (A_numbered 1 (t "b" ∷ []) (A_second (λ y. Among [] y)))
    each label (inr (inr (inr (inr (inl e))))) =
        subst HasNumber e (both_numbered 0 0 (t "a" ∷ []) (t "a" ∷ []) (A_first (λ y. Among (rule "A" ∷ []) y))
        (A_first (λ y. Among (rule "A" ∷ []) y)))
    each label (inr (inr (inr (inr (inr (inl e)))))) =
        subst HasNumber e (both_numbered 0 1 (t "a" ∷ []) (t "b" ∷ []) (A_first (λ y. Among (rule "A" ∷ []) y))
        (A_second (λ y. Among (rule "A" ∷ []) y)))
    each label (inr (inr (inr (inr (inr (inr (inl e))))))) =
        subst HasNumber e (both_numbered 1 0 (t "b" ∷ []) (t "a" ∷ []) (A_second (λ y. Among (rule "A" ∷ []) y))
        (A_first (λ y. Among (rule "A" ∷ []) y)))
    each label (inr (inr (inr (inr (inr (inr (inr (inl e)))))))) =
        subst HasNumber e (both_numbered 1 1 (t "b" ∷ []) (t "b" ∷ []) (A_second (λ y. Among (rule "A" ∷ []) y))
        (A_second (λ y. Among (rule "A" ∷ []) y)))
    each label (inr (inr (inr (inr (inr (inr (inr (inr i)))))))) = absurd i

-- no other label has one

S_is_not_A : rule "A" ≡ rule "S" → ⊥
S_is_not_A e =
    let texts : codes "A" ≡ codes "S" = cc in
    let letters : ◌≡◌ {A = ℕ} 65 83 = cc in
    omega (arith, letters)

-- where `A` is inlined and nothing else
module _ (In : Nonterminal → Type 0) (has : In (rule "A")) (only : (y : Nonterminal) → In y → rule "A" ≡ y) where
  start_inlinings : (is : Inlinings Nonterminal Origin) (side : RightSide) →
      InlinesAll (Produces pairs) In (n (rule "S") ∷ []) is side → kept end ≡ is
  start_inlinings Inlinings.none side h = absurd h
  start_inlinings (Inlinings.kept Inlinings.none) side h = refl
  start_inlinings (Inlinings.kept (Inlinings.kept is)) side h = absurd h.3
  start_inlinings (Inlinings.kept (Inlinings.inlined l is)) side h = absurd h.3
  start_inlinings (Inlinings.inlined l is) side h = absurd (S_is_not_A (only (rule "S") h.0))

  letter_inlinings : (u : Terminal) (is : Inlinings Nonterminal Origin) (side : RightSide) →
      InlinesAll (Produces pairs) In (GrammarSymbol.terminal u ∷ []) is side → kept end ≡ is
  letter_inlinings u Inlinings.none side h = absurd h
  letter_inlinings u (Inlinings.kept Inlinings.none) side h = refl
  letter_inlinings u (Inlinings.kept (Inlinings.kept is)) side h = absurd h.3
  letter_inlinings u (Inlinings.kept (Inlinings.inlined l is)) side h = absurd h.3
  letter_inlinings u (Inlinings.inlined l is) side h = absurd h

  -- the labels of `A` are those of its productions
  of_A : (l : L) (side : RightSide) → Inlines (Produces pairs) In (rule "A") l side → (A_by 0 ≡ l) ⊎ (A_by 1 ≡ l)
  of_A (Label.choose z o is) side h = go (listed pairs (rule "A") o h.1 h.2)
    where
      whole : (k : ℕ) (u : Terminal) → place "A" k ≡ o → GrammarSymbol.terminal u ∷ [] ≡ h.1 → A_by k ≡ Label.choose z o is
      whole k u choice before =
          ap (λ (y : Nonterminal). Label.choose y (place "A" k) (kept end)) (sym h.0)
          ∙ ap (λ (c : Origin). Label.choose z c (kept end)) choice
          ∙ ap (Label.choose z o) (letter_inlinings u is side
          (subst (λ (s : RightSide). InlinesAll (Produces pairs) In s is side) (sym before) h.3))

      go : Among {A = Origin × RightSide} ((place "A" 0, t "a" ∷ []) ∷ (place "A" 1, t "b" ∷ []) ∷ []) (o, h.1) →
          (A_by 0 ≡ Label.choose z o is) ⊎ (A_by 1 ≡ Label.choose z o is)
      go (inl e) =
          inl (whole 0 (Terminal.quoted (codes "a")) (ap (λ (c : Origin × RightSide). c.0) e) (ap (λ (c : Origin × RightSide). c.1) e))
      go (inr (inl e)) =
          inr (whole 1 (Terminal.quoted (codes "b")) (ap (λ (c : Origin × RightSide). c.0) e) (ap (λ (c : Origin × RightSide). c.1) e))
      go (inr (inr i)) = absurd i

  -- both places of `A` are replaced
  both_places : (is : Inlinings Nonterminal Origin) (side : RightSide) →
      InlinesAll (Produces pairs) In (n (rule "A") ∷ n (rule "A") ∷ []) is side →
      (i : ℕ) × (j : ℕ) × Among (S_by 0 0 ∷ S_by 0 1 ∷ S_by 1 0 ∷ S_by 1 1 ∷ []) (S_by i j)
      × (inlined (A_by i) (inlined (A_by j) end) ≡ is)
  both_places Inlinings.none side h = absurd h
  both_places (Inlinings.kept is) side h = absurd (h.0 has)
  both_places (Inlinings.inlined l Inlinings.none) side h = absurd h.1.is_rest
  both_places (Inlinings.inlined l (Inlinings.kept is)) side h = absurd (h.1.is_rest.0 has)
  both_places (Inlinings.inlined l (Inlinings.inlined k (Inlinings.kept is))) side h = absurd h.1.is_rest.1.is_rest
  both_places (Inlinings.inlined l (Inlinings.inlined k (Inlinings.inlined m is))) side h = absurd h.1.is_rest.1.is_rest
  both_places (Inlinings.inlined l (Inlinings.inlined k Inlinings.none)) side h =
      go (of_A l h.1.front h.1.is_front) (of_A k h.1.is_rest.1.front h.1.is_rest.1.is_front)
    where
      made : (i j : ℕ) → A_by i ≡ l → A_by j ≡ k → inlined (A_by i) (inlined (A_by j) end) ≡ inlined l (inlined k end)
      made i j e f = ap (λ (x : L). inlined x (inlined (A_by j) end)) e ∙ ap (λ (x : L). inlined l (inlined x end)) f

      go : (A_by 0 ≡ l) ⊎ (A_by 1 ≡ l) → (A_by 0 ≡ k) ⊎ (A_by 1 ≡ k) →
          (i : ℕ) × (j : ℕ) × Among (S_by 0 0 ∷ S_by 0 1 ∷ S_by 1 0 ∷ S_by 1 1 ∷ []) (S_by i j)
          × (inlined (A_by i) (inlined (A_by j) end) ≡ inlined l (inlined k end))
      go (inl e) (inl f) = (0, 0, inl refl, made 0 0 e f)
      go (inl e) (inr f) = (0, 1, inr (inl refl), made 0 1 e f)
      go (inr e) (inl f) = (1, 0, inr (inr (inl refl)), made 1 0 e f)
      go (inr e) (inr f) = (1, 1, inr (inr (inr (inl refl))), made 1 1 e f)

  after_step : (label : L) (x : Nonterminal) (side : RightSide) → Inlines (Produces pairs) In x label side → Among three x →
      Among eight label
  after_step (Label.choose z o is) x side h (inl e) =
      let produced : Produces pairs start o h.1 = subst (λ (y : Nonterminal). Produces pairs y o h.1) (sym e) h.2 in
      go (listed pairs start o h.1 produced)
    where
      go : Among {A = Origin × RightSide} ((Origin.start, n (rule "S") ∷ []) ∷ []) (o, h.1) → Among eight (Label.choose z o is)
      go (inl f) =
          inl (ap (λ (y : Nonterminal). Label.choose y Origin.start (kept end)) (e ∙ sym h.0)
          ∙ ap (λ (c : Origin). Label.choose z c (kept end)) (ap (λ (c : Origin × RightSide). c.0) f)
          ∙ ap (Label.choose z o) (start_inlinings is side
          (subst (λ (s : RightSide). InlinesAll (Produces pairs) In s is side) (sym (ap (λ (c : Origin × RightSide). c.1) f)) h.3)))
      go (inr i) = absurd i
  after_step (Label.choose z o is) x side h (inr (inl e)) =
      let produced : Produces pairs (rule "S") o h.1 = subst (λ (y : Nonterminal). Produces pairs y o h.1) (sym e) h.2 in
      go (listed pairs (rule "S") o h.1 produced)
    where
      go : Among {A = Origin × RightSide} ((place "S" 0, n (rule "A") ∷ n (rule "A") ∷ []) ∷ []) (o, h.1) →
          Among eight (Label.choose z o is)
      go (inl f) =
          let w = both_places is side
          (subst (λ (s : RightSide). InlinesAll (Produces pairs) In s is side) (sym (ap (λ (c : Origin × RightSide). c.1) f)) h.3) in
          let same : S_by w.0 w.1 ≡ Label.choose z o is =
          ap (λ (y : Nonterminal). Label.choose y (place "S" 0) (inlined (A_by w.0) (inlined (A_by w.1) end))) (e ∙ sym h.0)
          ∙ ap (λ (c : Origin). Label.choose z c (inlined (A_by w.0) (inlined (A_by w.1) end)))
          (ap (λ (c : Origin × RightSide). c.0) f)
          ∙ ap (Label.choose z o) w.3 in
          subst (λ (l : L). Among eight l) same (inr (inr (inr (inr w.2))))
      go (inr i) = absurd i
  after_step label x side h (inr (inr (inl e))) =
      go (of_A label side (subst (λ (y : Nonterminal). Inlines (Produces pairs) In y label side) (sym e) h))
    where
      go : (A_by 0 ≡ label) ⊎ (A_by 1 ≡ label) → Among eight label
      go (inl f) = inr (inr (inl f))
      go (inr f) = inr (inr (inr (inl f)))
  after_step label x side h (inr (inr (inr i))) = absurd i

eight_are_all : (label : L) → HasNumber label → Among eight label
eight_are_all label a =
    go a.inlined a.left a.order_is a.produced (all-of pairs three refl a.nonterminal a.known)
  where
    before : (x : Nonterminal) → Among (start ∷ rule "S" ∷ rule "A" ∷ []) x → Among (labels_of pairs x) label → Among eight label
    before x (inl e) i = first (subst (λ (y : Nonterminal). Among (labels_of pairs y) label) (sym e) i)
      where
        first : Among (by_start ∷ []) label → Among eight label
        first (inl f) = inl f
        first (inr j) = absurd j
    before x (inr (inl e)) i = second (subst (λ (y : Nonterminal). Among (labels_of pairs y) label) (sym e) i)
      where
        second : Among (by_S ∷ []) label → Among eight label
        second (inl f) = inr (inl f)
        second (inr j) = absurd j
    before x (inr (inr (inl e))) i = third (subst (λ (y : Nonterminal). Among (labels_of pairs y) label) (sym e) i)
      where
        third : Among (A_by 0 ∷ A_by 1 ∷ []) label → Among eight label
        third (inl f) = inr (inr (inl f))
        third (inr (inl f)) = inr (inr (inr (inl f)))
        third (inr (inr j)) = absurd j
    before x (inr (inr (inr j))) i = absurd j

    go : (done left : List Nonterminal) → rule "A" ∷ [] ≡ done ++ left →
        Inlines (Produces pairs) (Among done) a.nonterminal label a.side → Among three a.nonterminal → Among eight label
    go [] left e h i =
        before a.nonterminal i (label_listed pairs (Among []) (λ y j. j) label a.nonterminal a.side h)
    go (y ∷ done) left e h i =
        let whole : rule "A" ∷ [] ≡ y ∷ (done ++ left) = e in
        let head : rule "A" ≡ y = cc in
        let rest : [] ≡ done ++ left = cc in
        after_step (Among (y ∷ done)) (inl (sym head)) (λ z j. alone y done left head rest z j) label a.nonterminal a.side h i
      where
        alone : (y : Nonterminal) (done left : List Nonterminal) → rule "A" ≡ y → [] ≡ done ++ left → (z : Nonterminal) →
            Among (y ∷ done) z → rule "A" ≡ z
        alone y done left head rest z (inl f) = head ∙ f
        alone y [] left head rest z (inr j) = absurd j
        alone y (x ∷ done) left head rest z (inr j) = (let wrong : [] ≡ x ∷ (done ++ left) = rest in cc)

-- so eight numbers are handed out, and there are enough
pub pairs_numbers : HasNumbersEnough pairs (codes "__")
unfolding digits
pairs_numbers = record {
  name_of = names;
  naming = record {
    naming = naming-is pairs (leveled_key_text pairs) (codes "__") [] 2 three refl refl refl;
    levels = tt;
    others = [];
    in_order = keys-by-use pairs [] refl;
    numbered = tt;
  };
  order = rule "A" ∷ [];
  is_order = pairs_order;
  few = λ labels h.
      let few : length labels ≤ 8 = few_among labels eight h.once (λ l i. eight_are_all l (h.each l i)) in
      omega (arith, few);
}

-- the step replaces both places: a label in which one is kept has no number
pub one_place_kept : HasNumber (Label.choose (rule "S") (place "S" 0) (inlined (A_by 0) (kept end))) → ⊥
one_place_kept a =
    let h = a.produced in
    let x : rule "S" ≡ a.nonterminal = h.0 in
    let side : h.1 ≡ n (rule "A") ∷ n (rule "A") ∷ [] =
    only_side pairs (rule "S") (place "S" 0, n (rule "A") ∷ n (rule "A") ∷ []) refl (place "S" 0) h.1
    (subst (λ (y : Nonterminal). Produces pairs y (place "S" 0) h.1) (sym x) h.2) in
    let parts : InlinesAll (Produces pairs) (Among a.inlined) (n (rule "A") ∷ n (rule "A") ∷ []) (inlined (A_by 0) (kept end)) a.side =
    subst (λ (s : RightSide). InlinesAll (Produces pairs) (Among a.inlined) s (inlined (A_by 0) (kept end)) a.side) side h.3 in
    parts.1.is_rest.0 parts.0

-- pub S = A; #[inline] A = B; #[inline] B = "b": `A` names `B`, which is inlined first

abbrev four : List Nonterminal
four = start ∷ rule "S" ∷ rule "A" ∷ rule "B" ∷ []

abbrev straight_names : Nonterminal → Text
straight_names = name_by (leveled_key_text straight) (codes "__") []

straight_known : (x : Nonterminal) → Among four x → InExpansion straight x
straight_known = reached-each straight 3 four refl

straight_A : AreInlinedNamed straight (rule "A") (rule "B" ∷ [])
straight_A = (map chosen_of (productions_of straight (rule "A")), chosen_listed straight (rule "A") (tt, tt), refl)

straight_B : AreInlinedNamed straight (rule "B") []
straight_B = (map chosen_of (productions_of straight (rule "B")), chosen_listed straight (rule "B") (tt, tt), refl)

pub straight_order : IsNonterminalOrder straight straight_names (rule "B" ∷ rule "A" ∷ [])
unfolding IsStrictlySortedBy digits
straight_order = record {
  firsts = rule "A" ∷ rule "B" ∷ [];
  each = λ x. (first x, λ h. only x (all-of straight four refl x h.0) h.1);
  by_name = ((refl, tt), (tt, tt));
  walk = NonterminalWalk.met_first (rule "A")
      (NonterminalWalk.met_first (rule "B") NonterminalWalk.no_more NonterminalWalk.no_more)
      (NonterminalWalk.met_before NonterminalWalk.no_more);
  is_walk = (
    refl,
    λ i. i,
    (rule "B" ∷ [], straight_A, (refl, λ i. i, ([], straight_B, tt), tt)),
    (inl refl, tt),
  );
  order_is = refl;
}
  where
    first : (x : Nonterminal) → Among (rule "A" ∷ rule "B" ∷ []) x → InExpansion straight x × IsInlined straight x
    first x (inl e) =
        subst (λ (y : Nonterminal). InExpansion straight y × IsInlined straight y) e
        (straight_known (rule "A") (inr (inr (inl refl))), (inlined_decided straight (rule "A")).1 refl)
    first x (inr (inl e)) =
        subst (λ (y : Nonterminal). InExpansion straight y × IsInlined straight y) e
        (straight_known (rule "B") (inr (inr (inr (inl refl)))), (inlined_decided straight (rule "B")).1 refl)
    first x (inr (inr i)) = absurd i

    only : (x : Nonterminal) → Among (start ∷ rule "S" ∷ rule "A" ∷ rule "B" ∷ []) x → IsInlined straight x →
        Among (rule "A" ∷ rule "B" ∷ []) x
    only x (inl e) k = absurd (subst (IsInlined straight) (sym e) k)
    only x (inr (inl e)) k = absurd (kept_where_unmarked straight (rule "S") refl (subst (IsInlined straight) (sym e) k))
    only x (inr (inr i)) k = i

-- so `A` is never inlined with `B` kept in it, and such a label has no number
pub kept_inside : IsLabelAtStep straight (rule "B" ∷ rule "A" ∷ [])
    (Label.choose (rule "S") (place "S" 0) (inlined (Label.choose (rule "A") (place "A" 0) (kept end)) end)) → ⊥
kept_inside a =
    let h = a.produced in
    let x : rule "S" ≡ a.nonterminal = h.0 in
    let side : h.1 ≡ n (rule "A") ∷ [] =
    only_side straight (rule "S") (place "S" 0, n (rule "A") ∷ []) refl (place "S" 0) h.1
    (subst (λ (y : Nonterminal). Produces straight y (place "S" 0) h.1) (sym x) h.2) in
    let parts : InlinesAll (Produces straight) (Among a.inlined) (n (rule "A") ∷ [])
    (inlined (Label.choose (rule "A") (place "A" 0) (kept end)) end) a.side =
    subst (λ (s : RightSide). InlinesAll (Produces straight) (Among a.inlined) s
    (inlined (Label.choose (rule "A") (place "A" 0) (kept end)) end) a.side) side h.3 in
    let f = parts.1.is_front in
    let inside : f.1 ≡ n (rule "B") ∷ [] =
    only_side straight (rule "A") (place "A" 0, n (rule "B") ∷ []) refl (place "A" 0) f.1 f.2 in
    let rest : InlinesAll (Produces straight) (Among a.inlined) (n (rule "B") ∷ []) (kept end) parts.1.front =
    subst (λ (s : RightSide). InlinesAll (Produces straight) (Among a.inlined) s (kept end) parts.1.front) inside f.3 in
    rest.0 (first_there a.inlined a.left a.order_is parts.0)
  where
    first_there : (done left : List Nonterminal) → rule "B" ∷ rule "A" ∷ [] ≡ done ++ left → Among done (rule "A") →
        Among done (rule "B")
    first_there [] left e i = absurd i
    first_there (y ∷ done) left e i =
        let whole : rule "B" ∷ rule "A" ∷ [] ≡ y ∷ (done ++ left) = e in
        let head : rule "B" ≡ y = cc in
        inl (sym head)
