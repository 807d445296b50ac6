-- Each number that inlining hands out has a label of its own, and each label of a step has one of these numbers: for how many there are.
use Rattle.std.proofs.Common.{◌≡◌, ◌∙◌, ◌+◌, ◌<◌, ◌≤◌, ◌⊎◌, Bool, ℕ, List, [], ◌∷◌, ◌++◌, ap, append_assoc, arith, false}
use Rattle.std.proofs.Common.{inl, inr, length, map, refl, subst, sym, true}
use Rattle.std.specs.Prelude.{◌||◌, if◌then◌else◌}
use Rattle.std.specs.List.{list_any}
use Rattle.std.specs.Str.{bytes_eq}
use Rattle.std.proofs.lemmas.Bool.{cases_lt}
use Rattle.lalrpop_grammar_symbols.specs.Symbols.{Text}
use Rattle.lalrpop_grammar_symbols.specs.declared.names.NonterminalString.{NonterminalString}
use Rattle.lalrpop_grammar_language.specs.Among.{Among}
use Rattle.lalrpop_grammar_language.specs.Expansion.{GrammarSymbol}
use Rattle.lalrpop_grammar_language.specs.Inlining.{HaveOneSide, Inlines, InlinesAll, IsNotInlined}
use Rattle.lalrpop_grammar_language.specs.Labels.{BaseProductions, GrammarSymbols, Inlinings, Label}
use Rattle.lalrpop_grammar_language.proofs.AmongLemmas.{among_flat_map}
use Rattle.lalrpop_grammar_language.proofs.OrderLemmas.{among_parts}
use Rattle.lalrpop_grammar_language.proofs.PlaceLemmas.{among_map}
use Rattle.lalrpop_grammar_language.proofs.StepLemmas.{among_left, among_right}
use Rattle.lalrpop_grammar_language.proofs.StepOnceLemmas.{append-none}
use Rattle.lalrpop_grammar_repr.specs.declared.action.InlinedSymbol.{InlinedSymbol}
use Rattle.lalrpop_grammar_repr.specs.declared.production.NonterminalData.{NonterminalData}
use Rattle.lalrpop_grammar_repr.specs.declared.production.Production.{Production}
use Rattle.lalrpop_grammar_repr.specs.declared.production.Symbol.{Symbol}
use Rattle.lalrpop_grammar_repr.specs.declared.production.Symbol.TheVariants as symbols
use Rattle.lalrpop_lr1_inline.specs.InlinedLabels.{production_actions}
use Rattle.lalrpop_lr1_inline.specs.InlinedNames.{NonterminalEntries, name_of_text}
use Rattle.lalrpop_lr1_inline.specs.InliningSteps.{all_records_after, data_after, entries_after, is_place, numbers_after}
use Rattle.lalrpop_lr1_inline.specs.InliningSteps.{production_of_record, productions_after, productions_in_place, productions_named}
use Rattle.lalrpop_lr1_inline.specs.InliningSteps.{productions_of_records, records_after, records_in_place, records_of}
use Rattle.lalrpop_lr1_inline.specs.NamedProductions.{ProducesByAction, side_by_names}
use Rattle.lalrpop_lr1_inline.proofs.GivenLabelLemmas.{named_stands}
use Rattle.lalrpop_lr1_inline.proofs.MadeLemmas.{count_on}
use Rattle.lalrpop_lr1_inline.proofs.SmallerLemmas.{entries_of_all, first_or_later}
use Rattle.lalrpop_lr1_inline.proofs.StepRuleLemmas.{all_count_on}
use Rattle.lalrpop_lr1_inline.proofs.StepsLemmas.{numbers_grow, same_bytes}
use Rattle.lalrpop_run_prepare.proofs.InlinedEntryLemmas.{AreSorted, named_entry, stands_named}
use Rattle.lalrpop_run_prepare.proofs.InlinedExpansionLemmas.{once_same}
use Rattle.lalrpop_run.proofs.NumberedLabelLemmas.{AreEntriesAt, entries_by, entries_by-append, numbers_after-append, sorted_on}

neither : {A B : Type 0} → (A → ⊥) → (B → ⊥) → A ⊎ B → ⊥
neither f g (inl a) = f a
neither f g (inr b) = g b

-- right sides of labels

mutual
  none_in_all : {N C : Type 0} (M : BaseProductions N C) (In : N → Type 0) (inlinings : Inlinings N C) (before side : GrammarSymbols N) →
      InlinesAll M In before inlinings side → (y : N) → Among side (GrammarSymbol.nonterminal y) → In y → ⊥
  none_in_all M In Inlinings.none [] side h y i m = subst (λ l. Among l (GrammarSymbol.nonterminal y)) h i
  none_in_all M In (Inlinings.kept inlinings) [] side h y i m = absurd h
  none_in_all M In (Inlinings.inlined label inlinings) [] side h y i m = absurd h
  none_in_all M In Inlinings.none (p ∷ before) side h y i m = absurd h
  none_in_all M In (Inlinings.kept inlinings) (p ∷ before) side h y i m =
      neither (λ (e : p ≡ GrammarSymbol.nonterminal y). subst (λ q. IsNotInlined In q) e h.0 m)
      (λ j. none_in_all M In inlinings before h.1 h.3 y j m)
      (subst (λ l. Among l (GrammarSymbol.nonterminal y)) h.2 i)
  none_in_all M In (Inlinings.inlined label inlinings) (GrammarSymbol.terminal t ∷ before) side h y i m = absurd h
  none_in_all M In (Inlinings.inlined label inlinings) (GrammarSymbol.nonterminal x ∷ before) side h y i m =
      neither (λ j. none_in M In label x h.1.front h.1.is_front y j m)
      (λ j. none_in_all M In inlinings before h.1.rest h.1.is_rest y j m)
      (among_parts h.1.front h.1.rest (GrammarSymbol.nonterminal y)
      (subst (λ l. Among l (GrammarSymbol.nonterminal y)) h.1.side_is i))

  -- no inlined nonterminal is left on a right side
  none_in : {N C : Type 0} (M : BaseProductions N C) (In : N → Type 0) (label : Label N C) (x : N) (side : GrammarSymbols N) →
      Inlines M In x label side → (y : N) → Among side (GrammarSymbol.nonterminal y) → In y → ⊥
  none_in M In (Label.choose z c inlinings) x side h y i m = none_in_all M In inlinings h.1 side h.3 y i m

mutual
  alike_all : {N C : Type 0} (M : BaseProductions N C) (In Other : N → Type 0) → HaveOneSide M → (inlinings : Inlinings N C)
      (before s t : GrammarSymbols N) → InlinesAll M In before inlinings s → InlinesAll M Other before inlinings t → s ≡ t
  alike_all M In Other one Inlinings.none [] s t g h = g ∙ sym h
  alike_all M In Other one (Inlinings.kept inlinings) [] s t g h = absurd h
  alike_all M In Other one (Inlinings.inlined label inlinings) [] s t g h = absurd h
  alike_all M In Other one Inlinings.none (p ∷ before) s t g h = absurd h
  alike_all M In Other one (Inlinings.kept inlinings) (p ∷ before) s t g h =
      g.2 ∙ ap (λ l. p ∷ l) (alike_all M In Other one inlinings before g.1 h.1 g.3 h.3) ∙ sym h.2
  alike_all M In Other one (Inlinings.inlined label inlinings) (GrammarSymbol.terminal u ∷ before) s t g h = absurd h
  alike_all M In Other one (Inlinings.inlined label inlinings) (GrammarSymbol.nonterminal x ∷ before) s t g h =
      let v = g.1 in
      let w = h.1 in
      v.side_is ∙ ap (λ l. l ++ v.rest) (alike_sides M In Other one label x v.front w.front v.is_front w.is_front)
      ∙ ap (λ l. w.front ++ l) (alike_all M In Other one inlinings before v.rest w.rest v.is_rest w.is_rest) ∙ sym w.side_is

  -- a label has one right side, whatever else is inlined
  alike_sides : {N C : Type 0} (M : BaseProductions N C) (In Other : N → Type 0) → HaveOneSide M → (label : Label N C) (x : N)
      (s t : GrammarSymbols N) → Inlines M In x label s → Inlines M Other x label t → s ≡ t
  alike_sides M In Other one (Label.choose y c inlinings) x s t g h =
      let same : g.1 ≡ h.1 = one x c g.1 h.1 g.2 h.2 in
      alike_all M In Other one inlinings h.1 s t (subst (λ b. InlinesAll M In b inlinings s) same g.3) h.3

-- one label has one nonterminal
one_root : {N C : Type 0} (M : BaseProductions N C) (In Other : N → Type 0) (label : Label N C) (x y : N) (s t : GrammarSymbols N) →
    Inlines M In x label s → Inlines M Other y label t → x ≡ y
one_root M In Other (Label.choose z c inlinings) x y s t g h = sym g.0 ∙ h.0

-- numbers of what a step makes

-- one of the productions has the number
record HaveNumber (qs : List Production) (i : ℕ) : Type 0 where
  production : Production
  stands : Among qs production
  number_is : production.action.0 ≡ i

module _ (n : Text) (ps : List Production) where
  records_number : (q : Production) (rs : List (List InlinedSymbol)) (k i : ℕ) → k ≤ i → i < k + length rs →
      HaveNumber (productions_of_records q rs k) i
  records_number q [] k i l m = absurd (omega (arith, l, m))
  records_number q (r ∷ rs) k i l m =
      go (first_or_later k i l) (λ far. records_number q rs (k + 1) i far (omega (arith, m)))
    where
      go : (i ≡ k) ⊎ (k + 1 ≤ i) → (k + 1 ≤ i → HaveNumber (productions_of_records q rs (k + 1)) i) →
          HaveNumber (productions_of_records q (r ∷ rs) k) i
      go (inl e) later = record { production = production_of_record q r k; stands = inl refl; number_is = sym e }
      go (inr far) later =
          let w = later far in
          record { production = w.production; stands = inr w.stands; number_is = w.number_is }

  place_number : (q : Production) (k i : ℕ) → k ≤ i → i < k + length (records_in_place n ps q) →
      HaveNumber (productions_in_place n ps q k) i
  place_number q k i l = go (list_any (is_place n) q.symbols)
    where
      go : (b : Bool) → i < k + length (if b then records_of n ps q.symbols else []) →
          HaveNumber (if b then productions_of_records q (records_of n ps q.symbols) k else q ∷ []) i
      go true m = records_number q (records_of n ps q.symbols) k i l m
      go false m = absurd (omega (arith, l, m))

  sides_number : (qs : List Production) (k i : ℕ) → k ≤ i → i < k + length (records_after n ps qs) →
      HaveNumber (productions_after n ps qs k) i
  sides_number [] k i l m = absurd (omega (arith, l, m))
  sides_number (q ∷ qs) k i l m =
      let many = count_on n ps (q ∷ qs) qs q refl in
      go (cases_lt i (k + length (records_in_place n ps q)))
      (λ far. sides_number qs (k + length (records_in_place n ps q)) i far (omega (arith, many, m)))
    where
      go : (i < k + length (records_in_place n ps q)) ⊎ (k + length (records_in_place n ps q) ≤ i) →
          (k + length (records_in_place n ps q) ≤ i →
          HaveNumber (productions_after n ps qs (k + length (records_in_place n ps q))) i) →
          HaveNumber (productions_after n ps (q ∷ qs) k) i
      go (inl near) later =
          let w = place_number q k i l near in
          record {
            production = w.production;
            stands = among_left (productions_in_place n ps q k)
                (productions_after n ps qs (k + length (records_in_place n ps q))) w.production w.stands;
            number_is = w.number_is;
          }
      go (inr far) later =
          let w = later far in
          record {
            production = w.production;
            stands = among_right (productions_in_place n ps q k)
                (productions_after n ps qs (k + length (records_in_place n ps q))) w.production w.stands;
            number_is = w.number_is;
          }

  -- an entry has it
  record HasNumberIn (es : NonterminalEntries) (i : ℕ) : Type 0 where
    entry : NonterminalString × NonterminalData
    there : Among es entry
    numbered : HaveNumber entry.1.productions i

  entries_number : (es : NonterminalEntries) (k i : ℕ) → k ≤ i → i < k + length (all_records_after n ps es) →
      HasNumberIn (entries_after n ps es k) i
  entries_number [] k i l m = absurd (omega (arith, l, m))
  entries_number (e ∷ es) k i l m =
      let many = all_count_on n ps (e ∷ es) es e refl in
      go (cases_lt i (k + length (records_after n ps e.1.productions)))
      (λ far. entries_number es (k + length (records_after n ps e.1.productions)) i far (omega (arith, many, m)))
    where
      go : (i < k + length (records_after n ps e.1.productions)) ⊎ (k + length (records_after n ps e.1.productions) ≤ i) →
          (k + length (records_after n ps e.1.productions) ≤ i →
          HasNumberIn (entries_after n ps es (k + length (records_after n ps e.1.productions))) i) →
          HasNumberIn (entries_after n ps (e ∷ es) k) i
      go (inl near) later = record {
        entry = (e.0, data_after e.1 (productions_after n ps e.1.productions k));
        there = inl refl;
        numbered = sides_number e.1.productions k i l near;
      }
      go (inr far) later =
          let w = later far in
          record { entry = w.entry; there = inr w.there; numbered = w.numbered }

  -- what a step leaves

  place_keeps : (q : Production) (k : ℕ) → list_any (is_place n) q.symbols ≡ false → Among (productions_in_place n ps q k) q
  place_keeps q k f =
      subst (λ (b : Bool). Among (if b then productions_of_records q (records_of n ps q.symbols) k else q ∷ []) q) (sym f) (inl refl)

  after_keeps : (qs : List Production) (k : ℕ) (p : Production) → Among qs p → list_any (is_place n) p.symbols ≡ false →
      Among (productions_after n ps qs k) p
  after_keeps [] k p i f = absurd i
  after_keeps (q ∷ qs) k p (inl e) f =
      among_left (productions_in_place n ps q k) (productions_after n ps qs (k + length (records_in_place n ps q))) p
      (subst (λ (x : Production). Among (productions_in_place n ps q k) x) e
      (place_keeps q k (ap (λ (x : Production). list_any (is_place n) x.symbols) e ∙ f)))
  after_keeps (q ∷ qs) k p (inr i) f =
      among_right (productions_in_place n ps q k) (productions_after n ps qs (k + length (records_in_place n ps q))) p
      (after_keeps qs (k + length (records_in_place n ps q)) p i f)

  record IsKept (es : NonterminalEntries) (k : ℕ) (name : NonterminalString) (p : Production) : Type 0 where
    entry : NonterminalString × NonterminalData
    there : Among (entries_after n ps es k) entry
    name_is : entry.0 ≡ name
    stands : Among entry.1.productions p

  entries_keep : (es : NonterminalEntries) (k : ℕ) (e : NonterminalString × NonterminalData) (p : Production) → Among es e →
      Among e.1.productions p → list_any (is_place n) p.symbols ≡ false → IsKept es k e.0 p
  entries_keep [] k e p i j f = absurd i
  entries_keep (d ∷ es) k e p (inl same) j f = record {
    entry = (d.0, data_after d.1 (productions_after n ps d.1.productions k));
    there = inl refl;
    name_is = ap (λ (z : NonterminalString × NonterminalData). z.0) same;
    stands = after_keeps d.1.productions k p
        (subst (λ (z : NonterminalString × NonterminalData). Among z.1.productions p) (sym same) j) f;
  }
  entries_keep (d ∷ es) k e p (inr i) j f =
      let w = entries_keep es (k + length (records_after n ps d.1.productions)) e p i j f in
      record { entry = w.entry; there = inr w.there; name_is = w.name_is; stands = w.stands }

  named_keeps : (es : NonterminalEntries) → AreSorted es → (k : ℕ) (x : Text) (p : Production) → Among (productions_named es x) p →
      list_any (is_place n) p.symbols ≡ false → Among (productions_named (entries_after n ps es k) x) p
  named_keeps es sorted k x p i f =
      let d = named_entry es x p i in
      let w = entries_keep es k (name_of_text x, d.0) p d.1 d.2 f in
      subst (λ (m : NonterminalString). Among (productions_named (entries_after n ps es k) m.0) p) w.name_is
      (stands_named (entries_after n ps es k) (sorted_on n ps es k sorted) w.entry p w.there w.stands)

-- a nonterminal that has a place stands on the right side
any_place : (n : Text) (side : List Symbol) → list_any (is_place n) side ≡ true →
    Among (side_by_names side) (GrammarSymbol.nonterminal n)
any_place n [] e = (let wrong : false ≡ true = e in cc)
any_place n (symbols.Terminal t ∷ side) e = inr (any_place n side e)
any_place n (symbols.Nonterminal m ∷ side) e = go (bytes_eq m.0 n) refl e (λ f. any_place n side f)
  where
    go : (b : Bool) → bytes_eq m.0 n ≡ b → (b || list_any (is_place n) side) ≡ true →
        (list_any (is_place n) side ≡ true → Among (side_by_names side) (GrammarSymbol.nonterminal n)) →
        Among (GrammarSymbol.nonterminal m.0 ∷ side_by_names side) (GrammarSymbol.nonterminal n)
    go true f h later = inl (ap GrammarSymbol.nonterminal (same_bytes m.0 n f))
    go false f h later = inr (later h)

no_place : (n : Text) (side : List Symbol) → (Among (side_by_names side) (GrammarSymbol.nonterminal n) → ⊥) →
    list_any (is_place n) side ≡ false
no_place n side none = go (list_any (is_place n) side) refl
  where
    go : (b : Bool) → list_any (is_place n) side ≡ b → b ≡ false
    go true e = absurd (none (any_place n side e))
    go false e = refl

-- lists

-- of two fronts of one list, the one goes on to the other
two_fronts : {A : Type 0} (f b g c : List A) → f ++ b ≡ g ++ c →
    ((d : List A) × (g ≡ f ++ d) × (b ≡ d ++ c)) ⊎ ((d : List A) × (f ≡ g ++ d) × (c ≡ d ++ b))
two_fronts [] b g c e = inl (g, refl, e)
two_fronts (x ∷ f) b [] c e = inr (x ∷ f, refl, sym e)
two_fronts {A} (x ∷ f) b (y ∷ g) c e =
    let whole : x ∷ (f ++ b) ≡ y ∷ (g ++ c) = e in
    let head : x ≡ y = cc in
    let rest : f ++ b ≡ g ++ c = cc in
    go head (two_fronts f b g c rest)
  where
    go : x ≡ y → ((d : List A) × (g ≡ f ++ d) × (b ≡ d ++ c)) ⊎ ((d : List A) × (f ≡ g ++ d) × (c ≡ d ++ b)) →
        ((d : List A) × (y ∷ g ≡ x ∷ (f ++ d)) × (b ≡ d ++ c)) ⊎ ((d : List A) × (x ∷ f ≡ y ∷ (g ++ d)) × (c ≡ d ++ b))
    go head (inl w) = inl (w.0, ap (λ z. z ∷ g) (sym head) ∙ ap (λ l. x ∷ l) w.1, w.2)
    go head (inr w) = inr (w.0, ap (λ z. z ∷ f) head ∙ ap (λ l. y ∷ l) w.1, w.2)

module _ (ds : NonterminalEntries) (order : List Text) (least : ℕ) (lab : ℕ → Label Text ℕ) (one : HaveOneSide (ProducesByAction ds))
    (reached : (f b : List Text) → order ≡ f ++ b → AreEntriesAt ds lab f (entries_by f ds least) (numbers_after f ds least)) where
  abbrev Produced : Text → ℕ → GrammarSymbols Text → Type 0
  Produced = ProducesByAction ds

  -- The number is that of a production after some steps.
  pub record IsNumberAtStep (i : ℕ) : Type 0 where
    pub front : List Text
    pub back : List Text
    pub order_is : order ≡ front ++ back
    pub name : Text
    pub production : Production
    pub stands : Among (productions_named (entries_by front ds least) name) production
    pub number_is : production.action.0 ≡ i

  -- so it has a label of that step
  pub number_sound : (i : ℕ) (a : IsNumberAtStep i) →
      Inlines (ProducesByAction ds) (λ x. Among a.front x) a.name (lab i) (side_by_names a.production.symbols)
  number_sound i a =
      subst (λ (k : ℕ). Inlines (ProducesByAction ds) (λ x. Among a.front x) a.name (lab k) (side_by_names a.production.symbols))
      a.number_is ((reached a.front a.back a.order_is).are.sound a.name a.production a.stands)

  -- each number that is handed out is one
  pub numbers_from : (ns front : List Text) → order ≡ front ++ ns → (i : ℕ) → numbers_after front ds least ≤ i →
      i < numbers_after order ds least → IsNumberAtStep i
  numbers_from [] front e i l m =
      let same : numbers_after order ds least ≡ numbers_after front ds least =
      ap (λ (o : List Text). numbers_after o ds least) (e ∙ append-none front) in
      absurd (omega (arith, same, l, m))
  numbers_from (n ∷ ns) front e i l m =
      let mid = entries_by front ds least in
      let count = numbers_after front ds least in
      let step : numbers_after (front ++ n ∷ []) ds least ≡ count + length (all_records_after n (productions_named mid n) mid) =
      numbers_after-append front (n ∷ []) ds least in
      let split : order ≡ (front ++ n ∷ []) ++ ns = e ∙ sym (append_assoc front (n ∷ []) ns) in
      go split (cases_lt i (count + length (all_records_after n (productions_named mid n) mid)))
      (λ far. numbers_from ns (front ++ n ∷ []) split i (omega (arith, step, far)) m)
    where
      go : order ≡ (front ++ n ∷ []) ++ ns →
          (i < numbers_after front ds least
          + length (all_records_after n (productions_named (entries_by front ds least) n) (entries_by front ds least)))
          ⊎ (numbers_after front ds least
          + length (all_records_after n (productions_named (entries_by front ds least) n) (entries_by front ds least)) ≤ i) →
          (numbers_after front ds least
          + length (all_records_after n (productions_named (entries_by front ds least) n) (entries_by front ds least)) ≤ i →
          IsNumberAtStep i) → IsNumberAtStep i
      go split (inl near) later =
          let mid = entries_by front ds least in
          let ps = productions_named mid n in
          let w = entries_number n ps mid (numbers_after front ds least) i l near in
          let next : entries_by (front ++ n ∷ []) ds least ≡ entries_after n ps mid (numbers_after front ds least) =
          entries_by-append front (n ∷ []) ds least in
          let sorted = sorted_on n ps mid (numbers_after front ds least) (reached front (n ∷ ns) e).sorted in
          record {
            front = front ++ n ∷ [];
            back = ns;
            order_is = split;
            name = w.entry.0.0;
            production = w.numbered.production;
            stands = subst (λ (es : NonterminalEntries). Among (productions_named es w.entry.0.0) w.numbered.production) (sym next)
                (stands_named (entries_after n ps mid (numbers_after front ds least)) sorted w.entry w.numbered.production w.there
                w.numbered.stands);
            number_is = w.numbered.number_is;
          }
      go split (inr far) later = later far

  -- so is the number of a given action
  pub given_number : AreSorted ds → (i : ℕ) → Among (production_actions ds) i → IsNumberAtStep i
  given_number sorted i h =
      let a = among_flat_map (λ (e : NonterminalString × NonterminalData). map (λ (p : Production). p.action.0) e.1.productions) ds i h in
      let b = among_map (λ (p : Production). p.action.0) a.0.1.productions i a.2 in
      record {
        front = [];
        back = order;
        order_is = refl;
        name = a.0.0.0;
        production = b.0;
        stands = stands_named ds sorted a.0 b.0 a.1 b.1;
        number_is = b.2;
      }

  -- each label of a step has such a number
  pub label_number : (f b : List Text) → order ≡ f ++ b → (x : Text) (label : Label Text ℕ) (side : GrammarSymbols Text) →
      Inlines (ProducesByAction ds) (λ y. Among f y) x label side →
      (i : ℕ) × (i < numbers_after order ds least) × (lab i ≡ label)
  label_number f b e x label side h =
      let here = reached f b e in
      let q = here.are.all x label side h in
      let w = named_stands (entries_by f ds least) x q.production q.stands in
      let near : q.production.action.0 < numbers_after f ds least =
      entries_of_all (numbers_after f ds least) (entries_by f ds least) here.below w.0 w.1 q.production w.2 in
      let more : numbers_after f ds least ≤ numbers_after b (entries_by f ds least) (numbers_after f ds least) =
      numbers_grow b (entries_by f ds least) (numbers_after f ds least) in
      let whole : numbers_after order ds least ≡ numbers_after b (entries_by f ds least) (numbers_after f ds least) =
      ap (λ (o : List Text). numbers_after o ds least) e ∙ numbers_after-append f b ds least in
      (q.production.action.0, omega (arith, near, more, whole), q.label_is)

  -- a production stays while its label is one of the steps
  stays : (In : Text → Type 0) (x : Text) (p : Production) (side : GrammarSymbols Text) →
      Inlines (ProducesByAction ds) In x (lab p.action.0) side → (g f b : List Text) → order ≡ f ++ (g ++ b) →
      ((y : Text) → Among g y → In y) → Among (productions_named (entries_by f ds least) x) p →
      Among (productions_named (entries_by (f ++ g) ds least) x) p
  stays In x p side h [] f b e inside i =
      subst (λ (l : List Text). Among (productions_named (entries_by l ds least) x) p) (sym (append-none f)) i
  stays In x p side h (n ∷ g) f b e inside i =
      let here = reached f (n ∷ (g ++ b)) e in
      let mid = entries_by f ds least in
      let sides : side_by_names p.symbols ≡ side =
      alike_sides (ProducesByAction ds) (λ y. Among f y) In one (lab p.action.0) x (side_by_names p.symbols) side
      (here.are.sound x p i) h in
      let free : list_any (is_place n) p.symbols ≡ false =
      no_place n p.symbols (λ j. none_in (ProducesByAction ds) In (lab p.action.0) x side h n
      (subst (λ (l : GrammarSymbols Text). Among l (GrammarSymbol.nonterminal n)) sides j) (inside n (inl refl))) in
      let next : entries_by (f ++ n ∷ []) ds least ≡ entries_after n (productions_named mid n) mid (numbers_after f ds least) =
      entries_by-append f (n ∷ []) ds least in
      let kept : Among (productions_named (entries_by (f ++ n ∷ []) ds least) x) p =
      subst (λ (es : NonterminalEntries). Among (productions_named es x) p) (sym next)
      (named_keeps n (productions_named mid n) mid here.sorted (numbers_after f ds least) x p i free) in
      subst (λ (l : List Text). Among (productions_named (entries_by l ds least) x) p) (append_assoc f (n ∷ []) g)
      (stays In x p side h g (f ++ n ∷ []) b (e ∙ sym (append_assoc f (n ∷ []) (g ++ b))) (λ y j. inside y (inr j)) kept)

  one_way : (i j : ℕ) (a : IsNumberAtStep i) (b : IsNumberAtStep j) (d : List Text) → b.front ≡ a.front ++ d → lab i ≡ lab j → i ≡ j
  one_way i j a b d far e =
      let p = a.production in
      let q = b.production in
      let labels : lab p.action.0 ≡ lab q.action.0 = ap lab a.number_is ∙ e ∙ ap lab (sym b.number_is) in
      let names : b.name ≡ a.name =
      one_root Produced (λ y. Among b.front y) (λ y. Among a.front y) (lab j) b.name a.name (side_by_names q.symbols) (side_by_names p.symbols)
      (number_sound j b)
      (subst (λ (l : Label Text ℕ). Inlines Produced (λ y. Among a.front y) a.name l (side_by_names p.symbols)) e (number_sound i a)) in
      let later = reached b.front b.back b.order_is in
      let there : Among (productions_named (entries_by b.front ds least) a.name) q =
      subst (λ (x : Text). Among (productions_named (entries_by b.front ds least) x) q) names b.stands in
      let sound : Inlines Produced (λ y. Among b.front y) a.name (lab p.action.0) (side_by_names q.symbols) =
      subst (λ (l : Label Text ℕ). Inlines Produced (λ y. Among b.front y) a.name l (side_by_names q.symbols)) (sym labels)
      (later.are.sound a.name q there) in
      let split : order ≡ a.front ++ (d ++ b.back) =
      b.order_is ∙ ap (λ l. l ++ b.back) far ∙ append_assoc a.front d b.back in
      let inside : (y : Text) → Among d y → Among b.front y =
      λ y k. subst (λ (l : List Text). Among l y) (sym far) (among_right a.front d y k) in
      let stay : Among (productions_named (entries_by b.front ds least) a.name) p =
      subst (λ (l : List Text). Among (productions_named (entries_by l ds least) a.name) p) (sym far)
      (stays (λ y. Among b.front y) a.name p (side_by_names q.symbols) sound d a.front b.back split inside a.stands) in
      let same : p ≡ q =
      once_same (λ (r : Production). lab r.action.0) (productions_named (entries_by b.front ds least) a.name) p q
      (later.are.once a.name) stay there labels in
      sym a.number_is ∙ ap (λ (r : Production). r.action.0) same ∙ b.number_is

  -- a label has one number
  pub one_number : (i j : ℕ) → IsNumberAtStep i → IsNumberAtStep j → lab i ≡ lab j → i ≡ j
  one_number i j a b e = go (two_fronts a.front a.back b.front b.back (sym a.order_is ∙ b.order_is))
    where
      go : ((d : List Text) × (b.front ≡ a.front ++ d) × (a.back ≡ d ++ b.back))
          ⊎ ((d : List Text) × (a.front ≡ b.front ++ d) × (b.back ≡ d ++ a.back)) → i ≡ j
      go (inl w) = one_way i j a b w.0 w.1 e
      go (inr w) = sym (one_way j i b a w.0 w.1 (sym e))
