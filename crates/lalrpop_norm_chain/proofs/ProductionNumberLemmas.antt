-- Productions of one expansion that are numbered along one order have the same numbers; for the law that normalized grammars are one.
use Rattle.std.specs.Str.{bytes_eq}
use Rattle.std.specs.List.{AllByRecursion, IsDistinct, list_any}
use Rattle.std.specs.Prelude.{Some, ◌||◌, map, slice_get}
use Rattle.std.proofs.Common.{◌≡◌, ◌≢◌, ◌⊎◌, ◌∙◌, ℕ, zero, suc, ◌<◌, List, [], ◌∷◌, refl, ap, sym, subst}
use Rattle.std.proofs.Common.{inl, inr, Bool, true, false, length, arith, eqb, ◌++◌}
use Rattle.std.proofs.lemmas.Bool.{eqb-true, or_parts}
use Rattle.std.proofs.lemmas.List.{length-map}
use Rattle.std.proofs.lemmas.Map.Steps.{length-le_from_distinct_below}
use Rattle.std.proofs.lemmas.Option.{slice_get_within}
use Rattle.lalrpop_grammar_symbols.specs.Symbols.{Text}
use Rattle.lalrpop_grammar.specs.WrittenGrammar.{Origin}
use Rattle.lalrpop_grammar_language.specs.Among.{Among}
use Rattle.lalrpop_grammar_language.specs.Enabled.{EnabledGrammar}
use Rattle.lalrpop_grammar_language.specs.Expansion.{GrammarSymbol, InExpansion, Nonterminal, RightSide, WrittenLabel}
use Rattle.lalrpop_grammar_language.proofs.ComparisonLemmas.{same_text-refl}
use Rattle.lalrpop_grammar_language.proofs.PlaceLemmas.{among_map, same_text-eq}
use Rattle.lalrpop_grammar_language.proofs.StepLemmas.{among_right}
use Rattle.lalrpop_norm_theory.specs.Productions.{AreProductions, IsOriginBefore, NamedProduction, StandsForLabel}
use Rattle.lalrpop_norm_theory.proofs.NumberingLemmas.{not_before_itself, three_ways}
use Rattle.lalrpop_norm_lower.specs.NumberOrders.{AreNumberedAlong}
use Rattle.lalrpop_norm_lower.proofs.EarlierLemmas.{Earlier, among_at, at_among}

-- each number below as many as there are

-- what holds of each two places holds of each and each later one
earlier_by_places : {A : Type 0} (R : A → A → Type 0) (xs : List A)
    → ((i j : ℕ) (x y : A) → i < j → slice_get xs i ≡ Some x → slice_get xs j ≡ Some y → R x y) → Earlier R xs
earlier_by_places R [] h = tt
earlier_by_places R (x ∷ xs) h = (
  λ y k. let at = among_at xs y k in h 0 (suc at.0) x y (omega arith) refl at.1,
  earlier_by_places R xs (λ i j y z less e f. h (suc i) (suc j) y z (omega (arith, less)) e f),
)

differs : (a b : ℕ) → a ≢ b → eqb a b ≡ false
differs a b apart = go (eqb a b) refl
  where
    go : (t : Bool) → eqb a b ≡ t → eqb a b ≡ false
    go true e = absurd (apart (eqb-true a b e))
    go false e = e

is_none_of : (k : ℕ) (ns : List ℕ) → list_any (eqb k) ns ≡ false → AllByRecursion (λ n. eqb k n ≡ false) ns
is_none_of k [] e = tt
is_none_of k (n ∷ ns) e = let parts = or_parts (eqb k n) (list_any (eqb k) ns) e in (parts.0, is_none_of k ns parts.1)

is_some_of : (k : ℕ) (ns : List ℕ) → list_any (eqb k) ns ≡ true → Among ns k
is_some_of k [] e = absurd (let wrong : ⊥ = cc in wrong)
is_some_of k (n ∷ ns) e = go (eqb k n) refl e (λ h. is_some_of k ns h)
  where
    go : (t : Bool) → eqb k n ≡ t → (t || list_any (eqb k) ns) ≡ true → (list_any (eqb k) ns ≡ true → Among ns k)
        → (n ≡ k) ⊎ Among ns k
    go true f h later = inl (sym (eqb-true k n f))
    go false f h later = inr (later h)

apart_from : (k : ℕ) (ps : List NamedProduction) → ((q : NamedProduction) → Among ps q → k ≢ q.action)
    → AllByRecursion (λ n. eqb k n ≡ false) (map (λ (p : NamedProduction). p.action) ps)
apart_from k [] h = tt
apart_from k (q ∷ qs) h = (differs k q.action (h q (inl refl)), apart_from k qs (λ p i. h p (inr i)))

actions_distinct : (ps : List NamedProduction) → Earlier (λ p q. p.action ≢ q.action) ps
    → IsDistinct eqb (map (λ (p : NamedProduction). p.action) ps)
unfolding IsDistinct
actions_distinct [] h = tt
actions_distinct (p ∷ ps) h = (apart_from p.action ps h.0, actions_distinct ps h.1)

one_more : (k : ℕ) (ns : List ℕ) → AllByRecursion (λ n. eqb k n ≡ false) ns → IsDistinct eqb ns → IsDistinct eqb (k ∷ ns)
unfolding IsDistinct
one_more k ns none h = (none, h)

-- of numbers that differ and are below as many as they are, none is left out
each_below : (ns : List ℕ) (n : ℕ) → IsDistinct eqb ns → length ns ≡ n → ((k : ℕ) → Among ns k → k < n) → (j : ℕ) → j < n
    → Among ns j
each_below ns n distinct many below j less = go (list_any (eqb j) ns) refl
  where
    within : list_any (eqb j) ns ≡ false → (q : ℕ) → list_any (eqb q) (j ∷ ns) ≡ true → q < n
    within e q h = of_place (is_some_of q (j ∷ ns) h)
      where
        of_place : (j ≡ q) ⊎ Among ns q → q < n
        of_place (inl same) = subst (λ (k : ℕ). k < n) same less
        of_place (inr i) = below q i

    go : (t : Bool) → list_any (eqb j) ns ≡ t → Among ns j
    go true e = is_some_of j ns e
    go false e =
        let most = length-le_from_distinct_below (j ∷ ns) n (one_more j ns (is_none_of j ns e) distinct) (within e) in
        absurd (let wrong : suc (length ns) ≡ length (j ∷ ns) = refl in omega (arith, most, many, wrong))

-- choices

-- of two choices not each stands before the other
not_both_before : (o p : Origin) → IsOriginBefore o p → IsOriginBefore p o → ⊥
not_both_before (Origin.alternative n args i) (Origin.alternative m others j) h k = omega (arith, h, k)
not_both_before (Origin.alternative n args i) Origin.pass_down h k = k
not_both_before Origin.plus_one Origin.plus_more h k = k
not_both_before Origin.star_none Origin.star_some h k = k
not_both_before Origin.opt_some Origin.opt_none h k = k
not_both_before _ _ h k = h

-- orders

-- productions of the one nonterminal have smaller actions than those of the other
abbrev RiseFrom : Text → Text → List NamedProduction → Type 0
RiseFrom n m ps =
    (p q : NamedProduction) → Among ps p → Among ps q → p.nonterminal ≡ n → q.nonterminal ≡ m → p.action < q.action

-- two lists that are numbered along one order rise alike
along_alike : (order : List Text) (ps qs : List NamedProduction) → AreNumberedAlong order ps → AreNumberedAlong order qs → (n m : Text)
    → Among order n → Among order m → n ≢ m
    → (RiseFrom n m ps × RiseFrom n m qs) ⊎ (RiseFrom m n ps × RiseFrom m n qs)
along_alike [] ps qs a b n m i j apart = absurd i
along_alike (x ∷ xs) ps qs a b n m (inl e) (inl f) apart = absurd (apart (sym e ∙ f))
along_alike (x ∷ xs) ps qs a b n m (inl e) (inr j) apart = inl (first ps a.0, first qs b.0)
  where
    first : (rs : List NamedProduction)
        → ((p q : NamedProduction) → Among rs p → Among rs q → p.nonterminal ≡ x → Among xs q.nonterminal → p.action < q.action)
        → RiseFrom n m rs
    first rs h p q k l own other = h p q k l (own ∙ sym e) (subst (Among xs) (sym other) j)
along_alike (x ∷ xs) ps qs a b n m (inr i) (inl f) apart = inr (first ps a.0, first qs b.0)
  where
    first : (rs : List NamedProduction)
        → ((p q : NamedProduction) → Among rs p → Among rs q → p.nonterminal ≡ x → Among xs q.nonterminal → p.action < q.action)
        → RiseFrom m n rs
    first rs h p q k l own other = h p q k l (own ∙ sym f) (subst (Among xs) (sym other) i)
along_alike (x ∷ xs) ps qs a b n m (inr i) (inr j) apart = along_alike xs ps qs a.1 b.1 n m i j apart

-- where lists are joined, the front is numbered before what stands behind
pub parts_rise : (ns ms : List Text) (ps : List NamedProduction) → AreNumberedAlong (ns ++ ms) ps → (p q : NamedProduction)
    → Among ps p → Among ps q → Among ns p.nonterminal → Among ms q.nonterminal → p.action < q.action
parts_rise [] ms ps h p q i j k l = absurd k
parts_rise (n ∷ ns) ms ps h p q i j (inl e) l = h.0 p q i j (sym e) (among_right ns ms q.nonterminal l)
parts_rise (n ∷ ns) ms ps h p q i j (inr k) l = parts_rise ns ms ps h.1 p q i j k l

some_value : {A : Type 0} (x y : A) → Some x ≡ Some y → x ≡ y
some_value x y e = cc

abbrev with_parts : Text → List (GrammarSymbol Text) → ℕ → NamedProduction
with_parts n s k = record { nonterminal = n; symbols = s; action = k }

production_is : (p q : NamedProduction) → p.nonterminal ≡ q.nonterminal → p.symbols ≡ q.symbols → p.action ≡ q.action → p ≡ q
production_is p q a b c = first ∙ second ∙ third
  where
    first : p ≡ with_parts q.nonterminal p.symbols p.action
    first = ap (λ (n : Text). with_parts n p.symbols p.action) a

    second : with_parts q.nonterminal p.symbols p.action ≡ with_parts q.nonterminal q.symbols p.action
    second = ap (λ (s : List (GrammarSymbol Text)). with_parts q.nonterminal s p.action) b

    third : with_parts q.nonterminal q.symbols p.action ≡ q
    third = ap (λ (k : ℕ). with_parts q.nonterminal q.symbols k) c

module _ (g : EnabledGrammar) (f : Nonterminal → Text) where
  -- productions of an expansion

  module _ (ps : List NamedProduction) (os : List Origin) (a : AreProductions g f ps os) where
    -- no two have one nonterminal and one origin
    one_of_origin : (p q : NamedProduction) → Among ps p → Among ps q → p.nonterminal ≡ q.nonterminal
        → slice_get os p.action ≡ slice_get os q.action → p ≡ q
    one_of_origin p q i j name origin =
        let u = among_at ps p i in
        let v = among_at ps q j in
        let same : u.0 ≡ v.0 = a.once u.0 v.0 p q u.1 v.1 name origin in
        some_value p q (sym u.1 ∙ ap (slice_get ps) same ∙ v.1)

    -- nor one action
    one_of_action : (p q : NamedProduction) → Among ps p → Among ps q → p.action ≡ q.action → p ≡ q
    one_of_action p q i j action =
        let u = among_at ps p i in
        let v = among_at ps q j in
        let same : u.0 ≡ v.0 = a.own_action u.0 v.0 p q u.1 v.1 action in
        some_value p q (sym u.1 ∙ ap (slice_get ps) same ∙ v.1)

    below_all : (p : NamedProduction) → Among ps p → p.action < length ps
    below_all p i =
        let s = a.no_other p i in
        let within = slice_get_within os p.action s.0.choice s.2.origin_is in
        let many = a.no_other_origin in
        omega (arith, within, many)

    -- each number below as many as they are is an action
    pub taken : (j : ℕ) → j < length ps → (p : NamedProduction) × Among ps p × (p.action ≡ j)
    taken j less =
        let numbers = map (λ (p : NamedProduction). p.action) ps in
        let distinct = actions_distinct ps (earlier_by_places (λ p q. p.action ≢ q.action) ps
        (λ i k p q lower e h same. let one : i ≡ k = a.own_action i k p q e h same in omega (arith, lower, one))) in
        let there = each_below numbers (length ps) distinct (length-map ps (λ (p : NamedProduction). p.action)) below j less in
        among_map (λ (p : NamedProduction). p.action) ps j there
      where
        below : (k : ℕ) → Among (map (λ (p : NamedProduction). p.action) ps) k → k < length ps
        below k i =
            let m = among_map (λ (p : NamedProduction). p.action) ps k i in
            subst (λ (n : ℕ). n < length ps) m.2 (below_all m.0 m.1)

    -- of two productions of one nonterminal the one with the smaller action has the earlier choice
    earlier_choice : (p q : NamedProduction) (o later : Origin) → Among ps p → Among ps q → p.nonterminal ≡ q.nonterminal
        → slice_get os p.action ≡ Some o → slice_get os q.action ≡ Some later → p.action < q.action → IsOriginBefore o later
    earlier_choice p q o later i j name told told_later less =
        let u = among_at ps p i in
        let v = among_at ps q j in
        go u.0 v.0 u.1 v.1 (three_ways u.0 v.0)
      where
        go : (k m : ℕ) → slice_get ps k ≡ Some p → slice_get ps m ≡ Some q → (k < m) ⊎ ((m < k) ⊎ (k ≡ m)) → IsOriginBefore o later
        go k m e h (inl below) = (a.in_order k m p q below e h name).choices o later told told_later
        go k m e h (inr (inl above)) =
            let down : q.action < p.action = (a.in_order m k q p above h e (sym name)).actions in absurd (omega (arith, less, down))
        go k m e h (inr (inr equal)) =
            let one : p ≡ q = some_value p q (sym e ∙ ap (slice_get ps) equal ∙ h) in
            let number : p.action ≡ q.action = ap (λ (x : NamedProduction). x.action) one in
            absurd (omega (arith, less, number))

    -- and the one with the earlier choice has the smaller action
    smaller_action : (p q : NamedProduction) (o later : Origin) → Among ps p → Among ps q → p.nonterminal ≡ q.nonterminal
        → slice_get os p.action ≡ Some o → slice_get os q.action ≡ Some later → IsOriginBefore o later → p.action < q.action
    smaller_action p q o later i j name told told_later before =
        let u = among_at ps p i in
        let v = among_at ps q j in
        go u.0 v.0 u.1 v.1 (three_ways u.0 v.0)
      where
        go : (k m : ℕ) → slice_get ps k ≡ Some p → slice_get ps m ≡ Some q → (k < m) ⊎ ((m < k) ⊎ (k ≡ m)) → p.action < q.action
        go k m e h (inl below) = (a.in_order k m p q below e h name).actions
        go k m e h (inr (inl above)) =
            absurd (not_both_before o later before ((a.in_order m k q p above h e (sym name)).choices later o told_later told))
        go k m e h (inr (inr equal)) =
            let one : p ≡ q = some_value p q (sym e ∙ ap (slice_get ps) equal ∙ h) in
            let both : Some o ≡ Some later =
            sym told ∙ ap (λ (x : NamedProduction). slice_get os x.action) one ∙ told_later in
            absurd (not_before_itself o (subst (IsOriginBefore o) (sym (some_value o later both)) before))

  module _ (order : List Text) (ordered : (x : Nonterminal) → InExpansion g x → Among order (f x)) where
    -- two lists of productions of the expansion

    -- two productions of one label
    pub record HaveOneLabel (os rs : List Origin) (p q : NamedProduction) : Type 0 where
      pub label : WrittenLabel
      pub side : RightSide
      pub one : StandsForLabel g f os p label side
      pub other : StandsForLabel g f rs q label side

    turned : (os rs : List Origin) (p q : NamedProduction) → HaveOneLabel os rs p q → HaveOneLabel rs os q p
    turned os rs p q h = record { label = h.label; side = h.side; one = h.other; other = h.one }

    same_name : (os rs : List Origin) (p q : NamedProduction) → HaveOneLabel os rs p q → p.nonterminal ≡ q.nonterminal
    same_name os rs p q h = h.one.nonterminal_is ∙ sym h.other.nonterminal_is

    module _ (ps qs : List NamedProduction) (os rs : List Origin) (a : AreProductions g f ps os) (b : AreProductions g f qs rs) where
      pub partner : (p : NamedProduction) → Among ps p → (q : NamedProduction) × Among qs q × HaveOneLabel os rs p q
      partner p i =
          let s = a.no_other p i in
          let t = b.every s.0 s.1 s.2.in_expansion s.2.produced in
          (t.1, at_among qs t.0 t.1 t.2, record { label = s.0; side = s.1; one = s.2; other = t.3 })

      -- what has the label of the same production is one
      one_partner : (p q r : NamedProduction) → Among qs q → Among qs r → HaveOneLabel os rs p q → HaveOneLabel os rs p r → q ≡ r
      one_partner p q r j k h l =
          let name : q.nonterminal ≡ r.nonterminal = sym (same_name os rs p q h) ∙ same_name os rs p r l in
          let choice : Some h.label.choice ≡ Some l.label.choice = sym h.one.origin_is ∙ l.one.origin_is in
          one_of_origin qs rs b q r j k name (h.other.origin_is ∙ choice ∙ sym l.other.origin_is)

      module _ (along : AreNumberedAlong order ps) (along_too : AreNumberedAlong order qs) where
        -- what has the smaller action in the one has it in the other
        keeps_order : (p q x y : NamedProduction) → Among ps p → Among ps q → Among qs x → Among qs y → HaveOneLabel os rs p x
            → HaveOneLabel os rs q y → p.action < q.action → x.action < y.action
        keeps_order p q x y i j k l h m less = go (bytes_eq p.nonterminal q.nonterminal) refl
          where
            of_one : p.nonterminal ≡ q.nonterminal → x.action < y.action
            of_one name =
                smaller_action qs rs b x y h.label.choice m.label.choice k l
                (sym (same_name os rs p x h) ∙ name ∙ same_name os rs q y m) h.other.origin_is m.other.origin_is
                (earlier_choice ps os a p q h.label.choice m.label.choice i j name h.one.origin_is m.one.origin_is less)

            of_two : p.nonterminal ≢ q.nonterminal → x.action < y.action
            of_two apart =
                by_order (along_alike order ps qs along along_too p.nonterminal q.nonterminal
                (subst (Among order) (sym h.one.nonterminal_is) (ordered h.label.head h.one.in_expansion))
                (subst (Among order) (sym m.one.nonterminal_is) (ordered m.label.head m.one.in_expansion)) apart)
              where
                by_order : (RiseFrom p.nonterminal q.nonterminal ps × RiseFrom p.nonterminal q.nonterminal qs)
                    ⊎ (RiseFrom q.nonterminal p.nonterminal ps × RiseFrom q.nonterminal p.nonterminal qs) → x.action < y.action
                by_order (inl up) = up.1 x y k l (sym (same_name os rs p x h)) (sym (same_name os rs q y m))
                by_order (inr down) =
                    let lower : q.action < p.action = down.0 q p j i refl refl in absurd (omega (arith, less, lower))

            go : (t : Bool) → bytes_eq p.nonterminal q.nonterminal ≡ t → x.action < y.action
            go true e = of_one (same_text-eq p.nonterminal q.nonterminal e)
            go false e = of_two (λ name.
                let same : bytes_eq p.nonterminal q.nonterminal ≡ true =
                subst (λ (n : Text). bytes_eq p.nonterminal n ≡ true) name (same_text-refl p.nonterminal) in
                let wrong : false ≡ true = sym e ∙ same in
                cc)

    module _ (ps qs : List NamedProduction) (os rs : List Origin) (a : AreProductions g f ps os) (b : AreProductions g f qs rs)
        (along : AreNumberedAlong order ps) (along_too : AreNumberedAlong order qs) where
      -- productions of one label have one number, where the one's is below n
      abbrev HaveSameBelow : ℕ → Type 0
      HaveSameBelow n =
          (p x : NamedProduction) → Among ps p → Among qs x → HaveOneLabel os rs p x → p.action < n → x.action ≡ p.action

      one_more_same : (n : ℕ) → HaveSameBelow n → HaveSameBelow (suc n)
      one_more_same n before p x i k h less = go (three_ways x.action p.action)
        where
          -- a smaller number is that of another production, with a partner of that number
          smaller : x.action < p.action → ⊥
          smaller down =
              let below = below_all ps os a p i in
              let q = taken ps os a x.action (omega (arith, down, below)) in
              let y = partner ps qs os rs a b q.0 q.1 in
              let number = q.2 in
              let same : y.0.action ≡ q.0.action = before q.0 y.0 q.1 y.1 y.2 (omega (arith, number, down, less)) in
              let one : y.0 ≡ x = one_of_action qs rs b y.0 x y.1 k (same ∙ number) in
              let back : q.0 ≡ p =
              one_partner qs ps rs os b a x q.0 p q.1 i
              (turned os rs q.0 x (subst (λ (z : NamedProduction). HaveOneLabel os rs q.0 z) one y.2)) (turned os rs p x h) in
              let equal : q.0.action ≡ p.action = ap (λ (z : NamedProduction). z.action) back in
              omega (arith, number, equal, down)

          -- a greater one leaves the number to another production
          greater : p.action < x.action → ⊥
          greater up =
              let below = below_all qs rs b x k in
              let y = taken qs rs b p.action (omega (arith, up, below)) in
              let q = partner qs ps rs os b a y.0 y.1 in
              let number = y.2 in
              let lower : q.0.action < p.action =
              keeps_order qs ps rs os b a along_too along y.0 x q.0 p y.1 k q.1 i q.2 (turned os rs p x h)
              (omega (arith, number, up)) in
              let same : y.0.action ≡ q.0.action =
              before q.0 y.0 q.1 y.1 (turned rs os y.0 q.0 q.2) (omega (arith, lower, less)) in
              omega (arith, number, same, lower)

          go : (x.action < p.action) ⊎ ((p.action < x.action) ⊎ (x.action ≡ p.action)) → x.action ≡ p.action
          go (inl down) = absurd (smaller down)
          go (inr (inl up)) = absurd (greater up)
          go (inr (inr same)) = same

      same_number : (n : ℕ) → HaveSameBelow n
      same_number zero p x i k h less = absurd (omega (arith, less))
      same_number (suc n) p x i k h less = one_more_same n (same_number n) p x i k h less

      -- each production of the one is one of the other, and its action tells the same choice
      pub there_too : (p : NamedProduction) → Among ps p → Among qs p × (slice_get rs p.action ≡ slice_get os p.action)
      there_too p i =
          let x = partner ps qs os rs a b p i in
          let h = x.2 in
          let number : x.0.action ≡ p.action = same_number (suc p.action) p x.0 i x.1 h (omega arith) in
          let same : x.0 ≡ p =
          production_is x.0 p (sym (same_name os rs p x.0 h)) (h.other.symbols_are ∙ sym h.one.symbols_are) number in (
            subst (Among qs) same x.1,
            ap (λ (z : NamedProduction). slice_get rs z.action) (sym same) ∙ h.other.origin_is ∙ sym h.one.origin_is,
          )

      -- and so each origin is one of the other's, at its number
      pub origin_too : (k : ℕ) (o : Origin) → slice_get os k ≡ Some o → slice_get rs k ≡ Some o
      origin_too k o e =
          let within = slice_get_within os k o e in
          let many = a.no_other_origin in
          let p = taken ps os a k (omega (arith, within, many)) in
          ap (slice_get rs) (sym p.2) ∙ (there_too p.0 p.1).1 ∙ ap (slice_get os) p.2 ∙ e

-- lists in which the same stands at each place are equal
pub same_list : {A : Type 0} (xs ys : List A) → ((k : ℕ) (x : A) → slice_get xs k ≡ Some x → slice_get ys k ≡ Some x)
    → ((k : ℕ) (x : A) → slice_get ys k ≡ Some x → slice_get xs k ≡ Some x) → xs ≡ ys
same_list [] [] to from = refl
same_list [] (y ∷ ys) to from = let wrong : slice_get [] 0 ≡ Some y = from 0 y refl in cc
same_list (x ∷ xs) [] to from = let wrong : slice_get [] 0 ≡ Some x = to 0 x refl in cc
same_list (x ∷ xs) (y ∷ ys) to from =
    let first : x ≡ y = sym (some_value y x (to 0 x refl)) in
    ap (λ z. z ∷ xs) first ∙ ap (λ l. y ∷ l) (same_list xs ys (λ k. to (suc k)) (λ k. from (suc k)))
