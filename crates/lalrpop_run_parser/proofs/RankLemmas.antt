-- Where a production of an expansion passes a tree down as it is, ranks fall, and none is greater than a start's: so that folding ends.
use Rattle.std.proofs.Common.{◌≡◌, ◌+◌, ◌-◌, ◌⊎◌, ◌<◌, ◌≤◌, ℕ, suc, List, []}
use Rattle.std.proofs.Common.{◌∷◌, ◌++◌, refl, ap, sym, ◌∙◌, arith, subst, inl, inr}
use Rattle.std.proofs.Common.{Some, None, true, false, Bool, length, length-append}
use Rattle.std.specs.Prelude.{Option, codes, filter, map, max, min, nat_le, nat_lt, option_and_then, option_map, if◌then◌else◌}
use Rattle.lalrpop_grammar.specs.Trees.{Tree, trees}
use Rattle.lalrpop_grammar.specs.WrittenGrammar.{Attr, Origin}
use Rattle.lalrpop_grammar_symbols.specs.Symbols.{Closed, Closeds, Op, Text}
use Rattle.lalrpop_grammar_language.specs.Enabled.{Choice, EnabledGrammar, EnabledRule}
use Rattle.lalrpop_grammar_language.specs.Expansion.{GrammarSymbol, InExpansion, Nonterminal, Produces, RightSide, origin_with}
use Rattle.lalrpop_grammar_language.specs.Admitting.{argument_list}
use Rattle.std.specs.List.{cons_option, filter_map}
use Rattle.std.proofs.lemmas.Bool.{leb-false, leb-true, ltb-true}
use Rattle.lalrpop_grammar_language.specs.Levels.{Assoc, Rank, digits, first_attr, greatest, has_levels, larger, level_in}
use Rattle.lalrpop_grammar_language.specs.Levels.{level_of, loosest}
use Rattle.lalrpop_grammar_language.specs.Levels.{levels, ranked_choices, value_of}
use Rattle.lalrpop_grammar_language.specs.Levels.{rank_after, tighter, with_ranks, written_assoc, written_level}
use Rattle.lalrpop_grammar_language.specs.Among.{Among}
use Rattle.lalrpop_grammar_language.proofs.PlaceLemmas.{TellPlaces, among_filter}
use Rattle.lalrpop_lr1_theory.specs.Productions as theory
use Rattle.lalrpop_norm_theory.specs.Inlined.{IsInlined}
use Rattle.lalrpop_grammar_language.specs.Labels.{Inlinings, Label}
use Rattle.lalrpop_grammar_language.specs.Inlining.{Inlines, InlinesAll}
use Rattle.lalrpop_run_theory.specs.Expansions.{AreExpansion, theory_side}
use Rattle.lalrpop_run_theory.proofs.ForestLemmas.{production_of}
use Rattle.lalrpop_run_theory.proofs.ReachLemmas.{HoldsInside}
use Rattle.lalrpop_run_trees.specs.ActionLabels.{ChoiceInlinings, ChoiceLabel, kept_count, kept_counts}
use Rattle.lalrpop_run_trees.specs.KeptTrees.{AreAllKeptBy, AreChildrenBy, AreKeptBy}
use Rattle.lalrpop_run_trees.specs.TreeSizes.{tree_size, trees_size}
use Rattle.lalrpop_run_trees.proofs.KeptLemmas.{kept_long}
use Rattle.lalrpop_run_trees.proofs.SizeLemmas.{AllAtMost, kept_at_most, size_more, tree_positive}
use Rattle.lalrpop_run_parser.specs.PassingRanks.{FallsAlong, label_rank, passing_rank}

-- no rank is greater than that of a start
pub rank_bound : (x : Nonterminal) → passing_rank x ≤ 4294967298
rank_bound (Nonterminal.start n) = omega arith
rank_bound (Nonterminal.closed (Closed.call n args None)) = omega arith
rank_bound (Nonterminal.closed (Closed.call n args (Some level))) = omega arith
rank_bound (Nonterminal.closed (Closed.repeat Op.star x)) = omega arith
rank_bound (Nonterminal.closed (Closed.repeat Op.plus x)) = omega arith
rank_bound (Nonterminal.closed (Closed.repeat Op.question x)) = omega arith
rank_bound (Nonterminal.closed (Closed.group xs)) = omega arith
rank_bound (Nonterminal.closed (Closed.terminal t)) = omega arith
rank_bound (Nonterminal.closed (Closed.choose x)) = omega arith
rank_bound (Nonterminal.closed (Closed.name m n x)) = omega arith
rank_bound (Nonterminal.closed Closed.lookahead) = omega arith
rank_bound (Nonterminal.closed Closed.lookbehind) = omega arith
rank_bound (Nonterminal.closed Closed.faulty) = omega arith

-- no label has a rank above this number: so that folding ends
pub label_bound : (label : ChoiceLabel) → label_rank label ≤ 4294967298
label_bound (Label.choose x o inlinings) = rank_bound x

-- a level of a rule is below 2^32
level_small : (t : Text) (n : ℕ) → level_of t ≡ Some n → n < 4294967296
level_small [] n e = absurd (cc)
level_small (d ∷ ds) n e = go (digits 0 (d ∷ ds)) e
  where
    test : (m : ℕ) (b : Bool) → nat_lt m 4294967296 ≡ b → (if b then Some m else None) ≡ Some n → n < 4294967296
    test m true f k = let same : m ≡ n = cc in omega (arith, ltb-true m 4294967296 f, same)
    test m false f k = absurd (cc)

    go : (o : Option ℕ) → option_and_then (λ m. if nat_lt m 4294967296 then Some m else None) o ≡ Some n → n < 4294967296
    go None k = absurd (cc)
    go (Some m) k = test m (nat_lt m 4294967296) refl k

-- so is each that an alternative has
written_small : (o : Option Attr) (n : ℕ) → option_map level_in o ≡ Some (Some n) → n < 4294967296
written_small None n e = absurd (cc)
written_small (Some a) n e = go (value_of (codes "level") a) (some_same (level_in a) (Some n) e)
  where
    some_same : (x y : Option ℕ) → ◌≡◌ {A = Option (Option ℕ)} (Some x) (Some y) → x ≡ y
    some_same x y k = cc

    go : (t : Option Text) → option_and_then level_of t ≡ Some n → n < 4294967296
    go None k = absurd (cc)
    go (Some t) k = level_small t n k

after_small : (last : Option Rank) (level : Option (Option ℕ)) (side : Option Assoc) →
    ((k : Rank) → last ≡ Some k → k.level < 4294967296) → ((n : ℕ) → level ≡ Some (Some n) → n < 4294967296) →
    (k : Rank) → rank_after last level side ≡ Some k → k.level < 4294967296
after_small last (Some (Some n)) side old new k e =
    let same : n ≡ k.level = ap level_or e in omega (arith, new n refl, same)
  where
    level_or : Option Rank → ℕ
    level_or None = 0
    level_or (Some r) = r.level
after_small last (Some None) side old new k e = absurd (cc)
after_small (Some r) None side old new k e =
    let same : r.level ≡ k.level = ap level_or e in omega (arith, old r refl, same)
  where
    level_or : Option Rank → ℕ
    level_or None = 0
    level_or (Some q) = q.level
after_small None None side old new k e = absurd (cc)

ranks_small : (last : Option Rank) (cs : List Choice) → ((k : Rank) → last ≡ Some k → k.level < 4294967296) →
    (p : Choice × Option Rank) → Among (with_ranks last cs) p → (k : Rank) → p.1 ≡ Some k → k.level < 4294967296
ranks_small last [] old p h k e = absurd h
ranks_small last (c ∷ cs) old p (inl same) k e =
    after_small last (written_level c) (written_assoc c) old (λ n f. written_small (first_attr (codes "precedence") c.attributes) n f) k
    (ap (λ q. q.1) same ∙ e)
ranks_small last (c ∷ cs) old p (inr later) k e =
    ranks_small (rank_after last (written_level c) (written_assoc c)) cs
    (after_small last (written_level c) (written_assoc c) old
    (λ n f. written_small (first_attr (codes "precedence") c.attributes) n f)) p later k e

abbrev no_rank : Option Rank
no_rank = None

unranked_small : (cs : List Choice) (p : Choice × Option Rank) → Among (map (λ (c : Choice). (c, no_rank)) cs) p → (k : Rank) →
    p.1 ≡ Some k → k.level < 4294967296
unranked_small [] p h k e = absurd h
unranked_small (c ∷ cs) p (inl same) k e = absurd (never k (ap (λ q. q.1) same ∙ e))
  where
    never : (r : Rank) → ◌≡◌ {A = Option Rank} None (Some r) → ⊥
    never r f = absurd (cc)
unranked_small (c ∷ cs) p (inr later) k e = unranked_small cs p later k e

choice_small : (r : EnabledRule) (p : Choice × Option Rank) → Among (ranked_choices r) p → (k : Rank) → p.1 ≡ Some k →
    k.level < 4294967296
choice_small r p h k e = go (has_levels r) h
  where
    none_before : (j : Rank) → ◌≡◌ {A = Option Rank} None (Some j) → j.level < 4294967296
    none_before j f = absurd (cc)

    go : (b : Bool) → Among (if b then with_ranks None r.choices else map (λ c. (c, None)) r.choices) p → k.level < 4294967296
    go true a = ranks_small None r.choices none_before p a k e
    go false a = unranked_small r.choices p a k e

levels_small : (ps : List (Choice × Option Rank)) → ((p : Choice × Option Rank) → Among ps p → (k : Rank) → p.1 ≡ Some k →
    k.level < 4294967296) → (l : ℕ) → Among (filter_map (λ p. option_map (λ k. k.level) p.1) ps) l → l < 4294967296
levels_small [] small l h = absurd h
levels_small (p ∷ ps) small l h = go p.1 refl h (levels_small ps (λ q b. small q (inr b)) l)
  where
    go : (o : Option Rank) → p.1 ≡ o →
        Among (cons_option (option_map (λ k. k.level) o) (filter_map (λ q. option_map (λ k. k.level) q.1) ps)) l →
        (Among (filter_map (λ q. option_map (λ k. k.level) q.1) ps) l → l < 4294967296) → l < 4294967296
    go None e a later = later a
    go (Some k) e (inl same) later = let less = small p (inl refl) k e in omega (arith, less, same)
    go (Some k) e (inr a) later = later a

greatest_among : (ns : List ℕ) (m : ℕ) → greatest ns ≡ Some m → Among ns m
greatest_among [] m e = absurd (cc)
greatest_among (n ∷ ns) m e = go (greatest ns) refl e (λ b f. greatest_among ns b f)
  where
    some_same : (x y : ℕ) → ◌≡◌ {A = Option ℕ} (Some x) (Some y) → x ≡ y
    some_same x y k = cc

    go : (o : Option ℕ) → greatest ns ≡ o → larger n o ≡ Some m → ((b : ℕ) → greatest ns ≡ Some b → Among ns b) →
        Among (n ∷ ns) m
    go None f k later = inl (some_same n m k)
    go (Some b) f k later = either (nat_le b n) refl
      where
        either : (t : Bool) → nat_le b n ≡ t → Among (n ∷ ns) m
        either true g = inl (let same = some_same (max n b) m k in omega (arith, same, leb-true b n g))
        either false g =
            inr (subst (λ x. Among ns x) (let same = some_same (max n b) m k in omega (arith, same, leb-false b n g)) (later b f))

-- a tighter level is smaller, and below 2^32
tighter_small : (r : EnabledRule) (j l : ℕ) → tighter r j ≡ Some l → (l < j) × (l < 4294967296)
tighter_small r j l e =
    let a = among_filter (λ n. nat_lt n j) (levels r) l (greatest_among (filter (λ n. nat_lt n j) (levels r)) l e) in
    (omega (arith, ltb-true l j a.1), levels_small (ranked_choices r) (choice_small r) l a.0)

-- it is a nonterminal of smaller rank
abbrev IsLowerSymbol : ℕ → GrammarSymbol Nonterminal → Type 0
IsLowerSymbol rank (GrammarSymbol.terminal z) = ⊥
IsLowerSymbol rank (GrammarSymbol.nonterminal y) = passing_rank y < rank

-- each tree of this size at least is of a symbol of smaller rank
abbrev FallBySize : ℕ → ℕ → RightSide → List Tree → Type 0
FallBySize rank size [] us = Unit {0}
FallBySize rank size (p ∷ side) [] = Unit {0}
FallBySize rank size (p ∷ side) (u ∷ us) = (size ≤ tree_size u → IsLowerSymbol rank p) × FallBySize rank size side us

-- each is smaller, or of a symbol of smaller rank and no larger
abbrev AreLower : ℕ → ℕ → RightSide → List Tree → Type 0
AreLower rank size [] us = Unit {0}
AreLower rank size (p ∷ side) [] = Unit {0}
AreLower rank size (p ∷ side) (u ∷ us) =
    ((tree_size u < size) ⊎ (IsLowerSymbol rank p × (tree_size u ≤ size))) × AreLower rank size side us

all_lower : (rank size : ℕ) (side : RightSide) (us : List Tree) → trees_size (trees us) < size → AreLower rank size side us
all_lower rank size [] us h = tt
all_lower rank size (p ∷ side) [] h = tt
all_lower rank size (p ∷ side) (u ∷ us) h = (inl (omega (arith, h)), all_lower rank size side us (omega (arith, h)))

-- the tree itself, of a symbol of smaller rank
one_lower : (rank : ℕ) (y : Nonterminal) (t : Tree) (side : RightSide) (us : List Tree) →
    side ≡ GrammarSymbol.nonterminal y ∷ [] → us ≡ t ∷ [] → passing_rank y < rank → AreLower rank (tree_size t) side us
one_lower rank y t side us e f less =
    subst (λ s. AreLower rank (tree_size t) s us) (sym e)
    (subst (λ l. AreLower rank (tree_size t) (GrammarSymbol.nonterminal y ∷ []) l) (sym f) (inr (less, omega arith), tt))

none_lower : (rank size : ℕ) (side : RightSide) (us : List Tree) → us ≡ [] → AreLower rank size side us
none_lower rank size side us e = all_none side (sym e)
  where
    all_none : (s : RightSide) → [] ≡ us → AreLower rank size s us
    all_none [] f = tt
    all_none (p ∷ s) f = subst (λ l. AreLower rank size (p ∷ s) l) f tt

start_lower : (r : Option ℕ) (n : Text) → passing_rank (Nonterminal.closed (Closed.call n Closeds.none r)) < 4294967298
start_lower None n = omega arith
start_lower (Some l) n = omega arith

by_choice : {o p : Origin} (t : Tree) (us : List Tree) → o ≡ p → AreChildrenBy o t us → AreChildrenBy p t us
by_choice t us e h = subst (λ c. AreChildrenBy c t us) e h

more_lower : (rank : ℕ) (t : Tree) (side : RightSide) (us front : List Tree) (v : Tree) →
    us ≡ Tree.list (trees front) ∷ v ∷ [] →
    t ≡ Tree.list (trees (front ++ v ∷ [])) → AreLower rank (tree_size t) side us
more_lower rank t side us front v e f = subst (λ l. AreLower rank (tree_size t) side l) (sym e) (each side)
  where
    whole : tree_size t ≡ suc (trees_size (trees front) + tree_size v)
    whole = omega (arith, ap tree_size f, size_more front v)

    each : (s : RightSide) → AreLower rank (tree_size t) s (Tree.list (trees front) ∷ v ∷ [])
    each [] = tt
    each (p ∷ []) = (inl (omega (arith, whole, tree_positive v)), tt)
    each (p ∷ q ∷ []) = (inl (omega (arith, whole, tree_positive v)), (inl (omega (arith, whole)), tt))
    each (p ∷ q ∷ r ∷ s) = (inl (omega (arith, whole, tree_positive v)), (inl (omega (arith, whole)), tt))

module _ (g : EnabledGrammar) (places : TellPlaces g) where
  children_lower : (x : Nonterminal) (o : Origin) (side : RightSide) (t : Tree) (us : List Tree) → Produces g x o side →
      AreChildrenBy o t us → AreLower (passing_rank x) (tree_size t) side us
  children_lower (Nonterminal.start n) o side t us m h =
      one_lower (passing_rank (Nonterminal.start n)) (Nonterminal.closed (Closed.call n Closeds.none (loosest m.0))) t side us m.5
      (by_choice t us m.4 h) (start_lower (loosest m.0) n)
  children_lower (Nonterminal.closed (Closed.call n args level)) o side t us (inl a) h =
      let place = places n args a.rule a.choice a.fits in
      let own : o ≡ Origin.alternative n (argument_list g.spelled args) place.0 =
      a.origin_is ∙ ap (λ c. origin_with (argument_list g.spelled args) c) place.1 in
      let k = by_choice t us own h in
      all_lower (passing_rank (Nonterminal.closed (Closed.call n args level))) (tree_size t) side us (omega (arith, ap tree_size k))
  children_lower (Nonterminal.closed (Closed.call n args level)) o side t us (inr b) h =
      let less = tighter_small b.rule b.from b.to b.to_is in
      subst (λ l. AreLower (passing_rank (Nonterminal.closed (Closed.call n args l))) (tree_size t) side us) (sym b.from_is)
      (one_lower (suc (min b.from 4294967296)) (Nonterminal.closed (Closed.call n args (Some b.to))) t side us b.side_is
      (by_choice t us b.origin_is h) (omega (arith, less.0, less.1)))
  children_lower (Nonterminal.closed (Closed.repeat Op.plus x)) o side t us (inl a) h =
      let k = by_choice t us a.0 h in
      all_lower 0 (tree_size t) side us (omega (arith, ap tree_size k.2, ap (λ l. trees_size (trees l)) k.1))
  children_lower (Nonterminal.closed (Closed.repeat Op.plus x)) o side t us (inr b) h =
      let k = by_choice t us b.0 h in more_lower 0 t side us k.0 k.1 k.2 k.3
  children_lower (Nonterminal.closed (Closed.repeat Op.star x)) o side t us (inl a) h =
      none_lower 1 (tree_size t) side us (by_choice t us a.0 h).0
  children_lower (Nonterminal.closed (Closed.repeat Op.star x)) o side t us (inr b) h =
      one_lower 1 (Nonterminal.closed (Closed.repeat Op.plus x)) t side us b.1 (by_choice t us b.0 h) (omega arith)
  children_lower (Nonterminal.closed (Closed.repeat Op.question x)) o side t us (inl a) h =
      none_lower 0 (tree_size t) side us (by_choice t us a.0 h).0
  children_lower (Nonterminal.closed (Closed.repeat Op.question x)) o side t us (inr b) h =
      let k = by_choice t us b.0 h in
      all_lower 0 (tree_size t) side us (omega (arith, ap tree_size k.2, ap (λ l. trees_size (trees l)) k.1))
  children_lower (Nonterminal.closed (Closed.group xs)) o side t us m h =
      let k = by_choice t us m.0 h in all_lower 0 (tree_size t) side us (omega (arith, ap tree_size k))
  children_lower (Nonterminal.closed Closed.lookahead) o side t us m h = none_lower 0 (tree_size t) side us (by_choice t us m.0 h).0
  children_lower (Nonterminal.closed Closed.lookbehind) o side t us m h = none_lower 0 (tree_size t) side us (by_choice t us m.0 h).0
  children_lower (Nonterminal.closed (Closed.terminal z)) o side t us m h = absurd m
  children_lower (Nonterminal.closed (Closed.choose x)) o side t us m h = absurd m
  children_lower (Nonterminal.closed (Closed.name b n x)) o side t us m h = absurd m
  children_lower (Nonterminal.closed Closed.faulty) o side t us m h = absurd m

  -- smaller ones don't come to the size
  small_fall : (rank size : ℕ) (side : RightSide) (us : List Tree) (n : ℕ) → AllAtMost n us → n < size →
      FallBySize rank size side us
  small_fall rank size [] us n h less = tt
  small_fall rank size (p ∷ side) [] n h less = tt
  small_fall rank size (p ∷ side) (u ∷ us) n h less =
      (λ large. absurd (omega (arith, large, h.0, less)), small_fall rank size side us n h.1 less)

  lower_symbol : (p : GrammarSymbol Nonterminal) (r s : ℕ) → r < s → IsLowerSymbol r p → IsLowerSymbol s p
  lower_symbol (GrammarSymbol.terminal z) r s less h = absurd h
  lower_symbol (GrammarSymbol.nonterminal y) r s less h = omega (arith, less, h)

  lower_fall : (r s m n : ℕ) (side : RightSide) (us : List Tree) → r < s → m ≤ n → FallBySize r m side us →
      FallBySize s n side us
  lower_fall r s m n [] us less le h = tt
  lower_fall r s m n (p ∷ side) [] less le h = tt
  lower_fall r s m n (p ∷ side) (u ∷ us) less le h =
      (λ large. lower_symbol p r s less (h.0 (omega (arith, large, le))), lower_fall r s m n side us less le h.1)

  fall_joined : (rank size : ℕ) (front rest : RightSide) (us vs : List Tree) → FallBySize rank size front us →
      length front ≡ length us → FallBySize rank size rest vs → FallBySize rank size (front ++ rest) (us ++ vs)
  fall_joined rank size [] rest [] vs h e k = k
  fall_joined rank size [] rest (u ∷ us) vs h e k = absurd (omega (arith, e))
  fall_joined rank size (p ∷ front) rest [] vs h e k = absurd (omega (arith, e))
  fall_joined rank size (p ∷ front) rest (u ∷ us) vs h e k = (h.0, fall_joined rank size front rest us vs h.1 (omega (arith, e)) k)

  mutual
    -- a label keeps as many symbols as its right side has
    side_length : (label : ChoiceLabel) (x : Nonterminal) (side : RightSide) → Inlines (Produces g) (IsInlined g) x label side →
        length side ≡ kept_count label
    side_length (Label.choose y o inlinings) x side m = all_length inlinings m.1 side m.3

    all_length : (inlinings : ChoiceInlinings) (before side : RightSide) →
        InlinesAll (Produces g) (IsInlined g) before inlinings side → length side ≡ kept_counts inlinings
    all_length Inlinings.none [] side m = ap length m
    all_length (Inlinings.kept inlinings) [] side m = absurd m
    all_length (Inlinings.inlined label inlinings) [] side m = absurd m
    all_length Inlinings.none (p ∷ before) side m = absurd m
    all_length (Inlinings.kept inlinings) (p ∷ before) side m = ap length m.2 ∙ ap suc (all_length inlinings before m.1 m.3)
    all_length (Inlinings.inlined label inlinings) (GrammarSymbol.terminal t ∷ before) side m = absurd m
    all_length (Inlinings.inlined label inlinings) (GrammarSymbol.nonterminal x ∷ before) side m =
        omega (
          arith,
          ap length m.1.side_is,
          length-append m.1.front m.1.rest,
          side_length label x m.1.front m.1.is_front,
          all_length inlinings before m.1.rest m.1.is_rest,
        )

  mutual
    -- of a tree that has the whole size ranks fall
    label_falls : (label : ChoiceLabel) (x : Nonterminal) (side : RightSide) (t : Tree) (us : List Tree) →
        Inlines (Produces g) (IsInlined g) x label side → AreKeptBy label t us → FallBySize (passing_rank x) (tree_size t) side us
    label_falls (Label.choose y o inlinings) x side t us m h =
        all_fall inlinings m.1 side h.0 us (passing_rank x) (tree_size t) m.3 h.2 (children_lower x o m.1 t h.0 m.2 h.1)

    all_fall : (inlinings : ChoiceInlinings) (before side : RightSide) (children us : List Tree) (rank size : ℕ) →
        InlinesAll (Produces g) (IsInlined g) before inlinings side → AreAllKeptBy inlinings children us →
        AreLower rank size before children → FallBySize rank size side us
    all_fall Inlinings.none [] side children us rank size m h lower = subst (λ s. FallBySize rank size s us) (sym m) tt
    all_fall (Inlinings.kept inlinings) [] side children us rank size m h lower = absurd m
    all_fall (Inlinings.inlined label inlinings) [] side children us rank size m h lower = absurd m
    all_fall Inlinings.none (p ∷ before) side children us rank size m h lower = absurd m
    all_fall (Inlinings.kept inlinings) (p ∷ before) side children us rank size m h lower =
        let l : AreLower rank size (p ∷ before) (h.first ∷ h.others) =
        subst (λ c. AreLower rank size (p ∷ before) c) h.children_are lower in
        subst (λ s. FallBySize rank size s us) (sym m.2)
        (subst (λ v. FallBySize rank size (p ∷ m.1) v) (sym h.trees_are)
        (first_falls p h.first l.0, all_fall inlinings before m.1 h.others h.left rank size m.3 h.rest l.1))
      where
        first_falls : (q : GrammarSymbol Nonterminal) (u : Tree) →
            (tree_size u < size) ⊎ (IsLowerSymbol rank q × (tree_size u ≤ size)) → size ≤ tree_size u → IsLowerSymbol rank q
        first_falls q u (inl less) large = absurd (omega (arith, less, large))
        first_falls q u (inr both) large = both.0
    all_fall (Inlinings.inlined label inlinings) (GrammarSymbol.terminal z ∷ before) side children us rank size m h lower = absurd m
    all_fall (Inlinings.inlined label inlinings) (GrammarSymbol.nonterminal y ∷ before) side children us rank size m h lower =
        let l : AreLower rank size (GrammarSymbol.nonterminal y ∷ before) (h.first ∷ h.others) =
        subst (λ c. AreLower rank size (GrammarSymbol.nonterminal y ∷ before) c) h.children_are lower in
        subst (λ s. FallBySize rank size s us) (sym m.1.side_is)
        (subst (λ v. FallBySize rank size (m.1.front ++ m.1.rest) v) (sym h.trees_are)
        (fall_joined rank size m.1.front m.1.rest h.front h.left
        (front_falls h.first h.front m.1.front l.0 (kept_at_most label h.first h.front h.kept)
        (label_falls label y m.1.front h.first h.front m.1.is_front h.kept))
        (side_length label y m.1.front m.1.is_front ∙ sym (kept_long label h.first h.front h.kept))
        (all_fall inlinings before m.1.rest h.others h.left rank size m.1.is_rest h.rest l.1)))
      where
        front_falls : (v : Tree) (front : List Tree) (s : RightSide) →
            (tree_size v < size) ⊎ (IsLowerSymbol rank (GrammarSymbol.nonterminal y) × (tree_size v ≤ size)) →
            AllAtMost (tree_size v) front → FallBySize (passing_rank y) (tree_size v) s front → FallBySize rank size s front
        front_falls v front s (inl less) most k = small_fall rank size s front (tree_size v) most less
        front_falls v front s (inr both) most k = lower_fall (passing_rank y) rank (tree_size v) size s front both.0 both.1 k

  module _ (prefix : Text) (G : theory.Production → Type 0) (e : AreExpansion g prefix G) where
    head_rank : (label : ChoiceLabel) (x : Nonterminal) (side : RightSide) → Inlines (Produces g) (IsInlined g) x label side →
        label_rank label ≡ passing_rank x
    head_rank (Label.choose y o inlinings) x side m = ap passing_rank m.0

    -- by names
    falls_named : (rank : ℕ) (t : Tree) (side : RightSide) (us : List Tree) → HoldsInside (InExpansion g) side →
        FallBySize rank (tree_size t) side us → FallsAlong G e.label_of rank t (theory_side e.name_of side) us
    falls_named rank t [] us i h = tt
    falls_named rank t (p ∷ side) [] i h = tt
    falls_named rank t (GrammarSymbol.terminal z ∷ side) (u ∷ us) i h =
        (λ same. h.0 (omega (arith, ap tree_size same)), falls_named rank t side us (λ y a. i y (inr a)) h.1)
    falls_named rank t (GrammarSymbol.nonterminal y ∷ side) (u ∷ us) i h = (
      λ same q of left.
          let m = production_of g (IsInlined g) prefix G e q y of (i y (inl refl)) left in
          let less = h.0 (omega (arith, ap tree_size same)) in
          omega (arith, less, head_rank (e.label_of q.action) y m.side m.inlined),
      falls_named rank t side us (λ z a. i z (inr a)) h.1,
    )

    -- where a production passes a tree down as it is, ranks fall
    pub ranks_fall : (p : theory.Production) → G p → (t : Tree) (us : List Tree) → AreKeptBy (e.label_of p.action) t us →
        FallsAlong G e.label_of (label_rank (e.label_of p.action)) t p.right us
    ranks_fall p of t us h =
        let n = e.no_other p of in
        let s = n.3 in
        let m = production_of g (IsInlined g) prefix G e p n.0 of s.in_expansion s.left_is in
        subst (λ r. FallsAlong G e.label_of r t p.right us) (sym (head_rank (e.label_of p.action) n.0 m.side m.inlined))
        (subst (λ r. FallsAlong G e.label_of (passing_rank n.0) t r us) (sym m.right_is)
        (falls_named (passing_rank n.0) t m.side us m.inside
        (label_falls (e.label_of p.action) n.0 m.side t us m.inlined h)))
