-- The inlining order of a lowered grammar is that of the nonterminals that its names stand for: for how many numbers are handed out, and
-- for the order in which conflicts are told.
use Rattle.std.proofs.Common.{◌≡◌, ◌∙◌, ◌+◌, ◌<◌, ◌⊎◌, Bool, ℕ, zero, suc, List, [], ◌∷◌, ◌++◌, Some, ap, arith, false, inl, inr, length, map}
use Rattle.std.proofs.Common.{refl, subst, sym, true}
use Rattle.std.specs.Prelude.{None, cond, filter, flat_map, if◌then◌else◌, option_map, reverse, slice_get}
use Rattle.std.specs.List.{AllByRecursion}
use Rattle.std.specs.List.Sorted.{IsStrictlySortedBy}
use Rattle.std.specs.Map.{keys_of}
use Rattle.std.specs.Ordering.{is_eq}
use Rattle.std.specs.declared.cmp.Ordering.TheVariants.{Less}
use Rattle.std.proofs.lemmas.Grind.{reverse_onto}
use Rattle.std.proofs.lemmas.List.{map-append}
use Rattle.std.proofs.lemmas.Option.{slice_get-map}
use Rattle.lalrpop_grammar_symbols.specs.Symbols.{Text}
use Rattle.lalrpop_grammar_symbols.specs.Views.{terminal_view}
use Rattle.lalrpop_grammar_symbols.specs.contracts.names.NonterminalStringOrd.TheImpl as names
use Rattle.lalrpop_grammar_symbols.specs.declared.names.NonterminalString.{NonterminalString}
use Rattle.lalrpop_grammar.specs.WrittenGrammar.{Origin}
use Rattle.lalrpop_grammar_language.specs.Among.{Among}
use Rattle.lalrpop_grammar_language.specs.Enabled.{EnabledGrammar}
use Rattle.lalrpop_grammar_language.specs.Expansion.{GrammarSymbol, InExpansion, Nonterminal, Produces, RightSide}
use Rattle.lalrpop_grammar_language.specs.Inlining.{HaveOneSide}
use Rattle.lalrpop_grammar_language.proofs.AmongLemmas.{among_flat_map, map_among}
use Rattle.lalrpop_grammar_language.proofs.OrderLemmas.{among_parts}
use Rattle.lalrpop_grammar_language.proofs.PlaceLemmas.{among_map}
use Rattle.lalrpop_grammar_repr.specs.declared.production.NonterminalData.{NonterminalData}
use Rattle.lalrpop_grammar_repr.specs.declared.production.Production.{Production}
use Rattle.lalrpop_grammar_repr.specs.declared.production.Symbol.{Symbol}
use Rattle.lalrpop_grammar_repr.specs.declared.production.Symbol.TheVariants as symbols
use Rattle.lalrpop_lr1_core.proofs.MemberLemmas.{some_is}
use Rattle.lalrpop_lr1_inline.specs.InlinedNames.{NonterminalEntries, inlined_in_productions, inlined_in_symbols, inlined_named_by}
use Rattle.lalrpop_lr1_inline.specs.InlinedNames.{inlined_names, is_inlined_name, is_marked_inline, name_of_text}
use Rattle.lalrpop_lr1_inline.specs.InliningOrders.{IsInliningOrder, IsOrderWalk, OrderWalk, order_of_walk}
use Rattle.lalrpop_lr1_inline.specs.InliningSteps.{productions_named}
use Rattle.lalrpop_lr1_inline.specs.NamedProductions.{IsInlinedByName, side_by_names}
use Rattle.lalrpop_lr1_inline.proofs.AmongLemmas.{among_reverse}
use Rattle.lalrpop_lr1_inline.proofs.NamedLemmas.{all_listed}
use Rattle.lalrpop_lr1_inline.proofs.StepsLemmas.{looked_by}
use Rattle.lalrpop_lr1_theory.proofs.ListLemmas.{get_front}
use Rattle.lalrpop_lr1_theory.proofs.PlaceLemmas.{slice_get-append}
use Rattle.lalrpop_norm_lower.specs.LoweredSymbols.{named_production, named_productions, productions_at}
use Rattle.lalrpop_norm_theory.specs.Productions.{IsOriginBefore}
use Rattle.lalrpop_norm_theory.specs.Same.{rename_side, rename_symbol}
use Rattle.lalrpop_run_prepare.specs.NamedGrammars.{IsNamedExpansion, StandUnderNames}
use Rattle.lalrpop_run_prepare.specs.NamedLabels.{IsProductionBack}
use Rattle.lalrpop_run_prepare.proofs.InlinedEntryLemmas.{AreSorted, named_entry, named_name}
use Rattle.lalrpop_run_prepare.proofs.NamedProductionLemmas.{are_named, back, back_is, entry_production}
use Rattle.lalrpop_run_theory.specs.ExpansionTrees.{is_inlined_nonterminal}
use Rattle.lalrpop_run_theory.proofs.InlinedTestLemmas.{inlined_decided}
use Rattle.lalrpop_run.specs.ConflictOrders.{compare_texts}
use Rattle.lalrpop_run.specs.NonterminalOrders.{AreChosenSides, AreInlinedNamed, ChosenSide, IsNonterminalOrder, IsNonterminalWalk}
use Rattle.lalrpop_run.specs.NonterminalOrders.{NonterminalWalk, inlined_on, walked_nonterminals}

-- names in order

names_above : (k : NonterminalString) (es : NonterminalEntries) → AllByRecursion (λ y. (names.ghosts).cmp k y ≡ Less) (keys_of es) →
    AllByRecursion (λ y. compare_texts k.0 y ≡ Less) (inlined_names es)
names_above k [] h = tt
names_above k (e ∷ es) h = go (is_marked_inline e.1) (names_above k es h.1)
  where
    go : (b : Bool) → AllByRecursion (λ y. compare_texts k.0 y ≡ Less) (inlined_names es) →
        AllByRecursion (λ y. compare_texts k.0 y ≡ Less)
        (map (λ (x : NonterminalString × NonterminalData). x.0.0)
        (cond b (e ∷ filter (λ (x : NonterminalString × NonterminalData). is_marked_inline x.1) es)
        (filter (λ (x : NonterminalString × NonterminalData). is_marked_inline x.1) es)))
    go true ih = (h.0, ih)
    go false ih = ih

names_ascend : (es : NonterminalEntries) → AreSorted es → IsStrictlySortedBy compare_texts (inlined_names es)
unfolding IsStrictlySortedBy
names_ascend [] h = tt
names_ascend (e ∷ es) h = go (is_marked_inline e.1) (names_above e.0 es h.0) (names_ascend es h.1)
  where
    go : (b : Bool) → AllByRecursion (λ y. compare_texts e.0.0 y ≡ Less) (inlined_names es) →
        IsStrictlySortedBy compare_texts (inlined_names es) →
        IsStrictlySortedBy compare_texts
        (map (λ (x : NonterminalString × NonterminalData). x.0.0)
        (cond b (e ∷ filter (λ (x : NonterminalString × NonterminalData). is_marked_inline x.1) es)
        (filter (λ (x : NonterminalString × NonterminalData). is_marked_inline x.1) es)))
    go true above ih = (above, ih)
    go false above ih = ih

-- where productions stand

-- the productions under a name stand one after another among all
record StandTogether (es : NonterminalEntries) (m : Text) : Type 0 where
  from : ℕ
  at : (i : ℕ) (p : Production) → slice_get (productions_named es m) i ≡ Some p →
      slice_get (named_productions es) (from + i) ≡ Some (named_production p)

stand_together : (es : NonterminalEntries) (m : Text) → StandTogether es m
stand_together [] m = record { from = 0; at = λ i p e. (let wrong : None ≡ Some p = e in cc) }
stand_together (e ∷ es) m = go (is_eq ((names.ghosts).cmp (name_of_text m) e.0)) refl (stand_together es m)
  where
    here : (i : ℕ) (p : Production) → slice_get e.1.productions i ≡ Some p →
        slice_get (productions_at e) i ≡ Some (named_production p)
    here i p f = slice_get-map named_production e.1.productions i ∙ ap (option_map named_production) f

    go : (b : Bool) → is_eq ((names.ghosts).cmp (name_of_text m) e.0) ≡ b → StandTogether es m → StandTogether (e ∷ es) m
    go true f later = record {
      from = 0;
      at = λ i p g.
          ap (slice_get (named_productions (e ∷ es))) (let same : 0 + i ≡ i = omega arith in same)
          ∙ get_front (productions_at e) (named_productions es) i (named_production p)
          (here i p (ap (λ (l : List Production). slice_get l i) (sym (looked_by m e es true f)) ∙ g));
    }
    go false f later = record {
      from = length (productions_at e) + later.from;
      at = λ i p g.
          slice_get-append (productions_at e) (named_productions es) (later.from + i)
          (length (productions_at e) + later.from + i) (omega arith)
          ∙ later.at i p (ap (λ (l : List Production). slice_get l i) (sym (looked_by m e es false f)) ∙ g);
    }

-- lists turned round

map_reverse : {A B : Type 0} (f : A → B) (xs : List A) → map f (reverse xs) ≡ reverse (map f xs)
map_reverse f [] = refl
map_reverse f (x ∷ xs) =
    ap (map f) (reverse_onto xs x []) ∙ map-append f (reverse xs) (x ∷ []) ∙ ap (λ l. l ++ f x ∷ []) (map_reverse f xs)
    ∙ sym (reverse_onto (map f xs) (f x) [])

same_tests : (b c : Bool) → (b ≡ true → c ≡ true) → (c ≡ true → b ≡ true) → b ≡ c
same_tests true true f g = refl
same_tests true false f g = sym (f refl)
same_tests false true f g = g refl
same_tests false false f g = refl

same_text : (a b : Text) → ◌≡◌ {A = GrammarSymbol Text} (GrammarSymbol.nonterminal a) (GrammarSymbol.nonterminal b) → a ≡ b
same_text a b e = cc

-- a nonterminal among those that are inlined on a right side stands on it
on_side : (g : EnabledGrammar) (side : RightSide) (y : Nonterminal) → Among (inlined_on g side) y →
    Among side (GrammarSymbol.nonterminal y)
on_side g [] y i = absurd i
on_side g (GrammarSymbol.terminal t ∷ side) y i = inr (on_side g side y i)
on_side g (GrammarSymbol.nonterminal x ∷ side) y i = go (is_inlined_nonterminal g x) i (λ j. on_side g side y j)
  where
    go : (b : Bool) → Among (if b then x ∷ inlined_on g side else inlined_on g side) y →
        (Among (inlined_on g side) y → Among side (GrammarSymbol.nonterminal y)) →
        Among (GrammarSymbol.nonterminal x ∷ side) (GrammarSymbol.nonterminal y)
    go true (inl e) later = inl (ap GrammarSymbol.nonterminal e)
    go true (inr j) later = inr (later j)
    go false j later = inr (later j)

module _ (g : EnabledGrammar) (prefix : Text) (es : NonterminalEntries) (sorted : AreSorted es) (own : StandUnderNames es)
    (n : IsNamedExpansion g prefix es) (one : HaveOneSide (Produces g))
    (there : (k : Text) → is_inlined_name es k ≡ true → (x : Nonterminal) × InExpansion g x × (n.name_of x ≡ k)) where
  abbrev goes_back : ℕ → Nonterminal × Origin
  goes_back = back g prefix es sorted own n

  -- all are in the expansion
  abbrev AreKnown : List Nonterminal → Type 0
  AreKnown xs = (y : Nonterminal) → Among xs y → InExpansion g y

  -- what a production of a name is of
  source : (m : Text) (p : Production) → Among (productions_named es m) p →
      IsProductionBack Nonterminal Origin Text (Produces g) (InExpansion g) n.name_of (back g prefix es sorted own n p.action.0) m
      (side_by_names p.symbols)
  source m p i = (are_named g prefix es sorted own n).no_other m p.action.0 (side_by_names p.symbols) (p, i, refl, refl)

  known : (x : Nonterminal) (o : Origin) (side : RightSide) → InExpansion g x → Produces g x o side → (y : Nonterminal) →
      Among side (GrammarSymbol.nonterminal y) → InExpansion g y
  known x o side i h y j = (are_named g prefix es sorted own n).known x o side i h y j

  same_inlined : (y : Nonterminal) → InExpansion g y → is_inlined_nonterminal g y ≡ is_inlined_name es (n.name_of y)
  same_inlined y i =
      same_tests (is_inlined_nonterminal g y) (is_inlined_name es (n.name_of y))
      (λ e. (n.inlined y i).0 ((inlined_decided g y).1 e)) (λ e. (inlined_decided g y).0 ((n.inlined y i).1 e))

  -- the inlined nonterminals on a right side are those of the side under names
  side_inlined : (symbols_there : List Symbol) (side : RightSide) → side_by_names symbols_there ≡ rename_side n.name_of side →
      ((y : Nonterminal) → Among side (GrammarSymbol.nonterminal y) → InExpansion g y) →
      map n.name_of (inlined_on g side) ≡ inlined_in_symbols es symbols_there
  side_inlined [] [] e k = refl
  side_inlined [] (q ∷ side) e k =
      (let f : [] ≡ rename_symbol n.name_of q ∷ rename_side n.name_of side = e in cc)
  side_inlined (symbols.Terminal t ∷ ss) [] e k =
      (let f : GrammarSymbol.terminal (terminal_view t) ∷ side_by_names ss ≡ [] = e in cc)
  side_inlined (symbols.Nonterminal m ∷ ss) [] e k =
      (let f : GrammarSymbol.nonterminal m.0 ∷ side_by_names ss ≡ [] = e in cc)
  side_inlined (symbols.Terminal t ∷ ss) (GrammarSymbol.terminal u ∷ side) e k =
      let f : GrammarSymbol.terminal (terminal_view t) ∷ side_by_names ss
      ≡ GrammarSymbol.terminal u ∷ rename_side n.name_of side = e in
      let rest : side_by_names ss ≡ rename_side n.name_of side = cc in
      side_inlined ss side rest (λ y i. k y (inr i))
  side_inlined (symbols.Terminal t ∷ ss) (GrammarSymbol.nonterminal y ∷ side) e k =
      let f : GrammarSymbol.terminal (terminal_view t) ∷ side_by_names ss
      ≡ GrammarSymbol.nonterminal (n.name_of y) ∷ rename_side n.name_of side = e in
      let head : GrammarSymbol.terminal (terminal_view t) ≡ GrammarSymbol.nonterminal (n.name_of y) = cc in
      cc
  side_inlined (symbols.Nonterminal m ∷ ss) (GrammarSymbol.terminal u ∷ side) e k =
      let f : GrammarSymbol.nonterminal m.0 ∷ side_by_names ss
      ≡ GrammarSymbol.terminal u ∷ rename_side n.name_of side = e in
      let head : GrammarSymbol.nonterminal m.0 ≡ GrammarSymbol.terminal u = cc in
      cc
  side_inlined (symbols.Nonterminal m ∷ ss) (GrammarSymbol.nonterminal y ∷ side) e k =
      let f : GrammarSymbol.nonterminal m.0 ∷ side_by_names ss
      ≡ GrammarSymbol.nonterminal (n.name_of y) ∷ rename_side n.name_of side = e in
      let head : GrammarSymbol.nonterminal m.0 ≡ GrammarSymbol.nonterminal (n.name_of y) = cc in
      let rest : side_by_names ss ≡ rename_side n.name_of side = cc in
      let name : n.name_of y ≡ m.0 = sym (same_text m.0 (n.name_of y) head) in
      go name (is_inlined_nonterminal g y) (is_inlined_name es m.0)
      (same_inlined y (k y (inl refl)) ∙ ap (is_inlined_name es) name)
      (side_inlined ss side rest (λ z i. k z (inr i)))
    where
      go : n.name_of y ≡ m.0 → (b c : Bool) → b ≡ c → map n.name_of (inlined_on g side) ≡ inlined_in_symbols es ss →
          map n.name_of (if b then y ∷ inlined_on g side else inlined_on g side)
          ≡ (if c then m.0 ∷ inlined_in_symbols es ss else inlined_in_symbols es ss)
      go name true true s ih =
          ap (λ (t : Text). t ∷ map n.name_of (inlined_on g side)) name ∙ ap (λ (l : List Text). m.0 ∷ l) ih
      go name false false s ih = ih
      go name true false s ih = (let wrong : true ≡ false = s in cc)
      go name false true s ih = (let wrong : false ≡ true = s in cc)

  -- productions as choices

  abbrev chosen : (m : Text) (p : Production) → Among (productions_named es m) p → ChosenSide
  chosen m p i = record { choice = (back g prefix es sorted own n p.action.0).1; side = (source m p i).from }

  abbrev AreInside : Text → List Production → Type 0
  AreInside m ps = (p : Production) → Among ps p → Among (productions_named es m) p

  abbrev all_chosen : (m : Text) (ps : List Production) →
      ((p : Production) → Among ps p → Among (productions_named es m) p) → List ChosenSide
  all_chosen m [] inside = []
  all_chosen m (p ∷ ps) inside = chosen m p (inside p (inl refl)) ∷ all_chosen m ps (λ q i. inside q (inr i))

  -- a production's choice and its right side are among them
  record IsChosen (all : List ChosenSide) (p : Production) : Type 0 where
    one_of : ChosenSide
    among : Among all one_of
    choice_is : one_of.choice ≡ (back g prefix es sorted own n p.action.0).1
    produced : Produces g (back g prefix es sorted own n p.action.0).0 one_of.choice one_of.side
    side_is : side_by_names p.symbols ≡ rename_side n.name_of one_of.side

  is_chosen : (m : Text) (p : Production) (i : Among (productions_named es m) p) → IsChosen (chosen m p i ∷ []) p
  is_chosen m p i = record {
    one_of = chosen m p i;
    among = inl refl;
    choice_is = refl;
    produced = (source m p i).produced;
    side_is = (source m p i).side_is;
  }

  chosen_found : (m : Text) (ps : List Production) (inside : AreInside m ps) (p : Production) → Among ps p →
      IsChosen (all_chosen m ps inside) p
  chosen_found m [] inside p i = absurd i
  chosen_found m (q ∷ ps) inside p (inl e) =
      let w = is_chosen m q (inside q (inl refl)) in
      subst (λ (r : Production). IsChosen (all_chosen m (q ∷ ps) inside) r) e
      (record {
        one_of = w.one_of;
        among = first w.one_of w.among;
        choice_is = w.choice_is;
        produced = w.produced;
        side_is = w.side_is;
      })
    where
      first : (c : ChosenSide) → Among (chosen m q (inside q (inl refl)) ∷ []) c → Among (all_chosen m (q ∷ ps) inside) c
      first c (inl s) = inl s
      first c (inr j) = absurd j
  chosen_found m (q ∷ ps) inside p (inr i) =
      let w = chosen_found m ps (λ r j. inside r (inr j)) p i in
      record {
        one_of = w.one_of;
        among = inr w.among;
        choice_is = w.choice_is;
        produced = w.produced;
        side_is = w.side_is;
      }

  -- and all of them are produced
  chosen_produced : (x : Nonterminal) → InExpansion g x → (ps : List Production) (inside : AreInside (n.name_of x) ps) (c : ChosenSide) →
      Among (all_chosen (n.name_of x) ps inside) c → Produces g x c.choice c.side
  chosen_produced x k [] inside c i = absurd i
  chosen_produced x k (q ∷ ps) inside c (inl e) =
      let s = source (n.name_of x) q (inside q (inl refl)) in
      let same : (back g prefix es sorted own n q.action.0).0 ≡ x =
      n.naming.apart (back g prefix es sorted own n q.action.0).0 x s.known k (sym s.name_is) in
      subst (λ (d : ChosenSide). Produces g x d.choice d.side) e
      (subst (λ (y : Nonterminal). Produces g y (back g prefix es sorted own n q.action.0).1 s.from) same s.produced)
  chosen_produced x k (q ∷ ps) inside c (inr i) = chosen_produced x k ps (λ r j. inside r (inr j)) c i

  -- where one of them stands, its production stands
  chosen_at : (m : Text) (ps : List Production) (inside : AreInside m ps) (i : ℕ) (c : ChosenSide) →
      slice_get (all_chosen m ps inside) i ≡ Some c →
      (p : Production) × (slice_get ps i ≡ Some p) × (c.choice ≡ (back g prefix es sorted own n p.action.0).1)
  chosen_at m [] inside i c e = (let wrong : None ≡ Some c = e in cc)
  chosen_at m (q ∷ ps) inside zero c e =
      (q, refl, ap (λ (d : ChosenSide). d.choice) (sym (some_is (chosen m q (inside q (inl refl))) c e)))
  chosen_at m (q ∷ ps) inside (suc i) c e = chosen_at m ps (λ r j. inside r (inr j)) i c e

  -- the choice that an action goes back to is that of its origin
  origin_is : (m : Text) (p : Production) → Among (productions_named es m) p →
      slice_get n.origins p.action.0 ≡ Some (back g prefix es sorted own n p.action.0).1
  origin_is m p i =
      let d = named_entry es m p i in
      let j = entry_production es (name_of_text m, d.0) p d.1 d.2 in
      let w = n.productions.no_other (named_production p) j in
      w.2.origin_is
      ∙ ap (λ (z : Nonterminal × Origin). Some z.1) (sym (back_is g prefix es sorted own n (named_production p) w.0 w.1 j w.2))

  in_order : (m : Text) (i j : ℕ) (p q : Production) → i < j → slice_get (productions_named es m) i ≡ Some p →
      slice_get (productions_named es m) j ≡ Some q →
      Among (productions_named es m) p → Among (productions_named es m) q →
      IsOriginBefore (back g prefix es sorted own n p.action.0).1 (back g prefix es sorted own n q.action.0).1
  in_order m i j p q l e f a b =
      let s = stand_together es m in
      let same : p.nonterminal.0 ≡ q.nonterminal.0 = named_name es own m p a ∙ sym (named_name es own m q b) in
      let o = n.productions.in_order (s.from + i) (s.from + j) (named_production p) (named_production q) (omega (arith, l)) (s.at i p e)
      (s.at j q f) same in
      o.choices (back g prefix es sorted own n p.action.0).1 (back g prefix es sorted own n q.action.0).1 (origin_is m p a)
      (origin_is m q b)

  among_got : {A : Type 0} (xs : List A) (i : ℕ) (x : A) → slice_get xs i ≡ Some x → Among xs x
  among_got [] i x e = (let wrong : None ≡ Some x = e in cc)
  among_got (y ∷ xs) zero x e = inl (some_is y x e)
  among_got (y ∷ xs) (suc i) x e = inr (among_got xs i x e)

  chosen_is : (c : ChosenSide) (o : Origin) (side : RightSide) → c.choice ≡ o → c.side ≡ side → c ≡ record { choice = o; side = side }
  chosen_is c o side e f =
      ap (λ (z : Origin). record { choice = z; side = c.side }) e ∙ ap (λ (z : RightSide). record { choice = o; side = z }) f

  -- these are what the nonterminal produces, in order
  all_are : (x : Nonterminal) → InExpansion g x →
      AreChosenSides g x (all_chosen (n.name_of x) (productions_named es (n.name_of x)) (λ p i. i))
  all_are x k = record {
    each = λ o side.
        (found o side, λ i. chosen_produced x k (productions_named es (n.name_of x)) (λ p j. j) (record { choice = o; side = side }) i);
    ordered = λ i j a b l e f.
        let p = chosen_at (n.name_of x) (productions_named es (n.name_of x)) (λ r h. h) i a e in
        let q = chosen_at (n.name_of x) (productions_named es (n.name_of x)) (λ r h. h) j b f in
        let before = in_order (n.name_of x) i j p.0 q.0 l p.1 q.1 (among_got (productions_named es (n.name_of x)) i p.0 p.1)
        (among_got (productions_named es (n.name_of x)) j q.0 q.1) in
        subst (λ (o : Origin). IsOriginBefore o b.choice) (sym p.2)
        (subst (λ (o : Origin). IsOriginBefore (back g prefix es sorted own n p.0.action.0).1 o) (sym q.2) before);
  }
    where
      found : (o : Origin) (side : RightSide) → Produces g x o side →
          Among (all_chosen (n.name_of x) (productions_named es (n.name_of x)) (λ p i. i)) (record { choice = o; side = side })
      found o side h =
          let r = (are_named g prefix es sorted own n).every x o side k h in
          let p = r.1.0 in
          let c = chosen_found (n.name_of x) (productions_named es (n.name_of x)) (λ q i. i) p r.1.1 in
          let goes : back g prefix es sorted own n p.action.0 ≡ (x, o) = ap (back g prefix es sorted own n) r.1.2 ∙ r.2 in
          let heads : (back g prefix es sorted own n p.action.0).0 ≡ x = ap (λ (z : Nonterminal × Origin). z.0) goes in
          let choices : c.one_of.choice ≡ o = c.choice_is ∙ ap (λ (z : Nonterminal × Origin). z.1) goes in
          let produced : Produces g x o c.one_of.side =
          subst (λ (z : Origin). Produces g x z c.one_of.side) choices
          (subst (λ (z : Nonterminal). Produces g z c.one_of.choice c.one_of.side) heads c.produced) in
          subst (λ (d : ChosenSide). Among (all_chosen (n.name_of x) (productions_named es (n.name_of x)) (λ q i. i)) d)
          (chosen_is c.one_of o side choices (one x o c.one_of.side side produced h)) c.among

  -- what they name, under names
  all_named : (m : Text) (ps : List Production) (inside : AreInside m ps) →
      map n.name_of (flat_map (λ (c : ChosenSide). inlined_on g c.side) (all_chosen m ps inside)) ≡ inlined_in_productions es ps
  all_named m [] inside = refl
  all_named m (q ∷ ps) inside =
      let s = source m q (inside q (inl refl)) in
      let behind = flat_map (λ (c : ChosenSide). inlined_on g c.side) (all_chosen m ps (λ r i. inside r (inr i))) in
      map-append n.name_of (inlined_on g s.from) behind
      ∙ ap (λ (l : List Text). l ++ map n.name_of behind)
      (side_inlined q.symbols s.from s.side_is
      (known (back g prefix es sorted own n q.action.0).0 (back g prefix es sorted own n q.action.0).1 s.from s.known s.produced))
      ∙ ap (λ (l : List Text). inlined_in_symbols es q.symbols ++ l) (all_named m ps (λ r i. inside r (inr i)))

  record HasNames (x : Nonterminal) : Type 0 where
    listed : List Nonterminal
    are_named_by : AreInlinedNamed g x listed
    names_are_theirs : map n.name_of listed ≡ inlined_named_by es (n.name_of x)
    are_known : AreKnown listed

  has_names : (x : Nonterminal) → InExpansion g x → HasNames x
  has_names x k =
      let all = all_chosen (n.name_of x) (productions_named es (n.name_of x)) (λ p i. i) in
      record {
        listed = flat_map (λ (c : ChosenSide). inlined_on g c.side) all;
        are_named_by = (all, all_are x k, refl);
        names_are_theirs = all_named (n.name_of x) (productions_named es (n.name_of x)) (λ p i. i);
        are_known = λ y i.
            let w = among_flat_map (λ (c : ChosenSide). inlined_on g c.side) all y i in
            known x w.0.choice w.0.side k (chosen_produced x k (productions_named es (n.name_of x)) (λ p j. j) w.0 w.1) y
            (on_side g w.0.side y w.2);
      }

  -- walks

  back_among : (xs : List Nonterminal) (x : Nonterminal) → AreKnown xs → InExpansion g x → Among (map n.name_of xs) (n.name_of x) →
      Among xs x
  back_among xs x all k i =
      let w = among_map n.name_of xs (n.name_of x) i in
      subst (λ (y : Nonterminal). Among xs y) (n.naming.apart w.0 x (all w.0 w.1) k w.2) w.1

  known_parts : (xs ys : List Nonterminal) → AreKnown xs → AreKnown ys → AreKnown (xs ++ ys)
  known_parts xs ys a b y i = go (among_parts xs ys y i)
    where
      go : Among xs y ⊎ Among ys y → InExpansion g y
      go (inl j) = a y j
      go (inr j) = b y j

  known_one : (x : Nonterminal) → InExpansion g x → AreKnown (x ∷ [])
  known_one x k y (inl e) = subst (InExpansion g) e k
  known_one x k y (inr i) = absurd i

  -- a walk over nonterminals that is one over their names
  record IsWalkedBy (w : OrderWalk) (before xs : List Nonterminal) : Type 0 where
    walk : NonterminalWalk
    is_walk : IsNonterminalWalk g before xs walk
    names_met : map n.name_of (walked_nonterminals walk) ≡ order_of_walk w
    are_known : AreKnown (walked_nonterminals walk)

  walked_by : (w : OrderWalk) (before xs : List Nonterminal) → AreKnown before → AreKnown xs →
      IsOrderWalk es (map n.name_of before) (map n.name_of xs) w → IsWalkedBy w before xs
  walked_by OrderWalk.no_more before [] b k h =
      record { walk = NonterminalWalk.no_more; is_walk = tt; names_met = refl; are_known = λ y i. absurd i }
  walked_by (OrderWalk.met_before w) before [] b k h = absurd h
  walked_by (OrderWalk.met_first m inside w) before [] b k h = absurd h
  walked_by OrderWalk.no_more before (x ∷ xs) b k h = absurd h
  walked_by (OrderWalk.met_before w) before (x ∷ xs) b k h =
      let r = walked_by w before xs b (λ y i. k y (inr i)) h.1 in
      record {
        walk = NonterminalWalk.met_before r.walk;
        is_walk = (back_among before x b (k x (inl refl)) h.0, r.is_walk);
        names_met = r.names_met;
        are_known = r.are_known;
      }
  walked_by (OrderWalk.met_first m inside w) before (x ∷ xs) b k h =
      let here = k x (inl refl) in
      let l = has_names x here in
      let r = walked_by inside before (reverse l.listed) b (λ y i. l.are_known y (among_reverse l.listed y i))
      (subst (λ (ns : List Text). IsOrderWalk es (map n.name_of before) ns inside)
      (ap reverse (sym l.names_are_theirs) ∙ sym (map_reverse n.name_of l.listed)) h.2) in
      let met : map n.name_of (before ++ walked_nonterminals r.walk ++ x ∷ [])
      ≡ map n.name_of before ++ order_of_walk inside ++ n.name_of x ∷ [] =
      map-append n.name_of (before ++ walked_nonterminals r.walk) (x ∷ [])
      ∙ ap (λ (t : List Text). t ++ n.name_of x ∷ [])
      (map-append n.name_of before (walked_nonterminals r.walk) ∙ ap (λ (t : List Text). map n.name_of before ++ t) r.names_met) in
      let s = walked_by w (before ++ walked_nonterminals r.walk ++ x ∷ []) xs
      (known_parts (before ++ walked_nonterminals r.walk) (x ∷ []) (known_parts before (walked_nonterminals r.walk) b r.are_known)
      (known_one x here))
      (λ y i. k y (inr i)) (subst (λ (t : List Text). IsOrderWalk es t (map n.name_of xs) w) (sym met) h.3) in
      record {
        walk = NonterminalWalk.met_first x r.walk s.walk;
        is_walk = (refl, λ i. h.1 (map_among n.name_of before x i), (l.listed, l.are_named_by, r.is_walk), s.is_walk);
        names_met =
            map-append n.name_of (walked_nonterminals r.walk) (x ∷ walked_nonterminals s.walk)
            ∙ ap (λ (t : List Text). t ++ n.name_of x ∷ map n.name_of (walked_nonterminals s.walk)) r.names_met
            ∙ ap (λ (t : List Text). order_of_walk inside ++ n.name_of x ∷ t) s.names_met
            ∙ ap (λ (t : Text). order_of_walk inside ++ t ∷ order_of_walk w) (sym h.0);
        are_known = known_parts (walked_nonterminals r.walk) (x ∷ walked_nonterminals s.walk) r.are_known
            (known_parts (x ∷ []) (walked_nonterminals s.walk) (known_one x here) s.are_known);
      }

  -- nonterminals of inlined names
  record HaveNames (ks : List Text) : Type 0 where
    listed : List Nonterminal
    names_are_theirs : map n.name_of listed ≡ ks
    are_known : AreKnown listed

  have_names : (ks : List Text) → ((k : Text) → Among ks k → is_inlined_name es k ≡ true) → HaveNames ks
  have_names [] h = record { listed = []; names_are_theirs = refl; are_known = λ y i. absurd i }
  have_names (k ∷ ks) h =
      let x = there k (h k (inl refl)) in
      let r = have_names ks (λ j i. h j (inr i)) in
      record {
        listed = x.0 ∷ r.listed;
        names_are_theirs = ap (λ (t : Text). t ∷ map n.name_of r.listed) x.2 ∙ ap (λ (t : List Text). k ∷ t) r.names_are_theirs;
        are_known = known_parts (x.0 ∷ []) r.listed (known_one x.0 x.1) r.are_known;
      }

  -- The order of names is that of nonterminals in the expansion.
  pub record IsOrderUnderNames (order : List Text) : Type 0 where
    pub nonterminals : List Nonterminal
    pub names_are : map n.name_of nonterminals ≡ order
    pub are_known : (y : Nonterminal) → Among nonterminals y → InExpansion g y
    pub is_order : IsNonterminalOrder g n.name_of nonterminals

  pub order_under_names : (order : List Text) → IsInliningOrder es order → IsOrderUnderNames order
  order_under_names order o =
      let listed = all_listed es sorted in
      let f = have_names (inlined_names es) (λ k i. (listed k).1 i) in
      let w = walked_by o.0 [] f.listed (λ y i. absurd i) f.are_known
      (subst (λ (ns : List Text). IsOrderWalk es [] ns o.0) (sym f.names_are_theirs) o.1) in
      record {
        nonterminals = walked_nonterminals w.walk;
        names_are = w.names_met ∙ o.2;
        are_known = w.are_known;
        is_order = record {
          firsts = f.listed;
          each = λ x. (
            λ i.
                let marked : IsInlinedByName es (n.name_of x) =
                (listed (n.name_of x)).1
                (subst (λ (ns : List Text). Among ns (n.name_of x)) f.names_are_theirs (map_among n.name_of f.listed x i)) in
                (f.are_known x i, (n.inlined x (f.are_known x i)).1 marked),
            λ h.
                back_among f.listed x f.are_known h.0
                (subst (λ (ns : List Text). Among ns (n.name_of x)) (sym f.names_are_theirs)
                ((listed (n.name_of x)).0 ((n.inlined x h.0).0 h.1))),
          );
          by_name = subst (λ (ns : List Text). IsStrictlySortedBy compare_texts ns) (sym f.names_are_theirs) (names_ascend es sorted);
          walk = w.walk;
          is_walk = w.is_walk;
          order_is = refl;
        };
      }
