-- A lowered grammar's productions are those of the expansion under names, as inlining speaks of both: for the law on inlined grammars.
use Rattle.std.proofs.Common.{◌≡◌, List, [], ◌∷◌, refl, ap, sym, ◌∙◌, subst, inl, inr, ℕ}
use Rattle.std.proofs.Common.{true, false, Bool, cond, eqb}
use Rattle.std.specs.Prelude.{Some, map, slice_get}
use Rattle.std.proofs.lemmas.Bool.{eqb-true, eq-eqb}
use Rattle.lalrpop_grammar_symbols.specs.Symbols.{Text}
use Rattle.lalrpop_grammar_symbols.specs.Views.{terminal_view}
use Rattle.lalrpop_grammar_symbols.specs.declared.names.NonterminalString.{NonterminalString}
use Rattle.lalrpop_grammar.specs.WrittenGrammar.{Origin}
use Rattle.lalrpop_grammar_language.specs.Among.{Among}
use Rattle.lalrpop_grammar_language.specs.Enabled.{EnabledGrammar}
use Rattle.lalrpop_grammar_language.specs.Expansion.{GrammarSymbol, Nonterminal, RightSide, Produces, InExpansion, WrittenLabel}
use Rattle.lalrpop_grammar_language.proofs.PlaceLemmas.{among_map}
use Rattle.lalrpop_grammar_repr.specs.declared.production.NonterminalData.{NonterminalData}
use Rattle.lalrpop_grammar_repr.specs.declared.production.Production.{Production}
use Rattle.lalrpop_grammar_repr.specs.declared.production.Symbol.{Symbol}
use Rattle.lalrpop_grammar_repr.specs.declared.production.Symbol.TheVariants as symbols
use Rattle.lalrpop_norm_theory.specs.Inlined.{IsInlined}
use Rattle.lalrpop_norm_theory.specs.Productions.{NamedProduction, StandsForLabel}
use Rattle.lalrpop_norm_theory.specs.Same.{rename_side}
use Rattle.lalrpop_grammar_language.proofs.AmongLemmas.{flat_map_among}
use Rattle.lalrpop_grammar_language.proofs.AmongLemmas.{map_among}
use Rattle.lalrpop_grammar_language.proofs.AmongLemmas.{among_flat_map}
use Rattle.lalrpop_grammar_language.specs.Labels.{GrammarSymbols, Label}
use Rattle.lalrpop_norm_lower.specs.LoweredSymbols.{named_production, named_productions, named_symbol, productions_at}
use Rattle.lalrpop_lr1_theory.proofs.ListLemmas.{contains_get, get_contains}
use Rattle.lalrpop_lr1_inline.specs.InlinedNames.{NonterminalEntries, name_of_text}
use Rattle.lalrpop_lr1_inline.specs.InliningSteps.{productions_named}
use Rattle.lalrpop_lr1_inline.specs.NamedProductions.{IsInlinedByName, ProducesByAction, label_given, side_by_names}
use Rattle.lalrpop_grammar_language.proofs.AmongLemmas.{among_contains, contains_among}
use Rattle.lalrpop_run_theory.proofs.ReachLemmas.{expansion_goes_along}
use Rattle.lalrpop_run_prepare.specs.NamedGrammars.{IsNamedExpansion, StandUnderNames}
use Rattle.lalrpop_run_prepare.specs.NamedLabels.{AreNamedProductions, IsProductionBack}
use Rattle.lalrpop_run_prepare.proofs.InlinedEntryLemmas.{AreSorted, named_entry, named_name, stands_named}

some_same : (p q : NamedProduction) → Some p ≡ Some q → p ≡ q
some_same p q e = cc

-- one of a list has a place
pub among_place : {A : Type 0} (xs : List A) (x : A) → Among xs x → (k : ℕ) × (slice_get xs k ≡ Some x)
among_place xs x i = contains_get xs x (among_contains xs x i)

-- what stands at a place is one of the list
pub place_among : {A : Type 0} (xs : List A) (k : ℕ) (x : A) → slice_get xs k ≡ Some x → Among xs x
place_among xs k x e = contains_among xs x (get_contains xs k x e)

-- symbols by name are named symbols
pub named_sides : (side : List Symbol) → side_by_names side ≡ map named_symbol side
named_sides [] = refl
named_sides (symbols.Nonterminal n ∷ side) = ap (λ z. GrammarSymbol.nonterminal n.0 ∷ z) (named_sides side)
named_sides (symbols.Terminal t ∷ side) = ap (λ z. GrammarSymbol.terminal (terminal_view t) ∷ z) (named_sides side)

-- a production of the grammar, and the entry in which it stands
pub production_entry : (es : NonterminalEntries) (q : NamedProduction) → Among (named_productions es) q →
    (e : NonterminalString × NonterminalData) × (p : Production) × Among es e × Among e.1.productions p × (named_production p ≡ q)
production_entry es q i =
    let u = among_flat_map productions_at es q i in
    let v = among_map named_production u.0.1.productions q u.2 in
    (u.0, v.0, u.1, v.1, v.2)

-- a production that stands in an entry is, under its name, one of the grammar's productions
pub entry_production : (es : NonterminalEntries) (e : NonterminalString × NonterminalData) (p : Production) → Among es e →
    Among e.1.productions p → Among (named_productions es) (named_production p)
entry_production es e p i j =
    flat_map_among productions_at es e (named_production p) i (map_among named_production e.1.productions p j)

abbrev Source : Type 0
Source = Nonterminal × Origin

-- what the first production that has the action tells
pub told_by : {X : Type 0} → X → (ps : List NamedProduction) → ((p : NamedProduction) → Among ps p → X) → ℕ → X
told_by x [] tells k = x
told_by x (p ∷ ps) tells k = cond (eqb p.action k) (tells p (inl refl)) (told_by x ps (λ q i. tells q (inr i)) k)

-- It is told by a production that has the action.
pub record IsToldBy (X : Type 0) (ps : List NamedProduction) (tells : (p : NamedProduction) → Among ps p → X) (k : ℕ) (found : X) :
    Type 0 where
  pub production : NamedProduction
  pub stands : Among ps production
  pub action_is : production.action ≡ k
  pub found_is : found ≡ tells production stands

-- one that some production has is told by one
pub is_told : {X : Type 0} (x : X) (ps : List NamedProduction) (tells : (p : NamedProduction) → Among ps p → X) (k : ℕ)
    (p : NamedProduction) → Among ps p → p.action ≡ k → IsToldBy X ps tells k (told_by x ps tells k)
unfolding told_by
is_told x [] tells k p i e = absurd i
is_told {X} x (q ∷ ps) tells k p i e = go (eqb q.action k) refl i (λ j. is_told x ps (λ z m. tells z (inr m)) k p j e)
  where
    go : (b : Bool) → eqb q.action k ≡ b → Among (q ∷ ps) p →
        (Among ps p → IsToldBy X ps (λ z m. tells z (inr m)) k (told_by x ps (λ z m. tells z (inr m)) k)) →
        IsToldBy X (q ∷ ps) tells k (cond b (tells q (inl refl)) (told_by x ps (λ z m. tells z (inr m)) k))
    go true f j later = record {
      production = q;
      stands = inl refl;
      action_is = eqb-true q.action k f;
      found_is = refl;
    }
    go false f (inl same) later =
        let at : q.action ≡ k = ap (λ (z : NamedProduction). z.action) same ∙ e in
        let wrong : false ≡ true = sym f ∙ eq-eqb q.action k at in
        cc
    go false f (inr j) later =
        let r = later j in
        record { production = r.production; stands = inr r.stands; action_is = r.action_is; found_is = r.found_is }

module _ (g : EnabledGrammar) (prefix : Text) (es : NonterminalEntries) (sorted : AreSorted es) (own : StandUnderNames es)
    (n : IsNamedExpansion g prefix es) where
  abbrev ps : List NamedProduction
  ps = named_productions es

  abbrev Stands : NamedProduction → WrittenLabel → RightSide → Type 0
  Stands p label side = StandsForLabel g n.name_of n.origins p label side

  source_of : (p : NamedProduction) → Among ps p → Source
  source_of p i = let r = n.productions.no_other p i in (r.0.head, r.0.choice)

  -- the nonterminal and the choice of an action
  pub back : ℕ → Nonterminal × Origin
  back k = told_by (Nonterminal.start [], Origin.start) ps source_of k

  -- an action tells its production
  pub own_action : (p q : NamedProduction) → Among ps p → Among ps q → p.action ≡ q.action → p ≡ q
  own_action p q i j e =
      let a = among_place ps p i in
      let b = among_place ps q j in
      let same : a.0 ≡ b.0 = n.productions.own_action a.0 b.0 p q a.1 b.1 e in
      let one : Some p ≡ Some q = sym a.1 ∙ ap (slice_get ps) same ∙ b.1 in
      cc

  one_label : (p : NamedProduction) (label other : WrittenLabel) (side end : RightSide) → Stands p label side → Stands p other end →
      (label.head ≡ other.head) × (label.choice ≡ other.choice)
  one_label p label other side end a b =
      let heads : label.head ≡ other.head =
      n.naming.apart label.head other.head a.in_expansion b.in_expansion (sym a.nonterminal_is ∙ b.nonterminal_is) in
      let choices : Some label.choice ≡ Some other.choice = sym a.origin_is ∙ b.origin_is in
      (heads, cc)

  -- it is that of a production with the action
  pub back_is : (p : NamedProduction) (label : WrittenLabel) (side : RightSide) → Among (named_productions es) p →
      StandsForLabel g n.name_of n.origins p label side → back p.action ≡ (label.head, label.choice)
  unfolding back source_of
  back_is p label side i s =
      let f = is_told (Nonterminal.start [], Origin.start) ps source_of p.action p i refl in
      let same : f.production ≡ p = own_action f.production p f.stands i f.action_is in
      let r = n.productions.no_other f.production f.stands in
      let t : Stands p r.0 r.1 = subst (λ (q : NamedProduction). Stands q r.0 r.1) same r.2 in
      let e = one_label p r.0 label r.1 side t s in
      f.found_is ∙ ap (λ (x : Nonterminal). (x, r.0.choice)) e.0 ∙ ap (λ (o : Origin). (label.head, o)) e.1

  -- a production under a name, and the label that it stands for
  pub record HasLabel (m : Text) (action : ℕ) (side : GrammarSymbols Text) : Type 0 where
    pub label : WrittenLabel
    pub right : RightSide
    pub production : NamedProduction
    pub among : Among (named_productions es) production
    pub stands : StandsForLabel g n.name_of n.origins production label right
    pub name_is : production.nonterminal ≡ m
    pub action_is : production.action ≡ action
    pub side_is : production.symbols ≡ side

  has_label : (m : Text) (action : ℕ) (side : GrammarSymbols Text) → ProducesByAction es m action side → HasLabel m action side
  has_label m action side h =
      let d = named_entry es m h.0 h.1 in
      let i = entry_production es (name_of_text m, d.0) h.0 d.1 d.2 in
      let r = n.productions.no_other (named_production h.0) i in
      record {
        label = r.0;
        right = r.1;
        production = named_production h.0;
        among = i;
        stands = r.2;
        name_is = named_name es own m h.0 h.1;
        action_is = h.2;
        side_is = sym (named_sides h.0.symbols) ∙ h.3;
      }

  -- the productions of the grammar are those of the expansion under names
  pub are_named : AreNamedProductions Nonterminal Origin Text ℕ (Produces g) (IsInlined g) (InExpansion g) (ProducesByAction es)
      (IsInlinedByName es) n.name_of back
  are_named = record {
    known = expansion_goes_along g;
    apart = n.naming.apart;
    every = λ x o side i m. made x o side i m;
    no_other = λ m d side h. told m d side h;
    once = λ m k d f side end h j e. one m k d f side end h j e;
    inlined = n.inlined;
  }
    where
      made : (x : Nonterminal) (o : Origin) (side : RightSide) → InExpansion g x → Produces g x o side →
          (d : ℕ) × ProducesByAction es (n.name_of x) d (rename_side n.name_of side) × (back d ≡ (x, o))
      made x o side i m =
          let r = n.productions.every (record { head = x; choice = o }) side i m in
          let p = r.1 in
          let a = place_among ps r.0 p r.2 in
          let s = r.3 in
          let u = production_entry es p a in
          let q = u.1 in
          let name : u.0.0.0 ≡ n.name_of x =
          ap (λ (k : NonterminalString). k.0) (sym (own u.0 q u.2 u.3)) ∙ ap (λ (z : NamedProduction). z.nonterminal) u.4
          ∙ s.nonterminal_is in (
            p.action,
            (
              q,
              subst (λ (t : Text). Among (productions_named es t) q) name (stands_named es sorted u.0 q u.2 u.3),
              ap (λ (z : NamedProduction). z.action) u.4,
              named_sides q.symbols ∙ ap (λ (z : NamedProduction). z.symbols) u.4 ∙ s.symbols_are,
            ),
            back_is p (record { head = x; choice = o }) side a s,
          )

      told : (m : Text) (d : ℕ) (side : GrammarSymbols Text) → ProducesByAction es m d side →
          IsProductionBack Nonterminal Origin Text (Produces g) (InExpansion g) n.name_of (back d) m side
      told m d side h =
          let r = has_label m d side h in
          let s = r.stands in
          let source : back d ≡ (r.label.head, r.label.choice) =
          ap back (sym r.action_is) ∙ back_is r.production r.label r.right r.among s in
          subst (λ (w : Source). IsProductionBack Nonterminal Origin Text (Produces g) (InExpansion g) n.name_of w m side) (sym source)
          (record {
            known = s.in_expansion;
            name_is = sym r.name_is ∙ s.nonterminal_is;
            from = r.right;
            produced = s.produced;
            side_is = sym r.side_is ∙ s.symbols_are;
          })

      one : (m k : Text) (d f : ℕ) (side end : GrammarSymbols Text) → ProducesByAction es m d side → ProducesByAction es k f end →
          back d ≡ back f → d ≡ f
      one m k d f side end h j e =
          let a = has_label m d side h in
          let b = has_label k f end j in
          let x = a.stands in
          let y = b.stands in
          let sources : (a.label.head, a.label.choice) ≡ (b.label.head, b.label.choice) =
          sym (ap back (sym a.action_is) ∙ back_is a.production a.label a.right a.among x) ∙ e
          ∙ (ap back (sym b.action_is) ∙ back_is b.production b.label b.right b.among y) in
          let heads : a.label.head ≡ b.label.head = ap (λ (w : Source). w.0) sources in
          let choices : a.label.choice ≡ b.label.choice = ap (λ (w : Source). w.1) sources in
          let c = among_place ps a.production a.among in
          let p = among_place ps b.production b.among in
          let names : a.production.nonterminal ≡ b.production.nonterminal =
          x.nonterminal_is ∙ ap n.name_of heads ∙ sym y.nonterminal_is in
          let origins : slice_get n.origins a.production.action ≡ slice_get n.origins b.production.action =
          x.origin_is ∙ ap Some choices ∙ sym y.origin_is in
          let places : c.0 ≡ p.0 = n.productions.once c.0 p.0 a.production b.production c.1 p.1 names origins in
          let same = some_same a.production b.production (sym c.1 ∙ ap (slice_get ps) places ∙ p.1) in
          sym a.action_is ∙ ap (λ (z : NamedProduction). z.action) same ∙ b.action_is

  -- the label of an action where nothing is inlined
  pub kept_label : ℕ → Label Text ℕ
  kept_label k =
      told_by (label_given [] k []) ps (λ (p : NamedProduction) i. label_given p.nonterminal p.action p.symbols) k

  -- it is that of its production
  pub kept_label_is : (m : Text) (p : Production) → Among (productions_named es m) p →
      kept_label p.action.0 ≡ label_given m p.action.0 (side_by_names p.symbols)
  unfolding kept_label
  kept_label_is m p i =
      let d = named_entry es m p i in
      let q = named_production p in
      let j = entry_production es (name_of_text m, d.0) p d.1 d.2 in
      let f = is_told (label_given [] p.action.0 []) ps (λ (r : NamedProduction) k. label_given r.nonterminal r.action r.symbols)
      p.action.0 q j refl in
      let same : f.production ≡ q = own_action f.production q f.stands j f.action_is in
      f.found_is
      ∙ ap (λ (r : NamedProduction). label_given r.nonterminal r.action r.symbols) same
      ∙ ap (λ (t : Text). label_given t p.action.0 (map named_symbol p.symbols)) (named_name es own m p i)
      ∙ ap (label_given m p.action.0) (sym (named_sides p.symbols))

  -- where nothing is inlined the productions are named so too
  pub are_named_base : AreNamedProductions Nonterminal Origin Text ℕ (Produces g) (λ x. ⊥) (InExpansion g) (ProducesByAction es)
      (λ m. ⊥) n.name_of back
  are_named_base =
      let a = are_named in
      record {
        known = a.known;
        apart = a.apart;
        every = a.every;
        no_other = a.no_other;
        once = a.once;
        inlined = λ x i. (λ h. h, λ h. h);
      }
