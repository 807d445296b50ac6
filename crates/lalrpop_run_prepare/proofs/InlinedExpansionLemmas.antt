-- Labelled productions of a lowered grammar are those of the expansion, as the theory of tables sees them: for the law on inlined
-- grammars.
use Rattle.std.proofs.Common.{◌≡◌, ◌<◌, List, [], ◌∷◌, ◌++◌, refl, ap, sym, ◌∙◌, subst, inl, inr, ℕ}
use Rattle.std.proofs.Common.{arith, length, suc, Contains}
use Rattle.std.specs.Prelude.{All, Some, flat_map, map, slice_get}
use Rattle.std.proofs.lemmas.List.Elements.{All-cons, All-nil}
use Rattle.std.proofs.lemmas.List.{map-append}
use Rattle.lalrpop_grammar_symbols.specs.Symbols.{Text}
use Rattle.lalrpop_grammar_symbols.specs.Views.{terminal_view}
use Rattle.lalrpop_grammar_symbols.specs.declared.names.NonterminalString.{NonterminalString}
use Rattle.lalrpop_grammar.specs.WrittenGrammar.{Origin}
use Rattle.lalrpop_grammar_language.specs.Among.{Among}
use Rattle.lalrpop_grammar_language.specs.Enabled.{EnabledGrammar}
use Rattle.lalrpop_grammar_language.specs.Expansion.{Nonterminal, Produces, InExpansion}
use Rattle.lalrpop_grammar_language.proofs.PlaceLemmas.{among_map}
use Rattle.lalrpop_grammar_repr.specs.declared.grammar.Grammar.{Grammar}
use Rattle.lalrpop_grammar_repr.specs.declared.production.NonterminalData.{NonterminalData}
use Rattle.lalrpop_grammar_repr.specs.declared.production.Production.{Production}
use Rattle.lalrpop_grammar_repr.specs.declared.production.Symbol.{Symbol}
use Rattle.lalrpop_grammar_repr.specs.declared.production.Symbol.TheVariants as symbols
use Rattle.lalrpop_norm_theory.specs.Inlined.{IsInlined}
use Rattle.lalrpop_norm_theory.specs.Productions.{NamedProduction}
use Rattle.lalrpop_norm_theory.specs.Same.{rename_side}
use Rattle.lalrpop_grammar_language.proofs.AmongLemmas.{flat_map_among}
use Rattle.lalrpop_grammar_language.proofs.AmongLemmas.{map_among}
use Rattle.lalrpop_grammar_language.proofs.AmongLemmas.{among_flat_map}
use Rattle.lalrpop_grammar_language.specs.Labels.{GrammarSymbols, Label}
use Rattle.lalrpop_grammar_language.specs.Inlining.{Inlines}
use Rattle.lalrpop_norm_lower.specs.LoweredSymbols.{named_production, named_productions}
use Rattle.lalrpop_lr1_theory.specs.Productions as theory
use Rattle.lalrpop_lr1_core.specs.Views.{production_symbol_view, production_view}
use Rattle.lalrpop_lr1_core.specs.TheoryGrammars.{theory_grammar}
use Rattle.lalrpop_lr1_inline.specs.InlinedGrammars.{IsInlinedGrammar}
use Rattle.lalrpop_lr1_inline.specs.InlinedNames.{NonterminalEntries, name_of_text}
use Rattle.lalrpop_lr1_inline.specs.InliningSteps.{productions_named}
use Rattle.lalrpop_lr1_inline.specs.NamedProductions.{IsInlinedByName, ProducesByAction, side_by_names}
use Rattle.lalrpop_lr1_inline.specs.InlinedLabels.{AreActionLabels, HasLabelled, StandOnce, production_actions}
use Rattle.lalrpop_lr1_inline.proofs.GivenLabelLemmas.{given_labels}
use Rattle.lalrpop_lr1_inline.proofs.LabelsExistLemmas.{labels_exist}
use Rattle.lalrpop_lr1_inline.proofs.OrderLabelLemmas.{inlined_labels}
use Rattle.lalrpop_run_theory.specs.Expansions.{AreInlinedExpansion, AreExpansion, AreBaseExpansion, theory_symbol}
use Rattle.lalrpop_grammar_language.proofs.AmongLemmas.{among_contains, contains_among}
use Rattle.lalrpop_run_prepare.specs.NamedGrammars.{IsNamedExpansion, StandUnderNames}
use Rattle.lalrpop_run_prepare.specs.NamedLabels.{AreNamedProductions, label_back}
use Rattle.lalrpop_run_prepare.proofs.InlinedEntryLemmas.{AreSorted, named_entry, named_name, stands_named, steps_own, steps_sorted}
use Rattle.lalrpop_run_prepare.proofs.NamedLabelLemmas.{label_back_once, named_inlines, source_inlines}
use Rattle.lalrpop_run_prepare.proofs.NamedProductionLemmas.{among_place, are_named, are_named_base, back}
use Rattle.lalrpop_run_prepare.proofs.NamedProductionLemmas.{kept_label, kept_label_is}

-- what the theory sees of a right side is what it sees of the side by names
theory_sides : (side : List Symbol) → map production_symbol_view side ≡ map theory_symbol (side_by_names side)
theory_sides [] = refl
theory_sides (symbols.Nonterminal n ∷ side) = ap (λ z. theory.nonterminal n.0 ∷ z) (theory_sides side)
theory_sides (symbols.Terminal t ∷ side) = ap (λ z. theory.terminal (terminal_view t) ∷ z) (theory_sides side)

-- what stands once is one
pub once_same : {A B : Type 0} (f : A → B) (xs : List A) (x y : A) → StandOnce (map f xs) → Among xs x → Among xs y →
    f x ≡ f y → x ≡ y
once_same f [] x y o i j e = absurd i
once_same f (z ∷ xs) x y o (inl a) (inl b) e = sym a ∙ b
once_same f (z ∷ xs) x y o (inl a) (inr j) e =
    absurd (o.0 (subst (λ k. Among (map f xs) k) (sym (ap f a ∙ e)) (map_among f xs y j)))
once_same f (z ∷ xs) x y o (inr i) (inl b) e =
    absurd (o.0 (subst (λ k. Among (map f xs) k) (e ∙ sym (ap f b)) (map_among f xs x i)))
once_same f (z ∷ xs) x y o (inr i) (inr j) e = once_same f xs x y o.1 i j e

-- what the theory sees of entries
abbrev pub seen_in : NonterminalEntries → List theory.Production
seen_in es = map production_view (flat_map (λ e. e.1.productions) es)

pub seen : (es : NonterminalEntries) (e : NonterminalString × NonterminalData) (q : Production) → Among es e → Among e.1.productions q →
    Contains (seen_in es) (production_view q)
seen es e q i j =
    among_contains (seen_in es) (production_view q)
    (map_among production_view (flat_map (λ (d : NonterminalString × NonterminalData). d.1.productions) es) q
    (flat_map_among (λ (d : NonterminalString × NonterminalData). d.1.productions) es e q i j))

-- A production of the theory, where it stands.
pub record IsSeen (es : NonterminalEntries) (p : theory.Production) : Type 0 where
  pub entry : NonterminalString × NonterminalData
  pub production : Production
  pub in_grammar : Among es entry
  pub in_entry : Among entry.1.productions production
  pub seen_is : production_view production ≡ p

-- what the theory sees of entries it sees of some production that stands in one of them
pub is_seen : (es : NonterminalEntries) (p : theory.Production) → Contains (seen_in es) p → IsSeen es p
is_seen es p c =
    let u = among_map production_view (flat_map (λ (d : NonterminalString × NonterminalData). d.1.productions) es) p
    (contains_among (seen_in es) p c) in
    let v = among_flat_map (λ (d : NonterminalString × NonterminalData). d.1.productions) es u.0 u.1 in
    record { entry = v.0; production = u.0; in_grammar = v.1; in_entry = v.2; seen_is = u.2 }

module _ (g : EnabledGrammar) (prefix : Text) (es : NonterminalEntries) (before_sorted : AreSorted es) (before_own : StandUnderNames es)
    (n : IsNamedExpansion g prefix es) where
  abbrev names_back : ℕ → Nonterminal × Origin
  names_back = back g prefix es before_sorted before_own n

  abbrev L : Text → ℕ → GrammarSymbols Text → Type 0
  L = ProducesByAction es

  -- labelled productions of the one kind of inlining, under their names, are those of the other
  module _ (In : Nonterminal → Type 0) (InNamed : Text → Type 0)
      (a : AreNamedProductions Nonterminal Origin Text ℕ (Produces g) In (InExpansion g) (ProducesByAction es) InNamed n.name_of
      names_back)
      (after : NonterminalEntries) (sorted : AreSorted after) (own : StandUnderNames after) (lab : ℕ → Label Text ℕ)
      (has_label : (m : Text) (p : Production) → Among (productions_named after m) p →
      Inlines (ProducesByAction es) InNamed m (lab p.action.0) (side_by_names p.symbols))
      (all : (m : Text) (label : Label Text ℕ) (side : GrammarSymbols Text) → Inlines (ProducesByAction es) InNamed m label side →
      HasLabelled after lab m label side)
      (once : (m : Text) → StandOnce (map (λ (p : Production). lab p.action.0) (productions_named after m))) where
    -- the nonterminal of a production under a name
    named_root : (m : Text) (label : Label Text ℕ) (side : GrammarSymbols Text) → Inlines L InNamed m label side →
        (x : Nonterminal) × InExpansion g x × (m ≡ n.name_of x)
    named_root m (Label.choose y d inlinings) side h =
        let q = a.no_other m d h.1 h.2 in
        ((names_back d).0, q.known, q.name_is)

    root_same : (m k : Text) (label other : Label Text ℕ) (side end : GrammarSymbols Text) → Inlines L InNamed m label side →
        Inlines L InNamed k other end → label ≡ other → m ≡ k
    root_same m k (Label.choose y d inlinings) (Label.choose z f others) side end h j e =
        let roots : y ≡ z = cc in
        sym h.0 ∙ roots ∙ j.0

    pub labelled_expansion : AreInlinedExpansion g In prefix (Contains (seen_in after))
    labelled_expansion = record {
      name_of = n.name_of;
      naming = n.naming;
      label_of = λ k. label_back names_back (lab k);
      every = λ x label side i h.
          let r = named_inlines (Produces g) In (InExpansion g) L InNamed n.name_of names_back a label x side i h in
          let w = all (n.name_of x) r.named (rename_side n.name_of side) r.produced in
          let q = w.production in
          let d = named_entry after (n.name_of x) q w.stands in (
            production_view q,
            seen after (name_of_text (n.name_of x), d.0) q d.1 d.2,
            record {
              in_expansion = i;
              produced = h;
              left_is = named_name after own (n.name_of x) q w.stands;
              right_is = theory_sides q.symbols ∙ ap (map theory_symbol) w.side_is;
              label_is = ap (label_back names_back) w.label_is ∙ r.label_is;
            },
          );
      no_other = λ p c.
          let s = is_seen after p c in
          let q = s.production in
          let m = s.entry.0.0 in
          let found = stands_named after sorted s.entry q s.in_grammar s.in_entry in
          let h = has_label m q found in
          let x = named_root m (lab q.action.0) (side_by_names q.symbols) h in
          let r = source_inlines (Produces g) In (InExpansion g) L InNamed n.name_of names_back a (lab q.action.0) x.0
          (side_by_names q.symbols) x.1
          (subst (λ (t : Text). Inlines L InNamed t (lab q.action.0) (side_by_names q.symbols)) x.2 h) in (
            x.0,
            label_back names_back (lab q.action.0),
            r.source,
            record {
              in_expansion = x.1;
              produced = r.produced;
              left_is = ap (λ (z : theory.Production). z.left) (sym s.seen_is) ∙ named_name after own m q found ∙ x.2;
              right_is =
                  ap (λ (z : theory.Production). z.right) (sym s.seen_is) ∙ theory_sides q.symbols
                  ∙ ap (map theory_symbol) r.side_is;
              label_is = ap (λ (z : theory.Production). label_back names_back (lab z.action)) (sym s.seen_is);
            },
          );
      once = λ p r c d e. one p r (is_seen after p c) (is_seen after r d) e;
    }
      where
        one : (p r : theory.Production) → IsSeen after p → IsSeen after r →
            label_back names_back (lab p.action) ≡ label_back names_back (lab r.action) → p ≡ r
        one p r s t e =
            let q = s.production in
            let u = t.production in
            let m = s.entry.0.0 in
            let k = t.entry.0.0 in
            let i = stands_named after sorted s.entry q s.in_grammar s.in_entry in
            let j = stands_named after sorted t.entry u t.in_grammar t.in_entry in
            let h = has_label m q i in
            let v = has_label k u j in
            let backs : label_back names_back (lab q.action.0) ≡ label_back names_back (lab u.action.0) =
            ap (λ (z : theory.Production). label_back names_back (lab z.action)) s.seen_is ∙ e
            ∙ ap (λ (z : theory.Production). label_back names_back (lab z.action)) (sym t.seen_is) in
            let labels : lab q.action.0 ≡ lab u.action.0 =
            label_back_once (Produces g) In (InExpansion g) L InNamed n.name_of names_back a (lab q.action.0) (lab u.action.0) m k
            (side_by_names q.symbols) (side_by_names u.symbols) h v backs in
            let names : m ≡ k = root_same m k (lab q.action.0) (lab u.action.0) (side_by_names q.symbols) (side_by_names u.symbols) h v
            labels in
            let same : q ≡ u =
            once_same (λ (z : Production). lab z.action.0) (productions_named after m) q u (once m) i
            (subst (λ (x : Text). Among (productions_named after x) u) (sym names) j) labels in
            sym s.seen_is ∙ ap production_view same ∙ t.seen_is

-- where actions are told by their places

-- a list in which each value stands at one place has it once
once_by_place : {A B : Type 0} (f : A → B) (xs : List A) →
    ((i j : ℕ) (x y : A) → slice_get xs i ≡ Some x → slice_get xs j ≡ Some y → f x ≡ f y → i ≡ j) → StandOnce (map f xs)
once_by_place f [] one = tt
once_by_place f (x ∷ xs) one = (
  λ i.
      let r = among_map f xs (f x) i in
      let k = among_place xs r.0 r.1 in
      let same : ◌≡◌ {A = ℕ} 0 (suc k.0) = one 0 (suc k.0) x r.0 refl k.1 (sym r.2) in
      omega (arith, same),
  once_by_place f xs (λ i j y z a b e.
      let same : suc i ≡ suc j = one (suc i) (suc j) y z a b e in
      omega (arith, same)),
)

-- the actions of a grammar's productions, as those of its named productions
pub actions_named : (es : NonterminalEntries) →
    production_actions es ≡ map (λ (p : NamedProduction). p.action) (named_productions es)
actions_named [] = refl
actions_named (e ∷ es) =
    ap (λ z. z ++ production_actions es) (entry_actions e.1.productions)
    ∙ ap (λ z. map (λ (p : NamedProduction). p.action) (map named_production e.1.productions) ++ z) (actions_named es)
    ∙ sym (map-append (λ (p : NamedProduction). p.action) (map named_production e.1.productions) (named_productions es))
  where
    entry_actions : (ps : List Production) →
        map (λ (p : Production). p.action.0) ps ≡ map (λ (p : NamedProduction). p.action) (map named_production ps)
    entry_actions [] = refl
    entry_actions (p ∷ ps) = ap (λ z. p.action.0 ∷ z) (entry_actions ps)

-- what holds of each of a list holds of all
pub all_of_each : {A : Type 0} (P : A → Type 0) (xs : List A) → ((x : A) → Among xs x → P x) → All P xs
all_of_each P [] h = All-nil P
all_of_each P (x ∷ xs) h = All-cons P x xs (h x (inl refl)) (all_of_each P xs (λ y i. h y (inr i)))

module _ (g : EnabledGrammar) (prefix : Text) (before : Grammar) (before_sorted : AreSorted before.nonterminals)
    (before_own : StandUnderNames before.nonterminals) (n : IsNamedExpansion g prefix before.nonterminals) where
  -- no two of its productions have one action
  pub actions_once : StandOnce (production_actions before.nonterminals)
  actions_once =
      subst (λ (l : List ℕ). StandOnce l) (sym (actions_named before.nonterminals))
      (once_by_place (λ (p : NamedProduction). p.action) (named_productions before.nonterminals)
      (λ i j p q a b e. n.productions.own_action i j p q a b e))

  -- before inlining
  pub base_expansion : AreBaseExpansion g prefix (Contains (theory_grammar before))
  base_expansion =
      let es = before.nonterminals in
      let lab = kept_label g prefix es before_sorted before_own n in
      let given = kept_label_is g prefix es before_sorted before_own n in
      let are = given_labels es lab (λ m. ⊥) (λ m h. h) given actions_once in
      labelled_expansion g prefix es before_sorted before_own n (λ x. ⊥) (λ m. ⊥)
      (are_named_base g prefix es before_sorted before_own n) es before_sorted before_own lab are.sound are.all are.once

  -- its names are those of the grammar
  pub base_names : base_expansion.name_of ≡ n.name_of
  unfolding base_expansion labelled_expansion
  base_names = refl

  -- each production's action is one of the grammar's
  abbrev AreKnown : Type 0
  AreKnown =
      (n : NonterminalString) (d : NonterminalData) (p : Production) → Among before.nonterminals (n, d) → Among d.productions p →
      p.action.0 < length before.action_fn_defns

  pub all_known : AreKnown → All (λ (e : NonterminalString × NonterminalData).
      All (λ (p : Production). p.action.0 < length before.action_fn_defns) e.1.productions) before.nonterminals
  all_known known =
      all_of_each (λ (e : NonterminalString × NonterminalData).
      All (λ (p : Production). p.action.0 < length before.action_fn_defns) e.1.productions) before.nonterminals
      (λ e i. all_of_each (λ (p : Production). p.action.0 < length before.action_fn_defns) e.1.productions
      (λ p j. known e.0 e.1 p i j))

  -- after inlining
  pub inlined_expansion : (after : Grammar) → IsInlinedGrammar before after → AreKnown →
      AreExpansion g prefix (Contains (theory_grammar after))
  inlined_expansion after inlined known =
      let es = before.nonterminals in
      let steps = inlined.steps in
      let labels = labels_exist before after actions_once (all_known known) inlined in
      let are = inlined_labels before after labels.0 before_sorted actions_once inlined labels.1 in
      labelled_expansion g prefix es before_sorted before_own n (IsInlined g) (IsInlinedByName es)
      (are_named g prefix es before_sorted before_own n) after.nonterminals
      (steps_sorted inlined.order es after.nonterminals before.action_fn_defns after.action_fn_defns steps before_sorted)
      (steps_own inlined.order es after.nonterminals before.action_fn_defns after.action_fn_defns steps before_own)
      labels.0 are.has_label are.all are.once

  -- its labels are those of the actions, back
  pub labels_by_actions : (after : Grammar) (inlined : IsInlinedGrammar before after) (known : AreKnown) →
      (lab : ℕ → Label Text ℕ) × AreActionLabels before after lab
      × ((k : ℕ) → (inlined_expansion after inlined known).label_of k
      ≡ label_back (back g prefix before.nonterminals before_sorted before_own n) (lab k))
  unfolding inlined_expansion labelled_expansion
  labels_by_actions after inlined known =
      let labels = labels_exist before after actions_once (all_known known) inlined in
      (labels.0, labels.1, λ k. refl)

  -- and its names are those of the productions before inlining
  pub names_by_actions : (after : Grammar) (inlined : IsInlinedGrammar before after) (known : AreKnown) →
      (inlined_expansion after inlined known).name_of ≡ n.name_of
  unfolding inlined_expansion labelled_expansion
  names_by_actions after inlined known = refl
