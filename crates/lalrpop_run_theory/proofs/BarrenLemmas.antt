-- What a start reaches and which nonterminals have trees, over the productions of an expansion and over the expansion: for the laws on
-- barren nonterminals and on starts.
use Rattle.std.proofs.Common.{◌≡◌, [], ◌∷◌, refl, ap, sym, ◌∙◌, subst, inl, inr, ◌⊎◌, Contains, Bool}
use Rattle.std.specs.Prelude.{false, ◌++◌}
use Rattle.lalrpop_grammar_symbols.specs.Symbols.{Text, Closed, Closeds}
use Rattle.lalrpop_grammar.specs.WrittenGrammar.{Origin}
use Rattle.lalrpop_grammar_language.specs.Among.{Among}
use Rattle.lalrpop_grammar_language.specs.Enabled.{EnabledGrammar, EnabledRule, IsRule}
use Rattle.lalrpop_grammar_language.specs.Levels.{loosest}
use Rattle.lalrpop_grammar_language.specs.Expansion.{GrammarSymbol, Nonterminal, RightSide, Produces, InExpansion}
use Rattle.lalrpop_grammar_language.specs.Derivations.{Derivation, Derivations, IsDerivationOf}
use Rattle.lalrpop_norm_theory.proofs.ExpansionListLemmas.{rule_there}
use Rattle.lalrpop_grammar_language.specs.Labels.{GrammarSymbols, Inlinings, Label}
use Rattle.lalrpop_grammar_language.specs.Inlining.{InlinesAll, Inlines, IsDecidedBy, IsNotInlined}
use Rattle.lalrpop_grammar_language.specs.ExpandedTrees.{expanded_tree, base_tree}
use Rattle.lalrpop_grammar_language.specs.WrittenTrees.{tree_of_derivation, derivation_of_tree}
use Rattle.lalrpop_grammar_language.proofs.TreeLemmas.{expanded_is}
use Rattle.lalrpop_grammar_language.proofs.TakeLemmas.{comes_back}
use Rattle.lalrpop_grammar_language.proofs.WrittenLemmas.{derivation_is_tree, tree_is_derivation}
use Rattle.lalrpop_lr1_theory.specs.Productions as theory
use Rattle.lalrpop_lr1_theory.specs.Trees.{Forest, IsTreeOf}
use Rattle.lalrpop_lr1_theory.specs.Spans.{without_spans}
use Rattle.lalrpop_lr1_theory.specs.ValidItems.{Reaches, itself, onward, IsBarren, NoneBarren}
use Rattle.lalrpop_run_theory.specs.Barren.{IsReachedFrom, IsWrittenStart, IsBarrenFrom, HasNoBarren}
use Rattle.lalrpop_run_theory.specs.Expansions.{AreInlinedExpansion, AreBaseExpansion}
use Rattle.lalrpop_run_theory.specs.ExpansionTrees.{tree_by_labels}
use Rattle.lalrpop_grammar_language.proofs.AmongLemmas.{among_contains, contains_among}
use Rattle.lalrpop_run_theory.proofs.ContainsLemmas.{inside_named, named_inside, with_blank_spans}
use Rattle.lalrpop_run_theory.proofs.ForestLemmas.{forest_is, labelled_is, production_of}
use Rattle.lalrpop_run_theory.proofs.InlinedTestLemmas.{none_decided}
use Rattle.lalrpop_run_theory.proofs.ReachLemmas.{GoesAlong, HoldsInside, along_all, along_inlined, expansion_goes_along}
use Rattle.lalrpop_run_theory.proofs.StartSideLemmas.{no_start_named, start_produces}

-- what is reached goes on along productions
pub reached_goes_along : (g : EnabledGrammar) (from : Nonterminal) → GoesAlong (Produces g) (IsReachedFrom g from)
reached_goes_along g from x o side r m y a = IsReachedFrom.onward x o side y r m a

-- and is in the expansion, where its first is
pub reached_is_in : (g : EnabledGrammar) (from x : Nonterminal) → InExpansion g from → IsReachedFrom g from x → InExpansion g x
reached_is_in g from x i IsReachedFrom.itself = i
reached_is_in g from x i (IsReachedFrom.onward y o side z r m a) =
    expansion_goes_along g y o side (reached_is_in g from y i r) m x a

-- the rule has that name
rule_name : (g : EnabledGrammar) (n : Text) (r : EnabledRule) → IsRule g n r → r.name ≡ n
rule_name g n r h = (rule_there g n r h).1

abbrev IsNoStart : Text → Nonterminal → Type 0
IsNoStart n x = x ≡ Nonterminal.start n → ⊥

no_start_goes_along : (g : EnabledGrammar) (n : Text) → GoesAlong (Produces g) (IsNoStart n)
no_start_goes_along g n x o side h m y a same =
    no_start_named g x o side n m (subst (λ z. Among side (GrammarSymbol.nonterminal z)) same a)

-- no right side after inlining names a start
no_start_inlined : (g : EnabledGrammar) (In : Nonterminal → Type 0) (n : Text) (label : Label Nonterminal Origin) (x : Nonterminal)
    (side : RightSide) → Inlines (Produces g) In x label side → HoldsInside (IsNoStart n) side
no_start_inlined g In n (Label.choose z o inlinings) x side h =
    along_all (Produces g) In (IsNoStart n) (no_start_goes_along g n) inlinings h.1 side
    (λ y a same. no_start_named g x o h.1 n h.2 (subst (λ w. Among h.1 (GrammarSymbol.nonterminal w)) same a)) h.3

module _ (g : EnabledGrammar) (In : Nonterminal → Type 0) (prefix : Text) (G : theory.Production → Type 0)
    (e : AreInlinedExpansion g In prefix G) where
  -- a derivation gives a tree over the productions
  pub derived_tree : (f : Nonterminal → Bool) → IsDecidedBy In f → (x : Nonterminal) → InExpansion g x → (d : Derivation) →
      IsDerivationOf g (GrammarSymbol.nonterminal x) d → (ts : Forest) × IsTreeOf G (e.name_of x) ts
  derived_tree f decides x i d h =
      let p = GrammarSymbol.nonterminal x in
      let t = expanded_is (Produces g) In f decides p (tree_of_derivation d) (derivation_is_tree g p d h) in
      let r = forest_is g In prefix G e x (expanded_tree f (tree_of_derivation d)) i t in
      (without_spans r.0, r.1)

  -- a tree over the productions gives a derivation
  pub tree_derived : (f : Nonterminal → Bool) → IsDecidedBy In f → (x : Nonterminal) → InExpansion g x → (ts : Forest) →
      IsTreeOf G (e.name_of x) ts → (d : Derivation) × IsDerivationOf g (GrammarSymbol.nonterminal x) d
  tree_derived f decides x i ts h =
      let p = GrammarSymbol.nonterminal x in
      let us = with_blank_spans ts in
      let d = tree_by_labels e.label_of us.0 in
      let k = labelled_is g In prefix G e x us.0 i (subst (IsTreeOf G (e.name_of x)) (sym us.1) h) in
      (derivation_of_tree (base_tree d), tree_is_derivation g p (base_tree d) (comes_back (Produces g) In f decides d p k.0).0)

  -- what goes on along productions holds of each nonterminal that a name reaches
  pub reached_holds : (P : Nonterminal → Type 0) → GoesAlong (Produces g) P → ((x : Nonterminal) → P x → InExpansion g x) →
      (root : Nonterminal) → P root → (n : Text) → Reaches G (e.name_of root) n → (x : Nonterminal) × P x × (e.name_of x ≡ n)
  reached_holds P along there root k n itself = (root, k, refl)
  reached_holds P along there root k n (onward p b r m c) =
      let x = reached_holds P along there root k p.left r in
      let q = production_of g In prefix G e p x.0 m (there x.0 x.1) (sym x.2) in
      let y = inside_named e.name_of q.side n
      (subst (λ s. Among s (theory.nonterminal n)) q.right_is (contains_among p.right (theory.nonterminal n) c)) in
      (y.0, along_inlined (Produces g) In P along (e.label_of p.action) x.0 q.side x.1 q.inlined y.0 y.1, y.2)

  -- no production names a start
  pub start_is_alone : (n : Text) → InExpansion g (Nonterminal.start n) → (p : theory.Production) → G p →
      Contains p.right (theory.nonterminal (prefix ++ n)) → ⊥
  start_is_alone n i p m c =
      let q = e.no_other p m in
      let s = q.3 in
      let y = inside_named e.name_of q.2 (prefix ++ n)
      (subst (λ s. Among s (theory.nonterminal (prefix ++ n))) s.right_is
      (contains_among p.right (theory.nonterminal (prefix ++ n)) c)) in
      let in_expansion = along_inlined (Produces g) In (InExpansion g) (expansion_goes_along g) q.1 q.0 q.2 s.in_expansion s.produced
      y.0 y.1 in
      let same : y.0 ≡ Nonterminal.start n =
      e.naming.apart y.0 (Nonterminal.start n) in_expansion i (y.2 ∙ sym (e.naming.starts n i)) in
      no_start_inlined g In n q.1 q.0 q.2 s.produced y.0 y.1 same

-- what the start of an expansion and its written start are

-- the written start stands alone in the production of the expansion's start
pub written_start : (g : EnabledGrammar) (n : Text) → InExpansion g (Nonterminal.start n) →
    (x : Nonterminal) × IsWrittenStart g n x × Produces g (Nonterminal.start n) Origin.start (GrammarSymbol.nonterminal x ∷ [])
written_start g n i =
    let p = start_produces g n i in
    let m = p.1 in
    let x = Nonterminal.closed (Closed.call n Closeds.none (loosest m.0)) in (
      x,
      record { rule = m.0; is_rule = m.1; no_macro = m.2; start_is = refl },
      (m.0, m.1, m.2, m.3, refl, refl),
    )

one_rule : (g : EnabledGrammar) (n : Text) (r s : EnabledRule) → IsRule g n r → IsRule g n s → r ≡ s
one_rule g n r s a b = let e : r ∷ [] ≡ s ∷ [] = sym a ∙ b in cc

-- it is one
pub written_start_once : (g : EnabledGrammar) (n : Text) (x y : Nonterminal) → IsWrittenStart g n x → IsWrittenStart g n y → x ≡ y
written_start_once g n x y a b =
    a.start_is
    ∙ ap (λ (r : EnabledRule). Nonterminal.closed (Closed.call n Closeds.none (loosest r)))
    (one_rule g n a.rule b.rule a.is_rule b.is_rule)
    ∙ sym b.start_is

-- it is in the expansion, where the expansion's start is
pub written_start_there : (g : EnabledGrammar) (n : Text) (x : Nonterminal) → InExpansion g (Nonterminal.start n) →
    IsWrittenStart g n x → InExpansion g x
written_start_there g n x i h =
    let s = written_start g n i in
    subst (InExpansion g) (written_start_once g n s.0 x s.1 h)
    (expansion_goes_along g (Nonterminal.start n) Origin.start (GrammarSymbol.nonterminal s.0 ∷ []) i s.2 s.0 (inl refl))

-- the start, or what the written start reaches
abbrev IsStartOrReached : EnabledGrammar → Text → Nonterminal → Nonterminal → Type 0
IsStartOrReached g n from x = (x ≡ Nonterminal.start n) ⊎ IsReachedFrom g from x

start_goes_along : (g : EnabledGrammar) (n : Text) (from : Nonterminal) → IsWrittenStart g n from →
    GoesAlong (Produces g) (IsStartOrReached g n from)
start_goes_along g n from h x o side (inr r) m y a = inr (IsReachedFrom.onward x o side y r m a)
start_goes_along g n from h x o side (inl e) m y a =
    inr (alone (subst (λ z. Produces g z o side) e m))
  where
    alone : Produces g (Nonterminal.start n) o side → IsReachedFrom g from y
    alone k =
        let w = Nonterminal.closed (Closed.call n Closeds.none (loosest k.0)) in
        let is : IsWrittenStart g n w = record { rule = k.0; is_rule = k.1; no_macro = k.2; start_is = refl } in
        one w is (subst (λ s. Among s (GrammarSymbol.nonterminal y)) k.5 a)
      where
        one : (w : Nonterminal) → IsWrittenStart g n w → Among (GrammarSymbol.nonterminal w ∷ []) (GrammarSymbol.nonterminal y) →
            IsReachedFrom g from y
        one w is (inl same) =
            let names : w ≡ y = cc in
            subst (IsReachedFrom g from) (written_start_once g n from w h is ∙ names) IsReachedFrom.itself
        one w is (inr more) = absurd more

-- Where the written start reaches nothing barren, the expansion's start doesn't after inlining.
pub none_barren_after : (g : EnabledGrammar) (In : Nonterminal → Type 0) (prefix : Text) (G : theory.Production → Type 0) →
    AreInlinedExpansion g In prefix G → (f : Nonterminal → Bool) → IsDecidedBy In f → (n : Text) →
    InExpansion g (Nonterminal.start n) → HasNoBarren g n → NoneBarren G (prefix ++ n)
none_barren_after g In prefix G e f decides n i none name r =
    let s = written_start g n i in
    let there = written_start_there g n s.0 i s.1 in
    let in_expansion : (x : Nonterminal) → IsStartOrReached g n s.0 x → InExpansion g x = λ x k. inside s.0 there x k in
    let x = reached_holds g In prefix G e (IsStartOrReached g n s.0) (start_goes_along g n s.0 s.1) in_expansion (Nonterminal.start n)
    (inl refl) name (subst (λ m. Reaches G m name) (sym (e.naming.starts n i)) r) in
    let d = derivation s.0 s.1 s.2 x.0 x.1 in
    let t = derived_tree g In prefix G e f decides x.0 (in_expansion x.0 x.1) d.0 d.1 in
    (t.0, subst (λ m. IsTreeOf G m t.0) x.2 t.1)
  where
    inside : (from : Nonterminal) → InExpansion g from → (x : Nonterminal) → IsStartOrReached g n from x → InExpansion g x
    inside from there x (inl same) = subst (InExpansion g) (sym same) i
    inside from there x (inr k) = reached_is_in g from x there k

    derivation : (from : Nonterminal) → IsWrittenStart g n from →
        Produces g (Nonterminal.start n) Origin.start (GrammarSymbol.nonterminal from ∷ []) → (x : Nonterminal) →
        IsStartOrReached g n from x → (d : Derivation) × IsDerivationOf g (GrammarSymbol.nonterminal x) d
    derivation from is m x (inr k) = none from x is k
    derivation from is m x (inl same) =
        let below = none from from is IsReachedFrom.itself in (
          Derivation.node (Nonterminal.start n) Origin.start (Derivations.more below.0 Derivations.none),
          subst (λ y. IsDerivationOf g (GrammarSymbol.nonterminal y)
              (Derivation.node (Nonterminal.start n) Origin.start (Derivations.more below.0 Derivations.none))) (sym same)
              (refl, GrammarSymbol.nonterminal from ∷ [], m, (below.1, tt)),
        )

-- before inlining

-- a label in which nothing is inlined
abbrev all_kept : {N C : Type 0} → GrammarSymbols N → Inlinings N C
all_kept [] = Inlinings.none
all_kept (p ∷ side) = Inlinings.kept (all_kept side)

keeps_symbol : (p : GrammarSymbol Nonterminal) → IsNotInlined (λ (x : Nonterminal). ⊥) p
keeps_symbol (GrammarSymbol.terminal t) = tt
keeps_symbol (GrammarSymbol.nonterminal x) = λ i. i

keeps_all : (g : EnabledGrammar) (side : RightSide) → InlinesAll (Produces g) (λ x. ⊥) side (all_kept side) side
keeps_all g [] = refl
keeps_all g (p ∷ side) = (keeps_symbol p, side, refl, keeps_all g side)

module _ (g : EnabledGrammar) (prefix : Text) (G : theory.Production → Type 0) (e : AreBaseExpansion g prefix G) (n : Text)
    (i : InExpansion g (Nonterminal.start n)) where
  -- the written start has its rule's name
  pub written_start_name : (from : Nonterminal) → IsWrittenStart g n from → e.name_of from ≡ n
  written_start_name from h =
      let name = rule_name g n h.rule h.is_rule in
      let named : e.name_of (Nonterminal.closed (Closed.call h.rule.name Closeds.none (loosest h.rule))) ≡ h.rule.name =
      e.naming.rules h.rule (subst (λ m. IsRule g m h.rule) (sym name) h.is_rule) h.no_macro in
      ap e.name_of h.start_is
      ∙ ap (λ m. e.name_of (Nonterminal.closed (Closed.call m Closeds.none (loosest h.rule)))) (sym name) ∙ named ∙ name

  -- what it reaches is reached by names
  pub reached_named : (from x : Nonterminal) → IsWrittenStart g n from → IsReachedFrom g from x → Reaches G n (e.name_of x)
  reached_named from x h IsReachedFrom.itself = subst (Reaches G n) (sym (written_start_name from h)) itself
  reached_named from x h (IsReachedFrom.onward y o side z r m a) =
      let before = reached_named from y h r in
      let there = reached_is_in g from y (written_start_there g n from i h) r in
      let q = e.every y (Label.choose y o (all_kept side)) side there (refl, side, m, keeps_all g side) in
      let s = q.2 in
      onward q.0 (e.name_of x) (subst (Reaches G n) (sym s.left_is) before) q.1
      (among_contains q.0.right (theory.nonterminal (e.name_of x))
      (subst (λ l. Among l (theory.nonterminal (e.name_of x))) (sym s.right_is) (named_inside e.name_of side x a)))

  -- and the other way round
  pub named_reached : (from : Nonterminal) → IsWrittenStart g n from → (name : Text) → Reaches G n name →
      (x : Nonterminal) × IsReachedFrom g from x × (e.name_of x ≡ name)
  named_reached from h name r =
      reached_holds g (λ x. ⊥) prefix G e (IsReachedFrom g from) (reached_goes_along g from)
      (λ x k. reached_is_in g from x (written_start_there g n from i h) k) from IsReachedFrom.itself name
      (subst (λ m. Reaches G m name) (sym (written_start_name from h)) r)

  -- barren names are those of barren nonterminals
  pub named_barren : (name : Text) → IsBarren G n name → (x : Nonterminal) × IsBarrenFrom g n x × (e.name_of x ≡ name)
  named_barren name b =
      let s = written_start g n i in
      let r = named_reached s.0 s.1 name b.0 in
      let there = reached_is_in g s.0 r.0 (written_start_there g n s.0 i s.1) r.1 in (
        r.0,
        record {
          from = s.0;
          is_start = s.1;
          reached = r.1;
          barren = λ d h.
              let t = derived_tree g (λ x. ⊥) prefix G e (λ x. false) none_decided r.0 there d h in
              b.1 t.0 (subst (λ m. IsTreeOf G m t.0) r.2 t.1);
        },
        r.2,
      )

  pub barren_named : (x : Nonterminal) → IsBarrenFrom g n x → IsBarren G n (e.name_of x)
  barren_named x b = (
    reached_named b.from x b.is_start b.reached,
    λ ts h.
        let there = reached_is_in g b.from x (written_start_there g n b.from i b.is_start) b.reached in
        let d = tree_derived g (λ y. ⊥) prefix G e (λ y. false) none_decided x there ts h in
        b.barren d.0 d.1,
  )

  -- where no name is barren, no nonterminal is
  pub none_barren_named : NoneBarren G n → HasNoBarren g n
  none_barren_named none from x h r =
      let there = reached_is_in g from x (written_start_there g n from i h) r in
      let t = none (e.name_of x) (reached_named from x h r) in
      tree_derived g (λ y. ⊥) prefix G e (λ y. false) none_decided x there t.0 t.1
