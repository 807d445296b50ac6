-- A start whose productions have the rule to start from alone on their right sides: it reaches nothing barren where the rule doesn't, and the
-- start of a grammar as one is read is such. For what is prepared.
use Rattle.std.proofs.Common.{◌≡◌, ◌∙◌, ◌⊎◌, List, [], ◌∷◌, ap, inl, inr, refl, subst, sym}
use Rattle.std.proofs.Common.{◌≤◌, Bool, Contains, arith, false, length, map, true}
use Rattle.std.specs.Prelude.{◌&&◌, ◌++◌}
use Rattle.std.specs.List.{list_all}
use Rattle.lalrpop_grammar_symbols.specs.Symbols.{Closed, Closeds, Text}
use Rattle.lalrpop_grammar_symbols.specs.declared.names.NonterminalString.{NonterminalString}
use Rattle.lalrpop_grammar.specs.WrittenGrammar.{Origin}
use Rattle.lalrpop_grammar_language.specs.Among.{Among}
use Rattle.lalrpop_grammar_language.specs.Enabled.{EnabledGrammar}
use Rattle.lalrpop_grammar_language.specs.Expansion.{GrammarSymbol, InExpansion, Nonterminal, Produces, RightSide}
use Rattle.lalrpop_grammar_language.specs.Inlining.{Inlines, InlinesAll}
use Rattle.lalrpop_grammar_language.specs.Labels.{Inlinings, Label}
use Rattle.lalrpop_grammar_language.specs.Levels.{loosest}
use Rattle.lalrpop_grammar_language.proofs.AmongLemmas.{contains_among}
use Rattle.lalrpop_grammar_repr.specs.declared.grammar.Grammar.{Grammar}
use Rattle.lalrpop_grammar_repr.specs.declared.production.Production.{Production}
use Rattle.lalrpop_grammar_repr.specs.declared.production.Symbol.{Symbol}
use Rattle.lalrpop_grammar_repr.specs.declared.production.Symbol.TheVariants as symbols
use Rattle.std.proofs.lemmas.Slice.Eq.{bytes_eq-Decides}
use Rattle.lalrpop_lr1_core.specs.TheoryGrammars.{theory_grammar}
use Rattle.lalrpop_lr1_core.specs.Views.{production_symbol_view, production_view}
use Rattle.lalrpop_lr1_inline.specs.InlinedNames.{NonterminalEntries}
use Rattle.lalrpop_lr1_inline.specs.InliningSteps.{productions_named}
use Rattle.lalrpop_lr1_inline.proofs.StepsLemmas.{same_bytes}
use Rattle.lalrpop_lr1_theory.specs.Productions as theory
use Rattle.lalrpop_lr1_theory.specs.Trees.{IsTreeOf, node, none}
use Rattle.lalrpop_lr1_theory.specs.ValidItems.{NoneBarren, Reaches, itself, onward}
use Rattle.lalrpop_run_prepare.specs.NamedGrammars.{StandUnderNames}
use Rattle.lalrpop_run_prepare.specs.StartRules.{is_rule_alone, leads_to_rule}
use Rattle.lalrpop_run_prepare.proofs.InlinedEntryLemmas.{AreSorted, named_entry, named_name, stands_named}
use Rattle.lalrpop_run_prepare.proofs.InlinedExpansionLemmas.{is_seen, seen}
use Rattle.lalrpop_run_theory.specs.Barren.{IsWrittenStart}
use Rattle.lalrpop_run_theory.specs.Expansions.{AreBaseExpansion, theory_side}
use Rattle.lalrpop_run_theory.proofs.BarrenLemmas.{written_start, written_start_name}
use Rattle.lalrpop_run_theory.proofs.ForestLemmas.{production_of}

-- the test by what theories see

-- the symbols are the rule alone
rule_seen : (rule : Text) (side : List Symbol) → is_rule_alone rule side ≡ true →
    map production_symbol_view side ≡ theory.nonterminal rule ∷ []
rule_seen rule [] e = let wrong : ⊥ = cc in absurd wrong
rule_seen rule (symbols.Nonterminal m ∷ []) e = ap (λ (t : Text). theory.nonterminal t ∷ []) (same_bytes m.0 rule e)
rule_seen rule (symbols.Terminal t ∷ []) e = let wrong : ⊥ = cc in absurd wrong
rule_seen rule (s ∷ t ∷ side) e = let wrong : ⊥ = cc in absurd wrong

seen_rule : (rule : Text) (side : List Symbol) → map production_symbol_view side ≡ theory.nonterminal rule ∷ [] →
    is_rule_alone rule side ≡ true
seen_rule rule [] e = let wrong : ⊥ = cc in absurd wrong
seen_rule rule (symbols.Nonterminal m ∷ []) e = let same : m.0 ≡ rule = cc in (bytes_eq-Decides m.0 rule).1 same
seen_rule rule (symbols.Terminal t ∷ []) e = let wrong : ⊥ = cc in absurd wrong
seen_rule rule (s ∷ t ∷ side) e = let wrong : ⊥ = cc in absurd wrong

-- all of them are
all_alone : (rule : Text) (ps : List Production) → list_all (λ p. is_rule_alone rule p.symbols) ps ≡ true → (p : Production) →
    Among ps p → is_rule_alone rule p.symbols ≡ true
all_alone rule [] e p i = absurd i
all_alone rule (q ∷ ps) e p i = go (is_rule_alone rule q.symbols) refl e (all_alone rule ps) i
  where
    go : (b : Bool) → is_rule_alone rule q.symbols ≡ b → (b && list_all (λ p. is_rule_alone rule p.symbols) ps) ≡ true →
        (list_all (λ p. is_rule_alone rule p.symbols) ps ≡ true → (p : Production) → Among ps p →
        is_rule_alone rule p.symbols ≡ true) →
        Among (q ∷ ps) p → is_rule_alone rule p.symbols ≡ true
    go true f h later (inl same) = subst (λ (x : Production). is_rule_alone rule x.symbols ≡ true) same f
    go true f h later (inr j) = later h p j
    go false f h later j = let wrong : ⊥ = cc in absurd wrong

each_alone : (rule : Text) (ps : List Production) → ((p : Production) → Among ps p → is_rule_alone rule p.symbols ≡ true) →
    list_all (λ p. is_rule_alone rule p.symbols) ps ≡ true
each_alone rule [] each = refl
each_alone rule (q ∷ ps) each =
    ap (λ (b : Bool). b && list_all (λ p. is_rule_alone rule p.symbols) ps) (each q (inl refl))
    ∙ each_alone rule ps (λ p i. each p (inr i))

-- where there are some, they lead to the rule where it stands alone on each right side
pub some_lead : (rule : Text) (ps : List Production) → 1 ≤ length ps →
    list_all (λ p. is_rule_alone rule p.symbols) ps ≡ leads_to_rule rule ps
some_lead rule [] h = absurd (omega arith)
some_lead rule (q ∷ ps) h = refl

lead_all : (rule : Text) (ps : List Production) → leads_to_rule rule ps ≡ true → (p : Production) → Among ps p →
    is_rule_alone rule p.symbols ≡ true
lead_all rule [] e p i = absurd i
lead_all rule (q ∷ ps) e p i = all_alone rule (q ∷ ps) e p i

lead_some : (rule : Text) (ps : List Production) → leads_to_rule rule ps ≡ true → (p : Production) × Among ps p
lead_some rule [] e = let wrong : ⊥ = cc in absurd wrong
lead_some rule (q ∷ ps) e = (q, inl refl)

all_lead : (rule : Text) (ps : List Production) (p : Production) → Among ps p →
    ((q : Production) → Among ps q → is_rule_alone rule q.symbols ≡ true) → leads_to_rule rule ps ≡ true
all_lead rule [] p i each = absurd i
all_lead rule (q ∷ ps) p i each = each_alone rule (q ∷ ps) each

-- what the start reaches

module _ (g : Grammar) (sorted : AreSorted g.nonterminals) (own : StandUnderNames g.nonterminals) (name rule : Text)
    (leads : leads_to_rule rule (productions_named g.nonterminals name) ≡ true) where
  abbrev G : theory.Production → Type 0
  G = Contains (theory_grammar g)

  -- what a production of the start has on its right side
  start_side : (p : theory.Production) → G p → p.left ≡ name → p.right ≡ theory.nonterminal rule ∷ []
  start_side p m left =
      let w = is_seen g.nonterminals p m in
      let entry_is : w.entry.0.0 ≡ name =
      ap (λ (x : NonterminalString). x.0) (sym (own w.entry w.production w.in_grammar w.in_entry))
      ∙ ap (λ (z : theory.Production). z.left) w.seen_is ∙ left in
      let there : Among (productions_named g.nonterminals name) w.production =
      subst (λ (t : Text). Among (productions_named g.nonterminals t) w.production) entry_is
      (stands_named g.nonterminals sorted w.entry w.production w.in_grammar w.in_entry) in
      sym (ap (λ (z : theory.Production). z.right) w.seen_is)
      ∙ rule_seen rule w.production.symbols
      (lead_all rule (productions_named g.nonterminals name) leads w.production there)

  -- it reaches itself, and what the rule reaches
  start_reaches : (A : Text) → Reaches G name A → (A ≡ name) ⊎ Reaches G rule A
  start_reaches A itself = inl refl
  start_reaches A (onward p B r m c) = go (start_reaches p.left r)
    where
      one : (t : Text) → Among (theory.nonterminal rule ∷ []) (theory.nonterminal t) → rule ≡ t
      one t (inl same) = cc
      one t (inr more) = absurd more

      go : (p.left ≡ name) ⊎ Reaches G rule p.left → (A ≡ name) ⊎ Reaches G rule A
      go (inr reached) = inr (onward p A reached m c)
      go (inl left) =
          let named = subst (λ (l : List theory.Symbol). Among l (theory.nonterminal A)) (start_side p m left)
          (contains_among p.right (theory.nonterminal A) c) in
          inr (subst (Reaches G rule) (one A named) itself)

  -- so it reaches nothing barren, where the rule doesn't
  pub start_none_barren : NoneBarren G rule → NoneBarren G name
  start_none_barren none_barren A r = go (start_reaches A r)
    where
      go : (A ≡ name) ⊎ Reaches G rule A → (ts : _) × IsTreeOf G A ts
      go (inr reached) = none_barren A reached
      go (inl same) =
          let s = lead_some rule (productions_named g.nonterminals name) leads in
          let d = named_entry g.nonterminals name s.0 s.1 in
          let p = production_view s.0 in
          let below = none_barren rule itself in
          let left : p.left ≡ name = named_name g.nonterminals own name s.0 s.1 in
          let m : G p = seen g.nonterminals _ s.0 d.1 d.2 in (
            node p below.0 none,
            (
              ap (λ (t : Text). theory.nonterminal t ∷ []) (left ∙ sym same),
              (m, below.1.0 ∙ sym (start_side p m left), below.1.1, tt),
            ),
          )

-- the start of a grammar as one is read

-- where nothing is inlined a right side stays as it is
kept_side : (g : EnabledGrammar) (inlinings : Inlinings Nonterminal Origin) (before side : RightSide) →
    InlinesAll (Produces g) (λ (x : Nonterminal). ⊥) before inlinings side → before ≡ side
kept_side g Inlinings.none [] side h = sym h
kept_side g (Inlinings.kept inlinings) [] side h = absurd h
kept_side g (Inlinings.inlined label inlinings) [] side h = absurd h
kept_side g Inlinings.none (p ∷ before) side h = absurd h
kept_side g (Inlinings.kept inlinings) (p ∷ before) side h =
    ap (λ l. p ∷ l) (kept_side g inlinings before h.1 h.3) ∙ sym h.2
kept_side g (Inlinings.inlined label inlinings) (GrammarSymbol.terminal t ∷ before) side h = absurd h
kept_side g (Inlinings.inlined label inlinings) (GrammarSymbol.nonterminal x ∷ before) side h = absurd h.0

module _ (g : EnabledGrammar) (prefix : Text) (before : Grammar) (e : AreBaseExpansion g prefix (Contains (theory_grammar before)))
    (n : Text) (i : InExpansion g (Nonterminal.start n)) where
  abbrev In : Nonterminal → Type 0
  In = λ x. ⊥

  -- the start produces the rule alone
  start_produced : (label : Label Nonterminal Origin) (side : RightSide) →
      Inlines (Produces g) In (Nonterminal.start n) label side → theory_side e.name_of side ≡ theory.nonterminal n ∷ []
  start_produced (Label.choose y o inlinings) side h =
      let k = h.2 in
      let x = Nonterminal.closed (Closed.call n Closeds.none (loosest k.0)) in
      let is : IsWrittenStart g n x = record { rule = k.0; is_rule = k.1; no_macro = k.2; start_is = refl } in
      ap (theory_side e.name_of) (sym (kept_side g inlinings h.1 side h.3) ∙ k.5)
      ∙ ap (λ (t : Text). theory.nonterminal t ∷ [])
      (written_start_name g prefix (Contains (theory_grammar before)) e n i x is)

  module _ (sorted : AreSorted before.nonterminals) (own : StandUnderNames before.nonterminals) where
    abbrev es : NonterminalEntries
    es = before.nonterminals

    pub start_leads : leads_to_rule n (productions_named es (prefix ++ n)) ≡ true
    start_leads =
        let named = e.naming.starts n i in
        let s = written_start g n i in
        let side = GrammarSymbol.nonterminal s.0 ∷ [] in
        let label = Label.choose (Nonterminal.start n) Origin.start (Inlinings.kept Inlinings.none) in
        let q = e.every (Nonterminal.start n) label side i (refl, side, s.2, ((λ x. x), [], refl, refl)) in
        let w = is_seen es q.0 q.1 in
        let entry_is : w.entry.0.0 ≡ prefix ++ n =
        ap (λ (x : NonterminalString). x.0) (sym (own w.entry w.production w.in_grammar w.in_entry))
        ∙ ap (λ (z : theory.Production). z.left) w.seen_is ∙ q.2.left_is ∙ named in
        let there : Among (productions_named es (prefix ++ n)) w.production =
        subst (λ (t : Text). Among (productions_named es t) w.production) entry_is
        (stands_named es sorted w.entry w.production w.in_grammar w.in_entry) in
        all_lead n (productions_named es (prefix ++ n)) w.production there (λ p j.
        let d = named_entry es (prefix ++ n) p j in
        let m = seen es _ p d.1 d.2 in
        let left : (production_view p).left ≡ e.name_of (Nonterminal.start n) =
        named_name es own (prefix ++ n) p j ∙ sym named in
        let k = production_of g In prefix (Contains (theory_grammar before)) e (production_view p) (Nonterminal.start n) m i left in
        seen_rule n p.symbols (k.right_is ∙ start_produced (e.label_of p.action.0) k.side k.inlined))
