-- Computed examples of what a normalized grammar isn't, and of what is open of one until it is given; and near misses.
use Rattle.std.proofs.Common.{◌≡◌, ◌⊎◌, ◌∙◌, ◌<◌, ℕ, List, [], ◌∷◌, refl, ap, sym, subst, inl, inr, arith, true, false}
use Rattle.std.specs.Prelude.{Some, None, IsSomeAnd, codes, length}
use Rattle.lalrpop_grammar_symbols.specs.Symbols.{Closed, Closeds, Op, Sym, Terminal, Text, TextSpan, WrittenSymbol}
use Rattle.lalrpop_grammar_symbols.specs.declared.terminal.TerminalString.{TerminalString}
use Rattle.lalrpop_grammar.specs.WrittenGrammar.{Action, Attr, Grammar, Origin, Rule, rules_of}
use Rattle.lalrpop_grammar.specs.declared.types.type_repr.TypeRepr.{TypeRepr}
use Rattle.lalrpop_grammar_language.specs.Among.{Among}
use Rattle.lalrpop_grammar_language.specs.Enabled.{Choice, EnabledGrammar, EnabledRule, IsRule, enabled_grammar}
use Rattle.lalrpop_grammar_language.specs.Expansion.{InExpansion, Nonterminal}
use Rattle.lalrpop_grammar_language.proofs.WrittenTreeLemmas.{alt, finds, grammar, here, lit, rule_of}
use Rattle.lalrpop_grammar_repr.specs.Maps.{at_name, at_terminal}
use Rattle.lalrpop_norm_keys.specs.KeyPlaces.{IsKeyPlaceIn, IsShapeKey}
use Rattle.lalrpop_norm_keys.specs.MetKeys.{MetKey}
use Rattle.lalrpop_norm_theory.specs.Between.{without_cfg}
use Rattle.lalrpop_norm_theory.specs.Types.{text_type}
use Rattle.lalrpop_norm_theory.proofs.ExpansionListLemmas.{reached-in}
use Rattle.lalrpop_norm_token_check.specs.Entries.{tokenizer_entries}
use Rattle.lalrpop_norm_tyinfer.specs.GroundViews.{type_repr_view}
use Rattle.lalrpop_norm_tyinfer.specs.TypeFaults.{nonterminal_of}
use Rattle.lalrpop_norm_lower.specs.NumberOrders.{AreNumberedAlong}
use Rattle.lalrpop_norm_chain.specs.Lowered.{LoweredGrammar}
use Rattle.lalrpop_norm_chain.specs.Normalized.{IsNormalized}
use Rattle.lalrpop_norm_chain.specs.OneNormalized.{StandAlike}
use Rattle.lalrpop_norm_chain.specs.Spans.{HasOwnSpan}
use Rattle.lalrpop_norm_chain.specs.UsedLiterals.{AreUsedLiterals}
use Rattle.lalrpop_norm_chain.proofs.ExamplesOfNormalizedParts.{a, first_of_name, g, in_rule, in_start, inlined, lowered}
use Rattle.lalrpop_norm_chain.proofs.ExamplesOfNormalizedParts.{no_other, one, rule_production, s, start_production}
use Rattle.lalrpop_norm_chain.proofs.ExamplesOfNormalizedParts.{terminal_a}
use Rattle.lalrpop_norm_chain.proofs.ExamplesOfNormalized.{normalized, used_a}
use Rattle.lalrpop_norm_chain.proofs.ExamplesOfSpans.{group_at_grammar_refused, group_made, grouped, the_group}
use Rattle.lalrpop_norm_chain.proofs.OneNormalizedLemmas.{one_normalized}

-- the grammar with the rule S: u8 = "a" has no normalized grammar without a start
no_start_refused : (v : LoweredGrammar) → v.starts ≡ [] → IsNormalized finds [] one v → ⊥
no_start_refused v e h =
    subst (λ (l : List (Text × Text)). Among l (codes "S", codes "__S")) e ((h.starts (codes "S") (codes "__S")).1 (in_start, refl))

-- nor with a definition too few
few_definitions_refused : (v : LoweredGrammar) → length v.definitions ≡ 1 → length v.origins ≡ 2 →
    IsNormalized finds [] one v → ⊥
few_definitions_refused v one_there two h = let same = h.actions.no_other in omega (arith, same, one_there, two)

-- nor with a type that no nonterminal has
other_type_refused : (v : LoweredGrammar) (t : TypeRepr) (h : IsNormalized finds [] one v)
    → at_name (nonterminal_of (codes "T")) v.types ≡ Some t
    → (h.name_of (Nonterminal.start (codes "S")) ≡ codes "T" → ⊥) → (h.name_of (Nonterminal.closed s) ≡ codes "T" → ⊥) → ⊥
other_type_refused v t h e start rule = let x = h.types.no_other (codes "T") t e in go x.0 x.2 (no_other x.0 x.1)
  where
    go : (x : Nonterminal) → h.name_of x ≡ codes "T" → (Nonterminal.start (codes "S") ≡ x) ⊎ (Nonterminal.closed s ≡ x) → ⊥
    go x f (inl same) = start (ap h.name_of same ∙ f)
    go x f (inr same) = rule (ap h.name_of same ∙ f)

-- nor with an inlined name that no nonterminal has
other_inlined_refused : (v : LoweredGrammar) → v.nonterminals ≡ codes "S" ∷ codes "__S" ∷ [] → Among v.inlined (codes "T")
    → IsNormalized finds [] one v → ⊥
other_inlined_refused v e i h = go (subst (λ (l : List Text). Among l (codes "T")) e (h.no_other_inlined (codes "T") i))
  where
    go : Among (codes "S" ∷ codes "__S" ∷ []) (codes "T") → ⊥
    go (inl f) = let byte : ◌≡◌ {A = ℕ} 83 84 = ap first_of_name f in omega (arith, byte)
    go (inr (inl f)) = let byte : ◌≡◌ {A = ℕ} 95 84 = ap first_of_name f in omega (arith, byte)
    go (inr (inr m)) = absurd m

-- nor where the rule is inlined, whatever its name is
inlined_refused : (v : LoweredGrammar) (h : IsNormalized finds [] one v) → Among v.inlined (h.name_of (Nonterminal.closed s)) → ⊥
inlined_refused v h m = (inlined (Nonterminal.closed s) in_rule).1 ((h.inlined (Nonterminal.closed s) in_rule).0 m)

-- nor where a group stands elsewhere than at its own symbol
group_elsewhere_refused : (v : LoweredGrammar) (h : IsNormalized finds [] grouped v) →
    Among v.places (h.name_of (Nonterminal.closed the_group), here) → ⊥
group_elsewhere_refused v h m = group_at_grammar_refused (h.spans.places (Nonterminal.closed the_group) here group_made m)

-- nor where the rule says that it is inlined
attribute_refused : (v : LoweredGrammar) (h : IsNormalized finds [] one v) → Among v.places (h.name_of (Nonterminal.closed s), here)
    → Among v.attributes (h.name_of (Nonterminal.closed s), Attr.empty here (codes "inline") ∷ []) → ⊥
attribute_refused v h i j =
    let own = h.attributes.own (Nonterminal.closed s) here (Attr.empty here (codes "inline") ∷ []) in_rule i j in
    go own.rule own.rule_there own.attributes_are
  where
    go : (r : Rule) → Among (rules_of one.items) r → without_cfg r.attributes ≡ Attr.empty here (codes "inline") ∷ [] → ⊥
    go r (inl d) e =
        let wrong : [] ≡ Attr.empty here (codes "inline") ∷ [] = ap (λ (x : Rule). without_cfg x.attributes) d ∙ e in cc
    go r (inr m) e = absurd m

-- nor where its terminal has no type
untyped_refused : (v : LoweredGrammar) → Among v.terminals a → v.terminal_types ≡ [] → IsNormalized finds [] one v → ⊥
untyped_refused v there none h =
    subst (λ (es : List (TerminalString × TypeRepr)). IsSomeAnd (at_terminal terminal_a es) (λ u. type_repr_view u ≡ text_type)) none
    (h.terminal_types.typed terminal_a there)

-- nor with an entry too few
no_entry_refused : (v : LoweredGrammar) → v.entries ≡ [] → IsNormalized finds [] one v → ⊥
no_entry_refused v none h = go h.entries.listed.used h.entries.listed.are_used (sym none ∙ h.entries.listed.entries_are)
  where
    go : (used : List Terminal) → AreUsedLiterals g used → [] ≡ tokenizer_entries None used → ⊥
    go [] u e = (u.each a).1 ((used_a a).0 (inl refl))
    go (t ∷ ts) u e = cc

-- nor under another prefix
prefix_refused : (v : LoweredGrammar) → v.prefix ≡ codes "___" → IsNormalized finds [] one v → ⊥
prefix_refused v e h = let same : codes "__" ≡ codes "___" = sym h.prefix ∙ e in cc

-- what is one

single : (r : EnabledRule) → Among g.rules r → IsRule g r.name r
single r (inl e) = subst (λ (q : EnabledRule). IsRule g q.name q) e refl
single r (inr m) = absurd m

-- the grammar has no repeat, no group and no lookaround
nothing_placed : (u : LoweredGrammar) → StandAlike finds [] one lowered u normalized
nothing_placed u x p q shape i j k = go (no_other (Nonterminal.closed x) i)
  where
    go : (Nonterminal.start (codes "S") ≡ Nonterminal.closed x) ⊎ (Nonterminal.closed s ≡ Nonterminal.closed x) → p ≡ q
    go (inl e) = cc
    go (inr e) = let same : s ≡ x = cc in absurd (subst IsShapeKey (sym same) shape)

-- so no normalized one has the rule's action before the start's
rule_first_refused : (u : LoweredGrammar) → IsNormalized finds [] one u
    → u.origins ≡ Origin.alternative (codes "S") [] 0 ∷ Origin.start ∷ [] → ⊥
rule_first_refused u m e =
    let same : lowered.origins ≡ Origin.alternative (codes "S") [] 0 ∷ Origin.start ∷ [] =
    (one_normalized finds [] one lowered u single normalized m (nothing_placed u)).origins ∙ e in
    cc

-- in another order it isn't numbered
start_last_refused : AreNumberedAlong (codes "S" ∷ codes "__S" ∷ []) lowered.productions → ⊥
start_last_refused h =
    let less : 1 < 0 = h.0 rule_production start_production (inr (inl refl)) (inl refl) refl (inl refl) in omega (arith, less)

-- places have to be given: S = "a"+ "a"+ has its repeat at 2 to 4 or at 5 to 7
abbrev some_at : TextSpan → WrittenSymbol
some_at p = Sym.repeat p Op.plus (lit "a")

abbrev twice : Grammar
twice = grammar (rule_of "S" (alt (some_at (2, 4) ∷ some_at (5, 7) ∷ []) ∷ []) ∷ [])

abbrev at_twice : EnabledGrammar
at_twice = enabled_grammar finds [] twice

abbrev some_a : Closed
some_a = Closed.repeat Op.plus (Closed.terminal a)

abbrev twice_choice : Choice
twice_choice = record {
  origin = Origin.alternative (codes "S") [] 0;
  expr = some_at (2, 4) ∷ some_at (5, 7) ∷ [];
  condition = None;
  action = Action.user (codes "()");
  attributes = [];
}

abbrev twice_rule : EnabledRule
twice_rule = record {
  name = codes "S";
  public = true;
  inlined = false;
  parameters = [];
  declared = None;
  choices = twice_choice ∷ [];
}

abbrev twice_met : List MetKey
twice_met = (some_a, (2, 4)) ∷ (some_a, (5, 7)) ∷ []

met_in_rule : (p : TextSpan) → Among twice_met (some_a, p) → IsKeyPlaceIn at_twice s some_a p
met_in_rule p i = record {
  name = codes "S";
  args = Closeds.none;
  level = None;
  call_is = refl;
  rule = twice_rule;
  choice = (twice_choice, None);
  fits = record { rule = refl; arguments = refl; written = inl refl; leveled = refl; holds = tt };
  level_is = refl;
  met = i;
}

twice_made : InExpansion at_twice (Nonterminal.closed s)
twice_made = reached-in at_twice 0 (Nonterminal.closed s) (inr (inl refl))

stands_first : HasOwnSpan finds [] twice (Nonterminal.closed some_a) (2, 4)
stands_first = (s, twice_made, met_in_rule (2, 4) (inl refl))

stands_again : HasOwnSpan finds [] twice (Nonterminal.closed some_a) (5, 7)
stands_again = (s, twice_made, met_in_rule (5, 7) (inr (inl refl)))
