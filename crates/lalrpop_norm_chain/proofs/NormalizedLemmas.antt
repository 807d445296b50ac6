-- Where productions and nonterminals stand, which attributes these have, and all that a normalized grammar is; for the law of chains.
use Rattle.lalrpop_norm_chain.proofs.ChainLemmas as chain
use Rattle.std.proofs.Common.{◌≡◌, ℕ, zero, suc, List, [], ◌∷◌, refl, ap, sym, ◌∙◌, subst}
use Rattle.std.proofs.Common.{Bool, inl, inr}
use Rattle.std.specs.Prelude.{◌⊎◌, Option, Some, codes, slice_get}
use Rattle.lalrpop_grammar_symbols.specs.Symbols.{Text, TextSpan, Closed, Closeds, Op}
use Rattle.lalrpop_grammar.specs.WrittenGrammar.{Alternative, Attr, InternEntry, Origin, Rule, Grammar, rules_of}
use Rattle.lalrpop_grammar_language.specs.Among.{Among}
use Rattle.lalrpop_grammar_language.specs.Enabled.{EnabledGrammar, EnabledRule, IsRule, enabled_grammar}
use Rattle.lalrpop_grammar_language.specs.Enabled.{has_attr}
use Rattle.lalrpop_lexer_pattern.specs.Wins.{HasNoTie}
use Rattle.lalrpop_norm_token_check.specs.Patterns.{first_refused, entry_patterns, entry_precedences}
use Rattle.lalrpop_grammar_language.specs.Levels.{loosest}
use Rattle.lalrpop_grammar_language.specs.Expansion.{GrammarSymbol, Nonterminal, RightSide, InExpansion, Produces}
use Rattle.lalrpop_grammar_language.specs.Expansion.{WrittenLabel, origin_with}
use Rattle.lalrpop_norm_theory.specs.Between.{grammar_between}
use Rattle.lalrpop_norm_theory.specs.Same.{SameExpansion}
use Rattle.lalrpop_norm_theory.specs.Keys.{leveled_key_text}
use Rattle.lalrpop_norm_theory.specs.NamesByUse.{IsNamingByUse}
use Rattle.lalrpop_norm_theory.specs.Productions.{NamedProduction, StandsForLabel}
use Rattle.lalrpop_norm_theory.proofs.PassLemmas.{productions_before}
use Rattle.lalrpop_norm_theory.proofs.ExpansionListLemmas.{rule_there}
use Rattle.lalrpop_norm_theory.specs.KeyRules.{nonterminal_by_name}
use Rattle.lalrpop_norm_theory.specs.LevelRules.{all_by_level_names, by_level_names, level_name}
use Rattle.lalrpop_norm_theory.proofs.KeyRuleLemmas.{in_keys}
use Rattle.lalrpop_norm_theory.specs.LevelLaws.{nonterminal_by_level}
use Rattle.lalrpop_norm_theory.proofs.LevelExpansionLemmas.{call_of, well_in}
use Rattle.lalrpop_norm_theory.proofs.WellLeveledLemmas.{IsWell}
use Rattle.lalrpop_norm_keys.specs.KeyPlaces.{IsKeyPlace, IsShapeKey, IsWrittenKeyPlace}
use Rattle.lalrpop_norm_keys.proofs.MadeKeyLemmas.{placed_made}
use Rattle.lalrpop_norm_keys.proofs.WrittenKeyLemmas.{key_place_written}
use Rattle.lalrpop_norm_chain.specs.PremiseLaws.{leveled_part, resolved_part}
use Rattle.lalrpop_norm_chain.specs.OwnAttributes.{HasOwnAttributes, IsRuleAttributes, added_attributes}
use Rattle.lalrpop_norm_chain.specs.Spans.{HasOwnSpan, IsAddedOrigin, IsMadeFrom, IsRuleSpan, IsWrittenSpan, StandsByChoice}
use Rattle.lalrpop_norm_chain.specs.Lowered.{IsAlternativeSpan, IsStartSpan}
use Rattle.lalrpop_norm_chain.specs.Lowered.{LoweredGrammar, start_name}
use Rattle.lalrpop_norm_chain.specs.Chains.{IsChain}
use Rattle.lalrpop_norm_chain.proofs.ActionOrderLemmas.{action_order}
use Rattle.lalrpop_norm_chain.proofs.SpanLemmas.{IsLeveledOf, leveled_alike, leveled_rule_has, leveled_rule_stands, leveled_stands}
use Rattle.lalrpop_norm_chain.proofs.FrontLemmas.{levelable, same_resolved, same_leveled}
use Rattle.lalrpop_norm_chain.specs.Normalized.{IsNormalized}

start_same : (m n : Text) → Nonterminal.start m ≡ Nonterminal.start n → m ≡ n
start_same m n e = cc

module _ (finds : Text → Text → Option Bool) (features : List Text) (w : Grammar) (v : LoweredGrammar) (c : IsChain finds features w v)
  where
    abbrev written : EnabledGrammar
    written = enabled_grammar finds features w

    abbrev resolved : EnabledGrammar
    resolved = grammar_between finds (resolved_part features w)

    abbrev leveled : EnabledGrammar
    leveled = grammar_between finds c.leveled

    abbrev expanded_one : EnabledGrammar
    expanded_one = grammar_between finds c.expanded

    abbrev checked : EnabledGrammar
    checked = grammar_between finds c.checked

    abbrev level_of : Text → ℕ → Text
    level_of = c.front.levels.names

    abbrev key_of : Closed → Text
    key_of = c.front.macros.key_of

    abbrev to : Nonterminal → Nonterminal
    to x = nonterminal_by_name key_of (nonterminal_by_level level_of x)

    abbrev name_of : Nonterminal → Text
    name_of x = c.lowered.name_of (to x)

    same_checked : SameExpansion written checked to
    same_checked = chain.same_checked finds features w v c

    named : IsNamingByUse (leveled_key_text written) w.prefix written name_of
    named = chain.named finds features w v c

    prefix_written : v.prefix ≡ w.prefix
    prefix_written = chain.prefix_written finds features w v c

    entries_here : v.entries ≡ c.tokens.entries
    entries_here = chain.entries_are finds features w v c

    -- where productions stand

    rules_checked : rules_of c.checked.items ≡ rules_of c.expanded.items
    rules_checked = ap (λ (g : Grammar). rules_of g.items) c.tokens.whole ∙ chain.rules_behind c.expanded.items c.tokens.entries

    -- a choice that no alternative is written for
    beside : (own s : TextSpan) (o : Origin) → IsAddedOrigin o → s ≡ own → StandsByChoice features w own o s
    beside own s (Origin.alternative n args place) h e = absurd h
    beside own s Origin.pass_down h e = absurd h
    beside own s Origin.start h e = absurd h
    beside own s Origin.plus_one h e = e
    beside own s Origin.plus_more h e = e
    beside own s Origin.star_none h e = e
    beside own s Origin.star_some h e = e
    beside own s Origin.opt_none h e = e
    beside own s Origin.opt_some h e = e
    beside own s Origin.group h e = e
    beside own s Origin.look h e = e

    abbrev Made : Rule → Alternative → Type 0
    Made r a = IsMadeFrom (rules_of c.leveled.items) r a ⊎ (a.span ≡ r.span) × IsAddedOrigin a.origin

    -- an alternative of the expanded grammar
    stands_expanded : (r : Rule) (a : Alternative) → Among (rules_of c.checked.items) r → Among r.alternatives a
        → StandsByChoice features w r.span a.origin a.span
    stands_expanded r a i j =
        go (c.front.macros.alternative_spans r a (subst (λ (rs : List Rule). Among rs r) rules_checked i) j)
      where
        of_leveled : (m : IsMadeFrom (rules_of c.leveled.items) r a) → IsLeveledOf m.rule m.alternative
            → StandsByChoice features w r.span a.origin a.span
        of_leveled m (inl t) =
            let there = subst (λ (g : Grammar). Among (rules_of g.items) m.rule) c.front.levels.value m.rule_there in
            let origin : a.origin ≡ origin_with m.arguments (Origin.alternative t.0 [] t.1) =
            m.origin_is ∙ ap (origin_with m.arguments) t.2 in
            subst (λ (o : Origin). StandsByChoice features w r.span o a.span) (sym origin)
            (subst (λ (p : TextSpan). IsWrittenSpan features w t.0 t.1 p) (sym m.span_is)
            (leveled_stands features w c.front.read level_of m.rule m.alternative t.0 t.1 there m.alternative_there t.2))
        of_leveled m (inr t) =
            let origin : a.origin ≡ Origin.pass_down = m.origin_is ∙ ap (origin_with m.arguments) t.0 in
            subst (λ (o : Origin). StandsByChoice features w r.span o a.span) (sym origin)
            (m.span_is ∙ t.1 ∙ sym m.rule_span_is)

        go : Made r a → StandsByChoice features w r.span a.origin a.span
        go (inl m) =
            of_leveled m (leveled_alike features w c.front.read level_of m.rule m.alternative
            (subst (λ (g : Grammar). Among (rules_of g.items) m.rule) c.front.levels.value m.rule_there) m.alternative_there)
        go (inr m) = beside r.span a.span a.origin m.1 m.0

    stands : (p : NamedProduction) (label : WrittenLabel) (side : RightSide) (s own : TextSpan) → Among v.spans (p, s)
        → StandsForLabel written name_of v.origins p label side → Among v.places (p.nonterminal, own)
        → StandsByChoice features w own label.choice s
    stands p label side s own i t k = go (c.lowered.spans p s i)
      where
        same_origin : (o : Origin) → slice_get v.origins p.action ≡ Some o → o ≡ label.choice
        same_origin o e = let both : Some o ≡ Some label.choice = sym e ∙ t.origin_is in cc

        go : IsAlternativeSpan c.checked v p s ⊎ IsStartSpan c.checked checked v p s → StandsByChoice features w own label.choice s
        go (inl a) =
            let place : own ≡ a.rule.span = c.lowered.rule_places a.rule own a.rule_there
            (subst (λ (n : Text). Among v.places (n, own)) a.nonterminal_is k) in
            subst (λ (o : Origin). StandsByChoice features w own o s) (same_origin a.alternative.origin a.origin_is)
            (subst (λ (x : TextSpan). StandsByChoice features w x a.alternative.origin s) (sym place)
            (subst (λ (x : TextSpan). StandsByChoice features w a.rule.span a.alternative.origin x) a.span_is
            (stands_expanded a.rule a.alternative a.rule_there a.alternative_there)))
        go (inr a) =
            let place : own ≡ a.rule.span = c.lowered.start_places a.rule own a.rule_there a.start_there
            (subst (λ (n : Text). Among v.places (n, own)) a.nonterminal_is k) in
            subst (λ (o : Origin). StandsByChoice features w own o s) (same_origin Origin.start a.origin_is)
            (sym a.span_is ∙ sym place)

    -- the rule of a call stands where the called one does
    call_place : (n : Text) (args : Closeds) (level : Option ℕ) (r : Rule)
        → InExpansion written (Nonterminal.closed (Closed.call n args level)) → Among (rules_of c.checked.items) r
        → name_of (Nonterminal.closed (Closed.call n args level)) ≡ r.name → IsRuleSpan features w n r.span
    call_place n args level r i j e =
        let x = Closed.call n args level in
        let y = by_level_names level_of x in
        let k = in_keys leveled expanded_one key_of c.front.macros.keys c.front.macros.expansion y
        ((same_leveled finds features w c.leveled c.expanded c.front).there (Nonterminal.closed x) i) in
        let q = c.front.macros.rule_spans (level_name level_of n level) (all_by_level_names level_of args) r k
        (subst (λ (rs : List Rule). Among rs r) rules_checked j) (sym e ∙ (chain.key_name finds features w v c) y k) in
        let l = levelable finds features w c.leveled c.expanded c.front in
        let there = (same_resolved finds features w c.leveled c.expanded c.front).there (Nonterminal.closed x) i in
        go q.0 (subst (λ (g : Grammar). Among (rules_of g.items) q.0) c.front.levels.value q.1) q.2 q.3
        (well_in finds (resolved_part features w) level_of l (Nonterminal.closed x) there)
      where
        go : (q : Rule) → Among (rules_of (leveled_part level_of features w).items) q → q.name ≡ level_name level_of n level
            → r.span ≡ q.span → (Closed.call n args level ≡ Closed.faulty) ⊎ IsWell resolved (Closed.call n args level)
            → IsRuleSpan features w n r.span
        go q a name span (inl f) = absurd (let wrong : ⊥ = cc in wrong)
        go q a name span (inr well) =
            let u = call_of finds (resolved_part features w) n args level well in
            subst (λ (m : Text). IsRuleSpan features w m r.span) u.2
            (subst (λ (s : TextSpan). IsRuleSpan features w u.0.name s) (sym span)
            (leveled_rule_stands features w c.front.read level_of c.front.levels.are_names q u.0 level a u.1.among u.1.has_level
            (name ∙ ap (λ (m : Text). level_name level_of m level) (sym u.2))))

    -- a repeat, a group or a lookaround stays one under the names of levels
    shape_leveled : (x : Closed) → IsShapeKey x → IsShapeKey (by_level_names level_of x)
    shape_leveled (Closed.repeat op x) h = tt
    shape_leveled (Closed.group xs) h = tt
    shape_leveled Closed.lookahead h = tt
    shape_leveled Closed.lookbehind h = tt
    shape_leveled (Closed.terminal t) h = absurd h
    shape_leveled (Closed.call n args level) h = absurd h
    shape_leveled (Closed.choose x) h = absurd h
    shape_leveled (Closed.name m n x) h = absurd h
    shape_leveled Closed.faulty h = absurd h

    -- its rule stands where it is met
    key_place : (x : Closed) → IsShapeKey x → (r : Rule) → InExpansion written (Nonterminal.closed x)
        → Among (rules_of c.checked.items) r → name_of (Nonterminal.closed x) ≡ r.name → IsWrittenKeyPlace finds features w x r.span
    key_place x shape r i j e =
        let y = by_level_names level_of x in
        let k = in_keys leveled expanded_one key_of c.front.macros.keys c.front.macros.expansion y
        ((same_leveled finds features w c.leveled c.expanded c.front).there (Nonterminal.closed x) i) in
        let met = c.front.macros.key_spans y r (shape_leveled x shape) k
        (subst (λ (rs : List Rule). Among rs r) rules_checked j) (sym e ∙ (chain.key_name finds features w v c) y k) in
        let u = key_place_written finds features w level_of c.front.read (levelable finds features w c.leveled c.expanded c.front) y
        r.span (shape_leveled x shape)
        (subst (λ (g : Grammar). IsKeyPlace (grammar_between finds g) y r.span) c.front.levels.value met) in
        let there = placed_made written u.0 r.span u.2 in
        let same : Nonterminal.closed u.0 ≡ Nonterminal.closed x =
        (same_leveled finds features w c.leveled c.expanded c.front).apart (Nonterminal.closed u.0) (Nonterminal.closed x) there i
        (ap Nonterminal.closed (sym u.1)) in
        subst (λ (z : Closed). IsWrittenKeyPlace finds features w z r.span) (let d : u.0 ≡ x = cc in d) u.2

    -- what a start leads to
    start_rule : (n : Text) → InExpansion written (Nonterminal.start n) → (r : EnabledRule)
        × (name_of (Nonterminal.closed (Closed.call n Closeds.none (loosest r))) ≡ n)
        × InExpansion written (Nonterminal.closed (Closed.call n Closeds.none (loosest r)))
    start_rule n i = go i
      where
        of_rule : (r : EnabledRule) → IsRule written n r → (side : RightSide)
            → Produces written (Nonterminal.start n) Origin.start side
            → side ≡ GrammarSymbol.nonterminal (Nonterminal.closed (Closed.call n Closeds.none (loosest r))) ∷ []
            → (r : EnabledRule) × (name_of (Nonterminal.closed (Closed.call n Closeds.none (loosest r))) ≡ n)
            × InExpansion written (Nonterminal.closed (Closed.call n Closeds.none (loosest r)))
        of_rule r is side p e = (
          r,
          let name_r : r.name ≡ n = (rule_there written n r is).1 in
              let own : IsRule written r.name r = subst (λ (t : Text). IsRule written t r) (sym name_r) is in
              ap (λ (t : Text). name_of (Nonterminal.closed (Closed.call t Closeds.none (loosest r)))) (sym name_r)
              ∙ named.naming.rules r own (chain.start_plain written n r i is) ∙ name_r,
          (
            suc i.0,
            (
              Nonterminal.start n,
              Origin.start,
              side,
              i.1,
              p,
              subst (λ (s : RightSide). Among s (GrammarSymbol.nonterminal
                  (Nonterminal.closed (Closed.call n Closeds.none (loosest r))))) (sym e) (inl refl),
            ),
          ),
        )

        go : InExpansion written (Nonterminal.start n) → (r : EnabledRule)
            × (name_of (Nonterminal.closed (Closed.call n Closeds.none (loosest r))) ≡ n)
            × InExpansion written (Nonterminal.closed (Closed.call n Closeds.none (loosest r)))
        go (zero, inl b) =
            let same : b.0 ≡ n = start_same b.0 n (sym b.2) in
            let m = subst (λ (t : Text). Produces written (Nonterminal.start t) Origin.start b.1) same b.3 in
            of_rule m.0 m.1 b.1 m m.5
        go (zero, inr b) = let e : Nonterminal.start n ≡ _ = b.5 in absurd (let wrong : ⊥ = cc in wrong)
        go (suc k, b) = absurd (chain.no_start_inside written b.0 b.1 b.2 n b.4 b.5)

    -- where the name of a closed symbol stands, its rule does
    place_of : (n : Text) (args : Closeds) (level : Option ℕ) (own : TextSpan)
        → InExpansion written (Nonterminal.closed (Closed.call n args level))
        → Among v.places (name_of (Nonterminal.closed (Closed.call n args level)), own) → IsRuleSpan features w n own
    place_of n args level own i j =
        let u = (chain.has_rule finds features w v c) (Closed.call n args level) i in
        let q = (chain.written_rule_of finds features w v c) u.name u.rule u.is_rule in
        let name : name_of (Nonterminal.closed (Closed.call n args level)) ≡ q.0.name =
        (chain.name_is finds features w v c) (Closed.call n args level) u ∙ sym q.2 in
        let place : own ≡ q.0.span = c.lowered.rule_places q.0 own q.1 (subst (λ (m : Text). Among v.places (m, own)) name j) in
        subst (λ (s : TextSpan). IsRuleSpan features w n s) (sym place) (call_place n args level q.0 i q.1 name)

    -- where the name of a repeat, a group or a lookaround stands, it is met
    met_at : (x : Closed) → IsShapeKey x → (own : TextSpan) → InExpansion written (Nonterminal.closed x)
        → Among v.places (name_of (Nonterminal.closed x), own) → IsWrittenKeyPlace finds features w x own
    met_at x shape own i j =
        let u = (chain.has_rule finds features w v c) x i in
        let q = (chain.written_rule_of finds features w v c) u.name u.rule u.is_rule in
        let name : name_of (Nonterminal.closed x) ≡ q.0.name = (chain.name_is finds features w v c) x u ∙ sym q.2 in
        let place : own ≡ q.0.span = c.lowered.rule_places q.0 own q.1 (subst (λ (m : Text). Among v.places (m, own)) name j) in
        subst (λ (s : TextSpan). IsWrittenKeyPlace finds features w x s) (sym place) (key_place x shape q.0 i q.1 name)

    places : (x : Nonterminal) (own : TextSpan) → InExpansion written x → Among v.places (name_of x, own)
        → HasOwnSpan finds features w x own
    places (Nonterminal.closed (Closed.call n args level)) own i j = place_of n args level own i j
    places (Nonterminal.closed (Closed.repeat op x)) own i j = met_at (Closed.repeat op x) tt own i j
    places (Nonterminal.closed (Closed.group xs)) own i j = met_at (Closed.group xs) tt own i j
    places (Nonterminal.closed Closed.lookahead) own i j = met_at Closed.lookahead tt own i j
    places (Nonterminal.closed Closed.lookbehind) own i j = met_at Closed.lookbehind tt own i j
    places (Nonterminal.closed (Closed.terminal t)) own i j = tt
    places (Nonterminal.closed (Closed.choose x)) own i j = tt
    places (Nonterminal.closed (Closed.name m n x)) own i j = tt
    places (Nonterminal.closed Closed.faulty) own i j = tt
    places (Nonterminal.start n) own i j =
        let s = start_rule n i in
        let x = Closed.call n Closeds.none (loosest s.0) in
        let u = (chain.has_rule finds features w v c) x s.2 in
        let q = (chain.written_rule_of finds features w v c) u.name u.rule u.is_rule in
        let named_so : name_of (Nonterminal.closed x) ≡ n = s.1 in
        let name : name_of (Nonterminal.closed x) ≡ q.0.name = (chain.name_is finds features w v c) x u ∙ sym q.2 in
        let own_name : q.0.name ≡ n = sym name ∙ named_so in
        let at_start : Among v.places (start_name v.prefix q.0.name, own) =
        subst (λ (m : Text). Among v.places (m, own)) (c.lowered.start_names n ∙ ap (start_name v.prefix) (sym own_name)) j in
        let started : InExpansion checked (Nonterminal.start q.0.name) =
        subst (λ (m : Text). InExpansion checked (Nonterminal.start m)) (sym own_name) (same_checked.there (Nonterminal.start n) i) in
        let place : own ≡ q.0.span = c.lowered.start_places q.0 own q.1 started at_start in
        subst (λ (s : TextSpan). IsRuleSpan features w n s) (sym place)
        (call_place n Closeds.none (loosest s.0) q.0 s.2 q.1 name)

    -- attributes

    -- the rule of a call has those of the called one
    call_attributes : (n : Text) (args : Closeds) (level : Option ℕ) (r : Rule)
        → InExpansion written (Nonterminal.closed (Closed.call n args level)) → Among (rules_of c.checked.items) r
        → name_of (Nonterminal.closed (Closed.call n args level)) ≡ r.name → IsRuleAttributes features w n r.attributes
    call_attributes n args level r i j e =
        let x = Closed.call n args level in
        let y = by_level_names level_of x in
        let k = in_keys leveled expanded_one key_of c.front.macros.keys c.front.macros.expansion y
        ((same_leveled finds features w c.leveled c.expanded c.front).there (Nonterminal.closed x) i) in
        let q = c.front.macros.rule_attributes (level_name level_of n level) (all_by_level_names level_of args) r k
        (subst (λ (rs : List Rule). Among rs r) rules_checked j) (sym e ∙ (chain.key_name finds features w v c) y k) in
        let l = levelable finds features w c.leveled c.expanded c.front in
        let there = (same_resolved finds features w c.leveled c.expanded c.front).there (Nonterminal.closed x) i in
        go q.0 (subst (λ (g : Grammar). Among (rules_of g.items) q.0) c.front.levels.value q.1) q.2 q.3
        (well_in finds (resolved_part features w) level_of l (Nonterminal.closed x) there)
      where
        go : (q : Rule) → Among (rules_of (leveled_part level_of features w).items) q → q.name ≡ level_name level_of n level
            → r.attributes ≡ q.attributes → (Closed.call n args level ≡ Closed.faulty) ⊎ IsWell resolved (Closed.call n args level)
            → IsRuleAttributes features w n r.attributes
        go q a name same (inl f) = absurd (let wrong : ⊥ = cc in wrong)
        go q a name same (inr well) =
            let u = call_of finds (resolved_part features w) n args level well in
            subst (λ (m : Text). IsRuleAttributes features w m r.attributes) u.2
            (subst (λ (l : List Attr). IsRuleAttributes features w u.0.name l) (sym same)
            (leveled_rule_has features w c.front.read level_of c.front.levels.are_names q u.0 level a u.1.among u.1.has_level
            (name ∙ ap (λ (m : Text). level_name level_of m level) (sym u.2))))

    -- under the names of levels a repeat, a group and a lookaround say the same
    added_leveled : (p : TextSpan) (x : Closed) → IsShapeKey x → added_attributes p (by_level_names level_of x) ≡ added_attributes p x
    added_leveled p (Closed.repeat Op.plus x) h = refl
    added_leveled p (Closed.repeat Op.star x) h = refl
    added_leveled p (Closed.repeat Op.question x) h = refl
    added_leveled p (Closed.group xs) h = refl
    added_leveled p Closed.lookahead h = refl
    added_leveled p Closed.lookbehind h = refl
    added_leveled p (Closed.terminal t) h = absurd h
    added_leveled p (Closed.call n args level) h = absurd h
    added_leveled p (Closed.choose x) h = absurd h
    added_leveled p (Closed.name m n x) h = absurd h
    added_leveled p Closed.faulty h = absurd h

    shape_attributes : (x : Closed) → IsShapeKey x → (r : Rule) → InExpansion written (Nonterminal.closed x)
        → Among (rules_of c.checked.items) r → name_of (Nonterminal.closed x) ≡ r.name → r.attributes ≡ added_attributes r.span x
    shape_attributes x shape r i j e =
        let y = by_level_names level_of x in
        let k = in_keys leveled expanded_one key_of c.front.macros.keys c.front.macros.expansion y
        ((same_leveled finds features w c.leveled c.expanded c.front).there (Nonterminal.closed x) i) in
        c.front.macros.key_attributes y r (shape_leveled x shape) k (subst (λ (rs : List Rule). Among rs r) rules_checked j)
        (sym e ∙ (chain.key_name finds features w v c) y k)
        ∙ added_leveled r.span x shape

    own_of_call : (n : Text) (args : Closeds) (level : Option ℕ) (as_ : List Attr)
        → InExpansion written (Nonterminal.closed (Closed.call n args level))
        → Among v.attributes (name_of (Nonterminal.closed (Closed.call n args level)), as_) → IsRuleAttributes features w n as_
    own_of_call n args level as_ i j =
        let u = (chain.has_rule finds features w v c) (Closed.call n args level) i in
        let q = (chain.written_rule_of finds features w v c) u.name u.rule u.is_rule in
        let name : name_of (Nonterminal.closed (Closed.call n args level)) ≡ q.0.name =
        (chain.name_is finds features w v c) (Closed.call n args level) u ∙ sym q.2 in
        let same : as_ ≡ q.0.attributes =
        c.lowered.rule_attributes q.0 as_ q.1 (subst (λ (m : Text). Among v.attributes (m, as_)) name j) in
        subst (λ (l : List Attr). IsRuleAttributes features w n l) (sym same) (call_attributes n args level q.0 i q.1 name)

    own_of_shape : (x : Closed) → IsShapeKey x → (p : TextSpan) (as_ : List Attr) → InExpansion written (Nonterminal.closed x)
        → Among v.places (name_of (Nonterminal.closed x), p) → Among v.attributes (name_of (Nonterminal.closed x), as_)
        → as_ ≡ added_attributes p x
    own_of_shape x shape p as_ i j k =
        let u = (chain.has_rule finds features w v c) x i in
        let q = (chain.written_rule_of finds features w v c) u.name u.rule u.is_rule in
        let name : name_of (Nonterminal.closed x) ≡ q.0.name = (chain.name_is finds features w v c) x u ∙ sym q.2 in
        let place : p ≡ q.0.span = c.lowered.rule_places q.0 p q.1 (subst (λ (m : Text). Among v.places (m, p)) name j) in
        c.lowered.rule_attributes q.0 as_ q.1 (subst (λ (m : Text). Among v.attributes (m, as_)) name k)
        ∙ shape_attributes x shape q.0 i q.1 name
        ∙ ap (λ (s : TextSpan). added_attributes s x) (sym place)

    own_of_start : (n : Text) (as_ : List Attr) → InExpansion written (Nonterminal.start n)
        → Among v.attributes (name_of (Nonterminal.start n), as_) → as_ ≡ []
    own_of_start n as_ i j =
        let s = start_rule n i in
        let x = Closed.call n Closeds.none (loosest s.0) in
        let u = (chain.has_rule finds features w v c) x s.2 in
        let q = (chain.written_rule_of finds features w v c) u.name u.rule u.is_rule in
        let named_so : name_of (Nonterminal.closed x) ≡ n = s.1 in
        let name : name_of (Nonterminal.closed x) ≡ q.0.name = (chain.name_is finds features w v c) x u ∙ sym q.2 in
        let own_name : q.0.name ≡ n = sym name ∙ named_so in
        c.lowered.start_attributes q.0 as_ q.1
        (subst (λ (m : Text). InExpansion checked (Nonterminal.start m)) (sym own_name) (same_checked.there (Nonterminal.start n) i))
        (subst (λ (m : Text). Among v.attributes (m, as_)) (c.lowered.start_names n ∙ ap (start_name v.prefix) (sym own_name)) j)

    own_attributes : (x : Nonterminal) (p : TextSpan) (as_ : List Attr) → InExpansion written x → Among v.places (name_of x, p)
        → Among v.attributes (name_of x, as_) → HasOwnAttributes features w x p as_
    own_attributes (Nonterminal.start n) p as_ i j k = own_of_start n as_ i k
    own_attributes (Nonterminal.closed (Closed.call n args level)) p as_ i j k = own_of_call n args level as_ i k
    own_attributes (Nonterminal.closed (Closed.repeat op x)) p as_ i j k = own_of_shape (Closed.repeat op x) tt p as_ i j k
    own_attributes (Nonterminal.closed (Closed.group xs)) p as_ i j k = own_of_shape (Closed.group xs) tt p as_ i j k
    own_attributes (Nonterminal.closed Closed.lookahead) p as_ i j k = own_of_shape Closed.lookahead tt p as_ i j k
    own_attributes (Nonterminal.closed Closed.lookbehind) p as_ i j k = own_of_shape Closed.lookbehind tt p as_ i j k
    own_attributes (Nonterminal.closed (Closed.terminal t)) p as_ i j k = tt
    own_attributes (Nonterminal.closed (Closed.choose x)) p as_ i j k = tt
    own_attributes (Nonterminal.closed (Closed.name m n x)) p as_ i j k = tt
    own_attributes (Nonterminal.closed Closed.faulty) p as_ i j k = tt

    -- all of it

    pub normalized : IsNormalized finds features w v
    normalized = record {
      name_of = name_of;
      naming = named;
      prefix = prefix_written;
      productions = productions_before written checked to c.lowered.name_of v.productions v.origins same_checked c.lowered.productions;
      actions = record { defined = chain.defined finds features w v c; no_other = c.lowered.no_other_definition };
      spans = record { each = c.lowered.each_span; stands = stands; each_place = c.lowered.each_place; places = places };
      attributes = record { each = c.lowered.each_attributes; own = own_attributes };
      nonterminals = λ n. (
        λ a. let y = (c.lowered.nonterminals n).0 a in
            let x = same_checked.no_other y.0 y.1 in
            (x.0, x.1, ap c.lowered.name_of (sym x.2) ∙ y.2),
        λ a. (c.lowered.nonterminals n).1 (to a.0, same_checked.there a.0 a.1, a.2),
      );
      order = action_order finds features w v c;
      starts = λ n m. (
        λ a. let u = (c.lowered.starts n m).0 a in
            ((chain.start_from finds features w v c) n u.0, u.1 ∙ ap (λ (p : Text). start_name p n) prefix_written),
        λ a. (c.lowered.starts n m).1
            (same_checked.there (Nonterminal.start n) a.0, a.1 ∙ ap (λ (p : Text). start_name p n) (sym prefix_written)),
      );
      starts_alone = chain.alone finds features w v c;
      inlined = (chain.inlined_alike finds features w v c);
      no_other_inlined = c.lowered.no_other_inlined;
      terminals = c.lowered.terminals;
      types = (chain.types_are finds features w v c);
      terminal_types = c.lowered.terminal_types;
      lalr = c.lowered.lalr ∙ ap (has_attr (codes "LALR")) (chain.attributes_are finds features w v c);
      entries = (chain.entries_full finds features w v c);
      none_refused = ap first_refused entries_here ∙ c.tokens.are_checked.none_refused;
      unambiguous = subst (λ (es : List InternEntry). HasNoTie (entry_patterns es) (entry_precedences es)) (sym entries_here)
          c.tokens.are_checked.unambiguous;
    }
