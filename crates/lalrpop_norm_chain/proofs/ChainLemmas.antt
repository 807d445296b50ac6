-- The passes one after the other make a normalized grammar; for the law of chains.
use Rattle.std.proofs.Common.{◌≡◌, ℕ, zero, suc, List, [], ◌∷◌, ◌++◌, refl, ap, ap₂, sym, ◌∙◌, subst}
use Rattle.std.proofs.Common.{Bool, inl, inr}
use Rattle.std.specs.Prelude.{◌⊎◌, Option, Some, None, IsSomeAnd, map, flat_map, slice_get, ◌↔◌}
use Rattle.std.proofs.lemmas.List.{append-nil, append_assoc}
use Rattle.lalrpop_grammar_symbols.specs.Symbols.{Text, Op, Closed, Closeds, closed_list}
use Rattle.lalrpop_grammar.specs.WrittenGrammar.{Action, InternEntry, Origin, Rule, WrittenEntry, WrittenItem, Grammar, rules_of}
use Rattle.lalrpop_grammar_language.specs.Among.{Among}
use Rattle.lalrpop_grammar_language.specs.Enabled.{EnabledGrammar, EnabledRule, IsRule, bare_of, bares_of, enabled_grammar}
use Rattle.lalrpop_grammar_language.specs.Enabled.{Choice}
use Rattle.lalrpop_grammar_language.specs.Closing.{right_side}
use Rattle.lalrpop_grammar_language.specs.Admitting.{bind}
use Rattle.lalrpop_grammar_language.proofs.PlaceLemmas.{among_map}
use Rattle.lalrpop_grammar_language.proofs.SoundnessLemmas.{part-whole}
use Rattle.lalrpop_norm_theory.proofs.LevelOrderLemmas.{one_rule}
use Rattle.lalrpop_norm_chain.specs.UsedLiterals.{AreFullExpansionEntries}
use Rattle.lalrpop_norm_chain.proofs.PlainNameLemmas.{read_tells_resolved}
use Rattle.lalrpop_norm_chain.proofs.ItemLemmas.{no_tokenizer}
use Rattle.lalrpop_norm_chain.proofs.UsedLiteralLemmas.{full_entries}
use Rattle.lalrpop_grammar_language.specs.Levels.{loosest}
use Rattle.lalrpop_grammar_language.specs.Expansion.{GrammarSymbol, Nonterminal, RightSide, InExpansion, Produces}
use Rattle.lalrpop_grammar_language.specs.Expansion.{IsWrittenProduction, WrittenLabel, grammar_symbol}
use Rattle.lalrpop_grammar_repr.specs.Maps.{at_name}
use Rattle.lalrpop_grammar.specs.declared.types.type_repr.TypeRepr.{TypeRepr}
use Rattle.lalrpop_norm_theory.specs.Between.{rule_between, written_name, grammar_between, without_disabled}
use Rattle.lalrpop_norm_theory.specs.Premises.{IsExpanded}
use Rattle.lalrpop_norm_theory.specs.Same.{rename_symbol, SameExpansion}
use Rattle.lalrpop_norm_theory.specs.Keys.{leveled_key_text, IsNaming}
use Rattle.lalrpop_norm_theory.specs.NamesByUse.{IsNamingByUse}
use Rattle.lalrpop_norm_theory.specs.Inlined.{IsInlined, SameInlined}
use Rattle.lalrpop_norm_theory.specs.Productions.{NamedProduction, StandsForLabel}
use Rattle.lalrpop_norm_theory.specs.Types.{GroundType, IsGrounded, IsGroundedIn, SameTypes}
use Rattle.lalrpop_norm_theory.proofs.PassLemmas.{productions_before}
use Rattle.lalrpop_norm_theory.proofs.ExpansionListLemmas.{rule_there}
use Rattle.lalrpop_norm_theory.specs.KeyRules.{by_name, nonterminal_by_name}
use Rattle.lalrpop_norm_theory.specs.LevelRules.{by_level_names}
use Rattle.lalrpop_norm_theory.proofs.KeyRuleLemmas.{key_called, in_keys}
use Rattle.lalrpop_norm_theory.proofs.DroppingLemmas.{dropped_names_by_use}
use Rattle.lalrpop_norm_theory.proofs.ResolvingLemmas.{resolved_names_by_use}
use Rattle.lalrpop_norm_theory.specs.LevelLaws.{IsLevelable, nonterminal_by_level}
use Rattle.lalrpop_norm_theory.proofs.LevelNameLemmas.{loosest_there}
use Rattle.lalrpop_norm_theory.proofs.LeveledOrderLemmas.{written_in}
use Rattle.lalrpop_norm_theory.proofs.NamesByUseLemmas.{naming_alike}
use Rattle.lalrpop_norm_token_check.specs.Blocks.{block_groups}
use Rattle.lalrpop_norm_token_check.specs.Entries.{with_entries}
use Rattle.lalrpop_norm_tyinfer.specs.GroundViews.{type_repr_view}
use Rattle.lalrpop_norm_tyinfer.specs.TypeFaults.{nonterminal_of, rule_symbol}
use Rattle.lalrpop_norm_chain.specs.PremiseLaws.{resolved_part, entries_of_items}
use Rattle.lalrpop_norm_chain.specs.Actions.{ChoiceDoes}
use Rattle.lalrpop_norm_chain.specs.Lowered.{HasDefinition, IsRuleProduction, IsStartProduction}
use Rattle.lalrpop_norm_chain.specs.Lowered.{LoweredGrammar, start_name}
use Rattle.lalrpop_norm_chain.specs.Chains.{IsChain}
use Rattle.lalrpop_norm_chain.proofs.ActionLemmas.{ChoicesActAsTold, acts_before, key_acts, leveled_part_acts}
use Rattle.lalrpop_norm_chain.proofs.FrontLemmas.{block_is, inlined_expanded, key_named, levelable, named_by_use, prefix_leveled, same_expanded, same_leveled}
use Rattle.lalrpop_norm_chain.proofs.FrontLemmas.{types_expanded}
use Rattle.lalrpop_norm_chain.specs.Normalized.{HasExpansionTypes}

-- the tokenizer behind the items

pub rules_behind : (items : List WrittenItem) (es : List InternEntry) →
    rules_of (items ++ WrittenItem.intern_token es ∷ []) ≡ rules_of items
rules_behind [] es = refl
rules_behind (WrittenItem.nonterminal r ∷ items) es = ap (λ l. r ∷ l) (rules_behind items es)
rules_behind (WrittenItem.match_token groups place ∷ items) es = rules_behind items es
rules_behind (WrittenItem.extern_token block ∷ items) es = rules_behind items es
rules_behind (WrittenItem.intern_token entries ∷ items) es = rules_behind items es
rules_behind (WrittenItem.import text ∷ items) es = rules_behind items es

bares_behind : (items : List WrittenItem) (es : List InternEntry) →
    bares_of (items ++ WrittenItem.intern_token es ∷ []) ≡ bares_of items
bares_behind [] es = refl
bares_behind (WrittenItem.nonterminal r ∷ items) es = bares_behind items es
bares_behind (WrittenItem.match_token groups place ∷ items) es =
    ap (λ l. flat_map (flat_map bare_of) groups ++ l) (bares_behind items es)
bares_behind (WrittenItem.extern_token block ∷ items) es = bares_behind items es
bares_behind (WrittenItem.intern_token entries ∷ items) es = bares_behind items es
bares_behind (WrittenItem.import text ∷ items) es = bares_behind items es

entries_behind : (items : List WrittenItem) (es : List InternEntry) →
    entries_of_items (items ++ WrittenItem.intern_token es ∷ []) ≡ entries_of_items items ++ es
entries_behind [] es = append-nil es
entries_behind (WrittenItem.nonterminal r ∷ items) es = entries_behind items es
entries_behind (WrittenItem.match_token groups place ∷ items) es = entries_behind items es
entries_behind (WrittenItem.extern_token block ∷ items) es = entries_behind items es
entries_behind (WrittenItem.intern_token entries ∷ items) es =
    ap (λ l. entries ++ l) (entries_behind items es) ∙ sym (append_assoc entries (entries_of_items items) es)
entries_behind (WrittenItem.import text ∷ items) es = entries_behind items es

abbrev grammar_of : (Text → Text → Option Bool) → List Rule → List Text → EnabledGrammar
grammar_of finds rs bares = record { rules = map rule_between rs; bares = bares; finds = finds; spelled = written_name rs }

-- it changes neither rules nor mapped bare names
pub between_behind : (finds : Text → Text → Option Bool) (es : List InternEntry) (g : Grammar) →
    grammar_between finds (with_entries es g) ≡ grammar_between finds g
between_behind finds es g = ap₂ (grammar_of finds) (rules_behind g.items es) (bares_behind g.items es)

-- names

-- names that agree on the expansion
naming_same : (text_of : Closed → Text) (prefix : Text) (g : EnabledGrammar) (a b : Nonterminal → Text) →
    ((x : Nonterminal) → InExpansion g x → a x ≡ b x) →
    ((r : EnabledRule) → IsRule g r.name r → r.parameters ≡ [] →
    InExpansion g (Nonterminal.closed (Closed.call r.name Closeds.none (loosest r)))) →
    IsNaming text_of prefix g a → IsNaming text_of prefix g b
naming_same text_of prefix g a b same there n = record {
  number = n.number;
  apart = λ x y i j e. n.apart x y i j (same x i ∙ e ∙ sym (same y j));
  starts = λ m i. sym (same (Nonterminal.start m) i) ∙ n.starts m i;
  rules = λ r i ps. sym (same (Nonterminal.closed (Closed.call r.name Closeds.none (loosest r))) (there r i ps)) ∙ n.rules r i ps;
  macros = λ r x i ps j e. n.macros r x i ps j (same x j ∙ e);
  printed = λ x i. sym (same (Nonterminal.closed x) i) ∙ n.printed x i;
  packed = n.packed;
}

-- right sides have no starts

-- a right side has the symbols of closed ones
pub side_symbols : (g : EnabledGrammar) (x : Nonterminal) (o : Origin) (side : RightSide) → Produces g x o side →
    (xs : List Closed) × (side ≡ map grammar_symbol xs)
side_symbols g (Nonterminal.start n) o side m = (Closed.call n Closeds.none (loosest m.0) ∷ [], m.5)
side_symbols g (Nonterminal.closed (Closed.call n args level)) o side (inl m) =
    (right_side g m.rule (bind m.rule args) m.choice, m.side_is)
side_symbols g (Nonterminal.closed (Closed.call n args level)) o side (inr m) = (Closed.call n args (Some m.to) ∷ [], m.side_is)
side_symbols g (Nonterminal.closed (Closed.repeat Op.plus x)) o side (inl m) = (x ∷ [], m.1)
side_symbols g (Nonterminal.closed (Closed.repeat Op.plus x)) o side (inr m) = (Closed.repeat Op.plus x ∷ x ∷ [], m.1)
side_symbols g (Nonterminal.closed (Closed.repeat Op.star x)) o side (inl m) = ([], m.1)
side_symbols g (Nonterminal.closed (Closed.repeat Op.star x)) o side (inr m) = (Closed.repeat Op.plus x ∷ [], m.1)
side_symbols g (Nonterminal.closed (Closed.repeat Op.question x)) o side (inl m) = ([], m.1)
side_symbols g (Nonterminal.closed (Closed.repeat Op.question x)) o side (inr m) = (x ∷ [], m.1)
side_symbols g (Nonterminal.closed (Closed.group xs)) o side m = (closed_list xs, m.1)
side_symbols g (Nonterminal.closed Closed.lookahead) o side m = ([], m.1)
side_symbols g (Nonterminal.closed Closed.lookbehind) o side m = ([], m.1)
side_symbols g (Nonterminal.closed (Closed.terminal t)) o side m = absurd m
side_symbols g (Nonterminal.closed (Closed.choose x)) o side m = absurd m
side_symbols g (Nonterminal.closed (Closed.name a n x)) o side m = absurd m
side_symbols g (Nonterminal.closed Closed.faulty) o side m = absurd m

-- no right side that is produced has the start symbol of a rule in it
pub no_start_inside : (g : EnabledGrammar) (x : Nonterminal) (o : Origin) (side : RightSide) (n : Text) → Produces g x o side →
    Among side (GrammarSymbol.nonterminal (Nonterminal.start n)) → ⊥
no_start_inside g x o side n p i =
    let u = side_symbols g x o side p in
    let z = among_map grammar_symbol u.0 (GrammarSymbol.nonterminal (Nonterminal.start n))
    (subst (λ (s : RightSide). Among s (GrammarSymbol.nonterminal (Nonterminal.start n))) u.1 i) in
    part-whole z.0 n z.2

-- a start is a root, so its rule has no parameters
pub start_plain : (g : EnabledGrammar) (n : Text) (r : EnabledRule) → InExpansion g (Nonterminal.start n) → IsRule g n r →
    r.parameters ≡ []
start_plain g n r (zero, inl b) is =
    let p : Produces g (Nonterminal.start b.0) Origin.start b.1 = b.3 in
    let same : n ≡ b.0 = start_is n b.0 b.2 in
    let q : IsRule g n p.0 = subst (λ (t : Text). IsRule g t p.0) (sym same) p.1 in
    ap (λ (e : EnabledRule). e.parameters) (one_rule g n r p.0 is q) ∙ p.2
  where
    start_is : (m k : Text) → Nonterminal.start m ≡ Nonterminal.start k → m ≡ k
    start_is m k e = cc
start_plain g n r (zero, inr b) is = let e : Nonterminal.start n ≡ Nonterminal.closed (Closed.call b.0.name Closeds.none b.1) = b.5 in cc
start_plain g n r (suc k, b) is = absurd (no_start_inside g b.0 b.1 b.2 n b.4 b.5)

some_so : {A : Type 0} (o : Option A) (P Q : A → Type 0) → ((a : A) → P a → Q a) → IsSomeAnd o P → IsSomeAnd o Q
some_so None P Q f h = absurd h
some_so (Some a) P Q f h = f a h

-- the chain

module _ (finds : Text → Text → Option Bool) (features : List Text) (w : Grammar) (v : LoweredGrammar) (c : IsChain finds features w v)
  where
    abbrev written : EnabledGrammar
    written = enabled_grammar finds features w

    abbrev resolved : EnabledGrammar
    resolved = grammar_between finds (resolved_part features w)

    abbrev leveled : EnabledGrammar
    leveled = grammar_between finds c.leveled

    abbrev expanded_one : EnabledGrammar
    expanded_one = grammar_between finds c.expanded

    abbrev checked : EnabledGrammar
    checked = grammar_between finds c.checked

    abbrev level_of : Text → ℕ → Text
    level_of = c.front.levels.names

    abbrev key_of : Closed → Text
    key_of = c.front.macros.key_of

    abbrev to : Nonterminal → Nonterminal
    to x = nonterminal_by_name key_of (nonterminal_by_level level_of x)

    abbrev closed_to : Closed → Closed
    closed_to x = by_name key_of (by_level_names level_of x)

    checked_is : checked ≡ expanded_one
    checked_is = ap (grammar_between finds) c.tokens.whole ∙ between_behind finds c.tokens.entries c.expanded

    pub same_checked : SameExpansion written checked to
    same_checked = subst (λ (g : EnabledGrammar). SameExpansion written g to) (sym checked_is)
        (same_expanded finds features w c.leveled c.expanded c.front)

    pub expanded_still : IsExpanded checked
    expanded_still = subst IsExpanded (sym checked_is) c.front.macros.expanded

    -- prefixes

    prefix_lowered : v.prefix ≡ c.leveled.prefix
    prefix_lowered = c.lowered.prefix_is ∙ ap (λ (g : Grammar). g.prefix) c.tokens.whole ∙ c.front.macros.prefix

    pub prefix_written : v.prefix ≡ w.prefix
    prefix_written = prefix_lowered ∙ prefix_leveled finds features w c.leveled c.expanded c.front

    pub attributes_are : c.checked.attributes ≡ w.attributes
    attributes_are =
        ap (λ (g : Grammar). g.attributes) c.tokens.whole ∙ c.front.macros.attributes
        ∙ ap (λ (g : Grammar). g.attributes) c.front.levels.value

    -- names

    abbrev name_of : Nonterminal → Text
    name_of x = c.lowered.name_of (to x)

    pub key_name : (x : Closed) → Among c.front.macros.keys x → c.lowered.name_of (Nonterminal.closed (by_name key_of x)) ≡ key_of x
    key_name x k =
        ap (λ (y : Closed). c.lowered.name_of (Nonterminal.closed y)) (key_called key_of x (c.front.macros.expansion.keys_only x k))
        ∙ c.lowered.rule_names (key_of x)

    names_agree : (x : Nonterminal) → InExpansion leveled x →
        c.front.macros.name_of x ≡ c.lowered.name_of (nonterminal_by_name key_of x)
    names_agree (Nonterminal.start n) i =
        c.front.macros.naming.naming.starts n i ∙ ap (λ (p : Text). p ++ n) (sym prefix_lowered) ∙ sym (c.lowered.start_names n)
    names_agree (Nonterminal.closed x) i =
        let k = in_keys leveled expanded_one key_of c.front.macros.keys c.front.macros.expansion x i in
        c.front.macros.named x k ∙ sym (key_name x k)

    levels_known : IsLevelable finds (resolved_part features w) level_of
    levels_known = levelable finds features w c.leveled c.expanded c.front

    rule_reached : (r : EnabledRule) → IsRule resolved r.name r → r.parameters ≡ [] →
        InExpansion resolved (Nonterminal.closed (Closed.call r.name Closeds.none (loosest r)))
    rule_reached r is ps =
        (zero, inr (r, loosest r, is, ps, loosest_there finds (resolved_part features w) level_of levels_known r.name r is, refl))

    abbrev given_name : Nonterminal → Text
    given_name x = key_named finds features w c.leveled c.expanded c.front x

    given_by_use : IsNamingByUse (leveled_key_text resolved) w.prefix resolved given_name
    given_by_use = named_by_use finds features w c.leveled c.expanded c.front

    names_same : (x : Nonterminal) → InExpansion resolved x → given_name x ≡ name_of x
    names_same x i =
        names_agree (nonterminal_by_level level_of x)
        ((c.front.levels.expansion (read_tells_resolved features w c.front.read)).there x i)

    named_resolved : IsNamingByUse (leveled_key_text resolved) w.prefix resolved name_of
    named_resolved =
        naming_alike (leveled_key_text resolved) w.prefix resolved given_name name_of names_same
        (λ x i. written_in finds (resolved_part features w) level_of levels_known x i) given_by_use
        (naming_same (leveled_key_text resolved) w.prefix resolved given_name name_of names_same rule_reached given_by_use.naming)

    pub named : IsNamingByUse (leveled_key_text written) w.prefix written name_of
    named =
        dropped_names_by_use finds features w w.prefix name_of c.front.read
        (resolved_names_by_use finds (without_disabled features w) w.prefix name_of named_resolved)

    -- what stands for a nonterminal of the expanded grammar

    -- a closed symbol of the expansion has a rule there
    pub record HasRule (x : Closed) : Type 0 where
      pub name : Text
      pub rule : EnabledRule
      pub is_rule : IsRule checked name rule
      pub becomes : closed_to x ≡ Closed.call name Closeds.none None

    pub has_rule : (x : Closed) → InExpansion written (Nonterminal.closed x) → HasRule x
    has_rule x i =
        let y = by_level_names level_of x in
        let k = in_keys leveled expanded_one key_of c.front.macros.keys c.front.macros.expansion y
        ((same_leveled finds features w c.leveled c.expanded c.front).there (Nonterminal.closed x) i) in
        let u = c.front.macros.expansion.rules y k in
        record {
          name = key_of y;
          rule = u.0;
          is_rule = subst (λ (g : EnabledGrammar). IsRule g (key_of y) u.0) (sym checked_is) u.1;
          becomes = key_called key_of y (c.front.macros.expansion.keys_only y k);
        }

    pub name_is : (x : Closed) (u : HasRule x) → name_of (Nonterminal.closed x) ≡ u.name
    name_is x u =
        ap (λ (y : Closed). c.lowered.name_of (Nonterminal.closed y)) u.becomes ∙ c.lowered.rule_names u.name

    -- starts

    pub start_from : (n : Text) → InExpansion checked (Nonterminal.start n) → InExpansion written (Nonterminal.start n)
    start_from n i = let u = same_checked.no_other (Nonterminal.start n) i in go u.0 u.1 u.2
      where
        go : (x : Nonterminal) → InExpansion written x → Nonterminal.start n ≡ to x → InExpansion written (Nonterminal.start n)
        go (Nonterminal.start m) j e = subst (InExpansion written) (sym e) j
        go (Nonterminal.closed x) j e = cc

    pub alone : (n : Text) (p : NamedProduction) → InExpansion written (Nonterminal.start n) → Among v.productions p →
        Among p.symbols (GrammarSymbol.nonterminal (start_name w.prefix n)) → ⊥
    alone n p i k j =
        let a = productions_before written checked to c.lowered.name_of v.productions v.origins same_checked c.lowered.productions in
        let l = a.no_other p k in
        let z = among_map (rename_symbol name_of) l.1 (GrammarSymbol.nonterminal (start_name w.prefix n))
        (subst (λ (s : List (GrammarSymbol Text)). Among s (GrammarSymbol.nonterminal (start_name w.prefix n))) l.2.symbols_are j) in
        go l.0 l.1 l.2.in_expansion l.2.produced z.0 z.1 z.2
      where
        go : (label : WrittenLabel) (side : RightSide) → InExpansion written label.head → IsWrittenProduction written label side →
            (y : GrammarSymbol Nonterminal) → Among side y →
            rename_symbol name_of y ≡ GrammarSymbol.nonterminal (start_name w.prefix n) → ⊥
        go label side e m (GrammarSymbol.terminal t) q f = cc
        go label side e m (GrammarSymbol.nonterminal x) q f =
            let name_of_x : name_of x ≡ start_name w.prefix n = cc in
            let there : InExpansion written x = (suc e.0, (label.head, label.choice, side, e.1, m, q)) in
            let same : x ≡ Nonterminal.start n =
            named.naming.apart x (Nonterminal.start n) there i (name_of_x ∙ sym (named.naming.starts n i)) in
            no_start_inside written label.head label.choice side n m
            (subst (λ (y : Nonterminal). Among side (GrammarSymbol.nonterminal y)) same q)

    -- actions

    pub rule_expands : (r : EnabledRule) → Among checked.rules r
        → InExpansion checked (Nonterminal.closed (Closed.call r.name Closeds.none None))
    rule_expands r i =
        (zero, inr (r, None, expanded_still.rules r i, expanded_still.no_macros r i, expanded_still.no_levels r i, refl))

    -- no rule has the name of a start
    no_start_named : (n : Text) (r : EnabledRule) → InExpansion written (Nonterminal.start n) → Among checked.rules r
        → name_of (Nonterminal.start n) ≡ r.name → ⊥
    no_start_named n r i j e =
        let u = same_checked.no_other (Nonterminal.closed (Closed.call r.name Closeds.none None)) (rule_expands r j) in
        let name_so : name_of u.0 ≡ r.name = ap c.lowered.name_of (sym u.2) ∙ c.lowered.rule_names r.name in
        let same : u.0 ≡ Nonterminal.start n = named.naming.apart u.0 (Nonterminal.start n) u.1 i (name_so ∙ sym e) in
        let wrong : Nonterminal.closed (Closed.call r.name Closeds.none None) ≡ Nonterminal.start n = u.2 ∙ ap to same in
        cc

    leveled_does : ChoicesActAsTold written leveled
    leveled_does = subst (λ (g : Grammar). ChoicesActAsTold written (grammar_between finds g)) (sym c.front.levels.value)
        (leveled_part_acts finds features w level_of c.front.read)

    -- the rule of a closed symbol does what the symbol's productions do
    rule_does : (x : Closed) (r : EnabledRule) (d : Choice) → InExpansion written (Nonterminal.closed x) → Among checked.rules r
        → Among r.choices d → name_of (Nonterminal.closed x) ≡ r.name → ChoiceDoes written (Nonterminal.closed x) d.origin d.action
    rule_does x r d i j m e =
        let y = by_level_names level_of x in
        let k = in_keys leveled expanded_one key_of c.front.macros.keys c.front.macros.expansion y
        ((same_leveled finds features w c.leveled c.expanded c.front).there (Nonterminal.closed x) i) in
        let u = c.front.macros.expansion.rules y k in
        let name_so : key_of y ≡ r.name = sym (key_name y k) ∙ e in
        let there : IsRule checked r.name u.0 =
        subst (λ (t : Text). IsRule checked t u.0) name_so
        (subst (λ (g : EnabledGrammar). IsRule g (key_of y) u.0) (sym checked_is) u.1) in
        let same : r ≡ u.0 = one_rule checked r.name r u.0 (expanded_still.rules r j) there in
        acts_before written level_of x d.origin d.action
        (key_acts written leveled key_of leveled_does y u.0.choices u.2.choices d
        (subst (λ (q : EnabledRule). Among q.choices d) same m))

    pub defined : (p : NamedProduction) (label : WrittenLabel) (side : RightSide) → Among v.productions p
        → StandsForLabel written name_of v.origins p label side
        → (a : Action) × ChoiceDoes written label.head label.choice a × HasDefinition v p a
    defined p label side i s = go label.head label.choice s.in_expansion s.nonterminal_is s.origin_is (c.lowered.actions p i)
      where
        go : (x : Nonterminal) (o : Origin) → InExpansion written x → p.nonterminal ≡ name_of x
            → slice_get v.origins p.action ≡ Some o → IsRuleProduction checked v p ⊎ IsStartProduction checked v p
            → (a : Action) × ChoiceDoes written x o a × HasDefinition v p a
        go (Nonterminal.start n) o e name_so told (inl r) =
            absurd (no_start_named n r.rule e r.rule_there (sym name_so ∙ r.nonterminal_is))
        go (Nonterminal.start n) o e name_so told (inr t) = (Action.default, refl, t.definition)
        go (Nonterminal.closed x) o e name_so told (inl r) =
            let both : Some r.choice.origin ≡ Some o = sym r.origin_is ∙ told in
            let same : r.choice.origin ≡ o = cc in (
              r.choice.action,
              subst (λ (q : Origin). ChoiceDoes written (Nonterminal.closed x) q r.choice.action) same
                  (rule_does x r.rule r.choice e r.rule_there r.choice_there (sym name_so ∙ r.nonterminal_is)),
              r.definition,
            )
        go (Nonterminal.closed x) o e name_so told (inr t) =
            let there = start_from t.name t.start_there in
            let own : name_of (Nonterminal.closed x) ≡ name_of (Nonterminal.start t.name) =
            sym name_so ∙ t.nonterminal_is ∙ ap (λ (q : Text). start_name q t.name) prefix_written
            ∙ sym (named.naming.starts t.name there) in
            let wrong : Nonterminal.closed x ≡ Nonterminal.start t.name =
            named.naming.apart (Nonterminal.closed x) (Nonterminal.start t.name) e there own in
            absurd (let no : ⊥ = cc in no)

    -- what is inlined

    inlined_checked : SameInlined written checked to
    inlined_checked =
        subst (λ (g : EnabledGrammar). SameInlined written g to) (sym checked_is)
        (inlined_expanded finds features w c.leveled c.expanded c.front)

    pub inlined_alike : (x : Nonterminal) → InExpansion written x → Among v.inlined (name_of x) ↔ IsInlined written x
    inlined_alike (Nonterminal.start n) i = (
      λ a. c.lowered.no_start_inlined n (same_checked.there (Nonterminal.start n) i)
          (subst (Among v.inlined) (c.lowered.start_names n) a),
      λ a. absurd a,
    )
    inlined_alike (Nonterminal.closed x) i =
        let u = has_rule x i in
        let there = rule_there checked u.name u.rule u.is_rule in
        let own = c.lowered.inlined u.rule there.0 in
        let name_so : name_of (Nonterminal.closed x) ≡ u.rule.name = name_is x u ∙ sym there.1 in
        let both = inlined_checked (Nonterminal.closed x) i in (
          λ a. both.1 (subst (λ (y : Closed). IsInlined checked (Nonterminal.closed y)) (sym u.becomes)
              (u.rule, u.is_rule, own.0 (subst (Among v.inlined) name_so a))),
          λ a. let b = subst (λ (y : Closed). IsInlined checked (Nonterminal.closed y)) u.becomes (both.0 a) in
              subst (Among v.inlined) (sym name_so)
              (own.1 (ap (λ (e : EnabledRule). e.inlined) (one_rule checked u.name u.rule b.0 u.is_rule b.1) ∙ b.2)),
        )

    -- types

    pub types_checked : SameTypes written checked closed_to
    types_checked =
        subst (λ (g : EnabledGrammar). SameTypes written g closed_to) (sym checked_is)
        (types_expanded finds features w c.leveled c.expanded c.front)

    pub written_rule_of : (n : Text) (r : EnabledRule) → IsRule checked n r →
        (q : Rule) × Among (rules_of c.checked.items) q × (q.name ≡ n)
    written_rule_of n r is =
        let there = rule_there checked n r is in
        let q = among_map rule_between (rules_of c.checked.items) r there.0 in
        (q.0, q.1, ap (λ (e : EnabledRule). e.name) q.2 ∙ there.1)

    grounded_in : (n : Text) (k : ℕ) (t : GroundType) → IsGroundedIn checked k (rule_symbol n) t
        → InExpansion checked (Nonterminal.closed (rule_symbol n))
    grounded_in n zero t h = absurd h
    grounded_in n (suc k) t h = h.0

    -- what has a type is a nonterminal
    typed_name : (n : Text) (t : TypeRepr) → (at_name (nonterminal_of n) c.inferred ≡ Some t)
        ⊎ ((m : Text) × InExpansion checked (Nonterminal.start m) × (n ≡ start_name v.prefix m))
        → (x : Nonterminal) × InExpansion written x × (name_of x ≡ n)
    typed_name n t (inl e) =
        let grounded = c.types.right n t e in
        let u = same_checked.no_other (Nonterminal.closed (rule_symbol n)) (grounded_in n grounded.0 (type_repr_view t) grounded.1) in
        (u.0, u.1, ap c.lowered.name_of (sym u.2) ∙ c.lowered.rule_names n)
    typed_name n t (inr s) = (Nonterminal.start s.0, start_from s.0 s.1, c.lowered.start_names s.0 ∙ sym s.2)

    pub types_are : HasExpansionTypes written name_of v.types
    types_are = record {
      typed = λ x i.
          let u = has_rule x i in
          let q = written_rule_of u.name u.rule u.is_rule in
          let there = rule_there checked u.name u.rule u.is_rule in
          let name_so : name_of (Nonterminal.closed x) ≡ u.name = name_is x u in
          let table : at_name (nonterminal_of (name_of (Nonterminal.closed x))) v.types ≡ at_name (nonterminal_of q.0.name) c.inferred =
          ap (λ (t : Text). at_name (nonterminal_of t) v.types) (name_so ∙ sym there.1) ∙ c.lowered.rule_types u.rule there.0
          ∙ ap (λ (t : Text). at_name (nonterminal_of t) c.inferred) (there.1 ∙ sym q.2) in
          subst (λ (o : Option TypeRepr). IsSomeAnd o (λ t. IsGrounded written x (type_repr_view t))) (sym table)
          (some_so (at_name (nonterminal_of q.0.name) c.inferred) (λ t. IsGrounded checked (rule_symbol q.0.name) (type_repr_view t))
          (λ t. IsGrounded written x (type_repr_view t))
          (λ t h. (types_checked x (type_repr_view t) i).1
          (subst (λ (y : Closed). IsGrounded checked y (type_repr_view t))
          (ap rule_symbol q.2 ∙ sym u.becomes) h)) (c.types.typed q.0 q.1));
      once = λ x t s i a b.
          let u = has_rule x i in
          let q = written_rule_of u.name u.rule u.is_rule in
          let here : closed_to x ≡ rule_symbol q.0.name = u.becomes ∙ ap rule_symbol (sym q.2) in
          c.types.once q.0 t s q.1
          (subst (λ (y : Closed). IsGrounded checked y t) here ((types_checked x t i).0 a))
          (subst (λ (y : Closed). IsGrounded checked y s) here ((types_checked x s i).0 b));
      starts = λ n r i is.
          let name_r : r.name ≡ n = (rule_there written n r is).1 in
          let own : IsRule written r.name r = subst (λ (t : Text). IsRule written t r) (sym name_r) is in
          let rule_name : name_of (Nonterminal.closed (Closed.call n Closeds.none (loosest r))) ≡ n =
          ap (λ (t : Text). name_of (Nonterminal.closed (Closed.call t Closeds.none (loosest r)))) (sym name_r)
          ∙ named.naming.rules r own (start_plain written n r i is) ∙ name_r in
          ap (λ (t : Text). at_name (nonterminal_of t) v.types) (c.lowered.start_names n)
          ∙ c.lowered.start_types n (same_checked.there (Nonterminal.start n) i)
          ∙ ap (λ (t : Text). at_name (nonterminal_of t) v.types) (sym rule_name);
      no_other = λ n t e. typed_name n t (c.lowered.no_other_type n t e);
    }

    -- entries

    pub entries_are : v.entries ≡ c.tokens.entries
    entries_are =
        c.lowered.entries ∙ ap (λ (g : Grammar). entries_of_items g.items) c.tokens.whole
        ∙ entries_behind c.expanded.items c.tokens.entries
        ∙ ap (λ l. l ++ c.tokens.entries)
        (c.front.macros.entries ∙ ap (λ (g : Grammar). entries_of_items g.items) c.front.levels.value
        ∙ no_tokenizer features w level_of c.front.read)

    pub entries_full : AreFullExpansionEntries written (block_groups w.items) v.entries
    entries_full =
        subst (λ (es : List InternEntry). AreFullExpansionEntries written (block_groups w.items) es) (sym entries_are)
        (subst (λ (b : Option (List (List WrittenEntry))). AreFullExpansionEntries written b c.tokens.entries)
        (block_is finds features w c.leveled c.expanded c.front)
        (full_entries finds c.expanded c.front.macros.expanded written to (same_expanded finds features w c.leveled c.expanded c.front)
        c.tokens.entries c.tokens.are_checked.are_full))
