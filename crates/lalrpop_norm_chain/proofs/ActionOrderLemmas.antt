-- In which order the passes number actions; for the law of chains.
use Rattle.std.proofs.Common.{◌≡◌, ◌∙◌, ◌++◌, ◌⊎◌, List, [], ◌∷◌, refl, ap, ap₂, sym, subst, cond, inl, inr}
use Rattle.std.proofs.Common.{Bool, true, false, ℕ}
use Rattle.std.specs.Prelude.{Option, filter, map}
use Rattle.std.proofs.lemmas.Bool.{and_from, and_parts, true≢false}
use Rattle.std.proofs.lemmas.List.{map-append}
use Rattle.lalrpop_grammar_symbols.specs.Symbols.{Closed, Closeds, Text}
use Rattle.lalrpop_grammar.specs.WrittenGrammar.{Grammar, Rule, rules_of}
use Rattle.lalrpop_grammar.specs.declared.types.type_repr.TypeRepr.{TypeRepr}
use Rattle.lalrpop_grammar_language.specs.Among.{Among}
use Rattle.lalrpop_grammar_language.specs.Enabled.{EnabledGrammar, EnabledRule, IsRule, enabled_grammar, has_name}
use Rattle.lalrpop_grammar_language.specs.Levels.{loosest}
use Rattle.lalrpop_grammar_language.specs.Expansion.{InExpansion, Nonterminal}
use Rattle.lalrpop_grammar_language.specs.Starts.{has_none}
use Rattle.lalrpop_grammar_language.proofs.AmongLemmas.{flat_map_among, map_among}
use Rattle.lalrpop_grammar_language.proofs.ComparisonLemmas.{same_text-refl}
use Rattle.lalrpop_grammar_language.proofs.OrderLemmas.{among_parts}
use Rattle.lalrpop_grammar_language.proofs.StepLemmas.{among_left}
use Rattle.lalrpop_grammar_repr.specs.Maps.{at_name}
use Rattle.lalrpop_norm_theory.specs.Between.{grammar_between, rule_between, without_disabled}
use Rattle.lalrpop_norm_theory.specs.KeyRules.{nonterminal_by_name}
use Rattle.lalrpop_norm_theory.specs.Keys.{leveled_key_text, IsNaming}
use Rattle.lalrpop_norm_theory.specs.LevelLaws.{IsLevelable, nonterminal_by_level}
use Rattle.lalrpop_norm_theory.specs.LevelRules.{by_level_names}
use Rattle.lalrpop_norm_theory.specs.Same.{SameExpansion}
use Rattle.lalrpop_norm_theory.specs.UsedKeys.{AreKeysByUse, IsListByUse, rule_at_levels, unless_macro, written_keys}
use Rattle.lalrpop_norm_theory.proofs.DroppingLemmas.{dropped_keys_by_use}
use Rattle.lalrpop_norm_theory.proofs.ExpansionListLemmas.{rule_there}
use Rattle.lalrpop_norm_theory.proofs.LevelNameLemmas.{after}
use Rattle.lalrpop_norm_theory.proofs.LevelOrderLemmas.{one_rule}
use Rattle.lalrpop_norm_theory.proofs.LeveledOrderLemmas.{order_back, written_forth, written_in}
use Rattle.lalrpop_norm_theory.proofs.ResolvingLemmas.{resolved_keys_by_use}
use Rattle.lalrpop_norm_theory.specs.Types.{IsGrounded}
use Rattle.lalrpop_norm_tyinfer.specs.GroundViews.{type_repr_view}
use Rattle.lalrpop_norm_tyinfer.specs.TypeFaults.{nonterminal_of}
use Rattle.lalrpop_norm_lower.specs.LoweredLists.{gets_start, rules_with_starts}
use Rattle.lalrpop_norm_lower.specs.NumberOrders.{AreNumberedAlong}
use Rattle.lalrpop_norm_lower.proofs.RowLemmas.{start_there}
use Rattle.lalrpop_norm_chain.specs.ActionOrders.{IsActionOrder, started_names}
use Rattle.lalrpop_norm_chain.specs.Chains.{IsChain}
use Rattle.lalrpop_norm_chain.specs.Lowered.{LoweredGrammar, start_name}
use Rattle.lalrpop_norm_chain.specs.PremiseLaws.{resolved_part}
use Rattle.lalrpop_norm_chain.proofs.ChainLemmas as chain
use Rattle.lalrpop_norm_chain.proofs.FrontLemmas.{levelable, same_resolved}
use Rattle.lalrpop_norm_chain.proofs.MadeLemmas.{some_there}
use Rattle.lalrpop_norm_chain.proofs.OnePlaceLemmas.{called_rule, only_passing}
use Rattle.lalrpop_norm_chain.proofs.StartedNameLemmas.{AreStartsOf, IsSymbolOfStart, listed_starts, one_list_of_starts, rule_of_start}
use Rattle.lalrpop_norm_chain.proofs.StartedNameLemmas.{start_produces}

module _ (finds : Text → Text → Option Bool) (features : List Text) (w : Grammar) (v : LoweredGrammar) (c : IsChain finds features w v)
  where
    abbrev written : EnabledGrammar
    written = enabled_grammar finds features w

    abbrev checked : EnabledGrammar
    checked = grammar_between finds c.checked

    abbrev resolved : EnabledGrammar
    resolved = grammar_between finds (resolved_part features w)

    abbrev level_of : Text → ℕ → Text
    level_of = c.front.levels.names

    levels_known : IsLevelable finds (resolved_part features w) level_of
    levels_known = levelable finds features w c.leveled c.expanded c.front

    abbrev rs : List Rule
    rs = rules_of c.checked.items

    abbrev to : Nonterminal → Nonterminal
    to x = nonterminal_by_name c.front.macros.key_of (nonterminal_by_level c.front.levels.names x)

    abbrev name_of : Nonterminal → Text
    name_of x = c.lowered.name_of (to x)

    same_checked : SameExpansion written checked to
    same_checked = chain.same_checked finds features w v c

    named : IsNaming (leveled_key_text written) w.prefix written name_of
    named = (chain.named finds features w v c).naming

    -- a start's rule has its name
    call_of_start : (n : Text) → InExpansion written (Nonterminal.start n) → (r : EnabledRule) → IsRule written n r
        → name_of (Nonterminal.closed (Closed.call n Closeds.none (loosest r))) ≡ n
    call_of_start n i r is =
        let name_r : r.name ≡ n = (rule_there written n r is).1 in
        let own : IsRule written r.name r = subst (λ (t : Text). IsRule written t r) (sym name_r) is in
        ap (λ (t : Text). name_of (Nonterminal.closed (Closed.call t Closeds.none (loosest r)))) (sym name_r)
        ∙ named.rules r own (chain.start_plain written n r i is) ∙ name_r

    same_symbol : (x y : Closed) → Nonterminal.closed x ≡ Nonterminal.closed y → x ≡ y
    same_symbol x y e = cc

    -- a rule with a start is for the symbol that has it
    has_start : (r : Rule) → Among rs r → (x : Closed) → InExpansion written (Nonterminal.closed x)
        → name_of (Nonterminal.closed x) ≡ r.name → gets_start r ≡ true → IsSymbolOfStart written x r.name
    has_start r i x j e starts =
        let started = chain.start_from finds features w v c r.name
        (start_there checked (chain.expanded_still finds features w v c) (rule_between r) (map_among rule_between rs r i)
        (and_parts r.public (has_none r.parameters) starts).0) in
        let u = rule_of_start written r.name started in
        record {
          started = started;
          rule = u.0;
          is_rule = u.1;
          symbol_is = same_symbol x (Closed.call r.name Closeds.none (loosest u.0))
              (named.apart (Nonterminal.closed x) (Nonterminal.closed (Closed.call r.name Closeds.none (loosest u.0))) j u.2
              (e ∙ sym (call_of_start r.name started u.0 u.1)));
        }

    -- and one without a start is for a symbol that has none
    has_no_start : (r : Rule) → Among rs r → (x : Closed) → InExpansion written (Nonterminal.closed x)
        → name_of (Nonterminal.closed x) ≡ r.name → gets_start r ≡ false → (n : Text) → IsSymbolOfStart written x n → ⊥
    has_no_start r i x j e none n s =
        let name : n ≡ r.name =
        sym (call_of_start n s.started s.rule s.is_rule) ∙ ap (λ (y : Closed). name_of (Nonterminal.closed y)) (sym s.symbol_is) ∙ e in
        let started = subst (λ (t : Text). InExpansion checked (Nonterminal.start t)) name
        (same_checked.there (Nonterminal.start n) s.started) in
        let p = start_produces checked r.name started in
        let own = (chain.expanded_still finds features w v c).rules (rule_between r) (map_among rule_between rs r i) in
        let same : rule_between r ≡ p.1.0 = one_rule checked r.name (rule_between r) p.1.0 own p.1.1 in
        let public : r.public ≡ true = ap (λ (q : EnabledRule). q.public) same ∙ p.1.3 in
        let plain : has_none r.parameters ≡ true = ap (λ (q : EnabledRule). has_none q.parameters) same ∙ ap has_none p.1.2 in
        true≢false (sym (and_from r.public (has_none r.parameters) public plain) ∙ none)

    -- rules that stand in the order of these symbols have their starts
    starts_along : (xs : List Closed) (qs : List Rule)
        → map (λ (x : Closed). name_of (Nonterminal.closed x)) xs ≡ map (λ (r : Rule). r.name) qs
        → ((x : Closed) → Among xs x → InExpansion written (Nonterminal.closed x)) → ((r : Rule) → Among qs r → Among rs r)
        → AreStartsOf written xs (map (λ (r : Rule). r.name) (rules_with_starts qs))
    starts_along [] [] e there part = refl
    starts_along [] (q ∷ qs) e there part = absurd (let wrong : ⊥ = cc in wrong)
    starts_along (x ∷ xs) [] e there part = absurd (let wrong : ⊥ = cc in wrong)
    starts_along (x ∷ xs) (q ∷ qs) e there part =
        let first : name_of (Nonterminal.closed x) ≡ q.name = cc in
        let rest : map (λ (y : Closed). name_of (Nonterminal.closed y)) xs ≡ map (λ (r : Rule). r.name) qs = cc in
        go (gets_start q) refl (there x (inl refl)) (part q (inl refl)) first
        (starts_along xs qs rest (λ y i. there y (inr i)) (λ r i. part r (inr i)))
      where
        go : (b : Bool) → gets_start q ≡ b → InExpansion written (Nonterminal.closed x) → Among rs q
            → name_of (Nonterminal.closed x) ≡ q.name → AreStartsOf written xs (map (λ (r : Rule). r.name) (rules_with_starts qs))
            → AreStartsOf written (x ∷ xs)
            (map (λ (r : Rule). r.name) (cond b (q ∷ filter gets_start qs) (filter gets_start qs)))
        go true f j i e later =
            inl (q.name, map (λ (r : Rule). r.name) (rules_with_starts qs), refl, has_start q i x j e f, later)
        go false f j i e later = inr ((λ n s. has_no_start q i x j e f n s), later)

    -- the keys of the pass over macros are those of the written grammar in order of first use, under the names of levels
    record AreKeysHere : Type 0 where
      others : List Closed
      in_order : AreKeysByUse written others
      keys_are : c.front.macros.keys ≡ map (by_level_names level_of) (written_keys written ++ others)
      there : (x : Closed) → Among (written_keys written ++ others) x → InExpansion written (Nonterminal.closed x)

    keys_here : AreKeysHere
    keys_here =
        let leveled : IsListByUse (after finds (resolved_part features w) level_of) c.front.macros.keys =
        subst (λ (g : Grammar). IsListByUse (grammar_between finds g) c.front.macros.keys) c.front.levels.value
        c.front.macros.in_order in
        let r = order_back finds (resolved_part features w) level_of levels_known leveled.0 leveled.2 in
        let here : List Closed = written_keys resolved ++ r.others in
        let back : IsListByUse written here =
        dropped_keys_by_use finds features w here c.front.read
        (resolved_keys_by_use finds (without_disabled features w) here (r.others, refl, r.in_order)) in
        record {
          others = back.0;
          in_order = back.2;
          keys_are = leveled.1 ∙ ap (λ (l : List Closed). l ++ leveled.0) (written_forth finds (resolved_part features w) level_of levels_known)
              ∙ ap (λ (l : List Closed). map (by_level_names level_of) (written_keys resolved) ++ l) r.more_is
              ∙ sym (map-append (by_level_names level_of) (written_keys resolved) r.others)
              ∙ ap (map (by_level_names level_of)) back.1;
          there = λ x i. whole x (parted r.others r.are_in x (among_parts (written_keys resolved) r.others x
              (subst (λ (l : List Closed). Among l x) (sym back.1) i)));
        }
      where
        parted : (others : List Closed) → ((x : Closed) → Among others x → InExpansion resolved (Nonterminal.closed x)) → (x : Closed)
            → Among (written_keys resolved) x ⊎ Among others x → InExpansion resolved (Nonterminal.closed x)
        parted others are_in x (inl i) = written_in finds (resolved_part features w) level_of levels_known x i
        parted others are_in x (inr i) = are_in x i

        whole : (x : Closed) → InExpansion resolved (Nonterminal.closed x) → InExpansion written (Nonterminal.closed x)
        whole x i =
            let u = (same_resolved finds features w c.leveled c.expanded c.front).no_other (Nonterminal.closed x) i in
            subst (InExpansion written) (sym u.2) u.1

    named_keys : (xs : List Closed) → ((x : Closed) → Among xs x → Among c.front.macros.keys (by_level_names level_of x))
        → map (λ (x : Closed). name_of (Nonterminal.closed x)) xs ≡ map c.front.macros.key_of (map (by_level_names level_of) xs)
    named_keys [] there = refl
    named_keys (x ∷ xs) there =
        ap₂ (λ (n : Text) (l : List Text). n ∷ l)
        (chain.key_name finds features w v c (by_level_names level_of x) (there x (inl refl)))
        (named_keys xs (λ y i. there y (inr i)))

    -- so the rules of the expanded grammar stand in that order
    names_are : (a : AreKeysHere)
        → map (λ (x : Closed). name_of (Nonterminal.closed x)) (written_keys written ++ a.others) ≡ map (λ (r : Rule). r.name) rs
    names_are a =
        named_keys (written_keys written ++ a.others)
        (λ x i. subst (λ (l : List Closed). Among l (by_level_names level_of x)) (sym a.keys_are)
        (map_among (by_level_names level_of) (written_keys written ++ a.others) x i))
        ∙ ap (map c.front.macros.key_of) (sym a.keys_are) ∙ sym c.front.macros.rule_order
        ∙ ap (map (λ (r : Rule). r.name)) (sym rules_checked)
      where
        rules_checked : rs ≡ rules_of c.expanded.items
        rules_checked =
            ap (λ (g : Grammar). rules_of g.items) c.tokens.whole ∙ chain.rules_behind c.expanded.items c.tokens.entries

    starts_named : (qs : List Rule) → map (λ (n : Text). name_of (Nonterminal.start n)) (map (λ (r : Rule). r.name) qs)
        ≡ map (λ (r : Rule). c.checked.prefix ++ r.name) qs
    starts_named [] = refl
    starts_named (r ∷ qs) =
        ap₂ (λ (n : Text) (l : List Text). n ∷ l)
        (c.lowered.start_names r.name ∙ ap (λ (p : Text). start_name p r.name) c.lowered.prefix_is) (starts_named qs)

    -- a rule without parameters is the only one of its name
    single : (r : EnabledRule) → Among written.rules r → r.parameters ≡ [] → IsRule written r.name r
    single r i plain =
        let x = Closed.call r.name Closeds.none (loosest r) in
        let key : Among (written_keys written) x =
        flat_map_among (λ (q : EnabledRule). unless_macro q.parameters (rule_at_levels q)) written.rules r x i
        (subst (λ (ps : List Text). Among (unless_macro ps (rule_at_levels r)) x) (sym plain) (inl refl)) in
        let t = some_there (λ (t : TypeRepr). IsGrounded written x (type_repr_view t))
        (at_name (nonterminal_of (name_of (Nonterminal.closed x))) v.types)
        ((chain.types_are finds features w v c).typed x
        (keys_here.there x (among_left (written_keys written) keys_here.others x key))) in
        let q = called_rule written r.name Closeds.none (loosest r) (type_repr_view t.0) t.2 in
        subst (IsRule written r.name)
        (only_passing (has_name r.name) written.rules q.0 q.1 r i (same_text-refl r.name)) q.1

    -- the rules of the expanded grammar that have starts are those of the written one
    same_started : map (λ (r : Rule). r.name) (rules_with_starts rs) ≡ started_names written
    same_started =
        one_list_of_starts written (written_keys written ++ keys_here.others) (map (λ (r : Rule). r.name) (rules_with_starts rs))
        (started_names written)
        (starts_along (written_keys written ++ keys_here.others) rs (names_are keys_here) keys_here.there (λ r i. i))
        (listed_starts written single keys_here.others keys_here.in_order)

    -- along which actions are numbered
    pub action_order : IsActionOrder written name_of v.productions
    action_order = record {
      others = keys_here.others;
      in_order = keys_here.in_order;
      numbered = subst (λ (l : List Text). AreNumberedAlong l v.productions)
          (sym (ap₂ ◌++◌
          (ap (map (λ (n : Text). name_of (Nonterminal.start n))) (sym same_started) ∙ starts_named (rules_with_starts rs))
          (names_are keys_here))) c.lowered.numbered;
    }
