-- No symbol of error recovery comes in by dropping, resolving and levels; for the laws of what passes leave.
use Rattle.std.proofs.Common.{◌≡◌, ℕ, List, [], ◌∷◌, ap, sym, ◌∙◌, subst, Bool, inl, inr, ◌⊎◌}
use Rattle.std.specs.Prelude.{Option, Some, None, filter, map}
use Rattle.lalrpop_grammar_symbols.specs.Symbols.{Text, TextSpan, Sym, syms, WrittenSymbol}
use Rattle.lalrpop_grammar_symbols.specs.Subsymbols.{subsymbols_of}
use Rattle.lalrpop_grammar.specs.WrittenGrammar.{Alternative, Rule, Grammar, rules_of}
use Rattle.lalrpop_grammar_language.specs.Among.{Among}
use Rattle.lalrpop_grammar_language.specs.Enabled.{EnabledRule, Choice, choice_of, enabled_grammar}
use Rattle.lalrpop_grammar_language.specs.Levels.{tighter, ranked_choices}
use Rattle.lalrpop_grammar_language.specs.Closing.{Scope}
use Rattle.lalrpop_grammar_language.proofs.PlaceLemmas.{among_filter, among_map}
use Rattle.lalrpop_norm_theory.specs.Between.{with_origins, rule_between, grammar_between, without_disabled}
use Rattle.lalrpop_norm_theory.specs.Between.{choice_without_cfg, rule_without_cfg}
use Rattle.lalrpop_norm_theory.specs.Premises.{IsReadGrammar, IsNoRecovery, HasNoRecovery}
use Rattle.lalrpop_grammar_language.proofs.AmongLemmas.{map_among}
use Rattle.lalrpop_grammar_language.proofs.OrderLemmas.{among_parts}
use Rattle.lalrpop_norm_theory.proofs.BetweenLemmas.{rules_left}
use Rattle.lalrpop_norm_theory.specs.LevelRules.{rename_occurrences}
use Rattle.lalrpop_norm_theory.specs.Resolving.{DefinedNames, NameUse, use_of_name, resolved_name, defined_names}
use Rattle.lalrpop_norm_theory.specs.Resolving.{resolved_symbol, resolved_alternative, resolved_grammar}
use Rattle.lalrpop_norm_theory.specs.LeveledGrammar.{ranked_alternatives, has_rank_level, occurrence_scope, leveled_alternative}
use Rattle.lalrpop_norm_theory.specs.LeveledGrammar.{level_alternatives, names_alone, own_call, pass_downs}
use Rattle.lalrpop_norm_theory.specs.LeveledGrammar.{leveled_grammar}
use Rattle.lalrpop_norm_theory.proofs.LeveledRuleLemmas.{rule_of_key}
use Rattle.lalrpop_norm_chain.proofs.SourceLemmas.{resolved_source, leveled_source}
use Rattle.lalrpop_norm_chain.proofs.ActiveLemmas.{zip_front}
use Rattle.lalrpop_norm_chain.proofs.SubsymbolLemmas.{listed_subsymbols_resolved, listed_renamed_from}

-- no alternative has it, said of written rules

abbrev pub IsCalm : Alternative → Type 0
IsCalm a = (x : WrittenSymbol) → Among (subsymbols_of (syms a.expr)) x → IsNoRecovery x

abbrev pub IsCalmRule : Rule → Type 0
IsCalmRule r = (a : Alternative) → Among r.alternatives a → IsCalm a

abbrev pub AreCalmRules : List Rule → Type 0
AreCalmRules rs = (r : Rule) → Among rs r → IsCalmRule r

pub calm_between : (finds : Text → Text → Option Bool) (g : Grammar) → AreCalmRules (rules_of g.items) →
    HasNoRecovery (grammar_between finds g)
calm_between finds g h r c x s =
    let u = among_map rule_between (rules_of g.items) r s.rule in
    let v = among_map choice_of (with_origins u.0.alternatives) c (subst (λ (e : EnabledRule). Among e.choices c) (sym u.2) s.choice) in
    let t = among_map (λ (a : Alternative). (a.origin, a)) u.0.alternatives v.0 v.1 in
    let same : choice_of (t.0.origin, t.0) ≡ c = ap choice_of t.2 ∙ v.2 in
    h u.0 u.1 t.0 t.1 x (subst (λ (e : Choice). Among (subsymbols_of (syms e.expr)) x) (sym same) s.symbol)

pub between_calm : (finds : Text → Text → Option Bool) (g : Grammar) → HasNoRecovery (grammar_between finds g) →
    AreCalmRules (rules_of g.items)
between_calm finds g h r i a j x k =
    h (rule_between r) (choice_of (a.origin, a)) x (record {
      rule = map_among rule_between (rules_of g.items) r i;
      choice = map_among choice_of (with_origins r.alternatives) (a.origin, a)
          (map_among (λ (b : Alternative). (b.origin, b)) r.alternatives a j);
      symbol = k;
    })

-- dropping

pub left_calm : (finds : Text → Text → Option Bool) (features : List Text) (w : Grammar) → IsReadGrammar w →
    HasNoRecovery (enabled_grammar finds features w) → HasNoRecovery (grammar_between finds (without_disabled features w))
left_calm finds features w read none r c x s =
    let u = among_map rule_without_cfg (enabled_grammar finds features w).rules r
    (subst (λ (l : List EnabledRule). Among l r) (rules_left features w.items read.items) s.rule) in
    let v = among_map choice_without_cfg u.0.choices c (subst (λ (e : EnabledRule). Among e.choices c) (sym u.2) s.choice) in
    none u.0 v.0 x (record {
      rule = u.1;
      choice = v.1;
      symbol = subst (λ (e : Choice). Among (subsymbols_of (syms e.expr)) x) (sym v.2) s.symbol;
    })

-- resolving

calm_name : (u : NameUse) (p : TextSpan) (n : Text) → IsNoRecovery (resolved_name u p n)
calm_name NameUse.parameter p n = tt
calm_name NameUse.plain_rule p n = tt
calm_name NameUse.macro_rule p n = tt
calm_name NameUse.mapped p n = tt
calm_name NameUse.nothing p n = tt

calm_resolved : (d : DefinedNames) (ps : List Text) (x : WrittenSymbol) → IsNoRecovery x → IsNoRecovery (resolved_symbol d ps x)
calm_resolved d ps (Sym.error p) h = h
calm_resolved d ps (Sym.terminal p t) h = h
calm_resolved d ps (Sym.ambiguous_id p n) h = calm_name (use_of_name d ps n) p n
calm_resolved d ps (Sym.nonterminal p n) h = tt
calm_resolved d ps (Sym.macro p n args) h = tt
calm_resolved d ps (Sym.name p m n x) h = tt
calm_resolved d ps (Sym.expr p xs) h = tt
calm_resolved d ps (Sym.repeat p op x) h = tt
calm_resolved d ps (Sym.choose p x) h = tt
calm_resolved d ps (Sym.lookahead p) h = tt
calm_resolved d ps (Sym.lookbehind p) h = tt

pub resolved_calm : (g : Grammar) → AreCalmRules (rules_of g.items) → AreCalmRules (rules_of (resolved_grammar g).items)
resolved_calm g h r i a j x k =
    let q = resolved_source g r i in
    let b = among_map (resolved_alternative (defined_names g) q.0.parameters) q.0.alternatives a
    (subst (λ (e : Rule). Among e.alternatives a) (sym q.2) j) in
    let here : Among (subsymbols_of (syms (resolved_alternative (defined_names g) q.0.parameters b.0).expr)) x =
    subst (λ (e : Alternative). Among (subsymbols_of (syms e.expr)) x) (sym b.2) k in
    let y = among_map (resolved_symbol (defined_names g) q.0.parameters) (subsymbols_of (syms b.0.expr)) x
    (subst (λ (l : List WrittenSymbol). Among l x) (listed_subsymbols_resolved (defined_names g) q.0.parameters b.0.expr) here) in
    subst IsNoRecovery y.2 (calm_resolved (defined_names g) q.0.parameters y.0 (h q.0 q.1 b.0 b.1 y.0 y.1))

-- levels

calm_renamed : (f : Text → ℕ → Text) (s : Scope) (k : ℕ) (x : WrittenSymbol) → IsNoRecovery x →
    IsNoRecovery (rename_occurrences f s k x)
calm_renamed f s k (Sym.error p) h = h
calm_renamed f s k (Sym.terminal p t) h = h
calm_renamed f s k (Sym.ambiguous_id p n) h = tt
calm_renamed f s k (Sym.nonterminal p n) h = tt
calm_renamed f s k (Sym.macro p n args) h = tt
calm_renamed f s k (Sym.name p m n x) h = tt
calm_renamed f s k (Sym.expr p xs) h = tt
calm_renamed f s k (Sym.repeat p op x) h = tt
calm_renamed f s k (Sym.choose p x) h = tt
calm_renamed f s k (Sym.lookahead p) h = tt
calm_renamed f s k (Sym.lookbehind p) h = tt

calm_names : (span : TextSpan) (ns : List Text) (x : WrittenSymbol) → Among (subsymbols_of (syms (names_alone span ns))) x →
    IsNoRecovery x
calm_names span [] x i = absurd i
calm_names span (n ∷ ns) x (inl e) = subst IsNoRecovery e tt
calm_names span (n ∷ ns) x (inr i) = calm_names span ns x i

calm_call : (span : TextSpan) (n : Text) (ps : List Text) (x : WrittenSymbol) →
    Among (subsymbols_of (syms (own_call span n ps ∷ []))) x → IsNoRecovery x
calm_call span n [] x (inl e) = subst IsNoRecovery e tt
calm_call span n [] x (inr i) = absurd i
calm_call span n (p ∷ ps) x (inl e) = subst IsNoRecovery e tt
calm_call span n (p ∷ ps) x (inr i) = go (among_parts (subsymbols_of (syms (names_alone span (p ∷ ps)))) [] x i)
  where
    go : Among (subsymbols_of (syms (names_alone span (p ∷ ps)))) x ⊎ Among [] x → IsNoRecovery x
    go (inl j) = calm_names span (p ∷ ps) x j
    go (inr j) = absurd j

pub leveled_calm : (f : Text → ℕ → Text) (g : Grammar) → AreCalmRules (rules_of g.items) →
    AreCalmRules (rules_of (leveled_grammar f g).items)
leveled_calm f g h r i =
    let u = leveled_source f g r i in subst IsCalmRule u.is_it (of_key u.rule u.level (h u.rule u.among))
  where
    of_level : (q : Rule) (j : ℕ) (a : Alternative) → IsCalmRule q → Among (level_alternatives f q j) a → IsCalm a
    of_level q j a k m =
        let v = among_map (leveled_alternative f q) (filter (λ p. has_rank_level j p.1) (ranked_alternatives q)) a m in
        let t = among_filter (λ p. has_rank_level j p.1) (ranked_alternatives q) v.0 v.1 in
        let listed : Among q.alternatives v.0.0 =
        zip_front q.alternatives (map (λ p. p.1) (ranked_choices (rule_between q))) v.0 t.0 in
        subst IsCalm v.2 (λ x n.
        let y = listed_renamed_from f (occurrence_scope q v.0.0 v.0.1) 0 v.0.0.expr x n in
        subst IsNoRecovery y.is_it
        (calm_renamed f (occurrence_scope q v.0.0 v.0.1) y.after y.from (k v.0.0 listed y.from y.among)))

    of_pass : (q : Rule) (o : Option ℕ) (a : Alternative) → Among (pass_downs f q o) a → IsCalm a
    of_pass q None a m = absurd m
    of_pass q (Some to) a (inl e) = subst IsCalm e (λ x n. calm_call q.span (f q.name to) q.parameters x n)
    of_pass q (Some to) a (inr m) = absurd m

    of_alternative : (q : Rule) (j : ℕ) (a : Alternative) → IsCalmRule q →
        Among (level_alternatives f q j) a ⊎ Among (pass_downs f q (tighter (rule_between q) j)) a → IsCalm a
    of_alternative q j a k (inl m) = of_level q j a k m
    of_alternative q j a k (inr m) = of_pass q (tighter (rule_between q) j) a m

    of_key : (q : Rule) (level : Option ℕ) → IsCalmRule q → IsCalmRule (rule_of_key f q level)
    of_key q None k = k
    of_key q (Some j) k = λ a m. of_alternative q j a k
        (among_parts (level_alternatives f q j) (pass_downs f q (tighter (rule_between q) j)) a m)

-- none of the three passes brings it in
pub no_recovery : (finds : Text → Text → Option Bool) (features : List Text) (w : Grammar) (f : Text → ℕ → Text) →
    IsReadGrammar w → HasNoRecovery (enabled_grammar finds features w) →
    HasNoRecovery (grammar_between finds (leveled_grammar f (resolved_grammar (without_disabled features w))))
no_recovery finds features w f read none =
    calm_between finds (leveled_grammar f (resolved_grammar (without_disabled features w)))
    (leveled_calm f (resolved_grammar (without_disabled features w))
    (resolved_calm (without_disabled features w)
    (between_calm finds (without_disabled features w) (left_calm finds features w read none))))
