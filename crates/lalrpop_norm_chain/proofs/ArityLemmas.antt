-- Calls with a wrong number of arguments stay through resolving and levels; for the faults that stand in the written grammar.
use Rattle.std.proofs.Common.{◌≡◌, ℕ, suc, List, [], ◌∷◌, ◌++◌, refl, ap, sym, ◌∙◌, subst, cond, Bool, true, false}
use Rattle.std.proofs.Common.{inl, inr, ◌⊎◌, length}
use Rattle.std.specs.Prelude.{Option, Some, None, map, flat_map, filter, ◌+◌, ◌==◌}
use Rattle.std.proofs.lemmas.Bool.{eq-eqb}
use Rattle.lalrpop_grammar_symbols.specs.Symbols.{Text, TextSpan, Sym, Syms, syms, list_of, WrittenSymbol}
use Rattle.lalrpop_grammar_symbols.specs.Subsymbols.{subsymbols, subsymbols_of}
use Rattle.lalrpop_grammar_symbols.specs.SymbolMaps.{map_symbols}
use Rattle.lalrpop_grammar.specs.WrittenGrammar.{Alternative, Rule, Grammar, rules_of}
use Rattle.lalrpop_grammar_language.specs.Among.{Among}
use Rattle.lalrpop_grammar_language.specs.Enabled.{EnabledGrammar, EnabledRule, IsRule, choice_of, rules_named}
use Rattle.lalrpop_grammar_language.specs.Levels.{Rank, ranked_choices, tighter, has_levels, allowed_level}
use Rattle.lalrpop_grammar_language.specs.Closing.{Scope, names_owner, occurrences, occurrences_in, scope_of}
use Rattle.lalrpop_grammar_language.specs.Expansion.{HasLevel}
use Rattle.lalrpop_grammar_language.proofs.PlaceLemmas.{among_filter, among_map}
use Rattle.lalrpop_norm_theory.specs.Between.{with_origins, rule_between, grammar_between}
use Rattle.lalrpop_norm_theory.specs.Premises.{IsResolvedIn}
use Rattle.lalrpop_grammar_language.proofs.AmongLemmas.{flat_map_among}
use Rattle.lalrpop_grammar_language.proofs.AmongLemmas.{map_among}
use Rattle.lalrpop_grammar_language.proofs.AmongLemmas.{among_flat_map}
use Rattle.lalrpop_grammar_language.proofs.StepLemmas.{among_right}
use Rattle.lalrpop_grammar_language.proofs.StepLemmas.{among_left}
use Rattle.lalrpop_grammar_language.proofs.OrderLemmas.{among_parts}
use Rattle.lalrpop_norm_theory.specs.LevelRules.{occurrence_name, rename_occurrences, rename_all_occurrences}
use Rattle.lalrpop_norm_theory.specs.LevelRules.{rename_listed_occurrences}
use Rattle.lalrpop_norm_theory.specs.Resolving.{NameUse, use_of_name, resolved_name, defined_names, name_resolution}
use Rattle.lalrpop_norm_theory.specs.Resolving.{resolved_symbol, resolved_alternative, resolved_rule, resolved_grammar}
use Rattle.lalrpop_norm_theory.proofs.RuleChangeLemmas.{RuleChange, changed_rule, named_kept}
use Rattle.lalrpop_norm_theory.proofs.ResolvingLemmas.{rules_resolved}
use Rattle.lalrpop_norm_theory.specs.LeveledGrammar.{ranked_alternatives, has_rank_level, occurrence_scope, parameters_alone}
use Rattle.lalrpop_norm_theory.specs.LeveledGrammar.{leveled_alternative, level_alternatives, names_alone, own_call, pass_down_to}
use Rattle.lalrpop_norm_theory.specs.LeveledGrammar.{pass_downs, rule_at_level, leveled_grammar}
use Rattle.lalrpop_norm_theory.specs.LevelLaws.{IsLevelable}
use Rattle.lalrpop_norm_theory.proofs.LevelNameLemmas.{before, after, rule_stays, names_there}
use Rattle.lalrpop_norm_theory.proofs.LevelChoiceLemmas.{choice_between, ranked_choice, is_rank}
use Rattle.lalrpop_norm_theory.proofs.LeveledRuleLemmas.{rule_of_key, rules_of-leveled, key_rule, key_there}
use Rattle.lalrpop_norm_theory.proofs.RenameLemmas.{NamesAreThere, rename_listed_alike}
use Rattle.lalrpop_norm_theory.proofs.ResolvedLevelLemmas.{alike_scope}
use Rattle.lalrpop_norm_theory.proofs.RightLevelLemmas.{has_loosest, rank_of, allowed_present, tighter_present}
use Rattle.lalrpop_norm_keys.specs.Arity.{arity_fault_of, arity_fault, arity_faults_at, arity_faults_in, arity_faults}
use Rattle.lalrpop_norm_chain.proofs.SourceLemmas.{leveled_source}
use Rattle.lalrpop_norm_chain.proofs.ActiveLemmas.{zip_front}
use Rattle.lalrpop_norm_chain.proofs.SubsymbolLemmas.{listed_subsymbols_resolved}
use Rattle.lalrpop_norm_theory.proofs.LevelLemmas.{keeps}
use Rattle.lalrpop_norm_chain.proofs.FlatListLemmas.{flat_of_map, flat_same, flat_join}
use Rattle.lalrpop_norm_chain.proofs.RightRankLemmas.{right_rank}
use Rattle.lalrpop_norm_chain.proofs.MadeConditionLemmas.{spelled_so, changed}
use Rattle.lalrpop_norm_theory.proofs.ResolvingLemmas.{name_change}

-- resolving

changed_arity : (w : RuleChange) (rs : List EnabledRule) (k : ℕ) (p : TextSpan) →
    arity_fault_of (map (changed_rule w) rs) k p ≡ arity_fault_of rs k p
changed_arity w [] k p = refl
changed_arity w (r ∷ []) k p = refl
changed_arity w (r ∷ s ∷ rs) k p = refl

module _ (finds : Text → Text → Option Bool) (g : Grammar) where
  abbrev here : EnabledGrammar
  here = grammar_between finds g

  abbrev there : EnabledGrammar
  there = grammar_between finds (resolved_grammar g)

  as_many : (ps : List Text) (xs : Syms TextSpan) →
      length (list_of (map_symbols (name_resolution (defined_names g) ps) xs)) ≡ length (list_of xs)
  as_many ps Syms.none = refl
  as_many ps (Syms.more x xs) = ap suc (as_many ps xs)

  named_arity : (n : Text) (k : ℕ) (p : TextSpan) → arity_fault_of (rules_named there n) k p ≡ arity_fault_of (rules_named here n) k p
  named_arity n k p =
      ap (λ (rs : List EnabledRule). arity_fault_of rs k p)
      (named_kept (name_change (defined_names g)) (spelled_so finds g) there (changed finds g) n)
      ∙ changed_arity (name_change (defined_names g)) (rules_named here n) k p

  no_arity : (u : NameUse) (p : TextSpan) (n : Text) → arity_fault there (resolved_name u p n) ≡ []
  no_arity NameUse.parameter p n = refl
  no_arity NameUse.plain_rule p n = refl
  no_arity NameUse.macro_rule p n = refl
  no_arity NameUse.mapped p n = refl
  no_arity NameUse.nothing p n = refl

  symbol_arity : (ps : List Text) (x : WrittenSymbol) →
      arity_fault there (resolved_symbol (defined_names g) ps x) ≡ arity_fault here x
  symbol_arity ps (Sym.macro p n args) =
      named_arity n (length (list_of (map_symbols (name_resolution (defined_names g) ps) args))) p
      ∙ ap (λ (k : ℕ). arity_fault_of (rules_named here n) k p) (as_many ps args)
  symbol_arity ps (Sym.ambiguous_id p n) = no_arity (use_of_name (defined_names g) ps n) p n
  symbol_arity ps (Sym.nonterminal p n) = refl
  symbol_arity ps (Sym.terminal p t) = refl
  symbol_arity ps (Sym.name p m n x) = refl
  symbol_arity ps (Sym.expr p xs) = refl
  symbol_arity ps (Sym.repeat p op x) = refl
  symbol_arity ps (Sym.choose p x) = refl
  symbol_arity ps (Sym.lookahead p) = refl
  symbol_arity ps (Sym.lookbehind p) = refl
  symbol_arity ps (Sym.error p) = refl

  alternative_arity : (ps : List Text) (a : Alternative) →
      arity_faults_at there (resolved_alternative (defined_names g) ps a) ≡ arity_faults_at here a
  alternative_arity ps a =
      ap (flat_map (arity_fault there)) (listed_subsymbols_resolved (defined_names g) ps a.expr)
      ∙ flat_of_map (arity_fault there) (resolved_symbol (defined_names g) ps) (subsymbols_of (syms a.expr))
      ∙ flat_same (λ (x : WrittenSymbol). arity_fault there (resolved_symbol (defined_names g) ps x)) (arity_fault here)
      (subsymbols_of (syms a.expr)) (λ x i. symbol_arity ps x)

  rule_arity : (r : Rule) → arity_faults_in there (resolved_rule (defined_names g) r) ≡ arity_faults_in here r
  rule_arity r =
      flat_of_map (arity_faults_at there) (resolved_alternative (defined_names g) r.parameters) r.alternatives
      ∙ flat_same (λ (a : Alternative). arity_faults_at there (resolved_alternative (defined_names g) r.parameters a))
      (arity_faults_at here) r.alternatives (λ a i. alternative_arity r.parameters a)

  -- such calls are those before names were resolved
  pub resolved_arity : arity_faults there (rules_of (resolved_grammar g).items) ≡ arity_faults here (rules_of g.items)
  resolved_arity =
      ap (flat_map (arity_faults_in there)) (rules_resolved (defined_names g) g.items)
      ∙ flat_of_map (arity_faults_in there) (resolved_rule (defined_names g)) (rules_of g.items)
      ∙ flat_same (λ (r : Rule). arity_faults_in there (resolved_rule (defined_names g) r)) (arity_faults_in here) (rules_of g.items)
      (λ r i. rule_arity r)

-- symbols under the names of levels, one by one

mutual
  renamed_flat : {B : Type 0} (u v : WrittenSymbol → List B) (f : Text → ℕ → Text) (s : Scope) (k : ℕ) (x : WrittenSymbol) →
      ((j : ℕ) (z : WrittenSymbol) → Among (subsymbols x) z → u (rename_occurrences f s j z) ≡ v z) →
      flat_map u (subsymbols (rename_occurrences f s k x)) ≡ flat_map v (subsymbols x)
  renamed_flat u v f s k (Sym.expr p xs) h =
      ap (λ l. l ++ flat_map u (subsymbols_of (rename_all_occurrences f s k xs))) (h k (Sym.expr p xs) (inl refl))
      ∙ ap (λ l. v (Sym.expr p xs) ++ l) (all_renamed_flat u v f s k xs (λ j z i. h j z (inr i)))
  renamed_flat u v f s k (Sym.ambiguous_id p n) h = ap (λ l. l ++ []) (h k (Sym.ambiguous_id p n) (inl refl))
  renamed_flat u v f s k (Sym.nonterminal p n) h = ap (λ l. l ++ []) (h k (Sym.nonterminal p n) (inl refl))
  renamed_flat u v f s k (Sym.terminal p t) h = ap (λ l. l ++ []) (h k (Sym.terminal p t) (inl refl))
  renamed_flat u v f s k (Sym.macro p n args) h =
      ap (λ l. l ++ flat_map u (subsymbols_of (rename_all_occurrences f s (k + names_owner s.binding s.owner n) args)))
      (h k (Sym.macro p n args) (inl refl))
      ∙ ap (λ l. v (Sym.macro p n args) ++ l)
      (all_renamed_flat u v f s (k + names_owner s.binding s.owner n) args (λ j z i. h j z (inr i)))
  renamed_flat u v f s k (Sym.repeat p op x) h =
      ap (λ l. l ++ flat_map u (subsymbols (rename_occurrences f s k x))) (h k (Sym.repeat p op x) (inl refl))
      ∙ ap (λ l. v (Sym.repeat p op x) ++ l) (renamed_flat u v f s k x (λ j z i. h j z (inr i)))
  renamed_flat u v f s k (Sym.choose p x) h =
      ap (λ l. l ++ flat_map u (subsymbols (rename_occurrences f s k x))) (h k (Sym.choose p x) (inl refl))
      ∙ ap (λ l. v (Sym.choose p x) ++ l) (renamed_flat u v f s k x (λ j z i. h j z (inr i)))
  renamed_flat u v f s k (Sym.name p m n x) h =
      ap (λ l. l ++ flat_map u (subsymbols (rename_occurrences f s k x))) (h k (Sym.name p m n x) (inl refl))
      ∙ ap (λ l. v (Sym.name p m n x) ++ l) (renamed_flat u v f s k x (λ j z i. h j z (inr i)))
  renamed_flat u v f s k (Sym.lookahead p) h = ap (λ l. l ++ []) (h k (Sym.lookahead p) (inl refl))
  renamed_flat u v f s k (Sym.lookbehind p) h = ap (λ l. l ++ []) (h k (Sym.lookbehind p) (inl refl))
  renamed_flat u v f s k (Sym.error p) h = ap (λ l. l ++ []) (h k (Sym.error p) (inl refl))

  all_renamed_flat : {B : Type 0} (u v : WrittenSymbol → List B) (f : Text → ℕ → Text) (s : Scope) (k : ℕ)
      (xs : Syms TextSpan) →
      ((j : ℕ) (z : WrittenSymbol) → Among (subsymbols_of xs) z → u (rename_occurrences f s j z) ≡ v z) →
      flat_map u (subsymbols_of (rename_all_occurrences f s k xs)) ≡ flat_map v (subsymbols_of xs)
  all_renamed_flat u v f s k Syms.none h = refl
  all_renamed_flat u v f s k (Syms.more x xs) h =
      flat_join u (subsymbols (rename_occurrences f s k x))
      (subsymbols_of (rename_all_occurrences f s (k + occurrences s.binding s.owner x) xs))
      ∙ ap (λ l. l ++ flat_map u (subsymbols_of (rename_all_occurrences f s (k + occurrences s.binding s.owner x) xs)))
      (renamed_flat u v f s k x (λ j z i. h j z (among_left (subsymbols x) (subsymbols_of xs) z i)))
      ∙ ap (λ l. flat_map v (subsymbols x) ++ l)
      (all_renamed_flat u v f s (k + occurrences s.binding s.owner x) xs
      (λ j z i. h j z (among_right (subsymbols x) (subsymbols_of xs) z i)))
      ∙ sym (flat_join v (subsymbols x) (subsymbols_of xs))

listed_flat : {B : Type 0} (u v : WrittenSymbol → List B) (f : Text → ℕ → Text) (s : Scope) (k : ℕ) (xs : List WrittenSymbol) →
    ((j : ℕ) (z : WrittenSymbol) → Among (subsymbols_of (syms xs)) z → u (rename_occurrences f s j z) ≡ v z) →
    flat_map u (subsymbols_of (syms (rename_listed_occurrences f s k xs))) ≡ flat_map v (subsymbols_of (syms xs))
listed_flat u v f s k [] h = refl
listed_flat u v f s k (x ∷ xs) h =
    flat_join u (subsymbols (rename_occurrences f s k x))
    (subsymbols_of (syms (rename_listed_occurrences f s (k + occurrences s.binding s.owner x) xs)))
    ∙ ap (λ l. l ++ flat_map u (subsymbols_of (syms (rename_listed_occurrences f s (k + occurrences s.binding s.owner x) xs))))
    (renamed_flat u v f s k x (λ j z i. h j z (among_left (subsymbols x) (subsymbols_of (syms xs)) z i)))
    ∙ ap (λ l. flat_map v (subsymbols x) ++ l)
    (listed_flat u v f s (k + occurrences s.binding s.owner x) xs
    (λ j z i. h j z (among_right (subsymbols x) (subsymbols_of (syms xs)) z i)))
    ∙ sym (flat_join v (subsymbols x) (subsymbols_of (syms xs)))

-- levels

as_many_renamed : (f : Text → ℕ → Text) (s : Scope) (k : ℕ) (xs : Syms TextSpan) →
    length (list_of (rename_all_occurrences f s k xs)) ≡ length (list_of xs)
as_many_renamed f s k Syms.none = refl
as_many_renamed f s k (Syms.more x xs) = ap suc (as_many_renamed f s (k + occurrences s.binding s.owner x) xs)

-- rules of as many parameters
rule_arity_same : (g h : EnabledGrammar) (n m : Text) (r o : EnabledRule) → IsRule g n r → IsRule h m o →
    o.parameters ≡ r.parameters →
    (k : ℕ) (p : TextSpan) → arity_fault_of (rules_named h m) k p ≡ arity_fault_of (rules_named g n) k p
rule_arity_same g h n m r o i j e k p =
    ap (λ (rs : List EnabledRule). arity_fault_of rs k p) j
    ∙ ap (λ (ps : List Text). cond (length ps == k) [] (p ∷ [])) e
    ∙ ap (λ (rs : List EnabledRule). arity_fault_of rs k p) (sym i)

module _ (finds : Text → Text → Option Bool) (g : Grammar) (f : Text → ℕ → Text) (w : IsLevelable finds g f) where
  abbrev old : EnabledGrammar
  old = before finds g

  abbrev new : EnabledGrammar
  new = after finds g f

  renamed_arity : (s : Scope) (ps : List Text) → NamesAreThere f s new ps → (r : EnabledRule) (k : ℕ) (z : WrittenSymbol) →
      IsResolvedIn s.grammar r z → arity_fault new (rename_occurrences f s k z) ≡ arity_fault s.grammar z
  renamed_arity s ps names r k (Sym.macro p n args) i =
      let o = names.there k n i.0.macro i.0.is_rule in
      rule_arity_same s.grammar new n (occurrence_name f s k n) i.0.macro o.0 i.0.is_rule o.1 o.2
      (length (list_of (rename_all_occurrences f s (k + names_owner s.binding s.owner n) args))) p
      ∙ ap (λ (c : ℕ). arity_fault_of (rules_named s.grammar n) c p) (as_many_renamed f s (k + names_owner s.binding s.owner n) args)
  renamed_arity s ps names r k (Sym.ambiguous_id p n) i = refl
  renamed_arity s ps names r k (Sym.nonterminal p n) i = refl
  renamed_arity s ps names r k (Sym.terminal p t) i = refl
  renamed_arity s ps names r k (Sym.name p m n x) i = refl
  renamed_arity s ps names r k (Sym.expr p xs) i = refl
  renamed_arity s ps names r k (Sym.repeat p op x) i = refl
  renamed_arity s ps names r k (Sym.choose p x) i = refl
  renamed_arity s ps names r k (Sym.lookahead p) i = refl
  renamed_arity s ps names r k (Sym.lookbehind p) i = refl
  renamed_arity s ps names r k (Sym.error p) i = refl

  resolved_at : (r : Rule) → Among (rules_of g.items) r → (a : Alternative) → Among r.alternatives a → (z : WrittenSymbol) →
      Among (subsymbols_of (syms a.expr)) z → IsResolvedIn old (rule_between r) z
  resolved_at r i a j z k =
      w.resolved.symbols (rule_between r) (choice_between a) z (record {
        rule = map_among rule_between (rules_of g.items) r i;
        choice = map_among choice_of (with_origins r.alternatives) (a.origin, a)
            (map_among (λ (b : Alternative). (b.origin, b)) r.alternatives a j);
        symbol = k;
      })

  -- an alternative of a level
  level_arity : (r : Rule) → Among (rules_of g.items) r → (a : Alternative) → Among r.alternatives a → (rank : Option Rank) →
      Among (ranked_alternatives r) (a, rank) → arity_faults_at new (leveled_alternative f r (a, rank)) ≡ arity_faults_at old a
  level_arity r i a j rank h =
      let s = scope_of old (rule_between r) (parameters_alone r.parameters) (choice_between a) rank in
      let names = names_there finds g f w r i (parameters_alone r.parameters)
      (allowed_level (rule_between r) rank (occurrences_in (parameters_alone r.parameters) r.name (syms a.expr)))
      (λ k. allowed_present (rule_between r) (has_loosest g w.right r i) rank
      (rank_of (rule_between r) (choice_between a) rank (ranked_choice r a rank h))
      (occurrences_in (parameters_alone r.parameters) r.name (syms a.expr)) k) in
      ap (λ (xs : List WrittenSymbol). flat_map (arity_fault new) (subsymbols_of (syms xs)))
      (rename_listed_alike f s (occurrence_scope r a rank) (alike_scope finds g r a rank) 0 a.expr)
      ∙ listed_flat (arity_fault new) (arity_fault old) f s 0 a.expr
      (λ k z m. renamed_arity s r.parameters names (rule_between r) k z (resolved_at r i a j z m))

  -- an alternative of a rule without levels
  stays_arity : (r : EnabledRule) (z : WrittenSymbol) → IsResolvedIn old r z → arity_fault new z ≡ arity_fault old z
  stays_arity r (Sym.macro p n args) i =
      let o = rule_stays finds g f w n i.0.macro i.0.is_rule in
      rule_arity_same old new n n i.0.macro o.0 i.0.is_rule o.1 o.2 (length (list_of args)) p
  stays_arity r (Sym.ambiguous_id p n) i = refl
  stays_arity r (Sym.nonterminal p n) i = refl
  stays_arity r (Sym.terminal p t) i = refl
  stays_arity r (Sym.name p m n x) i = refl
  stays_arity r (Sym.expr p xs) i = refl
  stays_arity r (Sym.repeat p op x) i = refl
  stays_arity r (Sym.choose p x) i = refl
  stays_arity r (Sym.lookahead p) i = refl
  stays_arity r (Sym.lookbehind p) i = refl
  stays_arity r (Sym.error p) i = refl

  flat_arity : (r : Rule) → Among (rules_of g.items) r → (a : Alternative) → Among r.alternatives a →
      arity_faults_at new a ≡ arity_faults_at old a
  flat_arity r i a j =
      flat_same (arity_fault new) (arity_fault old) (subsymbols_of (syms a.expr))
      (λ z k. stays_arity (rule_between r) z (resolved_at r i a j z k))

  -- the pass to the next tighter level

  no_names : (span : TextSpan) (ns : List Text) → flat_map (arity_fault new) (subsymbols_of (syms (names_alone span ns))) ≡ []
  no_names span [] = refl
  no_names span (n ∷ ns) = no_names span ns

  as_many_names : (span : TextSpan) (ns : List Text) → length (list_of (syms (names_alone span ns))) ≡ length ns
  as_many_names span [] = refl
  as_many_names span (n ∷ ns) = ap suc (as_many_names span ns)

  pass_arity : (r : Rule) → Among (rules_of g.items) r → (j to : ℕ) → tighter (rule_between r) j ≡ Some to →
      arity_faults_at new (pass_down_to f r to) ≡ []
  pass_arity r i j to t = go r.parameters refl
    where
      target : IsRule new (f r.name to) (rule_between (rule_of_key f r (Some to)))
      target = key_rule finds g f w.names r (Some to) i (tighter_present (rule_between r) j to t)

      go : (ps : List Text) → r.parameters ≡ ps →
          flat_map (arity_fault new) (subsymbols_of (syms (own_call r.span (f r.name to) ps ∷ []))) ≡ []
      go [] e = refl
      go (p ∷ ps) e =
          let many : length r.parameters ≡ length (list_of (syms (names_alone r.span (p ∷ ps)))) =
          ap length e ∙ sym (as_many_names r.span (p ∷ ps)) in
          let none : arity_fault new (Sym.macro r.span (f r.name to) (syms (names_alone r.span (p ∷ ps)))) ≡ [] =
          ap (λ (rs : List EnabledRule). arity_fault_of rs (length (list_of (syms (names_alone r.span (p ∷ ps))))) r.span) target
          ∙ ap (λ (b : Bool). cond b [] (r.span ∷ []))
          (eq-eqb (length r.parameters) (length (list_of (syms (names_alone r.span (p ∷ ps))))) many) in
          flat_join (arity_fault new) (subsymbols (own_call r.span (f r.name to) (p ∷ ps))) []
          ∙ ap (λ l. (l ++ flat_map (arity_fault new) (subsymbols_of (syms (names_alone r.span (p ∷ ps))))) ++ []) none
          ∙ ap (λ l. l ++ []) (no_names r.span (p ∷ ps))

  -- back

  of_old : (r : Rule) → Among (rules_of g.items) r → (a : Alternative) → Among r.alternatives a → (p : TextSpan) →
      Among (arity_faults_at old a) p → Among (arity_faults old (rules_of g.items)) p
  of_old r i a j p k =
      flat_map_among (arity_faults_in old) (rules_of g.items) r p i (flat_map_among (arity_faults_at old) r.alternatives a p j k)

  of_level : (r : Rule) (j : ℕ) (a : Alternative) (p : TextSpan) → Among (rules_of g.items) r →
      Among (level_alternatives f r j) a → Among (arity_faults_at new a) p → Among (arity_faults old (rules_of g.items)) p
  of_level r j a p i m k =
      let v = among_map (leveled_alternative f r) (filter (λ q. has_rank_level j q.1) (ranked_alternatives r)) a m in
      let t = among_filter (λ q. has_rank_level j q.1) (ranked_alternatives r) v.0 v.1 in
      let listed : Among r.alternatives v.0.0 =
      zip_front r.alternatives (map (λ q. q.1) (ranked_choices (rule_between r))) v.0 t.0 in
      of_old r i v.0.0 listed p
      (subst (λ (l : List TextSpan). Among l p) (level_arity r i v.0.0 listed v.0.1 t.0)
      (subst (λ (b : Alternative). Among (arity_faults_at new b) p) (sym v.2) k))

  of_pass : (r : Rule) (j : ℕ) (o : Option ℕ) → tighter (rule_between r) j ≡ o → (a : Alternative) (p : TextSpan) →
      Among (rules_of g.items) r → Among (pass_downs f r o) a → Among (arity_faults_at new a) p →
      Among (arity_faults old (rules_of g.items)) p
  of_pass r j None e a p i m k = absurd m
  of_pass r j (Some to) e a p i (inl m) k =
      absurd (subst (λ (l : List TextSpan). Among l p) (pass_arity r i j to e)
      (subst (λ (b : Alternative). Among (arity_faults_at new b) p) (sym m) k))
  of_pass r j (Some to) e a p i (inr m) k = absurd m

  of_key : (r : Rule) (level : Option ℕ) (a : Alternative) (p : TextSpan) → Among (rules_of g.items) r →
      Among (rule_of_key f r level).alternatives a → Among (arity_faults_at new a) p → Among (arity_faults old (rules_of g.items)) p
  of_key r None a p i m k = of_old r i a m p (subst (λ (l : List TextSpan). Among l p) (flat_arity r i a m) k)
  of_key r (Some j) a p i m k =
      go (among_parts (level_alternatives f r j) (pass_downs f r (tighter (rule_between r) j)) a m)
    where
      go : Among (level_alternatives f r j) a ⊎ Among (pass_downs f r (tighter (rule_between r) j)) a →
          Among (arity_faults old (rules_of g.items)) p
      go (inl n) = of_level r j a p i n k
      go (inr n) = of_pass r j (tighter (rule_between r) j) refl a p i n k

  pub arity_back : (p : TextSpan) → Among (arity_faults new (rules_of (leveled_grammar f g).items)) p →
      Among (arity_faults old (rules_of g.items)) p
  arity_back p k =
      let q = among_flat_map (arity_faults_in new) (rules_of (leveled_grammar f g).items) p k in
      let a = among_flat_map (arity_faults_at new) q.0.alternatives p q.2 in
      let u = leveled_source f g q.0 q.1 in
      of_key u.rule u.level a.0 p u.among (subst (λ (e : Rule). Among e.alternatives a.0) (sym u.is_it) a.1) a.2

  -- and forth

  of_new : (q : Rule) → Among (rules_of (leveled_grammar f g).items) q → (a : Alternative) → Among q.alternatives a →
      (p : TextSpan) →
      Among (arity_faults_at new a) p → Among (arity_faults new (rules_of (leveled_grammar f g).items)) p
  of_new q i a j p k =
      flat_map_among (arity_faults_in new) (rules_of (leveled_grammar f g).items) q p i
      (flat_map_among (arity_faults_at new) q.alternatives a p j k)

  key_listed : (r : Rule) (level : Option ℕ) → Among (rules_of g.items) r → HasLevel (rule_between r) level →
      Among (rules_of (leveled_grammar f g).items) (rule_of_key f r level)
  key_listed r level i h =
      subst (λ (rs : List Rule). Among rs (rule_of_key f r level)) (sym (rules_of-leveled f g.items))
      (key_there f (rules_of g.items) r level i h)

  pub arity_forth : (p : TextSpan) → Among (arity_faults old (rules_of g.items)) p →
      Among (arity_faults new (rules_of (leveled_grammar f g).items)) p
  arity_forth p k =
      let r = among_flat_map (arity_faults_in old) (rules_of g.items) p k in
      let a = among_flat_map (arity_faults_at old) r.0.alternatives p r.2 in
      go r.0 r.1 a.0 a.1 a.2 (has_levels (rule_between r.0)) refl
    where
      go : (r : Rule) → Among (rules_of g.items) r → (a : Alternative) → Among r.alternatives a →
          Among (arity_faults_at old a) p →
          (b : Bool) → has_levels (rule_between r) ≡ b → Among (arity_faults new (rules_of (leveled_grammar f g).items)) p
      go r i a j m false e =
          of_new r (key_listed r None i e) a j p (subst (λ (l : List TextSpan). Among l p) (sym (flat_arity r i a j)) m)
      go r i a j m true e =
          let k = right_rank g w.right r i e a j in
          let level = rank_of (rule_between r) (choice_between a) (Some k.0) (ranked_choice r a (Some k.0) k.1) in
          of_new (rule_at_level f r k.0.level) (key_listed r (Some k.0.level) i level) (leveled_alternative f r (a, Some k.0))
          (among_left (level_alternatives f r k.0.level) (pass_downs f r (tighter (rule_between r) k.0.level))
          (leveled_alternative f r (a, Some k.0))
          (map_among (leveled_alternative f r) (filter (λ q. has_rank_level k.0.level q.1) (ranked_alternatives r)) (a, Some k.0)
          (keeps (λ q. has_rank_level k.0.level q.1) (ranked_alternatives r) (a, Some k.0) k.1 (is_rank k.0.level k.0 refl)))) p
          (subst (λ (l : List TextSpan). Among l p) (sym (level_arity r i a j (Some k.0) k.1)) m)
