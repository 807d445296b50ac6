-- Names stay resolved in the leveled grammar; for the law of what levels leave.
use Rattle.std.proofs.Common.{◌≡◌, ℕ, List, [], ◌∷◌, refl, ap, sym, ◌∙◌, subst, Bool, true, inl, inr}
use Rattle.std.proofs.Common.{◌⊎◌}
use Rattle.std.specs.Prelude.{Option, Some, None}
use Rattle.lalrpop_grammar_symbols.specs.Symbols.{Text, TextSpan, Terminal, Sym, syms, WrittenSymbol}
use Rattle.lalrpop_grammar_symbols.specs.Subsymbols.{subsymbols_of}
use Rattle.lalrpop_grammar.specs.WrittenGrammar.{Alternative, Condition, Rule, Grammar, rules_of}
use Rattle.lalrpop_grammar_language.specs.Among.{Among}
use Rattle.lalrpop_grammar_language.specs.Enabled.{EnabledGrammar, EnabledRule, Choice, IsRule, has_text}
use Rattle.lalrpop_grammar_language.specs.Levels.{Rank, levels, tighter, allowed_level}
use Rattle.lalrpop_grammar_language.specs.Closing.{occurrences_in, scope_of}
use Rattle.lalrpop_grammar_language.specs.Expansion.{HasLevel}
use Rattle.lalrpop_norm_theory.specs.Between.{rule_between}
use Rattle.lalrpop_norm_theory.specs.Premises.{IsResolved, IsResolvedIn, AreDifferent}
use Rattle.lalrpop_grammar_language.proofs.AmongLemmas.{map_among}
use Rattle.lalrpop_grammar_language.proofs.OrderLemmas.{among_parts}
use Rattle.lalrpop_norm_theory.specs.LeveledGrammar.{ranked_alternatives, occurrence_scope, parameters_alone, leveled_alternative}
use Rattle.lalrpop_norm_theory.specs.LeveledGrammar.{names_alone, own_call, pass_down_to, rule_at_level}
use Rattle.lalrpop_norm_theory.specs.LevelLaws.{IsLevelable}
use Rattle.lalrpop_norm_theory.proofs.LevelOrderLemmas.{one_named}
use Rattle.lalrpop_grammar_language.proofs.AmongLemmas.{text_found}
use Rattle.lalrpop_norm_theory.proofs.LeveledRuleLemmas.{rule_of_key, rule_key, names_differ, key_rule}
use Rattle.lalrpop_norm_theory.proofs.LevelAttrLemmas.{key_parameters, key_declared}
use Rattle.lalrpop_norm_theory.proofs.RightLevelLemmas.{has_loosest, rank_of, allowed_present, tighter_present}
use Rattle.lalrpop_norm_theory.proofs.RenameLemmas.{AreResolvedInside, RenameAlike, rename_listed_alike, listed_resolved}
use Rattle.lalrpop_norm_theory.proofs.LevelChoiceLemmas.{choice_between, ranked_choice, choice_listed, IsLevelChoice, level_choice}
use Rattle.lalrpop_norm_theory.proofs.LevelNameLemmas.{before, after, rule_stays, names_there, tighter_unhidden}

-- what stays resolved as it is

same_terminal : (g h : EnabledGrammar) (r q : EnabledRule) → h.bares ≡ g.bares → (p : TextSpan) (u : Terminal) →
    IsResolvedIn g r (Sym.terminal p u) → IsResolvedIn h q (Sym.terminal p u)
same_terminal g h r q e p (Terminal.quoted t) i = tt
same_terminal g h r q e p (Terminal.regex t) i = tt
same_terminal g h r q e p (Terminal.bare n) i = ap (has_text n) e ∙ i
same_terminal g h r q e p Terminal.error i = tt

-- a symbol that isn't renamed, in a rule with the same parameters
stays_resolved : (finds : Text → Text → Option Bool) (g : Grammar) (f : Text → ℕ → Text) → IsLevelable finds g f →
    (after finds g f).bares ≡ (before finds g).bares → (r q : EnabledRule) → q.parameters ≡ r.parameters → (x : WrittenSymbol) →
    IsResolvedIn (before finds g) r x → IsResolvedIn (after finds g f) q x
stays_resolved finds g f w b r q e (Sym.ambiguous_id p n) i = ap (has_text n) e ∙ i
stays_resolved finds g f w b r q e (Sym.nonterminal p n) i =
    let o = rule_stays finds g f w n i.0 i.1 in (o.0, o.1, o.2 ∙ i.2)
stays_resolved finds g f w b r q e (Sym.terminal p u) i = same_terminal (before finds g) (after finds g f) r q b p u i
stays_resolved finds g f w b r q e (Sym.macro p n args) i =
    let o = rule_stays finds g f w n i.0.macro i.0.is_rule in (
      record {
        macro = o.0;
        is_rule = o.1;
        has_parameters = λ none. i.0.has_parameters (sym o.2 ∙ none);
        not_hidden = ap (has_text n) e ∙ i.0.not_hidden;
      },
      i.1,
    )
stays_resolved finds g f w b r q e (Sym.name p m n x) i = tt
stays_resolved finds g f w b r q e (Sym.expr p xs) i = tt
stays_resolved finds g f w b r q e (Sym.repeat p op x) i = tt
stays_resolved finds g f w b r q e (Sym.choose p x) i = tt
stays_resolved finds g f w b r q e (Sym.lookahead p) i = tt
stays_resolved finds g f w b r q e (Sym.lookbehind p) i = tt
stays_resolved finds g f w b r q e (Sym.error p) i = tt

-- the symbols of a level's alternative

-- the scope in which an alternative's symbols are renamed, with its own grammar
pub alike_scope : (finds : Text → Text → Option Bool) (g : Grammar) (r : Rule) (a : Alternative) (rank : Option Rank) →
    RenameAlike (scope_of (before finds g) (rule_between r) (parameters_alone r.parameters) (choice_between a) rank)
    (occurrence_scope r a rank)
alike_scope finds g r a rank = record { owners = refl; hide = λ n. refl; levels = λ k. refl }

resolved_alternative : (finds : Text → Text → Option Bool) (g : Grammar) (f : Text → ℕ → Text) → IsLevelable finds g f →
    (r : Rule) →
    Among (rules_of g.items) r → (q : EnabledRule) → q.parameters ≡ r.parameters → (a : Alternative) (rank : Option Rank) →
    Among (ranked_alternatives r) (a, rank) → AreResolvedInside (after finds g f) q (syms (leveled_alternative f r (a, rank)).expr)
resolved_alternative finds g f w r i q e a rank h =
    let s = scope_of (before finds g) (rule_between r) (parameters_alone r.parameters) (choice_between a) rank in
    let ranked = ranked_choice r a rank h in
    let inside : AreResolvedInside (before finds g) (rule_between r) (syms a.expr) =
    λ y j. w.resolved.symbols (rule_between r) (choice_between a) y (record {
      rule = map_among rule_between (rules_of g.items) r i;
      choice = choice_listed (rule_between r) (choice_between a, rank) ranked;
      symbol = j;
    }) in
    let names = names_there finds g f w r i (parameters_alone r.parameters)
    (allowed_level (rule_between r) rank (occurrences_in (parameters_alone r.parameters) r.name (syms a.expr)))
    (λ k. allowed_present (rule_between r) (has_loosest g w.right r i) rank (rank_of (rule_between r) (choice_between a) rank ranked)
    (occurrences_in (parameters_alone r.parameters) r.name (syms a.expr)) k) in
    subst (λ xs. AreResolvedInside (after finds g f) q (syms xs)) (sym (rename_listed_alike f s (occurrence_scope r a rank)
    (alike_scope finds g r a rank) 0 a.expr))
    (listed_resolved f s (after finds g f) (rule_between r) q e names 0 a.expr inside)

-- the pass to the next tighter level

parameters_resolved : (h : EnabledGrammar) (q : EnabledRule) (span : TextSpan) (ns all : List Text) → q.parameters ≡ all →
    ((n : Text) → Among ns n → Among all n) → AreResolvedInside h q (syms (names_alone span ns))
parameters_resolved h q span [] all e sub y j = absurd j
parameters_resolved h q span (n ∷ ns) all e sub y (inl f) =
    subst (IsResolvedIn h q) f (ap (has_text n) e ∙ text_found n all (sub n (inl refl)))
parameters_resolved h q span (n ∷ ns) all e sub y (inr j) = parameters_resolved h q span ns all e (λ m k. sub m (inr k)) y j

resolved_pass : (finds : Text → Text → Option Bool) (g : Grammar) (f : Text → ℕ → Text) → IsLevelable finds g f →
    (r : Rule) →
    Among (rules_of g.items) r → (q : EnabledRule) → q.parameters ≡ r.parameters → (j to : ℕ) →
    Among (levels (rule_between r)) j →
    tighter (rule_between r) j ≡ Some to → AreResolvedInside (after finds g f) q (syms (pass_down_to f r to).expr)
resolved_pass finds g f w r i q e j to h t y m = go r.parameters refl m
  where
    target : IsRule (after finds g f) (f r.name to) (rule_between (rule_of_key f r (Some to)))
    target = key_rule finds g f w.names r (Some to) i (tighter_present (rule_between r) j to t)

    go : (ps : List Text) → r.parameters ≡ ps → Among (subsymbols_of (syms (own_call r.span (f r.name to) ps ∷ []))) y →
        IsResolvedIn (after finds g f) q y
    go [] is (inl k) = subst (IsResolvedIn (after finds g f) q) k (rule_between (rule_of_key f r (Some to)), target, is)
    go [] is (inr k) = absurd k
    go (p ∷ ps) is (inl k) =
        subst (IsResolvedIn (after finds g f) q) k (
          record {
            macro = rule_between (rule_of_key f r (Some to));
            is_rule = target;
            has_parameters = λ none. some_left (sym is ∙ none);
            not_hidden = ap (has_text (f r.name to)) e ∙ tighter_unhidden finds g f w r i j to h t;
          },
          refl,
        )
      where
        some_left : p ∷ ps ≡ [] → ⊥
        some_left f = cc
    go (p ∷ ps) is (inr k) =
        inside (among_parts (subsymbols_of (syms (names_alone r.span (p ∷ ps)))) [] y k)
      where
        inside : Among (subsymbols_of (syms (names_alone r.span (p ∷ ps)))) y ⊎ Among [] y → IsResolvedIn (after finds g f) q y
        inside (inl l) = parameters_resolved (after finds g f) q r.span (p ∷ ps) (p ∷ ps) (e ∙ is) (λ n a. a) y l
        inside (inr l) = absurd l

-- the symbols, conditions and types of a rule of the leveled grammar

symbols_of_key : (finds : Text → Text → Option Bool) (g : Grammar) (f : Text → ℕ → Text) → IsLevelable finds g f →
    (after finds g f).bares ≡ (before finds g).bares → (r : Rule) (level : Option ℕ) → Among (rules_of g.items) r →
    HasLevel (rule_between r) level → (c : Choice) → Among (rule_between (rule_of_key f r level)).choices c → (x : WrittenSymbol) →
    Among (subsymbols_of (syms c.expr)) x → IsResolvedIn (after finds g f) (rule_between (rule_of_key f r level)) x
symbols_of_key finds g f w b r None i h c m x s =
    stays_resolved finds g f w b (rule_between r) (rule_between r) refl x
    (w.resolved.symbols (rule_between r) c x (record { rule = map_among rule_between (rules_of g.items) r i; choice = m; symbol = s }))
symbols_of_key finds g f w b r (Some j) i h c m x s = go (level_choice f r j c m)
  where
    go : IsLevelChoice f r j c → IsResolvedIn (after finds g f) (rule_between (rule_at_level f r j)) x
    go (IsLevelChoice.alternative a k there is same) =
        resolved_alternative finds g f w r i (rule_between (rule_at_level f r j)) refl a (Some k) there x
        (subst (λ d. Among (subsymbols_of (syms d.expr)) x) (sym same) s)
    go (IsLevelChoice.pass_down to t same) =
        resolved_pass finds g f w r i (rule_between (rule_at_level f r j)) refl j to h t x
        (subst (λ d. Among (subsymbols_of (syms d.expr)) x) (sym same) s)

conditions_of_key : (finds : Text → Text → Option Bool) (g : Grammar) (f : Text → ℕ → Text) → IsLevelable finds g f →
    (r : Rule) (level : Option ℕ) → Among (rules_of g.items) r → (c : Choice) (t : Condition) →
    Among (rule_between (rule_of_key f r level)).choices c → c.condition ≡ Some t → has_text t.parameter r.parameters ≡ true
conditions_of_key finds g f w r None i c t m e =
    w.resolved.conditions (rule_between r) c t (map_among rule_between (rules_of g.items) r i) m e
conditions_of_key finds g f w r (Some j) i c t m e = go (level_choice f r j c m)
  where
    go : IsLevelChoice f r j c → has_text t.parameter r.parameters ≡ true
    go (IsLevelChoice.alternative a k there is same) =
        w.resolved.conditions (rule_between r) (choice_between a) t (map_among rule_between (rules_of g.items) r i)
        (choice_listed (rule_between r) (choice_between a, Some k) (ranked_choice r a (Some k) there)) (ap (λ d. d.condition) same ∙ e)
    go (IsLevelChoice.pass_down to u same) = let none : None ≡ Some t = ap (λ d. d.condition) same ∙ e in cc

-- the leveled grammar is resolved
pub leveled_resolved : (finds : Text → Text → Option Bool) (g : Grammar) (f : Text → ℕ → Text) → IsLevelable finds g f →
    (after finds g f).bares ≡ (before finds g).bares → IsResolved (after finds g f)
leveled_resolved finds g f w b = record {
  rules = λ q i. one_named (after finds g f).rules q (names_differ finds g f w.names) i;
  parameters = λ q i. let u = rule_key finds g f q i in
      subst (λ e. AreDifferent e.parameters) (ap rule_between u.2.is_it ∙ u.1)
      (subst AreDifferent (sym (key_parameters f u.2.rule u.2.level))
      (w.resolved.parameters (rule_between u.2.rule) (map_among rule_between (rules_of g.items) u.2.rule u.2.among)));
  symbols = λ q c x s. let u = rule_key finds g f q s.rule in
      let same = ap rule_between u.2.is_it ∙ u.1 in
      subst (λ e. IsResolvedIn (after finds g f) e x) same
      (symbols_of_key finds g f w b u.2.rule u.2.level u.2.among u.2.has_level c
      (subst (λ e. Among e.choices c) (sym same) s.choice) x s.symbol);
  types = λ q x s. let u = rule_key finds g f q s.rule in
      let same = ap rule_between u.2.is_it ∙ u.1 in
      stays_resolved finds g f w b (rule_between u.2.rule) q (ap (λ e. e.parameters) (sym same) ∙ key_parameters f u.2.rule u.2.level) x
      (w.resolved.types (rule_between u.2.rule) x (record {
        rule = map_among rule_between (rules_of g.items) u.2.rule u.2.among;
        written = s.written;
        declared = sym (key_declared f u.2.rule u.2.level) ∙ ap (λ e. e.declared) same ∙ s.declared;
        symbol = s.symbol;
      }));
  conditions = λ q c t i j e. let u = rule_key finds g f q i in
      let same = ap rule_between u.2.is_it ∙ u.1 in
      subst (λ d. has_text t.parameter d ≡ true) (sym (key_parameters f u.2.rule u.2.level) ∙ ap (λ d. d.parameters) same)
      (conditions_of_key finds g f w u.2.rule u.2.level u.2.among c t (subst (λ d. Among d.choices c) (sym same) j) e);
}
