-- Which nonterminals an expanded grammar has; for equations of rules.
use Rattle.std.specs.Prelude.{Option, Some, None, map, if◌then◌else◌, zip}
use Rattle.std.proofs.Common.{◌≡◌, ℕ, ◌+◌, zero, suc, List, [], ◌∷◌, refl, ap, sym, ◌∙◌, subst, Bool}
use Rattle.std.proofs.Common.{inl, inr}
use Rattle.lalrpop_grammar_symbols.specs.Symbols.{Text, Terminal, WrittenSymbol, Sym, syms, Closed, Closeds}
use Rattle.lalrpop_grammar.specs.WrittenGrammar.{Origin}
use Rattle.lalrpop_grammar_language.specs.Among.{Among}
use Rattle.lalrpop_grammar_language.specs.Enabled.{Choice, EnabledGrammar, EnabledRule, IsRule}
use Rattle.lalrpop_grammar_language.specs.Levels.{Rank, allowed_level, loosest, ranked_choices}
use Rattle.lalrpop_grammar_language.specs.Closing.{close, close_list, occurrences, occurrences_in}
use Rattle.lalrpop_grammar_language.specs.Admitting.{bind}
use Rattle.lalrpop_grammar_language.specs.Expansion.{ByAlternative, GrammarSymbol, HasLevel, IsReachedIn, Nonterminal, Produces, RightSide}
use Rattle.lalrpop_grammar_language.specs.Expansion.{grammar_symbol}
use Rattle.lalrpop_grammar_language.proofs.PlaceLemmas.{among_filter, among_map}
use Rattle.lalrpop_grammar_language.specs.Enabled.{has_name}
use Rattle.lalrpop_norm_theory.specs.Premises.{IsExpanded, IsExpandedSymbol}
use Rattle.lalrpop_norm_theory.proofs.LevelLemmas.{no_levels, no_loosest, no_rank, ranked_flat}
use Rattle.lalrpop_norm_tyinfer.specs.TypesByTable.{RuleTypes}
use Rattle.lalrpop_norm_tyinfer.proofs.ClosedTypeLemmas.{expanded_closed, flat_scope, sound_of}

-- a start, or a rule without arguments and levels
abbrev pub IsRuleKey : Nonterminal → Type 0
IsRuleKey (Nonterminal.start n) = Unit {0}
IsRuleKey (Nonterminal.closed (Closed.call n Closeds.none None)) = Unit {0}
IsRuleKey (Nonterminal.closed (Closed.call n Closeds.none (Some l))) = ⊥
IsRuleKey (Nonterminal.closed (Closed.call n (Closeds.more x xs) l)) = ⊥
IsRuleKey (Nonterminal.closed (Closed.terminal t)) = ⊥
IsRuleKey (Nonterminal.closed (Closed.repeat op x)) = ⊥
IsRuleKey (Nonterminal.closed (Closed.group xs)) = ⊥
IsRuleKey (Nonterminal.closed (Closed.choose x)) = ⊥
IsRuleKey (Nonterminal.closed (Closed.name m n x)) = ⊥
IsRuleKey (Nonterminal.closed Closed.lookahead) = ⊥
IsRuleKey (Nonterminal.closed Closed.lookbehind) = ⊥
IsRuleKey (Nonterminal.closed Closed.faulty) = ⊥

-- where the name stands for a rule, it is one of the rules
pub rule_among : (g : EnabledGrammar) (n : Text) (r : EnabledRule) → IsRule g n r → Among g.rules r
rule_among g n r e = let a = among_filter (has_name n) g.rules r (subst (λ l. Among l r) (sym e) (inl refl)) in a.0

module _ (g : EnabledGrammar) (w : IsExpanded g) where
  -- nothing is bound
  pub no_bound : (r : EnabledRule) → Among g.rules r → bind r Closeds.none ≡ []
  no_bound r a = ap (λ (ps : List Text). zip ps []) (w.no_macros r a)

  -- no occurrence in an alternative has a level
  pub no_allowed : (r : EnabledRule) → Among g.rules r → (p : Choice × Option Rank) → Among (ranked_choices r) p → (n i : ℕ)
      → allowed_level r p.1 n i ≡ None
  no_allowed r a p j n i = ap (λ k. allowed_level r k n i) (no_rank r p (w.no_levels r a) j) ∙ no_loosest r (w.no_levels r a)

  -- an alternative with a rank is one of the rule's
  pub ranked_among : (r : EnabledRule) → Among g.rules r → (p : Choice × Option Rank) → Among (ranked_choices r) p
      → Among r.choices p.0
  ranked_among r a p j =
      let m = among_map (λ c. (c, None)) r.choices p (subst (λ l. Among l p) (ranked_flat r (w.no_levels r a)) j) in
      subst (λ q. Among r.choices q) (ap (λ (q : Choice × Option Rank). q.0) m.2) m.1

  -- its symbols are expanded
  pub expanded_symbols : (r : EnabledRule) → Among g.rules r → (p : Choice × Option Rank) → Among (ranked_choices r) p
      → (x : WrittenSymbol) → Among p.0.expr x → IsExpandedSymbol g x
  expanded_symbols r a p j = (w.choices r p.0 a (ranked_among r a p j)).symbols

  no_level_of : (r : EnabledRule) → Among g.rules r → (level : Option ℕ) → HasLevel r level → level ≡ None
  no_level_of r a None h = refl
  no_level_of r a (Some l) h = absurd (subst (λ ls. Among ls l) (no_levels r (w.no_levels r a)) h)

  module _ (table : RuleTypes) (b : List (Text × Closed)) (no_binding : b ≡ []) (o : Text)
      (level_at : ℕ → Option ℕ) (no_level : (i : ℕ) → level_at i ≡ None) where
    close_key : (i : ℕ) (y : WrittenSymbol) (x : Nonterminal) → IsExpandedSymbol g y
        → grammar_symbol (close (flat_scope g b o level_at) i y) ≡ GrammarSymbol.nonterminal x → IsRuleKey x
    close_key i (Sym.terminal p (Terminal.quoted t)) x h e = absurd (let wrong : ⊥ = cc in wrong)
    close_key i (Sym.terminal p (Terminal.regex t)) x h e = absurd (let wrong : ⊥ = cc in wrong)
    close_key i (Sym.terminal p (Terminal.bare n)) x h e =
        let is : grammar_symbol (Closed.terminal (Terminal.bare n)) ≡ GrammarSymbol.nonterminal x =
        sym (ap (λ (c : Bool). grammar_symbol (if c then Closed.terminal (Terminal.bare n) else Closed.faulty)) h) ∙ e in
        absurd (let wrong : ⊥ = cc in wrong)
    close_key i (Sym.terminal p Terminal.error) x h e = absurd h
    close_key i (Sym.nonterminal p n) x h e =
        let is : GrammarSymbol.nonterminal (Nonterminal.closed (Closed.call n Closeds.none None)) ≡ GrammarSymbol.nonterminal x =
        sym (ap grammar_symbol (expanded_closed g w table b no_binding o level_at no_level i p n h.0 h.1)) ∙ e in
        let same : Nonterminal.closed (Closed.call n Closeds.none None) ≡ x = cc in
        subst IsRuleKey same tt
    close_key i (Sym.choose p y) x h e = close_key i y x h e
    close_key i (Sym.name p m n y) x h e = close_key i y x h e
    close_key i (Sym.ambiguous_id p n) x h e = absurd h
    close_key i (Sym.macro p n args) x h e = absurd h
    close_key i (Sym.expr p xs) x h e = absurd h
    close_key i (Sym.repeat p op y) x h e = absurd h
    close_key i (Sym.lookahead p) x h e = absurd h
    close_key i (Sym.lookbehind p) x h e = absurd h
    close_key i (Sym.error p) x h e = absurd h

    list_keys : (i : ℕ) (ys : List WrittenSymbol) (x : Nonterminal) → ((y : WrittenSymbol) → Among ys y → IsExpandedSymbol g y)
        → Among (map grammar_symbol (close_list (flat_scope g b o level_at) i ys)) (GrammarSymbol.nonterminal x)
        → IsRuleKey x
    list_keys i [] x h a = absurd a
    list_keys i (y ∷ ys) x h (inl e) =
        close_key i y x (h y (inl refl))
        (sym (ap (λ (c : Bool). grammar_symbol
        (if c then close (flat_scope g b o level_at) i y else Closed.faulty))
        (sound_of g w table b no_binding o level_at no_level i y (h y (inl refl)))) ∙ e)
    list_keys i (y ∷ ys) x h (inr a) = list_keys (i + occurrences b o y) ys x (λ z j. h z (inr j)) a

  only_key : (n : Text) (l : Option ℕ) (x : Nonterminal) (side : RightSide) → l ≡ None
      → side ≡ GrammarSymbol.nonterminal (Nonterminal.closed (Closed.call n Closeds.none l)) ∷ []
      → Among side (GrammarSymbol.nonterminal x) → IsRuleKey x
  only_key n l x side none e a = go (subst (λ s. Among s (GrammarSymbol.nonterminal x)) e a)
    where
      go : Among (GrammarSymbol.nonterminal (Nonterminal.closed (Closed.call n Closeds.none l)) ∷ []) (GrammarSymbol.nonterminal x)
          → IsRuleKey x
      go (inl f) =
          let same : Nonterminal.closed (Closed.call n Closeds.none None) ≡ x = cc in
          subst IsRuleKey same tt
      go (inr f) = absurd f

  by_alternative : (n : Text) (o : Origin) (side : RightSide) (x : Nonterminal) → ByAlternative g n Closeds.none None o side
      → Among side (GrammarSymbol.nonterminal x) → IsRuleKey x
  by_alternative n o side x h a =
      let r = h.rule in
      let p = h.choice in
      let i = rule_among g n r h.fits.rule in
      list_keys (λ m. None) (bind r Closeds.none) (no_bound r i) r.name
      (λ k. allowed_level r p.1 (occurrences_in (bind r Closeds.none) r.name (syms p.0.expr)) k)
      (λ k. no_allowed r i p h.fits.written (occurrences_in (bind r Closeds.none) r.name (syms p.0.expr)) k)
      0 p.0.expr x (expanded_symbols r i p h.fits.written)
      (subst (λ s. Among s (GrammarSymbol.nonterminal x)) h.side_is a)

  produced_key : (y : Nonterminal) (o : Origin) (side : RightSide) (x : Nonterminal) → IsRuleKey y → Produces g y o side
      → Among side (GrammarSymbol.nonterminal x) → IsRuleKey x
  produced_key (Nonterminal.start n) o side x k h a =
      only_key n (loosest h.0) x side (no_loosest h.0 (w.no_levels h.0 (rule_among g n h.0 h.1))) h.5 a
  produced_key (Nonterminal.closed (Closed.call n Closeds.none None)) o side x k (inl h) a = by_alternative n o side x h a
  produced_key (Nonterminal.closed (Closed.call n Closeds.none None)) o side x k (inr h) a =
      let from : None ≡ Some h.from = h.from_is in absurd (let wrong : ⊥ = cc in wrong)
  produced_key (Nonterminal.closed (Closed.call n Closeds.none (Some l))) o side x k h a = absurd k
  produced_key (Nonterminal.closed (Closed.call n (Closeds.more z zs) l)) o side x k h a = absurd k
  produced_key (Nonterminal.closed (Closed.terminal t)) o side x k h a = absurd k
  produced_key (Nonterminal.closed (Closed.repeat op z)) o side x k h a = absurd k
  produced_key (Nonterminal.closed (Closed.group zs)) o side x k h a = absurd k
  produced_key (Nonterminal.closed (Closed.choose z)) o side x k h a = absurd k
  produced_key (Nonterminal.closed (Closed.name m n z)) o side x k h a = absurd k
  produced_key (Nonterminal.closed Closed.lookahead) o side x k h a = absurd k
  produced_key (Nonterminal.closed Closed.lookbehind) o side x k h a = absurd k
  produced_key (Nonterminal.closed Closed.faulty) o side x k h a = absurd k

  -- an expanded grammar has rules alone
  pub reached_key : (n : ℕ) (x : Nonterminal) → IsReachedIn g n x → IsRuleKey x
  reached_key zero x (inl h) = subst IsRuleKey (sym h.2) tt
  reached_key zero x (inr h) =
      let level : h.1 ≡ None = no_level_of h.0 (rule_among g h.0.name h.0 h.2) h.1 h.4 in
      let is : x ≡ Nonterminal.closed (Closed.call h.0.name Closeds.none None) =
      h.5 ∙ ap (λ l. Nonterminal.closed (Closed.call h.0.name Closeds.none l)) level in
      subst IsRuleKey (sym is) tt
  reached_key (suc n) x h = produced_key h.0 h.1 h.2 x (reached_key n h.0 h.3) h.4 h.5
