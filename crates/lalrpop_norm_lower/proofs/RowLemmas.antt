-- What an expanded grammar's starts and rules produce: for the productions of the lowered grammar.
use Rattle.std.specs.Prelude.{Option, Some, None, map, if◌then◌else◌}
use Rattle.std.proofs.Common.{◌≡◌, ℕ, ◌+◌, List, [], ◌∷◌, ◌++◌, refl, ap, ap₂, sym, ◌∙◌, subst, Bool}
use Rattle.std.proofs.Common.{true, length, inl, inr}
use Rattle.lalrpop_grammar_symbols.specs.Symbols.{Closed, Closeds, Sym, Terminal, Text, WrittenSymbol, syms}
use Rattle.lalrpop_grammar.specs.WrittenGrammar.{Condition, Origin}
use Rattle.lalrpop_grammar_language.specs.Among.{Among}
use Rattle.lalrpop_grammar_language.specs.Enabled.{Choice, EnabledGrammar, EnabledRule, IsRule, has_name}
use Rattle.lalrpop_grammar_language.specs.Levels.{Rank, allowed_level, loosest, ranked_choices}
use Rattle.lalrpop_grammar_language.specs.Closing.{close, close_list, occurrences, occurrences_in, right_side}
use Rattle.lalrpop_grammar_language.specs.Conditions.{Holds}
use Rattle.lalrpop_grammar_language.specs.Admitting.{bind}
use Rattle.lalrpop_grammar_language.specs.Expansion.{GrammarSymbol, InExpansion, Nonterminal, Produces, RightSide, grammar_symbol}
use Rattle.lalrpop_grammar_language.specs.Expansion.{origin_with}
use Rattle.lalrpop_grammar_language.proofs.PlaceLemmas.{among_filter, same_text-eq}
use Rattle.lalrpop_norm_theory.specs.Premises.{IsExpanded, IsExpandedSymbol}
use Rattle.lalrpop_grammar_language.proofs.AmongLemmas.{map_among}
use Rattle.lalrpop_norm_theory.proofs.LevelLemmas.{no_loosest, ranked_flat}
use Rattle.lalrpop_norm_tyinfer.proofs.ClosedTypeLemmas.{expanded_closed, flat_scope, sound_of}
use Rattle.lalrpop_norm_tyinfer.proofs.ExpandedLemmas.{expanded_symbols, no_allowed, no_bound, ranked_among, rule_among}
use Rattle.lalrpop_norm_lower.specs.LoweredSymbols.{lowered_side, lowered_symbol}

-- the nonterminal of a rule
abbrev pub rule_nonterminal : Text → Nonterminal
rule_nonterminal n = Nonterminal.closed (Closed.call n Closeds.none None)

-- a symbol over names, as one over nonterminals
abbrev pub symbol_by_rules : GrammarSymbol Text → GrammarSymbol Nonterminal
symbol_by_rules (GrammarSymbol.nonterminal n) = GrammarSymbol.nonterminal (rule_nonterminal n)
symbol_by_rules (GrammarSymbol.terminal t) = GrammarSymbol.terminal t

-- the right side of symbols of an expanded grammar
abbrev pub side_by_rules : List WrittenSymbol → RightSide
side_by_rules xs = map symbol_by_rules (lowered_side xs)

-- an origin without arguments stays what it is
pub origin_alone : (o : Origin) → origin_with [] o ≡ o
origin_alone (Origin.alternative n [] place) = refl
origin_alone (Origin.alternative n (a ∷ more) place) = refl
origin_alone Origin.start = refl
origin_alone Origin.pass_down = refl
origin_alone Origin.plus_one = refl
origin_alone Origin.plus_more = refl
origin_alone Origin.star_none = refl
origin_alone Origin.star_some = refl
origin_alone Origin.opt_none = refl
origin_alone Origin.opt_some = refl
origin_alone Origin.group = refl
origin_alone Origin.look = refl

module _ (g : EnabledGrammar) (w : IsExpanded g) where
  holds_always : (r : EnabledRule) (c : Option Condition) → c ≡ None → Holds g (bind r Closeds.none) c
  holds_always r c e = subst (Holds g (bind r Closeds.none)) (sym e) tt

  module _ (b : List (Text × Closed)) (no_binding : b ≡ []) (o : Text) (level_at : ℕ → Option ℕ)
      (no_level : (i : ℕ) → level_at i ≡ None) where
    closed_symbol : (i : ℕ) (x : WrittenSymbol) → IsExpandedSymbol g x
        → grammar_symbol (close (flat_scope g b o level_at) i x) ∷ [] ≡ map symbol_by_rules (lowered_symbol x)
    closed_symbol i (Sym.terminal p (Terminal.quoted t)) h = refl
    closed_symbol i (Sym.terminal p (Terminal.regex t)) h = refl
    closed_symbol i (Sym.terminal p (Terminal.bare n)) h =
        ap (λ (c : Bool). grammar_symbol (if c then Closed.terminal (Terminal.bare n) else Closed.faulty) ∷ []) h
    closed_symbol i (Sym.terminal p Terminal.error) h = absurd h
    closed_symbol i (Sym.nonterminal p n) h =
        ap (λ c. grammar_symbol c ∷ []) (expanded_closed g w (λ m. None) b no_binding o level_at no_level i p n h.0 h.1)
    closed_symbol i (Sym.choose p x) h = closed_symbol i x h
    closed_symbol i (Sym.name p m n x) h = closed_symbol i x h
    closed_symbol i (Sym.ambiguous_id p n) h = absurd h
    closed_symbol i (Sym.macro p n args) h = absurd h
    closed_symbol i (Sym.expr p xs) h = absurd h
    closed_symbol i (Sym.repeat p op x) h = absurd h
    closed_symbol i (Sym.lookahead p) h = absurd h
    closed_symbol i (Sym.lookbehind p) h = absurd h
    closed_symbol i (Sym.error p) h = absurd h

    joined_maps : (xs ys : List (GrammarSymbol Text))
        → map symbol_by_rules xs ++ map symbol_by_rules ys ≡ map symbol_by_rules (xs ++ ys)
    joined_maps [] ys = refl
    joined_maps (x ∷ xs) ys = ap (λ l. symbol_by_rules x ∷ l) (joined_maps xs ys)

    closed_side : (i : ℕ) (xs : List WrittenSymbol) → ((x : WrittenSymbol) → Among xs x → IsExpandedSymbol g x)
        → map grammar_symbol (close_list (flat_scope g b o level_at) i xs) ≡ side_by_rules xs
    closed_side i [] h = refl
    closed_side i (x ∷ xs) h =
        let y = close (flat_scope g b o level_at) i x in
        let rest = map grammar_symbol (close_list (flat_scope g b o level_at) (i + occurrences b o x) xs) in
        ap (λ (c : Bool). grammar_symbol (if c then y else Closed.faulty) ∷ rest)
        (sound_of g w (λ m. None) b no_binding o level_at no_level i x (h x (inl refl)))
        ∙ ap₂ ◌++◌ (closed_symbol i x (h x (inl refl))) (closed_side (i + occurrences b o x) xs (λ z j. h z (inr j)))
        ∙ joined_maps (lowered_symbol x) (lowered_side xs)

  -- the right side of an alternative
  alternative_side : (r : EnabledRule) → Among g.rules r → (p : Choice × Option Rank) → Among (ranked_choices r) p
      → map grammar_symbol (right_side g r (bind r Closeds.none) p) ≡ side_by_rules p.0.expr
  alternative_side r a p j =
      closed_side (bind r Closeds.none) (no_bound g w r a) r.name
      (λ k. allowed_level r p.1 (occurrences_in (bind r Closeds.none) r.name (syms p.0.expr)) k)
      (λ k. no_allowed g w r a p j (occurrences_in (bind r Closeds.none) r.name (syms p.0.expr)) k)
      0 p.0.expr (expanded_symbols g w r a p j)

  -- each alternative of a rule is one of its productions
  pub rule_produces : (r : EnabledRule) → Among g.rules r → (c : Choice) → Among r.choices c
      → Produces g (rule_nonterminal r.name) c.origin (side_by_rules c.expr)
  rule_produces r a c i =
      let p : Choice × Option Rank = (c, None) in
      let written : Among (ranked_choices r) p =
      subst (λ l. Among l p) (sym (ranked_flat r (w.no_levels r a))) (map_among (λ (y : Choice). (y, None)) r.choices c i) in
      inl (record {
        rule = r;
        choice = p;
        fits = record {
          rule = w.rules r a;
          arguments = sym (ap length (w.no_macros r a));
          written = written;
          leveled = sym (w.no_levels r a);
          holds = holds_always r c.condition (w.choices r c a i).unconditional;
        };
        level_is = refl;
        origin_is = sym (origin_alone c.origin);
        side_is = sym (alternative_side r a p written);
      })

  -- what a rule produces: by one of its alternatives
  pub record IsByChoice (n : Text) (o : Origin) (side : RightSide) : Type 0 where
    pub rule : EnabledRule
    pub among : Among g.rules rule
    pub name_is : rule.name ≡ n
    pub choice : Choice
    pub written : Among rule.choices choice
    pub origin_is : o ≡ choice.origin
    pub side_is : side ≡ side_by_rules choice.expr

  -- where the name stands for the rule, it is the rule's
  pub name_of_rule : (n : Text) (r : EnabledRule) → IsRule g n r → r.name ≡ n
  name_of_rule n r e =
      let a = among_filter (has_name n) g.rules r (subst (λ l. Among l r) (sym e) (inl refl)) in same_text-eq r.name n a.1

  pub produced_by_rule : (n : Text) (o : Origin) (side : RightSide) → Produces g (rule_nonterminal n) o side → IsByChoice n o side
  produced_by_rule n o side (inl h) =
      let a = rule_among g n h.rule h.fits.rule in record {
        rule = h.rule;
        among = a;
        name_is = name_of_rule n h.rule h.fits.rule;
        choice = h.choice.0;
        written = ranked_among g w h.rule a h.choice h.fits.written;
        origin_is = h.origin_is ∙ origin_alone h.choice.0.origin;
        side_is = h.side_is ∙ alternative_side h.rule a h.choice h.fits.written;
      }
  produced_by_rule n o side (inr h) = let from : None ≡ Some h.from = h.from_is in absurd (let wrong : ⊥ = cc in wrong)

  -- the right side of a start
  abbrev pub start_side : Text → RightSide
  start_side n = GrammarSymbol.nonterminal (rule_nonterminal n) ∷ []

  start_side_is : (n : Text) (r : EnabledRule) → Among g.rules r
      → GrammarSymbol.nonterminal (Nonterminal.closed (Closed.call n Closeds.none (loosest r))) ∷ [] ≡ start_side n
  start_side_is n r a =
      ap (λ l. GrammarSymbol.nonterminal (Nonterminal.closed (Closed.call n Closeds.none l)) ∷ [])
      (no_loosest r (w.no_levels r a))

  -- each public rule has a start
  pub start_produces : (r : EnabledRule) → Among g.rules r → r.public ≡ true
      → Produces g (Nonterminal.start r.name) Origin.start (start_side r.name)
  start_produces r a e = (r, w.rules r a, w.no_macros r a, e, refl, sym (start_side_is r.name r a))

  -- what a start produces
  pub record IsStartOf (n : Text) (o : Origin) (side : RightSide) : Type 0 where
    pub rule : EnabledRule
    pub among : Among g.rules rule
    pub name_is : rule.name ≡ n
    pub public : rule.public ≡ true
    pub origin_is : o ≡ Origin.start
    pub side_is : side ≡ start_side n

  pub produced_by_start : (n : Text) (o : Origin) (side : RightSide) → Produces g (Nonterminal.start n) o side → IsStartOf n o side
  produced_by_start n o side h =
      let a = rule_among g n h.0 h.1 in record {
        rule = h.0;
        among = a;
        name_is = name_of_rule n h.0 h.1;
        public = h.3;
        origin_is = h.4;
        side_is = h.5 ∙ start_side_is n h.0 a;
      }

  -- the expansion has each start and each rule
  pub start_there : (r : EnabledRule) → Among g.rules r → r.public ≡ true → InExpansion g (Nonterminal.start r.name)
  start_there r a e = (0, inl (r.name, start_side r.name, refl, start_produces r a e))

  pub rule_there : (r : EnabledRule) → Among g.rules r → InExpansion g (rule_nonterminal r.name)
  rule_there r a = (0, inr (r, None, w.rules r a, w.no_macros r a, w.no_levels r a, refl))
