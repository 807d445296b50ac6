-- The literals in use of an expanded grammar are those that its expansion uses; for the entries of a normalized grammar.
use Rattle.std.proofs.Common.{◌≡◌, ℕ, ◌+◌, List, [], ◌∷◌, refl, ap, sym, ◌∙◌, subst, cond, Bool, true, false}
use Rattle.std.proofs.Common.{inl, inr, ◌⊎◌, length}
use Rattle.std.specs.Prelude.{Option, Some, None, map, flat_map, is_some}
use Rattle.std.specs.List.{AllByRecursion}
use Rattle.lalrpop_grammar_symbols.specs.Symbols.{Text, Terminal, Sym, syms, WrittenSymbol, Closed, Closeds}
use Rattle.lalrpop_grammar_symbols.specs.Subsymbols.{subsymbols, subsymbols_of}
use Rattle.lalrpop_grammar.specs.WrittenGrammar.{Alternative, Condition, InternEntry, Origin, Rule, Grammar, rules_of}
use Rattle.lalrpop_grammar_language.specs.Among.{Among}
use Rattle.lalrpop_grammar_language.specs.Enabled.{EnabledGrammar, EnabledRule, Choice, has_text, choice_of}
use Rattle.lalrpop_grammar_language.specs.Levels.{Rank}
use Rattle.lalrpop_grammar_language.specs.Closing.{Scope, Meaning, name_meaning, plain_name, if_plain, call_level, close}
use Rattle.lalrpop_grammar_language.specs.Closing.{close_list, is_sound, sound_or_faulty, right_side, scope_of, occurrences}
use Rattle.lalrpop_grammar_language.specs.Conditions.{Holds}
use Rattle.lalrpop_grammar_language.specs.Admitting.{bind, argument_list}
use Rattle.lalrpop_grammar_language.specs.Expansion.{GrammarSymbol, Nonterminal, RightSide, Produces, ByAlternative, ByPassDown}
use Rattle.lalrpop_grammar_language.specs.Expansion.{grammar_symbol, origin_with}
use Rattle.lalrpop_grammar_language.proofs.ComparisonLemmas.{same_text-refl}
use Rattle.lalrpop_grammar_language.proofs.PlaceLemmas.{among_map}
use Rattle.lalrpop_norm_theory.specs.Between.{with_origins, rule_between, grammar_between}
use Rattle.lalrpop_norm_theory.specs.Premises.{IsExpanded, IsExpandedSymbol}
use Rattle.lalrpop_norm_theory.specs.Same.{rename_symbol, rename_side, SameExpansion}
use Rattle.lalrpop_grammar_language.proofs.AmongLemmas.{flat_map_among}
use Rattle.lalrpop_grammar_language.proofs.AmongLemmas.{map_among}
use Rattle.lalrpop_grammar_language.proofs.AmongLemmas.{among_flat_map}
use Rattle.lalrpop_grammar_language.proofs.StepLemmas.{among_right}
use Rattle.lalrpop_grammar_language.proofs.StepLemmas.{among_left}
use Rattle.lalrpop_grammar_language.proofs.OrderLemmas.{among_parts}
use Rattle.lalrpop_norm_theory.proofs.LevelLemmas.{ranked_flat}
use Rattle.lalrpop_lexer_scan.specs.Literals.{LiteralUse, uses_at, uses_in_alternative, uses_in_rule, uses_in_grammar, same_terminal}
use Rattle.lalrpop_lexer_scan.specs.Literals.{first_span, IsBefore, IsAscending}
use Rattle.lalrpop_norm_token_check.specs.Blocks.{block_groups}
use Rattle.lalrpop_norm_token_check.specs.Entries.{AreUsed, AreEntries, AreFullEntries}
use Rattle.lalrpop_norm_tyinfer.proofs.ExpandedLemmas.{rule_among, ranked_among, IsRuleKey, reached_key}
use Rattle.lalrpop_norm_chain.specs.UsedLiterals.{IsLiteralTerminal, IsUsedLiteral, AreAscending, AreUsedLiterals, AreExpansionEntries}
use Rattle.lalrpop_norm_chain.specs.UsedLiterals.{AreFullExpansionEntries}
use Rattle.lalrpop_norm_token_check.proofs.UniqueLemmas.{same_is}

-- lists of literals

abbrev pub literals : List LiteralUse → List Terminal
literals us = map (λ u. u.literal) us

same_self : (t : Terminal) → same_terminal t t ≡ true
same_self (Terminal.quoted s) = same_text-refl s
same_self (Terminal.regex s) = same_text-refl s
same_self (Terminal.bare s) = same_text-refl s
same_self Terminal.error = refl

found : (us : List LiteralUse) (t : Terminal) (o : Option (ℕ × ℕ)) → first_span us t ≡ o → is_some o ≡ true →
    Among (literals us) t
found [] t o e s = let wrong : None ≡ o = e in absurd (none_some o wrong s)
  where
    none_some : (o : Option (ℕ × ℕ)) → None ≡ o → is_some o ≡ true → ⊥
    none_some None e s = cc
    none_some (Some p) e s = cc
found (u ∷ us) t o e s = go (same_terminal t u.literal) refl e (λ k. found us t o k s)
  where
    go : (b : Bool) → same_terminal t u.literal ≡ b → cond b (Some u.span) (first_span us t) ≡ o →
        (first_span us t ≡ o → Among (literals us) t) → Among (literals (u ∷ us)) t
    go true f k later = inl (sym (same_is t u.literal f))
    go false f k later = inr (later k)

there : (us : List LiteralUse) (t : Terminal) → Among (literals us) t → is_some (first_span us t) ≡ true
there [] t i = absurd i
there (u ∷ us) t (inl e) =
    ap (λ b. is_some (cond b (Some u.span) (first_span us t))) (ap (same_terminal t) e ∙ same_self t)
there (u ∷ us) t (inr i) = go (same_terminal t u.literal) (there us t i)
  where
    go : (b : Bool) → is_some (first_span us t) ≡ true → is_some (cond b (Some u.span) (first_span us t)) ≡ true
    go true h = refl
    go false h = h

-- a list that finds the same has the same literals
same_found : (us vs : List LiteralUse) (t : Terminal) → first_span us t ≡ first_span vs t → Among (literals us) t →
    Among (literals vs) t
same_found us vs t e i = found vs t (first_span us t) (sym e) (there us t i)

ascending_literals : (us : List LiteralUse) → IsAscending us → AreAscending (literals us)
ascending_literals [] h = tt
ascending_literals (u ∷ us) h = (behind us h.0, ascending_literals us h.1)
  where
    behind : (vs : List LiteralUse) → AllByRecursion (λ (v : LiteralUse). IsBefore u.literal v.literal) vs →
        AllByRecursion (λ t. IsBefore u.literal t) (literals vs)
    behind [] k = tt
    behind (v ∷ vs) k = (k.0, behind vs k.1)

-- symbols of an alternative

listed_inside : (xs : List WrittenSymbol) (x y : WrittenSymbol) → Among xs x → Among (subsymbols x) y →
    Among (subsymbols_of (syms xs)) y
listed_inside [] x y i j = absurd i
listed_inside (z ∷ xs) x y (inl e) j =
    among_left (subsymbols z) (subsymbols_of (syms xs)) y (subst (λ (v : WrittenSymbol). Among (subsymbols v) y) (sym e) j)
listed_inside (z ∷ xs) x y (inr i) j =
    among_right (subsymbols z) (subsymbols_of (syms xs)) y (listed_inside xs x y i j)

inside_listed : (xs : List WrittenSymbol) (y : WrittenSymbol) → Among (subsymbols_of (syms xs)) y →
    (x : WrittenSymbol) × Among xs x × Among (subsymbols x) y
inside_listed [] y i = absurd i
inside_listed (z ∷ xs) y i = go (among_parts (subsymbols z) (subsymbols_of (syms xs)) y i) (λ j. inside_listed xs y j)
  where
    go : Among (subsymbols z) y ⊎ Among (subsymbols_of (syms xs)) y →
        (Among (subsymbols_of (syms xs)) y → (x : WrittenSymbol) × Among xs x × Among (subsymbols x) y) →
        (x : WrittenSymbol) × Among (z ∷ xs) x × Among (subsymbols x) y
    go (inl j) later = (z, inl refl, j)
    go (inr j) later = let u = later j in (u.0, inr u.1, u.2)

close_among : (s : Scope) (k : ℕ) (xs : List WrittenSymbol) (x : WrittenSymbol) → Among xs x →
    (j : ℕ) × Among (close_list s k xs) (sound_or_faulty (close s j x))
close_among s k [] x i = absurd i
close_among s k (z ∷ xs) x (inl e) = (k, inl (ap (λ y. sound_or_faulty (close s k y)) e))
close_among s k (z ∷ xs) x (inr i) =
    let u = close_among s (k + occurrences s.binding s.owner z) xs x i in (u.0, inr u.1)

among_close : (s : Scope) (k : ℕ) (xs : List WrittenSymbol) (c : Closed) → Among (close_list s k xs) c →
    (x : WrittenSymbol) × (j : ℕ) × Among xs x × (sound_or_faulty (close s j x) ≡ c)
among_close s k [] c i = absurd i
among_close s k (z ∷ xs) c (inl e) = (z, k, inl refl, e)
among_close s k (z ∷ xs) c (inr i) =
    let u = among_close s (k + occurrences s.binding s.owner z) xs c i in (u.0, u.1, inr u.2, u.3)

-- a literal in an expanded symbol, and what that closes to
pub record StandsThere (c : Closed) (t : Terminal) : Type 0 where
  pub literal : IsLiteralTerminal t
  pub closed : grammar_symbol c ≡ GrammarSymbol.terminal t
  pub sound : is_sound c ≡ true

module _ (h : EnabledGrammar) where
  use_stands : (s : Scope) (k : ℕ) (x : WrittenSymbol) (u : LiteralUse) → IsExpandedSymbol h x →
      Among (flat_map uses_at (subsymbols x)) u → StandsThere (close s k x) u.literal
  use_stands s k (Sym.terminal p (Terminal.quoted t)) u e (inl f) =
      subst (StandsThere (Closed.terminal (Terminal.quoted t))) (ap (λ (v : LiteralUse). v.literal) f)
      (record { literal = tt; closed = refl; sound = refl })
  use_stands s k (Sym.terminal p (Terminal.quoted t)) u e (inr f) = absurd f
  use_stands s k (Sym.terminal p (Terminal.regex t)) u e (inl f) =
      subst (StandsThere (Closed.terminal (Terminal.regex t))) (ap (λ (v : LiteralUse). v.literal) f)
      (record { literal = tt; closed = refl; sound = refl })
  use_stands s k (Sym.terminal p (Terminal.regex t)) u e (inr f) = absurd f
  use_stands s k (Sym.terminal p (Terminal.bare n)) u e i = absurd i
  use_stands s k (Sym.terminal p Terminal.error) u e i = absurd i
  use_stands s k (Sym.nonterminal p n) u e i = absurd i
  use_stands s k (Sym.choose p x) u e i =
      let v = use_stands s k x u e i in record { literal = v.literal; closed = v.closed; sound = v.sound }
  use_stands s k (Sym.name p m n x) u e i =
      let v = use_stands s k x u e i in record { literal = v.literal; closed = v.closed; sound = v.sound }
  use_stands s k (Sym.ambiguous_id p n) u e i = absurd e
  use_stands s k (Sym.macro p n args) u e i = absurd e
  use_stands s k (Sym.expr p xs) u e i = absurd e
  use_stands s k (Sym.repeat p op x) u e i = absurd e
  use_stands s k (Sym.lookahead p) u e i = absurd e
  use_stands s k (Sym.lookbehind p) u e i = absurd e
  use_stands s k (Sym.error p) u e i = absurd e

  abbrev IsUse : WrittenSymbol → Terminal → Type 0
  IsUse x t = (u : LiteralUse) × Among (flat_map uses_at (subsymbols x)) u × (u.literal ≡ t)

  abbrev terminal_symbol : Terminal → GrammarSymbol Nonterminal
  terminal_symbol t = GrammarSymbol.terminal t

  no_literal : (n : Text) (t : Terminal) → IsLiteralTerminal t → terminal_symbol (Terminal.bare n) ≡ terminal_symbol t → ⊥
  no_literal n (Terminal.quoted s) l e = cc
  no_literal n (Terminal.regex s) l e = cc
  no_literal n (Terminal.bare s) l e = l
  no_literal n Terminal.error l e = l

  no_plain : (n : Text) (level : Option ℕ) (ps : List Text) (t : Terminal) →
      grammar_symbol (if_plain ps (Closed.call n Closeds.none level)) ≡ GrammarSymbol.terminal t → ⊥
  no_plain n level [] t e = cc
  no_plain n level (p ∷ ps) t e = cc

  no_meaning : (s : Scope) (k : ℕ) (n : Text) (m : Meaning) (t : Terminal) → IsLiteralTerminal t →
      grammar_symbol (plain_name s k n m) ≡ GrammarSymbol.terminal t → ⊥
  no_meaning s k n (Meaning.rule r) t l e = no_plain n (call_level s k n r) r.parameters t e
  no_meaning s k n Meaning.terminal t l e = no_literal n t l e
  no_meaning s k n Meaning.unclear t l e = cc

  bare_meaning : (b : Bool) (n : Text) (t : Terminal) → IsLiteralTerminal t →
      grammar_symbol (cond b (Closed.terminal (Terminal.bare n)) Closed.faulty) ≡ GrammarSymbol.terminal t → ⊥
  bare_meaning true n t l e = no_literal n t l e
  bare_meaning false n t l e = cc

  stands_use : (s : Scope) (k : ℕ) (x : WrittenSymbol) (t : Terminal) → IsExpandedSymbol h x → IsLiteralTerminal t →
      grammar_symbol (close s k x) ≡ GrammarSymbol.terminal t → IsUse x t
  stands_use s k (Sym.terminal p (Terminal.quoted a)) t e l f =
      let same : Terminal.quoted a ≡ t = cc in (record { literal = Terminal.quoted a; span = p }, inl refl, same)
  stands_use s k (Sym.terminal p (Terminal.regex a)) t e l f =
      let same : Terminal.regex a ≡ t = cc in (record { literal = Terminal.regex a; span = p }, inl refl, same)
  stands_use s k (Sym.terminal p (Terminal.bare n)) t e l f = absurd (bare_meaning (has_text n s.grammar.bares) n t l f)
  stands_use s k (Sym.terminal p Terminal.error) t e l f = absurd e
  stands_use s k (Sym.nonterminal p n) t e l f = absurd (no_meaning s k n (name_meaning s.grammar n) t l f)
  stands_use s k (Sym.choose p x) t e l f = stands_use s k x t e l f
  stands_use s k (Sym.name p m n x) t e l f = stands_use s k x t e l f
  stands_use s k (Sym.ambiguous_id p n) t e l f = absurd e
  stands_use s k (Sym.macro p n args) t e l f = absurd e
  stands_use s k (Sym.expr p xs) t e l f = absurd e
  stands_use s k (Sym.repeat p op x) t e l f = absurd e
  stands_use s k (Sym.lookahead p) t e l f = absurd e
  stands_use s k (Sym.lookbehind p) t e l f = absurd e
  stands_use s k (Sym.error p) t e l f = absurd e

  stands_so : (c : Closed) (t : Terminal) (b : Bool) → is_sound c ≡ b →
      grammar_symbol (cond b c Closed.faulty) ≡ GrammarSymbol.terminal t → grammar_symbol c ≡ GrammarSymbol.terminal t
  stands_so c t true e f = f
  stands_so c t false e f = cc

-- an expanded grammar

module _ (finds : Text → Text → Option Bool) (m : Grammar) (w : IsExpanded (grammar_between finds m)) where
  abbrev after : EnabledGrammar
  after = grammar_between finds m

  abbrev choice_at : Alternative → Choice
  choice_at a = choice_of (a.origin, a)

  listed_choice : (q : Rule) (a : Alternative) → Among q.alternatives a → Among (rule_between q).choices (choice_at a)
  listed_choice q a j =
      map_among choice_of (with_origins q.alternatives) (a.origin, a)
      (map_among (λ (b : Alternative). (b.origin, b)) q.alternatives a j)

  choice_listed : (q : Rule) (c : Choice) → Among (rule_between q).choices c → (a : Alternative) × Among q.alternatives a
      × (choice_at a ≡ c)
  choice_listed q c j =
      let u = among_map choice_of (with_origins q.alternatives) c j in
      let v = among_map (λ (b : Alternative). (b.origin, b)) q.alternatives u.0 u.1 in
      (v.0, v.1, ap choice_of v.2 ∙ u.2)

  -- a literal of an alternative stands on the right side of its production
  use_produced : (q : Rule) → Among (rules_of m.items) q → (a : Alternative) → Among q.alternatives a → (u : LiteralUse) →
      Among (uses_in_alternative a) u → IsUsedLiteral after u.literal
  use_produced q i a j u k =
      let e = rule_between q in
      let there : Among after.rules e = map_among rule_between (rules_of m.items) q i in
      let c : Choice = choice_at a in
      let in_rule = listed_choice q a j in
      let y = among_flat_map uses_at (subsymbols_of (syms a.expr)) u k in
      let x = inside_listed a.expr y.0 y.1 in
      let expanded : IsExpandedSymbol after x.0 = (w.choices e c there in_rule).symbols x.0 x.1 in
      let used : Among (flat_map uses_at (subsymbols x.0)) u = flat_map_among uses_at (subsymbols x.0) y.0 u x.2 y.2 in
      let s = scope_of after e (bind e Closeds.none) c None in
      let z = close_among s 0 a.expr x.0 x.1 in
      let stands = use_stands after s z.0 x.0 u expanded used in
      let symbol : grammar_symbol (sound_or_faulty (close s z.0 x.0)) ≡ GrammarSymbol.terminal u.literal =
      ap (λ b. grammar_symbol (cond b (close s z.0 x.0) Closed.faulty)) stands.sound ∙ stands.closed in
      record {
        literal = stands.literal;
        head = Nonterminal.closed (Closed.call q.name Closeds.none None);
        origin = origin_with (argument_list after.spelled Closeds.none) a.origin;
        side = map grammar_symbol (right_side after e (bind e Closeds.none) (c, None));
        in_expansion = (0, inr (e, None, w.rules e there, w.no_macros e there, w.no_levels e there, refl));
        produced = inl (record {
          rule = e;
          choice = (c, None);
          fits = record {
            rule = w.rules e there;
            arguments = sym (ap length (w.no_macros e there));
            written = subst (λ (l : List (Choice × Option Rank)). Among l (c, None)) (sym (ranked_flat e (w.no_levels e there)))
                (map_among (λ (d : Choice). (d, None)) e.choices c in_rule);
            leveled = sym (w.no_levels e there);
            holds = subst (λ (o : Option Condition). Holds after (bind e Closeds.none) o)
                (sym (w.choices e c there in_rule).unconditional) tt;
          };
          level_is = refl;
          origin_is = refl;
          side_is = refl;
        });
        among = subst (Among (map grammar_symbol (right_side after e (bind e Closeds.none) (c, None)))) symbol
            (map_among grammar_symbol (close_list s 0 a.expr) (sound_or_faulty (close s z.0 x.0)) z.1);
      }

  used_there : (t : Terminal) → Among (literals (uses_in_grammar m)) t → IsUsedLiteral after t
  used_there t i =
      let u = among_map (λ (v : LiteralUse). v.literal) (uses_in_grammar m) t i in
      let q = among_flat_map uses_in_rule (rules_of m.items) u.0 u.1 in
      let a = among_flat_map uses_in_alternative q.0.alternatives u.0 q.2 in
      subst (IsUsedLiteral after) u.2 (use_produced q.0 q.1 a.0 a.1 u.0 a.2)

  -- and back
  of_alternative : (n : Text) (o : Origin) (side : RightSide) (t : Terminal) → IsLiteralTerminal t →
      ByAlternative after n Closeds.none None o side → Among side (GrammarSymbol.terminal t) →
      Among (literals (uses_in_grammar m)) t
  of_alternative n o side t l b i =
      let there = rule_among after n b.rule b.fits.rule in
      let q = among_map rule_between (rules_of m.items) b.rule there in
      let in_rule = ranked_among after w b.rule there b.choice b.fits.written in
      let a = choice_listed q.0 b.choice.0 (subst (λ (e : EnabledRule). Among e.choices b.choice.0) (sym q.2) in_rule) in
      let s = scope_of after b.rule (bind b.rule Closeds.none) b.choice.0 b.choice.1 in
      let z = among_map grammar_symbol (close_list s 0 b.choice.0.expr) (GrammarSymbol.terminal t)
      (subst (λ (r : RightSide). Among r (GrammarSymbol.terminal t)) b.side_is i) in
      let x = among_close s 0 b.choice.0.expr z.0 z.1 in
      let expanded : IsExpandedSymbol after x.0 = (w.choices b.rule b.choice.0 there in_rule).symbols x.0 x.2 in
      let symbol : grammar_symbol (sound_or_faulty (close s x.1 x.0)) ≡ GrammarSymbol.terminal t = ap grammar_symbol x.3 ∙ z.2 in
      let used = stands_use after s x.1 x.0 t expanded l
      (stands_so after (close s x.1 x.0) t (is_sound (close s x.1 x.0)) refl symbol) in
      let y = among_flat_map uses_at (subsymbols x.0) used.0 used.1 in
      let listed : Among a.0.expr x.0 = subst (λ (c : Choice). Among c.expr x.0) (sym a.2) x.2 in
      let in_alternative : Among (uses_in_alternative a.0) used.0 =
      flat_map_among uses_at (subsymbols_of (syms a.0.expr)) y.0 used.0 (listed_inside a.0.expr x.0 y.0 listed y.1) y.2 in
      let in_grammar : Among (uses_in_grammar m) used.0 =
      flat_map_among uses_in_rule (rules_of m.items) q.0 used.0 q.1
      (flat_map_among uses_in_alternative q.0.alternatives a.0 used.0 a.1 in_alternative) in
      subst (Among (literals (uses_in_grammar m))) {x = used.0.literal} used.2
      (map_among (λ (v : LiteralUse). v.literal) (uses_in_grammar m) used.0 in_grammar)

  no_pass : (n : Text) (o : Origin) (side : RightSide) → ByPassDown after n Closeds.none None o side → ⊥
  no_pass n o side b = let e : None ≡ Some b.from = b.from_is in cc

  from_head : (x : Nonterminal) → IsRuleKey x → (o : Origin) (side : RightSide) (t : Terminal) → IsLiteralTerminal t →
      Produces after x o side → Among side (GrammarSymbol.terminal t) → Among (literals (uses_in_grammar m)) t
  from_head (Nonterminal.start n) k o side t l p i = only (subst (λ (r : RightSide). Among r (GrammarSymbol.terminal t)) p.5 i)
    where
      only : {y : Nonterminal} → Among (GrammarSymbol.nonterminal y ∷ []) (GrammarSymbol.terminal t) →
          Among (literals (uses_in_grammar m)) t
      only (inl e) = cc
      only (inr e) = absurd e
  from_head (Nonterminal.closed (Closed.call n Closeds.none None)) k o side t l (inl p) i = of_alternative n o side t l p i
  from_head (Nonterminal.closed (Closed.call n Closeds.none None)) k o side t l (inr p) i = absurd (no_pass n o side p)
  from_head (Nonterminal.closed (Closed.call n Closeds.none (Some j))) k o side t l p i = absurd k
  from_head (Nonterminal.closed (Closed.call n (Closeds.more x xs) level)) k o side t l p i = absurd k
  from_head (Nonterminal.closed (Closed.terminal u)) k o side t l p i = absurd k
  from_head (Nonterminal.closed (Closed.repeat op x)) k o side t l p i = absurd k
  from_head (Nonterminal.closed (Closed.group xs)) k o side t l p i = absurd k
  from_head (Nonterminal.closed (Closed.choose x)) k o side t l p i = absurd k
  from_head (Nonterminal.closed (Closed.name a n x)) k o side t l p i = absurd k
  from_head (Nonterminal.closed Closed.lookahead) k o side t l p i = absurd k
  from_head (Nonterminal.closed Closed.lookbehind) k o side t l p i = absurd k
  from_head (Nonterminal.closed Closed.faulty) k o side t l p i = absurd k

  there_used : (t : Terminal) → IsUsedLiteral after t → Among (literals (uses_in_grammar m)) t
  there_used t u =
      from_head u.head (reached_key after w u.in_expansion.0 u.head u.in_expansion.1) u.origin u.side t u.literal u.produced u.among

-- under a renaming the expansion uses the same literals

terminal_from : (to : Nonterminal → Nonterminal) (side : RightSide) (t : Terminal) →
    Among (rename_side to side) (GrammarSymbol.terminal t) → Among side (GrammarSymbol.terminal t)
terminal_from to side t i =
    let u = among_map (rename_symbol to) side (GrammarSymbol.terminal t) i in go u.0 u.1 u.2
  where
    go : (y : GrammarSymbol Nonterminal) → Among side y → rename_symbol to y ≡ GrammarSymbol.terminal t →
        Among side (GrammarSymbol.terminal t)
    go (GrammarSymbol.terminal v) j e = subst (Among side) e j
    go (GrammarSymbol.nonterminal x) j e = cc

pub used_forth : (g h : EnabledGrammar) (to : Nonterminal → Nonterminal) → SameExpansion g h to → (t : Terminal) →
    IsUsedLiteral g t → IsUsedLiteral h t
used_forth g h to s t u = record {
  literal = u.literal;
  head = to u.head;
  origin = u.origin;
  side = rename_side to u.side;
  in_expansion = s.there u.head u.in_expansion;
  produced = s.produces u.head u.origin u.side u.in_expansion u.produced;
  among = map_among (rename_symbol to) u.side (GrammarSymbol.terminal t) u.among;
}

pub used_back : (g h : EnabledGrammar) (to : Nonterminal → Nonterminal) → SameExpansion g h to → (t : Terminal) →
    IsUsedLiteral h t → IsUsedLiteral g t
used_back g h to s t u =
    let x = s.no_other u.head u.in_expansion in
    let p = s.produces_no_other x.0 u.origin u.side x.1 (subst (λ (y : Nonterminal). Produces h y u.origin u.side) x.2 u.produced) in
    record {
      literal = u.literal;
      head = x.0;
      origin = u.origin;
      side = p.0;
      in_expansion = x.1;
      produced = p.1;
      among = terminal_from to p.0 t (subst (λ (r : RightSide). Among r (GrammarSymbol.terminal t)) p.2 u.among);
    }

-- the literals in use, and the entries

module _ (finds : Text → Text → Option Bool) (m : Grammar) (w : IsExpanded (grammar_between finds m)) (g : EnabledGrammar)
    (to : Nonterminal → Nonterminal) (s : SameExpansion g (grammar_between finds m) to) where
  pub used_literals : (used : List Terminal) → AreUsed m used → AreUsedLiterals g used
  used_literals used a = record {
    ascending = subst AreAscending a.literals (ascending_literals a.uses a.each_once.ascending);
    each = λ t. (
      λ i. used_back g (grammar_between finds m) to s t
          (used_there finds m w t (same_found a.uses (uses_in_grammar m) t (a.each_once.each t)
          (subst (λ (l : List Terminal). Among l t) (sym a.literals) i))),
      λ u. subst (λ (l : List Terminal). Among l t) a.literals
          (same_found (uses_in_grammar m) a.uses t (sym (a.each_once.each t))
          (there_used finds m w t (used_forth g (grammar_between finds m) to s t u))),
    );
  }

  pub expansion_entries : (es : List InternEntry) → AreEntries m es → AreExpansionEntries g (block_groups m.items) es
  expansion_entries es a = record { used = a.used; are_used = used_literals a.used a.are_used; entries_are = a.entries_are }

  pub full_entries : (es : List InternEntry) → AreFullEntries m es → AreFullExpansionEntries g (block_groups m.items) es
  unfolding expansion_entries
  full_entries es a = record { listed = expansion_entries es a.listed; none_lacks = a.none_lacks }
