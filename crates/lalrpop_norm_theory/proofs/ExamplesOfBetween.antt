-- Computed examples of grammars between passes, and of what passes rest on.
use Prim.Native.String.{String}
use Rattle.std.proofs.Common.{◌≡◌, ℕ, zero, suc, ◌≤◌, List, [], ◌∷◌, refl, ap, sym, ◌∙◌, inl, inr, arith}
use Rattle.std.specs.Prelude.{Option, Some, None, codes, false, true, map, replicate, length}
use Rattle.std.proofs.lemmas.Bool.{true≢false}
use Rattle.lalrpop_grammar_symbols.specs.Symbols.{Closed, Closeds, Terminal, WrittenSymbol, Sym, syms, Op}
use Rattle.lalrpop_grammar_symbols.specs.Subsymbols.{subsymbols_of}
use Rattle.lalrpop_grammar.specs.WrittenGrammar.{Alternative, Rule, InternEntry, WrittenItem, WrittenEntry, Origin, Grammar}
use Rattle.lalrpop_grammar_language.specs.Among.{Among}
use Rattle.lalrpop_grammar_language.specs.Enabled.{EnabledGrammar, EnabledRule, Choice, IsRule, enabled_grammar}
use Rattle.lalrpop_grammar_language.specs.Levels.{has_levels}
use Rattle.lalrpop_grammar_language.specs.Expansion.{GrammarSymbol, Nonterminal, Produces}
use Rattle.lalrpop_grammar_language.proofs.WrittenTreeLemmas.{here, lit, id, of_macro, many_of, in_group, with, alt, cfg, feature}
use Rattle.lalrpop_grammar_language.proofs.WrittenTreeLemmas.{texts, maps, grammar, finds}
use Rattle.lalrpop_norm_theory.specs.Between.{grammar_between, rule_between, without_disabled, rule_without_cfg}
use Rattle.lalrpop_norm_theory.specs.Premises.{IsReadForm, IsReadAlternative, IsReadItem, IsReadRule, IsReadGrammar}
use Rattle.lalrpop_norm_theory.specs.Premises.{IsResolvedIn, IsResolved, IsExpandedSymbol, IsExpandedChoice, IsExpanded}
use Rattle.lalrpop_norm_theory.specs.Premises.{HasNoRecovery, IsReadEntry, AreDifferent, IsMacroFor}
use Rattle.lalrpop_norm_theory.proofs.AmongLemmas.{all-among}
use Rattle.lalrpop_norm_theory.proofs.ProductionListLemmas.{productions_of, is_production}

-- an alternative that tells its choice
abbrev telling : Origin → Alternative → Alternative
telling o a = record a { origin = o }

-- the alternative of a rule at a place
abbrev at : String → ℕ → Alternative → Alternative
at n place a = telling (Origin.alternative (codes n) [] place) a

abbrev rule_item : String → List String → List Alternative → Rule
rule_item n parameters alternatives = record {
  public = true;
  name = codes n;
  attributes = [];
  span = here;
  parameters = texts parameters;
  declared = None;
  alternatives = alternatives;
}

abbrev item : String → List String → List Alternative → WrittenItem
item n parameters alternatives = WrittenItem.nonterminal (rule_item n parameters alternatives)

abbrev nonterminal : String → WrittenSymbol
nonterminal n = Sym.nonterminal here (codes n)

-- Expr = { L1 "n", L2 C<Expr> "+" }; C<T> = T, after levels: a rule for each level of Expr
abbrev leveled_items : List WrittenItem
leveled_items = item "Expr" [] (at "Expr" 1 (alt (of_macro "C" (nonterminal "Expr1" ∷ []) ∷ lit "+" ∷ []))
    ∷ telling Origin.pass_down (alt (nonterminal "Expr1" ∷ [])) ∷ [])
    ∷ item "Expr1" [] (at "Expr" 0 (alt (lit "n" ∷ [])) ∷ [])
    ∷ item "C" ("T" ∷ []) (at "C" 0 (alt (id "T" ∷ [])) ∷ []) ∷ item "Empty" [] []
    ∷ item "Down" [] (telling Origin.pass_down (alt []) ∷ at "Written" 3 (alt []) ∷ []) ∷ []

abbrev leveled : EnabledGrammar
leveled = grammar_between finds (grammar leveled_items)

abbrev expr_1 : Closed
expr_1 = Closed.call (codes "Expr1") Closeds.none None

abbrev of_expr_1 : Nonterminal
of_expr_1 = Nonterminal.closed (Closed.call (codes "C") (Closeds.more expr_1 Closeds.none) None)

-- an instance's arguments are told by written names, not by a level's
arguments_as_written : productions_of leveled of_expr_1
    ≡ (
      Origin.alternative (codes "C") (Sym.ambiguous_id tt (codes "Expr") ∷ []) 0,
      GrammarSymbol.nonterminal (Nonterminal.closed expr_1) ∷ [],
    ) ∷ []
arguments_as_written = refl

instance_of_level : Produces leveled of_expr_1 (Origin.alternative (codes "C") (Sym.ambiguous_id tt (codes "Expr") ∷ []) 0)
    (GrammarSymbol.nonterminal (Nonterminal.closed expr_1) ∷ [])
instance_of_level =
    is_production leveled of_expr_1 (Origin.alternative (codes "C") (Sym.ambiguous_id tt (codes "Expr") ∷ []) 0)
    (GrammarSymbol.nonterminal (Nonterminal.closed expr_1) ∷ []) (inl refl)

-- a level's alternatives keep the places at which they were written
level_places : productions_of leveled (Nonterminal.closed (Closed.call (codes "Expr") Closeds.none None))
    ≡ (
      Origin.alternative (codes "Expr") [] 1,
      GrammarSymbol.nonterminal of_expr_1
          ∷ GrammarSymbol.terminal (Terminal.quoted (codes "+")) ∷ [],
    )
    ∷ (Origin.pass_down, GrammarSymbol.nonterminal (Nonterminal.closed expr_1) ∷ []) ∷ []
level_places = refl

-- a rule is told by the first alternative that tells one, without alternatives by its own name
told_by_later : leveled.spelled (codes "Down") ≡ codes "Written"
told_by_later = refl

told_by_name : leveled.spelled (codes "Empty") ≡ codes "Empty"
told_by_name = refl

unknown_told : leveled.spelled (codes "Nobody") ≡ codes "Nobody"
unknown_told = refl

-- S = { #[cfg(feature = "x")] "a", "b" }; #[cfg(feature = "x")] T = "t", as it is read
abbrev featured : Grammar
featured = grammar (item "S" [] (at "S" 0 (with (cfg (feature "x") ∷ []) (lit "a" ∷ [])) ∷ at "S" 1 (alt (lit "b" ∷ [])) ∷ [])
    ∷ WrittenItem.nonterminal (record (rule_item "T" [] (at "T" 0 (alt (lit "t" ∷ [])) ∷ [])) {
      attributes = cfg (feature "x") ∷ [];
    }) ∷ [])

-- what is left without the feature, its place kept; and with it, without the attribute
left_without : (grammar_between finds (without_disabled [] featured)).rules
    ≡ rule_between (rule_item "S" [] (at "S" 1 (alt (lit "b" ∷ [])) ∷ [])) ∷ []
left_without = refl

left_with : (grammar_between finds (without_disabled (texts ("x" ∷ [])) featured)).rules
    ≡ rule_between (rule_item "S" [] (at "S" 0 (alt (lit "a" ∷ [])) ∷ at "S" 1 (alt (lit "b" ∷ [])) ∷ []))
    ∷ rule_between (rule_item "T" [] (at "T" 0 (alt (lit "t" ∷ [])) ∷ [])) ∷ []
left_with = refl

-- they are the enabled rules, but for that attribute
enabled_without : (grammar_between finds (without_disabled [] featured)).rules ≡ map rule_without_cfg
    (enabled_grammar finds [] featured).rules
enabled_without = refl

enabled_with : (grammar_between finds (without_disabled (texts ("x" ∷ [])) featured)).rules
    ≡ map rule_without_cfg (enabled_grammar finds (texts ("x" ∷ [])) featured).rules
enabled_with = refl

-- match { "n" => NUM } S = { NUM T?, "b" } as it is read
abbrev num_first : Alternative
num_first = at "S" 0 (alt (id "NUM" ∷ Sym.repeat here Op.question (id "T") ∷ []))

abbrev b_second : Alternative
b_second = at "S" 1 (alt (lit "b" ∷ []))

abbrev num_entry : WrittenEntry
num_entry = WrittenEntry.mapped (Terminal.quoted (codes "n")) (Terminal.bare (codes "NUM")) here

abbrev read_items : List WrittenItem
read_items = maps "n" "NUM" ∷ item "S" [] (num_first ∷ b_second ∷ []) ∷ []

read_rule : IsReadRule (rule_item "S" [] (num_first ∷ b_second ∷ []))
read_rule = record {
  name = refl;
  parameters = λ n i. absurd i;
  types = λ t e. cc;
  alternatives = all-among IsReadAlternative (num_first ∷ b_second ∷ []) (
    record {
      symbols = all-among IsReadForm (subsymbols_of (syms num_first.expr)) (refl, (tt, (refl, tt)));
      condition = λ c e. cc;
      action = tt;
    },
    (
      record {
        symbols = all-among IsReadForm (subsymbols_of (syms b_second.expr)) (tt, tt);
        condition = λ c e. cc;
        action = tt;
      },
      tt,
    ),
  );
  places = refl;
}

is_read : IsReadGrammar (grammar read_items)
is_read = record {
  underscores = 2;
  two = omega arith;
  prefix_is = refl;
  items = all-among IsReadItem read_items (entries, (read_rule, tt));
}
  where
    entries : (group : List WrittenEntry) → Among ((num_entry ∷ []) ∷ []) group → (e : WrittenEntry) → Among group e →
        IsReadEntry e
    entries group i =
        all-among (λ g. (e : WrittenEntry) → Among g e → IsReadEntry e) ((num_entry ∷ []) ∷ [])
        (all-among IsReadEntry (num_entry ∷ []) (refl, tt), tt) group i

-- one that a pass gave isn't: its places are others, its names resolved, its tokenizer made
other_place_refused : IsReadRule (rule_item "S" [] (at "S" 1 (alt (lit "b" ∷ [])) ∷ [])) → ⊥
other_place_refused w = let e : ◌≡◌ {A = ℕ} 1 0 = ap place_of w.places in omega (arith, e)
  where
    place_of : List (Origin × Alternative) → ℕ
    place_of [] = 0
    place_of (p ∷ ps) = of_origin p.0
      where
        of_origin : Origin → ℕ
        of_origin (Origin.alternative n args place) = place
        of_origin _ = 0

resolved_refused : IsReadForm (nonterminal "S") → ⊥
resolved_refused h = h

intern_refused : (entries : List InternEntry) (items : List WrittenItem)
    → IsReadGrammar (grammar (WrittenItem.intern_token entries ∷ items)) → ⊥
intern_refused entries items w = w.items (WrittenItem.intern_token entries) (inl refl)

one_underscore_refused : (items : List WrittenItem) → IsReadGrammar (record (grammar items) { prefix = codes "_" }) → ⊥
one_underscore_refused items w =
    let e : ◌≡◌ {A = ℕ} 1 (length {A = ℕ} (replicate w.underscores 95)) = ap length w.prefix_is in
    go w.underscores w.two e
  where
    go : (n : ℕ) → 2 ≤ n → ◌≡◌ {A = ℕ} 1 (length {A = ℕ} (replicate n 95)) → ⊥
    go zero le e = omega (arith, le)
    go (suc zero) le e = omega (arith, le)
    go (suc (suc n)) le e = omega (arith, e)

-- S = X M<X>*; X = "x"; M<T> = T, resolved
abbrev s_choice : Alternative
s_choice = at "S" 0 (alt (nonterminal "X" ∷ many_of (of_macro "M" (nonterminal "X" ∷ [])) ∷ []))

abbrev x_choice : Alternative
x_choice = at "X" 0 (alt (lit "x" ∷ []))

abbrev m_choice : Alternative
m_choice = at "M" 0 (alt (id "T" ∷ []))

abbrev rule_S : EnabledRule
rule_S = rule_between (rule_item "S" [] (s_choice ∷ []))

abbrev rule_X : EnabledRule
rule_X = rule_between (rule_item "X" [] (x_choice ∷ []))

abbrev rule_M : EnabledRule
rule_M = rule_between (rule_item "M" ("T" ∷ []) (m_choice ∷ []))

abbrev resolved : EnabledGrammar
resolved = grammar_between finds
    (grammar (item "S" [] (s_choice ∷ []) ∷ item "X" [] (x_choice ∷ []) ∷ item "M" ("T" ∷ []) (m_choice ∷ [])
    ∷ []))

macro_M : IsMacroFor resolved rule_S (codes "M")
macro_M = record { macro = rule_M; is_rule = refl; has_parameters = λ e. cc; not_hidden = refl }

abbrev HasResolved : EnabledRule → Type 0
HasResolved r = (c : Choice) → Among r.choices c → (x : WrittenSymbol) → Among (subsymbols_of (syms c.expr)) x →
    IsResolvedIn resolved r x

resolved_S : HasResolved rule_S
resolved_S =
    all-among (λ c. (x : WrittenSymbol) → Among (subsymbols_of (syms c.expr)) x → IsResolvedIn resolved rule_S x) rule_S.choices (
      all-among (IsResolvedIn resolved rule_S) (subsymbols_of (syms s_choice.expr))
          ((rule_X, refl, refl), (tt, ((macro_M, refl), ((rule_X, refl, refl), tt)))),
      tt,
    )

resolved_X : HasResolved rule_X
resolved_X =
    all-among (λ c. (x : WrittenSymbol) → Among (subsymbols_of (syms c.expr)) x → IsResolvedIn resolved rule_X x) rule_X.choices
    (all-among (IsResolvedIn resolved rule_X) (subsymbols_of (syms x_choice.expr)) (tt, tt), tt)

resolved_M : HasResolved rule_M
resolved_M =
    all-among (λ c. (x : WrittenSymbol) → Among (subsymbols_of (syms c.expr)) x → IsResolvedIn resolved rule_M x) rule_M.choices
    (all-among (IsResolvedIn resolved rule_M) (subsymbols_of (syms m_choice.expr)) (refl, tt), tt)

abbrev HasNoCondition : EnabledRule → Type 0
HasNoCondition r = (c : Choice) → Among r.choices c → c.condition ≡ None

unconditional : (r : EnabledRule) → Among resolved.rules r → HasNoCondition r
unconditional =
    all-among HasNoCondition resolved.rules (
      all-among (λ c. c.condition ≡ None) rule_S.choices (refl, tt),
      (
        all-among (λ c. c.condition ≡ None) rule_X.choices (refl, tt),
        (all-among (λ c. c.condition ≡ None) rule_M.choices (refl, tt), tt),
      ),
    )

not_some : {A : Type 0} (o : Option A) (x : A) → o ≡ None → o ≡ Some x → ⊥
not_some o x e f = let k : None ≡ Some x = sym e ∙ f in cc

is_resolved : IsResolved resolved
is_resolved = record {
  rules = all-among (λ r. IsRule resolved r.name r) resolved.rules (refl, (refl, (refl, tt)));
  parameters = all-among (λ r. AreDifferent r.parameters) resolved.rules (tt, (tt, ((refl, tt), tt)));
  symbols = λ r c x s.
      all-among HasResolved resolved.rules (resolved_S, (resolved_X, (resolved_M, tt))) r s.rule c s.choice x s.symbol;
  types = λ r x s.
      absurd (not_some r.declared s.written (all-among (λ q. q.declared ≡ None) resolved.rules (refl, (refl, (refl, tt))) r s.rule)
      s.declared);
  conditions = λ r c t i j e. absurd (not_some c.condition t (unconditional r i c j) e);
}

-- a name that isn't resolved, where no parameter has it, is refused
name_refused : IsResolvedIn resolved (rule_between (rule_item "S" [] [])) (id "X") → ⊥
name_refused h = true≢false (sym h)

-- S = X "a"; X = <"x">, expanded; a repeat isn't
abbrev flat_S : EnabledRule
flat_S = rule_between (rule_item "S" [] (at "S" 0 (alt (nonterminal "X" ∷ lit "a" ∷ [])) ∷ []))

abbrev flat_X : EnabledRule
flat_X = rule_between (rule_item "X" [] (at "X" 0 (alt (Sym.choose here (lit "x") ∷ [])) ∷ []))

abbrev flat : EnabledGrammar
flat = grammar_between finds (grammar (item "S" [] (at "S" 0 (alt (nonterminal "X" ∷ lit "a" ∷ [])) ∷ [])
    ∷ item "X" [] (at "X" 0 (alt (Sym.choose here (lit "x") ∷ [])) ∷ []) ∷ []))

abbrev AreExpandedChoices : EnabledRule → Type 0
AreExpandedChoices r = (c : Choice) → Among r.choices c → IsExpandedChoice flat c

expanded_S : AreExpandedChoices flat_S
expanded_S = all-among (IsExpandedChoice flat) flat_S.choices (
  record {
    unconditional = refl;
    symbols = all-among (IsExpandedSymbol flat) (nonterminal "X" ∷ lit "a" ∷ []) ((flat_X, refl), (tt, tt));
  },
  tt,
)

expanded_X : AreExpandedChoices flat_X
expanded_X = all-among (IsExpandedChoice flat) flat_X.choices (
  record {
    unconditional = refl;
    symbols = all-among (IsExpandedSymbol flat) (Sym.choose here (lit "x") ∷ []) (tt, tt);
  },
  tt,
)

is_expanded : IsExpanded flat
is_expanded = record {
  rules = all-among (λ r. IsRule flat r.name r) flat.rules (refl, (refl, tt));
  no_macros = all-among (λ r. r.parameters ≡ []) flat.rules (refl, (refl, tt));
  no_levels = all-among (λ r. has_levels r ≡ false) flat.rules (refl, (refl, tt));
  choices = λ r c i j. all-among AreExpandedChoices flat.rules (expanded_S, (expanded_X, tt)) r i c j;
}

repeat_refused : (g : EnabledGrammar) (x : WrittenSymbol) → IsExpandedSymbol g (many_of x) → ⊥
repeat_refused g x h = h

-- `!` is found at any depth
abbrev recovering : EnabledGrammar
recovering = grammar_between finds
    (grammar (item "S" [] (at "S" 0 (alt (many_of (in_group (Sym.error here ∷ [])) ∷ [])) ∷ []) ∷ []))

recovery_refused : HasNoRecovery recovering → ⊥
recovery_refused w = w _ _ (Sym.error here) (record { rule = inl refl; choice = inl refl; symbol = inr (inr (inl refl)) })
