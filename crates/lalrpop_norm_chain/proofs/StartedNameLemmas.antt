-- Which nonterminals have starts, in order; for the laws of normalized grammars.
use Rattle.std.proofs.Common.{◌≡◌, ◌∙◌, ◌++◌, ◌⊎◌, ℕ, zero, suc, List, [], ◌∷◌, refl, ap, ap₂, sym, subst, cond, inl, inr, append-nil, arith}
use Rattle.std.proofs.Common.{Bool, true, false, ◌<◌}
use Rattle.std.specs.Prelude.{Option, Some, ◌&&◌, filter, flat_map, map}
use Rattle.std.proofs.lemmas.Bool.{and_from, and_parts, true≢false}
use Rattle.lalrpop_grammar_symbols.specs.Symbols.{Closed, Closeds, Text}
use Rattle.lalrpop_grammar.specs.WrittenGrammar.{Origin}
use Rattle.lalrpop_grammar_language.specs.Among.{Among}
use Rattle.lalrpop_grammar_language.specs.Enabled.{EnabledGrammar, EnabledRule, IsRule}
use Rattle.lalrpop_grammar_language.specs.Levels.{loosest}
use Rattle.lalrpop_grammar_language.specs.Expansion.{GrammarSymbol, InExpansion, Nonterminal, Produces, RightSide}
use Rattle.lalrpop_grammar_language.specs.Starts.{has_none}
use Rattle.lalrpop_grammar_language.proofs.AmongLemmas.{flat_map_among, map_among}
use Rattle.lalrpop_grammar_language.proofs.PlaceLemmas.{among_filter, among_map}
use Rattle.lalrpop_norm_theory.specs.LevelNames.{after_first}
use Rattle.lalrpop_norm_theory.specs.LeveledGrammar.{levels_in_order}
use Rattle.lalrpop_norm_theory.specs.UsedKeys.{AreKeysByUse, KeyUses, rule_at_levels, tighter_at, unless_macro, written_keys}
use Rattle.lalrpop_norm_theory.proofs.ExpansionListLemmas.{rule_there}
use Rattle.lalrpop_norm_theory.proofs.FirstUseLemmas.{new_behind}
use Rattle.lalrpop_norm_theory.proofs.LevelLemmas.{keeps}
use Rattle.lalrpop_norm_theory.proofs.LevelOrderLemmas.{one_rule}
use Rattle.lalrpop_norm_theory.proofs.LeveledNamingLemmas.{below_loosest}
use Rattle.lalrpop_norm_chain.specs.ActionOrders.{is_started, started_names}
use Rattle.lalrpop_norm_chain.proofs.ChainLemmas.{no_start_inside, start_plain}

start_is : (m n : Text) → Nonterminal.start m ≡ Nonterminal.start n → m ≡ n
start_is m n e = cc

nothing_there : (ps : List Text) → has_none ps ≡ true → ps ≡ []
nothing_there [] e = refl
nothing_there (p ∷ ps) e = absurd (let wrong : ⊥ = cc in wrong)

-- The closed symbol is the rule that has the start.
pub record IsSymbolOfStart (g : EnabledGrammar) (x : Closed) (n : Text) : Type 0 where
  pub started : InExpansion g (Nonterminal.start n)
  pub rule : EnabledRule
  pub is_rule : IsRule g n rule
  pub symbol_is : x ≡ Closed.call n Closeds.none (loosest rule)

-- the starts of these symbols, in their order
abbrev pub AreStartsOf : EnabledGrammar → List Closed → List Text → Type 0
AreStartsOf g [] ns = ns ≡ []
AreStartsOf g (x ∷ xs) ns =
    ((n : Text) × (rest : List Text) × (ns ≡ n ∷ rest) × IsSymbolOfStart g x n × AreStartsOf g xs rest)
    ⊎ ((n : Text) → IsSymbolOfStart g x n → ⊥) × AreStartsOf g xs ns

-- the keys of rules that are no macros, and the names of those that have starts

abbrev keys_of : List EnabledRule → List Closed
keys_of rs = flat_map (λ (q : EnabledRule). unless_macro q.parameters (rule_at_levels q)) rs

abbrev names_of : List EnabledRule → List Text
names_of rs = map (λ (r : EnabledRule). r.name) (filter is_started rs)

module _ (g : EnabledGrammar) where
  -- what an expansion has

  -- the symbols of a right side
  pub side_reached : (x : Nonterminal) (o : Origin) (side : RightSide) (y : Nonterminal) → InExpansion g x → Produces g x o side
      → Among side (GrammarSymbol.nonterminal y) → InExpansion g y
  side_reached x o side y i m k = (suc i.0, (x, o, side, i.1, m, k))

  -- a start's production
  pub start_produces : (n : Text) → InExpansion g (Nonterminal.start n)
      → (side : RightSide) × Produces g (Nonterminal.start n) Origin.start side
  start_produces n (zero, inl b) =
      (b.1, subst (λ (t : Text). Produces g (Nonterminal.start t) Origin.start b.1) (start_is b.0 n (sym b.2)) b.3)
  start_produces n (zero, inr b) =
      let e : Nonterminal.start n ≡ Nonterminal.closed (Closed.call b.0.name Closeds.none b.1) = b.5 in
      absurd (let wrong : ⊥ = cc in wrong)
  start_produces n (suc k, b) = absurd (no_start_inside g b.0 b.1 b.2 n b.4 b.5)

  -- a start's rule, which is in the expansion too
  pub rule_of_start : (n : Text) → InExpansion g (Nonterminal.start n) → (r : EnabledRule) × IsRule g n r
      × InExpansion g (Nonterminal.closed (Closed.call n Closeds.none (loosest r)))
  rule_of_start n i =
      let s = start_produces n i in (
        s.1.0,
        s.1.1,
        side_reached (Nonterminal.start n) Origin.start s.0 (Nonterminal.closed (Closed.call n Closeds.none (loosest s.1.0))) i s.1
            (subst (λ (l : RightSide). Among l (GrammarSymbol.nonterminal
            (Nonterminal.closed (Closed.call n Closeds.none (loosest s.1.0))))) (sym s.1.5) (inl refl)),
      )

  -- a start of the expansion is one of a rule that has one
  pub start_listed : (n : Text) → InExpansion g (Nonterminal.start n) → Among (started_names g) n
  start_listed n i =
      let p = (start_produces n i).1 in
      let there = rule_there g n p.0 p.1 in
      subst (Among (started_names g)) there.1
      (map_among (λ (r : EnabledRule). r.name) (filter is_started g.rules) p.0
      (keeps is_started g.rules p.0 there.0 (and_from p.0.public (has_none p.0.parameters) p.3 (ap has_none p.2))))

  -- lists of starts

  one_start : (x : Closed) (n m : Text) → IsSymbolOfStart g x n → IsSymbolOfStart g x m → n ≡ m
  one_start x n m a b =
      let same : Closed.call n Closeds.none (loosest a.rule) ≡ Closed.call m Closeds.none (loosest b.rule) =
      sym a.symbol_is ∙ b.symbol_is in
      cc

  -- symbols have one list of starts
  pub one_list_of_starts : (xs : List Closed) (ns ms : List Text) → AreStartsOf g xs ns → AreStartsOf g xs ms → ns ≡ ms
  one_list_of_starts [] ns ms a b = a ∙ sym b
  one_list_of_starts (x ∷ xs) ns ms (inl a) (inl b) =
      a.2
      ∙ ap₂ (λ (n : Text) (l : List Text). n ∷ l) (one_start x a.0 b.0 a.3 b.3) (one_list_of_starts xs a.1 b.1 a.4 b.4)
      ∙ sym b.2
  one_list_of_starts (x ∷ xs) ns ms (inl a) (inr b) = absurd (b.0 a.0 a.3)
  one_list_of_starts (x ∷ xs) ns ms (inr a) (inl b) = absurd (a.0 b.0 b.3)
  one_list_of_starts (x ∷ xs) ns ms (inr a) (inr b) = one_list_of_starts xs ns ms a.1 b.1

  starts_joined : (xs ys : List Closed) (ns ms : List Text) → AreStartsOf g xs ns → AreStartsOf g ys ms
      → AreStartsOf g (xs ++ ys) (ns ++ ms)
  starts_joined [] ys ns ms a b = subst (λ (l : List Text). AreStartsOf g ys (l ++ ms)) (sym a) b
  starts_joined (x ∷ xs) ys ns ms (inl a) b =
      inl (a.0, a.1 ++ ms, ap (λ (l : List Text). l ++ ms) a.2, a.3, starts_joined xs ys a.1 ms a.4 b)
  starts_joined (x ∷ xs) ys ns ms (inr a) b = inr (a.0, starts_joined xs ys ns ms a.1 b)

  no_starts : (xs : List Closed) → ((x : Closed) → Among xs x → (n : Text) → IsSymbolOfStart g x n → ⊥) → AreStartsOf g xs []
  no_starts [] none = refl
  no_starts (x ∷ xs) none = inr ((λ n s. none x (inl refl) n s), no_starts xs (λ y i. none y (inr i)))

  -- a symbol with a start is the key of a rule that is no macro
  started_key : (x : Closed) (n : Text) → IsSymbolOfStart g x n → Among (written_keys g) x
  started_key x n s =
      let there = rule_there g n s.rule s.is_rule in
      let key : Closed.call s.rule.name Closeds.none (loosest s.rule) ≡ x =
      ap (λ (m : Text). Closed.call m Closeds.none (loosest s.rule)) there.1 ∙ sym s.symbol_is in
      flat_map_among (λ (q : EnabledRule). unless_macro q.parameters (rule_at_levels q)) g.rules s.rule x there.0
      (subst (λ (ps : List Text). Among (unless_macro ps (rule_at_levels s.rule)) x)
      (sym (start_plain g n s.rule s.started s.is_rule)) (inl key))

  -- where no two rules without parameters share a name
  module _ (single : (r : EnabledRule) → Among g.rules r → r.parameters ≡ [] → IsRule g r.name r) where
    start_there : (r : EnabledRule) → Among g.rules r → r.parameters ≡ [] → r.public ≡ true
        → InExpansion g (Nonterminal.start r.name)
    start_there r i plain public = (
      zero,
      inl (
        r.name,
        GrammarSymbol.nonterminal (Nonterminal.closed (Closed.call r.name Closeds.none (loosest r))) ∷ [],
        refl,
        (r, single r i plain, plain, public, refl, refl),
      ),
    )

    -- each of the names has a start
    pub starts_in : (n : Text) → Among (started_names g) n → InExpansion g (Nonterminal.start n)
    starts_in n i =
        let u = among_map (λ (r : EnabledRule). r.name) (filter is_started g.rules) n i in
        let v = among_filter is_started g.rules u.0 u.1 in
        let w = and_parts u.0.public (has_none u.0.parameters) v.1 in
        subst (λ (m : Text). InExpansion g (Nonterminal.start m)) u.2
        (start_there u.0 v.0 (nothing_there u.0.parameters w.1) w.0)

    -- of the levels of a rule the loosest alone can have a start, where the rule is public
    at_loosest : (r : EnabledRule) → Among g.rules r → r.parameters ≡ [] → (level : Option ℕ) (n : Text)
        → IsSymbolOfStart g (Closed.call r.name Closeds.none level) n → (level ≡ loosest r) × (r.public ≡ true)
    at_loosest r i plain level n s =
        let e : Closed.call r.name Closeds.none level ≡ Closed.call n Closeds.none (loosest s.rule) = s.symbol_is in
        let name : r.name ≡ n = cc in
        let at : level ≡ loosest s.rule = cc in
        let own : IsRule g n r = subst (λ (t : Text). IsRule g t r) name (single r i plain) in
        let p = (start_produces n s.started).1 in (
          at ∙ ap loosest (one_rule g n s.rule r s.is_rule own),
          sym (ap (λ (q : EnabledRule). q.public) (one_rule g n p.0 r p.1 own)) ∙ p.3,
        )

    tighter_without : (r : EnabledRule) → Among g.rules r → r.parameters ≡ [] → (x : Closed) → Among (tighter_at r) x → (n : Text)
        → IsSymbolOfStart g x n → ⊥
    tighter_without r i plain x j n s =
        let u = among_map (λ (k : ℕ). Closed.call r.name Closeds.none (Some k)) (after_first (levels_in_order r)) x j in
        let t = at_loosest r i plain (Some u.0) n (subst (λ (y : Closed). IsSymbolOfStart g y n) (sym u.2) s) in
        let below : u.0 < u.0 = below_loosest r u.0 u.0 (sym t.0) u.1 in
        omega (arith, below)

    listed_rules : (rs : List EnabledRule) → ((r : EnabledRule) → Among rs r → Among g.rules r)
        → AreStartsOf g (keys_of rs) (names_of rs)
    listed_rules [] part = refl
    listed_rules (r ∷ rs) part =
        go (part r (inl refl)) r.parameters refl r.public refl (listed_rules rs (λ q i. part q (inr i)))
      where
        go : Among g.rules r → (ps : List Text) → r.parameters ≡ ps → (b : Bool) → r.public ≡ b
            → AreStartsOf g (keys_of rs) (names_of rs)
            → AreStartsOf g (unless_macro ps (rule_at_levels r) ++ keys_of rs)
            (map (λ (q : EnabledRule). q.name) (cond (b && has_none ps) (r ∷ filter is_started rs) (filter is_started rs)))
        go i (p ∷ ps) e true f later = later
        go i (p ∷ ps) e false f later = later
        go i [] e true f later = inl (
          r.name,
          names_of rs,
          refl,
          record { started = start_there r i e f; rule = r; is_rule = single r i e; symbol_is = refl },
          starts_joined (tighter_at r) (keys_of rs) [] (names_of rs) (no_starts (tighter_at r) (tighter_without r i e)) later,
        )
        go i [] e false f later = inr (
          (λ n s. true≢false (sym (at_loosest r i e (loosest r) n s).1 ∙ f)),
          starts_joined (tighter_at r) (keys_of rs) [] (names_of rs) (no_starts (tighter_at r) (tighter_without r i e)) later,
        )

    -- the keys of the grammar have these starts
    pub listed_starts : (others : List Closed) → AreKeysByUse g others → AreStartsOf g (written_keys g ++ others) (started_names g)
    listed_starts others w =
        subst (AreStartsOf g (written_keys g ++ others)) (append-nil (started_names g))
        (starts_joined (written_keys g) others (started_names g) [] (listed_rules g.rules (λ r i. i))
        (no_starts others (λ x i n s. new_behind (KeyUses g) (written_keys g) others w.follow x i (started_key x n s))))
