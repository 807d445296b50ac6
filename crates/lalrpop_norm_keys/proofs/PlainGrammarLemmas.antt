-- What grammars have in common that differ by origins alone: productions but for the origin, calls, keys and roots; and that what
-- a table of rules is of is such a grammar.
use Rattle.std.proofs.Common.{◌≡◌, ℕ, zero, suc, ◌+◌, List, [], ◌∷◌, refl, ap, sym, ◌∙◌, subst, cond, inl, inr}
use Rattle.std.proofs.Common.{◌⊎◌, map}
use Rattle.std.specs.Prelude.{Bool, true, false, Option, Some, None, filter, length}
use Rattle.lalrpop_grammar_symbols.specs.Symbols.{Text, Op, Closed, Closeds}
use Rattle.lalrpop_grammar.specs.WrittenGrammar.{Alternative, Grammar, Origin, Rule, rules_of}
use Rattle.lalrpop_grammar_language.specs.Among.{Among}
use Rattle.lalrpop_grammar_language.specs.Enabled.{EnabledGrammar, EnabledRule, Choice, IsRule, at_places, choice_of, enabled_grammar}
use Rattle.lalrpop_grammar_language.specs.Enabled.{enabled_rule, is_active}
use Rattle.lalrpop_grammar_language.specs.Levels.{Rank, ranked_choices, tighter}
use Rattle.lalrpop_grammar_language.specs.Closing.{right_side}
use Rattle.lalrpop_grammar_language.specs.Admitting.{Fits, bind, rank_level, argument_list}
use Rattle.lalrpop_grammar_language.specs.Expansion.{Nonterminal, RightSide, ByAlternative, ByPassDown, Produces, HasLevel, IsRoot}
use Rattle.lalrpop_grammar_language.specs.Expansion.{grammar_symbol, origin_with}
use Rattle.lalrpop_grammar_language.proofs.PlaceLemmas.{among_map}
use Rattle.lalrpop_norm_theory.specs.Between.{grammar_between, rule_between, with_origins}
use Rattle.lalrpop_norm_theory.specs.Depth.{CallOccursIn, HasCallChain, IsTooDeep}
use Rattle.lalrpop_norm_theory.specs.Rounds.{AreCallsToDepth}
use Rattle.lalrpop_grammar_language.proofs.AmongLemmas.{map_among}
use Rattle.lalrpop_norm_theory.specs.KeyTables.{IsKeyTable, IsMetKey, IsPlainKey, KeyStandsIn}
use Rattle.lalrpop_norm_keys.specs.TableLaws.{HasAllActive}
use Rattle.lalrpop_norm_keys.proofs.OriginLemmas.{plain_choice, plain_rule, plain_pair, plain_grammar, levels_plain, ranked_plain}
use Rattle.lalrpop_norm_keys.proofs.OriginLemmas.{rule_plain, plain_was, side_plain, tighter_plain, same_levels}
use Rattle.lalrpop_norm_theory.proofs.RuleChangeLemmas.{holds_with}

-- productions but for the origin
abbrev pub ProducesSome : EnabledGrammar → Closed → RightSide → Type 0
ProducesSome g y side = (o : Origin) × Produces g (Nonterminal.closed y) o side

alternative_plain : (g : EnabledGrammar) (n : Text) (args : Closeds) (level : Option ℕ) (o : Origin) (side : RightSide)
    → ByAlternative g n args level o side → ProducesSome (plain_grammar g) (Closed.call n args level) side
alternative_plain g n args level o side b = (
  origin_with (argument_list (λ n. n) args) Origin.start,
  inl (record {
    rule = plain_rule b.rule;
    choice = plain_pair b.choice;
    fits = record {
      rule = rule_plain g n b.rule b.fits.rule;
      arguments = b.fits.arguments;
      written = subst (λ ps. Among ps (plain_pair b.choice)) (sym (ranked_plain b.rule))
          (map_among plain_pair (ranked_choices b.rule) b.choice b.fits.written);
      leveled = b.fits.leveled ∙ sym (levels_plain b.rule);
      holds = holds_with g (plain_grammar g) refl (bind b.rule args) b.choice.0.condition b.fits.holds;
    };
    level_is = b.level_is;
    origin_is = refl;
    side_is = b.side_is ∙ ap (map grammar_symbol) (side_plain g b.rule (bind b.rule args) b.choice);
  }),
)

alternative_was : (g : EnabledGrammar) (n : Text) (args : Closeds) (level : Option ℕ) (o : Origin) (side : RightSide)
    → ByAlternative (plain_grammar g) n args level o side → ProducesSome g (Closed.call n args level) side
alternative_was g n args level o side b = let m = plain_was g n b.rule b.fits.rule in of_rule m.0 m.1 m.2
  where
    of_choice : (r : EnabledRule) → IsRule g n r → plain_rule r ≡ b.rule → (p : Choice × Option Rank) →
        Among (ranked_choices r) p → plain_pair p ≡ b.choice → ProducesSome g (Closed.call n args level) side
    of_choice r i e p m c =
        let fits : Fits (plain_grammar g) n args (plain_rule r) (plain_pair p) =
        subst (λ q. Fits (plain_grammar g) n args (plain_rule r) q) (sym c)
        (subst (λ q. Fits (plain_grammar g) n args q b.choice) (sym e) b.fits) in (
          origin_with (argument_list g.spelled args) p.0.origin,
          inl (record {
            rule = r;
            choice = p;
            fits = record {
              rule = i;
              arguments = fits.arguments;
              written = m;
              leveled = fits.leveled ∙ levels_plain r;
              holds = holds_with (plain_grammar g) g refl (bind r args) p.0.condition fits.holds;
            };
            level_is = ap (λ (q : Choice × Option Rank). rank_level q.1) c ∙ b.level_is;
            origin_is = refl;
            side_is = b.side_is
                ∙ ap (λ (q : EnabledRule). map grammar_symbol (right_side (plain_grammar g) q (bind q args) b.choice)) (sym e)
                ∙ ap (λ (q : Choice × Option Rank). map grammar_symbol (right_side (plain_grammar g) (plain_rule r)
                (bind r args) q)) (sym c)
                ∙ ap (map grammar_symbol) (sym (side_plain g r (bind r args) p));
          }),
        )

    of_rule : (r : EnabledRule) → IsRule g n r → plain_rule r ≡ b.rule → ProducesSome g (Closed.call n args level) side
    of_rule r i e =
        let c = among_map plain_pair (ranked_choices r) b.choice
        (subst (λ ps. Among ps b.choice) (ranked_plain r)
        (subst (λ q. Among (ranked_choices q) b.choice) (sym e) b.fits.written)) in
        of_choice r i e c.0 c.1 c.2

pass_down_plain : (g : EnabledGrammar) (n : Text) (args : Closeds) (level : Option ℕ) (o : Origin) (side : RightSide)
    → ByPassDown g n args level o side → ProducesSome (plain_grammar g) (Closed.call n args level) side
pass_down_plain g n args level o side b = (
  o,
  inr (record {
    rule = plain_rule b.rule;
    is_rule = rule_plain g n b.rule b.is_rule;
    arguments = b.arguments;
    from = b.from;
    to = b.to;
    from_is = b.from_is;
    to_is = tighter_plain b.rule b.from ∙ b.to_is;
    origin_is = b.origin_is;
    side_is = b.side_is;
  }),
)

pass_down_was : (g : EnabledGrammar) (n : Text) (args : Closeds) (level : Option ℕ) (o : Origin) (side : RightSide)
    → ByPassDown (plain_grammar g) n args level o side → ProducesSome g (Closed.call n args level) side
pass_down_was g n args level o side b =
    let m = plain_was g n b.rule b.is_rule in (
      o,
      inr (record {
        rule = m.0;
        is_rule = m.1;
        arguments = b.arguments ∙ ap (λ (q : EnabledRule). length q.parameters) (sym m.2);
        from = b.from;
        to = b.to;
        from_is = b.from_is;
        to_is = sym (tighter_plain m.0 b.from) ∙ ap (λ (q : EnabledRule). tighter q b.from) m.2 ∙ b.to_is;
        origin_is = b.origin_is;
        side_is = b.side_is;
      }),
    )

-- what a closed nonterminal produces, it produces in the grammar without origins, maybe by another origin
pub produces_plain : (g : EnabledGrammar) (y : Closed) (o : Origin) (side : RightSide) → Produces g (Nonterminal.closed y) o side
    → ProducesSome (plain_grammar g) y side
produces_plain g (Closed.call n args level) o side (inl b) = alternative_plain g n args level o side b
produces_plain g (Closed.call n args level) o side (inr b) = pass_down_plain g n args level o side b
produces_plain g (Closed.repeat Op.plus x) o side m = (o, m)
produces_plain g (Closed.repeat Op.star x) o side m = (o, m)
produces_plain g (Closed.repeat Op.question x) o side m = (o, m)
produces_plain g (Closed.group xs) o side m = (o, m)
produces_plain g Closed.lookahead o side m = (o, m)
produces_plain g Closed.lookbehind o side m = (o, m)
produces_plain g (Closed.terminal t) o side m = absurd m
produces_plain g (Closed.choose x) o side m = absurd m
produces_plain g (Closed.name mutable n x) o side m = absurd m
produces_plain g Closed.faulty o side m = absurd m

-- what a closed nonterminal produces without origins, it produces with them, maybe by another origin
pub produces_was : (g : EnabledGrammar) (y : Closed) (o : Origin) (side : RightSide)
    → Produces (plain_grammar g) (Nonterminal.closed y) o side → ProducesSome g y side
produces_was g (Closed.call n args level) o side (inl b) = alternative_was g n args level o side b
produces_was g (Closed.call n args level) o side (inr b) = pass_down_was g n args level o side b
produces_was g (Closed.repeat Op.plus x) o side m = (o, m)
produces_was g (Closed.repeat Op.star x) o side m = (o, m)
produces_was g (Closed.repeat Op.question x) o side m = (o, m)
produces_was g (Closed.group xs) o side m = (o, m)
produces_was g Closed.lookahead o side m = (o, m)
produces_was g Closed.lookbehind o side m = (o, m)
produces_was g (Closed.terminal t) o side m = absurd m
produces_was g (Closed.choose x) o side m = absurd m
produces_was g (Closed.name mutable n x) o side m = absurd m
produces_was g Closed.faulty o side m = absurd m

root_plain : (g : EnabledGrammar) (y : Closed) → IsRoot g (Nonterminal.closed y) → IsRoot (plain_grammar g) (Nonterminal.closed y)
root_plain g y (inl (n, side, e, m)) = cc
root_plain g y (inr (r, level, i, p, l, e)) =
    inr (plain_rule r, level, rule_plain g r.name r i, p, level_plain level l, e)
  where
    level_plain : (k : Option ℕ) → HasLevel r k → HasLevel (plain_rule r) k
    level_plain None m = levels_plain r ∙ m
    level_plain (Some j) m = subst (λ ls. Among ls j) (sym (same_levels r)) m

root_was : (g : EnabledGrammar) (y : Closed) → IsRoot (plain_grammar g) (Nonterminal.closed y) → IsRoot g (Nonterminal.closed y)
root_was g y (inl (n, side, e, m)) = cc
root_was g y (inr (q, level, i, p, l, e)) =
    let b = plain_was g q.name q i in
    inr (
      b.0,
      level,
      subst (λ n. IsRule g n b.0) (sym (ap (λ (t : EnabledRule). t.name) b.2)) b.1,
      ap (λ (t : EnabledRule). t.parameters) b.2 ∙ p,
      level_was b.0 level (subst (λ t. HasLevel t level) (sym b.2) l),
      e ∙ ap (λ (t : EnabledRule). Nonterminal.closed (Closed.call t.name Closeds.none level)) (sym b.2),
    )
  where
    level_was : (r : EnabledRule) (k : Option ℕ) → HasLevel (plain_rule r) k → HasLevel r k
    level_was r None m = sym (levels_plain r) ∙ m
    level_was r (Some j) m = subst (λ ls. Among ls j) (same_levels r) m

-- What two grammars share that become one without origins.
module _ (g h : EnabledGrammar) (alike : plain_grammar g ≡ plain_grammar h) where
  produces_alike : (y : Closed) (o : Origin) (side : RightSide) → Produces g (Nonterminal.closed y) o side → ProducesSome h y side
  produces_alike y o side m =
      let p = produces_plain g y o side m in
      produces_was h y p.0 side (subst (λ k. Produces k (Nonterminal.closed y) p.0 side) alike p.1)

  pub occurs_alike : (y x : Closed) → CallOccursIn g y x → CallOccursIn h y x
  occurs_alike y x o =
      let p = produces_alike y o.origin o.side o.produced in
      record { origin = p.0; side = o.side; produced = p.1; symbol = o.symbol; in_side = o.in_side; call_is = o.call_is }

  pub stands_alike : (y z : Closed) → KeyStandsIn g y z → KeyStandsIn h y z
  stands_alike y z s =
      let p = produces_alike y s.origin s.side s.produced in
      record { origin = p.0; side = s.side; symbol = s.symbol; produced = p.1; in_side = s.in_side; stands = s.stands }

  pub root_alike : (y : Closed) → IsRoot g (Nonterminal.closed y) → IsRoot h (Nonterminal.closed y)
  root_alike y r = root_was h y (subst (λ k. IsRoot k (Nonterminal.closed y)) alike (root_plain g y r))

-- a chain of calls is one in each grammar that is the same but for origins and for how names are spelled
pub chain_alike : (g h : EnabledGrammar) → plain_grammar g ≡ plain_grammar h → (k : ℕ) (x : Closed) → HasCallChain g k x
    → HasCallChain h k x
chain_alike g h e zero x c = c
chain_alike g h e (suc zero) x (y, r, o) = (y, root_alike g h e y r, occurs_alike g h e y x o)
chain_alike g h e (suc (suc k)) x (y, c, o) = (y, chain_alike g h e (suc k) y c, occurs_alike g h e y x o)

-- rounds of calls are rounds of the other grammar
pub calls_alike : (g h : EnabledGrammar) → plain_grammar g ≡ plain_grammar h → (depth : ℕ) (walked next : List Closed)
    → AreCallsToDepth g depth walked next → AreCallsToDepth h depth walked next
calls_alike g h e depth walked next a = record {
  chains = λ x i. let c = a.chains x i in (c.0, c.1, chain_alike g h e c.0 x c.2);
  next_chains = λ x i. chain_alike g h e (suc depth) x (a.next_chains x i);
  fresh = a.fresh;
  complete = λ y x i o. a.complete y x (holder y i) (occurs_alike h g (sym e) y x o);
  shallow = λ k x le c. a.shallow k x le (chain_alike h g (sym e) k x c);
}
  where
    holder : (y : Closed) → IsRoot h (Nonterminal.closed y) ⊎ Among walked y → IsRoot g (Nonterminal.closed y) ⊎ Among walked y
    holder y (inl r) = inl (root_alike h g (sym e) y r)
    holder y (inr i) = inr i

-- a call that is too deep is so in each grammar that is the same but for origins and for how names are spelled
pub too_deep_alike : (g h : EnabledGrammar) → plain_grammar g ≡ plain_grammar h → (limit : ℕ) (x : Closed) → IsTooDeep g limit x
    → IsTooDeep h limit x
too_deep_alike g h e limit x t = record {
  steps = t.steps;
  chain = chain_alike g h e t.steps x t.chain;
  none_short = λ k le c. t.none_short k le (chain_alike h g (sym e) k x c);
}

-- a rule has one of its name in the other grammar, with the same parameters
rule_alike : (g h : EnabledGrammar) → plain_grammar g ≡ plain_grammar h → (n : Text) (r : EnabledRule) → IsRule g n r
    → (q : EnabledRule) × IsRule h n q × (q.parameters ≡ r.parameters)
rule_alike g h e n r i =
    let w = plain_was h n (plain_rule r) (subst (λ k. IsRule k n (plain_rule r)) e (rule_plain g n r i)) in
    (w.0, w.1, ap (λ (q : EnabledRule). q.parameters) w.2)

plain_key_alike : (g h : EnabledGrammar) → plain_grammar g ≡ plain_grammar h → (z : Closed) → IsPlainKey g z → IsPlainKey h z
plain_key_alike g h e z p =
    let w = rule_alike g h e p.name p.rule p.is_rule in
    record { name = p.name; rule = w.0; is_rule = w.1; no_macro = w.2 ∙ p.no_macro; key_is = p.key_is }

-- a table of keys is one of the other grammar
pub keys_alike : (g h : EnabledGrammar) → plain_grammar g ≡ plain_grammar h → (calls keys : List Closed) → IsKeyTable g calls keys
    → IsKeyTable h calls keys
keys_alike g h e calls keys t = record {
  plain = λ n r i ps. let w = rule_alike h g (sym e) n r i in t.plain n w.0 w.1 (w.2 ∙ ps);
  calls_too = t.calls_too;
  complete = λ y z w s. t.complete y z (before y w) (stands_alike h g (sym e) y z s);
  no_other = λ z i. kinds z (t.no_other z i);
}
  where
    before : (y : Closed) → IsRoot h (Nonterminal.closed y) ⊎ Among calls y → IsRoot g (Nonterminal.closed y) ⊎ Among calls y
    before y (inl r) = inl (root_alike h g (sym e) y r)
    before y (inr i) = inr i

    after : (y : Closed) → IsRoot g (Nonterminal.closed y) ⊎ Among calls y → IsRoot h (Nonterminal.closed y) ⊎ Among calls y
    after y (inl r) = inl (root_alike g h e y r)
    after y (inr i) = inr i

    met : (z : Closed) → IsMetKey g calls z → IsMetKey h calls z
    met z m = record {
      no_call = m.no_call;
      holder = m.holder;
      walked = after m.holder m.walked;
      stands = stands_alike g h e m.holder z m.stands;
    }

    kinds : (z : Closed) → IsPlainKey g z ⊎ (Among calls z ⊎ IsMetKey g calls z)
        → IsPlainKey h z ⊎ (Among calls z ⊎ IsMetKey h calls z)
    kinds z (inl p) = inl (plain_key_alike g h e z p)
    kinds z (inr (inl i)) = inr (inl i)
    kinds z (inr (inr m)) = inr (inr (met z m))

-- the grammar that a table of rules is of, where nothing is disabled

choices_alike : (features : List Text) (n : Text) (k : ℕ) (as_ : List Alternative)
    → ((a : Alternative) → Among as_ a → is_active features a.attributes ≡ true)
    → map plain_choice (map choice_of (filter (λ p. is_active features p.1.attributes) (at_places n k as_)))
    ≡ map plain_choice (map choice_of (with_origins as_))
choices_alike features n k [] w = refl
choices_alike features n k (a ∷ as_) w =
    go (is_active features a.attributes) (w a (inl refl)) (choices_alike features n (k + 1) as_ (λ b i. w b (inr i)))
  where
    go : (c : Bool) → c ≡ true
        → map plain_choice (map choice_of (filter (λ p. is_active features p.1.attributes) (at_places n (k + 1) as_)))
        ≡ map plain_choice (map choice_of (with_origins as_))
        → map plain_choice (map choice_of (cond c ((Origin.alternative n [] k, a)
        ∷ filter (λ p. is_active features p.1.attributes) (at_places n (k + 1) as_))
        (filter (λ p. is_active features p.1.attributes) (at_places n (k + 1) as_))))
        ≡ map plain_choice (map choice_of (with_origins (a ∷ as_)))
    go true h e = ap (λ l. plain_choice (choice_of (Origin.start, a)) ∷ l) e
    go false h e = cc

rules_alike : (features : List Text) (rs : List Rule) → HasAllActive features rs
    → map plain_rule (map (enabled_rule features) (filter (λ r. is_active features r.attributes) rs))
    ≡ map plain_rule (map rule_between rs)
rules_alike features [] w = refl
rules_alike features (r ∷ rs) w =
    go (is_active features r.attributes) (w r (inl refl)).rule (rules_alike features rs (λ q i. w q (inr i)))
  where
    one : plain_rule (enabled_rule features r) ≡ plain_rule (rule_between r)
    one =
        ap (λ cs. record (plain_rule (rule_between r)) { choices = cs })
        (choices_alike features r.name 0 r.alternatives (w r (inl refl)).alternatives)

    go : (c : Bool) → c ≡ true
        → map plain_rule (map (enabled_rule features) (filter (λ q. is_active features q.attributes) rs))
        ≡ map plain_rule (map rule_between rs)
        → map plain_rule (map (enabled_rule features) (cond c (r ∷ filter (λ q. is_active features q.attributes) rs)
        (filter (λ q. is_active features q.attributes) rs)))
        ≡ map plain_rule (map rule_between (r ∷ rs))
    go true h e = ap (λ q. q ∷ map plain_rule (map (enabled_rule features) (filter (λ z. is_active features z.attributes) rs))) one
        ∙ ap (λ l. plain_rule (rule_between r) ∷ l) e
    go false h e = cc

-- it differs from the grammar between two passes by origins alone
pub table_alike : (finds : Text → Text → Option Bool) (features : List Text) (w : Grammar) → HasAllActive features (rules_of w.items)
    → plain_grammar (enabled_grammar finds features w) ≡ plain_grammar (grammar_between finds w)
table_alike finds features w a =
    ap (λ rs. record (plain_grammar (grammar_between finds w)) { rules = rs }) (rules_alike features (rules_of w.items) a)
