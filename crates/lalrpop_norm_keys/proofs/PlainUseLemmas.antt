-- Grammars that differ by origins alone have the same keys and calls in order of first use; for the law of tables.
use Rattle.std.proofs.Common.{◌≡◌, ℕ, List, [], ◌∷◌, ◌++◌, refl, ap, sym, ◌∙◌, subst, inl, inr, map, length}
use Rattle.std.specs.Prelude.{Option, Some, None, flat_map}
use Rattle.lalrpop_grammar_symbols.specs.Symbols.{Text, Closed, Closeds, closed_list}
use Rattle.lalrpop_grammar_language.specs.Among.{Among}
use Rattle.lalrpop_grammar_language.specs.Enabled.{EnabledGrammar, EnabledRule, Choice, IsRule}
use Rattle.lalrpop_grammar_language.specs.Levels.{Rank, loosest, ranked_choices}
use Rattle.lalrpop_grammar_language.specs.Admitting.{Fits, bind}
use Rattle.lalrpop_grammar_language.proofs.AmongLemmas.{map_among}
use Rattle.lalrpop_norm_theory.specs.KeyTables.{keys_in}
use Rattle.lalrpop_norm_theory.specs.LevelNames.{after_first}
use Rattle.lalrpop_norm_theory.specs.LeveledGrammar.{falling_levels}
use Rattle.lalrpop_norm_theory.specs.FirstUse.{AreInOrderOfUse}
use Rattle.lalrpop_norm_theory.specs.UsedKeys.{CallUses, ChoiceUses, ChoicesUse, IsListByUse, KeyUses, call_at_level}
use Rattle.lalrpop_norm_theory.specs.UsedKeys.{rule_at_levels, tighter_at, tighter_call, unless_macro, written_keys}
use Rattle.lalrpop_norm_theory.proofs.RuleChangeLemmas.{holds_with}
use Rattle.lalrpop_norm_theory.proofs.UseChangeLemmas.{order_on}
use Rattle.lalrpop_norm_theory.proofs.UsedKeyLemmas.{key_uses_one}
use Rattle.lalrpop_norm_theory.proofs.UsedListLemmas.{key-uses, uses_of}
use Rattle.lalrpop_norm_keys.specs.UseSearch.{AreCallsByUse, UsesCalls}
use Rattle.lalrpop_norm_keys.proofs.OriginLemmas.{levels_plain, loosest_plain, plain_grammar, plain_pair, plain_rule, plain_was}
use Rattle.lalrpop_norm_keys.proofs.OriginLemmas.{ranked_plain, rule_plain, same_levels, side_plain, tighter_plain}

-- what a key uses without origins, it uses with them

fits_was : (g : EnabledGrammar) (n : Text) (args : Closeds) (r : EnabledRule) (c : Choice × Option Rank) → IsRule g n r
    → Among (ranked_choices r) c → Fits (plain_grammar g) n args (plain_rule r) (plain_pair c) → Fits g n args r c
fits_was g n args r c i m w = record {
  rule = i;
  arguments = w.arguments;
  written = m;
  leveled = w.leveled ∙ levels_plain r;
  holds = holds_with (plain_grammar g) g refl (bind r args) c.0.condition w.holds;
}

fits_plain : (g : EnabledGrammar) (n : Text) (args : Closeds) (r : EnabledRule) (c : Choice × Option Rank) → Fits g n args r c
    → Fits (plain_grammar g) n args (plain_rule r) (plain_pair c)
fits_plain g n args r c w = record {
  rule = rule_plain g n r w.rule;
  arguments = w.arguments;
  written = subst (λ ps. Among ps (plain_pair c)) (sym (ranked_plain r)) (map_among plain_pair (ranked_choices r) c w.written);
  leveled = w.leveled ∙ sym (levels_plain r);
  holds = holds_with g (plain_grammar g) refl (bind r args) c.0.condition w.holds;
}

choice_was : (g : EnabledGrammar) (n : Text) (args : Closeds) (level : Option ℕ) (r : EnabledRule) → IsRule g n r
    → (c : Choice × Option Rank) → Among (ranked_choices r) c → (us : List Closed)
    → ChoiceUses (plain_grammar g) n args level (plain_rule r) (plain_pair c) us → ChoiceUses g n args level r c us
choice_was g n args level r i c m us (inl (chosen, e)) =
    inl ((fits_was g n args r c i m chosen.0, chosen.1), e ∙ ap (flat_map keys_in) (sym (side_plain g r (bind r args) c)))
choice_was g n args level r i c m us (inr (none, e)) =
    inr (λ chosen. none (fits_plain g n args r c chosen.0, chosen.1), e)

choices_was : (g : EnabledGrammar) (n : Text) (args : Closeds) (level : Option ℕ) (r : EnabledRule) → IsRule g n r
    → (cs : List (Choice × Option Rank)) → ((c : Choice × Option Rank) → Among cs c → Among (ranked_choices r) c)
    → (us : List Closed) → ChoicesUse (plain_grammar g) n args level (plain_rule r) (map plain_pair cs) us
    → ChoicesUse g n args level r cs us
choices_was g n args level r i [] all us e = e
choices_was g n args level r i (c ∷ cs) all us (m, rest, e, u, v) = (
  m,
  rest,
  e,
  choice_was g n args level r i c (all c (inl refl)) m u,
  choices_was g n args level r i cs (λ d j. all d (inr j)) rest v,
)

down_was : (r : EnabledRule) (n : Text) (args : Closeds) (level : Option ℕ)
    → tighter_call (plain_rule r) n args level ≡ tighter_call r n args level
down_was r n args None = refl
down_was r n args (Some j) = ap (call_at_level n args) (tighter_plain r j)

rule_was : (g : EnabledGrammar) (n : Text) (args : Closeds) (level : Option ℕ) (us mine : List Closed) (r q : EnabledRule)
    → IsRule g n r → plain_rule r ≡ q → length (closed_list args) ≡ length q.parameters
    → ChoicesUse (plain_grammar g) n args level q (ranked_choices q) mine → us ≡ mine ++ tighter_call q n args level
    → CallUses g n args level us
rule_was g n args level us mine r q i same many v e =
    CallUses.of_rule r mine
    (record { is_rule = i; arguments = subst (λ (p : EnabledRule). length (closed_list args) ≡ length p.parameters) (sym same) many })
    (choices_was g n args level r i (ranked_choices r) (λ c j. j) mine
    (subst (λ cs. ChoicesUse (plain_grammar g) n args level (plain_rule r) cs mine) (ranked_plain r)
    (subst (λ p. ChoicesUse (plain_grammar g) n args level p (ranked_choices p) mine) (sym same) v)))
    (e ∙ ap (λ p. mine ++ tighter_call p n args level) (sym same) ∙ ap (λ l. mine ++ l) (down_was r n args level))

call_was : (g : EnabledGrammar) (n : Text) (args : Closeds) (level : Option ℕ) (us : List Closed)
    → CallUses (plain_grammar g) n args level us → CallUses g n args level us
call_was g n args level us (CallUses.of_none none e) =
    CallUses.of_none (λ r c. none (plain_rule r) (record { is_rule = rule_plain g n r c.is_rule; arguments = c.arguments })) e
call_was g n args level us (CallUses.of_rule q mine c v e) =
    let b = plain_was g n q c.is_rule in rule_was g n args level us mine b.0 q b.1 b.2 c.arguments v e

uses_was : (g : EnabledGrammar) (y : Closed) (us : List Closed) → KeyUses (plain_grammar g) y us → KeyUses g y us
uses_was g (Closed.call n args level) us u = call_was g n args level us u
uses_was g (Closed.terminal t) us u = u
uses_was g (Closed.repeat op x) us u = u
uses_was g (Closed.group xs) us u = u
uses_was g (Closed.choose x) us u = u
uses_was g (Closed.name m n x) us u = u
uses_was g Closed.lookahead us u = u
uses_was g Closed.lookbehind us u = u
uses_was g Closed.faulty us u = u

-- so it uses the same
uses_plain : (g : EnabledGrammar) (y : Closed) (us : List Closed) → KeyUses g y us → KeyUses (plain_grammar g) y us
uses_plain g y us u =
    subst (KeyUses (plain_grammar g) y)
    (key_uses_one g y (uses_of (plain_grammar g) y) us (uses_was g y (uses_of (plain_grammar g) y) (key-uses (plain_grammar g) y)) u)
    (key-uses (plain_grammar g) y)

-- rules that are no macros stand there alike

tighter_alike : (r : EnabledRule) → tighter_at (plain_rule r) ≡ tighter_at r
tighter_alike r =
    ap (λ ls. map (λ j. Closed.call r.name Closeds.none (Some j)) (after_first (falling_levels ls))) (same_levels r)

levels_alike : (r : EnabledRule) → rule_at_levels (plain_rule r) ≡ rule_at_levels r
levels_alike r =
    ap (λ l. Closed.call r.name Closeds.none l ∷ tighter_at (plain_rule r)) (loosest_plain r)
    ∙ ap (λ l. Closed.call r.name Closeds.none (loosest r) ∷ l) (tighter_alike r)

written_from : (rs : List EnabledRule) → flat_map (λ r. unless_macro r.parameters (rule_at_levels r)) (map plain_rule rs)
    ≡ flat_map (λ r. unless_macro r.parameters (rule_at_levels r)) rs
written_from [] = refl
written_from (r ∷ rs) =
    ap (λ l. unless_macro r.parameters l ++ flat_map (λ q. unless_macro q.parameters (rule_at_levels q)) (map plain_rule rs))
    (levels_alike r)
    ∙ ap (λ l. unless_macro r.parameters (rule_at_levels r) ++ l) (written_from rs)

-- What two grammars share that become one without origins.
module _ (g h : EnabledGrammar) (alike : plain_grammar g ≡ plain_grammar h) where
  uses_alike : (y : Closed) (us : List Closed) → KeyUses g y us → KeyUses h y us
  uses_alike y us u = uses_was h y us (subst (λ k. KeyUses k y us) alike (uses_plain g y us u))

  written_alike : written_keys g ≡ written_keys h
  written_alike = sym (written_from g.rules) ∙ ap written_keys alike ∙ written_from h.rules

  -- keys in order of first use
  pub list_alike : (keys : List Closed) → IsListByUse g keys → IsListByUse h keys
  list_alike keys (others, e, w) = (
    others,
    e ∙ ap (λ l. l ++ others) written_alike,
    subst (λ l. AreInOrderOfUse (KeyUses h) l others) written_alike
        (order_on (KeyUses g) (KeyUses h) uses_alike (written_keys g) others w),
  )

  calls_used_alike : (y : Closed) (us : List Closed) → UsesCalls g y us → UsesCalls h y us
  calls_used_alike y us (keys, u, e) = (keys, uses_alike y keys u, e)

  -- and calls
  pub call_order_alike : (calls : List Closed) → AreCallsByUse g calls → AreCallsByUse h calls
  call_order_alike calls w =
      subst (λ l. AreInOrderOfUse (UsesCalls h) l calls) written_alike
      (order_on (UsesCalls g) (UsesCalls h) calls_used_alike (written_keys g) calls w)
