-- Grammars whose rules differ by declared types, symbols and attributes alone have the same keys in order of first use, and the same
-- names that are given in it; for dropping and resolving.
use Rattle.std.proofs.Common.{◌≡◌, ℕ, List, [], ◌∷◌, ◌++◌, refl, ap, sym, ◌∙◌, subst, inl, inr, map, length}
use Rattle.std.specs.Prelude.{Option, Some, None, flat_map}
use Rattle.lalrpop_grammar_symbols.specs.Symbols.{Text, Closed, Closeds, closed_list}
use Rattle.lalrpop_grammar_language.specs.Among.{Among}
use Rattle.lalrpop_grammar_language.specs.Enabled.{EnabledGrammar, EnabledRule, Choice, IsRule}
use Rattle.lalrpop_grammar_language.specs.Levels.{Rank, ranked_choices, loosest}
use Rattle.lalrpop_grammar_language.specs.Expansion.{Nonterminal}
use Rattle.lalrpop_norm_theory.specs.Keys.{leveled_key_text}
use Rattle.lalrpop_norm_theory.specs.KeyTables.{keys_in}
use Rattle.lalrpop_norm_theory.specs.LevelNames.{after_first}
use Rattle.lalrpop_norm_theory.specs.LeveledGrammar.{falling_levels}
use Rattle.lalrpop_norm_theory.specs.FirstUse.{AreInOrderOfUse, AreUsesOf, FollowByUse}
use Rattle.lalrpop_norm_theory.specs.UsedKeys.{AreKeysByUse, CallUses, ChoiceUses, ChoicesUse, IsListByUse, KeyUses}
use Rattle.lalrpop_norm_theory.specs.UsedKeys.{call_at_level, rule_at_levels, tighter_at, tighter_call, unless_macro, written_keys}
use Rattle.lalrpop_norm_theory.specs.NamesByUse.{AreNumberedByUse, IsNamingByUse, own_texts, texts_of_rules, tighter_keys}
use Rattle.lalrpop_norm_theory.proofs.NamesByUseLemmas.{name_of_key}
use Rattle.lalrpop_norm_theory.proofs.NamingChangeLemmas.{changed_naming, key_text_kept}
use Rattle.lalrpop_norm_theory.proofs.RuleChangeLemmas.{HasChangedRules, KeepsSides, RuleChange, changed_pair, changed_rule}
use Rattle.lalrpop_norm_theory.proofs.RuleChangeLemmas.{fits_after, fits_before, loosest_kept, ranked_kept, rule_after, rule_before}
use Rattle.lalrpop_norm_theory.proofs.RuleChangeLemmas.{same_levels, tighter_kept}

-- an order goes on to another relation, where what is used by the one is used by the other
module _ {A : Type 0} (Uses Other : A → List A → Type 0) (goes : (y : A) (us : List A) → Uses y us → Other y us) where
  pub uses_on : (ys us : List A) → AreUsesOf Uses ys us → AreUsesOf Other ys us
  uses_on [] us e = e
  uses_on (y ∷ ys) us (m, r, e, u, w) = (m, r, e, goes y m u, uses_on ys r w)

  follow_on : (known xs : List A) → FollowByUse Uses known xs → FollowByUse Other known xs
  follow_on known [] f = tt
  follow_on known (x ∷ xs) ((us, u, n), f) = ((us, uses_on known us u, n), follow_on (known ++ x ∷ []) xs f)

  pub order_on : (firsts others : List A) → AreInOrderOfUse Uses firsts others → AreInOrderOfUse Other firsts others
  order_on firsts others w = record {
    follow = follow_on firsts others w.follow;
    no_more = (w.no_more.0, uses_on (firsts ++ others) w.no_more.0 w.no_more.1, w.no_more.2);
  }

-- lists that are gathered alike
gather_alike : {A B : Type 0} (f g : A → List B) (to : A → A) → ((x : A) → f (to x) ≡ g x) → (xs : List A)
    → flat_map f (map to xs) ≡ flat_map g xs
gather_alike f g to e [] = refl
gather_alike f g to e (x ∷ xs) =
    ap (λ l. l ++ flat_map f (map to xs)) (e x) ∙ ap (λ l. g x ++ l) (gather_alike f g to e xs)

module _ (w : RuleChange) (g h : EnabledGrammar) (k : HasChangedRules w g h) (s : KeepsSides w g h) where
  -- what a key uses

  choice_before : (n : Text) (args : Closeds) (level : Option ℕ) (r : EnabledRule) → IsRule g n r → (c : Choice × Option Rank)
      → Among (ranked_choices r) c → (us : List Closed) → ChoiceUses h n args level (changed_rule w r) (changed_pair w r c) us
      → ChoiceUses g n args level r c us
  choice_before n args level r i c m us (inl (chosen, e)) =
      inl ((fits_before w g h k n args r c i m chosen.0, chosen.1), e ∙ ap (flat_map keys_in) (s n r i args c))
  choice_before n args level r i c m us (inr (none, e)) =
      inr (λ chosen. none (fits_after w g h k n args r c chosen.0, chosen.1), e)

  choices_before : (n : Text) (args : Closeds) (level : Option ℕ) (r : EnabledRule) → IsRule g n r
      → (cs : List (Choice × Option Rank)) → ((c : Choice × Option Rank) → Among cs c → Among (ranked_choices r) c)
      → (us : List Closed) → ChoicesUse h n args level (changed_rule w r) (map (changed_pair w r) cs) us
      → ChoicesUse g n args level r cs us
  choices_before n args level r i [] all us e = e
  choices_before n args level r i (c ∷ cs) all us (m, rest, e, u, v) = (
    m,
    rest,
    e,
    choice_before n args level r i c (all c (inl refl)) m u,
    choices_before n args level r i cs (λ d j. all d (inr j)) rest v,
  )

  down_before : (r : EnabledRule) (n : Text) (args : Closeds) (level : Option ℕ)
      → tighter_call (changed_rule w r) n args level ≡ tighter_call r n args level
  down_before r n args None = refl
  down_before r n args (Some j) = ap (call_at_level n args) (tighter_kept w k.ranks r j)

  of_rule : (n : Text) (args : Closeds) (level : Option ℕ) (us mine : List Closed) (r q : EnabledRule) → IsRule g n r
      → changed_rule w r ≡ q → length (closed_list args) ≡ length q.parameters
      → ChoicesUse h n args level q (ranked_choices q) mine → us ≡ mine ++ tighter_call q n args level
      → CallUses g n args level us
  of_rule n args level us mine r q i same many v e =
      CallUses.of_rule r mine
      (record { is_rule = i; arguments = subst (λ (p : EnabledRule). length (closed_list args) ≡ length p.parameters) (sym same) many })
      (choices_before n args level r i (ranked_choices r) (λ c j. j) mine
      (subst (λ cs. ChoicesUse h n args level (changed_rule w r) cs mine) (ranked_kept w k.ranks r)
      (subst (λ p. ChoicesUse h n args level p (ranked_choices p) mine) (sym same) v)))
      (e ∙ ap (λ p. mine ++ tighter_call p n args level) (sym same) ∙ ap (λ l. mine ++ l) (down_before r n args level))

  call_before : (n : Text) (args : Closeds) (level : Option ℕ) (us : List Closed) → CallUses h n args level us
      → CallUses g n args level us
  call_before n args level us (CallUses.of_none none e) =
      CallUses.of_none (λ r c. none (changed_rule w r) (record {
        is_rule = rule_after w g h k n r c.is_rule;
        arguments = c.arguments;
      })) e
  call_before n args level us (CallUses.of_rule q mine c v e) =
      let b = rule_before w g h k n q c.is_rule in of_rule n args level us mine b.0 q b.1 b.2 c.arguments v e

  pub uses_before : (y : Closed) (us : List Closed) → KeyUses h y us → KeyUses g y us
  uses_before (Closed.call n args level) us u = call_before n args level us u
  uses_before (Closed.terminal t) us u = u
  uses_before (Closed.repeat op x) us u = u
  uses_before (Closed.group xs) us u = u
  uses_before (Closed.choose x) us u = u
  uses_before (Closed.name m n x) us u = u
  uses_before Closed.lookahead us u = u
  uses_before Closed.lookbehind us u = u
  uses_before Closed.faulty us u = u

  -- written rules

  tighter_before : (r : EnabledRule) → tighter_at (changed_rule w r) ≡ tighter_at r
  tighter_before r =
      ap (λ ls. map (λ j. Closed.call r.name Closeds.none (Some j)) (after_first (falling_levels ls))) (same_levels w k.ranks r)

  levels_before : (r : EnabledRule) → rule_at_levels (changed_rule w r) ≡ rule_at_levels r
  levels_before r =
      ap (λ l. Closed.call r.name Closeds.none l ∷ tighter_at (changed_rule w r)) (loosest_kept w k.ranks r)
      ∙ ap (λ l. Closed.call r.name Closeds.none (loosest r) ∷ l) (tighter_before r)

  written_before : written_keys h ≡ written_keys g
  written_before =
      ap (flat_map (λ r. unless_macro r.parameters (rule_at_levels r))) k.rules
      ∙ gather_alike (λ r. unless_macro r.parameters (rule_at_levels r)) (λ r. unless_macro r.parameters (rule_at_levels r))
      (changed_rule w) (λ r. ap (unless_macro r.parameters) (levels_before r)) g.rules

  -- keys in order of first use are so in the other grammar
  pub order_before : (others : List Closed) → AreKeysByUse h others → AreKeysByUse g others
  order_before others v =
      subst (λ l. AreInOrderOfUse (KeyUses g) l others) written_before
      (order_on (KeyUses h) (KeyUses g) uses_before (written_keys h) others v)

  -- and so they are with the rules in front
  pub list_before : (keys : List Closed) → IsListByUse h keys → IsListByUse g keys
  list_before keys (others, e, v) = (others, e ∙ ap (λ l. l ++ others) written_before, order_before others v)

  -- names

  texts_before : leveled_key_text h ≡ leveled_key_text g
  texts_before = λ i x. key_text_kept w g h k x i

  tighter_keys_before : tighter_keys h ≡ tighter_keys g
  tighter_keys_before =
      ap (flat_map (λ r. unless_macro r.parameters (tighter_at r))) k.rules
      ∙ gather_alike (λ r. unless_macro r.parameters (tighter_at r)) (λ r. unless_macro r.parameters (tighter_at r))
      (changed_rule w) (λ r. ap (unless_macro r.parameters) (tighter_before r)) g.rules

  names_of : (rs : List EnabledRule) → map (λ r. r.name) (map (changed_rule w) rs) ≡ map (λ r. r.name) rs
  names_of [] = refl
  names_of (r ∷ rs) = ap (λ l. r.name ∷ l) (names_of rs)

  names_before : map (λ r. r.name) h.rules ≡ map (λ r. r.name) g.rules
  names_before = ap (map (λ r. r.name)) k.rules ∙ names_of g.rules

  rule_texts_before : texts_of_rules (leveled_key_text h) h ≡ texts_of_rules (leveled_key_text g) g
  rule_texts_before =
      ap (λ t. texts_of_rules t h) texts_before
      ∙ ap (flat_map (λ r. own_texts r.parameters r.name (map (leveled_key_text g) (rule_at_levels r)))) k.rules
      ∙ gather_alike (λ r. own_texts r.parameters r.name (map (leveled_key_text g) (rule_at_levels r)))
      (λ r. own_texts r.parameters r.name (map (leveled_key_text g) (rule_at_levels r))) (changed_rule w)
      (λ r. ap (λ l. own_texts r.parameters r.name (map (leveled_key_text g) l)) (levels_before r)) g.rules

  -- names that are given by use are so in the other grammar
  pub naming_before : (prefix : Text) (name_of : Nonterminal → Text) → IsNamingByUse (leveled_key_text h) prefix h name_of
      → IsNamingByUse (leveled_key_text g) prefix g name_of
  naming_before prefix name_of v = record {
    naming = changed_naming w g h k s prefix name_of v.naming;
    levels = subst (λ t. AreNumberedByUse t (name_of_key name_of) (map (λ r. r.name) g.rules) (tighter_keys g)) texts_before
        (subst (λ l. AreNumberedByUse (leveled_key_text h) (name_of_key name_of) l (tighter_keys g)) names_before
        (subst (AreNumberedByUse (leveled_key_text h) (name_of_key name_of) (map (λ r. r.name) h.rules)) tighter_keys_before v.levels));
    others = v.others;
    in_order = order_before v.others v.in_order;
    numbered = subst (λ l. AreNumberedByUse (leveled_key_text g) (name_of_key name_of) l v.others) rule_texts_before
        (subst (λ t. AreNumberedByUse t (name_of_key name_of) (texts_of_rules (leveled_key_text h) h) v.others) texts_before v.numbered);
  }
