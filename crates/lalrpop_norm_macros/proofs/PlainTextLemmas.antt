-- The keys of a grammar without tildes can be named; for the law of what names of keys rest on.
use Rattle.std.specs.Str.{bytes_eq}
use Rattle.std.proofs.Common.{◌≡◌, ◌<◌, List, [], ◌∷◌, refl, ap, sym, ◌∙◌, subst, cond, Bool, true, false, inl, inr}
use Rattle.std.specs.Prelude.{Option, filter, map, ◌||◌}
use Rattle.lalrpop_grammar_symbols.specs.Symbols.{Text}
use Rattle.lalrpop_grammar.specs.WrittenGrammar.{Grammar, rules_of}
use Rattle.lalrpop_grammar_language.specs.Among.{Among}
use Rattle.lalrpop_grammar_language.specs.Enabled.{EnabledRule, has_name, has_text}
use Rattle.lalrpop_grammar_language.proofs.ComparisonLemmas.{same_text-refl}
use Rattle.lalrpop_grammar_language.proofs.PlaceLemmas.{among_map}
use Rattle.lalrpop_grammar_rules.proofs.BareNameLemmas.{same_text-sym}
use Rattle.lalrpop_norm_theory.specs.Between.{grammar_between, rule_between}
use Rattle.lalrpop_norm_theory.specs.Keys.{before_tilde}
use Rattle.lalrpop_norm_theory.specs.Premises.{AreDifferent, IsResolved}
use Rattle.lalrpop_norm_theory.specs.LevelNames.{HasNoTildes}
use Rattle.lalrpop_norm_macros.specs.KeyNames.{HasNumberBelow, IsNameable, times_by_rules}
use Rattle.lalrpop_norm_macros.proofs.RuleTextLemmas.{plain_text_is, text_taken}

-- rules that are each the only one of its name have different names

still_there : (n : Text) (rs : List EnabledRule) (q : EnabledRule) → Among rs q → has_name n q ≡ true →
    filter (has_name n) rs ≡ [] → ⊥
still_there n [] q i h e = i
still_there n (r ∷ rs) q (inl same) h e =
    let yes : has_name n r ≡ true = subst (λ p. has_name n p ≡ true) (sym same) h in
    let whole : r ∷ filter (has_name n) rs ≡ [] =
    ap (λ b. cond b (r ∷ filter (has_name n) rs) (filter (has_name n) rs)) (sym yes) ∙ e in
    cc
still_there n (r ∷ rs) q (inr i) h e = go (has_name n r) e (still_there n rs q i h)
  where
    go : (b : Bool) → cond b (r ∷ filter (has_name n) rs) (filter (has_name n) rs) ≡ [] →
        (filter (has_name n) rs ≡ [] → ⊥) → ⊥
    go true f later = cc
    go false f later = later f

none_has_it : (n : Text) (rs : List EnabledRule) → filter (has_name n) rs ≡ [] → has_text n (map (λ r. r.name) rs) ≡ false
none_has_it n [] e = refl
none_has_it n (r ∷ rs) e = go (has_name n r) refl e (none_has_it n rs)
  where
    go : (b : Bool) → has_name n r ≡ b → cond b (r ∷ filter (has_name n) rs) (filter (has_name n) rs) ≡ [] →
        (filter (has_name n) rs ≡ [] → has_text n (map (λ q. q.name) rs) ≡ false) →
        (bytes_eq n r.name || has_text n (map (λ q. q.name) rs)) ≡ false
    go true h f later = cc
    go false h f later = ap (λ b. b || has_text n (map (λ q. q.name) rs)) (same_text-sym n r.name ∙ h) ∙ later f

abbrev AreAlone : List EnabledRule → Type 0
AreAlone rs = (r : EnabledRule) → Among rs r → filter (has_name r.name) rs ≡ r ∷ []

alone_behind : (r : EnabledRule) (rs : List EnabledRule) → AreAlone (r ∷ rs) → AreAlone rs
alone_behind r rs alone q i = go (has_name q.name r) (alone q (inr i))
  where
    go : (b : Bool) → cond b (r ∷ filter (has_name q.name) rs) (filter (has_name q.name) rs) ≡ q ∷ [] →
        filter (has_name q.name) rs ≡ q ∷ []
    go true e =
        let none : filter (has_name q.name) rs ≡ [] = cc in absurd (still_there q.name rs q i (same_text-refl q.name) none)
    go false e = e

alone_differ : (rs : List EnabledRule) → AreAlone rs → AreDifferent (map (λ r. r.name) rs)
alone_differ [] alone = tt
alone_differ (r ∷ rs) alone = (none_has_it r.name rs behind, alone_differ rs (alone_behind r rs alone))
  where
    behind : filter (has_name r.name) rs ≡ []
    behind =
        let whole : r ∷ filter (has_name r.name) rs ≡ r ∷ [] =
        ap (λ b. cond b (r ∷ filter (has_name r.name) rs) (filter (has_name r.name) rs)) (sym (same_text-refl r.name))
        ∙ alone r (inl refl) in
        cc

-- the law

module _ (finds : Text → Text → Option Bool) (g : Grammar) (w : IsResolved (grammar_between finds g)) (clear : HasNoTildes g) where
  clear_name : (r : EnabledRule) → Among (grammar_between finds g).rules r → before_tilde r.name ≡ r.name
  clear_name r i =
      let u = among_map rule_between (rules_of g.items) r i in
      subst (λ q. before_tilde q.name ≡ q.name) u.2 (clear u.0 u.1)

  number : (r : EnabledRule) → Among (grammar_between finds g).rules r → r.parameters ≡ [] →
      HasNumberBelow (grammar_between finds g) r
  number r i none = record {
    number = 0;
    is = sym (clear_name r i);
    below = subst (λ t. 0 < times_by_rules (grammar_between finds g) t) (plain_text_is r none)
        (text_taken (grammar_between finds g) r i);
  }

  pub plain_nameable : IsNameable (grammar_between finds g)
  plain_nameable = record {
    rules = alone_differ (grammar_between finds g).rules w.rules;
    numbers = number;
    macros = λ r i some. inl (clear_name r i);
  }
