-- Names that keys get one after another are given by use, where the keys are in order of first use; for the rules of keys.
use Rattle.std.specs.Str.{bytes_eq}
use Rattle.std.proofs.Common.{◌≡◌, ℕ, suc, List, [], ◌∷◌, ◌++◌, refl, ap, sym, ◌∙◌, subst, cond, Bool, true, false, inl, inr, map}
use Rattle.std.proofs.Common.{length}
use Rattle.std.specs.Option.{unwrap_or}
use Rattle.std.specs.Prelude.{Some, None, filter, flat_map}
use Rattle.lalrpop_grammar_symbols.specs.Symbols.{Text, Closed, Closeds}
use Rattle.lalrpop_grammar_language.specs.Among.{Among}
use Rattle.lalrpop_grammar_language.specs.Enabled.{EnabledGrammar, EnabledRule}
use Rattle.lalrpop_grammar_language.specs.Levels.{has_levels}
use Rattle.lalrpop_grammar_language.proofs.AmongLemmas.{among_flat_map}
use Rattle.lalrpop_grammar_language.proofs.StepLemmas.{among_right}
use Rattle.lalrpop_norm_theory.specs.Keys.{IsNaming, flat_key_text, with_number}
use Rattle.lalrpop_norm_theory.specs.KeyTables.{IsPlainKey}
use Rattle.lalrpop_norm_theory.specs.LeveledGrammar.{falling_levels, levels_in_order}
use Rattle.lalrpop_norm_theory.specs.LevelNames.{after_first, times_taken}
use Rattle.lalrpop_norm_theory.specs.NamesByUse.{AreNumberedByUse, IsNamingByUse, own_texts, texts_of_rules}
use Rattle.lalrpop_norm_theory.specs.Premises.{HasNoLevels}
use Rattle.lalrpop_norm_theory.specs.UsedKeys.{IsListByUse, KeyUses, rule_at_levels, tighter_at, unless_macro, written_keys}
use Rattle.lalrpop_norm_theory.proofs.ExpansionListLemmas.{rule_there}
use Rattle.lalrpop_norm_theory.proofs.FirstUseLemmas.{new_behind}
use Rattle.lalrpop_norm_theory.proofs.LevelLemmas.{no_levels}
use Rattle.lalrpop_norm_theory.proofs.LeveledOrderLemmas.{flat_keys}
use Rattle.lalrpop_norm_theory.proofs.UsedKeyLemmas.{written_there}
use Rattle.lalrpop_norm_precedence.specs.GivenNames.{Times, once_more}
use Rattle.lalrpop_norm_macros.specs.KeyNames.{HasFoundKeys, times_by_rules}
use Rattle.lalrpop_norm_macros.specs.NameLaws.{nonterminal_name}
use Rattle.lalrpop_norm_macros.specs.OrderedNames.{key_name, key_names_from, rule_alone, rule_text, taken_behind_key, taken_unless}
use Rattle.lalrpop_norm_macros.proofs.FoundLemmas.{table_alone}

-- texts that are taken

-- one more text, by which a text may be taken once more
taken_more : (times : Times) (taken : List Text) (text : Text) → ((t : Text) → times t ≡ times_taken t taken) → (t : Text)
    → once_more text times t ≡ times_taken t (text ∷ taken)
taken_more times taken text same t = go (bytes_eq t text)
  where
    go : (b : Bool) → cond b (suc (times t)) (times t) ≡ length (cond b (text ∷ filter (bytes_eq t) taken) (filter (bytes_eq t) taken))
    go true = ap suc (same t)
    go false = same t

-- keys that are rules alone

-- the key calls a rule without arguments
abbrev NamesRule : Closed → Type 0
NamesRule x = (n : Text) × (rule_alone x ≡ Some n)

levels_alone : (n : Text) (js : List ℕ) (x : Closed) → Among (map (λ j. Closed.call n Closeds.none (Some j)) js) x → NamesRule x
levels_alone n [] x i = absurd i
levels_alone n (j ∷ js) x (inl e) = (n, ap rule_alone (sym e))
levels_alone n (j ∷ js) x (inr i) = levels_alone n js x i

rule_names : (r : EnabledRule) (ps : List Text) (x : Closed) → Among (unless_macro ps (rule_at_levels r)) x → NamesRule x
rule_names r (p ∷ ps) x i = absurd i
rule_names r [] x (inl e) = (r.name, ap rule_alone (sym e))
rule_names r [] x (inr i) = levels_alone r.name (after_first (levels_in_order r)) x i

written_alone : (g : EnabledGrammar) (x : Closed) → Among (written_keys g) x → NamesRule x
written_alone g x i =
    let w = among_flat_map (λ r. unless_macro r.parameters (rule_at_levels r)) g.rules x i in
    rule_names w.0 w.0.parameters x w.2

-- names that are given one after another

-- those behind rules alone are given as if these weren't there
behind_rules : (f : Closed → Text) (times : Times) (xs ys : List Closed) → ((x : Closed) → Among xs x → NamesRule x)
    → map f (xs ++ ys) ≡ key_names_from times (xs ++ ys) → map f ys ≡ key_names_from times ys
behind_rules f times [] ys alone e = e
behind_rules f times (x ∷ xs) ys alone e =
    let named : NamesRule x = alone x (inl refl) in
    let same : taken_behind_key times x ≡ times = ap (λ o. taken_unless o (flat_key_text x) times) named.1 in
    let whole : f x ∷ map f (xs ++ ys) ≡ key_name times x ∷ key_names_from (taken_behind_key times x) (xs ++ ys) = e in
    let rest : map f (xs ++ ys) ≡ key_names_from (taken_behind_key times x) (xs ++ ys) = cc in
    behind_rules f times xs ys (λ z i. alone z (inr i)) (rest ∙ ap (λ ts. key_names_from ts (xs ++ ys)) same)

-- others get the next number of their texts
others_numbered : (f : Closed → Text) (times : Times) (taken : List Text) (xs : List Closed)
    → ((t : Text) → times t ≡ times_taken t taken) → ((x : Closed) → Among xs x → rule_alone x ≡ None)
    → map f xs ≡ key_names_from times xs → AreNumberedByUse flat_key_text f taken xs
others_numbered f times taken [] same none e = tt
others_numbered f times taken (x ∷ xs) same none e =
    let alone : rule_alone x ≡ None = none x (inl refl) in
    let whole : f x ∷ map f xs ≡ key_name times x ∷ key_names_from (taken_behind_key times x) xs = e in
    let named : f x ≡ key_name times x = cc in
    let rest : map f xs ≡ key_names_from (taken_behind_key times x) xs = cc in
    let later : taken_behind_key times x ≡ once_more (flat_key_text x) times =
    ap (λ o. taken_unless o (flat_key_text x) times) alone in (
      named ∙ ap (λ o. unwrap_or o (with_number (flat_key_text x) (times (flat_key_text x)))) alone
          ∙ ap (with_number (flat_key_text x)) (same (flat_key_text x)),
      others_numbered f (once_more (flat_key_text x) times) (flat_key_text x ∷ taken) xs
          (λ t. taken_more times taken (flat_key_text x) same t) (λ z i. none z (inr i)) (rest ∙ ap (λ ts. key_names_from ts xs) later),
    )

module _ (g : EnabledGrammar) (flat : HasNoLevels g) where
  -- rules take their texts
  own_text : (r : EnabledRule) → has_levels r ≡ false → (ps : List Text)
      → own_texts ps r.name (map flat_key_text (rule_at_levels r)) ≡ rule_text ps r.name ∷ []
  own_text r e [] = ap (map flat_key_text) (flat_keys r e)
  own_text r e (p ∷ ps) = refl

  all_texts : (rs : List EnabledRule) → ((r : EnabledRule) → Among rs r → has_levels r ≡ false)
      → flat_map (λ r. own_texts r.parameters r.name (map flat_key_text (rule_at_levels r))) rs
      ≡ map (λ r. rule_text r.parameters r.name) rs
  all_texts [] low = refl
  all_texts (r ∷ rs) low =
      ap (λ l. l ++ flat_map (λ q. own_texts q.parameters q.name (map flat_key_text (rule_at_levels q))) rs)
      (own_text r (low r (inl refl)) r.parameters)
      ∙ ap (λ l. rule_text r.parameters r.name ∷ l) (all_texts rs (λ q i. low q (inr i)))

  taken_by_rules : (t : Text) → times_by_rules g t ≡ times_taken t (texts_of_rules flat_key_text g)
  taken_by_rules t = ap (times_taken t) (sym (all_texts g.rules flat))

  -- no rule has a tighter level
  no_tighter : (r : EnabledRule) → has_levels r ≡ false → (ps : List Text) → unless_macro ps (tighter_at r) ≡ []
  no_tighter r e [] =
      ap (λ ls. map (λ j. Closed.call r.name Closeds.none (Some j)) (after_first (falling_levels ls))) (no_levels r e)
  no_tighter r e (p ∷ ps) = refl

  none_tighter : (rs : List EnabledRule) → ((r : EnabledRule) → Among rs r → has_levels r ≡ false)
      → flat_map (λ r. unless_macro r.parameters (tighter_at r)) rs ≡ []
  none_tighter [] low = refl
  none_tighter (r ∷ rs) low =
      ap (λ l. l ++ flat_map (λ q. unless_macro q.parameters (tighter_at q)) rs) (no_tighter r (low r (inl refl)) r.parameters)
      ∙ none_tighter rs (λ q i. low q (inr i))

  -- a rule alone stands in front
  alone_in_front : (x : Closed) → IsPlainKey g x → Among (written_keys g) x
  alone_in_front x p =
      let there = rule_there g p.name p.rule p.is_rule in
      let key : Closed.call p.rule.name Closeds.none None ≡ x =
      ap (λ n. Closed.call n Closeds.none None) there.1 ∙ sym p.key_is in
      written_there g p.rule x there.0 p.no_macro
      (subst (λ l. Among l x) (sym (flat_keys p.rule (flat p.rule there.0))) (inl key))

  -- so what stands behind is none
  not_alone : (keys : List Closed) → HasFoundKeys g keys → (x : Closed) → Among keys x → (Among (written_keys g) x → ⊥)
      → rule_alone x ≡ None
  not_alone keys w (Closed.call n Closeds.none level) i out =
      absurd (out (alone_in_front (Closed.call n Closeds.none level) (table_alone g keys w n level i)))
  not_alone keys w (Closed.call n (Closeds.more x xs) level) i out = refl
  not_alone keys w (Closed.terminal t) i out = refl
  not_alone keys w (Closed.repeat op x) i out = refl
  not_alone keys w (Closed.group xs) i out = refl
  not_alone keys w (Closed.choose x) i out = refl
  not_alone keys w (Closed.name m n x) i out = refl
  not_alone keys w Closed.lookahead i out = refl
  not_alone keys w Closed.lookbehind i out = refl
  not_alone keys w Closed.faulty i out = refl

  -- names that are given in order are given by use
  pub named_by_use : (keys : List Closed) → HasFoundKeys g keys → IsListByUse g keys → (f : Closed → Text)
      → map f keys ≡ key_names_from (times_by_rules g) keys → (prefix : Text)
      → IsNaming flat_key_text prefix g (nonterminal_name prefix f)
      → IsNamingByUse flat_key_text prefix g (nonterminal_name prefix f)
  named_by_use keys w (others, e, by_use) f given prefix naming = record {
    naming = naming;
    levels = subst (AreNumberedByUse flat_key_text f (map (λ r. r.name) g.rules)) (sym (none_tighter g.rules flat)) tt;
    others = others;
    in_order = by_use;
    numbered = others_numbered f (times_by_rules g) (texts_of_rules flat_key_text g) others taken_by_rules
        (λ x i. not_alone keys w x (subst (λ l. Among l x) (sym e) (among_right (written_keys g) others x i))
        (λ j. new_behind (KeyUses g) (written_keys g) others by_use.follow x i j))
        (behind_rules f (times_by_rules g) (written_keys g) others (λ x i. written_alone g x i)
        (subst (λ l. map f l ≡ key_names_from (times_by_rules g) l) e given));
  }
