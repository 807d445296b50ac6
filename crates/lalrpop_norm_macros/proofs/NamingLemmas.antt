-- Names of keys in order are names that keys may have; for the clause of the pass that names keys.
use Rattle.std.specs.Str.{bytes_eq}
use Rattle.std.proofs.Common.{◌≡◌, ◌≢◌, ℕ, zero, suc, ◌+◌, ◌^◌, ◌<◌, ◌≤◌, List, [], ◌∷◌, refl}
use Rattle.std.proofs.Common.{ap, sym, ◌∙◌, subst, cond}
use Rattle.std.proofs.Common.{Bool, true, false, inl, inr, ◌⊎◌, arith}
use Rattle.std.specs.Option.{unwrap_or}
use Rattle.std.specs.Prelude.{Option, Some, None, if◌then◌else◌}
use Rattle.std.proofs.lemmas.Bool.{true≢false}
use Rattle.lalrpop_grammar_symbols.specs.Symbols.{Text, Closed, Closeds}
use Rattle.lalrpop_grammar_language.specs.Among.{Among}
use Rattle.lalrpop_grammar_language.specs.Enabled.{EnabledGrammar, EnabledRule, IsRule}
use Rattle.lalrpop_grammar_language.proofs.ComparisonLemmas.{same_text-refl}
use Rattle.lalrpop_grammar_language.proofs.PlaceLemmas.{same_text-eq}
use Rattle.lalrpop_norm_theory.specs.Keys.{before_tilde, flat_key_text, with_number}
use Rattle.lalrpop_norm_theory.proofs.ExpansionListLemmas.{rule_there}
use Rattle.lalrpop_norm_theory.specs.KeyTables.{IsPlainKey}
use Rattle.lalrpop_norm_theory.proofs.LevelOrderLemmas.{one_rule}
use Rattle.lalrpop_norm_theory.proofs.LastLemmas.{ends_in_digit}
use Rattle.lalrpop_norm_keys.specs.Tables.{HasEachOnce}
use Rattle.lalrpop_norm_precedence.specs.GivenNames.{Times}
use Rattle.lalrpop_norm_precedence.specs.TakenTimes.{AreSmallTimes}
use Rattle.lalrpop_norm_precedence.proofs.NumberLemmas.{no_number}
use Rattle.lalrpop_norm_macros.specs.KeyNames.{HoldKeyNames, IsLevelName, IsNameable}
use Rattle.lalrpop_norm_macros.specs.KeyNames.{IsNextAmongKeys, times_by_rules}
use Rattle.lalrpop_norm_macros.specs.OrderedNames.{key_names_from, rule_alone, taken_behind_key, taken_behind_keys}
use Rattle.lalrpop_norm_macros.specs.OrderedNames.{taken_unless}
use Rattle.lalrpop_norm_macros.proofs.TextLemmas.{cut_again, clear_text_told, level_told, one_number, same_text_told}
use Rattle.lalrpop_norm_macros.proofs.RuleTextLemmas.{TakesText, macro_text_is, number_taken, plain_or_macro, plain_text_is}
use Rattle.lalrpop_norm_macros.proofs.RuleTextLemmas.{rule_is, text_taken}
use Rattle.lalrpop_norm_macros.proofs.StandingLemmas.{StandsAt, alone_call, key_stands, keys_grow, name_at, name_there}
use Rattle.lalrpop_norm_macros.proofs.StandingLemmas.{names_mapped, number_at, number_there, numbered_more, same_place}
use Rattle.lalrpop_norm_macros.proofs.StandingLemmas.{stands_above, stands_among, stands_below}

-- the number of a rule's name

-- the greatest number below m by which the text has the name
abbrev number_below : Text → Text → ℕ → ℕ
number_below t n zero = 0
number_below t n (suc m) = if bytes_eq (with_number t m) n then m else number_below t n m

number_found : (t n : Text) (m j : ℕ) → j < m → with_number t j ≡ n →
    (with_number t (number_below t n m) ≡ n) × (number_below t n m < m)
number_found t n zero j lt e = absurd (omega (arith, lt))
number_found t n (suc m) j lt e = go (bytes_eq (with_number t m) n) refl (λ l. number_found t n m j l e)
  where
    last_or_before : (j ≡ m) ⊎ (j < m)
    last_or_before = grind (arith, lt)

    behind : bytes_eq (with_number t m) n ≡ false → (j ≡ m) ⊎ (j < m) →
        (j < m → (with_number t (number_below t n m) ≡ n) × (number_below t n m < m)) →
        (with_number t (number_below t n m) ≡ n) × (number_below t n m < suc m)
    behind h (inl same) below =
        let yes : bytes_eq (with_number t m) n ≡ true =
        subst (λ s. bytes_eq (with_number t m) s ≡ true) (ap (with_number t) (sym same) ∙ e) (same_text-refl (with_number t m)) in
        absurd (true≢false (sym yes ∙ h))
    behind h (inr l) below = let u = below l in (u.0, let a = u.1 in omega (arith, a))

    go : (b : Bool) → bytes_eq (with_number t m) n ≡ b →
        (j < m → (with_number t (number_below t n m) ≡ n) × (number_below t n m < m)) →
        (with_number t (cond b m (number_below t n m)) ≡ n) × (cond b m (number_below t n m) < suc m)
    go true h below = (same_text-eq (with_number t m) n h, omega arith)
    go false h below = behind h last_or_before below

abbrev rule_number : EnabledGrammar → Text → ℕ
rule_number g n = number_below (before_tilde n) n (times_by_rules g (before_tilde n))

abbrev number_or : EnabledGrammar → Option Text → ℕ → ℕ
number_or g (Some n) k = rule_number g n
number_or g None k = k

abbrev key_number : EnabledGrammar → List Closed → Closed → ℕ
key_number g keys x = number_or g (rule_alone x) (number_at (times_by_rules g) keys x)

abbrev IsNext : EnabledGrammar → List Closed → Text → ℕ → Type 0
IsNext g keys t k = IsNextAmongKeys g keys (key_number g keys) t k

next_number : (g : EnabledGrammar) (keys : List Closed) (t : Text) (k : ℕ) → ((j : ℕ) → j < k → IsNext g keys t (suc j)) →
    IsNext g keys t k
next_number g keys t zero used = IsNextAmongKeys.first
next_number g keys t (suc k) used = used k (omega arith)

module _ (g : EnabledGrammar) (keys : List Closed) (w : IsNameable g) (once : HasEachOnce keys)
    (plain : (n : Text) (r : EnabledRule) → IsRule g n r → r.parameters ≡ [] → Among keys (Closed.call n Closeds.none None))
    (alone : (n : Text) (level : Option ℕ) → Among keys (Closed.call n Closeds.none level)
    → IsPlainKey g (Closed.call n Closeds.none level))
    (ends : (x : Closed) → Among keys x → rule_alone x ≡ None → ends_in_digit (flat_key_text x) ≡ false)
    (small : AreSmallTimes (taken_behind_keys (times_by_rules g) keys)) where
  abbrev name_of : Closed → Text
  name_of x = name_at (times_by_rules g) keys x

  -- numbers have room

  rules_small : (t : Text) (k : ℕ) → k < times_by_rules g t → k + 1 < 2 ^ 64
  rules_small t k lt =
      let a = keys_grow (times_by_rules g) keys t in
      let b = small t in
      omega (arith, a, b, lt)

  record IsNumbered (x : Closed) : Type 0 where
    before : Times
    stands : StandsAt (times_by_rules g) keys x before
    is : name_of x ≡ with_number (flat_key_text x) (before (flat_key_text x))
    above : times_by_rules g (flat_key_text x) ≤ before (flat_key_text x)
    room : before (flat_key_text x) + 1 < 2 ^ 64

  -- a key that is no rule alone
  numbered : (x : Closed) → Among keys x → rule_alone x ≡ None → IsNumbered x
  numbered x i none =
      let u = key_stands (times_by_rules g) keys x i in
      let below = stands_below (times_by_rules g) keys x u.0 u.1 (flat_key_text x) in
      let more = numbered_more u.0 x none in
      let room = small (flat_key_text x) in
      record {
        before = u.0;
        stands = u.1;
        is = name_there (times_by_rules g) keys x u.0 once u.1
            ∙ ap (λ o. unwrap_or o (with_number (flat_key_text x) (u.0 (flat_key_text x)))) none;
        above = stands_above (times_by_rules g) keys x u.0 u.1 (flat_key_text x);
        room = omega (arith, below, more, room);
      }

  -- a key that is one
  record IsRuleAlone (n : Text) (x : Closed) : Type 0 where
    rule : EnabledRule
    is_rule : IsRule g n rule
    among : Among g.rules rule
    name : rule.name ≡ n
    none : rule.parameters ≡ []
    key_is : x ≡ Closed.call n Closeds.none None
    named : name_of x ≡ n

  rule_named : (x : Closed) (n : Text) → Among keys x → rule_alone x ≡ Some n → IsRuleAlone n x
  rule_named x n i e =
      let c = alone_call x n e in
      let p = alone n c.0 (subst (Among keys) c.1 i) in
      let key : Closed.call n Closeds.none c.0 ≡ Closed.call p.name Closeds.none None = p.key_is in
      let same : n ≡ p.name = cc in
      let there = rule_there g p.name p.rule p.is_rule in
      let u = key_stands (times_by_rules g) keys x i in
      record {
        rule = p.rule;
        is_rule = subst (λ t. IsRule g t p.rule) (sym same) p.is_rule;
        among = there.0;
        name = there.1 ∙ sym same;
        none = p.no_macro;
        key_is = c.1 ∙ key ∙ ap (λ t. Closed.call t Closeds.none None) (sym same);
        named = name_there (times_by_rules g) keys x u.0 once u.1
            ∙ ap (λ o. unwrap_or o (with_number (flat_key_text x) (u.0 (flat_key_text x)))) e;
      }

  -- no two share a name

  rule_apart : (n : Text) (x y : Closed) → IsRuleAlone n x → Among keys y → rule_alone y ≡ None → name_of y ≡ n → ⊥
  rule_apart n x y r j none e =
      let h = w.numbers r.rule r.among r.none in
      let v = numbered y j none in
      let both : with_number (flat_key_text y) (v.before (flat_key_text y)) ≡ with_number (before_tilde r.rule.name) h.number =
      sym v.is ∙ e ∙ sym r.name ∙ h.is in
      let text : flat_key_text y ≡ before_tilde r.rule.name =
      clear_text_told (flat_key_text y) (before_tilde r.rule.name) (v.before (flat_key_text y)) h.number (ends y j none)
      (cut_again r.rule.name) both in
      let below : h.number < times_by_rules g (flat_key_text y) =
      subst (λ t. h.number < times_by_rules g t) (sym text) h.below in
      let number : v.before (flat_key_text y) ≡ h.number =
      one_number (flat_key_text y) (v.before (flat_key_text y)) h.number v.room (rules_small (flat_key_text y) h.number below)
      (both ∙ ap (λ t. with_number t h.number) (sym text)) in
      let above = v.above in
      omega (arith, below, number, above)

  texts_apart : (x y : Closed) → Among keys x → Among keys y → rule_alone x ≡ None → rule_alone y ≡ None →
      name_of x ≡ name_of y → x ≡ y
  texts_apart x y i j a b e =
      let u = numbered x i a in
      let v = numbered y j b in
      let both : with_number (flat_key_text x) (u.before (flat_key_text x))
      ≡ with_number (flat_key_text y) (v.before (flat_key_text y)) = sym u.is ∙ e ∙ v.is in
      let text = same_text_told (flat_key_text x) (flat_key_text y) (u.before (flat_key_text x)) (v.before (flat_key_text y))
      (ends x i a) (ends y j b) both in
      let number = one_number (flat_key_text x) (u.before (flat_key_text x)) (v.before (flat_key_text y)) u.room v.room
      (both ∙ ap (λ t. with_number t (v.before (flat_key_text y))) (sym text)) in
      same_place (times_by_rules g) keys x y u.before v.before u.stands v.stands a b text number

  all_apart : (x y : Closed) → Among keys x → Among keys y → name_of x ≡ name_of y → x ≡ y
  all_apart x y i j e = go (rule_alone x) refl (rule_alone y) refl
    where
      go : (o : Option Text) → rule_alone x ≡ o → (p : Option Text) → rule_alone y ≡ p → x ≡ y
      go (Some n) a (Some m) b =
          let r = rule_named x n i a in
          let s = rule_named y m j b in
          let same : n ≡ m = sym r.named ∙ e ∙ s.named in
          r.key_is ∙ ap (λ t. Closed.call t Closeds.none None) same ∙ sym s.key_is
      go (Some n) a None b = let r = rule_named x n i a in absurd (rule_apart n x y r j b (sym e ∙ r.named))
      go None a (Some m) b = let s = rule_named y m j b in absurd (rule_apart m y x s i a (e ∙ s.named))
      go None a None b = texts_apart x y i j a b e

  -- no key has the name of a macro

  macro_apart : (r : EnabledRule) (x : Closed) → Among g.rules r → r.parameters ≢ [] → Among keys x → name_of x ≢ r.name
  macro_apart r x i some j e = go (rule_alone x) refl
    where
      clear : (u : IsNumbered x) → ends_in_digit (flat_key_text x) ≡ false → before_tilde r.name ≡ r.name → ⊥
      clear u end plain_name =
          let both : with_number (flat_key_text x) (u.before (flat_key_text x)) ≡ r.name = sym u.is ∙ e in
          let text : flat_key_text x ≡ r.name =
          clear_text_told (flat_key_text x) r.name (u.before (flat_key_text x)) 0 end plain_name both in
          let taken : 0 < times_by_rules g (flat_key_text x) =
          subst (λ t. 0 < times_by_rules g t) (macro_text_is r some ∙ sym text) (text_taken g r i) in
          let above = u.above in
          numberless (u.before (flat_key_text x)) (omega (arith, taken, above)) (both ∙ sym text)
        where
          numberless : (k : ℕ) → 0 < k → with_number (flat_key_text x) k ≡ flat_key_text x → ⊥
          numberless zero lt h = omega (arith, lt)
          numberless (suc k) lt h = no_number (flat_key_text x) k (sym h)

      either : (u : IsNumbered x) → ends_in_digit (flat_key_text x) ≡ false →
          (before_tilde r.name ≡ r.name) ⊎ IsLevelName r.name → ⊥
      either u end (inl plain_name) = clear u end plain_name
      either u end (inr l) =
          level_told (flat_key_text x) l.base l.level (u.before (flat_key_text x)) l.number end l.plain (sym u.is ∙ e ∙ l.is)

      go : (o : Option Text) → rule_alone x ≡ o → ⊥
      go (Some n) a =
          let s = rule_named x n j a in
          let same : r ≡ s.rule =
          one_rule g n r s.rule (subst (λ t. IsRule g t r) (sym e ∙ s.named) (rule_is g w r i)) s.is_rule in
          some (ap (λ q. q.parameters) same ∙ s.none)
      go None a = either (numbered x j a) (ends x j a) (w.macros r i some)

  -- no number is left out

  rule_number_found : (r : EnabledRule) → Among g.rules r → r.parameters ≡ [] →
      (with_number (before_tilde r.name) (rule_number g r.name) ≡ r.name)
      × (rule_number g r.name < times_by_rules g (before_tilde r.name))
  rule_number_found r i none =
      let h = w.numbers r i none in
      number_found (before_tilde r.name) r.name (times_by_rules g (before_tilde r.name)) h.number h.below (sym h.is)

  rule_number_is : (r : EnabledRule) (t : Text) (j : ℕ) → Among g.rules r → r.parameters ≡ [] → before_tilde r.name ≡ t →
      r.name ≡ with_number t j → j < times_by_rules g t → rule_number g r.name ≡ j
  rule_number_is r t j i none text name lt =
      let u = rule_number_found r i none in
      let below : rule_number g r.name < times_by_rules g t =
      subst (λ s. rule_number g r.name < times_by_rules g s) text u.1 in
      one_number t (rule_number g r.name) j (rules_small t (rule_number g r.name) below) (rules_small t j lt)
      (ap (λ s. with_number s (rule_number g r.name)) (sym text) ∙ u.0 ∙ name)

  used_by_rules : (t : Text) (j : ℕ) → j < times_by_rules g t → IsNext g keys t (suc j)
  used_by_rules t j lt = let u = number_taken g w t j lt in go u (plain_or_macro u.rule)
    where
      of_macro : (r : EnabledRule) → Among g.rules r → r.parameters ≢ [] → r.name ≡ t → (k : ℕ) →
          r.name ≡ with_number t k →
          IsNext g keys t (suc k)
      of_macro r i some name zero h = IsNextAmongKeys.after_macro r i some name
      of_macro r i some name (suc k) h = absurd (no_number t k (sym name ∙ h))

      go : (u : TakesText g.rules t (with_number t j)) → (u.rule.parameters ≡ []) ⊎ (u.rule.parameters ≢ []) →
          IsNext g keys t (suc j)
      go u (inl none) =
          let text : before_tilde u.rule.name ≡ t = sym (plain_text_is u.rule none) ∙ u.text in
          IsNextAmongKeys.after_key (Closed.call u.rule.name Closeds.none None)
          (plain u.rule.name u.rule (rule_is g w u.rule u.among) none) text
          (rule_number_is u.rule t j u.among none text u.name lt)
      go u (inr some) = of_macro u.rule u.among some (sym (macro_text_is u.rule some) ∙ u.text) j u.name

  abbrev IsGiven : Times → List Closed → Type 0
  IsGiven times xs = (y : Closed) (before : Times) → StandsAt times xs y before → rule_alone y ≡ None →
      Among keys y × (key_number g keys y ≡ before (flat_key_text y))

  abbrev AreUsed : Times → Type 0
  AreUsed times = (t : Text) (j : ℕ) → j < times t → IsNext g keys t (suc j)

  used_behind : (times : Times) (y : Closed) → AreUsed times →
      (rule_alone y ≡ None → Among keys y × (key_number g keys y ≡ times (flat_key_text y))) → AreUsed (taken_behind_key times y)
  used_behind times y used given t j lt = go (rule_alone y) refl lt
    where
      at_text : Among keys y × (key_number g keys y ≡ times (flat_key_text y)) → t ≡ flat_key_text y →
          (j ≡ times t) ⊎ (j < times t) → IsNext g keys t (suc j)
      at_text u same (inl e) =
          IsNextAmongKeys.after_key y u.0 (sym same) (u.1 ∙ ap times (sym same) ∙ sym e)
      at_text u same (inr l) = used t j l

      last_or_before : j < suc (times t) → (j ≡ times t) ⊎ (j < times t)
      last_or_before l = grind (arith, l)

      one : rule_alone y ≡ None → (b : Bool) → bytes_eq t (flat_key_text y) ≡ b → j < cond b (suc (times t)) (times t) →
          IsNext g keys t (suc j)
      one none true e l = at_text (given none) (same_text-eq t (flat_key_text y) e) (last_or_before l)
      one none false e l = used t j l

      go : (o : Option Text) → rule_alone y ≡ o → j < taken_unless o (flat_key_text y) times t → IsNext g keys t (suc j)
      go (Some n) e l = used t j l
      go None e l = one e (bytes_eq t (flat_key_text y)) refl l

  used_before : (times : Times) (xs : List Closed) → IsGiven times xs → AreUsed times → (x : Closed) (before : Times) →
      StandsAt times xs x before → AreUsed before
  used_before times [] given used x before s t j lt = absurd s
  used_before times (y ∷ ys) given used x before (inl e) t j lt = used t j (subst (λ f. j < f t) (sym e.1) lt)
  used_before times (y ∷ ys) given used x before (inr s) t j lt =
      used_before (taken_behind_key times y) ys (λ z c h none. given z c (inr h) none)
      (used_behind times y used (λ none. given y times (inl (refl, refl)) none)) x before s t j lt

  all_given : IsGiven (times_by_rules g) keys
  all_given y before s none = (
    stands_among (times_by_rules g) keys y before s,
    ap (λ o. number_or g o (number_at (times_by_rules g) keys y)) none
        ∙ number_there (times_by_rules g) keys y before once s,
  )

  -- a rule alone

  rule_printed : (x : Closed) (n : Text) → IsRuleAlone n x → name_of x ≡ with_number (flat_key_text x) (rule_number g n)
  rule_printed x n r =
      let u = rule_number_found r.rule r.among r.none in
      r.named ∙ sym r.name ∙ sym u.0
      ∙ ap (λ t. with_number (before_tilde t) (rule_number g t)) r.name
      ∙ ap (λ t. with_number t (rule_number g n)) (sym (ap flat_key_text r.key_is))

  rule_packed : (x : Closed) (n : Text) → IsRuleAlone n x → IsNext g keys (flat_key_text x) (rule_number g n)
  rule_packed x n r =
      let u = rule_number_found r.rule r.among r.none in
      subst (λ t. IsNext g keys t (rule_number g n)) (ap before_tilde r.name ∙ sym (ap flat_key_text r.key_is))
      (subst (IsNext g keys (before_tilde r.rule.name)) (ap (rule_number g) r.name)
      (next_number g keys (before_tilde r.rule.name) (rule_number g r.rule.name)
      (λ j lt. used_by_rules (before_tilde r.rule.name) j (let a = u.1 in omega (arith, a, lt)))))

  -- any key

  all_printed : (x : Closed) → Among keys x → name_of x ≡ with_number (flat_key_text x) (key_number g keys x)
  all_printed x i = go (rule_alone x) refl
    where
      go : (o : Option Text) → rule_alone x ≡ o → name_of x ≡ with_number (flat_key_text x) (key_number g keys x)
      go (Some n) a =
          rule_printed x n (rule_named x n i a)
          ∙ ap (λ o. with_number (flat_key_text x) (number_or g o (number_at (times_by_rules g) keys x))) (sym a)
      go None a =
          let u = numbered x i a in
          u.is ∙ ap (with_number (flat_key_text x)) (sym (all_given x u.before u.stands a).1)

  all_packed : (x : Closed) → Among keys x → IsNext g keys (flat_key_text x) (key_number g keys x)
  all_packed x i = go (rule_alone x) refl
    where
      go : (o : Option Text) → rule_alone x ≡ o → IsNext g keys (flat_key_text x) (key_number g keys x)
      go (Some n) a =
          subst (IsNext g keys (flat_key_text x)) (ap (λ o. number_or g o (number_at (times_by_rules g) keys x)) (sym a))
          (rule_packed x n (rule_named x n i a))
      go None a =
          let u = numbered x i a in
          subst (IsNext g keys (flat_key_text x)) (sym (all_given x u.before u.stands a).1)
          (next_number g keys (flat_key_text x) (u.before (flat_key_text x))
          (λ j lt. used_before (times_by_rules g) keys all_given used_by_rules x u.before u.stands (flat_key_text x) j lt))

  own_name : (n : Text) (r : EnabledRule) → IsRule g n r → r.parameters ≡ [] → name_of (Closed.call n Closeds.none None) ≡ n
  own_name n r i none = (rule_named (Closed.call n Closeds.none None) n (plain n r i none) refl).named

  -- the names that are given in order
  pub names_hold : HoldKeyNames g keys (key_names_from (times_by_rules g) keys)
  names_hold = (
    name_of,
    names_mapped (times_by_rules g) keys once,
    record {
      number = key_number g keys;
      own = own_name;
      apart = all_apart;
      macros = macro_apart;
      printed = all_printed;
      packed = all_packed;
    },
  )
