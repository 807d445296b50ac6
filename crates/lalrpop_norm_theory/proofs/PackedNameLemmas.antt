-- The names of the levels' rules leave no number out; for the law of names.
use Rattle.std.specs.Fmt.{digits, digits_onto, digit_glyph}
use Rattle.std.specs.Str.{bytes_eq}
use Rattle.std.proofs.Common.{◌≡◌, ◌≢◌, ℕ, zero, suc, ◌<◌, List, [], ◌∷◌, ◌++◌, refl, ap, sym, ◌∙◌}
use Rattle.std.proofs.Common.{subst, cond, Bool, true, false, inl, inr, ◌⊎◌, arith}
use Rattle.std.proofs.Common.{length}
use Rattle.std.specs.Prelude.{Option, Some, None, map, filter, codes, decimal, ◌+◌, ◌==◌, ◌/◌, ◌%◌}
use Rattle.std.specs.Prelude.{if◌then◌else◌}
use Rattle.std.proofs.lemmas.Bool.{true≢false}
use Rattle.std.proofs.lemmas.Bool.Decides.{nat_tests}
use Rattle.std.proofs.lemmas.List.{append-nil, append_assoc}
use Rattle.lalrpop_grammar_symbols.specs.Symbols.{Text}
use Rattle.lalrpop_grammar.specs.WrittenGrammar.{Rule, Grammar, rules_of}
use Rattle.lalrpop_grammar_language.specs.Among.{Among}
use Rattle.lalrpop_grammar_language.specs.Enabled.{EnabledGrammar, EnabledRule, IsRule, has_name}
use Rattle.lalrpop_grammar_language.specs.Levels.{loosest}
use Rattle.lalrpop_grammar_language.specs.Starts.{has_none}
use Rattle.lalrpop_grammar_language.specs.Expansion.{HasLevel}
use Rattle.lalrpop_grammar_language.proofs.ComparisonLemmas.{same_text-refl}
use Rattle.lalrpop_grammar_language.proofs.PlaceLemmas.{among_map, among_filter, same_text-eq}
use Rattle.lalrpop_norm_theory.specs.Between.{rule_between}
use Rattle.lalrpop_norm_theory.specs.Keys.{with_number, before_tilde}
use Rattle.lalrpop_grammar_language.proofs.AmongLemmas.{flat_map_among}
use Rattle.lalrpop_grammar_language.proofs.AmongLemmas.{map_among}
use Rattle.lalrpop_grammar_language.proofs.AmongLemmas.{among_flat_map}
use Rattle.lalrpop_norm_theory.proofs.ExpansionListLemmas.{rule_there}
use Rattle.lalrpop_norm_theory.specs.LevelRules.{level_name}
use Rattle.lalrpop_norm_theory.specs.LevelNames.{tighter_levels, numbered_text, plain_levels_of, plain_levels, times_taken}
use Rattle.lalrpop_norm_theory.specs.LevelNames.{AreLevelNames, AreNumberedBeside, AreNumberedInOrder, beside_own, macro_levels}
use Rattle.lalrpop_norm_theory.specs.LevelNames.{macro_levels_of, taken_behind_levels}
use Rattle.lalrpop_norm_theory.specs.LevelNames.{HasNoTildes, IsNextAmongRules, HasPackedNames}
use Rattle.lalrpop_norm_theory.specs.LevelLaws.{IsLevelable}
use Rattle.lalrpop_norm_theory.proofs.LevelOrderLemmas.{loosest_or_tighter, tighter-among}
use Rattle.lalrpop_norm_theory.proofs.LeveledRuleLemmas.{rule_of_key, rule_key, key_rule}
use Rattle.lalrpop_norm_theory.proofs.LevelAttrLemmas.{key_parameters}
use Rattle.lalrpop_norm_theory.proofs.LevelNameLemmas.{before, after, rule_stays}

-- texts without a tilde

front_stays : (c : ℕ) (s : Text) → (c == 126) ≡ false → before_tilde s ≡ s → before_tilde (c ∷ s) ≡ c ∷ s
front_stays c s e h = ap (λ b. cond b [] (c ∷ before_tilde s)) e ∙ ap (λ l. c ∷ l) h

-- what is joined to such a text is cut alone
pub joined_cut : (s t : Text) → before_tilde s ≡ s → before_tilde (s ++ t) ≡ s ++ before_tilde t
joined_cut [] t h = refl
joined_cut (c ∷ s) t h = go (c == 126) h (λ k. joined_cut s t k)
  where
    go : (b : Bool) → cond b [] (c ∷ before_tilde s) ≡ c ∷ s →
        (before_tilde s ≡ s → before_tilde (s ++ t) ≡ s ++ before_tilde t) →
        cond b [] (c ∷ before_tilde (s ++ t)) ≡ c ∷ (s ++ before_tilde t)
    go true e ih = cc
    go false e ih = let rest : before_tilde s ≡ s = cc in ap (λ l. c ∷ l) (ih rest)

digit_stays : (d : ℕ) → d < 10 → (digit_glyph false d == 126) ≡ false
digit_stays d h = grind (arith, nat_tests)

either_stays : (last : Bool) (s t : Text) → before_tilde s ≡ s → before_tilde t ≡ t →
    before_tilde (cond last s t) ≡ cond last s t
either_stays true s t hs ht = hs
either_stays false s t hs ht = ht

digits_stay : (k n : ℕ) (acc : Text) → before_tilde acc ≡ acc →
    before_tilde (digits_onto k 10 false n acc) ≡ digits_onto k 10 false n acc
digits_stay zero n acc h = h
digits_stay (suc k) n acc h =
    let d = digit_glyph false (n % 10) in
    let front : before_tilde (d ∷ acc) ≡ d ∷ acc = front_stays d acc (digit_stays (n % 10) (omega arith)) h in
    either_stays (n / 10 == 0) (d ∷ acc) (digits_onto k 10 false (n / 10) (d ∷ acc)) front (digits_stay k (n / 10) (d ∷ acc) front)

decimal_stays : (n : ℕ) → before_tilde (decimal n) ≡ decimal n
unfolding digits
decimal_stays n = digits_stay 64 n [] refl

-- a rule's name with a level's number has no tilde
pub numbered_stays : (n : Text) (j : ℕ) → before_tilde n ≡ n → before_tilde (numbered_text n j) ≡ numbered_text n j
numbered_stays n j h = joined_cut n (decimal j) h ∙ ap (λ t. n ++ t) (decimal_stays j)

tail_cut : (t u : Text) → before_tilde t ≡ t → before_tilde (t ++ (126 ∷ u)) ≡ t
tail_cut t u h = joined_cut t (126 ∷ u) h ∙ append-nil t

-- and a number behind a tilde is cut off
pub number_cut : (t : Text) (k : ℕ) → before_tilde t ≡ t → before_tilde (with_number t k) ≡ t
number_cut t zero h = h
number_cut t (suc k) h = ap before_tilde (append_assoc t (codes "~") (decimal (k + 2))) ∙ tail_cut t (decimal (k + 2)) h

-- numbers in order

-- what the level's rule is there
abbrev IsPlainLevel : EnabledGrammar → (Text → ℕ → Text) → Text × ℕ → Type 0
IsPlainLevel h f k = (q : EnabledRule) × Among h.rules q × (q.parameters ≡ []) × (q.name ≡ f k.0 k.1)
    × (before_tilde q.name ≡ numbered_text k.0 k.1)

abbrev AreUsed : EnabledGrammar → List Text → Type 0
AreUsed h taken = (t : Text) (m : ℕ) → m < times_taken t taken → IsNextAmongRules h t (suc m)

next_number : (h : EnabledGrammar) (t : Text) (n : ℕ) → ((m : ℕ) → m < n → IsNextAmongRules h t (suc m)) →
    IsNextAmongRules h t n
next_number h t zero used = IsNextAmongRules.first
next_number h t (suc m) used = used m (omega arith)

used_more : (h : EnabledGrammar) (taken : List Text) (text : Text) → AreUsed h taken →
    IsNextAmongRules h text (suc (times_taken text taken)) →
    AreUsed h (text ∷ taken)
used_more h taken text used one t m lt = go (bytes_eq t text) refl lt
  where
    last_or_before : (m ≡ times_taken t taken) ⊎ (m < times_taken t taken) → t ≡ text → IsNextAmongRules h t (suc m)
    last_or_before (inl e) same =
        subst (λ k. IsNextAmongRules h t (suc k)) (sym e)
        (subst (λ u. IsNextAmongRules h u (suc (times_taken u taken))) (sym same) one)
    last_or_before (inr l) same = used t m l

    split : m < suc (times_taken t taken) → (m ≡ times_taken t taken) ⊎ (m < times_taken t taken)
    split l = grind (arith, l)

    go : (b : Bool) → bytes_eq t text ≡ b → m < length (cond b (text ∷ filter (bytes_eq t) taken) (filter (bytes_eq t) taken)) →
        IsNextAmongRules h t (suc m)
    go true e l = last_or_before (split l) (same_text-eq t text e)
    go false e l = used t m l

packed_after : (h : EnabledGrammar) (f : Text → ℕ → Text) (taken : List Text) (ks : List (Text × ℕ)) →
    AreNumberedInOrder f taken ks →
    AreUsed h taken → ((k : Text × ℕ) → Among ks k → IsPlainLevel h f k) → (k : Text × ℕ) → Among ks k →
    (m : ℕ) × (f k.0 k.1 ≡ with_number (numbered_text k.0 k.1) m) × IsNextAmongRules h (numbered_text k.0 k.1) m
packed_after h f taken [] w used each k i = absurd i
packed_after h f taken (l ∷ ks) w used each k (inl e) =
    subst (λ z. (m : ℕ) × (f z.0 z.1 ≡ with_number (numbered_text z.0 z.1) m) × IsNextAmongRules h (numbered_text z.0 z.1) m) e (
      times_taken (numbered_text l.0 l.1) taken,
      w.0,
      next_number h (numbered_text l.0 l.1) (times_taken (numbered_text l.0 l.1) taken) (λ m lt. used (numbered_text l.0 l.1) m lt),
    )
packed_after h f taken (l ∷ ks) w used each k (inr i) =
    let q = each l (inl refl) in
    let one : IsNextAmongRules h (numbered_text l.0 l.1) (suc (times_taken (numbered_text l.0 l.1) taken)) =
    IsNextAmongRules.after_rule q.0 q.1 q.2 q.4 (q.3 ∙ w.0) in
    packed_after h f (numbered_text l.0 l.1 ∷ taken) ks w.1 (used_more h taken (numbered_text l.0 l.1) used one)
    (λ z j. each z (inr j)) k i

-- each level that is numbered in order is called by its text with some number
pub numbered_as : (f : Text → ℕ → Text) (taken : List Text) (ks : List (Text × ℕ)) → AreNumberedInOrder f taken ks →
    (k : Text × ℕ) → Among ks k →
    (m : ℕ) × (f k.0 k.1 ≡ with_number (numbered_text k.0 k.1) m)
numbered_as f taken [] w k i = absurd i
numbered_as f taken (l ∷ ks) w k (inl e) =
    subst (λ z. (m : ℕ) × (f z.0 z.1 ≡ with_number (numbered_text z.0 z.1) m)) e (times_taken (numbered_text l.0 l.1) taken, w.0)
numbered_as f taken (l ∷ ks) w k (inr i) = numbered_as f (numbered_text l.0 l.1 ∷ taken) ks w.1 k i

-- so is each level of a macro
numbered_beside : (f : Text → ℕ → Text) (taken : List Text) (ks : List (Rule × ℕ)) → AreNumberedBeside f taken ks →
    (k : Rule × ℕ) → Among ks k → (m : ℕ) × (f k.0.name k.1 ≡ with_number (numbered_text k.0.name k.1) m)
numbered_beside f taken [] w k i = absurd i
numbered_beside f taken (l ∷ ks) w k (inl e) =
    subst (λ (z : Rule × ℕ). (m : ℕ) × (f z.0.name z.1 ≡ with_number (numbered_text z.0.name z.1) m)) e
    (times_taken (numbered_text l.0.name l.1) (beside_own l.0.parameters (numbered_text l.0.name l.1) taken), w.0)
numbered_beside f taken (l ∷ ks) w k (inr i) =
    numbered_beside f (numbered_text l.0.name l.1 ∷ beside_own l.0.parameters (numbered_text l.0.name l.1) taken) ks w.1 k i

pub macro_numbered : (g : Grammar) (f : Text → ℕ → Text) → AreLevelNames g f → (r : Rule) (j : ℕ) → Among (rules_of g.items) r →
    r.parameters ≢ [] → Among (tighter_levels r) j → (m : ℕ) × (f r.name j ≡ with_number (numbered_text r.name j) m)
macro_numbered g f a r j i some t =
    numbered_beside f (taken_behind_levels (map (λ q. q.name) (rules_of g.items)) (plain_levels g)) (macro_levels g) a.of_macros (r, j)
    (flat_map_among macro_levels_of (rules_of g.items) r (r, j) i (listed r.parameters some))
  where
    listed : (ps : List Text) → ps ≢ [] →
        Among {A = Rule × ℕ} (if has_none ps then [] else map (λ l. (r, l)) (tighter_levels r)) (r, j)
    listed [] h = absurd (h refl)
    listed (p ∷ ps) h = map_among (λ l. (r, l)) (tighter_levels r) j t

-- the written rules' names

same_either_way : (a b : Text) → bytes_eq a b ≡ bytes_eq b a
same_either_way a b = go (bytes_eq a b) (bytes_eq b a) refl refl
  where
    go : (x y : Bool) → bytes_eq a b ≡ x → bytes_eq b a ≡ y → x ≡ y
    go true true e g = refl
    go false false e g = refl
    go true false e g =
        absurd (true≢false (sym (subst (λ t. bytes_eq t a ≡ true) (same_text-eq a b e) (same_text-refl a)) ∙ g))
    go false true e g =
        absurd (true≢false (sym (subst (λ t. bytes_eq t b ≡ true) (same_text-eq b a g) (same_text-refl b)) ∙ e))

as_many_named : (t : Text) (rs : List Rule) → times_taken t (map (λ r. r.name) rs) ≡ length (filter (has_name t) (map rule_between rs))
as_many_named t [] = refl
as_many_named t (r ∷ rs) =
    ap (λ b. length (cond b (r.name ∷ filter (bytes_eq t) (map (λ q. q.name) rs)) (filter (bytes_eq t) (map (λ q. q.name) rs))))
    (same_either_way t r.name)
    ∙ go (bytes_eq r.name t) (as_many_named t rs)
  where
    go : (b : Bool) → times_taken t (map (λ q. q.name) rs) ≡ length (filter (has_name t) (map rule_between rs)) →
        length (cond b (r.name ∷ filter (bytes_eq t) (map (λ q. q.name) rs)) (filter (bytes_eq t) (map (λ q. q.name) rs)))
        ≡ length (cond b (rule_between r ∷ filter (has_name t) (map rule_between rs)) (filter (has_name t) (map rule_between rs)))
    go true h = ap suc h
    go false h = h

-- a written rule takes its name once
names_used : (finds : Text → Text → Option Bool) (g : Grammar) (f : Text → ℕ → Text) → IsLevelable finds g f →
    HasNoTildes g →
    AreUsed (after finds g f) (map (λ r. r.name) (rules_of g.items))
names_used finds g f w plain t m lt =
    go (filter (has_name t) (before finds g).rules) refl (subst (λ n. m < n) (as_many_named t (rules_of g.items)) lt)
  where
    found : (e : EnabledRule) → Among (before finds g).rules e → e.name ≡ t → m ≡ zero →
        IsNextAmongRules (after finds g f) t (suc m)
    found e i n z =
        let own : IsRule (before finds g) t e = subst (λ u. IsRule (before finds g) u e) n (w.resolved.rules e i) in
        let r = among_map rule_between (rules_of g.items) e i in
        let o = rule_stays finds g f w t e own in
        let there = rule_there (after finds g f) t o.0 o.1 in
        let bare : before_tilde t ≡ t =
        subst (λ u. before_tilde u ≡ u) (ap (λ x. x.name) r.2 ∙ n) (plain r.0 r.1) in
        subst (λ k. IsNextAmongRules (after finds g f) t (suc k)) (sym z)
        (by_parameters o.0 there.0 there.1 bare o.0.parameters refl)
      where
        by_parameters : (o : EnabledRule) → Among (after finds g f).rules o → o.name ≡ t → before_tilde t ≡ t →
            (ps : List Text) →
            o.parameters ≡ ps → IsNextAmongRules (after finds g f) t (suc zero)
        by_parameters o i n bare [] e = IsNextAmongRules.after_rule o i e (ap before_tilde n ∙ bare) n
        by_parameters o i n bare (p ∷ ps) e = IsNextAmongRules.after_macro o i (λ none. some_left (sym e ∙ none)) n
          where
            some_left : p ∷ ps ≡ [] → ⊥
            some_left x = cc

    go : (es : List EnabledRule) → filter (has_name t) (before finds g).rules ≡ es → m < length es →
        IsNextAmongRules (after finds g f) t (suc m)
    go [] is l = absurd (omega (arith, l))
    go (e ∷ es) is l =
        let v = among_filter (has_name t) (before finds g).rules e (subst (λ x. Among x e) (sym is) (inl refl)) in
        let n = same_text-eq e.name t v.1 in
        let one : e ∷ es ≡ e ∷ [] = sym is
        ∙ subst (λ u. filter (has_name u) (before finds g).rules ≡ e ∷ []) n (w.resolved.rules e v.0) in
        let alone : es ≡ [] = cc in
        let few : length (e ∷ es) ≡ 1 = ap (λ x. length (e ∷ x)) alone in
        found e v.0 n (let z : m ≡ zero = omega (arith, l, few) in z)

-- a level of a rule that is no macro
plain_level : (finds : Text → Text → Option Bool) (g : Grammar) (f : Text → ℕ → Text) → IsLevelable finds g f →
    HasNoTildes g →
    (k : Text × ℕ) → Among (plain_levels g) k → IsPlainLevel (after finds g f) f k
plain_level finds g f w plain k i =
    let u = among_flat_map plain_levels_of (rules_of g.items) k i in
    go u.0 u.1 (has_none u.0.parameters) refl u.2
  where
    named : (m : ℕ) × (f k.0 k.1 ≡ with_number (numbered_text k.0 k.1) m)
    named = numbered_as f (map (λ r. r.name) (rules_of g.items)) (plain_levels g) w.names.plain k i

    no_parameters : (ps : List Text) → has_none ps ≡ true → ps ≡ []
    no_parameters [] h = refl
    no_parameters (p ∷ ps) h = cc

    go : (r : Rule) → Among (rules_of g.items) r → (b : Bool) → has_none r.parameters ≡ b →
        Among (cond b (map (λ j. (r.name, j)) (tighter_levels r)) []) k → IsPlainLevel (after finds g f) f k
    go r j false e h = absurd h
    go r j true e h =
        let v = among_map (λ l. (r.name, l)) (tighter_levels r) k h in
        let q = rule_between (rule_of_key f r (Some v.0)) in
        let is = key_rule finds g f w.names r (Some v.0) j (tighter-among (rule_between r) v.0 v.1) in
        let there = rule_there (after finds g f) (f r.name v.0) q is in
        let rule_is : r.name ≡ k.0 = ap (λ z. z.0) v.2 in
        let name_is : q.name ≡ f k.0 k.1 = ap (λ z. f z.0 z.1) v.2 in
        let bare : before_tilde k.0 ≡ k.0 = subst (λ t. before_tilde t ≡ t) rule_is (plain r j) in (
          q,
          there.0,
          no_parameters r.parameters e,
          name_is,
          ap before_tilde (name_is ∙ named.1) ∙ number_cut (numbered_text k.0 k.1) named.0 (numbered_stays k.0 k.1 bare),
        )

-- the rules' names leave no number out
pub names_packed : (finds : Text → Text → Option Bool) (g : Grammar) (f : Text → ℕ → Text) → IsLevelable finds g f →
    HasNoTildes g →
    HasPackedNames (after finds g f)
names_packed finds g f w plain q i none =
    let u = rule_key finds g f q i in
    let same : rule_between (rule_of_key f u.2.rule u.2.level) ≡ q = ap rule_between u.2.is_it ∙ u.1 in
    let ps : u.2.rule.parameters ≡ [] = sym (key_parameters f u.2.rule u.2.level) ∙ ap (λ e. e.parameters) same ∙ none in
    go u.2.rule u.2.level u.2.among u.2.has_level ps (ap (λ e. e.name) (sym same))
  where
    Packed : Type 0
    Packed = (k : ℕ) × (q.name ≡ with_number (before_tilde q.name) k) × IsNextAmongRules (after finds g f) (before_tilde q.name) k

    -- a rule that has its own name
    own_name : (r : Rule) → Among (rules_of g.items) r → q.name ≡ r.name → Packed
    own_name r j n = (zero, sym (subst (λ t. before_tilde t ≡ t) (sym n) (plain r j)), IsNextAmongRules.first)

    level_of_plain : (r : Rule) (j : ℕ) → Among (tighter_levels r) j → (ps : List Text) → ps ≡ [] →
        Among {A = Text × ℕ} (if has_none ps then map (λ l. (r.name, l)) (tighter_levels r) else []) (r.name, j)
    level_of_plain r j i [] e = map_among (λ l. (r.name, l)) (tighter_levels r) j i
    level_of_plain r j i (p ∷ ps) e = cc

    numbered : (r : Rule) (j : ℕ) → Among (rules_of g.items) r → r.parameters ≡ [] → Among (tighter_levels r) j →
        q.name ≡ f r.name j →
        Packed
    numbered r j i ps t n =
        let listed = flat_map_among plain_levels_of (rules_of g.items) r (r.name, j) i (level_of_plain r j t r.parameters ps) in
        let p = packed_after (after finds g f) f (map (λ a. a.name) (rules_of g.items)) (plain_levels g) w.names.plain
        (names_used finds g f w plain) (plain_level finds g f w plain) (r.name, j) listed in
        let text = numbered_text r.name j in
        let cut : before_tilde q.name ≡ text = ap before_tilde (n ∙ p.1)
        ∙ number_cut text p.0 (numbered_stays r.name j (plain r i)) in (
          p.0,
          n ∙ p.1 ∙ ap (λ t. with_number t p.0) (sym cut),
          subst (λ t. IsNextAmongRules (after finds g f) t p.0) (sym cut) p.2,
        )

    go : (r : Rule) (level : Option ℕ) → Among (rules_of g.items) r → HasLevel (rule_between r) level → r.parameters ≡ [] →
        q.name ≡ (rule_between (rule_of_key f r level)).name → Packed
    go r None i h ps n = own_name r i n
    go r (Some j) i h ps n = by_order (loosest_or_tighter (rule_between r) j h)
      where
        by_order : (loosest (rule_between r) ≡ Some j) ⊎ Among (tighter_levels r) j → Packed
        by_order (inl e) = own_name r i (n ∙ ap (level_name f r.name) (sym e) ∙ w.names.loosest_kept r i)
        by_order (inr t) = numbered r j i ps t n
