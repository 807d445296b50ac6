-- Names that are given by use in the grammar in which each level has a rule of its own are so in the written one; for the law of names
-- that are given by use.
use Rattle.std.specs.Str.{bytes_eq}
use Rattle.std.proofs.Common.{◌≡◌, ◌≢◌, ℕ, suc, ◌+◌, ◌<◌, ◌≤◌, List, [], ◌∷◌, ◌++◌, refl, ap, sym, ◌∙◌, subst, cond, Bool, true, false}
use Rattle.std.proofs.Common.{inl, inr, ◌⊎◌, arith, length}
use Rattle.std.specs.Prelude.{Option, Some, None, ◌==◌, nat_lt, filter, flat_map, map, if◌then◌else◌}
use Rattle.std.proofs.lemmas.Bool.{eq-eqb, eqb-true, ltb-false, ltb-true, true≢false}
use Rattle.std.proofs.lemmas.Grind.{flat_map-append}
use Rattle.lalrpop_grammar_symbols.specs.Symbols.{Text, Closed, Closeds}
use Rattle.lalrpop_grammar.specs.WrittenGrammar.{Rule, Grammar, rules_of}
use Rattle.lalrpop_grammar_language.specs.Among.{Among}
use Rattle.lalrpop_grammar_language.specs.Enabled.{EnabledRule}
use Rattle.lalrpop_grammar_language.specs.Levels.{has_levels, levels, loosest}
use Rattle.lalrpop_grammar_language.specs.Starts.{has_none}
use Rattle.lalrpop_grammar_language.specs.Expansion.{HasLevel, Nonterminal, InExpansion}
use Rattle.lalrpop_grammar_language.proofs.AmongLemmas.{among_flat_map, flat_map_among, map_among}
use Rattle.lalrpop_grammar_language.proofs.PlaceLemmas.{among_map, same_text-eq}
use Rattle.lalrpop_norm_theory.specs.Between.{rule_between}
use Rattle.lalrpop_norm_theory.specs.Keys.{flat_key_text, leveled_key_text, level_text, with_number}
use Rattle.lalrpop_norm_theory.specs.LevelRules.{by_level_names, level_name}
use Rattle.lalrpop_norm_theory.specs.LeveledGrammar.{falling_levels, leveled_rules, levels_in_order, put_level, rule_at_level}
use Rattle.lalrpop_norm_theory.specs.LevelLaws.{IsLevelable, TellsOwnRules, nonterminal_by_level}
use Rattle.lalrpop_norm_theory.specs.LevelNames.{AreNumberedInOrder, HasNoTildes, after_first, numbered_text, plain_levels, plain_levels_of}
use Rattle.lalrpop_norm_theory.specs.LevelNames.{tighter_levels, times_taken}
use Rattle.lalrpop_norm_theory.specs.UsedKeys.{rule_at_levels, tighter_at, unless_macro}
use Rattle.lalrpop_norm_theory.specs.NamesByUse.{AreNumberedByUse, IsNamingByUse, own_texts, texts_of_rules}
use Rattle.lalrpop_norm_theory.proofs.LevelAttrLemmas.{flat_at_level}
use Rattle.lalrpop_norm_theory.proofs.LevelExpansionLemmas.{well_in}
use Rattle.lalrpop_norm_theory.proofs.LevelLemmas.{no_loosest}
use Rattle.lalrpop_norm_theory.proofs.LevelNameLemmas.{after, before}
use Rattle.lalrpop_norm_theory.proofs.LevelOrderLemmas.{falling-front, front, put-only, tighter-among}
use Rattle.lalrpop_norm_theory.proofs.LevelTextLemmas.{printed_alike, text_of_rule}
use Rattle.lalrpop_norm_theory.proofs.LeveledOrderLemmas.{IsOrderHere, order_back, rule_forth, written_in}
use Rattle.lalrpop_norm_theory.proofs.LeveledRuleLemmas.{key_rule, level_of_leveled, leveled_rules_are, map-join}
use Rattle.lalrpop_norm_theory.proofs.NameBackLemmas.{names_back, no_such_key}
use Rattle.lalrpop_norm_theory.proofs.NamesByUseLemmas.{name_of_key}
use Rattle.lalrpop_norm_theory.proofs.RightLevelLemmas.{has_loosest}

-- levels fall

abbrev IsFalling : List ℕ → Type 0
IsFalling [] = Unit {0}
IsFalling (n ∷ ns) = ((k : ℕ) → Among ns k → k < n) × IsFalling ns

below_or_same : (n m : ℕ) → n ≤ m → (n < m) ⊎ (n ≡ m)
below_or_same n m le = grind (arith, le)

put_falls : (n : ℕ) (ms : List ℕ) → IsFalling ms → IsFalling (put_level n ms)
put_falls n [] h = (λ k i. absurd i, tt)
put_falls n (m ∷ ms) h = go (n == m) refl (nat_lt m n) refl (put_falls n ms h.1)
  where
    over : m < n → (k : ℕ) → Among (m ∷ ms) k → k < n
    over lt k (inl e) = omega (arith, lt, e)
    over lt k (inr i) = let below = h.0 k i in omega (arith, lt, below)

    under : (n < m) ⊎ (n ≡ m) → (n == m) ≡ false → (k : ℕ) → (n ≡ k) ⊎ Among ms k → k < m
    under (inl lt) e k (inl same) = omega (arith, lt, same)
    under (inr f) e k (inl same) = absurd (true≢false (sym (eq-eqb n m f) ∙ e))
    under s e k (inr i) = h.0 k i

    go : (b : Bool) → (n == m) ≡ b → (c : Bool) → nat_lt m n ≡ c → IsFalling (put_level n ms)
        → IsFalling (cond b (m ∷ ms) (cond c (n ∷ m ∷ ms) (m ∷ put_level n ms)))
    go true e c d later = h
    go false e true d later = (over (ltb-true m n d), h)
    go false e false d later = (λ k i. under (below_or_same n m (ltb-false m n d)) e k (put-only n k ms i), later)

falling_falls : (ns : List ℕ) → IsFalling (falling_levels ns)
falling_falls [] = tt
falling_falls (n ∷ ns) = put_falls n (falling_levels ns) (falling_falls ns)

-- a tighter level is below the loosest
pub below_loosest : (r : EnabledRule) (j m : ℕ) → loosest r ≡ Some m → Among (after_first (levels_in_order r)) j → j < m
below_loosest r j m e i = go (levels_in_order r) (falling_falls (levels r)) (falling-front (levels r)) i
  where
    go : (ns : List ℕ) → IsFalling ns → front ns ≡ loosest r → Among (after_first ns) j → j < m
    go [] h f k = absurd k
    go (n ∷ ns) h f k =
        let same : Some n ≡ Some m = f ∙ e in
        let number : n ≡ m = cc in
        let below = h.0 j k in omega (arith, below, number)

-- how often texts are taken

times-append : (t : Text) (xs ys : List Text) → times_taken t (xs ++ ys) ≡ times_taken t xs + times_taken t ys
times-append t [] ys = omega arith
times-append t (x ∷ xs) ys = go (bytes_eq t x) (times-append t xs ys)
  where
    go : (b : Bool) → times_taken t (xs ++ ys) ≡ times_taken t xs + times_taken t ys
        → length (cond b (x ∷ filter (bytes_eq t) (xs ++ ys)) (filter (bytes_eq t) (xs ++ ys)))
        ≡ length (cond b (x ∷ filter (bytes_eq t) xs) (filter (bytes_eq t) xs)) + times_taken t ys
    go true e = omega (arith, e)
    go false e = e

one_more : (t x : Text) (xs ys : List Text) → times_taken t xs ≡ times_taken t ys → times_taken t (x ∷ xs) ≡ times_taken t (x ∷ ys)
one_more t x xs ys e = go (bytes_eq t x)
  where
    go : (b : Bool) → length (cond b (x ∷ filter (bytes_eq t) xs) (filter (bytes_eq t) xs))
        ≡ length (cond b (x ∷ filter (bytes_eq t) ys) (filter (bytes_eq t) ys))
    go true = ap suc e
    go false = e

-- texts that are others than this one
never_taken : (t : Text) (xs : List Text) → ((x : Text) → Among xs x → t ≡ x → ⊥) → times_taken t xs ≡ 0
never_taken t [] h = refl
never_taken t (x ∷ xs) h = go (bytes_eq t x) refl (never_taken t xs (λ y i. h y (inr i)))
  where
    go : (b : Bool) → bytes_eq t x ≡ b → times_taken t xs ≡ 0
        → length (cond b (x ∷ filter (bytes_eq t) xs) (filter (bytes_eq t) xs)) ≡ 0
    go true e k = absurd (h x (inl refl) (same_text-eq t x e))
    go false e k = k

-- a level by its rule's name and its number
abbrev key_of_level : Text × ℕ → Closed
key_of_level k = Closed.call k.0 Closeds.none (Some k.1)

-- tighter levels of rules without parameters
tighter_listed : (rs : List Rule) → flat_map (λ r. unless_macro r.parameters (tighter_at r)) (map rule_between rs)
    ≡ map key_of_level (flat_map plain_levels_of rs)
tighter_listed [] = refl
tighter_listed (r ∷ rs) =
    ap (λ l. l ++ flat_map (λ q. unless_macro q.parameters (tighter_at q)) (map rule_between rs)) (one r.parameters)
    ∙ ap (λ l. map key_of_level (plain_levels_of r) ++ l) (tighter_listed rs)
    ∙ sym (map-join key_of_level (plain_levels_of r) (flat_map plain_levels_of rs))
  where
    listed : (js : List ℕ) → map (λ j. Closed.call r.name Closeds.none (Some j)) js ≡ map key_of_level (map (λ j. (r.name, j)) js)
    listed [] = refl
    listed (j ∷ js) = ap (λ l. Closed.call r.name Closeds.none (Some j) ∷ l) (listed js)

    one : (ps : List Text) → unless_macro ps (tighter_at (rule_between r))
        ≡ map key_of_level (if has_none ps then map (λ j. (r.name, j)) (tighter_levels r) else [])
    one [] = listed (tighter_levels r)
    one (p ∷ ps) = refl

-- a level of a rule without parameters
record IsPlainLevel (g : Grammar) (k : Text × ℕ) : Type 0 where
  rule : Rule
  among : Among (rules_of g.items) rule
  plain : rule.parameters ≡ []
  name_is : rule.name ≡ k.0
  tighter : Among (tighter_levels rule) k.1

is_plain_level : (g : Grammar) (k : Text × ℕ) → Among (plain_levels g) k → IsPlainLevel g k
is_plain_level g k i =
    let u = among_flat_map plain_levels_of (rules_of g.items) k i in go u.0 u.1 u.0.parameters refl u.2
  where
    go : (r : Rule) → Among (rules_of g.items) r → (ps : List Text) → r.parameters ≡ ps
        → Among (if has_none ps then map (λ j. (r.name, j)) (tighter_levels r) else []) k → IsPlainLevel g k
    go r h [] e t =
        let v = among_map (λ j. (r.name, j)) (tighter_levels r) k t in
        record {
          rule = r;
          among = h;
          plain = e;
          name_is = ap (λ (z : Text × ℕ). z.0) v.2;
          tighter = subst (Among (tighter_levels r)) (ap (λ (z : Text × ℕ). z.1) v.2) v.1;
        }
    go r h (p ∷ ps) e t = absurd t

module _ (finds : Text → Text → Option Bool) (g : Grammar) (f : Text → ℕ → Text) (w : IsLevelable finds g f) (plain : HasNoTildes g) where
  abbrev IsIn : Closed → Type 0
  IsIn x = InExpansion (before finds g) (Nonterminal.closed x)

  abbrev text_here : Closed → Text
  text_here = leveled_key_text (before finds g)

  printed : (x : Closed) → IsIn x → flat_key_text (by_level_names f x) ≡ text_here x
  printed x i = printed_alike finds g f w plain x (well_in finds g f w (Nonterminal.closed x) i)

  -- a tighter level prints with its number
  tighter_text : (r : Rule) → Among (rules_of g.items) r → (j : ℕ) → Among (tighter_levels r) j
      → level_text (before finds g) r.name (Some j) ≡ numbered_text r.name j
  tighter_text r i j t = go (loosest (rule_between r)) refl (has_loosest g w.right r i)
    where
      go : (o : Option ℕ) → loosest (rule_between r) ≡ o → HasLevel (rule_between r) (loosest (rule_between r))
          → level_text (before finds g) r.name (Some j) ≡ numbered_text r.name j
      go None e h =
          let flat : has_levels (rule_between r) ≡ false = subst (HasLevel (rule_between r)) e h in
          absurd (true≢false (sym (level_of_leveled (rule_between r) j (tighter-among (rule_between r) j t)) ∙ flat))
      go (Some m) e h =
          text_of_rule finds g f w r i j m e ∙ ap (λ b. cond b r.name (numbered_text r.name j)) (other (j == m) refl)
        where
          other : (b : Bool) → (j == m) ≡ b → (j == m) ≡ false
          other true k =
              let same : j ≡ m = eqb-true j m k in
              let below = below_loosest (rule_between r) j m e t in
              let wrong : ⊥ = omega (arith, same, below) in absurd wrong
          other false k = k

  -- which texts rules take

  abbrev texts_by : (Closed → Text) → EnabledRule → List Text
  texts_by text_of q = own_texts q.parameters q.name (map text_of (rule_at_levels q))

  same_texts : (xs : List Closed) → ((x : Closed) → Among xs x → IsIn x)
      → map flat_key_text (map (by_level_names f) xs) ≡ map text_here xs
  same_texts [] h = refl
  same_texts (x ∷ xs) h =
      ap (λ t. t ∷ map flat_key_text (map (by_level_names f) xs)) (printed x (h x (inl refl)))
      ∙ ap (λ l. text_here x ∷ l) (same_texts xs (λ y i. h y (inr i)))

  abbrev own_keys : EnabledRule → List Closed
  own_keys q = unless_macro q.parameters (rule_at_levels q)

  -- rules without parameters take the texts of their levels
  plain_texts : (qs : List EnabledRule) → ((q : EnabledRule) → Among qs q → q.parameters ≡ [])
      → flat_map (texts_by flat_key_text) qs ≡ map flat_key_text (flat_map own_keys qs)
  plain_texts [] h = refl
  plain_texts (q ∷ qs) h =
      ap (λ ps. own_texts ps q.name (map flat_key_text (rule_at_levels q)) ++ flat_map (texts_by flat_key_text) qs) (h q (inl refl))
      ∙ ap (λ ps. map flat_key_text (unless_macro ps (rule_at_levels q)) ++ flat_map (texts_by flat_key_text) qs) (sym (h q (inl refl)))
      ∙ ap (λ l. map flat_key_text (own_keys q) ++ l) (plain_texts qs (λ p i. h p (inr i)))
      ∙ sym (map-join flat_key_text (own_keys q) (flat_map own_keys qs))

  -- macros take their names
  macro_texts : (p : Text) (ps : List Text) (qs : List EnabledRule) → ((q : EnabledRule) → Among qs q → q.parameters ≡ p ∷ ps)
      → flat_map (texts_by flat_key_text) qs ≡ map (λ q. q.name) qs
  macro_texts p ps [] h = refl
  macro_texts p ps (q ∷ qs) h =
      ap (λ l. own_texts l q.name (map flat_key_text (rule_at_levels q)) ++ flat_map (texts_by flat_key_text) qs) (h q (inl refl))
      ∙ ap (λ l. q.name ∷ l) (macro_texts p ps qs (λ z i. h z (inr i)))

  -- the rules of levels have the parameters of the rule
  leveled_parameters : (r : Rule) (q : EnabledRule) → Among (map rule_between (leveled_rules f r)) q → q.parameters ≡ r.parameters
  leveled_parameters r q i =
      let u = among_map rule_between (leveled_rules f r) q i in
      ap (λ z. z.parameters) (sym u.2) ∙ of_rule (has_levels (rule_between r)) u.0 u.1
    where
      of_rule : (b : Bool) → (k : Rule) → Among (cond b (map (rule_at_level f r) (levels_in_order (rule_between r))) (r ∷ [])) k
          → k.parameters ≡ r.parameters
      of_rule true k h =
          let v = among_map (rule_at_level f r) (levels_in_order (rule_between r)) k h in ap (λ z. z.parameters) (sym v.2)
      of_rule false k (inl e) = ap (λ z. z.parameters) (sym e)
      of_rule false k (inr h) = absurd h

  names_at_levels : (r : Rule) (js : List ℕ)
      → map (λ q. q.name) (map rule_between (map (rule_at_level f r) js)) ≡ map (λ j. f r.name j) js
  names_at_levels r [] = refl
  names_at_levels r (j ∷ js) = ap (λ l. f r.name j ∷ l) (names_at_levels r js)

  -- of the names of a macro's levels its own alone is the text of a key
  macro_times : (r : Rule) → Among (rules_of g.items) r → r.parameters ≢ [] → (x : Closed) → IsIn x
      → times_taken (text_here x) (map (λ q. q.name) (map rule_between (leveled_rules f r))) ≡ times_taken (text_here x) (r.name ∷ [])
  macro_times r i macro x j = go (has_levels (rule_between r)) refl
    where
      by_order : (ns : List ℕ) → levels_in_order (rule_between r) ≡ ns → has_levels (rule_between r) ≡ true
          → times_taken (text_here x) (map (λ k. f r.name k) ns) ≡ times_taken (text_here x) (r.name ∷ [])
      by_order [] e leveled =
          let none : None ≡ loosest (rule_between r) = ap front (sym e) ∙ falling-front (levels (rule_between r)) in
          let flat : has_levels (rule_between r) ≡ false =
          subst (HasLevel (rule_between r)) (sym none) (has_loosest g w.right r i) in
          absurd (true≢false (sym leveled ∙ flat))
      by_order (n ∷ ms) e leveled =
          let first : Some n ≡ loosest (rule_between r) = ap front (sym e) ∙ falling-front (levels (rule_between r)) in
          let own : f r.name n ≡ r.name = ap (level_name f r.name) first ∙ w.names.loosest_kept r i in
          ap (λ t. times_taken (text_here x) (t ∷ map (λ k. f r.name k) ms)) own
          ∙ one_more (text_here x) r.name (map (λ k. f r.name k) ms) [] (never_taken (text_here x) (map (λ k. f r.name k) ms) (λ y k same.
          let u = among_map (λ l. f r.name l) ms y k in
          let tighter : Among (tighter_levels r) u.0 = subst (λ l. Among (after_first l) u.0) (sym e) u.1 in
          no_such_key finds g f w r u.0 (record {
            among = i;
            macro = macro;
            level = tighter;
            not_loosest = λ o. let below = below_loosest (rule_between r) u.0 u.0 o tighter in omega (arith, below);
          }) x j (same ∙ sym u.2)))

      go : (b : Bool) → has_levels (rule_between r) ≡ b
          → times_taken (text_here x)
          (map (λ q. q.name) (map rule_between (cond b (map (rule_at_level f r) (levels_in_order (rule_between r))) (r ∷ []))))
          ≡ times_taken (text_here x) (r.name ∷ [])
      go true e =
          ap (times_taken (text_here x)) (names_at_levels r (levels_in_order (rule_between r)))
          ∙ by_order (levels_in_order (rule_between r)) refl e
      go false e = refl

  rule_times : (r : Rule) → Among (rules_of g.items) r → (x : Closed) → IsIn x
      → times_taken (text_here x) (flat_map (texts_by flat_key_text) (map rule_between (leveled_rules f r)))
      ≡ times_taken (text_here x) (texts_by text_here (rule_between r))
  rule_times r i x j = go r.parameters refl
    where
      levels_in : r.parameters ≡ [] → (y : Closed) → Among (rule_at_levels (rule_between r)) y → IsIn y
      levels_in e y h =
          written_in finds g f w y (flat_map_among own_keys (before finds g).rules (rule_between r) y
          (map_among rule_between (rules_of g.items) r i)
          (subst (λ ps. Among (unless_macro ps (rule_at_levels (rule_between r))) y) (sym e) h))

      go : (ps : List Text) → r.parameters ≡ ps
          → times_taken (text_here x) (flat_map (texts_by flat_key_text) (map rule_between (leveled_rules f r)))
          ≡ times_taken (text_here x) (texts_by text_here (rule_between r))
      go [] e =
          ap (times_taken (text_here x))
          (plain_texts (map rule_between (leveled_rules f r)) (λ q h. leveled_parameters r q h ∙ e)
          ∙ ap (map flat_key_text) (rule_forth finds g f w r i)
          ∙ ap (λ ps. map flat_key_text (map (by_level_names f) (unless_macro ps (rule_at_levels (rule_between r))))) e
          ∙ same_texts (rule_at_levels (rule_between r)) (levels_in e)
          ∙ ap (λ ps. own_texts ps r.name (map text_here (rule_at_levels (rule_between r)))) (sym e))
      go (p ∷ ps) e =
          ap (times_taken (text_here x))
          (macro_texts p ps (map rule_between (leveled_rules f r)) (λ q h. leveled_parameters r q h ∙ e))
          ∙ macro_times r i (λ none. let wrong : p ∷ ps ≡ [] = sym e ∙ none in cc) x j
          ∙ ap (λ l. times_taken (text_here x) (own_texts l r.name (map text_here (rule_at_levels (rule_between r))))) (sym e)

  all_times : (rs : List Rule) → ((r : Rule) → Among rs r → Among (rules_of g.items) r) → (x : Closed) → IsIn x
      → times_taken (text_here x) (flat_map (texts_by flat_key_text) (map rule_between (flat_map (leveled_rules f) rs)))
      ≡ times_taken (text_here x) (flat_map (texts_by text_here) (map rule_between rs))
  all_times [] all x j = refl
  all_times (r ∷ rs) all x j =
      ap (λ l. times_taken (text_here x) (flat_map (texts_by flat_key_text) l))
      (map-join rule_between (leveled_rules f r) (flat_map (leveled_rules f) rs))
      ∙ ap (times_taken (text_here x)) (flat_map-append (texts_by flat_key_text) (map rule_between (leveled_rules f r))
      (map rule_between (flat_map (leveled_rules f) rs)))
      ∙ times-append (text_here x) (flat_map (texts_by flat_key_text) (map rule_between (leveled_rules f r)))
      (flat_map (texts_by flat_key_text) (map rule_between (flat_map (leveled_rules f) rs)))
      ∙ ap (λ n. n + times_taken (text_here x) (flat_map (texts_by flat_key_text) (map rule_between (flat_map (leveled_rules f) rs))))
      (rule_times r (all r (inl refl)) x j)
      ∙ ap (λ n. times_taken (text_here x) (texts_by text_here (rule_between r)) + n) (all_times rs (λ q i. all q (inr i)) x j)
      ∙ sym (times-append (text_here x) (texts_by text_here (rule_between r)) (flat_map (texts_by text_here) (map rule_between rs)))

  -- a key's text is taken as often by the rules of levels as by the written ones
  rules_times : (x : Closed) → IsIn x → times_taken (text_here x) (texts_of_rules flat_key_text (after finds g f))
      ≡ times_taken (text_here x) (texts_of_rules text_here (before finds g))
  rules_times x j =
      ap (λ l. times_taken (text_here x) (flat_map (texts_by flat_key_text) l)) (leveled_rules_are finds g f)
      ∙ all_times (rules_of g.items) (λ r i. i) x j

  -- names

  module _ (name_of : Nonterminal → Text) where
    abbrev name_here : Closed → Text
    name_here x = name_of (Nonterminal.closed (by_level_names f x))

    numbers_back : (xs : List Closed) (ta tb : List Text) → ((x : Closed) → Among xs x → IsIn x)
        → ((x : Closed) → IsIn x → times_taken (text_here x) ta ≡ times_taken (text_here x) tb)
        → AreNumberedByUse flat_key_text (name_of_key name_of) ta (map (by_level_names f) xs)
        → AreNumberedByUse text_here name_here tb xs
    numbers_back [] ta tb i h v = tt
    numbers_back (x ∷ xs) ta tb i h v = (
      v.0 ∙ ap (λ t. with_number t (times_taken t ta)) (printed x (i x (inl refl)))
          ∙ ap (with_number (text_here x)) (h x (i x (inl refl))),
      numbers_back xs (flat_key_text (by_level_names f x) ∷ ta) (text_here x ∷ tb) (λ y j. i y (inr j))
          (λ y j. ap (λ t. times_taken (text_here y) (t ∷ ta)) (printed x (i x (inl refl)))
          ∙ one_more (text_here y) (text_here x) ta tb (h y j))
          v.1,
    )

    -- the rule of a tighter level keeps its name
    level_named : (prefix : Text) → IsNamingByUse flat_key_text prefix (after finds g f) name_of → (k : Text × ℕ) → IsPlainLevel g k
        → name_here (key_of_level k) ≡ f k.0 k.1
    level_named prefix v k l =
        let r = l.rule in
        let q = rule_between (rule_at_level f r k.1) in
        let is = key_rule finds g f w.names r (Some k.1) l.among (tighter-among (rule_between r) k.1 l.tighter) in
        subst (λ t. name_of (Nonterminal.closed (Closed.call (f t k.1) Closeds.none None)) ≡ f t k.1) l.name_is
        (ap (λ o. name_of (Nonterminal.closed (Closed.call (f r.name k.1) Closeds.none o))) (sym (no_loosest q (flat_at_level f r k.1)))
        ∙ v.naming.rules q is l.plain)

    levels_back : (prefix : Text) → IsNamingByUse flat_key_text prefix (after finds g f) name_of → (ks : List (Text × ℕ))
        → ((k : Text × ℕ) → Among ks k → IsPlainLevel g k) → (taken : List Text) → AreNumberedInOrder f taken ks
        → AreNumberedByUse text_here name_here taken (map key_of_level ks)
    levels_back prefix v [] i taken h = tt
    levels_back prefix v (k ∷ ks) i taken h = (
      level_named prefix v k (i k (inl refl)) ∙ h.0 ∙ ap (λ t. with_number t (times_taken t taken)) (sym printed_so),
      subst (λ t. AreNumberedByUse text_here name_here (t ∷ taken) (map key_of_level ks)) (sym printed_so)
          (levels_back prefix v ks (λ z j. i z (inr j)) (numbered_text k.0 k.1 ∷ taken) h.1),
    )
      where
        printed_so : text_here (key_of_level k) ≡ numbered_text k.0 k.1
        printed_so =
            let l = i k (inl refl) in
            subst (λ t. level_text (before finds g) t (Some k.1) ≡ numbered_text t k.1) l.name_is
            (tighter_text l.rule l.among k.1 l.tighter)

    names_of_rules : (rs : List Rule) → map (λ q. q.name) (map rule_between rs) ≡ map (λ r. r.name) rs
    names_of_rules [] = refl
    names_of_rules (r ∷ rs) = ap (λ l. r.name ∷ l) (names_of_rules rs)

    -- names that are given by use there are so here
    pub naming_by_use_back : (prefix : Text) → TellsOwnRules g → IsNamingByUse flat_key_text prefix (after finds g f) name_of
        → IsNamingByUse text_here prefix (before finds g) (λ x. name_of (nonterminal_by_level f x))
    naming_by_use_back prefix tells v =
        let o : IsOrderHere finds g f w v.others = order_back finds g f w v.others v.in_order in
        record {
          naming = names_back finds g f prefix name_of w tells plain v.naming;
          levels = subst (AreNumberedByUse text_here name_here (map (λ q. q.name) (before finds g).rules))
              (sym (tighter_listed (rules_of g.items)))
              (subst (λ l. AreNumberedByUse text_here name_here l (map key_of_level (plain_levels g))) (sym (names_of_rules (rules_of g.items)))
              (levels_back prefix v (plain_levels g) (λ k i. is_plain_level g k i) (map (λ r. r.name) (rules_of g.items)) w.names.plain));
          others = o.others;
          in_order = o.in_order;
          numbered = numbers_back o.others (texts_of_rules flat_key_text (after finds g f)) (texts_of_rules text_here (before finds g))
              o.are_in (λ x j. rules_times x j)
              (subst (AreNumberedByUse flat_key_text (name_of_key name_of) (texts_of_rules flat_key_text (after finds g f))) o.more_is v.numbered);
        }
