-- Which names the levels of rules have, and how they print; for the law of names.
use Rattle.std.specs.Str.{bytes_eq}
use Rattle.std.proofs.Common.{◌≡◌, ◌≢◌, ℕ, List, [], ◌∷◌, refl, ap, sym, ◌∙◌, subst, cond, Bool, true, false}
use Rattle.std.proofs.Common.{inl, inr, ◌⊎◌, length, zero}
use Rattle.std.specs.Prelude.{Option, Some, None, map, filter, ◌==◌}
use Rattle.std.specs.Prelude.{if◌then◌else◌}
use Rattle.std.proofs.lemmas.Bool.{true≢false, eqb-true, eq-eqb, or_parts, or_from}
use Rattle.lalrpop_grammar_symbols.specs.Symbols.{Text, Closed, Closeds}
use Rattle.lalrpop_grammar_symbols.specs.Texts.{macro_text, group_text, choose_text, named_text, repeat_text}
use Rattle.lalrpop_grammar.specs.WrittenGrammar.{Rule, Grammar, rules_of}
use Rattle.lalrpop_grammar_language.specs.Among.{Among}
use Rattle.lalrpop_grammar_language.specs.Enabled.{has_text}
use Rattle.lalrpop_grammar_language.specs.Levels.{has_levels, loosest}
use Rattle.lalrpop_grammar_language.specs.Starts.{has_none}
use Rattle.lalrpop_grammar_language.specs.Expansion.{HasLevel}
use Rattle.lalrpop_grammar_language.proofs.ComparisonLemmas.{same_text-refl}
use Rattle.lalrpop_grammar_language.proofs.PlaceLemmas.{same_text-eq}
use Rattle.lalrpop_norm_theory.specs.Between.{rule_between}
use Rattle.lalrpop_norm_theory.specs.Keys.{closed_texts, text_beside, text_at_level, level_text, leveled_key_text}
use Rattle.lalrpop_norm_theory.specs.Keys.{flat_key_text, with_number, before_tilde}
use Rattle.lalrpop_grammar_language.proofs.AmongLemmas.{flat_map_among}
use Rattle.lalrpop_grammar_language.proofs.AmongLemmas.{map_among}
use Rattle.lalrpop_norm_theory.specs.LevelRules.{level_name, by_level_names, all_by_level_names}
use Rattle.lalrpop_norm_theory.specs.LevelNames.{tighter_levels, numbered_text, plain_levels_of, plain_levels, times_taken}
use Rattle.lalrpop_norm_theory.specs.LevelNames.{AreNumberedInOrder, HasNoTildes}
use Rattle.lalrpop_norm_theory.specs.LevelLaws.{IsLevelable}
use Rattle.lalrpop_norm_theory.proofs.LevelOrderLemmas.{loosest_or_tighter}
use Rattle.lalrpop_norm_theory.proofs.LeveledRuleLemmas.{level_of_leveled, written_rule}
use Rattle.lalrpop_norm_theory.proofs.RightLevelLemmas.{has_loosest}
use Rattle.lalrpop_norm_theory.proofs.LevelNameLemmas.{before, own_rule}
use Rattle.lalrpop_norm_theory.proofs.PackedNameLemmas.{macro_numbered, number_cut, numbered_stays, numbered_as}
use Rattle.lalrpop_norm_theory.proofs.WellLeveledLemmas.{IsWellCall, IsWell, AreWell, IsWellOrFaulty}

-- a level's name

-- The level is the rule's own, or another one, whose number prints. The loosest level prints as the rule.
pub data IsNamedLevel (finds : Text → Text → Option Bool) (g : Grammar) (f : Text → ℕ → Text) (r : Rule) (level : Option ℕ) :
    Type 0 where
  own : level_name f r.name level ≡ r.name → level_text (before finds g) r.name level ≡ r.name → IsNamedLevel finds g f r level
  tighter : (j : ℕ) → level ≡ Some j → Among (tighter_levels r) j → loosest (rule_between r) ≢ Some j →
      level_text (before finds g) r.name level ≡ numbered_text r.name j → IsNamedLevel finds g f r level

-- the loosest level prints as the rule, another one with its number
pub text_of_rule : (finds : Text → Text → Option Bool) (g : Grammar) (f : Text → ℕ → Text) → IsLevelable finds g f →
    (r : Rule) →
    Among (rules_of g.items) r → (j m : ℕ) → loosest (rule_between r) ≡ Some m →
    level_text (before finds g) r.name (Some j) ≡ (if j == m then r.name else numbered_text r.name j)
text_of_rule finds g f w r i j m e =
    ap (λ rs. text_at_level r.name j rs) (own_rule finds g f w r i) ∙ ap (λ o. text_beside r.name j o) e

-- each level of a rule is called and prints as the rule, or is a tighter one that prints with its number
pub named_level : (finds : Text → Text → Option Bool) (g : Grammar) (f : Text → ℕ → Text) → IsLevelable finds g f →
    (r : Rule) →
    Among (rules_of g.items) r → (level : Option ℕ) → HasLevel (rule_between r) level → IsNamedLevel finds g f r level
named_level finds g f w r i None h = IsNamedLevel.own refl refl
named_level finds g f w r i (Some j) h = by_loosest (loosest (rule_between r)) refl (has_loosest g w.right r i)
  where
    by_order : (m : ℕ) → loosest (rule_between r) ≡ Some m → (b : Bool) → (j == m) ≡ b →
        (loosest (rule_between r) ≡ Some j) ⊎ Among (tighter_levels r) j → IsNamedLevel finds g f r (Some j)
    by_order m e true same o =
        let number : j ≡ m = eqb-true j m same in
        IsNamedLevel.own (ap (f r.name) number ∙ ap (level_name f r.name) (sym e) ∙ w.names.loosest_kept r i)
        (text_of_rule finds g f w r i j m e ∙ ap (λ b. cond b r.name (numbered_text r.name j)) same)
    by_order m e false same (inl o) =
        let number : j ≡ m = cc in absurd (true≢false (sym (eq-eqb j m number) ∙ same))
    by_order m e false same (inr t) =
        IsNamedLevel.tighter j refl t not_loosest
        (text_of_rule finds g f w r i j m e ∙ ap (λ b. cond b r.name (numbered_text r.name j)) same)
      where
        not_loosest : loosest (rule_between r) ≢ Some j
        not_loosest o = let number : j ≡ m = cc in true≢false (sym (eq-eqb j m number) ∙ same)

    by_loosest : (o : Option ℕ) → loosest (rule_between r) ≡ o → HasLevel (rule_between r) (loosest (rule_between r)) →
        IsNamedLevel finds g f r (Some j)
    by_loosest None e k =
        let flat : has_levels (rule_between r) ≡ false = subst (HasLevel (rule_between r)) e k in
        absurd (true≢false (sym (level_of_leveled (rule_between r) j h) ∙ flat))
    by_loosest (Some m) e k = by_order m e (j == m) refl (loosest_or_tighter (rule_between r) j h)

-- levels of plain rules are listed
pub plain_listed : (g : Grammar) (r : Rule) (j : ℕ) → Among (rules_of g.items) r → r.parameters ≡ [] →
    Among (tighter_levels r) j →
    Among {A = Text × ℕ} (plain_levels g) (r.name, j)
plain_listed g r j i none t = flat_map_among plain_levels_of (rules_of g.items) r (r.name, j) i (listed r.parameters none)
  where
    listed : (ps : List Text) → ps ≡ [] →
        Among {A = Text × ℕ} (if has_none ps then map (λ l. (r.name, l)) (tighter_levels r) else []) (r.name, j)
    listed [] e = map_among (λ l. (r.name, l)) (tighter_levels r) j t
    listed (p ∷ ps) e = cc

-- a tighter level is called by its text, or by that with a number
pub numbered_name : (finds : Text → Text → Option Bool) (g : Grammar) (f : Text → ℕ → Text) → IsLevelable finds g f →
    (r : Rule) →
    Among (rules_of g.items) r → (j : ℕ) → Among (tighter_levels r) j →
    (k : ℕ) × (f r.name j ≡ with_number (numbered_text r.name j) k)
numbered_name finds g f w r i j t = go r.parameters refl
  where
    some_left : (p : Text) (ps : List Text) → p ∷ ps ≡ [] → ⊥
    some_left p ps e = cc

    go : (ps : List Text) → r.parameters ≡ ps → (k : ℕ) × (f r.name j ≡ with_number (numbered_text r.name j) k)
    go [] e =
        numbered_as f (map (λ q. q.name) (rules_of g.items)) (plain_levels g) w.names.plain (r.name, j) (plain_listed g r j i e t)
    go (p ∷ ps) e = macro_numbered g f w.names r j i (λ none. some_left p ps (sym e ∙ none)) t

-- how keys print

level_printed : (finds : Text → Text → Option Bool) (g : Grammar) (f : Text → ℕ → Text) → IsLevelable finds g f →
    HasNoTildes g →
    (r : Rule) → Among (rules_of g.items) r → (level : Option ℕ) → IsNamedLevel finds g f r level →
    before_tilde (level_name f r.name level) ≡ level_text (before finds g) r.name level
level_printed finds g f w plain r i level (IsNamedLevel.own e t) = ap before_tilde e ∙ plain r i ∙ sym t
level_printed finds g f w plain r i level (IsNamedLevel.tighter j e t far text) =
    let k = numbered_name finds g f w r i j t in
    ap (λ l. before_tilde (level_name f r.name l)) e ∙ ap before_tilde k.1
    ∙ number_cut (numbered_text r.name j) k.0 (numbered_stays r.name j (plain r i)) ∙ sym text

call_printed : (finds : Text → Text → Option Bool) (g : Grammar) (f : Text → ℕ → Text) → IsLevelable finds g f →
    HasNoTildes g →
    (n : Text) (args : Closeds) (level : Option ℕ) → IsWellCall (before finds g) n args level →
    before_tilde (level_name f n level) ≡ level_text (before finds g) n level
call_printed finds g f w plain n args level call =
    let u = written_rule finds g n call.rule call.is_rule in
    let has : HasLevel (rule_between u.0) level = subst (λ e. HasLevel e level) (sym u.2) call.has_level in
    subst (λ t. before_tilde (level_name f t level) ≡ level_text (before finds g) t level) u.3
    (level_printed finds g f w plain u.0 u.1 level (named_level finds g f w u.0 u.1 level has))

abbrev flat_texts : Closeds → List Text
flat_texts = closed_texts (λ n level. before_tilde n)

abbrev leveled_texts : (Text → Text → Option Bool) → Grammar → Closeds → List Text
leveled_texts finds g = closed_texts (level_text (before finds g))

mutual
  key_printed : (finds : Text → Text → Option Bool) (g : Grammar) (f : Text → ℕ → Text) → IsLevelable finds g f →
      HasNoTildes g →
      (x : Closed) → IsWell (before finds g) x → flat_key_text (by_level_names f x) ≡ leveled_key_text (before finds g) x
  key_printed finds g f w plain (Closed.terminal t) h = refl
  key_printed finds g f w plain (Closed.call n Closeds.none level) h = call_printed finds g f w plain n Closeds.none level h.0
  key_printed finds g f w plain (Closed.call n (Closeds.more x xs) level) h =
      ap (λ t. macro_text t (flat_texts (all_by_level_names f (Closeds.more x xs))))
      (call_printed finds g f w plain n (Closeds.more x xs) level h.0)
      ∙ ap (λ ts. macro_text (level_text (before finds g) n level) ts) (keys_printed finds g f w plain (Closeds.more x xs) h.1)
  key_printed finds g f w plain (Closed.repeat op x) h = ap (λ t. repeat_text op t) (key_printed finds g f w plain x h)
  key_printed finds g f w plain (Closed.group xs) h = ap group_text (keys_printed finds g f w plain xs h)
  key_printed finds g f w plain (Closed.choose x) h = ap choose_text (key_printed finds g f w plain x h)
  key_printed finds g f w plain (Closed.name m n x) h = ap (λ t. named_text m n t) (key_printed finds g f w plain x h)
  key_printed finds g f w plain Closed.lookahead h = refl
  key_printed finds g f w plain Closed.lookbehind h = refl
  key_printed finds g f w plain Closed.faulty h = refl

  keys_printed : (finds : Text → Text → Option Bool) (g : Grammar) (f : Text → ℕ → Text) → IsLevelable finds g f →
      HasNoTildes g →
      (xs : Closeds) → AreWell (before finds g) xs → flat_texts (all_by_level_names f xs) ≡ leveled_texts finds g xs
  keys_printed finds g f w plain Closeds.none h = refl
  keys_printed finds g f w plain (Closeds.more x xs) h =
      ap (λ t. t ∷ flat_texts (all_by_level_names f xs)) (key_printed finds g f w plain x h.0)
      ∙ ap (λ ts. leveled_key_text (before finds g) x ∷ ts) (keys_printed finds g f w plain xs h.1)

-- a key of the expansion prints with its levels as it does under their names
pub printed_alike : (finds : Text → Text → Option Bool) (g : Grammar) (f : Text → ℕ → Text) → IsLevelable finds g f →
    HasNoTildes g →
    (x : Closed) → IsWellOrFaulty (before finds g) x → flat_key_text (by_level_names f x) ≡ leveled_key_text (before finds g) x
printed_alike finds g f w plain x (inl e) =
    ap (λ y. flat_key_text (by_level_names f y)) e ∙ ap (leveled_key_text (before finds g)) (sym e)
printed_alike finds g f w plain x (inr h) = key_printed finds g f w plain x h

-- the first plain level of a text that no rule takes has no number
pub first_of_text : (f : Text → ℕ → Text) (text : Text) (taken : List Text) (ks : List (Text × ℕ)) →
    AreNumberedInOrder f taken ks →
    has_text text taken ≡ false → (k : Text × ℕ) → Among ks k → numbered_text k.0 k.1 ≡ text →
    (first : Text × ℕ) × Among ks first × (f first.0 first.1 ≡ text)
first_of_text f text taken [] w free k i e = absurd i
first_of_text f text taken (l ∷ ks) w free k i e =
    go (bytes_eq text (numbered_text l.0 l.1)) refl i
    (λ h j. first_of_text f text (numbered_text l.0 l.1 ∷ taken) ks w.1 h k j e)
  where
    none_taken : (ts : List Text) → has_text text ts ≡ false → filter (bytes_eq text) ts ≡ []
    none_taken [] h = refl
    none_taken (t ∷ ts) h =
        let parts = or_parts (bytes_eq text t) (has_text text ts) h in
        ap (λ b. cond b (t ∷ filter (bytes_eq text) ts) (filter (bytes_eq text) ts)) parts.0 ∙ none_taken ts parts.1

    differs : (k ≡ l → ⊥) → Among (l ∷ ks) k → Among ks k
    differs other (inl same) = absurd (other (sym same))
    differs other (inr j) = j

    not_it : bytes_eq text (numbered_text l.0 l.1) ≡ false → k ≡ l → ⊥
    not_it other same =
        let it : bytes_eq text (numbered_text k.0 k.1) ≡ true = subst (λ t. bytes_eq text t ≡ true) (sym e) (same_text-refl text) in
        true≢false (sym (subst (λ z. bytes_eq text (numbered_text z.0 z.1) ≡ true) same it) ∙ other)

    go : (b : Bool) → bytes_eq text (numbered_text l.0 l.1) ≡ b → Among (l ∷ ks) k →
        (has_text text (numbered_text l.0 l.1 ∷ taken) ≡ false → Among ks k →
        (first : Text × ℕ) × Among ks first × (f first.0 first.1 ≡ text)) →
        (first : Text × ℕ) × Among (l ∷ ks) first × (f first.0 first.1 ≡ text)
    go true same j later =
        let is : text ≡ numbered_text l.0 l.1 = same_text-eq text (numbered_text l.0 l.1) same in
        let times : times_taken (numbered_text l.0 l.1) taken ≡ zero =
        ap (λ t. times_taken t taken) (sym is) ∙ ap length (none_taken taken free) in
        (l, inl refl, w.0 ∙ ap (λ m. with_number (numbered_text l.0 l.1) m) times ∙ sym is)
    go false other j later =
        let u = later (or_from (bytes_eq text (numbered_text l.0 l.1)) (has_text text taken) other free) (differs (not_it other) j) in
        (u.0, inr u.1, u.2)
