-- Names that don't begin with underscores; for the laws of names.
use Rattle.std.specs.Fmt.{digits, digits_onto, digit_glyph}
use Rattle.std.proofs.Common.{◌≡◌, ◌≢◌, ℕ, zero, suc, ◌+◌, ◌<◌, [], ◌∷◌, ◌++◌, refl, ap, sym}
use Rattle.std.proofs.Common.{◌∙◌, subst, cond}
use Rattle.std.proofs.Common.{Bool, true, false, inl, inr, ◌⊎◌, arith}
use Rattle.std.specs.Prelude.{◌==◌, ◌/◌, ◌%◌, Option, Some, None, decimal, replicate}
use Rattle.std.proofs.lemmas.Bool.{true≢false, eq-eqb}
use Rattle.std.proofs.lemmas.Bool.Decides.{nat_tests}
use Rattle.std.proofs.lemmas.List.{append_assoc}
use Rattle.lalrpop_grammar_symbols.specs.Symbols.{Text}
use Rattle.lalrpop_grammar.specs.WrittenGrammar.{Rule, Grammar, rules_of}
use Rattle.lalrpop_grammar_language.specs.Among.{Among}
use Rattle.lalrpop_grammar_language.specs.Enabled.{EnabledRule}
use Rattle.lalrpop_grammar_language.specs.Levels.{loosest}
use Rattle.lalrpop_grammar_language.specs.Expansion.{HasLevel}
use Rattle.lalrpop_norm_theory.specs.Between.{grammar_between, rule_between}
use Rattle.lalrpop_norm_theory.specs.Keys.{with_number, before_tilde}
use Rattle.lalrpop_grammar_language.proofs.AmongLemmas.{map_among}
use Rattle.lalrpop_norm_theory.specs.LevelRules.{level_name}
use Rattle.lalrpop_norm_theory.specs.LeveledGrammar.{leveled_grammar, levels_in_order}
use Rattle.lalrpop_norm_theory.specs.LevelNames.{after_first, numbered_text}
use Rattle.lalrpop_norm_theory.specs.LevelLaws.{IsLevelable}
use Rattle.lalrpop_norm_theory.proofs.LeveledRuleLemmas.{bares_of-leveled, rule_key, rule_of_key}
use Rattle.lalrpop_norm_theory.proofs.LevelNameLemmas.{after}
use Rattle.lalrpop_norm_theory.proofs.LevelOrderLemmas.{loosest_or_tighter}
use Rattle.lalrpop_norm_theory.proofs.LevelTextLemmas.{numbered_name}
use Rattle.lalrpop_norm_macros.specs.NameLaws.{LeavesPrefix}
use Rattle.lalrpop_norm_macros.proofs.TextLemmas.{cut_front, spread}

-- the name doesn't begin with the prefix
abbrev pub IsFree : Text → Text → Type 0
IsFree prefix n = (t : Text) → n ≢ prefix ++ t

-- one that begins with another character than an underscore
pub free_head : (k c : ℕ) (rest : Text) → 0 < k → (c ≡ 95 → ⊥) → IsFree (replicate k 95) (c ∷ rest)
free_head zero c rest some other t e = omega (arith, some)
free_head (suc k) c rest some other t e = let first : c ≡ 95 = cc in other first

-- one with such a character behind it
pub free_joined : (k c : ℕ) (s rest : Text) → (c ≡ 95 → ⊥) → IsFree (replicate k 95) s →
    IsFree (replicate k 95) (s ++ (c ∷ rest))
free_joined zero c s rest other free t e = free s refl
free_joined (suc k) c [] rest other free t e = let first : c ≡ 95 = cc in other first
free_joined (suc k) c (d ∷ s) rest other free t e =
    let first : d ≡ 95 = cc in
    let behind : s ++ (c ∷ rest) ≡ replicate k 95 ++ t = cc in
    free_joined k c s rest other
    (λ u h. free u (ap (λ l. d ∷ l) h ∙ ap (λ x. x ∷ (replicate k 95 ++ u)) first)) t behind

-- the front of a name
pub free_front : (prefix s rest : Text) → IsFree prefix (s ++ rest) → IsFree prefix s
free_front prefix s rest free t e = free (t ++ rest) (ap (λ l. l ++ rest) e ∙ append_assoc prefix t rest)

-- a name that doesn't begin with the prefix doesn't begin with it without its tail from the tilde on either
pub free_cut : (prefix n : Text) → IsFree prefix n → IsFree prefix (before_tilde n)
free_cut prefix n free =
    let u = cut_front n in free_front prefix (before_tilde n) u.0 (subst (IsFree prefix) u.1 free)

-- a name with a number behind a tilde
pub free_with_number : (k : ℕ) (t : Text) (m : ℕ) → IsFree (replicate k 95) t → IsFree (replicate k 95) (with_number t m)
free_with_number k t zero free = free
free_with_number k t (suc m) free =
    subst (IsFree (replicate k 95)) (sym (spread t m))
    (free_joined k 126 t (decimal (m + 2)) (λ e. omega (arith, e)) free)

-- a number begins with a digit

glyph_other : (d : ℕ) → d < 10 → (digit_glyph false d == 95) ≡ false
glyph_other d h = grind (arith, nat_tests)

no_underscore : (n : ℕ) → digit_glyph false (n % 10) ≡ 95 → ⊥
no_underscore n e =
    true≢false (sym (eq-eqb (digit_glyph false (n % 10)) 95 e) ∙ glyph_other (n % 10) (omega arith))

record BeginsOtherwise (t : Text) : Type 0 where
  first : ℕ
  rest : Text
  is : t ≡ first ∷ rest
  other : first ≡ 95 → ⊥

begins_onto : (k n d : ℕ) (acc : Text) → (d ≡ 95 → ⊥) → BeginsOtherwise (digits_onto k 10 false n (d ∷ acc))
begins_onto zero n d acc other = record { first = d; rest = acc; is = refl; other = other }
begins_onto (suc k) n d acc other =
    go (n / 10 == 0) (begins_onto k (n / 10) (digit_glyph false (n % 10)) (d ∷ acc) (no_underscore n))
  where
    go : (b : Bool) → BeginsOtherwise (digits_onto k 10 false (n / 10) (digit_glyph false (n % 10) ∷ d ∷ acc)) →
        BeginsOtherwise (cond b (digit_glyph false (n % 10) ∷ d ∷ acc)
        (digits_onto k 10 false (n / 10) (digit_glyph false (n % 10) ∷ d ∷ acc)))
    go true u = record { first = digit_glyph false (n % 10); rest = d ∷ acc; is = refl; other = no_underscore n }
    go false u = u

digits_begin : (k n : ℕ) → BeginsOtherwise (digits_onto (suc k) 10 false n [])
digits_begin k n = go (n / 10 == 0) (begins_onto k (n / 10) (digit_glyph false (n % 10)) [] (no_underscore n))
  where
    go : (b : Bool) → BeginsOtherwise (digits_onto k 10 false (n / 10) (digit_glyph false (n % 10) ∷ [])) →
        BeginsOtherwise (cond b (digit_glyph false (n % 10) ∷ []) (digits_onto k 10 false (n / 10) (digit_glyph false (n % 10) ∷ [])))
    go true u = record { first = digit_glyph false (n % 10); rest = []; is = refl; other = no_underscore n }
    go false u = u

decimal_begins : (n : ℕ) → BeginsOtherwise (decimal n)
unfolding digits
decimal_begins n = digits_begin 63 n

-- the name of a level
free_level : (k : ℕ) (n : Text) (j m : ℕ) → IsFree (replicate k 95) n → IsFree (replicate k 95) (with_number (numbered_text n j) m)
free_level k n j m free =
    let u = decimal_begins j in
    free_with_number k (numbered_text n j) m
    (subst (λ t. IsFree (replicate k 95) (n ++ t)) (sym u.is) (free_joined k u.first n u.rest u.other free))

-- the law

module _ (finds : Text → Text → Option Bool) (g : Grammar) (f : Text → ℕ → Text) (prefix : Text) (w : IsLevelable finds g f)
    (p : LeavesPrefix prefix (grammar_between finds g)) where
  abbrev line : Text
  line = replicate p.underscores 95

  written_free : (r : Rule) → Among (rules_of g.items) r → IsFree line r.name
  written_free r i =
      subst (λ s. IsFree s r.name) p.prefix_is
      (λ t. p.rules (rule_between r) t (map_among rule_between (rules_of g.items) r i))

  level_free : (r : Rule) (level : Option ℕ) → Among (rules_of g.items) r → HasLevel (rule_between r) level →
      IsFree line (rule_between (rule_of_key f r level)).name
  level_free r None i h = written_free r i
  level_free r (Some j) i h = go (loosest_or_tighter (rule_between r) j h)
    where
      go : (loosest (rule_between r) ≡ Some j) ⊎ Among (after_first (levels_in_order (rule_between r))) j → IsFree line (f r.name j)
      go (inl e) =
          subst (IsFree line) (sym (ap (level_name f r.name) (sym e) ∙ w.names.loosest_kept r i)) (written_free r i)
      go (inr t) =
          let u = numbered_name finds g f w r i j t in
          subst (IsFree line) (sym u.1) (free_level p.underscores r.name j u.0 (written_free r i))

  rule_free : (q : EnabledRule) (t : Text) → Among (after finds g f).rules q → q.name ≢ prefix ++ t
  rule_free q t i =
      let u = rule_key finds g f q i in
      let k = u.2 in
      let same : rule_between (rule_of_key f k.rule k.level) ≡ q = ap rule_between k.is_it ∙ u.1 in
      subst (λ s. IsFree s q.name) (sym p.prefix_is)
      (subst (λ e. IsFree line e.name) same (level_free k.rule k.level k.among k.has_level)) t

  pub leveled_leaves : LeavesPrefix prefix (grammar_between finds (leveled_grammar f g))
  leveled_leaves = record {
    underscores = p.underscores;
    some = p.some;
    prefix_is = p.prefix_is;
    rules = rule_free;
    bares = λ n t i. p.bares n t (subst (λ l. Among l n) (bares_of-leveled f g.items) i);
  }
