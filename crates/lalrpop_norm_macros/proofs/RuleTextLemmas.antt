-- The texts that rules take: numbers below how often a text is taken are those that rules have; for the names of keys.
use Rattle.std.specs.Str.{bytes_eq}
use Rattle.std.proofs.Common.{◌≡◌, ◌≢◌, ℕ, zero, suc, ◌<◌, List, [], ◌∷◌, length, refl, ap, sym, ◌∙◌}
use Rattle.std.proofs.Common.{subst, cond}
use Rattle.std.proofs.Common.{Bool, true, false, inl, inr, ◌⊎◌, arith}
use Rattle.std.specs.Prelude.{filter, map, ◌||◌}
use Rattle.std.proofs.lemmas.Bool.{or_parts}
use Rattle.lalrpop_grammar_symbols.specs.Symbols.{Text}
use Rattle.lalrpop_grammar_language.specs.Among.{Among}
use Rattle.lalrpop_grammar_language.specs.Enabled.{EnabledGrammar, EnabledRule, IsRule, has_text}
use Rattle.lalrpop_grammar_language.proofs.ComparisonLemmas.{same_text-refl}
use Rattle.lalrpop_grammar_language.proofs.PlaceLemmas.{among_filter, among_map, same_text-eq}
use Rattle.lalrpop_norm_theory.specs.Keys.{with_number, before_tilde}
use Rattle.lalrpop_norm_theory.specs.Premises.{AreDifferent}
use Rattle.lalrpop_norm_theory.specs.LevelNames.{times_taken}
use Rattle.lalrpop_norm_theory.proofs.LevelOrderLemmas.{one_named}
use Rattle.lalrpop_norm_macros.specs.KeyNames.{IsNameable, times_by_rules}
use Rattle.lalrpop_norm_macros.specs.OrderedNames.{rule_text}
use Rattle.lalrpop_norm_macros.proofs.DifferentLemmas.{AreBelow, each_there}

-- the text of a rule's key: a macro's name as it stands, another rule's name without its tail from the tilde on
abbrev pub text_of : EnabledRule → Text
text_of r = rule_text r.parameters r.name

abbrev has_taken : Text → EnabledRule → Bool
has_taken t r = bytes_eq t (text_of r)

-- the names of the rules that take the text
abbrev names_taking : Text → List EnabledRule → List Text
names_taking t rs = map (λ r. r.name) (filter (has_taken t) rs)

as_many : (t : Text) (rs : List EnabledRule) → length (names_taking t rs) ≡ times_taken t (map text_of rs)
as_many t [] = refl
as_many t (r ∷ rs) = go (has_taken t r) (as_many t rs)
  where
    go : (b : Bool) → length (names_taking t rs) ≡ times_taken t (map text_of rs) →
        length (map (λ q. q.name) (cond b (r ∷ filter (has_taken t) rs) (filter (has_taken t) rs)))
        ≡ length (cond b (text_of r ∷ filter (bytes_eq t) (map text_of rs)) (filter (bytes_eq t) (map text_of rs)))
    go true ih = ap suc ih
    go false ih = ih

-- a rule that takes the text is among them
taking_there : (t : Text) (rs : List EnabledRule) (r : EnabledRule) → Among rs r → text_of r ≡ t → Among (names_taking t rs) r.name
taking_there t [] r i e = absurd i
taking_there t (q ∷ rs) r (inl same) e =
    let yes : has_taken t q ≡ true =
    subst (λ u. bytes_eq t u ≡ true) (sym (ap text_of same ∙ e)) (same_text-refl t) in
    let whole = ap (λ b. map (λ p. p.name) (cond b (q ∷ filter (has_taken t) rs) (filter (has_taken t) rs))) yes in
    subst (λ ns. Among ns r.name) (sym whole) (inl (ap (λ p. p.name) same))
taking_there t (q ∷ rs) r (inr i) e = go (has_taken t q) (taking_there t rs r i e)
  where
    go : (b : Bool) → Among (names_taking t rs) r.name →
        Among (map (λ p. p.name) (cond b (q ∷ filter (has_taken t) rs) (filter (has_taken t) rs))) r.name
    go true h = inr h
    go false h = h

-- and no other
pub record TakesText (rs : List EnabledRule) (t n : Text) : Type 0 where
  pub rule : EnabledRule
  pub among : Among rs rule
  pub text : text_of rule ≡ t
  pub name : rule.name ≡ n

taking_only : (t : Text) (rs : List EnabledRule) (n : Text) → Among (names_taking t rs) n → TakesText rs t n
taking_only t rs n i =
    let u = among_map (λ r. r.name) (filter (has_taken t) rs) n i in
    let v = among_filter (has_taken t) rs u.0 u.1 in
    record { rule = u.0; among = v.0; text = sym (same_text-eq t (text_of u.0) v.1); name = u.2 }

none_taking : (t n : Text) (rs : List EnabledRule) → has_text n (map (λ r. r.name) rs) ≡ false →
    has_text n (names_taking t rs) ≡ false
none_taking t n [] h = refl
none_taking t n (r ∷ rs) h =
    let w = or_parts (bytes_eq n r.name) (has_text n (map (λ q. q.name) rs)) h in
    go (has_taken t r) w.0 (none_taking t n rs w.1)
  where
    go : (b : Bool) → bytes_eq n r.name ≡ false → has_text n (names_taking t rs) ≡ false →
        has_text n (map (λ p. p.name) (cond b (r ∷ filter (has_taken t) rs) (filter (has_taken t) rs))) ≡ false
    go true e ih = ap (λ b. b || has_text n (names_taking t rs)) e ∙ ih
    go false e ih = ih

differ_taking : (t : Text) (rs : List EnabledRule) → AreDifferent (map (λ r. r.name) rs) → AreDifferent (names_taking t rs)
differ_taking t [] d = tt
differ_taking t (r ∷ rs) d = go (has_taken t r) (none_taking t r.name rs d.0) (differ_taking t rs d.1)
  where
    go : (b : Bool) → has_text r.name (names_taking t rs) ≡ false → AreDifferent (names_taking t rs) →
        AreDifferent (map (λ p. p.name) (cond b (r ∷ filter (has_taken t) rs) (filter (has_taken t) rs)))
    go true h ih = (h, ih)
    go false h ih = ih

some_in : (ns : List Text) (n : Text) → Among ns n → 0 < length ns
some_in [] n i = absurd i
some_in (m ∷ ms) n i = omega arith

-- of a grammar whose keys can be named

-- the text of a rule with parameters is its name
pub macro_text_is : (r : EnabledRule) → r.parameters ≢ [] → text_of r ≡ r.name
macro_text_is r some = go r.parameters some
  where
    go : (ps : List Text) → ps ≢ [] → rule_text ps r.name ≡ r.name
    go [] h = absurd (h refl)
    go (p ∷ ps) h = refl

-- the text of a rule without parameters is its name without its tail from the tilde on
pub plain_text_is : (r : EnabledRule) → r.parameters ≡ [] → text_of r ≡ before_tilde r.name
plain_text_is r none = ap (λ ps. rule_text ps r.name) none

-- a rule takes its text
pub text_taken : (g : EnabledGrammar) (r : EnabledRule) → Among g.rules r → 0 < times_by_rules g (text_of r)
text_taken g r i =
    let a = some_in (names_taking (text_of r) g.rules) r.name (taking_there (text_of r) g.rules r i refl) in
    let b = as_many (text_of r) g.rules in
    omega (arith, a, b)

-- a rule without parameters, or a macro
pub plain_or_macro : (r : EnabledRule) → (r.parameters ≡ []) ⊎ (r.parameters ≢ [])
plain_or_macro r = go r.parameters
  where
    go : (ps : List Text) → (ps ≡ []) ⊎ (ps ≢ [])
    go [] = inl refl
    go (p ∷ ps) = inr (λ e. cc)

-- the rules that take a text have numbers below how often it is taken
numbers_below : (g : EnabledGrammar) → IsNameable g → (t : Text) →
    AreBelow (with_number t) (times_by_rules g t) (names_taking t g.rules)
numbers_below g w t n i = let u = taking_only t g.rules n i in go u (plain_or_macro u.rule)
  where
    go : (u : TakesText g.rules t n) → (u.rule.parameters ≡ []) ⊎ (u.rule.parameters ≢ []) →
        (j : ℕ) × (j < times_by_rules g t) × (with_number t j ≡ n)
    go u (inl none) =
        let h = w.numbers u.rule u.among none in
        let same : before_tilde u.rule.name ≡ t = sym (plain_text_is u.rule none) ∙ u.text in (
          h.number,
          subst (λ s. h.number < times_by_rules g s) same h.below,
          ap (λ s. with_number s h.number) (sym same) ∙ sym h.is ∙ u.name,
        )
    go u (inr some) = (
      zero,
      subst (λ s. 0 < times_by_rules g s) u.text (text_taken g u.rule u.among),
      sym u.text ∙ macro_text_is u.rule some ∙ u.name,
    )

-- and each such number is a rule's
pub number_taken : (g : EnabledGrammar) → IsNameable g → (t : Text) (j : ℕ) → j < times_by_rules g t →
    TakesText g.rules t (with_number t j)
number_taken g w t j lt =
    taking_only t g.rules (with_number t j)
    (each_there (with_number t) j (times_by_rules g t) (names_taking t g.rules) (differ_taking t g.rules w.rules)
    (numbers_below g w t) (as_many t g.rules) lt)

-- each rule is the one of its name
pub rule_is : (g : EnabledGrammar) → IsNameable g → (r : EnabledRule) → Among g.rules r → IsRule g r.name r
rule_is g w r i = one_named g.rules r w.rules i
