-- What the levels' rules are found by: names, and levels that are there; for the laws of levels.
use Rattle.std.specs.Str.{bytes_eq}
use Rattle.std.proofs.Common.{◌≡◌, ℕ, ◌≤◌, List, [], ◌∷◌, refl, ap, sym, ◌∙◌, subst, cond, Bool, true, false}
use Rattle.std.proofs.Common.{inl, inr, ◌⊎◌, arith}
use Rattle.std.specs.Prelude.{Option, Some, None, max}
use Rattle.lalrpop_grammar_symbols.specs.Symbols.{Text}
use Rattle.lalrpop_grammar.specs.WrittenGrammar.{Rule, Grammar, rules_of}
use Rattle.lalrpop_grammar_language.specs.Among.{Among}
use Rattle.lalrpop_grammar_language.specs.Enabled.{EnabledGrammar, EnabledRule, IsRule, has_text}
use Rattle.lalrpop_grammar_language.specs.Levels.{has_levels, levels, loosest, tighter, greatest, larger}
use Rattle.lalrpop_grammar_language.specs.Closing.{Scope, Binding}
use Rattle.lalrpop_grammar_language.specs.Expansion.{HasLevel}
use Rattle.lalrpop_grammar_language.proofs.PlaceLemmas.{same_text-eq}
use Rattle.lalrpop_grammar_language.proofs.SoundnessLemmas.{tighter_below}
use Rattle.lalrpop_norm_theory.specs.Between.{grammar_between, rule_between}
use Rattle.lalrpop_grammar_language.proofs.AmongLemmas.{map_among}
use Rattle.lalrpop_norm_theory.proofs.LevelLemmas.{no_loosest}
use Rattle.lalrpop_norm_theory.specs.LevelRules.{level_name}
use Rattle.lalrpop_norm_theory.specs.LeveledGrammar.{leveled_grammar}
use Rattle.lalrpop_norm_theory.specs.LevelNames.{tighter_levels}
use Rattle.lalrpop_norm_theory.specs.LevelLaws.{IsLevelable}
use Rattle.lalrpop_norm_theory.proofs.LevelOrderLemmas.{loosest_or_tighter, one_rule}
use Rattle.lalrpop_norm_theory.proofs.LeveledRuleLemmas.{rule_of_key, key_rule, written_rule, bares_of-leveled}
use Rattle.lalrpop_norm_theory.proofs.LevelAttrLemmas.{flat_key, key_parameters}
use Rattle.lalrpop_norm_theory.proofs.RightLevelLemmas.{has_loosest, tighter_present}
use Rattle.lalrpop_norm_theory.proofs.RenameLemmas.{NamesAreThere}

-- the grammars before and after
abbrev pub before : (Text → Text → Option Bool) → Grammar → EnabledGrammar
before finds g = grammar_between finds g

-- the grammar after: each level has a rule of its own
abbrev pub after : (Text → Text → Option Bool) → Grammar → (Text → ℕ → Text) → EnabledGrammar
after finds g f = grammar_between finds (leveled_grammar f g)

-- a written rule by its name
pub own_rule : (finds : Text → Text → Option Bool) (g : Grammar) (f : Text → ℕ → Text) → IsLevelable finds g f →
    (r : Rule) →
    Among (rules_of g.items) r → IsRule (before finds g) r.name (rule_between r)
own_rule finds g f w r i = w.resolved.rules (rule_between r) (map_among rule_between (rules_of g.items) r i)

-- the rule of a level, by the level's name
pub rule_at : (finds : Text → Text → Option Bool) (g : Grammar) (f : Text → ℕ → Text) → IsLevelable finds g f →
    (n : Text) (m : EnabledRule) → IsRule (before finds g) n m → (level : Option ℕ) → HasLevel m level →
    (o : EnabledRule) × IsRule (after finds g f) (level_name f n level) o × (o.parameters ≡ m.parameters) × (has_levels o ≡ false)
rule_at finds g f w n m i level h =
    let u = written_rule finds g n m i in
    let there : HasLevel (rule_between u.0) level = subst (λ e. HasLevel e level) (sym u.2) h in (
      rule_between (rule_of_key f u.0 level),
      subst (λ t. IsRule (after finds g f) (level_name f t level) (rule_between (rule_of_key f u.0 level))) u.3
          (key_rule finds g f w.names u.0 level u.1 there),
      key_parameters f u.0 level ∙ ap (λ e. e.parameters) u.2,
      flat_key f u.0 level there,
    )

-- the loosest level is there, and is called by the rule's name
pub loosest_there : (finds : Text → Text → Option Bool) (g : Grammar) (f : Text → ℕ → Text) → IsLevelable finds g f →
    (n : Text) (m : EnabledRule) → IsRule (before finds g) n m → HasLevel m (loosest m)
loosest_there finds g f w n m i =
    let u = written_rule finds g n m i in
    subst (λ e. HasLevel e (loosest e)) u.2 (has_loosest g w.right u.0 u.1)

-- the loosest level of each rule has the name of the rule
pub loosest_name : (finds : Text → Text → Option Bool) (g : Grammar) (f : Text → ℕ → Text) → IsLevelable finds g f →
    (n : Text) (m : EnabledRule) → IsRule (before finds g) n m → level_name f n (loosest m) ≡ n
loosest_name finds g f w n m i =
    let u = written_rule finds g n m i in
    subst (λ t. level_name f t (loosest m) ≡ t) u.3
    (subst (λ e. level_name f u.0.name (loosest e) ≡ u.0.name) u.2 (w.names.loosest_kept u.0 u.1))

-- so a rule's name stays the name of a rule
pub rule_stays : (finds : Text → Text → Option Bool) (g : Grammar) (f : Text → ℕ → Text) → IsLevelable finds g f →
    (n : Text) (m : EnabledRule) → IsRule (before finds g) n m →
    (o : EnabledRule) × IsRule (after finds g f) n o × (o.parameters ≡ m.parameters) × (has_levels o ≡ false)
rule_stays finds g f w n m i =
    let o = rule_at finds g f w n m i (loosest m) (loosest_there finds g f w n m i) in
    (o.0, subst (λ t. IsRule (after finds g f) t o.0) (loosest_name finds g f w n m i) o.1, o.2, o.3)

-- a level that is there hides nothing, where the rule's name doesn't
pub level_unhidden : (finds : Text → Text → Option Bool) (g : Grammar) (f : Text → ℕ → Text) → IsLevelable finds g f →
    (r : Rule) →
    Among (rules_of g.items) r → (level : Option ℕ) → HasLevel (rule_between r) level → has_text r.name r.parameters ≡ false →
    has_text (level_name f r.name level) r.parameters ≡ false
level_unhidden finds g f w r i None h free = free
level_unhidden finds g f w r i (Some j) h free = go (loosest_or_tighter (rule_between r) j h)
  where
    go : (loosest (rule_between r) ≡ Some j) ⊎ Among (tighter_levels r) j → has_text (f r.name j) r.parameters ≡ false
    go (inl e) =
        let same : f r.name j ≡ r.name = ap (level_name f r.name) (sym e) ∙ w.names.loosest_kept r i in
        subst (λ t. has_text t r.parameters ≡ false) (sym same) free
    go (inr t) = w.names.not_hidden r j i t

greatest_over : (ns : List ℕ) (j : ℕ) → Among ns j → (m : ℕ) × (greatest ns ≡ Some m) × (j ≤ m)
greatest_over [] j i = absurd i
greatest_over (n ∷ ns) j (inl e) = go (greatest ns)
  where
    go : (o : Option ℕ) → (m : ℕ) × (larger n o ≡ Some m) × (j ≤ m)
    go None = (n, refl, omega (arith, e))
    go (Some k) = (max n k, refl, omega (arith, e))
greatest_over (n ∷ ns) j (inr i) =
    let u = greatest_over ns j i in (max n u.0, ap (larger n) u.1, omega (arith, u.2))

-- a next tighter level isn't the loosest
pub tighter_not_loosest : (r : EnabledRule) (j to : ℕ) → Among (levels r) j → tighter r j ≡ Some to → loosest r ≡ Some to →
    ⊥
tighter_not_loosest r j to i t e =
    let u = greatest_over (levels r) j i in
    let same : Some u.0 ≡ Some to = sym u.1 ∙ e in
    let number : u.0 ≡ to = cc in
    let below = tighter_below r j to t in
    omega (arith, number, below, u.2)

-- so its name is no parameter of the rule
pub tighter_unhidden : (finds : Text → Text → Option Bool) (g : Grammar) (f : Text → ℕ → Text) → IsLevelable finds g f →
    (r : Rule) →
    Among (rules_of g.items) r → (j to : ℕ) → Among (levels (rule_between r)) j → tighter (rule_between r) j ≡ Some to →
    has_text (f r.name to) r.parameters ≡ false
tighter_unhidden finds g f w r i j to h t = go (loosest_or_tighter (rule_between r) to (tighter_present (rule_between r) j to t))
  where
    go : (loosest (rule_between r) ≡ Some to) ⊎ Among (tighter_levels r) to → has_text (f r.name to) r.parameters ≡ false
    go (inl e) = absurd (tighter_not_loosest (rule_between r) j to h t e)
    go (inr m) = w.names.not_hidden r to i m

-- a scope of a rule, whatever its parameters are bound to
abbrev pub scope_with : EnabledGrammar → Binding → Text → (ℕ → Option ℕ) → Scope
scope_with g b o levels = record { grammar = g; binding = b; owner = o; level_at = levels }

-- where occurrences have levels that are there, what they are called is there
pub names_there : (finds : Text → Text → Option Bool) (g : Grammar) (f : Text → ℕ → Text) → IsLevelable finds g f →
    (r : Rule) →
    Among (rules_of g.items) r → (b : Binding) (levels : ℕ → Option ℕ) → ((k : ℕ) → HasLevel (rule_between r) (levels k)) →
    NamesAreThere f (scope_with (before finds g) b r.name levels) (after finds g f) r.parameters
names_there finds g f w r i b levels present = record {
  bares = bares_of-leveled f g.items;
  there = λ k n m is. found k n m is (bytes_eq n r.name) refl;
  unhidden = λ k n m is free. opens k n m is free (bytes_eq n r.name) refl;
}
  where
    found : (k : ℕ) (n : Text) (m : EnabledRule) → IsRule (before finds g) n m → (c : Bool) → bytes_eq n r.name ≡ c →
        (o : EnabledRule) × IsRule (after finds g f) (cond c (level_name f n (levels k)) n) o × (o.parameters ≡ m.parameters)
        × (loosest o ≡ None)
    found k n m is true e =
        let same : n ≡ r.name = same_text-eq n r.name e in
        let own : IsRule (before finds g) n (rule_between r) =
        subst (λ t. IsRule (before finds g) t (rule_between r)) (sym same) (own_rule finds g f w r i) in
        let rule_is : rule_between r ≡ m = one_rule (before finds g) n (rule_between r) m own is in
        let o = rule_at finds g f w n m is (levels k) (subst (λ a. HasLevel a (levels k)) rule_is (present k)) in
        (o.0, o.1, o.2, no_loosest o.0 o.3)
    found k n m is false e = let o = rule_stays finds g f w n m is in (o.0, o.1, o.2, no_loosest o.0 o.3)

    opens : (k : ℕ) (n : Text) (m : EnabledRule) → IsRule (before finds g) n m → has_text n r.parameters ≡ false →
        (c : Bool) → bytes_eq n r.name ≡ c → has_text (cond c (level_name f n (levels k)) n) r.parameters ≡ false
    opens k n m is free true e =
        let same : n ≡ r.name = same_text-eq n r.name e in
        subst (λ t. has_text (level_name f t (levels k)) r.parameters ≡ false) (sym same)
        (level_unhidden finds g f w r i (levels k) (present k) (subst (λ t. has_text t r.parameters ≡ false) same free))
    opens k n m is free false e = free
