-- What the rule of a level holds: no levels, the written parameters, and which written choices it tells; for the laws of levels.
use Rattle.std.specs.Str.{bytes_eq}
use Rattle.std.proofs.Common.{◌≡◌, ℕ, List, [], ◌∷◌, ◌++◌, refl, cond, Bool, true, false}
use Rattle.std.specs.Prelude.{Option, Some, None, map, filter, codes, ◌||◌, not}
use Rattle.std.specs.List.{list_any}
use Rattle.std.proofs.lemmas.Bool.{or_from}
use Rattle.lalrpop_grammar_symbols.specs.Symbols.{Text}
use Rattle.lalrpop_grammar.specs.WrittenGrammar.{Attr, attr_id, Alternative, Rule}
use Rattle.lalrpop_grammar_language.specs.Enabled.{choice_of, has_attr}
use Rattle.lalrpop_grammar_language.specs.Levels.{Rank, has_levels, tighter}
use Rattle.lalrpop_grammar_language.specs.Expansion.{HasLevel}
use Rattle.lalrpop_norm_theory.specs.Between.{rule_between, with_origins}
use Rattle.lalrpop_norm_theory.specs.LeveledGrammar.{ranked_alternatives, has_rank_level, without_ranks, pass_downs}
use Rattle.lalrpop_norm_theory.specs.LeveledGrammar.{leveled_alternative, rule_at_level}
use Rattle.lalrpop_norm_theory.proofs.LeveledRuleLemmas.{rule_of_key}

no_precedence : (attributes : List Attr) → has_attr (codes "precedence") (without_ranks attributes) ≡ false
no_precedence [] = refl
no_precedence (a ∷ rest) =
    go (bytes_eq (attr_id a) (codes "precedence")) refl (bytes_eq (attr_id a) (codes "assoc")) (no_precedence rest)
  where
    go : (b : Bool) → bytes_eq (attr_id a) (codes "precedence") ≡ b → (c : Bool) →
        has_attr (codes "precedence") (without_ranks rest) ≡ false →
        has_attr (codes "precedence") (cond (not (b || c)) (a ∷ without_ranks rest) (without_ranks rest)) ≡ false
    go true e c ih = ih
    go false e true ih = ih
    go false e false ih = or_from (bytes_eq (attr_id a) (codes "precedence")) (has_attr (codes "precedence") (without_ranks rest)) e ih

-- whether one of these alternatives says a level
abbrev say_levels : List Alternative → Bool
say_levels alternatives = list_any (λ c. has_attr (codes "precedence") c.attributes) (map choice_of (with_origins alternatives))

none_says : (f : Text → ℕ → Text) (r : Rule) (ps : List (Alternative × Option Rank)) (rest : List Alternative) →
    say_levels rest ≡ false → say_levels (map (leveled_alternative f r) ps ++ rest) ≡ false
none_says f r [] rest h = h
none_says f r (p ∷ ps) rest h =
    or_from (has_attr (codes "precedence") (without_ranks p.0.attributes)) (say_levels (map (leveled_alternative f r) ps ++ rest))
    (no_precedence p.0.attributes) (none_says f r ps rest h)

no_pass_says : (f : Text → ℕ → Text) (r : Rule) (to : Option ℕ) → say_levels (pass_downs f r to) ≡ false
no_pass_says f r None = refl
no_pass_says f r (Some j) = refl

-- the rule of a level has no levels
pub flat_at_level : (f : Text → ℕ → Text) (r : Rule) (j : ℕ) → has_levels (rule_between (rule_at_level f r j)) ≡ false
flat_at_level f r j =
    none_says f r (filter (λ p. has_rank_level j p.1) (ranked_alternatives r)) (pass_downs f r (tighter (rule_between r) j))
    (no_pass_says f r (tighter (rule_between r) j))

-- nor has another rule of the leveled grammar
pub flat_key : (f : Text → ℕ → Text) (r : Rule) (level : Option ℕ) → HasLevel (rule_between r) level →
    has_levels (rule_between (rule_of_key f r level)) ≡ false
flat_key f r None h = h
flat_key f r (Some j) h = flat_at_level f r j

-- parameters, marks and declared types are those of the written rule
pub key_parameters : (f : Text → ℕ → Text) (r : Rule) (level : Option ℕ) →
    (rule_between (rule_of_key f r level)).parameters ≡ (rule_between r).parameters
key_parameters f r None = refl
key_parameters f r (Some j) = refl

-- the rule of a level is inlined just where the written rule is
pub key_inlined : (f : Text → ℕ → Text) (r : Rule) (level : Option ℕ) →
    (rule_between (rule_of_key f r level)).inlined ≡ (rule_between r).inlined
key_inlined f r None = refl
key_inlined f r (Some j) = refl

-- the rule of a level declares the type that the written rule declares
pub key_declared : (f : Text → ℕ → Text) (r : Rule) (level : Option ℕ) →
    (rule_between (rule_of_key f r level)).declared ≡ (rule_between r).declared
key_declared f r None = refl
key_declared f r (Some j) = refl
