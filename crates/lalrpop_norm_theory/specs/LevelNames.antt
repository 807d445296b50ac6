-- Which names the levels of rules have, once each has a rule of its own; for the passes over levels and over macros.
use Rattle.std.specs.Prelude.{ℕ, zero, suc, ◌≡◌, ◌≢◌, false, List, [], ◌∷◌, ◌++◌, Option, Some, None}
use Rattle.std.specs.Prelude.{map, flat_map, filter, length, if◌then◌else◌, decimal}
use Rattle.std.specs.Str.{bytes_eq}
use Rattle.lalrpop_grammar_symbols.specs.Symbols.{Text}
use Rattle.lalrpop_grammar.specs.WrittenGrammar.{Rule, Grammar, rules_of}
use Rattle.lalrpop_grammar_language.specs.Among.{Among}
use Rattle.lalrpop_grammar_language.specs.Enabled.{EnabledGrammar, EnabledRule, has_text}
use Rattle.lalrpop_grammar_language.specs.Levels.{has_levels, loosest}
use Rattle.lalrpop_grammar_language.specs.Starts.{has_none}
use Rattle.lalrpop_norm_theory.specs.Between.{rule_between}
use Rattle.lalrpop_norm_theory.specs.Keys.{with_number, before_tilde}
use Rattle.lalrpop_norm_theory.specs.Premises.{AreDifferent}
use Rattle.lalrpop_norm_theory.specs.LevelRules.{level_name}
use Rattle.lalrpop_norm_theory.specs.LeveledGrammar.{levels_in_order}

-- the rules of the leveled grammar, each by the written rule and its level

abbrev pub LeveledKey : Type 0
LeveledKey = Text × Option ℕ

abbrev pub leveled_keys_of : Rule → List LeveledKey
leveled_keys_of r =
    if has_levels (rule_between r) then map (λ j. (r.name, Some j)) (levels_in_order (rule_between r)) else (r.name, None) ∷ []

abbrev pub leveled_keys : Grammar → List LeveledKey
leveled_keys g = flat_map leveled_keys_of (rules_of g.items)

abbrev pub name_of_leveled_key : (Text → ℕ → Text) → LeveledKey → Text
name_of_leveled_key f k = level_name f k.0 k.1

-- the levels that get names: all but the loosest

abbrev pub after_first : {A : Type 0} → List A → List A
after_first [] = []
after_first (x ∷ xs) = xs

abbrev pub tighter_levels : Rule → List ℕ
tighter_levels r = after_first (levels_in_order (rule_between r))

-- as it prints: the rule's name and the number
abbrev pub numbered_text : Text → ℕ → Text
numbered_text n j = n ++ decimal j

-- those of rules that are no macros, in order of the rules, in each rule the loosest first
abbrev pub plain_levels_of : Rule → List (Text × ℕ)
plain_levels_of r = if has_none r.parameters then map (λ j. (r.name, j)) (tighter_levels r) else []

abbrev pub plain_levels : Grammar → List (Text × ℕ)
plain_levels g = flat_map plain_levels_of (rules_of g.items)

-- how often a text is taken already
abbrev pub times_taken : Text → List Text → ℕ
times_taken t taken = length (filter (bytes_eq t) taken)

-- Each level is called by its text, with a number where the text is taken by a rule of that name or an earlier level.
abbrev pub AreNumberedInOrder : (Text → ℕ → Text) → List Text → List (Text × ℕ) → Type 0
AreNumberedInOrder f taken [] = Unit {0}
AreNumberedInOrder f taken (k ∷ ks) =
    (f k.0 k.1 ≡ with_number (numbered_text k.0 k.1) (times_taken (numbered_text k.0 k.1) taken))
    × AreNumberedInOrder f (numbered_text k.0 k.1 ∷ taken) ks

-- those of macros, each with its rule, in the same order
abbrev pub macro_levels_of : Rule → List (Rule × ℕ)
macro_levels_of r = if has_none r.parameters then [] else map (λ j. (r, j)) (tighter_levels r)

abbrev pub macro_levels : Grammar → List (Rule × ℕ)
macro_levels g = flat_map macro_levels_of (rules_of g.items)

-- the texts that are taken once these levels have names
abbrev pub taken_behind_levels : List Text → List (Text × ℕ) → List Text
taken_behind_levels taken [] = taken
taken_behind_levels taken (k ∷ ks) = taken_behind_levels (numbered_text k.0 k.1 ∷ taken) ks

-- a text that is a parameter of the rule is taken once more
abbrev pub beside_own : List Text → Text → List Text → List Text
beside_own parameters text taken = if has_text text parameters then text ∷ taken else taken

-- Levels of macros are numbered so, too, each beside the parameters of its rule.
abbrev pub AreNumberedBeside : (Text → ℕ → Text) → List Text → List (Rule × ℕ) → Type 0
AreNumberedBeside f taken [] = Unit {0}
AreNumberedBeside f taken (k ∷ ks) =
    (f k.0.name k.1 ≡ with_number (numbered_text k.0.name k.1)
    (times_taken (numbered_text k.0.name k.1) (beside_own k.0.parameters (numbered_text k.0.name k.1) taken)))
    × AreNumberedBeside f (numbered_text k.0.name k.1 ∷ beside_own k.0.parameters (numbered_text k.0.name k.1) taken) ks

-- The names of levels in a grammar without what is disabled. Levels of macros come behind those of plain rules.
pub record AreLevelNames (g : Grammar) (f : Text → ℕ → Text) : Type 0 where
  pub loosest_kept : (r : Rule) → Among (rules_of g.items) r → level_name f r.name (loosest (rule_between r)) ≡ r.name
  pub plain : AreNumberedInOrder f (map (λ r. r.name) (rules_of g.items)) (plain_levels g)
  pub of_macros : AreNumberedBeside f (taken_behind_levels (map (λ r. r.name) (rules_of g.items)) (plain_levels g)) (macro_levels g)
  -- no two rules of the leveled grammar share a name
  pub apart : AreDifferent (map (name_of_leveled_key f) (leveled_keys g))
  -- no parameter hides a tighter level of its own rule
  pub not_hidden : (r : Rule) (j : ℕ) → Among (rules_of g.items) r → Among (tighter_levels r) j →
      has_text (f r.name j) r.parameters ≡ false

-- no name of a rule has a tilde, as no name that is read has
abbrev pub HasNoTildes : Grammar → Type 0
HasNoTildes g = (r : Rule) → Among (rules_of g.items) r → before_tilde r.name ≡ r.name

-- The number is free for a rule of that text: it is another rule's of the text that has the number before it, or a macro is
-- called by the text.
pub data IsNextAmongRules (g : EnabledGrammar) (text : Text) : ℕ → Type 0 where
  first : IsNextAmongRules g text zero
  after_rule : {k : ℕ} (q : EnabledRule) → Among g.rules q → q.parameters ≡ [] → before_tilde q.name ≡ text
      → q.name ≡ with_number text k → IsNextAmongRules g text (suc k)
  after_macro : (q : EnabledRule) → Among g.rules q → q.parameters ≢ [] → q.name ≡ text → IsNextAmongRules g text (suc zero)

-- What the macro pass rests on, as it keeps the names of rules: each is its text, or its text with a number, and no number is
-- left out.
abbrev pub HasPackedNames : EnabledGrammar → Type 0
HasPackedNames g = (r : EnabledRule) → Among g.rules r → r.parameters ≡ [] →
    (k : ℕ) × (r.name ≡ with_number (before_tilde r.name) k) × IsNextAmongRules g (before_tilde r.name) k
