-- What may be wrong with the levels of a grammar without what is disabled, and where.
use Rattle.std.specs.Prelude.{ℕ, ◌≡◌, List, [], ◌∷◌, ◌++◌, Option, Some, None, option_and_then}
use Rattle.std.specs.Prelude.{flat_map, if◌then◌else◌, codes}
use Rattle.std.specs.Str.{bytes_eq}
use Rattle.lalrpop_grammar_symbols.specs.Symbols.{Text, TextSpan}
use Rattle.lalrpop_grammar.specs.WrittenGrammar.{Attr, Attrs, attr_id, Alternative, Rule, Grammar, rules_of}
use Rattle.lalrpop_grammar_language.specs.Enabled.{has_attr}
use Rattle.lalrpop_grammar_language.specs.Levels.{Assoc, Rank, value_of, first_attr, level_in, has_levels, tighter}
use Rattle.lalrpop_norm_theory.specs.Between.{rule_between}
use Rattle.lalrpop_norm_theory.specs.LeveledGrammar.{ranked_alternatives}

pub data LevelFault : Type 0 where
  -- the first alternative of a rule with levels has none
  needs_level : TextSpan → LevelFault
  -- no number below 2^32 in decimal digits
  no_number : TextSpan → LevelFault
  -- a side on an alternative of the tightest level
  side_on_tightest : TextSpan → LevelFault
  -- none of the four sides
  no_side : TextSpan → LevelFault

-- the side of that name, if it is one
abbrev pub side_of : Text → Option Assoc
side_of t =
    if bytes_eq t (codes "left") then Some Assoc.left
    else (if bytes_eq t (codes "right") then Some Assoc.right
    else (if bytes_eq t (codes "none") then Some Assoc.non_assoc
    else (if bytes_eq t (codes "all") then Some Assoc.fully_assoc else None)))

abbrev pub side_in_attr : Attr → Option Assoc
side_in_attr a = option_and_then side_of (value_of (codes "side") a)

abbrev pub attr_place : Attr → TextSpan
attr_place (Attr.empty place id) = place
attr_place (Attr.paren place id parts) = place
attr_place (Attr.equal place id text) = place

-- Where an attribute of the form id(key = "text") says the text: at that one part. One of another form, which is a fault of
-- its own, is told whole.
abbrev pub value_place : Text → Attr → TextSpan
value_place key (Attr.paren place id (Attrs.more (Attr.equal part other text) Attrs.none)) = if bytes_eq key other then part else place
value_place key a = attr_place a

abbrev pub fault_unless : {A : Type 0} → Option A → LevelFault → List LevelFault
fault_unless (Some a) fault = []
fault_unless None fault = fault ∷ []

-- each level and each side is looked at, though the first one counts
abbrev pub faults_of_attr : Attr → List LevelFault
faults_of_attr a =
    if bytes_eq (attr_id a) (codes "precedence") then
    fault_unless (level_in a) (LevelFault.no_number (value_place (codes "level") a))
    else (if bytes_eq (attr_id a) (codes "assoc") then
    fault_unless (side_in_attr a) (LevelFault.no_side (value_place (codes "side") a))
    else [])

abbrev pub fault_of_side : Option Attr → List LevelFault
fault_of_side None = []
fault_of_side (Some a) = LevelFault.side_on_tightest (value_place (codes "side") a) ∷ []

-- a written side is a fault where there is no tighter level
abbrev pub fault_of_tightest_side : Option ℕ → Option Attr → List LevelFault
fault_of_tightest_side (Some j) written = []
fault_of_tightest_side None written = fault_of_side written

abbrev pub faults_of_tightest : Rule → Alternative → Option Rank → List LevelFault
faults_of_tightest r a None = []
faults_of_tightest r a (Some k) = fault_of_tightest_side (tighter (rule_between r) k.level) (first_attr (codes "assoc") a.attributes)

abbrev pub faults_of_first : List Alternative → List LevelFault
faults_of_first [] = []
faults_of_first (a ∷ rest) = if has_attr (codes "precedence") a.attributes then [] else LevelFault.needs_level a.span ∷ []

abbrev pub level_faults_in : Rule → Alternative × Option Rank → List LevelFault
level_faults_in r p = flat_map faults_of_attr p.0.attributes ++ faults_of_tightest r p.0 p.1

-- in a rule without levels sides have no effect, and are no faults
abbrev pub level_faults_in_rule : Rule → List LevelFault
level_faults_in_rule r =
    if has_levels (rule_between r) then faults_of_first r.alternatives ++ flat_map (level_faults_in r) (ranked_alternatives r) else []

-- the faults of levels, rule by rule and alternative by alternative
abbrev pub level_faults : Grammar → List LevelFault
level_faults g = flat_map level_faults_in_rule (rules_of g.items)

-- nothing is wrong with the grammar's levels
abbrev pub HasRightLevels : Grammar → Type 0
HasRightLevels g = level_faults g ≡ []
