-- The faults of levels, alternative by alternative, where the tightest level is known; for the search through a rule.
use Rattle.std.specs.Prelude.{ℕ, nat_lt, Bool, false, List, [], ◌∷◌, ◌++◌, Option, Some, None, flat_map, codes}
use Rattle.std.specs.Prelude.{if◌then◌else◌}
use Rattle.std.specs.Str.{bytes_eq}
use Rattle.lalrpop_grammar_symbols.specs.Symbols.{Text, TextSpan}
use Rattle.lalrpop_grammar.specs.WrittenGrammar.{Attr, Attrs, Alternative}
use Rattle.lalrpop_grammar_language.specs.Enabled.{has_attr}
use Rattle.lalrpop_grammar_language.specs.Levels.{Rank, rank_after, first_attr, level_in}
use Rattle.lalrpop_grammar_rules.specs.Ranks.{said_level, said_assoc}
use Rattle.lalrpop_norm_theory.specs.LevelFaults.{LevelFault, side_in_attr, value_place, fault_unless, faults_of_attr, fault_of_side}

abbrev pub says_level : Alternative → Bool
says_level a = has_attr (codes "precedence") a.attributes

-- where an attribute of the form key = "text" stands, else the other place
abbrev pub place_of_text : Text → Attr → TextSpan → TextSpan
place_of_text key (Attr.equal place id text) other = if bytes_eq key id then place else other
place_of_text key (Attr.empty place id) other = other
place_of_text key (Attr.paren place id parts) other = other

-- the same of the one part that there is
abbrev pub place_of_only : Text → Attrs → TextSpan → TextSpan
place_of_only key Attrs.none other = other
place_of_only key (Attrs.more a Attrs.none) other = place_of_text key a other
place_of_only key (Attrs.more a (Attrs.more b rest)) other = other

abbrev pub level_fault_of : Attr → List LevelFault
level_fault_of a = fault_unless (level_in a) (LevelFault.no_number (value_place (codes "level") a))

abbrev pub side_fault_of : Attr → List LevelFault
side_fault_of a = fault_unless (side_in_attr a) (LevelFault.no_side (value_place (codes "side") a))

-- the rank of an alternative, after that of the one before it
abbrev pub next_rank_of : Option Rank → Alternative → Option Rank
next_rank_of last a = rank_after last (said_level a.attributes) (said_assoc a.attributes)

-- the smaller of a level and a rank's, where both are there
abbrev pub smaller_level : Option ℕ → Option Rank → Option ℕ
smaller_level least None = least
smaller_level None (Some k) = Some k.level
smaller_level (Some n) (Some k) = if nat_lt n k.level then Some n else Some k.level

-- the tightest level of these alternatives and those before them
abbrev pub least_from : Option Rank → Option ℕ → List Alternative → Option ℕ
least_from last least [] = least
least_from last least (a ∷ more) = least_from (next_rank_of last a) (smaller_level least (next_rank_of last a)) more

-- the level is there and below the other
abbrev pub is_tighter : Option ℕ → ℕ → Bool
is_tighter None n = false
is_tighter (Some least) n = nat_lt least n

-- a side on the tightest level
abbrev pub faults_of_side : Option ℕ → Option Rank → List Attr → List LevelFault
faults_of_side least None attributes = []
faults_of_side least (Some k) attributes =
    if is_tighter least k.level then [] else fault_of_side (first_attr (codes "assoc") attributes)

abbrev pub faults_at : Option ℕ → Option Rank → Alternative → List LevelFault
faults_at least rank a = flat_map faults_of_attr a.attributes ++ faults_of_side least rank a.attributes

-- the faults of the alternatives, after one of that rank
abbrev pub faults_from : Option ℕ → Option Rank → List Alternative → List LevelFault
faults_from least last [] = []
faults_from least last (a ∷ more) = faults_at least (next_rank_of last a) a ++ faults_from least (next_rank_of last a) more
