-- Ranks alternative by alternative, and the tightest level; for the search for what is wrong with a rule's levels.
use Rattle.std.proofs.Common.{◌≡◌, ℕ, Bool, true, false, List, [], ◌∷◌, ◌++◌}
use Rattle.std.proofs.Common.{refl, ap, sym, ◌∙◌, cond, arith}
use Rattle.std.specs.Prelude.{Option, Some, None, is_some, map, flat_map, filter, filter_map, zip, option_map, nat_lt, codes, ◌||◌}
use Rattle.std.specs.Prelude.{if◌then◌else◌}
use Rattle.std.specs.List.{list_any, cons_option}
use Rattle.lalrpop_grammar.specs.WrittenGrammar.{Attr, Alternative, Rule}
use Rattle.lalrpop_grammar_language.specs.Enabled.{choice_of, has_attr}
use Rattle.lalrpop_grammar_language.specs.Levels.{Rank, has_levels, levels, greatest, larger, tighter, with_ranks}
use Rattle.lalrpop_grammar_language.specs.Levels.{first_attr}
use Rattle.lalrpop_norm_theory.specs.Between.{rule_between, with_origins}
use Rattle.lalrpop_norm_theory.specs.LeveledGrammar.{ranked_alternatives}
use Rattle.lalrpop_norm_theory.specs.LevelFaults.{LevelFault, faults_of_attr, fault_of_side, fault_of_tightest_side, faults_of_tightest}
use Rattle.lalrpop_norm_theory.specs.LevelFaults.{faults_of_first, level_faults_in, level_faults_in_rule}
use Rattle.lalrpop_norm_precedence.specs.LevelSearch.{says_level, next_rank_of, smaller_level, least_from, is_tighter}
use Rattle.lalrpop_norm_precedence.specs.LevelSearch.{faults_of_side, faults_at}
use Rattle.lalrpop_norm_precedence.specs.LevelSearch.{faults_from}

-- which rules have levels

said_by_choices : (alts : List Alternative)
    → list_any (λ c. has_attr (codes "precedence") c.attributes) (map choice_of (with_origins alts)) ≡ list_any says_level alts
said_by_choices [] = refl
said_by_choices (a ∷ alts) = ap (λ b. says_level a || b) (said_by_choices alts)

-- a rule has levels where one of its alternatives says one
pub levels_said : (r : Rule) → has_levels (rule_between r) ≡ list_any says_level r.alternatives
levels_said r = said_by_choices r.alternatives

-- the ranks of alternatives

-- the ranks of the alternatives in order, each found with the rank of the one before it, from a last rank on
abbrev pub ranks_after : Option Rank → List Alternative → List (Option Rank)
ranks_after last [] = []
ranks_after last (a ∷ alts) = next_rank_of last a ∷ ranks_after (next_rank_of last a) alts

ranks_of_choices : (last : Option Rank) (alts : List Alternative)
    → map (λ p. p.1) (with_ranks last (map choice_of (with_origins alts))) ≡ ranks_after last alts
ranks_of_choices last [] = refl
ranks_of_choices last (a ∷ alts) = ap (λ l. next_rank_of last a ∷ l) (ranks_of_choices (next_rank_of last a) alts)

abbrev level_of_rank_at : Option Rank → Option ℕ
level_of_rank_at r = option_map (λ k. k.level) r

levels_of_choices : (last : Option Rank) (alts : List Alternative)
    → filter_map (λ p. option_map (λ k. k.level) p.1) (with_ranks last (map choice_of (with_origins alts)))
    ≡ filter_map level_of_rank_at (ranks_after last alts)
levels_of_choices last [] = refl
levels_of_choices last (a ∷ alts) =
    ap (λ l. cons_option (level_of_rank_at (next_rank_of last a)) l) (levels_of_choices (next_rank_of last a) alts)

-- the tightest of the levels

abbrev least_over : Option ℕ → List (Option Rank) → Option ℕ
least_over least [] = least
least_over least (r ∷ rs) = least_over (smaller_level least r) rs

least_by_ranks : (last : Option Rank) (least : Option ℕ) (alts : List Alternative)
    → least_from last least alts ≡ least_over least (ranks_after last alts)
least_by_ranks last least [] = refl
least_by_ranks last least (a ∷ alts) = least_by_ranks (next_rank_of last a) (smaller_level least (next_rank_of last a)) alts

below_smaller : (a k n : ℕ) → nat_lt (if nat_lt a k then a else k) n ≡ (nat_lt a n || nat_lt k n)
below_smaller a k n = grind arith

smaller_is_tighter : (least : Option ℕ) (k : Rank) (n : ℕ)
    → is_tighter (smaller_level least (Some k)) n ≡ (is_tighter least n || nat_lt k.level n)
smaller_is_tighter None k n = refl
smaller_is_tighter (Some a) k n = go (nat_lt a k.level) refl
  where
    go : (b : Bool) → nat_lt a k.level ≡ b → is_tighter (cond b (Some a) (Some k.level)) n ≡ (nat_lt a n || nat_lt k.level n)
    go true e = ap (λ b. nat_lt (cond b a k.level) n) (sym e) ∙ below_smaller a k.level n
    go false e = ap (λ b. nat_lt (cond b a k.level) n) (sym e) ∙ below_smaller a k.level n

abbrev has_below : ℕ → List ℕ → Bool
has_below n ls = is_some (greatest (filter (λ m. nat_lt m n) ls))

larger_is_some : (m : ℕ) (o : Option ℕ) → is_some (larger m o) ≡ true
larger_is_some m None = refl
larger_is_some m (Some k) = refl

below_more : (n m : ℕ) (ls : List ℕ) → has_below n (m ∷ ls) ≡ (nat_lt m n || has_below n ls)
below_more n m ls = go (nat_lt m n)
  where
    go : (b : Bool)
        → is_some (greatest (cond b (m ∷ filter (λ k. nat_lt k n) ls) (filter (λ k. nat_lt k n) ls))) ≡ (b || has_below n ls)
    go true = larger_is_some m (greatest (filter (λ k. nat_lt k n) ls))
    go false = refl

or_join : (a b c : Bool) → ((a || b) || c) ≡ (a || (b || c))
or_join true b c = refl
or_join false b c = refl

or_none : (a : Bool) → a ≡ (a || false)
or_none true = refl
or_none false = refl

-- a level is above the tightest one where a tighter one is there
least_is_tighter : (least : Option ℕ) (rs : List (Option Rank)) (n : ℕ)
    → is_tighter (least_over least rs) n ≡ (is_tighter least n || has_below n (filter_map level_of_rank_at rs))
least_is_tighter least [] n = or_none (is_tighter least n)
least_is_tighter least (None ∷ rs) n = least_is_tighter least rs n
least_is_tighter least (Some k ∷ rs) n =
    least_is_tighter (smaller_level least (Some k)) rs n
    ∙ ap (λ b. b || has_below n (filter_map level_of_rank_at rs)) (smaller_is_tighter least k n)
    ∙ or_join (is_tighter least n) (nat_lt k.level n) (has_below n (filter_map level_of_rank_at rs))
    ∙ ap (λ b. is_tighter least n || b) (sym (below_more n k.level (filter_map level_of_rank_at rs)))

-- in a rule with levels

abbrev leveled_parts : Rule → Bool → List (Option Rank)
leveled_parts r b = map (λ p. p.1)
    (if b then with_ranks None (rule_between r).choices else map (λ c. (c, None)) (rule_between r).choices)

-- the alternatives of a rule with levels, each beside its rank
pub ranked_is : (r : Rule) → has_levels (rule_between r) ≡ true
    → ranked_alternatives r ≡ zip r.alternatives (ranks_after None r.alternatives)
ranked_is r e =
    ap (λ b. zip r.alternatives (leveled_parts r b)) e ∙ ap (zip r.alternatives) (ranks_of_choices None r.alternatives)

abbrev levels_by : Rule → Bool → List ℕ
levels_by r b = filter_map (λ p. option_map (λ k. k.level) p.1)
    (if b then with_ranks None (rule_between r).choices else map (λ c. (c, None)) (rule_between r).choices)

levels_is : (r : Rule) → has_levels (rule_between r) ≡ true
    → levels (rule_between r) ≡ filter_map level_of_rank_at (ranks_after None r.alternatives)
levels_is r e = ap (levels_by r) e ∙ levels_of_choices None r.alternatives

tighter_is : (r : Rule) → has_levels (rule_between r) ≡ true → (n : ℕ)
    → is_some (tighter (rule_between r) n) ≡ is_tighter (least_from None None r.alternatives) n
tighter_is r e n =
    ap (has_below n) (levels_is r e) ∙ sym (least_is_tighter None (ranks_after None r.alternatives) n)
    ∙ ap (λ o. is_tighter o n) (sym (least_by_ranks None None r.alternatives))

side_at : (j : Option ℕ) (b : Bool) (written : Option Attr) → is_some j ≡ b
    → fault_of_tightest_side j written ≡ (if b then [] else fault_of_side written)
side_at (Some j) true written e = refl
side_at (Some j) false written e = cc
side_at None true written e = cc
side_at None false written e = refl

module _ (r : Rule) (least : Option ℕ) (same : (n : ℕ) → is_some (tighter (rule_between r) n) ≡ is_tighter least n) where
  sides_at : (a : Alternative) (rank : Option Rank) → faults_of_tightest r a rank ≡ faults_of_side least rank a.attributes
  sides_at a None = refl
  sides_at a (Some k) =
      side_at (tighter (rule_between r) k.level) (is_tighter least k.level) (first_attr (codes "assoc") a.attributes) (same k.level)

  faults_in_order : (last : Option Rank) (alts : List Alternative)
      → flat_map (level_faults_in r) (zip alts (ranks_after last alts)) ≡ faults_from least last alts
  faults_in_order last [] = refl
  faults_in_order last (a ∷ alts) =
      ap (λ l. (flat_map faults_of_attr a.attributes ++ l)
      ++ flat_map (level_faults_in r) (zip alts (ranks_after (next_rank_of last a) alts))) (sides_at a (next_rank_of last a))
      ∙ ap (λ l. faults_at least (next_rank_of last a) a ++ l) (faults_in_order (next_rank_of last a) alts)

abbrev faults_where : Rule → Bool → List LevelFault
faults_where r b =
    if b then faults_of_first r.alternatives ++ flat_map (level_faults_in r) (ranked_alternatives r) else []

-- the faults of a rule with levels: of its first alternative, then of each
pub faults_of_leveled : (r : Rule) → has_levels (rule_between r) ≡ true
    → level_faults_in_rule r
    ≡ faults_of_first r.alternatives ++ faults_from (least_from None None r.alternatives) None r.alternatives
faults_of_leveled r e =
    ap (faults_where r) e
    ∙ ap (λ l. faults_of_first r.alternatives ++ flat_map (level_faults_in r) l) (ranked_is r e)
    ∙ ap (λ l. faults_of_first r.alternatives ++ l)
    (faults_in_order r (least_from None None r.alternatives) (tighter_is r e) None r.alternatives)

-- a rule without levels has none
pub faults_of_flat : (r : Rule) → has_levels (rule_between r) ≡ false → level_faults_in_rule r ≡ []
faults_of_flat r e = ap (faults_where r) e
