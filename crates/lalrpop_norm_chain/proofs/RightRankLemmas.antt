-- Where nothing is wrong with levels, each alternative of a rule with levels has a rank; for the faults of macros.
use Rattle.std.specs.Str.{bytes_eq}
use Rattle.std.proofs.Common.{◌≡◌, List, [], ◌∷◌, ◌++◌, refl, ap, sym, ◌∙◌, subst, cond}
use Rattle.std.proofs.Common.{Bool, true, false, inl, inr, ◌⊎◌}
use Rattle.std.specs.Prelude.{ℕ, Option, Some, None, is_some, map, flat_map, zip, codes, option_map, ◌||◌}
use Rattle.std.proofs.lemmas.Bool.{true≢false}
use Rattle.lalrpop_grammar.specs.WrittenGrammar.{Attr, attr_id, Alternative, Rule, Grammar, rules_of}
use Rattle.lalrpop_grammar_language.specs.Among.{Among}
use Rattle.lalrpop_grammar_language.specs.Enabled.{Choice, has_attr, choice_of}
use Rattle.lalrpop_grammar_language.specs.Levels.{Assoc, Rank, first_attr, level_in, written_level, written_assoc, rank_after, with_ranks}
use Rattle.lalrpop_grammar_language.specs.Levels.{has_levels}
use Rattle.lalrpop_norm_theory.specs.Between.{with_origins, rule_between}
use Rattle.lalrpop_norm_theory.proofs.FaultLemmas.{nil_parts, flat_nil}
use Rattle.lalrpop_norm_theory.specs.LeveledGrammar.{ranked_alternatives}
use Rattle.lalrpop_norm_theory.specs.LevelFaults.{LevelFault, side_in_attr, value_place, fault_unless, faults_of_attr}
use Rattle.lalrpop_norm_theory.specs.LevelFaults.{faults_of_tightest, faults_of_first, level_faults_in, level_faults_in_rule}
use Rattle.lalrpop_norm_theory.specs.LevelFaults.{HasRightLevels}

-- attributes

given : {A : Type 0} (o : Option A) (fault : LevelFault) → fault_unless o fault ≡ [] → is_some o ≡ true
given (Some a) fault e = refl
given None fault e = cc

-- the level that counts can be read
readable : (l : List Attr) (x : Attr) → flat_map faults_of_attr l ≡ [] → first_attr (codes "precedence") l ≡ Some x →
    is_some (level_in x) ≡ true
readable [] x f e = cc
readable (y ∷ ys) x f e =
    let parts = nil_parts (faults_of_attr y) (flat_map faults_of_attr ys) f in
    go (bytes_eq (attr_id y) (codes "precedence")) refl e (λ k. readable ys x parts.1 k) parts.0
  where
    own : cond true (fault_unless (level_in y) (LevelFault.no_number (value_place (codes "level") y)))
        (cond (bytes_eq (attr_id y) (codes "assoc")) (fault_unless (side_in_attr y) (LevelFault.no_side (value_place (codes "side") y)))
        []) ≡ [] → is_some (level_in y) ≡ true
    own h = given (level_in y) (LevelFault.no_number (value_place (codes "level") y)) h

    go : (b : Bool) → bytes_eq (attr_id y) (codes "precedence") ≡ b →
        cond b (Some y) (first_attr (codes "precedence") ys) ≡ Some x →
        (first_attr (codes "precedence") ys ≡ Some x → is_some (level_in x) ≡ true) →
        cond b (fault_unless (level_in y) (LevelFault.no_number (value_place (codes "level") y)))
        (cond (bytes_eq (attr_id y) (codes "assoc")) (fault_unless (side_in_attr y) (LevelFault.no_side (value_place (codes "side") y)))
        []) ≡ [] → is_some (level_in x) ≡ true
    go true h k later m = let same : y ≡ x = cc in ap (λ z. is_some (level_in z)) (sym same) ∙ own m
    go false h k later m = later k

marked_first : (l : List Attr) → has_attr (codes "precedence") l ≡ true → is_some (first_attr (codes "precedence") l) ≡ true
marked_first [] e = cc
marked_first (y ∷ ys) e = go (bytes_eq (attr_id y) (codes "precedence")) refl e (λ k. marked_first ys k)
  where
    go : (b : Bool) → bytes_eq (attr_id y) (codes "precedence") ≡ b → (b || has_attr (codes "precedence") ys) ≡ true →
        (has_attr (codes "precedence") ys ≡ true → is_some (first_attr (codes "precedence") ys) ≡ true) →
        is_some (cond b (Some y) (first_attr (codes "precedence") ys)) ≡ true
    go true h k later = refl
    go false h k later = later k

-- ranks

abbrev choices_of : List Alternative → List Choice
choices_of l = map choice_of (with_origins l)

abbrev ranks_from : Option Rank → List Alternative → List (Option Rank)
ranks_from last l = map (λ p. p.1) (with_ranks last (choices_of l))

-- after a rank, or with a level of its own, an alternative has a rank
after_some : (last : Option Rank) (l : List Attr) (side : Option Assoc) → flat_map faults_of_attr l ≡ [] →
    (is_some last ≡ true) ⊎ (has_attr (codes "precedence") l ≡ true) → (o : Option Attr) →
    first_attr (codes "precedence") l ≡ o →
    (k : Rank) × (rank_after last (option_map level_in o) side ≡ Some k)
after_some last l side f h (Some x) e = of_level (level_in x) (readable l x f e)
  where
    of_level : (n : Option ℕ) → is_some n ≡ true → (k : Rank) × (rank_after last (Some n) side ≡ Some k)
    of_level (Some n) g = (_, refl)
    of_level None g = cc
after_some (Some r) l side f h None e = (_, refl)
after_some None l side f (inl h) None e = cc
after_some None l side f (inr h) None e =
    absurd (true≢false (sym (marked_first l h) ∙ ap is_some e))

abbrev StartsWithLevel : List Alternative → Type 0
StartsWithLevel [] = Unit {0}
StartsWithLevel (a ∷ rest) = has_attr (codes "precedence") a.attributes ≡ true

all_ranked : (r : Rule) (last : Option Rank) (l : List Alternative) →
    flat_map (level_faults_in r) (zip l (ranks_from last l)) ≡ [] → (is_some last ≡ true) ⊎ StartsWithLevel l →
    (a : Alternative) →
    Among l a → (k : Rank) × Among (zip l (ranks_from last l)) (a, Some k)
all_ranked r last [] f h a i = absurd i
all_ranked r last (b ∷ rest) f h a i =
    let c = choice_of (b.origin, b) in
    let rank = rank_after last (written_level c) (written_assoc c) in
    let parts = nil_parts (level_faults_in r (b, rank)) (flat_map (level_faults_in r) (zip rest (ranks_from rank rest))) f in
    let own = (nil_parts (flat_map faults_of_attr b.attributes) (faults_of_tightest r b rank) parts.0).0 in
    let k = after_some last b.attributes (written_assoc c) own h (first_attr (codes "precedence") b.attributes) refl in
    go i k (all_ranked r rank rest parts.1 (inl (ap is_some k.1)) a)
  where
    first_rank : Option Rank
    first_rank = rank_after last (written_level (choice_of (b.origin, b))) (written_assoc (choice_of (b.origin, b)))

    go : Among (b ∷ rest) a → (k : Rank) × (first_rank ≡ Some k) →
        (Among rest a → (k : Rank) × Among (zip rest (ranks_from first_rank rest)) (a, Some k)) →
        (k : Rank) × Among ((b, first_rank) ∷ zip rest (ranks_from first_rank rest)) (a, Some k)
    go (inl e) k later = (k.0, inl (ap (λ o. (b, o)) k.1 ∙ ap (λ x. (x, Some k.0)) e))
    go (inr j) k later = let u = later j in (u.0, inr u.1)

-- each alternative of a rule with levels has one
pub right_rank : (g : Grammar) → HasRightLevels g → (r : Rule) → Among (rules_of g.items) r →
    has_levels (rule_between r) ≡ true →
    (a : Alternative) → Among r.alternatives a → (k : Rank) × Among (ranked_alternatives r) (a, Some k)
right_rank g right r i leveled a j =
    let none : faults_of_first r.alternatives ++ flat_map (level_faults_in r) (ranked_alternatives r) ≡ [] =
    sym (ap (λ b. cond b (faults_of_first r.alternatives ++ flat_map (level_faults_in r) (ranked_alternatives r)) []) leveled)
    ∙ flat_nil level_faults_in_rule (rules_of g.items) right r i in
    let parts = nil_parts (faults_of_first r.alternatives) (flat_map (level_faults_in r) (ranked_alternatives r)) none in
    let ranks_are : ranked_alternatives r ≡ zip r.alternatives (ranks_from None r.alternatives) =
    ap (λ b. zip r.alternatives (map (λ p. p.1) (cond b (with_ranks None (choices_of r.alternatives))
    (map (λ c. (c, None)) (choices_of r.alternatives))))) leveled in
    let u = all_ranked r None r.alternatives
    (ap (flat_map (level_faults_in r)) (sym ranks_are) ∙ parts.1) (inr (starts r.alternatives parts.0)) a j in
    (u.0, subst (λ l. Among l (a, Some u.0)) (sym ranks_are) u.1)
  where
    with_level : (b : Bool) (fault : LevelFault) → cond b [] (fault ∷ []) ≡ [] → b ≡ true
    with_level true fault e = refl
    with_level false fault e = cc

    starts : (l : List Alternative) → faults_of_first l ≡ [] → StartsWithLevel l
    starts [] e = tt
    starts (b ∷ rest) e = with_level (has_attr (codes "precedence") b.attributes) (LevelFault.needs_level b.span) e
