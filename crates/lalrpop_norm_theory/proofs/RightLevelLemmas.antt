-- Where nothing is wrong with levels, a rule with levels has a loosest one, and occurrences have levels that are present; for the
-- laws of levels.
use Rattle.std.specs.Str.{bytes_eq}
use Rattle.std.proofs.Common.{◌≡◌, ℕ, List, [], ◌∷◌, ◌++◌, refl, ap, sym, ◌∙◌, subst, cond, Bool, true, false}
use Rattle.std.proofs.Common.{inl, inr}
use Rattle.std.specs.Prelude.{Option, Some, None, map, filter, filter_map, flat_map, option_map, nat_lt, codes, ◌||◌, zip}
use Rattle.std.specs.Prelude.{if◌then◌else◌}
use Rattle.std.specs.List.{cons_option, list_any}
use Rattle.std.proofs.lemmas.Bool.{true≢false}
use Rattle.lalrpop_grammar.specs.WrittenGrammar.{Attr, attr_id, Alternative, Rule, Grammar, rules_of}
use Rattle.lalrpop_grammar_language.specs.Among.{Among}
use Rattle.lalrpop_grammar_language.specs.Enabled.{EnabledRule, Choice, choice_of, has_attr}
use Rattle.lalrpop_grammar_language.specs.Levels.{Rank, first_attr, level_in, written_level, written_assoc, rank_after, or_assoc, Assoc}
use Rattle.lalrpop_grammar_language.specs.Levels.{with_ranks, has_levels, ranked_choices, levels, greatest, loosest, tighter, reaches}
use Rattle.lalrpop_grammar_language.specs.Levels.{allowed_level, allowed_level_above}
use Rattle.lalrpop_grammar_language.specs.Expansion.{HasLevel}
use Rattle.lalrpop_grammar_language.proofs.PlaceLemmas.{among_filter}
use Rattle.lalrpop_norm_theory.specs.Between.{rule_between, with_origins}
use Rattle.lalrpop_norm_theory.proofs.LevelLemmas.{no_loosest}
use Rattle.lalrpop_norm_theory.specs.LeveledGrammar.{ranked_alternatives}
use Rattle.lalrpop_norm_theory.specs.LevelFaults.{LevelFault, fault_unless, side_in_attr, value_place, faults_of_attr, faults_of_first}
use Rattle.lalrpop_norm_theory.specs.LevelFaults.{faults_of_tightest, level_faults_in, level_faults_in_rule}
use Rattle.lalrpop_norm_theory.specs.LevelFaults.{HasRightLevels}
use Rattle.lalrpop_norm_theory.proofs.LevelOrderLemmas.{greatest-among, loosest-among, has_greatest}

-- lists that join to nothing

nil-parts : {A : Type 0} (xs ys : List A) → xs ++ ys ≡ [] → (xs ≡ []) × (ys ≡ [])
nil-parts [] ys e = (refl, e)
nil-parts (x ∷ xs) ys e = cc

each-nil : {A B : Type 0} (h : A → List B) (xs : List A) → flat_map h xs ≡ [] → (x : A) → Among xs x → h x ≡ []
each-nil h [] e x i = absurd i
each-nil h (y ∷ ys) e x (inl f) = subst (λ z. h z ≡ []) f (nil-parts (h y) (flat_map h ys) e).0
each-nil h (y ∷ ys) e x (inr i) = each-nil h ys (nil-parts (h y) (flat_map h ys) e).1 x i

-- the first alternative's level

readable : (a : Attr) → bytes_eq (attr_id a) (codes "precedence") ≡ true → faults_of_attr a ≡ [] →
    (n : ℕ) × (level_in a ≡ Some n)
readable a e h = go (bytes_eq (attr_id a) (codes "precedence")) (level_in a) other e h
  where
    place : LevelFault
    place = LevelFault.no_number (value_place (codes "level") a)

    other : List LevelFault
    other = if bytes_eq (attr_id a) (codes "assoc") then
        fault_unless (side_in_attr a) (LevelFault.no_side (value_place (codes "side") a)) else []

    go : (b : Bool) (o : Option ℕ) (rest : List LevelFault) → b ≡ true → cond b (fault_unless o place) rest ≡ [] →
        (n : ℕ) × (o ≡ Some n)
    go true (Some n) rest e h = (n, refl)
    go true None rest e h = cc
    go false o rest e h = absurd (true≢false (sym e))

first_readable : (attributes : List Attr) → has_attr (codes "precedence") attributes ≡ true →
    flat_map faults_of_attr attributes ≡ [] →
    (a : Attr) × (n : ℕ) × (first_attr (codes "precedence") attributes ≡ Some a) × (level_in a ≡ Some n)
first_readable [] e h = absurd (true≢false (sym e))
first_readable (a ∷ rest) e h =
    go (bytes_eq (attr_id a) (codes "precedence")) refl e
    (λ k. first_readable rest k (nil-parts (faults_of_attr a) (flat_map faults_of_attr rest) h).1)
  where
    go : (b : Bool) → bytes_eq (attr_id a) (codes "precedence") ≡ b → (b || has_attr (codes "precedence") rest) ≡ true →
        (has_attr (codes "precedence") rest ≡ true →
        (c : Attr) × (n : ℕ) × (first_attr (codes "precedence") rest ≡ Some c) × (level_in c ≡ Some n)) →
        (c : Attr) × (n : ℕ) × (cond b (Some a) (first_attr (codes "precedence") rest) ≡ Some c) × (level_in c ≡ Some n)
    go true f k later =
        let w = readable a f (nil-parts (faults_of_attr a) (flat_map faults_of_attr rest) h).0 in (a, w.0, refl, w.1)
    go false f k later = later k

-- the level of a rank
abbrev level_in_rank : Choice × Option Rank → Option ℕ
level_in_rank p = option_map (λ k. k.level) p.1

ranked_where : (r : EnabledRule) → has_levels r ≡ true → ranked_choices r ≡ with_ranks None r.choices
ranked_where r e = ap (λ b. cond b (with_ranks None r.choices) (map (λ c. (c, None)) r.choices)) e

levels_where : (c : Choice) (cs : List Choice) (n : ℕ) → written_level c ≡ Some (Some n) →
    (k : ℕ) × (ks : List ℕ) × (filter_map level_in_rank (with_ranks None (c ∷ cs)) ≡ k ∷ ks)
levels_where c cs n e =
    let rank : Rank = record { level = n; side = or_assoc (written_assoc c) Assoc.fully_assoc } in
    let is_rank : rank_after None (written_level c) (written_assoc c) ≡ Some rank = ap (λ w. rank_after None w (written_assoc c)) e in
    let ps = with_ranks (rank_after None (written_level c) (written_assoc c)) cs in
    (n, filter_map level_in_rank ps, ap (λ o. cons_option (option_map (λ (k : Rank). k.level) o) (filter_map level_in_rank ps)) is_rank)

some_level : (r : Rule) → has_levels (rule_between r) ≡ true → level_faults_in_rule r ≡ [] →
    (k : ℕ) × (ks : List ℕ) × (levels (rule_between r) ≡ k ∷ ks)
some_level r e h = go r.alternatives refl
  where
    faults : faults_of_first r.alternatives ++ flat_map (level_faults_in r) (ranked_alternatives r) ≡ []
    faults = sym (ap (λ b. cond b (faults_of_first r.alternatives ++ flat_map (level_faults_in r) (ranked_alternatives r)) []) e) ∙ h

    parts : (faults_of_first r.alternatives ≡ []) × (flat_map (level_faults_in r) (ranked_alternatives r) ≡ [])
    parts = nil-parts (faults_of_first r.alternatives) (flat_map (level_faults_in r) (ranked_alternatives r)) faults

    ranks_are : ranked_choices (rule_between r) ≡ with_ranks None (map choice_of (with_origins r.alternatives))
    ranks_are = ranked_where (rule_between r) e

    with_level : (b : Bool) (place : LevelFault) → cond b [] (place ∷ []) ≡ [] → b ≡ true
    with_level true place f = refl
    with_level false place f = cc

    first_faults : (a : Alternative) (rest : List Alternative) → r.alternatives ≡ a ∷ rest →
        flat_map faults_of_attr a.attributes ≡ []
    first_faults a rest is =
        let c = choice_of (a.origin, a) in
        let rank = rank_after None (written_level c) (written_assoc c) in
        let zipped : ranked_alternatives r ≡ (a, rank)
        ∷ zip rest (map (λ p. p.1) (with_ranks rank (map choice_of (with_origins rest)))) =
        ap (λ ps. zip r.alternatives (map (λ p. p.1) ps)) ranks_are
        ∙ ap (λ l. zip l (map (λ p. p.1) (with_ranks None (map choice_of (with_origins l))))) is in
        let one : level_faults_in r (a, rank) ≡ [] =
        each-nil (level_faults_in r) (ranked_alternatives r) parts.1 (a, rank) (subst (λ l. Among l (a, rank)) (sym zipped) (inl refl)) in
        (nil-parts (flat_map faults_of_attr a.attributes) (faults_of_tightest r a rank) one).0

    go : (alternatives : List Alternative) → r.alternatives ≡ alternatives →
        (k : ℕ) × (ks : List ℕ) × (levels (rule_between r) ≡ k ∷ ks)
    go [] is =
        let f : has_levels (rule_between r) ≡ false =
        ap (λ l. list_any (λ c. has_attr (codes "precedence") c.attributes) (map choice_of (with_origins l))) is in
        absurd (true≢false (sym e ∙ f))
    go (a ∷ rest) is =
        let has_one : has_attr (codes "precedence") a.attributes ≡ true =
        with_level (has_attr (codes "precedence") a.attributes) (LevelFault.needs_level a.span) (ap faults_of_first (sym is) ∙ parts.0) in
        let u = first_readable a.attributes has_one (first_faults a rest is) in
        let c = choice_of (a.origin, a) in
        let written : written_level c ≡ Some (Some u.1) = ap (option_map level_in) u.2 ∙ ap Some u.3 in
        let v = levels_where c (map choice_of (with_origins rest)) u.1 written in (
          v.0,
          v.1,
          ap (filter_map level_in_rank) ranks_are
              ∙ ap (λ l. filter_map level_in_rank (with_ranks None (map choice_of (with_origins l)))) is ∙ v.2,
        )

-- a rule has its loosest level
pub has_loosest : (g : Grammar) → HasRightLevels g → (r : Rule) → Among (rules_of g.items) r →
    HasLevel (rule_between r) (loosest (rule_between r))
has_loosest g right r i = go (has_levels (rule_between r)) refl
  where
    go : (b : Bool) → has_levels (rule_between r) ≡ b → HasLevel (rule_between r) (loosest (rule_between r))
    go false e = subst (HasLevel (rule_between r)) (sym (no_loosest (rule_between r) e)) e
    go true e =
        let u = some_level r e (each-nil level_faults_in_rule (rules_of g.items) right r i) in
        let m = has_greatest u.0 u.1 in
        let is : loosest (rule_between r) ≡ Some m.0 = ap greatest u.2 ∙ m.1 in
        subst (HasLevel (rule_between r)) (sym is) (loosest-among (rule_between r) m.0 is)

-- the next tighter level is present
pub tighter_present : (r : EnabledRule) (j t : ℕ) → tighter r j ≡ Some t → Among (levels r) t
tighter_present r j t e =
    (among_filter (λ n. nat_lt n j) (levels r) t (greatest-among (filter (λ n. nat_lt n j) (levels r)) t e)).0

-- the rank's level is one of the rule's
abbrev pub IsRankOf : EnabledRule → Option Rank → Type 0
IsRankOf r None = Unit {0}
IsRankOf r (Some k) = Among (levels r) k.level

level_listed : (ps : List (Choice × Option Rank)) (c : Choice) (k : Rank) → Among ps (c, Some k) →
    Among (filter_map level_in_rank ps) k.level
level_listed [] c k h = absurd h
level_listed ((d, None) ∷ ps) c k (inl e) = let f : None ≡ Some k = ap (λ q. q.1) e in cc
level_listed ((d, Some l) ∷ ps) c k (inl e) = (let f : Some l ≡ Some k = ap (λ q. q.1) e in inl (cc))
level_listed ((d, None) ∷ ps) c k (inr h) = level_listed ps c k h
level_listed ((d, Some l) ∷ ps) c k (inr h) = inr (level_listed ps c k h)

-- the rank of an alternative is one of the rule
pub rank_of : (r : EnabledRule) (c : Choice) (rank : Option Rank) → Among (ranked_choices r) (c, rank) → IsRankOf r rank
rank_of r c None h = tt
rank_of r c (Some k) h = level_listed (ranked_choices r) c k h

-- an occurrence has a level that the rule has
pub allowed_present : (r : EnabledRule) → HasLevel r (loosest r) → (rank : Option Rank) → IsRankOf r rank → (n i : ℕ) →
    HasLevel r (allowed_level r rank n i)
allowed_present r h None w n i = h
allowed_present r h (Some k) w n i = go (tighter r k.level) refl (reaches k.side n i)
  where
    go : (o : Option ℕ) → tighter r k.level ≡ o → (b : Bool) → HasLevel r (allowed_level_above r k b o)
    go None e b = h
    go (Some t) e true = w
    go (Some t) e false = tighter_present r k.level t e
