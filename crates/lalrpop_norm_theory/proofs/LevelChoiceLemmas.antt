-- The alternatives of a level's rule: those of its rank, then the pass to the next tighter level; for the laws of levels.
use Rattle.std.proofs.Common.{◌≡◌, ℕ, List, [], ◌∷◌, refl, ap, sym, ◌∙◌, subst, cond, Bool, true, false}
use Rattle.std.proofs.Common.{inl, inr, ◌⊎◌}
use Rattle.std.specs.Prelude.{Option, Some, None, map, filter, zip}
use Rattle.std.proofs.lemmas.Bool.{eqb-true, eq-eqb}
use Rattle.lalrpop_grammar_symbols.specs.Symbols.{Text}
use Rattle.lalrpop_grammar.specs.WrittenGrammar.{Alternative, Rule}
use Rattle.lalrpop_grammar_language.specs.Among.{Among}
use Rattle.lalrpop_grammar_language.specs.Enabled.{EnabledRule, Choice, choice_of}
use Rattle.lalrpop_grammar_language.specs.Levels.{Rank, with_ranks, rank_after, written_level, written_assoc, ranked_choices, has_levels}
use Rattle.lalrpop_grammar_language.specs.Levels.{tighter}
use Rattle.lalrpop_grammar_language.proofs.PlaceLemmas.{among_map, among_filter}
use Rattle.lalrpop_norm_theory.specs.Between.{rule_between, with_origins}
use Rattle.lalrpop_grammar_language.proofs.AmongLemmas.{map_among}
use Rattle.lalrpop_grammar_language.proofs.StepLemmas.{among_right}
use Rattle.lalrpop_grammar_language.proofs.StepLemmas.{among_left}
use Rattle.lalrpop_grammar_language.proofs.OrderLemmas.{among_parts}
use Rattle.lalrpop_norm_theory.proofs.LevelLemmas.{keeps}
use Rattle.lalrpop_norm_theory.specs.LeveledGrammar.{ranked_alternatives, has_rank_level, leveled_alternative, level_alternatives}
use Rattle.lalrpop_norm_theory.specs.LeveledGrammar.{pass_downs, pass_down_to, rule_at_level}

-- an alternative as a choice between passes
abbrev pub choice_between : Alternative → Choice
choice_between a = choice_of (a.origin, a)

-- alternatives beside ranks

firsts_of_ranks : (last : Option Rank) (cs : List Choice) → map (λ p. p.0) (with_ranks last cs) ≡ cs
firsts_of_ranks last [] = refl
firsts_of_ranks last (c ∷ cs) = ap (λ l. c ∷ l) (firsts_of_ranks (rank_after last (written_level c) (written_assoc c)) cs)

abbrev unranked : Choice → Choice × Option Rank
unranked c = (c, None)

firsts_unranked : (cs : List Choice) → map (λ p. p.0) (map unranked cs) ≡ cs
firsts_unranked [] = refl
firsts_unranked (c ∷ cs) = ap (λ l. c ∷ l) (firsts_unranked cs)

-- the alternatives themselves
pub firsts : (r : EnabledRule) → map (λ p. p.0) (ranked_choices r) ≡ r.choices
firsts r = go (has_levels r)
  where
    go : (b : Bool) → map (λ p. p.0) (cond b (with_ranks None r.choices) (map unranked r.choices)) ≡ r.choices
    go true = firsts_of_ranks None r.choices
    go false = firsts_unranked r.choices

zip_choice : (alternatives : List Alternative) (ps : List (Choice × Option Rank)) (a : Alternative) (rank : Option Rank) →
    map (λ p. p.0) ps ≡ map choice_of (with_origins alternatives) → Among (zip alternatives (map (λ p. p.1) ps)) (a, rank) →
    Among ps (choice_between a, rank)
zip_choice [] ps a rank e h = absurd h
zip_choice (b ∷ bs) [] a rank e h = absurd h
zip_choice (b ∷ bs) (p ∷ ps) a rank e (inl h) =
    let front : p.0 ≡ choice_between b = cc in
    let same : b ≡ a = ap (λ z. z.0) h in
    let ranks : p.1 ≡ rank = ap (λ z. z.1) h in
    inl (ap (λ c. (c, p.1)) (front ∙ ap choice_between same) ∙ ap (λ o. (choice_between a, o)) ranks)
zip_choice (b ∷ bs) (p ∷ ps) a rank e (inr h) =
    let rest : map (λ p. p.0) ps ≡ map choice_of (with_origins bs) = cc in
    inr (zip_choice bs ps a rank rest h)

choice_zip : (alternatives : List Alternative) (ps : List (Choice × Option Rank)) (p : Choice × Option Rank) →
    map (λ p. p.0) ps ≡ map choice_of (with_origins alternatives) → Among ps p →
    (a : Alternative) × Among (zip alternatives (map (λ p. p.1) ps)) (a, p.1) × (choice_between a ≡ p.0)
choice_zip alternatives [] p e h = absurd h
choice_zip [] (q ∷ ps) p e h = cc
choice_zip (b ∷ bs) (q ∷ ps) p e (inl h) =
    let front : q.0 ≡ choice_between b = cc in
    (b, inl (ap (λ z. (b, z.1)) h), sym front ∙ ap (λ z. z.0) h)
choice_zip (b ∷ bs) (q ∷ ps) p e (inr h) =
    let rest : map (λ p. p.0) ps ≡ map choice_of (with_origins bs) = cc in
    let u = choice_zip bs ps p rest h in
    (u.0, inr u.1, u.2)

-- an alternative with its rank is a ranked choice
pub ranked_choice : (r : Rule) (a : Alternative) (rank : Option Rank) → Among (ranked_alternatives r) (a, rank) →
    Among (ranked_choices (rule_between r)) (choice_between a, rank)
ranked_choice r a rank h = zip_choice r.alternatives (ranked_choices (rule_between r)) a rank (firsts (rule_between r)) h

-- and back
pub ranked_alternative : (r : Rule) (p : Choice × Option Rank) → Among (ranked_choices (rule_between r)) p →
    (a : Alternative) × Among (ranked_alternatives r) (a, p.1) × (choice_between a ≡ p.0)
ranked_alternative r p h = choice_zip r.alternatives (ranked_choices (rule_between r)) p (firsts (rule_between r)) h

-- a ranked choice is one of the rule's choices
pub choice_listed : (r : EnabledRule) (p : Choice × Option Rank) → Among (ranked_choices r) p → Among r.choices p.0
choice_listed r p h = subst (λ l. Among l p.0) (firsts r) (map_among (λ q. q.0) (ranked_choices r) p h)

-- ranks of a level

pub rank_is : (j : ℕ) (rank : Option Rank) → has_rank_level j rank ≡ true → (k : Rank) × (rank ≡ Some k) × (k.level ≡ j)
rank_is j None e = cc
rank_is j (Some k) e = (k, refl, eqb-true k.level j e)

-- a rank with that level passes the test of the level
pub is_rank : (j : ℕ) (k : Rank) → k.level ≡ j → has_rank_level j (Some k) ≡ true
is_rank j k e = eq-eqb k.level j e

-- the choices of a level's rule

-- one of them: an alternative of the level, or the pass down
pub data IsLevelChoice (f : Text → ℕ → Text) (r : Rule) (j : ℕ) (c : Choice) : Type 0 where
  alternative : (a : Alternative) (k : Rank) → Among (ranked_alternatives r) (a, Some k) → k.level ≡ j →
      choice_between (leveled_alternative f r (a, Some k)) ≡ c → IsLevelChoice f r j c
  pass_down : (to : ℕ) → tighter (rule_between r) j ≡ Some to → choice_between (pass_down_to f r to) ≡ c → IsLevelChoice f r j c

passed : (f : Text → ℕ → Text) (r : Rule) (j : ℕ) (o : Option ℕ) → tighter (rule_between r) j ≡ o →
    (a : Alternative) (c : Choice) →
    Among (pass_downs f r o) a → choice_between a ≡ c → IsLevelChoice f r j c
passed f r j None e a c h g = absurd h
passed f r j (Some to) e a c (inl h) g = IsLevelChoice.pass_down to e (ap choice_between h ∙ g)
passed f r j (Some to) e a c (inr h) g = absurd h

of_level : (f : Text → ℕ → Text) (r : Rule) (j : ℕ) (a : Alternative) (c : Choice) → Among (level_alternatives f r j) a →
    choice_between a ≡ c → IsLevelChoice f r j c
of_level f r j a c h g =
    let u = among_map (leveled_alternative f r) (filter (λ p. has_rank_level j p.1) (ranked_alternatives r)) a h in
    let v = among_filter (λ p. has_rank_level j p.1) (ranked_alternatives r) u.0 u.1 in
    let k = rank_is j u.0.1 v.1 in
    let pair : u.0 ≡ (u.0.0, Some k.0) = ap (λ o. (u.0.0, o)) k.1 in
    IsLevelChoice.alternative u.0.0 k.0 (subst (λ p. Among (ranked_alternatives r) p) pair v.0) k.2
    (ap (λ p. choice_between (leveled_alternative f r p)) (sym pair) ∙ ap choice_between u.2 ∙ g)

-- there is no other
pub level_choice : (f : Text → ℕ → Text) (r : Rule) (j : ℕ) (c : Choice) →
    Among (rule_between (rule_at_level f r j)).choices c →
    IsLevelChoice f r j c
level_choice f r j c h =
    let u = among_map choice_of (with_origins (rule_at_level f r j).alternatives) c h in
    let v = among_map (λ a. (a.origin, a)) (rule_at_level f r j).alternatives u.0 u.1 in
    go v.0 (among_parts (level_alternatives f r j) (pass_downs f r (tighter (rule_between r) j)) v.0 v.1) (ap choice_of v.2 ∙ u.2)
  where
    go : (a : Alternative) → Among (level_alternatives f r j) a ⊎ Among (pass_downs f r (tighter (rule_between r) j)) a →
        choice_between a ≡ c → IsLevelChoice f r j c
    go a (inl m) e = of_level f r j a c m e
    go a (inr m) e = passed f r j (tighter (rule_between r) j) refl a c m e

choice_there : (alternatives : List Alternative) (a : Alternative) → Among alternatives a →
    Among (map choice_of (with_origins alternatives)) (choice_between a)
choice_there alternatives a i =
    map_among choice_of (with_origins alternatives) (a.origin, a) (map_among (λ b. (b.origin, b)) alternatives a i)

-- each alternative of the level is there
pub alternative_there : (f : Text → ℕ → Text) (r : Rule) (a : Alternative) (k : Rank) →
    Among (ranked_alternatives r) (a, Some k) →
    Among (rule_between (rule_at_level f r k.level)).choices (choice_between (leveled_alternative f r (a, Some k)))
alternative_there f r a k i =
    choice_there (rule_at_level f r k.level).alternatives (leveled_alternative f r (a, Some k))
    (among_left (level_alternatives f r k.level) (pass_downs f r (tighter (rule_between r) k.level)) (leveled_alternative f r (a, Some k))
    (map_among (leveled_alternative f r) (filter (λ p. has_rank_level k.level p.1) (ranked_alternatives r)) (a, Some k)
    (keeps (λ p. has_rank_level k.level p.1) (ranked_alternatives r) (a, Some k) i (is_rank k.level k refl))))

-- and the pass to the next tighter level
pub pass_down_there : (f : Text → ℕ → Text) (r : Rule) (j to : ℕ) → tighter (rule_between r) j ≡ Some to →
    Among (rule_between (rule_at_level f r j)).choices (choice_between (pass_down_to f r to))
pass_down_there f r j to e =
    choice_there (rule_at_level f r j).alternatives (pass_down_to f r to)
    (among_right (level_alternatives f r j) (pass_downs f r (tighter (rule_between r) j)) (pass_down_to f r to)
    (subst (λ o. Among (pass_downs f r o) (pass_down_to f r to)) (sym e) (inl refl)))
