-- A level's rule is told by the name of the written rule, so arguments are told alike; for the law of what levels keep.
use Rattle.std.specs.Str.{bytes_eq}
use Rattle.std.proofs.Common.{◌≡◌, ℕ, List, [], ◌∷◌, ◌++◌, refl, ap, sym, ◌∙◌, subst, cond, Bool, true, false}
use Rattle.std.proofs.Common.{inl, inr}
use Rattle.std.specs.Prelude.{Option, Some, None, map, filter, filter_map, flat_map, zip, option_map}
use Rattle.lalrpop_grammar_symbols.specs.Symbols.{Text, Terminal, Syms, Sym, Closed, Closeds}
use Rattle.lalrpop_grammar.specs.WrittenGrammar.{Alternative, Origin, Rule, Grammar, rules_of}
use Rattle.lalrpop_grammar.specs.Trees.{as_argument, as_arguments}
use Rattle.lalrpop_grammar_language.specs.Among.{Among}
use Rattle.lalrpop_grammar_language.specs.Enabled.{Choice, choice_of, has_name}
use Rattle.lalrpop_grammar_language.specs.Levels.{Rank, levels, ranked_choices, tighter}
use Rattle.lalrpop_grammar_language.specs.Admitting.{argument_list}
use Rattle.lalrpop_grammar_language.specs.Expansion.{HasLevel}
use Rattle.lalrpop_grammar_language.proofs.PlaceLemmas.{among_map, among_filter}
use Rattle.lalrpop_norm_theory.specs.Between.{rule_between, with_origins, name_in_origins, written_name}
use Rattle.lalrpop_grammar_language.proofs.AmongLemmas.{map_among}
use Rattle.lalrpop_norm_theory.proofs.LevelLemmas.{keeps}
use Rattle.lalrpop_norm_theory.specs.LevelRules.{level_name, by_level_names, all_by_level_names}
use Rattle.lalrpop_norm_theory.specs.LeveledGrammar.{ranked_alternatives, has_rank_level, leveled_alternative, level_alternatives}
use Rattle.lalrpop_norm_theory.specs.LeveledGrammar.{pass_downs, rule_at_level, leveled_item}
use Rattle.lalrpop_norm_theory.specs.LevelLaws.{IsLevelable, TellsOwnRules}
use Rattle.lalrpop_norm_theory.proofs.LeveledRuleLemmas.{rule_of_key, key_rule, written_rule}
use Rattle.lalrpop_norm_theory.proofs.LevelChoiceLemmas.{ranked_alternative, is_rank}
use Rattle.lalrpop_norm_theory.proofs.LevelNameLemmas.{before, after}
use Rattle.lalrpop_norm_theory.proofs.WellLeveledLemmas.{IsWellCall, IsWell, AreWell}

-- who a rule is told by

abbrev origins_of : List Alternative → List Origin
origins_of = map (λ a. a.origin)

told_by_rule : (rs : List Rule) (n : Text) (r : Rule) → filter (has_name n) (map rule_between rs) ≡ rule_between r ∷ [] →
    written_name rs n ≡ name_in_origins n (map (λ c. c.origin) (rule_between r).choices)
told_by_rule [] n r e = cc
told_by_rule (q ∷ rs) n r e = go (bytes_eq q.name n) e (λ k. told_by_rule rs n r k)
  where
    same_origins : (alternatives : List Alternative) →
        origins_of alternatives ≡ map (λ c. c.origin) (map choice_of (with_origins alternatives))
    same_origins [] = refl
    same_origins (a ∷ alternatives) = ap (λ l. a.origin ∷ l) (same_origins alternatives)

    go : (b : Bool) → cond b (rule_between q ∷ filter (has_name n) (map rule_between rs)) (filter (has_name n) (map rule_between rs))
        ≡ rule_between r ∷ [] →
        (filter (has_name n) (map rule_between rs) ≡ rule_between r ∷ [] →
        written_name rs n ≡ name_in_origins n (map (λ c. c.origin) (rule_between r).choices)) →
        cond b (name_in_origins n (origins_of q.alternatives)) (written_name rs n)
        ≡ name_in_origins n (map (λ c. c.origin) (rule_between r).choices)
    go true h later =
        let same : rule_between q ≡ rule_between r = cc in
        ap (name_in_origins n) (same_origins q.alternatives) ∙ ap (λ p. name_in_origins n (map (λ c. c.origin) p.choices)) same
    go false h later = later h

first_told : (n m : Text) (place : ℕ) (o : Origin) (os : List Origin) → o ≡ Origin.alternative m [] place →
    name_in_origins n (o ∷ os) ≡ m
first_told n m place o os e = ap (λ p. name_in_origins n (p ∷ os)) e

-- a written rule tells its own name
told_own : (r : Rule) → ((a : Alternative) → Among r.alternatives a →
    (place : ℕ) × (a.origin ≡ Origin.alternative r.name [] place)) →
    name_in_origins r.name (map (λ c. c.origin) (rule_between r).choices) ≡ r.name
told_own r tells = go r.alternatives tells
  where
    go : (alternatives : List Alternative) →
        ((a : Alternative) → Among alternatives a → (place : ℕ) × (a.origin ≡ Origin.alternative r.name [] place)) →
        name_in_origins r.name (map (λ c. c.origin) (map choice_of (with_origins alternatives))) ≡ r.name
    go [] each = refl
    go (a ∷ rest) each =
        let u = each a (inl refl) in
        first_told r.name r.name u.0 a.origin (map (λ c. c.origin) (map choice_of (with_origins rest))) u.1

zip_listed : (alternatives : List Alternative) (ranks : List (Option Rank)) (p : Alternative × Option Rank) →
    Among (zip alternatives ranks) p → Among alternatives p.0
zip_listed [] ranks p i = absurd i
zip_listed (a ∷ rest) [] p i = absurd i
zip_listed (a ∷ rest) (rank ∷ ranks) p (inl e) = inl (ap (λ z. z.0) e)
zip_listed (a ∷ rest) (rank ∷ ranks) p (inr i) = inr (zip_listed rest ranks p i)

-- the alternative that a level comes from
level_from : (ps : List (Choice × Option Rank)) (j : ℕ) → Among (filter_map (λ p. option_map (λ k. k.level) p.1) ps) j →
    (p : Choice × Option Rank) × (k : Rank) × Among ps p × (p.1 ≡ Some k) × (k.level ≡ j)
level_from [] j i = absurd i
level_from ((c, None) ∷ ps) j i = let u = level_from ps j i in (u.0, u.1, inr u.2, u.3, u.4)
level_from ((c, Some k) ∷ ps) j (inl e) = ((c, Some k), k, inl refl, refl, e)
level_from ((c, Some k) ∷ ps) j (inr i) = let u = level_from ps j i in (u.0, u.1, inr u.2, u.3, u.4)

-- and so does each of its levels
told_at_level : (f : Text → ℕ → Text) (r : Rule) →
    ((a : Alternative) → Among r.alternatives a → (place : ℕ) × (a.origin ≡ Origin.alternative r.name [] place)) →
    (j : ℕ) → Among (levels (rule_between r)) j →
    name_in_origins (f r.name j) (map (λ c. c.origin) (rule_between (rule_at_level f r j)).choices) ≡ r.name
told_at_level f r tells j h = go (level_alternatives f r j) one (λ a i. of_level a i)
  where
    one : (a : Alternative) × Among (level_alternatives f r j) a
    one =
        let u = level_from (ranked_choices (rule_between r)) j h in
        let v = ranked_alternative r u.0 u.2 in
        let passes : has_rank_level j u.0.1 ≡ true = ap (has_rank_level j) u.3 ∙ is_rank j u.1 u.4 in (
          leveled_alternative f r (v.0, u.0.1),
          map_among (leveled_alternative f r) (filter (λ p. has_rank_level j p.1) (ranked_alternatives r)) (v.0, u.0.1)
              (keeps (λ p. has_rank_level j p.1) (ranked_alternatives r) (v.0, u.0.1) v.1 passes),
        )

    of_level : (a : Alternative) → Among (level_alternatives f r j) a →
        (place : ℕ) × (a.origin ≡ Origin.alternative r.name [] place)
    of_level a i =
        let u = among_map (leveled_alternative f r) (filter (λ p. has_rank_level j p.1) (ranked_alternatives r)) a i in
        let v = among_filter (λ p. has_rank_level j p.1) (ranked_alternatives r) u.0 u.1 in
        let w = tells u.0.0 (zip_listed r.alternatives (map (λ p. p.1) (ranked_choices (rule_between r))) u.0 v.0) in
        (w.0, ap (λ b. b.origin) (sym u.2) ∙ w.1)

    go : (alternatives : List Alternative) → ((a : Alternative) × Among alternatives a) →
        ((a : Alternative) → Among alternatives a → (place : ℕ) × (a.origin ≡ Origin.alternative r.name [] place)) →
        name_in_origins (f r.name j) (map (λ c. c.origin)
        (map choice_of (with_origins (alternatives ++ pass_downs f r (tighter (rule_between r) j))))) ≡ r.name
    go [] some each = absurd some.1
    go (a ∷ rest) some each =
        let u = each a (inl refl) in
        first_told (f r.name j) r.name u.0 a.origin
        (map (λ c. c.origin) (map choice_of (with_origins (rest ++ pass_downs f r (tighter (rule_between r) j))))) u.1

told_key : (f : Text → ℕ → Text) (r : Rule) →
    ((a : Alternative) → Among r.alternatives a → (place : ℕ) × (a.origin ≡ Origin.alternative r.name [] place)) →
    (level : Option ℕ) → HasLevel (rule_between r) level →
    name_in_origins (level_name f r.name level) (map (λ c. c.origin) (rule_between (rule_of_key f r level)).choices) ≡ r.name
told_key f r tells None h = told_own r tells
told_key f r tells (Some j) h = told_at_level f r tells j h

-- a level is told by the name of the written rule
spelled_alike : (finds : Text → Text → Option Bool) (g : Grammar) (f : Text → ℕ → Text) → IsLevelable finds g f →
    TellsOwnRules g →
    (n : Text) (args : Closeds) (level : Option ℕ) → IsWellCall (before finds g) n args level →
    (after finds g f).spelled (level_name f n level) ≡ (before finds g).spelled n
spelled_alike finds g f w tells n args level call =
    let u = written_rule finds g n call.rule call.is_rule in
    let r = u.0 in
    let has : HasLevel (rule_between r) level = subst (λ e. HasLevel e level) (sym u.2) call.has_level in
    let own : filter (has_name r.name) (map rule_between (rules_of g.items)) ≡ rule_between r ∷ [] =
    w.resolved.rules (rule_between r) (map_among rule_between (rules_of g.items) r u.1) in
    let there : written_name (rules_of (flat_map (leveled_item f) g.items)) (level_name f r.name level) ≡ r.name =
    told_by_rule (rules_of (flat_map (leveled_item f) g.items)) (level_name f r.name level) (rule_of_key f r level)
    (key_rule finds g f w.names r level u.1 has) ∙ told_key f r (λ a i. tells r a u.1 i) level has in
    let here : written_name (rules_of g.items) r.name ≡ r.name =
    told_by_rule (rules_of g.items) r.name r own ∙ told_own r (λ a i. tells r a u.1 i) in
    subst (λ t. (after finds g f).spelled (level_name f t level) ≡ (before finds g).spelled t) u.3 (there ∙ sym here)

mutual
  argument_alike : (finds : Text → Text → Option Bool) (g : Grammar) (f : Text → ℕ → Text) → IsLevelable finds g f →
      TellsOwnRules g →
      (x : Closed) → IsWell (before finds g) x →
      as_argument (after finds g f).spelled (by_level_names f x) ≡ as_argument (before finds g).spelled x
  argument_alike finds g f w tells (Closed.terminal (Terminal.quoted t)) h = refl
  argument_alike finds g f w tells (Closed.terminal (Terminal.regex t)) h = refl
  argument_alike finds g f w tells (Closed.terminal (Terminal.bare n)) h = refl
  argument_alike finds g f w tells (Closed.terminal Terminal.error) h = refl
  argument_alike finds g f w tells (Closed.call n Closeds.none level) h =
      ap (λ m. Sym.ambiguous_id tt m) (spelled_alike finds g f w tells n Closeds.none level h.0)
  argument_alike finds g f w tells (Closed.call n (Closeds.more x xs) level) h =
      ap (λ m. Sym.macro tt m (Syms.more (as_argument (after finds g f).spelled (by_level_names f x))
      (as_arguments (after finds g f).spelled (all_by_level_names f xs))))
      (spelled_alike finds g f w tells n (Closeds.more x xs) level h.0)
      ∙ ap (λ y. Sym.macro tt ((before finds g).spelled n)
      (Syms.more y (as_arguments (after finds g f).spelled (all_by_level_names f xs)))) (argument_alike finds g f w tells x h.1.0)
      ∙ ap (λ l. Sym.macro tt ((before finds g).spelled n) (Syms.more (as_argument (before finds g).spelled x) l))
      (arguments_alike finds g f w tells xs h.1.1)
  argument_alike finds g f w tells (Closed.repeat op x) h = ap (λ y. Sym.repeat tt op y) (argument_alike finds g f w tells x h)
  argument_alike finds g f w tells (Closed.group xs) h = ap (λ l. Sym.expr tt l) (arguments_alike finds g f w tells xs h)
  argument_alike finds g f w tells (Closed.choose x) h = ap (λ y. Sym.choose tt y) (argument_alike finds g f w tells x h)
  argument_alike finds g f w tells (Closed.name m n x) h = ap (λ y. Sym.name tt m n y) (argument_alike finds g f w tells x h)
  argument_alike finds g f w tells Closed.lookahead h = refl
  argument_alike finds g f w tells Closed.lookbehind h = refl
  argument_alike finds g f w tells Closed.faulty h = refl

  arguments_alike : (finds : Text → Text → Option Bool) (g : Grammar) (f : Text → ℕ → Text) → IsLevelable finds g f →
      TellsOwnRules g →
      (xs : Closeds) → AreWell (before finds g) xs →
      as_arguments (after finds g f).spelled (all_by_level_names f xs) ≡ as_arguments (before finds g).spelled xs
  arguments_alike finds g f w tells Closeds.none h = refl
  arguments_alike finds g f w tells (Closeds.more x xs) h =
      ap (λ y. Syms.more y (as_arguments (after finds g f).spelled (all_by_level_names f xs))) (argument_alike finds g f w tells x h.0)
      ∙ ap (λ l. Syms.more (as_argument (before finds g).spelled x) l) (arguments_alike finds g f w tells xs h.1)

-- the arguments of an instance are told alike
pub argument_list_alike : (finds : Text → Text → Option Bool) (g : Grammar) (f : Text → ℕ → Text) → IsLevelable finds g f →
    TellsOwnRules g → (xs : Closeds) → AreWell (before finds g) xs →
    argument_list (after finds g f).spelled (all_by_level_names f xs) ≡ argument_list (before finds g).spelled xs
argument_list_alike finds g f w tells Closeds.none h = refl
argument_list_alike finds g f w tells (Closeds.more x xs) h =
    ap (λ y. y ∷ argument_list (after finds g f).spelled (all_by_level_names f xs)) (argument_alike finds g f w tells x h.0)
    ∙ ap (λ l. as_argument (before finds g).spelled x ∷ l) (argument_list_alike finds g f w tells xs h.1)
