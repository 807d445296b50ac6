-- What the program keeps of an enabled rule: its alternatives by their places, with ranks and the next tighter levels.
use Rattle.std.specs.Prelude.{ℕ, ◌+◌, ◌≡◌, Bool, true, false, ◌&&◌, nat_lt, List, [], ◌∷◌, Option, Some, None}
use Rattle.std.specs.Prelude.{option_map, filter, map, codes}
use Rattle.lalrpop_grammar_symbols.specs.Symbols.{Text}
use Rattle.lalrpop_grammar.specs.WrittenGrammar.{Alternative, Origin}
use Rattle.lalrpop_grammar.specs.Views.{alternative_view, nonterminal_view}
use Rattle.lalrpop_grammar_language.specs.Enabled.{EnabledRule as PureRule, Choice as PureChoice, choice_of, enabled_rule, has_attr}
use Rattle.lalrpop_grammar_language.specs.Enabled.{is_active}
use Rattle.lalrpop_grammar_language.specs.Levels as pure
use Rattle.lalrpop_grammar_rules.specs.Ranks.{rank_view}
use Rattle.lalrpop_grammar_rules.specs.declared.levels.Rank.{Rank}
use Rattle.lalrpop_grammar_rules.specs.declared.rule.Choice.{Choice}
use Rattle.lalrpop_grammar_rules.specs.declared.rule.Ranked.{Ranked}
use Rattle.lalrpop_grammar_rules.specs.declared.rule.EnabledRule.{EnabledRule}

-- an enabled alternative that says a level
abbrev pub is_leveled : List Text → Alternative → Bool
is_leveled features a = is_active features a.attributes && has_attr (codes "precedence") a.attributes

-- an alternative with its rank and the next tighter level of its rule
abbrev pub ChoiceDetail : Type 0
ChoiceDetail = PureChoice × (Option pure.Rank × Option ℕ)

-- the next tighter one of the levels
abbrev pub tighter_in : List ℕ → Option pure.Rank → Option ℕ
tighter_in levels None = None
tighter_in levels (Some k) = pure.greatest (filter (λ n. nat_lt n k.level) levels)

abbrev pub choice_detail : List ℕ → PureChoice × Option pure.Rank → ChoiceDetail
choice_detail levels p = (p.0, (p.1, tighter_in levels p.1))

abbrev pub choice_details : PureRule → List ChoiceDetail
choice_details r = map (choice_detail (pure.levels r)) (pure.ranked_choices r)

-- the ranks of alternatives, none where there are no levels
abbrev pub next_rank : Bool → Option pure.Rank → PureChoice → Option pure.Rank
next_rank true last c = pure.rank_after last (pure.written_level c) (pure.written_assoc c)
next_rank false last c = None

abbrev pub ranked_choices_from : Bool → Option pure.Rank → List PureChoice → List (PureChoice × Option pure.Rank)
ranked_choices_from has last [] = []
ranked_choices_from has last (c ∷ cs) = (c, next_rank has last c) ∷ ranked_choices_from has (next_rank has last c) cs

-- the enabled alternatives by their places, counted from k
abbrev pub ranked_view : Text → ℕ → List (Option Ranked) → List (PureChoice × Option pure.Rank)
ranked_view name k [] = []
ranked_view name k (None ∷ cs) = ranked_view name (k + 1) cs
ranked_view name k (Some c ∷ cs) =
    (choice_of (Origin.alternative name [] k, alternative_view c.alternative.now), option_map rank_view c.rank) ∷ ranked_view name (k + 1)
    cs

abbrev pub choice_view : Text → ℕ → Choice → ChoiceDetail
choice_view name k c =
    (choice_of (Origin.alternative name [] k, alternative_view c.alternative.now), (option_map rank_view c.rank, c.tighter))

abbrev pub choices_view : Text → ℕ → List (Option Choice) → List ChoiceDetail
choices_view name k [] = []
choices_view name k (None ∷ cs) = choices_view name (k + 1) cs
choices_view name k (Some c ∷ cs) = choice_view name k c ∷ choices_view name (k + 1) cs

-- the alternative with its rank, where it is enabled
abbrev pub IsRanked : List Text → Alternative → Bool → Option pure.Rank → Option Ranked → Type 0
IsRanked features a has last None = is_active features a.attributes ≡ false
IsRanked features a has last (Some c) =
    (is_active features a.attributes ≡ true) × (alternative_view c.alternative.now ≡ a)
    × (option_map rank_view c.rank ≡ next_rank has last (choice_of (Origin.start, a)))

-- the last rank, behind an alternative
abbrev pub last_of : Option Ranked → Option Rank → Option Rank
last_of None last = last
last_of (Some c) last = c.rank

-- the level of an alternative, where it is there and has one
abbrev pub level_of_rank : Option Rank → Option ℕ
level_of_rank None = None
level_of_rank (Some k) = Some k.level

abbrev pub ranked_level : Option Ranked → Option ℕ
ranked_level None = None
ranked_level (Some c) = level_of_rank c.rank

abbrev pub and_level : Option ℕ → List ℕ → List ℕ
and_level None ls = ls
and_level (Some l) ls = l ∷ ls

abbrev pub levels_in : List (Option Ranked) → List ℕ
levels_in [] = []
levels_in (c ∷ cs) = and_level (ranked_level c) (levels_in cs)

-- an alternative with the next tighter one of these levels
abbrev pub with_tighter_level : List ℕ → Option Ranked → Option Choice
with_tighter_level levels None = None
with_tighter_level levels (Some c) =
    Some (record { alternative = c.alternative; rank = c.rank; tighter = tighter_in levels (option_map rank_view c.rank) })

-- a rule with what is kept of it
abbrev pub Kept : Type 0
Kept = PureRule × (Bool × (Option ℕ × List ChoiceDetail))

abbrev pub details : PureRule → Kept
details r = (r, (pure.has_levels r, (pure.loosest r, choice_details r)))

abbrev pub enabled_rule_view : List Text → EnabledRule → PureRule
enabled_rule_view features r = enabled_rule features (nonterminal_view r.written.now)

abbrev pub kept_rule_view : List Text → EnabledRule → Kept
kept_rule_view features r =
    (enabled_rule_view features r, (r.has_levels, (r.loosest, choices_view (r.written.now).name.0 0 r.choices)))
