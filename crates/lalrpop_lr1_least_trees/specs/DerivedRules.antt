-- Rules in which each name stands three times: for all its trees, for those without leaves, and for those that begin with a wanted
-- terminal. For trees that begin with a terminal.
use Rattle.std.specs.Prelude.{ℕ, suc, ◌+◌, ◌-◌, ◌<◌, List, [], ◌∷◌, ◌++◌, length, map, take, drop, nat_lt}
use Rattle.std.specs.Prelude.{if◌then◌else◌}
use Rattle.std.specs.Prelude.{◌≡◌, ◌⊎◌, Contains, Some, slice_get, slice_index_or}
use Rattle.lalrpop_lr1_least_trees.specs.NumberedTrees.{NumberRule, rule_views}
use Rattle.lalrpop_lr1_least_trees.specs.declared.begin_trees.derived.Derived.{Derived}
use Rattle.lalrpop_lr1_least_trees.specs.declared.begin_trees.derived.DerivedOrigin.{DerivedOrigin}

-- the numbers of a symbol: for its trees without leaves, for those that begin with the terminal, and for all
abbrev pub empty_symbol : ℕ → ℕ → ℕ
empty_symbol names s = names + s

abbrev pub begin_symbol : ℕ → ℕ → ℕ
begin_symbol names s = (names + names) + s

abbrev pub whole_symbol : ℕ → ℕ → ℕ
whole_symbol names s = if nat_lt s names then s else begin_symbol names s

-- the symbol for which a derived one stands
abbrev pub down : ℕ → ℕ → ℕ
down names s = if nat_lt s names then s else (if nat_lt s (names + names) then s - names else s - (names + names))

-- the names in all their kinds
abbrev pub all_names : ℕ → ℕ
all_names names = names + names + names

-- all symbols are names
abbrev pub AreNames : ℕ → List ℕ → Type 0
AreNames names ss = (s : ℕ) → Contains ss s → s < names

-- the right side by which trees begin with the terminal at a place
abbrev pub begin_side : ℕ → List ℕ → ℕ → List ℕ
begin_side names ss place =
    map (empty_symbol names) (take place ss) ++ begin_symbol names (slice_index_or ss place 0) ∷ map (whole_symbol names)
    (drop (suc place) ss)

-- Trees may begin with the wanted terminal at the place: it is that terminal's or a name's, and only names stand in front of it.
pub record MayBegin (names wanted : ℕ) (ss : List ℕ) (place : ℕ) : Type 0 where
  pub within : place < length ss
  pub front : AreNames names (take place ss)
  pub here : (slice_index_or ss place 0 < names) ⊎ (slice_index_or ss place 0 ≡ wanted)

-- a rule for all trees
abbrev pub IsWholeOf : ℕ → NumberRule → ℕ → NumberRule → Type 0
IsWholeOf names rule place d = (place ≡ 0) × (d ≡ record { left = rule.left; right = map (whole_symbol names) rule.right })

-- one for trees without leaves, where only names stand on the right side
abbrev pub IsEmptyOf : ℕ → NumberRule → ℕ → NumberRule → Type 0
IsEmptyOf names rule place d =
    AreNames names rule.right × (place ≡ 0)
    × (d ≡ record { left = empty_symbol names rule.left; right = map (empty_symbol names) rule.right })

-- one for trees that begin with the wanted terminal at a place
abbrev pub IsBeginAt : ℕ → NumberRule → ℕ → ℕ → NumberRule → Type 0
IsBeginAt names rule at place d =
    (place ≡ at) × (d ≡ record { left = begin_symbol names rule.left; right = begin_side names rule.right at })

-- the same where the terminal stands there
abbrev pub IsWantedAt : ℕ → ℕ → NumberRule → ℕ → ℕ → NumberRule → Type 0
IsWantedAt names wanted rule at place d = (slice_index_or rule.right at 0 ≡ wanted) × IsBeginAt names rule at place d

-- one for trees that begin with the wanted terminal
abbrev pub IsBeginOf : ℕ → ℕ → NumberRule → ℕ → NumberRule → Type 0
IsBeginOf names wanted rule place d = MayBegin names wanted rule.right place × IsBeginAt names rule place place d

-- the same at one of the first places
abbrev pub IsBeginBelow : ℕ → ℕ → NumberRule → ℕ → ℕ → NumberRule → Type 0
IsBeginBelow names wanted rule count place d = (place < count) × IsBeginOf names wanted rule place d

-- a rule is derived from the rule
abbrev pub IsDerived : ℕ → ℕ → NumberRule → ℕ → NumberRule → Type 0
IsDerived names wanted rule place d =
    IsWholeOf names rule place d ⊎ (IsEmptyOf names rule place d ⊎ IsBeginOf names wanted rule place d)

-- a rule is there with its origin
pub record StandsAt (derived : Derived) (k : ℕ) (d : NumberRule) (o : DerivedOrigin) : Type 0 where
  pub at_rule : slice_get (rule_views derived.rules.items) k ≡ Some d
  pub at_origin : slice_get derived.origins.items k ≡ Some o

-- a rule is there, derived from the rule with this number at this place
pub record HasDerived (derived : Derived) (r place : ℕ) (d : NumberRule) : Type 0 where
  pub number : ℕ
  pub origin : DerivedOrigin
  pub stands : StandsAt derived number d origin
  pub rule_is : origin.rule ≡ r
  pub place_is : origin.place ≡ place

-- each rule has its origin
abbrev pub HaveOrigins : Derived → Type 0
HaveOrigins derived = length derived.rules.items ≡ length derived.origins.items

-- a rule was added
pub record IsDerivedPushed (rule : NumberRule) (origin : DerivedOrigin) (old new : Derived) : Type 0 where
  pub rules : rule_views new.rules.items ≡ rule_views old.rules.items ++ rule ∷ []
  pub origins : new.origins.items ≡ old.origins.items ++ origin ∷ []

-- those rules were added that are told, derived from the rule with this number
pub record AddsDerived (r : ℕ) (Told : ℕ → NumberRule → Type 0) (old new : Derived) : Type 0 where
  pub origins : HaveOrigins old → HaveOrigins new
  pub sound : HaveOrigins old → (k : ℕ) (d : NumberRule) (o : DerivedOrigin) → StandsAt new k d o →
      StandsAt old k d o ⊎ ((o.rule ≡ r) × Told o.place d)
  pub kept : (q place : ℕ) (d : NumberRule) → HasDerived old q place d → HasDerived new q place d
  pub all : (place : ℕ) (d : NumberRule) → Told place d → HasDerived new r place d

-- the rules are derived from the first of these, and all that are, are there
pub record AreDerived (names wanted : ℕ) (rules : List NumberRule) (count : ℕ) (derived : Derived) : Type 0 where
  pub origins : HaveOrigins derived
  pub sound : (k : ℕ) (d : NumberRule) (o : DerivedOrigin) → StandsAt derived k d o →
      (rule : NumberRule) × (slice_get rules o.rule ≡ Some rule) × IsDerived names wanted rule o.place d
  pub all : (r place : ℕ) (rule d : NumberRule) → r < count → slice_get rules r ≡ Some rule → IsDerived names wanted rule place
      d →
      HasDerived derived r place d
