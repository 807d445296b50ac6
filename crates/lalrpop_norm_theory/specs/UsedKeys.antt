-- The keys of a grammar in order of first use: its rules that are no macros, as they are written, and then each call of a macro, each
-- repeat, group and lookaround where one of the keys before it uses it first.
use Rattle.std.specs.Prelude.{ℕ, ◌≡◌, ◌⊎◌, List, [], ◌∷◌, ◌++◌, Option, Some, None}
use Rattle.std.specs.Prelude.{map, flat_map, length}
use Rattle.lalrpop_grammar_symbols.specs.Symbols.{Text, Closed, Closeds, closed_list}
use Rattle.lalrpop_grammar_language.specs.Enabled.{EnabledGrammar, EnabledRule, Choice, IsRule}
use Rattle.lalrpop_grammar_language.specs.Levels.{Rank, ranked_choices, loosest, tighter}
use Rattle.lalrpop_grammar_language.specs.Closing.{right_side}
use Rattle.lalrpop_grammar_language.specs.Admitting.{Fits, bind, rank_level}
use Rattle.lalrpop_norm_theory.specs.KeyTables.{keys_in}
use Rattle.lalrpop_norm_theory.specs.LeveledGrammar.{levels_in_order}
use Rattle.lalrpop_norm_theory.specs.LevelNames.{after_first}
use Rattle.lalrpop_norm_theory.specs.FirstUse.{AreInOrderOfUse}

-- what a call uses

-- the alternative may be chosen in a call at that level
abbrev pub IsChosenAt : EnabledGrammar → Text → Closeds → Option ℕ → EnabledRule → Choice × Option Rank → Type 0
IsChosenAt g n args level r c = Fits g n args r c × (rank_level c.1 ≡ level)

-- the keys that stand in its symbols, in reading order, each before what stands in it
abbrev pub keys_of_side : EnabledGrammar → EnabledRule → Closeds → Choice × Option Rank → List Closed
keys_of_side g r args c = flat_map keys_in (right_side g r (bind r args) c)

-- an alternative that may be chosen uses these, another one nothing
abbrev pub ChoiceUses : EnabledGrammar → Text → Closeds → Option ℕ → EnabledRule → Choice × Option Rank → List Closed → Type 0
ChoiceUses g n args level r c us =
    IsChosenAt g n args level r c × (us ≡ flat_map keys_in (right_side g r (bind r args) c))
    ⊎ (IsChosenAt g n args level r c → ⊥) × (us ≡ [])

-- the same of several alternatives, one after another
abbrev pub ChoicesUse : EnabledGrammar → Text → Closeds → Option ℕ → EnabledRule → List (Choice × Option Rank) → List Closed
    → Type 0
ChoicesUse g n args level r [] us = us ≡ []
ChoicesUse g n args level r (c ∷ cs) us =
    (mine : List Closed) × (rest : List Closed) × (us ≡ mine ++ rest) × ChoiceUses g n args level r c mine
    × ChoicesUse g n args level r cs rest

-- the call at the next tighter level, where there is one
abbrev pub call_at_level : Text → Closeds → Option ℕ → List Closed
call_at_level n args None = []
call_at_level n args (Some to) = Closed.call n args (Some to) ∷ []

-- what a call at a level passes down to
abbrev pub tighter_call : EnabledRule → Text → Closeds → Option ℕ → List Closed
tighter_call r n args None = []
tighter_call r n args (Some from) = call_at_level n args (tighter r from)

-- The rule is called, with as many arguments as it has parameters.
pub record IsRuleCalled (g : EnabledGrammar) (n : Text) (args : Closeds) (r : EnabledRule) : Type 0 where
  pub is_rule : IsRule g n r
  pub arguments : length (closed_list args) ≡ length r.parameters

-- A call uses what its alternatives do, in order, and then what it passes down to; nothing where no rule is called.
pub data CallUses (g : EnabledGrammar) (n : Text) (args : Closeds) (level : Option ℕ) (us : List Closed) : Type 0 where
  of_rule : (r : EnabledRule) (mine : List Closed) → IsRuleCalled g n args r → ChoicesUse g n args level r (ranked_choices r) mine
      → us ≡ mine ++ tighter_call r n args level → CallUses g n args level us
  of_none : ((r : EnabledRule) → IsRuleCalled g n args r → ⊥) → us ≡ [] → CallUses g n args level us

-- What a key uses. What stands in a group or a repeat is used by the call in which this stands.
abbrev pub KeyUses : EnabledGrammar → Closed → List Closed → Type 0
KeyUses g (Closed.call n args level) us = CallUses g n args level us
KeyUses g (Closed.terminal t) us = us ≡ []
KeyUses g (Closed.repeat op x) us = us ≡ []
KeyUses g (Closed.group xs) us = us ≡ []
KeyUses g (Closed.choose x) us = us ≡ []
KeyUses g (Closed.name m n x) us = us ≡ []
KeyUses g Closed.lookahead us = us ≡ []
KeyUses g Closed.lookbehind us = us ≡ []
KeyUses g Closed.faulty us = us ≡ []

-- the order

-- a rule at its tighter levels, and at all: the loosest first
abbrev pub tighter_at : EnabledRule → List Closed
tighter_at r = map (λ j. Closed.call r.name Closeds.none (Some j)) (after_first (levels_in_order r))

abbrev pub rule_at_levels : EnabledRule → List Closed
rule_at_levels r = Closed.call r.name Closeds.none (loosest r) ∷ tighter_at r

-- none for a macro
abbrev pub unless_macro : List Text → List Closed → List Closed
unless_macro [] keys = keys
unless_macro (p ∷ ps) keys = []

-- the rules that are no macros, as they are written, each at all its levels
abbrev pub written_keys : EnabledGrammar → List Closed
written_keys g = flat_map (λ r. unless_macro r.parameters (rule_at_levels r)) g.rules

-- the other keys of the grammar, each where it is used first
abbrev pub AreKeysByUse : EnabledGrammar → List Closed → Type 0
AreKeysByUse g others = AreInOrderOfUse (KeyUses g) (written_keys g) others

-- all of them, the rules in front
abbrev pub IsListByUse : EnabledGrammar → List Closed → Type 0
IsListByUse g keys = (others : List Closed) × (keys ≡ written_keys g ++ others) × AreKeysByUse g others
