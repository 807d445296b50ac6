-- What the laws say of what is disabled, of passes, of calls found by rounds and of tables of types.
use Rattle.std.specs.Prelude.{ℕ, suc, ◌≡◌, ◌≤◌, ◌↔◌, Bool, List, [], ◌++◌, map, Option, Some, None}
use Rattle.lalrpop_grammar_symbols.specs.Symbols.{Text, Closed, Closeds}
use Rattle.lalrpop_grammar.specs.WrittenGrammar.{Origin, Grammar}
use Rattle.lalrpop_grammar_language.specs.Among.{Among}
use Rattle.lalrpop_grammar_language.specs.Enabled.{EnabledGrammar, enabled_grammar}
use Rattle.lalrpop_grammar_language.specs.Expansion.{Nonterminal, RightSide, Produces, IsRoot}
use Rattle.lalrpop_norm_theory.specs.Between.{grammar_between, without_disabled, rule_without_cfg}
use Rattle.lalrpop_norm_theory.specs.Premises.{IsReadGrammar}
use Rattle.lalrpop_norm_theory.specs.Depth.{CallOccursIn, HasCallChain, IsTooDeep}
use Rattle.lalrpop_norm_theory.specs.Rounds.{AreCallsToDepth, IsCallRound}
use Rattle.lalrpop_norm_theory.specs.Same.{SameExpansion}
use Rattle.lalrpop_norm_theory.specs.Productions.{NamedProduction, AreProductions}
use Rattle.lalrpop_norm_theory.specs.Rows.{Row, productions_from, origins_of, AreExpansionRows}
use Rattle.lalrpop_norm_theory.specs.Types.{GroundType, TypeStep, IsGrounded, IsTyped, IsAgreeing}

-- what is disabled

-- what is left of a grammar that was read has its enabled rules, but for the attributes that were asked
abbrev pub RulesAreLeft : Type 0
RulesAreLeft =
    (finds : Text → Text → Option Bool) (features : List Text) (g : Grammar) → IsReadGrammar g
    → (grammar_between finds (without_disabled features g)).rules ≡ map rule_without_cfg (enabled_grammar finds features g).rules

-- and its mapped bare names
abbrev pub BaresAreLeft : Type 0
BaresAreLeft =
    (finds : Text → Text → Option Bool) (features : List Text) (g : Grammar)
    → (grammar_between finds (without_disabled features g)).bares ≡ (enabled_grammar finds features g).bares

-- passes

-- what two passes keep one after the other
abbrev pub SameExpansionsCompose : Type 0
SameExpansionsCompose =
    (g h k : EnabledGrammar) (f e : Nonterminal → Nonterminal) → SameExpansion g h f → SameExpansion h k e
    → SameExpansion g k (λ x. e (f x))

-- grammars with the same productions and the same roots have one expansion
abbrev pub AlikeHaveSameExpansion : Type 0
AlikeHaveSameExpansion =
    (g h : EnabledGrammar) → ((x : Nonterminal) (o : Origin) (side : RightSide) → Produces g x o side ↔ Produces h x o side)
    → ((x : Nonterminal) → IsRoot g x ↔ IsRoot h x) → SameExpansion g h (λ x. x)

-- the productions of what a pass gave are those of what it got
abbrev pub ProductionsGoBack : Type 0
ProductionsGoBack =
    (g h : EnabledGrammar) (to : Nonterminal → Nonterminal) (name_of : Nonterminal → Text) (productions : List NamedProduction)
    (origins : List Origin) → SameExpansion g h to → AreProductions h name_of productions origins
    → AreProductions g (λ x. name_of (to x)) productions origins

-- the labelled productions of an expansion, numbered as they stand, are its productions
abbrev pub ProductionsAreNumbered : Type 0
ProductionsAreNumbered =
    (g : EnabledGrammar) (name_of : Nonterminal → Text) (rows : List Row) → AreExpansionRows g name_of rows
    → AreProductions g name_of (productions_from name_of 0 rows) (origins_of rows)

-- calls by depth

-- before the first round nothing is walked, and the next calls are those in the roots
abbrev pub RoundsBegin : Type 0
RoundsBegin =
    (g : EnabledGrammar) (next : List Closed) → ((x : Closed) → Among next x → HasCallChain g 1 x)
    → ((y x : Closed) → IsRoot g (Nonterminal.closed y) → CallOccursIn g y x → Among next x) → AreCallsToDepth g 0 [] next

-- one round leads one deeper
abbrev pub RoundsDeepen : Type 0
RoundsDeepen =
    (g : EnabledGrammar) (depth : ℕ) (walked next found : List Closed) → AreCallsToDepth g depth walked next
    → IsCallRound g walked next found → AreCallsToDepth g (suc depth) (walked ++ next) found

-- what is left at the limit is too deep
abbrev pub LeftAreTooDeep : Type 0
LeftAreTooDeep =
    (g : EnabledGrammar) (depth : ℕ) (walked next : List Closed) → AreCallsToDepth g depth walked next
    → (x : Closed) → Among next x → IsTooDeep g depth x

-- where nothing is left, each call is walked
abbrev pub AllCallsAreFound : Type 0
AllCallsAreFound =
    (g : EnabledGrammar) (depth : ℕ) (walked : List Closed) → AreCallsToDepth g depth walked []
    → (k : ℕ) (x : Closed) → HasCallChain g k x → Among walked x

-- and none is too deep
abbrev pub NoneIsTooDeep : Type 0
NoneIsTooDeep =
    (g : EnabledGrammar) (depth limit : ℕ) (walked : List Closed) → depth ≤ limit → AreCallsToDepth g depth walked []
    → (x : Closed) → IsTooDeep g limit x → ⊥

-- types

-- a step over grounded types gives a grounded type
abbrev pub StepsAreGrounded : Type 0
StepsAreGrounded = (g : EnabledGrammar) (x : Closed) (t : GroundType) → TypeStep g (IsGrounded g) x t → IsGrounded g x t

-- where a table's types of calls are grounded, so are those of symbols by the table
abbrev pub TablesAreGrounded : Type 0
TablesAreGrounded =
    (g : EnabledGrammar) (table : Closed → Option GroundType)
    → ((n : Text) (args : Closeds) (level : Option ℕ) (t : GroundType) → table (Closed.call n args level) ≡ Some t
    → IsGrounded g (Closed.call n args level) t) → (x : Closed) (t : GroundType) → IsTyped g table x t → IsGrounded g x t

-- a grounded type is the one of a table that agrees
abbrev pub TablesHaveAll : Type 0
TablesHaveAll =
    (g : EnabledGrammar) (table : Closed → Option GroundType) → IsAgreeing g table → (x : Closed) (t : GroundType)
    → IsGrounded g x t → IsTyped g table x t

-- so a call that such a table lacks has none, and each other one has one at most
abbrev pub LackingCallsAreUntyped : Type 0
LackingCallsAreUntyped =
    (g : EnabledGrammar) (table : Closed → Option GroundType) → IsAgreeing g table → (n : Text) (args : Closeds) (level : Option ℕ)
    → table (Closed.call n args level) ≡ None → (t : GroundType) → IsGrounded g (Closed.call n args level) t → ⊥

abbrev pub CallsHaveOneType : Type 0
CallsHaveOneType =
    (g : EnabledGrammar) (table : Closed → Option GroundType) → IsAgreeing g table → (n : Text) (args : Closeds) (level : Option ℕ)
    (t u : GroundType) → IsGrounded g (Closed.call n args level) t → IsGrounded g (Closed.call n args level) u → t ≡ u
