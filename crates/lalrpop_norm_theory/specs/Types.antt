-- Grounded types: those that follow in finitely many steps from declared types and default alternatives.
use Rattle.std.specs.Prelude.{ℕ, zero, suc, ◌≡◌, ◌⊎◌, ◌↔◌, Bool, true, false, List, [], ◌∷◌, Option, Some}
use Rattle.std.specs.Prelude.{None, codes, filter}
use Rattle.std.specs.Prelude.{if◌then◌else◌}
use Rattle.std.specs.List.{list_any}
use Rattle.lalrpop_grammar_symbols.specs.Symbols.{Text, Terminal, Op, Closed, Closeds, closed_list}
use Rattle.lalrpop_grammar.specs.WrittenGrammar.{Ty, Tys, Action}
use Rattle.lalrpop_grammar_language.specs.Enabled.{EnabledGrammar, EnabledRule, Choice, IsRule}
use Rattle.lalrpop_grammar_language.specs.Levels.{Rank, tighter, loosest}
use Rattle.lalrpop_grammar_language.specs.Closing.{Scope, parameter_value, close, sound_or_faulty, right_side}
use Rattle.lalrpop_grammar_language.specs.Admitting.{Fits, bind, rank_level}
use Rattle.lalrpop_grammar_language.specs.Expansion.{Nonterminal, InExpansion}

-- a type without parameters and symbols
mutual
  pub data GroundType : Type 0 where
    tuple : GroundTypes → GroundType
    nominal : Text → GroundTypes → GroundType
    ref : Option Text → Bool → GroundType → GroundType
    opaque : Text → GroundType

  pub data GroundTypes : Type 0 where
    none : GroundTypes
    more : GroundType → GroundTypes → GroundTypes

-- `&'input str`, the type of each terminal
abbrev pub text_type : GroundType
text_type = GroundType.ref (Some (codes "'input")) false (GroundType.nominal (codes "str") GroundTypes.none)

-- `usize`, the type of a lookaround: a place in the text
abbrev pub place_type : GroundType
place_type = GroundType.nominal (codes "usize") GroundTypes.none

-- `Vec<T>` of `X*` and `X+`, `Option<T>` of `X?`
abbrev pub repeat_type : Op → GroundType → GroundType
repeat_type Op.star t = GroundType.nominal (codes "Vec") (GroundTypes.more t GroundTypes.none)
repeat_type Op.plus t = GroundType.nominal (codes "Vec") (GroundTypes.more t GroundTypes.none)
repeat_type Op.question t = GroundType.nominal (codes "Option") (GroundTypes.more t GroundTypes.none)

abbrev pub is_chosen : Closed → Bool
is_chosen (Closed.choose x) = true
is_chosen (Closed.terminal t) = false
is_chosen (Closed.call n args level) = false
is_chosen (Closed.repeat op x) = false
is_chosen (Closed.group xs) = false
is_chosen (Closed.name m n x) = false
is_chosen Closed.lookahead = false
is_chosen Closed.lookbehind = false
is_chosen Closed.faulty = false

-- the chosen symbols, or all where none is chosen
abbrev pub chosen_or_all : List Closed → List Closed
chosen_or_all xs = if list_any is_chosen xs then filter is_chosen xs else xs

abbrev pub HaveTypes : (Closed → GroundType → Type 0) → List Closed → GroundTypes → Type 0
HaveTypes P [] GroundTypes.none = Unit {0}
HaveTypes P [] (GroundTypes.more t ts) = ⊥
HaveTypes P (x ∷ xs) GroundTypes.none = ⊥
HaveTypes P (x ∷ xs) (GroundTypes.more t ts) = P x t × HaveTypes P xs ts

-- one symbol has its own type, several have a tuple, and none the empty one
abbrev pub HaveTupleType : (Closed → GroundType → Type 0) → List Closed → GroundType → Type 0
HaveTupleType P [] t = t ≡ GroundType.tuple GroundTypes.none
HaveTupleType P (x ∷ []) t = P x t
HaveTupleType P (x ∷ y ∷ xs) t = (ts : GroundTypes) × (t ≡ GroundType.tuple ts) × HaveTypes P (x ∷ y ∷ xs) ts

-- the type of a parameter is that of what it is bound to; another name is a type of that name
abbrev pub IsTypeOfName : (Closed → GroundType → Type 0) → Text → Option Closed → GroundType → Type 0
IsTypeOfName P n (Some x) t = P x t
IsTypeOfName P n None t = t ≡ GroundType.nominal n GroundTypes.none

-- what a written type stands for, where the types of symbols are given
abbrev mutual
  pub IsTypeOf : (Closed → GroundType → Type 0) → Scope → Ty → GroundType → Type 0
  IsTypeOf P s (Ty.tuple ys) t = (ts : GroundTypes) × (t ≡ GroundType.tuple ts) × AreTypesOf P s ys ts
  IsTypeOf P s (Ty.nominal path ys) t = (ts : GroundTypes) × (t ≡ GroundType.nominal path ts) × AreTypesOf P s ys ts
  IsTypeOf P s (Ty.id n) t = IsTypeOfName P n (parameter_value s.binding n) t
  IsTypeOf P s (Ty.of_symbol w) t = P (sound_or_faulty (close s 0 w)) t
  IsTypeOf P s (Ty.ref lifetime mutable y) t = (u : GroundType) × (t ≡ GroundType.ref lifetime mutable u) × IsTypeOf P s y u
  IsTypeOf P s (Ty.opaque text) t = t ≡ GroundType.opaque text

  pub AreTypesOf : (Closed → GroundType → Type 0) → Scope → Tys → GroundTypes → Type 0
  AreTypesOf P s Tys.none GroundTypes.none = Unit {0}
  AreTypesOf P s Tys.none (GroundTypes.more t ts) = ⊥
  AreTypesOf P s (Tys.more y ys) GroundTypes.none = ⊥
  AreTypesOf P s (Tys.more y ys) (GroundTypes.more t ts) = IsTypeOf P s y t × AreTypesOf P s ys ts

-- where a declared type is read: in no alternative, so each rule has its loosest level, its own rule too
abbrev pub type_scope : EnabledGrammar → EnabledRule → Closeds → Scope
type_scope g r args = record { grammar = g; binding = bind r args; owner = r.name; level_at = λ k. loosest r }

-- the rule declares its type
pub record ByDeclaration (P : Closed → GroundType → Type 0) (g : EnabledGrammar) (n : Text) (args : Closeds) (t : GroundType) :
    Type 0 where
  pub rule : EnabledRule
  pub is_rule : IsRule g n rule
  pub written : Ty
  pub declared : rule.declared ≡ Some written
  pub type_is : IsTypeOf P (type_scope g rule args) written t

-- an alternative of that level without user code gives it
pub record ByDefault (P : Closed → GroundType → Type 0) (g : EnabledGrammar) (n : Text) (args : Closeds) (level : Option ℕ)
    (t : GroundType) : Type 0 where
  pub rule : EnabledRule
  pub choice : Choice × Option Rank
  pub fits : Fits g n args rule choice
  pub undeclared : rule.declared ≡ None
  pub level_is : rank_level choice.1 ≡ level
  pub no_code : choice.0.action ≡ Action.default
  pub type_is : HaveTupleType P (chosen_or_all (right_side g rule (bind rule args) choice)) t

-- the next tighter level present gives it: a pass-down is an alternative of one symbol without user code
pub record ByTighterLevel (P : Closed → GroundType → Type 0) (g : EnabledGrammar) (n : Text) (args : Closeds) (level : Option ℕ)
    (t : GroundType) : Type 0 where
  pub rule : EnabledRule
  pub is_rule : IsRule g n rule
  pub undeclared : rule.declared ≡ None
  pub from : ℕ
  pub to : ℕ
  pub from_is : level ≡ Some from
  pub to_is : tighter rule from ≡ Some to
  pub type_is : P (Closed.call n args (Some to)) t

-- one step of a derivation of a call's type
abbrev pub CallStep : EnabledGrammar → (Closed → GroundType → Type 0) → Text → Closeds → Option ℕ → GroundType → Type 0
CallStep g P n args level t = ByDeclaration P g n args t ⊎ (ByDefault P g n args level t ⊎ ByTighterLevel P g n args level t)

-- One step of a derivation, over what was derived before. Only what the expansion has gets a type: a call, a repeat, a group
-- or a lookaround that stands in a declared type alone has none, nor has the terminal of error recovery.
abbrev pub TypeStep : EnabledGrammar → (Closed → GroundType → Type 0) → Closed → GroundType → Type 0
TypeStep g P (Closed.terminal (Terminal.quoted text)) t = t ≡ text_type
TypeStep g P (Closed.terminal (Terminal.regex text)) t = t ≡ text_type
TypeStep g P (Closed.terminal (Terminal.bare n)) t = t ≡ text_type
TypeStep g P (Closed.terminal Terminal.error) t = ⊥
TypeStep g P (Closed.call n args level) t =
    InExpansion g (Nonterminal.closed (Closed.call n args level)) × CallStep g P n args level t
TypeStep g P (Closed.repeat op x) t =
    InExpansion g (Nonterminal.closed (Closed.repeat op x)) × (u : GroundType) × (t ≡ repeat_type op u) × P x u
TypeStep g P (Closed.group xs) t =
    InExpansion g (Nonterminal.closed (Closed.group xs)) × HaveTupleType P (chosen_or_all (closed_list xs)) t
TypeStep g P (Closed.choose x) t = P x t
TypeStep g P (Closed.name m n x) t = P x t
TypeStep g P Closed.lookahead t = InExpansion g (Nonterminal.closed Closed.lookahead) × (t ≡ place_type)
TypeStep g P Closed.lookbehind t = InExpansion g (Nonterminal.closed Closed.lookbehind) × (t ≡ place_type)
TypeStep g P Closed.faulty t = ⊥

-- the type is derived in fewer than so many steps
abbrev pub IsGroundedIn : EnabledGrammar → ℕ → Closed → GroundType → Type 0
IsGroundedIn g zero x t = ⊥
IsGroundedIn g (suc k) x t = TypeStep g (IsGroundedIn g k) x t

-- The type is one of the symbol's grounded types.
abbrev pub IsGrounded : EnabledGrammar → Closed → GroundType → Type 0
IsGrounded g x t = (k : ℕ) × IsGroundedIn g k x t

-- what a pass keeps of types, where it renames closed symbols: what is in the expansion has the same types
abbrev pub SameTypes : EnabledGrammar → EnabledGrammar → (Closed → Closed) → Type 0
SameTypes before after to =
    (x : Closed) (t : GroundType) → InExpansion before (Nonterminal.closed x) → IsGrounded before x t ↔ IsGrounded after (to x) t

-- the type of a symbol in so many steps, where each call has the type that a table gives it
abbrev pub IsTypedIn : EnabledGrammar → (Closed → Option GroundType) → ℕ → Closed → GroundType → Type 0
IsTypedIn g table zero x t = ⊥
IsTypedIn g table (suc k) (Closed.call n args level) t = table (Closed.call n args level) ≡ Some t
IsTypedIn g table (suc k) (Closed.terminal u) t = TypeStep g (IsTypedIn g table k) (Closed.terminal u) t
IsTypedIn g table (suc k) (Closed.repeat op x) t = TypeStep g (IsTypedIn g table k) (Closed.repeat op x) t
IsTypedIn g table (suc k) (Closed.group xs) t = TypeStep g (IsTypedIn g table k) (Closed.group xs) t
IsTypedIn g table (suc k) (Closed.choose x) t = TypeStep g (IsTypedIn g table k) (Closed.choose x) t
IsTypedIn g table (suc k) (Closed.name m n x) t = TypeStep g (IsTypedIn g table k) (Closed.name m n x) t
IsTypedIn g table (suc k) Closed.lookahead t = TypeStep g (IsTypedIn g table k) Closed.lookahead t
IsTypedIn g table (suc k) Closed.lookbehind t = TypeStep g (IsTypedIn g table k) Closed.lookbehind t
IsTypedIn g table (suc k) Closed.faulty t = ⊥

abbrev pub IsTyped : EnabledGrammar → (Closed → Option GroundType) → Closed → GroundType → Type 0
IsTyped g table x t = (k : ℕ) × IsTypedIn g table k x t

-- The table agrees with the grammar: what one step gives a call by the table is what the table has.
abbrev pub IsAgreeing : EnabledGrammar → (Closed → Option GroundType) → Type 0
IsAgreeing g table =
    (n : Text) (args : Closeds) (level : Option ℕ) (t : GroundType) → TypeStep g (IsTyped g table) (Closed.call n args level) t
    → table (Closed.call n args level) ≡ Some t
