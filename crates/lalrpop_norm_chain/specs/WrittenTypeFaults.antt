-- What is wrong with the types of an expansion, over the written grammar.
use Rattle.std.specs.Prelude.{ℕ, ◌≡◌, ◌≢◌, Option}
use Rattle.lalrpop_grammar_symbols.specs.Symbols.{Text, TextSpan, Closed, Closeds}
use Rattle.lalrpop_grammar.specs.WrittenGrammar.{Rule, Grammar, rules_of}
use Rattle.lalrpop_grammar_language.specs.Among.{Among}
use Rattle.lalrpop_grammar_language.specs.Enabled.{Choice, EnabledGrammar}
use Rattle.lalrpop_grammar_language.specs.Expansion.{Nonterminal, InExpansion}
use Rattle.lalrpop_grammar_language.specs.Levels.{Rank}
use Rattle.lalrpop_norm_theory.specs.Keys.{leveled_key_text}
use Rattle.lalrpop_norm_theory.specs.NamesByUse.{IsNamingByUse}
use Rattle.lalrpop_norm_theory.specs.Types.{ByDefault, ByTighterLevel, GroundType, IsGrounded}

-- The expansion has the rule or the instance, and its rule is written at that place.
pub record IsCallAt (g : EnabledGrammar) (d : Grammar) (x : Closed) (p : TextSpan) : Type 0 where
  pub name : Text
  pub args : Closeds
  pub level : Option ℕ
  pub is_call : x ≡ Closed.call name args level
  pub in_expansion : InExpansion g (Nonterminal.closed x)
  pub rule : Rule
  pub among : Among (rules_of d.items) rule
  pub name_is : rule.name ≡ name
  pub span_is : rule.span ≡ p

-- an alternative of a call at its level: a written one with its rank, or the pass to the next tighter level
pub data OwnAlternative : Type 0 where
  written : Choice × Option Rank → OwnAlternative
  pass_down : OwnAlternative

-- The alternative gives the call the type: it has no user code, and the call's rule declares no type.
abbrev pub IsGivenBy : EnabledGrammar → Text → Closeds → Option ℕ → OwnAlternative → GroundType → Type 0
IsGivenBy g n args level (OwnAlternative.written c) t = (h : ByDefault (IsGrounded g) g n args level t) × (h.choice ≡ c)
IsGivenBy g n args level OwnAlternative.pass_down t = ByTighterLevel (IsGrounded g) g n args level t

-- Two of its own alternatives give it types that differ. One alternative that has two types by what it refers to is no such fault.
pub record IsDisagreeing (g : EnabledGrammar) (d : Grammar) (p : TextSpan) : Type 0 where
  pub symbol : Closed
  pub at : IsCallAt g d symbol p
  pub one : OwnAlternative
  pub other : OwnAlternative
  pub apart : one ≢ other
  pub first : GroundType
  pub second : GroundType
  pub differ : first ≢ second
  pub one_gives : IsGivenBy g at.name at.args at.level one first
  pub other_gives : IsGivenBy g at.name at.args at.level other second

-- The call at that place has no type.
pub record HasNoTypeAt (g : EnabledGrammar) (d : Grammar) (p : TextSpan) : Type 0 where
  pub symbol : Closed
  pub at : IsCallAt g d symbol p
  pub no_type : (t : GroundType) → IsGrounded g symbol t → ⊥

-- Such a call is told by its name in the expansion, given in order of first use.
pub record IsUntyped (g : EnabledGrammar) (prefix : Text) (d : Grammar) (n : Text) (p : TextSpan) : Type 0 where
  pub call : HasNoTypeAt g d p
  pub name_of : Nonterminal → Text
  pub naming : IsNamingByUse (leveled_key_text g) prefix g name_of
  pub called : name_of (Nonterminal.closed call.symbol) ≡ n
