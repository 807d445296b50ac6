-- Which items of a grammar have a spelling.
use Rattle.std.specs.Prelude.{◌≡◌, ◌<◌, ℕ, ◌^◌, List, Option, Some, None, IsTrue}
use Rattle.lalrpop_grammar_symbols.specs.declared.names.NonterminalString.{NonterminalString}
use Rattle.lalrpop_grammar_symbols.specs.declared.span.Span.{Span}
use Rattle.lalrpop_grammar_symbols.specs.declared.terminal.TerminalLiteral.{TerminalLiteral}
use Rattle.lalrpop_grammar_symbols.specs.declared.terminal.TerminalString.{TerminalString}
use Rattle.lalrpop_grammar.specs.declared.alternative.ActionKind.{ActionKind}
use Rattle.lalrpop_grammar.specs.declared.alternative.ActionKind.TheVariants as actions
use Rattle.lalrpop_grammar.specs.declared.alternative.Alternative.{Alternative}
use Rattle.lalrpop_grammar.specs.declared.condition.Condition.{Condition}
use Rattle.lalrpop_grammar.specs.declared.extern_token.AssociatedType.{AssociatedType}
use Rattle.lalrpop_grammar.specs.declared.extern_token.Conversion.{Conversion}
use Rattle.lalrpop_grammar.specs.declared.extern_token.EnumToken.{EnumToken}
use Rattle.lalrpop_grammar.specs.declared.extern_token.ExternToken.{ExternToken}
use Rattle.lalrpop_grammar.specs.declared.grammar.GrammarItem.{GrammarItem}
use Rattle.lalrpop_grammar.specs.declared.grammar.GrammarItem.TheVariants as items
use Rattle.lalrpop_grammar.specs.declared.match_token.MatchContents.{MatchContents}
use Rattle.lalrpop_grammar.specs.declared.match_token.MatchItem.{MatchItem}
use Rattle.lalrpop_grammar.specs.declared.match_token.MatchItem.TheVariants as entries
use Rattle.lalrpop_grammar.specs.declared.match_token.MatchMapping.{MatchMapping}
use Rattle.lalrpop_grammar.specs.declared.match_token.MatchMapping.TheVariants as maps
use Rattle.lalrpop_grammar.specs.declared.match_token.MatchToken.{MatchToken}
use Rattle.lalrpop_grammar.specs.declared.nonterminal.NonterminalData.{NonterminalData}
use Rattle.lalrpop_json_values.specs.Scalars.{is_name}
use Rattle.lalrpop_json_values.specs.Spelled.{EachFrom, IfSome, IsSpan}
use Rattle.lalrpop_json_symbols.specs.Readable.{IsReadableTerminal, IsReadableType, AreReadableAttributes, AreReadableSymbols}
use Rattle.lalrpop_json_items.specs.Alternatives.{written_origin}

-- nothing, or code
pub data IsReadableAction (action : Option ActionKind) : Type 0 where
  absent : action ≡ None → IsReadableAction action
  user : (text : List ℕ) → action ≡ Some (actions.User text) → IsReadableAction action
  fallible : (text : List ℕ) → action ≡ Some (actions.Fallible text) → IsReadableAction action

pub record IsReadableCondition (c : Condition) : Type 0 where
  pub lhs : IsTrue (is_name c.lhs.0)
  pub span : IsSpan c.span

-- the alternative of a rule at a place
pub record IsReadableAlternative (name : List ℕ) (place : ℕ) (a : Alternative) : Type 0 where
  pub span : IsSpan a.span
  pub expr : AreReadableSymbols a.expr
  pub condition : IfSome IsReadableCondition a.condition
  pub action : IsReadableAction a.action
  pub attributes : AreReadableAttributes a.attributes
  pub origin : a.origin ≡ written_origin name place
  pub limit : place < 2 ^ 32

abbrev pub IsReadableParameter : NonterminalString → Type 0
IsReadableParameter n = IsTrue (is_name n.0)

pub record IsReadableRule (r : NonterminalData) : Type 0 where
  pub name : IsTrue (is_name r.name.0)
  pub attributes : AreReadableAttributes r.attributes
  pub span : IsSpan r.span
  pub args : EachFrom (λ _. IsReadableParameter) 0 r.args
  pub declared : IfSome IsReadableType r.type_decl
  pub alternatives : EachFrom (IsReadableAlternative r.name.0) 0 r.alternatives

pub data IsReadableMapping (m : MatchMapping) : Type 0 where
  skip : m ≡ maps.Skip → IsReadableMapping m
  terminal : (t : TerminalString) → m ≡ maps.Terminal t → IsReadableTerminal t → IsReadableMapping m

pub data IsReadableEntry (i : MatchItem) : Type 0 where
  catch_all : (span : Span) → i ≡ entries.CatchAll span → IsSpan span → IsReadableEntry i
  unmapped : (l : TerminalLiteral) (span : Span) → i ≡ entries.Unmapped l span → IsSpan span → IsReadableEntry i
  mapped : (l : TerminalLiteral) (m : MatchMapping) (span : Span) → i ≡ entries.Mapped l m span → IsReadableMapping m → IsSpan span
      → IsReadableEntry i

abbrev pub IsReadableContents : MatchContents → Type 0
IsReadableContents c = EachFrom (λ _. IsReadableEntry) 0 c.items

pub record IsReadableMatch (b : MatchToken) : Type 0 where
  pub contents : EachFrom (λ _. IsReadableContents) 0 b.contents
  pub span : IsSpan b.span

abbrev pub IsReadableAssociated : AssociatedType → Type 0
IsReadableAssociated a = IsTrue (is_name a.name)

abbrev pub IsReadableConversion : Conversion → Type 0
IsReadableConversion c = IsReadableTerminal c.from

abbrev pub IsReadableEnum : EnumToken → Type 0
IsReadableEnum e = EachFrom (λ _. IsReadableConversion) 0 e.conversions

pub record IsReadableExtern (b : ExternToken) : Type 0 where
  pub associated : EachFrom (λ _. IsReadableAssociated) 0 b.associated_types
  pub own : IfSome IsReadableEnum b.enum_token
  pub span : IsSpan b.span

pub data IsReadableItem (i : GrammarItem) : Type 0 where
  nonterminal : (r : NonterminalData) → i ≡ items.Nonterminal r → IsReadableRule r → IsReadableItem i
  match_token : (b : MatchToken) → i ≡ items.MatchToken b → IsReadableMatch b → IsReadableItem i
  extern_token : (b : ExternToken) → i ≡ items.ExternToken b → IsReadableExtern b → IsReadableItem i
  import : (text : List ℕ) → i ≡ items.Use text → IsReadableItem i
