-- What the small questions about a grammar's parts answer.
use Rattle.std.specs.Prelude.{◌≢◌, List, [], ◌∷◌, Option, Some, None, if◌then◌else◌}
use Rattle.std.specs.Str.{bytes_eq}
use Rattle.lalrpop_grammar_symbols.specs.declared.span.Span.{Span}
use Rattle.lalrpop_grammar_symbols.specs.Symbols.{Text}
use Rattle.lalrpop_grammar.specs.declared.extern_token.AssociatedType.{AssociatedType}
use Rattle.lalrpop_grammar.specs.declared.extern_token.EnumToken.{EnumToken}
use Rattle.lalrpop_grammar.specs.declared.extern_token.ExternToken.{ExternToken}
use Rattle.lalrpop_grammar.specs.declared.grammar.GrammarItem.{GrammarItem}
use Rattle.lalrpop_grammar.specs.declared.grammar.GrammarItem.TheVariants as items
use Rattle.lalrpop_grammar.specs.declared.intern_token.InternToken.{InternToken}
use Rattle.lalrpop_grammar.specs.declared.match_token.MatchItem.{MatchItem}
use Rattle.lalrpop_grammar.specs.declared.match_token.MatchItem.TheVariants as entries
use Rattle.lalrpop_grammar.specs.declared.match_token.MatchToken.{MatchToken}
use Rattle.lalrpop_grammar.specs.declared.nonterminal.NonterminalData.{NonterminalData}

abbrev pub span_of : MatchItem → Span
span_of (entries.CatchAll span) = span
span_of (entries.Unmapped literal span) = span
span_of (entries.Mapped literal mapping span) = span

abbrev pub nonterminal_in : GrammarItem → Option NonterminalData
nonterminal_in (items.Nonterminal rule) = Some rule
nonterminal_in (items.MatchToken block) = None
nonterminal_in (items.ExternToken block) = None
nonterminal_in (items.InternToken entries) = None
nonterminal_in (items.Use text) = None

abbrev pub match_in : GrammarItem → Option MatchToken
match_in (items.MatchToken block) = Some block
match_in (items.Nonterminal rule) = None
match_in (items.ExternToken block) = None
match_in (items.InternToken entries) = None
match_in (items.Use text) = None

abbrev pub extern_in : GrammarItem → Option ExternToken
extern_in (items.ExternToken block) = Some block
extern_in (items.Nonterminal rule) = None
extern_in (items.MatchToken block) = None
extern_in (items.InternToken entries) = None
extern_in (items.Use text) = None

abbrev pub intern_in : GrammarItem → Option InternToken
intern_in (items.InternToken entries) = Some entries
intern_in (items.Nonterminal rule) = None
intern_in (items.MatchToken block) = None
intern_in (items.ExternToken block) = None
intern_in (items.Use text) = None

-- a macro is a rule with parameters
abbrev pub IsMacro : GrammarItem → Type 0
IsMacro (items.Nonterminal rule) = rule.args ≢ []
IsMacro (items.MatchToken block) = ⊥
IsMacro (items.ExternToken block) = ⊥
IsMacro (items.InternToken entries) = ⊥
IsMacro (items.Use text) = ⊥

-- the value, or else the other
abbrev pub first_of_two : {A : Type 0} → Option A → Option A → Option A
first_of_two (Some x) other = Some x
first_of_two None other = other

-- the first of the items that has one
abbrev pub first_in : {A : Type 0} → (GrammarItem → Option A) → List GrammarItem → Option A
first_in f [] = None
first_in f (x ∷ xs) = first_of_two (f x) (first_in f xs)

abbrev pub enum_in : Option ExternToken → Option EnumToken
enum_in None = None
enum_in (Some block) = block.enum_token

-- the first type of that name
abbrev pub type_of_name : Text → List AssociatedType → Option AssociatedType
type_of_name n [] = None
type_of_name n (x ∷ xs) = if bytes_eq x.name n then Some x else type_of_name n xs
