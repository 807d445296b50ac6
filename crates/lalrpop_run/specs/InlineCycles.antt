-- Which nonterminals of an expansion would have to be inlined into themselves, and how one is told.
use Rattle.std.specs.Prelude.{◌≡◌, Bool, List, Option}
use Rattle.lalrpop_grammar_symbols.specs.Symbols.{Text, TextSpan}
use Rattle.lalrpop_grammar.specs.WrittenGrammar.{Grammar, Origin}
use Rattle.lalrpop_grammar_language.specs.Among.{Among}
use Rattle.lalrpop_grammar_language.specs.Enabled.{EnabledGrammar, enabled_grammar}
use Rattle.lalrpop_grammar_language.specs.Expansion.{GrammarSymbol, InExpansion, Nonterminal, Produces, RightSide}
use Rattle.lalrpop_grammar_repr.specs.declared.norm_error.NormErrorKind.{NormErrorKind}
use Rattle.lalrpop_grammar_repr.specs.declared.norm_error.NormErrorKind.TheVariants as kinds
use Rattle.lalrpop_norm_chain.specs.Spans.{HasOwnSpan}
use Rattle.lalrpop_norm_theory.specs.Inlined.{IsInlined}
use Rattle.lalrpop_norm_theory.specs.Keys.{leveled_key_text}
use Rattle.lalrpop_norm_theory.specs.NamesByUse.{IsNamingByUse}

-- an inlined nonterminal has a production that names an inlined one
pub record NamesInlined (g : EnabledGrammar) (x y : Nonterminal) : Type 0 where
  pub inlined : IsInlined g x
  pub names_inlined : IsInlined g y
  pub choice : Origin
  pub side : RightSide
  pub produced : Produces g x choice side
  pub named : Among side (GrammarSymbol.nonterminal y)

-- a chain of inlined nonterminals, in which each names the next one
pub data InlineChain (g : EnabledGrammar) (x : Nonterminal) : Nonterminal → Type 0 where
  one : {y : Nonterminal} → NamesInlined g x y → InlineChain g x y
  more : {y z : Nonterminal} → InlineChain g x y → NamesInlined g y z → InlineChain g x z

-- the nonterminal would have to be inlined into itself
abbrev pub IsCyclic : EnabledGrammar → Nonterminal → Type 0
IsCyclic g x = InExpansion g x × InlineChain g x x

-- Such a nonterminal is told by its name, given in order of first use, where it stands.
pub record IsCycleFault (finds : Text → Text → Option Bool) (features : List Text) (w : Grammar) (kind : NormErrorKind) (p : TextSpan) :
    Type 0 where
  pub name_of : Nonterminal → Text
  pub naming : IsNamingByUse (leveled_key_text (enabled_grammar finds features w)) w.prefix (enabled_grammar finds features w) name_of
  pub nonterminal : Nonterminal
  pub cyclic : IsCyclic (enabled_grammar finds features w) nonterminal
  pub kind_is : kind ≡ kinds.CyclicInline (record { 0 = name_of nonterminal })
  pub place : HasOwnSpan finds features w nonterminal p
