-- Which faults the token check finds in an expanded grammar, and with which span.
use Rattle.std.specs.Prelude.{◌≡◌, List, Some, None}
use Rattle.lalrpop_grammar_symbols.specs.Symbols.{TextSpan, Terminal}
use Rattle.lalrpop_grammar_symbols.specs.Views.{span_view, literal_view}
use Rattle.lalrpop_grammar.specs.WrittenGrammar.{InternEntry, Grammar}
use Rattle.lalrpop_grammar_repr.specs.declared.norm_error.NormErrorKind.{NormErrorKind}
use Rattle.lalrpop_grammar_repr.specs.declared.norm_error.NormErrorKind.TheVariants as kinds
use Rattle.lalrpop_grammar_repr.specs.declared.session.NormFault.{NormFault}
use Rattle.lalrpop_grammar_repr.specs.declared.session.NormFault.TheVariants as faults
use Rattle.lalrpop_norm_token_check.specs.Blocks.{block_groups, first_lacking}
use Rattle.lalrpop_norm_token_check.specs.Entries.{AreUsed, AreFullEntries}
use Rattle.lalrpop_norm_token_check.specs.Patterns.{first_refused, AreFirstTied}
use Rattle.lalrpop_norm_token_check.specs.Places.{FirstPlaces, place_of}

-- the first literal in use that the match block lacks
pub record IsLackingInExpanded (first : FirstPlaces) (g : Grammar) (l : Terminal) (p : TextSpan) : Type 0 where
  pub used : List Terminal
  pub are_used : AreUsed g used
  pub first_is : first_lacking (block_groups g.items) used ≡ Some l
  pub place : place_of first g l ≡ p

-- no literal is lacking, and this is the literal of the first entry that is refused
pub record IsRefusedInExpanded (first : FirstPlaces) (g : Grammar) (l : Terminal) (p : TextSpan) : Type 0 where
  pub entries : List InternEntry
  pub are_full : AreFullEntries g entries
  pub first_is : first_refused entries ≡ Some l
  pub place : place_of first g l ≡ p

-- No literal is lacking, and no entry is refused. These are the literals of the two entries that are told of the first tie.
pub record AreTiedInExpanded (first : FirstPlaces) (g : Grammar) (l m : Terminal) (p : TextSpan) : Type 0 where
  pub entries : List InternEntry
  pub are_full : AreFullEntries g entries
  pub none_refused : first_refused entries ≡ None
  pub tied : AreFirstTied entries l m
  pub place : place_of first g l ≡ p

-- The fault stands in the grammar with this span. The kinds that other passes find aren't looked for.
abbrev pub TokenFaultInExpanded : FirstPlaces → NormErrorKind → TextSpan → Grammar → Type 0
TokenFaultInExpanded first (kinds.NotInMatchBlock l) p g = IsLackingInExpanded first g (literal_view l) p
TokenFaultInExpanded first (kinds.PatternRefused l) p g = IsRefusedInExpanded first g (literal_view l) p
TokenFaultInExpanded first (kinds.SameText l m) p g = AreTiedInExpanded first g (literal_view l) (literal_view m) p
TokenFaultInExpanded first (kinds.DuplicateDefinition name) p g = ⊥
TokenFaultInExpanded first kinds.SecondMatchBlock p g = ⊥
TokenFaultInExpanded first (kinds.UnknownAttribute name) p g = ⊥
TokenFaultInExpanded first kinds.PublicInline p g = ⊥
TokenFaultInExpanded first kinds.FirstWithoutLevel p g = ⊥
TokenFaultInExpanded first kinds.LevelIsNoNumber p g = ⊥
TokenFaultInExpanded first kinds.SideOnTightestLevel p g = ⊥
TokenFaultInExpanded first kinds.UnknownSide p g = ⊥
TokenFaultInExpanded first kinds.ReservedPrefix p g = ⊥
TokenFaultInExpanded first kinds.NamedNotAllowed p g = ⊥
TokenFaultInExpanded first kinds.EntryTwice p g = ⊥
TokenFaultInExpanded first (kinds.NoDefinition name) p g = ⊥
TokenFaultInExpanded first kinds.WrongNumberOfArguments p g = ⊥
TokenFaultInExpanded first kinds.MacroAsRule p g = ⊥
TokenFaultInExpanded first (kinds.MacroDepth limit) p g = ⊥
TokenFaultInExpanded first kinds.ConditionOnOther p g = ⊥
TokenFaultInExpanded first kinds.ConditionPattern p g = ⊥
TokenFaultInExpanded first kinds.TypesDisagree p g = ⊥
TokenFaultInExpanded first (kinds.NoType name) p g = ⊥
TokenFaultInExpanded first kinds.TooManyActions p g = ⊥
TokenFaultInExpanded first (kinds.CyclicInline name) p g = ⊥

-- none of them stands
abbrev pub HasNoTokenFault : FirstPlaces → Grammar → Type 0
HasNoTokenFault first g = (kind : NormErrorKind) (p : TextSpan) → TokenFaultInExpanded first kind p g → ⊥

-- the fault that is told stands where it says, or memory ran out
abbrev pub IsTokenFault : FirstPlaces → Grammar → NormFault → Type 0
IsTokenFault first g (faults.Norm error) = TokenFaultInExpanded first error.kind (span_view error.span) g
IsTokenFault first g faults.Memory = Unit {0}
IsTokenFault first g faults.ConditionLimit = ⊥
