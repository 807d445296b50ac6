-- Which faults the first pass finds in a written grammar, whatever is enabled, and with which span.
use Rattle.std.specs.Prelude.{◌≡◌, true, flat_map}
use Rattle.lalrpop_grammar_symbols.specs.Symbols.{Text, TextSpan}
use Rattle.lalrpop_grammar_symbols.specs.Views.{span_view}
use Rattle.lalrpop_grammar.specs.WrittenGrammar.{Attr, attr_id, Grammar, rules_of}
use Rattle.lalrpop_grammar_language.specs.Among.{Among}
use Rattle.lalrpop_grammar_repr.specs.declared.norm_error.NormErrorKind.{NormErrorKind}
use Rattle.lalrpop_grammar_repr.specs.declared.norm_error.NormErrorKind.TheVariants as kinds
use Rattle.lalrpop_grammar_repr.specs.declared.session.NormFault.{NormFault}
use Rattle.lalrpop_grammar_repr.specs.declared.session.NormFault.TheVariants as faults
use Rattle.lalrpop_norm_prevalidate.specs.Attributes.{attr_span, unknown_attributes}
use Rattle.lalrpop_norm_prevalidate.specs.Blocks.{behind_first, block_span, public_inline_span}
use Rattle.lalrpop_norm_prevalidate.specs.Entries.{IsListedAgain, entries_in_item}
use Rattle.lalrpop_norm_prevalidate.specs.Labels.{misplaced_in_rule}
use Rattle.lalrpop_norm_prevalidate.specs.Names.{SpannedName, has_prefix, names_in_item}

-- an attribute of this name and with this span may not stand where it does
pub record IsUnknownAttribute (g : Grammar) (name : Text) (p : TextSpan) : Type 0 where
  pub attribute : Attr
  pub among : Among (unknown_attributes g.attributes g.items) attribute
  pub id : attr_id attribute ≡ name
  pub place : attr_span attribute ≡ p

-- a name that is told with this span begins with the prefix
pub record IsReservedName (g : Grammar) (p : TextSpan) : Type 0 where
  pub told : SpannedName
  pub among : Among (flat_map names_in_item g.items) told
  pub begins : has_prefix g.prefix told.0 ≡ true
  pub place : told.1 ≡ p

-- The fault stands in the grammar with this span. The kinds that later passes find aren't looked for.
abbrev pub CheckStands : NormErrorKind → TextSpan → Grammar → Type 0
CheckStands kinds.SecondMatchBlock p g = Among (behind_first (flat_map block_span g.items)) p
CheckStands (kinds.UnknownAttribute name) p g = IsUnknownAttribute g name p
CheckStands kinds.PublicInline p g = Among (flat_map public_inline_span (rules_of g.items)) p
CheckStands kinds.ReservedPrefix p g = IsReservedName g p
CheckStands kinds.NamedNotAllowed p g = Among (flat_map misplaced_in_rule (rules_of g.items)) p
CheckStands kinds.EntryTwice p g = IsListedAgain (flat_map entries_in_item g.items) p
CheckStands (kinds.DuplicateDefinition name) p g = ⊥
CheckStands kinds.FirstWithoutLevel p g = ⊥
CheckStands kinds.LevelIsNoNumber p g = ⊥
CheckStands kinds.SideOnTightestLevel p g = ⊥
CheckStands kinds.UnknownSide p g = ⊥
CheckStands (kinds.NoDefinition name) p g = ⊥
CheckStands kinds.WrongNumberOfArguments p g = ⊥
CheckStands kinds.MacroAsRule p g = ⊥
CheckStands (kinds.MacroDepth limit) p g = ⊥
CheckStands kinds.ConditionOnOther p g = ⊥
CheckStands kinds.ConditionPattern p g = ⊥
CheckStands (kinds.NotInMatchBlock literal) p g = ⊥
CheckStands (kinds.PatternRefused literal) p g = ⊥
CheckStands (kinds.SameText first second) p g = ⊥
CheckStands kinds.TypesDisagree p g = ⊥
CheckStands (kinds.NoType name) p g = ⊥
CheckStands kinds.TooManyActions p g = ⊥
CheckStands (kinds.CyclicInline name) p g = ⊥

-- the fault stands with no span
abbrev pub StandsNowhere : NormErrorKind → Grammar → Type 0
StandsNowhere kind g = (p : TextSpan) → CheckStands kind p g → ⊥

-- none of them stands
abbrev pub HasNoCheckFault : Grammar → Type 0
HasNoCheckFault g = (kind : NormErrorKind) (p : TextSpan) → CheckStands kind p g → ⊥

-- the fault that is told stands where it says, or memory ran out
abbrev pub IsCheckFault : Grammar → NormFault → Type 0
IsCheckFault g (faults.Norm error) = CheckStands error.kind (span_view error.span) g
IsCheckFault g faults.Memory = Unit {0}
IsCheckFault g faults.ConditionLimit = ⊥
