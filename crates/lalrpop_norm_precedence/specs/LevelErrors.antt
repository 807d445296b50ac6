-- What is wrong with levels, as an error tells it: its kind and its span; and the first of several faults.
use Rattle.std.specs.Prelude.{List, [], ◌∷◌, Option, Some, None}
use Rattle.lalrpop_grammar_symbols.specs.Symbols.{TextSpan}
use Rattle.lalrpop_grammar_symbols.specs.Views.{span_view}
use Rattle.lalrpop_grammar_repr.specs.declared.norm_error.NormError.{NormError}
use Rattle.lalrpop_grammar_repr.specs.declared.norm_error.NormErrorKind.{NormErrorKind}
use Rattle.lalrpop_grammar_repr.specs.declared.norm_error.NormErrorKind.TheVariants as kinds
use Rattle.lalrpop_norm_theory.specs.LevelFaults.{LevelFault}

-- a kind of fault, and where it stands
abbrev pub ToldFault : Type 0
ToldFault = NormErrorKind × TextSpan

abbrev pub error_view : NormError → ToldFault
error_view e = (e.kind, span_view e.span)

abbrev pub told_fault : LevelFault → ToldFault
told_fault (LevelFault.needs_level p) = (kinds.FirstWithoutLevel, p)
told_fault (LevelFault.no_number p) = (kinds.LevelIsNoNumber, p)
told_fault (LevelFault.side_on_tightest p) = (kinds.SideOnTightestLevel, p)
told_fault (LevelFault.no_side p) = (kinds.UnknownSide, p)

-- the first of the faults, if there is one
abbrev pub first_fault : List LevelFault → Option ToldFault
first_fault [] = None
first_fault (f ∷ fs) = Some (told_fault f)
