-- What the program says of each refusal.
use Rattle.std.specs.Prelude.{ℕ, ◌++◌, codes, decimal, length}
use Rattle.lalrpop_grammar_symbols.specs.Symbols.{Text, TextSpan}
use Rattle.lalrpop_grammar_symbols.specs.Views.{span_view}
use Rattle.lalrpop_grammar_repr.specs.NormErrorTexts.{norm_error_text}
use Rattle.lalrpop_grammar_repr.specs.declared.norm_error.NormErrorKind.{NormErrorKind}
use Rattle.lalrpop_grammar_repr.specs.declared.norm_error.NormErrorKind.TheVariants as kinds
use Rattle.lalrpop_grammar_repr.specs.declared.session.NormFault.{NormFault}
use Rattle.lalrpop_grammar_repr.specs.declared.session.NormFault.TheVariants as faults
use Rattle.lalrpop_run_prepare.specs.declared.refusals.refusing.GenerateError.{GenerateError}
use Rattle.lalrpop_run_prepare.specs.declared.refusals.refusing.GenerateError.TheVariants as errors

-- the number under which the list of faults has a kind
abbrev pub fault_number : NormErrorKind → ℕ
fault_number (kinds.DuplicateDefinition name) = 1
fault_number kinds.SecondMatchBlock = 2
fault_number (kinds.UnknownAttribute name) = 3
fault_number kinds.PublicInline = 4
fault_number kinds.FirstWithoutLevel = 5
fault_number kinds.LevelIsNoNumber = 6
fault_number kinds.SideOnTightestLevel = 7
fault_number kinds.UnknownSide = 8
fault_number kinds.ReservedPrefix = 9
fault_number kinds.NamedNotAllowed = 10
fault_number kinds.EntryTwice = 11
fault_number (kinds.NoDefinition name) = 12
fault_number kinds.WrongNumberOfArguments = 13
fault_number kinds.MacroAsRule = 14
fault_number (kinds.MacroDepth limit) = 15
fault_number kinds.ConditionOnOther = 16
fault_number kinds.ConditionPattern = 17
fault_number (kinds.NotInMatchBlock literal) = 18
fault_number (kinds.PatternRefused literal) = 19
fault_number (kinds.SameText first second) = 20
fault_number kinds.TypesDisagree = 21
fault_number (kinds.NoType name) = 22
fault_number kinds.TooManyActions = 23
fault_number (kinds.CyclicInline name) = 24

-- a fault's number and the bytes from which to which it stands
abbrev pub fault_head : ℕ → TextSpan → Text
fault_head number p = codes "N" ++ decimal number ++ codes " at " ++ decimal p.0 ++ codes ".." ++ decimal p.1 ++ codes ": "

-- in one line, without its end
abbrev pub refusal_text : GenerateError → Text
refusal_text errors.Extern = codes "extern block not carried"
refusal_text errors.Recovery = codes "error recovery not carried"
refusal_text (errors.Norm error) = fault_head (fault_number error.kind) (span_view error.span) ++ norm_error_text error.kind
refusal_text (errors.UnknownStart name) = codes "unknown start: " ++ name
refusal_text (errors.PrivateStart name) = codes "private start: " ++ name
refusal_text (errors.Barren name) = codes "barren nonterminal: " ++ name
refusal_text (errors.Conflicts certificates) = codes "conflicts: " ++ decimal (length certificates.items)
refusal_text errors.ConditionLimit = codes "condition limit"
refusal_text errors.Memory = codes "out of memory"

-- the refusal for what the normalizer tells
abbrev pub refusal_for : NormFault → GenerateError
refusal_for (faults.Norm error) = errors.Norm error
refusal_for faults.ConditionLimit = errors.ConditionLimit
refusal_for faults.Memory = errors.Memory
