-- The message of each fault of a written grammar, and of a run that refuses.
use Rattle.std.specs.Prelude.{◌++◌, codes, decimal}
use Rattle.lalrpop_grammar_symbols.specs.Symbols.{Text}
use Rattle.lalrpop_grammar_symbols.specs.Texts.{terminal_text}
use Rattle.lalrpop_grammar_symbols.specs.Views.{literal_view}
use Rattle.lalrpop_grammar_repr.specs.declared.norm_error.NormErrorKind.{NormErrorKind}
use Rattle.lalrpop_grammar_repr.specs.declared.norm_error.NormErrorKind.TheVariants as kinds
use Rattle.lalrpop_grammar_repr.specs.declared.session.NormFault.{NormFault}
use Rattle.lalrpop_grammar_repr.specs.declared.session.NormFault.TheVariants as faults

abbrev pub norm_error_text : NormErrorKind → Text
norm_error_text (kinds.DuplicateDefinition name) = codes "duplicate definition of `" ++ name ++ codes "`"
norm_error_text kinds.SecondMatchBlock = codes "second match block"
norm_error_text (kinds.UnknownAttribute name) = codes "unknown attribute `" ++ name ++ codes "`"
norm_error_text kinds.PublicInline = codes "public rules can't be inlined"
norm_error_text kinds.FirstWithoutLevel = codes "the first alternative needs a level"
norm_error_text kinds.LevelIsNoNumber = codes "level is no number"
norm_error_text kinds.SideOnTightestLevel = codes "no side on the tightest level"
norm_error_text kinds.UnknownSide = codes "unknown side"
norm_error_text kinds.ReservedPrefix = codes "reserved prefix"
norm_error_text kinds.NamedNotAllowed = codes "named symbol not allowed here"
norm_error_text kinds.EntryTwice = codes "entry listed twice"
norm_error_text (kinds.NoDefinition name) = codes "no definition found for `" ++ name ++ codes "`"
norm_error_text kinds.WrongNumberOfArguments = codes "wrong number of arguments"
norm_error_text kinds.MacroAsRule = codes "macro used as a rule or rule as a macro"
norm_error_text (kinds.MacroDepth limit) = codes "macro depth above " ++ decimal limit
norm_error_text kinds.ConditionOnOther = codes "condition on something else than a literal"
norm_error_text kinds.ConditionPattern = codes "condition pattern not read"
norm_error_text (kinds.NotInMatchBlock literal) = terminal_text (literal_view literal) ++ codes " isn't in the match block"
norm_error_text (kinds.PatternRefused literal) = codes "pattern refused: " ++ terminal_text (literal_view literal)
norm_error_text (kinds.SameText first second) =
    terminal_text (literal_view first) ++ codes " and " ++ terminal_text (literal_view second) ++ codes " match the same text"
norm_error_text kinds.TypesDisagree = codes "alternatives disagree in type"
norm_error_text (kinds.NoType name) = codes "no type for `" ++ name.0 ++ codes "`"
norm_error_text kinds.TooManyActions = codes "too many actions"
norm_error_text (kinds.CyclicInline name) =
    codes "cyclic inline directive: `" ++ name.0 ++ codes "` would have to be inlined into itself"

-- the kind alone tells the message, and no part of the grammar
abbrev pub IsPlainKind : NormErrorKind → Type 0
IsPlainKind (kinds.DuplicateDefinition name) = ⊥
IsPlainKind (kinds.UnknownAttribute name) = ⊥
IsPlainKind (kinds.NoDefinition name) = ⊥
IsPlainKind (kinds.MacroDepth limit) = ⊥
IsPlainKind (kinds.NotInMatchBlock literal) = ⊥
IsPlainKind (kinds.PatternRefused literal) = ⊥
IsPlainKind (kinds.SameText first second) = ⊥
IsPlainKind (kinds.NoType name) = ⊥
IsPlainKind (kinds.CyclicInline name) = ⊥
IsPlainKind _ = Unit {0}

abbrev pub norm_fault_text : NormFault → Text
norm_fault_text (faults.Norm error) = norm_error_text error.kind
norm_fault_text faults.ConditionLimit = codes "condition limit"
norm_fault_text faults.Memory = codes "out of memory"
