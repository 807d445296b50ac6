-- Kinds of faults whose messages tell no part of the grammar: for the printing of messages.
use Rattle.std.proofs.Common.{◌≡◌, ℕ, refl}
use Rattle.lalrpop_grammar_symbols.specs.Symbols.{Text}
use Rattle.lalrpop_grammar_symbols.specs.declared.names.NonterminalString.{NonterminalString}
use Rattle.lalrpop_grammar_symbols.specs.declared.terminal.TerminalLiteral.{TerminalLiteral}
use Rattle.lalrpop_grammar_repr.specs.NormErrorTexts.{IsPlainKind}
use Rattle.lalrpop_grammar_repr.specs.declared.norm_error.NormErrorKind.{NormErrorKind}
use Rattle.lalrpop_grammar_repr.specs.declared.norm_error.NormErrorKind.TheVariants as kinds

-- a kind that is none of those that have a part is plain
pub plain_else : (k : NormErrorKind)
    → ((n : Text) → k ≡ kinds.DuplicateDefinition n → ⊥) → ((n : Text) → k ≡ kinds.UnknownAttribute n → ⊥)
    → ((n : Text) → k ≡ kinds.NoDefinition n → ⊥) → ((limit : ℕ) → k ≡ kinds.MacroDepth limit → ⊥)
    → ((l : TerminalLiteral) → k ≡ kinds.NotInMatchBlock l → ⊥) → ((l : TerminalLiteral) → k ≡ kinds.PatternRefused l → ⊥)
    → ((l m : TerminalLiteral) → k ≡ kinds.SameText l m → ⊥) → ((n : NonterminalString) → k ≡ kinds.NoType n → ⊥)
    → ((n : NonterminalString) → k ≡ kinds.CyclicInline n → ⊥) → IsPlainKind k
plain_else (kinds.DuplicateDefinition n) a b d e f g h i j = a n refl
plain_else (kinds.UnknownAttribute n) a b d e f g h i j = b n refl
plain_else (kinds.NoDefinition n) a b d e f g h i j = d n refl
plain_else (kinds.MacroDepth limit) a b d e f g h i j = e limit refl
plain_else (kinds.NotInMatchBlock l) a b d e f g h i j = f l refl
plain_else (kinds.PatternRefused l) a b d e f g h i j = g l refl
plain_else (kinds.SameText l m) a b d e f g h i j = h l m refl
plain_else (kinds.NoType n) a b d e f g h i j = i n refl
plain_else (kinds.CyclicInline n) a b d e f g h i j = j n refl
plain_else kinds.SecondMatchBlock a b d e f g h i j = tt
plain_else kinds.PublicInline a b d e f g h i j = tt
plain_else kinds.FirstWithoutLevel a b d e f g h i j = tt
plain_else kinds.LevelIsNoNumber a b d e f g h i j = tt
plain_else kinds.SideOnTightestLevel a b d e f g h i j = tt
plain_else kinds.UnknownSide a b d e f g h i j = tt
plain_else kinds.ReservedPrefix a b d e f g h i j = tt
plain_else kinds.NamedNotAllowed a b d e f g h i j = tt
plain_else kinds.EntryTwice a b d e f g h i j = tt
plain_else kinds.WrongNumberOfArguments a b d e f g h i j = tt
plain_else kinds.MacroAsRule a b d e f g h i j = tt
plain_else kinds.ConditionOnOther a b d e f g h i j = tt
plain_else kinds.ConditionPattern a b d e f g h i j = tt
plain_else kinds.TypesDisagree a b d e f g h i j = tt
plain_else kinds.TooManyActions a b d e f g h i j = tt
