-- The maps in which the literals of a grammar are noted: where each stands first.
use Rattle.std.specs.Prelude.{◌≡◌, List, Option, None, option_map}
use Rattle.std.specs.Option.{option_or}
use Rattle.std.specs.Ordering.{nat_cmp}
use Rattle.std.specs.Cmp.Lexicographic.{slice_cmp}
use Rattle.std.specs.BTreeMap.{BTreeMap, get}
use Rattle.lalrpop_grammar_symbols.specs.Symbols.{Text, TextSpan, Terminal}
use Rattle.lalrpop_grammar_symbols.specs.Views.{span_view, literal_view}
use Rattle.lalrpop_grammar_symbols.specs.declared.span.Span.{Span}
use Rattle.lalrpop_lexer_scan.specs.declared.literals.UsedLiteral.{UsedLiteral}
use Rattle.lalrpop_lexer_scan.specs.declared.noting.Uses.{Uses}
use Rattle.lalrpop_lexer_scan.specs.Literals.{LiteralUse, first_span}

-- where the text stands first, by one of the maps
abbrev pub noted_span : BTreeMap Text Span → Text → Option TextSpan
noted_span m t = option_map span_view (get (slice_cmp nat_cmp) m t)

-- where the literal stands first
abbrev pub noted_span_of : Uses → Terminal → Option TextSpan
noted_span_of uses (Terminal.quoted t) = noted_span uses.quoted t
noted_span_of uses (Terminal.regex t) = noted_span uses.regexes t
noted_span_of uses (Terminal.bare n) = None
noted_span_of uses Terminal.error = None

-- to what was noted these literals were added
abbrev pub Notes : Uses → Uses → List LiteralUse → Type 0
Notes old new use_view = (t : Terminal) → noted_span_of new t ≡ option_or (noted_span_of old t) (first_span use_view t)

-- a literal of the program as definitions see it
abbrev pub use_view : UsedLiteral → LiteralUse
use_view u = record { literal = literal_view u.literal; span = span_view u.span }

-- the entries of the maps as literals
abbrev pub quoted_use : Text × Span → LiteralUse
quoted_use e = record { literal = Terminal.quoted e.0; span = span_view e.1 }

abbrev pub regex_use : Text × Span → LiteralUse
regex_use e = record { literal = Terminal.regex e.0; span = span_view e.1 }
