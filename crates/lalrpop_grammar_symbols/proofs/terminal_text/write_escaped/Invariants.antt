use Rattle.std.proofs.Common.{◌≡◌, ◌++◌, ℕ, List, length}
use Rattle.std.specs.Fmt.{HasWritten, IsPlainFormatter}
use denote.Text.{Utf8}
use denote.Shadow.{shadow}
use Rattle.lalrpop_grammar_symbols.specs.Texts.{escape}
use Rattle.lalrpop_grammar_symbols.proofs.terminal_text.write_escaped.Given as goal

abbrev pub invariant-rest : goal.invariant-rest
invariant-rest g l = shadow (Utf8 l.rest)
    × ((front : List ℕ) × (l.text ≡ front ++ l.rest)
    × (IsPlainFormatter l.fn.f → HasWritten g.W.Write.write_str_gives l.fn.f (escape front) l.f))

abbrev pub decreases-rest : goal.decreases-rest
decreases-rest g l = length l.rest
