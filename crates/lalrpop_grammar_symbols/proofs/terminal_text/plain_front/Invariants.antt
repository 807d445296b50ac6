use Rattle.std.proofs.Common.{◌≡◌, ◌++◌, ℕ, List, length}
use Rattle.std.specs.Str.Iter.{chars_rest}
use denote.Text.{Utf8}
use denote.Shadow.{shadow}
use Rattle.lalrpop_grammar_symbols.specs.Texts.{escape}
use Rattle.lalrpop_grammar_symbols.proofs.terminal_text.plain_front.Given as goal

abbrev pub invariant-loop-c : goal.invariant-loop-c
invariant-loop-c l = shadow (Utf8 l.rest) × (chars_rest l.left ≡ l.rest)
    × ((front : List ℕ) × (l.text ≡ front ++ l.rest) × (escape front ≡ front))

abbrev pub decreases-loop-c : goal.decreases-loop-c
decreases-loop-c l = length (chars_rest l.left)
