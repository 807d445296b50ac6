-- Numbers of tokens: a terminal's is the one that the grammar's terminals give it, then comes the end, then the token of errors.
use Rattle.std.specs.Prelude.{ℕ, ◌+◌, Bool, false, not, List, [], ◌∷◌, length, nat_eq, Option, Some, None}
use Rattle.lalrpop_grammar_repr.specs.Maps.{at_terminal}
use Rattle.lalrpop_grammar_repr.specs.declared.terminal_set.TerminalSet.{TerminalSet}
use Rattle.lalrpop_sets.specs.AscendingLists.{has}
use Rattle.lalrpop_sets.specs.declared.token.Token.{Token}
use Rattle.lalrpop_sets.specs.declared.token.Token.TheVariants.{Eof, Error, Terminal}

-- that the token is a terminal
abbrev pub IsTerminalToken : Token → Type 0
IsTerminalToken Eof = ⊥
IsTerminalToken Error = ⊥
IsTerminalToken (Terminal t) = Unit {0}

-- the number of the end
abbrev pub eof_number : TerminalSet → ℕ
eof_number ts = length ts.all

-- the number of a token; a terminal that isn't the grammar's has none
abbrev pub number_of : TerminalSet → Token → Option ℕ
number_of ts Eof = Some (eof_number ts)
number_of ts Error = Some (eof_number ts + 1)
number_of ts (Terminal t) = at_terminal t ts.bits

-- whether that is the number, where there is one
abbrev pub is_number : Option ℕ → ℕ → Bool
is_number None k = false
is_number (Some n) k = nat_eq k n

-- whether the set has the number, where there is one
abbrev pub has_number : List ℕ → Option ℕ → Bool
has_number s None = false
has_number s (Some n) = has s n

-- whether there is a number, and the set lacks it
abbrev pub lacks_number : List ℕ → Option ℕ → Bool
lacks_number s None = false
lacks_number s (Some n) = not (has s n)

-- the number alone, where there is one
abbrev pub number_alone : Option ℕ → List ℕ
number_alone None = []
number_alone (Some n) = n ∷ []
