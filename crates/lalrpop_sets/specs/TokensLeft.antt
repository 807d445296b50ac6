-- The tokens of a set in order of their numbers, as its iterator gives them.
use Rattle.std.specs.Prelude.{ℕ, ◌+◌, Bool, cond, List, map, filter, nat_eq, nat_lt, Option, Some, None, slice_get}
use Rattle.std.specs.List.{range_with_len}
use Rattle.lalrpop_grammar_symbols.specs.declared.terminal.TerminalString.{TerminalString}
use Rattle.lalrpop_grammar_repr.specs.declared.terminal_set.TerminalSet.{TerminalSet}
use Rattle.lalrpop_sets.specs.AscendingLists.{has}
use Rattle.lalrpop_sets.specs.Tokens.{eof_number}
use Rattle.lalrpop_sets.specs.declared.token.Token.{Token}
use Rattle.lalrpop_sets.specs.declared.token.Token.TheVariants as owned
use Rattle.lalrpop_sets.specs.declared.token.TokenRef.{TokenRef}
use Rattle.lalrpop_sets.specs.declared.token.TokenRef.TheVariants as lent

-- the token that is lent
abbrev pub token_seen : TokenRef → Token
token_seen lent.Eof = owned.Eof
token_seen lent.Error = owned.Error
token_seen (lent.Terminal t) = owned.Terminal t.now

-- the terminal, or else the end or the token of errors
abbrev pub token_or : Option TerminalString → Bool → Token
token_or (Some t) end = owned.Terminal t
token_or None end = cond end owned.Eof owned.Error

-- the token with the number: a terminal by its place, the end behind them, then the token of errors
abbrev pub token_of_number : TerminalSet → ℕ → Token
token_of_number ts k = token_or (slice_get ts.all k) (nat_eq k (eof_number ts))

-- the tokens that are in the set, in order
abbrev pub tokens_of : TerminalSet → List ℕ → List Token
tokens_of ts s = map (token_of_number ts) (filter (has s) (range_with_len 0 (eof_number ts + 2)))

-- the tokens with these numbers, but for numbers that no token has
abbrev pub known_tokens : TerminalSet → List ℕ → List Token
known_tokens ts ns = map (token_of_number ts) (filter (λ k. nat_lt k (eof_number ts + 2)) ns)
