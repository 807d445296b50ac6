-- What a written grammar in which no two rules share a name leaves open of a normalized one: which place a repeat, a group or a
-- lookaround has that is met at several, and nothing else.
use Rattle.std.specs.Prelude.{◌≡◌, ◌↔◌, Bool, List, Option}
use Rattle.lalrpop_grammar_symbols.specs.Symbols.{Text, TextSpan, Terminal, Closed}
use Rattle.lalrpop_grammar_symbols.specs.declared.terminal.TerminalString.{TerminalString}
use Rattle.lalrpop_grammar.specs.WrittenGrammar.{Attr, Grammar}
use Rattle.lalrpop_grammar_language.specs.Among.{Among}
use Rattle.lalrpop_grammar_language.specs.Enabled.{EnabledRule, IsRule, enabled_grammar}
use Rattle.lalrpop_grammar_language.specs.Expansion.{Nonterminal, InExpansion}
use Rattle.lalrpop_grammar_repr.specs.Maps.{at_name, at_terminal}
use Rattle.lalrpop_norm_theory.specs.Productions.{NamedProduction}
use Rattle.lalrpop_norm_keys.specs.KeyPlaces.{IsShapeKey}
use Rattle.lalrpop_norm_tyinfer.specs.TypeFaults.{nonterminal_of}
use Rattle.lalrpop_norm_chain.specs.Lowered.{LoweredGrammar}
use Rattle.lalrpop_norm_chain.specs.Normalized.{IsNormalized}

-- The two have the same parts: the same by each number, and the same at each name.
pub record HaveSameParts (v u : LoweredGrammar) : Type 0 where
  pub prefix : v.prefix ≡ u.prefix
  pub productions : (p : NamedProduction) → Among v.productions p ↔ Among u.productions p
  pub spans : (p : NamedProduction) (s : TextSpan) → Among v.spans (p, s) ↔ Among u.spans (p, s)
  pub origins : v.origins ≡ u.origins
  pub definitions : v.definitions ≡ u.definitions
  pub nonterminals : (n : Text) → Among v.nonterminals n ↔ Among u.nonterminals n
  pub places : (n : Text) (s : TextSpan) → Among v.places (n, s) ↔ Among u.places (n, s)
  pub attributes : (n : Text) (as_ : List Attr) → Among v.attributes (n, as_) ↔ Among u.attributes (n, as_)
  pub starts : (n m : Text) → Among v.starts (n, m) ↔ Among u.starts (n, m)
  pub inlined : (n : Text) → Among v.inlined n ↔ Among u.inlined n
  pub terminals : (t : Terminal) → Among v.terminals t ↔ Among u.terminals t
  pub types : (n : Text) → at_name (nonterminal_of n) v.types ≡ at_name (nonterminal_of n) u.types
  pub terminal_types : (t : TerminalString) → at_terminal t v.terminal_types ≡ at_terminal t u.terminal_types
  pub lalr : v.lalr ≡ u.lalr
  pub entries : v.entries ≡ u.entries

-- A repeat, a group or a lookaround may stand wherever it is met: in both it stands at the same place.
abbrev pub StandAlike : (finds : Text → Text → Option Bool) (features : List Text) (w : Grammar) (v u : LoweredGrammar)
    → IsNormalized finds features w v → Type 0
StandAlike finds features w v u n =
    (x : Closed) (p q : TextSpan) → IsShapeKey x → InExpansion (enabled_grammar finds features w) (Nonterminal.closed x)
    → Among v.places (n.name_of (Nonterminal.closed x), p) → Among u.places (n.name_of (Nonterminal.closed x), q) → p ≡ q

-- where no two rules share a name, two normalized grammars of one written grammar have the same names
abbrev pub NamesOfNormalizedAreOne : Type 0
NamesOfNormalizedAreOne =
    (finds : Text → Text → Option Bool) (features : List Text) (w : Grammar) (v u : LoweredGrammar)
    → ((r : EnabledRule) → Among (enabled_grammar finds features w).rules r → IsRule (enabled_grammar finds features w) r.name r)
    → (n : IsNormalized finds features w v) (m : IsNormalized finds features w u) (x : Nonterminal)
    → InExpansion (enabled_grammar finds features w) x → n.name_of x ≡ m.name_of x

-- and once their repeats, groups and lookarounds stand at the same places, they have the same parts
abbrev pub NormalizedAreOne : Type 0
NormalizedAreOne =
    (finds : Text → Text → Option Bool) (features : List Text) (w : Grammar) (v u : LoweredGrammar)
    → ((r : EnabledRule) → Among (enabled_grammar finds features w).rules r → IsRule (enabled_grammar finds features w) r.name r)
    → (n : IsNormalized finds features w v) → IsNormalized finds features w u → StandAlike finds features w v u n → HaveSameParts v u
