-- Closed symbols that have a rule or are terminals, and what is written for them.
use Rattle.std.specs.Prelude.{List, [], ◌∷◌}
use Rattle.lalrpop_grammar_symbols.specs.Symbols.{Text, WrittenSymbol, Closed}
use Rattle.lalrpop_norm_theory.specs.KeyRules.{AreWrittenFor, IsMappedTerminal}
use Rattle.lalrpop_norm_theory.specs.KeyTypes.{HasKeyRule}

-- a bare name, maybe chosen or named, is a mapped one
abbrev pub IsMappedSymbol : List Text → Closed → Type 0
IsMappedSymbol bares (Closed.terminal t) = IsMappedTerminal bares t
IsMappedSymbol bares (Closed.choose x) = IsMappedSymbol bares x
IsMappedSymbol bares (Closed.name m n x) = IsMappedSymbol bares x
IsMappedSymbol bares (Closed.call n args level) = Unit {0}
IsMappedSymbol bares (Closed.repeat op x) = Unit {0}
IsMappedSymbol bares (Closed.group xs) = Unit {0}
IsMappedSymbol bares Closed.lookahead = Unit {0}
IsMappedSymbol bares Closed.lookbehind = Unit {0}
IsMappedSymbol bares Closed.faulty = Unit {0}

-- each of the symbols has a rule or is a terminal, and bare names are mapped: they can be written back
abbrev pub AreKeyed : List Text → List Closed → List Closed → Type 0
AreKeyed bares keys [] = Unit {0}
AreKeyed bares keys (x ∷ xs) = HasKeyRule keys x × IsMappedSymbol bares x × AreKeyed bares keys xs

-- each of them is so, and is written by its name
abbrev pub AreWrittenByName : List Text → (Closed → Text) → List Closed → List Closed → List WrittenSymbol → Type 0
AreWrittenByName bares f keys xs vs = AreKeyed bares keys xs × AreWrittenFor bares f xs vs
