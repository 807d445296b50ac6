-- Keys under the names that the program has for them, and closed symbols written back by these names.
use Rattle.std.specs.Prelude.{◌≡◌, ℕ, List, map, Option, Some, None, slice_get}
use Rattle.std.specs.Borrow.{Bor}
use Rattle.lalrpop_grammar_symbols.specs.Symbols.{Text, TextSpan, WrittenSymbol, Sym, Closed}
use Rattle.lalrpop_grammar_symbols.specs.Views.{symbol_view}
use Rattle.lalrpop_grammar_symbols.specs.declared.symbol.Symbol.{Symbol}
use Rattle.lalrpop_grammar_language.specs.Among.{Among}
use Rattle.lalrpop_norm_theory.specs.KeyRules.{IsWrittenFor}
use Rattle.lalrpop_norm_theory.specs.KeyTypes.{HasKeyRule}
use Rattle.lalrpop_norm_keys.specs.Tables.{table_keys}
use Rattle.lalrpop_norm_macros.specs.KeyedSymbols.{AreKeyed, AreWrittenByName, IsMappedSymbol}
use Rattle.lalrpop_norm_macros.specs.declared.key_symbols.names.KeyNames.{KeyNames}

-- The names are those of the keys, one for each in order.
abbrev pub SpellsNames : KeyNames → (Closed → Text) → Type 0
SpellsNames k f = map f (table_keys k.keys.now) ≡ k.names.now

-- the name of the key, or none where it isn't there
abbrev pub IsNameOfKey : KeyNames → Closed → Option (Bor Text) → Type 0
IsNameOfKey k x None = (f : Closed → Text) → SpellsNames k f → Among (table_keys k.keys.now) x → ⊥
IsNameOfKey k x (Some n) = Among (table_keys k.keys.now) x × ((f : Closed → Text) → SpellsNames k f → n.now ≡ f x)

-- the name of the key at a place
abbrev pub IsNameAt : KeyNames → ℕ → Option (Bor Text) → Type 0
IsNameAt k i None = (f : Closed → Text) → SpellsNames k f → (x : Closed) → slice_get (table_keys k.keys.now) i ≡ Some x → ⊥
IsNameAt k i (Some n) =
    (f : Closed → Text) → SpellsNames k f → (x : Closed) → slice_get (table_keys k.keys.now) i ≡ Some x → n.now ≡ f x

-- the key by its name, or nothing where it isn't there
abbrev pub IsKeySymbol : KeyNames → TextSpan → Closed → Option Symbol → Type 0
IsKeySymbol k p x None = (f : Closed → Text) → SpellsNames k f → Among (table_keys k.keys.now) x → ⊥
IsKeySymbol k p x (Some v) =
    Among (table_keys k.keys.now) x × ((f : Closed → Text) → SpellsNames k f → symbol_view v ≡ Sym.nonterminal p (f x))

-- the symbol that is written for the closed one, or nothing where that has no rule
abbrev pub IsSymbolOrNone : KeyNames → Closed → Option Symbol → Type 0
IsSymbolOrNone k x None = (f : Closed → Text) → SpellsNames k f → HasKeyRule (table_keys k.keys.now) x → ⊥
IsSymbolOrNone k x (Some v) =
    HasKeyRule (table_keys k.keys.now) x
    × ((bares : List Text) (f : Closed → Text) → SpellsNames k f → IsMappedSymbol bares x → IsWrittenFor bares f x (symbol_view v))

-- the symbols are written for the closed ones, where each of these can be
abbrev pub AreSymbolsFor : KeyNames → List Closed → List WrittenSymbol → Type 0
AreSymbolsFor k xs vs =
    (bares : List Text) (f : Closed → Text) → SpellsNames k f → AreKeyed bares (table_keys k.keys.now) xs
    → AreWrittenByName bares f (table_keys k.keys.now) xs vs
