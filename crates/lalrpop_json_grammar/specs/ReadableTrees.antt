-- Which written trees are read.
use Rattle.std.specs.Prelude.{◌≡◌, ◌<◌, ℕ, ◌^◌, List, [], ◌∷◌, Some, None, IsTrue}
use Rattle.lalrpop_grammar_symbols.specs.declared.span.Span.{Span}
use Rattle.lalrpop_grammar_symbols.specs.declared.symbol.Symbol.{Symbol}
use Rattle.lalrpop_grammar_symbols.specs.declared.terminal.TerminalString.{TerminalString}
use Rattle.lalrpop_grammar.specs.declared.tree.WrittenTree.{WrittenTree}
use Rattle.lalrpop_grammar.specs.declared.tree.WrittenTree.TheVariants as tree
use Rattle.lalrpop_json_values.specs.Scalars.{is_name}
use Rattle.lalrpop_json_values.specs.Spelled.{IsSpan}
use Rattle.lalrpop_json_symbols.specs.Readable.{IsReadableTerminal, AreReadableSymbols}

mutual
  pub data IsReadableTree : WrittenTree → Type 0 where
    rule : {t : WrittenTree} (name : List ℕ) (args : List Symbol) (place : ℕ) (children : List WrittenTree)
        → t ≡ tree.Rule (record { 0 = name }) args place children
        → IsTrue (is_name name) → AreReadableSymbols args → place < 2 ^ 32 → AreReadableTrees children → IsReadableTree t
    list : {t : WrittenTree} (trees : List WrittenTree) → t ≡ tree.List trees → AreReadableTrees trees → IsReadableTree t
    opt_none : {t : WrittenTree} → t ≡ tree.Opt None → IsReadableTree t
    opt_some : {t : WrittenTree} (inside : WrittenTree) → t ≡ tree.Opt (Some inside) → IsReadableTree inside → IsReadableTree t
    group : {t : WrittenTree} (trees : List WrittenTree) → t ≡ tree.Group trees → AreReadableTrees trees → IsReadableTree t
    terminal : {t : WrittenTree} (terminal : TerminalString) (text : List ℕ) (span : Span) → t ≡ tree.Terminal terminal text span
        → IsReadableTerminal terminal → IsSpan span → IsReadableTree t
    look : {t : WrittenTree} → t ≡ tree.Look → IsReadableTree t

  pub data AreReadableTrees : List WrittenTree → Type 0 where
    none : AreReadableTrees []
    more : {t : WrittenTree} {ts : List WrittenTree} → IsReadableTree t → AreReadableTrees ts → AreReadableTrees (t ∷ ts)
