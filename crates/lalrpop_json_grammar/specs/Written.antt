-- What writing a grammar answers.
use Rattle.std.specs.Prelude.{◌≡◌, Result, Ok, Err}
use Rattle.serde_json.specs.Data.{Data}
use Rattle.serde_json.specs.View.{view}
use Rattle.serde_json.specs.declared.value.Value.{Value}
use Rattle.lalrpop_grammar.specs.declared.grammar.Grammar.{Grammar}
use Rattle.lalrpop_json_values.specs.Spelled.{EachFrom, IsSpan}
use Rattle.lalrpop_json_symbols.specs.Readable.{AreReadableAttributes}
use Rattle.lalrpop_json_items.specs.Readable.{IsReadableItem}
use Rattle.lalrpop_json_grammar.specs.Laws.{Spells}
use Rattle.lalrpop_json_grammar.specs.declared.writer.fault.WriteError.{WriteError}
use Rattle.lalrpop_json_grammar.specs.declared.writer.fault.WriteError.TheVariants as errors

-- each part has a spelling; of the prefix nothing is said
abbrev pub AreReadableParts : Grammar → Type 0
AreReadableParts g = IsSpan g.span × AreReadableAttributes g.attributes × EachFrom (λ _. IsReadableItem) 0 g.items

-- a value that spells the grammar, or that none does; of want of memory nothing is said
abbrev pub WritesGrammar : Result Value WriteError → Grammar → Type 0
WritesGrammar (Ok v) g = Spells (view v) g
WritesGrammar (Err errors.NotWritten) g = (d : Data) → Spells d g → ⊥
WritesGrammar (Err errors.Memory) g = Unit {0}

-- this very value, or that there was no memory
abbrev pub WritesAgain : Result Value WriteError → Data → Type 0
WritesAgain (Ok v) d = view v ≡ d
WritesAgain (Err errors.NotWritten) d = ⊥
WritesAgain (Err errors.Memory) d = Unit {0}
