-- Which grammars have a spelling: those that are read.
use Rattle.lalrpop_grammar.specs.declared.grammar.Grammar.{Grammar}
use Rattle.lalrpop_json_values.specs.Spelled.{EachFrom, IsSpan}
use Rattle.lalrpop_json_symbols.specs.Readable.{AreReadableAttributes}
use Rattle.lalrpop_json_items.specs.Readable.{IsReadableItem}
use Rattle.lalrpop_json_values.specs.Prefix.{IsFreePrefix}
use Rattle.lalrpop_json_grammar.specs.Spelling.{texts_of}

pub record IsReadable (g : Grammar) : Type 0 where
  pub prefix : IsFreePrefix (texts_of g) g.prefix
  pub span : IsSpan g.span
  pub attributes : AreReadableAttributes g.attributes
  pub items : EachFrom (λ _. IsReadableItem) 0 g.items
