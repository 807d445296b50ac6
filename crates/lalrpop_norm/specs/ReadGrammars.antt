-- What a grammar that has a spelling gives to the passes.
use Rattle.lalrpop_grammar.specs.Views.{grammar_view}
use Rattle.lalrpop_grammar.specs.declared.grammar.Grammar.{Grammar}
use Rattle.lalrpop_json_grammar.specs.Readable.{IsReadable}
use Rattle.lalrpop_norm_theory.specs.Premises.{IsReadGrammar}

-- a grammar that has a spelling looks as one that was read
abbrev pub ReadableGrammarsAreRead : Type 0
ReadableGrammarsAreRead = (g : Grammar) → IsReadable g → IsReadGrammar (grammar_view g)
