-- Reading and spelling are inverse: the laws that the readers rest on.
use Rattle.std.specs.Prelude.{◌≡◌, Ok}
use Rattle.serde_json.specs.Data.{Data}
use Rattle.lalrpop_grammar.specs.declared.grammar.Grammar.{Grammar}
use Rattle.lalrpop_grammar.specs.declared.tree.WrittenTree.{WrittenTree}
use Rattle.lalrpop_json_grammar.specs.Grammars.{grammar_at}
use Rattle.lalrpop_json_grammar.specs.ReadTrees.{tree_at}
use Rattle.lalrpop_json_grammar.specs.Readable.{IsReadable}
use Rattle.lalrpop_json_grammar.specs.ReadableTrees.{IsReadableTree}
use Rattle.lalrpop_json_grammar.specs.SpelledTrees.{tree_spelling}
use Rattle.lalrpop_json_grammar.specs.Spelling.{spelling}

-- this value is the spelling of the grammar
abbrev pub Spells : Data → Grammar → Type 0
Spells d g = (d ≡ spelling g) × IsReadable g

-- this value is the spelling of the tree
abbrev pub SpellsTree : Data → WrittenTree → Type 0
SpellsTree d t = (d ≡ tree_spelling t) × IsReadableTree t

abbrev pub ReadGrammarsAreSpelled : Type 0
ReadGrammarsAreSpelled = (d : Data) (g : Grammar) → grammar_at d ≡ Ok g → Spells d g

abbrev pub SpelledGrammarsAreRead : Type 0
SpelledGrammarsAreRead = (g : Grammar) → IsReadable g → grammar_at (spelling g) ≡ Ok g

abbrev pub ReadTreesAreSpelled : Type 0
ReadTreesAreSpelled = (d : Data) (t : WrittenTree) → tree_at d ≡ Ok t → SpellsTree d t

abbrev pub SpelledTreesAreRead : Type 0
SpelledTreesAreRead = (t : WrittenTree) → IsReadableTree t → tree_at (tree_spelling t) ≡ Ok t
