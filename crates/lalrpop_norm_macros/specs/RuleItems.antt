-- A grammar with other rules in place of its own.
use Rattle.std.specs.Prelude.{List, [], ◌∷◌, ◌++◌, map}
use Rattle.lalrpop_grammar.specs.WrittenGrammar.{Grammar, Rule, WrittenItem}

-- the items that are no rules, in order
abbrev pub other_items : List WrittenItem → List WrittenItem
other_items [] = []
other_items (WrittenItem.nonterminal r ∷ items) = other_items items
other_items (WrittenItem.match_token groups p ∷ items) = WrittenItem.match_token groups p ∷ other_items items
other_items (WrittenItem.extern_token block ∷ items) = WrittenItem.extern_token block ∷ other_items items
other_items (WrittenItem.intern_token entries ∷ items) = WrittenItem.intern_token entries ∷ other_items items
other_items (WrittenItem.import text ∷ items) = WrittenItem.import text ∷ other_items items

-- The grammar with these rules, behind its other items; nothing else of it changes.
abbrev pub grammar_with_rules : Grammar → List Rule → Grammar
grammar_with_rules g rs = record g { items = other_items g.items ++ map WrittenItem.nonterminal rs }
