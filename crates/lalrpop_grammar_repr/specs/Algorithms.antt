-- Which attributes choose how tables are built.
use Rattle.std.specs.Prelude.{Bool, List, codes}
use Rattle.std.specs.List.{list_any}
use Rattle.std.specs.Str.{bytes_eq}
use Rattle.lalrpop_grammar.specs.WrittenGrammar.{attr_id}
use Rattle.lalrpop_grammar.specs.Views.{attribute_view}
use Rattle.lalrpop_grammar.specs.declared.types.attribute.Attribute.{Attribute}

-- its name is LALR
abbrev pub is_lalr : Attribute → Bool
is_lalr a = bytes_eq (attr_id (attribute_view a)) (codes "LALR")

-- one of them is named LALR
abbrev pub has_lalr : List Attribute → Bool
has_lalr attributes = list_any is_lalr attributes
