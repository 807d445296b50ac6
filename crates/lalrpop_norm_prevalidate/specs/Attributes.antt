-- Which attributes may stand on a grammar, on a rule and on an alternative, and of which shape.
use Rattle.std.specs.Prelude.{Bool, true, false, ◌&&◌, ◌||◌, not, List, ◌++◌, filter, flat_map, codes}
use Rattle.std.specs.Str.{bytes_eq}
use Rattle.lalrpop_grammar_symbols.specs.Symbols.{Text, TextSpan}
use Rattle.lalrpop_grammar.specs.WrittenGrammar.{Attr, Attrs, are_none, Alternative, Rule, WrittenItem, rules_of}

-- where an attribute is written
abbrev pub attr_span : Attr → TextSpan
attr_span (Attr.empty place id) = place
attr_span (Attr.paren place id parts) = place
attr_span (Attr.equal place id text) = place

-- A predicate: `feature = ".."`, `not` of exactly one predicate, `all` or `any` of any number of them.
abbrev mutual
  pub is_predicate : Attr → Bool
  is_predicate (Attr.empty place id) = false
  is_predicate (Attr.equal place id text) = bytes_eq id (codes "feature")
  is_predicate (Attr.paren place id parts) =
      (bytes_eq id (codes "not") && is_one_predicate parts)
      || ((bytes_eq id (codes "all") || bytes_eq id (codes "any")) && are_predicates parts)

  pub is_one_predicate : Attrs → Bool
  is_one_predicate Attrs.none = false
  is_one_predicate (Attrs.more a rest) = are_none rest && is_predicate a

  pub are_predicates : Attrs → Bool
  are_predicates Attrs.none = true
  are_predicates (Attrs.more a rest) = is_predicate a && are_predicates rest

-- a name alone
abbrev pub is_name_alone : Text → Attr → Bool
is_name_alone id (Attr.empty place other) = bytes_eq other id
is_name_alone id (Attr.paren place other parts) = false
is_name_alone id (Attr.equal place other text) = false

-- `key = ".."`
abbrev pub is_setting : Text → Attr → Bool
is_setting key (Attr.equal place other text) = bytes_eq other key
is_setting key (Attr.empty place other) = false
is_setting key (Attr.paren place other parts) = false

abbrev pub is_one_setting : Text → Attrs → Bool
is_one_setting key Attrs.none = false
is_one_setting key (Attrs.more a rest) = are_none rest && is_setting key a

-- `id(key = "..")`
abbrev pub sets : Text → Text → Attr → Bool
sets id key (Attr.paren place other parts) = bytes_eq other id && is_one_setting key parts
sets id key (Attr.empty place other) = false
sets id key (Attr.equal place other text) = false

-- `cfg(..)` with one predicate
abbrev pub fits_cfg : Attr → Bool
fits_cfg (Attr.paren place id parts) = bytes_eq id (codes "cfg") && is_one_predicate parts
fits_cfg (Attr.empty place id) = false
fits_cfg (Attr.equal place id text) = false

-- what may stand on a grammar, on a rule, on an alternative
abbrev pub fits_grammar : Attr → Bool
fits_grammar a =
    is_name_alone (codes "LALR") a || (is_name_alone (codes "table_driven") a || (is_name_alone
    (codes "recursive_ascent") a || is_name_alone (codes "test_all") a))

abbrev pub fits_rule : Attr → Bool
fits_rule a = is_name_alone (codes "inline") a || fits_cfg a

abbrev pub fits_alternative : Attr → Bool
fits_alternative a = sets (codes "precedence") (codes "level") a || (sets (codes "assoc") (codes "side") a || fits_cfg a)

-- The attributes that may not stand where they do, in reading order; what is disabled counts too.
abbrev pub unknown_on_alternative : Alternative → List Attr
unknown_on_alternative a = filter (λ x. not (fits_alternative x)) a.attributes

abbrev pub unknown_on_rule : Rule → List Attr
unknown_on_rule r = filter (λ x. not (fits_rule x)) r.attributes ++ flat_map unknown_on_alternative r.alternatives

abbrev pub unknown_attributes : List Attr → List WrittenItem → List Attr
unknown_attributes on_grammar items = filter (λ x. not (fits_grammar x)) on_grammar ++ flat_map unknown_on_rule (rules_of items)
