-- What a grammar stands for on its way through the passes, and what is left of one under the features.
use Rattle.std.specs.Prelude.{Bool, not, List, [], ◌∷◌, map, filter, filter_map, Option, Some, None, if◌then◌else◌, codes}
use Rattle.std.specs.Str.{bytes_eq}
use Rattle.lalrpop_grammar_symbols.specs.Symbols.{Text}
use Rattle.lalrpop_grammar.specs.WrittenGrammar.{Attr, attr_id, Alternative, Rule, Grammar, Origin, WrittenItem, rules_of}
use Rattle.lalrpop_grammar_language.specs.Enabled.{EnabledGrammar, EnabledRule, Choice, has_attr, is_active, choice_of, bares_of}

-- a grammar's rules between two passes

-- each alternative with the written choice that it tells itself, wherever it stands now
abbrev pub with_origins : List Alternative → List (Origin × Alternative)
with_origins = map (λ a. (a.origin, a))

abbrev pub rule_between : Rule → EnabledRule
rule_between r = record {
  name = r.name;
  public = r.public;
  inlined = has_attr (codes "inline") r.attributes;
  parameters = r.parameters;
  declared = r.declared;
  choices = map choice_of (map (λ a. (a.origin, a)) r.alternatives);
}

-- the name that the first alternative tells that tells one, else the other name
abbrev pub name_in_origins : Text → List Origin → Text
name_in_origins n [] = n
name_in_origins n (Origin.alternative m args place ∷ rest) = m
name_in_origins n (Origin.start ∷ rest) = name_in_origins n rest
name_in_origins n (Origin.pass_down ∷ rest) = name_in_origins n rest
name_in_origins n (Origin.plus_one ∷ rest) = name_in_origins n rest
name_in_origins n (Origin.plus_more ∷ rest) = name_in_origins n rest
name_in_origins n (Origin.star_none ∷ rest) = name_in_origins n rest
name_in_origins n (Origin.star_some ∷ rest) = name_in_origins n rest
name_in_origins n (Origin.opt_none ∷ rest) = name_in_origins n rest
name_in_origins n (Origin.opt_some ∷ rest) = name_in_origins n rest
name_in_origins n (Origin.group ∷ rest) = name_in_origins n rest
name_in_origins n (Origin.look ∷ rest) = name_in_origins n rest

-- The name under which a rule was written: a level's is its rule's. A rule that no alternative tells of has its own name.
abbrev pub written_name : List Rule → Text → Text
written_name [] n = n
written_name (r ∷ rs) n =
    if bytes_eq r.name n then name_in_origins n (map (λ a. a.origin) r.alternatives) else written_name rs n

-- What a grammar stands for between two passes, after what is disabled is gone: alternatives by the choices that they tell.
abbrev pub grammar_between : (Text → Text → Option Bool) → Grammar → EnabledGrammar
grammar_between finds g = record {
  rules = map rule_between (rules_of g.items);
  bares = bares_of g.items;
  finds = finds;
  spelled = written_name (rules_of g.items);
}

-- the grammar without what is disabled

abbrev pub is_cfg : Attr → Bool
is_cfg a = bytes_eq (attr_id a) (codes "cfg")

abbrev pub without_cfg : List Attr → List Attr
without_cfg = filter (λ a. not (is_cfg a))

abbrev pub alternative_without_cfg : Alternative → Alternative
alternative_without_cfg a = record a { attributes = without_cfg a.attributes }

-- the enabled alternatives of a rule, all without cfg attributes
abbrev pub enabled_part : List Text → Rule → Rule
enabled_part features r = record r {
  attributes = without_cfg r.attributes;
  alternatives = map alternative_without_cfg (filter (λ a. is_active features a.attributes) r.alternatives);
}

abbrev pub enabled_item : List Text → WrittenItem → Option WrittenItem
enabled_item features (WrittenItem.nonterminal r) =
    if is_active features r.attributes then Some (WrittenItem.nonterminal (enabled_part features r)) else None
enabled_item features (WrittenItem.match_token entries place) = Some (WrittenItem.match_token entries place)
enabled_item features (WrittenItem.extern_token block) = Some (WrittenItem.extern_token block)
enabled_item features (WrittenItem.intern_token entries) = Some (WrittenItem.intern_token entries)
enabled_item features (WrittenItem.import text) = Some (WrittenItem.import text)

-- The grammar without what is disabled under the features, and without the attributes that were asked.
abbrev pub without_disabled : List Text → Grammar → Grammar
without_disabled features g = record g { items = filter_map (enabled_item features) g.items }

-- the same of an enabled rule: it stands for the rule that is left of it
abbrev pub choice_without_cfg : Choice → Choice
choice_without_cfg c = record c { attributes = without_cfg c.attributes }

abbrev pub rule_without_cfg : EnabledRule → EnabledRule
rule_without_cfg r = record r { choices = map choice_without_cfg r.choices }
