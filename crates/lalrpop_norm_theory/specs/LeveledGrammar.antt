-- The grammar in which each level of a rule has a rule of its own; for the pass that expands levels.
use Rattle.std.specs.Prelude.{ℕ, ◌==◌, nat_lt, Bool, false, ◌&&◌, ◌||◌, not, List, [], ◌∷◌, ◌++◌, Option}
use Rattle.std.specs.Prelude.{Some, None, map, flat_map, filter, zip, if◌then◌else◌, codes}
use Rattle.std.specs.Str.{bytes_eq}
use Rattle.lalrpop_grammar_symbols.specs.Symbols.{Text, TextSpan, Sym, syms, WrittenSymbol, Closed}
use Rattle.lalrpop_grammar.specs.WrittenGrammar.{Attr, attr_id, Action, Origin, Alternative, Rule, WrittenItem, Grammar}
use Rattle.lalrpop_grammar_language.specs.Enabled.{EnabledGrammar, EnabledRule, choice_of}
use Rattle.lalrpop_grammar_language.specs.Levels.{Rank, ranked_choices, has_levels, levels, loosest, tighter}
use Rattle.lalrpop_grammar_language.specs.Closing.{Binding, Scope, scope_of}
use Rattle.lalrpop_norm_theory.specs.Between.{rule_between}
use Rattle.lalrpop_norm_theory.specs.LevelRules.{rename_listed_occurrences}

-- the levels of a rule, each once, the loosest first

abbrev pub put_level : ℕ → List ℕ → List ℕ
put_level n [] = n ∷ []
put_level n (m ∷ ms) = if n == m then m ∷ ms else (if nat_lt m n then n ∷ m ∷ ms else m ∷ put_level n ms)

abbrev pub falling_levels : List ℕ → List ℕ
falling_levels [] = []
falling_levels (n ∷ ns) = put_level n (falling_levels ns)

abbrev pub levels_in_order : EnabledRule → List ℕ
levels_in_order r = falling_levels (levels r)

-- the alternatives of a level

-- each alternative with its rank
abbrev pub ranked_alternatives : Rule → List (Alternative × Option Rank)
ranked_alternatives r = zip r.alternatives (map (λ p. p.1) (ranked_choices (rule_between r)))

abbrev pub has_rank_level : ℕ → Option Rank → Bool
has_rank_level j None = false
has_rank_level j (Some k) = k.level == j

-- an attribute that says a level or a side
abbrev pub says_rank : Attr → Bool
says_rank a = bytes_eq (attr_id a) (codes "precedence") || bytes_eq (attr_id a) (codes "assoc")

abbrev pub without_ranks : List Attr → List Attr
without_ranks = filter (λ a. not (says_rank a))

-- Where occurrences are counted, parameters hide a rule of their name, whatever they stand for, and no other rule is asked.
abbrev pub no_rules : EnabledGrammar
no_rules = record { rules = []; bares = []; finds = λ pattern text. None; spelled = λ n. n }

abbrev pub parameters_alone : List Text → Binding
parameters_alone parameters = map (λ n. (n, Closed.faulty)) parameters

abbrev pub occurrence_scope : Rule → Alternative → Option Rank → Scope
occurrence_scope r a rank = scope_of no_rules (rule_between r) (parameters_alone r.parameters) (choice_of (a.origin, a)) rank

-- the alternative with each occurrence of its rule under the name of the greatest level that it may have
abbrev pub leveled_alternative : (Text → ℕ → Text) → Rule → Alternative × Option Rank → Alternative
leveled_alternative f r p = record p.0 {
  expr = rename_listed_occurrences f (occurrence_scope r p.0 p.1) 0 p.0.expr;
  attributes = without_ranks p.0.attributes;
}

abbrev pub level_alternatives : (Text → ℕ → Text) → Rule → ℕ → List Alternative
level_alternatives f r j = map (leveled_alternative f r) (filter (λ p. has_rank_level j p.1) (ranked_alternatives r))

-- the pass to the next tighter level

abbrev pub names_alone : TextSpan → List Text → List WrittenSymbol
names_alone span parameters = map (λ n. Sym.ambiguous_id span n) parameters

-- the rule by its name, a macro with its own parameters as arguments
abbrev pub own_call : TextSpan → Text → List Text → WrittenSymbol
own_call span n [] = Sym.nonterminal span n
own_call span n (p ∷ ps) = Sym.macro span n (syms (names_alone span (p ∷ ps)))

abbrev pub pass_down_to : (Text → ℕ → Text) → Rule → ℕ → Alternative
pass_down_to f r to = record {
  span = r.span;
  expr = own_call r.span (f r.name to) r.parameters ∷ [];
  condition = None;
  action = Action.default;
  attributes = [];
  origin = Origin.pass_down;
}

-- none at the tightest level
abbrev pub pass_downs : (Text → ℕ → Text) → Rule → Option ℕ → List Alternative
pass_downs f r None = []
pass_downs f r (Some to) = pass_down_to f r to ∷ []

-- rules and grammars

abbrev pub is_the_level : ℕ → Option ℕ → Bool
is_the_level j None = false
is_the_level j (Some most) = j == most

-- A rule at a level: the alternatives of that level as they are written, then the pass to the next tighter level. Who sees the
-- rule from outside sees its loosest level alone.
abbrev pub rule_at_level : (Text → ℕ → Text) → Rule → ℕ → Rule
rule_at_level f r j = record r {
  public = r.public && is_the_level j (loosest (rule_between r));
  name = f r.name j;
  alternatives = level_alternatives f r j ++ pass_downs f r (tighter (rule_between r) j);
}

-- a rule with levels is parted into one for each, the loosest first; another stays
abbrev pub leveled_rules : (Text → ℕ → Text) → Rule → List Rule
leveled_rules f r =
    if has_levels (rule_between r) then map (rule_at_level f r) (levels_in_order (rule_between r)) else r ∷ []

abbrev pub leveled_item : (Text → ℕ → Text) → WrittenItem → List WrittenItem
leveled_item f (WrittenItem.nonterminal r) = map WrittenItem.nonterminal (leveled_rules f r)
leveled_item f (WrittenItem.match_token groups place) = WrittenItem.match_token groups place ∷ []
leveled_item f (WrittenItem.extern_token block) = WrittenItem.extern_token block ∷ []
leveled_item f (WrittenItem.intern_token entries) = WrittenItem.intern_token entries ∷ []
leveled_item f (WrittenItem.import text) = WrittenItem.import text ∷ []

-- The grammar, without what is disabled and with names resolved, in which each level has a rule under the name that the
-- function gives to the rule's name and the level.
abbrev pub leveled_grammar : (Text → ℕ → Text) → Grammar → Grammar
leveled_grammar f g = record g { items = flat_map (leveled_item f) g.items }
