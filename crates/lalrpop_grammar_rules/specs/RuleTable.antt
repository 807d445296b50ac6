-- What the table of a grammar's rules and bare names holds.
use Rattle.std.specs.Prelude.{◌≡◌, true, false, Bool, List, [], ◌∷◌, Option, Some, None, option_map, filter, flat_map, map}
use Rattle.std.specs.Prelude.{is_some}
use Rattle.std.specs.Borrow.{Bor}
use Rattle.std.specs.HashMap.{HashMap, get_by}
use Rattle.std.specs.Str.{bytes_eq}
use Rattle.std.specs.declared.hash.FoldHasher.{FoldHasher}
use Rattle.std.specs.declared.hash.BuildHasherDefault.{BuildHasherDefault}
use Rattle.lalrpop_grammar_symbols.specs.Symbols.{Text}
use Rattle.lalrpop_grammar.specs.WrittenGrammar.{Grammar, Rule, WrittenItem}
use Rattle.lalrpop_grammar.specs.Views.{grammar_view, match_item_view, item_view}
use Rattle.lalrpop_grammar.specs.declared.grammar.GrammarItem.{GrammarItem}
use Rattle.lalrpop_grammar.specs.declared.match_token.MatchContents.{MatchContents}
use Rattle.lalrpop_grammar.specs.declared.match_token.MatchItem.{MatchItem}
use Rattle.lalrpop_grammar_language.specs.Enabled.{EnabledGrammar, EnabledRule as PureRule, bare_of, bares_of, enabled_grammar}
use Rattle.lalrpop_grammar_language.specs.Enabled.{enabled_rule, has_name, is_active, has_text, rules_named}
use Rattle.lalrpop_grammar_language.specs.Closing as pure
use Rattle.lalrpop_grammar_rules.specs.Details.{Kept, details, enabled_rule_view, kept_rule_view}
use Rattle.lalrpop_grammar_rules.specs.declared.rule.EnabledRule.{EnabledRule}
use Rattle.lalrpop_grammar_rules.specs.declared.table.Rules as table
use Rattle.lalrpop_grammar_rules.specs.declared.table.Meaning.{Meaning}
use Rattle.lalrpop_grammar_rules.specs.declared.table.Meaning.TheVariants as meanings

-- the enabled grammar that the table is of, where `finds` says whether a pattern is found in a text
abbrev pub rules_with : (Text → Text → Option Bool) → table.Rules → EnabledGrammar
rules_with finds t = enabled_grammar finds t.features.now (grammar_view t.grammar.now)

-- closed symbols don't depend on what a search for patterns finds
abbrev pub no_search : Text → Text → Option Bool
no_search pattern text = None

abbrev pub rules_view : table.Rules → EnabledGrammar
rules_view t = rules_with no_search t

-- the table is of this grammar under these features
abbrev pub IsOfGrammar : List Text → Grammar → table.Rules → Type 0
IsOfGrammar features g t = (t.features.now ≡ features) × (grammar_view t.grammar.now ≡ g)

-- the enabled rules of that name among written rules
abbrev pub rules_named_in : List Text → List Rule → Text → List PureRule
rules_named_in features rules n =
    filter (has_name n) (map (enabled_rule features) (filter (λ r. is_active features r.attributes) rules))

-- what a name stands for that these rules have: nothing without a rule, no rule where there are several
abbrev pub only_of : List PureRule → Option (Option Kept)
only_of [] = None
only_of (r ∷ []) = Some (Some (details r))
only_of (r ∷ s ∷ rs) = Some None

-- the same with one rule more
abbrev pub one_more : Option (Option Kept) → PureRule → Option (Option Kept)
one_more None r = Some (Some (details r))
one_more (Some e) r = Some None

-- what a name stands for with the rule, where it stood for something or not
abbrev pub rule_entry : Bool → PureRule → Option Kept
rule_entry true r = None
rule_entry false r = Some (details r)

abbrev pub entry_with_rules : Option (Option Kept) → List PureRule → Option (Option Kept)
entry_with_rules e [] = e
entry_with_rules e (r ∷ rs) = entry_with_rules (one_more e r) rs

abbrev pub Entries : Type 0
Entries = HashMap (Bor Text) (Option EnabledRule) (BuildHasherDefault FoldHasher)

abbrev pub rule_entry_at : List Text → Entries → Text → Option (Option Kept)
rule_entry_at features m n = option_map (option_map (kept_rule_view features)) (get_by (λ k. bytes_eq n k.now) m)

abbrev pub Names : Type 0
Names = HashMap (Bor Text) (Unit {0}) (BuildHasherDefault FoldHasher)

-- the set has the name
abbrev pub knows : Names → Text → Bool
knows m n = is_some (get_by (λ k. bytes_eq n k.now) m)

abbrev pub HasBares : Names → List Text → Type 0
HasBares m names = (n : Text) → knows m n ≡ has_text n names

-- the bare names that entries, groups of them and items map to
abbrev pub bares_of_entries : List MatchItem → List Text
bares_of_entries entries = flat_map bare_of (map match_item_view entries)

abbrev pub bares_of_groups : List MatchContents → List Text
bares_of_groups groups = flat_map (flat_map bare_of) (map (λ c. map match_item_view c.items) groups)

abbrev pub bares_of_item : WrittenItem → List Text
bares_of_item (WrittenItem.match_token groups place) = flat_map (flat_map bare_of) groups
bares_of_item (WrittenItem.nonterminal r) = []
bares_of_item (WrittenItem.extern_token block) = []
bares_of_item (WrittenItem.intern_token entries) = []
bares_of_item (WrittenItem.import text) = []

abbrev pub bares_of_items : List GrammarItem → List Text
bares_of_items items = bares_of (map item_view items)

abbrev pub names_of : Option (Bor Text) → List Text
names_of None = []
names_of (Some n) = n.now ∷ []

-- each name stands for what the grammar has of it
pub record IsTable (t : table.Rules) : Type 0 where
  pub names : (n : Text) → rule_entry_at t.features.now t.by_name n ≡ only_of (rules_named (rules_view t) n)
  pub bares : HasBares t.bares (bares_of (grammar_view t.grammar.now).items)

-- the program's rule holds what it keeps of the pure one
abbrev pub IsKept : List Text → EnabledRule → Type 0
IsKept features r = kept_rule_view features r ≡ details (enabled_rule_view features r)

-- this is the only rule of the name
abbrev pub IsOnly : table.Rules → Text → EnabledRule → Type 0
IsOnly t n r = (rules_named (rules_view t) n ≡ enabled_rule_view t.features.now r ∷ []) × IsKept t.features.now r

abbrev pub IsOnlyRule : table.Rules → Text → Option (Bor EnabledRule) → Type 0
IsOnlyRule t n None = (r : PureRule) → rules_named (rules_view t) n ≡ r ∷ [] → ⊥
IsOnlyRule t n (Some r) = IsOnly t n r.now

-- what the name stands for
abbrev pub IsMeaning : table.Rules → Text → Meaning → Type 0
IsMeaning t n (meanings.Rule r) = IsOnly t n r.now
IsMeaning t n meanings.Terminal = pure.name_meaning (rules_view t) n ≡ pure.Meaning.terminal
IsMeaning t n meanings.Unclear = pure.name_meaning (rules_view t) n ≡ pure.Meaning.unclear
