-- Inlining one nonterminal in a grammar: each production that names it is replaced by one for each choice of its productions,
-- with a record of the choice and an action of its own.
use Rattle.std.specs.Prelude.{◌≡◌, ◌||◌, ◌+◌, ℕ, Bool, false, List, [], ◌∷◌, ◌++◌, Option, Some, None}
use Rattle.std.specs.Prelude.{length, map, flat_map}
use Rattle.std.specs.Prelude.{slice_get, if◌then◌else◌}
use Rattle.std.specs.List.{list_any}
use Rattle.std.specs.Str.{bytes_eq}
use Rattle.lalrpop_grammar_symbols.specs.Symbols.{Text}
use Rattle.lalrpop_grammar_repr.specs.Productions.{productions_in}
use Rattle.lalrpop_grammar_repr.specs.declared.action.ActionFnDefn.{ActionFnDefn}
use Rattle.lalrpop_grammar_repr.specs.declared.action.ActionFnDefnKind.TheVariants as kinds
use Rattle.lalrpop_grammar_repr.specs.declared.action.InlinedSymbol.{InlinedSymbol}
use Rattle.lalrpop_grammar_repr.specs.declared.action.InlinedSymbol.TheVariants as inlined
use Rattle.lalrpop_grammar_repr.specs.declared.production.NonterminalData.{NonterminalData}
use Rattle.lalrpop_grammar_repr.specs.declared.production.Production.{Production}
use Rattle.lalrpop_grammar_repr.specs.declared.production.Symbol.{Symbol}
use Rattle.lalrpop_grammar_repr.specs.declared.production.Symbol.TheVariants as symbols
use Rattle.lalrpop_lr1_inline.specs.InlinedNames.{NonterminalEntries, data_named}

-- the symbol is a place of the nonterminal
abbrev pub is_place : Text → Symbol → Bool
is_place n (symbols.Nonterminal m) = bytes_eq m.0 n
is_place n (symbols.Terminal t) = false

-- what a record may have for a symbol, in order: each of the nonterminal's productions at a place of it, else the symbol
abbrev pub record_entries : Text → List Production → Symbol → List InlinedSymbol
record_entries n ps s = if is_place n s then map (λ p. inlined.Inlined p.action p.symbols) ps else inlined.Original s ∷ []

-- the records of a right side, in order: the last place changes first
abbrev pub records_of : Text → List Production → List Symbol → List (List InlinedSymbol)
records_of n ps [] = [] ∷ []
records_of n ps (s ∷ side) = flat_map (λ e. map (λ r. e ∷ r) (records_of n ps side)) (record_entries n ps s)

-- records of one symbol more
abbrev pub longer_records : List (List InlinedSymbol) → List InlinedSymbol → List (List InlinedSymbol)
longer_records rs entries = flat_map (λ r. map (λ e. r ++ e ∷ []) entries) rs

-- the right side that a record makes
abbrev pub side_of_entry : InlinedSymbol → List Symbol
side_of_entry (inlined.Original s) = s ∷ []
side_of_entry (inlined.Inlined action side) = side

abbrev pub side_of_record : List InlinedSymbol → List Symbol
side_of_record r = flat_map side_of_entry r

-- the action may fail
abbrev pub action_fails : List ActionFnDefn → ℕ → Bool
action_fails actions k = fails (slice_get actions k)
  where
    fails : Option ActionFnDefn → Bool
    fails None = false
    fails (Some d) = d.fallible

abbrev pub entry_fails : List ActionFnDefn → InlinedSymbol → Bool
entry_fails actions (inlined.Original s) = false
entry_fails actions (inlined.Inlined action side) = action_fails actions action.0

-- The action of a production that a record makes of another: fallible where the other's or an inlined one is, of the other's
-- type.
pub record IsInlineDefinition (actions : List ActionFnDefn) (p : Production) (r : List InlinedSymbol) (d : ActionFnDefn) : Type 0 where
  pub outer : ActionFnDefn
  pub has_outer : slice_get actions p.action.0 ≡ Some outer
  pub fallible_is : d.fallible ≡ (outer.fallible || list_any (entry_fails actions) r)
  pub type_is : d.ret_type ≡ outer.ret_type
  pub kind_is : d.kind ≡ kinds.Inline (record { action = p.action; symbols = r })

-- the actions of the records, one after another
abbrev pub AreInlineDefinitions : List ActionFnDefn → List (Production × List InlinedSymbol) → List ActionFnDefn → Type 0
AreInlineDefinitions actions [] [] = Unit {0}
AreInlineDefinitions actions [] (d ∷ ds) = ⊥
AreInlineDefinitions actions (m ∷ ms) [] = ⊥
AreInlineDefinitions actions (m ∷ ms) (d ∷ ds) = IsInlineDefinition actions m.0 m.1 d × AreInlineDefinitions actions ms ds

-- the actions of the records stand behind the others
pub record AddsDefinitions (actions : List ActionFnDefn) (ms : List (Production × List InlinedSymbol)) (before : List ActionFnDefn)
    (after : List ActionFnDefn) : Type 0 where
  pub made : List ActionFnDefn
  pub are_definitions : AreInlineDefinitions actions ms made
  pub after_is : after ≡ before ++ made

-- the production that a record makes of another, with an action of its own
abbrev pub production_of_record : Production → List InlinedSymbol → ℕ → Production
production_of_record p r k = record {
  nonterminal = p.nonterminal;
  symbols = side_of_record r;
  action = record { 0 = k };
  span = p.span;
}

-- those that records make, their actions one after another from this number on
abbrev pub productions_of_records : Production → List (List InlinedSymbol) → ℕ → List Production
productions_of_records p [] k = []
productions_of_records p (r ∷ rs) k = production_of_record p r k ∷ productions_of_records p rs (k + 1)

-- the records that the production is replaced by; none where it doesn't name the nonterminal
abbrev pub records_in_place : Text → List Production → Production → List (List InlinedSymbol)
records_in_place n ps p = if list_any (is_place n) p.symbols then records_of n ps p.symbols else []

-- what stands in the production's place
abbrev pub productions_in_place : Text → List Production → Production → ℕ → List Production
productions_in_place n ps p k =
    if list_any (is_place n) p.symbols then productions_of_records p (records_of n ps p.symbols) k else p ∷ []

-- what is made of the productions, where this many numbers were handed out before
abbrev pub productions_after : Text → List Production → List Production → ℕ → List Production
productions_after n ps [] k = []
productions_after n ps (p ∷ qs) k =
    productions_in_place n ps p k ++ productions_after n ps qs (k + length (records_in_place n ps p))

-- which record was made of which production, in the order in which numbers are handed out
abbrev pub records_after : Text → List Production → List Production → List (Production × List InlinedSymbol)
records_after n ps qs = flat_map (λ p. map (λ r. (p, r)) (records_in_place n ps p)) qs

abbrev pub data_after : NonterminalData → List Production → NonterminalData
data_after d ps = record { name = d.name; attributes = d.attributes; span = d.span; productions = ps }

-- the same of all nonterminals, in order of their names
abbrev pub entries_after : Text → List Production → NonterminalEntries → ℕ → NonterminalEntries
entries_after n ps [] k = []
entries_after n ps (e ∷ es) k =
    (e.0, data_after e.1 (productions_after n ps e.1.productions k))
    ∷ entries_after n ps es (k + length (records_after n ps e.1.productions))

abbrev pub all_records_after : Text → List Production → NonterminalEntries → List (Production × List InlinedSymbol)
all_records_after n ps es = flat_map (λ e. records_after n ps e.1.productions) es

abbrev pub productions_named : NonterminalEntries → Text → List Production
productions_named es n = productions_in (data_named es n)

-- The step that inlines the nonterminal: of nonterminals and actions before it and after it.
pub record IsInlineStep (n : Text) (es : NonterminalEntries) (actions : List ActionFnDefn) (after : NonterminalEntries)
    (actions_after : List ActionFnDefn) : Type 0 where
  pub made : List ActionFnDefn
  pub are_definitions : AreInlineDefinitions actions (all_records_after n (productions_named es n) es) made
  pub actions_are : actions_after ≡ actions ++ made
  pub entries_are : after ≡ entries_after n (productions_named es n) es (length actions)

-- the steps that inline these nonterminals, one after another
abbrev pub AreInlineSteps : List Text → NonterminalEntries → List ActionFnDefn → NonterminalEntries → List ActionFnDefn → Type 0
AreInlineSteps [] es actions after actions_after = (after ≡ es) × (actions_after ≡ actions)
AreInlineSteps (n ∷ ns) es actions after actions_after =
    (mid : NonterminalEntries) × (actions_mid : List ActionFnDefn) × IsInlineStep n es actions mid actions_mid
    × AreInlineSteps ns mid actions_mid after actions_after

-- how many numbers are handed out by then, those of the given grammar included
abbrev pub numbers_after : List Text → NonterminalEntries → ℕ → ℕ
numbers_after [] es k = k
numbers_after (n ∷ ns) es k =
    numbers_after ns (entries_after n (productions_named es n) es k) (k + length (all_records_after n (productions_named es n) es))
