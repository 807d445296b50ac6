-- Which grammar items have a spelling, by their parts: for the functions that tell it.
use Rattle.std.proofs.Common.{◌≡◌, ◌↔◌, ℕ, List, Bool, true, IsTrue, refl}
use Rattle.lalrpop_grammar.specs.declared.extern_token.ExternToken.{ExternToken}
use Rattle.lalrpop_grammar.specs.declared.grammar.GrammarItem.{GrammarItem}
use Rattle.lalrpop_grammar.specs.declared.grammar.GrammarItem.TheVariants as items
use Rattle.lalrpop_grammar.specs.declared.intern_token.InternToken.{InternToken}
use Rattle.lalrpop_grammar.specs.declared.match_token.MatchToken.{MatchToken}
use Rattle.lalrpop_grammar.specs.declared.nonterminal.NonterminalData.{NonterminalData}
use Rattle.lalrpop_json_values.specs.Scalars.{is_name}
use Rattle.lalrpop_json_values.specs.Spelled.{EachFrom, IfSome, IsSpan}
use Rattle.lalrpop_json_symbols.specs.Readable.{AreReadableAttributes, IsReadableType}
use Rattle.lalrpop_json_items.specs.Readable.{IsReadableAlternative, IsReadableAssociated, IsReadableEnum, IsReadableExtern, IsReadableItem}
use Rattle.lalrpop_json_items.specs.Readable.{IsReadableMatch, IsReadableParameter, IsReadableRule}

-- ---- rules

pub rule_whole : (r : NonterminalData) → IsTrue (is_name r.name.0) → AreReadableAttributes r.attributes → IsSpan r.span
    → EachFrom (λ _. IsReadableParameter) 0 r.args
    → IfSome IsReadableType r.type_decl → EachFrom (IsReadableAlternative r.name.0) 0 r.alternatives → IsReadableRule r
rule_whole r named attributes spanned args declared alternatives =
    record { name = named; attributes = attributes; span = spanned; args = args; declared = declared; alternatives = alternatives }

pub rule_parts : (r : NonterminalData) → IsReadableRule r
    → IsTrue (is_name r.name.0) × AreReadableAttributes r.attributes × IsSpan r.span × EachFrom (λ _. IsReadableParameter) 0 r.args
    × IfSome IsReadableType r.type_decl × EachFrom (IsReadableAlternative r.name.0) 0 r.alternatives
rule_parts r is = (is.name, is.attributes, is.span, is.args, is.declared, is.alternatives)

pub ruleset rules_told = (rule_parts, rule_whole)

-- ---- extern blocks

pub extern_whole : (b : ExternToken) → EachFrom (λ _. IsReadableAssociated) 0 b.associated_types → IfSome IsReadableEnum b.enum_token
    → IsSpan b.span → IsReadableExtern b
extern_whole b associated own spanned = record { associated = associated; own = own; span = spanned }

pub extern_parts : (b : ExternToken) → IsReadableExtern b
    → EachFrom (λ _. IsReadableAssociated) 0 b.associated_types × IfSome IsReadableEnum b.enum_token × IsSpan b.span
extern_parts b is = (is.associated, is.own, is.span)

pub ruleset externs_told = (extern_parts, extern_whole)

-- ---- items

abbrev Parts : GrammarItem → Type 0
Parts (items.Nonterminal r) = IsReadableRule r
Parts (items.MatchToken b) = IsReadableMatch b
Parts (items.ExternToken b) = IsReadableExtern b
Parts (items.InternToken entries) = ⊥
Parts (items.Use text) = Unit {0}

item_parts : (i : GrammarItem) → IsReadableItem i → Parts i
item_parts i (IsReadableItem.nonterminal r e is) = rw e is
item_parts i (IsReadableItem.match_token b e is) = rw e is
item_parts i (IsReadableItem.extern_token b e is) = rw e is
item_parts i (IsReadableItem.import text e) = rw e tt

-- a rule has a spelling among the grammar items where it has one as a rule
pub of_rule : (b : Bool) (i : GrammarItem) (r : NonterminalData) → i ≡ items.Nonterminal r → (IsTrue b ↔ IsReadableRule r)
    → IsTrue b ↔ IsReadableItem i
of_rule b i r e told = (
  (λ is. IsReadableItem.nonterminal r e (told.0 is)),
  (λ is. let parts : Parts (items.Nonterminal r) = rw e at (item_parts i is) in told.1 parts),
)

-- a match block has a spelling among the grammar items where it has one as a block
pub of_match : (b : Bool) (i : GrammarItem) (m : MatchToken) → i ≡ items.MatchToken m → (IsTrue b ↔ IsReadableMatch m) → IsTrue b
    ↔ IsReadableItem i
of_match b i m e told = (
  (λ is. IsReadableItem.match_token m e (told.0 is)),
  (λ is. let parts : Parts (items.MatchToken m) = rw e at (item_parts i is) in told.1 parts),
)

-- an extern block has a spelling among the grammar items where it has one as a block
pub of_extern : (b : Bool) (i : GrammarItem) (x : ExternToken) → i ≡ items.ExternToken x → (IsTrue b ↔ IsReadableExtern x)
    → IsTrue b ↔ IsReadableItem i
of_extern b i x e told = (
  (λ is. IsReadableItem.extern_token x e (told.0 is)),
  (λ is. let parts : Parts (items.ExternToken x) = rw e at (item_parts i is) in told.1 parts),
)

-- an import has a spelling
pub of_import : (i : GrammarItem) (text : List ℕ) → i ≡ items.Use text → IsTrue true ↔ IsReadableItem i
of_import i text e = ((λ is. IsReadableItem.import text e), (λ is. refl))

pub no_entries : (i : GrammarItem) (entries : InternToken) → i ≡ items.InternToken entries → IsReadableItem i → ⊥
no_entries i entries e is = let parts : Parts (items.InternToken entries) = rw e at (item_parts i is) in parts

pub ruleset items_told = (no_entries)
