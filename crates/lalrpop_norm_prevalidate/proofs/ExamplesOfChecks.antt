-- Computed examples of what the first pass looks for, with different spans everywhere; near misses give nothing.
use Prim.Native.String.{String}
use Rattle.std.proofs.Common.{◌≡◌, ℕ, List, [], ◌∷◌, refl}
use Rattle.std.specs.Prelude.{Bool, true, false, Option, Some, None, codes}
use Rattle.lalrpop_grammar_symbols.specs.Symbols.{Text, WrittenSymbol, syms, Terminal, Op, Sym}
use Rattle.lalrpop_grammar.specs.WrittenGrammar.{Attr, Attrs, Condition, ConditionTest}
use Rattle.lalrpop_grammar.specs.WrittenGrammar.{Alternative, WrittenItem, Action, Origin, WrittenEntry, Conversion}
use Rattle.lalrpop_grammar.specs.WrittenGrammar.{Rule, Ty, Tys}
use Rattle.lalrpop_norm_prevalidate.specs.Attributes.{unknown_attributes}
use Rattle.lalrpop_norm_prevalidate.specs.Blocks.{later_blocks, public_inlines}
use Rattle.lalrpop_norm_prevalidate.specs.Labels.{misplaced_in_alternative}
use Rattle.lalrpop_norm_prevalidate.specs.Names.{names_in_alternative, names_in_rule, name_in_entry, first_reserved}
use Rattle.lalrpop_norm_prevalidate.specs.Names.{names_in_group, names_in_item}

-- a grammar's parts

-- an attribute that is one word, with the place where it stands
abbrev pub word : ℕ → String → Attr
word p id = Attr.empty (p, p) (codes id)

-- an attribute that sets a key to a text
abbrev pub setting : ℕ → String → String → Attr
setting p key text = Attr.equal (p, p) (codes key) (codes text)

abbrev pub parts_of : List Attr → Attrs
parts_of [] = Attrs.none
parts_of (a ∷ more) = Attrs.more a (parts_of more)

-- an attribute with parts in parentheses
abbrev pub with_parts : ℕ → String → List Attr → Attr
with_parts p id parts = Attr.paren (p, p) (codes id) (parts_of parts)

-- an alternative whose span is the same in all examples
abbrev pub alternative : List Attr → Action → Option Condition → List WrittenSymbol → Alternative
alternative attributes action condition symbols =
    record { span = (90, 91); expr = symbols; condition = condition; action = action; attributes = attributes; origin = Origin.start }

-- an alternative of which attributes alone matter
abbrev pub plain_alternative : List Attr → Alternative
plain_alternative attributes = alternative attributes (Action.user (codes "()")) None []

-- a rule by the place and the text of its name, and its parts
abbrev pub rule : Bool → ℕ → String → List Attr → List Text → Option Ty → List Alternative → Rule
rule public p n attributes parameters declared alternatives = record {
  public = public;
  name = codes n;
  attributes = attributes;
  span = (p, p);
  parameters = parameters;
  declared = declared;
  alternatives = alternatives;
}

-- a public rule of which attributes and alternatives alone matter
abbrev pub plain_rule : List Attr → List Alternative → WrittenItem
plain_rule attributes alternatives = WrittenItem.nonterminal (rule true 1 "S" attributes [] None alternatives)

-- a quoted literal, with the place where it stands
abbrev pub lit : ℕ → String → WrittenSymbol
lit p s = Sym.terminal (p, p) (Terminal.quoted (codes s))

-- a symbol under a name that is not mutable
abbrev pub named : ℕ → String → WrittenSymbol → WrittenSymbol
named p n x = Sym.name (p, p) false (codes n) x

-- a symbol that is chosen, as in angle brackets
abbrev pub chosen : ℕ → WrittenSymbol → WrittenSymbol
chosen p x = Sym.choose (p, p) x

abbrev pub group : ℕ → List WrittenSymbol → WrittenSymbol
group p xs = Sym.expr (p, p) (syms xs)

-- an action with user code, which is a unit
abbrev pub user : Action
user = Action.user (codes "()")

-- an extern block at this place, with a name among its types and these conversions
abbrev pub extern_block : ℕ → List Conversion → WrittenItem
extern_block p conversions = WrittenItem.extern_token (record {
  span = (p, p);
  associated_types = record { name = codes "__Location"; type_text = codes "__usize" } ∷ [];
  enum_token = Some (record { conversions = conversions; type_text = codes "__Token" });
})

-- attributes

-- an attribute of rules on the grammar, one of the grammar with an argument
grammar_attributes : unknown_attributes (word 1 "LALR" ∷ word 2 "inline" ∷ setting 3 "LALR" "x" ∷ with_parts 4 "test_all" []
    ∷ []) []
    ≡ word 2 "inline" ∷ setting 3 "LALR" "x" ∷ with_parts 4 "test_all" [] ∷ []
grammar_attributes = refl

cfg_on_the_grammar : unknown_attributes (with_parts 5 "cfg" (setting 6 "feature" "x" ∷ []) ∷ []) []
    ≡ with_parts 5 "cfg" (setting 6 "feature" "x" ∷ []) ∷ []
cfg_on_the_grammar = refl

all_on_the_grammar : unknown_attributes (word 1 "LALR" ∷ word 2 "table_driven" ∷ word 3 "recursive_ascent" ∷ word 4 "test_all"
    ∷ []) [] ≡ []
all_on_the_grammar = refl

-- a level on a rule; a predicate that is none, deep inside: told is the outermost attribute
rule_attributes : unknown_attributes []
    (plain_rule (word 1 "inline" ∷ with_parts 2 "precedence" (setting 3 "level" "1" ∷ [])
    ∷ with_parts 4 "cfg" (with_parts 5 "not" (word 6 "feature" ∷ []) ∷ []) ∷ []) [] ∷ [])
    ≡ with_parts 2 "precedence" (setting 3 "level" "1" ∷ []) ∷ with_parts 4 "cfg" (with_parts 5 "not" (word 6 "feature" ∷ [])
    ∷ []) ∷ []
rule_attributes = refl

predicates_on_a_rule : unknown_attributes []
    (plain_rule (with_parts 1 "cfg" (with_parts 2 "all" [] ∷ [])
    ∷ with_parts 3 "cfg" (with_parts 4 "any" (setting 5 "feature" "x" ∷ with_parts 6 "not" (setting 7 "feature" "y" ∷ []) ∷ [])
    ∷ []) ∷ [])
    [] ∷ []) ≡ []
predicates_on_a_rule = refl

-- `not` of nothing, `feature` with parts, `all` without parentheses, `inline` with them
shapes_on_a_rule : unknown_attributes []
    (plain_rule (with_parts 1 "cfg" (with_parts 2 "not" [] ∷ []) ∷ with_parts 3 "cfg" (with_parts 4 "feature" [] ∷ [])
    ∷ with_parts 5 "cfg" (word 6 "all" ∷ []) ∷ with_parts 7 "inline" []
    ∷ with_parts 8 "cfg" (with_parts 9 "any" [] ∷ []) ∷ []) [] ∷ [])
    ≡ with_parts 1 "cfg" (with_parts 2 "not" [] ∷ []) ∷ with_parts 3 "cfg" (with_parts 4 "feature" [] ∷ [])
    ∷ with_parts 5 "cfg" (word 6 "all" ∷ []) ∷ with_parts 7 "inline" [] ∷ []
shapes_on_a_rule = refl

-- `cfg` with two predicates or none, `not` of two, `inline` on an alternative, another key, a key twice
alternative_attributes : unknown_attributes []
    (plain_rule [] (plain_alternative (
    with_parts 1 "cfg" [] ∷ with_parts 2 "cfg" (with_parts 3 "not" (with_parts 4 "all" [] ∷ with_parts 5 "any" [] ∷ []) ∷ [])
    ∷ word 6 "inline" ∷ with_parts 7 "assoc" (setting 8 "level" "1" ∷ [])
    ∷ with_parts 9 "precedence" (setting 10 "level" "1" ∷ setting 11 "level" "1" ∷ []) ∷ word 12 "cfg"
    ∷ with_parts 13 "precedence" (setting 14 "side" "left" ∷ []) ∷ []) ∷ []) ∷ [])
    ≡ with_parts 1 "cfg" [] ∷ with_parts 2 "cfg" (with_parts 3 "not" (with_parts 4 "all" [] ∷ with_parts 5 "any" [] ∷ []) ∷ [])
    ∷ word 6 "inline" ∷ with_parts 7 "assoc" (setting 8 "level" "1" ∷ [])
    ∷ with_parts 9 "precedence" (setting 10 "level" "1" ∷ setting 11 "level" "1" ∷ []) ∷ word 12 "cfg"
    ∷ with_parts 13 "precedence" (setting 14 "side" "left" ∷ []) ∷ []
alternative_attributes = refl

-- a level that is no number and a side that is none are faults of levels, and one thing may be said twice
right_on_an_alternative : unknown_attributes []
    (plain_rule [] (plain_alternative (
    with_parts 1 "precedence" (setting 2 "level" "x" ∷ []) ∷ with_parts 3 "precedence" (setting 4 "level" "2" ∷ [])
    ∷ with_parts 5 "assoc" (setting 6 "side" "up" ∷ []) ∷ []) ∷ []) ∷ []) ≡ []
right_on_an_alternative = refl

-- match blocks and public rules

three_blocks : later_blocks (WrittenItem.match_token [] (1, 2) ∷ plain_rule [] [] ∷ WrittenItem.match_token [] (3, 4)
    ∷ WrittenItem.match_token [] (5, 6) ∷ []) ≡ (3, 4) ∷ (5, 6) ∷ []
three_blocks = refl

one_block : later_blocks (extern_block 1 [] ∷ WrittenItem.match_token [] (3, 4) ∷ []) ≡ []
one_block = refl

-- a public rule and a public macro; a private rule may be inlined, and a public one that isn't is right
inlines : public_inlines (
    WrittenItem.nonterminal (rule true 7 "S" (word 8 "inline" ∷ []) [] None [])
    ∷ WrittenItem.nonterminal (rule true 9 "M" (word 10 "inline" ∷ []) (codes "T" ∷ []) None [])
    ∷ WrittenItem.nonterminal (rule false 11 "A" (word 12 "inline" ∷ []) [] None [])
    ∷ WrittenItem.nonterminal (rule true 13 "B" [] [] None []) ∷ []) ≡ (7, 7) ∷ (9, 9) ∷ []
inlines = refl

-- names

-- each name of a rule in its place: name, parameter, type, symbols in a type
names_of_a_rule : names_in_rule (rule true 1 "a" [] (codes "b" ∷ [])
    (Some (Ty.tuple (Tys.more (Ty.id (codes "c")) (Tys.more (Ty.of_symbol (group 2 (Sym.ambiguous_id (3, 3) (codes "d")
    ∷ []))) Tys.none))))
    []) ≡ (codes "a", (1, 1)) ∷ (codes "b", (1, 1)) ∷ (codes "c", (1, 1)) ∷ (codes "d", (3, 3)) ∷ []
unfolding names_in_rule
names_of_a_rule = refl

-- in a type neither a path nor a lifetime nor a text is a name, but what they are applied to is
names_of_a_type : names_in_rule (rule true 1 "a" [] []
    (Some (Ty.nominal (codes "__P") (Tys.more (Ty.ref (Some (codes "__l")) false (Ty.id (codes "b"))) (Tys.more (Ty.opaque (codes "__t"))
    Tys.none))))
    []) ≡ (codes "a", (1, 1)) ∷ (codes "b", (1, 1)) ∷ []
unfolding names_in_rule
names_of_a_type = refl

-- in an alternative: labels, calls and names at any depth, then the condition's parameter; texts are no names
names_of_an_alternative : names_in_alternative (alternative [] user
    (Some (record { place = (9, 9); parameter = codes "e"; test = ConditionTest.equals; against = codes "__" }))
    (named 1 "a" (Sym.macro (2, 2) (codes "b") (syms (chosen 3 (Sym.ambiguous_id (4, 4) (codes "c")) ∷ lit 5 "__" ∷ []))) ∷ []))
    ≡ (codes "a", (1, 1)) ∷ (codes "b", (2, 2)) ∷ (codes "c", (4, 4)) ∷ (codes "e", (9, 9)) ∷ []
unfolding names_in_alternative
names_of_an_alternative = refl

bare_name : name_in_entry (WrittenEntry.mapped (Terminal.quoted (codes "__x")) (Terminal.bare (codes "__A")) (6, 7))
    ≡ (codes "__A", (6, 7)) ∷ []
bare_name = refl

-- a literal is no name, nor is what is skipped
no_bare_name : name_in_entry (WrittenEntry.mapped (Terminal.quoted (codes "x")) (Terminal.quoted (codes "__x")) (6, 7)) ≡ []
no_bare_name = refl

-- in a match block the names that entries map to, group by group
names_of_a_block : names_in_item (WrittenItem.match_token (
    (WrittenEntry.mapped (Terminal.regex (codes "__x")) (Terminal.bare (codes "A")) (6, 7) ∷ [])
    ∷ (WrittenEntry.catch_all (8, 8)
    ∷ WrittenEntry.mapped (Terminal.quoted (codes "y")) (Terminal.bare (codes "B")) (9, 9) ∷ []) ∷ [])
    (5, 10)) ≡ (codes "A", (6, 7)) ∷ (codes "B", (9, 9)) ∷ []
unfolding names_in_item names_in_group
names_of_a_block = refl

-- in an extern block the bare names that conversions begin with, all at the block; types and patterns are no names
names_of_an_extern_block : names_in_item (extern_block 4 (
    record { from = Terminal.bare (codes "A"); to = codes "__A" } ∷ record { from = Terminal.quoted (codes "__b"); to = codes "B" }
    ∷ record { from = Terminal.bare (codes "C"); to = codes "C" } ∷ [])) ≡ (codes "A", (4, 4)) ∷ (codes "C", (4, 4)) ∷ []
unfolding names_in_item
names_of_an_extern_block = refl

-- the first that begins with the prefix; the prefix itself does, a shorter name and one with the prefix inside don't
reserved : first_reserved (codes "__") ((codes "_", (1, 1)) ∷ (codes "a__", (2, 2)) ∷ (codes "__", (3, 3)) ∷ (codes "__x", (4, 4))
    ∷ [])
    ≡ Some (3, 3)
reserved = refl

not_reserved : first_reserved (codes "___") ((codes "__x", (1, 1)) ∷ (codes "", (2, 2)) ∷ (codes "_", (3, 3)) ∷ []) ≡ None
not_reserved = refl

-- named symbols

-- beside a chosen one in the alternative's own list
beside : misplaced_in_alternative (alternative [] user None (named 1 "a" (lit 2 "x") ∷ chosen 3 (lit 4 "y") ∷ named 5 "b" (lit 6 "z")
    ∷ []))
    ≡ (1, 1) ∷ (5, 5) ∷ []
unfolding misplaced_in_alternative
beside = refl

-- in a macro's arguments none is beside a chosen one, nor is one below a chosen symbol
below : misplaced_in_alternative (alternative [] user None
    (Sym.macro (1, 1) (codes "M") (syms (named 2 "a" (lit 3 "x") ∷ chosen 4 (lit 5 "y") ∷ [])) ∷ chosen 6 (named 7 "b" (lit 8 "z"))
    ∷ []))
    ≡ []
unfolding misplaced_in_alternative
below = refl

-- nor is one beside a group with a chosen one, nor one in a repeat or an argument
apart : misplaced_in_alternative (alternative [] user None
    (named 1 "a" (lit 2 "x") ∷ group 3 (chosen 4 (lit 5 "y") ∷ []) ∷ Sym.repeat (6, 6) Op.question (named 7 "b" (lit 8 "z"))
    ∷ Sym.macro (9, 9) (codes "M") (syms (named 10 "c" (lit 11 "v") ∷ [])) ∷ [])) ≡ []
unfolding misplaced_in_alternative
apart = refl

-- in a group that is an argument
grouped_argument : misplaced_in_alternative (alternative [] user None
    (Sym.macro (1, 1) (codes "M") (syms (group 2 (lit 3 "x" ∷ named 4 "a" (lit 5 "y") ∷ []) ∷ [])) ∷ [])) ≡ (4, 4) ∷ []
unfolding misplaced_in_alternative
grouped_argument = refl

-- in a group, at any depth below it
grouped_label : misplaced_in_alternative (alternative [] (Action.fallible (codes "()")) None
    (group 1 (Sym.repeat (2, 2) Op.star (named 3 "a" (lit 4 "x")) ∷ []) ∷ named 5 "b" (lit 6 "y") ∷ [])) ≡ (3, 3) ∷ []
unfolding misplaced_in_alternative
grouped_label = refl

-- without user code anywhere, in a repeat too
without_code : misplaced_in_alternative (alternative [] Action.default None (Sym.repeat (1, 1) Op.plus (named 2 "a" (lit 3 "x")) ∷ []))
    ≡ (2, 2) ∷ []
unfolding misplaced_in_alternative
without_code = refl

chosen_without_code : misplaced_in_alternative (alternative [] Action.default None (chosen 1 (lit 2 "x") ∷ lit 3 "y" ∷ [])) ≡ []
unfolding misplaced_in_alternative
chosen_without_code = refl
