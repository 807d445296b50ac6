-- Computed examples of repeats, groups, names and features: trees that are admitted, and near misses that aren't.
use Rattle.std.proofs.Common.{◌≡◌, List, [], ◌∷◌, ◌++◌, refl, false}
use Rattle.std.specs.Prelude.{codes}
use Rattle.lalrpop_grammar_symbols.specs.Symbols.{WrittenSymbol, Closed, Closeds, Terminal, Sym}
use Rattle.lalrpop_grammar.specs.WrittenGrammar.{Grammar, Attr}
use Rattle.lalrpop_grammar.specs.Trees.{Token, Tree, leaves, trees}
use Rattle.lalrpop_grammar_language.specs.Enabled.{enabled_grammar}
use Rattle.lalrpop_grammar_language.specs.Levels.{loosest}
use Rattle.lalrpop_grammar_language.specs.Admitting.{AdmitsFrom}
use Rattle.lalrpop_grammar_language.proofs.LeafLemmas.{tokens_are}
use Rattle.lalrpop_grammar_language.proofs.WrittenTreeLemmas.{finds, here, lit, id, of_macro, in_group, many_of, some_of, maybe, feature}
use Rattle.lalrpop_grammar_language.proofs.WrittenTreeLemmas.{of_parts, cfg, with, alt, rule_with, rule_of, maps, grammar, nd, tok}
use Rattle.lalrpop_grammar_language.proofs.WrittenTreeLemmas.{bare_tok, Yes, No, yes, not_so}

abbrev S_of : List WrittenSymbol → Grammar
S_of symbols = grammar (rule_of "S" (alt symbols ∷ []) ∷ [])

abbrev s : List Tree → Tree
s kids = nd "S" 0 kids

abbrev all_of : List Tree → Tree
all_of ts = Tree.list (trees ts)

-- S = ("a" "b"+)?
abbrev option : Grammar
option = S_of (maybe (in_group (lit "a" ∷ some_of (lit "b") ∷ [])) ∷ [])

abbrev pair : Tree → Tree → Tree
pair a b = Tree.opt_some (Tree.group (trees (a ∷ b ∷ [])))

option_without : Yes [] option "S" (s (Tree.opt_none ∷ []))
option_without = yes [] option "S" (s (Tree.opt_none ∷ [])) refl

-- a repeat in a group in an option
option_with : Yes [] option "S" (s (pair (tok "a") (all_of (tok "b" ∷ tok "b" ∷ [])) ∷ []))
option_with = yes [] option "S" (s (pair (tok "a") (all_of (tok "b" ∷ tok "b" ∷ [])) ∷ [])) refl

no_repetition : No [] option "S" (s (pair (tok "a") (all_of []) ∷ []))
no_repetition = not_so [] option "S" (s (pair (tok "a") (all_of []) ∷ [])) refl

other_in_repeat : No [] option "S" (s (pair (tok "a") (all_of (tok "b" ∷ tok "a" ∷ [])) ∷ []))
other_in_repeat = not_so [] option "S" (s (pair (tok "a") (all_of (tok "b" ∷ tok "a" ∷ [])) ∷ [])) refl

without_list : No [] option "S" (s (pair (tok "a") (tok "b") ∷ []))
without_list = not_so [] option "S" (s (pair (tok "a") (tok "b") ∷ [])) refl

without_group : No [] option "S" (s (Tree.opt_some (all_of (tok "b" ∷ [])) ∷ []))
without_group = not_so [] option "S" (s (Tree.opt_some (all_of (tok "b" ∷ [])) ∷ [])) refl

option_as_list : No [] option "S" (s (all_of [] ∷ []))
option_as_list = not_so [] option "S" (s (all_of [] ∷ [])) refl

short_group : No [] option "S" (s (Tree.opt_some (Tree.group (trees (tok "a" ∷ []))) ∷ []))
short_group = not_so [] option "S" (s (Tree.opt_some (Tree.group (trees (tok "a" ∷ []))) ∷ [])) refl

-- S = "a"*
star_empty : Yes [] (S_of (many_of (lit "a") ∷ [])) "S" (s (all_of [] ∷ []))
star_empty = yes [] (S_of (many_of (lit "a") ∷ [])) "S" (s (all_of [] ∷ [])) refl

star_absent : No [] (S_of (many_of (lit "a") ∷ [])) "S" (s (Tree.opt_none ∷ []))
star_absent = not_so [] (S_of (many_of (lit "a") ∷ [])) "S" (s (Tree.opt_none ∷ [])) refl

-- S = @L "a" @R
abbrev looks : Grammar
looks = S_of (Sym.lookahead here ∷ lit "a" ∷ Sym.lookbehind here ∷ [])

looks_around : Yes [] looks "S" (s (Tree.look ∷ tok "a" ∷ Tree.look ∷ []))
looks_around = yes [] looks "S" (s (Tree.look ∷ tok "a" ∷ Tree.look ∷ [])) refl

without_look : No [] looks "S" (s (Tree.look ∷ tok "a" ∷ []))
without_look = not_so [] looks "S" (s (Tree.look ∷ tok "a" ∷ [])) refl

token_for_look : No [] looks "S" (s (Tree.look ∷ tok "a" ∷ tok "a" ∷ []))
token_for_look = not_so [] looks "S" (s (Tree.look ∷ tok "a" ∷ tok "a" ∷ [])) refl

-- S = <x:"a"> <"b">+
abbrev transparent : Grammar
transparent = S_of (Sym.name here false (codes "x") (lit "a") ∷ some_of (Sym.choose here (lit "b")) ∷ [])

names_and_choices : Yes [] transparent "S" (s (tok "a" ∷ all_of (tok "b" ∷ []) ∷ []))
names_and_choices = yes [] transparent "S" (s (tok "a" ∷ all_of (tok "b" ∷ []) ∷ [])) refl

choice_as_group : No [] transparent "S" (s (tok "a" ∷ all_of (Tree.group (trees (tok "b" ∷ [])) ∷ []) ∷ []))
choice_as_group = not_so [] transparent "S" (s (tok "a" ∷ all_of (Tree.group (trees (tok "b" ∷ [])) ∷ []) ∷ [])) refl

-- S = { "a" !, !* }
abbrev recovers : Grammar
recovers = grammar (rule_of "S" (alt (lit "a" ∷ Sym.error here ∷ []) ∷ alt (many_of (Sym.error here) ∷ []) ∷ []) ∷ [])

abbrev recovered : Tree
recovered = Tree.terminal (record { terminal = Terminal.error; text = []; span = (0, 0) })

-- the recovery symbol has no tree, nor has a terminal of it
recovery_token : No [] recovers "S" (nd "S" 0 (tok "a" ∷ recovered ∷ []))
recovery_token = not_so [] recovers "S" (nd "S" 0 (tok "a" ∷ recovered ∷ [])) refl

recovery_terminal : No [] (S_of (Sym.terminal here Terminal.error ∷ [])) "S" (s (recovered ∷ []))
recovery_terminal = not_so [] (S_of (Sym.terminal here Terminal.error ∷ [])) "S" (s (recovered ∷ [])) refl

recovery_repeated : Yes [] recovers "S" (nd "S" 1 (all_of [] ∷ []))
recovery_repeated = yes [] recovers "S" (nd "S" 1 (all_of [] ∷ [])) refl

-- S = { "a", Undefined* }
abbrev undefined : Grammar
undefined = grammar (rule_of "S" (alt (lit "a" ∷ []) ∷ alt (many_of (id "Undefined") ∷ []) ∷ []) ∷ [])

beside_undefined : Yes [] undefined "S" (nd "S" 0 (tok "a" ∷ []))
beside_undefined = yes [] undefined "S" (nd "S" 0 (tok "a" ∷ [])) refl

-- no case fits a symbol that names nothing, not that of the empty list either
undefined_repeated : No [] undefined "S" (nd "S" 1 (all_of [] ∷ []))
undefined_repeated = not_so [] undefined "S" (nd "S" 1 (all_of [] ∷ [])) refl

-- match { "1" => NUM, "2" => NUM } S = NUM
abbrev mapped_twice : Grammar
mapped_twice = grammar (maps "1" "NUM" ∷ maps "2" "NUM" ∷ rule_of "S"
    (alt (id "NUM" ∷ []) ∷ alt (Sym.terminal here (Terminal.bare (codes "NUM")) ∷ []) ∷ []) ∷ [])

-- several entries may map to one name
bare_name : Yes [] mapped_twice "S" (s (bare_tok "NUM" "1" ∷ []))
bare_name = yes [] mapped_twice "S" (s (bare_tok "NUM" "1" ∷ [])) refl

bare_terminal : Yes [] mapped_twice "S" (nd "S" 1 (bare_tok "NUM" "2" ∷ []))
bare_terminal = yes [] mapped_twice "S" (nd "S" 1 (bare_tok "NUM" "2" ∷ [])) refl

literal_for_bare : No [] mapped_twice "S" (s (tok "1" ∷ []))
literal_for_bare = not_so [] mapped_twice "S" (s (tok "1" ∷ [])) refl

unmapped_name : No [] (S_of (id "NUM" ∷ [])) "S" (s (bare_tok "NUM" "1" ∷ []))
unmapped_name = not_so [] (S_of (id "NUM" ∷ [])) "S" (s (bare_tok "NUM" "1" ∷ [])) refl

unmapped_terminal : No [] (S_of (Sym.terminal here (Terminal.bare (codes "NUM")) ∷ [])) "S" (s (bare_tok "NUM" "1" ∷ []))
unmapped_terminal = not_so [] (S_of (Sym.terminal here (Terminal.bare (codes "NUM")) ∷ [])) "S" (s (bare_tok "NUM" "1" ∷ [])) refl

-- match { "1" => NUM } S = NUM; NUM = "n"
abbrev both : Grammar
both = grammar (maps "1" "NUM" ∷ rule_of "S" (alt (id "NUM" ∷ []) ∷ []) ∷ rule_of "NUM" (alt (lit "n" ∷ []) ∷ []) ∷ [])

-- a name that is a rule and a mapped bare name means the rule
rule_of_both : Yes [] both "S" (s (nd "NUM" 0 (tok "n" ∷ []) ∷ []))
rule_of_both = yes [] both "S" (s (nd "NUM" 0 (tok "n" ∷ []) ∷ [])) refl

bare_of_both : No [] both "S" (s (bare_tok "NUM" "1" ∷ []))
bare_of_both = not_so [] both "S" (s (bare_tok "NUM" "1" ∷ [])) refl

-- match { "1" => NUM } S = NUM; NUM = "n"; NUM = "m"
abbrev rules_of_one_name : Grammar
rules_of_one_name = grammar (maps "1" "NUM" ∷ rule_of "S" (alt (id "NUM" ∷ []) ∷ []) ∷ rule_of "NUM" (alt (lit "n" ∷ []) ∷ [])
    ∷ rule_of "NUM" (alt (lit "m" ∷ []) ∷ []) ∷ [])

two_rules : No [] rules_of_one_name "S" (s (nd "NUM" 0 (tok "n" ∷ []) ∷ []))
two_rules = not_so [] rules_of_one_name "S" (s (nd "NUM" 0 (tok "n" ∷ []) ∷ [])) refl

bare_of_two_rules : No [] rules_of_one_name "S" (s (bare_tok "NUM" "1" ∷ []))
bare_of_two_rules = not_so [] rules_of_one_name "S" (s (bare_tok "NUM" "1" ∷ [])) refl

-- a plain rule takes no arguments
arguments_for_a_rule : No [] (S_of (of_macro "S" (lit "a" ∷ []) ∷ [])) "S" (s (s [] ∷ []))
arguments_for_a_rule = not_so [] (S_of (of_macro "S" (lit "a" ∷ []) ∷ [])) "S" (s (s [] ∷ [])) refl

empty_arguments_for_a_rule : No [] (S_of (maybe (of_macro "S" []) ∷ [])) "S" (s (Tree.opt_none ∷ []))
empty_arguments_for_a_rule = not_so [] (S_of (maybe (of_macro "S" []) ∷ [])) "S" (s (Tree.opt_none ∷ [])) refl

-- S = { cfg(feature = "x") "a", cfg(all(feature = "x", feature = "y")) "b", cfg(not(feature = "y")) "c", cfg(any(feature = "x", feature =
-- "y")) "d" }
abbrev switches : Grammar
switches = grammar (rule_of "S" (
    with (cfg (feature "x") ∷ []) (lit "a" ∷ [])
    ∷ with (cfg (of_parts "all" (feature "x" ∷ feature "y" ∷ [])) ∷ []) (lit "b" ∷ [])
    ∷ with (cfg (of_parts "not" (feature "y" ∷ [])) ∷ []) (lit "c" ∷ [])
    ∷ with (cfg (of_parts "any" (feature "x" ∷ feature "y" ∷ [])) ∷ []) (lit "d" ∷ [])
    ∷ with (cfg (feature "x") ∷ cfg (feature "y") ∷ []) (lit "e" ∷ []) ∷ []) ∷ [])

-- alternatives keep their written places
one_feature : Yes ("x" ∷ []) switches "S" (nd "S" 0 (tok "a" ∷ []))
one_feature = yes ("x" ∷ []) switches "S" (nd "S" 0 (tok "a" ∷ [])) refl

not_all : No ("x" ∷ []) switches "S" (nd "S" 1 (tok "b" ∷ []))
not_all = not_so ("x" ∷ []) switches "S" (nd "S" 1 (tok "b" ∷ [])) refl

not_there : Yes ("x" ∷ []) switches "S" (nd "S" 2 (tok "c" ∷ []))
not_there = yes ("x" ∷ []) switches "S" (nd "S" 2 (tok "c" ∷ [])) refl

place_in_the_enabled : No ("x" ∷ []) switches "S" (nd "S" 1 (tok "c" ∷ []))
place_in_the_enabled = not_so ("x" ∷ []) switches "S" (nd "S" 1 (tok "c" ∷ [])) refl

two_features : Yes ("x" ∷ "y" ∷ []) switches "S" (nd "S" 1 (tok "b" ∷ []))
two_features = yes ("x" ∷ "y" ∷ []) switches "S" (nd "S" 1 (tok "b" ∷ [])) refl

there : No ("x" ∷ "y" ∷ []) switches "S" (nd "S" 2 (tok "c" ∷ []))
there = not_so ("x" ∷ "y" ∷ []) switches "S" (nd "S" 2 (tok "c" ∷ [])) refl

any_feature : Yes ("y" ∷ []) switches "S" (nd "S" 3 (tok "d" ∷ []))
any_feature = yes ("y" ∷ []) switches "S" (nd "S" 3 (tok "d" ∷ [])) refl

no_feature : No [] switches "S" (nd "S" 3 (tok "d" ∷ []))
no_feature = not_so [] switches "S" (nd "S" 3 (tok "d" ∷ [])) refl

-- several attributes must all hold
both_attributes : Yes ("x" ∷ "y" ∷ []) switches "S" (nd "S" 4 (tok "e" ∷ []))
both_attributes = yes ("x" ∷ "y" ∷ []) switches "S" (nd "S" 4 (tok "e" ∷ [])) refl

one_attribute : No ("y" ∷ []) switches "S" (nd "S" 4 (tok "e" ∷ []))
one_attribute = not_so ("y" ∷ []) switches "S" (nd "S" 4 (tok "e" ∷ [])) refl

-- one alternative "a" under the attribute
abbrev under : Attr → Grammar
under a = grammar (rule_of "S" (with (a ∷ []) (lit "a" ∷ []) ∷ []) ∷ [])

abbrev a : Tree
a = s (tok "a" ∷ [])

abbrev odd : Attr
odd = Attr.empty here (codes "odd")

all_of_none : Yes [] (under (cfg (of_parts "all" []))) "S" a
all_of_none = yes [] (under (cfg (of_parts "all" []))) "S" a refl

any_of_none : No [] (under (cfg (of_parts "any" []))) "S" a
any_of_none = not_so [] (under (cfg (of_parts "any" []))) "S" a refl

-- a predicate of another shape holds nowhere, under a `not` and beside one that holds too
odd_predicate : No [] (under (cfg odd)) "S" a
odd_predicate = not_so [] (under (cfg odd)) "S" a refl

not_odd : No [] (under (cfg (of_parts "not" (odd ∷ [])))) "S" a
not_odd = not_so [] (under (cfg (of_parts "not" (odd ∷ [])))) "S" a refl

not_of_none : No [] (under (cfg (of_parts "not" []))) "S" a
not_of_none = not_so [] (under (cfg (of_parts "not" []))) "S" a refl

any_with_odd : No ("x" ∷ []) (under (cfg (of_parts "any" (feature "x" ∷ odd ∷ [])))) "S" a
any_with_odd = not_so ("x" ∷ []) (under (cfg (of_parts "any" (feature "x" ∷ odd ∷ [])))) "S" a refl

two_in_cfg : No ("x" ∷ []) (under (of_parts "cfg" (feature "x" ∷ feature "x" ∷ []))) "S" a
two_in_cfg = not_so ("x" ∷ []) (under (of_parts "cfg" (feature "x" ∷ feature "x" ∷ []))) "S" a refl

-- cfg(feature = "x") S = "a"; S = "b"
abbrev switched_rules : Grammar
switched_rules = grammar
    (rule_with (cfg (feature "x") ∷ []) "S" [] (alt (lit "a" ∷ []) ∷ []) ∷ rule_of "S" (alt (lit "b" ∷ []) ∷ []) ∷ [])

one_enabled : Yes [] switched_rules "S" (s (tok "b" ∷ []))
one_enabled = yes [] switched_rules "S" (s (tok "b" ∷ [])) refl

disabled_rule : No [] switched_rules "S" a
disabled_rule = not_so [] switched_rules "S" a refl

two_enabled : No ("x" ∷ []) switched_rules "S" a
two_enabled = not_so ("x" ∷ []) switched_rules "S" a refl

-- a regex is another terminal than the literal of its text
regex_for_quoted : No [] (S_of (Sym.terminal here (Terminal.regex (codes "a")) ∷ [])) "S" a
regex_for_quoted = not_so [] (S_of (Sym.terminal here (Terminal.regex (codes "a")) ∷ [])) "S" a refl

-- a token says what its text is
other_text : Yes [] (S_of (lit "a" ∷ [])) "S"
    (s (Tree.terminal (record { terminal = Terminal.quoted (codes "a"); text = codes "z"; span = (3, 9) }) ∷ []))
other_text = yes [] (S_of (lit "a" ∷ [])) "S"
    (s (Tree.terminal (record { terminal = Terminal.quoted (codes "a"); text = codes "z"; span = (3, 9) }) ∷ [])) refl

-- each token is a leaf
token_left_over : (k : Token) → AdmitsFrom finds [] (S_of (lit "a" ∷ [])) (codes "S") a (leaves a ++ k ∷ []) → ⊥
token_left_over k w =
    let e : leaves a ++ k ∷ [] ≡ leaves a =
    tokens_are (enabled_grammar finds [] (S_of (lit "a" ∷ []))) (Closed.call (codes "S") Closeds.none (loosest w.rule)) a
    (leaves a ++ k ∷ []) w.admits in
    cc

no_start : No [] (S_of (lit "a" ∷ [])) "T" (nd "T" 0 (tok "a" ∷ []))
no_start = not_so [] (S_of (lit "a" ∷ [])) "T" (nd "T" 0 (tok "a" ∷ [])) refl

other_start : No [] (S_of (lit "a" ∷ [])) "S" (nd "T" 0 (tok "a" ∷ []))
other_start = not_so [] (S_of (lit "a" ∷ [])) "S" (nd "T" 0 (tok "a" ∷ [])) refl

place_past_the_end : No [] (S_of (lit "a" ∷ [])) "S" (nd "S" 1 (tok "a" ∷ []))
place_past_the_end = not_so [] (S_of (lit "a" ∷ [])) "S" (nd "S" 1 (tok "a" ∷ [])) refl
