-- Computed examples of macros and conditions: trees that are admitted, and near misses that aren't.
use Rattle.std.proofs.Common.{List, [], ◌∷◌, refl}
use Rattle.std.specs.Prelude.{Some, codes}
use Rattle.lalrpop_grammar_symbols.specs.Symbols.{Argument, syms, WrittenSymbol, Sym, Terminal}
use Rattle.lalrpop_grammar.specs.WrittenGrammar.{Grammar, ConditionTest}
use Rattle.lalrpop_grammar.specs.Trees.{Tree, trees}
use Rattle.lalrpop_grammar_language.proofs.WrittenTreeLemmas.{here, lit, id, of_macro, in_group, many_of, maybe, level, side, with, alt}
use Rattle.lalrpop_grammar_language.proofs.WrittenTreeLemmas.{on_K, if_so, rule_of, macro_of, grammar, nd, instance, tok, Yes, No, yes}
use Rattle.lalrpop_grammar_language.proofs.WrittenTreeLemmas.{not_so}

abbrev chosen : WrittenSymbol → WrittenSymbol
chosen x = Sym.choose here x

abbrev text : Argument → List Argument
text a = a ∷ []

-- L = Comma<Id>; Comma<T> = <(<T> ",")*> <T?>; Id = "i"
abbrev commas : Grammar
commas = grammar (rule_of "L" (alt (of_macro "Comma" (id "Id" ∷ []) ∷ []) ∷ [])
    ∷ macro_of "Comma" ("T" ∷ [])
    (alt (chosen (many_of (in_group (chosen (id "T") ∷ lit "," ∷ []))) ∷ chosen (maybe (id "T")) ∷ []) ∷ [])
    ∷ rule_of "Id" (alt (lit "i" ∷ []) ∷ []) ∷ [])

abbrev i : Tree
i = nd "Id" 0 (tok "i" ∷ [])

abbrev separated : List Argument → Tree
separated args = nd "L" 0
    (instance "Comma" args 0 (Tree.list (trees (Tree.group (trees (i ∷ tok "," ∷ [])) ∷ [])) ∷ Tree.opt_some i ∷ []) ∷ [])

macro_call : Yes [] commas "L" (separated (Sym.ambiguous_id tt (codes "Id") ∷ []))
macro_call = yes [] commas "L" (separated (Sym.ambiguous_id tt (codes "Id") ∷ [])) refl

-- the arguments are those of the call
other_argument : No [] commas "L" (separated (Sym.ambiguous_id tt (codes "L") ∷ []))
other_argument = not_so [] commas "L" (separated (Sym.ambiguous_id tt (codes "L") ∷ [])) refl

no_argument : No [] commas "L" (separated [])
no_argument = not_so [] commas "L" (separated []) refl

-- a macro is no start
macro_as_start : No [] commas "Comma" (nd "Comma" 0 (Tree.list (trees []) ∷ Tree.opt_none ∷ []))
macro_as_start = not_so [] commas "Comma" (nd "Comma" 0 (Tree.list (trees []) ∷ Tree.opt_none ∷ [])) refl

-- S = A<"d">; A<I> = "a" B<("." I)>; B<I> = "b" I
abbrev nested : Grammar
nested = grammar (rule_of "S" (alt (of_macro "A" (lit "d" ∷ []) ∷ []) ∷ [])
    ∷ macro_of "A" ("I" ∷ []) (alt (lit "a" ∷ of_macro "B" (in_group (lit "." ∷ id "I" ∷ []) ∷ []) ∷ []) ∷ [])
    ∷ macro_of "B" ("I" ∷ []) (alt (lit "b" ∷ id "I" ∷ []) ∷ []) ∷ [])

abbrev d : Argument
d = Sym.terminal tt (Terminal.quoted (codes "d"))

abbrev inside : Argument → Tree
inside arg = nd "S" 0 (instance "A" (d ∷ []) 0
    (tok "a" ∷ instance "B" (arg ∷ []) 0 (tok "b" ∷ Tree.group (trees (tok "." ∷ tok "d" ∷ [])) ∷ []) ∷ []) ∷ [])

-- a macro in a macro: the inner arguments have the outer ones put in
macro_in_macro : Yes [] nested "S" (inside (Sym.expr tt (syms (Sym.terminal tt (Terminal.quoted (codes ".")) ∷ d ∷ []))))
macro_in_macro = yes [] nested "S" (inside (Sym.expr tt (syms (Sym.terminal tt (Terminal.quoted (codes ".")) ∷ d ∷ [])))) refl

parameter_left_in : No [] nested "S"
    (inside (Sym.expr tt (syms (Sym.terminal tt (Terminal.quoted (codes ".")) ∷ Sym.ambiguous_id tt (codes "I") ∷ []))))
parameter_left_in = not_so [] nested "S"
    (inside (Sym.expr tt (syms (Sym.terminal tt (Terminal.quoted (codes ".")) ∷ Sym.ambiguous_id tt (codes "I") ∷ [])))) refl

-- S = M<"x">; M<T> = T; T = "t"
abbrev hidden : Grammar
hidden = grammar (rule_of "S" (alt (of_macro "M" (lit "x" ∷ []) ∷ []) ∷ [])
    ∷ macro_of "M" ("T" ∷ []) (alt (id "T" ∷ []) ∷ []) ∷ rule_of "T" (alt (lit "t" ∷ []) ∷ []) ∷ [])

abbrev x : List Argument
x = Sym.terminal tt (Terminal.quoted (codes "x")) ∷ []

-- a parameter hides a rule of its name
parameter_first : Yes [] hidden "S" (nd "S" 0 (instance "M" x 0 (tok "x" ∷ []) ∷ []))
parameter_first = yes [] hidden "S" (nd "S" 0 (instance "M" x 0 (tok "x" ∷ []) ∷ [])) refl

rule_behind_parameter : No [] hidden "S" (nd "S" 0 (instance "M" x 0 (nd "T" 0 (tok "t" ∷ []) ∷ []) ∷ []))
rule_behind_parameter = not_so [] hidden "S" (nd "S" 0 (instance "M" x 0 (nd "T" 0 (tok "t" ∷ []) ∷ []) ∷ [])) refl

-- S = M<"x">; M<F> = { F<"a">, "b" }; F<T> = T
abbrev called : Grammar
called = grammar (rule_of "S" (alt (of_macro "M" (lit "x" ∷ []) ∷ []) ∷ [])
    ∷ macro_of "M" ("F" ∷ []) (alt (of_macro "F" (lit "a" ∷ []) ∷ []) ∷ alt (lit "b" ∷ []) ∷ [])
    ∷ macro_of "F" ("T" ∷ []) (alt (id "T" ∷ []) ∷ []) ∷ [])

-- a parameter hides a macro of its name too, and takes no arguments
parameter_called : No [] called "S"
    (nd "S" 0 (instance "M" x 0 (instance "F" (Sym.terminal tt (Terminal.quoted (codes "a")) ∷ []) 0 (tok "a" ∷ []) ∷ []) ∷ []))
parameter_called = not_so [] called "S"
    (nd "S" 0 (instance "M" x 0 (instance "F" (Sym.terminal tt (Terminal.quoted (codes "a")) ∷ []) 0 (tok "a" ∷ []) ∷ []) ∷ []))
    refl

beside_parameter_called : Yes [] called "S" (nd "S" 0 (instance "M" x 1 (tok "b" ∷ []) ∷ []))
beside_parameter_called = yes [] called "S" (nd "S" 0 (instance "M" x 1 (tok "b" ∷ []) ∷ [])) refl

-- S = E<"k", "l">; E<T, E> = { L1 "n", L2 left E "-" E }
abbrev hides_owner : Grammar
hides_owner = grammar (rule_of "S" (alt (of_macro "E" (lit "k" ∷ lit "l" ∷ []) ∷ []) ∷ [])
    ∷ macro_of "E" ("T" ∷ "E" ∷ []) (
    with (level "1" ∷ []) (lit "n" ∷ []) ∷ with (level "2" ∷ side "left" ∷ []) (id "E" ∷ lit "-" ∷ id "E" ∷ []) ∷ []) ∷
    [])

abbrev k_l : List Argument
k_l = Sym.terminal tt (Terminal.quoted (codes "k")) ∷ Sym.terminal tt (Terminal.quoted (codes "l")) ∷ []

-- a hidden name is no occurrence
hidden_owner : Yes [] hides_owner "S" (nd "S" 0 (instance "E" k_l 1 (tok "l" ∷ tok "-" ∷ tok "l" ∷ []) ∷ []))
hidden_owner = yes [] hides_owner "S" (nd "S" 0 (instance "E" k_l 1 (tok "l" ∷ tok "-" ∷ tok "l" ∷ []) ∷ [])) refl

-- S = M<ARG>; M<T> = "m"
abbrev unused : List WrittenSymbol → Grammar
unused args = grammar (rule_of "S" (alt (of_macro "M" args ∷ []) ∷ []) ∷ macro_of "M" ("T" ∷ []) (alt (lit "m" ∷ []) ∷ []) ∷
    [])

abbrev m : List Argument → Tree
m args = nd "S" 0 (instance "M" args 0 (tok "m" ∷ []) ∷ [])

unused_argument : Yes [] (unused (lit "x" ∷ [])) "S" (m x)
unused_argument = yes [] (unused (lit "x" ∷ [])) "S" (m x) refl

-- a call has as many arguments as the macro has parameters
too_many_arguments : No [] (unused (lit "x" ∷ lit "x" ∷ [])) "S" (m (Sym.terminal tt (Terminal.quoted (codes "x")) ∷ x))
too_many_arguments = not_so [] (unused (lit "x" ∷ lit "x" ∷ [])) "S" (m (Sym.terminal tt (Terminal.quoted (codes "x")) ∷ x)) refl

too_few_arguments : No [] (unused []) "S" (m [])
too_few_arguments = not_so [] (unused []) "S" (m []) refl

-- what names nothing has no tree, though no instance uses it
undefined_argument : No [] (unused (id "Undefined" ∷ [])) "S" (m (Sym.ambiguous_id tt (codes "Undefined") ∷ []))
undefined_argument = not_so [] (unused (id "Undefined" ∷ [])) "S" (m (Sym.ambiguous_id tt (codes "Undefined") ∷ [])) refl

undefined_told_otherwise : No [] (unused (id "Undefined" ∷ [])) "S" (m (Sym.error tt ∷ []))
undefined_told_otherwise = not_so [] (unused (id "Undefined" ∷ [])) "S" (m (Sym.error tt ∷ [])) refl

undefined_inside : No [] (unused (many_of (of_macro "M" (id "Undefined" ∷ [])) ∷ [])) "S" (m (Sym.error tt ∷ []))
undefined_inside = not_so [] (unused (many_of (of_macro "M" (id "Undefined" ∷ [])) ∷ [])) "S" (m (Sym.error tt ∷ [])) refl

arity_inside : No [] (unused (of_macro "M" (lit "x" ∷ lit "x" ∷ []) ∷ [])) "S"
    (m (Sym.macro tt (codes "M") (syms (Sym.terminal tt (Terminal.quoted (codes "x")) ∷ x)) ∷ []))
arity_inside = not_so [] (unused (of_macro "M" (lit "x" ∷ lit "x" ∷ []) ∷ [])) "S"
    (m (Sym.macro tt (codes "M") (syms (Sym.terminal tt (Terminal.quoted (codes "x")) ∷ x)) ∷ [])) refl

macro_without_arguments : No [] (unused (id "M" ∷ [])) "S" (m (Sym.ambiguous_id tt (codes "M") ∷ []))
macro_without_arguments = not_so [] (unused (id "M" ∷ [])) "S" (m (Sym.ambiguous_id tt (codes "M") ∷ [])) refl

call_inside : Yes [] (unused (of_macro "M" (lit "x" ∷ []) ∷ [])) "S" (m (Sym.macro tt (codes "M") (syms x) ∷ []))
call_inside = yes [] (unused (of_macro "M" (lit "x" ∷ []) ∷ [])) "S" (m (Sym.macro tt (codes "M") (syms x) ∷ [])) refl

-- the recovery symbol names no rule, so it may stand where no tree of it is asked for
recovery_argument : Yes [] (unused (Sym.error here ∷ [])) "S" (m (Sym.error tt ∷ []))
recovery_argument = yes [] (unused (Sym.error here ∷ [])) "S" (m (Sym.error tt ∷ [])) refl

-- S = M<"x", "y">; M<T, T> = T
abbrev doubled : Grammar
doubled = grammar (rule_of "S" (alt (of_macro "M" (lit "x" ∷ lit "y" ∷ []) ∷ []) ∷ [])
    ∷ macro_of "M" ("T" ∷ "T" ∷ []) (alt (id "T" ∷ []) ∷ alt (lit "m" ∷ []) ∷ []) ∷ [])

abbrev x_y : List Argument
x_y = Sym.terminal tt (Terminal.quoted (codes "x")) ∷ Sym.terminal tt (Terminal.quoted (codes "y")) ∷ []

-- two parameters of one name stand for neither argument
first_of_two : No [] doubled "S" (nd "S" 0 (instance "M" x_y 0 (tok "x" ∷ []) ∷ []))
first_of_two = not_so [] doubled "S" (nd "S" 0 (instance "M" x_y 0 (tok "x" ∷ []) ∷ [])) refl

second_of_two : No [] doubled "S" (nd "S" 0 (instance "M" x_y 0 (tok "y" ∷ []) ∷ []))
second_of_two = not_so [] doubled "S" (nd "S" 0 (instance "M" x_y 0 (tok "y" ∷ []) ∷ [])) refl

beside_two : Yes [] doubled "S" (nd "S" 0 (instance "M" x_y 1 (tok "m" ∷ []) ∷ []))
beside_two = yes [] doubled "S" (nd "S" 0 (instance "M" x_y 1 (tok "m" ∷ []) ∷ [])) refl

-- S = { E<"all">, E<"some">, E<<"all">> };
-- E<K> = { "n" if K == "all", "o" if K != "all", "p" if K ~~ "^al", "q" if K !~ "^al", "r" if K ~~ "(", "s" if K !~ "(" }
abbrev tests : Grammar
tests = grammar (rule_of "S" (alt (of_macro "E" (lit "all" ∷ []) ∷ []) ∷ alt (of_macro "E" (lit "some" ∷ []) ∷ [])
    ∷ alt (of_macro "E" (chosen (lit "all") ∷ []) ∷ []) ∷ [])
    ∷ macro_of "E" ("K" ∷ []) (on_K ConditionTest.equals "all" (lit "n" ∷ []) ∷ on_K ConditionTest.not_equals "all" (lit "o" ∷ [])
    ∷ on_K ConditionTest.matches "^al" (lit "p" ∷ []) ∷ on_K ConditionTest.not_matches "^al" (lit "q" ∷ [])
    ∷ on_K ConditionTest.matches "(" (lit "r" ∷ []) ∷ on_K ConditionTest.not_matches "(" (lit "s" ∷ []) ∷ []) ∷ [])

abbrev all : List Argument
all = Sym.terminal tt (Terminal.quoted (codes "all")) ∷ []

abbrev some : List Argument
some = Sym.terminal tt (Terminal.quoted (codes "some")) ∷ []

equal_holds : Yes [] tests "S" (nd "S" 0 (instance "E" all 0 (tok "n" ∷ []) ∷ []))
equal_holds = yes [] tests "S" (nd "S" 0 (instance "E" all 0 (tok "n" ∷ []) ∷ [])) refl

equal_fails : No [] tests "S" (nd "S" 1 (instance "E" some 0 (tok "n" ∷ []) ∷ []))
equal_fails = not_so [] tests "S" (nd "S" 1 (instance "E" some 0 (tok "n" ∷ []) ∷ [])) refl

differs_holds : Yes [] tests "S" (nd "S" 1 (instance "E" some 1 (tok "o" ∷ []) ∷ []))
differs_holds = yes [] tests "S" (nd "S" 1 (instance "E" some 1 (tok "o" ∷ []) ∷ [])) refl

differs_fails : No [] tests "S" (nd "S" 0 (instance "E" all 1 (tok "o" ∷ []) ∷ []))
differs_fails = not_so [] tests "S" (nd "S" 0 (instance "E" all 1 (tok "o" ∷ []) ∷ [])) refl

found_holds : Yes [] tests "S" (nd "S" 0 (instance "E" all 2 (tok "p" ∷ []) ∷ []))
found_holds = yes [] tests "S" (nd "S" 0 (instance "E" all 2 (tok "p" ∷ []) ∷ [])) refl

found_fails : No [] tests "S" (nd "S" 1 (instance "E" some 2 (tok "p" ∷ []) ∷ []))
found_fails = not_so [] tests "S" (nd "S" 1 (instance "E" some 2 (tok "p" ∷ []) ∷ [])) refl

missing_holds : Yes [] tests "S" (nd "S" 1 (instance "E" some 3 (tok "q" ∷ []) ∷ []))
missing_holds = yes [] tests "S" (nd "S" 1 (instance "E" some 3 (tok "q" ∷ []) ∷ [])) refl

missing_fails : No [] tests "S" (nd "S" 0 (instance "E" all 3 (tok "q" ∷ []) ∷ []))
missing_fails = not_so [] tests "S" (nd "S" 0 (instance "E" all 3 (tok "q" ∷ []) ∷ [])) refl

-- what can't be read as a pattern is neither found nor missing
unread_found : No [] tests "S" (nd "S" 0 (instance "E" all 4 (tok "r" ∷ []) ∷ []))
unread_found = not_so [] tests "S" (nd "S" 0 (instance "E" all 4 (tok "r" ∷ []) ∷ [])) refl

unread_missing : No [] tests "S" (nd "S" 0 (instance "E" all 5 (tok "s" ∷ []) ∷ []))
unread_missing = not_so [] tests "S" (nd "S" 0 (instance "E" all 5 (tok "s" ∷ []) ∷ [])) refl

-- only a quoted literal is tested: a chosen one is none
chosen_differs : No [] tests "S"
    (nd "S" 2 (instance "E" (Sym.choose tt (Sym.terminal tt (Terminal.quoted (codes "all"))) ∷ []) 1 (tok "o" ∷ []) ∷ []))
chosen_differs = not_so [] tests "S"
    (nd "S" 2 (instance "E" (Sym.choose tt (Sym.terminal tt (Terminal.quoted (codes "all"))) ∷ []) 1 (tok "o" ∷ []) ∷ [])) refl

chosen_equals : No [] tests "S"
    (nd "S" 2 (instance "E" (Sym.choose tt (Sym.terminal tt (Terminal.quoted (codes "all"))) ∷ []) 0 (tok "n" ∷ []) ∷ []))
chosen_equals = not_so [] tests "S"
    (nd "S" 2 (instance "E" (Sym.choose tt (Sym.terminal tt (Terminal.quoted (codes "all"))) ∷ []) 0 (tok "n" ∷ []) ∷ [])) refl

-- S = { "n" if K == "all", "m" }: a condition on no parameter
abbrev no_parameter : Grammar
no_parameter = grammar (rule_of "S" (on_K ConditionTest.equals "all" (lit "n" ∷ []) ∷ alt (lit "m" ∷ []) ∷ []) ∷ [])

condition_on_nothing : No [] no_parameter "S" (nd "S" 0 (tok "n" ∷ []))
condition_on_nothing = not_so [] no_parameter "S" (nd "S" 0 (tok "n" ∷ [])) refl

-- S = { E<"x">, E<"y"> }; E<K> = { L1 "n" if K == "x", L2 none "-" E<K>, L3 "m" }
abbrev emptied : Grammar
emptied = grammar (rule_of "S" (alt (of_macro "E" (lit "x" ∷ []) ∷ []) ∷ alt (of_macro "E" (lit "y" ∷ []) ∷ []) ∷ [])
    ∷ macro_of "E" ("K" ∷ []) (
    if_so (level "1" ∷ []) (Some (record { place = here; parameter = codes "K"; test = ConditionTest.equals; against = codes "x" }))
    (lit "n" ∷ [])
    ∷ with (level "2" ∷ side "none" ∷ []) (lit "-" ∷ of_macro "E" (id "K" ∷ []) ∷ [])
    ∷ with (level "3" ∷ []) (lit "m" ∷ []) ∷ []) ∷ [])

abbrev y : List Argument
y = Sym.terminal tt (Terminal.quoted (codes "y")) ∷ []

level_there : Yes [] emptied "S" (nd "S" 0 (instance "E" x 1 (tok "-" ∷ instance "E" x 0 (tok "n" ∷ []) ∷ []) ∷ []))
level_there = yes [] emptied "S" (nd "S" 0 (instance "E" x 1 (tok "-" ∷ instance "E" x 0 (tok "n" ∷ []) ∷ []) ∷ [])) refl

level_beside : Yes [] emptied "S" (nd "S" 1 (instance "E" y 2 (tok "m" ∷ []) ∷ []))
level_beside = yes [] emptied "S" (nd "S" 1 (instance "E" y 2 (tok "m" ∷ []) ∷ [])) refl

level_emptied : No [] emptied "S" (nd "S" 1 (instance "E" y 0 (tok "n" ∷ []) ∷ []))
level_emptied = not_so [] emptied "S" (nd "S" 1 (instance "E" y 0 (tok "n" ∷ []) ∷ [])) refl

-- a level that conditions emptied is present: the one above it isn't the tightest
above_emptied : No [] emptied "S" (nd "S" 1 (instance "E" y 1 (tok "-" ∷ instance "E" y 2 (tok "m" ∷ []) ∷ []) ∷ []))
above_emptied = not_so [] emptied "S" (nd "S" 1 (instance "E" y 1 (tok "-" ∷ instance "E" y 2 (tok "m" ∷ []) ∷ []) ∷ [])) refl
