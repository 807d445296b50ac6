-- Computed examples of levels and sides: trees that are admitted, and near misses that aren't.
use Rattle.std.proofs.Common.{List, [], ◌∷◌, refl}
use Rattle.std.specs.Prelude.{codes}
use Rattle.lalrpop_grammar_symbols.specs.Symbols.{Argument, syms, Terminal, Sym}
use Rattle.lalrpop_grammar.specs.WrittenGrammar.{Grammar}
use Rattle.lalrpop_grammar.specs.Trees.{Tree}
use Rattle.lalrpop_grammar_language.proofs.WrittenTreeLemmas.{lit, id, of_macro, level, side, feature, cfg, with, alt, rule_of, macro_of}
use Rattle.lalrpop_grammar_language.proofs.WrittenTreeLemmas.{grammar, nd, instance, tok, Yes, No, yes, not_so}

abbrev n : Tree
n = nd "E" 0 (tok "n" ∷ [])

-- E = { L1 "n", L2 left E "*" E, L3 left E "+" E }
abbrev sums : Grammar
sums = grammar (rule_of "E" (
    with (level "1" ∷ []) (lit "n" ∷ [])
    ∷ with (level "2" ∷ side "left" ∷ []) (id "E" ∷ lit "*" ∷ id "E" ∷ [])
    ∷ with (level "3" ∷ side "left" ∷ []) (id "E" ∷ lit "+" ∷ id "E" ∷ []) ∷ []) ∷ [])

abbrev times : Tree → Tree → Tree
times a b = nd "E" 1 (a ∷ tok "*" ∷ b ∷ [])

abbrev plus : Tree → Tree → Tree
plus a b = nd "E" 2 (a ∷ tok "+" ∷ b ∷ [])

product_in_sum : Yes [] sums "E" (plus n (times n n))
product_in_sum = yes [] sums "E" (plus n (times n n)) refl

-- a sum is too loose for either side of a product
sum_in_product : No [] sums "E" (times (plus n n) n)
sum_in_product = not_so [] sums "E" (times (plus n n) n) refl

to_the_left : Yes [] sums "E" (plus (plus n n) n)
to_the_left = yes [] sums "E" (plus (plus n n) n) refl

-- a sum is too loose for the right side of a sum
to_the_right : No [] sums "E" (plus n (plus n n))
to_the_right = not_so [] sums "E" (plus n (plus n n)) refl

-- E = { L1 "n", L2 right E "?" E ":" E }
abbrev choices : Grammar
choices = grammar (rule_of "E" (
    with (level "1" ∷ []) (lit "n" ∷ [])
    ∷ with (level "2" ∷ side "right" ∷ []) (id "E" ∷ lit "?" ∷ id "E" ∷ lit ":" ∷ id "E" ∷ []) ∷ []) ∷ [])

abbrev choose : Tree → Tree → Tree → Tree
choose a b c = nd "E" 1 (a ∷ tok "?" ∷ b ∷ tok ":" ∷ c ∷ [])

-- only the last occurrence may have the level itself
last_of_three : Yes [] choices "E" (choose n n (choose n n n))
last_of_three = yes [] choices "E" (choose n n (choose n n n)) refl

middle_of_three : No [] choices "E" (choose n (choose n n n) n)
middle_of_three = not_so [] choices "E" (choose n (choose n n n) n) refl

-- E = { L1 "n", L2 right E "-" M<E> }; M<T> = T "x"
abbrev calls : Grammar
calls = grammar (rule_of "E" (
    with (level "1" ∷ []) (lit "n" ∷ [])
    ∷ with (level "2" ∷ side "right" ∷ []) (id "E" ∷ lit "-" ∷ of_macro "M" (id "E" ∷ []) ∷ []) ∷ [])
    ∷ macro_of "M" ("T" ∷ []) (alt (id "T" ∷ lit "x" ∷ []) ∷ []) ∷ [])

abbrev minus : Tree → Tree → Tree
minus a b = nd "E" 1 (a ∷ tok "-" ∷ instance "M" (Sym.ambiguous_id tt (codes "E") ∷ []) 0 (b ∷ tok "x" ∷ []) ∷ [])

-- the last occurrence stands among the arguments
last_in_arguments : Yes [] calls "E" (minus n (minus n n))
last_in_arguments = yes [] calls "E" (minus n (minus n n)) refl

first_before_arguments : No [] calls "E" (minus (minus n n) n)
first_before_arguments = not_so [] calls "E" (minus (minus n n) n) refl

-- E<K> = { L1 "n", L2 right E<K> "-" E<K> }; S = E<"k">
abbrev macro_levels : Grammar
macro_levels = grammar (
    macro_of "E" ("K" ∷ []) (
    with (level "1" ∷ []) (lit "n" ∷ [])
    ∷ with (level "2" ∷ side "right" ∷ []) (of_macro "E" (id "K" ∷ []) ∷ lit "-" ∷ of_macro "E" (id "K" ∷ []) ∷ []) ∷ [])
    ∷ rule_of "S" (alt (of_macro "E" (lit "k" ∷ []) ∷ []) ∷ []) ∷ [])

abbrev k : List Argument
k = Sym.terminal tt (Terminal.quoted (codes "k")) ∷ []

abbrev one : Tree
one = instance "E" k 0 (tok "n" ∷ [])

abbrev two : Tree → Tree → Tree
two a b = instance "E" k 1 (a ∷ tok "-" ∷ b ∷ [])

macro_to_the_right : Yes [] macro_levels "S" (nd "S" 0 (two one (two one one) ∷ []))
macro_to_the_right = yes [] macro_levels "S" (nd "S" 0 (two one (two one one) ∷ [])) refl

macro_to_the_left : No [] macro_levels "S" (nd "S" 0 (two (two one one) one ∷ []))
macro_to_the_left = not_so [] macro_levels "S" (nd "S" 0 (two (two one one) one ∷ [])) refl

-- E<T> = { L1 "n", L2 left E<E<T>> "-" T }; S = E<"k">
abbrev called_in_call : Grammar
called_in_call = grammar (
    macro_of "E" ("T" ∷ []) (
    with (level "1" ∷ []) (lit "n" ∷ [])
    ∷ with (level "2" ∷ side "left" ∷ []) (of_macro "E" (of_macro "E" (id "T" ∷ []) ∷ []) ∷ lit "-" ∷ id "T" ∷ []) ∷ [])
    ∷ rule_of "S" (alt (of_macro "E" (lit "k" ∷ []) ∷ []) ∷ []) ∷ [])

abbrev e_of : List Argument → List Argument
e_of args = Sym.macro tt (codes "E") (syms args) ∷ []

abbrev outer : Tree → Tree
outer a = nd "S" 0 (instance "E" k 1
    (instance "E" (e_of k) 1 (instance "E" (e_of (e_of k)) 0 (tok "n" ∷ []) ∷ tok "-" ∷ a ∷ []) ∷ tok "-" ∷ tok "k" ∷ []) ∷
    [])

-- a call is counted before its arguments: it has the level itself, and the call in it the tighter one
call_first : Yes [] called_in_call "S" (outer one)
call_first = yes [] called_in_call "S" (outer one) refl

argument_second : No [] called_in_call "S"
    (outer (instance "E" k 1 (instance "E" (e_of k) 0 (tok "n" ∷ []) ∷ tok "-" ∷ tok "k" ∷ [])))
argument_second =
    not_so [] called_in_call "S" (outer (instance "E" k 1 (instance "E" (e_of k) 0 (tok "n" ∷ []) ∷ tok "-" ∷ tok "k" ∷ []))) refl

-- E = { L1 "n", L2 none E "=" E, L3 E "," E }
abbrev sides : Grammar
sides = grammar (rule_of "E" (
    with (level "1" ∷ []) (lit "n" ∷ [])
    ∷ with (level "2" ∷ side "none" ∷ []) (id "E" ∷ lit "=" ∷ id "E" ∷ [])
    ∷ with (level "3" ∷ []) (id "E" ∷ lit "," ∷ id "E" ∷ []) ∷ []) ∷ [])

abbrev equals : Tree → Tree → Tree
equals a b = nd "E" 1 (a ∷ tok "=" ∷ b ∷ [])

abbrev comma : Tree → Tree → Tree
comma a b = nd "E" 2 (a ∷ tok "," ∷ b ∷ [])

none_alone : Yes [] sides "E" (equals n n)
none_alone = yes [] sides "E" (equals n n) refl

none_to_the_left : No [] sides "E" (equals (equals n n) n)
none_to_the_left = not_so [] sides "E" (equals (equals n n) n) refl

none_to_the_right : No [] sides "E" (equals n (equals n n))
none_to_the_right = not_so [] sides "E" (equals n (equals n n)) refl

-- a new level gives itself to each occurrence
all_to_the_left : Yes [] sides "E" (comma (comma n n) (equals n n))
all_to_the_left = yes [] sides "E" (comma (comma n n) (equals n n)) refl

all_to_the_right : Yes [] sides "E" (comma (equals n n) (comma n n))
all_to_the_right = yes [] sides "E" (comma (equals n n) (comma n n)) refl

looser_than_all : No [] sides "E" (equals (comma n n) n)
looser_than_all = not_so [] sides "E" (equals (comma n n) n) refl

-- E = { L1 "n", L2 left E "*" E, E "/" E, L2 E "%" E, right E "^" E, all E "&" E }
abbrev lasting : Grammar
lasting = grammar (rule_of "E" (
    with (level "1" ∷ []) (lit "n" ∷ [])
    ∷ with (level "2" ∷ side "left" ∷ []) (id "E" ∷ lit "*" ∷ id "E" ∷ [])
    ∷ with [] (id "E" ∷ lit "/" ∷ id "E" ∷ [])
    ∷ with (level "2" ∷ []) (id "E" ∷ lit "%" ∷ id "E" ∷ [])
    ∷ with (side "right" ∷ []) (id "E" ∷ lit "^" ∷ id "E" ∷ [])
    ∷ with (side "all" ∷ []) (id "E" ∷ lit "&" ∷ id "E" ∷ []) ∷ []) ∷ [])

abbrev divide : Tree → Tree → Tree
divide a b = nd "E" 2 (a ∷ tok "/" ∷ b ∷ [])

abbrev modulo : Tree → Tree → Tree
modulo a b = nd "E" 3 (a ∷ tok "%" ∷ b ∷ [])

abbrev power : Tree → Tree → Tree
power a b = nd "E" 4 (a ∷ tok "^" ∷ b ∷ [])

abbrev amp : Tree → Tree → Tree
amp a b = nd "E" 5 (a ∷ tok "&" ∷ b ∷ [])

-- an alternative without a level or side takes those before it
side_lasts : No [] lasting "E" (divide n (divide n n))
side_lasts = not_so [] lasting "E" (divide n (divide n n)) refl

level_lasts : Yes [] lasting "E" (divide (times n n) n)
level_lasts = yes [] lasting "E" (divide (times n n) n) refl

-- a level written once more ends the side
level_ends_side : Yes [] lasting "E" (modulo n (divide n n))
level_ends_side = yes [] lasting "E" (modulo n (divide n n)) refl

side_ends_side : No [] lasting "E" (power (modulo n n) n)
side_ends_side = not_so [] lasting "E" (power (modulo n n) n) refl

written_all : Yes [] lasting "E" (amp (power n n) (power n n))
written_all = yes [] lasting "E" (amp (power n n) (power n n)) refl

-- E = { L1 none "n" (without effect), "(" E ")", L2 left E "+" E }
abbrev tightest : Grammar
tightest = grammar (rule_of "E" (
    with (level "1" ∷ side "none" ∷ []) (lit "n" ∷ [])
    ∷ with [] (lit "(" ∷ id "E" ∷ lit ")" ∷ [])
    ∷ with (level "2" ∷ side "left" ∷ []) (id "E" ∷ lit "+" ∷ id "E" ∷ []) ∷ []) ∷ [])

-- at the tightest level an occurrence means the whole rule, whatever the side says
whole_rule : Yes [] tightest "E" (nd "E" 1 (tok "(" ∷ plus n n ∷ tok ")" ∷ []))
whole_rule = yes [] tightest "E" (nd "E" 1 (tok "(" ∷ plus n n ∷ tok ")" ∷ [])) refl

-- E = { L1 "n", L5 E "!" }, written with leading zeros
abbrev gap : Grammar
gap = grammar (rule_of "E" (
    with (level "001" ∷ []) (lit "n" ∷ []) ∷ with (level "4294967295" ∷ side "none" ∷ []) (id "E" ∷ lit "!" ∷ []) ∷ []) ∷
    [])

abbrev bang : Tree → Tree
bang a = nd "E" 1 (a ∷ tok "!" ∷ [])

-- the next tighter level is the next one present
over_a_gap : Yes [] gap "E" (bang n)
over_a_gap = yes [] gap "E" (bang n) refl

twice_over_a_gap : No [] gap "E" (bang (bang n))
twice_over_a_gap = not_so [] gap "E" (bang (bang n)) refl

-- E = { "n", L1 "m", L+2 "o", "p", L4294967296 "q" }
abbrev unreadable : Grammar
unreadable = grammar (rule_of "E" (
    with [] (lit "n" ∷ []) ∷ with (level "1" ∷ []) (lit "m" ∷ []) ∷ with (level "+2" ∷ []) (lit "o" ∷ [])
    ∷ with [] (lit "p" ∷ []) ∷ with (level "4294967296" ∷ []) (lit "q" ∷ []) ∷ []) ∷ [])

readable : Yes [] unreadable "E" (nd "E" 1 (tok "m" ∷ []))
readable = yes [] unreadable "E" (nd "E" 1 (tok "m" ∷ [])) refl

-- without a level in a rule with levels an alternative fits nowhere
first_without_level : No [] unreadable "E" n
first_without_level = not_so [] unreadable "E" n refl

sign_in_level : No [] unreadable "E" (nd "E" 2 (tok "o" ∷ []))
sign_in_level = not_so [] unreadable "E" (nd "E" 2 (tok "o" ∷ [])) refl

after_no_level : No [] unreadable "E" (nd "E" 3 (tok "p" ∷ []))
after_no_level = not_so [] unreadable "E" (nd "E" 3 (tok "p" ∷ [])) refl

level_too_great : No [] unreadable "E" (nd "E" 4 (tok "q" ∷ []))
level_too_great = not_so [] unreadable "E" (nd "E" 4 (tok "q" ∷ [])) refl

-- E = { L "n" }
abbrev no_level : Grammar
no_level = grammar (rule_of "E" (with (level "" ∷ []) (lit "n" ∷ []) ∷ []) ∷ [])

-- also where no alternative has one
empty_level : No [] no_level "E" n
empty_level = not_so [] no_level "E" n refl

-- E = { L1 "n", L2 odd E "=" E }
abbrev odd_side : Grammar
odd_side = grammar (rule_of "E" (
    with (level "1" ∷ []) (lit "n" ∷ []) ∷ with (level "2" ∷ side "odd" ∷ []) (id "E" ∷ lit "=" ∷ id "E" ∷ []) ∷ []) ∷
    [])

-- an unknown side gives the level to no one
unknown_side : Yes [] odd_side "E" (equals n n)
unknown_side = yes [] odd_side "E" (equals n n) refl

unknown_side_left : No [] odd_side "E" (equals (equals n n) n)
unknown_side_left = not_so [] odd_side "E" (equals (equals n n) n) refl

unknown_side_right : No [] odd_side "E" (equals n (equals n n))
unknown_side_right = not_so [] odd_side "E" (equals n (equals n n)) refl

-- E = { L1 "n", cfg(feature = "x") L2 left E "*" E, E "+" E }
abbrev switched : Grammar
switched = grammar (rule_of "E" (
    with (level "1" ∷ []) (lit "n" ∷ [])
    ∷ with (cfg (feature "x") ∷ level "2" ∷ side "left" ∷ []) (id "E" ∷ lit "*" ∷ id "E" ∷ [])
    ∷ with [] (id "E" ∷ lit "+" ∷ id "E" ∷ []) ∷ []) ∷ [])

-- the level before it is that of the enabled alternative before it
after_enabled : No ("x" ∷ []) switched "E" (plus n (plus n n))
after_enabled = not_so ("x" ∷ []) switched "E" (plus n (plus n n)) refl

after_disabled : Yes [] switched "E" (plus n (plus n n))
after_disabled = yes [] switched "E" (plus n (plus n n)) refl

-- E = { none E "=" E, "n" }: sides without levels
abbrev no_levels : Grammar
no_levels = grammar (rule_of "E" (with [] (lit "n" ∷ []) ∷ with (side "none" ∷ []) (id "E" ∷ lit "=" ∷ id "E" ∷ []) ∷ []) ∷
    [])

-- a side has no effect in a rule without levels
side_alone : Yes [] no_levels "E" (equals (equals n n) (equals n n))
side_alone = yes [] no_levels "E" (equals (equals n n) (equals n n)) refl
