-- Computed examples of symbols whose occurrences are renamed by levels.
use Prim.Native.String.{String}
use Rattle.std.proofs.Common.{◌≡◌, ℕ, [], ◌∷◌, refl}
use Rattle.std.specs.Prelude.{Option, Some, None, codes, ◌==◌, if◌then◌else◌}
use Rattle.lalrpop_grammar_symbols.specs.Symbols.{Text, Closed, Closeds, Terminal, WrittenSymbol, Sym}
use Rattle.lalrpop_grammar_language.specs.Enabled.{EnabledGrammar, enabled_grammar}
use Rattle.lalrpop_grammar_language.specs.Closing.{Scope}
use Rattle.lalrpop_grammar_language.proofs.WrittenTreeLemmas.{here, lit, id, of_macro, some_of, level, side, with, rule_of, macro_of}
use Rattle.lalrpop_grammar_language.proofs.WrittenTreeLemmas.{grammar, finds}
use Rattle.lalrpop_norm_theory.specs.LevelRules.{by_level_names, rename_listed_occurrences}

-- level 2 is called as the rule; level 1 as given
abbrev level_1_is : String → Text → ℕ → Text
level_1_is s n l = if l == 1 then codes s else n

-- the first of two occurrences may have level 2, the second level 1
abbrev left_at_2 : ℕ → Option ℕ
left_at_2 k = if k == 0 then Some 2 else Some 1

abbrev nonterminal : String → WrittenSymbol
nonterminal n = Sym.nonterminal here (codes n)

-- E = { L1 "n", L2 left E+ "+" E }, resolved
abbrev sums : EnabledGrammar
sums = enabled_grammar finds [] (grammar (rule_of "E" (with (level "1" ∷ []) (lit "n" ∷ [])
    ∷ with (level "2" ∷ side "left" ∷ []) (some_of (nonterminal "E") ∷ lit "+" ∷ nonterminal "E" ∷ []) ∷ []) ∷ []))

abbrev in_E : Scope
in_E = record { grammar = sums; binding = []; owner = codes "E"; level_at = left_at_2 }

first_keeps_level : rename_listed_occurrences (level_1_is "E1") in_E 0 (some_of (nonterminal "E") ∷ lit "+" ∷ nonterminal "E" ∷ [])
    ≡ some_of (nonterminal "E") ∷ lit "+" ∷ nonterminal "E1" ∷ []
first_keeps_level = refl

-- E<E1> = { L1 E1, L2 left E<E1> "+" E<E1> }: the level's macro has another name than the parameter, which stays
abbrev macros : EnabledGrammar
macros = enabled_grammar finds [] (grammar (macro_of "E" ("E1" ∷ []) (with (level "1" ∷ []) (id "E1" ∷ [])
    ∷ with (level "2" ∷ side "left" ∷ []) (of_macro "E" (id "E1" ∷ []) ∷ lit "+" ∷ of_macro "E" (id "E1" ∷ []) ∷ [])
    ∷ []) ∷ []))

abbrev a : Closed
a = Closed.terminal (Terminal.quoted (codes "a"))

abbrev in_macro : Scope
in_macro = record { grammar = macros; binding = (codes "E1", a) ∷ []; owner = codes "E"; level_at = left_at_2 }

parameter_stays : rename_listed_occurrences (level_1_is "E1~2") in_macro 0
    (of_macro "E" (id "E1" ∷ []) ∷ lit "+" ∷ of_macro "E" (id "E1" ∷ []) ∷ [])
    ≡ of_macro "E" (id "E1" ∷ []) ∷ lit "+" ∷ of_macro "E1~2" (id "E1" ∷ []) ∷ []
parameter_stays = refl

-- a closed call of level 1 becomes one of that macro, its arguments too
call_renamed : by_level_names (level_1_is "E1~2") (Closed.call (codes "E") (Closeds.more a Closeds.none) (Some 1))
    ≡ Closed.call (codes "E1~2") (Closeds.more a Closeds.none) None
call_renamed = refl
