-- Computed examples of the productions of an expansion, and lists that are refused.
use Prim.Native.String.{String}
use Rattle.std.proofs.Common.{◌≡◌, ℕ, zero, suc, ◌<◌, List, [], ◌∷◌, ◌++◌, refl, inl, inr, arith}
use Rattle.std.specs.Prelude.{Option, Some, None, codes, slice_get}
use Rattle.std.specs.Fmt.{digits}
use Rattle.lalrpop_grammar_symbols.specs.Texts.{escape_byte}
use Rattle.lalrpop_grammar_symbols.specs.Symbols.{Text, Closed, Closeds, Terminal, Op, Sym, Argument}
use Rattle.lalrpop_grammar.specs.WrittenGrammar.{Origin}
use Rattle.lalrpop_grammar_language.specs.Enabled.{EnabledGrammar, enabled_grammar}
use Rattle.lalrpop_grammar_language.specs.Expansion.{GrammarSymbol, Nonterminal, InExpansion, IsWrittenProduction, WrittenLabel}
use Rattle.lalrpop_grammar_language.proofs.WrittenTreeLemmas.{lit, id, of_macro, many_of, maybe, level, side, with, alt, rule_of}
use Rattle.lalrpop_grammar_language.proofs.WrittenTreeLemmas.{macro_of, grammar, finds}
use Rattle.lalrpop_norm_theory.specs.Keys.{leveled_key_text}
use Rattle.lalrpop_norm_theory.specs.Productions.{NamedProduction, IsOriginBefore, AreProductions}
use Rattle.lalrpop_norm_theory.proofs.ExpansionListLemmas.{reached-in}
use Rattle.lalrpop_norm_theory.proofs.ProductionListLemmas.{is_production}
use Rattle.lalrpop_norm_theory.proofs.RowListLemmas.{expansion_productions}

-- the names of keys are their texts here, as no two have one
abbrev text_name : EnabledGrammar → Nonterminal → Text
text_name g (Nonterminal.start n) = codes "__" ++ n
text_name g (Nonterminal.closed x) = leveled_key_text g x

abbrev word : String → GrammarSymbol Text
word s = GrammarSymbol.terminal (Terminal.quoted (codes s))

abbrev nt : String → GrammarSymbol Text
nt s = GrammarSymbol.nonterminal (codes s)

abbrev production : String → List (GrammarSymbol Text) → ℕ → NamedProduction
production n symbols action = record { nonterminal = codes n; symbols = symbols; action = action }

abbrev a : Closed
a = Closed.terminal (Terminal.quoted (codes "a"))

abbrev rule_named : String → Option ℕ → Nonterminal
rule_named n l = Nonterminal.closed (Closed.call (codes n) Closeds.none l)

-- L = "a"*
abbrev list : EnabledGrammar
list = enabled_grammar finds [] (grammar (rule_of "L" (alt (many_of (lit "a") ∷ []) ∷ []) ∷ []))

abbrev list_nonterminals : List Nonterminal
list_nonterminals = Nonterminal.start (codes "L") ∷ rule_named "L" None ∷ Nonterminal.closed (Closed.repeat Op.star a)
    ∷ Nonterminal.closed (Closed.repeat Op.plus a) ∷ []

abbrev list_productions : List NamedProduction
list_productions = production "__L" (nt "L" ∷ []) 0 ∷ production "L" (nt "\"a\"*" ∷ []) 1 ∷ production "\"a\"*" [] 2
    ∷ production "\"a\"*" (nt "\"a\"+" ∷ []) 3 ∷ production "\"a\"+" (word "a" ∷ []) 4
    ∷ production "\"a\"+" (nt "\"a\"+" ∷ word "a" ∷ []) 5 ∷ []

abbrev list_origins : List Origin
list_origins = Origin.start ∷ Origin.alternative (codes "L") [] 0 ∷ Origin.star_none ∷ Origin.star_some ∷ Origin.plus_one
    ∷ Origin.plus_more ∷ []

-- six productions with six actions
six : AreProductions list (text_name list) list_productions list_origins
unfolding digits escape_byte
six = expansion_productions list 2 list_nonterminals (text_name list) refl refl refl

-- E = { L1 Num, L2 left E "*" E, L3 left E "+" E }; Num = "n"
abbrev sums : EnabledGrammar
sums = enabled_grammar finds [] (grammar (rule_of "E" (with (level "1" ∷ []) (id "Num" ∷ [])
    ∷ with (level "2" ∷ side "left" ∷ []) (id "E" ∷ lit "*" ∷ id "E" ∷ [])
    ∷ with (level "3" ∷ side "left" ∷ []) (id "E" ∷ lit "+" ∷ id "E" ∷ []) ∷ [])
    ∷ rule_of "Num" (alt (lit "n" ∷ []) ∷ []) ∷ []))

abbrev sums_nonterminals : List Nonterminal
sums_nonterminals = Nonterminal.start (codes "E") ∷ Nonterminal.start (codes "Num") ∷ rule_named "E" (Some 3)
    ∷ rule_named "E" (Some 2)
    ∷ rule_named "E" (Some 1) ∷ rule_named "Num" None ∷ []

abbrev sums_productions : List NamedProduction
sums_productions = production "__E" (nt "E" ∷ []) 0 ∷ production "__Num" (nt "Num" ∷ []) 1
    ∷ production "E" (nt "E" ∷ word "+" ∷ nt "E2" ∷ []) 2 ∷ production "E" (nt "E2" ∷ []) 3
    ∷ production "E2" (nt "E2" ∷ word "*" ∷ nt "E1" ∷ []) 4 ∷ production "E2" (nt "E1" ∷ []) 5
    ∷ production "E1" (nt "Num" ∷ []) 6
    ∷ production "Num" (word "n" ∷ []) 7 ∷ []

abbrev sums_origins : List Origin
sums_origins = Origin.start ∷ Origin.start ∷ Origin.alternative (codes "E") [] 2 ∷ Origin.pass_down
    ∷ Origin.alternative (codes "E") [] 1
    ∷ Origin.pass_down ∷ Origin.alternative (codes "E") [] 0 ∷ Origin.alternative (codes "Num") [] 0 ∷ []

-- levels pass down behind their alternatives
levels_pass_down : AreProductions sums (text_name sums) sums_productions sums_origins
unfolding digits escape_byte
levels_pass_down = expansion_productions sums 3 sums_nonterminals (text_name sums) refl refl refl

-- S = M<"a">; M<T> = { T, T }: an instance's origins tell its arguments
abbrev instances : EnabledGrammar
instances = enabled_grammar finds [] (grammar (rule_of "S" (alt (of_macro "M" (lit "a" ∷ []) ∷ []) ∷ [])
    ∷ macro_of "M" ("T" ∷ []) (alt (id "T" ∷ []) ∷ alt (id "T" ∷ []) ∷ []) ∷ []))

abbrev quoted_a : List Argument
quoted_a = Sym.terminal tt (Terminal.quoted (codes "a")) ∷ []

equal_symbols : AreProductions instances (text_name instances)
    (production "__S" (nt "S" ∷ []) 0 ∷ production "S" (nt "M<\"a\">" ∷ []) 1 ∷ production "M<\"a\">" (word "a" ∷ []) 2
    ∷ production "M<\"a\">" (word "a" ∷ []) 3 ∷ [])
    (Origin.start ∷ Origin.alternative (codes "S") [] 0 ∷ Origin.alternative (codes "M") quoted_a 0
    ∷ Origin.alternative (codes "M") quoted_a 1 ∷ [])
unfolding digits escape_byte
equal_symbols = expansion_productions instances 2 (Nonterminal.start (codes "S") ∷ rule_named "S" None
    ∷ Nonterminal.closed (Closed.call (codes "M") (Closeds.more a Closeds.none) None) ∷ []) (text_name instances) refl refl refl

-- S = { "a", "a" }
abbrev alike : EnabledGrammar
alike = enabled_grammar finds [] (grammar (rule_of "S" (alt (lit "a" ∷ []) ∷ alt (lit "a" ∷ []) ∷ []) ∷ []))

two_alike : AreProductions alike (text_name alike)
    (production "__S" (nt "S" ∷ []) 0 ∷ production "S" (word "a" ∷ []) 1 ∷ production "S" (word "a" ∷ []) 2 ∷ [])
    (Origin.start ∷ Origin.alternative (codes "S") [] 0 ∷ Origin.alternative (codes "S") [] 1 ∷ [])
unfolding digits escape_byte
two_alike = expansion_productions alike 1 (Nonterminal.start (codes "S") ∷ rule_named "S" None ∷ []) (text_name alike) refl refl refl

-- one production for both is refused, under any names and actions
merged_refused : (name_of : Nonterminal → Text) (p q : NamedProduction) → AreProductions alike name_of (p ∷ q ∷ [])
    (Origin.start ∷ Origin.alternative (codes "S") [] 0 ∷ []) → ⊥
merged_refused name_of p q w =
    let label : WrittenLabel = record { head = rule_named "S" None; choice = Origin.alternative (codes "S") [] 1 } in
    let there : InExpansion alike (rule_named "S" None) = reached-in alike 0 (rule_named "S" None) (inr (inl refl)) in
    let made : IsWrittenProduction alike label (GrammarSymbol.terminal (Terminal.quoted (codes "a")) ∷ []) =
    is_production alike (rule_named "S" None) (Origin.alternative (codes "S") [] 1)
    (GrammarSymbol.terminal (Terminal.quoted (codes "a")) ∷ []) (inr (inl refl)) in
    let e = w.every label (GrammarSymbol.terminal (Terminal.quoted (codes "a")) ∷ []) there made in
    no_such e.1.action e.3.origin_is
  where
    no_such : (k : ℕ) → slice_get (Origin.start ∷ Origin.alternative (codes "S") [] 0 ∷ []) k
        ≡ Some (Origin.alternative (codes "S") [] 1) → ⊥
    no_such zero e = cc
    no_such (suc zero) e = let f : ◌≡◌ {A = ℕ} 0 1 = cc in omega (arith, f)
    no_such (suc (suc k)) e = cc

-- two productions with one action are refused
shared_refused : AreProductions alike (text_name alike)
    (production "__S" (nt "S" ∷ []) 0 ∷ production "S" (word "a" ∷ []) 1 ∷ production "S" (word "a" ∷ []) 1 ∷ [])
    (Origin.start ∷ Origin.alternative (codes "S") [] 0 ∷ Origin.alternative (codes "S") [] 1 ∷ []) → ⊥
shared_refused w =
    let e : ◌≡◌ {A = ℕ} 1 2 =
    w.own_action 1 2 (production "S" (word "a" ∷ []) 1) (production "S" (word "a" ∷ []) 1) refl refl refl in
    omega (arith, e)

-- an action whose place is before that of an earlier alternative's is refused
turned_refused : (name_of : Nonterminal → Text) → AreProductions alike name_of
    (production "__S" (nt "S" ∷ []) 0 ∷ production "S" (word "a" ∷ []) 2 ∷ production "S" (word "a" ∷ []) 1 ∷ [])
    (Origin.start ∷ Origin.alternative (codes "S") [] 1 ∷ Origin.alternative (codes "S") [] 0 ∷ []) → ⊥
turned_refused name_of w =
    let e = w.in_order 1 2 (production "S" (word "a" ∷ []) 2) (production "S" (word "a" ∷ []) 1) (omega arith) refl refl refl in
    let f : 2 < 1 = e.actions in omega (arith, f)

-- `X?` is `X` first, then nothing; the other way round is refused
-- S = "a"?
abbrev option : EnabledGrammar
option = enabled_grammar finds [] (grammar (rule_of "S" (alt (maybe (lit "a") ∷ []) ∷ []) ∷ []))

some_first : AreProductions option (text_name option)
    (production "__S" (nt "S" ∷ []) 0 ∷ production "S" (nt "\"a\"?" ∷ []) 1 ∷ production "\"a\"?" (word "a" ∷ []) 2
    ∷ production "\"a\"?" [] 3 ∷ [])
    (Origin.start ∷ Origin.alternative (codes "S") [] 0 ∷ Origin.opt_some ∷ Origin.opt_none ∷ [])
unfolding digits escape_byte
some_first = expansion_productions option 2 (Nonterminal.start (codes "S") ∷ rule_named "S" None
    ∷ Nonterminal.closed (Closed.repeat Op.question a) ∷ []) (text_name option) refl refl refl

none_first_refused : AreProductions option (text_name option)
    (production "__S" (nt "S" ∷ []) 0 ∷ production "S" (nt "\"a\"?" ∷ []) 1 ∷ production "\"a\"?" [] 2
    ∷ production "\"a\"?" (word "a" ∷ []) 3 ∷ [])
    (Origin.start ∷ Origin.alternative (codes "S") [] 0 ∷ Origin.opt_none ∷ Origin.opt_some ∷ []) → ⊥
none_first_refused w =
    let e = w.in_order 2 3 (production "\"a\"?" [] 2) (production "\"a\"?" (word "a" ∷ []) 3) (omega arith) refl refl refl in
    e.choices Origin.opt_none Origin.opt_some refl refl

-- an origin that is no production's is refused
idle_origin_refused : (name_of : Nonterminal → Text) → AreProductions alike name_of
    (production "__S" (nt "S" ∷ []) 0 ∷ production "S" (word "a" ∷ []) 1 ∷ production "S" (word "a" ∷ []) 2 ∷ [])
    (Origin.start ∷ Origin.alternative (codes "S") [] 0 ∷ Origin.alternative (codes "S") [] 1 ∷ Origin.start ∷ []) → ⊥
idle_origin_refused name_of w = let e : ◌≡◌ {A = ℕ} 4 3 = w.no_other_origin in omega (arith, e)

-- within a nonterminal a pass-down comes behind each alternative
pass_down_last : (n : Text) (args : List Argument) (place : ℕ) → IsOriginBefore Origin.pass_down (Origin.alternative n args place) →
    ⊥
pass_down_last n args place h = h
