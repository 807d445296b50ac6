-- Computed examples of the texts and the names of keys, and names that are refused.
use Prim.Native.String.{String}
use Rattle.std.specs.Fmt.{digits}
use Rattle.std.proofs.Common.{◌≡◌, ◌≢◌, ℕ, List, [], ◌∷◌, refl, ap, sym, ◌∙◌, cond, Bool, inl, inr, arith}
use Rattle.std.specs.Prelude.{Option, Some, None, codes, map, false, true}
use Rattle.std.proofs.lemmas.Bool.{true≢false}
use Rattle.lalrpop_grammar_symbols.specs.Symbols.{Text, Closed, Closeds, Terminal, Sym, Op}
use Rattle.lalrpop_grammar_symbols.specs.Texts.{escape_byte}
use Rattle.lalrpop_grammar.specs.WrittenGrammar.{Alternative, WrittenItem}
use Rattle.lalrpop_grammar_language.specs.Enabled.{EnabledGrammar, enabled_grammar}
use Rattle.lalrpop_grammar_language.specs.Expansion.{Nonterminal}
use Rattle.lalrpop_grammar_language.proofs.WrittenTreeLemmas.{here, lit, id, of_macro, in_group, many_of, maybe, level, side, with, alt}
use Rattle.lalrpop_grammar_language.proofs.WrittenTreeLemmas.{rule_of, texts, grammar, finds}
use Rattle.lalrpop_norm_theory.specs.Keys.{leveled_key_text, flat_key_text, with_number, IsNextNumber, IsNaming}
use Rattle.lalrpop_norm_theory.proofs.ClosedComparisonLemmas.{same_closed, same_nonterminal, has_nonterminal-among}
use Rattle.lalrpop_norm_theory.proofs.ExpansionListLemmas.{reached_in, reached-in}
use Rattle.lalrpop_norm_theory.proofs.NamingListLemmas.{number_in, name_by, naming-is}

abbrev private_with : String → List String → List Alternative → WrittenItem
private_with n parameters alternatives = WrittenItem.nonterminal (record {
  public = false;
  name = codes n;
  attributes = [];
  span = here;
  parameters = texts parameters;
  declared = None;
  alternatives = alternatives;
})

abbrev rules : List WrittenItem → EnabledGrammar
rules items = enabled_grammar finds [] (grammar items)

abbrev of_rule : String → Option ℕ → Closed
of_rule n l = Closed.call (codes n) Closeds.none l

abbrev of_one : String → Closed → Option ℕ → Closed
of_one n x l = Closed.call (codes n) (Closeds.more x Closeds.none) l

abbrev key : Closed → Nonterminal
key x = Nonterminal.closed x

abbrev quoted : String → Closed
quoted s = Closed.terminal (Terminal.quoted (codes s))

-- the names of these nonterminals
abbrev names : EnabledGrammar → List (Closed × ℕ) → List Nonterminal → List Text
names g numbers xs = map (name_by (leveled_key_text g) (codes "__") numbers) xs

abbrev IsNamed : EnabledGrammar → List (Closed × ℕ) → Type 0
IsNamed g numbers = IsNaming (leveled_key_text g) (codes "__") g (name_by (leveled_key_text g) (codes "__") numbers)

-- E = { L1 "a", L2 E2* "b", L3 none E* "c" }; E2 = "d": the level E2 beside the rule E2, and what each repeats
abbrev beside : EnabledGrammar
beside = rules (rule_of "E" (with (level "1" ∷ []) (lit "a" ∷ []) ∷ with (level "2" ∷ []) (many_of (id "E2") ∷ lit "b" ∷ [])
    ∷ with (level "3" ∷ side "none" ∷ []) (many_of (id "E") ∷ lit "c" ∷ []) ∷ [])
    ∷ private_with "E2" [] (alt (lit "d" ∷ []) ∷ []) ∷ [])

abbrev beside_nonterminals : List Nonterminal
beside_nonterminals = Nonterminal.start (codes "E") ∷ key (of_rule "E" (Some 3)) ∷ key (of_rule "E" (Some 2))
    ∷ key (of_rule "E" (Some 1))
    ∷ key (of_rule "E2" None) ∷ key (Closed.repeat Op.star (of_rule "E2" None)) ∷ key (Closed.repeat Op.plus (of_rule "E2" None))
    ∷ key (Closed.repeat Op.star (of_rule "E" (Some 2))) ∷ key (Closed.repeat Op.plus (of_rule "E" (Some 2))) ∷ []

abbrev beside_numbers : List (Closed × ℕ)
beside_numbers = (of_rule "E" (Some 2), 1) ∷ (Closed.repeat Op.star (of_rule "E" (Some 2)), 1)
    ∷ (Closed.repeat Op.plus (of_rule "E" (Some 2)), 1) ∷ []

beside_names : names beside beside_numbers beside_nonterminals ≡ texts ("__E" ∷ "E" ∷ "E2~2" ∷ "E1" ∷ "E2" ∷ "E2*"
    ∷ "E2+" ∷ "E2*~2"
    ∷ "E2+~2" ∷ [])
unfolding digits
beside_names = refl

beside_named : IsNamed beside beside_numbers
unfolding digits
beside_named = naming-is beside (leveled_key_text beside) (codes "__") beside_numbers 3 beside_nonterminals refl refl refl

-- S = E1<"a"> E<"a">; E<T> = { L1 T, L2 E<T> "+" }; E1<T> = T "z": an instance of E1, and one of E at level 1
abbrev two_instances : EnabledGrammar
two_instances = rules (rule_of "S" (alt (of_macro "E1" (lit "a" ∷ []) ∷ of_macro "E" (lit "a" ∷ []) ∷ []) ∷ [])
    ∷ private_with "E" ("T" ∷ []) (with (level "1" ∷ []) (id "T" ∷ [])
    ∷ with (level "2" ∷ []) (of_macro "E" (id "T" ∷ []) ∷ lit "+" ∷ [])
    ∷ []) ∷ private_with "E1" ("T" ∷ []) (alt (id "T" ∷ lit "z" ∷ []) ∷ []) ∷ [])

abbrev two_instances_nonterminals : List Nonterminal
two_instances_nonterminals = Nonterminal.start (codes "S") ∷ key (of_rule "S" None) ∷ key (of_one "E1" (quoted "a") None)
    ∷ key (of_one "E" (quoted "a") (Some 2)) ∷ key (of_one "E" (quoted "a") (Some 1)) ∷ []

two_instances_names : names two_instances ((of_one "E" (quoted "a") (Some 1), 1) ∷ []) two_instances_nonterminals
    ≡ texts ("__S" ∷ "S" ∷ "E1<\"a\">" ∷ "E<\"a\">" ∷ "E1<\"a\">~2" ∷ [])
unfolding digits escape_byte
two_instances_names = refl

two_instances_named : IsNamed two_instances ((of_one "E" (quoted "a") (Some 1), 1) ∷ [])
unfolding digits escape_byte
two_instances_named =
    naming-is two_instances (leveled_key_text two_instances) (codes "__") ((of_one "E" (quoted "a") (Some 1), 1) ∷ []) 3
    two_instances_nonterminals refl refl refl

-- Expr = { L1 Expr2, L2 left Expr "*" Expr, L3 left Expr "+" Expr }; Expr2 = "n"
abbrev numbered_rule : EnabledGrammar
numbered_rule = rules (rule_of "Expr" (with (level "1" ∷ []) (id "Expr2" ∷ [])
    ∷ with (level "2" ∷ side "left" ∷ []) (id "Expr" ∷ lit "*" ∷ id "Expr" ∷ [])
    ∷ with (level "3" ∷ side "left" ∷ []) (id "Expr" ∷ lit "+" ∷ id "Expr" ∷ []) ∷ [])
    ∷ private_with "Expr2" [] (alt (lit "n" ∷ []) ∷ [])
    ∷ [])

abbrev numbered_rule_nonterminals : List Nonterminal
numbered_rule_nonterminals = Nonterminal.start (codes "Expr") ∷ key (of_rule "Expr" (Some 3)) ∷ key (of_rule "Expr" (Some 2))
    ∷ key (of_rule "Expr" (Some 1)) ∷ key (of_rule "Expr2" None) ∷ []

numbered_rule_names : names numbered_rule ((of_rule "Expr" (Some 2), 1) ∷ []) numbered_rule_nonterminals
    ≡ texts ("__Expr" ∷ "Expr" ∷ "Expr2~2" ∷ "Expr1" ∷ "Expr2" ∷ [])
unfolding digits
numbered_rule_names = refl

numbered_rule_named : IsNamed numbered_rule ((of_rule "Expr" (Some 2), 1) ∷ [])
unfolding digits
numbered_rule_named =
    naming-is numbered_rule (leveled_key_text numbered_rule) (codes "__") ((of_rule "Expr" (Some 2), 1) ∷ []) 3 numbered_rule_nonterminals
    refl refl refl

-- E1 = { L1 "a", L2 E1 "b", L3 E1 "c" }; E = { L1 "a", L12 E "x", L13 E "y" }: E at level 12 and E1 at level 2, E at 1 and E1
abbrev crossed : EnabledGrammar
crossed = rules (rule_of "E1" (with (level "1" ∷ []) (lit "a" ∷ []) ∷ with (level "2" ∷ []) (id "E1" ∷ lit "b" ∷ [])
    ∷ with (level "3" ∷ []) (id "E1" ∷ lit "c" ∷ []) ∷ [])
    ∷ private_with "E" [] (with (level "1" ∷ []) (lit "a" ∷ []) ∷ with (level "12" ∷ []) (id "E" ∷ lit "x" ∷ [])
    ∷ with (level "13" ∷ []) (id "E" ∷ lit "y" ∷ []) ∷ []) ∷ [])

abbrev crossed_nonterminals : List Nonterminal
crossed_nonterminals = Nonterminal.start (codes "E1") ∷ key (of_rule "E1" (Some 3)) ∷ key (of_rule "E1" (Some 2))
    ∷ key (of_rule "E1" (Some 1)) ∷ key (of_rule "E" (Some 13)) ∷ key (of_rule "E" (Some 12)) ∷ key (of_rule "E" (Some 1)) ∷ []

crossed_names : names crossed ((of_rule "E" (Some 12), 1) ∷ (of_rule "E" (Some 1), 1) ∷ []) crossed_nonterminals
    ≡ texts ("__E1" ∷ "E1" ∷ "E12" ∷ "E11" ∷ "E" ∷ "E12~2" ∷ "E1~2" ∷ [])
unfolding digits
crossed_names = refl

crossed_named : IsNamed crossed ((of_rule "E" (Some 12), 1) ∷ (of_rule "E" (Some 1), 1) ∷ [])
unfolding digits
crossed_named =
    naming-is crossed (leveled_key_text crossed) (codes "__") ((of_rule "E" (Some 12), 1) ∷ (of_rule "E" (Some 1), 1)
    ∷ []) 2 crossed_nonterminals
    refl refl refl

-- S = E<"a">; E<E1> = { L1 E1, L2 left E<E1> "+" E<E1> }: a parameter may have a level's name
abbrev parameter_named : EnabledGrammar
parameter_named = rules (rule_of "S" (alt (of_macro "E" (lit "a" ∷ []) ∷ []) ∷ [])
    ∷ private_with "E" ("E1" ∷ []) (with (level "1" ∷ []) (id "E1" ∷ [])
    ∷ with (level "2" ∷ side "left" ∷ []) (of_macro "E" (id "E1" ∷ []) ∷ lit "+" ∷ of_macro "E" (id "E1" ∷ []) ∷ [])
    ∷ []) ∷ [])

abbrev parameter_named_nonterminals : List Nonterminal
parameter_named_nonterminals = Nonterminal.start (codes "S") ∷ key (of_rule "S" None) ∷ key (of_one "E" (quoted "a") (Some 2))
    ∷ key (of_one "E" (quoted "a") (Some 1)) ∷ []

parameter_named_names : names parameter_named [] parameter_named_nonterminals ≡ texts ("__S" ∷ "S" ∷ "E<\"a\">" ∷ "E1<\"a\">"
    ∷ [])
unfolding digits escape_byte
parameter_named_names = refl

parameter_named_named : IsNamed parameter_named []
unfolding digits escape_byte
parameter_named_named =
    naming-is parameter_named (leveled_key_text parameter_named) (codes "__") [] 3 parameter_named_nonterminals refl refl refl

-- E = { L1 "a", L2 "b", L3 "c" }; E2<T> = T: a macro's name is taken, though no key has it
abbrev beside_macro : EnabledGrammar
beside_macro = rules (private_with "E" [] (with (level "1" ∷ []) (lit "a" ∷ []) ∷ with (level "2" ∷ []) (lit "b" ∷ [])
    ∷ with (level "3" ∷ []) (lit "c" ∷ []) ∷ []) ∷ private_with "E2" ("T" ∷ []) (alt (id "T" ∷ []) ∷ []) ∷ [])

abbrev beside_macro_nonterminals : List Nonterminal
beside_macro_nonterminals = key (of_rule "E" (Some 3)) ∷ key (of_rule "E" (Some 2)) ∷ key (of_rule "E" (Some 1)) ∷ []

beside_macro_names : names beside_macro ((of_rule "E" (Some 2), 1) ∷ []) beside_macro_nonterminals ≡ texts ("E" ∷ "E2~2" ∷ "E1"
    ∷ [])
unfolding digits
beside_macro_names = refl

beside_macro_named : IsNamed beside_macro ((of_rule "E" (Some 2), 1) ∷ [])
unfolding digits
beside_macro_named =
    naming-is beside_macro (leveled_key_text beside_macro) (codes "__") ((of_rule "E" (Some 2), 1) ∷ []) 1 beside_macro_nonterminals
    refl refl refl

-- the macro's own name is refused for the level
macro_name_refused : (name_of : Nonterminal → Text) → IsNaming (leveled_key_text beside_macro) (codes "__") beside_macro name_of →
    name_of (key (of_rule "E" (Some 2))) ≢ codes "E2"
macro_name_refused name_of w e =
    w.macros _ (key (of_rule "E" (Some 2))) (inr (inl refl)) (λ f. cc)
    (reached-in beside_macro 0 (key (of_rule "E" (Some 2))) (inr (inl refl))) e

-- L = Comma<Id>; Comma<T> = <(<T> ",")*> <T?>; Id = "i"
abbrev commas : EnabledGrammar
commas = rules (rule_of "L" (alt (of_macro "Comma" (id "Id" ∷ []) ∷ []) ∷ [])
    ∷ private_with "Comma" ("T" ∷ []) (alt (Sym.choose here (many_of (in_group (Sym.choose here (id "T") ∷ lit "," ∷ [])))
    ∷ Sym.choose here (maybe (id "T")) ∷ []) ∷ []) ∷ private_with "Id" [] (alt (lit "i" ∷ []) ∷ []) ∷ [])

abbrev id_comma : Closed
id_comma = Closed.group (Closeds.more (Closed.choose (of_rule "Id" None)) (Closeds.more (quoted ",") Closeds.none))

abbrev commas_nonterminals : List Nonterminal
commas_nonterminals = Nonterminal.start (codes "L") ∷ key (of_rule "L" None) ∷ key (of_rule "Id" None)
    ∷ key (of_one "Comma" (of_rule "Id" None) None) ∷ key (Closed.repeat Op.star id_comma) ∷ key (Closed.repeat Op.plus id_comma)
    ∷ key id_comma ∷ key (Closed.repeat Op.question (of_rule "Id" None)) ∷ []

commas_names : names commas [] commas_nonterminals
    ≡ texts ("__L" ∷ "L" ∷ "Id" ∷ "Comma<Id>" ∷ "(<Id> \",\")*" ∷ "(<Id> \",\")+" ∷ "(<Id> \",\")" ∷ "Id?" ∷ [])
unfolding digits escape_byte
commas_names = refl

commas_named : IsNamed commas []
unfolding digits escape_byte
commas_named = naming-is commas (leveled_key_text commas) (codes "__") [] 4 commas_nonterminals refl refl refl

-- one name for two keys of one text is refused
one_name_refused : (name_of : Nonterminal → Text) → IsNaming (leveled_key_text two_instances) (codes "__") two_instances name_of →
    name_of (key (of_one "E1" (quoted "a") None)) ≢ name_of (key (of_one "E" (quoted "a") (Some 1)))
one_name_refused name_of w e =
    let first = reached-in two_instances 1 (key (of_one "E1" (quoted "a") None)) (inr (inr (inr (inl refl)))) in
    let second = reached-in two_instances 2 (key (of_one "E" (quoted "a") (Some 1)))
    (has_nonterminal-among
    (reached_in two_instances 2) (key (of_one "E" (quoted "a") (Some 1))) refl) in
    let same = w.apart (key (of_one "E1" (quoted "a") None)) (key (of_one "E" (quoted "a") (Some 1))) first second e in
    let test : false ≡ true =
    ap (λ x. same_nonterminal x (key (of_one "E" (quoted "a") (Some 1)))) same in
    true≢false (sym test)

-- `~3` without `~2` is refused: a number is free only behind another key's
gap_refused : IsNextNumber two_instances (leveled_key_text two_instances)
    (λ x. number_in ((of_one "E" (quoted "a") (Some 1), 2) ∷ []) x)
    (codes "E1<\"a\">") 2 → ⊥
gap_refused w = go 2 w refl
  where
    number : Closed → ℕ
    number x = number_in ((of_one "E" (quoted "a") (Some 1), 2) ∷ []) x

    no_one : (y : Closed) → number y ≡ 1 → ⊥
    no_one y e = by_test (same_closed (of_one "E" (quoted "a") (Some 1)) y) e
      where
        by_test : (b : Bool) → ◌≡◌ {A = ℕ} (cond b 2 0) 1 → ⊥
        by_test true e = omega (arith, e)
        by_test false e = omega (arith, e)

    go : (k : ℕ) → IsNextNumber two_instances (leveled_key_text two_instances) number (codes "E1<\"a\">") k → k ≡ 2 → ⊥
    go _ IsNextNumber.first e = omega (arith, e)
    go _ (IsNextNumber.after_key {k = k} y i f h) e = no_one y (h ∙ (let g : k ≡ 1 = omega (arith, e) in g))
    go _ (IsNextNumber.after_macro r i ps f) e = omega (arith, e)

-- where each level has a rule of its own, keys print without a number that a rule has behind a tilde
flat_text : flat_key_text (of_one "E1~2" (of_rule "Expr2~2" None) None) ≡ codes "E1<Expr2>"
flat_text = refl

first_number : with_number (codes "E2") 0 ≡ codes "E2"
first_number = refl

second_number : with_number (codes "E2") 1 ≡ codes "E2~2"
unfolding digits
second_number = refl
