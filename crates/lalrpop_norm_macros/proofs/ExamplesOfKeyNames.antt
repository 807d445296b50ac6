-- Computed examples of the names of keys, and names that are refused.
use Prim.Native.String.{String}
use Rattle.std.specs.Fmt.{digits}
use Rattle.std.specs.Str.{bytes_eq}
use Rattle.std.proofs.Common.{◌≡◌, ◌≢◌, ℕ, suc, ◌+◌, ◌≤◌, List, [], ◌∷◌, length, refl, ap, sym}
use Rattle.std.proofs.Common.{◌∙◌, ◌++◌, ◌<◌, zero, subst, cond}
use Rattle.std.proofs.Common.{Bool, true, false, inl, inr, ◌⊎◌, arith}
use Rattle.std.specs.Prelude.{◌==◌, Option, Some, None, codes, filter, map}
use Rattle.std.proofs.lemmas.Bool.{true≢false}
use Rattle.lalrpop_grammar_symbols.specs.Symbols.{Text, Closed, Closeds, Op, Terminal}
use Rattle.lalrpop_grammar_symbols.specs.Texts.{escape_byte}
use Rattle.lalrpop_grammar.specs.WrittenGrammar.{WrittenItem, rules_of}
use Rattle.lalrpop_grammar_language.specs.Among.{Among}
use Rattle.lalrpop_grammar_language.specs.Enabled.{EnabledGrammar, EnabledRule, IsRule, choice_of, has_text}
use Rattle.lalrpop_grammar_language.proofs.WrittenTreeLemmas.{alt, finds, grammar, lit, texts}
use Rattle.lalrpop_grammar_language.proofs.WrittenTreeLemmas.{here}
use Rattle.lalrpop_norm_theory.specs.Between.{grammar_between, with_origins}
use Rattle.lalrpop_norm_theory.specs.Keys.{before_tilde, flat_key_text, with_number}
use Rattle.lalrpop_norm_theory.proofs.ExpansionListLemmas.{rule_there}
use Rattle.lalrpop_norm_theory.specs.KeyTables.{IsPlainKey}
use Rattle.lalrpop_norm_theory.specs.LevelNames.{times_taken}
use Rattle.lalrpop_norm_theory.proofs.LastLemmas.{ends_in_digit}
use Rattle.lalrpop_norm_precedence.specs.GivenNames.{Times}
use Rattle.lalrpop_norm_precedence.specs.TakenTimes.{AreSmallTimes}
use Rattle.lalrpop_norm_macros.specs.KeyNames.{AreKeyNames, HasNumberBelow, HoldKeyNames, IsLevelName, IsNameable, IsNextAmongKeys}
use Rattle.lalrpop_norm_macros.specs.KeyNames.{times_by_rules}
use Rattle.lalrpop_norm_macros.specs.OrderedNames.{key_names_of, rule_alone, rule_text}
use Rattle.lalrpop_norm_macros.specs.OrderedNames.{taken_behind_keys, taken_unless}
use Rattle.lalrpop_norm_macros.specs.NameLaws.{LeavesPrefix}
use Rattle.lalrpop_norm_macros.proofs.NamingLemmas.{names_hold}

-- a rule with these parameters
abbrev with_parameters : String → List String → WrittenItem
with_parameters n parameters = WrittenItem.nonterminal (record {
  public = false;
  name = codes n;
  attributes = [];
  span = here;
  parameters = texts parameters;
  declared = None;
  alternatives = alt (lit "a" ∷ []) ∷ [];
})

abbrev plain : String → WrittenItem
plain n = with_parameters n []

abbrev rule : String → Closed
rule n = Closed.call (codes n) Closeds.none None

abbrev of_one : String → Closed → Closed
of_one n x = Closed.call (codes n) (Closeds.more x Closeds.none) None

abbrev quoted : String → Closed
quoted s = Closed.terminal (Terminal.quoted (codes s))

abbrev names_of : List WrittenItem → List Closed → List Text
names_of items keys = key_names_of (rules_of items) keys

-- no keys, and one rule
nothing_named : names_of [] [] ≡ []
nothing_named = refl

one_rule : names_of (plain "S" ∷ []) (rule "S" ∷ []) ≡ texts ("S" ∷ [])
one_rule = refl

-- E = { L1 "a", L2 E2* "b", L3 none E* "c" }; E2 = "d": the level E2~2 beside the rule E2, and what each repeats
beside_names : names_of (plain "E" ∷ plain "E2~2" ∷ plain "E1" ∷ plain "E2" ∷ [])
    (rule "E" ∷ Closed.repeat Op.star (rule "E2~2") ∷ Closed.repeat Op.plus (rule "E2~2") ∷ rule "E2~2"
    ∷ Closed.repeat Op.star (rule "E2") ∷ Closed.repeat Op.plus (rule "E2") ∷ rule "E2" ∷ rule "E1" ∷ [])
    ≡ texts ("E" ∷ "E2*" ∷ "E2+" ∷ "E2~2" ∷ "E2*~2" ∷ "E2+~2" ∷ "E2" ∷ "E1" ∷ [])
unfolding digits
beside_names = refl

-- Expr = { L1 Expr2, L2 left Expr "*" Expr, L3 left Expr "+" Expr }; Expr2 = "n": rules keep the names of their levels
levels_kept : names_of (plain "Expr" ∷ plain "Expr2~2" ∷ plain "Expr1" ∷ plain "Expr2" ∷ [])
    (rule "Expr" ∷ rule "Expr2~2" ∷ rule "Expr1" ∷ rule "Expr2" ∷ [])
    ≡ texts ("Expr" ∷ "Expr2~2" ∷ "Expr1" ∷ "Expr2" ∷ [])
levels_kept = refl

-- S = E1<"a"> E<"a">; E<T> = { L1 T, L2 E<T> "+" }; E1<T> = T "z": an instance of E1, and one of the level E1~2
abbrev two_items : List WrittenItem
two_items =
    plain "S" ∷ with_parameters "E" ("T" ∷ []) ∷ with_parameters "E1~2" ("T" ∷ []) ∷ with_parameters "E1" ("T" ∷ [])
    ∷ []

abbrev two_keys : List Closed
two_keys = rule "S" ∷ of_one "E1" (quoted "a") ∷ of_one "E" (quoted "a") ∷ of_one "E1~2" (quoted "a") ∷ []

two_names : names_of two_items two_keys ≡ texts ("S" ∷ "E1<\"a\">" ∷ "E<\"a\">" ∷ "E1<\"a\">~2" ∷ [])
unfolding digits escape_byte
two_names = refl

-- the other way round, the level's instance is first
other_order : names_of two_items (rule "S" ∷ of_one "E1~2" (quoted "a") ∷ of_one "E1" (quoted "a") ∷ [])
    ≡ texts ("S" ∷ "E1<\"a\">" ∷ "E1<\"a\">~2" ∷ [])
unfolding digits escape_byte
other_order = refl

-- S = E<"a">; E<E1> = { L1 E1, L2 left E<E1> "+" E<E1> }: the level's macro is E1~2, since a parameter has the name E1
parameter_named : names_of (plain "S" ∷ with_parameters "E" ("E1" ∷ []) ∷ with_parameters "E1~2" ("E1" ∷ []) ∷ [])
    (rule "S" ∷ of_one "E" (quoted "a") ∷ of_one "E1~2" (quoted "a") ∷ []) ≡ texts ("S" ∷ "E<\"a\">" ∷ "E1<\"a\">" ∷ [])
unfolding digits escape_byte
parameter_named = refl

-- L = Comma<Id>; Comma<T> = <(<T> ",")*> <T?>; Id = "i"
abbrev id_comma : Closed
id_comma = Closed.group (Closeds.more (Closed.choose (rule "Id")) (Closeds.more (quoted ",") Closeds.none))

commas_names : names_of (plain "L" ∷ with_parameters "Comma" ("T" ∷ []) ∷ plain "Id" ∷ [])
    (rule "L" ∷ rule "Id" ∷ of_one "Comma" (rule "Id") ∷ Closed.repeat Op.star id_comma ∷ Closed.repeat Op.plus id_comma
    ∷ id_comma
    ∷ Closed.repeat Op.question (rule "Id") ∷ [])
    ≡ texts ("L" ∷ "Id" ∷ "Comma<Id>" ∷ "(<Id> \",\")*" ∷ "(<Id> \",\")+" ∷ "(<Id> \",\")" ∷ "Id?" ∷ [])
unfolding digits escape_byte
commas_names = refl

-- the name of a macro is taken, also one that no written macro has
macro_taken : names_of (plain "S" ∷ with_parameters "S*" ("T" ∷ []) ∷ []) (rule "S" ∷ Closed.repeat Op.star (rule "S") ∷ [])
    ≡ texts ("S" ∷ "S*~2" ∷ [])
unfolding digits
macro_taken = refl

-- and so is that of a rule
rule_taken : names_of (plain "S" ∷ plain "S*" ∷ []) (rule "S" ∷ Closed.repeat Op.star (rule "S") ∷ rule "S*" ∷ [])
    ≡ texts ("S" ∷ "S*~2" ∷ "S*" ∷ [])
unfolding digits
rule_taken = refl

-- the second and the third key of a text
three_alike : names_of (plain "S" ∷ []) (Closed.group (Closeds.more (rule "A~2") Closeds.none) ∷ Closed.group
    (Closeds.more (rule "A") Closeds.none) ∷ Closed.group (Closeds.more (rule "A~3") Closeds.none) ∷ [])
    ≡ texts ("(A)" ∷ "(A)~2" ∷ "(A)~3" ∷ [])
unfolding digits
three_alike = refl

-- a number left out is another list

two_and_three : texts ("S" ∷ "E1<\"a\">" ∷ "E<\"a\">" ∷ "E1<\"a\">~2" ∷ [])
    ≢ texts ("S" ∷ "E1<\"a\">" ∷ "E<\"a\">" ∷ "E1<\"a\">~3" ∷ [])
two_and_three e = true≢false (ap (has_text (codes "E1<\"a\">~2")) e)

left_out : names_of two_items two_keys ≢ texts ("S" ∷ "E1<\"a\">" ∷ "E<\"a\">" ∷ "E1<\"a\">~3" ∷ [])
left_out e = two_and_three (sym two_names ∙ e)

-- names that keys may have

abbrev between : List WrittenItem → EnabledGrammar
between items = grammar_between finds (grammar items)

abbrev two : EnabledGrammar
two = between two_items

abbrev enabled_with : String → List String → EnabledRule
enabled_with n parameters = record {
  name = codes n;
  public = false;
  inlined = false;
  parameters = texts parameters;
  declared = None;
  choices = map choice_of (with_origins (alt (lit "a" ∷ []) ∷ []));
}

abbrev enabled : String → EnabledRule
enabled n = enabled_with n []

abbrev macro_rule : String → EnabledRule
macro_rule n = enabled_with n ("T" ∷ [])

level : IsLevelName (codes "E1~2")
unfolding digits
level = record { base = codes "E"; level = 1; number = 1; plain = refl; is = refl }

-- times are few

few_taken : (t : Text) (ts : List Text) → times_taken t ts ≤ length ts
few_taken t [] = omega arith
few_taken t (u ∷ ts) = go (bytes_eq t u) (few_taken t ts)
  where
    go : (b : Bool) → times_taken t ts ≤ length ts →
        length (cond b (u ∷ filter (bytes_eq t) ts) (filter (bytes_eq t) ts)) ≤ suc (length ts)
    go true h = omega (arith, h)
    go false h = omega (arith, h)

few_behind : (times : Times) (keys : List Closed) (t : Text) → taken_behind_keys times keys t ≤ times t + length keys
few_behind times [] t = omega arith
few_behind times (x ∷ xs) t =
    let a = few_behind (λ u. taken_unless (rule_alone x) (flat_key_text x) times u) xs t in
    let b = one (rule_alone x) in
    omega (arith, a, b)
  where
    step : (b : Bool) → cond b (suc (times t)) (times t) ≤ suc (times t)
    step true = omega arith
    step false = omega arith

    one : (o : Option Text) → taken_unless o (flat_key_text x) times t ≤ suc (times t)
    one None = step (bytes_eq t (flat_key_text x))
    one (Some n) = omega arith

two_small : AreSmallTimes (taken_behind_keys (times_by_rules two) two_keys)
two_small t =
    let a = few_behind (times_by_rules two) two_keys t in
    let b = few_taken t (map (λ r. rule_text r.parameters r.name) two.rules) in
    let c : length two_keys ≡ 4 = refl in
    let d : length (map (λ r. rule_text r.parameters r.name) two.rules) ≡ 4 = refl in
    omega (arith, a, b, c, d)

two_nameable : IsNameable two
two_nameable = record {
  rules = (refl, (refl, (refl, (refl, tt))));
  numbers = λ r i none. number r i none;
  macros = λ r i some. macro r i some;
}
  where
    number : (r : EnabledRule) → Among two.rules r → r.parameters ≡ [] → HasNumberBelow two r
    number r (inl e) none = subst (HasNumberBelow two) e (record { number = 0; is = refl; below = omega arith })
    number r (inr (inl e)) none = let wrong : texts ("T" ∷ []) ≡ [] = ap (λ q. q.parameters) e ∙ none in cc
    number r (inr (inr (inl e))) none = let wrong : texts ("T" ∷ []) ≡ [] = ap (λ q. q.parameters) e ∙ none in cc
    number r (inr (inr (inr (inl e)))) none = let wrong : texts ("T" ∷ []) ≡ [] = ap (λ q. q.parameters) e ∙ none in cc
    number r (inr (inr (inr (inr i)))) none = absurd i

    macro : (r : EnabledRule) → Among two.rules r → r.parameters ≢ [] → (before_tilde r.name ≡ r.name) ⊎ IsLevelName r.name
    macro r (inl e) some = absurd (some (sym (ap (λ q. q.parameters) e)))
    macro r (inr (inl e)) some = subst (λ q. (before_tilde q.name ≡ q.name) ⊎ IsLevelName q.name) e (inl refl)
    macro r (inr (inr (inl e))) some =
        subst (λ q. (before_tilde q.name ≡ q.name) ⊎ IsLevelName q.name) e (inr level)
    macro r (inr (inr (inr (inl e)))) some = subst (λ q. (before_tilde q.name ≡ q.name) ⊎ IsLevelName q.name) e (inl refl)
    macro r (inr (inr (inr (inr i)))) some = absurd i

-- they may have the names that are given
two_hold : HoldKeyNames two two_keys (texts ("S" ∷ "E1<\"a\">" ∷ "E<\"a\">" ∷ "E1<\"a\">~2" ∷ []))
unfolding escape_byte
two_hold =
    subst (HoldKeyNames two two_keys) two_names
    (names_hold two two_keys two_nameable (not_two, (not_three, (not_four, (λ i. i, tt)))) plain_there rules_alone ends two_small)
  where
    not_two : Among (of_one "E1" (quoted "a") ∷ of_one "E" (quoted "a") ∷ of_one "E1~2" (quoted "a") ∷ []) (rule "S") → ⊥
    not_two (inl e) = cc
    not_two (inr (inl e)) = cc
    not_two (inr (inr (inl e))) = cc
    not_two (inr (inr (inr i))) = i

    not_three : Among (of_one "E" (quoted "a") ∷ of_one "E1~2" (quoted "a") ∷ []) (of_one "E1" (quoted "a")) → ⊥
    not_three (inl e) = cc
    not_three (inr (inl e)) = cc
    not_three (inr (inr i)) = i

    not_four : Among (of_one "E1~2" (quoted "a") ∷ []) (of_one "E" (quoted "a")) → ⊥
    not_four (inl e) = cc
    not_four (inr i) = i

    plain_there : (n : Text) (r : EnabledRule) → IsRule two n r → r.parameters ≡ [] →
        Among two_keys (Closed.call n Closeds.none None)
    plain_there n r i none = let u = rule_there two n r i in go u.0 u.1
      where
        go : Among two.rules r → r.name ≡ n → Among two_keys (Closed.call n Closeds.none None)
        go (inl e) name = inl (ap (λ t. Closed.call t Closeds.none None) (ap (λ q. q.name) e ∙ name))
        go (inr (inl e)) name = let wrong : texts ("T" ∷ []) ≡ [] = ap (λ q. q.parameters) e ∙ none in cc
        go (inr (inr (inl e))) name = let wrong : texts ("T" ∷ []) ≡ [] = ap (λ q. q.parameters) e ∙ none in cc
        go (inr (inr (inr (inl e)))) name = let wrong : texts ("T" ∷ []) ≡ [] = ap (λ q. q.parameters) e ∙ none in cc
        go (inr (inr (inr (inr j)))) name = absurd j

    rules_alone : (n : Text) (level : Option ℕ) → Among two_keys (Closed.call n Closeds.none level) →
        IsPlainKey two (Closed.call n Closeds.none level)
    rules_alone n level (inl e) =
        record { name = codes "S"; rule = enabled "S"; is_rule = refl; no_macro = refl; key_is = sym e }
    rules_alone n level (inr (inl e)) = cc
    rules_alone n level (inr (inr (inl e))) = cc
    rules_alone n level (inr (inr (inr (inl e)))) = cc
    rules_alone n level (inr (inr (inr (inr i)))) = absurd i

    ends : (x : Closed) → Among two_keys x → rule_alone x ≡ None → ends_in_digit (flat_key_text x) ≡ false
    ends x (inl e) none = let wrong : Some (codes "S") ≡ None = ap rule_alone e ∙ none in cc
    ends x (inr (inl e)) none = subst (λ z. ends_in_digit (flat_key_text z) ≡ false) e refl
    ends x (inr (inr (inl e))) none = subst (λ z. ends_in_digit (flat_key_text z) ≡ false) e refl
    ends x (inr (inr (inr (inl e)))) none = subst (λ z. ends_in_digit (flat_key_text z) ≡ false) e refl
    ends x (inr (inr (inr (inr i)))) none = absurd i

-- names that are refused

-- one for two keys of one text
one_name_refused : (f : Closed → Text) → AreKeyNames two two_keys f → f (of_one "E1" (quoted "a")) ≢ f (of_one "E1~2" (quoted "a"))
one_name_refused f w e =
    let same = w.apart (of_one "E1" (quoted "a")) (of_one "E1~2" (quoted "a")) (inr (inl refl)) (inr (inr (inr (inl refl)))) e in
    cc

-- that of a macro
macro_name_refused : (f : Closed → Text) (keys : List Closed) → AreKeyNames two keys f → (x : Closed) →
    Among keys x → f x ≢ codes "E1"
macro_name_refused f keys w x i e = w.macros (macro_rule "E1") x (inr (inr (inr (inl refl)))) (λ g. cc) i e

-- a number for a rule's own
other_own_refused : (f : Closed → Text) → AreKeyNames two two_keys f → f (rule "S") ≢ codes "S~2"
other_own_refused f w e = let wrong : codes "S" ≡ codes "S~2" = sym (w.own (codes "S") (enabled "S") refl refl) ∙ e in cc

-- `~3` without `~2`
gap_refused : (number : Closed → ℕ) → ((y : Closed) → number y ≡ 1 → ⊥) →
    IsNextAmongKeys two two_keys number (codes "E1<\"a\">") 2 → ⊥
gap_refused number none w = go 2 w refl
  where
    go : (k : ℕ) → IsNextAmongKeys two two_keys number (codes "E1<\"a\">") k → k ≡ 2 → ⊥
    go _ IsNextAmongKeys.first e = omega (arith, e)
    go _ (IsNextAmongKeys.after_key {k = k} y i f h) e = none y (h ∙ (let g : k ≡ 1 = omega (arith, e) in g))
    go _ (IsNextAmongKeys.after_macro r i ps f) e = omega (arith, e)

-- what names of keys rest on, and what is refused

-- a rule E2~3 beside no other of the text E2
number_refused : HasNumberBelow (between (plain "E2~3" ∷ [])) (enabled "E2~3") → ⊥
number_refused w = go w.number w.below w.is
  where
    go : (k : ℕ) → k < 1 → codes "E2~3" ≡ with_number (codes "E2") k → ⊥
    go zero lt e = cc
    go (suc k) lt e = omega (arith, lt)

-- E2~2 beside a macro E2
beside_macro : HasNumberBelow (between (with_parameters "E2" ("T" ∷ []) ∷ plain "E2~2" ∷ [])) (enabled "E2~2")
unfolding digits
beside_macro = record { number = 1; is = refl; below = omega arith }

-- the prefix begins no name of `two`, but it does that of a rule `__x`
begins_with_line : Text → Bool
begins_with_line [] = false
begins_with_line (c ∷ cs) = c == 95

prefix_left : LeavesPrefix (codes "__") two
unfolding begins_with_line
prefix_left = record {
  underscores = 2;
  some = omega arith;
  prefix_is = refl;
  rules = λ r t i e. none r t i e;
  bares = λ n t i e. i;
}
  where
    none : (r : EnabledRule) (t : Text) → Among two.rules r → r.name ≡ codes "__" ++ t → ⊥
    none r t (inl i) e = true≢false (sym (ap begins_with_line (ap (λ q. q.name) i ∙ e)))
    none r t (inr (inl i)) e = true≢false (sym (ap begins_with_line (ap (λ q. q.name) i ∙ e)))
    none r t (inr (inr (inl i))) e = true≢false (sym (ap begins_with_line (ap (λ q. q.name) i ∙ e)))
    none r t (inr (inr (inr (inl i)))) e = true≢false (sym (ap begins_with_line (ap (λ q. q.name) i ∙ e)))
    none r t (inr (inr (inr (inr i)))) e = i

prefix_refused : LeavesPrefix (codes "__") (between (plain "__x" ∷ [])) → ⊥
prefix_refused p = p.rules (enabled "__x") (codes "x") (inl refl) refl
