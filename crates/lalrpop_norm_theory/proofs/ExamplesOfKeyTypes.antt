-- Computed examples of the types that the rules of keys declare.
use Prim.Native.String.{String}
use Rattle.std.proofs.Common.{List, [], ◌∷◌, refl, inl, inr}
use Rattle.std.specs.Prelude.{Some, None, codes}
use Rattle.lalrpop_grammar_symbols.specs.Symbols.{Text, Op, Terminal, Sym, WrittenSymbol, Closed, Closeds}
use Rattle.lalrpop_grammar.specs.WrittenGrammar.{Ty, Tys}
use Rattle.lalrpop_grammar_language.specs.Enabled.{EnabledGrammar, enabled_grammar}
use Rattle.lalrpop_grammar_language.specs.Closing.{Scope}
use Rattle.lalrpop_grammar_language.proofs.WrittenTreeLemmas.{here, lit, rule_of, with, grammar, finds}
use Rattle.lalrpop_norm_theory.specs.KeyTypes.{HasKeyRule, StandsInType, IsPutType, IsPutDeclaration, IsKeyDeclaration}

abbrev a : Closed
a = Closed.terminal (Terminal.quoted (codes "a"))

abbrev many_a : Closed
many_a = Closed.repeat Op.star a

-- S = "a"*, where `"a"*` has a rule, and `"a"+` has one because `"a"*` is made of it
abbrev list_of_a : EnabledGrammar
list_of_a = enabled_grammar finds [] (grammar (rule_of "S" (with [] (Sym.repeat here Op.star (lit "a") ∷ []) ∷ []) ∷ []))

abbrev keys : List Closed
keys = many_a ∷ Closed.repeat Op.plus a ∷ []

-- the first key is called so, and so is whatever else is asked
abbrev called : Closed → Text
called x = codes "a*"

-- in an instance M<"a"*> of a macro M<T>
abbrev in_instance : Scope
in_instance = record { grammar = list_of_a; binding = (codes "T", many_a) ∷ []; owner = codes "M"; level_at = λ k. None }

abbrev named : String → WrittenSymbol
named n = Sym.nonterminal here (codes n)

abbrev pair_of : Ty → Ty → Ty
pair_of y z = Ty.tuple (Tys.more y (Tys.more z Tys.none))

-- (T, u8) becomes (<a*>, u8): the parameter's value stands by the name of its key, and another name stays
parameter_put : IsPutType [] called keys in_instance (pair_of (Ty.id (codes "T")) (Ty.id (codes "u8")))
    (pair_of (Ty.of_symbol (named "a*")) (Ty.id (codes "u8")))
parameter_put = (
  Tys.more (Ty.of_symbol (named "a*")) (Tys.more (Ty.id (codes "u8")) Tys.none),
  refl,
  (
    Ty.of_symbol (named "a*"),
    Tys.more (Ty.id (codes "u8")) Tys.none,
    refl,
    (named "a*", refl, inl (inl refl, (refl, tt))),
    (Ty.id (codes "u8"), Tys.none, refl, refl, refl),
  ),
)

-- a parameter isn't left as a name, which would mean another type
parameter_not_left : IsPutType [] called keys in_instance (Ty.id (codes "T")) (Ty.id (codes "T")) → ⊥
parameter_not_left (v, e, i) = cc

-- nor does another name become a symbol
name_not_put : IsPutType [] called keys in_instance (Ty.id (codes "u8")) (Ty.of_symbol (named "u8")) → ⊥
name_not_put e = cc

no_key : HasKeyRule keys (Closed.repeat Op.question a) → ⊥
no_key (inl e) = cc
no_key (inr (inl e)) = cc
no_key (inr (inr i)) = absurd i

-- `"a"?` has no rule, and is left as it is written
left_as_written : IsPutType [] called keys in_instance (Ty.of_symbol (Sym.repeat here Op.question (lit "a")))
    (Ty.of_symbol (Sym.repeat here Op.question (lit "a")))
left_as_written = (Sym.repeat here Op.question (lit "a"), refl, inr (no_key, tt))

-- it isn't called as some rule
not_called : StandsInType [] called keys (Closed.repeat Op.question a) (named "a*") → ⊥
not_called (inl i) = no_key i.0
not_called (inr i) = absurd i.1

-- a key that has a rule isn't left as it is written
not_left : StandsInType [] called keys many_a (Sym.repeat here Op.star (lit "a")) → ⊥
not_left (inl i) = absurd i.1
not_left (inr i) = i.0 (inl refl)

-- `"a"*` declares Vec<"a">, and not nothing
list_declared : IsKeyDeclaration list_of_a called keys many_a (Some (Ty.nominal (codes "Vec") (Tys.more (Ty.of_symbol (lit "a")) Tys.none)))
list_declared = (lit "a", refl, (refl, tt))

list_declares : IsKeyDeclaration list_of_a called keys many_a None → ⊥
list_declares (v, e, i) = cc

-- a group declares nothing
group_undeclared : IsKeyDeclaration list_of_a called keys (Closed.group (Closeds.more a Closeds.none)) None
group_undeclared = refl

group_not_declared : (y : Ty) → IsKeyDeclaration list_of_a called keys (Closed.group (Closeds.more a Closeds.none)) (Some y) → ⊥
group_not_declared y e = cc

-- an undeclared rule stays undeclared
stays_undeclared : IsPutDeclaration [] called keys in_instance None None
stays_undeclared = refl
