-- Names in lists of types, type by type; for the checks and the rewriting of declared types.
use Rattle.std.proofs.Common.{◌≡◌, ◌∙◌, ap, sym, refl, List, [], ◌∷◌, ◌++◌, map, append_assoc}
use Rattle.std.specs.Prelude.{flat_map}
use Rattle.lalrpop_grammar_symbols.specs.Symbols.{Text}
use Rattle.lalrpop_grammar.specs.Views.{tys}
use Rattle.lalrpop_grammar.specs.WrittenGrammar.{Ty, Tys}
use Rattle.lalrpop_norm_theory.specs.Premises.{symbols_of_type, symbols_of_types}
use Rattle.lalrpop_norm_theory.specs.Resolving.{DefinedNames, resolved_type, resolved_types}
use Rattle.lalrpop_norm_theory.specs.NameFaults.{NameFault, name_faults_in, own_name_fault}

joined : {A B : Type 0} (f : A → List B) (xs ys : List A) → flat_map f (xs ++ ys) ≡ flat_map f xs ++ flat_map f ys
joined f [] ys = refl
joined f (x ∷ xs) ys = ap (λ l. f x ++ l) (joined f xs ys) ∙ sym (append_assoc (f x) (flat_map f xs) (flat_map f ys))

-- the faults of names in a type
abbrev pub faults_in_type : DefinedNames → List Text → Ty → List NameFault
faults_in_type d ps t = name_faults_in d ps (symbols_of_type t)

-- the faults of names in a list of types are those of each type in turn
pub faults_in_types : (d : DefinedNames) (ps : List Text) (ts : List Ty)
    → name_faults_in d ps (symbols_of_types (tys ts)) ≡ flat_map (faults_in_type d ps) ts
faults_in_types d ps [] = refl
faults_in_types d ps (t ∷ ts) =
    joined (own_name_fault d ps) (symbols_of_type t) (symbols_of_types (tys ts))
    ∙ ap (λ l. faults_in_type d ps t ++ l) (faults_in_types d ps ts)

-- names in a list of types are resolved type by type
pub resolved_types-each : (d : DefinedNames) (ps : List Text) (ts : List Ty)
    → tys (map (resolved_type d ps) ts) ≡ resolved_types d ps (tys ts)
resolved_types-each d ps [] = refl
resolved_types-each d ps (t ∷ ts) = ap (λ l. Tys.more (resolved_type d ps t) l) (resolved_types-each d ps ts)
