-- Computed examples of the faults of names that the pass may tell, and of the search for names that two rules share.
use Prim.Native.String.{String}
use Rattle.std.proofs.Common.{◌≡◌, ℕ, List, [], ◌∷◌, refl, ap, arith, true, inl, inr}
use Rattle.std.specs.Prelude.{Some, None, codes, option_map}
use Rattle.lalrpop_grammar_symbols.specs.Symbols.{Sym, Text, TextSpan, WrittenSymbol}
use Rattle.lalrpop_grammar.specs.WrittenGrammar.{Grammar, Rule, WrittenItem}
use Rattle.lalrpop_grammar_language.proofs.WrittenTreeLemmas.{alt, grammar, maps, texts}
use Rattle.lalrpop_grammar_repr.specs.declared.norm_error.NormErrorKind.{NormErrorKind}
use Rattle.lalrpop_grammar_repr.specs.declared.norm_error.NormErrorKind.TheVariants as kinds
use Rattle.lalrpop_grammar_repr.specs.declared.session.NormFault.{NormFault}
use Rattle.lalrpop_grammar_repr.specs.declared.session.NormFault.TheVariants as faults
use Rattle.lalrpop_norm_theory.specs.NameFaults.{IsDuplicate, NameFault}
use Rattle.lalrpop_norm_resolve.specs.FoundFaults.{IsNameFault}
use Rattle.lalrpop_norm_resolve.specs.Searches.{first_shared_rule}

-- a rule at a span of its own, with these parameters and symbols
abbrev rule_at : ℕ → String → List String → List WrittenSymbol → WrittenItem
rule_at k n parameters symbols = WrittenItem.nonterminal (record {
  public = true;
  name = codes n;
  attributes = [];
  span = (k, 8);
  parameters = texts parameters;
  declared = None;
  alternatives = alt symbols ∷ [];
})

abbrev id_at : ℕ → String → WrittenSymbol
id_at k n = Sym.ambiguous_id (k, 9) (codes n)

-- a fault of that kind, told from byte k to byte m
abbrev told : NormErrorKind → ℕ → ℕ → NormFault
told kind k m = faults.Norm (record { kind = kind; span = record { 0 = k; 1 = m } })

-- match { "n" => NUM } S = Y M NUM; M<T> = T
abbrev unknown_and_misused : Grammar
unknown_and_misused = grammar (maps "n" "NUM"
    ∷ rule_at 1 "S" [] (id_at 5 "Y" ∷ id_at 6 "M" ∷ id_at 7 "NUM" ∷ [])
    ∷ rule_at 2 "M" ("T" ∷ []) (id_at 8 "T" ∷ []) ∷ [])

unknown_told : IsNameFault unknown_and_misused (told (kinds.NoDefinition (codes "Y")) 5 9)
unknown_told = inl refl

misused_told : IsNameFault unknown_and_misused (told kinds.MacroAsRule 6 9)
misused_told = inr (inl refl)

abbrev end_of : NameFault → ℕ
end_of (NameFault.unknown n p) = p.1
end_of (NameFault.misused p) = p.1

-- not elsewhere, not of what has a definition, and not as another fault
not_elsewhere : IsNameFault unknown_and_misused (told (kinds.NoDefinition (codes "Y")) 5 8) → ⊥
not_elsewhere (inl e) = let ends : 9 ≡ 8 = ap end_of e in omega (arith, ends)
not_elsewhere (inr (inl e)) = cc
not_elsewhere (inr (inr e)) = e

not_the_mapped_name : IsNameFault unknown_and_misused (told (kinds.NoDefinition (codes "NUM")) 7 9) → ⊥
not_the_mapped_name (inl e) = cc
not_the_mapped_name (inr (inl e)) = cc
not_the_mapped_name (inr (inr e)) = e

not_of_another_pass : IsNameFault unknown_and_misused (told kinds.SecondMatchBlock 5 9) → ⊥
not_of_another_pass h = h

not_the_limit : IsNameFault unknown_and_misused faults.ConditionLimit → ⊥
not_the_limit h = h

-- memory may run out on any grammar
memory_told : IsNameFault unknown_and_misused faults.Memory
memory_told = tt

-- the later of two rules is found, and of two such pairs the one whose later rule stands first
abbrev name_and_place : Rule → Text × TextSpan
name_and_place r = (r.name, r.span)

later_rule : option_map name_and_place (first_shared_rule (grammar (rule_at 1 "A" [] [] ∷ rule_at 2 "B" [] []
    ∷ rule_at 3 "B" [] [] ∷ rule_at 4 "A" [] [] ∷ [])))
    ≡ Some (codes "B", (3, 8))
later_rule = refl

-- a rule with the name of a mapped bare name is found, wherever the match block stands
mapped_name : option_map name_and_place (first_shared_rule (grammar (rule_at 1 "A" [] []
    ∷ rule_at 2 "NUM" ("T" ∷ []) [] ∷ maps "n" "NUM" ∷ [])))
    ≡ Some (codes "NUM", (2, 8))
mapped_name = refl

-- a parameter may have a rule's name
none_shared : first_shared_rule (grammar (maps "n" "NUM"
    ∷ rule_at 1 "A" [] [] ∷ rule_at 2 "M" ("A" ∷ "NUM" ∷ []) [] ∷ [])) ≡ None
none_shared = refl

-- the same name twice among parameters is told at the rule, and not at another
twice_told : IsNameFault (grammar (rule_at 1 "M" ("T" ∷ "T" ∷ []) [] ∷ [])) (told (kinds.DuplicateDefinition (codes "T")) 1 8)
twice_told = IsDuplicate.of_parameters _ (codes "T") (inl refl) (inl (refl, refl))
