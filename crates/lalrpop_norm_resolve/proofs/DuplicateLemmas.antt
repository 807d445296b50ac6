-- What the search for a rule whose name is shared says of duplicates; for `resolve`.
use Rattle.std.proofs.Common.{◌≡◌, ◌∙◌, sym, inl, inr, refl, subst}
use Rattle.std.specs.Prelude.{Some, None}
use Rattle.std.proofs.lemmas.Bool.{true≢false}
use Rattle.lalrpop_grammar_symbols.specs.Symbols.{Text, TextSpan}
use Rattle.lalrpop_grammar.specs.WrittenGrammar.{Grammar, Rule, rules_of}
use Rattle.lalrpop_grammar_language.specs.Enabled.{has_text, bares_of}
use Rattle.lalrpop_norm_theory.specs.Resolving.{defined_names}
use Rattle.lalrpop_grammar_repr.specs.declared.session.NormFault.{NormFault}
use Rattle.lalrpop_norm_theory.specs.NameFaults.{IsDuplicate, IsTwice}
use Rattle.lalrpop_norm_resolve.specs.FoundFaults.{FoundFault, HasRightRules, IsNameFault, TellsOneOf, IsTwiceIn, StandsInGrammar}
use Rattle.lalrpop_norm_resolve.specs.Searches.{first_shared_rule}
use Rattle.lalrpop_norm_resolve.proofs.FaultListLemmas.{one_of-map}
use Rattle.lalrpop_norm_resolve.proofs.KnownLemmas.{found_known, found_among, none_known, none_before}

-- the rule that is found shares its name
pub shared_rule_stands : (g : Grammar) (r : Rule) → first_shared_rule g ≡ Some r → IsDuplicate g r.name r.span
shared_rule_stands g r e =
    let w = found_known (λ q. q.name) (λ n. has_text n (bares_of g.items)) (rules_of g.items) r e in
    elim w.shared [
      | inl k ↦ IsDuplicate.of_mapped r (found_among (λ q. q.name) (λ n. has_text n (bares_of g.items)) (rules_of g.items) r w) k
      | inr k ↦ IsDuplicate.of_rules w.before r w.after w.split k
    ]

-- where none is found and no rule has a parameter twice, there is no duplicate
pub no_duplicate : (g : Grammar) → first_shared_rule g ≡ None → HasRightRules (defined_names g) (rules_of g.items)
    → (n : Text) (p : TextSpan) → IsDuplicate g n p → ⊥
no_duplicate g e w n p (IsDuplicate.of_rules before r after split h) =
    true≢false (sym h ∙ none_before (λ q. q.name) (λ n. has_text n (bares_of g.items)) (rules_of g.items) e before r after split)
no_duplicate g e w n p (IsDuplicate.of_mapped r i h) =
    true≢false (sym h ∙ none_known (λ q. q.name) (λ n. has_text n (bares_of g.items)) (rules_of g.items) e r i)
no_duplicate g e w n p (IsDuplicate.of_parameters r m i h) = (w r i).parameters m h

-- and what is told of it stands
pub shared_rule_told : (g : Grammar) (r : Rule) (e : NormFault) → first_shared_rule g ≡ Some r
    → TellsOneOf (λ f. f ≡ FoundFault.duplicate r.name r.span) e → IsNameFault g e
shared_rule_told g r e found told =
    one_of-map (λ f. f ≡ FoundFault.duplicate r.name r.span) (StandsInGrammar g)
    (λ f s. subst (StandsInGrammar g) (sym s) (shared_rule_stands g r found)) e told

-- a parameter that stands twice is told
pub twice_told : (r : Rule) (n : Text) (e : NormFault) → IsTwice n r.parameters
    → TellsOneOf (λ f. f ≡ FoundFault.duplicate n r.span) e → TellsOneOf (IsTwiceIn r) e
twice_told r n e twice told =
    one_of-map (λ f. f ≡ FoundFault.duplicate n r.span) (IsTwiceIn r) (λ f s. subst (IsTwiceIn r) (sym s) (twice, refl)) e told
