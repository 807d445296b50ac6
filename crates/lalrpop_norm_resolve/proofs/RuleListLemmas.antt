-- Rules that are right and faults that stand among rules, item by item; for `resolve`.
use Rattle.std.proofs.Common.{◌≡◌, ◌∙◌, ap, sym, refl, inl, inr, subst, List, [], ◌∷◌, ◌++◌}
use Rattle.std.specs.Prelude.{None}
use Rattle.lalrpop_grammar.specs.WrittenGrammar.{Grammar, Rule, WrittenItem, rules_of}
use Rattle.lalrpop_grammar_language.specs.Among.{Among}
use Rattle.lalrpop_grammar_repr.specs.declared.session.NormFault.{NormFault}
use Rattle.lalrpop_grammar_language.proofs.AmongLemmas.{flat_map_among}
use Rattle.lalrpop_grammar_language.proofs.StepLemmas.{among_right}
use Rattle.lalrpop_grammar_language.proofs.StepLemmas.{among_left}
use Rattle.lalrpop_grammar_language.proofs.OrderLemmas.{among_parts}
use Rattle.lalrpop_norm_theory.specs.Resolving.{DefinedNames, defined_names}
use Rattle.lalrpop_norm_theory.specs.NameFaults.{HasRightNames, IsDuplicate, name_faults_in_rule}
use Rattle.lalrpop_norm_theory.proofs.FaultLemmas.{nil_from}
use Rattle.lalrpop_norm_resolve.specs.FoundFaults.{AmongFaults, FoundFault, HasRightRule, HasRightRules, IsNameFault, TellsOneOf, IsTwiceIn}
use Rattle.lalrpop_norm_resolve.specs.FoundFaults.{StandsInGrammar, StandsInRule, StandsInRules}
use Rattle.lalrpop_norm_resolve.specs.Searches.{first_shared_rule}
use Rattle.lalrpop_norm_resolve.proofs.DuplicateLemmas.{no_duplicate}
use Rattle.lalrpop_norm_resolve.proofs.FaultListLemmas.{one_of-map}

-- the rules of the first item stand in front
pub rules_front : (x : WrittenItem) (xs : List WrittenItem) → rules_of (x ∷ xs) ≡ rules_of (x ∷ []) ++ rules_of xs
rules_front (WrittenItem.nonterminal r) xs = refl
rules_front (WrittenItem.match_token groups place) xs = refl
rules_front (WrittenItem.extern_token block) xs = refl
rules_front (WrittenItem.intern_token entries) xs = refl
rules_front (WrittenItem.import text) xs = refl

-- each rule of the one list is one of the other
abbrev pub AreAmong : List Rule → List Rule → Type 0
AreAmong rs all = (r : Rule) → Among rs r → Among all r

module _ (d : DefinedNames) (all : List Rule) (left rest : List WrittenItem) (x : WrittenItem) (here : left ≡ x ∷ rest) where
  split : rules_of left ≡ rules_of (x ∷ []) ++ rules_of rest
  split = ap rules_of here ∙ rules_front x rest

  pub rest_among : AreAmong (rules_of left) all → AreAmong (rules_of rest) all
  rest_among w r i = w r (subst (λ l. Among l r) (sym split) (among_right (rules_of (x ∷ [])) (rules_of rest) r i))

  pub first_among : AreAmong (rules_of left) all → AreAmong (rules_of (x ∷ [])) all
  first_among w r i = w r (subst (λ l. Among l r) (sym split) (among_left (rules_of (x ∷ [])) (rules_of rest) r i))

  pub fault_of_item : AreAmong (rules_of left) all → (e : NormFault) → TellsOneOf (StandsInRules d (rules_of (x ∷ []))) e
      → TellsOneOf (StandsInRules d all) e
  fault_of_item w e h =
      one_of-map (StandsInRules d (rules_of (x ∷ []))) (StandsInRules d all) (λ f s. (s.0, first_among w s.0 s.1, s.2)) e h

  -- where the next item's rules are right, those behind it are all that is left to see
  pub right_rest : (HasRightRules d (rules_of left) → HasRightRules d all) → HasRightRules d (rules_of (x ∷ []))
      → HasRightRules d (rules_of rest) → HasRightRules d all
  right_rest w first behind =
      w (λ r i. elim (among_parts (rules_of (x ∷ [])) (rules_of rest) r (subst (λ l. Among l r) split i)) [
        | inl j ↦ first r j
        | inr j ↦ behind r j
      ])

-- a rule alone

pub right_alone : (d : DefinedNames) (r : Rule) → HasRightRule d r → HasRightRules d (r ∷ [])
right_alone d r w q (inl e) = subst (HasRightRule d) e w
right_alone d r w q (inr i) = absurd i

-- a fault that stands in a rule stands in the list of that rule alone
pub fault_alone : (d : DefinedNames) (r : Rule) (e : NormFault) → TellsOneOf (StandsInRule d r) e
    → TellsOneOf (StandsInRules d (r ∷ [])) e
fault_alone d r e h = one_of-map (StandsInRule d r) (StandsInRules d (r ∷ [])) (λ f s. (r, inl refl, s)) e h

-- faults of a rule

twice_stands : (d : DefinedNames) (r : Rule) (f : FoundFault) → IsTwiceIn r f → StandsInRule d r f
twice_stands d r (FoundFault.duplicate n p) h = h
twice_stands d r (FoundFault.misnamed f) h = absurd h
twice_stands d r FoundFault.other h = h

-- a name that two parameters of the rule share is a fault that stands in the rule
pub twice_in_rule : (d : DefinedNames) (r : Rule) (e : NormFault) → TellsOneOf (IsTwiceIn r) e → TellsOneOf (StandsInRule d r) e
twice_in_rule d r e h = one_of-map (IsTwiceIn r) (StandsInRule d r) (twice_stands d r) e h

listed_stands : (d : DefinedNames) (r : Rule) (f : FoundFault) → AmongFaults (name_faults_in_rule d r) f → StandsInRule d r f
listed_stands d r (FoundFault.duplicate n p) h = absurd h
listed_stands d r (FoundFault.misnamed f) h = h
listed_stands d r FoundFault.other h = h

-- a fault that is listed for the rule stands in the rule
pub listed_in_rule : (d : DefinedNames) (r : Rule) (e : NormFault) → TellsOneOf (AmongFaults (name_faults_in_rule d r)) e
    → TellsOneOf (StandsInRule d r) e
listed_in_rule d r e h = one_of-map (AmongFaults (name_faults_in_rule d r)) (StandsInRule d r) (listed_stands d r) e h

-- faults of a grammar

module _ (g : Grammar) where
  stands : (f : FoundFault) → StandsInRules (defined_names g) (rules_of g.items) f → StandsInGrammar g f
  stands (FoundFault.duplicate n p) s =
      subst (IsDuplicate g n) s.2.1 (IsDuplicate.of_parameters s.0 n s.1 s.2.0)
  stands (FoundFault.misnamed f) s =
      flat_map_among (name_faults_in_rule (defined_names g)) (rules_of g.items) s.0 f s.1 s.2
  stands FoundFault.other s = s.2

  pub fault_of_rules : (e : NormFault) → TellsOneOf (StandsInRules (defined_names g) (rules_of g.items)) e → IsNameFault g e
  fault_of_rules e h = one_of-map (StandsInRules (defined_names g) (rules_of g.items)) (StandsInGrammar g) stands e h

  -- where no rule shares its name and each is right, nothing is wrong with the grammar's names
  pub right_names : first_shared_rule g ≡ None → HasRightRules (defined_names g) (rules_of g.items) → HasRightNames g
  right_names e w = record {
    no_duplicates = no_duplicate g e w;
    no_faults = nil_from (name_faults_in_rule (defined_names g)) (rules_of g.items) (λ r i. (w r i).no_faults);
  }
