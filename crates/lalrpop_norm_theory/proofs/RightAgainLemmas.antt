-- Nothing is wrong with the names of a grammar whose right names were resolved; for resolving.
use Rattle.std.specs.Str.{bytes_eq}
use Rattle.std.proofs.Common.{◌≡◌, List, [], ◌∷◌, ◌++◌, refl, ap, sym, ◌∙◌, subst, cond, Bool, true, false}
use Rattle.std.specs.Prelude.{Option, Some, None, map, filter, flat_map, not, option_map, ◌||◌}
use Rattle.std.proofs.lemmas.Bool.{true≢false}
use Rattle.lalrpop_grammar_symbols.specs.Symbols.{Text, TextSpan, syms}
use Rattle.lalrpop_grammar_symbols.specs.Subsymbols.{subsymbols_of}
use Rattle.lalrpop_grammar.specs.WrittenGrammar.{Ty, Alternative, Rule, Grammar, rules_of}
use Rattle.lalrpop_grammar_language.specs.Among.{Among}
use Rattle.lalrpop_grammar_language.specs.Enabled.{has_text, bares_of}
use Rattle.lalrpop_grammar_language.proofs.PlaceLemmas.{same_text-eq, among_map}
use Rattle.lalrpop_norm_theory.specs.Premises.{AreDifferent, symbols_of_type}
use Rattle.lalrpop_norm_theory.specs.Resolving.{DefinedNames, has_parameters, defined_names, resolved_symbol, resolved_type}
use Rattle.lalrpop_norm_theory.specs.Resolving.{resolved_alternative, resolved_rule, resolved_grammar}
use Rattle.lalrpop_norm_theory.specs.NameFaults.{IsTwice, IsDuplicate, own_name_fault, name_fault_of_condition, name_faults}
use Rattle.lalrpop_norm_theory.specs.NameFaults.{name_faults_in_alternative, name_faults_in_declared, name_faults_in_rule, HasRightNames}
use Rattle.lalrpop_norm_theory.proofs.ResolvingLemmas.{rules_resolved, bares_resolved}
use Rattle.lalrpop_norm_theory.proofs.FaultLemmas.{nil_from}
use Rattle.lalrpop_norm_theory.proofs.RightNameLemmas.{name_of, has_earlier, different, same_names}
use Rattle.lalrpop_norm_theory.proofs.ResolvedLemmas.{alternative_parts, right_in_alternative, right_in_type}

-- defined names stay

plain_kept : (d : DefinedNames) (rs : List Rule) →
    map name_of (filter (λ (q : Rule). not (has_parameters q)) (map (resolved_rule d) rs))
    ≡ map name_of (filter (λ (q : Rule). not (has_parameters q)) rs)
plain_kept d [] = refl
plain_kept d (r ∷ rs) = go (has_parameters r) (plain_kept d rs)
  where
    others : List Rule
    others = filter (λ (q : Rule). not (has_parameters q)) rs

    resolved_others : List Rule
    resolved_others = filter (λ (q : Rule). not (has_parameters q)) (map (resolved_rule d) rs)

    go : (b : Bool) → map name_of resolved_others ≡ map name_of others →
        map name_of (cond (not b) (resolved_rule d r ∷ resolved_others) resolved_others)
        ≡ map name_of (cond (not b) (r ∷ others) others)
    go true h = h
    go false h = ap (λ l. r.name ∷ l) h

macros_kept : (d : DefinedNames) (rs : List Rule) →
    map name_of (filter has_parameters (map (resolved_rule d) rs)) ≡ map name_of (filter has_parameters rs)
macros_kept d [] = refl
macros_kept d (r ∷ rs) = go (has_parameters r) (macros_kept d rs)
  where
    others : List Rule
    others = filter has_parameters rs

    resolved_others : List Rule
    resolved_others = filter has_parameters (map (resolved_rule d) rs)

    go : (b : Bool) → map name_of resolved_others ≡ map name_of others →
        map name_of (cond b (resolved_rule d r ∷ resolved_others) resolved_others) ≡ map name_of (cond b (r ∷ others) others)
    go true h = ap (λ l. r.name ∷ l) h
    go false h = h

names_same : (g : Grammar) → defined_names (resolved_grammar g) ≡ defined_names g
names_same g = λ i. record { plain = plain i; macros = macros i; bares = bares_resolved (defined_names g) g.items i }
  where
    plain : (defined_names (resolved_grammar g)).plain ≡ (defined_names g).plain
    plain =
        ap (λ (rs : List Rule). map name_of (filter (λ (q : Rule). not (has_parameters q)) rs)) (rules_resolved (defined_names g) g.items)
        ∙ plain_kept (defined_names g) (rules_of g.items)

    macros : (defined_names (resolved_grammar g)).macros ≡ (defined_names g).macros
    macros =
        ap (λ (rs : List Rule). map name_of (filter has_parameters rs)) (rules_resolved (defined_names g) g.items)
        ∙ macros_kept (defined_names g) (rules_of g.items)

twice_refused : (before : List Rule) (r : Rule) (after : List Rule) → AreDifferent (map name_of (before ++ r ∷ after)) →
    has_text r.name (map name_of before) ≡ true → ⊥
twice_refused [] r after d h = cc
twice_refused (b ∷ bs) r after d h = go (bytes_eq r.name b.name) refl h (twice_refused bs r after d.1)
  where
    go : (t : Bool) → bytes_eq r.name b.name ≡ t → (t || has_text r.name (map name_of bs)) ≡ true →
        (has_text r.name (map name_of bs) ≡ true → ⊥) → ⊥
    go true e k later = true≢false (sym (has_earlier bs after r b (sym (same_text-eq r.name b.name e))) ∙ d.0)
    go false e k later = later k

abbrev no_finds : Text → Text → Option Bool
no_finds p t = None

module _ (g : Grammar) (right : HasRightNames g) where
  abbrev names : DefinedNames
  names = defined_names g

  alternative_right : (q : Rule) → Among (rules_of g.items) q → (a : Alternative) → Among q.alternatives a →
      name_faults_in_alternative names q.parameters (resolved_alternative names q.parameters a) ≡ []
  alternative_right q i a j =
      ap (λ l. l ++ name_fault_of_condition q.parameters a.condition)
      (nil_from (own_name_fault names q.parameters) (subsymbols_of (syms (map (resolved_symbol names q.parameters) a.expr)))
      (λ x k. (right_in_alternative no_finds g right q i a j x k).0))
      ∙ (alternative_parts no_finds g right q i a j).1

  declared_right : (q : Rule) → Among (rules_of g.items) q → (o : Option Ty) → q.declared ≡ o →
      name_faults_in_declared names q.parameters (option_map (resolved_type names q.parameters) o) ≡ []
  declared_right q i None f = refl
  declared_right q i (Some t) f =
      nil_from (own_name_fault names q.parameters) (symbols_of_type (resolved_type names q.parameters t))
      (λ x k. (right_in_type no_finds g right q i t f x k).0)

  rule_right : (q : Rule) → Among (rules_of g.items) q → name_faults_in_rule names (resolved_rule names q) ≡ []
  rule_right q i =
      ap (λ l. l ++ flat_map (name_faults_in_alternative names q.parameters) (map
      (resolved_alternative names q.parameters) q.alternatives))
      (declared_right q i q.declared refl)
      ∙ nil_from (name_faults_in_alternative names q.parameters) (map (resolved_alternative names q.parameters) q.alternatives) (λ b k.
      let u = among_map (resolved_alternative names q.parameters) q.alternatives b k in
      subst (λ (c : Alternative). name_faults_in_alternative names q.parameters c ≡ []) u.2 (alternative_right q i u.0 u.1))

  none_wrong : name_faults (resolved_grammar g) ≡ []
  none_wrong =
      ap (λ (d : DefinedNames). flat_map (name_faults_in_rule d) (rules_of (resolved_grammar g).items)) (names_same g)
      ∙ ap (flat_map (name_faults_in_rule names)) (rules_resolved names g.items)
      ∙ nil_from (name_faults_in_rule names) (map (resolved_rule names) (rules_of g.items)) (λ r i.
      let u = among_map (resolved_rule names) (rules_of g.items) r i in
      subst (λ (s : Rule). name_faults_in_rule names s ≡ []) u.2 (rule_right u.0 u.1))

  source : (r : Rule) → Among (rules_of (resolved_grammar g).items) r →
      (q : Rule) × Among (rules_of g.items) q × (resolved_rule names q ≡ r)
  source r i =
      among_map (resolved_rule names) (rules_of g.items) r (subst (λ (rs : List Rule). Among rs r) (rules_resolved names g.items) i)

  all_different : AreDifferent (map name_of (rules_of (resolved_grammar g).items))
  all_different =
      subst (λ (rs : List Rule). AreDifferent (map name_of rs)) (sym (rules_resolved names g.items))
      (subst AreDifferent (sym (same_names names (rules_of g.items))) (different g right.no_duplicates [] (rules_of g.items) refl))

  no_twins : (n : Text) (p : TextSpan) → IsDuplicate (resolved_grammar g) n p → ⊥
  no_twins n p (IsDuplicate.of_rules before r after e h) =
      twice_refused before r after (subst (λ (rs : List Rule). AreDifferent (map name_of rs)) e all_different) h
  no_twins n p (IsDuplicate.of_mapped r i e) =
      let u = source r i in
      right.no_duplicates u.0.name u.0.span (IsDuplicate.of_mapped u.0 u.1
      (ap (λ (t : Rule). has_text t.name (bares_of g.items)) u.2 ∙ ap (has_text r.name) (sym (bares_resolved names g.items)) ∙ e))
  no_twins n p (IsDuplicate.of_parameters r m i t) =
      let u = source r i in
      right.no_duplicates m u.0.span (IsDuplicate.of_parameters u.0 m u.1
      (subst (λ (s : Rule). IsTwice m s.parameters) (sym u.2) t))

  pub right_again : HasRightNames (resolved_grammar g)
  right_again = record { no_duplicates = no_twins; no_faults = none_wrong }
