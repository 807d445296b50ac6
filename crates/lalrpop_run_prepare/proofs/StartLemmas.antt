-- A public rule that is no macro, in a grammar without a fault, is a start of the expansion; for what is prepared.
use Rattle.std.specs.Str.{bytes_eq}
use Rattle.std.specs.List.{cons_option, list_any}
use Rattle.std.specs.Prelude.{Option, Some, None, filter, filter_map, map, not, ◌&&◌, ◌||◌}
use Rattle.std.proofs.Common.{◌≡◌, ◌∙◌, ℕ, List, [], ◌∷◌, Bool, true, false, cond, refl, ap, sym, subst, inl, inr}
use Rattle.lalrpop_grammar_symbols.specs.Symbols.{Text}
use Rattle.lalrpop_grammar.specs.WrittenGrammar.{Grammar, Rule, WrittenItem, rules_of}
use Rattle.lalrpop_grammar_language.specs.Among.{Among}
use Rattle.lalrpop_grammar_language.specs.Enabled.{enabled_grammar, enabled_rule, is_active}
use Rattle.lalrpop_grammar_language.specs.Expansion.{InExpansion, Nonterminal}
use Rattle.lalrpop_grammar_language.specs.Starts.{can_start, has_none, has_start}
use Rattle.lalrpop_grammar_language.proofs.PlaceLemmas.{same_text-eq}
use Rattle.lalrpop_grammar_repr.specs.declared.norm_error.NormErrorKind.TheVariants as kinds
use Rattle.lalrpop_norm.specs.Normalizing.{HasNoWrittenFault, IsWrittenFault}
use Rattle.lalrpop_norm_prevalidate.specs.Faults.{HasNoCheckFault}
use Rattle.lalrpop_norm_theory.specs.Between.{enabled_item, enabled_part, grammar_between, rule_between, without_disabled}
use Rattle.lalrpop_norm_theory.specs.Premises.{IsReadGrammar}
use Rattle.lalrpop_norm_chain.specs.StandingFaults.{IsStandingFault}
use Rattle.lalrpop_norm_theory.specs.NameFaults.{HasRightNames, NameFault, name_faults}
use Rattle.lalrpop_norm_theory.specs.Resolving.{defined_names, resolved_grammar, resolved_rule}
use Rattle.lalrpop_norm_theory.proofs.DroppingLemmas.{dropping_expansion}
use Rattle.lalrpop_norm_theory.proofs.ResolvingLemmas.{resolving_expansion}
use Rattle.lalrpop_norm_theory.proofs.RightNameLemmas.{stands_once}
use Rattle.lalrpop_norm_token_check.proofs.UsedLemmas.{both_true}

none_there : (ps : List Text) → has_none ps ≡ true → ps ≡ []
none_there [] e = refl
none_there (p ∷ ps) e = let wrong : ⊥ = cc in absurd wrong

-- a rule of the name among those that are left, public and without parameters
record IsStartLeft (n : Text) (rules : List Rule) : Type 0 where
  pub rule : Rule
  pub there : Among rules rule
  pub name_is : rule.name ≡ n
  pub no_macro : rule.parameters ≡ []
  pub public : rule.public ≡ true

further : (n : Text) (q : Rule) (rules : List Rule) → IsStartLeft n rules → IsStartLeft n (q ∷ rules)
further n q rules h = record {
  rule = h.rule;
  there = inr h.there;
  name_is = h.name_is;
  no_macro = h.no_macro;
  public = h.public;
}

start_left : (features : List Text) (n : Text) (items : List WrittenItem)
    → list_any (can_start n true) (map (enabled_rule features) (filter (λ (r : Rule). is_active features r.attributes) (rules_of items)))
    ≡ true → IsStartLeft n (rules_of (filter_map (enabled_item features) items))
start_left features n [] e = let wrong : ⊥ = cc in absurd wrong
start_left features n (WrittenItem.match_token entries place ∷ items) e = start_left features n items e
start_left features n (WrittenItem.extern_token block ∷ items) e = start_left features n items e
start_left features n (WrittenItem.intern_token entries ∷ items) e = start_left features n items e
start_left features n (WrittenItem.import text ∷ items) e = start_left features n items e
start_left features n (WrittenItem.nonterminal r ∷ items) e = go (is_active features r.attributes) e (start_left features n items)
  where
    active : List Rule
    active = filter (λ (q : Rule). is_active features q.attributes) (rules_of items)

    left : List WrittenItem
    left = filter_map (enabled_item features) items

    here : (b : Bool) → can_start n true (enabled_rule features r) ≡ b
        → (b || list_any (can_start n true) (map (enabled_rule features) active)) ≡ true
        → (list_any (can_start n true) (map (enabled_rule features) active) ≡ true → IsStartLeft n (rules_of left))
        → IsStartLeft n (enabled_part features r ∷ rules_of left)
    here true s h later =
        let a = both_true (bytes_eq r.name n) (has_none r.parameters && (not true || r.public)) s in
        let b = both_true (has_none r.parameters) (not true || r.public) a.1 in
        record {
          rule = enabled_part features r;
          there = inl refl;
          name_is = same_text-eq r.name n a.0;
          no_macro = none_there r.parameters b.0;
          public = b.1;
        }
    here false s h later = further n (enabled_part features r) (rules_of left) (later h)

    go : (b : Bool)
        → list_any (can_start n true) (map (enabled_rule features) (cond b (r ∷ active) active)) ≡ true
        → (list_any (can_start n true) (map (enabled_rule features) active) ≡ true → IsStartLeft n (rules_of left))
        → IsStartLeft n (rules_of (cons_option (cond b (Some (WrittenItem.nonterminal (enabled_part features r))) None) left))
    go true h later = here (can_start n true (enabled_rule features r)) refl h later
    go false h later = later h

module _ (finds : Text → Text → Option Bool) (deep : Text → Bool) (features : List Text) (limit : ℕ) (w : Grammar)
    (read : IsReadGrammar w) (none : HasNoWrittenFault finds deep features limit w) where
  no_check : HasNoCheckFault w
  no_check kind p h = none.none kind p (IsWrittenFault.standing kind p (IsStandingFault.check kind p h))

  no_fault : (l : List NameFault) → name_faults (without_disabled features w) ≡ l → l ≡ []
  no_fault [] e = refl
  no_fault (NameFault.unknown n p ∷ l) e =
      absurd (none.none (kinds.NoDefinition n) p (IsWrittenFault.standing (kinds.NoDefinition n) p
      (IsStandingFault.no_definition n p no_check (subst (λ k. Among k (NameFault.unknown n p)) (sym e) (inl refl)))))
  no_fault (NameFault.misused p ∷ l) e =
      absurd (none.none kinds.MacroAsRule p (IsWrittenFault.standing kinds.MacroAsRule p
      (IsStandingFault.macro_as_rule p no_check (subst (λ k. Among k (NameFault.misused p)) (sym e) (inl refl)))))

  right_names : HasRightNames (without_disabled features w)
  right_names = record {
    no_duplicates = λ n p d.
        none.none (kinds.DuplicateDefinition n) p (IsWrittenFault.standing (kinds.DuplicateDefinition n) p
        (IsStandingFault.duplicate n p no_check d));
    no_faults = no_fault (name_faults (without_disabled features w)) refl;
  }

  pub start_in_expansion : (n : Text) → has_start n true (enabled_grammar finds features w) ≡ true
      → InExpansion (enabled_grammar finds features w) (Nonterminal.start n)
  start_in_expansion n e =
      let g = without_disabled features w in
      let q = start_left features n w.items e in
      let rule = rule_between (resolved_rule (defined_names g) q.rule) in
      let once = stands_once finds g right_names q.rule q.there in
      let there : InExpansion (grammar_between finds (resolved_grammar g)) (Nonterminal.start q.rule.name) =
      (0, inl (q.rule.name, _, refl, (rule, once, q.no_macro, q.public, refl, refl))) in
      let resolved = resolving_expansion finds g in
      let before = resolved.no_other (Nonterminal.start q.rule.name) there in
      let dropped = dropping_expansion finds features w read in
      let first = dropped.no_other before.0 before.1 in
      subst (λ (x : Nonterminal). InExpansion (enabled_grammar finds features w) x)
      (sym first.2 ∙ sym before.2 ∙ ap Nonterminal.start q.name_is) first.1
