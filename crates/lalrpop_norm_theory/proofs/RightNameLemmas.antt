-- Where nothing is wrong with a grammar's names, resolving them makes a resolved grammar; for resolving.
use Rattle.std.specs.Str.{bytes_eq}
use Rattle.std.proofs.Common.{◌≡◌, List, [], ◌∷◌, ◌++◌, refl, ap, sym, ◌∙◌, subst, cond, Bool, true, false, inl, inr}
use Rattle.std.specs.Prelude.{Option, map, filter, not, ◌||◌}
use Rattle.lalrpop_grammar_symbols.specs.Symbols.{Text, TextSpan}
use Rattle.lalrpop_grammar.specs.WrittenGrammar.{Rule, Grammar, rules_of}
use Rattle.lalrpop_grammar_language.specs.Among.{Among}
use Rattle.lalrpop_grammar_language.specs.Enabled.{EnabledGrammar, EnabledRule, IsRule, has_text, has_name}
use Rattle.lalrpop_grammar_language.proofs.PlaceLemmas.{same_text-eq, among_filter, among_map}
use Rattle.lalrpop_grammar_language.proofs.ComparisonLemmas.{same_text-refl}
use Rattle.lalrpop_norm_theory.specs.Between.{rule_between, grammar_between}
use Rattle.lalrpop_norm_theory.specs.Premises.{AreDifferent}
use Rattle.lalrpop_grammar_language.proofs.AmongLemmas.{map_among}
use Rattle.lalrpop_norm_theory.specs.Resolving.{DefinedNames, has_parameters, defined_names}
use Rattle.lalrpop_norm_theory.specs.Resolving.{resolved_rule, resolved_grammar}
use Rattle.lalrpop_norm_theory.specs.NameFaults.{IsTwice, IsDuplicate}
use Rattle.lalrpop_norm_theory.specs.NameFaults.{HasRightNames}
use Rattle.lalrpop_norm_theory.proofs.NameUseLemmas.{text_test-sym, not_among, is_among, none_of_name, no_parameters, some_parameters}
use Rattle.lalrpop_norm_theory.proofs.ResolvingLemmas.{rules_resolved, bares_resolved}
use Rattle.lalrpop_norm_theory.proofs.FaultLemmas.{DefinesNames}

-- the name of a rule, to be mapped over lists of rules
abbrev pub name_of : Rule → Text
name_of r = r.name

-- names that stand once

later_twin : (n : Text) (rs : List Rule) → has_text n (map name_of rs) ≡ true →
    (b : List Rule) × (r : Rule) × (a : List Rule) × (rs ≡ b ++ r ∷ a) × (n ≡ r.name)
later_twin n [] e = cc
later_twin n (q ∷ qs) e = go (bytes_eq n q.name) refl e (later_twin n qs)
  where
    go : (t : Bool) → bytes_eq n q.name ≡ t → (t || has_text n (map name_of qs)) ≡ true →
        (has_text n (map name_of qs) ≡ true →
        (b : List Rule) × (r : Rule) × (a : List Rule) × (qs ≡ b ++ r ∷ a) × (n ≡ r.name)) →
        (b : List Rule) × (r : Rule) × (a : List Rule) × (q ∷ qs ≡ b ++ r ∷ a) × (n ≡ r.name)
    go true same h later = ([], q, qs, refl, same_text-eq n q.name same)
    go false same h later = let w = later h in (q ∷ w.0, w.1, w.2, ap (λ l. q ∷ l) w.3, w.4)

-- the names of a list have another rule's name where a rule of the list bears it
pub has_earlier : (pre b : List Rule) (r q : Rule) → q.name ≡ r.name → has_text q.name (map name_of (pre ++ r ∷ b)) ≡ true
has_earlier [] b r q e =
    ap (λ (m : Text). bytes_eq q.name m || has_text q.name (map name_of b)) (sym e)
    ∙ ap (λ (t : Bool). t || has_text q.name (map name_of b)) (same_text-refl q.name)
has_earlier (p ∷ pre) b r q e = go (bytes_eq q.name p.name) (has_earlier pre b r q e)
  where
    go : (t : Bool) → has_text q.name (map name_of (pre ++ r ∷ b)) ≡ true →
        (t || has_text q.name (map name_of (pre ++ r ∷ b))) ≡ true
    go true h = refl
    go false h = h

joined_once : {A : Type 0} (xs : List A) (y : A) (ys zs : List A) → xs ++ y ∷ (ys ++ zs) ≡ (xs ++ y ∷ ys) ++ zs
joined_once [] y ys zs = refl
joined_once (x ∷ xs) y ys zs = ap (λ l. x ∷ l) (joined_once xs y ys zs)

-- where the grammar has no duplicates the names of the last so many of its rules are different
pub different : (g : Grammar) → ((n : Text) (p : TextSpan) → IsDuplicate g n p → ⊥) → (pre rs : List Rule) →
    rules_of g.items ≡ pre ++ rs → AreDifferent (map name_of rs)
different g d pre [] e = tt
different g d pre (r ∷ rs) e =
    (go (has_text r.name (map name_of rs)) refl, different g d (pre ++ r ∷ []) rs (e ∙ joined_once pre r [] rs))
  where
    go : (t : Bool) → has_text r.name (map name_of rs) ≡ t → t ≡ false
    go false h = refl
    go true h =
        let w = later_twin r.name rs h in
        absurd (d w.1.name w.1.span (IsDuplicate.of_rules (pre ++ r ∷ w.0) w.1 w.2
        (e ∙ ap (λ l. pre ++ r ∷ l) w.3 ∙ joined_once pre r w.0 (w.1 ∷ w.2)) (has_earlier pre w.0 r w.1 (sym w.4))))

-- a list of parameters in which no name is twice has different names
pub different_parameters : (ps : List Text) → ((n : Text) → IsTwice n ps → ⊥) → AreDifferent ps
different_parameters [] h = tt
different_parameters (p ∷ ps) h = (go (has_text p ps) refl, different_parameters ps (λ n t. h n (inr t)))
  where
    go : (t : Bool) → has_text p ps ≡ t → t ≡ false
    go false e = refl
    go true e = absurd (h p (inl (refl, e)))

only_rule : (rs : List Rule) → AreDifferent (map name_of rs) → (q : Rule) → Among rs q →
    filter (has_name q.name) (map rule_between rs) ≡ rule_between q ∷ []
only_rule [] d q i = absurd i
only_rule (t ∷ ts) d q (inl e) =
    subst (λ (s : Rule). filter (has_name s.name) (map rule_between (t ∷ ts)) ≡ rule_between s ∷ []) e own
  where
    others : List EnabledRule
    others = filter (has_name t.name) (map rule_between ts)

    none : others ≡ []
    none = none_of_name t.name (map rule_between ts) (λ r i.
        let w = among_map rule_between ts r i in
        ap (λ (s : EnabledRule). bytes_eq s.name t.name) (sym w.2) ∙ text_test-sym (w.0).name t.name
        ∙ not_among name_of t.name ts w.0 d.0 w.1)

    own : cond (bytes_eq t.name t.name) (rule_between t ∷ others) others ≡ rule_between t ∷ []
    own = ap (λ (b : Bool). cond b (rule_between t ∷ others) others) (same_text-refl t.name) ∙ ap (λ l. rule_between t ∷ l) none
only_rule (t ∷ ts) d q (inr i) =
    ap (λ (b : Bool). cond b (rule_between t ∷ filter (has_name q.name) (map rule_between ts))
    (filter (has_name q.name) (map rule_between ts))) (not_among name_of t.name ts q d.0 i) ∙ only_rule ts d.1 q i

-- rules keep their own names where names in them are resolved
pub same_names : (d : DefinedNames) (rs : List Rule) → map name_of (map (resolved_rule d) rs) ≡ map name_of rs
same_names d [] = refl
same_names d (r ∷ rs) = ap (λ l. r.name ∷ l) (same_names d rs)

-- each rule of the resolved grammar stands for its name
module _ (finds : Text → Text → Option Bool) (g : Grammar) (right : HasRightNames g) where
  abbrev names : DefinedNames
  names = defined_names g

  abbrev after : EnabledGrammar
  after = grammar_between finds (resolved_grammar g)

  pub stands_once : (q : Rule) → Among (rules_of g.items) q → IsRule after q.name (rule_between (resolved_rule names q))
  stands_once q i =
      ap (λ (rs : List Rule). filter (has_name q.name) (map rule_between rs)) (rules_resolved names g.items)
      ∙ only_rule (map (resolved_rule names) (rules_of g.items))
      (subst AreDifferent (sym (same_names names (rules_of g.items))) (different g right.no_duplicates [] (rules_of g.items) refl))
      (resolved_rule names q) (map_among (resolved_rule names) (rules_of g.items) q i)

  pub defines : DefinesNames names after
  defines = record {
    plain = λ n e. let w = is_among name_of n (filter (λ (q : Rule). not (has_parameters q)) (rules_of g.items)) e in
        let f = among_filter (λ (q : Rule). not (has_parameters q)) (rules_of g.items) w.0 w.1 in (
          rule_between (resolved_rule names w.0),
          subst (λ (m : Text). IsRule after m (rule_between (resolved_rule names w.0))) (sym w.2) (stands_once w.0 f.0),
          no_parameters w.0 f.1,
        );
    macros = λ n e. let w = is_among name_of n (filter has_parameters (rules_of g.items)) e in
        let f = among_filter has_parameters (rules_of g.items) w.0 w.1 in (
          rule_between (resolved_rule names w.0),
          subst (λ (m : Text). IsRule after m (rule_between (resolved_rule names w.0))) (sym w.2) (stands_once w.0 f.0),
          some_parameters w.0 f.1,
        );
    bares = bares_resolved names g.items;
  }
