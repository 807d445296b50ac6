-- Names listed under the names that begin with them: for the lists by which marks are closed.
use Rattle.std.proofs.Common.{◌≡◌, ◌∙◌, ◌⊎◌, ℕ, ◌+◌, ◌<◌, ◌≤◌, List, [], ◌∷◌, ◌++◌, length, take, set, get_or}
use Rattle.std.proofs.Common.{refl, sym, ap, subst, inl, inr, ⊎_elim, Contains, None, Some}
use Rattle.std.specs.Prelude.{flat_map, slice_index_or}
use Rattle.std.proofs.lemmas.Grind.{flat_map-append}
use Rattle.std.proofs.lemmas.List.{append-nil, take_all}
use Rattle.std.proofs.lemmas.List.Elements.{Contains-append_cases, Contains-append_left, Contains-append_right}
use Rattle.lalrpop_lr1_theory.proofs.ListLemmas.{contains_here, contains_split}
use Rattle.lalrpop_lr1_first.specs.FirstNumbers.{name_count}
use Rattle.lalrpop_lr1_first.specs.declared.numbered.Numbered.{Numbered}
use Rattle.lalrpop_lr1_first.specs.declared.place.NumberedRule.{NumberedRule}
use Rattle.lalrpop_lr1_first.proofs.ListLemmas.{at_set_other, at_set_same, set_long}
use Rattle.lalrpop_sets.proofs.AscendingListLemmas.{cases_eq}
use Rattle.lalrpop_lr1_check_lookaheads.proofs.GainLemmas.{taken_one}
use Rattle.lalrpop_lr1_theory.proofs.NameLemmas.{no_element}
use Rattle.lalrpop_lr1_check.specs.BeginClauses.{begin_of_rule, begin_to}
use Rattle.lalrpop_lr1_check.specs.BeginLists.{AddsBegins, AreBeginLists, ListsBegins}

-- no name
pub adds_no_name : (from : ℕ) (lists : List (List ℕ)) → AddsBegins (begin_to from None) lists lists
adds_no_name from lists = record {
  count = refl;
  added = λ n s. (λ c. inl c, λ d. ⊎_elim (λ c. c) (λ c. absurd (no_element (n ∷ [], s) c)) d);
}

pub only_clause : (c d : List ℕ × ℕ) → Contains (c ∷ []) d → c ≡ d
only_clause c d h = ⊎_elim (λ e. e) (λ n. absurd (no_element d n)) (contains_split c d [] h)

pub first_of : (from n : ℕ) (s t : ℕ) → ◌≡◌ {A = List ℕ × ℕ} (from ∷ [], s) (n ∷ [], t) → (from ≡ n) × (s ≡ t)
first_of from n s t e = (one_is from n (ap (λ q. q.0) e), ap (λ q. q.1) e)
  where
    one_is : (a b : ℕ) → ◌≡◌ {A = List ℕ} (a ∷ []) (b ∷ []) → a ≡ b
    one_is a b f = cc

-- a name
pub adds_name : (from name : ℕ) (old new : List (List ℕ)) → from < length old →
    new ≡ set old from (slice_index_or old from [] ++ name ∷ []) → AddsBegins (begin_to from (Some name)) old new
adds_name from name old new within is = record {
  count = ap length is ∙ set_long old from (slice_index_or old from [] ++ name ∷ []);
  added = λ n s. (forth n s, back n s);
}
  where
    here : slice_index_or new from [] ≡ slice_index_or old from [] ++ name ∷ []
    here = ap (λ l. slice_index_or l from []) is ∙ at_set_same old from (slice_index_or old from [] ++ name ∷ []) within

    other : (n : ℕ) → (from ≡ n → ⊥) → slice_index_or new n [] ≡ slice_index_or old n []
    other n a = ap (λ l. slice_index_or l n []) is ∙ at_set_other old from n (slice_index_or old from [] ++ name ∷ []) a

    last : (s : ℕ) → Contains (name ∷ []) s → name ≡ s
    last s c = ⊎_elim (λ e. e) (λ d. absurd (no_element s d)) (contains_split name s [] c)

    forth : (n s : ℕ) → Contains (slice_index_or new n []) s →
        Contains (slice_index_or old n []) s ⊎ Contains (begin_to from (Some name)) (n ∷ [], s)
    forth n s c = ⊎_elim
        (λ (z : from ≡ n). ⊎_elim
        (λ d. inl (subst (λ k. Contains (slice_index_or old k []) s) z d))
        (λ d. inr (subst (λ k. Contains (begin_to from (Some name)) (k ∷ [], s)) z
        (subst (λ t. Contains (begin_to from (Some name)) (from ∷ [], t)) (last s d) (contains_here (from ∷ [], name) []))))
        (Contains-append_cases (slice_index_or old from []) (name ∷ []) s
        (subst (λ l. Contains l s) here (subst (λ k. Contains (slice_index_or new k []) s) (sym z) c))))
        (λ a. inl (subst (λ l. Contains l s) (other n a) c)) (cases_eq from n)

    back : (n s : ℕ) → Contains (slice_index_or old n []) s ⊎ Contains (begin_to from (Some name)) (n ∷ [], s) →
        Contains (slice_index_or new n []) s
    back n s (inl c) = ⊎_elim
        (λ (z : from ≡ n). subst (λ k. Contains (slice_index_or new k []) s) z (subst (λ l. Contains l s) (sym here)
        (Contains-append_left (slice_index_or old from []) (name ∷ []) s
        (subst (λ k. Contains (slice_index_or old k []) s) (sym z) c))))
        (λ a. subst (λ l. Contains l s) (sym (other n a)) c) (cases_eq from n)
    back n s (inr c) =
        let p = first_of from n name s (only_clause (from ∷ [], name) (n ∷ [], s) c) in
        subst (λ k. Contains (slice_index_or new k []) s) p.0 (subst (λ t. Contains (slice_index_or new from []) t) p.1
        (subst (λ l. Contains l name) (sym here)
        (Contains-append_right (slice_index_or old from []) (name ∷ []) name (contains_here name []))))

-- what was added to lists of some clauses
pub lists_more : (cs ds : List (List ℕ × ℕ)) (old new : List (List ℕ)) → ListsBegins cs old → AddsBegins ds old new →
    ListsBegins (cs ++ ds) new
lists_more cs ds old new are adds from s = (
  λ c. ⊎_elim
      (λ d. Contains-append_left cs ds (from ∷ [], s) ((are from s).0 d))
      (λ d. Contains-append_right cs ds (from ∷ [], s) d) ((adds.added from s).0 c),
  λ c. (adds.added from s).1 (⊎_elim (λ d. inl ((are from s).1 d)) (λ d. inr d) (Contains-append_cases cs ds (from ∷ [], s) c)),
)

-- empty lists have no clauses
pub lists_none : (lists : List (List ℕ)) → ((s : ℕ) → slice_index_or lists s [] ≡ []) → ListsBegins [] lists
lists_none lists empty from s =
    (λ c. absurd (no_element s (subst (λ l. Contains l s) (empty from) c)), λ c. absurd (no_element (from ∷ [], s) c))

module _ (table : Numbered) where
  abbrev rules : List NumberedRule
  rules = table.rules.items

  -- one rule more
  pub begins_more : (i : ℕ) (rule : NumberedRule) (old new : List (List ℕ)) → i < length rules → rule ≡ get_or rules i rule →
      ListsBegins (flat_map (begin_of_rule table) (take i rules)) old → AddsBegins (begin_of_rule table rule) old new →
      ListsBegins (flat_map (begin_of_rule table) (take (i + 1) rules)) new
  begins_more i rule old new l e are adds =
      let split : flat_map (begin_of_rule table) (take (i + 1) rules)
      ≡ flat_map (begin_of_rule table) (take i rules) ++ begin_of_rule table rule =
      ap (flat_map (begin_of_rule table)) (taken_one rules i rule l e)
      ∙ flat_map-append (begin_of_rule table) (take i rules) (rule ∷ [])
      ∙ ap (λ l. flat_map (begin_of_rule table) (take i rules) ++ l) (append-nil (begin_of_rule table rule)) in
      subst (λ cs. ListsBegins cs new) (sym split)
      (lists_more (flat_map (begin_of_rule table) (take i rules)) (begin_of_rule table rule) old new are adds)

  -- all rules
  pub begins_end : (i : ℕ) (lists : List (List ℕ)) → length rules ≤ i → length lists ≡ name_count table →
      ListsBegins (flat_map (begin_of_rule table) (take i rules)) lists → AreBeginLists table lists
  begins_end i lists h long are = record {
    long = long;
    begins = subst (λ rs. ListsBegins (flat_map (begin_of_rule table) rs) lists) (take_all i rules h) are;
  }
