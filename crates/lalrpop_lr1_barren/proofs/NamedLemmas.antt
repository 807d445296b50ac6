-- Productions listed under the numbers of their names: for asking for a name's productions.
use Rattle.std.proofs.Common.{◌≡◌, ◌∙◌, ◌⊎◌, ◌-◌, ℕ, zero, suc, ◌+◌, ◌<◌, ◌≤◌, List, [], ◌∷◌, ◌++◌, length}
use Rattle.std.proofs.Common.{refl, sym, ap, subst, arith, Contains, set, get_or, ⊎_elim, inl, inr, Vec, Global, Some, slice_get}
use Rattle.std.specs.Borrow.{Bor}
use Rattle.std.specs.Prelude.{slice_index_or}
use Rattle.std.proofs.lemmas.Bool.{cases_lt}
use Rattle.std.proofs.lemmas.List.Elements.{Contains-append_cases, Contains-append_left, Contains-append_right}
use Rattle.std.proofs.lemmas.Option.{slice_get-get_or, slice_get_within}
use Rattle.lalrpop_grammar_symbols.specs.declared.names.NonterminalString.{NonterminalString}
use Rattle.lalrpop_grammar_repr.specs.declared.production.Production.{Production}
use Rattle.lalrpop_lr1_theory.proofs.ListLemmas.{contains_get, contains_here, contains_split, get_contains}
use Rattle.lalrpop_lr1_theory.proofs.StepLemmas.{some_same}
use Rattle.lalrpop_lr1_first.specs.FirstNumbers.{name_count}
use Rattle.lalrpop_lr1_first.specs.Listings.{lent}
use Rattle.lalrpop_lr1_first.specs.NumberedGrammars.{IsNumberTable, table_names, table_productions}
use Rattle.lalrpop_lr1_first.specs.Tables.{symbol_or}
use Rattle.lalrpop_lr1_first.specs.declared.numbered.Numbered.{Numbered}
use Rattle.lalrpop_lr1_first.specs.declared.place.NumberedRule.{NumberedRule}
use Rattle.lalrpop_lr1_first.proofs.ListLemmas.{get_slice, set_long}
use Rattle.lalrpop_sets.proofs.AscendingListLemmas.{cases_eq}
use Rattle.lalrpop_lr1_first.proofs.TableLemmas.{get_mapped, name_at}
use Rattle.lalrpop_lr1_barren.specs.NameMarks.{IsNumberOf}
use Rattle.lalrpop_lr1_barren.specs.NamedLists.{AreNamedLists, HoldsNamed, production_lists}
use Rattle.lalrpop_lr1_barren.proofs.NameLemmas.{one_number}

list_there : {X : Type 0} (lists : List (List X)) (s : ℕ) (l : List X) → s < length lists →
    slice_index_or (set lists s l) s [] ≡ l
list_there [] s l h = absurd (omega (arith, h))
list_there (x ∷ lists) zero l h = refl
list_there (x ∷ lists) (suc s) l h = list_there lists s l (omega (arith, h))

list_other : {X : Type 0} (lists : List (List X)) (s t : ℕ) (l : List X) → (t ≡ s → ⊥) →
    slice_index_or (set lists s l) t [] ≡ slice_index_or lists t []
list_other [] s t l h = refl
list_other (x ∷ lists) zero zero l h = absurd (h refl)
list_other (x ∷ lists) zero (suc t) l h = refl
list_other (x ∷ lists) (suc s) zero l h = refl
list_other (x ∷ lists) (suc s) (suc t) l h = list_other lists s t l (λ k. h (ap suc k))

view_set : (lists : List (Vec (Bor Production) Global)) (s : ℕ) (v : Vec (Bor Production) Global) →
    production_lists (set lists s v) ≡ set (production_lists lists) s (lent v.items)
view_set [] s v = refl
view_set (x ∷ lists) zero v = refl
view_set (x ∷ lists) (suc s) v = ap (λ l. lent x.items ∷ l) (view_set lists s v)

-- what is read within the lists is the list with that number
pub view_read : (lists : List (Vec (Bor Production) Global)) (s : ℕ) (v : Vec (Bor Production) Global) → s < length lists →
    v ≡ get_or lists s v → slice_index_or (production_lists lists) s [] ≡ lent v.items
view_read [] s v h e = absurd (omega (arith, h))
view_read (x ∷ lists) zero v h e = ap (λ (w : Vec (Bor Production) Global). lent w.items) (sym e)
view_read (x ∷ lists) (suc s) v h e = view_read lists s v (omega (arith, h)) e

-- seen as lists of productions, there are as many lists as before
pub view_long : (lists : List (Vec (Bor Production) Global)) → length (production_lists lists) ≡ length lists
view_long [] = refl
view_long (x ∷ lists) = ap suc (view_long lists)

lent_pushed : (xs : List (Bor Production)) (b : Bor Production) → lent (xs ++ b ∷ []) ≡ lent xs ++ b.now ∷ []
lent_pushed [] b = refl
lent_pushed (x ∷ xs) b = ap (λ l. x.now ∷ l) (lent_pushed xs b)

-- a production that is pushed onto one of the lists
pub view_pushed : (lists : List (Vec (Bor Production) Global)) (s : ℕ) (was now : Vec (Bor Production) Global)
    (b : Bor Production) → s < length lists → was ≡ get_or lists s was → now.items ≡ was.items ++ b ∷ [] →
    production_lists (set lists s now) ≡ set (production_lists lists) s
    (slice_index_or (production_lists lists) s [] ++ b.now ∷ [])
view_pushed lists s was now b h e is =
    view_set lists s now
    ∙ ap (set (production_lists lists) s)
    (ap lent is ∙ lent_pushed was.items b ∙ ap (λ l. l ++ b.now ∷ []) (sym (view_read lists s was h e)))

no_element : (p : Production) → Contains [] p → ⊥
no_element p c = omega (arith, c.1)

module _ (table : Numbered) (is : IsNumberTable table) where
  -- the number of a production's left side is its name's
  pub left_at : (r : ℕ) (rule : NumberedRule) (p : Production) → slice_get table.rules.items r ≡ Some rule →
      slice_get (table_productions table) r ≡ Some p → slice_get (table_names table) rule.left ≡ Some p.nonterminal
  left_at r rule p at_rule at_production =
      let l = is.laid.at r p at_production in
      let same : l.rule ≡ rule = some_same l.rule rule (sym l.at ∙ at_rule) in
      let n = name_at table.terminals.now is.terminals (table_names table) is.names l.rule.left p.nonterminal.0 l.left in
      let named : n.0 ≡ p.nonterminal = ap (λ (t : List ℕ). record { 0 = t }) n.2 in
      ap (λ (x : NumberedRule). slice_get (table_names table) x.left) (sym same) ∙ n.1 ∙ ap Some named

  -- the same of a rule that is read by a default
  pub left_read : (rules : List NumberedRule) (productions : List (Bor Production)) (r : ℕ) (d : NumberedRule) (p : Bor Production) →
      rules ≡ table.rules.items → productions ≡ table.productions.items → r < length productions → p ≡ get_or productions r p →
      (slice_get (table_productions table) r ≡ Some p.now)
      × (slice_get (table_names table) (get_or rules r d).left ≡ Some p.now.nonterminal)
  left_read rules productions r d p rules_are are h e =
      let own : slice_get table.productions.items r ≡ Some p = subst (λ l. slice_get l r ≡ Some p) are (get_slice productions r p h e) in
      let at = get_mapped (λ (b : Bor Production). b.now) table.productions.items r p own in
      let inside : r < length table.rules.items =
      omega (arith, is.laid.count, slice_get_within (table_productions table) r p.now at) in
      let rule : slice_get table.rules.items r ≡ Some (get_or rules r d) =
      slice_get-get_or table.rules.items r d inside ∙ ap (λ l. Some (get_or l r d)) (sym rules_are) in
      (at, left_at r (get_or rules r d) p.now rule at)

  name_once : (s t : ℕ) (n : NonterminalString) → slice_get (table_names table) s ≡ Some n →
      slice_get (table_names table) t ≡ Some n → s ≡ t
  name_once s t n e f =
      let number : (k : ℕ) → slice_get (table_names table) k ≡ Some n → IsNumberOf table k n.0 =
      λ k at. ap (λ o. symbol_or o (slice_get table.terminals.now.all (k - length (table_names table)))) at in
      one_number table is s t n.0 (number s e) (number t f)

  -- empty lists, one for each name, hold none of the productions
  pub named_start : (lists : List (List Production)) → length lists ≡ name_count table →
      ((s : ℕ) → slice_index_or lists s [] ≡ []) → AreNamedLists table lists 0
  named_start lists long empty = record {
    long = long;
    all = λ r s p h. absurd (omega (arith, h));
    within = λ s p c. absurd (no_element p (subst (λ l. Contains l p) (empty s) c));
  }

  module _ (lists : List (List Production)) (count : ℕ) (first : AreNamedLists table lists count) (p : Production) (left : ℕ)
      (at : slice_get (table_productions table) count ≡ Some p) (named : slice_get (table_names table) left ≡ Some p.nonterminal)
      (inside : left < length lists) where
    abbrev new : List (List Production)
    new = set lists left (slice_index_or lists left [] ++ p ∷ [])

    here : slice_index_or new left [] ≡ slice_index_or lists left [] ++ p ∷ []
    here = list_there lists left (slice_index_or lists left [] ++ p ∷ []) inside

    other : (s : ℕ) → (s ≡ left → ⊥) → slice_index_or new s [] ≡ slice_index_or lists s []
    other s n = list_other lists left s (slice_index_or lists left [] ++ p ∷ []) n

    there : Contains (slice_index_or new left []) p
    there = subst (λ l. Contains l p) (sym here)
        (Contains-append_right (slice_index_or lists left []) (p ∷ []) p (contains_here p []))

    stays : (s : ℕ) (q : Production) → Contains (slice_index_or lists s []) q → Contains (slice_index_or new s []) q
    stays s q c = ⊎_elim
        (λ e. subst (λ k. Contains (slice_index_or new k []) q) (sym e) (subst (λ l. Contains l q) (sym here)
        (Contains-append_left (slice_index_or lists left []) (p ∷ []) q (subst (λ k. Contains (slice_index_or lists k []) q) e c))))
        (λ n. subst (λ l. Contains l q) (sym (other s n)) c) (cases_eq s left)

    only_one : (q : Production) → Contains (p ∷ []) q → p ≡ q
    only_one q c = ⊎_elim (λ e. e) (λ d. absurd (no_element q d)) (contains_split p q [] c)

    within : (s : ℕ) (q : Production) → Contains (slice_index_or new s []) q → Contains (table_productions table) q
    within s q c = ⊎_elim
        (λ e. ⊎_elim
        (λ d. first.within left q d)
        (λ d. subst (Contains (table_productions table)) (only_one q d) (get_contains (table_productions table) count p at))
        (Contains-append_cases (slice_index_or lists left []) (p ∷ []) q
        (subst (λ l. Contains l q) here (subst (λ k. Contains (slice_index_or new k []) q) e c))))
        (λ n. first.within s q (subst (λ l. Contains l q) (other s n) c)) (cases_eq s left)

    all : (r s : ℕ) (q : Production) → r < count + 1 → slice_get (table_productions table) r ≡ Some q →
        slice_get (table_names table) s ≡ Some q.nonterminal → (r < count) ⊎ (count ≤ r) → Contains (slice_index_or new s []) q
    all r s q h e f (inl l) = stays s q (first.all r s q l e f)
    all r s q h e f (inr l) =
        let last : r ≡ count = omega (arith, h, l) in
        let same : p ≡ q = some_same p q (sym at ∙ ap (slice_get (table_productions table)) (sym last) ∙ e) in
        let own : left ≡ s =
        name_once left s p.nonterminal named (f ∙ ap (λ (x : Production). Some x.nonterminal) (sym same)) in
        subst (λ k. Contains (slice_index_or new k []) q) own (subst (Contains (slice_index_or new left [])) same there)

    -- with the next production listed under its name, the lists hold one more
    pub named_more : AreNamedLists table new (count + 1)
    named_more = record {
      long = set_long lists left (slice_index_or lists left [] ++ p ∷ []) ∙ first.long;
      all = λ r s q h e f. all r s q h e f (cases_lt r count);
      within = within;
    }

  -- where the first productions are all that there are, the lists hold all
  pub named_end : (lists : List (List Production)) (count : ℕ) → length (table_productions table) ≤ count →
      AreNamedLists table lists count → AreNamedLists table lists (length (table_productions table))
  named_end lists count h first = record {
    long = first.long;
    all = λ r s p l e f. first.all r s p (omega (arith, l, h)) e f;
    within = first.within;
  }

  module _ (lists : List (List Production)) (are : AreNamedLists table lists (length (table_productions table)))
      (name : NonterminalString) where
    -- where the name isn't one of the table's, it has no productions
    pub none_named : (Contains (table_names table) name → ⊥) → HoldsNamed (table_productions table) name []
    none_named missing = record {
      within = λ p c. absurd (no_element p c);
      all = λ p c e.
          let g = contains_get (table_productions table) p c in
          let l = is.laid.at g.0 p g.1 in
          let at = left_at g.0 l.rule p l.at g.1 in
          absurd (missing (subst (Contains (table_names table)) e (get_contains (table_names table) l.rule.left p.nonterminal at)));
    }

    -- else they are in its list
    pub some_named : (s : ℕ) → slice_get (table_names table) s ≡ Some name →
        HoldsNamed (table_productions table) name (slice_index_or lists s [])
    some_named s at = record {
      within = λ p c. are.within s p c;
      all = λ p c e.
          let g = contains_get (table_productions table) p c in
          are.all g.0 s p (slice_get_within (table_productions table) g.0 p g.1) g.1 (at ∙ ap Some (sym e));
    }
