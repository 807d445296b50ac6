-- Rules that are put into a map in order of their names stand in that order: for the function that makes the map.
use Rattle.std.proofs.Common.{◌≡◌, List, [], ◌∷◌, ◌++◌, refl, ap, sym, ◌∙◌}
use Rattle.std.specs.List.{AllByRecursion}
use Rattle.std.specs.declared.cmp.Ordering.{Ordering}
use Rattle.std.specs.declared.cmp.Ordering.TheVariants.{Less, Greater}
use Rattle.std.specs.BTreeMap.{insert_entry}
use Rattle.std.specs.Cmp.{IsTotalOrder}
use Rattle.std.specs.List.Sorted.{IsStrictlySortedBy}
use Rattle.std.specs.Map.{keys_of}
use Rattle.std.specs.Ordering.{ordering_reverse}
use Rattle.std.proofs.lemmas.Cmp.{nat_list_cmp_total}
use Rattle.std.proofs.Math.Seq.{append_snoc}
use Rattle.lalrpop_grammar_symbols.specs.contracts.names.NonterminalStringOrd.TheImpl as names

module _ {K X : Type 0} {R : K → K → Ordering} (total : IsTotalOrder R) where
  below : (e : K) (es : List (K × X)) (k : K) (v : X) (rest : List (K × X)) →
      AllByRecursion (λ y. R e y ≡ Less) (keys_of (es ++ (k, v) ∷ rest)) → R e k ≡ Less
  below e [] k v rest all = all.0
  below e (x ∷ es) k v rest all = below e es k v rest all.1

  insert_last : (es : List (K × X)) (k : K) (v : X) (rest : List (K × X)) →
      IsStrictlySortedBy R (keys_of (es ++ (k, v) ∷ rest)) → insert_entry R es k v ≡ es ++ (k, v) ∷ []
  unfolding IsStrictlySortedBy
  insert_last [] k v rest sorted = refl
  insert_last (e ∷ es) k v rest sorted =
      let less : R e.0 k ≡ Less = below e.0 es k v rest sorted.0 in
      let greater : R k e.0 ≡ Greater = total.antisymm k e.0 ∙ ap ordering_reverse less in
      rw greater (ap (λ l. e ∷ l) (insert_last es k v rest sorted.1))

  -- what the map has, with what is left to put in, is the whole: one rule further on
  pub put_on : (whole es left rest new : List (K × X)) (e : K × X) → IsStrictlySortedBy R (keys_of whole) →
      es ++ left ≡ whole → left ≡ e ∷ rest → new ≡ insert_entry R es e.0 e.1 → new ++ rest ≡ whole
  put_on whole es left rest new e sorted so first inserted =
      let all : es ++ e ∷ rest ≡ whole = ap (λ l. es ++ l) (sym first) ∙ so in
      let last : insert_entry R es e.0 e.1 ≡ es ++ e ∷ [] = insert_last es e.0 e.1 rest (rw all sorted) in
      ap (λ l. l ++ rest) (inserted ∙ last) ∙ append_snoc es e rest ∙ all

-- names are ordered as their texts are
pub names_total : IsTotalOrder (names.ghosts).cmp
names_total = record {
  antisymm = λ a b. nat_list_cmp_total.antisymm a.0 b.0;
  trans = λ a b c. nat_list_cmp_total.trans a.0 b.0 c.0;
  congr = λ a b c. nat_list_cmp_total.congr a.0 b.0 c.0;
}
