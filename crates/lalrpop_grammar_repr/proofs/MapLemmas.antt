-- Entries that are put into a map in order of their keys stand in that order: for copies of maps.
use Rattle.std.proofs.Common.{◌≡◌, List, [], ◌∷◌, ◌++◌, refl, ap, sym, ◌∙◌}
use Rattle.std.specs.List.{AllByRecursion}
use Rattle.std.specs.declared.cmp.Ordering.{Ordering}
use Rattle.std.specs.declared.cmp.Ordering.TheVariants.{Less, Greater}
use Rattle.std.specs.BTreeMap.{insert_entry}
use Rattle.std.specs.Cmp.{IsTotalOrder}
use Rattle.std.specs.List.Sorted.{IsStrictlySortedBy}
use Rattle.std.specs.Map.{keys_of}
use Rattle.std.specs.Ordering.{ordering_reverse}
use Rattle.std.proofs.Math.Seq.{append_snoc}

module _ {K X : Type 0} {R : K → K → Ordering} (total : IsTotalOrder R) where
  -- what stands before a key is below it
  below : (e : K) (es : List (K × X)) (k : K) (v : X) (rest : List (K × X))
      → AllByRecursion (λ y. R e y ≡ Less) (keys_of (es ++ (k, v) ∷ rest)) → R e k ≡ Less
  below e [] k v rest all = all.0
  below e (x ∷ es) k v rest all = below e es k v rest all.1

  -- a key above all others is put behind them
  pub insert_entry-last : (es : List (K × X)) (k : K) (v : X) (rest : List (K × X))
      → IsStrictlySortedBy R (keys_of (es ++ (k, v) ∷ rest)) → insert_entry R es k v ≡ es ++ (k, v) ∷ []
  unfolding IsStrictlySortedBy
  insert_entry-last [] k v rest sorted = refl
  insert_entry-last (e ∷ es) k v rest sorted =
      let less : R e.0 k ≡ Less = below e.0 es k v rest sorted.0 in
      let greater : R k e.0 ≡ Greater = total.antisymm k e.0 ∙ ap ordering_reverse less in
      rw greater (ap (λ l. e ∷ l) (insert_entry-last es k v rest sorted.1))

  -- what was copied, with what is left to copy, is the whole: one entry further on
  pub copied_goes_on : (whole es left rest new : List (K × X)) (k : K) (v : X) → IsStrictlySortedBy R (keys_of whole)
      → es ++ left ≡ whole → left ≡ (k, v) ∷ rest → new ≡ insert_entry R es k v → new ++ rest ≡ whole
  copied_goes_on whole es left rest new k v sorted so first inserted =
      let all : es ++ (k, v) ∷ rest ≡ whole = ap (λ l. es ++ l) (sym first) ∙ so in
      let last : insert_entry R es k v ≡ es ++ (k, v) ∷ [] = insert_entry-last es k v rest (rw all sorted) in
      ap (λ l. l ++ rest) (inserted ∙ last) ∙ append_snoc es (k, v) rest ∙ all
