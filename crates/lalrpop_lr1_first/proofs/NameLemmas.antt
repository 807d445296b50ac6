-- Names with their places: what stands at a name, and names put in one by one. For the numbers of names.
use Rattle.std.proofs.Common.{◌≡◌, ◌∙◌, ℕ, suc, ◌+◌, Bool, true, false, cond, List, [], ◌∷◌, ◌++◌}
use Rattle.std.proofs.Common.{refl, ap, sym, arith, Some, Contains, ⊎_elim, slice_get}
use Rattle.std.specs.List.Sorted.{IsStrictlySortedBy}
use Rattle.std.specs.Borrow.{Bor}
use Rattle.std.specs.List.{AllByRecursion}
use Rattle.std.specs.Map.{keys_of}
use Rattle.std.specs.Ordering.{is_eq}
use Rattle.std.specs.declared.cmp.Ordering.{Ordering}
use Rattle.std.specs.declared.cmp.Ordering.TheVariants.{Greater, Less}
use Rattle.std.specs.BTreeMap.{insert_entry}
use Rattle.std.proofs.lemmas.Cmp.{nat_list_cmp_total}
use Rattle.std.specs.Ordering.{ordering_reverse}
use Rattle.std.proofs.Math.Seq.{append_snoc}
use Rattle.lalrpop_grammar_symbols.specs.contracts.names.NonterminalStringOrd.TheImpl as names
use Rattle.lalrpop_grammar_symbols.specs.declared.names.NonterminalString.{NonterminalString}
use Rattle.lalrpop_grammar_repr.specs.Maps.{at_name}
use Rattle.lalrpop_lr1_theory.proofs.ListLemmas.{contains_split}
use Rattle.lalrpop_lr1_first.specs.Listings.{lent}
use Rattle.lalrpop_lr1_first.specs.Tables.{pairs_from}
use Rattle.lalrpop_grammar_symbols.proofs.NameLemmas.{same_name}

-- comparing two names the other way round gives the reverse order
pub name_antisymm : (a b : NonterminalString) → (names.ghosts).cmp a b ≡ ordering_reverse ((names.ghosts).cmp b a)
name_antisymm a b = nat_list_cmp_total.antisymm a.0 b.0

-- what stands at a name is its place
pub pairs_sound : (ns : List NonterminalString) (k : ℕ) (n : NonterminalString) (j : ℕ) → at_name n (pairs_from k ns) ≡ Some j →
    (i : ℕ) × (j ≡ k + i) × (slice_get ns i ≡ Some n)
pairs_sound [] k n j e = let w : ⊥ = cc in absurd w
pairs_sound (m ∷ ns) k n j e = go (is_eq ((names.ghosts).cmp n m)) refl e (pairs_sound ns (suc k) n j)
  where
    go : (b : Bool) → is_eq ((names.ghosts).cmp n m) ≡ b → cond b (Some k) (at_name n (pairs_from (suc k) ns)) ≡ Some j →
        (at_name n (pairs_from (suc k) ns) ≡ Some j → (i : ℕ) × (j ≡ suc k + i) × (slice_get ns i ≡ Some n)) →
        (i : ℕ) × (j ≡ k + i) × (slice_get (m ∷ ns) i ≡ Some n)
    go true h f rec = let z : k ≡ j = cc in (0, omega arith, ap Some (sym ((same_name n m).0 h)))
    go false h f rec = let r = rec f in (suc r.0, omega (arith, r.1), r.2)

-- something stands at each of the names
pub pairs_total : (ns : List NonterminalString) (k : ℕ) (n : NonterminalString) → Contains ns n →
    (j : ℕ) × (at_name n (pairs_from k ns) ≡ Some j)
pairs_total [] k n c = absurd (omega (arith, c.1))
pairs_total (m ∷ ns) k n c = go (is_eq ((names.ghosts).cmp n m)) refl (pairs_total ns (suc k) n)
  where
    go : (b : Bool) → is_eq ((names.ghosts).cmp n m) ≡ b → (Contains ns n →
        (j : ℕ) × (at_name n (pairs_from (suc k) ns) ≡ Some j)) →
        (j : ℕ) × (cond b (Some k) (at_name n (pairs_from (suc k) ns)) ≡ Some j)
    go true h rec = (k, refl)
    go false h rec = ⊎_elim
        (λ e. let z : is_eq ((names.ghosts).cmp n m) ≡ true = (same_name n m).1 (sym e) in let w : ⊥ = cc in absurd w)
        rec (contains_split m n ns c)

-- the keys of names paired with their places are these names
pub pairs_keys : {X : Type 0} (ns : List X) (k : ℕ) → keys_of (pairs_from k ns) ≡ ns
pairs_keys [] k = refl
pairs_keys (n ∷ ns) k = ap (λ l. n ∷ l) (pairs_keys ns (suc k))

lent_all : {X : Type 0} (P : X → Type 0) (ks : List (Bor X)) → AllByRecursion (λ b. P b.now) ks → AllByRecursion P (lent ks)
lent_all P [] h = tt
lent_all P (k ∷ ks) h = (h.0, lent_all P ks h.1)

-- what references in order lend is in order
pub lent_sorted : {X : Type 0} (R : X → X → Ordering) (ks : List (Bor X)) → IsStrictlySortedBy (λ a b. R a.now b.now) ks →
    IsStrictlySortedBy R (lent ks)
unfolding IsStrictlySortedBy
lent_sorted R [] s = tt
lent_sorted R (k ∷ ks) s = (lent_all (λ y. R k.now y ≡ Less) ks s.0, lent_sorted R ks s.1)

module _ {K X : Type 0} {R : K → K → Ordering} (antisymm : (x y : K) → R x y ≡ ordering_reverse (R y x)) where
  -- what stands before a key is below it
  below : (e : K) (es : List (K × X)) (k : K) (v : X) (rest : List (K × X))
      → AllByRecursion (λ y. R e y ≡ Less) (keys_of (es ++ (k, v) ∷ rest)) → R e k ≡ Less
  below e [] k v rest all = all.0
  below e (x ∷ es) k v rest all = below e es k v rest all.1

  -- a key above all others is put behind them
  pub insert_entry-last : (es : List (K × X)) (k : K) (v : X) (rest : List (K × X))
      → IsStrictlySortedBy R (keys_of (es ++ (k, v) ∷ rest)) → insert_entry R es k v ≡ es ++ (k, v) ∷ []
  unfolding IsStrictlySortedBy
  insert_entry-last [] k v rest sorted = refl
  insert_entry-last (e ∷ es) k v rest sorted =
      let less : R e.0 k ≡ Less = below e.0 es k v rest sorted.0 in
      let greater : R k e.0 ≡ Greater = antisymm k e.0 ∙ ap ordering_reverse less in
      rw greater (ap (λ l. e ∷ l) (insert_entry-last es k v rest sorted.1))

  -- what was copied, with what is left to copy, is the whole: one entry further on
  pub copied_goes_on : (whole es left rest new : List (K × X)) (k : K) (v : X) → IsStrictlySortedBy R (keys_of whole)
      → es ++ left ≡ whole → left ≡ (k, v) ∷ rest → new ≡ insert_entry R es k v → new ++ rest ≡ whole
  copied_goes_on whole es left rest new k v sorted so first inserted =
      let all : es ++ (k, v) ∷ rest ≡ whole = ap (λ l. es ++ l) (sym first) ∙ so in
      let last : insert_entry R es k v ≡ es ++ (k, v) ∷ [] = insert_entry-last es k v rest (rw all sorted) in
      ap (λ l. l ++ rest) (inserted ∙ last) ∙ append_snoc es (k, v) rest ∙ all
