-- Entries of a map where one content is put in place of another that stands for the same, for multimap.
use Rattle.std.proofs.Common.{◌≡◌, ◌↔◌, suc, Bool, true, false, cond, List, [], ◌∷◌, length, Option, Some, None}
use Rattle.std.proofs.Common.{Result, Ok, Err, IfOk, IfErr}
use Rattle.std.proofs.Common.{IsTrue, IsFalse, refl, sym, ap, ◌∙◌, subst, arith}
use Rattle.std.specs.BTreeMap.{insert_entry, is_at}
use Rattle.std.specs.Map.{lookup, set_value}
use Rattle.std.specs.Option.{MatchOption}
use Rattle.std.specs.Ordering.{is_eq, match_ordering}
use Rattle.std.specs.declared.cmp.Ordering.{Ordering}
use Rattle.std.specs.declared.cmp.Ordering.TheVariants.{Less, Equal, Greater}
use Rattle.lalrpop_sets.specs.Collections.{SameEntries, same_all, PutsOnTo, Puts, PutsAll}

-- what stands in equal options is equal
pub some_inj : {X : Type 0} (c d : X) → Some c ≡ Some d → c ≡ d
some_inj c d e = cc

module _ {K C : Type 0} (S : C → C → Type 0) (itself : (x : C) → S x x) where
  -- an entry's content in place of another that is the same
  pub same_put : (test : K → Bool) (es : List (K × C)) (c d : C) → lookup test es ≡ Some c → S c d
      → SameEntries S es (set_value test es d)
  same_put test [] c d found same = let z : ⊥ = cc in absurd z
  same_put test (e ∷ es) c d found same = go (test e.0) found (λ h. same_put test es c d h same)
    where
      go : (b : Bool) → cond b (Some e.1) (lookup test es) ≡ Some c → (lookup test es ≡ Some c
          → SameEntries S es (set_value test es d))
          → SameEntries S (e ∷ es) (cond b ((e.0, d) ∷ es) (e ∷ set_value test es d))
      go true h rest = ((refl, subst (λ x. S x d) (sym (some_inj e.1 c h)) same), same_all S itself es)
      go false h rest = ((refl, itself e.1), rest h)

  -- what equals the entries stands for the same
  pub same_eq : (es fs : List (K × C)) → fs ≡ es → SameEntries S es fs
  same_eq es fs e = subst (λ l. SameEntries S es l) (sym e) (same_all S itself es)

  pub same_put_eq : (test : K → Bool) (es fs : List (K × C)) (c d : C) → lookup test es ≡ Some c → S c d
      → fs ≡ set_value test es d
      → SameEntries S es fs
  same_put_eq test es fs c d found same e = subst (λ l. SameEntries S es l) (sym e) (same_put test es c d found same)

-- what follows from a property of any error follows for the error that a result may hold
pub map_err : {A E : Type 0} (r : Result A E) (P Q : E → Type 0) → ((e : E) → P e → Q e) → IfErr r P → IfErr r Q
map_err (Ok x) P Q f h = tt
map_err (Err e) P Q f h = f e h

-- as many entries
same_length : {K C : Type 0} (S : C → C → Type 0) (es fs : List (K × C)) → SameEntries S es fs → length es ≡ length fs
same_length S [] [] h = refl
same_length S [] (f ∷ fs) h = absurd h
same_length S (e ∷ es) [] h = absurd h
same_length S (e ∷ es) (f ∷ fs) h = ap suc (same_length S es fs h.1)

-- an entry at a new key is one more
grows : {K C : Type 0} (cmp : K → K → Ordering) (es : List (K × C)) (k : K) (c : C) → lookup (is_at (cmp k)) es ≡ None
    → length (insert_entry cmp es k c) ≡ suc (length es)
grows cmp [] k c h = refl
grows cmp (e ∷ es) k c h = go (cmp k e.0) h (grows cmp es k c)
  where
    go : (o : Ordering) → cond (is_eq o) (Some e.1) (lookup (is_at (cmp k)) es) ≡ None
        → (lookup (is_at (cmp k)) es ≡ None → length (insert_entry cmp es k c) ≡ suc (length es))
        → length (match_ordering o ((k, c) ∷ e ∷ es) ((e.0, c) ∷ es) (e ∷ insert_entry cmp es k c)) ≡ suc (suc (length es))
    go Less f rest = refl
    go Equal f rest = let z : ⊥ = cc in absurd z
    go Greater f rest = ap suc (rest f)

-- what stood at the key stands for the same as what was put in its place
same_at : {K C : Type 0} (S : C → C → Type 0) (test : K → Bool) (es : List (K × C)) (c d : C) → lookup test es ≡ Some c
    → SameEntries S es (set_value test es d) → S c d
same_at S test [] c d found h = let z : ⊥ = cc in absurd z
same_at S test (e ∷ es) c d found h = go (test e.0) found h (same_at S test es c d)
  where
    go : (b : Bool) → cond b (Some e.1) (lookup test es) ≡ Some c
        → SameEntries S (e ∷ es) (cond b ((e.0, d) ∷ es) (e ∷ set_value test es d))
        → (lookup test es ≡ Some c → SameEntries S es (set_value test es d) → S c d) → S c d
    go true f s rest = subst (λ x. S x d) (some_inj e.1 c f) s.0.1
    go false f s rest = rest f s.1

-- a push answers no exactly where the entries stand for the same
pub puts_changed : {K C X : Type 0} (cmp : K → K → Ordering) (nothing : C → Type 0) (S : C → C → Type 0)
    (pushes : C → X → C → Type 0) (itself : (x : C) → S x x) (old new : List (K × C)) (key : K) (item : X) (changed : Bool)
    → Puts cmp nothing S pushes old key item changed new → IsFalse changed ↔ SameEntries S old new
puts_changed {K} {C} cmp nothing S pushes itself old new key item changed p = go (lookup (is_at (cmp key)) old) refl p
  where
    go : (o : Option C) → lookup (is_at (cmp key)) old ≡ o
        → MatchOption o
        (IsTrue changed × ((e : C) × (c : C) × nothing e × pushes e item c × (new ≡ insert_entry cmp old key c)))
        (λ c. (d : C) × pushes c item d × (IsFalse changed ↔ S c d) × (new ≡ set_value (is_at (cmp key)) old d))
        → IsFalse changed ↔ SameEntries S old new
    go None f p = (
      λ no. let z : ⊥ = let i : true ≡ false = sym p.0 ∙ no in cc in absurd z,
      λ same. let a : length old ≡ length new = same_length S old new same in
          let b : length new ≡ suc (length old) = ap length p.1.4 ∙ grows cmp old key p.1.1 f in
          absurd (omega arith),
    )
    go (Some c) f p = (
      λ no. same_put_eq S itself (is_at (cmp key)) old new c p.0 f (p.2.0 no) p.3,
      λ same. p.2.1 (same_at S (is_at (cmp key)) old c p.0 f (subst (λ l. SameEntries S old l) p.3 same)),
    )

module _ {K C X : Type 0} (cmp : K → K → Ordering) (nothing : C → Type 0) (S : C → C → Type 0) (pushes : C → X → C
    → Type 0) where
  -- all pairs are left
  pub leads_start : (mid old : List (K × C)) (left ps : List (K × X)) → mid ≡ old → left ≡ ps
      → PutsOnTo cmp nothing S pushes mid left old ps
  leads_start mid old left ps e f =
      subst (λ l. PutsOnTo cmp nothing S pushes mid l old ps) (sym f)
      (subst (λ m. PutsOnTo cmp nothing S pushes m ps old ps) (sym e) (λ end h. h))

  -- one of them was put in
  pub leads_step : (mid next old : List (K × C)) (left rest ps : List (K × X)) (p : K × X) (changed : Bool)
      → PutsOnTo cmp nothing S pushes mid left old ps → left ≡ p ∷ rest → Puts cmp nothing S pushes mid p.0 p.1 changed next
      → PutsOnTo cmp nothing S pushes next rest old ps
  leads_step mid next old left rest ps p changed h e put =
      λ end g. h end (subst (λ l. PutsAll cmp nothing S pushes mid l end) (sym e) (next, changed, put, g))

  -- none is left
  pub leads_end : (mid old : List (K × C)) (left ps : List (K × X)) → PutsOnTo cmp nothing S pushes mid left old ps → left ≡ []
      → PutsAll cmp nothing S pushes old ps mid
  leads_end mid old left ps h e = h mid (subst (λ l. PutsAll cmp nothing S pushes mid l mid) (sym e) refl)

-- what follows from a property of any value follows for the value that a result may hold
pub ok_map : {A E : Type 0} (r : Result A E) (P Q : A → Type 0) → ((a : A) → P a → Q a) → IfOk r P → IfOk r Q
ok_map (Ok x) P Q f h = f x h
ok_map (Err e) P Q f h = tt

-- a list of length 0 is the empty list
pub nil_of : {A : Type 0} (xs : List A) → length xs ≡ 0 → xs ≡ []
nil_of [] h = refl
nil_of (x ∷ xs) h = absurd (omega arith)
