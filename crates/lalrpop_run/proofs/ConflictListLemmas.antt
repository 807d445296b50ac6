-- There is only one list of all conflicts of productions: for those who compare two.
use Rattle.std.proofs.Common.{◌≡◌, ◌∙◌, ◌<◌, ◌≤◌, ◌⊎◌, inl, inr, ℕ, List, [], ◌∷◌, length, Some, Contains, ap, sym, refl, subst, arith}
use Rattle.std.specs.Prelude.{slice_get}
use Rattle.std.specs.Cmp.Lexicographic.{nat_list_cmp_total, on_texts}
use Rattle.std.specs.Ordering.{ordering_then}
use Rattle.std.specs.declared.cmp.Ordering.{Ordering}
use Rattle.std.specs.declared.cmp.Ordering.TheVariants.{Equal, Greater, Less}
use Rattle.std.proofs.lemmas.Bool.{cases_lt}
use Rattle.lalrpop_grammar_symbols.specs.Symbols.{Text}
use Rattle.lalrpop_lr1_theory.specs.Productions.{Production, Symbol}
use Rattle.lalrpop_lr1_theory.proofs.ListLemmas.{contains_get, contains_here, contains_later, contains_split, get_contains}
use Rattle.lalrpop_lr1_theory.proofs.NameLemmas.{no_element}
use Rattle.lalrpop_run.specs.AllConflicts.{AreConflictsInOrder, IsConflictBefore, IsPlacedBefore, IsPlacedIn, PlacedConflict}
use Rattle.lalrpop_run.specs.AllConflicts.{ReductionConflict, with_reduction, with_shift}
use Rattle.lalrpop_run.specs.ConflictOrders.{IsProductionBefore, IsSooner, IsTerminalBefore, compare_sides}
use Rattle.lalrpop_run.specs.ConflictOrders.{compare_symbols, terminal_key}
use Rattle.lalrpop_run.proofs.ConflictOrderLemmas.{equal_symbols, never_itself, never_sooner, one_first, productions_total, sides_total}
use Rattle.lalrpop_run.proofs.ConflictOrderLemmas.{sooner_chain}
use Rattle.lalrpop_run.proofs.OrderedListLemmas.{AreInOrder, first_in_order, in_order_behind}

equal_sides : (g h : List Symbol) → compare_sides g h ≡ Equal → g ≡ h
equal_sides [] [] e = refl
equal_sides [] (y ∷ h) e = let w : ⊥ = cc in absurd w
equal_sides (x ∷ g) [] e = let w : ⊥ = cc in absurd w
equal_sides (x ∷ g) (y ∷ h) e = go (compare_symbols x y) refl e (equal_sides g h)
  where
    go : (o : Ordering) → compare_symbols x y ≡ o → ordering_then o (compare_sides g h) ≡ Equal → (compare_sides g h ≡ Equal → g ≡ h)
        → x ∷ g ≡ y ∷ h
    go Less f d deeper = let w : ⊥ = cc in absurd w
    go Equal f d deeper = ap (λ z. z ∷ g) (equal_symbols x y f) ∙ ap (λ l. y ∷ l) (deeper d)
    go Greater f d deeper = let w : ⊥ = cc in absurd w

-- of two lists of symbols one comes sooner, or they are one
sooner_cases : (g h : List Symbol) → IsSooner g h ⊎ ((g ≡ h) ⊎ IsSooner h g)
sooner_cases g h = go (cases_lt (length g) (length h)) (cases_lt (length h) (length g)) (one_first sides_total equal_sides g h)
  where
    go : (length g < length h) ⊎ (length h ≤ length g) → (length h < length g) ⊎ (length g ≤ length h)
        → (compare_sides g h ≡ Less) ⊎ ((g ≡ h) ⊎ (compare_sides h g ≡ Less)) → IsSooner g h ⊎ ((g ≡ h) ⊎ IsSooner h g)
    go (inl a) b c = inl (inl a)
    go (inr a) (inl b) c = inr (inr (inl b))
    go (inr a) (inr b) (inl c) = inl (inr (omega (arith, a, b), c))
    go (inr a) (inr b) (inr (inl c)) = inr (inl c)
    go (inr a) (inr b) (inr (inr c)) = inr (inr (inr (omega (arith, a, b), c)))

-- an order that goes by a first part, then by a second
lexical_chain : {A B : Type 0} (R : A → A → Type 0) (S : B → B → Type 0) → ((a b c : A) → R a b → R b c → R a c)
    → ((a b c : B) → S a b → S b c → S a c) → (a b c : A) (x y z : B) → R a b ⊎ ((a ≡ b) × S x y) → R b c ⊎ ((b ≡ c) × S y z)
    → R a c ⊎ ((a ≡ c) × S x z)
lexical_chain R S one other a b c x y z (inl h) (inl k) = inl (one a b c h k)
lexical_chain R S one other a b c x y z (inl h) (inr k) = inl (subst (R a) k.0 h)
lexical_chain R S one other a b c x y z (inr h) (inl k) = inl (subst (λ v. R v c) (sym h.0) k)
lexical_chain R S one other a b c x y z (inr h) (inr k) = inr (h.0 ∙ k.0, other x y z h.1 k.1)

conflict_chain : (c d e : ReductionConflict) → IsConflictBefore c d → IsConflictBefore d e → IsConflictBefore c e
conflict_chain (with_shift p t) (with_shift q u) (with_shift r v) a b =
    lexical_chain IsTerminalBefore IsProductionBefore (on_texts terminal_key).trans productions_total.trans t u v p q r a b
conflict_chain (with_shift p t) (with_shift q u) (with_reduction r v) a b = tt
conflict_chain (with_shift p t) (with_reduction q u) (with_shift r v) a b = absurd b
conflict_chain (with_shift p t) (with_reduction q u) (with_reduction r v) a b = tt
conflict_chain (with_reduction p t) (with_shift q u) e a b = absurd a
conflict_chain (with_reduction p t) (with_reduction q u) (with_shift r v) a b = absurd b
conflict_chain (with_reduction p t) (with_reduction q u) (with_reduction r v) a b =
    lexical_chain IsProductionBefore IsProductionBefore productions_total.trans productions_total.trans p q r t u v a b

conflict_never : (c : ReductionConflict) → IsConflictBefore c c → ⊥
conflict_never (with_shift p t) (inl a) = never_itself nat_list_cmp_total (terminal_key t) a
conflict_never (with_shift p t) (inr a) = never_itself productions_total p a.1
conflict_never (with_reduction p q) (inl a) = never_itself productions_total p a
conflict_never (with_reduction p q) (inr a) = never_itself productions_total q a.1

placed_chain : (c d e : PlacedConflict) → IsPlacedBefore c d → IsPlacedBefore d e → IsPlacedBefore c e
placed_chain c d e a b =
    lexical_chain IsSooner IsConflictBefore sooner_chain conflict_chain c.symbols d.symbols e.symbols c.conflict d.conflict e.conflict a b

pub placed_never : (c : PlacedConflict) → IsPlacedBefore c c → ⊥
placed_never c (inl a) = never_sooner c.symbols a
placed_never c (inr a) = conflict_never c.conflict a.1

-- lists in one order with the same elements are one
module _ {X : Type 0} (R : X → X → Type 0) (chain : (x y z : X) → R x y → R y z → R x z) (never : (x : X) → R x x → ⊥) where
  one_list : (xs ys : List X) → AreInOrder R xs → AreInOrder R ys → ((x : X) → Contains xs x → Contains ys x)
      → ((x : X) → Contains ys x → Contains xs x) → xs ≡ ys
  one_list [] [] a b f g = refl
  one_list [] (y ∷ ys) a b f g = absurd (no_element y (g y (contains_here y ys)))
  one_list (x ∷ xs) [] a b f g = absurd (no_element x (f x (contains_here x xs)))
  one_list (x ∷ xs) (y ∷ ys) a b f g =
      ap (λ z. z ∷ xs) head ∙ ap (λ l. y ∷ l) (one_list xs ys (in_order_behind R x xs a) (in_order_behind R y ys b) there back)
    where
      head : x ≡ y
      head = go (contains_split y x ys (f x (contains_here x xs))) (contains_split x y xs (g y (contains_here y ys)))
        where
          go : (y ≡ x) ⊎ Contains ys x → (x ≡ y) ⊎ Contains xs y → x ≡ y
          go (inl e) d = sym e
          go (inr c) (inl e) = e
          go (inr c) (inr d) = absurd (never x (chain x y x (first_in_order R x xs a y d) (first_in_order R y ys b x c)))

      there : (z : X) → Contains xs z → Contains ys z
      there z c = go (contains_split y z ys (f z (contains_later x z xs c)))
        where
          go : (y ≡ z) ⊎ Contains ys z → Contains ys z
          go (inl e) = absurd (never z (subst (λ v. R v z) (head ∙ e) (first_in_order R x xs a z c)))
          go (inr d) = d

      back : (z : X) → Contains ys z → Contains xs z
      back z c = go (contains_split x z xs (g z (contains_later y z ys c)))
        where
          go : (x ≡ z) ⊎ Contains xs z → Contains xs z
          go (inl e) = absurd (never z (subst (λ v. R v z) (sym head ∙ e) (first_in_order R y ys b z c)))
          go (inr d) = d

module _ (G : Production → Type 0) (s : Text) where
  members : (all others : List PlacedConflict) → AreConflictsInOrder G s all → AreConflictsInOrder G s others → (c : PlacedConflict)
      → Contains all c → Contains others c
  members all others a b c d =
      let k = contains_get all c d in
      let it = a.stand k.0 c k.1 in
      go k.0 k.1 (b.every c.symbols c.conflict it.0 it.1)
    where
      go : (i : ℕ) → slice_get all i ≡ Some c → IsPlacedIn G s others c.symbols c.conflict → Contains others c
      go i at p = by (sooner_cases c.symbols p.placed.symbols)
        where
          by : IsSooner c.symbols p.placed.symbols ⊎ ((c.symbols ≡ p.placed.symbols) ⊎ IsSooner p.placed.symbols c.symbols)
              → Contains others c
          by (inl l) = absurd (b.soonest p.number p.placed p.at c.symbols p.same l)
          by (inr (inr l)) =
              absurd (a.soonest i c at p.placed.symbols (λ q j x. ((p.same q j x).1, (p.same q j x).0)) l)
          by (inr (inl e)) =
              let same : p.placed ≡ c =
              ap (λ g. record { symbols = g; conflict = p.placed.conflict }) (sym e)
              ∙ ap (λ f. record { symbols = c.symbols; conflict = f }) p.conflict_is in
              subst (Contains others) same (get_contains others p.number p.placed p.at)

  -- two lists of all conflicts are one
  pub one_answer : (all others : List PlacedConflict) → AreConflictsInOrder G s all → AreConflictsInOrder G s others → all ≡ others
  one_answer all others a b =
      one_list IsPlacedBefore placed_chain placed_never all others a.ordered b.ordered (members all others a b) (members others all b a)
