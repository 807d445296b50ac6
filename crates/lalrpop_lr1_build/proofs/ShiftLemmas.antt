-- What shifted items are, and that they are a kernel: for the groups of a state's items.
use Rattle.std.proofs.Common.{◌≡◌, ◌∙◌, ◌⊎◌, ◌+◌, ◌<◌, ℕ, zero, suc, Bool, true, false, List}
use Rattle.std.proofs.Common.{[], ◌∷◌, length, drop}
use Rattle.std.proofs.Common.{Contains, Option, Some, None, refl, sym, ap, subst, arith, inl, inr, ⊎_elim}
use Rattle.std.specs.List.{cons_option}
use Rattle.std.specs.Prelude.{if◌then◌else◌}
use Rattle.lalrpop_lr1_theory.specs.Productions as theory
use Rattle.lalrpop_lr1_theory.proofs.ListLemmas.{contains_here, contains_later, contains_split, none_some}
use Rattle.lalrpop_lr1_core.specs.Views.{production_symbol_view}
use Rattle.lalrpop_sets.specs.AscendingLists.{AscendsFrom}
use Rattle.lalrpop_sets.specs.Tokens.{is_number}
use Rattle.lalrpop_lr1_first.specs.NumberedGrammars.{HasItemAt, IsNumberTable, table_names}
use Rattle.lalrpop_lr1_first.specs.Numbers.{SpellsSymbols}
use Rattle.lalrpop_lr1_first.specs.Tables.{rest_of, symbol_of_number, symbols_until}
use Rattle.lalrpop_lr1_first.specs.declared.numbered.Numbered.{Numbered}
use Rattle.lalrpop_lr1_first.specs.declared.place.Place.{Place}
use Rattle.lalrpop_lr1_first.specs.declared.place.Place.TheVariants as places
use Rattle.lalrpop_lr1_first.proofs.ListLemmas.{eqb_true}
use Rattle.lalrpop_sets.proofs.AscendingListLemmas.{eqb_self}
use Rattle.lalrpop_lr1_first.proofs.TableLemmas.{is_item_table, long_map}
use Rattle.lalrpop_lr1_build.specs.Kernels.{AreKernelItems, places_of}
use Rattle.lalrpop_lr1_build.specs.Shifts.{shifted_items, shifted_over, symbol_behind}
use Rattle.lalrpop_lr1_build.proofs.MergeLemmas.{ascends_less}
use Rattle.lalrpop_lr1_theory.proofs.NameLemmas.{no_element}

number_is : (o : Option ℕ) (s : ℕ) → is_number o s ≡ true → o ≡ Some s
number_is None s e = let z : ⊥ = cc in absurd z
number_is (Some n) s e = ap Some (sym (eqb_true s n e))

is_the_number : (s : ℕ) → is_number (Some s) s ≡ true
is_the_number s = eqb_self s

-- where a symbol stands at a place, it is the first of the rest
pub rest_first : (all : List Place) (i s : ℕ) → symbol_behind all i ≡ Some s → (more : List ℕ) × (rest_of all i ≡ s ∷ more)
rest_first [] i s e = let z : ⊥ = cc in absurd z
rest_first (places.End r ∷ all) zero s e = let z : ⊥ = cc in absurd z
rest_first (places.Symbol x ∷ all) zero s e = let z : x ≡ s = cc in (symbols_until all, ap (λ y. y ∷ symbols_until all) z)
rest_first (p ∷ all) (suc i) s e = rest_first all i s e

pub first_behind : (all : List Place) (i s : ℕ) (more : List ℕ) → rest_of all i ≡ s ∷ more → symbol_behind all i ≡ Some s
first_behind [] zero s more e = let z : ⊥ = cc in absurd z
first_behind [] (suc i) s more e = let z : ⊥ = cc in absurd z
first_behind (places.End r ∷ all) zero s more e = let z : ⊥ = cc in absurd z
first_behind (places.Symbol x ∷ all) zero s more e = let z : x ≡ s = cc in ap Some z
first_behind (p ∷ all) (suc i) s more e = first_behind all i s more e

module _ {L : Type 0} (all : List Place) (s : ℕ) where
  over : ℕ × L → Option (ℕ × L)
  over = shifted_over all s

  -- an item that is shifted
  pub over_is : (item shifted : ℕ × L) → shifted_over all s item ≡ Some shifted →
      (shifted ≡ (item.0 + 1, item.1)) × (symbol_behind all item.0 ≡ Some s)
  over_is item shifted e = go (is_number (symbol_behind all item.0) s) refl e
    where
      go : (b : Bool) → is_number (symbol_behind all item.0) s ≡ b →
          (if b then Some (item.0 + 1, item.1) else None) ≡ Some shifted →
          (shifted ≡ (item.0 + 1, item.1)) × (symbol_behind all item.0 ≡ Some s)
      go true n f = (let z : shifted ≡ (item.0 + 1, item.1) = cc in z, number_is (symbol_behind all item.0) s n)
      go false n f = let z : ⊥ = cc in absurd z

  pub is_over : (i : ℕ) (l : L) → symbol_behind all i ≡ Some s → shifted_over all s (i, l) ≡ Some (i + 1, l)
  is_over i l e = ap (λ b. if b then Some (i + 1, l) else None) (ap (λ o. is_number o s) e ∙ is_the_number s)

  -- each shifted item comes from one before the symbol
  pub shifted_from : (items : List (ℕ × L)) (i : ℕ) (l : L) → Contains (shifted_items all s items) (i, l) →
      (j : ℕ) × Contains items (j, l) × (i ≡ j + 1) × (symbol_behind all j ≡ Some s)
  shifted_from [] i l c = absurd (no_element (i, l) c)
  shifted_from (x ∷ items) i l c = go (shifted_over all s x) refl (shifted_from items i l) c
    where
      later : (j : ℕ) × Contains items (j, l) × (i ≡ j + 1) × (symbol_behind all j ≡ Some s) →
          (j : ℕ) × Contains (x ∷ items) (j, l) × (i ≡ j + 1) × (symbol_behind all j ≡ Some s)
      later r = (r.0, contains_later x (r.0, l) items r.1, r.2, r.3)

      here : (y : ℕ × L) → shifted_over all s x ≡ Some y → y ≡ (i, l) →
          (j : ℕ) × Contains (x ∷ items) (j, l) × (i ≡ j + 1) × (symbol_behind all j ≡ Some s)
      here y e f =
          let r = over_is x y e in
          let g : (i, l) ≡ (x.0 + 1, x.1) = sym f ∙ r.0 in (
            x.0,
            subst (λ m. Contains (x ∷ items) (x.0, m)) (sym (ap (λ (z : ℕ × L). z.1) g)) (contains_here x items),
            ap (λ (z : ℕ × L). z.0) g,
            r.1,
          )

      go : (o : Option (ℕ × L)) → shifted_over all s x ≡ o → (Contains (shifted_items all s items) (i, l) →
          (j : ℕ) × Contains items (j, l) × (i ≡ j + 1) × (symbol_behind all j ≡ Some s)) →
          Contains (cons_option o (shifted_items all s items)) (i, l) →
          (j : ℕ) × Contains (x ∷ items) (j, l) × (i ≡ j + 1) × (symbol_behind all j ≡ Some s)
      go None e rec d = later (rec d)
      go (Some y) e rec d =
          ⊎_elim (λ f. here y e f) (λ f. later (rec f)) (contains_split y (i, l) (shifted_items all s items) d)

  -- and each item before the symbol is shifted
  pub shifted_to : (items : List (ℕ × L)) (j : ℕ) (l : L) → Contains items (j, l) → symbol_behind all j ≡ Some s →
      Contains (shifted_items all s items) (j + 1, l)
  shifted_to [] j l c e = absurd (no_element (j, l) c)
  shifted_to (x ∷ items) j l c e =
      go (shifted_over all s x) refl (shifted_to items j l) (contains_split x (j, l) items c)
    where
      go : (o : Option (ℕ × L)) → shifted_over all s x ≡ o → (Contains items (j, l) → symbol_behind all j ≡ Some s →
          Contains (shifted_items all s items) (j + 1, l)) → (x ≡ (j, l)) ⊎ Contains items (j, l) →
          Contains (cons_option o (shifted_items all s items)) (j + 1, l)
      go None f rec (inl h) =
          absurd (none_some (j + 1, l) (sym f ∙ ap (shifted_over all s) h ∙ is_over j l e))
      go None f rec (inr h) = rec h e
      go (Some y) f rec (inl h) =
          let z : Some y ≡ Some (j + 1, l) = sym f ∙ ap (shifted_over all s) h ∙ is_over j l e in
          let w : y ≡ (j + 1, l) = cc in
          subst (λ v. Contains (y ∷ shifted_items all s items) v) w (contains_here y (shifted_items all s items))
      go (Some y) f rec (inr h) = contains_later y (j + 1, l) (shifted_items all s items) (rec h e)

  shifted_ascend : (items : List (ℕ × L)) (a : ℕ) → AscendsFrom a (places_of items) →
      AscendsFrom (suc a) (places_of (shifted_items all s items))
  shifted_ascend [] a h = tt
  shifted_ascend (x ∷ items) a h = go (shifted_over all s x) refl (shifted_ascend items (suc x.0) h.1)
    where
      go : (o : Option (ℕ × L)) → shifted_over all s x ≡ o →
          AscendsFrom (suc (suc x.0)) (places_of (shifted_items all s items)) →
          AscendsFrom (suc a) (places_of (cons_option o (shifted_items all s items)))
      go None e rec = ascends_less (suc a) (suc (suc x.0)) (places_of (shifted_items all s items)) (omega (arith, h.0)) rec
      go (Some y) e rec =
          let f : y.0 ≡ x.0 + 1 = ap (λ (z : ℕ × L). z.0) (over_is x y e).0 in (
            omega (arith, f, h.0),
            ascends_less (suc y.0) (suc (suc x.0)) (places_of (shifted_items all s items)) (omega (arith, f)) rec,
          )

module _ (table : Numbered) (is : IsNumberTable table) where
  abbrev at : ℕ → Option theory.Symbol
  at = symbol_of_number (table_names table) table.terminals.now

  -- the symbol behind an item's dot
  pub symbol_is : (i s : ℕ) (p : theory.Production) (d : ℕ) → HasItemAt table i p d →
      symbol_behind table.places.items i ≡ Some s →
      (x : theory.Symbol) × (rest : List theory.Symbol) × (at s ≡ Some x) × (drop d p.right ≡ x ∷ rest)
  symbol_is i s p d h e =
      let r = rest_first table.places.items i s e in
      go (drop d p.right) refl r.0 (subst (λ xs. SpellsSymbols at xs (drop d p.right)) r.1 ((is_item_table table is).spelled i p d h))
    where
      go : (ys : List theory.Symbol) → drop d p.right ≡ ys → (more : List ℕ) → SpellsSymbols at (s ∷ more) ys →
          (x : theory.Symbol) × (rest : List theory.Symbol) × (at s ≡ Some x) × (drop d p.right ≡ x ∷ rest)
      go [] f more sp = absurd sp
      go (y ∷ ys) f more sp = (y, ys, sp.0, f)

  pub symbol_there : (i : ℕ) (p : theory.Production) (d : ℕ) (x : theory.Symbol) (rest : List theory.Symbol) →
      HasItemAt table i p d → drop d p.right ≡ x ∷ rest →
      (s : ℕ) × (at s ≡ Some x) × (symbol_behind table.places.items i ≡ Some s)
  symbol_there i p d x rest h e =
      go (rest_of table.places.items i) refl
      (subst (λ ys. SpellsSymbols at (rest_of table.places.items i) ys) e ((is_item_table table is).spelled i p d h))
    where
      go : (xs : List ℕ) → rest_of table.places.items i ≡ xs → SpellsSymbols at xs (x ∷ rest) →
          (s : ℕ) × (at s ≡ Some x) × (symbol_behind table.places.items i ≡ Some s)
      go [] f sp = absurd sp
      go (s ∷ xs) f sp = (s, sp.0, first_behind table.places.items i s xs f)

  drop_short : {X : Type 0} (d : ℕ) (xs : List X) (y : X) (ys : List X) → drop d xs ≡ y ∷ ys → d < length xs
  drop_short zero [] y ys e = let z : ⊥ = cc in absurd z
  drop_short zero (x ∷ xs) y ys e = omega arith
  drop_short (suc d) [] y ys e = let z : ⊥ = cc in absurd z
  drop_short (suc d) (x ∷ xs) y ys e = omega (arith, drop_short d xs y ys e)

  -- the item with its dot moved over the symbol
  pub item_moved : (i s : ℕ) (p : theory.Production) (d : ℕ) → HasItemAt table i p d →
      symbol_behind table.places.items i ≡ Some s → HasItemAt table (i + 1) p (d + 1)
  item_moved i s p d h e =
      let r = symbol_is i s p d h e in
      let l = drop_short d p.right r.0 r.1 r.3 in
      let long = ap (λ (q : theory.Production). length q.right) h.seen ∙ long_map production_symbol_view h.production.symbols in
      record {
        number = h.number;
        rule = h.rule;
        production = h.production;
        at_rule = h.at_rule;
        at_production = h.at_production;
        seen = h.seen;
        place_is = omega (arith, h.place_is);
        within = omega (arith, l, long);
      }

  module _ {L : Type 0} (marks : L → List ℕ) (in_order : L → Type 0) (items : List (ℕ × L))
      (are : AreKernelItems marks in_order table items) (s : ℕ) where
    -- shifted items are a kernel
    pub shifted_are : AreKernelItems marks in_order table (shifted_items table.places.items s items)
    shifted_are = record {
      placed = λ i c.
          let r = shifted_from table.places.items s items i c.0 c.1 in
          let h = are.placed r.0 (c.0, r.1) in
          (h.0, h.1 + 1, subst (λ j. HasItemAt table j h.0 (h.1 + 1)) (sym r.2) (item_moved r.0 s h.0 h.1 h.2 r.3));
      ascending = ascends_less 0 1 (places_of (shifted_items table.places.items s items)) (omega arith)
          (shifted_ascend table.places.items s items 0 are.ascending);
      tokens = λ i k c. let r = shifted_from table.places.items s items i c.0 c.1 in are.tokens r.0 k (c.0, r.1, c.2);
      ordered = λ i l c. let r = shifted_from table.places.items s items i l c in are.ordered r.0 l r.1;
    }
