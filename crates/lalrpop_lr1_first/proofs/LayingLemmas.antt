-- Right sides that are laid one behind the other: one symbol and one production more. For the table of numbers.
use Rattle.std.proofs.Common.{append-nil, append_assoc, ◌≡◌, ◌∙◌, ℕ, zero, suc, ◌<◌, ◌≤◌, List, []}
use Rattle.std.proofs.Common.{◌∷◌, ◌++◌, length, map, drop, refl, ap, sym, subst, arith}
use Rattle.std.proofs.Common.{Some, Option, slice_get, ◌⊎◌, inl, inr, ⊎_elim}
use Rattle.std.proofs.Math.Seq.{drop-append_seam}
use Rattle.std.proofs.lemmas.List.{drop-append-le}
use Rattle.std.proofs.lemmas.Option.{slice_get_within}
use Rattle.lalrpop_grammar_symbols.specs.declared.names.NonterminalString.{NonterminalString}
use Rattle.lalrpop_grammar_repr.specs.declared.production.Production.{Production}
use Rattle.lalrpop_grammar_repr.specs.declared.production.Symbol.{Symbol}
use Rattle.lalrpop_grammar_repr.specs.declared.terminal_set.TerminalSet.{TerminalSet}
use Rattle.lalrpop_lr1_theory.specs.Productions as theory
use Rattle.lalrpop_lr1_core.specs.Views.{production_symbol_view}
use Rattle.lalrpop_lr1_first.specs.Numbers.{SpellsSymbols}
use Rattle.lalrpop_lr1_first.specs.Tables.{AreLaid, IsLaidAt, LaysRule, LaysSymbols, laid_side, symbol_of_number}
use Rattle.lalrpop_lr1_first.specs.declared.place.NumberedRule.{NumberedRule}
use Rattle.lalrpop_lr1_first.specs.declared.place.Place.{Place}
use Rattle.lalrpop_lr1_first.specs.declared.place.Place.TheVariants as places

-- one symbol more is spelled
spells_more : (at : ℕ → Option theory.Symbol) (xs : List ℕ) (ys : List theory.Symbol) (s : ℕ) (y : theory.Symbol) →
    SpellsSymbols at xs ys →
    at s ≡ Some y → SpellsSymbols at (xs ++ s ∷ []) (ys ++ y ∷ [])
spells_more at [] [] s y sp e = (e, tt)
spells_more at [] (z ∷ ys) s y sp e = absurd sp
spells_more at (x ∷ xs) [] s y sp e = absurd sp
spells_more at (x ∷ xs) (z ∷ ys) s y sp e = (sp.0, spells_more at xs ys s y sp.1 e)

map_snoc : {X Y : Type 0} (f : X → Y) (xs : List X) (x : X) → map f (xs ++ x ∷ []) ≡ map f xs ++ f x ∷ []
map_snoc f [] x = refl
map_snoc f (y ∷ xs) x = ap (λ l. f y ∷ l) (map_snoc f xs x)

module _ (names : List NonterminalString) (ts : TerminalSet) where
  pub lays_none : (old : List Place) → LaysSymbols names ts old old []
  lays_none old = record { numbers = []; laid = sym (append-nil old); spelled = tt }

  pub lays_more : (old mid new : List Place) (side : List Symbol) (x : Symbol) (s : ℕ) → LaysSymbols names ts old mid side →
      symbol_of_number names ts s ≡ Some (production_symbol_view x) → new ≡ mid ++ places.Symbol s ∷ [] →
      LaysSymbols names ts old new (side ++ x ∷ [])
  lays_more old mid new side x s h e n = record {
    numbers = h.numbers ++ s ∷ [];
    laid = n ∙ ap (λ l. l ++ places.Symbol s ∷ []) h.laid ∙ append_assoc old (map places.Symbol h.numbers) (places.Symbol s ∷ [])
        ∙ ap (λ l. old ++ l) (sym (map_snoc places.Symbol h.numbers s));
    spelled = subst (SpellsSymbols (symbol_of_number names ts) (h.numbers ++ s ∷ [])) (sym (map_snoc production_symbol_view side x))
        (spells_more (symbol_of_number names ts) h.numbers (map production_symbol_view side) s (production_symbol_view x) h.spelled e);
  }

  pub laid_none : (rules : List NumberedRule) (all : List Place) → length rules ≡ 0 → length all ≡ 0 →
      AreLaid names ts [] rules all
  laid_none rules all e f = record {
    count = e;
    starts = λ q r one other less f g. absurd (omega (arith, slice_get_within rules r other g));
    symbols = λ i s h. absurd (omega (arith, slice_get_within all i (places.Symbol s) h));
    at = λ r p h. let w : ⊥ = cc in absurd w;
  }

  get_before : {X : Type 0} (xs ys : List X) (r : ℕ) (x : X) → slice_get xs r ≡ Some x → slice_get (xs ++ ys) r ≡ Some x
  get_before [] ys r x e = let w : ⊥ = cc in absurd w
  get_before (y ∷ xs) ys zero x e = e
  get_before (y ∷ xs) ys (suc r) x e = get_before xs ys r x e

  get_last : {X : Type 0} (xs : List X) (x : X) (r : ℕ) → length xs ≡ r → slice_get (xs ++ x ∷ []) r ≡ Some x
  get_last [] x zero e = refl
  get_last [] x (suc r) e = absurd (omega arith)
  get_last (y ∷ xs) x zero e = absurd (omega arith)
  get_last (y ∷ xs) x (suc r) e = get_last xs x r (omega arith)

  get_split : {X : Type 0} (xs : List X) (x : X) (r : ℕ) (y : X) → slice_get (xs ++ x ∷ []) r ≡ Some y →
      (slice_get xs r ≡ Some y) ⊎ ((r ≡ length xs) × (x ≡ y))
  get_split [] x zero y e = let z : x ≡ y = cc in inr (refl, z)
  get_split [] x (suc r) y e = let w : ⊥ = cc in absurd w
  get_split (z ∷ xs) x zero y e = inl e
  get_split (z ∷ xs) x (suc r) y e = ⊎_elim (λ h. inl h) (λ h. inr (ap suc h.0, h.1)) (get_split xs x r y e)

  get_parts : {X : Type 0} (xs ys : List X) (i : ℕ) (x : X) → slice_get (xs ++ ys) i ≡ Some x →
      (slice_get xs i ≡ Some x) ⊎ ((j : ℕ) × (slice_get ys j ≡ Some x))
  get_parts [] ys i x e = inr (i, e)
  get_parts (y ∷ xs) ys zero x e = inl e
  get_parts (y ∷ xs) ys (suc i) x e = get_parts xs ys i x e

  in_side : (xs : List ℕ) (ys : List theory.Symbol) → SpellsSymbols (symbol_of_number names ts) xs ys → (r i s : ℕ) →
      slice_get (laid_side xs r) i ≡ Some (places.Symbol s) → (x : theory.Symbol) × (symbol_of_number names ts s ≡ Some x)
  in_side [] ys sp r zero s e = let w : ⊥ = cc in absurd w
  in_side [] ys sp r (suc i) s e = let w : ⊥ = cc in absurd w
  in_side (x ∷ xs) [] sp r i s e = absurd sp
  in_side (x ∷ xs) (y ∷ ys) sp r zero s e =
      let z : x ≡ s = cc in (y, subst (λ n. symbol_of_number names ts n ≡ Some y) z sp.0)
  in_side (x ∷ xs) (y ∷ ys) sp r (suc i) s e = in_side xs ys sp.1 r i s e

  -- a drop that leaves something is within the list
  pub drop_within : {X : Type 0} (n : ℕ) (xs : List X) (y : X) (ys : List X) → drop n xs ≡ y ∷ ys → n ≤ length xs
  drop_within zero xs y ys e = omega arith
  drop_within (suc n) [] y ys e = let w : ⊥ = cc in absurd w
  drop_within (suc n) (x ∷ xs) y ys e = omega (arith, drop_within n xs y ys e)

  drop_less : {X : Type 0} (n : ℕ) (xs : List X) (y : X) (ys : List X) → drop n xs ≡ y ∷ ys → n < length xs
  drop_less zero [] y ys e = let w : ⊥ = cc in absurd w
  drop_less zero (x ∷ xs) y ys e = omega arith
  drop_less (suc n) [] y ys e = let w : ⊥ = cc in absurd w
  drop_less (suc n) (x ∷ xs) y ys e = omega (arith, drop_less n xs y ys e)

  get_some : {X : Type 0} (xs : List X) (r : ℕ) → r < length xs → (x : X) × (slice_get xs r ≡ Some x)
  get_some [] r h = absurd (omega arith)
  get_some (x ∷ xs) zero h = (x, refl)
  get_some (x ∷ xs) (suc r) h = get_some xs r (omega arith)

  some_is : {X : Type 0} (x y : X) → Some x ≡ Some y → x ≡ y
  some_is x y e = cc

  pub side_first : (xs : List ℕ) (r : ℕ) (more : List Place) → (y : Place) × (ys : List Place)
      × (laid_side xs r ++ more ≡ y ∷ ys)
  side_first [] r more = (places.End r, more, refl)
  side_first (x ∷ xs) r more = (places.Symbol x, laid_side xs r ++ more, refl)

  pub laid_more : (productions : List Production) (p : Production) (rules rules' : List NumberedRule) (all all' : List Place) →
      AreLaid names ts productions rules all → LaysRule names ts (length rules) p rules rules' all all' →
      AreLaid names ts (productions ++ p ∷ []) rules' all'
  laid_more productions p rules rules' all all' h l = record {
    starts = λ q r one other less f g. ascends q r one other less
        (get_split rules l.rule q one (sym (ap (λ z. slice_get z q) l.rules) ∙ f))
        (get_split rules l.rule r other (sym (ap (λ z. slice_get z r) l.rules) ∙ g));
    symbols = λ i s e. ⊎_elim (λ f. h.symbols i s f) (λ f. in_side l.numbers (map production_symbol_view p.symbols) l.spelled
        (length rules) f.0 s f.1)
        (get_parts all (laid_side l.numbers (length rules)) i (places.Symbol s) (sym (ap (λ z. slice_get z i) l.laid) ∙ e));
    count = ap length l.rules ∙ long rules l.rule ∙ ap suc h.count ∙ sym (long productions p);
    at = λ r q e. go r q (get_split productions p r q e);
  }
    where
      long : {X : Type 0} (xs : List X) (x : X) → length (xs ++ x ∷ []) ≡ suc (length xs)
      long [] x = refl
      long (y ∷ xs) x = ap suc (long xs x)

      before : (q : ℕ) (one : NumberedRule) → slice_get rules q ≡ Some one → one.start < length all
      before q one f =
          let p = get_some productions q (omega (arith, slice_get_within rules q one f, h.count)) in
          let a = h.at q p.0 p.1 in
          let same : a.rule ≡ one = some_is a.rule one (sym a.at ∙ f) in
          let y = side_first a.numbers q a.more in
          subst (λ (x : NumberedRule). x.start < length all) same (drop_less a.rule.start all y.0 y.1 (a.laid ∙ y.2))

      ascends : (q r : ℕ) (one other : NumberedRule) → q < r →
          (slice_get rules q ≡ Some one) ⊎ ((q ≡ length rules) × (l.rule ≡ one)) →
          (slice_get rules r ≡ Some other) ⊎ ((r ≡ length rules) × (l.rule ≡ other)) → one.start < other.start
      ascends q r one other less (inl f) (inl g) = h.starts q r one other less f g
      ascends q r one other less (inl f) (inr g) =
          let start : l.rule.start ≡ other.start = ap (λ (x : NumberedRule). x.start) g.1 in
          omega (arith, before q one f, l.start, start)
      ascends q r one other less (inr f) (inl g) = absurd (omega (arith, f.0, less, slice_get_within rules r other g))
      ascends q r one other less (inr f) (inr g) = absurd (omega (arith, f.0, g.0, less))

      go : (r : ℕ) (q : Production) → (slice_get productions r ≡ Some q) ⊎ ((r ≡ length productions) × (p ≡ q)) →
          IsLaidAt names ts rules' all' r q
      go r q (inl e) =
          let a = h.at r q e in
          let f = side_first a.numbers r a.more in
          let within : a.rule.start ≤ length all = drop_within a.rule.start all f.0 f.1 (a.laid ∙ f.2) in
          record {
            rule = a.rule;
            numbers = a.numbers;
            more = a.more ++ laid_side l.numbers (length rules);
            at = ap (λ z. slice_get z r) l.rules ∙ get_before rules (l.rule ∷ []) r a.rule a.at;
            laid = ap (drop a.rule.start) l.laid ∙ drop-append-le a.rule.start all (laid_side l.numbers (length rules)) within
                ∙ ap (λ z. z ++ laid_side l.numbers (length rules)) a.laid
                ∙ append_assoc (laid_side a.numbers r) a.more (laid_side l.numbers (length rules));
            left = a.left;
            spelled = a.spelled;
          }
      go r q (inr e) =
          let here : length rules ≡ r = h.count ∙ sym e.0 in
          subst (λ (z : Production). IsLaidAt names ts rules' all' r z) e.1 (record {
            rule = l.rule;
            numbers = l.numbers;
            more = [];
            at = ap (λ z. slice_get z r) l.rules ∙ get_last rules l.rule r here;
            laid = ap (drop l.rule.start) l.laid ∙ ap (λ z. drop z (all ++ laid_side l.numbers (length rules))) l.start
                ∙ drop-append_seam all (laid_side l.numbers (length rules)) ∙ ap (laid_side l.numbers) here
                ∙ sym (append-nil (laid_side l.numbers r));
            left = l.left;
            spelled = l.spelled;
          })
