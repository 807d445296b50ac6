-- Productions that are numbered as they stand are those of an expansion, where they are all of it in order; for lowering.
use Rattle.std.specs.Str.{bytes_eq}
use Rattle.std.proofs.Common.{◌≡◌, ℕ, zero, suc, ◌+◌, ◌<◌, List, [], ◌∷◌, refl, ap, sym, ◌∙◌, subst, Bool}
use Rattle.std.proofs.Common.{true, false, inl, inr, ◌⊎◌}
use Rattle.std.proofs.Common.{arith, length}
use Rattle.std.specs.Prelude.{Some, slice_get, nat_lt, ◌&&◌, ◌||◌, not}
use Rattle.std.specs.List.{list_all}
use Rattle.std.proofs.lemmas.Bool.{and_parts}
use Rattle.lalrpop_grammar_symbols.specs.Symbols.{Text}
use Rattle.lalrpop_grammar.specs.WrittenGrammar.{Origin}
use Rattle.lalrpop_grammar_language.specs.Among.{Among}
use Rattle.lalrpop_grammar_language.specs.Enabled.{EnabledGrammar}
use Rattle.lalrpop_grammar_language.specs.Expansion.{Nonterminal, RightSide, WrittenLabel}
use Rattle.lalrpop_grammar_language.proofs.ComparisonLemmas.{same_text-refl}
use Rattle.lalrpop_norm_theory.specs.Rows.{Row, production_of_row, productions_from, origins_of, AreExpansionRows}
use Rattle.lalrpop_norm_theory.specs.Productions.{NamedProduction, StandsForLabel, IsOriginBefore, IsInOrder, AreProductions}
use Rattle.lalrpop_norm_theory.proofs.ClosedComparisonLemmas.{all-each}

-- where a production stands, its row stands
pub row_at : (name_of : Nonterminal → Text) (k : ℕ) (rows : List Row) (i : ℕ) (p : NamedProduction) →
    slice_get (productions_from name_of k rows) i ≡ Some p →
    (row : Row) × (slice_get rows i ≡ Some row) × (p ≡ production_of_row name_of (k + i) row)
row_at name_of k [] i p e = cc
row_at name_of k (row ∷ rows) zero p e =
    let f : production_of_row name_of k row ≡ p = cc in
    (row, refl, sym f ∙ ap (λ n. production_of_row name_of n row) (let g : k ≡ k + 0 = omega arith in g))
row_at name_of k (row ∷ rows) (suc i) p e =
    let w = row_at name_of (k + 1) rows i p e in
    (w.0, w.1, w.2 ∙ ap (λ n. production_of_row name_of n w.0) (let g : (k + 1) + i ≡ k + suc i = omega arith in g))

-- where a row stands, its production stands
pub production_at : (name_of : Nonterminal → Text) (k : ℕ) (rows : List Row) (row : Row) → Among rows row →
    (i : ℕ) × (slice_get (productions_from name_of k rows) i ≡ Some (production_of_row name_of (k + i) row))
    × (slice_get (origins_of rows) i ≡ Some row.0.choice)
production_at name_of k [] row h = absurd h
production_at name_of k (first ∷ rows) row (inl e) = (
  0,
  ap (λ r. Some (production_of_row name_of k r)) e
      ∙ ap (λ n. Some (production_of_row name_of n row)) (let g : k ≡ k + 0 = omega arith in g),
  ap (λ r. Some r.0.choice) e,
)
production_at name_of k (first ∷ rows) row (inr h) =
    let w = production_at name_of (k + 1) rows row h in
    (suc w.0, w.1 ∙ ap (λ n. Some (production_of_row name_of n row)) (let g : (k + 1) + w.0 ≡ k + suc w.0 = omega arith in g), w.2)

production_row : (name_of : Nonterminal → Text) (k : ℕ) (rows : List Row) (p : NamedProduction) →
    Among (productions_from name_of k rows) p →
    (i : ℕ) × (row : Row) × Among rows row × (p ≡ production_of_row name_of (k + i) row)
    × (slice_get (origins_of rows) i ≡ Some row.0.choice)
production_row name_of k [] p h = absurd h
production_row name_of k (row ∷ rows) p (inl e) =
    (0, row, inl refl, sym e ∙ ap (λ n. production_of_row name_of n row) (let g : k ≡ k + 0 = omega arith in g), refl)
production_row name_of k (row ∷ rows) p (inr h) =
    let w = production_row name_of (k + 1) rows p h in (
      suc w.0,
      w.1,
      inr w.2,
      w.3 ∙ ap (λ n. production_of_row name_of n w.1) (let g : (k + 1) + w.0 ≡ k + suc w.0 = omega arith in g),
      w.4,
    )

origin_at : (rows : List Row) (i : ℕ) (row : Row) → slice_get rows i ≡ Some row →
    slice_get (origins_of rows) i ≡ Some row.0.choice
origin_at [] i row e = cc
origin_at (first ∷ rows) zero row e = let f : first ≡ row = cc in ap (λ r. Some r.0.choice) f
origin_at (first ∷ rows) (suc i) row e = origin_at rows i row e

as_many : (name_of : Nonterminal → Text) (k : ℕ) (rows : List Row) →
    length (origins_of rows) ≡ length (productions_from name_of k rows)
as_many name_of k [] = refl
as_many name_of k (row ∷ rows) = ap suc (as_many name_of (k + 1) rows)

-- no choice stands before itself
pub not_before_itself : (o : Origin) → IsOriginBefore o o → ⊥
not_before_itself (Origin.alternative n args place) h = omega (arith, h)
not_before_itself Origin.start h = h
not_before_itself Origin.pass_down h = h
not_before_itself Origin.plus_one h = h
not_before_itself Origin.plus_more h = h
not_before_itself Origin.star_none h = h
not_before_itself Origin.star_some h = h
not_before_itself Origin.opt_none h = h
not_before_itself Origin.opt_some h = h
not_before_itself Origin.group h = h
not_before_itself Origin.look h = h

pub three_ways : (i j : ℕ) → (i < j) ⊎ ((j < i) ⊎ (i ≡ j))
three_ways i j = grind arith

-- numbered as they stand they are the expansion's productions
pub numbered_productions : (g : EnabledGrammar) (name_of : Nonterminal → Text) (rows : List Row) → AreExpansionRows g name_of rows →
    AreProductions g name_of (productions_from name_of 0 rows) (origins_of rows)
numbered_productions g name_of rows a = record {
  every = λ label side i m.
      let w = production_at name_of 0 rows (label, side) (a.every label side i m) in
      let p : NamedProduction = production_of_row name_of (0 + w.0) (label, side) in
      let origin_is : slice_get (origins_of rows) (0 + w.0) ≡ Some label.choice =
      ap (slice_get (origins_of rows)) (let e : 0 + w.0 ≡ w.0 = omega arith in e) ∙ w.2 in (
        w.0,
        p,
        w.1,
        record {
          in_expansion = i;
          produced = m;
          nonterminal_is = refl;
          symbols_are = refl;
          origin_is = origin_is;
        },
      );
  no_other = no_other;
  once = once;
  own_action = λ i j p q e f same.
      let v = row_at name_of 0 rows i p e in
      let w = row_at name_of 0 rows j q f in
      let m : 0 + i ≡ 0 + j = sym (ap (λ r. r.action) v.2) ∙ same ∙ ap (λ r. r.action) w.2 in
      omega (arith, m);
  in_order = in_order;
  no_other_origin = as_many name_of 0 rows;
}
  where
    choice_at : (i : ℕ) (p : NamedProduction) (row : Row) → slice_get rows i ≡ Some row →
        p ≡ production_of_row name_of (0 + i) row →
        slice_get (origins_of rows) p.action ≡ Some row.0.choice
    choice_at i p row e f =
        ap (slice_get (origins_of rows)) (ap (λ r. r.action) f ∙ (let g : 0 + i ≡ i = omega arith in g)) ∙ origin_at rows i row e

    no_other : (p : NamedProduction) → Among (productions_from name_of 0 rows) p →
        (label : WrittenLabel) × (side : RightSide) × StandsForLabel g name_of (origins_of rows) p label side
    no_other p h =
        let w = production_row name_of 0 rows p h in
        let there = a.no_other w.1 w.2 in (
          w.1.0,
          w.1.1,
          record {
            in_expansion = there.0;
            produced = there.1;
            nonterminal_is = ap (λ r. r.nonterminal) w.3;
            symbols_are = ap (λ r. r.symbols) w.3;
            origin_is = ap (slice_get (origins_of rows)) (ap (λ r. r.action) w.3 ∙ (let e : 0 + w.0 ≡ w.0 = omega arith in e)) ∙ w.4;
          },
        )

    before : (i j : ℕ) (p q : NamedProduction) → i < j → slice_get (productions_from name_of 0 rows) i ≡ Some p →
        slice_get (productions_from name_of 0 rows) j ≡ Some q → p.nonterminal ≡ q.nonterminal → (o later : Origin) →
        slice_get (origins_of rows) p.action ≡ Some o → slice_get (origins_of rows) q.action ≡ Some later → IsOriginBefore o later
    before i j p q less e f same o later k l =
        let v = row_at name_of 0 rows i p e in
        let w = row_at name_of 0 rows j q f in
        let names : name_of v.0.0.head ≡ name_of w.0.0.head =
        sym (ap (λ r. r.nonterminal) v.2) ∙ same ∙ ap (λ r. r.nonterminal) w.2 in
        let first : Some v.0.0.choice ≡ Some o = sym (choice_at i p v.0 v.1 v.2) ∙ k in
        let second : Some w.0.0.choice ≡ Some later = sym (choice_at j q w.0 w.1 w.2) ∙ l in
        let one : v.0.0.choice ≡ o = cc in
        let two : w.0.0.choice ≡ later = cc in
        subst (λ z. IsOriginBefore z later) one
        (subst (λ z. IsOriginBefore v.0.0.choice z) two (a.in_order i j v.0 w.0 less v.1 w.1 names))

    in_order : (i j : ℕ) (p q : NamedProduction) → i < j → slice_get (productions_from name_of 0 rows) i ≡ Some p →
        slice_get (productions_from name_of 0 rows) j ≡ Some q → p.nonterminal ≡ q.nonterminal → IsInOrder (origins_of rows) p q
    in_order i j p q less e f same = record {
      choices = λ o later k l. before i j p q less e f same o later k l;
      actions =
          let v = row_at name_of 0 rows i p e in
          let w = row_at name_of 0 rows j q f in
          let m : p.action ≡ 0 + i = ap (λ r. r.action) v.2 in
          let n : q.action ≡ 0 + j = ap (λ r. r.action) w.2 in
          omega (arith, m, n, less);
    }

    not_twice : (i j : ℕ) (p q : NamedProduction) → i < j → slice_get (productions_from name_of 0 rows) i ≡ Some p →
        slice_get (productions_from name_of 0 rows) j ≡ Some q → p.nonterminal ≡ q.nonterminal →
        slice_get (origins_of rows) p.action ≡ slice_get (origins_of rows) q.action → ⊥
    not_twice i j p q less e f same origin =
        let v = row_at name_of 0 rows i p e in
        let k = choice_at i p v.0 v.1 v.2 in
        not_before_itself v.0.0.choice (before i j p q less e f same v.0.0.choice v.0.0.choice k (sym origin ∙ k))

    once : (i j : ℕ) (p q : NamedProduction) → slice_get (productions_from name_of 0 rows) i ≡ Some p →
        slice_get (productions_from name_of 0 rows) j ≡ Some q → p.nonterminal ≡ q.nonterminal →
        slice_get (origins_of rows) p.action ≡ slice_get (origins_of rows) q.action → i ≡ j
    once i j p q e f same origin = go (three_ways i j)
      where
        go : (i < j) ⊎ ((j < i) ⊎ (i ≡ j)) → i ≡ j
        go (inl less) = absurd (not_twice i j p q less e f same origin)
        go (inr (inl more)) = absurd (not_twice j i q p more f e (sym same) (sym origin))
        go (inr (inr is)) = is

-- a test of the order of rows; for the examples

abbrev is_before : Origin → Origin → Bool
is_before (Origin.alternative n args i) (Origin.alternative m others j) = nat_lt i j
is_before (Origin.alternative n args i) Origin.pass_down = true
is_before Origin.plus_one Origin.plus_more = true
is_before Origin.star_none Origin.star_some = true
is_before Origin.opt_some Origin.opt_none = true
is_before _ _ = false

before-is : (o later : Origin) → is_before o later ≡ true → IsOriginBefore o later
before-is (Origin.alternative n args i) (Origin.alternative m others j) h = Rattle.std.proofs.lemmas.Bool.ltb-true i j h
before-is (Origin.alternative n args i) Origin.pass_down h = tt
before-is Origin.plus_one Origin.plus_more h = tt
before-is Origin.star_none Origin.star_some h = tt
before-is Origin.opt_some Origin.opt_none h = tt
before-is _ _ h = cc

abbrev follows : (Nonterminal → Text) → Row → Row → Bool
follows name_of row later = not (bytes_eq (name_of row.0.head) (name_of later.0.head)) || is_before row.0.choice later.0.choice

-- whether each nonterminal's rows stand in order
abbrev pub are_in_order : (Nonterminal → Text) → List Row → Bool
are_in_order name_of [] = true
are_in_order name_of (row ∷ rows) = list_all (follows name_of row) rows && are_in_order name_of rows

row-among : (rows : List Row) (i : ℕ) (row : Row) → slice_get rows i ≡ Some row → Among rows row
row-among [] i row e = cc
row-among (first ∷ rows) zero row e = let f : first ≡ row = cc in inl f
row-among (first ∷ rows) (suc i) row e = inr (row-among rows i row e)

-- then they do
pub rows-in-order : (name_of : Nonterminal → Text) (rows : List Row) → are_in_order name_of rows ≡ true →
    (i j : ℕ) (row later : Row) →
    i < j → slice_get rows i ≡ Some row → slice_get rows j ≡ Some later → name_of row.0.head ≡ name_of later.0.head →
    IsOriginBefore row.0.choice later.0.choice
rows-in-order name_of [] h i j row later less e f same = cc
rows-in-order name_of (first ∷ rows) h zero zero row later less e f same = let impossible : ⊥ = omega (arith, less) in absurd impossible
rows-in-order name_of (first ∷ rows) h (suc i) zero row later less e f same = let impossible : ⊥ = omega
    (arith, less) in absurd impossible
rows-in-order name_of (first ∷ rows) h (suc i) (suc j) row later less e f same =
    rows-in-order name_of rows (and_parts (list_all (follows name_of first) rows) (are_in_order name_of rows) h).1 i j row later
    (omega (arith, less)) e f same
rows-in-order name_of (first ∷ rows) h zero (suc j) row later less e f same =
    let is : first ≡ row = cc in
    let test : follows name_of first later ≡ true =
    all-each (follows name_of first) rows (and_parts (list_all (follows name_of first) rows) (are_in_order name_of rows) h).0 later
    (row-among rows j later f) in
    let names : bytes_eq (name_of first.0.head) (name_of later.0.head) ≡ true =
    ap (λ r. bytes_eq (name_of r.0.head) (name_of later.0.head)) is ∙ ap (λ t. bytes_eq t (name_of later.0.head)) same
    ∙ same_text-refl (name_of later.0.head) in
    subst (λ r. IsOriginBefore r.0.choice later.0.choice) is
    (before-is first.0.choice later.0.choice (go (bytes_eq (name_of first.0.head) (name_of later.0.head)) names test))
  where
    go : (b : Bool) → b ≡ true → (not b || is_before first.0.choice later.0.choice) ≡ true →
        is_before first.0.choice later.0.choice ≡ true
    go true k t = t
    go false k t = cc
