-- Productions numbered over the starts and the rules, and regrouped by a map of nonterminals; for lowering.
use Rattle.std.specs.Prelude.{Some, flat_map, map, slice_get}
use Rattle.std.proofs.Common.{◌≡◌, ◌≢◌, ◌⊎◌, ℕ, ◌+◌, ◌<◌, suc, List, [], ◌∷◌, ◌++◌, refl, ap}
use Rattle.std.proofs.Common.{ap₂, sym, ◌∙◌, length, inl, inr, arith, append_assoc}
use Rattle.lalrpop_grammar_symbols.specs.Symbols.{Text}
use Rattle.lalrpop_grammar.specs.WrittenGrammar.{Alternative, Origin, Rule}
use Rattle.lalrpop_grammar_language.specs.Among.{Among}
use Rattle.lalrpop_grammar_language.specs.Enabled.{EnabledGrammar}
use Rattle.lalrpop_grammar_language.specs.Expansion.{GrammarSymbol, Nonterminal}
use Rattle.lalrpop_norm_theory.specs.Same.{rename_side}
use Rattle.lalrpop_norm_theory.specs.Productions.{AreProductions, IsInOrder, NamedProduction}
use Rattle.lalrpop_norm_theory.specs.Rows.{Row, production_of_row, productions_from}
use Rattle.lalrpop_norm_lower.proofs.EarlierLemmas.{Earlier, among_at, at_among, earlier_at}
use Rattle.lalrpop_norm_lower.proofs.ExpansionRowLemmas.{alternative_row, lowered_rows, rule_rows, start_row}
use Rattle.lalrpop_norm_lower.proofs.RowLemmas.{symbol_by_rules}
use Rattle.lalrpop_norm_lower.specs.LoweredLists.{LoweredNonterminal, alternative_productions, lowered_entries, rule_entries}
use Rattle.lalrpop_norm_lower.specs.LoweredLists.{rules_with_starts, start_entries}
use Rattle.lalrpop_norm_lower.specs.LoweredSymbols.{lowered_name, lowered_side}
use Rattle.lalrpop_norm_theory.proofs.NumberingLemmas.{three_ways}

-- the productions of an entry, over names
abbrev pub entry_productions : LoweredNonterminal → List NamedProduction
entry_productions e = map (λ p. p.production) e.productions

renamed_back : (prefix : Text) (xs : List (GrammarSymbol Text)) → rename_side (lowered_name prefix) (map symbol_by_rules xs) ≡ xs
renamed_back prefix [] = refl
renamed_back prefix (GrammarSymbol.nonterminal n ∷ xs) = ap (λ l. GrammarSymbol.nonterminal n ∷ l) (renamed_back prefix xs)
renamed_back prefix (GrammarSymbol.terminal t ∷ xs) = ap (λ l. GrammarSymbol.terminal t ∷ l) (renamed_back prefix xs)

numbered_joined : (f : Nonterminal → Text) (k m : ℕ) (xs ys : List Row) → k + length xs ≡ m
    → productions_from f k (xs ++ ys) ≡ productions_from f k xs ++ productions_from f m ys
numbered_joined f k m [] ys e = ap (λ j. productions_from f j ys) (let g : k ≡ m = omega (arith, e) in g)
numbered_joined f k m (x ∷ xs) ys e =
    ap (λ l. production_of_row f k x ∷ l) (numbered_joined f (k + 1) m xs ys (omega (arith, e)))

mapped_length : {A B : Type 0} (f : A → B) (xs : List A) → length (map f xs) ≡ length xs
mapped_length f [] = refl
mapped_length f (x ∷ xs) = ap suc (mapped_length f xs)

flat_joined : {A B : Type 0} (f : A → List B) (xs ys : List A) → flat_map f (xs ++ ys) ≡ flat_map f xs ++ flat_map f ys
flat_joined f [] ys = refl
flat_joined f (x ∷ xs) ys =
    ap (λ l. f x ++ l) (flat_joined f xs ys) ∙ sym (append_assoc (f x) (flat_map f xs) (flat_map f ys))

same_production : (n : Text) (k : ℕ) (xs ys : List (GrammarSymbol Text)) → xs ≡ ys
    → ◌≡◌ {A = NamedProduction} (record { nonterminal = n; symbols = xs; action = k })
    (record { nonterminal = n; symbols = ys; action = k })
same_production n k xs ys e = ap (λ (l : List (GrammarSymbol Text)). record { nonterminal = n; symbols = l; action = k }) e

module _ (prefix : Text) where
  abbrev name_of : Nonterminal → Text
  name_of = lowered_name prefix

  starts_numbered : (k : ℕ) (ss : List Rule)
      → productions_from name_of k (map start_row ss) ≡ flat_map entry_productions (start_entries prefix k ss)
  starts_numbered k [] = refl
  starts_numbered k (r ∷ ss) = ap (λ l. production_of_row name_of k (start_row r) ∷ l) (starts_numbered (k + 1) ss)

  alternatives_numbered : (n : Text) (k : ℕ) (as_ : List Alternative)
      → productions_from name_of k (map (alternative_row n) as_) ≡ map (λ p. p.production) (alternative_productions n k as_)
  alternatives_numbered n k [] = refl
  alternatives_numbered n k (a ∷ as_) =
      ap₂ ◌∷◌ (same_production n k (rename_side (lowered_name prefix) (map symbol_by_rules (lowered_side a.expr)))
      (lowered_side a.expr)
      (renamed_back prefix (lowered_side a.expr))) (alternatives_numbered n (k + 1) as_)

  rules_numbered : (k : ℕ) (rs : List Rule)
      → productions_from name_of k (flat_map rule_rows rs) ≡ flat_map entry_productions (rule_entries k rs)
  rules_numbered k [] = refl
  rules_numbered k (r ∷ rs) =
      numbered_joined name_of k (k + length r.alternatives) (rule_rows r) (flat_map rule_rows rs)
      (ap (λ n. k + n) (mapped_length (alternative_row r.name) r.alternatives))
      ∙ ap₂ ◌++◌ (alternatives_numbered r.name k r.alternatives) (rules_numbered (k + length r.alternatives) rs)

  -- the numbered rows are the productions of what lowering makes
  pub rows_numbered : (rs : List Rule)
      → productions_from name_of 0 (lowered_rows rs) ≡ flat_map entry_productions (lowered_entries prefix rs)
  rows_numbered rs =
      numbered_joined name_of 0 (length (rules_with_starts rs)) (map start_row (rules_with_starts rs)) (flat_map rule_rows rs)
      (let e : length (map start_row (rules_with_starts rs)) ≡ length (rules_with_starts rs) =
      mapped_length start_row (rules_with_starts rs) in omega (arith, e))
      ∙ ap₂ ◌++◌ (starts_numbered 0 (rules_with_starts rs)) (rules_numbered (length (rules_with_starts rs)) rs)
      ∙ sym (flat_joined entry_productions (start_entries prefix 0 (rules_with_starts rs))
      (rule_entries (length (rules_with_starts rs)) rs))

-- the productions rise in their actions
abbrev pub HasLowerAction : NamedProduction → NamedProduction → Type 0
HasLowerAction p q = p.action < q.action

from_on : (f : Nonterminal → Text) (k : ℕ) (rows : List Row) (p : NamedProduction) → Among (productions_from f (k + 1) rows) p
    → k < p.action
from_on f k [] p i = absurd i
from_on f k (row ∷ rows) p (inl e) = let same : k + 1 ≡ p.action = ap (λ (q : NamedProduction). q.action) e in omega (arith, same)
from_on f k (row ∷ rows) p (inr i) = let later : k + 1 < p.action = from_on f (k + 1) rows p i in omega (arith, later)

-- each production of rows that are numbered in order has a lower action than each later one
pub numbers_rise : (f : Nonterminal → Text) (k : ℕ) (rows : List Row) → Earlier HasLowerAction (productions_from f k rows)
numbers_rise f k [] = tt
numbers_rise f k (row ∷ rows) = (λ q i. from_on f k rows q i, numbers_rise f (k + 1) rows)

-- Productions in another order, in which those of one nonterminal still rise.
pub record IsRegrouped (from to : List NamedProduction) : Type 0 where
  pub there : (p : NamedProduction) → Among from p → Among to p
  pub no_other : (p : NamedProduction) → Among to p → Among from p
  pub as_many : length to ≡ length from
  pub apart : Earlier (λ p q. (p.action ≢ q.action) × (p.nonterminal ≡ q.nonterminal → p.action < q.action)) to

module _ (g : EnabledGrammar) (f : Nonterminal → Text) (origins : List Origin) (from to : List NamedProduction)
    (a : AreProductions g f from origins) (r : IsRegrouped from to) where
  place_in : (i : ℕ) (p : NamedProduction) → slice_get to i ≡ Some p → (j : ℕ) × (slice_get from j ≡ Some p)
  place_in i p e = among_at from p (r.no_other p (at_among to i p e))

  -- no two places have one action
  own : (i j : ℕ) (p q : NamedProduction) → slice_get to i ≡ Some p → slice_get to j ≡ Some q → p.action ≡ q.action
      → i ≡ j
  own i j p q e k same = go (three_ways i j)
    where
      go : (i < j) ⊎ ((j < i) ⊎ (i ≡ j)) → i ≡ j
      go (inl less) = absurd ((earlier_at (λ x y. (x.action ≢ y.action) × (x.nonterminal ≡ y.nonterminal → x.action < y.action)) to
          r.apart i j p q less e k).0 same)
      go (inr (inl less)) = absurd ((earlier_at
          (λ x y. (x.action ≢ y.action) × (x.nonterminal ≡ y.nonterminal → x.action < y.action)) to
          r.apart j i q p less k e).0 (sym same))
      go (inr (inr equal)) = equal

  rises : (i j : ℕ) (p q : NamedProduction) → i < j → slice_get to i ≡ Some p → slice_get to j ≡ Some q
      → p.nonterminal ≡ q.nonterminal → p.action < q.action
  rises i j p q less e k same =
      (earlier_at (λ x y. (x.action ≢ y.action) × (x.nonterminal ≡ y.nonterminal → x.action < y.action)) to
      r.apart i j p q less e k).1 same

  ordered : (i j : ℕ) (p q : NamedProduction) → i < j → slice_get to i ≡ Some p → slice_get to j ≡ Some q
      → p.nonterminal ≡ q.nonterminal → IsInOrder origins p q
  ordered i j p q less e k same =
      let v = place_in i p e in
      let u = place_in j q k in
      let up = rises i j p q less e k same in
      go v.0 u.0 v.1 u.1 up (three_ways v.0 u.0)
    where
      go : (m n : ℕ) → slice_get from m ≡ Some p → slice_get from n ≡ Some q → p.action < q.action
          → (m < n) ⊎ ((n < m) ⊎ (m ≡ n)) → IsInOrder origins p q
      go m n h l up (inl below) = a.in_order m n p q below h l same
      go m n h l up (inr (inl above)) =
          let down : q.action < p.action = (a.in_order n m q p above l h (sym same)).actions in absurd (omega (arith, up, down))
      go m n h l up (inr (inr equal)) =
          let found : Some p ≡ Some q = sym h ∙ ap (slice_get from) equal ∙ l in
          let one : p ≡ q = cc in
          let number : p.action ≡ q.action = ap (λ (x : NamedProduction). x.action) one in
          absurd (omega (arith, up, number))

  -- regrouped they are the productions of the expansion
  pub regrouped_productions : AreProductions g f to origins
  regrouped_productions = record {
    every = λ label side i p.
        let w = a.every label side i p in
        let v = among_at to w.1 (r.there w.1 (at_among from w.0 w.1 w.2)) in
        (v.0, w.1, v.1, w.3);
    no_other = λ p i. a.no_other p (r.no_other p i);
    once = λ i j p q e k same origin.
        let v = place_in i p e in
        let u = place_in j q k in
        let places : v.0 ≡ u.0 = a.once v.0 u.0 p q v.1 u.1 same origin in
        let found : Some p ≡ Some q = sym v.1 ∙ ap (slice_get from) places ∙ u.1 in
        let one : p ≡ q = cc in
        own i j p q e k (ap (λ (x : NamedProduction). x.action) one);
    own_action = own;
    in_order = ordered;
    no_other_origin = a.no_other_origin ∙ sym r.as_many;
  }
