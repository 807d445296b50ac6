-- The numbers of productions at places, filled in from the back; and the item that they tell: for public states.
use Rattle.std.proofs.Common.{◌≡◌, ◌∙◌, ◌+◌, ◌-◌, ◌<◌, ◌≤◌, ℕ, zero, suc, List, []}
use Rattle.std.proofs.Common.{◌∷◌, ◌++◌, length, Some, None}
use Rattle.std.proofs.Common.{slice_get, get_or, drop, map, set, refl, sym, ap, subst, arith, ⊎_elim}
use Rattle.std.proofs.lemmas.Bool.{cases_lt}
use Rattle.std.proofs.lemmas.Option.{slice_get_within}
use Rattle.lalrpop_lr1_theory.specs.Productions as theory
use Rattle.lalrpop_lr1_theory.proofs.StepLemmas.{some_same}
use Rattle.lalrpop_grammar_repr.specs.declared.production.Production.{Production}
use Rattle.lalrpop_lr1_core.specs.Views.{production_symbol_view, production_view}
use Rattle.lalrpop_lr1_first.specs.NumberedGrammars.{HasItemAt, IsNumberTable, table_names}
use Rattle.lalrpop_lr1_first.specs.Tables.{end_until, laid_side, symbol_of_number}
use Rattle.lalrpop_lr1_first.specs.declared.numbered.Numbered.{Numbered}
use Rattle.lalrpop_lr1_first.specs.declared.place.NumberedRule.{NumberedRule}
use Rattle.lalrpop_lr1_first.specs.declared.place.Place.{Place}
use Rattle.lalrpop_lr1_first.specs.declared.place.Place.TheVariants as places
use Rattle.lalrpop_lr1_first.proofs.ListLemmas.{read_slice}
use Rattle.lalrpop_lr1_first.proofs.TableLemmas.{long_map, drop_both, spells_long}
use Rattle.lalrpop_lr1_build.specs.PublicStates.{TellsRules, ending_number}

drop_here : (all : List Place) (i : ℕ) (p : Place) → slice_get all i ≡ Some p → drop i all ≡ p ∷ drop (suc i) all
drop_here [] i p e = let z : ⊥ = cc in absurd z
drop_here (q ∷ all) zero p e = ap (λ x. x ∷ all) (some_same q p e)
drop_here (q ∷ all) (suc i) p e = drop_here all i p e

get_set_same : (xs : List ℕ) (i v : ℕ) → i < length xs → slice_get (set xs i v) i ≡ Some v
get_set_same [] i v h = absurd (omega arith)
get_set_same (x ∷ xs) zero v h = refl
get_set_same (x ∷ xs) (suc i) v h = get_set_same xs i v (omega arith)

get_set_other : (xs : List ℕ) (i j v : ℕ) → (i ≡ j → ⊥) → slice_get (set xs i v) j ≡ slice_get xs j
get_set_other [] i j v h = refl
get_set_other (x ∷ xs) zero zero v h = absurd (h refl)
get_set_other (x ∷ xs) zero (suc j) v h = refl
get_set_other (x ∷ xs) (suc i) zero v h = refl
get_set_other (x ∷ xs) (suc i) (suc j) v h = get_set_other xs i j v (λ e. h (ap suc e))

-- the numbers from a place on are filled in, and the last number is that of the place
pub record TellsFrom (all : List Place) (place number : ℕ) (numbers : List ℕ) : Type 0 where
  pub long : length numbers ≡ length all
  pub within : place ≤ length all
  pub last : (r : ℕ) → end_until (drop place all) ≡ Some r → number ≡ r
  pub told : (j r : ℕ) → place ≤ j → end_until (drop j all) ≡ Some r → slice_get numbers j ≡ Some r

none_behind : (all : List Place) (j : ℕ) → length all ≤ j → drop j all ≡ []
none_behind [] zero h = refl
none_behind [] (suc j) h = refl
none_behind (p ∷ all) zero h = absurd (omega arith)
none_behind (p ∷ all) (suc j) h = none_behind all j (omega arith)

pub tells_none : (all : List Place) (number : ℕ) (numbers : List ℕ) → length numbers ≡ length all →
    TellsFrom all (length all) number numbers
tells_none all number numbers l = record {
  long = l;
  within = omega arith;
  last = λ r e. absurd (none_told (length all) r (omega arith) e);
  told = λ j r h e. absurd (none_told j r h e);
}
  where
    none_told : (j r : ℕ) → length all ≤ j → end_until (drop j all) ≡ Some r → ⊥
    none_told j r h e = let z : None ≡ Some r = sym (ap end_until (none_behind all j h)) ∙ e in let w : ⊥ = cc in w

ending_is : (p : Place) (rest : List Place) (number r : ℕ) → ((q : ℕ) → end_until rest ≡ Some q → number ≡ q) →
    end_until (p ∷ rest) ≡ Some r → ending_number p number ≡ r
ending_is (places.End own) rest number r last e = some_same own r e
ending_is (places.Symbol s) rest number r last e = last r e

pub tells_more : (all : List Place) (place number : ℕ) (numbers : List ℕ) (p : Place) (i : ℕ) → place ≡ suc i →
    slice_get all i ≡ Some p → TellsFrom all place number numbers →
    TellsFrom all i (ending_number p number) (set numbers i (ending_number p number))
tells_more all place number numbers p i n e t =
    let within = slice_get_within all i p e in
    let last : (r : ℕ) → end_until (drop (suc i) all) ≡ Some r → number ≡ r =
    subst (λ k. (r : ℕ) → end_until (drop k all) ≡ Some r → number ≡ r) n t.last in
    let here : (r : ℕ) → end_until (drop i all) ≡ Some r → ending_number p number ≡ r =
    λ r f. ending_is p (drop (suc i) all) number r last (sym (ap end_until (drop_here all i p e)) ∙ f) in
    record {
      long = long_set numbers i (ending_number p number) ∙ t.long;
      within = omega (arith, within);
      last = here;
      told = λ j r h f. ⊎_elim
          (λ (l : i < j). get_set_other numbers i j (ending_number p number) (λ z. let w : ⊥ = omega (arith, z, l) in w)
          ∙ t.told j r (omega (arith, n, l)) f)
          (λ (l : j ≤ i).
          let same : i ≡ j = omega (arith, l, h) in
          ap (slice_get (set numbers i (ending_number p number))) (sym same)
          ∙ get_set_same numbers i (ending_number p number) (omega (arith, within, t.long))
          ∙ ap Some (here r (ap (λ k. end_until (drop k all)) same ∙ f)))
          (cases_lt i j);
    }
  where
    long_set : (xs : List ℕ) (i v : ℕ) → length (set xs i v) ≡ length xs
    long_set [] i v = refl
    long_set (x ∷ xs) zero v = refl
    long_set (x ∷ xs) (suc i) v = ap suc (long_set xs i v)

pub tells_all : (all : List Place) (place number : ℕ) (numbers : List ℕ) → place ≡ 0 → TellsFrom all place number numbers →
    TellsRules all numbers
tells_all all place number numbers e t i r f = t.told i r (omega (arith, e)) f

-- one place more, read with any default
pub tells_read : (all : List Place) (place number : ℕ) (numbers : List ℕ) (d : Place) (n : ℕ) → 0 < place →
    TellsFrom all place number numbers → n ≡ ending_number (get_or all (place - 1) d) number →
    TellsFrom all (place - 1) n (set numbers (place - 1) n)
tells_read all place number numbers d n h t e =
    subst (λ k. TellsFrom all (place - 1) k (set numbers (place - 1) k)) (sym e)
    (tells_more all place number numbers (get_or all (place - 1) d) (place - 1) (omega arith)
    (read_slice all all (place - 1) d (omega (arith, t.within)) refl) t)

ends_at : (d : ℕ) (xs : List ℕ) (r : ℕ) (more : List Place) → d ≤ length xs → end_until (drop d (laid_side xs r ++ more))
    ≡ Some r
ends_at zero [] r more h = refl
ends_at zero (x ∷ xs) r more h = ends_at zero xs r more (omega arith)
ends_at (suc d) [] r more h = absurd (omega arith)
ends_at (suc d) (x ∷ xs) r more h = ends_at d xs r more (omega arith)

-- behind an item's place its production ends
pub item_ends : (table : Numbered) → IsNumberTable table → (i : ℕ) (p : theory.Production) (d : ℕ) (h : HasItemAt table i p d) →
    end_until (drop i table.places.items) ≡ Some h.number
item_ends table is i p d h =
    let l = is.laid.at h.number h.production h.at_production in
    let rule : h.rule ≡ l.rule = some_same h.rule l.rule (sym h.at_rule ∙ l.at) in
    let long : length l.numbers ≡ length h.production.symbols =
    spells_long (symbol_of_number (table_names table) table.terminals.now) l.numbers (map production_symbol_view h.production.symbols)
    l.spelled ∙ long_map production_symbol_view h.production.symbols in
    ap end_until (ap (λ k. drop k table.places.items) h.place_is ∙ drop_both h.rule.start d table.places.items
    ∙ ap (λ (x : NumberedRule). drop d (drop x.start table.places.items)) rule ∙ ap (drop d) l.laid)
    ∙ ends_at d l.numbers h.number l.more (omega (arith, long, h.within))

-- what the numbers tell of an item's place
pub told_number : (table : Numbered) → IsNumberTable table → (numbers : List ℕ) → TellsRules table.places.items numbers →
    (i : ℕ)
    (p : theory.Production) (d : ℕ) (h : HasItemAt table i p d) → slice_get numbers i ≡ Some h.number
told_number table is numbers tells i p d h = tells i h.number (item_ends table is i p d h)

-- an item whose production and start are read by its number
pub item_read : (table : Numbered) (i : ℕ) (p : theory.Production) (d : ℕ) (h : HasItemAt table i p d) (production : Production)
    (start : ℕ) → production ≡ h.production → start ≡ h.rule.start → HasItemAt table i (production_view production) (i - start)
item_read table i p d h production start e f = record {
  number = h.number;
  rule = h.rule;
  production = h.production;
  at_rule = h.at_rule;
  at_production = h.at_production;
  seen = ap production_view e;
  place_is = omega (arith, f, h.place_is);
  within = omega (arith, f, h.place_is, h.within);
}
