-- What a seed brings to the slots of nonterminals, item by item: for closures.
use Rattle.std.proofs.Common.{◌≡◌, ◌∙◌, ◌⊎◌, ℕ, zero, suc, ◌+◌, ◌<◌, ◌≤◌, Bool, map}
use Rattle.std.proofs.Common.{true, false, ◌||◌, eqb, List, [], ◌∷◌, ◌++◌, length, take, set, get_or}
use Rattle.std.proofs.Common.{refl, sym, ap, subst, arith, inl, inr, ⊎_elim, slice_get, Option, Some, None, Contains}
use Rattle.std.specs.List.{cons_option}
use Rattle.std.specs.Prelude.{if◌then◌else◌, nat_lt, filter_map}
use Rattle.std.proofs.lemmas.Bool.{cases_lt}
use Rattle.std.proofs.lemmas.List.Elements.{Contains-append_cases, Contains-append_left, Contains-append_right, filter_map-append}
use Rattle.lalrpop_lr1_theory.proofs.ListLemmas.{contains_here, contains_split}
use Rattle.lalrpop_sets.specs.AscendingLists.{Ascends, AscendsFrom, has}
use Rattle.lalrpop_lr1_first.specs.ClosureTables.{SeedsAll, SeedsOne, name_first, started_items, started_with}
use Rattle.lalrpop_lr1_first.specs.FirstNumbers.{name_count, table_end}
use Rattle.lalrpop_lr1_first.specs.Flows.{MarksAreWithin, all_marks, comes, slot_marks}
use Rattle.lalrpop_lr1_first.specs.ItemTables.{SeedBrings}
use Rattle.lalrpop_lr1_first.specs.Numbers.{set_of_number}
use Rattle.lalrpop_lr1_first.specs.Tables.{rest_of, symbols_until}
use Rattle.lalrpop_lr1_first.specs.declared.numbered.Numbered.{Numbered}
use Rattle.lalrpop_lr1_first.specs.declared.place.NumberedRule.{NumberedRule}
use Rattle.lalrpop_lr1_first.specs.declared.place.Place.{Place}
use Rattle.lalrpop_lr1_first.proofs.AddLemmas.{flat_more}
use Rattle.lalrpop_lr1_first.proofs.FlowLemmas.{all_marks_set, at_all_marks, length_all_marks, marks_step, read_slot_marks}
use Rattle.lalrpop_lr1_first.proofs.ListLemmas.{at_set_other, at_set_same, eqb_true, or_cases, or_left, or_right}
use Rattle.lalrpop_sets.proofs.AscendingListLemmas.{cases_eq}
use Rattle.lalrpop_sets.proofs.AscendingListLemmas.{eqb_self}
use Rattle.lalrpop_lr1_first.proofs.PlaceLemmas.{drop_past}
use Rattle.lalrpop_lr1_theory.proofs.NameLemmas.{no_element}

-- one element more is taken
pub taken_at : {X : Type 0} (xs : List X) (i : ℕ) (x : X) → slice_get xs i ≡ Some x → take (i + 1) xs ≡ take i xs ++ x ∷ []
taken_at [] i x e = let w : ⊥ = cc in absurd w
taken_at (y ∷ xs) zero x e = let z : y ≡ x = cc in ap (λ w. w ∷ []) z
taken_at (y ∷ xs) (suc i) x e =
    ap (λ n. take n (y ∷ xs)) (let z : suc i + 1 ≡ suc (i + 1) = omega arith in z) ∙ ap (λ l. y ∷ l) (taken_at xs i x e)

-- what one more of the first of a list gives comes behind what those before it gave
pub edges_more : {X Y : Type 0} (f : X → Option Y) (xs : List X) (i : ℕ) (x : X) → slice_get xs i ≡ Some x →
    filter_map f (take (i + 1) xs) ≡ filter_map f (take i xs) ++ cons_option (f x) []
edges_more f xs i x e = ap (filter_map f) (taken_at xs i x e) ∙ filter_map-append f (take i xs) (x ∷ [])

heads : (x y : ℕ) (xs ys : List ℕ) → x ∷ xs ≡ y ∷ ys → x ≡ y
heads x y xs ys e = cc

lt_true : (s n : ℕ) → nat_lt s n ≡ true → s < n
lt_true s n h = grind arith

true_lt : (s n : ℕ) → s < n → nat_lt s n ≡ true
true_lt s n h = grind arith

-- the nonterminal with which symbols begin
pub name_is : (n : ℕ) (xs : List ℕ) (s : ℕ) → name_first n xs ≡ Some s → (more : List ℕ) × (xs ≡ s ∷ more) × (s < n)
name_is n [] s e = let w : ⊥ = cc in absurd w
name_is n (x ∷ xs) s e = go (nat_lt x n) refl e
  where
    go : (b : Bool) → nat_lt x n ≡ b → (if b then Some x else None) ≡ Some s → (more : List ℕ) × (x ∷ xs ≡ s ∷ more)
        × (s < n)
    go true h f = let z : x ≡ s = cc in (xs, ap (λ y. y ∷ xs) z, subst (λ y. y < n) z (lt_true x n h))
    go false h f = let w : ⊥ = cc in absurd w

pub no_name : (n : ℕ) (xs : List ℕ) → name_first n xs ≡ None → (s : ℕ) (more : List ℕ) → xs ≡ s ∷ more → s < n →
    ⊥
no_name n xs e s more f l =
    let here : name_first n (s ∷ more) ≡ None = ap (name_first n) (sym f) ∙ e in
    let there : name_first n (s ∷ more) ≡ Some s = ap (λ b. if b then Some s else None) (true_lt s n l) in
    let both : Some s ≡ None = sym there ∙ here in let w : ⊥ = cc in w

-- symbols that begin with the number of a nonterminal have that number as their first name
pub name_there : (n : ℕ) (xs : List ℕ) (s : ℕ) (more : List ℕ) → xs ≡ s ∷ more → s < n → name_first n xs ≡ Some s
name_there n xs s more f l = ap (name_first n) f ∙ ap (λ b. if b then Some s else None) (true_lt s n l)

-- where a symbol stands, a place is
pub rest_within : (all : List Place) (i s : ℕ) (more : List ℕ) → rest_of all i ≡ s ∷ more → i < length all
rest_within all i s more e = ⊎_elim (λ (z : i < length all). z)
    (λ (z : length all ≤ i). let w : [] ≡ s ∷ more = sym (ap symbols_until (drop_past all i z)) ∙ e in let v : ⊥ = cc in
    absurd v)
    (cases_lt i (length all))

module _ {L : Type 0} (marks : L → List ℕ) (firsts : Bool) (table : Numbered) (rests : List (List ℕ)) where
  abbrev end : ℕ
  end = table_end table

  abbrev Brings : List (ℕ × L) → ℕ → ℕ → Type 0
  Brings items = SeedBrings marks firsts end (name_count table) (rest_of table.places.items) (set_of_number rests) items

  -- what some items bring, more bring
  brings_in : (xs ys : List (ℕ × L)) → ((x : ℕ × L) → Contains xs x → Contains ys x) → (s k : ℕ) → Brings xs s k →
      Brings ys s k
  brings_in xs ys to s k b = record {
    place = b.place;
    lookahead = b.lookahead;
    more = b.more;
    held = to (b.place, b.lookahead) b.held;
    rest = b.rest;
    name = b.name;
    mark = b.mark;
  }

  brings_parts : (xs ys : List (ℕ × L)) (s k : ℕ) → Brings (xs ++ ys) s k → Brings xs s k ⊎ Brings ys s k
  brings_parts xs ys s k b = ⊎_elim
      (λ c. inl (record {
        place = b.place;
        lookahead = b.lookahead;
        more = b.more;
        held = c;
        rest = b.rest;
        name = b.name;
        mark = b.mark;
      }))
      (λ c. inr (record {
        place = b.place;
        lookahead = b.lookahead;
        more = b.more;
        held = c;
        rest = b.rest;
        name = b.name;
        mark = b.mark;
      }))
      (Contains-append_cases xs ys (b.place, b.lookahead) b.held)

  -- no item brings nothing
  pub seeds_none : (slots : List (Option L)) → length slots ≡ name_count table → ((s : ℕ) → get_or slots s None ≡ None) →
      SeedsAll marks firsts table rests [] slots
  seeds_none slots count empty = record {
    count = count;
    within = λ s l e k h. let z : None ≡ Some l = sym (empty s) ∙ e in let w : ⊥ = cc in absurd w;
    brought = λ s k. (
      λ h. let z : false ≡ true = sym (ap (λ t. has t k) (at_all_marks marks (end + 2) slots s
          ∙ ap (slot_marks marks (end + 2)) (empty s))) ∙ h in
          let w : ⊥ = cc in absurd w,
      λ b. absurd (no_element (b.place, b.lookahead) b.held),
    );
  }

  -- one item more
  pub seeds_more : (items : List (ℕ × L)) (item : ℕ × L) (old new : List (Option L)) →
      SeedsAll marks firsts table rests items old →
      SeedsOne marks firsts table rests item old new → length new ≡ length old →
      SeedsAll marks firsts table rests (items ++ item ∷ []) new
  seeds_more items item old new h one long = record {
    count = long ∙ h.count;
    within = one.within;
    brought = λ s k. (
      λ z. ⊎_elim (λ y. brings_in items (items ++ item ∷ []) (λ x c. Contains-append_left items (item ∷ []) x c) s k
          ((h.brought s k).0 y))
          (λ y. brings_in (item ∷ []) (items ++ item ∷ []) (λ x c. Contains-append_right items (item ∷ []) x c) s k y)
          ((one.brought s k).0 z),
      λ b. (one.brought s k).1 (⊎_elim (λ y. inl ((h.brought s k).1 y)) (λ y. inr y) (brings_parts items (item ∷ []) s k b)),
    );
  }

  module _ (place : ℕ) (l : L) where
    only : (x : ℕ × L) → Contains ((place, l) ∷ []) x → (place, l) ≡ x
    only x c = ⊎_elim (λ e. e) (λ d. absurd (no_element x d)) (contains_split (place, l) x [] c)

    -- no nonterminal stands behind the dot
    pub seeds_nothing : (old : List (Option L)) → MarksAreWithin marks end old →
        name_first (name_count table) (rest_of table.places.items place) ≡ None →
        SeedsOne marks firsts table rests (place, l) old old
    seeds_nothing old within none = record {
      within = within;
      brought = λ s k. (
        λ h. inl h,
        λ h. ⊎_elim (λ y. y)
            (λ b.
            let e : (place, l) ≡ (b.place, b.lookahead) = only (b.place, b.lookahead) b.held in
            absurd (no_name (name_count table) (rest_of table.places.items place) none s b.more
            (ap (λ (x : ℕ × L). rest_of table.places.items x.0) e ∙ b.rest) b.name)) h,
      );
    }

    -- one does
    pub seeds_name : (old : List (Option L)) → length old ≡ name_count table → MarksAreWithin marks end old → (name : ℕ) →
        name_first (name_count table) (rest_of table.places.items place) ≡ Some name → (came : L) →
        ((k : ℕ) → has (marks came) k ≡ comes firsts end (set_of_number rests (place + 1)) (marks l) k) →
        ((k : ℕ) → has (marks came) k ≡ true → k < end + 2) → (t t' : Option L) → t ≡ get_or old name t →
        ((there k : ℕ) → has (slot_marks marks there t') k ≡ (has (slot_marks marks there t) k || (eqb there k || has
        (marks came) k))) →
        SeedsOne marks firsts table rests (place, l) old (set old name t')
    seeds_name old count within name is came flow small t t' read joined = record {
      within = marks_step marks end old name came t t' inside within read joined small;
      brought = λ s k. (forth s k, back s k);
    }
      where
        n : (more : List ℕ) × (rest_of table.places.items place ≡ name ∷ more) × (name < name_count table)
        n = name_is (name_count table) (rest_of table.places.items place) name is

        inside : name < length old
        inside = omega (arith, n.2, count)

        own : slot_marks marks (end + 2) t ≡ set_of_number (all_marks marks (end + 2) old) name
        own = read_slot_marks marks (end + 2) old name t inside read

        at_name : set_of_number (all_marks marks (end + 2) (set old name t')) name ≡ slot_marks marks (end + 2) t'
        at_name = ap (λ x. set_of_number x name) (all_marks_set marks (end + 2) old name t')
            ∙ at_set_same (all_marks marks (end + 2) old) name (slot_marks marks (end + 2) t') (omega (
              arith,
              inside,
              length_all_marks marks (end + 2) old,
            ))

        at_other : (s : ℕ) → (name ≡ s → ⊥) → set_of_number (all_marks marks (end + 2) (set old name t')) s ≡ set_of_number
            (all_marks marks (end + 2) old) s
        at_other s e = ap (λ x. set_of_number x s) (all_marks_set marks (end + 2) old name t')
            ∙ at_set_other (all_marks marks (end + 2) old) name s (slot_marks marks (end + 2) t') e

        brought_by : (k : ℕ) → (eqb (end + 2) k || has (marks came) k) ≡ true → Brings ((place, l) ∷ []) name k
        brought_by k h = record {
          place = place;
          lookahead = l;
          more = n.0;
          held = contains_here (place, l) [];
          rest = n.1;
          name = n.2;
          mark = ⊎_elim (λ z. inl (sym (eqb_true (end + 2) k z))) (λ z. inr (sym (flow k)
              ∙ z)) (or_cases (eqb (end + 2) k) (has (marks came) k) h);
        }

        forth : (s k : ℕ) → has (set_of_number (all_marks marks (end + 2) (set old name t')) s) k ≡ true →
            (has (set_of_number (all_marks marks (end + 2) old) s) k ≡ true) ⊎ Brings ((place, l) ∷ []) s k
        forth s k h = ⊎_elim
            (λ (e : name ≡ s). ⊎_elim
            (λ z. inl (ap (λ y. has (set_of_number (all_marks marks (end + 2) old) y) k) (sym e) ∙ ap (λ y. has y k) (sym own)
            ∙ z))
            (λ z. inr (subst (λ y. Brings ((place, l) ∷ []) y k) e (brought_by k z)))
            (or_cases (has (slot_marks marks (end + 2) t) k) (eqb (end + 2) k || has (marks came) k)
            (sym (joined (end + 2) k) ∙ ap (λ y. has y k) (sym at_name)
            ∙ ap (λ y. has (set_of_number (all_marks marks (end + 2) (set old name t')) y) k) e ∙ h)))
            (λ (e : name ≡ s → ⊥). inl (ap (λ y. has y k) (sym (at_other s e)) ∙ h))
            (cases_eq name s)

        there_at : (k : ℕ) → (has (slot_marks marks (end + 2) t) k ≡ true)
            ⊎ ((eqb (end + 2) k || has (marks came) k) ≡ true) →
            has (set_of_number (all_marks marks (end + 2) (set old name t')) name) k ≡ true
        there_at k h = ap (λ y. has y k) at_name ∙ joined (end + 2) k ∙ ⊎_elim
            (λ z. or_left (has (slot_marks marks (end + 2) t) k) (eqb (end + 2) k || has (marks came) k) z)
            (λ z. or_right (has (slot_marks marks (end + 2) t) k) (eqb (end + 2) k || has (marks came) k) z) h

        back : (s k : ℕ) → (has (set_of_number (all_marks marks (end + 2) old) s) k ≡ true) ⊎ Brings ((place, l) ∷ []) s k →
            has (set_of_number (all_marks marks (end + 2) (set old name t')) s) k ≡ true
        back s k (inl h) = ⊎_elim
            (λ (e : name ≡ s). subst (λ y. has (set_of_number (all_marks marks (end + 2) (set old name t')) y) k ≡ true) e
            (there_at k (inl (ap (λ y. has y k) own ∙ ap (λ y. has (set_of_number (all_marks marks (end + 2) old) y) k) e ∙ h))))
            (λ (e : name ≡ s → ⊥). ap (λ y. has y k) (at_other s e) ∙ h)
            (cases_eq name s)
        back s k (inr b) =
            let one : (place, l) ≡ (b.place, b.lookahead) = only (b.place, b.lookahead) b.held in
            let first : name ∷ n.0 ≡ s ∷ b.more = sym n.1 ∙ ap (λ (x : ℕ × L). rest_of table.places.items x.0) one
            ∙ b.rest in
            let e : name ≡ s = heads name s n.0 b.more first in
            let mark : (k ≡ end + 2) ⊎ (comes firsts end (set_of_number rests (place + 1)) (marks l) k ≡ true) =
            subst (λ (x : ℕ × L). (k ≡ end + 2) ⊎ (comes firsts end (set_of_number rests (x.0 + 1)) (marks x.1) k ≡ true))
            (sym one) b.mark in
            subst (λ y. has (set_of_number (all_marks marks (end + 2) (set old name t')) y) k ≡ true) e (there_at k (inr (⊎_elim
            (λ z. or_left (eqb (end + 2) k) (has (marks came) k) (ap (λ j. eqb (end + 2) j) z ∙ eqb_self (end + 2)))
            (λ z. or_right (eqb (end + 2) k) (has (marks came) k) (flow k ∙ z)) mark)))

-- ---- items that are started
pub started_more : {L : Type 0} (slots : List (Option L)) (rules : List NumberedRule) (i : ℕ) (rule : NumberedRule) →
    slice_get rules i ≡ Some rule →
    started_items slots (take (i + 1) rules) ≡ started_items slots (take i rules) ++ started_with rule.start
    (get_or slots rule.left None)
started_more slots rules i rule e = ap (started_items slots) (taken_at rules i rule e)
    ∙ flat_more (λ (r : NumberedRule). started_with r.start (get_or slots r.left None)) (take i rules) rule

-- items that are started ascend, as the rules do
ascend_from : {L : Type 0} (slots : List (Option L)) (rules : List NumberedRule) (a : ℕ) →
    ((q : ℕ) (one : NumberedRule) → slice_get rules q ≡ Some one → a ≤ one.start) →
    ((q r : ℕ) (one other : NumberedRule) → q < r → slice_get rules q ≡ Some one → slice_get rules r ≡ Some other →
    one.start < other.start) →
    AscendsFrom a (map (λ (x : ℕ × L). x.0) (started_items slots rules))
ascend_from slots [] a above starts = tt
ascend_from {L} slots (rule ∷ rules) a above starts =
    go (get_or slots rule.left None)
    (ascend_from slots rules a (λ q one e. above (suc q) one e) (λ q r one other less f g. starts (suc q) (suc r) one other
    (omega arith) f g))
    (ascend_from slots rules (suc rule.start) (λ q one e. omega (arith, starts 0 (suc q) rule one (omega arith) refl e))
    (λ q r one other less f g. starts (suc q) (suc r) one other (omega arith) f g))
  where
    go : (o : Option L) → AscendsFrom a (map (λ (x : ℕ × L). x.0) (started_items slots rules)) →
        AscendsFrom (suc rule.start) (map (λ (x : ℕ × L). x.0) (started_items slots rules)) →
        AscendsFrom a (map (λ (x : ℕ × L). x.0) (started_with rule.start o ++ started_items slots rules))
    go None same more = same
    go (Some l) same more = (above 0 rule refl, more)

-- the items with which rules start stand in order where the rules' starts do
pub started_ascend : {L : Type 0} (slots : List (Option L)) (rules : List NumberedRule) →
    ((q r : ℕ) (one other : NumberedRule) → q < r → slice_get rules q ≡ Some one → slice_get rules r ≡ Some other →
    one.start < other.start) →
    Ascends (map (λ (x : ℕ × L). x.0) (started_items slots rules))
started_ascend slots rules starts = ascend_from slots rules 0 (λ q one e. omega arith) starts
