-- Steps of a walk over the paths of a graph: what each leaves, and that they come to an end.
use Rattle.std.proofs.Common.{◌≡◌, ℕ, zero, suc, ◌≤◌, ◌<◌, ◌+◌, ◌-◌, ◌∙◌, Bool, true, false, cond, List, [], ◌∷◌, ◌++◌, map, length, refl, sym, ap, subst}
use Rattle.std.proofs.Common.{⊎_elim, arith, append_assoc, Contains}
use Rattle.std.specs.Prelude.{eqb, flat_map, ◌||◌}
use Rattle.std.proofs.lemmas.List.{map-append}
use Rattle.std.proofs.lemmas.Map.Steps.{length-le_from_distinct_below}
use Rattle.std.proofs.lemmas.Map.Keys.{IsDistinct-tail}
use Rattle.lalrpop_lr1_theory.proofs.ListLemmas.{contains_here, contains_later, contains_split}
use Rattle.lalrpop_lr1_theory.proofs.NameLemmas.{no_element}
use Rattle.lalrpop_lane_report.specs.Paths.{PathGraph, Taken, is_among, led, left_at, nodes_of, past, paths}
use Rattle.lalrpop_lane_report.specs.PathWalks.{IsWalk, work, walk_work}
use Rattle.lalrpop_lane_report.proofs.PathLemmas.{below_more, below_none, distinct_more, none_distinct}

map_twice : {A B C : Type 0} (f : B → C) (h : A → B) (xs : List A) → map f (map h xs) ≡ map (λ x. f (h x)) xs
map_twice f h [] = refl
map_twice f h (x ∷ xs) = ap (λ v. f (h x) ∷ v) (map_twice f h xs)

module _ {E : Type 0} (g : PathGraph E) (count : ℕ) where
  pub walk_begins : (left : List E) → ((e : E) → Contains left e → g.from e < count) → IsWalk g count [] left
  walk_begins left bound = record {
    once = none_distinct;
    below = below_none count;
    edges = bound;
    beside = λ t e k h. absurd (no_element t k);
  }

  nodes_length : (ts : List (Taken E)) → length (nodes_of g ts) ≡ length ts
  nodes_length [] = refl
  nodes_length (t ∷ ts) = ap suc (nodes_length ts)

  work_one : (d : ℕ) (e : E) (es : List E) → work g d es < work g d (e ∷ es)
  work_one zero e es = omega arith
  work_one (suc d) e es = omega arith

  work_less : (d : ℕ) (e : E) (es : List E) → 0 < d → work g (d - 1) (g.incoming (g.from e)) + suc (suc (work g d es)) ≤ work g d (e ∷ es)
  work_less zero e es h = absurd (omega (arith, h))
  work_less (suc d) e es h =
      subst (λ k. work g k (g.incoming (g.from e)) + suc (suc (work g (suc d) es)) ≤ work g (suc d) (e ∷ es)) (sym down) (omega arith)
    where
      down : suc d - 1 ≡ d
      down = omega arith

  -- the others beside an edge are a walk, too
  pub walk_others : (ts : List (Taken E)) (e : E) (es : List E) → IsWalk g count ts (e ∷ es) → IsWalk g count ts es
  walk_others ts e es w = record {
    once = w.once;
    below = w.below;
    edges = λ d k. w.edges d (contains_later e d es k);
    beside = w.beside;
  }

  pub less_others : (ts : List (Taken E)) (e : E) (es : List E) → walk_work g count ts es < walk_work g count ts (e ∷ es)
  less_others [] e es = work_one count e es
  less_others (t ∷ ts) e es = omega (arith, work_one (count - length (t ∷ ts)) e es)

  -- an edge to another node is taken
  pub walk_takes : (ts : List (Taken E)) (e : E) (es left : List E) → is_among (g.from e) (nodes_of g ts) ≡ false →
      ((d : E) → Contains left d → g.from d < count) → IsWalk g count ts (e ∷ es) → IsWalk g count ((e, es) ∷ ts) left
  walk_takes ts e es left fresh bound w = record {
    once = distinct_more (g.from e) (nodes_of g ts) fresh w.once;
    below = below_more count (g.from e) (nodes_of g ts) (w.edges e (contains_here e es)) w.below;
    edges = bound;
    beside = λ t d k h.
        ⊎_elim (λ same. w.edges d (contains_later e d es (subst (λ (u : Taken E). Contains u.1 d) (sym same) h)))
        (λ later. w.beside t d later h) (contains_split (e, es) t ts k);
  }

  -- so fewer edges are taken than the graph has nodes
  room : (ts : List (Taken E)) (e : E) (es : List E) → is_among (g.from e) (nodes_of g ts) ≡ false → IsWalk g count ts (e ∷ es) →
      length ts < count
  room ts e es fresh w =
      let h = length-le_from_distinct_below (g.from e ∷ nodes_of g ts) count (distinct_more (g.from e) (nodes_of g ts) fresh w.once)
      (below_more count (g.from e) (nodes_of g ts) (w.edges e (contains_here e es)) w.below) in
      let l = nodes_length ts in
      omega (arith, h, l)

  pub less_takes : (ts : List (Taken E)) (e : E) (es : List E) → is_among (g.from e) (nodes_of g ts) ≡ false →
      IsWalk g count ts (e ∷ es) → walk_work g count ((e, es) ∷ ts) (g.incoming (g.from e)) < walk_work g count ts (e ∷ es)
  less_takes [] e es fresh w =
      let r = room [] e es fresh w in omega (arith, work_less count e es r)
  less_takes (t ∷ ts) e es fresh w =
      let r = room (t ∷ ts) e es fresh w in
      let d : count - length (t ∷ ts) - 1 ≡ count - suc (length (t ∷ ts)) = omega arith in
      let h = subst (λ k. work g k (g.incoming (g.from e)) + suc (suc (work g (count - length (t ∷ ts)) es))
      ≤ work g (count - length (t ∷ ts)) (e ∷ es)) d (work_less (count - length (t ∷ ts)) e es (omega (arith, r))) in
      omega (arith, h)

  -- the last edge that was taken is given back
  pub walk_gives_back : (ts : List (Taken E)) (t : Taken E) (left : List E) → IsWalk g count (t ∷ ts) left → IsWalk g count ts t.1
  walk_gives_back ts t left w = record {
    once = IsDistinct-tail eqb (g.from t.0) (nodes_of g ts) w.once;
    below = λ q k. w.below q (later q k (eqb q (g.from t.0)));
    edges = λ d k. w.beside t d (contains_here t ts) k;
    beside = λ u d k h. w.beside u d (contains_later t u ts k) h;
  }
    where
      later : (q : ℕ) → is_among q (nodes_of g ts) ≡ true → (b : Bool) → (b || is_among q (nodes_of g ts)) ≡ true
      later q k true = refl
      later q k false = k

  pub less_gives_back : (ts : List (Taken E)) (t : Taken E) → walk_work g count ts t.1 < walk_work g count (t ∷ ts) []
  less_gives_back ts t = omega (arith, nothing (count - length (t ∷ ts)))
    where
      nothing : (d : ℕ) → work g d [] ≡ 0
      nothing zero = refl
      nothing (suc d) = refl

  -- what is left, where the paths past an edge are these
  at_first : (e : E) (es : List E) (v : List (List E)) → past g (paths g count) [] e ≡ v →
      left_at g count [] (e ∷ es) ≡ v ++ left_at g count [] es
  at_first e es v h = ap (λ w. w ++ flat_map (past g (paths g count) []) es) h

  at_later : (t : Taken E) (ts : List (Taken E)) (e : E) (es : List E) (v : List (List E)) →
      past g (paths g (count - length (t ∷ ts))) (nodes_of g (t ∷ ts)) e ≡ v →
      left_at g count (t ∷ ts) (e ∷ es) ≡ map (led (t ∷ ts)) v ++ left_at g count (t ∷ ts) es
  at_later t ts e es v h =
      let on : List (List E) = flat_map (past g (paths g (count - length (t ∷ ts))) (nodes_of g (t ∷ ts))) es in
      ap (λ w. map (led (t ∷ ts)) (w ++ on) ++ left_at g count ts t.1) h
      ∙ ap (λ w. w ++ left_at g count ts t.1) (map-append (led (t ∷ ts)) v on)
      ∙ append_assoc (map (led (t ∷ ts)) v) (map (led (t ∷ ts)) on) (left_at g count ts t.1)

  -- an edge from an item is the end of a path
  pub left_item : (ts : List (Taken E)) (e : E) (es : List E) → g.is_item (g.from e) ≡ true →
      left_at g count ts (e ∷ es) ≡ led ts (e ∷ []) ∷ left_at g count ts es
  left_item [] e es h =
      at_first e es ((e ∷ []) ∷ [])
      (ap (λ a. cond a ((e ∷ []) ∷ []) (cond (is_among (g.from e) []) [] (map (λ p. e ∷ p) (paths g count (g.from e ∷ []) (g.from e))))) h)
  left_item (t ∷ ts) e es h =
      let seen = nodes_of g (t ∷ ts) in
      let on = paths g (count - length (t ∷ ts)) in
      at_later t ts e es ((e ∷ []) ∷ [])
      (ap (λ a. cond a ((e ∷ []) ∷ []) (cond (is_among (g.from e) seen) [] (map (λ p. e ∷ p) (on (g.from e ∷ seen) (g.from e))))) h)

  -- an edge from a node that was passed is passed over
  pub left_seen : (ts : List (Taken E)) (e : E) (es : List E) → g.is_item (g.from e) ≡ false → is_among (g.from e) (nodes_of g ts) ≡ true →
      left_at g count ts (e ∷ es) ≡ left_at g count ts es
  left_seen [] e es h j = let w : ⊥ = cc in absurd w
  left_seen (t ∷ ts) e es h j =
      let seen = nodes_of g (t ∷ ts) in
      let on = paths g (count - length (t ∷ ts)) in
      at_later t ts e es []
      (ap (λ a. cond a ((e ∷ []) ∷ []) (cond (is_among (g.from e) seen) [] (map (λ p. e ∷ p) (on (g.from e ∷ seen) (g.from e))))) h
      ∙ ap (λ b. cond b [] (map (λ p. e ∷ p) (on (g.from e ∷ seen) (g.from e)))) j)

  -- an edge from another node is taken
  pub left_takes : (ts : List (Taken E)) (e : E) (es : List E) → g.is_item (g.from e) ≡ false →
      is_among (g.from e) (nodes_of g ts) ≡ false → IsWalk g count ts (e ∷ es) →
      left_at g count ts (e ∷ es) ≡ left_at g count ((e, es) ∷ ts) (g.incoming (g.from e))
  left_takes [] e es h j w =
      let r = room [] e es j w in
      let deep : count ≡ suc (count - 1) = omega (arith, r) in
      let all : List (List E) = flat_map (past g (paths g (count - 1)) (g.from e ∷ [])) (g.incoming (g.from e)) in
      let one : past g (paths g count) [] e ≡ map (λ p. e ∷ p) all =
      ap (λ a. cond a ((e ∷ []) ∷ []) (cond (is_among (g.from e) []) [] (map (λ p. e ∷ p) (paths g count (g.from e ∷ []) (g.from e))))) h
      ∙ ap (λ k. map (λ p. e ∷ p) (paths g k (g.from e ∷ []) (g.from e))) deep in
      at_first e es (map (λ p. e ∷ p) all) one
  left_takes (t ∷ ts) e es h j w =
      let r = room (t ∷ ts) e es j w in
      let seen = nodes_of g (t ∷ ts) in
      let on = paths g (count - length (t ∷ ts)) in
      let deep : count - length (t ∷ ts) ≡ suc (count - suc (length (t ∷ ts))) = omega (arith, r) in
      let all : List (List E) =
      flat_map (past g (paths g (count - suc (length (t ∷ ts)))) (g.from e ∷ seen)) (g.incoming (g.from e)) in
      let one : past g on seen e ≡ map (λ p. e ∷ p) all =
      ap (λ a. cond a ((e ∷ []) ∷ []) (cond (is_among (g.from e) seen) [] (map (λ p. e ∷ p) (on (g.from e ∷ seen) (g.from e))))) h
      ∙ ap (λ b. cond b [] (map (λ p. e ∷ p) (on (g.from e ∷ seen) (g.from e)))) j
      ∙ ap (λ k. map (λ p. e ∷ p) (paths g k (g.from e ∷ seen) (g.from e))) deep in
      at_later t ts e es (map (λ p. e ∷ p) all) one
      ∙ ap (λ v. v ++ left_at g count (t ∷ ts) es) (map_twice (led (t ∷ ts)) (λ p. e ∷ p) all)

  -- where no edges into a node are left, the last edge that was taken is given back
  pub left_gives_back : (ts : List (Taken E)) (t : Taken E) → left_at g count (t ∷ ts) [] ≡ left_at g count ts t.1
  left_gives_back ts t = refl
