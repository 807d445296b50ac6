-- Trees beside each other, with the leaves that are asked for, and the place at which they begin with a terminal: for trees of several
-- symbols.
use Rattle.std.proofs.Common.{◌≡◌, ◌∙◌, ℕ, suc, ◌+◌, ◌-◌, ◌^◌, min, Bool, true, false, List, []}
use Rattle.std.proofs.Common.{◌∷◌, ◌++◌, refl, sym, ap, subst}
use Rattle.std.proofs.Common.{arith, Option, Some, None, inl, inr, ◌⊎◌}
use Rattle.lalrpop_grammar_symbols.specs.Symbols.{Terminal}
use Rattle.lalrpop_lr1_theory.specs.Productions.{Production, Symbol, first}
use Rattle.lalrpop_lr1_theory.specs.Trees.{AreOver, Forest, Move, leaf, moves, node, none, roots, yield, ◌and◌}
use Rattle.lalrpop_lr1_theory.proofs.FirstLemmas.{roots_split}
use Rattle.lalrpop_lr1_theory.proofs.StepLemmas.{some_same}
use Rattle.lalrpop_lr1_theory.proofs.TreeLemmas.{moves-and, nodes-and, over-and, over-split, roots-and, yield-and}
use Rattle.lalrpop_lr1_least_trees.specs.LeastTrees.{capped_count}
use Rattle.lalrpop_lr1_least_trees.specs.declared.rest_trees.begin_place.BeginPlace.{BeginPlace}
use Rattle.lalrpop_lr1_least_trees.specs.BeginPlaces.{HasBeginPlace, IsBeginPlace, IsEitherPlace, counts_beside, place_behind, place_here}
use Rattle.lalrpop_lr1_least_trees.specs.RestForests.{AnyLeaves, AreRestMoves, BeginsWith, CountsRest, HasNoRest, HasRest}
use Rattle.lalrpop_lr1_least_trees.specs.RestForests.{IsRestCount, LeavesOfKind, NoLeaves}

-- the leaves of two lists of trees have what is asked for, where those of each do
abbrev pub Joins : (U V W : List Terminal → Type 0) → Type 0
Joins U V W = (v w : List Terminal) → U v → V w → W (v ++ w)

-- trees beside each other have the kind of leaves that is let, any or none, where both have it
pub kinds_join : (leaves : Bool) → Joins (LeavesOfKind leaves) (LeavesOfKind leaves) (LeavesOfKind leaves)
kinds_join true v w h k = tt
kinds_join false v w h k = ap (λ l. l ++ w) h ∙ k

-- trees that begin with a terminal still do so with any trees behind them
pub begins_any : (t : Terminal) → Joins (BeginsWith t) AnyLeaves (BeginsWith t)
begins_any t [] w h k = let z : ⊥ = cc in absurd z
begins_any t (x ∷ v) w h k = h

-- trees that begin with a terminal still do so behind trees without leaves
pub none_begins : (t : Terminal) → Joins NoLeaves (BeginsWith t) (BeginsWith t)
none_begins t v w h k = ap (λ l. first (l ++ w)) h ∙ k

pub kinds_split : (leaves : Bool) (v w : List Terminal) → LeavesOfKind leaves (v ++ w) → LeavesOfKind leaves v × LeavesOfKind leaves w
kinds_split true v w h = (tt, tt)
kinds_split false [] w h = (refl, h)
kinds_split false (x ∷ v) w h = let z : ⊥ = cc in absurd z

-- the first leaf of two lists of trees is the first one's, or that has none
pub begins_split : (t : Terminal) (v w : List Terminal) → first (v ++ w) ≡ Some t →
    (first v ≡ Some t) ⊎ ((v ≡ []) × (first w ≡ Some t))
begins_split t [] w h = inr (refl, h)
begins_split t (x ∷ v) w h = inl h

module _ (G : Production → Type 0) where
  -- no trees, for no symbols
  abbrev pub nothing_rest : HasRest G [] NoLeaves
  nothing_rest = record { trees = none; over = tt; roots_are = refl; wanted = refl }

  no_leaves : (leaves : Bool) → LeavesOfKind leaves []
  no_leaves true = tt
  no_leaves false = refl

  pub nothing_count : (leaves : Bool) → IsRestCount G [] (LeavesOfKind leaves) 0
  nothing_count leaves =
      record { rest = record { trees = none; over = tt; roots_are = refl; wanted = no_leaves leaves }; is = refl }

  pub nothing_moves : (leaves : Bool) → AreRestMoves G [] (LeavesOfKind leaves) []
  nothing_moves leaves =
      record { rest = record { trees = none; over = tt; roots_are = refl; wanted = no_leaves leaves }; moves_are = refl }

  -- they begin with nothing
  pub nothing_begins : (t : Terminal) → HasNoRest G [] (BeginsWith t)
  nothing_begins t none o e w = let z : ⊥ = cc in z
  nothing_begins t (leaf u ts) o e w = let z : ⊥ = cc in z
  nothing_begins t (node p cs ts) o e w = let z : ⊥ = cc in z

  module _ {U V W : List Terminal → Type 0} (join : Joins U V W) where
    -- the trees of one list, then those of the other
    abbrev pub beside : (xs ys : List Symbol) → HasRest G xs U → HasRest G ys V → HasRest G (xs ++ ys) W
    beside xs ys a b = record {
      trees = a.trees and b.trees;
      over = over-and G a.trees b.trees a.over b.over;
      roots_are = roots-and a.trees b.trees ∙ ap (λ l. l ++ roots b.trees) a.roots_are ∙ ap (λ l. xs ++ l) b.roots_are;
      wanted = subst W (sym (yield-and a.trees b.trees)) (join (yield a.trees) (yield b.trees) a.wanted b.wanted);
    }

    pub count_beside : (xs ys : List Symbol) (m n k : ℕ) → IsRestCount G xs U m → IsRestCount G ys V n →
        k ≡ min (m + n) (2 ^ 64 - 1) →
        IsRestCount G (xs ++ ys) W k
    count_beside xs ys m n k a b e = record {
      rest = beside xs ys a.rest b.rest;
      is = omega (arith, nodes-and a.rest.trees b.rest.trees, a.is, b.is, e);
    }

    pub moves_beside : (xs ys : List Symbol) (ms ns : List Move) → AreRestMoves G xs U ms → AreRestMoves G ys V ns →
        AreRestMoves G (xs ++ ys) W (ms ++ ns)
    moves_beside xs ys ms ns a b = record {
      rest = beside xs ys a.rest b.rest;
      moves_are = ap (λ l. l ++ ns) a.moves_are ∙ ap (λ l. moves a.rest.trees ++ l) b.moves_are
          ∙ sym (moves-and a.rest.trees b.rest.trees);
    }

  -- the trees of two lists of symbols, taken apart
  pub record AreApart (xs ys : List Symbol) (W : List Terminal → Type 0) : Type 0 where
    pub front : Forest
    pub back : Forest
    pub front_over : AreOver G front
    pub back_over : AreOver G back
    pub front_roots : roots front ≡ xs
    pub back_roots : roots back ≡ ys
    pub wanted : W (yield front ++ yield back)

  pub apart : (xs ys : List Symbol) (W : List Terminal → Type 0) (ts : Forest) → AreOver G ts →
      roots ts ≡ xs ++ ys → W (yield ts) →
      AreApart xs ys W
  apart xs ys W ts o e w =
      let r = roots_split ts xs ys e in
      let overs = over-split G r.0 r.1 (subst (AreOver G) r.2 o) in
      record {
        front = r.0;
        back = r.1;
        front_over = overs.0;
        back_over = overs.1;
        front_roots = r.3;
        back_roots = r.4;
        wanted = subst W (ap yield r.2 ∙ yield-and r.0 r.1) w;
      }

  -- where a part of the symbols has no trees of a kind, all of them have none
  pub none_beside : (leaves : Bool) (xs ys : List Symbol) →
      HasNoRest G xs (LeavesOfKind leaves) ⊎ HasNoRest G ys (LeavesOfKind leaves) → HasNoRest G (xs ++ ys) (LeavesOfKind leaves)
  none_beside leaves xs ys missing ts o e w =
      let a = apart xs ys (LeavesOfKind leaves) ts o e w in
      go missing a (kinds_split leaves (yield a.front) (yield a.back) a.wanted)
    where
      go : HasNoRest G xs (LeavesOfKind leaves) ⊎ HasNoRest G ys (LeavesOfKind leaves) → (a : AreApart xs ys (LeavesOfKind leaves)) →
          LeavesOfKind leaves (yield a.front) × LeavesOfKind leaves (yield a.back) → ⊥
      go (inl h) a k = h a.front a.front_over a.front_roots k.0
      go (inr h) a k = h a.back a.back_over a.back_roots k.1

  pub counts_kinds : (leaves : Bool) (xs ys : List Symbol) (m n : Option ℕ) → CountsRest G xs (LeavesOfKind leaves) m →
      CountsRest G ys (LeavesOfKind leaves) n → CountsRest G (xs ++ ys) (LeavesOfKind leaves) (counts_beside m n)
  counts_kinds leaves xs ys None n a b = none_beside leaves xs ys (inl a)
  counts_kinds leaves xs ys (Some m) None a b = none_beside leaves xs ys (inr b)
  counts_kinds leaves xs ys (Some m) (Some n) a b = count_beside (kinds_join leaves) xs ys m n (capped_count (m + n)) a b refl

  module _ (t : Terminal) (x : Symbol) (ss : List Symbol) (from : ℕ) where
    abbrev IsPlace : BeginPlace → Type 0
    IsPlace = IsBeginPlace G (x ∷ ss) t from

    -- trees that begin at the first symbol
    begins_here : (m n : ℕ) → IsRestCount G (x ∷ []) (BeginsWith t) m → IsRestCount G ss AnyLeaves n →
        IsPlace (record { place = from; count = capped_count (m + n) })
    begins_here m n a b = record {
      before = [];
      symbol = x;
      after = ss;
      parts = refl;
      place_is = omega arith;
      front = nothing_rest;
      here = a.rest;
      behind = b.rest;
      count_is = omega (arith, a.is, b.is);
    }

    -- trees that begin behind it
    begins_later : (m : ℕ) (p : BeginPlace) → IsRestCount G (x ∷ []) NoLeaves m → IsBeginPlace G ss t (suc from) p →
        IsPlace (record p { count = capped_count (m + p.count) })
    begins_later m p a b = record {
      before = x ∷ b.before;
      symbol = b.symbol;
      after = b.after;
      parts = ap (λ l. x ∷ l) b.parts;
      place_is = omega (arith, b.place_is);
      front = beside (kinds_join false) (x ∷ []) b.before a.rest b.front;
      here = b.here;
      behind = b.behind;
      count_is = omega (arith, a.is, b.count_is, nodes-and a.rest.trees b.front.trees);
    }

    -- no trees begin with the terminal where none do at the first symbol, and none behind it
    pub no_begins : HasNoRest G (x ∷ []) (BeginsWith t) ⊎ HasNoRest G ss AnyLeaves →
        HasNoRest G (x ∷ []) NoLeaves ⊎ HasNoRest G ss (BeginsWith t) → HasNoRest G (x ∷ ss) (BeginsWith t)
    no_begins no_here no_later ts o e w =
        let a = apart (x ∷ []) ss (BeginsWith t) ts o e w in
        at no_here no_later a (begins_split t (yield a.front) (yield a.back) a.wanted)
      where
        here : HasNoRest G (x ∷ []) (BeginsWith t) ⊎ HasNoRest G ss AnyLeaves → (a : AreApart (x ∷ []) ss (BeginsWith t)) →
            BeginsWith t (yield a.front) → ⊥
        here (inl h) a b = h a.front a.front_over a.front_roots b
        here (inr h) a b = h a.back a.back_over a.back_roots tt

        later : HasNoRest G (x ∷ []) NoLeaves ⊎ HasNoRest G ss (BeginsWith t) → (a : AreApart (x ∷ []) ss (BeginsWith t)) →
            NoLeaves (yield a.front) × BeginsWith t (yield a.back) → ⊥
        later (inl h) a b = h a.front a.front_over a.front_roots b.0
        later (inr h) a b = h a.back a.back_over a.back_roots b.1

        at : HasNoRest G (x ∷ []) (BeginsWith t) ⊎ HasNoRest G ss AnyLeaves →
            HasNoRest G (x ∷ []) NoLeaves ⊎ HasNoRest G ss (BeginsWith t) → (a : AreApart (x ∷ []) ss (BeginsWith t)) →
            BeginsWith t (yield a.front) ⊎ (NoLeaves (yield a.front) × BeginsWith t (yield a.back)) → ⊥
        at no_here no_later a (inl b) = here no_here a b
        at no_here no_later a (inr b) = later no_later a b

    here_none : (m n : Option ℕ) → CountsRest G (x ∷ []) (BeginsWith t) m → CountsRest G ss AnyLeaves n →
        place_here from (counts_beside m n) ≡ None → HasNoRest G (x ∷ []) (BeginsWith t) ⊎ HasNoRest G ss AnyLeaves
    here_none None n a b e = inl a
    here_none (Some m) None a b e = inr b
    here_none (Some m) (Some n) a b e = let z : ⊥ = cc in absurd z

    here_some : (m n : Option ℕ) (p : BeginPlace) → CountsRest G (x ∷ []) (BeginsWith t) m → CountsRest G ss AnyLeaves n →
        place_here from (counts_beside m n) ≡ Some p → IsPlace p
    here_some None n p a b e = let z : ⊥ = cc in absurd z
    here_some (Some m) None p a b e = let z : ⊥ = cc in absurd z
    here_some (Some m) (Some n) p a b e =
        subst IsPlace (some_same (record { place = from; count = capped_count (m + n) }) p e) (begins_here m n a b)

    later_none : (m : Option ℕ) (q : Option BeginPlace) → CountsRest G (x ∷ []) NoLeaves m → HasBeginPlace G ss t (suc from) q →
        place_behind m q ≡ None → HasNoRest G (x ∷ []) NoLeaves ⊎ HasNoRest G ss (BeginsWith t)
    later_none None q a b e = inl a
    later_none (Some m) None a b e = inr b
    later_none (Some m) (Some q) a b e = let z : ⊥ = cc in absurd z

    later_some : (m : Option ℕ) (q : Option BeginPlace) (p : BeginPlace) → CountsRest G (x ∷ []) NoLeaves m →
        HasBeginPlace G ss t (suc from) q → place_behind m q ≡ Some p → IsPlace p
    later_some None q p a b e = let z : ⊥ = cc in absurd z
    later_some (Some m) None p a b e = let z : ⊥ = cc in absurd z
    later_some (Some m) (Some q) p a b e =
        subst IsPlace (some_same (record q { count = capped_count (m + q.count) }) p e) (begins_later m q a b)

    -- the place with one symbol more in front
    pub place_more : (here empty behind : Option ℕ) (later found : Option BeginPlace) → CountsRest G (x ∷ []) (BeginsWith t) here →
        CountsRest G (x ∷ []) NoLeaves empty → CountsRest G ss AnyLeaves behind → HasBeginPlace G ss t (suc from) later →
        IsEitherPlace (place_here from (counts_beside here behind)) (place_behind empty later) found →
        HasBeginPlace G (x ∷ ss) t from found
    place_more here empty behind later None h m b l e =
        no_begins (here_none here behind h b e.0) (later_none empty later m l e.1)
    place_more here empty behind later (Some p) h m b l (inl e) = here_some here behind p h b e
    place_more here empty behind later (Some p) h m b l (inr e) = later_some empty later p m l e

  -- the trees that begin at a place, as they are counted
  pub place_count : (t : Terminal) (ss : List Symbol) (from : ℕ) (p : BeginPlace) → IsBeginPlace G ss t from p →
      IsRestCount G ss (BeginsWith t) p.count
  place_count t ss from p b =
      subst (λ l. IsRestCount G l (BeginsWith t) p.count) (sym b.parts) (record {
        rest = beside (none_begins t) b.before (b.symbol ∷ b.after) b.front
            (beside (begins_any t) (b.symbol ∷ []) b.after b.here b.behind);
        is = omega (
          arith,
          b.count_is,
          nodes-and b.front.trees (b.here.trees and b.behind.trees),
          nodes-and b.here.trees b.behind.trees,
        );
      })
