-- Where productions correspond, valid items do, and there are as many sets of them.
use Rattle.std.proofs.Common.{◌≡◌, ℕ, zero, suc, List, [], ◌∷◌, refl, ap, sym, ◌∙◌, subst, Some, None, length}
use Rattle.std.specs.Prelude.{slice_get, ⊤}
use Rattle.lalrpop_grammar_symbols.specs.Symbols.{Text}
use Rattle.lalrpop_lr1_theory.specs.Productions.{Symbol, Production, Next, first}
use Rattle.lalrpop_lr1_theory.specs.Trees.{Forest, none, leaf, node, ◌and◌, roots, IsTreeOf}
use Rattle.lalrpop_lr1_theory.specs.Places.{Way, top, under, plug, lefts, rights}
use Rattle.lalrpop_lr1_theory.specs.ValidItems.{CountsItemSets, HasItemsOfOne, HasValidItem, HaveSameItems, IsValidItem}
use Rattle.lalrpop_run.proofs.AlikeLemmas.{Alike, AlikeSides, Correspond, converse, flip_sides, made, roots_alike, side_one, tree_alike}
use Rattle.lalrpop_run.proofs.AlikeLemmas.{yield_alike}

-- ways that correspond
abbrev AlikeWay : (Production → Production → Type 0) → Way → Way → Type 0
AlikeWay R top top = ⊤
AlikeWay R top (under d m q k) = ⊥
AlikeWay R (under c l p r) top = ⊥
AlikeWay R (under c l p r) (under d m q k) = AlikeWay R c d × Alike R l m × R p q × Alike R r k

-- trees in two parts
pub record InTwo (R : Production → Production → Type 0) (a b us : Forest) : Type 0 where
  pub front : Forest
  pub back : Forest
  pub whole : us ≡ front and back
  pub fronts : Alike R a front
  pub backs : Alike R b back

pub split_and : (R : Production → Production → Type 0) (a b us : Forest) → Alike R (a and b) us → InTwo R a b us
split_and R none b us h = record { front = none; back = us; whole = refl; fronts = tt; backs = h }
split_and R (leaf t ts) b none h = absurd h
split_and R (leaf t ts) b (leaf u us) h =
    let s = split_and R ts b us h.1 in
    record { front = leaf u s.front; back = s.back; whole = ap (leaf u) s.whole; fronts = (h.0, s.fronts); backs = s.backs }
split_and R (leaf t ts) b (node q ds us) h = absurd h
split_and R (node p cs ts) b none h = absurd h
split_and R (node p cs ts) b (leaf u us) h = absurd h
split_and R (node p cs ts) b (node q ds us) h =
    let s = split_and R ts b us h.2 in
    record {
      front = node q ds s.front;
      back = s.back;
      whole = ap (node q ds) s.whole;
      fronts = (h.0, h.1, s.fronts);
      backs = s.backs;
    }

pub and_alike : (R : Production → Production → Type 0) (a c b d : Forest) → Alike R a c → Alike R b d → Alike R (a and b) (c and d)
and_alike R none none b d h k = k
and_alike R none (leaf u us) b d h k = absurd h
and_alike R none (node q ds us) b d h k = absurd h
and_alike R (leaf t ts) none b d h k = absurd h
and_alike R (leaf t ts) (leaf u us) b d h k = (h.0, and_alike R ts us b d h.1 k)
and_alike R (leaf t ts) (node q ds us) b d h k = absurd h
and_alike R (node p cs ts) none b d h k = absurd h
and_alike R (node p cs ts) (leaf u us) b d h k = absurd h
and_alike R (node p cs ts) (node q ds us) b d h k = (h.0, h.1, and_alike R ts us b d h.2 k)

-- a node that corresponds to one
record IsNode (R : Production → Production → Type 0) (p : Production) (cs ts us : Forest) : Type 0 where
  production : Production
  children : Forest
  rest : Forest
  whole : us ≡ node production children rest
  same : R p production
  inside : Alike R cs children
  behind : Alike R ts rest

as_node : (R : Production → Production → Type 0) (p : Production) (cs ts us : Forest) → Alike R (node p cs ts) us → IsNode R p cs ts us
as_node R p cs ts none h = absurd h
as_node R p cs ts (leaf u us) h = absurd h
as_node R p cs ts (node q ds us) h =
    record { production = q; children = ds; rest = us; whole = refl; same = h.0; inside = h.1; behind = h.2 }

-- trees at a place
record Plugged (R : Production → Production → Type 0) (c : Way) (ts us : Forest) : Type 0 where
  way : Way
  inside : Forest
  whole : us ≡ plug way inside
  ways : AlikeWay R c way
  insides : Alike R ts inside

split_plug : (R : Production → Production → Type 0) (c : Way) (ts us : Forest) → Alike R (plug c ts) us → Plugged R c ts us
split_plug R top ts us h = record { way = top; inside = us; whole = refl; ways = tt; insides = h }
split_plug R (under c l p r) ts us h =
    let s = split_plug R c (l and node p ts r) us h in
    let a = split_and R l (node p ts r) s.inside s.insides in
    let n = as_node R p ts r a.back a.backs in
    record {
      way = under s.way a.front n.production n.rest;
      inside = n.children;
      whole = s.whole ∙ ap (plug s.way) (a.whole ∙ ap (λ z. a.front and z) n.whole);
      ways = (s.ways, a.fronts, n.same, n.behind);
      insides = n.inside;
    }

lefts_alike : (R : Production → Production → Type 0) (c d : Way) → AlikeWay R c d → Alike R (lefts c) (lefts d)
lefts_alike R top top h = tt
lefts_alike R top (under d m q k) h = absurd h
lefts_alike R (under c l p r) top h = absurd h
lefts_alike R (under c l p r) (under d m q k) h = and_alike R (lefts c) (lefts d) l m (lefts_alike R c d h.0) h.1

rights_alike : (R : Production → Production → Type 0) (c d : Way) → AlikeWay R c d → Alike R (rights c) (rights d)
rights_alike R top top h = tt
rights_alike R top (under d m q k) h = absurd h
rights_alike R (under c l p r) top h = absurd h
rights_alike R (under c l p r) (under d m q k) h = and_alike R r k (rights c) (rights d) h.3 (rights_alike R c d h.0)

-- a way that ends in a node
record IsUnder (R : Production → Production → Type 0) (c : Way) (l : Forest) (p : Production) (r : Forest) (w : Way) : Type 0 where
  way : Way
  left : Forest
  production : Production
  right : Forest
  whole : w ≡ under way left production right
  alike : AlikeWay R (under c l p r) (under way left production right)

as_under : (R : Production → Production → Type 0) (c : Way) (l : Forest) (p : Production) (r : Forest) (w : Way) →
    AlikeWay R (under c l p r) w → IsUnder R c l p r w
as_under R c l p r top h = absurd h
as_under R c l p r (under d m q k) h = record { way = d; left = m; production = q; right = k; whole = refl; alike = h }

pub lengths_alike : (N : Text → Text → Type 0) (g h : List Symbol) → AlikeSides N g h → length g ≡ length h
lengths_alike N [] [] a = refl
lengths_alike N [] (y ∷ h) a = absurd a
lengths_alike N (x ∷ g) [] a = absurd a
lengths_alike N (x ∷ g) (y ∷ h) a = ap suc (lengths_alike N g h a.1)

-- lists of symbols that correspond, one by one
abbrev AlikeAll : (Text → Text → Type 0) → List (List Symbol) → List (List Symbol) → Type 0
AlikeAll N [] [] = ⊤
AlikeAll N [] (h ∷ hs) = ⊥
AlikeAll N (g ∷ gs) [] = ⊥
AlikeAll N (g ∷ gs) (h ∷ hs) = AlikeSides N g h × AlikeAll N gs hs

record IsAlikeAt (N : Text → Text → Type 0) (gs : List (List Symbol)) (k : ℕ) (h : List Symbol) : Type 0 where
  list : List Symbol
  at : slice_get gs k ≡ Some list
  alike : AlikeSides N list h

alike_at : (N : Text → Text → Type 0) (gs hs : List (List Symbol)) (k : ℕ) (h : List Symbol) → AlikeAll N gs hs →
    slice_get hs k ≡ Some h → IsAlikeAt N gs k h
alike_at N [] [] k h a e = let wrong : None ≡ Some h = e in cc
alike_at N [] (y ∷ hs) k h a e = absurd a
alike_at N (g ∷ gs) [] k h a e = absurd a
alike_at N (g ∷ gs) (y ∷ hs) zero h a e =
    let same : y ≡ h = cc in
    record { list = g; at = refl; alike = subst (AlikeSides N g) same a.0 }
alike_at N (g ∷ gs) (y ∷ hs) (suc k) h a e =
    let r = alike_at N gs hs k h a.1 e in
    record { list = r.list; at = r.at; alike = r.alike }

record HasAlikeAt (N : Text → Text → Type 0) (hs : List (List Symbol)) (k : ℕ) (g : List Symbol) : Type 0 where
  list : List Symbol
  at : slice_get hs k ≡ Some list
  alike : AlikeSides N g list

other_at : (N : Text → Text → Type 0) (gs hs : List (List Symbol)) (k : ℕ) (g : List Symbol) → AlikeAll N gs hs →
    slice_get gs k ≡ Some g → HasAlikeAt N hs k g
other_at N [] hs k g a e = let wrong : None ≡ Some g = e in cc
other_at N (x ∷ gs) [] k g a e = absurd a
other_at N (x ∷ gs) (y ∷ hs) zero g a e =
    let same : x ≡ g = cc in
    record { list = y; at = refl; alike = subst (λ z. AlikeSides N z y) same a.0 }
other_at N (x ∷ gs) (y ∷ hs) (suc k) g a e =
    let r = other_at N gs hs k g a.1 e in
    record { list = r.list; at = r.at; alike = r.alike }

counts_alike : (N : Text → Text → Type 0) (gs hs : List (List Symbol)) → AlikeAll N gs hs → length gs ≡ length hs
counts_alike N [] [] a = refl
counts_alike N [] (h ∷ hs) a = absurd a
counts_alike N (g ∷ gs) [] a = absurd a
counts_alike N (g ∷ gs) (h ∷ hs) a = ap suc (counts_alike N gs hs a.1)

record HasAll (N : Text → Text → Type 0) (gs : List (List Symbol)) : Type 0 where
  lists : List (List Symbol)
  alike : AlikeAll N gs lists

module _ (G H : Production → Type 0) (N : Text → Text → Type 0) (R : Production → Production → Type 0)
    (c : Correspond G H N R) (s other : Text) (n : N s other) where
  -- a valid item of the one is one of the other
  record HasItem (g : List Symbol) (p : Production) (i : ℕ) (x : Next) : Type 0 where
    symbols : List Symbol
    production : Production
    sides : AlikeSides N g symbols
    same : R p production
    valid : IsValidItem H other symbols production i x

  item_alike : (g : List Symbol) (p : Production) (i : ℕ) (x : Next) → IsValidItem G s g p i x → HasItem g p i x
  item_alike g p i x v =
      let whole = plug (under v.way v.left p v.right) (v.complete and v.missing) in
      let m = made G H N R c whole v.is_tree.1 in
      let f = split_plug R (under v.way v.left p v.right) (v.complete and v.missing) m.forest m.alike in
      let a = split_and R v.complete v.missing f.inside f.insides in
      let u = as_under R v.way v.left p v.right f.way f.ways in
      let fronts : Alike R (lefts (under v.way v.left p v.right) and v.complete)
      (lefts (under u.way u.left u.production u.right) and a.front) =
      and_alike R (lefts (under v.way v.left p v.right)) (lefts (under u.way u.left u.production u.right)) v.complete a.front
      (lefts_alike R (under v.way v.left p v.right) (under u.way u.left u.production u.right) u.alike) a.fronts in
      let behind = rights_alike R (under v.way v.left p v.right) (under u.way u.left u.production u.right) u.alike in
      let is_whole : m.forest ≡ plug (under u.way u.left u.production u.right) (a.front and a.back) =
      f.whole ∙ ap (λ z. plug z f.inside) u.whole ∙ ap (plug (under u.way u.left u.production u.right)) a.whole in
      record {
        symbols = roots (lefts (under u.way u.left u.production u.right) and a.front);
        production = u.production;
        sides = subst (λ z. AlikeSides N z (roots (lefts (under u.way u.left u.production u.right) and a.front))) v.prefix
            (roots_alike G H N R c (lefts (under v.way v.left p v.right) and v.complete)
            (lefts (under u.way u.left u.production u.right) and a.front) fronts);
        same = u.alike.2;
        valid = record {
          way = u.way;
          left = u.left;
          complete = a.front;
          missing = a.back;
          right = u.right;
          is_tree = subst (IsTreeOf H other) is_whole (tree_alike G H N R c s other whole m.forest n v.is_tree m.alike);
          dot = sym (lengths_alike N (roots v.complete) (roots a.front) (roots_alike G H N R c v.complete a.front a.fronts)) ∙ v.dot;
          prefix = refl;
          next = ap first (sym (yield_alike G H N R c (rights (under v.way v.left p v.right))
              (rights (under u.way u.left u.production u.right)) behind)) ∙ v.next;
        };
      }

  -- as many lists of symbols, on which there are items
  lists_alike : (gs : List (List Symbol)) → ((k : ℕ) (g : List Symbol) → slice_get gs k ≡ Some g → HasValidItem G s g) → HasAll N gs
  lists_alike [] f = record { lists = []; alike = tt }
  lists_alike (g ∷ gs) f =
      let v = f 0 g refl in
      let one = item_alike g v.production v.dot v.next v.valid in
      let more = lists_alike gs (λ k h e. f (suc k) h e) in
      record { lists = one.symbols ∷ more.lists; alike = (one.sides, more.alike) }

  -- where there is an item on a list, there is one on the other
  some_item : (g h : List Symbol) → AlikeSides N g h → HasValidItem G s g → HasValidItem H other h
  some_item g h a v =
      let one = item_alike g v.production v.dot v.next v.valid in
      record {
        production = one.production;
        dot = v.dot;
        next = v.next;
        valid = subst (λ z. IsValidItem H other z one.production v.dot v.next)
            (side_one G H N R c g one.symbols h one.sides a) one.valid;
      }

module _ (G H : Production → Type 0) (N : Text → Text → Type 0) (R : Production → Production → Type 0)
    (c : Correspond G H N R) (s other : Text) (n : N s other) where
  -- what is valid on one list is valid on another
  abbrev GoesOver : (Production → Type 0) → Text → List Symbol → List Symbol → Type 0
  GoesOver K start g h = (p : Production) (i : ℕ) (x : Next) → IsValidItem K start g p i x → IsValidItem K start h p i x

  goes_over : (g h k l : List Symbol) → AlikeSides N g k → AlikeSides N h l → GoesOver G s g h → GoesOver H other k l
  goes_over g h k l a b f p i x v =
      let d = converse G H N R c in
      let back = item_alike H G (λ y z. N z y) (λ y z. R z y) d other s n k p i x v in
      let there : back.symbols ≡ g =
      side_one H G (λ y z. N z y) (λ y z. R z y) d k back.symbols g back.sides (flip_sides N g k a) in
      let on = item_alike G H N R c s other n h back.production i x
      (f back.production i x (subst (λ z. IsValidItem G s z back.production i x) there back.valid)) in
      let place : on.symbols ≡ l = side_one G H N R c h on.symbols l on.sides b in
      let same : on.production ≡ p = c.one back.production on.production p on.same back.same in
      subst (λ z. IsValidItem H other l z i x) same (subst (λ z. IsValidItem H other z on.production i x) place on.valid)

  same_items : (g h k l : List Symbol) → AlikeSides N g k → AlikeSides N h l → HaveSameItems G s g h → HaveSameItems H other k l
  same_items g h k l a b f p i x = (
    goes_over g h k l a b (λ q j y. (f q j y).0) p i x,
    goes_over h g l k b a (λ q j y. (f q j y).1) p i x,
  )

module _ (G H : Production → Type 0) (N : Text → Text → Type 0) (R : Production → Production → Type 0)
    (c : Correspond G H N R) (s other : Text) (n : N s other) where
  abbrev Back : Text → Text → Type 0
  Back a b = N b a

  abbrev BackProductions : Production → Production → Type 0
  BackProductions p q = R q p

  same_back : (g h k l : List Symbol) → AlikeSides N g k → AlikeSides N h l → HaveSameItems H other k l → HaveSameItems G s g h
  same_back g h k l a b f =
      same_items H G Back BackProductions (converse G H N R c) other s n k l g h (flip_sides N g k a) (flip_sides N h l b) f

  one_of : (v : List (List Symbol)) (lists : List (List Symbol)) → AlikeAll N v lists → (g k : List Symbol) →
      AlikeSides N g k → HasItemsOfOne G s v g → HasItemsOfOne H other lists k
  one_of v lists al g k a r =
      let o = other_at N v lists r.place r.list al r.at in
      record {
        place = r.place;
        list = o.list;
        at = o.at;
        same = same_items G H N R c s other n g r.list k o.list a o.alike r.same;
      }

  -- there are as many sets of items
  pub count_alike : (count : ℕ) → CountsItemSets G s count → CountsItemSets H other count
  count_alike count v =
      let m = lists_alike G H N R c s other n v.lists v.nonempty in
      record {
        lists = m.lists;
        count = sym (counts_alike N v.lists m.lists m.alike) ∙ v.count;
        nonempty = λ k h e.
            let r = alike_at N v.lists m.lists k h m.alike e in
            some_item G H N R c s other n r.list h r.alike (v.nonempty k r.list r.at);
        different = λ j k g h e o same.
            let a = alike_at N v.lists m.lists j g m.alike e in
            let b = alike_at N v.lists m.lists k h m.alike o in
            v.different j k a.list b.list a.at b.at (same_back a.list b.list g h a.alike b.alike same);
        all = λ g h.
            let d = converse G H N R c in
            let back = item_alike H G Back BackProductions d other s n g h.production h.dot h.next h.valid in
            one_of v.lists m.lists m.alike back.symbols g (flip_sides Back g back.symbols back.sides)
            (v.all back.symbols (record { production = back.production; dot = h.dot; next = h.next; valid = back.valid }));
      }
