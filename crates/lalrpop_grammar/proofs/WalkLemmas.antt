-- A walk through a tree over a stack of lists: what is to come, room on the stack, and that it ends. For `Leaves`.
use Rattle.std.proofs.Common.{◌≡◌, ℕ, zero, suc, ◌+◌, ◌<◌, ◌≤◌, List, [], ◌∷◌, ◌++◌, Some, None, refl, sym}
use Rattle.std.proofs.Common.{ap, ◌∙◌, subst, arith, length, map, take, get_or, append_assoc, append-nil, max}
use Rattle.std.specs.Borrow.{Bor}
use Rattle.std.proofs.lemmas.List.{map-append, length-map, take_more}
use Rattle.lalrpop_grammar.specs.Trees.{Token, Tree, Trees, leaves, leaves_of, trees}
use Rattle.lalrpop_grammar.specs.Walks.{children, token_at, open_below, open_in, open_through, to_come}
use Rattle.lalrpop_grammar.specs.WalkViews.{list_view, lists_view}
use Rattle.lalrpop_grammar.specs.Views.{tree_view}
use Rattle.lalrpop_grammar.specs.declared.tree.WrittenTree.{WrittenTree}

-- how many steps a walk through trees takes
unfoldable mutual
  pub steps_below : Tree → ℕ
  steps_below (Tree.rule n args place ts) = steps_in ts
  steps_below (Tree.list ts) = steps_in ts
  steps_below Tree.opt_none = 1
  steps_below (Tree.opt_some t) = suc (steps_below t + 1)
  steps_below (Tree.group ts) = steps_in ts
  steps_below (Tree.terminal token) = 1
  steps_below Tree.look = 1

  -- how many steps a walk through a list of trees takes
  pub steps_in : Trees → ℕ
  steps_in Trees.none = 1
  steps_in (Trees.more t ts) = suc (steps_below t + steps_in ts)

-- how many steps are left with these lists on the stack
unfoldable pub steps_through : List Trees → ℕ
steps_through [] = 0
steps_through (ts ∷ rest) = steps_in ts + steps_through rest

steps-children : (t : Tree) → steps_in (children t) ≡ steps_below t
unfolding steps_in
steps-children (Tree.rule n args place ts) = refl
steps-children (Tree.list ts) = refl
steps-children Tree.opt_none = refl
steps-children (Tree.opt_some t) = refl
steps-children (Tree.group ts) = refl
steps-children (Tree.terminal token) = refl
steps-children Tree.look = refl

open-children : (t : Tree) → open_in (children t) ≡ open_below t
unfolding open_in
open-children (Tree.rule n args place ts) = refl
open-children (Tree.list ts) = refl
open-children Tree.opt_none = refl
open-children (Tree.opt_some t) = refl
open-children (Tree.group ts) = refl
open-children (Tree.terminal token) = refl
open-children Tree.look = refl

-- what is no leaf has the leaves of the trees right below
leaves-children : (t : Tree) → token_at t ≡ None → leaves t ≡ leaves_of (children t)
leaves-children (Tree.rule n args place ts) e = refl
leaves-children (Tree.list ts) e = refl
leaves-children Tree.opt_none e = refl
leaves-children (Tree.opt_some t) e = sym (append-nil (leaves t))
leaves-children (Tree.group ts) e = refl
leaves-children (Tree.terminal token) e = cc
leaves-children Tree.look e = refl

leaves-token : (t : Tree) (token : Token) → token_at t ≡ Some token → leaves t ≡ token ∷ []
leaves-token (Tree.rule n args place ts) x e = cc
leaves-token (Tree.list ts) x e = cc
leaves-token Tree.opt_none x e = cc
leaves-token (Tree.opt_some t) x e = cc
leaves-token (Tree.group ts) x e = cc
leaves-token (Tree.terminal token) x e = cc
leaves-token Tree.look x e = cc

-- one more list on the stack
lists_seen-push : (all rest : List (Bor (List WrittenTree))) (x : Bor (List WrittenTree)) (ts : Trees) → all ≡ rest ++ x ∷ []
    → list_view x ≡ ts → lists_view all ≡ lists_view rest ++ ts ∷ []
lists_seen-push all rest x ts e h = ap lists_view e ∙ map-append list_view rest (x ∷ []) ∙ ap (λ us. lists_view rest ++ us ∷ []) h

-- the innermost list comes first
to_come-push : (rest : List Trees) (ts : Trees) → to_come (rest ++ ts ∷ []) ≡ leaves_of ts ++ to_come rest
to_come-push [] ts = sym (append-nil (leaves_of ts))
to_come-push (us ∷ rest) ts =
    ap (λ ys. ys ++ leaves_of us) (to_come-push rest ts) ∙ append_assoc (leaves_of ts) (to_come rest) (leaves_of us)

steps-push : (rest : List Trees) (ts : Trees) → steps_through (rest ++ ts ∷ []) ≡ steps_in ts + steps_through rest
unfolding steps_through
steps-push [] ts = refl
steps-push (us ∷ rest) ts = let e = steps-push rest ts in omega arith

steps-some : (ts : Trees) → 0 < steps_in ts
unfolding steps_in
steps-some Trees.none = omega arith
steps-some (Trees.more t ts) = omega arith

fewer-inside : (xs : List WrittenTree) (i : ℕ) (d : WrittenTree) → i < length xs
    → steps_in (children (tree_view (get_or xs i d))) < steps_in (trees (map tree_view xs))
unfolding steps_in
fewer-inside [] i d h = absurd (omega arith)
fewer-inside (x ∷ xs) zero d h = let k = steps-children (tree_view x) in let s = steps-some (trees (map tree_view xs)) in omega arith
fewer-inside (x ∷ xs) (suc i) d h = let k = fewer-inside xs i d (omega arith) in omega arith

-- the trees right below one of a list take fewer steps than the list
pub steps-inside : (xs : List WrittenTree) (i : ℕ) (x : WrittenTree) → i < length xs → x ≡ get_or xs i x
    → steps_in (children (tree_view x)) < steps_in (trees (map tree_view xs))
steps-inside xs i x h e =
    subst (λ (y : WrittenTree). steps_in (children (tree_view y)) < steps_in (trees (map tree_view xs))) (sym e) (fewer-inside xs i x h)

open-some : (ts : Trees) → 0 < open_in ts
unfolding open_in
open-some Trees.none = omega arith
open-some (Trees.more t ts) = omega arith

-- the lists on a stack are fewer than those that are open at once
room-for_one : (rest : List Trees) (ts : Trees) → length rest < open_through (rest ++ ts ∷ [])
unfolding open_through
room-for_one [] ts = let s = open-some ts in omega arith
room-for_one (us ∷ rest) ts = let k = room-for_one rest ts in omega arith

room-pop : (rest : List Trees) (ts : Trees) → open_through rest ≤ open_through (rest ++ ts ∷ [])
unfolding open_through
room-pop [] ts = omega arith
room-pop (us ∷ rest) ts = let k = room-pop rest ts in omega arith

room-lower : (rest : List Trees) (ts us : Trees) → open_in us ≤ open_in ts
    → open_through (rest ++ us ∷ []) ≤ open_through (rest ++ ts ∷ [])
unfolding open_through
room-lower [] ts us h = omega arith
room-lower (vs ∷ rest) ts us h = let k = room-lower rest ts us h in omega arith

room-two : (rest : List Trees) (ts us vs : Trees) → open_in us ≤ open_in ts → open_in vs < open_in ts
    → open_through ((rest ++ us ∷ []) ++ vs ∷ []) ≤ open_through (rest ++ ts ∷ [])
unfolding open_through
room-two [] ts us vs h k = let s = open-some vs in omega arith
room-two (ws ∷ rest) ts us vs h k = let e = room-two rest ts us vs h k in omega arith

-- the rest of a list asks for no more room
room-rest : (rest : List Trees) (t : Tree) (ts : Trees)
    → open_through (rest ++ ts ∷ []) ≤ open_through (rest ++ Trees.more t ts ∷ [])
unfolding open_in
room-rest rest t ts = room-lower rest (Trees.more t ts) ts (omega arith)

-- and there is room for the trees below its first
room-step : (rest : List Trees) (t : Tree) (ts : Trees)
    → open_through ((rest ++ ts ∷ []) ++ children t ∷ []) ≤ open_through (rest ++ Trees.more t ts ∷ [])
unfolding open_in
room-step rest t ts = let k = open-children t in room-two rest (Trees.more t ts) ts (children t) (omega arith) (omega arith)

open-push : (xs : List WrittenTree) (x : WrittenTree)
    → open_in (trees (map tree_view (xs ++ x ∷ []))) ≡ max (open_in (trees (map tree_view xs))) (suc (open_below (tree_view x)))
unfolding open_in
open-push [] x = omega arith
open-push (y ∷ xs) x = let k = open-push xs x in omega arith

-- one tree more in the loop that finds the greatest
pub open-more : (xs : List WrittenTree) (i : ℕ) (x : WrittenTree) → i < length xs → x ≡ get_or xs i x
    → open_in (trees (map tree_view (take (i + 1) xs)))
    ≡ max (open_in (trees (map tree_view (take i xs)))) (suc (open_in (children (tree_view x))))
open-more xs i x h e =
    ap (λ ys. open_in (trees (map tree_view ys))) (take_more xs i x h ∙ ap (λ y. take i xs ++ y ∷ []) (sym e))
    ∙ open-push (take i xs) x
    ∙ ap (λ n. max (open_in (trees (map tree_view (take i xs)))) (suc n)) (sym (open-children (tree_view x)))

-- one list is open on a walk through no trees: their own
pub open-none : open_in Trees.none ≡ 1
unfolding open_in
open-none = refl

-- a walk that begins with one list
pub open-single : (ts : Trees) → open_through (ts ∷ []) ≡ open_in ts
unfolding open_through
open-single ts = let s = open-some ts in omega arith

trees-empty : (xs : List WrittenTree) → length xs ≡ 0 → trees (map tree_view xs) ≡ Trees.none
trees-empty [] e = refl
trees-empty (x ∷ xs) e = absurd (omega arith)

-- A step of the walk over a stack `all`, whose innermost list is popped and leaves `rest`. The list is empty.
module _ (all rest : List (Bor (List WrittenTree))) (popped : Bor (List WrittenTree)) (pops : all ≡ rest ++ popped ∷ [])
    (none : length popped.now ≡ 0) where
  empty : lists_view all ≡ lists_view rest ++ Trees.none ∷ []
  empty = lists_seen-push all rest popped Trees.none pops (trees-empty popped.now none)

  -- the same tokens are to come
  pub empty-same : to_come (lists_view rest) ≡ to_come (lists_view all)
  empty-same = sym (ap to_come empty ∙ to_come-push (lists_view rest) Trees.none)

  -- the stack without it asks for no more room
  pub empty-room : open_through (lists_view rest) ≤ open_through (lists_view all)
  empty-room = omega (arith, ap open_through empty, room-pop (lists_view rest) Trees.none)

  -- fewer steps are left
  pub empty-fewer : steps_through (lists_view rest) < steps_through (lists_view all)
  empty-fewer = omega (arith, ap steps_through empty, steps-push (lists_view rest) Trees.none, steps-some Trees.none)

-- The list has a first tree: the others go back, as `one`.
module _ (all one rest : List (Bor (List WrittenTree))) (popped others : Bor (List WrittenTree)) (x : WrittenTree)
    (pops : all ≡ rest ++ popped ∷ []) (parts : popped.now ≡ x ∷ others.now) (puts : one ≡ rest ++ others ∷ []) where
  first : lists_view all ≡ lists_view rest ++ Trees.more (tree_view x) (list_view others) ∷ []
  first = lists_seen-push all rest popped _ pops (ap (λ xs. trees (map tree_view xs)) parts)

  next : lists_view one ≡ lists_view rest ++ list_view others ∷ []
  next = lists_seen-push one rest others _ puts refl

  all-to_come : to_come (lists_view all) ≡ leaves (tree_view x) ++ to_come (lists_view one)
  all-to_come =
      ap to_come first ∙ to_come-push (lists_view rest) (Trees.more (tree_view x) (list_view others))
      ∙ append_assoc (leaves (tree_view x)) (leaves_of (list_view others)) (to_come (lists_view rest))
      ∙ ap (λ ys. leaves (tree_view x) ++ ys) (sym (ap to_come next ∙ to_come-push (lists_view rest) (list_view others)))

  -- where the first tree is a leaf, its token is the first to come
  pub leaf-first : (token : Token) → token_at (tree_view x) ≡ Some token
      → to_come (lists_view all) ≡ token ∷ to_come (lists_view one)
  leaf-first token e = all-to_come ∙ ap (λ ys. ys ++ to_come (lists_view one)) (leaves-token (tree_view x) token e)

  -- the stack with the others asks for no more room
  pub leaf-room : open_through (lists_view one) ≤ open_through (lists_view all)
  leaf-room = omega (arith, ap open_through first, ap open_through next, room-rest (lists_view rest) (tree_view x) (list_view others))

  -- there is room for one more list
  pub more-room : length one < open_through (lists_view all)
  more-room =
      let counted : length (lists_view one) ≡ length one = length-map one list_view in
      omega (
        arith,
        counted,
        ap open_through first,
        ap length next,
        room-for_one (lists_view rest ++ list_view others ∷ []) (children (tree_view x)),
        room-step (lists_view rest) (tree_view x) (list_view others),
      )

  -- The first is no leaf: the trees right below it open, as `two`.
  module _ (two : List (Bor (List WrittenTree))) (inner : Bor (List WrittenTree)) (opens : two ≡ one ++ inner ∷ [])
      (below : list_view inner ≡ children (tree_view x)) where
    deeper : lists_view two ≡ lists_view one ++ children (tree_view x) ∷ []
    deeper = lists_seen-push two one inner _ opens below

    opened : lists_view two ≡ (lists_view rest ++ list_view others ∷ []) ++ children (tree_view x) ∷ []
    opened = deeper ∙ ap (λ ys. ys ++ children (tree_view x) ∷ []) next

    -- the same tokens are to come
    pub inner-same : token_at (tree_view x) ≡ None → to_come (lists_view two) ≡ to_come (lists_view all)
    inner-same e =
        ap to_come deeper ∙ to_come-push (lists_view one) (children (tree_view x))
        ∙ ap (λ ys. ys ++ to_come (lists_view one)) (sym (leaves-children (tree_view x) e)) ∙ sym all-to_come

    -- the stack with both lists asks for no more room
    pub inner-room : open_through (lists_view two) ≤ open_through (lists_view all)
    inner-room = omega (arith, ap open_through first, ap open_through opened, room-step (lists_view rest) (tree_view x) (list_view others))

    -- fewer steps are left
    pub inner-fewer : steps_through (lists_view two) < steps_through (lists_view all)
    unfolding steps_in
    inner-fewer =
        omega (
          arith,
          ap steps_through first,
          ap steps_through opened,
          steps-push (lists_view rest ++ list_view others ∷ []) (children (tree_view x)),
          steps-push (lists_view rest) (list_view others),
          steps-push (lists_view rest) (Trees.more (tree_view x) (list_view others)),
          steps-children (tree_view x),
        )
