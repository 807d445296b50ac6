-- Parts of lists, and that the leaves of a label's tree are a part of those of its children, in order: for the trees that a parse makes.
use Rattle.std.proofs.Common.{◌≡◌, ◌+◌, ◌≤◌, ℕ, zero, suc, List, [], ◌∷◌, ◌++◌, length, refl, ap}
use Rattle.std.proofs.Common.{sym, ◌∙◌, arith, subst}
use Rattle.std.proofs.Common.{append_assoc}
use Rattle.std.proofs.lemmas.List.{append-nil}
use Rattle.std.specs.Prelude.{drop, flat_map, take}
use Rattle.std.proofs.Math.Seq.{take-add}
use Rattle.std.proofs.lemmas.Grind.{flat_map-append}
use Rattle.lalrpop_grammar.specs.Trees.{Tree, Trees, leaves, leaves_of, trees}
use Rattle.lalrpop_grammar.specs.WrittenGrammar.{Origin}
use Rattle.lalrpop_grammar_language.specs.Derivations.{append_tree, first_tree, join_trees, plus_more_tree, tree_by_origin}
use Rattle.lalrpop_grammar_language.specs.Labels.{Inlinings, Label}
use Rattle.lalrpop_run_trees.specs.ActionLabels.{ChoiceInlinings, ChoiceLabel, kept_count, kept_counts}
use Rattle.lalrpop_run_trees.specs.LabelledTrees.{IsPart, tree_by_label, trees_by_inlinings}

pub part_none : {A : Type 0} (ys : List A) → IsPart {A = A} [] ys
part_none [] = IsPart.nothing
part_none (y ∷ ys) = IsPart.without_first y [] ys (part_none ys)

-- each list is a part of itself, with nothing left out
pub part_same : {A : Type 0} (xs : List A) → IsPart xs xs
part_same [] = IsPart.nothing
part_same (x ∷ xs) = IsPart.with_first x xs xs (part_same xs)

-- parts of two lists, one behind the other
pub parts_joined : {A : Type 0} (xs ys us vs : List A) → IsPart xs ys → IsPart us vs → IsPart (xs ++ us) (ys ++ vs)
parts_joined _ _ us vs IsPart.nothing h = h
parts_joined _ _ us vs (IsPart.with_first x xs ys p) h =
    IsPart.with_first x (xs ++ us) (ys ++ vs) (parts_joined xs ys us vs p h)
parts_joined _ _ us vs (IsPart.without_first y xs ys p) h =
    IsPart.without_first y (xs ++ us) (ys ++ vs) (parts_joined xs ys us vs p h)

-- a part of a part of a list is a part of the list
pub part_of_part : {A : Type 0} (xs ys zs : List A) → IsPart xs ys → IsPart ys zs → IsPart xs zs
part_of_part xs ys _ p IsPart.nothing = p
part_of_part xs _ _ p (IsPart.without_first z ys zs q) = IsPart.without_first z xs zs (part_of_part xs ys zs p q)
part_of_part _ _ _ (IsPart.with_first x xs ys p) (IsPart.with_first x2 ys2 zs q) =
    IsPart.with_first x xs zs (part_of_part xs ys zs p q)
part_of_part _ _ _ (IsPart.without_first y xs ys p) (IsPart.with_first y2 ys2 zs q) =
    IsPart.without_first y xs zs (part_of_part xs ys zs p q)

pub part_length : {A : Type 0} (xs ys : List A) → IsPart xs ys → length xs ≤ length ys
part_length _ _ IsPart.nothing = omega arith
part_length _ _ (IsPart.with_first x xs ys p) = omega (arith, part_length xs ys p)
part_length _ _ (IsPart.without_first y xs ys p) = omega (arith, part_length xs ys p)

-- a part that is as long is the whole
pub part_is_whole : {A : Type 0} (xs ys : List A) → IsPart xs ys → length xs ≡ length ys → xs ≡ ys
part_is_whole _ _ IsPart.nothing e = refl
part_is_whole _ _ (IsPart.with_first x xs ys p) e = ap (λ l. x ∷ l) (part_is_whole xs ys p (omega (arith, e)))
part_is_whole _ _ (IsPart.without_first y xs ys p) e = absurd (omega (arith, e, part_length xs ys p))

-- leaves of lists of trees
pub leaves_listed : (us : List Tree) → leaves_of (trees us) ≡ flat_map leaves us
leaves_listed [] = refl
leaves_listed (u ∷ us) = ap (λ l. leaves u ++ l) (leaves_listed us)

leaves_of_join : (ts us : Trees) → leaves_of (join_trees ts us) ≡ leaves_of ts ++ leaves_of us
leaves_of_join Trees.none us = refl
leaves_of_join (Trees.more t ts) us =
    ap (λ l. leaves t ++ l) (leaves_of_join ts us) ∙ sym (append_assoc (leaves t) (leaves_of ts) (leaves_of us))

first_part : (ts : Trees) → IsPart (leaves (first_tree ts)) (leaves_of ts)
first_part Trees.none = IsPart.nothing
first_part (Trees.more t ts) =
    subst (λ l. IsPart l (leaves t ++ leaves_of ts)) (append-nil (leaves t))
    (parts_joined (leaves t) (leaves t) [] (leaves_of ts) (part_same (leaves t)) (part_none (leaves_of ts)))

longer_part : (t u : Tree) → IsPart (leaves (append_tree t u)) (leaves t ++ leaves u)
longer_part (Tree.rule n args place ts) u = part_none (leaves (Tree.rule n args place ts) ++ leaves u)
longer_part (Tree.list ts) u =
    subst (λ l. IsPart l (leaves_of ts ++ leaves u))
    (sym (leaves_of_join ts (Trees.more u Trees.none) ∙ ap (λ l. leaves_of ts ++ l) (append-nil (leaves u))))
    (part_same (leaves_of ts ++ leaves u))
longer_part Tree.opt_none u = part_none (leaves u)
longer_part (Tree.opt_some t) u = part_none (leaves t ++ leaves u)
longer_part (Tree.group ts) u = part_none (leaves_of ts ++ leaves u)
longer_part (Tree.terminal k) u = part_none (k ∷ leaves u)
longer_part Tree.look u = part_none (leaves u)

more_part : (ts : Trees) → IsPart (leaves (plus_more_tree ts)) (leaves_of ts)
more_part Trees.none = IsPart.nothing
more_part (Trees.more t Trees.none) = part_none (leaves t ++ [])
more_part (Trees.more t (Trees.more u rest)) =
    subst (λ l. IsPart l (leaves t ++ (leaves u ++ leaves_of rest))) (append-nil (leaves (append_tree t u)))
    (subst (λ l. IsPart (leaves (append_tree t u) ++ []) l) (append_assoc (leaves t) (leaves u) (leaves_of rest))
    (parts_joined (leaves (append_tree t u)) (leaves t ++ leaves u) [] (leaves_of rest) (longer_part t u)
    (part_none (leaves_of rest))))

choice_part : (o : Origin) (ts : Trees) → IsPart (leaves (tree_by_origin o ts)) (leaves_of ts)
choice_part Origin.start ts = first_part ts
choice_part (Origin.alternative n args place) ts = part_same (leaves_of ts)
choice_part Origin.pass_down ts = first_part ts
choice_part Origin.plus_one ts = part_same (leaves_of ts)
choice_part Origin.plus_more ts = more_part ts
choice_part Origin.star_none ts = part_none (leaves_of ts)
choice_part Origin.star_some ts = first_part ts
choice_part Origin.opt_none ts = part_none (leaves_of ts)
choice_part Origin.opt_some ts = first_part ts
choice_part Origin.group ts = part_same (leaves_of ts)
choice_part Origin.look ts = part_none (leaves_of ts)

-- the leaves of the first trees, and of the first of the others
leaves_of_both : (n m : ℕ) (ts : List Tree) →
    flat_map leaves (take (n + m) ts) ≡ flat_map leaves (take n ts) ++ flat_map leaves (take m (drop n ts))
leaves_of_both n m ts = ap (flat_map leaves) (take-add n m ts) ∙ flat_map-append leaves (take n ts) (take m (drop n ts))

none_taken : (n : ℕ) → ◌≡◌ {A = List Tree} (take n []) []
none_taken zero = refl
none_taken (suc n) = refl

-- where no tree is left, none is taken
kept_of_none : (inlinings : ChoiceInlinings) →
    IsPart (flat_map leaves (trees_by_inlinings inlinings [])) (flat_map leaves (take (kept_counts inlinings) [])) →
    IsPart (flat_map leaves (trees_by_inlinings inlinings [])) []
kept_of_none inlinings p = subst (λ l. IsPart (flat_map leaves (trees_by_inlinings inlinings [])) (flat_map leaves l))
    (none_taken (kept_counts inlinings)) p

mutual
  -- the leaves of a label's tree are among those of the trees that it keeps
  tree_part : (label : ChoiceLabel) (ts : List Tree) →
      IsPart (leaves (tree_by_label label ts)) (flat_map leaves (take (kept_count label) ts))
  tree_part (Label.choose x o inlinings) ts =
      part_of_part (leaves (tree_by_origin o (trees (trees_by_inlinings inlinings ts))))
      (flat_map leaves (trees_by_inlinings inlinings ts)) (flat_map leaves (take (kept_counts inlinings) ts))
      (subst (λ l. IsPart (leaves (tree_by_origin o (trees (trees_by_inlinings inlinings ts)))) l)
      (leaves_listed (trees_by_inlinings inlinings ts)) (choice_part o (trees (trees_by_inlinings inlinings ts))))
      (all_parts inlinings ts)

  all_parts : (inlinings : ChoiceInlinings) (ts : List Tree) →
      IsPart (flat_map leaves (trees_by_inlinings inlinings ts)) (flat_map leaves (take (kept_counts inlinings) ts))
  all_parts Inlinings.none ts = part_none (flat_map leaves (take 0 ts))
  all_parts (Inlinings.kept inlinings) [] = kept_of_none inlinings (all_parts inlinings [])
  all_parts (Inlinings.kept inlinings) (t ∷ ts) =
      parts_joined (leaves t) (leaves t) (flat_map leaves (trees_by_inlinings inlinings ts))
      (flat_map leaves (take (kept_counts inlinings) ts)) (part_same (leaves t)) (all_parts inlinings ts)
  all_parts (Inlinings.inlined label inlinings) ts =
      subst (λ l. IsPart (leaves (tree_by_label label ts)
      ++ flat_map leaves (trees_by_inlinings inlinings (drop (kept_count label) ts))) l)
      (sym (leaves_of_both (kept_count label) (kept_counts inlinings) ts))
      (parts_joined (leaves (tree_by_label label ts)) (flat_map leaves (take (kept_count label) ts))
      (flat_map leaves (trees_by_inlinings inlinings (drop (kept_count label) ts)))
      (flat_map leaves (take (kept_counts inlinings) (drop (kept_count label) ts))) (tree_part label ts)
      (all_parts inlinings (drop (kept_count label) ts)))

-- the leaves of a label's tree are among those of its children, where there are as many as it keeps
pub tree_leaves : (label : ChoiceLabel) (ts : List Tree) → kept_count label ≡ length ts →
    IsPart (leaves (tree_by_label label ts)) (flat_map leaves ts)
tree_leaves label ts e =
    subst (λ l. IsPart (leaves (tree_by_label label ts)) (flat_map leaves l))
    (ap (λ n. take n ts) e ∙ all_taken ts) (tree_part label ts)
  where
    all_taken : (us : List Tree) → take (length us) us ≡ us
    all_taken [] = refl
    all_taken (u ∷ us) = ap (λ l. u ∷ l) (all_taken us)
