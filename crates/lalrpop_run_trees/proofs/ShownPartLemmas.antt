-- Parts of written trees as they are seen, form by form, and what lists of parts are; for taking a part's children.
use Rattle.std.proofs.Common.{◌≡◌, ◌+◌, ◌<◌, ◌⊎◌, ℕ, zero, suc, List, [], ◌∷◌, ◌++◌, Bool, true}
use Rattle.std.proofs.Common.{refl, ap, ap₂, sym, ◌∙◌, arith, subst, length, map}
use Rattle.std.proofs.Common.{inl, inr, rules}
use Rattle.std.specs.Prelude.{IfNone, IfSome, IsTrue, None, Option, Some, Vec, drop, take}
use Rattle.std.specs.declared.alloc.Global.{Global}
use Rattle.std.proofs.lemmas.List.{map-append, take-append-drop}
use Rattle.lalrpop_grammar_symbols.specs.Symbols.{Argument, Text}
use Rattle.lalrpop_grammar_symbols.specs.declared.names.NonterminalString.{NonterminalString}
use Rattle.lalrpop_grammar_symbols.specs.declared.symbol.Symbol.{Symbol}
use Rattle.lalrpop_grammar.specs.Trees.{Tree, Trees, trees}
use Rattle.lalrpop_grammar.specs.Views.{tree_view}
use Rattle.lalrpop_grammar.specs.declared.tree.WrittenTree.{WrittenTree}
use Rattle.lalrpop_grammar.specs.declared.tree.WrittenTree.TheVariants as variant
use Rattle.lalrpop_grammar_language.specs.Derivations.{with_shown, with_shown_all}
use Rattle.lalrpop_run_trees.proofs.SeenLemmas.{of_group, of_list, of_rule}
use Rattle.lalrpop_grammar.specs.WrittenGrammar.{Origin}
use Rattle.lalrpop_run_trees.specs.PartViews.{AllInside, AllWithin, IsInside, TellsChildren, shown_part, shown_piece, shown_tree}
use Rattle.lalrpop_run_trees.specs.TreeSizes.{tree_size, trees_size}
use Rattle.lalrpop_run_trees.specs.declared.tree_parts.tree_part.TreePart.{TreePart}
use Rattle.lalrpop_run_trees.specs.declared.tree_parts.tree_part.Piece.{Piece}
use Rattle.lalrpop_run_trees.proofs.ArgumentLemmas.{arguments_view}
use Rattle.lalrpop_run_trees.proofs.SizeLemmas.{size_more}

shown_elements : (cs : List WrittenTree) → with_shown_all (trees (map tree_view cs)) ≡ trees (map shown_tree cs)
shown_elements [] = refl
shown_elements (c ∷ cs) = ap (Trees.more (shown_tree c)) (shown_elements cs)

module _ (q : Piece) (t : WrittenTree) (cs : List WrittenTree) (whole : shown_piece q ≡ shown_tree t) where
  pub shown_group : t ≡ variant.Group cs → shown_piece q ≡ Tree.group (trees (map shown_tree cs))
  shown_group e =
      whole ∙ ap shown_tree e ∙ ap with_shown (of_group cs) ∙ ap Tree.group (shown_elements cs)

  pub shown_list : t ≡ variant.List cs → shown_piece q ≡ Tree.list (trees (map shown_tree cs))
  shown_list e = whole ∙ ap shown_tree e ∙ ap with_shown (of_list cs) ∙ ap Tree.list (shown_elements cs)

  pub shown_rule : (n : NonterminalString) (args : List Symbol) (place : ℕ) → t ≡ variant.Rule n args place cs →
      shown_piece q ≡ Tree.rule n.0 (arguments_view args) place (trees (map shown_tree cs))
  shown_rule n args place e =
      whole ∙ ap shown_tree e ∙ ap with_shown (of_rule n args place cs)
      ∙ ap (Tree.rule n.0 (arguments_view args) place) (shown_elements cs)

-- a node is of one rule, with one list of arguments and at one place
pub rule_parts : (n m : Text) (a b : List Argument) (i j : ℕ) (ts us : Trees) → Tree.rule n a i ts ≡ Tree.rule m b j us →
    (n ≡ m) × (a ≡ b) × (i ≡ j)
rule_parts n m a b i j ts us e =
    let names : n ≡ m = cc in
    let args : a ≡ b = cc in
    let places : i ≡ j = cc in
    (names, args, places)

-- one more part inside
pub inside_more : (size : ℕ) (qs : List TreePart) (q : TreePart) → AllInside size qs → IsInside size q →
    AllInside size (qs ++ q ∷ [])
inside_more size [] q h k = (k, tt)
inside_more size (p ∷ qs) q h k = (h.0, inside_more size qs q h.1 k)

-- where all parts of a list stand inside a part, they lie within it
pub within_inside : (p : TreePart) (qs : List TreePart) → AllInside (tree_size (shown_part p)) qs → AllWithin p qs
within_inside p [] h = tt
within_inside p (q ∷ qs) h = (inr h.0, within_inside p qs h.1)

-- parts within parts
pub within_within : (p : TreePart) (q : TreePart) (qs : List TreePart) → (q ≡ p) ⊎ IsInside (tree_size (shown_part p)) q →
    AllWithin q qs →
    AllWithin p qs
within_within p q [] h k = tt
within_within p q (r ∷ qs) (inl same) k =
    (subst (λ x. (r ≡ x) ⊎ IsInside (tree_size (shown_part x)) r) same k.0, within_within p q qs (inl same) k.1)
within_within p q (r ∷ qs) (inr inside) (inl same, more) =
    (inr (subst (λ x. IsInside (tree_size (shown_part p)) x) (sym same) inside), within_within p q qs (inr inside) more)
within_within p q (r ∷ qs) (inr inside) (inr deeper, more) = (
  inr (record { marked = deeper.marked; smaller = omega (arith, deeper.smaller, inside.smaller) }),
  within_within p q qs (inr inside) more,
)

-- the one at a place
pub within_there : (p q : TreePart) (qs rest : List TreePart) (i : ℕ) → drop i qs ≡ q ∷ rest → AllWithin p qs →
    (q ≡ p) ⊎ IsInside (tree_size (shown_part p)) q
within_there p q [] rest zero e h = absurd (cc)
within_there p q [] rest (suc i) e h = absurd (cc)
within_there p q (r ∷ qs) rest zero e h =
    let same : r ≡ q = cc in subst (λ x. (x ≡ p) ⊎ IsInside (tree_size (shown_part p)) x) same h.0
within_there p q (r ∷ qs) rest (suc i) e h = within_there p q qs rest i e h.1

-- where the parts of two lists lie within a part, so do those of the lists joined
pub within_joined : (p : TreePart) (qs rs : List TreePart) → AllWithin p qs → AllWithin p rs → AllWithin p (qs ++ rs)
within_joined p [] rs h k = k
within_joined p (q ∷ qs) rs h k = (h.0, within_joined p qs rs h.1 k)

-- one more of some trees
pub same_more : (all : List WrittenTree) (i : ℕ) (t : WrittenTree) → take (i + 1) all ≡ take i all ++ t ∷ [] →
    (qs new : List TreePart)
    (q : TreePart) → new ≡ qs ++ q ∷ [] → map shown_part qs ≡ map shown_tree (take i all) → shown_part q ≡ shown_tree t →
    map shown_part new ≡ map shown_tree (take (i + 1) all)
same_more all i t next qs new q more before one =
    ap (λ l. map shown_part l) more ∙ map-append shown_part qs (q ∷ []) ∙ ap₂ (λ l x. l ++ x ∷ []) before one
    ∙ sym (map-append shown_tree (take i all) (t ∷ [])) ∙ ap (λ l. map shown_tree l) (sym next)

-- where parts stand inside a tree of some size, and one more does, all do once it is pushed
pub inside_pushed : (size : ℕ) (qs new : List TreePart) (q : TreePart) → new ≡ qs ++ q ∷ [] → AllInside size qs →
    IsInside size q →
    AllInside size new
inside_pushed size qs new q more h k = subst (λ l. AllInside size l) (sym more) (inside_more size qs q h k)

size_joined : (us vs : List Tree) → trees_size (trees (us ++ vs)) ≡ trees_size (trees us) + trees_size (trees vs)
size_joined [] vs = omega arith
size_joined (u ∷ us) vs = omega (arith, size_joined us vs)

-- a tree of some is no larger than all together
pub inside_one : (all : List WrittenTree) (i : ℕ) (t : WrittenTree) → take (i + 1) all ≡ take i all ++ t ∷ [] → (size : ℕ) →
    trees_size (trees (map shown_tree all)) < size → (q : TreePart) → shown_part q ≡ shown_tree t →
    q.is_inside ≡ true → IsInside size q
inside_one all i t next size less q one marked =
    let whole : map shown_tree all ≡ (map shown_tree (take i all) ++ shown_tree t ∷ []) ++ map shown_tree (drop (i + 1) all) =
    ap (λ l. map shown_tree l) (sym (take-append-drop (i + 1) all))
    ∙ map-append shown_tree (take (i + 1) all) (drop (i + 1) all)
    ∙ ap (λ l. l ++ map shown_tree (drop (i + 1) all))
    (ap (λ l. map shown_tree l) next ∙ map-append shown_tree (take i all) (t ∷ [])) in
    let sizes = ap (λ l. trees_size (trees l)) whole
    ∙ size_joined (map shown_tree (take i all) ++ shown_tree t ∷ []) (map shown_tree (drop (i + 1) all)) in
    record {
      marked = marked;
      smaller = omega (arith, ap tree_size one, less, sizes, size_more (map shown_tree (take i all)) (shown_tree t));
    }

-- a longer list isn't empty
pub longer_list : (us : List Tree) (u : Tree) → trees (us ++ u ∷ []) ≡ Trees.none → ⊥
longer_list [] u e = absurd (cc)
longer_list (v ∷ us) u e = absurd (cc)

list_same : (ts us : Trees) → Tree.list ts ≡ Tree.list us → ts ≡ us
list_same ts us e = cc

not_none : (t : Tree) (ts : Trees) → Trees.more t ts ≡ Trees.none → ⊥
not_none t ts e = absurd (cc)

rest_none : (t u : Tree) (ts : Trees) → Trees.more t ts ≡ Trees.more u Trees.none → ts ≡ Trees.none
rest_none t u ts e = cc

module _ (q : TreePart) (cs : List WrittenTree) (is_list : shown_part q ≡ Tree.list (trees (map shown_tree cs))) where
  pub list_size : tree_size (shown_part q) ≡ suc (trees_size (trees (map shown_tree cs)))
  list_size = ap tree_size is_list

  -- the one element of a list that has one
  pub one_element : (items : List TreePart) → length cs ≡ 1 → map shown_part items ≡ map shown_tree cs →
      (x : Tree) × (map shown_part items ≡ x ∷ []) × (shown_part q ≡ Tree.list (trees (x ∷ [])))
  one_element items counted are = go cs counted are is_list
    where
      go : (l : List WrittenTree) → length l ≡ 1 → map shown_part items ≡ map shown_tree l →
          shown_part q ≡ Tree.list (trees (map shown_tree l)) →
          (x : Tree) × (map shown_part items ≡ x ∷ []) × (shown_part q ≡ Tree.list (trees (x ∷ [])))
      go [] e f g = absurd (omega (arith, e))
      go (t ∷ []) e f g = (shown_tree t, f, g)
      go (t ∷ u ∷ l) e f g = absurd (omega (arith, e))

  pub not_one : (length cs ≡ 1 → ⊥) → (x : Tree) → shown_part q ≡ Tree.list (trees (x ∷ [])) → ⊥
  not_one isnt x e = go cs isnt (list_same (trees (map shown_tree cs)) (trees (x ∷ [])) (sym is_list ∙ e))
    where
      go : (l : List WrittenTree) → (length l ≡ 1 → ⊥) → trees (map shown_tree l) ≡ Trees.more x Trees.none → ⊥
      go [] n f = not_none x Trees.none (sym f)
      go (t ∷ []) n f = n refl
      go (t ∷ u ∷ l) n f =
          not_none (shown_tree u) (trees (map shown_tree l))
          (rest_none (shown_tree t) x (Trees.more (shown_tree u) (trees (map shown_tree l))) f)

  -- the size of a list that was one element shorter
  pub longer_size : (front : List WrittenTree) (last : WrittenTree) → cs ≡ front ++ last ∷ [] →
      tree_size (shown_part q) ≡ suc (trees_size (trees (map shown_tree front)) + tree_size (shown_tree last))
  longer_size front last e =
      list_size ∙ ap (λ l. suc (trees_size (trees (map shown_tree l)))) e
      ∙ ap (λ l. suc (trees_size (trees l))) (map-append shown_tree front (last ∷ []))
      ∙ ap suc (size_more (map shown_tree front) (shown_tree last))

  -- an empty one was never longer
  pub never_longer : length cs ≡ 0 → (us : List Tree) (u : Tree) → shown_part q ≡ Tree.list (trees (us ++ u ∷ [])) → ⊥
  never_longer none us u e = go cs none (list_same (trees (map shown_tree cs)) (trees (us ++ u ∷ [])) (sym is_list ∙ e))
    where
      go : (l : List WrittenTree) → length l ≡ 0 → trees (map shown_tree l) ≡ trees (us ++ u ∷ []) → ⊥
      go [] n f = longer_list us u (sym f)
      go (t ∷ l) n f = absurd (omega (arith, n))

  empty_list : length cs ≡ 0 → shown_part q ≡ Tree.list Trees.none
  empty_list none = go cs none is_list
    where
      go : (l : List WrittenTree) → length l ≡ 0 → shown_part q ≡ Tree.list (trees (map shown_tree l)) →
          shown_part q ≡ Tree.list Trees.none
      go [] n f = f
      go (t ∷ l) n f = absurd (omega (arith, n))

  none_of : shown_part q ≡ Tree.list Trees.none → length cs ≡ 0
  none_of e = go cs (list_same (trees (map shown_tree cs)) Trees.none (sym is_list ∙ e))
    where
      go : (l : List WrittenTree) → trees (map shown_tree l) ≡ Trees.none → length l ≡ 0
      go [] f = refl
      go (t ∷ l) f = absurd (not_none (shown_tree t) (trees (map shown_tree l)) f)

  -- nothing, where the list is empty
  pub nothing_told : (b : Bool) (r : Option (Vec TreePart Global)) → (b ≡ true → length cs ≡ 0) →
      (length cs ≡ 0 → b ≡ true) →
      IfSome r (λ parts. IsTrue b × (parts.items ≡ [])) → IfNone r (IsTrue b → ⊥) → TellsChildren Origin.star_none q r
  nothing_told b None to back some none = λ us h. none (search (back (none_of h.1), rules))
  nothing_told b (Some parts) to back some none = (ap (λ l. map shown_part l) some.1, empty_list (to (search (some.0, rules))))
