-- The children that a written tree has by a choice: it is made of them, they are its only ones, and they have its leaves; for taking apart.
use Rattle.std.proofs.Common.{◌≡◌, List, [], ◌∷◌, ◌++◌, refl, ap, ap₂, sym, ◌∙◌}
use Rattle.std.specs.Prelude.{flat_map}
use Rattle.std.proofs.lemmas.List.{append-nil}
use Rattle.std.proofs.lemmas.Grind.{flat_map-append}
use Rattle.lalrpop_grammar.specs.Trees.{Tree, Trees, leaves, trees}
use Rattle.lalrpop_grammar.specs.WrittenGrammar.{Origin}
use Rattle.lalrpop_grammar_language.specs.Derivations.{join_trees, tree_by_origin}
use Rattle.lalrpop_run_trees.proofs.PartLemmas.{leaves_listed}
use Rattle.lalrpop_run_trees.specs.KeptTrees.{AreChildrenBy}

-- trees in one list are those in the other
pub trees_once : (us vs : List Tree) → trees us ≡ trees vs → us ≡ vs
trees_once [] [] e = refl
trees_once [] (v ∷ vs) e = cc
trees_once (u ∷ us) [] e = cc
trees_once (u ∷ us) (v ∷ vs) e =
    let first : u ≡ v = cc in
    let rest : us ≡ vs = trees_once us vs (cc) in
    ap₂ (λ x l. x ∷ l) first rest

-- a list with a tree at its end is, as trees, those of the list joined with this one
pub trees_joined : (us : List Tree) (t : Tree) → trees (us ++ t ∷ []) ≡ join_trees (trees us) (Trees.more t Trees.none)
trees_joined [] t = refl
trees_joined (u ∷ us) t = ap (Trees.more u) (trees_joined us t)

not_longer : (us : List Tree) (t : Tree) → us ++ t ∷ [] ≡ [] → ⊥
not_longer [] t e = absurd (cc)
not_longer (u ∷ us) t e = absurd (cc)

-- lists with one more at the end are equal only where both parts are
last_same : (us vs : List Tree) (t w : Tree) → us ++ t ∷ [] ≡ vs ++ w ∷ [] → (us ≡ vs) × (t ≡ w)
last_same [] [] t w e = (refl, cc)
last_same [] (v ∷ vs) t w e = absurd (not_longer vs w (sym (rest_same t v [] (vs ++ w ∷ []) e)))
  where
    rest_same : (a b : Tree) (xs ys : List Tree) → a ∷ xs ≡ b ∷ ys → xs ≡ ys
    rest_same a b xs ys k = cc
last_same (u ∷ us) [] t w e = absurd (not_longer us t (rest_same u w (us ++ t ∷ []) [] e))
  where
    rest_same : (a b : Tree) (xs ys : List Tree) → a ∷ xs ≡ b ∷ ys → xs ≡ ys
    rest_same a b xs ys k = cc
last_same (u ∷ us) (v ∷ vs) t w e =
    let first : u ≡ v = cc in
    let rest = last_same us vs t w (cc) in
    (ap₂ (λ x l. x ∷ l) first rest.0, rest.1)

-- the tree is made of its children
pub children_tree : (o : Origin) (t : Tree) (us : List Tree) → AreChildrenBy o t us → tree_by_origin o (trees us) ≡ t
children_tree Origin.start t us h = ap (λ l. tree_by_origin Origin.start (trees l)) h
children_tree (Origin.alternative n args place) t us h = sym h
children_tree Origin.pass_down t us h = ap (λ l. tree_by_origin Origin.pass_down (trees l)) h
children_tree Origin.plus_one t us (u, e, h) = ap (λ l. Tree.list (trees l)) e ∙ sym h
children_tree Origin.plus_more t us (front, u, e, h) =
    ap (λ l. tree_by_origin Origin.plus_more (trees l)) e ∙ ap Tree.list (sym (trees_joined front u)) ∙ sym h
children_tree Origin.star_none t us (e, h) = sym h
children_tree Origin.star_some t us h = ap (λ l. tree_by_origin Origin.star_some (trees l)) h
children_tree Origin.opt_none t us (e, h) = sym h
children_tree Origin.opt_some t us (u, e, h) = ap (λ l. tree_by_origin Origin.opt_some (trees l)) e ∙ sym h
children_tree Origin.group t us h = sym h
children_tree Origin.look t us (e, h) = sym h

-- it has no others
pub children_once : (o : Origin) (t : Tree) (us vs : List Tree) → AreChildrenBy o t us → AreChildrenBy o t vs → us ≡ vs
children_once Origin.start t us vs h k = h ∙ sym k
children_once (Origin.alternative n args place) t us vs h k = trees_once us vs (rule_same (trees us) (trees vs) (sym h ∙ k))
  where
    rule_same : (xs ys : Trees) → Tree.rule n args place xs ≡ Tree.rule n args place ys → xs ≡ ys
    rule_same xs ys e = cc
children_once Origin.pass_down t us vs h k = h ∙ sym k
children_once Origin.plus_one t us vs (u, e, h) (v, f, k) =
    e ∙ trees_once (u ∷ []) (v ∷ []) (list_same (trees (u ∷ [])) (trees (v ∷ [])) (sym h ∙ k)) ∙ sym f
  where
    list_same : (xs ys : Trees) → Tree.list xs ≡ Tree.list ys → xs ≡ ys
    list_same xs ys q = cc
children_once Origin.plus_more t us vs (front, u, e, h) (other, v, f, k) =
    let both = last_same front other u v
    (trees_once (front ++ u ∷ []) (other ++ v ∷ [])
    (list_same (trees (front ++ u ∷ [])) (trees (other ++ v ∷ [])) (sym h ∙ k))) in
    e ∙ ap₂ (λ l x. Tree.list (trees l) ∷ x ∷ []) both.0 both.1 ∙ sym f
  where
    list_same : (xs ys : Trees) → Tree.list xs ≡ Tree.list ys → xs ≡ ys
    list_same xs ys q = cc
children_once Origin.star_none t us vs (e, h) (f, k) = e ∙ sym f
children_once Origin.star_some t us vs h k = h ∙ sym k
children_once Origin.opt_none t us vs (e, h) (f, k) = e ∙ sym f
children_once Origin.opt_some t us vs (u, e, h) (v, f, k) =
    e ∙ ap (λ x. x ∷ []) (some_same u v (sym h ∙ k)) ∙ sym f
  where
    some_same : (a b : Tree) → Tree.opt_some a ≡ Tree.opt_some b → a ≡ b
    some_same a b q = cc
children_once Origin.group t us vs h k = trees_once us vs (group_same (trees us) (trees vs) (sym h ∙ k))
  where
    group_same : (xs ys : Trees) → Tree.group xs ≡ Tree.group ys → xs ≡ ys
    group_same xs ys e = cc
children_once Origin.look t us vs (e, h) (f, k) = e ∙ sym f

one_leaves : (t : Tree) (us : List Tree) → us ≡ t ∷ [] → leaves t ≡ flat_map leaves us
one_leaves t us e = sym (append-nil (leaves t)) ∙ ap (λ l. flat_map leaves l) (sym e)

-- they have its leaves
pub children_leaves : (o : Origin) (t : Tree) (us : List Tree) → AreChildrenBy o t us → leaves t ≡ flat_map leaves us
children_leaves Origin.start t us h = one_leaves t us h
children_leaves (Origin.alternative n args place) t us h = ap leaves h ∙ leaves_listed us
children_leaves Origin.pass_down t us h = one_leaves t us h
children_leaves Origin.plus_one t us (u, e, h) = ap leaves h ∙ leaves_listed (u ∷ []) ∙ ap (λ l. flat_map leaves l) (sym e)
children_leaves Origin.plus_more t us (front, u, e, h) =
    ap leaves h ∙ leaves_listed (front ++ u ∷ []) ∙ flat_map-append leaves front (u ∷ [])
    ∙ ap (λ l. l ++ flat_map leaves (u ∷ [])) (sym (leaves_listed front)) ∙ ap (λ l. flat_map leaves l) (sym e)
children_leaves Origin.star_none t us (e, h) = ap leaves h ∙ ap (λ l. flat_map leaves l) (sym e)
children_leaves Origin.star_some t us h = one_leaves t us h
children_leaves Origin.opt_none t us (e, h) = ap leaves h ∙ ap (λ l. flat_map leaves l) (sym e)
children_leaves Origin.opt_some t us (u, e, h) = ap leaves h ∙ one_leaves u us e
children_leaves Origin.group t us h = ap leaves h ∙ leaves_listed us
children_leaves Origin.look t us (e, h) = ap leaves h ∙ ap (λ l. flat_map leaves l) (sym e)
