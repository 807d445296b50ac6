-- The expanded tree of a written tree, taken apart, has the choices that the tree names: for the law on choices.
use Rattle.std.proofs.Common.{◌≡◌, ◌∙◌, ◌++◌, [], ◌∷◌, ap, refl, subst, sym, append_assoc, inl, inr}
use Rattle.lalrpop_grammar_symbols.specs.Symbols.{Closed, Op}
use Rattle.lalrpop_grammar.specs.WrittenGrammar.{Origin}
use Rattle.lalrpop_grammar.specs.Trees.{Tree, Trees}
use Rattle.lalrpop_grammar_language.specs.Enabled.{EnabledGrammar}
use Rattle.lalrpop_grammar_language.specs.Expansion.{GrammarSymbol, Nonterminal, RightSide, Produces, grammar_symbol, origin_with}
use Rattle.lalrpop_grammar_language.specs.Derivations.{append_tree, first_tree, join_trees, plus_more_tree, tree_by_origin}
use Rattle.lalrpop_grammar_language.specs.Derivations.{with_shown, with_shown_all, written_tree}
use Rattle.lalrpop_grammar_language.specs.Derivations.{written_trees}
use Rattle.lalrpop_grammar_language.specs.Admitting.{argument_list}
use Rattle.lalrpop_grammar_language.proofs.PlaceLemmas.{TellPlaces}
use Rattle.lalrpop_grammar_language.specs.BaseTrees.{BaseTree, BaseTrees, IsBaseTreeOf, AreBaseTreesOf}
use Rattle.lalrpop_grammar_language.specs.WrittenTrees.{derivation_of_tree, derivations_of_trees}
use Rattle.lalrpop_run_theory.specs.TreeChoices.{all_base_choices, base_choices, choices_of_origin, tree_choices, trees_choices}
use Rattle.lalrpop_grammar_language.proofs.StepOnceLemmas.{append-none}

mutual
  -- leaf texts name no choice
  pub shown_choices : (t : Tree) → tree_choices (with_shown t) ≡ tree_choices t
  shown_choices (Tree.rule n args place ts) = ap (λ l. record { rule = n; args = args; place = place } ∷ l) (shown_all_choices ts)
  shown_choices (Tree.list ts) = shown_all_choices ts
  shown_choices Tree.opt_none = refl
  shown_choices (Tree.opt_some t) = shown_choices t
  shown_choices (Tree.group ts) = shown_all_choices ts
  shown_choices (Tree.terminal k) = refl
  shown_choices Tree.look = refl

  shown_all_choices : (ts : Trees) → trees_choices (with_shown_all ts) ≡ trees_choices ts
  shown_all_choices Trees.none = refl
  shown_all_choices (Trees.more t ts) =
      ap (λ l. l ++ trees_choices (with_shown_all ts)) (shown_choices t) ∙ ap (λ l. tree_choices t ++ l) (shown_all_choices ts)

join_choices : (ts us : Trees) → trees_choices (join_trees ts us) ≡ trees_choices ts ++ trees_choices us
join_choices Trees.none us = refl
join_choices (Trees.more t ts) us =
    ap (λ l. tree_choices t ++ l) (join_choices ts us) ∙ sym (append_assoc (tree_choices t) (trees_choices ts) (trees_choices us))

-- how many symbols a choice produces, where its tree takes so many trees
abbrev IsShape : Origin → RightSide → Type 0
IsShape (Origin.alternative n args place) side = Unit {0}
IsShape Origin.group side = Unit {0}
IsShape Origin.plus_one side = Unit {0}
IsShape Origin.start side = (p : GrammarSymbol Nonterminal) × (side ≡ p ∷ [])
IsShape Origin.pass_down side = (p : GrammarSymbol Nonterminal) × (side ≡ p ∷ [])
IsShape Origin.star_some side = (p : GrammarSymbol Nonterminal) × (side ≡ p ∷ [])
IsShape Origin.opt_some side = (p : GrammarSymbol Nonterminal) × (side ≡ p ∷ [])
IsShape Origin.plus_more side =
    (z : Closed) × (p : GrammarSymbol Nonterminal)
    × (side ≡ GrammarSymbol.nonterminal (Nonterminal.closed (Closed.repeat Op.plus z)) ∷ p ∷ [])
IsShape Origin.star_none side = side ≡ []
IsShape Origin.opt_none side = side ≡ []
IsShape Origin.look side = side ≡ []

shape_as : (o p : Origin) (side : RightSide) → o ≡ p → IsShape p side → IsShape o side
shape_as o p side e h = subst (λ z. IsShape z side) (sym e) h

shape_of : (g : EnabledGrammar) → TellPlaces g → (x : Nonterminal) (o : Origin) (side : RightSide) →
    Produces g x o side → IsShape o side
shape_of g w (Nonterminal.start n) o side m = shape_as o Origin.start side m.4 (_, m.5)
shape_of g w (Nonterminal.closed (Closed.call n args level)) o side (inl m) =
    let place = w n args m.rule m.choice m.fits in
    shape_as o _ side (m.origin_is ∙ ap (origin_with (argument_list g.spelled args)) place.1) tt
shape_of g w (Nonterminal.closed (Closed.call n args level)) o side (inr m) = shape_as o Origin.pass_down side m.origin_is (_, m.side_is)
shape_of g w (Nonterminal.closed (Closed.repeat Op.plus x)) o side (inl m) = shape_as o Origin.plus_one side m.0 tt
shape_of g w (Nonterminal.closed (Closed.repeat Op.plus x)) o side (inr m) = shape_as o Origin.plus_more side m.0 (x, _, m.1)
shape_of g w (Nonterminal.closed (Closed.repeat Op.star x)) o side (inl m) = shape_as o Origin.star_none side m.0 m.1
shape_of g w (Nonterminal.closed (Closed.repeat Op.star x)) o side (inr m) = shape_as o Origin.star_some side m.0 (_, m.1)
shape_of g w (Nonterminal.closed (Closed.repeat Op.question x)) o side (inl m) = shape_as o Origin.opt_none side m.0 m.1
shape_of g w (Nonterminal.closed (Closed.repeat Op.question x)) o side (inr m) = shape_as o Origin.opt_some side m.0 (_, m.1)
shape_of g w (Nonterminal.closed (Closed.group xs)) o side m = shape_as o Origin.group side m.0 tt
shape_of g w (Nonterminal.closed Closed.lookahead) o side m = shape_as o Origin.look side m.0 m.1
shape_of g w (Nonterminal.closed Closed.lookbehind) o side m = shape_as o Origin.look side m.0 m.1
shape_of g w (Nonterminal.closed (Closed.terminal t)) o side m = absurd m
shape_of g w (Nonterminal.closed (Closed.choose x)) o side m = absurd m
shape_of g w (Nonterminal.closed (Closed.name a n x)) o side m = absurd m
shape_of g w (Nonterminal.closed Closed.faulty) o side m = absurd m

abbrev T : Type 0
T = BaseTree Nonterminal Origin

abbrev Ts : Type 0
Ts = BaseTrees Nonterminal Origin

first_is : (a b : T) (as_ bs : Ts) → BaseTrees.more a as_ ≡ BaseTrees.more b bs → a ≡ b
first_is a b as_ bs e = cc

abbrev written : T → Tree
written d = written_tree (derivation_of_tree d)

abbrev all_written : Ts → Trees
all_written ds = written_trees (derivations_of_trees ds)

module _ (g : EnabledGrammar) (w : TellPlaces g) where
  abbrev Are : RightSide → Ts → Type 0
  Are side ds = AreBaseTreesOf (Produces g) side ds

  -- one tree, and none
  one_kid : (p : GrammarSymbol Nonterminal) (ds : Ts) → Are (p ∷ []) ds →
      trees_choices (all_written ds) ≡ tree_choices (first_tree (all_written ds))
  one_kid p BaseTrees.none h = absurd h
  one_kid p (BaseTrees.more d BaseTrees.none) h = append-none (tree_choices (written d))
  one_kid p (BaseTrees.more d (BaseTrees.more e ds)) h = absurd h.1

  no_kid : (ds : Ts) → Are [] ds → trees_choices (all_written ds) ≡ []
  no_kid BaseTrees.none h = refl
  no_kid (BaseTrees.more d ds) h = absurd h

  -- the tree of `X+` is a list
  IsList : T → Type 0
  IsList d = (us : Trees) × (written d ≡ Tree.list us)

  list_more : (z : Closed) (p : GrammarSymbol Nonterminal) (o : Origin) (ds : Ts) →
      Are (GrammarSymbol.nonterminal (Nonterminal.closed (Closed.repeat Op.plus z)) ∷ p ∷ []) ds → o ≡ Origin.plus_more →
      ((d : T) (e : T) → ds ≡ BaseTrees.more d (BaseTrees.more e BaseTrees.none) → (us : Trees) × (written d ≡ Tree.list us)) →
      (us : Trees) × (tree_by_origin o (all_written ds) ≡ Tree.list us)
  list_more z p o BaseTrees.none h f inner = absurd h
  list_more z p o (BaseTrees.more d BaseTrees.none) h f inner = absurd h.1
  list_more z p o (BaseTrees.more d (BaseTrees.more e (BaseTrees.more k ds))) h f inner = absurd h.1.1
  list_more z p o (BaseTrees.more d (BaseTrees.more e BaseTrees.none)) h f inner =
      let r = inner d e refl in (
        join_trees r.0 (Trees.more (written e) Trees.none),
        ap (λ q. tree_by_origin q (all_written (BaseTrees.more d (BaseTrees.more e BaseTrees.none)))) f
            ∙ ap (λ t. append_tree t (written e)) r.1,
      )

  pub plus_is_list : (z : Closed) (d : BaseTree Nonterminal Origin) →
      IsBaseTreeOf (Produces g) (GrammarSymbol.nonterminal (Nonterminal.closed (Closed.repeat Op.plus z))) d →
      (us : Trees) × (written d ≡ Tree.list us)
  plus_is_list z (BaseTree.leaf t span) h = absurd h
  plus_is_list z (BaseTree.node y o BaseTrees.none) h = go h.2
    where
      go : Produces g (Nonterminal.closed (Closed.repeat Op.plus z)) o h.1 →
          (us : Trees) × (tree_by_origin o Trees.none ≡ Tree.list us)
      go (inl m) = (Trees.none, ap (λ q. tree_by_origin q Trees.none) m.0)
      go (inr m) = absurd (subst (λ s. Are s BaseTrees.none) m.1 h.3)
  plus_is_list z (BaseTree.node y o (BaseTrees.more d ds)) h =
      go h.2 (λ k. plus_is_list z d k)
    where
      go : Produces g (Nonterminal.closed (Closed.repeat Op.plus z)) o h.1 →
          (IsBaseTreeOf (Produces g) (GrammarSymbol.nonterminal (Nonterminal.closed (Closed.repeat Op.plus z))) d →
          (us : Trees) × (written d ≡ Tree.list us)) →
          (us : Trees) × (tree_by_origin o (all_written (BaseTrees.more d ds)) ≡ Tree.list us)
      go (inl m) inner =
          (all_written (BaseTrees.more d ds), ap (λ q. tree_by_origin q (all_written (BaseTrees.more d ds))) m.0)
      go (inr m) inner =
          let all = subst (λ s. Are s (BaseTrees.more d ds)) m.1 h.3 in
          list_more z (grammar_symbol z) o (BaseTrees.more d ds) all m.0 (λ k e f.
          subst (λ q. (us : Trees) × (written q ≡ Tree.list us)) (first_is d k ds (BaseTrees.more e BaseTrees.none) f) (inner all.0))

  -- a node's choices, where those of its children are theirs
  node_choices : (o : Origin) (side : RightSide) (ds : Ts) → IsShape o side → Are side ds →
      all_base_choices ds ≡ trees_choices (all_written ds) →
      choices_of_origin o ++ all_base_choices ds ≡ tree_choices (tree_by_origin o (all_written ds))
  node_choices (Origin.alternative n args place) side ds s h ih = ap (λ l. record { rule = n; args = args; place = place } ∷ l) ih
  node_choices Origin.group side ds s h ih = ih
  node_choices Origin.plus_one side ds s h ih = ih
  node_choices Origin.start side ds s h ih = ih ∙ one_kid s.0 ds (subst (λ z. Are z ds) s.1 h)
  node_choices Origin.pass_down side ds s h ih = ih ∙ one_kid s.0 ds (subst (λ z. Are z ds) s.1 h)
  node_choices Origin.star_some side ds s h ih = ih ∙ one_kid s.0 ds (subst (λ z. Are z ds) s.1 h)
  node_choices Origin.opt_some side ds s h ih = ih ∙ one_kid s.0 ds (subst (λ z. Are z ds) s.1 h)
  node_choices Origin.star_none side ds s h ih = ih ∙ no_kid ds (subst (λ z. Are z ds) s h)
  node_choices Origin.opt_none side ds s h ih = ih ∙ no_kid ds (subst (λ z. Are z ds) s h)
  node_choices Origin.look side ds s h ih = ih ∙ no_kid ds (subst (λ z. Are z ds) s h)
  node_choices Origin.plus_more side ds s h ih = ih ∙ more ds (subst (λ z. Are z ds) s.2 h)
    where
      more : (ks : Ts) → Are (GrammarSymbol.nonterminal (Nonterminal.closed (Closed.repeat Op.plus s.0)) ∷ s.1 ∷ []) ks →
          trees_choices (all_written ks) ≡ tree_choices (plus_more_tree (all_written ks))
      more BaseTrees.none k = absurd k
      more (BaseTrees.more d BaseTrees.none) k = absurd k.1
      more (BaseTrees.more d (BaseTrees.more e (BaseTrees.more f ks))) k = absurd k.1.1
      more (BaseTrees.more d (BaseTrees.more e BaseTrees.none)) k =
          let r = plus_is_list s.0 d k.0 in
          ap (λ t. tree_choices t ++ (tree_choices (written e) ++ [])) r.1
          ∙ sym (join_choices r.0 (Trees.more (written e) Trees.none))
          ∙ sym (ap (λ t. tree_choices (append_tree t (written e))) r.1)

  mutual
    -- a tree before inlining has the choices of its written tree
    pub choices_same : (d : BaseTree Nonterminal Origin) (p : GrammarSymbol Nonterminal) → IsBaseTreeOf (Produces g) p d →
        base_choices d ≡ tree_choices (written_tree (derivation_of_tree d))
    choices_same (BaseTree.leaf t span) p h = refl
    choices_same (BaseTree.node y o kids) (GrammarSymbol.terminal t) h = absurd h
    choices_same (BaseTree.node y o kids) (GrammarSymbol.nonterminal x) h =
        node_choices o h.1 kids (shape_of g w x o h.1 h.2) h.3 (all_choices_same kids h.1 h.3)

    all_choices_same : (ds : BaseTrees Nonterminal Origin) (ps : RightSide) → AreBaseTreesOf (Produces g) ps ds →
        all_base_choices ds ≡ trees_choices (written_trees (derivations_of_trees ds))
    all_choices_same BaseTrees.none ps h = refl
    all_choices_same (BaseTrees.more d ds) [] h = absurd h
    all_choices_same (BaseTrees.more d ds) (p ∷ ps) h =
        ap (λ l. l ++ all_base_choices ds) (choices_same d p h.0)
        ∙ ap (λ l. tree_choices (written_tree (derivation_of_tree d)) ++ l) (all_choices_same ds ps h.1)
