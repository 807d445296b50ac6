-- A computed example: of a conflict of two reductions the later one isn't told first.
use Rattle.std.proofs.Common.{◌≡◌, ℕ, zero, suc, List, [], ◌∷◌, refl, ap, sym, ◌∙◌, subst, inl, inr, Some, None, ◌⊎◌, ◌<◌, ◌≤◌}
use Rattle.std.proofs.Common.{arith, length, Contains}
use Rattle.std.proofs.lemmas.Bool.{cases_lt}
use Rattle.std.specs.Cmp.{nat_cmp_is}
use Rattle.std.specs.Prelude.{codes, slice_get}
use Rattle.std.specs.Ordering.{nat_cmp, ordering_then}
use Rattle.std.specs.declared.cmp.Ordering.{Ordering}
use Rattle.std.specs.declared.cmp.Ordering.TheVariants.{Equal, Greater, Less}
use Rattle.lalrpop_grammar_symbols.specs.Symbols.{Text, TextSpan, Terminal}
use Rattle.lalrpop_grammar.specs.WrittenGrammar.{Grammar, Origin}
use Rattle.lalrpop_grammar.specs.Trees.{Tree}
use Rattle.lalrpop_grammar_language.specs.Among.{Among}
use Rattle.lalrpop_grammar_language.specs.Enabled.{EnabledGrammar, enabled_grammar}
use Rattle.lalrpop_grammar_language.specs.Expansion.{Nonterminal, RightSide, Produces, InExpansion}
use Rattle.lalrpop_grammar_language.specs.Derivations.{leaf_token}
use Rattle.lalrpop_grammar_language.specs.ExpandedTrees.{ExpandedTree, ExpandedTrees}
use Rattle.lalrpop_grammar_language.specs.Inlining.{Inlines, InlinesAll}
use Rattle.lalrpop_grammar_language.specs.Labels.{Inlinings, Label}
use Rattle.lalrpop_grammar_language.specs.WrittenTrees.{tree_written}
use Rattle.lalrpop_grammar_language.proofs.WrittenTreeLemmas.{lit, alt, rule_of, grammar, finds, nd, tok}
use Rattle.lalrpop_norm_theory.specs.Inlined.{IsInlined}
use Rattle.lalrpop_norm_theory.specs.Productions.{IsOriginBefore}
use Rattle.lalrpop_norm_theory.proofs.ProductionListLemmas.{listed}
use Rattle.lalrpop_norm_theory.proofs.RowListLemmas.{reached-each}
use Rattle.lalrpop_lr1_theory.specs.Productions.{Production, Symbol, Next, nonterminal, terminal}
use Rattle.lalrpop_lr1_theory.specs.Spans.{SpannedForest, leaf_at, node_at, none_at, without_spans}
use Rattle.lalrpop_lr1_theory.specs.Trees.{AreOver, Forest, IsTreeOf, Move, forest, leaf, moves, node, none, reduce, roots}
use Rattle.lalrpop_lr1_theory.specs.ValidItems.{CarriesOn, begins, closes, shifts}
use Rattle.lalrpop_lr1_theory.proofs.ValidItemLemmas.{carried_from_valid}
use Rattle.lalrpop_judge.specs.Certificates.{MakesMove, NumberedMove, number_move, reduce_by, shift_of}
use Rattle.lalrpop_run_theory.specs.Expansions.{theory_side}
use Rattle.lalrpop_run_theory.specs.ExpansionTrees.{written_of_forest}
use Rattle.lalrpop_run_theory.proofs.ExamplesOfExpansions.{I, L, end, kept, one_start, place, rule, start, t}
use Rattle.lalrpop_run.specs.AllConflicts.{ConflictStands, MayBeReduced, PlacedConflict, ReductionConflict, opposing_move, reducing_move}
use Rattle.lalrpop_run.specs.AllConflicts.{with_reduction, with_shift}
use Rattle.lalrpop_run.specs.Asked.{MoveKind, ToldConflict, WrittenAnswer}
use Rattle.lalrpop_run.specs.ConflictOrders.{IsProductionBefore, compare_sides, compare_texts}
use Rattle.lalrpop_run.specs.ProductionOrders.{AreItsProductions, IsLabelBefore, IsNumberedBefore, inlined_at}
use Rattle.lalrpop_run.specs.RightAnswer.{IsRightAnswerTo}
use Rattle.lalrpop_run.specs.ToldConflicts.{IsToldOf}
use Rattle.lalrpop_run.proofs.ExamplesOfOneWord.{kept_where_unmarked}
use Rattle.lalrpop_run.proofs.ExamplesOfRightAnswers.{asked}
use Rattle.lalrpop_run.proofs.LabelOrderLemmas.{numbered_apart, origins_apart}

-- what is carried is of a production that is there
carried_there : (G : Production → Type 0) (s : Text) (g : List Symbol) (p : Production) (i : ℕ) (x : Next) → CarriesOn G s g p i x → G p
carried_there G s g p i x (begins q h e) = h
carried_there G s g p i x (shifts {n = f} {i = j} X b m k d e) = carried_there G s f p j x k
carried_there G s g p i x (closes {n = f} {p = q} {i = j} {x = y} b r z k d h w) = h

-- pub S = { "a", "a" }
abbrev twice : Grammar
twice = grammar (rule_of "S" (alt (lit "a" ∷ []) ∷ alt (lit "a" ∷ []) ∷ []) ∷ [])

abbrev g : EnabledGrammar
g = enabled_grammar finds [] twice

there : (x : Nonterminal) → Among (start ∷ rule "S" ∷ []) x → InExpansion g x
there = reached-each g 2 (start ∷ rule "S" ∷ []) refl

abbrev a : Terminal
a = Terminal.quoted (codes "a")

abbrev by_start : L
by_start = Label.choose start Origin.start (kept end)

abbrev by_S : ℕ → L
by_S k = Label.choose (rule "S") (place "S" k) (kept end)

abbrev All : RightSide → I → RightSide → Type 0
All before inlinings side = InlinesAll (Produces g) (IsInlined g) before inlinings side

abbrev Has : Nonterminal → L → RightSide → Type 0
Has x l side = Inlines (Produces g) (IsInlined g) x l side

abbrev Choice : Type 0
Choice = Origin × RightSide

of_a : (inlinings : I) (side : RightSide) → All (t "a" ∷ []) inlinings side → (inlinings ≡ kept end) × (side ≡ t "a" ∷ [])
of_a Inlinings.none side h = absurd h
of_a (Inlinings.inlined l inlinings) side h = absurd h
of_a (Inlinings.kept Inlinings.none) side h = (refl, h.2 ∙ ap (λ z. t "a" ∷ z) h.3)
of_a (Inlinings.kept (Inlinings.kept inlinings)) side h = absurd h.3
of_a (Inlinings.kept (Inlinings.inlined l inlinings)) side h = absurd h.3

abbrev IsS : L → RightSide → ℕ → Type 0
IsS l side k = (l ≡ by_S k) × (side ≡ t "a" ∷ [])

label_of_S : (l : L) (side : RightSide) → Has (rule "S") l side → IsS l side 0 ⊎ IsS l side 1
label_of_S (Label.choose z o inlinings) side h = go (listed g (rule "S") o h.1 h.2)
  where
    at : (k : ℕ) → ◌≡◌ {A = Choice} (place "S" k, t "a" ∷ []) (o, h.1) → IsS (Label.choose z o inlinings) side k
    at k e =
        let choice : place "S" k ≡ o = ap (λ (c : Choice). c.0) e in
        let before : t "a" ∷ [] ≡ h.1 = ap (λ (c : Choice). c.1) e in
        let r = of_a inlinings side (subst (λ b. All b inlinings side) (sym before) h.3) in (
          ap (λ x. Label.choose x o inlinings) h.0 ∙ ap (λ c. Label.choose (rule "S") c inlinings) (sym choice)
              ∙ ap (Label.choose (rule "S") (place "S" k)) r.0,
          r.1,
        )

    go : Among {A = Choice} ((place "S" 0, t "a" ∷ []) ∷ (place "S" 1, t "a" ∷ []) ∷ []) (o, h.1) →
        IsS (Label.choose z o inlinings) side 0 ⊎ IsS (Label.choose z o inlinings) side 1
    go (inl e) = inl (at 0 e)
    go (inr (inl e)) = inr (at 1 e)
    go (inr (inr i)) = absurd i

-- trees with one root
no_trees : (ts : SpannedForest) → roots (without_spans ts) ≡ [] → ts ≡ none_at
no_trees none_at e = refl
no_trees (leaf_at u k ts) e = let wrong : ⊥ = cc in absurd wrong
no_trees (node_at p cs ts) e = let wrong : ⊥ = cc in absurd wrong

record IsOneNode (A : Text) (ts : SpannedForest) : Type 0 where
  production : Production
  children : SpannedForest
  whole : ts ≡ node_at production children none_at
  left : production.left ≡ A

one_node : (A : Text) (ts : SpannedForest) → roots (without_spans ts) ≡ nonterminal A ∷ [] → IsOneNode A ts
one_node A none_at e = let wrong : ⊥ = cc in absurd wrong
one_node A (leaf_at u k ts) e =
    let clash : terminal u ≡ nonterminal A = cc in
    let wrong : ⊥ = cc in
    absurd wrong
one_node A (node_at p cs ts) e =
    let rest : roots (without_spans ts) ≡ [] = cc in
    let head : nonterminal p.left ≡ nonterminal A = cc in
    let name : p.left ≡ A = cc in
    record { production = p; children = cs; whole = ap (node_at p cs) (no_trees ts rest); left = name }

record IsOneLeaf (u : Terminal) (ts : SpannedForest) : Type 0 where
  span : TextSpan
  whole : ts ≡ leaf_at u span none_at

one_leaf : (u : Terminal) (ts : SpannedForest) → roots (without_spans ts) ≡ terminal u ∷ [] → IsOneLeaf u ts
one_leaf u none_at e = let wrong : ⊥ = cc in absurd wrong
one_leaf u (leaf_at v k ts) e =
    let rest : roots (without_spans ts) ≡ [] = cc in
    let head : terminal v ≡ terminal u = cc in
    let same : v ≡ u = cc in
    record { span = k; whole = ap (leaf_at v k) (no_trees ts rest) ∙ ap (λ z. leaf_at z k none_at) same }
one_leaf u (node_at p cs ts) e =
    let clash : nonterminal p.left ≡ terminal u = cc in
    let wrong : ⊥ = cc in
    absurd wrong

-- the conflict of the two reductions, with its trees the wrong way round
abbrev told : ToldConflict
told = record {
  shared = 1;
  next = None;
  kind1 = MoveKind.reduce;
  tree1 = nd "S" 1 (tok "a" ∷ []);
  kind2 = MoveKind.reduce;
  tree2 = nd "S" 0 (tok "a" ∷ []);
}

-- a number that is found less is less
less_number : (n m : ℕ) → nat_cmp n m ≡ Less → n < m
less_number n m e = go (cases_lt n m) (cases_lt m n)
  where
    greater : Greater ≡ Less → ⊥
    greater f = cc

    equal : Equal ≡ Less → ⊥
    equal f = cc

    go : (n < m) ⊎ (m ≤ n) → (m < n) ⊎ (n ≤ m) → n < m
    go (inl l) k = l
    go (inr l) (inl k) = absurd (greater (nat_cmp_is n m Greater k ∙ e))
    go (inr l) (inr k) = absurd (equal (nat_cmp_is n m Equal (omega (arith, l, k)) ∙ e))

nothing_inlined : (i : ℕ) (l : L) → inlined_at (kept end) i ≡ Some l → ⊥
nothing_inlined zero l e = cc
nothing_inlined (suc i) l e = cc

-- the label of the second alternative isn't numbered first
numbered_behind : (order : List Nonterminal) → IsNumberedBefore Nonterminal Origin IsOriginBefore order (by_S 1) (by_S 0) → ⊥
numbered_behind order h =
    numbered_apart IsOriginBefore origins_apart order (by_S 0) (by_S 1)
    (inr (
      λ s. s.2 (λ i l e. absurd (nothing_inlined i l e)),
      IsLabelBefore.by_choice (rule "S") (place "S" 0) (place "S" 1) (kept end) (kept end) (omega arith),
    )) h

module _ (G : List Production) (e : AreItsProductions asked twice G) where
  abbrev labels : ℕ → L
  labels = e.expansion.label_of

  S_named : e.expansion.name_of (rule "S") ≡ codes "S"
  S_named = e.expansion.naming.rules _ refl refl

  start_named : e.expansion.name_of start ≡ codes "__S"
  start_named = e.expansion.naming.starts (codes "S") (there start (inl refl))

  record IsStart (p : Production) : Type 0 where
    label : labels p.action ≡ by_start
    side : p.right ≡ nonterminal (codes "S") ∷ []

  start_production : (p : Production) → Contains G p → p.left ≡ codes "__S" → IsStart p
  start_production p k left =
      let q = e.expansion.no_other p k in
      let s = q.3 in
      let same : q.0 ≡ start = e.expansion.naming.apart q.0 start s.in_expansion (there start (inl refl))
      (sym s.left_is ∙ left ∙ sym start_named) in
      let r =
      one_start g (rule "S") (kept_where_unmarked g (rule "S") refl) (λ o side m. listed g start o side m) q.1 q.2
      (subst (λ x. Has x q.1 q.2) same s.produced) in
      record {
        label = s.label_is ∙ r.0;
        side = s.right_is ∙ ap (theory_side e.expansion.name_of) r.1 ∙ ap (λ z. nonterminal z ∷ []) S_named;
      }

  record IsOfS (p : Production) : Type 0 where
    label : (labels p.action ≡ by_S 0) ⊎ (labels p.action ≡ by_S 1)
    side : p.right ≡ terminal a ∷ []

  S_production : (p : Production) → Contains G p → p.left ≡ codes "S" → IsOfS p
  S_production p k left =
      let q = e.expansion.no_other p k in
      let s = q.3 in
      let same : q.0 ≡ rule "S" = e.expansion.naming.apart q.0 (rule "S") s.in_expansion (there (rule "S") (inr (inl refl)))
      (sym s.left_is ∙ left ∙ sym S_named) in
      go q.1 q.2 s.label_is s.right_is (label_of_S q.1 q.2 (subst (λ x. Has x q.1 q.2) same s.produced))
    where
      go : (l : L) (side : RightSide) → labels p.action ≡ l → p.right ≡ theory_side e.expansion.name_of side →
          IsS l side 0 ⊎ IsS l side 1 → IsOfS p
      go l side x y (inl r) = record { label = inl (x ∙ r.0); side = y ∙ ap (theory_side e.expansion.name_of) r.1 }
      go l side x y (inr r) = record { label = inr (x ∙ r.0); side = y ∙ ap (theory_side e.expansion.name_of) r.1 }

  -- a tree from the start
  record IsTheTree (ts : SpannedForest) : Type 0 where
    top : Production
    inner : Production
    span : TextSpan
    whole : ts ≡ node_at top (node_at inner (leaf_at a span none_at) none_at) none_at
    start_is : IsStart top
    top_there : Contains G top
    there_inner : Contains G inner
    inner_left : inner.left ≡ codes "S"
    inner_is : IsOfS inner

  the_tree : (ts : SpannedForest) → IsTreeOf (Contains G) (codes "__S") (without_spans ts) → IsTheTree ts
  the_tree ts h =
      let p = one_node (codes "__S") ts h.0 in
      let over = subst (λ z. AreOver (Contains G) (without_spans z)) p.whole h.1 in
      let s = start_production p.production over.0 p.left in
      let q = one_node (codes "S") p.children (over.1 ∙ s.side) in
      let below = subst (λ z. AreOver (Contains G) (without_spans z)) q.whole over.2 in
      let r = S_production q.production below.0 q.left in
      let l = one_leaf a q.children (below.1 ∙ r.side) in
      record {
        top = p.production;
        inner = q.production;
        span = l.span;
        whole = p.whole ∙ ap (λ z. node_at p.production z none_at) (q.whole ∙ ap (λ z. node_at q.production z none_at) l.whole);
        start_is = s;
        top_there = over.0;
        there_inner = below.0;
        inner_left = q.left;
        inner_is = r;
      }

  -- the written tree of it
  written : (k : ℕ) (ts : SpannedForest) (h : IsTheTree ts) → labels h.inner.action ≡ by_S k →
      written_of_forest labels ts ≡ nd "S" k (Tree.terminal (leaf_token a h.span) ∷ [])
  written k ts h l =
      ap (written_of_forest labels) h.whole
      ∙ ap (λ z. tree_written (ExpandedTree.node z (ExpandedTrees.more (ExpandedTree.node (labels h.inner.action)
      (ExpandedTrees.more (ExpandedTree.leaf a h.span) ExpandedTrees.none)) ExpandedTrees.none))) h.start_is.label
      ∙ ap (λ z. tree_written (ExpandedTree.node by_start (ExpandedTrees.more (ExpandedTree.node z
      (ExpandedTrees.more (ExpandedTree.leaf a h.span) ExpandedTrees.none)) ExpandedTrees.none))) l

  -- after one tree it reduces by the inner production, or, after that, by the start's
  record MovesAt (shared : SpannedForest) (m : NumberedMove) (ts : SpannedForest) (h : IsTheTree ts) : Type 0 where
    answer : ((m ≡ reduce_by h.inner.action) × (roots (without_spans shared) ≡ terminal a ∷ []))
        ⊎ ((m ≡ reduce_by h.top.action) × (roots (without_spans shared) ≡ nonterminal (codes "S") ∷ []))

  abbrev shape : (ts : SpannedForest) → IsTheTree ts → Forest
  shape ts h = node h.top (node h.inner (leaf a none) none) none

  moves_at : (shared : SpannedForest) (x : Next) (m : NumberedMove) (ts : SpannedForest) (h : IsTheTree ts) →
      MakesMove (Contains G) (codes "__S") shared x m ts → 1 ≡ length (roots (without_spans shared)) → MovesAt shared m ts h
  moves_at shared x m ts h v one =
      go v.count v.move (subst (λ z. forest z v.count ≡ without_spans shared) (ap without_spans h.whole) v.forest_is)
      (subst (λ z. slice_get (moves z) v.count ≡ Some v.move) (ap without_spans h.whole) v.move_is) v.move_named
    where
      go : (k : ℕ) (move : Move) → forest (shape ts h) k ≡ without_spans shared → slice_get (moves (shape ts h)) k ≡ Some move →
          number_move move ≡ m → MovesAt shared m ts h
      go zero move f w d =
          let counts : ◌≡◌ {A = ℕ} 0 1 = ap (λ z. length (roots z)) f ∙ sym one in
          absurd (omega (arith, counts))
      go (suc zero) move f w d =
          let same : reduce h.inner ≡ move = cc in
          record { answer = inl (sym d ∙ ap number_move (sym same), ap roots (sym f)) }
      go (suc (suc zero)) move f w d =
          let same : reduce h.top ≡ move = cc in
          record {
            answer = inr (
              sym d ∙ ap number_move (sym same),
              ap roots (sym f) ∙ ap (λ z. nonterminal z ∷ []) h.inner_left,
            );
          }
      go (suc (suc (suc k))) move f w d = let wrong : None ≡ Some move = w in cc

  -- a finished production is one of them
  finished_there : (h : List Symbol) (p : Production) (x : Next) → MayBeReduced (Contains G) (codes "__S") h p x → Contains G p
  finished_there h p x v =
      carried_there (Contains G) (codes "__S") h p (length p.right) x
      (carried_from_valid (Contains G) (codes "__S") h p (length p.right) x v)

  -- of the two productions the one of the second alternative doesn't come first
  not_before : (p q : Production) → Contains G p → Contains G q → p.left ≡ codes "S" → q.left ≡ codes "S" →
      p.right ≡ terminal a ∷ [] → q.right ≡ terminal a ∷ [] → labels p.action ≡ by_S 1 → labels q.action ≡ by_S 0 →
      IsProductionBefore p q → ⊥
  not_before p q i j l m r s f h before =
      numbered_behind e.order
      (subst (λ (z : L). IsNumberedBefore Nonterminal Origin IsOriginBefore e.order z (by_S 0)) f
      (subst (λ (z : L). IsNumberedBefore Nonterminal Origin IsOriginBefore e.order (labels p.action) z) h
      (e.in_order p q i j (l ∙ sym m) (less_number p.action q.action number))))
    where
      lefts : compare_texts p.left q.left ≡ Equal
      lefts = ap (λ (z : Text). compare_texts z q.left) l ∙ ap (compare_texts (codes "S")) m

      rights : compare_sides p.right q.right ≡ Equal
      rights = ap (λ (z : List Symbol). compare_sides z q.right) r ∙ ap (compare_sides (terminal a ∷ [])) s

      number : nat_cmp p.action q.action ≡ Less
      number =
          sym (ap (λ (o : Ordering). ordering_then o (ordering_then (compare_sides p.right q.right) (nat_cmp p.action q.action))) lefts
          ∙ ap (λ (o : Ordering). ordering_then o (nat_cmp p.action q.action)) rights) ∙ before

  -- so nothing tells the conflict the wrong way round
  not_told : (c : PlacedConflict) → IsToldOf (Contains G) (codes "__S") labels c told → ⊥
  not_told c w =
      let it = w.shown in
      let v = w.certificate in
      let one = the_tree it.tree1 v.certifies.makes1.is_tree in
      let two = the_tree it.tree2 v.certifies.makes2.is_tree in
      let shared : 1 ≡ length (roots (without_spans it.shared)) = ap (λ (z : ToldConflict). z.shared) w.told_is in
      let first = moves_at it.shared it.next it.move1 it.tree1 one v.certifies.makes1 shared in
      let second = moves_at it.shared it.next it.move2 it.tree2 two v.certifies.makes2 shared in
      by_moves it.move1 it.move2 (roots (without_spans it.shared)) one.top one.inner two.top two.inner v.certifies.differ
      first.answer second.answer
      (λ f. e.expansion.once one.top two.top one.top_there two.top_there (one.start_is.label ∙ sym two.start_is.label))
      (λ f h. by_conflict c.conflict one.inner two.inner it.next f h v.move1_is v.move2_is v.next_stands one.there_inner two.there_inner
      one.inner_left two.inner_left one.inner_is two.inner_is
      (λ l. trees_apart one.span (sym (written 0 it.tree1 one l) ∙ sym (ap (λ (z : ToldConflict). z.tree1) w.told_is)))
      (λ l. trees_apart_back two.span (ap (λ (z : ToldConflict). z.tree2) w.told_is ∙ written 1 it.tree2 two l)))
    where
      trees_apart : (s : TextSpan) → nd "S" 0 (Tree.terminal (leaf_token a s) ∷ []) ≡ nd "S" 1 (tok "a" ∷ []) → ⊥
      trees_apart s f = let places : ◌≡◌ {A = ℕ} 0 1 = cc in omega (arith, places)

      trees_apart_back : (s : TextSpan) → nd "S" 0 (tok "a" ∷ []) ≡ nd "S" 1 (Tree.terminal (leaf_token a s) ∷ []) → ⊥
      trees_apart_back s f = let places : ◌≡◌ {A = ℕ} 0 1 = cc in omega (arith, places)

      by_moves : (m k : NumberedMove) (shared : List Symbol) (p q r s : Production) → (m ≡ k → ⊥) →
          ((m ≡ reduce_by q.action) × (shared ≡ terminal a ∷ [])) ⊎ ((m ≡ reduce_by p.action) × (shared ≡ nonterminal (codes "S") ∷ [])) →
          ((k ≡ reduce_by s.action) × (shared ≡ terminal a ∷ [])) ⊎ ((k ≡ reduce_by r.action) × (shared ≡ nonterminal (codes "S") ∷ [])) →
          (Unit {0} → p ≡ r) → (m ≡ reduce_by q.action → k ≡ reduce_by s.action → ⊥) → ⊥
      by_moves m k shared p q r s d (inl x) (inl y) o w = w x.0 y.0
      by_moves m k shared p q r s d (inl x) (inr y) o w =
          let both : terminal a ∷ [] ≡ nonterminal (codes "S") ∷ [] = sym x.1 ∙ y.1 in
          let wrong : terminal a ≡ nonterminal (codes "S") = cc in
          cc
      by_moves m k shared p q r s d (inr x) (inl y) o w =
          let both : terminal a ∷ [] ≡ nonterminal (codes "S") ∷ [] = sym y.1 ∙ x.1 in
          let wrong : terminal a ≡ nonterminal (codes "S") = cc in
          cc
      by_moves m k shared p q r s d (inr x) (inr y) o w =
          d (x.0 ∙ ap (λ (z : Production). reduce_by z.action) (o tt) ∙ sym y.0)

      -- the label of one of the two alternatives, where it isn't the other's
      other_label : (l : L) → (l ≡ by_S 0) ⊎ (l ≡ by_S 1) → (l ≡ by_S 0 → ⊥) → l ≡ by_S 1
      other_label l (inl f) w = absurd (w f)
      other_label l (inr f) w = f

      first_label : (l : L) → (l ≡ by_S 0) ⊎ (l ≡ by_S 1) → (l ≡ by_S 1 → ⊥) → l ≡ by_S 0
      first_label l (inl f) w = f
      first_label l (inr f) w = absurd (w f)

      by_conflict : (conflict : ReductionConflict) (q s : Production) (x : Next) {m k : NumberedMove} → m ≡ reduce_by q.action →
          k ≡ reduce_by s.action → m ≡ reducing_move conflict → k ≡ opposing_move conflict →
          ConflictStands (Contains G) (codes "__S") c.symbols conflict x → Contains G q → Contains G s → q.left ≡ codes "S" →
          s.left ≡ codes "S" → IsOfS q → IsOfS s → (labels q.action ≡ by_S 0 → ⊥) → (labels s.action ≡ by_S 1 → ⊥) → ⊥
      by_conflict (with_shift p u) q s x f h i j w y z l r o b v d =
          let wrong : reduce_by s.action ≡ shift_of u = sym h ∙ j in
          cc
      by_conflict (with_reduction p k) q s x f h i j w y z l r o b v d =
          let numbers : reduce_by p.action ≡ reduce_by q.action = sym i ∙ f in
          let number : p.action ≡ q.action = cc in
          let others : reduce_by k.action ≡ reduce_by s.action = sym j ∙ h in
          let other : k.action ≡ s.action = cc in
          let p_is : p ≡ q = e.expansion.once p q (finished_there c.symbols p x w.0) y (ap labels number) in
          let k_is : k ≡ s = e.expansion.once k s (finished_there c.symbols k x w.1) z (ap labels other) in
          not_before q s y z l r o.side b.side (other_label (labels q.action) o.label v) (first_label (labels s.action) b.label d)
          (subst (λ z. IsProductionBefore z s) p_is (subst (IsProductionBefore p) k_is w.2))

-- the answer isn't right
first_of : {A : Type 0} (xs : List A) → 1 ≡ length xs → (x : A) × (slice_get xs 0 ≡ Some x)
first_of [] h = absurd (omega (arith, h))
first_of (x ∷ xs) h = (x, refl)

pub exchanged_trees : (text : List ℕ) → IsRightAnswerTo asked twice text (WrittenAnswer.conflicting (told ∷ [])) → ⊥
exchanged_trees text (IsRightAnswerTo.conflicts all h) =
    let c = first_of h.told_are.conflicts h.told_are.count in
    not_told h.grammar h.productions c.0 (h.told_are.each 0 c.0 told c.1 refl)
