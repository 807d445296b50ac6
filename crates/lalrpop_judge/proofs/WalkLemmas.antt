-- Admission over a tree's own leaves goes part by part: for the walk and the judge.
use Rattle.std.proofs.Common.{◌≡◌, ◌↔◌, ℕ, Bool, true, false, List, [], ◌∷◌, ◌+◌, Option, Result, Ok, Err, IfOk}
use Rattle.std.proofs.Common.{IsTrue, refl, ap, sym, ◌∙◌, map, drop, length, arith}
use Rattle.lalrpop_grammar_symbols.specs.Symbols.{Text, Op, Argument, Closed, Closeds, closed_list}
use Rattle.lalrpop_grammar.specs.Trees.{Token, Tree, Trees, leaves, leaves_of, trees}
use Rattle.lalrpop_grammar.specs.Views.{grammar_view, tree_view}
use Rattle.lalrpop_grammar.specs.declared.tree.WrittenTree.{WrittenTree}
use Rattle.lalrpop_grammar_language.specs.Enabled.{EnabledGrammar}
use Rattle.lalrpop_grammar_language.specs.Closing.{inner, right_side}
use Rattle.lalrpop_grammar_language.specs.Admitting.{Admits, FitsRepeat, argument_list, bind}
use Rattle.lalrpop_grammar_language.proofs.LeafLemmas.{tokens_are, all_tokens_are, each_tokens_are}
use Rattle.lalrpop_grammar_language.proofs.PlaceLemmas.{places_apart}
use Rattle.lalrpop_grammar_rules.specs.RuleTable.{rules_with}
use Rattle.lalrpop_grammar_rules.specs.declared.table.Rules as table
use Rattle.lalrpop_grammar_rules.specs.Views.{closeds}
use Rattle.lalrpop_judge.specs.Admitted.{Admitted, AdmittedAll, AdmittedEach, IsRightSideAt, MayBe}
use Rattle.lalrpop_grammar_rules.proofs.ArgumentLemmas.{closed_list-closeds}

-- `false` is not true, so anything follows
pub never : {A : Type 0} → IsTrue false → A
never e = absurd (let f : ◌≡◌ {A = Bool} false true = e in cc)

-- the answer about the one fact is the answer about the other
pub answered : {E : Type 0} (P Q : Type 0) (r : Result Bool E) → (P → Q) → (Q → P) → IfOk r (λ yes. IsTrue yes ↔ P)
    → IfOk r (λ yes. IsTrue yes ↔ Q)
answered P Q (Ok b) to from is = (λ y. to (is.0 y), λ q. is.1 (from q))
answered P Q (Err e) to from is = is

module _ (g : EnabledGrammar) where
  pub all_first : (x : Closed) (xs : List Closed) (t : Tree) (ts : Trees) → AdmittedAll g (x ∷ xs) (Trees.more t ts) → Admitted g x t
  all_first x xs t ts a = rw (tokens_are g x t a.0 a.3) at a.3

  pub all_rest : (x : Closed) (xs : List Closed) (t : Tree) (ts : Trees) → AdmittedAll g (x ∷ xs) (Trees.more t ts)
      → AdmittedAll g xs ts
  all_rest x xs t ts a = rw (all_tokens_are g xs ts a.1 a.4) at a.4

  pub all_join : (x : Closed) (xs : List Closed) (t : Tree) (ts : Trees) → Admitted g x t → AdmittedAll g xs ts
      → AdmittedAll g (x ∷ xs) (Trees.more t ts)
  all_join x xs t ts a b = (leaves t, leaves_of ts, refl, a, b)

  pub each_first : (x : Closed) (t : Tree) (ts : Trees) → AdmittedEach g x (Trees.more t ts) → Admitted g x t
  each_first x t ts a = rw (tokens_are g x t a.0 a.3) at a.3

  pub each_rest : (x : Closed) (t : Tree) (ts : Trees) → AdmittedEach g x (Trees.more t ts) → AdmittedEach g x ts
  each_rest x t ts a = rw (each_tokens_are g x ts a.1 a.4) at a.4

  pub each_join : (x : Closed) (t : Tree) (ts : Trees) → Admitted g x t → AdmittedEach g x ts → AdmittedEach g x (Trees.more t ts)
  each_join x t ts a b = (leaves t, leaves_of ts, refl, a, b)

many-same : (op p : Op) (x y : Closed) → Closed.repeat op x ≡ Closed.repeat p y → (op ≡ p) × (x ≡ y)
many-same op p x y e = (cc, cc)

-- trees that may stand for the repeat, by whether there are none, are as many as it asks for
pub may-be : (op : Op) (ts : Trees) (empty : Bool) → ((ts ≡ Trees.none) ↔ IsTrue empty) → MayBe op empty → FitsRepeat op ts
may-be Op.star ts empty e m = tt
may-be Op.plus Trees.none true e m = absurd (cc)
may-be Op.plus Trees.none false e m = absurd (let f : IsTrue false = e.0 refl in cc)
may-be Op.plus (Trees.more t ts) empty e m = tt
may-be Op.question ts empty e m = m

-- trees that are as many as the repeat asks for may stand for it, by whether there are none
pub as-many : (op : Op) (ts : Trees) (empty : Bool) → ((ts ≡ Trees.none) ↔ IsTrue empty) → FitsRepeat op ts → MayBe op empty
as-many Op.star ts empty e m = tt
as-many Op.plus Trees.none empty e m = absurd m
as-many Op.plus (Trees.more t ts) true e m = absurd (let f : Trees.more t ts ≡ Trees.none = e.1 refl in cc)
as-many Op.plus (Trees.more t ts) false e m = refl
as-many Op.question ts empty e m = m

-- trees are seen as none exactly where there are none
pub trees-empty : (ts : List WrittenTree) → (trees (map tree_view ts) ≡ Trees.none) ↔ (length ts ≡ 0)
trees-empty [] = (λ e. refl, λ e. refl)
trees-empty (t ∷ ts) = (λ e. absurd (cc), λ e. absurd (omega arith))

call-same : (n m : Text) (xs ys : Closeds) (k l : Option ℕ) → Closed.call n xs k ≡ Closed.call m ys l → (n ≡ m) × (xs ≡ ys)
    × (k ≡ l)
call-same n m xs ys k l e = (cc, cc, cc)

module _ (g : EnabledGrammar) where
  -- a repeat admits a list of trees that its symbol admits, where they are as many as it asks for
  pub list_to : (x y : Closed) (op : Op) (ts : Trees) → inner x ≡ Closed.repeat op y → FitsRepeat op ts → AdmittedEach g y ts
      → Admitted g x (Tree.list ts)
  list_to x y op ts e m a = (op, y, e, m, a)

  -- a list that a repeat admits has trees that its symbol admits
  pub list_from : (x y : Closed) (op : Op) (ts : Trees) → inner x ≡ Closed.repeat op y → Admitted g x (Tree.list ts)
      → AdmittedEach g y ts
  list_from x y op ts e a = let same : a.1 ≡ y = (many-same a.0 op a.1 y (sym a.2 ∙ e)).1 in rw same at a.4

  -- a group admits trees that its symbols admit, one each
  pub group_to : (x : Closed) (ys : List Closed) (ts : Trees) → inner x ≡ Closed.group (closeds ys) → AdmittedAll g ys ts
      → Admitted g x (Tree.group ts)
  group_to x ys ts e a = (closeds ys, e, rw (closed_list-closeds ys) a)

  -- trees that a group admits are admitted by its symbols, one each
  pub group_from : (x : Closed) (ys : List Closed) (ts : Trees) → inner x ≡ Closed.group (closeds ys) → Admitted g x (Tree.group ts)
      → AdmittedAll g ys ts
  group_from x ys ts e a =
      let same : a.0 ≡ closeds ys = cc in
      let back : closed_list a.0 ≡ ys = ap closed_list same ∙ closed_list-closeds ys in
      rw back at a.2

  -- where an optional symbol admits a tree in an option, what it repeats admits the tree
  pub one_from : (x y : Closed) (t : Tree) → inner x ≡ Closed.repeat Op.question y → Admitted g x (Tree.opt_some t) → Admitted g y t
  one_from x y t e a = let same : a.0 ≡ y = cc in rw same at a.2

  -- a call admits a node whose children the call's right side admits
  pub node_to : (x : Closed) (n : Text) (args : List Argument) (place : ℕ) (ts : Trees) (given : Closeds) (level : Option ℕ)
      (side : List Closed)
      → inner x ≡ Closed.call n given level → args ≡ argument_list g.spelled given → IsRightSideAt g n given level place side
      → AdmittedAll g side ts → Admitted g x (Tree.rule n args place ts)
  node_to x n args place ts given level side e f i a = record {
    given = given;
    level = level;
    symbol_is = e;
    args_are = f;
    rule = i.rule;
    choice = i.choice;
    fits = i.fits;
    at = i.at;
    low = i.low;
    children = rw i.side_is at a;
  }

  module _ (x : Closed) (n : Text) (args : List Argument) (place : ℕ) (ts : Trees) where
    pub node_name : (m : Text) (given : Closeds) (level : Option ℕ) → inner x ≡ Closed.call m given level
        → Admitted g x (Tree.rule n args place ts) → m ≡ n
    node_name m given level e a = (call-same m n given a.given level a.level (sym e ∙ a.symbol_is)).0

    -- a node that a call admits has the call's arguments
    pub node_args : (m : Text) (given : Closeds) (level : Option ℕ) → inner x ≡ Closed.call m given level
        → Admitted g x (Tree.rule n args place ts) → args ≡ argument_list g.spelled given
    node_args m given level e a =
        let same : given ≡ a.given = (call-same m n given a.given level a.level (sym e ∙ a.symbol_is)).1 in rw same a.args_are

    -- a call that admits a node has a right side that admits the node's children
    pub node_side : (m : Text) (given : Closeds) (level : Option ℕ) → inner x ≡ Closed.call m given level
        → Admitted g x (Tree.rule n args place ts)
        → (side : List Closed) × IsRightSideAt g n given level place side × AdmittedAll g side ts
    node_side m given level e a =
        let same = call-same m n given a.given level a.level (sym e ∙ a.symbol_is) in
        let side : IsRightSideAt g n a.given a.level place (right_side g a.rule (bind a.rule a.given) a.choice) =
        record { rule = a.rule; choice = a.choice; fits = a.fits; at = a.at; low = a.low; side_is = refl } in
        (right_side g a.rule (bind a.rule a.given) a.choice, rw (same.1, same.2) side, a.children)

-- a call asks for the same at a place, whoever says it
pub same_side : (finds : Text → Text → Option Bool) (t : table.Rules) (n : Text) (given : Closeds) (level : Option ℕ) (place : ℕ)
    (a b : List Closed)
    → IsRightSideAt (rules_with finds t) n given level place a → IsRightSideAt (rules_with finds t) n given level place b → a ≡ b
same_side finds t n given level place a b i j =
    let one = places_apart finds t.features.now (grammar_view t.grammar.now) n given i.rule j.rule i.choice j.choice i.fits j.fits
    (i.at ∙ sym j.at) in
    i.side_is ∙ ap (λ r. right_side (rules_with finds t) r (bind r given) i.choice) one.0
    ∙ ap (λ q. right_side (rules_with finds t) j.rule (bind j.rule given) q) one.1 ∙ sym j.side_is

-- admission is: the tokens are those at the leaves, and the tree is admitted over its leaves
pub tokens_apart : (g : EnabledGrammar) (x : Closed) (t : Tree) (tokens : List Token) → Admits g x t tokens
    ↔ ((tokens ≡ leaves t) × Admitted g x t)
tokens_apart g x t tokens = (
  λ a. let same : tokens ≡ leaves t = tokens_are g x t tokens a in (same, rw same at a),
  λ p. rw p.0 p.1,
)

module _ (g : EnabledGrammar) (A : Type 0) (ts : List WrittenTree) (i : ℕ) (t : WrittenTree)
    (here : drop i ts ≡ t ∷ drop (i + 1) ts) where
  abbrev behind : Trees
  behind = trees (map tree_view (drop (i + 1) ts))

  module _ (x : Closed) (others left : List Closed) (split : left ≡ x ∷ others)
      (before : A ↔ AdmittedAll g left (trees (map tree_view (drop i ts)))) where
    all_opened : A ↔ AdmittedAll g (x ∷ others) (Trees.more (tree_view t) behind)
    all_opened = rw (split, here) at before

    -- one tree further
    pub all_on : Admitted g x (tree_view t) → A ↔ AdmittedAll g others behind
    all_on a = (
      λ p. all_rest g x others (tree_view t) behind (all_opened.0 p),
      λ q. all_opened.1 (all_join g x others (tree_view t) behind a q),
    )

    -- where the first symbol doesn't admit the first tree, the symbols don't admit the trees
    pub all_stop : (Admitted g x (tree_view t) → ⊥) → A → ⊥
    all_stop refused p = refused (all_first g x others (tree_view t) behind (all_opened.0 p))

  module _ (x : Closed) (before : A ↔ AdmittedEach g x (trees (map tree_view (drop i ts)))) where
    each_opened : A ↔ AdmittedEach g x (Trees.more (tree_view t) behind)
    each_opened = rw here at before

    -- one tree further, for the same symbol
    pub each_on : Admitted g x (tree_view t) → A ↔ AdmittedEach g x behind
    each_on a = (λ p. each_rest g x (tree_view t) behind (each_opened.0 p), λ q. each_opened.1 (each_join g x (tree_view t) behind a q))

    -- where the symbol doesn't admit the first tree, it doesn't admit each of them
    pub each_stop : (Admitted g x (tree_view t) → ⊥) → A → ⊥
    each_stop refused p = refused (each_first g x (tree_view t) behind (each_opened.0 p))
