-- Roots on a stack, by their symbols and sizes: for the test of a node's children, and for the walk past each entry.
use Rattle.std.proofs.Common.{◌≡◌, ◌↔◌, ◌∙◌, ℕ, zero, suc, ◌+◌, ◌<◌, ◌≤◌, List, [], ◌∷◌, ◌++◌, map, take, drop}
use Rattle.std.proofs.Common.{length, Some, refl, sym, ap, subst, arith, Bool, IsTrue, get_or, length-drop}
use Rattle.std.specs.Prelude.{slice_get}
use Rattle.std.specs.List.{sum_by}
use Rattle.std.proofs.lemmas.List.{drop-map, length-map, map-append, take-append-drop, take-map, take_all, take_more}
use Rattle.std.proofs.lemmas.List.Sums.{sum_by-append}
use Rattle.std.proofs.lemmas.Option.{slice_get-get_or, slice_get_within}
use Rattle.lalrpop_grammar_repr.specs.declared.production.Symbol as repr
use Rattle.lalrpop_grammar_symbols.specs.Symbols.{Text}
use Rattle.lalrpop_lr1_theory.proofs.StepLemmas.{some_same}
use Rattle.lalrpop_lr1_theory.specs.Productions.{Production, Symbol, nonterminal}
use Rattle.lalrpop_lr1_theory.specs.Spans.{SpannedForest, leaf_at, node_at, none_at, without_spans}
use Rattle.lalrpop_lr1_theory.specs.Trees.{AreOver, roots}
use Rattle.lalrpop_lr1_core.specs.Views.{production_symbol_view}
use Rattle.lalrpop_lr1_interpret.specs.ExpandedViews.{root_production}
use Rattle.lalrpop_lr1_interpret.specs.MoveOrders.{HasTreeSizes, trees_after, trees_of, with_label}
use Rattle.lalrpop_lr1_interpret.specs.TreeEntries.{tree_entry_view, tree_entry_views, tree_label_view}
use Rattle.lalrpop_lr1_interpret.specs.declared.parse.tree_entry.TreeEntry.{TreeEntry}
use Rattle.lalrpop_lr1_interpret.proofs.MoveOrderLemmas.{after_more}
use Rattle.lalrpop_judge.specs.EntryMoves.{IsKeptBeside, IsOverLast, Root, label_root, tree_roots}
use Rattle.lalrpop_judge.specs.TreeRoots.{tree_root_view, tree_root_views}
use Rattle.lalrpop_judge.specs.declared.certificates.root.TreeRoot.{TreeRoot}
use Rattle.lalrpop_judge.proofs.RootEntryLemmas.{over_before, over_more, over_not, size_behind, sizes_before}

-- the root of a tree with this production
pub root_decides : (v : SpannedForest) (p : Production) (name : Text) (r : Bool) → length (roots (without_spans v)) ≡ 1 →
    Some p ≡ root_production v → (IsTrue r ↔ (p.left ≡ name)) → IsTrue r ↔ (roots (without_spans v) ≡ nonterminal name ∷ [])
root_decides none_at p name r one e h = let z : ⊥ = cc in absurd z
root_decides (leaf_at t span ts) p name r one e h = let z : ⊥ = cc in absurd z
root_decides (node_at q cs (leaf_at t span ts)) p name r one e h = absurd (omega (arith, one))
root_decides (node_at q cs (node_at s ds ts)) p name r one e h = absurd (omega (arith, one))
root_decides (node_at q cs none_at) p name r one e h =
    let same : p ≡ q = cc in (
      λ t. ap (λ x. nonterminal x ∷ []) (ap (λ x. x.left) (sym same) ∙ h.0 t),
      λ k. h.1 (ap (λ x. x.left) same ∙ (let l : q.left ≡ name = cc in l)),
    )

-- symbols that are the same place by place
pub symbols_more : (xs ys : List Symbol) (i : ℕ) (s : Symbol) → slice_get xs i ≡ Some s → slice_get ys i ≡ Some s →
    take i xs ≡ take i ys → take (i + 1) xs ≡ take (i + 1) ys
symbols_more xs ys i s a b e =
    take_on xs i s a ∙ ap (λ l. l ++ s ∷ []) e ∙ sym (take_on ys i s b)
  where
    take_on : (zs : List Symbol) (k : ℕ) (m : Symbol) → slice_get zs k ≡ Some m → take (k + 1) zs ≡ take k zs ++ m ∷ []
    take_on zs k m f =
        let h = slice_get_within zs k m f in
        take_more zs k m h
        ∙ ap (λ x. take k zs ++ x ∷ []) (some_same (get_or zs k m) m (sym (slice_get-get_or zs k m h) ∙ f))

-- symbols that aren't
pub symbols_not : (xs ys : List Symbol) (i : ℕ) (s u : Symbol) → slice_get xs i ≡ Some s → slice_get ys i ≡ Some u → (s ≡ u → ⊥) →
    xs ≡ ys → ⊥
symbols_not xs ys i s u a b ne e = ne (some_same s u (sym a ∙ ap (λ l. slice_get l i) e ∙ b))

-- the symbol that a list of symbols is seen to have at a place
pub seen_at : (side : List repr.Symbol) (i : ℕ) (x : repr.Symbol) → i < length side → x ≡ get_or side i x →
    slice_get (map production_symbol_view side) i ≡ Some (production_symbol_view x)
seen_at [] i x h e = absurd (omega arith)
seen_at (y ∷ side) zero x h e = ap (λ z. Some (production_symbol_view z)) (sym e)
seen_at (y ∷ side) (suc i) x h e = seen_at side i x (omega arith) e

-- and that roots have
pub root_at : (rs : List TreeRoot) (i : ℕ) (r : TreeRoot) → i < length rs → r ≡ get_or rs i r →
    slice_get (map (λ (x : Root). x.symbol) (tree_root_views rs)) i ≡ Some (tree_root_view r).symbol
root_at [] i r h e = absurd (omega arith)
root_at (x ∷ rs) zero r h e = ap (λ z. Some (tree_root_view z).symbol) (sym e)
root_at (x ∷ rs) (suc i) r h e = root_at rs i r (omega arith) e

pub symbols_all : (rs : List TreeRoot) (side : List repr.Symbol) (i : ℕ) → length rs ≡ length side → length side ≤ i →
    take i (map (λ (x : Root). x.symbol) (tree_root_views rs)) ≡ take i (map production_symbol_view side) →
    map (λ (x : Root). x.symbol) (tree_root_views rs) ≡ map production_symbol_view side
symbols_all rs side i e h same =
    let xs = map (λ (x : Root). x.symbol) (tree_root_views rs) in
    let ys = map production_symbol_view side in
    sym (take_all i xs (omega (arith, length-map (tree_root_views rs) (λ (x : Root). x.symbol), length-map rs tree_root_view, e, h)))
    ∙ same ∙ take_all i ys (omega (arith, length-map side production_symbol_view, h))

pub symbols_long : (rs : List TreeRoot) (side : List repr.Symbol) →
    map (λ (x : Root). x.symbol) (tree_root_views rs) ≡ map production_symbol_view side → length rs ≡ length side
symbols_long rs side e =
    omega (
      arith,
      ap length e,
      length-map (tree_root_views rs) (λ (x : Root). x.symbol),
      length-map rs tree_root_view,
      length-map side production_symbol_view,
    )

-- the sizes of roots together
abbrev pub sizes : List TreeRoot → ℕ
sizes rs = sum_by (λ (x : Root). x.size) (tree_root_views rs)

sizes_parts : (rs others : List TreeRoot) → sizes (rs ++ others) ≡ sizes rs + sizes others
sizes_parts rs others =
    ap (sum_by (λ (x : Root). x.size)) (map-append tree_root_view rs others)
    ∙ sum_by-append (λ (x : Root). x.size) (tree_root_views rs) (tree_root_views others)

-- one root more
pub sizes_more : (rs : List TreeRoot) (i : ℕ) (r : TreeRoot) → i < length rs → r ≡ get_or rs i r →
    sizes (take (i + 1) rs) ≡ sizes (take i rs) + (tree_root_view r).size
sizes_more rs i r h e =
    let parts = ap sizes (take_more rs i r h ∙ ap (λ x. take i rs ++ x ∷ []) (sym e)) in
    omega (arith, parts, sizes_parts (take i rs) (r ∷ []))

-- the first of them have no more than all
pub sizes_first : (rs : List TreeRoot) (i : ℕ) → sizes (take i rs) ≤ sizes rs
sizes_first rs i =
    omega (arith, ap sizes (take-append-drop i rs), sizes_parts (take i rs) (drop i rs))

pub sizes_all : (rs : List TreeRoot) (i : ℕ) → length rs ≤ i → sizes (take i rs) ≡ sizes rs
sizes_all rs i h = ap sizes (take_all i rs h)

module _ (G : Production → Type 0) (p : Production) (size : ℕ) where
  -- children are as many as the right side has symbols
  last_many : (rs : List Root) (kept : ℕ) → IsOverLast G rs p size kept → kept + length p.right ≡ length rs
  last_many rs kept h =
      omega (
        arith,
        h.within,
        ap length h.symbols,
        length-map (drop kept rs) (λ (x : Root). x.symbol),
        length-drop kept rs,
      )

  -- too few roots
  pub last_few : (rs : List TreeRoot) (kept : ℕ) → length rs < length p.right → IsOverLast G (tree_root_views rs) p size kept → ⊥
  last_few rs kept h k = omega (arith, h, last_many (tree_root_views rs) kept k, length-map rs tree_root_view)

  -- so there is one place where they begin
  last_place : (rs : List TreeRoot) (at kept : ℕ) → at + length p.right ≡ length rs → IsOverLast G (tree_root_views rs) p size kept →
      kept ≡ at
  last_place rs at kept h k = omega (arith, h, last_many (tree_root_views rs) kept k, length-map rs tree_root_view)

  -- roots from there on with other symbols, or with another size
  pub last_not_symbols : (rs children : List TreeRoot) (at kept : ℕ) → at + length p.right ≡ length rs → children ≡ drop at rs →
      (map (λ (x : Root). x.symbol) (tree_root_views children) ≡ p.right → ⊥) → IsOverLast G (tree_root_views rs) p size kept → ⊥
  last_not_symbols rs children at kept h c ne k =
      ne
      (ap (λ l. map (λ (x : Root). x.symbol) (tree_root_views l)) c
      ∙ ap (map (λ (x : Root). x.symbol)) (sym (drop-map tree_root_view at rs))
      ∙ ap (λ n. map (λ (x : Root). x.symbol) (drop n (tree_root_views rs))) (sym (last_place rs at kept h k)) ∙ k.symbols)

  pub last_not_size : (rs children : List TreeRoot) (at kept : ℕ) → at + length p.right ≡ length rs → children ≡ drop at rs →
      (size ≡ suc (sizes children) → ⊥) → IsOverLast G (tree_root_views rs) p size kept → ⊥
  last_not_size rs children at kept h c ne k =
      ne
      (k.size_is ∙ ap (λ n. suc (sum_by (λ (x : Root). x.size) (drop n (tree_root_views rs)))) (last_place rs at kept h k)
      ∙ ap (λ l. suc (sum_by (λ (x : Root). x.size) l)) (drop-map tree_root_view at rs) ∙ ap (λ l. suc (sizes l)) (sym c))

  -- they are the children
  pub last_is : (rs children : List TreeRoot) (at : ℕ) → at + length p.right ≡ length rs → children ≡ drop at rs → G p →
      map (λ (x : Root). x.symbol) (tree_root_views children) ≡ p.right → size ≡ suc (sizes children) →
      IsOverLast G (tree_root_views rs) p size at
  last_is rs children at h c is s n = record {
    is = is;
    within = omega (arith, h, length-map rs tree_root_view);
    symbols = ap (map (λ (x : Root). x.symbol)) (drop-map tree_root_view at rs)
        ∙ ap (λ l. map (λ (x : Root). x.symbol) (tree_root_views l)) (sym c) ∙ s;
    size_is = n ∙ ap (λ l. suc (sizes l)) c ∙ ap (λ l. suc (sum_by (λ (x : Root). x.size) l)) (sym (drop-map tree_root_view at rs));
  }

module _ (G : Production → Type 0) (es : List TreeEntry) where
  -- the trees of the first entries are over the grammar, and these are their roots
  pub record IsPast (i : ℕ) (rs : List TreeRoot) : Type 0 where
    pub roots_are : tree_root_views rs ≡ tree_roots (trees_of (tree_entry_views (take i es)))
    pub over : AreOver G (without_spans (trees_of (tree_entry_views (take i es))))

  pub past_none : IsPast 0 []
  past_none = record { roots_are = refl; over = tt }

  views_on : (i : ℕ) (e : TreeEntry) → i < length es → e ≡ get_or es i e →
      tree_entry_views (take (i + 1) es) ≡ tree_entry_views (take i es) ++ tree_entry_view e ∷ []
  views_on i e h read =
      ap tree_entry_views (take_more es i e h ∙ ap (λ x. take i es ++ x ∷ []) (sym read))
      ∙ map-append tree_entry_view (take i es) (e ∷ [])

  sizes_on : (i : ℕ) (e : TreeEntry) → i < length es → e ≡ get_or es i e → HasTreeSizes (tree_entry_views es) →
      HasTreeSizes (tree_entry_views (take i es) ++ tree_entry_view e ∷ [])
  sizes_on i e h read k =
      let parts = ap tree_entry_views (take-append-drop (i + 1) es) in
      subst HasTreeSizes (views_on i e h read)
      (sizes_before (tree_entry_views (take (i + 1) es)) (tree_entry_views (drop (i + 1) es))
      (subst HasTreeSizes (sym parts ∙ map-append tree_entry_view (take (i + 1) es) (drop (i + 1) es)) k))

  trees_on : (i : ℕ) (e : TreeEntry) → i < length es → e ≡ get_or es i e → trees_of (tree_entry_views (take (i + 1) es))
      ≡ with_label (trees_of (tree_entry_views (take i es))) (tree_label_view e.label) e.size
  trees_on i e h read =
      ap trees_of (views_on i e h read) ∙ after_more none_at (tree_entry_views (take i es)) (tree_entry_view e ∷ [])

  -- past one entry more
  pub past_more : (i kept : ℕ) (e : TreeEntry) (rs cut more : List TreeRoot) (r : TreeRoot) → i < length es → e ≡ get_or es i e →
      tree_root_view r ≡ label_root (tree_label_view e.label) e.size →
      IsKeptBeside G (tree_root_views rs) (tree_label_view e.label) e.size kept → cut ≡ take kept rs → more ≡ cut ++ r ∷ [] →
      IsPast i rs → IsPast (i + 1) more
  past_more i kept e rs cut more r h read own stays c m past =
      let ts = trees_of (tree_entry_views (take i es)) in
      let l = tree_label_view e.label in
      let next = over_more G ts l e.size kept (subst (λ x. IsKeptBeside G x l e.size kept) past.roots_are stays) past.over in
      record {
        roots_are = ap tree_root_views m ∙ map-append tree_root_view cut (r ∷ [])
            ∙ ap (λ x. tree_root_views x ++ tree_root_view r ∷ []) c
            ∙ ap (λ x. x ++ tree_root_view r ∷ []) (sym (take-map tree_root_view kept rs) ∙ ap (take kept) past.roots_are)
            ∙ ap (λ x. take kept (tree_roots ts) ++ x ∷ []) own
            ∙ sym next.roots_are ∙ ap tree_roots (sym (trees_on i e h read));
        over = subst (λ f. AreOver G (without_spans f)) (sym (trees_on i e h read)) next.over;
      }

  -- an entry that isn't over the grammar, so the trees aren't
  pub past_not : (i : ℕ) (e : TreeEntry) (rs : List TreeRoot) → i < length es → e ≡ get_or es i e → HasTreeSizes (tree_entry_views es) →
      ((kept : ℕ) → IsKeptBeside G (tree_root_views rs) (tree_label_view e.label) e.size kept → ⊥) → IsPast i rs →
      AreOver G (without_spans (trees_of (tree_entry_views es))) → ⊥
  past_not i e rs h read k ne past over =
      let ts = trees_of (tree_entry_views (take i es)) in
      let l = tree_label_view e.label in
      let size = size_behind (tree_entry_views (take i es)) (tree_entry_view e) (sizes_on i e h read k) in
      let behind = tree_entry_views (drop (i + 1) es) in
      let whole : trees_of (tree_entry_views es) ≡ trees_after (trees_of (tree_entry_views (take (i + 1) es))) behind =
      ap (λ x. trees_of (tree_entry_views x)) (sym (take-append-drop (i + 1) es))
      ∙ ap trees_of (map-append tree_entry_view (take (i + 1) es) (drop (i + 1) es))
      ∙ after_more none_at (tree_entry_views (take (i + 1) es)) behind in
      over_not G ts l e.size size (λ kept b. ne kept (subst (λ x. IsKeptBeside G x l e.size kept) (sym past.roots_are) b))
      (subst (λ f. AreOver G (without_spans f)) (trees_on i e h read)
      (over_before G (trees_of (tree_entry_views (take (i + 1) es))) behind (subst (λ f. AreOver G (without_spans f)) whole over)))

  -- past all
  pub past_all : (i : ℕ) (rs : List TreeRoot) → length es ≤ i → IsPast i rs → AreOver G (without_spans (trees_of (tree_entry_views es)))
  past_all i rs h past = subst (λ l. AreOver G (without_spans (trees_of (tree_entry_views l)))) (take_all i es h) past.over
