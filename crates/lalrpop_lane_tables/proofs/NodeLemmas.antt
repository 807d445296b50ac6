-- Nodes that are visited: those that compare as equal are seen as one, and one comes where none that is equal was.
use Rattle.std.proofs.Common.{◌≡◌, ◌∙◌, ◌≤◌, ◌||◌, ℕ, zero, suc, Bool, true, false, List, [], ◌∷◌, ◌++◌, map, refl, sym, ap, subst}
use Rattle.std.proofs.Common.{inl, inr, ⊎_elim, arith, length, Contains, None, Some, slice_get, nat_eq}
use Rattle.std.specs.Bool.{Decides}
use Rattle.std.specs.Cmp.Derive.{both_true}
use Rattle.std.specs.List.{list_any}
use Rattle.std.specs.Prelude.{if◌then◌else◌}
use Rattle.std.proofs.lemmas.Bool.Decides.{Decides-eqb}
use Rattle.std.proofs.lemmas.List.Elements.{Contains-append_cases, Contains-append_left, Contains-append_right}
use Rattle.lalrpop_grammar_symbols.specs.declared.names.NonterminalString.{NonterminalString}
use Rattle.lalrpop_grammar_repr.specs.declared.production.Production.{Production}
use Rattle.lalrpop_grammar_repr.specs.contracts.production.ProductionPartialEq.TheImpl as productions
use Rattle.lalrpop_grammar_repr.proofs.EqualLemmas.{both_parts, same_names, same_productions}
use Rattle.lalrpop_lr1_theory.proofs.ListLemmas.{contains_here, contains_later, contains_split, get_front}
use Rattle.lalrpop_lr1_theory.proofs.NameLemmas.{no_element}
use Rattle.lalrpop_lr1_theory.proofs.StepLemmas.{some_same}
use Rattle.lalrpop_lr1_core.proofs.ProductionViewLemmas.{same_production}
use Rattle.lalrpop_lr1_core.specs.Views.{production_view}
use Rattle.lalrpop_lane_tables.specs.NodeKeys.{node_key}
use Rattle.lalrpop_lane_tables.specs.TraceNodes.{ExtendsNodes, TraceNode, front_node, moved_node}
use Rattle.lalrpop_lane_tables.specs.contracts.lane_tracer.NodePartialEq.TheImpl as nodes
use Rattle.lalrpop_lane_tables.specs.declared.lane_tracer.Node.{Node}
use Rattle.lalrpop_lane_tables.specs.declared.lane_tracer.Node.TheVariants.{Moved, Front}

abbrev name_with : List ℕ → NonterminalString
name_with t = record { 0 = t }

-- nodes that compare as equal are seen as one
pub same_nodes : (a b : Node) → Decides ((nodes.ghosts).eq a b) (node_key a ≡ node_key b)
same_nodes (Moved m p i) (Moved n q j) = (
  λ e.
      let x = both_parts (nat_eq m n) _ e in
      let y = both_parts ((productions.ghosts).eq p.0.now q.0.now) (nat_eq i j) x.1 in
      ap (λ k. moved_node k (production_view p.0.now) i) ((Decides-eqb m n).0 x.0)
      ∙ ap (λ (r : Production). moved_node n (production_view r) i) ((same_productions p.0.now q.0.now).0 y.0)
      ∙ ap (moved_node n (production_view q.0.now)) ((Decides-eqb i j).0 y.1),
  λ e.
      let x : m ≡ n = cc in
      let v : production_view p.0.now ≡ production_view q.0.now = cc in
      let y : i ≡ j = cc in
      both_true ((Decides-eqb m n).1 x) (both_true ((same_productions p.0.now q.0.now).1 (same_production p.0.now q.0.now v)) ((Decides-eqb i j).1 y)),
)
same_nodes (Moved m p i) (Front n B) = (λ e. let w : ⊥ = cc in absurd w, λ e. let w : ⊥ = cc in absurd w)
same_nodes (Front m A) (Moved n q j) = (λ e. let w : ⊥ = cc in absurd w, λ e. let w : ⊥ = cc in absurd w)
same_nodes (Front m A) (Front n B) = (
  λ e.
      let x = both_parts (nat_eq m n) _ e in
      ap (λ k. front_node k A.now.0) ((Decides-eqb m n).0 x.0)
      ∙ ap (λ (r : NonterminalString). front_node n r.0) ((same_names A.now B.now).0 x.1),
  λ e.
      let x : m ≡ n = cc in
      let v : A.now.0 ≡ B.now.0 = cc in
      both_true ((Decides-eqb m n).1 x) ((same_names A.now B.now).1 (ap name_with v)),
)

-- a node that compares as equal to one of a list is seen in it, and the other way round
any_seen : (ks : List Node) (k : Node) → list_any ((nodes.ghosts).eq k) ks ≡ true → Contains (map node_key ks) (node_key k)
any_seen [] k e = let z : ⊥ = cc in absurd z
any_seen (y ∷ ks) k e = go ((nodes.ghosts).eq k y) refl e (any_seen ks k)
  where
    go : (b : Bool) → (nodes.ghosts).eq k y ≡ b → (b || list_any ((nodes.ghosts).eq k) ks) ≡ true →
        (list_any ((nodes.ghosts).eq k) ks ≡ true → Contains (map node_key ks) (node_key k)) →
        Contains (node_key y ∷ map node_key ks) (node_key k)
    go true h g rec = subst (Contains (node_key y ∷ map node_key ks)) (sym ((same_nodes k y).0 h)) (contains_here (node_key y) (map node_key ks))
    go false h g rec = contains_later (node_key y) (node_key k) (map node_key ks) (rec g)

map_one : (ks : List Node) (k : Node) → map node_key (ks ++ k ∷ []) ≡ map node_key ks ++ node_key k ∷ []
map_one [] k = refl
map_one (y ∷ ks) k = ap (λ l. node_key y ∷ l) (map_one ks k)

-- one is visited, where none that is equal was
pub visit_extends : (ks ys : List Node) (k : Node) → ys ≡ (if list_any ((nodes.ghosts).eq k) ks then ks else ks ++ k ∷ []) →
    ExtendsNodes (map node_key ks) (map node_key ys) (λ n. n ≡ node_key k)
visit_extends ks ys k e = go (list_any ((nodes.ghosts).eq k) ks) refl e
  where
    go : (b : Bool) → list_any ((nodes.ghosts).eq k) ks ≡ b → ys ≡ (if b then ks else ks ++ k ∷ []) →
        ExtendsNodes (map node_key ks) (map node_key ys) (λ n. n ≡ node_key k)
    go true h g = subst (λ l. ExtendsNodes (map node_key ks) (map node_key l) (λ n. n ≡ node_key k)) (sym g) (record {
      kept = λ j n at. at;
      nodes = λ n. (λ c. inl c, λ c. ⊎_elim (λ d. d) (λ z. subst (Contains (map node_key ks)) (sym z) (any_seen ks k h)) c);
    })
    go false h g = subst (λ l. ExtendsNodes (map node_key ks) l (λ n. n ≡ node_key k)) (sym (ap (map node_key) g ∙ map_one ks k)) (record {
      kept = λ j n at. get_front (map node_key ks) (node_key k ∷ []) j n at;
      nodes = λ n. (
        λ c. ⊎_elim
            (λ d. inl d)
            (λ d. ⊎_elim (λ z. inr (sym z)) (λ z. absurd (no_element n z)) (contains_split (node_key k) n [] d))
            (Contains-append_cases (map node_key ks) (node_key k ∷ []) n c),
        λ c. ⊎_elim
            (λ d. Contains-append_left (map node_key ks) (node_key k ∷ []) n d)
            (λ z. Contains-append_right (map node_key ks) (node_key k ∷ []) n (subst (Contains (node_key k ∷ [])) (sym z) (contains_here (node_key k) []))) c,
      );
    })

-- visited nodes by their places: the one that stands there, and how many there are
pub key_at : (ks : List Node) (number : ℕ) (node : Node) → slice_get ks number ≡ Some node →
    slice_get (map node_key ks) number ≡ Some (node_key node)
key_at [] number node e = let w : ⊥ = cc in absurd w
key_at (k ∷ ks) zero node e = ap (λ n. Some (node_key n)) (some_same k node e)
key_at (k ∷ ks) (suc number) node e = key_at ks number node e

pub none_more : (ks : List Node) (number : ℕ) → slice_get ks number ≡ None → length (map node_key ks) ≤ number
none_more [] number e = omega arith
none_more (k ∷ ks) zero e = let w : ⊥ = cc in absurd w
none_more (k ∷ ks) (suc number) e = let h = none_more ks number e in omega (arith, h)

-- the node that was visited first, where none was before
pub first_visited : (ks : List Node) (visited : List TraceNode) (first node : TraceNode) → ks ≡ [] → first ≡ node →
    ExtendsNodes (map node_key ks) visited (λ k. k ≡ first) → ExtendsNodes [] visited (λ k. k ≡ node)
first_visited ks visited first node none same ext =
    subst (λ (l : List TraceNode). ExtendsNodes l visited (λ k. k ≡ node)) (ap (map node_key) none)
    (subst (λ (n : TraceNode). ExtendsNodes (map node_key ks) visited (λ k. k ≡ n)) same ext)
