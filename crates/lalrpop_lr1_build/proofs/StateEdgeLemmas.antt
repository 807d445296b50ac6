-- One edge after another, and what is then true of all of a state: for its edges.
use Rattle.std.proofs.Common.{◌≡◌, ◌∙◌, ◌⊎◌, ◌+◌, ◌<◌, ◌≤◌, ℕ, zero, suc, List, [], ◌∷◌}
use Rattle.std.proofs.Common.{◌++◌, length, Some, Contains, slice_get}
use Rattle.std.proofs.Common.{sym, ap, subst, arith, inl, inr, ⊎_elim, append-nil, append_assoc}
use Rattle.std.proofs.lemmas.Bool.{cases_lt}
use Rattle.std.proofs.lemmas.List.{length-append}
use Rattle.std.proofs.lemmas.List.Elements.{Contains-append_cases, Contains-append_left, Contains-append_right}
use Rattle.std.proofs.lemmas.Option.{slice_get_within}
use Rattle.lalrpop_lr1_theory.proofs.ListLemmas.{contains_here, contains_split, get_front, get_split, get_last}
use Rattle.lalrpop_lr1_theory.proofs.StepLemmas.{some_same}
use Rattle.lalrpop_sets.specs.AscendingLists.{AscendsFrom}
use Rattle.lalrpop_lr1_build.specs.Edges.{AddsEdge, AddsKernel, AreDistinctKernels, EdgesLead}
use Rattle.lalrpop_lr1_build.specs.Kernels.{places_of}
use Rattle.lalrpop_lr1_build.specs.declared.states.kernel.StateKernel.{StateKernel}
use Rattle.lalrpop_lr1_theory.proofs.NameLemmas.{no_element}

-- what stands in a list with one more at its end stands in front, or is the last
pub get_parts : {X : Type 0} (xs : List X) (x : X) (k : ℕ) (y : X) → slice_get (xs ++ x ∷ []) k ≡ Some y →
    (slice_get xs k ≡ Some y) ⊎ ((k ≡ length xs) × (x ≡ y))
get_parts {X} xs x k y e = ⊎_elim (λ h. inl h) (λ h. inr (last h.0 h.1 h.2)) (get_split xs (x ∷ []) k y e)
  where
    last : (j : ℕ) → k ≡ length xs + j → slice_get (x ∷ []) j ≡ Some y → (k ≡ length xs) × (x ≡ y)
    last zero f g = (omega (arith, f), some_same x y g)
    last (suc j) f g = let z : ⊥ = cc in absurd z

-- an edge in a list with one put behind is one of the list or that one
pub edge_parts : (edges : List (ℕ × ℕ)) (t n s m : ℕ) → Contains (edges ++ (t, n) ∷ []) (s, m) →
    Contains edges (s, m) ⊎ ((t ≡ s) × (n ≡ m))
edge_parts edges t n s m c = ⊎_elim
    (λ d. inl d)
    (λ d. ⊎_elim
    (λ e. inr (ap (λ (x : ℕ × ℕ). x.0) e, ap (λ (x : ℕ × ℕ). x.1) e))
    (λ e. absurd (no_element (s, m) e)) (contains_split (t, n) (s, m) [] d))
    (Contains-append_cases edges ((t, n) ∷ []) (s, m) c)

-- a list of edges with one put behind has that edge
pub edge_last : (edges : List (ℕ × ℕ)) (t n : ℕ) → Contains (edges ++ (t, n) ∷ []) (t, n)
edge_last edges t n = Contains-append_right edges ((t, n) ∷ []) (t, n) (contains_here (t, n) [])

ascends_push : (edges : List (ℕ × ℕ)) (a t n : ℕ) → AscendsFrom a (places_of edges) →
    ((s m : ℕ) → Contains edges (s, m) → s < t) → a ≤ t → AscendsFrom a (places_of (edges ++ (t, n) ∷ []))
ascends_push [] a t n h below l = (l, tt)
ascends_push (e ∷ edges) a t n h below l = (
  h.0,
  ascends_push edges (suc e.0) t n h.1 (λ s m c. below s m (Contains-append_right (e ∷ []) edges (s, m) c))
      (omega (arith, below e.0 e.1 (contains_here e edges))),
)

module _ {L : Type 0} where
  pub edges_none : (old : List (StateKernel L)) → EdgesLead old [] old []
  edges_none old = record {
    grows = ([], sym (append-nil old));
    ascending = tt;
    leads = λ s m c. absurd (no_element (s, m) c);
    all = λ s group e some. let z : ⊥ = cc in absurd z;
    fresh = λ j l h. absurd (omega arith);
    seen = λ j s k l h c. absurd (no_element (s, k) c);
    distinct = λ h. h;
  }

  -- where a kernel was added, or not, those before stand where they stood
  kept_at : (group : StateKernel L) (target : ℕ) (mid new : List (StateKernel L)) → (new ≡ mid)
      ⊎ AddsKernel group target mid new → (m : ℕ) (k : StateKernel L) →
      slice_get mid m ≡ Some k → slice_get new m ≡ Some k
  kept_at group target mid new (inl e) m k h = subst (λ ks. slice_get ks m ≡ Some k) (sym e) h
  kept_at group target mid new (inr a) m k h =
      subst (λ ks. slice_get ks m ≡ Some k) (sym a.more) (get_front mid (group ∷ []) m k h)

  grown : (group : StateKernel L) (target : ℕ) (old mid new : List (StateKernel L)) → (new ≡ mid)
      ⊎ AddsKernel group target mid new →
      (more : List (StateKernel L)) × (mid ≡ old ++ more) → (more : List (StateKernel L)) × (new ≡ old ++ more)
  grown group target old mid new (inl e) g = (g.0, e ∙ g.1)
  grown group target old mid new (inr a) g =
      (g.0 ++ group ∷ [], a.more ∙ ap (λ ks. ks ++ group ∷ []) g.1 ∙ append_assoc old g.0 (group ∷ []))

  distinct_more : (group : StateKernel L) (target : ℕ) (mid new : List (StateKernel L)) → (new ≡ mid)
      ⊎ AddsKernel group target mid new →
      AreDistinctKernels mid → AreDistinctKernels new
  distinct_more group target mid new (inl e) d = subst AreDistinctKernels (sym e) d
  distinct_more group target mid new (inr a) d = subst AreDistinctKernels (sym a.more) (λ n m k at_n at_m.
      ⊎_elim
      (λ g. ⊎_elim (λ h. d n m k g h)
      (λ h. absurd (a.unseen n (g ∙ ap Some (sym h.1)))) (get_parts mid group m k at_m))
      (λ g. ⊎_elim (λ h. absurd (a.unseen m (h ∙ ap Some (sym g.1))))
      (λ h. g.0 ∙ sym h.0) (get_parts mid group m k at_m))
      (get_parts mid group n k at_n))

  -- the target of an edge is one of the kernels before, or the next
  target_within : (group : StateKernel L) (target : ℕ) (mid new : List (StateKernel L)) → (new ≡ mid)
      ⊎ AddsKernel group target mid new →
      slice_get new target ≡ Some group → target ≤ length mid
  target_within group target mid new (inl e) at =
      let l = slice_get_within mid target group (subst (λ ks. slice_get ks target ≡ Some group) e at) in omega (arith, l)
  target_within group target mid new (inr a) at = omega (arith, a.last)

  new_within : (group : StateKernel L) (target : ℕ) (mid new : List (StateKernel L)) → (new ≡ mid)
      ⊎ AddsKernel group target mid new → (j : ℕ) →
      j < length new → (j < length mid) ⊎ (j ≡ target)
  new_within group target mid new (inl e) j h = inl (subst (λ ks. j < length ks) e h)
  new_within group target mid new (inr a) j h = ⊎_elim (λ l. inl l)
      (λ l. inr (let long : length new ≡ length mid + 1 = ap length a.more ∙ length-append mid (group ∷ []) in
      omega (arith, l, long, h, a.last))) (cases_lt j (length mid))

  pub edges_more : (old groups mid new : List (StateKernel L)) (group : StateKernel L) (edges new_edges : List (ℕ
      × ℕ)) (t : ℕ) → t ≡ length groups →
      EdgesLead old groups mid edges → AddsEdge t group mid edges new new_edges →
      EdgesLead old (groups ++ group ∷ []) new new_edges
  edges_more old groups mid new group edges new_edges t count e (inl n) =
      subst (λ ks. EdgesLead old (groups ++ group ∷ []) ks new_edges) (sym n.kernels)
      (subst (λ es. EdgesLead old (groups ++ group ∷ []) mid es) (sym n.edges) (record {
        grows = e.grows;
        ascending = e.ascending;
        leads = λ s m c. let r = e.leads s m c in (r.0, get_front groups (group ∷ []) s r.0 r.1, r.2, r.3);
        all = λ s g at some. ⊎_elim (λ h. e.all s g h some)
            (λ h. absurd (some (ap (λ (x : StateKernel L). x.items) (sym h.1) ∙ n.none))) (get_parts groups group s g at);
        fresh = e.fresh;
        seen = e.seen;
        distinct = e.distinct;
      }))
  edges_more old groups mid new group edges new_edges t count e (inr o) =
      let below : (s m : ℕ) → Contains edges (s, m) → s < t =
      λ s m c. let r = e.leads s m c in omega (arith, count, slice_get_within groups s r.0 r.1) in
      subst (λ es. EdgesLead old (groups ++ group ∷ []) new es) (sym o.edges) (record {
        grows = grown group o.target old mid new o.kernels e.grows;
        ascending = ascends_push edges 0 t o.target e.ascending below (omega arith);
        leads = λ s m c. ⊎_elim
            (λ d. let r = e.leads s m d in
            (r.0, get_front groups (group ∷ []) s r.0 r.1, r.2, kept_at group o.target mid new o.kernels m r.0 r.3))
            (λ d. (
              group,
              subst (λ k. slice_get (groups ++ group ∷ []) k ≡ Some group) (sym count ∙ d.0) (get_last groups group),
              o.some,
              subst (λ k. slice_get new k ≡ Some group) d.1 o.at,
            ))
            (edge_parts edges t o.target s m c);
        all = λ s g at some. ⊎_elim
            (λ h. let r = e.all s g h some in (r.0, Contains-append_left edges ((t, o.target) ∷ []) (s, r.0) r.1))
            (λ h. (
              o.target,
              subst (λ k. Contains {X = ℕ × ℕ} (edges ++ (t, o.target) ∷ []) (k, o.target)) (count ∙ sym h.0)
                  (edge_last edges t o.target),
            )) (get_parts groups group s g at);
        fresh = λ j l h. ⊎_elim
            (λ k. let r = e.fresh j l k in (r.0, Contains-append_left edges ((t, o.target) ∷ []) (r.0, j) r.1))
            (λ k. (t, subst (λ m. Contains {X = ℕ × ℕ} (edges ++ (t, o.target) ∷ []) (t, m)) (sym k) (edge_last edges t o.target)))
            (new_within group o.target mid new o.kernels j h);
        seen = λ j s k l h c. ⊎_elim
            (λ d. let r = e.seen j s k l h d in
            (r.0, r.1, Contains-append_left edges ((t, o.target) ∷ []) (r.0, j) r.2))
            (λ d. let within = target_within group o.target mid new o.kernels o.at in
            let r = e.fresh j l (omega (arith, within, d.1, h)) in
            (r.0, omega (arith, below r.0 j r.1, d.0), Contains-append_left edges ((t, o.target) ∷ []) (r.0, j) r.1))
            (edge_parts edges t o.target s k c);
        distinct = λ d. distinct_more group o.target mid new o.kernels (e.distinct d);
      })
