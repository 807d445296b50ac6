-- Sets of states under epsilon edges. For the functions that walk an automaton by sets of its states.
use Rattle.std.proofs.Common.{◌≡◌, ℕ, ◌+◌, ◌<◌, ◌≤◌, ◌⊎◌, List, [], ◌∷◌, ◌++◌, length, get_or, map}
use Rattle.std.proofs.Common.{Contains, All, inl, inr, ⊎_elim, sym, ap, ◌∙◌, subst, arith, eqb, eq-eqb, append-nil, append_assoc}
use Rattle.std.specs.Prelude.{filter}
use Rattle.std.proofs.lemmas.Bool.{eqb-true, cases_lt}
use Rattle.std.proofs.lemmas.List.{get_or_append_left, get_or_default}
use Rattle.std.proofs.lemmas.List.Elements.{Contains-push, Contains-push_cases, Contains-append_left, Contains-get_or, All-push}
use Rattle.std.proofs.lemmas.List.Elements.{All-contains}
use Rattle.lalrpop_lexer_nfa.specs.declared.edge.Edge.{Edge}
use Rattle.lalrpop_lexer_nfa.specs.declared.edge.Noop.{Noop}
use Rattle.lalrpop_lexer_nfa.specs.Paths.{Graph, EpsilonEdge, HasEpsilonEdge, epsilon_edge_view}
use Rattle.lalrpop_lexer_nfa.specs.Sets.{Inserts, EpsilonReaches, IsEpsilonClosure, HasEpsilonTargets}
use Rattle.lalrpop_lexer_nfa.proofs.ListLemmas.{Contains-nil, Contains-head, Contains-tail, Contains-cons_cases, Contains-map}
use Rattle.lalrpop_lexer_nfa.proofs.ListLemmas.{Contains-from_map, Contains-filter, Contains-from_filter}

-- one more member
pub Inserts-old : (old new : List ℕ) (x y : ℕ) → Inserts old x new → Contains old y → Contains new y
Inserts-old old new x y (inl h) k = rw h.1 k
Inserts-old old new x y (inr h) k = rw h.1 (Contains-append_left old (x ∷ []) y k)

-- what is inserted is a member
pub Inserts-new : (old new : List ℕ) (x : ℕ) → Inserts old x new → Contains new x
Inserts-new old new x (inl h) = rw h.1 h.0
Inserts-new old new x (inr h) = rw h.1 (Contains-push old x)

-- a member was one before, or is the one inserted
pub Inserts-cases : (old new : List ℕ) (x y : ℕ) → Inserts old x new → Contains new y → Contains old y ⊎ (x ≡ y)
Inserts-cases old new x y (inl h) k = inl (rw h.1 at k)
Inserts-cases old new x y (inr h) k = Contains-push_cases old x y (rw h.1 at k)

pub Inserts-after : (first old new : List ℕ) (x : ℕ) → Inserts old x new → (more : List ℕ) × (old ≡ first ++ more)
    → (more : List ℕ) × (new ≡ first ++ more)
Inserts-after first old new x (inl h) k = (k.0, h.1 ∙ k.1)
Inserts-after first old new x (inr h) k = (k.0 ++ x ∷ [], h.1 ∙ ap (λ xs. xs ++ x ∷ []) k.1 ∙ append_assoc first k.0 (x ∷ []))

-- what holds of the members and of the one inserted holds of all members after that
pub Inserts-all : (P : ℕ → Type 0) (old new : List ℕ) (x : ℕ) → Inserts old x new → All P old → P x → All P new
Inserts-all P old new x (inl h) all one = rw h.1 all
Inserts-all P old new x (inr h) all one = rw h.1 (All-push P old x all one)

-- the epsilon edges of a state that are left
pub record AreTargets (t : Graph) (edges : List (Edge Noop)) (q : ℕ) (old new : List ℕ) (left : List (Edge Noop)) : Type 0 where
  pub after : (more : List ℕ) × (new ≡ old ++ more)
  pub only : (x : ℕ) → Contains new x → Contains old x ⊎ HasEpsilonEdge t q x
  pub all : (x : ℕ) → HasEpsilonEdge t q x → Contains new x ⊎ ((e : Edge Noop) × Contains left e × (e.to.0 ≡ x))
  pub from : (e : Edge Noop) → Contains left e → Contains edges e × (e.from.0 ≡ q)

module _ (t : Graph) (edges : List (Edge Noop)) (q : ℕ) (is : t.noops ≡ map epsilon_edge_view edges) where
  -- before the first epsilon edge of a state, all of them are left
  pub targets_start : (old : List ℕ) (rest : List (Edge Noop)) → rest ≡ filter (λ (e : Edge Noop). eqb e.from.0 q) edges
      → AreTargets t edges q old old rest
  targets_start old rest e = record {
    after = ([], sym (append-nil old));
    only = λ x h. inl h;
    all = λ x h.
        let found = Contains-from_map epsilon_edge_view edges h.0 (rw is at h.1) in
        inr (
          found.0,
          rw e (Contains-filter (λ (e : Edge Noop). eqb e.from.0 q) edges found.0 found.1
              (eq-eqb _ _ (ap (λ (n : EpsilonEdge). n.from) found.2 ∙ h.2))),
          ap (λ (n : EpsilonEdge). n.to) found.2 ∙ h.3,
        );
    from = λ f h. let k = Contains-from_filter (λ (e : Edge Noop). eqb e.from.0 q) edges f (rw e at h) in (k.0, eqb-true _ _ k.1);
  }

  -- an epsilon edge is passed, and the state that it leads to is put in
  pub targets_more : (old mid new : List ℕ) (whole rest : List (Edge Noop)) (e : Edge Noop) → whole ≡ e ∷ rest
      → AreTargets t edges q old mid whole → Inserts mid e.to.0 new → AreTargets t edges q old new rest
  targets_more old mid new whole rest e is_first before one =
      let here = before.from e (rw is_first (Contains-head e rest)) in
      record {
        after = Inserts-after old mid new e.to.0 one before.after;
        only = λ x h. ⊎_elim (before.only x)
            (λ at. inr (epsilon_edge_view e, rw is (Contains-map epsilon_edge_view edges e here.0), here.1, at))
            (Inserts-cases mid new e.to.0 x one h);
        all = λ x h.
            ⊎_elim (λ there. inl (Inserts-old mid new e.to.0 x one there))
            (λ left. ⊎_elim
            (λ same. inl (let P : ℕ → Type 0 = Contains new in
            subst P (ap (λ (f : Edge Noop). f.to.0) same ∙ left.2) (Inserts-new mid new e.to.0 one)))
            (λ more. inr (left.0, more, left.2)) (Contains-cons_cases e rest left.0 (rw is_first at left.1)))
            (before.all x h);
        from = λ f h. before.from f (rw is_first (Contains-tail e rest f h));
      }

  -- once no epsilon edge is left, all that they lead to was put in
  pub targets_end : (old new : List ℕ) (rest : List (Edge Noop)) → rest ≡ [] → AreTargets t edges q old new rest
      → HasEpsilonTargets t q old new
  targets_end old new rest e h = record {
    after = h.after;
    only = h.only;
    all = λ x lead. ⊎_elim (λ there. there) (λ left. absurd (Contains-nil left.0 (rw e at left.1))) (h.all x lead);
  }

-- the first members have been followed
pub record IsClosing (t : Graph) (old new : List ℕ) (done : ℕ) : Type 0 where
  pub kept : (x : ℕ) → Contains old x → Contains new x
  pub only : (y : ℕ) → Contains new y → (x : ℕ) × Contains old x × EpsilonReaches t x y
  pub followed : (k y : ℕ) → k < done → k < length new → HasEpsilonEdge t (get_or new k 0) y → Contains new y

-- at first no member has been followed
pub closing_start : (t : Graph) (old : List ℕ) → IsClosing t old old 0
closing_start t old = record { kept = λ x h. h; only = λ y h. (y, h, EpsilonReaches.here); followed = λ k y l. absurd (omega arith) }

-- the next member has been followed once all that its epsilon edges lead to was put in
pub closing_more : (t : Graph) (old mid new : List ℕ) (done q : ℕ) → done < length mid → q ≡ get_or mid done 0
    → IsClosing t old mid done → HasEpsilonTargets t q mid new → IsClosing t old new (done + 1)
closing_more t old mid new done q within at before more = record {
  kept = λ x h. here x (before.kept x h);
  only = λ y h. ⊎_elim (before.only y)
      (λ lead. let from = before.only q (rw at (Contains-get_or mid done 0 within)) in
      (from.0, from.1, EpsilonReaches.along q from.2 lead)) (more.only y h);
  followed = λ k y l inside lead.
      ⊎_elim
      (λ (less : k < done).
      let old_one : get_or new k 0 ≡ get_or mid k 0 =
      ap (λ xs. get_or xs k 0) more.after.1 ∙ get_or_append_left mid more.after.0 0 k (omega arith) in
      here y (before.followed k y less (omega arith) (let P : ℕ → Type 0 = λ x. HasEpsilonEdge t x y in subst P old_one lead)))
      (λ (now : done ≤ k).
      let same : get_or new k 0 ≡ q =
      ap (λ i. get_or new i 0) (let e : k ≡ done = omega arith in e) ∙ ap (λ xs. get_or xs done 0) more.after.1
      ∙ get_or_append_left mid more.after.0 0 done within ∙ sym at in
      more.all y (let P : ℕ → Type 0 = λ x. HasEpsilonEdge t x y in subst P same lead))
      (cases_lt k done);
}
  where
    here : (x : ℕ) → Contains mid x → Contains new x
    here x h = rw more.after.1 (Contains-append_left mid more.after.0 x h)

-- once all members have been followed, they are the epsilon closure of those at first
pub closing_end : (t : Graph) (old new : List ℕ) (done : ℕ) → length new ≤ done → IsClosing t old new done
    → IsEpsilonClosure t old new
closing_end t old new done over h = record { only = h.only; all = all }
  where
    all : (x y : ℕ) → Contains old x → EpsilonReaches t x y → Contains new y
    all x y m EpsilonReaches.here = h.kept x m
    all x y m (EpsilonReaches.along z f lead) =
        let there = all x z m f in
        h.followed there.0 y (omega (arith, there.1)) there.1
        (let P : ℕ → Type 0 = λ q. HasEpsilonEdge t q y in subst P (sym (get_or_default new there.0 0 z there.1 ∙ there.2)) lead)

-- the members stay states
pub targets_inside : (n : ℕ) (t : Graph) (q : ℕ) (old new : List ℕ) → HasEpsilonTargets t q old new
    → ((x : ℕ) → HasEpsilonEdge t q x → x < n) → All (λ x. x < n) old → All (λ x. x < n) new
targets_inside n t q old new h targets inside k d l =
    ⊎_elim (λ there. All-contains (λ x. x < n) old (get_or new k d) inside there) (targets (get_or new k d))
    (h.only (get_or new k d) (Contains-get_or new k d l))
