-- Edges put into maps by names and by terminals: for the edges of public states.
use Rattle.std.proofs.Common.{◌≡◌, ◌∙◌, ◌⊎◌, ◌+◌, ◌<◌, ◌≤◌, ℕ, suc}
use Rattle.std.proofs.Common.{List, [], ◌∷◌, ◌++◌, length, Some, Contains}
use Rattle.std.proofs.Common.{slice_get, refl, sym, ap, subst, arith, inl, inr, ⊎_elim}
use Rattle.std.specs.BTreeMap.{insert_entry}
use Rattle.std.specs.List.Sorted.{IsStrictlySortedBy}
use Rattle.std.specs.Ordering.{match_ordering}
use Rattle.std.specs.declared.cmp.Ordering.{Ordering}
use Rattle.std.specs.declared.cmp.Ordering.TheVariants.{Equal, Greater, Less}
use Rattle.std.proofs.lemmas.List.Elements.{Contains-append_left}
use Rattle.std.proofs.lemmas.Option.{slice_get_within}
use Rattle.lalrpop_grammar_symbols.specs.contracts.names.NonterminalStringOrd.TheImpl as names_order
use Rattle.lalrpop_grammar_symbols.specs.contracts.terminal.TerminalStringOrd.TheImpl as terminals_order
use Rattle.lalrpop_grammar_symbols.specs.declared.names.NonterminalString.{NonterminalString}
use Rattle.lalrpop_grammar_symbols.specs.declared.terminal.TerminalString.{TerminalString}
use Rattle.lalrpop_grammar_repr.specs.declared.terminal_set.TerminalSet.{TerminalSet}
use Rattle.lalrpop_lr1_theory.proofs.ListLemmas.{contains_here, contains_later, contains_split}
use Rattle.lalrpop_lr1_theory.proofs.StepLemmas.{some_same}
use Rattle.lalrpop_lr1_core.specs.declared.state_index.StateIndex.{StateIndex}
use Rattle.lalrpop_sets.specs.AscendingLists.{Ascends, AscendsFrom}
use Rattle.lalrpop_lr1_first.specs.Tables.{IsTerminalSet}
use Rattle.lalrpop_lr1_first.proofs.NameLemmas.{name_antisymm}
use Rattle.lalrpop_lr1_first.proofs.OrderLemmas.{exact_name, exact_terminal}
use Rattle.lalrpop_lr1_first.proofs.TableLemmas.{once}
use Rattle.lalrpop_lr1_build.specs.Kernels.{places_of}
use Rattle.lalrpop_lr1_build.proofs.StateEdgeLemmas.{edge_last, edge_parts}
use Rattle.lalrpop_lr1_build.specs.PublicStates.{AreGotos, AreShifts}
use Rattle.lalrpop_lr1_theory.proofs.NameLemmas.{no_element}

module _ {K X : Type 0} (R : K → K → Ordering) (exact : (x y : K) → R x y ≡ Equal → x ≡ y) (k : K) (v : X) where
  -- an entry with a new key joins the others
  pub inserted_to : (es : List (K × X)) → ((w : X) → Contains es (k, w) → ⊥) → (e : K × X) →
      Contains (insert_entry R es k v) e →
      Contains es e ⊎ ((k, v) ≡ e)
  inserted_to [] none e c = ⊎_elim (λ z. inr z) (λ d. absurd (no_element e d)) (contains_split (k, v) e [] c)
  inserted_to (x ∷ es) none e c = go (R k x.0) refl (inserted_to es (λ w d. none w (contains_later x (k, w) es d)) e) c
    where
      later : Contains es e ⊎ ((k, v) ≡ e) → Contains (x ∷ es) e ⊎ ((k, v) ≡ e)
      later h = ⊎_elim (λ d. inl (contains_later x e es d)) (λ z. inr z) h

      go : (o : Ordering) → R k x.0 ≡ o → (Contains (insert_entry R es k v) e → Contains es e ⊎ ((k, v) ≡ e)) →
          Contains (match_ordering o ((k, v) ∷ x ∷ es) ((x.0, v) ∷ es) (x ∷ insert_entry R es k v)) e →
          Contains (x ∷ es) e ⊎ ((k, v) ≡ e)
      go Less f rec d = ⊎_elim (λ z. inr z) (λ h. inl h) (contains_split (k, v) e (x ∷ es) d)
      go Equal f rec d =
          absurd (none x.1 (subst (λ j. Contains {X = K × X} (x ∷ es) (j, x.1)) (sym (exact k x.0 f)) (contains_here x es)))
      go Greater f rec d =
          ⊎_elim (λ z. inl (subst (Contains (x ∷ es)) z (contains_here x es))) (λ h. later (rec h))
          (contains_split x e (insert_entry R es k v) d)

  pub inserted_from : (es : List (K × X)) → ((w : X) → Contains es (k, w) → ⊥) → (e : K × X) → Contains es e
      ⊎ ((k, v) ≡ e) →
      Contains (insert_entry R es k v) e
  inserted_from [] none e h =
      ⊎_elim (λ d. absurd (no_element e d)) (λ z. subst (Contains ((k, v) ∷ [])) z (contains_here (k, v) [])) h
  inserted_from (x ∷ es) none e h = go (R k x.0) refl (inserted_from es (λ w d. none w (contains_later x (k, w) es d)) e) h
    where
      go : (o : Ordering) → R k x.0 ≡ o → (Contains es e ⊎ ((k, v) ≡ e) → Contains (insert_entry R es k v) e) →
          Contains (x ∷ es) e ⊎ ((k, v) ≡ e) →
          Contains (match_ordering o ((k, v) ∷ x ∷ es) ((x.0, v) ∷ es) (x ∷ insert_entry R es k v)) e
      go Less f rec g = ⊎_elim (λ d. contains_later (k, v) e (x ∷ es) d)
          (λ z. subst (Contains ((k, v) ∷ x ∷ es)) z (contains_here (k, v) (x ∷ es))) g
      go Equal f rec g =
          absurd (none x.1 (subst (λ j. Contains {X = K × X} (x ∷ es) (j, x.1)) (sym (exact k x.0 f)) (contains_here x es)))
      go Greater f rec g = ⊎_elim
          (λ d. ⊎_elim (λ z. subst (Contains (x ∷ insert_entry R es k v)) z (contains_here x (insert_entry R es k v)))
          (λ c. contains_later x e (insert_entry R es k v) (rec (inl c))) (contains_split x e es d))
          (λ z. contains_later x e (insert_entry R es k v) (rec (inr z))) g

-- what stands before the last of edges in order has a smaller symbol
pub before_last : (edges : List (ℕ × ℕ)) (a s m r n : ℕ) → AscendsFrom a (places_of (edges ++ (s, m) ∷ [])) →
    Contains edges (r, n) → r < s
before_last [] a s m r n h c = absurd (no_element (r, n) c)
before_last (e ∷ edges) a s m r n h c = ⊎_elim
    (λ z. let f : e.0 ≡ r = ap (λ (x : ℕ × ℕ). x.0) z in let l = last edges (suc e.0) h.1 in omega (arith, f, l))
    (λ d. before_last edges (suc e.0) s m r n h.1 d) (contains_split e (r, n) edges c)
  where
    last : (es : List (ℕ × ℕ)) (b : ℕ) → AscendsFrom b (places_of (es ++ (s, m) ∷ [])) → b ≤ s
    last [] b g = g.0
    last (x ∷ es) b g = omega (arith, g.0, last es (suc x.0) g.1)

index_same : (m n : StateIndex) → m.0 ≡ n.0 → m ≡ n
index_same m n e = ap (λ k. record { 0 = k }) e

module _ (names : List NonterminalString) (sorted : IsStrictlySortedBy (names_order.ghosts).cmp names) (done : List (ℕ × ℕ))
    (gotos : List (NonterminalString × StateIndex)) (are : AreGotos names done gotos) (s : ℕ) (m : ℕ)
    (ascending : Ascends (places_of (done ++ (s, m) ∷ []))) where
  abbrev index : StateIndex
  index = record { 0 = m }

  pub gotos_more : (n : NonterminalString) → slice_get names s ≡ Some n →
      AreGotos names (done ++ (s, m) ∷ []) (insert_entry (names_order.ghosts).cmp gotos n index)
  gotos_more n e k j = (
    λ c. ⊎_elim
        (λ d. let r = (are k j).0 d in (r.0, Contains-append_left done ((s, m) ∷ []) (r.0, j.0) r.1, r.2))
        (λ z. (
          s,
          subst (λ i. Contains {X = ℕ × ℕ} (done ++ (s, m) ∷ []) (s, i)) (ap (λ (x : NonterminalString × StateIndex). x.1.0) z)
              (edge_last done s m),
          e ∙ ap Some (ap (λ (x : NonterminalString × StateIndex). x.0) z),
        ))
        (inserted_to (names_order.ghosts).cmp exact_name n index gotos unseen (k, j) c),
    λ h. inserted_from (names_order.ghosts).cmp exact_name n index gotos unseen (k, j) (⊎_elim
        (λ d. inl ((are k j).1 (h.0, d, h.2)))
        (λ z. inr (ap (λ x. (x, index)) (some_same n k (sym e ∙ ap (slice_get names) z.0 ∙ h.2))
        ∙ ap (λ x. (k, x)) (index_same index j z.1)))
        (edge_parts done s m h.0 j.0 h.1)),
  )
    where
      unseen : (w : StateIndex) → Contains gotos (n, w) → ⊥
      unseen w c =
          let r = (are n w).0 c in
          let same = once (names_order.ghosts).cmp name_antisymm names sorted r.0 s n r.2 e in
          let less = before_last done 0 s m r.0 w.0 ascending r.1 in
          let z : ⊥ = omega (arith, same, less) in z

  pub gotos_less : length names ≤ s → AreGotos names (done ++ (s, m) ∷ []) gotos
  gotos_less l k j = (
    λ c. let r = (are k j).0 c in (r.0, Contains-append_left done ((s, m) ∷ []) (r.0, j.0) r.1, r.2),
    λ h. ⊎_elim (λ d. (are k j).1 (h.0, d, h.2))
        (λ z. let w = slice_get_within names h.0 k h.2 in absurd (omega (arith, w, l, z.0)))
        (edge_parts done s m h.0 j.0 h.1),
  )

module _ (ts : TerminalSet) (set : IsTerminalSet ts) (count : ℕ) (done : List (ℕ × ℕ))
    (shifts : List (TerminalString × StateIndex)) (are : AreShifts count ts.all done shifts) (s : ℕ) (m : ℕ)
    (ascending : Ascends (places_of (done ++ (s, m) ∷ []))) where
  abbrev target : StateIndex
  target = record { 0 = m }

  pub shifts_more : (i : ℕ) (t : TerminalString) → s ≡ count + i → slice_get ts.all i ≡ Some t →
      AreShifts count ts.all (done ++ (s, m) ∷ []) (insert_entry (terminals_order.ghosts).cmp shifts t target)
  shifts_more i t f e k j = (
    λ c. ⊎_elim
        (λ d. let r = (are k j).0 d in (r.0, Contains-append_left done ((s, m) ∷ []) (count + r.0, j.0) r.1, r.2))
        (λ z. (
          i,
          subst (λ x. Contains {X = ℕ × ℕ} (done ++ (s, m) ∷ []) (x, j.0)) f
              (subst (λ x. Contains {X = ℕ × ℕ} (done ++ (s, m) ∷ []) (s, x)) (ap (λ (x : TerminalString × StateIndex). x.1.0) z)
              (edge_last done s m)),
          e ∙ ap Some (ap (λ (x : TerminalString × StateIndex). x.0) z),
        ))
        (inserted_to (terminals_order.ghosts).cmp exact_terminal t target shifts unseen (k, j) c),
    λ h. inserted_from (terminals_order.ghosts).cmp exact_terminal t target shifts unseen (k, j) (⊎_elim
        (λ d. inl ((are k j).1 (h.0, d, h.2)))
        (λ z. let one : i ≡ h.0 = omega (arith, f, z.0) in
        inr (ap (λ x. (x, target)) (some_same t k (sym e ∙ ap (slice_get ts.all) one ∙ h.2))
        ∙ ap (λ x. (k, x)) (index_same target j z.1)))
        (edge_parts done s m (count + h.0) j.0 h.1)),
  )
    where
      unseen : (w : StateIndex) → Contains shifts (t, w) → ⊥
      unseen w c =
          let r = (are t w).0 c in
          let same : r.0 ≡ i = some_same r.0 i (sym (set.numbered r.0 t r.2) ∙ set.numbered i t e) in
          let less = before_last done 0 s m (count + r.0) w.0 ascending r.1 in
          let z : ⊥ = omega (arith, same, less, f) in z

  pub shifts_less : s < count → AreShifts count ts.all (done ++ (s, m) ∷ []) shifts
  shifts_less l k j = (
    λ c. let r = (are k j).0 c in (r.0, Contains-append_left done ((s, m) ∷ []) (count + r.0, j.0) r.1, r.2),
    λ h. ⊎_elim (λ d. (are k j).1 (h.0, d, h.2))
        (λ z. absurd (omega (arith, l, z.0)))
        (edge_parts done s m (count + h.0) j.0 h.1),
  )

-- a part of edges in order is in order
pub front_ascends : (front back : List (ℕ × ℕ)) (a : ℕ) → AscendsFrom a (places_of (front ++ back)) →
    AscendsFrom a (places_of front)
front_ascends [] back a h = tt
front_ascends (e ∷ front) back a h = (h.0, front_ascends front back (suc e.0) h.1)
