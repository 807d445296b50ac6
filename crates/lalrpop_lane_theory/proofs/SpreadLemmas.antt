-- States spread over a cover are a cover, and stay spread where they are copied and edges are redirected: for the law on merges.
use Rattle.std.proofs.Common.{◌≡◌, ◌↔◌, ◌∙◌, ℕ, Some, cond, refl, sym, ap, subst, ⊎_elim}
use Rattle.std.proofs.Common.{List}
use Rattle.std.proofs.lemmas.Bool.{cases_eq, eq-eqb, ne_eqb}
use Rattle.std.specs.Prelude.{eqb, slice_get}
use Rattle.lalrpop_grammar_symbols.specs.Symbols.{Text}
use Rattle.lalrpop_lr1_theory.specs.Productions.{Production, Symbol, nonterminal, terminal}
use Rattle.lalrpop_lr1_theory.specs.Automata.{IsCover, IsShifted}
use Rattle.lalrpop_lr1_theory.specs.States.{HasEdge, State}
use Rattle.lalrpop_lr1_theory.proofs.CheckedLemmas.{same_state}
use Rattle.lalrpop_lr1_theory.proofs.CollapsedCoverLemmas.{closure_more, shifted_more}
use Rattle.lalrpop_lane_theory.specs.SpreadStates.{AreRedirected, IsCopied, IsSpread, LeadAsOriginal, LeavesBy}

-- edges lead on as the original's by other origins, too, where these are the same for the states to which they lead
pub lead_on : (Edge : ℕ → Symbol → ℕ → Type 0) (origin new : ℕ → ℕ) (n m : ℕ) (Leaving Other : Symbol → ℕ → Type 0) → n ≡ m →
    ((x : Symbol) (k : ℕ) → Other x k ↔ Leaving x k) → ((x : Symbol) (k : ℕ) → Leaving x k → new k ≡ origin k) →
    LeadAsOriginal Edge origin n Leaving → LeadAsOriginal Edge new m Other
lead_on Edge origin new n m Leaving Other e same agree lead =
    record {
      down = λ x k l.
          let h = (same x k).0 l in
          subst (λ j. Edge j x (new k)) e (subst (Edge n x) (sym (agree x k h)) (lead.down x k h));
      on = λ x k d. let h = lead.on x k (subst (λ j. Edge j x k) (sym e) d) in (h.0, (same x h.0).1 h.1);
      one = λ x k j l h. lead.one x k j ((same x k).0 l) ((same x j).0 h);
    }

-- the edges of a state of a list are those that leave it
pub leaves_edge : (states : List State) (n : ℕ) (state : State) → slice_get states n ≡ Some state → (x : Symbol) (m : ℕ) →
    LeavesBy state x m ↔ HasEdge states n x m
leaves_edge states n state e (terminal t) m = (
  λ c. (state, e, c),
  λ h. subst (λ st. LeavesBy st (terminal t) m) (same_state states n h.0 state h.1 e) h.2,
)
leaves_edge states n state e (nonterminal A) m = (
  λ c. (state, e, c),
  λ h. subst (λ st. LeavesBy st (nonterminal A) m) (same_state states n h.0 state h.1 e) h.2,
)

-- states that cover the items are spread over themselves, as they stand before a merge
pub spread_itself : (G : Production → Type 0) (s : Text) (Item : ℕ → Production → ℕ → Type 0) (Edge : ℕ → Symbol → ℕ → Type 0) →
    IsCover G s Item Edge → IsSpread Item Edge Item Edge (λ n. n)
spread_itself G s Item Edge cover =
    record {
      first_state = refl;
      items = λ n p i. (λ k. k, λ k. k);
      edges = λ n. record { down = λ x m e. e; on = λ x k e. (k, e); one = cover.one n };
    }

module _ (Item : ℕ → Production → ℕ → Type 0) (Edge : ℕ → Symbol → ℕ → Type 0) (SpreadItem : ℕ → Production → ℕ → Type 0)
    (SpreadEdge : ℕ → Symbol → ℕ → Type 0) (origin : ℕ → ℕ) (spread : IsSpread Item Edge SpreadItem SpreadEdge origin) where
  -- states that are spread over a cover are one
  pub spread_cover : (G : Production → Type 0) (s : Text) → IsCover G s Item Edge → IsCover G s SpreadItem SpreadEdge
  spread_cover G s cover =
      record {
        start = λ p i. (
          λ k. (cover.start p i).0 (subst (λ n. Item n p i) spread.first_state ((spread.items 0 p i).0 k)),
          λ c. (spread.items 0 p i).1 (subst (λ n. Item n p i) (sym spread.first_state) ((cover.start p i).1 c)),
        );
        onward = λ n p i x b k d.
            let e = cover.onward (origin n) p i x b ((spread.items n p i).0 k) d in (spread.edges n).on x e.0 e.1;
        one = λ n x m k e f. (spread.edges n).one x m k e f;
        next = λ n x m e p i.
            let next = cover.next (origin n) x (origin m) ((spread.edges n).down x m e) p i in (
              λ k. closure_more G (IsShifted Item (origin n) x) (IsShifted SpreadItem n x)
                  (shifted_more Item SpreadItem (origin n) n x (λ q j. (spread.items n q j).1))
                  (next.0 ((spread.items m p i).0 k)),
              λ c. (spread.items m p i).1
                  (next.1 (closure_more G (IsShifted SpreadItem n x) (IsShifted Item (origin n) x)
                  (shifted_more SpreadItem Item n (origin n) x (λ q j. (spread.items n q j).0)) c)),
            );
        only = λ n x m e.
            let d = cover.only (origin n) x (origin m) ((spread.edges n).down x m e) in
            record {
              production = d.production;
              dot = d.dot;
              rest = d.rest;
              item = (spread.items n d.production d.dot).1 d.item;
              before = d.before;
            };
      }

  -- edges that are redirected to a copy lead on as before
  pub redirected_spread : (NewItem : ℕ → Production → ℕ → Type 0) (NewEdge : ℕ → Symbol → ℕ → Type 0) (from copy : ℕ) →
      AreRedirected SpreadEdge NewEdge from copy → ((n : ℕ) (p : Production) (i : ℕ) → NewItem n p i ↔ SpreadItem n p i) →
      origin copy ≡ origin from → IsSpread Item Edge NewItem NewEdge origin
  redirected_spread NewItem NewEdge from copy redirected items same =
      record {
        first_state = spread.first_state;
        items = λ n p i. (
          λ k. (spread.items n p i).0 ((items n p i).0 k),
          λ k. (items n p i).1 ((spread.items n p i).1 k),
        );
        edges = λ n.
            record {
              down = λ x m e.
                  ⊎_elim (λ h. (spread.edges n).down x m h)
                  (λ h. subst (Edge (origin n) x) (sym same ∙ ap origin (sym h.1)) ((spread.edges n).down x from h.0))
                  (redirected.each n x m e);
              on = λ x k d. let h = (spread.edges n).on x k d in redirected.stays n x h.0 h.1;
              one = redirected.one n;
            };
      }

  -- the origin of a copy is that of its original
  abbrev pub with_copy : ℕ → ℕ → ℕ → ℕ
  with_copy from copy n = cond (eqb n copy) (origin from) (origin n)

  pub of_copy : (from copy n : ℕ) → n ≡ copy → with_copy from copy n ≡ origin from
  of_copy from copy n e = ap (λ b. cond b (origin from) (origin n)) (eq-eqb n copy e)

  pub of_other : (from copy n : ℕ) → (n ≡ copy → ⊥) → with_copy from copy n ≡ origin n
  of_other from copy n e = ap (λ b. cond b (origin from) (origin n)) (ne_eqb n copy e)

  -- edges that another state had earlier lead on as its original's by the origins with the copy, too
  pub copied_earlier : (from copy n : ℕ) (Leaving : Symbol → ℕ → Type 0) → (n ≡ copy → ⊥) → ((x : Symbol) → Leaving x copy → ⊥) →
      LeadAsOriginal Edge origin (origin n) Leaving →
      LeadAsOriginal Edge (with_copy from copy) (with_copy from copy n) Leaving
  copied_earlier from copy n Leaving e none lead =
      lead_on Edge origin (with_copy from copy) (origin n) (with_copy from copy n) Leaving Leaving (sym (of_other from copy n e))
      (λ x m. (λ k. k, λ k. k)) (λ x m l. of_other from copy m (λ h. none x (subst (Leaving x) h l))) lead

  module _ (NewItem : ℕ → Production → ℕ → Type 0) (NewEdge : ℕ → Symbol → ℕ → Type 0) (Earlier : Symbol → ℕ → Type 0)
      (from copy : ℕ) (lead : LeadAsOriginal Edge origin (origin from) Earlier)
      (copied : IsCopied SpreadItem SpreadEdge NewItem NewEdge Earlier from copy) where
    abbrev IsItemOfOriginal : ℕ → Type 0
    IsItemOfOriginal n = (p : Production) (i : ℕ) → NewItem n p i ↔ Item (with_copy from copy n) p i

    item_of_copy : (n : ℕ) → n ≡ copy → IsItemOfOriginal n
    item_of_copy n e p i =
        let here = of_copy from copy n e in (
          λ k. subst (λ m. Item m p i) (sym here)
              ((spread.items from p i).0 ((copied.copied_items p i).0 (subst (λ m. NewItem m p i) e k))),
          λ k. subst (λ m. NewItem m p i) (sym e)
              ((copied.copied_items p i).1 ((spread.items from p i).1 (subst (λ m. Item m p i) here k))),
        )

    item_of_other : (n : ℕ) → (n ≡ copy → ⊥) → IsItemOfOriginal n
    item_of_other n e p i =
        let here = of_other from copy n e in (
          λ k. subst (λ m. Item m p i) (sym here) ((spread.items n p i).0 ((copied.items n p i e).0 k)),
          λ k. (copied.items n p i e).1 ((spread.items n p i).1 (subst (λ m. Item m p i) here k)),
        )

    leads_from_copy : (n : ℕ) → n ≡ copy → LeadAsOriginal Edge (with_copy from copy) (with_copy from copy n) (NewEdge n)
    leads_from_copy n e =
        lead_on Edge origin (with_copy from copy) (origin from) (with_copy from copy n) Earlier (NewEdge n)
        (sym (of_copy from copy n e))
        (λ x m. (
          λ k. (copied.copied_edges x m).0 (subst (λ j. NewEdge j x m) e k),
          λ k. subst (λ j. NewEdge j x m) (sym e) ((copied.copied_edges x m).1 k),
        ))
        (λ x m l. of_other from copy m (λ h. copied.no_edge_earlier x (subst (Earlier x) h l))) lead

    leads_from_other : (n : ℕ) → (n ≡ copy → ⊥) →
        LeadAsOriginal Edge (with_copy from copy) (with_copy from copy n) (NewEdge n)
    leads_from_other n e =
        lead_on Edge origin (with_copy from copy) (origin n) (with_copy from copy n) (SpreadEdge n) (NewEdge n)
        (sym (of_other from copy n e)) (λ x m. copied.edges n x m e)
        (λ x m l. of_other from copy m (λ h. copied.no_edge n x (subst (SpreadEdge n x) h l))) (spread.edges n)

    -- a copy, with edges that lead on as the original's, is spread with the others
    pub copied_spread : IsSpread Item Edge NewItem NewEdge (with_copy from copy)
    copied_spread =
        record {
          first_state = of_other from copy 0 (λ e. copied.behind_first (sym e)) ∙ spread.first_state;
          items = λ n. ⊎_elim (item_of_copy n) (item_of_other n) (cases_eq n copy);
          edges = λ n. ⊎_elim (leads_from_copy n) (leads_from_other n) (cases_eq n copy);
        }
