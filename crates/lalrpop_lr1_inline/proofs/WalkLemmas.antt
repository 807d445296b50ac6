-- Walks over names, one behind the other: for the search for the order.
use Rattle.std.proofs.Common.{◌≡◌, List, [], ◌∷◌, ◌++◌, refl, ap, sym, ◌∙◌, subst, append_assoc}
use Rattle.std.specs.Prelude.{reverse}
use Rattle.lalrpop_grammar_symbols.specs.Symbols.{Text}
use Rattle.lalrpop_grammar_language.specs.Among.{Among}
use Rattle.lalrpop_lr1_inline.specs.InlinedNames.{NonterminalEntries, inlined_named_by}
use Rattle.lalrpop_lr1_inline.specs.InliningOrders.{IsOrderWalk, OrderWalk, order_of_walk}
use Rattle.lalrpop_lr1_inline.specs.OrderSearches.{LeadOn, OrderTask, tasks_to_enter}
use Rattle.lalrpop_grammar_language.proofs.StepOnceLemmas.{append-none}

-- a walk over the first name, and one over the others behind it
pub record IsJoinedWalk (g : NonterminalEntries) (before : List Text) (ns : List Text) (order : List Text) : Type 0 where
  pub walk : OrderWalk
  pub is_walk : IsOrderWalk g before ns walk
  pub order_is : order_of_walk walk ≡ order

pub walk_front : (g : NonterminalEntries) (before : List Text) (n : Text) (ns : List Text) (w v : OrderWalk) →
    IsOrderWalk g before (n ∷ []) w → IsOrderWalk g (before ++ order_of_walk w) ns v →
    IsJoinedWalk g before (n ∷ ns) (order_of_walk w ++ order_of_walk v)
walk_front g before n ns OrderWalk.no_more v h k = absurd h
walk_front g before n ns (OrderWalk.met_before OrderWalk.no_more) v h k = record {
  walk = OrderWalk.met_before v;
  is_walk = (h.0, subst (λ (l : List Text). IsOrderWalk g l ns v) (append-none before) k);
  order_is = refl;
}
walk_front g before n ns (OrderWalk.met_before (OrderWalk.met_before w)) v h k = absurd h.1
walk_front g before n ns (OrderWalk.met_before (OrderWalk.met_first m inside w)) v h k = absurd h.1
walk_front g before n ns (OrderWalk.met_first m inside OrderWalk.no_more) v h k =
    record {
      walk = OrderWalk.met_first m inside v;
      is_walk = (
        h.0,
        h.1,
        h.2,
        subst (λ (x : Text). IsOrderWalk g (before ++ order_of_walk inside ++ x ∷ []) ns v) h.0
            (subst (λ (l : List Text). IsOrderWalk g l ns v) (sym (append_assoc before (order_of_walk inside) (m ∷ []))) k),
      );
      order_is = sym (append_assoc (order_of_walk inside) (m ∷ []) (order_of_walk v));
    }
walk_front g before n ns (OrderWalk.met_first m inside (OrderWalk.met_before w)) v h k = absurd h.3
walk_front g before n ns (OrderWalk.met_first m inside (OrderWalk.met_first l i w)) v h k = absurd h.3

-- tasks to enter names, one after another, walk them
pub record LeadsByWalk (g : NonterminalEntries) (ns : List Text) (ts : List OrderTask) (before : List Text) (final : List Text) :
    Type 0 where
  pub walk : OrderWalk
  pub is_walk : IsOrderWalk g before ns walk
  pub rest : LeadOn g ts (before ++ order_of_walk walk) final

-- where tasks to enter names lead on, with others behind them, the names are walked, then the others lead on
pub lead_walk : (g : NonterminalEntries) (ns : List Text) (ts : List OrderTask) (before final : List Text) →
    LeadOn g (tasks_to_enter ns ++ ts) before final → LeadsByWalk g ns ts before final
lead_walk g [] ts before final h = record {
  walk = OrderWalk.no_more;
  is_walk = tt;
  rest = subst (λ (l : List Text). LeadOn g ts l final) (sym (append-none before)) h;
}
lead_walk g (n ∷ ns) ts before final h =
    let r = lead_walk g ns ts (before ++ order_of_walk h.0) final h.2 in
    let u = walk_front g before n ns h.0 r.walk h.1 r.is_walk in
    record {
      walk = u.walk;
      is_walk = u.is_walk;
      rest = subst (λ (l : List Text). LeadOn g ts l final)
          (append_assoc before (order_of_walk h.0) (order_of_walk r.walk) ∙ sym (ap (λ l. before ++ l) u.order_is)) r.rest;
    }

-- a name that is met for the first time: what it names is walked, and then it is left
pub lead_enter : (g : NonterminalEntries) (n : Text) (ts : List OrderTask) (before final : List Text) → (Among before n → ⊥) →
    LeadOn g (tasks_to_enter (reverse (inlined_named_by g n)) ++ OrderTask.leave n ∷ ts) before final →
    LeadOn g (OrderTask.enter n ∷ ts) before final
lead_enter g n ts before final fresh h =
    let r = lead_walk g (reverse (inlined_named_by g n)) (OrderTask.leave n ∷ ts) before final h in (
      OrderWalk.met_first n r.walk OrderWalk.no_more,
      (refl, fresh, r.is_walk, tt),
      subst (λ (l : List Text). LeadOn g ts l final) (append_assoc before (order_of_walk r.walk) (n ∷ [])) r.rest,
    )

-- one that was met before
pub lead_past : (g : NonterminalEntries) (n : Text) (ts : List OrderTask) (before final : List Text) → Among before n →
    LeadOn g ts before final → LeadOn g (OrderTask.enter n ∷ ts) before final
lead_past g n ts before final met h = (
  OrderWalk.met_before OrderWalk.no_more,
  (met, tt),
  subst (λ (l : List Text). LeadOn g ts l final) (sym (append-none before)) h,
)
