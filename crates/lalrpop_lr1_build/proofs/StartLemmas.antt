-- The start's items are a kernel, and are those with which the first state begins: for the construction of states.
use Rattle.std.proofs.Common.{◌≡◌, ◌∙◌, ◌↔◌, ◌<◌, ◌≤◌, ℕ, zero, suc, Bool, true}
use Rattle.std.proofs.Common.{false, cond, List, [], ◌∷◌}
use Rattle.std.proofs.Common.{Some, Contains, slice_get, refl, sym, ap, subst, arith, ⊎_elim}
use Rattle.std.specs.Str.{bytes_eq}
use Rattle.lalrpop_grammar_symbols.specs.declared.names.NonterminalString.{NonterminalString}
use Rattle.lalrpop_grammar_repr.specs.declared.production.Production.{Production}
use Rattle.lalrpop_lr1_theory.specs.Productions as theory
use Rattle.lalrpop_lr1_theory.specs.Automata.{IsBegun}
use Rattle.lalrpop_lr1_theory.proofs.ListLemmas.{contains_get, contains_here, contains_later, contains_split}
use Rattle.lalrpop_lr1_core.specs.Views.{production_view}
use Rattle.lalrpop_lr1_core.proofs.MemberLemmas.{in_map}
use Rattle.lalrpop_sets.specs.AscendingLists.{AscendsFrom, has}
use Rattle.lalrpop_lr1_first.specs.FirstNumbers.{table_end}
use Rattle.lalrpop_lr1_first.specs.NumberedGrammars.{HasItemAt, IsNumberTable, IsSeenIn, table_productions}
use Rattle.lalrpop_lr1_first.specs.declared.numbered.Numbered.{Numbered}
use Rattle.lalrpop_lr1_first.specs.declared.place.NumberedRule.{NumberedRule}
use Rattle.lalrpop_lr1_first.proofs.TableLemmas.{is_item_table}
use Rattle.lalrpop_lr1_build.specs.Kernels.{AreKernelItems, places_of}
use Rattle.lalrpop_lr1_build.specs.Nexts.{IsNextIn}
use Rattle.lalrpop_lr1_build.specs.NumberedAutomata.{AreStartItems}
use Rattle.lalrpop_lr1_build.specs.PublicStates.{start_items}
use Rattle.lalrpop_lr1_theory.proofs.NameLemmas.{no_element}
use Rattle.std.proofs.lemmas.Slice.Eq.{bytes_eq-Decides}

-- an item of the start's: its production and its rule stand at one place of their lists
pub record StartsAt {L : Type 0} (start : NonterminalString) (l : L) (ps : List Production) (rules : List NumberedRule) (i : ℕ)
    (own : L) : Type 0 where
  pub number : ℕ
  pub production : Production
  pub rule : NumberedRule
  pub at_production : slice_get ps number ≡ Some production
  pub at_rule : slice_get rules number ≡ Some rule
  pub name : production.nonterminal.0 ≡ start.0
  pub place : i ≡ rule.start
  pub lookahead : own ≡ l

module _ {L : Type 0} (start : NonterminalString) (l : L) where
  pub start_from : (ps : List Production) (rules : List NumberedRule) (i : ℕ) (own : L) →
      Contains (start_items start l ps rules) (i, own) → StartsAt start l ps rules i own
  start_from [] rules i own c = absurd (no_element (i, own) c)
  start_from (p ∷ ps) [] i own c = absurd (no_element (i, own) c)
  start_from (p ∷ ps) (r ∷ rules) i own c =
      go (bytes_eq p.nonterminal.0 start.0) refl (start_from ps rules i own) c
    where
      later : StartsAt start l ps rules i own → StartsAt start l (p ∷ ps) (r ∷ rules) i own
      later h = record {
        number = suc h.number;
        production = h.production;
        rule = h.rule;
        at_production = h.at_production;
        at_rule = h.at_rule;
        name = h.name;
        place = h.place;
        lookahead = h.lookahead;
      }

      go : (b : Bool) → bytes_eq p.nonterminal.0 start.0 ≡ b → (Contains (start_items start l ps rules) (i, own) →
          StartsAt start l ps rules i own) →
          Contains (cond b ((r.start, l) ∷ start_items start l ps rules) (start_items start l ps rules)) (i, own) →
          StartsAt start l (p ∷ ps) (r ∷ rules) i own
      go true e rec d = ⊎_elim
          (λ z. record {
            number = 0;
            production = p;
            rule = r;
            at_production = refl;
            at_rule = refl;
            name = (bytes_eq-Decides p.nonterminal.0 start.0).0 e;
            place = ap (λ (x : ℕ × L). x.0) (sym z);
            lookahead = ap (λ (x : ℕ × L). x.1) (sym z);
          })
          (λ f. later (rec f)) (contains_split (r.start, l) (i, own) (start_items start l ps rules) d)
      go false e rec d = later (rec d)

  pub start_to : (ps : List Production) (rules : List NumberedRule) (n : ℕ) (p : Production) (r : NumberedRule) →
      slice_get ps n ≡ Some p → slice_get rules n ≡ Some r → p.nonterminal.0 ≡ start.0 →
      Contains (start_items start l ps rules) (r.start, l)
  start_to [] rules n p r e f name = let z : ⊥ = cc in absurd z
  start_to (q ∷ ps) [] n p r e f name = let z : ⊥ = cc in absurd z
  start_to (q ∷ ps) (s ∷ rules) zero p r e f name =
      let same : bytes_eq q.nonterminal.0 start.0 ≡ true = (bytes_eq-Decides q.nonterminal.0 start.0).1
      (ap (λ (x : Production). x.nonterminal.0) (some_is q p e) ∙ name) in
      let rule : s ≡ r = rule_is s r f in
      subst (λ b. Contains (cond b ((s.start, l) ∷ start_items start l ps rules) (start_items start l ps rules)) (r.start, l)) (sym same)
      (subst (λ (x : NumberedRule). Contains ((s.start, l) ∷ start_items start l ps rules) (x.start, l)) rule
      (contains_here (s.start, l) (start_items start l ps rules)))
    where
      some_is : (x y : Production) → Some x ≡ Some y → x ≡ y
      some_is x y e = cc

      rule_is : (x y : NumberedRule) → Some x ≡ Some y → x ≡ y
      rule_is x y e = cc
  start_to (q ∷ ps) (s ∷ rules) (suc n) p r e f name =
      go (bytes_eq q.nonterminal.0 start.0) (start_to ps rules n p r e f name)
    where
      go : (b : Bool) → Contains (start_items start l ps rules) (r.start, l) →
          Contains (cond b ((s.start, l) ∷ start_items start l ps rules) (start_items start l ps rules)) (r.start, l)
      go true c = contains_later (s.start, l) (r.start, l) (start_items start l ps rules) c
      go false c = c

  weaker : (xs : List ℕ) (a b : ℕ) → a ≤ b → AscendsFrom b xs → AscendsFrom a xs
  weaker [] a b h g = tt
  weaker (x ∷ xs) a b h g = (omega (arith, g.0), g.1)

  start_ascends : (ps : List Production) (rules : List NumberedRule) (a : ℕ) →
      ((q : ℕ) (rule : NumberedRule) → slice_get rules q ≡ Some rule → a ≤ rule.start) →
      ((q r : ℕ) (one other : NumberedRule) → q < r → slice_get rules q ≡ Some one → slice_get rules r ≡ Some other →
      one.start < other.start) →
      AscendsFrom a (places_of (start_items start l ps rules))
  start_ascends [] rules a least starts = tt
  start_ascends (p ∷ ps) [] a least starts = tt
  start_ascends (p ∷ ps) (r ∷ rules) a least starts =
      go (bytes_eq p.nonterminal.0 start.0) (least 0 r refl)
      (start_ascends ps rules (suc r.start) (λ q rule e. starts 0 (suc q) r rule (omega arith) refl e)
      (λ q t one other h e f. starts (suc q) (suc t) one other (omega (arith, h)) e f))
    where
      go : (b : Bool) → a ≤ r.start → AscendsFrom (suc r.start) (places_of (start_items start l ps rules)) →
          AscendsFrom a (places_of (cond b ((r.start, l) ∷ start_items start l ps rules) (start_items start l ps rules)))
      go true h g = (h, g)
      go false h g = weaker (places_of (start_items start l ps rules)) a (suc r.start) (omega (arith, h)) g

module _ {L : Type 0} (marks : L → List ℕ) (in_order : L → Type 0) (table : Numbered) (is : IsNumberTable table)
    (start : NonterminalString) (l : L) where
  abbrev items : List (ℕ × L)
  items = start_items start l (table_productions table) table.rules.items

  item_in_front : (i : ℕ) (own : L) → StartsAt start l (table_productions table) table.rules.items i own →
      (p : theory.Production) × (p.left ≡ start.0) × HasItemAt table i p 0
  item_in_front i own h = (
    production_view h.production,
    h.name,
    record {
      number = h.number;
      rule = h.rule;
      production = h.production;
      at_rule = h.at_rule;
      at_production = h.at_production;
      seen = refl;
      place_is = omega (arith, h.place);
      within = omega arith;
    },
  )

  pub start_kernel_items : in_order l → ((k : ℕ) → has (marks l) k ≡ true → k ≤ table_end table) →
      AreKernelItems marks in_order table items
  start_kernel_items ordered tokens = record {
    placed = λ i h.
        let r = item_in_front i h.0 (start_from start l (table_productions table) table.rules.items i h.0 h.1) in (r.0, 0, r.2);
    ascending = start_ascends start l (table_productions table) table.rules.items 0 (λ q rule e. omega arith) is.laid.starts;
    tokens = λ i k h.
        let r = start_from start l (table_productions table) table.rules.items i h.0 h.1 in
        tokens k (subst (λ (x : L). has (marks x) k ≡ true) r.lookahead h.2);
    ordered = λ i own c.
        let r = start_from start l (table_productions table) table.rules.items i own c in
        subst in_order (sym r.lookahead) ordered;
  }

  begun_there : (p : theory.Production) (d : ℕ) → IsBegun (IsSeenIn (table_productions table)) start.0 p d →
      (i : ℕ) × Contains items (i, l) × HasItemAt table i p d
  begun_there p d h =
      let m = in_map production_view (table_productions table) p h.0 in
      let k = contains_get (table_productions table) m.0 m.1 in
      let laid = is.laid.at k.0 m.0 k.1 in (
        laid.rule.start,
        start_to start l (table_productions table) table.rules.items k.0 m.0 laid.rule k.1 laid.at
            (ap (λ (v : theory.Production). v.left) m.2 ∙ h.1),
        record {
          number = k.0;
          rule = laid.rule;
          production = m.0;
          at_rule = laid.at;
          at_production = k.1;
          seen = sym m.2;
          place_is = omega (arith, h.2);
          within = omega (arith, h.2);
        },
      )

  begun_from : (i : ℕ) (own : L) (p : theory.Production) (d : ℕ) → Contains items (i, own) → HasItemAt table i p d →
      IsBegun (IsSeenIn (table_productions table)) start.0 p d
  begun_from i own p d c h =
      let r = item_in_front i own (start_from start l (table_productions table) table.rules.items i own c) in
      let one = (is_item_table table is).one i p r.0 d 0 h r.2 in
      ((is_item_table table is).of_grammar i p d h, ap (λ (v : theory.Production). v.left) one.0 ∙ r.1, one.1)

  pub start_items_are : (Start : theory.Next → Type 0) →
      ((x : theory.Next) → Start x ↔ IsNextIn table.terminals.now (marks l) x) → AreStartItems marks Start table start.0 items
  start_items_are Start same = record {
    begun = λ p d. (
      λ h. begun_from h.0 h.1.0 p d h.1.1 h.2,
      λ b. let r = begun_there p d b in (r.0, (l, r.1), r.2),
    );
    before = λ p d x. (
      λ h. (
        begun_from h.place h.held.0 p d h.held.1 h.item,
        (same x).1 (
          h.number,
          h.small,
          subst (λ (y : L). has (marks y) h.number ≡ true)
              (start_from start l (table_productions table) table.rules.items h.place h.held.0 h.held.1).lookahead h.held.2,
          h.next_is,
        ),
      ),
      λ b. let r = begun_there p d b.0 in
          let n = (same x).0 b.1 in
          record {
            place = r.0;
            number = n.0;
            held = (l, r.1, n.2);
            small = n.1;
            next_is = n.3;
            item = r.2;
          },
    );
  }
