-- In which order states are numbered, and in which their items stand: for the states that are built.
use Rattle.std.proofs.Common.{◌≡◌, ◌∙◌, ◌-◌, ◌<◌, ◌≤◌, ℕ, zero, suc, List, []}
use Rattle.std.proofs.Common.{◌∷◌, Some, Option}
use Rattle.std.proofs.Common.{slice_get, sym, ap, subst, arith, inl, inr, ⊎_elim}
use Rattle.std.proofs.lemmas.Bool.{cases_lt}
use Rattle.lalrpop_grammar_symbols.specs.contracts.names.NonterminalStringOrd.TheImpl as names_order
use Rattle.lalrpop_grammar_repr.specs.contracts.production.ProductionOrd.TheImpl as production_order
use Rattle.lalrpop_lr1_theory.specs.CanonicalStates.{SymbolBefore}
use Rattle.lalrpop_lr1_theory.specs.Productions as theory
use Rattle.lalrpop_lr1_theory.specs.States as states
use Rattle.lalrpop_lr1_theory.proofs.StepLemmas.{some_same}
use Rattle.lalrpop_sets.specs.AscendingLists.{AscendsFrom}
use Rattle.lalrpop_lr1_core.proofs.SortedLemmas.{sorted_at}
use Rattle.lalrpop_lr1_first.specs.NumberedGrammars.{HasItemAt, IsNumberTable, table_names, table_productions}
use Rattle.lalrpop_lr1_first.specs.Tables.{symbol_of_number}
use Rattle.lalrpop_lr1_first.specs.declared.numbered.Numbered.{Numbered}
use Rattle.lalrpop_lr1_first.specs.declared.place.NumberedRule.{NumberedRule}
use Rattle.lalrpop_lr1_first.proofs.TableLemmas.{is_item_table, name_at, table_numbering}
use Rattle.lalrpop_lr1_build.specs.Kernels.{places_of}
use Rattle.lalrpop_lr1_build.specs.BuiltStates.{ItemBefore, TerminalBefore}
use Rattle.lalrpop_lr1_core.specs.TheoryGrammars.{NameBefore}

place_above : {L : Type 0} (xs : List (ℕ × L)) (a k : ℕ) (x : ℕ × L) → AscendsFrom a (places_of xs) → slice_get xs k
    ≡ Some x →
    a ≤ x.0
place_above [] a k x h e = let w : ⊥ = cc in absurd w
place_above {L} (y ∷ xs) a zero x h e =
    let z : y.0 ≡ x.0 = ap (λ (v : ℕ × L). v.0) (some_same y x e) in omega (arith, h.0, z)
place_above (y ∷ xs) a (suc k) x h e = let r = place_above xs (suc y.0) k x h.1 e in omega (arith, h.0, r)

-- in a list in order the places of later elements are greater
pub places_apart : {L : Type 0} (xs : List (ℕ × L)) (a j k : ℕ) (x y : ℕ × L) → AscendsFrom a (places_of xs) → j < k →
    slice_get xs j ≡ Some x → slice_get xs k ≡ Some y → x.0 < y.0
places_apart [] a j k x y h l e f = let w : ⊥ = cc in absurd w
places_apart (z ∷ xs) a j zero x y h l e f = absurd (omega arith)
places_apart {L} (z ∷ xs) a zero (suc k) x y h l e f =
    let w : z.0 ≡ x.0 = ap (λ (v : ℕ × L). v.0) (some_same z x e) in
    let r = place_above xs (suc z.0) k y h.1 f in omega (arith, w, r)
places_apart (z ∷ xs) a (suc j) (suc k) x y h l e f = places_apart xs (suc z.0) j k x y h.1 (omega arith) e f

module _ (table : Numbered) (is : IsNumberTable table) where
  abbrev at : ℕ → Option theory.Symbol
  at = symbol_of_number (table_names table) table.terminals.now

  -- symbols are in the order of their numbers
  pub symbols_before : (r s : ℕ) (y x : theory.Symbol) → r < s → at r ≡ Some y → at s ≡ Some x →
      SymbolBefore NameBefore (TerminalBefore table.terminals.now) y x
  symbols_before r s (theory.nonterminal A) (theory.nonterminal B) l e f =
      let n = name_at table.terminals.now is.terminals (table_names table) is.names r A e in
      let m = name_at table.terminals.now is.terminals (table_names table) is.names s B f in
      subst (λ t. NameBefore t B) n.2 (subst (λ t. NameBefore n.0.0 t) m.2
      (sorted_at (names_order.ghosts).cmp (table_names table) is.names r s n.0 m.0 l n.1 m.1))
  symbols_before r s (theory.nonterminal A) (theory.terminal u) l e f = tt
  symbols_before r s (theory.terminal t) (theory.nonterminal B) l e f =
      let a = (table_numbering table is).terminal_at r t e in
      let b = (table_numbering table is).name_below s B f in
      absurd (omega (arith, a.1, b, l))
  symbols_before r s (theory.terminal t) (theory.terminal u) l e f =
      let a = (table_numbering table is).terminal_at r t e in
      let b = (table_numbering table is).terminal_at s u f in
      record { one = a.0; other = b.0; less = omega (arith, a.1, b.1, l); one_is = a.3; other_is = b.3 }

  module _ (i j : ℕ) (p q : theory.Production) (d e : ℕ) (less : i < j) (h : HasItemAt table i p d) (g : HasItemAt table j q e) where
    -- an item at a smaller place isn't of a later production
    not_later : g.number < h.number → ⊥
    not_later l =
        let starts = is.laid.starts g.number h.number g.rule h.rule l g.at_rule h.at_rule in
        let on : HasItemAt table h.rule.start q (h.rule.start - g.rule.start) = record {
          number = g.number;
          rule = g.rule;
          production = g.production;
          at_rule = g.at_rule;
          at_production = g.at_production;
          seen = g.seen;
          place_is = omega (arith, starts);
          within = omega (arith, starts, less, h.place_is, g.place_is, g.within);
        } in
        let front : HasItemAt table h.rule.start p 0 = record {
          number = h.number;
          rule = h.rule;
          production = h.production;
          at_rule = h.at_rule;
          at_production = h.at_production;
          seen = h.seen;
          place_is = omega arith;
          within = omega arith;
        } in
        let one = (is_item_table table is).one h.rule.start q p (h.rule.start - g.rule.start) 0 on front in
        let w : ⊥ = omega (arith, one.1, starts) in w

    -- items are in the order of their places
    pub items_before : (a b : states.LookaheadSet) →
        ItemBefore (record { production = p; dot = d; lookahead = a }) (record { production = q; dot = e; lookahead = b })
    items_before a b = record {
      one = h.production;
      other = g.production;
      one_is = h.seen;
      other_is = g.seen;
      before = ⊎_elim
          (λ (l : h.number < g.number). inl (sorted_at (production_order.ghosts).cmp (table_productions table) is.productions h.number
          g.number h.production g.production l h.at_production g.at_production))
          (λ (l : g.number ≤ h.number). ⊎_elim
          (λ (m : g.number < h.number). absurd (not_later m))
          (λ (m : h.number ≤ g.number). inr (same (omega (arith, l, m))))
          (cases_lt g.number h.number))
          (cases_lt h.number g.number);
    }
      where
        same : h.number ≡ g.number → (h.production ≡ g.production) × (d < e)
        same n =
            let rule : h.rule ≡ g.rule = some_same h.rule g.rule (sym h.at_rule ∙ ap (slice_get table.rules.items) n ∙ g.at_rule) in
            let start : h.rule.start ≡ g.rule.start = ap (λ (r : NumberedRule). r.start) rule in (
              some_same h.production g.production (sym h.at_production ∙ ap (slice_get (table_productions table)) n ∙ g.at_production),
              omega (arith, start, less, h.place_is, g.place_is),
            )
