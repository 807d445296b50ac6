-- Items with the dot in front by numbers of productions and of names, and as the theory sees them: for the test of items of names.
use Rattle.std.proofs.Common.{◌≡◌, ◌∙◌, ◌↔◌, ℕ, Bool, List, refl, sym, ap, subst}
use Rattle.std.proofs.Common.{arith, Contains, Some, slice_get}
use Rattle.std.proofs.lemmas.Option.{slice_get_within}
use Rattle.lalrpop_grammar_symbols.specs.Symbols.{Text}
use Rattle.lalrpop_grammar_repr.specs.declared.production.Production.{Production}
use Rattle.lalrpop_lr1_theory.specs.Productions as theory
use Rattle.lalrpop_lr1_theory.proofs.ListLemmas.{contains_get, get_contains}
use Rattle.lalrpop_lr1_theory.proofs.StepLemmas.{some_same}
use Rattle.lalrpop_lr1_core.specs.Views.{production_view}
use Rattle.lalrpop_lr1_core.specs.declared.item.Item.{Item}
use Rattle.lalrpop_lr1_core.proofs.MemberLemmas.{in_map, map_has}
use Rattle.lalrpop_lr1_first.specs.NumberedGrammars.{IsNumberTable, IsSeenIn, table_productions}
use Rattle.lalrpop_lr1_first.specs.declared.numbered.Numbered.{Numbered}
use Rattle.lalrpop_lr1_first.specs.declared.place.NumberedRule.{NumberedRule}
use Rattle.lalrpop_lr1_barren.specs.Clauses.{IsMarked}
use Rattle.lalrpop_lr1_barren.specs.NameMarks.{IsNumberOf}
use Rattle.lalrpop_lr1_check_lookaheads.specs.ListTests.{HoldsAtEach}
use Rattle.lalrpop_lr1_check_lookaheads.proofs.MoveLemmas.{get_long}
use Rattle.lalrpop_lr1_check_lookaheads.proofs.SeenLemmas.{same_view}
use Rattle.lalrpop_lr1_check.specs.BeginClauses.{AreMarksOf}
use Rattle.lalrpop_lr1_check.specs.MarkGains.{IsMarkOfSome}
use Rattle.lalrpop_lr1_check.specs.NamesBehind.{HasSeenItem}
use Rattle.lalrpop_lr1_check.specs.UnmovedItems.{AreItemsOf, AreUnmovedOf, IsKnownUnmoved, IsUnmovedAt}

module _ {L : Type 0} (table : Numbered) (is : IsNumberTable table) (names : List Bool) (Name : Text → Type 0)
    (marks : AreMarksOf table names Name) (items : List (Item L)) where
  abbrev G : theory.Production → Type 0
  G = IsSeenIn (table_productions table)

  -- the rule of a production, with its name's number
  left_of : (r : ℕ) (p : Production) → slice_get (table_productions table) r ≡ Some p →
      (rule : NumberedRule) × (slice_get table.rules.items r ≡ Some rule) × IsNumberOf table rule.left p.nonterminal.0
  left_of r p e = let l = is.laid.at r p e in (l.rule, l.at, l.left)

  -- the production of a rule, with its name's number
  production_at : (r : ℕ) (rule : NumberedRule) → slice_get table.rules.items r ≡ Some rule →
      (p : Production) × (slice_get (table_productions table) r ≡ Some p) × IsNumberOf table rule.left p.nonterminal.0
  production_at r rule e =
      let p = get_long (table_productions table) r (omega (arith, slice_get_within table.rules.items r rule e, is.laid.count)) in
      let l = left_of r p.0 p.1 in
      (p.0, p.1, subst (λ (x : NumberedRule). IsNumberOf table x.left p.0.nonterminal.0) (some_same l.0 rule (sym l.1 ∙ e)) l.2)

  seen_of : (p : Production) → Contains (table_productions table) p → G (production_view p)
  seen_of p c = map_has production_view (table_productions table) p c

  of_seen : (p : Production) → G (production_view p) → Contains (table_productions table) p
  of_seen p g =
      let m = in_map production_view (table_productions table) (production_view p) g in
      subst (Contains (table_productions table)) (same_view m.0 p m.2) m.1

  -- by numbers, and so as they are seen
  pub unmoved_seen : AreUnmovedOf table names items → AreItemsOf G items Name
  unmoved_seen a q = (λ h. forth h.item h.listed h.dot h.production, λ h. back h.0 h.1)
    where
      forth : (item : Item L) → Contains items item → item.index ≡ 0 → production_view item.production.now ≡ q →
          G q × Name q.left
      forth item c unmoved view =
          let p = item.production.now in
          let at_item = contains_get items item c in
          let known : Contains (table_productions table) p = a.known at_item.0 item at_item.1 unmoved in
          let k = contains_get (table_productions table) p known in
          let l = left_of k.0 p k.1 in
          let mark = (a.marked k.0 l.0 l.1).0 (item, c, (unmoved, k.1)) in (
            subst G view (seen_of p known),
            subst (λ (v : theory.Production). Name v.left) view ((marks l.0.left p.nonterminal.0 l.2).0 mark),
          )

      back : G q → Name q.left → HasSeenItem items q 0
      back g name =
          let m = in_map production_view (table_productions table) q g in
          let p = m.0 in
          let k = contains_get (table_productions table) p m.1 in
          let l = left_of k.0 p k.1 in
          let own : Name p.nonterminal.0 = subst (λ (v : theory.Production). Name v.left) (sym m.2) name in
          let some = (a.marked k.0 l.0 l.1).1 ((marks l.0.left p.nonterminal.0 l.2).1 own) in
          let same : some.0.production.now ≡ p = some_same some.0.production.now p (sym some.2.1 ∙ k.1) in
          record {
            item = some.0;
            listed = some.1;
            production = ap production_view same ∙ m.2;
            dot = some.2.0;
          }

  -- as they are seen, and so by numbers
  pub seen_unmoved : AreItemsOf G items Name → AreUnmovedOf table names items
  seen_unmoved h = record {
    known = λ k item e unmoved. of_seen item.production.now ((h (production_view item.production.now)).0 (seen item
        (get_contains items k item e) unmoved)).0;
    marked = λ r rule e. (forth r rule e, back r rule e);
  }
    where
      seen : (item : Item L) → Contains items item → item.index ≡ 0 → HasSeenItem items (production_view item.production.now) 0
      seen item c unmoved = record { item = item; listed = c; production = refl; dot = unmoved }

      forth : (r : ℕ) (rule : NumberedRule) → slice_get table.rules.items r ≡ Some rule →
          IsMarkOfSome (IsUnmovedAt table) items r → IsMarked names rule.left
      forth r rule e some =
          let p = production_at r rule e in
          let same : some.0.production.now ≡ p.0 = some_same some.0.production.now p.0 (sym some.2.1 ∙ p.1) in
          let name = ((h (production_view some.0.production.now)).0 (seen some.0 some.1 some.2.0)).1 in
          (marks rule.left p.0.nonterminal.0 p.2).1
          (subst (λ (x : Production). Name x.nonterminal.0) same name)

      back : (r : ℕ) (rule : NumberedRule) → slice_get table.rules.items r ≡ Some rule →
          IsMarked names rule.left → IsMarkOfSome (IsUnmovedAt table) items r
      back r rule e mark =
          let p = production_at r rule e in
          let g = seen_of p.0 (get_contains (table_productions table) r p.0 p.1) in
          let there = (h (production_view p.0)).1 (g, (marks rule.left p.0.nonterminal.0 p.2).0 mark) in
          let same : there.item.production.now ≡ p.0 = same_view there.item.production.now p.0 there.production in
          (there.item, there.listed, (there.dot, p.1 ∙ ap Some (sym same)))

-- the two parts of the test by numbers
module _ {L : Type 0} (table : Numbered) (names productions : List Bool) (items : List (Item L))
    (same : (r : ℕ) → IsMarked productions r ↔ IsMarkOfSome (IsUnmovedAt table) items r) where
  pub parts_unmoved : HoldsAtEach (λ _ item. IsKnownUnmoved table item) items →
      HoldsAtEach (λ r rule. IsMarked productions r ↔ IsMarked names rule.left) table.rules.items → AreUnmovedOf table names items
  parts_unmoved known alike = record {
    known = known;
    marked = λ r rule e. (λ h. (alike r rule e).0 ((same r).1 h), λ m. (same r).0 ((alike r rule e).1 m));
  }

  pub unmoved_alike : AreUnmovedOf table names items →
      HoldsAtEach (λ r rule. IsMarked productions r ↔ IsMarked names rule.left) table.rules.items
  unmoved_alike a r rule e = (λ m. (a.marked r rule e).0 ((same r).0 m), λ m. (same r).1 ((a.marked r rule e).1 m))
