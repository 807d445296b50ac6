-- Barren names by trees and by marks, and the least of them: for the search.
use Rattle.std.proofs.Common.{◌≡◌, ◌∙◌, ◌↔◌, ◌⊎◌, ℕ, zero, suc, ◌<◌, List, refl, ap, sym}
use Rattle.std.proofs.Common.{subst, inl, inr, arith}
use Rattle.std.proofs.Common.{Bool, true, false, Contains, Option, None, Some, slice_get}
use Rattle.std.specs.Prelude.{IsTrue, is_some, not}
use Rattle.lalrpop_grammar_symbols.specs.Symbols.{Text}
use Rattle.lalrpop_grammar_symbols.specs.contracts.names.NonterminalStringOrd.TheImpl as names_order
use Rattle.lalrpop_grammar_symbols.specs.declared.names.NonterminalString.{NonterminalString}
use Rattle.lalrpop_grammar_repr.specs.declared.grammar.Grammar.{Grammar}
use Rattle.lalrpop_lr1_theory.specs.Productions as theory
use Rattle.lalrpop_lr1_theory.specs.ValidItems.{IsBarren, NoneBarren, Reaches, itself, onward}
use Rattle.lalrpop_lr1_theory.specs.Trees.{AreOver, Forest, leaf, node, none}
use Rattle.lalrpop_lr1_theory.proofs.ListLemmas.{get_contains}
use Rattle.lalrpop_lr1_theory.proofs.NameLemmas.{name_reached, none_barren_productive, productive_tree, reached_name, tree_productive}
use Rattle.lalrpop_lr1_core.specs.Views.{production_view}
use Rattle.lalrpop_lr1_first.specs.FirstNumbers.{name_count}
use Rattle.lalrpop_lr1_core.specs.TheoryGrammars.{productions_of_grammar}
use Rattle.lalrpop_lr1_first.specs.NumberedGrammars.{IsNumberTable, IsNumberTableOf, IsSeenIn, table_names, table_productions}
use Rattle.lalrpop_lr1_first.specs.declared.numbered.Numbered.{Numbered}
use Rattle.lalrpop_lr1_first.proofs.TableFirstLemmas.{seen_same}
use Rattle.lalrpop_lr1_first.proofs.TableLemmas.{name_at}
use Rattle.lalrpop_lr1_core.specs.TheoryGrammars.{NameBefore, theory_grammar}
use Rattle.lalrpop_lr1_core.proofs.SortedLemmas.{sorted_at}
use Rattle.lalrpop_lr1_barren.specs.Clauses.{IsMarked}
use Rattle.lalrpop_lr1_barren.specs.NameMarks.{AreProductive, AreReached, IsNumberOf}
use Rattle.lalrpop_lr1_barren.proofs.NameLemmas.{productive_there, reached_number, rule_there}
use Rattle.lalrpop_lr1_barren.specs.LeastBarren.{IsFirstMissing, IsFirstMissingAt, IsLeastBarren}

-- the same productions have the same barren names

module _ (G H : theory.Production → Type 0) (more : (p : theory.Production) → G p → H p) where
  over_more : (ts : Forest) → AreOver G ts → AreOver H ts
  over_more none over = tt
  over_more (leaf t ts) over = over_more ts over
  over_more (node p cs ts) over = (more p over.0, over.1, over_more cs over.2, over_more ts over.3)

  reaches_more : (s A : Text) → Reaches G s A → Reaches H s A
  reaches_more s _ itself = itself
  reaches_more s _ (onward p B r g c) = onward p B (reaches_more s p.left r) (more p g) c

module _ (G H : theory.Production → Type 0) (same : (p : theory.Production) → G p ↔ H p) where
  barren_same : (s A : Text) → IsBarren G s A → IsBarren H s A
  barren_same s A b = (
    reaches_more G H (λ p. (same p).0) s A b.0,
    λ ts t. b.1 ts (t.0, over_more H G (λ p. (same p).1) ts t.1),
  )

  least_same : (back : (p : theory.Production) → H p ↔ G p) (s : Text) (found : Option NonterminalString) → IsLeastBarren G s found
      → IsLeastBarren H s found
  least_same back s None h = λ A r.
      let k = h A (reaches_more H G (λ p. (same p).1) s A r) in (k.0, (k.1.0, over_more G H (λ p. (same p).0) k.0 k.1.1))
  least_same back s (Some n) h = record {
    barren = barren_same s n.0 h.barren;
    least = λ B b. h.least B (other B b);
  }
    where
      other : (B : Text) → IsBarren H s B → IsBarren G s B
      other B b = (
        reaches_more H G (λ p. (same p).1) s B b.0,
        λ ts t. b.1 ts (t.0, over_more G H (λ p. (same p).0) ts t.1),
      )

-- what is told of a grammar's table is told of the grammar
pub table_least : (g : Grammar) (table : Numbered) → IsNumberTableOf g table → (s : Text) (found : Option NonterminalString)
    → IsLeastBarren (IsSeenIn (table_productions table)) s found → IsLeastBarren (Contains (theory_grammar g)) s found
table_least g table of s found h =
    let there : (p : theory.Production) → IsSeenIn (table_productions table) p → Contains (theory_grammar g) p =
    seen_same production_view (table_productions table) (productions_of_grammar g) of.productions in
    let back : (p : theory.Production) → Contains (theory_grammar g) p → IsSeenIn (table_productions table) p =
    seen_same production_view (productions_of_grammar g) (table_productions table)
    (λ x. ((of.productions x).1, (of.productions x).0)) in
    least_same (IsSeenIn (table_productions table)) (Contains (theory_grammar g)) (λ p. (there p, back p)) (λ p. (back p, there p)) s
    found h

module _ (table : Numbered) (is : IsNumberTable table) where
  abbrev G : theory.Production → Type 0
  G = IsSeenIn (table_productions table)

  -- a start that is no name of the table is barren, and reaches nothing else
  module _ (start : NonterminalString) (absent : Contains (table_names table) start → ⊥) where
    reaches_alone : {A : Text} → Reaches G start.0 A → A ≡ start.0
    reaches_alone itself = refl
    reaches_alone (onward p B r g c) = absurd (absent (here (reaches_alone r)))
      where
        here : p.left ≡ start.0 → Contains (table_names table) start
        here e =
            let h = rule_there table is p g in
            let m = name_at table.terminals.now is.terminals (table_names table) is.names h.0.left p.left h.1.left in
            let same : m.0 ≡ start = ap (λ (t : Text). record { 0 = t }) (m.2 ∙ e) in
            subst (Contains (table_names table)) same (get_contains (table_names table) h.0.left m.0 m.1)

    pub absent_least : IsLeastBarren G start.0 (Some start)
    absent_least = record {
      barren = (itself, λ ts t. absent (productive_there table is start (tree_productive G start.0 ts t)));
      least = λ B b. inl (reaches_alone b.0);
    }

  -- by marks of the names that are reached, and of those with trees
  module _ (start : NonterminalString) (number : ℕ) (number_is : IsNumberOf table number start.0) (reached productive : List _)
      (are_reached : AreReached table number reached) (are_productive : AreProductive table productive)
      (within : (n : ℕ) → IsMarked reached n → n < name_count table) where
    -- each barren name has a number that is marked in the first and not in the second
    barren_number : (B : Text) → IsBarren G start.0 B
        → (n : ℕ) × IsNumberOf table n B × IsMarked reached n × (IsMarked productive n → ⊥)
    barren_number B b =
        let r = reached_name G start.0 b.0 in
        let n = reached_number table is start.0 number number_is r in (
          n.0,
          n.1,
          (are_reached start.0 number_is n.0 B n.1).1 r,
          λ m. let t = productive_tree G ((are_productive n.0 B n.1).0 m) in b.1 t.0 t.1,
        )

    pub none_least : IsFirstMissing reached productive None → IsLeastBarren G start.0 None
    none_least all =
        (none_barren_productive G start.0).1 (λ A r.
        let n = reached_number table is start.0 number number_is r in
        (are_productive n.0 A n.1).0 (all n.0 ((are_reached start.0 number_is n.0 A n.1).1 r)))

    pub first_least : (k : ℕ) → IsFirstMissingAt reached productive k → (n : NonterminalString)
        → slice_get (table_names table) k ≡ Some n → IsNumberOf table k n.0 → IsLeastBarren G start.0 (Some n)
    first_least k h n at number_of = record {
      barren = (
        name_reached G start.0 ((are_reached start.0 number_is k n.0 number_of).0 h.marked),
        λ ts t. h.lacks ((are_productive k n.0 number_of).1 (tree_productive G n.0 ts t)),
      );
      least = λ B b. go B (barren_number B b);
    }
      where
        order : (B : Text) (j : ℕ) → IsNumberOf table j B → (j ≡ k) ⊎ (k < j) → (B ≡ n.0) ⊎ NameBefore n.0 B
        order B j e (inl same) =
            let m = name_at table.terminals.now is.terminals (table_names table) is.names j B e in
            let one : m.0 ≡ n = some_one m.0 (sym m.1 ∙ ap (slice_get (table_names table)) same ∙ at) in
            inl (sym m.2 ∙ ap (λ (x : NonterminalString). x.0) one)
          where
            some_one : (x : NonterminalString) → Some x ≡ Some n → x ≡ n
            some_one x e = cc
        order B j e (inr later) =
            let m = name_at table.terminals.now is.terminals (table_names table) is.names j B e in
            inr (subst (NameBefore n.0) m.2 (sorted_at (names_order.ghosts).cmp (table_names table) is.names k j n m.0 later at m.1))

        cases : (j i : ℕ) → (j < i → ⊥) → (j ≡ i) ⊎ (i < j)
        cases zero zero h = inl refl
        cases zero (suc i) h = absurd (h (omega arith))
        cases (suc j) zero h = inr (omega arith)
        cases (suc j) (suc i) h = past (cases j i (λ l. h (omega (arith, l))))
          where
            past : (j ≡ i) ⊎ (i < j) → (suc j ≡ suc i) ⊎ (suc i < suc j)
            past (inl e) = inl (ap suc e)
            past (inr l) = inr (omega (arith, l))

        go : (B : Text) → ((j : ℕ) × IsNumberOf table j B × IsMarked reached j × (IsMarked productive j → ⊥))
            → (B ≡ n.0) ⊎ NameBefore n.0 B
        go B (j, e, m, lacks) = order B j e (cases j k (λ l. lacks (h.before j l m)))

-- a least barren nonterminal is there unless none is
pub none_is_found : (G : theory.Production → Type 0) (s : Text) (found : Option NonterminalString) (none : Bool)
    → is_some found ≡ not none → IsLeastBarren G s found → IsTrue none ↔ NoneBarren G s
none_is_found G s None true e least = (λ h. least, λ h. refl)
none_is_found G s None false e least = let w : ⊥ = cc in absurd w
none_is_found G s (Some n) true e least = let w : ⊥ = cc in absurd w
none_is_found G s (Some n) false e least = (
  λ h. let w : ⊥ = cc in absurd w,
  λ h. let t = h n.0 least.barren.0 in absurd (least.barren.1 t.0 t.1),
)
