-- A seed with no nonterminal behind any dot brings nothing: for closures that end at once.
use Rattle.std.proofs.Common.{◌≡◌, ◌∙◌, ◌↔◌, ℕ, zero, suc, ◌+◌, Bool, false, true, List, [], ◌∷◌, ◌++◌, length, get_or, refl, sym, ap}
use Rattle.std.proofs.Common.{Option, Some, None}
use Rattle.std.proofs.lemmas.List.Elements.{All-contains}
use Rattle.std.specs.Prelude.{is_some}
use Rattle.lalrpop_sets.specs.AscendingLists.{has}
use Rattle.lalrpop_lr1_first.specs.ClosureTables.{HasEmptyClosure, SeedsAll, name_behind, started_items, started_with}
use Rattle.lalrpop_lr1_first.specs.FirstNumbers.{name_count, table_end}
use Rattle.lalrpop_lr1_first.specs.Flows.{FlowEdge, Flows, all_marks, begins, brings, passes, slot_marks, starts}
use Rattle.lalrpop_lr1_first.specs.Numbers.{set_of_number}
use Rattle.lalrpop_lr1_first.specs.Tables.{rest_of}
use Rattle.lalrpop_lr1_first.specs.declared.numbered.Numbered.{Numbered}
use Rattle.lalrpop_lr1_first.specs.declared.place.NumberedRule.{NumberedRule}
use Rattle.lalrpop_lr1_first.proofs.FlowLemmas.{at_all_marks}
use Rattle.lalrpop_lr1_first.proofs.SeedLemmas.{no_name, seeds_none}

-- as many empty slots
abbrev pub empties : (L : Type 0) → ℕ → List (Option L)
empties L zero = []
empties L (suc n) = None ∷ empties L n

empties_long : (L : Type 0) (n : ℕ) → length (empties L n) ≡ n
empties_long L zero = refl
empties_long L (suc n) = ap suc (empties_long L n)

empty_at : (L : Type 0) (n s : ℕ) → get_or (empties L n) s None ≡ None
empty_at L zero s = refl
empty_at L (suc n) zero = refl
empty_at L (suc n) (suc s) = empty_at L n s

-- an option that isn't some is none
pub is_none : (o : Option ℕ) → is_some o ≡ false → o ≡ None
is_none None e = refl
is_none (Some x) e = cc

-- what has no seed doesn't flow
nothing_flows : (firsts : Bool) (end : ℕ) (edges : List FlowEdge) (seed : List (List ℕ)) →
    ((s k : ℕ) → has (set_of_number seed s) k ≡ true → ⊥) → {s k : ℕ} → Flows firsts end edges seed s k → ⊥
nothing_flows firsts end edges seed none (begins s k h) = none s k h
nothing_flows firsts end edges seed none (brings r e there d) = nothing_flows firsts end edges seed none d
nothing_flows firsts end edges seed none (starts r e k there d f h) = nothing_flows firsts end edges seed none d
nothing_flows firsts end edges seed none (passes r e k there d h d') = nothing_flows firsts end edges seed none d

-- no rule is started from empty slots
pub nothing_started : (L : Type 0) (n : ℕ) (rules : List NumberedRule) → [] ≡ started_items (empties L n) rules
nothing_started L n [] = refl
nothing_started L n (rule ∷ rules) =
    nothing_started L n rules
    ∙ ap (λ (o : Option L). started_with rule.start o ++ started_items (empties L n) rules) (sym (empty_at L n rule.left))

module _ {L : Type 0} (marks : L → List ℕ) (firsts : Bool) (table : Numbered) (rests : List (List ℕ)) (seed : List (ℕ × L))
    (nothing : HasEmptyClosure table seed) where
  abbrev end : ℕ
  end = table_end table

  abbrev slots : List (Option L)
  slots = empties L (name_count table)

  no_mark : (s k : ℕ) → has (set_of_number (all_marks marks (end + 2) slots) s) k ≡ true → ⊥
  no_mark s k h =
      let z : false ≡ true = sym (ap (λ t. has t k) (at_all_marks marks (end + 2) slots s
      ∙ ap (slot_marks marks (end + 2)) (empty_at L (name_count table) s))) ∙ h in cc

  -- empty slots have what the seed brings
  pub nothing_seeded : SeedsAll marks firsts table rests seed slots
  nothing_seeded =
      let none = seeds_none marks firsts table rests slots (empties_long L (name_count table)) (empty_at L (name_count table)) in
      record {
        count = none.count;
        within = none.within;
        brought = λ s k. (
          λ h. absurd (no_mark s k h),
          λ b. absurd (no_name (name_count table) (rest_of table.places.items b.place)
              (All-contains (λ item. name_behind table item.0 ≡ None) seed (b.place, b.lookahead) nothing b.held) s b.more b.rest b.name),
        );
      }

  -- and nothing flows from them
  pub nothing_flown : (edges : List FlowEdge) (s k : ℕ) → (has (set_of_number (all_marks marks (end + 2) slots) s) k ≡ true)
      ↔ Flows firsts end edges (all_marks marks (end + 2) slots) s k
  nothing_flown edges s k = (
    λ h. absurd (no_mark s k h),
    λ f. absurd (nothing_flows firsts end edges (all_marks marks (end + 2) slots) no_mark f),
  )
