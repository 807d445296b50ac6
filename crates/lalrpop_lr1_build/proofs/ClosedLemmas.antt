-- A kernel merged with what closes it is its closure: for the items of a state.
use Rattle.std.proofs.Common.{ℕ, Bool, List, ◌++◌, inl, inr, ⊎_elim}
use Rattle.std.proofs.lemmas.List.Elements.{Contains-append_cases, Contains-append_left, Contains-append_right}
use Rattle.lalrpop_lr1_first.specs.ClosureTables.{AreItems, ClosesSeed, HoldTokens}
use Rattle.lalrpop_lr1_first.specs.FirstNumbers.{table_end}
use Rattle.lalrpop_lr1_first.specs.ItemTables.{HasMark, HasPlace}
use Rattle.lalrpop_lr1_first.specs.declared.numbered.Numbered.{Numbered}
use Rattle.lalrpop_lr1_build.specs.Kernels.{AreKernelItems, IsClosureOf}
use Rattle.lalrpop_lr1_build.specs.Merges.{Merges}

module _ {L : Type 0} (marks : L → List ℕ) (firsts : Bool) (in_order : L → Type 0) (table : Numbered)
    (kernel brought items : List (ℕ × L)) (are : AreKernelItems marks in_order table kernel) (placed : AreItems table brought)
    (tokens : HoldTokens marks (table_end table) brought) (closes : ClosesSeed marks firsts table kernel brought)
    (merges : Merges marks in_order kernel brought items) where
  place_to : (i : ℕ) → HasPlace items i → HasPlace (kernel ++ brought) i
  place_to i h = ⊎_elim
      (λ k. (k.0, Contains-append_left kernel brought (i, k.0) k.1))
      (λ b. (b.0, Contains-append_right kernel brought (i, b.0) b.1)) ((merges.places i).0 h)

  place_from : (i : ℕ) → HasPlace (kernel ++ brought) i → HasPlace items i
  place_from i h = (merges.places i).1 (⊎_elim
      (λ c. inl (h.0, c))
      (λ c. inr (h.0, c)) (Contains-append_cases kernel brought (i, h.0) h.1))

  mark_to : (i k : ℕ) → HasMark marks items i k → HasMark marks (kernel ++ brought) i k
  mark_to i k h = ⊎_elim
      (λ x. (x.0, Contains-append_left kernel brought (i, x.0) x.1, x.2))
      (λ b. (b.0, Contains-append_right kernel brought (i, b.0) b.1, b.2)) ((merges.marks_are i k).0 h)

  mark_from : (i k : ℕ) → HasMark marks (kernel ++ brought) i k → HasMark marks items i k
  mark_from i k h = (merges.marks_are i k).1 (⊎_elim
      (λ c. inl (h.0, c, h.2))
      (λ c. inr (h.0, c, h.2)) (Contains-append_cases kernel brought (i, h.0) h.1))

  pub closed_by : IsClosureOf marks firsts in_order table kernel items
  closed_by = record {
    are_items = record {
      placed = λ i h. ⊎_elim (λ k. are.placed i k) (λ b. placed i b) ((merges.places i).0 h);
      ascending = merges.ascending;
      tokens = λ i k h. ⊎_elim (λ x. are.tokens i k x) (λ b. tokens i k b) ((merges.marks_are i k).0 h);
      ordered = merges.ordered;
    };
    closure = λ p d. (
      λ h. (closes.items p d).0 (h.0, place_to h.0 h.1, h.2),
      λ m. let r = (closes.items p d).1 m in (r.0, place_from r.0 r.1, r.2),
    );
    nexts = λ p d x. (
      λ h. (closes.nexts p d x).0 (record {
        place = h.place;
        number = h.number;
        held = mark_to h.place h.number h.held;
        small = h.small;
        next_is = h.next_is;
        item = h.item;
      }),
      λ m. let r = (closes.nexts p d x).1 m in record {
        place = r.place;
        number = r.number;
        held = mark_from r.place r.number r.held;
        small = r.small;
        next_is = r.next_is;
        item = r.item;
      },
    );
  }
