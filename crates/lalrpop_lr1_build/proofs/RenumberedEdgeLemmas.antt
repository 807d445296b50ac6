-- Edges that are renumbered one after another, in order of their keys: for the maps of states that are put together.
use Rattle.std.proofs.Common.{◌≡◌, ◌∙◌, ℕ, ◌<◌, All, List, [], ◌∷◌, ◌++◌, map, ap, subst, sym, Some}
use Rattle.std.specs.BTreeMap.{insert_entry}
use Rattle.std.specs.Cmp.{IsTotalOrder}
use Rattle.std.specs.List.Sorted.{IsStrictlySortedBy}
use Rattle.std.specs.Map.{keys_of}
use Rattle.std.specs.Prelude.{slice_get, slice_index_or}
use Rattle.std.specs.declared.cmp.Ordering.{Ordering}
use Rattle.std.proofs.lemmas.List.{map-append}
use Rattle.std.proofs.lemmas.List.Elements.{All-contains}
use Rattle.std.proofs.lemmas.Map.Made.{keys_of-map_values}
use Rattle.lalrpop_grammar_symbols.specs.declared.names.NonterminalString.{NonterminalString}
use Rattle.lalrpop_grammar_symbols.specs.declared.terminal.TerminalString.{TerminalString}
use Rattle.lalrpop_lr1_theory.proofs.ListLemmas.{get_contains}
use Rattle.lalrpop_lr1_core.specs.declared.state.State.{State}
use Rattle.lalrpop_lr1_core.specs.declared.state_index.StateIndex.{StateIndex}
use Rattle.lalrpop_lr1_first.proofs.NameLemmas.{insert_entry-last}
use Rattle.lalrpop_lr1_build.specs.Renumbering.{HaveTargetsWithin, renumber}
use Rattle.lalrpop_lr1_build.proofs.ListLemmas.{map_last}

-- one edge more
module _ {K : Type 0} {R : K → K → Ordering} (total : IsTotalOrder R) (numbers : List ℕ) where
  abbrev numbered : StateIndex → StateIndex
  numbered to = record { 0 = slice_index_or numbers to.0 0 }

  pub renumbered_more : (whole done left rest old new : List (K × StateIndex)) (k : K) (to : StateIndex) →
      IsStrictlySortedBy R (keys_of whole) → done ++ left ≡ whole → left ≡ (k, to) ∷ rest →
      old ≡ map (renumber numbers) done →
      new ≡ insert_entry R old k (numbered to) → new ≡ map (renumber numbers) (done ++ (k, to) ∷ [])
  renumbered_more whole done left rest old new k to sorted so first before inserted =
      inserted ∙ ap (λ es. insert_entry R es k (numbered to)) before
      ∙ insert_entry-last total.antisymm (map (renumber numbers) done) k (numbered to) (map (renumber numbers) rest)
      (subst (IsStrictlySortedBy R) (sym keys) sorted)
      ∙ sym (map_last (renumber numbers) done (k, to))
    where
      all : done ++ (k, to) ∷ rest ≡ whole
      all = ap (λ l. done ++ l) (sym first) ∙ so

      keys : keys_of (map (renumber numbers) done ++ (k, numbered to) ∷ map (renumber numbers) rest) ≡ keys_of whole
      keys = ap keys_of (sym (map-append (renumber numbers) done ((k, to) ∷ rest)))
          ∙ keys_of-map_values numbered (done ++ (k, to) ∷ rest) ∙ ap keys_of all

-- the edges of a state at a place
pub targets_at : (count : ℕ) (states : List (State (List ℕ))) (place : ℕ) (state : State (List ℕ)) →
    HaveTargetsWithin count states →
    slice_get states place ≡ Some state →
    All (λ (z : TerminalString × StateIndex). z.1.0 < count) state.shifts
    × All (λ (z : NonterminalString × StateIndex). z.1.0 < count) state.gotos
targets_at count states place state targets e =
    All-contains (λ (st : State (List ℕ)). All (λ (z : TerminalString × StateIndex). z.1.0 < count) st.shifts
    × All (λ (z : NonterminalString × StateIndex). z.1.0 < count) st.gotos) states state targets (get_contains states place state e)
