-- What first sets say of rests: for the tokens that can come first, and for rests that derive nothing.
use Rattle.std.proofs.Common.{◌≡◌, ◌∙◌, ◌↔◌, ℕ, ◌<◌, ◌≤◌, Bool, true, false, ◌&&◌, List, None}
use Rattle.std.proofs.Common.{length, refl, sym, ap, subst, arith, slice_get, nat_eq, zero, suc, [], ◌∷◌}
use Rattle.std.specs.Prelude.{not}
use Rattle.std.proofs.lemmas.Bool.Decides.{Decides-eqb}
use Rattle.lalrpop_grammar_repr.specs.declared.grammar.Grammar.{Grammar}
use Rattle.lalrpop_lr1_theory.specs.Productions as theory
use Rattle.lalrpop_lr1_theory.specs.FirstSets.{First0}
use Rattle.lalrpop_lr1_core.specs.Views.{next_of_number}
use Rattle.lalrpop_grammar_symbols.specs.Views.{terminal_view}
use Rattle.std.specs.Prelude.{option_map}
use Rattle.lalrpop_sets.specs.AscendingLists.{has}
use Rattle.lalrpop_sets.specs.Tokens.{eof_number}
use Rattle.lalrpop_lr1_first.specs.FirstSetsOf.{IsFirstSet, IsProductionOf}
use Rattle.lalrpop_grammar_repr.proofs.EqualLemmas.{both_parts}

not_true : (b : Bool) → not b ≡ true → b ≡ true → ⊥
not_true true e f = cc
not_true false e f = cc

not_false : (b : Bool) → (b ≡ true → ⊥) → not b ≡ true
not_false true h = absurd (h refl)
not_false false h = refl

both_hold : (a b : Bool) → a ≡ true → b ≡ true → (a && b) ≡ true
both_hold a b e f = ap (λ x. x && b) e ∙ f

-- the tokens that can come first, without the end
pub tokens_are : (g : Grammar) (xs : List theory.Symbol) (all set : List ℕ) → IsFirstSet g xs all →
    ((j : ℕ) → has set j ≡ (not (nat_eq j (eof_number g.terminals)) && has all j)) → (k : ℕ) →
    (has set k ≡ true) ↔ ((k < eof_number g.terminals) × First0 (IsProductionOf g) xs (next_of_number g.terminals k))
tokens_are g xs all set is gone k = (
  λ e.
      let p = both_parts (not (nat_eq k (eof_number g.terminals))) (has all k) (sym (gone k) ∙ e) in
      let f = (is k).0 p.1 in
      let apart : k ≡ eof_number g.terminals → ⊥ = λ z. not_true (nat_eq k (eof_number g.terminals)) p.0
      ((Decides-eqb k (eof_number g.terminals)).1 z) in
      (omega (arith, f.0, apart), f.1),
  λ h. gone k ∙ both_hold (not (nat_eq k (eof_number g.terminals))) (has all k)
      (not_false (nat_eq k (eof_number g.terminals)) (λ e.
      let z : k ≡ eof_number g.terminals = (Decides-eqb k (eof_number g.terminals)).0 e in omega (arith, h.0, z)))
      ((is k).1 (omega (arith, h.0), h.1)),
)

get_past : {X : Type 0} (xs : List X) (k : ℕ) → length xs ≤ k → slice_get xs k ≡ None
get_past [] k h = refl
get_past (x ∷ xs) zero h = absurd (omega (arith, h))
get_past (x ∷ xs) (suc k) h = get_past xs k (omega (arith, h))

-- the end's number is the end's
pub end_is : (g : Grammar) → next_of_number g.terminals (eof_number g.terminals) ≡ None
end_is g = ap (option_map terminal_view) (get_past g.terminals.all (eof_number g.terminals) (omega arith))

-- the first set of symbols has the number of the end just where the symbols derive nothing
pub nothing_is : (g : Grammar) (xs : List theory.Symbol) (all : List ℕ) (r : Bool) → IsFirstSet g xs all →
    r ≡ has all (eof_number g.terminals) → (r ≡ true) ↔ First0 (IsProductionOf g) xs None
nothing_is g xs all r is e = (
  λ t. subst (First0 (IsProductionOf g) xs) (end_is g) ((is (eof_number g.terminals)).0 (sym e ∙ t)).1,
  λ h. e ∙ (is (eof_number g.terminals)).1 (omega arith, subst (First0 (IsProductionOf g) xs) (sym (end_is g)) h),
)
