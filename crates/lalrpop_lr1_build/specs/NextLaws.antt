-- What the theory sees of lookaheads is what their numbers say: for the lookaheads of kernels.
use Rattle.std.specs.Cmp.Lexicographic.{pointwise}
use Rattle.std.specs.List.{range_with_len}
use Rattle.std.specs.Prelude.{◌≡◌, ◌↔◌, ◌+◌, ◌<◌, ◌≤◌, ◌==◌, ℕ, suc, true, List, []}
use Rattle.std.specs.Prelude.{Contains, filter, refl}
use Rattle.std.proofs.Common.{◌∙◌, sym, subst}
use Rattle.std.proofs.Math.Nat.{le-add_right, le-pred_of_lt, lt_of_le_of_lt, not-le_of_lt, zero-add}
use Rattle.std.proofs.Math.Numerals.{add-one, lt-add-one}
use Rattle.std.proofs.lemmas.Bool.{false≢true}
use Rattle.std.proofs.lemmas.Slice.Eq.{bytes_eq-Decides}
use Rattle.lalrpop_grammar_repr.specs.declared.terminal_set.TerminalSet.{TerminalSet}
use Rattle.lalrpop_lr1_theory.specs.Productions.{Next}
use Rattle.lalrpop_lr1_core.specs.Views.{next_of_number, token_lookahead}
use Rattle.lalrpop_lr1_core.proofs.MemberLemmas.{filter_has, in_filter, in_map, in_range, map_has, range_has}
use Rattle.lalrpop_sets.specs.AscendingLists.{has}
use Rattle.lalrpop_sets.specs.Tokens.{eof_number}
use Rattle.lalrpop_sets.specs.declared.nil.Nil.{Nil}
use Rattle.lalrpop_lr1_build.specs.Nexts.{IsNextIn}

-- there is one lookahead that says nothing
pub one_nil : (a b : Nil) → a ≡ b
one_nil a b = refl

at_least_zero : (k : ℕ) → 0 ≤ k
at_least_zero k = subst (λ m. 0 ≤ m) (zero-add k) (le-add_right 0 k)

in_bound : (k e : ℕ) → k < 0 + (e + 1) → k ≤ e
in_bound k e h = le-pred_of_lt {n = k} {m = suc e} (subst (λ m. k < m) (zero-add (e + 1) ∙ add-one e) h)

before : (k e : ℕ) → k ≤ e → k < 0 + (e + 1)
before k e h = subst (λ m. k < m) (sym (zero-add (e + 1))) (lt_of_le_of_lt h (lt-add-one e))

pub nil_nexts : (ts : TerminalSet) (x : Next) → Contains {X = Next} [] x ↔ IsNextIn ts [] x
nil_nexts ts x = (
  λ c. absurd (not-le_of_lt c.1 (at_least_zero c.0)),
  λ h. absurd (false≢true h.2),
)

pub token_nexts : (ts : TerminalSet) (s : List ℕ) (x : Next) → Contains (token_lookahead ts s).nexts x ↔ IsNextIn ts s x
token_nexts ts s x = (
  λ c.
      let r = in_map (next_of_number ts) (filter (has s) (range_with_len 0 (eof_number ts + 1))) x c in
      let f = in_filter (has s) (range_with_len 0 (eof_number ts + 1)) r.0 r.1 in
      let b = in_range 0 (eof_number ts + 1) r.0 f.1 in
      (r.0, in_bound r.0 (eof_number ts) b.1, f.0, r.2),
  λ h. subst (Contains (token_lookahead ts s).nexts) h.3 (map_has (next_of_number ts)
      (filter (has s) (range_with_len 0 (eof_number ts + 1))) h.0
      (filter_has (has s) (range_with_len 0 (eof_number ts + 1)) h.0 h.2
      (range_has 0 (eof_number ts + 1) h.0 (at_least_zero h.0) (before h.0 (eof_number ts) h.1)))),
)

-- sets that compare as equal are one
pub equal_sets : (a b : List ℕ) → pointwise ◌==◌ a b ≡ true → a ≡ b
equal_sets a b e = (bytes_eq-Decides a b).0 e
