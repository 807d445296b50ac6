-- How the program compares terminals, symbols and productions, and in which order lookaheads stand, as the orders of conflicts say it.
use Rattle.std.proofs.Common.{◌≡◌, ◌∙◌, ◌<◌, ◌≤◌, ◌⊎◌, inl, inr, ℕ, zero, suc, ◌+◌, List, [], ◌∷◌, map, filter, Option, Some, None}
use Rattle.std.proofs.Common.{Contains, ap, sym, refl, subst, arith}
use Rattle.std.specs.Prelude.{option_map, slice_get}
use Rattle.std.specs.Cmp.{nat_cmp_total}
use Rattle.std.specs.Cmp.Lexicographic.{slice_cmp}
use Rattle.std.specs.List.{range_with_len}
use Rattle.std.specs.List.Sorted.{IsStrictlySortedBy}
use Rattle.std.specs.Ordering.{nat_cmp, ordering_then}
use Rattle.std.specs.declared.cmp.Ordering.{Ordering}
use Rattle.std.specs.declared.cmp.Ordering.TheVariants.{Equal, Greater, Less}
use Rattle.std.proofs.lemmas.Map.Lookups.{exact_unsigned}
use Rattle.lalrpop_grammar_symbols.specs.Symbols.{Terminal, Text}
use Rattle.lalrpop_grammar_symbols.specs.Views.{literal_view, terminal_view}
use Rattle.lalrpop_grammar_symbols.specs.contracts.terminal.TerminalLiteralOrd.TheImpl as literals
use Rattle.lalrpop_grammar_symbols.specs.contracts.terminal.TerminalStringOrd.TheImpl as terminals
use Rattle.lalrpop_grammar_symbols.specs.declared.terminal.TerminalLiteral.{TerminalLiteral}
use Rattle.lalrpop_grammar_symbols.specs.declared.terminal.TerminalLiteral.TheVariants as literal
use Rattle.lalrpop_grammar_symbols.specs.declared.terminal.TerminalString.{TerminalString}
use Rattle.lalrpop_grammar_symbols.specs.declared.terminal.TerminalString.TheVariants as terminal
use Rattle.lalrpop_grammar_repr.specs.contracts.production.ProductionOrd.TheImpl as productions
use Rattle.lalrpop_grammar_repr.specs.contracts.production.SymbolOrd.TheImpl as symbols
use Rattle.lalrpop_grammar_repr.specs.declared.production.Production.{Production}
use Rattle.lalrpop_grammar_repr.specs.declared.production.Symbol.{Symbol}
use Rattle.lalrpop_grammar_repr.specs.declared.production.Symbol.TheVariants as symbol
use Rattle.lalrpop_grammar_repr.specs.declared.terminal_set.TerminalSet.{TerminalSet}
use Rattle.lalrpop_lr1_theory.specs.Productions as theory
use Rattle.lalrpop_lr1_theory.proofs.ListLemmas.{contains_get, get_contains}
use Rattle.lalrpop_lr1_theory.proofs.StepLemmas.{some_same}
use Rattle.lalrpop_sets.specs.AscendingLists.{has}
use Rattle.lalrpop_sets.specs.Tokens.{eof_number}
use Rattle.lalrpop_lr1_core.specs.Views.{next_of_number, production_symbol_view, production_view, token_lookahead}
use Rattle.lalrpop_lr1_core.proofs.MemberLemmas.{in_filter, in_range}
use Rattle.lalrpop_lr1_core.proofs.NoConflictLemmas.{at_mapped, nothing_there}
use Rattle.lalrpop_lr1_core.proofs.SortedLemmas.{sorted_at}
use Rattle.lalrpop_run.specs.ConflictOrders.{IsNextBefore, IsProductionBefore, IsTerminalBefore, compare_sides, compare_symbols}
use Rattle.lalrpop_run.specs.ConflictOrders.{compare_texts, terminal_key}
use Rattle.lalrpop_run.proofs.ConflictOrderLemmas.{compared_itself}
use Rattle.lalrpop_run.proofs.OrderedListLemmas.{AreInOrder, filter_in_order, range_in_order}

same_literals : (a b : TerminalLiteral) → (literals.ghosts).cmp a b
    ≡ compare_texts (terminal_key (literal_view a)) (terminal_key (literal_view b))
same_literals (literal.Quoted s) (literal.Quoted t) = refl
same_literals (literal.Quoted s) (literal.Regex t) = refl
same_literals (literal.Regex s) (literal.Quoted t) = refl
same_literals (literal.Regex s) (literal.Regex t) = refl

bare_behind : (a : TerminalLiteral) (s : Text) → compare_texts (terminal_key (literal_view a)) (2 ∷ s) ≡ Less
bare_behind (literal.Quoted s) t = refl
bare_behind (literal.Regex s) t = refl

bare_not_first : (a : TerminalLiteral) (s : Text) → compare_texts (2 ∷ s) (terminal_key (literal_view a)) ≡ Greater
bare_not_first (literal.Quoted s) t = refl
bare_not_first (literal.Regex s) t = refl

error_behind : (a : TerminalLiteral) → compare_texts (terminal_key (literal_view a)) (3 ∷ []) ≡ Less
error_behind (literal.Quoted s) = refl
error_behind (literal.Regex s) = refl

error_not_first : (a : TerminalLiteral) → compare_texts (3 ∷ []) (terminal_key (literal_view a)) ≡ Greater
error_not_first (literal.Quoted s) = refl
error_not_first (literal.Regex s) = refl

-- terminals are compared by their kinds and bytes
pub same_terminals : (t u : TerminalString) → (terminals.ghosts).cmp t u
    ≡ compare_texts (terminal_key (terminal_view t)) (terminal_key (terminal_view u))
same_terminals (terminal.Literal a) (terminal.Literal b) = same_literals a b
same_terminals (terminal.Literal a) (terminal.Bare n) = sym (bare_behind a n)
same_terminals (terminal.Literal a) terminal.Error = sym (error_behind a)
same_terminals (terminal.Bare m) (terminal.Literal b) = sym (bare_not_first b m)
same_terminals (terminal.Bare m) (terminal.Bare n) = refl
same_terminals (terminal.Bare m) terminal.Error = refl
same_terminals terminal.Error (terminal.Literal b) = sym (error_not_first b)
same_terminals terminal.Error (terminal.Bare n) = refl
same_terminals terminal.Error terminal.Error = refl

same_symbols : (x y : Symbol) → (symbols.ghosts).cmp x y ≡ compare_symbols (production_symbol_view x) (production_symbol_view y)
same_symbols (symbol.Nonterminal a) (symbol.Nonterminal b) = refl
same_symbols (symbol.Nonterminal a) (symbol.Terminal u) = refl
same_symbols (symbol.Terminal t) (symbol.Nonterminal b) = refl
same_symbols (symbol.Terminal t) (symbol.Terminal u) = same_terminals t u

same_sides : (xs ys : List Symbol) → slice_cmp (symbols.ghosts).cmp xs ys
    ≡ compare_sides (map production_symbol_view xs) (map production_symbol_view ys)
same_sides [] [] = refl
same_sides [] (y ∷ ys) = refl
same_sides (x ∷ xs) [] = refl
same_sides (x ∷ xs) (y ∷ ys) =
    ap (λ o. ordering_then o (slice_cmp (symbols.ghosts).cmp xs ys)) (same_symbols x y)
    ∙ ap (ordering_then (compare_symbols (production_symbol_view x) (production_symbol_view y))) (same_sides xs ys)

-- where a last comparison decides nothing, it may be left out
first_three : (a b c d : Ordering) → ordering_then a (ordering_then b (ordering_then c d)) ≡ Less → (c ≡ Equal → d ≡ Less → ⊥)
    → ordering_then a (ordering_then b c) ≡ Less
first_three Less b c d e f = refl
first_three Equal Less c d e f = refl
first_three Equal Equal Less d e f = refl
first_three Equal Equal Equal d e f = absurd (f refl e)
first_three Equal Equal Greater d e f = let w : ⊥ = cc in absurd w
first_three Equal Greater c d e f = let w : ⊥ = cc in absurd w
first_three Greater b c d e f = let w : ⊥ = cc in absurd w

spans_equal : (p q : Production) → production_view p ≡ production_view q
    → ordering_then (nat_cmp p.span.0 q.span.0) (nat_cmp p.span.1 q.span.1) ≡ Less → ⊥
spans_equal p q same less =
    let from : p.span.0 ≡ q.span.0 = ap (λ (v : theory.Production). v.from) same in
    let to : p.span.1 ≡ q.span.1 = ap (λ (v : theory.Production). v.to) same in
    let one : nat_cmp p.span.0 q.span.0 ≡ Equal = ap (λ k. nat_cmp k q.span.0) from ∙ compared_itself nat_cmp_total q.span.0 in
    let other : nat_cmp p.span.1 q.span.1 ≡ Equal = ap (λ k. nat_cmp k q.span.1) to ∙ compared_itself nat_cmp_total q.span.1 in
    let w : Equal ≡ Less = sym (ap (λ o. ordering_then o (nat_cmp p.span.1 q.span.1)) one ∙ other) ∙ less in
    let v : ⊥ = cc in v

-- productions that are in order are so by their sides and actions, where one action is of one production
pub production_first : (p q : Production) → (productions.ghosts).cmp p q ≡ Less
    → (p.action.0 ≡ q.action.0 → production_view p ≡ production_view q) → IsProductionBefore (production_view p) (production_view q)
production_first p q less own =
    ap (λ o. ordering_then (compare_texts p.nonterminal.0 q.nonterminal.0) (ordering_then o (nat_cmp p.action.0 q.action.0)))
    (sym (same_sides p.symbols q.symbols))
    ∙ first_three (compare_texts p.nonterminal.0 q.nonterminal.0) (slice_cmp (symbols.ghosts).cmp p.symbols q.symbols)
    (nat_cmp p.action.0 q.action.0) (ordering_then (nat_cmp p.span.0 q.span.0) (nat_cmp p.span.1 q.span.1)) less
    (λ e. spans_equal p q (own (exact_unsigned p.action.0 q.action.0 e)))

-- the end is behind terminals
end_behind : (t : Terminal) → compare_texts (terminal_key t) (4 ∷ []) ≡ Less
end_behind (Terminal.quoted s) = refl
end_behind (Terminal.regex s) = refl
end_behind (Terminal.bare s) = refl
end_behind Terminal.error = refl

module _ (ts : TerminalSet) (ascending : IsStrictlySortedBy (terminals.ghosts).cmp ts.all) where
  -- terminals are in the order of their numbers
  pub numbers_first : (j k : ℕ) (t u : TerminalString) → j < k → slice_get ts.all j ≡ Some t → slice_get ts.all k ≡ Some u
      → IsTerminalBefore (terminal_view t) (terminal_view u)
  numbers_first j k t u l e f = sym (same_terminals t u) ∙ sorted_at (terminals.ghosts).cmp ts.all ascending j k t u l e f

  -- and so is what comes next
  next_first : (j k : ℕ) → j < k → k ≤ eof_number ts → IsNextBefore (next_of_number ts j) (next_of_number ts k)
  next_first j k l b = go (slice_get ts.all j) (slice_get ts.all k) refl refl
    where
      go : (a c : Option TerminalString) → slice_get ts.all j ≡ a → slice_get ts.all k ≡ c
          → IsNextBefore (option_map terminal_view a) (option_map terminal_view c)
      go None c at_j at_k = absurd (omega (arith, l, b, nothing_there ts.all j at_j))
      go (Some t) None at_j at_k = end_behind (terminal_view t)
      go (Some t) (Some u) at_j at_k = numbers_first j k t u l at_j at_k

  -- what a lookahead has stands in order
  pub lookahead_in_order : (s : List ℕ) → AreInOrder IsNextBefore (token_lookahead ts s).nexts
  lookahead_in_order s i j x y l e f =
      let a = at_mapped (next_of_number ts) (filter (has s) (range_with_len 0 (eof_number ts + 1))) i x e in
      let b = at_mapped (next_of_number ts) (filter (has s) (range_with_len 0 (eof_number ts + 1))) j y f in
      let less = filter_in_order (λ m n. m < n) (has s) (range_with_len 0 (eof_number ts + 1)) (range_in_order 0 (eof_number ts + 1))
      i j a.0 b.0 l a.1 b.1 in
      let c = in_filter (has s) (range_with_len 0 (eof_number ts + 1)) b.0
      (get_contains (filter (has s) (range_with_len 0 (eof_number ts + 1))) j b.0 b.1) in
      let r = in_range 0 (eof_number ts + 1) b.0 c.1 in
      subst (λ z. IsNextBefore z y) a.2 (subst (IsNextBefore (next_of_number ts a.0)) b.2 (next_first a.0 b.0 less (omega (arith, r.1))))

  -- the first of a lookahead is the least
  pub first_least : (s : List ℕ) (x y : theory.Next) → slice_get (token_lookahead ts s).nexts 0 ≡ Some x
      → Contains (token_lookahead ts s).nexts y → (y ≡ x) ⊎ IsNextBefore x y
  first_least s x y e c = go at.0 at.1
    where
      at : (k : ℕ) × (slice_get (token_lookahead ts s).nexts k ≡ Some y)
      at = contains_get (token_lookahead ts s).nexts y c

      go : (k : ℕ) → slice_get (token_lookahead ts s).nexts k ≡ Some y → (y ≡ x) ⊎ IsNextBefore x y
      go zero f = inl (some_same y x (sym f ∙ e))
      go (suc k) f = inr (lookahead_in_order s 0 (suc k) x y (omega arith) e f)
