-- The orders of symbols, of lists of symbols and of productions are total, and lists with one symbol more: for the order of conflicts.
use Rattle.std.proofs.Common.{◌≡◌, ◌∙◌, ◌⊎◌, inl, inr, List, [], ◌∷◌, ◌++◌, length}
use Rattle.std.proofs.Common.{ap, sym, refl, arith, length-append}
use Rattle.std.specs.Cmp.{IsTotalOrder, nat_cmp_total, on_total, then_total}
use Rattle.std.specs.Cmp.Lexicographic.{lists_total, on_texts}
use Rattle.std.specs.Ordering.{is_eq, ordering_reverse, ordering_then}
use Rattle.std.specs.declared.cmp.Ordering.{Ordering}
use Rattle.std.specs.declared.cmp.Ordering.TheVariants.{Equal, Greater, Less}
use Rattle.lalrpop_grammar_symbols.specs.Symbols.{Text, Terminal}
use Rattle.lalrpop_grammar_symbols.proofs.ComparedLemmas.{same_text}
use Rattle.lalrpop_lr1_theory.specs.Productions.{Production, Symbol, nonterminal, terminal}
use Rattle.lalrpop_run.specs.ConflictOrders.{IsSooner, compare_productions, compare_sides}
use Rattle.lalrpop_run.specs.ConflictOrders.{compare_symbols, compare_texts, symbol_key, terminal_key}

less_not_greater : Less ≡ Greater → ⊥
less_not_greater e = cc

equal_not_less : Equal ≡ Less → ⊥
equal_not_less e = cc

greater_not_less : Greater ≡ Less → ⊥
greater_not_less e = cc

module _ {K : Type 0} {R : K → K → Ordering} (total : IsTotalOrder R) where
  not_less : (o : Ordering) → o ≡ ordering_reverse o → o ≡ Less → ⊥
  not_less Less e f = less_not_greater e
  not_less Equal e f = equal_not_less f
  not_less Greater e f = greater_not_less f

  -- nothing comes before itself
  pub never_itself : (x : K) → R x x ≡ Less → ⊥
  never_itself x = not_less (R x x) (total.antisymm x x)

  equal_itself : (o : Ordering) → o ≡ ordering_reverse o → o ≡ Equal
  equal_itself Less e = absurd (less_not_greater e)
  equal_itself Equal e = refl
  equal_itself Greater e = absurd (less_not_greater (sym e))

  -- what is compared with itself is found equal
  pub compared_itself : (x : K) → R x x ≡ Equal
  compared_itself x = equal_itself (R x x) (total.antisymm x x)

  -- of two one comes first, where those found equal are one
  pub one_first : ((x y : K) → R x y ≡ Equal → x ≡ y) → (x y : K) → (R x y ≡ Less) ⊎ ((x ≡ y) ⊎ (R y x ≡ Less))
  one_first same x y = go (R x y) refl
    where
      go : (o : Ordering) → R x y ≡ o → (R x y ≡ Less) ⊎ ((x ≡ y) ⊎ (R y x ≡ Less))
      go Less e = inl e
      go Equal e = inr (inl (same x y e))
      go Greater e = inr (inr (total.antisymm y x ∙ ap ordering_reverse e))

pub symbols_total : IsTotalOrder compare_symbols
symbols_total = on_texts symbol_key

pub sides_total : IsTotalOrder compare_sides
sides_total = lists_total symbols_total

pub productions_total : IsTotalOrder compare_productions
productions_total =
    then_total (on_texts (λ (p : Production). p.left))
    (then_total (on_total (λ (p : Production). p.right) sides_total) (on_total (λ (p : Production). p.action) nat_cmp_total))

equal_texts : (s t : Text) → compare_texts s t ≡ Equal → s ≡ t
equal_texts s t e = (same_text s t).0 (ap is_eq e)

one_terminal : (t u : Terminal) → terminal_key t ≡ terminal_key u → t ≡ u
one_terminal (Terminal.quoted s) (Terminal.quoted t) e = let same : s ≡ t = cc in ap Terminal.quoted same
one_terminal (Terminal.quoted s) (Terminal.regex t) e = let w : ⊥ = cc in absurd w
one_terminal (Terminal.quoted s) (Terminal.bare t) e = let w : ⊥ = cc in absurd w
one_terminal (Terminal.quoted s) Terminal.error e = let w : ⊥ = cc in absurd w
one_terminal (Terminal.regex s) (Terminal.quoted t) e = let w : ⊥ = cc in absurd w
one_terminal (Terminal.regex s) (Terminal.regex t) e = let same : s ≡ t = cc in ap Terminal.regex same
one_terminal (Terminal.regex s) (Terminal.bare t) e = let w : ⊥ = cc in absurd w
one_terminal (Terminal.regex s) Terminal.error e = let w : ⊥ = cc in absurd w
one_terminal (Terminal.bare s) (Terminal.quoted t) e = let w : ⊥ = cc in absurd w
one_terminal (Terminal.bare s) (Terminal.regex t) e = let w : ⊥ = cc in absurd w
one_terminal (Terminal.bare s) (Terminal.bare t) e = let same : s ≡ t = cc in ap Terminal.bare same
one_terminal (Terminal.bare s) Terminal.error e = let w : ⊥ = cc in absurd w
one_terminal Terminal.error (Terminal.quoted t) e = let w : ⊥ = cc in absurd w
one_terminal Terminal.error (Terminal.regex t) e = let w : ⊥ = cc in absurd w
one_terminal Terminal.error (Terminal.bare t) e = let w : ⊥ = cc in absurd w
one_terminal Terminal.error Terminal.error e = refl

one_symbol : (x y : Symbol) → symbol_key x ≡ symbol_key y → x ≡ y
one_symbol (nonterminal A) (nonterminal B) e = let same : A ≡ B = cc in ap nonterminal same
one_symbol (nonterminal A) (terminal u) e = let w : ⊥ = cc in absurd w
one_symbol (terminal t) (nonterminal B) e = let w : ⊥ = cc in absurd w
one_symbol (terminal t) (terminal u) e =
    let same : terminal_key t ≡ terminal_key u = cc in ap terminal (one_terminal t u same)

-- symbols that are found equal are one
pub equal_symbols : (x y : Symbol) → compare_symbols x y ≡ Equal → x ≡ y
equal_symbols x y e = one_symbol x y (equal_texts (symbol_key x) (symbol_key y) e)

-- lists as long as each other stay in order, whatever is put behind them
front_first : (g h a b : List Symbol) → length g ≡ length h → compare_sides g h ≡ Less → compare_sides (g ++ a) (h ++ b) ≡ Less
front_first [] [] a b l e = absurd (equal_not_less e)
front_first [] (y ∷ h) a b l e = absurd (omega (arith, l))
front_first (x ∷ g) [] a b l e = absurd (omega (arith, l))
front_first (x ∷ g) (y ∷ h) a b l e = go (compare_symbols x y) e (front_first g h a b (omega (arith, l)))
  where
    go : (o : Ordering) → ordering_then o (compare_sides g h) ≡ Less → (compare_sides g h ≡ Less → compare_sides (g ++ a) (h ++ b) ≡ Less)
        → ordering_then o (compare_sides (g ++ a) (h ++ b)) ≡ Less
    go Less f deeper = refl
    go Equal f deeper = deeper f
    go Greater f deeper = absurd (greater_not_less f)

-- behind one list what comes later decides
last_first : (g : List Symbol) (x y : Symbol) → compare_symbols x y ≡ Less → compare_sides (g ++ x ∷ []) (g ++ y ∷ []) ≡ Less
last_first [] x y e = ap (λ o. ordering_then o Equal) e
last_first (z ∷ g) x y e =
    ap (λ o. ordering_then o (compare_sides (g ++ x ∷ []) (g ++ y ∷ []))) (compared_itself symbols_total z) ∙ last_first g x y e

-- no list comes sooner than itself
pub never_sooner : (g : List Symbol) → IsSooner g g → ⊥
never_sooner g (inl l) = omega (arith, l)
never_sooner g (inr e) = never_itself sides_total g e.1

pub sooner_chain : (g h k : List Symbol) → IsSooner g h → IsSooner h k → IsSooner g k
sooner_chain g h k (inl l) (inl m) = inl (omega (arith, l, m))
sooner_chain g h k (inl l) (inr m) = inl (omega (arith, l, m.0))
sooner_chain g h k (inr l) (inl m) = inl (omega (arith, l.0, m))
sooner_chain g h k (inr l) (inr m) = inr (l.0 ∙ m.0, sides_total.trans g h k l.1 m.1)

-- sooner lists are so with one symbol more
pub sooner_more : (g h : List Symbol) (x y : Symbol) → IsSooner g h → IsSooner (g ++ x ∷ []) (h ++ y ∷ [])
sooner_more g h x y (inl l) = inl (omega (arith, l, length-append g (x ∷ []), length-append h (y ∷ [])))
sooner_more g h x y (inr e) =
    let l = e.0 in
    inr (omega (arith, l, length-append g (x ∷ []), length-append h (y ∷ [])), front_first g h (x ∷ []) (y ∷ []) l e.1)

-- the last symbol decides behind one list
pub sooner_last : (g : List Symbol) (x y : Symbol) → compare_symbols x y ≡ Less → IsSooner (g ++ x ∷ []) (g ++ y ∷ [])
sooner_last g x y e = inr (omega (arith, length-append g (x ∷ []), length-append g (y ∷ [])), last_first g x y e)
