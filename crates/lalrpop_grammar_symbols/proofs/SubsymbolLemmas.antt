-- The symbols that stand in symbols, and the walk through them over a stack of lists. For `Subsymbols` and whoever uses it.
use Rattle.std.proofs.Common.{◌≡◌, ℕ, zero, suc, ◌+◌, ◌<◌, ◌≤◌, List, [], ◌∷◌, ◌++◌, refl, sym, ap}
use Rattle.std.proofs.Common.{◌∙◌, subst, arith, length, take, get_or, append_assoc, append-nil, max}
use Rattle.std.specs.Borrow.{Bor}
use Rattle.std.specs.List.{All, flat_map}
use Rattle.std.proofs.lemmas.List.{map-append, length-map, take_more}
use Rattle.std.proofs.lemmas.List.Elements.{All-append, All-cons, All-nil, All-weaker}
use Rattle.lalrpop_grammar_symbols.specs.declared.symbol.Symbol as symbols
use Rattle.lalrpop_grammar_symbols.specs.Subsymbols.{subsymbols, subsymbols_of, symbol_depth, symbols_depth}
use Rattle.lalrpop_grammar_symbols.specs.SymbolWalks.{symbols_inside, most_open, symbols_to_come, symbols_view, slice_view, slices_view}
use Rattle.lalrpop_grammar_symbols.specs.Symbols.{TextSpan, Syms, syms, WrittenSymbol, Sym}
use Rattle.lalrpop_grammar_symbols.specs.Views.{symbol_view}

-- the subsymbols of a list are those of its symbols, joined
pub subsymbols_of-syms : (xs : List WrittenSymbol) → subsymbols_of (syms xs) ≡ flat_map subsymbols xs
subsymbols_of-syms [] = refl
subsymbols_of-syms (x ∷ xs) = ap (λ ys. subsymbols x ++ ys) (subsymbols_of-syms xs)

-- a symbol comes before those inside it
pub subsymbols-inside : (x : WrittenSymbol) → subsymbols x ≡ x ∷ subsymbols_of (symbols_inside x)
subsymbols-inside (Sym.expr p xs) = refl
subsymbols-inside (Sym.ambiguous_id p n) = refl
subsymbols-inside (Sym.nonterminal p n) = refl
subsymbols-inside (Sym.terminal p t) = refl
subsymbols-inside (Sym.macro p n args) = refl
subsymbols-inside (Sym.repeat p op x) = ap (λ ys. Sym.repeat p op x ∷ ys) (sym (append-nil (subsymbols x)))
subsymbols-inside (Sym.choose p x) = ap (λ ys. Sym.choose p x ∷ ys) (sym (append-nil (subsymbols x)))
subsymbols-inside (Sym.name p m n x) = ap (λ ys. Sym.name p m n x ∷ ys) (sym (append-nil (subsymbols x)))
subsymbols-inside (Sym.lookahead p) = refl
subsymbols-inside (Sym.lookbehind p) = refl
subsymbols-inside (Sym.error p) = refl

-- a symbol is one deeper than those inside it
pub depth-inside : (x : WrittenSymbol) → symbol_depth x ≡ suc (symbols_depth (symbols_inside x))
unfolding symbol_depth
depth-inside (Sym.expr p xs) = refl
depth-inside (Sym.ambiguous_id p n) = refl
depth-inside (Sym.nonterminal p n) = refl
depth-inside (Sym.terminal p t) = refl
depth-inside (Sym.macro p n args) = refl
depth-inside (Sym.repeat p op x) = omega arith
depth-inside (Sym.choose p x) = omega arith
depth-inside (Sym.name p m n x) = omega arith
depth-inside (Sym.lookahead p) = refl
depth-inside (Sym.lookbehind p) = refl
depth-inside (Sym.error p) = refl

-- every one of these symbols is at most this deep
abbrev ReachTo : ℕ → List WrittenSymbol → Type 0
ReachTo n = All (λ (y : WrittenSymbol). symbol_depth y ≤ n)

-- a greater bound serves, too
reach-further : (m n : ℕ) (xs : List WrittenSymbol) → m ≤ n → ReachTo m xs → ReachTo n xs
reach-further m n xs h =
    All-weaker (λ (y : WrittenSymbol). symbol_depth y ≤ m) (λ (y : WrittenSymbol). symbol_depth y ≤ n) (λ y k. omega arith) xs

-- a symbol and what stands inside it
reach-inside : (x : WrittenSymbol) (ys : List WrittenSymbol) (n : ℕ) → n ≤ symbol_depth x → ReachTo n ys
    → ReachTo (symbol_depth x) (x ∷ ys)
reach-inside x ys n h k =
    All-cons (λ (y : WrittenSymbol). symbol_depth y ≤ symbol_depth x) x ys (omega arith) (reach-further n (symbol_depth x) ys h k)

reach-alone : (x : WrittenSymbol) → ReachTo (symbol_depth x) (x ∷ [])
reach-alone x = reach-inside x [] 0 (omega arith) (All-nil (λ (y : WrittenSymbol). symbol_depth y ≤ 0))

mutual
  unfolding symbols_depth

  -- no subsymbol is deeper than the symbol
  pub subsymbols-depth : (x : WrittenSymbol) → All (λ (y : WrittenSymbol). symbol_depth y ≤ symbol_depth x) (subsymbols x)
  subsymbols-depth (Sym.expr p xs) =
      reach-inside (Sym.expr p xs) (subsymbols_of xs) (symbols_depth xs) (omega arith) (subsymbols_of-depth xs)
  subsymbols-depth (Sym.ambiguous_id p n) = reach-alone (Sym.ambiguous_id p n)
  subsymbols-depth (Sym.nonterminal p n) = reach-alone (Sym.nonterminal p n)
  subsymbols-depth (Sym.terminal p t) = reach-alone (Sym.terminal p t)
  subsymbols-depth (Sym.macro p n xs) =
      reach-inside (Sym.macro p n xs) (subsymbols_of xs) (symbols_depth xs) (omega arith) (subsymbols_of-depth xs)
  subsymbols-depth (Sym.repeat p op x) =
      reach-inside (Sym.repeat p op x) (subsymbols x) (symbol_depth x) (omega arith) (subsymbols-depth x)
  subsymbols-depth (Sym.choose p x) = reach-inside (Sym.choose p x) (subsymbols x) (symbol_depth x) (omega arith) (subsymbols-depth x)
  subsymbols-depth (Sym.name p m n x) =
      reach-inside (Sym.name p m n x) (subsymbols x) (symbol_depth x) (omega arith) (subsymbols-depth x)
  subsymbols-depth (Sym.lookahead p) = reach-alone (Sym.lookahead p)
  subsymbols-depth (Sym.lookbehind p) = reach-alone (Sym.lookbehind p)
  subsymbols-depth (Sym.error p) = reach-alone (Sym.error p)

  -- the same of a list
  pub subsymbols_of-depth : (xs : Syms TextSpan) → All (λ (y : WrittenSymbol). symbol_depth y ≤ symbols_depth xs) (subsymbols_of xs)
  subsymbols_of-depth Syms.none = All-nil (λ (y : WrittenSymbol). symbol_depth y ≤ 0)
  subsymbols_of-depth (Syms.more x xs) =
      All-append (λ (y : WrittenSymbol). symbol_depth y ≤ symbols_depth (Syms.more x xs)) (subsymbols x) (subsymbols_of xs)
      (reach-further (symbol_depth x) (symbols_depth (Syms.more x xs)) (subsymbols x) (omega arith) (subsymbols-depth x))
      (reach-further (symbols_depth xs) (symbols_depth (Syms.more x xs)) (subsymbols_of xs) (omega arith) (subsymbols_of-depth xs))

-- the innermost list comes first
to_come-push : (rest : List (Syms TextSpan)) (xs : Syms TextSpan)
    → symbols_to_come (rest ++ xs ∷ []) ≡ subsymbols_of xs ++ symbols_to_come rest
to_come-push [] xs = sym (append-nil (subsymbols_of xs))
to_come-push (ys ∷ rest) xs =
    ap (λ zs. zs ++ subsymbols_of ys) (to_come-push rest xs) ∙ append_assoc (subsymbols_of xs) (symbols_to_come rest) (subsymbols_of ys)

-- one more list on the stack
slices-push : (all rest : List (Bor (List symbols.Symbol))) (r : Bor (List symbols.Symbol)) (xs : Syms TextSpan)
    → all ≡ rest ++ r ∷ [] → slice_view r ≡ xs → slices_view all ≡ slices_view rest ++ xs ∷ []
slices-push all rest r xs e h = ap slices_view e ∙ map-append slice_view rest (r ∷ []) ∙ ap (λ ys. slices_view rest ++ ys ∷ []) h

-- what a stack of lists needs at least
room-for_one : (rest : List (Syms TextSpan)) (xs : Syms TextSpan) → length rest < most_open (rest ++ xs ∷ [])
unfolding most_open
room-for_one [] xs = omega arith
room-for_one (ys ∷ rest) xs = let k = room-for_one rest xs in omega arith

room-pop : (rest : List (Syms TextSpan)) (xs : Syms TextSpan) → most_open rest ≤ most_open (rest ++ xs ∷ [])
unfolding most_open
room-pop [] xs = omega arith
room-pop (ys ∷ rest) xs = let k = room-pop rest xs in omega arith

-- two lists in the place of one that is as deep as the first and deeper than the second
room-two : (rest : List (Syms TextSpan)) (xs ys zs : Syms TextSpan) → symbols_depth ys ≤ symbols_depth xs
    → symbols_depth zs < symbols_depth xs → most_open ((rest ++ ys ∷ []) ++ zs ∷ []) ≤ most_open (rest ++ xs ∷ [])
unfolding most_open
room-two [] xs ys zs h k = omega arith
room-two (ws ∷ rest) xs ys zs h k = let e = room-two rest xs ys zs h k in omega arith

-- there is room for the others of a list and for what stands inside its first symbol
room-step : (rest : List (Syms TextSpan)) (x : WrittenSymbol) (xs : Syms TextSpan)
    → most_open ((rest ++ xs ∷ []) ++ symbols_inside x ∷ []) ≤ most_open (rest ++ Syms.more x xs ∷ [])
unfolding symbols_depth
room-step rest x xs =
    let k = depth-inside x in room-two rest (Syms.more x xs) xs (symbols_inside x) (omega arith) (omega arith)

-- one list is open where nothing stands in it
pub room-single : (xs : Syms TextSpan) → most_open (xs ∷ []) ≡ suc (symbols_depth xs)
unfolding most_open
room-single xs = omega arith

-- no symbols have depth 0
pub depth-none : symbols_depth Syms.none ≡ 0
unfolding symbols_depth
depth-none = refl

depth-push : (xs : List symbols.Symbol) (x : symbols.Symbol)
    → symbols_depth (symbols_view (xs ++ x ∷ [])) ≡ max (symbols_depth (symbols_view xs)) (symbol_depth (symbol_view x))
unfolding symbols_depth
depth-push [] x = omega arith
depth-push (y ∷ xs) x = let k = depth-push xs x in omega arith

-- one symbol more in the loop that finds the depth
pub depth-more : (xs : List symbols.Symbol) (i : ℕ) (x : symbols.Symbol) → i < length xs → x ≡ get_or xs i x
    → symbols_depth (symbols_view (take (i + 1) xs))
    ≡ max (symbols_depth (symbols_view (take i xs))) (suc (symbols_depth (symbols_inside (symbol_view x))))
depth-more xs i x h e =
    ap (λ ys. symbols_depth (symbols_view ys)) (take_more xs i x h ∙ ap (λ y. take i xs ++ y ∷ []) (sym e))
    ∙ depth-push (take i xs) x
    ∙ ap (λ n. max (symbols_depth (symbols_view (take i xs))) n) (depth-inside (symbol_view x))

shallower-inside : (xs : List symbols.Symbol) (i : ℕ) (d : symbols.Symbol) → i < length xs
    → symbols_depth (symbols_inside (symbol_view (get_or xs i d))) < symbols_depth (symbols_view xs)
unfolding symbols_depth
shallower-inside [] i d h = absurd (omega arith)
shallower-inside (x ∷ xs) zero d h = let k = depth-inside (symbol_view x) in omega arith
shallower-inside (x ∷ xs) (suc i) d h = let k = shallower-inside xs i d (omega arith) in omega arith

-- what stands inside one symbol of a list is less deep than the list
pub depth-decreases : (xs : List symbols.Symbol) (i : ℕ) (x : symbols.Symbol) → i < length xs → x ≡ get_or xs i x
    → symbols_depth (symbols_inside (symbol_view x)) < symbols_depth (symbols_view xs)
depth-decreases xs i x h e =
    subst (λ (y : symbols.Symbol). symbols_depth (symbols_inside (symbol_view y)) < symbols_depth (symbols_view xs)) (sym e)
    (shallower-inside xs i x h)

view-empty : (xs : List symbols.Symbol) → length xs ≡ 0 → symbols_view xs ≡ Syms.none
view-empty [] e = refl
view-empty (x ∷ xs) e = absurd (omega arith)

-- A step of the walk over a stack `all`, whose innermost list is popped and leaves `rest`. The list is empty.
module _ (all rest : List (Bor (List symbols.Symbol))) (popped : Bor (List symbols.Symbol)) (pops : all ≡ rest ++ popped ∷ [])
    (none : length popped.now ≡ 0) where
  empty : slices_view all ≡ slices_view rest ++ Syms.none ∷ []
  empty = slices-push all rest popped Syms.none pops (view-empty popped.now none)

  -- the same symbols are to come
  pub empty-same : symbols_to_come (slices_view rest) ≡ symbols_to_come (slices_view all)
  empty-same = sym (ap symbols_to_come empty ∙ to_come-push (slices_view rest) Syms.none)

  -- the stack without it asks for no more room
  pub empty-room : most_open (slices_view rest) ≤ most_open (slices_view all)
  empty-room = omega (arith, ap most_open empty, room-pop (slices_view rest) Syms.none)

-- The list has a first symbol: the others go back, as `one`, and what stands inside it opens, as `two`.
module _ (all one two rest : List (Bor (List symbols.Symbol))) (popped others inner : Bor (List symbols.Symbol)) (x : symbols.Symbol)
    (pops : all ≡ rest ++ popped ∷ []) (parts : popped.now ≡ x ∷ others.now) (puts : one ≡ rest ++ others ∷ [])
    (opens : two ≡ one ++ inner ∷ []) (inside : slice_view inner ≡ symbols_inside (symbol_view x)) where
  first : slices_view all ≡ slices_view rest ++ Syms.more (symbol_view x) (slice_view others) ∷ []
  first = slices-push all rest popped _ pops (ap symbols_view parts)

  next : slices_view one ≡ slices_view rest ++ slice_view others ∷ []
  next = slices-push one rest others _ puts refl

  deeper : slices_view two ≡ slices_view one ++ symbols_inside (symbol_view x) ∷ []
  deeper = slices-push two one inner _ opens inside

  opened : slices_view two ≡ (slices_view rest ++ slice_view others ∷ []) ++ symbols_inside (symbol_view x) ∷ []
  opened = deeper ∙ ap (λ ys. ys ++ symbols_inside (symbol_view x) ∷ []) next

  -- its first symbol is the first to come
  pub first-comes : symbols_to_come (slices_view all) ≡ symbol_view x ∷ symbols_to_come (slices_view two)
  first-comes =
      ap symbols_to_come first ∙ to_come-push (slices_view rest) (Syms.more (symbol_view x) (slice_view others))
      ∙ append_assoc (subsymbols (symbol_view x)) (subsymbols_of (slice_view others)) (symbols_to_come (slices_view rest))
      ∙ ap (λ ys. subsymbols (symbol_view x) ++ ys)
      (sym (ap symbols_to_come next ∙ to_come-push (slices_view rest) (slice_view others)))
      ∙ ap (λ ys. ys ++ symbols_to_come (slices_view one)) (subsymbols-inside (symbol_view x))
      ∙ ap (λ ys. symbol_view x ∷ ys)
      (sym (ap symbols_to_come deeper ∙ to_come-push (slices_view one) (symbols_inside (symbol_view x))))

  -- the stack with both lists asks for no more room
  pub first-room : most_open (slices_view two) ≤ most_open (slices_view all)
  first-room = omega (arith, ap most_open first, ap most_open opened, room-step (slices_view rest) (symbol_view x) (slice_view others))

-- there is room for one more list where a list was split
pub room-to_open : (all one rest : List (Bor (List symbols.Symbol))) (popped others : Bor (List symbols.Symbol)) (x : symbols.Symbol)
    → all ≡ rest ++ popped ∷ [] → popped.now ≡ x ∷ others.now → one ≡ rest ++ others ∷ []
    → length one < most_open (slices_view all)
room-to_open all one rest popped others x pops parts puts =
    let first : slices_view all ≡ slices_view rest ++ Syms.more (symbol_view x) (slice_view others) ∷ [] =
    slices-push all rest popped _ pops (ap symbols_view parts) in
    let next : slices_view one ≡ slices_view rest ++ slice_view others ∷ [] = slices-push one rest others _ puts refl in
    let counted : length (slices_view one) ≡ length one = length-map one slice_view in
    omega (
      arith,
      counted,
      ap most_open first,
      ap length next,
      room-for_one (slices_view rest ++ slice_view others ∷ []) (symbols_inside (symbol_view x)),
      room-step (slices_view rest) (symbol_view x) (slice_view others),
    )
