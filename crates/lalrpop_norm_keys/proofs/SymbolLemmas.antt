-- The calls and the keys that stand in a symbol of a right side, however it is named; for the symbols of a call's right sides.
use Rattle.std.proofs.Common.{◌≡◌, List, [], ◌∷◌, refl, ap, sym, ◌∙◌, subst, inl, inr, ◌⊎◌}
use Rattle.lalrpop_grammar_symbols.specs.Symbols.{Terminal, Closed, Closeds}
use Rattle.lalrpop_grammar_language.specs.Among.{Among}
use Rattle.lalrpop_grammar_language.specs.Closing.{inner}
use Rattle.lalrpop_grammar_language.specs.Expansion.{GrammarSymbol, Nonterminal, grammar_symbol, symbol_of_inner, symbol_of_terminal}
use Rattle.lalrpop_norm_theory.specs.Depth.{calls_in, calls_in_all}
use Rattle.lalrpop_grammar_language.proofs.StepLemmas.{among_right}
use Rattle.lalrpop_grammar_language.proofs.StepLemmas.{among_left}
use Rattle.lalrpop_grammar_language.proofs.OrderLemmas.{among_parts}
use Rattle.lalrpop_norm_theory.specs.KeyTables.{IsNoCall, keys_in, keys_in_all}
use Rattle.lalrpop_grammar_rules.specs.Views.{closeds}

-- the closed symbol of a symbol of a right side
abbrev symbol_behind : GrammarSymbol Nonterminal → Closed
symbol_behind (GrammarSymbol.terminal t) = Closed.terminal t
symbol_behind (GrammarSymbol.nonterminal (Nonterminal.start n)) = Closed.faulty
symbol_behind (GrammarSymbol.nonterminal (Nonterminal.closed x)) = x

behind_terminal : (t : Terminal) → symbol_behind (symbol_of_terminal t) ≡ Closed.terminal t
behind_terminal (Terminal.quoted t) = refl
behind_terminal (Terminal.regex t) = refl
behind_terminal (Terminal.bare n) = refl
behind_terminal Terminal.error = refl

behind_inner : (x : Closed) → symbol_behind (symbol_of_inner x) ≡ x
behind_inner (Closed.terminal t) = behind_terminal t
behind_inner (Closed.call n args level) = refl
behind_inner (Closed.repeat op x) = refl
behind_inner (Closed.group xs) = refl
behind_inner (Closed.choose x) = refl
behind_inner (Closed.name m n x) = refl
behind_inner Closed.lookahead = refl
behind_inner Closed.lookbehind = refl
behind_inner Closed.faulty = refl

same_inner : (x y : Closed) → grammar_symbol x ≡ grammar_symbol y → inner x ≡ inner y
same_inner x y e = sym (behind_inner (inner x)) ∙ ap symbol_behind e ∙ behind_inner (inner y)

keys_inside : (x : Closed) → keys_in x ≡ keys_in (inner x)
keys_inside (Closed.terminal t) = refl
keys_inside (Closed.call n args level) = refl
keys_inside (Closed.repeat op x) = refl
keys_inside (Closed.group xs) = refl
keys_inside (Closed.choose x) = keys_inside x
keys_inside (Closed.name m n x) = keys_inside x
keys_inside Closed.lookahead = refl
keys_inside Closed.lookbehind = refl
keys_inside Closed.faulty = refl

-- symbols that leave the same on a right side have the same keys
pub same_keys : (x y : Closed) → grammar_symbol x ≡ grammar_symbol y → keys_in x ≡ keys_in y
same_keys x y e = keys_inside x ∙ ap keys_in (same_inner x y e) ∙ sym (keys_inside y)

-- what stands in one of several symbols stands in them
pub call_among : (xs : List Closed) (x c : Closed) → Among xs x → Among (calls_in x) c → Among (calls_in_all (closeds xs)) c
call_among [] x c i j = absurd i
call_among (y ∷ xs) x c (inl e) j =
    among_left (calls_in y) (calls_in_all (closeds xs)) c (subst (λ z. Among (calls_in z) c) (sym e) j)
call_among (y ∷ xs) x c (inr i) j = among_right (calls_in y) (calls_in_all (closeds xs)) c (call_among xs x c i j)

-- a key of one of the symbols is a key of all of them together
pub key_among : (xs : List Closed) (x c : Closed) → Among xs x → Among (keys_in x) c → Among (keys_in_all (closeds xs)) c
key_among [] x c i j = absurd i
key_among (y ∷ xs) x c (inl e) j =
    among_left (keys_in y) (keys_in_all (closeds xs)) c (subst (λ z. Among (keys_in z) c) (sym e) j)
key_among (y ∷ xs) x c (inr i) j = among_right (keys_in y) (keys_in_all (closeds xs)) c (key_among xs x c i j)

-- and in no other way
pub among_call : (xs : List Closed) (c : Closed) → Among (calls_in_all (closeds xs)) c
    → (x : Closed) × Among xs x × Among (calls_in x) c
among_call [] c i = absurd i
among_call (y ∷ xs) c i = go (among_parts (calls_in y) (calls_in_all (closeds xs)) c i) (λ j. among_call xs c j)
  where
    go : Among (calls_in y) c ⊎ Among (calls_in_all (closeds xs)) c →
        (Among (calls_in_all (closeds xs)) c → (x : Closed) × Among xs x × Among (calls_in x) c) →
        (x : Closed) × Among (y ∷ xs) x × Among (calls_in x) c
    go (inl j) later = (y, inl refl, j)
    go (inr j) later = let w = later j in (w.0, inr w.1, w.2)

-- a key of several symbols is a key of one of them
pub among_key : (xs : List Closed) (c : Closed) → Among (keys_in_all (closeds xs)) c → (x : Closed) × Among xs x × Among (keys_in x) c
among_key [] c i = absurd i
among_key (y ∷ xs) c i = go (among_parts (keys_in y) (keys_in_all (closeds xs)) c i) (λ j. among_key xs c j)
  where
    go : Among (keys_in y) c ⊎ Among (keys_in_all (closeds xs)) c →
        (Among (keys_in_all (closeds xs)) c → (x : Closed) × Among xs x × Among (keys_in x) c) →
        (x : Closed) × Among (y ∷ xs) x × Among (keys_in x) c
    go (inl j) later = (y, inl refl, j)
    go (inr j) later = let w = later j in (w.0, inr w.1, w.2)

-- what stands in a symbol as a call is one
mutual
  pub calls_are_calls : (x c : Closed) → Among (calls_in x) c → IsNoCall c → ⊥
  calls_are_calls (Closed.terminal t) c i k = i
  calls_are_calls (Closed.call n Closeds.none level) c i k = i
  calls_are_calls (Closed.call n (Closeds.more x xs) level) c (inl e) k = subst IsNoCall (sym e) k
  calls_are_calls (Closed.call n (Closeds.more x xs) level) c (inr i) k = i
  calls_are_calls (Closed.repeat op x) c i k = calls_are_calls x c i k
  calls_are_calls (Closed.group xs) c i k = all_are_calls xs c i k
  calls_are_calls (Closed.choose x) c i k = calls_are_calls x c i k
  calls_are_calls (Closed.name m n x) c i k = calls_are_calls x c i k
  calls_are_calls Closed.lookahead c i k = i
  calls_are_calls Closed.lookbehind c i k = i
  calls_are_calls Closed.faulty c i k = i

  pub all_are_calls : (xs : Closeds) (c : Closed) → Among (calls_in_all xs) c → IsNoCall c → ⊥
  all_are_calls Closeds.none c i k = i
  all_are_calls (Closeds.more x xs) c i k =
      either (among_parts (calls_in x) (calls_in_all xs) c i) (λ j. calls_are_calls x c j k) (λ j. all_are_calls xs c j k)
    where
      either : Among (calls_in x) c ⊎ Among (calls_in_all xs) c → (Among (calls_in x) c → ⊥)
          → (Among (calls_in_all xs) c → ⊥) → ⊥
      either (inl j) a b = a j
      either (inr j) a b = b j
