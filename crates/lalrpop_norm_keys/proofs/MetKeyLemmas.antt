-- The keys that are met in a symbol are those that stand in what it closes to; for the law of keys that are met.
use Rattle.std.proofs.Common.{◌≡◌, ◌++◌, ◌+◌, ℕ, List, [], ◌∷◌, refl, ap, ◌∙◌, map}
use Rattle.std.proofs.lemmas.List.{map-append}
use Rattle.lalrpop_grammar_symbols.specs.Symbols.{Closed, Op, Sym, Syms, TextSpan, WrittenSymbol}
use Rattle.lalrpop_grammar_language.specs.Closing.{Scope, close, close_all, occurrences}
use Rattle.lalrpop_norm_theory.specs.KeyTables.{keys_in, keys_in_all}
use Rattle.lalrpop_norm_keys.specs.Standing.{keys_of_repeat}
use Rattle.lalrpop_norm_keys.specs.MetKeys.{MetKey, all_met_at, key_of_met, keys_met, keys_met_in_row}

pub keys_of_all : (p : TextSpan) (xs : List Closed) → map key_of_met (all_met_at p xs) ≡ xs
keys_of_all p [] = refl
keys_of_all p (x ∷ xs) = ap (λ l. x ∷ l) (keys_of_all p xs)

-- a repeat, with what it is made of
pub keys_of_op : (op : Op) (c : Closed) → keys_of_repeat op c ++ keys_in c ≡ keys_in (Closed.repeat op c)
keys_of_op Op.plus c = refl
keys_of_op Op.star c = refl
keys_of_op Op.question c = refl

repeat_met : (p : TextSpan) (op : Op) (c : Closed) (ms : List MetKey) → map key_of_met ms ≡ keys_in c
    → map key_of_met (all_met_at p (keys_of_repeat op c) ++ ms) ≡ keys_in (Closed.repeat op c)
repeat_met p op c ms e =
    map-append key_of_met (all_met_at p (keys_of_repeat op c)) ms
    ∙ ap (λ l. l ++ map key_of_met ms) (keys_of_all p (keys_of_repeat op c))
    ∙ ap (λ l. keys_of_repeat op c ++ l) e ∙ keys_of_op op c

mutual
  pub met_are_keys : (s : Scope) (k : ℕ) (w : WrittenSymbol) → map key_of_met (keys_met w (close s k w)) ≡ keys_in (close s k w)
  met_are_keys s k (Sym.expr p xs) = ap (λ l. Closed.group (close_all s k xs) ∷ l) (row_met_are_keys s k xs)
  met_are_keys s k (Sym.repeat p op x) = repeat_met p op (close s k x) (keys_met x (close s k x)) (met_are_keys s k x)
  met_are_keys s k (Sym.choose p x) = met_are_keys s k x
  met_are_keys s k (Sym.name p m n x) = met_are_keys s k x
  met_are_keys s k (Sym.ambiguous_id p n) = keys_of_all p (keys_in (close s k (Sym.ambiguous_id p n)))
  met_are_keys s k (Sym.nonterminal p n) = keys_of_all p (keys_in (close s k (Sym.nonterminal p n)))
  met_are_keys s k (Sym.terminal p t) = keys_of_all p (keys_in (close s k (Sym.terminal p t)))
  met_are_keys s k (Sym.macro p n args) = keys_of_all p (keys_in (close s k (Sym.macro p n args)))
  met_are_keys s k (Sym.lookahead p) = keys_of_all p (keys_in Closed.lookahead)
  met_are_keys s k (Sym.lookbehind p) = keys_of_all p (keys_in Closed.lookbehind)
  met_are_keys s k (Sym.error p) = keys_of_all p (keys_in (close s k (Sym.error p)))

  row_met_are_keys : (s : Scope) (k : ℕ) (xs : Syms TextSpan)
      → map key_of_met (keys_met_in_row xs (close_all s k xs)) ≡ keys_in_all (close_all s k xs)
  row_met_are_keys s k Syms.none = refl
  row_met_are_keys s k (Syms.more x xs) =
      map-append key_of_met (keys_met x (close s k x)) (keys_met_in_row xs (close_all s (k + occurrences s.binding s.owner x) xs))
      ∙ ap (λ l. l ++ map key_of_met (keys_met_in_row xs (close_all s (k + occurrences s.binding s.owner x) xs))) (met_are_keys s k x)
      ∙ ap (λ l. keys_in (close s k x) ++ l) (row_met_are_keys s (k + occurrences s.binding s.owner x) xs)
