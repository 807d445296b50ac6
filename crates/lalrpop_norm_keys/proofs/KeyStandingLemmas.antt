-- Keys that are met beside a right side are those that stand in it, and each that stands there is met; for the law of places.
use Rattle.std.proofs.Common.{◌≡◌, ℕ, ◌+◌, List, [], ◌∷◌, ◌++◌, refl, ap, sym, subst, cond, Bool}
use Rattle.std.proofs.Common.{true, false, inl, inr}
use Rattle.std.specs.Prelude.{map}
use Rattle.lalrpop_grammar_symbols.specs.Symbols.{TextSpan, Sym, Syms, syms, WrittenSymbol, Closed, Closeds, closed_list}
use Rattle.lalrpop_grammar_language.specs.Among.{Among}
use Rattle.lalrpop_grammar_language.specs.Closing.{Scope, close, close_list, is_sound, occurrences}
use Rattle.lalrpop_grammar_language.specs.Expansion.{GrammarSymbol, Nonterminal, grammar_symbol}
use Rattle.lalrpop_grammar_language.proofs.PlaceLemmas.{among_map}
use Rattle.lalrpop_grammar_rules.specs.Views.{closeds}
use Rattle.lalrpop_grammar_language.proofs.StepLemmas.{among_right}
use Rattle.lalrpop_grammar_language.proofs.StepLemmas.{among_left}
use Rattle.lalrpop_grammar_language.proofs.OrderLemmas.{among_parts}
use Rattle.lalrpop_norm_theory.specs.KeyTables.{IsNoCall, keys_in, keys_in_all}
use Rattle.lalrpop_norm_theory.proofs.KeyTableLemmas.{part_stands}
use Rattle.lalrpop_norm_keys.specs.Standing.{keys_of_repeat}
use Rattle.lalrpop_norm_keys.specs.MetKeys.{MetKey, all_met_at, key_of_met, keys_met, keys_met_in_row}
use Rattle.lalrpop_norm_keys.specs.KeyPlaces.{IsShapeKey}
use Rattle.lalrpop_norm_keys.proofs.MetKeyLemmas.{keys_of_op, met_are_keys}
use Rattle.lalrpop_norm_theory.proofs.LevelPlaceLemmas.{either_way}

-- a repeat, a group or a lookaround is no call
pub shape_no_call : (x : Closed) → IsShapeKey x → IsNoCall x
shape_no_call (Closed.repeat op x) h = tt
shape_no_call (Closed.group xs) h = tt
shape_no_call Closed.lookahead h = tt
shape_no_call Closed.lookbehind h = tt
shape_no_call (Closed.terminal t) h = absurd h
shape_no_call (Closed.call n args level) h = absurd h
shape_no_call (Closed.choose x) h = absurd h
shape_no_call (Closed.name m n x) h = absurd h
shape_no_call Closed.faulty h = absurd h

-- what is met stands there

met_at_place : (q : TextSpan) (xs : List Closed) (m : MetKey) → Among (all_met_at q xs) m → Among xs m.0
met_at_place q [] m i = absurd i
met_at_place q (x ∷ xs) m (inl e) = inl (ap (λ (k : MetKey). k.0) e)
met_at_place q (x ∷ xs) m (inr i) = inr (met_at_place q xs m i)

mutual
  pub met_stands : (w : WrittenSymbol) (c : Closed) (m : MetKey) → Among (keys_met w c) m → Among (keys_in c) m.0
  met_stands (Sym.expr p xs) (Closed.group cs) m (inl e) = inl (ap (λ (k : MetKey). k.0) e)
  met_stands (Sym.expr p xs) (Closed.group cs) m (inr i) = inr (row_met_stands xs cs m i)
  met_stands (Sym.expr p xs) _ m i = absurd i
  met_stands (Sym.repeat p op x) (Closed.repeat o c) m i =
      subst (λ l. Among l m.0) (keys_of_op o c)
      (either_way (among_parts (all_met_at p (keys_of_repeat o c)) (keys_met x c) m i)
      (λ j. among_left (keys_of_repeat o c) (keys_in c) m.0 (met_at_place p (keys_of_repeat o c) m j))
      (λ j. among_right (keys_of_repeat o c) (keys_in c) m.0 (met_stands x c m j)))
  met_stands (Sym.repeat p op x) _ m i = absurd i
  met_stands (Sym.choose p x) (Closed.choose c) m i = met_stands x c m i
  met_stands (Sym.choose p x) _ m i = absurd i
  met_stands (Sym.name p v n x) (Closed.name a b c) m i = met_stands x c m i
  met_stands (Sym.name p v n x) _ m i = absurd i
  met_stands (Sym.ambiguous_id p n) c m i = met_at_place p (keys_in c) m i
  met_stands (Sym.nonterminal p n) c m i = met_at_place p (keys_in c) m i
  met_stands (Sym.terminal p t) c m i = met_at_place p (keys_in c) m i
  met_stands (Sym.macro p n args) c m i = met_at_place p (keys_in c) m i
  met_stands (Sym.lookahead p) c m i = met_at_place p (keys_in c) m i
  met_stands (Sym.lookbehind p) c m i = met_at_place p (keys_in c) m i
  met_stands (Sym.error p) c m i = met_at_place p (keys_in c) m i

  pub row_met_stands : (ws : Syms TextSpan) (cs : Closeds) (m : MetKey) → Among (keys_met_in_row ws cs) m → Among (keys_in_all cs) m.0
  row_met_stands Syms.none cs m i = absurd i
  row_met_stands (Syms.more w ws) Closeds.none m i = absurd i
  row_met_stands (Syms.more w ws) (Closeds.more c cs) m i =
      either_way (among_parts (keys_met w c) (keys_met_in_row ws cs) m i)
      (λ j. among_left (keys_in c) (keys_in_all cs) m.0 (met_stands w c m j))
      (λ j. among_right (keys_in c) (keys_in_all cs) m.0 (row_met_stands ws cs m j))

-- and each repeat, group or lookaround that stands on a right side is met beside the symbols

abbrev pub IsMetSomewhere : List MetKey → Closed → Type 0
IsMetSomewhere ms x = (p : TextSpan) × Among ms (x, p)

met_somewhere : (ms : List MetKey) (x : Closed) → Among (map key_of_met ms) x → IsMetSomewhere ms x
met_somewhere ms x i =
    let u = among_map key_of_met ms x i in
    let m : MetKey = u.0 in (m.1, subst (λ (k : Closed). Among ms (k, m.1)) u.2 u.1)

symbol_met : (s : Scope) (k : ℕ) (w : WrittenSymbol) (x : Closed) → IsShapeKey x → (b : Bool) →
    Among (keys_in (cond b (close s k w) Closed.faulty)) x → IsMetSomewhere (keys_met w (cond b (close s k w) Closed.faulty)) x
symbol_met s k w x shape true i = met_somewhere (keys_met w (close s k w)) x (subst (λ l. Among l x) (sym (met_are_keys s k w)) i)
symbol_met s k w x shape false (inl e) = absurd (subst IsShapeKey (sym e) shape)
symbol_met s k w x shape false (inr i) = absurd i

-- a repeat, a group or a lookaround in what a row of symbols closes to is met somewhere in the row
pub listed_met : (s : Scope) (k : ℕ) (ws : List WrittenSymbol) (x : Closed) → IsShapeKey x →
    Among (keys_in_all (closeds (close_list s k ws))) x →
    IsMetSomewhere (keys_met_in_row (syms ws) (closeds (close_list s k ws))) x
listed_met s k [] x shape i = absurd i
listed_met s k (w ∷ ws) x shape i =
    either_way (among_parts (keys_in here) (keys_in_all others) x i) first
    (λ j. let u = listed_met s (k + occurrences s.binding s.owner w) ws x shape j in
    (u.0, among_right (keys_met w here) (keys_met_in_row (syms ws) others) (x, u.0) u.1))
  where
    here : Closed
    here = cond (is_sound (close s k w)) (close s k w) Closed.faulty

    others : Closeds
    others = closeds (close_list s (k + occurrences s.binding s.owner w) ws)

    first : Among (keys_in here) x → IsMetSomewhere (keys_met w here ++ keys_met_in_row (syms ws) others) x
    first j = let u = symbol_met s k w x shape (is_sound (close s k w)) j in
        (u.0, among_left (keys_met w here) (keys_met_in_row (syms ws) others) (x, u.0) u.1)

-- symbols of a right side

-- a list that is made to closed symbols and read back is the list
pub listed_closeds : (xs : List Closed) → closed_list (closeds xs) ≡ xs
listed_closeds [] = refl
listed_closeds (x ∷ xs) = ap (λ l. x ∷ l) (listed_closeds xs)

-- a nonterminal of a right side is one of the keys that stand there
pub part_of_side : (xs : List Closed) (x : Closed) → Among (map grammar_symbol xs) (GrammarSymbol.nonterminal (Nonterminal.closed x)) →
    Among (keys_in_all (closeds xs)) x
part_of_side [] x i = absurd i
part_of_side (y ∷ xs) x (inl e) = among_left (keys_in y) (keys_in_all (closeds xs)) x (part_stands y x e)
part_of_side (y ∷ xs) x (inr i) = among_right (keys_in y) (keys_in_all (closeds xs)) x (part_of_side xs x i)
