-- A repeat or a group has a type where calls have one; for the faults of types.
use Rattle.std.proofs.Common.{◌≡◌, ℕ, List, [], ◌∷◌, refl, sym, subst, cond, Bool, true, false, inl, inr}
use Rattle.std.specs.Prelude.{Option, filter, map}
use Rattle.std.specs.List.{list_any}
use Rattle.lalrpop_grammar_symbols.specs.Symbols.{Text, Terminal, Op, Closed, Closeds, closed_list}
use Rattle.lalrpop_grammar.specs.WrittenGrammar.{Origin}
use Rattle.lalrpop_grammar_language.specs.Among.{Among}
use Rattle.lalrpop_grammar_language.specs.Enabled.{EnabledGrammar}
use Rattle.lalrpop_grammar_language.specs.Expansion.{GrammarSymbol, Nonterminal, grammar_symbol}
use Rattle.lalrpop_grammar_language.proofs.PlaceLemmas.{among_filter}
use Rattle.lalrpop_norm_theory.specs.Types.{GroundType, GroundTypes, text_type, place_type, repeat_type, is_chosen, chosen_or_all}
use Rattle.lalrpop_norm_theory.specs.Types.{HaveTypes, HaveTupleType, IsGrounded}
use Rattle.lalrpop_grammar_language.proofs.AmongLemmas.{map_among}
use Rattle.lalrpop_norm_theory.proofs.TypeLemmas.{step_grounded}
use Rattle.lalrpop_norm_theory.specs.KeyRules.{IsKey, IsMacroExpansion}

-- lists of types

not_not_types : (P : Closed → GroundType → Type 0) (xs : List Closed) →
    ((x : Closed) → Among xs x → ((t : GroundType) → P x t → ⊥) → ⊥) →
    ((ts : GroundTypes) → HaveTypes P xs ts → ⊥) → ⊥
not_not_types P [] h u = u GroundTypes.none tt
not_not_types P (x ∷ xs) h u =
    h x (inl refl) (λ t p. not_not_types P xs (λ z i. h z (inr i)) (λ ts q. u (GroundTypes.more t ts) (p, q)))

not_not_tuple : (P : Closed → GroundType → Type 0) (xs : List Closed) →
    ((x : Closed) → Among xs x → ((t : GroundType) → P x t → ⊥) → ⊥) →
    ((t : GroundType) → HaveTupleType P xs t → ⊥) → ⊥
not_not_tuple P [] h u = u (GroundType.tuple GroundTypes.none) refl
not_not_tuple P (x ∷ []) h u = h x (inl refl) (λ t p. u t p)
not_not_tuple P (x ∷ y ∷ xs) h u = not_not_types P (x ∷ y ∷ xs) h (λ ts p. u (GroundType.tuple ts) (ts, refl, p))

chosen_in : (xs : List Closed) (x : Closed) → Among (chosen_or_all xs) x → Among xs x
chosen_in xs x i = go (list_any is_chosen xs) i
  where
    go : (b : Bool) → Among (cond b (filter is_chosen xs) xs) x → Among xs x
    go true j = (among_filter is_chosen xs x j).0
    go false j = j

abbrev nt : Closed → GrammarSymbol Nonterminal
nt x = GrammarSymbol.nonterminal (Nonterminal.closed x)

module _ (g h : EnabledGrammar) (f : Closed → Text) (keys : List Closed) (w : IsMacroExpansion g h f keys) where
  abbrev pub HasNone : Closed → Type 0
  HasNone x = (t : GroundType) → IsGrounded g x t → ⊥

  abbrev IsKeyed : Closed → Type 0
  IsKeyed x = (y : Closed) → grammar_symbol x ≡ nt y → Among keys y

  plus_keyed : (y : Closed) → Among keys (Closed.repeat Op.plus y) → IsKeyed y
  plus_keyed y k =
      λ z e. w.closed (Closed.repeat Op.plus y) z Origin.plus_one (grammar_symbol y ∷ []) k (inl (refl, refl)) (inl e)

  repeat_keyed : (op : Op) (y : Closed) → Among keys (Closed.repeat op y) → IsKeyed y
  repeat_keyed Op.plus y k = plus_keyed y k
  repeat_keyed Op.star y k =
      plus_keyed y (w.closed (Closed.repeat Op.star y) (Closed.repeat Op.plus y) Origin.star_some
      (nt (Closed.repeat Op.plus y) ∷ []) k (inr (refl, refl)) (inl refl))
  repeat_keyed Op.question y k =
      λ z e. w.closed (Closed.repeat Op.question y) z Origin.opt_some (grammar_symbol y ∷ []) k (inr (refl, refl)) (inl e)

  group_keyed : (xs : Closeds) → Among keys (Closed.group xs) → (x : Closed) → Among (closed_list xs) x → IsKeyed x
  group_keyed xs k x i =
      λ z e. w.closed (Closed.group xs) z Origin.group (map grammar_symbol (closed_list xs)) k (refl, refl)
      (subst (Among (map grammar_symbol (closed_list xs))) e (map_among grammar_symbol (closed_list xs) x i))

  -- where no call lacks a type
  module _ (calls : (n : Text) (args : Closeds) (level : Option ℕ) → Among keys (Closed.call n args level) →
      HasNone (Closed.call n args level) → ⊥) where
    mutual
      part_typed : (x : Closed) → IsKeyed x → HasNone x → ⊥
      part_typed (Closed.terminal (Terminal.quoted t)) k u =
          u text_type (step_grounded g (Closed.terminal (Terminal.quoted t)) text_type refl)
      part_typed (Closed.terminal (Terminal.regex t)) k u =
          u text_type (step_grounded g (Closed.terminal (Terminal.regex t)) text_type refl)
      part_typed (Closed.terminal (Terminal.bare n)) k u =
          u text_type (step_grounded g (Closed.terminal (Terminal.bare n)) text_type refl)
      part_typed (Closed.terminal Terminal.error) k u =
          w.keys_only (Closed.terminal Terminal.error) (k (Closed.terminal Terminal.error) refl)
      part_typed (Closed.call n args level) k u = calls n args level (k (Closed.call n args level) refl) u
      part_typed (Closed.repeat op y) k u =
          let key = k (Closed.repeat op y) refl in
          part_typed y (repeat_keyed op y key)
          (λ t p. u (repeat_type op t)
          (step_grounded g (Closed.repeat op y) (repeat_type op t) (w.reached (Closed.repeat op y) key, t, refl, p)))
      part_typed (Closed.group xs) k u =
          let key = k (Closed.group xs) refl in
          not_not_tuple (IsGrounded g) (chosen_or_all (closed_list xs))
          (λ x i. each_typed xs (group_keyed xs key) x (chosen_in (closed_list xs) x i))
          (λ t p. u t (step_grounded g (Closed.group xs) t (w.reached (Closed.group xs) key, p)))
      part_typed (Closed.choose x) k u = part_typed x k (λ t p. u t (step_grounded g (Closed.choose x) t p))
      part_typed (Closed.name m n x) k u = part_typed x k (λ t p. u t (step_grounded g (Closed.name m n x) t p))
      part_typed Closed.lookahead k u =
          u place_type (step_grounded g Closed.lookahead place_type (w.reached Closed.lookahead (k Closed.lookahead refl), refl))
      part_typed Closed.lookbehind k u =
          u place_type (step_grounded g Closed.lookbehind place_type (w.reached Closed.lookbehind (k Closed.lookbehind refl), refl))
      part_typed Closed.faulty k u = w.keys_only Closed.faulty (k Closed.faulty refl)

      each_typed : (xs : Closeds) → ((x : Closed) → Among (closed_list xs) x → IsKeyed x) → (x : Closed) →
          Among (closed_list xs) x →
          HasNone x → ⊥
      each_typed Closeds.none k x i u = absurd i
      each_typed (Closeds.more y ys) k x (inl e) u = part_typed y (k y (inl refl)) (subst HasNone (sym e) u)
      each_typed (Closeds.more y ys) k x (inr i) u = each_typed ys (λ z j. k z (inr j)) x i u

    -- no key lacks one
    pub key_typed : (x : Closed) → Among keys x → HasNone x → ⊥
    key_typed x k u = part_typed x (own x k (w.keys_only x k)) u
      where
        own : (z : Closed) → Among keys z → IsKey z → IsKeyed z
        own (Closed.terminal t) i j = absurd j
        own (Closed.call n args level) i j = λ y e. let same : Closed.call n args level ≡ y = cc in subst (Among keys) same i
        own (Closed.repeat op z) i j = λ y e. let same : Closed.repeat op z ≡ y = cc in subst (Among keys) same i
        own (Closed.group xs) i j = λ y e. let same : Closed.group xs ≡ y = cc in subst (Among keys) same i
        own (Closed.choose z) i j = absurd j
        own (Closed.name m n z) i j = absurd j
        own Closed.lookahead i j = λ y e. let same : Closed.lookahead ≡ y = cc in subst (Among keys) same i
        own Closed.lookbehind i j = λ y e. let same : Closed.lookbehind ≡ y = cc in subst (Among keys) same i
        own Closed.faulty i j = absurd j
