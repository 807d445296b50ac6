-- Where nothing is wrong with a grammar's names, each is resolved, and nothing is wrong with them then; for resolving.
use Rattle.std.proofs.Common.{◌≡◌, ◌≢◌, List, [], ◌∷◌, ◌++◌, refl, ap, sym}
use Rattle.std.proofs.Common.{◌∙◌, subst, cond, Bool, true, false, inl, inr, ◌⊎◌}
use Rattle.std.specs.Prelude.{flat_map, if◌then◌else◌}
use Rattle.lalrpop_grammar_symbols.specs.Symbols.{Text, TextSpan, Terminal, Sym, Syms, WrittenSymbol}
use Rattle.lalrpop_grammar_symbols.specs.Subsymbols.{subsymbols, subsymbols_of}
use Rattle.lalrpop_grammar_symbols.specs.SymbolMaps.{map_symbol, map_symbols}
use Rattle.lalrpop_grammar_language.specs.Among.{Among}
use Rattle.lalrpop_grammar_language.specs.Enabled.{EnabledGrammar, EnabledRule, IsRule, has_text}
use Rattle.lalrpop_norm_theory.specs.Premises.{IsResolvedIn}
use Rattle.lalrpop_grammar_language.proofs.StepLemmas.{among_right}
use Rattle.lalrpop_grammar_language.proofs.StepLemmas.{among_left}
use Rattle.lalrpop_grammar_language.proofs.OrderLemmas.{among_parts}
use Rattle.lalrpop_norm_theory.specs.Resolving.{DefinedNames, NameUse, use_of_name, resolved_name}
use Rattle.lalrpop_norm_theory.specs.NameFaults.{NameFault, fault_of_name, fault_of_nonterminal, fault_of_call, own_name_fault}
use Rattle.lalrpop_norm_theory.proofs.ClosedNameLemmas.{with_names}
use Rattle.lalrpop_norm_theory.proofs.NameUseLemmas.{IsUse, use_is, use_without_parameters}

-- joined lists are empty where each is

-- where two joined lists are empty each of them is
pub nil_parts : {A : Type 0} (xs ys : List A) → xs ++ ys ≡ [] → (xs ≡ []) × (ys ≡ [])
nil_parts [] ys e = (refl, e)
nil_parts (x ∷ xs) ys e = cc

-- where the joined lists of all elements are empty each element has an empty list
pub flat_nil : {A B : Type 0} (f : A → List B) (xs : List A) → flat_map f xs ≡ [] → (x : A) → Among xs x → f x ≡ []
flat_nil f [] e x i = absurd i
flat_nil f (y ∷ ys) e x (inl same) = ap f (sym same) ∙ (nil_parts (f y) (flat_map f ys) e).0
flat_nil f (y ∷ ys) e x (inr i) = flat_nil f ys (nil_parts (f y) (flat_map f ys) e).1 x i

-- where each element has an empty list the joined lists of all are empty
pub nil_from : {A B : Type 0} (f : A → List B) (xs : List A) → ((x : A) → Among xs x → f x ≡ []) → flat_map f xs ≡ []
nil_from f [] h = refl
nil_from f (x ∷ xs) h = ap (λ l. l ++ flat_map f xs) (h x (inl refl)) ∙ nil_from f xs (λ y i. h y (inr i))

-- what the rules of a grammar say of the names that it defines
pub record DefinesNames (d : DefinedNames) (h : EnabledGrammar) : Type 0 where
  pub plain : (n : Text) → has_text n d.plain ≡ true → (s : EnabledRule) × IsRule h n s × (s.parameters ≡ [])
  pub macros : (n : Text) → has_text n d.macros ≡ true → (s : EnabledRule) × IsRule h n s × (s.parameters ≢ [])
  pub bares : h.bares ≡ d.bares

-- nothing is wrong with the symbol, and it is resolved
abbrev pub IsRight : DefinedNames → EnabledGrammar → EnabledRule → WrittenSymbol → Type 0
IsRight d h r x = (own_name_fault d r.parameters x ≡ []) × IsResolvedIn h r x

-- what a name becomes where names are resolved in a rule with these parameters
abbrev pub replacement : DefinedNames → List Text → TextSpan → Text → WrittenSymbol
replacement d ps p n = resolved_name (use_of_name d ps n) p n

module _ (d : DefinedNames) (h : EnabledGrammar) (r : EnabledRule) (w : DefinesNames d h) where
  one_right : (x y : WrittenSymbol) → IsRight d h r x → Among (x ∷ []) y → IsRight d h r y
  one_right x y i (inl e) = subst (IsRight d h r) e i
  one_right x y i (inr j) = absurd j

  right_name : (p : TextSpan) (n : Text) (u : NameUse) → use_of_name d r.parameters n ≡ u → IsUse d r.parameters n u →
      fault_of_name u p n ≡ [] → (y : WrittenSymbol) → Among (subsymbols (resolved_name u p n)) y → IsRight d h r y
  right_name p n NameUse.parameter e v k y i =
      one_right (Sym.ambiguous_id p n) y (ap (λ u. fault_of_name u p n) e, v) i
  right_name p n NameUse.plain_rule e v k y i =
      one_right (Sym.nonterminal p n) y
      (ap (λ u. fault_of_nonterminal u p n) (sym (use_without_parameters d r.parameters n v.0) ∙ e), w.plain n v.1) i
  right_name p n NameUse.mapped e v k y i =
      one_right (Sym.terminal p (Terminal.bare n)) y
      (ap (λ (b : Bool). if b then [] else NameFault.unknown n p ∷ []) v.3, ap (has_text n) w.bares ∙ v.3) i
  right_name p n NameUse.macro_rule e v k y i = cc
  right_name p n NameUse.nothing e v k y i = cc

  resolved_nonterminal : (p : TextSpan) (n : Text) (u : NameUse) → IsUse d [] n u → fault_of_nonterminal u p n ≡ [] →
      (s : EnabledRule) × IsRule h n s × (s.parameters ≡ [])
  resolved_nonterminal p n NameUse.parameter v k = cc
  resolved_nonterminal p n NameUse.plain_rule v k = w.plain n v.1
  resolved_nonterminal p n NameUse.macro_rule v k = cc
  resolved_nonterminal p n NameUse.mapped v k = cc
  resolved_nonterminal p n NameUse.nothing v k = cc

  right_call : (p : TextSpan) (n : Text) (args : Syms TextSpan) (u : NameUse) → use_of_name d r.parameters n ≡ u →
      IsUse d r.parameters n u → fault_of_call u p n args ≡ [] →
      IsRight d h r (Sym.macro p n (map_symbols (with_names (replacement d r.parameters)) args))
  right_call p n args NameUse.parameter e v k = cc
  right_call p n args NameUse.plain_rule e v k = cc
  right_call p n Syms.none NameUse.macro_rule e v k = cc
  right_call p n (Syms.more x xs) NameUse.macro_rule e v k =
      let m = w.macros n v.2 in (
        ap (λ u. fault_of_call u p n (map_symbols (with_names (replacement d r.parameters)) (Syms.more x xs))) e,
        (record { macro = m.0; is_rule = m.1; has_parameters = m.2; not_hidden = v.0 }, refl),
      )
  right_call p n args NameUse.mapped e v k = cc
  right_call p n args NameUse.nothing e v k = cc

  resolved_terminal : (p : TextSpan) (t : Terminal) → own_name_fault d r.parameters (Sym.terminal p t) ≡ [] →
      IsResolvedIn h r (Sym.terminal p t)
  resolved_terminal p (Terminal.quoted t) k = tt
  resolved_terminal p (Terminal.regex t) k = tt
  resolved_terminal p Terminal.error k = tt
  resolved_terminal p (Terminal.bare n) k = ap (has_text n) w.bares ∙ go (has_text n d.bares) k
    where
      go : (b : Bool) → cond b [] (NameFault.unknown n p ∷ []) ≡ [] → b ≡ true
      go true e = refl
      go false e = cc

  -- the symbol itself, then what stands inside
  or_inside : (x y : WrittenSymbol) (inside : List WrittenSymbol) → IsRight d h r x →
      (Among inside y → IsRight d h r y) → Among (x ∷ inside) y → IsRight d h r y
  or_inside x y inside i k (inl e) = subst (IsRight d h r) e i
  or_inside x y inside i k (inr j) = k j

  mutual
    pub right_symbol : (x : WrittenSymbol) →
        ((y : WrittenSymbol) → Among (subsymbols x) y → own_name_fault d r.parameters y ≡ []) → (y : WrittenSymbol) →
        Among (subsymbols (map_symbol (with_names (replacement d r.parameters)) x)) y → IsRight d h r y
    right_symbol (Sym.expr p xs) k y i =
        or_inside (Sym.expr p (map_symbols (with_names (replacement d r.parameters)) xs)) y
        (subsymbols_of (map_symbols (with_names (replacement d r.parameters)) xs)) (refl, tt)
        (right_symbols xs (λ z j. k z (inr j)) y) i
    right_symbol (Sym.ambiguous_id p n) k y i =
        right_name p n (use_of_name d r.parameters n) refl (use_is d r.parameters n) (k (Sym.ambiguous_id p n) (inl refl)) y i
    right_symbol (Sym.nonterminal p n) k y i =
        one_right (Sym.nonterminal p n) y (
          k (Sym.nonterminal p n) (inl refl),
          resolved_nonterminal p n (use_of_name d [] n) (use_is d [] n) (k (Sym.nonterminal p n) (inl refl)),
        ) i
    right_symbol (Sym.terminal p t) k y i =
        one_right (Sym.terminal p t) y (k (Sym.terminal p t) (inl refl), resolved_terminal p t (k (Sym.terminal p t) (inl refl))) i
    right_symbol (Sym.macro p n args) k y i =
        or_inside (Sym.macro p n (map_symbols (with_names (replacement d r.parameters)) args)) y
        (subsymbols_of (map_symbols (with_names (replacement d r.parameters)) args))
        (right_call p n args (use_of_name d r.parameters n) refl (use_is d r.parameters n) (k (Sym.macro p n args) (inl refl)))
        (right_symbols args (λ z j. k z (inr j)) y) i
    right_symbol (Sym.repeat p op x) k y i =
        or_inside (Sym.repeat p op (map_symbol (with_names (replacement d r.parameters)) x)) y
        (subsymbols (map_symbol (with_names (replacement d r.parameters)) x)) (refl, tt) (right_symbol x (λ z j. k z (inr j)) y) i
    right_symbol (Sym.choose p x) k y i =
        or_inside (Sym.choose p (map_symbol (with_names (replacement d r.parameters)) x)) y
        (subsymbols (map_symbol (with_names (replacement d r.parameters)) x)) (refl, tt) (right_symbol x (λ z j. k z (inr j)) y) i
    right_symbol (Sym.name p mutable n x) k y i =
        or_inside (Sym.name p mutable n (map_symbol (with_names (replacement d r.parameters)) x)) y
        (subsymbols (map_symbol (with_names (replacement d r.parameters)) x)) (refl, tt) (right_symbol x (λ z j. k z (inr j)) y) i
    right_symbol (Sym.lookahead p) k y i = one_right (Sym.lookahead p) y (refl, tt) i
    right_symbol (Sym.lookbehind p) k y i = one_right (Sym.lookbehind p) y (refl, tt) i
    right_symbol (Sym.error p) k y i = one_right (Sym.error p) y (refl, tt) i

    pub right_symbols : (xs : Syms TextSpan) →
        ((y : WrittenSymbol) → Among (subsymbols_of xs) y → own_name_fault d r.parameters y ≡ []) → (y : WrittenSymbol) →
        Among (subsymbols_of (map_symbols (with_names (replacement d r.parameters)) xs)) y → IsRight d h r y
    right_symbols Syms.none k y i = absurd i
    right_symbols (Syms.more x xs) k y i =
        either (among_parts (subsymbols (map_symbol (with_names (replacement d r.parameters)) x))
        (subsymbols_of (map_symbols (with_names (replacement d r.parameters)) xs)) y i)
        (right_symbol x (λ z j. k z (among_left (subsymbols x) (subsymbols_of xs) z j)) y)
        (right_symbols xs (λ z j. k z (among_right (subsymbols x) (subsymbols_of xs) z j)) y)
      where
        either : {A B C : Type 0} → A ⊎ B → (A → C) → (B → C) → C
        either (inl a) f e = f a
        either (inr b) f e = e b
