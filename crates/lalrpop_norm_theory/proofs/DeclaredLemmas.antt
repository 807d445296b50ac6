-- Declared types mean the same in the rule of a level; for the law of types.
use Rattle.std.specs.Str.{bytes_eq}
use Rattle.std.proofs.Common.{◌≡◌, ℕ, ◌+◌, List, [], ◌∷◌, refl, ap, sym, ◌∙◌, subst, cond, Bool, true, false, inl}
use Rattle.std.proofs.Common.{inr, ◌⊎◌}
use Rattle.std.specs.Prelude.{Option, Some, None, zip, option_map}
use Rattle.lalrpop_grammar_symbols.specs.Symbols.{Text, TextSpan, Syms, Sym, syms, WrittenSymbol, Closed, Closeds, closed_list}
use Rattle.lalrpop_grammar_symbols.specs.Subsymbols.{subsymbols}
use Rattle.lalrpop_grammar.specs.WrittenGrammar.{Action, Origin, Rule, Grammar, Ty, rules_of}
use Rattle.lalrpop_grammar_language.specs.Among.{Among}
use Rattle.lalrpop_grammar_language.specs.Enabled.{Choice}
use Rattle.lalrpop_grammar_language.specs.Levels.{loosest}
use Rattle.lalrpop_grammar_language.specs.Closing.{Scope, parameter_value, names_owner, occurrences, close, sound_or_faulty, is_sound}
use Rattle.lalrpop_grammar_language.specs.Admitting.{bind}
use Rattle.lalrpop_grammar_language.proofs.PlaceLemmas.{same_text-eq}
use Rattle.lalrpop_norm_theory.specs.Between.{rule_between}
use Rattle.lalrpop_norm_theory.specs.Premises.{symbols_of_type, IsResolvedIn}
use Rattle.lalrpop_norm_theory.specs.Types.{GroundType, IsTypeOfName, IsTypeOf, type_scope}
use Rattle.lalrpop_grammar_language.proofs.AmongLemmas.{map_among}
use Rattle.lalrpop_grammar_language.proofs.OrderLemmas.{among_parts}
use Rattle.lalrpop_norm_theory.specs.LevelRules.{level_name, by_level_names, all_by_level_names, occurrence_name}
use Rattle.lalrpop_norm_theory.specs.LevelRules.{rename_occurrences, rename_all_occurrences, IsLeveledScope}
use Rattle.lalrpop_norm_theory.proofs.LevelRuleLemmas.{close_list_leveled}
use Rattle.lalrpop_norm_theory.specs.LevelLaws.{IsLevelable}
use Rattle.lalrpop_norm_theory.proofs.LevelAttrLemmas.{flat_key, key_parameters}
use Rattle.lalrpop_norm_theory.proofs.RightLevelLemmas.{has_loosest}
use Rattle.lalrpop_norm_theory.proofs.RenameLemmas.{NamesAreThere, BindsParameters, AreResolvedInside, IsResolvedInside}
use Rattle.lalrpop_norm_theory.proofs.RenameLemmas.{listed_resolved_after}
use Rattle.lalrpop_norm_theory.proofs.LevelNameLemmas.{before, after, names_there}
use Rattle.lalrpop_norm_theory.proofs.LevelBindingLemmas.{renamed_value}
use Rattle.lalrpop_norm_theory.proofs.LevelClosingLemmas.{leveled_scope, binds}
use Rattle.lalrpop_norm_theory.proofs.LevelFitLemmas.{IsCallOf}
use Rattle.lalrpop_norm_theory.proofs.LevelExpansionLemmas.{well_scope}
use Rattle.lalrpop_norm_theory.proofs.WellLeveledLemmas.{IsWellOrFaulty, close_list_well, values_well}
use Rattle.lalrpop_norm_theory.proofs.LevelFitLemmas.{level_rule}
use Rattle.lalrpop_norm_theory.proofs.ReachLemmas.{IsWellIfSound}
use Rattle.lalrpop_norm_theory.proofs.TypeListLemmas.{Typing, type_over}

-- where each occurrence keeps its name, the symbol stays as it is
mutual
  names_kept : (f : Text → ℕ → Text) (s : Scope) → ((k : ℕ) (n : Text) → occurrence_name f s k n ≡ n) →
      (k : ℕ) (x : WrittenSymbol) →
      rename_occurrences f s k x ≡ x
  names_kept f s e k (Sym.expr p xs) = ap (λ l. Sym.expr p l) (all_names_kept f s e k xs)
  names_kept f s e k (Sym.ambiguous_id p n) = refl
  names_kept f s e k (Sym.nonterminal p n) = ap (λ m. Sym.nonterminal p m) (e k n)
  names_kept f s e k (Sym.terminal p u) = refl
  names_kept f s e k (Sym.macro p n args) =
      ap (λ m. Sym.macro p m (rename_all_occurrences f s (k + names_owner s.binding s.owner n) args)) (e k n)
      ∙ ap (λ l. Sym.macro p n l) (all_names_kept f s e (k + names_owner s.binding s.owner n) args)
  names_kept f s e k (Sym.repeat p op x) = ap (λ y. Sym.repeat p op y) (names_kept f s e k x)
  names_kept f s e k (Sym.choose p x) = ap (λ y. Sym.choose p y) (names_kept f s e k x)
  names_kept f s e k (Sym.name p m n x) = ap (λ y. Sym.name p m n y) (names_kept f s e k x)
  names_kept f s e k (Sym.lookahead p) = refl
  names_kept f s e k (Sym.lookbehind p) = refl
  names_kept f s e k (Sym.error p) = refl

  all_names_kept : (f : Text → ℕ → Text) (s : Scope) → ((k : ℕ) (n : Text) → occurrence_name f s k n ≡ n) → (k : ℕ)
      (xs : Syms TextSpan) → rename_all_occurrences f s k xs ≡ xs
  all_names_kept f s e k Syms.none = refl
  all_names_kept f s e k (Syms.more x xs) =
      ap (λ y. Syms.more y (rename_all_occurrences f s (k + occurrences s.binding s.owner x) xs)) (names_kept f s e k x)
      ∙ ap (λ l. Syms.more x l) (all_names_kept f s e (k + occurrences s.binding s.owner x) xs)

-- scopes of types are those of an alternative without a rank

abbrev no_choice : Choice
no_choice = record { origin = Origin.start; expr = []; condition = None; action = Action.default; attributes = [] }

abbrev types_here : (Text → Text → Option Bool) → Grammar → Rule → Closeds → Scope
types_here finds g r args = type_scope (before finds g) (rule_between r) args

abbrev types_there : (Text → Text → Option Bool) → Grammar → (Text → ℕ → Text) → Rule → Closeds → Option ℕ → Scope
types_there finds g f r args level = type_scope (after finds g f) (level_rule f r level) (all_by_level_names f args)

own_name_kept : (finds : Text → Text → Option Bool) (g : Grammar) (f : Text → ℕ → Text) → IsLevelable finds g f →
    (r : Rule) →
    Among (rules_of g.items) r → (args : Closeds) (k : ℕ) (n : Text) → occurrence_name f (types_here finds g r args) k n ≡ n
own_name_kept finds g f w r i args k n = go (bytes_eq n r.name) refl
  where
    go : (b : Bool) → bytes_eq n r.name ≡ b → cond b (level_name f n (loosest (rule_between r))) n ≡ n
    go true e =
        subst (λ t. level_name f t (loosest (rule_between r)) ≡ t) (sym (same_text-eq n r.name e)) (w.names.loosest_kept r i)
    go false e = refl

abbrev first_or : Closed → List Closed → Closed
first_or x [] = x
first_or x (y ∷ ys) = y

-- a symbol in a declared type closes to the closed symbol under the names of the levels
symbol_closes : (finds : Text → Text → Option Bool) (g : Grammar) (f : Text → ℕ → Text) → IsLevelable finds g f →
    (r : Rule) (args : Closeds) (level : Option ℕ) → IsCallOf finds g r args level → (x : WrittenSymbol) →
    IsResolvedInside (before finds g) (rule_between r) x →
    sound_or_faulty (close (types_there finds g f r args level) 0 x)
    ≡ by_level_names f (sound_or_faulty (close (types_here finds g r args) 0 x))
symbol_closes finds g f w r args level call x inside =
    let s = types_here finds g r args in
    let t = types_there finds g f r args level in
    let q = level_rule f r level in
    let names : NamesAreThere f s (after finds g f) r.parameters =
    names_there finds g f w r call.among (bind (rule_between r) args) (λ k. loosest (rule_between r))
    (λ k. has_loosest g w.right r call.among) in
    let scopes : IsLeveledScope f s t =
    leveled_scope finds g f w r args no_choice None q (key_parameters f r level) (flat_key f r level call.has_level) no_choice names in
    let bound : BindsParameters s t r.parameters =
    binds finds g f r args no_choice None q (key_parameters f r level) call.many no_choice in
    let resolved : AreResolvedInside (before finds g) (rule_between r) (syms (x ∷ [])) =
    λ y i. inside y (only y (among_parts (subsymbols x) [] y i)) in
    let renamed : rename_occurrences f s 0 x ≡ x = names_kept f s (own_name_kept finds g f w r call.among args) 0 x in
    ap (λ y. sound_or_faulty (close t 0 y)) (sym renamed)
    ∙ ap (first_or Closed.faulty) (close_list_leveled f s t scopes 0 0 (x ∷ [])
    (listed_resolved_after f s t (rule_between r) names bound 0 (x ∷ []) resolved))
  where
    only : (y : WrittenSymbol) → Among (subsymbols x) y ⊎ Among [] y → Among (subsymbols x) y
    only y (inl i) = i
    only y (inr i) = absurd i

-- and is well, if it is sound
symbol_well : (finds : Text → Text → Option Bool) (g : Grammar) (f : Text → ℕ → Text) → IsLevelable finds g f →
    (r : Rule) (args : Closeds) (level : Option ℕ) → IsCallOf finds g r args level → (x : WrittenSymbol) →
    IsWellOrFaulty (before finds g) (sound_or_faulty (close (types_here finds g r args) 0 x))
symbol_well finds g f w r args level call x =
    close_list_well (types_here finds g r args) (well_scope finds g f w r call.among args call.well no_choice None tt) 0 (x ∷ [])
    (sound_or_faulty (close (types_here finds g r args) 0 x)) (inl refl)

-- names

name_forth : (f : Text → ℕ → Text) (P Q : Typing) → ((x : Closed) (t : GroundType) → P x t → Q (by_level_names f x) t) →
    (n : Text) (o : Option Closed) (t : GroundType) → IsTypeOfName P n o t → IsTypeOfName Q n (option_map (by_level_names f) o) t
name_forth f P Q h n None t i = i
name_forth f P Q h n (Some x) t i = h x t i

name_back : (f : Text → ℕ → Text) (W : Closed → Type 0) (P Q : Typing) →
    ((x : Closed) → W x → (t : GroundType) → Q (by_level_names f x) t → P x t) →
    (n : Text) (o : Option Closed) → ((x : Closed) → o ≡ Some x → W x) → (t : GroundType) →
    IsTypeOfName Q n (option_map (by_level_names f) o) t → IsTypeOfName P n o t
name_back f W P Q h n None w t i = i
name_back f W P Q h n (Some x) w t i = h x (w x refl) t i

value_there : (finds : Text → Text → Option Bool) (g : Grammar) (f : Text → ℕ → Text) (r : Rule) (args : Closeds)
    (level : Option ℕ) (n : Text) → parameter_value (types_there finds g f r args level).binding n
    ≡ option_map (by_level_names f) (parameter_value (types_here finds g r args).binding n)
value_there finds g f r args level n =
    ap (λ ps. parameter_value (zip ps (closed_list (all_by_level_names f args))) n) (key_parameters f r level)
    ∙ renamed_value f r.parameters args n

-- a symbol that is well or faulty is well if it is sound
pub well_if_sound : (finds : Text → Text → Option Bool) (g : Grammar) (x : Closed) → IsWellOrFaulty (before finds g) x →
    IsWellIfSound (before finds g) x
well_if_sound finds g x (inl e) h = let none : false ≡ true = ap is_sound (sym e) ∙ h in cc
well_if_sound finds g x (inr w) h = w

-- declared types

resolved_types : (finds : Text → Text → Option Bool) (g : Grammar) (f : Text → ℕ → Text) → IsLevelable finds g f →
    (r : Rule) →
    Among (rules_of g.items) r → (y : Ty) → r.declared ≡ Some y → (x : WrittenSymbol) → Among (symbols_of_type y) x →
    IsResolvedIn (before finds g) (rule_between r) x
resolved_types finds g f w r i y e x j =
    w.resolved.types (rule_between r) x
    (record { rule = map_among rule_between (rules_of g.items) r i; written = y; declared = e; symbol = j })

-- a declared type is one in the rule of the level
pub declared_forth : (finds : Text → Text → Option Bool) (g : Grammar) (f : Text → ℕ → Text) → IsLevelable finds g f →
    (P Q : Typing) → ((x : Closed) (t : GroundType) → P x t → Q (by_level_names f x) t) →
    (r : Rule) (args : Closeds) (level : Option ℕ) → IsCallOf finds g r args level → (y : Ty) → r.declared ≡ Some y →
    (t : GroundType) → IsTypeOf P (type_scope (before finds g) (rule_between r) args) y t →
    IsTypeOf Q (type_scope (after finds g f) (level_rule f r level) (all_by_level_names f args)) y t
declared_forth finds g f w P Q h r args level call y e t i =
    let s = types_here finds g r args in
    let s' = types_there finds g f r args level in
    type_over P Q s s' (IsResolvedIn (before finds g) (rule_between r)) (record {
      names = λ n u j. subst (λ o. IsTypeOfName Q n o u) (sym (value_there finds g f r args level n))
          (name_forth f P Q h n (parameter_value s.binding n) u j);
      symbols = λ x inside u j. subst (λ z. Q z u) (sym (symbol_closes finds g f w r args level call x inside))
          (h (sound_or_faulty (close s 0 x)) u j);
    }) y (resolved_types finds g f w r call.among y e) t i

-- and back
pub declared_back : (finds : Text → Text → Option Bool) (g : Grammar) (f : Text → ℕ → Text) → IsLevelable finds g f →
    (P Q : Typing) →
    ((x : Closed) → IsWellIfSound (before finds g) x → (t : GroundType) → Q (by_level_names f x) t → P x t) →
    (r : Rule) (args : Closeds) (level : Option ℕ) → IsCallOf finds g r args level → (y : Ty) → r.declared ≡ Some y →
    (t : GroundType) → IsTypeOf Q (type_scope (after finds g f) (level_rule f r level) (all_by_level_names f args)) y t →
    IsTypeOf P (type_scope (before finds g) (rule_between r) args) y t
declared_back finds g f w P Q h r args level call y e t i =
    let s = types_here finds g r args in
    let s' = types_there finds g f r args level in
    type_over Q P s' s (IsResolvedIn (before finds g) (rule_between r)) (record {
      names = λ n u j. name_back f (IsWellIfSound (before finds g)) P Q h n (parameter_value s.binding n)
          (λ x k. values_well (before finds g) r.parameters args call.well n x k) u
          (subst (λ o. IsTypeOfName Q n o u) (value_there finds g f r args level n) j);
      symbols = λ x inside u j. h (sound_or_faulty (close s 0 x))
          (well_if_sound finds g (sound_or_faulty (close s 0 x)) (symbol_well finds g f w r args level call x)) u
          (subst (λ z. Q z u) (symbol_closes finds g f w r args level call x inside) j);
    }) y (resolved_types finds g f w r call.among y e) t i
