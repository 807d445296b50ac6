-- Renamed occurrences: what they are counted by, and that names stay resolved; for the laws of levels.
use Rattle.std.specs.Str.{bytes_eq}
use Rattle.std.proofs.Common.{◌≡◌, ℕ, ◌+◌, List, [], ◌∷◌, refl, ap, sym, ◌∙◌, subst, cond, Bool, true}
use Rattle.std.proofs.Common.{false, inl, inr}
use Rattle.std.specs.Prelude.{Some, None, is_some, not, ◌&&◌, if◌then◌else◌}
use Rattle.lalrpop_grammar_symbols.specs.Symbols.{Text, TextSpan, Terminal, Syms, Sym, syms, WrittenSymbol, Closed}
use Rattle.lalrpop_grammar_symbols.specs.Subsymbols.{subsymbols, subsymbols_of}
use Rattle.lalrpop_grammar_language.specs.Among.{Among}
use Rattle.lalrpop_grammar_language.specs.Enabled.{EnabledGrammar, EnabledRule, IsRule, has_text}
use Rattle.lalrpop_grammar_language.specs.Levels.{loosest}
use Rattle.lalrpop_grammar_language.specs.Closing.{Scope, Binding, parameter_value, names_owner, occurs_at, occurrences_among, occurrences}
use Rattle.lalrpop_norm_theory.specs.Premises.{IsResolvedIn, IsMacroFor, has_arguments}
use Rattle.lalrpop_grammar_language.proofs.StepLemmas.{among_right}
use Rattle.lalrpop_grammar_language.proofs.StepLemmas.{among_left}
use Rattle.lalrpop_grammar_language.proofs.OrderLemmas.{among_parts}
use Rattle.lalrpop_norm_theory.specs.LevelRules.{level_name, occurrence_name, rename_occurrences, rename_all_occurrences}
use Rattle.lalrpop_norm_theory.specs.LevelRules.{rename_listed_occurrences, IsResolvedAfter, AreResolvedAfter}
use Rattle.lalrpop_norm_theory.specs.LevelRules.{AreListedResolvedAfter}
use Rattle.lalrpop_norm_theory.proofs.LevelOrderLemmas.{rule_meant}
use Rattle.lalrpop_norm_theory.proofs.LevelPlaceLemmas.{either_way}

-- scopes that count alike

-- the parameters of both hide the same names
abbrev pub HideAlike : Binding → Binding → Type 0
HideAlike b c = (n : Text) → is_some (parameter_value c n) ≡ is_some (parameter_value b n)

owner_alike : (b c : Binding) (o n : Text) → HideAlike b c → names_owner c o n ≡ names_owner b o n
owner_alike b c o n h = ap (λ x. if bytes_eq n o && not x then 1 else 0) (h n)

occurs_alike : (b c : Binding) (o : Text) → HideAlike b c → (x : WrittenSymbol) → occurs_at c o x ≡ occurs_at b o x
occurs_alike b c o h (Sym.ambiguous_id p n) = owner_alike b c o n h
occurs_alike b c o h (Sym.nonterminal p n) = refl
occurs_alike b c o h (Sym.macro p n args) = owner_alike b c o n h
occurs_alike b c o h (Sym.expr p xs) = refl
occurs_alike b c o h (Sym.terminal p t) = refl
occurs_alike b c o h (Sym.repeat p op x) = refl
occurs_alike b c o h (Sym.choose p x) = refl
occurs_alike b c o h (Sym.name p m n x) = refl
occurs_alike b c o h (Sym.lookahead p) = refl
occurs_alike b c o h (Sym.lookbehind p) = refl
occurs_alike b c o h (Sym.error p) = refl

-- occurrences are as many
pub counted_alike : (b c : Binding) (o : Text) → HideAlike b c → (xs : List WrittenSymbol) →
    occurrences_among c o xs ≡ occurrences_among b o xs
counted_alike b c o h [] = refl
counted_alike b c o h (x ∷ xs) =
    ap (λ k. k + occurrences_among c o xs) (occurs_alike b c o h x)
    ∙ ap (λ k. occurs_at b o x + k) (counted_alike b c o h xs)

-- the owner is the same, parameters hide the same names, and occurrences may have the same levels
pub record RenameAlike (s t : Scope) : Type 0 where
  pub owners : t.owner ≡ s.owner
  pub hide : HideAlike s.binding t.binding
  pub levels : (k : ℕ) → t.level_at k ≡ s.level_at k

names_alike : (s t : Scope) → RenameAlike s t → (n : Text) → names_owner t.binding t.owner n ≡ names_owner s.binding s.owner n
names_alike s t w n = ap (λ o. names_owner t.binding o n) w.owners ∙ owner_alike s.binding t.binding s.owner n w.hide

occurrences_alike : (s t : Scope) → RenameAlike s t → (x : WrittenSymbol) →
    occurrences t.binding t.owner x ≡ occurrences s.binding s.owner x
occurrences_alike s t w x =
    ap (λ o. occurrences t.binding o x) w.owners ∙ counted_alike s.binding t.binding s.owner w.hide (subsymbols x)

occurrence_alike : (f : Text → ℕ → Text) (s t : Scope) → RenameAlike s t → (k : ℕ) (n : Text) →
    occurrence_name f t k n ≡ occurrence_name f s k n
occurrence_alike f s t w k n =
    ap (λ o. if bytes_eq n o then level_name f n (t.level_at k) else n) w.owners
    ∙ ap (λ l. if bytes_eq n s.owner then level_name f n l else n) (w.levels k)

mutual
  pub rename_alike : (f : Text → ℕ → Text) (s t : Scope) → RenameAlike s t → (k : ℕ) (x : WrittenSymbol) →
      rename_occurrences f t k x ≡ rename_occurrences f s k x
  rename_alike f s t w k (Sym.expr p xs) = ap (λ l. Sym.expr p l) (rename_all_alike f s t w k xs)
  rename_alike f s t w k (Sym.ambiguous_id p n) = refl
  rename_alike f s t w k (Sym.nonterminal p n) = ap (λ m. Sym.nonterminal p m) (occurrence_alike f s t w k n)
  rename_alike f s t w k (Sym.terminal p u) = refl
  rename_alike f s t w k (Sym.macro p n args) =
      ap (λ m. Sym.macro p m (rename_all_occurrences f t (k + names_owner t.binding t.owner n) args)) (occurrence_alike f s t w k n)
      ∙ ap (λ j. Sym.macro p (occurrence_name f s k n) (rename_all_occurrences f t (k + j) args)) (names_alike s t w n)
      ∙ ap (λ l. Sym.macro p (occurrence_name f s k n) l) (rename_all_alike f s t w (k + names_owner s.binding s.owner n) args)
  rename_alike f s t w k (Sym.repeat p op x) = ap (λ y. Sym.repeat p op y) (rename_alike f s t w k x)
  rename_alike f s t w k (Sym.choose p x) = ap (λ y. Sym.choose p y) (rename_alike f s t w k x)
  rename_alike f s t w k (Sym.name p m n x) = ap (λ y. Sym.name p m n y) (rename_alike f s t w k x)
  rename_alike f s t w k (Sym.lookahead p) = refl
  rename_alike f s t w k (Sym.lookbehind p) = refl
  rename_alike f s t w k (Sym.error p) = refl

  pub rename_all_alike : (f : Text → ℕ → Text) (s t : Scope) → RenameAlike s t → (k : ℕ) (xs : Syms TextSpan) →
      rename_all_occurrences f t k xs ≡ rename_all_occurrences f s k xs
  rename_all_alike f s t w k Syms.none = refl
  rename_all_alike f s t w k (Syms.more x xs) =
      ap (λ y. Syms.more y (rename_all_occurrences f t (k + occurrences t.binding t.owner x) xs)) (rename_alike f s t w k x)
      ∙ ap (λ j. Syms.more (rename_occurrences f s k x) (rename_all_occurrences f t (k + j) xs)) (occurrences_alike s t w x)
      ∙ ap (λ l. Syms.more (rename_occurrences f s k x) l) (rename_all_alike f s t w (k + occurrences s.binding s.owner x) xs)

-- such scopes rename alike
pub rename_listed_alike : (f : Text → ℕ → Text) (s t : Scope) → RenameAlike s t → (k : ℕ) (xs : List WrittenSymbol) →
    rename_listed_occurrences f t k xs ≡ rename_listed_occurrences f s k xs
rename_listed_alike f s t w k [] = refl
rename_listed_alike f s t w k (x ∷ xs) =
    ap (λ y. y ∷ rename_listed_occurrences f t (k + occurrences t.binding t.owner x) xs) (rename_alike f s t w k x)
    ∙ ap (λ j. rename_occurrences f s k x ∷ rename_listed_occurrences f t (k + j) xs) (occurrences_alike s t w x)
    ∙ ap (λ l. rename_occurrences f s k x ∷ l) (rename_listed_alike f s t w (k + occurrences s.binding s.owner x) xs)

-- where the rule has no levels

no_level_name : (f : Text → ℕ → Text) (s : Scope) → ((k : ℕ) → s.level_at k ≡ None) → (k : ℕ) (n : Text) →
    occurrence_name f s k n ≡ n
no_level_name f s e k n = ap (λ l. if bytes_eq n s.owner then level_name f n l else n) (e k) ∙ either (bytes_eq n s.owner)
  where
    either : (b : Bool) → cond b n n ≡ n
    either true = refl
    either false = refl

mutual
  stays_as_it_is : (f : Text → ℕ → Text) (s : Scope) → ((k : ℕ) → s.level_at k ≡ None) → (k : ℕ) (x : WrittenSymbol) →
      rename_occurrences f s k x ≡ x
  stays_as_it_is f s e k (Sym.expr p xs) = ap (λ l. Sym.expr p l) (all_stay f s e k xs)
  stays_as_it_is f s e k (Sym.ambiguous_id p n) = refl
  stays_as_it_is f s e k (Sym.nonterminal p n) = ap (λ m. Sym.nonterminal p m) (no_level_name f s e k n)
  stays_as_it_is f s e k (Sym.terminal p u) = refl
  stays_as_it_is f s e k (Sym.macro p n args) =
      ap (λ m. Sym.macro p m (rename_all_occurrences f s (k + names_owner s.binding s.owner n) args)) (no_level_name f s e k n)
      ∙ ap (λ l. Sym.macro p n l) (all_stay f s e (k + names_owner s.binding s.owner n) args)
  stays_as_it_is f s e k (Sym.repeat p op x) = ap (λ y. Sym.repeat p op y) (stays_as_it_is f s e k x)
  stays_as_it_is f s e k (Sym.choose p x) = ap (λ y. Sym.choose p y) (stays_as_it_is f s e k x)
  stays_as_it_is f s e k (Sym.name p m n x) = ap (λ y. Sym.name p m n y) (stays_as_it_is f s e k x)
  stays_as_it_is f s e k (Sym.lookahead p) = refl
  stays_as_it_is f s e k (Sym.lookbehind p) = refl
  stays_as_it_is f s e k (Sym.error p) = refl

  all_stay : (f : Text → ℕ → Text) (s : Scope) → ((k : ℕ) → s.level_at k ≡ None) → (k : ℕ) (xs : Syms TextSpan) →
      rename_all_occurrences f s k xs ≡ xs
  all_stay f s e k Syms.none = refl
  all_stay f s e k (Syms.more x xs) =
      ap (λ y. Syms.more y (rename_all_occurrences f s (k + occurrences s.binding s.owner x) xs)) (stays_as_it_is f s e k x)
      ∙ ap (λ l. Syms.more x l) (all_stay f s e (k + occurrences s.binding s.owner x) xs)

-- symbols stay as they are where no occurrence has a level
pub listed_stay : (f : Text → ℕ → Text) (s : Scope) → ((k : ℕ) → s.level_at k ≡ None) →
    (k : ℕ) (xs : List WrittenSymbol) →
    rename_listed_occurrences f s k xs ≡ xs
listed_stay f s e k [] = refl
listed_stay f s e k (x ∷ xs) =
    ap (λ y. y ∷ rename_listed_occurrences f s (k + occurrences s.binding s.owner x) xs) (stays_as_it_is f s e k x)
    ∙ ap (λ l. x ∷ l) (listed_stay f s e (k + occurrences s.binding s.owner x) xs)

-- What renaming rests on: each rule that the symbols name is there under the name of the level that the occurrence may have,
-- with its parameters, and no parameter of the rule in which they stand hides it.
pub record NamesAreThere (f : Text → ℕ → Text) (s : Scope) (h : EnabledGrammar) (parameters : List Text) : Type 0 where
  pub bares : h.bares ≡ s.grammar.bares
  pub there : (k : ℕ) (n : Text) (m : EnabledRule) → IsRule s.grammar n m →
      (o : EnabledRule) × IsRule h (occurrence_name f s k n) o × (o.parameters ≡ m.parameters) × (loosest o ≡ None)
  pub unhidden : (k : ℕ) (n : Text) (m : EnabledRule) → IsRule s.grammar n m → has_text n parameters ≡ false →
      has_text (occurrence_name f s k n) parameters ≡ false

-- each symbol inside is resolved
abbrev pub IsResolvedInside : EnabledGrammar → EnabledRule → WrittenSymbol → Type 0
IsResolvedInside g r x = (y : WrittenSymbol) → Among (subsymbols x) y → IsResolvedIn g r y

-- each symbol inside one of these is resolved
abbrev pub AreResolvedInside : EnabledGrammar → EnabledRule → Syms TextSpan → Type 0
AreResolvedInside g r xs = (y : WrittenSymbol) → Among (subsymbols_of xs) y → IsResolvedIn g r y

as_many : (f : Text → ℕ → Text) (s : Scope) (k : ℕ) (xs : Syms TextSpan) →
    has_arguments (rename_all_occurrences f s k xs) ≡ has_arguments xs
as_many f s k Syms.none = refl
as_many f s k (Syms.more x xs) = refl

terminal_there : (g h : EnabledGrammar) (r q : EnabledRule) → h.bares ≡ g.bares → (p : TextSpan) (u : Terminal) →
    IsResolvedIn g r (Sym.terminal p u) → IsResolvedIn h q (Sym.terminal p u)
terminal_there g h r q e p (Terminal.quoted t) i = tt
terminal_there g h r q e p (Terminal.regex t) i = tt
terminal_there g h r q e p (Terminal.bare n) i = ap (has_text n) e ∙ i
terminal_there g h r q e p Terminal.error i = tt

macro_there : (f : Text → ℕ → Text) (s : Scope) (h : EnabledGrammar) (r q : EnabledRule) → q.parameters ≡ r.parameters →
    NamesAreThere f s h r.parameters → (k : ℕ) (n : Text) → IsMacroFor s.grammar r n → IsMacroFor h q (occurrence_name f s k n)
macro_there f s h r q e w k n i =
    let o = w.there k n i.macro i.is_rule in
    record {
      macro = o.0;
      is_rule = o.1;
      has_parameters = λ none. i.has_parameters (sym o.2 ∙ none);
      not_hidden = ap (has_text (occurrence_name f s k n)) e ∙ w.unhidden k n i.macro i.is_rule i.not_hidden;
    }

mutual
  pub renamed_resolved : (f : Text → ℕ → Text) (s : Scope) (h : EnabledGrammar) (r q : EnabledRule) →
      q.parameters ≡ r.parameters →
      NamesAreThere f s h r.parameters → (k : ℕ) (x : WrittenSymbol) → IsResolvedInside s.grammar r x →
      IsResolvedInside h q (rename_occurrences f s k x)
  renamed_resolved f s h r q e w k (Sym.expr p xs) i y (inl a) = subst (IsResolvedIn h q) a tt
  renamed_resolved f s h r q e w k (Sym.expr p xs) i y (inr j) =
      all_renamed_resolved f s h r q e w k xs (λ z m. i z (inr m)) y j
  renamed_resolved f s h r q e w k (Sym.ambiguous_id p n) i y (inl a) =
      subst (IsResolvedIn h q) a (ap (has_text n) e ∙ i (Sym.ambiguous_id p n) (inl refl))
  renamed_resolved f s h r q e w k (Sym.ambiguous_id p n) i y (inr j) = absurd j
  renamed_resolved f s h r q e w k (Sym.nonterminal p n) i y (inl a) =
      let u = i (Sym.nonterminal p n) (inl refl) in
      let o = w.there k n u.0 u.1 in
      subst (IsResolvedIn h q) a (o.0, o.1, o.2 ∙ u.2)
  renamed_resolved f s h r q e w k (Sym.nonterminal p n) i y (inr j) = absurd j
  renamed_resolved f s h r q e w k (Sym.terminal p u) i y (inl a) =
      subst (IsResolvedIn h q) a (terminal_there s.grammar h r q w.bares p u (i (Sym.terminal p u) (inl refl)))
  renamed_resolved f s h r q e w k (Sym.terminal p u) i y (inr j) = absurd j
  renamed_resolved f s h r q e w k (Sym.macro p n args) i y (inl a) =
      let u = i (Sym.macro p n args) (inl refl) in
      subst (IsResolvedIn h q) a
      (macro_there f s h r q e w k n u.0, as_many f s (k + names_owner s.binding s.owner n) args ∙ u.1)
  renamed_resolved f s h r q e w k (Sym.macro p n args) i y (inr j) =
      all_renamed_resolved f s h r q e w (k + names_owner s.binding s.owner n) args (λ z m. i z (inr m)) y j
  renamed_resolved f s h r q e w k (Sym.repeat p op x) i y (inl a) = subst (IsResolvedIn h q) a tt
  renamed_resolved f s h r q e w k (Sym.repeat p op x) i y (inr j) = renamed_resolved f s h r q e w k x (λ z m. i z (inr m)) y j
  renamed_resolved f s h r q e w k (Sym.choose p x) i y (inl a) = subst (IsResolvedIn h q) a tt
  renamed_resolved f s h r q e w k (Sym.choose p x) i y (inr j) = renamed_resolved f s h r q e w k x (λ z m. i z (inr m)) y j
  renamed_resolved f s h r q e w k (Sym.name p m n x) i y (inl a) = subst (IsResolvedIn h q) a tt
  renamed_resolved f s h r q e w k (Sym.name p m n x) i y (inr j) = renamed_resolved f s h r q e w k x (λ z l. i z (inr l)) y j
  renamed_resolved f s h r q e w k (Sym.lookahead p) i y (inl a) = subst (IsResolvedIn h q) a tt
  renamed_resolved f s h r q e w k (Sym.lookahead p) i y (inr j) = absurd j
  renamed_resolved f s h r q e w k (Sym.lookbehind p) i y (inl a) = subst (IsResolvedIn h q) a tt
  renamed_resolved f s h r q e w k (Sym.lookbehind p) i y (inr j) = absurd j
  renamed_resolved f s h r q e w k (Sym.error p) i y (inl a) = subst (IsResolvedIn h q) a tt
  renamed_resolved f s h r q e w k (Sym.error p) i y (inr j) = absurd j

  pub all_renamed_resolved : (f : Text → ℕ → Text) (s : Scope) (h : EnabledGrammar) (r q : EnabledRule) →
      q.parameters ≡ r.parameters → NamesAreThere f s h r.parameters → (k : ℕ) (xs : Syms TextSpan) →
      AreResolvedInside s.grammar r xs → AreResolvedInside h q (rename_all_occurrences f s k xs)
  all_renamed_resolved f s h r q e w k Syms.none i y j = absurd j
  all_renamed_resolved f s h r q e w k (Syms.more x xs) i y j =
      either_way (among_parts (subsymbols (rename_occurrences f s k x))
      (subsymbols_of (rename_all_occurrences f s (k + occurrences s.binding s.owner x) xs)) y j)
      (λ m. renamed_resolved f s h r q e w k x (λ z l. i z (among_left (subsymbols x) (subsymbols_of xs) z l)) y m)
      (λ m. all_renamed_resolved f s h r q e w (k + occurrences s.binding s.owner x) xs
      (λ z l. i z (among_right (subsymbols x) (subsymbols_of xs) z l)) y m)

-- renamed symbols are resolved
pub listed_resolved : (f : Text → ℕ → Text) (s : Scope) (h : EnabledGrammar) (r q : EnabledRule) → q.parameters ≡ r.parameters →
    NamesAreThere f s h r.parameters → (k : ℕ) (xs : List WrittenSymbol) → AreResolvedInside s.grammar r (syms xs) →
    AreResolvedInside h q (syms (rename_listed_occurrences f s k xs))
listed_resolved f s h r q e w k [] i y j = absurd j
listed_resolved f s h r q e w k (x ∷ xs) i y j =
    either_way (among_parts (subsymbols (rename_occurrences f s k x))
    (subsymbols_of (syms (rename_listed_occurrences f s (k + occurrences s.binding s.owner x) xs))) y j)
    (λ m. renamed_resolved f s h r q e w k x (λ z l. i z (among_left (subsymbols x) (subsymbols_of (syms xs)) z l)) y m)
    (λ m. listed_resolved f s h r q e w (k + occurrences s.binding s.owner x) xs
    (λ z l. i z (among_right (subsymbols x) (subsymbols_of (syms xs)) z l)) y m)

-- What closing rests on: parameters of the rule are bound, and other names aren't, in both scopes.
pub record BindsParameters (s t : Scope) (parameters : List Text) : Type 0 where
  pub bound : (n : Text) → has_text n parameters ≡ true → (c : Closed) × (parameter_value s.binding n ≡ Some c)
  pub free : (n : Text) → has_text n parameters ≡ false → parameter_value s.binding n ≡ None
  pub free_there : (n : Text) → has_text n parameters ≡ false → parameter_value t.binding n ≡ None

mutual
  pub resolved_after : (f : Text → ℕ → Text) (s t : Scope) (r : EnabledRule) → NamesAreThere f s t.grammar r.parameters →
      BindsParameters s t r.parameters → (k : ℕ) (x : WrittenSymbol) → IsResolvedInside s.grammar r x → IsResolvedAfter f s t k x
  resolved_after f s t r w b k (Sym.expr p xs) i = all_resolved_after f s t r w b k xs (λ y j. i y (inr j))
  resolved_after f s t r w b k (Sym.ambiguous_id p n) i = b.bound n (i (Sym.ambiguous_id p n) (inl refl))
  resolved_after f s t r w b k (Sym.nonterminal p n) i =
      let u = i (Sym.nonterminal p n) (inl refl) in
      (u.0, rule_meant s.grammar n u.0 u.1)
  resolved_after f s t r w b k (Sym.terminal p u) i = tt
  resolved_after f s t r w b k (Sym.macro p n args) i =
      let u = (i (Sym.macro p n args) (inl refl)).0 in (
        record {
          rule = u.macro;
          meant = rule_meant s.grammar n u.macro u.is_rule;
          not_hidden = b.free n u.not_hidden;
          level_not_hidden = b.free_there (occurrence_name f s k n) (w.unhidden k n u.macro u.is_rule u.not_hidden);
        },
        all_resolved_after f s t r w b (k + names_owner s.binding s.owner n) args (λ y j. i y (inr j)),
      )
  resolved_after f s t r w b k (Sym.repeat p op x) i = resolved_after f s t r w b k x (λ y j. i y (inr j))
  resolved_after f s t r w b k (Sym.choose p x) i = resolved_after f s t r w b k x (λ y j. i y (inr j))
  resolved_after f s t r w b k (Sym.name p m n x) i = resolved_after f s t r w b k x (λ y j. i y (inr j))
  resolved_after f s t r w b k (Sym.lookahead p) i = tt
  resolved_after f s t r w b k (Sym.lookbehind p) i = tt
  resolved_after f s t r w b k (Sym.error p) i = tt

  pub all_resolved_after : (f : Text → ℕ → Text) (s t : Scope) (r : EnabledRule) → NamesAreThere f s t.grammar r.parameters →
      BindsParameters s t r.parameters → (k : ℕ) (xs : Syms TextSpan) → AreResolvedInside s.grammar r xs →
      AreResolvedAfter f s t k xs
  all_resolved_after f s t r w b k Syms.none i = tt
  all_resolved_after f s t r w b k (Syms.more x xs) i = (
    resolved_after f s t r w b k x (λ y j. i y (among_left (subsymbols x) (subsymbols_of xs) y j)),
    all_resolved_after f s t r w b (k + occurrences s.binding s.owner x) xs
        (λ y j. i y (among_right (subsymbols x) (subsymbols_of xs) y j)),
  )

-- the symbols of an alternative are resolved where it is closed
pub listed_resolved_after : (f : Text → ℕ → Text) (s t : Scope) (r : EnabledRule) → NamesAreThere f s t.grammar r.parameters →
    BindsParameters s t r.parameters → (k : ℕ) (xs : List WrittenSymbol) → AreResolvedInside s.grammar r (syms xs) →
    AreListedResolvedAfter f s t k xs
listed_resolved_after f s t r w b k [] i = tt
listed_resolved_after f s t r w b k (x ∷ xs) i = (
  resolved_after f s t r w b k x (λ y j. i y (among_left (subsymbols x) (subsymbols_of (syms xs)) y j)),
  listed_resolved_after f s t r w b (k + occurrences s.binding s.owner x) xs
      (λ y j. i y (among_right (subsymbols x) (subsymbols_of (syms xs)) y j)),
)
