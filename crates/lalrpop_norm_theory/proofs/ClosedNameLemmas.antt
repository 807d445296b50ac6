-- Closing a symbol with its names replaced gives its closed symbol, where each name's replacement closes so; for resolving.
use Rattle.std.proofs.Common.{◌≡◌, ℕ, ◌+◌, List, [], ◌∷◌, ◌++◌, refl}
use Rattle.std.proofs.Common.{ap, sym, ◌∙◌, Bool, true, false, inl, inr, arith}
use Rattle.std.specs.Prelude.{Option, Some, None, map, option_map, if◌then◌else◌}
use Rattle.std.specs.Str.{bytes_eq}
use Rattle.lalrpop_grammar_symbols.specs.Symbols.{Text, TextSpan, Terminal, Sym, Syms, syms, WrittenSymbol, Closed, Closeds}
use Rattle.lalrpop_grammar_symbols.specs.Subsymbols.{subsymbols, subsymbols_of}
use Rattle.lalrpop_grammar_symbols.specs.SymbolMaps.{SymbolMapping, map_symbol, map_symbols}
use Rattle.lalrpop_grammar_language.specs.Among.{Among}
use Rattle.lalrpop_grammar_language.specs.Enabled.{EnabledGrammar, EnabledRule, Choice, has_text, rules_named}
use Rattle.lalrpop_grammar_language.specs.Levels.{Rank, tighter, reaches, allowed_level, allowed_level_above}
use Rattle.lalrpop_grammar_language.specs.Closing.{Binding, Scope, Meaning, parameter_value, name_meaning, name_meaning_in, names_owner}
use Rattle.lalrpop_grammar_language.specs.Closing.{occurrences, occurrences_among, occurrences_in, call_level, if_plain}
use Rattle.lalrpop_grammar_language.specs.Closing.{if_macro, plain_name, plain_call, close_terminal, name_or, close, close_all}
use Rattle.lalrpop_grammar_language.specs.Closing.{sound_or_faulty, close_list, right_side}
use Rattle.lalrpop_grammar_language.proofs.StepLemmas.{among_right}
use Rattle.lalrpop_grammar_language.proofs.StepLemmas.{among_left}
use Rattle.lalrpop_norm_theory.proofs.RuleChangeLemmas.{RuleChange, changed_rule, changed_pair, HasChangedRules, named_kept}
use Rattle.lalrpop_norm_theory.proofs.RuleChangeLemmas.{loosest_kept, tighter_kept}

-- names alone are replaced
abbrev pub with_names : (TextSpan → Text → WrittenSymbol) → SymbolMapping
with_names f = record {
  of_name = f;
  of_nonterminal = λ p n. Sym.nonterminal p n;
  of_call = λ p n args. Sym.macro p n args;
}

-- occurrences

pub joined_occurrences : (b : Binding) (o : Text) (xs ys : List WrittenSymbol) →
    occurrences_among b o (xs ++ ys) ≡ occurrences_among b o xs + occurrences_among b o ys
joined_occurrences b o [] ys = omega arith
joined_occurrences b o (x ∷ xs) ys = let more = joined_occurrences b o xs ys in omega (arith, more)

-- what stands for a name is as many occurrences as the name
abbrev pub CountsAlike : (TextSpan → Text → WrittenSymbol) → Binding → Text → Type 0
CountsAlike f b o = (p : TextSpan) (n : Text) → occurrences b o (f p n) ≡ occurrences b o (Sym.ambiguous_id p n)

mutual
  pub count_kept : (f : TextSpan → Text → WrittenSymbol) (b : Binding) (o : Text) → CountsAlike f b o → (x : WrittenSymbol) →
      occurrences b o (map_symbol (with_names f) x) ≡ occurrences b o x
  count_kept f b o c (Sym.expr p xs) = ap (λ (k : ℕ). 0 + k) (counts_kept f b o c xs)
  count_kept f b o c (Sym.ambiguous_id p n) = c p n
  count_kept f b o c (Sym.nonterminal p n) = refl
  count_kept f b o c (Sym.terminal p t) = refl
  count_kept f b o c (Sym.macro p n args) = ap (λ (k : ℕ). names_owner b o n + k) (counts_kept f b o c args)
  count_kept f b o c (Sym.repeat p op x) = ap (λ (k : ℕ). 0 + k) (count_kept f b o c x)
  count_kept f b o c (Sym.choose p x) = ap (λ (k : ℕ). 0 + k) (count_kept f b o c x)
  count_kept f b o c (Sym.name p mutable n x) = ap (λ (k : ℕ). 0 + k) (count_kept f b o c x)
  count_kept f b o c (Sym.lookahead p) = refl
  count_kept f b o c (Sym.lookbehind p) = refl
  count_kept f b o c (Sym.error p) = refl

  pub counts_kept : (f : TextSpan → Text → WrittenSymbol) (b : Binding) (o : Text) → CountsAlike f b o → (xs : Syms TextSpan) →
      occurrences_in b o (map_symbols (with_names f) xs) ≡ occurrences_in b o xs
  counts_kept f b o c Syms.none = refl
  counts_kept f b o c (Syms.more x xs) =
      joined_occurrences b o (subsymbols (map_symbol (with_names f) x)) (subsymbols_of (map_symbols (with_names f) xs))
      ∙ ap (λ (k : ℕ). k + occurrences_in b o (map_symbols (with_names f) xs)) (count_kept f b o c x)
      ∙ ap (λ (k : ℕ). occurrences b o x + k) (counts_kept f b o c xs)
      ∙ sym (joined_occurrences b o (subsymbols x) (subsymbols_of xs))

-- a list of symbols has as many occurrences
pub listed_counts_kept : (f : TextSpan → Text → WrittenSymbol) (b : Binding) (o : Text) → CountsAlike f b o →
    (xs : List WrittenSymbol) → occurrences_in b o (syms (map (map_symbol (with_names f)) xs)) ≡ occurrences_in b o (syms xs)
listed_counts_kept f b o c [] = refl
listed_counts_kept f b o c (x ∷ xs) =
    joined_occurrences b o (subsymbols (map_symbol (with_names f) x)) (subsymbols_of (syms (map (map_symbol (with_names f)) xs)))
    ∙ ap (λ (k : ℕ). k + occurrences_in b o (syms (map (map_symbol (with_names f)) xs))) (count_kept f b o c x)
    ∙ ap (λ (k : ℕ). occurrences b o x + k) (listed_counts_kept f b o c xs)
    ∙ sym (joined_occurrences b o (subsymbols x) (subsymbols_of (syms xs)))

-- what names mean where rules are changed

abbrev changed_meaning : RuleChange → Meaning → Meaning
changed_meaning w (Meaning.rule r) = Meaning.rule (changed_rule w r)
changed_meaning w Meaning.terminal = Meaning.terminal
changed_meaning w Meaning.unclear = Meaning.unclear

meaning_in_kept : (w : RuleChange) (rs : List EnabledRule) (b : Bool) →
    name_meaning_in (map (changed_rule w) rs) b ≡ changed_meaning w (name_meaning_in rs b)
meaning_in_kept w [] true = refl
meaning_in_kept w [] false = refl
meaning_in_kept w (r ∷ []) b = refl
meaning_in_kept w (r ∷ s ∷ rs) b = refl

meaning_kept : (w : RuleChange) (g h : EnabledGrammar) → HasChangedRules w g h → (n : Text) →
    name_meaning h n ≡ changed_meaning w (name_meaning g n)
meaning_kept w g h k n =
    ap (λ rs. name_meaning_in rs (has_text n h.bares)) (named_kept w g h k n)
    ∙ ap (λ bs. name_meaning_in (map (changed_rule w) (rules_named g n)) (has_text n bs)) k.bares
    ∙ meaning_in_kept w (rules_named g n) (has_text n g.bares)

-- one scope in either grammar
abbrev pub scope_in : EnabledGrammar → Binding → Text → (ℕ → Option ℕ) → Scope
scope_in g b o e = record { grammar = g; binding = b; owner = o; level_at = e }

call_level_kept : (w : RuleChange) (g h : EnabledGrammar) → HasChangedRules w g h → (b : Binding) (o : Text) (e : ℕ → Option ℕ)
    (k : ℕ) (n : Text) (r : EnabledRule) → call_level (scope_in h b o e) k n (changed_rule w r) ≡ call_level (scope_in g b o e) k n r
call_level_kept w g h s b o e k n r = ap (λ (l : Option ℕ). if bytes_eq n o then e k else l) (loosest_kept w s.ranks r)

plain_kept : (w : RuleChange) (g h : EnabledGrammar) → HasChangedRules w g h → (b : Binding) (o : Text) (e : ℕ → Option ℕ)
    (k : ℕ) (n : Text) (m : Meaning) → plain_name (scope_in h b o e) k n (changed_meaning w m) ≡ plain_name (scope_in g b o e) k n m
plain_kept w g h s b o e k n (Meaning.rule r) =
    ap (λ (l : Option ℕ). if_plain r.parameters (Closed.call n Closeds.none l)) (call_level_kept w g h s b o e k n r)
plain_kept w g h s b o e k n Meaning.terminal = refl
plain_kept w g h s b o e k n Meaning.unclear = refl

call_kept : (w : RuleChange) (g h : EnabledGrammar) → HasChangedRules w g h → (b : Binding) (o : Text) (e : ℕ → Option ℕ)
    (k : ℕ) (n : Text) (args : Closeds) (m : Meaning) →
    plain_call (scope_in h b o e) k n args (changed_meaning w m) ≡ plain_call (scope_in g b o e) k n args m
call_kept w g h s b o e k n args (Meaning.rule r) =
    ap (λ (l : Option ℕ). if_macro r.parameters args (Closed.call n args l)) (call_level_kept w g h s b o e k n r)
call_kept w g h s b o e k n args Meaning.terminal = refl
call_kept w g h s b o e k n args Meaning.unclear = refl

-- a name that no parameter hides closes alike
pub name_closed : (w : RuleChange) (g h : EnabledGrammar) → HasChangedRules w g h → (b : Binding) (o : Text) (e : ℕ → Option ℕ)
    (k : ℕ) (n : Text) →
    plain_name (scope_in h b o e) k n (name_meaning h n) ≡ plain_name (scope_in g b o e) k n (name_meaning g n)
name_closed w g h s b o e k n =
    ap (plain_name (scope_in h b o e) k n) (meaning_kept w g h s n) ∙ plain_kept w g h s b o e k n (name_meaning g n)

terminal_closed : (g h : EnabledGrammar) → h.bares ≡ g.bares → (t : Terminal) → close_terminal h t ≡ close_terminal g t
terminal_closed g h e (Terminal.quoted t) = refl
terminal_closed g h e (Terminal.regex t) = refl
terminal_closed g h e (Terminal.bare n) = ap (λ bs. if has_text n bs then Closed.terminal (Terminal.bare n) else Closed.faulty) e
terminal_closed g h e Terminal.error = refl

-- what stands for a name closes as the name does
abbrev pub ClosesAlike : (TextSpan → Text → WrittenSymbol) → EnabledGrammar → EnabledGrammar → Binding → Text → Type 0
ClosesAlike f g h b o =
    (e : ℕ → Option ℕ) (k : ℕ) (p : TextSpan) (n : Text)
    → close (scope_in h b o e) k (f p n) ≡ close (scope_in g b o e) k (Sym.ambiguous_id p n)

mutual
  pub close_kept : (w : RuleChange) (g h : EnabledGrammar) → HasChangedRules w g h → (f : TextSpan → Text → WrittenSymbol)
      (b : Binding) (o : Text) → CountsAlike f b o → ClosesAlike f g h b o → (e : ℕ →
      Option ℕ) (k : ℕ) (x : WrittenSymbol) →
      close (scope_in h b o e) k (map_symbol (with_names f) x) ≡ close (scope_in g b o e) k x
  close_kept w g h s f b o c a e k (Sym.expr p xs) = ap Closed.group (close_all_kept w g h s f b o c a e k xs)
  close_kept w g h s f b o c a e k (Sym.ambiguous_id p n) = a e k p n
  close_kept w g h s f b o c a e k (Sym.nonterminal p n) = name_closed w g h s b o e k n
  close_kept w g h s f b o c a e k (Sym.terminal p t) = terminal_closed g h s.bares t
  close_kept w g h s f b o c a e k (Sym.macro p n args) =
      let inside : Closeds = close_all (scope_in h b o e) (k + names_owner b o n) (map_symbols (with_names f) args) in
      ap (λ m. name_or (option_map (λ c. Closed.faulty) (parameter_value b n)) (plain_call (scope_in h b o e) k n inside m))
      (meaning_kept w g h s n)
      ∙ ap (λ m. name_or (option_map (λ c. Closed.faulty) (parameter_value b n)) m)
      (call_kept w g h s b o e k n inside (name_meaning g n))
      ∙ ap (λ m. name_or (option_map (λ c. Closed.faulty) (parameter_value b n))
      (plain_call (scope_in g b o e) k n m (name_meaning g n)))
      (close_all_kept w g h s f b o c a e (k + names_owner b o n) args)
  close_kept w g h s f b o c a e k (Sym.repeat p op x) =
      ap (λ y. Closed.repeat op y) (close_kept w g h s f b o c a e k x)
  close_kept w g h s f b o c a e k (Sym.choose p x) = ap Closed.choose (close_kept w g h s f b o c a e k x)
  close_kept w g h s f b o c a e k (Sym.name p mutable n x) =
      ap (λ y. Closed.name mutable n y) (close_kept w g h s f b o c a e k x)
  close_kept w g h s f b o c a e k (Sym.lookahead p) = refl
  close_kept w g h s f b o c a e k (Sym.lookbehind p) = refl
  close_kept w g h s f b o c a e k (Sym.error p) = refl

  pub close_all_kept : (w : RuleChange) (g h : EnabledGrammar) → HasChangedRules w g h → (f : TextSpan → Text → WrittenSymbol)
      (b : Binding) (o : Text) → CountsAlike f b o → ClosesAlike f g h b o → (e : ℕ →
      Option ℕ) (k : ℕ) (xs : Syms TextSpan) →
      close_all (scope_in h b o e) k (map_symbols (with_names f) xs) ≡ close_all (scope_in g b o e) k xs
  close_all_kept w g h s f b o c a e k Syms.none = refl
  close_all_kept w g h s f b o c a e k (Syms.more x xs) =
      let others : Syms TextSpan = map_symbols (with_names f) xs in
      ap (λ y. Closeds.more y (close_all (scope_in h b o e) (k + occurrences b o (map_symbol (with_names f) x)) others))
      (close_kept w g h s f b o c a e k x)
      ∙ ap (λ (j : ℕ). Closeds.more (close (scope_in g b o e) k x) (close_all (scope_in h b o e) (k + j) others))
      (count_kept f b o c x)
      ∙ ap (λ ys. Closeds.more (close (scope_in g b o e) k x) ys)
      (close_all_kept w g h s f b o c a e (k + occurrences b o x) xs)

-- the closed symbols of a list stay
pub close_list_kept : (w : RuleChange) (g h : EnabledGrammar) → HasChangedRules w g h → (f : TextSpan → Text → WrittenSymbol)
    (b : Binding) (o : Text) → CountsAlike f b o → ClosesAlike f g h b o → (e : ℕ →
    Option ℕ) (k : ℕ) (xs : List WrittenSymbol) →
    close_list (scope_in h b o e) k (map (map_symbol (with_names f)) xs) ≡ close_list (scope_in g b o e) k xs
close_list_kept w g h s f b o c a e k [] = refl
close_list_kept w g h s f b o c a e k (x ∷ xs) =
    let others : List WrittenSymbol = map (map_symbol (with_names f)) xs in
    ap (λ y. sound_or_faulty y ∷ close_list (scope_in h b o e) (k + occurrences b o (map_symbol (with_names f) x)) others)
    (close_kept w g h s f b o c a e k x)
    ∙ ap (λ (j : ℕ). sound_or_faulty (close (scope_in g b o e) k x) ∷ close_list (scope_in h b o e) (k + j) others)
    (count_kept f b o c x)
    ∙ ap (λ ys. sound_or_faulty (close (scope_in g b o e) k x) ∷ ys) (close_list_kept w g h s f b o c a e (k + occurrences b o x) xs)

-- the levels that occurrences may have

above_kept : (w : RuleChange) (g h : EnabledGrammar) → HasChangedRules w g h → (r : EnabledRule) (q : Rank) (b : Bool)
    (t : Option ℕ) → allowed_level_above (changed_rule w r) q b t ≡ allowed_level_above r q b t
above_kept w g h s r q b None = loosest_kept w s.ranks r
above_kept w g h s r q b (Some t) = refl

allowed_kept : (w : RuleChange) (g h : EnabledGrammar) → HasChangedRules w g h → (r : EnabledRule) (rank : Option Rank) (n i : ℕ) →
    allowed_level (changed_rule w r) rank n i ≡ allowed_level r rank n i
allowed_kept w g h s r None n i = loosest_kept w s.ranks r
allowed_kept w g h s r (Some q) n i =
    ap (λ (t : Option ℕ). allowed_level_above (changed_rule w r) q (reaches q.side n i) t) (tighter_kept w s.ranks r q.level)
    ∙ above_kept w g h s r q (reaches q.side n i) (tighter r q.level)

-- an alternative whose names are replaced so keeps its closed symbols
pub side_kept : (w : RuleChange) (g h : EnabledGrammar) → HasChangedRules w g h → (r : EnabledRule)
    (f : TextSpan → Text → WrittenSymbol) → ((c : Choice) → w.expr r c ≡ map (map_symbol (with_names f)) c.expr) →
    (b : Binding) → CountsAlike f b r.name → ClosesAlike f g h b r.name → (p : Choice × Option Rank) →
    right_side h (changed_rule w r) b (changed_pair w r p) ≡ right_side g r b p
side_kept w g h s r f is b c a p =
    ap (λ ys. close_list (scope_in h b r.name (levels_among ys)) 0 ys) (is p.0)
    ∙ ap (λ e. close_list (scope_in h b r.name e) 0 (map (map_symbol (with_names f)) p.0.expr)) same_levels
    ∙ close_list_kept w g h s f b r.name c a (allowed_level r p.1 (occurrences_in b r.name (syms p.0.expr))) 0 p.0.expr
  where
    levels_among : List WrittenSymbol → ℕ → Option ℕ
    levels_among ys = allowed_level (changed_rule w r) p.1 (occurrences_in b r.name (syms ys))

    all_allowed : allowed_level (changed_rule w r) p.1 (occurrences_in b r.name (syms p.0.expr))
        ≡ allowed_level r p.1 (occurrences_in b r.name (syms p.0.expr))
    all_allowed = λ j i. allowed_kept w g h s r p.1 (occurrences_in b r.name (syms p.0.expr)) i j

    same_levels : levels_among (map (map_symbol (with_names f)) p.0.expr)
        ≡ allowed_level r p.1 (occurrences_in b r.name (syms p.0.expr))
    same_levels = ap (allowed_level (changed_rule w r) p.1) (listed_counts_kept f b r.name c p.0.expr) ∙ all_allowed

-- names that stay

mutual
  -- a symbol whose names stay, stays
  pub symbol_stays : (f : TextSpan → Text → WrittenSymbol) (x : WrittenSymbol) →
      ((p : TextSpan) (n : Text) → Among (subsymbols x) (Sym.ambiguous_id p n) → f p n ≡ Sym.ambiguous_id p n) →
      map_symbol (with_names f) x ≡ x
  symbol_stays f (Sym.expr p xs) h = ap (Sym.expr p) (symbols_stay f xs (λ q n i. h q n (inr i)))
  symbol_stays f (Sym.ambiguous_id p n) h = h p n (inl refl)
  symbol_stays f (Sym.nonterminal p n) h = refl
  symbol_stays f (Sym.terminal p t) h = refl
  symbol_stays f (Sym.macro p n args) h = ap (Sym.macro p n) (symbols_stay f args (λ q m i. h q m (inr i)))
  symbol_stays f (Sym.repeat p op x) h = ap (Sym.repeat p op) (symbol_stays f x (λ q n i. h q n (inr i)))
  symbol_stays f (Sym.choose p x) h = ap (Sym.choose p) (symbol_stays f x (λ q n i. h q n (inr i)))
  symbol_stays f (Sym.name p mutable n x) h = ap (Sym.name p mutable n) (symbol_stays f x (λ q m i. h q m (inr i)))
  symbol_stays f (Sym.lookahead p) h = refl
  symbol_stays f (Sym.lookbehind p) h = refl
  symbol_stays f (Sym.error p) h = refl

  pub symbols_stay : (f : TextSpan → Text → WrittenSymbol) (xs : Syms TextSpan) →
      ((p : TextSpan) (n : Text) → Among (subsymbols_of xs) (Sym.ambiguous_id p n) → f p n ≡ Sym.ambiguous_id p n) →
      map_symbols (with_names f) xs ≡ xs
  symbols_stay f Syms.none h = refl
  symbols_stay f (Syms.more x xs) h =
      ap (λ y. Syms.more y (map_symbols (with_names f) xs))
      (symbol_stays f x (λ p n i. h p n (among_left (subsymbols x) (subsymbols_of xs) (Sym.ambiguous_id p n) i)))
      ∙ ap (Syms.more x)
      (symbols_stay f xs (λ p n i. h p n (among_right (subsymbols x) (subsymbols_of xs) (Sym.ambiguous_id p n) i)))

-- and so do the symbols of a list
pub listed_stay : (f : TextSpan → Text → WrittenSymbol) (xs : List WrittenSymbol) →
    ((p : TextSpan) (n : Text) → Among (subsymbols_of (syms xs)) (Sym.ambiguous_id p n) → f p n ≡ Sym.ambiguous_id p n) →
    map (map_symbol (with_names f)) xs ≡ xs
listed_stay f [] h = refl
listed_stay f (x ∷ xs) h =
    ap (λ y. y ∷ map (map_symbol (with_names f)) xs)
    (symbol_stays f x (λ p n i. h p n (among_left (subsymbols x) (subsymbols_of (syms xs)) (Sym.ambiguous_id p n) i)))
    ∙ ap (λ l. x ∷ l)
    (listed_stay f xs (λ p n i. h p n (among_right (subsymbols x) (subsymbols_of (syms xs)) (Sym.ambiguous_id p n) i)))
