-- What the symbols of an expanded grammar close to, in alternatives and in declared types; for the law of the types of keys.
use Rattle.std.specs.Str.{bytes_eq}
use Rattle.std.proofs.Common.{◌≡◌, ℕ, ◌+◌, List, [], ◌∷◌, refl, ap, sym, ◌∙◌, subst, cond, Bool, true, false, inl}
use Rattle.std.proofs.Common.{inr}
use Rattle.std.specs.Prelude.{Option, Some, None, map, option_map}
use Rattle.lalrpop_grammar_symbols.specs.Symbols.{Text, Terminal, Sym, WrittenSymbol, Closed, Closeds}
use Rattle.lalrpop_grammar_language.specs.Among.{Among}
use Rattle.lalrpop_grammar_language.specs.Enabled.{EnabledGrammar, EnabledRule, Choice, IsRule}
use Rattle.lalrpop_grammar_language.specs.Levels.{has_levels, loosest}
use Rattle.lalrpop_grammar_language.specs.Closing.{Scope, Binding, Meaning, name_meaning, parameter_value, names_owner, occurrences}
use Rattle.lalrpop_grammar_language.specs.Closing.{call_level, if_plain, if_macro, plain_name, plain_call, close, close_all, name_or}
use Rattle.lalrpop_grammar_language.specs.Closing.{is_sound, sound_or_faulty, close_list, right_side}
use Rattle.lalrpop_grammar_language.specs.Expansion.{GrammarSymbol, Nonterminal, grammar_symbol}
use Rattle.lalrpop_norm_theory.proofs.LevelLemmas.{no_loosest}
use Rattle.lalrpop_norm_theory.specs.KeyRules.{IsWrittenFor, AreWrittenFor, by_name, IsMacroExpansion}
use Rattle.lalrpop_norm_theory.proofs.KeyRuleLemmas.{ReadsKeys, key_called, close-written, same_either}
use Rattle.lalrpop_norm_theory.proofs.LevelOrderLemmas.{rule_meant, meant_rule, one_rule}
use Rattle.lalrpop_norm_theory.specs.KeyTypes.{HasKeyRule, IsLeftAsWritten}

abbrev nt : Closed → GrammarSymbol Nonterminal
nt x = GrammarSymbol.nonterminal (Nonterminal.closed x)

-- symbols whose keys have rules

-- a symbol has the key of its nonterminal
pub keyed : (g h : EnabledGrammar) (f : Closed → Text) (keys : List Closed) → IsMacroExpansion g h f keys → (x : Closed) →
    ((y : Closed) → grammar_symbol x ≡ nt y → Among keys y) → HasKeyRule keys x
keyed g h f keys w (Closed.terminal (Terminal.quoted t)) known = tt
keyed g h f keys w (Closed.terminal (Terminal.regex t)) known = tt
keyed g h f keys w (Closed.terminal (Terminal.bare n)) known = tt
keyed g h f keys w (Closed.terminal Terminal.error) known =
    w.keys_only (Closed.terminal Terminal.error) (known (Closed.terminal Terminal.error) refl)
keyed g h f keys w (Closed.call n args level) known = known (Closed.call n args level) refl
keyed g h f keys w (Closed.repeat op x) known = known (Closed.repeat op x) refl
keyed g h f keys w (Closed.group xs) known = known (Closed.group xs) refl
keyed g h f keys w (Closed.choose x) known = keyed g h f keys w x known
keyed g h f keys w (Closed.name m n x) known = keyed g h f keys w x known
keyed g h f keys w Closed.lookahead known = known Closed.lookahead refl
keyed g h f keys w Closed.lookbehind known = known Closed.lookbehind refl
keyed g h f keys w Closed.faulty known = w.keys_only Closed.faulty (known Closed.faulty refl)

is_known : (keys : List Closed) (x y : Closed) → Among keys x → nt x ≡ nt y → Among keys y
is_known keys x y i e = let same : x ≡ y = cc in subst (Among keys) same i

-- and back
pub known : (keys : List Closed) (x : Closed) → HasKeyRule keys x → (y : Closed) → grammar_symbol x ≡ nt y → Among keys y
known keys (Closed.terminal (Terminal.quoted t)) h y e = cc
known keys (Closed.terminal (Terminal.regex t)) h y e = cc
known keys (Closed.terminal (Terminal.bare n)) h y e = cc
known keys (Closed.terminal Terminal.error) h y e = absurd h
known keys (Closed.call n args level) h y e = is_known keys (Closed.call n args level) y h e
known keys (Closed.repeat op x) h y e = is_known keys (Closed.repeat op x) y h e
known keys (Closed.group xs) h y e = is_known keys (Closed.group xs) y h e
known keys (Closed.choose x) h y e = known keys x h y e
known keys (Closed.name m n x) h y e = known keys x h y e
known keys Closed.lookahead h y e = is_known keys Closed.lookahead y h e
known keys Closed.lookbehind h y e = is_known keys Closed.lookbehind y h e
known keys Closed.faulty h y e = absurd h

-- where each nonterminal in a right side is a key, each closed symbol of that side has the rule of its key
pub listed_keyed : (g h : EnabledGrammar) (f : Closed → Text) (keys : List Closed) → IsMacroExpansion g h f keys →
    (xs : List Closed) →
    ((y : Closed) → Among (map grammar_symbol xs) (nt y) → Among keys y) → (x : Closed) → Among xs x → HasKeyRule keys x
listed_keyed g h f keys w [] all x i = absurd i
listed_keyed g h f keys w (y ∷ ys) all x (inl e) = subst (HasKeyRule keys) e (keyed g h f keys w y (λ z k. all z (inl k)))
listed_keyed g h f keys w (y ∷ ys) all x (inr i) = listed_keyed g h f keys w ys (λ z k. all z (inr k)) x i

-- scopes without levels

abbrev pub scope_named : EnabledGrammar → Binding → Text → (ℕ → Option ℕ) → Scope
scope_named h b o e = record { grammar = h; binding = b; owner = o; level_at = e }

reads_keys : (g h : EnabledGrammar) (f : Closed → Text) (keys : List Closed) → IsMacroExpansion g h f keys → (b : Binding) (o : Text)
    (e : ℕ → Option ℕ) → ((k : ℕ) → e k ≡ None) → ReadsKeys (scope_named h b o e) g.bares f (Among keys)
reads_keys g h f keys w b o e none = record {
  bares_are = w.bares;
  keys = λ k x i. let u = w.rules x i in
      ap (λ m. plain_name (scope_named h b o e) k (f x) m) (rule_meant h (f x) u.0 u.1)
      ∙ ap (λ ps. if_plain ps (Closed.call (f x) Closeds.none (call_level (scope_named h b o e) k (f x) u.0))) u.2.no_macro
      ∙ ap (λ l. Closed.call (f x) Closeds.none l)
      (same_either (bytes_eq (f x) o) (e k) (loosest u.0) None (none k) (no_loosest u.0 u.2.no_levels));
}

-- what is written for a symbol is sound
sound_named : (bares : List Text) (f : Closed → Text) (x : Closed) (v : WrittenSymbol) → IsWrittenFor bares f x v →
    is_sound (by_name f x) ≡ true
sound_named bares f x (Sym.terminal p t) i = ap (λ c. is_sound (by_name f c)) i.0
sound_named bares f x (Sym.nonterminal p n) i = ap is_sound (key_called f x i.1)
sound_named bares f x (Sym.choose p v) i = ap (λ c. is_sound (by_name f c)) i.1 ∙ sound_named bares f i.0 v i.2
sound_named bares f x (Sym.name p m n v) i = ap (λ c. is_sound (by_name f c)) i.1 ∙ sound_named bares f i.0 v i.2
sound_named bares f x (Sym.expr p ws) i = absurd i
sound_named bares f x (Sym.ambiguous_id p n) i = absurd i
sound_named bares f x (Sym.macro p n args) i = absurd i
sound_named bares f x (Sym.repeat p op v) i = absurd i
sound_named bares f x (Sym.lookahead p) i = absurd i
sound_named bares f x (Sym.lookbehind p) i = absurd i
sound_named bares f x (Sym.error p) i = absurd i

-- and closes to what that becomes
pub closes_named : (g h : EnabledGrammar) (f : Closed → Text) (keys : List Closed) → IsMacroExpansion g h f keys →
    (b : Binding) (o : Text)
    (e : ℕ → Option ℕ) → ((k : ℕ) → e k ≡ None) → (k : ℕ) (x : Closed) (v : WrittenSymbol) → HasKeyRule keys x →
    IsWrittenFor g.bares f x v → sound_or_faulty (close (scope_named h b o e) k v) ≡ by_name f x
closes_named g h f keys w b o e none k x v has i =
    ap sound_or_faulty (close-written (scope_named h b o e) g.bares f (Among keys) (reads_keys g h f keys w b o e none) k x v
    (known keys x has) i)
    ∙ ap (λ c. cond c (by_name f x) Closed.faulty) (sound_named g.bares f x v i)

list_named : (g h : EnabledGrammar) (f : Closed → Text) (keys : List Closed) → IsMacroExpansion g h f keys → (b : Binding) (o : Text)
    (e : ℕ → Option ℕ) → ((k : ℕ) → e k ≡ None) → (k : ℕ) (xs : List Closed) (vs : List WrittenSymbol) →
    ((x : Closed) → Among xs x → HasKeyRule keys x) → AreWrittenFor g.bares f xs vs →
    close_list (scope_named h b o e) k vs ≡ map (by_name f) xs
list_named g h f keys w b o e none k [] [] has i = refl
list_named g h f keys w b o e none k [] (v ∷ vs) has i = absurd i
list_named g h f keys w b o e none k (x ∷ xs) [] has i = absurd i
list_named g h f keys w b o e none k (x ∷ xs) (v ∷ vs) has i =
    ap (λ c. c ∷ close_list (scope_named h b o e) (k + occurrences b o v) vs)
    (closes_named g h f keys w b o e none k x v (has x (inl refl)) i.0)
    ∙ ap (λ l. by_name f x ∷ l)
    (list_named g h f keys w b o e none (k + occurrences b o v) xs vs (λ y j. has y (inr j)) i.1)

-- the right side of a key's alternative
pub side_named : (g h : EnabledGrammar) (f : Closed → Text) (keys : List Closed) → IsMacroExpansion g h f keys → (q : EnabledRule) →
    has_levels q ≡ false → (b : Binding) (c : Choice) (xs : List Closed) → ((x : Closed) → Among xs x → HasKeyRule keys x) →
    AreWrittenFor g.bares f xs c.expr → right_side h q b (c, None) ≡ map (by_name f) xs
side_named g h f keys w q flat b c xs has i =
    list_named g h f keys w b q.name (λ k. loosest q) (λ k. no_loosest q flat) 0 xs c.expr has i

-- what is left as it is written

-- no call, no literal
abbrev pub IsUnkeyed : Closed → Type 0
IsUnkeyed (Closed.terminal (Terminal.quoted t)) = ⊥
IsUnkeyed (Closed.terminal (Terminal.regex t)) = ⊥
IsUnkeyed (Closed.terminal (Terminal.bare n)) = ⊥
IsUnkeyed (Closed.terminal Terminal.error) = Unit {0}
IsUnkeyed (Closed.call n args level) = ⊥
IsUnkeyed (Closed.repeat op x) = Unit {0}
IsUnkeyed (Closed.group xs) = Unit {0}
IsUnkeyed (Closed.choose x) = IsUnkeyed x
IsUnkeyed (Closed.name m n x) = IsUnkeyed x
IsUnkeyed Closed.lookahead = Unit {0}
IsUnkeyed Closed.lookbehind = Unit {0}
IsUnkeyed Closed.faulty = Unit {0}

-- no rule of an expanded grammar is called with arguments
call_faulty : (g h : EnabledGrammar) (f : Closed → Text) (keys : List Closed) → IsMacroExpansion g h f keys → (s : Scope) →
    s.grammar ≡ h → (k : ℕ) (n : Text) (args : Closeds) → plain_call s k n args (name_meaning s.grammar n) ≡ Closed.faulty
call_faulty g h f keys w s same k n args = go (name_meaning s.grammar n) refl
  where
    go : (m : Meaning) → name_meaning s.grammar n ≡ m → plain_call s k n args m ≡ Closed.faulty
    go (Meaning.rule q) e =
        let is : IsRule h n q = subst (λ a. IsRule a n q) same (meant_rule s.grammar n q e) in
        let x = w.no_other n q is in
        let u = w.rules x.0 x.1 in
        let q_is : u.0 ≡ q = one_rule h n u.0 q (subst (λ t. IsRule h t u.0) (sym x.2) u.1) is in
        ap (λ ps. if_macro ps args (Closed.call n args (call_level s k n q)))
        (ap (λ (r : EnabledRule). r.parameters) (sym q_is) ∙ u.2.no_macro)
    go Meaning.terminal e = refl
    go Meaning.unclear e = refl

left_closed : (g h : EnabledGrammar) (f : Closed → Text) (keys : List Closed) → IsMacroExpansion g h f keys → (s : Scope) →
    s.grammar ≡ h → (k : ℕ) (v : WrittenSymbol) → IsLeftAsWritten v → IsUnkeyed (close s k v)
left_closed g h f keys w s same k (Sym.expr p xs) i = tt
left_closed g h f keys w s same k (Sym.macro p n args) i =
    go (parameter_value s.binding n)
  where
    inside : Closeds
    inside = close_all s (k + names_owner s.binding s.owner n) args

    go : (o : Option Closed) →
        IsUnkeyed (name_or (option_map (λ c. Closed.faulty) o) (plain_call s k n inside (name_meaning s.grammar n)))
    go (Some c) = tt
    go None = subst IsUnkeyed (sym (call_faulty g h f keys w s same k n inside)) tt
left_closed g h f keys w s same k (Sym.repeat p op v) i = tt
left_closed g h f keys w s same k (Sym.choose p v) i = left_closed g h f keys w s same k v i
left_closed g h f keys w s same k (Sym.name p m n v) i = left_closed g h f keys w s same k v i
left_closed g h f keys w s same k (Sym.lookahead p) i = tt
left_closed g h f keys w s same k (Sym.lookbehind p) i = tt
left_closed g h f keys w s same k (Sym.error p) i = tt
left_closed g h f keys w s same k (Sym.ambiguous_id p n) i = absurd i
left_closed g h f keys w s same k (Sym.nonterminal p n) i = absurd i
left_closed g h f keys w s same k (Sym.terminal p (Terminal.quoted t)) i = absurd i
left_closed g h f keys w s same k (Sym.terminal p (Terminal.regex t)) i = absurd i
left_closed g h f keys w s same k (Sym.terminal p (Terminal.bare n)) i = absurd i
left_closed g h f keys w s same k (Sym.terminal p Terminal.error) i = tt

-- it closes to what has no key
pub left_unkeyed : (g h : EnabledGrammar) (f : Closed → Text) (keys : List Closed) → IsMacroExpansion g h f keys → (s : Scope) →
    s.grammar ≡ h → (v : WrittenSymbol) → IsLeftAsWritten v → IsUnkeyed (sound_or_faulty (close s 0 v))
left_unkeyed g h f keys w s same v i = go (is_sound (close s 0 v))
  where
    go : (b : Bool) → IsUnkeyed (cond b (close s 0 v) Closed.faulty)
    go true = left_closed g h f keys w s same 0 v i
    go false = tt
