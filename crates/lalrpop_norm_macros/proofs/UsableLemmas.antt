-- In a right grammar closed symbols of right sides can be written back, part by part; for the rules of keys.
use Rattle.std.proofs.Common.{◌≡◌, ℕ, ◌+◌, List, [], ◌∷◌, refl, ap, sym, ◌∙◌, subst, cond, inl, inr, suc}
use Rattle.std.proofs.Common.{length}
use Rattle.std.specs.Prelude.{Bool, true, false, ◌&&◌, ◌||◌, ◌≢◌, Option, Some, None, option_map, zip}
use Rattle.std.specs.Str.{bytes_eq}
use Rattle.std.proofs.lemmas.Bool.{eq-eqb, true≢false}
use Rattle.lalrpop_grammar_symbols.specs.Symbols.{Text, TextSpan, Terminal, Closed, Closeds, Sym, Syms, WrittenSymbol, closed_list, list_of}
use Rattle.lalrpop_grammar_symbols.specs.Symbols.{syms}
use Rattle.lalrpop_grammar_symbols.specs.Subsymbols.{subsymbols, subsymbols_of}
use Rattle.lalrpop_grammar_language.specs.Among.{Among}
use Rattle.lalrpop_grammar_language.specs.Enabled.{EnabledGrammar, EnabledRule, Choice, IsRule, has_text}
use Rattle.lalrpop_grammar_language.specs.Levels.{Rank}
use Rattle.lalrpop_grammar_language.specs.Closing.{Binding, Scope, call_level, close, close_all, close_list, close_terminal}
use Rattle.lalrpop_grammar_language.specs.Closing.{if_plain, if_macro, is_sound, are_sound}
use Rattle.lalrpop_grammar_language.specs.Closing.{name_meaning, name_meaning_in, name_or, names_owner}
use Rattle.lalrpop_grammar_language.specs.Closing.{occurrences, parameter_value, plain_call, plain_name}
use Rattle.lalrpop_grammar_language.specs.Closing.{right_side, scope_of, sound_or_faulty}
use Rattle.lalrpop_grammar_language.specs.Admitting.{bind}
use Rattle.lalrpop_grammar_language.proofs.PlaceLemmas.{same_text-eq}
use Rattle.lalrpop_norm_theory.specs.Premises.{IsNoRecovery, IsResolvedIn, IsSymbolOf}
use Rattle.lalrpop_grammar_language.proofs.StepLemmas.{among_right}
use Rattle.lalrpop_grammar_language.proofs.StepLemmas.{among_left}
use Rattle.lalrpop_norm_theory.proofs.LevelBindingLemmas.{other_free, value_of_parameter}
use Rattle.lalrpop_norm_macros.specs.UsableSymbols.{AreUsable, IsRightCount, IsRightGrammar, IsUsable}

-- what can be written back is sound

mutual
  pub usable_sound : (bares : List Text) (x : Closed) → IsUsable bares x → is_sound x ≡ true
  usable_sound bares (Closed.terminal t) h = refl
  usable_sound bares (Closed.call n args level) h = usable_sound_all bares args h
  usable_sound bares (Closed.repeat op x) h = usable_sound bares x h
  usable_sound bares (Closed.group xs) h = usable_sound_all bares xs h
  usable_sound bares (Closed.choose x) h = usable_sound bares x h
  usable_sound bares (Closed.name m n x) h = usable_sound bares x h
  usable_sound bares Closed.lookahead h = refl
  usable_sound bares Closed.lookbehind h = refl
  usable_sound bares Closed.faulty h = absurd h

  usable_sound_all : (bares : List Text) (xs : Closeds) → AreUsable bares xs → are_sound xs ≡ true
  usable_sound_all bares Closeds.none h = refl
  usable_sound_all bares (Closeds.more x xs) h =
      ap (λ b. b && are_sound xs) (usable_sound bares x h.0) ∙ usable_sound_all bares xs h.1

pub sound_stays : (bares : List Text) (x : Closed) → IsUsable bares x → IsUsable bares (sound_or_faulty x)
sound_stays bares x h = subst (λ b. IsUsable bares (cond b x Closed.faulty)) (sym (usable_sound bares x h)) h

-- what parameters are bound to

-- each value of the binding can be written back
abbrev BindsUsable : List Text → Binding → Type 0
BindsUsable bares b = (p : Text × Closed) → Among b p → IsUsable bares p.1

-- each one of a list that can be written back can be written back
pub listed_usable : (bares : List Text) (xs : Closeds) → AreUsable bares xs → (x : Closed) → Among (closed_list xs) x
    → IsUsable bares x
listed_usable bares Closeds.none h x i = absurd i
listed_usable bares (Closeds.more y ys) h x (inl e) = subst (IsUsable bares) e h.0
listed_usable bares (Closeds.more y ys) h x (inr i) = listed_usable bares ys h.1 x i

-- where each of the symbols can be written back, so can each value of a binding of names to them
pub zip_usable : (bares : List Text) (ns : List Text) (xs : List Closed) → ((x : Closed) → Among xs x → IsUsable bares x)
    → BindsUsable bares (zip ns xs)
zip_usable bares [] xs w p i = absurd i
zip_usable bares (n ∷ ns) [] w p i = absurd i
zip_usable bares (n ∷ ns) (x ∷ xs) w p (inl e) = subst (λ (q : Text × Closed). IsUsable bares q.1) e (w x (inl refl))
zip_usable bares (n ∷ ns) (x ∷ xs) w p (inr i) = zip_usable bares ns xs (λ y j. w y (inr j)) p i

-- a parameter is among those that are bound
pair_there : (n : Text) (ps : List Text) (cs : List Closed) → length cs ≡ length ps → has_text n ps ≡ true
    → (p : Text × Closed) × Among (zip ps cs) p × (p.0 ≡ n)
pair_there n [] cs e h = absurd (true≢false (sym h))
pair_there n (p ∷ ps) [] e h = cc
pair_there n (p ∷ ps) (c ∷ cs) e h = go (bytes_eq n p) refl h (λ j. pair_there n ps cs (cc) j)
  where
    go : (b : Bool) → bytes_eq n p ≡ b → (b || has_text n ps) ≡ true
        → (has_text n ps ≡ true → (q : Text × Closed) × Among (zip ps cs) q × (q.0 ≡ n))
        → (q : Text × Closed) × Among (zip (p ∷ ps) (c ∷ cs)) q × (q.0 ≡ n)
    go true k j later = ((p, c), inl refl, sym (same_text-eq n p k))
    go false k j later = let w = later j in (w.0, inr w.1, w.2)

-- closing

-- a symbol of an alternative is resolved, isn't that of error recovery, and has as many arguments as parameters
pub record IsRightSymbol (g : EnabledGrammar) (r : EnabledRule) (x : WrittenSymbol) : Type 0 where
  pub resolved : IsResolvedIn g r x
  pub no_recovery : IsNoRecovery x
  pub count : IsRightCount g x

module _ (s : Scope) (r : EnabledRule)
    (bound : (n : Text) → has_text n r.parameters ≡ true
    → (c : Closed) × (parameter_value s.binding n ≡ Some c) × IsUsable s.grammar.bares c)
    (free : (n : Text) → has_text n r.parameters ≡ false → parameter_value s.binding n ≡ None) where
  abbrev g : EnabledGrammar
  g = s.grammar

  abbrev Right : WrittenSymbol → Type 0
  Right x = (y : WrittenSymbol) → Among (subsymbols x) y → IsRightSymbol g r y

  abbrev AllRight : Syms TextSpan → Type 0
  AllRight xs = (y : WrittenSymbol) → Among (subsymbols_of xs) y → IsRightSymbol g r y

  name_usable : (k : ℕ) (n : Text) (q : EnabledRule) → IsRule g n q → q.parameters ≡ []
      → IsUsable g.bares (plain_name s k n (name_meaning g n))
  name_usable k n q i e =
      subst (λ rs. IsUsable g.bares (plain_name s k n (name_meaning_in rs (has_text n g.bares)))) (sym i)
      (subst (λ ps. IsUsable g.bares (if_plain ps (Closed.call n Closeds.none (call_level s k n q)))) (sym e) tt)

  close_length : (k : ℕ) (xs : Syms TextSpan) → length (closed_list (close_all s k xs)) ≡ length (list_of xs)
  close_length k Syms.none = refl
  close_length k (Syms.more x xs) = ap suc (close_length (k + occurrences s.binding s.owner x) xs)

  macro_usable : (k : ℕ) (n : Text) (args : Closeds) (q : EnabledRule) (ps : List Text) → q.parameters ≡ ps → ps ≢ []
      → length (closed_list args) ≡ length ps → AreUsable g.bares args
      → IsUsable g.bares (if_macro ps args (Closed.call n args (call_level s k n q)))
  macro_usable k n args q [] e some full u = absurd (some refl)
  macro_usable k n args q (p ∷ ps) e some full u =
      subst (λ b. IsUsable g.bares (cond b (Closed.call n args (call_level s k n q)) Closed.faulty))
      (sym (eq-eqb (length (closed_list args)) (length (p ∷ ps)) full)) u

  call_usable : (k : ℕ) (n : Text) (args : Closeds) (q : EnabledRule) → IsRule g n q → q.parameters ≢ []
      → length (closed_list args) ≡ length q.parameters → AreUsable g.bares args
      → IsUsable g.bares (plain_call s k n args (name_meaning g n))
  call_usable k n args q i some full u =
      subst (λ rs. IsUsable g.bares (plain_call s k n args (name_meaning_in rs (has_text n g.bares)))) (sym i)
      (macro_usable k n args q q.parameters refl some full u)

  terminal_usable : (t : Terminal) (p : TextSpan) → IsRightSymbol g r (Sym.terminal p t) → IsUsable g.bares (close_terminal g t)
  terminal_usable (Terminal.quoted t) p h = tt
  terminal_usable (Terminal.regex t) p h = tt
  terminal_usable (Terminal.bare n) p h =
      subst (λ b. IsUsable g.bares (cond b (Closed.terminal (Terminal.bare n)) Closed.faulty)) (sym h.resolved) h.resolved
  terminal_usable Terminal.error p h = absurd h.no_recovery

  value_usable : (n : Text) (x : Closed) → has_text n r.parameters ≡ true → IsUsable g.bares (name_or (parameter_value s.binding n) x)
  value_usable n x h =
      let w = bound n h in subst (λ o. IsUsable g.bares (name_or o x)) (sym w.1) w.2

  mutual
    pub close_usable : (k : ℕ) (x : WrittenSymbol) → Right x → IsUsable g.bares (close s k x)
    close_usable k (Sym.expr p xs) w = close_all_usable k xs (λ y i. w y (inr i))
    close_usable k (Sym.ambiguous_id p n) w =
        value_usable n (plain_name s k n (name_meaning g n)) (w (Sym.ambiguous_id p n) (inl refl)).resolved
    close_usable k (Sym.nonterminal p n) w =
        let h = (w (Sym.nonterminal p n) (inl refl)).resolved in name_usable k n h.0 h.1 h.2
    close_usable k (Sym.terminal p t) w = terminal_usable t p (w (Sym.terminal p t) (inl refl))
    close_usable k (Sym.macro p n args) w =
        let h = w (Sym.macro p n args) (inl refl) in
        let m = h.resolved.0 in
        let j = k + names_owner s.binding s.owner n in
        let closed = close_all s j args in
        subst (λ o. IsUsable g.bares (name_or (option_map (λ c. Closed.faulty) o) (plain_call s k n closed (name_meaning g n))))
        (sym (free n m.not_hidden))
        (call_usable k n closed m.macro m.is_rule m.has_parameters (close_length j args ∙ h.count m.macro m.is_rule)
        (close_all_usable j args (λ y i. w y (inr i))))
    close_usable k (Sym.repeat p op x) w = close_usable k x (λ y i. w y (inr i))
    close_usable k (Sym.choose p x) w = close_usable k x (λ y i. w y (inr i))
    close_usable k (Sym.name p m n x) w = close_usable k x (λ y i. w y (inr i))
    close_usable k (Sym.lookahead p) w = tt
    close_usable k (Sym.lookbehind p) w = tt
    close_usable k (Sym.error p) w = absurd (w (Sym.error p) (inl refl)).no_recovery

    close_all_usable : (k : ℕ) (xs : Syms TextSpan) → AllRight xs → AreUsable g.bares (close_all s k xs)
    close_all_usable k Syms.none w = tt
    close_all_usable k (Syms.more x xs) w = (
      close_usable k x (λ y i. w y (among_left (subsymbols x) (subsymbols_of xs) y i)),
      close_all_usable (k + occurrences s.binding s.owner x) xs (λ y i. w y (among_right (subsymbols x) (subsymbols_of xs) y i)),
    )

  pub listed_side_usable : (k : ℕ) (xs : List WrittenSymbol) → AllRight (syms xs) → (x : Closed) → Among (close_list s k xs) x
      → IsUsable g.bares x
  listed_side_usable k [] w x i = absurd i
  listed_side_usable k (y ∷ ys) w x (inl e) =
      subst (IsUsable g.bares) e
      (sound_stays g.bares (close s k y) (close_usable k y (λ z i. w z (among_left (subsymbols y) (subsymbols_of (syms ys)) z i))))
  listed_side_usable k (y ∷ ys) w x (inr i) =
      listed_side_usable (k + occurrences s.binding s.owner y) ys (λ z j. w z (among_right (subsymbols y) (subsymbols_of (syms ys)) z j))
      x i

-- the symbols of a right side, where the arguments can be written back
pub side_usable : (g : EnabledGrammar) → IsRightGrammar g → (r : EnabledRule) → Among g.rules r → (args : Closeds)
    → AreUsable g.bares args → length (closed_list args) ≡ length r.parameters → (c : Choice) → Among r.choices c
    → (rank : Option Rank) (x : Closed) → Among (right_side g r (bind r args) (c, rank)) x → IsUsable g.bares x
side_usable g w r i args u full c j rank x h =
    listed_side_usable (scope_of g r (bind r args) c rank) r
    (λ n has. of_pair n (pair_there n r.parameters (closed_list args) full has))
    (λ n none. other_free r.parameters (closed_list args) full n none) 0 c.expr right x h
  where
    right : (y : WrittenSymbol) → Among (subsymbols_of (syms c.expr)) y → IsRightSymbol g r y
    right y k =
        let s : IsSymbolOf g r c y = record { rule = i; choice = j; symbol = k } in
        record { resolved = w.resolved.symbols r c y s; no_recovery = w.no_recovery r c y s; count = w.counts r c y s }

    of_pair : (n : Text) → ((p : Text × Closed) × Among (zip r.parameters (closed_list args)) p × (p.0 ≡ n))
        → (v : Closed) × (parameter_value (bind r args) n ≡ Some v) × IsUsable g.bares v
    of_pair n (p, k, e) = (
      p.1,
      subst (λ m. parameter_value (bind r args) m ≡ Some p.1) e
          (value_of_parameter r.parameters (closed_list args) (w.resolved.parameters r i) p k),
      zip_usable g.bares r.parameters (closed_list args) (listed_usable g.bares args u) p k,
    )
