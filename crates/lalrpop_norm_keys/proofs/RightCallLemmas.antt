-- In a grammar without levels each call in a right side is one of a rule, with as many arguments as it has parameters; for the keys
-- that stand there.
use Rattle.std.proofs.Common.{◌≡◌, ℕ, zero, suc, ◌+◌, List, [], ◌∷◌, refl, ap, sym, ◌∙◌, subst, cond}
use Rattle.std.proofs.Common.{inl, inr, ◌⊎◌}
use Rattle.std.proofs.Common.{map, length, arith}
use Rattle.std.specs.Prelude.{Bool, true, false, ◌==◌, Option, Some, None, filter, option_map, zip}
use Rattle.std.specs.Str.{bytes_eq}
use Rattle.std.proofs.lemmas.Bool.{eqb-true}
use Rattle.lalrpop_grammar_symbols.specs.Symbols.{Text, TextSpan, Terminal, Op, Closed, Closeds, Sym, Syms, WrittenSymbol, closed_list}
use Rattle.lalrpop_grammar_symbols.specs.Symbols.{syms}
use Rattle.lalrpop_grammar_language.specs.Among.{Among}
use Rattle.lalrpop_grammar_language.specs.Enabled.{EnabledGrammar, EnabledRule, IsRule, has_text, rules_named}
use Rattle.lalrpop_grammar_language.specs.Levels.{Rank, allowed_level, loosest}
use Rattle.lalrpop_grammar_language.specs.Closing.{Binding, Scope, call_level, close, close_all, close_list, close_terminal, inner}
use Rattle.lalrpop_grammar_language.specs.Closing.{if_plain, if_macro, is_sound, name_meaning, name_meaning_in, name_or, names_owner}
use Rattle.lalrpop_grammar_language.specs.Closing.{occurrences, occurrences_in, only_value, parameter_value, plain_call, plain_name}
use Rattle.lalrpop_grammar_language.specs.Closing.{right_side, scope_of, sound_or_faulty}
use Rattle.lalrpop_grammar_language.specs.Admitting.{bind}
use Rattle.lalrpop_grammar_language.specs.Expansion.{GrammarSymbol, HasLevel, IsRoot, Nonterminal, Produces, RightSide, grammar_symbol}
use Rattle.lalrpop_grammar_language.proofs.PlaceLemmas.{among_map}
use Rattle.lalrpop_norm_theory.specs.Depth.{CallOccursIn, HasCallChain, calls_in, calls_in_all, calls_in_grammar_symbol}
use Rattle.lalrpop_norm_theory.specs.Premises.{HasNoLevels}
use Rattle.lalrpop_grammar_language.proofs.StepLemmas.{among_right}
use Rattle.lalrpop_grammar_language.proofs.StepLemmas.{among_left}
use Rattle.lalrpop_grammar_language.proofs.OrderLemmas.{among_parts}
use Rattle.lalrpop_norm_theory.proofs.ExpansionListLemmas.{rule_there}
use Rattle.lalrpop_norm_theory.proofs.LevelLemmas.{no_levels, no_loosest, no_rank}
use Rattle.lalrpop_norm_theory.specs.KeyTables.{IsNoCall, IsPlainKey, KeyStandsIn, keys_in, keys_in_all}
use Rattle.lalrpop_grammar.specs.WrittenGrammar.{Origin}
use Rattle.lalrpop_norm_keys.proofs.FoundLemmas.{chain_is_call}
use Rattle.lalrpop_norm_keys.proofs.SymbolLemmas.{same_keys}
use Rattle.lalrpop_norm_theory.proofs.OccurringLemmas.{calls_of_symbol}

-- a call of a rule without levels, with as many arguments as it has parameters
pub record IsRightCall (g : EnabledGrammar) (n : Text) (args : Closeds) (level : Option ℕ) : Type 0 where
  pub rule : EnabledRule
  pub is_rule : IsRule g n rule
  pub arguments : length (closed_list args) ≡ length rule.parameters
  pub flat : level ≡ None

-- each call in the symbol is right, in arguments too
abbrev mutual
  pub HasRightCalls : EnabledGrammar → Closed → Type 0
  HasRightCalls g (Closed.terminal t) = Unit {0}
  HasRightCalls g (Closed.call n args level) = IsRightCall g n args level × HaveRightCalls g args
  HasRightCalls g (Closed.repeat op x) = HasRightCalls g x
  HasRightCalls g (Closed.group xs) = HaveRightCalls g xs
  HasRightCalls g (Closed.choose x) = HasRightCalls g x
  HasRightCalls g (Closed.name m n x) = HasRightCalls g x
  HasRightCalls g Closed.lookahead = Unit {0}
  HasRightCalls g Closed.lookbehind = Unit {0}
  HasRightCalls g Closed.faulty = Unit {0}

  pub HaveRightCalls : EnabledGrammar → Closeds → Type 0
  HaveRightCalls g Closeds.none = Unit {0}
  HaveRightCalls g (Closeds.more x xs) = HasRightCalls g x × HaveRightCalls g xs

abbrev AreRight : EnabledGrammar → List Closed → Type 0
AreRight g xs = (x : Closed) → Among xs x → HasRightCalls g x

-- what parameters are bound to

listed_right : (g : EnabledGrammar) (xs : Closeds) → HaveRightCalls g xs → AreRight g (closed_list xs)
listed_right g Closeds.none h x i = absurd i
listed_right g (Closeds.more y ys) h x (inl e) = subst (HasRightCalls g) e h.0
listed_right g (Closeds.more y ys) h x (inr i) = listed_right g ys h.1 x i

-- each value of the binding is right
abbrev BindsRight : EnabledGrammar → Binding → Type 0
BindsRight g b = (p : Text × Closed) → Among b p → HasRightCalls g p.1

zip_right : (g : EnabledGrammar) (ns : List Text) (xs : List Closed) → AreRight g xs → BindsRight g (zip ns xs)
zip_right g [] xs w p i = absurd i
zip_right g (n ∷ ns) [] w p i = absurd i
zip_right g (n ∷ ns) (x ∷ xs) w p (inl e) = subst (λ (q : Text × Closed). HasRightCalls g q.1) e (w x (inl refl))
zip_right g (n ∷ ns) (x ∷ xs) w p (inr i) = zip_right g ns xs (λ y j. w y (inr j)) p i

-- the value of a parameter, where it has one
abbrev IsRightValue : EnabledGrammar → Option Closed → Type 0
IsRightValue g None = Unit {0}
IsRightValue g (Some x) = HasRightCalls g x

only_right : (g : EnabledGrammar) (xs : List Closed) → AreRight g xs → IsRightValue g (only_value xs)
only_right g [] w = tt
only_right g (x ∷ []) w = w x (inl refl)
only_right g (x ∷ y ∷ xs) w = tt

values_right : (g : EnabledGrammar) (b : Binding) (n : Text) → BindsRight g b →
    AreRight g (map (λ (p : Text × Closed). p.1) (filter (λ (p : Text × Closed). bytes_eq n p.0) b))
values_right g [] n w x i = absurd i
values_right g (p ∷ b) n w x i = go (bytes_eq n p.0) i (λ j. values_right g b n (λ q k. w q (inr k)) x j)
  where
    go : (c : Bool) → Among (map (λ (q : Text × Closed). q.1) (cond c (p ∷ filter (λ (q : Text × Closed). bytes_eq n q.0) b)
        (filter (λ (q : Text × Closed). bytes_eq n q.0) b))) x
        → (Among (map (λ (q : Text × Closed). q.1) (filter (λ (q : Text × Closed). bytes_eq n q.0) b)) x → HasRightCalls g x)
        → HasRightCalls g x
    go true (inl e) later = subst (HasRightCalls g) e (w p (inl refl))
    go true (inr j) later = later j
    go false j later = later j

value_right : (g : EnabledGrammar) (b : Binding) (n : Text) → BindsRight g b → IsRightValue g (parameter_value b n)
value_right g b n w = only_right g _ (values_right g b n w)

-- closing

name_or_right : (g : EnabledGrammar) (v : Option Closed) (x : Closed) → IsRightValue g v → HasRightCalls g x
    → HasRightCalls g (name_or v x)
name_or_right g None x v h = h
name_or_right g (Some y) x v h = v

faulty_or_right : (g : EnabledGrammar) (v : Option Closed) (x : Closed) → HasRightCalls g x
    → HasRightCalls g (name_or (option_map (λ c. Closed.faulty) v) x)
faulty_or_right g None x h = h
faulty_or_right g (Some y) x h = tt

module _ (s : Scope) (bound : BindsRight s.grammar s.binding) (flat : HasNoLevels s.grammar) (low : (k : ℕ)
    → s.level_at k ≡ None) where
  abbrev g : EnabledGrammar
  g = s.grammar

  level_none : (k : ℕ) (n : Text) (r : EnabledRule) → IsRule g n r → call_level s k n r ≡ None
  level_none k n r i = go (bytes_eq n s.owner)
    where
      go : (b : Bool) → cond b (s.level_at k) (loosest r) ≡ None
      go true = low k
      go false = no_loosest r (flat r (rule_there g n r i).0)

  plain_right : (k : ℕ) (n : Text) (r : EnabledRule) → IsRule g n r → (ps : List Text) → r.parameters ≡ ps
      → HasRightCalls g (if_plain ps (Closed.call n Closeds.none (call_level s k n r)))
  plain_right k n r i [] e = (
    record { rule = r; is_rule = i; arguments = sym (ap length e); flat = level_none k n r i },
    tt,
  )
  plain_right k n r i (p ∷ ps) e = tt

  macro_right : (k : ℕ) (n : Text) (args : Closeds) (r : EnabledRule) → IsRule g n r → HaveRightCalls g args → (ps : List Text)
      → r.parameters ≡ ps → HasRightCalls g (if_macro ps args (Closed.call n args (call_level s k n r)))
  macro_right k n args r i h [] e = tt
  macro_right k n args r i h (p ∷ ps) e = go (length (closed_list args) == length (p ∷ ps)) refl
    where
      go : (b : Bool) → (length (closed_list args) == length (p ∷ ps)) ≡ b
          → HasRightCalls g (cond b (Closed.call n args (call_level s k n r)) Closed.faulty)
      go true f = (
        record {
          rule = r;
          is_rule = i;
          arguments = eqb-true (length (closed_list args)) (length (p ∷ ps)) f ∙ sym (ap length e);
          flat = level_none k n r i;
        },
        h,
      )
      go false f = tt

  name_right : (k : ℕ) (n : Text) (rs : List EnabledRule) (b : Bool) → rules_named g n ≡ rs
      → HasRightCalls g (plain_name s k n (name_meaning_in rs b))
  name_right k n [] true e = tt
  name_right k n [] false e = tt
  name_right k n (r ∷ []) b e = plain_right k n r e r.parameters refl
  name_right k n (r ∷ q ∷ rs) b e = tt

  call_right : (k : ℕ) (n : Text) (args : Closeds) → HaveRightCalls g args → (rs : List EnabledRule) (b : Bool)
      → rules_named g n ≡ rs
      → HasRightCalls g (plain_call s k n args (name_meaning_in rs b))
  call_right k n args h [] true e = tt
  call_right k n args h [] false e = tt
  call_right k n args h (r ∷ []) b e = macro_right k n args r e h r.parameters refl
  call_right k n args h (r ∷ q ∷ rs) b e = tt

  terminal_right : (t : Terminal) → HasRightCalls g (close_terminal g t)
  terminal_right (Terminal.quoted t) = tt
  terminal_right (Terminal.regex t) = tt
  terminal_right (Terminal.bare n) = go (has_text n g.bares)
    where
      go : (b : Bool) → HasRightCalls g (cond b (Closed.terminal (Terminal.bare n)) Closed.faulty)
      go true = tt
      go false = tt
  terminal_right Terminal.error = tt

  mutual
    close_right : (k : ℕ) (x : WrittenSymbol) → HasRightCalls g (close s k x)
    close_right k (Sym.expr p xs) = close_all_right k xs
    close_right k (Sym.ambiguous_id p n) =
        name_or_right g (parameter_value s.binding n) (plain_name s k n (name_meaning g n)) (value_right g s.binding n bound)
        (name_right k n (rules_named g n) (has_text n g.bares) refl)
    close_right k (Sym.nonterminal p n) = name_right k n (rules_named g n) (has_text n g.bares) refl
    close_right k (Sym.terminal p t) = terminal_right t
    close_right k (Sym.macro p n args) =
        faulty_or_right g (parameter_value s.binding n)
        (plain_call s k n (close_all s (k + names_owner s.binding s.owner n) args) (name_meaning g n))
        (call_right k n (close_all s (k + names_owner s.binding s.owner n) args)
        (close_all_right (k + names_owner s.binding s.owner n) args) (rules_named g n) (has_text n g.bares) refl)
    close_right k (Sym.repeat p op x) = close_right k x
    close_right k (Sym.choose p x) = close_right k x
    close_right k (Sym.name p m n x) = close_right k x
    close_right k (Sym.lookahead p) = tt
    close_right k (Sym.lookbehind p) = tt
    close_right k (Sym.error p) = tt

    close_all_right : (k : ℕ) (xs : Syms TextSpan) → HaveRightCalls g (close_all s k xs)
    close_all_right k Syms.none = tt
    close_all_right k (Syms.more x xs) = (close_right k x, close_all_right (k + occurrences s.binding s.owner x) xs)

  sound_right : (x : Closed) → HasRightCalls g x → HasRightCalls g (sound_or_faulty x)
  sound_right x h = go (is_sound x)
    where
      go : (b : Bool) → HasRightCalls g (cond b x Closed.faulty)
      go true = h
      go false = tt

  close_list_right : (k : ℕ) (xs : List WrittenSymbol) → AreRight g (close_list s k xs)
  close_list_right k [] x i = absurd i
  close_list_right k (y ∷ ys) x (inl e) = subst (HasRightCalls g) e (sound_right (close s k y) (close_right k y))
  close_list_right k (y ∷ ys) x (inr i) = close_list_right (k + occurrences s.binding s.owner y) ys x i

-- what is inside a symbol is right, and what stands there
inner_right : (g : EnabledGrammar) (x : Closed) → HasRightCalls g x → HasRightCalls g (inner x)
inner_right g (Closed.terminal t) h = h
inner_right g (Closed.call n args level) h = h
inner_right g (Closed.repeat op x) h = h
inner_right g (Closed.group xs) h = h
inner_right g (Closed.choose x) h = inner_right g x h
inner_right g (Closed.name m n x) h = inner_right g x h
inner_right g Closed.lookahead h = h
inner_right g Closed.lookbehind h = h
inner_right g Closed.faulty h = h

mutual
  calls_right : (g : EnabledGrammar) (x c : Closed) → HasRightCalls g x → Among (calls_in x) c → HasRightCalls g c
  calls_right g (Closed.terminal t) c h i = absurd i
  calls_right g (Closed.call n Closeds.none level) c h i = absurd i
  calls_right g (Closed.call n (Closeds.more y ys) level) c h (inl e) = subst (HasRightCalls g) e h
  calls_right g (Closed.call n (Closeds.more y ys) level) c h (inr i) = absurd i
  calls_right g (Closed.repeat op x) c h i = calls_right g x c h i
  calls_right g (Closed.group xs) c h i = all_calls_right g xs c h i
  calls_right g (Closed.choose x) c h i = calls_right g x c h i
  calls_right g (Closed.name m n x) c h i = calls_right g x c h i
  calls_right g Closed.lookahead c h i = absurd i
  calls_right g Closed.lookbehind c h i = absurd i
  calls_right g Closed.faulty c h i = absurd i

  all_calls_right : (g : EnabledGrammar) (xs : Closeds) (c : Closed) → HaveRightCalls g xs → Among (calls_in_all xs) c
      → HasRightCalls g c
  all_calls_right g Closeds.none c h i = absurd i
  all_calls_right g (Closeds.more x xs) c h i =
      either (among_parts (calls_in x) (calls_in_all xs) c i) (λ j. calls_right g x c h.0 j) (λ j. all_calls_right g xs c h.1 j)
    where
      either : Among (calls_in x) c ⊎ Among (calls_in_all xs) c → (Among (calls_in x) c → HasRightCalls g c) →
          (Among (calls_in_all xs) c → HasRightCalls g c) → HasRightCalls g c
      either (inl j) a b = a j
      either (inr j) a b = b j

-- a rule without parameters is a right call
pub root_right : (g : EnabledGrammar) → HasNoLevels g → (y : Closed) → IsRoot g (Nonterminal.closed y)
    → HasRightCalls g y × (IsNoCall y → ⊥)
root_right g flat y (inl (n, side, e, m)) = cc
root_right g flat y (inr (r, level, i, ps, h, e)) = of_level level h e
  where
    of_level : (l : Option ℕ) → HasLevel r l → Nonterminal.closed y ≡ Nonterminal.closed (Closed.call r.name Closeds.none l)
        → HasRightCalls g y × (IsNoCall y → ⊥)
    of_level None k f =
        let same : Closed.call r.name Closeds.none None ≡ y = cc in (
          subst (HasRightCalls g) same (record { rule = r; is_rule = i; arguments = sym (ap length ps); flat = refl }, tt),
          λ c. subst IsNoCall (sym same) c,
        )
    of_level (Some l) k f = absurd (subst (λ ls. Among ls l) (no_levels r (flat r (rule_there g r.name r i).0)) k)

-- a key that stands in a symbol: a call with arguments is one of its calls, and each call is right
abbrev pub IsStandingIn : EnabledGrammar → Closed → Closed → Type 0
IsStandingIn g x (Closed.call n Closeds.none level) = IsRightCall g n Closeds.none level
IsStandingIn g x (Closed.call n (Closeds.more y ys) level) = Among (calls_in x) (Closed.call n (Closeds.more y ys) level)
IsStandingIn g x _ = Unit {0}

module _ (g : EnabledGrammar) where
  itself_stands : (n : Text) (args : Closeds) (level : Option ℕ) → HasRightCalls g (Closed.call n args level)
      → IsStandingIn g (Closed.call n args level) (Closed.call n args level)
  itself_stands n Closeds.none level h = h.0
  itself_stands n (Closeds.more y ys) level h = inl refl

  -- what stands further inside
  wider : (x w z : Closed) → ((c : Closed) → Among (calls_in x) c → Among (calls_in w) c) → IsStandingIn g x z
      → IsStandingIn g w z
  wider x w (Closed.call n Closeds.none level) f h = h
  wider x w (Closed.call n (Closeds.more y ys) level) f h = f (Closed.call n (Closeds.more y ys) level) h
  wider x w (Closed.terminal t) f h = tt
  wider x w (Closed.repeat op y) f h = tt
  wider x w (Closed.group ys) f h = tt
  wider x w (Closed.choose y) f h = tt
  wider x w (Closed.name m n y) f h = tt
  wider x w Closed.lookahead f h = tt
  wider x w Closed.lookbehind f h = tt
  wider x w Closed.faulty f h = tt

  mutual
    keys_stand : (x z : Closed) → HasRightCalls g x → Among (keys_in x) z → IsStandingIn g x z
    keys_stand (Closed.terminal (Terminal.quoted t)) z h i = absurd i
    keys_stand (Closed.terminal (Terminal.regex t)) z h i = absurd i
    keys_stand (Closed.terminal (Terminal.bare n)) z h i = absurd i
    keys_stand (Closed.terminal Terminal.error) z h (inl e) = subst (IsStandingIn g (Closed.terminal Terminal.error)) e tt
    keys_stand (Closed.terminal Terminal.error) z h (inr i) = absurd i
    keys_stand (Closed.call n args level) z h (inl e) =
        subst (IsStandingIn g (Closed.call n args level)) e (itself_stands n args level h)
    keys_stand (Closed.call n args level) z h (inr i) = absurd i
    keys_stand (Closed.repeat Op.plus x) z h (inl e) = subst (IsStandingIn g (Closed.repeat Op.plus x)) e tt
    keys_stand (Closed.repeat Op.plus x) z h (inr i) = wider x (Closed.repeat Op.plus x) z (λ c j. j) (keys_stand x z h i)
    keys_stand (Closed.repeat Op.star x) z h (inl e) = subst (IsStandingIn g (Closed.repeat Op.star x)) e tt
    keys_stand (Closed.repeat Op.star x) z h (inr (inl e)) = subst (IsStandingIn g (Closed.repeat Op.star x)) e tt
    keys_stand (Closed.repeat Op.star x) z h (inr (inr i)) = wider x (Closed.repeat Op.star x) z (λ c j. j) (keys_stand x z h i)
    keys_stand (Closed.repeat Op.question x) z h (inl e) = subst (IsStandingIn g (Closed.repeat Op.question x)) e tt
    keys_stand (Closed.repeat Op.question x) z h (inr i) = wider x (Closed.repeat Op.question x) z (λ c j. j) (keys_stand x z h i)
    keys_stand (Closed.group xs) z h (inl e) = subst (IsStandingIn g (Closed.group xs)) e tt
    keys_stand (Closed.group xs) z h (inr i) = all_keys_stand xs z h i
    keys_stand (Closed.choose x) z h i = wider x (Closed.choose x) z (λ c j. j) (keys_stand x z h i)
    keys_stand (Closed.name m n x) z h i = wider x (Closed.name m n x) z (λ c j. j) (keys_stand x z h i)
    keys_stand Closed.lookahead z h (inl e) = subst (IsStandingIn g Closed.lookahead) e tt
    keys_stand Closed.lookahead z h (inr i) = absurd i
    keys_stand Closed.lookbehind z h (inl e) = subst (IsStandingIn g Closed.lookbehind) e tt
    keys_stand Closed.lookbehind z h (inr i) = absurd i
    keys_stand Closed.faulty z h (inl e) = subst (IsStandingIn g Closed.faulty) e tt
    keys_stand Closed.faulty z h (inr i) = absurd i

    all_keys_stand : (xs : Closeds) (z : Closed) → HaveRightCalls g xs → Among (keys_in_all xs) z → IsStandingIn g (Closed.group xs) z
    all_keys_stand Closeds.none z h i = absurd i
    all_keys_stand (Closeds.more x xs) z h i =
        either (among_parts (keys_in x) (keys_in_all xs) z i) (λ j. keys_stand x z h.0 j) (λ j. all_keys_stand xs z h.1 j)
      where
        either : Among (keys_in x) z ⊎ Among (keys_in_all xs) z → (Among (keys_in x) z → IsStandingIn g x z) →
            (Among (keys_in_all xs) z → IsStandingIn g (Closed.group xs) z) → IsStandingIn g (Closed.group (Closeds.more x xs)) z
        either (inl j) a b =
            wider x (Closed.group (Closeds.more x xs)) z (λ c k. among_left (calls_in x) (calls_in_all xs) c k) (a j)
        either (inr j) a b =
            wider (Closed.group xs) (Closed.group (Closeds.more x xs)) z (λ c k. among_right (calls_in x) (calls_in_all xs) c k) (b j)

module _ (g : EnabledGrammar) (flat : HasNoLevels g) (n : Text) (args : Closeds) (level : Option ℕ)
    (right : HasRightCalls g (Closed.call n args level)) where
  abbrev the_call : Closed
  the_call = Closed.call n args level

  -- a symbol on a right side of a right call has right calls
  side_right : (o : Origin) (side : RightSide) → Produces g (Nonterminal.closed the_call) o side →
      (s : GrammarSymbol Nonterminal) → Among side s → (x : Closed) × HasRightCalls g x × (grammar_symbol x ≡ s)
  side_right o side (inl b) s i =
      let r = b.rule in
      let here = flat r (rule_there g n r b.fits.rule).0 in
      let w = among_map grammar_symbol (right_side g r (bind r args) b.choice) s (subst (λ l. Among l s) b.side_is i) in
      let rank : b.choice.1 ≡ None = no_rank r b.choice here b.fits.written in
      let low : (k : ℕ) → allowed_level r b.choice.1 (occurrences_in (bind r args) r.name (syms b.choice.0.expr)) k ≡ None =
      λ k. ap (λ (q : Option Rank). allowed_level r q (occurrences_in (bind r args) r.name (syms b.choice.0.expr)) k) rank
      ∙ no_loosest r here in (
        w.0,
        close_list_right (scope_of g r (bind r args) b.choice.0 b.choice.1)
            (zip_right g r.parameters (closed_list args) (listed_right g args right.1)) flat low 0 b.choice.0.expr w.0 w.1,
        w.2,
      )
  side_right o side (inr p) s i = absurd (let wrong : Some p.from ≡ None = sym p.from_is ∙ right.0.flat in cc)

  -- so what occurs in it has right calls
  pub occurs_right : (x : Closed) → CallOccursIn g the_call x → HasRightCalls g x
  occurs_right x o =
      let w = side_right o.origin o.side o.produced o.symbol o.in_side in
      calls_right g w.0 x w.1 (subst (λ l. Among l x) (ap calls_in_grammar_symbol (sym w.2) ∙ calls_of_symbol w.0) o.call_is)

  none_from_length : (ps : List Text) → 0 ≡ length ps → ps ≡ []
  none_from_length [] e = refl
  none_from_length (p ∷ ps) e = let wrong : ⊥ = omega (arith, e) in absurd wrong

  -- and a key that stands there is no call, a rule without parameters, or a call that occurs there
  pub key_kinds : (z : Closed) → KeyStandsIn g the_call z → IsNoCall z ⊎ (IsPlainKey g z ⊎ CallOccursIn g the_call z)
  key_kinds z s =
      let w = side_right s.origin s.side s.produced (grammar_symbol s.symbol) s.in_side in
      go z w.0 w.2 (keys_stand g w.0 z w.1 (subst (λ l. Among l z) (sym (same_keys w.0 s.symbol w.2)) s.stands))
    where
      go : (y x : Closed) → grammar_symbol x ≡ grammar_symbol s.symbol → IsStandingIn g x y
          → IsNoCall y ⊎ (IsPlainKey g y ⊎ CallOccursIn g the_call y)
      go (Closed.call m Closeds.none l) x e h = inr (inl (record {
        name = m;
        rule = h.rule;
        is_rule = h.is_rule;
        no_macro = none_from_length h.rule.parameters h.arguments;
        key_is = ap (λ k. Closed.call m Closeds.none k) h.flat;
      }))
      go (Closed.call m (Closeds.more y ys) l) x e h = inr (inr (record {
        origin = s.origin;
        side = s.side;
        produced = s.produced;
        symbol = grammar_symbol s.symbol;
        in_side = s.in_side;
        call_is = subst (λ c. Among c (Closed.call m (Closeds.more y ys) l)) (sym (calls_of_symbol x) ∙ ap calls_in_grammar_symbol e) h;
      }))
      go (Closed.terminal t) x e h = inl tt
      go (Closed.repeat op y) x e h = inl tt
      go (Closed.group ys) x e h = inl tt
      go (Closed.choose y) x e h = inl tt
      go (Closed.name a m y) x e h = inl tt
      go Closed.lookahead x e h = inl tt
      go Closed.lookbehind x e h = inl tt
      go Closed.faulty x e h = inl tt

-- what occurs in a right call has right calls
occurs_of : (g : EnabledGrammar) → HasNoLevels g → (y x : Closed) → HasRightCalls g y → (IsNoCall y → ⊥) → CallOccursIn g y x
    → HasRightCalls g x
occurs_of g flat (Closed.call n args level) x h k o = occurs_right g flat n args level h x o
occurs_of g flat (Closed.terminal t) x h k o = absurd (k tt)
occurs_of g flat (Closed.repeat op y) x h k o = absurd (k tt)
occurs_of g flat (Closed.group ys) x h k o = absurd (k tt)
occurs_of g flat (Closed.choose y) x h k o = absurd (k tt)
occurs_of g flat (Closed.name a n y) x h k o = absurd (k tt)
occurs_of g flat Closed.lookahead x h k o = absurd (k tt)
occurs_of g flat Closed.lookbehind x h k o = absurd (k tt)
occurs_of g flat Closed.faulty x h k o = absurd (k tt)

-- the kinds of keys that stand in a right call
pub kinds_of : (g : EnabledGrammar) → HasNoLevels g → (y z : Closed) → HasRightCalls g y → (IsNoCall y → ⊥)
    → KeyStandsIn g y z
    → IsNoCall z ⊎ (IsPlainKey g z ⊎ CallOccursIn g y z)
kinds_of g flat (Closed.call n args level) z h k s = key_kinds g flat n args level h z s
kinds_of g flat (Closed.terminal t) z h k s = absurd (k tt)
kinds_of g flat (Closed.repeat op y) z h k s = absurd (k tt)
kinds_of g flat (Closed.group ys) z h k s = absurd (k tt)
kinds_of g flat (Closed.choose y) z h k s = absurd (k tt)
kinds_of g flat (Closed.name a n y) z h k s = absurd (k tt)
kinds_of g flat Closed.lookahead z h k s = absurd (k tt)
kinds_of g flat Closed.lookbehind z h k s = absurd (k tt)
kinds_of g flat Closed.faulty z h k s = absurd (k tt)

-- each call that a chain leads to has right calls
pub chain_right : (g : EnabledGrammar) → HasNoLevels g → (k : ℕ) (x : Closed) → HasCallChain g k x → HasRightCalls g x
chain_right g flat zero x c = absurd c
chain_right g flat (suc zero) x (y, r, o) = of_root y r o
  where
    of_root : (y : Closed) → IsRoot g (Nonterminal.closed y) → CallOccursIn g y x → HasRightCalls g x
    of_root y r o = let w = root_right g flat y r in occurs_of g flat y x w.0 w.1 o
chain_right g flat (suc (suc k)) x (y, c, o) =
    occurs_of g flat y x (chain_right g flat (suc k) y c) (λ n. chain_is_call g (suc k) y c n) o
