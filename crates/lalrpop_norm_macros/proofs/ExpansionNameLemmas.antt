-- Names of keys and the prefix name the expansion once macros are expanded; for the law of names.
use Rattle.std.proofs.Common.{◌≡◌, ◌≢◌, ℕ, List, [], ◌∷◌, ◌++◌, refl, ap, sym, ◌∙◌, subst}
use Rattle.std.proofs.Common.{true, inl, inr, arith}
use Rattle.std.specs.Prelude.{Option, Some, None, codes, replicate}
use Rattle.std.proofs.lemmas.List.{append_assoc, append_cancel_left}
use Rattle.lalrpop_grammar_symbols.specs.Symbols.{Text, Terminal, Sym, WrittenSymbol, Op, Closed, Closeds}
use Rattle.lalrpop_grammar_symbols.specs.Texts.{escape, join_texts, macro_text, mutable_text}
use Rattle.lalrpop_grammar.specs.WrittenGrammar.{Origin}
use Rattle.lalrpop_grammar_language.specs.Among.{Among}
use Rattle.lalrpop_grammar_language.specs.Enabled.{EnabledGrammar, EnabledRule, IsRule, has_text}
use Rattle.lalrpop_grammar_language.specs.Levels.{loosest}
use Rattle.lalrpop_grammar_language.specs.Expansion.{GrammarSymbol, Nonterminal, grammar_symbol, InExpansion}
use Rattle.lalrpop_norm_theory.specs.Keys.{before_tilde, closed_texts, flat_key_text, IsNaming, IsNextNumber}
use Rattle.lalrpop_norm_theory.proofs.ExpansionListLemmas.{rule_there}
use Rattle.lalrpop_norm_theory.proofs.LevelLemmas.{no_loosest}
use Rattle.lalrpop_norm_theory.specs.KeyRules.{AreWrittenFor, IsMacroExpansion}
use Rattle.lalrpop_norm_theory.specs.KeyRules.{IsKeyRule, IsMappedTerminal, IsWrittenFor}
use Rattle.lalrpop_norm_theory.proofs.KeyRuleLemmas.{in_keys}
use Rattle.lalrpop_grammar_language.proofs.AmongLemmas.{found_text}
use Rattle.lalrpop_norm_macros.specs.KeyNames.{AreKeyNames, IsNextAmongKeys}
use Rattle.lalrpop_norm_macros.specs.NameLaws.{LeavesPrefix, nonterminal_name}
use Rattle.lalrpop_norm_macros.proofs.PrefixLemmas.{IsFree, free_cut, free_head, free_joined, free_with_number}

-- a bare name that is written for a terminal is mapped
mapped_bare : (bares : List Text) (f : Closed → Text) (n : Text) (v : WrittenSymbol) →
    IsWrittenFor bares f (Closed.terminal (Terminal.bare n)) v → has_text n bares ≡ true
mapped_bare bares f n (Sym.terminal p t) h =
    let same : t ≡ Terminal.bare n = terminal_is t h.0 in subst (IsMappedTerminal bares) same h.1
  where
    terminal_is : (t : Terminal) → Closed.terminal (Terminal.bare n) ≡ Closed.terminal t → t ≡ Terminal.bare n
    terminal_is t e = cc
mapped_bare bares f n (Sym.nonterminal p m) h = absurd h.1
mapped_bare bares f n (Sym.choose p v) h = absurd (none h.0 h.1)
  where
    none : (y : Closed) → Closed.terminal (Terminal.bare n) ≡ Closed.choose y → ⊥
    none y e = cc
mapped_bare bares f n (Sym.name p m a v) h = absurd (none h.0 h.1)
  where
    none : (y : Closed) → Closed.terminal (Terminal.bare n) ≡ Closed.name m a y → ⊥
    none y e = cc
mapped_bare bares f n (Sym.expr p vs) h = absurd h
mapped_bare bares f n (Sym.ambiguous_id p m) h = absurd h
mapped_bare bares f n (Sym.macro p m args) h = absurd h
mapped_bare bares f n (Sym.repeat p op v) h = absurd h
mapped_bare bares f n (Sym.lookahead p) h = absurd h
mapped_bare bares f n (Sym.lookbehind p) h = absurd h
mapped_bare bares f n (Sym.error p) h = absurd h

first_written : (bares : List Text) (f : Closed → Text) (x : Closed) (vs : List WrittenSymbol) → AreWrittenFor bares f (x ∷ []) vs →
    (v : WrittenSymbol) × IsWrittenFor bares f x v
first_written bares f x [] h = absurd h
first_written bares f x (v ∷ vs) h = (v, h.0)

-- what a key that begins with a symbol needs to know of that symbol
abbrev IsPart : List Text → List Closed → Closed → Type 0
IsPart bares keys (Closed.terminal (Terminal.quoted t)) = Unit {0}
IsPart bares keys (Closed.terminal (Terminal.regex t)) = Unit {0}
IsPart bares keys (Closed.terminal (Terminal.bare n)) = has_text n bares ≡ true
IsPart bares keys (Closed.terminal Terminal.error) = Unit {0}
IsPart bares keys (Closed.call n args level) = Among keys (Closed.call n args level)
IsPart bares keys (Closed.repeat op x) = Among keys (Closed.repeat op x)
IsPart bares keys (Closed.group xs) = Unit {0}
IsPart bares keys (Closed.choose x) = Unit {0}
IsPart bares keys (Closed.name m n x) = Unit {0}
IsPart bares keys Closed.lookahead = Unit {0}
IsPart bares keys Closed.lookbehind = Unit {0}
IsPart bares keys Closed.faulty = Unit {0}

written_part : (bares : List Text) (f : Closed → Text) (keys : List Closed) (x : Closed) (v : WrittenSymbol) →
    IsWrittenFor bares f x v →
    ((y : Closed) → grammar_symbol x ≡ GrammarSymbol.nonterminal (Nonterminal.closed y) → Among keys y) →
    IsPart bares keys x
written_part bares f keys (Closed.terminal (Terminal.quoted t)) v h there = tt
written_part bares f keys (Closed.terminal (Terminal.regex t)) v h there = tt
written_part bares f keys (Closed.terminal (Terminal.bare n)) v h there = mapped_bare bares f n v h
written_part bares f keys (Closed.terminal Terminal.error) v h there = tt
written_part bares f keys (Closed.call n args level) v h there = there (Closed.call n args level) refl
written_part bares f keys (Closed.repeat op x) v h there = there (Closed.repeat op x) refl
written_part bares f keys (Closed.group xs) v h there = tt
written_part bares f keys (Closed.choose x) v h there = tt
written_part bares f keys (Closed.name m n x) v h there = tt
written_part bares f keys Closed.lookahead v h there = tt
written_part bares f keys Closed.lookbehind v h there = tt
written_part bares f keys Closed.faulty v h there = tt

macro_spread : (n : Text) (ts : List Text) →
    macro_text n ts ≡ n ++ (60 ∷ (join_texts (codes ", ") ts ++ codes ">"))
macro_spread n ts =
    append_assoc (n ++ codes "<") (join_texts (codes ", ") ts) (codes ">")
    ∙ append_assoc n (codes "<") (join_texts (codes ", ") ts ++ codes ">")

module _ (g h : EnabledGrammar) (f : Closed → Text) (keys : List Closed) (prefix : Text) (n : AreKeyNames g keys f)
    (w : IsMacroExpansion g h f keys) (p : LeavesPrefix prefix g) where
  abbrev line : Text
  line = replicate p.underscores 95

  rule_free : (m : Text) (r : EnabledRule) → IsRule g m r → IsFree line m
  rule_free m r i =
      let u = rule_there g m r i in
      subst (IsFree line) u.1 (subst (λ s. IsFree s r.name) p.prefix_is (λ t. p.rules r t u.0))

  bare_free : (m : Text) → has_text m g.bares ≡ true → IsFree line m
  bare_free m e = subst (λ s. IsFree s m) p.prefix_is (λ t. p.bares m t (found_text m g.bares e))

  head_free : (c : ℕ) (rest : Text) → (c ≡ 95 → ⊥) → IsFree line (c ∷ rest)
  head_free c rest other = free_head p.underscores c rest p.some other

  -- a call's rule
  call_free : (m : Text) (args : Closeds) (level : Option ℕ) → Among keys (Closed.call m args level) → IsFree line (before_tilde m)
  call_free m args level i = go level (w.rules (Closed.call m args level) i)
    where
      go : (level : Option ℕ) →
          ((q : EnabledRule) × IsRule h (f (Closed.call m args level)) q × IsKeyRule g f (Closed.call m args level) q) →
          IsFree line (before_tilde m)
      go None k = let c = k.2.choices in free_cut line m (rule_free m c.0 c.1)
      go (Some l) k = absurd k.2.choices

  -- what a repeat begins with

  plus_part : (x : Closed) → Among keys (Closed.repeat Op.plus x) → IsPart g.bares keys x
  plus_part x i =
      let k = w.rules (Closed.repeat Op.plus x) i in
      let c = k.2.choices in
      let v = first_written g.bares f x c.0.expr c.3.symbols in
      written_part g.bares f keys x v.0 v.1
      (λ y e. w.closed (Closed.repeat Op.plus x) y Origin.plus_one (grammar_symbol x ∷ []) i (inl (refl, refl)) (inl e))

  question_part : (x : Closed) → Among keys (Closed.repeat Op.question x) → IsPart g.bares keys x
  question_part x i =
      let k = w.rules (Closed.repeat Op.question x) i in
      let c = k.2.choices in
      let v = first_written g.bares f x c.0.expr c.3.symbols in
      written_part g.bares f keys x v.0 v.1
      (λ y e. w.closed (Closed.repeat Op.question x) y Origin.opt_some (grammar_symbol x ∷ []) i (inr (refl, refl)) (inl e))

  star_part : (x : Closed) → Among keys (Closed.repeat Op.star x) → IsPart g.bares keys x
  star_part x i =
      plus_part x (w.closed (Closed.repeat Op.star x) (Closed.repeat Op.plus x) Origin.star_some
      (GrammarSymbol.nonterminal (Nonterminal.closed (Closed.repeat Op.plus x)) ∷ []) i (inr (refl, refl)) (inl refl))

  -- texts don't begin with the prefix
  text_free : (x : Closed) → IsPart g.bares keys x → IsFree line (flat_key_text x)
  text_free (Closed.terminal (Terminal.quoted t)) i = head_free 34 (escape t ++ 34 ∷ []) (λ e. omega (arith, e))
  text_free (Closed.terminal (Terminal.regex t)) i = head_free 114 (35 ∷ 34 ∷ (escape t ++ 34 ∷ 35 ∷ [])) (λ e. omega (arith, e))
  text_free (Closed.terminal (Terminal.bare m)) i = bare_free m i
  text_free (Closed.terminal Terminal.error) i = head_free 33 [] (λ e. omega (arith, e))
  text_free (Closed.call m Closeds.none level) i = call_free m Closeds.none level i
  text_free (Closed.call m (Closeds.more x xs) level) i =
      let texts = closed_texts (λ a l. before_tilde a) (Closeds.more x xs) in
      subst (IsFree line) (sym (macro_spread (before_tilde m) texts))
      (free_joined p.underscores 60 (before_tilde m) (join_texts (codes ", ") texts ++ codes ">") (λ e. omega (arith, e))
      (call_free m (Closeds.more x xs) level i))
  text_free (Closed.repeat Op.star x) i =
      free_joined p.underscores 42 (flat_key_text x) [] (λ e. omega (arith, e)) (text_free x (star_part x i))
  text_free (Closed.repeat Op.plus x) i =
      free_joined p.underscores 43 (flat_key_text x) [] (λ e. omega (arith, e)) (text_free x (plus_part x i))
  text_free (Closed.repeat Op.question x) i =
      free_joined p.underscores 63 (flat_key_text x) [] (λ e. omega (arith, e)) (text_free x (question_part x i))
  text_free (Closed.group xs) i =
      head_free 40 (join_texts (codes " ") (closed_texts (λ a l. before_tilde a) xs) ++ codes ")") (λ e. omega (arith, e))
  text_free (Closed.choose x) i = head_free 60 (flat_key_text x ++ codes ">") (λ e. omega (arith, e))
  text_free (Closed.name m a x) i =
      head_free 60 (mutable_text m ++ a ++ codes ":" ++ flat_key_text x ++ codes ">") (λ e. omega (arith, e))
  text_free Closed.lookahead i = head_free 64 (codes "L") (λ e. omega (arith, e))
  text_free Closed.lookbehind i = head_free 64 (codes "R") (λ e. omega (arith, e))
  text_free Closed.faulty i = head_free 33 [] (λ e. omega (arith, e))

  key_part : (x : Closed) → Among keys x → IsPart g.bares keys x
  key_part (Closed.terminal t) i = absurd (w.keys_only (Closed.terminal t) i)
  key_part (Closed.call m args level) i = i
  key_part (Closed.repeat op x) i = i
  key_part (Closed.group xs) i = tt
  key_part (Closed.choose x) i = tt
  key_part (Closed.name m a x) i = tt
  key_part Closed.lookahead i = tt
  key_part Closed.lookbehind i = tt
  key_part Closed.faulty i = tt

  -- and names neither
  name_free : (x : Closed) → Among keys x → IsFree prefix (f x)
  name_free x i =
      subst (λ s. IsFree s (f x)) (sym p.prefix_is)
      (subst (IsFree line) (sym (n.printed x i))
      (free_with_number p.underscores (flat_key_text x) (n.number x) (text_free x (key_part x i))))

  -- the law

  all_apart : (x y : Nonterminal) → InExpansion g x → InExpansion g y →
      nonterminal_name prefix f x ≡ nonterminal_name prefix f y → x ≡ y
  all_apart (Nonterminal.start a) (Nonterminal.start b) i j e = ap Nonterminal.start (append_cancel_left prefix a b e)
  all_apart (Nonterminal.start a) (Nonterminal.closed y) i j e = absurd (name_free y (in_keys g h f keys w y j) a (sym e))
  all_apart (Nonterminal.closed x) (Nonterminal.start b) i j e = absurd (name_free x (in_keys g h f keys w x i) b e)
  all_apart (Nonterminal.closed x) (Nonterminal.closed y) i j e =
      ap Nonterminal.closed (n.apart x y (in_keys g h f keys w x i) (in_keys g h f keys w y j) e)

  rules_keep : (r : EnabledRule) → IsRule g r.name r → r.parameters ≡ [] →
      f (Closed.call r.name Closeds.none (loosest r)) ≡ r.name
  rules_keep r i none =
      ap (λ l. f (Closed.call r.name Closeds.none l)) (no_loosest r (w.no_levels r.name r i)) ∙ n.own r.name r i none

  macros_apart : (r : EnabledRule) (x : Nonterminal) → Among g.rules r → r.parameters ≢ [] → InExpansion g x →
      nonterminal_name prefix f x ≢ r.name
  macros_apart r (Nonterminal.start a) i some j e = p.rules r a i (sym e)
  macros_apart r (Nonterminal.closed x) i some j e = n.macros r x i some (in_keys g h f keys w x j) e

  next_number : (t : Text) (k : ℕ) → IsNextAmongKeys g keys n.number t k → IsNextNumber g flat_key_text n.number t k
  next_number t _ IsNextAmongKeys.first = IsNextNumber.first
  next_number t _ (IsNextAmongKeys.after_key y i text number) = IsNextNumber.after_key y (w.reached y i) text number
  next_number t _ (IsNextAmongKeys.after_macro r i some name) = IsNextNumber.after_macro r i some name

  pub expansion_named : IsNaming flat_key_text prefix g (nonterminal_name prefix f)
  expansion_named = record {
    number = n.number;
    apart = all_apart;
    starts = λ a i. refl;
    rules = rules_keep;
    macros = macros_apart;
    printed = λ x i. n.printed x (in_keys g h f keys w x i);
    packed = λ x i. next_number (flat_key_text x) (n.number x) (n.packed x (in_keys g h f keys w x i));
  }
