-- No name of a key begins with the prefix, where no rule's name and no mapped bare name does; for the laws of what passes leave.
use Rattle.std.proofs.Common.{◌≡◌, ℕ, zero, suc, ◌<◌, List, [], ◌∷◌, ◌++◌, refl, ap, sym, ◌∙◌, subst, cond}
use Rattle.std.proofs.Common.{Bool, true, false, inl, inr, arith}
use Rattle.std.specs.Prelude.{Option, Some, None, codes, decimal, replicate, ◌==◌, ◌+◌, ◌&&◌}
use Rattle.std.proofs.lemmas.Bool.{true≢false, false_from_ne_true, and_parts, and_from}
use Rattle.std.proofs.lemmas.List.{append_assoc}
use Rattle.lalrpop_grammar_symbols.specs.Symbols.{Text, Terminal, Sym, WrittenSymbol, Op, Closed, Closeds}
use Rattle.lalrpop_grammar_symbols.specs.Texts.{join_texts, sign_text, macro_text}
use Rattle.lalrpop_grammar.specs.WrittenGrammar.{Origin}
use Rattle.lalrpop_grammar_language.specs.Among.{Among}
use Rattle.lalrpop_grammar_language.specs.Enabled.{EnabledGrammar, EnabledRule, Choice, IsRule, has_text}
use Rattle.lalrpop_grammar_language.specs.Expansion.{GrammarSymbol, Nonterminal, grammar_symbol}
use Rattle.lalrpop_norm_theory.specs.Keys.{closed_text, closed_texts, before_tilde, flat_key_text, with_number}
use Rattle.lalrpop_norm_theory.specs.Premises.{IsExpanded}
use Rattle.lalrpop_norm_theory.proofs.ExpansionListLemmas.{rule_there}
use Rattle.lalrpop_norm_theory.specs.KeyRules.{IsKey, IsMappedTerminal, IsWrittenFor, AreWrittenFor, AreKeyChoices, IsMacroExpansion}
use Rattle.lalrpop_grammar_language.proofs.AmongLemmas.{found_text}
use Rattle.lalrpop_norm_prevalidate.specs.Names.{has_prefix}
use Rattle.lalrpop_norm_chain.specs.PremiseLaws.{HasFreePrefix}
use Rattle.lalrpop_norm_chain.proofs.PrefixLemmas.{free_joined, decimal_high, begun_nowhere, not_begun}

-- texts

-- as a rule's name prints in a key
abbrev flat_name : Text → Option ℕ → Text
flat_name n level = before_tilde n

-- a name that is cut at a tilde begins as the name does
cut_begins : (p n : Text) → has_prefix p (before_tilde n) ≡ true → has_prefix p n ≡ true
cut_begins [] n h = refl
cut_begins (c ∷ p) [] h = h
cut_begins (c ∷ p) (d ∷ n) h = go (d == 126) h (λ k. cut_begins p n k)
  where
    go : (b : Bool) → has_prefix (c ∷ p) (cond b [] (d ∷ before_tilde n)) ≡ true →
        (has_prefix p (before_tilde n) ≡ true → has_prefix p n ≡ true) → ((c == d) && has_prefix p n) ≡ true
    go true k later = absurd (true≢false (sym k))
    go false k later =
        let parts = and_parts (c == d) (has_prefix p (before_tilde n)) k in
        and_from (c == d) (has_prefix p n) parts.0 (later parts.1)

cut_free : (p n : Text) → has_prefix p n ≡ false → has_prefix p (before_tilde n) ≡ false
cut_free p n h =
    false_from_ne_true (has_prefix p (before_tilde n)) (λ e. true≢false (sym (cut_begins p n e) ∙ h))

-- another character begins no run of underscores
other_begins : (u : ℕ) → 0 < u → (c : ℕ) (s : Text) → (95 == c) ≡ false → has_prefix (replicate u 95) (c ∷ s) ≡ false
other_begins zero some c s e = absurd (omega (arith, some))
other_begins (suc u) some c s e = ap (λ (b : Bool). b && has_prefix (replicate u 95) s) e

macro_free : (u : ℕ) (n : Text) (ts : List Text) → has_prefix (replicate u 95) n ≡ false →
    has_prefix (replicate u 95) (macro_text n ts) ≡ false
macro_free u n ts h =
    ap (has_prefix (replicate u 95))
    (append_assoc (n ++ codes "<") (join_texts (codes ", ") ts) (codes ">")
    ∙ append_assoc n (codes "<") (join_texts (codes ", ") ts ++ codes ">"))
    ∙ free_joined u n (codes "<" ++ (join_texts (codes ", ") ts ++ codes ">")) refl h

repeat_free : (u : ℕ) (op : Op) (t : Text) → has_prefix (replicate u 95) t ≡ false →
    has_prefix (replicate u 95) (t ++ sign_text op) ≡ false
repeat_free u Op.star t h = free_joined u t (sign_text Op.star) refl h
repeat_free u Op.plus t h = free_joined u t (sign_text Op.plus) refl h
repeat_free u Op.question t h = free_joined u t (sign_text Op.question) refl h

number_free : (u : ℕ) (t : Text) (k : ℕ) → has_prefix (replicate u 95) t ≡ false →
    has_prefix (replicate u 95) (with_number t k) ≡ false
number_free u t zero h = h
number_free u t (suc k) h =
    free_joined u (t ++ codes "~") (decimal (k + 2)) (decimal_high (k + 2)) (free_joined u t (codes "~") refl h)

-- what is written for a bare name is a mapped one

terminal_mapped : (bares : List Text) (t : Terminal) (n : Text) → Closed.terminal (Terminal.bare n) ≡ Closed.terminal t →
    IsMappedTerminal bares t → has_text n bares ≡ true
terminal_mapped bares (Terminal.bare m) n e h =
    let same : m ≡ n = cc in subst (λ (x : Text). has_text x bares ≡ true) same h
terminal_mapped bares (Terminal.quoted m) n e h = cc
terminal_mapped bares (Terminal.regex m) n e h = cc
terminal_mapped bares Terminal.error n e h = cc

bare_mapped : (bares : List Text) (f : Closed → Text) (n : Text) (v : WrittenSymbol) →
    IsWrittenFor bares f (Closed.terminal (Terminal.bare n)) v → has_text n bares ≡ true
bare_mapped bares f n (Sym.terminal p t) h = terminal_mapped bares t n h.0 h.1
bare_mapped bares f n (Sym.nonterminal p m) h = absurd h.1
bare_mapped bares f n (Sym.choose p v) h =
    let e : Closed.terminal (Terminal.bare n) ≡ Closed.choose h.0 = h.1 in cc
bare_mapped bares f n (Sym.name p m a v) h =
    let e : Closed.terminal (Terminal.bare n) ≡ Closed.name m a h.0 = h.1 in cc
bare_mapped bares f n (Sym.expr p vs) h = absurd h
bare_mapped bares f n (Sym.ambiguous_id p m) h = absurd h
bare_mapped bares f n (Sym.macro p m args) h = absurd h
bare_mapped bares f n (Sym.repeat p op v) h = absurd h
bare_mapped bares f n (Sym.lookahead p) h = absurd h
bare_mapped bares f n (Sym.lookbehind p) h = absurd h
bare_mapped bares f n (Sym.error p) h = absurd h

first_mapped : (bares : List Text) (f : Closed → Text) (y : Closed) (vs : List WrittenSymbol) →
    AreWrittenFor bares f (y ∷ []) vs → (n : Text) → y ≡ Closed.terminal (Terminal.bare n) → has_text n bares ≡ true
first_mapped bares f y [] h n e = absurd h
first_mapped bares f y (v ∷ vs) h n e = bare_mapped bares f n v (subst (λ (x : Closed). IsWrittenFor bares f x v) e h.0)

module _ (g h : EnabledGrammar) (f : Closed → Text) (keys : List Closed) (w : IsMacroExpansion g h f keys) (prefix : Text)
    (free : HasFreePrefix prefix g) where
  abbrev run : Text
  run = replicate free.underscores 95

  joined_so : (n t : Text) → n ≡ run ++ t → n ≡ prefix ++ t
  joined_so n t e = e ∙ ap (λ (p : Text). p ++ t) (sym free.prefix_is)

  rule_free : (n : Text) (r : EnabledRule) → IsRule g n r → has_prefix run n ≡ false
  rule_free n r i =
      let there = rule_there g n r i in
      begun_nowhere run n (λ t e. free.rules r t there.0 (there.1 ∙ joined_so n t e))

  bare_free : (n : Text) → has_text n g.bares ≡ true → has_prefix run n ≡ false
  bare_free n m = begun_nowhere run n (λ t e. free.bares n t (found_text n g.bares m) (joined_so n t e))

  -- a call that is a key has a rule
  call_free : (n : Text) (args : Closeds) (level : Option ℕ) → Among keys (Closed.call n args level) → has_prefix run n ≡ false
  call_free n args level k = go level (w.rules (Closed.call n args level) k).0.choices (w.rules (Closed.call n args level) k).2.choices
    where
      go : (l : Option ℕ) (cs : List Choice) → AreKeyChoices g f (Closed.call n args l) cs → has_prefix run n ≡ false
      go None cs c = rule_free n c.0 c.1
      go (Some l) cs c = absurd c

  -- what is known of the symbol that a repeat repeats
  abbrev IsKnown : Closed → Type 0
  IsKnown y = ((z : Closed) → grammar_symbol y ≡ GrammarSymbol.nonterminal (Nonterminal.closed z) → Among keys z)
      × ((n : Text) → y ≡ Closed.terminal (Terminal.bare n) → has_text n g.bares ≡ true)

  plus_known : (y : Closed) → Among keys (Closed.repeat Op.plus y) → IsKnown y
  plus_known y k =
      let u = w.rules (Closed.repeat Op.plus y) k in
      let c = u.2.choices in (
        λ z e. w.closed (Closed.repeat Op.plus y) z Origin.plus_one (grammar_symbol y ∷ []) k (inl (refl, refl)) (inl e),
        λ n e. first_mapped g.bares f y c.0.expr c.3.symbols n e,
      )

  repeat_known : (op : Op) (y : Closed) → Among keys (Closed.repeat op y) → IsKnown y
  repeat_known Op.plus y k = plus_known y k
  repeat_known Op.star y k =
      plus_known y (w.closed (Closed.repeat Op.star y) (Closed.repeat Op.plus y) Origin.star_some
      (GrammarSymbol.nonterminal (Nonterminal.closed (Closed.repeat Op.plus y)) ∷ []) k (inr (refl, refl)) (inl refl))
  repeat_known Op.question y k =
      let u = w.rules (Closed.repeat Op.question y) k in
      let c = u.2.choices in (
        λ z e. w.closed (Closed.repeat Op.question y) z Origin.opt_some (grammar_symbol y ∷ []) k (inr (refl, refl)) (inl e),
        λ n e. first_mapped g.bares f y c.0.expr c.3.symbols n e,
      )

  -- no text of a key begins with the prefix
  text_free : (x : Closed) → IsKnown x → has_prefix run (flat_key_text x) ≡ false
  text_free (Closed.terminal (Terminal.quoted t)) k = other_begins free.underscores free.some 34 _ refl
  text_free (Closed.terminal (Terminal.regex t)) k = other_begins free.underscores free.some 114 _ refl
  text_free (Closed.terminal (Terminal.bare n)) k = bare_free n (k.1 n refl)
  text_free (Closed.terminal Terminal.error) k = other_begins free.underscores free.some 33 [] refl
  text_free (Closed.call n Closeds.none level) k =
      cut_free run n (call_free n Closeds.none level (k.0 (Closed.call n Closeds.none level) refl))
  text_free (Closed.call n (Closeds.more x xs) level) k =
      macro_free free.underscores (before_tilde n) (closed_text flat_name x ∷ closed_texts flat_name xs)
      (cut_free run n (call_free n (Closeds.more x xs) level (k.0 (Closed.call n (Closeds.more x xs) level) refl)))
  text_free (Closed.repeat op y) k =
      repeat_free free.underscores op (flat_key_text y) (text_free y (repeat_known op y (k.0 (Closed.repeat op y) refl)))
  text_free (Closed.group xs) k = other_begins free.underscores free.some 40 _ refl
  text_free (Closed.choose x) k = other_begins free.underscores free.some 60 _ refl
  text_free (Closed.name m n x) k = other_begins free.underscores free.some 60 _ refl
  text_free Closed.lookahead k = other_begins free.underscores free.some 64 _ refl
  text_free Closed.lookbehind k = other_begins free.underscores free.some 64 _ refl
  text_free Closed.faulty k = other_begins free.underscores free.some 33 [] refl

  key_known : (x y : Closed) → Among keys x → IsKey x → grammar_symbol x ≡ GrammarSymbol.nonterminal (Nonterminal.closed y) →
      Among keys y
  key_known (Closed.terminal t) y k i e = absurd i
  key_known (Closed.call n args level) y k i e = let same : Closed.call n args level ≡ y = cc in subst (Among keys) same k
  key_known (Closed.repeat op z) y k i e = let same : Closed.repeat op z ≡ y = cc in subst (Among keys) same k
  key_known (Closed.group xs) y k i e = let same : Closed.group xs ≡ y = cc in subst (Among keys) same k
  key_known (Closed.choose z) y k i e = absurd i
  key_known (Closed.name m n z) y k i e = absurd i
  key_known Closed.lookahead y k i e = let same : Closed.lookahead ≡ y = cc in subst (Among keys) same k
  key_known Closed.lookbehind y k i e = let same : Closed.lookbehind ≡ y = cc in subst (Among keys) same k
  key_known Closed.faulty y k i e = absurd i

  key_free : (x : Closed) → Among keys x → has_prefix run (flat_key_text x) ≡ false
  key_free x k =
      text_free x (
        λ y e. key_known x y k (w.keys_only x k) e,
        λ n e. absurd (subst IsKey e (w.keys_only x k)),
      )

  -- and so the expanded grammar's names leave it free
  pub keys_free : IsExpanded h → (number : Closed → ℕ) →
      ((x : Closed) → Among keys x → f x ≡ with_number (flat_key_text x) (number x)) → HasFreePrefix prefix h
  keys_free expanded number printed = record {
    underscores = free.underscores;
    some = free.some;
    prefix_is = free.prefix_is;
    rules = λ q t i e.
        let x = w.no_other q.name q (expanded.rules q i) in
        let name_is : q.name ≡ with_number (flat_key_text x.0) (number x.0) = x.2 ∙ printed x.0 x.1 in
        not_begun run q.name t
        (ap (has_prefix run) name_is ∙ number_free free.underscores (flat_key_text x.0) (number x.0) (key_free x.0 x.1))
        (e ∙ ap (λ (p : Text). p ++ t) free.prefix_is);
    bares = λ n t i. free.bares n t (subst (λ (l : List Text). Among l n) w.bares i);
  }
