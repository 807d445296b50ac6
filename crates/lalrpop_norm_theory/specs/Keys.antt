-- The names of an expansion's nonterminals: a key, that is a closed symbol, prints as a text, and is called by that text.
use Rattle.std.specs.Prelude.{ℕ, zero, suc, ◌+◌, ◌≡◌, ◌≢◌, ◌==◌, List, [], ◌∷◌, ◌++◌, Option, Some}
use Rattle.std.specs.Prelude.{None, codes, decimal}
use Rattle.std.specs.Prelude.{if◌then◌else◌}
use Rattle.lalrpop_grammar_symbols.specs.Symbols.{Text, Closed, Closeds}
use Rattle.lalrpop_grammar_symbols.specs.Texts.{terminal_text, group_text, macro_text, choose_text, named_text, repeat_text}
use Rattle.lalrpop_grammar_language.specs.Among.{Among}
use Rattle.lalrpop_grammar_language.specs.Enabled.{EnabledGrammar, EnabledRule, IsRule, rules_named}
use Rattle.lalrpop_grammar_language.specs.Levels.{loosest}
use Rattle.lalrpop_grammar_language.specs.Expansion.{Nonterminal, InExpansion}

-- The text of a closed symbol, where a rule at a level prints as given. It is that of a written symbol.
abbrev mutual
  pub closed_text : (Text → Option ℕ → Text) → Closed → Text
  closed_text f (Closed.terminal t) = terminal_text t
  closed_text f (Closed.call n Closeds.none level) = f n level
  closed_text f (Closed.call n (Closeds.more x xs) level) = macro_text (f n level) (closed_text f x ∷ closed_texts f xs)
  closed_text f (Closed.repeat op x) = repeat_text op (closed_text f x)
  closed_text f (Closed.group xs) = group_text (closed_texts f xs)
  closed_text f (Closed.choose x) = choose_text (closed_text f x)
  closed_text f (Closed.name m n x) = named_text m n (closed_text f x)
  closed_text f Closed.lookahead = codes "@L"
  closed_text f Closed.lookbehind = codes "@R"
  closed_text f Closed.faulty = codes "!"

  pub closed_texts : (Text → Option ℕ → Text) → Closeds → List Text
  closed_texts f Closeds.none = []
  closed_texts f (Closeds.more x xs) = closed_text f x ∷ closed_texts f xs

-- the loosest level prints as the rule's name, another one as the name and the number
abbrev pub text_beside : Text → ℕ → Option ℕ → Text
text_beside n level None = n
text_beside n level (Some most) = if level == most then n else n ++ decimal level

abbrev pub text_at_level : Text → ℕ → List EnabledRule → Text
text_at_level n level [] = n
text_at_level n level (r ∷ []) = text_beside n level (loosest r)
text_at_level n level (r ∷ s ∷ rs) = n

abbrev pub level_text : EnabledGrammar → Text → Option ℕ → Text
level_text g n None = n
level_text g n (Some level) = text_at_level n level (rules_named g n)

-- the text of a key of a grammar with levels
abbrev pub leveled_key_text : EnabledGrammar → Closed → Text
leveled_key_text g = closed_text (level_text g)

-- a name without the tail from the first tilde on; no written name has one
abbrev pub before_tilde : Text → Text
before_tilde [] = []
before_tilde (c ∷ cs) = if c == 126 then [] else c ∷ before_tilde cs

-- the text of a key where each level has a rule of its own: a rule's name prints without its number behind the tilde
abbrev pub flat_key_text : Closed → Text
flat_key_text = closed_text (λ n level. before_tilde n)

-- the text, then `~2`, `~3` and so on
abbrev pub with_number : Text → ℕ → Text
with_number t zero = t
with_number t (suc k) = t ++ codes "~" ++ decimal (k + 2)

-- The number is free for a key of that text: the number before it is another key's of the text, or `~2` stands where the text
-- is a macro's name.
pub data IsNextNumber (g : EnabledGrammar) (text_of : Closed → Text) (number : Closed → ℕ) (text : Text) : ℕ → Type 0 where
  first : IsNextNumber g text_of number text zero
  after_key : {k : ℕ} (y : Closed) → InExpansion g (Nonterminal.closed y) → text_of y ≡ text → number y ≡ k
      → IsNextNumber g text_of number text (suc k)
  after_macro : (r : EnabledRule) → Among g.rules r → r.parameters ≢ [] → r.name ≡ text →
      IsNextNumber g text_of number text (suc zero)

-- The names of the expansion's nonterminals. No two share one. A start's is the prefix and its rule's name, a written rule's
-- its own, and no key has the name of a macro. Each key's is its text, or its text with a number, and no number is left out.
pub record IsNaming (text_of : Closed → Text) (prefix : Text) (g : EnabledGrammar) (name_of : Nonterminal → Text) : Type 0 where
  pub number : Closed → ℕ
  pub apart : (x y : Nonterminal) → InExpansion g x → InExpansion g y → name_of x ≡ name_of y → x ≡ y
  pub starts : (n : Text) → InExpansion g (Nonterminal.start n) → name_of (Nonterminal.start n) ≡ prefix ++ n
  pub rules : (r : EnabledRule) → IsRule g r.name r → r.parameters ≡ []
      → name_of (Nonterminal.closed (Closed.call r.name Closeds.none (loosest r))) ≡ r.name
  pub macros : (r : EnabledRule) (x : Nonterminal) → Among g.rules r → r.parameters ≢ [] → InExpansion g x → name_of x ≢ r.name
  pub printed : (x : Closed) → InExpansion g (Nonterminal.closed x)
      → name_of (Nonterminal.closed x) ≡ with_number (text_of x) (number x)
  pub packed : (x : Closed) → InExpansion g (Nonterminal.closed x) → IsNextNumber g text_of number (text_of x) (number x)
