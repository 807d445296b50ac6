-- What stands in a finished table of keys: rules alone, and keys whose texts don't end in a digit; for the names of keys.
use Rattle.std.proofs.Common.{◌≡◌, ℕ, zero, suc, List, refl, ap, sym, ◌∙◌, subst, Bool, true, false, inl, inr, ◌⊎◌}
use Rattle.std.specs.Prelude.{Option, Some, None}
use Rattle.lalrpop_grammar_symbols.specs.Symbols.{Text, Terminal, Op, Closed, Closeds}
use Rattle.lalrpop_grammar_language.specs.Among.{Among}
use Rattle.lalrpop_grammar_language.specs.Enabled.{EnabledGrammar}
use Rattle.lalrpop_grammar_language.specs.Expansion.{GrammarSymbol, Nonterminal}
use Rattle.lalrpop_norm_theory.specs.Depth.{calls_in, calls_in_all, calls_in_grammar_symbol, HasCallChain}
use Rattle.lalrpop_norm_theory.specs.Keys.{before_tilde, flat_key_text}
use Rattle.lalrpop_grammar_language.proofs.OrderLemmas.{among_parts}
use Rattle.lalrpop_norm_theory.specs.KeyTables.{keys_in, keys_in_all, IsMetKey, IsPlainKey}
use Rattle.lalrpop_norm_theory.proofs.LastLemmas.{IsHead, ends_in_digit, named_alone}
use Rattle.lalrpop_norm_macros.specs.KeyNames.{HasFoundKeys}
use Rattle.lalrpop_norm_macros.specs.OrderedNames.{rule_alone}

-- calls have arguments

abbrev HasArguments : Closed → Type 0
HasArguments (Closed.terminal t) = ⊥
HasArguments (Closed.call n Closeds.none level) = ⊥
HasArguments (Closed.call n (Closeds.more x xs) level) = Unit {0}
HasArguments (Closed.repeat op x) = ⊥
HasArguments (Closed.group xs) = ⊥
HasArguments (Closed.choose x) = ⊥
HasArguments (Closed.name m n x) = ⊥
HasArguments Closed.lookahead = ⊥
HasArguments Closed.lookbehind = ⊥
HasArguments Closed.faulty = ⊥

mutual
  calls_argued : (x z : Closed) → Among (calls_in x) z → HasArguments z
  calls_argued (Closed.terminal t) z i = absurd i
  calls_argued (Closed.call n Closeds.none level) z i = absurd i
  calls_argued (Closed.call n (Closeds.more x xs) level) z (inl e) = subst HasArguments e tt
  calls_argued (Closed.call n (Closeds.more x xs) level) z (inr i) = absurd i
  calls_argued (Closed.repeat op x) z i = calls_argued x z i
  calls_argued (Closed.group xs) z i = all_calls_argued xs z i
  calls_argued (Closed.choose x) z i = calls_argued x z i
  calls_argued (Closed.name m n x) z i = calls_argued x z i
  calls_argued Closed.lookahead z i = absurd i
  calls_argued Closed.lookbehind z i = absurd i
  calls_argued Closed.faulty z i = absurd i

  all_calls_argued : (xs : Closeds) (z : Closed) → Among (calls_in_all xs) z → HasArguments z
  all_calls_argued Closeds.none z i = absurd i
  all_calls_argued (Closeds.more x xs) z i =
      either (among_parts (calls_in x) (calls_in_all xs) z i) (λ k. calls_argued x z k) (λ k. all_calls_argued xs z k)
    where
      either : Among (calls_in x) z ⊎ Among (calls_in_all xs) z → (Among (calls_in x) z → HasArguments z) →
          (Among (calls_in_all xs) z → HasArguments z) → HasArguments z
      either (inl k) a b = a k
      either (inr k) a b = b k

symbol_argued : (y : GrammarSymbol Nonterminal) (z : Closed) → Among (calls_in_grammar_symbol y) z → HasArguments z
symbol_argued (GrammarSymbol.terminal t) z i = absurd i
symbol_argued (GrammarSymbol.nonterminal (Nonterminal.start n)) z i = absurd i
symbol_argued (GrammarSymbol.nonterminal (Nonterminal.closed x)) z i = calls_argued x z i

chain_argued : (g : EnabledGrammar) (k : ℕ) (z : Closed) → HasCallChain g k z → HasArguments z
chain_argued g zero z c = absurd c
chain_argued g (suc zero) z c = let o = c.2 in symbol_argued o.symbol z o.call_is
chain_argued g (suc (suc k)) z c = let o = c.2 in symbol_argued o.symbol z o.call_is

-- what stands in a symbol has productions, or names nothing

mutual
  keys_are_heads : (x z : Closed) → Among (keys_in x) z → IsHead z
  keys_are_heads (Closed.terminal (Terminal.quoted t)) z i = absurd i
  keys_are_heads (Closed.terminal (Terminal.regex t)) z i = absurd i
  keys_are_heads (Closed.terminal (Terminal.bare n)) z i = absurd i
  keys_are_heads (Closed.terminal Terminal.error) z (inl e) = subst IsHead e tt
  keys_are_heads (Closed.terminal Terminal.error) z (inr i) = absurd i
  keys_are_heads (Closed.call n args level) z (inl e) = subst IsHead e tt
  keys_are_heads (Closed.call n args level) z (inr i) = absurd i
  keys_are_heads (Closed.repeat Op.plus x) z (inl e) = subst IsHead e tt
  keys_are_heads (Closed.repeat Op.plus x) z (inr i) = keys_are_heads x z i
  keys_are_heads (Closed.repeat Op.star x) z (inl e) = subst IsHead e tt
  keys_are_heads (Closed.repeat Op.star x) z (inr (inl e)) = subst IsHead e tt
  keys_are_heads (Closed.repeat Op.star x) z (inr (inr i)) = keys_are_heads x z i
  keys_are_heads (Closed.repeat Op.question x) z (inl e) = subst IsHead e tt
  keys_are_heads (Closed.repeat Op.question x) z (inr i) = keys_are_heads x z i
  keys_are_heads (Closed.group xs) z (inl e) = subst IsHead e tt
  keys_are_heads (Closed.group xs) z (inr i) = all_keys_are_heads xs z i
  keys_are_heads (Closed.choose x) z i = keys_are_heads x z i
  keys_are_heads (Closed.name m n x) z i = keys_are_heads x z i
  keys_are_heads Closed.lookahead z (inl e) = subst IsHead e tt
  keys_are_heads Closed.lookahead z (inr i) = absurd i
  keys_are_heads Closed.lookbehind z (inl e) = subst IsHead e tt
  keys_are_heads Closed.lookbehind z (inr i) = absurd i
  keys_are_heads Closed.faulty z (inl e) = subst IsHead e tt
  keys_are_heads Closed.faulty z (inr i) = absurd i

  all_keys_are_heads : (xs : Closeds) (z : Closed) → Among (keys_in_all xs) z → IsHead z
  all_keys_are_heads Closeds.none z i = absurd i
  all_keys_are_heads (Closeds.more x xs) z i =
      either (among_parts (keys_in x) (keys_in_all xs) z i) (λ k. keys_are_heads x z k) (λ k. all_keys_are_heads xs z k)
    where
      either : Among (keys_in x) z ⊎ Among (keys_in_all xs) z → (Among (keys_in x) z → IsHead z) →
          (Among (keys_in_all xs) z → IsHead z) → IsHead z
      either (inl k) a b = a k
      either (inr k) a b = b k

call_is_head : (x : Closed) → HasArguments x → IsHead x
call_is_head (Closed.call n args level) h = tt
call_is_head (Closed.terminal t) h = absurd h
call_is_head (Closed.repeat op x) h = tt
call_is_head (Closed.group xs) h = tt
call_is_head (Closed.choose x) h = absurd h
call_is_head (Closed.name m n x) h = absurd h
call_is_head Closed.lookahead h = tt
call_is_head Closed.lookbehind h = tt
call_is_head Closed.faulty h = tt

-- the keys of a table

table_head : (g : EnabledGrammar) (keys : List Closed) → HasFoundKeys g keys → (x : Closed) → Among keys x → IsHead x
table_head g keys w x i = go (w.table.no_other x i)
  where
    go : IsPlainKey g x ⊎ (Among w.calls x ⊎ IsMetKey g w.calls x) → IsHead x
    go (inl p) = subst IsHead (sym p.key_is) tt
    go (inr (inl c)) = let k = w.found.chains x c in call_is_head x (chain_argued g k.0 x k.2)
    go (inr (inr m)) = keys_are_heads m.stands.symbol x m.stands.stands

-- one without arguments is a rule alone
pub table_alone : (g : EnabledGrammar) (keys : List Closed) → HasFoundKeys g keys → (n : Text) (level : Option ℕ) →
    Among keys (Closed.call n Closeds.none level) → IsPlainKey g (Closed.call n Closeds.none level)
table_alone g keys w n level i = go (w.table.no_other (Closed.call n Closeds.none level) i)
  where
    go : IsPlainKey g (Closed.call n Closeds.none level)
        ⊎ (Among w.calls (Closed.call n Closeds.none level) ⊎ IsMetKey g w.calls (Closed.call n Closeds.none level)) →
        IsPlainKey g (Closed.call n Closeds.none level)
    go (inl p) = p
    go (inr (inl c)) =
        let k = w.found.chains (Closed.call n Closeds.none level) c in
        absurd (chain_argued g k.0 (Closed.call n Closeds.none level) k.2)
    go (inr (inr m)) = absurd m.no_call

-- and another one has a text that doesn't end in a digit
pub table_ends : (g : EnabledGrammar) (keys : List Closed) → HasFoundKeys g keys → (x : Closed) → Among keys x →
    rule_alone x ≡ None → ends_in_digit (flat_key_text x) ≡ false
table_ends g keys w x i none = go (ends_in_digit (flat_key_text x)) refl
  where
    some_none : (n : Text) → Some n ≡ rule_alone x → ⊥
    some_none n e = let wrong : Some n ≡ None = e ∙ none in cc

    go : (b : Bool) → ends_in_digit (flat_key_text x) ≡ b → b ≡ false
    go true e =
        let u = named_alone (λ n level. before_tilde n) x (table_head g keys w x i) e in
        absurd (some_none u.0 (sym (ap rule_alone u.2)))
    go false e = refl
