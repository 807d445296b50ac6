-- Closing goes by rules, parameters and levels alone, symbol by symbol: for the closing of an alternative.
use Rattle.std.proofs.Common.{◌≡◌, ℕ, ◌+◌, Bool, List, [], ◌∷◌, ◌++◌, Option, Some, None, refl, ap, sym, ◌∙◌}
use Rattle.std.specs.Str.{bytes_eq}
use Rattle.std.proofs.Common.{map, drop, arith}
use Rattle.std.proofs.lemmas.List.{map-append}
use Rattle.std.specs.Prelude.{Result, Ok, Err, IfOk, if◌then◌else◌, option_map}
use Rattle.lalrpop_grammar_symbols.specs.Symbols.{Text, TextSpan, Terminal, Syms, WrittenSymbol, Closed, Closeds, syms, Sym}
use Rattle.lalrpop_grammar_symbols.specs.Subsymbols.{subsymbols, subsymbols_of}
use Rattle.lalrpop_grammar_symbols.specs.Views.{symbol_view}
use Rattle.lalrpop_grammar_symbols.specs.declared.symbol.Symbol.{Symbol}
use Rattle.lalrpop_grammar.specs.WrittenGrammar.{Alternative, Grammar, Origin}
use Rattle.lalrpop_grammar.specs.Views.{grammar_view}
use Rattle.lalrpop_grammar_language.specs.Enabled.{enabled_grammar, choice_of, EnabledRule}
use Rattle.lalrpop_grammar_language.specs.Levels.{Rank, allowed_level, loosest, levels}
use Rattle.lalrpop_grammar_language.specs.Closing.{Binding, Meaning, Scope, parameter_value, close, close_all, close_list, close_terminal}
use Rattle.lalrpop_grammar_language.specs.Closing.{if_plain, if_macro, name_meaning, name_or, names_owner, occurrences, occurrences_among}
use Rattle.lalrpop_grammar_language.specs.Closing.{occurrences_in, plain_call, plain_name, right_side, sound_or_faulty}
use Rattle.lalrpop_grammar_rules.specs.Details.{tighter_in}
use Rattle.lalrpop_grammar_rules.specs.Scopes.{allowed_level_by, binding_view, level_view, scope_view}
use Rattle.lalrpop_grammar_rules.specs.RuleTable.{rules_view, rules_with, no_search}
use Rattle.lalrpop_grammar_rules.specs.declared.closed.closing.Scope as program
use Rattle.lalrpop_grammar_rules.specs.declared.table.Rules as table
use Rattle.lalrpop_grammar_rules.specs.declared.closed.closed_symbol.ClosedSymbol.{ClosedSymbol}
use Rattle.lalrpop_grammar_rules.specs.Views.{closed_view, closeds}

module _ (finds : Text → Text → Option Bool) (features : List Text) (g : Grammar) (b : Binding) (o : Text)
    (one two : ℕ → Option ℕ)
    (same : (k : ℕ) → one k ≡ two k) where
  abbrev here : Scope
  here = record { grammar = enabled_grammar no_search features g; binding = b; owner = o; level_at = one }

  abbrev there : Scope
  there = record { grammar = enabled_grammar finds features g; binding = b; owner = o; level_at = two }

  name_alike : (k : ℕ) (n : Text) (m : Meaning) → plain_name here k n m ≡ plain_name there k n m
  name_alike k n (Meaning.rule r) =
      ap (λ l. if_plain r.parameters (Closed.call n Closeds.none (if bytes_eq n o then l else loosest r))) (same k)
  name_alike k n Meaning.terminal = refl
  name_alike k n Meaning.unclear = refl

  call_alike : (k : ℕ) (n : Text) (args : Closeds) (m : Meaning) → plain_call here k n args m ≡ plain_call there k n args m
  call_alike k n args (Meaning.rule r) =
      ap (λ l. if_macro r.parameters args (Closed.call n args (if bytes_eq n o then l else loosest r))) (same k)
  call_alike k n args Meaning.terminal = refl
  call_alike k n args Meaning.unclear = refl

  term_alike : (t : Terminal)
      → close_terminal (enabled_grammar no_search features g) t ≡ close_terminal (enabled_grammar finds features g) t
  term_alike (Terminal.quoted t) = refl
  term_alike (Terminal.regex t) = refl
  term_alike (Terminal.bare n) = refl
  term_alike Terminal.error = refl

  mutual
    close_alike : (k : ℕ) (x : WrittenSymbol) → close here k x ≡ close there k x
    close_alike k (Sym.expr p xs) = ap Closed.group (close_all_alike k xs)
    close_alike k (Sym.ambiguous_id p n) =
        ap (name_or (parameter_value b n)) (name_alike k n (name_meaning (enabled_grammar no_search features g) n))
    close_alike k (Sym.nonterminal p n) = name_alike k n (name_meaning (enabled_grammar no_search features g) n)
    close_alike k (Sym.terminal p t) = term_alike t
    close_alike k (Sym.macro p n args) =
        ap (name_or (option_map (λ c. Closed.faulty) (parameter_value b n)))
        (call_alike k n (close_all here (k + names_owner b o n) args) (name_meaning (enabled_grammar no_search features g) n)
        ∙ ap (λ cs. plain_call there k n cs (name_meaning (enabled_grammar finds features g) n))
        (close_all_alike (k + names_owner b o n) args))
    close_alike k (Sym.repeat p op x) = ap (Closed.repeat op) (close_alike k x)
    close_alike k (Sym.choose p x) = ap Closed.choose (close_alike k x)
    close_alike k (Sym.name p m n x) = ap (Closed.name m n) (close_alike k x)
    close_alike k (Sym.lookahead p) = refl
    close_alike k (Sym.lookbehind p) = refl
    close_alike k (Sym.error p) = refl

    close_all_alike : (k : ℕ) (xs : Syms TextSpan) → close_all here k xs ≡ close_all there k xs
    close_all_alike k Syms.none = refl
    close_all_alike k (Syms.more x xs) =
        ap (λ c. Closeds.more c (close_all here (k + occurrences b o x) xs)) (close_alike k x)
        ∙ ap (λ cs. Closeds.more (close there k x) cs) (close_all_alike (k + occurrences b o x) xs)

  -- what a search for patterns finds, and how the levels come about, makes no difference
  pub close_list_alike : (k : ℕ) (xs : List WrittenSymbol) → close_list here k xs ≡ close_list there k xs
  close_list_alike k [] = refl
  close_list_alike k (x ∷ xs) =
      ap (λ c. sound_or_faulty c ∷ close_list here (k + occurrences b o x) xs) (close_alike k x)
      ∙ ap (λ cs. sound_or_faulty (close there k x) ∷ cs) (close_list_alike (k + occurrences b o x) xs)

above : (r : EnabledRule) (q : Rank) (t : Option ℕ) (n k : ℕ) → t ≡ tighter_in (levels r) (Some q)
    → allowed_level_by (loosest r) (Some q) t n k ≡ allowed_level r (Some q) n k
above r q None n k e = rw (← e) refl
above r q (Some t) n k e = rw (← e) refl

-- the level that an occurrence may have, by the loosest level and the next tighter one
pub allowed_are : (r : EnabledRule) (rank : Option Rank) (t l : Option ℕ) (n k : ℕ) → l ≡ loosest r
    → t ≡ tighter_in (levels r) rank
    → allowed_level_by l rank t n k ≡ allowed_level r rank n k
allowed_are r None t l n k is e = is
allowed_are r (Some q) t l n k is e = ap (λ m. allowed_level_by m (Some q) t n k) is ∙ above r q t n k e

-- occurrences among symbols behind others are counted, too
among-append : (b : Binding) (o : Text) (xs ys : List WrittenSymbol)
    → occurrences_among b o (xs ++ ys) ≡ occurrences_among b o xs + occurrences_among b o ys
among-append b o [] ys = omega arith
among-append b o (x ∷ xs) ys = let more = among-append b o xs ys in omega (arith, more)

-- closed symbols before others
abbrev pub joined : List Closed → Closeds → Closeds
joined [] cs = cs
joined (x ∷ xs) cs = Closeds.more x (joined xs cs)

pub joined-push : (xs : List Closed) (x : Closed) (cs : Closeds) → joined (xs ++ x ∷ []) cs ≡ joined xs (Closeds.more x cs)
joined-push [] x cs = refl
joined-push (y ∷ ys) x cs = ap (Closeds.more y) (joined-push ys x cs)

-- closed symbols before none are these symbols
pub joined-end : (xs : List Closed) → joined xs Closeds.none ≡ closeds xs
joined-end [] = refl
joined-end (x ∷ xs) = ap (Closeds.more x) (joined-end xs)

module _ (s : Scope) (ss : List Symbol) (i : ℕ) (x : Symbol) (here : drop i ss ≡ x ∷ drop (i + 1) ss) (count next : ℕ) where
  abbrev rest : Syms TextSpan
  rest = syms (map symbol_view (drop (i + 1) ss))

  -- one symbol further
  pub all_closed_on : (old new : List ClosedSymbol) (c : ClosedSymbol) → closed_view c ≡ close s count (symbol_view x)
      → next ≡ count + occurrences s.binding s.owner (symbol_view x)
      → new ≡ old ++ c ∷ [] → (whole : Closeds)
      → joined (map closed_view old) (close_all s count (syms (map symbol_view (drop i ss)))) ≡ whole
      → joined (map closed_view new) (close_all s next rest) ≡ whole
  all_closed_on old new c is at pushed whole before =
      let split : joined (map closed_view old) (close_all s count (syms (map symbol_view (drop i ss))))
      ≡ joined (map closed_view old) (close_all s count (syms (map symbol_view (x ∷ drop (i + 1) ss)))) =
      ap (λ l. joined (map closed_view old) (close_all s count (syms (map symbol_view l)))) here in
      ap (λ l. joined (map closed_view l) (close_all s next rest)) pushed
      ∙ ap (λ l. joined l (close_all s next rest)) (map-append closed_view old (c ∷ []))
      ∙ joined-push (map closed_view old) (closed_view c) (close_all s next rest)
      ∙ ap (λ z. joined (map closed_view old) (Closeds.more z (close_all s next rest))) is
      ∙ ap (λ k. joined (map closed_view old) (Closeds.more (close s count (symbol_view x)) (close_all s k rest))) at
      ∙ sym split ∙ before

  -- one symbol further, with its occurrences counted
  pub all_counted_on : next ≡ count + occurrences s.binding s.owner (symbol_view x) → (whole : ℕ)
      → count + occurrences_in s.binding s.owner (syms (map symbol_view (drop i ss))) ≡ whole
      → next + occurrences_in s.binding s.owner rest ≡ whole
  all_counted_on at whole before =
      let split : occurrences_in s.binding s.owner (syms (map symbol_view (drop i ss)))
      ≡ occurrences s.binding s.owner (symbol_view x) + occurrences_in s.binding s.owner rest =
      ap (λ l. occurrences_in s.binding s.owner (syms (map symbol_view l))) here
      ∙ among-append s.binding s.owner (subsymbols (symbol_view x)) (subsymbols_of rest) in
      omega (arith, at, before, split)

module _ (t : table.Rules) (s : program.Scope) (r : EnabledRule) (b : Binding) (a : Alternative) (rank : Option Rank) (l tight : Option ℕ)
    (count : ℕ)
    (rules : s.rules.now ≡ t) (bind : binding_view s.binding ≡ b) (own : s.owner.now ≡ r.name)
    (lev : (k : ℕ) → level_view s k ≡ allowed_level_by l rank tight count k) (loose : l ≡ loosest r)
    (tighter : tight ≡ tighter_in (levels r) rank)
    (counted : count ≡ occurrences_in b r.name (syms a.expr)) (finds : Text → Text → Option Bool) where
  level_same : (k : ℕ) → level_view s k ≡ allowed_level r rank (occurrences_in b r.name (syms a.expr)) k
  level_same k =
      lev k ∙ allowed_are r rank tight l count k loose tighter
      ∙ ap (λ n. allowed_level r rank n k) counted

  -- what is closed where the program closes it is the right side
  pub right_side_is : close_list (scope_view s) 0 a.expr ≡ right_side (rules_with finds t) r b (choice_of (Origin.start, a), rank)
  right_side_is =
      ap (λ u. close_list (record {
        grammar = rules_view u;
        binding = binding_view s.binding;
        owner = s.owner.now;
        level_at = level_view s;
      }) 0 a.expr) rules
      ∙ ap (λ u. close_list (record { grammar = rules_view t; binding = u; owner = s.owner.now; level_at = level_view s }) 0 a.expr) bind
      ∙ ap (λ u. close_list (record { grammar = rules_view t; binding = b; owner = u; level_at = level_view s }) 0 a.expr) own
      ∙ close_list_alike finds t.features.now (grammar_view t.grammar.now) b r.name (level_view s)
      (allowed_level r rank (occurrences_in b r.name (syms a.expr))) level_same 0 a.expr

-- what is one list is each of these lists, where they are the same
pub for_each : {E : Type 0} (r : Result (List ClosedSymbol) E) (P : List Closed) (Q : (Text → Text → Option Bool) → List Closed)
    → ((f : Text → Text → Option Bool) → P ≡ Q f) → IfOk r (λ side. map closed_view side ≡ P)
    → IfOk r (λ side. (f : Text → Text → Option Bool) → map closed_view side ≡ Q f)
for_each (Ok side) P Q same is = λ f. is ∙ same f
for_each (Err e) P Q same is = is
